mod Each
mod OutputSteps
mod InsideSteps
mod ActionSteps
