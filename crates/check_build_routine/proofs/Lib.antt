pub mod Judged
mod LocalSteps
mod UntypedSteps
mod FormalSteps
mod Functions
