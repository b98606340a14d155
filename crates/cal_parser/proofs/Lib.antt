mod AloneAnswers
mod FileAnswers
mod ImportPaths
