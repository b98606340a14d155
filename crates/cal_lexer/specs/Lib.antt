pub mod Lexeme
pub mod Words
pub mod Lexis
pub mod Lexes
pub mod Pieces
pub mod NetLexes
pub mod NetPieces
