mod NameLists
mod Loops
mod Steps
mod Declarations
mod StmtTrees
mod Statements
mod Tags
