pub mod Keeping
pub mod Closed
pub mod Laws
pub mod Behaving
pub mod WholeActor
pub mod AsWritten
