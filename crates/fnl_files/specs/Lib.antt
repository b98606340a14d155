pub mod Requests
pub mod Loading
pub mod Views
pub mod Laws
pub mod SoFar
