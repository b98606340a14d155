pub mod Net
pub mod States
pub mod Opening
pub mod Closing
pub mod Elements
pub mod Views
pub mod Network
pub mod Stepped
