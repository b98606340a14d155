mod Putting
pub mod Chains
