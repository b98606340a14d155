pub mod Chains
pub mod Leaves
