pub mod ChainSums
pub mod Chains
pub mod Members
pub mod Order
pub mod Rings
pub mod Rows
pub mod Trees
