pub mod Capped
pub mod Cells
mod Computed
pub mod Families
pub mod FirstFaults
pub mod Gives
pub mod Listed
pub mod Lists
pub mod Members
mod MixedShares
pub mod Passed
pub mod Problems
pub mod Ranges
pub mod Sums
pub mod Tickets
