pub mod Above
pub mod Counts
pub mod Entering
pub mod Least
pub mod Made
pub mod Merges
pub mod Numbers
pub mod ParentTable
