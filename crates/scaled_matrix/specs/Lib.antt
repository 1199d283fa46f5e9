pub mod Entries
pub mod Scaling
