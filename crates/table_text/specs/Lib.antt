pub mod Limits
pub mod Reading
pub mod Records
pub mod Rows
pub mod Laws
pub mod Shares
