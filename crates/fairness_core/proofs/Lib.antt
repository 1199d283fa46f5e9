pub mod Capped
pub mod Columns
pub mod Entries
pub mod Points
pub mod Prefixes
pub mod Stated
