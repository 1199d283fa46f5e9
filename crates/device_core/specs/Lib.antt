pub mod Continuing
pub mod Counts
pub mod Held
pub mod Memory
pub mod Stream
pub mod Sure
pub mod Told
