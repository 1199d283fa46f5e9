pub mod Continuing
pub mod Counting
pub mod Fronts
