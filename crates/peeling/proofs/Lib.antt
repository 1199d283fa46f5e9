mod Collected
pub mod Given
mod Gives
mod Steps
