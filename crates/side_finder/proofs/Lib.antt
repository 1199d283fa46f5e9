pub mod Applying
mod Climbing
mod Crossing
pub mod Finding
mod Growing
mod Marking
mod Parts
mod RingLists
mod Rings
mod Words
