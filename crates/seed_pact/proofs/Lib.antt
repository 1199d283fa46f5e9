mod EntryFacts
mod Joins
pub mod Kept
mod Orders
mod Permuted
pub mod ReadOnce
mod RecordFacts
