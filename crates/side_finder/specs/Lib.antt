pub mod Answers
pub mod Applied
pub mod Blocks
pub mod Graphs
pub mod Marks
pub mod Ways
