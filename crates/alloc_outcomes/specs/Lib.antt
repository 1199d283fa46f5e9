pub mod Answers
pub mod Causes
pub mod Checks
pub mod Meanings
pub mod Steps
pub mod Sentences
pub use Rattle.table_text.specs.Limits
