mod CountFacts
mod CutFacts
mod DigitFacts
pub mod EveryText
pub mod KnownNames
mod MarkFacts
mod NameFacts
mod ReadFacts
mod OneRead
pub mod RoundTrips
mod RowFacts
mod ShareFacts
mod SignedFacts
pub mod TextFacts
mod WritingFacts
