pub mod DrawLemmas
pub mod PactCommitLemmas
pub mod PactDrawLemmas
pub mod PickLemmas
mod PickedLemmas
pub mod ReportLemmas
