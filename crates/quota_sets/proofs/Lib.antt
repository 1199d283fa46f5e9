mod ByBytes
mod FamilyLemmas
mod NameLemmas
mod ProblemLemmas
mod RowLemmas
pub mod RunLemmas
mod SumLemmas
mod TestLemmas
