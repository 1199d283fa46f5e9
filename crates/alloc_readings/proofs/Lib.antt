pub mod EatenLemmas
pub mod FamilyLemmas
pub mod GuardedLemmas
pub mod LotteryLemmas
pub mod ProblemLemmas
pub mod QuotasLemmas
pub mod SharesLemmas
pub mod TreesLemmas
