mod CopiesLemmas
mod Decomposed
pub mod DecomposeFreeLemmas
pub mod DecomposeLemmas
mod Filled
mod FreedLemmas
pub mod GenerateLemmas
mod Loop
pub mod ReadsBackLemmas
mod SmallRecipe
pub mod SolutionsLemmas
pub mod SolveGuardedLemmas
pub mod SolveLemmas
pub mod SolvesWellLemmas
mod Solving
pub mod Splitting
mod WritingLemmas
