mod CompleteLemmas
mod FinishLemmas
mod HeadlineLemmas
mod LoadLemmas
mod OutcomesLemmas
mod PartsLemmas
mod TopLemmas
mod WordsLemmas
