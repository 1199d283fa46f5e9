pub mod AnswersLemmas
pub mod MeaningsLemmas
pub mod SentencesLemmas
pub mod StepsLemmas
