mod RowsLemmas
pub mod SetsLemmas
pub mod SidesLemmas
pub mod TableLemmas
