mod ColumnsLemmas
mod MembersLemmas
mod UnitsLemmas
mod WeightsLemmas
