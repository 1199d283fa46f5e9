-- The parts are lemmas.
use Rattle.alloc_report.proofs.ColumnsLemmas.{columns_named}
use Rattle.alloc_report.proofs.laws.expected_of_columns.Goals as goal

pub returns : goal.returns
returns c l apart = columns_named l apart
