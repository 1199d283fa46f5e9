-- Both parts are lemmas.
use Rattle.definitions.specs.Certificate.{distinct_moments}
use Rattle.eating_laws.proofs.Bound.{table_bound, partial_bound}
use Rattle.eating_laws.proofs.Moments.{moment_listed}
use Rattle.eating_laws.proofs.denominator_laws.bound_on_denominators.Goals as goal

pub returns : goal.returns
returns c market D e eaters lowest = record {
  whole = λ table. table_bound market D e (distinct_moments e D) table lowest eaters (moment_listed D e);
  partial = λ m moments h known. partial_bound market D m e moments h lowest eaters known;
}
