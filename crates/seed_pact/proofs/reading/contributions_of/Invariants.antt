use Rattle.std.proofs.Common.{◌≡◌, [], map, take, drop, unwrap_or}
use Rattle.std.specs.Prelude.{is_some}
use Rattle.std.specs.List.{list_all}
use Rattle.seed_pact.specs.Said.{entry_of}
use Rattle.seed_pact.proofs.reading.contributions_of.Given as goal

abbrev pub invariant-loop-place : goal.invariant-loop-place
invariant-loop-place l =
    (l.contributions.items ≡ map (λ name. unwrap_or (entry_of l.state.reveals name) []) (take l.place l.state.commits.names))
    × (list_all (λ name. is_some (entry_of l.state.reveals name)) l.state.commits.names ≡ list_all (λ name. is_some (entry_of l.state.reveals name)) (drop l.place l.state.commits.names))
