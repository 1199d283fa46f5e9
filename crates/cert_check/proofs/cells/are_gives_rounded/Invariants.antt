use Rattle.std.proofs.Common.{◌≡◌, ◌≤◌, take, count_by, All, true}
use Rattle.definitions.specs.Sets.{units_of}
use Rattle.cert_check.specs.PieceFaults.{is_rounded, is_whole}
use Rattle.cert_check.proofs.Canonical.{give_cell}
use Rattle.cert_check.proofs.cells.are_gives_rounded.Given as goal

abbrev pub invariant-loop-give : goal.invariant-loop-give
invariant-loop-give l = record {
  rounded : All (λ g. is_rounded (units_of l.x (give_cell g)) l.x.denominator g.count ≡ true) (take l.give-index l.gives);
  whole : l.found ≡ count_by (λ g. is_whole l.x (give_cell g)) (take l.give-index l.gives);
  few : l.found ≤ l.give-index;
}
