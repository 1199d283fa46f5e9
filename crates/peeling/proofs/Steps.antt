-- A piece that is taken off with the greatest weight is a step.
use Rattle.std.proofs.Common.{refl, ◌≡◌, ℕ, ◌+◌, ◌*◌, ◌<◌, ◌≤◌, List, length, Some, None, Bool, false, inl, inr, arith, ap, ◌∙◌, subst}
use Rattle.std.specs.Prelude.{slice_index, ◌==◌, if◌then◌else◌}
use Rattle.std.proofs.lemmas.Bool.{cases_lt, ne_eqb}
use Rattle.definitions.specs.declared.Cell.{Cell}
use Rattle.definitions.specs.Rounding.{Rounds}
use Rattle.definitions.specs.Peelings.{PeelerValue, IsStep}
use Rattle.rounding_laws.specs.Remainders.{AllAllow, IsGreatestTake, IsTight}
use Rattle.rounding_laws.proofs.Taken.{greatest_of_tight}
use Rattle.rounding_laws.proofs.Remainder.{remainder_rounds_whole}
use Rattle.rounding_laws.proofs.Falls.{count_falls}
use Rattle.bounded_flow.specs.Nets.{NetValue, IsNet, net_sets}
use Rattle.peeling.specs.Views.{peeler_of}

-- a weight is the greatest one where it is all that is left, and where a cell or set is tight
greatest : (columns d w : ℕ) (sets : List (List Cell)) (y m : List ℕ) → 1 ≤ w → w ≤ d → Rounds columns sets y d m → (w < d → IsTight columns sets y d m w)
    → (v : ℕ) → v ≤ d → AllAllow columns sets y d m v → v ≤ w
greatest columns d w sets y m one most rounds tight v h all = elim (cases_lt w d) [
  | inl less ↦ greatest_of_tight columns d w sets y m (omega (arith, one, most)) rounds (tight less) v h all
  | inr whole ↦ omega (arith, h, whole)
]

-- the piece that is shown after some weight was given
shown : (given w : ℕ) (m : List ℕ) → 1 ≤ w → (if given + w == 0 then None else Some m) ≡ Some m
shown given w m one = let some : (given + w == 0) ≡ false = ne_eqb (given + w) 0 (λ e. omega (arith, e, one)) in ap (λ (b : Bool). if b then None else Some m) some

-- from a net whose whole matrix rounds what is left to the net after it was taken with the greatest weight is a step
pub taken_step : (round end : NetValue) (given w : ℕ) → Rounds round.columns (net_sets round) round.rest round.left round.whole → 1 ≤ w → w ≤ round.left
    → AllAllow round.columns (net_sets round) round.rest round.left round.whole w → (w < round.left → IsTight round.columns (net_sets round) round.rest round.left round.whole w)
    → end.left + w ≡ round.left → ((i : ℕ) → i < length round.rest → slice_index end.rest i + w * slice_index round.whole i ≡ slice_index round.rest i)
    → length end.rest ≡ length round.rest → end ≡ record round { rest = end.rest; left = end.left } → IsNet end
    → IsStep (peeler_of round given) (peeler_of end (given + w)) w round.whole
taken_step round end given w rounds one most fits tight left rest shape stays lawful =
    let take : IsGreatestTake round.columns (net_sets round) round.rest round.left round.whole w end.rest end.left = record {
      rounds = rounds;
      shape = shape;
      left = left;
      rest = rest;
      allowed = fits;
      greatest = greatest round.columns round.left w (net_sets round) round.rest round.whole one most rounds tight;
    } in
    record {
      same = (ap (λ (n : NetValue). n.sets) stays, ap (λ (n : NetValue). n.agents) stays, ap (λ (n : NetValue). n.columns) stays, shape);
      piece = shown given w end.whole one ∙ ap (λ (n : NetValue). Some n.whole) stays;
      weight = one;
      left = left;
      given = refl;
      rounds = rounds;
      rest = rest;
      bounded = lawful.rest_limit;
      ahead = λ some m next. remainder_rounds_whole round.columns round.left w end.left (net_sets round) round.rest round.whole end.rest m take some next;
      fewer = λ some. count_falls round.columns round.left w end.left (net_sets round) round.rest round.whole end.rest take some;
    }

-- a step doesn't ask which whole matrix there was before
pub round_step : (start round : NetValue) (given w : ℕ) (new : PeelerValue) (m : List ℕ) → round ≡ record start { whole = round.whole }
    → IsStep (peeler_of round given) new w m → IsStep (peeler_of start given) new w m
round_step start round given w new m stays step =
    let s : IsStep (peeler_of (record start { whole = round.whole }) given) new w m = subst (λ (n : NetValue). IsStep (peeler_of n given) new w m) stays step in
    record {
      same = s.same;
      piece = s.piece;
      weight = s.weight;
      left = s.left;
      given = s.given;
      rounds = s.rounds;
      rest = s.rest;
      bounded = s.bounded;
      ahead = s.ahead;
      fewer = s.fewer;
    }
