-- Edges whose whole units are taken off: they carry a flow as before.
use Rattle.std.proofs.Common.{◌≡◌, ℕ, ◌+◌, ◌<◌, List, length, map, get_or, refl, sym, ap, ◌∙◌, arith, All, Bool, true, false, cond, eqb, below_more}
use Rattle.std.specs.Prelude.{sum_by}
use Rattle.std.proofs.Math.ListN.{set}
use Rattle.std.proofs.Math.Seq.{map-set_same}
use Rattle.std.proofs.lemmas.List.{get_or-set_other, get_or-set_same}
use Rattle.std.proofs.lemmas.List.Elements.{All-set, recursion_from_All}
use Rattle.definitions.proofs.Sums.{sum_same_all, sum_zero}
use Rattle.bounded_flow.specs.declared.edge.Edge.{Edge}
use Rattle.bounded_flow.specs.Edges.{IsSound, rest_of, wire}
use Rattle.bounded_flow.specs.Flows.{IsFlow}
use Rattle.bounded_flow.proofs.Balances.{inside_same, balanced_same}

-- the first so many edges are reset
pub record Reset (left : ℕ) (old now : List Edge) (at : ℕ) : Type 0 where
  pub sound : All (IsSound left) now
  pub rests : map (rest_of left) now ≡ map (rest_of left) old
  pub wires : map wire now ≡ map wire old
  pub whole : (k : ℕ) (d : Edge) → k < at → (get_or now k d).whole ≡ 0

-- one more is
pub reset_more : (left : ℕ) (old now : List Edge) (at : ℕ) (d e : Edge) → Reset left old now at → at < length now → IsSound left e → rest_of left e ≡ rest_of left (get_or now at d) → wire e ≡ wire (get_or now at d) → e.whole ≡ 0 → Reset left old (set now at e) (at + 1)
reset_more left old now at d e was inside sound rest ends whole = record {
  sound = All-set (IsSound left) now at e sound was.sound;
  rests = map-set_same (rest_of left) now at e d rest ∙ was.rests;
  wires = map-set_same wire now at e d ends ∙ was.wires;
  whole = λ k f h. below_more (λ j. (get_or (set now at e) j f).whole ≡ 0) at
      (λ j low. ap (λ (x : Edge). x.whole) (get_or-set_other now at j e f (λ same. omega (arith, same, low))) ∙ was.whole j f low)
      (ap (λ (x : Edge). x.whole) (get_or-set_same now at e f inside) ∙ whole) k h;
}

-- where nothing is carried, all is in balance
none_carried : (end : Edge → ℕ) (v : ℕ) (edges : List Edge) → All (λ e. e.whole ≡ 0) edges → sum_by (λ e. cond (eqb (end e) v) e.whole 0) edges ≡ 0
none_carried end v edges none =
    sum_same_all (λ (e : Edge). e.whole ≡ 0) (λ e. cond (eqb (end e) v) e.whole 0) (λ e. 0) edges (λ e is. ap (λ m. cond (eqb (end e) v) m 0) is ∙ nothing_at (eqb (end e) v)) (recursion_from_All (λ (e : Edge). e.whole ≡ 0) edges none)
    ∙ sum_zero edges
  where
    nothing_at : (b : Bool) → cond {A = ℕ} b 0 0 ≡ 0
    nothing_at true = refl
    nothing_at false = refl

-- edges that are reset carry a flow
pub reset_flow : (left n : ℕ) (old new : List Edge) → IsFlow left n old → All (IsSound left) new → map (rest_of left) new ≡ map (rest_of left) old → map wire new ≡ map wire old → All (λ e. e.whole ≡ 0) new → IsFlow left n new
reset_flow left n old new flow sound rests wires whole = record {
  inside = inside_same n new old wires flow.inside;
  sound = sound;
  whole = λ v h. none_carried (λ e. e.tail) v new whole ∙ sym (none_carried (λ e. e.head) v new whole);
  rests = balanced_same (rest_of left) n new old wires rests flow.rests;
}
