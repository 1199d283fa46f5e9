-- The moments before the end in order, each once.
use Rattle.std.proofs.Common.{◌≡◌, ◌++◌, ◌∙◌, length, ap, sym, subst, arith, length-append, List, ℕ}
use Rattle.std.specs.Prelude.{filter, nat_lt, Contains}
use Rattle.std.proofs.lemmas.List.{take_all}
use Rattle.std.proofs.lemmas.List.Filters.{dedup_is}
use Rattle.std.proofs.lemmas.List.Kept.{Contains-dedup_nat, Contains-from_dedup}
use Rattle.std.proofs.lemmas.List.Sorted.{Contains-permutation, IsPermutation-sym}
use Rattle.std.proofs.lemmas.List.Sums.{length-filter, count_by-le-length}
use Rattle.std.proofs.lemmas.Map.Keys.{IsStrictlyIncreasing-dedup}
use Rattle.price_cert.proofs.moments.moments_before.Goals as goal

pub returns : goal.returns
returns c =
    let moments = c.args.moments.now in
    let caps = c.args.caps.now in
    let early = λ (m : ℕ). nat_lt m c.args.end in
    let whole : c.loop-cap.found.items ≡ filter (λ m. nat_lt m c.args.end) moments ++ filter (λ m. nat_lt m c.args.end) caps =
    c.loop-cap.invariant ∙ ap (λ xs. filter (λ m. nat_lt m c.args.end) moments ++ filter (λ m. nat_lt m c.args.end) xs) (take_all c.loop-cap.cap-index caps c.loop-cap-test.false) in
    let is = dedup_is _ _ _ c.dedup.ensures.filtered in
    let moved = c.sort_unstable.ensures.permutation in
    record {
      rise = rw is (IsStrictlyIncreasing-dedup _ c.sort_unstable.ensures.sorted);
      each = λ v. (
        λ h. subst (λ (xs : List ℕ). Contains xs v) whole (Contains-permutation _ _ v (IsPermutation-sym _ _ moved) (Contains-from_dedup _ _ v (rw is at h))),
        λ h. rw is (Contains-dedup_nat _ v (Contains-permutation _ _ v moved (subst (λ (xs : List ℕ). Contains xs v) (sym whole) h))),
      );
      few = omega (
        arith,
        c.dedup.ensures.bound,
        c.sort_unstable.ensures.len,
        ap length whole,
        length-append (filter (λ m. nat_lt m c.args.end) moments) (filter (λ m. nat_lt m c.args.end) caps),
        length-filter (λ m. nat_lt m c.args.end) moments,
        length-filter (λ m. nat_lt m c.args.end) caps,
        count_by-le-length (λ m. nat_lt m c.args.end) moments,
        count_by-le-length (λ m. nat_lt m c.args.end) caps,
      );
    }
