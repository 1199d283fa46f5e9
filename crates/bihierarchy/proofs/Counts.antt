-- Whether two rising lists cross, from how many cells they share.
use Rattle.std.proofs.Common.{◌≡◌, ℕ, ◌<◌, ◌≤◌, ◌∙◌, ◌&&◌, List, Bool, true, false, length, sym, ap, arith}
use Rattle.std.specs.Prelude.{nat_lt}
use Rattle.std.proofs.lemmas.Bool.{lt-ltb, le-ltb}
use Rattle.definitions.specs.declared.Cell.{Cell}
use Rattle.definitions.specs.Sets.{IsRising, crosses}
use Rattle.definitions.proofs.Members.{crosses_by_count, rising_distinct}
use Rattle.bihierarchy.proofs.Merges.{shared}

module _ (a b : List Cell) (ra : IsRising a) (rb : IsRising b) (n : ℕ) (counted : n ≡ shared a b) where
  by_count : crosses a b ≡ (nat_lt 0 n && (nat_lt n (length a) && nat_lt n (length b)))
  by_count = crosses_by_count a b (rising_distinct a ra) (rising_distinct b rb) ∙ ap (λ (m : ℕ). nat_lt 0 m && (nat_lt m (length a) && nat_lt m (length b))) (sym counted)

  first_test : (t : Bool) → nat_lt 0 n ≡ t → crosses a b ≡ (t && (nat_lt n (length a) && nat_lt n (length b)))
  first_test t e = by_count ∙ ap (λ (v : Bool). v && (nat_lt n (length a) && nat_lt n (length b))) e

  second_test : (t : Bool) → 0 < n → nat_lt n (length a) ≡ t → crosses a b ≡ (t && nat_lt n (length b))
  second_test t some e = first_test true (lt-ltb 0 n some) ∙ ap (λ (v : Bool). v && nat_lt n (length b)) e

  -- nothing is shared
  pub crosses_none : n ≡ 0 → false ≡ crosses a b
  crosses_none e = sym (first_test false (le-ltb 0 n (omega (arith, e))))

  -- the first lies within the second
  pub crosses_within : 0 < n → length a ≤ n → false ≡ crosses a b
  crosses_within some all = sym (second_test false some (le-ltb n (length a) all))

  -- the first does not
  pub crosses_without : 0 < n → n < length a → nat_lt n (length b) ≡ crosses a b
  crosses_without some less = sym (second_test true some (lt-ltb n (length a) less))
