-- Amounts added to a table one after another, each at the place of its key.
use Rattle.std.proofs.Common.{◌≡◌, ℕ, ◌+◌, ◌<◌, ◌==◌, List, length, get_or, set, take, sum_by, cond, ap, sym, refl, ◌∙◌, arith, inl, inr}
use Rattle.std.proofs.lemmas.Bool.{cases_eq, eq-eqb, ne_eqb}
use Rattle.std.proofs.lemmas.Grind.{get_or-set_at}
use Rattle.std.proofs.lemmas.List.{get_or-set_other}
use Rattle.std.proofs.lemmas.List.Sums.{sum_by_more, sum_by_more_le}

module _ {X : Type 0} (key amount : X → ℕ) where
  -- the amounts at a place
  abbrev pub sum_at : List X → ℕ → ℕ
  sum_at xs a = sum_by (λ x. cond (key x == a) (amount x) 0) xs

  module _ (xs : List X) (i k n : ℕ) (d : X) (l : i < length xs) (e : k ≡ key (get_or xs i d)) (u : n ≡ amount (get_or xs i d)) where
    here : (a : ℕ) → k ≡ a → cond (key (get_or xs i d) == a) (amount (get_or xs i d)) 0 ≡ n
    here a same = ap (λ b. cond b (amount (get_or xs i d)) 0) (eq-eqb (key (get_or xs i d)) a (sym e ∙ same)) ∙ sym u

    elsewhere : (a : ℕ) → (k ≡ a → ⊥) → cond (key (get_or xs i d) == a) (amount (get_or xs i d)) 0 ≡ 0
    elsewhere a other = ap (λ b. cond b (amount (get_or xs i d)) 0) (ne_eqb (key (get_or xs i d)) a (λ z. other (e ∙ z)))

    -- one more fits where all do
    pub fits : (start bound : ℕ) → start + sum_at xs k < bound → start + sum_at (take i xs) k + n < bound
    fits start bound room =
        let part = sum_by_more_le (λ x. cond (key x == k) (amount x) 0) xs i d l in
        omega (arith, part, here k refl, room)

    -- one more, written into the table
    pub added : (table : List ℕ) (a start : ℕ) → a < length table → get_or table a 0 ≡ start + sum_at (take i xs) a
        → get_or (set table k (get_or table k 0 + n)) a 0 ≡ start + sum_at (take (i + 1) xs) a
    added table a start m h =
        let more = sum_by_more (λ x. cond (key x == a) (amount x) 0) xs i d l in
        elim (cases_eq k a) [
          | inl same ↦
              let at : get_or (set table k (get_or table k 0 + n)) a 0 ≡ get_or table k 0 + n = get_or-set_at table k a (get_or table k 0 + n) 0 (sym same) (omega (arith, m, same)) in
              let read : get_or table k 0 ≡ get_or table a 0 = ap (λ j. get_or table j 0) same in
              omega (arith, at, read, h, more, here a same)
          | inr other ↦
              let at : get_or (set table k (get_or table k 0 + n)) a 0 ≡ get_or table a 0 = get_or-set_other table k a (get_or table k 0 + n) 0 (λ z. other (sym z)) in
              omega (arith, at, h, more, elsewhere a other)
        ]
