-- Steps of the loops over sets.
use Rattle.std.proofs.Common.{◌≡◌, ℕ, ◌+◌, ◌-◌, ◌*◌, ◌<◌, ◌≤◌, List, [], ◌∷◌, ◌++◌, Option, Some, None, map, length, get_or, set, refl, ap, sym, ◌∙◌, ◌⊎◌, inl, inr, arith}
use Rattle.std.specs.Prelude.{min, fold, slice_index}
use Rattle.std.specs.List.{range_with_len}
use Rattle.std.proofs.lemmas.Bool.{cases_order}
use Rattle.std.proofs.lemmas.List.{length-set, get_or-set_same, get_or-set_other}
use Rattle.std.proofs.lemmas.List.FromFn.{map-range_with_len_more}
use Rattle.std.proofs.lemmas.Option.{same_Some}
use Rattle.definitions.specs.Trees.{TreesValue, parent_at, chain_of}
use Rattle.side_laws.specs.Sums.{least_over}
use Rattle.side_laws.proofs.Trees.{chain_none}
use Rattle.price_cert.specs.Ranks.{AreRanksFound, IsClimbable, rank_in, rank_at, price_in}

-- one more of a list by number
pub pushed : {X : Type 0} (f : ℕ → X) (n : ℕ) (xs new : List X) (v : X) → new ≡ xs ++ v ∷ [] → xs ≡ map f (range_with_len 1 n) → v ≡ f (n + 1) → new ≡ map f (range_with_len 1 (n + 1))
pushed f n xs new v e h g =
    e ∙ ap (λ ys. ys ++ v ∷ []) h ∙ ap (λ y. map f (range_with_len 1 n) ++ y ∷ []) g ∙ sym (map-range_with_len_more f 1 n (n + 1) (omega arith))

-- the price of the next set
pub price_next : (width top : ℕ) (ranks : List ℕ) (t : TreesValue) (n : ℕ) (o : Option ℕ) (above own price : ℕ) → o ≡ parent_at t (n + 1) → above ≡ rank_at ranks top o → own ≡ slice_index ranks n
    → price ≡ width * (above - own) → price ≡ price_in width ranks top t (n + 1)
price_next width top ranks t n o above own price e f g h =
    let place : n ≡ n + 1 - 1 = omega arith in
    h ∙ ap (λ a. width * (a - own)) (f ∙ ap (rank_at ranks top) e) ∙ ap (λ b. width * (rank_at ranks top (parent_at t (n + 1)) - b)) (g ∙ ap (slice_index ranks) place)

-- the least from a smaller start
pub least_min : (v : ℕ → ℕ) (most x : ℕ) (xs : List ℕ) → least_over (min most x) v xs ≡ min (least_over most v xs) x
least_min v most x [] = refl
least_min v most x (y ∷ ys) = (let turn : min (min most x) (v y) ≡ min (min most (v y)) x = omega arith in ap (λ m. least_over m v ys) turn) ∙ least_min v (min most (v y)) x ys

-- no set has the rank `top`
pub rank_of_none : (numbers : List ℕ) (top : ℕ) (t : TreesValue) → rank_in numbers top t None ≡ top
rank_of_none numbers top t = ap (λ (xs : List ℕ). fold (λ (a s : ℕ). min a (slice_index numbers (s - 1))) top xs) (chain_none t)

module _ (numbers : List ℕ) (top : ℕ) (t : TreesValue) (n : ℕ) (c : IsClimbable t n) where
  -- the rank of a set is its number, or that of its parent if it is less
  pub rank_step : (s : ℕ) → 0 < s → s ≤ n → rank_in numbers top t (Some s) ≡ min (rank_in numbers top t (parent_at t s)) (slice_index numbers (s - 1))
  rank_step s low high = ap (λ (xs : List ℕ). fold (λ (a s : ℕ). min a (slice_index numbers (s - 1))) top xs) (c.steps s low high)
      ∙ least_min (λ u. slice_index numbers (u - 1)) top (slice_index numbers (s - 1)) (chain_of t (parent_at t s))

  -- the way up from a parent is shorter
  pub climb_shorter : (s : ℕ) → 0 < s → s ≤ n → length (chain_of t (parent_at t s)) < length (chain_of t (Some s))
  climb_shorter s low high = (let e = ap length (c.steps s low high) in omega (arith, e))

  -- what is made of the rank of the parent and the set's own number
  pub rank_made : (o : Option ℕ) (s above own rank : ℕ) → o ≡ Some s → 0 < s → s ≤ n → above ≡ rank_in numbers top t (parent_at t s) → own ≡ slice_index numbers (s - 1)
      → rank ≡ min above own → rank ≡ rank_in numbers top t o
  rank_made o s above own rank is low high e f g = g ∙ ap (λ a. min a own) e ∙ ap (λ b. min (rank_in numbers top t (parent_at t s)) b) f
      ∙ sym (rank_step s low high) ∙ ap (λ q. rank_in numbers top t q) (sym is)

  -- one rank more
  pub rank_found : (found : List (Option ℕ)) (k rank : ℕ) → AreRanksFound numbers top t found → k < length numbers
      → rank ≡ rank_in numbers top t (Some (k + 1)) → AreRanksFound numbers top t (set found k (Some rank))
  rank_found found k rank f l is = record {
    many = length-set found k (Some rank) ∙ f.many;
    right = λ j other e. elim (cases_order j k) [
      | inl same ↦ (let own : Some rank ≡ Some other = sym (get_or-set_same found k (Some rank) None (omega (arith, f.many, l))) ∙ ap (λ i. get_or (set found k (Some rank)) i None) (sym same) ∙ e in
          sym (same_Some rank other own) ∙ is ∙ ap (λ i. rank_in numbers top t (Some (i + 1))) (sym same))
      | inr apart ↦ f.right j other (sym (get_or-set_other found k j (Some rank) None (λ q. apart_from apart q)) ∙ e)
    ];
  }
    where
      apart_from : {j : ℕ} → (j < k) ⊎ (k < j) → j ≡ k → ⊥
      apart_from (inl less) q = omega arith
      apart_from (inr more) q = omega arith
