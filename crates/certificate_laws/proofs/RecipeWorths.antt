-- The recipe's worths by the places of the lists of a lawful problem.
use Rattle.std.proofs.Common.{◌≡◌, ℕ, zero, suc, ◌+◌, ◌-◌, ◌*◌, ◌<◌, ◌≤◌, ◌⊎◌, List, [], ◌∷◌, Bool, true, false, cond, length, map, get_or, ℤ, pos, ◌+ℤ◌, ◌-ℤ◌, refl, sym, ap, subst, ◌∙◌, inl, inr, arith}
use Rattle.std.specs.Prelude.{nat_eq, nat_lt, sum_by, filter, slice_index}
use Rattle.std.specs.List.{AllByRecursion, range_with_len, list_all}
use Rattle.std.specs.Set.{is_member, unique_keys}
use Rattle.std.proofs.lemmas.Bool.{cases_lt, lt-ltb, le-ltb, and_parts, and_from}
use Rattle.std.proofs.lemmas.Int.{ints}
use Rattle.std.proofs.lemmas.Nat.{mul-le}
use Rattle.std.proofs.lemmas.Option.{unwrap_or-slice_get}
use Rattle.std.proofs.lemmas.List.{get_or-map, length-map, ext_get_or}
use Rattle.std.proofs.lemmas.List.Elements.{All-from_get_or, recursion_from_All}
use Rattle.std.proofs.lemmas.List.FromFn.{length-map-range_with_len, get_or-map-range_with_len}
use Rattle.definitions.specs.Sets.{cell_of}
use Rattle.definitions.specs.Values.{ProblemValue, IsProblem, PricesValue, list_at, demand_at, market_of, worths_of}
use Rattle.definitions.specs.Eating.{share, IsEatingTable}
use Rattle.definitions.specs.Certificate.{ListPlace, distinct_moments, moment_number, recipe_width, recipe_worths, place_of_list, worth_at}
use Rattle.definitions.proofs.Members.{every_by_count}
use Rattle.definitions.proofs.Sums.{sum_same_all, sum_zero}
use Rattle.definitions.proofs.Listed.{row_on_list}
use Rattle.eating_laws.proofs.Assignment.{share_of, shares_assign}
use Rattle.certificate_laws.specs.Recipe.{no_number, share_of_place, number_of_place, IsNextEaten, AreWorthsOfList, AreWorthsByPlace, HasEatenPlace}
use Rattle.certificate_laws.proofs.Along.{at, worth_of, along_many, eaten_worth, ahead_worth, past_worth}

early_keys : (d : ℕ) (xs : List ℕ) → list_all (λ m. nat_lt m d) xs ≡ true → list_all (λ m. nat_lt m d) (unique_keys nat_eq xs) ≡ true
early_keys d [] e = refl
early_keys d (x ∷ xs) e = let parts = and_parts (nat_lt x d) (list_all (λ m. nat_lt m d) xs) e in kept (is_member nat_eq xs x) parts.0 (early_keys d xs parts.1)
  where
    kept : (b : Bool) → nat_lt x d ≡ true → list_all (λ m. nat_lt m d) (unique_keys nat_eq xs) ≡ true
        → list_all (λ m. nat_lt m d) (cond b (unique_keys nat_eq xs) (x ∷ unique_keys nat_eq xs)) ≡ true
    kept true first rest = rest
    kept false first rest = and_from (nat_lt x d) (list_all (λ m. nat_lt m d) (unique_keys nat_eq xs)) first rest

early_filter : (d : ℕ) (xs : List ℕ) → list_all (λ m. nat_lt m d) (filter (λ m. nat_lt m d) xs) ≡ true
early_filter d [] = refl
early_filter d (x ∷ xs) = kept (nat_lt x d) refl (early_filter d xs)
  where
    kept : (b : Bool) → nat_lt x d ≡ b → list_all (λ m. nat_lt m d) (filter (λ m. nat_lt m d) xs) ≡ true
        → list_all (λ m. nat_lt m d) (cond b (x ∷ filter (λ m. nat_lt m d) xs) (filter (λ m. nat_lt m d) xs)) ≡ true
    kept true e rest = and_from (nat_lt x d) (list_all (λ m. nat_lt m d) (filter (λ m. nat_lt m d) xs)) e rest
    kept false e rest = rest

-- the end has the number after those of all moments before it
pub end_number : (d : ℕ) (e : List ℕ) → moment_number e d d ≡ no_number d e
end_number d e =
    let all = every_by_count (λ m. nat_lt m d) (distinct_moments e d) (early_keys d (filter (λ m. nat_lt m d) e) (early_filter d e)) in
    omega (arith, all)

-- of n numbers from k on, the first that isn't 0, or all are
first_from : (f : ℕ → ℕ) (n k : ℕ) → ((j : ℕ) × (k ≤ j) × (j < k + n) × (0 < f j) × ((l : ℕ) → k ≤ l → l < j → f l ≡ 0)) ⊎ ((l : ℕ) → k ≤ l → l < k + n → f l ≡ 0)
first_from f zero k = inr (λ l a b. absurd (omega arith))
first_from f (suc n) k = elim (cases_lt 0 (f k)) [
  | inl some ↦ inl (k, omega arith, omega arith, some, λ l a b. absurd (omega arith))
  | inr none ↦ later (omega (arith, none)) (first_from f n (k + 1))
]
  where
    here : (l : ℕ) → (l < k + 1) ⊎ (k + 1 ≤ l) → k ≤ l → f k ≡ 0 → (k + 1 ≤ l → f l ≡ 0) → f l ≡ 0
    here l (inl less) low none rest = (let same : k ≡ l = omega arith in sym (ap f same) ∙ none)
    here l (inr more) low none rest = rest more

    later : f k ≡ 0 → ((j : ℕ) × (k + 1 ≤ j) × (j < k + 1 + n) × (0 < f j) × ((l : ℕ) → k + 1 ≤ l → l < j → f l ≡ 0)) ⊎ ((l : ℕ) → k + 1 ≤ l → l < k + 1 + n → f l ≡ 0)
        → ((j : ℕ) × (k ≤ j) × (j < k + suc n) × (0 < f j) × ((l : ℕ) → k ≤ l → l < j → f l ≡ 0)) ⊎ ((l : ℕ) → k ≤ l → l < k + suc n → f l ≡ 0)
    later none (inl (j, a, b, some, first)) = inl (j, omega arith, omega arith, some, λ l m n. here l (cases_lt l (k + 1)) m none (λ o. first l o n))
    later none (inr rest) = inr (λ l m n. here l (cases_lt l (k + 1)) m none (λ o. rest l o (omega arith)))

module _ (p : ProblemValue) (d : ℕ) (e : List ℕ) where
  -- the places of an agent's list
  abbrev places : ℕ → List ListPlace
  places i = map (place_of_list p d e i) (list_at p i)

  place_is : (i k : ℕ) → k < length (list_at p i) → at (places i) k ≡ place_of_list p d e i (slice_index (list_at p i) k)
  place_is i k l = get_or-map (place_of_list p d e i) (list_at p i) k 0 (record { eaten = false; level = 0 }) l

  places_many : (i : ℕ) → length (places i) ≡ length (list_at p i)
  places_many i = length-map (list_at p i) (place_of_list p d e i)

  is_eaten : (i k : ℕ) → k < length (list_at p i) → 0 < share_of_place p d e i k → (at (places i) k).eaten ≡ true
  is_eaten i k l some = ap (λ (b : ListPlace). b.eaten) (place_is i k l) ∙ lt-ltb 0 (share_of_place p d e i k) some

  not_eaten : (i k : ℕ) → k < length (list_at p i) → share_of_place p d e i k ≡ 0 → (at (places i) k).eaten ≡ false
  not_eaten i k l none = ap (λ (b : ListPlace). b.eaten) (place_is i k l) ∙ le-ltb 0 (share_of_place p d e i k) (omega (arith, none))

  level_is : (i k : ℕ) → k < length (list_at p i) → (at (places i) k).level ≡ recipe_width p * (no_number d e - number_of_place p d e i k)
  level_is i k l = ap (λ (b : ListPlace). b.level) (place_is i k l) ∙ ap (λ n. recipe_width p * (n - number_of_place p d e i k)) (end_number d e)

  -- worths that are the recipe's are so at each place
  pub worths_are : (y : PricesValue) (i : ℕ) → worths_of y i ≡ recipe_worths p d e i → AreWorthsOfList p d e y i
  worths_are y i same = record {
    many = ap length same ∙ along_many (pos 0) (places i) ∙ places_many i;
    eaten = eaten;
    ahead = λ k j next. (let m = places_many i in
        found k ∙ ahead_worth (pos 0) (places i) k j next.from (let l = next.known in omega (arith, l, m)) (is_eaten i j next.known next.eaten)
        (λ l a b. not_eaten i l (let known = next.known in omega (arith, known, b)) (next.first l a b)) ∙ distance (worth_at y i j) j k (at (places i) j).level (level_is i j next.known) (eaten j next.known next.eaten));
    past = λ k l none. (let m = places_many i in let one : k + 1 ≡ suc k = omega arith in
        ap (worth_at y i) one ∙ found (suc k)
        ∙ past_worth (pos 0) (places i) k (omega (arith, l, m)) (λ j a b. not_eaten i j (omega (arith, b, m)) (none j a (omega (arith, b, m))))
        ∙ ap (λ w. w -ℤ pos 1) (sym (found k)));
  }
    where
      found : (k : ℕ) → worth_at y i k ≡ worth_of (pos 0) (places i) k
      found k = unwrap_or-slice_get (worths_of y i) k (pos 0) ∙ ap (λ ws. get_or ws k (pos 0)) same

      eaten : (k : ℕ) → k < length (list_at p i) → 0 < share_of_place p d e i k → worth_at y i k ≡ pos (recipe_width p * (no_number d e - number_of_place p d e i k))
      eaten k l some =
          found k ∙ eaten_worth (pos 0) (places i) k (let m = places_many i in omega (arith, l, m)) (is_eaten i k l some) ∙ ap pos (level_is i k l)

      distance : (w : ℤ) (j k level : ℕ) {n : ℕ} → level ≡ n → w ≡ pos n → pos (level + (j - k)) ≡ (w +ℤ pos (j - k))
      distance w j k level f g = omega (arith, ints, f, g)

  -- and no others are
  module _ (y z : PricesValue) (i : ℕ) (a : AreWorthsOfList p d e y i) (b : AreWorthsOfList p d e z i) (some : HasEatenPlace p d e i) where
    after_eaten : (k : ℕ) → k < length (list_at p i) → ((m : ℕ) → k ≤ m → m < length (list_at p i) → share_of_place p d e i m ≡ 0)
        → ((j : ℕ) → suc j ≡ k → worth_at y i j ≡ worth_at z i j) → worth_at y i k ≡ worth_at z i k
    after_eaten zero l none before = absurd (let n = none some.0 (omega arith) some.1 in let s = some.2 in omega (arith, n, s))
    after_eaten (suc k) l none before =
        let one : suc k ≡ k + 1 = omega arith in
        let rest : (m : ℕ) → k < m → m < length (list_at p i) → share_of_place p d e i m ≡ 0 = λ m low high. none m (omega arith) high in
        ap (worth_at y i) one ∙ a.past k (omega arith) rest ∙ ap (λ w. w -ℤ pos 1) (before k refl) ∙ sym (b.past k (omega arith) rest) ∙ sym (ap (worth_at z i) one)

    same_step : (k : ℕ) → k < length (list_at p i) → ((j : ℕ) → suc j ≡ k → worth_at y i j ≡ worth_at z i j) → worth_at y i k ≡ worth_at z i k
    same_step k l before = elim (first_from (share_of_place p d e i) (length (list_at p i) - k) k) [
      | inl (j, from, within, eaten, first) ↦
          let known : j < length (list_at p i) = omega (arith, within, l) in
          let next : IsNextEaten p d e i k j = record { from = from; known = known; eaten = eaten; first = first } in
          a.ahead k j next ∙ ap (λ w. w +ℤ pos (j - k)) (a.eaten j known eaten ∙ sym (b.eaten j known eaten)) ∙ sym (b.ahead k j next)
      | inr none ↦ after_eaten k l (λ m low high. none m low (omega (arith, high, l))) before
    ]

    same_worth : (k : ℕ) → k < length (list_at p i) → worth_at y i k ≡ worth_at z i k
    same_worth zero l = same_step zero l (λ j e. absurd (omega (arith, e)))
    same_worth (suc k) l =
        let before = same_worth k (omega arith) in
        same_step (suc k) l (λ j e. (let same : k ≡ j = omega (arith, e) in subst (λ n. worth_at y i n ≡ worth_at z i n) same before))

    same_worths : worths_of y i ≡ worths_of z i
    same_worths =
        ext_get_or (pos 0) (worths_of y i) (worths_of z i) (a.many ∙ sym b.many)
        (λ k l. sym (unwrap_or-slice_get (worths_of y i) k (pos 0)) ∙ same_worth k (let m = a.many in omega (arith, l, m)) ∙ unwrap_or-slice_get (worths_of z i) k (pos 0))

  module _ (h : IsProblem p) (table : IsEatingTable (market_of p) d e) where
    -- each list has an eaten place
    pub some_eaten : (i : ℕ) → i < length p.agents → HasEatenPlace p d e i
    some_eaten i l = elim (first_from (share_of_place p d e i) (length (list_at p i)) 0) [
      | inl (j, from, within, eaten, first) ↦ (j, omega arith, eaten)
      | inr none ↦ absurd (nothing none)
    ]
      where
        nothing : ((k : ℕ) → 0 ≤ k → k < 0 + length (list_at p i) → share_of_place p d e i k ≡ 0) → ⊥
        nothing none =
            let x = share_of (market_of p) d e in
            let own = shares_assign p d e h table in
            let Nothing = λ (a : ℕ). share (market_of p) d e i a ≡ 0 in
            let all : AllByRecursion Nothing (list_at p i) = recursion_from_All Nothing (list_at p i) (All-from_get_or Nothing (list_at p i) 0 (λ k m. none k (omega arith) (omega arith))) in
            let zero_sum : sum_by (λ a. x (cell_of i a)) (list_at p i) ≡ 0 =
            sum_same_all Nothing (λ a. x (cell_of i a)) (λ a. 0) (list_at p i) (λ a n. n) all ∙ sum_zero (list_at p i) in
            let row = row_on_list p x i h l own.listed in
            let demand : 1 ≤ demand_at p i = h.demands i 0 (omega (arith, l, h.demands_many)) in
            let whole : 1 * 1 ≤ demand_at p i * d = mul-le 1 1 (demand_at p i) d demand table.positive in
            omega (arith, own.rows i l, row, zero_sum, whole)

    lists_are : (y : PricesValue) → y.worth ≡ map (recipe_worths p d e) (range_with_len 0 (length p.lists)) → (i : ℕ) → i < length p.lists → worths_of y i ≡ recipe_worths p d e i
    lists_are y same i l =
        unwrap_or-slice_get y.worth i [] ∙ ap (λ ws. get_or ws i []) same
        ∙ get_or-map-range_with_len (recipe_worths p d e) 0 (length p.lists) i i [] l (omega arith)

    -- the recipe's worths are those that are so at each place
    pub places_from_recipe : (y : PricesValue) → y.worth ≡ map (recipe_worths p d e) (range_with_len 0 (length p.lists))
        → AreWorthsByPlace p d e y
    places_from_recipe y same = (
      ap length same ∙ length-map-range_with_len (recipe_worths p d e) 0 (length p.lists),
      λ i l. worths_are y i (lists_are y same i (omega (arith, l, h.lists_many))),
    )

    pub recipe_from_places : (y : PricesValue) → AreWorthsByPlace p d e y → y.worth ≡ map (recipe_worths p d e) (range_with_len 0 (length p.lists))
    recipe_from_places y (many, each) =
        let made : PricesValue = record { price = []; worth = map (recipe_worths p d e) (range_with_len 0 (length p.lists)) } in
        let right = places_from_recipe made refl in
        ext_get_or [] y.worth made.worth (many ∙ sym right.0)
        (λ i l. (let agent : i < length p.agents = omega (arith, l, many, h.lists_many) in
        sym (unwrap_or-slice_get y.worth i []) ∙ same_worths y made i (each i agent) (right.1 i agent) (some_eaten i agent) ∙ unwrap_or-slice_get made.worth i []))
