-- The recipe's prices by the sets above a set.
use Rattle.std.proofs.Common.{◌≡◌, ℕ, ◌+◌, ◌-◌, ◌*◌, ◌<◌, ◌≤◌, ◌⊎◌, List, [], ◌∷◌, length, Some, true, ℤ, refl, sym, ap, subst, ◌∙◌, inl, inr, arith}
use Rattle.std.specs.Prelude.{min, nat_eq, slice_index}
use Rattle.std.specs.Set.{is_member}
use Rattle.std.proofs.lemmas.Bool.{cases_lt, or_cases, or_left, or_right, eqb-true, eq-eqb}
use Rattle.std.proofs.lemmas.List.{ext_get_or}
use Rattle.std.proofs.lemmas.List.FromFn.{length-map-range_with_len, get_or-map-range_with_len}
use Rattle.definitions.specs.Sets.{IsSet}
use Rattle.definitions.specs.Values.{ProblemValue, IsProblem, PricesValue}
use Rattle.definitions.specs.Trees.{TreesValue, AreTreesOf, parent_at, chain_of}
use Rattle.definitions.specs.Certificate.{moment_number, chain_rank, recipe_width, recipe_price, IsRecipeOf}
use Rattle.definitions.proofs.Families.{sets_of_problem}
use Rattle.side_laws.specs.Sums.{least_over}
use Rattle.side_laws.proofs.Members.{least_start, least_member}
use Rattle.side_laws.proofs.Trees.{chain_step, parent_chain_above}
use Rattle.certificate_laws.specs.Recipe.{number_of_set, IsLeastNumber, IsOver, IsPriceBySets}
use Rattle.certificate_laws.proofs.RecipeWorths.{end_number}

-- the least is the start or that of a member
least_one : (v : ℕ → ℕ) (most : ℕ) (xs : List ℕ) → (least_over most v xs ≡ most) ⊎ ((u : ℕ) × (is_member nat_eq xs u ≡ true) × (least_over most v xs ≡ v u))
least_one v most [] = inl refl
least_one v most (x ∷ xs) = elim (least_one v (min most (v x)) xs) [
  | inl start ↦ elim (cases_lt (v x) most) [
    | inl less ↦ inr (x, or_left (nat_eq x x) (is_member nat_eq xs x) (eq-eqb x x refl), omega (arith, start, less))
    | inr more ↦ inl (omega (arith, start, more))
  ]
  | inr (u, m, at) ↦ inr (u, or_right (nat_eq u x) (is_member nat_eq xs u) m, at)
]

-- two least numbers of the same sets are one
pub one_least : (d : ℕ) (e : List ℕ) (Sets : ℕ → Type 0) (m n : ℕ) → IsLeastNumber d e Sets m → IsLeastNumber d e Sets n → m ≡ n
one_least d e Sets m n a b = (let up = below m n a b in let down = below n m b a in omega (arith, up, down))
  where
    below : (m n : ℕ) → IsLeastNumber d e Sets m → IsLeastNumber d e Sets n → m ≤ n
    below m n a b = elim b.one [
      | inl none ↦ (let most = a.most in omega (arith, none, most))
      | inr (s, known, at) ↦ (let each = a.each s known in omega (arith, at, each))
    ]

module _ (p : ProblemValue) (d : ℕ) (e : List ℕ) where
  -- the least along a list of sets is the least number of its members
  least_is : (Sets : ℕ → Type 0) (xs : List ℕ) → ((u : ℕ) → is_member nat_eq xs u ≡ true → Sets u) → ((u : ℕ) → Sets u → is_member nat_eq xs u ≡ true)
      → IsLeastNumber d e Sets (least_over (moment_number e d d) (number_of_set d e) xs)
  least_is Sets xs there back = record {
    most = (let start = least_start (number_of_set d e) (moment_number e d d) xs in omega (arith, start, end_number d e));
    each = λ s known. least_member (number_of_set d e) (moment_number e d d) xs s (back s known);
    one = elim (least_one (number_of_set d e) (moment_number e d d) xs) [
      | inl start ↦ inl (start ∙ end_number d e)
      | inr (u, m, at) ↦ inr (u, there u m, at)
    ];
  }

  module _ (h : IsProblem p) (t : TreesValue) (r : AreTreesOf p.family t) (s : ℕ) (known : IsSet p.family s) where
    above_least : IsLeastNumber d e (IsOver p s) (chain_rank t e d (parent_at t s))
    above_least =
        least_is (IsOver p s) (chain_of t (parent_at t s))
        (λ u. (parent_chain_above p.family h.family.lawful t r s known u).0) (λ u. (parent_chain_above p.family h.family.lawful t r s known u).1)

    own_least : IsLeastNumber d e (λ u. (u ≡ s) ⊎ IsOver p s u) (chain_rank t e d (Some s))
    own_least = least_is (λ u. (u ≡ s) ⊎ IsOver p s u) (chain_of t (Some s)) there back
      where
        step : (u : ℕ) → is_member nat_eq (chain_of t (Some s)) u ≡ is_member nat_eq (s ∷ chain_of t (parent_at t s)) u
        step u = ap (λ xs. is_member nat_eq xs u) (chain_step p.family h.family.lawful t r s known)

        there : (u : ℕ) → is_member nat_eq (chain_of t (Some s)) u ≡ true → (u ≡ s) ⊎ IsOver p s u
        there u m = elim (or_cases (nat_eq u s) (is_member nat_eq (chain_of t (parent_at t s)) u) (sym (step u) ∙ m)) [
          | inl same ↦ inl (eqb-true u s same)
          | inr later ↦ inr ((parent_chain_above p.family h.family.lawful t r s known u).0 later)
        ]

        back : (u : ℕ) → (u ≡ s) ⊎ IsOver p s u → is_member nat_eq (chain_of t (Some s)) u ≡ true
        back u (inl same) = step u ∙ or_left (nat_eq u s) (is_member nat_eq (chain_of t (parent_at t s)) u) (eq-eqb u s same)
        back u (inr over) =
            step u ∙ or_right (nat_eq u s) (is_member nat_eq (chain_of t (parent_at t s)) u) ((parent_chain_above p.family h.family.lawful t r s known u).1 over)

    -- the price of a set by the sets above it
    pub price_is : IsPriceBySets p d e s (recipe_price p t d e s)
    price_is = record {
      rank = chain_rank t e d (Some s);
      rank_above = chain_rank t e d (parent_at t s);
      own = own_least;
      above = above_least;
      value = refl;
    }

-- two prices by the sets above a set are one
pub one_price : (p : ProblemValue) (d : ℕ) (e : List ℕ) (s m n : ℕ) → IsPriceBySets p d e s m → IsPriceBySets p d e s n → m ≡ n
one_price p d e s m n a b =
    a.value
    ∙ ap (λ r. recipe_width p * (a.rank_above - r)) (one_least d e (λ u. (u ≡ s) ⊎ IsOver p s u) a.rank b.rank a.own b.own)
    ∙ ap (λ r. recipe_width p * (r - b.rank)) (one_least d e (IsOver p s) a.rank_above b.rank_above a.above b.above)
    ∙ sym b.value

module _ (p : ProblemValue) (d : ℕ) (e : List ℕ) (h : IsProblem p) where
  -- a recipe has one price for each stated set
  pub prices_many : (y : PricesValue) → IsRecipeOf p d e y → length y.price ≡ p.stated
  prices_many y r = ap length r.prices ∙ length-map-range_with_len (recipe_price p r.trees d e) 1 p.stated

  pub prices_are : (y : PricesValue) → IsRecipeOf p d e y → (s : ℕ) → 0 < s → s ≤ p.stated → IsPriceBySets p d e s (slice_index y.price (s - 1))
  prices_are y r s low high =
      let known : IsSet p.family s = (low, (let many = sets_of_problem p h in omega (arith, many, high))) in
      let at : slice_index y.price (s - 1) ≡ recipe_price p r.trees d e s =
      ap (λ (xs : List ℕ). slice_index xs (s - 1)) r.prices
      ∙ get_or-map-range_with_len (recipe_price p r.trees d e) 1 p.stated (s - 1) s 0 (omega (arith, low, high)) (omega (arith, low)) in
      subst (IsPriceBySets p d e s) (sym at) (price_is p d e h r.trees r.of_family s known)

  -- one recipe for a problem
  pub same_recipe : (y z : PricesValue) → IsRecipeOf p d e y → IsRecipeOf p d e z → y ≡ z
  same_recipe y z a b = same_numbers y.price z.price y.worth z.worth prices (a.worths ∙ sym b.worths)
    where
      prices : y.price ≡ z.price
      prices =
          ext_get_or 0 y.price z.price (prices_many y a ∙ sym (prices_many z b))
          (λ k l. (let many = prices_many y a in
          let place : k + 1 - 1 ≡ k = omega arith in
          let same = one_price p d e (k + 1) (slice_index y.price (k + 1 - 1)) (slice_index z.price (k + 1 - 1))
          (prices_are y a (k + 1) (omega arith) (omega (arith, l, many))) (prices_are z b (k + 1) (omega arith) (omega (arith, l, many))) in
          ap (slice_index y.price) (sym place) ∙ same ∙ ap (slice_index z.price) place))

      same_numbers : (ps qs : List ℕ) (vs ws : List (List ℤ)) → ps ≡ qs → vs ≡ ws → ◌≡◌ {A = PricesValue} (record { price = ps; worth = vs }) (record { price = qs; worth = ws })
      same_numbers ps qs vs ws f g = ap (λ xs. let v : PricesValue = record { price = xs; worth = vs } in v) f ∙ ap (λ xs. let v : PricesValue = record { price = qs; worth = xs } in v) g
