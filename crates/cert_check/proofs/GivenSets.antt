-- What gives give over each set, by the sets that hold their cells.
use Rattle.std.proofs.Common.{◌≡◌, ℕ, zero, suc, ◌+◌, ◌*◌, ◌/◌, ◌<◌, ◌≤◌, ◌==◌, ◌^◌, ◌++◌, ◌||◌, Bool, true, false, List, [], ◌∷◌, Vec, Global, All, None, length, get_or, take, sum_by, count_by, cond, eqb, ap, sym, refl, ◌∙◌, arith, inl, inr, subst}
use Rattle.std.specs.List.{AllByRecursion}
use Rattle.std.proofs.lemmas.Bool.{and_from, both_ways, cases_lt, cases_order, eq-eqb, ne_eqb, not_from_true}
use Rattle.std.proofs.lemmas.List.{get_or-map, get_or_append_left, get_or_default, get_or_past}
use Rattle.std.proofs.lemmas.List.Elements.{All-get_or, All-weaker, recursion_from_All}
use Rattle.std.proofs.Math.Seq.{get_or-append_seam}
use Rattle.std.proofs.lemmas.List.Sums.{get_or-le-sum_by, sum_by-le, sum_by_more, sum_by_more_le}
use Rattle.std.proofs.lemmas.Nat.{mul-le}
use Rattle.definitions.specs.declared.Cell.{Cell}
use Rattle.definitions.specs.declared.Give.{Give}
use Rattle.definitions.specs.Firsts.{first_in}
use Rattle.definitions.specs.Pieces.{AreGives, piece_count}
use Rattle.definitions.specs.Sets.{FamilyValue, IsCellWithin, IsFamily, IsInRange, ScaledValue, SetValue, cell_index, same_cell, set_sum, units_of}
use Rattle.definitions.specs.Values.{PieceValue}
use Rattle.definitions.proofs.Members.{cell_test}
use Rattle.definitions.proofs.Sums.{exchange, sum_same, sum_same_all, sum_scaled}
use Rattle.cert_check.specs.HolderTables.{AreBounds, AreHolders, bounds_at, counted_at, give_place, held_sum, is_bounded, lists_of, times_in}
use Rattle.cert_check.specs.PieceFaults.{IsMatrixFor, cells_in_set, gives_at, is_rounded, set_look}
use Rattle.cert_check.specs.PriceFaults.{no_set}
use Rattle.cert_check.specs.declared.set_sums.Bounds.{Bounds}
use Rattle.cert_check.proofs.Canonical.{give_cell, IsLawfulGive}
use Rattle.cert_check.proofs.PieceCounts.{count_small, set_few}
use Rattle.cert_check.proofs.Quiet.{silent, silent_at}

-- what holds of each element by its index holds with one more
pub each_pushed : {X : Type 0} (P : ℕ → X → Type 0) (xs : List X) (x : X) (k : ℕ) (d : X) → length xs ≡ k → ((s : ℕ) → s < k → P s (get_or xs s d)) → P k x
    → (s : ℕ) → s < k + 1 → P s (get_or (xs ++ x ∷ []) s d)
each_pushed P xs x k d many h last s l = elim (cases_lt s k) [
  | inl before ↦ subst (P s) (sym (get_or_append_left xs (x ∷ []) d s (omega (arith, before, many)))) (h s before)
  | inr from ↦
      let here : length xs ≡ s = omega (arith, many, from, l) in
      let at : get_or (xs ++ x ∷ []) s d ≡ x = ap (λ n. get_or (xs ++ x ∷ []) n d) (sym here) ∙ get_or-append_seam xs x [] d in
      subst (P s) (sym at) (subst (λ n. P n x) (sym many ∙ here) last)
]

-- the list at a place, as it was read
pub list_read : (lists : List (Vec ℕ Global)) (p : ℕ) (v : Vec ℕ Global) (list : List ℕ) → p < length lists → v ≡ get_or lists p v → list ≡ v.items → list ≡ get_or (lists_of lists) p []
list_read lists p v list l at items = items ∙ ap (λ (w : Vec ℕ Global). w.items) at ∙ sym (get_or-map (λ (w : Vec ℕ Global). w.items) lists p v [] l)

-- one more give, as it was read
module _ (lists : List (List ℕ)) (gives : List Give) (i p n : ℕ) (list : List ℕ) (d : Give) (l : i < length gives) (at : p ≡ give_place (get_or gives i d)) (count : n ≡ (get_or gives i d).count) (read : list ≡ get_or lists p []) where
  term : (s : ℕ) → counted_at n list s ≡ counted_at (get_or gives i d).count (get_or lists (give_place (get_or gives i d)) []) s
  term s =
      ap (λ m. counted_at m list s) count
      ∙ ap (λ (xs : List ℕ). counted_at (get_or gives i d).count xs s) (read ∙ ap (λ j. get_or lists j []) at)

  pub held_more : (s : ℕ) → held_sum lists (take (i + 1) gives) s ≡ held_sum lists (take i gives) s + counted_at n list s
  held_more s = sum_by_more (λ (g : Give). counted_at g.count (get_or lists (give_place g) []) s) gives i d l ∙ ap (λ m. held_sum lists (take i gives) s + m) (sym (term s))

  pub held_fits : (s start bound : ℕ) → start + held_sum lists gives s < bound → start + held_sum lists (take i gives) s + counted_at n list s < bound
  held_fits s start bound room =
      let part = sum_by_more_le (λ (g : Give). counted_at g.count (get_or lists (give_place g) []) s) gives i d l in
      omega (arith, part, term s, room)

-- a place in rows of 201 tells its cell
same_place : (a c : Cell) → a.object < 201 → c.object < 201 → cell_index 201 c ≡ cell_index 201 a → a ≡ c
same_place a c l m e = elim (cases_order a.agent c.agent) [
  | inl same ↦ (let columns : a.object ≡ c.object = omega (arith, e, same) in cell_decides_same a c same columns)
  | inr (inl less) ↦ absurd (omega (arith, e, l, m, less))
  | inr (inr more) ↦ absurd (omega (arith, e, l, m, more))
]
  where
    cell_decides_same : (a c : Cell) → a.agent ≡ c.agent → a.object ≡ c.object → a ≡ c
    cell_decides_same a c s t = cell_test.sound a c (and_from (eqb a.agent c.agent) (eqb a.object c.object) (eq-eqb a.agent c.agent s) (eq-eqb a.object c.object t))

pub place_test : (a c : Cell) → a.object < 201 → c.object < 201 → (cell_index 201 c == cell_index 201 a) ≡ same_cell a c
place_test a c l m = by (same_cell a c) refl
  where
    by : (b : Bool) → same_cell a c ≡ b → (cell_index 201 c == cell_index 201 a) ≡ b
    by true t = eq-eqb (cell_index 201 c) (cell_index 201 a) (ap (cell_index 201) (sym (cell_test.sound a c t)))
    by false t = ne_eqb (cell_index 201 c) (cell_index 201 a) (λ e. both_ways (same_cell a c) t (ap (same_cell a) (sym (same_place a c l m e)) ∙ cell_test.self a))

-- a number for each element that passes is that number as often as one does
counted_times : {X : Type 0} (q : X → Bool) (n : ℕ) (xs : List X) → sum_by (λ x. cond (q x) n 0) xs ≡ n * count_by q xs
counted_times q n xs = sum_same (λ x. cond (q x) n 0) (λ x. n * cond (q x) 1 0) xs (λ x. one (q x)) ∙ sum_scaled n (λ x. cond (q x) 1 0) xs
  where
    one : (b : Bool) → cond b n 0 ≡ n * cond b 1 0
    one true = omega arith
    one false = omega arith

module _ (f : FamilyValue) (x : ScaledValue) (h : IsFamily f) (m : IsMatrixFor f x) (lists : List (List ℕ)) (held : AreHolders f lists) where
  set_within : (s : ℕ) → AllByRecursion (IsCellWithin f.agents f.columns) (cells_in_set f s)
  set_within s = elim (cases_lt s (length f.sets)) [
    | inl l ↦ recursion_from_All (IsCellWithin f.agents f.columns) (cells_in_set f s) (All-get_or (IsInRange f.agents f.columns) f.sets s no_set l h.inside)
    | inr past ↦ subst (λ (set : SetValue). AllByRecursion (IsCellWithin f.agents f.columns) set.cells) (sym (get_or_past f.sets s no_set past)) tt
  ]

  give_held : (g : Give) (s : ℕ) → IsLawfulGive x.agents x.columns g
      → counted_at g.count (get_or lists (give_place g) []) s ≡ sum_by (λ c. cond (same_cell (give_cell g) c) g.count 0) (cells_in_set f s)
  give_held g s w =
      let place : give_place g < f.agents * 201 = omega (arith, w.0, w.1, m.agents, m.columns, h.columns_limit) in
      counted_times (λ (n : ℕ). n == s) g.count (get_or lists (give_place g) [])
      ∙ ap (λ n. g.count * n) (held.times (give_place g) s place)
      ∙ sym (counted_times (λ (c : Cell). cell_index 201 c == give_place g) g.count (cells_in_set f s))
      ∙ sum_same_all (IsCellWithin f.agents f.columns) (λ (c : Cell). cond (cell_index 201 c == give_place g) g.count 0) (λ (c : Cell). cond (same_cell (give_cell g) c) g.count 0) (cells_in_set f s)
      (λ c v. ap (λ b. cond b g.count 0) (place_test (give_cell g) c (omega (arith, w.1, m.columns, h.columns_limit)) (omega (arith, v.1, h.columns_limit)))) (set_within s)

  -- the sums by the lists are those of the pieces
  pub held_is_sum : (gives : List Give) (s : ℕ) → AreGives x.agents x.columns gives → held_sum lists gives s ≡ set_sum (piece_count gives) (cells_in_set f s)
  held_is_sum gives s a =
      sum_same_all (IsLawfulGive x.agents x.columns) (λ (g : Give). counted_at g.count (get_or lists (give_place g) []) s) (λ (g : Give). sum_by (λ c. cond (same_cell (give_cell g) c) g.count 0) (cells_in_set f s)) gives
      (λ g w. give_held g s w) (recursion_from_All (IsLawfulGive x.agents x.columns) gives a.0)
      ∙ exchange (λ (g : Give) (c : Cell). cond (same_cell (give_cell g) c) g.count 0) gives (cells_in_set f s)

  pub gives_placed : (gives : List Give) (n : ℕ) → AreGives x.agents x.columns gives → n ≡ length lists → All (λ g. give_place g < n) gives
  gives_placed gives n a e = All-weaker (IsLawfulGive x.agents x.columns) (λ g. give_place g < n) (λ g w. omega (arith, w.0, w.1, m.agents, m.columns, h.columns_limit, held.many, e)) gives a.0

  pub sum_fits : (gives : List Give) (s : ℕ) → s < length f.sets → AreGives x.agents x.columns gives → 0 + held_sum lists gives s < 2 ^ 64
  sum_fits gives s l a =
      let each : sum_by (piece_count gives) (cells_in_set f s) ≤ length (cells_in_set f s) * 1000 =
      sum_by-le (piece_count gives) 1000 (cells_in_set f s) (λ k d v. count_small x.agents x.columns gives (get_or (cells_in_set f s) k d) a) in
      let many : length (cells_in_set f s) * 1000 ≤ 1201000 * 1000 = mul-le (length (cells_in_set f s)) 1000 1201000 1000 (set_few f s h l) (omega arith) in
      omega (arith, held_is_sum gives s a, each, many)

  -- only sets stand in the lists
  pub lists_known : (n : ℕ) → n ≡ length f.sets → All (All (λ s. s < n)) lists
  lists_known n e p d l k z v =
      let list : get_or lists p d ≡ get_or lists p [] = get_or_default lists p d [] l in
      elim (cases_lt (get_or (get_or lists p d) k z) n) [
        | inl less ↦ less
        | inr past ↦
            let one = get_or-le-sum_by (λ (t : ℕ). cond (t == get_or (get_or lists p d) k z) 1 0) (get_or lists p d) k z v in
            let here : cond (get_or (get_or lists p d) k z == get_or (get_or lists p d) k z) 1 0 ≡ suc zero = ap (λ b. cond b 1 0) (eq-eqb (get_or (get_or lists p d) k z) (get_or (get_or lists p d) k z) refl) in
            let times : times_in lists p (get_or (get_or lists p d) k z) ≡ count_by (λ c. cell_index 201 c == p) (cells_in_set f (get_or (get_or lists p d) k z)) = held.times p (get_or (get_or lists p d) k z) (omega (arith, l, held.many)) in
            let none : count_by (λ c. cell_index 201 c == p) (cells_in_set f (get_or (get_or lists p d) k z)) ≡ 0 =
            ap (λ (set : SetValue). count_by (λ c. cell_index 201 c == p) set.cells) (get_or_past f.sets (get_or (get_or lists p d) k z) no_set (omega (arith, past, e))) in
            let same : count_by (λ t. t == get_or (get_or lists p d) k z) (get_or lists p d) ≡ times_in lists p (get_or (get_or lists p d) k z) = ap (count_by (λ t. t == get_or (get_or lists p d) k z)) list in
            absurd (omega (arith, one, here, times, none, same))
      ]

-- check 15 finds nothing where each sum is rounded
pub sets_silent : (f : FamilyValue) (x : ScaledValue) (ps : List PieceValue) (k : ℕ)
    → ((s : ℕ) → s < length f.sets → is_rounded (set_sum (units_of x) (cells_in_set f s)) x.denominator (set_sum (piece_count (gives_at ps k)) (cells_in_set f s)) ≡ true)
    → first_in (set_look f x ps k) 0 (length f.sets) ≡ None
sets_silent f x ps k h = silent_at (set_look f x ps k) (length f.sets) (λ s l. silent _ _ (not_from_true _ (h s l)))

-- a sum within its bounds is rounded
pub within_bounds : (f : FamilyValue) (x : ScaledValue) (bounds : List Bounds) (s m : ℕ) → AreBounds f x bounds → s < length f.sets
    → is_bounded (bounds_at bounds s) m ≡ is_rounded (set_sum (units_of x) (cells_in_set f s)) x.denominator m
within_bounds f x bounds s m b l =
    ap (λ n. (m == n) || (m == (bounds_at bounds s).high)) (b.low s l)
    ∙ ap (λ n. (m == set_sum (units_of x) (cells_in_set f s) / x.denominator) || (m == n)) (b.high s l)
