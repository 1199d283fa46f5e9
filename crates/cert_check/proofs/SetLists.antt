-- For each cell, the sets that hold it.
use Rattle.std.proofs.Common.{◌≡◌, ℕ, ◌+◌, ◌*◌, ◌<◌, ◌≤◌, ◌==◌, Bool, true, false, List, [], ◌∷◌, ◌++◌, All, length, get_or, set, take, count_by, cond, ap, sym, refl, ◌∙◌, arith, inl, inr, subst}
use Rattle.std.specs.Prelude.{nat_lt}
use Rattle.std.proofs.lemmas.Bool.{cases_eq, cases_lt, eq-eqb, ne_eqb, lt-ltb, le-ltb}
use Rattle.std.proofs.lemmas.Grind.{get_or-set_at}
use Rattle.std.proofs.lemmas.List.{get_or-set_other, get_or_past}
use Rattle.std.proofs.lemmas.List.Elements.{All-get_or, All-weaker}
use Rattle.std.proofs.lemmas.List.Sums.{sum_by-append, sum_by-cons, sum_by_more}
use Rattle.definitions.specs.declared.Cell.{Cell}
use Rattle.definitions.specs.Sets.{FamilyValue, IsCellWithin, IsFamily, IsInRange, SetValue, cell_index}
use Rattle.cert_check.specs.HolderTables.{AreHolders, times_in}
use Rattle.cert_check.specs.PieceFaults.{cells_in_set}
use Rattle.cert_check.specs.PriceFaults.{no_set}

both_or_none : (b : Bool) (m n : ℕ) → cond b m 0 + cond b n 0 ≡ cond b (m + n) 0
both_or_none true m n = refl
both_or_none false m n = refl

-- a number at the end of one list
entered : (lists : List (List ℕ)) (p place s n : ℕ) → p < length lists
    → times_in (set lists p (get_or lists p [] ++ n ∷ [])) place s ≡ times_in lists place s + cond (n == s) (cond (p == place) 1 0) 0
entered lists p place s n l =
    elim (cases_eq p place) [
      | inl same ↦
          let at : get_or (set lists p (get_or lists p [] ++ n ∷ [])) place [] ≡ get_or lists p [] ++ n ∷ [] = get_or-set_at lists p place (get_or lists p [] ++ n ∷ []) [] (sym same) l in
          let grown : times_in (set lists p (get_or lists p [] ++ n ∷ [])) place s ≡ count_by (λ t. t == s) (get_or lists p [] ++ n ∷ []) = ap (count_by (λ t. t == s)) at in
          let joined = sum_by-append (λ (t : ℕ). cond (t == s) 1 0) (get_or lists p []) (n ∷ []) in
          let last : count_by (λ t. t == s) (n ∷ []) ≡ cond (n == s) 1 0 + 0 = sum_by-cons (λ (t : ℕ). cond (t == s) 1 0) n [] in
          let here : ◌≡◌ {A = ℕ} (cond (n == s) (cond (p == place) 1 0) 0) (cond (n == s) 1 0) = ap (λ b. cond (n == s) (cond b 1 0) 0) (eq-eqb p place same) in
          let read : count_by (λ t. t == s) (get_or lists p []) ≡ times_in lists place s = ap (λ j. count_by (λ t. t == s) (get_or lists j [])) same in
          omega (arith, grown, joined, last, here, read)
      | inr other ↦
          let at : get_or (set lists p (get_or lists p [] ++ n ∷ [])) place [] ≡ get_or lists place [] = get_or-set_other lists p place (get_or lists p [] ++ n ∷ []) [] (λ z. other (sym z)) in
          let kept : times_in (set lists p (get_or lists p [] ++ n ∷ [])) place s ≡ times_in lists place s = ap (count_by (λ t. t == s)) at in
          let none : ◌≡◌ {A = ℕ} (cond (n == s) (cond (p == place) 1 0) 0) (cond (n == s) 0 0) = ap (λ b. cond (n == s) (cond b 1 0) 0) (ne_eqb p place other) in
          omega (arith, kept, none, nothing (n == s))
    ]
  where
    nothing : (b : Bool) → ◌≡◌ {A = ℕ} (cond b 0 0) 0
    nothing true = refl
    nothing false = refl

-- a set, entered at one more of its cells
pub entered_more : (lists : List (List ℕ)) (cells : List Cell) (i p place s n start : ℕ) (d : Cell) → i < length cells → p ≡ cell_index 201 (get_or cells i d) → p < length lists
    → times_in lists place s ≡ start + cond (n == s) (count_by (λ c. cell_index 201 c == place) (take i cells)) 0
    → times_in (set lists p (get_or lists p [] ++ n ∷ [])) place s ≡ start + cond (n == s) (count_by (λ c. cell_index 201 c == place) (take (i + 1) cells)) 0
entered_more lists cells i p place s n start d l e m h =
    let more = sum_by_more (λ (c : Cell). cond (cell_index 201 c == place) 1 0) cells i d l in
    let here : ◌≡◌ {A = ℕ} (cond (p == place) 1 0) (cond (cell_index 201 (get_or cells i d) == place) 1 0) = ap (λ j. cond (j == place) 1 0) e in
    let sum : count_by (λ c. cell_index 201 c == place) (take (i + 1) cells) ≡ count_by (λ c. cell_index 201 c == place) (take i cells) + cond (p == place) 1 0 = omega (arith, more, here) in
    let split : cond (n == s) (count_by (λ c. cell_index 201 c == place) (take (i + 1) cells)) 0 ≡ cond (n == s) (count_by (λ c. cell_index 201 c == place) (take i cells) + cond (p == place) 1 0) 0 = ap (λ j. cond (n == s) j 0) sum in
    omega (arith, entered lists p place s n m, h, split, both_or_none (n == s) (count_by (λ c. cell_index 201 c == place) (take i cells)) (cond (p == place) 1 0))

-- one more set
pub set_entered : (f : FamilyValue) (k place s before after : ℕ) (cells : List Cell) → cells ≡ cells_in_set f k
    → before ≡ cond (nat_lt s k) (count_by (λ c. cell_index 201 c == place) (cells_in_set f s)) 0
    → after ≡ before + cond (k == s) (count_by (λ c. cell_index 201 c == place) cells) 0
    → after ≡ cond (nat_lt s (k + 1)) (count_by (λ c. cell_index 201 c == place) (cells_in_set f s)) 0
set_entered f k place s before after cells e b a =
    elim (cases_eq k s) [
      | inl same ↦
          let old : cond (nat_lt s k) (count_by (λ c. cell_index 201 c == place) (cells_in_set f s)) 0 ≡ 0 = ap (λ t. cond t (count_by (λ c. cell_index 201 c == place) (cells_in_set f s)) 0) (le-ltb s k (omega (arith, same))) in
          let more : cond (k == s) (count_by (λ c. cell_index 201 c == place) cells) 0 ≡ count_by (λ c. cell_index 201 c == place) cells = ap (λ t. cond t (count_by (λ c. cell_index 201 c == place) cells) 0) (eq-eqb k s same) in
          let here : count_by (λ c. cell_index 201 c == place) cells ≡ count_by (λ c. cell_index 201 c == place) (cells_in_set f s) =
          ap (count_by (λ c. cell_index 201 c == place)) (e ∙ ap (cells_in_set f) same) in
          let new : cond (nat_lt s (k + 1)) (count_by (λ c. cell_index 201 c == place) (cells_in_set f s)) 0 ≡ count_by (λ c. cell_index 201 c == place) (cells_in_set f s) =
          ap (λ t. cond t (count_by (λ c. cell_index 201 c == place) (cells_in_set f s)) 0) (lt-ltb s (k + 1) (omega (arith, same))) in
          omega (arith, a, b, old, more, here, new)
      | inr other ↦
          let none : cond (k == s) (count_by (λ c. cell_index 201 c == place) cells) 0 ≡ 0 = ap (λ t. cond t (count_by (λ c. cell_index 201 c == place) cells) 0) (ne_eqb k s other) in
          let test : nat_lt s k ≡ nat_lt s (k + 1) = one_later s k other in
          let same = ap (λ t. cond t (count_by (λ c. cell_index 201 c == place) (cells_in_set f s)) 0) test in
          omega (arith, a, b, none, same)
    ]
  where
    one_later : (s k : ℕ) → (k ≡ s → ⊥) → nat_lt s k ≡ nat_lt s (k + 1)
    one_later s k other = elim (cases_lt s k) [
      | inl l ↦ lt-ltb s k l ∙ sym (lt-ltb s (k + 1) (omega (arith, l)))
      | inr g ↦ le-ltb s k g ∙ sym (le-ltb s (k + 1) (elim (cases_eq k s) [ inl same ↦ absurd (other same) | inr apart ↦ above s k g apart ]))
    ]
      where
        above : (s k : ℕ) → k ≤ s → (k ≡ s → ⊥) → k + 1 ≤ s
        above s k g apart = elim (cases_lt k s) [
          | inl l ↦ omega (arith, l)
          | inr e ↦ absurd (apart (omega (arith, g, e)))
        ]

-- nothing stands in empty lists
pub lists_empty : (lists : List (List ℕ)) (place s : ℕ) → All (λ list. list ≡ []) lists → times_in lists place s ≡ 0
lists_empty lists place s h = elim (cases_lt place (length lists)) [
  | inl inside ↦ ap (count_by (λ t. t == s)) (All-get_or (λ (list : List ℕ). list ≡ []) lists place [] inside h)
  | inr past ↦ ap (count_by (λ t. t == s)) (get_or_past lists place [] past)
]

pub before_sets : (s n : ℕ) → 0 ≡ cond (nat_lt s 0) n 0
before_sets s n = sym (ap (λ t. cond t n 0) (le-ltb s 0 (omega arith)))

-- the cells of a set have places
pub set_places : (f : FamilyValue) (k n : ℕ) (cells : List Cell) → IsFamily f → k < length f.sets → cells ≡ cells_in_set f k → n ≡ f.agents * 201 → All (λ c. cell_index 201 c < n) cells
set_places f k n cells h l e m =
    let within : All (IsCellWithin f.agents f.columns) (cells_in_set f k) = All-get_or (IsInRange f.agents f.columns) f.sets k no_set l h.inside in
    subst (λ (cs : List Cell). All (λ c. cell_index 201 c < n) cs) (sym e)
    (All-weaker (IsCellWithin f.agents f.columns) (λ c. cell_index 201 c < n) (λ c w. omega (arith, w.0, w.1, m, h.columns_limit)) (cells_in_set f k) within)

-- after the last set
pub all_entered : (f : FamilyValue) (lists : List (List ℕ)) (k : ℕ) → length f.sets ≤ k → length lists ≡ f.agents * 201
    → ((place s : ℕ) → place < f.agents * 201 → times_in lists place s ≡ cond (nat_lt s k) (count_by (λ c. cell_index 201 c == place) (cells_in_set f s)) 0)
    → AreHolders f lists
all_entered f lists k past many h = record {
  many = many;
  times = λ place s l. h place s l ∙ elim (cases_lt s k) [
    | inl early ↦ ap (λ t. cond t (count_by (λ c. cell_index 201 c == place) (cells_in_set f s)) 0) (lt-ltb s k early)
    | inr late ↦
        ap (λ t. cond t (count_by (λ c. cell_index 201 c == place) (cells_in_set f s)) 0) (le-ltb s k late)
        ∙ sym (ap (λ (set : SetValue). count_by (λ c. cell_index 201 c == place) set.cells) (get_or_past f.sets s no_set (omega (arith, past, late))))
  ];
}
