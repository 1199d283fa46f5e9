-- The way up a table of parents, over any order in which each parent comes after its set.
use Rattle.std.proofs.Common.{◌≡◌, ℕ, zero, suc, ◌-◌, ◌<◌, ◌≤◌, ◌⊎◌, ◌↔◌, ◌∙◌, List, [], ◌∷◌, ◌++◌, Option, Some, None, Bool, true, false, cond, get_or, refl, sym, ap, subst, inl, inr, arith}
use Rattle.std.specs.Prelude.{nat_eq, count_by}
use Rattle.std.specs.List.{IsDistinct, range_with_len}
use Rattle.std.specs.Set.{is_member}
use Rattle.std.proofs.lemmas.Bool.{both_ways, or_cases, or_left, or_right, eqb-true, eq-eqb, false_from_ne_true}
use Rattle.std.proofs.lemmas.Option.{same_Some}
use Rattle.std.proofs.lemmas.List.Sums.{sum_by-cons, count_by-le-length}
use Rattle.std.proofs.lemmas.List.FromFn.{length-range_with_len}
use Rattle.definitions.specs.Trees.{climb}
use Rattle.definitions.proofs.Members.{distinct_none, distinct_more}
use Rattle.definitions.proofs.Ranges.{member_of_range}

bit_mono : (p q : Bool) → (p ≡ true → q ≡ true) → cond {A = ℕ} p 1 0 ≤ cond {A = ℕ} q 1 0
bit_mono true true f = omega arith
bit_mono true false f = absurd (both_ways false refl (f refl))
bit_mono false true f = omega arith
bit_mono false false f = omega arith

count_mono : (p q : ℕ → Bool) (xs : List ℕ) → ((u : ℕ) → p u ≡ true → q u ≡ true) → count_by p xs ≤ count_by q xs
count_mono p q [] f = omega arith
count_mono p q (x ∷ xs) f =
    omega (arith, sum_by-cons (λ y. cond (p y) 1 0) x xs, sum_by-cons (λ y. cond (q y) 1 0) x xs, bit_mono (p x) (q x) (f x), count_mono p q xs f)

-- a weaker test that passes one more counts more
count_strict : (p q : ℕ → Bool) (xs : List ℕ) (x : ℕ) → ((u : ℕ) → p u ≡ true → q u ≡ true) → is_member nat_eq xs x ≡ true → p x ≡ false → q x ≡ true
    → count_by p xs < count_by q xs
count_strict p q [] x f m miss hit = cc m
count_strict p q (y ∷ ys) x f m miss hit = elim (or_cases (nat_eq x y) (is_member nat_eq ys x) m) [
  | inl e ↦
      let same : x ≡ y = eqb-true x y e in
      let off = ap {B = ℕ} (λ b. cond b 1 0) (ap p (sym same) ∙ miss) in
      let on = ap {B = ℕ} (λ b. cond b 1 0) (ap q (sym same) ∙ hit) in
      omega (arith, sum_by-cons (λ z. cond (p z) 1 0) y ys, sum_by-cons (λ z. cond (q z) 1 0) y ys, off, on, count_mono p q ys f)
  | inr later ↦
      omega (arith, sum_by-cons (λ z. cond (p z) 1 0) y ys, sum_by-cons (λ z. cond (q z) 1 0) y ys, bit_mono (p y) (q y) (f y), count_strict p q ys x f later miss hit)
]

-- a strict order in which each parent is one of the numbers up to n and comes after its set
pub record IsUpward (n : ℕ) (lower : ℕ → ℕ → Bool) (parents : List (Option ℕ)) : Type 0 where
  pub irreflexive : (s : ℕ) → lower s s ≡ false
  pub transitive : (s t u : ℕ) → lower s t ≡ true → lower t u ≡ true → lower s u ≡ true
  pub up : (s p : ℕ) → 0 < s → s ≤ n → get_or parents (s - 1) None ≡ Some p → (0 < p) × (p ≤ n) × (lower s p ≡ true)

-- a number from 1 to n, where there is one
abbrev pub IsStart : ℕ → Option ℕ → Type 0
IsStart n o = (s : ℕ) → o ≡ Some s → (0 < s) × (s ≤ n)

pub climb_none : (parents : List (Option ℕ)) (k : ℕ) → climb parents k None ≡ []
unfolding climb
climb_none parents zero = refl
climb_none parents (suc k) = refl

module _ (n : ℕ) (lower : ℕ → ℕ → Bool) (parents : List (Option ℕ)) (w : IsUpward n lower parents) where
  -- how many come after s
  beyond : ℕ → ℕ
  beyond s = count_by (lower s) (range_with_len 1 n)

  beyond_falls : (s p : ℕ) → 0 < p → p ≤ n → lower s p ≡ true → beyond p < beyond s
  unfolding beyond
  beyond_falls s p low high h =
      count_strict (lower p) (lower s) (range_with_len 1 n) p (λ u k. w.transitive s p u h k) (member_of_range 1 n p (omega arith) (omega arith)) (w.irreflexive p) h

  beyond_few : (s : ℕ) → 0 < s → s ≤ n → beyond s < n
  unfolding beyond
  beyond_few s low high =
      let some = count_strict (lower s) (λ u. true) (range_with_len 1 n) s (λ u h. refl) (member_of_range 1 n s (omega arith) (omega arith)) (w.irreflexive s) refl in
      omega (arith, some, count_by-le-length (λ u. true) (range_with_len 1 n), length-range_with_len 1 n)

  parent_start : (s : ℕ) → 0 < s → s ≤ n → IsStart n (get_or parents (s - 1) None)
  parent_start s low high p e = let u = w.up s p low high e in (u.0, u.1)

  -- with enough steps, more change nothing
  climb_enough : (k j : ℕ) (o : Option ℕ) → ((s : ℕ) → o ≡ Some s → (0 < s) × (s ≤ n) × (beyond s < k) × (beyond s < j)) → climb parents k o ≡ climb parents j o
  unfolding climb
  climb_enough k j None h = climb_none parents k ∙ sym (climb_none parents j)
  climb_enough zero j (Some s) h = let x = h s refl in absurd (omega (arith, x.2))
  climb_enough (suc k) zero (Some s) h = let x = h s refl in absurd (omega (arith, x.3))
  climb_enough (suc k) (suc j) (Some s) h =
      let x = h s refl in
      ap (λ l. s ∷ l) (climb_enough k j (get_or parents (s - 1) None) (λ p e.
      let u = w.up s p x.0 x.1 e in
      let f = beyond_falls s p u.0 u.1 u.2 in
      (u.0, u.1, omega (arith, f, x.2), omega (arith, f, x.3))))

  step_at : (m s : ℕ) → m ≡ n → 0 < s → s ≤ n → climb parents m (Some s) ≡ s ∷ climb parents m (get_or parents (s - 1) None)
  unfolding climb
  step_at zero s e low high = absurd (omega arith)
  step_at (suc m) s e low high =
      ap (λ l. s ∷ l) (climb_enough m (suc m) (get_or parents (s - 1) None) (λ p e'.
      let u = w.up s p low high e' in
      let f = beyond_falls s p u.0 u.1 u.2 in
      let g = beyond_few s low high in
      (u.0, u.1, omega (arith, f, g, e), omega (arith, f, g, e))))

  -- the set itself, and then the way up from its parent
  pub climb_step : (s : ℕ) → 0 < s → s ≤ n → climb parents n (Some s) ≡ s ∷ climb parents n (get_or parents (s - 1) None)
  climb_step s low high = step_at n s refl low high

  -- what holds of the start, and of a parent where it holds of the set, holds of each member of the way up
  pub members_keep : (Q : ℕ → Type 0) → ((s p : ℕ) → Q s → get_or parents (s - 1) None ≡ Some p → Q p) → (k : ℕ) (o : Option ℕ) → ((s : ℕ) → o ≡ Some s → Q s)
      → (u : ℕ) → is_member nat_eq (climb parents k o) u ≡ true → Q u
  unfolding climb
  members_keep Q step zero o h u m = absurd (both_ways false refl m)
  members_keep Q step (suc k) None h u m = absurd (both_ways false refl m)
  members_keep Q step (suc k) (Some s) h u m = elim (or_cases (nat_eq u s) (is_member nat_eq (climb parents k (get_or parents (s - 1) None)) u) m) [
    | inl e ↦ subst Q (sym (eqb-true u s e)) (h s refl)
    | inr later ↦ members_keep Q step k (get_or parents (s - 1) None) (λ p e. step s p (h s refl) e) u later
  ]

  at_or_beyond : (s p u : ℕ) → lower s p ≡ true → (u ≡ p) ⊎ (lower p u ≡ true) → lower s u ≡ true
  at_or_beyond s p u up (inl e) = subst (λ v. lower s v ≡ true) (sym e) up
  at_or_beyond s p u up (inr h) = w.transitive s p u up h

  -- each member of the way up is the start or comes after it
  pub members_rise : (k s : ℕ) → 0 < s → s ≤ n → (u : ℕ) → is_member nat_eq (climb parents k (Some s)) u ≡ true → (u ≡ s) ⊎ (lower s u ≡ true)
  members_rise k s low high u m =
      (members_keep (λ v. ((0 < v) × (v ≤ n)) × ((v ≡ s) ⊎ (lower s v ≡ true)))
      (λ v p q e.
      let x = w.up v p q.0.0 q.0.1 e in (
        (x.0, x.1),
        inr (elim q.1 [
          | inl same ↦ subst (λ z. lower z p ≡ true) same x.2
          | inr after ↦ w.transitive s v p after x.2
        ]),
      ))
      k (Some s) (λ v e. let same : s ≡ v = same_Some s v e in subst (λ z. ((0 < z) × (z ≤ n)) × ((z ≡ s) ⊎ (lower s z ≡ true))) same ((low, high), inl refl)) u m).1

  -- each member of the way up from the parent comes after the set
  pub rest_rises : (k s : ℕ) → 0 < s → s ≤ n → (o : Option ℕ) → get_or parents (s - 1) None ≡ o → (u : ℕ) → is_member nat_eq (climb parents k o) u ≡ true → lower s u ≡ true
  rest_rises k s low high None e u m = absurd (both_ways _ (ap (λ l. is_member nat_eq l u) (climb_none parents k)) m)
  rest_rises k s low high (Some p) e u m =
      let x = w.up s p low high e in
      at_or_beyond s p u x.2 (members_rise k p x.0 x.1 u m)

  -- the way up has no number twice
  pub climb_distinct : (k : ℕ) (o : Option ℕ) → IsStart n o → IsDistinct nat_eq (climb parents k o)
  unfolding climb
  climb_distinct zero o h = distinct_none nat_eq
  climb_distinct (suc k) None h = distinct_none nat_eq
  climb_distinct (suc k) (Some s) h =
      let r = h s refl in
      let rest = climb parents k (get_or parents (s - 1) None) in
      distinct_more nat_eq s rest
      (false_from_ne_true (is_member nat_eq rest s) (λ m. both_ways (lower s s) (w.irreflexive s) (rest_rises k s r.0 r.1 (get_or parents (s - 1) None) refl s m)))
      (climb_distinct k (get_or parents (s - 1) None) (parent_start s r.0 r.1))

  -- from each member on, the way up is that of the member
  pub climb_suffix : (k : ℕ) (o : Option ℕ) → IsStart n o → (u : ℕ) → is_member nat_eq (climb parents k o) u ≡ true
      → (front : List ℕ) × (climb parents n o ≡ front ++ climb parents n (Some u))
  unfolding climb
  climb_suffix zero o h u m = absurd (both_ways false refl m)
  climb_suffix (suc k) None h u m = absurd (both_ways false refl m)
  climb_suffix (suc k) (Some s) h u m = elim (or_cases (nat_eq u s) (is_member nat_eq (climb parents k (get_or parents (s - 1) None)) u) m) [
    | inl e ↦ ([], ap (λ v. climb parents n (Some v)) (sym (eqb-true u s e)))
    | inr later ↦
        let r = h s refl in
        let (front, is) = climb_suffix k (get_or parents (s - 1) None) (parent_start s r.0 r.1) u later in
        (s ∷ front, climb_step s r.0 r.1 ∙ ap (λ l. s ∷ l) is)
  ]

  -- those with a property H, and what the parents say of them: the parent is the next that has it
  pub record IsWayUp (H : ℕ → Type 0) : Type 0 where
    pub known : (s : ℕ) → H s → (0 < s) × (s ≤ n)
    pub some : (s p : ℕ) → H s → get_or parents (s - 1) None ≡ Some p → H p × ((u : ℕ) → H u → lower s u ≡ true → (u ≡ p) ⊎ (lower p u ≡ true))
    pub none : (s : ℕ) → H s → get_or parents (s - 1) None ≡ None → (u : ℕ) → H u → lower s u ≡ false

  -- the entry is the first that has the property, or none where none has
  pub record IsFirstOf (H : ℕ → Type 0) (o : Option ℕ) : Type 0 where
    pub some : (s : ℕ) → o ≡ Some s → H s × ((u : ℕ) → H u → (u ≡ s) ⊎ (lower s u ≡ true))
    pub none : o ≡ None → (u : ℕ) → H u → ⊥

  next_of : (H : ℕ → Type 0) → IsWayUp H → (s : ℕ) → H s → (u : ℕ) → H u → lower s u ≡ true → (o : Option ℕ) → get_or parents (s - 1) None ≡ o
      → (p : ℕ) × (o ≡ Some p) × H p × (lower s p ≡ true) × (0 < p) × (p ≤ n) × ((u ≡ p) ⊎ (lower p u ≡ true))
  next_of H way s h u hu after None e = absurd (both_ways _ (way.none s h e u hu) after)
  next_of H way s h u hu after (Some p) e =
      let r = way.known s h in
      let x = w.up s p r.0 r.1 e in
      let y = way.some s p h e in
      (p, refl, y.0, x.2, x.0, x.1, y.1 u hu after)

  -- each that has the property, from the start on, is met, where the steps are enough
  all_met : (H : ℕ → Type 0) → IsWayUp H → (k s : ℕ) → H s → beyond s < k → (u : ℕ) → H u → (u ≡ s) ⊎ (lower s u ≡ true) → is_member nat_eq (climb parents k (Some s)) u ≡ true
  unfolding climb
  all_met H way zero s h enough u hu at = absurd (omega arith)
  all_met H way (suc k) s h enough u hu (inl e) = or_left (nat_eq u s) _ (eq-eqb u s e)
  all_met H way (suc k) s h enough u hu (inr after) =
      let (p, is, hp, up, low, high, rest) = next_of H way s h u hu after (get_or parents (s - 1) None) refl in
      let f = beyond_falls s p low high up in
      let m = all_met H way k p hp (omega (arith, f, enough)) u hu rest in
      or_right (nat_eq u s) _ (subst (λ o. is_member nat_eq (climb parents k o) u ≡ true) (sym is) m)

  -- from one that has the property on, the way up meets each that has it and is no lower
  pub climb_meets : (H : ℕ → Type 0) → IsWayUp H → (s : ℕ) → H s → (u : ℕ) → H u → (u ≡ s) ⊎ (lower s u ≡ true) → is_member nat_eq (climb parents n (Some s)) u ≡ true
  climb_meets H way s h u hu at = let r = way.known s h in all_met H way n s h (beyond_few s r.0 r.1) u hu at

  -- the way up from the first has exactly those with the property
  pub climb_has : (H : ℕ → Type 0) → IsWayUp H → (o : Option ℕ) → IsFirstOf H o → (u : ℕ) → is_member nat_eq (climb parents n o) u ≡ true ↔ H u
  climb_has H way None f u =
      (λ m. absurd (both_ways _ (ap (λ l. is_member nat_eq l u) (climb_none parents n)) m), λ h. absurd (f.none refl u h))
  climb_has H way (Some s) f u =
      let x = f.some s refl in (
        λ m. members_keep H (λ v p h e. (way.some v p h e).0) n (Some s) (λ v e. (f.some v e).0) u m,
        λ h. climb_meets H way s x.0 u h (x.1 u h),
      )
