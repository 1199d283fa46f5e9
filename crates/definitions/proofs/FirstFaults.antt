-- First faults and first findings: how a loop finds them from the left, and that what it finds is the first.
use Rattle.std.proofs.Common.{◌≡◌, ◌<◌, ◌≤◌, ◌+◌, ◌-◌, [], ℕ, suc, zero, List, Option, Some, None, refl, sym, ap, length, take, drop, get_or, arith, ◌∙◌, inl, inr, add-one, drop-cons}
use Rattle.std.specs.Prelude.{slice_get}
use Rattle.std.specs.Option.{option_or}
use Rattle.std.proofs.lemmas.Bool.{cases_lt}
use Rattle.std.proofs.lemmas.Option.{slice_get_cases, slice_get_within, get_or_from_slice_get}
use Rattle.std.proofs.lemmas.List.{take_more, drop_all, take_all, length-take}
use Rattle.definitions.specs.Firsts.{fault_after, numbered, AreLawful, IsFirstFault, first_in, NoFinding, IsFirstFinding}

module _ {R K : Type 0} (check : List R → R → Option K) (at_end : List R → Option K) (rows : List R) where
  -- a lawful record: the fault is that of the records after it
  pub fault-next : (i : ℕ) (d : R) → i < length rows → check (take i rows) (get_or rows i d) ≡ None
      → fault_after check at_end (take i rows) (drop i rows) ≡ fault_after check at_end (take (i + 1) rows) (drop (i + 1) rows)
  unfolding fault_after
  fault-next i d l e = rw (drop-cons rows i d, e, take_more rows i d l, add-one) refl

  -- an unlawful record is the fault
  pub fault-here : (i : ℕ) (d : R) (k : K) → i < length rows → check (take i rows) (get_or rows i d) ≡ Some k
      → fault_after check at_end (take i rows) (drop i rows) ≡ Some (length (take i rows) + 1, k)
  unfolding fault_after
  fault-here i d k l e = rw (drop-cons rows i d, e) refl

  -- past the last record, the fault is that at the end
  pub fault-end : (i : ℕ) → length rows ≤ i → fault_after check at_end (take i rows) (drop i rows) ≡ numbered rows (at_end rows)
  unfolding fault_after
  fault-end i l = rw (take_all i rows l, drop_all i rows l) refl

-- the number of the record after a front
pub number-here : {A : Type 0} (rows : List A) (i : ℕ) → i < length rows → length (take i rows) + 1 ≡ i + 1
number-here rows i l = omega (arith, length-take i rows)

-- the fault at the end
pub fault-at-end : {R K : Type 0} (check : List R → R → Option K) (at_end : List R → Option K) (rows : List R) (i n : ℕ) (k : K) → length rows ≤ i → n ≡ length rows + 1 → at_end rows ≡ Some k
    → fault_after check at_end (take i rows) (drop i rows) ≡ Some (n, k)
fault-at-end check at_end rows i n k l m e = fault-end check at_end rows i l ∙ rw (e, m) refl

numbered-some : {K : Type 0} (n m : ℕ) (x k : K) → Path (Option (ℕ × K)) (Some (m, x)) (Some (n, k)) → (n ≡ m) × (x ≡ k)
numbered-some {K} n m x k e = let p : (m, x) ≡ (n, k) = cc e in (sym (ap (λ (q : ℕ × K). q.0) p), ap (λ (q : ℕ × K). q.1) p)

module _ {R K : Type 0} (check : List R → R → Option K) (at_end : List R → Option K) (rows : List R) where
  -- past lawful records
  pub fault-past : (i : ℕ) → i ≤ length rows → AreLawful check rows i → fault_after check at_end [] rows ≡ fault_after check at_end (take i rows) (drop i rows)
  fault-past zero l a = refl
  fault-past (suc i) l a = elim (slice_get_cases rows i).1 [
    | inl h ↦
        let before = fault-past i (omega arith) (λ j q lt s. a j q (omega arith) s) in
        let here = a i h.0 (omega arith) h.2 in
        before ∙ (rw add-one at (fault-next check at_end rows i h.0 h.1 (rw h.3 here)))
    | inr h ↦ absurd (omega (arith, h.0))
  ]

  -- the first fault is found
  pub first-fault : (n : ℕ) (k : K) → IsFirstFault check at_end rows n k → fault_after check at_end [] rows ≡ Some (n, k)
  first-fault n k (inl h) =
      let (i, r, m, s, c, a) = h in
      let lt = slice_get_within rows i r s in
      let g = get_or_from_slice_get rows i r r s in
      fault-past i (omega (arith, lt)) a ∙ fault-here check at_end rows i r k lt (rw g c) ∙ rw (number-here rows i lt, m) refl
  first-fault n k (inr h) = fault-past (length rows) (omega arith) h.2 ∙ fault-at-end check at_end rows (length rows) n k (omega arith) h.0 h.1

  -- one more lawful record
  pub lawful-more : (i : ℕ) (x : R) → AreLawful check rows i → slice_get rows i ≡ Some x → check (take i rows) x ≡ None → AreLawful check rows (i + 1)
  lawful-more i x a s c j q lt t = elim (cases_lt j i) [
    | inl below ↦ a j q below t
    | inr from ↦
        let same : j ≡ i = omega arith in
        let q-is : x ≡ q = let u = rw same at t in cc (sym s ∙ u) in
        rw (same, ← q-is) c
  ]

  -- the search from record i on
  found-from : (m i n : ℕ) (k : K) → i + m ≡ length rows → AreLawful check rows i → fault_after check at_end (take i rows) (drop i rows) ≡ Some (n, k) → IsFirstFault check at_end rows n k
  found-from zero i n k e a f =
      let end = sym (fault-end check at_end rows i (omega arith)) ∙ f in
      by (omega arith) (at_end rows) refl end
    where
      by : i ≡ length rows → (o : Option K) → at_end rows ≡ o → numbered rows (at_end rows) ≡ Some (n, k) → IsFirstFault check at_end rows n k
      by same None g h = cc (rw g at h)
      by same (Some x) g h = let p = numbered-some n (length rows + 1) x k (rw g at h) in inr (p.0, g ∙ ap (λ (y : K). Some y) p.1, rw same at a)
  found-from (suc m) i n k e a f = elim (slice_get_cases rows i).1 [
    | inl h ↦ by h.0 h.1 h.2 h.3 (check (take i rows) h.0) refl (λ b g. found-from m (i + 1) n k (omega arith) b g)
    | inr h ↦ absurd (omega (arith, h.0))
  ]
    where
      by : (x : R) → i < length rows → slice_get rows i ≡ Some x → get_or rows i x ≡ x → (o : Option K) → check (take i rows) x ≡ o
          → (AreLawful check rows (i + 1) → fault_after check at_end (take (i + 1) rows) (drop (i + 1) rows) ≡ Some (n, k) → IsFirstFault check at_end rows n k) → IsFirstFault check at_end rows n k
      by x lt s g None c more = more (lawful-more i x a s c) (sym (fault-next check at_end rows i x lt (rw g c)) ∙ f)
      by x lt s g (Some y) c more =
          let p = numbered-some n (length (take i rows) + 1) y k (sym (fault-here check at_end rows i x y lt (rw g c)) ∙ f) in
          inl (i, x, p.0 ∙ number-here rows i lt, s, c ∙ ap (λ (z : K). Some z) p.1, a)

  -- what is found is the first fault
  pub fault-is-first : (n : ℕ) (k : K) → fault_after check at_end [] rows ≡ Some (n, k) → IsFirstFault check at_end rows n k
  fault-is-first n k f = found-from (length rows) 0 n k (omega arith) (λ j q lt s. absurd (omega arith)) f

module _ {F : Type 0} (look : ℕ → Option F) where
  -- the first of one place and those after it
  first-at : (i m : ℕ) → 0 < m → first_in look i m ≡ option_or (look i) (first_in look (i + 1) (m - 1))
  first-at i zero h = absurd (omega arith)
  first-at i (suc m) h = let e : m ≡ suc m - 1 = omega arith in ap (λ n. option_or (look i) (first_in look (i + 1) n)) e

  -- nothing here: the first finding is that of the places after it
  pub first-passes : (i n : ℕ) → i < n → look i ≡ None → first_in look i (n - i) ≡ first_in look (i + 1) (n - (i + 1))
  first-passes i n h e =
      let c : n - i - 1 ≡ n - (i + 1) = omega arith in
      first-at i (n - i) (omega arith) ∙ ap (λ o. option_or o (first_in look (i + 1) (n - i - 1))) e ∙ ap (λ m. first_in look (i + 1) m) c

  -- a finding here is the first
  pub first-found : (i n : ℕ) (f : F) → i < n → look i ≡ Some f → first_in look i (n - i) ≡ Some f
  first-found i n f h e = first-at i (n - i) (omega arith) ∙ ap (λ o. option_or o (first_in look (i + 1) (n - i - 1))) e

  -- no place is left
  pub first-ends : (i n : ℕ) → n ≤ i → first_in look i (n - i) ≡ None
  first-ends i n h = let e : n - i ≡ 0 = omega arith in ap (λ m. first_in look i m) e

  -- one place before those where nothing is found
  none-more : (start count : ℕ) → look start ≡ None → NoFinding look (start + 1) count → NoFinding look start (suc count)
  none-more start count e h k low high = elim (cases_lt start k) [
    | inl after ↦ h k (omega arith) (omega arith)
    | inr from ↦ let same : k ≡ start = omega arith in rw same e
  ]

  -- nothing is found where no place has a finding
  pub none-in : (start count : ℕ) → NoFinding look start count → first_in look start count ≡ None
  none-in start zero h = refl
  none-in start (suc count) h = rw (h start (omega arith) (omega arith)) (none-in (start + 1) count (λ k low high. h k (omega arith) (omega arith)))

  -- and only there
  pub none-is-in : (start count : ℕ) → first_in look start count ≡ None → NoFinding look start count
  none-is-in start zero e = λ k low high. absurd (omega arith)
  none-is-in start (suc count) e = by (look start) refl e (none-is-in (start + 1) count)
    where
      by : (o : Option F) → look start ≡ o → option_or o (first_in look (start + 1) count) ≡ None
          → (first_in look (start + 1) count ≡ None → NoFinding look (start + 1) count) → NoFinding look start (suc count)
      by None g h more = none-more start count g (more h)
      by (Some f) g h more = cc h

  -- the first finding is found
  pub first-in : (start count : ℕ) (f : F) → IsFirstFinding look start count f → first_in look start count ≡ Some f
  first-in start zero f h = absurd (omega (arith, h.1, h.2))
  first-in start (suc count) f (k, low, high, e, before) = elim (cases_lt start k) [
    | inl after ↦
        let first : look start ≡ None = before start (omega arith) (omega arith) in
        rw first (first-in (start + 1) count f (k, omega arith, omega arith, e, λ j l m. before j (omega arith) (omega arith)))
    | inr from ↦ let same : k ≡ start = omega arith in rw (rw same at e) refl
  ]

  -- the same from one place before
  none-past : (start k : ℕ) → look start ≡ None → start + 1 ≤ k → NoFinding look (start + 1) (k - (start + 1)) → NoFinding look start (k - start)
  none-past start k g low before j l m = elim (cases_lt start j) [
    | inl after ↦ before j (omega arith) (omega arith)
    | inr from ↦ let same : j ≡ start = omega arith in rw same g
  ]

  -- what is found is the first finding
  pub found-is-first : (start count : ℕ) (f : F) → first_in look start count ≡ Some f → IsFirstFinding look start count f
  found-is-first start zero f e = cc e
  found-is-first start (suc count) f e = by (look start) refl e (found-is-first (start + 1) count f)
    where
      by : (o : Option F) → look start ≡ o → option_or o (first_in look (start + 1) count) ≡ Some f
          → (first_in look (start + 1) count ≡ Some f → IsFirstFinding look (start + 1) count f) → IsFirstFinding look start (suc count) f
      by None g h more =
          let (k, low, high, found, before) = more h in
          (k, omega arith, omega arith, found, none-past start k g low before)
      by (Some x) g h more = (start, omega arith, omega arith, g ∙ h, λ j l m. absurd (omega arith))
