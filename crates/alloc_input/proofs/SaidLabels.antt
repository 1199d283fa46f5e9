-- What a word of an `in` record means: `*`, a name, or a label, which is the name of a group or bundle.
use Rattle.std.proofs.Common.{◌≡◌, ◌∙◌, ◌==◌, ◌<◌, ◌++◌, ◌||◌, ◌&&◌, ◌∷◌, [], ℕ, List, Option, Some, None, Bool, true, false, cond, refl, sym, ap, filter, length, map, get_or, arith, inl, inr}
use Rattle.std.specs.Prelude.{codes, is_some, nat_le, nat_lt, not, option_map, slice_get}
use Rattle.std.specs.List.{IsDistinct, list_all, list_any}
use Rattle.std.specs.Str.{bytes_eq, chars, is_utf8}
use Rattle.std.proofs.Math.Bool.{or-false}
use Rattle.std.proofs.lemmas.Bool.{and_parts, both_ways, cases_Bool, eqb-true, false_from_ne_true, not-true, or_parts}
use Rattle.std.proofs.lemmas.List.{get_or-map, length-map}
use Rattle.std.proofs.lemmas.List.Folds.{list_any-append, list_any_at, list_any_none}
use Rattle.std.proofs.lemmas.List.Quantifiers.{position-Some}
use Rattle.std.proofs.lemmas.Option.{get_or_from_slice_get, slice_get-map, slice_get_within}
use Rattle.definitions.specs.Texts.{Row, field, has_name, is_name, is_plain, name_index}
use Rattle.definitions.proofs.Members.{name_test}
use Rattle.table_text.proofs.KnownNames.{is_some-name_index}
use Rattle.alloc_input.specs.Cells.{has_number, numbers_to}
use Rattle.alloc_input.specs.SaidQuotas.{is_number, lists_number, means, numbers_listed}
use Rattle.alloc_input.specs.Stated.{bind_number, listed, numbers_named}
use Rattle.alloc_input.proofs.DeclaredSets.{place-of}
use Rattle.alloc_input.proofs.NumberFacts.{has-range}
use Rattle.alloc_input.proofs.NamePlaces.{distinct-new}

-- labels: no two of them are the same, and none is `*` or one of the names
pub record AreLabels (names labels : List (List ℕ)) : Type 0 where
  pub distinct : IsDistinct bytes_eq labels
  pub apart : (text : List ℕ) → has_name labels text ≡ true → (bytes_eq text (codes "*") ≡ false) × (has_name names text ≡ false)

pub no-labels : (names : List (List ℕ)) → AreLabels names []
unfolding IsDistinct
no-labels names = record { distinct = tt; apart = λ text e. absurd (cc e) }

-- a lawful name is not `*`
not-star : (name : List ℕ) → is_name name ≡ true → bytes_eq name (codes "*") ≡ false
not-star name e =
    let some = and_parts (nat_lt 0 (length name)) (nat_le (length name) 64 && (not (bytes_eq name (codes "*")) && (is_utf8 name && list_all is_plain (chars name)))) e in
    let short = and_parts (nat_le (length name) 64) (not (bytes_eq name (codes "*")) && (is_utf8 name && list_all is_plain (chars name))) some.1 in
    not-true (bytes_eq name (codes "*")) (and_parts (not (bytes_eq name (codes "*"))) (is_utf8 name && list_all is_plain (chars name)) short.1).0

-- one more label
pub label-more : (names labels : List (List ℕ)) (name : List ℕ) → is_name name ≡ true → has_name names name ≡ false → has_name labels name ≡ false → AreLabels names labels → AreLabels names (labels ++ name ∷ [])
label-more names labels name lawful apart new h = record {
  distinct = distinct-new labels name new h.distinct;
  apart = λ text e. by text (has_name labels text) refl (list_any-append (bytes_eq text) labels (name ∷ [])) e;
}
  where
    by : (text : List ℕ) (b : Bool) → has_name labels text ≡ b → has_name (labels ++ name ∷ []) text ≡ (has_name labels text || (bytes_eq text name || false)) → has_name (labels ++ name ∷ []) text ≡ true
        → (bytes_eq text (codes "*") ≡ false) × (has_name names text ≡ false)
    by text true is sum e = h.apart text is
    by text false is sum e =
        let same : text ≡ name = name_test.sound text name (sym (or-false (bytes_eq text name)) ∙ ap (λ b. b || (bytes_eq text name || false)) (sym is) ∙ sym sum ∙ e) in
        (ap (λ t. bytes_eq t (codes "*")) same ∙ not-star name lawful, ap (has_name names) same ∙ apart)

-- ---- the numbers that a word names

-- a number below n that passes is picked
has-picked : (p : ℕ → Bool) (n i : ℕ) → i < n → has_number (filter p (numbers_to n)) i ≡ p i
has-picked p n i l = picks p (numbers_to n) i ∙ rw (has-range 0 n i (omega arith) (omega arith)) refl
  where
    and-false : (b : Bool) → (b && false) ≡ false
    and-false true = refl
    and-false false = refl

    picks : (p : ℕ → Bool) (xs : List ℕ) (i : ℕ) → has_number (filter p xs) i ≡ (has_number xs i && p i)
    picks p [] i = refl
    picks p (x ∷ xs) i = elim (cases_Bool (x == i)) [
      | inl same ↦ elim (cases_Bool (p x)) [
        | inl passes ↦ (let pi : p i ≡ true = ap p (sym (eqb-true x i same)) ∙ passes in rw (passes, same, pi) refl)
        | inr fails ↦ (let pi : p i ≡ false = ap p (sym (eqb-true x i same)) ∙ fails in rw (fails, same, pi) (picks p xs i ∙ rw pi (and-false (has_number xs i))))
      ]
      | inr other ↦ elim (cases_Bool (p x)) [
        | inl passes ↦ rw (passes, other) (picks p xs i)
        | inr fails ↦ rw (fails, other) (picks p xs i)
      ]
    ]

-- a word that is no label
no-label : (qs : List Row) (text : List ℕ) (p : Row → Bool) → has_name (map (λ r. field r 1) qs) text ≡ false → list_any (λ r. bytes_eq (field r 1) text && p r) qs ≡ false
no-label [] text p e = refl
no-label (q ∷ qs) text p e =
    let parts = or_parts (bytes_eq text (field q 1)) (has_name (map (λ r. field r 1) qs) text) e in
    rw (name_test.turned (field q 1) text, parts.0) (no-label qs text p parts.1)

module _ (names : List (List ℕ)) (qs : List Row) where
  abbrev labels : List (List ℕ)
  labels = map (λ r. field r 1) qs

  -- a label stands at one place
  label-at : (text : List ℕ) (j k : ℕ) (d : Row) → AreLabels names labels → name_index labels text ≡ Some j → k < length qs → bytes_eq (field (get_or qs k d) 1) text ≡ true → k ≡ j
  label-at text j k d h e l same =
      let named : get_or labels k [] ≡ field (get_or qs k d) 1 = get_or-map (λ r. field r 1) qs k d [] l in
      let is : get_or labels k [] ≡ text = named ∙ name_test.sound (field (get_or qs k d) 1) text same in
      let at = place-of labels k h.distinct (omega (arith, l, length-map qs (λ r. field r 1))) in
      let both : Some k ≡ Some j = sym at ∙ ap (name_index labels) is ∙ e in
      cc both

  -- the record of a label
  one-label : (text : List ℕ) (p : Row → Bool) (j : ℕ) (q : Row) → AreLabels names labels → name_index labels text ≡ Some j → slice_get qs j ≡ Some q → (b : Bool) → p q ≡ b
      → list_any (λ r. bytes_eq (field r 1) text && p r) qs ≡ b
  one-label text p j q h e s true passes =
      let l = slice_get_within qs j q s in
      let at = get_or_from_slice_get qs j q q s in
      let here = (position-Some (bytes_eq text) labels j [] e).1 in
      let same : bytes_eq (field q 1) text ≡ true = name_test.turned (field q 1) text ∙ ap (bytes_eq text) (sym (get_or-map (λ r. field r 1) qs j q [] l ∙ ap (λ r. field r 1) at)) ∙ here in
      list_any_at (λ r. bytes_eq (field r 1) text && p r) qs j q l (rw at (rw (same, passes) refl))
  one-label text p j q h e s false fails =
      list_any_none (λ r. bytes_eq (field r 1) text && p r) qs (λ k d l. by k d l (bytes_eq (field (get_or qs k d) 1) text) refl)
    where
      by : (k : ℕ) (d : Row) → k < length qs → (b : Bool) → bytes_eq (field (get_or qs k d) 1) text ≡ b → (bytes_eq (field (get_or qs k d) 1) text && p (get_or qs k d)) ≡ false
      by k d l false other = rw other refl
      by k d l true same =
          let here = label-at text j k d h e l same in
          let at : get_or qs k d ≡ q = ap (λ i. get_or qs i d) here ∙ get_or_from_slice_get qs j q d s in
          rw (same, at) fails

  -- a word that names numbers means those
  pub word-means : (text : List ℕ) (xs : List ℕ) (i : ℕ) → AreLabels names labels → i < length names → numbers_named names labels (map (numbers_listed names) qs) text ≡ Some xs → has_number xs i ≡ means names qs i text
  unfolding numbers_named
  word-means text xs i h l e = star (bytes_eq text (codes "*")) refl e
    where
      by-label : (o : Option ℕ) → name_index labels text ≡ o → bind_number (slice_get (map (numbers_listed names) qs)) o ≡ Some xs → has_number xs i ≡ list_any (λ r. bytes_eq (field r 1) text && lists_number names i r) qs
      by-label None is named = absurd (cc named)
      by-label (Some j) is named = at (slice_get qs j) refl (sym (slice_get-map (numbers_listed names) qs j) ∙ named)
        where
          at : (o : Option Row) → slice_get qs j ≡ o → option_map (numbers_listed names) o ≡ Some xs → has_number xs i ≡ list_any (λ r. bytes_eq (field r 1) text && lists_number names i r) qs
          at None there listed = absurd (cc listed)
          at (Some q) there listed =
              let same : numbers_listed names q ≡ xs = cc listed in
              ap (λ ys. has_number ys i) (sym same) ∙ has-picked (λ k. lists_number names k q) (length names) i l
              ∙ sym (one-label text (lists_number names i) j q h is there (lists_number names i q) refl)

      by-name : (o : Option ℕ) → name_index names text ≡ o → listed o (bind_number (slice_get (map (numbers_listed names) qs)) (name_index labels text)) ≡ Some xs
          → has_number xs i ≡ (is_number i o || list_any (λ r. bytes_eq (field r 1) text && lists_number names i r) qs)
      by-name None is named = by-label (name_index labels text) refl named
      by-name (Some a) is named =
          let same : a ∷ [] ≡ xs = cc named in
          let known : has_name names text ≡ true = sym (is_some-name_index names text) ∙ ap is_some is in
          let none : has_name labels text ≡ false = false_from_ne_true (has_name labels text) (λ label. both_ways (has_name names text) (h.apart text label).1 known) in
          ap (λ ys. has_number ys i) (sym same) ∙ rw (no-label qs text (lists_number names i) none) refl

      star : (b : Bool) → bytes_eq text (codes "*") ≡ b → cond b (Some (numbers_to (length names))) (listed (name_index names text) (bind_number (slice_get (map (numbers_listed names) qs)) (name_index labels text))) ≡ Some xs
          → has_number xs i ≡ means names qs i text
      star true is named =
          let same : numbers_to (length names) ≡ xs = cc named in
          rw is (ap (λ ys. has_number ys i) (sym same) ∙ has-range 0 (length names) i (omega arith) (omega arith))
      star false is named = rw is (by-name (name_index names text) refl named)
