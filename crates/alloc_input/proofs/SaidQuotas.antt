-- The sets that lawful records of quotas say, in the words of the records.
use Rattle.std.proofs.Common.{◌≡◌, ◌∙◌, ◌==◌, ◌<◌, ◌||◌, ◌&&◌, ◌++◌, ◌∷◌, [], ℕ, suc, List, Option, Some, None, Bool, true, false, All, cond, refl, sym, ap, subst, filter, length, map, get_or, arith, inl, inr}
use Rattle.std.specs.Prelude.{codes, not, slice_get, unwrap_or}
use Rattle.std.specs.List.{list_any}
use Rattle.std.specs.Str.{bytes_eq}
use Rattle.std.proofs.lemmas.Bool.{cases_Bool, cases_eq, eq-eqb, false_from_ne_true, ne_eqb}
use Rattle.std.proofs.lemmas.List.{append-nil}
use Rattle.std.proofs.lemmas.List.Elements.{All-cons, All-head, All-nil, All-tail}
use Rattle.std.proofs.lemmas.Option.{get_or_from_slice_get, slice_get_within}
use Rattle.definitions.specs.declared.Cell.{Cell}
use Rattle.definitions.specs.Sets.{all_cells}
use Rattle.definitions.specs.Texts.{Row, field}
use Rattle.definitions.proofs.Cells.{member_is_within}
use Rattle.definitions.proofs.Members.{name_test}
use Rattle.definitions.proofs.Passed.{fault-keeps}
use Rattle.table_text.specs.Records.{begins_with, records_of}
use Rattle.alloc_input.specs.Cells.{has_number}
use Rattle.alloc_input.specs.Quotas.{check_record, quotas_fault}
use Rattle.alloc_input.specs.SaidQuotas.{adds_cell, column_set, is_number, listed_set, means, row_set, set_of, set_records, states_set}
use Rattle.alloc_input.specs.Stated.{Setting, Stated, add_kind, agents_named, ceiling_at, columns_named, floor_at, place_named, side_of, stated_by, stated_from, word_of}
use Rattle.alloc_input.specs.declared.quotas.words.Word.{Word}
use Rattle.alloc_input.specs.declared.quotas.words.Word.TheVariants as word
use Rattle.alloc_input.proofs.CellFacts.{filter_same}
use Rattle.alloc_input.proofs.SaidChecks.{IsPassed, bundle-passed, group-passed, next-passed}
use Rattle.alloc_input.proofs.SaidFields.{bundles-said, bundles-step, contents-said, groups-said, groups-step, members-said}
use Rattle.alloc_input.proofs.SaidLabels.{AreLabels, label-more, no-labels, word-means}
use Rattle.alloc_input.proofs.SaidLookups.{kept-same, place_by}
use Rattle.alloc_input.proofs.SaidPlaces.{stated-more}
use Rattle.alloc_input.proofs.SaidSets.{IsKnown, hits, listed_by, made, sets-stand}
use Rattle.alloc_input.proofs.SaidWords.{is_kind}

-- ---- the labels

-- the groups and the bundles are labels
record AreLabelled (g : Setting) (st : Stated) : Type 0 where
  groups : AreLabels g.agents st.groups
  bundles : AreLabels g.objects st.bundles

labels-more : (g : Setting) (before : List Row) (r : Row) → check_record g before r ≡ None → AreLabelled g (stated_by g before) → AreLabelled g (stated_by g (before ++ r ∷ []))
unfolding check_record
labels-more g before r c h = subst (AreLabelled g) (sym (stated-more g before r)) (by (word_of (field r 0)) (next-passed g (stated_by g before) r c))
  where
    st : Stated
    st = stated_by g before

    stays : (o : Option Word) → is_kind word.Group o ≡ false → is_kind word.Bundle o ≡ false → AreLabelled g (add_kind o g st r)
    stays o no_group no_bundle = record {
      groups = rw (groups-step g o r st, no_group, append-nil st.groups) h.groups;
      bundles = rw (bundles-step g o r st, no_bundle, append-nil st.bundles) h.bundles;
    }

    by : (o : Option Word) → IsPassed o g st r → AreLabelled g (add_kind o g st r)
    by (Some word.Group) p =
        let passed = group-passed g st r p.1 in
        record {
          groups = rw (groups-step g (Some word.Group) r st) (label-more g.agents st.groups (field r 1) passed.lawful passed.apart passed.new h.groups);
          bundles = rw (bundles-step g (Some word.Group) r st, append-nil st.bundles) h.bundles;
        }
    by (Some word.Bundle) p =
        let passed = bundle-passed g st r p.1 in
        record {
          groups = rw (groups-step g (Some word.Bundle) r st, append-nil st.groups) h.groups;
          bundles = rw (bundles-step g (Some word.Bundle) r st) (label-more g.objects st.bundles (field r 1) passed.lawful passed.apart passed.new h.bundles);
        }
    by None p = stays None refl refl
    by (Some w) p = stays (Some w) refl refl

labelled : (g : Setting) (rows : List Row) → quotas_fault g rows ≡ None → AreLabelled g (stated_by g rows)
unfolding stated_from
labelled g rows e = fault-keeps (check_record g) (λ _. None) (λ rows. AreLabelled g (stated_by g rows)) (labels-more g) [] rows e (record { groups = no-labels g.agents; bundles = no-labels g.objects })

-- ---- the sets

all-pass : {X : Type 0} (p : X → Bool) (xs : List X) → All (λ x. p x ≡ true) (filter p xs)
all-pass p [] = All-nil (λ x. p x ≡ true)
all-pass p (x ∷ xs) = elim (cases_Bool (p x)) [
  | inl passes ↦ rw passes (All-cons (λ x. p x ≡ true) x (filter p xs) passes (all-pass p xs))
  | inr fails ↦ rw fails (all-pass p xs)
]

passes-filter : {X : Type 0} (p : X → Bool) (xs : List X) (k : ℕ) (x : X) → slice_get (filter p xs) k ≡ Some x → p x ≡ true
passes-filter p xs k x e = ap p (sym (get_or_from_slice_get (filter p xs) k x x e)) ∙ all-pass p xs k x (slice_get_within (filter p xs) k x e)

list-same : {X Y : Type 0} (f : Y → X) (xs : List X) (ys : List Y) → length xs ≡ length ys → ((k : ℕ) (y : Y) → slice_get ys k ≡ Some y → slice_get xs k ≡ Some (f y)) → xs ≡ map f ys
list-same f [] [] l h = refl
list-same f [] (y ∷ ys) l h = absurd (omega (arith, l))
list-same f (x ∷ xs) [] l h = absurd (omega (arith, l))
list-same f (x ∷ xs) (y ∷ ys) l h =
    let here : x ≡ f y = cc (h 0 y refl) in
    rw (here, list-same f xs ys (omega (arith, l)) (λ k z e. h (suc k) z e)) refl

any-same : {X : Type 0} (p q : X → Bool) (xs : List X) → All (λ x. p x ≡ q x) xs → list_any p xs ≡ list_any q xs
any-same p q [] h = refl
any-same p q (x ∷ xs) h = rw (All-head (λ x. p x ≡ q x) x xs h, any-same p q xs (All-tail (λ x. p x ≡ q x) x xs h)) refl

module _ (g : Setting) (rows : List Row) (e : quotas_fault g rows ≡ None) where
  -- a word of an `in` record, for agents and for columns
  agents-mean : (q : Row) (xs : List ℕ) (i : ℕ) → i < length g.agents → agents_named g (stated_by g rows) q ≡ Some xs → has_number xs i ≡ means g.agents (records_of (codes "group") rows) i (field q 2)
  agents-mean q xs i l named =
      word-means g.agents (records_of (codes "group") rows) (field q 2) xs i (rw (groups-said g rows) at (labelled g rows e).groups) l (rw (groups-said g rows, members-said g rows) at named)

  columns-mean : (q : Row) (xs : List ℕ) (i : ℕ) → i < length g.objects → columns_named g (stated_by g rows) q ≡ Some xs → has_number xs i ≡ means g.objects (records_of (codes "bundle") rows) i (field q 3)
  columns-mean q xs i l named =
      word-means g.objects (records_of (codes "bundle") rows) (field q 3) xs i (rw (bundles-said g rows) at (labelled g rows e).bundles) l (rw (bundles-said g rows, contents-said g rows) at named)

  -- an `in` record leads to set k exactly where it has the name of that set's record
  same-name : (k : ℕ) (s q : Row) (p : ℕ) → slice_get (set_records g rows) k ≡ Some s → begins_with (codes "set") s ≡ true → place_named (stated_by g rows) q ≡ Some p → (p == k) ≡ bytes_eq (field q 1) (field s 1)
  same-name k s q p at is_set leads = elim (cases_eq p k) [
    | inl here ↦
        let (found, there, begins, name) = (sets-stand g rows e).0.from (field q 1) p leads in
        let same : found ≡ s = cc (sym there ∙ ap (slice_get (set_records g rows)) here ∙ at) in
        let named : field s 1 ≡ field q 1 = ap (λ r. field r 1) (sym same) ∙ name in
        eq-eqb p k here ∙ sym (subst (λ x. bytes_eq (field q 1) x ≡ true) (sym named) (name_test.self (field q 1)))
    | inr apart ↦ ne_eqb p k apart ∙ sym (false_from_ne_true (bytes_eq (field q 1) (field s 1)) (λ same.
        let named = name_test.sound (field q 1) (field s 1) same in
        let both : Some p ≡ Some k = sym leads ∙ ap (place_by (stated_by g rows)) named ∙ (sets-stand g rows e).0.each k s at is_set in
        apart (cc both)))
  ]

  -- an `in` record adds a cell by its words
  same-hit : (k : ℕ) (s : Row) → slice_get (set_records g rows) k ≡ Some s → begins_with (codes "set") s ≡ true → (c : Cell) → c.agent < length g.agents → c.object < length g.objects
      → (q : Row) → IsKnown g (length (set_records g rows)) (stated_by g rows) q → hits g (stated_by g rows) k c q ≡ (bytes_eq (field q 1) (field s 1) && adds_cell g rows c q)
  same-hit k s at is_set c agent object q known =
      let place = ap (is_number k) known.at_place ∙ same-name k s q known.place at is_set known.at_place in
      let agents = ap (λ o. has_number (unwrap_or o []) c.agent) known.of_agents ∙ agents-mean q known.agents c.agent agent known.of_agents in
      let columns = ap (λ o. has_number (unwrap_or o []) c.object) known.of_columns ∙ columns-mean q known.columns c.object object known.of_columns in
      rw (place, agents, columns) refl

  -- the cells of the set of a `set` record
  same-listed : (k : ℕ) (s : Row) → slice_get (set_records g rows) k ≡ Some s → begins_with (codes "set") s ≡ true → listed_by g (stated_by g rows) (records_of (codes "in") rows) k s ≡ listed_set g rows s
  same-listed k s at is_set =
      ap (λ (cells : List Cell). record { side = side_of (field s 2); floor = floor_at s 3; ceiling = ceiling_at s 4; cells = cells })
      (filter_same (λ c. list_any (hits g (stated_by g rows) k c) (records_of (codes "in") rows)) (λ c. list_any (λ q. bytes_eq (field q 1) (field s 1) && adds_cell g rows c q) (records_of (codes "in") rows))
      (all_cells (length g.agents) (length g.objects)) (λ c h.
      let within = member_is_within (length g.agents) (length g.objects) c h in
      any-same (hits g (stated_by g rows) k c) (λ q. bytes_eq (field q 1) (field s 1) && adds_cell g rows c q) (records_of (codes "in") rows)
      (λ j d l. same-hit k s at is_set c within.0 within.1 (get_or (records_of (codes "in") rows) j d) ((sets-stand g rows e).1.known j d l))))

  same-set : (k : ℕ) (s : Row) → slice_get (set_records g rows) k ≡ Some s → made g (stated_by g rows) (records_of (codes "in") rows) k s ≡ set_of g rows s
  same-set k s at = by (begins_with (codes "object") s) (begins_with (codes "agent") s) refl refl (passes-filter (states_set g) rows k s at)
    where
      is-set : (b c : Bool) → (b || (false && c)) ≡ true → b ≡ true
      is-set true c h = refl
      is-set false c h = h

      by : (object agent : Bool) → begins_with (codes "object") s ≡ object → begins_with (codes "agent") s ≡ agent → (object || (begins_with (codes "set") s || (agent && not g.solve))) ≡ true
          → cond object (column_set g s) (cond agent (row_set g s) (listed_by g (stated_by g rows) (records_of (codes "in") rows) k s)) ≡ cond object (column_set g s) (cond agent (row_set g s) (listed_set g rows s))
      by true agent o a h = refl
      by false true o a h = refl
      by false false o a h = same-listed k s at (is-set (begins_with (codes "set") s) (not g.solve) h)

  pub sets-said : (stated_by g rows).sets ≡ map (set_of g rows) (set_records g rows)
  sets-said =
      let st = stated_by g rows in
      let made = (sets-stand g rows e).1 in
      list-same (set_of g rows) st.sets (set_records g rows) made.many (λ k s at. made.sets st (kept-same g st) k s at ∙ ap (λ x. Some x) (same-set k s at))
