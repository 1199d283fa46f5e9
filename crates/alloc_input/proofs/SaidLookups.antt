-- What names lead to stays as records go on, and where the sets of names stand.
use Rattle.std.proofs.Common.{◌≡◌, ◌∙◌, ◌+◌, ◌<◌, ◌++◌, ◌∷◌, [], ℕ, List, Option, Some, None, Bool, true, false, cond, refl, sym, ap, subst, length, get_or, length-append, arith, inl, inr}
use Rattle.std.specs.Prelude.{codes, is_some, slice_get}
use Rattle.std.specs.Str.{bytes_eq}
use Rattle.std.proofs.Math.Seq.{get_or-append_seam}
use Rattle.std.proofs.lemmas.Bool.{both_ways}
use Rattle.std.proofs.lemmas.List.{append-nil, get_or_append_left, length_push}
use Rattle.std.proofs.lemmas.List.Folds.{list_any_at}
use Rattle.std.proofs.lemmas.List.Quantifiers.{position-Some}
use Rattle.std.proofs.lemmas.Option.{get_or_from_slice_get, slice_get-get_or, slice_get_within}
use Rattle.definitions.specs.Texts.{Row, field, has_name, name_index}
use Rattle.definitions.proofs.Members.{name_test}
use Rattle.table_text.specs.Records.{begins_with}
use Rattle.table_text.proofs.KnownNames.{is_some-name_index}
use Rattle.alloc_input.specs.Cells.{numbers_to}
use Rattle.alloc_input.specs.Quotas.{check_record}
use Rattle.alloc_input.specs.SaidQuotas.{set_records}
use Rattle.alloc_input.specs.Stated.{Setting, Stated, add_kind, bind_number, listed, nothing, numbers_named, stated_by, word_of}
use Rattle.alloc_input.specs.declared.quotas.words.Word.{Word}
use Rattle.alloc_input.specs.declared.quotas.words.Word.TheVariants as word
use Rattle.alloc_input.proofs.FilledRecords.{push-place}
use Rattle.alloc_input.proofs.NamePlaces.{index-new, index-stays}
use Rattle.alloc_input.proofs.SaidChecks.{IsPassed, next-passed, set-passed}
use Rattle.alloc_input.proofs.SaidFields.{bundles-step, contents-step, groups-step, members-step, names-step}
use Rattle.alloc_input.proofs.SaidPlaces.{places-step, set_records-more, sets-counted, states_kind, stated-more}
use Rattle.alloc_input.proofs.SaidWords.{is_kind, kind-test}

-- ---- longer lists

-- an element stays at its place
pub element-stays : {X : Type 0} (xs more : List X) (k : ℕ) (x : X) → slice_get xs k ≡ Some x → slice_get (xs ++ more) k ≡ Some x
element-stays xs more k x e =
    let l = slice_get_within xs k x e in
    slice_get-get_or (xs ++ more) k x (omega (arith, l, length-append xs more)) ∙ ap (λ y. Some y) (get_or_append_left xs more x k l ∙ get_or_from_slice_get xs k x x e)

-- what a name leads to stays
bind-stays : {X : Type 0} (names more : List (List ℕ)) (xs ys : List X) (text : List ℕ) (x : X) → bind_number (slice_get xs) (name_index names text) ≡ Some x
    → bind_number (slice_get (xs ++ ys)) (name_index (names ++ more) text) ≡ Some x
bind-stays {X} names more xs ys text x e = by (name_index names text) refl e
  where
    by : (o : Option ℕ) → name_index names text ≡ o → bind_number (slice_get xs) o ≡ Some x → bind_number (slice_get (xs ++ ys)) (name_index (names ++ more) text) ≡ Some x
    by None is h = absurd (cc h)
    by (Some j) is h = rw (index-stays names more text j is) (element-stays xs ys j x h)

numbers-stay : (names labels more : List (List ℕ)) (lists others : List (List ℕ)) (text xs : List ℕ) → numbers_named names labels lists text ≡ Some xs → numbers_named names (labels ++ more) (lists ++ others) text ≡ Some xs
unfolding numbers_named
numbers-stay names labels more lists others text xs e = star (bytes_eq text (codes "*")) e
  where
    name : (o : Option ℕ) → listed o (bind_number (slice_get lists) (name_index labels text)) ≡ Some xs → listed o (bind_number (slice_get (lists ++ others)) (name_index (labels ++ more) text)) ≡ Some xs
    name None h = bind-stays labels more lists others text xs h
    name (Some a) h = h

    star : (b : Bool) → cond b (Some (numbers_to (length names))) (listed (name_index names text) (bind_number (slice_get lists) (name_index labels text))) ≡ Some xs
        → cond b (Some (numbers_to (length names))) (listed (name_index names text) (bind_number (slice_get (lists ++ others)) (name_index (labels ++ more) text))) ≡ Some xs
    star true h = h
    star false h = name (name_index names text) h

-- ---- what names lead to, as records go on

-- where the set of this name stands
abbrev pub place_by : Stated → List ℕ → Option ℕ
place_by st text = bind_number (slice_get st.places) (name_index st.names text)

-- what names lead to is still there
pub record IsKept (g : Setting) (st later : Stated) : Type 0 where
  pub places : (text : List ℕ) (p : ℕ) → place_by st text ≡ Some p → place_by later text ≡ Some p
  pub agents : (text xs : List ℕ) → numbers_named g.agents st.groups st.members text ≡ Some xs → numbers_named g.agents later.groups later.members text ≡ Some xs
  pub columns : (text xs : List ℕ) → numbers_named g.objects st.bundles st.contents text ≡ Some xs → numbers_named g.objects later.bundles later.contents text ≡ Some xs

pub kept-same : (g : Setting) (st : Stated) → IsKept g st st
kept-same g st = record { places = λ text p e. e; agents = λ text xs e. e; columns = λ text xs e. e }

pub kept-on : (g : Setting) (st mid later : Stated) → IsKept g st mid → IsKept g mid later → IsKept g st later
kept-on g st mid later a b = record {
  places = λ text p e. b.places text p (a.places text p e);
  agents = λ text xs e. b.agents text xs (a.agents text xs e);
  columns = λ text xs e. b.columns text xs (a.columns text xs e);
}

pub kept-kind : (g : Setting) (o : Option Word) (r : Row) (st : Stated) → IsKept g st (add_kind o g st r)
kept-kind g o r st = record {
  places = λ text p e. rw (names-step g o r st, places-step g o r st) (bind-stays st.names _ st.places _ text p e);
  agents = λ text xs e. rw (groups-step g o r st, members-step g o r st) (numbers-stay g.agents st.groups _ st.members _ text xs e);
  columns = λ text xs e. rw (bundles-step g o r st, contents-step g o r st) (numbers-stay g.objects st.bundles _ st.contents _ text xs e);
}

pub kept-more : (g : Setting) (before : List Row) (r : Row) → IsKept g (stated_by g before) (stated_by g (before ++ r ∷ []))
kept-more g before r = subst (IsKept g (stated_by g before)) (sym (stated-more g before r)) (kept-kind g (word_of (field r 0)) r (stated_by g before))

-- ---- where the sets of names stand

-- each name leads to the `set` record that has it, among these records
pub record ArePlaces (rs : List Row) (st : Stated) : Type 0 where
  pub many : length st.names ≡ length st.places
  pub each : (k : ℕ) (s : Row) → slice_get rs k ≡ Some s → begins_with (codes "set") s ≡ true → place_by st (field s 1) ≡ Some k
  pub from : (text : List ℕ) (p : ℕ) → place_by st text ≡ Some p → (s : Row) × (slice_get rs p ≡ Some s) × (begins_with (codes "set") s ≡ true) × (field s 1 ≡ text)

-- another record, which states a set or none
other-more : (rs : List Row) (r : Row) (b : Bool) (st later : Stated) → later.names ≡ st.names → later.places ≡ st.places → begins_with (codes "set") r ≡ false → ArePlaces rs st → ArePlaces (rs ++ cond b (r ∷ []) []) later
other-more rs r b st later names places other h = record {
  many = rw (names, places) h.many;
  each = λ k s e begins. rw (names, places) (each b k s e begins);
  from = λ text p e. (let f = h.from text p (rw (names, places) at e) in (f.0, element-stays rs (cond b (r ∷ []) []) p f.0 f.1, f.2, f.3));
}
  where
    each : (b : Bool) (k : ℕ) (s : Row) → slice_get (rs ++ cond b (r ∷ []) []) k ≡ Some s → begins_with (codes "set") s ≡ true → place_by st (field s 1) ≡ Some k
    each false k s e begins = h.each k s (subst (λ (xs : List Row). slice_get xs k ≡ Some s) (append-nil rs) e) begins
    each true k s e begins = elim (push-place rs r s k e) [
      | inl before ↦ h.each k s before.1 begins
      | inr last ↦ absurd (both_ways (begins_with (codes "set") r) other (ap (begins_with (codes "set")) last.1 ∙ begins))
    ]

-- a `set` record of a new name
set-more : (rs : List Row) (r : Row) (st later : Stated) → later.names ≡ st.names ++ field r 1 ∷ [] → later.places ≡ st.places ++ length rs ∷ [] → begins_with (codes "set") r ≡ true → has_name st.names (field r 1) ≡ false
    → ArePlaces rs st → ArePlaces (rs ++ r ∷ []) later
set-more rs r st later names places is new h = record {
  many = rw (names, places, length_push st.names (field r 1), length_push st.places (length rs)) (ap (λ n. n + 1) h.many);
  each = λ k s e begins. rw (names, places) (each k s e begins);
  from = λ text p e. from text p (name_index st.names text) refl (rw (names, places) at e);
}
  where
    grown : List ℕ → Option ℕ
    grown text = bind_number (slice_get (st.places ++ length rs ∷ [])) (name_index (st.names ++ field r 1 ∷ []) text)

    here : slice_get (st.places ++ length rs ∷ []) (length st.names) ≡ Some (length rs)
    here = slice_get-get_or (st.places ++ length rs ∷ []) (length st.names) 0 (omega (arith, h.many, length_push st.places (length rs)))
        ∙ ap (λ k. Some (get_or (st.places ++ length rs ∷ []) k 0)) h.many ∙ ap (λ k. Some k) (get_or-append_seam st.places (length rs) [] 0)

    each : (k : ℕ) (s : Row) → slice_get (rs ++ r ∷ []) k ≡ Some s → begins_with (codes "set") s ≡ true → grown (field s 1) ≡ Some k
    each k s e begins = elim (push-place rs r s k e) [
      | inl before ↦ bind-stays st.names (field r 1 ∷ []) st.places (length rs ∷ []) (field s 1) k (h.each k s before.1 begins)
      | inr last ↦ subst (λ (q : Row). grown (field q 1) ≡ Some k) last.1 (rw (index-new st.names (field r 1) new) (here ∙ ap (λ j. Some j) (sym last.0)))
    ]

    Found : List ℕ → ℕ → Type 0
    Found text p = (s : Row) × (slice_get (rs ++ r ∷ []) p ≡ Some s) × (begins_with (codes "set") s ≡ true) × (field s 1 ≡ text)

    -- a name that was there
    old : (text : List ℕ) (p j : ℕ) → name_index st.names text ≡ Some j → slice_get (st.places ++ length rs ∷ []) j ≡ Some p → Found text p
    old text p j known e =
        let l = (position-Some (bytes_eq text) st.names j [] known).0 in
        elim (push-place st.places (length rs) p j e) [
          | inl before ↦ (let f = h.from text p (rw known before.1) in (f.0, element-stays rs (r ∷ []) p f.0 f.1, f.2, f.3))
          | inr last ↦ absurd (omega (arith, l, last.0, h.many))
        ]

    -- the new name
    next : (text : List ℕ) (p j : ℕ) → name_index st.names text ≡ None → name_index (st.names ++ field r 1 ∷ []) text ≡ Some j → slice_get (st.places ++ length rs ∷ []) j ≡ Some p → Found text p
    next text p j unknown known e =
        let at = (position-Some (bytes_eq text) (st.names ++ field r 1 ∷ []) j [] known).1 in
        elim (push-place st.places (length rs) p j e) [
          | inl before ↦
              let l : j < length st.names = omega (arith, before.0, h.many) in
              let there = list_any_at (bytes_eq text) st.names j [] l (ap (bytes_eq text) (sym (get_or_append_left st.names (field r 1 ∷ []) [] j l)) ∙ at) in
              absurd (both_ways (has_name st.names text) (sym (is_some-name_index st.names text) ∙ ap is_some unknown) there)
          | inr last ↦
              let here : j ≡ length st.names = omega (arith, last.0, h.many) in
              let same : text ≡ field r 1 = name_test.sound text (field r 1) (ap (bytes_eq text) (sym (ap (λ k. get_or (st.names ++ field r 1 ∷ []) k []) here ∙ get_or-append_seam st.names (field r 1) [] [])) ∙ at) in
              (r, rw (← last.1) (slice_get-get_or (rs ++ r ∷ []) (length rs) r (omega (arith, length_push rs r)) ∙ ap (λ q. Some q) (get_or-append_seam rs r [] r)), is, sym same)
        ]

    from : (text : List ℕ) (p : ℕ) (o : Option ℕ) → name_index st.names text ≡ o → grown text ≡ Some p → Found text p
    from text p (Some j) known e = old text p j known (rw (index-stays st.names (field r 1 ∷ []) text j known) at e)
    from text p None unknown e = by (name_index (st.names ++ field r 1 ∷ []) text) refl e
      where
        by : (o : Option ℕ) → name_index (st.names ++ field r 1 ∷ []) text ≡ o → bind_number (slice_get (st.places ++ length rs ∷ [])) o ≡ Some p → Found text p
        by None known f = absurd (cc f)
        by (Some j) known f = next text p j unknown known f

pub places-first : (g : Setting) → ArePlaces [] (nothing g)
places-first g = record { many = refl; each = λ k s e begins. absurd (omega (arith, slice_get_within [] k s e)); from = λ text p e. absurd (cc e) }

-- one more lawful record
pub stand-more : (g : Setting) (before : List Row) (r : Row) → check_record g before r ≡ None → ArePlaces (set_records g before) (stated_by g before) → ArePlaces (set_records g (before ++ r ∷ [])) (stated_by g (before ++ r ∷ []))
unfolding check_record
stand-more g before r c h =
    subst (λ (st : Stated). ArePlaces (set_records g (before ++ r ∷ [])) st) (sym (stated-more g before r))
    (subst (λ (rs : List Row). ArePlaces rs (add_kind (word_of (field r 0)) g (stated_by g before) r)) (sym (set_records-more g before r))
    (by (word_of (field r 0)) refl (next-passed g (stated_by g before) r c)))
  where
    st : Stated
    st = stated_by g before

    rs : List Row
    rs = set_records g before

    other : (o : Option Word) → word_of (field r 0) ≡ o → is_kind word.Set o ≡ false → ArePlaces (rs ++ cond (states_kind g.solve o) (r ∷ []) []) (add_kind o g st r)
    other o e f =
        let begins : begins_with (codes "set") r ≡ false = kind-test word.Set (field r 0) ∙ ap (is_kind word.Set) e ∙ f in
        other-more rs r (states_kind g.solve o) st (add_kind o g st r) (names-step g o r st ∙ rw f (append-nil st.names)) (places-step g o r st ∙ rw f (append-nil st.places)) begins h

    by : (o : Option Word) → word_of (field r 0) ≡ o → IsPassed o g st r → ArePlaces (rs ++ cond (states_kind g.solve o) (r ∷ []) []) (add_kind o g st r)
    by None e p = other None e refl
    by (Some word.Set) e p =
        set-more rs r st (add_kind (Some word.Set) g st r) (names-step g (Some word.Set) r st) (places-step g (Some word.Set) r st ∙ ap (λ n. st.places ++ n ∷ []) (sets-counted g before))
        (kind-test word.Set (field r 0) ∙ ap (is_kind word.Set) e) (set-passed g st r p.1) h
    by (Some w) e p = other (Some w) e refl
