-- Which records state sets, and where those that begin with `set` stand among them.
use Rattle.std.proofs.Common.{◌≡◌, ◌∙◌, ◌+◌, ◌++◌, ◌||◌, ◌&&◌, ◌∷◌, [], ℕ, List, Option, Some, None, Bool, true, false, cond, refl, sym, ap, subst, filter, length, get_or, append_assoc, length-append, arith}
use Rattle.std.specs.Prelude.{codes, not, slice_index_or, unwrap_or}
use Rattle.std.proofs.Math.Seq.{get_or-append_seam}
use Rattle.std.proofs.lemmas.List.{append-nil, get_or_append_left, length-set, length_push}
use Rattle.std.proofs.lemmas.List.Elements.{filter-append}
use Rattle.definitions.specs.Sets.{SetValue}
use Rattle.definitions.specs.Texts.{Row, field}
use Rattle.table_text.specs.Records.{begins_with}
use Rattle.alloc_input.specs.Cells.{numbers_to}
use Rattle.alloc_input.specs.SaidQuotas.{set_places, set_records, states_set}
use Rattle.alloc_input.specs.Stated.{Setting, Stated, agents_named, columns_named, empty_set, number_or_0, place_named, with_rectangle_in, add_bundle, add_cells, add_demand, add_group, add_kind, add_object, add_row, add_set, grown_at, nothing, stated_by, stated_from, word_of}
use Rattle.alloc_input.specs.declared.quotas.words.Word.{Word}
use Rattle.alloc_input.specs.declared.quotas.words.Word.TheVariants as word
use Rattle.alloc_input.proofs.NumberFacts.{filter-range}
use Rattle.alloc_input.proofs.Ranges.{range_more}
use Rattle.alloc_input.proofs.Reading.{stated_more}
use Rattle.alloc_input.proofs.SaidFields.{record-adds}
use Rattle.alloc_input.proofs.SaidWords.{is_kind, kind-test}

-- what is true of no records, and stays so with one more, is true of all
pub rows-grow : (P : List Row → Type 0) → P [] → ((before : List Row) (r : Row) → P before → P (before ++ r ∷ [])) → (rows : List Row) → P rows
rows-grow P none more rows = from [] rows none
  where
    from : (before rest : List Row) → P before → P (before ++ rest)
    from before [] h = subst P (sym (append-nil before)) h
    from before (r ∷ rest) h = subst P (append_assoc before (r ∷ []) rest) (from (before ++ r ∷ []) rest (more before r h))

-- what some records and one more state
pub stated-more : (g : Setting) (before : List Row) (r : Row) → stated_by g (before ++ r ∷ []) ≡ add_kind (word_of (field r 0)) g (stated_by g before) r
stated-more g before r = stated_more g (nothing g) before r ∙ record-adds g (stated_by g before) r

-- ---- which records state sets

-- whether records of this kind do
abbrev pub states_kind : Bool → Option Word → Bool
states_kind solve None = false
states_kind solve (Some word.Object) = true
states_kind solve (Some word.Agent) = not solve
states_kind solve (Some word.Group) = false
states_kind solve (Some word.Bundle) = false
states_kind solve (Some word.Set) = true
states_kind solve (Some word.In) = false

pub states-test : (g : Setting) (r : Row) → states_set g r ≡ states_kind g.solve (word_of (field r 0))
states-test g r = rw (kind-test word.Object (field r 0), kind-test word.Set (field r 0), kind-test word.Agent (field r 0)) (by g.solve (word_of (field r 0)))
  where
    by : (s : Bool) (o : Option Word) → (is_kind word.Object o || (is_kind word.Set o || (is_kind word.Agent o && not s))) ≡ states_kind s o
    by s None = refl
    by s (Some word.Object) = refl
    by s (Some word.Agent) = refl
    by s (Some word.Group) = refl
    by s (Some word.Bundle) = refl
    by s (Some word.Set) = refl
    by s (Some word.In) = refl

pub set_records-more : (g : Setting) (before : List Row) (r : Row) → set_records g (before ++ r ∷ []) ≡ set_records g before ++ cond (states_kind g.solve (word_of (field r 0))) (r ∷ []) []
set_records-more g before r = filter-append (states_set g) before (r ∷ []) ∙ ap (λ (b : Bool). set_records g before ++ cond b (r ∷ []) []) (states-test g r)

-- ---- how many sets there are

pub grown-count : (m n : ℕ) (sets : List SetValue) (place : ℕ) (rows columns : List ℕ) → length (grown_at m n sets place rows columns) ≡ length sets
unfolding grown_at
grown-count m n sets place rows columns = length-set sets place (with_rectangle_in m n rows columns (slice_index_or sets place (empty_set 0 0 0)))

sets-count : (g : Setting) (o : Option Word) (r : Row) (st : Stated) → length (add_kind o g st r).sets ≡ length st.sets + cond (states_kind g.solve o) 1 0
unfolding add_kind add_object add_row add_demand add_group add_bundle add_set add_cells
sets-count g None r st = omega arith
sets-count g (Some word.Object) r st = length_push st.sets _
sets-count g (Some word.Agent) r st = either g.solve
  where
    either : (b : Bool) → length (cond b (add_demand g st r) (add_row g st r)).sets ≡ length st.sets + cond (not b) 1 0
    either true = omega arith
    either false = length_push st.sets _
sets-count g (Some word.Group) r st = omega arith
sets-count g (Some word.Bundle) r st = omega arith
sets-count g (Some word.Set) r st = length_push st.sets _
sets-count g (Some word.In) r st =
    let grown = grown-count (length g.agents) (length g.objects) st.sets (number_or_0 (place_named st r)) (unwrap_or (agents_named g st r) []) (unwrap_or (columns_named g st r) []) in
    omega (arith, grown)

count-more : (xs : List Row) (r : Row) (b : Bool) → length (xs ++ cond b (r ∷ []) []) ≡ length xs + cond b 1 0
count-more xs r true = length_push xs r
count-more xs r false = omega (arith, length-append xs [])

pub sets-counted : (g : Setting) (rows : List Row) → length (stated_by g rows).sets ≡ length (set_records g rows)
unfolding stated_from
sets-counted g rows =
    rows-grow (λ rows. length (stated_by g rows).sets ≡ length (set_records g rows)) refl
    (λ before r h.
    let o = word_of (field r 0) in
    let stated = ap (λ (st : Stated). length st.sets) (stated-more g before r) ∙ sets-count g o r (stated_by g before) in
    let records = ap (λ (rs : List Row). length rs) (set_records-more g before r) ∙ count-more (set_records g before) r (states_kind g.solve o) in
    omega (arith, stated, records, h))
    rows

-- ---- the places of `set` records

pub places-step : (g : Setting) (o : Option Word) (r : Row) (st : Stated) → (add_kind o g st r).places ≡ st.places ++ cond (is_kind word.Set o) (length st.sets ∷ []) []
unfolding add_kind add_object add_row add_demand add_group add_bundle add_set add_cells
places-step g None r st = sym (append-nil st.places)
places-step g (Some word.Set) r st = refl
places-step g (Some word.Agent) r st = either g.solve
  where
    either : (b : Bool) → (cond b (add_demand g st r) (add_row g st r)).places ≡ st.places ++ []
    either true = sym (append-nil st.places)
    either false = sym (append-nil st.places)
places-step g (Some w) r st = sym (append-nil st.places)

-- the places of those that begin with `set`
abbrev places_in : List Row → List ℕ
places_in rs = filter (λ k. begins_with (codes "set") (get_or rs k [])) (numbers_to (length rs))

place-more : (rs : List Row) (r : Row) → places_in (rs ++ r ∷ []) ≡ places_in rs ++ cond (begins_with (codes "set") r) (length rs ∷ []) []
place-more rs r =
    let is_set : ℕ → Bool = λ k. begins_with (codes "set") (get_or (rs ++ r ∷ []) k []) in
    let numbers : numbers_to (length (rs ++ r ∷ [])) ≡ numbers_to (length rs) ++ length rs ∷ [] = rw (length_push rs r) (range_more 0 (length rs) (length rs) (omega arith)) in
    let earlier = filter-range is_set (λ k. begins_with (codes "set") (get_or rs k [])) 0 (length rs) (λ k l below. ap (begins_with (codes "set")) (get_or_append_left rs (r ∷ []) [] k (omega arith))) in
    let last : is_set (length rs) ≡ begins_with (codes "set") r = ap (begins_with (codes "set")) (get_or-append_seam rs r [] []) in
    rw numbers (filter-append is_set (numbers_to (length rs)) (length rs ∷ []) ∙ rw (earlier, last) refl)

places-more : (g : Setting) (before : List Row) (r : Row) (o : Option Word) → word_of (field r 0) ≡ o
    → set_places g before ++ cond (is_kind word.Set o) (length (set_records g before) ∷ []) [] ≡ set_places g (before ++ r ∷ [])
places-more g before r o e = by o e g.solve refl
  where
    rs : List Row
    rs = set_records g before

    stays : (s : Bool) (o : Option Word) → word_of (field r 0) ≡ o → g.solve ≡ s → is_kind word.Set o ≡ false → states_kind s o ≡ false → places_in rs ++ cond (is_kind word.Set o) (length rs ∷ []) [] ≡ places_in (set_records g (before ++ r ∷ []))
    stays s o e f other none =
        let kind : states_kind g.solve (word_of (field r 0)) ≡ false = ap (states_kind g.solve) e ∙ ap (λ b. states_kind b o) f ∙ none in
        let same : set_records g (before ++ r ∷ []) ≡ rs = set_records-more g before r ∙ rw kind (append-nil rs) in
        rw (same, other) (append-nil (places_in rs))

    grows : (s : Bool) (o : Option Word) → word_of (field r 0) ≡ o → g.solve ≡ s → states_kind s o ≡ true → places_in rs ++ cond (is_kind word.Set o) (length rs ∷ []) [] ≡ places_in (set_records g (before ++ r ∷ []))
    grows s o e f holds =
        let kind : states_kind g.solve (word_of (field r 0)) ≡ true = ap (states_kind g.solve) e ∙ ap (λ b. states_kind b o) f ∙ holds in
        let more : set_records g (before ++ r ∷ []) ≡ rs ++ r ∷ [] = set_records-more g before r ∙ rw kind refl in
        let begins : begins_with (codes "set") r ≡ is_kind word.Set o = kind-test word.Set (field r 0) ∙ ap (is_kind word.Set) e in
        rw more (sym (place-more rs r ∙ rw begins refl))

    by : (o : Option Word) → word_of (field r 0) ≡ o → (s : Bool) → g.solve ≡ s → places_in rs ++ cond (is_kind word.Set o) (length rs ∷ []) [] ≡ places_in (set_records g (before ++ r ∷ []))
    by None e s f = stays s None e f refl refl
    by (Some word.Object) e s f = grows s (Some word.Object) e f refl
    by (Some word.Agent) e true f = stays true (Some word.Agent) e f refl refl
    by (Some word.Agent) e false f = grows false (Some word.Agent) e f refl
    by (Some word.Group) e s f = stays s (Some word.Group) e f refl refl
    by (Some word.Bundle) e s f = stays s (Some word.Bundle) e f refl refl
    by (Some word.Set) e s f = grows s (Some word.Set) e f refl
    by (Some word.In) e s f = stays s (Some word.In) e f refl refl

pub places-said : (g : Setting) (rows : List Row) → (stated_by g rows).places ≡ set_places g rows
unfolding stated_from
places-said g rows =
    rows-grow (λ rows. (stated_by g rows).places ≡ set_places g rows) refl
    (λ before r h.
    ap (λ (st : Stated). st.places) (stated-more g before r) ∙ places-step g (word_of (field r 0)) r (stated_by g before)
    ∙ rw (h, sets-counted g before) (places-more g before r (word_of (field r 0)) refl))
    rows
