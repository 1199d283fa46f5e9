-- The sets that lawful records of quotas say.
use Rattle.std.proofs.Common.{◌≡◌, ◌≢◌, ◌∙◌, ◌==◌, ◌+◌, ◌<◌, ◌≤◌, ◌++◌, ◌||◌, ◌&&◌, ◌⊎◌, ◌∷◌, [], ℕ, List, Option, Some, None, Bool, true, false, All, cond, refl, sym, ap, subst, length, get_or, set, arith, inl, inr}
use Rattle.std.specs.Prelude.{codes, is_some, not, slice_get, slice_index_or, unwrap_or}
use Rattle.std.specs.List.{list_any}
use Rattle.std.specs.Str.{bytes_eq}
use Rattle.std.proofs.Math.Bool.{or-false}
use Rattle.std.proofs.Math.Seq.{get_or-append_seam}
use Rattle.std.proofs.lemmas.Bool.{cases_eq, eq-eqb, ne_eqb}
use Rattle.std.proofs.lemmas.List.{append-nil, get_or-set_other, get_or-set_same, length-set, length_push}
use Rattle.std.proofs.lemmas.List.Elements.{All-nil, All-push}
use Rattle.std.proofs.lemmas.List.Folds.{list_any-append, list_any_none}
use Rattle.std.proofs.lemmas.Option.{get_or_from_slice_get, slice_get-get_or, slice_get_within}
use Rattle.std.proofs.lemmas.Slice.Eq.{bytes_eq-Decides}
use Rattle.definitions.specs.declared.Cell.{Cell}
use Rattle.definitions.specs.Sets.{SetValue, all_cells, holds}
use Rattle.definitions.specs.Texts.{Row, field, first_field, name_index}
use Rattle.definitions.proofs.Cells.{member_is_within}
use Rattle.definitions.proofs.Lists.{filter_none}
use Rattle.definitions.proofs.Passed.{fault-keeps}
use Rattle.table_text.specs.Records.{begins_with, records_of}
use Rattle.alloc_input.specs.Cells.{covers, has_number, numbers_to, with_rectangle}
use Rattle.alloc_input.specs.Quotas.{check_record, check_word, quotas_fault}
use Rattle.alloc_input.specs.SaidQuotas.{cells_where, column_set, is_name_at, is_number, row_set, set_records}
use Rattle.alloc_input.specs.Stated.{Setting, Stated, add_bundle, add_cells, add_demand, add_group, add_kind, add_object, add_row, add_set, agents_named, ceiling_at, columns_named, empty_set, floor_at, grown_at, nothing, number_or_0, place_named, side_of, stated_by, stated_from, with_rectangle_in, with_rectangle_of, word_of}
use Rattle.alloc_input.specs.declared.quotas.words.Word.{Word}
use Rattle.alloc_input.specs.declared.quotas.words.Word.TheVariants as word
use Rattle.alloc_input.proofs.CellFacts.{filter_same, picked_with_rectangle}
use Rattle.alloc_input.proofs.FilledRecords.{push-place}
use Rattle.alloc_input.proofs.NumberFacts.{has-range}
use Rattle.alloc_input.proofs.SaidChecks.{IsPassed, in-passed, next-passed, object-passed, row-passed}
use Rattle.alloc_input.proofs.SaidLookups.{ArePlaces, IsKept, element-stays, kept-kind, kept-on, places-first, stand-more}
use Rattle.alloc_input.proofs.SaidPlaces.{set_records-more, stated-more, states_kind}
use Rattle.alloc_input.proofs.SaidWords.{is_kind, kind-test, name_of, records-push}
use Rattle.alloc_input.proofs.StatedChecks.{some-value}

-- ---- what `in` records lead to

-- a set among the first n, agents and columns
pub record IsKnown (g : Setting) (n : ℕ) (st : Stated) (q : Row) : Type 0 where
  pub place : ℕ
  pub agents : List ℕ
  pub columns : List ℕ
  pub at_place : place_named st q ≡ Some place
  pub below : place < n
  pub of_agents : agents_named g st q ≡ Some agents
  pub of_columns : columns_named g st q ≡ Some columns

known-later : (g : Setting) (n m : ℕ) (st later : Stated) (q : Row) → n ≤ m → IsKept g st later → IsKnown g n st q → IsKnown g m later q
known-later g n m st later q l kept h = record {
  place = h.place;
  agents = h.agents;
  columns = h.columns;
  at_place = kept.places (field q 1) h.place h.at_place;
  below = omega (arith, l, h.below);
  of_agents = kept.agents (field q 2) h.agents h.of_agents;
  of_columns = kept.columns (field q 3) h.columns h.of_columns;
}

-- ---- the sets, by what names lead to in the end

-- whether an `in` record adds the cell to set k
abbrev pub hits : Setting → Stated → ℕ → Cell → Row → Bool
hits g later k c q = is_number k (place_named later q) && covers (unwrap_or (agents_named g later q) []) (unwrap_or (columns_named g later q) []) c

-- the set of a `set` record that is set k, by these `in` records
abbrev pub listed_by : Setting → Stated → List Row → ℕ → Row → SetValue
listed_by g later ins k s = record {
  side = side_of (field s 2);
  floor = floor_at s 3;
  ceiling = ceiling_at s 4;
  cells = cells_where g (λ c. list_any (hits g later k c) ins);
}

-- the set of a record that is set k
abbrev pub made : Setting → Stated → List Row → ℕ → Row → SetValue
made g later ins k s = cond (begins_with (codes "object") s) (column_set g s) (cond (begins_with (codes "agent") s) (row_set g s) (listed_by g later ins k s))

-- the sets of these records, by these `in` records
pub record AreMade (g : Setting) (rs ins : List Row) (st : Stated) : Type 0 where
  pub many : length st.sets ≡ length rs
  pub known : All (IsKnown g (length rs) st) ins
  pub sets : (later : Stated) → IsKept g st later → (k : ℕ) (s : Row) → slice_get rs k ≡ Some s → slice_get st.sets k ≡ Some (made g later ins k s)

-- a record that states no set and adds no cells
same-sets : (g : Setting) (rs ins : List Row) (st next : Stated) → IsKept g st next → next.sets ≡ st.sets → AreMade g rs ins st → AreMade g rs ins next
same-sets g rs ins st next kept same h = record {
  many = rw same h.many;
  known = λ k d l. known-later g (length rs) (length rs) st next (get_or ins k d) (omega arith) kept (h.known k d l);
  sets = λ later more k s e. rw same (h.sets later (kept-on g st next later kept more) k s e);
}

-- a record that states a set
one-set : (g : Setting) (rs ins : List Row) (r : Row) (x : SetValue) (st next : Stated) → IsKept g st next → next.sets ≡ st.sets ++ x ∷ [] → ((later : Stated) → IsKept g st later → x ≡ made g later ins (length rs) r)
    → AreMade g rs ins st → AreMade g (rs ++ r ∷ []) ins next
one-set g rs ins r x st next kept more is h = record {
  many = rw (more, length_push st.sets x, length_push rs r) (ap (λ n. n + 1) h.many);
  known = λ k d l. known-later g (length rs) (length (rs ++ r ∷ [])) st next (get_or ins k d) (omega (arith, length_push rs r)) kept (h.known k d l);
  sets = λ later on k s e. rw more (each later (kept-on g st next later kept on) k s (push-place rs r s k e));
}
  where
    each : (later : Stated) → IsKept g st later → (k : ℕ) (s : Row) → ((k < length rs) × (slice_get rs k ≡ Some s)) ⊎ ((k ≡ length rs) × (r ≡ s)) → slice_get (st.sets ++ x ∷ []) k ≡ Some (made g later ins k s)
    each later on k s (inl before) = element-stays st.sets (x ∷ []) k (made g later ins k s) (h.sets later on k s before.1)
    each later on k s (inr last) =
        let here : k ≡ length st.sets = last.0 ∙ sym h.many in
        let there : slice_get (st.sets ++ x ∷ []) (length st.sets) ≡ Some x = slice_get-get_or (st.sets ++ x ∷ []) (length st.sets) x (omega (arith, length_push st.sets x)) ∙ ap (λ y. Some y) (get_or-append_seam st.sets x [] x) in
        let same : x ≡ made g later ins k s = is later on ∙ ap (λ j. made g later ins j r) (sym last.0) ∙ ap (made g later ins k) last.1 in
        ap (slice_get (st.sets ++ x ∷ [])) here ∙ there ∙ ap (λ y. Some y) same

-- ---- a record that adds cells

-- a set of the quotas of a `set` record with these cells
abbrev set_with : Row → List Cell → SetValue
set_with s cells = record { side = side_of (field s 2); floor = floor_at s 3; ceiling = ceiling_at s 4; cells = cells }

-- a record that begins with `set` begins with no other word
set-alone : (s : Row) → begins_with (codes "set") s ≡ true → (begins_with (codes "object") s ≡ false) × (begins_with (codes "agent") s ≡ false)
set-alone s e =
    let is = (bytes_eq-Decides (first_field s) (codes "set")).0 e in
    (ap (λ f. bytes_eq f (codes "object")) is, ap (λ f. bytes_eq f (codes "agent")) is)

made-listed : (g : Setting) (later : Stated) (ins : List Row) (k : ℕ) (s : Row) → begins_with (codes "set") s ≡ true → made g later ins k s ≡ listed_by g later ins k s
made-listed g later ins k s e = let other = set-alone s e in rw (other.0, other.1) refl

module _ (g : Setting) (rs ins : List Row) (r : Row) (st : Stated) (known : IsKnown g (length rs) st r) (later : Stated) (on : IsKept g st later) where
  place-later : place_named later r ≡ Some known.place
  place-later = on.places (field r 1) known.place known.at_place

  -- the record adds nothing to the other sets
  other-set : (k : ℕ) (s : Row) → k ≢ known.place → made g later (ins ++ r ∷ []) k s ≡ made g later ins k s
  other-set k s apart =
      ap (λ (x : SetValue). cond (begins_with (codes "object") s) (column_set g s) (cond (begins_with (codes "agent") s) (row_set g s) x))
      (ap (set_with s) (filter_same (λ c. list_any (hits g later k c) (ins ++ r ∷ [])) (λ c. list_any (hits g later k c) ins) (all_cells (length g.agents) (length g.objects)) (λ c _. no-hit c)))
    where
      no-hit : (c : Cell) → list_any (hits g later k c) (ins ++ r ∷ []) ≡ list_any (hits g later k c) ins
      no-hit c =
          let other : is_number k (place_named later r) ≡ false = ap (is_number k) place-later ∙ ne_eqb known.place k (λ e. apart (sym e)) in
          list_any-append (hits g later k c) ins (r ∷ []) ∙ rw other (or-false (list_any (hits g later k c) ins))

  -- and its rectangle to its own
  own-set : (s : Row) → with_rectangle_in (length g.agents) (length g.objects) known.agents known.columns (listed_by g later ins known.place s) ≡ listed_by g later (ins ++ r ∷ []) known.place s
  own-set s =
      ap (set_with s)
      (picked_with_rectangle (λ c. list_any (hits g later known.place c) ins) (length g.agents) (length g.objects) known.agents known.columns
      ∙ filter_same (λ c. list_any (hits g later known.place c) ins || covers known.agents known.columns c) (λ c. list_any (hits g later known.place c) (ins ++ r ∷ [])) (all_cells (length g.agents) (length g.objects)) (λ c _. sym (hit c)))
    where
      hit : (c : Cell) → list_any (hits g later known.place c) (ins ++ r ∷ []) ≡ (list_any (hits g later known.place c) ins || covers known.agents known.columns c)
      hit c =
          let same : is_number known.place (place_named later r) ≡ true = ap (is_number known.place) place-later ∙ eq-eqb known.place known.place refl in
          let agents : agents_named g later r ≡ Some known.agents = on.agents (field r 2) known.agents known.of_agents in
          let columns : columns_named g later r ≡ Some known.columns = on.columns (field r 3) known.columns known.of_columns in
          list_any-append (hits g later known.place c) ins (r ∷ []) ∙ rw (same, agents, columns, or-false (covers known.agents known.columns c)) refl

more-cells : (g : Setting) (rs ins : List Row) (r : Row) (st next : Stated) → IsKept g st next → ArePlaces rs st → (known : IsKnown g (length rs) st r)
    → next.sets ≡ grown_at (length g.agents) (length g.objects) st.sets known.place known.agents known.columns → AreMade g rs ins st → AreMade g rs (ins ++ r ∷ []) next
unfolding grown_at
more-cells g rs ins r st next kept stand known grown h = record {
  many = rw grown (length-set st.sets known.place y ∙ h.many);
  known = All-push (IsKnown g (length rs) next) ins r (λ k d l. known-later g (length rs) (length rs) st next (get_or ins k d) (omega arith) kept (h.known k d l)) (known-later g (length rs) (length rs) st next r (omega arith) kept known);
  sets = λ later on k s e. rw grown (each later (kept-on g st next later kept on) k s e (cases_eq k known.place));
}
  where
    y : SetValue
    y = with_rectangle_in (length g.agents) (length g.objects) known.agents known.columns (slice_index_or st.sets known.place (empty_set 0 0 0))

    each : (later : Stated) → IsKept g st later → (k : ℕ) (s : Row) → slice_get rs k ≡ Some s → (k ≡ known.place) ⊎ (k ≢ known.place) → slice_get (set st.sets known.place y) k ≡ Some (made g later (ins ++ r ∷ []) k s)
    each later on k s e (inr apart) =
        let d = empty_set 0 0 0 in
        let within : k < length st.sets = omega (arith, h.many, slice_get_within rs k s e) in
        let old = get_or_from_slice_get st.sets k (made g later ins k s) d (h.sets later on k s e) in
        slice_get-get_or (set st.sets known.place y) k d (omega (arith, within, length-set st.sets known.place y))
        ∙ ap (λ x. Some x) (get_or-set_other st.sets known.place k y d apart ∙ old ∙ sym (other-set g rs ins r st known later on k s apart))
    each later on k s e (inl here) =
        let d = empty_set 0 0 0 in
        let p = known.place in
        let there : slice_get rs p ≡ Some s = ap (slice_get rs) (sym here) ∙ e in
        let (found, at, begins, name) = stand.from (field r 1) p known.at_place in
        let same : found ≡ s = cc (sym at ∙ there) in
        let is_set : begins_with (codes "set") s ≡ true = ap (begins_with (codes "set")) (sym same) ∙ begins in
        let within : p < length st.sets = omega (arith, h.many, slice_get_within rs p s there) in
        let was : get_or st.sets p d ≡ listed_by g later ins p s = get_or_from_slice_get st.sets p (made g later ins p s) d (h.sets later on p s there) ∙ made-listed g later ins p s is_set in
        let grows : y ≡ listed_by g later (ins ++ r ∷ []) p s = ap (with_rectangle_in (length g.agents) (length g.objects) known.agents known.columns) was ∙ own-set g rs ins r st known later on s in
        ap (slice_get (set st.sets p y)) here ∙ slice_get-get_or (set st.sets p y) p d (omega (arith, within, length-set st.sets p y))
        ∙ ap (λ x. Some x) (get_or-set_same st.sets p y d within ∙ grows ∙ sym (made-listed g later (ins ++ r ∷ []) p s is_set) ∙ ap (λ j. made g later (ins ++ r ∷ []) j s) (sym here))

-- ---- each kind of record

none-made : (g : Setting) → AreMade g [] [] (nothing g)
none-made g = record { many = refl; known = All-nil (IsKnown g 0 (nothing g)); sets = λ later kept k s e. absurd (omega (arith, slice_get_within [] k s e)) }

-- the cells of the matrix are within it
within-matrix : (m n : ℕ) (c : Cell) → holds (all_cells m n) c ≡ true → (has_number (numbers_to m) c.agent ≡ true) × (has_number (numbers_to n) c.object ≡ true)
within-matrix m n c h =
    let w = member_is_within m n c h in
    (has-range 0 m c.agent (omega arith) (omega (arith, w.0)), has-range 0 n c.object (omega arith) (omega (arith, w.1)))

-- the cells of a known object, and of a known agent
column-cells : (g : Setting) (name : List ℕ) → is_some (name_index g.objects name) ≡ true
    → with_rectangle (length g.agents) (length g.objects) (numbers_to (length g.agents)) (number_or_0 (name_index g.objects name) ∷ []) [] ≡ cells_where g (λ c. is_name_at g.objects c.object name)
unfolding with_rectangle
column-cells g name known =
    let (a, is) = some-value (name_index g.objects name) known in
    filter_same (λ c. covers (numbers_to (length g.agents)) (number_or_0 (name_index g.objects name) ∷ []) c) (λ c. is_name_at g.objects c.object name) (all_cells (length g.agents) (length g.objects))
    (λ c h. rw (is, (within-matrix (length g.agents) (length g.objects) c h).0) (or-false (a == c.object)))

row-cells : (g : Setting) (name : List ℕ) → is_some (name_index g.agents name) ≡ true
    → with_rectangle (length g.agents) (length g.objects) (number_or_0 (name_index g.agents name) ∷ []) (numbers_to (length g.objects)) [] ≡ cells_where g (λ c. is_name_at g.agents c.agent name)
unfolding with_rectangle
row-cells g name known =
    let (a, is) = some-value (name_index g.agents name) known in
    filter_same (λ c. covers (number_or_0 (name_index g.agents name) ∷ []) (numbers_to (length g.objects)) c) (λ c. is_name_at g.agents c.agent name) (all_cells (length g.agents) (length g.objects))
    (λ c h. rw (is, (within-matrix (length g.agents) (length g.objects) c h).1) (only (a == c.agent)))
  where
    only : (b : Bool) → ((b || false) && true) ≡ b
    only true = refl
    only false = refl

some-list : (o : Option (List ℕ)) → is_some o ≡ true → (xs : List ℕ) × (o ≡ Some xs)
some-list None e = cc e
some-list (Some xs) e = (xs, refl)

-- a record of a kind begins with its word alone
begins : (v w : Word) (r : Row) → word_of (field r 0) ≡ Some w → begins_with (name_of v) r ≡ is_kind v (Some w)
begins v w r e = kind-test v (field r 0) ∙ ap (is_kind v) e

module _ (g : Setting) (rs ins : List Row) (st : Stated) (h : AreMade g rs ins st) where
  -- no `in` record leads to a set that is not there yet
  no-cells : (later : Stated) → IsKept g st later → [] ≡ cells_where g (λ c. list_any (hits g later (length rs) c) ins)
  no-cells later on =
      sym (filter_none (λ c. list_any (hits g later (length rs) c) ins) (all_cells (length g.agents) (length g.objects))
      (λ k d l. list_any_none (hits g later (length rs) (get_or (all_cells (length g.agents) (length g.objects)) k d)) ins (λ j e b. no-hit (get_or (all_cells (length g.agents) (length g.objects)) k d) (get_or ins j e) (h.known j e b))))
    where
      no-hit : (c : Cell) (q : Row) → IsKnown g (length rs) st q → hits g later (length rs) c q ≡ false
      no-hit c q known =
          let below = known.below in
          let other : is_number (length rs) (place_named later q) ≡ false =
          ap (is_number (length rs)) (on.places (field q 1) known.place known.at_place) ∙ ne_eqb known.place (length rs) (λ e. absurd (omega (arith, e, below))) in
          rw other refl

  object-made : (r : Row) → word_of (field r 0) ≡ Some word.Object → check_word word.Object g st r ≡ None → AreMade g (rs ++ r ∷ []) ins (add_kind (Some word.Object) g st r)
  unfolding add_kind add_object
  object-made r e c =
      let known = (object-passed g st r c).known in
      one-set g rs ins r _ st (add_kind (Some word.Object) g st r) (kept-kind g (Some word.Object) r st) refl
      (λ later on. rw (begins word.Object word.Object r e) (ap (λ (cells : List Cell). record { side = 2; floor = floor_at r 2; ceiling = ceiling_at r 3; cells = cells }) (column-cells g (field r 1) known))) h

  agent-made : (r : Row) (s : Bool) → g.solve ≡ s → word_of (field r 0) ≡ Some word.Agent → check_word word.Agent g st r ≡ None → AreMade g (rs ++ cond (not s) (r ∷ []) []) ins (add_kind (Some word.Agent) g st r)
  unfolding add_kind add_row add_demand
  agent-made r true f e c =
      subst (λ (xs : List Row). AreMade g xs ins (add_kind (Some word.Agent) g st r)) (sym (append-nil rs))
      (same-sets g rs ins st (add_kind (Some word.Agent) g st r) (kept-kind g (Some word.Agent) r st) (rw f refl) h)
  agent-made r false f e c =
      let known = (row-passed g st r f c).known in
      one-set g rs ins r (with_rectangle_of g (number_or_0 (name_index g.agents (field r 1)) ∷ []) (numbers_to (length g.objects)) (empty_set 1 (floor_at r 2) (ceiling_at r 3))) st (add_kind (Some word.Agent) g st r)
      (kept-kind g (Some word.Agent) r st) (rw f refl)
      (λ later on. rw (begins word.Object word.Agent r e, begins word.Agent word.Agent r e) (ap (λ (cells : List Cell). record { side = 1; floor = floor_at r 2; ceiling = ceiling_at r 3; cells = cells }) (row-cells g (field r 1) known))) h

  set-made : (r : Row) → word_of (field r 0) ≡ Some word.Set → AreMade g (rs ++ r ∷ []) ins (add_kind (Some word.Set) g st r)
  unfolding add_kind add_set
  set-made r e =
      one-set g rs ins r _ st (add_kind (Some word.Set) g st r) (kept-kind g (Some word.Set) r st) refl
      (λ later on. rw (begins word.Object word.Set r e, begins word.Agent word.Set r e) (ap (set_with r) (no-cells later on))) h

  in-sets : (r : Row) (p : ℕ) (agents columns : List ℕ) → place_named st r ≡ Some p → agents_named g st r ≡ Some agents → columns_named g st r ≡ Some columns
      → (add_kind (Some word.In) g st r).sets ≡ grown_at (length g.agents) (length g.objects) st.sets p agents columns
  unfolding add_kind add_cells
  in-sets r p agents columns at of_agents of_columns = rw (at, of_agents, of_columns) refl

  in-made : (r : Row) → ArePlaces rs st → check_word word.In g st r ≡ None → AreMade g rs (ins ++ r ∷ []) (add_kind (Some word.In) g st r)
  in-made r stand c =
      let passed = in-passed g st r c in
      let (p, at) = some-value (place_named st r) passed.place in
      let (agents, of_agents) = some-list (agents_named g st r) passed.agents in
      let (columns, of_columns) = some-list (columns_named g st r) passed.columns in
      let (s, there, begins, name) = stand.from (field r 1) p at in
      more-cells g rs ins r st (add_kind (Some word.In) g st r) (kept-kind g (Some word.In) r st) stand
      (record { place = p; agents = agents; columns = columns; at_place = at; below = slice_get_within rs p s there; of_agents = of_agents; of_columns = of_columns })
      (in-sets r p agents columns at of_agents of_columns) h

  -- a record of another kind
  other-made : (o : Option Word) (r : Row) → (add_kind o g st r).sets ≡ st.sets → AreMade g (rs ++ []) (ins ++ []) (add_kind o g st r)
  other-made o r same =
      subst (λ (xs : List Row). AreMade g xs (ins ++ []) (add_kind o g st r)) (sym (append-nil rs))
      (subst (λ (xs : List Row). AreMade g rs xs (add_kind o g st r)) (sym (append-nil ins))
      (same-sets g rs ins st (add_kind o g st r) (kept-kind g o r st) same h))

  -- one more lawful record
  kind-made : (o : Option Word) (r : Row) (s : Bool) → g.solve ≡ s → word_of (field r 0) ≡ o → ArePlaces rs st → IsPassed o g st r → AreMade g (rs ++ cond (states_kind s o) (r ∷ []) []) (ins ++ cond (is_kind word.In o) (r ∷ []) []) (add_kind o g st r)
  unfolding add_kind add_group add_bundle
  kind-made None r s f e stand p = other-made None r refl
  kind-made (Some word.Object) r s f e stand p = subst (λ (xs : List Row). AreMade g (rs ++ r ∷ []) xs (add_kind (Some word.Object) g st r)) (sym (append-nil ins)) (object-made r e p.1)
  kind-made (Some word.Agent) r s f e stand p = subst (λ (xs : List Row). AreMade g (rs ++ cond (not s) (r ∷ []) []) xs (add_kind (Some word.Agent) g st r)) (sym (append-nil ins)) (agent-made r s f e p.1)
  kind-made (Some word.Group) r s f e stand p = other-made (Some word.Group) r refl
  kind-made (Some word.Bundle) r s f e stand p = other-made (Some word.Bundle) r refl
  kind-made (Some word.Set) r s f e stand p = subst (λ (xs : List Row). AreMade g (rs ++ r ∷ []) xs (add_kind (Some word.Set) g st r)) (sym (append-nil ins)) (set-made r e)
  kind-made (Some word.In) r s f e stand p = subst (λ (xs : List Row). AreMade g xs (ins ++ r ∷ []) (add_kind (Some word.In) g st r)) (sym (append-nil rs)) (in-made r stand p.1)

-- ---- all records

-- the sets of lawful records, and where their names lead
abbrev IsStanding : Setting → List Row → Type 0
IsStanding g rows = ArePlaces (set_records g rows) (stated_by g rows) × AreMade g (set_records g rows) (records_of (codes "in") rows) (stated_by g rows)

one-more : (g : Setting) (before : List Row) (r : Row) → check_record g before r ≡ None → IsStanding g before → IsStanding g (before ++ r ∷ [])
unfolding check_record
one-more g before r c h = (stand-more g before r c h.0, made-more)
  where
    made-more : AreMade g (set_records g (before ++ r ∷ [])) (records_of (codes "in") (before ++ r ∷ [])) (stated_by g (before ++ r ∷ []))
    made-more =
        let o = word_of (field r 0) in
        let st = stated_by g before in
        let next = kind-made g (set_records g before) (records_of (codes "in") before) st h.1 o r g.solve refl refl h.0 (next-passed g st r c) in
        subst (λ (later : Stated). AreMade g (set_records g (before ++ r ∷ [])) (records_of (codes "in") (before ++ r ∷ [])) later) (sym (stated-more g before r))
        (subst (λ (rs : List Row). AreMade g rs (records_of (codes "in") (before ++ r ∷ [])) (add_kind o g st r)) (sym (set_records-more g before r))
        (subst (λ (ins : List Row). AreMade g (set_records g before ++ cond (states_kind g.solve o) (r ∷ []) []) ins (add_kind o g st r)) (sym (records-push word.In before r)) next))

pub sets-stand : (g : Setting) (rows : List Row) → quotas_fault g rows ≡ None → ArePlaces (set_records g rows) (stated_by g rows) × AreMade g (set_records g rows) (records_of (codes "in") rows) (stated_by g rows)
unfolding stated_from
sets-stand g rows e = fault-keeps (check_record g) (λ _. None) (λ rows. IsStanding g rows) (one-more g) [] rows e (places-first g, none-made g)
