-- What all records of a kind state.
use Rattle.std.proofs.Common.{◌≡◌, ◌∙◌, ◌==◌, ◌++◌, ◌||◌, ◌&&◌, ◌∷◌, [], ℕ, suc, List, Option, Some, None, Bool, true, false, cond, refl, sym, ap, map, length, drop, append_assoc, inl, inr}
use Rattle.std.specs.Prelude.{codes, not}
use Rattle.std.specs.List.{cons_option, filter_map, list_any}
use Rattle.std.proofs.lemmas.Bool.{cases_Bool, ne_eqb}
use Rattle.std.proofs.lemmas.List.{append-nil}
use Rattle.definitions.specs.Texts.{Row, field, name_index}
use Rattle.table_text.specs.Records.{begins_with, records_of}
use Rattle.alloc_input.specs.Cells.{has_number}
use Rattle.alloc_input.specs.SaidQuotas.{is_name_at, is_number, lists_number, names_of, numbers_listed}
use Rattle.alloc_input.specs.Stated.{Setting, Stated, add_bundle, add_cells, add_demand, add_group, add_kind, add_object, add_record, add_row, add_set, member_of, members_of, nothing, stated_by, stated_from, word_of}
use Rattle.alloc_input.specs.declared.quotas.words.Word.{Word}
use Rattle.alloc_input.specs.declared.quotas.words.Word.TheVariants as word
use Rattle.alloc_input.proofs.NumberFacts.{filter-range}
use Rattle.alloc_input.proofs.SaidWords.{is_kind, kind-test, name_of}

-- a record without fields has no kind
pub record-adds : (g : Setting) (st : Stated) (r : Row) → add_record g st r ≡ add_kind (word_of (field r 0)) g st r
unfolding add_record add_kind word_of
record-adds g st [] = refl
record-adds g st (f ∷ fs) = rw (ne_eqb (suc (length fs)) 0 (λ z. cc z)) refl

module _ {X : Type 0} (get : Stated → List X) (f : Row → X) (w : Word) (g : Setting)
    (step : (o : Option Word) (r : Row) (st : Stated) → get (add_kind o g st r) ≡ get st ++ cond (is_kind w o) (f r ∷ []) []) where
  adds-all : (st : Stated) (rows : List Row) → get (stated_from g st rows) ≡ get st ++ map f (records_of (name_of w) rows)
  unfolding stated_from
  adds-all st [] = sym (append-nil (get st))
  adds-all st (r ∷ rows) =
      let o = word_of (field r 0) in
      let next = adds-all (add_record g st r) rows ∙ ap (λ (s : Stated). get s ++ map f (records_of (name_of w) rows)) (record-adds g st r) in
      elim (cases_Bool (begins_with (name_of w) r)) [
        | inl is ↦
            let k : is_kind w o ≡ true = sym (kind-test w (field r 0)) ∙ is in
            rw is (next ∙ rw (step o r st, k) (append_assoc (get st) (f r ∷ []) (map f (records_of (name_of w) rows))))
        | inr isnt ↦
            let k : is_kind w o ≡ false = sym (kind-test w (field r 0)) ∙ isnt in
            rw isnt (next ∙ rw (step o r st, k, append-nil (get st)) refl)
      ]

  said-all : get (nothing g) ≡ [] → (rows : List Row) → get (stated_by g rows) ≡ map f (records_of (name_of w) rows)
  said-all e rows = adds-all (nothing g) rows ∙ rw e refl

pub columns-step : (g : Setting) (o : Option Word) (r : Row) (st : Stated) → (add_kind o g st r).columns ≡ st.columns ++ cond (is_kind word.Object o) (field r 1 ∷ []) []
unfolding add_kind add_object add_row add_demand add_group add_bundle add_set add_cells
columns-step g None r st = sym (append-nil st.columns)
columns-step g (Some word.Object) r st = refl
columns-step g (Some word.Agent) r st = either g.solve
  where
    either : (b : Bool) → (cond b (add_demand g st r) (add_row g st r)).columns ≡ st.columns ++ []
    either true = sym (append-nil st.columns)
    either false = sym (append-nil st.columns)
columns-step g (Some w) r st = sym (append-nil st.columns)

pub rows-step : (g : Setting) (o : Option Word) (r : Row) (st : Stated) → (add_kind o g st r).rows ≡ st.rows ++ cond (is_kind word.Agent o) (field r 1 ∷ []) []
unfolding add_kind add_object add_row add_demand add_group add_bundle add_set add_cells
rows-step g None r st = sym (append-nil st.rows)
rows-step g (Some word.Agent) r st = either g.solve
  where
    either : (b : Bool) → (cond b (add_demand g st r) (add_row g st r)).rows ≡ st.rows ++ field r 1 ∷ []
    either true = refl
    either false = refl
rows-step g (Some w) r st = sym (append-nil st.rows)

pub groups-step : (g : Setting) (o : Option Word) (r : Row) (st : Stated) → (add_kind o g st r).groups ≡ st.groups ++ cond (is_kind word.Group o) (field r 1 ∷ []) []
unfolding add_kind add_object add_row add_demand add_group add_bundle add_set add_cells
groups-step g None r st = sym (append-nil st.groups)
groups-step g (Some word.Group) r st = refl
groups-step g (Some word.Agent) r st = either g.solve
  where
    either : (b : Bool) → (cond b (add_demand g st r) (add_row g st r)).groups ≡ st.groups ++ []
    either true = sym (append-nil st.groups)
    either false = sym (append-nil st.groups)
groups-step g (Some w) r st = sym (append-nil st.groups)

pub members-step : (g : Setting) (o : Option Word) (r : Row) (st : Stated) → (add_kind o g st r).members ≡ st.members ++ cond (is_kind word.Group o) (members_of g.agents r ∷ []) []
unfolding add_kind add_object add_row add_demand add_group add_bundle add_set add_cells
members-step g None r st = sym (append-nil st.members)
members-step g (Some word.Group) r st = refl
members-step g (Some word.Agent) r st = either g.solve
  where
    either : (b : Bool) → (cond b (add_demand g st r) (add_row g st r)).members ≡ st.members ++ []
    either true = sym (append-nil st.members)
    either false = sym (append-nil st.members)
members-step g (Some w) r st = sym (append-nil st.members)

pub bundles-step : (g : Setting) (o : Option Word) (r : Row) (st : Stated) → (add_kind o g st r).bundles ≡ st.bundles ++ cond (is_kind word.Bundle o) (field r 1 ∷ []) []
unfolding add_kind add_object add_row add_demand add_group add_bundle add_set add_cells
bundles-step g None r st = sym (append-nil st.bundles)
bundles-step g (Some word.Bundle) r st = refl
bundles-step g (Some word.Agent) r st = either g.solve
  where
    either : (b : Bool) → (cond b (add_demand g st r) (add_row g st r)).bundles ≡ st.bundles ++ []
    either true = sym (append-nil st.bundles)
    either false = sym (append-nil st.bundles)
bundles-step g (Some w) r st = sym (append-nil st.bundles)

pub contents-step : (g : Setting) (o : Option Word) (r : Row) (st : Stated) → (add_kind o g st r).contents ≡ st.contents ++ cond (is_kind word.Bundle o) (members_of g.objects r ∷ []) []
unfolding add_kind add_object add_row add_demand add_group add_bundle add_set add_cells
contents-step g None r st = sym (append-nil st.contents)
contents-step g (Some word.Bundle) r st = refl
contents-step g (Some word.Agent) r st = either g.solve
  where
    either : (b : Bool) → (cond b (add_demand g st r) (add_row g st r)).contents ≡ st.contents ++ []
    either true = sym (append-nil st.contents)
    either false = sym (append-nil st.contents)
contents-step g (Some w) r st = sym (append-nil st.contents)

pub names-step : (g : Setting) (o : Option Word) (r : Row) (st : Stated) → (add_kind o g st r).names ≡ st.names ++ cond (is_kind word.Set o) (field r 1 ∷ []) []
unfolding add_kind add_object add_row add_demand add_group add_bundle add_set add_cells
names-step g None r st = sym (append-nil st.names)
names-step g (Some word.Set) r st = refl
names-step g (Some word.Agent) r st = either g.solve
  where
    either : (b : Bool) → (cond b (add_demand g st r) (add_row g st r)).names ≡ st.names ++ []
    either true = sym (append-nil st.names)
    either false = sym (append-nil st.names)
names-step g (Some w) r st = sym (append-nil st.names)

pub columns-said : (g : Setting) (rows : List Row) → (stated_by g rows).columns ≡ names_of (codes "object") rows
columns-said g rows = said-all (λ st. st.columns) (λ r. field r 1) word.Object g (columns-step g) refl rows

pub rows-said : (g : Setting) (rows : List Row) → (stated_by g rows).rows ≡ names_of (codes "agent") rows
rows-said g rows = said-all (λ st. st.rows) (λ r. field r 1) word.Agent g (rows-step g) refl rows

pub groups-said : (g : Setting) (rows : List Row) → (stated_by g rows).groups ≡ names_of (codes "group") rows
groups-said g rows = said-all (λ st. st.groups) (λ r. field r 1) word.Group g (groups-step g) refl rows

pub bundles-said : (g : Setting) (rows : List Row) → (stated_by g rows).bundles ≡ names_of (codes "bundle") rows
bundles-said g rows = said-all (λ st. st.bundles) (λ r. field r 1) word.Bundle g (bundles-step g) refl rows

pub names-said : (g : Setting) (rows : List Row) → (stated_by g rows).names ≡ names_of (codes "set") rows
names-said g rows = said-all (λ st. st.names) (λ r. field r 1) word.Set g (names-step g) refl rows

-- ---- the numbers that a group or bundle names

module _ (names : List (List ℕ)) where
  one-member : (i : ℕ) (f : List ℕ) (rest : List ℕ) → has_number (cons_option (member_of names f) rest) i ≡ ((not (length f == 0) && is_name_at names i f) || has_number rest i)
  one-member i f rest = by (length f == 0) (name_index names f)
    where
      by : (b : Bool) (o : Option ℕ) → has_number (cons_option (cond b None o) rest) i ≡ ((not b && is_number i o) || has_number rest i)
      by true o = refl
      by false None = refl
      by false (Some k) = refl

  has-members : (i : ℕ) (fields : List (List ℕ)) → has_number (filter_map (member_of names) fields) i ≡ list_any (λ f. not (length f == 0) && is_name_at names i f) fields
  has-members i [] = refl
  has-members i (f ∷ fields) = one-member i f (filter_map (member_of names) fields) ∙ ap (λ b. (not (length f == 0) && is_name_at names i f) || b) (has-members i fields)

  pub members-listed : (r : Row) → members_of names r ≡ numbers_listed names r
  members-listed r = filter-range (has_number (filter_map (member_of names) (drop 2 r))) (λ i. lists_number names i r) 0 (length names) (λ i l g. has-members i (drop 2 r))

  map-members : (rows : List Row) → map (members_of names) rows ≡ map (numbers_listed names) rows
  map-members [] = refl
  map-members (r ∷ rows) = rw (members-listed r, map-members rows) refl

pub members-said : (g : Setting) (rows : List Row) → (stated_by g rows).members ≡ map (numbers_listed g.agents) (records_of (codes "group") rows)
members-said g rows = said-all (λ st. st.members) (members_of g.agents) word.Group g (members-step g) refl rows ∙ map-members g.agents (records_of (codes "group") rows)

pub contents-said : (g : Setting) (rows : List Row) → (stated_by g rows).contents ≡ map (numbers_listed g.objects) (records_of (codes "bundle") rows)
contents-said g rows = said-all (λ st. st.contents) (members_of g.objects) word.Bundle g (contents-step g) refl rows ∙ map-members g.objects (records_of (codes "bundle") rows)
