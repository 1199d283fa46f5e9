-- The sets and demands of lawful quotas for `solve`, record by record.
use Rattle.std.proofs.Common.{◌≡◌, ◌∙◌, ◌<◌, ◌≤◌, ◌++◌, ◌∷◌, ◌||◌, [], ℕ, List, Option, Some, None, Bool, true, false, cond, All, refl, sym, ap, subst, length, get_or, set, arith, inl, inr}
use Rattle.std.specs.Prelude.{◌==◌, not, unwrap_or}
use Rattle.std.specs.List.{Any, list_all}
use Rattle.std.specs.Str.{bytes_eq, is_utf8}
use Rattle.std.proofs.lemmas.Bool.{cases_lt, cases_eq, or_cases}
use Rattle.std.proofs.lemmas.List.{length-set, length_push, length-replicate, get_or_append_left, get_or-set_other, set_past}
use Rattle.std.proofs.lemmas.List.Elements.{All-nil, All-push, All-set, All-replicate}
use Rattle.std.proofs.lemmas.List.Folds.{list_any-append, sum_by-replicate}
use Rattle.std.proofs.lemmas.List.Quantifiers.{any-set, Any-push, position-Some}
use Rattle.std.proofs.lemmas.Option.{slice_get-get_or}
use Rattle.definitions.specs.Sets.{SetValue, cell_of, holds, cells_in}
use Rattle.definitions.specs.Texts.{Row, field, has_name, name_index}
use Rattle.definitions.specs.Values.{IsStatedSet, HoldsColumn}
use Rattle.definitions.proofs.Members.{name_test}
use Rattle.definitions.proofs.Passed.{both-pass, fault-keeps}
use Rattle.quota_sets.specs.Parts.{AreDemands}
use Rattle.alloc_input.specs.Cells.{numbers_to, with_rectangle}
use Rattle.alloc_input.specs.Checks.{need}
use Rattle.alloc_input.specs.Stated.{Setting, Stated, word_of, floor_at, ceiling_at, side_of, empty_set, with_rectangle_in, grown_at, number_or_0, add_object, add_row, add_demand, add_group, add_bundle, add_set, add_cells, add_kind, add_record, stated_from, stated_by, nothing, place_named, agents_named, columns_named}
use Rattle.alloc_input.specs.Quotas.{check_object, check_row, check_demand, check_set, check_in, check_kind, check_word, check_next, check_record, fields_fit, quotas_fault}
use Rattle.alloc_input.specs.declared.faults.InputKind.{InputKind}
use Rattle.alloc_input.specs.declared.faults.InputKind.TheVariants as kind
use Rattle.alloc_input.specs.declared.quotas.words.Word.{Word}
use Rattle.alloc_input.specs.declared.quotas.words.Word.TheVariants as word
use Rattle.alloc_input.proofs.Reading.{stated_more}
use Rattle.alloc_input.proofs.Rectangles.{rectangle-within, rectangle-keeps, column-added}
use Rattle.alloc_input.proofs.StatedChecks.{limits-passed, object-passed, demand-passed, set-passed, in-passed}

-- each of these objects is one of the first 200, and has a set that holds its whole column
abbrev pub AreColumnsStated : List (List ℕ) → ℕ → List (List ℕ) → List SetValue → Type 0
AreColumnsStated objects agents columns sets = (name : List ℕ) (a : ℕ) → has_name columns name ≡ true → name_index objects name ≡ Some a → (a < 200) × Any (HoldsColumn agents a) sets

-- what lawful records for `solve` have stated
pub record IsSolveStated (g : Setting) (st : Stated) : Type 0 where
  pub sets_limit : length st.sets ≤ 1000
  pub cells_limit : cells_in st.sets ≤ 1000000
  pub sets_lawful : All (IsStatedSet (length g.objects)) st.sets
  pub columns_stated : AreColumnsStated g.objects (length g.agents) st.columns st.sets
  pub demands_lawful : AreDemands (length g.agents) st.demands

-- ---- some set holds

any-left : (P : SetValue → Type 0) (sets : List SetValue) (s : SetValue) → Any P sets → Any P (sets ++ s ∷ [])
any-left P sets s (k, x, l, e, p) = (k, x, omega (arith, l, length_push sets s), get_or_append_left sets (s ∷ []) x k l ∙ e, p)

same-at : (sets : List SetValue) (k : ℕ) (x d : SetValue) → k < length sets → get_or sets k x ≡ x → get_or sets k d ≡ x
same-at sets k x d l e =
    let first = slice_get-get_or sets k x l in
    let second = slice_get-get_or sets k d l in
    let p : Some (get_or sets k d) ≡ Some (get_or sets k x) = sym second ∙ first in
    let q : get_or sets k d ≡ get_or sets k x = cc p in
    q ∙ e

any-grown : (P : SetValue → Type 0) (sets : List SetValue) (i : ℕ) (y d : SetValue) → (P (get_or sets i d) → P y) → Any P sets → Any P (set sets i y)
any-grown P sets i y d grow (k, x, l, e, p) = elim (cases_eq k i) [
  | inl here ↦
      let at : get_or sets i d ≡ x = ap (λ j. get_or sets j d) (sym here) ∙ same-at sets k x d l e in
      any-set P sets i y (omega (arith, l, here)) (grow (subst P (sym at) p))
  | inr other ↦ (k, x, omega (arith, l, length-set sets i y), get_or-set_other sets i k y x other ∙ e, p)
]

-- ---- the columns that are stated

same-name : (objects : List (List ℕ)) (name other : List ℕ) (a b : ℕ) → has_name (name ∷ []) other ≡ true → name_index objects name ≡ Some a → name_index objects other ≡ Some b → b ≡ a
same-name objects name other a b among is at =
    let same : other ≡ name = name_test.sound other name (or-false (bytes_eq other name) among) in
    let there : name_index objects name ≡ Some b = subst (λ n. name_index objects n ≡ Some b) same at in
    let p : Some b ≡ Some a = sym there ∙ is in
    let q : b ≡ a = cc p in
    q
  where
    or-false : (b : Bool) → (b || false) ≡ true → b ≡ true
    or-false true e = refl
    or-false false e = e

columns-more : (objects : List (List ℕ)) (agents : ℕ) (columns : List (List ℕ)) (sets : List SetValue) (name : List ℕ) (a : ℕ) (s : SetValue)
    → name_index objects name ≡ Some a → a < 200 → HoldsColumn agents a s → AreColumnsStated objects agents columns sets → AreColumnsStated objects agents (columns ++ name ∷ []) (sets ++ s ∷ [])
columns-more objects agents columns sets name a s is few holds_it h other b among at =
    elim (or_cases (has_name columns other) (has_name (name ∷ []) other) (sym (list_any-append (bytes_eq other) columns (name ∷ [])) ∙ among)) [
      | inl earlier ↦ (let old = h other b earlier at in (old.0, any-left (HoldsColumn agents b) sets s old.1))
      | inr here ↦ (let same = same-name objects name other a b here is at in (omega (arith, few, same), Any-push (HoldsColumn agents b) sets s (subst (λ k. HoldsColumn agents k s) (sym same) holds_it)))
    ]

columns-still : (objects : List (List ℕ)) (agents : ℕ) (columns : List (List ℕ)) (sets : List SetValue) (s : SetValue)
    → AreColumnsStated objects agents columns sets → AreColumnsStated objects agents columns (sets ++ s ∷ [])
columns-still objects agents columns sets s h name a among at = (let old = h name a among at in (old.0, any-left (HoldsColumn agents a) sets s old.1))

columns-grown : (objects : List (List ℕ)) (agents : ℕ) (columns : List (List ℕ)) (sets : List SetValue) (place : ℕ) (rows cols : List ℕ)
    → AreColumnsStated objects agents columns sets → AreColumnsStated objects agents columns (grown_at agents (length objects) sets place rows cols)
unfolding grown_at
columns-grown objects agents columns sets place rows cols h name a among at =
    let old = h name a among at in
    let known = (position-Some (bytes_eq name) objects a [] at).0 in
    let before = get_or sets place (empty_set 0 0 0) in (
      old.0,
      any-grown (HoldsColumn agents a) sets place (with_rectangle_in agents (length objects) rows cols before) (empty_set 0 0 0)
          (λ whole i l. rectangle-keeps agents (length objects) rows cols before.cells i a l known (whole i l)) old.1,
    )

column-set : (m n a : ℕ) (o : Option ℕ) (i : ℕ) → o ≡ Some a → i < m → a < n → holds (with_rectangle m n (numbers_to m) (number_or_0 o ∷ []) []) (cell_of i a) ≡ true
column-set m n a o i e l g = rw e (column-added m n a i [] l g)

sets-grown : (m n : ℕ) (sets : List SetValue) (place : ℕ) (rows cols : List ℕ) → All (IsStatedSet n) sets → All (IsStatedSet n) (grown_at m n sets place rows cols)
unfolding grown_at
sets-grown m n sets place rows cols h = elim (cases_lt place (length sets)) [
  | inl there ↦
      let before = get_or sets place (empty_set 0 0 0) in
      let old : IsStatedSet n before = h place (empty_set 0 0 0) there in
      All-set (IsStatedSet n) sets place (with_rectangle_in m n rows cols before) (record { side = old.side; floor = old.floor; objects = rectangle-within m n rows cols before.cells }) h
  | inr past ↦ subst (λ (xs : List SetValue). All (IsStatedSet n) xs) (sym (set_past sets place (with_rectangle_in m n rows cols (get_or sets place (empty_set 0 0 0))) past)) h
]

-- ---- one more record of each kind

module _ (g : Setting) (st : Stated) (row : Row) (solve : g.solve ≡ true) (h : IsSolveStated g st) where
  object-stated : check_object g st row ≡ None → IsSolveStated g (add_object g st row)
  unfolding add_object
  object-stated e =
      let m = length g.agents in
      let n = length g.objects in
      let (a, is, few, floor, limits) = object-passed g st row solve e in
      let known = (position-Some (bytes_eq (field row 1)) g.objects a [] is).0 in
      let x = with_rectangle_in m n (numbers_to m) (number_or_0 (name_index g.objects (field row 1)) ∷ []) (empty_set 2 (floor_at row 2) (ceiling_at row 3)) in
      let within = limits-passed (st.sets ++ x ∷ []) limits in
      record {
        sets_limit = within.0;
        cells_limit = within.1;
        sets_lawful = All-push (IsStatedSet n) st.sets x h.sets_lawful (record { side = refl; floor = floor; objects = rectangle-within m n (numbers_to m) (number_or_0 (name_index g.objects (field row 1)) ∷ []) [] });
        columns_stated = columns-more g.objects m st.columns st.sets (field row 1) a x is few (λ i l. column-set m n a (name_index g.objects (field row 1)) i is l known) h.columns_stated;
        demands_lawful = h.demands_lawful;
      }

  demand-stated : check_demand g st row ≡ None → IsSolveStated g (add_demand g st row)
  unfolding add_demand
  demand-stated e =
      let p = demand-passed g st row e in
      let place = number_or_0 (name_index g.agents (field row 1)) in
      record {
        sets_limit = h.sets_limit;
        cells_limit = h.cells_limit;
        sets_lawful = h.sets_lawful;
        columns_stated = h.columns_stated;
        demands_lawful = record {
          many = length-set st.demands place (floor_at row 2) ∙ h.demands_lawful.many;
          each = All-set (λ d. 1 ≤ d) st.demands place (floor_at row 2) p.0 h.demands_lawful.each;
          limit = p.1;
        };
      }

  set-stated : check_set g st row ≡ None → IsSolveStated g (add_set g st row)
  unfolding add_set
  set-stated e =
      let p = set-passed g st row solve e in
      let x = empty_set (side_of (field row 2)) (floor_at row 3) (ceiling_at row 4) in
      let within = limits-passed (st.sets ++ x ∷ []) p.2 in
      record {
        sets_limit = within.0;
        cells_limit = within.1;
        sets_lawful = All-push (IsStatedSet (length g.objects)) st.sets x h.sets_lawful (record { side = p.0; floor = p.1; objects = All-nil (λ c. c.object < length g.objects) });
        columns_stated = columns-still g.objects (length g.agents) st.columns st.sets x h.columns_stated;
        demands_lawful = h.demands_lawful;
      }

  cells-stated : check_in g st row ≡ None → IsSolveStated g (add_cells g st row)
  unfolding add_cells
  cells-stated e =
      let m = length g.agents in
      let n = length g.objects in
      let place = number_or_0 (place_named st row) in
      let rows = unwrap_or (agents_named g st row) [] in
      let cols = unwrap_or (columns_named g st row) [] in
      let within = limits-passed (grown_at m n st.sets place rows cols) (in-passed g st row e) in
      record {
        sets_limit = within.0;
        cells_limit = within.1;
        sets_lawful = sets-grown m n st.sets place rows cols h.sets_lawful;
        columns_stated = columns-grown g.objects m st.columns st.sets place rows cols h.columns_stated;
        demands_lawful = h.demands_lawful;
      }

  agent-stated : (s : Bool) → s ≡ true → cond s (check_demand g st row) (check_row g st row) ≡ None → IsSolveStated g (cond s (add_demand g st row) (add_row g st row))
  agent-stated true s e = demand-stated e
  agent-stated false s e = cc s

  group-stated : IsSolveStated g (add_group g st row)
  unfolding add_group
  group-stated = record { sets_limit = h.sets_limit; cells_limit = h.cells_limit; sets_lawful = h.sets_lawful; columns_stated = h.columns_stated; demands_lawful = h.demands_lawful }

  bundle-stated : IsSolveStated g (add_bundle g st row)
  unfolding add_bundle
  bundle-stated = record { sets_limit = h.sets_limit; cells_limit = h.cells_limit; sets_lawful = h.sets_lawful; columns_stated = h.columns_stated; demands_lawful = h.demands_lawful }

  word-stated : (w : Word) → check_word w g st row ≡ None → IsSolveStated g (add_kind (Some w) g st row)
  unfolding check_word add_kind
  word-stated word.Object e = object-stated e
  word-stated word.Agent e = agent-stated g.solve solve e
  word-stated word.Group e = group-stated
  word-stated word.Bundle e = bundle-stated
  word-stated word.Set e = set-stated e
  word-stated word.In e = cells-stated e

  kind-stated : (w : Option Word) → check_kind w g st row ≡ None → IsSolveStated g (add_kind w g st row)
  unfolding check_kind
  kind-stated None e = absurd (cc)
  kind-stated (Some w) e = word-stated w (both-pass (need (fields_fit w row) kind.WrongLength) (check_word w g st row) e).1

  filled-stated : (w : Option Word) (blank text : Bool) (k : InputKind) → cond blank None (cond (not text) (Some k) (check_kind w g st row)) ≡ None → IsSolveStated g (cond blank st (add_kind w g st row))
  filled-stated w true text k e = h
  filled-stated w false true k e = kind-stated w e
  filled-stated w false false k e = absurd (cc)

  next-stated : check_next g st row ≡ None → IsSolveStated g (add_record g st row)
  unfolding check_next add_record
  next-stated e = filled-stated (word_of (field row 0)) (length row == 0) (list_all is_utf8 row) kind.NotUtf8 e

-- ---- all records

nothing-stated : (g : Setting) → length g.agents ≤ 1000 → IsSolveStated g (stated_by g [])
unfolding stated_from
nothing-stated g few =
    let m = length g.agents in
    let total = sum_by-replicate (λ (d : ℕ). d) m 1 in
    record {
      sets_limit = omega arith;
      cells_limit = omega arith;
      sets_lawful = All-nil (IsStatedSet (length g.objects));
      columns_stated = λ name a e is. absurd (cc e);
      demands_lawful = record { many = length-replicate m 1; each = All-replicate (λ d. 1 ≤ d) m 1 (omega arith); limit = omega (arith, total) };
    }

pub solve-stated : (g : Setting) (rows : List Row) → g.solve ≡ true → length g.agents ≤ 1000 → quotas_fault g rows ≡ None → IsSolveStated g (stated_by g rows)
unfolding check_record
solve-stated g rows solve few e =
    fault-keeps (check_record g) (λ _. None) (λ rows. IsSolveStated g (stated_by g rows))
    (λ before row c h. subst (IsSolveStated g) (sym (stated_more g (nothing g) before row)) (next-stated g (stated_by g before) row solve h c))
    [] rows e (nothing-stated g few)
