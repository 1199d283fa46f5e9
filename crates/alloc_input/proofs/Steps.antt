-- A check after others, and what a record adds.
use Rattle.std.proofs.Common.{◌≡◌, ◌∙◌, ◌++◌, ◌∷◌, [], ℕ, List, Option, Some, None, Result, Ok, Err, length, refl, sym}
use Rattle.std.specs.Option.{option_or}
use Rattle.std.specs.Prelude.{sum, slice_set, nat_le}
use Rattle.definitions.specs.Sets.{SetValue}
use Rattle.definitions.specs.Texts.{Row, field, name_index}
use Rattle.alloc_input.specs.Cells.{numbers_to}
use Rattle.alloc_input.specs.Checks.{Checks, need}
use Rattle.alloc_input.specs.Stated.{Setting, Stated, floor_at, ceiling_at, add_object, add_row, add_demand, add_set, with_rectangle_in, empty_set, side_of, grown_at, add_cells, place_named, agents_named, columns_named}
use Rattle.alloc_input.specs.Quotas.{check_limits}
use Rattle.alloc_input.specs.declared.faults.InputKind.{InputKind}
use Rattle.alloc_input.specs.declared.faults.InputKind.TheVariants as kind
use Rattle.alloc_input.specs.declared.faults.Stop.{Stop}

-- a check that follows one which passed
pub then_checks : {X : Type 0} (r : Result X Stop) (a b b2 : Option InputKind) (P Q : X → Type 0) → a ≡ None → b ≡ b2 → ((x : X) → P x → Q x) → Checks r b P → Checks r (option_or a b2) Q
then_checks (Ok x) a b b2 P Q e g f h = (rw e (sym g ∙ h.0), f x h.1)
then_checks (Err s) a b b2 P Q e g f h = rw (e, ← g) h

-- what one that follows finds, where the first passes
pub follows : (a b b2 o : Option InputKind) → a ≡ None → b ≡ b2 → b ≡ o → option_or a b2 ≡ o
follows a b b2 o e g h = rw (e, ← g) h

module _ (g : Setting) (st : Stated) (row : Row) (k f c m n : ℕ) (ys : List ℕ) (cols : List (List ℕ)) (sets : List SetValue)
    (a : name_index g.objects (field row 1) ≡ Some k) (b : f ≡ floor_at row 2) (d : c ≡ ceiling_at row 3)
    (p : m ≡ length g.agents) (q : n ≡ length g.objects) (r : ys ≡ numbers_to (length g.agents)) where
  pub object_limits : check_limits (st.sets ++ with_rectangle_in m n ys (k ∷ []) (empty_set 2 f c) ∷ []) ≡ check_limits (add_object g st row).sets
  unfolding add_object
  object_limits = rw (a, b, d, p, q, r) refl

  pub object_stated : cols ≡ st.columns ++ field row 1 ∷ [] → sets ≡ st.sets ++ with_rectangle_in m n ys (k ∷ []) (empty_set 2 f c) ∷ []
      → record st { columns = cols; sets = sets } ≡ add_object g st row
  unfolding add_object
  object_stated u v = rw (u, v, a, b, d, p, q, r) refl

module _ (g : Setting) (st : Stated) (row : Row) (k f c m n : ℕ) (bs : List ℕ) (rows : List (List ℕ)) (sets : List SetValue)
    (a : name_index g.agents (field row 1) ≡ Some k) (b : f ≡ floor_at row 2) (d : c ≡ ceiling_at row 3)
    (p : m ≡ length g.agents) (q : n ≡ length g.objects) (r : bs ≡ numbers_to (length g.objects)) where
  pub row_limits : check_limits (st.sets ++ with_rectangle_in m n (k ∷ []) bs (empty_set 1 f c) ∷ []) ≡ check_limits (add_row g st row).sets
  unfolding add_row
  row_limits = rw (a, b, d, p, q, r) refl

  pub row_stated : rows ≡ st.rows ++ field row 1 ∷ [] → sets ≡ st.sets ++ with_rectangle_in m n (k ∷ []) bs (empty_set 1 f c) ∷ []
      → record st { rows = rows; sets = sets } ≡ add_row g st row
  unfolding add_row
  row_stated u v = rw (u, v, a, b, d, p, q, r) refl

module _ (g : Setting) (st : Stated) (row : Row) (side f c : ℕ) (names : List (List ℕ)) (places : List ℕ) (sets : List SetValue)
    (a : side ≡ side_of (field row 2)) (b : f ≡ floor_at row 3) (d : c ≡ ceiling_at row 4) where
  pub set_limits : check_limits (st.sets ++ empty_set side f c ∷ []) ≡ check_limits (add_set g st row).sets
  unfolding add_set
  set_limits = rw (a, b, d) refl

  pub set_stated : names ≡ st.names ++ field row 1 ∷ [] → places ≡ st.places ++ length st.sets ∷ [] → sets ≡ st.sets ++ empty_set side f c ∷ []
      → record st { names = names; places = places; sets = sets } ≡ add_set g st row
  unfolding add_set
  set_stated u w v = rw (u, w, v, a, b, d) refl

-- what a record of `in` adds
module _ (g : Setting) (st : Stated) (row : Row) (k m n : ℕ) (xs ys : List ℕ) (sets : List SetValue)
    (a : place_named st row ≡ Some k) (b : agents_named g st row ≡ Some xs) (d : columns_named g st row ≡ Some ys)
    (p : m ≡ length g.agents) (q : n ≡ length g.objects) where
  pub in_limits : check_limits (grown_at m n st.sets k xs ys) ≡ check_limits (add_cells g st row).sets
  unfolding add_cells
  in_limits = rw (a, b, d, p, q) refl

  pub in_stated : sets ≡ grown_at m n st.sets k xs ys → record st { sets = sets } ≡ add_cells g st row
  unfolding add_cells
  in_stated u = rw (u, a, b, d, p, q) refl

module _ (g : Setting) (st : Stated) (row : Row) (k f : ℕ) (rows : List (List ℕ)) (demands : List ℕ)
    (a : name_index g.agents (field row 1) ≡ Some k) (b : f ≡ floor_at row 2) where
  pub demand_limits : need (nat_le (sum (slice_set st.demands k f)) 1000) kind.OverLimit ≡ need (nat_le (sum (add_demand g st row).demands) 1000) kind.OverLimit
  unfolding add_demand
  demand_limits = rw (a, b) refl

  pub demand_stated : rows ≡ st.rows ++ field row 1 ∷ [] → demands ≡ slice_set st.demands k f → record st { rows = rows; demands = demands } ≡ add_demand g st row
  unfolding add_demand
  demand_stated u v = rw (u, v, a, b) refl
