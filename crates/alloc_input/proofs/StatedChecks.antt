-- What a record of quotas for `solve` keeps to, where it passes its checks.
use Rattle.std.proofs.Common.{◌≡◌, ◌<◌, ◌≤◌, ◌||◌, ◌∷◌, [], ℕ, zero, suc, List, Option, Some, None, Bool, true, false, refl, length, get_or, arith}
use Rattle.std.specs.Prelude.{◌==◌, not, is_some, sum, nat_le}
use Rattle.std.specs.Str.{bytes_eq}
use Rattle.std.proofs.lemmas.Bool.{leb-true, ltb-true, eqb-true}
use Rattle.definitions.specs.Sets.{SetValue, cells_in}
use Rattle.definitions.specs.Texts.{Row, field, is_name, name_index, null_name}
use Rattle.definitions.proofs.Passed.{both-pass}
use Rattle.alloc_input.specs.Checks.{need, first_of}
use Rattle.alloc_input.specs.Stated.{Setting, Stated, floor_at, ceiling_at, side_of, add_object, add_demand, add_set, add_cells}
use Rattle.alloc_input.specs.Quotas.{is_below, check_limits, check_quotas, object_words, check_object, demand_words, check_demand, set_words, check_set, check_in}
use Rattle.alloc_input.specs.declared.faults.InputKind.{InputKind}
use Rattle.alloc_input.specs.declared.faults.InputKind.TheVariants as kind
use Rattle.alloc_input.proofs.Stops.{passed}

-- each of some checks passes, where none fails
pub each-passed : (checks : List (Option InputKind)) → first_of checks ≡ None → (k : ℕ) → get_or checks k None ≡ None
each-passed [] e k = refl
each-passed (None ∷ checks) e zero = refl
each-passed (None ∷ checks) e (suc k) = each-passed checks e k
each-passed (Some x ∷ checks) e k = absurd (cc)

for-solve : (solve holds : Bool) → solve ≡ true → (not solve || holds) ≡ true → holds ≡ true
for-solve true holds s e = e
for-solve false holds s e = cc s

below-limit : (o : Option ℕ) (a : ℕ) → o ≡ Some a → is_below o 200 ≡ true → a < 200
below-limit None a e h = cc e
below-limit (Some k) a e h = let below = ltb-true k 200 h in let same : k ≡ a = cc e in omega (arith, below, same)

-- an option with a value
pub some-value : (o : Option ℕ) → is_some o ≡ true → (a : ℕ) × (o ≡ Some a)
some-value None e = cc e
some-value (Some a) e = (a, refl)

-- within the limits: at most 1,000 sets and 1,000,000 cells
pub limits-passed : (sets : List SetValue) → check_limits sets ≡ None → (length sets ≤ 1000) × (cells_in sets ≤ 1000000)
unfolding check_limits
limits-passed sets e =
    let pass = each-passed (need (nat_le (length sets) 1000) kind.OverLimit ∷ need (nat_le (cells_in sets) 1000000) kind.OverLimit ∷ []) e in
    (leb-true (length sets) 1000 (passed _ _ (pass 0)), leb-true (cells_in sets) 1000000 (passed _ _ (pass 1)))

object-words-passed : (g : Setting) (st : Stated) (row : Row) → g.solve ≡ true → object_words g st row ≡ None
    → (is_below (name_index g.objects (field row 1)) 200 ≡ true) × (is_some (name_index g.objects (field row 1)) ≡ true) × ((floor_at row 2 == 0) ≡ true)
unfolding object_words
object-words-passed g st row s e =
    let pass = each-passed (need (is_name (field row 1)) kind.BadName ∷ need (not (bytes_eq (field row 1) null_name)) kind.NoneInSet ∷ need (not g.solve || is_below (name_index g.objects (field row 1)) 200) kind.OverLimit ∷ need (is_some (name_index g.objects (field row 1))) kind.UnknownName ∷ need (not (is_some (name_index st.columns (field row 1)))) kind.RepeatedName ∷ check_quotas row 2 ∷ need (not g.solve || floor_at row 2 == 0) kind.FloorInSolve ∷ need (nat_le (floor_at row 2) (ceiling_at row 3)) kind.FloorAboveCeiling ∷ []) e in
    (for-solve g.solve (is_below (name_index g.objects (field row 1)) 200) s (passed _ _ (pass 2)), passed _ _ (pass 3), for-solve g.solve (floor_at row 2 == 0) s (passed _ _ (pass 6)))

-- an `object` record names one of the first 200 objects and has floor 0
pub object-passed : (g : Setting) (st : Stated) (row : Row) → g.solve ≡ true → check_object g st row ≡ None
    → (a : ℕ) × (name_index g.objects (field row 1) ≡ Some a) × (a < 200) × (floor_at row 2 ≡ 0) × (check_limits (add_object g st row).sets ≡ None)
unfolding check_object
object-passed g st row s e =
    let both = both-pass (object_words g st row) (check_limits (add_object g st row).sets) e in
    let words = object-words-passed g st row s both.0 in
    let (a, is) = some-value (name_index g.objects (field row 1)) words.1 in
    (a, is, below-limit (name_index g.objects (field row 1)) a is words.0, eqb-true (floor_at row 2) 0 words.2, both.1)

demand-words-passed : (g : Setting) (st : Stated) (row : Row) → demand_words g st row ≡ None → nat_le 1 (floor_at row 2) ≡ true
unfolding demand_words
demand-words-passed g st row e = passed _ _ (each-passed (need (is_name (field row 1)) kind.BadName ∷ need (is_some (name_index g.agents (field row 1))) kind.UnknownName ∷ need (not (is_some (name_index st.rows (field row 1)))) kind.RepeatedName ∷ check_quotas row 2 ∷ need (floor_at row 2 == ceiling_at row 3) kind.RowInSolve ∷ need (nat_le 1 (floor_at row 2)) kind.RowInSolve ∷ []) e 5)

-- a demand is at least 1, and all together are at most 1,000
pub demand-passed : (g : Setting) (st : Stated) (row : Row) → check_demand g st row ≡ None → (1 ≤ floor_at row 2) × (sum (add_demand g st row).demands ≤ 1000)
unfolding check_demand
demand-passed g st row e =
    let both = both-pass (demand_words g st row) _ e in
    (leb-true 1 (floor_at row 2) (demand-words-passed g st row both.0), leb-true (sum (add_demand g st row).demands) 1000 (passed _ _ both.1))

set-words-passed : (g : Setting) (st : Stated) (row : Row) → g.solve ≡ true → set_words g st row ≡ None → ((side_of (field row 2) == 2) ≡ true) × ((floor_at row 3 == 0) ≡ true)
unfolding set_words
set-words-passed g st row s e =
    let pass = each-passed (need (is_name (field row 1)) kind.BadName ∷ need (not (is_some (name_index st.names (field row 1)))) kind.RepeatedName ∷ need (not (side_of (field row 2) == 0)) kind.BadNumber ∷ need (not g.solve || side_of (field row 2) == 2) kind.SideInSolve ∷ check_quotas row 3 ∷ need (not g.solve || floor_at row 3 == 0) kind.FloorInSolve ∷ need (nat_le (floor_at row 3) (ceiling_at row 4)) kind.FloorAboveCeiling ∷ []) e in
    (for-solve g.solve (side_of (field row 2) == 2) s (passed _ _ (pass 3)), for-solve g.solve (floor_at row 3 == 0) s (passed _ _ (pass 5)))

-- a set is of side 2 and has floor 0
pub set-passed : (g : Setting) (st : Stated) (row : Row) → g.solve ≡ true → check_set g st row ≡ None
    → (side_of (field row 2) ≡ 2) × (floor_at row 3 ≡ 0) × (check_limits (add_set g st row).sets ≡ None)
unfolding check_set
set-passed g st row s e =
    let both = both-pass (set_words g st row) (check_limits (add_set g st row).sets) e in
    let words = set-words-passed g st row s both.0 in
    (eqb-true (side_of (field row 2)) 2 words.0, eqb-true (floor_at row 3) 0 words.1, both.1)

pub in-passed : (g : Setting) (st : Stated) (row : Row) → check_in g st row ≡ None → check_limits (add_cells g st row).sets ≡ None
unfolding check_in
in-passed g st row e = (both-pass _ _ e).1
