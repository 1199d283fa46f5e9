-- Families and problems: sets by their numbers, and the two sides of a bihierarchy.
use Rattle.std.proofs.Common.{◌≡◌, ℕ, ◌+◌, ◌-◌, ◌⊎◌, ◌∙◌, Bool, true, ◌||◌, ◌&&◌, [], length, get_or, sym, ap, inl, inr, arith, All, length-drop, length-take}
use Rattle.std.specs.Prelude.{nat_lt, ◌==◌}
use Rattle.std.specs.List.{enumerate_from}
use Rattle.std.proofs.lemmas.Bool.{or_cases, or_left, or_right, and_parts, and_from, ltb-true, lt-ltb, eqb-true, eq-eqb}
use Rattle.definitions.specs.Sets.{SetValue, FamilyValue, IsQuotaSet, cells_of, sides_of, IsNumberOf, IsSet, set_cells, set_side, set_size, NoCrossing, IsHierarchy, IsBihierarchy, row_cells}
use Rattle.definitions.specs.Hierarchies.{IsLower}
use Rattle.definitions.specs.Values.{ProblemValue, IsProblem, row_sets, column_count, stated_sets}
use Rattle.std.proofs.lemmas.Option.{unwrap_or-slice_get}
use Rattle.std.proofs.lemmas.List.{get_or-map, length-map}
use Rattle.std.proofs.lemmas.List.FromFn.{length-enumerate_from}

-- the numbers of the sets are the numbers of their cell lists
pub number_of_set : (f : FamilyValue) (s : ℕ) → IsSet f s → IsNumberOf (cells_of f) s
number_of_set f s h = (h.0, omega (arith, h.1, length-map f.sets (λ (q : SetValue). q.cells)))

pub set_of_number : (f : FamilyValue) (s : ℕ) → IsNumberOf (cells_of f) s → IsSet f s
set_of_number f s h = (h.0, omega (arith, h.1, length-map f.sets (λ (q : SetValue). q.cells)))

-- what stands for a set where there is none
abbrev pub no_set : SetValue
no_set = record { side = 1; floor = 0; ceiling = 0; cells = [] }

-- the cells of a set are those of the set at its index
pub cells_of_set : (f : FamilyValue) (s : ℕ) → IsSet f s → (d : SetValue) → set_cells f s ≡ (get_or f.sets (s - 1) d).cells
cells_of_set f s known d = unwrap_or-slice_get (cells_of f) (s - 1) [] ∙ get_or-map (λ (q : SetValue). q.cells) f.sets (s - 1) d [] (omega (arith, known.0, known.1))

-- and so is its side
pub side_of_set : (f : FamilyValue) (s : ℕ) → IsSet f s → (d : SetValue) → set_side f s ≡ (get_or f.sets (s - 1) d).side
side_of_set f s known d = get_or-map (λ (q : SetValue). q.side) f.sets (s - 1) d 0 (omega (arith, known.0, known.1))

-- s comes before t by size and then number, as a test
abbrev pub is_lower : FamilyValue → ℕ → ℕ → Bool
is_lower f s t = nat_lt (set_size f s) (set_size f t) || ((set_size f s == set_size f t) && nat_lt s t)

-- the test is true exactly where s comes before t
pub lower_true : (f : FamilyValue) (s t : ℕ) → is_lower f s t ≡ true → IsLower f s t
lower_true f s t e = elim (or_cases (nat_lt (set_size f s) (set_size f t)) ((set_size f s == set_size f t) && nat_lt s t) e) [
  | inl less ↦ inl (ltb-true (set_size f s) (set_size f t) less)
  | inr equal ↦ (let parts = and_parts (set_size f s == set_size f t) (nat_lt s t) equal in inr (eqb-true (set_size f s) (set_size f t) parts.0, ltb-true s t parts.1))
]

pub lower_from : (f : FamilyValue) (s t : ℕ) → IsLower f s t → is_lower f s t ≡ true
lower_from f s t (inl less) = or_left (nat_lt (set_size f s) (set_size f t)) ((set_size f s == set_size f t) && nat_lt s t) (lt-ltb (set_size f s) (set_size f t) less)
lower_from f s t (inr equal) =
    or_right (nat_lt (set_size f s) (set_size f t)) ((set_size f s == set_size f t) && nat_lt s t)
    (and_from (set_size f s == set_size f t) (nat_lt s t) (eq-eqb (set_size f s) (set_size f t) equal.0) (lt-ltb s t equal.1))

-- the order by size and then number is transitive
pub lower_through : (f : FamilyValue) (s t u : ℕ) → IsLower f s t → IsLower f t u → IsLower f s u
lower_through f s t u (inl l) (inl m) = inl (omega (arith, l, m))
lower_through f s t u (inl l) (inr m) = inl (omega (arith, l, m.0))
lower_through f s t u (inr l) (inl m) = inl (omega (arith, l.0, m))
lower_through f s t u (inr l) (inr m) = inr (l.0 ∙ m.0, omega (arith, l.1, m.1))

-- where no two sets with one side cross, each side is a hierarchy
pub hierarchy_of_apart : (f : FamilyValue) (side : ℕ) → NoCrossing (cells_of f) (sides_of f) → IsHierarchy f side
hierarchy_of_apart f side apart s t known knows first second cross = apart s t (number_of_set f s known) (number_of_set f t knows) (first ∙ sym second) cross

-- and the two are a bihierarchy
pub bihierarchy_of_apart : (f : FamilyValue) → NoCrossing (cells_of f) (sides_of f) → IsBihierarchy f
bihierarchy_of_apart f apart = (hierarchy_of_apart f 1 apart, hierarchy_of_apart f 2 apart)

-- the side of a lawful set is 1 or 2
pub known_side : (f : FamilyValue) (s : ℕ) → All IsQuotaSet f.sets → IsSet f s → (set_side f s ≡ 1) ⊎ (set_side f s ≡ 2)
known_side f s lawful known =
    let at : set_side f s ≡ (get_or f.sets (s - 1) no_set).side = side_of_set f s known no_set in
    elim ((lawful (s - 1) no_set (omega (arith, known.0, known.1))).side) [
      | inl one ↦ inl (at ∙ one)
      | inr two ↦ inr (at ∙ two)
    ]

-- in a bihierarchy of lawful sets no two sets with one side cross
pub apart_of_bihierarchy : (f : FamilyValue) → All IsQuotaSet f.sets → IsBihierarchy f → NoCrossing (cells_of f) (sides_of f)
apart_of_bihierarchy f lawful both s t known knows same cross = elim (known_side f s lawful (set_of_number f s known)) [
  | inl first ↦ both.0 s t (set_of_number f s known) (set_of_number f t knows) first (sym same ∙ first) cross
  | inr second ↦ both.1 s t (set_of_number f s known) (set_of_number f t knows) second (sym same ∙ second) cross
]

-- so each side of it is a hierarchy
pub side_of_bihierarchy : (f : FamilyValue) (side : ℕ) → All IsQuotaSet f.sets → IsBihierarchy f → IsHierarchy f side
side_of_bihierarchy f side lawful both = hierarchy_of_apart f side (apart_of_bihierarchy f lawful both)

-- an agent's row as a set
abbrev row_set : ℕ → ℕ × ℕ → SetValue
row_set columns w = record { side = 1; floor = w.1; ceiling = w.1; cells = row_cells columns w.0 }

-- the stated sets of a problem, and then one row for each agent
pub sets_of_problem : (p : ProblemValue) → IsProblem p → length p.family.sets ≡ p.stated + length p.agents
sets_of_problem p h =
    let rows : length p.family.sets - p.stated ≡ length (row_sets (column_count p) p.demands) = sym (length-drop p.stated p.family.sets) ∙ ap length h.rows in
    let many : length (row_sets (column_count p) p.demands) ≡ length p.demands = length-map (enumerate_from 0 p.demands) (row_set (column_count p)) ∙ length-enumerate_from 0 p.demands in
    omega (arith, rows, many, h.demands_many, h.agents_some)

-- the stated sets are the first of the family
pub stated_count : (p : ProblemValue) → IsProblem p → length (stated_sets p) ≡ p.stated
stated_count p h = omega (arith, length-take p.stated p.family.sets, sets_of_problem p h)
