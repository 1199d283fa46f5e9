-- What the parts of the reader of quotas hold and answer.
use Rattle.std.specs.Prelude.{◌≡◌, ◌≤◌, ℕ, List, Option, None, Result, map, Vec, MatchResult, length}
use Rattle.std.specs.List.{All}
use Rattle.std.specs.declared.alloc.Global.{Global}
use Rattle.definitions.specs.Sets.{SetValue, cells_in}
use Rattle.definitions.specs.Texts.{Row}
use Rattle.alloc_input.specs.Checks.{Checks, Tells}
use Rattle.alloc_input.specs.Stated.{Setting, Stated, stated_by}
use Rattle.alloc_input.specs.Quotas.{quotas_fault}
use Rattle.alloc_input.specs.Marked.{marked_cells, IsMarked}
use Rattle.alloc_input.specs.declared.faults.InputKind.{InputKind}
use Rattle.alloc_input.specs.declared.faults.InputRefusal.{InputRefusal}
use Rattle.alloc_input.specs.declared.faults.Stop.{Stop}
use Rattle.alloc_input.specs.declared.quotas.open_sets.OpenSet.{OpenSet}
use Rattle.alloc_input.specs.declared.quotas.state.State.{State}

-- an open set, as the definitions of quotas see it
abbrev pub set_value : OpenSet → SetValue
set_value s = record { side = s.side; floor = s.floor; ceiling = s.ceiling; cells = marked_cells s.marks }

-- open sets, so seen
abbrev pub values : List OpenSet → List SetValue
values sets = map set_value sets

-- lists of numbers, as contracts see them
abbrev pub lists : List (Vec ℕ Global) → List (List ℕ)
lists vs = map (λ v. v.items) vs

-- what the records that a state stands for have stated
abbrev pub held : State → Stated
held s = record {
  columns = s.columns;
  rows = s.rows;
  groups = s.groups;
  members = lists s.members.items;
  bundles = s.bundles;
  contents = lists s.contents.items;
  names = s.names;
  places = s.places.items;
  sets = values s.sets.items;
  demands = s.demands.items;
}

-- a side, a floor and a ceiling that a set may have
pub record AreQuotas (side floor ceiling : ℕ) : Type 0 where
  pub first : 1 ≤ side
  pub last : side ≤ 2
  pub ordered : floor ≤ ceiling
  pub limited : ceiling ≤ 1000

-- a set of the size of the matrix, which counts its cells
pub record IsOpen (m n : ℕ) (o : OpenSet) : Type 0 where
  pub agents : o.marks.agents ≡ m
  pub columns : o.marks.columns ≡ n
  pub marked : IsMarked o.marks
  pub quotas : AreQuotas o.side o.floor o.ceiling

-- the sets are open, and the total counts all their cells
pub record IsCounted (m n : ℕ) (sets : List OpenSet) (total : ℕ) : Type 0 where
  pub opened : All (IsOpen m n) sets
  pub counted : total ≡ cells_in (values sets)
  pub few : total ≤ 1000000
  pub many : length sets ≤ 1000

-- the sets of a state over this matrix are open and counted
abbrev pub IsSound : ℕ → ℕ → State → Type 0
IsSound m n s = IsCounted m n s.sets.items s.total

-- a record is taken: it passes this check, and what it says is added
abbrev pub Takes : (Setting → Stated → Row → Option InputKind) → (Setting → Stated → Row → Stated) → Setting → State → Row → Result (Unit {0}) Stop → State → Type 0
Takes check add g old row result new = Checks result (check g (held old) row) (λ _. held new ≡ add g (held old) row)

-- what the records state, where they are lawful, or exactly their fault
abbrev pub ReadsRecords : Setting → List Row → Result State InputRefusal → Type 0
ReadsRecords g rows r = MatchResult r (λ s. (quotas_fault g rows ≡ None) × (held s ≡ stated_by g rows)) (λ e. Tells 2 e (quotas_fault g rows))
