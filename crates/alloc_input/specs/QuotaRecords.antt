-- What records of quotas say, as their readers hold it.
use Rattle.std.specs.Prelude.{◌≡◌, ℕ, List, Some}
use Rattle.definitions.specs.Texts.{Row, field, name_index}
use Rattle.alloc_input.specs.Stated.{Setting, Stated, floor_at, ceiling_at, side_of, agents_named, columns_named, place_named}
use Rattle.alloc_input.specs.declared.quotas.agents.DemandRecord.{DemandRecord}
use Rattle.alloc_input.specs.declared.quotas.agents.RowRecord.{RowRecord}
use Rattle.alloc_input.specs.declared.quotas.objects.ObjectRecord.{ObjectRecord}
use Rattle.alloc_input.specs.declared.quotas.sets.InRecord.{InRecord}
use Rattle.alloc_input.specs.declared.quotas.sets.SetRecord.{SetRecord}

-- an `object` record: a name, its column, and the quotas of that column
pub record IsObjectRecord (objects : List (List ℕ)) (row : Row) (r : ObjectRecord) : Type 0 where
  pub named : r.name.now ≡ field row 1
  pub known : name_index objects (field row 1) ≡ Some r.column
  pub floor : r.quotas.floor ≡ floor_at row 2
  pub ceiling : r.quotas.ceiling ≡ ceiling_at row 3

-- an `agent` record for `decompose`: a name, its row, and the quotas of that row
pub record IsRowRecord (agents : List (List ℕ)) (row : Row) (r : RowRecord) : Type 0 where
  pub named : r.name.now ≡ field row 1
  pub known : name_index agents (field row 1) ≡ Some r.agent
  pub floor : r.quotas.floor ≡ floor_at row 2
  pub ceiling : r.quotas.ceiling ≡ ceiling_at row 3

-- an `agent` record for `solve`: a name, its agent, and the demand, which is the floor
pub record IsDemandRecord (agents : List (List ℕ)) (row : Row) (r : DemandRecord) : Type 0 where
  pub named : r.name.now ≡ field row 1
  pub known : name_index agents (field row 1) ≡ Some r.agent
  pub demand : r.demand ≡ floor_at row 2

-- a `set` record: a name, a side, and the quotas of the set
pub record IsSetRecord (row : Row) (r : SetRecord) : Type 0 where
  pub named : r.name.now ≡ field row 1
  pub side : r.side ≡ side_of (field row 2)
  pub floor : r.quotas.floor ≡ floor_at row 3
  pub ceiling : r.quotas.ceiling ≡ ceiling_at row 4

-- an `in` record: where its set stands, agents and columns
pub record IsInRecord (g : Setting) (st : Stated) (row : Row) (r : InRecord) : Type 0 where
  pub place : place_named st row ≡ Some r.place
  pub agents : agents_named g st row ≡ Some r.agents.items
  pub columns : columns_named g st row ≡ Some r.columns.items
