-- What a part of a step answers that writes nothing: a layer's answer, with its fault as a cause.
use Rattle.std.specs.Prelude.{◌≡◌, ◌⊎◌, Result, Ok, Err}
use Rattle.alloc_outcomes.specs.declared.cause.Cause.{Cause}
use Rattle.alloc_outcomes.specs.declared.cause.Cause.TheVariants as causes
use Rattle.alloc_outcomes.specs.Causes.{IsRefusal}

-- a refusal is the cause of some fault that the relation allows
pub record Faulted {A F : Type 0} (cause_of : F → Cause) (relation : Result A F → Type 0)
    (cause : Cause) : Type 0 where
  pub kind : IsRefusal cause
  pub fault : F
  pub holds : relation (Err fault)
  pub is : cause ≡ cause_of fault

-- the answer, seen as the relation speaks of it; and want of memory at any answer
abbrev pub Checked : {T A F : Type 0}
    → (T → A) → (F → Cause) → (Result A F → Type 0) → Result T Cause → Type 0
Checked view cause_of relation (Ok x) = relation (Ok (view x))
Checked view cause_of relation (Err cause) =
    (cause ≡ causes.NoMemory) ⊎ Faulted cause_of relation cause
