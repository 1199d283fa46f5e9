-- Which causes content alone decides, and the causes of the faults of the layers below.
use Rattle.std.specs.Prelude.{ℕ}
use Rattle.alloc_input.specs.declared.faults.InputFault.{InputFault}
use Rattle.alloc_input.specs.declared.faults.InputRefusal.{InputRefusal}
use Rattle.alloc_input.specs.declared.faults.InputRefusal.TheVariants as input
use Rattle.alloc_outcomes.specs.declared.cause.Cause.{Cause}
use Rattle.alloc_outcomes.specs.declared.cause.Cause.TheVariants as causes
use Rattle.bihierarchy.specs.declared.trees.TreesFault.{TreesFault}
use Rattle.bihierarchy.specs.declared.trees.TreesFault.TheVariants as trees
use Rattle.definitions.specs.declared.Infeasible.{Infeasible}
use Rattle.device_core.specs.declared.faults.SinkFault.{SinkFault}
use Rattle.device_core.specs.declared.faults.SinkFault.TheVariants as sink
use Rattle.eating.specs.declared.answer.EatFault.{EatFault}
use Rattle.eating.specs.declared.answer.EatFault.TheVariants as eating
use Rattle.lottery_file.specs.declared.faults.LotteryFault.{LotteryFault}
use Rattle.lottery_file.specs.declared.faults.LotteryRefusal.{LotteryRefusal}
use Rattle.lottery_file.specs.declared.faults.LotteryRefusal.TheVariants as lottery
use Rattle.scaled_matrix.specs.declared.scaling.ScaleFault.{ScaleFault}
use Rattle.scaled_matrix.specs.declared.scaling.ScaleFault.TheVariants as scaling
use Rattle.seed_pact.specs.declared.faults.PactFault.{PactFault}
use Rattle.seed_pact.specs.declared.faults.PactRefusal.{PactRefusal}
use Rattle.seed_pact.specs.declared.faults.PactRefusal.TheVariants as pact

-- a cause that content alone decides
abbrev pub IsRefusal : Cause → Type 0
IsRefusal causes.Done = ⊥
IsRefusal causes.Usage = ⊥
IsRefusal (causes.ReadFault _) = ⊥
IsRefusal causes.WriteFault = ⊥
IsRefusal causes.NoMemory = ⊥
IsRefusal _ = Unit {0}

-- ---- the faults that the layers tell

-- of a text of preferences, quotas or a matrix
abbrev pub input_cause : InputFault → Cause
input_cause fault = causes.Input fault

-- of a text of a lottery
abbrev pub lottery_cause : LotteryFault → Cause
lottery_cause fault = causes.Lottery fault

-- of a text of a pact
abbrev pub pact_cause : PactFault → Cause
pact_cause fault = causes.Pact fault

-- of the first set whose quotas a matrix breaks
abbrev pub infeasible_cause : Infeasible → Cause
infeasible_cause first = causes.Infeasible first.set first.sum

-- of sets that cross in an odd ring
abbrev pub no_sides_cause : Unit {0} → Cause
no_sides_cause _ = causes.NoSides

-- of a denominator
abbrev pub too_fine_cause : ℕ → Cause
too_fine_cause denominator = causes.TooFine denominator

-- ---- the same with want of memory, as their calls answer it

abbrev pub sink_cause : SinkFault → Cause
sink_cause sink.Failed = causes.WriteFault
sink_cause sink.NoMemory = causes.NoMemory

abbrev pub input_refusal_cause : InputRefusal → Cause
input_refusal_cause (input.Fault fault) = input_cause fault
input_refusal_cause input.NoMemory = causes.NoMemory

abbrev pub lottery_refusal_cause : LotteryRefusal → Cause
lottery_refusal_cause (lottery.Fault fault) = lottery_cause fault
lottery_refusal_cause lottery.NoMemory = causes.NoMemory

abbrev pub pact_refusal_cause : PactRefusal → Cause
pact_refusal_cause (pact.Fault fault) = pact_cause fault
pact_refusal_cause pact.NoMemory = causes.NoMemory

abbrev pub trees_cause : TreesFault → Cause
trees_cause (trees.Crossing first second) = causes.Crossing first second
trees_cause trees.NoMemory = causes.NoMemory

abbrev pub scale_cause : ScaleFault → Cause
scale_cause (scaling.TooFine denominator agent column) = too_fine_cause denominator
scale_cause (scaling.OverTotal agent column) = causes.OverTotal agent column
scale_cause scaling.NoMemory = causes.NoMemory

abbrev pub eat_fault_cause : EatFault → Cause
eat_fault_cause (eating.TooFine denominator) = too_fine_cause denominator
eat_fault_cause eating.NoMemory = causes.NoMemory
