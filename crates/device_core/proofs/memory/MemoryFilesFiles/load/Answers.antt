use Rattle.std.proofs.Common.{arith, inl, inr, refl}
use Rattle.std.proofs.lemmas.Grind.{common_steps}
use Rattle.device_core.proofs.memory.MemoryFilesFiles.load.Goals as goal
use Rattle.device_core.proofs.memory.MemoryFilesFiles.load.Goals.{then-not-contains+in_default, else-not-contains}

pub returns-clause-failed : goal.returns-clause-failed
returns-clause-failed c = (
  λ _. elim c.if-not-contains.branch [
    | then-not-contains+in_default w ↦ inr (grind (arith, common_steps, w.find_file.ensures, w.in_default.is, c.self.view_is))
    | else-not-contains w ↦ inl (grind (arith, common_steps, c.contains.ensures.cases, w.if-not-contains.false, c.self.view_is))
  ],
  λ _. refl,
)
