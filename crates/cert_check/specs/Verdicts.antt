-- The verdict of a first fault.
use Rattle.std.specs.Prelude.{Option, Some, None}
use Rattle.cert_check.specs.declared.faults.Fault.{Fault}
use Rattle.cert_check.specs.declared.verdicts.Verdict.{Verdict}
use Rattle.cert_check.specs.declared.verdicts.Verdict.TheVariants.{Pass, Fail}

-- the verdict where this is the first fault, or there is none
abbrev pub verdict_of : Option Fault → Verdict
verdict_of None = Pass
verdict_of (Some f) = Fail f
