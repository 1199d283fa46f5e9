-- What stops and refusals say of checks, along other checks.
use Rattle.std.proofs.Common.{◌≡◌, ◌∙◌, ℕ, Bool, true, false, Option, None, Some, Result, Ok, Err, refl, sym, subst}
use Rattle.std.specs.Result.{IsErrAnd}
use Rattle.std.proofs.lemmas.Result.{err_from_is_err_and}
use Rattle.alloc_input.specs.Checks.{Checks, Finds, StopsAt, IsRefusalFor, Tells, need}
use Rattle.alloc_input.specs.declared.faults.InputKind.{InputKind}
use Rattle.alloc_input.specs.declared.faults.InputRefusal.{InputRefusal}
use Rattle.alloc_input.specs.declared.faults.Stop.{Stop}
use Rattle.alloc_input.specs.declared.faults.Stop.TheVariants as stop

-- a check that passes holds
pub passed : (holds : Bool) (k : InputKind) → need holds k ≡ None → holds ≡ true
passed true k e = refl
passed false k e = absurd (cc)

-- one that fails doesn't, and has its kind
pub failed : (holds : Bool) (k x : InputKind) → need holds k ≡ Some x → (holds ≡ false) × (k ≡ x)
failed true k x e = absurd (cc)
failed false k x e = (refl, cc)

-- what a check that passes tells
pub passed-is : (holds test : Bool) (k : InputKind) → need holds k ≡ None → holds ≡ test → true ≡ test
passed-is holds test k e h = sym (passed holds k e) ∙ h

-- a stop tells of a check that fails wherever another does
pub stops-here : (s : Stop) (a b : Option InputKind) → ((k : InputKind) → a ≡ Some k → b ≡ Some k) → StopsAt s a → StopsAt s b
stops-here (stop.Unlawful k) a b f h = f k h
stops-here stop.NoMemory a b f h = tt

-- and of an equal one
pub stops_along : (s : Stop) (a b : Option InputKind) → a ≡ b → StopsAt s a → StopsAt s b
stops_along s a b e h = subst (StopsAt s) e h

-- a part of a reader answers to an equal check, and leaves what follows from what it left
pub checks_along : {X : Type 0} (r : Result X Stop) (a b : Option InputKind) (P Q : X → Type 0) → a ≡ b → ((x : X) → P x → Q x) → Checks r a P → Checks r b Q
checks_along (Ok x) a b P Q e f h = (sym e ∙ h.0, f x h.1)
checks_along (Err s) a b P Q e f h = subst (StopsAt s) e h

-- the refusal at a record tells of the text's fault
pub refused-here : (s : Stop) (file n : ℕ) (r : InputRefusal) (a : Option InputKind) (f : Option (ℕ × InputKind)) → ((k : InputKind) → a ≡ Some k → f ≡ Some (n, k)) → StopsAt s a → IsRefusalFor s file n r → Tells file r f
refused-here (stop.Unlawful k) file n r a f g h e = rw e (refl, g k h)
refused-here stop.NoMemory file n r a f g h e = rw e tt

-- a kind that is handed on is that of the check that found it
pub handed-on : {X : Type 0} (r : Result X InputKind) (x : InputKind) (a : Option InputKind) (P : X → Type 0) → IsErrAnd r (λ y. y ≡ x) → a ≡ Some x → Finds r a P
handed-on r x a P h e = let p = err_from_is_err_and r h in rw (p.1, p.2) e

-- and where memory may be wanted
pub stopped-on : {X : Type 0} (r : Result X Stop) (x : InputKind) (a : Option InputKind) (P : X → Type 0) → IsErrAnd r (λ y. y ≡ stop.Unlawful x) → a ≡ Some x → Checks r a P
stopped-on r x a P h e = let p = err_from_is_err_and r h in rw (p.1, p.2) e
