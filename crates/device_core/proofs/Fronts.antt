-- Fronts of texts, and texts that are appended one after another.
use Rattle.std.proofs.Common.{◌≡◌, ℕ, List, [], ◌++◌, take, drop, refl, append_assoc, append-nil, ap, sym, ◌∙◌, Some, None, Ok, Err, Result, Option}
use Rattle.std.specs.Prelude.{IsErr}
use Rattle.std.specs.Io.KnownBytes.{append_known}
use Rattle.std.proofs.lemmas.List.{take-append-drop}
use Rattle.device_core.specs.declared.faults.SinkFault.{SinkFault}
use Rattle.device_core.specs.Told.{IsFrontOf, Appended, AppendedFront}

-- the first bytes of a text
pub front-take : (n : ℕ) (text : List ℕ) → IsFrontOf (take n text) text
front-take n text = (drop n text, take-append-drop n text)

-- two texts in a row
pub append_known-twice : (w : Option (List ℕ)) (a b : List ℕ) → append_known (append_known w a) b ≡ append_known w (a ++ b)
append_known-twice None a b = refl
append_known-twice (Some xs) a b = ap Some (append_assoc xs a b)

-- nothing at all
pub append_known-nil : (w : Option (List ℕ)) → append_known w [] ≡ w
append_known-nil None = refl
append_known-nil (Some xs) = ap Some (append-nil xs)

-- a front of what comes after is a front of the whole
pub front-after : (a b t : List ℕ) (w v u : Option (List ℕ)) → v ≡ append_known w a → AppendedFront v u b → a ++ b ≡ t → AppendedFront w u t
front-after a b t w v u first (front, rest, second) whole =
    (a ++ front, (rest.0, append_assoc a front rest.0 ∙ ap (λ s. a ++ s) rest.1 ∙ whole), second ∙ ap (λ o. append_known o front) first ∙ append_known-twice w a front)

-- a front of what comes first is a front of the whole
pub front-before : (a b t : List ℕ) (w u : Option (List ℕ)) → AppendedFront w u a → a ++ b ≡ t → AppendedFront w u t
front-before a b t w u (front, rest, e) whole = (front, (rest.0 ++ b, sym (append_assoc front rest.0 b) ∙ ap (λ s. s ++ b) rest.1 ∙ whole), e)

-- a text, and then what comes after it
pub appended-after : {T : Type 0} (a b t : List ℕ) (w v u : Option (List ℕ)) (r : Result T SinkFault) → v ≡ append_known w a → Appended v u b r → a ++ b ≡ t → Appended w u t r
appended-after a b t w v u (Ok _) first second whole = second ∙ ap (λ o. append_known o b) first ∙ append_known-twice w a b ∙ ap (append_known w) whole
appended-after a b t w v u (Err _) first second whole = front-after a b t w v u first second whole

-- a text whose first part was refused, at the exit of a `?`
pub refused-before : {T : Type 0} (a b t : List ℕ) (w u : Option (List ℕ)) (r : Result T SinkFault) → IsErr r → AppendedFront w u a → a ++ b ≡ t → Appended w u t r
refused-before a b t w u (Ok _) is_err did whole = cc
refused-before a b t w u (Err _) is_err did whole = front-before a b t w u did whole

-- a refusal before anything was written
pub nothing_written : (w : Option (List ℕ)) (t : List ℕ) → AppendedFront w w t
nothing_written w t = ([], (t, refl), sym (append_known-nil w))
