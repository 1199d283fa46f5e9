-- How the answers of a step stand in the outcome of its command, and that an outcome that refuses has no other answer.
use Rattle.std.proofs.Common.{◌≡◌, ◌∙◌, sym, ap, subst, List, [], ◌∷◌, ℕ, Result, Ok, Err}
use Rattle.alloc_outcomes.specs.declared.cause.Cause.{Cause}
use Rattle.alloc_outcomes.specs.Answers.{Answer, refuse, text, RefusesAlone, IsText, Then, Follows, Gives, on_none, on_one, on_two, on_three}

-- ---- parts of an outcome

-- each answer of one outcome is an answer of another
abbrev pub IsPart : (Answer → Type 0) → (Answer → Type 0) → Type 0
IsPart part outcome = (answer : Answer) → part answer → outcome answer

pub itself : (outcome : Answer → Type 0) → IsPart outcome outcome
itself outcome answer h = h

-- the rest of a command, once a step has answered
pub after : {A F : Type 0} {cause_of : F → Cause} {relation : Result A F → Type 0} {rest : A → Answer → Type 0} {outcome : Answer → Type 0}
    → IsPart (Gives cause_of relation rest) outcome → (x : A) → relation (Ok x) → IsPart (rest x) outcome
after part x holds answer follows = part answer (record { found = Ok x; holds = holds; follows = follows })

-- a refusal by a fault of the step
pub refusal : {A F : Type 0} {cause_of : F → Cause} {relation : Result A F → Type 0} {rest : A → Answer → Type 0} {outcome : Answer → Type 0}
    → IsPart (Gives cause_of relation rest) outcome → (fault : F) → relation (Err fault) → (cause : Cause) → cause ≡ cause_of fault → outcome (refuse cause)
refusal part fault holds cause is = part (refuse cause) (record { found = Err fault; holds = holds; follows = ap refuse is })

-- an equal text
pub text_part : {outcome : Answer → Type 0} (s t : List ℕ) → t ≡ s → IsPart (IsText s) outcome → IsPart (IsText t) outcome
text_part s t same part answer is = part answer (is ∙ ap text same)

-- a step that is known to pass leaves the rest
pub passed : {A F : Type 0} {cause_of : F → Cause} {relation : Result A F → Type 0} {rest : A → Answer → Type 0}
    → ((r s : Result A F) → relation r → relation s → r ≡ s) → (x : A) → relation (Ok x) → (answer : Answer) → Gives cause_of relation rest answer → rest x answer
passed {cause_of = cause_of} {rest = rest} one x holds answer g = subst (λ r. Follows cause_of rest r answer) (one g.found (Ok x) g.holds holds) g.follows

-- ---- an outcome that refuses has no other answer

pub text_alone : (t : List ℕ) → RefusesAlone (IsText t)
text_alone t due answer h k = k ∙ sym h

pub then_alone : {A : Type 0} (r : Result A Cause) (rest : A → Answer → Type 0) → ((x : A) → RefusesAlone (rest x)) → RefusesAlone (Then r rest)
then_alone (Ok x) rest alone due answer h k = alone x due answer h k
then_alone (Err cause) rest alone due answer h k = k ∙ sym h

follows_alone : {A F : Type 0} (cause_of : F → Cause) (relation : Result A F → Type 0) (rest : A → Answer → Type 0)
    → ((x : A) → relation (Ok x) → RefusesAlone (rest x)) → (r : Result A F) → relation r → RefusesAlone (Follows cause_of rest r)
follows_alone cause_of relation rest alone (Ok x) holds due answer h k = alone x holds due answer h k
follows_alone cause_of relation rest alone (Err fault) holds due answer h k = k ∙ sym h

-- a step by a relation that has one answer, where the rest is asked only at what the step may answer
pub gives_alone : {A F : Type 0} {cause_of : F → Cause} {relation : Result A F → Type 0} {rest : A → Answer → Type 0}
    → ((r s : Result A F) → relation r → relation s → r ≡ s) → ((x : A) → relation (Ok x) → RefusesAlone (rest x)) → RefusesAlone (Gives cause_of relation rest)
gives_alone {A = A} {F = F} {cause_of = cause_of} {relation = relation} {rest = rest} one alone due answer h k =
    let P : Result A F → Type 0 = λ r. Follows cause_of rest r answer in
    follows_alone cause_of relation rest alone h.found h.holds due answer h.follows (subst P (one k.found h.found k.holds h.holds) k.follows)

pub on_none_alone : {outcome : Answer → Type 0} → RefusesAlone outcome → (given : List (List ℕ)) → RefusesAlone (on_none outcome given)
on_none_alone alone [] due answer h k = alone due answer h k
on_none_alone alone (first ∷ more) due answer h k = absurd h

pub on_one_alone : {outcome : List ℕ → Answer → Type 0} → ((first : List ℕ) → RefusesAlone (outcome first)) → (given : List (List ℕ)) → RefusesAlone (on_one outcome given)
on_one_alone alone [] due answer h k = absurd h
on_one_alone alone (first ∷ []) due answer h k = alone first due answer h k
on_one_alone alone (first ∷ second ∷ more) due answer h k = absurd h

pub on_two_alone : {outcome : List ℕ → List ℕ → Answer → Type 0} → ((first second : List ℕ) → RefusesAlone (outcome first second)) → (given : List (List ℕ)) → RefusesAlone (on_two outcome given)
on_two_alone alone [] due answer h k = absurd h
on_two_alone alone (first ∷ []) due answer h k = absurd h
on_two_alone alone (first ∷ second ∷ []) due answer h k = alone first second due answer h k
on_two_alone alone (first ∷ second ∷ third ∷ more) due answer h k = absurd h

pub on_three_alone : {outcome : List ℕ → List ℕ → List ℕ → Answer → Type 0} → ((first second third : List ℕ) → RefusesAlone (outcome first second third)) → (given : List (List ℕ)) → RefusesAlone (on_three outcome given)
on_three_alone alone [] due answer h k = absurd h
on_three_alone alone (first ∷ []) due answer h k = absurd h
on_three_alone alone (first ∷ second ∷ []) due answer h k = absurd h
on_three_alone alone (first ∷ second ∷ third ∷ []) due answer h k = alone first second third due answer h k
on_three_alone alone (first ∷ second ∷ third ∷ fourth ∷ more) due answer h k = absurd h
