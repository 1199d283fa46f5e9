-- Tests, fields and records that pass, one after the other.
use Rattle.std.proofs.Common.{◌≡◌, ◌∙◌, ◌+◌, ◌<◌, ◌≤◌, ◌++◌, ◌∷◌, [], ℕ, List, Option, Some, None, Bool, true, false, cond, refl, sym, ap, subst, arith, length, get_or, take, drop, append_assoc}
use Rattle.std.specs.Prelude.{option_map}
use Rattle.std.specs.Option.{option_or}
use Rattle.std.proofs.lemmas.List.{append-nil, get_or-drop}
use Rattle.definitions.specs.Firsts.{fault_after, numbered, first_among}
use Rattle.definitions.proofs.FirstFaults.{fault-next, fault-here, fault-end}

-- a test that is passed, and what comes after it
pub passed : {K : Type 0} (t : Bool) (k : K) (after : Option K) → cond t after (Some k) ≡ None → (t ≡ true) × (after ≡ None)
passed true k after e = (refl, e)
passed false k after e = absurd (cc)

-- of two checks in order both pass
pub both-pass : {K : Type 0} (a b : Option K) → option_or a b ≡ None → (a ≡ None) × (b ≡ None)
both-pass None b e = (refl, e)
both-pass (Some k) b e = absurd (cc)

-- what has no fault has none at its first part, nor after it
pub no-fault : {R K : Type 0} (before : List R) (o : Option K) (after : Option (ℕ × K)) → option_or (numbered before o) after ≡ None → (o ≡ None) × (after ≡ None)
no-fault before None after e = (refl, e)
no-fault before (Some k) after e = absurd (cc)

-- what is made of nothing is made where there is nothing
pub map-none : {A B : Type 0} (f : A → B) (o : Option A) → option_map f o ≡ None → o ≡ None
map-none f None e = refl
map-none f (Some x) e = absurd (cc)

module _ {R K : Type 0} (check : List R → R → Option K) (at_end : List R → Option K) where
  -- without a fault, the next record passes and those after it have no fault
  pub fault-first : (before : List R) (r : R) (rs : List R) → fault_after check at_end before (r ∷ rs) ≡ None
      → (check before r ≡ None) × (fault_after check at_end (before ++ r ∷ []) rs ≡ None)
  unfolding fault_after
  fault-first before r rs e = no-fault before (check before r) (fault_after check at_end (before ++ r ∷ []) rs) e

  -- and at the end the end passes
  pub fault-last : (before : List R) → fault_after check at_end before [] ≡ None → at_end before ≡ None
  unfolding fault_after
  fault-last before e = map-none _ (at_end before) e

  -- what each record that passes keeps is true of them all
  pub fault-keeps : (P : List R → Type 0) → ((before : List R) (r : R) → check before r ≡ None → P before → P (before ++ r ∷ []))
      → (before rs : List R) → fault_after check at_end before rs ≡ None → P before → P (before ++ rs)
  fault-keeps P step before [] e h = subst P (sym (append-nil before)) h
  fault-keeps P step before (r ∷ rs) e h =
      let p = fault-first before r rs e in
      subst P (append_assoc before (r ∷ []) rs) (fault-keeps P step (before ++ r ∷ []) rs p.1 (step before r p.0 h))

  -- and the text ends as it may
  pub fault-ends : (before rs : List R) → fault_after check at_end before rs ≡ None → at_end (before ++ rs) ≡ None
  fault-ends before [] e = rw (append-nil before) (fault-last before e)
  fault-ends before (r ∷ rs) e = rw (append_assoc before (r ∷ []) rs) at (fault-ends (before ++ r ∷ []) rs (fault-first before r rs e).1)

-- fields that pass keep what each of them keeps
pub among-keeps : {F K : Type 0} (check : List F → F → Option K) (P : List F → Type 0)
    → ((before : List F) (f : F) → check before f ≡ None → P before → P (before ++ f ∷ []))
    → (fields : List F) → first_among check fields ≡ None → P [] → P fields
among-keeps check P step fields e h =
    fault-keeps check (λ _. None) P step [] fields (map-none _ (fault_after check (λ _. None) [] fields) e) h

-- a field that stands so many after the first n
pub field-after : {F : Type 0} (row : List F) (n j : ℕ) (d : F) → get_or row (j + n) d ≡ get_or (drop n row) j d
field-after row n j d = let e : j + n ≡ n + j = omega arith in ap (λ k. get_or row k d) e ∙ sym (get_or-drop n row j d)

-- the fields are lawful as far as the first j of them
abbrev pub IsLawfulTo : {F K : Type 0} → (List F → F → Option K) → List F → ℕ → Type 0
IsLawfulTo check fs j = fault_after check (λ _. None) [] fs ≡ fault_after check (λ _. None) (take j fs) (drop j fs)

-- the first unlawful field has the first fault among them
pub among-here : {F K : Type 0} (check : List F → F → Option K) (fs : List F) (j : ℕ) (d : F) (k : K) → j < length fs → IsLawfulTo check fs j
    → check (take j fs) (get_or fs j d) ≡ Some k → first_among check fs ≡ Some k
among-here check fs j d k lt inv e = rw (inv ∙ fault-here check (λ _. None) fs j d k lt e) refl

-- one more lawful field
pub among-next : {F K : Type 0} (check : List F → F → Option K) (fs : List F) (j : ℕ) (d : F) → j < length fs → IsLawfulTo check fs j
    → check (take j fs) (get_or fs j d) ≡ None → IsLawfulTo check fs (j + 1)
among-next check fs j d lt inv h = inv ∙ fault-next check (λ _. None) fs j d lt h

-- fields that are all lawful have no fault among them
pub among-all : {F K : Type 0} (check : List F → F → Option K) (fs : List F) (j : ℕ) → length fs ≤ j → IsLawfulTo check fs j → first_among check fs ≡ None
among-all check fs j le inv = rw (inv ∙ fault-end check (λ _. None) fs j le) refl
