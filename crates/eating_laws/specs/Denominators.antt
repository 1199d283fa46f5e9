-- What the laws say of the denominators of tables in lowest terms. The laws are the project's.
use Rattle.std.specs.Prelude.{◌≡◌, ℕ, ◌<◌, ◌≤◌, ◌^◌, true, List, length, nat_eq}
use Rattle.std.specs.Set.{is_member}
use Rattle.definitions.specs.Values.{Market}
use Rattle.definitions.specs.Eating.{moment_at, demand_sum, IsEatingTable, IsLowestTerms, IsPartialTable, IsFirstTooFine}
use Rattle.definitions.specs.Certificate.{distinct_moments}

-- where an eating table has a denominator up to 2^116, no table up to a moment is a first one that is too
-- fine
abbrev pub NoFirstTooFine : Type 0
NoFirstTooFine = (market : Market) (D D' m : ℕ) (e e' : List ℕ)
    → IsEatingTable market D e → D ≤ 2 ^ 116 → IsFirstTooFine market D' m e' → ⊥

-- two first tables that are too fine are one
abbrev pub OneFirstTooFine : Type 0
OneFirstTooFine = (market : Market) (D D' m m' : ℕ) (e e' : List ℕ)
    → IsFirstTooFine market D m e → IsFirstTooFine market D' m' e' → (D ≡ D') × (m ≡ m') × (e ≡ e')

-- the numbers of the table that are at most m are in the list
abbrev pub HasMomentsUpTo : List ℕ → ℕ → List ℕ → Type 0
HasMomentsUpTo e m moments = (j : ℕ) → j < length e → moment_at e j ≤ m
    → is_member nat_eq moments (moment_at e j) ≡ true

-- the denominator of an eating table is at most n ^ R, with n the sum of demands and R the number of its distinct
-- moments before the end; that of a table up to a moment is at most n ^ R for each list of R numbers with its moments
pub record IsBounded (market : Market) (D : ℕ) (e : List ℕ) : Type 0 where
  pub whole : IsEatingTable market D e → D ≤ demand_sum market ^ length (distinct_moments e D)
  pub partial : (m : ℕ) (moments : List ℕ) → IsPartialTable market D m e → HasMomentsUpTo e m moments
      → D ≤ demand_sum market ^ length moments

-- denominators in lowest terms are bounded
abbrev pub BoundOnDenominators : Type 0
BoundOnDenominators = (market : Market) (D : ℕ) (e : List ℕ)
    → 1 ≤ demand_sum market → IsLowestTerms D e → IsBounded market D e
