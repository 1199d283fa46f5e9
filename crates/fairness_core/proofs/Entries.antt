-- The entries of the list of all envy.
use Rattle.std.proofs.Common.{◌≡◌, ℕ, zero, suc, ◌+◌, ◌<◌, ◌∙◌, List, [], ◌∷◌, ◌++◌, Option, Some, None, length, refl, sym, ap, subst, arith, All, append_assoc}
use Rattle.std.specs.Prelude.{flat_map}
use Rattle.std.specs.List.{AllByRecursion, filter_map, range_with_len}
use Rattle.std.proofs.lemmas.List.{append-nil}
use Rattle.std.proofs.lemmas.List.Elements.{All-from_recursion, filter_map-append}
use Rattle.std.proofs.lemmas.Grind.{flat_map-append}
use Rattle.definitions.specs.declared.Cell.{Cell}
use Rattle.definitions.specs.Sets.{ScaledValue, units_of}
use Rattle.definitions.specs.Values.{ProblemValue, IsProblem}
use Rattle.definitions.proofs.Lists.{each_below}
use Rattle.eating_laws.proofs.Envy.{no_envy}
use Rattle.fairness_core.specs.declared.point.EnvyPoint.{EnvyPoint}
use Rattle.fairness_core.specs.declared.list.Envy.{Envy}
use Rattle.fairness_core.specs.Envy.{first_envy, envy_between, envies_of, all_envies, IsEnvy, IsTableAssignment, NoneAlike}
use Rattle.fairness_core.proofs.Points.{first_is, envies_at}

-- one number more
range_more : (s n k : ℕ) → s + n ≡ k → range_with_len s (n + 1) ≡ range_with_len s n ++ k ∷ []
range_more s zero k e = ap (λ m. m ∷ []) (let same : s ≡ k = omega (arith, e) in same)
range_more s (suc n) k e =
    let long : suc n + 1 ≡ suc (n + 1) = omega arith in
    ap (range_with_len s) long ∙ ap (λ ns. s ∷ ns) (range_more (s + 1) n k (omega (arith, e)))

-- one agent more who may be envied: no entry
pub envies_none : (p : ProblemValue) (x : Cell → ℕ) (i k : ℕ) (before found : List Envy) → first_envy p x i k ≡ None
    → found ≡ before ++ filter_map (envy_between p x i) (range_with_len 0 k) → found ≡ before ++ filter_map (envy_between p x i) (range_with_len 0 (k + 1))
envies_none p x i k before found none e =
    e ∙ ap (λ ys. before ++ ys) (sym (ap (filter_map (envy_between p x i)) (range_more 0 k k (omega arith)) ∙ filter_map-append (envy_between p x i) (range_with_len 0 k) (k ∷ []) ∙ last))
  where
    last : filter_map (envy_between p x i) (range_with_len 0 k) ++ filter_map (envy_between p x i) (k ∷ []) ≡ filter_map (envy_between p x i) (range_with_len 0 k)
    last = rw none (append-nil (filter_map (envy_between p x i) (range_with_len 0 k)))

-- and one entry
pub envies_some : (p : ProblemValue) (x : Cell → ℕ) (i k : ℕ) (point : EnvyPoint) (before found : List Envy) → first_envy p x i k ≡ Some point
    → found ≡ before ++ filter_map (envy_between p x i) (range_with_len 0 k)
    → found ++ (record { from = i; to = k; point = point }) ∷ [] ≡ before ++ filter_map (envy_between p x i) (range_with_len 0 (k + 1))
envies_some p x i k point before found some e =
    ap (λ ys. ys ++ (record { from = i; to = k; point = point }) ∷ []) e
    ∙ append_assoc before (filter_map (envy_between p x i) (range_with_len 0 k)) ((record { from = i; to = k; point = point }) ∷ [])
    ∙ ap (λ ys. before ++ ys) (sym (ap (filter_map (envy_between p x i)) (range_more 0 k k (omega arith)) ∙ filter_map-append (envy_between p x i) (range_with_len 0 k) (k ∷ []) ∙ last))
  where
    last : filter_map (envy_between p x i) (range_with_len 0 k) ++ filter_map (envy_between p x i) (k ∷ []) ≡ filter_map (envy_between p x i) (range_with_len 0 k) ++ (record { from = i; to = k; point = point }) ∷ []
    last = rw some refl

-- one agent more who may envy
pub rows_more : (p : ProblemValue) (x : Cell → ℕ) (k : ℕ) (found : List Envy) → found ≡ flat_map (envies_of p x) (range_with_len 0 k)
    → found ++ envies_of p x k ≡ flat_map (envies_of p x) (range_with_len 0 (k + 1))
rows_more p x k found e =
    ap (λ ys. ys ++ envies_of p x k) e
    ∙ sym (ap (flat_map (envies_of p x)) (range_more 0 k k (omega arith)) ∙ flat_map-append (envies_of p x) (range_with_len 0 k) (k ∷ [])
    ∙ ap (λ ys. flat_map (envies_of p x) (range_with_len 0 k) ++ ys) (append-nil (envies_of p x k)))

-- up to the last agent
pub rows_all : (p : ProblemValue) (x : Cell → ℕ) (k : ℕ) (found : List Envy) → found ≡ flat_map (envies_of p x) (range_with_len 0 k) → k ≡ length p.agents → found ≡ all_envies p x
rows_all p x k found e same = e ∙ ap (λ n. flat_map (envies_of p x) (range_with_len 0 n)) same

-- ---- what holds of each entry

each_append : {X : Type 0} (P : X → Type 0) (xs ys : List X) → AllByRecursion P xs → AllByRecursion P ys → AllByRecursion P (xs ++ ys)
each_append P [] ys a b = b
each_append P (x ∷ xs) ys a b = (a.0, each_append P xs ys a.1 b)

module _ (p : ProblemValue) (x : Cell → ℕ) where
  row_each : (i : ℕ) (others : List ℕ) → i < length p.agents → AllByRecursion (λ j. j < length p.agents) others → AllByRecursion (IsEnvy p x) (filter_map (envy_between p x i) others)
  row_each i [] l a = tt
  row_each i (j ∷ others) l a = by (first_envy p x i j) refl (row_each i others l a.1)
    where
      by : (o : Option EnvyPoint) → first_envy p x i j ≡ o → AllByRecursion (IsEnvy p x) (filter_map (envy_between p x i) others)
          → AllByRecursion (IsEnvy p x) (filter_map (envy_between p x i) (j ∷ others))
      by None e rest = rw e rest
      by (Some point) e rest = rw e (record { from = l; to = a.0; point = first_is p x i j point e }, rest)

  rows_each : (agents : List ℕ) → AllByRecursion (λ i. i < length p.agents) agents → AllByRecursion (IsEnvy p x) (flat_map (envies_of p x) agents)
  rows_each [] a = tt
  rows_each (i ∷ agents) a =
      each_append (IsEnvy p x) (envies_of p x i) (flat_map (envies_of p x) agents)
      (row_each i (range_with_len 0 (length p.agents)) a.0 (each_below (λ j. j < length p.agents) 0 (length p.agents) (λ j l m. omega (arith, m)))) (rows_each agents a.1)

  -- each entry has the first place at which the one envies the other
  pub all_each : (found : List Envy) → found ≡ all_envies p x → All (IsEnvy p x) found
  all_each found e =
      subst (All (IsEnvy p x)) (sym e)
      (All-from_recursion (IsEnvy p x) (all_envies p x) (rows_each (range_with_len 0 (length p.agents)) (each_below (λ i. i < length p.agents) 0 (length p.agents) (λ i l m. omega (arith, m)))))

-- in the assignment of a table no entry names two who are alike
pub none_alike : (p : ProblemValue) (x : ScaledValue) (found : List Envy) → IsProblem p → All (IsEnvy p (units_of x)) found → IsTableAssignment p x → NoneAlike p found
none_alike p x found h each (e, table) k d l = λ alike.
    (let here = each k d l in no_envy p x e _ _ h table here.from here.to alike (envies_at p (units_of x) _ _ _ here.point))
