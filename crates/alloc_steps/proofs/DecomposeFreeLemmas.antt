-- `decompose-free`: that splitting under other sides is splitting, that its outcome has one answer where it refuses, and what
-- is left of it where there are sides.
use Rattle.std.proofs.Common.{◌≡◌, ◌⊎◌, ◌∙◌, ℕ, List, Result, Ok, Err, arith, inl, inr, length, refl, subst, sym}
use Rattle.std.proofs.lemmas.List.{length-map}
use Rattle.alloc_outcomes.specs.Answers.{Answer, refuse, text, Follows, Gives, HasText, RefusesAlone}
use Rattle.alloc_outcomes.specs.Causes.{infeasible_cause, no_sides_cause, trees_cause}
use Rattle.alloc_outcomes.specs.Checks.{Faulted}
use Rattle.alloc_outcomes.specs.declared.cause.Cause.{Cause}
use Rattle.alloc_outcomes.specs.declared.cause.Cause.TheVariants as causes
use Rattle.alloc_outcomes.proofs.AnswersLemmas.{gives_alone, passed, IsPart}
use Rattle.alloc_outcomes.proofs.MeaningsLemmas.{IsMeantOfTwo}
use Rattle.alloc_outcomes.proofs.SentencesLemmas.{Expected, keeps}
use Rattle.alloc_readings.specs.Quotas.{MeetsOrNot}
use Rattle.alloc_readings.specs.Trees.{CrossesOrTrees}
use Rattle.alloc_steps.specs.Decompose.{SplitAnswers}
use Rattle.alloc_steps.specs.DecomposeFree.{decompose_free_meaning, DecomposeFreeAnswers, FreeAnswers, FreeSplitAnswers, FreesOrNot, HasSides, HasSidesOrRing, IsFreed, IsFreelySplittable}
use Rattle.alloc_steps.specs.Publishing.{IsLotteryText, Published}
use Rattle.alloc_steps.proofs.DecomposeLemmas.{after_quotas_alone, after_quotas_expected, met_end, split_alone, split_published, AsSplit}
use Rattle.alloc_steps.proofs.FreedLemmas.{feasible_kept, infeasible_kept}
use Rattle.bihierarchy.specs.Crossing.{IsLeastCrossing}
use Rattle.bihierarchy.specs.declared.trees.TreesFault.{TreesFault}
use Rattle.bihierarchy.specs.declared.trees.TreesFault.TheVariants as trees
use Rattle.definitions.specs.declared.Cell.{Cell}
use Rattle.definitions.specs.declared.Infeasible.{Infeasible}
use Rattle.definitions.specs.Lotteries.{Splits, matrices_of}
use Rattle.definitions.specs.Pieces.{Decomposes}
use Rattle.definitions.specs.Sets.{FamilyValue, ScaledValue, IsFeasible, NoCrossing, cells_of, sides_of}
use Rattle.definitions.specs.Sides.{IsColoring}
use Rattle.definitions.specs.Trees.{TreesValue}
use Rattle.definitions.specs.Values.{SharesValue}
use Rattle.lottery_laws.specs.SplitsWell.{SplitsWell}
use Rattle.scaled_matrix.specs.Scaling.{IsTooFine}
use Rattle.side_finder.specs.Applied.{with_sides}
use Rattle.side_finder.proofs.Applying.{cells_with_sides, sides_with_sides}
use Rattle.side_laws.proofs.Rings.{ring_has_no_coloring}

-- ---- splitting under other sides

module _ (given : SharesValue) (x : ScaledValue) (f : FamilyValue) (sides : List ℕ) (coloring : IsColoring (cells_of f) sides) where
  abbrev resided : FamilyValue
  resided = with_sides f sides

  many : length sides ≡ length f.sets
  many = coloring.many ∙ length-map f.sets (λ s. s.cells)

  -- no two sets of one side cross
  never_crosses : (first second : ℕ) → IsLeastCrossing resided first second → ⊥
  never_crosses first second h =
      let apart : NoCrossing (cells_of resided) (sides_of resided) =
      subst (λ (sets : List (List Cell)). NoCrossing sets (sides_of resided)) (sym (cells_with_sides f sides coloring.many))
      (subst (λ (ns : List ℕ). NoCrossing (cells_of f) ns) (sym (sides_with_sides f sides coloring.many)) coloring.apart) in
      let size : length (cells_of resided) ≡ length resided.sets = length-map resided.sets (λ s. s.cells) in
      apart first second (h.known, (let order = h.order in let within = h.within in omega (arith, order, within, size)))
      ((let order = h.order in let known = h.known in omega (arith, order, known)), (let within = h.within in omega (arith, within, size))) h.sides h.cross

  -- a lottery that splits the shares under these sides splits them
  split_kept : (answer : Answer) → HasText (IsLotteryText (Splits given resided)) answer → HasText (IsLotteryText (Splits given f)) answer
  split_kept (text t) h = record {
    lottery = h.lottery;
    plain = h.plain;
    has = record {
      lottery = h.has.lottery;
      agents = h.has.agents;
      columns = h.has.columns;
      scaled = h.has.scaled;
      plain = h.has.plain;
      pieces = subst (λ (sets : List (List Cell)). Decomposes h.lottery.shares.columns sets h.lottery.shares.units h.lottery.shares.denominator (matrices_of h.lottery)) (cells_with_sides f sides coloring.many) h.has.pieces;
    };
    is = h.is;
  }
  split_kept (refuse cause) h = h

  met_kept : (answer : Answer) (r : Result (Unit {0}) Infeasible) → MeetsOrNot resided x r
      → Follows infeasible_cause (λ _. HasText (IsLotteryText (Splits given resided))) r answer → FreeSplitAnswers given x f answer
  met_kept answer (Ok u) m h = record { found = Ok u; holds = feasible_kept f x sides many m; follows = split_kept answer h }
  met_kept answer (Err first) m h = record { found = Err first; holds = infeasible_kept f x sides many first.set first.sum m; follows = h }

  trees_kept : (answer : Answer) (r : Result TreesValue TreesFault) → CrossesOrTrees resided r
      → Follows trees_cause (λ _. Gives infeasible_cause (MeetsOrNot resided x) (λ _. HasText (IsLotteryText (Splits given resided)))) r answer → FreeSplitAnswers given x f answer
  trees_kept answer (Ok t) m h = met_kept answer h.found h.holds h.follows
  trees_kept answer (Err (trees.Crossing a b)) m h = absurd (never_crosses a b m)
  trees_kept answer (Err trees.NoMemory) m h = absurd m

-- what splits a family that was freed splits the family as it was
pub freed_part : (given : SharesValue) (x : ScaledValue) (f free : FamilyValue) → IsFreed f free → IsPart (SplitAnswers given x free) (FreeSplitAnswers given x f)
freed_part given x f free freed answer h =
    let k : SplitAnswers given x (with_sides f freed.sides) answer = subst (λ (g : FamilyValue). SplitAnswers given x g answer) freed.is h in
    trees_kept given x f freed.sides freed.split.coloring answer k.found k.holds k.follows

-- a family that was freed has sides
pub freed_sides : (f free : FamilyValue) → IsFreed f free → HasSidesOrRing f (Ok tt)
freed_sides f free freed = (freed.sides, freed.split.coloring)

-- an odd ring that was found in place of sides
pub ring_found : (f : FamilyValue) (cause : Cause) → (cause ≡ causes.NoMemory) ⊎ Faulted no_sides_cause (FreesOrNot f) cause
    → (cause ≡ causes.NoMemory) ⊎ Faulted no_sides_cause (HasSidesOrRing f) cause
ring_found f cause (inl short) = inl short
ring_found f cause (inr h) = inr (record { kind = h.kind; fault = h.fault; holds = h.holds; is = h.is })

-- ---- one answer

-- a family has sides or an odd ring, and not both
one_of_both : (f : FamilyValue) (r s : Result (Unit {0}) (Unit {0})) → HasSidesOrRing f r → HasSidesOrRing f s → r ≡ s
one_of_both f (Ok u) (Ok v) h k = refl
one_of_both f (Ok u) (Err e) h k = absurd (ring_has_no_coloring (cells_of f) k.0 k.1 h.0 h.1)
one_of_both f (Err e) (Ok u) h k = absurd (ring_has_no_coloring (cells_of f) h.0 h.1 k.0 k.1)
one_of_both f (Err d) (Err e) h k = refl

decompose_free_alone : (matrix quotas : List ℕ) → RefusesAlone (DecomposeFreeAnswers matrix quotas)
decompose_free_alone matrix quotas =
    after_quotas_alone matrix quotas (λ given x f stated.
    gives_alone (one_of_both f) (λ u sided. split_alone given x f))

-- ---- the sentence of the headline

module _ (given : SharesValue) (f : FamilyValue) where
  free_end : (x : ScaledValue) (answer : Answer) → HasSides f → IsFeasible f x → FreeAnswers given x f answer → AsSplit given f answer
  free_end x answer sides feasible h = met_end given f x answer feasible (passed (one_of_both f) tt sides answer h)

  decompose_free_expected : (matrix quotas : List ℕ) (answer : Answer) → IsFreelySplittable matrix quotas given f → DecomposeFreeAnswers matrix quotas answer
      → Expected (IsLotteryText (Splits given f)) (λ _. IsTooFine given) answer
  decompose_free_expected matrix quotas answer s h =
      after_quotas_expected given f FreeAnswers (λ x end feasible k. free_end x end s.sides feasible k) matrix quotas answer s.shares s.family s.total s.feasible h

-- ---- its meaning

pub decompose_free_meant : IsMeantOfTwo decompose_free_meaning
decompose_free_meant = record {
  alone = decompose_free_alone;
  holds = λ matrix quotas run came given f s.
      keeps (DecomposeFreeAnswers matrix quotas) (IsLotteryText (Splits given f)) (Published (SplitsWell given f) run.before run.written) (λ _. IsTooFine given) run (came s.short.0 s.short.1)
      (λ answer k. decompose_free_expected given f matrix quotas answer s k) (λ t good did. split_published given f run.before t run.written s.feasible good did);
}
