-- `sides`: its texts by their parts, that its outcome has one answer where it refuses, and what its sentence says.
use Rattle.std.proofs.Common.{◌≡◌, ◌∙◌, ℕ, List, [], ◌∷◌, ◌++◌, Option, Some, ap, inl, inr, length, map, refl, subst, sym}
use Rattle.std.specs.Prelude.{codes, decimal, nat_eq}
use Rattle.std.specs.List.{IsDistinct}
use Rattle.definitions.specs.Sets.{FamilyValue, cells_of}
use Rattle.definitions.specs.Sides.{IsOddRing, IsSplit}
use Rattle.definitions.specs.Texts.{Row}
use Rattle.definitions.specs.Values.{SharesValue}
use Rattle.side_finder.specs.Answers.{IfRing, IfSplit}
use Rattle.side_finder.specs.declared.find.Sides.{Sides}
use Rattle.side_finder.specs.declared.find.Sides.TheVariants as sides
use Rattle.side_laws.proofs.Rings.{ring_has_no_coloring}
use Rattle.table_text.specs.Rows.{rows_text}
use Rattle.alloc_outcomes.specs.Answers.{Answer, HasText, IsText, RefusesAlone}
use Rattle.alloc_outcomes.proofs.AnswersLemmas.{gives_alone, passed, IsPart}
use Rattle.alloc_outcomes.proofs.MeaningsLemmas.{IsMeantOfTwo}
use Rattle.alloc_outcomes.proofs.SentencesLemmas.{Expected, expected_text, keeps}
use Rattle.alloc_readings.proofs.FamilyLemmas.{one_family}
use Rattle.alloc_readings.proofs.SharesLemmas.{one_matrix}
use Rattle.alloc_tables.specs.Sides.{answer_text, end_row, ring_row, ring_text, side_rows, sides_meaning, split_text, AreLawful, IsSidesText, SidesAnswers, ToldSides}
use Rattle.alloc_tables.proofs.RowsLemmas.{rows-then}

-- ---- the texts by their parts

pub split_text-made : (sides t0 t1 t2 : List ℕ) → t0 ≡ []
    → t1 ≡ t0 ++ rows_text (side_rows sides (length sides))
    → t2 ≡ t1 ++ rows_text (end_row (length sides) ∷ [])
    → t2 ≡ split_text sides
unfolding split_text
split_text-made sides t0 t1 t2 empty e1 e2 =
    let rows : List Row = side_rows sides (length sides) in
    let end : List Row = end_row (length sides) ∷ [] in
    rows-then rows end t0 t1 t2 e1 e2 ∙ ap (λ (b : List ℕ). b ++ rows_text (rows ++ end)) empty

pub ring_text-made : (ring t0 t1 t2 t3 : List ℕ) → t0 ≡ []
    → t1 ≡ t0 ++ rows_text ((codes "ring" ∷ decimal (length ring) ∷ []) ∷ [])
    → t2 ≡ t1 ++ rows_text (map ring_row ring)
    → t3 ≡ t2 ++ rows_text (end_row (length ring) ∷ [])
    → t3 ≡ ring_text ring
unfolding ring_text
ring_text-made ring t0 t1 t2 t3 empty e1 e2 e3 =
    let head : List Row = (codes "ring" ∷ decimal (length ring) ∷ []) ∷ [] in
    let rows : List Row = map ring_row ring in
    let end : List Row = end_row (length ring) ∷ [] in
    rows-then (head ++ rows) end t0 t2 t3 (rows-then head rows t0 t1 t2 e1 e2) e3
    ∙ ap (λ (b : List ℕ). b ++ rows_text (head ++ (rows ++ end))) empty

-- the text of what was found is that of the split or of an odd ring
pub sides_text : (f : FamilyValue) (found : Sides) → IfSplit (IsSplit (cells_of f)) found → IfRing (IsOddRing (cells_of f)) found → IfRing (IsDistinct nat_eq) found
    → IsSidesText f (answer_text found)
sides_text f (sides.Split s) split odd distinct = inl (record { sides = s.items; split = split; is = refl })
sides_text f (sides.Ring ring) split odd distinct = inr (record { ring = ring.items; odd = odd; distinct = distinct; is = refl })

-- a text that is as it should be, once all before has passed
pub told_part : {good : List ℕ → Type 0} {outcome : Answer → Type 0} (s t : List ℕ) → t ≡ s → good s → IsPart (HasText good) outcome → IsPart (IsText t) outcome
told_part {good = good} s t same is part answer text = part answer (subst (HasText good) (sym text) (subst good (sym same) is))

-- ---- one answer

sides_alone : (matrix quotas : List ℕ) → RefusesAlone (SidesAnswers matrix quotas)
sides_alone matrix quotas =
    gives_alone (one_matrix matrix) (λ given read.
    gives_alone (one_family given quotas) (λ f stated due answer h k. absurd h))

-- ---- the sentence of the headline

module _ (given : SharesValue) (f : FamilyValue) where
  sides_expected : (matrix quotas : List ℕ) (answer : Answer) → AreLawful matrix quotas given f → SidesAnswers matrix quotas answer → Expected (IsSidesText f) (λ _. ⊥) answer
  sides_expected matrix quotas answer lawful h =
      let k = passed (one_matrix matrix) given lawful.shares answer h in
      expected_text (IsSidesText f) (λ _. ⊥) answer (passed (one_family given quotas) f lawful.family answer k)

  sides_told : (before t : List ℕ) (written : Option (List ℕ)) → IsSidesText f t → written ≡ Some (before ++ t) → ToldSides f before written
  sides_told before t written (inl split) did = record { told = t; wrote = did; either = inl split }
  sides_told before t written (inr ring) did =
      record { told = t; wrote = did; either = inr (ring, ring_has_no_coloring (cells_of f) ring.ring ring.odd) }

pub sides_meant : IsMeantOfTwo sides_meaning
sides_meant = record {
  alone = sides_alone;
  holds = λ matrix quotas run came given f s.
      keeps (SidesAnswers matrix quotas) (IsSidesText f) (ToldSides f run.before run.written) (λ _. ⊥) run (came s.short.0 s.short.1)
      (λ answer k. sides_expected given f matrix quotas answer s k) (λ t good did. sides_told given f run.before t run.written good did);
}
