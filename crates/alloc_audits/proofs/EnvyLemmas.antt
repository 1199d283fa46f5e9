-- `envy`: what the text is put together of, that the outcome has one answer where it refuses, and its sentence.
use Rattle.std.proofs.Common.{◌≡◌, ◌∙◌, ◌<◌, ◌++◌, ◌∷◌, [], ℕ, List, All, ap, arith, length, map, refl, sym}
use Rattle.std.specs.Prelude.{codes, decimal}
use Rattle.alloc_audits.specs.Envy.{envies_in, envy_due, envy_meaning, envy_row, envy_text}
use Rattle.alloc_audits.proofs.AuditLemmas.{audited_alone, audited_judges}
use Rattle.alloc_outcomes.proofs.MeaningsLemmas.{IsMeantOfThree}
use Rattle.definitions.specs.Lotteries.{LotteryValue}
use Rattle.definitions.specs.Sets.{units_of}
use Rattle.definitions.specs.Texts.{Row}
use Rattle.definitions.specs.Values.{ProblemValue}
use Rattle.fairness_core.specs.Envy.{IsEnvy}
use Rattle.fairness_core.specs.declared.list.Envy.{Envy}
use Rattle.fairness_core.proofs.Entries.{all_each, none_alike}
use Rattle.lottery_laws.proofs.SoundLemmas.{sound_meets}
use Rattle.table_text.specs.Rows.{rows_text}
use Rattle.table_text.proofs.TextFacts.{rows_text-append}

-- the record of an entry has fields
pub envy_row-filled : (row : Row) (agents : List (List ℕ)) (e : Envy) → row ≡ envy_row agents e → 0 < length row
unfolding envy_row
envy_row-filled row agents e is = let many : length row ≡ 6 = ap length is in omega (arith, many)

-- the records of entries, and then the one that counts them
pub envy_text-parts : (agents : List (List ℕ)) (entries : List Envy) (count : ℕ) (t0 t1 t2 : List ℕ) → count ≡ length entries → t0 ≡ []
    → t1 ≡ t0 ++ rows_text (map (envy_row agents) entries) → t2 ≡ t1 ++ rows_text ((codes "end" ∷ decimal count ∷ []) ∷ []) → t2 ≡ envy_text agents entries
unfolding envy_text
envy_text-parts agents entries count t0 t1 t2 many empty first second =
    second ∙ ap (λ (t : List ℕ). t ++ rows_text ((codes "end" ∷ decimal count ∷ []) ∷ [])) (first ∙ ap (λ (t : List ℕ). t ++ rows_text (map (envy_row agents) entries)) empty)
    ∙ ap (λ (n : ℕ). rows_text (map (envy_row agents) entries) ++ rows_text ((codes "end" ∷ decimal n ∷ []) ∷ [])) many
    ∙ sym (rows_text-append (map (envy_row agents) entries) ((codes "end" ∷ decimal (length entries) ∷ []) ∷ []))

-- what is due of a lottery is the text of all who envy another at its shares
pub envy_due-is : (p : ProblemValue) (l : LotteryValue) (t : List ℕ) → t ≡ envy_text p.agents (envies_in p l) → t ≡ envy_due p l
unfolding envy_due
envy_due-is p l t is = is

-- ---- its meaning

entries_are : (p : ProblemValue) (l : LotteryValue) → All (IsEnvy p (units_of l.shares)) (envies_in p l)
entries_are p l = all_each p (units_of l.shares) (envies_in p l) refl

pub envy_meant : IsMeantOfThree envy_meaning
envy_meant = record {
  alone = audited_alone envy_due;
  holds = λ prefs quotas bytes run came p l given.
      audited_judges envy_due p l _ prefs quotas bytes run given (came given.short.0 given.short.1 given.short.2)
      (λ sound wrote. record {
        sound = sound;
        meets = sound_meets p l sound;
        each = entries_are p l;
        fair = none_alike p l.shares (envies_in p l) sound.problem (entries_are p l);
        wrote = wrote;
      });
}
