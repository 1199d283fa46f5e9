-- `envy`: what it writes of a lottery that is sound for a problem, what it answers, and its sentence of the headline.
-- No envy: Bogomolnaia and Moulin 2001.
use Rattle.std.specs.Prelude.{◌++◌, ◌∷◌, [], ℕ, List, All, codes, length, map, slice_index_or}
use Rattle.std.specs.Fmt.{decimal}
use Rattle.alloc_audits.specs.Audit.{AreAudited, AuditedAnswers}
use Rattle.alloc_audits.specs.Verdicts.{Judges, LeavesNone, Wrote}
use Rattle.alloc_outcomes.specs.Answers.{Answer}
use Rattle.alloc_outcomes.specs.Meanings.{ThreeMeaning}
use Rattle.alloc_outcomes.specs.Sentences.{Run}
use Rattle.definitions.specs.Lotteries.{LotteryValue}
use Rattle.definitions.specs.Sets.{units_of}
use Rattle.definitions.specs.Texts.{Row}
use Rattle.definitions.specs.Values.{ProblemValue}
use Rattle.fairness_core.specs.Envy.{IsEnvy, IsTableAssignment, NoneAlike, all_envies}
use Rattle.fairness_core.specs.declared.list.Envy.{Envy}
use Rattle.lottery_laws.specs.Sound.{IsSound, MeetsProblem}
use Rattle.table_text.specs.Rows.{rows_text}

-- the record of an entry: who envies whom, the first place of the list of the one who envies at which the other has more,
-- and what both have up to there
unfoldable pub envy_row : List (List ℕ) → Envy → Row
envy_row agents e =
    codes "envy" ∷ slice_index_or agents e.from [] ∷ slice_index_or agents e.to []
    ∷ decimal e.point.place ∷ decimal e.point.own ∷ decimal e.point.other ∷ []

-- the text of entries, and of how many there are
unfoldable pub envy_text : List (List ℕ) → List Envy → List ℕ
envy_text agents entries =
    rows_text (map (envy_row agents) entries ++ (codes "end" ∷ decimal (length entries) ∷ []) ∷ [])

-- all who envy another at the shares of a lottery, by the one who envies and then the other
abbrev pub envies_in : ProblemValue → LotteryValue → List Envy
envies_in p l = all_envies p (units_of l.shares)

-- the text of all who envy another in a lottery for a problem
unfoldable pub envy_due : ProblemValue → LotteryValue → List ℕ
envy_due p l = envy_text p.agents (envies_in p l)

-- `envy PREFS QUOTAS LOTTERY`: an audit, and then all who envy another
abbrev pub EnvyAnswers : List ℕ → List ℕ → List ℕ → Answer → Type 0
EnvyAnswers = AuditedAnswers envy_due

-- ---- the sentence of the headline

-- the lottery is sound for the problem, and so meets it. Each entry names an agent who envies another, and the first place
-- of its list at which it does. Where the shares are those of a table, as eating makes them, no entry names two who
-- are alike. And the entries were written
pub record ListsEnvy (p : ProblemValue) (l : LotteryValue) (run : Run) : Type 0 where
  pub sound : IsSound p l
  pub meets : MeetsProblem p sound.prices l
  pub each : All (IsEnvy p (units_of l.shares)) (envies_in p l)
  pub fair : IsTableAssignment p l.shares → NoneAlike p (envies_in p l)
  pub wrote : Wrote (envy_due p l) run

-- the entries are written for a lottery that is sound and meets the problem; where a check fails, it
-- isn't sound
abbrev pub EnvySays : (prefs quotas bytes : List ℕ) → Run → Type 0
EnvySays prefs quotas bytes run =
    (p : ProblemValue) (l : LotteryValue) → AreAudited prefs quotas bytes p l
    → Judges (ListsEnvy p l run) (IsSound p l) LeavesNone run

-- what `envy` means
abbrev pub envy_meaning : ThreeMeaning
envy_meaning = record { answers = EnvyAnswers; says = EnvySays }
