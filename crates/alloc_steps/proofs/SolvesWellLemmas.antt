-- A lottery that solves a problem meets it, and no agent envies one who is alike.
use Rattle.definitions.specs.Lotteries.{LotteryValue, SolvesFor}
use Rattle.definitions.specs.Sets.{FamilyValue}
use Rattle.definitions.specs.Values.{ProblemValue}
use Rattle.eating_laws.proofs.Envy.{no_envy}
use Rattle.lottery_laws.specs.Sound.{HasSetsOf}
use Rattle.lottery_laws.proofs.SoundLemmas.{own_sets, solution_meets}
use Rattle.alloc_steps.specs.SolvesWell.{SolvesWell, SolvesWellFor}

abbrev pub solves_well_for : (f : FamilyValue) (p : ProblemValue) (l : LotteryValue) → SolvesFor f p l → HasSetsOf p f → SolvesWellFor f p l
solves_well_for f p l s has = record {
  solves = s;
  meets = solution_meets f p l s has;
  fair = λ i j first second alike. no_envy p l.shares s.moments i j s.problem s.rows first second alike;
}

-- the same for the problem's own family
pub solves_well_of : (p : ProblemValue) (l : LotteryValue) → SolvesFor p.family p l → SolvesWell p l
solves_well_of p l s = solves_well_for p.family p l s (own_sets p)
