use Rattle.std.proofs.Common.{ℕ, ◌≤◌}
use Rattle.bounded_flow.specs.Nets.{NetValue}
use Rattle.bounded_flow.proofs.Taken.{IsTakeable, taken_held, taken_lawful, taken_rest}
use Rattle.bounded_flow.proofs.Weights.{IsRound, Fits}
use Rattle.bounded_flow.proofs.net.Net.take.Goals as goal

takeable : (v : NetValue) (w : ℕ) → IsRound v → 1 ≤ w → w ≤ v.left → Fits v w → IsTakeable v w
takeable v w rounds one most fits = record { rounds = rounds; one = one; most = most; fits = fits }

pub invariant_of-self : goal.invariant_of-self
invariant_of-self c = record {
  ranked = c.self.invariant.ranked;
  web = taken_held c.self.inside c.args.self.now c.args.weight c.self.view_is c.self.invariant.web (takeable c.args.self.now c.args.weight c.requires.rounds c.requires.one c.requires.most c.requires.fits);
}

pub returns-clause-rest : goal.returns-clause-rest
returns-clause-rest c =
    taken_rest c.self.inside c.args.self.now c.args.weight c.self.view_is c.self.invariant.web (takeable c.args.self.now c.args.weight c.requires.rounds c.requires.one c.requires.most c.requires.fits)

pub returns-clause-lawful : goal.returns-clause-lawful
returns-clause-lawful c =
    taken_lawful c.self.inside c.args.self.now c.args.weight c.self.view_is c.self.invariant.web (takeable c.args.self.now c.args.weight c.requires.rounds c.requires.one c.requires.most c.requires.fits)
