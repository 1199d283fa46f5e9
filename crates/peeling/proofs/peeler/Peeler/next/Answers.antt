-- The net rounds what is left, and its whole matrix is taken off with the greatest weight.
use Rattle.std.proofs.Common.{ℕ, ◌+◌, List, subst}
use Rattle.definitions.specs.Peelings.{PeelerValue, IsStep}
use Rattle.bounded_flow.specs.Nets.{NetValue}
use Rattle.peeling.specs.Views.{peeler_of}
use Rattle.peeling.proofs.Steps.{taken_step, round_step}
use Rattle.peeling.proofs.peeler.Peeler.next.Goals as goal

pub returns-clause-step : goal.returns-clause-step
returns-clause-step c =
    let start : NetValue = c.self.inside.net in
    let round : NetValue = c.round.new.self in
    let end : NetValue = c.take.new.self in
    let given : ℕ = c.self.inside.given in
    let weight : ℕ = c.greatest_weight-weight.result in
    let best = c.greatest_weight-weight.ensures in
    let taken = c.take.ensures in
    let step : IsStep (peeler_of round given) (peeler_of end (given + weight)) weight round.whole =
    taken_step round end given weight c.round.ensures.rounds best.one best.most best.fits best.tight taken.left taken.rest taken.shape taken.stays taken.lawful in
    let P : PeelerValue → Type 0 = λ old. (m : List ℕ) × IsStep old (peeler_of end (given + weight)) weight m in
    subst P c.self.view_is (round.whole, round_step start round given weight (peeler_of end (given + weight)) round.whole c.round.ensures.stays step)
