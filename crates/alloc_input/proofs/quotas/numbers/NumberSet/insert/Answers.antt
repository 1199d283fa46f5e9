use Rattle.std.proofs.Common.{◌∙◌, ◌||◌, ◌==◌, ap}
use Rattle.alloc_input.specs.Cells.{has_number}
use Rattle.alloc_input.proofs.NumberFacts.{among-insert, has-insert}
use Rattle.alloc_input.proofs.quotas.numbers.NumberSet.insert.Goals as goal

pub invariant_of-self-2 : goal.invariant_of-self-2
invariant_of-self-2 c =
    rw c.in_ok-insert.ensures.keys (among-insert c.self.inside.set.keys c.args.number c.self.inside.known c.note.new.plane c.self.invariant c.note.ensures)

pub returns : goal.returns
returns c = λ j.
    ap (λ xs. has_number xs j) c.in_ok-insert.ensures.keys ∙ has-insert c.self.inside.set.keys c.args.number j ∙ ap (λ xs. has_number xs j || (c.args.number == j)) c.self.view_is
