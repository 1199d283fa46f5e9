-- By computation. A wrong ticket is another number than the right one.
use Rattle.std.proofs.Common.{refl, arith}
use Rattle.std.proofs.lemmas.Option.{same_Some}
use Rattle.definitions.specs.Tickets.{binary_digits, piece_of}
use Rattle.definitions.proofs.examples.tickets_of_zeros.Goals as goal

pub returns : goal.returns
unfolding binary_digits piece_of
returns c = (
  refl,
  refl,
  refl,
  refl,
  refl,
  λ wrong. absurd (omega (arith, same_Some 5 6 wrong)),
  λ wrong. absurd (omega (arith, same_Some 5 4 wrong)),
  λ wrong. absurd (omega (arith, same_Some 0xd8653e56a5d40903df1a0ade0b876 0xd8653e56a5d40903df1a0ade0b877 wrong)),
  λ wrong. absurd (omega (arith, wrong)),
)
