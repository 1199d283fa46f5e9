-- By computation. A wrong number is another than the right one.
use Rattle.std.proofs.Common.{refl, arith}
use Rattle.std.specs.Prelude.{negsuc}
use Rattle.std.proofs.lemmas.Int.{ints}
use Rattle.std.proofs.lemmas.Option.{same_Some}
use Rattle.std.specs.Str.{is_utf8, chars}
use Rattle.definitions.specs.Texts.{count_of, short_count_of, signed_of}
use Rattle.definitions.proofs.examples.numbers_and_names.Goals as goal

pub returns : goal.returns
unfolding count_of short_count_of signed_of is_utf8 chars lib.Utf8.encode
returns c = (
  refl,
  refl,
  refl,
  refl,
  refl,
  refl,
  refl,
  refl,
  refl,
  refl,
  λ wrong. absurd (omega (arith, same_Some 7 8 wrong)),
  λ wrong. absurd (omega (arith, ints, same_Some (negsuc 1099511627771) (negsuc 1099511627772) wrong)),
)
