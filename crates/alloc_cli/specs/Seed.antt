-- A seed among the words.
use Rattle.std.specs.Prelude.{ℕ, List, Option}
use Rattle.std.specs.Result.{result_ok}
use Rattle.hex.specs.Hex.{decode_sized}

-- the 32 bytes that 64 hex digits of either case spell
abbrev pub seed_of : List ℕ → Option (List ℕ)
seed_of word = result_ok (decode_sized word 32)
