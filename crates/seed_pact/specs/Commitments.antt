-- Commitments to contributions, and the seed that contributions make together.
use Rattle.std.specs.Prelude.{ℕ, List, [], ◌∷◌, ◌++◌, Option}
use Rattle.std.specs.List.{concat}
use Rattle.std.specs.Result.{result_ok}
use Rattle.hex.specs.Hex.{decode_sized}
use Rattle.sha2.specs.Sha256.{sha256}

-- the 32 bytes that 64 hex digits of either case spell
unfoldable pub spelled : List ℕ → Option (List ℕ)
spelled text = result_ok (decode_sized text 32)

-- the SHA-256 of the name, one byte 0 and the contribution
unfoldable pub commitment_of : List ℕ → List ℕ → List ℕ
commitment_of name contribution = sha256 (name ++ 0 ∷ [] ++ contribution)

-- the SHA-256 of the contributions, one after the other
unfoldable pub joint_seed_of : List (List ℕ) → List ℕ
joint_seed_of contributions = sha256 (concat contributions)
