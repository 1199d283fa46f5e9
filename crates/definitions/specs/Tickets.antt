-- From a seed to a ticket, and from a ticket to a piece. The project's own.
-- `word` is a stream of 32-bit words; the programs take that of ChaCha20 (RFC 8439) with a 64-bit counter, under the seed as key.
use Rattle.std.specs.Prelude.{ℕ, suc, ◌+◌, ◌-◌, ◌*◌, ◌%◌, ◌^◌, List, [], ◌∷◌, Option, find, map, sum_by, nat_lt, if◌then◌else◌, unwrap_or, slice_get}
use Rattle.std.specs.List.{range_with_len}
use Rattle.std.specs.Option.{option_map_or}
use Rattle.definitions.specs.declared.Cell.{Cell}
use Rattle.definitions.specs.Values.{PieceValue}
use Rattle.definitions.specs.Pieces.{piece_count}

-- the number of binary digits: the least b with n < 2^b, for n below 2^128
unfoldable pub binary_digits : ℕ → ℕ
binary_digits n = unwrap_or (find (λ b. nat_lt n (2 ^ b)) (range_with_len 0 129)) 129

-- candidate k, from 0: of the words 4k to 4k + 3, the first word least, the lowest bits, as many as d - 1 has binary digits
abbrev pub candidate : (ℕ → ℕ) → ℕ → ℕ → ℕ
candidate word d k = (word (4 * k) + 2 ^ 32 * word (4 * k + 1) + 2 ^ 64 * word (4 * k + 2) + 2 ^ 96 * word (4 * k + 3)) % 2 ^ binary_digits (d - 1)

-- the ticket: the first candidate below d among candidates 0 to 255, and none where all are d or more
abbrev pub ticket_of : (ℕ → ℕ) → ℕ → Option ℕ
ticket_of word d = find (λ t. nat_lt t d) (map (candidate word d) (range_with_len 0 256))

-- the index, from 0, of the piece that ticket t names: the first for which the weights up to it add up to more than t
unfoldable pub piece_of : List ℕ → ℕ → ℕ
piece_of [] t = 0
piece_of (w ∷ ws) t = if nat_lt t w then 0 else suc (piece_of ws (t - w))

-- the named units of a cell: its counts in the pieces of all tickets, added up
abbrev pub named_units : List PieceValue → Cell → ℕ
named_units ps c = sum_by (λ t. option_map_or (λ p. piece_count p.gives c) (slice_get ps (piece_of (map (λ p. p.weight) ps) t)) 0) (range_with_len 0 (sum_by (λ p. p.weight) ps))
