-- The line that sums a lottery up.
use Rattle.std.specs.Prelude.{ℕ, List, [], ◌∷◌, ◌++◌, codes, decimal, fold, is_some, length, map, max, min}
use Rattle.std.specs.List.{enumerate_from, range_with_len}
use Rattle.definitions.specs.Lotteries.{LotteryValue}
use Rattle.definitions.specs.Sets.{cell_of, set_sum, units_of}
use Rattle.definitions.specs.declared.Cell.{Cell}
use Rattle.serde_json.specs.Data.{Data, Members, no_members, member, object, number, unsigned, string, boolean, put}
use Rattle.serde_json.specs.Written.{compact_text}

-- the cells of a column
abbrev pub column_cells : ℕ → ℕ → List Cell
column_cells agents a = map (λ i. cell_of i a) (range_with_len 0 agents)

-- the sum of a column's units over all agents
abbrev pub column_units : LotteryValue → ℕ → ℕ
column_units l a = set_sum (units_of l.shares) (column_cells (length l.agents) a)

-- the members with a column's name and the sum of its units, in byte order of the names
abbrev pub put_column : LotteryValue → Members → ℕ × List ℕ → Members
put_column l members column = put column.1 (string (decimal (column_units l column.0))) members

-- each column's name, in byte order, with the sum of its units
unfoldable pub expected_of : LotteryValue → Members
expected_of l = fold (put_column l) no_members (enumerate_from 0 l.columns)

-- the weight of each piece
abbrev pub weights_of : LotteryValue → List ℕ
weights_of l = map (λ p. p.weight) l.pieces

-- the greatest of these numbers, 0 where there is none
abbrev pub greatest_of : List ℕ → ℕ
greatest_of numbers = fold max 0 numbers

-- the least of these numbers, 0 where there is none
abbrev pub least_of : List ℕ → ℕ
least_of [] = 0
least_of (n ∷ numbers) = fold min n numbers

-- how many agents, columns and pieces there are, the denominator, what is expected of each column, the greatest and the least weight,
-- and whether there are prices
unfoldable pub summary_of : LotteryValue → Data
summary_of l = object
    (member (codes "agents") (number (unsigned (length l.agents)))
    (member (codes "columns") (number (unsigned (length l.columns)))
    (member (codes "denominator") (string (decimal l.shares.denominator))
    (member (codes "expected") (object (expected_of l))
    (member (codes "greatest_weight") (string (decimal (greatest_of (weights_of l))))
    (member (codes "least_weight") (string (decimal (least_of (weights_of l))))
    (member (codes "pieces") (number (unsigned (length l.pieces)))
    (member (codes "priced") (boolean (is_some l.prices))
    no_members))))))))

-- the line: compact JSON and a line feed
unfoldable pub summary_text : LotteryValue → List ℕ
summary_text l = compact_text (summary_of l) ++ 10 ∷ []
