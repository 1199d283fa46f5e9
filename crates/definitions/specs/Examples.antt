-- Small cases that were worked by hand, as laws: what the definitions say of them, and which wrong neighbours they refuse.
use Rattle.std.specs.Prelude.{◌≡◌, ℕ, ◌+◌, ◌-◌, ◌*◌, ◌^◌, true, false, List, [], ◌∷◌, ◌++◌, length, map, codes, Option, Some, None, ℤ, pos, negsuc, slice_index}
use Rattle.std.specs.List.{range_with_len}
use Rattle.definitions.specs.declared.Cell.{Cell}
use Rattle.definitions.specs.declared.Give.{Give}
use Rattle.definitions.specs.Sets.{cell_of, SetValue, FamilyValue, ScaledValue, units_of, IsFirstInfeasible}
use Rattle.definitions.specs.Trees.{TreesValue, AreTreesOf}
use Rattle.definitions.specs.Values.{ProblemValue, IsProblem, Market, PricesValue, PieceValue, SharesValue, row_sets, market_of}
use Rattle.definitions.specs.Eating.{IsEatingTable, IsPartialTable, IsFirstTooFine, IsLowestTerms, IsAssignmentOf}
use Rattle.definitions.specs.Assignment.{IsRandomAssignment, Dominates}
use Rattle.definitions.specs.Certificate.{Certifies, IsRecipeOf}
use Rattle.definitions.specs.Scaling.{IsScaled}
use Rattle.definitions.specs.Pieces.{WeightedMatrix, Decomposes}
use Rattle.definitions.specs.Tickets.{ticket_of, piece_of, named_units}
use Rattle.definitions.specs.Texts.{count_of, signed_of, share_of, is_name, null_name}
use Rattle.definitions.specs.Lotteries.{LotteryValue, IsLottery, Solves, Splits}
use Rattle.definitions.specs.Fairness.{IsAlike, Envies, prefix_set, guarded_family}
use Rattle.definitions.specs.Sides.{IsOddRing, IsSplit}

-- the column of an object for so many agents, as a set of side 2 with floor 0
abbrev pub column_set : ℕ → ℕ → ℕ → SetValue
column_set agents a ceiling = record { side = 2; floor = 0; ceiling = ceiling; cells = map (λ i. cell_of i a) (range_with_len 0 agents) }

-- these cells, as such a set
abbrev pub limited_set : ℕ → List Cell → SetValue
limited_set ceiling cells = record { side = 2; floor = 0; ceiling = ceiling; cells = cells }

-- the problem of these names, lists, demands and stated sets
abbrev pub problem_from : List (List ℕ) → List (List ℕ) → List (List ℕ) → List ℕ → List SetValue → ProblemValue
problem_from agents objects lists demands stated = record {
  agents = agents;
  objects = objects;
  lists = lists;
  demands = demands;
  family = record { agents = length agents; columns = length objects + 1; sets = stated ++ row_sets (length objects + 1) demands };
  stated = length stated;
}

-- units over a denominator
abbrev pub units_over : ℕ → ℕ → ℕ → List ℕ → ScaledValue
units_over denominator agents columns units = record { denominator = denominator; agents = agents; columns = columns; units = units }

-- prices and worths
abbrev pub prices_from : List ℕ → List (List ℤ) → PricesValue
prices_from price worth = record { price = price; worth = worth }

-- a piece as a matrix
abbrev pub matrix_piece : ℕ → List ℕ → WeightedMatrix
matrix_piece weight matrix = record { weight = weight; matrix = matrix }

-- what a piece gives to an agent of a column, once
abbrev pub one_of : ℕ → ℕ → Give
one_of i a = record { agent = i; object = a; count = 1 }

-- a piece as gives
abbrev pub piece_from : ℕ → List Give → PieceValue
piece_from weight gives = record { weight = weight; gives = gives }

-- four agents and four objects of one unit: two agents want a, b, c, d and two want b, a, d, c
abbrev pub four_agents : ProblemValue
four_agents = problem_from (codes "1" ∷ codes "2" ∷ codes "3" ∷ codes "4" ∷ []) (codes "a" ∷ codes "b" ∷ codes "c" ∷ codes "d" ∷ [])
    ((0 ∷ 1 ∷ 2 ∷ 3 ∷ 4 ∷ []) ∷ (0 ∷ 1 ∷ 2 ∷ 3 ∷ 4 ∷ []) ∷ (1 ∷ 0 ∷ 3 ∷ 2 ∷ 4 ∷ []) ∷ (1 ∷ 0 ∷ 3 ∷ 2 ∷ 4 ∷ []) ∷ []) (1 ∷ 1 ∷ 1 ∷ 1 ∷ [])
    (column_set 4 0 1 ∷ column_set 4 1 1 ∷ column_set 4 2 1 ∷ column_set 4 3 1 ∷ [])

-- a and b are full at one half, c and d at the end: each agent gets one half of two objects. That d is full at one half is refused,
-- and so is a table up to one half in which b isn't full yet
abbrev pub TiedMoment : Type 0
TiedMoment = IsProblem four_agents
    × IsEatingTable (market_of four_agents) 2 (1 ∷ 1 ∷ 2 ∷ 2 ∷ [])
    × IsLowestTerms 2 (1 ∷ 1 ∷ 2 ∷ 2 ∷ [])
    × IsAssignmentOf 5 (market_of four_agents) 2 (1 ∷ 1 ∷ 2 ∷ 2 ∷ [])
    (units_over 2 4 5 (1 ∷ 0 ∷ 1 ∷ 0 ∷ 0 ∷ 1 ∷ 0 ∷ 1 ∷ 0 ∷ 0 ∷ 0 ∷ 1 ∷ 0 ∷ 1 ∷ 0 ∷ 0 ∷ 1 ∷ 0 ∷ 1 ∷ 0 ∷ []))
    × IsPartialTable (market_of four_agents) 2 1 (1 ∷ 1 ∷ 2 ∷ 2 ∷ [])
    × (IsEatingTable (market_of four_agents) 2 (1 ∷ 1 ∷ 2 ∷ 1 ∷ []) → ⊥)
    × (IsPartialTable (market_of four_agents) 2 1 (1 ∷ 2 ∷ 2 ∷ 2 ∷ []) → ⊥)

-- x and y want a, then b; z wants a. Two units of a, of which x and y together have at most one, and one of b
abbrev pub shared_limit : ProblemValue
shared_limit = problem_from (codes "x" ∷ codes "y" ∷ codes "z" ∷ []) (codes "a" ∷ codes "b" ∷ [])
    ((0 ∷ 1 ∷ 2 ∷ []) ∷ (0 ∷ 1 ∷ 2 ∷ []) ∷ (0 ∷ 2 ∷ []) ∷ []) (1 ∷ 1 ∷ 1 ∷ [])
    (column_set 3 0 2 ∷ column_set 3 1 1 ∷ limited_set 1 (cell_of 0 0 ∷ cell_of 1 0 ∷ []) ∷ [])

-- the set of x and y is full at one half, before its column, and they go on to b. A table by the columns alone is refused
abbrev pub SetFullBeforeItsColumn : Type 0
SetFullBeforeItsColumn = IsProblem shared_limit
    × IsEatingTable (market_of shared_limit) 2 (2 ∷ 2 ∷ 1 ∷ [])
    × IsLowestTerms 2 (2 ∷ 2 ∷ 1 ∷ [])
    × IsAssignmentOf 3 (market_of shared_limit) 2 (2 ∷ 2 ∷ 1 ∷ []) (units_over 2 3 3 (1 ∷ 1 ∷ 0 ∷ 1 ∷ 1 ∷ 0 ∷ 2 ∷ 0 ∷ 0 ∷ []))
    × (IsEatingTable (market_of shared_limit) 3 (2 ∷ 3 ∷ 3 ∷ []) → ⊥)

-- the same with a set equal to that of x and y, and an empty one
abbrev pub equal_sets : FamilyValue
equal_sets = record {
  agents = 3;
  columns = 3;
  sets = column_set 3 0 2 ∷ column_set 3 1 1 ∷ limited_set 1 (cell_of 0 0 ∷ cell_of 1 0 ∷ []) ∷ limited_set 2 (cell_of 0 0 ∷ cell_of 1 0 ∷ []) ∷ limited_set 0 []
      ∷ row_sets 3 (1 ∷ 1 ∷ 1 ∷ []);
}

-- trees of eight sets, the parents of which are these
abbrev pub trees_with : List (Option ℕ) → TreesValue
trees_with parents = record {
  sets = 8;
  agents = 3;
  columns = 3;
  parents = parents;
  deepest_one = Some 6 ∷ Some 6 ∷ Some 6 ∷ Some 7 ∷ Some 7 ∷ Some 7 ∷ Some 8 ∷ Some 8 ∷ Some 8 ∷ [];
  deepest_two = Some 3 ∷ Some 2 ∷ None ∷ Some 3 ∷ Some 2 ∷ None ∷ Some 1 ∷ Some 2 ∷ None ∷ [];
}

-- of equal sets the one with the higher number is the parent; an empty set has none. That both have the column as parent is refused
abbrev pub EqualAndEmptySets : Type 0
EqualAndEmptySets =
    AreTreesOf equal_sets (trees_with (None ∷ None ∷ Some 4 ∷ Some 1 ∷ None ∷ None ∷ None ∷ None ∷ []))
    × (AreTreesOf equal_sets (trees_with (None ∷ None ∷ Some 1 ∷ Some 1 ∷ None ∷ None ∷ None ∷ None ∷ [])) → ⊥)

-- u and v want two units each, in opposite orders of a and b; p wants b. Two units of each
abbrev pub two_demands : ProblemValue
two_demands = problem_from (codes "u" ∷ codes "v" ∷ codes "p" ∷ []) (codes "a" ∷ codes "b" ∷ [])
    ((0 ∷ 1 ∷ 2 ∷ []) ∷ (1 ∷ 0 ∷ 2 ∷ []) ∷ (1 ∷ 2 ∷ []) ∷ []) (2 ∷ 2 ∷ 1 ∷ [])
    (column_set 3 0 2 ∷ column_set 3 1 2 ∷ [])

abbrev pub two_demands_units : ScaledValue
two_demands_units = units_over 6 3 3 (6 ∷ 2 ∷ 4 ∷ 6 ∷ 6 ∷ 0 ∷ 0 ∷ 4 ∷ 2 ∷ [])

-- each gets its first object once, by one half, and goes on; u envies v, but they aren't alike. That u's first object is never full is refused
abbrev pub DemandsOfTwo : Type 0
DemandsOfTwo = IsProblem two_demands
    × IsEatingTable (market_of two_demands) 6 (6 ∷ 4 ∷ 3 ∷ 6 ∷ 3 ∷ 6 ∷ [])
    × IsLowestTerms 6 (6 ∷ 4 ∷ 3 ∷ 6 ∷ 3 ∷ 6 ∷ [])
    × IsAssignmentOf 3 (market_of two_demands) 6 (6 ∷ 4 ∷ 3 ∷ 6 ∷ 3 ∷ 6 ∷ []) two_demands_units
    × IsRecipeOf two_demands 6 (6 ∷ 4 ∷ 3 ∷ 6 ∷ 3 ∷ 6 ∷ [])
    (prices_from (0 ∷ 4 ∷ []) ((pos 8 ∷ pos 4 ∷ pos 0 ∷ []) ∷ (pos 8 ∷ pos 0 ∷ negsuc 0 ∷ []) ∷ (pos 4 ∷ pos 0 ∷ []) ∷ []))
    × Certifies two_demands 6 (units_of two_demands_units)
    (prices_from (0 ∷ 4 ∷ []) ((pos 8 ∷ pos 4 ∷ pos 0 ∷ []) ∷ (pos 8 ∷ pos 0 ∷ negsuc 0 ∷ []) ∷ (pos 4 ∷ pos 0 ∷ []) ∷ []))
    × Envies two_demands (units_of two_demands_units) 0 1
    × (IsAlike two_demands 0 1 → ⊥)
    × (IsEatingTable (market_of two_demands) 6 (6 ∷ 4 ∷ 6 ∷ 6 ∷ 3 ∷ 6 ∷ []) → ⊥)

-- x and y want a, then b; z wants b, then a, and gets no a. One unit of each
abbrev pub uneaten_place : ProblemValue
uneaten_place = problem_from (codes "x" ∷ codes "y" ∷ codes "z" ∷ []) (codes "a" ∷ codes "b" ∷ [])
    ((0 ∷ 1 ∷ 2 ∷ []) ∷ (0 ∷ 1 ∷ 2 ∷ []) ∷ (1 ∷ 0 ∷ 2 ∷ []) ∷ []) (1 ∷ 1 ∷ 1 ∷ [])
    (column_set 3 0 1 ∷ column_set 3 1 1 ∷ [])

abbrev pub uneaten_units : ScaledValue
uneaten_units = units_over 6 3 3 (3 ∷ 1 ∷ 2 ∷ 3 ∷ 1 ∷ 2 ∷ 0 ∷ 4 ∷ 2 ∷ [])

-- the lottery of four pieces that solves it
abbrev pub uneaten_lottery : LotteryValue
uneaten_lottery = record {
  agents = codes "x" ∷ codes "y" ∷ codes "z" ∷ [];
  columns = codes "a" ∷ codes "b" ∷ null_name ∷ [];
  shares = uneaten_units;
  lists = (0 ∷ 1 ∷ 2 ∷ []) ∷ (0 ∷ 1 ∷ 2 ∷ []) ∷ (1 ∷ 0 ∷ 2 ∷ []) ∷ [];
  prices = Some (prices_from (8 ∷ 4 ∷ []) ((pos 8 ∷ pos 4 ∷ pos 0 ∷ []) ∷ (pos 8 ∷ pos 4 ∷ pos 0 ∷ []) ∷ (pos 4 ∷ pos 1 ∷ pos 0 ∷ []) ∷ []));
  pieces = piece_from 1 (one_of 0 0 ∷ one_of 1 1 ∷ one_of 2 2 ∷ []) ∷ piece_from 2 (one_of 0 0 ∷ one_of 1 2 ∷ one_of 2 1 ∷ [])
      ∷ piece_from 1 (one_of 0 1 ∷ one_of 1 0 ∷ one_of 2 2 ∷ []) ∷ piece_from 2 (one_of 0 2 ∷ one_of 1 0 ∷ one_of 2 1 ∷ []) ∷ [];
  design = None;
}

-- the lottery solves the problem. A worth of z that ties with the one before it is refused, and so are prices that are all 0
abbrev pub UneatenPlace : Type 0
UneatenPlace = IsProblem uneaten_place
    × Solves uneaten_place uneaten_lottery
    × (Certifies uneaten_place 6 (units_of uneaten_units) (prices_from (8 ∷ 4 ∷ []) ((pos 8 ∷ pos 4 ∷ pos 0 ∷ []) ∷ (pos 8 ∷ pos 4 ∷ pos 0 ∷ []) ∷ (pos 4 ∷ pos 4 ∷ pos 0 ∷ []) ∷ [])) → ⊥)
    × (Certifies uneaten_place 6 (units_of uneaten_units) (prices_from (0 ∷ 0 ∷ []) ((pos 8 ∷ pos 4 ∷ pos 0 ∷ []) ∷ (pos 8 ∷ pos 4 ∷ pos 0 ∷ []) ∷ (pos 4 ∷ pos 1 ∷ pos 0 ∷ []) ∷ [])) → ⊥)

-- z's first two places, b and a, have 4 units of 6 together: a set of both cells in rising order, with floor 0 and ceiling 1. A floor of 1,
-- a ceiling of 2 and a cell of another agent are refused
abbrev pub SetOfFirstPlaces : Type 0
SetOfFirstPlaces = (prefix_set uneaten_place uneaten_units 2 2 ≡ record { side = 1; floor = 0; ceiling = 1; cells = cell_of 2 0 ∷ cell_of 2 1 ∷ [] })
    × (prefix_set uneaten_place uneaten_units 2 2 ≡ record { side = 1; floor = 1; ceiling = 1; cells = cell_of 2 0 ∷ cell_of 2 1 ∷ [] } → ⊥)
    × (prefix_set uneaten_place uneaten_units 2 2 ≡ record { side = 1; floor = 0; ceiling = 2; cells = cell_of 2 0 ∷ cell_of 2 1 ∷ [] } → ⊥)
    × (prefix_set uneaten_place uneaten_units 2 2 ≡ record { side = 1; floor = 0; ceiling = 1; cells = cell_of 1 0 ∷ cell_of 2 1 ∷ [] } → ⊥)

-- one agent's shares 0.25, 1/3 and 2
abbrev pub mixed_shares : SharesValue
mixed_shares = record {
  agents = codes "x" ∷ [];
  objects = codes "a" ∷ codes "b" ∷ codes "c" ∷ [];
  entries = (record { num = 1; den = 4 }) ∷ (record { num = 1; den = 3 }) ∷ (record { num = 2; den = 1 }) ∷ [];
}

-- over 12 they are 3, 4 and 24, which two lists of pieces decompose. A piece that is written twice with its weight split is refused, and so
-- are pieces of which one gives b in place of a
abbrev pub MixedSpellings : Type 0
MixedSpellings =
    (share_of (codes "0.25") ≡ Some (record { num = 25; den = 100 }))
    × (share_of (codes "1/3") ≡ Some (record { num = 1; den = 3 }))
    × (share_of (codes "2") ≡ Some (record { num = 2; den = 1 }))
    × (share_of [] ≡ Some (record { num = 0; den = 1 }))
    × (share_of (codes "1/0") ≡ None)
    × (share_of (codes ".5") ≡ None)
    × IsScaled mixed_shares (units_over 12 1 3 (3 ∷ 4 ∷ 24 ∷ []))
    × Decomposes 3 [] (3 ∷ 4 ∷ 24 ∷ []) 12 (matrix_piece 3 (1 ∷ 0 ∷ 2 ∷ []) ∷ matrix_piece 4 (0 ∷ 1 ∷ 2 ∷ []) ∷ matrix_piece 5 (0 ∷ 0 ∷ 2 ∷ []) ∷ [])
    × Decomposes 3 [] (3 ∷ 4 ∷ 24 ∷ []) 12 (matrix_piece 3 (1 ∷ 1 ∷ 2 ∷ []) ∷ matrix_piece 1 (0 ∷ 1 ∷ 2 ∷ []) ∷ matrix_piece 8 (0 ∷ 0 ∷ 2 ∷ []) ∷ [])
    × (Decomposes 3 [] (3 ∷ 4 ∷ 24 ∷ []) 12 (matrix_piece 3 (1 ∷ 1 ∷ 2 ∷ []) ∷ matrix_piece 1 (0 ∷ 1 ∷ 2 ∷ []) ∷ matrix_piece 4 (0 ∷ 0 ∷ 2 ∷ []) ∷ matrix_piece 4 (0 ∷ 0 ∷ 2 ∷ []) ∷ []) → ⊥)
    × (Decomposes 3 [] (3 ∷ 4 ∷ 24 ∷ []) 12 (matrix_piece 3 (0 ∷ 1 ∷ 2 ∷ []) ∷ matrix_piece 4 (0 ∷ 1 ∷ 2 ∷ []) ∷ matrix_piece 5 (0 ∷ 0 ∷ 2 ∷ []) ∷ []) → ⊥)

-- one agent's row of one half and 1 is 3 over 2, above a ceiling of 1. That another set is the first to break its quotas is refused
abbrev pub row_at_most_one : FamilyValue
row_at_most_one = record { agents = 1; columns = 2; sets = (record { side = 1; floor = 0; ceiling = 1; cells = cell_of 0 0 ∷ cell_of 0 1 ∷ [] }) ∷ column_set 1 1 0 ∷ [] }

abbrev pub InfeasibleRow : Type 0
InfeasibleRow = IsFirstInfeasible row_at_most_one (units_over 2 1 2 (1 ∷ 2 ∷ [])) 1 3
    × (IsFirstInfeasible row_at_most_one (units_over 2 1 2 (1 ∷ 2 ∷ [])) 2 2 → ⊥)

-- counts, signed numbers and names. Numbers that are off by one are refused
abbrev pub NumbersAndNames : Type 0
NumbersAndNames =
    (count_of (codes "007") ≡ Some 7)
    × (count_of (codes "340282366920938463463374607431768211455") ≡ Some (2 ^ 128 - 1))
    × (count_of (codes "340282366920938463463374607431768211456") ≡ None)
    × (count_of (codes "+1") ≡ None)
    × (signed_of (codes "-1099511627772") ≡ Some (negsuc 1099511627771))
    × (signed_of (codes "-0") ≡ Some (pos 0))
    × (signed_of (codes "-") ≡ None)
    × (is_name (codes "Lee, Ada") ≡ true)
    × (is_name (codes "*") ≡ false)
    × (is_name [] ≡ false)
    × (count_of (codes "007") ≡ Some 8 → ⊥)
    × (signed_of (codes "-1099511627772") ≡ Some (negsuc 1099511627772) → ⊥)

-- three sets of two cells of a column of three, each two of which share a cell
abbrev pub three_pairs : List (List Cell)
three_pairs = (cell_of 0 0 ∷ cell_of 1 0 ∷ []) ∷ (cell_of 1 0 ∷ cell_of 2 0 ∷ []) ∷ (cell_of 0 0 ∷ cell_of 2 0 ∷ []) ∷ []

-- they are an odd ring; two of them are none, nor are three of which one is within another
abbrev pub RingOfThree : Type 0
RingOfThree = IsOddRing three_pairs (1 ∷ 2 ∷ 3 ∷ [])
    × (IsOddRing three_pairs (1 ∷ 2 ∷ []) → ⊥)
    × (IsOddRing ((cell_of 0 0 ∷ cell_of 1 0 ∷ []) ∷ (cell_of 1 0 ∷ cell_of 2 0 ∷ []) ∷ (cell_of 0 0 ∷ []) ∷ []) (1 ∷ 2 ∷ 3 ∷ []) → ⊥)

-- of the first two of them and the whole column only the two cross: the first has side 1, the second 2 and the column 1. Other sides of the
-- two, and one side for all, are refused
abbrev pub two_pairs : List (List Cell)
two_pairs = (cell_of 0 0 ∷ cell_of 1 0 ∷ []) ∷ (cell_of 1 0 ∷ cell_of 2 0 ∷ []) ∷ (cell_of 0 0 ∷ cell_of 1 0 ∷ cell_of 2 0 ∷ []) ∷ []

abbrev pub SplitOfThree : Type 0
SplitOfThree = IsSplit two_pairs (1 ∷ 2 ∷ 1 ∷ [])
    × (IsSplit two_pairs (2 ∷ 1 ∷ 1 ∷ []) → ⊥)
    × (IsSplit two_pairs (1 ∷ 1 ∷ 1 ∷ []) → ⊥)

-- the first words of the ChaCha20 stream under 32 bytes of 0
abbrev pub zero_words : ℕ → ℕ
zero_words k = slice_index (0xade0b876 ∷ 0x903df1a0 ∷ 0xe56a5d40 ∷ 0x28bd8653 ∷ 0xb819d2bd ∷ []) k

-- tickets of that seed over 2, 3, 6 and 2^116; over 6 candidate 0 is 6 and is passed over. And the pieces of tickets of weights 1, 2, 1, 2.
-- That candidate 0 is taken over 6, the tickets that are off by one, and that ticket 3 is of piece 1 are refused
abbrev pub TicketsOfZeros : Type 0
TicketsOfZeros =
    (ticket_of zero_words 2 ≡ Some 0) × (ticket_of zero_words 3 ≡ Some 2) × (ticket_of zero_words 6 ≡ Some 5)
    × (ticket_of zero_words (2 ^ 116) ≡ Some 0xd8653e56a5d40903df1a0ade0b876)
    × (map (piece_of (1 ∷ 2 ∷ 1 ∷ 2 ∷ [])) (range_with_len 0 6) ≡ 0 ∷ 1 ∷ 1 ∷ 2 ∷ 3 ∷ 3 ∷ [])
    × (ticket_of zero_words 6 ≡ Some 6 → ⊥) × (ticket_of zero_words 6 ≡ Some 4 → ⊥)
    × (ticket_of zero_words (2 ^ 116) ≡ Some 0xd8653e56a5d40903df1a0ade0b877 → ⊥)
    × (piece_of (1 ∷ 2 ∷ 1 ∷ 2 ∷ []) 3 ≡ 1 → ⊥)

-- one who eats so quickly that a limit of 1 is full after one of 2^116 + 1 parts of the time
abbrev pub quick_market : ℕ → Market
quick_market demand = record {
  agents = (record { demand = demand; list = 0 ∷ 1 ∷ [] }) ∷ [];
  limits = (record { ceiling = 1; cells = cell_of 0 0 ∷ [] }) ∷ [];
}

-- that table needs the denominator 2^116 + 1, and it is the first that is too fine. The table of one who is slower by 1, which needs just 2^116,
-- is refused, and so is the same table in numbers that are twice as large
abbrev pub TooFineAtOnce : Type 0
TooFineAtOnce = IsFirstTooFine (quick_market (2 ^ 116 + 1)) (2 ^ 116 + 1) 1 (1 ∷ [])
    × (IsFirstTooFine (quick_market (2 ^ 116)) (2 ^ 116) 1 (1 ∷ []) → ⊥)
    × (IsFirstTooFine (quick_market (2 ^ 116 + 1)) (2 * (2 ^ 116 + 1)) 2 (2 ∷ []) → ⊥)

-- the odds of x, y and z of the uneaten place are a random assignment. Odds that pass the ceiling of a are refused, and so is a row that
-- gives z less than it asks for
abbrev pub OddsOfThree : Type 0
OddsOfThree = IsRandomAssignment uneaten_place 6 (units_of uneaten_units)
    × (IsRandomAssignment uneaten_place 6 (units_of (units_over 6 3 3 (4 ∷ 0 ∷ 2 ∷ 3 ∷ 1 ∷ 2 ∷ 0 ∷ 4 ∷ 2 ∷ []))) → ⊥)
    × (IsRandomAssignment uneaten_place 6 (units_of (units_over 6 3 3 (3 ∷ 1 ∷ 2 ∷ 3 ∷ 1 ∷ 2 ∷ 0 ∷ 4 ∷ 1 ∷ []))) → ⊥)

-- x wants a, then b, and y wants b, then a. One unit of each
abbrev pub opposite_wishes : ProblemValue
opposite_wishes = problem_from (codes "x" ∷ codes "y" ∷ []) (codes "a" ∷ codes "b" ∷ [])
    ((0 ∷ 1 ∷ 2 ∷ []) ∷ (1 ∷ 0 ∷ 2 ∷ []) ∷ []) (1 ∷ 1 ∷ [])
    (column_set 2 0 1 ∷ column_set 2 1 1 ∷ [])

-- each gets what it wants most, over 1
abbrev pub wishes_met : ScaledValue
wishes_met = units_over 1 2 3 (1 ∷ 0 ∷ 0 ∷ 0 ∷ 1 ∷ 0 ∷ [])

-- each gets one half of each object, over 2
abbrev pub halves : ScaledValue
halves = units_over 2 2 3 (1 ∷ 1 ∷ 0 ∷ 1 ∷ 1 ∷ 0 ∷ [])

-- the first dominates the second. That the second dominates the first is refused, and so is that it dominates itself
abbrev pub OppositeWishes : Type 0
OppositeWishes = IsProblem opposite_wishes
    × Dominates opposite_wishes 1 (units_of wishes_met) 2 (units_of halves)
    × (Dominates opposite_wishes 2 (units_of halves) 1 (units_of wishes_met) → ⊥)
    × (Dominates opposite_wishes 2 (units_of halves) 2 (units_of halves) → ⊥)

-- so much of column a for agent 0
abbrev pub give_of : ℕ → ℕ → Give
give_of a count = record { agent = 0; object = a; count = count }

-- the shares 0.25, 1/3 and 2 over 12, with pieces of these weights: a and c, b and c, c alone
abbrev pub mixed_lottery : ℕ → ℕ → ℕ → LotteryValue
mixed_lottery first second third = record {
  agents = codes "x" ∷ [];
  columns = codes "a" ∷ codes "b" ∷ codes "c" ∷ [];
  shares = units_over 12 1 3 (3 ∷ 4 ∷ 24 ∷ []);
  lists = [];
  prices = None;
  pieces = piece_from first (give_of 0 1 ∷ give_of 2 2 ∷ []) ∷ piece_from second (give_of 1 1 ∷ give_of 2 2 ∷ []) ∷ piece_from third (give_of 2 2 ∷ []) ∷ [];
  design = None;
}

-- a family without sets over so many columns
abbrev pub no_sets : ℕ → FamilyValue
no_sets columns = record { agents = 1; columns = columns; sets = [] }

-- with the weights 3, 4 and 5 the lottery splits the shares. Weights of 3, 5 and 4, by which b is given too often, are refused, whatever
-- columns the family says that it has; and so are shares that aren't the given ones
abbrev pub SharesSplit : Type 0
SharesSplit = Splits mixed_shares (no_sets 3) (mixed_lottery 3 4 5)
    × (Splits mixed_shares (no_sets 3) (mixed_lottery 3 5 4) → ⊥)
    × (Splits mixed_shares (no_sets 1) (mixed_lottery 3 5 4) → ⊥)
    × (Splits (record mixed_shares { entries = (record { num = 1; den = 4 }) ∷ (record { num = 1; den = 4 }) ∷ (record { num = 2; den = 1 }) ∷ [] }) (no_sets 3) (mixed_lottery 3 4 5) → ⊥)

-- shares are read by value: 2 over 4 is one half, whose least denominator is 2. That it needs 4 is refused, and so is a matrix without its entry
abbrev pub one_half : SharesValue
one_half = record { agents = codes "x" ∷ []; objects = codes "a" ∷ []; entries = (record { num = 2; den = 4 }) ∷ [] }

abbrev pub SharesByValue : Type 0
SharesByValue = IsScaled one_half (units_over 2 1 1 (1 ∷ []))
    × (IsScaled one_half (units_over 4 1 1 (2 ∷ [])) → ⊥)
    × (IsScaled (record one_half { entries = [] }) (units_over 1 1 1 (0 ∷ [])) → ⊥)

-- a set of side 1 of an agent's columns, with these quotas
abbrev pub first_places : ℕ → List ℕ → ℕ → SetValue
first_places i columns floor = record { side = 1; floor = floor; ceiling = 1; cells = map (cell_of i) columns }

-- the sets of the first one, two and three places of x, y and z, where that of x's first place has this floor
abbrev pub first_places_of_three : ℕ → List SetValue
first_places_of_three floor = first_places 0 (0 ∷ []) floor ∷ first_places 0 (0 ∷ 1 ∷ []) 0 ∷ first_places 0 (0 ∷ 1 ∷ 2 ∷ []) 1
    ∷ first_places 1 (0 ∷ []) 0 ∷ first_places 1 (0 ∷ 1 ∷ []) 0 ∷ first_places 1 (0 ∷ 1 ∷ 2 ∷ []) 1
    ∷ first_places 2 (1 ∷ []) 0 ∷ first_places 2 (0 ∷ 1 ∷ []) 0 ∷ first_places 2 (0 ∷ 1 ∷ 2 ∷ []) 1 ∷ []

-- the guarded family of the odds of x, y and z: the family, and then for each agent the sets of its first one, two and three places. That
-- these sets come first is refused, and so is a floor of 1 for x's first place, of which it has one half
abbrev pub GuardedPlaces : Type 0
GuardedPlaces = (guarded_family uneaten_place uneaten_units ≡ record uneaten_place.family { sets = uneaten_place.family.sets ++ first_places_of_three 0 })
    × (guarded_family uneaten_place uneaten_units ≡ record uneaten_place.family { sets = first_places_of_three 0 ++ uneaten_place.family.sets } → ⊥)
    × (guarded_family uneaten_place uneaten_units ≡ record uneaten_place.family { sets = uneaten_place.family.sets ++ first_places_of_three 1 } → ⊥)

-- of the six tickets of that lottery three give a to x, none gives a to z, and four give b to z. Counts that are off by one are refused,
-- and so is that each piece is one ticket, by which two would give b to z
abbrev pub TicketsOfCells : Type 0
TicketsOfCells = (named_units uneaten_lottery.pieces (cell_of 0 0) ≡ 3)
    × (named_units uneaten_lottery.pieces (cell_of 2 0) ≡ 0)
    × (named_units uneaten_lottery.pieces (cell_of 2 1) ≡ 4)
    × (named_units uneaten_lottery.pieces (cell_of 0 0) ≡ 4 → ⊥)
    × (named_units uneaten_lottery.pieces (cell_of 2 1) ≡ 2 → ⊥)

-- a lottery with prices has a list for each agent: without its lists it is refused
abbrev pub ListsForAll : Type 0
ListsForAll = IsLottery uneaten_lottery
    × (IsLottery (record uneaten_lottery { lists = [] }) → ⊥)
