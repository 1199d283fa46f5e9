-- Lotteries that are sound for a problem, however they were made, and what is known of them.
-- Random assignment, stochastic dominance: Bogomolnaia and Moulin 2001. Rounding at every set of a bihierarchy keeps quotas:
-- Budish, Che, Kojima and Milgrom 2013. That an efficient assignment is best for a sum of utilities: McLennan 2002.
use Rattle.std.specs.Prelude.{◌≡◌, ◌≤◌, ◌<◌, ◌*◌, ◌⊎◌, ◌*ℤ◌, ◌≤ℤ◌, ◌++◌, ◌∷◌, [], ℕ, Bool, List, Some, pos, All, map, length, count_by, nat_lt, slice_get}
use Rattle.std.specs.List.{range_with_len}
use Rattle.std.specs.Option.{option_map_or}
use Rattle.definitions.specs.declared.Cell.{Cell}
use Rattle.definitions.specs.Assignment.{IsRandomAssignment, Dominates, worth_total}
use Rattle.definitions.specs.Certificate.{Certifies}
use Rattle.definitions.specs.Lotteries.{IsLottery, LotteryValue, SolvesFor, matrices_of}
use Rattle.definitions.specs.Pieces.{Decomposes, WeightedMatrix, piece_count}
use Rattle.definitions.specs.Sets.{FamilyValue, IsCellWithin, SetValue, cells_of, row_sum, set_sum, unit_at, units_of}
use Rattle.definitions.specs.Texts.{null_name}
use Rattle.definitions.specs.Tickets.{piece_of, named_units}
use Rattle.definitions.specs.Values.{PricesValue, ProblemValue, IsProblem, column_count, demand_at, limits_of}

-- the lottery is sound for the problem, with pieces for the family f: its names, lists and number of prices are the problem's;
-- its shares are a random assignment, which its prices and worths certify; and its pieces decompose them, for the sets of f
pub record IsSoundFor (f : FamilyValue) (p : ProblemValue) (l : LotteryValue) : Type 0 where
  pub problem : IsProblem p
  pub lottery : IsLottery l
  pub agents : l.agents ≡ p.agents
  pub columns : l.columns ≡ p.objects ++ null_name ∷ []
  pub lists : l.lists ≡ p.lists
  pub prices : PricesValue
  pub priced : l.prices ≡ Some prices
  pub assigned : IsRandomAssignment p l.shares.denominator (units_of l.shares)
  pub certified : Certifies p l.shares.denominator (units_of l.shares) prices
  pub pieces : Decomposes (column_count p) (cells_of f) l.shares.units l.shares.denominator (matrices_of l)

-- the lottery is sound for the problem: its pieces are for the problem's own family, the sets that are stated and the agents' rows
abbrev pub IsSound : ProblemValue → LotteryValue → Type 0
IsSound p l = IsSoundFor p.family p l

-- the family has the sets of the problem's family, and after them others
abbrev pub HasSetsOf : ProblemValue → FamilyValue → Type 0
HasSetsOf p f = (others : List SetValue) × (f.sets ≡ p.family.sets ++ others)

-- over d each agent has exactly its demand, and no limit is passed: a random assignment, but for units off the lists
pub record KeepsDemandsAndLimits (p : ProblemValue) (d : ℕ) (x : Cell → ℕ) : Type 0 where
  pub one : 1 ≤ d
  pub demands : (i : ℕ) → i < length p.agents → row_sum x (column_count p) i ≡ demand_at p i * d
  pub ceilings : All (λ s. set_sum x s.cells ≤ s.ceiling * d) (limits_of p)

-- the piece that ticket t names gives at least one of the cell
abbrev pub gives_by_ticket : LotteryValue → Cell → ℕ → Bool
gives_by_ticket l c t =
    nat_lt 0 (option_map_or (λ p. piece_count p.gives c) (slice_get l.pieces (piece_of (map (λ p. p.weight) l.pieces) t)) 0)

-- how many of the tickets below the denominator do so
abbrev pub tickets_giving : LotteryValue → Cell → ℕ
tickets_giving l c = count_by (gives_by_ticket l c) (range_with_len 0 l.shares.denominator)

-- the agent of the cell has a demand of 1, or the cell is one of an object, and not of `none`
abbrev pub IsForOneUnit : ProblemValue → Cell → Type 0
IsForOneUnit p c = (demand_at p c.agent ≡ 1) ⊎ (c.object < length p.objects)

-- how many units a piece gives of a cell
abbrev pub given_by : LotteryValue → WeightedMatrix → Cell → ℕ
given_by l piece = unit_at l.shares.columns piece.matrix

-- the lottery meets the problem. Each piece keeps the ceiling of each limit, so that a capped cell is given once at most, and gives
-- each agent exactly its demand. No random assignment over any denominator dominates the shares, not even one with units off
-- the lists, and none is worth more at these worths. The named units of each cell are its units, and as many tickets give
-- it, but for `none` where the demand is 2 or more
pub record MeetsProblem (p : ProblemValue) (prices : PricesValue) (l : LotteryValue) : Type 0 where
  pub ceilings : All (λ piece. All (λ s. set_sum (given_by l piece) s.cells ≤ s.ceiling) (limits_of p)) (matrices_of l)
  pub demands : All (λ piece. (i : ℕ) → i < length p.agents
      → row_sum (given_by l piece) l.shares.columns i ≡ demand_at p i) (matrices_of l)
  pub undominated : (e : ℕ) (other : Cell → ℕ) → KeepsDemandsAndLimits p e other
      → Dominates p e other l.shares.denominator (units_of l.shares) → ⊥
  pub worth : (e : ℕ) (other : Cell → ℕ) → IsRandomAssignment p e other
      → (pos l.shares.denominator *ℤ worth_total p prices other) ≤ℤ (pos e *ℤ worth_total p prices (units_of l.shares))
  pub named : (c : Cell) → IsCellWithin l.shares.agents l.shares.columns c
      → named_units l.pieces c ≡ units_of l.shares c
  pub tickets : (c : Cell) → IsCellWithin l.shares.agents l.shares.columns c → IsForOneUnit p c
      → tickets_giving l c ≡ units_of l.shares c

-- each sound lottery meets its problem, at its own prices, also where its pieces are for more sets
abbrev pub SoundMeetProblems : Type 0
SoundMeetProblems = (f : FamilyValue) (p : ProblemValue) (l : LotteryValue) (sound : IsSoundFor f p l) → HasSetsOf p f
    → MeetsProblem p sound.prices l

-- a lottery that solves a problem is sound for it, for the same family
abbrev pub SolutionsAreSound : Type 0
SolutionsAreSound = (f : FamilyValue) (p : ProblemValue) (l : LotteryValue) → SolvesFor f p l → IsSoundFor f p l
