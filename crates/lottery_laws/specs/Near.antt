-- What is known of a sound lottery whose pieces are for the guarded family: any two pieces are worth nearly as much to each agent.
-- The utility guard: Budish, Che, Kojima and Milgrom 2013.
use Rattle.std.specs.Prelude.{◌≡◌, ◌<◌, ◌≤ℤ◌, ◌+ℤ◌, ℕ, ℤ, List, Some, length, slice_get}
use Rattle.certificate_laws.specs.Guarded.{fall, places_sum}
use Rattle.definitions.specs.Fairness.{guarded_family}
use Rattle.definitions.specs.Lotteries.{LotteryValue}
use Rattle.definitions.specs.Pieces.{piece_count}
use Rattle.definitions.specs.Values.{PieceValue, PricesValue, ProblemValue, worths_of}
use Rattle.lottery_laws.specs.Sound.{IsSoundFor}

-- what a piece gives an agent is worth: the sum of worth times count over the places of its list
abbrev pub worth_given : ProblemValue → PricesValue → ℕ → PieceValue → ℤ
worth_given p y i piece = places_sum p i (worths_of y i) (piece_count piece.gives)

-- what any two of the pieces give an agent differs in worth by at most the first less the last worth of its list (one way here;
-- the two may be exchanged)
abbrev pub WorthsAreNear : ProblemValue → PricesValue → List PieceValue → Type 0
WorthsAreNear p y pieces = (i j k : ℕ) (one other : PieceValue) → i < length p.agents
    → slice_get pieces j ≡ Some one → slice_get pieces k ≡ Some other
    → worth_given p y i one ≤ℤ (worth_given p y i other +ℤ fall (worths_of y i))

-- a lottery that is sound for a problem, with pieces for the guarded family of its shares
abbrev pub IsSoundGuarded : ProblemValue → LotteryValue → Type 0
IsSoundGuarded p l = IsSoundFor (guarded_family p l.shares) p l

-- the pieces of such a lottery are near at its own worths
abbrev pub GuardedAreNear : Type 0
GuardedAreNear = (p : ProblemValue) (l : LotteryValue) (sound : IsSoundGuarded p l) → WorthsAreNear p sound.prices l.pieces
