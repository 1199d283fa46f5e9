-- What always holds of a decomposition under way, how it starts and goes on, and which pieces come of it.
use Rattle.std.specs.Prelude.{◌≡◌, ℕ, ◌+◌, ◌*◌, ◌≤◌, ◌^◌, ◌⊎◌, ◌↔◌, List, length, map, sum, sum_by, take, All, None, Some, IsSome, IfSome}
use Rattle.definitions.specs.declared.Give.{Give}
use Rattle.definitions.specs.declared.Pieces.{Pieces}
use Rattle.definitions.specs.Sets.{FamilyValue, ScaledValue, IsCellWithin, NoCrossing}
use Rattle.definitions.specs.Values.{PieceValue, piece_value}
use Rattle.definitions.specs.Gives.{gives_along}
use Rattle.definitions.specs.Peelings.{PeelerValue, sets_of}
use Rattle.definitions.specs.Pieces.{Decomposes, weighted_pieces, AreGives}
use Rattle.bounded_flow.specs.Nets.{side_sets}

-- a lawful decomposition under way: sets in range with sides 1 or 2, of which no two of one side cross, within the limits; one number
-- for each cell is left, each at most 1,000 times the weight left; the weights left and given add up to at most 2^116; and where a
-- weight was given there is a piece, with one count for each cell, at most 1,000
pub record IsPeeler (v : PeelerValue) : Type 0 where
  pub agents_limit : v.agents ≤ 1000
  pub columns_limit : v.columns ≤ 201
  pub sets_limit : length v.sets ≤ 2000
  pub sides : All (λ s. (s.side ≡ 1) ⊎ (s.side ≡ 2)) v.sets
  pub apart : NoCrossing (sets_of v) (map (λ s. s.side) v.sets)
  pub inside : All (λ s. All (IsCellWithin v.agents v.columns) s.cells) v.sets
  pub rest_shape : length v.rest ≡ v.agents * v.columns
  pub rest_limit : All (λ y. y ≤ 1000 * v.left) v.rest
  pub total : sum v.rest ≤ 1000 * 2 ^ 116
  pub weights_limit : v.left + v.given ≤ 2 ^ 116
  pub shown : IsSome v.piece ↔ (1 ≤ v.given)
  pub piece : IfSome v.piece (λ m. (length m ≡ v.agents * v.columns) × All (λ n. n ≤ 1000) m)

-- the decomposition of a matrix for a family, of which nothing is given yet
pub record IsStart (f : FamilyValue) (x : ScaledValue) (v : PeelerValue) : Type 0 where
  pub agents : v.agents ≡ f.agents
  pub columns : v.columns ≡ f.columns
  pub sets : v.sets ≡ side_sets f
  pub rest : v.rest ≡ x.units
  pub left : v.left ≡ x.denominator
  pub given : v.given ≡ 0
  pub piece : v.piece ≡ None

-- the same decomposition at a later time: agents, columns and sets stay, and so does the sum of the weights left and given
pub record IsLater (old new : PeelerValue) : Type 0 where
  pub agents : new.agents ≡ old.agents
  pub columns : new.columns ≡ old.columns
  pub sets : new.sets ≡ old.sets
  pub weights : new.left + new.given ≡ old.left + old.given

-- these are the gives of the piece's cells before this place
abbrev pub AreGivesBefore : PeelerValue → ℕ → List Give → Type 0
AreGivesBefore v at gives = (m : List ℕ) → v.piece ≡ Some m → gives ≡ gives_along v.columns 0 (take at m)

-- what contracts see of a list of pieces
abbrev pub pieces_value : Pieces → List PieceValue
pieces_value ps = map piece_value ps.list.items

-- the pieces decompose what is left: their weights are at least 1 and add up to the weight left, and each gives in range, rising
-- strictly, counts from 1 to 1,000
pub record ArePiecesOf (v : PeelerValue) (pieces : List PieceValue) : Type 0 where
  pub decompose : Decomposes v.columns (sets_of v) v.rest v.left (weighted_pieces v.agents v.columns pieces)
  pub weights : All (λ p. 1 ≤ p.weight) pieces
  pub adds_up : sum_by (λ p. p.weight) pieces ≡ v.left
  pub gives : All (λ p. AreGives v.agents v.columns p.gives) pieces
