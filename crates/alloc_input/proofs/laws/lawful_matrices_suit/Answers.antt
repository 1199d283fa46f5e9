use Rattle.alloc_input.proofs.MatrixSuits.{matrix-suits, matrix-unpriced}
use Rattle.alloc_input.proofs.laws.lawful_matrices_suit.Goals as goal

pub returns : goal.returns
returns c = λ m h. (λ bytes. matrix-suits m bytes h, matrix-unpriced m h)
