-- Tickets count pieces.
use Rattle.std.proofs.Common.{◌≡◌, ℕ, suc, zero, ◌+◌, ◌*◌, ◌-◌, ◌<◌, List, [], ◌∷◌, map, length, get_or, cond, refl, sym, ap, ◌∙◌, arith}
use Rattle.std.specs.Prelude.{sum_by, sum, count_by, slice_get, slice_index, ◌==◌}
use Rattle.std.specs.List.{range_with_len}
use Rattle.std.specs.Option.{option_map_or}
use Rattle.std.proofs.lemmas.Bool.Decides.{nat_tests}
use Rattle.std.proofs.lemmas.List.Sums.{sum_by-cons, sum-map}
use Rattle.definitions.specs.declared.Cell.{Cell}
use Rattle.definitions.specs.Sets.{cell_of, cell_index, IsCellWithin, unit_at}
use Rattle.definitions.specs.Values.{PieceValue}
use Rattle.definitions.specs.Pieces.{WeightedMatrix, Decomposes, weighted, weighted_pieces, piece_count, matrix_of}
use Rattle.definitions.specs.Tickets.{piece_of, named_units}
use Rattle.definitions.proofs.Sums.{sum_same, sum_shifted, unit_at_within}
use Rattle.definitions.proofs.Cells.{index_within}
use Rattle.definitions.proofs.Tickets.{piece_here, piece_later}
use Rattle.rounding_laws.proofs.Places.{matrix_at}

-- weight times value, over the pieces from k on
abbrev weighted_from : List ℕ → (ℕ → ℕ) → ℕ
weighted_from [] v = 0
weighted_from (w ∷ ws) v = w * v 0 + weighted_from ws (λ k. v (suc k))

range_parts : (f : ℕ → ℕ) (s a b : ℕ) → sum_by f (range_with_len s (a + b)) ≡ sum_by f (range_with_len s a) + sum_by f (range_with_len (s + a) b)
range_parts f s zero b =
    let many : 0 + b ≡ b = omega arith in
    let start : s ≡ s + 0 = omega arith in
    ap (λ n. sum_by f (range_with_len s n)) many ∙ ap (λ n. sum_by f (range_with_len n b)) start ∙ omega arith
range_parts f s (suc a) b =
    let many : suc a + b ≡ suc (a + b) = omega arith in
    let start : s + 1 + a ≡ s + suc a = omega arith in
    let later : sum_by f (range_with_len (s + 1 + a) b) ≡ sum_by f (range_with_len (s + suc a) b) = ap (λ n. sum_by f (range_with_len n b)) start in
    ap (λ n. sum_by f (range_with_len s n)) many
    ∙ omega (arith, sum_by-cons f s (range_with_len (s + 1) (a + b)), sum_by-cons f s (range_with_len (s + 1) a), range_parts f (s + 1) a b, later)

range_flat : (f : ℕ → ℕ) (v s n : ℕ) → ((t : ℕ) → t < s + n → f t ≡ v) → sum_by f (range_with_len s n) ≡ n * v
range_flat f v s zero e = omega arith
range_flat f v s (suc n) e =
    let more : suc n * v ≡ v + n * v = grind arith in
    omega (arith, sum_by-cons f s (range_with_len (s + 1) n), e s (omega arith), range_flat f v (s + 1) n (λ t h. e t (omega arith)), more)

in_later : (w : ℕ) (ws : List ℕ) (t : ℕ) → piece_of (w ∷ ws) (t + w) ≡ suc (piece_of ws t)
in_later w ws t = let e : t + w - w ≡ t = omega arith in piece_later w ws (t + w) (omega arith) ∙ ap (λ n. suc (piece_of ws n)) e

-- what tickets name adds up, piece by piece, to weight times value
tickets_sum : (ws : List ℕ) (v : ℕ → ℕ) → sum_by (λ t. v (piece_of ws t)) (range_with_len 0 (sum ws)) ≡ weighted_from ws v
tickets_sum [] v = refl
tickets_sum (w ∷ ws) v =
    let f : ℕ → ℕ = λ t. v (piece_of (w ∷ ws) t) in
    let total : sum (w ∷ ws) ≡ w + sum ws = sum_by-cons (λ (x : ℕ). x) w ws in
    let parts : sum_by f (range_with_len 0 (w + sum ws)) ≡ sum_by f (range_with_len 0 w) + sum_by f (range_with_len (0 + w) (sum ws)) = range_parts f 0 w (sum ws) in
    let first : sum_by f (range_with_len 0 w) ≡ w * v 0 = range_flat f (v 0) 0 w (λ t h. ap v (piece_here w ws t (omega arith))) in
    let later : sum_by f (range_with_len (0 + w) (sum ws)) ≡ sum_by (λ t. v (suc (piece_of ws t))) (range_with_len 0 (sum ws)) =
    sum_shifted f 0 w (sum ws) ∙ sum_same (λ t. f (t + w)) (λ t. v (suc (piece_of ws t))) (range_with_len 0 (sum ws)) (λ t. ap v (in_later w ws t)) in
    ap (λ n. sum_by f (range_with_len 0 n)) total ∙ omega (arith, parts, first, later, tickets_sum ws (λ k. v (suc k)))

never_named : (ws : List ℕ) (v : ℕ → ℕ) → ((j : ℕ) → v j ≡ 0) → weighted_from ws v ≡ 0
never_named [] v e = refl
never_named (w ∷ ws) v e =
    let none : w * v 0 ≡ w * 0 = ap (λ n. w * n) (e 0) in
    omega (arith, none, never_named ws (λ j. v (suc j)) (λ j. e (suc j)))

weighted_same : (ws : List ℕ) (u v : ℕ → ℕ) → ((j : ℕ) → u j ≡ v j) → weighted_from ws u ≡ weighted_from ws v
weighted_same [] u v e = refl
weighted_same (w ∷ ws) u v e =
    let here : w * u 0 ≡ w * v 0 = ap (λ n. w * n) (e 0) in
    omega (arith, here, weighted_same ws (λ j. u (suc j)) (λ j. v (suc j)) (λ j. e (suc j)))

first_is : cond {A = ℕ} (0 == 0) 1 0 ≡ 1
first_is = refl

first_is_not : (k : ℕ) → cond {A = ℕ} (0 == suc k) 1 0 ≡ 0
first_is_not k = grind (arith, nat_tests)

later_is_not : (j : ℕ) → cond {A = ℕ} (suc j == 0) 1 0 ≡ 0
later_is_not j = grind (arith, nat_tests)

both_later : (j k : ℕ) → cond {A = ℕ} (suc j == suc k) 1 0 ≡ cond {A = ℕ} (j == k) 1 0
both_later j k = grind (arith, nat_tests)

weight_of_one : (ws : List ℕ) (k : ℕ) → weighted_from ws (λ j. cond (j == k) 1 0) ≡ get_or ws k 0
weight_of_one [] k = refl
weight_of_one (w ∷ ws) zero =
    let here : w * cond {A = ℕ} (0 == 0) 1 0 ≡ w * 1 = ap (λ n. w * n) first_is in
    omega (arith, here, never_named ws (λ j. cond {A = ℕ} (suc j == 0) 1 0) later_is_not)
weight_of_one (w ∷ ws) (suc k) =
    let here : w * cond {A = ℕ} (0 == suc k) 1 0 ≡ w * 0 = ap (λ n. w * n) (first_is_not k) in
    omega (arith, here, weighted_same ws (λ j. cond {A = ℕ} (suc j == suc k) 1 0) (λ j. cond {A = ℕ} (j == k) 1 0) (λ j. both_later j k), weight_of_one ws k)

-- as many tickets as weight k name piece k
pub tickets_count : (ws : List ℕ) (k : ℕ) → count_by (λ t. piece_of ws t == k) (range_with_len 0 (sum ws)) ≡ slice_index ws k
tickets_count ws k = tickets_sum ws (λ j. cond (j == k) 1 0) ∙ weight_of_one ws k

-- weight times count over pieces, by index and as a list
weighted_counts : (count : PieceValue → ℕ) (ps : List PieceValue) → weighted_from (map (λ p. p.weight) ps) (λ k. option_map_or count (slice_get ps k) 0) ≡ sum_by (λ p. p.weight * count p) ps
weighted_counts count [] = refl
weighted_counts count (p ∷ ps) = omega (arith, sum_by-cons (λ (q : PieceValue). q.weight * count q) p ps, weighted_counts count ps)

-- the named units of a cell are the sum of weight times count
pub named_sum : (ps : List PieceValue) (c : Cell) → named_units ps c ≡ sum_by (λ p. p.weight * piece_count p.gives c) ps
named_sum ps c =
    let total : sum (map (λ (p : PieceValue). p.weight) ps) ≡ sum_by (λ (p : PieceValue). p.weight) ps = sum-map (λ (p : PieceValue). p.weight) ps in
    let v : ℕ → ℕ = λ k. option_map_or (λ (p : PieceValue). piece_count p.gives c) (slice_get ps k) 0 in
    ap (λ n. sum_by (λ t. v (piece_of (map (λ (p : PieceValue). p.weight) ps) t)) (range_with_len 0 n)) (sym total)
    ∙ tickets_sum (map (λ (p : PieceValue). p.weight) ps) v
    ∙ weighted_counts (λ p. piece_count p.gives c) ps

as_matrices : (agents columns i a : ℕ) (ps : List PieceValue) → i < agents → a < columns
    → sum_by (λ p. p.weight * piece_count p.gives (cell_of i a)) ps ≡ sum_by (λ (q : WeightedMatrix). q.weight * slice_index q.matrix (i * columns + a)) (weighted_pieces agents columns ps)
as_matrices agents columns i a [] h l = refl
as_matrices agents columns i a (p ∷ ps) h l =
    let same : p.weight * get_or (matrix_of agents columns p.gives) (i * columns + a) 0 ≡ p.weight * piece_count p.gives (cell_of i a) = ap (λ n. p.weight * n) (matrix_at agents columns p.gives i a h l) in
    omega (
      arith,
      same,
      as_matrices agents columns i a ps h l,
      sum_by-cons (λ (q : PieceValue). q.weight * piece_count q.gives (cell_of i a)) p ps,
      sum_by-cons (λ (q : WeightedMatrix). q.weight * slice_index q.matrix (i * columns + a)) (weighted agents columns p) (weighted_pieces agents columns ps),
    )

-- where pieces decompose x, the named units of a cell are those of x
pub named_is_unit : (agents columns d : ℕ) (sets : List (List Cell)) (x : List ℕ) (ps : List PieceValue) (c : Cell) → length x ≡ agents * columns
    → Decomposes columns sets x d (weighted_pieces agents columns ps) → IsCellWithin agents columns c → named_units ps c ≡ unit_at columns x c
named_is_unit agents columns d sets x ps c shape h within =
    named_sum ps c
    ∙ as_matrices agents columns c.agent c.object ps within.0 within.1
    ∙ h.cells (cell_index columns c) (omega (arith, shape, index_within agents columns c.agent c.object within.0 within.1))
    ∙ sym (unit_at_within columns x c within.1)
