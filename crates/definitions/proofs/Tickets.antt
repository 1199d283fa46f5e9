-- The piece that a ticket names, one piece at a time.
use Rattle.std.proofs.Common.{◌≡◌, ℕ, zero, suc, ◌+◌, ◌-◌, ◌<◌, ◌≤◌, ◌∙◌, cond, List, [], ◌∷◌, take, sym, ap, subst, inl, inr, arith}
use Rattle.std.specs.Prelude.{sum}
use Rattle.std.proofs.lemmas.Bool.{cases_lt, lt-ltb, le-ltb}
use Rattle.std.proofs.lemmas.List.Sums.{sum_by-cons}
use Rattle.definitions.specs.Laws.{FallsOn}
use Rattle.definitions.specs.Tickets.{piece_of}

-- a ticket below the first weight is of the first piece
pub piece_here : (w : ℕ) (ws : List ℕ) (t : ℕ) → t < w → piece_of (w ∷ ws) t ≡ 0
unfolding piece_of
piece_here w ws t h = ap (λ b. cond b 0 (suc (piece_of ws (t - w)))) (lt-ltb t w h)

-- and another is of a later piece
pub piece_later : (w : ℕ) (ws : List ℕ) (t : ℕ) → w ≤ t → piece_of (w ∷ ws) t ≡ suc (piece_of ws (t - w))
unfolding piece_of
piece_later w ws t h = ap (λ b. cond b 0 (suc (piece_of ws (t - w)))) (le-ltb t w h)

-- falling on a later weight, with and without the first
next_front : (w : ℕ) (ws : List ℕ) (k : ℕ) → sum (take (suc k + 1) (w ∷ ws)) ≡ w + sum (take (k + 1) ws)
next_front w ws k =
    let one : suc k + 1 ≡ suc (k + 1) = omega arith in
    ap (λ n. sum (take n (w ∷ ws))) one ∙ sum_by-cons (λ (n : ℕ). n) w (take (k + 1) ws)

falls_later : (w : ℕ) (ws : List ℕ) (t k : ℕ) → w ≤ t → FallsOn ws (t - w) k → FallsOn (w ∷ ws) t (suc k)
falls_later w ws t k more h =
    let front = sum_by-cons (λ (n : ℕ). n) w (take k ws) in
    record {
      known = (let known = h.known in omega arith);
      before = (let before = h.before in omega (arith, before, front));
      with_it = (let with_it = h.with_it in omega (arith, with_it, next_front w ws k));
    }

falls_sooner : (w : ℕ) (ws : List ℕ) (t k : ℕ) → w ≤ t → FallsOn (w ∷ ws) t (suc k) → FallsOn ws (t - w) k
falls_sooner w ws t k more h =
    let front = sum_by-cons (λ (n : ℕ). n) w (take k ws) in
    record {
      known = (let known = h.known in omega arith);
      before = (let before = h.before in omega (arith, before, front));
      with_it = (let with_it = h.with_it in omega (arith, with_it, next_front w ws k));
    }

-- the ticket falls on the weight of its piece
pub piece_falls : (ws : List ℕ) (t : ℕ) → t < sum ws → FallsOn ws t (piece_of ws t)
piece_falls [] t h = absurd (omega arith)
piece_falls (w ∷ ws) t h = elim (cases_lt t w) [
  | inl less ↦ subst (FallsOn (w ∷ ws) t) (sym (piece_here w ws t less)) (record {
    known = omega arith;
    before = omega arith;
    with_it = omega (arith, less, sum_by-cons (λ (n : ℕ). n) w []);
  })
  | inr more ↦
      let whole = sum_by-cons (λ (n : ℕ). n) w ws in
      subst (FallsOn (w ∷ ws) t) (sym (piece_later w ws t more)) (falls_later w ws t (piece_of ws (t - w)) more (piece_falls ws (t - w) (omega (arith, h, whole))))
]

-- and on no other
pub falls_once : (ws : List ℕ) (t k : ℕ) → FallsOn ws t k → k ≡ piece_of ws t
falls_once [] t k h = absurd (let known = h.known in omega arith)
falls_once (w ∷ ws) t zero h =
    let first : t < w = (let with_it = h.with_it in omega (arith, with_it, sum_by-cons (λ (n : ℕ). n) w [])) in
    sym (piece_here w ws t first)
falls_once (w ∷ ws) t (suc k) h =
    let front = sum_by-cons (λ (n : ℕ). n) w (take k ws) in
    let more : w ≤ t = (let before = h.before in omega (arith, before, front)) in
    ap suc (falls_once ws (t - w) k (falls_sooner w ws t k more h)) ∙ sym (piece_later w ws t more)
