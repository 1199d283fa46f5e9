-- What a net shows once a weight is taken off.
use Rattle.std.proofs.Common.{◌≡◌, ℕ, ◌+◌, ◌-◌, ◌*◌, ◌<◌, ◌≤◌, length, get_or, sym, ap, ◌∙◌, subst, arith, All}
use Rattle.bounded_flow.specs.declared.net.Net.TheInside.{Inside}
use Rattle.bounded_flow.specs.Edges.{rest_of, gap_of}
use Rattle.bounded_flow.specs.Nets.{NetValue, IsNet}
use Rattle.bounded_flow.specs.Webs.{IsWeb, held_sets}
use Rattle.bounded_flow.proofs.Kept.{web_taken, cell_taken}
use Rattle.bounded_flow.proofs.Shown.{shown, IsHeld}
use Rattle.bounded_flow.proofs.Webs.{cell_values, values_many, net_lawful}
use Rattle.bounded_flow.proofs.Weights.{IsRound, Fits, gaps_allowed}

-- a weight that may be taken off
pub record IsTakeable (v : NetValue) (w : ℕ) : Type 0 where
  pub rounds : IsRound v
  pub one : 1 ≤ w
  pub most : w ≤ v.left
  pub fits : Fits v w

module _ (n : Inside) (v : NetValue) (w : ℕ) (is : shown n ≡ v) (web : IsHeld n) (takeable : IsTakeable v w) where
  left_is : n.left ≡ v.left
  left_is = ap (λ (u : NetValue). u.left) is

  split : w + (n.left - w) ≡ n.left
  split = (let e = left_is in let most = takeable.most in omega (arith, e, most))

  near : All (λ e. gap_of e ≤ n.left - w) n.edges.items
  near = (let one = takeable.one in let most = takeable.most in gaps_allowed n v w is web takeable.rounds (omega (arith, one, most)) takeable.most takeable.fits)

  -- the fields stay in order
  pub taken_held : IsWeb n.agents n.columns (n.left - w) (held_sets n.sets.items) n.edges.items n.adjacency n.search
  taken_held = web_taken n.agents n.columns n.left (held_sets n.sets.items) n.edges.items n.adjacency n.search web w (n.left - w) split near

  pub taken_lawful : IsNet (record (shown n) { rest = cell_values (rest_of (n.left - w)) (n.agents * n.columns) n.edges.items; left = n.left - w })
  taken_lawful = net_lawful n.agents n.columns (n.left - w) (held_sets n.sets.items) n.edges.items n.adjacency n.search taken_held

  -- each cell is lessened
  pub taken_rest : (i : ℕ) → i < length v.rest → get_or (cell_values (rest_of (n.left - w)) (n.agents * n.columns) n.edges.items) i 0 + w * get_or v.whole i 0 ≡ get_or v.rest i 0
  taken_rest i h =
      let m = web.many in
      let many : length v.rest ≡ n.agents * n.columns = ap (λ (u : NetValue). length u.rest) (sym is) ∙ values_many (rest_of n.left) (n.agents * n.columns) n.edges.items (omega (arith, m)) in
      subst (λ (u : NetValue). get_or (cell_values (rest_of (n.left - w)) (n.agents * n.columns) n.edges.items) i 0 + w * get_or u.whole i 0 ≡ get_or u.rest i 0) is
      (cell_taken n.agents n.columns n.left (held_sets n.sets.items) n.edges.items n.adjacency n.search web w (n.left - w) split near i (omega (arith, h, many)))
