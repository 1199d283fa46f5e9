-- The greatest weight is what the greatest gap leaves of the weight left.
use Rattle.std.proofs.Common.{◌≡◌, ℕ, ◌-◌, ◌<◌, ◌≤◌, ◌⊎◌, List, length, get_or, sym, ap, ◌∙◌, subst, inl, inr, arith, All}
use Rattle.std.specs.Prelude.{Any}
use Rattle.std.proofs.lemmas.List.{get_or_default}
use Rattle.definitions.specs.Rounding.{Rounds}
use Rattle.rounding_laws.specs.Remainders.{AllAllow, IsTight}
use Rattle.bounded_flow.specs.declared.edge.Edge.{Edge}
use Rattle.bounded_flow.specs.declared.net.Net.TheInside.{Inside}
use Rattle.bounded_flow.specs.Edges.{gap_of}
use Rattle.bounded_flow.specs.Nets.{NetValue, net_sets}
use Rattle.bounded_flow.specs.Webs.{held_sets}
use Rattle.bounded_flow.proofs.Shown.{shown, IsHeld}
use Rattle.bounded_flow.proofs.Webs.{all_near, all_fit, all_far, tight_at, nothing}

-- the whole matrix rounds what is left
abbrev pub IsRound : NetValue → Type 0
IsRound v = Rounds v.columns (net_sets v) v.rest v.left v.whole

-- a weight is allowed at each cell and set
abbrev pub Fits : NetValue → ℕ → Type 0
Fits v w = AllAllow v.columns (net_sets v) v.rest v.left v.whole w

-- g is the greatest gap
pub record IsGreatestGap (edges : List Edge) (g : ℕ) : Type 0 where
  pub most : All (λ e. gap_of e ≤ g) edges
  pub attained : (g ≡ 0) ⊎ Any (λ e. gap_of e ≡ g) edges

-- a gap that is attained, at a place
attained_at : (edges : List Edge) (g : ℕ) → Any (λ e. gap_of e ≡ g) edges → (j : ℕ) × (j < length edges) × (gap_of (get_or edges j nothing) ≡ g)
attained_at edges g (k, e, h, at, is) = (k, h, ap gap_of (get_or_default edges k nothing e h ∙ at) ∙ is)

-- of the net as its fields show it
module _ (n : Inside) (web : IsHeld n) (rounds : IsRound (shown n)) (one : 1 ≤ n.left) (g : ℕ) (greatest : IsGreatestGap n.edges.items g) where
  gap_low : g < n.left
  gap_low = elim greatest.attained [
    | inl none ↦ omega (arith, none, one)
    | inr some ↦ (
        let (j, h, is) = attained_at n.edges.items g some in
        let near = all_near n.agents n.columns n.left (held_sets n.sets.items) n.edges.items n.adjacency n.search web one rounds j nothing h in
        omega (arith, near, is))
  ]

  weight_fits : Fits (shown n) (n.left - g)
  weight_fits = all_fit n.agents n.columns n.left (held_sets n.sets.items) n.edges.items n.adjacency n.search web one rounds (n.left - g) (omega arith)
      (λ j d h. (let low = greatest.most j d h in let below = gap_low in omega (arith, low, below)))

  weight_tight : n.left - g < n.left → IsTight n.columns (net_sets (shown n)) (shown n).rest n.left (shown n).whole (n.left - g)
  weight_tight less = elim greatest.attained [
    | inl none ↦ absurd (omega (arith, none, less))
    | inr some ↦ (
        let (j, h, is) = attained_at n.edges.items g some in
        let below = gap_low in
        tight_at n.agents n.columns n.left (held_sets n.sets.items) n.edges.items n.adjacency n.search web (n.left - g) j h (omega (arith, is, below)))
  ]

-- of the net as contracts see it
module _ (n : Inside) (v : NetValue) (is : shown n ≡ v) (web : IsHeld n) (rounds : IsRound v) (one : 1 ≤ v.left) (g : ℕ) (greatest : IsGreatestGap n.edges.items g) where
  pub shown_round : IsRound (shown n)
  shown_round = subst IsRound (sym is) rounds

  pub shown_left : n.left ≡ v.left
  shown_left = ap (λ (u : NetValue). u.left) is

  some : 1 ≤ n.left
  some = (let e = shown_left in omega (arith, one, e))

  pub gap_below : g < n.left
  gap_below = gap_low n web shown_round some g greatest

  pub greatest_fits : Fits v (n.left - g)
  greatest_fits = subst (λ (u : NetValue). Fits u (n.left - g)) is (weight_fits n web shown_round some g greatest)

  pub greatest_tight : n.left - g < v.left → IsTight v.columns (net_sets v) v.rest v.left v.whole (n.left - g)
  greatest_tight less =
      let e = shown_left in
      subst (λ (u : NetValue). IsTight u.columns (net_sets u) u.rest u.left u.whole (n.left - g)) is (weight_tight n web shown_round some g greatest (omega (arith, less, e)))

-- where a weight fits, each gap is at most what it leaves of the weight left
pub gaps_allowed : (n : Inside) (v : NetValue) (w : ℕ) → shown n ≡ v → IsHeld n → IsRound v → 1 ≤ v.left → w ≤ v.left → Fits v w → All (λ e. gap_of e ≤ n.left - w) n.edges.items
gaps_allowed n v w is web rounds one most fits =
    let e = ap (λ (u : NetValue). u.left) is in
    all_far n.agents n.columns n.left (held_sets n.sets.items) n.edges.items n.adjacency n.search web (omega (arith, one, e)) (subst IsRound (sym is) rounds) w (omega (arith, most, e)) (subst (λ (u : NetValue). Fits u w) (sym is) fits)
