use Rattle.std.proofs.Common.{◌≡◌, ◌+◌, ◌*◌, ◌<◌, ◌≤◌, ◌∙◌, ◌++◌, ◌∷◌, [], ℕ, List, Vec, Global, length, get_or, ap, sym, subst, inl, inr, arith, rules}
use Rattle.std.proofs.lemmas.List.{length_push}
use Rattle.bounded_flow.specs.declared.edge.Edge.{Edge}
use Rattle.bounded_flow.specs.declared.search.End.{End}
use Rattle.bounded_flow.specs.Edges.{gap_of}
use Rattle.bounded_flow.specs.Loads.{AreEnds}
use Rattle.bounded_flow.proofs.Adjacent.{ends_more, ends_same}
use Rattle.bounded_flow.proofs.Pushes.{none_or_some}
use Rattle.bounded_flow.proofs.building.ends_of.Goals.{then-is_off+in_ok-push_ends, else-is_off}
use Rattle.bounded_flow.proofs.building.ends_of.Goals as goal

-- with no more ends
stays : (edges : List Edge) (at : ℕ) (old new : List End) (d : Edge) → new ≡ old → at < length edges → gap_of (get_or edges at d) ≡ 0 → AreEnds edges at old → length old ≤ 2 * at
    → AreEnds edges (at + 1) new × (length new ≤ 2 * (at + 1))
stays edges at old new d is within even ends few =
    let many = ap length is in
    (subst (AreEnds edges (at + 1)) (sym is) (ends_same edges at old d within even ends), omega (arith, many, few))

-- with two more
grows : (edges : List Edge) (at : ℕ) (old new : List End) (d : Edge) → new ≡ (old ++ record { node = (get_or edges at d).tail; edge = at } ∷ []) ++ record { node = (get_or edges at d).head; edge = at } ∷ []
    → at < length edges → AreEnds edges at old → length old ≤ 2 * at → AreEnds edges (at + 1) new × (length new ≤ 2 * (at + 1))
grows edges at old new d is within ends few =
    let tail : End = record { node = (get_or edges at d).tail; edge = at } in
    let head : End = record { node = (get_or edges at d).head; edge = at } in
    let many = ap length is ∙ length_push (old ++ tail ∷ []) head in
    let before = length_push old tail in
    (subst (AreEnds edges (at + 1)) (sym is) (ends_more edges at old d within ends), omega (arith, many, before, few))

pub loop-index-preserved : goal.loop-index-preserved
loop-index-preserved c =
    let d : Edge = record { tail = 0; head = 0; whole = 0; under = 0; over = 0 } in
    let was = c.loop-index.invariant in
    let edges = c.args.edges.now in
    let at = c.loop-index.index in
    elim c.if-is_off.branch [
      | then-is_off+in_ok-push_ends w ↦ (
          let is = ap (λ (v : Vec End Global). v.items) w.ends-is ∙ w.in_ok-push_ends.ensures in
          let next = grows edges at c.loop-index.ends.items c.if-is_off.ends.items d is c.loop-index-test.true was.ends was.few in
          record { ends = next.0; few = next.1 })
      | else-is_off w ↦ (
          let is = ap (λ (v : Vec End Global). v.items) w.ends-is in
          let even : gap_of (get_or edges at d) ≡ 0 = elim (none_or_some (gap_of (get_or edges at d))) [
            | inl none ↦ none
            | inr some ↦ absurd (let on = c.is_off.ensures.1 some in let off = w.if-is_off.false in search rules)
          ] in
          let next = stays edges at c.loop-index.ends.items c.if-is_off.ends.items d is c.loop-index-test.true even was.ends was.few in
          record { ends = next.0; few = next.1 })
    ]
