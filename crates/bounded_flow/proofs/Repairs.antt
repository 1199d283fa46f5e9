-- One repair: the way is always found, and the flow stays a flow.
use Rattle.std.proofs.Common.{◌≡◌, ℕ, ◌*◌, ◌<◌, ◌≤◌, ◌⊎◌, Bool, true, false, ltb, List, length, map, get_or, ap, sym, ◌∙◌, subst, inl, inr, arith, All}
use Rattle.std.proofs.Math.ListN.{set}
use Rattle.std.proofs.lemmas.Bool.{cases_eq, cases_lt, lt-ltb, le-ltb, ltb-true}
use Rattle.std.proofs.lemmas.List.{get_or-set_other, get_or_default}
use Rattle.std.proofs.lemmas.List.Elements.{All-set}
use Rattle.bounded_flow.specs.declared.edge.Edge.{Edge}
use Rattle.bounded_flow.specs.declared.search.Search.{Search}
use Rattle.bounded_flow.specs.Edges.{rest_of, gap_of, enters, leaves, wire, IsSound, Pushed}
use Rattle.bounded_flow.specs.Flows.{Owes, IsFlow, IsWalk, IsRepair}
use Rattle.bounded_flow.specs.Searches.{Reached, IsExplored}
use Rattle.bounded_flow.proofs.Balances.{wires_many, inside_same, balanced_same, owes_nothing}
use Rattle.bounded_flow.proofs.Cuts.{Closed, Comes, closed_cut}
use Rattle.bounded_flow.proofs.Pushes.{none_or_some, ends_of_short, ends_of_long, owes_push, wires_push, rests_push}

-- an edge is short where its remainder is above the weight left times its whole units, and long where it is below
pub short_rest : (left : ℕ) (e : Edge) → IsSound left e → 0 < e.under → left * e.whole < rest_of left e
short_rest left e sound short = elim sound.one_side [
  | inl none ↦ absurd (omega arith)
  | inr none ↦ omega arith
]

pub long_rest : (left : ℕ) (e : Edge) → IsSound left e → 0 < e.over → rest_of left e < left * e.whole
long_rest left e sound long = elim sound.one_side [
  | inl none ↦ omega (arith, none, sound.over_whole)
  | inr none ↦ absurd (omega arith)
]

rest_short : (left : ℕ) (e : Edge) → left * e.whole < rest_of left e → 0 < e.under
rest_short left e h = omega arith

rest_long : (left : ℕ) (e : Edge) → IsSound left e → rest_of left e < left * e.whole → (0 < e.over) × (e.under ≡ 0)
rest_long left e sound h = elim sound.one_side [
  | inl none ↦ (omega arith, none)
  | inr none ↦ absurd (omega arith)
]

module _ (edges : List Edge) (left n : ℕ) (s : Search) (flow : IsFlow left n edges) (explored : IsExplored edges s s.seen) where
  -- whether a node was seen
  seen : ℕ → Bool
  seen v = ltb (get_or s.place.items v 0) s.seen

  followed : (k : ℕ) (d : Edge) (u v : ℕ) → k < length edges → 0 < gap_of (get_or edges k d) → leaves (get_or edges k d) ≡ u → enters (get_or edges k d) ≡ v → seen u ≡ true → seen v ≡ true
  unfolding seen
  followed k d u v h off from to h_seen =
      let was : get_or s.place.items u 0 < s.seen = ltb-true (get_or s.place.items u 0) s.seen h_seen in
      let next = explored k d h off (subst (λ (t : ℕ). get_or s.place.items t 0 < s.seen) (sym from) was) in
      lt-ltb (get_or s.place.items v 0) s.seen (subst (λ (t : ℕ). get_or s.place.items t 0 < s.seen) to next)

  all_closed : All (Closed left seen) edges
  all_closed k d h =
      let e = get_or edges k d in
      let sound = flow.sound k d h in
      record {
        short = λ more. (
            let short = rest_short left e more in
            let ends = ends_of_short e short in
            followed k d e.tail e.head h (omega arith) ends.1 ends.0);
        long = λ fewer. (
            let long = rest_long left e sound fewer in
            let ends = ends_of_long e long.1 in
            followed k d e.head e.tail h (omega (arith, long.0)) ends.1 ends.0);
      }

  comes : (e : Edge) → IsSound left e → 0 < gap_of e → seen (enters e) ≡ true → seen (leaves e) ≡ false → Comes (seen e.tail) (seen e.head) (rest_of left e) (left * e.whole)
  comes e sound off into_seen from_new = elim (none_or_some e.under) [
    | inr short ↦ (
        let ends = ends_of_short e short in
        inl (short_rest left e sound short, subst (λ (t : ℕ). seen t ≡ true) ends.0 into_seen, subst (λ (t : ℕ). seen t ≡ false) ends.1 from_new))
    | inl none ↦ (
        let ends = ends_of_long e none in
        inr (long_rest left e sound (omega arith), subst (λ (t : ℕ). seen t ≡ true) ends.0 into_seen, subst (λ (t : ℕ). seen t ≡ false) ends.1 from_new))
  ]

  -- where all that can be reached from where an edge that is off leads to was seen, so was where it comes from
  pub on_a_ring : (k : ℕ) (d : Edge) → k < length edges → 0 < gap_of (get_or edges k d) → get_or s.place.items (enters (get_or edges k d)) 0 < s.seen → get_or s.place.items (leaves (get_or edges k d)) 0 < s.seen
  unfolding seen
  on_a_ring k d h off entered =
      let e = get_or edges k d in
      elim (cases_lt (get_or s.place.items (leaves e) 0) s.seen) [
        | inl less ↦ less
        | inr new ↦ absurd (closed_cut left n seen edges flow.inside flow.whole flow.rests all_closed k d h
            (comes e (flow.sound k d h) off (lt-ltb (get_or s.place.items (enters e) 0) s.seen entered) (le-ltb (get_or s.place.items (leaves e) 0) s.seen new)))
      ]

-- the way is found
pub found : (edges : List Edge) (left n k : ℕ) (d : Edge) (s : Search) → IsFlow left n edges → Reached edges n s → k < length edges → 0 < gap_of (get_or edges k d) → enters (get_or edges k d) < n → get_or s.place.items (enters (get_or edges k d)) 0 ≡ 0
    → (get_or s.place.items (leaves (get_or edges k d)) 0 < s.seen) ⊎ IsExplored edges s s.seen → get_or s.place.items (leaves (get_or edges k d)) 0 < s.seen
found edges left n k d s flow reached h off inside first (inl seen) = seen
found edges left n k d s flow reached h off inside first (inr explored) =
    let some : 0 < s.seen = elim (reached.marked.marked (enters (get_or edges k d)) inside) [
      | inl at ↦ omega (arith, at.0, first)
      | inr e ↦ absurd (omega (arith, e, first, inside))
    ] in
    on_a_ring edges left n s flow explored k d h off (omega (arith, first, some))

-- the walk and the last push together are a repair
pub repaired : (left n k from to : ℕ) (old mid : List Edge) (d e' : Edge) → IsFlow left n old → IsWalk left n to from old mid → k < length old → 1 ≤ left → left ≤ gap_of (get_or old k d) → enters (get_or old k d) ≡ from → leaves (get_or old k d) ≡ to
    → IsSound left e' → Pushed left (get_or mid k d) e' → IsFlow left n (set mid k e') × IsRepair left old (set mid k e')
repaired left n k from to old mid d e' flow walk known one far is_from is_to sounds pushed =
    let many : length mid ≡ length old = wires_many mid old walk.wires in
    let within : k < length mid = omega (arith, many, known) in
    let off : 0 < gap_of (get_or old k d) = omega (arith, far, one) in
    let same : get_or mid k d ≡ get_or old k d = walk.untouched k d known off is_from in
    let wires : map wire (set mid k e') ≡ map wire old = wires_push left mid k d e' pushed ∙ walk.wires in
    let rests : map (rest_of left) (set mid k e') ≡ map (rest_of left) old = rests_push left mid k d e' (walk.sound k d within) sounds pushed ∙ walk.rests in
    let gap_is : gap_of (get_or mid k d) ≡ gap_of (get_or old k d) = ap gap_of same in
    let owes = owes_push left mid n to k d e' within pushed (omega (arith, gap_is, off)) (subst (λ (t : ℕ). Owes (λ e. e.whole) mid n to t 1) (sym (ap enters same ∙ is_from)) walk.owes) in
    let paid = subst (λ (t : ℕ). Owes (λ e. e.whole) (set mid k e') n to t 1) (ap leaves same ∙ is_to) owes in (
      record {
        inside = inside_same n (set mid k e') old wires flow.inside;
        sound = All-set (IsSound left) mid k e' sounds walk.sound;
        whole = owes_nothing (λ e. e.whole) (set mid k e') n to 1 paid;
        rests = balanced_same (rest_of left) n (set mid k e') old wires rests flow.rests;
      },
      record {
        wires = wires;
        rests = rests;
        calm = λ b f inside low. elim (cases_eq b k) [
          | inl here ↦ (
              let e : gap_of (get_or old b f) ≡ gap_of (get_or old k d) = ap (λ j. gap_of (get_or old j f)) here ∙ ap gap_of (get_or_default old k f d known) in
              absurd (omega (arith, e, low, far)))
          | inr other ↦ (
              let e : gap_of (get_or (set mid k e') b f) ≡ gap_of (get_or mid b f) = ap gap_of (get_or-set_other mid k b e' f other) in
              elim (walk.once b f inside) [
                | inl stays ↦ (let g = ap gap_of stays in omega (arith, e, g, low))
                | inr push ↦ omega (arith, e, push.1.calm low)
              ])
        ];
        even = λ b f inside none. elim (cases_eq b k) [
          | inl here ↦ (
              let e : gap_of (get_or old b f) ≡ gap_of (get_or old k d) = ap (λ j. gap_of (get_or old j f)) here ∙ ap gap_of (get_or_default old k f d known) in
              absurd (omega (arith, e, none, off)))
          | inr other ↦ (
              let e : gap_of (get_or (set mid k e') b f) ≡ gap_of (get_or mid b f) = ap gap_of (get_or-set_other mid k b e' f other) in
              elim (walk.once b f inside) [
                | inl stays ↦ e ∙ ap gap_of stays ∙ none
                | inr push ↦ (let some = push.0 in absurd (omega (arith, some, none)))
              ])
        ];
      },
    )
