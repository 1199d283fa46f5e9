-- A part grows by levels until nothing is left to mark.
use Rattle.std.proofs.Common.{◌≡◌, ℕ, ◌+◌, ◌<◌, ◌≤◌, ◌⊎◌, ◌∙◌, List, Option, None, Some, length, set, replicate, sym, ap, subst, inl, inr, arith}
use Rattle.std.proofs.Math.ListN.{length-set}
use Rattle.std.proofs.lemmas.Bool.{cases_eq, cases_lt}
use Rattle.std.proofs.lemmas.List.{get_or-replicate, get_or_past, length-replicate}
use Rattle.side_finder.specs.declared.forest.Mark.{Mark}
use Rattle.side_finder.specs.Graphs.{GraphValue, IsCrossingGraph, Joined}
use Rattle.side_finder.specs.Marks.{AreAllMarked, AreGrowing, AreReached, AreSearched, IsClosed, IsDone, IsStep, Marked, depth_at, depth_of, is_mark, mark_at, reached_mark, start_at, start_of}
use Rattle.side_finder.proofs.Marking.{StepBy, depth_kept, mark_here, mark_kept, mark_there, marked_kept, marked_within, next_kept, not_both, start_kept, step_kept}

-- a set that is at no such place is passed
pub growing_skipped : (g : GraphValue) (start depth up deepest : ℕ) (marks : List (Option Mark))
    → (Marked marks up → start_at marks up ≡ start → depth_at marks up ≡ depth → ⊥)
    → AreGrowing g start depth up deepest marks → AreGrowing g start depth (up + 1) deepest marks
growing_skipped g start depth up deepest marks never h = record {
  lawful = h.lawful;
  within = h.within;
  closed = λ v k done. h.closed v k (earlier v k done);
  before = h.before;
  first = h.first;
}
  where
    earlier : (v : ℕ) → Marked marks v → IsDone marks start depth (up + 1) v → IsDone marks start depth up v
    earlier v k (inl less) = inl less
    earlier v k (inr (same, inl less)) = inr (same, inl less)
    earlier v k (inr (same, inr (level, below))) = elim (cases_lt v up) [
      | inl less ↦ inr (same, inr (level, less))
      | inr from ↦
          let e : v ≡ up = omega (arith, below, from) in
          absurd (never (subst (λ (x : ℕ). Marked marks x) e k) (sym (ap (start_at marks) e) ∙ same) (sym (ap (depth_at marks) e) ∙ level))
    ]

-- what crosses the next set of the level is reached
module _ (g : GraphValue) (graph : IsCrossingGraph g) (start depth up : ℕ) (m : Mark) (old marks : List (Option Mark)) (known : up < g.size)
    (is : mark_at old up ≡ Some m) (of : m.start ≡ start) (at : m.depth ≡ depth) (h : AreGrowing g start depth up (depth + 1) old)
    (r : AreReached g up m g.size old marks) where
  here : Marked old up
  here = ap is_mark is

  start_here : start_at marks up ≡ start
  start_here = ap start_of (r.kept up here ∙ is) ∙ of

  depth_here : depth_at marks up ≡ depth
  depth_here = ap depth_of (r.kept up here ∙ is) ∙ at

  abbrev New : ℕ → Type 0
  New v = Joined g up v × (mark_at marks v ≡ Some (reached_mark up m))

  new_start : (v : ℕ) → New v → start_at marks v ≡ start
  new_start v n = ap start_of n.1 ∙ of

  new_depth : (v : ℕ) → New v → depth_at marks v ≡ depth + 1
  new_depth v n = ap depth_of n.1 ∙ ap (λ (d : ℕ). d + 1) at

  step : (v : ℕ) → Marked marks v → IsStep g marks v
  step v k = elim (r.fresh v k) [
    | inl before ↦ step_kept g old marks r.kept v before (h.lawful.step v before)
    | inr n ↦ subst (λ (o : Option Mark). StepBy g marks o v) (sym n.1)
        (inr (marked_kept g old marks r.kept up here, n.0, ap (λ (d : ℕ). d + 1) (at ∙ sym depth_here), start_here ∙ sym of))
  ]

  low_old : (v : ℕ) → Marked old v → start_at marks v ≤ v
  low_old v before = (let low = h.lawful.low v before in let same = start_kept g old marks r.kept v before in omega (arith, low, same))

  low : (v : ℕ) → Marked marks v → start_at marks v ≤ v
  low v k = elim (r.fresh v k) [
    | inl before ↦ low_old v before
    | inr n ↦ elim (cases_lt v start) [
      | inl less ↦ low_old v (h.before v less)
      | inr from ↦ (let e = new_start v n in omega (arith, e, from))
    ]
  ]

  within : (v : ℕ) → Marked marks v → (start_at marks v < start) ⊎ ((start_at marks v ≡ start) × (depth_at marks v ≤ depth + 1))
  within v k = elim (r.fresh v k) [
    | inl before ↦ elim (h.within v before) [
      | inl less ↦ inl (let same = start_kept g old marks r.kept v before in omega (arith, less, same))
      | inr part ↦ inr (start_kept g old marks r.kept v before ∙ part.0, (let same = depth_kept g old marks r.kept v before in omega (arith, same, part.1)))
    ]
    | inr n ↦ inr (new_start v n, (let deep = new_depth v n in omega (arith, deep)))
  ]

  closed_here : IsClosed g marks up
  closed_here w l j =
      let k = r.reached w l j in
      elim (within w k) [
        | inl less ↦ absurd (elim (r.fresh w k) [
          | inl before ↦
              let same = start_kept g old marks r.kept w before in
              let back = h.closed w before (inl (omega (arith, less, same))) up known (graph.turned up w known l j) in
              let part : start_at old up ≡ start = ap start_of is ∙ of in
              let next = back.1 in
              omega (arith, less, same, part, next)
          | inr n ↦ (let e = new_start w n in omega (arith, less, e))
        ])
        | inr part ↦ (k, part.0 ∙ sym start_here, (let level = depth_here in omega (arith, level, part.1)))
      ]

  closed_old : (v : ℕ) → Marked old v → IsDone old start depth up v → IsClosed g marks v
  closed_old v before done w l j = next_kept g old marks r.kept v w before (h.closed v before done w l j)

  closed : (v : ℕ) → Marked marks v → IsDone marks start depth (up + 1) v → IsClosed g marks v
  closed v k done = elim (r.fresh v k) [
    | inl before ↦ by_old before done
    | inr n ↦ absurd (too_deep n done)
  ]
    where
      too_deep : New v → IsDone marks start depth (up + 1) v → ⊥
      too_deep n (inl less) = (let e = new_start v n in omega (arith, less, e))
      too_deep n (inr (same, inl less)) = (let e = new_depth v n in omega (arith, less, e))
      too_deep n (inr (same, inr (level, below))) = (let e = new_depth v n in omega (arith, level, e))

      by_old : Marked old v → IsDone marks start depth (up + 1) v → IsClosed g marks v
      by_old before (inl less) = closed_old v before (inl (let same = start_kept g old marks r.kept v before in omega (arith, less, same)))
      by_old before (inr (same, inl less)) =
          closed_old v before (inr (sym (start_kept g old marks r.kept v before) ∙ same, inl (let e = depth_kept g old marks r.kept v before in omega (arith, less, e))))
      by_old before (inr (same, inr (level, below))) = elim (cases_lt v up) [
        | inl less ↦ closed_old v before (inr (sym (start_kept g old marks r.kept v before) ∙ same, inr (sym (depth_kept g old marks r.kept v before) ∙ level, less)))
        | inr from ↦ (let e : v ≡ up = omega (arith, below, from) in subst (λ (x : ℕ). IsClosed g marks x) (sym e) closed_here)
      ]

  pub growing_reached : AreGrowing g start depth (up + 1) (depth + 1) marks
  growing_reached = record {
    lawful = record { many = r.many ∙ h.lawful.many; step = step; low = low };
    within = within;
    closed = closed;
    before = λ v l. marked_kept g old marks r.kept v (h.before v l);
    first = marked_kept g old marks r.kept start h.first;
  }

-- a part begins with the least set that has no mark
module _ (g : GraphValue) (start : ℕ) (old : List (Option Mark)) (l : start < g.size) (free : mark_at old start ≡ None) (h : AreSearched g start old) where
  abbrev pub first_mark : Mark
  first_mark = record { up = start; depth = 0; start = start }

  abbrev first_marks : List (Option Mark)
  first_marks = set old start (Some first_mark)

  inside : start < length old
  inside = omega (arith, l, h.lawful.many)

  first_kept : (v : ℕ) → Marked old v → mark_at first_marks v ≡ mark_at old v
  first_kept = mark_kept old start first_mark inside free

  first_here : mark_at first_marks start ≡ Some first_mark
  first_here = mark_here old start first_mark inside free

  first_or : (v : ℕ) → Marked first_marks v → (v ≡ start) ⊎ Marked old v
  first_or v k = elim (cases_eq v start) [
    | inl e ↦ inl e
    | inr other ↦ inr (sym (ap is_mark (mark_there old start first_mark inside free v other)) ∙ k)
  ]

  pub growing_begins : AreGrowing g start 0 0 0 first_marks
  growing_begins = record {
    lawful = record {
      many = length-set old start (Some first_mark) ∙ h.lawful.many;
      step = λ v k. elim (first_or v k) [
        | inl e ↦ subst (λ (x : ℕ). IsStep g first_marks x) (sym e) (inl (ap depth_of first_here, ap start_of first_here))
        | inr before ↦ step_kept g old first_marks first_kept v before (h.lawful.step v before)
      ];
      low = λ v k. elim (first_or v k) [
        | inl e ↦ (let same : start_at first_marks v ≡ start = ap (start_at first_marks) e ∙ ap start_of first_here in omega (arith, same, e))
        | inr before ↦ (let same = start_kept g old first_marks first_kept v before in let low = h.lawful.low v before in omega (arith, same, low))
      ];
    };
    within = λ v k. elim (first_or v k) [
      | inl e ↦ inr (ap (start_at first_marks) e ∙ ap start_of first_here, (let none : depth_at first_marks v ≡ 0 = ap (depth_at first_marks) e ∙ ap depth_of first_here in omega (arith, none)))
      | inr before ↦ inl (let same = start_kept g old first_marks first_kept v before in let less = h.begun v before in omega (arith, same, less))
    ];
    closed = λ v k done. elim (first_or v k) [
      | inl e ↦ absurd (not_done v e done)
      | inr before ↦ λ w below j. next_kept g old first_marks first_kept v w before (h.closed v before w below j)
    ];
    before = λ v less. marked_kept g old first_marks first_kept v (h.before v less);
    first = ap is_mark first_here;
  }
    where
      not_done : (v : ℕ) → v ≡ start → IsDone first_marks start 0 0 v → ⊥
      not_done v e (inl less) = (let same : start_at first_marks v ≡ start = ap (start_at first_marks) e ∙ ap start_of first_here in omega (arith, same, less))
      not_done v e (inr (same, inl less)) = omega (arith, less)
      not_done v e (inr (same, inr (level, below))) = omega (arith, below)

-- the bound is one more
pub growing_looser : (g : GraphValue) (start depth : ℕ) (marks : List (Option Mark)) → AreGrowing g start depth 0 depth marks → AreGrowing g start depth 0 (depth + 1) marks
growing_looser g start depth marks h = record {
  lawful = h.lawful;
  within = λ v k. elim (h.within v k) [
    | inl less ↦ inl less
    | inr part ↦ inr (part.0, omega (arith, part.1))
  ];
  closed = h.closed;
  before = h.before;
  first = h.first;
}

marked_few : (g : GraphValue) (marks : List (Option Mark)) (v : ℕ) → length marks ≡ g.size → Marked marks v → v < g.size
marked_few g marks v many k = (let l = marked_within marks v k in omega (arith, l, many))

-- the whole level is done
pub growing_next : (g : GraphValue) (start depth : ℕ) (marks : List (Option Mark)) → AreGrowing g start depth g.size (depth + 1) marks → AreGrowing g start (depth + 1) 0 (depth + 1) marks
growing_next g start depth marks h = record {
  lawful = h.lawful;
  within = h.within;
  closed = λ v k done. h.closed v k (earlier v k done);
  before = h.before;
  first = h.first;
}
  where
    earlier : (v : ℕ) → Marked marks v → IsDone marks start (depth + 1) 0 v → IsDone marks start depth g.size v
    earlier v k (inl less) = inl less
    earlier v k (inr (same, inl less)) = elim (cases_lt (depth_at marks v) depth) [
      | inl lower ↦ inr (same, inl lower)
      | inr from ↦ inr (same, inr (omega (arith, less, from), marked_few g marks v h.lawful.many k))
    ]
    earlier v k (inr (same, inr (level, below))) = absurd (omega (arith, below))

-- nothing was marked, so the part is searched
pub growing_ends : (g : GraphValue) (start depth : ℕ) (marks : List (Option Mark)) → AreGrowing g start depth 0 depth marks → AreGrowing g start depth g.size (depth + 1) marks
    → AreSearched g (start + 1) marks
growing_ends g start depth marks bound h = record {
  lawful = h.lawful;
  begun = λ v k. elim (bound.within v k) [
    | inl less ↦ omega (arith, less)
    | inr part ↦ (let same = part.0 in omega (arith, same))
  ];
  closed = λ v k. h.closed v k (elim (bound.within v k) [
    | inl less ↦ inl less
    | inr part ↦ elim (cases_lt (depth_at marks v) depth) [
      | inl lower ↦ inr (part.0, inl lower)
      | inr from ↦ inr (part.0, inr (omega (arith, from, part.1), marked_few g marks v h.lawful.many k))
    ]
  ]);
  before = λ v l. elim (cases_lt v start) [
    | inl less ↦ h.before v less
    | inr from ↦ (let e : v ≡ start = omega (arith, l, from) in subst (λ (x : ℕ). Marked marks x) (sym e) h.first)
  ];
}

abbrev no_mark : Option Mark
no_mark = None

-- at first no set has a mark
pub searched_none : (g : GraphValue) (marks : List (Option Mark)) → marks ≡ replicate g.size None → AreSearched g 0 marks
searched_none g marks e = record {
  lawful = record {
    many = ap (λ (x : List (Option Mark)). length x) e ∙ length-replicate g.size None;
    step = λ v k. absurd (never v k);
    low = λ v k. absurd (never v k);
  };
  begun = λ v k. absurd (never v k);
  closed = λ v k. absurd (never v k);
  before = λ v l. absurd (omega (arith, l));
}
  where
    none : (v : ℕ) → mark_at (replicate g.size None) v ≡ None
    none v = elim (cases_lt v g.size) [
      | inl l ↦ get_or-replicate g.size v None None l
      | inr past ↦ get_or_past (replicate g.size None) v None (let size = length-replicate g.size no_mark in omega (arith, past, size))
    ]

    never : (v : ℕ) → Marked marks v → ⊥
    never v k = not_both marks v (ap (λ (x : List (Option Mark)). mark_at x v) e ∙ none v) k

-- a set that has a mark is passed
pub searched_past : (g : GraphValue) (start : ℕ) (marks : List (Option Mark)) → Marked marks start → AreSearched g start marks → AreSearched g (start + 1) marks
searched_past g start marks k h = record {
  lawful = h.lawful;
  begun = λ v m. (let l = h.begun v m in omega (arith, l));
  closed = h.closed;
  before = λ v l. elim (cases_lt v start) [
    | inl less ↦ h.before v less
    | inr from ↦ (let e : v ≡ start = omega (arith, l, from) in subst (λ (x : ℕ). Marked marks x) (sym e) k)
  ];
}

-- at the end each set has one
pub searched_all : (g : GraphValue) (n : ℕ) (marks : List (Option Mark)) → g.size ≤ n → AreSearched g n marks → AreAllMarked g marks
searched_all g n marks all h = record {
  lawful = h.lawful;
  marked = λ v l. h.before v (omega (arith, l, all));
  closed = λ v l. h.closed v (h.before v (omega (arith, l, all)));
}
