-- Marks that are kept and marks that are new: one step of the search.
use Rattle.std.proofs.Common.{◌≡◌, ◌≢◌, ℕ, ◌+◌, ◌<◌, ◌⊎◌, ◌∙◌, List, Option, None, Some, Bool, true, false, ◌||◌, cond, length, set, refl, sym, ap, subst, inl, inr, arith, get_or-set_other, get_or-set_same}
use Rattle.std.specs.Prelude.{is_some}
use Rattle.std.proofs.Math.ListN.{length-set}
use Rattle.std.proofs.lemmas.Bool.{both_ways, cases_eq, cases_lt}
use Rattle.std.proofs.lemmas.List.{get_or_past}
use Rattle.std.proofs.lemmas.List.Sums.{sum_by-set}
use Rattle.side_finder.specs.declared.forest.Mark.{Mark}
use Rattle.side_finder.specs.Graphs.{GraphValue, Joined}
use Rattle.side_finder.specs.Marks.{AreReached, IsCounted, IsNextTo, IsStep, IsTried, Marked, depth_at, depth_of, free_in, is_free, is_mark, mark_at, reached_mark, start_at, start_of, up_of}

-- a marked set is in the list
pub marked_within : (marks : List (Option Mark)) (v : ℕ) → Marked marks v → v < length marks
marked_within marks v m = elim (cases_lt v (length marks)) [
  | inl within ↦ within
  | inr past ↦ absurd (both_ways (is_mark (mark_at marks v)) (ap is_mark (get_or_past marks v None past)) m)
]

-- a mark is there or not
pub free_or_marked : (o : Option Mark) → (o ≡ None) ⊎ (is_mark o ≡ true)
free_or_marked None = inl refl
free_or_marked (Some m) = inr refl

pub not_both : (marks : List (Option Mark)) (v : ℕ) → mark_at marks v ≡ None → Marked marks v → ⊥
not_both marks v e k = both_ways (is_mark (mark_at marks v)) (ap is_mark e) k

-- as a test says it
pub free_from : (o : Option Mark) → false ≡ is_some o → o ≡ None
free_from None e = refl
free_from (Some m) e = cc e

pub marked_from : (o : Option Mark) → true ≡ is_some o → is_mark o ≡ true
marked_from None e = cc e
marked_from (Some m) e = refl

-- what a mark says of its step
abbrev pub StepBy : GraphValue → List (Option Mark) → Option Mark → ℕ → Type 0
StepBy g marks o v = ((depth_of o ≡ 0) × (start_of o ≡ v))
    ⊎ (Marked marks (up_of o) × Joined g (up_of o) v × (depth_of o ≡ depth_at marks (up_of o) + 1) × (start_at marks (up_of o) ≡ start_of o))

-- more sets are marked
module _ (g : GraphValue) (old marks : List (Option Mark)) (kept : (v : ℕ) → Marked old v → mark_at marks v ≡ mark_at old v) where
  pub marked_kept : (v : ℕ) → Marked old v → Marked marks v
  marked_kept v k = ap is_mark (kept v k) ∙ k

  pub depth_kept : (v : ℕ) → Marked old v → depth_at marks v ≡ depth_at old v
  depth_kept v k = ap depth_of (kept v k)

  pub start_kept : (v : ℕ) → Marked old v → start_at marks v ≡ start_at old v
  start_kept v k = ap start_of (kept v k)

  pub step_kept : (v : ℕ) → Marked old v → IsStep g old v → IsStep g marks v
  step_kept v k h = subst (λ (o : Option Mark). StepBy g marks o v) (sym (kept v k)) (by_old h)
    where
      by_old : IsStep g old v → StepBy g marks (mark_at old v) v
      by_old (inl first) = inl first
      by_old (inr next) = inr (marked_kept (up_of (mark_at old v)) next.0, next.1, next.2 ∙ ap (λ (n : ℕ). n + 1) (sym (depth_kept (up_of (mark_at old v)) next.0)), start_kept (up_of (mark_at old v)) next.0 ∙ next.3)

  pub next_kept : (v w : ℕ) → Marked old v → IsNextTo old v w → IsNextTo marks v w
  next_kept v w k h = (
    marked_kept w h.0,
    start_kept w h.0 ∙ h.1 ∙ sym (start_kept v k),
    (let here = depth_kept v k in let there = depth_kept w h.0 in omega (arith, here, there, h.2)),
  )

-- a set that had no mark gets one
module _ (marks : List (Option Mark)) (w : ℕ) (m : Mark) (l : w < length marks) (free : mark_at marks w ≡ None) where
  pub mark_here : mark_at (set marks w (Some m)) w ≡ Some m
  mark_here = get_or-set_same marks w (Some m) None l

  pub mark_there : (v : ℕ) → v ≢ w → mark_at (set marks w (Some m)) v ≡ mark_at marks v
  mark_there v other = get_or-set_other marks w v (Some m) None other

  pub mark_kept : (v : ℕ) → Marked marks v → mark_at (set marks w (Some m)) v ≡ mark_at marks v
  mark_kept v k = mark_there v (λ e. not_both marks w free (subst (λ (x : ℕ). Marked marks x) e k))

  pub fewer_free : free_in (set marks w (Some m)) + 1 ≡ free_in marks
  fewer_free =
      let bit = ap {B = ℕ} (λ (o : Option Mark). cond (is_free o) 1 0) free in
      omega (arith, sum_by-set (λ (o : Option Mark). cond (is_free o) 1 0) marks w (Some m) None l, bit)

-- whether a set was marked, step by step
pub counted_more : (any : Bool) (old marks more : List (Option Mark)) → IsCounted any old marks → free_in more < free_in marks → IsCounted true old more
counted_more true old marks more h l = omega (arith, h, l)
counted_more false old marks more h l = subst (λ (x : List (Option Mark)). free_in more < free_in x) h l

pub counted_same : (any : Bool) (old marks more : List (Option Mark)) → IsCounted any old marks → more ≡ marks → IsCounted any old more
counted_same any old marks more h e = subst (λ (x : List (Option Mark)). IsCounted any old x) (sym e) h

or_true : (b : Bool) → (b || true) ≡ true
or_true true = refl
or_true false = refl

or_false : (b : Bool) → (b || false) ≡ b
or_false true = refl
or_false false = refl

pub counted_both : (a b : Bool) (old marks more : List (Option Mark)) → IsCounted a old marks → IsCounted b marks more → IsCounted (a || b) old more
counted_both a true old marks more h c = subst (λ (t : Bool). IsCounted t old more) (sym (or_true a)) (counted_more a old marks more h c)
counted_both a false old marks more h c = subst (λ (t : Bool). IsCounted t old more) (sym (or_false a)) (counted_same a old marks more h c)

module _ (g : GraphValue) (up : ℕ) (m : Mark) (old : List (Option Mark)) where
  pub reached_none : AreReached g up m 0 old old
  reached_none = record {
    many = refl;
    kept = λ v k. refl;
    fresh = λ v k. inl k;
    reached = λ w l j. absurd (omega (arith, l));
  }

  -- the next set doesn't cross, or has a mark
  pub reached_past : (count : ℕ) (marks : List (Option Mark)) → (Joined g up count → Marked marks count) → AreReached g up m count old marks → AreReached g up m (count + 1) old marks
  reached_past count marks here h = record {
    many = h.many;
    kept = h.kept;
    fresh = h.fresh;
    reached = λ w l j. elim (cases_lt w count) [
      | inl before ↦ h.reached w before j
      | inr from ↦
          let e : w ≡ count = omega (arith, l, from) in
          subst (λ (x : ℕ). Marked marks x) (sym e) (here (subst (λ (x : ℕ). Joined g up x) e j))
    ];
  }

  -- the next set is marked
  pub reached_more : (count : ℕ) (marks : List (Option Mark)) → count < length marks → mark_at marks count ≡ None → Joined g up count
      → AreReached g up m count old marks → AreReached g up m (count + 1) old (set marks count (Some (reached_mark up m)))
  reached_more count marks l free joined h = record {
    many = length-set marks count (Some (reached_mark up m)) ∙ h.many;
    kept = λ v k. mark_kept marks count (reached_mark up m) l free v (ap is_mark (h.kept v k) ∙ k) ∙ h.kept v k;
    fresh = λ v k. elim (cases_eq v count) [
      | inl e ↦ inr (subst (λ (x : ℕ). Joined g up x) (sym e) joined, ap (mark_at (set marks count (Some (reached_mark up m)))) e ∙ mark_here marks count (reached_mark up m) l free)
      | inr other ↦
          let same = mark_there marks count (reached_mark up m) l free v other in
          elim (h.fresh v (sym (ap is_mark same) ∙ k)) [
            | inl before ↦ inl before
            | inr new ↦ inr (new.0, same ∙ new.1)
          ]
    ];
    reached = λ w below j. elim (cases_eq w count) [
      | inl e ↦ ap is_mark (ap (mark_at (set marks count (Some (reached_mark up m)))) e ∙ mark_here marks count (reached_mark up m) l free)
      | inr other ↦ ap is_mark (mark_there marks count (reached_mark up m) l free w other) ∙ h.reached w (let differ = other in omega (arith, below, differ)) j
    ];
  }

  -- what trying the next set does
  pub reached_tried : (count : ℕ) (marks more : List (Option Mark)) (b : Bool) → IsTried g up m count marks more b
      → AreReached g up m count old marks → AreReached g up m (count + 1) old more
  reached_tried count marks more true h r =
      subst (λ (x : List (Option Mark)). AreReached g up m (count + 1) old x) (sym h.3) (reached_more count marks h.0 h.1 h.2 r)
  reached_tried count marks more false h r =
      subst (λ (x : List (Option Mark)). AreReached g up m (count + 1) old x) (sym h.0) (reached_past count marks h.1 r)

  pub counted_tried : (count : ℕ) (any : Bool) (marks more : List (Option Mark)) (b : Bool) → IsTried g up m count marks more b
      → IsCounted any old marks → IsCounted (any || b) old more
  counted_tried count any marks more true h c =
      let fewer = fewer_free marks count (reached_mark up m) h.0 h.1 in
      let less : free_in more < free_in marks = subst (λ (x : List (Option Mark)). free_in x < free_in marks) (sym h.3) (omega (arith, fewer)) in
      subst (λ (t : Bool). IsCounted t old more) (sym (or_true any)) (counted_more any old marks more c less)
  counted_tried count any marks more false h c =
      subst (λ (t : Bool). IsCounted t old more) (sym (or_false any)) (counted_same any old marks more c h.0)
