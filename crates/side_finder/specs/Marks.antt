-- The marks that sets get while those that they lead to are searched, by steps over crossing sets from the set with the
-- least number of each part. Sets are named by their indexes, from 0.
use Rattle.std.specs.Prelude.{◌≡◌, ℕ, ◌+◌, ◌%◌, ◌<◌, ◌≤◌, ◌⊎◌, Bool, true, false, List, Option, None, Some, length, count_by, slice_index_or, slice_set}
use Rattle.side_finder.specs.declared.forest.Mark.{Mark}
use Rattle.side_finder.specs.Graphs.{GraphValue, Joined}

-- whether there is a mark
abbrev pub is_mark : Option Mark → Bool
is_mark None = false
is_mark (Some m) = true

-- and whether there is none
abbrev pub is_free : Option Mark → Bool
is_free None = true
is_free (Some m) = false

-- the set that a mark leads up to
abbrev pub up_of : Option Mark → ℕ
up_of None = 0
up_of (Some m) = m.up

-- after how many steps the set is reached
abbrev pub depth_of : Option Mark → ℕ
depth_of None = 0
depth_of (Some m) = m.depth

-- the first set of its part
abbrev pub start_of : Option Mark → ℕ
start_of None = 0
start_of (Some m) = m.start

-- the side of a set with this mark
abbrev pub side_of : Option Mark → ℕ
side_of o = 1 + depth_of o % 2

-- the mark of a set
abbrev pub mark_at : List (Option Mark) → ℕ → Option Mark
mark_at marks v = slice_index_or marks v None

-- the same of the set at an index
abbrev pub up_at : List (Option Mark) → ℕ → ℕ
up_at marks v = up_of (mark_at marks v)

abbrev pub depth_at : List (Option Mark) → ℕ → ℕ
depth_at marks v = depth_of (mark_at marks v)

abbrev pub start_at : List (Option Mark) → ℕ → ℕ
start_at marks v = start_of (mark_at marks v)

-- the set has a mark
abbrev pub Marked : List (Option Mark) → ℕ → Type 0
Marked marks v = is_mark (mark_at marks v) ≡ true

-- how many sets have none
abbrev pub free_in : List (Option Mark) → ℕ
free_in marks = count_by is_free marks

-- a marked set is the first of its part, or its mark leads up to a set that it crosses, one step before
abbrev pub IsStep : GraphValue → List (Option Mark) → ℕ → Type 0
IsStep g marks v = ((depth_at marks v ≡ 0) × (start_at marks v ≡ v))
    ⊎ (Marked marks (up_at marks v) × Joined g (up_at marks v) v × (depth_at marks v ≡ depth_at marks (up_at marks v) + 1)
    × (start_at marks (up_at marks v) ≡ start_at marks v))

-- w is of v's part, and at most one step further
abbrev pub IsNextTo : List (Option Mark) → ℕ → ℕ → Type 0
IsNextTo marks v w = Marked marks w × (start_at marks w ≡ start_at marks v) × (depth_at marks w ≤ depth_at marks v + 1)

-- all that cross this marked set are next to it
abbrev pub IsClosed : GraphValue → List (Option Mark) → ℕ → Type 0
IsClosed g marks v = (w : ℕ) → w < g.size → Joined g v w → IsNextTo marks v w

-- what is known of the marks at all times
pub record AreMarks (g : GraphValue) (marks : List (Option Mark)) : Type 0 where
  pub many : length marks ≡ g.size
  pub step : (v : ℕ) → Marked marks v → IsStep g marks v
  pub low : (v : ℕ) → Marked marks v → start_at marks v ≤ v

-- the parts of all sets below `next` are searched, and no others
pub record AreSearched (g : GraphValue) (next : ℕ) (marks : List (Option Mark)) : Type 0 where
  pub lawful : AreMarks g marks
  pub begun : (v : ℕ) → Marked marks v → start_at marks v < next
  pub closed : (v : ℕ) → Marked marks v → IsClosed g marks v
  pub before : (v : ℕ) → v < next → Marked marks v

-- in the part of `start` the sets at this depth with indexes below `count` were gone through, and all that are less deep
abbrev pub IsDone : List (Option Mark) → ℕ → ℕ → ℕ → ℕ → Type 0
IsDone marks start depth count v = (start_at marks v < start)
    ⊎ ((start_at marks v ≡ start) × ((depth_at marks v < depth) ⊎ ((depth_at marks v ≡ depth) × (v < count))))

-- while the part of `start` is searched, of which no set is deeper than `deepest`
pub record AreGrowing (g : GraphValue) (start depth count deepest : ℕ) (marks : List (Option Mark)) : Type 0 where
  pub lawful : AreMarks g marks
  pub within : (v : ℕ) → Marked marks v → (start_at marks v < start) ⊎ ((start_at marks v ≡ start) × (depth_at marks v ≤ deepest))
  pub closed : (v : ℕ) → Marked marks v → IsDone marks start depth count v → IsClosed g marks v
  pub before : (v : ℕ) → v < start → Marked marks v
  pub first : Marked marks start

-- the mark of a set that is reached from the set `up` with mark m
abbrev pub reached_mark : ℕ → Mark → Mark
reached_mark up m = record { up = up; depth = m.depth + 1; start = m.start }

-- from the set `up` with mark m those with indexes below `count` that it crosses are reached: a set that had no mark has one
-- that leads to it
pub record AreReached (g : GraphValue) (up : ℕ) (m : Mark) (count : ℕ) (old marks : List (Option Mark)) : Type 0 where
  pub many : length marks ≡ length old
  pub kept : (v : ℕ) → Marked old v → mark_at marks v ≡ mark_at old v
  pub fresh : (v : ℕ) → Marked marks v → Marked old v
      ⊎ (Joined g up v × (mark_at marks v ≡ Some (reached_mark up m)))
  pub reached : (w : ℕ) → w < count → Joined g up w → Marked marks w

-- whether this set, which had no mark, was marked from `up`; else it has a mark or doesn't cross `up`
abbrev pub IsTried : GraphValue → ℕ → Mark → ℕ → List (Option Mark) → List (Option Mark) → Bool → Type 0
IsTried g up m w old marks true = (w < length old) × (mark_at old w ≡ None) × Joined g up w × (marks ≡ slice_set old w (Some (reached_mark up m)))
IsTried g up m w old marks false = (marks ≡ old) × (Joined g up w → Marked old w)

-- whether a set was marked: then fewer have no mark, and else the marks are as they were
abbrev pub IsCounted : Bool → List (Option Mark) → List (Option Mark) → Type 0
IsCounted true old marks = free_in marks < free_in old
IsCounted false old marks = marks ≡ old

-- each set is marked, and all that cross a set are next to it
pub record AreAllMarked (g : GraphValue) (marks : List (Option Mark)) : Type 0 where
  pub lawful : AreMarks g marks
  pub marked : (v : ℕ) → v < g.size → Marked marks v
  pub closed : (v : ℕ) → v < g.size → IsClosed g marks v

-- the two cross and have one side
abbrev pub AreOneSided : GraphValue → List (Option Mark) → ℕ → ℕ → Type 0
AreOneSided g marks a b = Joined g a b × (side_of (mark_at marks a) ≡ side_of (mark_at marks b))

-- the two are sets that cross and have one side
abbrev pub AreTwins : GraphValue → List (Option Mark) → ℕ → ℕ → Type 0
AreTwins g marks a b = (a < g.size) × (b < g.size) × AreOneSided g marks a b

-- no set that crosses a has its side
abbrev pub HasNoTwin : GraphValue → List (Option Mark) → ℕ → Type 0
HasNoTwin g marks a = (b : ℕ) → b < g.size → AreOneSided g marks a b → ⊥

-- no two sets that cross have one side
abbrev pub NoTwins : GraphValue → List (Option Mark) → Type 0
NoTwins g marks = (a : ℕ) → a < g.size → HasNoTwin g marks a
