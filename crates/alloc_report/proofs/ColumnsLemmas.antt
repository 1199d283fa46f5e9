-- What is expected of the columns: their names rise, are those of the columns, and have their sums.
use Rattle.std.proofs.Common.{◌≡◌, ◌∙◌, ℕ, suc, zero, ◌+◌, List, [], ◌∷◌, Ordering, false, Some, get_or, ap, add-zero, zero-add, refl, sym, arith, All, true≢false, bytes_eq}
use Rattle.std.specs.Prelude.{Contains, decimal, fold, slice_get}
use Rattle.std.specs.Cmp.Lexicographic.{slice_cmp}
use Rattle.std.specs.List.{AllByRecursion, IsDistinct, enumerate_from}
use Rattle.std.specs.List.Sorted.{IsStrictlySortedBy}
use Rattle.std.specs.Ordering.{match_ordering, nat_cmp, ordering_reverse}
use Rattle.std.specs.declared.cmp.Ordering.TheVariants as ord
use Rattle.std.proofs.lemmas.Cmp.{nat_list_cmp_total}
use Rattle.std.proofs.lemmas.List.{get_or_default}
use Rattle.std.proofs.lemmas.List.Elements.{All-from_recursion, recursion_from_All}
use Rattle.std.proofs.lemmas.Slice.Eq.{bytes_eq-Decides}
use Rattle.definitions.specs.Lotteries.{LotteryValue}
use Rattle.serde_json.proofs.Views.{get_member-put, get_member-put_other}
use Rattle.serde_json.specs.Data.{Data, Members, member, no_members, put, string}
use Rattle.serde_json.specs.Find.{get_member}
use Rattle.alloc_report.specs.Laws.{AreOfColumns, names_of}
use Rattle.alloc_report.specs.Summary.{column_units, expected_of, put_column}

-- what holds of a name and of all names of some members holds of them with that name
put_all : (P : List ℕ → Type 0) (name : List ℕ) (d : Data) (ms : Members) → P name → AllByRecursion P (names_of ms) → AllByRecursion P (names_of (put name d ms))
put_all P name d no_members here rest = (here, tt)
put_all P name d (member l e ms) here rest = by (slice_cmp nat_cmp name l) (put_all P name d ms here rest.1)
  where
    by : (o : Ordering) → AllByRecursion P (names_of (put name d ms))
        → AllByRecursion P (names_of (match_ordering o (member name d (member l e ms)) (member l d ms) (member l e (put name d ms))))
    by ord.Less more = (here, rest)
    by ord.Equal more = rest
    by ord.Greater more = (rest.0, more)

-- what is above a name is above one below it
above_lower : (a b : List ℕ) (names : List (List ℕ)) → slice_cmp nat_cmp a b ≡ ord.Less
    → AllByRecursion (λ y. slice_cmp nat_cmp b y ≡ ord.Less) names → AllByRecursion (λ y. slice_cmp nat_cmp a y ≡ ord.Less) names
above_lower a b [] below above = tt
above_lower a b (y ∷ names) below above = (nat_list_cmp_total.trans a b y below above.0, above_lower a b names below above.1)

-- names that rise go on rising with one more
put_rises : (name : List ℕ) (d : Data) (ms : Members) → IsStrictlySortedBy (slice_cmp nat_cmp) (names_of ms) → IsStrictlySortedBy (slice_cmp nat_cmp) (names_of (put name d ms))
unfolding IsStrictlySortedBy
put_rises name d no_members rises = (tt, tt)
put_rises name d (member l e ms) rises = by (slice_cmp nat_cmp name l) refl (put_rises name d ms rises.1)
  where
    by : (o : Ordering) → slice_cmp nat_cmp name l ≡ o → IsStrictlySortedBy (slice_cmp nat_cmp) (names_of (put name d ms))
        → IsStrictlySortedBy (slice_cmp nat_cmp) (names_of (match_ordering o (member name d (member l e ms)) (member l d ms) (member l e (put name d ms))))
    by ord.Less is more = ((is, above_lower name l (names_of ms) is rises.0), rises)
    by ord.Equal is more = rises
    by ord.Greater is more =
        let after : slice_cmp nat_cmp l name ≡ ord.Less = nat_list_cmp_total.antisymm l name ∙ ap ordering_reverse is in
        (put_all (λ y. slice_cmp nat_cmp l y ≡ ord.Less) name d ms after rises.0, more)

all_rise : (l : LotteryValue) (columns : List (ℕ × List ℕ)) (ms : Members) → IsStrictlySortedBy (slice_cmp nat_cmp) (names_of ms)
    → IsStrictlySortedBy (slice_cmp nat_cmp) (names_of (fold (put_column l) ms columns))
all_rise l [] ms rises = rises
all_rise l (w ∷ columns) ms rises = all_rise l columns (put_column l ms w) (put_rises w.1 (string (decimal (column_units l w.0))) ms rises)

all_known : (l : LotteryValue) (P : List ℕ → Type 0) (n : ℕ) (names : List (List ℕ)) (ms : Members) → AllByRecursion P names → AllByRecursion P (names_of ms)
    → AllByRecursion P (names_of (fold (put_column l) ms (enumerate_from n names)))
all_known l P n [] ms known before = before
all_known l P n (name ∷ names) ms known before =
    all_known l P (n + 1) names (put_column l ms (n, name)) known.1 (put_all P name (string (decimal (column_units l n))) ms known.0 before)

-- the columns of other names leave what a name has
others_leave : (l : LotteryValue) (name : List ℕ) (n : ℕ) (names : List (List ℕ)) (ms : Members) → AllByRecursion (λ y. bytes_eq name y ≡ false) names
    → get_member name (fold (put_column l) ms (enumerate_from n names)) ≡ get_member name ms
others_leave l name n [] ms apart = refl
others_leave l name n (next ∷ names) ms apart =
    others_leave l name (n + 1) names (put_column l ms (n, next)) apart.1
    ∙ get_member-put_other name next (string (decimal (column_units l n))) ms (λ same. true≢false (sym ((bytes_eq-Decides name next).1 same) ∙ apart.0))

-- a column's name has its sum, where it is the name of no later column
sums_found : (l : LotteryValue) (n : ℕ) (names : List (List ℕ)) (ms : Members) → IsDistinct bytes_eq names → (i : ℕ) (name : List ℕ) → slice_get names i ≡ Some name
    → get_member name (fold (put_column l) ms (enumerate_from n names)) ≡ Some (string (decimal (column_units l (n + i))))
unfolding IsDistinct
sums_found l n [] ms apart i name found = absurd (cc found)
sums_found l n (first ∷ names) ms apart zero name found =
    let same : first ≡ name = cc in
    rw (← same, add-zero) (others_leave l first (n + 1) names (put_column l ms (n, first)) apart.0 ∙ get_member-put first (string (decimal (column_units l n))) ms)
sums_found l n (first ∷ names) ms apart (suc i) name found =
    let at : n + 1 + i ≡ n + suc i = omega arith in
    sums_found l (n + 1) names (put_column l ms (n, first)) apart.1 i name found ∙ ap (λ (a : ℕ). Some (string (decimal (column_units l a)))) at

among_themselves : (names : List (List ℕ)) → All (Contains names) names
among_themselves names k d within = (k, within, get_or_default names k (get_or names k d) d within)

pub columns_named : (l : LotteryValue) → IsDistinct bytes_eq l.columns → AreOfColumns l (expected_of l)
unfolding expected_of IsStrictlySortedBy
columns_named l apart = record {
  rising = all_rise l (enumerate_from 0 l.columns) no_members tt;
  known = All-from_recursion (Contains l.columns) (names_of (expected_of l))
      (all_known l (Contains l.columns) 0 l.columns no_members (recursion_from_All (Contains l.columns) l.columns (among_themselves l.columns)) tt);
  sums = λ a name found. rw (← zero-add a) (sums_found l 0 l.columns no_members apart a name found);
}
