-- The members of the summary: one more column, and that no member is a float.
use Rattle.std.proofs.Common.{◌≡◌, ◌∙◌, ◌||◌, ℕ, ◌+◌, ◌<◌, List, [], ◌∷◌, Bool, Ordering, true, false, Option, Some, None, length, get_or, take, ap, refl, sym, zero-add, arith, option_map}
use Rattle.std.specs.Prelude.{codes, decimal, fold, is_some}
use Rattle.std.specs.Cmp.Lexicographic.{slice_cmp}
use Rattle.std.specs.List.{enumerate_from}
use Rattle.std.specs.Ordering.{nat_cmp}
use Rattle.std.specs.declared.cmp.Ordering.TheVariants as ord
use Rattle.std.proofs.lemmas.List.FromFn.{get_or-enumerate_from, length-enumerate_from}
use Rattle.std.proofs.lemmas.List.Sums.{fold_more}
use Rattle.definitions.specs.Lotteries.{LotteryValue}
use Rattle.definitions.specs.Values.{prices_value}
use Rattle.definitions.specs.declared.Prices.{Prices}
use Rattle.serde_json.specs.Data.{Members, boolean, member, no_members, number, object, put, string, unsigned}
use Rattle.serde_json.specs.Written.{has_float, members_have_float}
use Rattle.alloc_report.specs.Summary.{column_units, expected_of, greatest_of, least_of, put_column, summary_of, weights_of}

-- the members of the columns before this one, and then of this one
pub columns_more : (l : LotteryValue) (i : ℕ) → i < length l.columns
    → put_column l (fold (put_column l) no_members (take i (enumerate_from 0 l.columns))) (i, get_or l.columns i [])
    ≡ fold (put_column l) no_members (take (i + 1) (enumerate_from 0 l.columns))
columns_more l i within =
    let numbered = enumerate_from 0 l.columns in
    let many = length-enumerate_from 0 l.columns in
    let inside : i < length numbered = omega arith in
    let here : get_or numbered i (0, []) ≡ (i, get_or l.columns i []) =
    get_or-enumerate_from 0 l.columns i (0, []) within ∙ ap (λ (k : ℕ). (k, get_or l.columns i [])) (zero-add i) in
    sym (fold_more (put_column l) no_members numbered i (0, []) inside ∙ ap (put_column l (fold (put_column l) no_members (take i numbered))) here)

or_parts : (a b : Bool) → (a || b) ≡ false → (a ≡ false) × (b ≡ false)
or_parts true b e = cc e
or_parts false b e = (refl, e)

-- a text among members is no float
no_float-put : (name text : List ℕ) (ms : Members) → members_have_float ms ≡ false → members_have_float (put name (string text) ms) ≡ false
no_float-put name text no_members h = refl
no_float-put name text (member l e ms) h = by (slice_cmp nat_cmp name l) refl (no_float-put name text ms (or_parts _ _ h).1)
  where
    by : (o : Ordering) → slice_cmp nat_cmp name l ≡ o → members_have_float (put name (string text) ms) ≡ false → members_have_float (put name (string text) (member l e ms)) ≡ false
    by ord.Less c more = rw c h
    by ord.Equal c more = rw c (or_parts (has_float e) (members_have_float ms) h).1
    by ord.Greater c more = rw (c, (or_parts (has_float e) (members_have_float ms) h).0) more

no_float-fold : (l : LotteryValue) (columns : List (ℕ × List ℕ)) (ms : Members) → members_have_float ms ≡ false → members_have_float (fold (put_column l) ms columns) ≡ false
no_float-fold l [] ms h = h
no_float-fold l (w ∷ columns) ms h = no_float-fold l columns (put_column l ms w) (no_float-put w.1 (decimal (column_units l w.0)) ms h)

-- no member of the summary is a float, so that its text is known
pub no_float-summary : (l : LotteryValue) → has_float (summary_of l) ≡ false
unfolding summary_of expected_of
no_float-summary l = rw (no_float-fold l (enumerate_from 0 l.columns) no_members refl) refl

-- the eight members, put one after the other
pub summary-members : (l : LotteryValue) (m1 m2 m3 m4 m5 m6 m7 m8 : Members)
    → m1 ≡ put (codes "agents") (number (unsigned (length l.agents))) no_members
    → m2 ≡ put (codes "columns") (number (unsigned (length l.columns))) m1
    → m3 ≡ put (codes "denominator") (string (decimal l.shares.denominator)) m2
    → m4 ≡ put (codes "expected") (object (expected_of l)) m3
    → m5 ≡ put (codes "greatest_weight") (string (decimal (greatest_of (weights_of l)))) m4
    → m6 ≡ put (codes "least_weight") (string (decimal (least_of (weights_of l)))) m5
    → m7 ≡ put (codes "pieces") (number (unsigned (length l.pieces))) m6
    → m8 ≡ put (codes "priced") (boolean (is_some l.prices)) m7
    → object m8 ≡ summary_of l
unfolding summary_of
summary-members l m1 m2 m3 m4 m5 m6 m7 m8 e1 e2 e3 e4 e5 e6 e7 e8 = rw (e8, e7, e6, e5, e4, e3, e2, e1) refl

-- a lottery shows prices where it has some
pub shown_prices : (prices : Option Prices) → is_some (option_map prices_value prices) ≡ is_some prices
shown_prices None = refl
shown_prices (Some y) = refl
