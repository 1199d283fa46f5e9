-- A text of a matrix reads as one matrix in lowest terms, or it has one fault.
use Rattle.std.proofs.Common.{◌≡◌, ◌∙◌, ◌+◌, ◌*◌, ◌/◌, ◌%◌, ◌^◌, ◌<◌, ◌≤◌, ◌++◌, ◌==◌, ◌&&◌, ◌∷◌, [], ℕ, zero, suc, List, Option, Some, None, Bool, true, false, All, cond, refl, sym, ap, subst, length, get_or, take, arith}
use Rattle.std.specs.Prelude.{flat_map, is_none, nat_lt, slice_get, unwrap_or}
use Rattle.std.specs.Int.{IsGcd}
use Rattle.std.specs.List.{AllZip, IsDistinct}
use Rattle.std.specs.Str.{bytes_eq}
use Rattle.std.proofs.Math.Nat.{eq_of_mul-eq-mul_right, mod-lt, mul-div_cancel'}
use Rattle.std.proofs.lemmas.Bool.{and_parts, ltb-true}
use Rattle.std.proofs.lemmas.List.{length-map, take_all, take_more, get_or-map}
use Rattle.std.proofs.lemmas.List.Elements.{All-append, All-cons, All-head, All-map, All-nil, All-tail}
use Rattle.std.proofs.lemmas.Nat.Gcd.{IsGcd-from_mod, IsGcd-from_zero}
use Rattle.std.proofs.lemmas.Option.{slice_get-get_or}
use Rattle.definitions.specs.Texts.{Row, first_field, is_count, is_decimal, is_name, is_quotient, name_index, number, part_after, part_before, share_of}
use Rattle.definitions.specs.Values.{Ratio, SharesValue}
use Rattle.definitions.proofs.Passed.{among-keeps, passed}
use Rattle.frac128.specs.Measure.{lowest_over_gcd, same_fraction}
use Rattle.scaled_matrix.specs.Entries.{IsShare}
use Rattle.table_text.proofs.EveryText.{IsTextOf-some}
use Rattle.table_text.proofs.TextFacts.{IsTextOf-unique}
use Rattle.table_text.specs.Rows.{IsTextOf}
use Rattle.table_text.proofs.KnownNames.{name-new}
use Rattle.alloc_input.specs.Matrices.{IsMatrix, IsSameShare, ReadsAsMatrix, all_shares, check_header, check_heading, check_shares, entry_texts, matrix_fault, objects_of, share_in, shares_of}
use Rattle.alloc_input.specs.Once.{MatrixReadsOnce, ReadsAsLawful}
use Rattle.alloc_input.specs.Prefs.{agent_rows, agents_of}
use Rattle.alloc_input.specs.declared.faults.InputKind.TheVariants as kind
use Rattle.alloc_input.proofs.EntryFacts.{limit-kept}
use Rattle.alloc_input.proofs.LawfulMatrices.{matrix-lawful}
use Rattle.alloc_input.proofs.NamePlaces.{distinct-new}
use Rattle.alloc_input.proofs.Once.{HasFaultIn, fault-none, fault-some, fault_in, reads-once}
use Rattle.alloc_input.proofs.SaidMatrices.{ArePassed, AreEntries, entries-are, entries-passed, passed-records, shape-said}

-- ---- lowest terms

gcd-some : (n a b : ℕ) → b < n → (g : ℕ) × IsGcd a b g
gcd-some zero a b l = absurd (omega arith)
gcd-some (suc n) a zero l = (a, IsGcd-from_zero a zero refl)
gcd-some (suc n) a (suc b) l =
    let below = mod-lt a {m = suc b} (omega arith) in
    let h = gcd-some n (suc b) (a % suc b) (omega (arith, below, l)) in
    (h.0, IsGcd-from_mod a (suc b) h.0 h.1)

-- a share as it is written
record IsWritten (s : Ratio) : Type 0 where
  positive : 0 < s.den
  limit : s.num ≤ 1000 * s.den

reduced : (s : Ratio) → IsWritten s → (x : Ratio) × IsSameShare x s × IsShare x
reduced s h =
    let (g, is) = gcd-some (suc s.den) s.num s.den (omega arith) in
    let num : g * (s.num / g) ≡ s.num = mul-div_cancel' g is.0 in
    let den : g * (s.den / g) ≡ s.den = mul-div_cancel' g is.1 in
    let same : s.num / g * s.den ≡ s.num * (s.den / g) = crossed (s.num / g) (s.den / g) g s.num s.den num den in (
      record { num = s.num / g; den = s.den / g },
      same,
      record {
        positive = above (s.den / g) g s.den den h.positive;
        lowest = lowest_over_gcd s.num s.den g is h.positive;
        limit = limit-kept (s.num / g) (s.den / g) s.num s.den h.positive same h.limit;
      },
    )
  where
    crossed : (a b g num den : ℕ) → g * a ≡ num → g * b ≡ den → a * den ≡ num * b
    crossed a b g num den e f = rw (← e, ← f) (grind arith)

    above : (b g den : ℕ) → g * b ≡ den → 0 < den → 1 ≤ b
    above zero g den e p = absurd (grind arith)
    above (suc b) g den e p = omega arith

all-reduced : (zs : List Ratio) → All IsWritten zs → (xs : List Ratio) × AllZip IsSameShare xs zs × All IsShare xs
all-reduced [] h = ([], tt, All-nil IsShare)
all-reduced (z ∷ zs) h =
    let one = reduced z (All-head IsWritten z zs h) in
    let rest = all-reduced zs (All-tail IsWritten z zs h) in
    (one.0 ∷ rest.0, (one.1, rest.1), All-cons IsShare one.0 rest.0 one.2 rest.2)

same-ratio : (x y : Ratio) → x.num ≡ y.num → x.den ≡ y.den → x ≡ y
same-ratio x y e f = subst (λ n. x ≡ record { num = n; den = y.den }) e (subst (λ d. x ≡ record { num = x.num; den = d }) f refl)

one-share : (x y z : Ratio) → 0 < z.den → IsShare x → IsShare y → IsSameShare x z → IsSameShare y z → x ≡ y
one-share x y z p a b e f =
    let cross : x.num * y.den * z.den ≡ y.num * x.den * z.den = crossed x.num x.den y.num y.den z.num z.den e f in
    let same = same_fraction x.num x.den y.num y.den a.positive b.positive a.lowest b.lowest (eq_of_mul-eq-mul_right z.den p (x.num * y.den) (y.num * x.den) cross) in
    same-ratio x y same.0 same.1
  where
    crossed : (a b c d n m : ℕ) → a * m ≡ n * b → c * m ≡ n * d → a * d * m ≡ c * b * m
    crossed a b c d n m e f =
        let left : a * m * d ≡ n * b * d = ap (λ k. k * d) e in
        let right : c * m * b ≡ n * d * b = ap (λ k. k * b) f in
        grind arith

one-entries : (xs ys zs : List Ratio) → All IsWritten zs → All IsShare xs → All IsShare ys → AllZip IsSameShare xs zs → AllZip IsSameShare ys zs → xs ≡ ys
one-entries [] [] [] w a b e f = refl
one-entries [] (y ∷ ys) [] w a b e f = absurd f
one-entries (x ∷ xs) ys [] w a b e f = absurd e
one-entries [] ys (z ∷ zs) w a b e f = absurd e
one-entries (x ∷ xs) [] (z ∷ zs) w a b e f = absurd f
one-entries (x ∷ xs) (y ∷ ys) (z ∷ zs) w a b e f =
    let first = one-share x y z (All-head IsWritten z zs w).positive (All-head IsShare x xs a) (All-head IsShare y ys b) e.0 f.0 in
    let rest = one-entries xs ys zs (All-tail IsWritten z zs w) (All-tail IsShare x xs a) (All-tail IsShare y ys b) e.1 f.1 in
    rw (first, rest) refl

-- ---- the shares of lawful records

power : (n : ℕ) → 0 < 10 ^ n
power zero = omega arith
power (suc n) = let more = power n in omega arith

one-of : (b : Bool) (x : Ratio) (rest : Option Ratio) (s : Ratio) → cond b (Some x) rest ≡ Some s → (b ≡ true → 0 < x.den) → (rest ≡ Some s → 0 < s.den) → 0 < s.den
one-of true x rest s e here later = let same : x ≡ s = cc e in subst (λ (y : Ratio). 0 < y.den) same (here refl)
one-of false x rest s e here later = later e

quotient-positive : (a b : Bool) (n : ℕ) → (a && (b && nat_lt 0 n)) ≡ true → 0 < n
quotient-positive a b n e = ltb-true 0 n (and_parts b (nat_lt 0 n) (and_parts a (b && nat_lt 0 n) e).1).1

written-positive : (text : List ℕ) (s : Ratio) → share_of text ≡ Some s → 0 < s.den
unfolding share_of
written-positive text s e =
    one-of (length text == 0) _ _ s e (λ _. omega arith) (λ e1.
    one-of (is_count text) _ _ s e1 (λ _. omega arith) (λ e2.
    one-of (is_quotient text) _ _ s e2 (quotient-positive (is_count (part_before 47 text)) (is_count (part_after 47 text)) (number (part_after 47 text))) (λ e3.
    one-of (is_decimal text) _ _ s e3 (λ _. power (length (part_after 46 text))) (λ e4. absurd (cc e4)))))

row-written : (columns : ℕ) (row : Row) → AreEntries (entry_texts columns row) → All IsWritten (shares_of columns row)
row-written columns row h =
    All-map IsWritten share_in (entry_texts columns row) (λ k d l.
    let (s, is, limit) = h k (get_or (entry_texts columns row) k d) (slice_get-get_or (entry_texts columns row) k d l) in
    let same : s ≡ share_in (get_or (entry_texts columns row) k d) = ap (λ (o : Option Ratio). unwrap_or o s) (sym is) ∙ defaults (share_of (get_or (entry_texts columns row) k d)) s is in
    subst IsWritten same (record { positive = written-positive (get_or (entry_texts columns row) k d) s is; limit = limit }))
  where
    defaults : (o : Option Ratio) (s : Ratio) → o ≡ Some s → unwrap_or o s ≡ unwrap_or o (record { num = 0; den = 1 })
    defaults None s e = absurd (cc e)
    defaults (Some x) s e = refl

rows-written : (columns : ℕ) (rows : List Row) → ((i : ℕ) (row : Row) → slice_get rows i ≡ Some row → AreEntries (entry_texts columns row)) → All IsWritten (flat_map (shares_of columns) rows)
rows-written columns [] h = All-nil IsWritten
rows-written columns (r ∷ rows) h =
    All-append IsWritten (shares_of columns r) (flat_map (shares_of columns) rows) (row-written columns r (h 0 r refl)) (rows-written columns rows (λ i row e. h (suc i) row e))

all-written : (rows : List Row) → ArePassed rows → All IsWritten (all_shares rows)
unfolding all_shares
all-written rows h =
    let n = length (objects_of rows) in
    rows-written n (agent_rows rows) (λ i row e. entries-are n row (entries-passed (objects_of rows) (take i (agents_of rows)) row (h.each i row e)).1)

-- ---- the names of lawful records

heading-new : (earlier : List (List ℕ)) (name : List ℕ) → check_heading earlier name ≡ None → is_none (name_index earlier name) ≡ true
unfolding check_heading
heading-new earlier name e = (passed (is_none (name_index earlier name)) kind.RepeatedName _ (passed _ kind.BadName _ e).1).0

no-names : IsDistinct bytes_eq []
unfolding IsDistinct
no-names = tt

objects-distinct : (rows : List Row) → ArePassed rows → IsDistinct bytes_eq (objects_of rows)
unfolding check_header
objects-distinct rows h =
    among-keeps check_heading (IsDistinct bytes_eq) (λ earlier name c d. distinct-new earlier name (name-new earlier name (heading-new earlier name c)) d) (objects_of rows) (passed _ _ _ h.header).1 no-names

agents-distinct : (rows : List Row) → ArePassed rows → (i : ℕ) → i ≤ length (agents_of rows) → IsDistinct bytes_eq (take i (agents_of rows))
unfolding check_shares
agents-distinct rows h zero l = no-names
agents-distinct rows h (suc i) l =
    let within : i < length (agent_rows rows) = omega (arith, l, length-map (agent_rows rows) first_field) in
    let row = get_or (agent_rows rows) i [] in
    let checked = h.each i row (slice_get-get_or (agent_rows rows) i [] within) in
    let new = (passed (is_none (name_index (take i (agents_of rows)) (first_field row))) kind.RepeatedAgent _ (passed (is_name (first_field row)) kind.BadName _ checked).1).0 in
    let named : get_or (agents_of rows) i [] ≡ first_field row = get_or-map first_field (agent_rows rows) i [] [] within in
    let more : take (suc i) (agents_of rows) ≡ take i (agents_of rows) ++ first_field row ∷ [] =
    (let one : suc i ≡ i + 1 = omega arith in rw one (take_more (agents_of rows) i [] (omega (arith, l)) ∙ ap (λ n. take i (agents_of rows) ++ n ∷ []) named)) in
    rw more (distinct-new (take i (agents_of rows)) (first_field row) (name-new (take i (agents_of rows)) (first_field row) new) (agents-distinct rows h i (omega (arith, l))))

-- ---- a matrix of lawful records

matrix-some : (rows : List Row) → matrix_fault rows ≡ None → (m : SharesValue) × ReadsAsMatrix rows m × IsMatrix m
matrix-some rows e =
    let h = passed-records rows e in
    let names = matrix-lawful rows e in
    let (entries, same, shares) = all-reduced (all_shares rows) (all-written rows h) in
    let m : SharesValue = record { agents = agents_of rows; objects = objects_of rows; entries = entries } in
    let read : ReadsAsMatrix rows m = record { lawful = e; agents_read = refl; objects_read = refl; entries_read = same } in
    let distinct : IsDistinct bytes_eq (agents_of rows) = rw (take_all (length (agents_of rows)) (agents_of rows) (omega arith)) at (agents-distinct rows h (length (agents_of rows)) (omega arith)) in (
      m,
      read,
      record {
        agents_some = names.some;
        agents_limit = names.limit;
        agents_named = record { lawful = names.lawful; distinct = distinct };
        objects_limit = names.headings.limit;
        objects_named = record { lawful = names.headings.lawful; distinct = objects-distinct rows h };
        objects_apart = names.headings.apart;
        shares = record { shape = shape-said rows m read; lawful = shares };
      },
    )

one-matrix : (rows : List Row) (m k : SharesValue) → ReadsAsMatrix rows m → ReadsAsMatrix rows k → IsMatrix m → IsMatrix k → m ≡ k
one-matrix rows m k a b p q =
    let entries = one-entries m.entries k.entries (all_shares rows) (all-written rows (passed-records rows a.lawful)) p.shares.lawful q.shares.lawful a.entries_read b.entries_read in
    same (a.agents_read ∙ sym b.agents_read) (a.objects_read ∙ sym b.objects_read) entries
  where
    same : m.agents ≡ k.agents → m.objects ≡ k.objects → m.entries ≡ k.entries → m ≡ k
    same e f g =
        subst (λ x. m ≡ record { agents = x; objects = k.objects; entries = k.entries }) e
        (subst (λ x. m ≡ record { agents = m.agents; objects = x; entries = k.entries }) f
        (subst (λ x. m ≡ record { agents = m.agents; objects = m.objects; entries = x }) g refl))

pub matrix-once : MatrixReadsOnce
matrix-once bytes =
    reads-once (IsTextOf bytes) (λ rows. fault_in 1 (matrix_fault rows)) (ReadsAsLawful bytes) (HasFaultIn 1 bytes matrix_fault) (record {
      records = IsTextOf-some bytes;
      unique = IsTextOf-unique bytes;
      lawful = λ m h. (h.0.0, h.0.1, ap (fault_in 1) h.0.2.lawful);
      same = λ m k a b. one-matrix a.0.0 m k a.0.2 (rw (IsTextOf-unique bytes b.0.0 a.0.0 b.0.1 a.0.1) at b.0.2) a.1 b.1;
      value = λ rows t e. (let m = matrix-some rows (fault-none 1 (matrix_fault rows) e) in (m.0, ((rows, t, m.1), m.2)));
      told = λ f h. (h.1.0, h.1.1, ap (fault_in 1) h.1.2 ∙ rw h.0 refl);
      tells = λ rows f t e. (let s = fault-some 1 (matrix_fault rows) f e in (s.0, (rows, t, s.1)));
    })
