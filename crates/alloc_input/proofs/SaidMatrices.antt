-- What the records of a lawful matrix say.
use Rattle.std.proofs.Common.{◌≡◌, ◌==◌, ◌∙◌, ◌+◌, ◌*◌, ◌<◌, ◌≤◌, ◌++◌, ◌∷◌, [], ℕ, zero, suc, List, Option, Some, None, false, cond, refl, sym, ap, subst, length, map, get_or, take, drop, length-append, mul-le-mul_left, arith, inl, inr}
use Rattle.std.specs.Prelude.{codes, flat_map, is_none, not, nat_le, nat_lt, slice_get, unwrap_or}
use Rattle.std.specs.Int.{◌∣◌}
use Rattle.std.specs.List.{list_all}
use Rattle.std.specs.Str.{is_utf8}
use Rattle.std.proofs.lemmas.Bool.{leb-true, ne_eqb}
use Rattle.std.proofs.lemmas.List.{get_or_append_left, get_or-append-add, get_or-map, get_or_past, length-map, take-map}
use Rattle.std.proofs.lemmas.List.Elements.{AllZip-get_or, length_all_zip}
use Rattle.std.proofs.lemmas.Nat.Gcd.{dvd_refl, dvd-zero}
use Rattle.std.proofs.lemmas.Option.{slice_get_cases, slice_get-get_or, slice_get_within, get_or_from_slice_get}
use Rattle.std.proofs.lemmas.Slice.Eq.{bytes_eq-Decides}
use Rattle.definitions.specs.Firsts.{AreLawful}
use Rattle.definitions.specs.Texts.{Row, field, first_field, is_name, name_index, share_of}
use Rattle.definitions.specs.Values.{Ratio, SharesValue}
use Rattle.definitions.proofs.Passed.{among-keeps, fault-ends, passed}
use Rattle.scaled_matrix.specs.Entries.{IsShare, IsShares}
use Rattle.alloc_input.specs.Matrices.{IsSameShare, ReadsAsMatrix, all_shares, check_entries, check_entry, check_header, check_matrix, check_share, check_shares, entry_texts, header_of, matrix_fault, objects_of, share_in, shares_of}
use Rattle.alloc_input.specs.Prefs.{agent_rows, agents_of, check_end, filled_rows}
use Rattle.alloc_input.specs.SaidMatrices.{HasEntry, IsEntrySaid, row_at, text_at}
use Rattle.alloc_input.specs.declared.faults.InputKind.{InputKind}
use Rattle.alloc_input.specs.declared.faults.InputKind.TheVariants as kind
use Rattle.alloc_input.proofs.EntryFacts.{length-shares, text-at, length-texts}
use Rattle.alloc_input.proofs.FilledRecords.{filled-lawful, push-place, some-passed}
use Rattle.alloc_input.proofs.LawfulLists.{some-agents}

-- ---- the records with fields are lawful

-- the first failed check of a record with fields, after those before it
abbrev check_filled : List Row → Row → Option InputKind
check_filled filled row = cond (not (length filled == 0)) (check_shares (drop 1 (get_or filled 0 [])) (map first_field (drop 1 filled)) row) (check_header row)

passes-filled : (before : List Row) (row : Row) → (length row == 0) ≡ false → check_matrix before row ≡ None → check_filled (filled_rows before) row ≡ None
unfolding check_matrix
passes-filled before row some c = some-passed (length row == 0) (list_all is_utf8 row) _ (check_filled (filled_rows before) row) some c

-- what each record keeps to
pub record ArePassed (rows : List Row) : Type 0 where
  pub header : check_header (header_of rows) ≡ None
  pub each : (i : ℕ) (row : Row) → slice_get (agent_rows rows) i ≡ Some row → check_shares (objects_of rows) (take i (agents_of rows)) row ≡ None

passed-list : (xs : List Row) → AreLawful check_filled xs (length xs) → (length (map first_field (drop 1 xs)) ≡ 0 → ⊥)
    → (check_header (get_or xs 0 []) ≡ None) × ((i : ℕ) (row : Row) → slice_get (drop 1 xs) i ≡ Some row → check_shares (drop 1 (get_or xs 0 [])) (take i (map first_field (drop 1 xs))) row ≡ None)
passed-list [] lawful some = absurd (some refl)
passed-list (x ∷ xs) lawful some = (lawful 0 x (omega arith) refl, later)
  where
    later : (i : ℕ) (row : Row) → slice_get xs i ≡ Some row → check_shares (drop 1 x) (take i (map first_field xs)) row ≡ None
    later i row e =
        let c = lawful (suc i) row (omega (arith, slice_get_within xs i row e)) e in
        rw (take-map first_field i xs) (rw (ne_eqb (suc (length (take i xs))) 0 (λ z. cc z)) at c)

pub passed-records : (rows : List Row) → matrix_fault rows ≡ None → ArePassed rows
passed-records rows e =
    let p = passed-list (filled_rows rows) (filled-lawful check_filled check_matrix check_end passes-filled rows e) (some-agents rows (fault-ends check_matrix check_end [] rows e)) in
    record { header = p.0; each = p.1 }

-- ---- the header

agent-word : (row : Row) → check_header row ≡ None → first_field row ≡ codes "agent"
unfolding check_header
agent-word row e = (bytes_eq-Decides (first_field row) (codes "agent")).0 (passed _ _ _ e).0

pub header-said : (rows : List Row) (m : SharesValue) → ReadsAsMatrix rows m → first_field (header_of rows) ≡ codes "agent"
header-said rows m h = agent-word (header_of rows) (passed-records rows h.lawful).header

-- ---- an agent's record

pub entries-passed : (objects agents : List (List ℕ)) (row : Row) → check_shares objects agents row ≡ None → (length (drop 1 row) ≤ length objects) × (check_entries (length objects) row ≡ None)
unfolding check_shares
entries-passed objects agents row e =
    let named = passed (is_name (first_field row)) kind.BadName _ e in
    let new = passed (is_none (name_index agents (first_field row))) kind.RepeatedAgent _ named.1 in
    let few = passed (nat_lt (length agents) 1000) kind.OverLimit _ new.1 in
    let fit = passed (nat_le (length (drop 1 row)) (length objects)) kind.WrongLength (check_entries (length objects) row) few.1 in
    (leb-true (length (drop 1 row)) (length objects) fit.0, fit.1)

-- no record of an agent is longer than the header
pub fields-said : (rows : List Row) (m : SharesValue) → ReadsAsMatrix rows m → (i : ℕ) → length (row_at rows i) ≤ length (header_of rows)
fields-said rows m h i = longer (row_at rows i) (header_of rows) (header-said rows m h) (within i)
  where
    longer : (row header : Row) → first_field header ≡ codes "agent" → length (drop 1 row) ≤ length (drop 1 header) → length row ≤ length header
    longer row [] e l = absurd (cc e)
    longer [] (f ∷ header) e l = omega arith
    longer (g ∷ row) (f ∷ header) e l = omega (arith, l)

    within : (i : ℕ) → length (drop 1 (row_at rows i)) ≤ length (objects_of rows)
    within i = elim (slice_get_cases (agent_rows rows) i).1 [
      | inl here ↦ rw (get_or_from_slice_get (agent_rows rows) i here.0 [] here.2) (entries-passed (objects_of rows) (take i (agents_of rows)) here.0 ((passed-records rows h.lawful).each i here.0 here.2)).0
      | inr past ↦ rw (get_or_past (agent_rows rows) i [] past.0) (omega arith)
    ]

-- a share that passes is one, of at most 1,000
share-passed : (o : Option Ratio) → check_share o ≡ None → (s : Ratio) × (o ≡ Some s) × (s.num ≤ 1000 * s.den)
share-passed None e = absurd (cc e)
share-passed (Some s) e = (s, refl, leb-true s.num (1000 * s.den) (passed (nat_le s.num (1000 * s.den)) _ None e).0)

-- the entries that pass, from left to right
abbrev pub AreEntries : List (List ℕ) → Type 0
AreEntries texts = (k : ℕ) (text : List ℕ) → slice_get texts k ≡ Some text → (s : Ratio) × (share_of text ≡ Some s) × (s.num ≤ 1000 * s.den)

entries-more : (texts : List (List ℕ)) (text : List ℕ) → check_entry text ≡ None → AreEntries texts → AreEntries (texts ++ text ∷ [])
unfolding check_entry
entries-more texts text c h k x e = elim (push-place texts text x k e) [
  | inl before ↦ h k x before.1
  | inr last ↦ subst (λ (t : List ℕ). (s : Ratio) × (share_of t ≡ Some s) × (s.num ≤ 1000 * s.den)) last.1 (share-passed (share_of text) c)
]

pub entries-are : (columns : ℕ) (row : Row) → check_entries columns row ≡ None → AreEntries (entry_texts columns row)
unfolding check_entries
entries-are columns row e = among-keeps (λ _. check_entry) AreEntries (λ before text c h. entries-more before text c h) (entry_texts columns row) e (λ k x e. absurd (omega (arith, slice_get_within [] k x e)))

-- ---- the entries

-- the shares of rows of one length
pub length-rows : (n : ℕ) (rows : List Row) → length (flat_map (shares_of n) rows) ≡ length rows * n
length-rows n [] = omega arith
length-rows n (r ∷ rows) =
    let wide : suc (length rows) * n ≡ n + length rows * n = grind arith in
    omega (arith, length-append (shares_of n r) (flat_map (shares_of n) rows), length-shares n r, length-rows n rows, wide)

-- the share of a row and a column
share-place : (n : ℕ) (rows : List Row) (i a : ℕ) (d : Ratio) → i < length rows → a < n
    → get_or (flat_map (shares_of n) rows) (i * n + a) d ≡ share_in (field (get_or rows i []) (a + 1))
share-place n [] i a d l below = absurd (omega (arith, l))
share-place n (r ∷ rows) zero a d l below =
    let at : 0 * n + a ≡ a = omega arith in
    rw at (
    get_or_append_left (shares_of n r) (flat_map (shares_of n) rows) d a (omega (arith, length-shares n r, below))
    ∙ get_or-map share_in (entry_texts n r) a [] d (omega (arith, length-texts n r, below))
    ∙ ap share_in (text-at n a r below)
    )
share-place n (r ∷ rows) (suc i) a d l below =
    let wide : suc i * n ≡ n + i * n = grind arith in
    let at : suc i * n + a ≡ length (shares_of n r) + (i * n + a) = omega (arith, length-shares n r, wide) in
    rw at (get_or-append-add (shares_of n r) (flat_map (shares_of n) rows) (i * n + a) d ∙ share-place n rows i a d (omega (arith, l)) below)

pub shape-said : (rows : List Row) (m : SharesValue) → ReadsAsMatrix rows m → length m.entries ≡ length m.agents * length m.objects
unfolding all_shares
shape-said rows m h =
    rw (h.agents_read, h.objects_read, length-map (agent_rows rows) first_field)
    (length_all_zip IsSameShare m.entries (all_shares rows) h.entries_read ∙ length-rows (length (objects_of rows)) (agent_rows rows))

-- a cell's place is within a matrix
place-within : (m n i a : ℕ) → i < m → a < n → i * n + a < m * n
place-within m n i a l below =
    let more : n * suc i ≤ n * m = mul-le-mul_left n l in
    let wide : n * suc i ≡ n + i * n = grind arith in
    let turned : n * m ≡ m * n = grind arith in
    omega (arith, more, wide, turned, below)

-- the field of a lawful record for an object is a share
field-share : (rows : List Row) (i a : ℕ) → ArePassed rows → i < length (agent_rows rows) → a < length (objects_of rows)
    → (s : Ratio) × (share_of (text_at rows i a) ≡ Some s) × (s.num ≤ 1000 * s.den)
field-share rows i a h l below =
    let row = row_at rows i in
    let n = length (objects_of rows) in
    let checked = h.each i row (slice_get-get_or (agent_rows rows) i [] l) in
    let texts = entries-are n row (entries-passed (objects_of rows) (take i (agents_of rows)) row checked).1 in
    texts a (text_at rows i a) (slice_get-get_or (entry_texts n row) a [] (omega (arith, length-texts n row, below)) ∙ ap (λ t. Some t) (text-at n a row below))

-- the share of a cell
entry-said : (rows : List Row) (m : SharesValue) (i a : ℕ) → ReadsAsMatrix rows m → IsShares m → i < length (agent_rows rows) → a < length (objects_of rows)
    → (x : Ratio) × (s : Ratio) × (slice_get m.entries (i * length (objects_of rows) + a) ≡ Some x) × (share_of (text_at rows i a) ≡ Some s) × IsSameShare x s × IsShare x
unfolding all_shares
entry-said rows m i a h lawful l below =
    let n = length (objects_of rows) in
    let zero : Ratio = record { num = 0; den = 1 } in
    let (s, is, limit) = field-share rows i a (passed-records rows h.lawful) l below in
    let many = length_all_zip IsSameShare m.entries (all_shares rows) h.entries_read ∙ length-rows n (agent_rows rows) in
    let within : i * n + a < length m.entries = omega (arith, many, place-within (length (agent_rows rows)) n i a l below) in
    let same = AllZip-get_or IsSameShare m.entries (all_shares rows) (i * n + a) zero zero h.entries_read within in
    let given : get_or (all_shares rows) (i * n + a) zero ≡ s = share-place n (agent_rows rows) i a zero l below ∙ ap (λ o. unwrap_or o zero) is in
    let x = get_or m.entries (i * n + a) zero in
    (x, s, slice_get-get_or m.entries (i * n + a) zero within, is, subst (IsSameShare x) given same, lawful.lawful (i * n + a) zero within)

module _ (rows : List Row) (m : SharesValue) (h : ReadsAsMatrix rows m) (lawful : IsShares m) (i a : ℕ) (l : i < length m.agents) (below : a < length m.objects) where
  agent-within : i < length (agent_rows rows)
  agent-within = omega (arith, l, ap length h.agents_read, length-map (agent_rows rows) first_field)

  object-within : a < length (objects_of rows)
  object-within = omega (arith, below, ap length h.objects_read)

  pub entries-said : IsEntrySaid rows m i a
  entries-said = rw h.objects_read (entry-said rows m i a h lawful agent-within object-within)

  pub missing-said : text_at rows i a ≡ [] → HasEntry m i a (record { num = 0; den = 1 })
  unfolding share_of
  missing-said e =
      let (x, s, at, is, same, share) = entries-said in
      let none : record { num = 0; den = 1 } ≡ s = cc (rw e at is) in
      at ∙ ap (λ y. Some y) (nothing-left x share (subst (IsSameShare x) (sym none) same))
    where
      nothing-left : (x : Ratio) → IsShare x → IsSameShare x (record { num = 0; den = 1 }) → x ≡ record { num = 0; den = 1 }
      nothing-left x share same =
          let num : x.num ≡ 0 = omega (arith, same) in
          let one = share.lowest x.den (subst (λ n. x.den ∣ n) (sym num) (dvd-zero x.den)) (dvd_refl x.den) in
          let den : x.den ≡ 1 = omega (arith, one, share.positive) in
          subst (λ n. x ≡ record { num = n; den = 1 }) num (subst (λ d. x ≡ record { num = x.num; den = d }) den refl)
