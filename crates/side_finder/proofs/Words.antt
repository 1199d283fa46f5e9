-- Words of bits, while they are filled and while they are gathered.
use Rattle.std.proofs.Common.{◌≡◌, ◌≢◌, ℕ, zero, suc, ◌+◌, ◌-◌, ◌*◌, ◌^◌, ◌<◌, ◌≤◌, ◌∙◌, ◌||◌, ◌&&◌, List, [], ◌∷◌, ◌++◌, Bool, true, false, length, get_or, take, replicate, max, min, refl, sym, ap, ap₂, subst, inl, inr, arith, All, take_all}
use Rattle.std.specs.Prelude.{◌==◌, ◌/◌, ◌%◌, bit_and, bit_or, nat_lt, slice_index}
use Rattle.std.specs.Int.{bit_at}
use Rattle.std.specs.List.{list_all, list_any}
use Rattle.std.proofs.lemmas.Bool.{cases_eq, cases_lt, eq-eqb, le-ltb, lt-ltb, ne_eqb, false_from_ne_true}
use Rattle.std.proofs.lemmas.List.{get_or-replicate, get_or_append_left, get_or_past, get_or_push, length-map, length-replicate}
use Rattle.std.proofs.lemmas.List.Folds.{list_all_more, list_any_more}
use Rattle.std.proofs.lemmas.Nat.{mul-le, same_from_place}
use Rattle.std.proofs.lemmas.Nat.Bits.{bit_at-lt, bit_at-zero, bit_at_and, bit_at_ones, bit_at_or}
use Rattle.std.proofs.lemmas.Option.{unwrap_or-slice_get}
use Rattle.plane_kernel.specs.Bits.{bit_of}
use Rattle.definitions.specs.declared.Cell.{Cell}
use Rattle.definitions.specs.Sets.{FamilyValue, IsCellWithin, IsFamily, SetValue, cell_index, cell_of, cells_of, holds, same_cell, set_cells}
use Rattle.definitions.proofs.Cells.{index_within}
use Rattle.definitions.proofs.Members.{cell_decides}
use Rattle.side_finder.specs.declared.overlaps.Overlap.{Overlap}
use Rattle.side_finder.specs.Blocks.{AreEntered, AreHolders, IsOverlap, has_bit, no_overlap}

-- two cells of a matrix at one place are one cell
one_cell : (agents columns : ℕ) (c x : Cell) → IsCellWithin agents columns c → IsCellWithin agents columns x → cell_index columns c ≡ cell_index columns x → c ≡ x
one_cell agents columns c x inside within e =
    let same = same_from_place c.agent c.object x.agent x.object columns inside.1 within.1 e in
    ap (λ (i : ℕ). cell_of i c.object) same.0 ∙ ap (cell_of x.agent) same.1

-- a bit of a plane is a bit of the word at its place
bit_at_place : (words : List ℕ) (place k : ℕ) → k < 64 → bit_of words (64 * place + k) ≡ bit_at (slice_index words place) k
bit_at_place words place k l =
    let word : (64 * place + k) / 64 ≡ place = omega (arith, l) in
    let rest : (64 * place + k) % 64 ≡ k = omega (arith, l) in
    ap (λ (i : ℕ). bit_at (slice_index words i) ((64 * place + k) % 64)) word ∙ ap (bit_at (slice_index words place)) rest

or_none : (x y : Bool) → x ≡ (x || (y && false))
or_none true y = refl
or_none false true = refl
or_none false false = refl

or_here : (x y : Bool) → true ≡ (x || (true && (y || true)))
or_here true y = refl
or_here false true = refl
or_here false false = refl

or_unset : (y : Bool) → y ≡ (y || false)
or_unset true = refl
or_unset false = refl

-- while one set's bit is entered at its cells
pub entered_none : (f : FamilyValue) (s bit : ℕ) (old : List ℕ) → AreEntered f s bit 0 old old
entered_none f s bit old = record { many = refl; right = λ c k inside l. or_none (has_bit (slice_index old (cell_index f.columns c)) k) (k == bit) }

module _ (f : FamilyValue) (s bit count : ℕ) (old words new : List ℕ) (d x : Cell) (place : ℕ) (l : count < length (set_cells f s))
    (is : get_or (set_cells f s) count d ≡ x) (inside_x : IsCellWithin f.agents f.columns x) (at : place ≡ cell_index f.columns x) (low : bit < 64)
    (here : bit_of new (64 * place + bit) ≡ 1) (kept : (k : ℕ) → k ≢ 64 * place + bit → bit_of new k ≡ bit_of words k) where
  more : (c : Cell) → holds (take (count + 1) (set_cells f s)) c ≡ (holds (take count (set_cells f s)) c || same_cell c x)
  more c = list_any_more (same_cell c) (set_cells f s) count d l ∙ ap (λ (y : Cell). holds (take count (set_cells f s)) c || same_cell c y) is

  pub entered_more : length new ≡ length words → AreEntered f s bit count old words → AreEntered f s bit (count + 1) old new
  entered_more many h = record { many = many ∙ h.many; right = right }
    where
      at_cell : (c : Cell) (k : ℕ) → k < 64 → (64 * cell_index f.columns c + k ≡ 64 * place + bit → ⊥)
          → has_bit (slice_index new (cell_index f.columns c)) k ≡ has_bit (slice_index words (cell_index f.columns c)) k
      at_cell c k below other =
          let p = cell_index f.columns c in
          ap (λ (b : ℕ). b == 1) (sym (bit_at_place new p k below) ∙ kept (64 * p + k) other ∙ bit_at_place words p k below)

      right : (c : Cell) (k : ℕ) → IsCellWithin f.agents f.columns c → k < 64
          → has_bit (slice_index new (cell_index f.columns c)) k
          ≡ (has_bit (slice_index old (cell_index f.columns c)) k || ((k == bit) && holds (take (count + 1) (set_cells f s)) c))
      right c k inside below = elim (cases_eq (64 * cell_index f.columns c + k) (64 * place + bit)) [
        | inl e ↦
            let p = cell_index f.columns c in
            let one_bit : k ≡ bit = omega (arith, e, below, low) in
            let one_place : p ≡ place = omega (arith, e, below, low) in
            let same : same_cell c x ≡ true = (cell_decides c x).1 (one_cell f.agents f.columns c x inside inside_x (one_place ∙ at)) in
            let set : has_bit (slice_index new p) k ≡ true = ap (λ (b : ℕ). b == 1) (sym (bit_at_place new p k below) ∙ ap (bit_of new) e ∙ here) in
            set ∙ or_here (has_bit (slice_index old p) k) (holds (take count (set_cells f s)) c)
            ∙ ap₂ (λ (t u : Bool). has_bit (slice_index old p) k || (t && u)) (sym (eq-eqb k bit one_bit)) (sym (more c ∙ ap (λ (t : Bool). holds (take count (set_cells f s)) c || t) same))
        | inr other ↦
            let p = cell_index f.columns c in
            at_cell c k below other ∙ h.right c k inside below
            ∙ ap (λ (t : Bool). has_bit (slice_index old p) k || t) (elim (cases_eq k bit) [
              | inl one_bit ↦
                  let differ : same_cell c x ≡ false = false_from_ne_true (same_cell c x) (λ e.
                  let q : p ≡ place = ap (cell_index f.columns) ((cell_decides c x).0 e) ∙ sym at in other (omega (arith, q, one_bit))) in
                  ap (λ (t : Bool). (k == bit) && t) (or_unset (holds (take count (set_cells f s)) c) ∙ sym (more c ∙ ap (λ (t : Bool). holds (take count (set_cells f s)) c || t) differ))
              | inr another ↦
                  let off = ne_eqb k bit another in
                  ap (λ (t : Bool). t && holds (take count (set_cells f s)) c) off ∙ sym (ap (λ (t : Bool). t && holds (take (count + 1) (set_cells f s)) c) off)
            ])
      ]

-- after the last cell
pub entered_all : (f : FamilyValue) (s bit count : ℕ) (old words : List ℕ) → length (set_cells f s) ≤ count → AreEntered f s bit count old words
    → AreEntered f s bit (length (set_cells f s)) old words
entered_all f s bit count old words all h = record {
  many = h.many;
  right = λ c k inside below.
      h.right c k inside below
      ∙ ap (λ (cells : List Cell). has_bit (slice_index old (cell_index f.columns c)) k || ((k == bit) && holds cells c))
      (take_all count (set_cells f s) all ∙ sym (take_all (length (set_cells f s)) (set_cells f s) (omega arith)));
}

-- the place of a bit of a cell
pub place_few : (f : FamilyValue) → IsFamily f → (c : Cell) → IsCellWithin f.agents f.columns c
    → (cell_index f.columns c < f.agents * f.columns) × (f.agents * f.columns ≤ 201000)
place_few f lawful c inside = (
  index_within f.agents f.columns c.agent c.object inside.0 inside.1,
  (let most : f.agents * f.columns ≤ 1000 * 201 = mul-le f.agents f.columns 1000 201 lawful.agents_limit lawful.columns_limit in omega (arith, most)),
)

-- at first no bit is set
pub holders_none : (f : FamilyValue) (block : ℕ) (words : List ℕ) → words ≡ replicate (f.agents * f.columns) 0 → AreHolders f block 0 words
holders_none f block words e = record {
  many = ap (λ (x : List ℕ). length x) e ∙ length-replicate {A = ℕ} (f.agents * f.columns) 0;
  right = λ c k inside l.
      ap (λ (x : List ℕ). has_bit (slice_index x (cell_index f.columns c)) k) e
      ∙ ap (λ (x : ℕ). has_bit x k) (none (cell_index f.columns c))
      ∙ ap (λ (b : ℕ). b == 1) (bit_at-zero k)
      ∙ sym (ap (λ (t : Bool). t && holds (set_cells f (64 * block + k + 1)) c) (le-ltb k 0 (omega arith)));
}
  where
    none : (i : ℕ) → slice_index (replicate (f.agents * f.columns) 0) i ≡ 0
    none i = elim (cases_lt i (f.agents * f.columns)) [
      | inl l ↦ get_or-replicate (f.agents * f.columns) i 0 0 l
      | inr past ↦ get_or_past (replicate (f.agents * f.columns) 0) i 0 (let size = length-replicate {A = ℕ} (f.agents * f.columns) 0 in omega (arith, past, size))
    ]

-- the bit of one more set
module _ (f : FamilyValue) (block bit : ℕ) (words new : List ℕ) (h : AreHolders f block bit words) where
  abbrev member : Cell → ℕ → Bool
  member c k = holds (set_cells f (64 * block + k + 1)) c

  step_bits : (c : Cell) (k : ℕ) → ((nat_lt k bit && member c k) || ((k == bit) && member c bit)) ≡ (nat_lt k (bit + 1) && member c k)
  step_bits c k = elim (cases_lt k bit) [
    | inl l ↦
        let one = lt-ltb k bit l in
        let next = lt-ltb k (bit + 1) (omega (arith, l)) in
        let off = ne_eqb k bit (λ e. omega (arith, e, l)) in
        ap₂ (λ (t u : Bool). (t && member c k) || (u && member c bit)) one off ∙ sym (or_unset (member c k)) ∙ sym (ap (λ (t : Bool). t && member c k) next)
    | inr from ↦ elim (cases_eq k bit) [
      | inl e ↦
          let one = le-ltb k bit from in
          let next = lt-ltb k (bit + 1) (omega (arith, e)) in
          ap₂ (λ (t u : Bool). (t && member c k) || (u && member c bit)) one (eq-eqb k bit e) ∙ ap (λ (i : ℕ). member c i) (sym e) ∙ sym (ap (λ (t : Bool). t && member c k) next)
      | inr other ↦
          let one = le-ltb k bit from in
          let next = le-ltb k (bit + 1) (let differ = other in omega (arith, from, differ)) in
          let off = ne_eqb k bit other in
          ap₂ (λ (t u : Bool). (t && member c k) || (u && member c bit)) one off ∙ sym (ap (λ (t : Bool). t && member c k) next)
    ]
  ]

  holders_from : (s : ℕ) → s ≡ 64 * block + bit + 1 → length new ≡ length words
      → ((c : Cell) (k : ℕ) → IsCellWithin f.agents f.columns c → k < 64
      → has_bit (slice_index new (cell_index f.columns c)) k ≡ (has_bit (slice_index words (cell_index f.columns c)) k || ((k == bit) && holds (set_cells f s) c)))
      → AreHolders f block (bit + 1) new
  holders_from s e many right = record {
    many = many ∙ h.many;
    right = λ c k inside l.
        right c k inside l
        ∙ ap (λ (t : ℕ). has_bit (slice_index words (cell_index f.columns c)) k || ((k == bit) && holds (set_cells f t) c)) e
        ∙ ap (λ (t : Bool). t || ((k == bit) && member c bit)) (h.right c k inside l) ∙ step_bits c k;
  }

  pub holders_more : (s : ℕ) → s ≡ 64 * block + bit + 1 → AreEntered f s bit (length (set_cells f s)) words new → AreHolders f block (bit + 1) new
  holders_more s e entered =
      holders_from s e entered.many (λ c k inside l.
      entered.right c k inside l
      ∙ ap (λ (cells : List Cell). has_bit (slice_index words (cell_index f.columns c)) k || ((k == bit) && holds cells c)) (take_all (length (set_cells f s)) (set_cells f s) (omega arith)))

  -- there is no such set
  pub holders_past : (s : ℕ) → s ≡ 64 * block + bit + 1 → length f.sets < s → new ≡ words → AreHolders f block (bit + 1) new
  holders_past s e past same =
      let bare : set_cells f (64 * block + bit + 1) ≡ [] =
      unwrap_or-slice_get (cells_of f) (64 * block + bit + 1 - 1) []
      ∙ get_or_past (cells_of f) (64 * block + bit + 1 - 1) [] (omega (arith, e, past, length-map f.sets (λ (q : SetValue). q.cells))) in
      holders_from (64 * block + bit + 1) refl (ap (λ (x : List ℕ). length x) same)
      (λ c k inside l.
      ap (λ (x : List ℕ). has_bit (slice_index x (cell_index f.columns c)) k) same
      ∙ or_none (has_bit (slice_index words (cell_index f.columns c)) k) (k == bit)
      ∙ sym (ap (λ (cells : List Cell). has_bit (slice_index words (cell_index f.columns c)) k || ((k == bit) && holds cells c)) bare))

max_test : (x y : ℕ) → x < 2 → y < 2 → (max x y == 1) ≡ ((x == 1) || (y == 1))
max_test zero zero l m = refl
max_test zero (suc zero) l m = refl
max_test (suc zero) zero l m = refl
max_test (suc zero) (suc zero) l m = refl
max_test zero (suc (suc y)) l m = absurd (omega (arith, m))
max_test (suc zero) (suc (suc y)) l m = absurd (omega (arith, m))
max_test (suc (suc x)) y l m = absurd (omega (arith, l))

min_test : (x y : ℕ) → x < 2 → y < 2 → (min x y == 1) ≡ ((x == 1) && (y == 1))
min_test zero zero l m = refl
min_test zero (suc zero) l m = refl
min_test (suc zero) zero l m = refl
min_test (suc zero) (suc zero) l m = refl
min_test zero (suc (suc y)) l m = absurd (omega (arith, m))
min_test (suc zero) (suc (suc y)) l m = absurd (omega (arith, m))
min_test (suc (suc x)) y l m = absurd (omega (arith, l))

-- the words of the first cells of a set, gathered
pub record AreGathered (words : List ℕ) (columns count : ℕ) (cells : List Cell) (sharing containing : ℕ) : Type 0 where
  pub some : (k : ℕ) → k < 64 → has_bit sharing k ≡ list_any (λ c. has_bit (slice_index words (cell_index columns c)) k) (take count cells)
  pub each : (k : ℕ) → k < 64 → has_bit containing k ≡ list_all (λ c. has_bit (slice_index words (cell_index columns c)) k) (take count cells)

pub gathered_none : (words : List ℕ) (columns : ℕ) (cells : List Cell) → AreGathered words columns 0 cells 0 (2 ^ 64 - 1)
gathered_none words columns cells = record {
  some = λ k l. ap (λ (b : ℕ). b == 1) (bit_at-zero k);
  each = λ k l. ap (λ (b : ℕ). b == 1) (bit_at_ones 64 k l);
}

pub gathered_more : (words : List ℕ) (columns count : ℕ) (cells : List Cell) (sharing containing word : ℕ) (d : Cell) → count < length cells
    → word ≡ slice_index words (cell_index columns (get_or cells count d))
    → AreGathered words columns count cells sharing containing → AreGathered words columns (count + 1) cells (bit_or sharing word) (bit_and containing word)
gathered_more words columns count cells sharing containing word d l e h = record {
  some = λ k below.
      ap (λ (b : ℕ). b == 1) (bit_at_or sharing word k)
      ∙ max_test (bit_at sharing k) (bit_at word k) (bit_at-lt sharing k) (bit_at-lt word k)
      ∙ ap₂ (λ (t : Bool) (w : ℕ). t || has_bit w k) (h.some k below) e
      ∙ sym (list_any_more (λ c. has_bit (slice_index words (cell_index columns c)) k) cells count d l);
  each = λ k below.
      ap (λ (b : ℕ). b == 1) (bit_at_and containing word k)
      ∙ min_test (bit_at containing k) (bit_at word k) (bit_at-lt containing k) (bit_at-lt word k)
      ∙ ap₂ (λ (t : Bool) (w : ℕ). t && has_bit w k) (h.each k below) e
      ∙ sym (list_all_more (λ c. has_bit (slice_index words (cell_index columns c)) k) cells count d l);
}

any_same : (p q : Cell → Bool) (xs : List Cell) → ((k : ℕ) (d : Cell) → k < length xs → p (get_or xs k d) ≡ q (get_or xs k d)) → list_any p xs ≡ list_any q xs
any_same p q [] h = refl
any_same p q (x ∷ xs) h = ap₂ (λ (a b : Bool). a || b) (h 0 x (omega arith)) (any_same p q xs (λ k d l. h (suc k) d (omega (arith, l))))

all_same : (p q : Cell → Bool) (xs : List Cell) → ((k : ℕ) (d : Cell) → k < length xs → p (get_or xs k d) ≡ q (get_or xs k d)) → list_all p xs ≡ list_all q xs
all_same p q [] h = refl
all_same p q (x ∷ xs) h = ap₂ (λ (a b : Bool). a && b) (h 0 x (omega arith)) (all_same p q xs (λ k d l. h (suc k) d (omega (arith, l))))

-- what was gathered says which sets share a cell with the set, and which contain it
module _ (f : FamilyValue) (block s : ℕ) (words : List ℕ) (h : AreHolders f block 64 words) (inside : All (IsCellWithin f.agents f.columns) (set_cells f s)) where
  bit_right : (k : ℕ) → k < 64 → (i : ℕ) (d : Cell) → i < length (set_cells f s)
      → has_bit (slice_index words (cell_index f.columns (get_or (set_cells f s) i d))) k ≡ holds (set_cells f (64 * block + k + 1)) (get_or (set_cells f s) i d)
  bit_right k below i d l =
      let c : Cell = get_or (set_cells f s) i d in
      h.right c k (inside i d l) below ∙ ap (λ (t : Bool). t && holds (set_cells f (64 * block + k + 1)) c) (lt-ltb k 64 below)

  pub overlap_right : (o : Overlap)
      → ((k : ℕ) → k < 64 → has_bit o.sharing k ≡ list_any (λ c. has_bit (slice_index words (cell_index f.columns c)) k) (set_cells f s))
      → ((k : ℕ) → k < 64 → has_bit o.containing k ≡ list_all (λ c. has_bit (slice_index words (cell_index f.columns c)) k) (set_cells f s))
      → IsOverlap f block s o
  overlap_right o some each = record {
    sharing = λ k l. some k l ∙ any_same (λ c. has_bit (slice_index words (cell_index f.columns c)) k) (holds (set_cells f (64 * block + k + 1))) (set_cells f s) (bit_right k l);
    containing = λ k l. each k l ∙ all_same (λ c. has_bit (slice_index words (cell_index f.columns c)) k) (holds (set_cells f (64 * block + k + 1))) (set_cells f s) (bit_right k l);
  }

  pub overlap_gathered : (columns : ℕ) (cells : List Cell) → columns ≡ f.columns → cells ≡ set_cells f s → (o : Overlap)
      → ((k : ℕ) → k < 64 → has_bit o.sharing k ≡ list_any (λ c. has_bit (slice_index words (cell_index columns c)) k) cells)
      → ((k : ℕ) → k < 64 → has_bit o.containing k ≡ list_all (λ c. has_bit (slice_index words (cell_index columns c)) k) cells)
      → IsOverlap f block s o
  overlap_gathered columns cells e is o some each =
      overlap_right o
      (λ k l. some k l ∙ ap₂ (λ (n : ℕ) (xs : List Cell). list_any (λ c. has_bit (slice_index words (cell_index n c)) k) xs) e is)
      (λ k l. each k l ∙ ap₂ (λ (n : ℕ) (xs : List Cell). list_all (λ c. has_bit (slice_index words (cell_index n c)) k) xs) e is)

-- one more set
pub overlaps_more : (f : FamilyValue) (block : ℕ) (row : List Overlap) (o : Overlap) (s : ℕ) → length row + 1 ≡ s
    → ((a : ℕ) → a + 1 < s → IsOverlap f block (a + 1) (get_or row a no_overlap)) → IsOverlap f block s o
    → (a : ℕ) → a + 1 < s + 1 → IsOverlap f block (a + 1) (get_or (row ++ o ∷ []) a no_overlap)
overlaps_more f block row o s many h here a l = elim (cases_lt a (length row)) [
  | inl before ↦ subst (λ (x : Overlap). IsOverlap f block (a + 1) x) (sym (get_or_append_left row (o ∷ []) no_overlap a before)) (h a (omega (arith, before, many)))
  | inr from ↦
      let e : length row ≡ a = omega (arith, l, from, many) in
      let next : s ≡ a + 1 = omega (arith, e, many) in
      subst (λ (x : Overlap). IsOverlap f block (a + 1) x) (sym (get_or_push row o no_overlap a e)) (subst (λ (t : ℕ). IsOverlap f block t o) next here)
]
