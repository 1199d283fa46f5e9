-- The entries of an agent's record, one after the other.
use Rattle.std.proofs.Common.{◌≡◌, ◌∙◌, ◌+◌, ◌-◌, ◌*◌, ◌/◌, ◌<◌, ◌≤◌, ◌++◌, ◌∷◌, [], ℕ, suc, List, refl, sym, ap, subst, length, map, get_or, take, inl, inr, arith, append_assoc}
use Rattle.std.specs.Prelude.{nat_lt, nat_le}
use Rattle.std.specs.List.{AllZip}
use Rattle.std.proofs.Math.Nat.{div-lt_iff_lt-mul, mul-le-mul_left}
use Rattle.std.proofs.lemmas.Bool.{cases_lt, lt-ltb, le-ltb, le-leb, lt-leb}
use Rattle.std.proofs.lemmas.List.{append-nil, map-append, length-map, take_more, take_all}
use Rattle.std.proofs.lemmas.List.Elements.{AllZip-push}
use Rattle.std.proofs.lemmas.List.FromFn.{get_or-map-range_with_len, length-map-range_with_len}
use Rattle.frac128.specs.declared.fractions.Fraction.{Fraction}
use Rattle.definitions.specs.Texts.{Row, field}
use Rattle.definitions.specs.Values.{Ratio}
use Rattle.scaled_matrix.specs.Entries.{ratio_of, ratios_of}
use Rattle.alloc_input.specs.Matrices.{IsSameShare, entry_texts, share_in, shares_of}
use Rattle.alloc_input.specs.MatrixReading.{AddsShares}

-- a quotient tells whether a share is at most 1,000
pub limit-by-quotient : (num den : ℕ) → 0 < den → nat_lt ((num - 1) / den) 1000 ≡ nat_le num (1000 * den)
limit-by-quotient num den p =
    let tells = div-lt_iff_lt-mul {k = den} {x = num - 1} {y = 1000} p in
    elim (cases_lt ((num - 1) / den) 1000) [
      | inl low ↦ (let l = tells.0 low in rw (lt-ltb ((num - 1) / den) 1000 low, le-leb num (1000 * den) (omega (arith, l))) refl)
      | inr high ↦ elim (cases_lt (1000 * den) num) [
        | inl above ↦ rw (le-ltb ((num - 1) / den) 1000 high, lt-leb num (1000 * den) above) refl
        | inr within ↦ absurd (let l = tells.1 (omega (arith, within, p)) in omega (arith, l, high))
      ]
    ]

-- a share in lowest terms is as large as it was
pub limit-kept : (n d num den : ℕ) → 0 < den → n * den ≡ num * d → num ≤ 1000 * den → n ≤ 1000 * d
limit-kept n d num den p e l = elim (cases_lt (1000 * d) n) [
  | inl above ↦
      let more : den * suc (1000 * d) ≤ den * n = mul-le-mul_left den (omega arith) in
      let less : d * num ≤ d * (1000 * den) = mul-le-mul_left d l in
      absurd (omega (arith, more, less, e, p))
  | inr within ↦ within
]

-- the entry of a column
pub text-at : (columns k : ℕ) (row : Row) → k < columns → get_or (entry_texts columns row) k [] ≡ field row (k + 1)
text-at columns k row l = get_or-map-range_with_len (λ a. field row (a + 1)) 0 columns k k [] l (omega arith)

pub length-texts : (columns : ℕ) (row : Row) → length (entry_texts columns row) ≡ columns
length-texts columns row = length-map-range_with_len (λ a. field row (a + 1)) 0 columns

pub length-shares : (columns : ℕ) (row : Row) → length (shares_of columns row) ≡ columns
length-shares columns row = length-map (entry_texts columns row) share_in ∙ length-texts columns row

-- no entry yet
pub no-shares : (old : List Fraction) → AddsShares old old []
no-shares old given h = rw (append-nil given) h

-- one more entry
pub more-shares : (old mid new : List Fraction) (texts : List (List ℕ)) (k : ℕ) (x : Fraction) → k < length texts → new ≡ mid ++ x ∷ [] → IsSameShare (ratio_of x) (share_in (get_or texts k []))
    → AddsShares old mid (map share_in (take k texts)) → AddsShares old new (map share_in (take (k + 1) texts))
more-shares old mid new texts k x lt e s h given a =
    let shares = map share_in (take k texts) in
    let share = share_in (get_or texts k []) in
    let pushed = AllZip-push IsSameShare (ratios_of mid) (given ++ shares) (ratio_of x) share (h given a) s in
    let left : ratios_of new ≡ ratios_of mid ++ ratio_of x ∷ [] = ap ratios_of e ∙ map-append ratio_of mid (x ∷ []) in
    let right : map share_in (take (k + 1) texts) ≡ shares ++ share ∷ [] = ap (map share_in) (take_more texts k [] lt) ∙ map-append share_in (take k texts) (get_or texts k [] ∷ []) in
    let P : List Ratio → Type 0 = λ rs. AllZip IsSameShare rs (given ++ map share_in (take (k + 1) texts)) in
    let Q : List Ratio → Type 0 = λ rs. AllZip IsSameShare (ratios_of mid ++ ratio_of x ∷ []) rs in
    subst P (sym left) (subst Q (sym (ap (λ rs. given ++ rs) right ∙ sym (append_assoc given shares (share ∷ [])))) pushed)

-- all entries
pub all-shares-read : (old new : List Fraction) (columns k : ℕ) (row : Row) → columns ≤ k → AddsShares old new (map share_in (take k (entry_texts columns row))) → AddsShares old new (shares_of columns row)
all-shares-read old new columns k row l h =
    let all = take_all k (entry_texts columns row) (omega (arith, length-texts columns row)) in
    rw all at h
