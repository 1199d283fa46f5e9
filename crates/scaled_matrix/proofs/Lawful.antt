-- Given shares are lawful, and so is each entry.
use Rattle.std.proofs.Common.{◌≡◌, ℕ, ◌*◌, ◌<◌, ◌≤◌, List, length, All, get_or, ◌∙◌, sym, ap, subst, arith}
use Rattle.std.proofs.lemmas.List.{length-map, get_or-map}
use Rattle.std.proofs.lemmas.List.Elements.{All-map}
use Rattle.frac128.specs.declared.fractions.Fraction.{Fraction}
use Rattle.frac128.specs.Fraction.{numerator, denominator}
use Rattle.definitions.specs.Values.{Ratio, SharesValue}
use Rattle.scaled_matrix.specs.Entries.{ratio_of, ratios_of, shares_from, IsShare, IsShares}

-- fractions that are at most 1,000, one for each cell, are lawful shares
pub shares_are_lawful : (agents objects : List (List ℕ)) (entries : List Fraction) → length entries ≡ length agents * length objects
    → All (λ x. numerator x ≤ 1000 * denominator x) entries → IsShares (shares_from agents objects entries)
shares_are_lawful agents objects entries shape limit = record {
  shape = length-map entries ratio_of ∙ shape;
  lawful = All-map IsShare ratio_of entries (λ k d l. record {
    positive = (get_or entries k d).positive;
    lowest = (get_or entries k d).lowest;
    limit = limit k d l;
  });
}

-- the entry at the place of a fraction
pub entry_known : (fractions : List Fraction) (entries : List Ratio) (k : ℕ) → ratios_of fractions ≡ entries → k < length fractions → k < length entries
entry_known fractions entries k seen within =
    let many : length entries ≡ length fractions = ap length (sym seen) ∙ length-map fractions ratio_of in
    omega arith

pub entry_is : (fractions : List Fraction) (entries : List Ratio) (k : ℕ) (x : Fraction) → ratios_of fractions ≡ entries → k < length fractions
    → x ≡ get_or fractions k x → get_or entries k (ratio_of x) ≡ ratio_of x
entry_is fractions entries k x seen within is =
    ap (λ (es : List Ratio). get_or es k (ratio_of x)) (sym seen) ∙ get_or-map ratio_of fractions k x (ratio_of x) within ∙ ap ratio_of (sym is)

pub entry_is_share : (given : SharesValue) (k : ℕ) (s : Ratio) → IsShares given → k < length given.entries → get_or given.entries k s ≡ s → IsShare s
entry_is_share given k s lawful within at = subst IsShare at (lawful.lawful k s within)
