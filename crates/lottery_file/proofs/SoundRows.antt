-- Rows that pass their checks.
use Rattle.std.proofs.Common.{◌≡◌, ◌+◌, ◌*◌, ◌≤◌, ◌∙◌, ◌++◌, ◌∷◌, [], ℕ, List, None, ap, length, drop, map, sum, arith}
use Rattle.std.proofs.lemmas.List.{length-append, length-map, length-drop, map_push}
use Rattle.std.proofs.lemmas.List.Sums.{sum_by-append, sum_by_push}
use Rattle.definitions.specs.Texts.{Row, number}
use Rattle.definitions.proofs.Passed.{among-keeps}
use Rattle.lottery_file.specs.Said.{Before}
use Rattle.lottery_file.specs.Checks.{check_entry, check_entries, check_row}
use Rattle.lottery_file.proofs.SoundWords.{AreUnits}
use Rattle.lottery_file.proofs.SoundChecks.{entry-passed, row-passed}

-- entries that pass stay within the limit, together with those before them
pub entries-within : (limit total : ℕ) (fields : List (List ℕ)) → total ≤ limit → check_entries limit total fields ≡ None → total + sum (map number fields) ≤ limit
unfolding check_entries
entries-within limit total fields t e =
    among-keeps (λ earlier. check_entry limit (total + sum (map number earlier))) (λ earlier. total + sum (map number earlier) ≤ limit)
    (λ before f c h.
    let p = entry-passed limit (total + sum (map number before)) f c in
    let s : sum (map number (before ++ f ∷ [])) ≡ sum (map number before) + number f = ap sum (map_push number before f) ∙ sum_by_push (λ x. x) (map number before) (number f) in
    omega (arith, p, s))
    fields e (omega arith)

row-shape : (units more rows columns : ℕ) → units ≡ rows * columns → more ≡ columns → units + more ≡ (rows + 1) * columns
row-shape units more rows columns e m = omega arith

-- one more row
pub row-sound : (b : Before) (row : Row) → check_row b row ≡ None → AreUnits b.denominator (length b.columns) b.rows b.units
    → AreUnits b.denominator (length b.columns) (b.rows + 1) (b.units ++ map number (drop 2 row))
row-sound b row e h =
    let p = row-passed b row e in
    let entries = map number (drop 2 row) in
    let n : length entries ≡ length b.columns = length-map (drop 2 row) number ∙ omega (arith, length-drop 2 row, p.0) in
    record {
      shape = length-append b.units entries ∙ row-shape (length b.units) (length entries) b.rows (length b.columns) h.shape n;
      total = omega (arith, sum_by-append (λ (x : ℕ). x) b.units entries, entries-within (1000 * b.denominator) (sum b.units) (drop 2 row) h.total p.1);
    }
