-- Lawful quotas have few objects.
use Rattle.std.proofs.Common.{◌≡◌, ◌≤◌, List, ℕ, None, length, true, sym, subst}
use Rattle.definitions.specs.Texts.{Row}
use Rattle.table_text.specs.Rows.{IsTextOf}
use Rattle.alloc_input.specs.Stated.{setting_of, is_solve}
use Rattle.alloc_input.specs.Quotas.{quotas_fault, IsReadFor}
use Rattle.alloc_input.specs.declared.mode.Mode.{Mode}
use Rattle.alloc_input.specs.declared.mode.Mode.TheVariants as mode
use Rattle.alloc_input.proofs.DeclaredSets.{lawful-quotas-suit}

pub few_objects : (m : Mode) (bytes : List ℕ) (agents objects : List (List ℕ)) (rows : List Row) → IsReadFor m bytes agents objects → IsTextOf bytes rows
    → quotas_fault (setting_of agents objects (is_solve m)) rows ≡ None → length objects ≤ 200
few_objects mode.Decompose bytes agents objects rows h t e = h.due
few_objects mode.Solve bytes agents objects rows h t e =
    let same = h.due rows t in
    let P : List (List ℕ) → Type 0 = λ names. quotas_fault (setting_of agents names true) rows ≡ None in
    let Q : List (List ℕ) → Type 0 = λ names. length names ≤ 200 in
    let lawful = subst P same e in
    subst Q (sym same) ((lawful-quotas-suit agents rows h.many lawful).objects_limit)
