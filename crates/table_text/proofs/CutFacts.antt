-- Facts on the fields that a row cuts from its bytes.
use Rattle.std.proofs.Common.{◌≡◌, ◌<◌, ◌≤◌, ◌++◌, ◌∷◌, [], ℕ, List, refl, sym, drop, take, get_or, length, arith, ◌∙◌, ◌-◌}
use Rattle.std.proofs.lemmas.List.{drop_at, length-append}
use Rattle.csv.specs.Records.{cut_from, last_end, prev, Rising}
use Rattle.csv.proofs.RecordFacts.{cut-end, cut-more, field-cut, field-get, last-append, rising-end, rising-more}

-- no field, and no byte
pub rising-none : (ends bytes : List ℕ) → ends ≡ [] → bytes ≡ [] → Rising 0 ends (length bytes) × (last_end 0 ends ≡ length bytes)
unfolding Rising last_end
rising-none ends bytes e b = rw (e, b) (omega arith, refl)

-- no place, no field
pub cut-none : (ends bytes : List ℕ) → ends ≡ [] → cut_from 0 ends bytes ≡ []
unfolding cut_from
cut-none ends bytes e = rw e refl

-- one more field adds its bytes
longer : (bytes field : List ℕ) → length bytes ≤ length (bytes ++ field)
longer bytes field = omega (arith, length-append bytes field)

-- one more field
pub rising-push : (ends bytes field : List ℕ) → Rising 0 ends (length bytes)
    → Rising 0 (ends ++ length (bytes ++ field) ∷ []) (length (bytes ++ field)) × (last_end 0 (ends ++ length (bytes ++ field) ∷ []) ≡ length (bytes ++ field))
rising-push ends bytes field rise =
    (rising-end 0 ends _ (rising-more 0 ends (length bytes) _ rise (longer bytes field)), last-append 0 ends _)

-- the fields with one more
pub cut-push : (ends bytes field : List ℕ) → Rising 0 ends (length bytes) → last_end 0 ends ≡ length bytes
    → cut_from 0 (ends ++ length (bytes ++ field) ∷ []) (bytes ++ field) ≡ cut_from 0 ends bytes ++ field ∷ []
cut-push ends bytes field rise last =
    cut-end 0 ends (bytes ++ field) (rising-more 0 ends (length bytes) _ rise (longer bytes field))
    ∙ rw (cut-more 0 ends bytes field rise, last, drop_at bytes field (length bytes) refl) refl

-- the field at an index
pub cut-field : (ends bytes : List ℕ) (i : ℕ) → i < length ends
    → take (get_or ends i 0 - prev 0 ends i) (drop (prev 0 ends i) bytes) ≡ get_or (cut_from 0 ends bytes) i []
cut-field ends bytes i lt = sym (field-get (cut_from 0 ends bytes) i _ (field-cut 0 ends bytes i lt))
