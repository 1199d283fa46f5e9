-- Facts on the fields of a record.
use Rattle.std.proofs.Common.{◌≡◌, ◌==◌, ◌≤◌, ◌++◌, ◌∷◌, [], ℕ, suc, zero, List, true, false, Some, None, refl, sym, ap, take, length, arith, ◌∙◌}
use Rattle.std.proofs.lemmas.Bool.{ne_eqb}
use Rattle.std.proofs.Common.{◌+◌, add-one}
use Rattle.std.proofs.lemmas.List.{length-take, take_all}
use Rattle.csv.specs.Records.{field_at}
use Rattle.table_text.specs.Rows.{kept_count}

-- an empty field at the end is not kept
pub kept_count-push-blank : (xs : List (List ℕ)) (f : List ℕ) → (length f == 0) ≡ true → kept_count (xs ++ f ∷ []) ≡ kept_count xs
unfolding kept_count
kept_count-push-blank [] f e = rw e refl
kept_count-push-blank (x ∷ xs) f e = rw (kept_count-push-blank xs f e) refl

-- with a field at the end that is not empty, all are kept
pub kept_count-push-full : (xs : List (List ℕ)) (f : List ℕ) → (length f == 0) ≡ false → kept_count (xs ++ f ∷ []) ≡ suc (length xs)
unfolding kept_count
kept_count-push-full [] f e = rw e refl
kept_count-push-full (x ∷ xs) f e = rw (kept_count-push-full xs f e, ne_eqb (suc (length xs)) 0 (λ z. cc z)) refl

-- the first fields, and one more
pub take-field : (fs : List (List ℕ)) (i : ℕ) (x : List ℕ) → field_at fs i ≡ Some x → take (suc i) fs ≡ take i fs ++ x ∷ []
unfolding field_at
take-field [] i x e = cc e
take-field (f ∷ fs) zero x e = cc e
take-field (f ∷ fs) (suc i) x e = ap (λ (t : List (List ℕ)). f ∷ t) (take-field fs i x e)

-- a field that is not there is past the end
pub no-field : (fs : List (List ℕ)) (i : ℕ) → field_at fs i ≡ None → length fs ≤ i
unfolding field_at
no-field [] i e = omega arith
no-field (f ∷ fs) zero e = cc e
no-field (f ∷ fs) (suc i) e = let h = no-field fs i e in omega arith

-- the loop's steps
pub kept_count-step-full : (fs : List (List ℕ)) (i n : ℕ) (x : List ℕ) → Some x ≡ field_at fs i → false ≡ (length x == 0) → n ≡ i + 1 → i ≤ length fs → n ≡ kept_count (take (i + 1) fs)
kept_count-step-full fs i n x e f s l =
    rw (add-one, take-field fs i x (sym e), kept_count-push-full (take i fs) x (sym f), length-take i fs, s) (omega arith)

-- an empty field, in the count
pub kept_count-step-blank : (fs : List (List ℕ)) (i n : ℕ) (x : List ℕ) → Some x ≡ field_at fs i → true ≡ (length x == 0) → n ≡ kept_count (take i fs) → n ≡ kept_count (take (i + 1) fs)
kept_count-step-blank fs i n x e f s = rw (add-one, take-field fs i x (sym e), kept_count-push-blank (take i fs) x (sym f)) s

-- past the end, in the count
pub kept_count-step-none : (fs : List (List ℕ)) (i n : ℕ) → None ≡ field_at fs i → n ≡ kept_count (take i fs) → n ≡ kept_count (take (i + 1) fs)
kept_count-step-none fs i n e s =
    let l = no-field fs i (sym e) in
    s ∙ ap kept_count (take_all i fs l ∙ sym (take_all (i + 1) fs (omega arith)))

-- one more field of the row
pub take-step : (fs : List (List ℕ)) (i : ℕ) (x : List ℕ) → Some x ≡ field_at fs i → take i fs ++ x ∷ [] ≡ take (i + 1) fs
take-step fs i x e = rw add-one (sym (take-field fs i x (sym e)))
