-- One more choice of an agent.
use Rattle.std.proofs.Common.{◌≡◌, ◌==◌, ◌<◌, ◌∙◌, ◌++◌, ◌∷◌, [], ℕ, suc, List, Some, None, Bool, true, false, refl, sym, length}
use Rattle.std.proofs.Math.Bool.{or-false}
use Rattle.std.specs.List.{list_any}
use Rattle.std.specs.Str.{bytes_eq}
use Rattle.std.proofs.lemmas.Bool.{ne_eqb}
use Rattle.std.proofs.lemmas.List.{append-nil}
use Rattle.std.proofs.lemmas.List.Elements.{filter_map-append}
use Rattle.std.proofs.lemmas.List.Folds.{list_any-append}
use Rattle.std.proofs.lemmas.List.Quantifiers.{position-Some}
use Rattle.definitions.specs.Texts.{is_name, name_index, null_name}
use Rattle.alloc_input.specs.Prefs.{check_choice, check_column, column_of, columns_of}
use Rattle.alloc_input.specs.PrefsReading.{IsAfterChoices}

blank-is-nil : (x : List ℕ) → true ≡ (length x == 0) → x ≡ []
blank-is-nil [] e = refl
blank-is-nil (b ∷ bs) e = cc (e ∙ ne_eqb (suc (length bs)) 0 (λ z. cc z))

pub take-blank : (o e : List (List ℕ)) (x : List ℕ) (cs : List ℕ) (cl : Bool) → true ≡ (length x == 0) → IsAfterChoices o e cs cl
    → (check_choice o e x ≡ None) × IsAfterChoices o (e ++ x ∷ []) cs cl
unfolding check_choice columns_of column_of
take-blank o e x cs cl h a =
    let n = blank-is-nil x h in
    rw n (
      refl,
      (
        a.0 ∙ sym (filter_map-append (column_of o) e ([] ∷ []) ∙ append-nil _),
        a.1 ∙ sym (list_any-append (λ f. bytes_eq f null_name) e ([] ∷ []) ∙ or-false _),
      ),
    )

pub take-null : (o e : List (List ℕ)) (x : List ℕ) (cs : List ℕ) (cl : Bool) → false ≡ (length x == 0) → cl ≡ false → true ≡ bytes_eq x null_name → IsAfterChoices o e cs cl
    → (check_choice o e x ≡ None) × IsAfterChoices o (e ++ x ∷ []) cs true
unfolding check_choice columns_of column_of
take-null o e x cs cl h n q a =
    let still = sym a.1 ∙ n in
    let any = list_any-append (λ f. bytes_eq f null_name) e (x ∷ []) in
    (rw (← h, still, ← q) refl, (a.0 ∙ sym (filter_map-append (column_of o) e (x ∷ []) ∙ rw (← h, ← q) (append-nil _)), sym (any ∙ rw (still, ← q) refl)))

pub take-column : (o e : List (List ℕ)) (x : List ℕ) (k : ℕ) (cs : List ℕ) (cl : Bool) → false ≡ (length x == 0) → cl ≡ false → false ≡ bytes_eq x null_name
    → true ≡ is_name x → Some k ≡ name_index o x → false ≡ list_any (λ j. j == k) cs → IsAfterChoices o e cs cl
    → (check_choice o e x ≡ None) × IsAfterChoices o (e ++ x ∷ []) (cs ++ k ∷ []) cl
unfolding check_choice columns_of column_of
take-column o e x k cs cl h n q m p f a =
    let still = sym a.1 ∙ n in
    let any = list_any-append (λ f. bytes_eq f null_name) e (x ∷ []) in
    let fresh = rw a.0 at f in
    (rw (← h, still, ← q, ← m, ← p, ← fresh) refl, (rw a.0 (sym (filter_map-append (column_of o) e (x ∷ []) ∙ rw (← h, ← q, ← p) refl)), a.1 ∙ sym (any ∙ rw (← q) (or-false _))))

-- a choice that is no declared object, and one that stands on the list
pub unknown-choice : (o e : List (List ℕ)) (x : List ℕ) (cs : List ℕ) (cl : Bool) → false ≡ (length x == 0) → cl ≡ false → false ≡ bytes_eq x null_name
    → true ≡ is_name x → None ≡ name_index o x → IsAfterChoices o e cs cl → check_choice o e x ≡ check_column None (columns_of o e)
unfolding check_choice
unknown-choice o e x cs cl h n q m p a =
    let still = sym a.1 ∙ n in
    rw (← h, still, ← q, ← m, ← p) refl

pub repeated-choice : (o e : List (List ℕ)) (x : List ℕ) (k : ℕ) (cs : List ℕ) (cl : Bool) → false ≡ (length x == 0) → cl ≡ false → false ≡ bytes_eq x null_name
    → true ≡ is_name x → Some k ≡ name_index o x → IsAfterChoices o e cs cl → check_choice o e x ≡ check_column (Some k) cs
unfolding check_choice
repeated-choice o e x k cs cl h n q m p a =
    let still = sym a.1 ∙ n in
    rw (← h, still, ← q, ← m, ← p, ← a.0) refl

-- an object that is found is one of them
pub known-column : (objects : List (List ℕ)) (x : List ℕ) (k : ℕ) → Some k ≡ name_index objects x → k < length objects
known-column objects x k e = (position-Some (bytes_eq x) objects k [] (sym e)).0
