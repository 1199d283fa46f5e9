-- Numbered names differ.
use Rattle.std.proofs.Common.{◌≡◌, ℕ, ◌+◌, ◌<◌, false, List, [], ◌∷◌, ◌++◌, length, drop, get_or, ap, sym, ◌∙◌, refl, arith}
use Rattle.std.specs.Fmt.{decimal}
use Rattle.std.specs.List.{range_with_len}
use Rattle.std.specs.Str.{bytes_eq}
use Rattle.std.proofs.lemmas.Bool.{false_from_ne_true}
use Rattle.std.proofs.lemmas.Fmt.{decimal_injective}
use Rattle.std.proofs.lemmas.List.{drop_at}
use Rattle.std.proofs.lemmas.List.Elements.{All-map}
use Rattle.std.proofs.lemmas.List.Folds.{list_any_none}
use Rattle.std.proofs.lemmas.List.FromFn.{length-range_with_len, get_or-range_with_len, map-range_with_len_more}
use Rattle.std.proofs.lemmas.Slice.Eq.{bytes_eq-Decides}
use Rattle.definitions.specs.Texts.{has_name}
use Rattle.alloc_gen.specs.Made.{made_name, made_names}

-- two names with one letter have one number
one_number : (letter : List ℕ) (i j : ℕ) → i < 1000 → j < 1000 → made_name letter i ≡ made_name letter j → i ≡ j
one_number letter i j l h e =
    let same : decimal (i + 1) ≡ decimal (j + 1) = sym (drop_at letter (decimal (i + 1)) (length letter) refl) ∙ ap (drop (length letter)) e ∙ drop_at letter (decimal (j + 1)) (length letter) refl in
    let one = decimal_injective (i + 1) (j + 1) (omega arith) (omega arith) same in
    omega arith

-- the next name is none of those before it
pub name_is_new : (letter : List ℕ) (n : ℕ) → n < 1000 → has_name (made_names letter n) (made_name letter n) ≡ false
name_is_new letter n few = list_any_none (bytes_eq (made_name letter n)) (made_names letter n)
    (All-map (λ name. bytes_eq (made_name letter n) name ≡ false) (made_name letter) (range_with_len 0 n) (λ k d l.
    let inside : k < n = omega (arith, l, length-range_with_len 0 n) in
    let at : get_or (range_with_len 0 n) k d ≡ k = get_or-range_with_len 0 n k d inside ∙ (let plain : 0 + k ≡ k = omega arith in plain) in
    let below : get_or (range_with_len 0 n) k d < n = omega (arith, at, inside) in
    false_from_ne_true (bytes_eq (made_name letter n) (made_name letter (get_or (range_with_len 0 n) k d))) (λ same.
    (let one = one_number letter n (get_or (range_with_len 0 n) k d) few (omega (arith, below, few)) ((bytes_eq-Decides (made_name letter n) (made_name letter (get_or (range_with_len 0 n) k d))).0 same) in
    absurd (omega (arith, one, below))))))

-- one more name
pub names_more : (letter : List ℕ) (n : ℕ) → made_names letter (n + 1) ≡ made_names letter n ++ made_name letter n ∷ []
names_more letter n = map-range_with_len_more (made_name letter) 0 n n (omega arith)
