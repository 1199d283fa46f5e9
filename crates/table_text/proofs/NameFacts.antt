-- Facts on names.
use Rattle.std.proofs.Common.{◌≡◌, ◌==◌, ◌≤◌, ℕ, List, true, false, refl, length, arith, ltb, inl, inr}
use Rattle.std.specs.Prelude.{codes}
use Rattle.std.specs.List.{list_all}
use Rattle.std.specs.Str.{bytes_eq, is_utf8, chars, IsUtf8}
use Rattle.std.proofs.lemmas.Bool.{le-leb, cases_Bool}
use Rattle.std.proofs.lemmas.Bool.Decides.{nat_tests}
use Rattle.std.proofs.lemmas.Str.{IsUtf8-from_is_utf8, is_utf8-from_IsUtf8}
use Rattle.definitions.specs.Texts.{is_name, is_plain}

-- a length that is not 0
pub some-bytes : (n : ℕ) → false ≡ (n == 0) → ltb 0 n ≡ true
some-bytes n e = grind (arith, nat_tests)

-- a text that passes the other tests is a name by its code points
pub name-by-chars : (t : List ℕ) → false ≡ (length t == 0) → length t ≤ 64 → false ≡ bytes_eq t (codes "*") → IsUtf8 t → list_all is_plain (chars t) ≡ is_name t
name-by-chars t a b s u = rw (some-bytes (length t) a, le-leb (length t) 64 b, ← s, is_utf8-from_IsUtf8 t u) refl

-- bytes that are no text are no name
pub no-name : (t : List ℕ) → false ≡ (length t == 0) → length t ≤ 64 → false ≡ bytes_eq t (codes "*") → (IsUtf8 t → ⊥) → false ≡ is_name t
no-name t a b s u = elim (cases_Bool (is_utf8 t)) [
  | inl is ↦ absurd (u (IsUtf8-from_is_utf8 t is))
  | inr other ↦ rw (some-bytes (length t) a, le-leb (length t) 64 b, ← s, other) refl
]
