-- Lists of names: the empty one, one more name, and bytes that are no text.
use Rattle.std.proofs.Common.{◌≡◌, ◌-◌, ◌<◌, ◌^◌, ◌++◌, [], ◌∷◌, ℕ, List, false, None, String, Global, map, length, inl, inr, refl, sym, subst, arith, length-append}
use Rattle.std.specs.Prelude.{string_bytes, not}
use Rattle.std.specs.List.{IsDistinct, prefix_len}
use Rattle.std.specs.Str.{IsUtf8, bytes_eq}
use Rattle.std.proofs.lemmas.Bool.{cases_Bool, le-ltb}
use Rattle.std.proofs.lemmas.Cmp.{nat_list_eq_equiv}
use Rattle.std.proofs.lemmas.List.Elements.{All-nil, All-push}
use Rattle.std.proofs.lemmas.Map.Keys.{IsDistinct-push}
use Rattle.std.proofs.lemmas.Slice.Eq.{bytes_eq-Decides}
use Rattle.std.proofs.lemmas.Str.{IsUtf8-string_bytes}
use Rattle.definitions.specs.Texts.{has_name, name_index}
use Rattle.quota_sets.specs.NameList.{AreNames}

pub AreNames-nil : AreNames []
unfolding IsDistinct
AreNames-nil = record { distinct = tt; texts = All-nil IsUtf8; many = omega arith }

pub AreNames-push : (names : List (List ℕ)) (name : List ℕ) → AreNames names → IsUtf8 name → has_name names name ≡ false → length names < 2 ^ 32 - 1 → AreNames (names ++ name ∷ [])
AreNames-push names name lawful text absent few = record {
  distinct = IsDistinct-push nat_list_eq_equiv names name lawful.distinct absent;
  texts = All-push IsUtf8 names name lawful.texts text;
  many = omega (arith, length-append names (name ∷ []));
}

none_passes : (bytes : List ℕ) → ¬ (IsUtf8 bytes) → (keys : List (String Global)) → prefix_len (λ x. not (bytes_eq bytes x)) (map string_bytes keys) ≡ length (map string_bytes keys)
none_passes bytes no_text [] = refl
none_passes bytes no_text (key ∷ keys) = elim (cases_Bool (bytes_eq bytes (string_bytes key))) [
  | inl same ↦ absurd (no_text (subst IsUtf8 (sym ((bytes_eq-Decides bytes (string_bytes key)).0 same)) (IsUtf8-string_bytes key)))
  | inr other ↦ rw (other, none_passes bytes no_text keys) (omega arith)
]

-- bytes that are no text are no name
pub name_index-no_text : (bytes : List ℕ) → ¬ (IsUtf8 bytes) → (keys : List (String Global)) → None ≡ name_index (map string_bytes keys) bytes
name_index-no_text bytes no_text keys =
    let e = none_passes bytes no_text keys in
    rw (e, le-ltb (length (map string_bytes keys)) (length (map string_bytes keys)) (omega arith)) refl
