-- Names that pass their checks.
use Rattle.std.proofs.Common.{◌≡◌, ◌≢◌, ◌+◌, ◌-◌, ◌<◌, ◌≤◌, ◌∙◌, ◌++◌, ◌∷◌, ◌||◌, [], ℕ, suc, zero, List, Some, None, Bool, true, false, cond, refl, sym, ap, length, get_or, arith, ltb, inl, inr}
use Rattle.std.specs.Prelude.{is_some, is_none, slice_get}
use Rattle.std.specs.Str.{bytes_eq}
use Rattle.std.proofs.lemmas.Bool.{cases_Bool, cases_lt, ltb-true, false_from_ne_true}
use Rattle.std.proofs.lemmas.List.{length_push, get_or_append_left}
use Rattle.std.proofs.lemmas.List.Elements.{All-nil, All-push}
use Rattle.std.proofs.lemmas.List.Quantifiers.{all_pairs_push}
use Rattle.std.proofs.lemmas.Option.{slice_get_within, get_or_from_slice_get, slice_get-get_or}
use Rattle.std.proofs.lemmas.Slice.Eq.{bytes_eq-Decides}
use Rattle.definitions.specs.Texts.{null_name, is_name, name_index}
use Rattle.definitions.specs.Lotteries.{ends_with_none}
use Rattle.definitions.specs.Firsts.{first_among}
use Rattle.definitions.proofs.Passed.{among-keeps}
use Rattle.table_text.proofs.KnownNames.{name-known, name-unknown, none-from}
use Rattle.lottery_file.specs.Checks.{check_agent_name, check_column_name}
use Rattle.lottery_file.specs.Lotteries.{AreLawfulNames, AreColumns}
use Rattle.lottery_file.proofs.SoundChecks.{agent-name-passed, column-name-passed}

-- `none` is known where it is the last name
pub ends-known : (names : List (List ℕ)) → ends_with_none names ≡ true → (0 < length names) × (get_or names (length names - 1) [] ≡ null_name)
ends-known [] e = absurd (cc)
ends-known (name ∷ []) e = (omega arith, (bytes_eq-Decides name null_name).0 e)
ends-known (name ∷ next ∷ names) e =
    let h = ends-known (next ∷ names) e in
    let at : length (name ∷ next ∷ names) - 1 ≡ suc (length (next ∷ names) - 1) = omega arith in
    (omega arith, rw at h.1)

pub ends-push : (names : List (List ℕ)) (name : List ℕ) → ends_with_none (names ++ name ∷ []) ≡ bytes_eq name null_name
ends-push [] name = refl
ends-push (a ∷ []) name = refl
ends-push (a ∷ b ∷ names) name = ends-push (b ∷ names) name

pub no-names : AreLawfulNames []
no-names = record { lawful = All-nil (λ name. is_name name ≡ true); distinct = λ i j d l m. absurd (omega arith) }

pub no-columns : AreColumns []
no-columns = record { names = no-names; null_last = λ k e. absurd (cc); many = omega arith }

-- one more name, which is unlike those before it
pub names-push : (names : List (List ℕ)) (name : List ℕ) → is_name name ≡ true → is_none (name_index names name) ≡ true → AreLawfulNames names → AreLawfulNames (names ++ name ∷ [])
names-push names name is new h = record {
  lawful = All-push (λ name. is_name name ≡ true) names name h.lawful is;
  distinct = all_pairs_push (λ a b. a ≢ b) names name h.distinct (name-unknown names name new);
}

-- what the fields of a record of agents keep
abbrev AreAgents : List (List ℕ) → Type 0
AreAgents names = AreLawfulNames names × (length names ≤ 1000)

pub agents-lawful : (fields : List (List ℕ)) → first_among check_agent_name fields ≡ None → AreLawfulNames fields × (length fields ≤ 1000)
agents-lawful fields e =
    among-keeps check_agent_name AreAgents
    (λ before f c h. let p = agent-name-passed before f c in (names-push before f p.0 p.1 h.0, omega (arith, p.2, length_push before f)))
    fields e (no-names, omega arith)

null-push : (names : List (List ℕ)) (name : List ℕ) → is_none (name_index names null_name) ≡ true
    → (k : ℕ) → slice_get (names ++ name ∷ []) k ≡ Some null_name → k + 1 ≡ length (names ++ name ∷ [])
null-push names name new k e = elim (cases_lt k (length names)) [
  | inl lt ↦ absurd (name-unknown names null_name new k [] lt (sym (get_or_append_left names (name ∷ []) [] k lt) ∙ get_or_from_slice_get (names ++ name ∷ []) k null_name [] e))
  | inr ge ↦ omega (arith, slice_get_within (names ++ name ∷ []) k null_name e, length_push names name)
]

not-ended : (names : List (List ℕ)) → is_none (name_index names null_name) ≡ true → ends_with_none names ≡ false
not-ended names new = false_from_ne_true (ends_with_none names) (λ e. let h = ends-known names e in name-unknown names null_name new (length names - 1) [] (omega (arith, h.0)) h.1)

many-push : (names : List (List ℕ)) (name : List ℕ) → (e t : Bool) → length names ≤ cond e 201 200 → e ≡ false → (t || ltb (length names) 200) ≡ true → length (names ++ name ∷ []) ≤ cond t 201 200
many-push names name e true m n l = let k : length names ≤ 200 = rw n at m in omega (arith, length_push names name, k)
many-push names name e false m n l = omega (arith, length_push names name, ltb-true (length names) 200 l)

-- one more column
pub columns-push : (names : List (List ℕ)) (name : List ℕ) → check_column_name names name ≡ None → AreColumns names → AreColumns (names ++ name ∷ [])
columns-push names name c h =
    let p = column-name-passed names name c in
    record {
      names = names-push names name p.0 p.1 h.names;
      null_last = null-push names name p.2;
      many = rw (ends-push names name) (many-push names name (ends_with_none names) (bytes_eq name null_name) h.many (not-ended names p.2) p.3);
    }

pub columns-lawful : (fields : List (List ℕ)) → first_among check_column_name fields ≡ None → AreColumns fields
columns-lawful fields e = among-keeps check_column_name AreColumns columns-push fields e no-columns

few-at : (ends : Bool) (n : ℕ) → n ≤ cond ends 201 200 → n ≤ 201
few-at true n h = h
few-at false n h = omega (arith, h)

pub columns-few : (names : List (List ℕ)) → AreColumns names → length names ≤ 201
columns-few names h = few-at (ends_with_none names) (length names) h.many

ends-at : (names : List (List ℕ)) (k : ℕ) → k < length names → k + 1 ≡ length names → get_or names k [] ≡ null_name → ends_with_none names ≡ true
ends-at [] k l e same = absurd (omega arith)
ends-at (a ∷ []) zero l e same = (bytes_eq-Decides a null_name).1 same
ends-at (a ∷ []) (suc k) l e same = absurd (omega arith)
ends-at (a ∷ b ∷ names) zero l e same = absurd (omega arith)
ends-at (a ∷ b ∷ names) (suc k) l e same = ends-at (b ∷ names) k (omega arith) (omega arith) same

-- whether `none` is a column: it is the last one
pub priced-ends : (columns : List (List ℕ)) → AreColumns columns → is_some (name_index columns null_name) ≡ ends_with_none columns
priced-ends columns h = elim (cases_Bool (is_some (name_index columns null_name))) [
  | inl is ↦
      let (k, at, lt, same) = name-known columns null_name is in
      let last : k + 1 ≡ length columns = h.null_last k (slice_get-get_or columns k [] lt ∙ ap Some (same [])) in
      is ∙ sym (ends-at columns k lt last (same []))
  | inr isnt ↦ isnt ∙ sym (not-ended columns (none-from (name_index columns null_name) isnt))
]
