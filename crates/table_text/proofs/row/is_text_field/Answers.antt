use Rattle.std.proofs.Common.{◌≡◌, ◌∙◌, ℕ, List, sym, Ok, Err, Result}
use Rattle.std.specs.Result.{is_ok, MatchResult}
use Rattle.std.specs.Str.{is_utf8, IsUtf8}
use Rattle.std.proofs.lemmas.Bool.{cases_Bool}
use Rattle.std.proofs.Common.{inl, inr}
use Rattle.std.proofs.lemmas.Str.{IsUtf8-from_is_utf8, is_utf8-from_IsUtf8}
use Rattle.table_text.proofs.row.is_text_field.Goals as goal

told : {T E : Type 0} (P : T → Type 0) (Q : E → Type 0) (bs : List ℕ) (r : Result T E) → MatchResult r (λ s. P s × IsUtf8 bs) (λ e. (¬ (IsUtf8 bs)) × Q e) → is_ok r ≡ is_utf8 bs
told P Q bs (Ok x) h = sym (is_utf8-from_IsUtf8 bs h.1)
told P Q bs (Err e) h = elim (cases_Bool (is_utf8 bs)) [ inl is ↦ absurd (h.0 (IsUtf8-from_is_utf8 bs is)) | inr other ↦ sym other ]

pub returns : goal.returns
returns c = c.is_ok.ensures.value ∙ told _ _ _ _ c.from_utf8.ensures.cases
