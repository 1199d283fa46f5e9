use Rattle.std.proofs.Common.{◌≡◌, ◌&&◌, ◌∙◌, Bool, true, false, sym, refl, ℕ, List, length, ltb, leb}
use Rattle.std.specs.Prelude.{not, codes}
use Rattle.std.specs.List.{list_all}
use Rattle.std.specs.Str.{IsUtf8, is_utf8, bytes_eq, chars}
use Rattle.std.proofs.lemmas.Str.{IsUtf8-from_is_utf8}
use Rattle.definitions.specs.Texts.{is_name, is_plain}
use Rattle.table_text.proofs.names.name_of.Goals as goal

fourth : (a b s u p : Bool) → (a && (b && (s && (u && p)))) ≡ true → u ≡ true
fourth true true true true p e = refl
fourth true true true false p e = e
fourth true true false u p e = cc e
fourth true false s u p e = cc e
fourth false b s u p e = cc e

name-utf8 : (t : List ℕ) → is_name t ≡ true → IsUtf8 t
name-utf8 t e = IsUtf8-from_is_utf8 t (fourth (ltb 0 (length t)) (leb (length t) 64) (not (bytes_eq t (codes "*"))) (is_utf8 t) (list_all is_plain (chars t)) e)

pub returns-in_default : goal.returns-in_default
returns-in_default c = absurd (c.in_default.ensures.cases.0 (name-utf8 c.args.field.now (sym c.lawful_name.ensures ∙ c.if-not-lawful_name.false)))

pub returns : goal.returns
returns c = rw (c.in-Ok.ensures.cases.0, sym c.lawful_name.ensures ∙ c.if-not-lawful_name.false) refl
