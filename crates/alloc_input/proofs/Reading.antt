-- One more record of a text.
use Rattle.std.proofs.Common.{◌≡◌, ◌∙◌, ◌+◌, ◌<◌, ◌≤◌, ◌++◌, ◌∷◌, [], ℕ, List, true, length, refl, sym, take, get_or, arith}
use Rattle.std.specs.Prelude.{nat_le}
use Rattle.std.proofs.lemmas.Bool.{and_parts, leb-true}
use Rattle.alloc_input.specs.Quotas.{fields_fit}
use Rattle.alloc_input.specs.declared.quotas.words.Word.{Word}
use Rattle.alloc_input.specs.declared.quotas.words.Word.TheVariants as word
use Rattle.std.proofs.lemmas.List.{take_more}
use Rattle.definitions.specs.Texts.{Row}
use Rattle.alloc_input.specs.Stated.{Setting, Stated, add_record, stated_from, nothing}

pub stated_more : (g : Setting) (st : Stated) (xs : List Row) (r : Row) → stated_from g st (xs ++ r ∷ []) ≡ add_record g (stated_from g st xs) r
unfolding stated_from
stated_more g st [] r = refl
stated_more g st (x ∷ xs) r = stated_more g (add_record g st x) xs r

pub stated_next : (g : Setting) (rows : List Row) (i : ℕ) (r : Row) (s s2 : Stated) → i < length rows → r ≡ get_or rows i [] → s ≡ stated_from g (nothing g) (take i rows) → s2 ≡ add_record g s r
    → s2 ≡ stated_from g (nothing g) (take (i + 1) rows)
stated_next g rows i r s s2 lt e p q = q ∙ rw (p, e, take_more rows i [] lt) (sym (stated_more g (nothing g) (take i rows) (get_or rows i [])))

-- a record that may be of some kind has two fields
pub two_fields : (w : Word) (row : Row) → fields_fit w row ≡ true → 2 ≤ length row
unfolding fields_fit
two_fields word.Object row e = leb-true 2 (length row) (and_parts (nat_le 2 (length row)) (nat_le (length row) 4) e).0
two_fields word.Agent row e = leb-true 2 (length row) (and_parts (nat_le 2 (length row)) (nat_le (length row) 4) e).0
two_fields word.Group row e = leb-true 2 (length row) e
two_fields word.Bundle row e = leb-true 2 (length row) e
two_fields word.Set row e = (let l = leb-true 3 (length row) (and_parts (nat_le 3 (length row)) (nat_le (length row) 5) e).0 in omega (arith, l))
two_fields word.In row e = (let l = leb-true 4 (length row) (and_parts (nat_le 4 (length row)) (nat_le (length row) 4) e).0 in omega (arith, l))
