use Rattle.std.proofs.Common.{◌≡◌, ◌<◌, ◌+◌, ◌^◌, sym, arith, ◌∙◌, add-one, true, get_or, take, length}
use Rattle.std.proofs.lemmas.Bool.{eqb-true}
use Rattle.std.proofs.lemmas.Bool.Decides.{nat_tests}
use Rattle.std.proofs.lemmas.List.{take_all}
use Rattle.std.specs.Char.{is_ascii_digit}
use Rattle.std.specs.Str.Parse.{digits_value}
use Rattle.table_text.proofs.CountFacts.{digits-more, not-digits, count-some, count-empty, count-long, count-not, value-step, value-over}
use Rattle.table_text.proofs.numbers.read_count.Goals as goal
use Rattle.table_text.proofs.numbers.read_count.Goals.{then-is_empty-via-then-is_empty, then-is_empty-via-else-is_empty+then-text-gt-MOST_DIGITS}

pub returns-then-is_empty : goal.returns-then-is_empty
returns-then-is_empty c = elim c.then-is_empty.branch [
  | then-is_empty-via-then-is_empty w ↦ count-empty _ (eqb-true _ _ (sym c.is_empty.ensures ∙ w.if-is_empty.true))
  | then-is_empty-via-else-is_empty+then-text-gt-MOST_DIGITS w ↦ count-long _ (omega arith)
]

pub returns-then-not-is_ascii_digit : goal.returns-then-not-is_ascii_digit
returns-then-not-is_ascii_digit c = count-not _ (not-digits _ _ c.loop-b-test.true (sym c.is_ascii_digit.ensures.value ∙ c.if-not-is_ascii_digit.true))

pub returns-in_err-tens : goal.returns-in_err-tens
returns-in_err-tens c =
    let d : is_ascii_digit (get_or c.args.text.now c.loop-b.b-index 0) ≡ true = sym c.is_ascii_digit.ensures.value ∙ c.if-not-is_ascii_digit.false in
    let v = value-step c.args.text.now c.loop-b.b-index c.loop-b.value c.loop-b-test.true d c.loop-b.invariant.1 in
    let over = rw c.in_err-tens.was at c.checked_mul.ensures in
    rw c.from_residual.ensures (value-over c.args.text.now (c.loop-b.b-index + 1) (omega (arith, v, over)))

pub returns-in_err-value : goal.returns-in_err-value
returns-in_err-value c =
    let d : is_ascii_digit (get_or c.args.text.now c.loop-b.b-index 0) ≡ true = sym c.is_ascii_digit.ensures.value ∙ c.if-not-is_ascii_digit.false in
    let v = value-step c.args.text.now c.loop-b.b-index c.loop-b.value c.loop-b-test.true d c.loop-b.invariant.1 in
    let over = rw c.in_err-value.was at c.checked_add.ensures in
    rw c.from_residual-in_err-value.ensures (value-over c.args.text.now (c.loop-b.b-index + 1) (omega (arith, v, over, c.in_ok-tens.ensures, c.from.ensures)))

pub loop-b-preserved : goal.loop-b-preserved
loop-b-preserved c =
    let d : is_ascii_digit (get_or c.args.text.now c.loop-b.b-index 0) ≡ true = sym c.is_ascii_digit.ensures.value ∙ c.if-not-is_ascii_digit.false in
    let v = value-step c.args.text.now c.loop-b.b-index c.loop-b.value c.loop-b-test.true d c.loop-b.invariant.1 in
    (rw add-one (digits-more c.args.text.now c.loop-b.b-index c.loop-b-test.true c.loop-b.invariant.0 d), omega (arith, v, c.in_ok-tens.ensures, c.from.ensures, c.in_ok-value.ensures), omega (arith, c.in_ok-value.ensures))

pub returns : goal.returns
returns c =
    let all : take c.loop-b.b-index c.args.text.now ≡ c.args.text.now = take_all _ _ c.loop-b-test.false in
    let value : c.loop-b.value ≡ digits_value 10 c.args.text.now = rw all at c.loop-b.invariant.1 in
    let size : digits_value 10 c.args.text.now < 2 ^ 128 = rw value at c.loop-b.invariant.2 in
    let some : 0 < length c.args.text.now = grind (arith, nat_tests) in
    rw value (count-some c.args.text.now some (omega arith) (rw all at c.loop-b.invariant.0) size)
