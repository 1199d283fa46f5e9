use Rattle.std.proofs.Common.{ap, refl, ◌≡◌, ◌<◌, ◌+◌, ◌-◌, ◌^◌, arith, sym, ◌∙◌, length, set, drop}
use Rattle.std.proofs.lemmas.List.{length-set, length-drop, length-take, take_all}
use Rattle.table_text.proofs.DigitFacts.{two-places, fewer-places, digit-step, last-digit, put-front}
use Rattle.table_text.proofs.numbers.digits.Goals as goal

pub loop-rest-preserved : goal.loop-rest-preserved
loop-rest-preserved c =
    let inv = c.loop-rest.invariant in
    let two = two-places c.loop-rest.rest c.loop-rest.at c.loop-rest-test.true inv.1 in
    let small : c.loop-rest.rest < 10 ^ 64 = omega (arith, inv.2, c.ranges.n.fits) in
    (digit-step _ _ _ _ inv.0 c.loop-rest-test.true small inv.4 (omega arith), fewer-places _ _ inv.4 inv.1, omega arith, omega arith, omega arith, length-set _ _ _ ∙ inv.5)

pub returns-clause-text : goal.returns-clause-text
returns-clause-text c =
    let inv = c.loop-rest.invariant in
    let at = c.loop-rest.at - 1 in
    let text = set c.loop-rest.text at (48 + c.loop-rest.rest) in
    let last = last-digit c.args.n c.loop-rest.rest c.loop-rest.at c.loop-rest.text inv.0 (omega arith) inv.4 (omega arith) in
    let size : length text ≡ 39 = length-set c.loop-rest.text at (48 + c.loop-rest.rest) ∙ inv.5 in
    let whole = take_all (39 - at) (drop at text) (omega (arith, size, length-drop at text)) in
    put-front _ _ _ _ _ (c.copy_from_slice.ensures.after ∙ whole) (c.copy_from_slice.ensures.len ∙ length-take (39 - at) c.args.into.now ∙ omega (arith, c.told-into)) last

pub returns-clause-len : goal.returns-clause-len
returns-clause-len c =
    let inv = c.loop-rest.invariant in
    let at = c.loop-rest.at - 1 in
    let text = set c.loop-rest.text at (48 + c.loop-rest.rest) in
    let last = last-digit c.args.n c.loop-rest.rest c.loop-rest.at c.loop-rest.text inv.0 (omega arith) inv.4 (omega arith) in
    let size : length text ≡ 39 = length-set c.loop-rest.text at (48 + c.loop-rest.rest) ∙ inv.5 in
    sym (ap length last ∙ length-drop at text ∙ rw size refl)
