use Rattle.std.proofs.Common.{◌≡◌, ◌*◌, refl, arith, length, take, ap, sym, ◌∙◌, subst}
use Rattle.std.proofs.lemmas.Result.{err_from_is_err_and}
use Rattle.definitions.specs.Sets.{IsScaledMatrix, ScaledValue}
use Rattle.definitions.specs.Values.{market_of}
use Rattle.definitions.specs.Eaters.{market_of_eater}
use Rattle.eating.specs.Answers.{IsEatenBy, IsTooFineIn}
use Rattle.eating.specs.Eaten.{IsEatenValue}
use Rattle.eating.specs.Plan.{AreLines}
use Rattle.eating.specs.Runs.{IsRunOf}
use Rattle.eating.specs.Serving.{AreListsWithin}
use Rattle.eating.proofs.Handing.{eater_of, served_read, capped_read, eater_run, eater_lists, eater_many, eater_cells, handed_matrix, handed_value, handed_eaten}
use Rattle.eating.proofs.Kept.{eaten_of_kept}
use Rattle.eating.proofs.OneAnswer.{same_matrix, same_value}
use Rattle.eating.proofs.Starting.{whole_of}
use Rattle.eating.proofs.eater.Eater.finish.Goals as goal

pub eat-requires : goal.eat-requires
eat-requires c =
    let s = c.self.inside in
    let p = c.self.invariant.kept.problem in
    let h = c.self.invariant.kept.lawful in
    let eater = eater_of s c.self.invariant in
    (market_of p, subst (λ lines. IsRunOf (market_of p) lines s.progress) (sym c.deref.ensures.value) (eater_run p h s eater))

pub returns-in_err-eat-clause-too_fine : goal.returns-in_err-eat-clause-too_fine
returns-in_err-eat-clause-too_fine c =
    let s = c.self.inside in
    let p = c.self.invariant.kept.problem in
    let h = c.self.invariant.kept.lawful in
    let eater = eater_of s c.self.invariant in
    let run = subst (λ lines. IsRunOf (market_of p) lines s.progress) (sym c.deref.ensures.value) (eater_run p h s eater) in
    let kept = sym c.self.view_is ∙ c.self.invariant.kept.kept in
    let told = err_from_is_err_and c.from_residual.result c.from_residual.ensures.1 in
    rw (told.1, told.2) (subst (λ v. IsTooFineIn (market_of_eater v) c.in_err-eat.field-0.0.lcm) (sym kept) (c.in_err-eat.ensures.too_fine (market_of p) run))

pub serve-requires-clause-lines : goal.serve-requires-clause-lines
serve-requires-clause-lines c =
    let s = c.self.inside in
    let p = c.self.invariant.kept.problem in
    let h = c.self.invariant.kept.lawful in
    let eater = eater_of s c.self.invariant in
    let run = subst (λ lines. IsRunOf (market_of p) lines s.progress) (sym c.deref.ensures.value) (eater_run p h s eater) in
    let size = (c.in_ok-eat.ensures.table (market_of p) run).size in
    subst (λ lines. AreLines (length c.deref-3.result.now) lines) (sym c.deref-2.ensures.value) (subst (λ n. AreLines n s.lines.items) (sym size ∙ sym (ap length c.deref-3.ensures.value)) eater.lines.limits)

pub serve-requires-clause-lists : goal.serve-requires-clause-lists
serve-requires-clause-lists c =
    let s = c.self.inside in
    let p = c.self.invariant.kept.problem in
    let h = c.self.invariant.kept.lawful in
    let eater = eater_of s c.self.invariant in
    subst (AreListsWithin s.columns) (sym c.deref-2.ensures.value) (eater_lists p h s eater)

pub serve-requires-clause-room : goal.serve-requires-clause-room
serve-requires-clause-room c =
    let s = c.self.inside in
    let p = c.self.invariant.kept.problem in
    let h = c.self.invariant.kept.lawful in
    let eater = eater_of s c.self.invariant in
    ap length c.deref_mut.ensures.value ∙ eater.units ∙ eater_cells p h s eater ∙ ap (λ lines. length lines * s.columns) (sym c.deref-2.ensures.value)

pub serve_caps-requires-clause-lines : goal.serve_caps-requires-clause-lines
serve_caps-requires-clause-lines c =
    let s = c.self.inside in
    let p = c.self.invariant.kept.problem in
    let h = c.self.invariant.kept.lawful in
    let eater = eater_of s c.self.invariant in
    let run = subst (λ lines. IsRunOf (market_of p) lines s.progress) (sym c.deref.ensures.value) (eater_run p h s eater) in
    let size = (c.in_ok-eat.ensures.table (market_of p) run).size in
    subst (λ lines. AreLines (length c.deref-5.result.now) lines) (sym c.deref-4.ensures.value) (subst (λ n. AreLines n s.lines.items) (sym size ∙ sym (ap length c.deref-5.ensures.value)) eater.lines.limits)

pub serve_caps-requires-clause-lists : goal.serve_caps-requires-clause-lists
serve_caps-requires-clause-lists c =
    let s = c.self.inside in
    let p = c.self.invariant.kept.problem in
    let h = c.self.invariant.kept.lawful in
    let eater = eater_of s c.self.invariant in
    subst (AreListsWithin s.columns) (sym c.deref-4.ensures.value) (eater_lists p h s eater)

pub serve_caps-requires-clause-room : goal.serve_caps-requires-clause-room
serve_caps-requires-clause-room c =
    let s = c.self.inside in
    let p = c.self.invariant.kept.problem in
    let h = c.self.invariant.kept.lawful in
    let eater = eater_of s c.self.invariant in
    ap length c.deref_mut-2.ensures.value ∙ eater.caps ∙ eater_cells p h s eater ∙ ap (λ lines. length lines * s.columns) (sym c.deref-4.ensures.value)

pub overflow_cast-len : goal.overflow_cast-len
overflow_cast-len c =
    let s = c.self.inside in
    let p = c.self.invariant.kept.problem in
    let h = c.self.invariant.kept.lawful in
    let eater = eater_of s c.self.invariant in
    omega (arith, c.len.ensures, s.lines.ok, eater_many p h s eater, h.agents_limit)

pub new-requires : goal.new-requires
new-requires c =
    let s = c.self.inside in
    let p = c.self.invariant.kept.problem in
    let h = c.self.invariant.kept.lawful in
    let eater = eater_of s c.self.invariant in
    let run = subst (λ lines. IsRunOf (market_of p) lines s.progress) (sym c.deref.ensures.value) (eater_run p h s eater) in
    let many : length c.serve.new.units ≡ length s.units.items = c.serve.auto.units ∙ ap length c.deref_mut.ensures.value in
    let many_caps : length c.serve_caps.new.caps ≡ length s.caps.items = c.serve_caps.auto.caps ∙ ap length c.deref_mut-2.ensures.value in
    let served = served_read s.columns c.eat.new.self.unit s.lines.items c.deref-2.result.now c.eat.new.self.moments.items c.deref-3.result.now c.serve.new.units c.deref-2.ensures.value c.deref-3.ensures.value c.serve.ensures in
    let sets_is : c.len-sets.result ≡ p.stated = omega (arith, c.len-sets.ensures, s.stated.ok, eater.stated) in
    let capped = capped_read s.columns c.eat.new.self.unit c.len-sets.result s.lines.items c.deref-4.result.now c.eat.new.self.moments.items c.deref-5.result.now c.serve_caps.new.caps c.deref-4.ensures.value c.deref-5.ensures.value c.serve_caps.ensures in
    let agents : c.len.result ≡ length s.lines.items = omega (arith, c.len.ensures, s.lines.ok) in
    let units = whole_of c.serve.new.units s.units.items s.units.len many (omega (arith, s.units.ok)) in
    subst IsScaledMatrix
    (sym (same_matrix _ (record { denominator = c.eat.new.self.unit; agents = length s.lines.items; columns = s.columns; units = c.serve.new.units }) refl agents refl units))
    (handed_matrix p h s eater c.len-sets.result sets_is c.eat.new.self.unit c.eat.new.self.moments.items (c.in_ok-eat.ensures.table (market_of p) run) c.in_ok-eat.ensures.lowest c.in_ok-eat.ensures.fine
    c.serve.new.units c.serve_caps.new.caps many many_caps served capped)

pub new-requires-2 : goal.new-requires-2
new-requires-2 c =
    let s = c.self.inside in
    let p = c.self.invariant.kept.problem in
    let h = c.self.invariant.kept.lawful in
    let eater = eater_of s c.self.invariant in
    let run = subst (λ lines. IsRunOf (market_of p) lines s.progress) (sym c.deref.ensures.value) (eater_run p h s eater) in
    let many : length c.serve.new.units ≡ length s.units.items = c.serve.auto.units ∙ ap length c.deref_mut.ensures.value in
    let many_caps : length c.serve_caps.new.caps ≡ length s.caps.items = c.serve_caps.auto.caps ∙ ap length c.deref_mut-2.ensures.value in
    let served = served_read s.columns c.eat.new.self.unit s.lines.items c.deref-2.result.now c.eat.new.self.moments.items c.deref-3.result.now c.serve.new.units c.deref-2.ensures.value c.deref-3.ensures.value c.serve.ensures in
    let sets_is : c.len-sets.result ≡ p.stated = omega (arith, c.len-sets.ensures, s.stated.ok, eater.stated) in
    let capped = capped_read s.columns c.eat.new.self.unit c.len-sets.result s.lines.items c.deref-4.result.now c.eat.new.self.moments.items c.deref-5.result.now c.serve_caps.new.caps c.deref-4.ensures.value c.deref-5.ensures.value c.serve_caps.ensures in
    let agents : c.len.result ≡ length s.lines.items = omega (arith, c.len.ensures, s.lines.ok) in
    let units = whole_of c.serve.new.units s.units.items s.units.len many (omega (arith, s.units.ok)) in
    let caps = whole_of c.serve_caps.new.caps s.caps.items s.caps.len many_caps (omega (arith, s.caps.ok)) in
    let matrix : ScaledValue = record { denominator = c.eat.new.self.unit; agents = length s.lines.items; columns = s.columns; units = c.serve.new.units } in
    subst IsEatenValue
    (sym (same_value _ (record { moments = take c.len-sets.result c.eat.new.self.moments.items; shares = matrix; caps = c.serve_caps.new.caps }) c.truncate.ensures.items (c.new.ensures ∙ same_matrix _ matrix refl agents refl units) caps))
    (handed_value p h s eater c.len-sets.result sets_is c.eat.new.self.unit c.eat.new.self.moments.items (c.in_ok-eat.ensures.table (market_of p) run) c.in_ok-eat.ensures.lowest c.in_ok-eat.ensures.fine
    c.serve.new.units c.serve_caps.new.caps many many_caps served capped)

pub returns-clause-eaten : goal.returns-clause-eaten
returns-clause-eaten c =
    let s = c.self.inside in
    let p = c.self.invariant.kept.problem in
    let h = c.self.invariant.kept.lawful in
    let eater = eater_of s c.self.invariant in
    let run = subst (λ lines. IsRunOf (market_of p) lines s.progress) (sym c.deref.ensures.value) (eater_run p h s eater) in
    let many : length c.serve.new.units ≡ length s.units.items = c.serve.auto.units ∙ ap length c.deref_mut.ensures.value in
    let many_caps : length c.serve_caps.new.caps ≡ length s.caps.items = c.serve_caps.auto.caps ∙ ap length c.deref_mut-2.ensures.value in
    let served = served_read s.columns c.eat.new.self.unit s.lines.items c.deref-2.result.now c.eat.new.self.moments.items c.deref-3.result.now c.serve.new.units c.deref-2.ensures.value c.deref-3.ensures.value c.serve.ensures in
    let sets_is : c.len-sets.result ≡ p.stated = omega (arith, c.len-sets.ensures, s.stated.ok, eater.stated) in
    let capped = capped_read s.columns c.eat.new.self.unit c.len-sets.result s.lines.items c.deref-4.result.now c.eat.new.self.moments.items c.deref-5.result.now c.serve_caps.new.caps c.deref-4.ensures.value c.deref-5.ensures.value c.serve_caps.ensures in
    let agents : c.len.result ≡ length s.lines.items = omega (arith, c.len.ensures, s.lines.ok) in
    let units = whole_of c.serve.new.units s.units.items s.units.len many (omega (arith, s.units.ok)) in
    let caps = whole_of c.serve_caps.new.caps s.caps.items s.caps.len many_caps (omega (arith, s.caps.ok)) in
    let matrix : ScaledValue = record { denominator = c.eat.new.self.unit; agents = length s.lines.items; columns = s.columns; units = c.serve.new.units } in (
      c.eat.new.self.moments.items,
      eaten_of_kept p h c.args.self (sym c.self.view_is ∙ c.self.invariant.kept.kept) c.eat.new.self.moments.items _ (subst (IsEatenBy p c.eat.new.self.moments.items)
          (sym (c.new-2.ensures ∙ same_value _ (record { moments = take c.len-sets.result c.eat.new.self.moments.items; shares = matrix; caps = c.serve_caps.new.caps }) c.truncate.ensures.items (c.new.ensures ∙ same_matrix _ matrix refl agents refl units) caps))
          (handed_eaten p h s eater c.len-sets.result sets_is c.eat.new.self.unit c.eat.new.self.moments.items (c.in_ok-eat.ensures.table (market_of p) run) c.in_ok-eat.ensures.lowest c.in_ok-eat.ensures.fine
          c.serve.new.units c.serve_caps.new.caps many many_caps served capped)),
    )
