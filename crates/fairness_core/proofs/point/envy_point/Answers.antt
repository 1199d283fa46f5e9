use Rattle.std.proofs.Common.{◌+◌, ◌<◌, ◌≤◌, ◌∙◌, length, ap, sym, arith}
use Rattle.definitions.specs.Sets.{units_of}
use Rattle.definitions.specs.Values.{list_at}
use Rattle.definitions.proofs.FirstFaults.{first-found, first-passes, first-ends}
use Rattle.definitions.proofs.Problems.{list_short}
use Rattle.fairness_core.specs.Envy.{envy_look}
use Rattle.fairness_core.proofs.Points.{look_some, look_none, none_envies, first_is}
use Rattle.fairness_core.proofs.Prefixes.{listed_column, prefix_step, prefix_fits}
use Rattle.fairness_core.proofs.point.envy_point.Goals as goal

pub overflow_add-own : goal.overflow_add-own
overflow_add-own c =
    let fits = prefix_fits c.args.problem.now c.args.x.now c.args.from c.args.from c.loop-place.place c.list-list.result.now c.loop-place.own c.at-own.result
    c.list-list.ensures.value (omega arith) c.at-own.ensures.value c.loop-place.invariant.own
    c.list-list.ensures.lawful c.at-own.ensures.lawful c.requires.columns c.requires.from (omega (arith, c.requires.agents, c.requires.from)) in
    omega (arith, fits)

pub at-other-requires-clause-object : goal.at-other-requires-clause-object
at-other-requires-clause-object c =
    let known = listed_column c.args.problem.now c.args.from c.loop-place.place c.list-list.result.now c.list-list.ensures.lawful c.requires.from c.list-list.ensures.value (omega arith) in
    omega (arith, known, c.requires.columns)

pub overflow_add-other : goal.overflow_add-other
overflow_add-other c =
    let fits = prefix_fits c.args.problem.now c.args.x.now c.args.from c.args.to c.loop-place.place c.list-list.result.now c.loop-place.other c.at-other.result
    c.list-list.ensures.value (omega arith) c.at-other.ensures.value c.loop-place.invariant.other
    c.list-list.ensures.lawful c.at-other.ensures.lawful c.requires.columns c.requires.from (omega (arith, c.requires.agents, c.requires.to)) in
    omega (arith, fits)

pub overflow_cast-result : goal.overflow_cast-result
overflow_cast-result c =
    let short = list_short c.args.problem.now c.args.from c.list-list.ensures.lawful c.requires.from in
    omega (arith, short.1, ap length c.list-list.ensures.value, c.loop-place-test.true)

pub overflow_add-result : goal.overflow_add-result
overflow_add-result c =
    let short = list_short c.args.problem.now c.args.from c.list-list.ensures.lawful c.requires.from in
    omega (arith, short.1, ap length c.list-list.ensures.value, c.loop-place-test.true)

pub returns-then-own-other-clause-exact : goal.returns-then-own-other-clause-exact
returns-then-own-other-clause-exact c =
    let within : c.loop-place.place < length (list_at c.args.problem.now c.args.from) = omega (arith, ap length c.list-list.ensures.value, c.loop-place-test.true) in
    let own = prefix_step c.args.problem.now c.args.x.now c.args.from c.args.from c.loop-place.place c.list-list.result.now c.loop-place.own c.at-own.result
    c.list-list.ensures.value (omega arith) c.at-own.ensures.value c.loop-place.invariant.own in
    let other = prefix_step c.args.problem.now c.args.x.now c.args.from c.args.to c.loop-place.place c.list-list.result.now c.loop-place.other c.at-other.result
    c.list-list.ensures.value (omega arith) c.at-other.ensures.value c.loop-place.invariant.other in
    sym (first-found (envy_look c.args.problem.now (units_of c.args.x.now) c.args.from c.args.to) c.loop-place.place (length (list_at c.args.problem.now c.args.from)) _ within
    (look_some c.args.problem.now (units_of c.args.x.now) c.args.from c.args.to c.loop-place.place (c.loop-place.own + c.at-own.result) (c.loop-place.other + c.at-other.result) own other c.if-own-other.true))
    ∙ c.loop-place.invariant.none

pub returns-then-own-other-clause-point : goal.returns-then-own-other-clause-point
returns-then-own-other-clause-point c =
    let within : c.loop-place.place < length (list_at c.args.problem.now c.args.from) = omega (arith, ap length c.list-list.ensures.value, c.loop-place-test.true) in
    let own = prefix_step c.args.problem.now c.args.x.now c.args.from c.args.from c.loop-place.place c.list-list.result.now c.loop-place.own c.at-own.result
    c.list-list.ensures.value (omega arith) c.at-own.ensures.value c.loop-place.invariant.own in
    let other = prefix_step c.args.problem.now c.args.x.now c.args.from c.args.to c.loop-place.place c.list-list.result.now c.loop-place.other c.at-other.result
    c.list-list.ensures.value (omega arith) c.at-other.ensures.value c.loop-place.invariant.other in
    first_is c.args.problem.now (units_of c.args.x.now) c.args.from c.args.to _
    (sym c.loop-place.invariant.none
    ∙ first-found (envy_look c.args.problem.now (units_of c.args.x.now) c.args.from c.args.to) c.loop-place.place (length (list_at c.args.problem.now c.args.from)) _ within
    (look_some c.args.problem.now (units_of c.args.x.now) c.args.from c.args.to c.loop-place.place (c.loop-place.own + c.at-own.result) (c.loop-place.other + c.at-other.result) own other c.if-own-other.true))

pub loop-place-preserved : goal.loop-place-preserved
loop-place-preserved c =
    let within : c.loop-place.place < length (list_at c.args.problem.now c.args.from) = omega (arith, ap length c.list-list.ensures.value, c.loop-place-test.true) in
    let own = prefix_step c.args.problem.now c.args.x.now c.args.from c.args.from c.loop-place.place c.list-list.result.now c.loop-place.own c.at-own.result
    c.list-list.ensures.value (omega arith) c.at-own.ensures.value c.loop-place.invariant.own in
    let other = prefix_step c.args.problem.now c.args.x.now c.args.from c.args.to c.loop-place.place c.list-list.result.now c.loop-place.other c.at-other.result
    c.list-list.ensures.value (omega arith) c.at-other.ensures.value c.loop-place.invariant.other in
    record {
      own = own;
      other = other;
      none = sym (first-passes (envy_look c.args.problem.now (units_of c.args.x.now) c.args.from c.args.to) c.loop-place.place (length (list_at c.args.problem.now c.args.from)) within
          (look_none c.args.problem.now (units_of c.args.x.now) c.args.from c.args.to c.loop-place.place (c.loop-place.own + c.at-own.result) (c.loop-place.other + c.at-other.result) own other c.if-own-other.false))
          ∙ c.loop-place.invariant.none;
    }

pub returns-clause-point : goal.returns-clause-point
returns-clause-point c =
    let past : length (list_at c.args.problem.now c.args.from) ≤ c.loop-place.place = omega (arith, ap length c.list-list.ensures.value, c.loop-place-test.false) in
    none_envies c.args.problem.now (units_of c.args.x.now) c.args.from c.args.to
    (sym c.loop-place.invariant.none ∙ first-ends (envy_look c.args.problem.now (units_of c.args.x.now) c.args.from c.args.to) c.loop-place.place (length (list_at c.args.problem.now c.args.from)) past)
