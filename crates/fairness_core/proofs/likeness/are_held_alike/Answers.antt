use Rattle.std.proofs.Common.{◌≡◌, ℕ, ◌<◌, List, length, take, All, false, refl, ap, sym, subst, arith}
use Rattle.std.proofs.lemmas.Bool.{both_ways}
use Rattle.std.proofs.lemmas.List.{take_all}
use Rattle.std.proofs.lemmas.List.Elements.{All-more}
use Rattle.definitions.specs.Sets.{SetValue}
use Rattle.definitions.specs.Values.{IsStatedSet, stated_sets}
use Rattle.definitions.proofs.Families.{stated_count}
use Rattle.fairness_core.specs.Alike.{HoldsAlike}
use Rattle.fairness_core.proofs.Stated.{stated_known, stated_found}
use Rattle.fairness_core.proofs.likeness.are_held_alike.Goals as goal

pub unwrap-set-requires : goal.unwrap-set-requires
unwrap-set-requires c =
    let within : c.loop-index.index < c.args.problem.now.stated = omega (arith, c.loop-index-test.true, c.stated-index-end.ensures.value) in
    c.get.ensures.found.1 (rw c.family.ensures.value (stated_known c.args.problem.now c.loop-index.index c.family.ensures.lawful within))

pub holds_alike-requires : goal.holds_alike-requires
holds_alike-requires c =
    let within : c.loop-index.index < c.args.problem.now.stated = omega (arith, c.loop-index-test.true, c.stated-index-end.ensures.value) in
    let found = rw (c.unwrap-set.ensures, c.family.ensures.value) at c.get.ensures.value in
    let none : c.len-none.result ≡ length c.args.problem.now.objects = omega (arith, ap length c.objects.ensures.value, c.len-none.ensures.value) in
    let lawful : IsStatedSet (length c.args.problem.now.objects) c.unwrap-set.result.now =
    subst (IsStatedSet (length c.args.problem.now.objects)) (stated_found c.args.problem.now c.loop-index.index c.unwrap-set.result.now c.unwrap-set.result.now within found)
    (c.family.ensures.lawful.stated_lawful c.loop-index.index c.unwrap-set.result.now (omega (arith, stated_count c.args.problem.now c.family.ensures.lawful, within))) in
    subst (λ (n : ℕ). IsStatedSet n c.unwrap-set.result.now) (sym none) lawful

pub returns-then-not-holds_alike-clause-alike : goal.returns-then-not-holds_alike-clause-alike
returns-then-not-holds_alike-clause-alike c = (
  λ t. absurd (both_ways false refl t),
  λ all. absurd (
      let within : c.loop-index.index < c.args.problem.now.stated = omega (arith, c.loop-index-test.true, c.stated-index-end.ensures.value) in
      let found = rw (c.unwrap-set.ensures, c.family.ensures.value) at c.get.ensures.value in
      let none : c.len-none.result ≡ length c.args.problem.now.objects = omega (arith, ap length c.objects.ensures.value, c.len-none.ensures.value) in
      let alike : HoldsAlike (length c.args.problem.now.objects) c.args.one c.args.other c.unwrap-set.result.now.cells =
      subst (λ (s : SetValue). HoldsAlike (length c.args.problem.now.objects) c.args.one c.args.other s.cells) (stated_found c.args.problem.now c.loop-index.index c.unwrap-set.result.now c.unwrap-set.result.now within found)
      (all c.loop-index.index c.unwrap-set.result.now (omega (arith, stated_count c.args.problem.now c.family.ensures.lawful, within))) in
      both_ways false refl (c.if-not-holds_alike.ensures.1 (subst (λ (n : ℕ). HoldsAlike n c.args.one c.args.other c.unwrap-set.result.now.cells) (sym none) alike))
      ),
)

pub loop-index-preserved : goal.loop-index-preserved
loop-index-preserved c =
    let within : c.loop-index.index < c.args.problem.now.stated = omega (arith, c.loop-index-test.true, c.stated-index-end.ensures.value) in
    let found = rw (c.unwrap-set.ensures, c.family.ensures.value) at c.get.ensures.value in
    let none : c.len-none.result ≡ length c.args.problem.now.objects = omega (arith, ap length c.objects.ensures.value, c.len-none.ensures.value) in
    let here : HoldsAlike (length c.args.problem.now.objects) c.args.one c.args.other c.unwrap-set.result.now.cells =
    subst (λ (n : ℕ). HoldsAlike n c.args.one c.args.other c.unwrap-set.result.now.cells) none (c.if-not-holds_alike.ensures.0 refl) in
    All-more (λ (s : SetValue). HoldsAlike (length c.args.problem.now.objects) c.args.one c.args.other s.cells) (stated_sets c.args.problem.now) c.loop-index.index c.unwrap-set.result.now
    (omega (arith, stated_count c.args.problem.now c.family.ensures.lawful, within)) c.loop-index.invariant
    (subst (λ (s : SetValue). HoldsAlike (length c.args.problem.now.objects) c.args.one c.args.other s.cells) (sym (stated_found c.args.problem.now c.loop-index.index c.unwrap-set.result.now c.unwrap-set.result.now within found)) here)

pub returns-clause-alike : goal.returns-clause-alike
returns-clause-alike c =
    let all : take c.loop-index.index (stated_sets c.args.problem.now) ≡ stated_sets c.args.problem.now =
    take_all c.loop-index.index (stated_sets c.args.problem.now) (omega (arith, stated_count c.args.problem.now c.objects.ensures.lawful, c.loop-index-test.false, c.stated-index-end.ensures.value)) in (
      λ t. subst (λ (sets : List SetValue). All (λ (s : SetValue). HoldsAlike (length c.args.problem.now.objects) c.args.one c.args.other s.cells) sets) all c.loop-index.invariant,
      λ h. refl,
    )
