use Rattle.std.proofs.Common.{◌≡◌, ◌<◌, List, length, take, count_by, ap, sym, ◌∙◌, subst, arith, All, true}
use Rattle.std.proofs.lemmas.Bool.{eqb-true}
use Rattle.std.proofs.lemmas.List.{take_all}
use Rattle.definitions.specs.declared.Give.{Give}
use Rattle.definitions.specs.Sets.{units_of}
use Rattle.cert_check.specs.PieceFaults.{is_rounded, is_whole}
use Rattle.cert_check.proofs.Canonical.{give_cell}
use Rattle.cert_check.proofs.WholeCells.{rounded_cells, rounded_more, whole_more, whole_same}
use Rattle.cert_check.proofs.cells.are_gives_rounded.Goals as goal
use Rattle.cert_check.proofs.cells.are_gives_rounded.Goals.{then-units-denominator, else-units-denominator}

pub loop-give-preserved : goal.loop-give-preserved
loop-give-preserved c =
    let within : c.loop-give.give-index < length c.args.gives.now = omega arith in
    let test = ap (λ n. is_rounded c.at-units.result c.denominator.result n) (sym c.from.ensures) ∙ sym c.rounds.ensures ∙ c.if-not-rounds.false in
    let rounded = rounded_more c.args.x.now c.args.gives.now c.loop-give.give-index c.at-units.result c.denominator.result within c.at-units.ensures.value c.denominator.ensures.value test c.loop-give.invariant.rounded in
    elim c.if-units-denominator.branch [
      | then-units-denominator w ↦ record {
        rounded = rounded;
        whole = w.found-is ∙ whole_more c.args.x.now c.args.gives.now c.loop-give.give-index c.loop-give.found c.at-units.result c.denominator-in-loop-give.result within c.at-units.ensures.value c.denominator-in-loop-give.ensures.value c.loop-give.invariant.whole w.if-units-denominator.true;
        few = omega (arith, w.found-is, c.loop-give.invariant.few);
      }
      | else-units-denominator w ↦ record {
        rounded = rounded;
        whole = w.found-is ∙ whole_same c.args.x.now c.args.gives.now c.loop-give.give-index c.loop-give.found c.at-units.result c.denominator-in-loop-give.result within c.at-units.ensures.value c.denominator-in-loop-give.ensures.value c.loop-give.invariant.whole w.if-units-denominator.false;
        few = omega (arith, w.found-is, c.loop-give.invariant.few);
      }
    ]

pub returns : goal.returns
returns c = λ t.
    let all : take c.loop-give.give-index c.args.gives.now ≡ c.args.gives.now = take_all c.loop-give.give-index c.args.gives.now (omega arith) in
    let many = ap (λ (gs : List Give). count_by (λ g. is_whole c.args.x.now (give_cell g)) gs) (sym all) ∙ sym c.loop-give.invariant.whole ∙ eqb-true c.loop-give.found c.args.whole t ∙ c.requires.whole in
    let each = subst (All (λ g. is_rounded (units_of c.args.x.now (give_cell g)) c.args.x.now.denominator g.count ≡ true)) all c.loop-give.invariant.rounded in
    rounded_cells c.args.x.now c.requires.lawful c.args.gives.now c.requires.gives many each
