use Rattle.std.proofs.Common.{None, ◌≡◌, ◌+◌, ◌*◌, refl, arith, length, get_or, replicate, ap, sym, ◌∙◌, subst}
use Rattle.std.proofs.lemmas.List.{length-map, length-replicate}
use Rattle.definitions.specs.Values.{Limit, limits_of, market_of, column_count}
use Rattle.eating_laws.proofs.Limits.{agent_count}
use Rattle.eating.specs.Made.{IsMade}
use Rattle.eating.proofs.Counts.{limits_few}
use Rattle.eating.proofs.Kept.{all_kept}
use Rattle.eating.proofs.Starting.{ceiling_read, zeros}
use Rattle.eating.proofs.eater.Eater.new.Goals as goal

pub invariant_of-result : goal.invariant_of-result
invariant_of-result c =
    let p = c.args.problem.now in
    let h = c.objects.ensures.lawful in
    let ceilings = c.in_ok-ceilings.ensures in
    let start = c.in_ok-progress.ensures in
    let limits : length c.in_ok-ceilings.ceilings.items ≡ length (limits_of p) = ap length ceilings ∙ length-map (limits_of p) (λ (s : Limit). s.ceiling) in
    let agents : c.len-agents.result ≡ length p.agents = c.len-agents.ensures.value ∙ ap length c.agents.ensures.value in
    let columns : c.len-columns.result + 1 ≡ column_count p = ap (λ n. n + 1) (c.len-columns.ensures.value ∙ ap length c.objects.ensures.value) in
    let lines : length c.in_ok-lines.lines.items ≡ length p.agents = c.in_ok-lines.ensures.many ∙ agent_count p h in
    let cells : c.len-agents.result * (c.len-columns.result + 1) ≡ length p.agents * column_count p = ap (λ n. n * (c.len-columns.result + 1)) agents ∙ ap (λ n. length p.agents * n) columns in
    subst (λ v. IsMade v c.in_ok-lines.lines.items c.in_ok-progress.progress c.in_ok-vec.field-0.items c.in_ok-vec-2.field-0.items)
    (sym (all_kept p h c.in_ok-lines.lines.items c.in_ok-lines.ensures (c.len-columns.result + 1) c.in_ok-stated.stated.items columns c.in_ok-stated.ensures)) (record {
      kept = record { problem = p; lawful = h; kept = refl };
      lines_of = c.in_ok-lines.ensures;
      start = record {
        unit = start.unit;
        at = start.at;
        moments = start.moments ∙ ap (λ n. replicate n 1) limits;
        many_rests = ap length start.rests ∙ limits;
        rests = λ j l. ap (λ xs. get_or xs j 0) (start.rests ∙ ceilings) ∙ ceiling_read (market_of p) j l;
        speeds = start.speeds ∙ ap (λ n. replicate n 0) limits;
        places = start.places ∙ ap (λ n. replicate n 0) (agents ∙ sym lines);
        dues = start.dues ∙ ap (λ n. replicate n (record { moment = None })) limits;
      };
      units_many = ap length (c.in_ok-vec.ensures.items_if_clones_equal (λ y e. e)) ∙ length-replicate (c.len-agents.result * (c.len-columns.result + 1)) 0 ∙ cells;
      units_zero = λ n. ap (λ xs. get_or xs n 0) (c.in_ok-vec.ensures.items_if_clones_equal (λ y e. e)) ∙ zeros (c.len-agents.result * (c.len-columns.result + 1)) n;
      caps_many = ap length (c.in_ok-vec-2.ensures.items_if_clones_equal (λ y e. e)) ∙ length-replicate (c.len-agents.result * (c.len-columns.result + 1)) 0 ∙ cells;
    })

pub returns-clause-kept : goal.returns-clause-kept
returns-clause-kept c =
    let p = c.args.problem.now in
    let columns : c.len-columns.result + 1 ≡ column_count p = ap (λ n. n + 1) (c.len-columns.ensures.value ∙ ap length c.objects.ensures.value) in
    all_kept p c.objects.ensures.lawful c.in_ok-lines.lines.items c.in_ok-lines.ensures (c.len-columns.result + 1) c.in_ok-stated.stated.items columns c.in_ok-stated.ensures

pub start-requires : goal.start-requires
start-requires c =
    let p = c.args.problem.now in
    let limits = ap length c.in_ok-ceilings.ensures ∙ length-map (limits_of p) (λ (s : Limit). s.ceiling) in
    omega (arith, limits, limits_few p c.objects.ensures.lawful)
