use Rattle.std.proofs.Common.{◌≡◌, ℕ, zero, suc, ◌*◌, ◌/◌, ◌<◌, ◌∙◌, length, ap, sym, subst, arith}
use Rattle.std.proofs.lemmas.Nat.{div_below}
use Rattle.scaled_matrix.proofs.scaling.place_of.Goals as goal

row_within : (index agents columns : ℕ) → index < agents * columns → index / columns < agents
row_within index agents zero inside = absurd (omega arith)
row_within index agents (suc n) inside = div_below index (suc n) agents (omega arith) inside

row_of : (index agents objects columns entries : ℕ) → index < entries → entries ≡ agents * objects → columns ≡ objects → index / columns < agents
row_of index agents objects columns entries inside shape many =
    let within : index < agents * columns = subst (λ n. index < n) (shape ∙ ap (λ n. agents * n) (sym many)) inside in
    row_within index agents columns within

pub overflow_add-result : goal.overflow_add-result
overflow_add-result c =
    let given = c.args.shares.now in
    let columns = c.len-columns.ensures.value ∙ ap length c.objects.ensures.value in
    omega (arith, row_of c.args.index (length given.agents) (length given.objects) c.len-columns.result (length given.entries) c.requires.known c.objects.ensures.lawful.shape columns)

pub overflow_cast-result : goal.overflow_cast-result
overflow_cast-result c =
    let given = c.args.shares.now in
    let columns = c.len-columns.ensures.value ∙ ap length c.objects.ensures.value in
    omega (arith, row_of c.args.index (length given.agents) (length given.objects) c.len-columns.result (length given.entries) c.requires.known c.objects.ensures.lawful.shape columns)
