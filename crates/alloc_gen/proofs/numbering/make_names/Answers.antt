use Rattle.std.proofs.Common.{◌≡◌, true, sym, arith}
use Rattle.definitions.specs.Texts.{has_name}
use Rattle.alloc_gen.specs.Made.{made_name, made_names}
use Rattle.alloc_gen.proofs.Numbers.{name_is_new, names_more}
use Rattle.alloc_gen.proofs.numbering.make_names.Goals as goal

pub unreachable-requires : goal.unreachable-requires
unreachable-requires c =
    let letter = c.args.letter.now in
    let i = c.loop-index.index in
    let says = rw c.in-Err-Repeated.field-0-is at c.in-Err-Repeated.ensures.repeated in
    let repeated : true ≡ has_name (made_names letter i) (made_name letter i) = rw (c.loop-index.invariant, c.in_ok-name.ensures) at says in
    let absent = name_is_new letter i (omega arith) in
    cc

pub loop-index-preserved : goal.loop-index-preserved
loop-index-preserved c = rw (c.in-Ok.ensures.added, c.loop-index.invariant, c.in_ok-name.ensures) (sym (names_more c.args.letter.now c.loop-index.index))
