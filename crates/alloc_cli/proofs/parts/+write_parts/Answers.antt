use Rattle.alloc_cli.specs.Parts.{part_text}
use Rattle.alloc_cli.proofs.PartsLemmas.{flat_map-split, flat_map-split_rest, writes-after, writes-refused}
use Rattle.alloc_cli.proofs.parts.+write_parts.Goals as goal

pub returns-in_err-write_part-in-len1-up : goal.returns-in_err-write_part-in-len1-up
returns-in_err-write_part-in-len1-up g n c = writes-refused g.K.Sink _ c.in_err-write_part-in-len1-up.ensures c.from_residual.ensures.1 (flat_map-split part_text c.args.parts.now _ c.in-len1-up.len_at_least)

pub returns-in_ok-write_part-in-len1-up : goal.returns-in_ok-write_part-in-len1-up
returns-in_ok-write_part-in-len1-up g n c = writes-after g.K.Sink c.in_ok-write_part-in-len1-up.ensures c.write_parts.ensures (flat_map-split_rest part_text c.args.parts.now _ c.in-len1-up.len_at_least)
