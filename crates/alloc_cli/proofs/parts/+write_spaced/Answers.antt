use Rattle.alloc_cli.specs.Parts.{blank_text}
use Rattle.alloc_cli.proofs.PartsLemmas.{flat_map-split, flat_map-split_rest, writes-after, writes-refused}
use Rattle.alloc_cli.proofs.parts.+write_spaced.Goals as goal

pub returns-in_err-write_after_blank-in-len1-up : goal.returns-in_err-write_after_blank-in-len1-up
returns-in_err-write_after_blank-in-len1-up g n c =
    writes-refused g.K.Sink _ c.in_err-write_after_blank-in-len1-up.ensures c.from_residual.ensures.1 (flat_map-split blank_text c.args.parts.now _ c.in-len1-up.len_at_least)

pub returns-in_ok-write_after_blank-in-len1-up : goal.returns-in_ok-write_after_blank-in-len1-up
returns-in_ok-write_after_blank-in-len1-up g n c =
    writes-after g.K.Sink c.in_ok-write_after_blank-in-len1-up.ensures c.write_spaced.ensures (flat_map-split_rest blank_text c.args.parts.now _ c.in-len1-up.len_at_least)
