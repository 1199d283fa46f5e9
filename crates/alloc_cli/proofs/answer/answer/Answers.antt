use Rattle.std.proofs.Common.{inr, string_bytes, ap, sym}
use Rattle.alloc_cli.specs.Load.{bytes_of}
use Rattle.alloc_cli.proofs.LoadLemmas.{names_after, given_by}
use Rattle.alloc_cli.proofs.answer.answer.Goals as goal

pub returns-clause-answered : goal.returns-clause-answered
returns-clause-answered g c =
    inr (record {
      given = bytes_of c.deref.result.now;
      gave = given_by _ _ _ _ _ (names_after string_bytes _ _ c.args.words.now c.file_count.ensures) (ap bytes_of (sym c.deref.ensures.value)) c.in_ok-given.ensures.given;
      stepped = c.decide.ensures.step;
    })
