use Rattle.std.proofs.Common.{map, string_bytes, rules}
use Rattle.alloc_cli.specs.Runs.{FilesCount}
use Rattle.alloc_cli.proofs.CompleteLemmas.{completes, usage_exactly}
use Rattle.alloc_cli.proofs.HeadlineLemmas.{headline}
use Rattle.alloc_cli.proofs.TopLemmas.{ran_from_begun}
use Rattle.alloc_cli.proofs.top.run.Goals as goal
use Rattle.alloc_outcomes.specs.Sentences.{counts_of}
use Rattle.alloc_outcomes.specs.Steps.{OutCount}

pub returns-clause-answer : goal.returns-clause-answer
returns-clause-answer g c =
    ran_from_begun g.K.Sink (g.F.Files.held c.args.files.now) (map string_bytes c.args.words.now) c.args.out.now c.begin-written.new.out c.finish.new.out c.begin-written.result c.finish.result.cause
    c.begin-written.ensures.begun c.finish.ensures.closed

pub returns-clause-complete : goal.returns-clause-complete
returns-clause-complete g c =
    let read : FilesCount (g.F.Files.faults c.args.files.now) (g.F.Files.faults c.begin-written.new.files) c.finish.result.cause = search rules in
    let write : OutCount (g.K.Sink.faults c.args.out.now) (g.K.Sink.faults c.finish.new.out) c.finish.result.cause = search rules in
    completes g.K.Sink (g.F.Files.held c.args.files.now) (map string_bytes c.args.words.now) c.args.out.now c.finish.new.out c.finish.result.cause
    (counts_of g.F.Files g.K.Sink c.args.files.now c.args.out.now) (counts_of g.F.Files g.K.Sink c.begin-written.new.files c.finish.new.out) (returns-clause-answer g c) read write

pub returns-clause-headline : goal.returns-clause-headline
returns-clause-headline g c =
    let read : FilesCount (g.F.Files.faults c.args.files.now) (g.F.Files.faults c.begin-written.new.files) c.finish.result.cause = search rules in
    let write : OutCount (g.K.Sink.faults c.args.out.now) (g.K.Sink.faults c.finish.new.out) c.finish.result.cause = search rules in
    headline g.K.Sink (g.F.Files.held c.args.files.now) (map string_bytes c.args.words.now) c.args.out.now c.finish.new.out
    (counts_of g.F.Files g.K.Sink c.args.files.now c.args.out.now) (counts_of g.F.Files g.K.Sink c.begin-written.new.files c.finish.new.out) c.finish.result.cause (returns-clause-answer g c) read write

pub returns-clause-usage : goal.returns-clause-usage
returns-clause-usage g c =
    usage_exactly g.K.Sink (g.F.Files.held c.args.files.now) (map string_bytes c.args.words.now) c.args.out.now c.finish.new.out c.finish.result.cause (returns-clause-answer g c)
