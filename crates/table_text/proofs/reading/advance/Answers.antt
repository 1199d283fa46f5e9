use Rattle.std.proofs.Common.{◌≡◌, true, false}
use Rattle.csv.specs.Records.{fields_of}
use Rattle.table_text.proofs.ReadFacts.{read-stops}
use Rattle.table_text.proofs.OneRead.{reads-end, reads-on, reads-row}
use Rattle.table_text.specs.Reading.{known}
use Rattle.table_text.proofs.reading.advance.Goals as goal

pub unread-requires : goal.unread-requires
unread-requires c =
    let why = rw c.in-Err.is at c.read_byte_record.ensures.why in
    read-stops known c.args.reader.now c.read_byte_record.new.self c.in-Err.cause.kind (why c.requires.ready) c.requires.flexible

pub returns-in-Ok-clause-on : goal.returns-in-Ok-clause-on
returns-in-Ok-clause-on c e =
    let found : c.in-Ok.found ≡ true = cc e in
    let reads = (rw c.in-Ok.is at c.read_byte_record.ensures.reads) c.requires.trim c.requires.ready in
    let first = rw c.in-Ok.is at (c.read_byte_record.ensures.ready c.requires.trim) in
    let flexible = rw c.in-Ok.is at c.read_byte_record.ensures.flexible in
    reads-on c.args.reader.now c.read_byte_record.new.self (fields_of c.read_byte_record.new.row) c.requires (rw found at reads) first flexible

pub returns-in-Ok-clause-more : goal.returns-in-Ok-clause-more
returns-in-Ok-clause-more c e =
    let found : c.in-Ok.found ≡ true = cc e in
    let reads = (rw c.in-Ok.is at c.read_byte_record.ensures.reads) c.requires.trim c.requires.ready in
    reads-row c.args.reader.now c.read_byte_record.new.self (fields_of c.read_byte_record.new.row) c.requires (rw found at reads)

pub returns-in-Ok-clause-end : goal.returns-in-Ok-clause-end
returns-in-Ok-clause-end c e =
    let found : c.in-Ok.found ≡ false = cc e in
    let reads = (rw c.in-Ok.is at c.read_byte_record.ensures.reads) c.requires.trim c.requires.ready in
    reads-end c.args.reader.now c.read_byte_record.new.self (fields_of c.read_byte_record.new.row) c.requires (rw found at reads)
