use Rattle.std.proofs.Common.{◌≡◌, ◌∙◌, List, ℕ, Some, ap}
use Rattle.csv.specs.Reading.{source_of, strip_bom}
use Rattle.table_text.specs.Reading.{known}
use Rattle.table_text.proofs.OneRead.{rows-few, rows-of-text}
use Rattle.table_text.proofs.reading.RecordReader.new.Goals as goal

pub returns-clause-text : goal.returns-clause-text
returns-clause-text c =
    let source : source_of known c.from_reader-reader.result ≡ Some (strip_bom (strip_bom c.args.bytes.now)) =
    c.from_reader-reader.ensures.source ∙ ap (λ (xs : List ℕ). Some (strip_bom xs)) c.without_mark.ensures in
    rows-of-text c.from_reader-reader.result c.args.bytes.now c.from_reader-reader.ensures.state source

pub returns-clause-few : goal.returns-clause-few
returns-clause-few c =
    let source : source_of known c.from_reader-reader.result ≡ Some (strip_bom (strip_bom c.args.bytes.now)) =
    c.from_reader-reader.ensures.source ∙ ap (λ (xs : List ℕ). Some (strip_bom xs)) c.without_mark.ensures in
    rows-few c.from_reader-reader.result c.args.bytes.now c.from_reader-reader.ensures.state source
