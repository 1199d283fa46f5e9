-- Text that is written in parts, and what a writer that takes no memory does.
use Rattle.std.specs.Prelude.{◌≡◌, ℕ, List, ◌++◌, codes, decimal, Result}
use Rattle.std.specs.Fmt.{signed_decimal}
use Rattle.std.specs.List.{flat_map}
use Rattle.device_core.specs.Counts.{WriteCounts}
use Rattle.device_core.specs.Told.{Appended}
use Rattle.device_core.specs.declared.faults.SinkFault.{SinkFault}
use Rattle.device_core.specs.declared.traits.Sink as Sink
use Rattle.alloc_cli.specs.declared.parts.Part.{Part}
use Rattle.alloc_cli.specs.declared.parts.Part.TheVariants as parts

-- the text was appended at Ok, and a front of it after a refusal, which a count tells; and nothing
-- was flushed
pub record Writes {K T : Type 0} (sink : Sink.Ghosts K) (text : List ℕ) (old new : K)
    (result : Result T SinkFault) : Type 0 where
  pub bytes : Appended (sink.written old) (sink.written new) text result
  pub flushed : sink.flushed new ≡ sink.flushed old
  pub cause : WriteCounts (sink.faults old) (sink.faults new)
      (sink.short old) (sink.short new) result

-- the text of a part
abbrev pub part_text : Part → List ℕ
part_text (parts.Text text) = text.now
part_text (parts.U8 number) = decimal number
part_text (parts.U32 number) = decimal number
part_text (parts.U64 number) = decimal number
part_text (parts.U128 number) = decimal number
part_text (parts.I64 number) = signed_decimal number

-- the texts of parts in a row
abbrev pub parts_text : List Part → List ℕ
parts_text parts = flat_map part_text parts

-- a part after a blank
abbrev pub blank_text : Part → List ℕ
blank_text part = codes " " ++ part_text part

-- parts in a row, each after a blank
abbrev pub spaced_text : List Part → List ℕ
spaced_text parts = flat_map blank_text parts
