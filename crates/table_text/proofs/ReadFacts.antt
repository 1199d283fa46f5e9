-- Why a record is not read.
use Rattle.std.proofs.Common.{◌≡◌, ◌∙◌, List, ℕ, Option, true, false, refl, sym}
use Rattle.csv.specs.Reading.{ExplainsRead, stops_reader}
use Rattle.csv.specs.declared.error.ErrorKind.{ErrorKind}
use Rattle.csv.specs.declared.error.ErrorKind.TheVariants as kind
use Rattle.csv.specs.declared.reader.Reader.{Reader}

-- a read of bytes, of records of any length, fails by the reader underneath or for want of memory
pub read-stops : {R : Type 0} (rem : R → Option (List ℕ)) (old new : Reader R) (why : ErrorKind)
    → ExplainsRead rem old new false why → old.flexible ≡ true → stops_reader why ≡ true
read-stops rem old new (kind.Io e) h any = refl
read-stops rem old new kind.OutOfMemory h any = refl
read-stops rem old new (kind.UnequalLengths pos expected len) h any = cc (sym h.0 ∙ any)
read-stops rem old new (kind.Utf8 pos err) h any = cc h.0
read-stops rem old new (kind.Serialize why) h any = absurd h
read-stops rem old new (kind.Deserialize pos err) h any = absurd h
