-- The fields of a record, one after the other.
use Rattle.std.proofs.Common.{◌≡◌, ◌<◌, [], ℕ, List, Option, Some, Result, Ok, Err, length, get_or, take}
use Rattle.std.specs.Result.{IsErrAnd}
use Rattle.definitions.specs.Firsts.{first_among}
use Rattle.lottery_file.specs.Reading.{Checks, StopsAt, IsRefusalFor, Tells}
use Rattle.lottery_file.specs.declared.faults.LotteryRefusal.{LotteryRefusal}
use Rattle.lottery_file.specs.declared.faults.LotteryKind.{LotteryKind}
use Rattle.lottery_file.specs.declared.faults.Stop.{Stop}
use Rattle.lottery_file.specs.declared.faults.Stop.TheVariants as stop
use Rattle.definitions.proofs.Passed.{IsLawfulTo, among-here}

pub stops-here : (s : Stop) (a b : Option LotteryKind) → ((k : LotteryKind) → a ≡ Some k → b ≡ Some k) → StopsAt s a → StopsAt s b
stops-here (stop.Unlawful k) a b f h = f k h
stops-here stop.NoMemory a b f h = tt

-- a stop that was handed on
pub stop-kept : {X : Type 0} (P : X → Type 0) (r : Result X Stop) (s : Stop) (check : Option LotteryKind) → IsErrAnd r (λ t. t ≡ s) → StopsAt s check → Checks r check P
stop-kept P (Ok x) s check h k = absurd h
stop-kept P (Err t) s check h k = rw h k

-- a field that stops the reading stops that of them all
pub field-stops : (check : List (List ℕ) → List ℕ → Option LotteryKind) (fs : List (List ℕ)) (j : ℕ) (s : Stop) → j < length fs
    → IsLawfulTo check fs j → StopsAt s (check (take j fs) (get_or fs j [])) → StopsAt s (first_among check fs)
field-stops check fs j s lt inv h = stops-here s (check (take j fs) (get_or fs j [])) (first_among check fs) (λ k e. among-here check fs j [] k lt inv e) h

pub refused-here : (s : Stop) (n : ℕ) (r : LotteryRefusal) (a : Option LotteryKind) (f : Option (ℕ × LotteryKind)) → ((k : LotteryKind) → a ≡ Some k → f ≡ Some (n, k)) → StopsAt s a → IsRefusalFor s n r → Tells r f
refused-here (stop.Unlawful k) n r a f g h e = rw e (g k h)
refused-here stop.NoMemory n r a f g h e = rw e tt
