-- A text reads as a lottery, or it has a fault.
use Rattle.std.proofs.Common.{◌≡◌, ◌⊎◌, ℕ, List, Option, Some, None, refl, inl, inr}
use Rattle.definitions.specs.Lotteries.{LotteryValue}
use Rattle.definitions.specs.Texts.{Row}
use Rattle.table_text.specs.Rows.{IsTextOf}
use Rattle.table_text.proofs.EveryText.{IsTextOf-some}
use Rattle.lottery_file.specs.Said.{said_by}
use Rattle.lottery_file.specs.Checks.{fault_of}
use Rattle.lottery_file.specs.Lotteries.{lottery_of, TextReadsAs, TextHasFault}
use Rattle.lottery_file.specs.declared.faults.LotteryKind.{LotteryKind}

by-fault : (bytes : List ℕ) (rows : List Row) → IsTextOf bytes rows → (o : Option (ℕ × LotteryKind)) → fault_of rows ≡ o → ((l : LotteryValue) × TextReadsAs bytes l) ⊎ ((n : ℕ) × (k : LotteryKind) × TextHasFault bytes n k)
by-fault bytes rows t None e = inl (lottery_of (said_by rows), (rows, t, (e, refl)))
by-fault bytes rows t (Some f) e = inr (f.0, f.1, (rows, t, e))

pub one-of-two : (bytes : List ℕ) → ((l : LotteryValue) × TextReadsAs bytes l) ⊎ ((n : ℕ) × (k : LotteryKind) × TextHasFault bytes n k)
one-of-two bytes = let r = IsTextOf-some bytes in by-fault bytes r.0 r.1 (fault_of r.0) refl
