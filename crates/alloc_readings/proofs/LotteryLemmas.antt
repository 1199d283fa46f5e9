-- A text is one lottery, or it has one first fault.
use Rattle.std.proofs.Common.{◌≡◌, ℕ, List, Result, Ok, Err, ap, ◌∙◌}
use Rattle.alloc_readings.specs.Lottery.{LotteryReads}
use Rattle.definitions.specs.Lotteries.{LotteryValue}
use Rattle.lottery_file.specs.declared.faults.LotteryFault.{LotteryFault}
use Rattle.lottery_file.specs.declared.faults.LotteryKind.{LotteryKind}
use Rattle.lottery_file.proofs.ReadOnce.{one-value, one-fault, not-both}

abbrev fault_at : ℕ → LotteryKind → LotteryFault
fault_at number kind = record { record_no = number; kind = kind }

same_fault : (f g : LotteryFault) → (f.record_no ≡ g.record_no) × (f.kind ≡ g.kind) → f ≡ g
same_fault f g same = ap (λ n. fault_at n f.kind) same.0 ∙ ap (fault_at g.record_no) same.1

pub one_lottery : (bytes : List ℕ) (r s : Result LotteryValue LotteryFault) → LotteryReads bytes r → LotteryReads bytes s → r ≡ s
one_lottery bytes (Ok l) (Ok m) h k = ap Ok (one-value bytes l m h k)
one_lottery bytes (Ok l) (Err f) h k = absurd (not-both bytes l f.record_no f.kind h k)
one_lottery bytes (Err f) (Ok l) h k = absurd (not-both bytes l f.record_no f.kind k h)
one_lottery bytes (Err f) (Err g) h k = ap Err (same_fault f g (one-fault bytes f.record_no g.record_no f.kind g.kind h k))
