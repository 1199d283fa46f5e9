-- A text reads as one value, or has one fault.
use Rattle.std.proofs.Common.{◌≡◌, ◌∙◌, ℕ, List, Option, Some, None, sym, ap}
use Rattle.definitions.specs.Lotteries.{LotteryValue}
use Rattle.definitions.specs.Texts.{Row}
use Rattle.table_text.proofs.TextFacts.{IsTextOf-unique}
use Rattle.lottery_file.specs.Said.{said_by}
use Rattle.lottery_file.specs.Checks.{fault_of}
use Rattle.lottery_file.specs.Lotteries.{lottery_of, TextReadsAs, TextHasFault}
use Rattle.lottery_file.specs.declared.faults.LotteryKind.{LotteryKind}

pub one-value : (bytes : List ℕ) (l m : LotteryValue) → TextReadsAs bytes l → TextReadsAs bytes m → l ≡ m
one-value bytes l m a b =
    a.2.1 ∙ ap (λ (rows : List Row). lottery_of (said_by rows)) (IsTextOf-unique bytes a.0 b.0 a.1 b.1) ∙ sym b.2.1

pub one-fault : (bytes : List ℕ) (m n : ℕ) (j k : LotteryKind) → TextHasFault bytes m j → TextHasFault bytes n k → (m ≡ n) × (j ≡ k)
one-fault bytes m n j k a b =
    let same : fault_of a.0 ≡ fault_of b.0 = ap (λ (rows : List Row). fault_of rows) (IsTextOf-unique bytes a.0 b.0 a.1 b.1) in
    let told : Path (Option (ℕ × LotteryKind)) (Some (m, j)) (Some (n, k)) = sym a.2 ∙ same ∙ b.2 in
    let pair : (m, j) ≡ (n, k) = cc told in
    (ap (λ (q : ℕ × LotteryKind). q.0) pair, ap (λ (q : ℕ × LotteryKind). q.1) pair)

pub not-both : (bytes : List ℕ) (l : LotteryValue) (n : ℕ) (k : LotteryKind) → TextReadsAs bytes l → ¬ (TextHasFault bytes n k)
not-both bytes l n k a b =
    let same : fault_of a.0 ≡ fault_of b.0 = ap (λ (rows : List Row). fault_of rows) (IsTextOf-unique bytes a.0 b.0 a.1 b.1) in
    let told : Path (Option (ℕ × LotteryKind)) None (Some (n, k)) = sym a.2.0 ∙ same ∙ b.2 in
    cc told
