-- The faults that are found late in a record's checks, by what holds before them.
use Rattle.std.proofs.Common.{◌≡◌, ℕ, Some, true, false, refl, length}
use Rattle.std.specs.Prelude.{nat_le}
use Rattle.definitions.specs.Texts.{Row, field, name_index, count_of}
use Rattle.lottery_file.specs.Said.{Before}
use Rattle.lottery_file.specs.Checks.{check_give, follows_last}
use Rattle.lottery_file.specs.declared.faults.LotteryKind.TheVariants as kind

-- a give that isn't after the last one
pub give-early : (b : Before) (row : Row) (agent object : ℕ) → length row ≡ 4 → name_index b.agents (field row 1) ≡ Some agent → name_index b.columns (field row 2) ≡ Some object
    → follows_last agent object b.pieces ≡ false → check_give b row ≡ Some kind.WrongOrder
unfolding check_give
give-early b row agent object l e f h = rw (l, e, f, h) refl

-- a give of nothing
pub give-nothing : (b : Before) (row : Row) (agent object count : ℕ) → length row ≡ 4 → name_index b.agents (field row 1) ≡ Some agent → name_index b.columns (field row 2) ≡ Some object
    → follows_last agent object b.pieces ≡ true → count_of (field row 3) ≡ Some count → nat_le 1 count ≡ false → check_give b row ≡ Some kind.BadNumber
unfolding check_give
give-nothing b row agent object count l e f h g n = rw (l, e, f, h, g, n) refl
