-- The least common multiple.
use Rattle.std.specs.Prelude.{◌≡◌, ℕ, ◌-◌, ◌^◌, ◌<◌, min}
use Rattle.std.specs.Int.{◌∣◌}

-- l is the least common multiple of a and b: both divide it, and it divides each number that both divide
pub record IsLcm (a b l : ℕ) : Type 0 where
  pub first : a ∣ l
  pub second : b ∣ l
  pub least : (n : ℕ) → a ∣ n → b ∣ n → l ∣ n

-- the least common multiple of a and b is above top, and `carried` is that multiple, or the greatest u128 where it is larger
pub record IsBeyond (a b top carried : ℕ) : Type 0 where
  pub multiple : ℕ
  pub least : IsLcm a b multiple
  pub above : top < multiple
  pub held : carried ≡ min multiple (2 ^ 128 - 1)
