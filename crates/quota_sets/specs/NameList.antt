-- What contracts say of a list of names.
use Rattle.std.specs.Prelude.{ℕ, ◌<◌, ◌^◌, List, All, length}
use Rattle.std.specs.List.{IsDistinct}
use Rattle.std.specs.Str.{IsUtf8, bytes_eq}

-- distinct texts, few enough that a u32 counts them
pub record AreNames (names : List (List ℕ)) : Type 0 where
  pub distinct : IsDistinct bytes_eq names
  pub texts : All IsUtf8 names
  pub many : length names < 2 ^ 32
