-- Lists in which each number is related to the next.
use Rattle.std.proofs.Common.{◌≡◌, ℕ, zero, suc, ◌<◌, List, [], ◌∷◌, ◌++◌, length, get_or, refl, arith}

-- from x on along the list each is related to the next
abbrev pub AreSteps : (ℕ → ℕ → Type 0) → ℕ → List ℕ → Type 0
AreSteps R x [] = Unit {0}
AreSteps R x (y ∷ ys) = R x y × AreSteps R y ys

-- the last from x on
abbrev pub last_from : ℕ → List ℕ → ℕ
last_from x [] = x
last_from x (y ∷ ys) = last_from y ys

pub steps_more : (R : ℕ → ℕ → Type 0) (x : ℕ) (ys : List ℕ) (z : ℕ) → AreSteps R x ys → R (last_from x ys) z → AreSteps R x (ys ++ z ∷ [])
steps_more R x [] z h r = (r, tt)
steps_more R x (y ∷ ys) z h r = (h.0, steps_more R y ys z h.1 r)

pub last_more : (x : ℕ) (ys : List ℕ) (z : ℕ) → last_from x (ys ++ z ∷ []) ≡ z
last_more x [] z = refl
last_more x (y ∷ ys) z = last_more y ys z

-- by index
pub steps_at : (R : ℕ → ℕ → Type 0) (x : ℕ) (ys : List ℕ) → AreSteps R x ys → (k : ℕ) → k < length ys → R (get_or (x ∷ ys) k 0) (get_or (x ∷ ys) (suc k) 0)
steps_at R x [] h k l = absurd (omega (arith, l))
steps_at R x (y ∷ ys) h zero l = h.0
steps_at R x (y ∷ ys) h (suc k) l = steps_at R y ys h.1 k (omega (arith, l))

pub last_at : (x : ℕ) (ys : List ℕ) → get_or (x ∷ ys) (length ys) 0 ≡ last_from x ys
last_at x [] = refl
last_at x (y ∷ ys) = last_at y ys
