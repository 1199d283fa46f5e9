-- Facts on the digits of a number.
use Rattle.std.proofs.Common.{◌≡◌, ◌<◌, ◌≤◌, ◌+◌, ◌*◌, ◌-◌, ◌/◌, ◌%◌, ◌^◌, ◌++◌, ◌∷◌, [], ℕ, suc, zero, List, refl, sym, drop, set, length, arith, ◌∙◌, append_assoc}
use Rattle.std.proofs.Math.Nat.{pow-suc}
use Rattle.std.proofs.Common.{take}
use Rattle.std.proofs.Math.Seq.{take-append_seam}
use Rattle.std.specs.Fmt.{decimal}
use Rattle.std.proofs.lemmas.List.{drop-set}
use Rattle.std.proofs.lemmas.Fmt.{decimal_step_wide, decimal_digit}

-- a number of two digits or more takes two places
pub two-places : (rest at : ℕ) → 10 ≤ rest → rest < 10 ^ at → 2 ≤ at
two-places rest zero a b = absurd (omega arith)
two-places rest (suc zero) a b = absurd (omega arith)
two-places rest (suc (suc at)) a b = omega arith

-- the number without its last digit takes a place less
pub fewer-places : (rest at : ℕ) → 0 < at → rest < 10 ^ at → rest / 10 < 10 ^ (at - 1)
fewer-places rest zero a b = absurd (omega arith)
fewer-places rest (suc at) a b =
    let p : 10 ^ suc at ≡ 10 ^ at * 10 = pow-suc 10 at in
    let e : suc at - 1 ≡ at = omega arith in
    rw e (omega (arith, p))

-- the last digit goes before those that are there
pub digit-step : (n rest at : ℕ) (text : List ℕ) → decimal n ≡ decimal rest ++ drop at text → 10 ≤ rest → rest < 10 ^ 64 → 0 < at → at ≤ length text
    → decimal n ≡ decimal (rest / 10) ++ drop (at - 1) (set text (at - 1) (48 + rest % 10))
digit-step n rest at text e h k p l =
    let lt : at - 1 < length text = omega arith in
    let back : at - 1 + 1 ≡ at = omega arith in
    rw (drop-set text (at - 1) (48 + rest % 10) lt, back) (e ∙ rw (decimal_step_wide rest h k) (append_assoc (decimal (rest / 10)) ((48 + rest % 10) ∷ []) (drop at text)))

-- so does the first digit, and then all are there
pub last-digit : (n rest at : ℕ) (text : List ℕ) → decimal n ≡ decimal rest ++ drop at text → rest < 10 → 0 < at → at ≤ length text
    → decimal n ≡ drop (at - 1) (set text (at - 1) (48 + rest))
last-digit n rest at text e h p l =
    let lt : at - 1 < length text = omega arith in
    let back : at - 1 + 1 ≡ at = omega arith in
    rw (drop-set text (at - 1) (48 + rest) lt, back) (e ∙ rw (decimal_digit rest h) refl)

-- the copy to the front
pub put-front : (n k : ℕ) (front back text : List ℕ) → front ≡ text → length front ≡ k → decimal n ≡ text → take k (front ++ back) ≡ decimal n
put-front n k front back text e l d = rw (← l, take-append_seam front back) (e ∙ sym d)
