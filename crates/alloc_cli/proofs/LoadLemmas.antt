-- The names of a command's files.
use Rattle.std.proofs.Common.{◌≡◌, ℕ, ◌+◌, ◌-◌, List, map, take, drop, sym, ◌∙◌, ap, arith, Option}
use Rattle.std.proofs.lemmas.List.{take-map, drop-map}
use Rattle.alloc_cli.specs.Runs.{IsGiven}

pub names_after : {A B : Type 0} (f : A → B) (n m : ℕ) (xs : List A) → n ≡ m → map f (take (1 + n - 1) (drop 1 xs)) ≡ take m (drop 1 (map f xs))
names_after f n m xs e =
    let count : 1 + n - 1 ≡ m = omega (arith, e) in
    rw count (sym (ap (take m) (drop-map f 1 xs) ∙ take-map f m (drop 1 xs)))

pub given_by : (held : Option (List (List ℕ × List ℕ))) (names names' given given' : List (List ℕ)) → names ≡ names' → given ≡ given' → IsGiven held names given → IsGiven held names' given'
given_by held names names' given given' e d h = rw (← e, ← d) h
