-- What eating begins with.
use Rattle.std.proofs.Common.{◌≡◌, ℕ, ◌+◌, ◌*◌, ◌<◌, ◌≤◌, ◌++◌, List, Option, length, map, get_or, replicate, take, drop, ap, sym, ◌∙◌, arith, inl, inr, suc, zero, mul_comm, []}
use Rattle.std.specs.Prelude.{slice_index, ◌/◌, ◌%◌}
use Rattle.std.specs.Option.{option_map_or}
use Rattle.std.proofs.Math.Nat.{div-add-mod, mod-lt}
use Rattle.std.proofs.lemmas.Bool.{cases_lt}
use Rattle.std.proofs.lemmas.Option.{slice_get-get_or}
use Rattle.std.proofs.lemmas.List.{get_or-map, get_or-replicate, get_or_past, length-replicate, take_at}
use Rattle.definitions.specs.Values.{Limit, Market}
use Rattle.definitions.specs.Eating.{limit_ceiling}
use Rattle.eating_laws.proofs.Fine.{below_from_product}

-- the ceilings in a list are those of the limits
pub ceiling_read : (market : Market) (j : ℕ) → j < length market.limits → get_or (map (λ (s : Limit). s.ceiling) market.limits) j 0 ≡ limit_ceiling market j
ceiling_read market j l =
    let d : Limit = record { ceiling = 0; cells = [] } in
    get_or-map (λ (s : Limit). s.ceiling) market.limits j d 0 l ∙ sym (ap (λ (o : Option Limit). option_map_or (λ (s : Limit). s.ceiling) o 0) (slice_get-get_or market.limits j d l))

pub zeros : (len n : ℕ) → slice_index (replicate len 0) n ≡ 0
zeros len n = elim (cases_lt n len) [
  | inl inside ↦ get_or-replicate len n 0 0 inside
  | inr past ↦ get_or_past (replicate len 0) n 0 (let many : length {A = ℕ} (replicate len 0) ≡ len = length-replicate len 0 in omega (arith, many))
]

-- a slice of a whole vector, written back
pub whole_of : (new old : List ℕ) (len : ℕ) → length new ≡ length old → len ≡ length old → take len (new ++ drop (length new) old) ≡ new
whole_of new old len many is = take_at new (drop (length new) old) len (many ∙ sym is)

-- what holds at each row and column of a matrix holds at each index
pub each_cell : (agents columns d : ℕ) (xs : List ℕ) → length xs ≡ agents * columns → ((i a : ℕ) → i < agents → a < columns → slice_index xs (i * columns + a) ≤ d) → (n : ℕ) → n < length xs → slice_index xs n ≤ d
each_cell agents zero d xs many h n l = absurd (let none : agents * 0 ≡ 0 = omega arith in omega (arith, many, none))
each_cell agents (suc c) d xs many h n l =
    let columns = suc c in
    let i = n / columns in
    let a = n % columns in
    let column : a < columns = mod-lt n (let p : 0 < columns = omega arith in p) in
    let parts : columns * i + a ≡ n = div-add-mod n columns in
    let row : i < agents = below_from_product columns i agents a (omega (arith, parts, l, many, mul_comm agents columns)) in
    let place : i * columns + a ≡ n = omega (arith, parts, mul_comm i columns) in
    let here = h i a row column in
    omega (arith, here, ap (λ k. get_or xs k 0) place)
