-- The least common denominator of the first entries, entry by entry.
use Rattle.std.proofs.Common.{◌≡◌, ℕ, zero, suc, ◌+◌, ◌*◌, ◌/◌, ◌%◌, ◌<◌, ◌≤◌, ◌∙◌, List, [], ◌∷◌, ◌++◌, length, get_or, take, refl, sym, ap, subst, arith, All, mul_comm, mul-pos}
use Rattle.std.specs.Int.{◌∣◌, IsGcd}
use Rattle.std.proofs.Math.Nat.{dvd-zero, dvd-mul_left, dvd-mul_right, dvd-mul_left_of_dvd, mul-dvd-mul_left, dvd_trans, dvd_antisymm, le_of_dvd, one-dvd, mul-div_cancel', div-mul_cancel}
use Rattle.std.proofs.lemmas.List.{take_all, take_at, take_more, take-take, get_or_default}
use Rattle.std.proofs.lemmas.List.Elements.{All-nil, All-push, All-weaker, All-same, All-take, All-contains, Contains-push}
use Rattle.std.proofs.lemmas.Nat.Gcd.{IsGcd-from_zero, IsGcd-from_mod}
use Rattle.frac128.specs.Lcm.{IsLcm}
use Rattle.frac128.specs.Measure.{factor_positive, multiple_of_lowest, IsLcm-from_gcd}
use Rattle.definitions.specs.Values.{Ratio}
use Rattle.definitions.specs.Scaling.{IsLeastCommonDenominator}
use Rattle.scaled_matrix.specs.Entries.{IsShare}

-- d makes this share a whole number of units
abbrev IsWhole : ℕ → Ratio → Type 0
IsWhole d s = s.den ∣ s.num * d

-- and so does each multiple of d
whole_over_multiple : (d e : ℕ) → d ∣ e → (s : Ratio) → IsWhole d s → IsWhole e s
whole_over_multiple d e divides s whole = dvd_trans s.den whole (mul-dvd-mul_left d s.num divides)

-- Euclid's lemma: a share in lowest terms is whole over the multiples of its denominator alone
pub denominator_divides : (d : ℕ) (s : Ratio) → IsShare s → s.den ∣ s.num * d → s.den ∣ d
denominator_divides zero s share whole = dvd-zero s.den
denominator_divides (suc d) s share whole =
    let times = s.num * suc d / s.den in
    let exact : times * s.den ≡ s.num * suc d = div-mul_cancel s.den whole in
    let parts = multiple_of_lowest (suc d) s.den (λ j. times) (λ j. s.num) (omega arith) share.positive (λ j. exact) (λ f den num. share.lowest f (num 0) den) in
    rw parts.1 (dvd-mul_left s.den parts.0)

-- that of no entry is 1
pub least_none : IsLeastCommonDenominator [] 1
least_none = record {
  low = omega arith;
  common = All-nil (IsWhole 1);
  least = λ e all. one-dvd e;
}

lcm_positive : (a b m : ℕ) → 0 < a → 0 < b → IsLcm a b m → 0 < m
lcm_positive a b m pos_a pos_b h =
    let whole : m * (a * b / m) ≡ a * b = mul-div_cancel' m (h.least (a * b) (dvd-mul_right a b) (dvd-mul_left b a)) in
    factor_positive (a * b / m) m (a * b) (mul_comm (a * b / m) m ∙ whole) (mul-pos pos_a pos_b)

front_holds : (P : Ratio → Type 0) (entries : List Ratio) (s : Ratio) → All P (entries ++ s ∷ []) → All P entries
front_holds P entries s all =
    All-same P entries (take (length entries) (entries ++ s ∷ [])) (sym (take_at entries (s ∷ []) (length entries) refl))
    (All-take P (length entries) (entries ++ s ∷ []) all)

last_holds : (P : Ratio → Type 0) (entries : List Ratio) (s : Ratio) → All P (entries ++ s ∷ []) → P s
last_holds P entries s all = All-contains P (entries ++ s ∷ []) s all (Contains-push entries s)

least_push : (entries : List Ratio) (s : Ratio) (e m : ℕ) → IsLeastCommonDenominator entries e → IsShare s → IsLcm e s.den m
    → IsLeastCommonDenominator (entries ++ s ∷ []) m
least_push entries s e m so_far share h = record {
  low = lcm_positive e s.den m so_far.low share.positive h;
  common = All-push (IsWhole m) entries s (All-weaker (IsWhole e) (IsWhole m) (whole_over_multiple e m h.first) entries so_far.common) (dvd-mul_left_of_dvd s.den h.second s.num);
  least = λ n all. h.least n (so_far.least n (front_holds (IsWhole n) entries s all)) (denominator_divides n s share (last_holds (IsWhole n) entries s all));
}

-- with one more entry it is the least common multiple of what it was and the denominator of that entry
pub least_more : (entries : List Ratio) (k : ℕ) (s : Ratio) (e m : ℕ) → k < length entries → get_or entries k s ≡ s → IsShare s
    → IsLeastCommonDenominator (take k entries) e → IsLcm e s.den m → IsLeastCommonDenominator (take (k + 1) entries) m
least_more entries k s e m within at share so_far h =
    let step : take (k + 1) entries ≡ take k entries ++ s ∷ [] = take_more entries k s within ∙ ap (λ r. take k entries ++ r ∷ []) at in
    rw step (least_push (take k entries) s e m so_far share h)

-- there is one at most
pub one_least : (entries : List Ratio) (d e : ℕ) → IsLeastCommonDenominator entries d → IsLeastCommonDenominator entries e → d ≡ e
one_least entries d e h k = dvd_antisymm (h.least e k.common) (k.least d h.common)

-- that of a front is at most that of the whole
pub front_le : (entries : List Ratio) (k d e : ℕ) → IsLeastCommonDenominator entries d → IsLeastCommonDenominator (take k entries) e → e ≤ d
front_le entries k d e whole front = le_of_dvd whole.low (front.least d (All-take (IsWhole d) k entries whole.common))

-- so they rise with the front
pub fronts_rise : (entries : List Ratio) (j k d e : ℕ) → j ≤ k → IsLeastCommonDenominator (take j entries) d → IsLeastCommonDenominator (take k entries) e → d ≤ e
fronts_rise entries j k d e le short long =
    let same : take j (take k entries) ≡ take j entries = take-take j k entries le in
    front_le (take k entries) j e d long (rw same short)

-- two numbers have a greatest common divisor, by Euclid's algorithm
some_gcd : (fuel a b : ℕ) → b < fuel → (g : ℕ) × IsGcd a b g
some_gcd zero a b room = absurd (omega arith)
some_gcd (suc fuel) a zero room = (a, IsGcd-from_zero a zero refl)
some_gcd (suc fuel) a (suc n) room =
    let less : a % suc n < suc n = omega arith in
    let rest = some_gcd fuel (suc n) (a % suc n) (omega arith) in
    (rest.0, IsGcd-from_mod a (suc n) rest.0 rest.1)

-- and positive ones a least common multiple
some_lcm : (a b : ℕ) → 0 < a → 0 < b → (m : ℕ) × IsLcm a b m
some_lcm a b pos_a pos_b =
    let divisor = some_gcd (suc b) a b (omega arith) in
    (a / divisor.0 * b, IsLcm-from_gcd a b divisor.0 divisor.1 pos_a pos_b)

-- so the first entries have a least common denominator
some_least : (entries : List Ratio) → All IsShare entries → (k : ℕ) → k ≤ length entries
    → (d : ℕ) × IsLeastCommonDenominator (take k entries) d
some_least entries lawful zero within = (1, least_none)
some_least entries lawful (suc k) within =
    let so_far = some_least entries lawful k (omega arith) in
    let none : Ratio = record { num = 0; den = 1 } in
    let s : Ratio = get_or entries k none in
    let inside : k < length entries = omega arith in
    let share : IsShare s = lawful k none inside in
    let next = some_lcm so_far.0 s.den so_far.1.low share.positive in
    let step : k + 1 ≡ suc k = omega arith in
    let more = least_more entries k s so_far.0 next.0 inside (get_or_default entries k s none inside) share so_far.1 next.1 in
    (next.0, subst (λ n. IsLeastCommonDenominator (take n entries) next.0) step more)

-- and so have all
pub least_there : (entries : List Ratio) → All IsShare entries → (d : ℕ) × IsLeastCommonDenominator entries d
least_there entries lawful =
    let whole = some_least entries lawful (length entries) (omega arith) in
    (whole.0, rw (take_all (length entries) entries (omega arith)) at whole.1)
