-- Prices and worths are small.
use Rattle.std.proofs.Common.{◌≡◌, ℕ, zero, suc, ◌+◌, ◌-◌, ◌*◌, ◌<◌, ◌≤◌, List, [], ◌∷◌, Option, Some, None, Bool, true, false, cond, length, map, get_or, ℤ, pos, ◌+ℤ◌, ◌≤ℤ◌, ◌<ℤ◌, refl, ap, sym, ◌∙◌, subst, arith, All}
use Rattle.std.specs.Prelude.{max, fold, nat_eq, nat_lt, nat_le, filter, sum, ◌^◌}
use Rattle.std.specs.List.{AllByRecursion, range_with_len}
use Rattle.std.specs.Set.{is_member, unique_keys}
use Rattle.std.proofs.lemmas.Bool.{leb-true}
use Rattle.std.proofs.lemmas.Int.{ints}
use Rattle.std.proofs.lemmas.Nat.{mul-le}
use Rattle.std.proofs.lemmas.Option.{same_Some, unwrap_or-slice_get}
use Rattle.std.proofs.lemmas.List.{length-map}
use Rattle.std.proofs.lemmas.List.Elements.{All-map, All-from_recursion, recursion_from_All}
use Rattle.std.proofs.lemmas.List.Sums.{sum_by-cons, count_by-le-length, length-filter}
use Rattle.definitions.specs.Trees.{TreesValue, parent_at, chain_of}
use Rattle.definitions.specs.Values.{ProblemValue, IsProblem, PricesValue, Agent, market_agents, market_of, limits_of, list_at}
use Rattle.definitions.specs.Eating.{IsEatingTable, full_at}
use Rattle.definitions.specs.Certificate.{ListPlace, more, next_level, worth_here, worths_along, distinct_moments, moment_number, chain_rank, recipe_width, recipe_price, recipe_worths, place_of_list, IsRecipeOf}
use Rattle.definitions.proofs.Lists.{each_below}
use Rattle.side_laws.proofs.Members.{least_start}
use Rattle.eating.specs.Answers.{IsEatenBy}
use Rattle.eating.specs.Caps.{capped_count, caps_before}
use Rattle.eating.specs.Eaten.{EatenValue}
use Rattle.definitions.proofs.Problems.{list_short}
use Rattle.eating.proofs.Limits.{limits_many}
use Rattle.price_cert.specs.Certified.{AreSmall}

-- an agent has at most a hundred capped cells for each unit of its demand
capped_hundred : (d : ℕ) (list : List ℕ) → length list ≤ 201 → capped_count d list ≤ 100 * d
capped_hundred d list l = pick (nat_le 2 d) refl
  where
    pick : (b : Bool) → nat_le 2 d ≡ b → cond b (length list - 1) 0 ≤ 100 * d
    pick true is = (let two = leb-true 2 d is in omega (arith, two, l))
    pick false is = omega arith

caps_hundred : (demands : List ℕ) (lists : List (List ℕ)) → AllByRecursion (λ list. length list ≤ 201) lists → caps_before (market_agents demands lists) ≤ 100 * sum demands
caps_hundred [] lists k = omega arith
caps_hundred (d ∷ demands) [] k = omega arith
caps_hundred (d ∷ demands) (list ∷ lists) k =
    omega (
      arith,
      capped_hundred d list k.0,
      caps_hundred demands lists k.1,
      sum_by-cons (λ (w : Agent). capped_count w.demand w.list) (record { demand = d; list = list }) (market_agents demands lists),
      sum_by-cons (λ (n : ℕ). n) d demands,
    )

any_default : (xs : List (List ℕ)) (i : ℕ) (d : List ℕ) → i < length xs → get_or xs i d ≡ get_or xs i []
any_default [] i d l = absurd (omega arith)
any_default (x ∷ xs) zero d l = refl
any_default (x ∷ xs) (suc i) d l = any_default xs i d (omega arith)

longest_within : (m n : ℕ) (lists : List (List ℕ)) → n ≤ m → AllByRecursion (λ list. length list ≤ m) lists → fold (λ a list. max a (length list)) n lists ≤ m
longest_within m n [] l k = l
longest_within m n (list ∷ lists) l k = longest_within m (max n (length list)) lists (omega (arith, l, k.0)) k.1

keys_few : (xs : List ℕ) → length (unique_keys nat_eq xs) ≤ length xs
keys_few [] = omega arith
keys_few (y ∷ xs) = pick (is_member nat_eq xs y) (keys_few xs)
  where
    pick : (b : Bool) → length (unique_keys nat_eq xs) ≤ length xs → length {A = ℕ} (cond b (unique_keys nat_eq xs) (y ∷ unique_keys nat_eq xs)) ≤ suc (length xs)
    pick true l = omega arith
    pick false l = omega arith

module _ (p : ProblemValue) (h : IsProblem p) (d : ℕ) (e : List ℕ) (table : IsEatingTable (market_of p) d e) where
  lists_short : AllByRecursion (λ list. length list ≤ 201) p.lists
  lists_short = recursion_from_All (λ list. length list ≤ 201) p.lists (λ i b l.
      (let many = h.lists_many in
      let short = list_short p i h (omega (arith, l, many)) in
      let same = ap length (any_default p.lists i b l ∙ sym (unwrap_or-slice_get p.lists i [])) in
      omega (arith, short.1, same)))

  pub width_small : recipe_width p ≤ 202
  width_small = (let l = longest_within 201 0 p.lists (omega arith) lists_short in omega (arith, l))

  pub table_small : length e ≤ 101000
  table_small =
      let caps = caps_hundred p.demands p.lists lists_short in
      let many = limits_many p h in
      let size = table.size in
      let stated = h.stated_limit in
      let demands = h.demands_limit in
      omega (arith, caps, many, size, stated, demands)

  pub top_small : moment_number e d d ≤ 101001
  top_small =
      omega (
        arith,
        table_small,
        count_by-le-length (λ m. nat_lt m d) (distinct_moments e d),
        keys_few (filter (λ m. nat_lt m d) e),
        length-filter (λ m. nat_lt m d) e,
        count_by-le-length (λ m. nat_lt m d) e,
      )

  level_small : (n : ℕ) → n ≤ moment_number e d d → recipe_width p * n ≤ 20402202
  level_small n l = (let m = mul-le (recipe_width p) n 202 101001 width_small (omega (arith, l, top_small)) in omega (arith, m))

  pub price_small : (t : TreesValue) (s : ℕ) → recipe_price p t d e s < 2 ^ 25
  price_small t s =
      let high = rank_high t (parent_at t s) in
      let m = level_small (chain_rank t e d (parent_at t s) - chain_rank t e d (Some s)) (omega (arith, high)) in
      omega (arith, m)
    where
      rank_high : (t : TreesValue) (o : Option ℕ) → chain_rank t e d o ≤ moment_number e d d
      rank_high t o = least_start (λ u. moment_number e d (get_or e (u - 1) 0)) (moment_number e d d) (chain_of t o)

  next_small : (bs : List ListPlace) → AllByRecursion (λ b. b.level ≤ 20402202) bs → (n : ℕ) → next_level bs ≡ Some n → n ≤ 20402202 + length bs
  next_small [] k n q = absurd (cc)
  next_small (b ∷ bs) k n q = pick b.eaten (next_level bs) (next_small bs k.1) q
    where
      pick : (x : Bool) (o : Option ℕ) → ((m : ℕ) → o ≡ Some m → m ≤ 20402202 + length bs) → cond x (Some b.level) (more o) ≡ Some n → n ≤ 20402202 + length (b ∷ bs)
      pick true o f g = (let same = same_Some b.level n g in let low : b.level ≤ 20402202 = k.0 in omega (arith, same, low))
      pick false None f g = absurd (cc)
      pick false (Some m) f g = (let same = same_Some (suc m) n g in let low = f m refl in omega (arith, same, low))

  one_small : (j : ℕ) (before : ℤ) (o : Option ℕ) → pos 0 ≤ℤ (before +ℤ pos j) → before ≤ℤ pos 20402403 → ((n : ℕ) → o ≡ Some n → n ≤ 20402403)
      → (pos 0 ≤ℤ (worth_here before o +ℤ pos (j + 1))) × (worth_here before o ≤ℤ pos 20402403)
  one_small j before None low high f = (omega (arith, ints, low), omega (arith, ints, high))
  one_small j before (Some n) low high f = (let m = f n refl in (omega (arith, ints), omega (arith, ints, m)))

  along_small : (j : ℕ) (before : ℤ) (bs : List ListPlace) → AllByRecursion (λ b. b.level ≤ 20402202) bs → j + length bs ≤ 201 → pos 0 ≤ℤ (before +ℤ pos j) → before ≤ℤ pos 20402403
      → AllByRecursion (λ w. (pos 0 ≤ℤ (w +ℤ pos 201)) × (w <ℤ pos (2 ^ 25))) (worths_along before bs)
  along_small j before [] k l low high = tt
  along_small j before (b ∷ bs) k l low high =
      let one = one_small j before (next_level (b ∷ bs)) low high (λ n q. (let m = next_small (b ∷ bs) k n q in omega (arith, m, l))) in
      ((omega (arith, ints, one.0, l), omega (arith, ints, one.1)), along_small (j + 1) (worth_here before (next_level (b ∷ bs))) bs k.1 (omega (arith, l)) one.0 one.1)

  levels_small : (i : ℕ) (xs : List ℕ) → AllByRecursion (λ b. b.level ≤ 20402202) (map (place_of_list p d e i) xs)
  levels_small i [] = tt
  levels_small i (x ∷ xs) = (level_small (moment_number e d d - moment_number e d (full_at d (limits_of p) e i x)) (omega arith), levels_small i xs)

  pub worths_small : (i : ℕ) → i < length p.lists → All (λ w. (pos 0 ≤ℤ (w +ℤ pos 201)) × (w <ℤ pos (2 ^ 25))) (recipe_worths p d e i)
  worths_small i l =
      let many = h.lists_many in
      let short = list_short p i h (omega (arith, many, l)) in
      All-from_recursion (λ w. (pos 0 ≤ℤ (w +ℤ pos 201)) × (w <ℤ pos (2 ^ 25))) (recipe_worths p d e i)
      (along_small 0 (pos 0) (map (place_of_list p d e i) (list_at p i)) (levels_small i (list_at p i)) (omega (arith, short.1, length-map (list_at p i) (place_of_list p d e i))) (omega (arith, ints)) (omega (arith, ints)))

-- the recipe's numbers for what is eaten are small
pub eaten_small : (p : ProblemValue) (e : List ℕ) (v : EatenValue) (y : PricesValue) → IsProblem p → IsEatenBy p e v → IsRecipeOf p v.shares.denominator e y → AreSmall y
eaten_small p e v y h by made = record {
  prices = subst (All (λ n. n < 2 ^ 25)) (sym made.prices) (All-map (λ n. n < 2 ^ 25) (recipe_price p made.trees v.shares.denominator e) (range_with_len 1 p.stated)
      (λ k b l. price_small p h v.shares.denominator e by.table made.trees (get_or (range_with_len 1 p.stated) k b)));
  worths = subst (All (All (λ w. (pos 0 ≤ℤ (w +ℤ pos 201)) × (w <ℤ pos (2 ^ 25))))) (sym made.worths)
      (All-map (All (λ w. (pos 0 ≤ℤ (w +ℤ pos 201)) × (w <ℤ pos (2 ^ 25)))) (recipe_worths p v.shares.denominator e) (range_with_len 0 (length p.lists))
      (All-from_recursion (λ i. All (λ w. (pos 0 ≤ℤ (w +ℤ pos 201)) × (w <ℤ pos (2 ^ 25))) (recipe_worths p v.shares.denominator e i)) (range_with_len 0 (length p.lists))
      (each_below (λ i. All (λ w. (pos 0 ≤ℤ (w +ℤ pos 201)) × (w <ℤ pos (2 ^ 25))) (recipe_worths p v.shares.denominator e i)) 0 (length p.lists)
      (λ i l m. worths_small p h v.shares.denominator e by.table i (omega (arith, m))))));
}
