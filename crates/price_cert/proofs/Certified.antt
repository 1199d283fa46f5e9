-- The recipe's prices and worths certify what is eaten.
use Rattle.std.proofs.Common.{◌≡◌, ℕ, zero, suc, ◌+◌, ◌-◌, ◌*◌, ◌<◌, ◌≤◌, List, [], ◌∷◌, ◌++◌, true, false, Bool, length, map, get_or, take, Some, ℤ, pos, ◌+ℤ◌, ◌≤ℤ◌, refl, ap, sym, ◌∙◌, subst, inl, inr, arith, All}
use Rattle.std.specs.Prelude.{min, max, nat_eq, nat_lt, fold, slice_get, slice_index, unwrap_or}
use Rattle.std.specs.List.{AllByRecursion, range_with_len}
use Rattle.std.specs.Option.{option_map_or}
use Rattle.std.specs.Set.{is_member}
use Rattle.std.proofs.lemmas.Bool.{cases_lt, or_cases, eqb-true, lt-ltb, le-ltb}
use Rattle.std.proofs.lemmas.Int.{ints}
use Rattle.std.proofs.lemmas.Nat.{mul-le}
use Rattle.std.proofs.lemmas.Option.{slice_get_within, unwrap_or-slice_get}
use Rattle.std.proofs.lemmas.List.{length-map}
use Rattle.std.proofs.lemmas.List.Elements.{recursion_from_All, All-map, All-from_recursion}
use Rattle.std.proofs.lemmas.List.FromFn.{length-map-range_with_len, get_or-map-range_with_len}
use Rattle.definitions.specs.declared.Cell.{Cell}
use Rattle.definitions.specs.Sets.{cell_of, holds, set_sum, SetValue, IsSet}
use Rattle.definitions.specs.Values.{Limit, Agent, ProblemValue, IsProblem, capped_limits, market_of, limits_of, stated_sets, list_at, demand_at, PricesValue, worths_of}
use Rattle.definitions.specs.Eating.{full_at, reached, share, moment_at, limit_cells, limit_ceiling, IsEatingTable}
use Rattle.definitions.specs.Certificate.{ListPlace, next_level, worth_here, worths_along, Falls, HasShapeOf, Certifies, is_left_out, worth_at, place_cell, cell_price, distinct_moments, moment_number, recipe_width, recipe_price, recipe_worths, place_of_list, IsRecipeOf}
use Rattle.definitions.proofs.Families.{sets_of_problem, stated_count}
use Rattle.definitions.proofs.Lists.{each_below}
use Rattle.definitions.proofs.Members.{number_test, member_at}
use Rattle.definitions.specs.Laws.{limit_of_set}
use Rattle.definitions.proofs.Problems.{agent_of, list_lawful, list_distinct}
use Rattle.eating_laws.proofs.Full.{full_le, full_each, full_never}
use Rattle.eating_laws.proofs.Limits.{none_free}
use Rattle.eating_laws.proofs.Moments.{moment_listed}
use Rattle.eating_laws.proofs.Shares.{place_share, reached_at}
use Rattle.eating_laws.proofs.Assignment.{share_of, shares_full}
use Rattle.eating.proofs.Limits.{limits_many}
use Rattle.price_cert.specs.Certified.{shares_of}
use Rattle.price_cert.proofs.Numbers.{number_later, number_rises}
use Rattle.price_cert.proofs.Ahead.{IsEatenFrom, AreNumbers, worths_fall, spaced, worths_right, worth_right, AreWorths, IsWorth}
use Rattle.price_cert.proofs.CellPrices.{priced_early, price_is}
use Rattle.price_cert.proofs.LeftOut.{full_within, full_stated}

-- the longest so far is at least what it starts from
longest_start : (n : ℕ) (lists : List (List ℕ)) → n ≤ fold (λ a list. max a (length list)) n lists
longest_start n [] = omega arith
longest_start n (list ∷ lists) = (let more = longest_start (max n (length list)) lists in omega (arith, more))

longest_at : (n : ℕ) (lists : List (List ℕ)) (i : ℕ) → length (unwrap_or (slice_get lists i) []) ≤ fold (λ a list. max a (length list)) n lists
longest_at n [] i = omega arith
longest_at n (list ∷ lists) zero = (let more = longest_start (max n (length list)) lists in omega (arith, more))
longest_at n (list ∷ lists) (suc i) = longest_at (max n (length list)) lists i

-- each list is shorter than the width
pub list_within : (p : ProblemValue) (i : ℕ) → length (list_at p i) < recipe_width p
list_within p i = (let l = longest_at 0 p.lists i in omega (arith, l))

worths_many : (before : ℤ) (bs : List ListPlace) → length (worths_along before bs) ≡ length bs
worths_many before [] = refl
worths_many before (b ∷ bs) = ap suc (worths_many (worth_here before (next_level (b ∷ bs))) bs)

reached_more : (full : ℕ → ℕ) (b : ℕ) (list : List ℕ) (k : ℕ) → k < length list → reached full b (take (k + 1) list) ≡ max (reached full b (take k list)) (full (get_or list k 0))
unfolding reached
reached_more full b [] k l = absurd (omega arith)
reached_more full b (a ∷ list) zero l = refl
reached_more full b (a ∷ list) (suc k) l = (let z : suc k + 1 ≡ suc (k + 1) = omega arith in ap (λ n. reached full b (take n (a ∷ list))) z) ∙ reached_more full (max b (full a)) list k (omega arith)

reached_le : (full : ℕ → ℕ) (D b : ℕ) (list : List ℕ) → b ≤ D → ((a : ℕ) → full a ≤ D) → reached full b list ≤ D
unfolding reached
reached_le full D b [] h f = h
reached_le full D b (a ∷ list) h f = reached_le full D (max b (full a)) list (omega (arith, h, f a)) f

-- the front of a lists of limits
front_limit : (sets : List SetValue) (ys : List Limit) (s : ℕ) (q : SetValue) → slice_get sets s ≡ Some q → slice_get (map limit_of_set sets ++ ys) s ≡ Some (limit_of_set q)
front_limit [] ys s q h = absurd (cc)
front_limit (x ∷ sets) ys zero q h = (let same : x ≡ q = cc in ap (λ v. Some (limit_of_set v)) same)
front_limit (x ∷ sets) ys (suc s) q h = front_limit sets ys s q h

module _ (full : ℕ → ℕ) (eaten : ℕ → Bool) (number : ℕ → ℕ) (D W top : ℕ) (P : ℕ → Type 0) where
  -- the places are eaten along the list, by their indexes
  from_index : (b : ℕ) (list : List ℕ) → ((k : ℕ) → k < length list → eaten (get_or list k 0) ≡ nat_lt (reached full b (take k list)) (full (get_or list k 0)))
      → IsEatenFrom full eaten number D W top P b list
  unfolding reached
  from_index b [] f = tt
  from_index b (a ∷ list) f = (f 0 (omega arith), from_index (max b (full a)) list (λ k l. f (suc k) (omega arith)))

module _ (p : ProblemValue) (h : IsProblem p) (d : ℕ) (e : List ℕ) (table : IsEatingTable (market_of p) d e) where
  abbrev number : ℕ → ℕ
  number = moment_number e d

  abbrev W : ℕ
  W = recipe_width p

  abbrev top : ℕ
  top = moment_number e d d

  -- a moment that is counted, if it is before the end
  abbrev Counted : ℕ → Type 0
  Counted v = v < d → is_member nat_eq (distinct_moments e d) v ≡ true

  abbrev x : Cell → ℕ
  x = share_of (market_of p) d e

  stated_room : p.stated ≤ length e
  stated_room = (let size = table.size in omega (arith, size, limits_many p h))

  module _ (i : ℕ) (known : i < length p.agents) where
    abbrev list : List ℕ
    list = list_at p i

    abbrev full : ℕ → ℕ
    full a = full_at d (limits_of p) e i a

    abbrev eaten : ℕ → Bool
    eaten a = nat_lt 0 (share (market_of p) d e i a)

    numbers : AreNumbers full eaten number d W top Counted
    numbers = record {
      later = number_later e d;
      rises = λ v w c l m. number_rises e d v w l (c (omega (arith, l, m)));
      at_end = refl;
      within = full_le d (limits_of p) e i;
      each = λ a. full_each Counted d (limits_of p) e i a (λ l. absurd (omega (arith, l))) (λ j l m. moment_listed d e j l m);
      end = λ l. absurd (omega (arith, l));
    }

    abbrev agent : Agent
    agent = record { demand = demand_at p i; list = list_at p i }

    demand_some : 1 ≤ demand_at p i
    demand_some = h.demands i 0 (let many = h.demands_many in omega (arith, many, known))

    eaten_is : (k : ℕ) → k < length list → eaten (get_or list k 0) ≡ nat_lt (reached full 0 (take k list)) (full (get_or list k 0))
    eaten_is k l =
        let share_at = place_share (market_of p) d e i k agent (agent_of p i h known) (list_distinct p i h) l in
        let more = reached_more full 0 list k l in
        let f = full (get_or list k 0) in
        let g = reached full 0 (take k list) in
        let f_le : f ≤ d = full_le d (limits_of p) e i (get_or list k 0) in
        let g_le : g ≤ d = reached_le full d 0 (take k list) (omega arith) (full_le d (limits_of p) e i) in
        let diff : min d (reached full 0 (take (k + 1) list)) - min d g ≡ f - g = omega (arith, more, f_le, g_le) in
        let value : share (market_of p) d e i (get_or list k 0) ≡ demand_at p i * (f - g) = share_at ∙ ap (λ n. demand_at p i * n) diff in
        test (share (market_of p) d e i (get_or list k 0)) f g value
      where
        test : (s f g : ℕ) → s ≡ demand_at p i * (f - g) → nat_lt 0 s ≡ nat_lt g f
        test s f g v = elim (cases_lt g f) [
          | inl less ↦ (let some = mul-le 1 1 (demand_at p i) (f - g) demand_some (omega arith) in lt-ltb 0 s (omega (arith, v, some)) ∙ sym (lt-ltb g f less))
          | inr more ↦ (let none : f - g ≡ 0 = omega arith in let zero_times : demand_at p i * 0 ≡ 0 = omega arith in
              le-ltb 0 s (omega (arith, v, ap (λ n. demand_at p i * n) none, zero_times)) ∙ sym (le-ltb g f more))
        ]

    eaten_from : IsEatenFrom full eaten number d W top Counted 0 list
    eaten_from = from_index full eaten number d W top Counted 0 list eaten_is

    end_reached : reached full 0 list ≡ d
    end_reached =
        let none = length p.objects in
        let lawful = list_lawful p i h known in
        let low = reached_at full 0 list (length list - 1) none lawful.last in
        let high = reached_le full d 0 list (omega arith) (full_le d (limits_of p) e i) in
        let never : full none ≡ d = full_never d (limits_of p) e i none (recursion_from_All (λ (s : Limit). holds s.cells (cell_of i none) ≡ false) (limits_of p) (none_free p i h)) in
        omega (arith, low, high, never)

    pub falls : Falls (recipe_worths p d e i)
    falls = worths_fall (pos 0) (map (place_of_list p d e i) list) (spaced full eaten number d W top Counted numbers 0 list eaten_from (let l = list_within p i in omega (arith, l)))

    abbrev out : ℕ → Bool
    out a = is_left_out p d x (cell_of i a)

    abbrev stated : ℕ → ℕ
    stated a = full_at d (map limit_of_set (stated_sets p)) e i a

    column_within : (a : ℕ) → is_member nat_eq list a ≡ true → a ≤ length p.objects
    column_within a m = at list (recursion_from_All (λ b. b ≤ length p.objects) list (list_lawful p i h known).known) m
      where
        at : (xs : List ℕ) → AllByRecursion (λ b. b ≤ length p.objects) xs → is_member nat_eq xs a ≡ true → a ≤ length p.objects
        at [] f m = absurd (cc)
        at (b ∷ xs) f m = elim (or_cases (nat_eq a b) (is_member nat_eq xs a) m) [
          | inl here ↦ subst (λ c. c ≤ length p.objects) (sym (eqb-true a b here)) f.0
          | inr later ↦ at xs f.1 later
        ]

    capped_same : (a : ℕ) → out a ≡ false → number (full a) ≡ number (stated a)
    capped_same a kept = ap number (full_stated p h d e table i a kept)

    limit_at : (a : ℕ) → full a ≤ stated a
    limit_at a = full_within p h d e i a

    worths : AreWorths full eaten number d W top Counted numbers stated out limit_at capped_same (pos 0) list
    worths = worths_right full eaten number d W top Counted numbers stated out limit_at capped_same 0 (pos 0) list (inr refl) eaten_from (list_within p i) end_reached (λ z. omega (arith, ints))

    module _ (y : PricesValue) (made : IsRecipeOf p d e y) where
      lists_room : i < length p.lists
      lists_room = (let many = h.lists_many in omega (arith, many, known))

      own_worths : worths_of y i ≡ recipe_worths p d e i
      own_worths = ap (λ ws. unwrap_or (slice_get ws i) []) made.worths ∙ unwrap_or-slice_get (map (recipe_worths p d e) (range_with_len 0 (length p.lists))) i []
          ∙ get_or-map-range_with_len (recipe_worths p d e) 0 (length p.lists) i i [] lists_room (omega arith)

      place_worth : (k : ℕ) → k < length list → IsWorth full eaten number d W top Counted numbers stated out limit_at capped_same (get_or list k 0) (worth_at y i k)
      place_worth k l =
          subst (λ ws. IsWorth full eaten number d W top Counted numbers stated out limit_at capped_same (get_or list k 0) (unwrap_or (slice_get ws k) (pos 0))) (sym own_worths)
          (worth_right full eaten number d W top Counted numbers stated out limit_at capped_same (pos 0) list k worths l)

      listed : (k : ℕ) → k < length list → is_member nat_eq list (get_or list k 0) ≡ true
      listed k l = member_at nat_eq number_test list k 0 l

      place_price : (k : ℕ) → k < length list → cell_price p y (place_cell p i k) ≡ W * (top - number (stated (get_or list k 0)))
      place_price k l =
          let column = column_within (get_or list k 0) (listed k l) in
          price_is p h made.trees made.of_family d e i (get_or list k 0) (omega (arith, h.family_agents, known), omega (arith, h.family_columns, column)) stated_room y made.prices

      best_at : (k j : ℕ) → k < length list → j < length list → 0 < x (place_cell p i k) → is_left_out p d x (place_cell p i j) ≡ false
          → (worth_at y i j +ℤ pos (cell_price p y (place_cell p i k))) ≤ℤ (worth_at y i k +ℤ pos (cell_price p y (place_cell p i j)))
      best_at k j l m used kept =
          let one = (place_worth k l).0 (lt-ltb 0 (share (market_of p) d e i (get_or list k 0)) used) in
          let two = (place_worth j m).1 kept in
          let price = place_price k l in
          let other = place_price j m in
          omega (arith, ints, one, two, price, other)

      places_many : length (worths_of y i) ≡ length list
      places_many = ap length own_worths ∙ worths_many (pos 0) (map (place_of_list p d e i) list) ∙ length-map list (place_of_list p d e i)

  module _ (y : PricesValue) (made : IsRecipeOf p d e y) where
    agent_known : (i : ℕ) → i < length p.lists → i < length p.agents
    agent_known i l = (let many = h.lists_many in omega (arith, many, l))

    shape : HasShapeOf p y
    shape = record {
      prices = ap length made.prices ∙ length-map-range_with_len (recipe_price p made.trees d e) 1 p.stated ∙ sym (stated_count p h);
      lists = ap length made.worths ∙ length-map-range_with_len (recipe_worths p d e) 0 (length p.lists);
      places = λ i l. places_many i (agent_known i l) y made;
    }

    fall : All Falls y.worth
    fall = subst (All Falls) (sym made.worths) (All-map Falls (recipe_worths p d e) (range_with_len 0 (length p.lists))
        (All-from_recursion (λ i. Falls (recipe_worths p d e i)) (range_with_len 0 (length p.lists))
        (each_below (λ i. Falls (recipe_worths p d e i)) 0 (length p.lists) (λ i l m. falls i (agent_known i (omega (arith, m)))))))

    price_zero : (s : ℕ) (q : SetValue) → slice_get (stated_sets p) s ≡ Some q → set_sum x q.cells < q.ceiling * d → slice_index y.price s ≡ 0
    price_zero s q at less =
        let inside : s < p.stated = (let l = slice_get_within (stated_sets p) s q at in omega (arith, l, stated_count p h)) in
        let is : slice_index y.price s ≡ recipe_price p made.trees d e (1 + s) =
        ap (λ l. slice_index l s) made.prices ∙ get_or-map-range_with_len (recipe_price p made.trees d e) 1 p.stated s (1 + s) 0 inside refl in
        elim (cases_lt 0 (recipe_price p made.trees d e (1 + s))) [
          | inl some ↦
              let many = sets_of_problem p h in
              let set : IsSet p.family (1 + s) = (omega arith, omega (arith, many, inside)) in
              let place : 1 + s - 1 ≡ s = omega arith in
              let early : moment_at e s < d = (let l = priced_early p h made.trees made.of_family d e (1 + s) set some in let same = ap (slice_index e) place in omega (arith, l, same)) in
              let room = stated_room in
              let sum = shares_full p d e h table s (omega (arith, inside, room)) early in
              let found = front_limit (stated_sets p) (capped_limits 0 (market_of p).agents) s q at in
              let cells : limit_cells (market_of p) s ≡ q.cells = ap (λ o. option_map_or (λ (v : Limit). v.cells) o []) found in
              let ceiling : limit_ceiling (market_of p) s ≡ q.ceiling = ap (λ o. option_map_or (λ (v : Limit). v.ceiling) o 0) found in
              let whole : set_sum x q.cells ≡ q.ceiling * d = ap (set_sum x) (sym cells) ∙ sum ∙ ap (λ n. n * d) ceiling in
              absurd (omega (arith, whole, less))
          | inr none ↦ omega (arith, is, none)
        ]

    pub certified : Certifies p d (shares_of p d e) y
    certified = record {
      shape = shape;
      fall = fall;
      full = price_zero;
      best = λ i k j l m n used kept. best_at i l y made k j m n used kept;
    }
