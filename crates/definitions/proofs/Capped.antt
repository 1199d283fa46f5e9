-- The limits of a lawful problem: its stated sets, and then the capped cells, each alone.
use Rattle.std.proofs.Common.{◌≡◌, ℕ, zero, suc, ◌+◌, ◌-◌, ◌<◌, ◌≤◌, ◌⊎◌, ◌∙◌, List, [], ◌∷◌, ◌++◌, Bool, true, false, ◌&&◌, cond, length, map, filter, get_or, Some, None, refl, sym, ap, subst, inl, inr, arith, length-take}
use Rattle.std.specs.Prelude.{All, flat_map, nat_eq, nat_le, nat_lt, slice_get, slice_index, unwrap_or, option_map}
use Rattle.std.specs.List.{AllByRecursion, IsDistinct, enumerate_from}
use Rattle.std.specs.Set.{is_member}
use Rattle.std.proofs.lemmas.Bool.{and_parts, and_from, both_ways, cases_lt, lt-ltb, le-ltb, ltb-true, leb-true}
use Rattle.std.proofs.lemmas.Option.{same_Some, slice_get_past, slice_get_within, slice_get-get_or, slice_get-map, get_or_from_slice_get}
use Rattle.std.proofs.lemmas.List.{map-append, length-map, get_or_past}
use Rattle.std.proofs.lemmas.List.Elements.{All-append, All-map, All-from_recursion, recursion_from_All, filter-append, filter_passes}
use Rattle.definitions.specs.declared.Cell.{Cell}
use Rattle.definitions.specs.Sets.{cell_of, same_cell, holds}
use Rattle.definitions.specs.Values.{Limit, ProblemValue, IsProblem, IsListUpTo, is_capped, list_at, demand_at, listed_cells, stated_sets, limits_of, but_last, capped_limits, market_agents}
use Rattle.definitions.specs.Laws.{limit_of_set, limit_of_cell, capped_cells, HasOwnLimit}
use Rattle.definitions.proofs.Members.{number_test, cell_test, distinct_first, distinct_rest, distinct_filter, all_are_members, member_at, member_place, member_of_filter}
use Rattle.definitions.proofs.Lists.{each_mapped, each_of_front, second_at}
use Rattle.definitions.proofs.Listed.{listed_distinct, column_listed}
use Rattle.definitions.proofs.Families.{sets_of_problem}

-- in a list without repeats that ends with the number `none`, and has none above it, the others are below it
but_last_is : (none n : ℕ) (list : List ℕ) → suc n ≡ length list → IsDistinct nat_eq list → AllByRecursion (λ a. a ≤ none) list → slice_get list n ≡ Some none
    → filter (λ a. nat_lt a none) list ≡ but_last list
but_last_is none n [] l d k h = refl
but_last_is none zero (a ∷ []) l d k h =
    let same : a ≡ none = same_Some a none h in
    let last : nat_lt a none ≡ false = le-ltb a none (omega (arith, same)) in
    ap (λ b. cond b (a ∷ []) []) last
but_last_is none (suc n) (a ∷ []) l d k h = absurd (omega arith)
but_last_is none zero (a ∷ b ∷ list) l d k h = absurd (omega arith)
but_last_is none (suc n) (a ∷ b ∷ list) l d k h =
    let inside : n < length (b ∷ list) = slice_get_within (b ∷ list) n none h in
    let at : get_or (b ∷ list) n 0 ≡ none = get_or_from_slice_get (b ∷ list) n none 0 h in
    let found : is_member nat_eq (b ∷ list) none ≡ true = subst (λ x. is_member nat_eq (b ∷ list) x ≡ true) at (member_at nat_eq number_test (b ∷ list) n 0 inside) in
    let off : is_member nat_eq (b ∷ list) a ≡ false = distinct_first nat_eq a (b ∷ list) d in
    let less : a < none = below (cases_lt a none) k.0 (λ e. both_ways (is_member nat_eq (b ∷ list) a) off (subst (λ x. is_member nat_eq (b ∷ list) x ≡ true) (sym e) found)) in
    ap (λ t. cond t (a ∷ filter (λ x. nat_lt x none) (b ∷ list)) (filter (λ x. nat_lt x none) (b ∷ list))) (lt-ltb a none less)
    ∙ ap (λ xs. a ∷ xs) (but_last_is none n (b ∷ list) (omega (arith, l)) (distinct_rest nat_eq a (b ∷ list) d) k.1 h)
  where
    below : (a < none) ⊎ (none ≤ a) → a ≤ none → (a ≡ none → ⊥) → a < none
    below (inl less) k apart = less
    below (inr more) k apart = absurd (apart (omega (arith, more, k)))

-- what holds of each limit holds of each stated set
pub each_stated : (P : Limit → Type 0) (p : ProblemValue) → All P (limits_of p) → All (λ s. P (limit_of_set s)) (stated_sets p)
each_stated P p h =
    All-from_recursion (λ s. P (limit_of_set s)) (stated_sets p)
    (each_mapped P limit_of_set (stated_sets p)
    (each_of_front P (map limit_of_set (stated_sets p)) (capped_limits 0 (market_agents p.demands p.lists)) (recursion_from_All P (limits_of p) h)))

module _ (p : ProblemValue) where
  -- a column of an agent's list has a capped cell where the demand is at least 2 and the column is no `none`
  capped_on_list : (i a : ℕ) → is_member nat_eq (list_at p i) a ≡ true → is_capped p (cell_of i a) ≡ (nat_le 2 (demand_at p i) && nat_lt a (length p.objects))
  capped_on_list i a m = ap (λ b. nat_le 2 (demand_at p i) && (b && nat_lt a (length p.objects))) m

  -- the capped cells of a part of an agent's list
  capped_part : (i : ℕ) (list : List ℕ) → AllByRecursion (λ a. is_member nat_eq (list_at p i) a ≡ true) list
      → filter (is_capped p) (map (cell_of i) list) ≡ cond (nat_le 2 (demand_at p i)) (map (cell_of i) (filter (λ a. nat_lt a (length p.objects)) list)) []
  capped_part i [] m = nothing (nat_le 2 (demand_at p i))
    where
      nothing : (b : Bool) → ◌≡◌ {A = List Cell} [] (cond b [] [])
      nothing true = refl
      nothing false = refl
  capped_part i (a ∷ list) m =
      ap (λ t. cond t (cell_of i a ∷ filter (is_capped p) (map (cell_of i) list)) (filter (is_capped p) (map (cell_of i) list))) (capped_on_list i a m.0)
      ∙ ap (λ xs. cond (nat_le 2 (demand_at p i) && nat_lt a (length p.objects)) (cell_of i a ∷ xs) xs) (capped_part i list m.1)
      ∙ either (nat_le 2 (demand_at p i)) (nat_lt a (length p.objects))
    where
      either : (b c : Bool) → cond (b && c) (cell_of i a ∷ cond b (map (cell_of i) (filter (λ x. nat_lt x (length p.objects)) list)) []) (cond b (map (cell_of i) (filter (λ x. nat_lt x (length p.objects)) list)) [])
          ≡ cond b (map (cell_of i) (cond c (a ∷ filter (λ x. nat_lt x (length p.objects)) list) (filter (λ x. nat_lt x (length p.objects)) list))) []
      either true true = refl
      either true false = refl
      either false c = refl

  -- the limits of an agent's capped cells
  abbrev caps_of : ℕ → ℕ → List ℕ → List Limit
  caps_of i d list = cond (nat_le 2 d) (map (λ a. limit_of_cell (cell_of i a)) (but_last list)) []

  caps_are : (i : ℕ) (list : List ℕ) → list_at p i ≡ list → IsListUpTo (length p.objects) list → caps_of i (demand_at p i) list ≡ map limit_of_cell (filter (is_capped p) (map (cell_of i) list))
  caps_are i list same lawful =
      let known : AllByRecursion (λ a. is_member nat_eq (list_at p i) a ≡ true) list =
      subst (λ (xs : List ℕ). AllByRecursion (λ a. is_member nat_eq xs a ≡ true) list) (sym same) (all_are_members nat_eq number_test list) in
      let inside : length list - 1 < length list = slice_get_within list (length list - 1) (length p.objects) lawful.last in
      let front : filter (λ a. nat_lt a (length p.objects)) list ≡ but_last list =
      but_last_is (length p.objects) (length list - 1) list (omega (arith, inside)) lawful.apart (recursion_from_All (λ a. a ≤ length p.objects) list lawful.known) lawful.last in
      mapped (nat_le 2 (demand_at p i)) (but_last list)
      ∙ ap (λ xs. map limit_of_cell (cond (nat_le 2 (demand_at p i)) (map (cell_of i) xs) [])) (sym front)
      ∙ ap (map limit_of_cell) (sym (capped_part i list known))
    where
      each : (xs : List ℕ) → map (λ a. limit_of_cell (cell_of i a)) xs ≡ map limit_of_cell (map (cell_of i) xs)
      each [] = refl
      each (x ∷ xs) = ap (λ ys. limit_of_cell (cell_of i x) ∷ ys) (each xs)

      mapped : (b : Bool) (xs : List ℕ) → cond b (map (λ a. limit_of_cell (cell_of i a)) xs) [] ≡ map limit_of_cell (cond b (map (cell_of i) xs) [])
      mapped true xs = each xs
      mapped false xs = refl

  -- the limits of the capped cells of the agents from s on
  caps_from : (s : ℕ) (demands : List ℕ) (lists : List (List ℕ)) → length demands ≡ length lists
      → ((k : ℕ) → k < length demands → demand_at p (s + k) ≡ slice_index demands k) → ((k : ℕ) → k < length lists → list_at p (s + k) ≡ unwrap_or (slice_get lists k) [])
      → AllByRecursion (IsListUpTo (length p.objects)) lists
      → capped_limits s (market_agents demands lists) ≡ map limit_of_cell (filter (is_capped p) (flat_map (λ w. map (cell_of w.0) w.1) (enumerate_from s lists)))
  unfolding capped_limits
  caps_from s [] [] same d l a = refl
  caps_from s [] (list ∷ lists) same d l a = absurd (omega (arith, same))
  caps_from s (n ∷ demands) [] same d l a = absurd (omega (arith, same))
  caps_from s (n ∷ demands) (list ∷ lists) same d l a =
      let plain : s ≡ s + 0 = omega arith in
      let demand : demand_at p s ≡ n = ap (demand_at p) plain ∙ d 0 (omega arith) in
      let own : list_at p s ≡ list = ap (list_at p) plain ∙ l 0 (omega arith) in
      let rest = flat_map (λ (w : ℕ × List ℕ). map (cell_of w.0) w.1) (enumerate_from (s + 1) lists) in
      let next : (k : ℕ) → s + 1 + k ≡ s + suc k = λ k. omega arith in
      ap (λ m. caps_of s m list ++ capped_limits (s + 1) (market_agents demands lists)) (sym demand)
      ∙ ap (λ xs. xs ++ capped_limits (s + 1) (market_agents demands lists)) (caps_are s list own a.0)
      ∙ ap (λ xs. map limit_of_cell (filter (is_capped p) (map (cell_of s) list)) ++ xs)
      (caps_from (s + 1) demands lists (omega (arith, same)) (λ k m. ap (demand_at p) (next k) ∙ d (suc k) (omega (arith, m))) (λ k m. ap (list_at p) (next k) ∙ l (suc k) (omega (arith, m))) a.1)
      ∙ sym (map-append limit_of_cell (filter (is_capped p) (map (cell_of s) list)) (filter (is_capped p) rest))
      ∙ ap (map limit_of_cell) (sym (filter-append (is_capped p) (map (cell_of s) list) rest))

  -- a capped cell is one of an object
  pub capped_below : (c : Cell) → is_capped p c ≡ true → c.object < length p.objects
  capped_below c e =
      let one = and_parts (nat_le 2 (demand_at p c.agent)) (is_member nat_eq (list_at p c.agent) c.object && nat_lt c.object (length p.objects)) e in
      ltb-true c.object (length p.objects) (and_parts (is_member nat_eq (list_at p c.agent) c.object) (nat_lt c.object (length p.objects)) one.1).1

  module _ (h : IsProblem p) where
    -- the later limits are those of the capped cells
    pub caps_listed : capped_limits 0 (market_agents p.demands p.lists) ≡ map limit_of_cell (capped_cells p)
    caps_listed =
        let start : (k : ℕ) → 0 + k ≡ k = λ k. omega arith in
        caps_from 0 p.demands p.lists (h.demands_many ∙ sym h.lists_many) (λ k l. ap (demand_at p) (start k)) (λ k l. ap (list_at p) (start k))
        (recursion_from_All (IsListUpTo (length p.objects)) p.lists h.lists)

    pub limits_listed : limits_of p ≡ map limit_of_set (stated_sets p) ++ map limit_of_cell (capped_cells p)
    limits_listed = ap (λ limits. map limit_of_set (stated_sets p) ++ limits) caps_listed

    -- what holds of each stated set and of each capped cell holds of each limit
    pub each_limit : (P : Limit → Type 0) → All (λ s. P (limit_of_set s)) (stated_sets p) → All (λ c. P (limit_of_cell c)) (capped_cells p) → All P (limits_of p)
    each_limit P stated capped =
        subst (All P) (sym limits_listed)
        (All-append P (map limit_of_set (stated_sets p)) (map limit_of_cell (capped_cells p)) (All-map P limit_of_set (stated_sets p) stated) (All-map P limit_of_cell (capped_cells p) capped))

    pub capped_distinct : IsDistinct same_cell (capped_cells p)
    capped_distinct = distinct_filter same_cell cell_test (is_capped p) (listed_cells p) (listed_distinct p h)

    stated_many : length (map limit_of_set (stated_sets p)) ≡ p.stated
    stated_many = length-map (stated_sets p) limit_of_set ∙ (let many = sets_of_problem p h in omega (arith, many, length-take p.stated p.family.sets))

    later_is : (k : ℕ) → slice_get (limits_of p) (p.stated + k) ≡ option_map limit_of_cell (slice_get (capped_cells p) k)
    later_is k =
        ap (λ limits. slice_get limits (p.stated + k)) limits_listed
        ∙ ap (λ n. slice_get (map limit_of_set (stated_sets p) ++ map limit_of_cell (capped_cells p)) (n + k)) (sym stated_many)
        ∙ second_at (map limit_of_set (stated_sets p)) (map limit_of_cell (capped_cells p)) k
        ∙ slice_get-map limit_of_cell (capped_cells p) k

    -- a cell is one of the capped cells exactly where it is capped
    pub capped_member : (c : Cell) → is_capped p c ≡ true → holds (capped_cells p) c ≡ true
    capped_member c e =
        let one = and_parts (nat_le 2 (demand_at p c.agent)) (is_member nat_eq (list_at p c.agent) c.object && nat_lt c.object (length p.objects)) e in
        let two = and_parts (is_member nat_eq (list_at p c.agent) c.object) (nat_lt c.object (length p.objects)) one.1 in
        let some : 2 ≤ demand_at p c.agent = leb-true 2 (demand_at p c.agent) one.0 in
        let inside : c.agent < length p.lists = within (cases_lt c.agent (length p.demands)) some in
        member_of_filter same_cell cell_test (is_capped p) (listed_cells p) c ∙ and_from (holds (listed_cells p) c) (is_capped p c) (column_listed p c.agent c.object inside two.0) e
      where
        within : (c.agent < length p.demands) ⊎ (length p.demands ≤ c.agent) → 2 ≤ demand_at p c.agent → c.agent < length p.lists
        within (inl l) some = omega (arith, l, h.demands_many, h.lists_many)
        within (inr l) some = absurd (omega (arith, some, get_or_past p.demands c.agent 0 l))

    pub member_capped : (c : Cell) → holds (capped_cells p) c ≡ true → is_capped p c ≡ true
    member_capped c m =
        let (k, l, e) = member_place same_cell cell_test c (capped_cells p) m in
        subst (λ d. is_capped p d ≡ true) (e c) (filter_passes (is_capped p) (listed_cells p) k c l)

    -- a cell has a limit of its own exactly where it is capped
    pub own_limit : (c : Cell) → is_capped p c ≡ true → HasOwnLimit p c
    own_limit c e =
        let (k, l, at) = member_place same_cell cell_test c (capped_cells p) (capped_member c e) in
        (p.stated + k, omega arith, later_is k ∙ ap (option_map limit_of_cell) (slice_get-get_or (capped_cells p) k c l ∙ ap Some (at c)))

    pub capped_from_limit : (c : Cell) → HasOwnLimit p c → is_capped p c ≡ true
    capped_from_limit c (j, low, at) =
        let place : p.stated + (j - p.stated) ≡ j = omega (arith, low) in
        let found : option_map limit_of_cell (slice_get (capped_cells p) (j - p.stated)) ≡ Some (limit_of_cell c) =
        sym (later_is (j - p.stated)) ∙ ap (slice_get (limits_of p)) place ∙ at in
        within (cases_lt (j - p.stated) (length (capped_cells p))) found
      where
        within : (j - p.stated < length (capped_cells p)) ⊎ (length (capped_cells p) ≤ j - p.stated) → option_map limit_of_cell (slice_get (capped_cells p) (j - p.stated)) ≡ Some (limit_of_cell c) → is_capped p c ≡ true
        within (inl l) found =
            let limit : limit_of_cell (get_or (capped_cells p) (j - p.stated) c) ≡ limit_of_cell c =
            same_Some _ _ (ap (option_map limit_of_cell) (sym (slice_get-get_or (capped_cells p) (j - p.stated) c l)) ∙ found) in
            let same : get_or (capped_cells p) (j - p.stated) c ≡ c = ap (λ (s : Limit). get_or s.cells 0 c) limit in
            subst (λ d. is_capped p d ≡ true) same (filter_passes (is_capped p) (listed_cells p) (j - p.stated) c l)
        within (inr past) found = absurd (none (sym (ap (option_map limit_of_cell) (slice_get_past (capped_cells p) (j - p.stated) past)) ∙ found))
          where
            none : option_map limit_of_cell None ≡ Some (limit_of_cell c) → ⊥
            none e = cc e
