-- What is made is the recipe.
use Rattle.std.proofs.Common.{◌≡◌, ℕ, zero, suc, ◌+◌, ◌-◌, ◌*◌, ◌<◌, ◌≤◌, List, [], ◌∷◌, ◌++◌, Option, Some, None, IfSome, Bool, true, false, cond, length, map, get_or, drop, length-take, ◌&&◌, pos, refl, ap, sym, ◌∙◌, subst, inl, inr, arith, All}
use Rattle.std.specs.Prelude.{min, fold, nat_lt, slice_index, ◌==◌}
use Rattle.std.specs.List.{AllByRecursion, range_with_len}
use Rattle.std.proofs.lemmas.List.Elements.{recursion_from_All, All-map}
use Rattle.std.proofs.lemmas.Nat.{mul-le}
use Rattle.side_laws.proofs.Members.{least_start}
use Rattle.std.proofs.lemmas.Bool.{cases_lt}
use Rattle.std.proofs.lemmas.List.{get_or-map}
use Rattle.std.proofs.lemmas.List.FromFn.{length-map-range_with_len, get_or-map-range_with_len}
use Rattle.definitions.specs.declared.Cell.{Cell}
use Rattle.definitions.specs.Sets.{cell_of, holds, unit_at, units_of, IsSet, IsCellWithin}
use Rattle.definitions.specs.Trees.{TreesValue, AreTreesOf, parent_at, deepest_at, chain_of}
use Rattle.definitions.specs.Values.{Limit, ProblemValue, IsProblem, PricesValue, capped_limits, market_of, limits_of, stated_sets, list_at, column_count, is_capped}
use Rattle.definitions.specs.Eating.{full_at, share}
use Rattle.definitions.specs.Certificate.{ListPlace, Certifies, is_left_out, place_cell, worths_along, moment_number, chain_rank, recipe_width, recipe_price, recipe_worths, place_of_list, IsRecipeOf}
use Rattle.definitions.proofs.Families.{sets_of_problem}
use Rattle.definitions.specs.Laws.{limit_of_set}
use Rattle.definitions.proofs.Problems.{list_lawful}
use Rattle.definitions.proofs.Sums.{sum_same}
use Rattle.side_laws.proofs.Rows.{stated_side, two_is_stated}
use Rattle.side_laws.proofs.Trees.{chain_none, chain_step, parent_is, deepest_holds}
use Rattle.eating_laws.proofs.Full.{full_le}
use Rattle.eating_laws.proofs.Limits.{agent_count}
use Rattle.eating_laws.proofs.Assignment.{units_are_shares}
use Rattle.eating.specs.Answers.{IsEaten, IsEatenBy, cap_at}
use Rattle.eating.specs.Eaten.{EatenValue}
use Rattle.price_cert.specs.declared.recipe.Recipe.{Recipe}
use Rattle.price_cert.specs.Certified.{CertifiesEaten, shares_of}
use Rattle.price_cert.specs.Moments.{IsNumbering, number_in}
use Rattle.price_cert.specs.Ranks.{IsClimbable, rank_in, rank_at, price_in}
use Rattle.price_cert.specs.Recipes.{IsFitting, IsRecipeFor}
use Rattle.price_cert.specs.Worths.{place_in, worths_in}
use Rattle.price_cert.proofs.Numbers.{number_later}
use Rattle.price_cert.proofs.CellPrices.{rank_none, deepest_rank}
use Rattle.price_cert.proofs.LeftOut.{stated_many}
use Rattle.price_cert.proofs.NumbersAgree.{numbers_agree, top_agrees, moments_many, moments_at}
use Rattle.price_cert.proofs.Certified.{certified}

if_some : {X : Type 0} (P : X → Type 0) (o : Option X) → ((x : X) → o ≡ Some x → P x) → IfSome o P
if_some P None f = tt
if_some P (Some x) f = f x refl

map_range_same : {X : Type 0} (f g : ℕ → X) (n k : ℕ) → ((s : ℕ) → n ≤ s → s < n + k → f s ≡ g s) → map f (range_with_len n k) ≡ map g (range_with_len n k)
map_range_same f g n zero h = refl
map_range_same f g n (suc k) h =
    ap (λ x. x ∷ map f (range_with_len (n + 1) k)) (h n (omega arith) (omega arith)) ∙ ap (λ xs. g n ∷ xs) (map_range_same f g (n + 1) k (λ s l m. h s (omega arith) (omega arith)))

-- a chain over numbers that agree
same_along : (t : TreesValue) (n : ℕ) (f g : ℕ → ℕ) → IsClimbable t n → ((s : ℕ) → 0 < s → s ≤ n → f s ≡ g s) → (xs : List ℕ) (o : Option ℕ) → chain_of t o ≡ xs
    → IfSome o (λ s. (0 < s) × (s ≤ n)) → (a : ℕ) → fold (λ b s. min b (f s)) a xs ≡ fold (λ b s. min b (g s)) a xs
same_along t n f g c h [] o q known a = refl
same_along t n f g c h (x ∷ xs) None q known a = (let no : [] ≡ x ∷ xs = sym (chain_none t) ∙ q in absurd (cc))
same_along t n f g c h (x ∷ xs) (Some s) q known a =
    let both : s ∷ chain_of t (parent_at t s) ≡ x ∷ xs = sym (c.steps s known.0 known.1) ∙ q in
    let head : s ≡ x = cc in
    let tail : chain_of t (parent_at t s) ≡ xs = cc in
    let same : f x ≡ g x = subst (λ y. f y ≡ g y) head (h s known.0 known.1) in
    same_along t n f g c h xs (parent_at t s) tail (c.parents s known.0 known.1) (min a (f x)) ∙ ap (λ y. fold (λ b s. min b (g s)) (min a y) xs) same

-- the limits in two parts
full_split : (D : ℕ) (xs ys : List Limit) (e : List ℕ) (i a : ℕ) → length xs ≤ length e → full_at D (xs ++ ys) e i a ≡ min (full_at D xs e i a) (full_at D ys (drop (length xs) e) i a)
unfolding full_at
full_split D [] ys e i a l = (let low = full_le D ys e i a in omega (arith, low))
full_split D (s ∷ xs) ys [] i a l = absurd (omega arith)
full_split D (s ∷ xs) ys (x ∷ e) i a l = pick (holds s.cells (cell_of i a)) x (full_at D xs e i a) (full_at D ys (drop (length xs) e) i a) (full_at D (xs ++ ys) e i a) (full_split D xs ys e i a (omega arith))
  where
    pick : (b : Bool) (x y z w : ℕ) → w ≡ min y z → cond b (min x w) w ≡ min (cond b (min x y) y) z
    pick true x y z w h = omega arith
    pick false x y z w h = h

number_min : (e : List ℕ) (d a b : ℕ) → moment_number e d (min a b) ≡ min (moment_number e d a) (moment_number e d b)
number_min e d a b = elim (cases_lt a b) [
  | inl less ↦
      let same : min a b ≡ a = omega arith in
      let rise = number_later e d a b (omega arith) in
      ap (moment_number e d) same ∙ (let q : moment_number e d a ≡ min (moment_number e d a) (moment_number e d b) = omega (arith, rise) in q)
  | inr more ↦
      let same : min a b ≡ b = omega arith in
      let rise = number_later e d b a more in
      ap (moment_number e d) same ∙ (let q : moment_number e d b ≡ min (moment_number e d a) (moment_number e d b) = omega (arith, rise) in q)
]

module _ (p : ProblemValue) (h : IsProblem p) (t : TreesValue) (r : AreTreesOf p.family t) where
  -- the ways up from stated sets stay among them
  pub climbable : IsClimbable t p.stated
  climbable = record {
    room = (let sets = r.sets in let many = sets_of_problem p h in omega (arith, sets, many));
    parents = λ s low high. if_some (λ q. (0 < q) × (q ≤ p.stated)) (parent_at t s) (λ q e.
        (let known = is_set s low high in
        let parent = parent_is p.family h.family.lawful t r s q known e in
        (parent.above.known.0, two_is_stated p h q parent.above.known (sym parent.above.sides ∙ stated_side p h s known high))));
    steps = λ s low high. chain_step p.family h.family.lawful t r s (is_set s low high);
  }
    where
      is_set : (s : ℕ) → 0 < s → s ≤ p.stated → IsSet p.family s
      is_set s low high = (low, (let many = sets_of_problem p h in omega (arith, many, high)))

  -- and so is the deepest set of each cell, where there is one
  pub deepest_stated : (c : Cell) → IsCellWithin p.family.agents p.family.columns c → IfSome (deepest_at t 2 c) (λ s. (0 < s) × (s ≤ p.stated))
  deepest_stated c inside = if_some (λ s. (0 < s) × (s ≤ p.stated)) (deepest_at t 2 c) (λ s e.
      (let holder = deepest_holds p.family h.family.lawful t r 2 c (inr refl) inside s e in (holder.0.0, two_is_stated p h s holder.0 holder.1)))

  module _ (e : List ℕ) (v : EatenValue) (by : IsEatenBy p e v) (c : Recipe) (made : IsRecipeFor p t v c) where
    abbrev d : ℕ
    d = v.shares.denominator

    abbrev numbers : List ℕ
    numbers = map (number_in c.order.items) v.moments

    many : length v.moments ≡ p.stated
    many = moments_many p h e v by

    top_is : c.top ≡ moment_number e d d
    top_is = made.top ∙ top_agrees p h e v by c.order.items made.numbering

    number_at : (s : ℕ) → 0 < s → s ≤ p.stated → slice_index numbers (s - 1) ≡ moment_number e d (slice_index e (s - 1))
    number_at s low high =
        get_or-map (number_in c.order.items) v.moments (s - 1) 0 0 (omega (arith, many, low, high)) ∙ numbers_agree p h e v by c.order.items made.numbering (get_or v.moments (s - 1) 0)
        ∙ ap (moment_number e d) (moments_at p h e v by (s - 1) (omega (arith, low, high)))

    rank_agrees : (o : Option ℕ) → IfSome o (λ s. (0 < s) × (s ≤ p.stated)) → rank_in numbers c.top t o ≡ chain_rank t e d o
    rank_agrees o known =
        ap (λ m. rank_in numbers m t o) top_is
        ∙ same_along t p.stated (λ s. slice_index numbers (s - 1)) (λ s. moment_number e d (slice_index e (s - 1))) climbable number_at (chain_of t o) o refl known (moment_number e d d)

    rank_at_agrees : (o : Option ℕ) → IfSome o (λ s. (0 < s) × (s ≤ p.stated)) → rank_at c.ranks.items c.top o ≡ chain_rank t e d o
    rank_at_agrees None known = top_is ∙ sym (rank_none p h t r d e)
    rank_at_agrees (Some s) known =
        ap (λ l. slice_index l (s - 1)) made.ranks
        ∙ get_or-map-range_with_len (λ u. rank_in numbers c.top t (Some u)) 1 (length v.moments) (s - 1) s 0 (omega (arith, many, known.0, known.1)) (omega (arith, known.0))
        ∙ rank_agrees (Some s) known

    price_agrees : (s : ℕ) → 1 ≤ s → s < 1 + p.stated → price_in c.width c.ranks.items c.top t s ≡ recipe_price p t d e s
    price_agrees s low high =
        ap (λ w. w * (rank_at c.ranks.items c.top (parent_at t s) - rank_at c.ranks.items c.top (Some s))) made.width
        ∙ ap (λ m. recipe_width p * (m - rank_at c.ranks.items c.top (Some s))) (rank_at_agrees (parent_at t s) (climbable.parents s low (omega arith)))
        ∙ ap (λ m. recipe_width p * (chain_rank t e d (parent_at t s) - m)) (rank_at_agrees (Some s) (low, omega arith))

    module _ (i a : ℕ) (known : i < length p.agents) (column : a < column_count p) where
      inside : IsCellWithin p.family.agents p.family.columns (cell_of i a)
      inside = (omega (arith, h.family_agents, known), omega (arith, h.family_columns, column))

      room : p.stated ≤ length e
      room = omega (arith, many, ap length by.moments, length-take p.stated e)

      least_agrees : min (rank_at c.ranks.items c.top (deepest_at t 2 (cell_of i a))) (number_in c.order.items (unit_at v.shares.columns v.caps (cell_of i a))) ≡ moment_number e d (full_at d (limits_of p) e i a)
      least_agrees =
          let stated = full_at d (map limit_of_set (stated_sets p)) e i a in
          let columns : v.shares.columns ≡ column_count p = by.shares.columns in
          let cap : unit_at v.shares.columns v.caps (cell_of i a) ≡ cap_at p d e i a = ap (λ n. unit_at n v.caps (cell_of i a)) columns ∙ by.caps.each i a known column in
          let one = rank_at_agrees (deepest_at t 2 (cell_of i a)) (deepest_stated (cell_of i a) inside) ∙ sym (deepest_rank p h t r d e i a inside room) in
          let two = numbers_agree p h e v by c.order.items made.numbering (unit_at v.shares.columns v.caps (cell_of i a)) ∙ ap (moment_number e d) cap in
          let split = full_split d (map limit_of_set (stated_sets p)) (capped_limits 0 (market_of p).agents) e i a (omega (arith, stated_many p h, room)) in
          let whole = split ∙ ap (λ n. min (full_at d (map limit_of_set (stated_sets p)) e i a) (full_at d (capped_limits 0 (market_of p).agents) (drop n e) i a)) (stated_many p h) in
          ap (λ n. min n (number_in c.order.items (unit_at v.shares.columns v.caps (cell_of i a)))) one ∙ ap (λ n. min (moment_number e d (full_at d (map limit_of_set (stated_sets p)) e i a)) n) two
          ∙ sym (number_min e d (full_at d (map limit_of_set (stated_sets p)) e i a) (cap_at p d e i a)) ∙ ap (moment_number e d) (sym whole)

      pub place_agrees : place_in c t v (cell_of i a) ≡ place_of_list p d e i a
      place_agrees =
          let level = c.width * (c.top - min (rank_at c.ranks.items c.top (deepest_at t 2 (cell_of i a))) (number_in c.order.items (unit_at v.shares.columns v.caps (cell_of i a)))) in
          let eaten = nat_lt 0 (share (market_of p) d e i a) in
          let same : nat_lt 0 (units_of v.shares (cell_of i a)) ≡ eaten = ap (nat_lt 0) (units_are_shares p v.shares e h by.shares (cell_of i a)) in
          let value : level ≡ recipe_width p * (moment_number e d d - moment_number e d (full_at d (limits_of p) e i a)) =
          ap (λ w. w * (c.top - min (rank_at c.ranks.items c.top (deepest_at t 2 (cell_of i a))) (number_in c.order.items (unit_at v.shares.columns v.caps (cell_of i a))))) made.width
          ∙ ap (λ m. recipe_width p * (m - min (rank_at c.ranks.items c.top (deepest_at t 2 (cell_of i a))) (number_in c.order.items (unit_at v.shares.columns v.caps (cell_of i a))))) top_is
          ∙ ap (λ m. recipe_width p * (moment_number e d d - m)) least_agrees in
          ap (λ b. place_from b level) same ∙ ap (place_from eaten) value
        where
          place_from : Bool → ℕ → ListPlace
          place_from b n = record { eaten = b; level = n }

    worths_agree : (i : ℕ) → 0 ≤ i → i < 0 + length p.lists → worths_in c p t v i ≡ recipe_worths p d e i
    worths_agree i low high =
        let known : i < length p.agents = (let q = h.lists_many in omega (arith, q, high)) in
        ap (worths_along (pos 0)) (same_list known (list_at p i) (recursion_from_All (λ b. b ≤ length p.objects) (list_at p i) (list_lawful p i h known).known))
      where
        same_list : i < length p.agents → (xs : List ℕ) → AllByRecursion (λ b. b ≤ length p.objects) xs → map (λ a. place_in c t v (cell_of i a)) xs ≡ map (place_of_list p d e i) xs
        same_list known [] k = refl
        same_list known (x ∷ xs) k =
            let low : x ≤ length p.objects = k.0 in
            ap (λ q. q ∷ map (λ a. place_in c t v (cell_of i a)) xs) (place_agrees i x known (omega (arith, low))) ∙ ap (λ qs. place_of_list p d e i x ∷ qs) (same_list known xs k.1)

    ranks_many : length c.ranks.items ≡ p.stated
    ranks_many = ap length made.ranks ∙ length-map-range_with_len (λ u. rank_in numbers c.top t (Some u)) 1 (length v.moments) ∙ many

    -- prices and worths that are made so are those of the recipe
    pub made_from : (y : PricesValue) → y.price ≡ map (price_in c.width c.ranks.items c.top t) (range_with_len 1 (length c.ranks.items))
        → y.worth ≡ map (worths_in c p t v) (range_with_len 0 (length p.lists)) → IsRecipeOf p d e y
    made_from y prices worths = record {
      trees = t;
      of_family = r;
      prices = prices ∙ ap (λ n. map (price_in c.width c.ranks.items c.top t) (range_with_len 1 n)) ranks_many
          ∙ map_range_same (price_in c.width c.ranks.items c.top t) (recipe_price p t d e) 1 p.stated price_agrees;
      worths = worths ∙ map_range_same (worths_in c p t v) (recipe_worths p d e) 0 (length p.lists) worths_agree;
    }

-- a certificate of shares is one of a matrix with the same units
certifies_same : (p : ProblemValue) (d : ℕ) (x z : Cell → ℕ) (y : PricesValue) → ((c : Cell) → x c ≡ z c) → Certifies p d z y → Certifies p d x y
certifies_same p d x z y same k = record {
  shape = k.shape;
  fall = k.fall;
  full = λ s q at less. k.full s q at (let e = sum_same x z q.cells same in omega (arith, e, less));
  best = λ i k' j l m n used kept. k.best i k' j l m n (let e = same (place_cell p i k') in omega (arith, e, used)) (left i j kept);
}
  where
    left : (i j : ℕ) → is_left_out p d x (place_cell p i j) ≡ false → is_left_out p d z (place_cell p i j) ≡ false
    left i j kept = ap (λ n. is_capped p (place_cell p i j) && (n == d)) (sym (same (place_cell p i j))) ∙ kept

-- the recipe's numbers for what is eaten certify the matrix of the shares
pub certifies_eaten : (p : ProblemValue) (e : List ℕ) (v : EatenValue) (y : PricesValue) → IsProblem p → IsEatenBy p e v → IsRecipeOf p v.shares.denominator e y → CertifiesEaten p v y
certifies_eaten p e v y h by made =
    certifies_same p v.shares.denominator (units_of v.shares) (shares_of p v.shares.denominator e) y (units_are_shares p v.shares e h by.shares) (certified p h v.shares.denominator e by.table y made)

-- how many moments there are
pub order_few : (p : ProblemValue) (e : List ℕ) (v : EatenValue) (order : List ℕ) → IsProblem p → IsEatenBy p e v → IsNumbering v.shares.denominator v.moments v.caps order → length order ≤ 202000
order_few p e v order h by n =
    let few = n.few in
    let moments = moments_many p h e v by in
    let limit = h.stated_limit in
    let caps = by.caps.many in
    let agents = h.agents_limit in
    let objects = h.objects_limit in
    let cells : length p.agents * column_count p ≤ 1000 * 201 = mul-le (length p.agents) (column_count p) 1000 201 agents (omega (arith, objects)) in
    omega (arith, few, moments, limit, caps, cells)

module _ (p : ProblemValue) (t : TreesValue) (r : AreTreesOf p.family t) (v : EatenValue) (eaten : IsEaten p v) (c : Recipe) (made : IsRecipeFor p t v c) where
  pub ranks_stated : length c.ranks.items ≡ p.stated
  ranks_stated =
      ap length made.ranks ∙ length-map-range_with_len (λ u. rank_in (map (number_in c.order.items) v.moments) c.top t (Some u)) 1 (length v.moments)
      ∙ moments_many p made.lawful eaten.0 v eaten.1

  pub ranks_climbable : IsClimbable t (length c.ranks.items)
  ranks_climbable = subst (IsClimbable t) (sym ranks_stated) (climbable p made.lawful t r)

  pub ranks_few : length c.ranks.items ≤ 1000
  ranks_few = (let limit = made.lawful.stated_limit in omega (arith, limit, ranks_stated))

  pub ranks_within : All (λ rank. rank ≤ c.top) c.ranks.items
  ranks_within = subst (All (λ rank. rank ≤ c.top)) (sym made.ranks)
      (All-map (λ rank. rank ≤ c.top) (λ u. rank_in (map (number_in c.order.items) v.moments) c.top t (Some u)) (range_with_len 1 (length v.moments))
      (λ k b l. least_start (λ s. slice_index (map (number_in c.order.items) v.moments) (s - 1)) c.top (chain_of t (Some (get_or (range_with_len 1 (length v.moments)) k b)))))

  pub top_few : c.top ≤ 203000
  top_few = (let few = order_few p eaten.0 v c.order.items made.lawful eaten.1 made.numbering in let top = made.top in omega (arith, few, top))

  pub tree_agents : t.agents ≡ length p.agents
  tree_agents = r.agents ∙ made.lawful.family_agents

  pub tree_columns : t.columns ≡ column_count p
  tree_columns = r.columns ∙ made.lawful.family_columns

  pub fitting : IsFitting c t v
  fitting = record {
    agents = eaten.1.shares.agents ∙ agent_count p made.lawful ∙ sym tree_agents;
    columns = eaten.1.shares.columns ∙ sym tree_columns;
    agents_few = (let limit = made.lawful.agents_limit in omega (arith, limit, tree_agents));
    columns_few = (let limit = made.lawful.objects_limit in omega (arith, limit, tree_columns));
    rise = made.numbering.rise;
    few = order_few p eaten.0 v c.order.items made.lawful eaten.1 made.numbering;
    top = made.top;
    width = made.small;
    deepest = λ cell inside. subst (λ n. IfSome (deepest_at t 2 cell) (λ s. (0 < s) × (s ≤ n))) (sym ranks_stated)
        (deepest_stated p made.lawful t r cell (subst (λ n. cell.agent < n) r.agents inside.0, subst (λ n. cell.object < n) r.columns inside.1));
  }

-- a numbering of values that are those of what is eaten
pub numbering_of : (v : EatenValue) (end : ℕ) (moments caps order : List ℕ) → end ≡ v.shares.denominator → moments ≡ v.moments → caps ≡ v.caps → IsNumbering end moments caps order
    → IsNumbering v.shares.denominator v.moments v.caps order
numbering_of v end moments caps order e f g n =
    subst (λ a. IsNumbering a v.moments v.caps order) e (subst (λ xs. IsNumbering end xs v.caps order) f (subst (λ xs. IsNumbering end moments xs order) g n))
