-- Sums over lists: equal terms, exchange of summation, lists that are made of lists, a sum restricted to places, and sums of a matrix.
use Rattle.std.proofs.Common.{◌≡◌, ℕ, suc, zero, ◌+◌, ◌*◌, ◌<◌, ◌≤◌, List, [], ◌∷◌, ◌++◌, map, length, take, drop, get_or, refl, ap, sym, ◌∙◌, arith, Bool, true, false, cond, subst}
use Rattle.std.specs.Prelude.{sum_by, sum, flat_map, ◌||◌}
use Rattle.std.specs.List.{AllByRecursion, range_with_len, IsDistinct, zip}
use Rattle.std.specs.Set.{is_member}
use Rattle.std.proofs.lemmas.Bool.{lt-ltb, le-ltb}
use Rattle.std.proofs.lemmas.List.{map-append, take_all, drop-drop}
use Rattle.std.proofs.lemmas.List.Sums.{sum_by-cons, sum_by-append, sum-map}
use Rattle.std.proofs.lemmas.Slice.Zip.{firsts-zip}
use Rattle.std.proofs.Math.Nat.{mul-add}
use Rattle.std.proofs.Math.Seq.{drop-cons, take-add}
use Rattle.definitions.specs.declared.Cell.{Cell}
use Rattle.definitions.specs.Sets.{cell_of, cell_index, unit_at, row_cells, all_cells}
use Rattle.definitions.proofs.Members.{IsEqualityTest, distinct_first, distinct_rest}

-- equal terms, equal sums
pub sum_same : {X : Type 0} (f g : X → ℕ) (xs : List X) → ((x : X) → f x ≡ g x) → sum_by f xs ≡ sum_by g xs
sum_same f g [] e = refl
sum_same f g (x ∷ xs) e = omega (arith, sum_by-cons f x xs, sum_by-cons g x xs, e x, sum_same f g xs e)

-- the same where the terms are equal of what P holds of
pub sum_same_all : {X : Type 0} (P : X → Type 0) (f g : X → ℕ) (xs : List X) → ((x : X) → P x → f x ≡ g x) → AllByRecursion P xs → sum_by f xs ≡ sum_by g xs
sum_same_all P f g [] e a = refl
sum_same_all P f g (x ∷ xs) e a = omega (arith, sum_by-cons f x xs, sum_by-cons g x xs, e x a.0, sum_same_all P f g xs e a.1)

-- smaller terms, a smaller sum
pub sum_le_all : {X : Type 0} (P : X → Type 0) (f g : X → ℕ) (xs : List X) → ((x : X) → P x → f x ≤ g x) → AllByRecursion P xs → sum_by f xs ≤ sum_by g xs
sum_le_all P f g [] e a = omega arith
sum_le_all P f g (x ∷ xs) e a = omega (arith, sum_by-cons f x xs, sum_by-cons g x xs, e x a.0, sum_le_all P f g xs e a.1)

-- a sum of nothing but 0
pub sum_zero : {X : Type 0} (xs : List X) → sum_by (λ (x : X). 0) xs ≡ 0
sum_zero [] = refl
sum_zero {X} (x ∷ xs) = omega (arith, sum_by-cons (λ (y : X). 0) x xs, sum_zero xs)

-- the sum of sums of two terms
pub sum_of_sums : {X : Type 0} (f g : X → ℕ) (xs : List X) → sum_by (λ x. f x + g x) xs ≡ sum_by f xs + sum_by g xs
sum_of_sums f g [] = refl
sum_of_sums f g (x ∷ xs) = omega (arith, sum_by-cons (λ y. f y + g y) x xs, sum_by-cons f x xs, sum_by-cons g x xs, sum_of_sums f g xs)

-- a factor of each term
pub sum_scaled : {X : Type 0} (k : ℕ) (f : X → ℕ) (xs : List X) → sum_by (λ x. k * f x) xs ≡ k * sum_by f xs
sum_scaled k f [] = omega arith
sum_scaled k f (x ∷ xs) =
    let e : k * sum_by f (x ∷ xs) ≡ k * f x + k * sum_by f xs = ap (λ n. k * n) (sum_by-cons f x xs) ∙ mul-add k (f x) (sum_by f xs) in
    omega (arith, sum_by-cons (λ y. k * f y) x xs, e, sum_scaled k f xs)

-- the order of two summations doesn't matter
pub exchange : {X Y : Type 0} (f : X → Y → ℕ) (xs : List X) (ys : List Y) → sum_by (λ x. sum_by (f x) ys) xs ≡ sum_by (λ y. sum_by (λ x. f x y) xs) ys
exchange f [] ys = sym (sum_zero ys)
exchange f (x ∷ xs) ys =
    let head : sum_by (λ v. sum_by (f v) ys) (x ∷ xs) ≡ sum_by (f x) ys + sum_by (λ v. sum_by (f v) ys) xs = sum_by-cons (λ v. sum_by (f v) ys) x xs in
    let split : sum_by (λ y. f x y + sum_by (λ v. f v y) xs) ys ≡ sum_by (f x) ys + sum_by (λ y. sum_by (λ v. f v y) xs) ys = sum_of_sums (f x) (λ y. sum_by (λ v. f v y) xs) ys in
    let same : sum_by (λ y. sum_by (λ v. f v y) (x ∷ xs)) ys ≡ sum_by (λ y. f x y + sum_by (λ v. f v y) xs) ys = sum_same (λ y. sum_by (λ v. f v y) (x ∷ xs)) (λ y. f x y + sum_by (λ v. f v y) xs) ys (λ y. sum_by-cons (λ v. f v y) x xs) in
    omega (arith, head, split, same, exchange f xs ys)

-- a sum over a list that is a function of another
pub sum_mapped : {X Y : Type 0} (f : Y → ℕ) (g : X → Y) (xs : List X) → sum_by f (map g xs) ≡ sum_by (λ x. f (g x)) xs
sum_mapped f g [] = refl
sum_mapped f g (x ∷ xs) = omega (arith, sum_by-cons f (g x) (map g xs), sum_by-cons (λ z. f (g z)) x xs, sum_mapped f g xs)

-- a sum over lists joined end to end
pub sum_flat : {X Y : Type 0} (f : Y → ℕ) (g : X → List Y) (xs : List X) → sum_by f (flat_map g xs) ≡ sum_by (λ x. sum_by f (g x)) xs
sum_flat f g [] = refl
sum_flat f g (x ∷ xs) = omega (arith, sum_by-append f (g x) (flat_map g xs), sum_by-cons (λ z. sum_by f (g z)) x xs, sum_flat f g xs)

-- a sum over numbers from a later one on
pub sum_shifted : (f : ℕ → ℕ) (s w n : ℕ) → sum_by f (range_with_len (s + w) n) ≡ sum_by (λ k. f (k + w)) (range_with_len s n)
sum_shifted f s w zero = refl
sum_shifted f s w (suc n) =
    let start : s + w + 1 ≡ s + 1 + w = omega arith in
    let later : sum_by f (range_with_len (s + w + 1) n) ≡ sum_by f (range_with_len (s + 1 + w) n) = ap (λ k. sum_by f (range_with_len k n)) start in
    omega (arith, sum_by-cons f (s + w) (range_with_len (s + w + 1) n), sum_by-cons (λ k. f (k + w)) s (range_with_len (s + 1) n), later, sum_shifted f (s + 1) w n)

-- a sum over the firsts of pairs
pub sum_firsts : {A B : Type 0} (f : A → ℕ) (xs : List A) (ys : List B) → length ys ≡ length xs → sum_by (λ (w : A × B). f w.0) (zip xs ys) ≡ sum_by f xs
sum_firsts {A} {B} f xs ys e = sym (sum_mapped f (λ (w : A × B). w.0) (zip xs ys)) ∙ ap (sum_by f) (firsts-zip xs ys e)

-- and over the first k of them
pub sum_first_firsts : {A B : Type 0} (f : A → ℕ) (k : ℕ) (xs : List A) (ys : List B) → length ys ≡ length xs → sum_by (λ (w : A × B). f w.0) (take k (zip xs ys)) ≡ sum_by f (take k xs)
sum_first_firsts f zero xs ys e = refl
sum_first_firsts f (suc k) [] ys e = refl
sum_first_firsts f (suc k) (a ∷ xs) [] e = absurd (omega arith)
sum_first_firsts {A} {B} f (suc k) (a ∷ xs) (b ∷ ys) e =
    omega (arith, sum_by-cons (λ (w : A × B). f w.0) (a, b) (take k (zip xs ys)), sum_by-cons f a (take k xs), sum_first_firsts f k xs ys (omega (arith, e)))

single_step : {X : Type 0} (eq : X → X → Bool) (t : IsEqualityTest eq) (g : X → ℕ) (x y : X) (ys : List X) (b m : Bool) → eq x y ≡ b → is_member eq ys x ≡ m → is_member eq ys y ≡ false → sum_by (λ z. cond (eq x z) (g z) 0) ys ≡ cond m (g x) 0 → cond b (g y) 0 + sum_by (λ z. cond (eq x z) (g z) 0) ys ≡ cond (cond b true m) (g x) 0
single_step eq t g x y ys true m e f n ih =
    let same : x ≡ y = t.sound x y e in
    let none : is_member eq ys x ≡ false = subst (λ z. is_member eq ys z ≡ false) (sym same) n in
    let off : m ≡ false = sym f ∙ none in
    let zero_rest : sum_by (λ z. cond (eq x z) (g z) 0) ys ≡ 0 = ih ∙ ap (λ v. cond v (g x) 0) off in
    omega (arith, zero_rest, ap g same)
single_step eq t g x y ys false m e f n ih = omega (arith, ih)

or_cond : (b m : Bool) → cond b true m ≡ (b || m)
or_cond true m = refl
or_cond false m = refl

-- a sum over a list without repeats of what stands at one element
pub single : {X : Type 0} (eq : X → X → Bool) (t : IsEqualityTest eq) (g : X → ℕ) (x : X) (ys : List X) → IsDistinct eq ys → sum_by (λ y. cond (eq x y) (g y) 0) ys ≡ cond (is_member eq ys x) (g x) 0
single eq t g x [] a = refl
single eq t g x (y ∷ ys) a =
    sum_by-cons (λ z. cond (eq x z) (g z) 0) y ys
    ∙ single_step eq t g x y ys (eq x y) (is_member eq ys x) refl refl (distinct_first eq y ys a) (single eq t g x ys (distinct_rest eq y ys a))
    ∙ ap (λ b. cond b (g x) 0) (or_cond (eq x y) (is_member eq ys x))

turned : {X : Type 0} (eq : X → X → Bool) (t : IsEqualityTest eq) (f : X → ℕ) (c q : X) (b : Bool) → eq q c ≡ b → cond (eq c q) (f q) 0 ≡ cond (eq q c) (f c) 0
turned eq t f c q true e =
    let same : q ≡ c = t.sound q c e in
    ap (λ v. cond v (f q) 0) (t.turned c q) ∙ ap (λ n. cond (eq q c) n 0) (ap f same)
turned eq t f c q false e =
    let e' : eq c q ≡ false = t.turned c q ∙ e in
    ap (λ v. cond v (f q) 0) e' ∙ sym (ap (λ v. cond v (f c) 0) e)

-- a sum over a list of cells, taken over the places that hold them, where nothing stands off the places
pub restrict : {X : Type 0} (eq : X → X → Bool) (t : IsEqualityTest eq) (f : X → ℕ) (cells places : List X) → IsDistinct eq cells → IsDistinct eq places → ((c : X) → cond (is_member eq places c) (f c) 0 ≡ f c) → sum_by f cells ≡ sum_by (λ q. cond (is_member eq cells q) (f q) 0) places
restrict eq t f cells places ac ap' off =
    let one : sum_by f cells ≡ sum_by (λ c. sum_by (λ q. cond (eq c q) (f q) 0) places) cells =
    sum_same f (λ c. sum_by (λ q. cond (eq c q) (f q) 0) places) cells (λ c. sym (single eq t f c places ap' ∙ off c)) in
    let two : sum_by (λ c. sum_by (λ q. cond (eq c q) (f q) 0) places) cells ≡ sum_by (λ q. sum_by (λ c. cond (eq c q) (f q) 0) cells) places =
    exchange (λ c q. cond (eq c q) (f q) 0) cells places in
    let three : sum_by (λ q. sum_by (λ c. cond (eq c q) (f q) 0) cells) places ≡ sum_by (λ q. cond (is_member eq cells q) (f q) 0) places =
    sum_same (λ q. sum_by (λ c. cond (eq c q) (f q) 0) cells) (λ q. cond (is_member eq cells q) (f q) 0) places
    (λ q. sum_same (λ c. cond (eq c q) (f q) 0) (λ c. cond (eq q c) (f c) 0) cells (λ c. turned eq t f c q (eq q c) refl) ∙ single eq t f q cells ac) in
    one ∙ two ∙ three

-- the units at a cell in range are the entry at its index
pub unit_at_within : (columns : ℕ) (units : List ℕ) (c : Cell) → c.object < columns → unit_at columns units c ≡ get_or units (cell_index columns c) 0
unit_at_within columns units c h = rw (lt-ltb c.object columns h) refl

-- a cell past the columns has none
pub unit_at_past : (columns : ℕ) (units : List ℕ) (c : Cell) → columns ≤ c.object → unit_at columns units c ≡ 0
unit_at_past columns units c h = rw (le-ltb c.object columns h) refl

-- the units at the cells of a part of a row
part_units : (columns : ℕ) (m : List ℕ) (i s n k : ℕ) → i * columns + s ≡ k → s + n ≤ columns → i * columns + columns ≤ length m → map (unit_at columns m) (map (cell_of i) (range_with_len s n)) ≡ take n (drop k m)
part_units columns m i s zero k e h l = refl
part_units columns m i s (suc n) k e h l =
    let here : drop k m ≡ get_or m k 0 ∷ drop (suc k) m = drop-cons m k 0 (omega arith) in
    let first : unit_at columns m (cell_of i s) ≡ get_or m k 0 = unit_at_within columns m (cell_of i s) (omega arith) ∙ ap (λ j. get_or m j 0) e in
    let rest : map (unit_at columns m) (map (cell_of i) (range_with_len (s + 1) n)) ≡ take n (drop (suc k) m) = part_units columns m i (s + 1) n (suc k) (omega arith) (omega arith) l in
    ap (λ x. x ∷ map (unit_at columns m) (map (cell_of i) (range_with_len (s + 1) n))) first ∙ ap (λ xs. get_or m k 0 ∷ xs) rest ∙ sym (ap (take (suc n)) here)

-- the units at the cells of a row are that row of the list
pub row_units : (columns : ℕ) (m : List ℕ) (i : ℕ) → i * columns + columns ≤ length m → map (unit_at columns m) (row_cells columns i) ≡ take columns (drop (i * columns) m)
row_units columns m i l = part_units columns m i 0 columns (i * columns) (omega arith) (omega arith) l

rows_units : (columns : ℕ) (m : List ℕ) (a n : ℕ) → (a + n) * columns ≤ length m → map (unit_at columns m) (flat_map (row_cells columns) (range_with_len a n)) ≡ take (n * columns) (drop (a * columns) m)
rows_units columns m a zero h = let none : 0 ≡ 0 * columns = omega arith in ap (λ k. take k (drop (a * columns) m)) none
rows_units columns m a (suc n) h =
    let wide : (a + suc n) * columns ≡ a * columns + (columns + n * columns) = grind arith in
    let step : (a + 1) * columns ≡ a * columns + columns = grind arith in
    let more : suc n * columns ≡ columns + n * columns = grind arith in
    let bound : (a + 1 + n) * columns ≤ length m = (let one : a + 1 + n ≡ a + suc n = omega arith in let same : (a + 1 + n) * columns ≡ (a + suc n) * columns = ap (λ k. k * columns) one in omega (arith, same, h)) in
    let row : map (unit_at columns m) (row_cells columns a) ≡ take columns (drop (a * columns) m) = row_units columns m a (omega (arith, wide, h)) in
    let rest : map (unit_at columns m) (flat_map (row_cells columns) (range_with_len (a + 1) n)) ≡ take (n * columns) (drop (a * columns + columns) m) = rows_units columns m (a + 1) n bound ∙ ap (λ k. take (n * columns) (drop k m)) step in
    map-append (unit_at columns m) (row_cells columns a) (flat_map (row_cells columns) (range_with_len (a + 1) n))
    ∙ ap (λ xs. xs ++ map (unit_at columns m) (flat_map (row_cells columns) (range_with_len (a + 1) n))) row
    ∙ ap (λ xs. take columns (drop (a * columns) m) ++ xs) (rest ∙ ap (take (n * columns)) (sym (drop-drop columns (a * columns) m)))
    ∙ sym (take-add columns (n * columns) (drop (a * columns) m))
    ∙ ap (λ k. take k (drop (a * columns) m)) (sym more)

-- the units at all cells of a matrix are its list
pub all_units : (agents columns : ℕ) (m : List ℕ) → length m ≡ agents * columns → map (unit_at columns m) (all_cells agents columns) ≡ m
all_units agents columns m h =
    let none : 0 * columns ≡ 0 = omega arith in
    let one : 0 + agents ≡ agents = omega arith in
    let all : (0 + agents) * columns ≡ agents * columns = ap (λ k. k * columns) one in
    let bound : (0 + agents) * columns ≤ length m = omega (arith, all, h) in
    rows_units columns m 0 agents bound ∙ ap (λ k. take (agents * columns) (drop k m)) none ∙ take_all (agents * columns) m (omega (arith, h))

-- the sum of all units
pub sum_of_units : (agents columns : ℕ) (m : List ℕ) → length m ≡ agents * columns → sum_by (unit_at columns m) (all_cells agents columns) ≡ sum m
sum_of_units agents columns m h = sym (sum-map (unit_at columns m) (all_cells agents columns)) ∙ ap sum (all_units agents columns m h)
