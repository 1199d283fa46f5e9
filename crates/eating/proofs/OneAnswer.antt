-- A problem has one answer of eating: one table that is eaten, or one first table that is too fine, and not both.
use Rattle.std.proofs.Common.{◌≡◌, ℕ, suc, zero, ◌+◌, ◌*◌, ◌<◌, List, length, get_or, ap, sym, ◌∙◌, subst, arith, mul_comm}
use Rattle.std.specs.Prelude.{◌/◌, ◌%◌}
use Rattle.std.proofs.Math.Nat.{div-add-mod, mod-lt}
use Rattle.std.proofs.lemmas.List.{ext_get_or}
use Rattle.definitions.specs.Sets.{ScaledValue, cell_of, unit_at}
use Rattle.definitions.specs.Values.{Market, ProblemValue, column_count, market_of}
use Rattle.definitions.specs.Eating.{share, IsAssignmentOf}
use Rattle.definitions.proofs.Sums.{unit_at_within}
use Rattle.eating_laws.proofs.Fine.{below_from_product}
use Rattle.eating_laws.proofs.Unique.{same_table}
use Rattle.eating_laws.proofs.TooFine.{not_too_fine, one_first}
use Rattle.eating.specs.Eaten.{EatenValue}
use Rattle.eating.specs.Answers.{AreCaps, IsEatenBy, IsEaten, IsTooFineAt}

-- two matrices of one shape with the same entries are one list
pub same_units : (agents columns : ℕ) (x y : List ℕ) → length x ≡ agents * columns → length y ≡ agents * columns
    → ((i a : ℕ) → i < agents → a < columns → unit_at columns x (cell_of i a) ≡ unit_at columns y (cell_of i a)) → x ≡ y
same_units agents zero x y many many' each = ext_get_or 0 x y (many ∙ sym many') (λ k l. absurd (let none : agents * 0 ≡ 0 = omega arith in omega (arith, many, none)))
same_units agents (suc c) x y many many' each = ext_get_or 0 x y (many ∙ sym many') at
  where
    columns : ℕ
    columns = suc c

    at : (k : ℕ) → k < length x → get_or x k 0 ≡ get_or y k 0
    at k l =
        let i = k / columns in
        let a = k % columns in
        let column : a < columns = mod-lt k (let p : 0 < columns = omega arith in p) in
        let parts : columns * i + a ≡ k = div-add-mod k columns in
        let row : i < agents = below_from_product columns i agents a (omega (arith, parts, l, many, mul_comm agents columns)) in
        let place : i * columns + a ≡ k = omega (arith, parts, mul_comm i columns) in
        ap (λ n. get_or x n 0) (sym place) ∙ sym (unit_at_within columns x (cell_of i a) column) ∙ each i a row column
        ∙ unit_at_within columns y (cell_of i a) column ∙ ap (λ n. get_or y n 0) place

pub same_matrix : (x y : ScaledValue) → x.denominator ≡ y.denominator → x.agents ≡ y.agents → x.columns ≡ y.columns → x.units ≡ y.units → x ≡ y
same_matrix x y p q r s =
    let make : ℕ → ℕ → ℕ → List ℕ → ScaledValue = λ d i c u. record { denominator = d; agents = i; columns = c; units = u } in
    ap (λ d. make d x.agents x.columns x.units) p ∙ ap (λ i. make y.denominator i x.columns x.units) q
    ∙ ap (λ c. make y.denominator y.agents c x.units) r ∙ ap (λ u. make y.denominator y.agents y.columns u) s

pub same_value : (v w : EatenValue) → v.moments ≡ w.moments → v.shares ≡ w.shares → v.caps ≡ w.caps → v ≡ w
same_value v w p q r =
    let make : List ℕ → ScaledValue → List ℕ → EatenValue = λ m x c. record { moments = m; shares = x; caps = c } in
    ap (λ m. make m v.shares v.caps) p ∙ ap (λ x. make w.moments x v.caps) q ∙ ap (λ c. make w.moments w.shares c) r

same_caps : (p : ProblemValue) (D : ℕ) (e xs ys : List ℕ) → AreCaps p D e xs → AreCaps p D e ys → xs ≡ ys
same_caps p D e xs ys h k =
    same_units (length p.agents) (column_count p) xs ys h.many k.many (λ i a l m. h.each i a l m ∙ sym (k.each i a l m))

-- a table has one assignment
pub one_assignment : (width : ℕ) (market : Market) (D : ℕ) (e : List ℕ) (x y : ScaledValue) → IsAssignmentOf width market D e x → IsAssignmentOf width market D e y → x ≡ y
one_assignment width market D e x y h k =
    same_matrix x y (h.denominator ∙ sym k.denominator) (h.agents ∙ sym k.agents) (h.columns ∙ sym k.columns)
    (same_units (length market.agents) width x.units y.units (many x h) (many y k) (λ i a l m. unit x h i a l m ∙ sym (unit y k i a l m)))
  where
    many : (z : ScaledValue) → IsAssignmentOf width market D e z → length z.units ≡ length market.agents * width
    many z g = g.shape ∙ ap (λ n. n * z.columns) g.agents ∙ ap (λ n. length market.agents * n) g.columns

    unit : (z : ScaledValue) → IsAssignmentOf width market D e z → (i a : ℕ) → i < length market.agents → a < width → unit_at width z.units (cell_of i a) ≡ share market D e i a
    unit z g i a l m =
        ap (λ n. unit_at n z.units (cell_of i a)) (sym g.columns) ∙ g.units i a (subst (λ n. i < n) (sym g.agents) l) (subst (λ n. a < n) (sym g.columns) m)

-- one table eats one value
eaten_by_one : (p : ProblemValue) (e : List ℕ) (v w : EatenValue) → v.shares.denominator ≡ w.shares.denominator → IsEatenBy p e v → IsEatenBy p e w → v ≡ w
eaten_by_one p e v w one h k =
    same_value v w (h.moments ∙ sym k.moments)
    (one_assignment (column_count p) (market_of p) v.shares.denominator e v.shares w.shares h.shares
    (subst (λ D. IsAssignmentOf (column_count p) (market_of p) D e w.shares) (sym one) k.shares))
    (same_caps p v.shares.denominator e v.caps w.caps h.caps (subst (λ D. AreCaps p D e w.caps) (sym one) k.caps))

-- what is eaten in a problem is one value
pub one_eaten : (p : ProblemValue) (v w : EatenValue) → IsEaten p v → IsEaten p w → v ≡ w
one_eaten p v w h k =
    let same = same_table (market_of p) v.shares.denominator w.shares.denominator h.0 k.0 h.1.table k.1.table h.1.lowest k.1.lowest in
    eaten_by_one p h.0 v w same.0 h.1 (subst (λ e. IsEatenBy p e w) (sym same.1) k.1)

-- where something is eaten, no table is too fine
pub eaten_not_too_fine : (p : ProblemValue) (v : EatenValue) (D : ℕ) → IsEaten p v → IsTooFineAt p D → ⊥
eaten_not_too_fine p v D h k = not_too_fine (market_of p) v.shares.denominator D k.moment h.0 k.table h.1.table h.1.within k.first

-- a problem has one first table that is too fine at most
pub one_too_fine_at : (p : ProblemValue) (D D' : ℕ) → IsTooFineAt p D → IsTooFineAt p D' → D ≡ D'
one_too_fine_at p D D' h k = (one_first (market_of p) D D' h.moment k.moment h.table k.table h.first k.first).0
