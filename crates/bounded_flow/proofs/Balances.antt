-- What depends on the wires and the numbers of edges alone.
use Rattle.std.proofs.Common.{◌≡◌, ℕ, ◌+◌, ◌<◌, List, [], ◌∷◌, length, map, get_or, refl, ap, sym, ◌∙◌, subst, arith, All, cond, eqb}
use Rattle.std.specs.Prelude.{sum_by}
use Rattle.std.proofs.Math.ListN.{get_or-map}
use Rattle.std.proofs.lemmas.List.{length-map}
use Rattle.std.proofs.lemmas.List.Sums.{sum_by-cons}
use Rattle.bounded_flow.specs.declared.edge.Edge.{Edge}
use Rattle.bounded_flow.specs.Edges.{wire}
use Rattle.bounded_flow.specs.Flows.{Balanced, Owes, IsInside}

-- equal lists of wires have equal lengths
pub wires_many : (xs ys : List Edge) → map wire xs ≡ map wire ys → length xs ≡ length ys
wires_many xs ys e = sym (length-map xs wire) ∙ ap length e ∙ length-map ys wire

-- and equal wires
pub wire_at : (xs ys : List Edge) (k : ℕ) (d : Edge) → map wire xs ≡ map wire ys → wire (get_or xs k d) ≡ wire (get_or ys k d)
wire_at xs ys k d e = sym (get_or-map wire xs k d) ∙ ap (λ l. get_or l k (wire d)) e ∙ get_or-map wire ys k d

-- ends among the nodes stay there
pub inside_same : (n : ℕ) (new old : List Edge) → map wire new ≡ map wire old → All (IsInside n) old → All (IsInside n) new
inside_same n new old e inside k d h =
    subst (λ (w : ℕ × ℕ). (w.0 < n) × (w.1 < n)) (sym (wire_at new old k d e)) (inside k d (omega (arith, h, wires_many new old e)))

-- at one end, chosen from the wire, what flows is the same
end_same : (f : Edge → ℕ) (end : ℕ × ℕ → ℕ) (v : ℕ) (xs ys : List Edge) → map wire xs ≡ map wire ys → map f xs ≡ map f ys
    → sum_by (λ e. cond (eqb (end (wire e)) v) (f e) 0) xs ≡ sum_by (λ e. cond (eqb (end (wire e)) v) (f e) 0) ys
end_same f end v [] [] e g = refl
end_same f end v [] (y ∷ ys) e g = absurd (omega (arith, wires_many [] (y ∷ ys) e))
end_same f end v (x ∷ xs) [] e g = absurd (omega (arith, wires_many (x ∷ xs) [] e))
end_same f end v (x ∷ xs) (y ∷ ys) e g =
    let wires : map wire xs ≡ map wire ys = cc in
    let values : map f xs ≡ map f ys = cc in
    let first : wire x ≡ wire y = cc in
    let value : f x ≡ f y = cc in
    let rest = end_same f end v xs ys wires values in
    let here : cond (eqb (end (wire x)) v) (f x) 0 ≡ cond (eqb (end (wire y)) v) (f y) 0 = ap (λ w. cond (eqb (end w) v) (f x) 0) first ∙ ap (λ m. cond (eqb (end (wire y)) v) m 0) value in
    omega (arith, sum_by-cons (λ e. cond (eqb (end (wire e)) v) (f e) 0) x xs, sum_by-cons (λ e. cond (eqb (end (wire e)) v) (f e) 0) y ys, rest, here)

-- balance depends on wires and numbers alone
pub balanced_same : (f : Edge → ℕ) (n : ℕ) (new old : List Edge) → map wire new ≡ map wire old → map f new ≡ map f old → Balanced f old n → Balanced f new n
balanced_same f n new old e g b v h = end_same f (λ w. w.0) v new old e g ∙ b v h ∙ sym (end_same f (λ w. w.1) v new old e g)

-- where a node owes to itself, nothing is owed
pub owes_itself : (val : Edge → ℕ) (edges : List Edge) (n v amount : ℕ) → Balanced val edges n → Owes val edges n v v amount
owes_itself val edges n v amount b = record { at = λ u h. ap (λ m. m + cond (eqb v u) amount 0) (b u h) }

pub owes_nothing : (val : Edge → ℕ) (edges : List Edge) (n v amount : ℕ) → Owes val edges n v v amount → Balanced val edges n
owes_nothing val edges n v amount owes u h = omega (arith, owes.at u h)
