-- The way up from a cell's deepest set.
use Rattle.std.proofs.Common.{◌≡◌, ℕ, ◌-◌, ◌<◌, ◌++◌, ◌∷◌, List, Option, Some, None, length, map, ap, sym, ◌∙◌, arith}
use Rattle.std.proofs.lemmas.List.{append-nil}
use Rattle.definitions.specs.Sets.{FamilyValue, IsFamily, IsSet}
use Rattle.definitions.specs.Trees.{TreesValue, AreTreesOf, chain_of, parent_at}
use Rattle.side_laws.proofs.Trees.{chain_none, chain_step}

pub chain_next : (f : FamilyValue) (t : TreesValue) → IsFamily f → AreTreesOf f t → (next parent : Option ℕ) (s : ℕ) → next ≡ Some s → IsSet f s → parent ≡ parent_at t s
    → chain_of t next ≡ s ∷ chain_of t parent
chain_next f t h r next parent s e known up = ap (chain_of t) e ∙ chain_step f h.lawful t r s known ∙ ap (λ o. s ∷ chain_of t o) (sym up)

pub chain_shorter : (f : FamilyValue) (t : TreesValue) → IsFamily f → AreTreesOf f t → (next parent : Option ℕ) (s : ℕ) → next ≡ Some s → IsSet f s → parent ≡ parent_at t s
    → length (chain_of t parent) < length (chain_of t next)
chain_shorter f t h r next parent s e known up = (let one = ap length (chain_next f t h r next parent s e known up) in omega (arith, one))

pub chain_end : (t : TreesValue) (next : Option ℕ) → next ≡ None → (items : List ℕ) → items ≡ items ++ map (λ s. s - 1) (chain_of t next)
chain_end t next e items = sym (append-nil items) ∙ ap (λ chain. items ++ map (λ s. s - 1) chain) (sym (ap (chain_of t) e ∙ chain_none t))
