-- A table while a set is entered at its cells: at the cells so far it counts.
use Rattle.std.proofs.Common.{◌≡◌, ◌≢◌, ℕ, ◌+◌, ◌*◌, ◌<◌, ◌≤◌, ◌∙◌, ◌||◌, List, Option, None, Some, Bool, true, false, length, get_or, set, take, refl, sym, ap, subst, inl, inr, arith, All, get_or-set_other, get_or-set_same, take_all}
use Rattle.std.proofs.lemmas.Bool.{or_cases, or_parts, both_ways}
use Rattle.std.proofs.lemmas.List.{get_or-take, length-take-le}
use Rattle.std.proofs.lemmas.List.Folds.{list_any_more, list_any_none}
use Rattle.std.proofs.lemmas.List.Elements.{All-set, All-from_get_or}
use Rattle.std.proofs.lemmas.Nat.{same_from_place}
use Rattle.definitions.specs.declared.Cell.{Cell}
use Rattle.definitions.specs.Sets.{FamilyValue, IsSet, IsCellWithin, IsRising, cell_index, cell_of, holds, same_cell, set_cells, set_side}
use Rattle.definitions.specs.Hierarchies.{IsHolder}
use Rattle.definitions.specs.Trees.{IsEntry}
use Rattle.definitions.proofs.Members.{cell_test, cell_decides, member_at}
use Rattle.bihierarchy.specs.Tables.{IsLeastOf, AreDeepest}
use Rattle.bihierarchy.proofs.Least.{IsTested, least_same, least_passed, least_failed}
use Rattle.bihierarchy.proofs.Merges.{not_same}

-- the first so many cells of the set are entered: there, sets up to it count, and elsewhere the sets before it
pub record IsEntering (f : FamilyValue) (s i : ℕ) (table : List (Option ℕ)) : Type 0 where
  pub entries : All (IsEntry (length f.sets)) table
  pub done : (c : Cell) → IsCellWithin f.agents f.columns c → holds (take i (set_cells f s)) c ≡ true
      → IsLeastOf f (IsHolder f (set_side f s) c) (s + 1) (get_or table (cell_index f.columns c) None)
  pub rest : (c : Cell) → IsCellWithin f.agents f.columns c → holds (take i (set_cells f s)) c ≡ false
      → IsLeastOf f (IsHolder f (set_side f s) c) s (get_or table (cell_index f.columns c) None)

-- two cells of a matrix at one place are one cell
place_apart : (agents columns : ℕ) (c x : Cell) → IsCellWithin agents columns c → IsCellWithin agents columns x → same_cell c x ≡ false → cell_index columns c ≢ cell_index columns x
place_apart agents columns c x inside within differ e =
    let same = same_from_place c.agent c.object x.agent x.object columns inside.1 within.1 e in
    both_ways _ differ ((cell_decides c x).1 (ap (λ (i : ℕ). cell_of i c.object) same.0 ∙ ap (cell_of x.agent) same.1))

-- after the last cell
pub entering_all : (f : FamilyValue) (s i : ℕ) (table : List (Option ℕ)) → length (set_cells f s) ≤ i → length table ≡ f.agents * f.columns
    → IsEntering f s i table → AreDeepest f (set_side f s) (s + 1) table
entering_all f s i table all many h = record { many = many; entries = h.entries; right = λ c inside. at c inside (holds (set_cells f s) c) refl }
  where
    whole : (c : Cell) → holds (take i (set_cells f s)) c ≡ holds (set_cells f s) c
    whole c = ap (λ (cells : List Cell). holds cells c) (take_all i (set_cells f s) all)

    at : (c : Cell) → IsCellWithin f.agents f.columns c → (b : Bool) → holds (set_cells f s) c ≡ b
        → IsLeastOf f (IsHolder f (set_side f s) c) (s + 1) (get_or table (cell_index f.columns c) None)
    at c inside true e = h.done c inside (whole c ∙ e)
    at c inside false e = least_same f (IsHolder f (set_side f s) c) s (get_or table (cell_index f.columns c) None) (λ p. both_ways _ e p.2) (h.rest c inside (whole c ∙ e))

-- a cell of a rising list is not among those before it
fresh : (cells : List Cell) (i : ℕ) (d : Cell) → IsRising cells → i < length cells → holds (take i cells) (get_or cells i d) ≡ false
fresh cells i d rise l =
    list_any_none (same_cell (get_or cells i d)) (take i cells)
    (All-from_get_or (λ y. same_cell (get_or cells i d) y ≡ false) (take i cells) d (λ k m.
    let below : k < i = omega (arith, m, length-take-le i cells (omega arith)) in
    subst (λ (y : Cell). same_cell (get_or cells i d) y ≡ false) (sym (get_or-take i cells k d below))
    (cell_test.turned (get_or cells i d) (get_or cells k d) ∙ not_same (get_or cells k d) (get_or cells i d) (rise k i d below l))))

-- one more cell, of which the table has the entry at a place
module _ (f : FamilyValue) (s i : ℕ) (table : List (Option ℕ)) (d x : Cell) (place : ℕ) (known : IsSet f s) (rise : IsRising (set_cells f s))
    (l : i < length (set_cells f s)) (is : get_or (set_cells f s) i d ≡ x) (at : place ≡ cell_index f.columns x)
    (inside_x : IsCellWithin f.agents f.columns x) (h : IsEntering f s i table) where
  abbrev Right : Cell → ℕ → Option ℕ → Type 0
  Right c n o = IsLeastOf f (IsHolder f (set_side f s) c) n o

  holder : IsHolder f (set_side f s) x s
  holder = (known, refl, subst (λ (y : Cell). holds (set_cells f s) y ≡ true) is (member_at same_cell cell_test (set_cells f s) i d l))

  old : Right x s (get_or table place None)
  old =
      let none : holds (take i (set_cells f s)) x ≡ false = subst (λ (y : Cell). holds (take i (set_cells f s)) y ≡ false) is (fresh (set_cells f s) i d rise l) in
      subst (λ (p : ℕ). Right x s (get_or table p None)) (sym at) (h.rest x inside_x none)

  more : (c : Cell) → holds (take (i + 1) (set_cells f s)) c ≡ (holds (take i (set_cells f s)) c || same_cell c x)
  more c = list_any_more (same_cell c) (set_cells f s) i d l ∙ ap (λ (y : Cell). holds (take i (set_cells f s)) c || same_cell c y) is

  stepped : (now : List (Option ℕ)) → All (IsEntry (length f.sets)) now → Right x (s + 1) (get_or now place None)
      → ((p : ℕ) → p ≢ place → get_or now p None ≡ get_or table p None) → IsEntering f s (i + 1) now
  stepped now entries here there = record {
    entries = entries;
    done = λ c inside e. done c inside (sym (more c) ∙ e) (same_cell c x) refl;
    rest = λ c inside e.
        let parts = or_parts (holds (take i (set_cells f s)) c) (same_cell c x) (sym (more c) ∙ e) in
        kept c inside s parts.1 (h.rest c inside parts.0);
  }
    where
      kept : (c : Cell) → IsCellWithin f.agents f.columns c → (n : ℕ) → same_cell c x ≡ false → Right c n (get_or table (cell_index f.columns c) None) → Right c n (get_or now (cell_index f.columns c) None)
      kept c inside n e r =
          let apart = place_apart f.agents f.columns c x inside inside_x e in
          subst (λ (o : Option ℕ). Right c n o) (sym (there (cell_index f.columns c) (λ p. apart (p ∙ at)))) r

      done : (c : Cell) → IsCellWithin f.agents f.columns c → (holds (take i (set_cells f s)) c || same_cell c x) ≡ true → (b : Bool) → same_cell c x ≡ b
          → Right c (s + 1) (get_or now (cell_index f.columns c) None)
      done c inside e true b =
          let one : x ≡ c = sym ((cell_decides c x).0 b) in
          subst (λ (y : Cell). Right y (s + 1) (get_or now (cell_index f.columns y) None)) one (subst (λ (p : ℕ). Right x (s + 1) (get_or now p None)) at here)
      done c inside e false b = elim (or_cases (holds (take i (set_cells f s)) c) (same_cell c x) e) [
        | inl before ↦ kept c inside (s + 1) b (h.done c inside before)
        | inr same ↦ absurd (both_ways _ b same)
      ]

  -- the set is entered there
  pub entering_passed : (r : Bool) → r ≡ true → IsTested f (IsHolder f (set_side f s) x) s (get_or table place None) r → place < length table → IsEntering f s (i + 1) (set table place (Some s))
  entering_passed r e test fits =
      stepped (set table place (Some s))
      (All-set (IsEntry (length f.sets)) table place (Some s) (known.0, known.1) h.entries)
      (subst (λ (o : Option ℕ). Right x (s + 1) o) (sym (get_or-set_same table place (Some s) None fits))
      (least_passed f (IsHolder f (set_side f s) x) s (get_or table place None) r e test holder old))
      (λ p ne. get_or-set_other table place p (Some s) None ne)

  -- another set stays there
  pub entering_failed : (r : Bool) → r ≡ false → IsTested f (IsHolder f (set_side f s) x) s (get_or table place None) r → IsEntering f s (i + 1) table
  entering_failed r e test = stepped table h.entries (least_failed f (IsHolder f (set_side f s) x) s (get_or table place None) r e test old) (λ p ne. refl)

-- a set of the other side enters nothing
pub deepest_same : (f : FamilyValue) (side n : ℕ) (table : List (Option ℕ)) → (set_side f n ≡ side → ⊥) → AreDeepest f side n table → AreDeepest f side (n + 1) table
deepest_same f side n table other h = record {
  many = h.many;
  entries = h.entries;
  right = λ c inside. least_same f (IsHolder f side c) n (get_or table (cell_index f.columns c) None) (λ p. other p.1) (h.right c inside);
}
