-- One more set of a family.
use Rattle.std.proofs.Common.{◌≡◌, ℕ, suc, ◌+◌, ◌<◌, ◌≤◌, ◌++◌, List, [], ◌∷◌, false, eqb, map, length, get_or, refl, ap, ◌∙◌, inl, inr, arith}
use Rattle.std.proofs.lemmas.Bool.{ne_eqb, cases_lt}
use Rattle.std.proofs.lemmas.List.{length-map, map_push, length_push, get_or_append_left, get_or_push}
use Rattle.std.proofs.lemmas.List.Elements.{All-push}
use Rattle.std.proofs.lemmas.List.Sums.{sum_by_push}
use Rattle.indexmap.specs.IndexMap.{insert_entry}
use Rattle.definitions.specs.Sets.{SetValue, IsQuotaSet, IsInRange, IsFamily, cells_in}
use Rattle.quota_sets.specs.Numbered.{AreNumbered, AreNumberedSets}

-- a key that is not there goes last
insert_last : (entries : List (ℕ × SetValue)) (k : ℕ) (v : SetValue) → ((i : ℕ) (d : ℕ × SetValue) → i < length entries → eqb k (get_or entries i d).0 ≡ false)
    → insert_entry eqb entries k v ≡ entries ++ (k, v) ∷ []
insert_last [] k v absent = refl
insert_last (e ∷ es) k v absent =
    let first : eqb k e.0 ≡ false = absent 0 e (omega arith) in
    let rest : insert_entry eqb es k v ≡ es ++ (k, v) ∷ [] = insert_last es k v (λ i d l. absent (suc i) d (omega arith)) in
    rw (first, rest) refl

-- the number after the last is new
pub insert-next : (entries : List (ℕ × SetValue)) (v : SetValue) → AreNumbered entries
    → insert_entry eqb entries (length entries + 1) v ≡ entries ++ (length entries + 1, v) ∷ []
insert-next entries v numbered = insert_last entries (length entries + 1) v (λ i d l.
    let at : (get_or entries i d).0 ≡ i + 1 = numbered i d l in
    ne_eqb (length entries + 1) (get_or entries i d).0 (λ e. absurd (omega arith)))

-- the sets after one more
pub sets-next : (entries : List (ℕ × SetValue)) (k : ℕ) (s : SetValue) → map (λ e. e.1) (entries ++ (k, s) ∷ []) ≡ map (λ e. e.1) entries ++ s ∷ []
sets-next entries k s = map_push (λ (e : ℕ × SetValue). e.1) entries (k, s)

numbered-next : (entries : List (ℕ × SetValue)) (s : SetValue) → AreNumbered entries → AreNumbered (entries ++ (length entries + 1, s) ∷ [])
numbered-next entries s numbered k d l = elim (cases_lt k (length entries)) [
  | inl before ↦ ap (λ (e : ℕ × SetValue). e.0) (get_or_append_left entries ((length entries + 1, s) ∷ []) d k before) ∙ numbered k d before
  | inr from ↦
      let last : length entries ≡ k = omega (arith, length_push entries (length entries + 1, s)) in
      ap (λ (e : ℕ × SetValue). e.0) (get_or_push entries (length entries + 1, s) d k last) ∙ ap (λ n. n + 1) last
]

-- a family with one more set
pub family-next : (agents columns : ℕ) (sets : List SetValue) (s : SetValue) → IsFamily (record { agents = agents; columns = columns; sets = sets })
    → IsQuotaSet s → IsInRange agents columns s → length sets < 2000 → cells_in sets + length s.cells ≤ 1201000
    → IsFamily (record { agents = agents; columns = columns; sets = sets ++ s ∷ [] })
family-next agents columns sets s lawful set inside few cells = record {
  agents_limit = lawful.agents_limit;
  columns_limit = lawful.columns_limit;
  lawful = All-push IsQuotaSet sets s lawful.lawful set;
  inside = All-push (IsInRange agents columns) sets s lawful.inside inside;
  sets_limit = omega (arith, length_push sets s);
  cells_limit = omega (arith, sum_by_push (λ (q : SetValue). length q.cells) sets s);
}

-- what is kept of a family with one more set
pub numbered_sets-next : (agents columns total : ℕ) (entries : List (ℕ × SetValue)) (s : SetValue) → AreNumberedSets agents columns total entries
    → IsQuotaSet s → IsInRange agents columns s → length entries < 2000 → total + length s.cells ≤ 1201000
    → AreNumberedSets agents columns (total + length s.cells) (entries ++ (length entries + 1, s) ∷ [])
numbered_sets-next agents columns total entries s kept set inside few cells =
    let sets = map (λ (e : ℕ × SetValue). e.1) entries in
    let many : length sets ≡ length entries = length-map entries (λ (e : ℕ × SetValue). e.1) in
    let same = sets-next entries (length entries + 1) s in
    let counted = kept.counted in
    let enough : cells_in sets + length s.cells ≤ 1201000 = omega (arith, counted, cells) in
    record {
      numbered = numbered-next entries s kept.numbered;
      counted = rw same (omega (arith, counted, sum_by_push (λ (q : SetValue). length q.cells) sets s));
      lawful = rw same (family-next agents columns sets s kept.lawful set inside (omega arith) enough);
    }
