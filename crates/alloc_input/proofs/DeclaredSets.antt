-- Each declared object has a set that holds its whole column.
use Rattle.std.proofs.Common.{◌≡◌, ◌∙◌, ◌<◌, ◌∷◌, ◌&&◌, [], ℕ, List, Option, Some, None, Bool, true, false, cond, refl, sym, ap, subst, length, filter, get_or, arith, inl, inr}
use Rattle.std.specs.Prelude.{◌==◌, not, nat_le, codes}
use Rattle.std.specs.List.{Any, AllByRecursion, IsDistinct, filter_map}
use Rattle.std.specs.Str.{bytes_eq}
use Rattle.std.proofs.lemmas.Bool.{cases_Bool, cases_lt, or_cases, or_left, or_right, and_parts, leb-true, ne_eqb}
use Rattle.std.proofs.lemmas.List.Elements.{filter_map-append}
use Rattle.std.proofs.lemmas.List.Folds.{list_any-append}
use Rattle.std.proofs.lemmas.Map.Made.{AllPairs-from_IsDistinct}
use Rattle.std.proofs.lemmas.Slice.Eq.{bytes_eq-Decides}
use Rattle.definitions.specs.Texts.{Row, field, is_name, null_name, has_name, name_index}
use Rattle.definitions.specs.Values.{HoldsColumn}
use Rattle.definitions.proofs.Members.{name_test, member_at}
use Rattle.table_text.proofs.KnownNames.{index-at}
use Rattle.alloc_input.specs.Objects.{each_once, declared, declared_name}
use Rattle.alloc_input.specs.Stated.{Setting, Stated, word_of, add_object, add_row, add_demand, add_group, add_bundle, add_set, add_cells, add_kind, add_record, stated_from, stated_by, setting_of, nothing}
use Rattle.alloc_input.specs.Problems.{LawfulQuotasSuit}
use Rattle.alloc_input.specs.declared.quotas.words.Word.{Word}
use Rattle.alloc_input.specs.declared.quotas.words.Word.TheVariants as word
use Rattle.alloc_input.proofs.OnceEach.{has-each_once}
use Rattle.alloc_input.proofs.StatedSets.{IsSolveStated, solve-stated}

-- ---- the names that stand once each have different places

apart-filter : (y : List ℕ) (names : List (List ℕ)) → AllByRecursion (λ z. bytes_eq y z ≡ false) (filter (λ z. not (bytes_eq y z)) names)
apart-filter y [] = tt
apart-filter y (z ∷ names) = elim (cases_Bool (bytes_eq y z)) [
  | inl same ↦ rw same (apart-filter y names)
  | inr other ↦ rw other (other, apart-filter y names)
]

all-filter : (P : List ℕ → Type 0) (p : List ℕ → Bool) (names : List (List ℕ)) → AllByRecursion P names → AllByRecursion P (filter p names)
all-filter P p [] h = tt
all-filter P p (z ∷ names) h = elim (cases_Bool (p z)) [
  | inl passes ↦ rw passes (h.0, all-filter P p names h.1)
  | inr fails ↦ rw fails (all-filter P p names h.1)
]

distinct-filter : (p : List ℕ → Bool) (names : List (List ℕ)) → IsDistinct bytes_eq names → IsDistinct bytes_eq (filter p names)
unfolding IsDistinct
distinct-filter p [] d = tt
distinct-filter p (z ∷ names) d = elim (cases_Bool (p z)) [
  | inl passes ↦ rw passes (all-filter (λ y. bytes_eq z y ≡ false) p names d.0, distinct-filter p names d.1)
  | inr fails ↦ rw fails (distinct-filter p names d.1)
]

pub each_once-distinct : (names : List (List ℕ)) → IsDistinct bytes_eq (each_once names)
unfolding IsDistinct
each_once-distinct [] = tt
each_once-distinct (y ∷ names) = (apart-filter y (each_once names), distinct-filter (λ z. not (bytes_eq y z)) (each_once names) (each_once-distinct names))

-- among distinct names each stands at its own place
pub place-of : (names : List (List ℕ)) (a : ℕ) → IsDistinct bytes_eq names → a < length names → name_index names (get_or names a []) ≡ Some a
place-of names a d l = index-at names a (AllPairs-from_IsDistinct bytes_eq-Decides names d) l

-- ---- each declared object has its record

if-some : {X : Type 0} (t : Bool) (v x : X) → cond t (Some v) None ≡ Some x → (t ≡ true) × (v ≡ x)
if-some true v x e = (refl, cc e)
if-some false v x e = absurd (cc)

two-fields : (n : ℕ) → nat_le 2 n ≡ true → (n == 0) ≡ false
two-fields n e = ne_eqb n 0 (λ z. (let two = leb-true 2 n e in absurd (omega (arith, two, z))))

declared-object : (row : Row) (name : List ℕ) → declared_name row ≡ Some name → ((length row == 0) ≡ false) × (word_of (field row 0) ≡ Some word.Object) × (field row 1 ≡ name)
unfolding declared_name word_of
declared-object row name e =
    let p = if-some _ (field row 1) name e in
    let two = and_parts (nat_le 2 (length row)) (nat_le (length row) 4 && (bytes_eq (field row 0) (codes "object") && (not (bytes_eq (field row 1) null_name) && is_name (field row 1)))) p.0 in
    let four = and_parts (nat_le (length row) 4) (bytes_eq (field row 0) (codes "object") && (not (bytes_eq (field row 1) null_name) && is_name (field row 1))) two.1 in
    let object = and_parts (bytes_eq (field row 0) (codes "object")) (not (bytes_eq (field row 1) null_name) && is_name (field row 1)) four.1 in
    (two-fields (length row) two.0, rw object.0 refl, p.1)

kind-keeps : (g : Setting) (st : Stated) (row : Row) (name : List ℕ) (w : Option Word) → has_name st.columns name ≡ true → has_name (add_kind w g st row).columns name ≡ true
unfolding add_kind add_object add_row add_demand add_group add_bundle add_set add_cells
kind-keeps g st row name None h = h
kind-keeps g st row name (Some word.Object) h = list_any-append (bytes_eq name) st.columns (field row 1 ∷ []) ∙ or_left (has_name st.columns name) (has_name (field row 1 ∷ []) name) h
kind-keeps g st row name (Some word.Agent) h = elim (cases_Bool g.solve) [ inl s ↦ rw s h | inr d ↦ rw d h ]
kind-keeps g st row name (Some word.Group) h = h
kind-keeps g st row name (Some word.Bundle) h = h
kind-keeps g st row name (Some word.Set) h = h
kind-keeps g st row name (Some word.In) h = h

record-keeps : (g : Setting) (st : Stated) (row : Row) (name : List ℕ) → has_name st.columns name ≡ true → has_name (add_record g st row).columns name ≡ true
unfolding add_record
record-keeps g st row name h = elim (cases_Bool (length row == 0)) [
  | inl blank ↦ rw blank h
  | inr some ↦ rw some (kind-keeps g st row name (word_of (field row 0)) h)
]

object-adds : (g : Setting) (st : Stated) (row : Row) (name : List ℕ) → has_name (field row 1 ∷ []) name ≡ true → has_name (add_kind (Some word.Object) g st row).columns name ≡ true
unfolding add_kind add_object
object-adds g st row name h = list_any-append (bytes_eq name) st.columns (field row 1 ∷ []) ∙ or_right (has_name st.columns name) (has_name (field row 1 ∷ []) name) h

record-adds : (g : Setting) (st : Stated) (row : Row) (name : List ℕ) (o : Option (List ℕ)) → declared_name row ≡ o → has_name (filter_map declared_name (row ∷ [])) name ≡ true → has_name (add_record g st row).columns name ≡ true
unfolding add_record
record-adds g st row name None e m = absurd (cc (rw e at m))
record-adds g st row name (Some x) e m =
    let p = declared-object row x e in
    let among = rw e at m in
    rw (p.0, p.1) (object-adds g st row name (subst (λ y. has_name (y ∷ []) name ≡ true) (sym p.2) among))

from-keeps : (g : Setting) (st : Stated) (rows : List Row) (name : List ℕ) → has_name st.columns name ≡ true → has_name (stated_from g st rows).columns name ≡ true
unfolding stated_from
from-keeps g st [] name h = h
from-keeps g st (row ∷ rows) name h = from-keeps g (add_record g st row) rows name (record-keeps g st row name h)

declared-from : (g : Setting) (st : Stated) (rows : List Row) (name : List ℕ) → has_name (filter_map declared_name rows) name ≡ true → has_name (stated_from g st rows).columns name ≡ true
unfolding stated_from
declared-from g st [] name m = absurd (cc m)
declared-from g st (row ∷ rows) name m =
    let parts = ap (λ names. has_name names name) (filter_map-append declared_name (row ∷ []) rows) ∙ list_any-append (bytes_eq name) (filter_map declared_name (row ∷ [])) (filter_map declared_name rows) in
    elim (or_cases (has_name (filter_map declared_name (row ∷ [])) name) (has_name (filter_map declared_name rows) name) (sym parts ∙ m)) [
      | inl here ↦ from-keeps g (add_record g st row) rows name (record-adds g st row name (declared_name row) refl here)
      | inr later ↦ declared-from g (add_record g st row) rows name later
    ]

object-stated : (g : Setting) (rows : List Row) (a : ℕ) → g.objects ≡ declared rows → a < length (declared rows) → IsSolveStated g (stated_by g rows)
    → (a < 200) × Any (HoldsColumn (length g.agents) a) (stated_by g rows).sets
unfolding declared
object-stated g rows a same l h =
    let named = filter_map declared_name rows in
    let name = get_or (each_once named) a [] in
    let among : has_name named name ≡ true = sym (has-each_once named name) ∙ member_at bytes_eq name_test (each_once named) a [] l in
    let at : name_index (each_once named) name ≡ Some a = place-of (each_once named) a (each_once-distinct named) l in
    h.columns_stated name a (declared-from g (nothing g) rows name among) (ap (λ names. name_index names name) same ∙ at)

-- lawful quotas over the objects that they declare suit a problem
pub lawful-quotas-suit : LawfulQuotasSuit
lawful-quotas-suit agents rows few e =
    let g = setting_of agents (declared rows) true in
    let h = solve-stated g rows refl few e in
    record {
      objects_limit = elim (cases_lt 200 (length (declared rows))) [
        | inl over ↦ (let p = object-stated g rows 200 refl over h in absurd (omega (arith, p.0)))
        | inr within ↦ within
      ];
      sets_limit = h.sets_limit;
      cells_limit = h.cells_limit;
      sets_lawful = h.sets_lawful;
      columns_stated = λ a l. (object-stated g rows a refl l h).1;
      demands_lawful = h.demands_lawful;
    }
