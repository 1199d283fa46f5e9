-- Copies one by one: the next name is none of those before it, and one more list is there.
use Rattle.std.proofs.Common.{◌≡◌, ◌∙◌, ◌+◌, ◌<◌, ◌||◌, ◌++◌, ◌∷◌, [], ℕ, Bool, List, ap, arith, false, get_or, inl, inr, length, refl, subst, suc, sym, take, zero}
use Rattle.std.specs.Prelude.{Vec, slice_get, unwrap_or}
use Rattle.std.specs.List.{IsDistinct}
use Rattle.std.specs.Set.{is_member}
use Rattle.std.specs.Str.{bytes_eq}
use Rattle.std.specs.declared.alloc.Global.{Global}
use Rattle.std.proofs.lemmas.Bool.{both_ways, cases_Bool}
use Rattle.std.proofs.lemmas.List.{map-append, take_more}
use Rattle.std.proofs.lemmas.Option.{unwrap_or-slice_get}
use Rattle.definitions.specs.Texts.{has_name}
use Rattle.definitions.proofs.Members.{distinct_first, distinct_rest, member_at, name_test}
use Rattle.lottery_file.specs.Lotteries.{lists_value}

neither : (a b : Bool) → a ≡ false → b ≡ false → (a || b) ≡ false
neither a b e f = rw (e, f) refl

-- of names without repeats, the next is none of those before it
pub next_is_fresh : (names : List (List ℕ)) (k : ℕ) → IsDistinct bytes_eq names → k < length names → has_name (take k names) (get_or names k []) ≡ false
next_is_fresh [] k d h = absurd (omega (arith, h))
next_is_fresh (name ∷ names) zero d h = refl
next_is_fresh (name ∷ names) (suc k) d h =
    let within : k < length names = omega (arith, h) in
    let next : List ℕ = get_or names k [] in
    let other : bytes_eq next name ≡ false = elim (cases_Bool (bytes_eq next name)) [
      | inl same ↦ absurd (both_ways (is_member bytes_eq names next) (subst (λ (it : List ℕ). is_member bytes_eq names it ≡ false) (sym (name_test.sound next name same)) (distinct_first bytes_eq name names d))
          (member_at bytes_eq name_test names k [] within))
      | inr differs ↦ differs
    ] in
    neither (bytes_eq next name) (has_name (take k names) next) other (next_is_fresh names k (distinct_rest bytes_eq name names d) within)

-- one more list
pub lists_more : (lists : List (List ℕ)) (k : ℕ) (so_far next : List (Vec ℕ Global)) (list : Vec ℕ Global) → lists_value so_far ≡ take k lists → next ≡ so_far ++ list ∷ []
    → list.items ≡ unwrap_or (slice_get lists k) [] → k < length lists → lists_value next ≡ take (k + 1) lists
lists_more lists k so_far next list is more same within =
    ap lists_value more ∙ map-append (λ (it : Vec ℕ Global). it.items) so_far (list ∷ [])
    ∙ rw (is, same, unwrap_or-slice_get lists k []) (sym (take_more lists k [] within))
