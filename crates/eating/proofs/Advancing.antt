-- A step, one limit after the other.
use Rattle.std.proofs.Common.{◌≡◌, ◌≢◌, ℕ, ◌+◌, ◌*◌, ◌<◌, ◌≤◌, List, None, length, set, ap, sym, ◌∙◌, subst, arith, inl, inr}
use Rattle.std.specs.Prelude.{slice_index, slice_index_or}
use Rattle.std.proofs.lemmas.Bool.{cases_eq, cases_lt}
use Rattle.std.proofs.lemmas.List.{get_or-set_same, get_or-set_other, length-set}
use Rattle.eating.specs.declared.due.Due.{Due}
use Rattle.eating.specs.declared.progress.Progress.{Progress}
use Rattle.eating.specs.Steps.{IsAdvanced}

-- the same numbers by other names
pub advanced_read : (U f s at a b d a' b' d' x y : ℕ) → a ≡ a' → b ≡ b' → d ≡ d' → IsAdvanced U f s at a b d x y → IsAdvanced U f s at a' b' d' x y
advanced_read U f s at a b d a' b' d' x y p q r h =
    subst (λ n. IsAdvanced U f s at n b' d' x y) p (subst (λ n. IsAdvanced U f s at a n d' x y) q (subst (λ n. IsAdvanced U f s at a b n x y) r h))

-- one limit more is done
pub advanced_more : (U f s at : ℕ) (e r v e' r' : List ℕ) (n x y : ℕ) → n < length e' → n < length r'
    → ((j : ℕ) → j < n → IsAdvanced U f s at (slice_index e j) (slice_index r j) (slice_index v j) (slice_index e' j) (slice_index r' j))
    → IsAdvanced U f s at (slice_index e n) (slice_index r n) (slice_index v n) x y
    → (j : ℕ) → j < n + 1 → IsAdvanced U f s at (slice_index e j) (slice_index r j) (slice_index v j) (slice_index (set e' n x) j) (slice_index (set r' n y) j)
advanced_more U f s at e r v e' r' n x y l m done here j k = elim (cases_lt j n) [
  | inl less ↦
      let apart : j ≢ n = λ same. omega arith in
      subst (λ a. IsAdvanced U f s at (slice_index e j) (slice_index r j) (slice_index v j) a (slice_index (set r' n y) j)) (sym (get_or-set_other e' n j x 0 apart))
      (subst (λ b. IsAdvanced U f s at (slice_index e j) (slice_index r j) (slice_index v j) (slice_index e' j) b) (sym (get_or-set_other r' n j y 0 apart)) (done j less))
  | inr more ↦
      let same : n ≡ j = omega arith in
      subst (λ i. IsAdvanced U f s at (slice_index e i) (slice_index r i) (slice_index v i) (slice_index (set e' n x) i) (slice_index (set r' n y) i)) same
      (subst (λ a. IsAdvanced U f s at (slice_index e n) (slice_index r n) (slice_index v n) a (slice_index (set r' n y) n)) (sym (get_or-set_same e' n x 0 l))
      (subst (λ b. IsAdvanced U f s at (slice_index e n) (slice_index r n) (slice_index v n) x b) (sym (get_or-set_same r' n y 0 m)) here))
]

-- the limits after it stay
pub kept_more : (xs ys : List ℕ) (n x : ℕ) → ((j : ℕ) → n ≤ j → slice_index ys j ≡ slice_index xs j) → (j : ℕ) → n + 1 ≤ j → slice_index (set ys n x) j ≡ slice_index xs j
kept_more xs ys n x h j l = get_or-set_other ys n j x 0 (λ same. omega arith) ∙ h j (omega arith)

-- a step once the first n limits are taken on: an open limit that is full now is never due again, and no other key changes
pub record IsAdvancing (old : Progress) (f s n : ℕ) (now : Progress) : Type 0 where
  pub unit : now.unit ≡ old.unit
  pub at : now.at ≡ old.at
  pub speeds : now.speeds.items ≡ old.speeds.items
  pub places : now.places.items ≡ old.places.items
  pub many : length now.moments.items ≡ length old.moments.items
  pub many_rests : length now.rests.items ≡ length old.rests.items
  pub many_dues : length now.dues ≡ length old.dues
  pub done : (j : ℕ) → j < n → IsAdvanced old.unit f s (f * old.at + s) (slice_index old.moments.items j) (slice_index old.rests.items j) (slice_index old.speeds.items j)
      (slice_index now.moments.items j) (slice_index now.rests.items j)
  pub closed : (d : Due) (j : ℕ) → j < n → slice_index now.moments.items j ≡ f * old.at + s → (slice_index_or now.dues j d).moment ≡ None
  pub kept : (d : Due) (j : ℕ) → j < n → slice_index now.moments.items j ≢ f * old.at + s → slice_index_or now.dues j d ≡ slice_index_or old.dues j d
  pub moments : (j : ℕ) → n ≤ j → slice_index now.moments.items j ≡ slice_index old.moments.items j
  pub rests : (j : ℕ) → n ≤ j → slice_index now.rests.items j ≡ slice_index old.rests.items j
  pub dues : (d : Due) (j : ℕ) → n ≤ j → slice_index_or now.dues j d ≡ slice_index_or old.dues j d

-- the keys once limit n has its own
pub record IsKeyed (at n moment : ℕ) (old new : List Due) : Type 0 where
  pub many : length new ≡ length old
  pub others : (d : Due) (j : ℕ) → j ≢ n → slice_index_or new j d ≡ slice_index_or old j d
  pub closed : (d : Due) → moment ≡ at → (slice_index_or new n d).moment ≡ None
  pub kept : (d : Due) → moment ≢ at → slice_index_or new n d ≡ slice_index_or old n d

pub advancing_more : (old : Progress) (f s n : ℕ) (now new : Progress) (moment rest : ℕ) → IsAdvancing old f s n now → n < length now.moments.items → n < length now.rests.items
    → new.unit ≡ now.unit → new.at ≡ now.at → new.speeds.items ≡ now.speeds.items → new.places.items ≡ now.places.items → new.moments.items ≡ set now.moments.items n moment → new.rests.items ≡ set now.rests.items n rest
    → IsAdvanced old.unit f s (f * old.at + s) (slice_index old.moments.items n) (slice_index old.rests.items n) (slice_index old.speeds.items n) moment rest
    → IsKeyed (f * old.at + s) n moment now.dues new.dues → IsAdvancing old f s (n + 1) new
advancing_more old f s n now new moment rest inv in_moments in_rests unit at speeds places moments rests step keys = record {
  unit = unit ∙ inv.unit;
  at = at ∙ inv.at;
  speeds = speeds ∙ inv.speeds;
  places = places ∙ inv.places;
  many = ap length moments ∙ length-set now.moments.items n moment ∙ inv.many;
  many_rests = ap length rests ∙ length-set now.rests.items n rest ∙ inv.many_rests;
  many_dues = keys.many ∙ inv.many_dues;
  done = subst (λ xs. (j : ℕ) → j < n + 1 → IsAdvanced old.unit f s (f * old.at + s) (slice_index old.moments.items j) (slice_index old.rests.items j) (slice_index old.speeds.items j) (slice_index xs j) (slice_index new.rests.items j)) (sym moments)
      (subst (λ ys. (j : ℕ) → j < n + 1 → IsAdvanced old.unit f s (f * old.at + s) (slice_index old.moments.items j) (slice_index old.rests.items j) (slice_index old.speeds.items j) (slice_index (set now.moments.items n moment) j) (slice_index ys j)) (sym rests)
      (advanced_more old.unit f s (f * old.at + s) old.moments.items old.rests.items old.speeds.items now.moments.items now.rests.items n moment rest in_moments in_rests inv.done step));
  closed = λ d j l is. elim (cases_eq j n) [
    | inl same ↦ subst (λ i. (slice_index_or new.dues i d).moment ≡ None) (sym same) (keys.closed d (sym here ∙ sym (ap (λ i. slice_index new.moments.items i) same) ∙ is))
    | inr apart ↦ ap (λ (x : Due). x.moment) (keys.others d j apart) ∙ inv.closed d j (before j l apart) (sym (elsewhere j apart) ∙ is)
  ];
  kept = λ d j l other. elim (cases_eq j n) [
    | inl same ↦
        subst (λ i. slice_index_or new.dues i d ≡ slice_index_or old.dues i d) (sym same)
        (keys.kept d (λ is. other (ap (λ i. slice_index new.moments.items i) same ∙ here ∙ is)) ∙ inv.dues d n (omega arith))
    | inr apart ↦ keys.others d j apart ∙ inv.kept d j (before j l apart) (λ is. other (elsewhere j apart ∙ is))
  ];
  moments = λ j l. ap (λ xs. slice_index xs j) moments ∙ kept_more old.moments.items now.moments.items n moment inv.moments j l;
  rests = λ j l. ap (λ xs. slice_index xs j) rests ∙ kept_more old.rests.items now.rests.items n rest inv.rests j l;
  dues = λ d j l. keys.others d j (λ same. omega arith) ∙ inv.dues d j (omega arith);
}
  where
    here : slice_index new.moments.items n ≡ moment
    here = ap (λ xs. slice_index xs n) moments ∙ get_or-set_same now.moments.items n moment 0 in_moments

    elsewhere : (j : ℕ) → j ≢ n → slice_index new.moments.items j ≡ slice_index now.moments.items j
    elsewhere j apart = ap (λ xs. slice_index xs j) moments ∙ get_or-set_other now.moments.items n j moment 0 apart

    before : (j : ℕ) → j < n + 1 → j ≢ n → j < n
    before j l apart = omega arith
