-- What all records of a kind say.
use Rattle.std.proofs.Common.{◌≡◌, ◌∙◌, ◌-◌, ◌+◌, ◌++◌, ◌∷◌, [], ℕ, suc, List, Option, Some, None, Bool, true, false, cond, refl, sym, ap, map, drop, length, get_or, append_assoc, arith, inl, inr}
use Rattle.std.specs.List.{flat_map}
use Rattle.std.specs.Prelude.{ℤ, codes}
use Rattle.std.specs.Str.{bytes_eq}
use Rattle.std.proofs.lemmas.Bool.{cases_Bool}
use Rattle.std.proofs.lemmas.List.{append-nil, get_or_default}
use Rattle.std.proofs.lemmas.List.Concat.{flat_map_single}
use Rattle.definitions.specs.Texts.{Row, field, first_field, number, count_of, null_name, signed}
use Rattle.lottery_file.specs.Said.{Before, nothing, word_of, add_word, add, column_at, kind_records, last_kind, with_place, said_from, said_by}
use Rattle.table_text.specs.Records.{begins_with, records_of}
use Rattle.lottery_file.specs.Records.{last_of, agents_in, columns_in}
use Rattle.lottery_file.specs.declared.words.Word.{Word}
use Rattle.lottery_file.specs.declared.words.Word.TheVariants as word
use Rattle.lottery_file.proofs.SaidWords.{name_of, is_kind, kind-test}

last-cons : (r : Row) (rs : List Row) (d : Row) → get_or (r ∷ rs) (length (r ∷ rs) - 1) d ≡ get_or rs (length rs - 1) r
last-cons r [] d = refl
last-cons r (x ∷ xs) d =
    let at : length (r ∷ x ∷ xs) - 1 ≡ suc (length (x ∷ xs) - 1) = omega arith in
    rw at (get_or_default (x ∷ xs) (length (x ∷ xs) - 1) d r (omega arith))

-- what a record of one kind sets is what the last of them says
sets-last : {X : Type 0} (get : Before → X) (f : Row → X) (w : Word) → ((o : Option Word) (r : Row) (b : Before) → get (add_word o r b) ≡ cond (is_kind w o) (f r) (get b))
    → (b : Before) (rows : List Row) (d : Row) → get b ≡ f d → get (said_from b rows) ≡ f (get_or (records_of (name_of w) rows) (length (records_of (name_of w) rows) - 1) d)
unfolding said_from
sets-last get f w step b [] d e = e
sets-last get f w step b (r ∷ rs) d e =
    let o = word_of (first_field r) in
    let c = add_word o r b in
    let s = step o r b in
    elim (cases_Bool (begins_with (name_of w) r)) [
      | inl is ↦
          let k : is_kind w o ≡ true = sym (kind-test w (first_field r)) ∙ is in
          rw (is, last-cons r (records_of (name_of w) rs) d) (sets-last get f w step c rs r (s ∙ rw k refl))
      | inr isnt ↦
          let k : is_kind w o ≡ false = sym (kind-test w (first_field r)) ∙ isnt in
          rw isnt (sets-last get f w step c rs d (s ∙ rw k e))
    ]

-- what records of one kind add is what they all say, in order
adds-all : {X : Type 0} (get : Before → List X) (f : Row → List X) (w : Word) → ((o : Option Word) (r : Row) (b : Before) → get (add_word o r b) ≡ get b ++ cond (is_kind w o) (f r) [])
    → (b : Before) (rows : List Row) → get (said_from b rows) ≡ get b ++ flat_map f (records_of (name_of w) rows)
unfolding said_from
adds-all get f w step b [] = sym (append-nil (get b))
adds-all get f w step b (r ∷ rs) =
    let o = word_of (first_field r) in
    let next = adds-all get f w step (add_word o r b) rs in
    elim (cases_Bool (begins_with (name_of w) r)) [
      | inl is ↦
          let k : is_kind w o ≡ true = sym (kind-test w (first_field r)) ∙ is in
          rw is (next ∙ rw (step o r b, k) (append_assoc (get b) (f r) (flat_map f (records_of (name_of w) rs))))
      | inr isnt ↦
          let k : is_kind w o ≡ false = sym (kind-test w (first_field r)) ∙ isnt in
          rw isnt (next ∙ rw (step o r b, k, append-nil (get b)) refl)
    ]

-- records of one kind are counted
counts-all : (get : Before → ℕ) (w : Word) → ((o : Option Word) (r : Row) (b : Before) → get (add_word o r b) ≡ get b + cond (is_kind w o) 1 0)
    → (b : Before) (rows : List Row) → get (said_from b rows) ≡ get b + length (records_of (name_of w) rows)
unfolding said_from
counts-all get w step b [] = omega arith
counts-all get w step b (r ∷ rs) =
    let o = word_of (first_field r) in
    let next = counts-all get w step (add_word o r b) rs in
    elim (cases_Bool (begins_with (name_of w) r)) [
      | inl is ↦
          let k : is_kind w o ≡ true = sym (kind-test w (first_field r)) ∙ is in
          let one : get (add_word o r b) ≡ get b + 1 = step o r b ∙ rw k refl in
          rw is (omega (arith, next, one))
      | inr isnt ↦
          let k : is_kind w o ≡ false = sym (kind-test w (first_field r)) ∙ isnt in
          let same : get (add_word o r b) ≡ get b + 0 = step o r b ∙ rw k refl in
          rw isnt (omega (arith, next, same))
    ]

-- a place changes nothing else
pub place-keeps : (t : Bool) (a : ℕ) (z : ℤ) (b : Before)
    → ((with_place t a z b).denominator ≡ b.denominator) × ((with_place t a z b).agents ≡ b.agents) × ((with_place t a z b).columns ≡ b.columns)
    × ((with_place t a z b).units ≡ b.units) × ((with_place t a z b).prices ≡ b.prices) × ((with_place t a z b).pieces ≡ b.pieces) × ((with_place t a z b).rows ≡ b.rows)
unfolding with_place
place-keeps true a z b = (refl, refl, refl, refl, refl, refl, refl)
place-keeps false a z b = (refl, refl, refl, refl, refl, refl, refl)

denominator-step : (o : Option Word) (r : Row) (b : Before) → (add_word o r b).denominator ≡ cond (is_kind word.Denominator o) (number (field r 1)) b.denominator
unfolding add_word add
denominator-step None r b = refl
denominator-step (Some word.Worth) r b = (place-keeps _ _ _ b).0
denominator-step (Some w) r b = refl

agents-step : (o : Option Word) (r : Row) (b : Before) → (add_word o r b).agents ≡ cond (is_kind word.Agents o) (drop 1 r) b.agents
unfolding add_word add
agents-step None r b = refl
agents-step (Some word.Worth) r b = (place-keeps _ _ _ b).1
agents-step (Some w) r b = refl

columns-step : (o : Option Word) (r : Row) (b : Before) → (add_word o r b).columns ≡ cond (is_kind word.Objects o) (drop 1 r) b.columns
unfolding add_word add
columns-step None r b = refl
columns-step (Some word.Worth) r b = (place-keeps _ _ _ b).2
columns-step (Some w) r b = refl

units-step : (o : Option Word) (r : Row) (b : Before) → (add_word o r b).units ≡ b.units ++ cond (is_kind word.Row o) (map number (drop 2 r)) []
unfolding add_word add
units-step None r b = sym (append-nil b.units)
units-step (Some word.Row) r b = refl
units-step (Some word.Worth) r b = (place-keeps _ _ _ b).3 ∙ sym (append-nil b.units)
units-step (Some w) r b = sym (append-nil b.units)

prices-step : (o : Option Word) (r : Row) (b : Before) → (add_word o r b).prices ≡ b.prices ++ cond (is_kind word.Price o) (number (field r 2) ∷ []) []
unfolding add_word add
prices-step None r b = sym (append-nil b.prices)
prices-step (Some word.Price) r b = refl
prices-step (Some word.Worth) r b = (place-keeps _ _ _ b).4 ∙ sym (append-nil b.prices)
prices-step (Some w) r b = sym (append-nil b.prices)

pub denominator-said : (rows : List Row) → (said_by rows).denominator ≡ number (field (last_of (codes "denominator") rows) 1)
unfolding count_of
denominator-said rows = sets-last (λ b. b.denominator) (λ r. number (field r 1)) word.Denominator denominator-step nothing rows [] refl

pub agents-said : (rows : List Row) → (said_by rows).agents ≡ agents_in rows
agents-said rows = sets-last (λ b. b.agents) (drop 1) word.Agents agents-step nothing rows [] refl

pub columns-said : (rows : List Row) → (said_by rows).columns ≡ columns_in rows
columns-said rows = sets-last (λ b. b.columns) (drop 1) word.Objects columns-step nothing rows [] refl

pub units-said : (rows : List Row) → (said_by rows).units ≡ flat_map (λ r. map number (drop 2 r)) (records_of (codes "row") rows)
units-said rows = adds-all (λ b. b.units) (λ r. map number (drop 2 r)) word.Row units-step nothing rows

pub prices-said : (rows : List Row) → (said_by rows).prices ≡ map (λ r. number (field r 2)) (records_of (codes "price") rows)
prices-said rows =
    adds-all (λ b. b.prices) (λ r. number (field r 2) ∷ []) word.Price prices-step nothing rows
    ∙ flat_map_single (λ r. number (field r 2)) (records_of (codes "price") rows)

rows-step : (o : Option Word) (r : Row) (b : Before) → (add_word o r b).rows ≡ b.rows + cond (is_kind word.Row o) 1 0
unfolding add_word add
rows-step None r b = omega arith
rows-step (Some word.Row) r b = refl
rows-step (Some word.Worth) r b = let same = (place-keeps (bytes_eq (field r 2) null_name) (column_at b (field r 2)) (signed (field r 3)) b).6 in omega (arith, same)
rows-step (Some w) r b = omega arith

pub rows-said : (rows : List Row) → (said_by rows).rows ≡ length (records_of (codes "row") rows)
rows-said rows = let all = counts-all (λ b. b.rows) word.Row rows-step nothing rows in omega (arith, all)

-- the last record of some kind tells its kind
last-step : (o : Option Word) (r : Row) (rs : List Row) (b : Before) (d : Row) → word_of (first_field r) ≡ o → b.last ≡ word_of (first_field d)
    → ((c : Before) (q : Row) → c.last ≡ word_of (first_field q) → (said_from c rs).last ≡ word_of (first_field (get_or (kind_records rs) (length (kind_records rs) - 1) q)))
    → (said_from (add_word o r b) rs).last ≡ word_of (first_field (get_or (kind_records (r ∷ rs)) (length (kind_records (r ∷ rs)) - 1) d))
unfolding add_word
last-step None r rs b d f e more =
    let same : kind_records (r ∷ rs) ≡ kind_records rs = rw f refl in
    more b d e ∙ ap (λ (qs : List Row). word_of (first_field (get_or qs (length qs - 1) d))) (sym same)
last-step (Some w) r rs b d f e more =
    let first : kind_records (r ∷ rs) ≡ r ∷ kind_records rs = rw f refl in
    more (add_word (Some w) r b) r (sym f) ∙ ap (λ (q : Row). word_of (first_field q)) (sym (last-cons r (kind_records rs) d))
    ∙ ap (λ (qs : List Row). word_of (first_field (get_or qs (length qs - 1) d))) (sym first)

last-from : (rows : List Row) (b : Before) (d : Row) → b.last ≡ word_of (first_field d) → (said_from b rows).last ≡ word_of (first_field (get_or (kind_records rows) (length (kind_records rows) - 1) d))
unfolding said_from
last-from [] b d e = e
last-from (r ∷ rs) b d e = last-step (word_of (first_field r)) r rs b d refl e (last-from rs)

pub last-said : (rows : List Row) → (said_by rows).last ≡ last_kind rows
unfolding word_of
last-said rows = last-from rows nothing [] refl
