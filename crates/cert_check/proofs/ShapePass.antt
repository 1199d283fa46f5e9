-- Names, lists and prices pass exactly where they are the problem's.
use Rattle.std.proofs.Common.{◌≡◌, ℕ, suc, ◌+◌, ◌<◌, List, [], ◌∷◌, length, ap, sym, refl, ◌∙◌, arith, Bool, true, Option, Some, None, ◌↔◌}
use Rattle.std.specs.Prelude.{slice_get, nat_eq}
use Rattle.std.specs.Bool.{Decides}
use Rattle.std.specs.Str.{bytes_eq}
use Rattle.std.proofs.lemmas.Bool.{eq-eqb, eqb-true, not_from_true}
use Rattle.std.proofs.lemmas.Slice.Eq.{bytes_eq-Decides}
use Rattle.definitions.specs.Values.{ProblemValue}
use Rattle.definitions.proofs.Passed.{both-pass}
use Rattle.cert_check.specs.declared.verdicts.Verdict.{Verdict}
use Rattle.cert_check.specs.declared.verdicts.Verdict.TheVariants.{Pass}
use Rattle.cert_check.specs.Verdicts.{verdict_of}
use Rattle.cert_check.specs.ShapeFaults.{same_entry, column_names, agent_look, column_look, sets_fault, place_look, lists_look_of, list_look, agents_fault, columns_fault, lists_fault, first_shape_fault, AreShapeOf}
use Rattle.cert_check.proofs.Quiet.{quiet, silent, not_false, quiet_at, silent_at}
use Rattle.cert_check.proofs.PricePass.{passes, neither}

number_decides : (a b : ℕ) → Decides (nat_eq a b) (a ≡ b)
number_decides a b = (eqb-true a b, eq-eqb a b)

module _ {X : Type 0} (same : X → X → Bool) (decides : (x y : X) → Decides (same x y) (x ≡ y)) where
  -- lists that agree at each place and at their end are one
  pub same_lists : (xs ys : List X) → ((k : ℕ) → k < length xs + 1 → same_entry same (slice_get xs k) (slice_get ys k) ≡ true) → xs ≡ ys
  same_lists [] [] h = refl
  same_lists [] (y ∷ ys) h = cc (h 0 (omega arith))
  same_lists (x ∷ xs) [] h = cc (h 0 (omega arith))
  same_lists (x ∷ xs) (y ∷ ys) h =
      ap (λ z. z ∷ xs) ((decides x y).0 (h 0 (omega arith))) ∙ ap (λ zs. y ∷ zs) (same_lists xs ys (λ k l. h (suc k) (omega arith)))

  entry_self : (o : Option X) → same_entry same o o ≡ true
  entry_self None = refl
  entry_self (Some x) = (decides x x).1 refl

  pub lists_same : (xs ys : List X) → xs ≡ ys → (k : ℕ) → same_entry same (slice_get xs k) (slice_get ys k) ≡ true
  lists_same xs ys e k = ap (λ zs. same_entry same (slice_get xs k) (slice_get zs k)) (sym e) ∙ entry_self (slice_get xs k)

-- lists of an agent
one_list : (i : ℕ) (a b : Option (List ℕ)) → lists_look_of i a b ≡ None → same_entry bytes_eq a b ≡ true
one_list i None None e = refl
one_list i None (Some b) e = cc e
one_list i (Some a) None e = cc e
one_list i (Some a) (Some b) e =
    (bytes_eq-Decides a b).1 (same_lists nat_eq number_decides a b (λ k l. not_false _ (quiet _ _ (quiet_at (place_look i a b) (length a + 1) e k l))))

list_one : (i : ℕ) (a b : Option (List ℕ)) → same_entry bytes_eq a b ≡ true → lists_look_of i a b ≡ None
list_one i None None e = refl
list_one i None (Some b) e = absurd (cc e)
list_one i (Some a) None e = absurd (cc e)
list_one i (Some a) (Some b) e =
    silent_at (place_look i a b) (length a + 1) (λ k l. silent _ _ (not_from_true _ (lists_same nat_eq number_decides a b ((bytes_eq-Decides a b).0 e) k)))

module _ (p : ProblemValue) (agents columns lists : List (List ℕ)) (prices : ℕ) where
  shape_pass : first_shape_fault p agents columns lists prices ≡ None → AreShapeOf p agents columns lists prices
  shape_pass e =
      let (a, e1) = both-pass (agents_fault p agents) _ e in
      let (b, e2) = both-pass (columns_fault p columns) _ e1 in
      let (c, d) = both-pass (sets_fault p prices) (lists_fault p lists) e2 in
      record {
        agents_same = same_lists bytes_eq bytes_eq-Decides p.agents agents (λ k l. not_false _ (quiet _ _ (quiet_at (agent_look p agents) (length p.agents + 1) a k l)));
        columns_same = same_lists bytes_eq bytes_eq-Decides (column_names p) columns (λ k l. not_false _ (quiet _ _ (quiet_at (column_look p columns) (length (column_names p) + 1) b k l)));
        prices_many = eqb-true p.stated prices (not_false _ (quiet _ _ c));
        lists_same = same_lists bytes_eq bytes_eq-Decides p.lists lists (λ k l. one_list k (slice_get p.lists k) (slice_get lists k) (quiet_at (list_look p lists) (length p.lists + 1) d k l));
      }

  pass_shape : AreShapeOf p agents columns lists prices → first_shape_fault p agents columns lists prices ≡ None
  pass_shape w =
      neither (agents_fault p agents) _ (silent_at (agent_look p agents) (length p.agents + 1) (λ k l. silent _ _ (not_from_true _ (lists_same bytes_eq bytes_eq-Decides p.agents agents w.agents_same k))))
      (neither (columns_fault p columns) _ (silent_at (column_look p columns) (length (column_names p) + 1) (λ k l. silent _ _ (not_from_true _ (lists_same bytes_eq bytes_eq-Decides (column_names p) columns w.columns_same k))))
      (neither (sets_fault p prices) (lists_fault p lists) (silent _ _ (not_from_true _ (eq-eqb p.stated prices w.prices_many)))
      (silent_at (list_look p lists) (length p.lists + 1) (λ k l. list_one k (slice_get p.lists k) (slice_get lists k) (lists_same bytes_eq bytes_eq-Decides p.lists lists w.lists_same k)))))

  pub shape_verdict : (v : Verdict) → v ≡ verdict_of (first_shape_fault p agents columns lists prices) → (v ≡ Pass) ↔ AreShapeOf p agents columns lists prices
  shape_verdict v e = (λ t. shape_pass (passes (first_shape_fault p agents columns lists prices) (sym e ∙ t)), λ w. e ∙ ap verdict_of (pass_shape w))
