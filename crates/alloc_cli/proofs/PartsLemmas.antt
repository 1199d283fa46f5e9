-- Writers that come one after another, the first part of a list and the rest, and the texts of signed numbers.
use Rattle.std.proofs.Common.{◌≡◌, ◌≤◌, ℕ, List, [], ◌∷◌, ◌++◌, length, drop, get_or, refl, sym, ap, ◌∙◌, arith, take, ◌-◌, length-drop, append-nil, append_assoc, true, false, subst, Result, Ok, Err}
use Rattle.std.specs.List.{flat_map}
use Rattle.std.specs.Prelude.{ℤ, pos, negsuc, decimal, nat_abs, IsErrAnd}
use Rattle.std.specs.Fmt.{signed_decimal}
use Rattle.std.proofs.lemmas.Int.{to_z-of_z}
use borrow.Author.Tests.{ltb-true}
use lib.Signed.{lt_z}
use mir.Syntax.{w64}
use mir.Val.{SFits, of_z, to_z}
use Rattle.std.proofs.lemmas.List.{take_all}
use Rattle.device_core.specs.Counts.{WriteCounts}
use Rattle.device_core.specs.declared.faults.SinkFault.{SinkFault}
use Rattle.device_core.specs.declared.traits.Sink as Sink
use Rattle.device_core.proofs.Fronts.{appended-after, front-before}
use Rattle.alloc_cli.specs.Parts.{Writes}

-- the counts of a writer after one that moved none
counts_after : {T : Type 0} (f0 f1 f2 s0 s1 s2 : ℕ) (r : Result T SinkFault) → (f1 ≡ f0) × (s1 ≡ s0) → WriteCounts f1 f2 s1 s2 r → WriteCounts f0 f2 s0 s2 r
counts_after f0 f1 f2 s0 s1 s2 r same h = subst (λ s. WriteCounts f0 f2 s s2 r) same.1 (subst (λ f. WriteCounts f f2 s1 s2 r) same.0 h)

module _ {K : Type 0} (sink : Sink.Ghosts K) where
  -- a text, and then what comes after it
  pub writes-after : {T U : Type 0} {a b t : List ℕ} {old mid new : K} {v : U} {r : Result T SinkFault} → Writes sink a old mid (Ok v) → Writes sink b mid new r → a ++ b ≡ t → Writes sink t old new r
  writes-after {a = a} {b = b} {t = t} {r = r} first second whole = record {
    bytes = appended-after a b t _ _ _ r first.bytes second.bytes whole;
    flushed = second.flushed ∙ first.flushed;
    cause = counts_after _ _ _ _ _ _ r first.cause second.cause;
  }

  -- a text of which the first part was refused, at the exit of a `?`
  pub writes-refused : {T U : Type 0} {a t : List ℕ} {old new : K} {fault : SinkFault} {r : Result T SinkFault} (b : List ℕ) → Writes {T = U} sink a old new (Err fault) → IsErrAnd r (λ it. it ≡ fault) → a ++ b ≡ t → Writes sink t old new r
  writes-refused {r = Ok x} b first is whole = absurd is
  writes-refused {T = T} {a = a} {t = t} {old = old} {new = new} {r = Err it} b first is whole =
      subst (λ f. Writes {T = T} sink t old new (Err f)) (sym is) (record { bytes = front-before a b t _ _ first.bytes whole; flushed = first.flushed; cause = first.cause })

-- the first part, and then the rest
pub flat_map-split : {A : Type 0} (f : A → List ℕ) (parts : List A) (d : A) → 1 ≤ length parts → f (get_or parts 0 d) ++ flat_map f (drop 1 parts) ≡ flat_map f parts
flat_map-split f [] d h = absurd (omega (arith, h))
flat_map-split f (part ∷ parts) d h = refl

-- the same, as a call with the rest of a slice shows it
pub flat_map-split_rest : {A : Type 0} (f : A → List ℕ) (parts : List A) (d : A) → 1 ≤ length parts → f (get_or parts 0 d) ++ flat_map f (take (length parts - 1) (drop 1 parts)) ≡ flat_map f parts
flat_map-split_rest f parts d h =
    let all : take (length parts - 1) (drop 1 parts) ≡ drop 1 parts = take_all _ _ (omega (arith, length-drop 1 parts)) in
    rw all (flat_map-split f parts d h)

-- a text that ends in a number, and what comes after it
pub append-number : (front number after : List ℕ) → (front ++ (number ++ [])) ++ after ≡ front ++ (number ++ after)
append-number front number after = rw (append-nil, append_assoc) refl

signed_decimal-negative : (z : ℤ) → lt_z z (pos 0) ≡ true → signed_decimal z ≡ 45 ∷ decimal (nat_abs z)
signed_decimal-negative (pos n) negative = absurd (omega (arith, ltb-true n 0 negative))
signed_decimal-negative (negsuc n) negative = refl

signed_decimal-other : (z : ℤ) → lt_z z (pos 0) ≡ false → signed_decimal z ≡ decimal (nat_abs z)
signed_decimal-other (pos n) other = refl
signed_decimal-other (negsuc n) other = cc

-- a negative number has a minus sign before its size
pub negative_text : (z : ℤ) (size : ℕ) → SFits w64 z → lt_z (to_z w64 (of_z w64 z)) (pos 0) ≡ true → size ≡ nat_abs (to_z w64 (of_z w64 z)) → 45 ∷ decimal size ≡ signed_decimal z
negative_text z size fits negative is =
    let back : to_z w64 (of_z w64 z) ≡ z = to_z-of_z w64 z fits in
    ap (λ n. 45 ∷ decimal n) (is ∙ ap nat_abs back) ∙ sym (signed_decimal-negative z (ap (λ y. lt_z y (pos 0)) (sym back) ∙ negative))

-- any other number is the text of its size
pub other_text : (z : ℤ) (size : ℕ) → SFits w64 z → lt_z (to_z w64 (of_z w64 z)) (pos 0) ≡ false → size ≡ nat_abs (to_z w64 (of_z w64 z)) → decimal size ≡ signed_decimal z
other_text z size fits other is =
    let back : to_z w64 (of_z w64 z) ≡ z = to_z-of_z w64 z fits in
    ap decimal (is ∙ ap nat_abs back) ∙ sym (signed_decimal-other z (ap (λ y. lt_z y (pos 0)) (sym back) ∙ other))
