-- A text reads as one value, or has one fault.
use Rattle.std.proofs.Common.{◌≡◌, ◌∙◌, ◌⊎◌, ℕ, List, Option, Some, None, refl, sym, ap, inl, inr}
use Rattle.definitions.specs.Texts.{Row}
use Rattle.table_text.proofs.TextFacts.{IsTextOf-unique}
use Rattle.table_text.proofs.EveryText.{IsTextOf-some}
use Rattle.table_text.specs.Rows.{IsTextOf}
use Rattle.seed_pact.specs.Said.{said_by}
use Rattle.seed_pact.specs.Checks.{fault_of}
use Rattle.seed_pact.specs.Pacts.{PactValue, pact_of, TextReadsAs, TextHasFault}
use Rattle.seed_pact.specs.declared.faults.PactKind.{PactKind}

pub one-value : (bytes : List ℕ) (l m : PactValue) → TextReadsAs bytes l → TextReadsAs bytes m → l ≡ m
one-value bytes l m a b =
    a.2.1 ∙ ap (λ (rows : List Row). pact_of (said_by rows)) (IsTextOf-unique bytes a.0 b.0 a.1 b.1) ∙ sym b.2.1

pub one-fault : (bytes : List ℕ) (m n : ℕ) (j k : PactKind) → TextHasFault bytes m j → TextHasFault bytes n k → (m ≡ n) × (j ≡ k)
one-fault bytes m n j k a b =
    let same : fault_of a.0 ≡ fault_of b.0 = ap (λ (rows : List Row). fault_of rows) (IsTextOf-unique bytes a.0 b.0 a.1 b.1) in
    let told : Path (Option (ℕ × PactKind)) (Some (m, j)) (Some (n, k)) = sym a.2 ∙ same ∙ b.2 in
    let pair : (m, j) ≡ (n, k) = cc told in
    (ap (λ (q : ℕ × PactKind). q.0) pair, ap (λ (q : ℕ × PactKind). q.1) pair)

pub not-both : (bytes : List ℕ) (l : PactValue) (n : ℕ) (k : PactKind) → TextReadsAs bytes l → ¬ (TextHasFault bytes n k)
not-both bytes l n k a b =
    let same : fault_of a.0 ≡ fault_of b.0 = ap (λ (rows : List Row). fault_of rows) (IsTextOf-unique bytes a.0 b.0 a.1 b.1) in
    let told : Path (Option (ℕ × PactKind)) None (Some (n, k)) = sym a.2.0 ∙ same ∙ b.2 in
    cc told

by-fault : (bytes : List ℕ) (rows : List Row) → IsTextOf bytes rows → (o : Option (ℕ × PactKind)) → fault_of rows ≡ o → ((l : PactValue) × TextReadsAs bytes l) ⊎ ((n : ℕ) × (k : PactKind) × TextHasFault bytes n k)
by-fault bytes rows t None e = inl (pact_of (said_by rows), (rows, t, (e, refl)))
by-fault bytes rows t (Some f) e = inr (f.0, f.1, (rows, t, e))

pub one-of-two : (bytes : List ℕ) → ((l : PactValue) × TextReadsAs bytes l) ⊎ ((n : ℕ) × (k : PactKind) × TextHasFault bytes n k)
one-of-two bytes = let r = IsTextOf-some bytes in by-fault bytes r.0 r.1 (fault_of r.0) refl
