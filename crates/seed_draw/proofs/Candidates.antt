-- The first candidate below a denominator, one candidate at a time.
use Rattle.std.proofs.Common.{◌≡◌, ℕ, suc, ◌+◌, ◌-◌, ◌*◌, ◌%◌, ◌^◌, ◌<◌, ◌≤◌, true, false, cond, nat_lt, List, [], ◌∷◌, Option, Some, None, map, ◌∙◌, ap, sym, refl, inl, inr, arith}
use Rattle.std.specs.List.{find, range_with_len}
use Rattle.std.proofs.lemmas.Bool.{cases_lt, lt-ltb, le-ltb}
use Rattle.std.proofs.lemmas.Bool.Decides.{nat_tests}
use Rattle.definitions.specs.Tickets.{binary_digits, candidate, ticket_of}
use Rattle.rand_chacha.specs.ChaCha.{word_at, key_of}
use Rattle.seed_draw.specs.Words.{four_words, seed_words}

range_first : (k n : ℕ) → k < n → range_with_len k (n - k) ≡ k ∷ range_with_len (k + 1) (n - (k + 1))
range_first k n l = let e : n - k ≡ suc (n - (k + 1)) = omega arith in ap (range_with_len k) e

range_none : (k n : ℕ) → n ≤ k → range_with_len k (n - k) ≡ []
range_none k n l = let e : n - k ≡ 0 = omega arith in ap (range_with_len k) e

-- the first of candidates k to n - 1 that is below d
unfoldable pub first_candidate : (ℕ → ℕ) → ℕ → ℕ → ℕ → Option ℕ
first_candidate word d k n = find (λ t. nat_lt t d) (map (candidate word d) (range_with_len k (n - k)))

pub candidate_passes : (word : ℕ → ℕ) (d k n : ℕ) → k < n → candidate word d k < d → first_candidate word d k n ≡ Some (candidate word d k)
unfolding first_candidate
candidate_passes word d k n l h =
    let e : nat_lt (candidate word d k) d ≡ true = grind (arith, nat_tests) in
    let rest : Option ℕ = find (λ t. nat_lt t d) (map (candidate word d) (range_with_len (k + 1) (n - (k + 1)))) in
    ap (λ r. find (λ t. nat_lt t d) (map (candidate word d) r)) (range_first k n l) ∙ ap (λ b. cond b (Some (candidate word d k)) rest) e

pub candidate_fails : (word : ℕ → ℕ) (d k n : ℕ) → k < n → d ≤ candidate word d k → first_candidate word d k n ≡ first_candidate word d (k + 1) n
unfolding first_candidate
candidate_fails word d k n l h =
    let e : nat_lt (candidate word d k) d ≡ false = grind (arith, nat_tests) in
    let rest : Option ℕ = find (λ t. nat_lt t d) (map (candidate word d) (range_with_len (k + 1) (n - (k + 1)))) in
    ap (λ r. find (λ t. nat_lt t d) (map (candidate word d) r)) (range_first k n l) ∙ ap (λ b. cond b (Some (candidate word d k)) rest) e

pub candidates_end : (word : ℕ → ℕ) (d k n : ℕ) → n ≤ k → first_candidate word d k n ≡ None
unfolding first_candidate
candidates_end word d k n l = ap (λ r. find (λ t. nat_lt t d) (map (candidate word d) r)) (range_none k n l)

pub candidates_start : (word : ℕ → ℕ) (d : ℕ) → ticket_of word d ≡ first_candidate word d 0 256
unfolding first_candidate
candidates_start word d = refl

-- what four words and their lowest digits make is the candidate
pub candidate_read : (seed key : List ℕ) (stream place k d number digits found : ℕ) → key ≡ key_of seed → stream ≡ 0 → place ≡ 4 * k → number ≡ four_words (word_at 10 key stream) place → digits ≡ binary_digits (d - 1) → found ≡ number % 2 ^ digits → found ≡ candidate (seed_words seed) d k
candidate_read seed key stream place k d number digits found a b e f g h =
    let keyed = ap (λ (x : List ℕ). four_words (word_at 10 x stream) place) a in
    let streamed = ap (λ (x : ℕ). four_words (word_at 10 (key_of seed) x) place) b in
    let placed = ap (λ (x : ℕ). four_words (seed_words seed) x) e in
    let read : number ≡ four_words (seed_words seed) (4 * k) = f ∙ keyed ∙ streamed ∙ placed in
    h ∙ ap (λ (x : ℕ). x % 2 ^ digits) read ∙ ap (λ (x : ℕ). four_words (seed_words seed) (4 * k) % 2 ^ x) g

-- a ticket that is named is below the denominator
passes : (d : ℕ) (candidates : List ℕ) (t : ℕ) → find (λ u. nat_lt u d) candidates ≡ Some t → t < d
passes d [] t h = cc
passes d (c ∷ candidates) t h =
    elim (cases_lt c d) [
      | inl less ↦
          let found : find (λ u. nat_lt u d) (c ∷ candidates) ≡ Some c = ap (λ b. cond b (Some c) (find (λ u. nat_lt u d) candidates)) (lt-ltb c d less) in
          let same : c ≡ t = cc in
          omega (arith, same)
      | inr more ↦
          let later : find (λ u. nat_lt u d) (c ∷ candidates) ≡ find (λ u. nat_lt u d) candidates = ap (λ b. cond b (Some c) (find (λ u. nat_lt u d) candidates)) (le-ltb c d more) in
          passes d candidates t (sym later ∙ h)
    ]

pub ticket_below : (word : ℕ → ℕ) (d t : ℕ) → ticket_of word d ≡ Some t → t < d
ticket_below word d t h = passes d (map (candidate word d) (range_with_len 0 256)) t h
