-- The recipe's worths along a list of places, place by place.
use Rattle.std.proofs.Common.{◌≡◌, ℕ, zero, suc, ◌+◌, ◌-◌, ◌<◌, ◌≤◌, List, [], ◌∷◌, true, false, cond, length, get_or, Some, None, ℤ, pos, ◌-ℤ◌, refl, ap, ◌∙◌, arith}
use Rattle.definitions.specs.Certificate.{ListPlace, more, next_level, worth_here, worths_along}

-- the place at an index, and past the end one that isn't eaten
abbrev pub at : List ListPlace → ℕ → ListPlace
at bs k = get_or bs k (record { eaten = false; level = 0 })

-- the worth at an index
abbrev pub worth_of : ℤ → List ListPlace → ℕ → ℤ
worth_of before bs k = get_or (worths_along before bs) k (pos 0)

-- one worth for each place
pub along_many : (before : ℤ) (bs : List ListPlace) → length (worths_along before bs) ≡ length bs
along_many before [] = refl
along_many before (b ∷ bs) = ap suc (along_many (worth_here before (next_level (b ∷ bs))) bs)

-- an eaten place has its level
pub eaten_worth : (before : ℤ) (bs : List ListPlace) (k : ℕ) → k < length bs → (at bs k).eaten ≡ true → worth_of before bs k ≡ pos (at bs k).level
eaten_worth before [] k l e = absurd (omega arith)
eaten_worth before (b ∷ bs) zero l e = ap (λ t. worth_here before (cond t (Some b.level) (more (next_level bs)))) e
eaten_worth before (b ∷ bs) (suc k) l e = eaten_worth (worth_here before (next_level (b ∷ bs))) bs k (omega arith) e

-- the first eaten place gives the next level
next_at : (bs : List ListPlace) (j : ℕ) → j < length bs → (at bs j).eaten ≡ true → ((l : ℕ) → l < j → (at bs l).eaten ≡ false) → next_level bs ≡ Some ((at bs j).level + j)
next_at [] j l e first = absurd (omega arith)
next_at (b ∷ bs) zero l e first =
    let plain : b.level ≡ b.level + 0 = omega arith in
    ap (λ t. cond t (Some b.level) (more (next_level bs))) e ∙ ap Some plain
next_at (b ∷ bs) (suc j) l e first =
    let next : suc ((at bs j).level + j) ≡ (at bs j).level + suc j = omega arith in
    ap (λ t. cond t (Some b.level) (more (next_level bs))) (first 0 (omega arith))
    ∙ ap more (next_at bs j (omega arith) e (λ i m. first (suc i) (omega arith))) ∙ ap Some next

-- a place before an eaten one has the level of the next eaten place plus the distance to it
pub ahead_worth : (before : ℤ) (bs : List ListPlace) (k j : ℕ) → k ≤ j → j < length bs → (at bs j).eaten ≡ true → ((l : ℕ) → k ≤ l → l < j → (at bs l).eaten ≡ false)
    → worth_of before bs k ≡ pos ((at bs j).level + (j - k))
ahead_worth before [] k j f l e first = absurd (omega arith)
ahead_worth before (b ∷ bs) zero j f l e first =
    let far : j ≡ j - 0 = omega arith in
    ap (worth_here before) (next_at (b ∷ bs) j l e (λ i m. first i (omega arith) m)) ∙ ap (λ n. pos ((at (b ∷ bs) j).level + n)) far
ahead_worth before (b ∷ bs) (suc k) zero f l e first = absurd (omega arith)
ahead_worth before (b ∷ bs) (suc k) (suc j) f l e first =
    let far : j - k ≡ suc j - suc k = omega arith in
    ahead_worth (worth_here before (next_level (b ∷ bs))) bs k j (omega arith) (omega arith) e (λ i m n. first (suc i) (omega arith) (omega arith))
    ∙ ap (λ n. pos ((at bs j).level + n)) far

-- where no place is eaten there is no next level
none_next : (bs : List ListPlace) → ((l : ℕ) → l < length bs → (at bs l).eaten ≡ false) → next_level bs ≡ None
none_next [] none = refl
none_next (b ∷ bs) none =
    ap (λ t. cond t (Some b.level) (more (next_level bs))) (none 0 (omega arith)) ∙ ap more (none_next bs (λ l m. none (suc l) (omega arith)))

-- after the last eaten place each worth is one less than the one before
pub past_worth : (before : ℤ) (bs : List ListPlace) (k : ℕ) → suc k < length bs → ((l : ℕ) → k < l → l < length bs → (at bs l).eaten ≡ false)
    → worth_of before bs (suc k) ≡ (worth_of before bs k -ℤ pos 1)
past_worth before [] k l none = absurd (omega arith)
past_worth before (b ∷ []) k l none = absurd (omega arith)
past_worth before (b ∷ c ∷ bs) zero l none =
    ap (worth_here (worth_here before (next_level (b ∷ c ∷ bs)))) (none_next (c ∷ bs) (λ i m. none (suc i) (omega arith) (omega arith)))
past_worth before (b ∷ c ∷ bs) (suc k) l none =
    past_worth (worth_here before (next_level (b ∷ c ∷ bs))) (c ∷ bs) k (omega arith) (λ i m n. none (suc i) (omega arith) (omega arith))
