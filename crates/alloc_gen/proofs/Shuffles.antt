-- Lists in the making: one exchange more, and one list more.
use Rattle.std.proofs.Common.{◌≡◌, ℕ, zero, suc, ◌+◌, ◌-◌, ◌*◌, ◌%◌, List, [], ◌∷◌, ◌++◌, length, take, sym, ◌∙◌, ap, refl, arith}
use Rattle.std.specs.List.{range_with_len, swap}
use Rattle.std.proofs.lemmas.List.Edits.{length-swap}
use Rattle.std.proofs.lemmas.List.FromFn.{length-range_with_len, map-range_with_len_more}
use Rattle.alloc_gen.specs.MadeLists.{shuffled, list_size, made_list, made_lists}
use Rattle.alloc_gen.specs.Words.{words_from}

-- before any exchange the columns stand in order
pub shuffled_none : (word : ℕ → ℕ) (m : ℕ) → shuffled word m 0 ≡ range_with_len 0 m
unfolding shuffled
shuffled_none word m = refl

shuffled_more : (word : ℕ → ℕ) (m j : ℕ) → shuffled word m (j + 1) ≡ swap (shuffled word m j) j (j + word j % (m - j))
unfolding shuffled
shuffled_more word m j = let e : j + 1 ≡ suc j = omega arith in ap (shuffled word m) e

pub length-shuffled : (word : ℕ → ℕ) (m j : ℕ) → length (shuffled word m j) ≡ m
unfolding shuffled
length-shuffled word m zero = length-range_with_len 0 m
length-shuffled word m (suc j) = length-swap (shuffled word m j) j (j + word j % (m - j)) ∙ length-shuffled word m j

-- an exchange by the next word
pub exchanged : (word : ℕ → ℕ) (m j w : ℕ) (order : List ℕ) → order ≡ shuffled word m j → w ≡ word j → swap order j (j + w % (m - j)) ≡ shuffled word m (j + 1)
exchanged word m j w order e f =
    ap (λ (xs : List ℕ). swap xs j (j + w % (m - j))) e
    ∙ ap (λ (x : ℕ). swap (shuffled word m j) j (j + x % (m - j))) f
    ∙ sym (shuffled_more word m j)

-- a list put together
pub list_put : (word : ℕ → ℕ) (m size many : ℕ) (xs ys zs : List ℕ) → many ≡ m → size ≡ list_size m → xs ≡ shuffled word many size → ys ≡ take size xs → zs ≡ ys ++ m ∷ [] → zs ≡ made_list word m
unfolding made_list
list_put word m size many xs ys zs a b e f g =
    let shape : xs ≡ shuffled word m (list_size m) = e ∙ ap (λ (x : ℕ). shuffled word x size) a ∙ ap (shuffled word m) b in
    let cut : ys ≡ take (list_size m) (shuffled word m (list_size m)) = f ∙ ap (λ (x : ℕ). take x xs) b ∙ ap (take (list_size m)) shape in
    g ∙ ap (λ (l : List ℕ). l ++ m ∷ []) cut

pub lists_none : (word : ℕ → ℕ) (m : ℕ) → made_lists word 0 m ≡ []
unfolding made_lists
lists_none word m = refl

-- the list of one more agent
pub lists_more : (word : ℕ → ℕ) (n m : ℕ) → made_lists word (n + 1) m ≡ made_lists word n m ++ made_list (words_from word (n * list_size m)) m ∷ []
unfolding made_lists
lists_more word n m = map-range_with_len_more (λ i. made_list (words_from word (i * list_size m)) m) 0 n n (omega arith)

-- where the words of the next agent begin
pub next_place : (i size : ℕ) → i * size + size ≡ (i + 1) * size
next_place i size = grind arith
