-- Contributions one after the other.
use Rattle.std.proofs.Common.{◌≡◌, ◌+◌, ◌<◌, ◌∙◌, ◌∷◌, ◌++◌, [], ℕ, List, length, take, get_or, ap, sym, refl, append_assoc}
use Rattle.std.specs.List.{concat}
use Rattle.std.proofs.lemmas.List.{append-nil, take_more}

concat-append : (xss yss : List (List ℕ)) → concat (xss ++ yss) ≡ concat xss ++ concat yss
concat-append [] yss = refl
concat-append (xs ∷ xss) yss = ap (λ (l : List ℕ). xs ++ l) (concat-append xss yss) ∙ sym (append_assoc xs (concat xss) (concat yss))

-- one more of them
pub concat-more : (xss : List (List ℕ)) (i : ℕ) (d : List ℕ) → i < length xss → concat (take (i + 1) xss) ≡ concat (take i xss) ++ get_or xss i d
concat-more xss i d h =
    ap concat (take_more xss i d h) ∙ concat-append (take i xss) (get_or xss i d ∷ []) ∙ ap (λ (l : List ℕ). concat (take i xss) ++ l) (append-nil (get_or xss i d))
