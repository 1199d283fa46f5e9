-- No field of what is written of a lawful lottery is empty.
use Rattle.std.proofs.Common.{◌≡◌, ◌+◌, ◌<◌, ◌≤◌, ◌^◌, ◌∙◌, ◌∷◌, [], ℕ, List, true, sym, ap, length, get_or, map, take, drop, sum, arith}
use Rattle.std.specs.Prelude.{ℤ, pos, negsuc, codes, decimal, nat_abs, All}
use Rattle.std.specs.Fmt.{signed_decimal}
use Rattle.std.specs.List.{AllZip}
use Rattle.std.proofs.lemmas.Fmt.{decimal_is_IsNumeral_wide}
use Rattle.std.proofs.lemmas.List.{take-append-drop}
use Rattle.std.proofs.lemmas.List.Elements.{All-nil, All-cons, All-head, All-tail, All-append, All-map}
use Rattle.std.proofs.lemmas.List.Sums.{sum_by-append, sum_by-cons}
use Rattle.definitions.specs.Texts.{Row, is_name}
use Rattle.definitions.specs.Values.{PieceValue}
use Rattle.definitions.specs.Pieces.{AreGives}
use Rattle.definitions.specs.declared.Give.{Give}
use Rattle.table_text.proofs.TextFacts.{IsFilled}
use Rattle.lottery_file.specs.Checks.{weight_sum}
use Rattle.lottery_file.specs.Lotteries.{AreLawfulNames, IsRanking}
use Rattle.lottery_file.specs.Written.{name_rows, share_rows, price_rows, place_rows, worth_rows, give_row, piece_row, piece_rows, pieces_rows, end_row}
use Rattle.lottery_file.proofs.FieldTexts.{name-some}
use Rattle.lottery_file.proofs.HeadPass.{all-small}

-- a field has bytes
abbrev pub IsShown : List ℕ → Type 0
IsShown f = 0 < length f

-- a number has digits
pub decimal-shown : (n : ℕ) → n < 2 ^ 128 → IsShown (decimal n)
decimal-shown n small = (decimal_is_IsNumeral_wide n (omega arith)).0.0

signed-shown : (z : ℤ) → nat_abs z ≤ 2 ^ 40 → IsShown (signed_decimal z)
signed-shown (pos n) small = decimal-shown n (omega arith)
signed-shown (negsuc n) small = omega arith

decimals-shown : (ns : List ℕ) → All (λ n. n < 2 ^ 128) ns → All IsShown (map decimal ns)
decimals-shown ns h = All-map IsShown decimal ns (λ k d lt. decimal-shown (get_or ns k d) (h k d lt))

pub names-shown : (names : List (List ℕ)) → All (λ name. is_name name ≡ true) names → All IsShown names
names-shown names h k d lt = name-some (get_or names k d) (h k d lt)

-- a field, two and three
one-shown : (a : List ℕ) → IsShown a → All IsShown (a ∷ [])
one-shown a h = All-cons IsShown a [] h (All-nil IsShown)

two-shown : (a b : List ℕ) → IsShown a → IsShown b → All IsShown (a ∷ b ∷ [])
two-shown a b h k = All-cons IsShown a (b ∷ []) h (one-shown b k)

three-shown : (a b c : List ℕ) → IsShown a → IsShown b → IsShown c → All IsShown (a ∷ b ∷ c ∷ [])
three-shown a b c h k m = All-cons IsShown a (b ∷ c ∷ []) h (two-shown b c k m)

-- a record that begins with a word
filled : (word : List ℕ) (fields : List (List ℕ)) → IsShown word → All IsShown fields → IsFilled (word ∷ fields)
filled word fields w h = (omega arith, All-cons IsShown word fields w h)

pub names-filled : (d : ℕ) (agents columns : List (List ℕ)) → d < 2 ^ 128 → AreLawfulNames agents → AreLawfulNames columns → All IsFilled (name_rows d agents columns)
unfolding name_rows
names-filled d agents columns small a c =
    let version : Row = codes "lottery" ∷ codes "1" ∷ [] in
    let denominator : Row = codes "denominator" ∷ decimal d ∷ [] in
    let first : Row = codes "agents" ∷ agents in
    let second : Row = codes "objects" ∷ columns in
    All-cons IsFilled version (denominator ∷ first ∷ second ∷ []) (filled (codes "lottery") (codes "1" ∷ []) (omega arith) (one-shown (codes "1") (omega arith)))
    (All-cons IsFilled denominator (first ∷ second ∷ []) (filled (codes "denominator") (decimal d ∷ []) (omega arith) (one-shown (decimal d) (decimal-shown d small)))
    (All-cons IsFilled first (second ∷ []) (filled (codes "agents") agents (omega arith) (names-shown agents a.lawful))
    (All-cons IsFilled second [] (filled (codes "objects") columns (omega arith) (names-shown columns c.lawful)) (All-nil IsFilled))))

pub shares-filled : (agents : List (List ℕ)) (columns : ℕ) (units : List ℕ) (limit : ℕ) → All (λ name. is_name name ≡ true) agents → sum units ≤ limit → limit < 2 ^ 128 → All IsFilled (share_rows agents columns units)
shares-filled [] columns units limit a h small = All-nil IsFilled
shares-filled (agent ∷ agents) columns units limit a h small =
    let row = take columns units in
    let rest = drop columns units in
    let parts : sum units ≡ sum row + sum rest = ap sum (sym (take-append-drop columns units)) ∙ sum_by-append (λ (x : ℕ). x) row rest in
    let name : IsShown agent = name-some agent (All-head (λ (name : List ℕ). is_name name ≡ true) agent agents a) in
    All-cons IsFilled (codes "row" ∷ agent ∷ map decimal row) (share_rows agents columns rest)
    (filled (codes "row") (agent ∷ map decimal row) (omega arith) (All-cons IsShown agent (map decimal row) name (decimals-shown row (all-small row limit (omega (arith, parts, h)) small))))
    (shares-filled agents columns rest limit (All-tail (λ (name : List ℕ). is_name name ≡ true) agent agents a) (omega (arith, parts, h)) small)

pub prices-filled : (n : ℕ) (prices : List ℕ) → n + length prices < 2 ^ 128 → All (λ y. y ≤ 2 ^ 40) prices → All IsFilled (price_rows n prices)
prices-filled n [] few h = All-nil IsFilled
prices-filled n (y ∷ prices) few h =
    let small : y ≤ 2 ^ 40 = All-head (λ (y : ℕ). y ≤ 2 ^ 40) y prices h in
    All-cons IsFilled (codes "price" ∷ decimal n ∷ decimal y ∷ []) (price_rows (n + 1) prices)
    (filled (codes "price") (decimal n ∷ decimal y ∷ []) (omega arith) (two-shown (decimal n) (decimal y) (decimal-shown n (omega (arith, few))) (decimal-shown y (omega (arith, small)))))
    (prices-filled (n + 1) prices (omega (arith, few)) (All-tail (λ (y : ℕ). y ≤ 2 ^ 40) y prices h))

places-filled : (agent : List ℕ) (columns : List (List ℕ)) (list : List ℕ) (worths : List ℤ) → IsShown agent → All IsShown columns → All (λ a. a < length columns) list → All (λ u. nat_abs u ≤ 2 ^ 40) worths
    → All IsFilled (place_rows agent columns list worths)
places-filled agent columns [] worths a c inside small = All-nil IsFilled
places-filled agent columns (p ∷ list) [] a c inside small = All-nil IsFilled
places-filled agent columns (p ∷ list) (u ∷ worths) a c inside small =
    let column : IsShown (get_or columns p []) = c p [] (All-head (λ (a : ℕ). a < length columns) p list inside) in
    let worth : IsShown (signed_decimal u) = signed-shown u (All-head (λ (z : ℤ). nat_abs z ≤ 2 ^ 40) u worths small) in
    All-cons IsFilled (codes "worth" ∷ agent ∷ get_or columns p [] ∷ signed_decimal u ∷ []) (place_rows agent columns list worths)
    (filled (codes "worth") (agent ∷ get_or columns p [] ∷ signed_decimal u ∷ []) (omega arith) (three-shown agent (get_or columns p []) (signed_decimal u) a column worth))
    (places-filled agent columns list worths a c (All-tail (λ (a : ℕ). a < length columns) p list inside) (All-tail (λ (z : ℤ). nat_abs z ≤ 2 ^ 40) u worths small))

pub worths-filled : (agents columns : List (List ℕ)) (lists : List (List ℕ)) (worths : List (List ℤ)) → All IsShown agents → All IsShown columns → AllZip (IsRanking (length columns)) lists worths
    → All IsFilled (worth_rows agents columns lists worths)
worths-filled [] columns lists worths a c h = All-nil IsFilled
worths-filled (agent ∷ agents) columns [] worths a c h = All-nil IsFilled
worths-filled (agent ∷ agents) columns (l ∷ lists) [] a c h = All-nil IsFilled
worths-filled (agent ∷ agents) columns (l ∷ lists) (w ∷ worths) a c h =
    All-append IsFilled (place_rows agent columns l w) (worth_rows agents columns lists worths)
    (places-filled agent columns l w (All-head IsShown agent agents a) c h.0.places.within h.0.places.small)
    (worths-filled agents columns lists worths (All-tail IsShown agent agents a) c h.1)

gives-filled : (agents columns : List (List ℕ)) (gs : List Give) → All IsShown agents → All IsShown columns → AreGives (length agents) (length columns) gs → All IsFilled (map (give_row agents columns) gs)
gives-filled agents columns gs a c h =
    All-map IsFilled (give_row agents columns) gs (λ k d lt.
    let is = h.0 k d lt in
    let g : Give = get_or gs k d in
    filled (codes "give") (get_or agents g.agent [] ∷ get_or columns g.object [] ∷ decimal g.count ∷ []) (omega arith)
    (three-shown (get_or agents g.agent []) (get_or columns g.object []) (decimal g.count) (a g.agent [] is.0) (c g.object [] is.1) (decimal-shown g.count (omega (arith, is.3)))))

pub pieces-filled : (agents columns : List (List ℕ)) (n : ℕ) (ps : List PieceValue) → All IsShown agents → All IsShown columns → n + length ps < 2 ^ 128 → weight_sum ps < 2 ^ 128
    → All (λ p. AreGives (length agents) (length columns) p.gives) ps → All IsFilled (pieces_rows agents columns n ps)
unfolding pieces_rows piece_rows
pieces-filled agents columns n [] a c few light h = All-nil IsFilled
pieces-filled agents columns n (p ∷ ps) a c few light h =
    let all : weight_sum (p ∷ ps) ≡ p.weight + weight_sum ps = sum_by-cons (λ (q : PieceValue). q.weight) p ps in
    let first : IsFilled (piece_row n p.weight) =
    filled (codes "piece") (decimal n ∷ decimal p.weight ∷ []) (omega arith) (two-shown (decimal n) (decimal p.weight) (decimal-shown n (omega (arith, few))) (decimal-shown p.weight (omega (arith, all, light)))) in
    All-append IsFilled (piece_rows agents columns n p) (pieces_rows agents columns (n + 1) ps)
    (All-cons IsFilled (piece_row n p.weight) (map (give_row agents columns) p.gives) first (gives-filled agents columns p.gives a c (All-head (λ (q : PieceValue). AreGives (length agents) (length columns) q.gives) p ps h)))
    (pieces-filled agents columns (n + 1) ps a c (omega (arith, few)) (omega (arith, all, light)) (All-tail (λ (q : PieceValue). AreGives (length agents) (length columns) q.gives) p ps h))

pub end-filled : (k : ℕ) → k < 2 ^ 128 → All IsFilled (end_row k ∷ [])
unfolding end_row
end-filled k small =
    All-cons IsFilled (codes "end" ∷ decimal k ∷ []) [] (filled (codes "end") (decimal k ∷ []) (omega arith) (one-shown (decimal k) (decimal-shown k small))) (All-nil IsFilled)
