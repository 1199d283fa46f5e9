-- The records of a lottery as they are written, one after the other.
use Rattle.std.proofs.Common.{◌≡◌, ◌+◌, ◌*◌, ◌/◌, ◌%◌, ◌<◌, ◌≤◌, Bool, true, false, ◌∙◌, ◌++◌, ◌∷◌, [], ℕ, suc, zero, List, Option, Some, None, Bor, refl, sym, ap, take, drop, length, get_or, map, append_assoc, append-nil, arith}
use Rattle.std.specs.List.{AllZip}
use Rattle.std.specs.Prelude.{◌==◌, ℤ, codes, decimal, option_map, option_copied}
use Rattle.std.specs.Fmt.{signed_decimal}
use Rattle.std.proofs.lemmas.List.{take_more, take_all, take-append-drop, map-append, map_push, drop-drop, length-drop, get_or-drop}
use Rattle.std.proofs.Math.Seq.{drop-cons}
use Rattle.definitions.specs.Texts.{Row}
use Rattle.definitions.specs.Sets.{ScaledValue}
use Rattle.definitions.specs.Lotteries.{LotteryValue}
use Rattle.definitions.specs.Values.{PieceValue, PricesValue, prices_value}
use Rattle.definitions.specs.Gives.{gives_along}
use Rattle.definitions.specs.declared.Give.{Give}
use Rattle.definitions.specs.declared.Prices.{Prices}
use Rattle.definitions.proofs.Cells.{index_within}
use Rattle.table_text.specs.Rows.{rows_text}
use Rattle.table_text.proofs.TextFacts.{rows_text-append}
use Rattle.lottery_file.specs.Written.{name_rows, share_rows, price_rows, place_rows, worth_rows, priced_rows, head_rows, piece_row, piece_rows, pieces_rows, end_row, give_row, lottery_text}

-- one more record
pub row_next : (rows : List Row) (i : ℕ) (row : Row) → i < length rows → get_or rows i [] ≡ row → rows_text (take i rows) ++ rows_text (row ∷ []) ≡ rows_text (take (i + 1) rows)
row_next rows i row lt is = sym (rows_text-append (take i rows) (row ∷ [])) ∙ ap rows_text (ap (λ (r : Row). take i rows ++ r ∷ []) (sym is) ∙ sym (take_more rows i [] lt))

-- a list up to a place, the item there, and those after it
drop_here : {X : Type 0} (xs : List X) (i : ℕ) (d : X) → i < length xs → take i xs ++ (get_or xs i d ∷ drop (i + 1) xs) ≡ xs
drop_here xs i d lt =
    let one : i + 1 ≡ suc i = omega arith in
    rw one (ap (λ ys. take i xs ++ ys) (sym (drop-cons xs i d lt)) ∙ take-append-drop i xs)

-- one more record, and those after it
pub row_stop : (rows : List Row) (i : ℕ) (row : Row) → i < length rows → get_or rows i [] ≡ row → (rows_text (take i rows) ++ rows_text (row ∷ [])) ++ rows_text (drop (i + 1) rows) ≡ rows_text rows
row_stop rows i row lt is =
    append_assoc (rows_text (take i rows)) (rows_text (row ∷ [])) (rows_text (drop (i + 1) rows))
    ∙ ap (λ (t : List ℕ). rows_text (take i rows) ++ t) (sym (rows_text-append (row ∷ []) (drop (i + 1) rows)))
    ∙ sym (rows_text-append (take i rows) (row ∷ drop (i + 1) rows))
    ∙ ap rows_text (ap (λ (r : Row). take i rows ++ (r ∷ drop (i + 1) rows)) (sym is) ∙ drop_here rows i [] lt)

pub share_count : (agents : List (List ℕ)) (columns : ℕ) (units : List ℕ) → length (share_rows agents columns units) ≡ length agents
share_count [] columns units = refl
share_count (a ∷ agents) columns units = ap suc (share_count agents columns (drop columns units))

-- the record of an agent
pub share_here : (agents : List (List ℕ)) (columns : ℕ) (units : List ℕ) (i : ℕ) → i < length agents
    → get_or (share_rows agents columns units) i [] ≡ codes "row" ∷ get_or agents i [] ∷ map decimal (take columns (drop (i * columns) units))
share_here [] columns units i lt = absurd (omega arith)
share_here (a ∷ agents) columns units zero lt = let none : 0 * columns ≡ 0 = omega arith in rw none refl
share_here (a ∷ agents) columns units (suc i) lt =
    let at : columns + i * columns ≡ suc i * columns = omega arith in
    share_here agents columns (drop columns units) i (omega arith)
    ∙ ap (λ (us : List ℕ). codes "row" ∷ get_or agents i [] ∷ map decimal (take columns us)) (drop-drop (i * columns) columns units ∙ ap (λ k. drop k units) at)

pub price_count : (n : ℕ) (prices : List ℕ) → length (price_rows n prices) ≡ length prices
price_count n [] = refl
price_count n (y ∷ prices) = ap suc (price_count (n + 1) prices)

-- the record of a price
pub price_here : (n : ℕ) (prices : List ℕ) (i d : ℕ) → i < length prices → get_or (price_rows n prices) i [] ≡ codes "price" ∷ decimal (i + n) ∷ decimal (get_or prices i d) ∷ []
price_here n [] i d lt = absurd (omega arith)
price_here n (y ∷ prices) zero d lt = let same : 0 + n ≡ n = omega arith in rw same refl
price_here n (y ∷ prices) (suc i) d lt = let same : i + (n + 1) ≡ suc i + n = omega arith in rw (← same) (price_here (n + 1) prices i d (omega arith))

pub place_count : (agent : List ℕ) (columns : List (List ℕ)) (list : List ℕ) (worths : List ℤ) → length worths ≡ length list → length (place_rows agent columns list worths) ≡ length list
place_count agent columns [] worths e = refl
place_count agent columns (a ∷ list) [] e = absurd (omega arith)
place_count agent columns (a ∷ list) (u ∷ worths) e = ap suc (place_count agent columns list worths (omega arith))

-- the record of a place
pub place_here : (agent : List ℕ) (columns : List (List ℕ)) (list : List ℕ) (worths : List ℤ) (i d : ℕ) (z : ℤ) → length worths ≡ length list → i < length list
    → get_or (place_rows agent columns list worths) i [] ≡ codes "worth" ∷ agent ∷ get_or columns (get_or list i d) [] ∷ signed_decimal (get_or worths i z) ∷ []
place_here agent columns [] worths i d z e lt = absurd (omega arith)
place_here agent columns (a ∷ list) [] i d z e lt = absurd (omega arith)
place_here agent columns (a ∷ list) (u ∷ worths) zero d z e lt = refl
place_here agent columns (a ∷ list) (u ∷ worths) (suc i) d z e lt = place_here agent columns list worths i d z (omega arith) (omega arith)

-- one more list of worths
worth_next : (agents columns : List (List ℕ)) (lists : List (List ℕ)) (worths : List (List ℤ)) (i : ℕ) → i < length agents → i < length lists → i < length worths
    → worth_rows (take i agents) columns (take i lists) (take i worths) ++ place_rows (get_or agents i []) columns (get_or lists i []) (get_or worths i [])
    ≡ worth_rows (take (suc i) agents) columns (take (suc i) lists) (take (suc i) worths)
worth_next [] columns lists worths i la ll lw = absurd (omega arith)
worth_next (a ∷ agents) columns [] worths i la ll lw = absurd (omega arith)
worth_next (a ∷ agents) columns (l ∷ lists) [] i la ll lw = absurd (omega arith)
worth_next (a ∷ agents) columns (l ∷ lists) (w ∷ worths) zero la ll lw = sym (append-nil (place_rows a columns l w))
worth_next (a ∷ agents) columns (l ∷ lists) (w ∷ worths) (suc i) la ll lw =
    append_assoc (place_rows a columns l w) (worth_rows (take i agents) columns (take i lists) (take i worths)) (place_rows (get_or agents i []) columns (get_or lists i []) (get_or worths i []))
    ∙ ap (λ (rs : List Row). place_rows a columns l w ++ rs) (worth_next agents columns lists worths i (omega arith) (omega arith) (omega arith))

-- the lists of worths so far, one more, and those after it
worth_split : (agents columns : List (List ℕ)) (lists : List (List ℕ)) (worths : List (List ℤ)) (i : ℕ) → i ≤ length agents → i ≤ length lists → i ≤ length worths
    → worth_rows (take i agents) columns (take i lists) (take i worths) ++ worth_rows (drop i agents) columns (drop i lists) (drop i worths) ≡ worth_rows agents columns lists worths
worth_split agents columns lists worths zero la ll lw = refl
worth_split [] columns lists worths (suc i) la ll lw = absurd (omega arith)
worth_split (a ∷ agents) columns [] worths (suc i) la ll lw = absurd (omega arith)
worth_split (a ∷ agents) columns (l ∷ lists) [] (suc i) la ll lw = absurd (omega arith)
worth_split (a ∷ agents) columns (l ∷ lists) (w ∷ worths) (suc i) la ll lw =
    append_assoc (place_rows a columns l w) (worth_rows (take i agents) columns (take i lists) (take i worths)) (worth_rows (drop i agents) columns (drop i lists) (drop i worths))
    ∙ ap (λ (rs : List Row). place_rows a columns l w ++ rs) (worth_split agents columns lists worths i (omega arith) (omega arith) (omega arith))

-- the worths of one more agent
pub worth_text_next : (agents columns : List (List ℕ)) (lists : List (List ℕ)) (worths : List (List ℤ)) (i : ℕ) → i < length agents → i < length lists → i < length worths
    → rows_text (worth_rows (take i agents) columns (take i lists) (take i worths)) ++ rows_text (place_rows (get_or agents i []) columns (get_or lists i []) (get_or worths i []))
    ≡ rows_text (worth_rows (take (i + 1) agents) columns (take (i + 1) lists) (take (i + 1) worths))
worth_text_next agents columns lists worths i la ll lw =
    let one : i + 1 ≡ suc i = omega arith in
    rw one (sym (rows_text-append (worth_rows (take i agents) columns (take i lists) (take i worths)) (place_rows (get_or agents i []) columns (get_or lists i []) (get_or worths i [])))
    ∙ ap rows_text (worth_next agents columns lists worths i la ll lw))

-- and of those after it
pub worth_text_stop : (agents columns : List (List ℕ)) (lists : List (List ℕ)) (worths : List (List ℤ)) (i : ℕ) → i < length agents → i < length lists → i < length worths
    → (rows_text (worth_rows (take i agents) columns (take i lists) (take i worths)) ++ rows_text (place_rows (get_or agents i []) columns (get_or lists i []) (get_or worths i [])))
    ++ rows_text (worth_rows (drop (i + 1) agents) columns (drop (i + 1) lists) (drop (i + 1) worths))
    ≡ rows_text (worth_rows agents columns lists worths)
worth_text_stop agents columns lists worths i la ll lw =
    ap (λ (t : List ℕ). t ++ rows_text (worth_rows (drop (i + 1) agents) columns (drop (i + 1) lists) (drop (i + 1) worths))) (worth_text_next agents columns lists worths i la ll lw)
    ∙ sym (rows_text-append (worth_rows (take (i + 1) agents) columns (take (i + 1) lists) (take (i + 1) worths)) (worth_rows (drop (i + 1) agents) columns (drop (i + 1) lists) (drop (i + 1) worths)))
    ∙ ap rows_text (worth_split agents columns lists worths (i + 1) (omega arith) (omega arith) (omega arith))

-- the pieces so far, and one more
pieces_more : (agents columns : List (List ℕ)) (n : ℕ) (ps : List PieceValue) (i : ℕ) (p : PieceValue) → i < length ps → get_or ps i p ≡ p
    → rows_text (pieces_rows agents columns n (take i ps)) ++ rows_text (piece_rows agents columns (i + n) p) ≡ rows_text (pieces_rows agents columns n (take (suc i) ps))
unfolding pieces_rows
pieces_more agents columns n [] i p lt is = absurd (omega arith)
pieces_more agents columns n (q ∷ ps) zero p lt is =
    let same : 0 + n ≡ n = omega arith in
    rw (same, ← is) (ap rows_text (sym (append-nil (piece_rows agents columns n q))))
pieces_more agents columns n (q ∷ ps) (suc i) p lt is =
    let same : suc i + n ≡ i + (n + 1) = omega arith in
    let first = piece_rows agents columns n q in
    let rest = pieces_rows agents columns (n + 1) (take i ps) in
    rw same (ap (λ (t : List ℕ). t ++ rows_text (piece_rows agents columns (i + (n + 1)) p)) (rows_text-append first rest)
    ∙ append_assoc (rows_text first) (rows_text rest) (rows_text (piece_rows agents columns (i + (n + 1)) p))
    ∙ ap (λ (t : List ℕ). rows_text first ++ t) (pieces_more agents columns (n + 1) ps i p (omega arith) is)
    ∙ sym (rows_text-append first (pieces_rows agents columns (n + 1) (take (suc i) ps))))

-- one more piece
pub pieces_next : (agents columns : List (List ℕ)) (n : ℕ) (ps : List PieceValue) (i : ℕ) (p : PieceValue) → i < length ps → get_or ps i p ≡ p
    → rows_text (pieces_rows agents columns n (take i ps)) ++ rows_text (piece_rows agents columns (i + n) p) ≡ rows_text (pieces_rows agents columns n (take (i + 1) ps))
pieces_next agents columns n ps i p lt is = let one : i + 1 ≡ suc i = omega arith in rw one (pieces_more agents columns n ps i p lt is)

-- pieces, and those after them
pub pieces_split : (agents columns : List (List ℕ)) (n : ℕ) (ps : List PieceValue) (i : ℕ) → i ≤ length ps
    → rows_text (pieces_rows agents columns n (take i ps)) ++ rows_text (pieces_rows agents columns (i + n) (drop i ps)) ≡ rows_text (pieces_rows agents columns n ps)
unfolding pieces_rows
pieces_split agents columns n ps zero lt = let same : 0 + n ≡ n = omega arith in rw same refl
pieces_split agents columns n [] (suc i) lt = absurd (omega arith)
pieces_split agents columns n (q ∷ ps) (suc i) lt =
    let same : suc i + n ≡ i + (n + 1) = omega arith in
    let first = piece_rows agents columns n q in
    let rest = pieces_rows agents columns (n + 1) (take i ps) in
    let after = pieces_rows agents columns (i + (n + 1)) (drop i ps) in
    rw same (ap (λ (t : List ℕ). t ++ rows_text after) (rows_text-append first rest)
    ∙ append_assoc (rows_text first) (rows_text rest) (rows_text after)
    ∙ ap (λ (t : List ℕ). rows_text first ++ t) (pieces_split agents columns (n + 1) ps i (omega arith))
    ∙ sym (rows_text-append first (pieces_rows agents columns (n + 1) ps)))

-- the entries of a row so far, and one more
pub entries_next : (a b : List ℕ) (units : List ℕ) (agents columns agent j n : ℕ) (row more : Row) → length units ≡ agents * columns → agent < agents → j < columns
    → n ≡ get_or units (agent * columns + j) 0 → row ≡ a ∷ b ∷ map decimal (take j (drop (agent * columns) units)) → more ≡ row ++ decimal n ∷ []
    → more ≡ a ∷ b ∷ map decimal (take (j + 1) (drop (agent * columns) units))
entries_next a b units agents columns agent j n row more shape la lj is so then =
    let from = agent * columns in
    let rest = drop from units in
    let inside : from + j < agents * columns = index_within agents columns agent j la lj in
    let within : j < length rest = omega (arith, length-drop from units, shape, inside) in
    let here : n ≡ get_or rest j 0 = is ∙ sym (get_or-drop from units j 0) in
    let entries : map decimal (take j rest) ++ decimal n ∷ [] ≡ map decimal (take (j + 1) rest) =
    ap (λ m. map decimal (take j rest) ++ decimal m ∷ []) here ∙ sym (map_push decimal (take j rest) (get_or rest j 0)) ∙ ap (map decimal) (sym (take_more rest j 0 within)) in
    then ∙ ap (λ (r : Row). r ++ decimal n ∷ []) so ∙ ap (λ (es : Row). a ∷ b ∷ es) entries

gives_step : (columns at n i d : ℕ) (ns : List ℕ) (b : Bool) → (n == 0) ≡ b
    → gives_along columns (suc at) (take (suc i) ns) ≡ gives_along columns (suc at) (take i ns) ++ gives_along columns (suc at + i) (get_or ns i d ∷ [])
    → gives_along columns at (n ∷ take (suc i) ns) ≡ gives_along columns at (n ∷ take i ns) ++ gives_along columns (suc at + i) (get_or ns i d ∷ [])
unfolding gives_along
gives_step columns at n i d ns true e h = rw e h
gives_step columns at n i d ns false e h = rw e (ap (λ (gs : List Give). (record { agent = at / columns; object = at % columns; count = n }) ∷ gs) h)

gives_more : (columns at : ℕ) (counts : List ℕ) (i d : ℕ) → i < length counts
    → gives_along columns at (take (suc i) counts) ≡ gives_along columns at (take i counts) ++ gives_along columns (at + i) (get_or counts i d ∷ [])
unfolding gives_along
gives_more columns at [] i d lt = absurd (omega arith)
gives_more columns at (n ∷ ns) zero d lt = let same : at + 0 ≡ at = omega arith in rw same refl
gives_more columns at (n ∷ ns) (suc i) d lt =
    let same : at + suc i ≡ suc at + i = omega arith in
    rw same (gives_step columns at n i d ns (n == 0) refl (gives_more columns (suc at) ns i d (omega arith)))

-- the text of the gives of counts so far, and of one more
pub gives_next : (agents columns : List (List ℕ)) (counts : List ℕ) (i d : ℕ) (t u v : List ℕ) → i < length counts
    → u ≡ t ++ rows_text (map (give_row agents columns) (gives_along (length columns) 0 (take i counts)))
    → v ≡ u ++ rows_text (map (give_row agents columns) (gives_along (length columns) i (get_or counts i d ∷ [])))
    → v ≡ t ++ rows_text (map (give_row agents columns) (gives_along (length columns) 0 (take (i + 1) counts)))
gives_next agents columns counts i d t u v lt so then =
    let one : i + 1 ≡ suc i = omega arith in
    let from : 0 + i ≡ i = omega arith in
    let row = give_row agents columns in
    let first = gives_along (length columns) 0 (take i counts) in
    let last = gives_along (length columns) i (get_or counts i d ∷ []) in
    let all : gives_along (length columns) 0 (take (i + 1) counts) ≡ first ++ last = rw one (gives_more (length columns) 0 counts i d lt ∙ ap (λ k. first ++ gives_along (length columns) k (get_or counts i d ∷ [])) from) in
    let text : rows_text (map row first) ++ rows_text (map row last) ≡ rows_text (map row (gives_along (length columns) 0 (take (i + 1) counts))) =
    sym (rows_text-append (map row first) (map row last)) ∙ ap rows_text (sym (map-append row first last) ∙ ap (map row) (sym all)) in
    then ∙ ap (λ (s : List ℕ). s ++ rows_text (map row last)) so ∙ append_assoc t (rows_text (map row first)) (rows_text (map row last)) ∙ ap (λ (s : List ℕ). t ++ s) text

-- the text of a record, and of those after it
row_first : (row : Row) (rows : List Row) → rows_text (row ∷ []) ++ rows_text rows ≡ rows_text (row ∷ rows)
row_first row rows = sym (rows_text-append (row ∷ []) rows)

-- the first records, one by one
pub name_text : (d : ℕ) (agents columns : List (List ℕ))
    → rows_text ((codes "lottery" ∷ codes "1" ∷ []) ∷ []) ++ (rows_text ((codes "denominator" ∷ decimal d ∷ []) ∷ []) ++ (rows_text ((codes "agents" ∷ agents) ∷ []) ++ rows_text ((codes "objects" ∷ columns) ∷ [])))
    ≡ rows_text (name_rows d agents columns)
unfolding name_rows
name_text d agents columns =
    let a : Row = codes "lottery" ∷ codes "1" ∷ [] in
    let b : Row = codes "denominator" ∷ decimal d ∷ [] in
    let c : Row = codes "agents" ∷ agents in
    let o : Row = codes "objects" ∷ columns in
    ap (λ (t : List ℕ). rows_text (a ∷ []) ++ (rows_text (b ∷ []) ++ t)) (row_first c (o ∷ []))
    ∙ ap (λ (t : List ℕ). rows_text (a ∷ []) ++ t) (row_first b (c ∷ o ∷ []))
    ∙ row_first a (b ∷ c ∷ o ∷ [])

-- prices, and then worths
pub priced_text : (agents columns : List (List ℕ)) (lists : List (List ℕ)) (y : PricesValue)
    → rows_text (price_rows 1 y.price) ++ rows_text (worth_rows agents columns lists y.worth) ≡ rows_text (priced_rows agents columns lists (Some y))
priced_text agents columns lists y = sym (rows_text-append (price_rows 1 y.price) (worth_rows agents columns lists y.worth))

-- the head: names, units, and prices with worths where there are some
pub head_text : (agents columns : List (List ℕ)) (d n : ℕ) (shares : ScaledValue) (lists : List (List ℕ)) (prices : Option PricesValue) → d ≡ shares.denominator → n ≡ length columns
    → rows_text (name_rows d agents columns) ++ (rows_text (share_rows agents n shares.units) ++ rows_text (priced_rows agents columns lists prices)) ≡ rows_text (head_rows agents columns shares lists prices)
unfolding head_rows
head_text agents columns d n shares lists prices e f =
    let names = name_rows shares.denominator agents columns in
    let units = share_rows agents (length columns) shares.units in
    let priced = priced_rows agents columns lists prices in
    rw (e, f) (ap (λ (t : List ℕ). rows_text names ++ t) (sym (rows_text-append units priced)) ∙ sym (rows_text-append names (units ++ priced)))

-- a piece and its gives
pub piece_text : (agents columns : List (List ℕ)) (n : ℕ) (p : PieceValue) → rows_text (piece_row n p.weight ∷ []) ++ rows_text (map (give_row agents columns) p.gives) ≡ rows_text (piece_rows agents columns n p)
unfolding piece_rows
piece_text agents columns n p = row_first (piece_row n p.weight) (map (give_row agents columns) p.gives)

-- a lottery in three parts
pub whole_text : (l : LotteryValue) (k : ℕ) → k ≡ length l.pieces
    → rows_text (head_rows l.agents l.columns l.shares l.lists l.prices) ++ (rows_text (pieces_rows l.agents l.columns 1 l.pieces) ++ rows_text ((codes "end" ∷ decimal k ∷ []) ∷ [])) ≡ lottery_text l
unfolding end_row
whole_text l k e =
    let head = head_rows l.agents l.columns l.shares l.lists l.prices in
    let pieces = pieces_rows l.agents l.columns 1 l.pieces in
    let last : List Row = end_row (length l.pieces) ∷ [] in
    rw e (ap (λ (t : List ℕ). rows_text head ++ t) (sym (rows_text-append pieces last)) ∙ sym (rows_text-append head (pieces ++ last)))

-- lists and worths that have a worth for each place
pub zip_at : (lists : List (List ℕ)) (worths : List (List ℤ)) (i : ℕ) → AllZip (λ list worth. length worth ≡ length list) lists worths → i < length lists → length (get_or worths i []) ≡ length (get_or lists i [])
zip_at [] worths i h lt = absurd (omega arith)
zip_at (l ∷ lists) [] i h lt = absurd h
zip_at (l ∷ lists) (w ∷ worths) zero h lt = h.0
zip_at (l ∷ lists) (w ∷ worths) (suc i) h lt = zip_at lists worths i h.1 (omega arith)

pub place_text_as : (columns : List (List ℕ)) (a b : List ℕ) (l m : List ℕ) (u v : List ℤ) → a ≡ b → l ≡ m → u ≡ v → rows_text (place_rows a columns l u) ≡ rows_text (place_rows b columns m v)
place_text_as columns a b l m u v e f g = rw (e, f, g) refl

pub worth_text_all : (agents columns : List (List ℕ)) (lists : List (List ℕ)) (worths : List (List ℤ)) (i : ℕ) → length agents ≤ i → length lists ≤ i → length worths ≤ i
    → rows_text (worth_rows (take i agents) columns (take i lists) (take i worths)) ≡ rows_text (worth_rows agents columns lists worths)
worth_text_all agents columns lists worths i la ll lw = rw (take_all i agents la, take_all i lists ll, take_all i worths lw) refl

-- prices behind a reference
pub prices_seen : (r : Option (Bor Prices)) → option_map (λ (y : Bor Prices). prices_value y.now) r ≡ option_map prices_value (option_copied r)
prices_seen None = refl
prices_seen (Some y) = refl
