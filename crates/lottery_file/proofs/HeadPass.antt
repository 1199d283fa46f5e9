-- The records before the first piece, as they are read back.
use Rattle.std.proofs.Common.{◌≡◌, ◌+◌, ◌*◌, ◌<◌, ◌≤◌, ◌^◌, ◌∙◌, ◌++◌, ◌∷◌, [], ℕ, suc, List, Option, Some, true, refl, sym, ap, subst, length, get_or, map, take, drop, sum, append_assoc, append-nil, arith}
use Rattle.std.specs.Prelude.{codes, decimal, All}
use Rattle.std.specs.List.{list_all}
use Rattle.std.specs.Str.{is_utf8}
use Rattle.std.proofs.Math.Seq.{get_or-append_seam}
use Rattle.std.proofs.lemmas.Bool.{le-leb, lt-leb}
use Rattle.std.proofs.lemmas.List.{length-append, length-take, length-drop, length-map, take-append-drop}
use Rattle.std.proofs.lemmas.List.Elements.{All-nil, All-cons, All-head, All-tail}
use Rattle.std.proofs.lemmas.List.Sums.{sum_by-append, sum_by-cons}
use Rattle.definitions.specs.Texts.{is_name, name_index, number}
use Rattle.table_text.proofs.KnownNames.{index-at}
use Rattle.lottery_file.specs.Said.{Before, nothing, add}
use Rattle.lottery_file.specs.Checks.{is_priced, may_follow, is_due}
use Rattle.lottery_file.specs.Lotteries.{AreLawfulNames, AreColumns}
use Rattle.lottery_file.specs.Written.{name_rows, share_rows, price_rows}
use Rattle.lottery_file.specs.declared.words.Word.{Word}
use Rattle.lottery_file.specs.declared.words.Word.TheVariants as word
use Rattle.table_text.proofs.RoundTrips.{count_of-decimal}
use Rattle.lottery_file.proofs.FieldTexts.{one-text, decimal-text, decimals-text, decimals-read, names-text, name-text}
use Rattle.lottery_file.proofs.Passing.{Passes, passes-none, passes-as}
use Rattle.lottery_file.proofs.KindsPass.{kind-step, check-lottery, check-denominator, check-names, check-columns, check-row, check-price, agents-pass, columns-pass, entries-pass}

-- the version, the denominator and the names
pub names-pass : (d : ℕ) (agents columns : List (List ℕ)) → 1 ≤ d → d ≤ 2 ^ 116 → AreLawfulNames agents → 1 ≤ length agents → length agents ≤ 1000 → AreColumns columns
    → Passes nothing (name_rows d agents columns) (record nothing { last = Some word.Objects; denominator = d; agents = agents; columns = columns })
unfolding add may_follow is_due name_rows
names-pass d agents columns one small lawful some few over =
    let b1 : Before = record nothing { last = Some word.Lottery } in
    let b2 : Before = record nothing { last = Some word.Denominator; denominator = d } in
    let b3 : Before = record nothing { last = Some word.Agents; denominator = d; agents = agents } in
    let b4 : Before = record nothing { last = Some word.Objects; denominator = d; agents = agents; columns = columns } in
    let reads : number (decimal d) ≡ d = rw (count_of-decimal d (omega arith)) refl in
    kind-step word.Lottery nothing b1 b4 (codes "1" ∷ []) _ (rw one-text refl) refl refl (check-lottery nothing) refl
    (kind-step word.Denominator b1 b2 b4 (decimal d ∷ []) _ (rw (decimal-text d (omega arith)) refl) refl refl (check-denominator b1 d one small) (rw reads refl)
    (kind-step word.Agents b2 b3 b4 agents _ (names-text agents lawful.lawful) refl refl (check-names b2 agents some (agents-pass agents lawful few)) refl
    (kind-step word.Objects b3 b4 b4 columns _ (names-text columns over.names.lawful) refl refl (check-columns b3 columns (columns-pass columns over)) refl
    (passes-none b4))))

-- the kind of the last record, after records of a kind, one for each item
abbrev pub after_all : {X : Type 0} → Word → List X → Option Word → Option Word
after_all w [] last = last
after_all w (x ∷ xs) last = Some w

pub after-some : {X : Type 0} (w : Word) (xs : List X) → after_all w xs (Some w) ≡ Some w
after-some w [] = refl
after-some w (x ∷ xs) = refl

-- a name that comes after others is found behind them
pub index-here : (names before : List (List ℕ)) (name : List ℕ) (rest : List (List ℕ)) → names ≡ before ++ name ∷ rest → AreLawfulNames names → name_index names name ≡ Some (length before)
index-here names before name rest e h =
    let at : get_or names (length before) [] ≡ name = ap (λ (ns : List (List ℕ)). get_or ns (length before) []) e ∙ get_or-append_seam before name rest [] in
    let within : length before < length names = omega (arith, ap length e, length-append before (name ∷ rest)) in
    ap (name_index names) (sym at) ∙ index-at names (length before) h.distinct within

-- the name of an agent is text
pub agent-text : (names before : List (List ℕ)) (name : List ℕ) (rest : List (List ℕ)) → names ≡ before ++ name ∷ rest → AreLawfulNames names → is_utf8 name ≡ true
agent-text names before name rest e h =
    let at : get_or names (length before) [] ≡ name = ap (λ (ns : List (List ℕ)). get_or ns (length before) []) e ∙ get_or-append_seam before name rest [] in
    let within : length before < length names = omega (arith, ap length e, length-append before (name ∷ rest)) in
    name-text name (subst (λ (n : List ℕ). is_name n ≡ true) at (h.lawful (length before) [] within))

-- whether a row may still come
row-due : (b : Before) → b.rows < length b.agents → is_due word.Row b ≡ true
unfolding is_due
row-due b lt = rw (lt-leb (length b.agents) b.rows lt) refl

-- numbers that together are small are small
pub all-small : (ns : List ℕ) (limit : ℕ) → sum ns ≤ limit → limit < 2 ^ 128 → All (λ n. n < 2 ^ 128) ns
all-small [] limit h small = All-nil (λ (n : ℕ). n < 2 ^ 128)
all-small (n ∷ ns) limit h small =
    let all : sum (n ∷ ns) ≡ n + sum ns = sum_by-cons (λ (x : ℕ). x) n ns in
    All-cons (λ (n : ℕ). n < 2 ^ 128) n ns (omega (arith, all)) (all-small ns limit (omega (arith, all)) small)

pub rows-as : (b : Before) (r s : ℕ) (u v : List ℕ) (l m : Option Word) → r ≡ s → u ≡ v → l ≡ m → record b { rows = r; units = u; last = l } ≡ record b { rows = s; units = v; last = m }
rows-as b r s u v l m e f g = rw (e, f, g) refl

-- the units of the agents that come after those before
pub shares-pass : (agents before : List (List ℕ)) (units : List ℕ) (b : Before) → b.agents ≡ before ++ agents → AreLawfulNames b.agents → b.rows ≡ length before
    → length units ≡ length agents * length b.columns → sum b.units + sum units ≤ 1000 * b.denominator → b.denominator ≤ 2 ^ 116 → may_follow word.Row b.last ≡ true
    → Passes b (share_rows agents (length b.columns) units) (record b { rows = b.rows + length agents; units = b.units ++ units; last = after_all word.Row agents b.last })
unfolding add may_follow
shares-pass [] before [] b e lawful at shape total small follows =
    let none : b.rows + 0 ≡ b.rows = omega arith in
    passes-as b b _ [] (sym (rows-as b (b.rows + 0) b.rows (b.units ++ []) b.units b.last b.last none (append-nil b.units) refl)) (passes-none b)
shares-pass [] before (n ∷ units) b e lawful at shape total small follows = absurd (omega arith)
shares-pass (agent ∷ agents) before units b e lawful at shape total small follows =
    let w = length b.columns in
    let row = take w units in
    let rest = drop w units in
    let wide : length (agent ∷ agents) * w ≡ w + length agents * w = omega arith in
    let row_long : length row ≡ w = omega (arith, length-take w units, shape, wide) in
    let rest_long : length rest ≡ length agents * w = omega (arith, length-drop w units, shape, wide) in
    let parts : sum units ≡ sum row + sum rest = ap sum (sym (take-append-drop w units)) ∙ sum_by-append (λ (x : ℕ). x) row rest in
    let reads : map number (map decimal row) ≡ row = decimals-read row (all-small row (1000 * b.denominator) (omega (arith, parts, total)) (omega (arith, small))) in
    let c : Before = record b { rows = b.rows + 1; units = b.units ++ row; last = Some word.Row } in
    let sum_c : sum c.units ≡ sum b.units + sum row = sum_by-append (λ (x : ℕ). x) b.units row in
    let index : name_index b.agents agent ≡ Some b.rows = index-here b.agents before agent agents e lawful ∙ ap Some (sym at) in
    let room : b.rows < length b.agents = omega (arith, at, ap length e, length-append before (agent ∷ agents)) in
    let text : is_utf8 agent ≡ true = agent-text b.agents before agent agents e lawful in
    let texts : list_all is_utf8 (agent ∷ map decimal row) ≡ true = rw (text, decimals-text row (all-small row (1000 * b.denominator) (omega (arith, parts, total)) (omega (arith, small)))) refl in
    let entries_long : length (map decimal row) ≡ w = length-map row decimal ∙ row_long in
    let passed = check-row b agent (map decimal row) entries_long index (entries-pass (1000 * b.denominator) (sum b.units) row (omega (arith, parts, total)) (omega (arith, small))) in
    let push : (before ++ agent ∷ []) ++ agents ≡ before ++ agent ∷ agents = append_assoc before (agent ∷ []) agents in
    let further = shares-pass agents (before ++ agent ∷ []) rest c (e ∙ sym push) lawful (omega (arith, at, length-append before (agent ∷ []))) rest_long (omega (arith, sum_c, parts, total)) small refl in
    let count : b.rows + 1 + length agents ≡ b.rows + suc (length agents) = omega arith in
    let whole : (b.units ++ row) ++ rest ≡ b.units ++ units = append_assoc b.units row rest ∙ ap (λ (us : List ℕ). b.units ++ us) (take-append-drop w units) in
    passes-as b _ _ _ (rows-as b (b.rows + 1 + length agents) (b.rows + suc (length agents)) ((b.units ++ row) ++ rest) (b.units ++ units) (after_all word.Row agents (Some word.Row)) (Some word.Row) count whole (after-some word.Row agents))
    (kind-step word.Row b c _ (agent ∷ map decimal row) _ texts follows (row-due b room) passed (rw reads refl) further)

-- prices come with all rows, where the last column is `none`
pub record IsPriceable (b : Before) : Type 0 where
  pub rows : length b.agents ≤ b.rows
  pub priced : is_priced b ≡ true

price-due : (b : Before) → IsPriceable b → is_due word.Price b ≡ true
unfolding is_due
price-due b h = rw (le-leb (length b.agents) b.rows h.rows, h.priced) refl

prices-as : (b : Before) (u v : List ℕ) (l m : Option Word) → u ≡ v → l ≡ m → record b { prices = u; last = l } ≡ record b { prices = v; last = m }
prices-as b u v l m f g = rw (f, g) refl

-- the prices from this number on
pub prices-pass : (prices : List ℕ) (n : ℕ) (b : Before) → n ≡ length b.prices + 1 → length b.prices + length prices ≤ 1000 → All (λ y. y ≤ 2 ^ 40) prices → IsPriceable b
    → may_follow word.Price b.last ≡ true → Passes b (price_rows n prices) (record b { prices = b.prices ++ prices; last = after_all word.Price prices b.last })
unfolding add may_follow
prices-pass [] n b at few small h follows = passes-as b b _ [] (sym (prices-as b (b.prices ++ []) b.prices b.last b.last (append-nil b.prices) refl)) (passes-none b)
prices-pass (y ∷ prices) n b at few small h follows =
    let within : y ≤ 2 ^ 40 = All-head (λ (y : ℕ). y ≤ 2 ^ 40) y prices small in
    let c : Before = record b { prices = b.prices ++ y ∷ []; last = Some word.Price } in
    let more = length-append b.prices (y ∷ []) in
    let reads : number (decimal y) ≡ y = rw (count_of-decimal y (omega arith)) refl in
    let further = prices-pass prices (n + 1) c (omega (arith, at, more)) (omega (arith, few, more)) (All-tail (λ (y : ℕ). y ≤ 2 ^ 40) y prices small) (record { rows = h.rows; priced = h.priced }) refl in
    let text : list_all is_utf8 (decimal n ∷ decimal y ∷ []) ≡ true = rw (decimal-text n (omega (arith, at, few)), decimal-text y (omega arith)) refl in
    passes-as b _ _ _ (prices-as b ((b.prices ++ y ∷ []) ++ prices) (b.prices ++ y ∷ prices) (after_all word.Price prices (Some word.Price)) (Some word.Price) (append_assoc b.prices (y ∷ []) prices) (after-some word.Price prices))
    (kind-step word.Price b c _ (decimal n ∷ decimal y ∷ []) _ text follows (price-due b h) (check-price b n y at (omega (arith, at, few)) within) (rw reads refl) further)
