-- A record of each kind that is written, as it is checked.
use Rattle.std.proofs.Common.{◌≡◌, ◌≢◌, ◌+◌, ◌*◌, ◌<◌, ◌≤◌, ◌^◌, ◌∙◌, ◌++◌, ◌∷◌, ◌||◌, [], ℕ, List, Some, None, Bool, true, false, refl, sym, ap, subst, length, get_or, map, sum, eqb, append_assoc, arith}
use Rattle.std.specs.Prelude.{if◌then◌else◌, nat_lt, ℤ, codes, decimal, nat_abs, All, AllPairs, is_none}
use Rattle.std.specs.List.{list_all, list_any, position_or_len}
use Rattle.std.specs.Str.{is_utf8, bytes_eq}
use Rattle.std.proofs.Math.Seq.{get_or-append_seam}
use Rattle.std.proofs.lemmas.Bool.{le-leb, lt-ltb, le-ltb, eq-eqb, false_from_ne_true}
use Rattle.std.proofs.lemmas.List.{length-append, get_or_append_left, map_push}
use Rattle.std.proofs.lemmas.List.Sums.{position_or_len_is, sum_by_push, sum_by-cons}
use Rattle.std.proofs.lemmas.Option.{slice_get-get_or}
use Rattle.std.proofs.lemmas.Slice.Eq.{bytes_eq-Decides}
use Rattle.definitions.specs.Firsts.{fault_after, first_among}
use Rattle.definitions.specs.Texts.{Row, first_field, is_name, null_name, name_index, count_of, signed_of, number}
use Rattle.definitions.specs.Lotteries.{ends_with_none}
use Rattle.lottery_file.specs.Said.{Before, word_of, add_word, add}
use Rattle.lottery_file.specs.Checks.{check_next, check_word, check_lottery, check_denominator, check_agents, check_agent_name, check_column_name, check_entry, check_entries, check_row, check_price, check_worth, check_worth_text, check_piece, check_give, check_end_record, may_follow, is_due, weight_sum, follows_last}
use Rattle.lottery_file.specs.Lotteries.{AreLawfulNames, AreColumns}
use Rattle.lottery_file.specs.declared.words.Word.{Word}
use Rattle.lottery_file.specs.declared.words.Word.TheVariants as word
use Rattle.table_text.proofs.RoundTrips.{count_of-decimal}
use Rattle.lottery_file.proofs.RecordFacts.{known-check}
use Rattle.lottery_file.proofs.SaidWords.{name_of, word_of-name}
use Rattle.lottery_file.proofs.SoundNames.{ends-push}
use Rattle.lottery_file.proofs.FieldTexts.{word-text}
use Rattle.lottery_file.proofs.Passing.{Passes, passes-cons}

-- a record of a kind that may come, and those after it
pub kind-step : (w : Word) (b c d : Before) (fields : List (List ℕ)) (rs : List Row) → list_all is_utf8 fields ≡ true → may_follow w b.last ≡ true → is_due w b ≡ true
    → check_word w b (name_of w ∷ fields) ≡ None → record (add w (name_of w ∷ fields) b) { last = Some w } ≡ c → Passes c rs d → Passes b ((name_of w ∷ fields) ∷ rs) d
unfolding add_word
kind-step w b c d fields rs texts follows due e says h =
    let row : Row = name_of w ∷ fields in
    let text : true ≡ list_all is_utf8 row = rw (word-text w, texts) refl in
    let passes : check_next b row ≡ None = sym (known-check b row w (λ z. cc z) text (sym (word_of-name w)) follows due) ∙ e in
    let said : add_word (word_of (first_field row)) row b ≡ c = rw (word_of-name w) says in
    passes-cons b c d row rs passes said h

pub check-lottery : (b : Before) → check_word word.Lottery b (codes "lottery" ∷ codes "1" ∷ []) ≡ None
unfolding check_word check_lottery
check-lottery b = refl

pub check-denominator : (b : Before) (d : ℕ) → 1 ≤ d → d ≤ 2 ^ 116 → check_word word.Denominator b (codes "denominator" ∷ decimal d ∷ []) ≡ None
unfolding check_word check_denominator
check-denominator b d one small = rw (count_of-decimal d (omega arith), le-leb 1 d one, le-leb d (2 ^ 116) small) refl

pub check-names : (b : Before) (names : List (List ℕ)) → 1 ≤ length names → first_among check_agent_name names ≡ None → check_word word.Agents b (codes "agents" ∷ names) ≡ None
unfolding check_word check_agents
check-names b names some e = let many : 2 ≤ length (codes "agents" ∷ names) = omega arith in rw (le-leb 2 (length (codes "agents" ∷ names)) many) e

pub check-columns : (b : Before) (names : List (List ℕ)) → first_among check_column_name names ≡ None → check_word word.Objects b (codes "objects" ∷ names) ≡ None
unfolding check_word
check-columns b names e = e

pub check-row : (b : Before) (name : List ℕ) (entries : List (List ℕ)) → length entries ≡ length b.columns → name_index b.agents name ≡ Some b.rows
    → check_entries (1000 * b.denominator) (sum b.units) entries ≡ None → check_word word.Row b (codes "row" ∷ name ∷ entries) ≡ None
unfolding check_word check_row
check-row b name entries long at e =
    let many : length (codes "row" ∷ name ∷ entries) ≡ 2 + length b.columns = omega arith in
    rw (eq-eqb (length (codes "row" ∷ name ∷ entries)) (2 + length b.columns) many, at, eq-eqb b.rows b.rows refl) e

pub check-price : (b : Before) (k y : ℕ) → k ≡ length b.prices + 1 → k ≤ 1000 → y ≤ 2 ^ 40 → check_word word.Price b (codes "price" ∷ decimal k ∷ decimal y ∷ []) ≡ None
unfolding check_word check_price
check-price b k y at few small =
    rw (count_of-decimal k (omega arith), eq-eqb k (length b.prices + 1) at, le-leb k 1000 few, count_of-decimal y (omega arith), le-leb y (2 ^ 40) small) refl

pub check-worth : (b : Before) (agent column text : List ℕ) (a : ℕ) (z : ℤ) → name_index b.agents agent ≡ Some (length b.lists) → name_index b.columns column ≡ Some a
    → list_any (λ j. eqb j a) b.open_list ≡ false → signed_of text ≡ Some z → nat_abs z ≤ 2 ^ 40 → check_word word.Worth b (codes "worth" ∷ agent ∷ column ∷ text ∷ []) ≡ None
unfolding check_word check_worth check_worth_text
check-worth b agent column text a z at place new reads small =
    rw (at, eq-eqb (length b.lists) (length b.lists) refl, place, new, reads, le-leb (nat_abs z) (2 ^ 40) small) refl

pub check-piece : (b : Before) (k w : ℕ) → k ≡ length b.pieces + 1 → k < 2 ^ 128 → 1 ≤ w → w < 2 ^ 128 → weight_sum b.pieces + w ≤ b.denominator
    → check_word word.Piece b (codes "piece" ∷ decimal k ∷ decimal w ∷ []) ≡ None
unfolding check_word check_piece
check-piece b k w at small one short within =
    rw (count_of-decimal k small, eq-eqb k (length b.pieces + 1) at, count_of-decimal w short, le-leb 1 w one, le-leb (weight_sum b.pieces + w) b.denominator within) refl

pub check-give : (b : Before) (agent column : List ℕ) (i j n : ℕ) → name_index b.agents agent ≡ Some i → name_index b.columns column ≡ Some j → follows_last i j b.pieces ≡ true
    → 1 ≤ n → n ≤ 1000 → check_word word.Give b (codes "give" ∷ agent ∷ column ∷ decimal n ∷ []) ≡ None
unfolding check_word check_give
check-give b agent column i j n at place later one few = rw (at, place, later, count_of-decimal n (omega arith), le-leb 1 n one, le-leb n 1000 few) refl

pub check-end : (b : Before) (k : ℕ) → k ≡ length b.pieces → k < 2 ^ 128 → weight_sum b.pieces ≡ b.denominator → check_word word.End b (codes "end" ∷ decimal k ∷ []) ≡ None
unfolding check_word check_end_record
check-end b k at small whole = rw (count_of-decimal k small, eq-eqb k (length b.pieces) at, eq-eqb (weight_sum b.pieces) b.denominator whole) refl

-- a name that is none of these isn't found
index-none : (names : List (List ℕ)) (name : List ℕ) → ((k : ℕ) → k < length names → get_or names k [] ≢ name) → is_none (name_index names name) ≡ true
index-none names name other =
    let past : position_or_len (bytes_eq name) names ≡ length names =
    position_or_len_is (bytes_eq name) names (length names) [] (omega arith)
    (λ k lt. false_from_ne_true (bytes_eq name (get_or names k [])) (λ e. other k lt (sym ((bytes_eq-Decides name (get_or names k [])).0 e))))
    (λ lt. absurd (omega arith)) in
    rw (past, le-ltb (length names) (length names) (omega arith)) refl

-- a name that comes after others is new
name-new : (before : List (List ℕ)) (name : List ℕ) (rest : List (List ℕ)) → AllPairs (λ a b. a ≢ b) (before ++ name ∷ rest) → is_none (name_index before name) ≡ true
name-new before name rest apart =
    index-none before name (λ k lt e.
    apart k (length before) [] lt (omega (arith, length-append before (name ∷ rest)))
    (get_or_append_left before (name ∷ rest) [] k lt ∙ e ∙ sym (get_or-append_seam before name rest [])))

name-lawful : (before : List (List ℕ)) (name : List ℕ) (rest : List (List ℕ)) → All (λ name. is_name name ≡ true) (before ++ name ∷ rest) → is_name name ≡ true
name-lawful before name rest h =
    subst (λ (n : List ℕ). is_name n ≡ true) (get_or-append_seam before name rest []) (h (length before) [] (omega (arith, length-append before (name ∷ rest))))

agents-from : (before names : List (List ℕ)) → AreLawfulNames (before ++ names) → length (before ++ names) ≤ 1000 → fault_after check_agent_name (λ _. None) before names ≡ None
unfolding fault_after check_agent_name
agents-from before [] h few = refl
agents-from before (name ∷ names) h few =
    let next : (before ++ name ∷ []) ++ names ≡ before ++ name ∷ names = append_assoc before (name ∷ []) names in
    let room : length before < 1000 = omega (arith, length-append before (name ∷ names), few) in
    rw (name-lawful before name names h.lawful, name-new before name names h.distinct, lt-ltb (length before) 1000 room)
    (agents-from (before ++ name ∷ []) names (subst AreLawfulNames (sym next) h) (rw next few))

-- the names of agents pass
pub agents-pass : (names : List (List ℕ)) → AreLawfulNames names → length names ≤ 1000 → first_among check_agent_name names ≡ None
agents-pass names h few = rw (agents-from [] names h few) refl

-- `none` isn't before another column
null-new : (before : List (List ℕ)) (name : List ℕ) (rest : List (List ℕ)) → AreColumns (before ++ name ∷ rest) → is_none (name_index before null_name) ≡ true
null-new before name rest h =
    let many = length-append before (name ∷ rest) in
    index-none before null_name (λ k lt e.
    let last = h.null_last k (slice_get-get_or (before ++ name ∷ rest) k [] (omega (arith, many)) ∙ ap Some (get_or_append_left before (name ∷ rest) [] k lt ∙ e)) in
    absurd (omega (arith, many, last)))

room-for : (t : Bool) (n m : ℕ) → n ≤ (if t then 201 else 200) → m + 1 < n → m < 200
room-for true n m h lt = omega arith
room-for false n m h lt = omega arith

column-room : (before : List (List ℕ)) (name : List ℕ) (rest : List (List ℕ)) (t : Bool) → bytes_eq name null_name ≡ t → AreColumns (before ++ name ∷ rest)
    → (bytes_eq name null_name || nat_lt (length before) 200) ≡ true
column-room before name rest true e h = rw e refl
column-room before name [] false e h =
    let many = length-append before (name ∷ []) in
    let few : length (before ++ name ∷ []) ≤ 200 = rw (ends-push before name, e) at h.many in
    rw (e, lt-ltb (length before) 200 (omega (arith, many, few))) refl
column-room before name (next ∷ rest) false e h =
    let many = length-append before (name ∷ next ∷ rest) in
    rw (e, lt-ltb (length before) 200 (room-for (ends_with_none (before ++ name ∷ next ∷ rest)) (length (before ++ name ∷ next ∷ rest)) (length before) h.many (omega (arith, many)))) refl

columns-from : (before names : List (List ℕ)) → AreColumns (before ++ names) → fault_after check_column_name (λ _. None) before names ≡ None
unfolding fault_after check_column_name
columns-from before [] h = refl
columns-from before (name ∷ names) h =
    let next : (before ++ name ∷ []) ++ names ≡ before ++ name ∷ names = append_assoc before (name ∷ []) names in
    rw (name-lawful before name names h.names.lawful, name-new before name names h.names.distinct, null-new before name names h, column-room before name names (bytes_eq name null_name) refl h)
    (columns-from (before ++ name ∷ []) names (subst AreColumns (sym next) h))

-- the names of columns pass
pub columns-pass : (names : List (List ℕ)) → AreColumns names → first_among check_column_name names ≡ None
columns-pass names h = rw (columns-from [] names h) refl

entries-from : (limit total : ℕ) (before : List (List ℕ)) (ns : List ℕ) → total + sum (map number before) + sum ns ≤ limit → limit < 2 ^ 128
    → fault_after (λ earlier. check_entry limit (total + sum (map number earlier))) (λ _. None) before (map decimal ns) ≡ None
unfolding fault_after check_entry
entries-from limit total before [] h small = refl
entries-from limit total before (n ∷ ns) h small =
    let all : sum (n ∷ ns) ≡ n + sum ns = sum_by-cons (λ (x : ℕ). x) n ns in
    let reads : count_of (decimal n) ≡ Some n = count_of-decimal n (omega (arith, all, h)) in
    let so_far : sum (map number (before ++ decimal n ∷ [])) ≡ sum (map number before) + number (decimal n) = ap sum (map_push number before (decimal n)) ∙ sum_by_push (λ (x : ℕ). x) (map number before) (number (decimal n)) in
    let value : number (decimal n) ≡ n = rw reads refl in
    rw (reads, le-leb n limit (omega (arith, all, h)), le-leb (total + sum (map number before) + n) limit (omega (arith, all, h)))
    (entries-from limit total (before ++ decimal n ∷ []) ns (omega (arith, all, h, so_far, value)) small)

-- the entries of a row pass
pub entries-pass : (limit total : ℕ) (ns : List ℕ) → total + sum ns ≤ limit → limit < 2 ^ 128 → check_entries limit total (map decimal ns) ≡ None
unfolding check_entries
entries-pass limit total ns h small = rw (entries-from limit total [] ns (omega arith) small) refl
