-- What a record that passes its check keeps to.
use Rattle.std.proofs.Common.{◌≡◌, ◌+◌, ◌*◌, ◌^◌, ◌<◌, ◌≤◌, ◌||◌, ℕ, List, Option, Some, None, true, false, length, drop, sum, arith, eqb, ltb, inl, inr}
use Rattle.std.specs.Prelude.{is_some, is_none, nat_abs}
use Rattle.std.specs.List.{list_any}
use Rattle.std.specs.Str.{bytes_eq}
use Rattle.std.proofs.lemmas.Bool.{leb-true, leb-false, ltb-true, both_ways, eqb-true, not-true, and_parts, or_cases}
use Rattle.std.proofs.lemmas.Bool.Decides.{nat_tests}
use Rattle.definitions.specs.Texts.{Row, null_name, is_name, name_index, field, number, signed}
use Rattle.definitions.specs.Firsts.{first_among}
use Rattle.definitions.proofs.Passed.{passed}
use Rattle.lottery_file.specs.Said.{Before, agent_at, column_at}
use Rattle.lottery_file.specs.Checks.{weight_sum, follows_last, check_denominator, check_agents, check_agent_name, check_column_name, check_entry, check_entries, check_row, check_price, check_worth, check_worth_text, check_piece, check_give, check_end_record, check_kind, check_word, may_follow, is_due, is_priced}
use Rattle.lottery_file.proofs.SoundWords.{stage}
use Rattle.lottery_file.specs.declared.words.Word.{Word}
use Rattle.lottery_file.specs.declared.words.Word.TheVariants as word

pub denominator-passed : (row : Row) → check_denominator row ≡ None → (1 ≤ number (field row 1)) × (number (field row 1) ≤ 2 ^ 116)
unfolding check_denominator
denominator-passed row e = grind (arith, nat_tests)

pub agents-passed : (row : Row) → check_agents row ≡ None → (2 ≤ length row) × (first_among check_agent_name (drop 1 row) ≡ None)
unfolding check_agents
agents-passed row e =
    let p = passed _ _ _ e in
    (leb-true _ _ p.0, p.1)

pub agent-name-passed : (earlier : List (List ℕ)) (name : List ℕ) → check_agent_name earlier name ≡ None
    → (is_name name ≡ true) × (is_none (name_index earlier name) ≡ true) × (length earlier < 1000)
unfolding check_agent_name
agent-name-passed earlier name e =
    let p = passed _ _ _ e in
    let q = passed _ _ _ p.1 in
    let r = passed _ _ _ q.1 in
    (p.0, q.0, ltb-true _ _ r.0)

pub column-name-passed : (earlier : List (List ℕ)) (name : List ℕ) → check_column_name earlier name ≡ None
    → (is_name name ≡ true) × (is_none (name_index earlier name) ≡ true) × (is_none (name_index earlier null_name) ≡ true)
    × ((bytes_eq name null_name || ltb (length earlier) 200) ≡ true)
unfolding check_column_name
column-name-passed earlier name e =
    let p = passed _ _ _ e in
    let q = passed _ _ _ p.1 in
    let r = passed _ _ _ q.1 in
    let s = passed _ _ _ r.1 in
    (p.0, q.0, r.0, s.0)

pub entry-passed : (limit total : ℕ) (text : List ℕ) → check_entry limit total text ≡ None → total + number text ≤ limit
unfolding check_entry
entry-passed limit total text e = grind (arith, nat_tests)

pub row-passed : (b : Before) (row : Row) → check_row b row ≡ None
    → (length row ≡ 2 + length b.columns) × (check_entries (1000 * b.denominator) (sum b.units) (drop 2 row) ≡ None)
unfolding check_row
row-passed b row e =
    let p = passed _ _ _ e in
    let q = passed _ _ _ p.1 in
    let r = passed _ _ _ q.1 in
    (eqb-true _ _ p.0, r.1)

pub price-passed : (b : Before) (row : Row) → check_price b row ≡ None → (length b.prices + 1 ≤ 1000) × (number (field row 2) ≤ 2 ^ 40)
unfolding check_price
price-passed b row e = grind (arith, nat_tests)

pub worth-passed : (b : Before) (row : Row) → check_worth b row ≡ None
    → (is_some (name_index b.columns (field row 2)) ≡ true) × (list_any (λ j. eqb j (column_at b (field row 2))) b.open_list ≡ false)
    × (nat_abs (signed (field row 3)) ≤ 2 ^ 40)
unfolding check_worth check_worth_text
worth-passed b row e = (grind (arith, nat_tests), grind (arith, nat_tests), grind (arith, nat_tests))

pub piece-passed : (b : Before) (row : Row) → check_piece b row ≡ None
    → (1 ≤ number (field row 2)) × (weight_sum b.pieces + number (field row 2) ≤ b.denominator)
unfolding check_piece
piece-passed b row e = grind (arith, nat_tests)

pub give-passed : (b : Before) (row : Row) → check_give b row ≡ None
    → (is_some (name_index b.agents (field row 1)) ≡ true) × (is_some (name_index b.columns (field row 2)) ≡ true)
    × (follows_last (agent_at b (field row 1)) (column_at b (field row 2)) b.pieces ≡ true) × (1 ≤ number (field row 3)) × (number (field row 3) ≤ 1000)
unfolding check_give
give-passed b row e =
    let p1 = passed _ _ _ e in
    let p2 = passed _ _ _ p1.1 in
    let p3 = passed _ _ _ p2.1 in
    let p4 = passed _ _ _ p3.1 in
    let p5 = passed _ _ _ p4.1 in
    let p6 = passed _ _ _ p5.1 in
    let p7 = passed _ _ _ p6.1 in
    (p2.0, p3.0, p4.0, leb-true _ _ p6.0, leb-true _ _ p7.0)

pub end-passed : (b : Before) (row : Row) → check_end_record b row ≡ None → weight_sum b.pieces ≡ b.denominator
unfolding check_end_record
end-passed b row e = grind (arith, nat_tests)

pub follows-Lottery : (last : Option Word) → may_follow word.Lottery last ≡ true → stage last ≡ 0
unfolding may_follow
follows-Lottery last e = grind arith

pub follows-Denominator : (last : Option Word) → may_follow word.Denominator last ≡ true → stage last ≡ 1
unfolding may_follow
follows-Denominator last e = grind arith

pub follows-Agents : (last : Option Word) → may_follow word.Agents last ≡ true → stage last ≡ 2
unfolding may_follow
follows-Agents last e = grind arith

pub follows-Objects : (last : Option Word) → may_follow word.Objects last ≡ true → stage last ≡ 3
unfolding may_follow
follows-Objects last e = grind arith

pub follows-Row : (last : Option Word) → may_follow word.Row last ≡ true → 4 ≤ stage last
unfolding may_follow
follows-Row last e = grind arith

pub follows-Price : (last : Option Word) → may_follow word.Price last ≡ true → 5 ≤ stage last
unfolding may_follow
follows-Price last e = grind arith

pub follows-Worth : (last : Option Word) → may_follow word.Worth last ≡ true → 5 ≤ stage last
unfolding may_follow
follows-Worth last e = grind arith

pub follows-Piece : (last : Option Word) → may_follow word.Piece last ≡ true → 5 ≤ stage last
unfolding may_follow
follows-Piece last e = grind arith

pub follows-Give : (last : Option Word) → may_follow word.Give last ≡ true → stage last ≡ 8
unfolding may_follow
follows-Give last e = grind arith

pub follows-End : (last : Option Word) → may_follow word.End last ≡ true → stage last ≡ 8
unfolding may_follow
follows-End last e = grind arith

-- there is still room for a row
pub due-Row : (b : Before) → is_due word.Row b ≡ true → b.rows < length b.agents
unfolding is_due
due-Row b e = grind (arith, nat_tests)

pub due-Worth : (b : Before) → is_due word.Worth b ≡ true → (is_priced b ≡ true) × (length b.lists < length b.agents)
unfolding is_due
due-Worth b e = let p = and_parts _ _ e in let q = and_parts _ _ p.1 in (q.0, leb-false _ _ (not-true _ q.1))

pub due-Piece : (b : Before) → is_due word.Piece b ≡ true → (length b.agents ≤ b.rows) × (is_priced b ≡ true → length b.agents ≤ length b.lists)
unfolding is_due
due-Piece b e =
    let p = and_parts _ _ e in
    (leb-true _ _ p.0, λ y. elim (or_cases _ _ p.1) [ inl n ↦ absurd (both_ways (is_priced b) (not-true (is_priced b) n) y) | inr all ↦ leb-true _ _ all ])

-- a record with fields that passes has a kind, which may come next and is due, and passes the check of its kind
pub next-passed : (b : Before) (row : Row) (w : Word) → check_kind (Some w) b row ≡ None
    → (may_follow w b.last ≡ true) × (is_due w b ≡ true) × (check_word w b row ≡ None)
unfolding check_kind
next-passed b row w e = let p = passed _ _ _ e in let q = and_parts _ _ p.0 in (q.0, q.1, p.1)
