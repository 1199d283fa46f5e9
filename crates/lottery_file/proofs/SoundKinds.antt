-- A record of each kind that passes its check keeps what is lawful so far.
use Rattle.std.proofs.Common.{◌≡◌, ◌+◌, ◌^◌, ◌<◌, ◌≤◌, ◌∙◌, ◌++◌, ◌∷◌, [], ℕ, List, Option, Some, None, Bool, true, false, refl, ap, length, drop, eqb, arith, inl, inr}
use Rattle.std.specs.Prelude.{ℤ, nat_abs}
use Rattle.std.specs.List.{list_any, AllZip}
use Rattle.std.specs.Str.{bytes_eq}
use Rattle.std.proofs.lemmas.Bool.{both_ways, cases_Bool}
use Rattle.std.proofs.lemmas.List.{length_push, length-drop}
use Rattle.std.proofs.lemmas.List.Elements.{All-nil, All-push}
use Rattle.std.proofs.lemmas.Option.{slice_get-get_or}
use Rattle.std.proofs.lemmas.Slice.Eq.{bytes_eq-Decides}
use Rattle.definitions.specs.Texts.{Row, null_name, field, number, signed}
use Rattle.definitions.specs.Values.{PieceValue}
use Rattle.definitions.specs.declared.Give.{Give}
use Rattle.definitions.specs.Firsts.{first_among}
use Rattle.table_text.proofs.KnownNames.{name-known}
use Rattle.lottery_file.specs.Said.{Before, add, with_place, agent_at, column_at}
use Rattle.lottery_file.specs.Checks.{is_priced, may_follow, is_due, check_word, check_denominator, check_agents, check_column_name, check_row, check_price, check_worth, check_piece, check_give, check_end_record}
use Rattle.lottery_file.specs.Lotteries.{IsRanking}
use Rattle.lottery_file.proofs.SoundWords.{IsSound, IsSoundHead, IsSoundBody, IsBlank, stage}
use Rattle.lottery_file.specs.declared.words.Word.{Word}
use Rattle.lottery_file.specs.declared.words.Word.TheVariants as word
use Rattle.lottery_file.proofs.SoundChecks.{denominator-passed, agents-passed, price-passed, worth-passed, piece-passed, give-passed, end-passed, follows-Lottery, follows-Denominator, follows-Agents, follows-Objects, follows-Row, follows-Price, follows-Worth, follows-Piece, follows-Give, follows-End, due-Row, due-Worth, due-Piece}
use Rattle.lottery_file.proofs.SoundNames.{agents-lawful, columns-lawful}
use Rattle.lottery_file.proofs.SoundRows.{row-sound}
use Rattle.lottery_file.proofs.SoundPlaces.{no-places, place-push, place-closes}
use Rattle.lottery_file.proofs.SoundPieces.{no-pieces, piece-push, give-sound, count-last}

-- what no row, price, list or piece says is lawful
pub body-blank : (b : Before) → stage b.last ≤ 4 → IsBlank b → IsSoundBody b
body-blank b s k = record {
  blank = λ _. k;
  units = rw (k.units, k.rows) (record { shape = omega arith; total = omega arith });
  rows = rw k.rows (omega arith);
  prices = rw k.prices (record { many = omega arith; small = All-nil (λ y. y ≤ 2 ^ 40) });
  lists = rw (k.lists, k.worths) tt;
  lists_many = rw k.lists (omega arith);
  unpriced = λ _. k.lists;
  open_list = rw (k.open_list, k.open_worths) (no-places (length b.columns));
  shut_unpriced = λ _. (k.open_list, k.open_worths);
  shut_all = λ _. (k.open_list, k.open_worths);
  pieces = rw k.pieces (no-pieces b.denominator (length b.agents) (length b.columns));
  filled = λ t. absurd (omega arith);
  whole = λ t. absurd (omega arith);
}

-- a record of the head, after which nothing was read that cites names
sound-blank : (b : Before) (last : Option Word) (d : ℕ) (agents columns : List (List ℕ)) → IsBlank b → stage last ≤ 4
    → IsSoundHead (record b { last = last; denominator = d; agents = agents; columns = columns }) → IsSound (record b { last = last; denominator = d; agents = agents; columns = columns })
sound-blank b last d agents columns k s h = record {
  head = h;
  body = body-blank (record b { last = last; denominator = d; agents = agents; columns = columns }) s
      (record { rows = k.rows; units = k.units; prices = k.prices; lists = k.lists; open_list = k.open_list; worths = k.worths; open_worths = k.open_worths; pieces = k.pieces });
}

sound-Lottery : (b : Before) (row : Row) → may_follow word.Lottery b.last ≡ true → IsSound b → IsSound (record (add word.Lottery row b) { last = Some word.Lottery })
unfolding add
sound-Lottery b row f h =
    let s : stage b.last ≡ 0 = follows-Lottery b.last f in
    sound-blank b (Some word.Lottery) b.denominator b.agents b.columns (h.body.blank (omega arith)) (omega arith)
    (record { denominator = h.head.denominator; positive = λ t. absurd (omega arith); agents = h.head.agents; agents_many = h.head.agents_many; agents_some = λ t. absurd (omega arith); columns = h.head.columns })

sound-Denominator : (b : Before) (row : Row) → may_follow word.Denominator b.last ≡ true → check_denominator row ≡ None → IsSound b
    → IsSound (record (add word.Denominator row b) { last = Some word.Denominator })
unfolding add
sound-Denominator b row f e h =
    let s : stage b.last ≡ 1 = follows-Denominator b.last f in
    let p = denominator-passed row e in
    sound-blank b (Some word.Denominator) (number (field row 1)) b.agents b.columns (h.body.blank (omega arith)) (omega arith)
    (record { denominator = p.1; positive = λ t. p.0; agents = h.head.agents; agents_many = h.head.agents_many; agents_some = λ t. absurd (omega arith); columns = h.head.columns })

sound-Agents : (b : Before) (row : Row) → may_follow word.Agents b.last ≡ true → check_agents row ≡ None → IsSound b → IsSound (record (add word.Agents row b) { last = Some word.Agents })
unfolding add
sound-Agents b row f e h =
    let s : stage b.last ≡ 2 = follows-Agents b.last f in
    let p = agents-passed row e in
    let names = agents-lawful (drop 1 row) p.1 in
    sound-blank b (Some word.Agents) b.denominator (drop 1 row) b.columns (h.body.blank (omega arith)) (omega arith)
    (record { denominator = h.head.denominator; positive = λ t. h.head.positive (omega arith); agents = names.0; agents_many = names.1; agents_some = λ t. omega (arith, length-drop 1 row, p.0); columns = h.head.columns })

sound-Objects : (b : Before) (row : Row) → may_follow word.Objects b.last ≡ true → first_among check_column_name (drop 1 row) ≡ None → IsSound b
    → IsSound (record (add word.Objects row b) { last = Some word.Objects })
unfolding add
sound-Objects b row f e h =
    let s : stage b.last ≡ 3 = follows-Objects b.last f in
    sound-blank b (Some word.Objects) b.denominator b.agents (drop 1 row) (h.body.blank (omega arith)) (omega arith)
    (record { denominator = h.head.denominator; positive = λ t. h.head.positive (omega arith); agents = h.head.agents; agents_many = h.head.agents_many; agents_some = λ t. h.head.agents_some (omega arith); columns = columns-lawful (drop 1 row) e })

-- the head stays, past its records
head-past : (b c : Before) → 4 ≤ stage b.last → c.denominator ≡ b.denominator → c.agents ≡ b.agents → c.columns ≡ b.columns → IsSoundHead b → IsSoundHead c
head-past b c s d a n h = record {
  denominator = rw d h.denominator;
  positive = λ _. rw d (h.positive (omega arith));
  agents = rw a h.agents;
  agents_many = rw a h.agents_many;
  agents_some = λ _. rw a (h.agents_some (omega arith));
  columns = rw n h.columns;
}

sound-Row : (b : Before) (row : Row) → may_follow word.Row b.last ≡ true → is_due word.Row b ≡ true → check_row b row ≡ None → IsSound b
    → IsSound (record (add word.Row row b) { last = Some word.Row })
unfolding add
sound-Row b row f due e h =
    let s : 4 ≤ stage b.last = follows-Row b.last f in
    let k = h.body in
    record {
      head = head-past b (record (add word.Row row b) { last = Some word.Row }) s refl refl refl h.head;
      body = record {
        blank = λ t. absurd (omega arith);
        units = row-sound b row e k.units;
        rows = omega (arith, due-Row b due);
        prices = k.prices;
        lists = k.lists;
        lists_many = k.lists_many;
        unpriced = k.unpriced;
        open_list = k.open_list;
        shut_unpriced = k.shut_unpriced;
        shut_all = k.shut_all;
        pieces = k.pieces;
        filled = λ t. absurd (omega arith);
        whole = λ t. absurd (omega arith);
      };
    }

sound-Price : (b : Before) (row : Row) → may_follow word.Price b.last ≡ true → check_price b row ≡ None → IsSound b → IsSound (record (add word.Price row b) { last = Some word.Price })
unfolding add
sound-Price b row f e h =
    let s : 5 ≤ stage b.last = follows-Price b.last f in
    let k = h.body in
    let p = price-passed b row e in
    record {
      head = head-past b (record (add word.Price row b) { last = Some word.Price }) (omega arith) refl refl refl h.head;
      body = record {
        blank = λ t. absurd (omega arith);
        units = k.units;
        rows = k.rows;
        prices = record { many = omega (arith, length_push b.prices (number (field row 2)), p.0); small = All-push (λ y. y ≤ 2 ^ 40) b.prices (number (field row 2)) k.prices.small p.1 };
        lists = k.lists;
        lists_many = k.lists_many;
        unpriced = k.unpriced;
        open_list = k.open_list;
        shut_unpriced = k.shut_unpriced;
        shut_all = k.shut_all;
        pieces = k.pieces;
        filled = λ t. absurd (omega arith);
        whole = λ t. absurd (omega arith);
      };
    }

zip-push : {A B : Type 0} (R : A → B → Type 0) (xs : List A) (ys : List B) (x : A) (y : B) → AllZip R xs ys → R x y → AllZip R (xs ++ x ∷ []) (ys ++ y ∷ [])
zip-push R [] [] x y h r = (r, tt)
zip-push R [] (b ∷ ys) x y h r = absurd h
zip-push R (a ∷ xs) [] x y h r = absurd h
zip-push R (a ∷ xs) (b ∷ ys) x y h r = (h.0, zip-push R xs ys x y h.1 r)

-- a place of a list that stays open, or that `none` closes
sound-place : (t : Bool) (a : ℕ) (z : ℤ) (b : Before) → 4 ≤ stage b.last → (t ≡ true → a + 1 ≡ length b.columns) → a < length b.columns → list_any (λ j. eqb j a) b.open_list ≡ false
    → nat_abs z ≤ 2 ^ 40 → is_priced b ≡ true → length b.lists < length b.agents → IsSound b → IsSound (record (with_place t a z b) { last = Some word.Worth })
unfolding with_place
sound-place true a z b s last lt new small priced room h =
    let k = h.body in
    let listing = place-push (length b.columns) b.open_list b.open_worths a z lt new small k.open_list in
    record {
      head = head-past b (record (with_place true a z b) { last = Some word.Worth }) s refl refl refl h.head;
      body = record {
        blank = λ t. absurd (omega arith);
        units = k.units;
        rows = k.rows;
        prices = k.prices;
        lists = zip-push (IsRanking (length b.columns)) b.lists b.worths (b.open_list ++ a ∷ []) (b.open_worths ++ z ∷ []) k.lists (place-closes (length b.columns) b.open_list (b.open_worths ++ z ∷ []) a (last refl) listing);
        lists_many = omega (arith, length_push b.lists (b.open_list ++ a ∷ []));
        unpriced = λ e. absurd (both_ways (is_priced b) e priced);
        open_list = no-places (length b.columns);
        shut_unpriced = λ _. (refl, refl);
        shut_all = λ _. (refl, refl);
        pieces = k.pieces;
        filled = λ t. absurd (omega arith);
        whole = λ t. absurd (omega arith);
      };
    }
sound-place false a z b s last lt new small priced room h =
    let k = h.body in
    record {
      head = head-past b (record (with_place false a z b) { last = Some word.Worth }) s refl refl refl h.head;
      body = record {
        blank = λ t. absurd (omega arith);
        units = k.units;
        rows = k.rows;
        prices = k.prices;
        lists = k.lists;
        lists_many = k.lists_many;
        unpriced = k.unpriced;
        open_list = place-push (length b.columns) b.open_list b.open_worths a z lt new small k.open_list;
        shut_unpriced = λ e. absurd (both_ways (is_priced b) e priced);
        shut_all = λ all. absurd (omega arith);
        pieces = k.pieces;
        filled = λ t. absurd (omega arith);
        whole = λ t. absurd (omega arith);
      };
    }

sound-Worth : (b : Before) (row : Row) → may_follow word.Worth b.last ≡ true → is_due word.Worth b ≡ true → check_worth b row ≡ None → IsSound b
    → IsSound (record (add word.Worth row b) { last = Some word.Worth })
unfolding add
sound-Worth b row f due e h =
    let s : 5 ≤ stage b.last = follows-Worth b.last f in
    let d = due-Worth b due in
    let p = worth-passed b row e in
    let name = field row 2 in
    let (c, at, lt, same) = name-known b.columns name p.0 in
    let is : column_at b name ≡ c = rw at refl in
    let last : bytes_eq name null_name ≡ true → c + 1 ≡ length b.columns =
    λ t. h.head.columns.null_last c (slice_get-get_or b.columns c [] lt ∙ ap Some (same [] ∙ (bytes_eq-Decides name null_name).0 t)) in
    sound-place (bytes_eq name null_name) (column_at b name) (signed (field row 3)) b (omega arith) (rw is last) (rw is lt) p.1 p.2 d.0 d.1 h

sound-Piece : (b : Before) (row : Row) → may_follow word.Piece b.last ≡ true → is_due word.Piece b ≡ true → check_piece b row ≡ None → IsSound b
    → IsSound (record (add word.Piece row b) { last = Some word.Piece })
unfolding add
sound-Piece b row f due e h =
    let s : 5 ≤ stage b.last = follows-Piece b.last f in
    let k = h.body in
    let d = due-Piece b due in
    let p = piece-passed b row e in
    let piece : PieceValue = record { weight = number (field row 2); gives = [] } in
    record {
      head = head-past b (record (add word.Piece row b) { last = Some word.Piece }) (omega arith) refl refl refl h.head;
      body = record {
        blank = λ t. absurd (omega arith);
        units = k.units;
        rows = k.rows;
        prices = k.prices;
        lists = k.lists;
        lists_many = k.lists_many;
        unpriced = k.unpriced;
        open_list = k.open_list;
        shut_unpriced = k.shut_unpriced;
        shut_all = k.shut_all;
        pieces = piece-push b.denominator (length b.agents) (length b.columns) b.pieces (number (field row 2)) p.0 p.1 k.pieces;
        filled = λ t. record { rows = omega (arith, d.0, k.rows); lists = λ y. omega (arith, d.1 y, k.lists_many); shut = elim (cases_Bool (is_priced b)) [ inl y ↦ k.shut_all (d.1 y) | inr n ↦ k.shut_unpriced n ]; pieces = omega (arith, length_push b.pieces piece) };
        whole = λ t. absurd (omega arith);
      };
    }

sound-Give : (b : Before) (row : Row) → may_follow word.Give b.last ≡ true → check_give b row ≡ None → IsSound b → IsSound (record (add word.Give row b) { last = Some word.Give })
unfolding add
sound-Give b row f e h =
    let s : stage b.last ≡ 8 = follows-Give b.last f in
    let k = h.body in
    let p = give-passed b row e in
    let (i, at, lt, same) = name-known b.agents (field row 1) p.0 in
    let (c, column, within, like) = name-known b.columns (field row 2) p.1 in
    let agent : agent_at b (field row 1) ≡ i = rw at refl in
    let object : column_at b (field row 2) ≡ c = rw column refl in
    let g : Give = record { agent = agent_at b (field row 1); object = column_at b (field row 2); count = number (field row 3) } in
    let fill = k.filled (omega arith) in
    record {
      head = head-past b (record (add word.Give row b) { last = Some word.Give }) (omega arith) refl refl refl h.head;
      body = record {
        blank = λ t. absurd (omega arith);
        units = k.units;
        rows = k.rows;
        prices = k.prices;
        lists = k.lists;
        lists_many = k.lists_many;
        unpriced = k.unpriced;
        open_list = k.open_list;
        shut_unpriced = k.shut_unpriced;
        shut_all = k.shut_all;
        pieces = give-sound b.denominator (length b.agents) (length b.columns) g b.pieces (rw agent lt, rw object within, p.3, p.4) p.2 k.pieces;
        filled = λ t. record { rows = fill.rows; lists = fill.lists; shut = fill.shut; pieces = omega (arith, count-last g b.pieces, fill.pieces) };
        whole = λ t. absurd (omega arith);
      };
    }

sound-End : (b : Before) (row : Row) → may_follow word.End b.last ≡ true → check_end_record b row ≡ None → IsSound b → IsSound (record (add word.End row b) { last = Some word.End })
unfolding add
sound-End b row f e h =
    let s : stage b.last ≡ 8 = follows-End b.last f in
    let k = h.body in
    let fill = k.filled (omega arith) in
    record {
      head = head-past b (record (add word.End row b) { last = Some word.End }) (omega arith) refl refl refl h.head;
      body = record {
        blank = λ t. absurd (omega arith);
        units = k.units;
        rows = k.rows;
        prices = k.prices;
        lists = k.lists;
        lists_many = k.lists_many;
        unpriced = k.unpriced;
        open_list = k.open_list;
        shut_unpriced = k.shut_unpriced;
        shut_all = k.shut_all;
        pieces = k.pieces;
        filled = λ t. record { rows = fill.rows; lists = fill.lists; shut = fill.shut; pieces = fill.pieces };
        whole = λ t. end-passed b row e;
      };
    }

-- a record of any kind
pub sound-word : (w : Word) (b : Before) (row : Row) → may_follow w b.last ≡ true → is_due w b ≡ true → check_word w b row ≡ None → IsSound b → IsSound (record (add w row b) { last = Some w })
unfolding check_word
sound-word word.Lottery b row f due e h = sound-Lottery b row f h
sound-word word.Denominator b row f due e h = sound-Denominator b row f e h
sound-word word.Agents b row f due e h = sound-Agents b row f e h
sound-word word.Objects b row f due e h = sound-Objects b row f e h
sound-word word.Row b row f due e h = sound-Row b row f due e h
sound-word word.Price b row f due e h = sound-Price b row f e h
sound-word word.Worth b row f due e h = sound-Worth b row f due e h
sound-word word.Piece b row f due e h = sound-Piece b row f due e h
sound-word word.Give b row f due e h = sound-Give b row f e h
sound-word word.End b row f due e h = sound-End b row f e h
