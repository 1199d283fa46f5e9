-- One more record.
use Rattle.std.proofs.Common.{◌≡◌, ◌≢◌, ◌++◌, ◌∷◌, [], List, Some, None, true, false, refl, length}
use Rattle.std.specs.List.{list_all}
use Rattle.std.specs.Str.{is_utf8}
use Rattle.std.proofs.lemmas.Bool.{ne_eqb}
use Rattle.definitions.specs.Texts.{Row, first_field}
use Rattle.lottery_file.specs.Said.{Before, word_of, add_word, said_by, said_from}
use Rattle.lottery_file.specs.Checks.{check_next, check_kind, check_word, may_follow, is_due, is_ended, check_end}
use Rattle.lottery_file.specs.declared.faults.LotteryKind.TheVariants as kind
use Rattle.lottery_file.specs.declared.words.Word.{Word}

-- a record without fields passes, and says nothing
pub blank-passes : (b : Before) (row : Row) → length row ≡ 0 → (check_next b row ≡ None) × (b ≡ add_word (word_of (first_field row)) row b)
unfolding check_next word_of add_word
blank-passes b [] e = (refl, refl)
blank-passes b (f ∷ fs) e = cc e

pub known-check : (b : Before) (row : Row) (w : Word) → length row ≢ 0 → true ≡ list_all is_utf8 row → Some w ≡ word_of (first_field row)
    → may_follow w b.last ≡ true → is_due w b ≡ true → check_word w b row ≡ check_next b row
unfolding check_next check_kind
known-check b row w some text word follows due = rw (ne_eqb (length row) 0 some, ← text, ← word, follows, due) refl

-- what one more record says
pub said_from-more : (b : Before) (rows : List Row) (row : Row) → said_from b (rows ++ row ∷ []) ≡ add_word (word_of (first_field row)) row (said_from b rows)
unfolding said_from
said_from-more b [] row = refl
said_from-more b (r ∷ rs) row = said_from-more (add_word (word_of (first_field r)) r b) rs row

pub ended : (b : Before) (rows : List Row) → b ≡ said_by rows → is_ended b.last ≡ true → check_end rows ≡ None
unfolding check_end
ended b rows e h = rw (rw e at h) refl

pub not-ended : (b : Before) (rows : List Row) → b ≡ said_by rows → is_ended b.last ≡ false → check_end rows ≡ Some kind.CutOff
unfolding check_end
not-ended b rows e h = rw (rw e at h) refl
