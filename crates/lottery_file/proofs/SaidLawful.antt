-- The pieces and lists that records without a fault say.
use Rattle.std.proofs.Common.{◌≡◌, ◌∙◌, ◌≤◌, ◌++◌, ◌∷◌, [], ℕ, List, Option, Some, None, Bool, true, false, refl, sym, ap, subst, append_assoc, length, map, arith}
use Rattle.std.proofs.lemmas.List.{append-nil, map-append}
use Rattle.std.proofs.lemmas.List.Elements.{filter-append}
use Rattle.std.specs.Prelude.{codes}
use Rattle.std.specs.Str.{bytes_eq}
use Rattle.definitions.specs.Texts.{Row, field, first_field, signed, null_name}
use Rattle.definitions.specs.Values.{PieceValue}
use Rattle.definitions.specs.Firsts.{AreLawful, fault_after}
use Rattle.definitions.proofs.FirstFaults.{fault-end, fault-past}
use Rattle.definitions.proofs.Passed.{fault-keeps}
use Rattle.table_text.specs.Records.{begins_with, place_of, records_of}
use Rattle.lottery_file.specs.Said.{Before, nothing, word_of, add, add_word, with_place, column_at, if_some, open_places, said_from, said_by}
use Rattle.lottery_file.specs.Checks.{check_next, check_kind, check_record, check_end, may_follow, fault_of}
use Rattle.lottery_file.specs.Records.{columns_in, pieces_along, pieces_in, lists_in, worths_in}
use Rattle.lottery_file.specs.declared.faults.LotteryKind.{LotteryKind}
use Rattle.lottery_file.specs.declared.words.Word.{Word}
use Rattle.lottery_file.specs.declared.words.Word.TheVariants as word
use Rattle.lottery_file.proofs.RecordFacts.{said_from-more}
use Rattle.lottery_file.proofs.SoundWords.{IsSound, IsFilled, stage}
use Rattle.lottery_file.proofs.SoundChecks.{next-passed, follows-Lottery, follows-Denominator, follows-Agents, follows-Objects}
use Rattle.lottery_file.proofs.Sound.{field-passed, ended-stage, said-ended, sound-next, sound-nothing, sound-said}
use Rattle.lottery_file.proofs.SaidWords.{name_of, is_kind, kind-test}
use Rattle.lottery_file.proofs.SaidFacts.{agents-said, columns-said}
use Rattle.lottery_file.proofs.SaidPieces.{pieces_then, then-piece, then-give, then-other, then-nothing, pieces-skip}
use Rattle.lottery_file.proofs.SaidLists.{IsCut, cut-none, cut-closes, cut-so-far, cut-stays, cut-all, open-closed, open-more}

-- the records so far say these pieces, of which the last goes on
abbrev AreTold : List (List ℕ) → List (List ℕ) → List Row → List PieceValue → Type 0
AreTold agents columns rows pieces = (more : List Row) → pieces_along agents columns (rows ++ more) ≡ pieces_then agents columns pieces more

-- the records of places so far
abbrev places : List Row → List Row
places rows = records_of (codes "worth") rows

-- the open list is what the places after the last `none` say
abbrev IsOpen : {X : Type 0} → (Row → X) → List Row → List X → Type 0
IsOpen f rows list = list ≡ map f (open_places (places rows))

-- the pieces and lists are what the records so far say of them
record IsTold (rows : List Row) (b : Before) : Type 0 where
  sound : IsSound b
  blank : stage b.last ≤ 4 → (records_of (codes "piece") rows ≡ []) × (places rows ≡ [])
  pieces : AreTold b.agents b.columns rows b.pieces
  lists : IsCut (λ r. place_of b.columns (field r 2)) (places rows) b.lists b.open_list
  worths : IsCut (λ r. signed (field r 3)) (places rows) b.worths b.open_worths
  open_list : IsOpen (λ r. place_of b.columns (field r 2)) rows b.open_list
  open_worths : IsOpen (λ r. signed (field r 3)) rows b.open_worths

-- the records of a kind, with one of another kind, or one of this kind
records-same : (name : List ℕ) (rows : List Row) (r : Row) → begins_with name r ≡ false → records_of name (rows ++ r ∷ []) ≡ records_of name rows
records-same name rows r e = filter-append (begins_with name) rows (r ∷ []) ∙ rw (e, append-nil (records_of name rows)) refl

records-more : (name : List ℕ) (rows : List Row) (r : Row) → begins_with name r ≡ true → records_of name (rows ++ r ∷ []) ≡ records_of name rows ++ r ∷ []
records-more name rows r e = filter-append (begins_with name) rows (r ∷ []) ∙ rw e refl

told-piece : (agents columns : List (List ℕ)) (rows : List Row) (r : Row) (old new : List PieceValue)
    → ((more : List Row) → pieces_then agents columns old (r ∷ more) ≡ pieces_then agents columns new more) → AreTold agents columns rows old → AreTold agents columns (rows ++ r ∷ []) new
told-piece agents columns rows r old new step h more = ap (pieces_along agents columns) (append_assoc rows (r ∷ []) more) ∙ h (r ∷ more) ∙ step more

told-other : (agents columns : List (List ℕ)) (rows : List Row) (r : Row) (pieces : List PieceValue) → begins_with (codes "piece") r ≡ false → begins_with (codes "give") r ≡ false
    → AreTold agents columns rows pieces → AreTold agents columns (rows ++ r ∷ []) pieces
told-other agents columns rows r pieces p g = told-piece agents columns rows r pieces pieces (λ more. then-other agents columns pieces r more p g)

cut-other : {X : Type 0} (f : Row → X) (rows : List Row) (r : Row) (lists : List (List X)) (list : List X) → begins_with (codes "worth") r ≡ false
    → IsCut f (places rows) lists list → IsCut f (places (rows ++ r ∷ [])) lists list
cut-other f rows r lists list e h = rw (records-same (codes "worth") rows r e) h

open-other : {X : Type 0} (f : Row → X) (rows : List Row) (r : Row) (list : List X) → begins_with (codes "worth") r ≡ false → IsOpen f rows list → IsOpen f (rows ++ r ∷ []) list
open-other f rows r list e h = h ∙ ap (λ (rs : List Row). map f (open_places rs)) (sym (records-same (codes "worth") rows r e))

open-closes : {X : Type 0} (f : Row → X) (rows : List Row) (r : Row) → begins_with (codes "worth") r ≡ true → bytes_eq (field r 2) null_name ≡ true → IsOpen f (rows ++ r ∷ []) []
open-closes f rows r w e = ap (map f) (sym (open-closed (places rows) r e)) ∙ ap (λ (rs : List Row). map f (open_places rs)) (sym (records-more (codes "worth") rows r w))

open-stays : {X : Type 0} (f : Row → X) (rows : List Row) (r : Row) (list : List X) → begins_with (codes "worth") r ≡ true → bytes_eq (field r 2) null_name ≡ false → IsOpen f rows list → IsOpen f (rows ++ r ∷ []) (list ++ f r ∷ [])
open-stays {X} f rows r list w e h =
    ap (λ (xs : List X). xs ++ f r ∷ []) h ∙ sym (map-append f (open_places (places rows)) (r ∷ []))
    ∙ ap (map f) (sym (open-more (places rows) r e)) ∙ ap (λ (rs : List Row). map f (open_places rs)) (sym (records-more (codes "worth") rows r w))

-- where nothing was read that cites names
told-blank : (rows : List Row) (c : Before) → IsSound c → stage c.last ≤ 4 → records_of (codes "piece") rows ≡ [] → places rows ≡ [] → IsTold rows c
told-blank rows c h s p w =
    let k = h.body.blank s in
    record {
      sound = h;
      blank = λ _. (p, w);
      pieces = λ more. rw k.pieces (pieces-skip c.agents c.columns rows more p);
      lists = rw (w, k.lists, k.open_list) (cut-none (λ r. place_of c.columns (field r 2)));
      worths = rw (w, k.worths, k.open_worths) (cut-none (λ r. signed (field r 3)));
      open_list = rw (w, k.open_list) refl;
      open_worths = rw (w, k.open_worths) refl;
    }

-- a record of another kind than pieces, gives and places
told-head : (rows : List Row) (b c : Before) (r : Row) → stage b.last ≤ 4 → stage c.last ≤ 4 → begins_with (codes "piece") r ≡ false → begins_with (codes "worth") r ≡ false
    → IsSound c → IsTold rows b → IsTold (rows ++ r ∷ []) c
told-head rows b c r s t p w hc h =
    told-blank (rows ++ r ∷ []) c hc t (records-same (codes "piece") rows r p ∙ (h.blank s).0) (records-same (codes "worth") rows r w ∙ (h.blank s).1)

-- one more place
told-place : (t : Bool) (rows : List Row) (b : Before) (r : Row) → bytes_eq (field r 2) null_name ≡ t → begins_with (codes "worth") r ≡ true → begins_with (codes "piece") r ≡ false → begins_with (codes "give") r ≡ false
    → IsSound (record (with_place t (column_at b (field r 2)) (signed (field r 3)) b) { last = Some word.Worth }) → IsTold rows b
    → IsTold (rows ++ r ∷ []) (record (with_place t (column_at b (field r 2)) (signed (field r 3)) b) { last = Some word.Worth })
unfolding with_place
told-place true rows b r e w p g hc h = record {
  sound = hc;
  blank = λ s. absurd (omega arith);
  pieces = told-other b.agents b.columns rows r b.pieces p g h.pieces;
  lists = rw (records-more (codes "worth") rows r w) (cut-closes (λ r. place_of b.columns (field r 2)) (places rows) b.lists b.open_list r e h.lists);
  worths = rw (records-more (codes "worth") rows r w) (cut-closes (λ r. signed (field r 3)) (places rows) b.worths b.open_worths r e h.worths);
  open_list = open-closes (λ r. place_of b.columns (field r 2)) rows r w e;
  open_worths = open-closes (λ r. signed (field r 3)) rows r w e;
}
told-place false rows b r e w p g hc h = record {
  sound = hc;
  blank = λ s. absurd (omega arith);
  pieces = told-other b.agents b.columns rows r b.pieces p g h.pieces;
  lists = rw (records-more (codes "worth") rows r w) (cut-stays (λ r. place_of b.columns (field r 2)) (places rows) b.lists b.open_list r e h.lists);
  worths = rw (records-more (codes "worth") rows r w) (cut-stays (λ r. signed (field r 3)) (places rows) b.worths b.open_worths r e h.worths);
  open_list = open-stays (λ r. place_of b.columns (field r 2)) rows r b.open_list w e h.open_list;
  open_worths = open-stays (λ r. signed (field r 3)) rows r b.open_worths w e h.open_worths;
}

-- what a record begins with, by its kind
begins : (v w : Word) (r : Row) → word_of (first_field r) ≡ Some w → begins_with (name_of v) r ≡ is_kind v (Some w)
begins v w r e = kind-test v (first_field r) ∙ ap (is_kind v) e

-- one more record of a kind
told-word : (w : Word) (rows : List Row) (b : Before) (r : Row) → word_of (first_field r) ≡ Some w → may_follow w b.last ≡ true
    → IsSound (record (add w r b) { last = Some w }) → IsTold rows b → IsTold (rows ++ r ∷ []) (record (add w r b) { last = Some w })
unfolding add
told-word word.Lottery rows b r e f hc h =
    let s : stage b.last ≡ 0 = follows-Lottery b.last f in
    told-head rows b (record (add word.Lottery r b) { last = Some word.Lottery }) r (omega arith) (omega arith) (begins word.Piece word.Lottery r e) (begins word.Worth word.Lottery r e) hc h
told-word word.Denominator rows b r e f hc h =
    let s : stage b.last ≡ 1 = follows-Denominator b.last f in
    told-head rows b (record (add word.Denominator r b) { last = Some word.Denominator }) r (omega arith) (omega arith) (begins word.Piece word.Denominator r e) (begins word.Worth word.Denominator r e) hc h
told-word word.Agents rows b r e f hc h =
    let s : stage b.last ≡ 2 = follows-Agents b.last f in
    told-head rows b (record (add word.Agents r b) { last = Some word.Agents }) r (omega arith) (omega arith) (begins word.Piece word.Agents r e) (begins word.Worth word.Agents r e) hc h
told-word word.Objects rows b r e f hc h =
    let s : stage b.last ≡ 3 = follows-Objects b.last f in
    told-head rows b (record (add word.Objects r b) { last = Some word.Objects }) r (omega arith) (omega arith) (begins word.Piece word.Objects r e) (begins word.Worth word.Objects r e) hc h
told-word word.Row rows b r e f hc h = record {
  sound = hc;
  blank = λ s. absurd (omega arith);
  pieces = told-other b.agents b.columns rows r b.pieces (begins word.Piece word.Row r e) (begins word.Give word.Row r e) h.pieces;
  lists = cut-other (λ r. place_of b.columns (field r 2)) rows r b.lists b.open_list (begins word.Worth word.Row r e) h.lists;
  worths = cut-other (λ r. signed (field r 3)) rows r b.worths b.open_worths (begins word.Worth word.Row r e) h.worths;
  open_list = open-other (λ r. place_of b.columns (field r 2)) rows r b.open_list (begins word.Worth word.Row r e) h.open_list;
  open_worths = open-other (λ r. signed (field r 3)) rows r b.open_worths (begins word.Worth word.Row r e) h.open_worths;
}
told-word word.Price rows b r e f hc h = record {
  sound = hc;
  blank = λ s. absurd (omega arith);
  pieces = told-other b.agents b.columns rows r b.pieces (begins word.Piece word.Price r e) (begins word.Give word.Price r e) h.pieces;
  lists = cut-other (λ r. place_of b.columns (field r 2)) rows r b.lists b.open_list (begins word.Worth word.Price r e) h.lists;
  worths = cut-other (λ r. signed (field r 3)) rows r b.worths b.open_worths (begins word.Worth word.Price r e) h.worths;
  open_list = open-other (λ r. place_of b.columns (field r 2)) rows r b.open_list (begins word.Worth word.Price r e) h.open_list;
  open_worths = open-other (λ r. signed (field r 3)) rows r b.open_worths (begins word.Worth word.Price r e) h.open_worths;
}
told-word word.Worth rows b r e f hc h =
    told-place (bytes_eq (field r 2) null_name) rows b r refl (begins word.Worth word.Worth r e) (begins word.Piece word.Worth r e) (begins word.Give word.Worth r e) hc h
told-word word.Piece rows b r e f hc h = record {
  sound = hc;
  blank = λ s. absurd (omega arith);
  pieces = told-piece b.agents b.columns rows r b.pieces _ (λ more. then-piece b.agents b.columns b.pieces r more (begins word.Piece word.Piece r e)) h.pieces;
  lists = cut-other (λ r. place_of b.columns (field r 2)) rows r b.lists b.open_list (begins word.Worth word.Piece r e) h.lists;
  worths = cut-other (λ r. signed (field r 3)) rows r b.worths b.open_worths (begins word.Worth word.Piece r e) h.worths;
  open_list = open-other (λ r. place_of b.columns (field r 2)) rows r b.open_list (begins word.Worth word.Piece r e) h.open_list;
  open_worths = open-other (λ r. signed (field r 3)) rows r b.open_worths (begins word.Worth word.Piece r e) h.open_worths;
}
told-word word.Give rows b r e f hc h = record {
  sound = hc;
  blank = λ s. absurd (omega arith);
  pieces = told-piece b.agents b.columns rows r b.pieces _ (λ more. then-give b.agents b.columns b.pieces r more (begins word.Piece word.Give r e) (begins word.Give word.Give r e)) h.pieces;
  lists = cut-other (λ r. place_of b.columns (field r 2)) rows r b.lists b.open_list (begins word.Worth word.Give r e) h.lists;
  worths = cut-other (λ r. signed (field r 3)) rows r b.worths b.open_worths (begins word.Worth word.Give r e) h.worths;
  open_list = open-other (λ r. place_of b.columns (field r 2)) rows r b.open_list (begins word.Worth word.Give r e) h.open_list;
  open_worths = open-other (λ r. signed (field r 3)) rows r b.open_worths (begins word.Worth word.Give r e) h.open_worths;
}
told-word word.End rows b r e f hc h = record {
  sound = hc;
  blank = λ s. absurd (omega arith);
  pieces = told-other b.agents b.columns rows r b.pieces (begins word.Piece word.End r e) (begins word.Give word.End r e) h.pieces;
  lists = cut-other (λ r. place_of b.columns (field r 2)) rows r b.lists b.open_list (begins word.Worth word.End r e) h.lists;
  worths = cut-other (λ r. signed (field r 3)) rows r b.worths b.open_worths (begins word.Worth word.End r e) h.worths;
  open_list = open-other (λ r. place_of b.columns (field r 2)) rows r b.open_list (begins word.Worth word.End r e) h.open_list;
  open_worths = open-other (λ r. signed (field r 3)) rows r b.open_worths (begins word.Worth word.End r e) h.open_worths;
}

told-kind : (o : Option Word) (rows : List Row) (b : Before) (r : Row) → word_of (first_field r) ≡ o → check_kind o b r ≡ None → IsSound (add_word o r b) → IsTold rows b → IsTold (rows ++ r ∷ []) (add_word o r b)
unfolding check_kind add_word
told-kind None rows b r e c hc h = absurd (cc)
told-kind (Some w) rows b r e c hc h = told-word w rows b r e (next-passed b r w c).0 hc h

-- one more record that passes its check
told-next : (rows : List Row) (b : Before) (r : Row) → check_next b r ≡ None → IsTold rows b → IsTold (rows ++ r ∷ []) (add_word (word_of (first_field r)) r b)
unfolding word_of add_word
told-next rows b [] c h = record {
  sound = h.sound;
  blank = λ s. (records-same (codes "piece") rows [] refl ∙ (h.blank s).0, records-same (codes "worth") rows [] refl ∙ (h.blank s).1);
  pieces = told-other b.agents b.columns rows [] b.pieces refl refl h.pieces;
  lists = cut-other (λ r. place_of b.columns (field r 2)) rows [] b.lists b.open_list refl h.lists;
  worths = cut-other (λ r. signed (field r 3)) rows [] b.worths b.open_worths refl h.worths;
  open_list = open-other (λ r. place_of b.columns (field r 2)) rows [] b.open_list refl h.open_list;
  open_worths = open-other (λ r. signed (field r 3)) rows [] b.open_worths refl h.open_worths;
}
told-next rows b (f ∷ fs) c h =
    told-kind (word_of (first_field (f ∷ fs))) rows b (f ∷ fs) refl (field-passed b f fs c) (sound-next b (f ∷ fs) c h.sound) h

told-by : (at_end : List Row → Option LotteryKind) (rows : List Row) → fault_after check_record at_end [] rows ≡ None → IsTold rows (said_by rows)
unfolding check_record said_from
told-by at_end rows e =
    fault-keeps check_record at_end (λ rs. IsTold rs (said_by rs))
    (λ before r c h. subst (IsTold (before ++ r ∷ [])) (sym (said_from-more nothing before r)) (told-next before (said_by before) r c h))
    [] rows e (told-blank [] nothing sound-nothing (omega arith) refl refl)

told-said : (rows : List Row) → fault_of rows ≡ None → IsTold rows (said_by rows)
told-said rows e = told-by check_end rows e

-- lawful records, which need not be whole
told-so-far : (rows : List Row) → AreLawful check_record rows (length rows) → IsTold rows (said_by rows)
told-so-far rows h =
    told-by (λ _. None) rows (fault-past check_record (λ _. None) rows (length rows) (omega arith) h ∙ fault-end check_record (λ _. None) rows (length rows) (omega arith))

filled-said : (rows : List Row) → fault_of rows ≡ None → IsFilled (said_by rows)
filled-said rows e =
    let s : stage (said_by rows).last ≡ 9 = ended-stage (said_by rows).last (said-ended rows e) in
    (sound-said rows e).body.filled (omega arith)

pub pieces-said : (rows : List Row) → fault_of rows ≡ None → (said_by rows).pieces ≡ pieces_in rows
pieces-said rows e =
    let b = said_by rows in
    sym (then-nothing b.agents b.columns b.pieces) ∙ sym ((told-said rows e).pieces []) ∙ rw (append-nil rows, agents-said rows, columns-said rows) refl

pub lists-said : (rows : List Row) → fault_of rows ≡ None → (said_by rows).lists ≡ lists_in rows
lists-said rows e =
    let b = said_by rows in
    cut-all (λ r. place_of b.columns (field r 2)) (places rows) b.lists (subst (IsCut (λ r. place_of b.columns (field r 2)) (places rows) b.lists) (filled-said rows e).shut.0 (told-said rows e).lists)
    ∙ rw (columns-said rows) refl

pub worths-said : (rows : List Row) → fault_of rows ≡ None → (said_by rows).worths ≡ worths_in rows
worths-said rows e =
    let b = said_by rows in
    cut-all (λ r. signed (field r 3)) (places rows) b.worths (subst (IsCut (λ r. signed (field r 3)) (places rows) b.worths) (filled-said rows e).shut.1 (told-said rows e).worths)

-- ---- lawful records, which need not be whole

pub pieces-so-far : (rows : List Row) → AreLawful check_record rows (length rows) → (said_by rows).pieces ≡ pieces_in rows
pieces-so-far rows h =
    let b = said_by rows in
    sym (then-nothing b.agents b.columns b.pieces) ∙ sym ((told-so-far rows h).pieces []) ∙ rw (append-nil rows, agents-said rows, columns-said rows) refl

pub lists-so-far : (rows : List Row) → AreLawful check_record rows (length rows) → (said_by rows).lists ++ if_some (said_by rows).open_list ≡ lists_in rows
lists-so-far rows h =
    let b = said_by rows in
    cut-so-far (λ r. place_of b.columns (field r 2)) (places rows) b.lists b.open_list (told-so-far rows h).lists ∙ rw (columns-said rows) refl

pub worths-so-far : (rows : List Row) → AreLawful check_record rows (length rows) → (said_by rows).worths ++ if_some (said_by rows).open_worths ≡ worths_in rows
worths-so-far rows h = let b = said_by rows in cut-so-far (λ r. signed (field r 3)) (places rows) b.worths b.open_worths (told-so-far rows h).worths

pub open-list-said : (rows : List Row) → AreLawful check_record rows (length rows) → (said_by rows).open_list ≡ map (λ r. place_of (columns_in rows) (field r 2)) (open_places (records_of (codes "worth") rows))
open-list-said rows h = (told-so-far rows h).open_list ∙ rw (columns-said rows) refl

pub open-worths-said : (rows : List Row) → AreLawful check_record rows (length rows) → (said_by rows).open_worths ≡ map (λ r. signed (field r 3)) (open_places (records_of (codes "worth") rows))
open-worths-said rows h = (told-so-far rows h).open_worths
