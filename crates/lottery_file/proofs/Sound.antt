-- What a text reads as is lawful.
use Rattle.std.proofs.Common.{◌≡◌, ◌∙◌, ◌∷◌, ◌⊎◌, [], ℕ, List, Option, Some, None, Bool, true, false, cond, refl, sym, subst, length, arith, inl, inr}
use Rattle.std.proofs.lemmas.Bool.{ne_eqb}
use Rattle.std.proofs.lemmas.Slice.Zip.{AllZip-long}
use Rattle.std.specs.Prelude.{◌==◌, MatchOption}
use Rattle.definitions.specs.Texts.{Row, first_field}
use Rattle.definitions.specs.Values.{PricesValue}
use Rattle.definitions.specs.Lotteries.{LotteryValue, HasPrices, HasNoPrices, ends_with_none}
use Rattle.definitions.proofs.Passed.{fault-keeps, fault-ends}
use Rattle.lottery_file.specs.Said.{Before, nothing, word_of, add_word, said_from, said_by}
use Rattle.lottery_file.specs.Checks.{check_next, check_kind, check_record, check_end, is_ended, is_priced, fault_of}
use Rattle.lottery_file.specs.Lotteries.{IsLawfulLottery, IsPriced, lottery_of}
use Rattle.lottery_file.proofs.SoundWords.{IsSound, stage}
use Rattle.lottery_file.specs.declared.faults.LotteryKind.{LotteryKind}
use Rattle.lottery_file.specs.declared.faults.LotteryKind.TheVariants as kind
use Rattle.lottery_file.specs.declared.words.Word.{Word}
use Rattle.lottery_file.proofs.RecordFacts.{said_from-more}
use Rattle.lottery_file.proofs.SoundChecks.{next-passed}
use Rattle.lottery_file.proofs.SoundNames.{no-names, no-columns, priced-ends}
use Rattle.lottery_file.proofs.SoundKinds.{body-blank, sound-word}

sound-kind : (o : Option Word) (b : Before) (row : Row) → check_kind o b row ≡ None → IsSound b → IsSound (add_word o row b)
unfolding check_kind add_word
sound-kind None b row e h = absurd (cc)
sound-kind (Some w) b row e h = let p = next-passed b row w e in sound-word w b row p.0 p.1 p.2 h

blank-then : (t : Bool) (k : Option LotteryKind) → t ≡ false → cond t None k ≡ None → k ≡ None
blank-then t k n e = rw n at e

utf8-then : (t : Bool) (k : Option LotteryKind) → cond t (Some kind.NotUtf8) k ≡ None → k ≡ None
utf8-then true k e = absurd (cc)
utf8-then false k e = e

-- a record with fields that passes, passes the check of its kind
pub field-passed : (b : Before) (f : List ℕ) (fs : List (List ℕ)) → check_next b (f ∷ fs) ≡ None → check_kind (word_of (first_field (f ∷ fs))) b (f ∷ fs) ≡ None
unfolding check_next
field-passed b f fs e = utf8-then _ _ (blank-then (length (f ∷ fs) == 0) _ (ne_eqb (length (f ∷ fs)) 0 (λ z. cc z)) e)

-- a record that passes keeps what is lawful so far
pub sound-next : (b : Before) (row : Row) → check_next b row ≡ None → IsSound b → IsSound (add_word (word_of (first_field row)) row b)
unfolding word_of add_word
sound-next b [] e h = h
sound-next b (f ∷ fs) e h = sound-kind (word_of (first_field (f ∷ fs))) b (f ∷ fs) (field-passed b f fs e) h

pub sound-nothing : IsSound nothing
sound-nothing = record {
  head = record { denominator = omega arith; positive = λ t. absurd (omega arith); agents = no-names; agents_many = omega arith; agents_some = λ t. absurd (omega arith); columns = no-columns };
  body = body-blank nothing (omega arith) (record { rows = refl; units = refl; prices = refl; lists = refl; open_list = refl; worths = refl; open_worths = refl; pieces = refl });
}

-- what lawful records say
pub sound-said : (rows : List Row) → fault_of rows ≡ None → IsSound (said_by rows)
unfolding check_record said_from
sound-said rows e =
    fault-keeps check_record check_end (λ rs. IsSound (said_by rs))
    (λ before r c h. subst IsSound (sym (said_from-more nothing before r)) (sound-next (said_by before) r c h))
    [] rows e sound-nothing

ended-from : (t : Bool) → cond t None (Some kind.CutOff) ≡ None → t ≡ true
ended-from true e = refl
ended-from false e = absurd (cc)

pub ended-stage : (last : Option Word) → is_ended last ≡ true → stage last ≡ 9
ended-stage last e = grind arith

-- a text without a fault has its end
pub said-ended : (rows : List Row) → fault_of rows ≡ None → is_ended (said_by rows).last ≡ true
unfolding check_end
said-ended rows e = ended-from (is_ended (said_by rows).last) (fault-ends check_record check_end [] rows e)

-- prices with a list and worths for each agent where the last column is `none`, and else neither prices nor lists
priced-case : (v : LotteryValue) (t : Bool) (y : PricesValue) → v.prices ≡ cond t (Some y) None → ends_with_none v.columns ≡ t
    → (t ≡ true → IsPriced v y) → (t ≡ false → v.lists ≡ []) → HasPrices v ⊎ HasNoPrices v
priced-case v true y given ends p n =
    let priced : IsPriced v y = p refl in
    inl (record {
      named = ends;
      prices = y;
      given = given;
      lists = priced.many;
      worths = AllZip-long _ v.lists y.worth priced.lists ∙ priced.many;
    })
priced-case v false y given ends p n = inr (record { named = ends; prices = given; lists = n refl })

priced-each : (v : LotteryValue) (t : Bool) (y : PricesValue) → (t ≡ true → IsPriced v y) → (t ≡ false → v.lists ≡ []) → MatchOption (cond t (Some y) None) (v.lists ≡ []) (IsPriced v)
priced-each v true y p n = p refl
priced-each v false y p n = n refl

-- what lawful records say in the end is a lawful lottery
pub sound-lawful : (b : Before) → IsSound b → is_ended b.last ≡ true → IsLawfulLottery (lottery_of b)
sound-lawful b h e =
    let s : stage b.last ≡ 9 = ended-stage b.last e in
    let k = h.body in
    let fill = k.filled (omega arith) in
    let y : PricesValue = record { price = b.prices; worth = b.worths } in
    let priced : is_priced b ≡ true → IsPriced (lottery_of b) y = λ t. record { prices = k.prices; many = fill.lists t; lists = k.lists } in
    record {
      lottery = record {
        shares = record { one = h.head.positive (omega arith); limit = h.head.denominator; shape = k.units.shape ∙ rw fill.rows refl; total = k.units.total };
        rows = refl;
        columns = refl;
        priced = priced-case (lottery_of b) (is_priced b) y refl (sym (priced-ends b.columns h.head.columns)) priced k.unpriced;
        weights = k.pieces.weights;
        adds_up = k.whole (omega arith);
        gives = k.pieces.gives;
      };
      agents = h.head.agents;
      agents_many = (h.head.agents_some (omega arith), h.head.agents_many);
      columns = h.head.columns;
      priced = priced-each (lottery_of b) (is_priced b) y priced k.unpriced;
      pieces = fill.pieces;
      design = refl;
    }

pub reads-lawful : (rows : List Row) → fault_of rows ≡ None → IsLawfulLottery (lottery_of (said_by rows))
reads-lawful rows e = sound-lawful (said_by rows) (sound-said rows e) (said-ended rows e)
