-- `draw`: what has to be known of its meaning.
use Rattle.std.proofs.Common.{◌≡◌, ◌<◌, ℕ, List, [], ◌++◌, map, sum, slice_get, refl, ap, sym, subst, ◌∙◌, Option, None, Some, Result, Ok, Err, arith}
use Rattle.std.proofs.lemmas.List.{length-map}
use Rattle.std.proofs.lemmas.List.Sums.{sum-map}
use Rattle.std.proofs.lemmas.Option.{slice_get-get_or}
use Rattle.std.specs.Prelude.{slice_index_or}
use Rattle.alloc_draws.specs.Draw.{draw_meaning, no_ticket_cause, Drawn, DrawAnswers, DrawsBy, NamesOrNot}
use Rattle.alloc_draws.specs.Picked.{picked_place, picked_text}
use Rattle.alloc_outcomes.specs.Answers.{Answer, text, refuse, Follows, Gives, IsText, RefusesAlone}
use Rattle.alloc_outcomes.specs.Sentences.{Counts}
use Rattle.alloc_outcomes.specs.declared.cause.Cause.{Cause}
use Rattle.alloc_outcomes.specs.declared.cause.Cause.TheVariants as causes
use Rattle.alloc_outcomes.proofs.AnswersLemmas.{gives_alone, passed, text_alone}
use Rattle.alloc_outcomes.proofs.MeaningsLemmas.{IsMeantOfOne}
use Rattle.alloc_outcomes.proofs.SentencesLemmas.{CameBy}
use Rattle.alloc_readings.proofs.LotteryLemmas.{one_lottery}
use Rattle.definitions.proofs.Tickets.{piece_falls}
use Rattle.definitions.specs.Lotteries.{LotteryValue}
use Rattle.definitions.specs.Tickets.{ticket_of}
use Rattle.definitions.specs.Values.{PieceValue}
use Rattle.lottery_file.proofs.Sound.{reads-lawful}
use Rattle.lottery_file.specs.Lotteries.{IsLawfulLottery, TextReadsAs}
use Rattle.seed_draw.proofs.Candidates.{ticket_below}
use Rattle.seed_draw.specs.Words.{seed_words}

-- ---- one answer

one_found : (found : Option ℕ) (t u : ℕ) → found ≡ Some t → found ≡ Some u → t ≡ u
one_found found t u h k = cc

not_both : (found : Option ℕ) (t : ℕ) → found ≡ Some t → found ≡ None → ⊥
not_both found t h k = cc

-- a seed names one ticket or none
pub one_named : (seed : List ℕ) (denominator : ℕ) (r s : Result ℕ (Unit {0})) → NamesOrNot seed denominator r → NamesOrNot seed denominator s → r ≡ s
one_named seed denominator (Ok t) (Ok u) h k = ap Ok (one_found (ticket_of (seed_words seed) denominator) t u h k)
one_named seed denominator (Ok t) (Err _) h k = absurd (not_both (ticket_of (seed_words seed) denominator) t h k)
one_named seed denominator (Err _) (Ok u) h k = absurd (not_both (ticket_of (seed_words seed) denominator) u k h)
one_named seed denominator (Err _) (Err _) h k = refl

draw_alone : (seed bytes : List ℕ) → RefusesAlone (DrawAnswers seed bytes)
draw_alone seed bytes =
    gives_alone (one_lottery bytes) (λ l read.
    gives_alone (one_named seed l.shares.denominator) (λ ticket named.
    text_alone (picked_text l ticket)))

-- ---- the sentence of the headline

abbrev no_piece : PieceValue
no_piece = record { weight = 0; gives = [] }

-- a text that reads as a lottery reads as a lawful one
pub lawful_read : (bytes : List ℕ) (l : LotteryValue) → TextReadsAs bytes l → IsLawfulLottery l
lawful_read bytes l read = subst IsLawfulLottery (sym read.2.1) (reads-lawful read.0 read.2.0)

-- a ticket of a lawful lottery has a piece, whose text is the picked one
has_piece : (l : LotteryValue) (ticket : ℕ) → IsLawfulLottery l → ticket < l.shares.denominator → slice_get l.pieces (picked_place l ticket) ≡ Some (slice_index_or l.pieces (picked_place l ticket) no_piece)
has_piece l ticket lawful below =
    let weights : List ℕ = map (λ (p : PieceValue). p.weight) l.pieces in
    let whole : sum weights ≡ l.shares.denominator = sum-map (λ (p : PieceValue). p.weight) l.pieces ∙ lawful.lottery.adds_up in
    let known = (piece_falls weights ticket (omega (arith, whole))).known in
    slice_get-get_or l.pieces (picked_place l ticket) no_piece (omega (arith, known, length-map l.pieces (λ (p : PieceValue). p.weight)))

-- the text of the seed's ticket is drawn
pub drawn : (seed : List ℕ) (l : LotteryValue) (ticket : ℕ) (before t : List ℕ) (written : Option (List ℕ)) → IsLawfulLottery l → ticket_of (seed_words seed) l.shares.denominator ≡ Some ticket
    → text t ≡ text (picked_text l ticket) → written ≡ Some (before ++ t) → Drawn seed l before written
unfolding picked_text
drawn seed l ticket before t written lawful named is did =
    let same : t ≡ picked_text l ticket = cc in
    record {
      ticket = ticket;
      piece = slice_index_or l.pieces (picked_place l ticket) no_piece;
      named = named;
      given = has_piece l ticket lawful (ticket_below (seed_words seed) l.shares.denominator ticket named);
      wrote = did ∙ ap (λ (bytes : List ℕ). Some (before ++ bytes)) same;
    }

-- what is left of a run's answers once the text is read as the lottery
module _ (seed : List ℕ) (l : LotteryValue) (before : List ℕ) (written : Option (List ℕ)) (lawful : IsLawfulLottery l) where
  abbrev NoTicket : Type 0
  NoTicket = ticket_of (seed_words seed) l.shares.denominator ≡ None

  abbrev AnswersOf : Answer → Type 0
  AnswersOf = Gives no_ticket_cause (NamesOrNot seed l.shares.denominator) (λ ticket. IsText (picked_text l ticket))

  text_draws : (t : List ℕ) (r : Result ℕ (Unit {0})) → NamesOrNot seed l.shares.denominator r → Follows no_ticket_cause (λ ticket. IsText (picked_text l ticket)) r (text t) → written ≡ Some (before ++ t)
      → Drawn seed l before written
  text_draws t (Ok ticket) named is did = drawn seed l ticket before t written lawful named is did
  text_draws t (Err _) named is did = cc

  refusal_draws : (old new : Counts) (cause : Cause) (r : Result ℕ (Unit {0})) → NamesOrNot seed l.shares.denominator r → Follows no_ticket_cause (λ ticket. IsText (picked_text l ticket)) r (refuse cause)
      → DrawsBy (Drawn seed l before written) NoTicket old new cause
  refusal_draws old new cause (Ok ticket) named is = cc
  refusal_draws old new cause (Err _) named is =
      let same : causes.NoTicket ≡ cause = cc in
      subst (DrawsBy (Drawn seed l before written) NoTicket old new) same named

  draws_by : (bytes : List ℕ) (old new : Counts) (cause : Cause) → TextReadsAs bytes l → CameBy (DrawAnswers seed bytes) before written old new cause → DrawsBy (Drawn seed l before written) NoTicket old new cause
  draws_by bytes old new causes.Done read came =
      let rest : AnswersOf (text came.0) = passed (one_lottery bytes) l read (text came.0) came.1 in
      text_draws came.0 rest.found rest.holds rest.follows came.2
  draws_by bytes old new (causes.ReadFault file) read came = came
  draws_by bytes old new causes.WriteFault read came = came
  draws_by bytes old new causes.NoMemory read came = tt
  draws_by bytes old new cause read came =
      let rest : AnswersOf (refuse cause) = passed (one_lottery bytes) l read (refuse cause) came in
      refusal_draws old new cause rest.found rest.holds rest.follows

-- ---- its meaning

pub draw_meant : (seed : List ℕ) → IsMeantOfOne (draw_meaning seed)
draw_meant seed = record {
  alone = draw_alone seed;
  holds = λ bytes run came l short read.
      draws_by seed l run.before run.written (lawful_read bytes l read) bytes run.counts run.counts_after run.cause read (came short);
}
