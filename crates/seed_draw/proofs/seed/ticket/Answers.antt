use Rattle.std.proofs.Common.{◌≡◌, ℕ, ◌+◌, ◌<◌, ◌≤◌, Some, ap, sym, ◌∙◌, arith}
use Rattle.rand_chacha.specs.ChaCha.{ChaCha}
use Rattle.definitions.specs.Tickets.{candidate}
use Rattle.seed_draw.specs.Words.{seed_words}
use Rattle.seed_draw.proofs.Candidates.{candidate_passes, candidate_fails, candidates_start, candidates_end, candidate_read}
use Rattle.seed_draw.proofs.seed.ticket.Goals as goal

pub loop-k-init : goal.loop-k-init
loop-k-init c = record {
  key = ap (λ (g : ChaCha). g.key) c.from_seed-words.ensures;
  stream = ap (λ (g : ChaCha). g.stream) c.from_seed-words.ensures;
  place = ap (λ (g : ChaCha). g.word_pos) c.from_seed-words.ensures;
  digits = c.digit_count-digits.ensures.value;
  rest = candidates_start (seed_words c.args.seed) c.args.denominator;
}

pub returns-then-candidate-denominator-clause-value : goal.returns-then-candidate-denominator-clause-value
returns-then-candidate-denominator-clause-value c =
    let inv = c.loop-k.invariant in
    let e = candidate_read c.args.seed c.loop-k.words.key c.loop-k.words.stream c.loop-k.words.word_pos c.loop-k._k c.args.denominator c.next_number-number.result c.digit_count-digits.result c.lowest_digits-candidate.result inv.key inv.stream inv.place c.next_number-number.ensures.value inv.digits c.lowest_digits-candidate.ensures in
    let below : candidate (seed_words c.args.seed) c.args.denominator c.loop-k._k < c.args.denominator = omega arith in
    ap (λ (x : ℕ). Some x) e ∙ sym (candidate_passes (seed_words c.args.seed) c.args.denominator c.loop-k._k 256 (omega arith) below) ∙ sym inv.rest

pub loop-k-preserved : goal.loop-k-preserved
loop-k-preserved c =
    let inv = c.loop-k.invariant in
    let moved = c.next_number-number.ensures.moved in
    let e = candidate_read c.args.seed c.loop-k.words.key c.loop-k.words.stream c.loop-k.words.word_pos c.loop-k._k c.args.denominator c.next_number-number.result c.digit_count-digits.result c.lowest_digits-candidate.result inv.key inv.stream inv.place c.next_number-number.ensures.value inv.digits c.lowest_digits-candidate.ensures in
    let above : c.args.denominator ≤ candidate (seed_words c.args.seed) c.args.denominator c.loop-k._k = omega arith in
    let place : c.next_number-number.new.words.word_pos ≡ c.loop-k.words.word_pos + 4 = ap (λ (g : ChaCha). g.word_pos) moved in
    record {
      key = ap (λ (g : ChaCha). g.key) moved ∙ inv.key;
      stream = ap (λ (g : ChaCha). g.stream) moved ∙ inv.stream;
      place = omega (arith, place, inv.place);
      digits = inv.digits;
      rest = inv.rest ∙ candidate_fails (seed_words c.args.seed) c.args.denominator c.loop-k._k 256 (omega arith) above;
    }

pub returns-clause-value : goal.returns-clause-value
returns-clause-value c = sym (c.loop-k.invariant.rest ∙ candidates_end (seed_words c.args.seed) c.args.denominator c.loop-k._k 256 (omega arith))
