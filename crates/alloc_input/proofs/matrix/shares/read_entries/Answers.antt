use Rattle.std.proofs.Common.{◌∙◌, ◌*◌, ◌<◌, ◌≤◌, sym, refl, arith, length, []}
use Rattle.std.proofs.lemmas.List.Elements.{All-push}
use Rattle.frac128.specs.declared.fractions.Fraction.{Fraction}
use Rattle.frac128.specs.Fraction.{numerator, denominator}
use Rattle.definitions.proofs.Passed.{among-here, among-next, among-all}
use Rattle.alloc_input.specs.Matrices.{check_entries, check_entry, entry_texts}
use Rattle.alloc_input.proofs.EntryFacts.{text-at, length-texts, no-shares, more-shares, all-shares-read}
use Rattle.alloc_input.proofs.Stops.{stopped-on}
use Rattle.alloc_input.proofs.matrix.shares.read_entries.Goals as goal

pub loop-k-init : goal.loop-k-init
loop-k-init c = record { lawful = refl; added = no-shares c.args.entries.now.items; limited = c.requires }

pub returns-in_err-share-clause-read : goal.returns-in_err-share-clause-read
unfolding check_entries
returns-in_err-share-clause-read c =
    let texts = entry_texts c.args.columns c.args.row.now in
    let lt : c.loop-k.k < length texts = omega (arith, length-texts c.args.columns c.args.row.now) in
    let text = c.field_at-text.ensures ∙ sym (text-at c.args.columns c.loop-k.k c.args.row.now (omega arith)) in
    stopped-on _ _ _ _ c.from_residual.ensures.1 (among-here (λ _. check_entry) texts c.loop-k.k [] _ lt c.loop-k.invariant.lawful (rw text at c.in_err-share.ensures.read))

-- memory is wanted for an entry that was read
pub returns-in_err-push-clause-memory : goal.returns-in_err-push-clause-memory
returns-in_err-push-clause-memory c = λ _. (c.loop-k.k, omega arith, rw c.field_at-text.ensures at c.in_ok-share.ensures.read.0)

pub loop-k-preserved : goal.loop-k-preserved
loop-k-preserved c =
    let inv = c.loop-k.invariant in
    let texts = entry_texts c.args.columns c.args.row.now in
    let lt : c.loop-k.k < length texts = omega (arith, length-texts c.args.columns c.args.row.now) in
    let text = c.field_at-text.ensures ∙ sym (text-at c.args.columns c.loop-k.k c.args.row.now (omega arith)) in
    let read = rw text at c.in_ok-share.ensures.read in
    let items = c.in_ok-push.ensures.items in
    record {
      lawful = among-next (λ _. check_entry) texts c.loop-k.k [] lt inv.lawful read.0;
      added = more-shares c.args.entries.now.items c.loop-k.entries.items c.push.new.self.items texts c.loop-k.k c.in_ok-share.share lt items read.1 inv.added;
      limited = rw items (All-push (λ (x : Fraction). numerator x ≤ 1000 * denominator x) c.loop-k.entries.items c.in_ok-share.share inv.limited c.in_ok-share.ensures.limited);
    }

pub returns-clause-read : goal.returns-clause-read
unfolding check_entries
returns-clause-read c =
    let inv = c.loop-k.invariant in
    let texts = entry_texts c.args.columns c.args.row.now in
    let le : c.args.columns ≤ c.loop-k.k = omega arith in (
      among-all (λ _. check_entry) texts c.loop-k.k (omega (arith, length-texts c.args.columns c.args.row.now)) inv.lawful,
      all-shares-read c.args.entries.now.items c.loop-k.entries.items c.args.columns c.loop-k.k c.args.row.now le inv.added,
    )
