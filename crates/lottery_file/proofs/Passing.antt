-- Records that pass one after the other, and what they say together.
use Rattle.std.proofs.Common.{◌≡◌, ◌∙◌, ◌++◌, ◌∷◌, [], List, None, true, refl, sym, ap, subst, append_assoc, append-nil}
use Rattle.definitions.specs.Firsts.{fault_after}
use Rattle.definitions.specs.Texts.{Row, first_field}
use Rattle.lottery_file.specs.Said.{Before, nothing, word_of, add_word, said_from, said_by}
use Rattle.lottery_file.specs.Checks.{check_next, check_record, check_end, is_ended, fault_of}
use Rattle.lottery_file.proofs.RecordFacts.{said_from-more, ended}

-- each of these records is lawful after what the ones before it say
abbrev pub AllPass : Before → List Row → Type 0
AllPass b [] = Unit {0}
AllPass b (r ∷ rs) = (check_next b r ≡ None) × AllPass (add_word (word_of (first_field r)) r b) rs

-- the records pass after what b says, and then c is said
pub record Passes (b : Before) (rows : List Row) (c : Before) : Type 0 where
  pub pass : AllPass b rows
  pub says : said_from b rows ≡ c

-- no record
pub passes-none : (b : Before) → Passes b [] b
unfolding said_from
passes-none b = record { pass = tt; says = refl }

-- a record, and those after it
pub passes-cons : (b c d : Before) (r : Row) (rs : List Row) → check_next b r ≡ None → add_word (word_of (first_field r)) r b ≡ c → Passes c rs d → Passes b (r ∷ rs) d
unfolding said_from
passes-cons b c d r rs e f h = record {
  pass = (e, subst (λ (x : Before). AllPass x rs) (sym f) h.pass);
  says = ap (λ (x : Before). said_from x rs) f ∙ h.says;
}

-- a record alone
pub passes-one : (b c : Before) (r : Row) → check_next b r ≡ None → add_word (word_of (first_field r)) r b ≡ c → Passes b (r ∷ []) c
passes-one b c r e f = passes-cons b c c r [] e f (passes-none c)

-- records, and then more
pub passes-append : (b c d : Before) (xs ys : List Row) → Passes b xs c → Passes c ys d → Passes b (xs ++ ys) d
unfolding said_from
passes-append b c d [] ys h k = subst (λ (x : Before). Passes x ys d) (sym h.says) k
passes-append b c d (x ∷ xs) ys h k =
    let b2 = add_word (word_of (first_field x)) x b in
    passes-cons b b2 d x (xs ++ ys) h.pass.0 refl (passes-append b2 c d xs ys (record { pass = h.pass.1; says = h.says }) k)

-- what is said by another name
pub passes-as : (b c d : Before) (rows : List Row) → c ≡ d → Passes b rows c → Passes b rows d
passes-as b c d rows e h = record { pass = h.pass; says = h.says ∙ e }

-- lawful records in front leave the fault of what comes after them
fault-append : (before rows more : List Row) → AllPass (said_by before) rows
    → fault_after check_record check_end before (rows ++ more) ≡ fault_after check_record check_end (before ++ rows) more
unfolding fault_after check_record
fault-append before [] more h = ap (λ (b : List Row). fault_after check_record check_end b more) (sym (append-nil before))
fault-append before (r ∷ rs) more h =
    rw h.0 (fault-append (before ++ r ∷ []) rs more (rw (said_from-more nothing before r) h.1) ∙ ap (λ (b : List Row). fault_after check_record check_end b more) (append_assoc before (r ∷ []) rs))

at-end : (rows : List Row) → check_end rows ≡ None → fault_after check_record check_end rows [] ≡ None
unfolding fault_after
at-end rows e = rw e refl

-- records that pass up to the end have no fault
pub passes-lawful : (rows : List Row) (c : Before) → Passes nothing rows c → is_ended c.last ≡ true → fault_of rows ≡ None
unfolding said_from
passes-lawful rows c h e =
    let last : check_end rows ≡ None = ended c rows (sym h.says) e in
    ap (fault_after check_record check_end []) (sym (append-nil rows)) ∙ fault-append [] rows [] h.pass ∙ at-end rows last
