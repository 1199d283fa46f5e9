-- Writers after one another, where nothing is written after a refusal.
use Rattle.std.proofs.Common.{◌≡◌, ℕ, List, ◌++◌, sym, ◌∙◌, subst, Option, Result, Ok, Err, arith}
use Rattle.device_core.specs.declared.faults.SinkFault.{SinkFault}
use Rattle.device_core.specs.declared.faults.SinkFault.TheVariants as sink
use Rattle.device_core.specs.Told.{Appended}
use Rattle.device_core.specs.Counts.{Rose, WriterCounts}
use Rattle.device_core.specs.Continuing.{Continued, ContinuedCounts}
use Rattle.device_core.proofs.Fronts.{appended-after, front-before}

-- the text up to here, and then the next one
pub appended_continued : {T U : Type 0} (a b t : List ℕ) (w v u : Option (List ℕ)) (s : Result T SinkFault) (r : Result U SinkFault) → Appended w v a s → Continued v u b s r → a ++ b ≡ t → Appended w u t r
appended_continued a b t w v u (Ok _) r first second whole = appended-after a b t w v u r first second whole
appended_continued a b t w v u (Err e) (Ok _) first second whole = absurd second
appended_continued a b t w v u (Err e) (Err f) first second whole = front-before a b t w u (rw second.1 first) whole

-- counts that had not moved before
pub moved : {U : Type 0} (f0 f1 f2 s0 s1 s2 : ℕ) (r : Result U SinkFault) → f1 ≡ f0 → s1 ≡ s0 → WriterCounts f1 f2 s1 s2 r → WriterCounts f0 f2 s0 s2 r
moved f0 f1 f2 s0 s1 s2 (Ok _) e d h = (h.0 ∙ e, h.1 ∙ d)
moved f0 f1 f2 s0 s1 s2 (Err sink.Failed) e d h = (record { later = omega (arith, e, h.0.later); rose = let P : ℕ → Type 0 = λ n. Rose n f2 in subst P e h.0.rose }, h.1 ∙ d)
moved f0 f1 f2 s0 s1 s2 (Err sink.NoMemory) e d h = (h.0 ∙ e, omega (arith, d, h.1))

-- counts that don't move after a refusal
stayed : (U : Type 0) (f0 f1 f2 s0 s1 s2 : ℕ) (e g : SinkFault) → f2 ≡ f1 → s2 ≡ s1 → g ≡ e → WriterCounts {T = U} f0 f1 s0 s1 (Err e) → WriterCounts {T = U} f0 f2 s0 s2 (Err g)
stayed U f0 f1 f2 s0 s1 s2 e g a b d h =
    let P : ℕ → Type 0 = λ n. WriterCounts {T = U} f0 n s0 s1 (Err e) in
    let Q : ℕ → Type 0 = λ n. WriterCounts {T = U} f0 f2 s0 n (Err e) in
    let R : SinkFault → Type 0 = λ x. WriterCounts {T = U} f0 f2 s0 s2 (Err x) in
    subst R (sym d) (subst Q (sym b) (subst P (sym a) h))

-- the counts of a refusal don't depend on what Ok would have held
renamed : (T U : Type 0) (f0 f1 s0 s1 : ℕ) (e : SinkFault) → WriterCounts {T = T} f0 f1 s0 s1 (Err e) → WriterCounts {T = U} f0 f1 s0 s1 (Err e)
renamed T U f0 f1 s0 s1 sink.Failed h = h
renamed T U f0 f1 s0 s1 sink.NoMemory h = h

-- the counts up to here, and then those of the next writer
pub counts_continued : {T U : Type 0} (f0 f1 f2 s0 s1 s2 : ℕ) (s : Result T SinkFault) (r : Result U SinkFault) (old new : Option (List ℕ)) (b : List ℕ) → WriterCounts f0 f1 s0 s1 s → ContinuedCounts f1 f2 s1 s2 s r → Continued old new b s r → WriterCounts f0 f2 s0 s2 r
counts_continued f0 f1 f2 s0 s1 s2 (Ok _) r old new b first second text = moved f0 f1 f2 s0 s1 s2 r first.0 first.1 second
counts_continued f0 f1 f2 s0 s1 s2 (Err e) (Ok _) old new b first second text = absurd text
counts_continued {T = T} {U = U} f0 f1 f2 s0 s1 s2 (Err e) (Err g) old new b first second text = stayed U f0 f1 f2 s0 s1 s2 e g second.0 second.1 text.0 (renamed T U f0 f1 s0 s1 e first)
