-- Records that are put into a buffer, one after the other.
use Rattle.std.proofs.Common.{◌≡◌, ◌++◌, [], ◌∙◌, ℕ, List, Option, Result, Ok, Err, refl, sym, ap, subst, append_assoc, append-nil, arith}
use Rattle.std.specs.Io.KnownBytes.{append_known}
use Rattle.std.specs.Result.{IsErrAnd}
use Rattle.device_core.proofs.Continuing.{moved}
use Rattle.device_core.specs.declared.faults.SinkFault.{SinkFault}
use Rattle.device_core.specs.declared.faults.SinkFault.TheVariants as sink
use Rattle.device_core.specs.Told.{Appended}
use Rattle.device_core.proofs.Fronts.{append_known-nil, append_known-twice, appended-after, front-after, front-before, nothing_written}
use Rattle.lottery_file.specs.Buffers.{Added, Puts}

-- a text that is put after another one
added_next : {U : Type 0} (a b c : Option (List ℕ)) (x y z t u : List ℕ) (r : Result U SinkFault) (front : List ℕ) → b ≡ append_known a front → front ++ y ≡ x ++ t → Added b c y z u r → Added a c x z (t ++ u) r
added_next a b c x y z t u (Ok v) front first e h =
    (front ++ h.0, h.1 ∙ ap (λ (o : Option (List ℕ)). append_known o h.0) first ∙ append_known-twice a front h.0, append_assoc front h.0 z ∙ ap (λ (s : List ℕ). front ++ s) h.2 ∙ sym (append_assoc front y u) ∙ ap (λ (s : List ℕ). s ++ u) e ∙ append_assoc x t u)
added_next a b c x y z t u (Err f) front first e h =
    front-after front (y ++ u) (x ++ (t ++ u)) a b c first h (sym (append_assoc front y u) ∙ ap (λ (s : List ℕ). s ++ u) e ∙ append_assoc x t u)

module _ {S : Type 0} {written : S → Option (List ℕ)} {flushed faults short : S → ℕ} where
  -- one text, and then another
  pub puts_next : {T U : Type 0} {a b c : S} {x y z t u : List ℕ} {v : T} {r : Result U SinkFault} → Puts written flushed faults short a b x y t (Ok v) → Puts written flushed faults short b c y z u r → Puts written flushed faults short a c x z (t ++ u) r
  puts_next {a = a} {b = b} {c = c} {x = x} {y = y} {z = z} {t = t} {u = u} {r = r} p q = record {
    bytes = added_next (written a) (written b) (written c) x y z t u r p.bytes.0 p.bytes.1 p.bytes.2 q.bytes;
    flushed_stays = q.flushed_stays ∙ p.flushed_stays;
    cause = moved (faults a) (faults b) (faults c) (short a) (short b) (short c) r p.cause.0 p.cause.1 q.cause;
  }

  -- a text that was refused, and so what was to come after it
  pub puts_stop : {T : Type 0} {a b : S} {x y t : List ℕ} {e : SinkFault} (u : List ℕ) → Puts {T = T} written flushed faults short a b x y t (Err e) → Puts {T = T} written flushed faults short a b x y (t ++ u) (Err e)
  puts_stop {a = a} {b = b} {x = x} {t = t} u p = record {
    bytes = front-before (x ++ t) u (x ++ (t ++ u)) (written a) (written b) p.bytes (append_assoc x t u);
    flushed_stays = p.flushed_stays;
    cause = p.cause;
  }

  -- a refusal that was handed on
  pub puts_refused : {T : Type 0} {a b : S} {x y t : List ℕ} {e : SinkFault} (r : Result T SinkFault) → IsErrAnd r (λ f. f ≡ e) → Puts {T = T} written flushed faults short a b x y t (Err e) → Puts written flushed faults short a b x y t r
  puts_refused (Ok v) h p = absurd h
  puts_refused {T = T} {a = a} {b = b} {x = x} {y = y} {t = t} (Err f) h p = subst (λ (k : SinkFault). Puts {T = T} written flushed faults short a b x y t (Err k)) (sym h) p

  -- the same text by another name
  pub puts_as : {T : Type 0} {a b : S} {x y t u : List ℕ} {r : Result T SinkFault} → t ≡ u → Puts written flushed faults short a b x y t r → Puts written flushed faults short a b x y u r
  puts_as {a = a} {b = b} {x = x} {y = y} {r = r} e p = subst (λ (s : List ℕ). Puts written flushed faults short a b x y s r) e p

  -- no text
  pub puts_none : {T : Type 0} {a : S} {x : List ℕ} {v : T} → Puts written flushed faults short a a x x [] (Ok v)
  puts_none {a = a} {x = x} = record {
    bytes = ([], sym (append_known-nil (written a)), sym (append-nil x));
    flushed_stays = refl;
    cause = (refl, refl);
  }

  -- want of memory before anything was put
  pub puts_nothing : {T : Type 0} {a : S} {x y t : List ℕ} → Puts {T = T} written flushed faults short a a x y t (Err sink.NoMemory)
  puts_nothing {a = a} {x = x} {t = t} = record {
    bytes = nothing_written (written a) (x ++ t);
    flushed_stays = refl;
    cause = (refl, omega arith);
  }

  -- what waits in the end is written
  pub puts_written : {T U : Type 0} {a b : S} {x y t : List ℕ} {v : T} (z : List ℕ) (new : Option (List ℕ)) (r : Result U SinkFault) → x ≡ [] → z ≡ y → Puts written flushed faults short a b x y t (Ok v) → Appended (written b) new z r → Appended (written a) new t r
  puts_written {a = a} {b = b} {y = y} {t = t} z new r none same p h =
      appended-after p.bytes.0 z t (written a) (written b) new r p.bytes.1 h (ap (λ (s : List ℕ). p.bytes.0 ++ s) same ∙ p.bytes.2 ∙ ap (λ (s : List ℕ). s ++ t) none)
