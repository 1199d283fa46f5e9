-- A text reads as one value, or it has one fault.
use Rattle.std.proofs.Common.{◌≡◌, ◌∙◌, ◌⊎◌, ℕ, List, Option, Some, None, refl, sym, ap, inl, inr}
use Rattle.std.specs.Prelude.{option_map}
use Rattle.definitions.specs.Texts.{Row}
use Rattle.table_text.specs.Rows.{IsTextOf}
use Rattle.table_text.proofs.EveryText.{IsTextOf-some}
use Rattle.table_text.proofs.TextFacts.{IsTextOf-unique}
use Rattle.alloc_input.specs.Once.{ReadsOnce, ProblemReadsOnce, QuotasReadOnce, DemandsReadOnce}
use Rattle.alloc_input.specs.Problems.{ProblemHasFault, ProblemReads, problem_fault, problem_of}
use Rattle.alloc_input.specs.Quotas.{family_of, quotas_fault}
use Rattle.alloc_input.specs.Stated.{stated_by}
use Rattle.alloc_input.specs.declared.faults.InputFault.{InputFault}
use Rattle.alloc_input.specs.declared.faults.InputKind.{InputKind}

-- what each text says by its records R: it has a value exactly where they have no fault
module _ {R V : Type 0} (IsText : R → Type 0) (fault : R → Option InputFault) (Reads : V → Type 0) (HasFault : InputFault → Type 0) where
  -- how values and faults come from records
  pub record AreByRecords : Type 0 where
    pub records : (r : R) × IsText r
    pub unique : (r q : R) → IsText r → IsText q → r ≡ q
    pub lawful : (v : V) → Reads v → (r : R) × IsText r × (fault r ≡ None)
    pub same : (v w : V) → Reads v → Reads w → v ≡ w
    pub value : (r : R) → IsText r → fault r ≡ None → (v : V) × Reads v
    pub told : (f : InputFault) → HasFault f → (r : R) × IsText r × (fault r ≡ Some f)
    pub tells : (r : R) (f : InputFault) → IsText r → fault r ≡ Some f → HasFault f

  one-fault : AreByRecords → (f g : InputFault) → HasFault f → HasFault g → f ≡ g
  one-fault h f g a b =
      let p = h.told f a in
      let q = h.told g b in
      let both : Path (Option InputFault) (Some f) (Some g) = sym p.2 ∙ ap fault (h.unique p.0 q.0 p.1 q.1) ∙ q.2 in
      cc both

  never-both : AreByRecords → (v : V) (f : InputFault) → Reads v → ¬ (HasFault f)
  never-both h v f a b =
      let p = h.lawful v a in
      let q = h.told f b in
      let both : Path (Option InputFault) None (Some f) = sym p.2 ∙ ap fault (h.unique p.0 q.0 p.1 q.1) ∙ q.2 in
      cc both

  by-fault : AreByRecords → (r : R) → IsText r → (o : Option InputFault) → fault r ≡ o → ((v : V) × Reads v) ⊎ ((f : InputFault) × HasFault f)
  by-fault h r t None e = inl (h.value r t e)
  by-fault h r t (Some f) e = inr (f, h.tells r f t e)

  pub reads-once : AreByRecords → ReadsOnce Reads HasFault
  reads-once h = record {
    one_value = h.same;
    one_fault = one-fault h;
    either = by-fault h h.records.0 h.records.1 (fault h.records.0) refl;
    never_both = never-both h;
  }

-- the fault of the records of a file
abbrev pub fault_in : ℕ → Option (ℕ × InputKind) → Option InputFault
fault_in file o = option_map (λ f. record { file = file; record_no = f.0; kind = f.1 }) o

pub fault-none : (file : ℕ) (o : Option (ℕ × InputKind)) → fault_in file o ≡ None → o ≡ None
fault-none file None e = refl
fault-none file (Some f) e = absurd (cc e)

pub fault-some : (file : ℕ) (o : Option (ℕ × InputKind)) (f : InputFault) → fault_in file o ≡ Some f → (f.file ≡ file) × (o ≡ Some (f.record_no, f.kind))
fault-some file None f e = absurd (cc e)
fault-some file (Some g) f e =
    let same : record { file = file; record_no = g.0; kind = g.1 } ≡ f = cc e in
    (sym (ap (λ (x : InputFault). x.file) same), ap (λ (x : InputFault). Some (x.record_no, x.kind)) same)

-- a text's records have this fault
abbrev pub HasFaultIn : ℕ → List ℕ → (List Row → Option (ℕ × InputKind)) → InputFault → Type 0
HasFaultIn file bytes fault f = (f.file ≡ file) × ((rows : List Row) × IsTextOf bytes rows × (fault rows ≡ Some (f.record_no, f.kind)))

-- a text whose value is a function of its records
module _ {V : Type 0} (file : ℕ) (bytes : List ℕ) (fault : List Row → Option (ℕ × InputKind)) (says : List Row → V) where
  abbrev ReadsAsSaid : V → Type 0
  ReadsAsSaid v = (rows : List Row) × IsTextOf bytes rows × (fault rows ≡ None) × (v ≡ says rows)

  pub said-once : ReadsOnce ReadsAsSaid (HasFaultIn file bytes fault)
  said-once = reads-once (IsTextOf bytes) (λ rows. fault_in file (fault rows)) ReadsAsSaid (HasFaultIn file bytes fault) (record {
    records = IsTextOf-some bytes;
    unique = IsTextOf-unique bytes;
    lawful = λ v h. (h.0, h.1, ap (fault_in file) h.2);
    same = λ v w a b. a.3 ∙ ap says (IsTextOf-unique bytes a.0 b.0 a.1 b.1) ∙ sym b.3;
    value = λ rows t e. (says rows, (rows, t, fault-none file (fault rows) e, refl));
    told = λ f h. (h.1.0, h.1.1, ap (fault_in file) h.1.2 ∙ rw h.0 refl);
    tells = λ rows f t e. (let s = fault-some file (fault rows) f e in (s.0, (rows, t, s.1)));
  })

pub quotas-once : QuotasReadOnce
quotas-once g bytes = said-once 2 bytes (quotas_fault g) (λ rows. family_of g (stated_by g rows))

pub demands-once : DemandsReadOnce
demands-once g bytes = said-once 2 bytes (quotas_fault g) (λ rows. (stated_by g rows).demands)

-- the records of both files
abbrev Both : Type 0
Both = List Row × List Row

abbrev AreTextsOf : List ℕ → List ℕ → Both → Type 0
AreTextsOf prefs quotas r = IsTextOf prefs r.0 × IsTextOf quotas r.1

one-both : (prefs quotas : List ℕ) (r q : Both) → AreTextsOf prefs quotas r → AreTextsOf prefs quotas q → r ≡ q
one-both prefs quotas r q a b = rw (IsTextOf-unique prefs r.0 q.0 a.0 b.0, IsTextOf-unique quotas r.1 q.1 a.1 b.1) refl

-- a fault with its file
abbrev fault_of : Option (ℕ × ℕ × InputKind) → Option InputFault
fault_of o = option_map (λ f. record { file = f.0; record_no = f.1; kind = f.2 }) o

triple-none : (o : Option (ℕ × ℕ × InputKind)) → fault_of o ≡ None → o ≡ None
triple-none None e = refl
triple-none (Some f) e = absurd (cc e)

triple-some : (o : Option (ℕ × ℕ × InputKind)) (f : InputFault) → fault_of o ≡ Some f → o ≡ Some (f.file, f.record_no, f.kind)
triple-some None f e = absurd (cc e)
triple-some (Some g) f e =
    let same : record { file = g.0; record_no = g.1; kind = g.2 } ≡ f = cc e in
    ap (λ (x : InputFault). Some (x.file, x.record_no, x.kind)) same

pub problem-once : ProblemReadsOnce
problem-once prefs quotas =
    reads-once (AreTextsOf prefs quotas) (λ r. fault_of (problem_fault r.0 r.1)) (ProblemReads prefs quotas) (λ f. ProblemHasFault prefs quotas f.file f.record_no f.kind) (record {
      records = (let p = IsTextOf-some prefs in let q = IsTextOf-some quotas in ((p.0, q.0), (p.1, q.1)));
      unique = one-both prefs quotas;
      lawful = λ v h. ((h.0, h.1), (h.2, h.3), ap fault_of h.4.0);
      same = λ v w a b. a.4.1 ∙ ap (λ (r : Both). problem_of r.0 r.1) (one-both prefs quotas (a.0, a.1) (b.0, b.1) (a.2, a.3) (b.2, b.3)) ∙ sym b.4.1;
      value = λ r t e. (problem_of r.0 r.1, (r.0, r.1, t.0, t.1, (triple-none (problem_fault r.0 r.1) e, refl)));
      told = λ f h. ((h.0, h.1), (h.2, h.3), ap fault_of h.4);
      tells = λ r f t e. (r.0, r.1, t.0, t.1, triple-some (problem_fault r.0 r.1) f e);
    })
