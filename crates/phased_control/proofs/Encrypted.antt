-- What a PDU that is taken does to the phase and to an encryption in progress together.
use Rattle.std.proofs.Common.{◌≡◌, ℕ, nat_le, Bool, true, false, not, ◌&&◌, if◌then◌else◌, is_some, ◌⊎◌, inl, inr, refl, sym, ap, subst, ◌∙◌}
use Rattle.ble_base.specs.declared.roles.Role.{Role}
use Rattle.ble_base.specs.declared.roles.Role.TheVariants.{Central, Peripheral}
use Rattle.data_pdu.specs.declared.ctrl.Ctrl.{Ctrl}
use Rattle.data_pdu.specs.declared.ctrl.Ctrl.TheVariants.{EncReq, PauseEncReq, PauseEncRsp, RejectExtInd, RejectInd, StartEncReq, StartEncRsp, UnknownRsp}
use Rattle.data_pdu.specs.declared.ctrl.CtrlRead.{CtrlRead}
use Rattle.data_pdu.specs.declared.ctrl.CtrlRead.TheVariants.{Known, Unknown, Bare}
use Rattle.enc_phase.specs.declared.classes.PduClass.{PduClass}
use Rattle.enc_phase.specs.declared.classes.PduClass.TheVariants.{EncRsp as enc_rsp_class, Refusal, Request}
use Rattle.enc_phase.specs.declared.facts.PhaseFacts.{PhaseFacts}
use Rattle.enc_phase.specs.declared.facts.PhaseFacts.TheVariants.{Clear, Asked, HalfKeyed, Secure, Pausing, HalfClear}
use Rattle.enc_phase.specs.Phases.{is_quiet}
use Rattle.enc_phase.specs.Taking.{allows, ctrl_class, is_unknown, phase_taking}
use Rattle.table_laws.specs.procedure_stages.declared.stages.Peripheral.{Peripheral as ThePeripheral}
use Rattle.table_laws.specs.procedure_stages.declared.stages.Progress.{Progress}
use Rattle.table_laws.specs.procedure_stages.declared.stages.Progress.TheVariants.{Central as central, Peripheral as peripheral}
use Rattle.table_laws.specs.procedure_stages.declared.steps.Step.{Step}
use Rattle.table_laws.specs.procedure_stages.Closing.{is_open}
use Rattle.table_laws.specs.procedure_stages.Kinds.{role_of}
use Rattle.table_laws.specs.procedure_stages.Queue.{waiting_in}
use Rattle.table_laws.specs.procedures.Calls.{takes}
use Rattle.table_laws.specs.procedures.Table.{TableFacts}
use Rattle.table_laws.specs.procedures.Taking.{facts_with, lacks_room, no_room, outcome_of, took_step}
use Rattle.table_laws.specs.Encrypting.{BeginsAtPeripheral, EndsAtCentral, EndsAtPeripheral, MayBeginBy, MayEndBy, has_encryption}
use Rattle.table_laws.proofs.Encrypting.{begins_by, ended, ends_by}
use Rattle.phased_control.specs.Taken.{class_of_read, seen_if}
use Rattle.phased_control.proofs.AnswerParts.{phase_answering, central_phase, peripheral_phase, refused_phase}
use Rattle.phased_control.proofs.Tables.{same_in}

pub quiet_taking : (pdu : PduClass) (p : PhaseFacts) → is_quiet (phase_taking pdu p) ≡ is_quiet p
quiet_taking enc_rsp_class (Asked after_pause enc_rsp kept) = refl
quiet_taking enc_rsp_class p = refl
quiet_taking Request (Asked after_pause enc_rsp kept) = refl
quiet_taking Request (Pausing kept) = refl
quiet_taking Request p = refl
quiet_taking pdu p = refl

-- ---- at a central

abbrev Confirms : Ctrl → Bool → Type 0
Confirms StartEncRsp b = b ≡ false
Confirms ctrl b = Unit {0}

-- what its table makes of an encryption in progress, before and after
record TookAtCentral (ctrl : Ctrl) (p : PhaseFacts) (a b : Bool) : Type 0 where
  begins : a ≡ false → b ≡ false
  ends : is_quiet p ≡ false → a ≡ true → b ≡ false → EndsAtCentral ctrl false
  confirmed : is_quiet p ≡ false → Confirms ctrl b

quiet_refused : (pdu : PduClass) (p : PhaseFacts) → is_quiet p ≡ true → is_quiet (refused_phase pdu false (phase_taking pdu p)) ≡ true
quiet_refused Refusal Clear is = refl
quiet_refused Refusal Secure is = refl
quiet_refused Refusal p is = absurd (cc)
quiet_refused enc_rsp_class p is = quiet_taking enc_rsp_class p ∙ is
quiet_refused Request p is = quiet_taking Request p ∙ is
quiet_refused pdu p is = is

quietly_central : (ctrl : Ctrl) (p : PhaseFacts) → is_quiet p ≡ true → is_quiet (central_phase ctrl false (phase_taking (ctrl_class ctrl) p)) ≡ true
quietly_central StartEncReq Clear is = refl
quietly_central StartEncReq Secure is = refl
quietly_central StartEncReq p is = absurd (cc)
quietly_central StartEncRsp Clear is = refl
quietly_central StartEncRsp Secure is = refl
quietly_central StartEncRsp p is = absurd (cc)
quietly_central PauseEncRsp Clear is = refl
quietly_central PauseEncRsp Secure is = refl
quietly_central PauseEncRsp p is = absurd (cc)
quietly_central ctrl p is = quiet_refused (ctrl_class ctrl) p is

-- outside Clear and Secure a refusal alone ends it
loud_refused : (pdu : PduClass) (p : PhaseFacts) (b : Bool) → is_quiet p ≡ false → allows p Central pdu ≡ true → (b ≡ false → pdu ≡ Refusal)
    → is_quiet (refused_phase pdu b (phase_taking pdu p)) ≡ not b
loud_refused Refusal (Asked after_pause enc_rsp kept) true loud may ends = refl
loud_refused Refusal (Asked after_pause enc_rsp kept) false loud may ends = refl
loud_refused Refusal Clear b loud may ends = absurd (cc)
loud_refused Refusal Secure b loud may ends = absurd (cc)
loud_refused Refusal p b loud may ends = absurd (cc)
loud_refused enc_rsp_class p true loud may ends = quiet_taking enc_rsp_class p ∙ loud
loud_refused Request p true loud may ends = quiet_taking Request p ∙ loud
loud_refused pdu p true loud may ends = loud
loud_refused pdu p false loud may ends = absurd (let is = ends refl in cc)

pub class_of_end : (ctrl : Ctrl) (p : PhaseFacts) → is_quiet p ≡ false → allows p Central (ctrl_class ctrl) ≡ true → (b : Bool) → EndsAtCentral ctrl b → (ctrl_class ctrl ≡ Refusal) ⊎ (ctrl ≡ StartEncRsp)
class_of_end StartEncRsp p loud may b ends = inr refl
class_of_end (RejectInd code) p loud may b ends = inl refl
class_of_end (RejectExtInd opcode code) p loud may b ends = inl (rw ends refl)
class_of_end (UnknownRsp opcode) Clear loud may b ends = absurd (cc)
class_of_end (UnknownRsp opcode) Secure loud may b ends = absurd (cc)
class_of_end (UnknownRsp opcode) p loud may b ends = absurd (cc)
class_of_end ctrl p loud may b ends = absurd ends

-- the class of a PDU that is neither LL_START_ENC_REQ, LL_START_ENC_RSP nor LL_PAUSE_ENC_RSP
abbrev is_other_at_central : Ctrl → Bool
is_other_at_central StartEncReq = false
is_other_at_central StartEncRsp = false
is_other_at_central PauseEncRsp = false
is_other_at_central ctrl = true

other_class : (ctrl : Ctrl) → is_other_at_central ctrl ≡ true → (ctrl_class ctrl ≡ Refusal) ⊎ (ctrl ≡ StartEncRsp) → ctrl_class ctrl ≡ Refusal
other_class ctrl is (inl h) = h
other_class ctrl is (inr h) = absurd (by (sym is ∙ ap is_other_at_central h))
  where
    by : true ≡ false → ⊥
    by e = absurd (cc)

was_true : (p : PhaseFacts) (a : Bool) → is_quiet p ≡ false → is_quiet p ≡ not a → a ≡ true
was_true p true loud agree = refl
was_true p false loud agree = absurd (by (sym loud ∙ agree))
  where
    by : false ≡ true → ⊥
    by e = absurd (cc)

was_false : (p : PhaseFacts) (a : Bool) → is_quiet p ≡ true → is_quiet p ≡ not a → a ≡ false
was_false p false quiet agree = refl
was_false p true quiet agree = absurd (by (sym quiet ∙ agree))
  where
    by : true ≡ false → ⊥
    by e = absurd (cc)

-- none ends it by such a PDU
lasts_still : (b : Bool) → (b ≡ false → ⊥) → b ≡ true
lasts_still true h = refl
lasts_still false h = absurd (h refl)

loudly_central : (ctrl : Ctrl) (p : PhaseFacts) (a b : Bool) → is_quiet p ≡ false → allows p Central (ctrl_class ctrl) ≡ true → a ≡ true → TookAtCentral ctrl p a b
    → is_quiet (central_phase ctrl b (phase_taking (ctrl_class ctrl) p)) ≡ not b
loudly_central StartEncReq (Asked after_pause enc_rsp kept) a b loud may was took =
    rw (lasts_still b (λ over. took.ends loud was over)) refl
loudly_central StartEncReq Clear a b loud may was took = absurd (cc)
loudly_central StartEncReq Secure a b loud may was took = absurd (cc)
loudly_central StartEncReq p a b loud may was took = absurd (cc)
loudly_central StartEncRsp HalfKeyed a b loud may was took = rw (took.confirmed loud) refl
loudly_central StartEncRsp Clear a b loud may was took = absurd (cc)
loudly_central StartEncRsp Secure a b loud may was took = absurd (cc)
loudly_central StartEncRsp p a b loud may was took = absurd (cc)
loudly_central PauseEncRsp (Pausing kept) a b loud may was took =
    rw (lasts_still b (λ over. took.ends loud was over)) refl
loudly_central PauseEncRsp Clear a b loud may was took = absurd (cc)
loudly_central PauseEncRsp Secure a b loud may was took = absurd (cc)
loudly_central PauseEncRsp p a b loud may was took = absurd (cc)
loudly_central ctrl p a b loud may was took =
    loud_refused (ctrl_class ctrl) p b loud may (λ over. other_class ctrl refl (class_of_end ctrl p loud may false (took.ends loud was over)))

central_took : (ctrl : Ctrl) (p : PhaseFacts) (a b : Bool) → is_quiet p ≡ not a → allows p Central (ctrl_class ctrl) ≡ true → TookAtCentral ctrl p a b
    → is_quiet (central_phase ctrl b (phase_taking (ctrl_class ctrl) p)) ≡ not b
central_took ctrl p a b agree may took = by (is_quiet p) refl
  where
    by : (quiet : Bool) → is_quiet p ≡ quiet → is_quiet (central_phase ctrl b (phase_taking (ctrl_class ctrl) p)) ≡ not b
    by true quiet = rw (took.begins (was_false p a quiet agree)) (quietly_central ctrl p quiet)
    by false loud = loudly_central ctrl p a b loud may (was_true p a loud agree) took

-- ---- at a peripheral

abbrev Begun : Ctrl → Bool → Type 0
Begun (EncReq rand ediv skd_m iv_m) b = b ≡ true
Begun PauseEncReq b = b ≡ true
Begun ctrl b = Unit {0}

-- a PDU without a meaning leaves it; else
record TookAtPeripheral (ctrl : Ctrl) (p : PhaseFacts) (a b : Bool) : Type 0 where
  unknown : is_unknown p Peripheral (ctrl_class ctrl) ≡ true → b ≡ a
  begins : is_unknown p Peripheral (ctrl_class ctrl) ≡ false → a ≡ false → b ≡ true → BeginsAtPeripheral ctrl
  ends : is_unknown p Peripheral (ctrl_class ctrl) ≡ false → a ≡ true → b ≡ false → EndsAtPeripheral ctrl (is_quiet p)
  begun : is_unknown p Peripheral (ctrl_class ctrl) ≡ false → Begun ctrl b
  confirmed : is_quiet p ≡ false → is_unknown p Peripheral (ctrl_class ctrl) ≡ false → Confirms ctrl b

same_bool : (a b : Bool) → (a ≡ false → b ≡ true → ⊥) → (a ≡ true → b ≡ false → ⊥) → b ≡ a
same_bool true true begin end = refl
same_bool false false begin end = refl
same_bool false true begin end = absurd (begin refl refl)
same_bool true false begin end = absurd (end refl refl)

-- where no encryption begins or ends
left : (ctrl : Ctrl) (p : PhaseFacts) (a b : Bool) → TookAtPeripheral ctrl p a b → (BeginsAtPeripheral ctrl → ⊥) → (EndsAtPeripheral ctrl (is_quiet p) → ⊥) → b ≡ a
left ctrl p a b took begin end = by (is_unknown p Peripheral (ctrl_class ctrl)) refl
  where
    by : (u : Bool) → is_unknown p Peripheral (ctrl_class ctrl) ≡ u → b ≡ a
    by true is = took.unknown is
    by false is = same_bool a b (λ h1. λ h2. begin (took.begins is h1 h2)) (λ h1. λ h2. end (took.ends is h1 h2))

peripheral_took : (ctrl : Ctrl) (p : PhaseFacts) (a b : Bool) → is_quiet p ≡ not a → allows p Peripheral (ctrl_class ctrl) ≡ true → TookAtPeripheral ctrl p a b
    → is_quiet (peripheral_phase ctrl (phase_taking (ctrl_class ctrl) p)) ≡ not b
peripheral_took (EncReq rand ediv skd_m iv_m) Clear a b agree may took = rw (took.begun refl) refl
peripheral_took (EncReq rand ediv skd_m iv_m) Secure a b agree may took = agree ∙ sym (ap not (took.unknown refl))
peripheral_took (EncReq rand ediv skd_m iv_m) (HalfClear kept) a b agree may took = rw (took.begun refl) refl
peripheral_took (EncReq rand ediv skd_m iv_m) p a b agree may took = absurd (cc)
peripheral_took PauseEncReq Clear a b agree may took = agree ∙ sym (ap not (took.unknown refl))
peripheral_took PauseEncReq Secure a b agree may took = rw (took.begun refl) refl
peripheral_took PauseEncReq p a b agree may took = absurd (cc)
peripheral_took StartEncRsp Clear a b agree may took = agree ∙ sym (ap not (left StartEncRsp Clear a b took (λ h. h) (λ h. absurd (cc))))
peripheral_took StartEncRsp Secure a b agree may took = agree ∙ sym (ap not (left StartEncRsp Secure a b took (λ h. h) (λ h. absurd (cc))))
peripheral_took StartEncRsp HalfKeyed a b agree may took = rw (took.confirmed refl refl) refl
peripheral_took StartEncRsp p a b agree may took = absurd (cc)
peripheral_took PauseEncRsp Clear a b agree may took = agree ∙ sym (ap not (left PauseEncRsp Clear a b took (λ h. h) (λ h. h)))
peripheral_took PauseEncRsp Secure a b agree may took = agree ∙ sym (ap not (left PauseEncRsp Secure a b took (λ h. h) (λ h. h)))
peripheral_took PauseEncRsp (Pausing kept) a b agree may took = agree ∙ sym (ap not (left PauseEncRsp (Pausing kept) a b took (λ h. h) (λ h. h)))
peripheral_took PauseEncRsp p a b agree may took = absurd (cc)
peripheral_took ctrl p a b agree may took = quiet_taking (ctrl_class ctrl) p ∙ agree ∙ sym (ap not (left ctrl p a b took (λ h. h) (λ h. h)))

-- ---- what a table makes of it

abbrev pub has : TableFacts → Bool
has f = has_encryption f.progress

begins_at_central : (p : Progress) (read : CtrlRead) (slot : ℕ) (quiet : Bool) → role_of p ≡ Central → MayBeginBy p (takes read slot quiet) → ⊥
begins_at_central (central c) read slot quiet is h = h
begins_at_central (peripheral p) read slot quiet is h = absurd (cc)

pub ends_at_central : (p : Progress) (ctrl : Ctrl) (slot : ℕ) (quiet : Bool) → role_of p ≡ Central → MayEndBy p (takes (Known ctrl) slot quiet) → EndsAtCentral ctrl quiet
ends_at_central (central c) ctrl slot quiet is h = h
ends_at_central (peripheral p) ctrl slot quiet is h = absurd (cc)

begins_at_peripheral : (p : Progress) (ctrl : Ctrl) (slot : ℕ) (quiet : Bool) → role_of p ≡ Peripheral → MayBeginBy p (takes (Known ctrl) slot quiet) → BeginsAtPeripheral ctrl
begins_at_peripheral (central c) ctrl slot quiet is h = absurd (cc)
begins_at_peripheral (peripheral p) ctrl slot quiet is h = h

ends_at_peripheral : (p : Progress) (ctrl : Ctrl) (slot : ℕ) (quiet : Bool) → role_of p ≡ Peripheral → MayEndBy p (takes (Known ctrl) slot quiet) → EndsAtPeripheral ctrl quiet
ends_at_peripheral (central c) ctrl slot quiet is h = absurd (cc)
ends_at_peripheral (peripheral p) ctrl slot quiet is h = h

-- what is not known to an end, or has no octet, leaves it
abbrev pub is_known : CtrlRead → Bool
is_known (Known ctrl) = true
is_known read = false

unknown_begins : (p : Progress) (read : CtrlRead) (slot : ℕ) (quiet : Bool) → is_known read ≡ false → MayBeginBy p (takes read slot quiet) → ⊥
unknown_begins (central c) read slot quiet is h = h
unknown_begins (peripheral p) (Known ctrl) slot quiet is h = absurd (cc)
unknown_begins (peripheral p) (Unknown opcode) slot quiet is h = h
unknown_begins (peripheral p) Bare slot quiet is h = h

unknown_ends : (p : Progress) (read : CtrlRead) (slot : ℕ) (quiet : Bool) → is_known read ≡ false → MayEndBy p (takes read slot quiet) → ⊥
unknown_ends p (Known ctrl) slot quiet is h = absurd (cc)
unknown_ends (central c) (Unknown opcode) slot quiet is h = h
unknown_ends (central c) Bare slot quiet is h = h
unknown_ends (peripheral p) (Unknown opcode) slot quiet is h = h
unknown_ends (peripheral p) Bare slot quiet is h = h

pub same_unknown : (f : TableFacts) (read : CtrlRead) (slot : ℕ) (quiet : Bool) → is_known read ≡ false → has (took_step f read slot quiet).0 ≡ has f
same_unknown f read slot quiet is = same_in f (takes read slot quiet) (unknown_begins f.progress read slot quiet is) (unknown_ends f.progress read slot quiet is)

-- LL_ENC_REQ and LL_PAUSE_ENC_REQ begin one at a peripheral
abbrev settled_of : Bool → Bool → TableFacts → TableFacts → Step → Step → Step → TableFacts × Step
settled_of a b f g x y z = (if a then (f, x) else (if b then (f, y) else (g, z)))

settled_as : (a b : Bool) (f g : TableFacts) (x y z : Step) → a ≡ false → b ≡ false → has g ≡ true → has (settled_of a b f g x y z).0 ≡ true
settled_as a b f g x y z ha hb h = rw (ha, hb) h

and_none : (b : Bool) → (b && false) ≡ false
and_none true = refl
and_none false = refl

begun_there : (ctrl : Ctrl) (f : TableFacts) (p : ThePeripheral) (slot : ℕ) (quiet : Bool) → BeginsAtPeripheral ctrl
    → has (took_step (record f { progress = peripheral p }) (Known ctrl) slot quiet).0 ≡ true
begun_there (EncReq rand ediv skd_m iv_m) f p slot quiet is =
    let g : TableFacts = record f { progress = peripheral p } in
    let o = outcome_of g quiet (Known (EncReq rand ediv skd_m iv_m)) in
    settled_as (lacks_room g o) (is_some o.step.ends) g (facts_with g slot o) no_room o.step o.step (and_none (is_open f.closing && nat_le 16 (waiting_in f.queue))) refl refl
begun_there PauseEncReq f p slot quiet is =
    let g : TableFacts = record f { progress = peripheral p } in
    let o = outcome_of g quiet (Known PauseEncReq) in
    settled_as (lacks_room g o) (is_some o.step.ends) g (facts_with g slot o) no_room o.step o.step (and_none (is_open f.closing && nat_le 16 (waiting_in f.queue))) refl refl
begun_there ctrl f p slot quiet is = absurd is

begun_in : (ctrl : Ctrl) (f : TableFacts) (slot : ℕ) (quiet : Bool) → role_of f.progress ≡ Peripheral → BeginsAtPeripheral ctrl → has (took_step f (Known ctrl) slot quiet).0 ≡ true
begun_in ctrl f slot quiet role is = by f.progress refl role
  where
    by : (p : Progress) → f.progress ≡ p → role_of p ≡ Peripheral → has (took_step f (Known ctrl) slot quiet).0 ≡ true
    by (central c) h r = absurd (cc)
    by (peripheral q) h r =
        subst (λ (p : Progress). has (took_step (record f { progress = p }) (Known ctrl) slot quiet).0 ≡ true) (sym h) (begun_there ctrl f q slot quiet is)

begun_as : (ctrl : Ctrl) (b : Bool) → (BeginsAtPeripheral ctrl → b ≡ true) → Begun ctrl b
begun_as (EncReq rand ediv skd_m iv_m) b h = h tt
begun_as PauseEncReq b h = h tt
begun_as ctrl b h = tt

confirmed_as : (ctrl : Ctrl) (f : TableFacts) (slot : ℕ) (quiet : Bool) → quiet ≡ false → Confirms ctrl (has (took_step f (Known ctrl) slot quiet).0)
confirmed_as StartEncRsp f slot quiet loud = rw loud (ended f slot)
confirmed_as ctrl f slot quiet loud = tt

-- outside Clear and Secure each PDU has its meaning at a central
pub known_loudly : (p : PhaseFacts) (pdu : PduClass) → is_quiet p ≡ false → is_unknown p Central pdu ≡ false
known_loudly Clear pdu is = absurd (cc)
known_loudly Secure pdu is = absurd (cc)
known_loudly p pdu is = refl

module _ (ctrl : Ctrl) (p : PhaseFacts) (f : TableFacts) (slot : ℕ) where
  took_c : role_of f.progress ≡ Central
      → TookAtCentral ctrl p (has f) (has (took_step f (seen_if (is_unknown p Central (ctrl_class ctrl)) (Known ctrl)) slot (is_quiet p)).0)
  took_c role =
      record {
        begins = λ is. still_false (has f) (has g) is (begins_by f (takes seen slot (is_quiet p))) (begins_at_central f.progress seen slot (is_quiet p) role);
        ends = λ loud. λ was. λ over.
            subst (λ (quiet : Bool). EndsAtCentral ctrl quiet) loud
            (ends_at_central f.progress ctrl slot (is_quiet p) role
            (ends_by f (takes (Known ctrl) slot (is_quiet p)) was
            (subst (λ (u : Bool). has (took_step f (seen_if u (Known ctrl)) slot (is_quiet p)).0 ≡ false) (known_loudly p (ctrl_class ctrl) loud) over)));
        confirmed = λ loud.
            subst (λ (u : Bool). Confirms ctrl (has (took_step f (seen_if u (Known ctrl)) slot (is_quiet p)).0)) (sym (known_loudly p (ctrl_class ctrl) loud))
            (confirmed_as ctrl f slot (is_quiet p) loud);
      }
    where
      seen : CtrlRead
      seen = seen_if (is_unknown p Central (ctrl_class ctrl)) (Known ctrl)

      g : TableFacts
      g = (took_step f seen slot (is_quiet p)).0

      still_false : {B : Type 0} (a b : Bool) → a ≡ false → (a ≡ false → b ≡ true → B) → (B → ⊥) → b ≡ false
      still_false a false is h none = refl
      still_false a true is h none = absurd (none (h is refl))

  took_p : role_of f.progress ≡ Peripheral
      → TookAtPeripheral ctrl p (has f) (has (took_step f (seen_if (is_unknown p Peripheral (ctrl_class ctrl)) (Known ctrl)) slot (is_quiet p)).0)
  took_p role =
      record {
        unknown = λ is. subst (λ (u : Bool). has (after u) ≡ has f) (sym is) (same_unknown f (seen_if true (Known ctrl)) slot (is_quiet p) refl);
        begins = λ is. λ was. λ has_now.
            begins_at_peripheral f.progress ctrl slot (is_quiet p) role
            (begins_by f (takes (Known ctrl) slot (is_quiet p)) was (subst (λ (u : Bool). has (after u) ≡ true) is has_now));
        ends = λ is. λ was. λ over.
            ends_at_peripheral f.progress ctrl slot (is_quiet p) role
            (ends_by f (takes (Known ctrl) slot (is_quiet p)) was (subst (λ (u : Bool). has (after u) ≡ false) is over));
        begun = λ is. subst (λ (u : Bool). Begun ctrl (has (after u))) (sym is) (begun_as ctrl (has (after false)) (begun_in ctrl f slot (is_quiet p) role));
        confirmed = λ loud. λ is. subst (λ (u : Bool). Confirms ctrl (has (after u))) (sym is) (confirmed_as ctrl f slot (is_quiet p) loud);
      }
    where
      after : Bool → TableFacts
      after u = (took_step f (seen_if u (Known ctrl)) slot (is_quiet p)).0

-- the phase and the table agree after a PDU, if they agreed before it
pub agrees_taken : (role : Role) (read : CtrlRead) (p : PhaseFacts) (f : TableFacts) (slot : ℕ) → role_of f.progress ≡ role → is_quiet p ≡ not (has f)
    → allows p role (class_of_read read) ≡ true
    → let g = (took_step f (seen_if (is_unknown p role (class_of_read read)) read) slot (is_quiet p)).0 in
    is_quiet (phase_answering role read (has g) (phase_taking (class_of_read read) p)) ≡ not (has g)
agrees_taken Central (Known ctrl) p f slot is agree may = central_took ctrl p (has f) _ agree may (took_c ctrl p f slot is)
agrees_taken Peripheral (Known ctrl) p f slot is agree may = peripheral_took ctrl p (has f) _ agree may (took_p ctrl p f slot is)
agrees_taken role (Unknown opcode) p f slot is agree may = by (is_unknown p role (class_of_read (Unknown opcode)))
  where
    by : (u : Bool) → is_quiet p ≡ not (has (took_step f (seen_if u (Unknown opcode)) slot (is_quiet p)).0)
    by true = agree ∙ sym (ap not (same_unknown f (Unknown opcode) slot (is_quiet p) refl))
    by false = agree ∙ sym (ap not (same_unknown f (Unknown opcode) slot (is_quiet p) refl))
agrees_taken role Bare p f slot is agree may = by (is_unknown p role (class_of_read Bare))
  where
    by : (u : Bool) → is_quiet p ≡ not (has (took_step f (seen_if u Bare) slot (is_quiet p)).0)
    by true = agree ∙ sym (ap not (same_unknown f Bare slot (is_quiet p) refl))
    by false = agree ∙ sym (ap not (same_unknown f Bare slot (is_quiet p) refl))
