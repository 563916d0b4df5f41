-- What a PDU of the peer leaves of the room for the first PDU of a central's procedure, where it is not answered by a
-- PDU of the encryption.
use Rattle.std.proofs.Common.{◌≡◌, ℕ, ◌≤◌, Bool, true, false, not, None, refl, sym, ap, subst, ◌∙◌, arith}
use Rattle.ble_base.specs.declared.roles.Role.TheVariants.{Central as central_role}
use Rattle.data_pdu.specs.declared.ctrl.Ctrl.{Ctrl}
use Rattle.data_pdu.specs.declared.ctrl.Ctrl.TheVariants.{EncRsp, PauseEncRsp, RejectExtInd, RejectInd, StartEncReq, StartEncRsp, TerminateInd}
use Rattle.data_pdu.specs.declared.ctrl.CtrlRead.{CtrlRead}
use Rattle.data_pdu.specs.declared.ctrl.CtrlRead.TheVariants.{Bare, Known, Unknown}
use Rattle.phased_control.specs.enc_phase.declared.classes.PduClass.{PduClass}
use Rattle.phased_control.specs.enc_phase.declared.classes.PduClass.TheVariants.{EncRsp as enc_rsp_class, Refusal, Request}
use Rattle.phased_control.specs.enc_phase.declared.facts.PhaseFacts.{PhaseFacts}
use Rattle.phased_control.specs.enc_phase.declared.facts.PhaseFacts.TheVariants.{Asked, Clear, HalfClear, HalfKeyed, Pausing, Secure}
use Rattle.phased_control.specs.enc_phase.Phases.{is_quiet}
use Rattle.phased_control.specs.enc_phase.Taking.{allows, ctrl_class, is_unknown, phase_taking}
use Rattle.phased_control.specs.procedure_stages.declared.stages.Central.{Central}
use Rattle.phased_control.specs.procedure_stages.declared.stages.OwnCentral.{OwnCentral}
use Rattle.phased_control.specs.procedure_stages.declared.stages.OwnCentral.TheVariants.{EncryptSent, EncryptUnsent, Exchange as exchange, Exclusive as exclusive}
use Rattle.phased_control.specs.procedure_stages.declared.stages.Progress.{Progress}
use Rattle.phased_control.specs.procedure_stages.declared.stages.Progress.TheVariants.{Central as central, Peripheral as peripheral}
use Rattle.phased_control.specs.procedure_stages.Kinds.{role_of}
use Rattle.phased_control.specs.procedures.Table.{TableFacts}
use Rattle.phased_control.specs.procedures.Taking.{outcome_of, took_step}
use Rattle.phased_control.specs.table_laws.Encrypting.{has_encryption}
use Rattle.phased_control.specs.table_laws.Waiting.{count_if}
use Rattle.phased_control.specs.Steps.{central_answer, read_answer}
use Rattle.phased_control.specs.Taken.{Response, class_of_read, keeps_class, seen_if}
use Rattle.phased_control.proofs.AnswerParts.{central_phase, phase_answering, refused_phase}
use Rattle.phased_control.proofs.Encrypted.{known_loudly}
use Rattle.phased_control.proofs.table_laws.Outcomes.{encrypts, own_room, took}
use Rattle.phased_rooms.proofs.Holding.{settled_by}
use Rattle.phased_rooms.proofs.RequestRooms.{most_room, quiet_room, request_room}

-- ---- what a phase keeps of a PDU changes no room

pub room_taking : (pdu : PduClass) (p : PhaseFacts) (progress : Progress)
    → request_room (phase_taking pdu p) progress ≡ request_room p progress
room_taking pdu p (central c) = by pdu p
  where
    by : (pdu : PduClass) (p : PhaseFacts) → request_room (phase_taking pdu p) (central c) ≡ request_room p (central c)
    by enc_rsp_class (Asked after_pause enc_rsp kept) = refl
    by enc_rsp_class p = refl
    by Request (Asked after_pause enc_rsp kept) = refl
    by Request (Pausing kept) = refl
    by Request p = refl
    by pdu p = refl
room_taking pdu p (peripheral q) = refl

-- ---- in Clear and Secure the phase stays, and a request of the own procedure waits while it is not sent

refused_quietly : (pdu : PduClass) (p : PhaseFacts) (b : Bool) → is_quiet p ≡ true
    → refused_phase pdu b (phase_taking pdu p) ≡ p
refused_quietly Refusal Clear true quiet = refl
refused_quietly Refusal Clear false quiet = refl
refused_quietly Refusal Secure true quiet = refl
refused_quietly Refusal Secure false quiet = refl
refused_quietly enc_rsp_class Clear b quiet = refl
refused_quietly enc_rsp_class Secure b quiet = refl
refused_quietly Request Clear b quiet = refl
refused_quietly Request Secure b quiet = refl
refused_quietly pdu Clear b quiet = refl
refused_quietly pdu Secure b quiet = refl
refused_quietly pdu p b quiet = absurd (cc)

central_quietly : (ctrl : Ctrl) (p : PhaseFacts) (b : Bool) → is_quiet p ≡ true
    → central_phase ctrl b (phase_taking (ctrl_class ctrl) p) ≡ p
central_quietly StartEncReq Clear b quiet = refl
central_quietly StartEncReq Secure b quiet = refl
central_quietly StartEncReq p b quiet = absurd (cc)
central_quietly StartEncRsp Clear b quiet = refl
central_quietly StartEncRsp Secure b quiet = refl
central_quietly StartEncRsp p b quiet = absurd (cc)
central_quietly PauseEncRsp Clear b quiet = refl
central_quietly PauseEncRsp Secure b quiet = refl
central_quietly PauseEncRsp p b quiet = absurd (cc)
central_quietly ctrl p b quiet = refused_quietly (ctrl_class ctrl) p b quiet

quiet_stays : (read : CtrlRead) (p : PhaseFacts) (b : Bool) → is_quiet p ≡ true
    → phase_answering central_role read b (phase_taking (class_of_read read) p) ≡ p
quiet_stays (Known ctrl) p b quiet = central_quietly ctrl p b quiet
quiet_stays (Unknown opcode) p b quiet = refl
quiet_stays Bare p b quiet = refl

quiet_none : (b : Bool) → true ≡ not b → b ≡ false
quiet_none true is = absurd (cc)
quiet_none false is = refl

no_encryption : (progress : Progress) → has_encryption progress ≡ false → encrypts progress ≡ false
no_encryption (central c) none = none
no_encryption (peripheral q) none = refl

keeps_own : (f : TableFacts) (read : CtrlRead) (slot : ℕ) (quiet : Bool) → has_encryption f.progress ≡ false
    → own_room f.progress ≤ own_room (took_step f read slot quiet).0.progress
keeps_own f read slot quiet none =
    settled_by (λ (g : TableFacts). own_room f.progress ≤ own_room g.progress) f slot read quiet (omega arith)
    (λ full.
    let keeps = (took f quiet read).keeps in
    let zero : count_if (encrypts f.progress) ≡ 0 = ap count_if (no_encryption f.progress none) in
    omega (arith, keeps, zero))

took_role : (f : TableFacts) (read : CtrlRead) (slot : ℕ) (quiet : Bool)
    → role_of (took_step f read slot quiet).0.progress ≡ role_of f.progress
took_role f read slot quiet =
    settled_by (λ (g : TableFacts). role_of g.progress ≡ role_of f.progress) f slot read quiet refl
    (λ full. (took f quiet read).role)

pub room_quietly : (p : PhaseFacts) (f : TableFacts) (read : CtrlRead) (slot : ℕ) (quiet : Bool) → is_quiet p ≡ true
    → role_of f.progress ≡ central_role
    → is_quiet p ≡ not (has_encryption f.progress)
    → request_room p f.progress ≤ request_room p (took_step f read slot quiet).0.progress
room_quietly p f read slot quiet is role agrees =
    let h1 = keeps_own f read slot quiet (quiet_none (has_encryption f.progress) (sym is ∙ agrees)) in
    let h2 = quiet_room p f.progress is role in
    let h3 = quiet_room p (took_step f read slot quiet).0.progress is (took_role f read slot quiet ∙ role) in
    omega (arith, h1, h2, h3)

-- ---- what is read leaves a phase

-- the table as the procedures have seen what was read
abbrev pub seen : CtrlRead → ℕ → PhaseFacts → TableFacts → TableFacts
seen read slot p f = (took_step f (seen_if (is_unknown p central_role (class_of_read read)) read) slot (is_quiet p)).0

-- the phase then
abbrev pub phase_then : CtrlRead → PhaseFacts → Bool → PhaseFacts
phase_then read p encrypts = phase_answering central_role read encrypts (phase_taking (class_of_read read) p)

-- the room then
abbrev pub room_then : CtrlRead → PhaseFacts → TableFacts → ℕ
room_then read p g = request_room (phase_then read p (has_encryption g.progress)) g.progress

-- the phase lets it in, it is not kept, and no PDU of the encryption answers it
pub record IsUnanswered (response : Response) (read : CtrlRead) (p : PhaseFacts) : Type 0 where
  pub lets : allows p central_role (class_of_read read) ≡ true
  pub keeps : keeps_class (class_of_read read) central_role (is_quiet p) ≡ false
  pub none : read_answer central_role response read (phase_taking (class_of_read read) p) ≡ None

-- ---- after a pause, until LL_START_ENC_REQ or LL_PAUSE_ENC_RSP is answered

abbrev pub is_paused : PhaseFacts → Bool
is_paused (Asked after_pause enc_rsp kept) = after_pause
is_paused (Pausing kept) = true
is_paused p = false

pub paused_room : (p : PhaseFacts) (progress : Progress) → is_paused p ≡ true → request_room p progress ≡ 1
paused_room (Asked true enc_rsp kept) (central c) is = refl
paused_room (Pausing kept) (central c) is = refl
paused_room p (central c) is = absurd (cc)
paused_room p (peripheral q) is = refl

paused_refused : (pdu : PduClass) (p : PhaseFacts) (b : Bool) → is_paused p ≡ true → allows p central_role pdu ≡ true
    → is_paused (refused_phase pdu b (phase_taking pdu p)) ≡ true
paused_refused Refusal (Asked true enc_rsp kept) b is lets = absurd (cc)
paused_refused Refusal (Pausing kept) b is lets = absurd (cc)
paused_refused Refusal p b is lets = absurd (cc)
paused_refused enc_rsp_class (Asked true enc_rsp kept) b is lets = refl
paused_refused enc_rsp_class (Pausing kept) b is lets = refl
paused_refused enc_rsp_class p b is lets = absurd (cc)
paused_refused Request (Asked true enc_rsp kept) b is lets = refl
paused_refused Request (Pausing kept) b is lets = refl
paused_refused Request p b is lets = absurd (cc)
paused_refused pdu p b is lets = is

paused_answered : (ctrl : Ctrl) (p : PhaseFacts) (b : Bool) → is_paused p ≡ true
    → allows p central_role (ctrl_class ctrl) ≡ true → central_answer ctrl (phase_taking (ctrl_class ctrl) p) ≡ None
    → is_paused (central_phase ctrl b (phase_taking (ctrl_class ctrl) p)) ≡ true
paused_answered StartEncReq (Asked true enc_rsp kept) b is lets none = absurd (cc)
paused_answered StartEncReq (Pausing kept) b is lets none = refl
paused_answered StartEncReq p b is lets none = absurd (cc)
paused_answered StartEncRsp (Asked true enc_rsp kept) b is lets none = refl
paused_answered StartEncRsp (Pausing kept) b is lets none = refl
paused_answered StartEncRsp p b is lets none = absurd (cc)
paused_answered PauseEncRsp (Asked true enc_rsp kept) b is lets none = refl
paused_answered PauseEncRsp (Pausing kept) b is lets none = absurd (cc)
paused_answered PauseEncRsp p b is lets none = absurd (cc)
paused_answered ctrl p b is lets none = paused_refused (ctrl_class ctrl) p b is lets

paused_then : (response : Response) (read : CtrlRead) (p : PhaseFacts) (b : Bool) → is_paused p ≡ true
    → IsUnanswered response read p → is_paused (phase_then read p b) ≡ true
paused_then response (Known ctrl) p b is h = paused_answered ctrl p b is h.lets h.none
paused_then response (Unknown opcode) p b is h = is
paused_then response Bare p b is h = is

-- ---- a start: LL_ENC_REQ waits while it is not sent

abbrev unsent : Central → Progress
unsent c = central (record c { own = EncryptUnsent })

-- no PDU that the phase lets in ends the encryption
unsent_stays : (f : TableFacts) (c : Central) (enc_rsp kept quiet : Bool) (ctrl : Ctrl)
    → allows (Asked false enc_rsp kept) central_role (ctrl_class ctrl) ≡ true
    → keeps_class (ctrl_class ctrl) central_role false ≡ false
    → (outcome_of (record f { progress = unsent c }) quiet (Known ctrl)).progress ≡ unsent c
unsent_stays f c enc_rsp kept quiet (TerminateInd code) may keeps = refl
unsent_stays f c enc_rsp kept true (EncRsp skd_s iv_s) may keeps = refl
unsent_stays f c enc_rsp kept false (EncRsp skd_s iv_s) may keeps = refl
unsent_stays f c enc_rsp kept true StartEncReq may keeps = refl
unsent_stays f c enc_rsp kept false StartEncReq may keeps = refl
unsent_stays f c enc_rsp kept quiet (RejectInd code) may keeps = refl
unsent_stays f c enc_rsp kept quiet (RejectExtInd opcode code) may keeps = refl
unsent_stays f c enc_rsp kept quiet other may keeps = absurd (cc)

started_refused : (pdu : PduClass) (c : Central) (enc_rsp kept : Bool)
    → request_room (refused_phase pdu true (phase_taking pdu (Asked false enc_rsp kept))) (unsent c) ≡ 1
started_refused Refusal c enc_rsp kept = refl
started_refused enc_rsp_class c enc_rsp kept = refl
started_refused Request c enc_rsp kept = refl
started_refused pdu c enc_rsp kept = refl

started_answered : (ctrl : Ctrl) (c : Central) (enc_rsp kept : Bool)
    → central_answer ctrl (phase_taking (ctrl_class ctrl) (Asked false enc_rsp kept)) ≡ None
    → request_room (central_phase ctrl true (phase_taking (ctrl_class ctrl) (Asked false enc_rsp kept))) (unsent c) ≡ 1
started_answered StartEncReq c enc_rsp kept none = absurd (cc)
started_answered StartEncRsp c enc_rsp kept none = refl
started_answered PauseEncRsp c enc_rsp kept none = refl
started_answered ctrl c enc_rsp kept none = started_refused (ctrl_class ctrl) c enc_rsp kept

-- ---- where an answer was queued last

half_keyed_none : (progress : Progress) → role_of progress ≡ central_role → request_room HalfKeyed progress ≡ 0
half_keyed_none (central c) role = refl
half_keyed_none (peripheral q) role = absurd (cc)

pub half_clear_none : (kept : Bool) (progress : Progress) → role_of progress ≡ central_role
    → request_room (HalfClear kept) progress ≡ 0
half_clear_none kept (central c) role = refl
half_clear_none kept (peripheral q) role = absurd (cc)

-- ---- in every phase

less_of_none : (p : PhaseFacts) (progress : Progress) (n : ℕ) → request_room p progress ≡ 0
    → request_room p progress ≤ n
less_of_none p progress n is = omega (arith, is)

less_than_one : (p : PhaseFacts) (progress : Progress) (n : ℕ) → n ≡ 1 → request_room p progress ≤ n
less_than_one p progress n is = let h = most_room p progress in omega (arith, h, is)

started_then : (slot : ℕ) (response : Response) (read : CtrlRead) (enc_rsp kept : Bool) (f : TableFacts) (c : Central)
    → IsUnanswered response read (Asked false enc_rsp kept)
    → room_then read (Asked false enc_rsp kept)
    (seen read slot (Asked false enc_rsp kept) (record f { progress = unsent c })) ≡ 1
started_then slot response (Known ctrl) enc_rsp kept f c h =
    let p : PhaseFacts = Asked false enc_rsp kept in
    let here : TableFacts = record f { progress = unsent c } in
    let same : (took_step here (Known ctrl) slot false).0.progress ≡ unsent c =
    settled_by (λ (g : TableFacts). g.progress ≡ unsent c) here slot (Known ctrl) false refl
    (λ full. unsent_stays f c enc_rsp kept false ctrl h.lets h.keeps) in
    subst (λ (u : Bool). room_then (Known ctrl) p (took_step here (seen_if u (Known ctrl)) slot false).0 ≡ 1)
    (sym (known_loudly p (ctrl_class ctrl) refl))
    (subst (λ (q : Progress). request_room (phase_then (Known ctrl) p (has_encryption q)) q ≡ 1) (sym same)
    (started_answered ctrl c enc_rsp kept h.none))
started_then slot response (Unknown opcode) enc_rsp kept f c h = absurd (let lets = h.lets in cc)
started_then slot response Bare enc_rsp kept f c h =
    let p : PhaseFacts = Asked false enc_rsp kept in
    let here : TableFacts = record f { progress = unsent c } in
    let same : (took_step here Bare slot false).0.progress ≡ unsent c =
    settled_by (λ (g : TableFacts). g.progress ≡ unsent c) here slot Bare false refl (λ full. refl) in
    subst (λ (q : Progress). request_room p q ≡ 1) (sym same) refl

module _ (slot : ℕ) (response : Response) (read : CtrlRead) where
  quiet_unanswered : (p : PhaseFacts) (f : TableFacts) → is_quiet p ≡ true → role_of f.progress ≡ central_role
      → is_quiet p ≡ not (has_encryption f.progress) → request_room p f.progress ≤ room_then read p (seen read slot p f)
  quiet_unanswered p f quiet role agrees =
      let g = seen read slot p f in
      subst (λ (q : PhaseFacts). request_room p f.progress ≤ request_room q g.progress)
      (sym (quiet_stays read p (has_encryption g.progress) quiet))
      (room_quietly p f (seen_if (is_unknown p central_role (class_of_read read)) read) slot (is_quiet p) quiet role
      agrees)

  paused_unanswered : (p : PhaseFacts) (f : TableFacts) → is_paused p ≡ true → IsUnanswered response read p
      → request_room p f.progress ≤ room_then read p (seen read slot p f)
  paused_unanswered p f is h =
      let g = seen read slot p f in
      less_than_one p f.progress _
      (paused_room _ g.progress (paused_then response read p (has_encryption g.progress) is h))

  started_unanswered : (enc_rsp kept : Bool) (f : TableFacts) (c : Central) (own : OwnCentral)
      → IsUnanswered response read (Asked false enc_rsp kept)
      → let q = central (record c { own = own }) in
      request_room (Asked false enc_rsp kept) q
      ≤ room_then read (Asked false enc_rsp kept)
      (seen read slot (Asked false enc_rsp kept) (record f { progress = q }))
  started_unanswered enc_rsp kept f c EncryptUnsent h =
      let one = started_then slot response read enc_rsp kept f c h in omega (arith, one)
  started_unanswered enc_rsp kept f c EncryptSent h = omega arith
  started_unanswered enc_rsp kept f c (exclusive stage) h = omega arith
  started_unanswered enc_rsp kept f c (exchange stage) h = omega arith

  pub room_unanswered : (p : PhaseFacts) (f : TableFacts) → role_of f.progress ≡ central_role
      → is_quiet p ≡ not (has_encryption f.progress) → IsUnanswered response read p
      → request_room p f.progress ≤ room_then read p (seen read slot p f)
  room_unanswered Clear f role agrees h = quiet_unanswered Clear f refl role agrees
  room_unanswered Secure f role agrees h = quiet_unanswered Secure f refl role agrees
  room_unanswered (Asked true enc_rsp kept) f role agrees h = paused_unanswered (Asked true enc_rsp kept) f refl h
  room_unanswered (Pausing kept) f role agrees h = paused_unanswered (Pausing kept) f refl h
  room_unanswered (Asked false enc_rsp kept) f role agrees h = by f.progress role
    where
      by : (q : Progress) → role_of q ≡ central_role
          → request_room (Asked false enc_rsp kept) q
          ≤ room_then read (Asked false enc_rsp kept)
          (seen read slot (Asked false enc_rsp kept) (record f { progress = q }))
      by (peripheral q) role = absurd (cc)
      by (central c) role = started_unanswered enc_rsp kept f c c.own h
  room_unanswered HalfKeyed f role agrees h =
      less_of_none HalfKeyed f.progress _ (half_keyed_none f.progress role)
  room_unanswered (HalfClear half) f role agrees h =
      less_of_none (HalfClear half) f.progress _ (half_clear_none half f.progress role)
