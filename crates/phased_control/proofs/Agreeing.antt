-- The phase is Clear or Secure exactly where no encryption is in progress in the table.
use Rattle.std.proofs.Common.{◌≡◌, ℕ, Bool, true, false, not, ◌&&◌, if◌then◌else◌, List, [], ◌∷◌, Option, Some, None, is_some, refl, sym, ap, subst, ◌∙◌}
use Rattle.std.proofs.lemmas.Bool.{and_parts}
use Rattle.ble_base.specs.ErrorCodes.{mic_failure, pin_or_key_missing}
use Rattle.ble_base.specs.declared.error_codes.ErrCode.{ErrCode}
use Rattle.ble_base.specs.declared.roles.Role.{Role}
use Rattle.ble_base.specs.declared.roles.Role.TheVariants.{Central, Peripheral}
use Rattle.data_pdu.specs.declared.ctrl.Ctrl.{Ctrl}
use Rattle.data_pdu.specs.declared.ctrl.Ctrl.TheVariants.{EncReq, PauseEncReq, PauseEncRsp, RejectExtInd, RejectInd, StartEncReq, StartEncRsp, TerminateInd, UnknownRsp}
use Rattle.data_pdu.specs.declared.ctrl.CtrlRead.{CtrlRead}
use Rattle.data_pdu.specs.declared.ctrl.CtrlRead.TheVariants.{Known, Unknown, Bare}
use Rattle.enc_phase.specs.declared.classes.PduClass.TheVariants.{Data, Other, Refusal, Request}
use Rattle.enc_phase.specs.declared.facts.PhaseFacts.{PhaseFacts}
use Rattle.enc_phase.specs.declared.facts.PhaseFacts.TheVariants.{Clear, Asked, Secure, HalfClear}
use Rattle.enc_phase.specs.declared.facts.Transition.TheVariants.{Ask as AskTransition, Pause, Refuse}
use Rattle.enc_phase.specs.Phases.{is_quiet, may_follow, phase_after, phase_starting}
use Rattle.enc_phase.specs.Taking.{allows, ctrl_class}
use Rattle.instants.specs.declared.indications.Params.{Params}
use Rattle.table_laws.specs.procedure_stages.declared.stages.Progress.{Progress}
use Rattle.table_laws.specs.procedure_stages.declared.stages.Progress.TheVariants.{Central as central, Peripheral as peripheral}
use Rattle.table_laws.specs.procedure_stages.Kinds.{role_of}
use Rattle.table_laws.specs.procedure_stages.Opcodes.{enc_req_opcode}
use Rattle.table_laws.specs.procedures.Beginning.{begin_step}
use Rattle.table_laws.specs.procedures.Calls.{takes}
use Rattle.table_laws.specs.procedures.Encryption.{is_rejection, progress_given}
use Rattle.table_laws.specs.procedures.Table.{TableFacts}
use Rattle.table_laws.specs.procedures.Taking.{took_step}
use Rattle.table_laws.specs.Encrypting.{MayBeginBy, MayEndBy, has_encryption}
use Rattle.control_model.specs.Control.{Control, Step, after, after_all}
use Rattle.control_model.specs.Control.{Enters as control_enters, Owes, SeesAcknowledged as control_sees_acknowledged, Sends as control_sends, Takes as control_takes, Asks as control_asks, Answers as control_answers, Disconnects as control_disconnects}
use Rattle.control_model.proofs.Calls.{any_step, open_step}
use Rattle.phased_control.specs.Phased.{Phased, acknowledged, ask_begun, asking_if, asks_again, encrypting, encrypting_if, entered, first_phased, is_encrypt, is_open_now, is_pause_rsp, is_quiet_now, key_given, key_lacking, refused_if, request_of, table_entered, with_owed_if, with_step}
use Rattle.phased_control.specs.Taken.{PhasedStep, Response, Answers, Asks, Disconnects, Enters, GivesKey, LacksKey, SeesAcknowledged, Sends, Takes, TakesData, answered_kept, ciphered, class_of_read, ended_with, is_allowed, phased_after, phased_after_all, phased_moved, response_ctrl, role_now, seen_as, took}
use Rattle.phased_control.specs.Steps.{ctrl_if, read_answer, owed_steps, seen_by_procedures}
use Rattle.phased_control.proofs.AnswerParts.{phase_answering}
use Rattle.phased_control.specs.Ends.{IsFirst}
use Rattle.phased_control.proofs.Answering.{answers}
use Rattle.phased_control.proofs.Encrypted.{agrees_taken, quiet_taking}
use Rattle.phased_control.proofs.Kept.{Tied, tied_after, tied_first}
use Rattle.phased_control.proofs.Moving.{open_phased, same_after, same_kept}
use Rattle.phased_control.proofs.Requests.{Requests, encrypts, requests_after, requests_first, role_entered}
use Rattle.control_model.proofs.Moving.{same_role}
use Rattle.phased_control.proofs.Tables.{begins_encryption, is_step_apart, leaves_at_central, leaves_encryption, leaves_entering, same_in, takes_as}
use Rattle.phased_control.proofs.Taking.{handed_ways, took_ways}
use Rattle.phased_control.proofs.Unpaused.{Unpaused, asks_in_half_clear, unpaused_after, unpaused_first}
use Rattle.phased_control.proofs.PhaseFacts.{follows_no_pause}
use Rattle.phased_control.proofs.PhaseFacts.{phase_owed}

abbrev pub Agrees : Phased → Type 0
Agrees s = is_quiet s.phase ≡ not (encrypts s)

-- what is known of an end besides
pub record Sound (role : Role) (s : Phased) : Type 0 where
  pub tied : Tied role s
  pub requests : Requests role s
  pub unpaused : role ≡ Central → Unpaused s

agrees_step : (step : Step) (s t : Phased) → has_encryption (after step s.control).table.progress ≡ has_encryption s.control.table.progress → Agrees s
    → t.control ≡ after step s.control → is_quiet t.phase ≡ is_quiet s.phase → Agrees t
agrees_step step s t same agrees control phase =
    phase ∙ agrees ∙ ap not (sym (ap (λ (c : Control). has_encryption c.table.progress) control ∙ same))

apart_step : (step : Step) (s : Phased) → is_step_apart step ≡ true → Agrees s → Agrees (with_step step s)
apart_step step s is agrees = agrees_step step s (with_step step s) (leaves_encryption step s.control is) agrees refl refl

-- ---- an encryption begins

encrypts_owed : (request : Option Ctrl) (s : Phased) → role_now s ≡ Central → encrypts (with_owed_if request s) ≡ encrypts s
encrypts_owed None s role = refl
encrypts_owed (Some ctrl) s role = leaves_at_central ctrl s.control role

agrees_encrypting : (p : PhaseFacts) (s : Phased) → s.phase ≡ p → is_quiet p ≡ true → role_now s ≡ Central → encrypts s ≡ true → Agrees (encrypting p s)
agrees_encrypting Clear s is quiet role has =
    let t : Phased = record s { phase = phase_after AskTransition s.phase } in
    ap is_quiet (phase_owed s.request t ∙ ap (phase_after AskTransition) is) ∙ sym (ap not (encrypts_owed s.request t role ∙ has))
agrees_encrypting Secure s is quiet role has =
    ap is_quiet (ap (phase_after Pause) is) ∙ sym (ap not (leaves_at_central PauseEncReq s.control role ∙ has))
agrees_encrypting p s is quiet role has = absurd (cc)

agrees_entered : (slot : ℕ) (s : Phased) → s.control.ends ≡ None → Agrees s → Agrees (entered slot s)
agrees_entered slot s lasts agrees = by (is_encrypt (begin_step (table_entered s) slot (is_quiet_now s)).1) refl
  where
    request : Option Ctrl
    request = request_of (ask_begun (table_entered s) (is_quiet_now s))

    t : Phased
    t = with_step (control_enters slot (is_quiet_now s)) s

    by : (b : Bool) → is_encrypt (begin_step (table_entered s) slot (is_quiet_now s)).1 ≡ b → Agrees (encrypting_if b request t)
    by false h = agrees ∙ ap not (sym (leaves_entering slot (is_quiet_now s) s.control h))
    by true h =
        let begins = begins_encryption (table_entered s) slot (is_quiet_now s) h in
        let role : role_now s ≡ Central = sym (role_entered s) ∙ begins.role in
        agrees_encrypting t.phase (record t { request = request }) refl begins.is_quiet
        (same_role Central (control_enters slot (is_quiet_now s)) s.control role)
        (open_step (λ (c : Control). has_encryption c.table.progress ≡ true) (control_enters slot (is_quiet_now s)) s.control lasts begins.encrypts)

-- ---- LL_ENC_REQ follows a pause

quiet_asked : (p : PhaseFacts) → follows_no_pause p ≡ false → may_follow AskTransition p ≡ true → is_quiet (phase_after AskTransition p) ≡ is_quiet p
quiet_asked (HalfClear kept) is may = refl
quiet_asked Clear is may = absurd (cc)
quiet_asked p is may = absurd (cc)

has_request : (request : Option Ctrl) → request ≡ None → is_some request ≡ true → ⊥
has_request None is h = absurd (cc)
has_request (Some ctrl) is h = absurd (cc)

pub asks_at_central : (role : Role) (s : Phased) → asks_again s ≡ true → Requests role s → role ≡ Central
asks_at_central Central s is requests = refl
asks_at_central Peripheral s is requests =
    absurd (has_request s.request (requests.peripheral refl) (and_parts (is_open_now s) _ (and_parts (may_follow AskTransition s.phase) _ (and_parts (is_pause_rsp s.control.table.out) _ is).1).1).1)

agrees_acknowledged : (role : Role) (s : Phased) → Sound role s → Agrees s → Agrees (acknowledged s)
agrees_acknowledged role s known agrees = by (asks_again s) refl
  where
    t : Phased
    t = with_step control_sees_acknowledged s

    by : (b : Bool) → asks_again s ≡ b → Agrees (asking_if b t)
    by false is = apart_step control_sees_acknowledged s refl agrees
    by true is =
        let at = asks_at_central role s is known.requests in
        let may = (and_parts (may_follow AskTransition s.phase) _ (and_parts (is_pause_rsp s.control.table.out) _ is).1).0 in
        let u : Phased = record t { phase = phase_after AskTransition t.phase } in
        ap is_quiet (phase_owed t.request u) ∙ quiet_asked s.phase (asks_in_half_clear s is (known.unpaused at)) may ∙ agrees
        ∙ sym (ap not (encrypts_owed t.request u (same_role Central control_sees_acknowledged s.control (known.tied.is_role ∙ at)) ∙ leaves_encryption control_sees_acknowledged s.control refl))

-- ---- the host of a peripheral has a key, or none

quiet_starting : (p : PhaseFacts) → is_quiet (phase_starting p) ≡ is_quiet p
quiet_starting (Asked after_pause enc_rsp kept) = refl
quiet_starting p = refl

quiet_refusing : (p : PhaseFacts) → may_follow Refuse p ≡ true → is_quiet (phase_after Refuse p) ≡ true
quiet_refusing (Asked after_pause enc_rsp kept) may = refl
quiet_refusing p may = absurd (cc)

refused_there : (opcode code : ℕ) (p : Progress) → role_of p ≡ Peripheral → has_encryption (progress_given p (RejectExtInd opcode code)) ≡ false
refused_there opcode code (central c) is = absurd (cc)
refused_there opcode code (peripheral p) is = refl

agrees_refused : (b : Bool) (s : Phased) → may_follow Refuse s.phase ≡ b → role_now s ≡ Peripheral → s.control.ends ≡ None → Agrees s → Agrees (refused_if b s)
agrees_refused false s may role lasts agrees =
    agrees_step (Owes (TerminateInd pin_or_key_missing)) s (refused_if false s) (leaves_encryption (Owes (TerminateInd pin_or_key_missing)) s.control refl) agrees refl refl
agrees_refused true s may role lasts agrees =
    quiet_refusing s.phase may
    ∙ sym (ap not (open_step (λ (c : Control). has_encryption c.table.progress ≡ false) (Owes (RejectExtInd enc_req_opcode pin_or_key_missing)) s.control lasts
    (refused_there enc_req_opcode pin_or_key_missing s.control.table.progress role)))

-- ---- a PDU is taken

abbrev IsNoRejection : Option Ctrl → Type 0
IsNoRejection None = Unit {0}
IsNoRejection (Some ctrl) = is_rejection ctrl ≡ false

no_rejection_if : (b : Bool) (ctrl : Ctrl) → is_rejection ctrl ≡ false → IsNoRejection (ctrl_if b ctrl)
no_rejection_if true ctrl is = is
no_rejection_if false ctrl is = tt

no_rejection : (role : Role) (response : Response) (read : CtrlRead) (p : PhaseFacts) → IsNoRejection (read_answer role response read p)
no_rejection Central response (Known StartEncReq) p = no_rejection_if _ StartEncRsp refl
no_rejection Central response (Known PauseEncRsp) p = no_rejection_if _ PauseEncRsp refl
no_rejection Central response (Known ctrl) p = tt
no_rejection Peripheral response (Known (EncReq rand ediv skd_m iv_m)) p = no_rejection_if _ (response_ctrl response) refl
no_rejection Peripheral response (Known PauseEncReq) p = no_rejection_if _ PauseEncRsp refl
no_rejection Peripheral response (Known StartEncRsp) p = no_rejection_if _ StartEncRsp refl
no_rejection Peripheral response (Known ctrl) p = tt
no_rejection role response (Unknown opcode) p = tt
no_rejection role response Bare p = tt

leaves_owed : (owed : Option Ctrl) (c : Control) → IsNoRejection owed → has_encryption (after_all (owed_steps owed) c).table.progress ≡ has_encryption c.table.progress
leaves_owed None c is = refl
leaves_owed (Some ctrl) c is = leaves_encryption (Owes ctrl) c (ap not is)

-- the first PDU of a procedure begins and ends no encryption
first_leaves : (f : TableFacts) (ctrl : Ctrl) (slot : ℕ) → ctrl_class ctrl ≡ Request → has_encryption (took_step f (Known ctrl) slot true).0.progress ≡ has_encryption f.progress
first_leaves f ctrl slot is = same_in f (takes (Known ctrl) slot true) (begins f.progress ctrl is) (ends f.progress ctrl is)
  where
    rejects : (opcode code : ℕ) (b : Bool) → (if b then Refusal else Other) ≡ Request → ⊥
    rejects opcode code true h = absurd (cc)
    rejects opcode code false h = absurd (cc)

    begins : (p : Progress) (ctrl : Ctrl) → ctrl_class ctrl ≡ Request → MayBeginBy p (takes (Known ctrl) slot true) → ⊥
    begins (central c) ctrl is h = h
    begins (peripheral p) (EncReq rand ediv skd_m iv_m) is h = absurd (cc)
    begins (peripheral p) PauseEncReq is h = absurd (cc)
    begins (peripheral p) ctrl is h = h

    ends : (p : Progress) (ctrl : Ctrl) → ctrl_class ctrl ≡ Request → MayEndBy p (takes (Known ctrl) slot true) → ⊥
    ends (central c) (StartEncRsp) is h = absurd (cc)
    ends (central c) (UnknownRsp opcode) is h = absurd (cc)
    ends (central c) (RejectInd code) is h = absurd (cc)
    ends (central c) (RejectExtInd opcode code) is h = rejects opcode code _ is
    ends (central c) ctrl is h = h
    ends (peripheral p) StartEncRsp is h = absurd (cc)
    ends (peripheral p) ctrl is h = h

leaves_taking : (read : CtrlRead) (slot : ℕ) (quiet : Bool) (c : Control) → c.ends ≡ None → has_encryption (took_step c.table read slot quiet).0.progress ≡ has_encryption c.table.progress
    → has_encryption (after (control_takes read slot quiet) c).table.progress ≡ has_encryption c.table.progress
leaves_taking read slot quiet c lasts same = by (after (control_takes read slot quiet) c).ends refl
  where
    d : Control
    d = after (control_takes read slot quiet) c

    by : (ends : Option ErrCode) → d.ends ≡ ends → has_encryption d.table.progress ≡ has_encryption c.table.progress
    by None is = ap (λ (f : TableFacts). has_encryption f.progress) ((takes_as read slot quiet c lasts).goes is) ∙ same
    by (Some code) is = ap (λ (f : TableFacts). has_encryption f.progress) ((takes_as read slot quiet c lasts).ends code is)

pub agrees_taking : (slot : ℕ) (response : Response) (read : CtrlRead) (role : Role) (s : Phased) → Tied role s → s.control.ends ≡ None
    → is_allowed read s ≡ true → Agrees s → (seen_by_procedures read slot s).control.ends ≡ None → Agrees (ciphered response read (seen_by_procedures read slot s))
agrees_taking slot response read role s tied lasts allowed agrees goes =
    let t = seen_by_procedures read slot s in
    let f = s.control.table in
    let g = (took_step f (seen_as read s) slot (is_quiet_now s)).0 in
    let there : allows s.phase role (class_of_read read) ≡ true = subst (λ (r : Role). allows s.phase r (class_of_read read) ≡ true) tied.is_role allowed in
    let table : t.control.table ≡ g = (takes_as (seen_as read s) slot (is_quiet_now s) s.control lasts).goes goes in
    let here : is_quiet (phase_answering (role_now s) read (has_encryption g.progress) t.phase) ≡ not (has_encryption g.progress) =
    agrees_taken (role_now s) read s.phase f slot refl agrees allowed in
    let role_t : role_now t ≡ role_now s = same_role (role_now s) (control_takes (seen_as read s) slot (is_quiet_now s)) s.control refl in
    let now : is_quiet (phase_answering (role_now t) read (encrypts t) t.phase) ≡ not (encrypts t) =
    subst (λ (h : TableFacts). is_quiet (phase_answering (role_now t) read (has_encryption h.progress) t.phase) ≡ not (has_encryption h.progress)) (sym table)
    (subst (λ (r : Role). is_quiet (phase_answering r read (has_encryption g.progress) t.phase) ≡ not (has_encryption g.progress)) (sym role_t) here) in
    let owed = read_answer (role_now t) response read t.phase in
    let same : has_encryption (after_all (owed_steps owed) t.control).table.progress ≡ encrypts t =
    leaves_owed owed t.control (no_rejection (role_now t) response read t.phase) in
    subst Agrees (sym (answers t response read)) (now ∙ sym (ap not same))

agrees_kept : (slot : ℕ) (kept : Option Ctrl) (s : Phased) → IsFirst kept → s.control.ends ≡ None → Agrees s → Agrees (answered_kept slot kept s)
agrees_kept slot None s first lasts agrees = agrees
agrees_kept slot (Some ctrl) s first lasts agrees =
    agrees ∙ ap not (sym (leaves_taking (Known ctrl) slot true s.control lasts (first_leaves s.control.table ctrl slot first)))

-- a PDU that is owed ends no link
pub lasts_owed : (owed : Option Ctrl) (c : Control) → c.ends ≡ None → (after_all (owed_steps owed) c).ends ≡ None
lasts_owed None c lasts = lasts
lasts_owed (Some ctrl) c lasts = any_step (λ (d : Control). d.ends ≡ None) (Owes ctrl) c lasts lasts

pub lasts_answered : (response : Response) (read : CtrlRead) (s : Phased) → s.control.ends ≡ None → (ciphered response read s).control.ends ≡ None
lasts_answered response read s lasts =
    subst (λ (t : Phased). t.control.ends ≡ None) (sym (answers s response read)) (lasts_owed (read_answer (role_now s) response read s.phase) s.control lasts)

agrees_took : (slot : ℕ) (response : Response) (read : CtrlRead) (role : Role) (s : Phased) → Tied role s → s.control.ends ≡ None → Agrees s
    → Agrees (took slot response read s)
agrees_took slot response read role s tied lasts agrees =
    took_ways Agrees slot response read s (λ no_way. agrees)
    (λ allowed. λ keeps. quiet_taking (class_of_read read) s.phase ∙ agrees)
    (λ allowed. λ keeps. λ full. agrees)
    (λ allowed. λ keeps. λ full. handed_ways Agrees slot response read s
    (λ code. λ over. quiet_taking (class_of_read read) s.phase ∙ agrees
    ∙ ap not (sym (ap (λ (f : TableFacts). has_encryption f.progress) ((takes_as (seen_as read s) slot (is_quiet_now s) s.control lasts).ends code over))))
    (λ goes. λ loud. agrees_taking slot response read role s tied lasts allowed agrees goes)
    (λ goes. λ quiet. agrees_kept slot (ciphered response read t).kept (ciphered response read t)
    (subst IsFirst (sym (same_kept response read t)) tied.first) (lasts_answered response read t goes)
    (agrees_taking slot response read role s tied lasts allowed agrees goes)))
  where
    t : Phased
    t = seen_by_procedures read slot s

-- ---- every step

agrees_if : (b : Bool) (s t : Phased) → (b ≡ true → Agrees t) → Agrees s → Agrees (if b then t else s)
agrees_if true s t next agrees = next refl
agrees_if false s t next agrees = agrees

agrees_moved : (role : Role) (step : PhasedStep) (s : Phased) → Sound role s → s.control.ends ≡ None → Agrees s → Agrees (phased_moved step s)
agrees_moved role (Enters slot) s sound lasts agrees = agrees_entered slot s lasts agrees
agrees_moved role (Asks ask) s sound lasts agrees = apart_step (control_asks ask) s refl agrees
agrees_moved role (Answers answer) s sound lasts agrees = apart_step (control_answers answer) s refl agrees
agrees_moved role GivesKey s sound lasts agrees =
    agrees_if (s.asks_key && is_open_now s) s (key_given s)
    (λ is. agrees_step (Owes StartEncReq) s (key_given s) (leaves_encryption (Owes StartEncReq) s.control refl) agrees refl (quiet_starting s.phase)) agrees
agrees_moved role LacksKey s sound lasts agrees =
    agrees_if (s.asks_key && is_open_now s) s (key_lacking s)
    (λ is. agrees_refused (may_follow Refuse s.phase) s refl (sound.tied.is_role ∙ sound.tied.asked_at (and_parts s.asks_key (is_open_now s) is).0) lasts agrees) agrees
agrees_moved role (Disconnects reason) s sound lasts agrees = apart_step (control_disconnects reason) s refl agrees
agrees_moved role (Sends slot) s sound lasts agrees = apart_step (control_sends slot (is_quiet_now s)) s refl agrees
agrees_moved role SeesAcknowledged s sound lasts agrees = agrees_acknowledged role s sound agrees
agrees_moved role (Takes read slot response) s sound lasts agrees =
    agrees_took slot response read role s sound.tied lasts agrees
agrees_moved role TakesData s sound lasts agrees = by (allows s.phase (role_now s) Data)
  where
    by : (b : Bool) → Agrees (if b then s else ended_with mic_failure s)
    by true = agrees
    by false = agrees

pub agrees_after : (role : Role) (step : PhasedStep) (s : Phased) → Sound role s → Agrees s → Agrees (phased_after step s)
agrees_after role step s sound agrees = by s.control.ends refl
  where
    by : (ends : Option ErrCode) → s.control.ends ≡ ends → Agrees (phased_after step s)
    by None is = open_phased Agrees step s is (agrees_moved role step s sound is agrees)
    by (Some code) is = subst Agrees (sym (same_after step s code is)) agrees

pub sound_after : (role : Role) (step : PhasedStep) (s : Phased) → Sound role s → Sound role (phased_after step s)
sound_after role step s sound =
    record {
      tied = tied_after role step s sound.tied;
      requests = requests_after role step s sound.tied.is_role sound.requests;
      unpaused = λ at. unpaused_after step s (subst (λ (r : Role). Tied r s) at sound.tied) (sound.unpaused at);
    }

pub sound_first : (role : Role) (max_rx : ℕ) (first : Params) (slot : ℕ) → Sound role (first_phased role max_rx first slot)
sound_first role max_rx first slot =
    record {
      tied = tied_first role max_rx first slot;
      requests = requests_first role max_rx first slot;
      unpaused = λ at. subst (λ (r : Role). Unpaused (first_phased r max_rx first slot)) (sym at) (unpaused_first max_rx first slot);
    }

pub agrees_first : (role : Role) (max_rx : ℕ) (first : Params) (slot : ℕ) → Agrees (first_phased role max_rx first slot)
agrees_first Central max_rx first slot = refl
agrees_first Peripheral max_rx first slot = refl

agrees_all : (role : Role) (steps : List PhasedStep) (s : Phased) → Sound role s → Agrees s → Agrees (phased_after_all steps s)
agrees_all role [] s sound agrees = agrees
agrees_all role (step ∷ steps) s sound agrees =
    agrees_all role steps (phased_after step s) (sound_after role step s sound) (agrees_after role step s sound agrees)

-- the law
pub agrees_now : (role : Role) (max_rx : ℕ) (first : Params) (slot : ℕ) (steps : List PhasedStep)
    → let s = phased_after_all steps (first_phased role max_rx first slot) in
    is_quiet_now s ≡ not (has_encryption s.control.table.progress)
agrees_now role max_rx first slot steps =
    agrees_all role steps (first_phased role max_rx first slot) (sound_first role max_rx first slot) (agrees_first role max_rx first slot)
