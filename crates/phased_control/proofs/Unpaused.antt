-- A central that has not paused an encryption has no LL_PAUSE_ENC_RSP: none waits there, and none is sent and not acknowledged.
use Rattle.std.proofs.Common.{◌≡◌, ℕ, Bool, true, false, ◌&&◌, if◌then◌else◌, List, [], ◌∷◌, ◌++◌, Option, Some, None, is_none, refl, sym, ap, subst, ◌∙◌}
use Rattle.std.specs.List.{AllByRecursion}
use Rattle.std.proofs.lemmas.Bool.{and_parts}
use Rattle.ble_base.specs.ErrorCodes.{mic_failure}
use Rattle.ble_base.specs.declared.roles.Role.{Role}
use Rattle.ble_base.specs.declared.roles.Role.TheVariants.{Central}
use Rattle.data_pdu.specs.declared.ctrl.Ctrl.{Ctrl}
use Rattle.data_pdu.specs.declared.ctrl.Ctrl.TheVariants.{EncReq, PauseEncRsp, StartEncReq, StartEncRsp}
use Rattle.data_pdu.specs.declared.ctrl.CtrlRead.{CtrlRead}
use Rattle.data_pdu.specs.declared.ctrl.CtrlRead.TheVariants.{Known, Unknown, Bare}
use Rattle.enc_phase.specs.declared.classes.PduClass.{PduClass}
use Rattle.enc_phase.specs.declared.classes.PduClass.TheVariants.{Data, EncRsp as enc_rsp_class, Refusal, Request}
use Rattle.enc_phase.specs.declared.facts.PhaseFacts.{PhaseFacts}
use Rattle.enc_phase.specs.declared.facts.PhaseFacts.TheVariants.{Clear, Asked, HalfKeyed, Secure, Pausing, HalfClear}
use Rattle.enc_phase.specs.declared.facts.Transition.TheVariants.{Ask as AskTransition, Pause}
use Rattle.enc_phase.specs.Phases.{is_quiet, may_follow, phase_after}
use Rattle.enc_phase.specs.Taking.{allows, ctrl_class, phase_taking}
use Rattle.instants.specs.declared.indications.Params.{Params}
use Rattle.table_laws.specs.procedure_values.declared.drafts.Draft.TheVariants.{Cipher}
use Rattle.table_laws.specs.procedure_values.declared.drafts.Outgoing.{Outgoing}
use Rattle.table_laws.specs.procedure_values.declared.drafts.Outgoing.TheVariants.{Nothing, Other, Rejection, Disconnect}
use Rattle.table_laws.specs.procedures.Beginning.{begin_step}
use Rattle.table_laws.specs.Encrypting.{has_encryption}
use Rattle.control_model.specs.Control.{Control, Step, after_all}
use Rattle.control_model.specs.Control.{Enters as control_enters, SeesAcknowledged as control_sees_acknowledged, Sends as control_sends, Takes as control_takes, Asks as control_asks, Answers as control_answers, Disconnects as control_disconnects}
use Rattle.phased_control.specs.Phased.{Phased, ask_begun, asking_if, asks_again, encrypting, encrypting_if, entered, acknowledged, first_phased, is_encrypt, is_open_now, is_pause_rsp, is_quiet_now, key_given, key_lacking, request_of, table_entered, with_owed_if, with_step}
use Rattle.phased_control.specs.Taken.{PhasedStep, Response, Answers, Asks, Disconnects, Enters, GivesKey, LacksKey, SeesAcknowledged, Sends, Takes, TakesData, answered_kept, ciphered, class_of_read, ended_with, is_allowed, phased_after, phased_moved, role_now, seen_as, took}
use Rattle.phased_control.specs.Steps.{read_answer, owed_steps, seen_by_procedures}
use Rattle.phased_control.proofs.AnswerParts.{phase_answering, refused_phase}
use Rattle.phased_control.specs.Ends.{IsRequest}
use Rattle.phased_control.proofs.Answering.{answers}
use Rattle.phased_control.proofs.Ciphers.{Holds, IsOut, Sort, held_after, held_owing, is_owing}
use Rattle.phased_control.proofs.Kept.{Tied, apart}
use Rattle.control_model.proofs.Moving.{same_role}
use Rattle.phased_control.proofs.Tables.{begins_encryption}
use Rattle.phased_control.proofs.Taking.{handed_ways, took_ways}
use Rattle.phased_control.proofs.PhaseFacts.{follows_no_pause}
use Rattle.phased_control.proofs.PhaseFacts.{phase_owed}

abbrev pub IsOther : Ctrl → Type 0
IsOther ctrl = is_pause_rsp (Other (Cipher ctrl)) ≡ false

abbrev pub AreOther : List Ctrl → Type 0
AreOther ctrls = AllByRecursion IsOther ctrls

sort : Sort AreOther IsOther
sort = record { rest = λ x. λ xs. λ all. all.1; head = λ x. λ xs. λ all. all.0 }

push : (xs : List Ctrl) (x : Ctrl) → AreOther xs → IsOther x → AreOther (xs ++ x ∷ [])
push [] x all is = (is, all)
push (first ∷ xs) x all is = (all.0, push xs x all.1 is)

none_is_out : (out : Outgoing) → IsOut IsOther out → is_pause_rsp out ≡ false
none_is_out (Other (Cipher PauseEncRsp)) is = is.0
none_is_out (Other (Cipher ctrl)) is = refl
none_is_out (Other draft) is = refl
none_is_out Nothing is = refl
none_is_out (Rejection rejection) is = refl
none_is_out (Disconnect code) is = refl

abbrev pub HasNone : Phased → Type 0
HasNone s = Holds AreOther IsOther s.control.table

abbrev pub Unpaused : Phased → Type 0
Unpaused s = follows_no_pause s.phase ≡ true → HasNone s

-- ---- a phase that follows no pause comes from one, and then nothing is owed

refused_back : (pdu : PduClass) (b : Bool) (p : PhaseFacts) → allows p Central pdu ≡ true → follows_no_pause (refused_phase pdu b (phase_taking pdu p)) ≡ true
    → follows_no_pause p ≡ true
refused_back Refusal true p may h = h
refused_back Refusal false (Asked after_pause enc_rsp kept) may h = may
refused_back Refusal false p may h = h
refused_back enc_rsp_class b (Asked after_pause enc_rsp kept) may h = h
refused_back enc_rsp_class b p may h = h
refused_back Request b (Asked after_pause enc_rsp kept) may h = h
refused_back Request b (Pausing kept) may h = h
refused_back Request b p may h = h
refused_back pdu b p may h = h

record Back (p q : PhaseFacts) (owed : Option Ctrl) : Type 0 where
  phase : follows_no_pause q ≡ true → follows_no_pause p ≡ true
  none : follows_no_pause q ≡ true → owed ≡ None

back : (response : Response) (read : CtrlRead) (b : Bool) (p : PhaseFacts) → allows p Central (class_of_read read) ≡ true
    → Back p (phase_answering Central read b (phase_taking (class_of_read read) p)) (read_answer Central response read (phase_taking (class_of_read read) p))
back response (Known StartEncReq) b (Asked after_pause enc_rsp kept) may = record { phase = λ h. absurd (cc); none = λ h. absurd (cc) }
back response (Known StartEncReq) b p may = record { phase = λ h. h; none = λ h. refl }
back response (Known StartEncRsp) b HalfKeyed may = record { phase = λ h. absurd (cc); none = λ h. refl }
back response (Known StartEncRsp) b p may = record { phase = λ h. h; none = λ h. refl }
back response (Known PauseEncRsp) b (Pausing kept) may = record { phase = λ h. absurd (cc); none = λ h. absurd (cc) }
back response (Known PauseEncRsp) b p may = record { phase = λ h. h; none = λ h. refl }
back response (Known ctrl) b p may = record { phase = refused_back (ctrl_class ctrl) b p may; none = λ h. refl }
back response (Unknown opcode) b p may = record { phase = λ h. h; none = λ h. refl }
back response Bare b p may = record { phase = λ h. h; none = λ h. refl }

back_taking : (pdu : PduClass) (p : PhaseFacts) → follows_no_pause (phase_taking pdu p) ≡ follows_no_pause p
back_taking enc_rsp_class (Asked after_pause enc_rsp kept) = refl
back_taking enc_rsp_class p = refl
back_taking Request (Asked after_pause enc_rsp kept) = refl
back_taking Request (Pausing kept) = refl
back_taking Request p = refl
back_taking pdu p = refl

-- ---- the steps

none_step : (step : Step) (s : Phased) → is_owing AreOther IsOther sort step ≡ false → HasNone s → HasNone (with_step step s)
none_step step s is none = held_after AreOther IsOther sort step s.control is none

none_request : (request : Option Ctrl) (s : Phased) → IsRequest request → HasNone s → HasNone (with_owed_if request s)
none_request (Some (EncReq rand ediv skd_m iv_m)) s is none =
    held_owing AreOther IsOther sort (EncReq rand ediv skd_m iv_m) s.control none (λ lasts. push _ (EncReq rand ediv skd_m iv_m) none.waits refl)
none_request (Some other) s is none = absurd is
none_request None s is none = absurd is

none_encrypting : (p : PhaseFacts) (s : Phased) → s.phase ≡ p → is_quiet p ≡ true → IsRequest s.request → Unpaused s → Unpaused (encrypting p s)
none_encrypting Clear s is quiet request unpaused =
    λ h. none_request s.request (record s { phase = phase_after AskTransition s.phase }) request (unpaused (rw is refl))
none_encrypting Secure s is quiet request unpaused =
    λ h. absurd (by (sym (subst (λ (p : PhaseFacts). follows_no_pause (phase_after Pause p) ≡ false) (sym is) refl) ∙ h))
  where
    by : false ≡ true → ⊥
    by e = absurd (cc)
none_encrypting p s is quiet request unpaused = absurd (cc)

none_entered : (slot : ℕ) (s : Phased) → Unpaused s → Unpaused (entered slot s)
none_entered slot s unpaused = by (is_encrypt (begin_step (table_entered s) slot (is_quiet_now s)).1) refl
  where
    request : Option Ctrl
    request = request_of (ask_begun (table_entered s) (is_quiet_now s))

    t : Phased
    t = with_step (control_enters slot (is_quiet_now s)) s

    now : Unpaused t
    now h = none_step (control_enters slot (is_quiet_now s)) s refl (unpaused h)

    by : (b : Bool) → is_encrypt (begin_step (table_entered s) slot (is_quiet_now s)).1 ≡ b → Unpaused (encrypting_if b request t)
    by false h = now
    by true h =
        let begins = begins_encryption (table_entered s) slot (is_quiet_now s) h in
        none_encrypting t.phase (record t { request = request }) refl begins.is_quiet begins.request now

-- only in phase HalfClear LL_ENC_REQ follows a pause
pub asks_in_half_clear : (s : Phased) → asks_again s ≡ true → Unpaused s → follows_no_pause s.phase ≡ false
asks_in_half_clear s is unpaused = by (follows_no_pause s.phase) refl
  where
    out : is_pause_rsp s.control.table.out ≡ true
    out = (and_parts (is_pause_rsp s.control.table.out) _ is).0

    two : true ≡ false → ⊥
    two e = absurd (cc)

    by : (b : Bool) → follows_no_pause s.phase ≡ b → b ≡ false
    by false h = refl
    by true h = absurd (two (sym out ∙ none_is_out s.control.table.out (unpaused h).out))

asked_after_pause : (p : PhaseFacts) → may_follow AskTransition p ≡ true → follows_no_pause p ≡ false → follows_no_pause (phase_after AskTransition p) ≡ false
asked_after_pause (HalfClear kept) may h = refl
asked_after_pause Clear may h = absurd (cc)
asked_after_pause p may h = absurd (cc)

none_acknowledged : (s : Phased) → Unpaused s → Unpaused (acknowledged s)
none_acknowledged s unpaused = by (asks_again s) refl
  where
    t : Phased
    t = with_step control_sees_acknowledged s

    two : false ≡ true → ⊥
    two e = absurd (cc)

    by : (b : Bool) → asks_again s ≡ b → Unpaused (asking_if b t)
    by false is = λ h. none_step control_sees_acknowledged s refl (unpaused h)
    by true is =
        let may = (and_parts (may_follow AskTransition s.phase) _ (and_parts (is_pause_rsp s.control.table.out) _ is).1).0 in
        λ h. absurd (two (sym (asked_after_pause s.phase may (asks_in_half_clear s is unpaused)) ∙ sym (ap (λ (p : PhaseFacts). follows_no_pause p) (phase_owed t.request (record t { phase = phase_after AskTransition t.phase }))) ∙ h))

none_kept : (slot : ℕ) (kept : Option Ctrl) (s : Phased) → Unpaused s → Unpaused (answered_kept slot kept s)
none_kept slot None s unpaused = unpaused
none_kept slot (Some ctrl) s unpaused = λ h. none_step (control_takes (Known ctrl) slot true) s refl (unpaused h)

none_owed : (owed : Option Ctrl) (c : Control) → owed ≡ None → Holds AreOther IsOther c.table → Holds AreOther IsOther (after_all (owed_steps owed) c).table
none_owed None c is none = none
none_owed (Some ctrl) c is none = absurd (cc)

none_took : (slot : ℕ) (response : Response) (read : CtrlRead) (s : Phased) → Tied Central s → Unpaused s → Unpaused (took slot response read s)
none_took slot response read s tied unpaused =
    took_ways Unpaused slot response read s (λ may. unpaused)
    (λ may. λ keeps. λ h. unpaused (sym (back_taking (class_of_read read) s.phase) ∙ h))
    (λ may. λ keeps. λ full. unpaused)
    (λ may. λ keeps. λ full. handed_ways Unpaused slot response read s (λ code. λ over. now) (λ lasts. λ loud. answer may)
    (λ lasts. λ quiet. none_kept slot (ciphered response read t).kept (ciphered response read t) (answer may)))
  where
    t : Phased
    t = seen_by_procedures read slot s

    now : Unpaused t
    now h = none_step (control_takes (seen_as read s) slot (is_quiet_now s)) s refl (unpaused (sym (back_taking (class_of_read read) s.phase) ∙ h))

    role : role_now t ≡ Central
    role = same_role Central (control_takes (seen_as read s) slot (is_quiet_now s)) s.control tied.is_role

    answer : is_allowed read s ≡ true → Unpaused (ciphered response read t)
    answer may =
        let there : allows s.phase Central (class_of_read read) ≡ true = subst (λ (r : Role). allows s.phase r (class_of_read read) ≡ true) tied.is_role may in
        let b = has_encryption t.control.table.progress in
        let came : Back s.phase (phase_answering (role_now t) read b t.phase) (read_answer (role_now t) response read t.phase) =
        subst (λ (r : Role). Back s.phase (phase_answering r read b t.phase) (read_answer r response read t.phase)) (sym role) (back response read b s.phase there) in
        subst Unpaused (sym (answers t response read))
        (λ h. none_owed (read_answer (role_now t) response read t.phase) t.control (came.none h) (now (back_taking (class_of_read read) s.phase ∙ came.phase h)))

none_if : (b : Bool) (s t : Phased) → (b ≡ true → Unpaused t) → Unpaused s → Unpaused (if b then t else s)
none_if true s t next unpaused = next refl
none_if false s t next unpaused = unpaused

none_moved : (step : PhasedStep) (s : Phased) → Tied Central s → Unpaused s → Unpaused (phased_moved step s)
none_moved (Enters slot) s tied unpaused = none_entered slot s unpaused
none_moved (Asks ask) s tied unpaused = λ h. none_step (control_asks ask) s refl (unpaused h)
none_moved (Answers answer) s tied unpaused = λ h. none_step (control_answers answer) s refl (unpaused h)
none_moved GivesKey s tied unpaused =
    none_if (s.asks_key && is_open_now s) s (key_given s) (λ is. apart (tied.asked_at (and_parts s.asks_key (is_open_now s) is).0)) unpaused
none_moved LacksKey s tied unpaused =
    none_if (s.asks_key && is_open_now s) s (key_lacking s) (λ is. apart (tied.asked_at (and_parts s.asks_key (is_open_now s) is).0)) unpaused
none_moved (Disconnects reason) s tied unpaused = λ h. none_step (control_disconnects reason) s refl (unpaused h)
none_moved (Sends slot) s tied unpaused = λ h. none_step (control_sends slot (is_quiet_now s)) s refl (unpaused h)
none_moved SeesAcknowledged s tied unpaused = none_acknowledged s unpaused
none_moved (Takes read slot response) s tied unpaused = none_took slot response read s tied unpaused
none_moved TakesData s tied unpaused = by (allows s.phase (role_now s) Data)
  where
    by : (b : Bool) → Unpaused (if b then s else ended_with mic_failure s)
    by true = unpaused
    by false = unpaused

pub unpaused_after : (step : PhasedStep) (s : Phased) → Tied Central s → Unpaused s → Unpaused (phased_after step s)
unpaused_after step s tied unpaused = by (is_none s.control.ends)
  where
    by : (b : Bool) → Unpaused (if b then phased_moved step s else s)
    by true = none_moved step s tied unpaused
    by false = unpaused

pub unpaused_first : (max_rx : ℕ) (first : Params) (slot : ℕ) → Unpaused (first_phased Central max_rx first slot)
unpaused_first max_rx first slot = λ h. record { waits = tt; out = tt }
