-- A peripheral that was asked for encryption after a pause, and whose host has no key, stays outside Clear and Secure.
use Rattle.std.proofs.Common.{◌≡◌, ℕ, Bool, true, false, ◌&&◌, if◌then◌else◌, List, [], ◌∷◌, Option, Some, None, is_none, refl, sym, ap, subst, ◌∙◌}
use Rattle.ble_base.specs.ErrorCodes.{memory_capacity_exceeded, mic_failure, pin_or_key_missing}
use Rattle.ble_base.specs.declared.error_codes.ErrCode.{ErrCode}
use Rattle.ble_base.specs.declared.roles.Role.{Role}
use Rattle.ble_base.specs.declared.roles.Role.TheVariants.{Peripheral}
use Rattle.data_pdu.specs.declared.ctrl.Ctrl.{Ctrl}
use Rattle.data_pdu.specs.declared.ctrl.Ctrl.TheVariants.{EncReq, PauseEncReq, PauseEncRsp, StartEncRsp, TerminateInd}
use Rattle.data_pdu.specs.declared.ctrl.CtrlRead.{CtrlRead}
use Rattle.data_pdu.specs.declared.ctrl.CtrlRead.TheVariants.{Bare, Known, Unknown}
use Rattle.enc_phase.specs.declared.classes.PduClass.{PduClass}
use Rattle.enc_phase.specs.declared.classes.PduClass.TheVariants.{Data, EncRsp, Request}
use Rattle.enc_phase.specs.declared.facts.PhaseFacts.{PhaseFacts}
use Rattle.enc_phase.specs.declared.facts.PhaseFacts.TheVariants.{Asked, Clear, Pausing}
use Rattle.enc_phase.specs.declared.facts.Transition.TheVariants.{Ask, Confirm, Pause, Refuse, Unlock}
use Rattle.enc_phase.specs.Phases.{is_asked, is_quiet, may_follow}
use Rattle.enc_phase.specs.Taking.{allows, phase_taking}
use Rattle.enc_phase.proofs.Steps.{apart}
use Rattle.instants.specs.declared.indications.Params.{Params}
use Rattle.phased_control.specs.control_model.Control.{Step, Answers as control_answers, Asks as control_asks, Disconnects as control_disconnects, Enters as control_enters, Owes, SeesAcknowledged as control_sees_acknowledged, Sends as control_sends, Takes as control_takes}
use Rattle.phased_control.specs.procedures.Beginning.{begin_step}
use Rattle.phased_control.specs.Phased.{Phased, ask_begun, asking_if, asks_again, encrypting, encrypting_if, first_phased, is_encrypt, is_open_now, is_quiet_now, key_given, key_lacking, refused_if, request_of, table_entered, with_owed_if, with_step}
use Rattle.phased_control.specs.Steps.{read_answer, seen_by_procedures}
use Rattle.phased_control.specs.Taken.{PhasedStep, Response, Answers, Asks, Disconnects, Enters, GivesKey, LacksKey, SeesAcknowledged, Sends, Takes, TakesData, class_of_read, ended_with, keeping, phased_after, phased_after_all, phased_moved, role_now, seen_as, took}
use Rattle.phased_control.specs.table_laws.Encrypting.{has_encryption}
use Rattle.phased_control.proofs.AnswerParts.{key_answering, phase_answering}
use Rattle.phased_control.proofs.Answering.{answers, plain_ask, plain_confirm, plain_pause, plain_unlock, with_answer}
use Rattle.phased_control.proofs.control_model.Moving.{same_role}
use Rattle.phased_control.proofs.Kept.{Tied, role_owed, tied_now}
use Rattle.phased_control.proofs.Moving.{open_phased, same_after, same_after_all}
use Rattle.phased_control.proofs.PhaseFacts.{asked_stays, not_asked_quietly}
use Rattle.phased_control.proofs.Taking.{handed_ways, took_ways}

-- asked for encryption, and its host is asked for no key: it was answered, or the link is to end
pub record IsKeyless (s : Phased) : Type 0 where
  pub role : role_now s ≡ Peripheral
  pub asked : is_asked s.phase ≡ true
  pub none : s.asks_key ≡ false

pub keyless_loud : (s : Phased) → IsKeyless s → is_quiet_now s ≡ false
keyless_loud s k = by (is_quiet_now s) refl
  where
    by : (b : Bool) → is_quiet_now s ≡ b → b ≡ false
    by true quiet = absurd (apart k.asked (not_asked_quietly s.phase quiet))
    by false loud = refl

-- ---- steps of the procedures, and PDUs that are owed

stepped : (step : Step) (s : Phased) → IsKeyless s → IsKeyless (with_step step s)
stepped step s k = record { role = same_role Peripheral step s.control k.role; asked = k.asked; none = k.none }

owed : (ctrl : Option Ctrl) (s : Phased) → IsKeyless s → IsKeyless (with_owed_if ctrl s)
owed None s k = k
owed (Some ctrl) s k = stepped (Owes ctrl) s k

in_phase : (p : PhaseFacts) (s : Phased) → IsKeyless s → is_asked p ≡ true → IsKeyless (record s { phase = p })
in_phase p s k asked = record { role = k.role; asked = asked; none = k.none }

entering : (b : Bool) (request : Option Ctrl) (s : Phased) → IsKeyless s → IsKeyless (encrypting_if b request s)
entering false request s k = k
entering true request s k = by s.phase k.asked
  where
    with_request : IsKeyless (record s { request = request })
    with_request = record { role = k.role; asked = k.asked; none = k.none }

    by : (p : PhaseFacts) → is_asked p ≡ true → IsKeyless (encrypting p (record s { request = request }))
    by Clear is = absurd (cc)
    by p is = stepped (Owes PauseEncReq) _ (in_phase _ (record s { request = request }) with_request (asked_stays Pause s.phase plain_pause k.asked))

asking : (b : Bool) (s : Phased) → IsKeyless s → IsKeyless (asking_if b s)
asking true s k = owed s.request _ (in_phase _ s k (asked_stays Ask s.phase plain_ask k.asked))
asking false s k = k

ended : (code : ℕ) (s : Phased) → IsKeyless s → IsKeyless (ended_with code s)
ended code s k = record { role = k.role; asked = k.asked; none = k.none }

-- the host answers nothing that it was not asked
unasked : (s t : Phased) → IsKeyless s → IsKeyless (if s.asks_key && is_open_now s then t else s)
unasked s t k = subst (λ (b : Bool). IsKeyless (if b && is_open_now s then t else s)) (sym k.none) k

-- ---- a control PDU is taken

asked_taking : (pdu : PduClass) (p : PhaseFacts) → is_asked p ≡ true → is_asked (phase_taking pdu p) ≡ true
asked_taking EncRsp (Asked a b c) is = refl
asked_taking Request (Asked a b c) is = refl
asked_taking Request (Pausing a) is = absurd (cc)
asked_taking pdu p is = is

kept : (read : CtrlRead) (s : Phased) → IsKeyless s → IsKeyless (keeping read s)
kept read s k = record { role = k.role; asked = asked_taking (class_of_read read) s.phase k.asked; none = k.none }

seen : (read : CtrlRead) (slot : ℕ) (s : Phased) → IsKeyless s → IsKeyless (seen_by_procedures read slot s)
seen read slot s k =
    record {
      role = same_role Peripheral (control_takes (seen_as read s) slot (is_quiet_now s)) s.control k.role;
      asked = asked_taking (class_of_read read) s.phase k.asked;
      none = k.none;
    }

asked_answering : (read : CtrlRead) (b : Bool) (p : PhaseFacts) → is_asked p ≡ true → is_asked (phase_answering Peripheral read b p) ≡ true
asked_answering (Known (EncReq rand ediv skd_m iv_m)) b p is = asked_stays Ask p plain_ask is
asked_answering (Known PauseEncReq) b p is = asked_stays Pause p plain_pause is
asked_answering (Known StartEncRsp) b p is = asked_stays Confirm p plain_confirm is
asked_answering (Known PauseEncRsp) b p is = asked_stays Unlock p plain_unlock is
asked_answering (Known ctrl) b p is = is
asked_answering (Unknown opcode) b p is = is
asked_answering Bare b p is = is

cannot_ask : (p : PhaseFacts) → is_asked p ≡ true → may_follow Ask p ≡ false
cannot_ask (Asked a b c) is = refl
cannot_ask p is = absurd (cc)

none_answering : (read : CtrlRead) (p : PhaseFacts) (lasts key : Bool) → is_asked p ≡ true → key ≡ false → key_answering Peripheral read p lasts key ≡ false
none_answering (Known (EncReq rand ediv skd_m iv_m)) p lasts key is none = ap (λ (b : Bool). if b then lasts else key) (cannot_ask p is) ∙ none
none_answering (Known ctrl) p lasts key is none = none
none_answering (Unknown opcode) p lasts key is none = none
none_answering Bare p lasts key is none = none

answered : (response : Response) (read : CtrlRead) (s : Phased) → IsKeyless s
    → IsKeyless
    (with_answer (read_answer (role_now s) response read s.phase) (phase_answering (role_now s) read (has_encryption s.control.table.progress) s.phase)
    (key_answering (role_now s) read s.phase (is_open_now s) s.asks_key) s)
answered response read s k =
    record {
      role = role_owed Peripheral (read_answer (role_now s) response read s.phase) s.control k.role;
      asked =
          subst (λ (r : Role). is_asked (phase_answering r read (has_encryption s.control.table.progress) s.phase) ≡ true) (sym k.role)
          (asked_answering read (has_encryption s.control.table.progress) s.phase k.asked);
      none =
          subst (λ (r : Role). key_answering r read s.phase (is_open_now s) s.asks_key ≡ false) (sym k.role)
          (none_answering read s.phase (is_open_now s) s.asks_key k.asked k.none);
    }

taken : (slot : ℕ) (response : Response) (read : CtrlRead) (s : Phased) → IsKeyless s → IsKeyless (took slot response read s)
taken slot response read s k =
    let t = seen_by_procedures read slot s in
    let now = seen read slot s k in
    let then_on = subst IsKeyless (sym (answers t response read)) (answered response read t now) in
    took_ways IsKeyless slot response read s (λ may. ended mic_failure s k) (λ may keeps. kept read s k) (λ may keeps full. ended memory_capacity_exceeded s k)
    (λ may keeps full.
    handed_ways IsKeyless slot response read s (λ code over. now) (λ lasts loud. then_on)
    (λ lasts quiet. absurd (apart quiet (keyless_loud _ then_on))))

taken_data : (b : Bool) (s : Phased) → IsKeyless s → IsKeyless (if b then s else ended_with mic_failure s)
taken_data true s k = k
taken_data false s k = ended mic_failure s k

-- ---- every step

keyless_moved : (step : PhasedStep) (s : Phased) → IsKeyless s → IsKeyless (phased_moved step s)
keyless_moved (Enters slot) s k =
    entering (is_encrypt (begin_step (table_entered s) slot (is_quiet_now s)).1) (request_of (ask_begun (table_entered s) (is_quiet_now s))) _
    (stepped (control_enters slot (is_quiet_now s)) s k)
keyless_moved (Asks ask) s k = stepped (control_asks ask) s k
keyless_moved (Answers answer) s k = stepped (control_answers answer) s k
keyless_moved GivesKey s k = unasked s (key_given s) k
keyless_moved LacksKey s k = unasked s (key_lacking s) k
keyless_moved (Disconnects reason) s k = stepped (control_disconnects reason) s k
keyless_moved (Sends slot) s k = stepped (control_sends slot (is_quiet_now s)) s k
keyless_moved SeesAcknowledged s k = asking (asks_again s) _ (stepped control_sees_acknowledged s k)
keyless_moved (Takes read slot response) s k = taken slot response read s k
keyless_moved TakesData s k = taken_data (allows s.phase (role_now s) Data) s k

pub keyless_stays : (step : PhasedStep) (s : Phased) → IsKeyless s → IsKeyless (phased_after step s)
keyless_stays step s k = by (is_none s.control.ends)
  where
    by : (b : Bool) → IsKeyless (if b then phased_moved step s else s)
    by true = keyless_moved step s k
    by false = k

pub keyless_stays_all : (steps : List PhasedStep) (s : Phased) → IsKeyless s → IsKeyless (phased_after_all steps s)
keyless_stays_all [] s k = k
keyless_stays_all (step ∷ steps) s k = keyless_stays_all steps (phased_after step s) (keyless_stays step s k)

-- ---- it comes to this as its host has no key and the start cannot be refused, which is after a pause

lacks : (b : Bool) (s : Phased) → b ≡ false → Tied Peripheral s → s.asks_key ≡ true → IsKeyless (refused_if b s)
lacks true s after_pause tied key = absurd (cc)
lacks false s after_pause tied key =
    stepped (Owes (TerminateInd pin_or_key_missing)) (record s { asks_key = false })
    (record { role = tied.is_role; asked = tied.asked key; none = refl })

pub keyless_begins : (s : Phased) → Tied Peripheral s → s.control.ends ≡ None → s.asks_key ≡ true → is_open_now s ≡ true → may_follow Refuse s.phase ≡ false
    → IsKeyless (phased_after LacksKey s)
keyless_begins s tied lasts key goes after_pause =
    open_phased IsKeyless LacksKey s lasts
    (subst (λ (b : Bool). IsKeyless (if b then key_lacking s else s)) (sym (λ i. key i && goes i)) (lacks (may_follow Refuse s.phase) s after_pause tied key))

-- also where the link has ended: then nothing is answered
loud_by : (ends : Option ErrCode) (s : Phased) → s.control.ends ≡ ends → Tied Peripheral s → s.asks_key ≡ true → is_open_now s ≡ true → may_follow Refuse s.phase ≡ false
    → (more : List PhasedStep) → is_quiet_now (phased_after_all more (phased_after LacksKey s)) ≡ false
loud_by None s lasts tied key goes after_pause more =
    keyless_loud _ (keyless_stays_all more (phased_after LacksKey s) (keyless_begins s tied lasts key goes after_pause))
loud_by (Some code) s over tied key goes after_pause more =
    subst (λ (t : Phased). is_quiet_now t ≡ false) (sym (same_after_all more (phased_after LacksKey s) code (ap (λ (t : Phased). t.control.ends) same ∙ over) ∙ same))
    (not_quiet s.phase (tied.asked key))
  where
    same : phased_after LacksKey s ≡ s
    same = same_after LacksKey s code over

    not_quiet : (p : PhaseFacts) → is_asked p ≡ true → is_quiet p ≡ false
    not_quiet (Asked a b c) is = refl
    not_quiet p is = absurd (cc)

pub loud_after_all : (max_rx : ℕ) (first : Params) (slot : ℕ) (steps : List PhasedStep)
    → let s = phased_after_all steps (first_phased Peripheral max_rx first slot) in
    s.asks_key ≡ true → is_open_now s ≡ true → may_follow Refuse s.phase ≡ false → (more : List PhasedStep)
    → is_quiet_now (phased_after_all more (phased_after LacksKey s)) ≡ false
loud_after_all max_rx first slot steps key goes after_pause more =
    let s = phased_after_all steps (first_phased Peripheral max_rx first slot) in
    loud_by s.control.ends s refl (tied_now Peripheral max_rx first slot steps) key goes after_pause more
