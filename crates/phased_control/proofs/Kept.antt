-- What an end keeps of a PDU, and when it asks for a key, by its phase.
use Rattle.std.proofs.Common.{◌≡◌, ℕ, Bool, true, false, ◌&&◌, if◌then◌else◌, List, [], ◌∷◌, Option, Some, None, is_none, is_some, refl, sym, ap, subst, ◌∙◌}
use Rattle.std.proofs.lemmas.Bool.{and_parts}
use Rattle.ble_base.specs.ErrorCodes.{memory_capacity_exceeded, mic_failure, pin_or_key_missing}
use Rattle.ble_base.specs.declared.roles.Role.{Role}
use Rattle.ble_base.specs.declared.roles.Role.TheVariants.{Central, Peripheral}
use Rattle.data_pdu.specs.declared.ctrl.Ctrl.{Ctrl}
use Rattle.data_pdu.specs.declared.ctrl.Ctrl.TheVariants.{EncReq, PauseEncReq, PauseEncRsp, RejectExtInd, StartEncReq, StartEncRsp, TerminateInd}
use Rattle.data_pdu.specs.declared.ctrl.CtrlRead.{CtrlRead}
use Rattle.data_pdu.specs.declared.ctrl.CtrlRead.TheVariants.{Known, Unknown, Bare}
use Rattle.enc_phase.specs.declared.classes.PduClass.{PduClass}
use Rattle.enc_phase.specs.declared.classes.PduClass.TheVariants.{Data, Refusal, Request}
use Rattle.enc_phase.specs.declared.facts.PhaseFacts.{PhaseFacts}
use Rattle.enc_phase.specs.declared.facts.PhaseFacts.TheVariants.{Clear, Asked, Secure, HalfClear}
use Rattle.enc_phase.specs.declared.facts.Transition.TheVariants.{Ask as AskTransition, Confirm, Pause, Refuse, Unlock}
use Rattle.enc_phase.specs.Phases.{is_asked, is_quiet, may_follow, phase_after, phase_starting}
use Rattle.enc_phase.specs.Taking.{allows, ctrl_class}
use Rattle.instants.specs.declared.indications.Params.{Params}
use Rattle.table_laws.specs.procedure_stages.Kinds.{role_of}
use Rattle.table_laws.specs.procedure_stages.Opcodes.{enc_req_opcode}
use Rattle.table_laws.specs.procedures.Beginning.{begin_step}
use Rattle.table_laws.specs.Encrypting.{has_encryption}
use Rattle.control_model.specs.Control.{Control, after, after_all, ended}
use Rattle.control_model.specs.Control.{Enters as control_enters, Owes, SeesAcknowledged as control_sees_acknowledged, Sends as control_sends, Takes as control_takes, Asks as control_asks, Answers as control_answers, Disconnects as control_disconnects, Step}
use Rattle.phased_control.specs.Phased.{Phased, ask_begun, asking_if, asks_again, encrypting, encrypting_if, entered, first_phased, is_encrypt, is_open_now, is_pause_rsp, is_quiet_now, key_given, key_lacking, refused_if, request_of, table_entered, with_owed_if, with_step}
use Rattle.phased_control.specs.Taken.{PhasedStep, Response, Answers, Asks, Disconnects, Enters, GivesKey, LacksKey, SeesAcknowledged, Sends, Takes, TakesData, answered_kept, ciphered, class_of_read, ctrl_in, does_keep, ended_with, is_allowed, keeping, keeps_class, phased_after, phased_after_all, phased_moved, role_now, seen_as, took}
use Rattle.phased_control.specs.Steps.{read_answer, owed_steps, seen_by_procedures}
use Rattle.phased_control.proofs.AnswerParts.{key_answering, phase_answering, refused_phase}
use Rattle.phased_control.specs.Ends.{IsFirst, is_half_keyed, says_kept}
use Rattle.phased_control.proofs.Answering.{answers, plain_ask, plain_confirm, plain_pause, plain_unlock}
use Rattle.phased_control.proofs.Moving.{same_kept}
use Rattle.phased_control.proofs.PhaseFacts.{Goes, asked_stays, goes_after, goes_none, goes_starting, is_asked_then, keeps_it, minds, says_none}
use Rattle.control_model.proofs.Moving.{same_role}
use Rattle.phased_control.proofs.Tables.{begins_encryption}
use Rattle.phased_control.proofs.Taking.{handed_ways, took_ways}

pub record Tied (role : Role) (s : Phased) : Type 0 where
  pub is_role : role_now s ≡ role
  -- the phase says whether a PDU is kept, but for HalfKeyed
  pub said : is_half_keyed s.phase ≡ false → is_some s.kept ≡ says_kept s.phase
  pub none : role ≡ Peripheral → s.kept ≡ None
  pub first : IsFirst s.kept
  -- the host of a peripheral is asked for a key in phase Asked alone
  pub asked : s.asks_key ≡ true → is_asked s.phase ≡ true
  pub asked_at : s.asks_key ≡ true → role ≡ Peripheral

false_is_true : {X : Type 0} (b : Bool) → b ≡ false → b ≡ true → X
false_is_true true is1 is2 = absurd (cc)
false_is_true false is1 is2 = absurd (cc)

module _ (role : Role) where
  tied_control : (c : Control) (s : Phased) → role_of c.table.progress ≡ role → Tied role s → Tied role (record s { control = c })
  tied_control c s is tied =
      record { is_role = is; said = tied.said; none = tied.none; first = tied.first; asked = tied.asked; asked_at = tied.asked_at }

  tied_step : (step : Step) (s : Phased) → Tied role s → Tied role (with_step step s)
  tied_step step s tied = tied_control (after step s.control) s (same_role role step s.control tied.is_role) tied

  tied_ended : (code : ℕ) (s : Phased) → Tied role s → Tied role (ended_with code s)
  tied_ended code s tied = tied_control (ended (record { 0 = code }) s.control) s tied.is_role tied

  -- the phase changes to one that is not Clear or Secure
  tied_loud : (q : PhaseFacts) (s : Phased) → Goes s.phase q → is_quiet q ≡ false → (s.asks_key ≡ true → is_asked q ≡ true) → Tied role s
      → Tied role (record s { phase = q })
  tied_loud q s goes loud asked tied =
      record {
        is_role = tied.is_role;
        said = λ keyed. tied.said (goes.unkeyed loud keyed) ∙ sym (goes.kept loud keyed);
        none = tied.none;
        first = tied.first;
        asked = asked;
        asked_at = tied.asked_at;
      }

  tied_owed_if : (request : Option Ctrl) (s : Phased) → Tied role s → Tied role (with_owed_if request s)
  tied_owed_if None s tied = tied
  tied_owed_if (Some ctrl) s tied = tied_step (Owes ctrl) s tied

  tied_request : (request : Option Ctrl) (s : Phased) → Tied role s → Tied role (record s { request = request })
  tied_request request s tied =
      record { is_role = tied.is_role; said = tied.said; none = tied.none; first = tied.first; asked = tied.asked; asked_at = tied.asked_at }

  -- ---- an encryption begins

  tied_encrypting : (p : PhaseFacts) (s : Phased) → s.phase ≡ p → is_quiet p ≡ true → Tied role s → Tied role (encrypting p s)
  tied_encrypting Clear s is quiet tied =
      tied_owed_if s.request (record s { phase = phase_after AskTransition s.phase })
      (tied_loud (phase_after AskTransition s.phase) s (goes_after AskTransition s.phase) (rw is refl)
      (λ key. false_is_true (is_asked s.phase) (rw is refl) (tied.asked key)) tied)
  tied_encrypting Secure s is quiet tied =
      tied_step (Owes PauseEncReq) (record s { phase = phase_after Pause s.phase })
      (tied_loud (phase_after Pause s.phase) s (goes_after Pause s.phase) (rw is refl)
      (λ key. false_is_true (is_asked s.phase) (rw is refl) (tied.asked key)) tied)
  tied_encrypting p s is quiet tied = absurd (cc)

  tied_entered : (slot : ℕ) (s : Phased) → Tied role s → Tied role (entered slot s)
  tied_entered slot s tied = by (is_encrypt (begin_step (table_entered s) slot (is_quiet_now s)).1) refl
    where
      request : Option Ctrl
      request = request_of (ask_begun (table_entered s) (is_quiet_now s))

      by : (b : Bool) → is_encrypt (begin_step (table_entered s) slot (is_quiet_now s)).1 ≡ b
          → Tied role (encrypting_if b request (with_step (control_enters slot (is_quiet_now s)) s))
      by false is = tied_step (control_enters slot (is_quiet_now s)) s tied
      by true is =
          tied_encrypting s.phase (record (with_step (control_enters slot (is_quiet_now s)) s) { request = request }) refl
          (begins_encryption (table_entered s) slot (is_quiet_now s) is).is_quiet
          (tied_request request _ (tied_step (control_enters slot (is_quiet_now s)) s tied))

  -- ---- LL_ENC_REQ follows a pause

  quiet_after_ask : (p : PhaseFacts) → may_follow AskTransition p ≡ true → is_quiet (phase_after AskTransition p) ≡ false
  quiet_after_ask Clear h = refl
  quiet_after_ask (HalfClear kept) h = refl
  quiet_after_ask p h = absurd (cc)

  tied_asking : (b : Bool) (s : Phased) → (b ≡ true → may_follow AskTransition s.phase ≡ true) → Tied role s → Tied role (asking_if b s)
  tied_asking false s may tied = tied
  tied_asking true s may tied =
      tied_owed_if s.request (record s { phase = phase_after AskTransition s.phase })
      (tied_loud (phase_after AskTransition s.phase) s (goes_after AskTransition s.phase) (quiet_after_ask s.phase (may refl))
      (λ key. is_asked_then s.phase (may refl)) tied)

  -- ---- the host of a peripheral has a key, or none

  tied_keyed : (p : PhaseFacts) (s : Phased) → s.phase ≡ p → Tied role s → Tied role (record s { asks_key = false; phase = phase_starting p })
  tied_keyed (Asked after_pause enc_rsp kept) s is tied =
      record {
        is_role = tied.is_role;
        said = λ keyed. absurd (cc);
        none = tied.none;
        first = tied.first;
        asked = λ key. absurd (cc);
        asked_at = λ key. absurd (cc);
      }
  tied_keyed p s is tied =
      record {
        is_role = tied.is_role;
        said = λ keyed. (tied.said (ap (λ (q : PhaseFacts). is_half_keyed q) is ∙ keyed)) ∙ ap (λ (q : PhaseFacts). says_kept q) is;
        none = tied.none;
        first = tied.first;
        asked = λ key. absurd (cc);
        asked_at = λ key. absurd (cc);
      }

  tied_no_key : (s : Phased) → Tied role s → Tied role (record s { asks_key = false })
  tied_no_key s tied =
      record {
        is_role = tied.is_role;
        said = tied.said;
        none = tied.none;
        first = tied.first;
        asked = λ key. absurd (cc);
        asked_at = λ key. absurd (cc);
      }

  refusal_says : (p : PhaseFacts) → may_follow Refuse p ≡ true → says_kept (phase_after Refuse p) ≡ false
  refusal_says (Asked after_pause enc_rsp kept) h = refl
  refusal_says p h = absurd (cc)

  tied_refused : (b : Bool) (s : Phased) → may_follow Refuse s.phase ≡ b → s.asks_key ≡ true → Tied role s → Tied role (refused_if b s)
  tied_refused false s may key tied = tied_step (Owes (TerminateInd pin_or_key_missing)) (record s { asks_key = false }) (tied_no_key s tied)
  tied_refused true s may key tied =
      tied_step (Owes (RejectExtInd enc_req_opcode pin_or_key_missing)) (record s { asks_key = false; phase = phase_after Refuse s.phase })
      (record {
        is_role = tied.is_role;
        said = λ keyed. ap (λ (k : Option Ctrl). is_some k) (tied.none (tied.asked_at key)) ∙ sym (refusal_says s.phase may);
        none = tied.none;
        first = tied.first;
        asked = λ k. absurd (cc);
        asked_at = λ k. absurd (cc);
      })

  tied_if : (b : Bool) (s t : Phased) → (b ≡ true → Tied role t) → Tied role s → Tied role (if b then t else s)
  tied_if true s t then_t tied = then_t refl
  tied_if false s t then_t tied = tied

-- ---- a PDU is kept

keeps_facts : (pdu : PduClass) (role : Role) (quiet : Bool) → keeps_class pdu role quiet ≡ true → (pdu ≡ Request) × (role ≡ Central)
keeps_facts Request Central quiet h = (refl, refl)
keeps_facts Request Peripheral quiet h = absurd (cc)
keeps_facts pdu role quiet h = absurd (cc)

is_first_in : (read : CtrlRead) → class_of_read read ≡ Request → IsFirst (ctrl_in read)
is_first_in (Known ctrl) is = is
is_first_in (Unknown opcode) is = absurd (cc)
is_first_in Bare is = absurd (cc)

is_some_in : (read : CtrlRead) → class_of_read read ≡ Request → is_some (ctrl_in read) ≡ true
is_some_in (Known ctrl) is = refl
is_some_in (Unknown opcode) is = absurd (cc)
is_some_in Bare is = absurd (cc)

pub apart : {X : Type 0} → ◌≡◌ {A = Role} Central Peripheral → X
apart is = absurd (cc)

-- ---- a PDU is answered

goes_refused : (pdu : PduClass) (b : Bool) (p : PhaseFacts) → Goes p (refused_phase pdu b p)
goes_refused Refusal true p = goes_none p
goes_refused Refusal false p = goes_after Refuse p
goes_refused pdu b p = goes_none p

pub goes_answering : (role : Role) (read : CtrlRead) (b : Bool) (p : PhaseFacts) → Goes p (phase_answering role read b p)
goes_answering Central (Known StartEncReq) b p = goes_starting p
goes_answering Central (Known StartEncRsp) b p = goes_after Confirm p
goes_answering Central (Known PauseEncRsp) b p = goes_after Unlock p
goes_answering Central (Known ctrl) b p = goes_refused (ctrl_class ctrl) b p
goes_answering Peripheral (Known (EncReq rand ediv skd_m iv_m)) b p = goes_after AskTransition p
goes_answering Peripheral (Known PauseEncReq) b p = goes_after Pause p
goes_answering Peripheral (Known StartEncRsp) b p = goes_after Confirm p
goes_answering Peripheral (Known PauseEncRsp) b p = goes_after Unlock p
goes_answering Peripheral (Known ctrl) b p = goes_none p
goes_answering role read b p = goes_none p

asked_answering : (role : Role) (read : CtrlRead) (b : Bool) (p : PhaseFacts) (lasts key : Bool) → (key ≡ true → is_asked p ≡ true) → (key ≡ true → role ≡ Peripheral)
    → key_answering role read p lasts key ≡ true → is_asked (phase_answering role read b p) ≡ true
asked_answering Central (Known ctrl) b p lasts key asked at h = apart (at h)
asked_answering Peripheral (Known (EncReq rand ediv skd_m iv_m)) b p lasts key asked at h = by (may_follow AskTransition p) refl h
  where
    by : (may : Bool) → may_follow AskTransition p ≡ may → (if may then lasts else key) ≡ true → is_asked (phase_after AskTransition p) ≡ true
    by true is h = is_asked_then p is
    by false is h = asked_stays AskTransition p plain_ask (asked h)
asked_answering Peripheral (Known PauseEncReq) b p lasts key asked at h = asked_stays Pause p plain_pause (asked h)
asked_answering Peripheral (Known StartEncRsp) b p lasts key asked at h = asked_stays Confirm p plain_confirm (asked h)
asked_answering Peripheral (Known PauseEncRsp) b p lasts key asked at h = asked_stays Unlock p plain_unlock (asked h)
asked_answering Peripheral (Known ctrl) b p lasts key asked at h = asked h
asked_answering role (Unknown opcode) b p lasts key asked at h = asked h
asked_answering role Bare b p lasts key asked at h = asked h

asked_there : (role : Role) (read : CtrlRead) (p : PhaseFacts) (lasts key : Bool) → (key ≡ true → role ≡ Peripheral) → key_answering role read p lasts key ≡ true → role ≡ Peripheral
asked_there Central (Known ctrl) p lasts key at h = at h
asked_there Peripheral read p lasts key at h = refl
asked_there role (Unknown opcode) p lasts key at h = at h
asked_there role Bare p lasts key at h = at h

module _ (role : Role) where
  tied_keeping : (read : CtrlRead) (s : Phased) → is_allowed read s ≡ true → does_keep read s ≡ true → Tied role s → Tied role (keeping read s)
  tied_keeping read s may keeps tied =
      let is = keeps_facts (class_of_read read) (role_now s) (is_quiet_now s) keeps in
      let central : role ≡ Central = sym tied.is_role ∙ is.1 in
      record {
        is_role = tied.is_role;
        said = λ keyed. is_some_in read is.0 ∙ sym (keeps_it (class_of_read read) s.phase (role_now s) may keeps);
        none = λ at. apart (sym central ∙ at);
        first = is_first_in read is.0;
        asked = λ key. apart (sym central ∙ tied.asked_at key);
        asked_at = tied.asked_at;
      }

  tied_seen : (read : CtrlRead) (slot : ℕ) (s : Phased) → is_allowed read s ≡ true → does_keep read s ≡ false → Tied role s → Tied role (seen_by_procedures read slot s)
  tied_seen read slot s may not_kept tied =
      let m = minds (class_of_read read) s.phase (role_now s) may not_kept in
      record {
        is_role = same_role role (control_takes (seen_as read s) slot (is_quiet_now s)) s.control tied.is_role;
        said = λ keyed. tied.said (sym m.keyed ∙ keyed) ∙ sym m.kept;
        none = tied.none;
        first = tied.first;
        asked = λ key. m.asked ∙ tied.asked key;
        asked_at = tied.asked_at;
      }

  pub role_owed : (owed : Option Ctrl) (c : Control) → role_of c.table.progress ≡ role → role_of (after_all (owed_steps owed) c).table.progress ≡ role
  role_owed None c is = is
  role_owed (Some ctrl) c is = same_role role (Owes ctrl) c is

  -- the parts that do not depend on what is kept
  record Half (s : Phased) : Type 0 where
    is_role : role_now s ≡ role
    none : role ≡ Peripheral → s.kept ≡ None
    first : IsFirst s.kept
    asked : s.asks_key ≡ true → is_asked s.phase ≡ true
    asked_at : s.asks_key ≡ true → role ≡ Peripheral

  half_answered : (response : Response) (read : CtrlRead) (s : Phased) → Tied role s → Half (ciphered response read s)
  half_answered response read s tied =
      subst Half (sym (answers s response read))
      (record {
        is_role = role_owed (read_answer (role_now s) response read s.phase) s.control tied.is_role;
        none = tied.none;
        first = tied.first;
        asked = asked_answering (role_now s) read (has_encryption s.control.table.progress) s.phase (is_open_now s) s.asks_key tied.asked (λ key. tied.is_role ∙ tied.asked_at key);
        asked_at = λ key. sym tied.is_role ∙ asked_there (role_now s) read s.phase (is_open_now s) s.asks_key (λ k. tied.is_role ∙ tied.asked_at k) key;
      })

  tied_loudly : (response : Response) (read : CtrlRead) (s : Phased) → is_quiet_now (ciphered response read s) ≡ false → Tied role s → Tied role (ciphered response read s)
  tied_loudly response read s loud tied =
      let t = ciphered response read s in
      let half = half_answered response read s tied in
      let q = phase_answering (role_now s) read (has_encryption s.control.table.progress) s.phase in
      let is : t.phase ≡ q = ap (λ (u : Phased). u.phase) (answers s response read) in
      let goes : Goes s.phase t.phase = subst (λ (p : PhaseFacts). Goes s.phase p) (sym is) (goes_answering (role_now s) read (has_encryption s.control.table.progress) s.phase) in
      let kept : t.kept ≡ s.kept = same_kept response read s in
      record {
        is_role = half.is_role;
        said = λ keyed. ap (λ (k : Option Ctrl). is_some k) kept ∙ tied.said (goes.unkeyed loud keyed) ∙ sym (goes.kept loud keyed);
        none = half.none;
        first = half.first;
        asked = half.asked;
        asked_at = half.asked_at;
      }

  tied_none : (s : Phased) → is_quiet_now s ≡ true → Half s → Tied role (record s { kept = None })
  tied_none s quiet half =
      record {
        is_role = half.is_role;
        said = λ keyed. sym (says_none s.phase quiet);
        none = λ at. refl;
        first = tt;
        asked = half.asked;
        asked_at = half.asked_at;
      }

  tied_known : (known : Bool) (s : Phased) → Tied role s → Tied role (record s { knows_version = known })
  tied_known known s tied =
      record { is_role = tied.is_role; said = tied.said; none = tied.none; first = tied.first; asked = tied.asked; asked_at = tied.asked_at }

  tied_quietly : (slot : ℕ) (s : Phased) → is_quiet_now s ≡ true → Half s → Tied role (answered_kept slot s.kept s)
  tied_quietly slot s quiet half = by s.kept refl
    where
      by : (kept : Option Ctrl) → s.kept ≡ kept → Tied role (answered_kept slot kept s)
      by None is = subst (λ (k : Option Ctrl). Tied role (record s { kept = k })) (sym is) (tied_none s quiet half)
      by (Some ctrl) is = tied_step role (control_takes (Known ctrl) slot true) _ (tied_known _ (record s { kept = None }) (tied_none s quiet half))

  tied_took : (slot : ℕ) (response : Response) (read : CtrlRead) (s : Phased) → Tied role s → Tied role (took slot response read s)
  tied_took slot response read s tied =
      took_ways (Tied role) slot response read s (λ may. tied_ended role mic_failure s tied)
      (λ may. λ keeps. tied_keeping read s may keeps tied)
      (λ may. λ keeps. λ full. tied_ended role memory_capacity_exceeded s tied)
      (λ may. λ keeps. λ full.
      let now = tied_seen read slot s may keeps tied in
      handed_ways (Tied role) slot response read s (λ code. λ over. now)
      (λ lasts. λ loud. tied_loudly response read (seen_by_procedures read slot s) loud now)
      (λ lasts. λ quiet. tied_quietly slot (ciphered response read (seen_by_procedures read slot s)) quiet (half_answered response read (seen_by_procedures read slot s) now)))

  tied_moved : (step : PhasedStep) (s : Phased) → Tied role s → Tied role (phased_moved step s)
  tied_moved (Enters slot) s tied = tied_entered role slot s tied
  tied_moved (Asks ask) s tied = tied_step role (control_asks ask) s tied
  tied_moved (Answers answer) s tied = tied_step role (control_answers answer) s tied
  tied_moved GivesKey s tied =
      tied_if role (s.asks_key && is_open_now s) s (key_given s)
      (λ is. tied_step role (Owes StartEncReq) _ (tied_keyed role s.phase s refl tied)) tied
  tied_moved LacksKey s tied =
      tied_if role (s.asks_key && is_open_now s) s (key_lacking s)
      (λ is. tied_refused role (may_follow Refuse s.phase) s refl (and_parts s.asks_key (is_open_now s) is).0 tied) tied
  tied_moved (Disconnects reason) s tied = tied_step role (control_disconnects reason) s tied
  tied_moved (Sends slot) s tied = tied_step role (control_sends slot (is_quiet_now s)) s tied
  tied_moved SeesAcknowledged s tied =
      tied_asking role (asks_again s) (with_step control_sees_acknowledged s)
      (λ is. (and_parts (may_follow AskTransition s.phase) _ (and_parts (is_pause_rsp s.control.table.out) _ is).1).0)
      (tied_step role control_sees_acknowledged s tied)
  tied_moved (Takes read slot response) s tied = tied_took slot response read s tied
  tied_moved TakesData s tied =
      either (allows s.phase (role_now s) Data) s (ended_with mic_failure s) tied (tied_ended role mic_failure s tied)
    where
      either : (b : Bool) (t u : Phased) → Tied role t → Tied role u → Tied role (if b then t else u)
      either true t u one two = one
      either false t u one two = two

  pub tied_after : (step : PhasedStep) (s : Phased) → Tied role s → Tied role (phased_after step s)
  tied_after step s tied = by (is_none s.control.ends)
    where
      by : (b : Bool) → Tied role (if b then phased_moved step s else s)
      by true = tied_moved step s tied
      by false = tied

  pub tied_after_all : (steps : List PhasedStep) (s : Phased) → Tied role s → Tied role (phased_after_all steps s)
  tied_after_all [] s tied = tied
  tied_after_all (step ∷ steps) s tied = tied_after_all steps (phased_after step s) (tied_after step s tied)

pub tied_first : (role : Role) (max_rx : ℕ) (first : Params) (slot : ℕ) → Tied role (first_phased role max_rx first slot)
tied_first role max_rx first slot =
    record { is_role = by role; said = λ keyed. refl; none = λ at. refl; first = tt; asked = λ key. absurd (cc); asked_at = λ key. absurd (cc) }
  where
    by : (role : Role) → role_of (first_phased role max_rx first slot).control.table.progress ≡ role
    by Central = refl
    by Peripheral = refl

pub tied_now : (role : Role) (max_rx : ℕ) (first : Params) (slot : ℕ) (steps : List PhasedStep) → Tied role (phased_after_all steps (first_phased role max_rx first slot))
tied_now role max_rx first slot steps = tied_after_all role steps (first_phased role max_rx first slot) (tied_first role max_rx first slot)

-- ---- the laws

pub said_now : (role : Role) (max_rx : ℕ) (first : Params) (slot : ℕ) (steps : List PhasedStep)
    → let s = phased_after_all steps (first_phased role max_rx first slot) in
    is_half_keyed s.phase ≡ false → is_some s.kept ≡ says_kept s.phase
said_now role max_rx first slot steps = (tied_now role max_rx first slot steps).said

pub none_quietly : (role : Role) (max_rx : ℕ) (first : Params) (slot : ℕ) (steps : List PhasedStep)
    → let s = phased_after_all steps (first_phased role max_rx first slot) in
    is_quiet_now s ≡ true → s.kept ≡ None
none_quietly role max_rx first slot steps quiet =
    let s = phased_after_all steps (first_phased role max_rx first slot) in
    no_one s.kept (said_now role max_rx first slot steps (unkeyed s.phase quiet) ∙ says_none s.phase quiet)
  where
    unkeyed : (p : PhaseFacts) → is_quiet p ≡ true → is_half_keyed p ≡ false
    unkeyed Clear h = refl
    unkeyed Secure h = refl
    unkeyed p h = absurd (cc)

    no_one : (kept : Option Ctrl) → is_some kept ≡ false → kept ≡ None
    no_one None h = refl
    no_one (Some ctrl) h = absurd (cc)

pub none_at_peripheral : (max_rx : ℕ) (first : Params) (slot : ℕ) (steps : List PhasedStep)
    → (phased_after_all steps (first_phased Peripheral max_rx first slot)).kept ≡ None
none_at_peripheral max_rx first slot steps = (tied_now Peripheral max_rx first slot steps).none refl

pub first_now : (role : Role) (max_rx : ℕ) (first : Params) (slot : ℕ) (steps : List PhasedStep)
    → IsFirst (phased_after_all steps (first_phased role max_rx first slot)).kept
first_now role max_rx first slot steps = (tied_now role max_rx first slot steps).first

pub asked_now : (role : Role) (max_rx : ℕ) (first : Params) (slot : ℕ) (steps : List PhasedStep)
    → let s = phased_after_all steps (first_phased role max_rx first slot) in
    s.asks_key ≡ true → is_asked s.phase ≡ true
asked_now role max_rx first slot steps = (tied_now role max_rx first slot steps).asked

pub never_asked : (max_rx : ℕ) (first : Params) (slot : ℕ) (steps : List PhasedStep)
    → (phased_after_all steps (first_phased Central max_rx first slot)).asks_key ≡ false
never_asked max_rx first slot steps = by _ (tied_now Central max_rx first slot steps).asked_at
  where
    by : (key : Bool) → (key ≡ true → ◌≡◌ {A = Role} Central Peripheral) → key ≡ false
    by false at = refl
    by true at = apart (at refl)
