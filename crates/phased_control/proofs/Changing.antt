-- Each change of the phase of an end is one that a phase has, with the PDU that is owed then.
use Rattle.std.proofs.Common.{◌≡◌, ℕ, ◌==◌, Bool, true, false, ◌&&◌, if◌then◌else◌, List, [], ◌∷◌, ◌++◌, Option, Some, None, is_none, refl, sym, ap, subst, ◌∙◌, append-nil, append_assoc}
use Rattle.std.proofs.lemmas.Bool.{and_parts}
use Rattle.ble_base.specs.ErrorCodes.{memory_capacity_exceeded, mic_failure, pin_or_key_missing}
use Rattle.ble_base.specs.declared.roles.Role.{Role}
use Rattle.ble_base.specs.declared.roles.Role.TheVariants.{Central, Peripheral}
use Rattle.data_pdu.specs.declared.ctrl.Ctrl.{Ctrl}
use Rattle.data_pdu.specs.declared.ctrl.Ctrl.TheVariants.{EncReq, PauseEncReq, PauseEncRsp, RejectExtInd, RejectInd, StartEncReq, StartEncRsp, TerminateInd}
use Rattle.data_pdu.specs.declared.ctrl.CtrlRead.{CtrlRead}
use Rattle.data_pdu.specs.declared.ctrl.CtrlRead.TheVariants.{Known, Unknown, Bare}
use Rattle.enc_phase.specs.declared.classes.PduClass.{PduClass}
use Rattle.enc_phase.specs.declared.classes.PduClass.TheVariants.{Data, EncReq as enc_req, Refusal}
use Rattle.enc_phase.specs.declared.facts.PhaseFacts.{PhaseFacts}
use Rattle.enc_phase.specs.declared.facts.PhaseFacts.TheVariants.{Clear, Asked, Secure}
use Rattle.enc_phase.specs.declared.facts.Transition.TheVariants.{Ask as AskTransition, Refuse}
use Rattle.enc_phase.specs.Phases.{is_quiet, may_follow, phase_after}
use Rattle.enc_phase.specs.Taking.{allows, ctrl_class}
use Rattle.instants.specs.declared.indications.Params.{Params}
use Rattle.table_laws.specs.procedure_stages.Opcodes.{enc_req_opcode}
use Rattle.table_laws.specs.procedures.Beginning.{begin_step}
use Rattle.control_model.specs.Control.{Step}
use Rattle.control_model.specs.Control.{Enters as control_enters, SeesAcknowledged as control_sees_acknowledged, Takes as control_takes}
use Rattle.phased_control.specs.Phased.{Phased, acknowledged, ask_begun, asking_if, asks_again, encrypting, encrypting_if, entered, first_phased, is_encrypt, is_open_now, is_pause_rsp, is_quiet_now, key_given, refused_if, request_of, table_entered, with_step}
use Rattle.phased_control.specs.Taken.{PhasedStep, Response, Answers, Asks, Disconnects, Enters, GivesKey, LacksKey, SeesAcknowledged, Sends, Takes, TakesData, answered_if_quiet, answered_kept, ciphered, class_of_read, does_keep, ended_with, handed_on, is_allowed, keeping, lacks_room_now, phased_after, phased_after_all, phased_moved, response_ctrl, role_now, seen_as, took, took_data}
use Rattle.phased_control.specs.Steps.{control_steps, ctrl_if, first_owed, first_owed_if, handed_steps, kept_steps, later_steps, read_answer, owed_steps, seen_by_procedures, taken_steps}
use Rattle.phased_control.specs.Ends.{IsRequest}
use Rattle.phased_control.proofs.Agreeing.{Agrees, Sound, agrees_after, agrees_first, asks_at_central, sound_after, sound_first}
use Rattle.phased_control.proofs.Answering.{answers}
use Rattle.phased_control.proofs.Kept.{Tied}
use Rattle.phased_control.proofs.Moving.{open_phased}
use Rattle.phased_control.proofs.Requests.{encrypts, role_entered}
use Rattle.control_model.proofs.Moving.{same_role}
use Rattle.phased_control.proofs.Tables.{begins_encryption}
use Rattle.phased_control.proofs.Unpaused.{asks_in_half_clear}
use Rattle.enc_phase.specs.Phases.{is_asked, phase_starting}
use Rattle.enc_phase.specs.Taking.{phase_taking}
use Rattle.enc_phase.specs.declared.classes.PduClass.TheVariants.{Other}
use Rattle.enc_phase.specs.declared.facts.Transition.{Transition}
use Rattle.enc_phase.specs.declared.facts.Transition.TheVariants.{Confirm, Pause, Unlock}
use Rattle.phased_control.proofs.AnswerParts.{phase_answering, refused_phase}
use Rattle.phased_control.specs.PhaseChanges.{Change, Moves, Starts, Stays, Took, answer_change, central_change, peripheral_change, first_change, handed_change, change_of, taken_change, changed, may_change, moves_if, step_pdus, all_step_pdus, change_pdus, starts_if}
use Rattle.phased_control.proofs.Answering.{IsPlain, phase_stays, plain_ask, plain_confirm, plain_pause, plain_unlock, start_stays}
use Rattle.phased_control.proofs.PhaseFacts.{phase_owed, loud_in_half_clear, runs}

pub record Changes (role : Role) (change : Change) (p q : PhaseFacts) (owed : List PduClass) : Type 0 where
  pub may : may_change change p ≡ true
  pub phase : q ≡ changed change p
  pub owed_too : owed ≡ change_pdus role change

none_with : (role : Role) → [] ≡ change_pdus role Stays
none_with Central = refl
none_with Peripheral = refl

none_with_took : (role : Role) (pdu : PduClass) → [] ≡ change_pdus role (Took pdu)
none_with_took Central pdu = refl
none_with_took Peripheral pdu = refl

stays : (role : Role) (p q : PhaseFacts) → q ≡ p → Changes role Stays p q []
stays role p q is = record { may = refl; phase = is; owed_too = none_with role }

abbrev queued : Option Ctrl → List PduClass
queued owed = all_step_pdus (owed_steps owed)

-- ---- a PDU is answered

moves_with : (role : Role) (t : Transition) (ctrl : Ctrl) (p : PhaseFacts) → IsPlain t → queued (Some ctrl) ≡ change_pdus role (Moves t)
    → Changes role (moves_if t p) p (phase_after t p) (queued (ctrl_if (may_follow t p) ctrl))
moves_with role t ctrl p plain owed = by (may_follow t p) refl
  where
    by : (b : Bool) → may_follow t p ≡ b → Changes role (if b then Moves t else Stays) p (phase_after t p) (queued (ctrl_if b ctrl))
    by true is = record { may = is; phase = refl; owed_too = owed }
    by false is = stays role p (phase_after t p) (phase_stays t p plain is)

moves_alone : (role : Role) (t : Transition) (p : PhaseFacts) → IsPlain t → [] ≡ change_pdus role (Moves t) → Changes role (moves_if t p) p (phase_after t p) []
moves_alone role t p plain owed = by (may_follow t p) refl
  where
    by : (b : Bool) → may_follow t p ≡ b → Changes role (if b then Moves t else Stays) p (phase_after t p) []
    by true is = record { may = is; phase = refl; owed_too = owed }
    by false is = stays role p (phase_after t p) (phase_stays t p plain is)

starts_with : (p : PhaseFacts) → Changes Central (starts_if (is_asked p)) p (phase_starting p) (queued (ctrl_if (is_asked p) StartEncRsp))
starts_with p = by (is_asked p) refl
  where
    by : (b : Bool) → is_asked p ≡ b → Changes Central (starts_if b) p (phase_starting p) (queued (ctrl_if b StartEncRsp))
    by true is = record { may = is; phase = refl; owed_too = refl }
    by false is = stays Central p (phase_starting p) (start_stays p is)

refuses : (b : Bool) (p : PhaseFacts) → allows p Central Refusal ≡ true → Changes Central (central_change Refusal b p) p (refused_phase Refusal b p) []
refuses true p may = stays Central p p refl
refuses false (Asked true enc_rsp_taken kept) may = absurd (cc)
refuses false (Asked false enc_rsp_taken kept) may = record { may = refl; phase = refl; owed_too = refl }
refuses false Clear may = stays Central Clear Clear refl
refuses false p may = stays Central p p refl

takes_as_it_is : (role : Role) (pdu : PduClass) (p : PhaseFacts) → Changes role (Took pdu) p (phase_taking pdu p) []
takes_as_it_is role pdu p = record { may = refl; phase = refl; owed_too = none_with_took role pdu }

answers_change : (role : Role) (response : Response) (read : CtrlRead) (b : Bool) (p : PhaseFacts) → allows p role (class_of_read read) ≡ true
    → Changes role (answer_change role (class_of_read read) b p) p (phase_answering role read b (phase_taking (class_of_read read) p))
    (queued (read_answer role response read (phase_taking (class_of_read read) p)))
answers_change Central response (Known StartEncReq) b p allowed = starts_with p
answers_change Central response (Known StartEncRsp) b p allowed = moves_alone Central Confirm p plain_confirm refl
answers_change Central response (Known PauseEncRsp) b p allowed = moves_with Central Unlock PauseEncRsp p plain_unlock refl
answers_change Central response (Known (RejectInd code)) b p allowed = refuses b p allowed
answers_change Central response (Known (RejectExtInd opcode code)) b p allowed = by (opcode == 3) allowed
  where
    by : (three : Bool) → let pdu = (if three then Refusal else Other) in
        allows p Central pdu ≡ true → Changes Central (central_change pdu b p) p (refused_phase pdu b (phase_taking pdu p)) []
    by true h = refuses b p h
    by false h = takes_as_it_is Central Other p
answers_change Central response (Known ctrl) b p allowed = takes_as_it_is Central (ctrl_class ctrl) p
answers_change Peripheral response (Known (EncReq rand ediv skd_m iv_m)) b p allowed = moves_with Peripheral AskTransition (response_ctrl response) p plain_ask refl
answers_change Peripheral response (Known PauseEncReq) b p allowed = moves_with Peripheral Pause PauseEncRsp p plain_pause refl
answers_change Peripheral response (Known StartEncRsp) b p allowed = moves_with Peripheral Confirm StartEncRsp p plain_confirm refl
answers_change Peripheral response (Known PauseEncRsp) b p allowed = moves_alone Peripheral Unlock p plain_unlock refl
answers_change Peripheral response (Known (RejectExtInd opcode code)) b p allowed = by (opcode == 3)
  where
    by : (three : Bool) → let pdu = (if three then Refusal else Other) in Changes Peripheral (peripheral_change pdu p) p (phase_taking pdu p) []
    by true = takes_as_it_is Peripheral Refusal p
    by false = takes_as_it_is Peripheral Other p
answers_change Peripheral response (Known ctrl) b p allowed = takes_as_it_is Peripheral (ctrl_class ctrl) p
answers_change Central response (Unknown opcode) b p allowed = takes_as_it_is Central Other p
answers_change Peripheral response (Unknown opcode) b p allowed = takes_as_it_is Peripheral Other p
answers_change Central response Bare b p allowed = takes_as_it_is Central _ p
answers_change Peripheral response Bare b p allowed = takes_as_it_is Peripheral _ p

-- ---- what steps queue

queued_joined : (xs ys : List Step) → all_step_pdus (xs ++ ys) ≡ all_step_pdus xs ++ all_step_pdus ys
queued_joined [] ys = refl
queued_joined (x ∷ xs) ys = ap (λ (pdus : List PduClass). step_pdus x ++ pdus) (queued_joined xs ys) ∙ sym (append_assoc (step_pdus x) (all_step_pdus xs) (all_step_pdus ys))

queued_kept : (b : Bool) (slot : ℕ) (kept : Option Ctrl) → all_step_pdus (if b then kept_steps slot kept else []) ≡ []
queued_kept false slot kept = refl
queued_kept true slot None = refl
queued_kept true slot (Some ctrl) = refl

queued_later : (slot : ℕ) (response : Response) (read : CtrlRead) (t : Phased)
    → all_step_pdus (later_steps slot response read t) ≡ queued (read_answer (role_now t) response read t.phase)
queued_later slot response read t =
    let owed = owed_steps (read_answer (role_now t) response read t.phase) in
    let quiet = is_quiet_now (ciphered response read t) in
    queued_joined owed (if quiet then kept_steps slot t.kept else [])
    ∙ ap (λ (pdus : List PduClass). all_step_pdus owed ++ pdus) (queued_kept quiet slot t.kept) ∙ append-nil (all_step_pdus owed)

-- ---- a PDU is taken

phase_kept : (slot : ℕ) (b : Bool) (kept : Option Ctrl) (u : Phased) → (if b then answered_kept slot kept u else u).phase ≡ u.phase
phase_kept slot false kept u = refl
phase_kept slot true None u = refl
phase_kept slot true (Some ctrl) u = refl

module _ (role : Role) (slot : ℕ) (response : Response) (read : CtrlRead) (s : Phased) (tied : Tied role s) where
  abbrev t : Phased
  t = seen_by_procedures read slot s

  answered_changes : is_allowed read s ≡ true
      → Changes role (answer_change (role_now s) (class_of_read read) (encrypts t) s.phase) s.phase (answered_if_quiet slot (ciphered response read t)).phase
      (all_step_pdus (later_steps slot response read t))
  answered_changes allowed =
      let u = ciphered response read t in
      let role_t : role_now t ≡ role_now s = same_role (role_now s) (control_takes (seen_as read s) slot (is_quiet_now s)) s.control refl in
      let h = answers_change (role_now s) response read (encrypts t) s.phase allowed in
      let phase : (answered_if_quiet slot u).phase ≡ phase_answering (role_now s) read (encrypts t) t.phase =
      phase_kept slot (is_quiet_now u) u.kept u ∙ ap (λ (v : Phased). v.phase) (answers t response read) ∙ ap (λ (r : Role). phase_answering r read (encrypts t) t.phase) role_t in
      let owed : all_step_pdus (later_steps slot response read t) ≡ queued (read_answer (role_now s) response read t.phase) =
      queued_later slot response read t ∙ ap (λ (r : Role). queued (read_answer r response read t.phase)) role_t in
      record {
        may = h.may;
        phase = phase ∙ h.phase;
        owed_too = owed ∙ h.owed_too ∙ ap (λ (r : Role). change_pdus r (answer_change (role_now s) (class_of_read read) (encrypts t) s.phase)) tied.is_role;
      }

  took_changes : Changes role (taken_change read slot s) s.phase (took slot response read s).phase (all_step_pdus (taken_steps slot response read s))
  took_changes = by (is_allowed read s) (does_keep read s) (lacks_room_now read s) refl
    where
      handed : is_allowed read s ≡ true → Changes role (handed_change read slot s) s.phase (handed_on slot response read s).phase (all_step_pdus (handed_steps slot response read s))
      handed allowed = more (is_none t.control.ends)
        where
          more : (b : Bool)
              → Changes role (if b then answer_change (role_now s) (class_of_read read) (encrypts t) s.phase else Took (class_of_read read)) s.phase
              (if b then answered_if_quiet slot (ciphered response read t) else t).phase (all_step_pdus (if b then later_steps slot response read t else []))
          more true = answered_changes allowed
          more false = takes_as_it_is role (class_of_read read) s.phase

      by : (a k f : Bool) → is_allowed read s ≡ a
          → Changes role (if a then (if k then Took (class_of_read read) else (if f then Stays else handed_change read slot s)) else Stays) s.phase
          (if a then (if k then keeping read s else (if f then ended_with memory_capacity_exceeded s else handed_on slot response read s)) else ended_with mic_failure s).phase
          (all_step_pdus (if a then (if k then [] else (if f then [] else handed_steps slot response read s)) else []))
      by false k f is = stays role s.phase s.phase refl
      by true true f is = takes_as_it_is role (class_of_read read) s.phase
      by true false true is = stays role s.phase s.phase refl
      by true false false is = handed is

-- ---- an encryption begins, or goes on after a pause

request_queued : (request : Option Ctrl) → IsRequest request → queued request ≡ enc_req ∷ []
request_queued (Some (EncReq rand ediv skd_m iv_m)) is = refl
request_queued (Some ctrl) is = absurd is
request_queued None is = absurd is

begins_change : (p : PhaseFacts) (request : Option Ctrl) (s : Phased) → s.phase ≡ p → s.request ≡ request → is_quiet p ≡ true → IsRequest request
    → Changes Central (first_change p) p (encrypting p s).phase (queued (first_owed p request))
begins_change Clear request s is same quiet is_request =
    record { may = refl; phase = phase_owed s.request (record s { phase = phase_after AskTransition s.phase }) ∙ ap (phase_after AskTransition) is; owed_too = request_queued request is_request }
begins_change Secure request s is same quiet is_request = record { may = refl; phase = ap (phase_after Pause) is; owed_too = refl }
begins_change p request s is same quiet is_request = absurd (cc)

entered_changes : (role : Role) (slot : ℕ) (s : Phased) → role_now s ≡ role
    → Changes role (change_of (Enters slot) s) s.phase (entered slot s).phase (all_step_pdus (control_steps (Enters slot) s))
entered_changes role slot s is_role = by (is_encrypt (begin_step (table_entered s) slot (is_quiet_now s)).1) refl
  where
    request : Option Ctrl
    request = request_of (ask_begun (table_entered s) (is_quiet_now s))

    t : Phased
    t = with_step (control_enters slot (is_quiet_now s)) s

    by : (b : Bool) → is_encrypt (begin_step (table_entered s) slot (is_quiet_now s)).1 ≡ b
        → Changes role (if b then first_change s.phase else Stays) s.phase (encrypting_if b request t).phase (queued (first_owed_if b s.phase request))
    by false is = stays role s.phase s.phase refl
    by true is =
        let begins = begins_encryption (table_entered s) slot (is_quiet_now s) is in
        subst (λ (r : Role). Changes r (first_change s.phase) s.phase (encrypting_if true request t).phase (queued (first_owed s.phase request)))
        (sym begins.role ∙ role_entered s ∙ is_role) (begins_change s.phase request (record t { request = request }) refl refl begins.is_quiet begins.request)

acked_changes : (role : Role) (s : Phased) → Sound role s → Agrees s
    → Changes role (change_of SeesAcknowledged s) s.phase (acknowledged s).phase (all_step_pdus (control_steps SeesAcknowledged s))
acked_changes role s sound agrees = by (asks_again s) refl
  where
    t : Phased
    t = with_step control_sees_acknowledged s

    by : (b : Bool) → asks_again s ≡ b → Changes role (if b then Moves AskTransition else Stays) s.phase (asking_if b t).phase (queued (if b then s.request else None))
    by false is = stays role s.phase s.phase refl
    by true is =
        let at = asks_at_central role s is sound.requests in
        let may = (and_parts (may_follow AskTransition s.phase) _ (and_parts (is_pause_rsp s.control.table.out) _ is).1).0 in
        let loud = loud_in_half_clear s.phase may (asks_in_half_clear s is (sound.unpaused at)) in
        record {
          may = may;
          phase = phase_owed t.request (record t { phase = phase_after AskTransition t.phase });
          owed_too =
              request_queued s.request (sound.requests.central at (runs (encrypts s) (sym loud ∙ agrees)))
              ∙ ap (λ (r : Role). change_pdus r (Moves AskTransition)) (sym at);
        }

-- ---- the host of a peripheral has a key, or none

given_changes : (role : Role) (s : Phased) → Tied role s → Changes role (change_of GivesKey s) s.phase (phased_moved GivesKey s).phase (all_step_pdus (control_steps GivesKey s))
given_changes role s tied = by (s.asks_key && is_open_now s) refl
  where
    by : (b : Bool) → (s.asks_key && is_open_now s) ≡ b → Changes role (starts_if b) s.phase (if b then key_given s else s).phase (queued (ctrl_if b StartEncReq))
    by false is = stays role s.phase s.phase refl
    by true is =
        let asked = (and_parts s.asks_key (is_open_now s) is).0 in
        record { may = tied.asked asked; phase = refl; owed_too = ap (λ (r : Role). change_pdus r Starts) (sym (tied.asked_at asked)) }

lacking_changes : (role : Role) (s : Phased) → Tied role s → Changes role (change_of LacksKey s) s.phase (phased_moved LacksKey s).phase (all_step_pdus (control_steps LacksKey s))
lacking_changes role s tied = by (s.asks_key && is_open_now s) (may_follow Refuse s.phase) refl refl
  where
    by : (b r : Bool) → (s.asks_key && is_open_now s) ≡ b → may_follow Refuse s.phase ≡ r
        → Changes role (if b then (if r then Moves Refuse else Stays) else Stays) s.phase (if b then refused_if r s else s).phase
        (queued (ctrl_if b (if r then RejectExtInd enc_req_opcode pin_or_key_missing else TerminateInd pin_or_key_missing)))
    by false r is may = stays role s.phase s.phase refl
    by true false is may = stays role s.phase s.phase refl
    by true true is may =
        record { may = may; phase = refl; owed_too = ap (λ (r : Role). change_pdus r (Moves Refuse)) (sym (tied.asked_at (and_parts s.asks_key (is_open_now s) is).0)) }

-- ---- every step

moved_changes : (role : Role) (step : PhasedStep) (s : Phased) → Sound role s → Agrees s
    → Changes role (change_of step s) s.phase (phased_moved step s).phase (all_step_pdus (control_steps step s))
moved_changes role (Enters slot) s sound agrees = entered_changes role slot s sound.tied.is_role
moved_changes role (Asks ask) s sound agrees = stays role s.phase s.phase refl
moved_changes role (Answers answer) s sound agrees = stays role s.phase s.phase refl
moved_changes role GivesKey s sound agrees = given_changes role s sound.tied
moved_changes role LacksKey s sound agrees = lacking_changes role s sound.tied
moved_changes role (Disconnects reason) s sound agrees = stays role s.phase s.phase refl
moved_changes role (Sends slot) s sound agrees = stays role s.phase s.phase refl
moved_changes role SeesAcknowledged s sound agrees = acked_changes role s sound agrees
moved_changes role (Takes read slot response) s sound agrees = took_changes role slot response read s sound.tied
moved_changes role TakesData s sound agrees = stays role s.phase (took_data s).phase (by (allows s.phase (role_now s) Data))
  where
    by : (b : Bool) → (if b then s else ended_with mic_failure s).phase ≡ s.phase
    by true = refl
    by false = refl

record Settled (role : Role) (s : Phased) : Type 0 where
  sound : Sound role s
  agrees : Agrees s

known_all : (role : Role) (steps : List PhasedStep) (s : Phased) → Settled role s → Settled role (phased_after_all steps s)
known_all role [] s known = known
known_all role (step ∷ steps) s known =
    known_all role steps (phased_after step s)
    (record { sound = sound_after role step s known.sound; agrees = agrees_after role step s known.sound known.agrees })

module _ (role : Role) (max_rx : ℕ) (first : Params) (slot : ℕ) (steps : List PhasedStep) (step : PhasedStep) where
  abbrev s : Phased
  s = phased_after_all steps (first_phased role max_rx first slot)

  known : Settled role s
  known = known_all role steps (first_phased role max_rx first slot) (record { sound = sound_first role max_rx first slot; agrees = agrees_first role max_rx first slot })

  changes : s.control.ends ≡ None → Changes role (change_of step s) s.phase (phased_after step s).phase (all_step_pdus (control_steps step s))
  changes lasts =
      open_phased (λ (t : Phased). Changes role (change_of step s) s.phase t.phase (all_step_pdus (control_steps step s))) step s lasts
      (moved_changes role step s known.sound known.agrees)

  -- ---- the laws

  pub may_change_now : s.control.ends ≡ None → may_change (change_of step s) s.phase ≡ true
  may_change_now lasts = (changes lasts).may

  pub phase_changes : s.control.ends ≡ None → (phased_after step s).phase ≡ changed (change_of step s) s.phase
  phase_changes lasts = (changes lasts).phase

  pub owed_with_it : s.control.ends ≡ None → all_step_pdus (control_steps step s) ≡ change_pdus role (change_of step s)
  owed_with_it lasts = (changes lasts).owed_too
