-- What each step of the control part of an end keeps, each step of the end keeps, in all phases of encryption.
use Rattle.std.proofs.Common.{◌≡◌, ℕ, ◌&&◌, Bool, true, false, if◌then◌else◌, List, [], ◌∷◌, ◌++◌, Option, Some, None, is_none, refl, sym, subst}
use Rattle.std.specs.Prelude.{⊤}
use Rattle.std.specs.List.{AllByRecursion}
use Rattle.ble_base.specs.ErrorCodes.{mic_failure, pin_or_key_missing}
use Rattle.ble_base.specs.declared.error_codes.ErrCode.{ErrCode}
use Rattle.ble_base.specs.declared.roles.Role.{Role}
use Rattle.ble_base.specs.declared.roles.Role.TheVariants.{Central, Peripheral}
use Rattle.data_pdu.specs.Reading.{opcode_of}
use Rattle.data_pdu.specs.declared.ctrl.Ctrl.{Ctrl}
use Rattle.data_pdu.specs.declared.ctrl.Ctrl.TheVariants.{EncReq, PauseEncReq, PauseEncRsp, RejectExtInd, StartEncReq, StartEncRsp, TerminateInd}
use Rattle.data_pdu.specs.declared.ctrl.CtrlRead.{CtrlRead}
use Rattle.data_pdu.specs.declared.ctrl.CtrlRead.TheVariants.{Bare, Known, Unknown}
use Rattle.link_model.specs.enc_phase.declared.classes.PduClass.TheVariants.{Data}
use Rattle.link_model.specs.enc_phase.declared.facts.PhaseFacts.{PhaseFacts}
use Rattle.link_model.specs.enc_phase.declared.facts.PhaseFacts.TheVariants.{Clear}
use Rattle.link_model.specs.enc_phase.declared.facts.Transition.TheVariants.{Ask as AskTransition, Confirm, Pause, Refuse, Unlock}
use Rattle.link_model.specs.enc_phase.Phases.{is_asked, may_follow, phase_after}
use Rattle.link_model.specs.enc_phase.Taking.{allows}
use Rattle.link_model.specs.procedure_stages.Opcodes.{enc_req_opcode}
use Rattle.link_model.specs.procedure_values.declared.asks.Ask.{Ask}
use Rattle.link_model.specs.procedure_values.declared.asks.Ask.TheVariants.{Encrypt}
use Rattle.link_model.specs.procedures.Beginning.{begin_step}
use Rattle.link_model.specs.control_model.Control.{Control, Step as ControlStep, Owes, SeesAcknowledged as control_sees_acknowledged, Takes as control_takes, Enters as control_enters, after, after_all, ended}
use Rattle.link_model.specs.keyed_control.Keyed.{Keyed}
use Rattle.link_model.specs.keyed_control.KeyedSteps.{KeyedStep, keyed_after, keyed_after_all, phased_step}
use Rattle.link_model.specs.phased_control.Phased.{Phased, ask_begun, asking_if, asks_again, encrypting, encrypting_if, is_encrypt, is_open_now, is_quiet_now, key_given, refused_if, request_of, table_entered, with_owed_if, with_step}
use Rattle.link_model.specs.phased_control.Steps.{control_steps, ctrl_if, end_by_phase, ended_if, first_owed_if, handed_steps, kept_steps, later_steps, owed_steps, owed_without_key, read_answer, seen_by_procedures, taken_steps}
use Rattle.link_model.specs.phased_control.Taken.{PhasedStep, Response, Answers, Asks, Disconnects, Enters, GivesKey, LacksKey, SeesAcknowledged, Sends, Takes, TakesData, answered_kept, ciphered, ctrl_in, does_keep, ended_with, is_allowed, lacks_room_now, phased_after, phased_moved, role_now, seen_if, took}
use Rattle.link_model.specs.End.{facts_after}
use Rattle.link_model.specs.Facts.{Facts, keyed_of}
use Rattle.link_model.specs.KeyedSteps.{is_forged_in_step, keyed_steps_in}
use Rattle.link_model.specs.Setup.{Setup}
use Rattle.link_model.specs.Step.{Step}
use Rattle.link_model.proofs.KeyedSteps.{forged_ends, one_step}
use Rattle.link_model.proofs.KnownEnds.{IsPast, past_knows}
use Rattle.link_model.proofs.Views.{MayOwe, is_ciphering}
use Rattle.link_model.proofs.phased_end.keyed_control.Phases.{after_one, phased_once}
use Rattle.link_model.proofs.phased_end.keyed_control.phased_control.Answering.{answers}
use Rattle.link_model.proofs.phased_end.keyed_control.phased_control.Moving.{open_moves}
use Rattle.link_model.proofs.phased_end.keyed_control.phased_control.Taking.{handed_ways, took_ways}
use Rattle.link_answers.specs.Owing.{opens_by}

-- ---- the PDUs of an encryption that an end owes

may_if : (b : Bool) (ctrl : Ctrl) → is_ciphering ctrl ≡ true → MayOwe (ctrl_if b ctrl)
may_if true ctrl is = is
may_if false ctrl is = tt

may_request : (asked : Option Ask) → MayOwe (request_of asked)
may_request None = tt
may_request (Some (Encrypt rand ediv ltk skd_m iv_m)) = refl
may_request (Some other) = tt

may_enter : (begins : Bool) (phase : PhaseFacts) (asked : Option Ask) → MayOwe (first_owed_if begins phase (request_of asked))
may_enter false phase asked = tt
may_enter true Clear asked = may_request asked
may_enter true phase asked = refl

may_again : (asks : Bool) (request : Option Ctrl) → MayOwe request → MayOwe (if asks then request else None)
may_again true request may = may
may_again false request may = tt

may_lack : (refuses : Bool) → is_ciphering (if refuses then RejectExtInd enc_req_opcode pin_or_key_missing else TerminateInd pin_or_key_missing) ≡ true
may_lack true = refl
may_lack false = refl

may_answer : (role : Role) (response : Response) (read : CtrlRead) (phase : PhaseFacts) → MayOwe (read_answer role response read phase)
may_answer Central response (Known StartEncReq) phase = may_if (is_asked phase) StartEncRsp refl
may_answer Central response (Known PauseEncRsp) phase = may_if (may_follow Unlock phase) PauseEncRsp refl
may_answer Central response (Known ctrl) phase = tt
may_answer Peripheral response (Known (EncReq rand ediv skd_m iv_m)) phase = may_if (may_follow AskTransition phase) _ refl
may_answer Peripheral response (Known PauseEncReq) phase = may_if (may_follow Pause phase) PauseEncRsp refl
may_answer Peripheral response (Known StartEncRsp) phase = may_if (may_follow Confirm phase) StartEncRsp refl
may_answer Peripheral response (Known ctrl) phase = tt
may_answer role response (Unknown opcode) phase = tt
may_answer role response Bare phase = tt

-- ---- steps in which no PDU passes a test, where none does that has no meaning at the end

module _ (opens : CtrlRead → Bool) where
  abbrev pub MayCome : ControlStep → Type 0
  MayCome (control_takes read slot quiet) = opens read ≡ false
  MayCome (Owes ctrl) = is_ciphering ctrl ≡ true
  MayCome step = ⊤

  abbrev MayBe : Option PhasedStep → Type 0
  MayBe None = ⊤
  MayBe (Some (Takes read slot response)) = opens read ≡ false
  MayBe (Some step) = ⊤

  -- a step of an end
  abbrev pub MayMake : KeyedStep → Type 0
  MayMake step = MayBe (phased_step step)

  -- ---- what an end has in hand: the PDU that it keeps passes no such test, and its request is one of encryption

  pub record Hand (s : Phased) : Type 0 where
    pub kept : opens_by opens s.kept ≡ false
    pub request : MayOwe s.request

  -- and this holds of its control part
  pub record Keeps (P : Control → Type 0) (s : Phased) : Type 0 where
    pub control : P s.control
    pub hand : Hand s

  hand_owed : (request : Option Ctrl) (s : Phased) → Hand s → Hand (with_owed_if request s)
  hand_owed None s h = h
  hand_owed (Some ctrl) s h = record { kept = h.kept; request = h.request }

  hand_encrypting : (phase : PhaseFacts) (s : Phased) → Hand s → Hand (encrypting phase s)
  hand_encrypting Clear s h =
      hand_owed s.request (record s { phase = phase_after AskTransition s.phase }) (record { kept = h.kept; request = h.request })
  hand_encrypting phase s h = record { kept = h.kept; request = h.request }

  hand_entered : (begins : Bool) (asked : Option Ask) (s : Phased) → Hand s → Hand (encrypting_if begins (request_of asked) s)
  hand_entered true asked s h =
      hand_encrypting s.phase (record s { request = request_of asked }) (record { kept = h.kept; request = may_request asked })
  hand_entered false asked s h = h

  hand_asking : (b : Bool) (s : Phased) → Hand s → Hand (asking_if b s)
  hand_asking true s h =
      hand_owed s.request (record s { phase = phase_after AskTransition s.phase }) (record { kept = h.kept; request = h.request })
  hand_asking false s h = h

  hand_if : (b : Bool) (s t : Phased) → Hand s → Hand t → Hand (if b then t else s)
  hand_if true s t h later = later
  hand_if false s t h later = h

  hand_refused : (b : Bool) (s : Phased) → Hand s → Hand (refused_if b s)
  hand_refused true s h = record { kept = h.kept; request = h.request }
  hand_refused false s h = record { kept = h.kept; request = h.request }

  keeps_it : (read : CtrlRead) → opens read ≡ false → opens_by opens (ctrl_in read) ≡ false
  keeps_it (Known ctrl) is = is
  keeps_it (Unknown opcode) is = refl
  keeps_it Bare is = refl

  hand_kept : (slot : ℕ) (kept : Option Ctrl) (s : Phased) → Hand s → Hand (answered_kept slot kept s)
  hand_kept slot None s h = h
  hand_kept slot (Some ctrl) s h = record { kept = refl; request = h.request }

  hand_took : (slot : ℕ) (response : Response) (read : CtrlRead) (s : Phased) → opens read ≡ false → Hand s → Hand (took slot response read s)
  hand_took slot response read s is h =
      let seen = seen_by_procedures read slot s in
      let answered : Hand (ciphered response read seen) =
      subst Hand (sym (answers seen response read)) (record { kept = h.kept; request = h.request }) in
      took_ways Hand slot response read s (λ may. record { kept = h.kept; request = h.request })
      (λ may. λ keeps. record { kept = keeps_it read is; request = h.request })
      (λ may. λ keeps. λ full. record { kept = h.kept; request = h.request })
      (λ may. λ keeps. λ full. handed_ways Hand slot response read s (λ code. λ over. record { kept = h.kept; request = h.request })
      (λ lasts. λ loud. answered)
      (λ lasts. λ quiet. hand_kept slot (ciphered response read seen).kept (ciphered response read seen) answered))

  hand_moved : (step : PhasedStep) (s : Phased) → MayBe (Some step) → Hand s → Hand (phased_moved step s)
  hand_moved (Enters slot) s may h =
      hand_entered (is_encrypt (begin_step (table_entered s) slot (is_quiet_now s)).1) (ask_begun (table_entered s) (is_quiet_now s))
      (with_step (control_enters slot (is_quiet_now s)) s) (record { kept = h.kept; request = h.request })
  hand_moved (Asks ask) s may h = record { kept = h.kept; request = h.request }
  hand_moved (Answers answer) s may h = record { kept = h.kept; request = h.request }
  hand_moved GivesKey s may h =
      hand_if (s.asks_key && is_open_now s) s (key_given s) h (record { kept = h.kept; request = h.request })
  hand_moved LacksKey s may h =
      hand_if (s.asks_key && is_open_now s) s _ h (hand_refused (may_follow Refuse s.phase) s h)
  hand_moved (Disconnects reason) s may h = record { kept = h.kept; request = h.request }
  hand_moved (Sends slot) s may h = record { kept = h.kept; request = h.request }
  hand_moved SeesAcknowledged s may h =
      hand_asking (asks_again s) (with_step control_sees_acknowledged s) (record { kept = h.kept; request = h.request })
  hand_moved (Takes read slot response) s may h = hand_took slot response read s may h
  hand_moved TakesData s may h =
      hand_if (allows s.phase (role_now s) Data) (ended_with mic_failure s) s (record { kept = h.kept; request = h.request }) h

  -- ---- the steps of its control part

  module _ (unknown : (opcode : ℕ) → opens (Unknown opcode) ≡ false) where
    both : (steps more : List ControlStep) → AllByRecursion MayCome steps → AllByRecursion MayCome more
        → AllByRecursion MayCome (steps ++ more)
    both [] more one other = other
    both (step ∷ steps) more one other = (one.0, both steps more one.1 other)

    owed_may : (owed : Option Ctrl) → MayOwe owed → AllByRecursion MayCome (owed_steps owed)
    owed_may None may = tt
    owed_may (Some ctrl) may = (may, tt)

    kept_may : (b : Bool) (slot : ℕ) (kept : Option Ctrl) → opens_by opens kept ≡ false
        → AllByRecursion MayCome (if b then kept_steps slot kept else [])
    kept_may false slot kept is = tt
    kept_may true slot None is = tt
    kept_may true slot (Some ctrl) is = (is, tt)

    seen_may : (b : Bool) (read : CtrlRead) → opens read ≡ false → opens (seen_if b read) ≡ false
    seen_may true (Known ctrl) is = unknown (opcode_of ctrl)
    seen_may false (Known ctrl) is = is
    seen_may true (Unknown opcode) is = is
    seen_may false (Unknown opcode) is = is
    seen_may true Bare is = is
    seen_may false Bare is = is

    handed_may : (slot : ℕ) (response : Response) (read : CtrlRead) (s : Phased) → opens read ≡ false → Hand s
        → AllByRecursion MayCome (handed_steps slot response read s)
    handed_may slot response read s is h = (seen_may _ read is, by (is_none (seen_by_procedures read slot s).control.ends))
      where
        t : Phased
        t = seen_by_procedures read slot s

        by : (b : Bool) → AllByRecursion MayCome (if b then later_steps slot response read t else [])
        by true =
            both (owed_steps (read_answer (role_now t) response read t.phase)) _
            (owed_may (read_answer (role_now t) response read t.phase) (may_answer (role_now t) response read t.phase))
            (kept_may (is_quiet_now (ciphered response read t)) slot t.kept h.kept)
        by false = tt

    taken_may : (slot : ℕ) (response : Response) (read : CtrlRead) (s : Phased) → opens read ≡ false → Hand s
        → AllByRecursion MayCome (taken_steps slot response read s)
    taken_may slot response read s is h = by (is_allowed read s) (does_keep read s) (lacks_room_now read s)
      where
        by : (allowed keeps full : Bool)
            → AllByRecursion MayCome (if allowed then (if keeps then [] else (if full then [] else handed_steps slot response read s)) else [])
        by false keeps full = tt
        by true true full = tt
        by true false true = tt
        by true false false = handed_may slot response read s is h

    steps_may : (step : PhasedStep) (s : Phased) → MayBe (Some step) → Hand s → AllByRecursion MayCome (control_steps step s)
    steps_may (Enters slot) s may h =
        (tt, owed_may _ (may_enter (is_encrypt (begin_step (table_entered s) slot (is_quiet_now s)).1) s.phase (ask_begun (table_entered s) (is_quiet_now s))))
    steps_may (Asks ask) s may h = (tt, tt)
    steps_may (Answers answer) s may h = (tt, tt)
    steps_may GivesKey s may h = owed_may _ (may_if (s.asks_key && is_open_now s) StartEncReq refl)
    steps_may LacksKey s may h =
        owed_may _ (may_if (s.asks_key && is_open_now s) (owed_without_key s.phase) (may_lack (may_follow Refuse s.phase)))
    steps_may (Disconnects reason) s may h = (tt, tt)
    steps_may (Sends slot) s may h = (tt, tt)
    steps_may SeesAcknowledged s may h = (tt, owed_may _ (may_again (asks_again s) s.request h.request))
    steps_may (Takes read slot response) s may h = taken_may slot response read s may h
    steps_may TakesData s may h = tt

    -- ---- what each of them keeps

    module _ (P : Control → Type 0) (stays : (step : ControlStep) (c : Control) → MayCome step → P c → P (after step c))
        (over : (code : ErrCode) (c : Control) → P c → P (ended code c)) where
      all_stay : (steps : List ControlStep) (c : Control) → AllByRecursion MayCome steps → P c → P (after_all steps c)
      all_stay [] c may h = h
      all_stay (step ∷ steps) c may h = all_stay steps (after step c) may.1 (stays step c may.0 h)

      ends_so : (ends : Option ErrCode) (c : Control) → P c → P (ended_if ends c)
      ends_so None c h = h
      ends_so (Some code) c h = over code c h

      moved_keeps : (step : PhasedStep) (s : Phased) → MayBe (Some step) → Keeps P s → Keeps P (phased_moved step s)
      moved_keeps step s may k =
          record {
            control =
                subst P (sym (open_moves step s))
                (ends_so (end_by_phase step s) _ (all_stay (control_steps step s) s.control (steps_may step s may k.hand) k.control));
            hand = hand_moved step s may k.hand;
          }

      after_keeps : (step : PhasedStep) (s : Phased) → MayBe (Some step) → Keeps P s → Keeps P (phased_after step s)
      after_keeps step s may k = by (is_none s.control.ends)
        where
          by : (goes : Bool) → Keeps P (if goes then phased_moved step s else s)
          by true = moved_keeps step s may k
          by false = k

      once_keeps : (step : Option PhasedStep) (s : Phased) → MayBe step → Keeps P s → Keeps P (after_one step s)
      once_keeps None s may k = k
      once_keeps (Some step) s may k = after_keeps step s may k

      all_keep : (steps : List KeyedStep) (k : Keyed) → AllByRecursion MayMake steps → Keeps P k.phased → Keeps P (keyed_after_all steps k).phased
      all_keep [] k may keeps = keeps
      all_keep (step ∷ steps) k may keeps =
          all_keep steps (keyed_after step k) may.1
          (subst (Keeps P) (sym (phased_once step k)) (once_keeps (phased_step step) k.phased may.0 keeps))

      -- ---- each step of an end keeps it; a forged packet ends the link

      forged_keeps : (b : Bool) (c : Control) → P c → P (if b then ended (record { 0 = mic_failure }) c else c)
      forged_keeps true c h = over (record { 0 = mic_failure }) c h
      forged_keeps false c h = h

      pub end_keeps : (setup : Setup) (facts : Facts) (step : Step) → IsPast setup facts
          → AllByRecursion MayMake (keyed_steps_in setup facts step) → Keeps P (keyed_of facts).phased
          → Keeps P (keyed_of (facts_after setup facts step)).phased
      end_keeps setup facts step p may keeps = by (is_forged_in_step setup facts step) refl
        where
          by : (forged : Bool) → is_forged_in_step setup facts step ≡ forged → Keeps P (keyed_of (facts_after setup facts step)).phased
          by true is =
              subst (λ (f : Facts). Keeps P (keyed_of f).phased) (sym (forged_ends setup facts step is))
              (record {
                control = forged_keeps (is_none facts.control.ends) facts.control keeps.control;
                hand = record { kept = keeps.hand.kept; request = keeps.hand.request };
              })
          by false is =
              subst (λ (k : Keyed). Keeps P k.phased) (sym (one_step setup facts step (past_knows setup facts p).phase is))
              (all_keep (keyed_steps_in setup facts step) (keyed_of facts) may keeps)
