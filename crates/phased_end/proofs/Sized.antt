-- After any steps the lengths of an end are in their ranges, and so is the PDU that it keeps.
use Rattle.std.proofs.Common.{ℕ, Bool, true, false, ◌&&◌, ◌||◌, if◌then◌else◌, List, [], ◌∷◌, Option, Some, None, is_none, sym, subst, arith}
use Rattle.std.specs.Prelude.{IfSome}
use Rattle.ble_base.specs.ErrorCodes.{mic_failure, pin_or_key_missing}
use Rattle.ble_base.specs.declared.error_codes.ErrCode.{ErrCode}
use Rattle.ble_base.specs.declared.roles.Role.{Role}
use Rattle.data_pdu.specs.Ranges.{IsInRange}
use Rattle.data_pdu.specs.Reading.{IfKnown}
use Rattle.data_pdu.specs.declared.ctrl.Ctrl.{Ctrl}
use Rattle.data_pdu.specs.declared.ctrl.Ctrl.TheVariants.{PauseEncReq, RejectExtInd, StartEncReq, TerminateInd}
use Rattle.data_pdu.specs.declared.ctrl.CtrlRead.{CtrlRead}
use Rattle.data_pdu.specs.declared.ctrl.CtrlRead.TheVariants.{Bare, Known, Unknown}
use Rattle.enc_phase.specs.declared.classes.PduClass.TheVariants.{Data}
use Rattle.enc_phase.specs.declared.facts.PhaseFacts.{PhaseFacts}
use Rattle.enc_phase.specs.declared.facts.PhaseFacts.TheVariants.{Clear}
use Rattle.enc_phase.specs.declared.facts.Transition.TheVariants.{Ask as AskTransition, Pause, Refuse}
use Rattle.enc_phase.specs.Phases.{may_follow, phase_after, phase_starting}
use Rattle.enc_phase.specs.Taking.{allows}
use Rattle.instants.specs.declared.indications.Params.{Params}
use Rattle.procedures.specs.procedure_stages.Opcodes.{enc_req_opcode}
use Rattle.procedures.specs.procedure_values.Values.{IsPayloadMax}
use Rattle.procedures.specs.Beginning.{begin_step}
use Rattle.control_part.specs.control_end.control_model.Control.{Control, Step, Owes, after, ended}
use Rattle.control_part.specs.control_end.control_model.Control.{Answers as control_answers, Asks as control_asks, Disconnects as control_disconnects, Enters as control_enters, SeesAcknowledged as control_acknowledged, Sends as control_sends, Takes as control_takes}
use Rattle.keyed_control.specs.Keyed.{Keyed, first_keyed}
use Rattle.keyed_control.specs.KeyedSteps.{KeyedStep, Answers, Asks, Disconnects, Enters, GivesKey, LacksKey, Opens, Seals, SeesAcknowledged, Sends, Takes, TakesData, is_of_session, keyed_after, keyed_after_all, keyed_moved}
use Rattle.keyed_control.specs.phased_control.Phased.{Phased, ask_begun, asking_if, asks_again, encrypting, encrypting_if, first_phased, is_encrypt, is_open_now, is_quiet_now, key_given, key_lacking, refused_if, request_of, table_entered, with_owed_if, with_step}
use Rattle.keyed_control.specs.phased_control.Steps.{read_answer, seen_by_procedures}
use Rattle.keyed_control.specs.phased_control.Taken.{Response, answered_kept, ciphered, ctrl_in, ended_with, role_now, seen_if, took}
use Rattle.keyed_control.specs.phased_control.table_laws.Encrypting.{has_encryption}
use Rattle.keyed_control.proofs.phased_control.AnswerParts.{key_answering, phase_answering}
use Rattle.keyed_control.proofs.phased_control.Answering.{answers, with_answer}
use Rattle.keyed_control.proofs.phased_control.Taking.{handed_ways, took_ways}
use Rattle.phased_end.specs.Held.{HeldKeyed, held_after, keyed_of}
use Rattle.phased_end.specs.Lengths.{HasLengths}
use Rattle.phased_end.specs.Reached.{AllMayCome, IsReached, MayCome}
use Rattle.phased_end.proofs.Lengths.{IsFine, lengths_after}
use Rattle.phased_end.proofs.Reached.{holds}

pub seen_range : (unknown : Bool) (read : CtrlRead) → IfKnown read IsInRange → IfKnown (seen_if unknown read) IsInRange
seen_range true (Known ctrl) range = tt
seen_range true (Unknown opcode) range = range
seen_range true Bare range = range
seen_range false read range = range

kept_range : (read : CtrlRead) → IfKnown read IsInRange → IfSome (ctrl_in read) IsInRange
kept_range (Known ctrl) range = range
kept_range read range = tt

-- what each step in its range keeps of a control part, and what its end leaves, holds of it at an end with its phase
module _ (P : Control → Type 0) (keeps : (step : Step) (c : Control) → IsFine step → P c → P (after step c))
    (over : (code : ErrCode) (c : Control) → P c → P (ended code c)) where
  -- it holds of the control part, and what is kept is in its range
  abbrev Sized : Phased → Type 0
  Sized s = P s.control × IfSome s.kept IsInRange

  sized_step : (step : Step) (s : Phased) → IsFine step → Sized s → Sized (with_step step s)
  sized_step step s fine h = (keeps step s.control fine h.0, h.1)

  sized_owed_if : (request : Option Ctrl) (s : Phased) → Sized s → Sized (with_owed_if request s)
  sized_owed_if None s h = h
  sized_owed_if (Some ctrl) s h = sized_step (Owes ctrl) s tt h

  sized_if : (b : Bool) (s t : Phased) → Sized s → Sized t → Sized (if b then t else s)
  sized_if true s t h now = now
  sized_if false s t h now = h

  sized_encrypting : (p : PhaseFacts) (s : Phased) → Sized s → Sized (encrypting p s)
  sized_encrypting Clear s h = sized_owed_if s.request (record s { phase = phase_after AskTransition s.phase }) h
  sized_encrypting p s h = sized_step (Owes PauseEncReq) (record s { phase = phase_after Pause s.phase }) tt h

  pub sized_encrypting_if : (b : Bool) (request : Option Ctrl) (s : Phased) → Sized s → Sized (encrypting_if b request s)
  sized_encrypting_if true request s h = sized_encrypting s.phase (record s { request = request }) h
  sized_encrypting_if false request s h = h

  sized_asking_if : (b : Bool) (s : Phased) → Sized s → Sized (asking_if b s)
  sized_asking_if true s h = sized_owed_if s.request (record s { phase = phase_after AskTransition s.phase }) h
  sized_asking_if false s h = h

  sized_refused_if : (b : Bool) (s : Phased) → Sized s → Sized (refused_if b s)
  sized_refused_if true s h =
      sized_step (Owes (RejectExtInd enc_req_opcode pin_or_key_missing))
      (record s { asks_key = false; phase = phase_after Refuse s.phase }) tt h
  sized_refused_if false s h = sized_step (Owes (TerminateInd pin_or_key_missing)) (record s { asks_key = false }) tt h

  -- ---- a PDU of the peer

  sized_answer : (owed : Option Ctrl) (p : PhaseFacts) (key : Bool) (s : Phased) → Sized s
      → Sized (with_answer owed p key s)
  sized_answer None p key s h = h
  sized_answer (Some ctrl) p key s h = sized_step (Owes ctrl) (record s { phase = p; asks_key = key }) tt h

  sized_ciphered : (response : Response) (read : CtrlRead) (s : Phased) → Sized s → Sized (ciphered response read s)
  sized_ciphered response read s h =
      subst Sized (sym (answers s response read))
      (sized_answer (read_answer (role_now s) response read s.phase)
      (phase_answering (role_now s) read (has_encryption s.control.table.progress) s.phase)
      (key_answering (role_now s) read s.phase (is_open_now s) s.asks_key) s h)

  sized_kept : (slot : ℕ) (kept : Option Ctrl) (s : Phased) → IfSome kept IsInRange → Sized s
      → Sized (answered_kept slot kept s)
  sized_kept slot None s range h = h
  sized_kept slot (Some ctrl) s range h = (keeps (control_takes (Known ctrl) slot true) s.control range h.0, tt)

  sized_took : (slot : ℕ) (response : Response) (read : CtrlRead) (s : Phased) → IfKnown read IsInRange → Sized s
      → Sized (took slot response read s)
  sized_took slot response read s range h =
      let seen = seen_range _ read range in
      let t = seen_by_procedures read slot s in
      let now : Sized t =
      (keeps (control_takes (seen_if _ read) slot (is_quiet_now s)) s.control seen h.0, h.1) in
      took_ways Sized slot response read s (λ may. (over _ s.control h.0, h.1))
      (λ may. λ kept. (h.0, kept_range read range)) (λ may. λ kept. λ full. (over _ s.control h.0, h.1))
      (λ may. λ kept. λ full. handed_ways Sized slot response read s (λ code. λ over. now)
      (λ lasts. λ loud. sized_ciphered response read t now)
      (λ lasts. λ quiet.
      let u = ciphered response read t in
      let answered : Sized u = sized_ciphered response read t now in
      sized_kept slot u.kept u answered.1 answered))

  -- ---- every step

  sized_moved : (step : KeyedStep) (k : Keyed) → MayCome step → Sized k.phased → Sized (keyed_moved step k).phased
  sized_moved (Enters slot) k may h =
      let s = k.phased in
      let f = table_entered s in
      let quiet = is_quiet_now s in
      sized_encrypting_if (is_encrypt (begin_step f slot quiet).1) (request_of (ask_begun f quiet))
      (with_step (control_enters slot quiet) s)
      (sized_step (control_enters slot quiet) s tt h)
  sized_moved (Asks ask) k may h = sized_step (control_asks ask) k.phased may h
  sized_moved (Answers answer) k may h = sized_step (control_answers answer) k.phased tt h
  sized_moved (GivesKey ltk) k may h =
      let s = k.phased in
      sized_if (s.asks_key && is_open_now s) s (key_given s) h
      (sized_step (Owes StartEncReq) (record s { asks_key = false; phase = phase_starting s.phase }) tt h)
  sized_moved LacksKey k may h =
      let s = k.phased in
      sized_if (s.asks_key && is_open_now s) s (key_lacking s) h (sized_refused_if (may_follow Refuse s.phase) s h)
  sized_moved (Disconnects reason) k may h = sized_step (control_disconnects reason) k.phased tt h
  sized_moved (Sends slot) k may h = sized_step (control_sends slot (is_quiet_now k.phased)) k.phased tt h
  sized_moved SeesAcknowledged k may h =
      let s = k.phased in
      sized_asking_if (asks_again s) (with_step control_acknowledged s) (sized_step control_acknowledged s tt h)
  sized_moved (Takes read slot response) k may h = sized_took slot response read k.phased may h
  sized_moved TakesData k may h =
      let s = k.phased in
      sized_if (allows s.phase (role_now s) Data) (ended_with mic_failure s) s (over _ s.control h.0, h.1) h
  sized_moved (Seals header body) k may h = h
  sized_moved (Opens header payload) k may h = h

  pub sized_after : (step : KeyedStep) (k : Keyed) → MayCome step → Sized k.phased → Sized (keyed_after step k).phased
  sized_after step k may h = by (is_of_session step || is_none k.phased.control.ends)
    where
      by : (b : Bool) → Sized (if b then keyed_moved step k else k).phased
      by true = sized_moved step k may h
      by false = h

  sized_all : (steps : List KeyedStep) (k : Keyed) → AllMayCome steps → Sized k.phased
      → Sized (keyed_after_all steps k).phased
  sized_all [] k may h = h
  sized_all (step ∷ steps) k may h = sized_all steps (keyed_after step k) may.1 (sized_after step k may.0 h)

-- ---- the lengths of an end

abbrev pub SizedEnd : HeldKeyed → Type 0
SizedEnd h = HasLengths h.control.table.lengths × IfSome h.kept IsInRange

abbrev Long : Control → Type 0
Long c = HasLengths c.table.lengths

pub stays_sized : (step : KeyedStep) (h : HeldKeyed) → MayCome step → SizedEnd h → SizedEnd (held_after step h)
stays_sized step h may is = sized_after Long lengths_after (λ code c has. has) step (keyed_of h) may is

sized_first : (role : Role) (max_rx : ℕ) (first : Params) (slot : ℕ) → IsPayloadMax max_rx
    → Sized Long lengths_after (λ code c has. has) (first_phased role max_rx first slot)
sized_first role max_rx first slot octets =
    (record { own = omega arith; peer = omega arith; own_to = omega arith; own_rx_to = octets.to }, tt)

reached_sized : (h : HeldKeyed) → IsReached h → SizedEnd h
reached_sized h r =
    holds SizedEnd (λ ends g is. is) h r
    (sized_all Long lengths_after (λ code c has. has) r.steps (first_keyed r.role r.max_rx r.first r.slot) r.may_come
    (sized_first r.role r.max_rx r.first r.slot r.octets))

pub reached_lengths : (h : HeldKeyed) → IsReached h → HasLengths h.control.table.lengths
reached_lengths h r = (reached_sized h r).0

pub reached_keeps : (h : HeldKeyed) → IsReached h → IfSome h.kept IsInRange
reached_keeps h r = (reached_sized h r).1
