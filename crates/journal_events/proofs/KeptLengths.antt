-- Which steps of an end leave its effective lengths: all but those that take a PDU, and a procedure for which its host asks.
use Rattle.std.proofs.Common.{◌≡◌, ℕ, ◌&&◌, ◌||◌, List, [], ◌∷◌, ◌++◌, Bool, true, false, Option, Some, None, is_none, Result, Ok, Err, refl, ◌∙◌, if◌then◌else◌}
use Rattle.std.specs.List.{AllByRecursion}
use Rattle.ble_base.specs.declared.error_codes.ErrCode.{ErrCode}
use Rattle.ble_base.specs.declared.roles.Role.{Role}
use Rattle.ble_base.specs.declared.roles.Role.TheVariants.{Central, Peripheral}
use Rattle.instants.specs.declared.indications.Indication.{Indication}
use Rattle.journal_sending.specs.journal_leaving.link_model.phased_end.control_end.procedure_values.Drafts.{is_out}
use Rattle.journal_sending.specs.journal_leaving.link_model.phased_end.control_end.procedure_values.declared.asks.Ask.{Ask}
use Rattle.journal_sending.specs.journal_leaving.link_model.phased_end.control_end.procedure_values.declared.asks.Ask.TheVariants.{Update}
use Rattle.journal_sending.specs.journal_leaving.link_model.phased_end.control_end.procedure_stages.Closing.{is_open}
use Rattle.journal_sending.specs.journal_leaving.link_model.phased_end.control_end.procedure_stages.InProgress.{is_host_asked}
use Rattle.journal_sending.specs.journal_leaving.link_model.phased_end.control_end.procedure_stages.Kinds.{role_of}
use Rattle.journal_sending.specs.journal_leaving.link_model.phased_end.control_end.procedures.Going.{host_answer_step, is_answer, terminate_step}
use Rattle.journal_sending.specs.journal_leaving.link_model.phased_end.control_end.procedures.Sending.{acked_step}
use Rattle.journal_sending.specs.journal_leaving.link_model.phased_end.control_end.procedures.Table.{TableFacts}
use Rattle.journal_sending.specs.journal_leaving.link_model.phased_end.control_end.control_model.Control.{Control, Step, Answers, Disconnects, Owes, SeesAcknowledged, Sends, after, following, goes_out, moved, table_if, went}
use Rattle.ble_base.specs.ErrorCodes.{mic_failure, pin_or_key_missing}
use Rattle.data_pdu.specs.declared.ctrl.Ctrl.{Ctrl}
use Rattle.data_pdu.specs.declared.ctrl.Ctrl.TheVariants.{RejectExtInd, StartEncReq, TerminateInd}
use Rattle.journal_sending.specs.journal_leaving.link_model.phased_end.enc_phase.declared.classes.PduClass.TheVariants.{Data as data_class}
use Rattle.journal_sending.specs.journal_leaving.link_model.phased_end.enc_phase.declared.facts.Transition.TheVariants.{Ask as AskTransition, Refuse}
use Rattle.journal_sending.specs.journal_leaving.link_model.phased_end.enc_phase.Phases.{may_follow, phase_after}
use Rattle.journal_sending.specs.journal_leaving.link_model.phased_end.enc_phase.Taking.{allows}
use Rattle.journal_sending.specs.journal_leaving.link_model.phased_end.control_end.procedure_stages.Opcodes.{enc_req_opcode}
use Rattle.journal_sending.specs.journal_leaving.link_model.phased_end.phased_control.Phased.{Phased, asking_if, asks_again, is_open_now, is_quiet_now, key_given, key_lacking, refused_if, with_owed_if, with_step}
use Rattle.journal_sending.specs.journal_leaving.link_model.phased_end.phased_control.Taken.{ended_with, role_now}
use Rattle.journal_sending.specs.journal_leaving.link_model.phased_end.keyed_control.Keyed.{Keyed}
use Rattle.journal_sending.specs.journal_leaving.link_model.phased_end.keyed_control.KeyedSteps.{KeyedStep, Answers as KeyedAnswers, Disconnects as KeyedDisconnects, GivesKey, LacksKey, Seals, SeesAcknowledged as KeyedSees, Sends as KeyedSends, TakesData, is_of_session, keyed_after, keyed_moved}
use Rattle.journal_sending.specs.journal_leaving.link_model.Hosts.{key_step}
use Rattle.journal_sending.specs.journal_leaving.link_model.Acknowledgement.{Pdu}
use Rattle.journal_sending.specs.journal_leaving.link_model.Controls.{is_procedure_pdu}
use Rattle.journal_sending.specs.journal_leaving.link_model.procedure_values.declared.lengths.Lengths.{Lengths}
use Rattle.journal_sending.specs.journal_leaving.journal_controls.KeyedLines.{Accepts, Does, Forges, LineStep, does_if, keyed_by, keyed_by_all, steps_sending}

-- the calls of the procedures
answer_lengths : (f : TableFacts) (answer : Result Ask ErrCode) → (host_answer_step f answer).lengths ≡ f.lengths
answer_lengths f (Ok (Update interval latency timeout)) = refl
answer_lengths f (Ok other) = refl
answer_lengths f (Err code) = refl

table_lengths : (may : Bool) (table : TableFacts) (c : Control) → table.lengths ≡ c.table.lengths → (table_if may table c).table.lengths ≡ c.table.lengths
table_lengths true table c same = same
table_lengths false table c same = refl

following_lengths : (role : Role) (indication : Option Indication) (c : Control) → (following role indication c).table.lengths ≡ c.table.lengths
following_lengths Central None c = refl
following_lengths Central (Some indication) c = refl
following_lengths Peripheral indication c = refl

sent_lengths : (goes : Bool) (slot : ℕ) (quiet : Bool) (c : Control)
    → (if goes then following (role_of c.table.progress) (went slot quiet c).1 (record c { table = (went slot quiet c).0 }) else c).table.lengths ≡ c.table.lengths
sent_lengths true slot quiet c = following_lengths (role_of c.table.progress) (went slot quiet c).1 (record c { table = (went slot quiet c).0 })
sent_lengths false slot quiet c = refl

after_lengths : (step : Step) (c : Control) → (moved step c).table.lengths ≡ c.table.lengths → (after step c).table.lengths ≡ c.table.lengths
after_lengths step c same = by (is_none c.ends)
  where
    by : (lasts : Bool) → (if lasts then moved step c else c).table.lengths ≡ c.table.lengths
    by true = same
    by false = refl

pub answering : (answer : Result Ask ErrCode) (c : Control) → (after (Answers answer) c).table.lengths ≡ c.table.lengths
answering answer c =
    after_lengths (Answers answer) c
    (table_lengths (is_host_asked c.table.progress && is_answer answer) (host_answer_step c.table answer) c (answer_lengths c.table answer))

pub disconnecting : (reason : ErrCode) (c : Control) → (after (Disconnects reason) c).table.lengths ≡ c.table.lengths
disconnecting reason c =
    after_lengths (Disconnects reason) c (table_lengths (is_open c.table.closing) (terminate_step c.table reason) c refl)

pub sending : (slot : ℕ) (quiet : Bool) (c : Control) → (after (Sends slot quiet) c).table.lengths ≡ c.table.lengths
sending slot quiet c = after_lengths (Sends slot quiet) c (sent_lengths (goes_out quiet c) slot quiet c)

seeing : (c : Control) → (after SeesAcknowledged c).table.lengths ≡ c.table.lengths
seeing c = after_lengths SeesAcknowledged c (table_lengths (is_out c.table.out) (acked_step c.table).0 c refl)

owing : (ctrl : Ctrl) (c : Control) → (after (Owes ctrl) c).table.lengths ≡ c.table.lengths
owing ctrl c = after_lengths (Owes ctrl) c refl

-- ---- with the encryption

owing_if : (owed : Option Ctrl) (s : Phased) → (with_owed_if owed s).control.table.lengths ≡ s.control.table.lengths
owing_if None s = refl
owing_if (Some ctrl) s = owing ctrl s.control

asks_lengths : (asks : Bool) (s : Phased) → (asking_if asks s).control.table.lengths ≡ s.control.table.lengths
asks_lengths true s = owing_if s.request (record s { phase = phase_after AskTransition s.phase })
asks_lengths false s = refl

-- a key counts where it is asked for
key_lengths : (asked : Bool) (after_key s : Phased) → after_key.control.table.lengths ≡ s.control.table.lengths
    → (if asked then after_key else s).control.table.lengths ≡ s.control.table.lengths
key_lengths true after_key s same = same
key_lengths false after_key s same = refl

refused_lengths : (refuses : Bool) (s : Phased) → (refused_if refuses s).control.table.lengths ≡ s.control.table.lengths
refused_lengths true s = owing (RejectExtInd enc_req_opcode pin_or_key_missing) s.control
refused_lengths false s = owing (TerminateInd pin_or_key_missing) s.control

keyed_lengths : (step : KeyedStep) (k : Keyed)
    → (keyed_moved step k).phased.control.table.lengths ≡ k.phased.control.table.lengths
    → (keyed_after step k).phased.control.table.lengths ≡ k.phased.control.table.lengths
keyed_lengths step k same = by (is_of_session step || is_none k.phased.control.ends)
  where
    by : (lasts : Bool) → (if lasts then keyed_moved step k else k).phased.control.table.lengths
        ≡ k.phased.control.table.lengths
    by true = same
    by false = refl

keyed_seeing : (k : Keyed) → (keyed_after KeyedSees k).phased.control.table.lengths ≡ k.phased.control.table.lengths
keyed_seeing k =
    keyed_lengths KeyedSees k
    (asks_lengths (asks_again k.phased) (with_step SeesAcknowledged k.phased) ∙ seeing k.phased.control)

pub keyed_answering : (key : Option (List ℕ)) (k : Keyed)
    → (keyed_after (key_step key) k).phased.control.table.lengths ≡ k.phased.control.table.lengths
keyed_answering (Some ltk) k =
    let s = k.phased in
    keyed_lengths (key_step (Some ltk)) k
    (key_lengths (s.asks_key && is_open_now s) (key_given s) s (owing StartEncReq s.control))
keyed_answering None k =
    let s = k.phased in
    keyed_lengths (key_step None) k
    (key_lengths (s.asks_key && is_open_now s) (key_lacking s) s (refused_lengths (may_follow Refuse s.phase) s))

keyed_taking_data : (k : Keyed)
    → (keyed_after TakesData k).phased.control.table.lengths ≡ k.phased.control.table.lengths
keyed_taking_data k = keyed_lengths TakesData k (by (allows k.phased.phase (role_now k.phased) data_class))
  where
    by : (allowed : Bool) → (if allowed then k.phased else ended_with mic_failure k.phased).control.table.lengths
        ≡ k.phased.control.table.lengths
    by true = refl
    by false = refl

keyed_answers : (answer : Result Ask ErrCode) (k : Keyed) → (keyed_after (KeyedAnswers answer) k).phased.control.table.lengths ≡ k.phased.control.table.lengths
keyed_answers answer k = keyed_lengths (KeyedAnswers answer) k (answering answer k.phased.control)

keyed_disconnects : (reason : ErrCode) (k : Keyed) → (keyed_after (KeyedDisconnects reason) k).phased.control.table.lengths ≡ k.phased.control.table.lengths
keyed_disconnects reason k = keyed_lengths (KeyedDisconnects reason) k (disconnecting reason k.phased.control)

keyed_sends : (slot : ℕ) (k : Keyed) → (keyed_after (KeyedSends slot) k).phased.control.table.lengths ≡ k.phased.control.table.lengths
keyed_sends slot k = keyed_lengths (KeyedSends slot) k (sending slot (is_quiet_now k.phased) k.phased.control)

keyed_seals : (header : ℕ) (body : List ℕ) (k : Keyed) → (keyed_after (Seals header body) k).phased.control.table.lengths ≡ k.phased.control.table.lengths
keyed_seals header body k = keyed_lengths (Seals header body) k refl

-- ---- by the steps of lines

abbrev pub lengths_in : Keyed → Lengths
lengths_in k = k.phased.control.table.lengths

forged_lengths : (goes : Bool) (k : Keyed) (code : ErrCode)
    → (if goes then record k.phased.control { ends = Some code } else k.phased.control).table.lengths ≡ lengths_in k
forged_lengths true k code = refl
forged_lengths false k code = refl

abbrev pub leaves_lengths : LineStep → Bool
leaves_lengths (Does (KeyedAnswers answer)) = true
leaves_lengths (Does (GivesKey ltk)) = true
leaves_lengths (Does LacksKey) = true
leaves_lengths (Does (KeyedDisconnects reason)) = true
leaves_lengths (Does (KeyedSends slot)) = true
leaves_lengths (Does KeyedSees) = true
leaves_lengths (Does TakesData) = true
leaves_lengths (Does (Seals header body)) = true
leaves_lengths (Does other) = false
leaves_lengths Accepts = true
leaves_lengths Forges = true

abbrev pub AllLeave : List LineStep → Type 0
AllLeave steps = AllByRecursion (λ step. leaves_lengths step ≡ true) steps

step_leaves : (step : LineStep) (k : Keyed) → leaves_lengths step ≡ true → lengths_in (keyed_by step k) ≡ lengths_in k
step_leaves (Does (KeyedAnswers answer)) k is = keyed_answers answer k
step_leaves (Does (GivesKey ltk)) k is = keyed_answering (Some ltk) k
step_leaves (Does LacksKey) k is = keyed_answering None k
step_leaves (Does (KeyedDisconnects reason)) k is = keyed_disconnects reason k
step_leaves (Does (KeyedSends slot)) k is = keyed_sends slot k
step_leaves (Does KeyedSees) k is = keyed_seeing k
step_leaves (Does TakesData) k is = keyed_taking_data k
step_leaves (Does (Seals header body)) k is = keyed_seals header body k
step_leaves (Does other) k is = absurd cc
step_leaves Accepts k is = refl
step_leaves Forges k is = forged_lengths (is_none k.phased.control.ends) k (record { 0 = mic_failure })

pub steps_leave : (steps : List LineStep) (k : Keyed) → AllLeave steps → lengths_in (keyed_by_all steps k) ≡ lengths_in k
steps_leave [] k are = refl
steps_leave (step ∷ steps) k are = steps_leave steps (keyed_by step k) are.1 ∙ step_leaves step k are.0

pub if_leaves : (is_made : Bool) (step : KeyedStep) (more : List LineStep) → leaves_lengths (Does step) ≡ true → AllLeave more → AllLeave (does_if is_made step ++ more)
if_leaves true step more is are = (is, are)
if_leaves false step more is are = are

-- a PDU is sent
pub sending_leaves : (role : Role) (slot : ℕ) (pdu : Pdu) → AllLeave (steps_sending role slot pdu)
sending_leaves Central slot pdu = if_leaves (is_procedure_pdu pdu) (KeyedSends slot) (Does (Seals pdu.llid pdu.body) ∷ []) refl (refl, tt)
sending_leaves Peripheral slot pdu = (refl, tt)
