-- The calls that an end with its phase makes on its table may come, and pass the phase as the table has it.
use Rattle.std.proofs.Common.{◌≡◌, ◌⊎◌, inl, inr, ℕ, Bool, true, false, not, ◌&&◌, if◌then◌else◌, List, [], ◌∷◌, ◌++◌, Option, Some, None, Result, is_some, refl, sym, ap, subst, ◌∙◌, append-nil}
use Rattle.std.specs.List.{AllByRecursion}
use Rattle.std.proofs.lemmas.Bool.{and_parts}
use Rattle.ble_base.specs.ErrorCodes.{mic_failure, pin_or_key_missing}
use Rattle.ble_base.specs.declared.error_codes.ErrCode.{ErrCode}
use Rattle.ble_base.specs.declared.procedure_kinds.Kind.{Kind}
use Rattle.ble_base.specs.declared.procedure_kinds.Kind.TheVariants.{Encrypt}
use Rattle.ble_base.specs.declared.roles.Role.{Role}
use Rattle.ble_base.specs.declared.roles.Role.TheVariants.{Central, Peripheral}
use Rattle.data_pdu.specs.declared.ctrl.Ctrl.{Ctrl}
use Rattle.data_pdu.specs.declared.ctrl.Ctrl.TheVariants.{EncReq, PauseEncReq, PauseEncRsp, RejectExtInd, StartEncReq, StartEncRsp, TerminateInd}
use Rattle.data_pdu.specs.declared.ctrl.CtrlRead.{CtrlRead}
use Rattle.data_pdu.specs.declared.ctrl.CtrlRead.TheVariants.{Known, Unknown, Bare}
use Rattle.enc_phase.specs.declared.classes.PduClass.{PduClass}
use Rattle.enc_phase.specs.declared.classes.PduClass.TheVariants.{Data, PauseEncRsp as pause_enc_rsp, Refusal}
use Rattle.enc_phase.specs.declared.facts.PhaseFacts.{PhaseFacts}
use Rattle.enc_phase.specs.declared.facts.PhaseFacts.TheVariants.{Clear, HalfClear}
use Rattle.enc_phase.specs.declared.facts.Transition.TheVariants.{Ask as AskTransition, Refuse}
use Rattle.enc_phase.specs.Phases.{is_quiet, may_follow, phase_after}
use Rattle.enc_phase.specs.Taking.{allows, ctrl_class, is_unknown}
use Rattle.instants.specs.Track.{event_of, next_number}
use Rattle.table_laws.specs.procedure_values.declared.asks.Ask.{Ask}
use Rattle.table_laws.specs.procedure_values.Drafts.{is_out}
use Rattle.table_laws.specs.procedure_stages.declared.stages.OwnPeripheral.{OwnPeripheral}
use Rattle.table_laws.specs.procedure_stages.declared.stages.OwnPeripheral.TheVariants.{Exclusive as exclusive_p, Exchange as exchange_p}
use Rattle.table_laws.specs.procedure_stages.declared.stages.Exchange.TheVariants.{FeaturesSent, FeaturesUnsent, LengthSent, LengthUnsent, VersionSent, VersionUnsent}
use Rattle.exclusive_stages.specs.declared.stages.PeripheralStage.TheVariants.{Idle as idle, PhySent as phy_sent, PhyUnsent as phy_unsent}
use Rattle.table_laws.specs.procedure_stages.declared.stages.OwnCentral.{OwnCentral}
use Rattle.table_laws.specs.procedure_stages.declared.stages.OwnCentral.TheVariants.{Exclusive as exclusive, Exchange as exchange, EncryptSent, EncryptUnsent}
use Rattle.exclusive_stages.specs.declared.stages.CentralStage.TheVariants.{Idle, UpdateUnsent, UpdateSent, MapUnsent, MapSent, PhyUnsent, PhySent, PhyAnswered, PhyIndicated}
use Rattle.table_laws.specs.procedure_stages.declared.stages.Progress.{Progress}
use Rattle.table_laws.specs.procedure_stages.declared.stages.Progress.TheVariants.{Central as central, Peripheral as peripheral}
use Rattle.table_laws.specs.procedure_stages.Awaited.{is_own_encryption}
use Rattle.table_laws.specs.procedure_stages.Closing.{is_open}
use Rattle.table_laws.specs.procedure_stages.InProgress.{is_host_asked}
use Rattle.table_laws.specs.procedure_stages.Kinds.{kind_at_central, kind_at_peripheral, own_kind, role_of}
use Rattle.table_laws.specs.procedure_stages.Opcodes.{enc_req_opcode}
use Rattle.table_laws.specs.procedure_stages.Queue.{QueueFacts}
use Rattle.table_laws.specs.procedures.Beginning.{begin_step}
use Rattle.table_laws.specs.procedures.Calls.{Call, disconnects, enters, host_answers, is_acked, sends, takes}
use Rattle.table_laws.specs.procedures.Going.{is_answer}
use Rattle.table_laws.specs.procedures.Sending.{acked_step}
use Rattle.table_laws.specs.procedures.Table.{TableFacts}
use Rattle.table_laws.specs.procedures.Taking.{took_step}
use Rattle.table_laws.specs.Encrypting.{has_encryption}
use Rattle.table_laws.specs.Pasts.{MayAll, MayGive, MayGiveAtCentral, MayGiveAtPeripheral, MayRequest, key_after_calls, key_after_given}
use Rattle.table_laws.specs.Waiting.{is_encryption_request, is_own_request, number_of, own_waiting}
use Rattle.table_laws.proofs.Encrypting.{ends_by}
use Rattle.control_model.specs.Control.{Control, Step, after, after_all, goes_out, table_if}
use Rattle.control_model.specs.Control.{Enters as control_enters, SeesAcknowledged as control_sees_acknowledged, Sends as control_sends, Asks as control_asks, Answers as control_answers, Disconnects as control_disconnects}
use Rattle.control_model.proofs.Calls.{any_step, open_step}
use Rattle.phased_control.specs.Calls.{AllPassPhase, all_calls, calls_now, calls_of}
use Rattle.phased_control.specs.Ciphers.{ciphers_waiting, is_of_encryption, phase_ciphers}
use Rattle.phased_control.specs.Phased.{Phased, ask_begun, asking_if, asks_again, encrypting, encrypting_if, is_encrypt, is_open_now, is_pause_rsp, is_quiet_now, request_of, table_entered, with_owed_if, with_step}
use Rattle.phased_control.specs.Taken.{PhasedStep, Response, Answers, Asks, Disconnects, Enters, GivesKey, LacksKey, SeesAcknowledged, Sends, TakesData, class_of_read, ended_with, is_answered, phased_moved, response_ctrl, role_now, seen_if}
use Rattle.phased_control.specs.Steps.{control_steps, ctrl_if, end_by_phase, ended_if, first_owed, first_owed_if, read_answer, owed_steps}
use Rattle.phased_control.proofs.AnswerParts.{key_answering}
use Rattle.phased_control.specs.Ends.{IsRequest}
use Rattle.phased_control.proofs.Agreeing.{Agrees, Sound, asks_at_central}
use Rattle.phased_control.proofs.Calling.{keys_joined}
use Rattle.phased_control.proofs.Encrypted.{class_of_end, ends_at_central, known_loudly, same_unknown}
use Rattle.phased_control.proofs.Extending.{At, Fine, IsNoRequest, OwedMay, encrypts_kind, extends, fine_none, fine_owed, fine_step, is_owes, key_given_by, key_now, key_owed, may_if, no_own, none_first, none_own, opens_before_all, passes_if}
use Rattle.phased_control.proofs.Moving.{open_moves}
use Rattle.phased_control.proofs.Requests.{encrypts, role_entered}
use Rattle.phased_control.proofs.Rooms.{is_answered_in}
use Rattle.control_model.proofs.Moving.{same_role}
use Rattle.phased_control.proofs.Tables.{begins_encryption, leaves_encryption, same_apart}
use Rattle.phased_control.proofs.Unpaused.{asks_in_half_clear}
use Rattle.phased_control.proofs.Waiting.{InOrder, Last, lasts_acked}
use Rattle.phased_control.proofs.PhaseFacts.{follows_no_pause}
use Rattle.phased_control.proofs.PhaseFacts.{loud_in_half_clear, runs}

abbrev pub KeyFits : Phased → Bool → Type 0
KeyFits s key = is_open_now s ≡ true → key ≡ s.asks_key

-- the calls of a step may come, and say whether a key is asked for then
pub record Fits (step : PhasedStep) (s : Phased) (key : Bool) : Type 0 where
  pub fine : Fine s.control key (control_steps step s)
  pub asked : KeyFits (phased_moved step s) (key_after_calls key (all_calls (control_steps step s) s.control))

-- ---- once a link is to end it stays so

ended_open : (ends : Option ErrCode) (c : Control) → is_open (ended_if ends c).table.closing ≡ true → is_open c.table.closing ≡ true
ended_open None c opens = opens
ended_open (Some code) c opens = opens

pub opened : (step : PhasedStep) (s : Phased) → is_open_now (phased_moved step s) ≡ true → is_open_now s ≡ true
opened step s opens =
    opens_before_all (control_steps step s) s.control
    (ended_open (end_by_phase step s) (after_all (control_steps step s) s.control) (subst (λ (c : Control). is_open c.table.closing ≡ true) (open_moves step s) opens))

-- ---- steps of procedures alone

pub key_single : (x : Step) (c : Control) (key : Bool) → is_owes x ≡ false → key_after_calls key (all_calls (x ∷ []) c) ≡ key
key_single x c key is = ap (λ (calls : List Call). key_after_calls key calls) (append-nil (calls_now x c)) ∙ key_now x c key is

module _ (s : Phased) (key : Bool) (lasts : s.control.ends ≡ None) (agrees : Agrees s) (asked : KeyFits s key) where
  single : (x : Step) → is_owes x ≡ false → MayAll s.control.table key (calls_of x s.control) → AllPassPhase s.control.table (calls_of x s.control) → Fine s.control key (x ∷ [])
  single x is may passes = fine_step x [] s.control key is lasts may passes (fine_none (after x s.control) key)

  pub fits_asks : (ask : Ask) → Fits (Asks ask) s key
  fits_asks ask =
      record {
        fine = single (control_asks ask) refl (tt, tt) (tt, tt);
        asked = λ opens. key_single (control_asks ask) s.control key refl ∙ asked (opened (Asks ask) s opens);
      }

  pub fits_answers : (answer : Result Ask ErrCode) → Fits (Answers answer) s key
  fits_answers answer =
      let b = is_host_asked s.control.table.progress && is_answer answer in
      record {
        fine =
            single (control_answers answer) refl (may_if b (host_answers answer) s.control.table key (λ is. (and_parts (is_host_asked s.control.table.progress) (is_answer answer) is).0))
            (passes_if b (host_answers answer) s.control.table (λ is. tt));
        asked = λ opens. key_single (control_answers answer) s.control key refl ∙ asked (opened (Answers answer) s opens);
      }

  pub fits_disconnects : (reason : ErrCode) → Fits (Disconnects reason) s key
  fits_disconnects reason =
      record {
        fine =
            single (control_disconnects reason) refl (may_if (is_open s.control.table.closing) (disconnects reason) s.control.table key (λ is. tt))
            (passes_if (is_open s.control.table.closing) (disconnects reason) s.control.table (λ is. tt));
        asked = λ opens. key_single (control_disconnects reason) s.control key refl ∙ asked (opened (Disconnects reason) s opens);
      }

  pub fits_sends : (slot : ℕ) → Fits (Sends slot) s key
  fits_sends slot =
      let quiet = is_quiet_now s in
      let call = sends (event_of s.control.track) s.control.track.params.latency quiet slot in
      record {
        fine =
            single (control_sends slot quiet) refl (may_if (goes_out quiet s.control) call s.control.table key (λ is. tt))
            (passes_if (goes_out quiet s.control) call s.control.table (λ is. agrees));
        asked = λ opens. key_single (control_sends slot quiet) s.control key refl ∙ asked (opened (Sends slot) s opens);
      }

  data_key : (b : Bool) → (if b then s else ended_with mic_failure s).asks_key ≡ s.asks_key
  data_key true = refl
  data_key false = refl

  pub fits_data : Fits TakesData s key
  fits_data = record { fine = fine_none s.control key; asked = λ opens. asked (opened TakesData s opens) ∙ sym (data_key (allows s.phase (role_now s) Data)) }

  -- ---- the host of a peripheral has a key, or none

  may_at_peripheral : (ctrl : Ctrl) → role_now s ≡ Peripheral → MayGiveAtPeripheral s.control.table key ctrl → OwedMay s.control key (Some ctrl)
  may_at_peripheral ctrl is may opens = by s.control.table.progress is
    where
      by : (p : Progress) → role_of p ≡ Peripheral → MayGive p s.control.table key ctrl
      by (central c) h = absurd (cc)
      by (peripheral p) h = may

  module _ (at : s.asks_key ≡ true → role_now s ≡ Peripheral) where
    pub fits_given : Fits GivesKey s key
    fits_given = by (s.asks_key && is_open_now s) refl
      where
        by : (b : Bool) → (s.asks_key && is_open_now s) ≡ b → Fits GivesKey s key
        by true is =
            let parts = and_parts s.asks_key (is_open_now s) is in
            record {
              fine = rw is (fine_owed (Some StartEncReq) s.control key (may_at_peripheral StartEncReq (at parts.0) (asked parts.1 ∙ parts.0)));
              asked = rw is (λ opens. key_owed (Some StartEncReq) s.control key lasts);
            }
        by false is = record { fine = rw is (fine_none s.control key); asked = rw is asked }

    pub fits_lacking : Fits LacksKey s key
    fits_lacking = by (s.asks_key && is_open_now s) (may_follow Refuse s.phase) refl refl
      where
        by : (b r : Bool) → (s.asks_key && is_open_now s) ≡ b → may_follow Refuse s.phase ≡ r → Fits LacksKey s key
        by true true is may =
            let parts = and_parts s.asks_key (is_open_now s) is in
            let pdu = RejectExtInd enc_req_opcode pin_or_key_missing in
            record {
              fine =
                  rw (is, may)
                  (fine_owed (Some pdu) s.control key (may_at_peripheral pdu (at parts.0) (refl, record { asked = asked parts.1 ∙ parts.0; reason = refl })));
              asked = rw (is, may) (λ opens. key_owed (Some pdu) s.control key lasts);
            }
        by true false is may =
            let parts = and_parts s.asks_key (is_open_now s) is in
            let pdu = TerminateInd pin_or_key_missing in
            record {
              fine = rw (is, may) (fine_owed (Some pdu) s.control key (may_at_peripheral pdu (at parts.0) (record { asked = asked parts.1 ∙ parts.0; reason = refl })));
              asked = rw (is, may) (λ opens. key_owed (Some pdu) s.control key lasts);
            }
        by false r is may = record { fine = rw is (fine_none s.control key); asked = rw is asked }

-- ---- a request of the encryption

may_at_central : (ctrl : Ctrl) (c : Control) (key : Bool) → role_of c.table.progress ≡ Central → MayGiveAtCentral c.table ctrl → OwedMay c key (Some ctrl)
may_at_central ctrl c key is may opens = by c.table.progress is
  where
    by : (p : Progress) → role_of p ≡ Central → MayGive p c.table key ctrl
    by (central c) h = may
    by (peripheral p) h = absurd (cc)

request_may : (request : Option Ctrl) (c : Control) (key : Bool) → role_of c.table.progress ≡ Central → MayRequest c.table → IsRequest request → OwedMay c key request
request_may (Some (EncReq rand ediv skd_m iv_m)) c key role may is = may_at_central (EncReq rand ediv skd_m iv_m) c key role may
request_may (Some ctrl) c key role may is = absurd is
request_may None c key role may is = absurd is

request_key : (request : Option Ctrl) (key : Bool) → IsRequest request → key_given_by request key ≡ key
request_key (Some (EncReq rand ediv skd_m iv_m)) key is = refl
request_key (Some ctrl) key is = absurd is
request_key None key is = absurd is

first_may : (p : PhaseFacts) (request : Option Ctrl) (c : Control) (key : Bool) → role_of c.table.progress ≡ Central → MayRequest c.table → IsRequest request
    → OwedMay c key (first_owed p request)
first_may Clear request c key role may is = request_may request c key role may is
first_may p request c key role may is = may_at_central PauseEncReq c key role may

first_key : (p : PhaseFacts) (request : Option Ctrl) (key : Bool) → IsRequest request → key_given_by (first_owed p request) key ≡ key
first_key Clear request key is = request_key request key is
first_key p request key is = refl

-- a step and then what is owed
with_owed_fine : (x : Step) (owed : Option Ctrl) (c : Control) (key : Bool) → is_owes x ≡ false → c.ends ≡ None → MayAll c.table key (calls_of x c) → AllPassPhase c.table (calls_of x c)
    → OwedMay (after x c) key owed → Fine c key (x ∷ owed_steps owed)
with_owed_fine x owed c key is lasts may passes given = fine_step x (owed_steps owed) c key is lasts may passes (fine_owed owed (after x c) key given)

with_owed_key : (x : Step) (owed : Option Ctrl) (c : Control) (key : Bool) → is_owes x ≡ false → (after x c).ends ≡ None
    → key_after_calls key (all_calls (x ∷ owed_steps owed) c) ≡ key_given_by owed key
with_owed_key x owed c key is lasts =
    keys_joined (calls_now x c) (all_calls (owed_steps owed) (after x c)) key
    ∙ ap (λ (k : Bool). key_after_calls k (all_calls (owed_steps owed) (after x c))) (key_now x c key is) ∙ key_owed owed (after x c) key lasts

-- ---- an event is entered

lasts_entered : (slot : ℕ) (quiet : Bool) (c : Control) → c.ends ≡ None → (after (control_enters slot quiet) c).ends ≡ None
lasts_entered slot quiet c lasts = any_step (λ (d : Control). d.ends ≡ None) (control_enters slot quiet) c lasts lasts

asks_key_owed : (request : Option Ctrl) (s : Phased) → (with_owed_if request s).asks_key ≡ s.asks_key
asks_key_owed None s = refl
asks_key_owed (Some ctrl) s = refl

asks_key_encrypting : (p : PhaseFacts) (s : Phased) → (encrypting p s).asks_key ≡ s.asks_key
asks_key_encrypting Clear s = asks_key_owed s.request (record s { phase = phase_after AskTransition s.phase })
asks_key_encrypting p s = refl

asks_key_encrypting_if : (b : Bool) (request : Option Ctrl) (s : Phased) → (encrypting_if b request s).asks_key ≡ s.asks_key
asks_key_encrypting_if true request s = asks_key_encrypting s.phase (record s { request = request })
asks_key_encrypting_if false request s = refl

module _ (role : Role) (max_rx : ℕ) (past : List Call) (slot : ℕ) (s : Phased) (key : Bool) (at : At role max_rx past s.control.table key) (lasts : s.control.ends ≡ None) (agrees : Agrees s) (asked : KeyFits s key) where
  abbrev entry : Step
  entry = control_enters slot (is_quiet_now s)

  abbrev begun : TableFacts × Option Kind
  begun = begin_step (table_entered s) slot (is_quiet_now s)

  passes_entry : AllPassPhase s.control.table (calls_of entry s.control)
  passes_entry = (tt, (agrees ∙ ap not (sym (same_apart s.control.table (enters (is_some (next_number s.control.track))) refl)), tt))

  begun_table : (after entry s.control).table ≡ begun.0
  begun_table = open_step (λ (c : Control). c.table ≡ begun.0) entry s.control lasts refl

  may_request : is_encrypt begun.1 ≡ true → MayRequest (after entry s.control).table
  may_request is =
      let begins = begins_encryption (table_entered s) slot (is_quiet_now s) is in
      let there = extends role max_rx past s.control.table key at (enters (is_some (next_number s.control.track)) ∷ []) (tt, tt) (tt, tt) in
      let none : own_waiting (table_entered s) ≡ 0 = none_own role max_rx (past ++ enters (is_some (next_number s.control.track)) ∷ []) (table_entered s) key there begins.none in
      subst MayRequest (sym begun_table)
      (record { encrypts = begins.kind; none_waits = ap (λ (queue : QueueFacts). number_of is_own_request queue.drafts) begins.queue ∙ none })

  pub fits_enters : Fits (Enters slot) s key
  fits_enters = by (is_encrypt begun.1) refl
    where
      request : Option Ctrl
      request = request_of (ask_begun (table_entered s) (is_quiet_now s))

      by : (b : Bool) → is_encrypt begun.1 ≡ b → Fits (Enters slot) s key
      by false is =
          record {
            fine = subst (λ (b : Bool). Fine s.control key (entry ∷ owed_steps (first_owed_if b s.phase request))) (sym is) (with_owed_fine entry None s.control key refl lasts (tt, (tt, tt)) passes_entry tt);
            asked =
                λ opens.
                ap (λ (b : Bool). key_after_calls key (all_calls (entry ∷ owed_steps (first_owed_if b s.phase request)) s.control)) is
                ∙ with_owed_key entry None s.control key refl (lasts_entered slot (is_quiet_now s) s.control lasts) ∙ asked (opened (Enters slot) s opens)
                ∙ sym (asks_key_encrypting_if (is_encrypt begun.1) request (with_step entry s));
          }
      by true is =
          let begins = begins_encryption (table_entered s) slot (is_quiet_now s) is in
          let role_s : role_now s ≡ Central = sym (role_entered s) ∙ begins.role in
          record {
            fine =
                subst (λ (b : Bool). Fine s.control key (entry ∷ owed_steps (first_owed_if b s.phase request))) (sym is)
                (with_owed_fine entry (first_owed s.phase request) s.control key refl lasts (tt, (tt, tt)) passes_entry
                (first_may s.phase request (after entry s.control) key (same_role Central entry s.control role_s) (may_request is) begins.request));
            asked =
                λ opens.
                ap (λ (b : Bool). key_after_calls key (all_calls (entry ∷ owed_steps (first_owed_if b s.phase request)) s.control)) is
                ∙ with_owed_key entry (first_owed s.phase request) s.control key refl (lasts_entered slot (is_quiet_now s) s.control lasts)
                ∙ first_key s.phase request key begins.request ∙ asked (opened (Enters slot) s opens)
                ∙ sym (asks_key_encrypting_if (is_encrypt begun.1) request (with_step entry s));
          }

-- ---- LL_ENC_REQ follows a pause

first_of : PduClass → List PduClass → PduClass
first_of none [] = none
first_of none (x ∷ xs) = x

not_request : (ctrl : Ctrl) → ctrl_class ctrl ≡ pause_enc_rsp → is_encryption_request ctrl ≡ false
not_request (EncReq rand ediv skd_m iv_m) is = absurd (cc)
not_request PauseEncReq is = absurd (cc)
not_request ctrl is = refl

no_request_in : (ctrls : List Ctrl) → Last (pause_enc_rsp ∷ []) ctrls → AllByRecursion IsNoRequest ctrls
unfolding first_of
no_request_in [] last = tt
no_request_in (x ∷ []) (inl h) = (not_request x (ap (first_of pause_enc_rsp) h), tt)
no_request_in (x ∷ y ∷ ctrls) (inl h) = absurd (cc)
no_request_in (x ∷ ctrls) (inr h) = absurd (cc)

in_half_clear : (p : PhaseFacts) (ctrls : List Ctrl) → may_follow AskTransition p ≡ true → follows_no_pause p ≡ false → Last (phase_ciphers Central p) ctrls → AllByRecursion IsNoRequest ctrls
in_half_clear (HalfClear kept) ctrls may paused last = no_request_in ctrls last
in_half_clear Clear ctrls may paused last = absurd (cc)
in_half_clear p ctrls may paused last = absurd (cc)

queue_acked : (c : Control) → (after control_sees_acknowledged c).table.queue ≡ c.table.queue
queue_acked c = any_step (λ (d : Control). d.table.queue ≡ c.table.queue) control_sees_acknowledged c (by (is_out c.table.out)) refl
  where
    by : (b : Bool) → (table_if b (acked_step c.table).0 c).table.queue ≡ c.table.queue
    by true = refl
    by false = refl

asks_key_asking : (b : Bool) (s : Phased) → (asking_if b s).asks_key ≡ s.asks_key
asks_key_asking true s = asks_key_owed s.request (record s { phase = phase_after AskTransition s.phase })
asks_key_asking false s = refl

module _ (role : Role) (max_rx : ℕ) (past : List Call) (s : Phased) (key : Bool) (at : At role max_rx past s.control.table key) (lasts : s.control.ends ≡ None) (sound : Sound role s) (agrees : Agrees s)
    (order : role ≡ Central → InOrder role s) (asked : KeyFits s key) where
  passes_acked : AllPassPhase s.control.table (calls_of control_sees_acknowledged s.control)
  passes_acked = passes_if (is_out s.control.table.out) is_acked s.control.table (λ is. tt)

  may_acked : MayAll s.control.table key (calls_of control_sees_acknowledged s.control)
  may_acked = may_if (is_out s.control.table.out) is_acked s.control.table key (λ is. tt)

  pub fits_acked : Fits SeesAcknowledged s key
  fits_acked = by (asks_again s) refl
    where
      c : Control
      c = after control_sees_acknowledged s.control

      by : (b : Bool) → asks_again s ≡ b → Fits SeesAcknowledged s key
      by false is =
          record {
            fine = subst (λ (b : Bool). Fine s.control key (control_sees_acknowledged ∷ owed_steps (if b then s.request else None))) (sym is) (with_owed_fine control_sees_acknowledged None s.control key refl lasts may_acked passes_acked tt);
            asked =
                λ opens.
                ap (λ (b : Bool). key_after_calls key (all_calls (control_sees_acknowledged ∷ owed_steps (if b then s.request else None)) s.control)) is
                ∙ with_owed_key control_sees_acknowledged None s.control key refl (lasts_acked s.control lasts) ∙ asked (opened SeesAcknowledged s opens)
                ∙ sym (asks_key_asking (asks_again s) (with_step control_sees_acknowledged s));
          }
      by true is =
          let here = asks_at_central role s is sound.requests in
          let may = (and_parts (may_follow AskTransition s.phase) _ (and_parts (is_pause_rsp s.control.table.out) _ is).1).0 in
          let paused = asks_in_half_clear s is (sound.unpaused here) in
          let has : encrypts s ≡ true = runs (encrypts s) (sym (loud_in_half_clear s.phase may paused) ∙ agrees) in
          let role_c : role_of c.table.progress ≡ Central = same_role Central control_sees_acknowledged s.control (sound.tied.is_role ∙ here) in
          let none : own_waiting s.control.table ≡ 0 =
          no_own s.control.table (in_half_clear s.phase (ciphers_waiting s.control.table) may paused (subst (λ (r : Role). InOrder r s) here (order here)).waits)
          (none_first max_rx past s.control.table key (subst (λ (r : Role). At r max_rx past s.control.table key) here at) has) in
          let request : MayRequest c.table =
          record {
            encrypts = encrypts_kind c.table.progress role_c (leaves_encryption control_sees_acknowledged s.control refl ∙ has);
            none_waits = ap (λ (queue : QueueFacts). number_of is_own_request queue.drafts) (queue_acked s.control) ∙ none;
          } in
          record {
            fine =
                subst (λ (b : Bool). Fine s.control key (control_sees_acknowledged ∷ owed_steps (if b then s.request else None))) (sym is)
                (with_owed_fine control_sees_acknowledged s.request s.control key refl lasts may_acked passes_acked
                (request_may s.request c key role_c request (sound.requests.central here has)));
            asked =
                λ opens.
                ap (λ (b : Bool). key_after_calls key (all_calls (control_sees_acknowledged ∷ owed_steps (if b then s.request else None)) s.control)) is
                ∙ with_owed_key control_sees_acknowledged s.request s.control key refl (lasts_acked s.control lasts)
                ∙ request_key s.request key (sound.requests.central here has) ∙ asked (opened SeesAcknowledged s opens)
                ∙ sym (asks_key_asking (asks_again s) (with_step control_sees_acknowledged s));
          }

-- ---- a PDU is taken

pub has_of_kind : (p : Progress) → role_of p ≡ Central → own_kind p ≡ Some Encrypt → has_encryption p ≡ true
has_of_kind (peripheral p) role is = absurd (cc)
has_of_kind (central c) role is = by c.own is
  where
    by : (own : OwnCentral) → kind_at_central own ≡ Some Encrypt → is_own_encryption own ≡ true
    by EncryptUnsent h = refl
    by EncryptSent h = refl
    by (exchange FeaturesUnsent) h = absurd (cc)
    by (exchange FeaturesSent) h = absurd (cc)
    by (exchange VersionUnsent) h = absurd (cc)
    by (exchange VersionSent) h = absurd (cc)
    by (exchange LengthUnsent) h = absurd (cc)
    by (exchange LengthSent) h = absurd (cc)
    by (exclusive Idle) h = absurd (cc)
    by (exclusive UpdateUnsent) h = absurd (cc)
    by (exclusive UpdateSent) h = absurd (cc)
    by (exclusive MapUnsent) h = absurd (cc)
    by (exclusive MapSent) h = absurd (cc)
    by (exclusive PhyUnsent) h = absurd (cc)
    by (exclusive PhySent) h = absurd (cc)
    by (exclusive PhyAnswered) h = absurd (cc)
    by (exclusive PhyIndicated) h = absurd (cc)

pub none_of_kind : (p : Progress) → role_of p ≡ Peripheral → own_kind p ≡ Some Encrypt → ⊥
none_of_kind (central c) role is = absurd (cc)
none_of_kind (peripheral p) role is = by p.own is
  where
    by : (own : OwnPeripheral) → kind_at_peripheral own ≡ Some Encrypt → ⊥
    by (exchange_p FeaturesUnsent) h = absurd (cc)
    by (exchange_p FeaturesSent) h = absurd (cc)
    by (exchange_p VersionUnsent) h = absurd (cc)
    by (exchange_p VersionSent) h = absurd (cc)
    by (exchange_p LengthUnsent) h = absurd (cc)
    by (exchange_p LengthSent) h = absurd (cc)
    by (exclusive_p idle) h = absurd (cc)
    by (exclusive_p phy_unsent) h = absurd (cc)
    by (exclusive_p phy_sent) h = absurd (cc)
    by (exclusive_p other) h = absurd (cc)

-- outside Clear and Secure none but a PDU of the encryption ends it
of_encryption : (ctrl : Ctrl) → (ctrl_class ctrl ≡ Refusal) ⊎ (ctrl ≡ StartEncRsp) → is_of_encryption (ctrl_class ctrl) ≡ true
of_encryption ctrl (inl h) = ap is_of_encryption h
of_encryption ctrl (inr h) = ap (λ (c : Ctrl). is_of_encryption (ctrl_class c)) h

pub runs_on : (read : CtrlRead) (p : PhaseFacts) (f : TableFacts) (slot : ℕ) → role_of f.progress ≡ Central → is_quiet p ≡ false → allows p Central (class_of_read read) ≡ true
    → is_of_encryption (class_of_read read) ≡ false → has_encryption f.progress ≡ true
    → has_encryption (took_step f (seen_if (is_unknown p Central (class_of_read read)) read) slot (is_quiet p)).0.progress ≡ true
runs_on (Known ctrl) p f slot role loud may apart_is has = by (has_encryption g.progress) refl
  where
    g : TableFacts
    g = (took_step f (seen_if (is_unknown p Central (ctrl_class ctrl)) (Known ctrl)) slot (is_quiet p)).0

    two : true ≡ false → ⊥
    two e = absurd (cc)

    by : (b : Bool) → has_encryption g.progress ≡ b → b ≡ true
    by true is = refl
    by false is =
        let over = subst (λ (u : Bool). has_encryption (took_step f (seen_if u (Known ctrl)) slot (is_quiet p)).0.progress ≡ false) (known_loudly p (ctrl_class ctrl) loud) is in
        let ends = ends_at_central f.progress ctrl slot (is_quiet p) role (ends_by f (takes (Known ctrl) slot (is_quiet p)) has over) in
        absurd (two (sym (of_encryption ctrl (class_of_end ctrl p loud may (is_quiet p) ends)) ∙ apart_is))
runs_on (Unknown opcode) p f slot role loud may apart_is has = by (is_unknown p Central (class_of_read (Unknown opcode)))
  where
    by : (u : Bool) → has_encryption (took_step f (seen_if u (Unknown opcode)) slot (is_quiet p)).0.progress ≡ true
    by true = same_unknown f (Unknown opcode) slot (is_quiet p) refl ∙ has
    by false = same_unknown f (Unknown opcode) slot (is_quiet p) refl ∙ has
runs_on Bare p f slot role loud may apart_is has = by (is_unknown p Central (class_of_read Bare))
  where
    by : (u : Bool) → has_encryption (took_step f (seen_if u Bare) slot (is_quiet p)).0.progress ≡ true
    by true = same_unknown f Bare slot (is_quiet p) refl ∙ has
    by false = same_unknown f Bare slot (is_quiet p) refl ∙ has

key_if_owed : (b : Bool) (ctrl : Ctrl) (key : Bool) → key_after_given key ctrl ≡ key → key_given_by (ctrl_if b ctrl) key ≡ key
key_if_owed true ctrl key is = is
key_if_owed false ctrl key is = refl

key_response : (b : Bool) (response : Response) (key : Bool) → key_given_by (ctrl_if b (response_ctrl response)) key ≡ (if b then true else key)
key_response true response key = refl
key_response false response key = refl

pub key_answered : (role : Role) (response : Response) (read : CtrlRead) (p : PhaseFacts) (key : Bool)
    → key_given_by (read_answer role response read p) key ≡ key_answering role read p true key
key_answered Central response (Known StartEncReq) p key = key_if_owed _ StartEncRsp key refl
key_answered Central response (Known PauseEncRsp) p key = key_if_owed _ PauseEncRsp key refl
key_answered Central response (Known ctrl) p key = refl
key_answered Peripheral response (Known (EncReq rand ediv skd_m iv_m)) p key = key_response (may_follow AskTransition p) response key
key_answered Peripheral response (Known PauseEncReq) p key = key_if_owed _ PauseEncRsp key refl
key_answered Peripheral response (Known StartEncRsp) p key = key_if_owed _ StartEncRsp key refl
key_answered Peripheral response (Known ctrl) p key = refl
key_answered role response (Unknown opcode) p key = refl
key_answered role response Bare p key = refl

pub answered_in : (read : CtrlRead) (s : Phased) → is_answered read s ≡ is_answered_in (role_now s) read s.phase
answered_in (Known ctrl) s = refl
answered_in (Unknown opcode) s = refl
answered_in Bare s = refl
