-- A property of the control part of an end that each of its steps but sending keeps is kept by each step of that end in a joint
-- run but sending.
use Rattle.std.proofs.Common.{◌≡◌, ℕ, Bool, true, false, ◌&&◌, Option, Some, None, is_none, is_some, Result, refl, sym, ◌∙◌}
use Rattle.ble_base.specs.declared.error_codes.ErrCode.{ErrCode}
use Rattle.ble_base.specs.declared.roles.Role.TheVariants.{Peripheral}
use Rattle.data_pdu.specs.declared.ctrl.Ctrl.{Ctrl}
use Rattle.data_pdu.specs.declared.ctrl.CtrlRead.{CtrlRead}
use Rattle.data_pdu.specs.declared.ctrl.CtrlRead.TheVariants.{Known}
use Rattle.instants.specs.declared.indications.Indication.{Indication}
use Rattle.instants.specs.Track.{next_number}
use Rattle.phased_control.specs.procedure_values.declared.asks.Ask.{Ask}
use Rattle.ble_base.specs.declared.counters.EventNo.{EventNo}
use Rattle.phased_control.specs.procedure_stages.declared.stages.Progress.{Progress}
use Rattle.phased_control.specs.procedure_stages.declared.stages.Progress.TheVariants.{Central as central, Peripheral as peripheral}
use Rattle.phased_control.specs.procedure_stages.Kinds.{role_of}
use Rattle.phased_control.specs.procedure_values.Drafts.{is_out}
use Rattle.phased_control.specs.procedure_stages.Closing.{is_open}
use Rattle.phased_control.specs.procedure_stages.InProgress.{is_host_asked}
use Rattle.phased_control.specs.procedures.Going.{entered_step, host_answer_step, is_answer, terminate_step}
use Rattle.phased_control.specs.procedures.Sending.{acked_step}
use Rattle.phased_control.specs.procedures.Table.{TableFacts}
use Rattle.phased_control.specs.procedures.Taking.{facts_with, outcome_of}
use Rattle.phased_control.specs.control_model.Control.{Answers, Asks, Control, Disconnects, Enters, Owes, SeesAcknowledged, Takes, after, ended, indicated_by, is_to_come, table_if, taken}
use Rattle.phased_control.specs.control_model.Waits.{last_instant_of}
use Rattle.phased_control.proofs.control_model.Calls.{acked_same, answered_same, any_step, begun_same, either_way, given_same, held_over, took_by}
use Rattle.phased_control.proofs.control_model.Outcomes.{Hands, fits}
use Rattle.phased_control.specs.Phased.{Phased, is_quiet_now}
use Rattle.phased_control.specs.Taken.{PhasedStep, Response, Enters as enters, SeesAcknowledged as sees_acknowledged, phased_after, phased_moved}
use Rattle.joint_controls.specs.Joint.{AnswersRequest, AsksFor, Control as control_item, Data, Ends, HasKey, HasNoKey, HostStep, Item, host_step, taking}
use Rattle.joint_controls.proofs.Keeping.{asking_keeps, choice, data_keeps, encrypting_if_keeps, given_keeps, lacking_keeps, took_keeps}

-- how each step of the control part but sending keeps it
pub record Keeps (P : Control → Type 0) : Type 0 where
  pub enters : (slot : ℕ) (quiet : Bool) (c : Control) → P c → P (after (Enters slot quiet) c)
  pub asks : (ask : Ask) (c : Control) → P c → P (after (Asks ask) c)
  pub answers : (answer : Result Ask ErrCode) (c : Control) → P c → P (after (Answers answer) c)
  pub disconnects : (reason : ErrCode) (c : Control) → P c → P (after (Disconnects reason) c)
  pub acks : (c : Control) → P c → P (after SeesAcknowledged c)
  pub owes : (ctrl : Ctrl) (c : Control) → P c → P (after (Owes ctrl) c)
  pub takes : (read : CtrlRead) (slot : ℕ) (quiet : Bool) (c : Control) → P c → P (after (Takes read slot quiet) c)
  pub ends : (code : ErrCode) (c : Control) → P c → P (ended code c)

module _ (P : Control → Type 0) (k : Keeps P) where
  abbrev PP : Phased → Type 0
  PP s = P s.control

  one : (step : PhasedStep) (s : Phased) → (PP s → PP (phased_moved step s)) → PP s → PP (phased_after step s)
  one step s next h = choice PP (is_none s.control.ends) (phased_moved step s) s (next h) h

  pub enters_kept : (slot : ℕ) (s : Phased) → PP s → PP (phased_after (enters slot) s)
  enters_kept slot s =
      one (enters slot) s (λ h. encrypting_if_keeps P k.owes _ _ _ (k.enters slot (is_quiet_now s) s.control h))

  hosted : (step : HostStep) (s : Phased) → PP s → PP (phased_moved (host_step step) s)
  hosted (AsksFor ask) s h = k.asks ask s.control h
  hosted (AnswersRequest answer) s h = k.answers answer s.control h
  hosted (Ends reason) s h = k.disconnects reason s.control h
  hosted HasKey s h = given_keeps P k.owes s h
  hosted HasNoKey s h = lacking_keeps P k.owes s h

  pub hosts_kept : (step : HostStep) (s : Phased) → PP s → PP (phased_after (host_step step) s)
  hosts_kept step s = one (host_step step) s (hosted step s)

  pub acks_kept : (s : Phased) → PP s → PP (phased_after sees_acknowledged s)
  acks_kept s = one sees_acknowledged s (λ h. asking_keeps P k.owes _ _ (k.acks s.control h))

  took_item : (item : Item) (slot : ℕ) (response : Response) (s : Phased) → PP s → PP (phased_moved (taking item slot response) s)
  took_item Data slot response s h = data_keeps P k.owes k.takes k.ends s h
  took_item (control_item outgoing ctrl) slot response s h = took_keeps P k.owes k.takes k.ends slot response (Known ctrl) s h

  pub takes_kept : (item : Item) (slot : ℕ) (response : Response) (s : Phased) → PP s → PP (phased_after (taking item slot response) s)
  takes_kept item slot response s = one (taking item slot response) s (took_item item slot response s)

-- ---- the last Instant that a central knows

abbrev pub HasLast : Option EventNo → Control → Type 0
HasLast last c = last_instant_of c.table.progress ≡ last

no_last : (p : Progress) → role_of p ≡ Peripheral → last_instant_of p ≡ None
no_last (central c) is = absurd (cc)
no_last (peripheral p) is = refl

module _ (last : Option EventNo) where
  held_last : (f : TableFacts) (holds : Bool) → last_instant_of (entered_step f holds).0.progress ≡ last_instant_of f.progress
  held_last f true = (held_over f.progress).last
  held_last f false = refl

  taken_last : (c : Control) (g : TableFacts) (some : Option Indication) → HasLast last c → Hands some c.table.progress g.progress
      → HasLast last (taken g None some c)
  taken_last c g None h hands = hands.last ∙ h
  taken_last c g (Some indication) h hands =
      either_way (HasLast last) (is_to_come c.track indication) _ _ (no_last g.progress hands.role ∙ sym (no_last c.table.progress hands.here) ∙ h) h

  table_last : (b : Bool) (g : TableFacts) (c : Control) → last_instant_of g.progress ≡ last → HasLast last c → HasLast last (table_if b g c)
  table_last true g c hg h = hg
  table_last false g c hg h = h

  pub last_kept : Keeps (HasLast last)
  last_kept =
      record {
        enters =
            λ slot quiet c h.
            let f = (entered_step c.table (is_some (next_number c.track))).0 in
            any_step (HasLast last) (Enters slot quiet) c ((begun_same f slot quiet).last ∙ held_last c.table (is_some (next_number c.track)) ∙ h) h;
        asks = λ ask c h. any_step (HasLast last) (Asks ask) c h h;
        answers = λ answer c h. any_step (HasLast last) (Answers answer) c (table_last (is_host_asked c.table.progress && is_answer answer) (host_answer_step c.table answer) c ((answered_same c.table answer).last ∙ h) h) h;
        disconnects = λ reason c h. any_step (HasLast last) (Disconnects reason) c (table_last (is_open c.table.closing) (terminate_step c.table reason) c h h) h;
        acks = λ c h. any_step (HasLast last) SeesAcknowledged c (table_last (is_out c.table.out) (acked_step c.table).0 c ((acked_same c.table.out c.table.progress).last ∙ h) h) h;
        owes = λ ctrl c h. any_step (HasLast last) (Owes ctrl) c ((given_same c.table.progress ctrl).last ∙ h) h;
        takes =
            λ read slot quiet c h. any_step (HasLast last) (Takes read slot quiet) c
            (took_by (HasLast last) c (λ code. h) read slot quiet
            (taken_last c (facts_with c.table slot (outcome_of c.table quiet read)) (indicated_by (outcome_of c.table quiet read).step.effect) h (fits c.table quiet read).hands)) h;
        ends = λ code c h. h;
      }
