-- An end with its phase goes by the steps of joint runs: as it sees its last PDU acknowledged, sends one, and takes one.
use Rattle.std.proofs.Common.{◌≡◌, ℕ, ◌&&◌, Bool, true, false, Option, None, is_none, is_some, refl, sym, ap, ◌∙◌, if◌then◌else◌}
use Rattle.ble_base.specs.ErrorCodes.{memory_capacity_exceeded, mic_failure}
use Rattle.ble_base.specs.declared.roles.Role.TheVariants.{Central}
use Rattle.data_pdu.specs.declared.ctrl.Ctrl.{Ctrl}
use Rattle.data_pdu.specs.declared.ctrl.CtrlRead.{CtrlRead}
use Rattle.data_pdu.specs.declared.ctrl.CtrlRead.TheVariants.{Bare, Known, Unknown}
use Rattle.control_octets.specs.procedure_values.declared.drafts.Outgoing.TheVariants.{Nothing}
use Rattle.control_octets.specs.control_model.Control.{Control, SeesAcknowledged as control_acknowledged, Sends as control_sends, Step as ControlStep, Takes as control_takes, after, moved}
use Rattle.control_octets.proofs.control_model.Moving.{same_role}
use Rattle.joint_laws.specs.joint_controls.phased_control.enc_phase.declared.facts.Transition.TheVariants.{Ask as AskTransition}
use Rattle.joint_laws.specs.joint_controls.phased_control.enc_phase.Phases.{may_follow}
use Rattle.joint_laws.specs.joint_controls.phased_control.Phased.{Phased, asking_if, asks_again, is_open_now, is_pause_rsp, is_quiet_now as is_quiet_phased, with_step}
use Rattle.joint_laws.specs.joint_controls.phased_control.Steps.{seen_by_procedures}
use Rattle.joint_laws.specs.joint_controls.phased_control.Taken.{Enters, Response, SeesAcknowledged, Sends, Takes, TakesData, answered_if_quiet, ciphered, ciphered_at, does_keep, ended_with, is_allowed, keeping, lacks_room_now, phased_after, phased_moved, role_now, seen_as}
use Rattle.joint_laws.proofs.joint_controls.phased_control.Agreeing.{lasts_owed}
use Rattle.joint_laws.proofs.joint_controls.phased_control.Moving.{asks_with, open_phased}
use Rattle.link_model.specs.phased_end.Taking.{drawn}
use Rattle.link_model.specs.phased_end.keyed_control.Keyed.{Keyed}
use Rattle.link_model.specs.phased_end.keyed_control.KeyedSteps as keyed
use Rattle.link_model.proofs.phased_end.keyed_control.Phases.{phased_once}
use Rattle.link_model.specs.Acknowledgement.{Pdu}
use Rattle.link_model.specs.Controls.{is_quiet_now, read_of}
use Rattle.link_model.specs.Entering.{facts_entered}
use Rattle.link_model.specs.Facts.{Facts, keyed_of}
use Rattle.link_model.specs.Receiving.{data_taken, keyed_acked_if, procedures_take}
use Rattle.link_model.specs.Sending.{control_gone_if}
use Rattle.link_model.specs.Setup.{Setup}
use Rattle.link_pairs.specs.Ends.{phased_of}
use Rattle.link_pairs.proofs.ControlKept.{acked_ends, acked_none}

-- ---- a step of the control part alone

pub with_after : (step : ControlStep) (s : Phased) → record s { control = after step s.control } ≡ (if is_none s.control.ends then with_step step s else s)
with_after step s = by (is_none s.control.ends)
  where
    by : (b : Bool) → record s { control = (if b then moved step s.control else s.control) }
        ≡ (if b then record s { control = (if b then moved step s.control else s.control) } else s)
    by true = refl
    by false = refl

-- ---- its last PDU is acknowledged, or is not

abbrev pub acked_if : Bool → Phased → Phased
acked_if acks s = if acks then phased_after SeesAcknowledged s else s

pub acked_phased : (acks : Bool) (k : Keyed) → (keyed_acked_if acks k).phased ≡ acked_if acks k.phased
acked_phased true k = phased_once keyed.SeesAcknowledged k
acked_phased false k = refl

-- that ends no link
asking_lasts : (b : Bool) (s : Phased) → s.control.ends ≡ None → (asking_if b s).control.ends ≡ None
asking_lasts b s lasts =
    ap (λ (c : Control). c.ends) (asks_with b s.request s refl) ∙ lasts_owed (if b then s.request else None) s.control lasts

pub acked_lasts : (acks : Bool) (s : Phased) → s.control.ends ≡ None → (acked_if acks s).control.ends ≡ None
acked_lasts true s lasts =
    open_phased (λ (t : Phased). t.control.ends ≡ None) SeesAcknowledged s lasts
    (asking_lasts (asks_again s) (with_step control_acknowledged s) (acked_ends s.control ∙ lasts))
acked_lasts false s lasts = lasts

-- at an end with no request, as a peripheral is, nothing is asked for again
never_asks : (pause may opens : Bool) → (pause && (may && (opens && false))) ≡ false
never_asks true true true = refl
never_asks true true false = refl
never_asks true false opens = refl
never_asks false may opens = refl

pub asks_none : (s : Phased) → s.request ≡ None → asks_again s ≡ false
asks_none s none =
    ap (λ (r : Option Ctrl). is_pause_rsp s.control.table.out && (may_follow AskTransition s.phase && (is_open_now s && is_some r))) none
    ∙ never_asks (is_pause_rsp s.control.table.out) (may_follow AskTransition s.phase) (is_open_now s)

pub acked_alone : (s : Phased) → s.request ≡ None → phased_after SeesAcknowledged s ≡ record s { control = after control_acknowledged s.control }
acked_alone s none = by (is_none s.control.ends)
  where
    by : (b : Bool) → (if b then asking_if (asks_again s) (record s { control = (if b then moved control_acknowledged s.control else s.control) }) else s)
        ≡ record s { control = (if b then moved control_acknowledged s.control else s.control) }
    by true = ap (λ (asks : Bool). asking_if asks (record s { control = moved control_acknowledged s.control })) (asks_none s none)
    by false = refl

-- ---- a control PDU leaves its queue, or does not

abbrev pub gone_if : Bool → ℕ → Phased → Phased
gone_if goes slot s = if goes then phased_after (Sends slot) s else s

pub gone_phased : (goes : Bool) (slot : ℕ) (facts : Facts) → phased_of (control_gone_if goes slot facts) ≡ gone_if goes slot (phased_of facts)
gone_phased true slot facts = with_after (control_sends slot (is_quiet_now facts)) (phased_of facts)
gone_phased false slot facts = refl

-- ---- an event is entered

pub entered_phased : (setup : Setup) (slot : ℕ) (facts : Facts) → phased_of (facts_entered setup slot facts) ≡ phased_after (Enters slot) (phased_of facts)
entered_phased setup slot facts = phased_once (keyed.Enters slot) (keyed_of facts)

-- ---- a control PDU is taken, or data

pub takes_phased : (pdu : Pdu) (slot : ℕ) (facts : Facts)
    → phased_of (procedures_take pdu slot facts) ≡ phased_after (Takes (read_of pdu) slot (drawn facts.encryption.response)) (phased_of facts)
takes_phased pdu slot facts = phased_once (keyed.Takes (read_of pdu) slot (drawn facts.encryption.response)) (keyed_of facts)

pub data_phased : (facts : Facts) → phased_of (data_taken facts) ≡ phased_after TakesData (phased_of facts)
data_phased facts = phased_once keyed.TakesData (keyed_of facts)

-- ---- a central takes a PDU whatever it would draw: it answers no LL_ENC_REQ

module _ (slot : ℕ) (one other : Response) (read : CtrlRead) where
  same_answer : (ctrl : Ctrl) (s : Phased) → role_now s ≡ Central → ciphered one (Known ctrl) s ≡ ciphered other (Known ctrl) s
  same_answer ctrl s is = (λ i. ciphered_at (is i) one ctrl s) ∙ λ i. ciphered_at (sym is i) other ctrl s

  same_ciphered : (read : CtrlRead) (s : Phased) → role_now s ≡ Central → ciphered one read s ≡ ciphered other read s
  same_ciphered (Known ctrl) s is = same_answer ctrl s is
  same_ciphered (Unknown opcode) s is = refl
  same_ciphered Bare s is = refl

  pub drawn_alike : (s : Phased) → role_now s ≡ Central → phased_after (Takes read slot one) s ≡ phased_after (Takes read slot other) s
  drawn_alike s is =
      let t = seen_by_procedures read slot s in
      let there : role_now t ≡ Central = same_role Central (control_takes (seen_as read s) slot (is_quiet_phased s)) s.control is in
      λ i. if is_none s.control.ends
      then (if is_allowed read s
      then (if does_keep read s
      then keeping read s
      else (if lacks_room_now read s
      then ended_with memory_capacity_exceeded s
      else (if is_none t.control.ends then answered_if_quiet slot (same_ciphered read t there i) else t)))
      else ended_with mic_failure s)
      else s

-- ---- nothing is acknowledged where no control PDU is out

pub acked_nothing : (s : Phased) → s.control.table.out ≡ Nothing → phased_after SeesAcknowledged s ≡ s
acked_nothing s none = by (is_none s.control.ends)
  where
    moved_nothing : phased_moved SeesAcknowledged s ≡ s
    moved_nothing =
        (λ i. asking_if (is_pause_rsp (none i) && (may_follow AskTransition s.phase && (is_open_now s && is_some s.request))) (with_step control_acknowledged s))
        ∙ ap (λ (c : Control). record s { control = c }) (acked_none s.control none)

    by : (b : Bool) → (if b then phased_moved SeesAcknowledged s else s) ≡ s
    by true = moved_nothing
    by false = refl
