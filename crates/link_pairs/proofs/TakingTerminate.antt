-- An end that takes a control PDU and holds from then on the code with which its peer ends the link has taken
-- LL_TERMINATE_IND; it goes on, and queues no further control PDU.
use Rattle.std.proofs.Common.{◌≡◌, ◌&&◌, ℕ, nat_le, Bool, true, false, Option, Some, None, is_none, is_some, refl, sym, ap, ◌∙◌, subst, if◌then◌else◌}
use Rattle.ble_base.specs.declared.error_codes.ErrCode.{ErrCode}
use Rattle.data_pdu.specs.declared.ctrl.Ctrl.{Ctrl}
use Rattle.data_pdu.specs.declared.ctrl.Ctrl.TheVariants.{StartEncReq, TerminateInd}
use Rattle.data_pdu.specs.declared.ctrl.CtrlRead.{CtrlRead}
use Rattle.data_pdu.specs.declared.ctrl.CtrlRead.TheVariants.{Known, Unknown}
use Rattle.data_pdu.specs.Reading.{opcode_of}
use Rattle.control_octets.specs.procedure_stages.declared.closing.Closing.{Closing}
use Rattle.control_octets.specs.procedure_stages.declared.closing.Closing.TheVariants.{Closed, Disconnecting, Open}
use Rattle.control_octets.specs.procedure_stages.declared.steps.Effect.{Effect}
use Rattle.control_octets.specs.procedure_stages.declared.steps.Effect.TheVariants.{Indicated, PeerEnds}
use Rattle.control_octets.specs.procedure_stages.declared.steps.Step.{Step}
use Rattle.control_octets.specs.procedure_stages.Closing.{closed, is_open}
use Rattle.control_octets.specs.procedure_stages.Queue.{waiting_in}
use Rattle.control_octets.specs.procedure_stages.Steps.{closing_after}
use Rattle.control_octets.specs.procedures.declared.outcome.Outcome.{Outcome}
use Rattle.control_octets.specs.procedures.Table.{TableFacts}
use Rattle.control_octets.specs.procedures.Taking.{facts_with, lacks_room, outcome_of, settled, took_step}
use Rattle.control_octets.specs.procedures.Termination.{terminate_taken}
use Rattle.control_octets.specs.control_model.Control.{Control, Takes, after, indicated_by, moved, taken}
use Rattle.control_octets.proofs.control_model.Calls.{settled_as}
use Rattle.link_model.specs.control_end.Answers.{effect_shown, nothing_taken, step_shown, taken_of}
use Rattle.link_model.specs.control_end.Held.{held_of}
use Rattle.link_model.specs.phased_end.Held.{HeldKeyed, held_of as keyed_held}
use Rattle.link_model.specs.phased_end.Taking.{handed_keyed, is_handed, nothing_keyed, taken_keyed}
use Rattle.link_model.specs.enc_phase.Phases.{is_quiet}
use Rattle.link_model.specs.enc_phase.Taking.{ctrl_class, is_unknown}
use Rattle.joint_laws.specs.joint_controls.phased_control.Taken.{seen_if}
use Rattle.joint_laws.specs.joint_controls.Joint.{is_terminate}
use Rattle.joint_laws.proofs.joint_phases.Outcomes.{keeps_open}
use Rattle.link_model.specs.Acknowledgement.{Pdu}
use Rattle.link_model.specs.Controls.{read_of}
use Rattle.link_model.specs.Facts.{Facts, keyed_of}
use Rattle.link_model.specs.Receiving.{code_of, leaving_by, procedures_give, procedures_take}
use Rattle.link_pairs.proofs.Items.{never}
use Rattle.link_pairs.proofs.TerminatingPdus.{outcome_ends}

-- ---- no other PDU has that effect

no_code : (effect : Effect) → closing_after effect Open ≡ Open → code_of (effect_shown effect) ≡ None
no_code (PeerEnds code) is = absurd (cc)
no_code (Indicated indication) is = refl
no_code effect is = refl

known_code : (f : TableFacts) (ctrl : Ctrl) (quiet : Bool) → is_terminate ctrl ≡ false → code_of (effect_shown (outcome_of f quiet (Known ctrl)).step.effect) ≡ None
known_code f ctrl quiet apart = no_code (outcome_of f quiet (Known ctrl)).step.effect (keeps_open f quiet ctrl apart Open)

unknown_code : (f : TableFacts) (opcode : ℕ) (quiet : Bool) → code_of (effect_shown (outcome_of f quiet (Unknown opcode)).step.effect) ≡ None
unknown_code f opcode quiet = refl

module _ (f : TableFacts) (read : CtrlRead) (slot : ℕ) (quiet : Bool) (none : code_of (effect_shown (outcome_of f quiet read).step.effect) ≡ None) where
  abbrev outcome : Outcome
  outcome = outcome_of f quiet read

  settled_code : (full : Bool) (ends : Option ErrCode) (g : TableFacts) → code_of (effect_shown (settled_as full ends f g outcome.step).1.effect) ≡ None
  settled_code true ends g = refl
  settled_code false (Some code) g = none
  settled_code false None g = none

  took_code : code_of (effect_shown (took_step f read slot quiet).1.effect) ≡ None
  took_code = settled_code (lacks_room f outcome) outcome.step.ends (facts_with f slot outcome)

  given_code : (lasts : Bool) → code_of (if lasts then step_shown (took_step f read slot quiet).1 else nothing_taken).effect ≡ None
  given_code true = took_code
  given_code false = refl

-- it would be known before
pub takes_terminate : (ctrl : Ctrl) (slot : ℕ) (pdu : Pdu) (facts : Facts) → read_of pdu ≡ Known ctrl → facts.leaving.ended_by_peer ≡ None
    → is_some (procedures_take pdu slot facts).leaving.ended_by_peer ≡ true → is_terminate ctrl ≡ true
takes_terminate ctrl slot pdu facts read before now = by (is_terminate ctrl) refl
  where
    h : HeldKeyed
    h = keyed_held (keyed_of facts)

    quiet : Bool
    quiet = is_quiet facts.encryption.end.phase

    seen_none : is_terminate ctrl ≡ false → (unknown : Bool) → code_of (taken_of (seen_if unknown (Known ctrl)) slot quiet (held_of facts.control)).effect ≡ None
    seen_none apart true = given_code facts.control.table (Unknown (opcode_of ctrl)) slot quiet (unknown_code facts.control.table (opcode_of ctrl) quiet) _
    seen_none apart false = given_code facts.control.table (Known ctrl) slot quiet (known_code facts.control.table ctrl quiet apart) _

    given_none : is_terminate ctrl ≡ false → (handed : Bool)
        → code_of (if handed then handed_keyed slot facts.encryption.response (Known ctrl) h else nothing_keyed).taken.effect ≡ None
    given_none apart true = seen_none apart (is_unknown facts.encryption.end.phase facts.encryption.end.role (ctrl_class ctrl))
    given_none apart false = refl

    none : is_terminate ctrl ≡ false → code_of (procedures_give pdu slot facts).effect ≡ None
    none apart =
        ap (λ (r : CtrlRead). code_of (taken_keyed slot facts.encryption.response r h).taken.effect) read
        ∙ given_none apart (is_handed (Known ctrl) h)

    by : (b : Bool) → is_terminate ctrl ≡ b → is_terminate ctrl ≡ true
    by true is = is
    by false is =
        absurd (let same = (λ i. is_some (leaving_by (none is i) facts.leaving).ended_by_peer) ∙ ap (λ (o : Option ErrCode). is_some o) before in
        let never_some = sym same ∙ now in cc)

-- ---- LL_TERMINATE_IND is taken

-- the end goes on; it queues nothing more, and knows of lengths what it knew
pub record HasTaken (c d : Control) : Type 0 where
  pub ends : d.ends ≡ None
  pub shut : is_open d.table.closing ≡ false
  pub peer_rx : d.table.lengths.peer_rx ≡ c.table.lengths.peer_rx
  pub queue : d.table.queue ≡ c.table.queue

closed_shuts : (closing : Closing) → is_open (closed closing) ≡ false
closed_shuts Open = refl
closed_shuts Closed = refl
closed_shuts Disconnecting = refl

module _ (code slot : ℕ) (quiet : Bool) (c : Control) (lasts : c.ends ≡ None) where
  abbrev ended : Outcome
  ended = terminate_taken c.table code

  took_ended : took_step c.table (Known (TerminateInd code)) slot quiet ≡ (facts_with c.table slot ended, ended.step)
  took_ended =
      ap (settled c.table slot) (outcome_ends c.table code slot quiet)
      ∙ ap (λ (full : Bool). settled_as full None c.table (facts_with c.table slot ended) ended.step)
      (never (is_open c.table.closing && nat_le 16 (waiting_in c.table.queue)))

  after_ended : after (Takes (Known (TerminateInd code)) slot quiet) c ≡ record c { table = facts_with c.table slot ended }
  after_ended =
      ap (λ (ends : Option ErrCode). if is_none ends then moved (Takes (Known (TerminateInd code)) slot quiet) c else c) lasts
      ∙ ap (λ (step : TableFacts × Step). taken step.0 step.1.ends (indicated_by step.1.effect) c) took_ended

  has_taken_code : HasTaken c (after (Takes (Known (TerminateInd code)) slot quiet) c)
  has_taken_code =
      subst (HasTaken c) (sym after_ended) (record { ends = lasts; shut = closed_shuts c.table.closing; peer_rx = refl; queue = refl })

pub has_taken : (ctrl : Ctrl) (slot : ℕ) (quiet : Bool) (c : Control) → c.ends ≡ None → is_terminate ctrl ≡ true
    → HasTaken c (after (Takes (Known ctrl) slot quiet) c)
has_taken (TerminateInd code) slot quiet c lasts is = has_taken_code code slot quiet c lasts
has_taken StartEncReq slot quiet c lasts is = absurd (cc)
has_taken ctrl slot quiet c lasts is = absurd (cc)
