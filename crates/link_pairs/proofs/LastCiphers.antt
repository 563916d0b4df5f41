-- While a link goes on, an LL_TERMINATE_IND that is sent as a PDU of the encryption is that of a peripheral whose host has no key
-- after a pause.
use Rattle.std.proofs.Common.{◌≡◌, ℕ, ◌+◌, ◌&&◌, Bool, true, false, not, List, [], ◌∷◌, Option, Some, None, is_some, refl, sym, ap, subst, ◌∙◌, if◌then◌else◌}
use Rattle.std.proofs.lemmas.Bool.{and_parts}
use Rattle.ble_base.specs.declared.error_codes.ErrCode.{ErrCode}
use Rattle.data_pdu.specs.declared.ctrl.Ctrl.{Ctrl}
use Rattle.data_pdu.specs.declared.ctrl.Ctrl.TheVariants.{StartEncReq, TerminateInd}
use Rattle.control_octets.specs.procedure_values.declared.drafts.Draft.{Draft}
use Rattle.control_octets.specs.procedure_values.declared.drafts.Draft.TheVariants.{Cipher}
use Rattle.control_octets.specs.procedure_values.declared.drafts.Outgoing.{Outgoing}
use Rattle.control_octets.specs.procedure_values.declared.drafts.Outgoing.TheVariants.{Nothing, Other}
use Rattle.control_octets.specs.procedure_values.declared.drafts.Rejection.{Rejection as TheRejection}
use Rattle.control_octets.specs.procedure_values.Drafts.{waits_for_instant}
use Rattle.control_octets.specs.procedure_stages.declared.stages.Progress.{Progress}
use Rattle.control_octets.specs.procedure_stages.Closing.{is_disconnecting, is_open}
use Rattle.control_octets.specs.procedure_stages.Queue.{is_past_instant, next_by, next_disconnect, next_draft}
use Rattle.phase_pairs.specs.enc_phase.declared.classes.PduClass.{PduClass}
use Rattle.phase_pairs.specs.enc_phase.declared.classes.PduClass.TheVariants.{Terminate}
use Rattle.phase_pairs.specs.enc_phase.Phases.{is_asked}
use Rattle.phase_pairs.specs.declared.joint.PhaseLink.{PhaseLink}
use Rattle.phase_pairs.specs.declared.peripheral.PhaseClosing.{PhaseClosing}
use Rattle.phase_pairs.specs.declared.peripheral.PhaseClosing.TheVariants.{Disconnects, HasNoKey, Open}
use Rattle.phase_pairs.specs.Central.{is_queued}
use Rattle.phase_pairs.specs.Counted.{counted_run}
use Rattle.phase_pairs.specs.JointRun.{is_coming}
use Rattle.phase_pairs.specs.Peripheral.{is_closing_open, is_terminate as is_terminate_class}
use Rattle.joint_laws.specs.joint_controls.phased_control.Phased.{Phased, is_quiet_now}
use Rattle.joint_laws.specs.joint_controls.phased_control.Taken.{Enters, PhasedStep, Response, Sends, phased_after}
use Rattle.joint_laws.specs.joint_controls.Joint.{CentralAcked, CentralEnters, CentralHost, CentralSends, CentralSendsData, CentralTakes, Clear, Control as control_item, Fixed, Joint, JointStep, OnAir, PeripheralAcked, PeripheralEnters, PeripheralFixes, PeripheralFixesData, PeripheralHost, PeripheralSends, PeripheralTakes, Shuts, Taken, Way, act, central_takes, event_now, host_step, is_clear, is_running, is_terminate, may_act, may_transmit, next_item, next_out, no_response, peripheral_takes, taking}
use Rattle.joint_laws.proofs.Common.{not_true}
use Rattle.joint_laws.proofs.joint_controls.LastPdus.{acked_end, enters_end, hosts_end, sends_next, takes_end}
use Rattle.joint_laws.specs.joint_parameters.Turns.{Link}
use Rattle.joint_phases.specs.Classes.{class_up, draft_down, draft_up}
use Rattle.joint_phases.specs.Parts.{closing_up, goes_down, goes_up, wait_down, wait_up, way_up}
use Rattle.joint_phases.proofs.MachineFacts.{is_keyless}
use Rattle.joint_keys.specs.KeyedJoint.{KeyedJoint, KeyedJointStep, keyed_act}
use Rattle.joint_keys.specs.KeyedLinks.{all_keyed_steps}
use Rattle.joint_keys.proofs.Keyless.{IsKeyless, keyless_stays}
use Rattle.joint_keys.proofs.LinkKeys.{is_run}
use Rattle.joint_keys.proofs.Standing.{Standing}
use Rattle.joint_keys.proofs.Stepping.{standing_next}
use Rattle.joint_keys.proofs.Vectored.{rests_down, rests_up, vectored}
use Rattle.joint_keys.proofs.Walking.{Here, always}
use Rattle.link_model.specs.Setup.{Setup, first_anchor, first_params}
use Rattle.link_pairs.specs.Ends.{AreEnds}
use Rattle.link_pairs.specs.Shown.{new_link}
use Rattle.link_pairs.proofs.LastControl.{is_end_draft, is_end_out}
use Rattle.link_pairs.proofs.NextOpened.{tests}
use Rattle.link_pairs.proofs.Reaching.{IsReached, joint_at, keys_at}

-- ---- what goes next is the first draft

record EndFirst (drafts : List Draft) : Type 0 where
  draft : Draft
  rest : List Draft
  is_first : drafts ≡ draft ∷ rest
  ends : is_end_draft draft ≡ true

end_by : (waits : Bool) (draft : Draft) → is_end_out (if waits then Nothing else Other draft) ≡ true → is_end_draft draft ≡ true
end_by true draft is = absurd (cc)
end_by false draft is = is

end_first : (rejections : List TheRejection) (ends : Bool) (disconnect : Option ErrCode) (progress : Progress) (event : ℕ) (drafts : List Draft)
    → is_end_out (next_by rejections (if ends then next_disconnect disconnect else next_draft progress event drafts)) ≡ true → EndFirst drafts
end_first (rejection ∷ rejections) ends disconnect progress event drafts is = absurd (cc)
end_first [] true None progress event drafts is = absurd (cc)
end_first [] true (Some code) progress event drafts is = absurd (cc)
end_first [] false disconnect progress event [] is = absurd (cc)
end_first [] false disconnect progress event (draft ∷ drafts) is =
    record {
      draft = draft;
      rest = drafts;
      is_first = refl;
      ends = end_by (waits_for_instant draft && not (is_past_instant progress event)) draft is;
    }

next_first : (x : Phased) → is_end_out (next_out x) ≡ true → EndFirst x.control.table.queue.drafts
next_first x is =
    let f = x.control.table in
    end_first f.queue.rejections (is_disconnecting f.closing && is_quiet_now x) f.queue.disconnect f.progress (event_now x) f.queue.drafts is

-- ---- its class

class_by_down : (knows : Bool) (draft : Draft) → is_end_draft draft ≡ true → draft_down knows draft ≡ Terminate
class_by_down knows (Cipher (TerminateInd code)) is = refl
class_by_down knows (Cipher StartEncReq) is = absurd (cc)
class_by_down knows (Cipher ctrl) is = absurd (cc)
class_by_down knows draft is = absurd (cc)

class_by_up : (knows : Bool) (draft : Draft) → is_end_draft draft ≡ true → draft_up knows draft ≡ Terminate
class_by_up knows (Cipher (TerminateInd code)) is = refl
class_by_up knows (Cipher StartEncReq) is = absurd (cc)
class_by_up knows (Cipher ctrl) is = absurd (cc)
class_by_up knows draft is = absurd (cc)

pub false_by : (b : Bool) → (b ≡ true → ⊥) → b ≡ false
false_by true never = absurd (never refl)
false_by false never = refl

-- ---- in a state

module _ (s : KeyedJoint) (st : Standing s) where
  abbrev j : Joint
  j = s.joint

  abbrev m : PhaseLink
  m = (counted_run st.events).link

  -- none waits at a central
  none_next : is_end_out (next_out j.central) ≡ false
  none_next = false_by (is_end_out (next_out j.central)) (λ is. never (next_first j.central is))
    where
      never : EndFirst j.central.control.table.queue.drafts → ⊥
      never first =
          let class_of = draft_down j.central.knows_version in
          let waits : wait_down class_of m.central.phase (first.draft ∷ first.rest) m.central.queued ≡ true =
          subst (λ (drafts : List Draft). wait_down class_of m.central.phase drafts m.central.queued ≡ true) first.is_first st.shown.central.waits in
          let goes = (and_parts (goes_down (class_of first.draft) m.central.phase m.central.queued) _ waits).0 in
          let none : goes_down Terminate m.central.phase m.central.queued ≡ true =
          subst (λ (pdu : PduClass). goes_down pdu m.central.phase m.central.queued ≡ true) (class_by_down j.central.knows_version first.draft first.ends) goes in
          cc

  keyless_by : is_keyless m.peripheral.closing ≡ true → IsKeyless j.peripheral
  keyless_by is =
      let both = and_parts (is_asked m.peripheral.phase) (not m.peripheral.asks_key) ((tests s st).keyless is) in
      record {
        role = st.shown.peripheral.role;
        asked = ap is_asked st.shown.peripheral.phase ∙ both.0;
        none = st.shown.peripheral.asks_key ∙ not_true m.peripheral.asks_key both.1;
      }

  -- at a peripheral only one without a key
  keyless_next : is_end_out (next_out j.peripheral) ≡ true → IsKeyless j.peripheral
  keyless_next is =
      let first = next_first j.peripheral is in
      let class_of = draft_up j.peripheral.knows_version in
      let waits : wait_up class_of (first.draft ∷ first.rest) m.peripheral ≡ true =
      subst (λ (drafts : List Draft). wait_up class_of drafts m.peripheral ≡ true) first.is_first st.shown.peripheral.waits in
      let goes = (and_parts (goes_up (class_of first.draft) m.peripheral) _ waits).0 in
      let last : goes_up Terminate m.peripheral ≡ true =
      subst (λ (pdu : PduClass). goes_up pdu m.peripheral ≡ true) (class_by_up j.peripheral.knows_version first.draft first.ends) goes in
      keyless_by ((tests s st).waits (and_parts (is_queued Terminate m.peripheral.first) _ last).0)

  open_up : (closing : PhaseClosing) → is_open (closing_up closing) ≡ is_closing_open closing
  open_up Open = refl
  open_up Disconnects = refl
  open_up HasNoKey = refl

  ends_class : (knows : Bool) (ctrl : Ctrl) → is_terminate ctrl ≡ true → class_up knows ctrl ≡ Terminate
  ends_class knows (TerminateInd code) is = refl
  ends_class knows StartEncReq is = absurd (cc)
  ends_class knows ctrl is = absurd (cc)

  -- a peripheral that has sent it is to end the link
  shut_by : (outgoing : Outgoing) (ctrl : Ctrl) (sealed : Bool) → j.up ≡ OnAir (control_item outgoing ctrl) sealed → is_terminate ctrl ≡ true
      → is_open j.peripheral.control.table.closing ≡ false
  shut_by outgoing ctrl sealed at is =
      let coming : is_coming is_terminate_class m.up ≡ true =
      ap (is_coming is_terminate_class) st.shown.up ∙ ap (λ (w : Way). is_coming is_terminate_class (way_up j.peripheral.knows_version w)) at
      ∙ ap is_terminate_class (ends_class j.peripheral.knows_version ctrl is) in
      ap is_open st.shown.peripheral.closing ∙ open_up m.peripheral.closing ∙ not_true (is_closing_open m.peripheral.closing) ((tests s st).shut coming)

-- ---- what is out, after each step

record EndsKeyless (s : KeyedJoint) : Type 0 where
  standing : Standing s
  central : is_end_out s.joint.central.control.table.out ≡ false
  peripheral : is_end_out s.joint.peripheral.control.table.out ≡ true → IsKeyless s.joint.peripheral

-- the last PDU of a peripheral is the same
same_keyless : (step : PhasedStep) (x : Phased) → (phased_after step x).control.table.out ≡ x.control.table.out
    → (is_end_out x.control.table.out ≡ true → IsKeyless x) → is_end_out (phased_after step x).control.table.out ≡ true → IsKeyless (phased_after step x)
same_keyless step x out keyless is = keyless_stays step x (keyless (sym (ap is_end_out out) ∙ is))

module _ (s : KeyedJoint) (here : Here s.joint) (e : EndsKeyless s) where
  abbrev state : Joint
  state = s.joint

  abbrev IsNone : Phased → Type 0
  IsNone x = is_end_out x.control.table.out ≡ false

  abbrev IsEnd : Phased → Type 0
  IsEnd x = is_end_out x.control.table.out ≡ true → IsKeyless x

  takes_none : (w : Way) (slot : ℕ) → IsNone (central_takes w slot state).central
  takes_none (OnAir item sealed) slot =
      ap is_end_out (takes_end state.central.control.table.out item slot no_response state.central refl) ∙ e.central
  takes_none Clear slot = e.central
  takes_none (Fixed item sealed) slot = e.central
  takes_none (Taken item) slot = e.central

  takes_keyless : (w : Way) (slot : ℕ) (response : Response) → IsEnd (peripheral_takes w slot response state).peripheral
  takes_keyless (OnAir item sealed) slot response =
      same_keyless (taking item slot response) state.peripheral (takes_end state.peripheral.control.table.out item slot response state.peripheral refl) e.peripheral
  takes_keyless Clear slot response = e.peripheral
  takes_keyless (Fixed item sealed) slot response = e.peripheral
  takes_keyless (Taken item) slot response = e.peripheral

  central_next : (step : JointStep) → may_act step state ≡ true → IsNone (act step state).central
  central_next (CentralEnters slot) may = ap is_end_out (enters_end state.central.control.table.out slot state.central refl) ∙ e.central
  central_next (CentralHost step) may = ap is_end_out (hosts_end state.central.control.table.out step state.central refl) ∙ e.central
  central_next (CentralSends slot) may =
      ap is_end_out (sends_next state.central slot here.goes.central (and_parts (may_transmit state.down state.up) (is_some (next_item state.central)) may).1)
      ∙ none_next s e.standing
  central_next CentralSendsData may = e.central
  central_next CentralAcked may = ap is_end_out (acked_end state.central here.goes.central)
  central_next (CentralTakes slot) may = takes_none state.up slot
  central_next (PeripheralTakes slot response) may = ap (λ (x : Phased). is_end_out x.control.table.out) (rests_down state.down slot response state) ∙ e.central
  central_next (PeripheralEnters slot) may = e.central
  central_next (PeripheralHost step) may = e.central
  central_next (PeripheralFixes slot) may = e.central
  central_next PeripheralFixesData may = e.central
  central_next PeripheralSends may = e.central
  central_next PeripheralAcked may = e.central
  central_next Shuts may = e.central

  peripheral_next : (step : JointStep) → may_act step state ≡ true → IsEnd (act step state).peripheral
  peripheral_next (PeripheralEnters slot) may =
      same_keyless (Enters slot) state.peripheral (enters_end state.peripheral.control.table.out slot state.peripheral refl) e.peripheral
  peripheral_next (PeripheralHost step) may =
      same_keyless (host_step step) state.peripheral (hosts_end state.peripheral.control.table.out step state.peripheral refl) e.peripheral
  peripheral_next (PeripheralFixes slot) may =
      λ is.
      let out = sends_next state.peripheral slot here.goes.peripheral (and_parts (is_clear state.up) (is_some (next_item state.peripheral)) may).1 in
      keyless_stays (Sends slot) state.peripheral (keyless_next s e.standing (sym (ap is_end_out out) ∙ is))
  peripheral_next PeripheralFixesData may = e.peripheral
  peripheral_next PeripheralSends may = e.peripheral
  peripheral_next PeripheralAcked may = λ is. absurd (let never = sym (ap is_end_out (acked_end state.peripheral here.goes.peripheral)) ∙ is in cc)
  peripheral_next (PeripheralTakes slot response) may = takes_keyless state.down slot response
  peripheral_next (CentralTakes slot) may = subst IsEnd (sym (rests_up state.up slot state)) e.peripheral
  peripheral_next (CentralEnters slot) may = e.peripheral
  peripheral_next (CentralHost step) may = e.peripheral
  peripheral_next (CentralSends slot) may = e.peripheral
  peripheral_next CentralSendsData may = e.peripheral
  peripheral_next CentralAcked may = e.peripheral
  peripheral_next Shuts may = e.peripheral

ends_next : (s : KeyedJoint) (ks : KeyedJointStep) → Here s.joint → EndsKeyless s → may_act ks.step s.joint ≡ true → is_running (act ks.step s.joint) ≡ true
    → EndsKeyless (keyed_act ks s)
ends_next s ks here e may running =
    record {
      standing = standing_next s here.goes here.facts here.central here.peripheral e.standing ks may running;
      central = central_next s here e ks.step may;
      peripheral = peripheral_next s here e ks.step may;
    }

-- ---- in a link that is reached

module _ (central peripheral : Setup) (ends : AreEnds central peripheral) (l : Link) (r : IsReached central peripheral l)
    (running : is_running l.joint ≡ true) where
  abbrev k : KeyedJoint
  k = keys_at central peripheral l r

  same : k.joint ≡ l.joint
  same = joint_at central peripheral l r

  ends_at : EndsKeyless k
  ends_at =
      let rx = central.link.max_rx in
      let other_rx = peripheral.link.max_rx in
      let first = first_params central.link.fields in
      let slot = first_anchor central in
      always rx other_rx first slot EndsKeyless ends_next
      (record {
        standing = (vectored rx other_rx first slot [] (record { latency = ends.in_range.parameters.latency_to; in_range = tt }) refl).standing;
        central = refl;
        peripheral = λ is. absurd (cc);
      })
      (all_keyed_steps r.steps (new_link central peripheral))
      (is_run rx other_rx first slot (central.opened + 1) ends.in_range.parameters.latency_to r.steps r.in_range)
      (subst (λ (j : Joint). is_running j ≡ true) (sym same) running)

  pub central_ends_none : is_end_out l.joint.central.control.table.out ≡ false
  central_ends_none = ap (λ (j : Joint). is_end_out j.central.control.table.out) (sym same) ∙ ends_at.central

  pub peripheral_ends_keyless : is_end_out l.joint.peripheral.control.table.out ≡ true → IsKeyless l.joint.peripheral
  peripheral_ends_keyless =
      subst (λ (j : Joint). is_end_out j.peripheral.control.table.out ≡ true → IsKeyless j.peripheral) same ends_at.peripheral

  pub peripheral_ends_shut : (outgoing : Outgoing) (ctrl : Ctrl) (sealed : Bool) → l.joint.up ≡ OnAir (control_item outgoing ctrl) sealed → is_terminate ctrl ≡ true
      → is_open l.joint.peripheral.control.table.closing ≡ false
  peripheral_ends_shut outgoing ctrl sealed =
      subst
      (λ (j : Joint). j.up ≡ OnAir (control_item outgoing ctrl) sealed → is_terminate ctrl ≡ true → is_open j.peripheral.control.table.closing ≡ false)
      same (shut_by k ends_at.standing outgoing ctrl sealed)
