-- Each step of a joint run is the moves that it is said to be, and they may come.
use Rattle.std.proofs.Common.{◌≡◌, ℕ, Bool, true, false, not, ◌&&◌, [], Option, Some, None, is_none, is_some, refl, ap, sym, ◌∙◌, subst}
use Rattle.std.proofs.lemmas.Bool.{and_parts}
use Rattle.ble_base.specs.declared.roles.Role.TheVariants.{Central, Peripheral}
use Rattle.data_pdu.specs.declared.ctrl.Ctrl.{Ctrl}
use Rattle.joint_controls.specs.enc_phase.declared.facts.Transition.TheVariants.{Refuse}
use Rattle.joint_controls.specs.enc_phase.Phases.{may_follow, seals}
use Rattle.exchange_steps.specs.procedure_values.declared.drafts.Draft.TheVariants.{FeatureReq, FeatureRsp, LengthReq as length_req, LengthRsp, PeripheralFeatureReq as feature_req_up, VersionInd as version_ind}
use Rattle.exchange_steps.specs.procedure_values.declared.drafts.Outgoing.{Outgoing}
use Rattle.exchange_steps.specs.procedure_values.declared.drafts.Outgoing.TheVariants.{Disconnect, Nothing, Other, Rejection}
use Rattle.exchange_steps.specs.procedures.Calls.{sends as sends_call}
use Rattle.exchange_steps.specs.Steps.{EndStep, MayCome, after_steps, step_of_sent}
use Rattle.exchange_steps.proofs.Calls.{each_comes}
use Rattle.joint_controls.specs.phased_control.Phased.{is_open_now, is_quiet_now}
use Rattle.joint_controls.specs.phased_control.Taken.{Enters, PhasedStep, SeesAcknowledged, Sends, phased_moved}
use Rattle.joint_controls.specs.Joint.{AnswersRequest, AsksFor, CentralAcked, CentralSends, CentralSendsData, Clear, Control, Data, Ends, Fixed, HasKey, HasNoKey, HostStep, Joint, OnAir, PeripheralAcked, PeripheralFixes, PeripheralFixesData, PeripheralSends, Taken, Way, act, fixed, host_step, is_clear, is_running, is_taken, item_by, event_now, latency_now, may, may_host, next_item, next_out, on_air, sent_up, with_central, with_peripheral}
use Rattle.joint_exchanges.specs.JointMoves
use Rattle.joint_exchanges.specs.JointMoves.{does, host_does, keeps, kept_taken, moves_of, sends, takes, terminates_if}
use Rattle.joint_exchanges.specs.Moves.{is_some_version}
use Rattle.joint_exchanges.specs.Parts.{ExchangeParts, exchanges_at, parts_of, pdu_kept, pdu_of_outgoing, pdu_on}
use Rattle.joint_exchanges.proofs.CentralKeeps.{KeepsForLater}
use Rattle.joint_exchanges.specs.SentByRole.{IsEndOf}
use Rattle.joint_exchanges.proofs.EndSteps.{Makes, acked_makes, answers_make, asks_makes, disconnects_make, enters_makes, is_request, key_makes, no_key_makes, phased_is}
use Rattle.joint_exchanges.proofs.EndTakes.{sends_makes}
use Rattle.joint_exchanges.proofs.MayDo.{may_enter, may_host_ask, may_terminate}
use Rattle.joint_exchanges.proofs.PartMoves.{IsMoved, MayDoIf, central_does, central_keeps, central_sends, central_takes, kept_goes, kept_stays, peripheral_does, peripheral_sends, peripheral_takes, sending_if, then_moved, unmoved}

is_none_is : {X : Type 0} (o : Option X) → is_none o ≡ true → o ≡ None
is_none_is None is = refl
is_none_is (Some x) is = absurd (cc)

-- both ends are open
pub record Runs (s : Joint) : Type 0 where
  pub goes : s.stopped ≡ false
  pub central : s.central.control.ends ≡ None
  pub peripheral : s.peripheral.control.ends ≡ None

not_true : (b : Bool) → not b ≡ true → b ≡ false
not_true true is = absurd (cc)
not_true false is = refl

pub runs_of : (s : Joint) → is_running s ≡ true → Runs s
runs_of s is =
    let one = and_parts (not s.stopped) _ is in
    let two = and_parts (is_none s.central.control.ends) (is_none s.peripheral.control.ends) one.1 in
    record { goes = not_true s.stopped one.0; central = is_none_is s.central.control.ends two.0; peripheral = is_none_is s.peripheral.control.ends two.1 }

-- ---- an end's own step

module _ (s : Joint) where
  abbrev p : ExchangeParts
  p = parts_of s

  central_makes : (step : Option EndStep) (does_step : PhasedStep) → s.central.control.ends ≡ None → Makes step s.central (phased_moved does_step s.central)
      → MayDoIf Central step p → IsMoved (does Central step) p (parts_of (with_central does_step s))
  central_makes step does_step lasts m may =
      Rattle.joint_exchanges.proofs.PartMoves.central_does step p _
      ((λ i. parts_of (record s { central = phased_is does_step s.central lasts i }))
      ∙ (λ i. record p { central = m.ends i; central_knows = m.knows i; kept = pdu_kept (m.kept i) }))
      may

  peripheral_makes : (step : Option EndStep) (does_step : PhasedStep) → s.peripheral.control.ends ≡ None → Makes step s.peripheral (phased_moved does_step s.peripheral)
      → MayDoIf Peripheral step p → IsMoved (does Peripheral step) p (parts_of (with_peripheral does_step s))
  peripheral_makes step does_step lasts m may =
      Rattle.joint_exchanges.proofs.PartMoves.peripheral_does step p _
      ((λ i. parts_of (record s { peripheral = phased_is does_step s.peripheral lasts i }))
      ∙ (λ i. record p { peripheral = m.ends i; peripheral_knows = m.knows i }))
      may

  -- ---- the hosts

  pub central_hosts : (step : HostStep) → s.central.control.ends ≡ None → may_host step s.central ≡ true
      → IsMoved (does Central (host_does step s.central)) p (parts_of (with_central (host_step step) s))
  central_hosts (AsksFor ask) lasts may =
      central_makes _ (host_step (AsksFor ask)) lasts (asks_makes ask s.central lasts) (may_host_ask Central ask s.central p refl refl may)
  central_hosts (AnswersRequest answer) lasts may = central_makes None (host_step (AnswersRequest answer)) lasts (answers_make answer s.central lasts) tt
  central_hosts (Ends reason) lasts may =
      central_makes _ (host_step (Ends reason)) lasts (disconnects_make reason s.central lasts) (may_terminate Central (is_open_now s.central) s.central p refl (λ is. is))
  central_hosts HasKey lasts may = central_makes None (host_step HasKey) lasts (key_makes s.central) tt
  central_hosts HasNoKey lasts may =
      central_makes _ (host_step HasNoKey) lasts (no_key_makes s.central lasts)
      (may_terminate Central (s.central.asks_key && is_open_now s.central && not (may_follow Refuse s.central.phase)) s.central p refl
      (λ is. (and_parts s.central.asks_key (is_open_now s.central) (and_parts (s.central.asks_key && is_open_now s.central) _ is).0).1))

  pub peripheral_hosts : (step : HostStep) → s.peripheral.control.ends ≡ None → may_host step s.peripheral ≡ true
      → IsMoved (does Peripheral (host_does step s.peripheral)) p (parts_of (with_peripheral (host_step step) s))
  peripheral_hosts (AsksFor ask) lasts may =
      peripheral_makes _ (host_step (AsksFor ask)) lasts (asks_makes ask s.peripheral lasts) (may_host_ask Peripheral ask s.peripheral p refl refl may)
  peripheral_hosts (AnswersRequest answer) lasts may = peripheral_makes None (host_step (AnswersRequest answer)) lasts (answers_make answer s.peripheral lasts) tt
  peripheral_hosts (Ends reason) lasts may =
      peripheral_makes _ (host_step (Ends reason)) lasts (disconnects_make reason s.peripheral lasts)
      (may_terminate Peripheral (is_open_now s.peripheral) s.peripheral p refl (λ is. is))
  peripheral_hosts HasKey lasts may = peripheral_makes None (host_step HasKey) lasts (key_makes s.peripheral) tt
  peripheral_hosts HasNoKey lasts may =
      peripheral_makes _ (host_step HasNoKey) lasts (no_key_makes s.peripheral lasts)
      (may_terminate Peripheral (s.peripheral.asks_key && is_open_now s.peripheral && not (may_follow Refuse s.peripheral.phase)) s.peripheral p refl
      (λ is. (and_parts s.peripheral.asks_key (is_open_now s.peripheral) (and_parts (s.peripheral.asks_key && is_open_now s.peripheral) _ is).0).1))

  -- ---- an event is entered, a PDU is acknowledged

  pub central_enters : (slot : ℕ) → s.central.control.ends ≡ None → KeepsForLater s.central
      → IsMoved (does Central (JointMoves.begun_as_entered slot s.central)) p (parts_of (with_central (Enters slot) s))
  central_enters slot lasts k =
      central_makes _ (Enters slot) lasts (enters_makes slot s.central lasts)
      (may_enter Central slot s.central p refl (λ quiet. ap (λ x. is_some_version (pdu_kept x)) (k.quiet quiet)))

  pub peripheral_enters : (slot : ℕ) → s.peripheral.control.ends ≡ None
      → IsMoved (does Peripheral (JointMoves.begun_as_entered slot s.peripheral)) p (parts_of (with_peripheral (Enters slot) s))
  peripheral_enters slot lasts =
      peripheral_makes _ (Enters slot) lasts (enters_makes slot s.peripheral lasts) (may_enter Peripheral slot s.peripheral p refl (λ quiet. refl))

  taken_none : (way : Way) → is_taken way ≡ true → None ≡ pdu_on way
  taken_none (Taken item) is = refl
  taken_none way is = absurd (cc)

  pub central_acked : s.central.control.ends ≡ None → is_taken s.down ≡ true → IsEndOf true Central s.central → IsMoved [] p (parts_of (act CentralAcked s))
  central_acked lasts taken e =
      let m = acked_makes s.central lasts (is_request Central s.central.request e.request) in
      unmoved p _
      ((λ i. parts_of (record s { central = phased_is SeesAcknowledged s.central lasts i; down = Clear }))
      ∙ (λ i. record p { central = m.ends i; central_knows = m.knows i; kept = pdu_kept (m.kept i); down = taken_none s.down taken i }))

  pub peripheral_acked : s.peripheral.control.ends ≡ None → is_taken s.up ≡ true → IsEndOf true Peripheral s.peripheral → IsMoved [] p (parts_of (act PeripheralAcked s))
  peripheral_acked lasts taken e =
      let m = acked_makes s.peripheral lasts (is_request Peripheral s.peripheral.request e.request) in
      unmoved p _
      ((λ i. parts_of (record s { peripheral = phased_is SeesAcknowledged s.peripheral lasts i; up = Clear }))
      ∙ (λ i. record p { peripheral = m.ends i; peripheral_knows = m.knows i; up = taken_none s.up taken i }))

  -- ---- a PDU is sent

  clear_none : (way : Way) → is_clear way ≡ true → pdu_on way ≡ None
  clear_none Clear is = refl
  clear_none way is = absurd (cc)

  ctrl_is : (outgoing : Outgoing) (ctrl : Option Ctrl) → is_some (item_by outgoing ctrl) ≡ true → is_some ctrl ≡ true
  ctrl_is outgoing None is = absurd (cc)
  ctrl_is outgoing (Some ctrl) is = refl

  sent_step : (outgoing : Outgoing) → step_of_sent outgoing ≡ sending_if (pdu_of_outgoing outgoing)
  sent_step Nothing = refl
  sent_step (Rejection rejection) = refl
  sent_step (Disconnect code) = refl
  sent_step (Other FeatureReq) = refl
  sent_step (Other feature_req_up) = refl
  sent_step (Other FeatureRsp) = refl
  sent_step (Other (length_req rx tx)) = refl
  sent_step (Other (LengthRsp rx tx)) = refl
  sent_step (Other version_ind) = refl
  sent_step (Other draft) = refl

  on_air_pdu : (outgoing : Outgoing) (ctrl : Option Ctrl) (sealed : Bool) → is_some (item_by outgoing ctrl) ≡ true
      → pdu_on (on_air (item_by outgoing ctrl) sealed) ≡ pdu_of_outgoing outgoing
  on_air_pdu outgoing None sealed is = absurd (cc)
  on_air_pdu outgoing (Some ctrl) sealed is = refl

  fixed_pdu : (outgoing : Outgoing) (ctrl : Option Ctrl) → is_some (item_by outgoing ctrl) ≡ true → pdu_on (fixed (item_by outgoing ctrl)) ≡ pdu_of_outgoing outgoing
  fixed_pdu outgoing None is = absurd (cc)
  fixed_pdu outgoing (Some ctrl) is = refl

  pub central_sends_one : (slot : ℕ) → s.central.control.ends ≡ None → is_clear s.down ≡ true → is_some (next_item s.central) ≡ true
      → IsMoved (sends Central (pdu_of_outgoing (next_out s.central))) p (parts_of (act (CentralSends slot) s))
  central_sends_one slot lasts clear some =
      let m = sends_makes slot s.central lasts (ctrl_is (next_out s.central) _ some) in
      central_sends (pdu_of_outgoing (next_out s.central)) p _ (clear_none s.down clear)
      ((λ i. parts_of (record s { central = phased_is (Sends slot) s.central lasts i; down = on_air (next_item s.central) (seals Central s.central.phase) }))
      ∙ (λ i. record p {
        central = (m.ends ∙ ap (λ step. after_steps step (exchanges_at s.central)) (sent_step (next_out s.central))) i;
        central_knows = m.knows i;
        kept = pdu_kept (m.kept i);
        down = on_air_pdu (next_out s.central) _ (seals Central s.central.phase) some i;
      }))
      (subst (λ step. MayCome step (exchanges_at s.central)) (sent_step (next_out s.central))
      (each_comes s.central.control.table (sends_call (event_now s.central) (latency_now s.central) (is_quiet_now s.central) slot)))

  pub peripheral_fixes_one : (slot : ℕ) → s.peripheral.control.ends ≡ None → is_clear s.up ≡ true → is_some (next_item s.peripheral) ≡ true
      → IsMoved (sends Peripheral (pdu_of_outgoing (next_out s.peripheral))) p (parts_of (act (PeripheralFixes slot) s))
  peripheral_fixes_one slot lasts clear some =
      let m = sends_makes slot s.peripheral lasts (ctrl_is (next_out s.peripheral) _ some) in
      peripheral_sends (pdu_of_outgoing (next_out s.peripheral)) p _ (clear_none s.up clear)
      ((λ i. parts_of (record s { peripheral = phased_is (Sends slot) s.peripheral lasts i; up = fixed (next_item s.peripheral) }))
      ∙ (λ i. record p {
        peripheral = (m.ends ∙ ap (λ step. after_steps step (exchanges_at s.peripheral)) (sent_step (next_out s.peripheral))) i;
        peripheral_knows = m.knows i;
        up = fixed_pdu (next_out s.peripheral) _ some i;
      }))
      (subst (λ step. MayCome step (exchanges_at s.peripheral)) (sent_step (next_out s.peripheral))
      (each_comes s.peripheral.control.table (sends_call (event_now s.peripheral) (latency_now s.peripheral) (is_quiet_now s.peripheral) slot)))

  -- a PDU that was fixed is sent, and data is fixed or sent
  sent_up_same : (way : Way) (sealed : Bool) → pdu_on (sent_up way sealed) ≡ pdu_on way
  sent_up_same Clear sealed = refl
  sent_up_same (Fixed Data b) sealed = refl
  sent_up_same (Fixed (Control outgoing ctrl) b) sealed = refl
  sent_up_same (OnAir item b) sealed = refl
  sent_up_same (Taken item) sealed = refl

  pub peripheral_sends_one : IsMoved [] p (parts_of (act PeripheralSends s))
  peripheral_sends_one = unmoved p _ (λ i. record p { up = sent_up_same s.up (seals Peripheral s.peripheral.phase) i })

  pub central_sends_data : is_clear s.down ≡ true → IsMoved [] p (parts_of (act CentralSendsData s))
  central_sends_data clear = unmoved p _ (λ i. record p { down = sym (clear_none s.down clear) i })

  pub peripheral_fixes_data : is_clear s.up ≡ true → IsMoved [] p (parts_of (act PeripheralFixesData s))
  peripheral_fixes_data clear = unmoved p _ (λ i. record p { up = sym (clear_none s.up clear) i })
