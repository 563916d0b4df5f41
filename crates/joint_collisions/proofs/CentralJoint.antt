-- The steps of a joint run that the central makes.
use Rattle.std.proofs.Common.{◌≡◌, ℕ, ◌+◌, ◌-◌, ◌%◌, ◌^◌, ◌==◌, Bool, true, false, not, ◌&&◌, if◌then◌else◌, Option, Some, None, is_some, refl, sym, ap, subst, ◌∙◌, arith, eqb-true}
use Rattle.std.proofs.lemmas.Bool.{and_parts}
use Rattle.ble_base.specs.declared.counters.EventNo.{EventNo}
use Rattle.ble_base.specs.declared.roles.Role.{Role}
use Rattle.ble_base.specs.declared.roles.Role.TheVariants.{Central as central_role, Peripheral as peripheral_role}
use Rattle.data_pdu.specs.declared.ctrl.Ctrl.{Ctrl}
use Rattle.data_pdu.specs.declared.ctrl.Ctrl.TheVariants.{TerminateInd}
use Rattle.data_pdu.specs.declared.ctrl.CtrlRead.TheVariants.{Known}
use Rattle.joint_controls.specs.enc_phase.Phases.{seals}
use Rattle.exclusive_stages.specs.declared.pdus.Pdu.{Pdu}
use Rattle.exclusive_stages.specs.Pdus.{is_timed}
use Rattle.instants.specs.declared.indications.Indication.{Indication}
use Rattle.instants.specs.Parameters.{instant_of}
use Rattle.instants.specs.Track.{event_of}
use Rattle.collision_steps.specs.procedure_values.declared.drafts.Draft.{Draft}
use Rattle.collision_steps.specs.procedure_values.declared.drafts.Draft.TheVariants.{Grant, Map, Update}
use Rattle.collision_steps.specs.procedure_values.declared.drafts.Outgoing.{Outgoing}
use Rattle.collision_steps.specs.procedure_values.declared.drafts.Outgoing.TheVariants.{Disconnect, Nothing, Other, Rejection}
use Rattle.collision_steps.specs.procedure_values.Drafts.{ctrl_of_draft, ctrl_of_outgoing, instant_at}
use Rattle.collision_steps.specs.procedure_stages.Exclusive.{pdu_of_outgoing}
use Rattle.collision_steps.specs.procedure_stages.Kinds.{role_of}
use Rattle.collision_steps.specs.procedures.Table.{TableFacts}
use Rattle.collisions.specs.declared.joint.Way.TheVariants.{Clear as no_pdu, OnAir as on_air_pdu, Taken as pdu_taken}
use Rattle.collisions.specs.declared.joint.Way.{Way as pdu_way}
use Rattle.collisions.specs.JointRun.{is_pdu}
use Rattle.exclusive_stages.specs.declared.pdus.Pdu.TheVariants.{RejectParam, RejectPhy}
use Rattle.ble_base.specs.ErrorCodes.{mic_failure}
use Rattle.collision_steps.specs.CentralPart.{passed_from, passed_from_after}
use Rattle.collision_steps.specs.Parts.{outgoing_part, param_request_opcode, phy_request_opcode, reason_part}
use Rattle.collision_steps.proofs.CentralGoing.{instant_one}
use Rattle.joint_controls.specs.control_model.Control.{Control, Enters as control_enters, Sends as control_sends, after, following, went}
use Rattle.joint_controls.proofs.control_model.Calls.{open_step}
use Rattle.joint_controls.specs.control_model.Waits.{EndsByCollision, last_instant_of}
use Rattle.joint_controls.specs.phased_control.Phased.{Phased, is_quiet_now}
use Rattle.joint_controls.specs.phased_control.Taken.{Enters, SeesAcknowledged, Sends, Takes, TakesData, ended_with, phased_after}
use Rattle.joint_controls.specs.Joint.{CentralAcked, CentralEnters, CentralHost, CentralSends, CentralSendsData, CentralTakes, Clear, Control as control_item, Data, Fixed, HostStep, Item, Joint, OnAir, Taken, Way, act, central_takes as joint_takes, host_step, is_clear, is_free, is_same_event, is_taken, is_terminate, item_by, item_on_air, may, may_act, may_transmit, next_item, next_out, no_response, on_air, sends_data, taking}
use Rattle.joint_controls.specs.Ends.{IsSentOn, outgoing_in, outgoing_on}
use Rattle.joint_controls.proofs.EachEnd.{HasLast, enters_kept, hosts_kept, last_kept, takes_kept}
use Rattle.joint_controls.proofs.Keeping.{choice}
use Rattle.joint_controls.proofs.Running.{goes_on}
use Rattle.joint_collisions.specs.Facts.{fits_if, fits_up}
use Rattle.joint_collisions.specs.Views.{item_part, kept_part, view_by, way_if, way_part}
use Rattle.joint_collisions.proofs.Meanings.{same_ctrl}
use Rattle.joint_collisions.proofs.Reaching.{Seen}
use Rattle.joint_collisions.proofs.CentralEnd.{acks_goes, enters_goes, going, hosts_goes, quiet_keeps_none, sends_goes}
use Rattle.joint_collisions.proofs.Alone.{AloneIf}
use Rattle.joint_collisions.proofs.AloneSteps.{acks_alone, enters_alone, hosts_alone, sends_alone}
use Rattle.joint_collisions.proofs.AloneTaking.{data_alone, takes_alone}
use Rattle.joint_collisions.proofs.CentralSteps.{enters, view_at, SeenAt, is_central, passed_kept}
use Rattle.joint_collisions.proofs.CentralTakes.{GoesAs, central_took, ended_forged}
use Rattle.joint_collisions.proofs.EachStep.{After, Before, InstantOn, after_central, after_none, central_seen, known, free_way, item_down, not_false, untaken_way}
use Rattle.joint_collisions.proofs.Readings.{indication_in, same_indication}
use Rattle.joint_collisions.proofs.Terminated.{terminated_never}

module _ (s : Joint) (b : Before s) where
  -- the last Instant stays
  instant_stays : (c : Phased) (down : Way) → HasLast (last_instant_of s.central.control.table.progress) c.control
      → InstantOn down (passed_from s.central.control.table.progress) → InstantOn down (passed_from c.control.table.progress)
  instant_stays c down last h = subst (InstantOn down) (sym (passed_kept s.central.control.table.progress c.control.table.progress last)) h

  abbrev last : Option EventNo
  last = last_instant_of s.central.control.table.progress

  pub central_enters : (slot : ℕ) → After (act (CentralEnters slot) s)
  central_enters slot =
      after_central s b (phased_after (Enters slot) s.central) s.down s.up s.stopped
      (enters_goes s.peripheral.control (way_part outgoing_part s.down) (way_part pdu_of_outgoing s.up) s.central b.goes.central (central_seen s b) slot (known s b))
      (instant_stays (phased_after (Enters slot) s.central) s.down (enters_kept (HasLast last) (last_kept last) slot s.central refl) b.holds.instant)
      (λ goes. enters_alone s.central b.goes.central b.indicates.role b.holds.alone slot (view_at s.peripheral.control (way_part outgoing_part s.down) (way_part pdu_of_outgoing s.up) (kept_part s.central.kept) (after (control_enters slot (is_quiet_now s.central)) s.central.control)) (enters s.peripheral.control (way_part outgoing_part s.down) (way_part pdu_of_outgoing s.up) (kept_part s.central.kept) slot (is_quiet_now s.central) s.central.control (λ quiet. ap kept_part (quiet_keeps_none s.central (known s b) quiet)) (central_seen s b)).seen refl)

  pub central_hosts : (step : HostStep) → After (act (CentralHost step) s)
  central_hosts step =
      after_central s b (phased_after (host_step step) s.central) s.down s.up s.stopped
      (hosts_goes s.peripheral.control (way_part outgoing_part s.down) (way_part pdu_of_outgoing s.up) s.central b.goes.central (central_seen s b) step)
      (instant_stays (phased_after (host_step step) s.central) s.down (hosts_kept (HasLast last) (last_kept last) step s.central refl) b.holds.instant)
      (λ goes. hosts_alone s.central b.goes.central b.indicates.role b.holds.alone step)

  -- ---- it sends

  clear_is : (way : Way) → is_clear way ≡ true → way_part outgoing_part way ≡ no_pdu
  clear_is Clear is = refl
  clear_is (Fixed item sealed) is = absurd (cc)
  clear_is (OnAir item sealed) is = absurd (cc)
  clear_is (Taken item) is = absurd (cc)

  abbrev next : Outgoing
  next = next_out s.central

  abbrev event : ℕ
  event = event_of s.central.control.track

  abbrev latency : ℕ
  latency = s.central.control.track.params.latency

  air_part : (o : Option Ctrl) (sealed : Bool) → is_some (item_by next o) ≡ true
      → way_if (λ q. on_air_pdu q) (outgoing_part next) ≡ way_part outgoing_part (on_air (item_by next o) sealed)
  air_part None sealed some = absurd (cc)
  air_part (Some ctrl) sealed some = refl

  following_table : (role : Role) (some : Option Indication) (c : Control) → (following role some c).table ≡ c.table
  following_table central_role (Some indication) c = refl
  following_table central_role None c = refl
  following_table peripheral_role some c = refl

  -- the last Instant is that of what is sent
  passed_sent : (slot : ℕ) → is_some (next_item s.central) ≡ true
      → passed_from (phased_after (Sends slot) s.central).control.table.progress
      ≡ passed_from_after (outgoing_part next) event latency (passed_from s.central.control.table.progress)
  passed_sent slot some =
      let x = is_central s.central.control.table.progress b.indicates.role in
      let c = s.central.control in
      let quiet = is_quiet_now s.central in
      let d = following (role_of c.table.progress) (went slot quiet c).1 (record c { table = (went slot quiet c).0 }) in
      let h : passed_from d.table.progress ≡ passed_from_after (outgoing_part next) event latency (passed_from c.table.progress) =
      ap (λ (f : TableFacts). passed_from f.progress) (following_table (role_of c.table.progress) (went slot quiet c).1 (record c { table = (went slot quiet c).0 }))
      ∙ instant_one c.table x.0 event latency slot quiet x.1 in
      going (λ (t : Phased). passed_from t.control.table.progress ≡ passed_from_after (outgoing_part next) event latency (passed_from c.table.progress)) (Sends slot) s.central b.goes.central
      (open_step (λ (d : Control). passed_from d.table.progress ≡ passed_from_after (outgoing_part next) event latency (passed_from c.table.progress)) (control_sends slot quiet) c b.goes.central
      (by (ctrl_of_outgoing next event latency) some d h))
    where
      by : (o : Option Ctrl) → is_some (item_by next o) ≡ true → (d : Control)
          → passed_from d.table.progress ≡ passed_from_after (outgoing_part next) event latency (passed_from s.central.control.table.progress)
          → passed_from (if is_some o then d else s.central.control).table.progress
          ≡ passed_from_after (outgoing_part next) event latency (passed_from s.central.control.table.progress)
      by None some d h = absurd (cc)
      by (Some ctrl) some d h = h

  abbrev Names : Outgoing → Ctrl → Type 0
  Names outgoing ctrl =
      is_pdu is_timed (outgoing_part outgoing) ≡ true → (indication : Indication) → indication_in ctrl ≡ Some indication
      → instant_of indication ≡ (passed_from_after (outgoing_part outgoing) event latency (passed_from s.central.control.table.progress) - 1) % 2 ^ 16

  same_instant : (indication own : Indication) → ◌≡◌ {A = Option Indication} (Some own) (Some indication) → instant_of own ≡ instant_at event latency
      → instant_of indication ≡ (event + latency + 7 - 1) % 2 ^ 16
  same_instant indication own same at =
      let here : instant_of own ≡ (event + latency + 7 - 1) % 2 ^ 16 = at ∙ ap (λ (n : ℕ). n % 2 ^ 16) (omega arith) in
      subst (λ (one : Indication). instant_of one ≡ (event + latency + 7 - 1) % 2 ^ 16) (same_indication own indication same) here

  names_draft : (draft : Draft) → Names (Other draft) (ctrl_of_draft draft event latency)
  names_draft (Update params) timed indication some = same_instant indication _ some refl
  names_draft (Grant params) timed indication some = same_instant indication _ some refl
  names_draft (Map map) timed indication some = same_instant indication _ some refl
  names_draft draft timed indication some = absurd (cc)

  names : (outgoing : Outgoing) (ctrl : Ctrl) → ctrl_of_outgoing outgoing event latency ≡ Some ctrl → Names outgoing ctrl
  names Nothing ctrl is = λ timed. absurd (cc)
  names (Disconnect code) ctrl is = λ timed. absurd (cc)
  names (Rejection rejection) ctrl is = λ timed. absurd (no (rejection.opcode == param_request_opcode) (rejection.opcode == phy_request_opcode) timed)
    where
      no : (a c : Bool) → is_pdu is_timed (if a then Some (RejectParam (reason_part rejection.code)) else (if c then Some (RejectPhy (reason_part rejection.code)) else None)) ≡ true → ⊥
      no true c h = absurd (cc)
      no false true h = absurd (cc)
      no false false h = absurd (cc)
  names (Other draft) ctrl is = subst (Names (Other draft)) (same_ctrl (ctrl_of_draft draft event latency) ctrl is) (names_draft draft)

  instant_sent : (sealed : Bool) (o : Option Ctrl) → ctrl_of_outgoing next event latency ≡ o → is_some (item_by next o) ≡ true
      → InstantOn (on_air (item_by next o) sealed) (passed_from_after (outgoing_part next) event latency (passed_from s.central.control.table.progress))
  instant_sent sealed None is some = absurd (cc)
  instant_sent sealed (Some ctrl) is some = names next ctrl is

  pub central_sends : (slot : ℕ) → may_act (CentralSends slot) s ≡ true → After (act (CentralSends slot) s)
  central_sends slot may =
      let parts = and_parts (may_transmit s.down s.up) (is_some (next_item s.central)) may in
      let ways = and_parts (is_clear s.down) (is_free s.up) parts.0 in
      let x = is_central s.central.control.table.progress b.indicates.role in
      let sealed = seals central_role s.central.phase in
      let o = ctrl_of_outgoing next event latency in
      let seen = subst (λ (way : pdu_way). SeenAt s.peripheral.control way (way_part pdu_of_outgoing s.up) (kept_part s.central.kept) s.central.control) (clear_is s.down ways.0) (central_seen s b) in
      let g = sends_goes s.peripheral.control (way_part pdu_of_outgoing s.up) s.central x.0 x.1 b.goes.central slot b.indicates.so_far.latency (known s b) (free_way pdu_of_outgoing s.up ways.1) parts.1 seen in
      after_central s b (phased_after (Sends slot) s.central) (on_air (next_item s.central) sealed) s.up s.stopped
      (subst (λ (way : pdu_way). GoesAs s.peripheral.control way (way_part pdu_of_outgoing s.up) (phased_after (Sends slot) s.central)) (air_part o sealed parts.1) g)
      (subst (InstantOn (on_air (next_item s.central) sealed)) (sym (passed_sent slot parts.1)) (instant_sent sealed o refl parts.1))
      (λ goes. sends_alone s.central b.goes.central b.indicates.role b.holds.alone slot)

  pub central_sends_data : may_act CentralSendsData s ≡ true → After (act CentralSendsData s)
  central_sends_data may =
      let parts = and_parts (may_transmit s.down s.up) (sends_data s.central) may in
      let ways = and_parts (is_clear s.down) (is_free s.up) parts.0 in
      after_none s b (OnAir Data (seals central_role s.central.phase)) s.up s.stopped
      (λ runs. record {
        seen =
            subst (λ (way : pdu_way). Seen (view_by s.central.control s.peripheral.control way (way_part pdu_of_outgoing s.up) (kept_part s.central.kept)))
            (clear_is s.down ways.0) b.holds.seen;
        instant = tt;
        alone = b.holds.alone;
      })

  -- ---- its PDU is acknowledged

  pub same_event : is_same_event s ≡ true → event_of s.central.control.track ≡ event_of s.peripheral.control.track
  same_event is = eqb-true (event_of s.central.control.track) (event_of s.peripheral.control.track) is

  taken_seen : (item : Item) → s.down ≡ Taken item
      → SeenAt s.peripheral.control (way_if (λ q. pdu_taken q) (outgoing_part s.central.control.table.out)) (way_part pdu_of_outgoing s.up) (kept_part s.central.kept) s.central.control
  taken_seen item is =
      let out : s.central.control.table.out ≡ outgoing_in item = b.tied.central ∙ ap outgoing_on is in
      let way : way_part outgoing_part s.down ≡ way_if (λ q. pdu_taken q) (outgoing_part s.central.control.table.out) =
      ap (λ (w : Way). way_part outgoing_part w) is ∙ ap (λ (o : Option Pdu). way_if (λ q. pdu_taken q) o) (item_down item ∙ ap outgoing_part (sym out)) in
      subst (λ (w : pdu_way). SeenAt s.peripheral.control w (way_part pdu_of_outgoing s.up) (kept_part s.central.kept) s.central.control) way (central_seen s b)

  acks_by : (way : Way) → s.down ≡ way → is_taken way ≡ true → is_same_event s ≡ true → GoesAs s.peripheral.control no_pdu (way_part pdu_of_outgoing s.up) (phased_after SeesAcknowledged s.central)
  acks_by Clear is taken same = absurd (cc)
  acks_by (Fixed item sealed) is taken same = absurd (cc)
  acks_by (OnAir item sealed) is taken same = absurd (cc)
  acks_by (Taken item) is taken same =
      let x = is_central s.central.control.table.progress b.indicates.role in
      acks_goes s.peripheral.control (way_part pdu_of_outgoing s.up) s.central x.0 x.1 b.goes.central (same_event same) (taken_seen item is)

  pub central_acked : may_act CentralAcked s ≡ true → After (act CentralAcked s)
  central_acked may =
      let parts = and_parts (is_taken s.down) (is_same_event s) may in
      after_central s b (phased_after SeesAcknowledged s.central) Clear s.up s.stopped (acks_by s.down refl parts.0 parts.1) tt
      (λ goes. acks_alone s.central b.goes.central b.indicates.role b.holds.alone b.facts.central.pauses)

  -- ---- it takes a PDU

  terminate_is : (ctrl : Ctrl) → is_terminate ctrl ≡ true → (code : ℕ) × (ctrl ≡ TerminateInd code)
  terminate_is (TerminateInd code) is = (code, refl)
  terminate_is ctrl is = absurd (cc)

  taken_after : (item : Item) (slot : ℕ) → InstantOn s.down (passed_from (phased_after (taking item slot no_response) s.central).control.table.progress)
  taken_after item slot =
      instant_stays (phased_after (taking item slot no_response) s.central) s.down
      (takes_kept (HasLast last) (last_kept last) item slot no_response s.central refl) b.holds.instant

  up_seen : (item : Item) (sealed : Bool) → s.up ≡ OnAir item sealed
      → SeenAt s.peripheral.control (way_part outgoing_part s.down) (way_if (λ q. on_air_pdu q) (item_part pdu_of_outgoing item)) (kept_part s.central.kept) s.central.control
  up_seen item sealed is =
      subst (λ (w : Way). SeenAt s.peripheral.control (way_part outgoing_part s.down) (way_part pdu_of_outgoing w) (kept_part s.central.kept) s.central.control) is (central_seen s b)

  data_goes : (slot : ℕ) (sealed : Bool) → s.up ≡ OnAir Data sealed
      → GoesAs s.peripheral.control (way_part outgoing_part s.down) no_pdu (phased_after TakesData s.central)
  data_goes slot sealed is =
      going (GoesAs s.peripheral.control (way_part outgoing_part s.down) no_pdu) TakesData s.central b.goes.central
      (choice (GoesAs s.peripheral.control (way_part outgoing_part s.down) no_pdu) _ s.central (ended_with mic_failure s.central)
      (record { goes = λ lasts. up_seen Data sealed is; never = λ met. subst EndsByCollision b.goes.central met })
      (ended_forged s.peripheral.control (way_part outgoing_part s.down) no_pdu s.central))

  control_goes : (outgoing : Outgoing) (ctrl : Ctrl) (slot : ℕ) (sealed : Bool) → s.up ≡ OnAir (control_item outgoing ctrl) sealed → is_terminate ctrl ≡ false
      → is_taken s.down ≡ false → is_same_event s ≡ true
      → GoesAs s.peripheral.control (way_part outgoing_part s.down) (way_if (λ q. pdu_taken q) (pdu_of_outgoing outgoing)) (phased_after (Takes (Known ctrl) slot no_response) s.central)
  control_goes outgoing ctrl slot sealed is live free same =
      let x = is_central s.central.control.table.progress b.indicates.role in
      going (GoesAs s.peripheral.control (way_part outgoing_part s.down) (way_if (λ q. pdu_taken q) (pdu_of_outgoing outgoing))) (Takes (Known ctrl) slot no_response) s.central b.goes.central
      (central_took s.peripheral.control (way_part outgoing_part s.down) s.central outgoing ctrl slot no_response x.0 x.1 b.goes.central (known s b)
      (subst IsSentOn is b.tied.sent_up) (subst (λ (w : Way). fits_if fits_up (item_on_air w) ≡ true) is b.facts.up) live (untaken_way outgoing_part s.down free) (same_event same)
      (up_seen (control_item outgoing ctrl) sealed is))

  control_alone : (outgoing : Outgoing) (ctrl : Ctrl) (slot : ℕ) (sealed : Bool) → s.up ≡ OnAir (control_item outgoing ctrl) sealed → is_terminate ctrl ≡ false
      → (phased_after (Takes (Known ctrl) slot no_response) s.central).control.ends ≡ None → AloneIf (phased_after (Takes (Known ctrl) slot no_response) s.central)
  control_alone outgoing ctrl slot sealed is live =
      let x = is_central s.central.control.table.progress b.indicates.role in
      takes_alone s.central x.0 x.1 b.goes.central b.holds.alone outgoing ctrl slot no_response (subst IsSentOn is b.tied.sent_up)
      (subst (λ (w : Way). fits_if fits_up (item_on_air w) ≡ true) is b.facts.up) live

  -- LL_TERMINATE_IND stops the run
  stops : (ctrl : Ctrl) (slot : ℕ) → is_terminate ctrl ≡ true → EndsByCollision (phased_after (Takes (Known ctrl) slot no_response) s.central).control.ends → ⊥
  stops ctrl slot is =
      let t = terminate_is ctrl is in
      subst (λ (c : Ctrl). EndsByCollision (phased_after (Takes (Known c) slot no_response) s.central).control.ends → ⊥) (sym t.1)
      (going (λ (p : Phased). EndsByCollision p.control.ends → ⊥) (Takes (Known (TerminateInd t.0)) slot no_response) s.central b.goes.central
      (terminated_never s.central b.goes.central (quiet_keeps_none s.central (known s b)) slot t.0 no_response))

  takes_by : (way : Way) (slot : ℕ) → s.up ≡ way → is_some (item_on_air way) ≡ true → is_taken s.down ≡ false → is_same_event s ≡ true → After (joint_takes way slot s)
  takes_by Clear slot is comes free same = absurd (cc)
  takes_by (Fixed item sealed) slot is comes free same = absurd (cc)
  takes_by (Taken item) slot is comes free same = absurd (cc)
  takes_by (OnAir Data sealed) slot is comes free same =
      after_central s b (phased_after TakesData s.central) s.down (Taken Data) false (data_goes slot sealed is) (taken_after Data slot) (data_alone s.central b.goes.central b.holds.alone)
  takes_by (OnAir (control_item outgoing ctrl) sealed) slot is comes free same = by (is_terminate ctrl) refl
    where
      by : (last_one : Bool) → is_terminate ctrl ≡ last_one
          → After (record s { central = phased_after (Takes (Known ctrl) slot no_response) s.central; up = Taken (control_item outgoing ctrl); stopped = is_terminate ctrl })
      by false live =
          after_central s b (phased_after (Takes (Known ctrl) slot no_response) s.central) s.down (Taken (control_item outgoing ctrl)) (is_terminate ctrl)
          (control_goes outgoing ctrl slot sealed is live free same) (taken_after (control_item outgoing ctrl) slot) (control_alone outgoing ctrl slot sealed is live)
      by true ends =
          record {
            goes =
                λ runs.
                let g = goes_on (record s { central = phased_after (Takes (Known ctrl) slot no_response) s.central; up = Taken (control_item outgoing ctrl); stopped = is_terminate ctrl }) runs in
                absurd (let no : true ≡ false = sym ends ∙ g.stopped in cc);
            central_never = stops ctrl slot ends;
            peripheral_never = λ met. subst EndsByCollision b.goes.peripheral met;
          }

  pub central_takes : (slot : ℕ) → may_act (CentralTakes slot) s ≡ true → After (act (CentralTakes slot) s)
  central_takes slot may =
      let parts = and_parts (is_some (item_on_air s.up)) (not (is_taken s.down) && is_same_event s) may in
      let rest = and_parts (not (is_taken s.down)) (is_same_event s) parts.1 in
      takes_by s.up slot refl parts.0 (not_false (is_taken s.down) rest.0) rest.1
