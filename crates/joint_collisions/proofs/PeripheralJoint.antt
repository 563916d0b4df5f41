-- The steps of a joint run that the peripheral makes.
use Rattle.std.proofs.Common.{◌≡◌, ℕ, ◌+◌, ◌-◌, ◌<◌, ◌==◌, nat_le, Bool, true, false, not, ◌&&◌, ◌||◌, if◌then◌else◌, List, [], ◌∷◌, Option, Some, None, is_some, refl, sym, ap, subst, ◌∙◌, arith, ltb-true, le-leb}
use Rattle.std.proofs.lemmas.Bool.{and_parts}
use Rattle.ble_base.specs.ErrorCodes.{mic_failure}
use Rattle.ble_base.specs.declared.counters.EventNo.{EventNo}
use Rattle.ble_base.specs.declared.roles.Role.TheVariants.{Peripheral as peripheral_role}
use Rattle.data_pdu.specs.declared.ctrl.Ctrl.{Ctrl}
use Rattle.data_pdu.specs.declared.ctrl.Ctrl.TheVariants.{TerminateInd}
use Rattle.data_pdu.specs.declared.ctrl.CtrlRead.TheVariants.{Known}
use Rattle.joint_controls.specs.enc_phase.Phases.{seals}
use Rattle.exclusive_stages.specs.declared.pdus.Pdu.{Pdu}
use Rattle.exclusive_stages.specs.declared.pdus.Pdu.TheVariants.{RejectParam, RejectPhy}
use Rattle.exclusive_stages.specs.Pdus.{is_timed}
use Rattle.instants.specs.declared.track.Change.{Change}
use Rattle.instants.specs.Track.{event_of}
use Rattle.collision_steps.specs.procedure_values.declared.drafts.Draft.{Draft}
use Rattle.collision_steps.specs.procedure_values.declared.drafts.Draft.TheVariants.{Grant, Map, Update}
use Rattle.collision_steps.specs.procedure_values.declared.drafts.Outgoing.{Outgoing}
use Rattle.collision_steps.specs.procedure_values.declared.drafts.Outgoing.TheVariants.{Disconnect, Nothing, Other, Rejection}
use Rattle.collision_steps.specs.procedure_values.Drafts.{ctrl_of_outgoing, indication_of}
use Rattle.collision_steps.specs.procedure_stages.Exclusive.{pdu_of_outgoing}
use Rattle.collisions.specs.declared.joint.Way.{Way as pdu_way}
use Rattle.collisions.specs.declared.joint.Way.TheVariants.{Clear as no_pdu, Fixed as pdu_fixed, OnAir as on_air_pdu, Taken as pdu_taken}
use Rattle.collisions.specs.JointRun.{is_pdu, pdu_on_air}
use Rattle.collision_steps.specs.CentralPart.{passed_from, passed_from_of}
use Rattle.collision_steps.specs.Parts.{outgoing_part, param_request_opcode, phy_request_opcode, reason_part}
use Rattle.joint_controls.specs.control_model.Waits.{EndsByCollision, last_event_of}
use Rattle.joint_controls.specs.phased_control.Phased.{Phased}
use Rattle.joint_controls.specs.phased_control.Taken.{Response, Enters, SeesAcknowledged, Sends, Takes, TakesData, ended_with, phased_after}
use Rattle.joint_controls.specs.Joint.{Clear, Control as control_item, Data, Fixed, HostStep, Item, Joint, OnAir, PeripheralAcked, PeripheralEnters, PeripheralFixes, PeripheralFixesData, PeripheralHost, PeripheralSends, PeripheralTakes, Taken, Way, act, fixed, has_passed, host_step, is_clear, is_fixed, is_free, is_indication, is_item, is_late, is_near, is_same_event, is_supervised, is_taken, is_terminate, item_by, item_on_air, last_change, may_act, next_item, next_out, peripheral_takes as joint_takes, sends_data, sent_up}
use Rattle.joint_controls.specs.Ends.{IsSentOn, outgoing_in, outgoing_on}
use Rattle.joint_controls.proofs.Keeping.{choice}
use Rattle.joint_controls.proofs.Running.{goes_on}
use Rattle.joint_collisions.specs.Facts.{fits_down, fits_if}
use Rattle.joint_collisions.specs.Views.{item_part, kept_part, view_by, view_of, way_if, way_part}
use Rattle.joint_collisions.proofs.CentralEnd.{going}
use Rattle.joint_collisions.proofs.EachStep.{After, Before, InstantOn, after_none, after_peripheral, free_way, item_up, not_false, passed_is_last, peripheral_seen, untaken_way}
use Rattle.joint_collisions.proofs.Fixing.{IsInTime, sends_seen}
use Rattle.joint_collisions.proofs.PeripheralEnd.{acks_goes, enters_goes, fixes_goes, hosts_goes}
use Rattle.joint_collisions.proofs.PeripheralPhase.{GoesAs, ended_forged, peripheral_took}
use Rattle.joint_collisions.proofs.PeripheralSteps.{SeenAt, is_peripheral}
use Rattle.joint_collisions.proofs.Reaching.{Seen, sound_of}
use Rattle.joint_collisions.proofs.Terminated.{terminated_never}

-- ---- what is on its way is an indication, in both words

pub timed_indication : (outgoing : Outgoing) → is_pdu is_timed (outgoing_part outgoing) ≡ is_some (indication_of outgoing 0 0)
timed_indication Nothing = refl
timed_indication (Disconnect code) = refl
timed_indication (Rejection rejection) = by (rejection.opcode == param_request_opcode) (rejection.opcode == phy_request_opcode)
  where
    by : (a c : Bool) → is_pdu is_timed (if a then Some (RejectParam (reason_part rejection.code)) else (if c then Some (RejectPhy (reason_part rejection.code)) else None)) ≡ false
    by true c = refl
    by false true = refl
    by false false = refl
timed_indication (Other draft) = by draft
  where
    by : (draft : Draft) → is_pdu is_timed (outgoing_part (Other draft)) ≡ is_some (indication_of (Other draft) 0 0)
    by (Update params) = refl
    by (Grant params) = refl
    by (Map map) = refl
    by draft = refl

timed_way : (way : Way) → is_item is_indication (item_on_air way) ≡ true → is_pdu is_timed (pdu_on_air (way_part outgoing_part way)) ≡ true
timed_way Clear is = absurd (cc)
timed_way (Fixed item sealed) is = absurd (cc)
timed_way (Taken item) is = absurd (cc)
timed_way (OnAir Data sealed) is = absurd (cc)
timed_way (OnAir (control_item outgoing ctrl) sealed) is = by (outgoing_part outgoing) (timed_indication outgoing ∙ is)
  where
    by : (o : Option Pdu) → is_pdu is_timed o ≡ true → is_pdu is_timed (pdu_on_air (way_if (λ q. on_air_pdu q) o)) ≡ true
    by None h = absurd (cc)
    by (Some pdu) h = h

-- ---- the last indication that was sent

pub last_both : (changes : List Change) (change : Change) → last_change changes ≡ Some change → last_event_of changes ≡ Some change.at
last_both [] change is = absurd (cc)
last_both (one ∷ []) change is = ap event_if is
  where
    event_if : Option Change → Option EventNo
    event_if None = None
    event_if (Some change) = Some change.at
last_both (one ∷ two ∷ more) change is = last_both (two ∷ more) change is

pub last_none : (changes : List Change) → last_change changes ≡ None → last_event_of changes ≡ None
last_none [] is = refl
last_none (one ∷ []) is = absurd (cc)
last_none (one ∷ two ∷ more) is = last_none (two ∷ more) is

module _ (s : Joint) (b : Before s) where
  abbrev over_event : ℕ
  over_event = passed_from s.central.control.table.progress

  abbrev event : ℕ
  event = event_of s.peripheral.control.track

  over_is : (change : Change) → last_change s.central.control.sent ≡ Some change → over_event ≡ change.at.0 + 1
  over_is change is = passed_is_last s b s.central.control.sent refl ∙ ap passed_from_of (last_both s.central.control.sent change is)

  over_none : last_change s.central.control.sent ≡ None → over_event ≡ 0
  over_none is = passed_is_last s b s.central.control.sent refl ∙ ap passed_from_of (last_none s.central.control.sent is)

  -- events of one number, or a late indication
  late_parts : (on_way : Bool) (last : Option Change) → is_item is_indication (item_on_air s.down) ≡ on_way → last_change s.central.control.sent ≡ last
      → has_passed (if on_way then last else None) event ≡ true
      → (nat_le over_event event && is_pdu is_timed (pdu_on_air (way_part outgoing_part s.down))) ≡ true
  late_parts false last way sent late = absurd (cc)
  late_parts true None way sent late = absurd (cc)
  late_parts true (Some change) way sent late =
      let less : change.at.0 < event = ltb-true change.at.0 event late in
      let over = over_is change sent in
      let passed : nat_le over_event event ≡ true = le-leb over_event event (omega (arith, less, over)) in
      rw (passed, timed_way s.down way) refl

  pub in_time : (is_same_event s || is_late s) ≡ true → IsInTime s.central.control (way_part outgoing_part s.down) s.peripheral.control
  in_time h = by (is_same_event s) (is_late s) refl h
    where
      by : (same late : Bool) → is_late s ≡ late → (same || late) ≡ true
          → (same || (nat_le over_event event && is_pdu is_timed (pdu_on_air (way_part outgoing_part s.down)))) ≡ true
      by true late is h = refl
      by false true is h = late_parts (is_item is_indication (item_on_air s.down)) (last_change s.central.control.sent) refl refl is
      by false false is h = absurd (cc)

  -- not too late
  near_parts : (on_way : Bool) (last : Option Change) → is_item is_indication (item_on_air s.down) ≡ on_way → on_way ≡ true → last_change s.central.control.sent ≡ last
      → is_near (if on_way then last else None) event ≡ true → event < (over_event - 1) + 32769
  near_parts false last way timed sent near = absurd (cc)
  near_parts true None way timed sent near =
      let none = over_none sent in
      let one = (sound_of (view_of s) b.holds.seen.reached).fits.sent (timed_way s.down way) in
      absurd (omega (arith, none, one))
  near_parts true (Some change) way timed sent near =
      let less : event < change.at.0 + 32769 = ltb-true event (change.at.0 + 32769) near in
      let over = over_is change sent in omega (arith, less, over)

  near_of : is_supervised s ≡ true → is_item is_indication (item_on_air s.down) ≡ true → event < (over_event - 1) + 32769
  near_of near timed = near_parts (is_item is_indication (item_on_air s.down)) (last_change s.central.control.sent) refl timed refl near

  -- ---- events, hosts

  pub peripheral_enters : (slot : ℕ) → After (act (PeripheralEnters slot) s)
  peripheral_enters slot =
      after_peripheral s b (phased_after (Enters slot) s.peripheral) s.down s.up s.stopped
      (enters_goes s.central.control (way_part outgoing_part s.down) (way_part pdu_of_outgoing s.up) (kept_part s.central.kept) s.peripheral b.goes.peripheral b.facts.peripheral.kept
      (peripheral_seen s b) slot b.awaits) b.holds.instant

  pub peripheral_hosts : (step : HostStep) → After (act (PeripheralHost step) s)
  peripheral_hosts step =
      after_peripheral s b (phased_after (host_step step) s.peripheral) s.down s.up s.stopped
      (hosts_goes s.central.control (way_part outgoing_part s.down) (way_part pdu_of_outgoing s.up) (kept_part s.central.kept) s.peripheral b.goes.peripheral b.facts.peripheral.kept
      (peripheral_seen s b) step) b.holds.instant

  -- ---- it fixes a PDU, and sends it

  clear_is : (way : Way) → is_clear way ≡ true → way_part pdu_of_outgoing way ≡ no_pdu
  clear_is Clear is = refl
  clear_is (Fixed item sealed) is = absurd (cc)
  clear_is (OnAir item sealed) is = absurd (cc)
  clear_is (Taken item) is = absurd (cc)

  abbrev next : Outgoing
  next = next_out s.peripheral

  fixed_part : (o : Option Ctrl) → is_some (item_by next o) ≡ true → way_if (λ q. pdu_fixed q) (pdu_of_outgoing next) ≡ way_part pdu_of_outgoing (fixed (item_by next o))
  fixed_part None some = absurd (cc)
  fixed_part (Some ctrl) some = refl

  abbrev down : pdu_way
  down = way_part outgoing_part s.down

  abbrev kept : Option Pdu
  kept = kept_part s.central.kept

  pub peripheral_fixes : (slot : ℕ) → may_act (PeripheralFixes slot) s ≡ true → After (act (PeripheralFixes slot) s)
  peripheral_fixes slot may =
      let parts = and_parts (is_clear s.up) (is_some (next_item s.peripheral)) may in
      let x = is_peripheral s.peripheral.control.table.progress b.awaits.role in
      let seen = subst (λ (way : pdu_way). SeenAt s.central.control down way kept s.peripheral.control) (clear_is s.up parts.0) (peripheral_seen s b) in
      let g = fixes_goes s.central.control down kept s.peripheral x.0 x.1 b.goes.peripheral b.facts.peripheral.kept slot parts.1 seen in
      after_peripheral s b (phased_after (Sends slot) s.peripheral) s.down (fixed (next_item s.peripheral)) s.stopped
      (subst (λ (way : pdu_way). GoesAs s.central.control down way kept (phased_after (Sends slot) s.peripheral))
      (fixed_part (ctrl_of_outgoing next event s.peripheral.control.track.params.latency) parts.1) g) b.holds.instant

  pub peripheral_fixes_data : may_act PeripheralFixesData s ≡ true → After (act PeripheralFixesData s)
  peripheral_fixes_data may =
      let parts = and_parts (is_clear s.up) (sends_data s.peripheral) may in
      after_none s b s.down (Fixed Data (seals peripheral_role s.peripheral.phase)) s.stopped
      (λ runs. record {
        seen = subst (λ (way : pdu_way). Seen (view_by s.central.control s.peripheral.control down way kept)) (clear_is s.up parts.0) b.holds.seen;
        instant = b.holds.instant;
        alone = b.holds.alone;
      })

  up_seen : (way : Way) → s.up ≡ way → SeenAt s.central.control down (way_part pdu_of_outgoing way) kept s.peripheral.control
  up_seen way is = subst (λ (w : Way). SeenAt s.central.control down (way_part pdu_of_outgoing w) kept s.peripheral.control) is (peripheral_seen s b)

  sent_seen : (way : Way) → s.up ≡ way → is_fixed way ≡ true → is_free s.down ≡ true → (seals : Bool)
      → SeenAt s.central.control down (way_part pdu_of_outgoing (sent_up way seals)) kept s.peripheral.control
  sent_seen Clear is at free seals = absurd (cc)
  sent_seen (OnAir item sealed) is at free seals = absurd (cc)
  sent_seen (Taken item) is at free seals = absurd (cc)
  sent_seen (Fixed Data sealed) is at free seals = up_seen (Fixed Data sealed) is
  sent_seen (Fixed (control_item outgoing ctrl) sealed) is at free seals =
      let x = is_peripheral s.peripheral.control.table.progress b.awaits.role in
      sends_seen s.central.control down kept s.peripheral.control x.0 x.1 (pdu_of_outgoing outgoing) (free_way outgoing_part s.down free) (up_seen (Fixed (control_item outgoing ctrl) sealed) is)

  pub peripheral_sends : may_act PeripheralSends s ≡ true → After (act PeripheralSends s)
  peripheral_sends may =
      let parts = and_parts (is_fixed s.up) (is_free s.down) may in
      after_none s b s.down (sent_up s.up (seals peripheral_role s.peripheral.phase)) s.stopped
      (λ runs. record { seen = (sent_seen s.up refl parts.0 parts.1 (seals peripheral_role s.peripheral.phase)).seen; instant = b.holds.instant; alone = b.holds.alone })

  -- ---- its PDU is acknowledged

  taken_seen : (item : Item) → s.up ≡ Taken item
      → SeenAt s.central.control down (way_if (λ q. pdu_taken q) (pdu_of_outgoing s.peripheral.control.table.out)) kept s.peripheral.control
  taken_seen item is =
      let out : s.peripheral.control.table.out ≡ outgoing_in item = b.tied.peripheral ∙ ap outgoing_on is in
      let way : way_part pdu_of_outgoing s.up ≡ way_if (λ q. pdu_taken q) (pdu_of_outgoing s.peripheral.control.table.out) =
      ap (λ (w : Way). way_part pdu_of_outgoing w) is ∙ ap (λ (o : Option Pdu). way_if (λ q. pdu_taken q) o) (item_up item ∙ ap pdu_of_outgoing (sym out)) in
      subst (λ (w : pdu_way). SeenAt s.central.control down w kept s.peripheral.control) way (peripheral_seen s b)

  acks_by : (way : Way) → s.up ≡ way → is_taken way ≡ true → (is_same_event s || is_late s) ≡ true → GoesAs s.central.control down no_pdu kept (phased_after SeesAcknowledged s.peripheral)
  acks_by Clear is taken time = absurd (cc)
  acks_by (Fixed item sealed) is taken time = absurd (cc)
  acks_by (OnAir item sealed) is taken time = absurd (cc)
  acks_by (Taken item) is taken time =
      let x = is_peripheral s.peripheral.control.table.progress b.awaits.role in
      acks_goes s.central.control down kept s.peripheral x.0 x.1 b.goes.peripheral b.facts.peripheral.kept (in_time time) (taken_seen item is)

  pub peripheral_acked : may_act PeripheralAcked s ≡ true → After (act PeripheralAcked s)
  peripheral_acked may =
      let parts = and_parts (is_taken s.up) (is_same_event s || is_late s) may in
      after_peripheral s b (phased_after SeesAcknowledged s.peripheral) s.down Clear s.stopped (acks_by s.up refl parts.0 parts.1) b.holds.instant

  -- ---- it takes a PDU

  terminate_is : (ctrl : Ctrl) → is_terminate ctrl ≡ true → (code : ℕ) × (ctrl ≡ TerminateInd code)
  terminate_is (TerminateInd code) is = (code, refl)
  terminate_is ctrl is = absurd (cc)

  abbrev up : pdu_way
  up = way_part pdu_of_outgoing s.up

  down_seen : (item : Item) (sealed : Bool) → s.down ≡ OnAir item sealed
      → SeenAt s.central.control (way_if (λ q. on_air_pdu q) (item_part outgoing_part item)) up kept s.peripheral.control
  down_seen item sealed is =
      subst (λ (w : Way). SeenAt s.central.control (way_part outgoing_part w) up kept s.peripheral.control) is (peripheral_seen s b)

  data_goes : (sealed : Bool) → s.down ≡ OnAir Data sealed → GoesAs s.central.control no_pdu up kept (phased_after TakesData s.peripheral)
  data_goes sealed is =
      going (GoesAs s.central.control no_pdu up kept) TakesData s.peripheral b.goes.peripheral
      (choice (GoesAs s.central.control no_pdu up kept) _ s.peripheral (ended_with mic_failure s.peripheral)
      (record { goes = λ lasts. down_seen Data sealed is; never = λ met. subst EndsByCollision b.goes.peripheral met })
      (ended_forged s.central.control no_pdu up kept s.peripheral))

  control_goes : (outgoing : Outgoing) (ctrl : Ctrl) (slot : ℕ) (response : Response) (sealed : Bool) → s.down ≡ OnAir (control_item outgoing ctrl) sealed
      → is_terminate ctrl ≡ false → is_taken s.up ≡ false → (is_same_event s || is_late s) ≡ true → is_supervised s ≡ true
      → GoesAs s.central.control (way_if (λ q. pdu_taken q) (outgoing_part outgoing)) up kept (phased_after (Takes (Known ctrl) slot response) s.peripheral)
  control_goes outgoing ctrl slot response sealed is live free time near =
      let x = is_peripheral s.peripheral.control.table.progress b.awaits.role in
      let on_way : (timed : is_pdu is_timed (outgoing_part outgoing) ≡ true) → is_item is_indication (item_on_air s.down) ≡ true =
      λ timed. ap (λ (w : Way). is_item is_indication (item_on_air w)) is ∙ sym (timed_indication outgoing) ∙ timed in
      going (GoesAs s.central.control (way_if (λ q. pdu_taken q) (outgoing_part outgoing)) up kept) (Takes (Known ctrl) slot response) s.peripheral b.goes.peripheral
      (peripheral_took s.central.control up kept s.peripheral outgoing ctrl slot response x.0 x.1 b.goes.peripheral b.facts.peripheral.kept
      (subst IsSentOn is b.tied.sent_down) (subst (λ (w : Way). fits_if fits_down (item_on_air w) ≡ true) is b.facts.down) live (untaken_way pdu_of_outgoing s.up free)
      (subst (λ (w : Way). IsInTime s.central.control (way_part outgoing_part w) s.peripheral.control) is (in_time time))
      (subst (λ (w : Way). InstantOn w over_event) is b.holds.instant) (λ timed. near_of near (on_way timed))
      (down_seen (control_item outgoing ctrl) sealed is))

  stops : (ctrl : Ctrl) (slot : ℕ) (response : Response) → is_terminate ctrl ≡ true → EndsByCollision (phased_after (Takes (Known ctrl) slot response) s.peripheral).control.ends → ⊥
  stops ctrl slot response is =
      let t = terminate_is ctrl is in
      subst (λ (c : Ctrl). EndsByCollision (phased_after (Takes (Known c) slot response) s.peripheral).control.ends → ⊥) (sym t.1)
      (going (λ (p : Phased). EndsByCollision p.control.ends → ⊥) (Takes (Known (TerminateInd t.0)) slot response) s.peripheral b.goes.peripheral
      (terminated_never s.peripheral b.goes.peripheral (λ quiet. b.facts.peripheral.kept) slot t.0 response))

  takes_by : (way : Way) (slot : ℕ) (response : Response) → s.down ≡ way → is_some (item_on_air way) ≡ true → is_taken s.up ≡ false → (is_same_event s || is_late s) ≡ true
      → is_supervised s ≡ true → After (joint_takes way slot response s)
  takes_by Clear slot response is comes free time near = absurd (cc)
  takes_by (Fixed item sealed) slot response is comes free time near = absurd (cc)
  takes_by (Taken item) slot response is comes free time near = absurd (cc)
  takes_by (OnAir Data sealed) slot response is comes free time near =
      after_peripheral s b (phased_after TakesData s.peripheral) (Taken Data) s.up false (data_goes sealed is) tt
  takes_by (OnAir (control_item outgoing ctrl) sealed) slot response is comes free time near = by (is_terminate ctrl) refl
    where
      by : (last_one : Bool) → is_terminate ctrl ≡ last_one
          → After (record s { peripheral = phased_after (Takes (Known ctrl) slot response) s.peripheral; down = Taken (control_item outgoing ctrl); stopped = is_terminate ctrl })
      by false live =
          after_peripheral s b (phased_after (Takes (Known ctrl) slot response) s.peripheral) (Taken (control_item outgoing ctrl)) s.up (is_terminate ctrl)
          (control_goes outgoing ctrl slot response sealed is live free time near) tt
      by true ends =
          record {
            goes =
                λ runs.
                let g = goes_on (record s { peripheral = phased_after (Takes (Known ctrl) slot response) s.peripheral; down = Taken (control_item outgoing ctrl); stopped = is_terminate ctrl }) runs in
                absurd (let no : true ≡ false = sym ends ∙ g.stopped in cc);
            central_never = λ met. subst EndsByCollision b.goes.central met;
            peripheral_never = stops ctrl slot response ends;
          }

  pub peripheral_takes : (slot : ℕ) (response : Response) → may_act (PeripheralTakes slot response) s ≡ true → After (act (PeripheralTakes slot response) s)
  peripheral_takes slot response may =
      let parts = and_parts (is_some (item_on_air s.down)) (not (is_taken s.up) && ((is_same_event s || is_late s) && is_supervised s)) may in
      let rest = and_parts (not (is_taken s.up)) ((is_same_event s || is_late s) && is_supervised s) parts.1 in
      let time = and_parts (is_same_event s || is_late s) (is_supervised s) rest.1 in
      takes_by s.down slot response refl parts.0 (not_false (is_taken s.up) rest.0) time.0 time.1
