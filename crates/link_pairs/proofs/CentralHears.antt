-- A central that hears the answer of the peripheral: it sees its last PDU acknowledged, and takes that of the peripheral.
use Rattle.std.proofs.Common.{◌≡◌, ◌⊎◌, inl, inr, ℕ, ◌+◌, ◌≤◌, ◌&&◌, ◌||◌, not, Bool, true, false, List, [], ◌++◌, None, is_none, refl, ap, sym, ◌∙◌, subst, if◌then◌else◌}
use Rattle.std.proofs.lemmas.Bool.{and_from, and_parts, or_right}
use Rattle.ble_base.specs.declared.roles.Role.{Role}
use Rattle.ble_base.specs.declared.roles.Role.TheVariants.{Central}
use Rattle.data_pdu.specs.declared.ctrl.Ctrl.{Ctrl}
use Rattle.data_pdu.specs.declared.ctrl.CtrlRead.TheVariants.{Known}
use Rattle.data_pdu.specs.declared.ctrl.CtrlRead.{CtrlRead}
use Rattle.data_pdu.specs.declared.header.DataHeader.{DataHeader}
use Rattle.control_octets.specs.procedure_values.declared.drafts.Outgoing.{Outgoing}
use Rattle.joint_laws.specs.joint_controls.phased_control.Phased.{Phased}
use Rattle.joint_laws.specs.joint_controls.phased_control.Taken.{SeesAcknowledged, Takes, TakesData, phased_after, role_now}
use Rattle.joint_laws.specs.joint_controls.Ends.{outgoing_on}
use Rattle.joint_laws.specs.joint_controls.Joint.{CentralAcked, CentralTakes, Clear, Control as control_item, Data as data_item, Item, Joint, JointStep, OnAir, Taken, Way, act, after_all, central_takes, is_free, is_last, is_running, is_taken, is_terminate, item_on_air, may_all, no_response, taking}
use Rattle.joint_laws.proofs.joint_controls.Running.{GoesOn, goes_on, none_of}
use Rattle.joint_keys.specs.KeyedJoint.{KeyedJoint, Keys}
use Rattle.joint_keys.specs.KeyedLinks.{keys_in_step}
use Rattle.joint_laws.specs.joint_parameters.Turns.{CentralShuts, IsAnswered, Link, LinkStep, link_after, step_if, takes_item}
use Rattle.joint_laws.proofs.joint_parameters.Pairing.{after_may, running_from}
use Rattle.joint_laws.proofs.joint_parameters.Runs.{after_joined}
use Rattle.link_model.specs.phased_end.Taking.{drawn}
use Rattle.link_model.specs.Setup.{Setup}
use Rattle.link_model.specs.Acknowledgement.{Pdu, received_by, with_accepted}
use Rattle.link_model.specs.OneLink.{AreInAgreement}
use Rattle.link_model.specs.Data.{is_control, is_data, is_empty}
use Rattle.link_model.specs.Controls.{goes_on as end_goes_on, is_procedure_pdu, is_terminate as is_terminate_pdu}
use Rattle.link_model.specs.Facts.{Facts, keyed_of}
use Rattle.link_model.specs.Step.{PacketReceived}
use Rattle.link_model.specs.Packets.{is_forged}
use Rattle.link_model.specs.Receiving.{accepted_if, data_taken_if, facts_hearing, procedures_take_if, taken_if}
use Rattle.link_model.proofs.Hearing.{IsHeardWhole}
use Rattle.link_model.proofs.KeyedPasts.{forged_over as forged_lasts_not}
use Rattle.link_pairs.specs.Ends.{AreEnds, heard_turns, is_lasting, phased_of}
use Rattle.link_pairs.specs.Hearing.{IsPacketOf, is_mixed, received}
use Rattle.link_pairs.specs.Shown.{AreLinked, HasKeys, HaveKeys, Shows}
use Rattle.link_pairs.specs.Ways.{IsControlPdu, ShowsWay}
use Rattle.link_pairs.proofs.PhasedEnds.{acked_if, acked_lasts, acked_phased, data_phased, drawn_alike, takes_phased}
use Rattle.link_pairs.proofs.PhasedKept.{PhasedKeeps, acked_keeps_if, data_keeps, fits_of, kept_then, stays_kept, taken_keeps}
use Rattle.link_pairs.proofs.TakingPdus.{taken_same}
use Rattle.link_pairs.proofs.TerminatesNoted.{terminates_nothing}
use Rattle.link_pairs.proofs.SeenAcknowledged.{control_seen, ends_nothing, keys_seen}
use Rattle.link_pairs.proofs.Shutting.{shut_joint}
use Rattle.link_pairs.proofs.TakingKeys.{central_alike, took_keys}
use Rattle.link_pairs.proofs.Counts.{Says, acknowledged_by, heard_agreed, is_fresh, says_right, turned}
use Rattle.link_pairs.proofs.HeardFacts.{acked_facts, heard_rests, hears_shows}
use Rattle.link_pairs.proofs.Items.{control_is_no_data, control_is_procedure, data_is_no_procedure, never}
use Rattle.link_pairs.proofs.LastPdus.{last_reached}
use Rattle.link_pairs.proofs.Lasting.{lasts_before}
use Rattle.link_pairs.proofs.HasSent.{sent_packet}
use Rattle.link_pairs.proofs.KeyedRuns.{all_joined, central_acked, central_took, keys_acked_if, keys_all, keys_taken_if, peripheral_apart}
use Rattle.link_pairs.proofs.KeysHeld.{acked_has, have_after}
use Rattle.link_pairs.proofs.LastFits.{fits_up}
use Rattle.link_pairs.proofs.Reaching.{IsReached, IsShown, comes, joint_at, keys_at, keys_next, linked_on, not_both, reached_next, shut_on}
use Rattle.link_pairs.proofs.Replying.{received_forged}
use Rattle.link_pairs.proofs.Reading.{IsRead, read_or_forged}
use Rattle.link_pairs.proofs.Ways.{Arrival, ItemTaken, NothingTaken, arrives}
use Rattle.link_pairs.proofs.PeripheralSteps.{may_parts, one_step}

-- ---- the joint run: it sees its last PDU acknowledged, and takes one

abbrev acking_if : Bool → Joint → Joint
acking_if acks s = if acks then act CentralAcked s else s

abbrev taking_if : Bool → ℕ → Joint → Joint
taking_if takes slot s = if takes then act (CentralTakes slot) s else s

one_by : (does : Bool) (step : JointStep) (s : Joint) → may_all (step_if does step) s ≡ true
    → after_all (step_if does step) s ≡ (if does then act step s else s)
one_by true step s comes = after_may step s (one_step step s comes)
one_by false step s comes = refl

joint_hears : (acks takes : Bool) (slot : ℕ) (s : Joint)
    → may_all (step_if acks CentralAcked ++ step_if takes (CentralTakes slot)) s ≡ true
    → after_all (step_if acks CentralAcked ++ step_if takes (CentralTakes slot)) s ≡ taking_if takes slot (acking_if acks s)
joint_hears acks takes slot s comes =
    let parts = may_parts (step_if acks CentralAcked) (step_if takes (CentralTakes slot)) s comes in
    after_joined (step_if acks CentralAcked) (step_if takes (CentralTakes slot)) s
    ∙ one_by takes (CentralTakes slot) (after_all (step_if acks CentralAcked) s) parts.1
    ∙ ap (taking_if takes slot) (one_by acks CentralAcked s parts.0)

acked_as : (acks : Bool) (s : Joint) → acking_if acks s ≡ record s {
  central = (if acks then phased_after SeesAcknowledged s.central else s.central);
  down = (if acks then Clear else s.down);
}
acked_as true s = refl
acked_as false s = refl

-- it takes an item
taking_as : (item : Item) (sealed : Bool) (slot : ℕ) (s : Joint) → s.up ≡ OnAir item sealed
    → act (CentralTakes slot) s
    ≡ record s { central = phased_after (taking item slot no_response) s.central; up = Taken item; stopped = is_last item }
taking_as item sealed slot s is = ap (λ (way : Way). central_takes way slot s) is

-- ---- both together

module _ (central peripheral : Setup) (at_central : central.link.role ≡ Central) (slot : ℕ) (more acks fresh : Bool) (c p : Facts) (l : Link)
    (s : Shows central peripheral (slot + 1) true l c p) (says : Says c.acknowledgement p.acknowledgement acks fresh)
    (g : GoesOn l.joint) (past : heard_turns central c ≤ slot) (entered : 1 ≤ c.control.track.entered)
    (out : c.control.table.out ≡ outgoing_on l.joint.down) where
  abbrev last : Pdu
  last = p.acknowledgement.last

  -- the link shows it while the run goes on, and that does while the link lasts at the central; the run has the control
  -- part also where it stops
  abbrev after_hearing : Joint → Facts → Type 0
  after_hearing j d =
      (is_running j ≡ true
      → Shows central peripheral (slot + 1) false (record { turns = (link_after (IsAnswered true slot) l).turns; joint = j }) d p)
      × (is_lasting d ≡ true → is_running j ≡ true)
      × (j.central.control ≡ d.control)

  abbrev joint_by : Bool → Joint
  joint_by takes = taking_if takes slot (acking_if (is_taken l.joint.down) l.joint)

  abbrev acked : Facts
  acked = acked_facts slot more acks c

  abbrev seen : Phased
  seen = phased_of acked

  lasts : c.control.ends ≡ None
  lasts = ap (λ (x : Phased). x.control.ends) (sym s.central_part) ∙ g.central

  seen_is : seen ≡ acked_if (acks && is_control c.acknowledgement.last) (phased_of c)
  seen_is = acked_phased (acks && is_control c.acknowledgement.last) (keyed_of c)

  seen_lasts : seen.control.ends ≡ None
  seen_lasts = ap (λ (x : Phased). x.control.ends) seen_is ∙ acked_lasts (acks && is_control c.acknowledgement.last) (phased_of c) lasts

  seen_keeps : PhasedKeeps (phased_of c) seen
  seen_keeps =
      subst (PhasedKeeps (phased_of c)) (sym seen_is)
      (acked_keeps_if (acks && is_control c.acknowledgement.last) (phased_of c) lasts (fits_of central (slot + 1) c s.central_rests))

  seen_role : role_now seen ≡ Central
  seen_role = seen_keeps.role Central (s.central_rests.role ∙ at_central)

  stays_open : acked.leaving.acknowledged ≡ false
  stays_open =
      ap (λ (b : Bool). b || (acks && is_terminate_pdu c.acknowledgement.last)) s.central_rests.stays
      ∙ ends_nothing c.acknowledgement p.acknowledgement acks fresh says l.joint.down s.down

  seen_part : acked_if (is_taken l.joint.down) l.joint.central ≡ seen
  seen_part =
      ap (acked_if (is_taken l.joint.down)) s.central_part
      ∙ sym (control_seen c.acknowledgement p.acknowledgement acks fresh says l.joint.down (phased_of c) s.down out) ∙ sym seen_is

  abbrev joint_seen : Joint
  joint_seen = record l.joint { central = seen; down = (if is_taken l.joint.down then Clear else l.joint.down) }

  joint_seen_is : acking_if (is_taken l.joint.down) l.joint ≡ joint_seen
  joint_seen_is =
      acked_as (is_taken l.joint.down) l.joint
      ∙ λ i. record l.joint { central = seen_part i; down = (if is_taken l.joint.down then Clear else l.joint.down) }

  -- its procedures take what arrived, or nothing
  module _ (accepted : Bool)
      (agreed : AreInAgreement (received_by acks accepted last c.acknowledgement) p.acknowledgement) where
    abbrev given : Facts
    given = accepted_if accepted last acked

    abbrev now : Facts
    now = taken_if accepted last slot acked

    -- what is taken is this, by what it is
    taken_as : (procedure has_data : Bool) → (accepted && is_procedure_pdu last) ≡ procedure → (accepted && is_data last) ≡ has_data
        → phased_of now ≡ phased_of (data_taken_if has_data (procedures_take_if procedure last slot given))
    taken_as procedure has_data one two = λ i. phased_of (data_taken_if (two i) (procedures_take_if (one i) last slot given))

    came : (up : Way) (stopped : Bool) → is_free up ≡ true
        → (stopped ≡ false → ShowsWay up p.acknowledgement (with_accepted accepted last c.acknowledgement))
        → (stopped ≡ false → PhasedKeeps seen (phased_of now))
        → (now.control.ends ≡ None → is_none now.leaving.ended_by_peer ≡ true → stopped ≡ false)
        → after_hearing (record joint_seen { central = phased_of now; up = up; stopped = stopped }) now
    came up stopped free shown keeps ends =
        let j = record joint_seen { central = phased_of now; up = up; stopped = stopped } in
        let took = taken_same (accepted && is_procedure_pdu last) (accepted && is_data last) last slot given in (
          λ still. let goes = goes_on j still in
              hears_shows central peripheral slot more acks fresh c p l s says accepted (phased_of now) up stopped now took refl (shown goes.stopped) free agreed
              (heard_rests slot more acks accepted last c central now took (kept_then (phased_of c) seen (phased_of now) seen_keeps (keeps goes.stopped))
              s.central_rests past entered stays_open),
          λ lasting. let parts = and_parts (end_goes_on now) (is_none now.leaving.ended_by_peer) lasting in
              let none = none_of now.control.ends parts.0 in
              running_from j (ends none parts.1) none g.peripheral,
          refl,
        )

    nothing_taken : (accepted && is_procedure_pdu last) ≡ false → (accepted && is_data last) ≡ false → is_free l.joint.up ≡ true
        → ShowsWay l.joint.up p.acknowledgement (with_accepted accepted last c.acknowledgement) → after_hearing (joint_by false) now
    nothing_taken none no_data free shown =
        let left : phased_of now ≡ seen = taken_as false false none no_data in
        subst (λ (j : Joint). after_hearing j now)
        (sym (joint_seen_is ∙ λ i. record joint_seen { central = sym left i; up = l.joint.up; stopped = g.stopped i }))
        (came l.joint.up false free (λ goes. shown) (λ goes. subst (PhasedKeeps seen) (sym left) (stays_kept seen seen_keeps.fits)) (λ none still. refl))

    data_taken_now : (sealed : Bool) → l.joint.up ≡ OnAir data_item sealed → accepted ≡ true → is_data last ≡ true
        → ShowsWay (Taken data_item) p.acknowledgement (with_accepted accepted last c.acknowledgement) → after_hearing (joint_by true) now
    data_taken_now sealed way is_accepted item shown =
        let took : phased_of now ≡ phased_after TakesData seen =
        taken_as false true (ap (λ (b : Bool). accepted && b) (data_is_no_procedure last item) ∙ never accepted) (and_from accepted (is_data last) is_accepted item)
        ∙ data_phased given in
        subst (λ (j : Joint). after_hearing j now)
        (sym (ap (act (CentralTakes slot)) joint_seen_is ∙ taking_as data_item sealed slot joint_seen way
        ∙ λ i. record joint_seen { central = sym took i; up = Taken data_item; stopped = false }))
        (came (Taken data_item) false refl (λ goes. shown)
        (λ goes. subst (PhasedKeeps seen) (sym took) (data_keeps seen seen_lasts seen_keeps.fits)) (λ none still. refl))

    control_taken_now : (outgoing : Outgoing) (ctrl : Ctrl) (sealed : Bool) → l.joint.up ≡ OnAir (control_item outgoing ctrl) sealed → accepted ≡ true
        → IsControlPdu ctrl last
        → (is_terminate ctrl ≡ false → ShowsWay (Taken (control_item outgoing ctrl)) p.acknowledgement (with_accepted accepted last c.acknowledgement))
        → after_hearing (joint_by true) now
    control_taken_now outgoing ctrl sealed way is_accepted item shown =
        let response = drawn c.encryption.response in
        let took : phased_of now ≡ phased_after (Takes (Known ctrl) slot response) seen =
        taken_as true false (and_from accepted (is_procedure_pdu last) is_accepted (control_is_procedure ctrl last item))
        (ap (λ (b : Bool). accepted && b) (control_is_no_data ctrl last item) ∙ never accepted)
        ∙ takes_phased last slot given ∙ ap (λ (read : CtrlRead). phased_after (Takes read slot response) seen) item.read_as in
        subst (λ (j : Joint). after_hearing j now)
        (sym (ap (act (CentralTakes slot)) joint_seen_is ∙ taking_as (control_item outgoing ctrl) sealed slot joint_seen way
        ∙ λ i. record joint_seen {
          central = (drawn_alike slot no_response response (Known ctrl) seen seen_role ∙ sym took) i;
          up = Taken (control_item outgoing ctrl);
          stopped = is_terminate ctrl;
        }))
        (came (Taken (control_item outgoing ctrl)) (is_terminate ctrl) refl shown
        (λ goes. subst (PhasedKeeps seen) (sym took)
        (taken_keeps slot response ctrl (item.is_ctrl, goes) s.central_rests.holds.response seen seen_keeps.fits seen_lasts))
        (λ still none. terminates_nothing ctrl slot last acked item
        (ap (λ (b : Bool). (taken_if b last slot acked).control.ends) (sym is_accepted) ∙ still)
        (ap (λ (b : Bool). is_none (taken_if b last slot acked).leaving.ended_by_peer) (sym is_accepted) ∙ none)))

    -- it takes what arrived
    hears_by : (takes : Bool) → Arrival l.joint.up p.acknowledgement c.acknowledgement takes accepted → after_hearing (joint_by takes) now
    hears_by takes (NothingTaken is none no_data no_count free shown) =
        subst (λ (b : Bool). after_hearing (joint_by b) now) (sym is) (nothing_taken none no_data free shown)
    hears_by takes (ItemTaken data_item sealed way is is_accepted item shown) =
        subst (λ (b : Bool). after_hearing (joint_by b) now) (sym is) (data_taken_now sealed way is_accepted item (shown refl))
    hears_by takes (ItemTaken (control_item outgoing ctrl) sealed way is is_accepted item shown) =
        subst (λ (b : Bool). after_hearing (joint_by b) now) (sym is) (control_taken_now outgoing ctrl sealed way is_accepted item shown)

-- ---- an answer is heard

accepted_by : (fresh_one empty ended : Bool) → ended ≡ false → (fresh_one && (empty || not ended)) ≡ fresh_one
accepted_by true true ended is = refl
accepted_by true false false is = refl
accepted_by true false true is = absurd (cc)
accepted_by false empty ended is = refl

module _ (central peripheral : Setup) (ends : AreEnds central peripheral) (slot : ℕ) (c p : Facts) (octets : List ℕ) (room : Bool)
    (past : heard_turns central c ≤ slot) (entered : 1 ≤ c.control.track.entered)
    (read : IsRead central c slot octets p.acknowledgement) where
  abbrev pdu : Pdu
  pdu = p.acknowledgement.last

  abbrev header : DataHeader
  header = read.header

  abbrev acks_last : Bool
  acks_last = acknowledged_by c.acknowledgement header

  abbrev is_fresh_pdu : Bool
  is_fresh_pdu = is_fresh c.acknowledgement header

  -- there is room for all but data
  abbrev has_room : Bool
  has_room = room || not (is_data pdu)

  abbrev next_facts : Bool → Facts
  next_facts accepted = taken_if accepted pdu slot (acked_facts slot header.md acks_last c)

  heard_as : (leaving_seen_open : (acked_facts slot header.md acks_last c).leaving.acknowledged ≡ false)
      → received central slot octets room c ≡ next_facts (is_fresh_pdu && has_room)
  heard_as open_still =
      read.facts room ∙ ap (λ (role : Role). facts_hearing role slot room header pdu c) ends.is_central
      ∙ ap next_facts (accepted_by (is_fresh_pdu && has_room) (is_empty pdu) _ open_still)

  module _ (l : Link) (reached : IsReached central peripheral l) (running : is_running l.joint ≡ true)
      (s : Shows central peripheral (slot + 1) true l c p) (keys : HaveKeys (keys_at central peripheral l reached) c p) where
    says : Says c.acknowledgement p.acknowledgement acks_last is_fresh_pdu
    says = says_right c.acknowledgement p.acknowledgement s.agreement header read.bits read.out

    agreed_now : AreInAgreement (received_by acks_last (is_fresh_pdu && has_room) pdu c.acknowledgement) p.acknowledgement
    agreed_now = heard_agreed c.acknowledgement p.acknowledgement s.agreement header read.bits has_room read.out

    arrival : Arrival l.joint.up p.acknowledgement c.acknowledgement (takes_item has_room (item_on_air l.joint.up)) (is_fresh_pdu && has_room)
    arrival =
        arrives p.acknowledgement c.acknowledgement acks_last is_fresh_pdu says (turned c.acknowledgement p.acknowledgement s.agreement)
        read.out has_room (λ other. or_right room (not (is_data pdu)) (ap not other)) l.joint.up s.up

    out_last : c.control.table.out ≡ outgoing_on l.joint.down
    out_last = ap (λ (x : Phased). x.control.table.out) (sym s.central_part) ∙ (last_reached central peripheral ends l reached).central

    abbrev pub step : LinkStep
    step = IsAnswered has_room slot

    abbrev takes : Bool
    takes = takes_item has_room (item_on_air l.joint.up)

    abbrev shows_in : Joint → Facts → Type 0
    shows_in j d = Shows central peripheral (slot + 1) false (record { turns = (link_after step l).turns; joint = j }) d p

    joint_now : (link_after step l).joint ≡ taking_if takes slot (acking_if (is_taken l.joint.down) l.joint)
    joint_now =
        joint_hears (is_taken l.joint.down) takes slot l.joint (comes central peripheral ends step l reached running (s.replies refl))

    abbrev heard_in : Joint → Facts → Type 0
    heard_in j d = (is_running j ≡ true → shows_in j d) × (is_lasting d ≡ true → is_running j ≡ true) × (j.central.control ≡ d.control)

    hears_now : heard_in (link_after step l).joint (received central slot octets room c)
    hears_now =
        let g = goes_on l.joint running in
        let is = heard_as (stays_open central peripheral ends.is_central slot header.md acks_last is_fresh_pdu c p l s says g past entered out_last) in
        subst (λ (j : Joint). heard_in j (received central slot octets room c)) (sym joint_now)
        (subst (heard_in (taking_if takes slot (acking_if (is_taken l.joint.down) l.joint))) (sym is)
        (hears_by central peripheral ends.is_central slot header.md acks_last is_fresh_pdu c p l s says g past entered out_last
        (is_fresh_pdu && has_room) agreed_now takes arrival))

    -- also where the run stops by it
    pub control_heard : (link_after step l).joint.central.control ≡ (received central slot octets room c).control
    control_heard = hears_now.2

    -- ---- its keys

    abbrev k : KeyedJoint
    k = keys_at central peripheral l reached

    abbrev acked_now : Facts
    acked_now = acked_facts slot header.md acks_last c

    acked_keys : HasKeys (keys_acked_if (is_taken l.joint.down) l.joint.central k.central) acked_now
    acked_keys =
        subst (λ (x : Keys). HasKeys x acked_now)
        (keys_seen c.acknowledgement p.acknowledgement acks_last is_fresh_pdu says l.joint.down (phased_of c) k.central s.down out_last
        ∙ ap (λ (x : Phased). keys_acked_if (is_taken l.joint.down) x k.central) (sym s.central_part))
        (acked_has slot header.md acks_last (phased_of c) k.central c refl keys.central_keys)

    abbrev keys_before : Keys
    keys_before = keys_acked_if (is_taken l.joint.down) l.joint.central k.central

    abbrev taken_now : Facts
    taken_now = next_facts (is_fresh_pdu && has_room)

    -- whatever it would draw
    now_keys : HasKeys (keys_taken_if takes (item_on_air l.joint.up) slot no_response (phased_of acked_now) keys_before) taken_now
    now_keys =
        subst (λ (x : Keys). HasKeys x taken_now)
        (central_alike takes (item_on_air l.joint.up) slot (drawn c.encryption.response) no_response (phased_of acked_now) keys_before
        (seen_role central peripheral ends.is_central slot header.md acks_last is_fresh_pdu c p l s says (goes_on l.joint running) past entered out_last))
        (took_keys l.joint.up p.acknowledgement c.acknowledgement takes (is_fresh_pdu && has_room) slot (phased_of acked_now) keys_before acked_now refl acked_keys arrival)

    abbrev first_steps : List JointStep
    first_steps = step_if (is_taken l.joint.down) CentralAcked

    abbrev last_steps : List JointStep
    last_steps = step_if takes (CentralTakes slot)

    all_come : may_all (first_steps ++ last_steps) l.joint ≡ true
    all_come = comes central peripheral ends step l reached running (s.replies refl)

    joint_acked : after_all first_steps l.joint
        ≡ joint_seen central peripheral ends.is_central slot header.md acks_last is_fresh_pdu c p l s says (goes_on l.joint running) past entered out_last
    joint_acked =
        one_by (is_taken l.joint.down) CentralAcked l.joint (may_parts first_steps last_steps l.joint all_come).0
        ∙ joint_seen_is central peripheral ends.is_central slot header.md acks_last is_fresh_pdu c p l s says (goes_on l.joint running) past entered out_last

    keys_run : keys_all Central (first_steps ++ last_steps) [] l.joint k.central
        ≡ keys_taken_if takes (item_on_air l.joint.up) slot no_response (phased_of acked_now) keys_before
    keys_run =
        all_joined Central first_steps last_steps [] l.joint k.central
        ∙ (λ i. keys_all Central last_steps [] (joint_acked i) (central_acked [] l.joint k.central (is_taken l.joint.down) i))
        ∙ central_took []
        (joint_seen central peripheral ends.is_central slot header.md acks_last is_fresh_pdu c p l s says (goes_on l.joint running) past entered out_last)
        keys_before takes slot

    keys_heard : HaveKeys (keys_in_step (record { step = step; ltk = [] }) l k) (received central slot octets room c) p
    keys_heard =
        have_after [] (first_steps ++ last_steps) k l.joint (received central slot octets room c) p (joint_at central peripheral l reached) all_come
        (subst (HasKeys (keys_all Central (first_steps ++ last_steps) [] l.joint k.central))
        (sym (heard_as (stays_open central peripheral ends.is_central slot header.md acks_last is_fresh_pdu c p l s says (goes_on l.joint running) past entered out_last)))
        (subst (λ (x : Keys). HasKeys x taken_now) (sym keys_run) now_keys))
        (subst (λ (x : Keys). HasKeys x p) (sym (peripheral_apart [] l.joint k.peripheral (is_taken l.joint.down) takes slot)) keys.peripheral_keys)

    pub shown_on : IsShown central peripheral (slot + 1) false (received central slot octets room c) p
    shown_on =
        record {
          link = link_after step l;
          reached = reached_next central peripheral step l reached running (s.replies refl) tt;
          shows = hears_now.0;
          keys =
              λ goes. subst (λ (x : KeyedJoint). HaveKeys x (received central slot octets room c) p)
              (sym (keys_next central peripheral (record { step = step; ltk = [] }) l reached running (s.replies refl) tt)) keys_heard;
          lasts = λ central_lasts peripheral_lasts. hears_now.1 central_lasts;
        }

-- ---- whatever is heard

module _ (heard : IsHeardWhole) (central peripheral : Setup) (slot : ℕ) (c p : Facts) (channel : ℕ) (octets : List ℕ) (room : Bool)
    (ends : AreEnds central peripheral) (linked : AreLinked central peripheral (slot + 1) true c p) (past : heard_turns central c ≤ slot)
    (entered : 1 ≤ c.control.track.entered) (packet : IsPacketOf peripheral slot p channel octets) (same : channel ≡ c.event.channel)
    (pure : is_mixed central c octets p.acknowledgement.last ≡ false) where
  abbrev heard_then : Facts
  heard_then = received central slot octets room c

  module _ (l : Link) (reached : IsReached central peripheral l) (running : is_running l.joint ≡ true)
      (s : Shows central peripheral (slot + 1) true l c p) (keys : HaveKeys (keys_at central peripheral l reached) c p) where
    pub read : IsRead central c slot octets p.acknowledgement ⊎ (is_forged central c octets ≡ true)
    read =
        read_or_forged heard peripheral central slot p c channel octets (keys_at central peripheral l reached).peripheral.made (sym ends.one_link.fields) packet same
        (fits_up central peripheral ends l reached running (slot + 1) true c p s keys (sent_packet peripheral slot p channel octets packet).out) pure

    hears_on : IsRead central c slot octets p.acknowledgement ⊎ (is_forged central c octets ≡ true) → IsShown central peripheral (slot + 1) false heard_then p
    hears_on (inl is) = shown_on central peripheral ends slot c p octets room past entered is l reached running s keys
    hears_on (inr forged) =
        shut_on central peripheral (slot + 1) false CentralShuts l heard_then p reached running tt tt (shut_joint l running)
        (λ central_lasts peripheral_lasts. not_both (is_lasting heard_then)
        (ap is_lasting (received_forged central c slot octets room forged)
        ∙ ap (λ (b : Bool). b && is_none c.leaving.ended_by_peer) (forged_lasts_not c.control)) central_lasts)

  pub hears : AreLinked central peripheral (slot + 1) false heard_then p
  hears =
      linked_on central peripheral (slot + 1) (slot + 1) true false c p heard_then p linked
      (lasts_before central c (PacketReceived slot octets room)) (λ is. is)
      (λ l reached running s keys. hears_on l reached running s keys (read l reached running s keys))
