-- A central that takes the first PDU of a procedure of the peripheral while its own is in progress.
use Rattle.std.proofs.Common.{◌≡◌, ℕ, ◌+◌, ◌≤◌, ◌==◌, ◌&&◌, ◌||◌, not, Bool, true, false, List, [], ◌∷◌, length, Option, Some, is_some, refl, ap, sym, ◌∙◌, subst, if◌then◌else◌}
use Rattle.std.proofs.lemmas.Bool.{and_from, and_parts, eq-eqb, or_right}
use Rattle.ack_bit.specs.AckBits.{is_odd}
use Rattle.ble_base.specs.declared.roles.Role.{Role}
use Rattle.ble_base.specs.declared.roles.Role.TheVariants.{Central}
use Rattle.data_pdu.specs.declared.ctrl.Ctrl.{Ctrl}
use Rattle.data_pdu.specs.declared.ctrl.CtrlRead.{CtrlRead}
use Rattle.data_pdu.specs.declared.ctrl.CtrlRead.TheVariants.{Known}
use Rattle.data_pdu.specs.declared.header.DataHeader.{DataHeader}
use Rattle.data_pdu.specs.Reading.{ctrl_of}
use Rattle.exclusive_stages.specs.declared.pdus.Exclusive.{Exclusive}
use Rattle.exclusive_stages.specs.Kinds.{central_kind}
use Rattle.collision_steps.specs.CentralPart.{central_of}
use Rattle.joint_collisions.specs.Arrivals.{Collides, collided}
use Rattle.joint_collisions.specs.Facts.{CentralFacts, Facts as ExclusiveFacts, IsState, fits_if, fits_up}
use Rattle.joint_collisions.proofs.Runs.{before_of}
use Rattle.joint_laws.specs.Prevailing.{CentralPrevails}
use Rattle.joint_laws.specs.joint_controls.Ends.{IsSentOn}
use Rattle.joint_laws.specs.joint_controls.Joint.{CentralAcked, CentralTakes, Clear, Control as control_item, Joint, JointStep, OnAir, Way, act, after_all, central_takes, is_running, next_out, is_taken, item_on_air, may, may_act, may_all, no_response, taking}
use Rattle.joint_laws.specs.joint_parameters.Turns.{IsAnswered, Link, LinkStep, step_if, takes_item}
use Rattle.joint_laws.proofs.Rejected.{prevails, state_of}
use Rattle.joint_laws.proofs.joint_controls.LastPdus.{first_tied, tied}
use Rattle.joint_laws.proofs.joint_controls.Running.{goes_on}
use Rattle.joint_laws.proofs.joint_parameters.Hearing.{range_if}
use Rattle.joint_laws.proofs.joint_parameters.Pairing.{after_may, running_from}
use Rattle.link_pairs.specs.control_model.Control.{Control, Takes}
use Rattle.link_pairs.specs.procedure_stages.Closing.{is_disconnecting, is_open}
use Rattle.link_pairs.specs.procedure_stages.Queue.{next_disconnect}
use Rattle.link_pairs.specs.link_model.phased_control.Phased.{Phased}
use Rattle.link_pairs.specs.link_model.phased_control.Taken.{Response, Takes, phased_after, role_now}
use Rattle.link_pairs.specs.link_model.phased_end.Taking.{drawn}
use Rattle.link_pairs.specs.link_model.Acknowledgement.{Pdu}
use Rattle.link_pairs.specs.link_model.Controls.{is_procedure_pdu}
use Rattle.link_pairs.specs.link_model.Data.{is_control, is_data, is_empty}
use Rattle.link_pairs.specs.link_model.End.{notes_after}
use Rattle.link_pairs.specs.link_model.Facts.{Facts, keyed_of}
use Rattle.link_pairs.specs.link_model.Hearing.{IsUnderstood, pdu_octets}
use Rattle.link_pairs.specs.link_model.Packets.{good_pdu, header_sent, is_forged, pdu_sent}
use Rattle.link_pairs.specs.link_model.Receiving.{accepted_if, accepts, data_taken_if, facts_before_taking, facts_hearing, notes_hearing, procedures_take, procedures_take_if}
use Rattle.link_pairs.specs.link_model.Setup.{Setup, first_anchor, first_params}
use Rattle.link_pairs.specs.link_model.Step.{PacketReceived}
use Rattle.link_pairs.specs.Ends.{AreEnds, heard_turns, is_lasting, phased_of}
use Rattle.link_pairs.specs.Hearing.{IsPacketOf, is_mixed, is_mixed_packet, received}
use Rattle.link_pairs.specs.Shown.{AreLinked, Shows}
use Rattle.link_pairs.specs.Sound.{first_joint}
use Rattle.link_pairs.proofs.link_model.Hearing.{IsHeardWhole}
use Rattle.link_pairs.proofs.link_model.Received.{facts_heard, header_read, heard_good, notes_heard}
use Rattle.link_pairs.proofs.Counts.{Says, acknowledged_by, is_fresh, says_right, turned}
use Rattle.link_pairs.proofs.Ending.{central_lasts, run_on}
use Rattle.link_pairs.proofs.HasSent.{HasSent, sent_packet}
use Rattle.link_pairs.proofs.JointRuns.{HasRun, has_run}
use Rattle.link_pairs.proofs.LastPdus.{last_reached}
use Rattle.link_pairs.proofs.PeripheralSteps.{may_parts, one_step}
use Rattle.link_pairs.proofs.PhasedEnds.{acked_if, acked_phased, drawn_alike, takes_phased}
use Rattle.link_pairs.proofs.PhasedKept.{acked_keeps_if, fits_of}
use Rattle.link_pairs.proofs.Reaching.{IsReached, comes}
use Rattle.link_pairs.proofs.Reading.{IsRead}
use Rattle.link_pairs.proofs.SeenAcknowledged.{control_seen}
use Rattle.link_pairs.proofs.Sounding.{link_now, reached_now, runs}
use Rattle.link_pairs.proofs.Ways.{arrives}
use Rattle.link_answers.specs.Owing.{Owes}
use Rattle.link_pairs.proofs.OtherKeys.{mixed_at_central}
use Rattle.link_pairs.proofs.Understanding.{IsOpenedThere, understood_at_central}
use Rattle.run_pairs.proofs.EndCalls.{good_genuine}
use Rattle.run_pairs.proofs.Stages.{genuine_ends}
use Rattle.run_collisions.proofs.OfPairs.{good_taken}
use Rattle.run_collisions.specs.Prevailing.{Prevails, first_of, seen, seen_by}
use Rattle.run_collisions.specs.Refused.{is_refusing}
use Rattle.run_collisions.specs.Taking.{TakesControl}
use Rattle.run_collisions.proofs.Crossing.{crosses_none, none_on_way, other_free}
use Rattle.run_collisions.proofs.FirstPdus.{IsFirst, is_first, terminates_none}
use Rattle.run_collisions.proofs.OnWay.{IsOnWay, came}
use Rattle.run_collisions.proofs.OwedStates.{owed_alone}
use Rattle.run_collisions.proofs.RefusalsUp.{none_refused}
use Rattle.run_collisions.proofs.TakingNotes.{IsTaken, is_noted, taken_at}

-- ---- it sees its last PDU acknowledged, or does not

seen_state : (acked : Bool) (s : Joint) → may_all (step_if acked CentralAcked) s ≡ true
    → after_all (step_if acked CentralAcked) s
    ≡ record s { central = acked_if acked s.central; down = (if acked then Clear else s.down) }
seen_state true s comes = after_may CentralAcked s (one_step CentralAcked s comes)
seen_state false s comes = refl

-- ---- the central hears the packet

module _ (whole : IsHeardWhole) (central peripheral : Setup) (slot : ℕ) (c p : Facts) (channel : ℕ) (octets : List ℕ) (room : Bool)
    (ends : AreEnds central peripheral) (linked : AreLinked central peripheral (slot + 1) true c p) (c_lasts : is_lasting c ≡ true)
    (p_lasts : is_lasting p ≡ true) (past : heard_turns central c ≤ slot) (entered : 1 ≤ c.control.track.entered)
    (packet : IsPacketOf peripheral slot p channel octets) (same : channel ≡ c.event.channel)
    (taken : TakesControl central c slot octets room) (opened : IsOpenedThere) (unmixed : is_mixed_packet central c p octets ≡ false) where
  abbrev l : Link
  l = link_now central peripheral ends (slot + 1) true c p linked c_lasts p_lasts

  running : is_running l.joint ≡ true
  running = runs central peripheral ends (slot + 1) true c p linked c_lasts p_lasts

  reached : IsReached central peripheral l
  reached = reached_now central peripheral ends (slot + 1) true c p linked c_lasts p_lasts

  s : Shows central peripheral (slot + 1) true l c p
  s = linked.shows running

  -- what it reads

  abbrev last : Pdu
  last = p.acknowledgement.last

  abbrev header : DataHeader
  header = header_sent packet.before

  abbrev has_room : Bool
  has_room = room || not (is_data last)

  -- it is good, so not forged
  genuine : is_forged central c octets ≡ false
  genuine = good_genuine central octets c (good_taken central c octets slot room taken.earlier taken.later _ taken.notes)

  pure : is_mixed central c octets p.acknowledgement.last ≡ false
  pure = mixed_at_central whole opened central peripheral (slot + 1) slot true c p channel octets ends linked c_lasts p_lasts packet same unmixed

  und : IsUnderstood peripheral packet.before central c
  und =
      understood_at_central whole central peripheral (slot + 1) slot true c p channel octets ends linked c_lasts p_lasts packet same
      (record { genuine = genuine; pure = pure })

  sent : HasSent packet.before p
  sent = sent_packet peripheral slot p channel octets packet

  pdu_is : pdu_sent packet.before ≡ last
  pdu_is = sym sent.last

  good_is : good_pdu central c octets ≡ Some (pdu_octets packet.before c)
  good_is = ap (good_pdu central c) packet.packet ∙ heard_good whole peripheral central packet.before c und

  abbrev read : IsRead central c slot octets p.acknowledgement
  read =
      record {
        header = header;
        bits = (ap is_odd (sym sent.acked), ap (λ (pdus : List Pdu). is_odd (length pdus)) (sym sent.accepted));
        out = sent.out;
        good = ap (λ (o : Option (List ℕ)). is_some o) good_is;
        facts =
            λ room. ap (λ (o : List ℕ). received central slot o room c) packet.packet ∙ facts_heard whole peripheral central packet.before c und slot room
            ∙ ap (λ (pdu : Pdu). facts_hearing central.link.role slot room header pdu c) pdu_is;
      }

  notes_are : notes_after central c (PacketReceived slot octets room) ≡ notes_hearing central slot room header last c
  notes_are =
      ap (λ (o : List ℕ). notes_after central c (PacketReceived slot o room)) packet.packet ∙ notes_heard whole peripheral central packet.before c und slot room
      ∙ ap (λ (pdu : Pdu). notes_hearing central slot room header pdu c) pdu_is

  abbrev seen_facts : Facts
  seen_facts = facts_before_taking Central slot header c

  seen_is : seen central slot octets c ≡ seen_facts
  seen_is =
      (λ i. seen_by central slot (good_is i) c) ∙ (λ i. facts_before_taking (ends.is_central i) slot (header_read packet.before c und.llid i) c)

  -- what it takes

  took : IsTaken (is_noted central slot room header last c) last 3 taken.body
  took =
      taken_at central slot room header last c taken.earlier taken.later central.link.handle taken.number 3 taken.body
      (sym notes_are ∙ taken.notes)

  accepted_parts : (accepts room header last (facts_before_taking central.link.role slot header c) ≡ true) × (not (is_empty last) ≡ true)
  accepted_parts = and_parts (accepts room header last (facts_before_taking central.link.role slot header c)) (not (is_empty last)) took.taken_now

  abbrev fresh : Bool
  fresh = is_fresh c.acknowledgement header

  abbrev acks : Bool
  acks = acknowledged_by c.acknowledgement header

  accepted_now : accepts room header last seen_facts ≡ true
  accepted_now = ap (λ (role : Role). accepts room header last (facts_before_taking role slot header c)) (sym ends.is_central) ∙ accepted_parts.0

  accepted : (fresh && has_room) ≡ true
  accepted = (and_parts (fresh && has_room) (is_empty last || not seen_facts.leaving.acknowledged) accepted_now).0

  procedure : is_procedure_pdu last ≡ true
  procedure = and_from (is_control last) (not (is_empty last)) (eq-eqb last.llid 3 took.llid_is) accepted_parts.1

  abbrev ctrl : Ctrl
  ctrl = taken.ctrl

  says : Says c.acknowledgement p.acknowledgement acks fresh
  says = says_right c.acknowledgement p.acknowledgement s.agreement header read.bits read.out

  way : IsOnWay l.joint.up (takes_item has_room (item_on_air l.joint.up)) last ctrl
  way =
      came l.joint.up p.acknowledgement c.acknowledgement ctrl (ap ctrl_of took.body_is ∙ taken.is) procedure (takes_item has_room (item_on_air l.joint.up)) (fresh && has_room)
      (arrives p.acknowledgement c.acknowledgement acks fresh says (turned c.acknowledgement p.acknowledgement s.agreement) read.out has_room
      (λ is. or_right room (not (is_data last)) (ap not is)) l.joint.up s.up)
      accepted

  -- the joint run: first it sees its last PDU acknowledged, or does not

  abbrev acked : Bool
  acked = is_taken l.joint.down

  abbrev first : List JointStep
  first = step_if acked CentralAcked

  abbrev step : LinkStep
  step = IsAnswered has_room slot

  abbrev s1 : Joint
  s1 = after_all first l.joint

  parts : (may_all first l.joint ≡ true) × (may_all (step_if (takes_item has_room (item_on_air l.joint.up)) (CentralTakes slot)) s1 ≡ true)
  parts =
      may_parts first (step_if (takes_item has_room (item_on_air l.joint.up)) (CentralTakes slot)) l.joint
      (comes central peripheral ends step l reached running (s.replies refl))

  takes_now : may (CentralTakes slot) s1 ≡ true
  takes_now = one_step (CentralTakes slot) s1 (subst (λ (b : Bool). may_all (step_if b (CentralTakes slot)) s1 ≡ true) way.takes_it parts.1)

  s1_is : s1 ≡ record l.joint { central = acked_if acked l.joint.central; down = (if acked then Clear else l.joint.down) }
  s1_is = seen_state acked l.joint parts.0

  s1_up : s1.up ≡ OnAir (control_item way.outgoing ctrl) way.sealed
  s1_up = ap (λ (j : Joint). j.up) s1_is ∙ way.on_air

  seen_phased : phased_of seen_facts ≡ acked_if (acks && is_control c.acknowledgement.last) (phased_of c)
  seen_phased = acked_phased (acks && is_control c.acknowledgement.last) (keyed_of c)

  s1_central : s1.central ≡ phased_of seen_facts
  s1_central =
      ap (λ (j : Joint). j.central) s1_is
      ∙ ap (acked_if acked) s.central_part
      ∙ sym (control_seen c.acknowledgement p.acknowledgement acks fresh says l.joint.down (phased_of c) s.down
      (ap (λ (x : Phased). x.control.table.out) (sym s.central_part) ∙ (last_reached central peripheral ends l reached).central))
      ∙ sym seen_phased

  s1_control : s1.central.control ≡ (seen central slot octets c).control
  s1_control = ap (λ (x : Phased). x.control) s1_central ∙ ap (λ (f : Facts). f.control) (sym seen_is)

  run1 : HasRun central peripheral s1
  run1 = run_on central peripheral first l.joint (range_if acked CentralAcked tt) (has_run central peripheral ends l reached)

  s1_runs : is_running s1 ≡ true
  s1_runs = (and_parts (is_running s1) (may_act (CentralTakes slot) s1) takes_now).0

  -- what was sent

  abbrev from_steps : Joint
  from_steps = after_all run1.steps (first_joint central peripheral)

  from_runs : is_running from_steps ≡ true
  from_runs = ap (λ (j : Joint). is_running j) run1.reaches ∙ s1_runs

  fits : fits_up way.outgoing ≡ true
  fits =
      ap (λ (w : Way). fits_if fits_up (item_on_air w)) (sym s1_up)
      ∙ (subst ExclusiveFacts run1.reaches
      (state_of central.link.max_rx peripheral.link.max_rx (first_params central.link.fields) (first_anchor central) run1.steps run1.run from_runs).now).up

  was_sent : IsSentOn (OnAir (control_item way.outgoing ctrl) way.sealed)
  was_sent =
      subst IsSentOn s1_up
      (subst (λ (j : Joint). IsSentOn j.up) run1.reaches
      (tied run1.steps (first_joint central peripheral)
      (first_tied central.link.max_rx peripheral.link.max_rx (first_params central.link.fields) (first_anchor central))).sent_up)

  -- no refusal of a procedure that excludes others is among that
  pub refuses_none : is_refusing taken.ctrl ≡ false
  refuses_none = none_refused was_sent.event was_sent.latency way.outgoing ctrl was_sent.is fits

  -- no control PDU of the central is on its way
  pub central_taken : is_procedure_pdu c.acknowledgement.last ≡ true → length p.acknowledgement.accepted ≡ length c.acknowledgement.sent
  central_taken sends =
      none_on_way l.joint.down c.acknowledgement p.acknowledgement s.agreement s.down
      (other_free l.joint.up l.joint.down (crosses_none central peripheral ends l reached) way.outgoing ctrl way.sealed way.on_air) sends

  -- ---- it is the first PDU of a procedure, and the central runs one that excludes it

  module _ (own other : Exclusive) (opens : first_of taken.ctrl ≡ Some other)
      (runs_own : central_kind (central_of (seen central slot octets c).control.table).own ≡ Some own) where
    begins : IsFirst other way.outgoing
    begins = is_first other was_sent.event was_sent.latency way.outgoing ctrl was_sent.is fits opens

    abbrev collides : Collides s1 own other way.outgoing ctrl
    collides =
        record {
          takes = record { slot = slot; sealed = way.sealed; comes = takes_now; on_air = s1_up };
          pdu = begins.pdu;
          part = begins.part;
          first = begins.first;
          runs = ap (λ (k : Control). central_kind (central_of k.table).own) s1_control ∙ runs_own;
        }

    -- then it takes it

    abbrev j : Joint
    j = act (CentralTakes slot) s1

    j_is : j ≡ central_takes (OnAir (control_item way.outgoing ctrl) way.sealed) slot s1
    j_is = ap (λ (w : Way). central_takes w slot s1) s1_up

    -- what it holds then

    abbrev now : Facts
    now = received central slot octets room c

    -- what it would draw
    abbrev response : Response
    response = drawn c.encryption.response

    no_data : is_data last ≡ false
    no_data = ap (λ (llid : ℕ). ((llid == 1) || (llid == 2)) && not (length last.body == 0)) took.llid_is

    now_is : now ≡ procedures_take last slot (accepted_if true last seen_facts)
    now_is =
        read.facts room ∙ ap (λ (role : Role). facts_hearing role slot room header last c) ends.is_central
        ∙ λ i. data_taken_if (accepted_now i && no_data i)
        (procedures_take_if (accepted_now i && procedure i) last slot (accepted_if (accepted_now i) last seen_facts))

    now_phased : phased_of now ≡ phased_after (Takes (Known ctrl) slot response) (phased_of seen_facts)
    now_phased =
        ap phased_of now_is ∙ takes_phased last slot (accepted_if true last seen_facts)
        ∙ ap (λ (read : CtrlRead). phased_after (Takes read slot response) (phased_of seen_facts)) way.read_as

    seen_role : role_now (phased_of seen_facts) ≡ Central
    seen_role =
        let lasts = ap (λ (x : Phased). x.control.ends) (sym s.central_part) ∙ (goes_on l.joint running).central in
        ap role_now seen_phased
        ∙ (acked_keeps_if (acks && is_control c.acknowledgement.last) (phased_of c) lasts (fits_of central (slot + 1) c s.central_rests)).role Central
        (s.central_rests.role ∙ ends.is_central)

    central_now : j.central ≡ phased_of now
    central_now =
        ap (λ (x : Joint). x.central) j_is ∙ ap (phased_after (taking (control_item way.outgoing ctrl) slot no_response)) s1_central
        ∙ drawn_alike slot no_response response (Known ctrl) (phased_of seen_facts) seen_role ∙ sym now_phased

    j_control : j.central.control ≡ now.control
    j_control = ap (λ (x : Phased). x.control) central_now

    j_runs : is_running j ≡ true
    j_runs =
        running_from j (ap (λ (x : Joint). x.stopped) j_is ∙ terminates_none other ctrl opens)
        (ap (λ (k : Control). k.ends) j_control
        ∙ genuine_ends _ central c octets now.control.ends genuine
        (central_lasts whole central peripheral slot c p channel octets room ends linked c_lasts p_lasts past entered packet same pure))
        (ap (λ (x : Joint). x.peripheral.control.ends) j_is ∙ ap (λ (x : Joint). x.peripheral.control.ends) s1_is ∙ (goes_on l.joint running).peripheral)

    prevails_joint : CentralPrevails s1 own other way.outgoing ctrl collides
    prevails_joint =
        subst
        (λ (x : Joint). (k : Collides x own other way.outgoing ctrl) → is_running x ≡ true → is_running (collided x own other way.outgoing ctrl k) ≡ true
        → CentralPrevails x own other way.outgoing ctrl k)
        run1.reaches
        (λ k runs goes. prevails central.link.max_rx peripheral.link.max_rx (first_params central.link.fields) (first_anchor central) run1.steps own other
        way.outgoing ctrl k run1.run runs goes)
        collides s1_runs j_runs

    run_now : HasRun central peripheral j
    run_now =
        subst (HasRun central peripheral) (after_may (CentralTakes slot) s1 takes_now) (run_on central peripheral (CentralTakes slot ∷ []) s1 (tt, tt) run1)

    state_now : IsState j
    state_now =
        subst IsState run_now.reaches
        (state_of central.link.max_rx peripheral.link.max_rx (first_params central.link.fields) (first_anchor central) run_now.steps run_now.run
        (ap (λ (x : Joint). is_running x) run_now.reaches ∙ j_runs))

    pub prevails_here : Prevails (seen central slot octets c) now own other
    prevails_here =
        record {
          own =
              ap (λ (x : Phased). (central_of x.control.table).own) (sym central_now) ∙ prevails_joint.own
              ∙ ap (λ (k : Control). (central_of k.table).own) s1_control;
          peer = ap (λ (x : Phased). (central_of x.control.table).peer) (sym central_now) ∙ prevails_joint.peer;
          owes =
              λ kind. subst (λ (x : Phased). Owes kind (central_of x.control.table)) central_now
              (owed_alone kind j (before_of j state_now j_runs) prevails_joint.peer);
          rejected =
              λ opened. let next = prevails_joint.rejected [] (ap (λ (k : Control). is_open k.table.closing) s1_control ∙ opened) refl in
              record {
                rejection = next.rejection;
                next = ap next_out (sym central_now) ∙ next.next;
                opcode = next.opcode;
                code = next.code;
              };
          closing =
              λ closing. ap next_out (sym central_now)
              ∙ prevails_joint.closing (ap (λ (k : Control). is_open k.table.closing) s1_control ∙ closing)
              ∙ ap (λ (x : Phased). next_disconnect x.control.table.queue.disconnect) central_now;
          ending =
              λ shut. ap (λ (k : Control). is_disconnecting k.table.closing) (sym s1_control)
              ∙ (subst (λ (x : Joint). CentralFacts x.central) run1.reaches
              (state_of central.link.max_rx peripheral.link.max_rx (first_params central.link.fields) (first_anchor central)
              run1.steps run1.run from_runs).now.central).closing
              (ap (λ (k : Control). is_open k.table.closing) s1_control ∙ shut);
        }
