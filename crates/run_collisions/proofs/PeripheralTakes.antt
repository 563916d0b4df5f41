-- A peripheral that takes the rejection of its procedure.
use Rattle.std.proofs.Common.{◌≡◌, ◌⊎◌, inl, inr, ℕ, ◌+◌, ◌≤◌, ◌==◌, ◌&&◌, ◌||◌, not, Bool, true, false, List, [], ◌∷◌, ◌++◌, length, Option, None, Some, is_none, arith, refl, ap, sym, ◌∙◌, subst, if◌then◌else◌}
use Rattle.std.proofs.lemmas.Bool.{and_from, and_parts, eq-eqb, or_right}
use Rattle.ack_bit.specs.AckBits.{is_odd}
use Rattle.ble_base.specs.ErrorCodes.{mic_failure}
use Rattle.ble_base.specs.declared.error_codes.ErrCode.{ErrCode}
use Rattle.ble_base.specs.declared.notes.Note.{Note}
use Rattle.ble_base.specs.declared.notes.Note.TheVariants.{Refused, Took}
use Rattle.ble_base.specs.declared.procedure_kinds.Kind.{Kind}
use Rattle.ble_base.specs.declared.roles.Role.{Role}
use Rattle.ble_base.specs.declared.roles.Role.TheVariants.{Peripheral}
use Rattle.data_pdu.specs.declared.ctrl.Ctrl.{Ctrl}
use Rattle.data_pdu.specs.declared.ctrl.Ctrl.TheVariants.{RejectExtInd}
use Rattle.data_pdu.specs.declared.ctrl.CtrlRead.{CtrlRead}
use Rattle.data_pdu.specs.declared.ctrl.CtrlRead.TheVariants.{Known}
use Rattle.data_pdu.specs.declared.header.DataHeader.{DataHeader}
use Rattle.data_pdu.specs.Reading.{ctrl_of}
use Rattle.exclusive_stages.specs.declared.pdus.Exclusive.{Exclusive}
use Rattle.exclusive_stages.specs.Kinds.{kind_of, peripheral_kind}
use Rattle.collision_steps.specs.PeripheralPart.{peripheral_of}
use Rattle.collision_steps.specs.Parts.{reason_part}
use Rattle.collisions.specs.PeripheralTable.{is_phy_sent, is_requesting}
use Rattle.joint_collisions.specs.Arrivals.{PeripheralMayTake}
use Rattle.joint_collisions.specs.Facts.{IsState, fits_down, fits_if}
use Rattle.joint_collisions.proofs.EachStep.{Before}
use Rattle.joint_collisions.proofs.Findings.{phy_reads, request_reads}
use Rattle.joint_collisions.proofs.Runs.{before_of}
use Rattle.joint_laws.specs.joint_controls.Ends.{IsSentOn}
use Rattle.joint_laws.specs.joint_controls.Joint.{Control as control_item, Joint, JointStep, OnAir, PeripheralAcked, PeripheralTakes, Way, after_all, is_running, is_taken, item_on_air, may, may_act, may_all, no_response}
use Rattle.joint_laws.specs.joint_parameters.Turns.{Fixing, FixesNothing, IsHeard, Link, LinkStep, MayLink, after_acknowledgement, fixing_steps, step_if, takes_item}
use Rattle.joint_laws.proofs.Rejected.{state_of}
use Rattle.joint_laws.proofs.joint_controls.LastPdus.{first_tied, tied}
use Rattle.joint_laws.proofs.joint_controls.Running.{goes_on}
use Rattle.joint_laws.proofs.joint_parameters.Hearing.{range_before}
use Rattle.joint_laws.proofs.joint_parameters.Runs.{after_joined}
use Rattle.link_pairs.specs.control_end.declared.answers.Taken.{Taken}
use Rattle.link_pairs.specs.control_end.Answers.{nothing_taken}
use Rattle.link_pairs.specs.control_model.Control.{Control}
use Rattle.link_pairs.specs.procedures.Table.{TableFacts}
use Rattle.link_pairs.specs.procedure_stages.declared.steps.Effect.TheVariants.{Nothing}
use Rattle.link_pairs.specs.procedure_stages.Opcodes.{opcode_of_kind}
use Rattle.link_pairs.specs.procedure_values.declared.drafts.Outgoing.{Outgoing}
use Rattle.link_pairs.specs.procedure_values.declared.drafts.Outgoing.TheVariants.{Rejection}
use Rattle.link_pairs.specs.procedure_values.declared.drafts.Rejection.{Rejection as TheRejection}
use Rattle.link_pairs.specs.link_model.enc_phase.Phases.{is_quiet}
use Rattle.link_pairs.specs.link_model.phased_control.Phased.{Phased, is_quiet_now}
use Rattle.link_pairs.specs.link_model.phased_control.Taken.{Response as Drawn, Takes as phased_takes, phased_after, took as phased_took}
use Rattle.link_pairs.specs.link_model.phased_end.Held.{held_of as keyed_held}
use Rattle.link_pairs.specs.link_model.phased_end.Taking.{drawn, taken_keyed}
use Rattle.link_pairs.specs.link_model.Acknowledgement.{Acknowledgement, Pdu, is_acked}
use Rattle.link_pairs.specs.link_model.Controls.{is_procedure_pdu, read_of}
use Rattle.link_pairs.specs.link_model.Data.{is_control, is_data, is_empty, numbered}
use Rattle.link_pairs.specs.link_model.End.{notes_after}
use Rattle.link_pairs.specs.link_model.Entering.{done_notes}
use Rattle.link_pairs.specs.link_model.Facts.{Facts, keyed_of}
use Rattle.link_pairs.specs.link_model.Hearing.{IsUnderstood, pdu_octets}
use Rattle.link_pairs.specs.link_model.Packets.{good_pdu, header_sent, is_forged, pdu_sent}
use Rattle.link_pairs.specs.link_model.Receiving.{accepted_if, accepts, acked_kind, acks_control, data_taken_if, facts_before_taking, facts_hearing, given_notes, has_acknowledged, notes_hearing, procedures_answer, procedures_take, procedures_take_if, taken_notes, took_notes_if}
use Rattle.link_pairs.specs.link_model.Setup.{Setup, first_anchor, first_params}
use Rattle.link_pairs.specs.link_model.Step.{PacketReceived}
use Rattle.link_pairs.specs.Ends.{AreEnds, heard_turns, is_lasting, phased_of}
use Rattle.link_pairs.specs.Hearing.{IsPacketOf, answered, is_mixed, is_mixed_packet, received}
use Rattle.link_pairs.specs.Shown.{Shows}
use Rattle.link_pairs.specs.Sound.{EndsForInstant, EndsForged, first_joint}
use Rattle.link_pairs.specs.Turns.{AreReady, HaveBegun}
use Rattle.link_pairs.proofs.link_model.Hearing.{IsHeardWhole}
use Rattle.link_pairs.proofs.link_model.Received.{facts_heard, header_read, heard_good, notes_heard}
use Rattle.link_pairs.proofs.Answering.{gone, seen as seen_end}
use Rattle.link_pairs.proofs.Counts.{Says, acknowledged_by, is_fresh, says_right, turned}
use Rattle.link_pairs.proofs.Ending.{answered_ends, peripheral_lasts, run_on}
use Rattle.link_pairs.proofs.FixingNext.{FixesNext, fixing_of, may_fix_after}
use Rattle.link_pairs.proofs.HasSent.{HasSent, sent_packet}
use Rattle.link_pairs.proofs.JointRuns.{HasRun, has_run}
use Rattle.link_pairs.proofs.LastPdus.{last_reached}
use Rattle.link_pairs.proofs.PeripheralHears.{Meets, fixes, reaches}
use Rattle.link_pairs.proofs.PeripheralSteps.{may_parts, one_step, seen_after, with_end}
use Rattle.link_pairs.proofs.PhasedEnds.{acked_phased, takes_phased}
use Rattle.link_pairs.proofs.Reaching.{IsReached, comes}
use Rattle.link_pairs.proofs.SeenAcknowledged.{cleared, control_seen}
use Rattle.link_pairs.proofs.Sounding.{link_now, reached_now, runs}
use Rattle.link_pairs.proofs.Ways.{arrives}
use Rattle.link_pairs.proofs.OtherKeys.{mixed_at_peripheral}
use Rattle.link_pairs.proofs.Understanding.{IsOpenedThere, understood_at_peripheral}
use Rattle.run_pairs.proofs.EndCalls.{good_genuine}
use Rattle.run_collisions.proofs.OfPairs.{good_taken}
use Rattle.run_collisions.specs.Prevailing.{seen, seen_by}
use Rattle.run_collisions.specs.Refused.{IsRefused}
use Rattle.run_collisions.specs.Taking.{TakesControl}
use Rattle.run_collisions.proofs.Crossing.{crosses_none_back, none_on_way, other_free}
use Rattle.run_collisions.proofs.OnWay.{IsOnWay, came}
use Rattle.run_collisions.proofs.Refusing.{Refuses, control_after, given, phy_refused, refused_after, rejection_read, request_refused}
use Rattle.run_collisions.proofs.RejectionsOut.{IsRejection, found, is_rejection}
use Rattle.run_collisions.proofs.BeforeTaking.{in_phase, keeps_none}
use Rattle.run_collisions.proofs.TakingNotes.{IsTaken, is_noted, taken_at}
use Rattle.run_collisions.proofs.TakingRejections.{gives, quiet, taken_so}

module _ (whole : IsHeardWhole) (central peripheral : Setup) (slot : ℕ) (c p : Facts) (channel : ℕ) (octets : List ℕ) (room : Bool)
    (ends : AreEnds central peripheral) (begun : HaveBegun central peripheral slot true true c p) (c_lasts : is_lasting c ≡ true)
    (p_lasts : is_lasting p ≡ true)
    (packet : IsPacketOf central slot c channel octets) (same : channel ≡ p.event.channel) (supervised : slot + 1 ≤ heard_turns peripheral p + 32768)
    (taking : TakesControl peripheral p slot octets room) (opened : IsOpenedThere) (unmixed : is_mixed_packet peripheral p c octets ≡ false) where
  abbrev l : Link
  l = link_now central peripheral ends (slot + 1) false c p begun.linked c_lasts p_lasts

  running : is_running l.joint ≡ true
  running = runs central peripheral ends (slot + 1) false c p begun.linked c_lasts p_lasts

  abbrev reached : IsReached central peripheral l
  reached = reached_now central peripheral ends (slot + 1) false c p begun.linked c_lasts p_lasts

  s : Shows central peripheral (slot + 1) false l c p
  s = begun.linked.shows running

  ready : AreReady central peripheral slot true c p
  ready = begun.ready running

  -- ---- what it reads

  abbrev last : Pdu
  last = c.acknowledgement.last

  abbrev header : DataHeader
  header = header_sent packet.before

  abbrev has_room : Bool
  has_room = room || not (is_data last)

  -- it is good, so not forged
  genuine : is_forged peripheral p octets ≡ false
  genuine = good_genuine peripheral octets p (good_taken peripheral p octets slot room taking.earlier taking.later _ taking.notes)

  pure : is_mixed peripheral p octets c.acknowledgement.last ≡ false
  pure =
      mixed_at_peripheral whole opened central peripheral (slot + 1) slot false c p channel octets ends begun.linked c_lasts p_lasts packet same unmixed

  und : IsUnderstood central packet.before peripheral p
  und =
      understood_at_peripheral whole central peripheral (slot + 1) slot false c p channel octets ends begun.linked c_lasts p_lasts packet same
      (record { genuine = genuine; pure = pure })

  sent : HasSent packet.before c
  sent = sent_packet central slot c channel octets packet

  pdu_is : pdu_sent packet.before ≡ last
  pdu_is = sym sent.last

  good_is : good_pdu peripheral p octets ≡ Some (pdu_octets packet.before p)
  good_is = ap (good_pdu peripheral p) packet.packet ∙ heard_good whole central peripheral packet.before p und

  facts_are : received peripheral slot octets room p ≡ facts_hearing peripheral.link.role slot room header last p
  facts_are =
      ap (λ (o : List ℕ). received peripheral slot o room p) packet.packet ∙ facts_heard whole central peripheral packet.before p und slot room
      ∙ ap (λ (pdu : Pdu). facts_hearing peripheral.link.role slot room header pdu p) pdu_is

  notes_are : notes_after peripheral p (PacketReceived slot octets room) ≡ notes_hearing peripheral slot room header last p
  notes_are =
      ap (λ (o : List ℕ). notes_after peripheral p (PacketReceived slot o room)) packet.packet
      ∙ notes_heard whole central peripheral packet.before p und slot room
      ∙ ap (λ (pdu : Pdu). notes_hearing peripheral slot room header pdu p) pdu_is

  meets : Meets central peripheral slot l c p header
  meets =
      record {
        ends = ends;
        reached = reached;
        running = running;
        shows = s;
        keys = begun.linked.keys running;
        out_last = ap (λ (x : Phased). x.control.table.out) (sym s.peripheral_part) ∙ (last_reached central peripheral ends l reached).peripheral;
        bits = (ap is_odd (sym sent.acked), ap (λ (pdus : List Pdu). is_odd (length pdus)) (sym sent.accepted));
        out = sent.out;
        central_heard = ready.central_heard;
        peripheral_heard = ready.peripheral_heard;
        supervised = supervised;
        transmits = begun.transmits_in refl;
        listens = begun.listens_in refl;
        has_fixed = ready.fixed refl;
      }

  -- ---- before it takes the PDU

  abbrev acks : Bool
  acks = acknowledged_by p.acknowledgement header

  abbrev fresh : Bool
  fresh = is_fresh p.acknowledgement header

  abbrev acked_facts : Facts
  acked_facts = seen_end slot header.md acks p

  abbrev now : Facts
  now = facts_before_taking Peripheral slot header p

  seen_is : seen peripheral slot octets p ≡ now
  seen_is =
      (λ i. seen_by peripheral slot (good_is i) p) ∙ (λ i. facts_before_taking (ends.is_peripheral i) slot (header_read packet.before p und.llid i) p)

  took : IsTaken (is_noted peripheral slot room header last p) last 3 taking.body
  took =
      taken_at peripheral slot room header last p taking.earlier taking.later peripheral.link.handle taking.number 3 taking.body
      (sym notes_are ∙ taking.notes)

  accepted_parts : (accepts room header last (facts_before_taking peripheral.link.role slot header p) ≡ true) × (not (is_empty last) ≡ true)
  accepted_parts = and_parts (accepts room header last (facts_before_taking peripheral.link.role slot header p)) (not (is_empty last)) took.taken_now

  accepted_now : accepts room header last now ≡ true
  accepted_now =
      ap (λ (role : Role). accepts room header last (facts_before_taking role slot header p)) (sym ends.is_peripheral) ∙ accepted_parts.0

  procedure : is_procedure_pdu last ≡ true
  procedure = and_from (is_control last) (not (is_empty last)) (eq-eqb last.llid 3 took.llid_is) accepted_parts.1

  abbrev ctrl : Ctrl
  ctrl = taking.ctrl

  -- ---- the joint run

  says : Says p.acknowledgement c.acknowledgement acks fresh
  says = says_right p.acknowledgement c.acknowledgement (turned c.acknowledgement p.acknowledgement s.agreement) header meets.bits meets.out

  abbrev takes : Bool
  takes = takes_item has_room (item_on_air l.joint.down)

  abbrev acked_steps : List JointStep
  acked_steps = step_if (is_taken l.joint.up) PeripheralAcked

  started : l.joint ≡ with_end (phased_of c) l.joint.down l.joint.up false (phased_of p)
  started =
      λ i. record {
        central = s.central_part i;
        peripheral = s.peripheral_part i;
        down = l.joint.down;
        up = l.joint.up;
        stopped = (goes_on l.joint running).stopped i;
      }

  acked_may : may_all acked_steps l.joint ≡ true
  acked_may =
      let all = comes central peripheral ends (IsHeard has_room FixesNothing slot no_response) l reached running
      (reaches central peripheral slot l c p header meets room, tt) in
      let first = may_parts (acked_steps ++ []) (step_if takes (PeripheralTakes slot no_response)) l.joint all in
      (may_parts acked_steps [] l.joint first.0).0

  seen_joint : after_acknowledgement l.joint ≡ with_end (phased_of c) l.joint.down (cleared l.joint.up) false (phased_of acked_facts)
  seen_joint =
      ap (after_all acked_steps) started
      ∙ seen_after (phased_of c) l.joint.down l.joint.up (phased_of p) (subst (λ (j : Joint). may_all acked_steps j ≡ true) started acked_may)
      ∙ ap (with_end (phased_of c) l.joint.down (cleared l.joint.up) false)
      (sym (control_seen p.acknowledgement c.acknowledgement acks fresh says l.joint.up (phased_of p) s.up meets.out_last)
      ∙ sym (acked_phased (acks && is_control p.acknowledgement.last) (keyed_of p)))

  abbrev fixing : Fixing
  fixing = fixing_of (is_acked acked_facts.acknowledgement) acked_facts.fixes_control (is_data acked_facts.outgoing.fixed)

  fixes_it : FixesNext (phased_of c) l.joint.down (cleared l.joint.up) slot acked_facts
      (is_acked acked_facts.acknowledgement) acked_facts.fixes_control fixing
  fixes_it = fixes central peripheral slot l c p header meets room

  abbrev heard : LinkStep
  heard = IsHeard has_room fixing slot no_response

  abbrev first : List JointStep
  first = acked_steps ++ fixing_steps fixing slot

  abbrev s2 : Joint
  s2 = after_all first l.joint

  may_hear : MayLink heard l
  may_hear = (reaches central peripheral slot l c p header meets room, may_fix_after fixing slot l.joint _ seen_joint fixes_it.may_fix)

  parts : (may_all first l.joint ≡ true) × (may_all (step_if takes (PeripheralTakes slot no_response)) s2 ≡ true)
  parts = may_parts first (step_if takes (PeripheralTakes slot no_response)) l.joint (comes central peripheral ends heard l reached running may_hear)

  s2_is : s2 ≡ with_end (phased_of c) l.joint.down fixes_it.next_way false (phased_of now)
  s2_is =
      after_joined acked_steps (fixing_steps fixing slot) l.joint
      ∙ ap (after_all (fixing_steps fixing slot)) seen_joint
      ∙ fixes_it.leads
      (subst (λ (j : Joint). may_all (fixing_steps fixing slot) j ≡ true) seen_joint
      (may_parts acked_steps (fixing_steps fixing slot) l.joint parts.0).1)

  accepted_gone : (is_fresh now.acknowledgement header && has_room) ≡ true
  accepted_gone =
      (and_parts (is_fresh now.acknowledgement header && has_room) (is_empty last || not now.leaving.acknowledged) accepted_now).0

  accepted : (fresh && has_room) ≡ true
  accepted =
      ap (λ (a : Acknowledgement). is_fresh a header && has_room) (sym (gone slot header.md acks p).acknowledgement)
      ∙ accepted_gone

  way : IsOnWay l.joint.down takes last ctrl
  way =
      came l.joint.down c.acknowledgement p.acknowledgement ctrl (ap ctrl_of took.body_is ∙ taking.is) procedure takes (fresh && has_room)
      (arrives c.acknowledgement p.acknowledgement acks fresh says s.agreement meets.out has_room (λ is. or_right room (not (is_data last)) (ap not is))
      l.joint.down
      s.down)
      accepted

  takes_now : may (PeripheralTakes slot no_response) s2 ≡ true
  takes_now =
      one_step (PeripheralTakes slot no_response) s2
      (subst (λ (b : Bool). may_all (step_if b (PeripheralTakes slot no_response)) s2 ≡ true) way.takes_it parts.1)

  s2_runs : is_running s2 ≡ true
  s2_runs = (and_parts (is_running s2) (may_act (PeripheralTakes slot no_response) s2) takes_now).0

  s2_down : s2.down ≡ OnAir (control_item way.outgoing ctrl) way.sealed
  s2_down = ap (λ (j : Joint). j.down) s2_is ∙ way.on_air

  s2_control : s2.peripheral.control ≡ now.control
  s2_control = ap (λ (j : Joint). j.peripheral.control) s2_is

  run2 : HasRun central peripheral s2
  run2 = run_on central peripheral first l.joint (range_before l.joint fixing slot) (has_run central peripheral ends l reached)

  state : IsState s2
  state =
      subst IsState run2.reaches
      (state_of central.link.max_rx peripheral.link.max_rx (first_params central.link.fields) (first_anchor central) run2.steps run2.run
      (ap (λ (j : Joint). is_running j) run2.reaches ∙ s2_runs))

  fits : fits_down way.outgoing ≡ true
  fits = ap (λ (w : Way). fits_if fits_down (item_on_air w)) (sym s2_down) ∙ state.now.down

  was_sent : IsSentOn (OnAir (control_item way.outgoing ctrl) way.sealed)
  was_sent =
      subst IsSentOn s2_down
      (subst (λ (j : Joint). IsSentOn j.down) run2.reaches
      (tied run2.steps (first_joint central peripheral)
      (first_tied central.link.max_rx peripheral.link.max_rx (first_params central.link.fields) (first_anchor central))).sent_down)

  -- no control PDU of the peripheral is on its way
  pub peripheral_taken : is_procedure_pdu p.acknowledgement.last ≡ true → length c.acknowledgement.accepted ≡ length p.acknowledgement.sent
  peripheral_taken sends =
      none_on_way l.joint.up p.acknowledgement c.acknowledgement (turned c.acknowledgement p.acknowledgement s.agreement) s.up
      (other_free l.joint.down l.joint.up (crosses_none_back central peripheral ends l reached) way.outgoing ctrl way.sealed way.on_air) sends

  -- ---- it is the rejection of a procedure

  module _ (q : Exclusive) (code : ErrCode) (rejects : taking.ctrl ≡ RejectExtInd (opcode_of_kind q) code.0) where
    out : IsRejection way.outgoing (opcode_of_kind q)
    out = is_rejection (opcode_of_kind q) code.0 was_sent.event was_sent.latency way.outgoing (was_sent.is ∙ ap (λ (x : Ctrl). Some x) rejects) fits

    abbrev rejection : TheRejection
    rejection = out.rejection

    may_take : PeripheralMayTake s2 (Rejection rejection) ctrl
    may_take =
        record {
          slot = slot;
          response = no_response;
          sealed = way.sealed;
          comes = takes_now;
          on_air = s2_down ∙ ap (λ (o : Outgoing). OnAir (control_item o ctrl) way.sealed) out.is;
        }

    before : Before s2
    before = before_of s2 state s2_runs

    -- ---- so its procedure is in progress, and is refused

    refuses : Refuses now.control.table q code slot
    refuses =
        found rejection (λ (kind : Exclusive). Refuses now.control.table kind code slot)
        (λ part. request_refused code slot now.control.table
        (subst (λ (k : Control). is_requesting (peripheral_of k.table).own ≡ true) s2_control
        (request_reads s2 before ctrl rejection (reason_part rejection.code) may_take part)))
        (λ part. phy_refused code slot now.control.table
        (subst (λ (k : Control). is_phy_sent (peripheral_of k.table).own ≡ true) s2_control
        (phy_reads s2 before ctrl rejection (reason_part rejection.code) may_take part)))
        q out.opcode_is (ap (λ (o : Outgoing). fits_down o) (sym out.is) ∙ fits)

    lasts : now.control.ends ≡ None
    lasts = ap (λ (k : Control). k.ends) (sym s2_control) ∙ (goes_on s2 s2_runs).peripheral

    -- ---- what it notes, and what it holds then

    abbrev handle : ℕ
    handle = peripheral.link.handle

    abbrev done : Option Kind
    done = acked_kind (acks_control (has_acknowledged p header) p) p

    abbrev number : ℕ
    number = numbered now.acknowledgement.accepted + 1

    -- it takes the rejection in Clear or Secure

    abbrev response : Drawn
    response = drawn now.encryption.response

    read_is : read_of last ≡ rejection_read q code
    read_is = way.read_as ∙ ap (λ (x : Ctrl). Known x) rejects

    no_data : is_data last ≡ false
    no_data = ap (λ (llid : ℕ). ((llid == 1) || (llid == 2)) && not (length last.body == 0)) took.llid_is

    now_is : received peripheral slot octets room p ≡ procedures_take last slot (accepted_if true last now)
    now_is =
        facts_are ∙ ap (λ (role : Role). facts_hearing role slot room header last p) ends.is_peripheral
        ∙ λ i. data_taken_if (accepted_now i && no_data i)
        (procedures_take_if (accepted_now i && procedure i) last slot (accepted_if (accepted_now i) last now))

    took_control : (received peripheral slot octets room p).control ≡ (phased_took slot response (rejection_read q code) (phased_of now)).control
    took_control =
        ap (λ (f : Facts). (phased_of f).control) now_is ∙ ap (λ (x : Phased). x.control) (takes_phased last slot (accepted_if true last now))
        ∙ ap (λ (read : CtrlRead). (phased_after (phased_takes read slot response) (phased_of now)).control) read_is
        ∙ ap (λ (o : Option ErrCode). (if is_none o then phased_took slot response (rejection_read q code) (phased_of now) else phased_of now).control) lasts

    abbrev IsOver : Option ErrCode → Type 0
    IsOver ends = (ends ≡ None) ⊎ (EndsForInstant c p ends ⊎ EndsForged peripheral p octets ends)

    goes_on_or_late : IsOver (answered peripheral slot octets room p).control.ends
    goes_on_or_late =
        peripheral_lasts whole central peripheral slot c p channel octets room ends begun c_lasts p_lasts packet same supervised pure

    ends_are : (answered peripheral slot octets room p).control.ends ≡ (phased_took slot response (rejection_read q code) (phased_of now)).control.ends
    ends_are = answered_ends peripheral slot octets room p ∙ ap (λ (k : Control). k.ends) took_control

    stays : (phased_took slot response (rejection_read q code) (phased_of now)).control.ends ≡ Some (record { 0 = mic_failure }) → ⊥
    stays is = by goes_on_or_late
      where
        number_of : Option ErrCode → ℕ
        number_of None = 0
        number_of (Some code) = code.0

        by : IsOver (answered peripheral slot octets room p).control.ends → ⊥
        by (inl none) = absurd (let no = sym none ∙ ends_are ∙ is in cc)
        by (inr (inl late)) =
            let n : 0x28 ≡ 0x3D = ap number_of (sym late.0 ∙ ends_are ∙ is) in absurd (omega (arith, n))
        by (inr (inr forged)) = absurd (let no = sym forged.0 ∙ genuine in cc)

    quiet_then : is_quiet_now (phased_of now) ≡ true
    quiet_then = quiet q code slot response (phased_of now) stays

    none_kept : now.encryption.kept ≡ None
    none_kept = keeps_none central peripheral ends (slot + 1) false l reached running c p s (begun.linked.keys running) slot header

    quiet_end : is_quiet now.encryption.end.phase ≡ true
    quiet_end =
        ap is_quiet (in_phase central peripheral ends (slot + 1) false l reached running c p s (begun.linked.keys running) slot header) ∙ quiet_then

    answer : procedures_answer last slot now
        ≡ record { taken = record { effect = Nothing; refused = Some (kind_of q, code); done = None }; kept = nothing_taken }
    answer =
        ap (λ (read : CtrlRead). taken_keyed slot now.encryption.response read (keyed_held (keyed_of now))) read_is
        ∙ gives q code slot now.encryption.response (keyed_held (keyed_of now)) (ap (λ (o : Option ErrCode). is_none o) lasts) quiet_end none_kept
        ∙ ap (λ (taken : Taken). record { taken = taken; kept = nothing_taken }) (given q code slot now.control lasts refuses)

    notes_taken : taken_notes handle (accepts room header last now) last slot now
        ≡ Took handle number last.llid (record { items = last.body }) ∷ Refused handle (kind_of q) code ∷ []
    notes_taken =
        λ i. took_notes_if (accepted_now i && accepted_parts.1 i) handle last now
        ++ (given_notes handle (if accepted_now i && procedure i then (answer i).taken else nothing_taken)
        ++ given_notes handle (if accepted_now i && procedure i then (answer i).kept else nothing_taken))

    notes_now : notes_after peripheral p (PacketReceived slot octets room)
        ≡ done_notes handle done ++ Took handle number last.llid (record { items = last.body }) ∷ Refused handle (kind_of q) code ∷ []
    notes_now =
        notes_are
        ∙ (λ i. done_notes handle done
        ++ taken_notes handle (accepts room header last (facts_before_taking (ends.is_peripheral i) slot header p)) last slot
        (facts_before_taking (ends.is_peripheral i) slot header p))
        ∙ ap (λ (notes : List Note). done_notes handle done ++ notes) notes_taken

    table_now : (received peripheral slot octets room p).control.table ≡ refuses.table
    table_now =
        ap (λ (k : Control). k.table)
        (took_control ∙ taken_so q code slot response (phased_of now) quiet_then none_kept ∙ control_after q code slot now.control lasts refuses)

    pub is_refused : IsRefused peripheral (seen peripheral slot octets p) (received peripheral slot octets room p) taking.later q code
    is_refused =
        record {
          runs = ap (λ (f : Facts). peripheral_kind (peripheral_of f.control.table).own) seen_is ∙ refuses.runs;
          refused =
              refused_after handle (kind_of q) code number last.llid last.body taking.later handle taking.number 3 taking.body done taking.earlier
              (sym notes_now ∙ taking.notes);
          over = ap (λ (f : TableFacts). (peripheral_of f).own) table_now ∙ refuses.over;
        }
