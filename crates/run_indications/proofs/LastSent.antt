-- The indication that a peripheral takes in time is the last that the central sent, with the event that its Instant names.
use Rattle.std.proofs.Common.{◌≡◌, ℕ, ◌+◌, ◌-◌, ◌<◌, ◌≤◌, nat_lt, ◌||◌, not, Bool, true, false, List, ◌∷◌, ◌++◌, Option, Some, None, option_map, refl, ap, sym, subst, ◌∙◌, if◌then◌else◌}
use Rattle.std.proofs.lemmas.Bool.{lt-ltb}
use Rattle.arrayvec.specs.ArrayVec.{ArrayVec}
use Rattle.ble_base.specs.declared.notes.Note.{Note}
use Rattle.ble_base.specs.declared.notes.Note.TheVariants.{Took}
use Rattle.data_pdu.specs.declared.ctrl.Ctrl.{Ctrl}
use Rattle.data_pdu.specs.declared.ctrl.Ctrl.TheVariants.{ChannelMapInd, ConnectionUpdateInd}
use Rattle.data_pdu.specs.declared.ctrl.CtrlRead.TheVariants.{Known}
use Rattle.data_pdu.specs.Reading.{ctrl_of}
use Rattle.data_pdu.proofs.Rows.{written_is_known}
use Rattle.instants.specs.Track.{event_of, gap_ahead}
use Rattle.instants.specs.declared.indications.Indication.{Indication}
use Rattle.instants.specs.declared.track.Change.{Change}
use Rattle.two_tracks.specs.TwoEnds.{change_of, has_passed}
use Rattle.link_changes.specs.Noted.{indication_in, indication_read}
use Rattle.joint_laws.specs.joint_controls.Joint.{Clear, Control as control_item, Data, Fixed, Joint, OnAir, PeripheralTakes, Taken, Way, instant_now, is_indication, is_item, is_late, is_running, item_on_air, last_change, may, may_all}
use Rattle.joint_laws.specs.joint_parameters.Indications.{indication_in as indication_of_ctrl, indication_read as read_on_air}
use Rattle.joint_laws.specs.joint_parameters.Turns.{Link, step_if, takes_item}
use Rattle.joint_laws.proofs.joint_parameters.Arriving.{read_there, same_event, test_is_late}
use Rattle.run_pairs.specs.link_calls.link_model.Acknowledgement.{Acknowledgement, Pdu, is_acked}
use Rattle.run_pairs.specs.link_calls.link_model.Data.{is_data, is_empty}
use Rattle.run_pairs.specs.link_calls.link_model.End.{notes_after}
use Rattle.run_pairs.specs.link_calls.link_model.Facts.{Facts}
use Rattle.run_pairs.specs.link_calls.link_model.Packets.{is_forged}
use Rattle.run_pairs.specs.link_calls.link_model.Setup.{Setup, first_anchor, first_params}
use Rattle.run_pairs.specs.link_calls.link_model.phased_control.Taken.{Response}
use Rattle.run_pairs.specs.link_calls.link_model.phased_end.Taking.{drawn}
use Rattle.run_pairs.specs.link_calls.link_model.Step.{PacketReceived}
use Rattle.run_pairs.proofs.link_calls.link_model.Hearing.{IsHeardWhole}
use Rattle.link_runs.specs.control_model.Control.{Control}
use Rattle.link_runs.specs.procedure_values.declared.drafts.Outgoing.{Outgoing}
use Rattle.link_runs.specs.link_pairs.Ends.{AreEnds, heard_turns, is_lasting}
use Rattle.link_runs.specs.link_pairs.Hearing.{IsPacketOf, is_mixed, is_mixed_packet, received}
use Rattle.link_runs.specs.link_pairs.Shown.{Shows}
use Rattle.link_runs.specs.link_pairs.Turns.{HaveBegun}
use Rattle.link_runs.specs.link_pairs.Ways.{IsControlPdu, IsUntaken, ShowsWay}
use Rattle.link_runs.proofs.link_pairs.Counts.{says_right, turned, unseen_is_taken}
use Rattle.link_runs.proofs.link_pairs.Ending.{run_at}
use Rattle.link_runs.proofs.link_pairs.Items.{data_is_no_control}
use Rattle.link_runs.proofs.link_pairs.JointRuns.{HasRun, has_run}
use Rattle.link_runs.proofs.link_pairs.OtherKeys.{mixed_at_peripheral}
use Rattle.link_runs.proofs.link_pairs.PacketsRead.{AreRead}
use Rattle.link_runs.proofs.link_pairs.PeripheralHeard.{takes_now}
use Rattle.link_runs.proofs.link_pairs.PeripheralHears.{TakesAt}
use Rattle.link_runs.proofs.link_pairs.PeripheralSteps.{one_step}
use Rattle.link_runs.proofs.link_pairs.Reaching.{IsReached}
use Rattle.link_runs.proofs.link_pairs.Sounding.{link_now, reached_now, runs}
use Rattle.link_runs.proofs.link_pairs.Understanding.{IsOpenedThere, whole_at_peripheral}
use Rattle.run_pairs.proofs.EndCalls.{good_genuine}
use Rattle.run_indications.proofs.TookNotes.{took_good, took_new}

-- ---- a control PDU, as notes and joint runs have its indication

read_alike : (ctrl : Ctrl) → indication_read (Known ctrl) ≡ indication_of_ctrl ctrl
read_alike (ConnectionUpdateInd win_size win_offset interval latency timeout instant) = refl
read_alike (ChannelMapInd map instant) = refl
read_alike other = refl

control_says : (ctrl : Ctrl) (pdu : Pdu) → IsControlPdu ctrl pdu → indication_in pdu.llid pdu.body ≡ indication_of_ctrl ctrl
control_says ctrl pdu is =
    ap (λ (p : Pdu). indication_in p.llid p.body) is.written_as ∙ ap indication_read (written_is_known ctrl is.is_ctrl) ∙ read_alike ctrl

-- data is none
data_says : (pdu : Pdu) → is_data pdu ≡ true → indication_in pdu.llid pdu.body ≡ None
data_says pdu is = ap (λ (b : Bool). if b then indication_read (ctrl_of pdu.body) else None) (data_is_no_control pdu is)

-- ---- the last PDU of the central, where it is an indication that the peripheral has not taken

pub record IsComing (way : Way) (indication : Indication) : Type 0 where
  pub outgoing : Outgoing
  pub ctrl : Ctrl
  pub sealed : Bool
  pub on_air : way ≡ OnAir (control_item outgoing ctrl) sealed
  pub says : indication_of_ctrl ctrl ≡ Some indication

empty_or : (empty acked : Bool) → (empty || acked) ≡ true → empty ≡ false → acked ≡ false → (X : Type 0) → X
empty_or true acked shown some out X = absurd (cc)
empty_or false acked shown some out X = absurd (let no = sym shown ∙ out in cc)

comes : (way : Way) (from to : Acknowledgement) (indication : Indication) → ShowsWay way from to → is_acked from ≡ false → is_empty from.last ≡ false
    → IsUntaken from to → indication_in from.last.llid from.last.body ≡ Some indication → IsComing way indication
comes Clear from to indication shown out some untaken says = empty_or (is_empty from.last) (is_acked from) shown some out (IsComing Clear indication)
comes (Fixed item sealed) from to indication shown out some untaken says = absurd shown
comes (OnAir Data sealed) from to indication shown out some untaken says =
    absurd (let no = sym (data_says from.last shown.0) ∙ says in cc)
comes (OnAir (control_item outgoing ctrl) sealed) from to indication shown out some untaken says =
    record {
      outgoing = outgoing;
      ctrl = ctrl;
      sealed = sealed;
      on_air = refl;
      says = sym (control_says ctrl from.last shown.0) ∙ says;
    }
comes (Taken item) from to indication shown out some untaken says = absurd (unseen_is_taken from to shown.1 untaken)

-- ---- in the joint run

record IsChange (o : Option Change) (indication : Indication) : Type 0 where
  change : Change
  is : o ≡ Some change
  says : change.indication ≡ indication

change_in : (o : Option Change) (indication : Indication) → option_map (λ (change : Change). change.indication) o ≡ Some indication → IsChange o indication
change_in None indication is = absurd (cc)
change_in (Some change) indication is = record { change = change; is = refl; says = cc }

-- an indication on its way is the last that was sent
last_of : (on_air : Bool) (last : Option Change) (change : Change) → (if on_air then last else None) ≡ Some change → last ≡ Some change
last_of true last change is = is
last_of false last change is = absurd (cc)

module _ (central peripheral : Setup) (ends : AreEnds central peripheral) (turns slot : ℕ) (response : Response) (answers takes : Bool) (c p : Facts) (now : Control) (l : Link)
    (reached : IsReached central peripheral l) (running : is_running l.joint ≡ true) (s : Shows central peripheral turns answers l c p)
    (t : TakesAt l.joint takes slot response now) (is_taken : takes ≡ true) (indication : Indication) (coming : IsComing l.joint.down indication)
    (in_time : gap_ahead (event_of p.control.track) indication < 32767) where
  run_here : HasRun central peripheral l.joint
  run_here = has_run central peripheral ends l reached

  run_then : HasRun central peripheral t.state
  run_then = run_at central peripheral ends turns slot response answers takes c p now l reached s t

  reads : read_on_air (item_on_air l.joint.down) ≡ option_map (λ (change : Change). change.indication) (instant_now l.joint)
  reads =
      subst
      (λ (j : Joint). is_running j ≡ true → read_on_air (item_on_air j.down) ≡ option_map (λ (change : Change). change.indication) (instant_now j))
      run_here.reaches
      (read_there central.link.max_rx peripheral.link.max_rx (first_params central.link.fields) (first_anchor central) run_here.steps run_here.run.latency
      run_here.run.in_range)
      running

  found : IsChange (instant_now l.joint) indication
  found =
      change_in (instant_now l.joint) indication
      (sym reads ∙ ap (λ (way : Way). read_on_air (item_on_air way)) coming.on_air ∙ coming.says)

  abbrev change : Change
  change = found.change

  last_is : last_change c.control.sent ≡ Some change
  last_is =
      ap (λ x. last_change x.control.sent) (sym s.central_part)
      ∙ last_of (is_item is_indication (item_on_air l.joint.down)) (last_change l.joint.central.control.sent) change found.is

  instant_at : instant_now t.state ≡ Some change
  instant_at = (λ i. if is_item is_indication (item_on_air (t.down i)) then last_change (t.central i).control.sent else None) ∙ found.is

  comes_then : may (PeripheralTakes slot response) t.state ≡ true
  comes_then =
      one_step (PeripheralTakes slot response) t.state
      (subst (λ (b : Bool). may_all (step_if b (PeripheralTakes slot response)) t.state ≡ true) is_taken t.comes)

  event_same : event_of t.state.peripheral.control.track ≡ event_of p.control.track
  event_same = ap (λ (n : ℕ). n - 1) (t.entered ∙ ap (λ x. x.control.track.entered) s.peripheral_part)

  passed_as : has_passed t.state.peripheral.control.track change ≡ is_late t.state
  passed_as =
      subst
      (λ (j : Joint). may (PeripheralTakes slot response) j ≡ true → instant_now j ≡ Some change
      → has_passed j.peripheral.control.track change ≡ is_late j)
      run_then.reaches
      (test_is_late central.link.max_rx peripheral.link.max_rx (first_params central.link.fields) (first_anchor central) run_then.steps run_then.run.latency
      run_then.run.in_range slot response change)
      comes_then instant_at

  not_late : is_late t.state ≡ false
  not_late =
      sym passed_as
      ∙ (λ i. not (nat_lt (gap_ahead (event_same i) (found.says i)) 32767))
      ∙ ap not (lt-ltb (gap_ahead (event_of p.control.track) indication) 32767 in_time)

  same : change_of (event_of t.state.peripheral.control.track) change.indication ≡ change
  same =
      subst
      (λ (j : Joint). may (PeripheralTakes slot response) j ≡ true → instant_now j ≡ Some change → is_late j ≡ false
      → change_of (event_of j.peripheral.control.track) change.indication ≡ change)
      run_then.reaches
      (same_event central.link.max_rx peripheral.link.max_rx (first_params central.link.fields) (first_anchor central) run_then.steps run_then.run.latency
      run_then.run.in_range slot response change)
      comes_then instant_at not_late

  pub last_taken : last_change c.control.sent ≡ Some (change_of (event_of p.control.track) indication)
  last_taken = last_is ∙ ap (λ (x : Change). Some x) (sym same ∙ λ i. change_of (event_same i) (found.says i))

-- ---- a packet of the central

module _ (whole : IsHeardWhole) (central peripheral : Setup) (slot : ℕ) (c p : Facts) (channel : ℕ) (octets : List ℕ) (room : Bool)
    (ends : AreEnds central peripheral)
    (begun : HaveBegun central peripheral slot true true c p) (c_lasts : is_lasting c ≡ true) (p_lasts : is_lasting p ≡ true)
    (packet : IsPacketOf central slot c channel octets) (on_channel : channel ≡ p.event.channel) (supervised : slot + 1 ≤ heard_turns peripheral p + 32768)
    (before later : List Note) (handle number llid : ℕ) (body : ArrayVec ℕ) (indication : Indication)
    (noted : notes_after peripheral p (PacketReceived slot octets room) ≡ before ++ Took handle number llid body ∷ later)
    (says : indication_in llid body.items ≡ Some indication) (in_time : gap_ahead (event_of p.control.track) indication < 32767)
    (opened : IsOpenedThere) (unmixed : is_mixed_packet peripheral p c octets ≡ false) where
  running : is_running (link_now central peripheral ends (slot + 1) false c p begun.linked c_lasts p_lasts).joint ≡ true
  running = runs central peripheral ends (slot + 1) false c p begun.linked c_lasts p_lasts

  abbrev l : Link
  l = link_now central peripheral ends (slot + 1) false c p begun.linked c_lasts p_lasts

  abbrev reached : IsReached central peripheral l
  reached = reached_now central peripheral ends (slot + 1) false c p begun.linked c_lasts p_lasts

  shows : Shows central peripheral (slot + 1) false l c p
  shows = begun.linked.shows running

  abbrev last : Pdu
  last = c.acknowledgement.last

  -- what is noted of it is good, so it is not forged
  genuine : is_forged peripheral p octets ≡ false
  genuine = good_genuine peripheral octets p (took_good peripheral slot octets room p before later (Took handle number llid body) noted)

  pure : is_mixed peripheral p octets c.acknowledgement.last ≡ false
  pure =
      mixed_at_peripheral whole opened central peripheral (slot + 1) slot false c p channel octets ends begun.linked c_lasts p_lasts packet on_channel unmixed

  read : AreRead peripheral p slot octets c.acknowledgement
  read =
      whole_at_peripheral whole central peripheral (slot + 1) slot false c p channel octets ends begun.linked c_lasts p_lasts packet on_channel
      (record { genuine = genuine; pure = pure })

  coming : IsComing l.joint.down indication
  coming =
      let new = took_new peripheral slot room read.header last p before later handle number llid body (sym (read.notes room) ∙ noted) in
      let agreed = turned c.acknowledgement p.acknowledgement shows.agreement in
      let untaken = (says_right p.acknowledgement c.acknowledgement agreed read.header read.bits read.out).untaken new.fresh in
      comes l.joint.down c.acknowledgement p.acknowledgement indication shows.down read.out new.has_octets untaken
      (ap (λ (pdu : Pdu). indication_in pdu.llid pdu.body) new.is ∙ says)

  pub last_read : last_change c.control.sent ≡ Some (change_of (event_of p.control.track) indication)
  last_read =
      last_taken central peripheral ends (slot + 1) slot (drawn p.encryption.response) false (takes_item (room || not (is_data c.acknowledgement.last)) (item_on_air l.joint.down)) c p
      (received peripheral slot octets room p).control l reached running shows
      (takes_now whole central peripheral slot c p channel octets room ends begun packet on_channel supervised pure (begun.ready running) l
      reached running shows (begun.linked.keys running)
      (record { header = read.header; bits = read.bits; out = read.out; good = read.good; facts = read.facts }))
      (ap (λ (way : Way). takes_item (room || not (is_data c.acknowledgement.last)) (item_on_air way)) coming.on_air) indication coming in_time
