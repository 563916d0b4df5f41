-- An end of two linked ends takes LL_TERMINATE_IND of the other: from then on the two are parting.
use Rattle.std.proofs.Common.{◌≡◌, ◌⊎◌, inl, inr, ◌+◌, ◌≤◌, ◌<◌, ◌&&◌, ◌||◌, not, ℕ, Bool, true, false, List, length, Option, None, is_none, is_some, refl, sym, ap, ◌∙◌, subst, arith, if◌then◌else◌}
use Rattle.std.proofs.lemmas.Bool.{and_parts}
use Rattle.ble_base.specs.declared.error_codes.ErrCode.{ErrCode}
use Rattle.ble_base.specs.declared.roles.Role.{Role}
use Rattle.ble_base.specs.declared.roles.Role.TheVariants.{Central, Peripheral}
use Rattle.data_pdu.specs.declared.header.DataHeader.{DataHeader}
use Rattle.data_pdu.specs.declared.ctrl.Ctrl.{Ctrl}
use Rattle.control_octets.specs.procedure_stages.Closing.{is_disconnecting}
use Rattle.control_octets.specs.control_model.Control.{Sends as control_sends}
use Rattle.joint_laws.specs.joint_controls.phased_control.enc_phase.declared.facts.Transition.TheVariants.{Ask as AskTransition}
use Rattle.joint_laws.specs.joint_controls.phased_control.PhaseChanges.{Moves, Stays}
use Rattle.joint_laws.specs.joint_controls.phased_control.Phased.{Phased, is_quiet_now, with_step}
use Rattle.std.proofs.Math.Nat.{min-le_right}
use Rattle.joint_laws.specs.joint_controls.Ends.{outgoing_on}
use Rattle.joint_laws.specs.joint_controls.Joint.{CentralAcked, Joint, is_running, is_taken, may, may_act, may_all}
use Rattle.joint_laws.specs.joint_parameters.Turns.{IsAnswered, Link, step_if}
use Rattle.joint_keys.specs.KeyedJoint.{KeyedJoint, Keys, keyed_with}
use Rattle.joint_keys.specs.Opening.{CanOpen}
use Rattle.link_model.specs.Acknowledgement.{Pdu, is_acked}
use Rattle.link_model.specs.Data.{Data as DataFacts, is_control, is_data, is_empty}
use Rattle.link_model.specs.Setup.{Setup}
use Rattle.link_model.proofs.Hearing.{IsHeardWhole}
use Rattle.link_model.specs.Controls.{next_control, pdu_fixed}
use Rattle.link_model.specs.Facts.{Encryption, Facts, keyed_of}
use Rattle.link_model.specs.Packets.{good_pdu}
use Rattle.link_model.specs.Payload.{payload_made}
use Rattle.link_model.specs.enc_phase.Sealing.{EncEnd}
use Rattle.link_model.specs.keyed_control.KeyedSteps.{SeesAcknowledged, end_changed, keyed_moved}
use Rattle.link_model.specs.Receiving.{accepts, acknowledged_if, answers_with_control, facts_before_taking, facts_hearing, heard_in_slot, replies_by, replies_of}
use Rattle.link_model.specs.Sending.{control_gone_if, data_sent_as, facts_sent}
use Rattle.link_pairs.specs.Ends.{AreEnds, is_lasting, phased_of}
use Rattle.link_pairs.specs.Hearing.{IsPacketOf, answered, is_mixed, received}
use Rattle.link_pairs.specs.Parting.{ArePartingFrom, HasNothing}
use Rattle.link_pairs.specs.Shown.{AreLinked, HasKeys, HaveKeys, Shows, keys_of, link_of}
use Rattle.link_pairs.specs.Turns.{HasFixed, HaveBegun, sent_if}
use Rattle.link_pairs.proofs.Answering.{all_same, answers_plainly, fixed_again, gone_same, taken, took}
use Rattle.link_pairs.proofs.BothMeet.{down_meets, fits_down_it, fits_up_it, genuine, lasts, peripheral_receives, up_meets}
use Rattle.link_pairs.proofs.Counts.{Says, acknowledged_by, is_fresh, says_right}
use Rattle.link_pairs.proofs.FixingNext.{control_bits, control_short, empty_else}
use Rattle.link_pairs.proofs.HasSent.{sent_packet}
use Rattle.link_pairs.proofs.LastPdus.{last_reached}
use Rattle.link_pairs.proofs.LinkStates.{acked, acked_peripheral, central_keeps, opens_down, opens_up, peripheral_keeps_none, settles}
use Rattle.link_pairs.proofs.KeyedRuns.{keys_acked_if}
use Rattle.link_pairs.proofs.KeysHeld.{acked_has}
use Rattle.link_pairs.proofs.PeripheralSteps.{may_parts}
use Rattle.link_pairs.proofs.PhasedEnds.{acked_alone, acked_if, acked_phased, asks_none, gone_if, gone_phased}
use Rattle.link_pairs.proofs.PacketsRead.{AreRead, read_pure}
use Rattle.link_pairs.proofs.Replying.{good_not_forged, replies_as}
use Rattle.link_pairs.proofs.ReachedRuns.{requests_none}
use Rattle.link_pairs.proofs.Reaching.{IsReached, comes, joint_at, keys_at, reached_by}
use Rattle.link_pairs.proofs.SeenAcknowledged.{control_seen, keys_seen}
use Rattle.link_pairs.proofs.TakerSends.{AreToPart, FixedFits, OpensFixed, OpensNext, fixed_fits, none_next, part, sent_by_peer, sent_parting}
use Rattle.link_pairs.proofs.TakingLast.{Meets, can_heard, central_fixed, fixed_none, has_fixed_by, nothing_heard, settled_then, to_part}

-- ---- the central took it

module _ (whole : IsHeardWhole) (central peripheral : Setup) (ends : AreEnds central peripheral) (slot : ℕ) (c p : Facts) (channel : ℕ) (octets : List ℕ)
    (room : Bool) (linked : AreLinked central peripheral (slot + 1) true c p) (central_lasts : is_lasting c ≡ true) (peripheral_lasts : is_lasting p ≡ true)
    (packet : IsPacketOf peripheral slot p channel octets) (same : channel ≡ c.event.channel)
    (pure : is_mixed central c octets p.acknowledgement.last ≡ false) (ended : is_some (received central slot octets room c).leaving.ended_by_peer ≡ true) where
  abbrev l : Link
  l = link_of central peripheral linked.steps

  abbrev reached : IsReached central peripheral l
  reached = reached_by central peripheral linked.steps linked.may linked.in_range

  running : is_running l.joint ≡ true
  running = linked.lasts central_lasts peripheral_lasts

  shows : Shows central peripheral (slot + 1) true l c p
  shows = linked.shows running

  keys : HaveKeys (keys_of central peripheral linked.steps) c p
  keys = linked.keys running

  read : AreRead central c slot octets p.acknowledgement
  read =
      read_pure whole peripheral central slot p c channel octets (keys_of central peripheral linked.steps).peripheral.made (sym ends.one_link.fields) packet same
      (fits_up_it central peripheral ends slot true c p l reached running shows keys (lasts c central_lasts) (lasts p peripheral_lasts) room
      (sent_packet peripheral slot p channel octets packet).out) pure (genuine central c slot octets room (lasts c central_lasts) ended)

  meets : Meets central peripheral slot room read.header c p l.joint.up l.joint.down
  meets =
      up_meets central peripheral ends slot true c p l reached running shows keys (lasts c central_lasts) (lasts p peripheral_lasts) room octets read

  abbrev heard : Facts
  heard = received central slot octets room c

  abbrev header : DataHeader
  header = read.header

  heard_as : heard ≡ facts_hearing Central slot room header p.acknowledgement.last c
  heard_as = read.facts room ∙ ap (λ (role : Role). facts_hearing role slot room header p.acknowledgement.last c) ends.is_central

  ended_so : is_some (facts_hearing Central slot room header p.acknowledgement.last c).leaving.ended_by_peer ≡ true
  ended_so = ap (λ (f : Facts). is_some f.leaving.ended_by_peer) (sym heard_as) ∙ ended

  -- ---- its last PDU is acknowledged, if that was taken

  abbrev acks : Bool
  acks = acknowledged_by c.acknowledgement header

  abbrev seen : Facts
  seen = acknowledged_if acks (heard_in_slot slot header.md c)

  says : Says c.acknowledgement p.acknowledgement acks (is_fresh c.acknowledgement header)
  says = says_right c.acknowledgement p.acknowledgement shows.agreement header read.bits read.out

  abbrev taken_last : Bool
  taken_last = is_taken l.joint.down

  out_last : c.control.table.out ≡ outgoing_on l.joint.down
  out_last = ap (λ (x : Phased). x.control.table.out) (sym shows.central_part) ∙ (last_reached central peripheral ends l reached).central

  one_step_may : (does : Bool) → may_all (step_if does CentralAcked) l.joint ≡ true → does ≡ true → may_act CentralAcked l.joint ≡ true
  one_step_may true all is = (and_parts (is_running l.joint) (may_act CentralAcked l.joint) (and_parts (may CentralAcked l.joint) true all).0).1
  one_step_may false all is = absurd (cc)

  may_ack : taken_last ≡ true → may_act CentralAcked l.joint ≡ true
  may_ack =
      one_step_may taken_last
      (may_parts (step_if taken_last CentralAcked) _ l.joint
      (comes central peripheral ends (IsAnswered true slot) l reached running (shows.replies refl))).0

  abbrev then_acked : KeyedJoint
  then_acked = acked central peripheral ends l reached running taken_last

  central_by : (taken : Bool) → (acked central peripheral ends l reached running taken).joint.central ≡ acked_if taken (keys_at central peripheral l reached).joint.central
  central_by true = refl
  central_by false = refl

  keys_by : (taken : Bool) → (acked central peripheral ends l reached running taken).central
      ≡ keys_acked_if taken (keys_at central peripheral l reached).joint.central (keys_at central peripheral l reached).central
  keys_by true = refl
  keys_by false = refl

  seen_part : then_acked.joint.central ≡ phased_of seen
  seen_part =
      central_by taken_last
      ∙ ap (acked_if taken_last) (ap (λ (j : Joint). j.central) (joint_at central peripheral l reached) ∙ shows.central_part)
      ∙ sym (control_seen c.acknowledgement p.acknowledgement acks (is_fresh c.acknowledgement header) says l.joint.down (phased_of c) shows.down out_last)
      ∙ sym (acked_phased (acks && is_control c.acknowledgement.last) (keyed_of c))

  seen_has : HasKeys (keys_acked_if taken_last (phased_of c) (keys_at central peripheral l reached).central) seen
  seen_has =
      subst (λ (x : Keys). HasKeys x seen)
      (keys_seen c.acknowledgement p.acknowledgement acks (is_fresh c.acknowledgement header) says l.joint.down (phased_of c)
      (keys_at central peripheral l reached).central shows.down out_last)
      (acked_has slot header.md acks (phased_of c) (keys_at central peripheral l reached).central c refl keys.central_keys)

  seen_end : then_acked.central.end ≡ seen.encryption.end
  seen_end =
      ap (λ (x : Keys). x.end) (keys_by taken_last)
      ∙ ap (λ (x : Phased). (keys_acked_if taken_last x (keys_at central peripheral l reached).central).end)
      (ap (λ (j : Joint). j.central) (joint_at central peripheral l reached) ∙ shows.central_part)
      ∙ seen_has.session

  kept_none : is_quiet_now (phased_of seen) ≡ true → (phased_of seen).kept ≡ None
  kept_none =
      subst (λ (x : Phased). is_quiet_now x ≡ true → x.kept ≡ None) seen_part
      (central_keeps central peripheral ends l reached running may_ack taken_last refl)

  next : OpensNext (facts_hearing Central slot room header p.acknowledgement.last c) p
  next all =
      by
      (opens_down central peripheral ends l reached running may_ack taken_last refl
      (settles central peripheral ends l reached running taken_last refl
      (settled_then central peripheral slot room header c p Central l.joint.up l.joint.down meets kept_none ended_so all)))
    where
      by : CanOpen then_acked.central.end then_acked.peripheral.end ⊎ HasNothing then_acked.joint.central
          → CanOpen (facts_hearing Central slot room header p.acknowledgement.last c).encryption.end p.encryption.end
          ⊎ HasNothing (phased_of (facts_hearing Central slot room header p.acknowledgement.last c))
      by (inl can) =
          inl (can_heard central peripheral slot room header c p Central l.joint.up l.joint.down meets kept_none ended_so
          (subst (λ (e : EncEnd). CanOpen e p.encryption.end) seen_end
          (subst (CanOpen then_acked.central.end) (acked_peripheral central peripheral ends l reached running taken_last ∙ keys.peripheral_keys.session) can)))
      by (inr none) =
          inr (nothing_heard central peripheral slot room header c p Central l.joint.up l.joint.down meets kept_none ended_so (subst HasNothing seen_part none))

  never_peripheral : (role : Role) → role ≡ Central → role ≡ Peripheral → ⊥
  never_peripheral Central is other = absurd (cc)
  never_peripheral Peripheral is other = absurd (cc)

  pub central_took : ArePartingFrom central peripheral heard p
  central_took =
      subst (λ (f : Facts). ArePartingFrom central peripheral f p) (sym heard_as)
      (part central peripheral (facts_hearing Central slot room header p.acknowledgement.last c) p
      (to_part central peripheral slot room header c p Central l.joint.up l.joint.down meets kept_none ended_so) next
      (ap is_control (central_fixed Central slot room header p.acknowledgement.last c refl) ∙ shows.central_rests.none_gone)
      (λ is. absurd (never_peripheral central.link.role ends.is_central is)))

-- ---- the peripheral took it, and answered

-- it answers with the fixed PDU, or with the last one again
none_gone_then : (slot : ℕ) (more acks : Bool) (facts : Facts) (accepted : Bool) (pdu : Pdu) → is_control facts.outgoing.fixed ≡ false
    → is_control (facts_sent slot (taken slot more acks facts accepted pdu)).outgoing.fixed ≡ false
none_gone_then slot more acks facts accepted pdu none =
    ap (λ (f : Facts). is_control f.outgoing.fixed) (answers_plainly slot more acks facts accepted pdu) ∙ by (is_acked now.acknowledgement) refl
  where
    now : Facts
    now = taken slot more acks facts accepted pdu

    by : (all : Bool) → is_acked (taken slot more acks facts accepted pdu).acknowledgement ≡ all
        → is_control (data_sent_as (payload_made now.encryption.end now.outgoing.fixed) all (taken slot more acks facts accepted pdu).outgoing).fixed ≡ false
    by true is = refl
    by false is =
        ap (λ (o : DataFacts). is_control o.fixed) (took slot more acks facts accepted pdu).outgoing
        ∙ ap is_control (fixed_again slot more acks facts (sym (all_same slot more acks facts accepted pdu) ∙ is)) ∙ none

module _ (whole : IsHeardWhole) (central peripheral : Setup) (ends : AreEnds central peripheral) (slot : ℕ) (c p : Facts) (channel : ℕ) (octets : List ℕ)
    (room : Bool) (begun : HaveBegun central peripheral slot true true c p) (central_lasts : is_lasting c ≡ true) (peripheral_lasts : is_lasting p ≡ true)
    (packet : IsPacketOf central slot c channel octets) (same : channel ≡ p.event.channel)
    (pure : is_mixed peripheral p octets c.acknowledgement.last ≡ false) (ended : is_some (received peripheral slot octets room p).leaving.ended_by_peer ≡ true) where
  abbrev link_down : Link
  link_down = link_of central peripheral begun.linked.steps

  abbrev reached_down : IsReached central peripheral link_down
  reached_down = reached_by central peripheral begun.linked.steps begun.linked.may begun.linked.in_range

  running_down : is_running link_down.joint ≡ true
  running_down = begun.linked.lasts central_lasts peripheral_lasts

  shows_down : Shows central peripheral (slot + 1) false link_down c p
  shows_down = begun.linked.shows running_down

  keys_down : HaveKeys (keys_of central peripheral begun.linked.steps) c p
  keys_down = begun.linked.keys running_down

  has_fixed : HasFixed p
  has_fixed = (begun.ready running_down).fixed refl

  read_down : AreRead peripheral p slot octets c.acknowledgement
  read_down =
      read_pure whole central peripheral slot c p channel octets (keys_of central peripheral begun.linked.steps).central.made ends.one_link.fields packet same
      (fits_down_it central peripheral ends slot false c p link_down reached_down running_down shows_down keys_down (lasts c central_lasts)
      (lasts p peripheral_lasts) room (sent_packet central slot c channel octets packet).out) pure (genuine peripheral p slot octets room (lasts p peripheral_lasts) ended)

  meets_down : Meets peripheral central slot room read_down.header p c link_down.joint.down link_down.joint.up
  meets_down =
      down_meets central peripheral ends slot false c p link_down reached_down running_down shows_down keys_down (lasts c central_lasts) (lasts p peripheral_lasts) room octets
      read_down

  receives_down : p.control.table.lengths.peer_rx ≤ central.link.max_rx
  receives_down =
      peripheral_receives central peripheral ends slot false c p link_down reached_down running_down shows_down keys_down (lasts c central_lasts) (lasts p peripheral_lasts) room

  abbrev heard_down : Facts
  heard_down = received peripheral slot octets room p

  abbrev header_down : DataHeader
  header_down = read_down.header

  -- what it has fixed then fits the central
  fixed_down : FixedFits central heard_down
  fixed_down =
      let role = peripheral.link.role in
      let lengths = p.control.table.lengths in
      let most = min-le_right lengths.own_tx lengths.peer_rx in
      let short = has_fixed.short in
      let receives = receives_down in
      let least = ends.central_max.from in
      let bits : heard_down.outgoing.fixed.llid < 4 =
      subst (λ (f : Facts). f.outgoing.fixed.llid < 4) (sym (read_down.facts room))
      (has_fixed_by role slot room header_down c.acknowledgement.last p (λ (pdu : Pdu). pdu.llid < 4) control_bits has_fixed.two_bits) in
      let fits : length heard_down.outgoing.fixed.body ≤ central.link.max_rx =
      subst (λ (f : Facts). length f.outgoing.fixed.body ≤ central.link.max_rx) (sym (read_down.facts room))
      (has_fixed_by role slot room header_down c.acknowledgement.last p (λ (pdu : Pdu). length pdu.body ≤ central.link.max_rx)
      (λ next. let control = control_short next in omega (arith, control, least)) (omega (arith, most, short, receives))) in
      let both = fixed_fits central (omega (arith, least)) heard_down.fixes_control (next_control heard_down) heard_down.outgoing.fixed bits fits in
      record { two_bits = both.0; short = both.1 }

  heard_hearing : heard_down ≡ facts_hearing Peripheral slot room header_down c.acknowledgement.last p
  heard_hearing = read_down.facts room ∙ ap (λ (role : Role). facts_hearing role slot room header_down c.acknowledgement.last p) ends.is_peripheral

  heard_as_down : heard_down ≡ taken slot header_down.md (acknowledged_by p.acknowledgement header_down) p
      (accepts room header_down c.acknowledgement.last (facts_before_taking Peripheral slot header_down p)) c.acknowledgement.last
  heard_as_down = heard_hearing

  none_gone_down : is_control (facts_sent slot heard_down).outgoing.fixed ≡ false
  none_gone_down =
      ap (λ (f : Facts). is_control (facts_sent slot f).outgoing.fixed) heard_as_down
      ∙ none_gone_then slot header_down.md (acknowledged_by p.acknowledgement header_down) p
      (accepts room header_down c.acknowledgement.last (facts_before_taking Peripheral slot header_down p)) c.acknowledgement.last shows_down.peripheral_rests.none_gone

  ended_down : is_some (facts_hearing Peripheral slot room header_down c.acknowledgement.last p).leaving.ended_by_peer ≡ true
  ended_down = ap (λ (f : Facts). is_some f.leaving.ended_by_peer) (sym heard_hearing) ∙ ended

  -- ---- its last PDU is acknowledged, and its fixed one leaves its queue, or neither is so

  abbrev acks_down : Bool
  acks_down = acknowledged_by p.acknowledgement header_down

  abbrev seen_down : Facts
  seen_down = acknowledged_if acks_down (heard_in_slot slot header_down.md p)

  abbrev acks_it : Bool
  acks_it = acks_down && is_control p.acknowledgement.last

  abbrev goes : Bool
  goes = answers_with_control Peripheral seen_down

  abbrev earlier : Facts
  earlier = control_gone_if goes slot seen_down

  none_requested : (phased_of p).request ≡ None
  none_requested = ap (λ (x : Phased). x.request) (sym shows_down.peripheral_part) ∙ requests_none central peripheral ends link_down reached_down

  acked_kept : (b : Bool) → (acked_if b (phased_of p)).kept ≡ (phased_of p).kept
  acked_kept true = ap (λ (x : Phased). x.kept) (acked_alone (phased_of p) none_requested)
  acked_kept false = refl

  gone_kept : (b : Bool) (x : Phased) → (gone_if b slot x).kept ≡ x.kept
  gone_kept true x = by (is_none x.control.ends)
    where
      by : (b : Bool) → (if b then with_step (control_sends slot (is_quiet_now x)) x else x).kept ≡ x.kept
      by true = refl
      by false = refl
  gone_kept false x = refl

  kept_down : is_quiet_now (phased_of earlier) ≡ true → (phased_of earlier).kept ≡ None
  kept_down quiet =
      ap (λ (x : Phased). x.kept) (gone_phased goes slot seen_down) ∙ gone_kept goes (phased_of seen_down)
      ∙ ap (λ (x : Phased). x.kept) (acked_phased acks_it (keyed_of p)) ∙ acked_kept acks_it
      ∙ ap (λ (x : Phased). x.kept) (sym shows_down.peripheral_part) ∙ peripheral_keeps_none central peripheral ends link_down reached_down running_down

  -- its session is that of before
  abbrev own : Keys
  own = (keys_at central peripheral link_down reached_down).peripheral

  alone_end : (b : Bool) → (keys_acked_if b (phased_of p) own).end ≡ own.end
  alone_end false = refl
  alone_end true = by (is_none (phased_of p).control.ends)
    where
      by : (b : Bool) → (if b then keyed_moved SeesAcknowledged (keyed_with (phased_of p) own) else keyed_with (phased_of p) own).end ≡ own.end
      by true = ap (λ (asks : Bool). end_changed (if asks then Moves AskTransition else Stays) own.material own.end) (asks_none (phased_of p) none_requested)
      by false = refl

  earlier_end : earlier.encryption.end ≡ own.end
  earlier_end =
      ap (λ (e : Encryption). e.end) (gone_same goes slot seen_down).encryption
      ∙ sym (acked_has slot header_down.md acks_down (phased_of p) own p refl keys_down.peripheral_keys).session ∙ alone_end acks_it

  -- where it has nothing left, what it has fixed is empty
  fixed_empty : HasNothing (phased_of p) → is_empty (pdu_fixed (facts_hearing Peripheral slot room header_down c.acknowledgement.last p)) ≡ true
  fixed_empty none =
      let fixes : p.fixes_control ≡ false = has_fixed.control ∙ ap (λ (o : Option Ctrl). is_some o) (none_next p none) in
      ap is_empty (fixed_none Peripheral slot room header_down c.acknowledgement.last p fixes refl)
      ∙ empty_else p.outgoing.fixed has_fixed.two_bits shows_down.peripheral_rests.none_gone (no_data_by (is_data p.outgoing.fixed) refl)
    where
      no_data_by : (b : Bool) → is_data p.outgoing.fixed ≡ b → b ≡ false
      no_data_by true is =
          absurd (let goes_now = (has_fixed.data_first is).1 in
          let loud = ap (λ (b : Bool). b && not (is_disconnecting p.control.table.closing)) none.loud in
          let no = sym goes_now ∙ loud in cc)
      no_data_by false is = refl

  next_fixed : OpensFixed (facts_hearing Peripheral slot room header_down c.acknowledgement.last p) c
  next_fixed all =
      by
      (opens_up central peripheral ends link_down reached_down running_down
      (settled_then peripheral central slot room header_down p c Peripheral link_down.joint.down link_down.joint.up meets_down kept_down ended_down all))
    where
      by : CanOpen own.end (keys_at central peripheral link_down reached_down).central.end ⊎ HasNothing link_down.joint.peripheral
          → CanOpen (facts_hearing Peripheral slot room header_down c.acknowledgement.last p).encryption.end c.encryption.end
          ⊎ (is_empty (pdu_fixed (facts_hearing Peripheral slot room header_down c.acknowledgement.last p)) ≡ true)
      by (inl can) =
          inl (can_heard peripheral central slot room header_down p c Peripheral link_down.joint.down link_down.joint.up meets_down kept_down ended_down
          (subst (λ (e : EncEnd). CanOpen e c.encryption.end) (sym earlier_end) (subst (CanOpen own.end) keys_down.central_keys.session can)))
      by (inr none) = inr (fixed_empty (subst HasNothing shows_down.peripheral_part none))

  parts : AreToPart peripheral central heard_down c
  parts =
      subst (λ (f : Facts). AreToPart peripheral central f c) (sym heard_hearing)
      (to_part peripheral central slot room header_down p c Peripheral link_down.joint.down link_down.joint.up meets_down kept_down ended_down)

  opens_fixed : OpensFixed heard_down c
  opens_fixed = subst (λ (f : Facts). OpensFixed f c) (sym heard_hearing) next_fixed

  replies_now : replies_of peripheral p slot octets room ≡ true
  replies_now =
      replies_as peripheral p slot octets room (good_not_forged peripheral p octets read_down.good)
      ∙ (λ i. replies_by (ends.is_peripheral i) (not (is_none (parts.goes_on i)) || parts.stays i) (good_pdu peripheral p octets))
      ∙ ap (λ (b : Bool). b && true) read_down.good

  answered_is : answered peripheral slot octets room p ≡ facts_sent slot heard_down
  answered_is = ap (λ (b : Bool). sent_if b peripheral slot heard_down) replies_now

  pub took_it : ArePartingFrom peripheral central (answered peripheral slot octets room p) c
  took_it =
      subst (λ (f : Facts). ArePartingFrom peripheral central f c) (sym answered_is)
      (sent_parting peripheral central heard_down c slot parts opens_fixed fixed_down none_gone_down)

-- what it holds of its peer does not change as it answers
pub peripheral_took : (whole : IsHeardWhole) (central peripheral : Setup) (ends : AreEnds central peripheral) (slot : ℕ) (c p : Facts) (channel : ℕ) (octets : List ℕ)
    (room : Bool) → HaveBegun central peripheral slot true true c p → is_lasting c ≡ true → is_lasting p ≡ true → IsPacketOf central slot c channel octets
    → channel ≡ p.event.channel → is_mixed peripheral p octets c.acknowledgement.last ≡ false
    → is_some (answered peripheral slot octets room p).leaving.ended_by_peer ≡ true → ArePartingFrom peripheral central (answered peripheral slot octets room p) c
peripheral_took whole central peripheral ends slot c p channel octets room begun central_lasts peripheral_lasts packet same pure ended =
    took_it whole central peripheral ends slot c p channel octets room begun central_lasts peripheral_lasts packet same pure
    (ap (λ (o : Option ErrCode). is_some o)
    (sym (sent_by_peer (replies_of peripheral p slot octets room) peripheral slot (received peripheral slot octets room p))) ∙ ended)
