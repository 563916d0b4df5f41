-- In the journal of a run of two stations each packet is what its side is to send next by the lines before it, and
-- before each turn neither side is to send anything more.
use Rattle.std.proofs.Common.{◌≡◌, ◌≢◌, ◌⊎◌, inl, inr, ℕ, ◌==◌, ◌&&◌, ◌||◌, Bool, true, false, Option, Some, None, List, [], ◌∷◌, ◌++◌, cond, refl, sym, ap, subst, ◌∙◌, arith, if◌then◌else◌}
use Rattle.std.specs.Prelude.{is_some, nat_lt, take}
use Rattle.std.specs.Option.{option_and_then}
use Rattle.ble_base.specs.declared.roles.Side.{Side}
use Rattle.ble_base.specs.declared.roles.Side.TheVariants.{A, B}
use Rattle.ble_base.specs.declared.verdicts.Verdict.TheVariants.{Missed}
use Rattle.journal.specs.declared.entries.Entry.TheVariants.{Turn}
use Rattle.radio_replay.specs.Damage.{damaged_packet}
use Rattle.radio_replay.specs.declared.fates.Fate.{Fate}
use Rattle.journal_wants.specs.controller_model.declared.doing.Doing.{Doing}
use Rattle.journal_wants.specs.controller_model.declared.doing.Doing.TheVariants.{Advertises, AwaitsRequest, AwaitsResponse, CentralListens, CentralSends, Connects, Initiates, PeripheralListens, PeripheralSends, Requests, Responds, Rests, Scans}
use Rattle.journal_wants.specs.controller_model.Entering.{HasEntered, IsInEvent}
use Rattle.journal_wants.specs.controller_model.Facts.{Facts, Idle, Listens, Sends}
use Rattle.journal_wants.specs.controller_model.Packets.{advertisement_sent, channel_listened, connect_sent, listens_on, request_sent, response_sent, use_for, use_of, verdict_advertising, verdict_doing, verdict_of, verdict_of_link}
use Rattle.journal_wants.specs.controller_model.open_links.OpenLinks.{OpenLink, facts_in, link_after, link_at}
use Rattle.journal_wants.specs.journal_acks.Carried.{channel_entered}
use Rattle.journal_wants.specs.journal_controls.journal_ends.Asked.{Words}
use Rattle.journal_wants.specs.journal_data.Held.{links_open}
use Rattle.journal_wants.specs.journal_data.HostLines.{link_under}
use Rattle.journal_wants.specs.journal_sending.journal_fixing.OnLines.{kept_or}
use Rattle.journal_wants.specs.run_model.Due.{Each, IsPacketDue, packet_in}
use Rattle.journal_wants.specs.run_model.Feeding.{AreDistinct}
use Rattle.journal_wants.specs.run_model.History.{Event, Hearing, Transmitted, TurnBegan, fates_used, packet_received, past_of, turns_begun}
use Rattle.journal_wants.specs.run_model.Journal.{journal_of, mark_of, side_of}
use Rattle.journal_wants.specs.run_model.LinkEnds.{HaveAddresses}
use Rattle.journal_wants.specs.run_model.Links.{is_advertising, links_of}
use Rattle.journal_wants.specs.run_model.Run.{Given, GoesOn, Stop, Stops, facts_at, fate_at, hearing_at, history_of, reaches, run_of, setup_at, use_at, verdict_where}
use Rattle.journal_wants.specs.Station.{Setups, station_deciding}
use Rattle.journal_wants.proofs.HostSet.{IsSetAs}
use Rattle.journal_wants.proofs.RunStations.{doing_begun}
use Rattle.journal_wants.proofs.controller_model.Exchanges.{always_in_event}
use Rattle.journal_wants.proofs.journal_acks.Counting.{AreKnown, one_begun}
use Rattle.journal_wants.proofs.journal_acks.EntryLines.{channel_read}
use Rattle.journal_wants.proofs.journal_acks.EntryNotes.{channel_if}
use Rattle.journal_wants.proofs.journal_acks.Exchanging.{number_at}
use Rattle.journal_wants.proofs.journal_acks.Seen.{IsSeen, seen_last, seen_packet, seen_stop, seen_turn}
use Rattle.journal_wants.proofs.journal_acks.TwoStations.{IsOfTwo, hearing_of, one_hearing, other_is, other_of, own_differs, side_other}
use Rattle.journal_wants.proofs.journal_acks.run_laws.ByCalls.{first_hears}
use Rattle.journal_wants.proofs.journal_acks.run_laws.DistinctAccess.{AreApart}
use Rattle.journal_wants.proofs.journal_acks.run_laws.Hearings.{sends_deaf}
use Rattle.journal_wants.proofs.journal_acks.run_laws.TurnPlaces.{Within, stands_first}
use Rattle.journal_wants.proofs.journal_acks.run_laws.TurnSteps.{IsListening}
use Rattle.journal_wants.proofs.journal_data.EachLine.{lines_at, numbers_at}
use Rattle.journal_wants.proofs.journal_data.HeldLinks.{under_is}
use Rattle.journal_wants.proofs.journal_data.KeptData.{other_in}
use Rattle.journal_wants.proofs.journal_data.Openness.{is_open}
use Rattle.journal_wants.proofs.journal_leaving.OnlyOpen.{turn_of_line}
use Rattle.journal_wants.proofs.journal_packets.AccessOrder.{AreNth}
use Rattle.journal_wants.proofs.journal_packets.SoFar.{IsBelongingSoFar}
use Rattle.journal_wants.proofs.journal_sending.AtRest.{by_side}
use Rattle.journal_wants.proofs.run_model.EntryEvents.{is_aired, is_of_event}
use Rattle.journal_wants.proofs.run_model.Journals.{each_front}
use Rattle.journal_wants.proofs.run_model.Places.{each_at}
use Rattle.journal_wants.proofs.run_model.Stations.{among, is_in, not_before}
use Rattle.journal_wants.proofs.run_model.Walk.{AtPackets, IsKept, NoTurn}
use Rattle.journal_moves.specs.Doing.{after_sending, doing_kept, doing_on}
use Rattle.journal_moves.specs.Moves.{AllAwaitedAreHeard, AllHeardAreListenedFor, AllOwedAreSent, AllPacketsAreOwed, IsAwaited, IsListenedFor, IsOwed, IsPacketOf, NothingIsOwed, channel_listening, channel_under, link_carrying, link_listening, phase_listening, phase_sending, sends_before}
use Rattle.journal_moves.proofs.DoingPhases.{IsDoing, IsPhase, doing_at}
use Rattle.journal_moves.proofs.KeptDoings.{saying_kept}
use Rattle.journal_moves.proofs.OwedPackets.{packet_of}
use Rattle.journal_moves.proofs.Phases.{phase_of}
use Rattle.journal_moves.proofs.Ready.{sends_some, silent_rests}
use Rattle.journal_anchors.proofs.RunPlaces.{IsToSend}
use Rattle.journal_moves.proofs.SaidDoings.{AreSaying, HasForged, HasHeard, HasSent, IsFirstKnown, IsInPhase, IsKnown, Waits, said_or, sender_said}
use Rattle.journal_moves.proofs.SaidLines.{begun_at, said_at}
use Rattle.journal.specs.declared.entries.Mark.TheVariants.{Pass as Passed}
use Rattle.adv_pdu.specs.declared.pdu.ConnectFields.{ConnectFields}
use Rattle.air_frame.specs.Packet.{access_octets}
use Rattle.journal_wants.specs.controller_model.link_model.Step.{PacketSent}
use Rattle.journal_wants.specs.journal_packets.Belonging.{link_of_packet}
use Rattle.journal_wants.specs.journal_packets.Senders.{IsOfSendersLink}
use Rattle.journal_wants.proofs.journal_acks.run_laws.OwnLinks.{sent_begins}
use Rattle.journal_wants.proofs.run_model.LinkEnds.{wanted_is}
use Rattle.journal_moves.proofs.HeardPackets.{begins_so, channel_same, heard_where, last_channel, link_heard_not, listening_is, not_missed, not_missed_advertising, not_missed_end, pdu_heard_not, sender_deaf, sent_later}

-- ---- the order of two packets in one phase

no_less : (n : ℕ) → nat_lt n n ≡ false
no_less n = grind arith

and_false : (b : Bool) → (b && false) ≡ false
and_false true = refl
and_false false = refl

-- B does not come before A
later_by : (phases : ℕ) (one two : Option ℕ) → IsPhase phases one → IsPhase phases two
    → (sends_before B A one two ≡ false) ⊎ (two ≡ None)
later_by phases None two is is_too = inl refl
later_by phases (Some one) None is is_too = inr refl
later_by phases (Some one) (Some two) is is_too =
    let same : one ≡ two = is ∙ sym is_too in
    inl ((λ i. nat_lt (same i) two || ((one == two) && false)) ∙ ap (λ b. b || ((one == two) && false)) (no_less two)
    ∙ and_false (one == two))

sending_phase : (phases : ℕ) (doing : Doing) → IsPhase phases (phase_of doing) → IsPhase phases (phase_sending doing)
sending_phase phases (Advertises channel) is = is
sending_phase phases (Requests channel advertiser) is = is
sending_phase phases (Connects channel link) is = is
sending_phase phases (CentralSends handle) is = is
sending_phase phases (PeripheralSends handle) is = is
sending_phase phases (Responds channel) is = is
sending_phase phases (Scans channel) is = tt
sending_phase phases (Initiates channel) is = tt
sending_phase phases (PeripheralListens handle) is = tt
sending_phase phases (AwaitsRequest channel) is = tt
sending_phase phases (CentralListens handle) is = tt
sending_phase phases (AwaitsResponse channel) is = tt
sending_phase phases Rests is = tt

sent_none : (doing : Doing) → phase_sending (after_sending doing) ≡ None
sent_none (Advertises channel) = refl
sent_none (Requests channel advertiser) = refl
sent_none (CentralSends handle) = refl
sent_none other = refl

none_before : (one other : Side) (phase two : Option ℕ) → phase ≡ None → sends_before one other phase two ≡ false
none_before one other phase two is = ap (λ p. sends_before one other p two) is

-- ---- who sends

some_phase : (phases : ℕ) (sending : Option ℕ) → IsPhase phases sending → is_some sending ≡ true
    → sending ≡ Some phases
some_phase phases None is some = absurd (let h : false ≡ true = some in absurd cc)
some_phase phases (Some phase) is some = ap Some is

-- the station of two whose packet comes while the other one is still to come
no_more : (xs : List ℕ) (x : ℕ) (ys : List ℕ) (X : Type 0) → [] ≡ xs ++ x ∷ ys → X
no_more [] x ys X is = absurd cc
no_more (y ∷ xs) x ys X is = absurd cc

first_one : (station : ℕ) (done left : List ℕ) → 0 ∷ 1 ∷ [] ≡ done ++ station ∷ left
    → is_in (other_of station) done ≡ false → station ≡ 0
first_one station [] left are out = let same : 0 ≡ station = cc in sym same
first_one station (first ∷ []) left are out =
    let zeroth : 0 ≡ first = cc in
    let next : 1 ≡ station = cc in
    absurd (
    let h : true ≡ false = (λ i. (other_of (next i) == zeroth i) || false) ∙ out in
    absurd cc
    )
first_one station (first ∷ second ∷ done) left are out =
    let rest : [] ≡ done ++ station ∷ left = cc in no_more done station left _ rest

-- ---- at the packet of a station

-- a place at which a station is to send, with what all lines say there
pub record IsSaidToSend (words : Words) (setups : Setups) (given : Given) (history : List Event) (station channel : ℕ)
    (octets : List ℕ) : Type 0 where
  pub phases : ℕ
  pub done : List ℕ
  pub left : List ℕ
  pub stations_are : given.stations ≡ done ++ station ∷ left
  pub is_wanted : use_at given station history ≡ Sends channel octets
  pub saying : AreSaying words setups given (AtPackets phases done (station ∷ left)) history

module _ (words : Words) (setups : Setups) (nth : AreNth) (apart : AreApart) (given : Given) (are_two : IsOfTwo given)
    (distinct : AreDistinct given.stations) (six : HaveAddresses given)
    (history : List Event) (station channel : ℕ) (octets : List ℕ)
    (place : IsSaidToSend words setups given history station channel octets)
    (known : Each (IsKnown words setups given) [] history) (first : IsFirstKnown words setups given history)
    (set : IsSetAs (station_deciding words setups (side_of station) (journal_of history))
    (facts_at given station history))
    (to_send : IsToSend given history station channel octets) where
  abbrev front_side : Side
  front_side = side_of station

  in_it : is_in station given.stations ≡ true
  in_it = among given.stations place.done place.left station place.stations_are

  not_yet : is_in station place.done ≡ false
  not_yet = not_before given.stations place.done place.left station distinct place.stations_are

  does : (other : ℕ) → is_in other given.stations ≡ true
      → IsDoing (setup_at given other) (Within place.phases) (turns_begun history) (facts_at given other history)
  does other in_other =
      doing_at given (AtPackets place.phases place.done
      (station ∷ place.left)) history other place.saying.hearing.stand in_other

  said_is : (other : ℕ) → is_in other given.stations ≡ true
      → doing_on words setups (side_of other) (journal_of history) ≡ said_or words setups given other history
  said_is other in_other = ap (kept_or (said_at words setups other history)) (first other in_other)

  abbrev doing : Doing
  doing = (facts_at given station history).turn.doing

  wanted : use_for (does station in_it).wants.base doing ≡ Sends channel octets
  unfolding use_of
  wanted = sym (does station in_it).wants.wanted ∙ place.is_wanted

  own_is : doing_on words setups front_side (journal_of history) ≡ doing
  own_is =
      said_is station in_it
      ∙ sender_said (is_in station place.done) (is_in (other_of station) place.done) not_yet
      (sends_deaf given [] history station channel octets (place.saying.hearing.hears station in_it) place.is_wanted
      (packet_received station history) refl)
      (sends_some doing (does station in_it).wants.base channel octets wanted) (place.saying.says known station in_it)

  -- ---- the other side

  abbrev far : ℕ
  far = other_of station

  in_far : is_in far given.stations ≡ true
  in_far = other_in given are_two station in_it

  abbrev IsLater : Doing → Type 0
  IsLater one = sends_before (side_of far) front_side (phase_sending one) (phase_sending doing) ≡ false

  far_out : is_in (other_of far) place.done ≡ false
  far_out =
      subst (λ n. is_in n place.done ≡ false)
      (other_is given are_two far station in_far in_it (own_differs station)) not_yet

  -- it is still to come, so it is B
  both_send : is_in far place.done ≡ false → (one : Doing) → one ≡ (facts_at given far history).turn.doing
      → IsLater one
  both_send out one same =
      let zeroth = first_one station place.done place.left (sym are_two ∙ place.stations_are) out in
      let own = sending_phase place.phases doing (does station in_it).in_phase in
      let other = subst (λ d. IsPhase place.phases (phase_sending d)) (sym same)
      (sending_phase place.phases (facts_at given far history).turn.doing (does far in_far).in_phase) in
      let does_send = sends_some doing (does station in_it).wants.base channel octets wanted in
      ap (λ n. sends_before (side_of (other_of n)) (side_of n) (phase_sending one) (phase_sending doing)) zeroth
      ∙ by (later_by place.phases (phase_sending one) (phase_sending doing) other own) does_send
    where
      by : (sends_before B A (phase_sending one) (phase_sending doing) ≡ false) ⊎ (phase_sending doing ≡ None)
          → is_some (phase_sending doing) ≡ true
          → sends_before B A (phase_sending one) (phase_sending doing) ≡ false
      by (inl later) sends = later
      by (inr none) sends =
          absurd (let h : true ≡ false = sym sends ∙ ap (λ (p : Option ℕ). is_some p) none in absurd cc)

  quiet : (one : Doing) → phase_sending one ≡ None → IsLater one
  quiet one none = none_before (side_of far) front_side (phase_sending one) (phase_sending doing) none

  far_use : use_of (facts_at given far history)
      ≡ use_for (does far in_far).wants.base (facts_at given far history).turn.doing
  unfolding use_of
  far_use = (does far in_far).wants.wanted

  far_later : IsInPhase words setups given place.phases (is_in far place.done)
      (is_in (other_of far) place.done) far history → IsLater (said_or words setups given far history)
  far_later (Waits none silent (inl same)) = by (is_in far place.done) refl
    where
      by : (own : Bool) → is_in far place.done ≡ own → IsLater (said_or words setups given far history)
      by true done =
          quiet (said_or words setups given far history)
          (ap phase_sending same
          ∙ silent_rests (facts_at given far history).turn.doing (does far in_far).wants.base
          (does far in_far).wants.ready
          (ap packet_in (sym far_use) ∙ silent done))
      by false out = both_send out (said_or words setups given far history) same
  far_later (Waits none silent (inr stale)) = quiet (said_or words setups given far history) stale.silent
  far_later (HasSent none sent sends said) =
      quiet (said_or words setups given far history)
      (ap (λ kept. phase_sending (kept_or kept (begun_at given far history))) said
      ∙ sent_none (facts_at given far history).turn.doing)
  far_later (HasHeard got_octets got is_far good said) =
      absurd (let h : true ≡ false = sym is_far ∙ far_out in absurd cc)
  far_later (HasForged got_octets got is_far silent rests matches) =
      absurd (let h : true ≡ false = sym is_far ∙ far_out in absurd cc)

  pub is_owed : IsOwed words setups (journal_of history) front_side channel octets
  is_owed = record {
    is_packet = subst (IsPacketOf (station_deciding words setups front_side (journal_of history))
        (journal_of history) front_side channel octets) (sym own_is)
        (packet_of nth apart given are_two six history station channel octets to_send
        (station_deciding words setups front_side (journal_of history)) set doing refl);
    in_order =
        (λ i. sends_before (sym (side_other station) i) front_side
        (phase_sending (doing_on words setups (sym (side_other station) i) (journal_of history)))
        (phase_sending (own_is i)))
        ∙ ap (λ one. sends_before (side_of far) front_side (phase_sending one) (phase_sending doing))
        (said_is far in_far)
        ∙ far_later (place.saying.says known far in_far);
  }

  -- ---- the other side hears it

  abbrev far_facts : Facts
  far_facts = facts_at given far history

  abbrev far_doing : Doing
  far_doing = far_facts.turn.doing

  own_phase : phase_sending doing ≡ Some place.phases
  own_phase =
      some_phase place.phases (phase_sending doing) (sending_phase place.phases doing (does station in_it).in_phase)
      (sends_some doing (does station in_it).wants.base channel octets wanted)

  -- what the lines say of the link under a handle
  pub far_under : (handle : ℕ) (found : Option OpenLink) → link_at handle far_facts.links ≡ found
      → link_under handle (links_open (side_of far) (journal_of history))
      ≡ cond (is_some found) (Some (number_at far handle history)) None
  far_under handle found at =
      under_is (setup_at given far).links (lines_at far history).links (numbers_at far history)
      (is_open far_facts.links) (to_send.lines.are.well far in_far).booked.links handle
      ∙ ap (λ (place : Option OpenLink). cond (is_some place) (Some (number_at far handle history)) None) at

  -- and of its channel
  far_channel : AreKnown given (IsBelongingSoFar given) → (handle : ℕ) (link : OpenLink)
      → link_at handle far_facts.links ≡ Some link
      → channel_under (side_of far) (journal_of history) handle
      ≡ channel_if (facts_in link).control.track.entered (facts_in link).event.channel
  far_channel lines_known handle link at =
      let here = AtPackets to_send.phases to_send.done (station ∷ to_send.left) in
      ap (option_and_then (λ one. channel_entered one (side_of far) (journal_of history)))
      (far_under handle (Some link) at)
      ∙ channel_read (journal_of history) far (number_at far handle history) link
      (lines_known.lines here history to_send.lines.counted.known far handle link in_far at)

  module _ (lines_known : AreKnown given (IsBelongingSoFar given))
      (listens : use_at given far history ≡ Listens channel) where
    far_wanted : far_facts.wanted ≡ Listens channel
    unfolding use_of
    far_wanted = listens

    far_uses : (one : Doing) → far_doing ≡ one → use_for (does far in_far).wants.base one ≡ Listens channel
    far_uses one is = ap (use_for (does far in_far).wants.base) (sym is) ∙ sym (does far in_far).wants.wanted
        ∙ far_wanted

    far_said : IsInPhase words setups given place.phases (is_in far place.done)
        (is_in (other_of far) place.done) far history → said_or words setups given far history ≡ far_doing
    far_said (Waits none silent (inl same)) = same
    far_said (Waits none silent (inr stale)) =
        absurd (let h : Idle ≡ Listens channel = far_uses Rests stale.rests in absurd cc)
    far_said (HasSent none sent sends said) =
        absurd (let h : true ≡ false = sym sends
        ∙ ap (λ (p : Option ℕ). is_some p)
        (sender_deaf far_doing (does far in_far).wants.base channel (far_uses far_doing refl)) in absurd cc)
    far_said (HasHeard got_octets got is_far good said) =
        absurd (let h : true ≡ false = sym is_far ∙ far_out in absurd cc)
    far_said (HasForged got_octets got is_far silent rests matches) =
        absurd (let h : true ≡ false = sym is_far ∙ far_out in absurd cc)

    far_is : doing_on words setups (side_of far) (journal_of history) ≡ far_doing
    far_is = said_is far in_far ∙ far_said (place.saying.says known far in_far)

    on_link : (handle : ℕ) (found : Option OpenLink) → link_at handle far_facts.links ≡ found
        → far_facts.wanted ≡ listens_on found → HasEntered found
        → channel_under (side_of far) (journal_of history) handle ≡ Some channel
    on_link handle None at uses entered = absurd (let h : Idle ≡ Listens channel = sym uses ∙ far_wanted in absurd cc)
    on_link handle (Some link) at uses entered =
        let one : Listens (facts_in link).event.channel ≡ Listens channel = sym uses ∙ far_wanted in
        let same : (facts_in link).event.channel ≡ channel = cc in
        far_channel lines_known handle link at
        ∙ last_channel (facts_in link).control.track.entered (facts_in link).event.channel entered ∙ ap Some same

    on_channel_by : (one : Doing) → far_doing ≡ one
        → channel_listening (side_of far) (journal_of history) one ≡ Some channel
    on_channel_by (Scans due) is =
        let one : Listens due ≡ Listens channel = far_uses (Scans due) is in let same : due ≡ channel = cc in
        ap Some same
    on_channel_by (Initiates due) is =
        let one : Listens due ≡ Listens channel = far_uses (Initiates due) is in let same : due ≡ channel = cc in
        ap Some same
    on_channel_by (AwaitsRequest due) is =
        let one : Listens due ≡ Listens channel = far_uses (AwaitsRequest due) is in let same : due ≡ channel = cc in
        ap Some same
    on_channel_by (AwaitsResponse due) is =
        let one : Listens due ≡ Listens channel = far_uses (AwaitsResponse due) is in let same : due ≡ channel = cc in
        ap Some same
    on_channel_by (PeripheralListens handle) is =
        on_link handle (link_at handle far_facts.links) refl
        (subst (IsListening far_facts) is (does far in_far).phased.uses.in_turn.listens)
        (subst (λ one. IsInEvent one far_facts.links) is (always_in_event (setup_at given far) (past_of far history)))
    on_channel_by (CentralListens handle) is =
        on_link handle (link_at handle far_facts.links) refl
        (subst (IsListening far_facts) is (does far in_far).phased.uses.in_turn.listens)
        (subst (λ one. IsInEvent one far_facts.links) is (always_in_event (setup_at given far) (past_of far history)))
    on_channel_by Rests is = absurd (let h : Idle ≡ Listens channel = far_uses Rests is in absurd cc)
    on_channel_by (Advertises own) is =
        pdu_heard_not own channel (advertisement_sent (does far in_far).wants.base) _ (far_uses (Advertises own) is)
    on_channel_by (Responds own) is =
        pdu_heard_not own channel (response_sent (does far in_far).wants.base) _ (far_uses (Responds own) is)
    on_channel_by (Requests own advertiser) is =
        pdu_heard_not own channel (request_sent advertiser (does far in_far).wants.base) _
        (far_uses (Requests own advertiser) is)
    on_channel_by (Connects own link) is =
        pdu_heard_not own channel (connect_sent link) _ (far_uses (Connects own link) is)
    on_channel_by (CentralSends handle) is =
        link_heard_not (link_at handle (does far in_far).wants.base.links) channel _
        (far_uses (CentralSends handle) is)
    on_channel_by (PeripheralSends handle) is =
        link_heard_not (link_at handle (does far in_far).wants.base.links) channel _
        (far_uses (PeripheralSends handle) is)

    pub is_listened_for : IsListenedFor words setups (journal_of history) front_side channel
    is_listened_for = record {
      in_phase =
          (λ i. phase_listening (doing_on words setups (sym (side_other station) i) (journal_of history)))
          ∙ ap phase_listening far_is
          ∙ listening_is place.phases far_doing (does far in_far).wants.base channel (far_uses far_doing refl)
          (does far in_far).in_phase
          ∙ sym own_phase ∙ ap phase_sending (sym own_is);
      on_channel =
          (λ i. channel_listening (sym (side_other station) i) (journal_of history)
          (doing_on words setups (sym (side_other station) i) (journal_of history)))
          ∙ ap (channel_listening (side_of far) (journal_of history)) far_is ∙ on_channel_by far_doing refl;
    }

  -- ---- where the lines say that it is listened for, the other side listens

  pub judged : (heard : List ℕ) (one : Doing) → far_doing ≡ one
      → verdict_of far_facts heard ≡ verdict_doing far_facts.links one heard
  unfolding verdict_of
  judged heard one is = ap (λ (d : Doing). verdict_doing far_facts.links d heard) is

  module _ (lines_known : AreKnown given (IsBelongingSoFar given))
      (listened : IsListenedFor words setups (journal_of history) front_side channel) where
    said_listens : phase_listening (said_or words setups given far history) ≡ Some place.phases
    said_listens =
        ap phase_listening (sym (said_is far in_far))
        ∙ (λ i. phase_listening (doing_on words setups (side_other station i) (journal_of history)))
        ∙ listened.in_phase ∙ ap phase_sending own_is ∙ own_phase

    said_same : IsInPhase words setups given place.phases (is_in far place.done)
        (is_in (other_of far) place.done) far history → said_or words setups given far history ≡ far_doing
    said_same (Waits none silent (inl same)) = same
    said_same (Waits none silent (inr stale)) =
        absurd (let earlier = stale.earlier place.phases said_listens in omega (arith, earlier))
    said_same (HasSent none sent sends said) =
        sent_later place.phases far_doing _ (does far in_far).in_phase
        (sym (ap (λ kept. phase_listening (kept_or kept (begun_at given far history))) said) ∙ said_listens)
    said_same (HasHeard got_octets got is_far good said) =
        absurd (let h : true ≡ false = sym is_far ∙ far_out in absurd cc)
    said_same (HasForged got_octets got is_far silent rests matches) =
        absurd (let h : true ≡ false = sym is_far ∙ far_out in absurd cc)

    pub far_same : doing_on words setups (side_of far) (journal_of history) ≡ far_doing
    far_same = said_is far in_far ∙ said_same (place.saying.says known far in_far)

    pub on_channel_heard : channel_listening (side_of far) (journal_of history) far_doing ≡ Some channel
    on_channel_heard =
        ap (channel_listening (side_of far) (journal_of history)) (sym far_same)
        ∙ (λ i. channel_listening (side_other station i) (journal_of history)
        (doing_on words setups (side_other station i) (journal_of history)))
        ∙ listened.on_channel

    used_for : (one : Doing) → far_doing ≡ one → use_at given far history ≡ use_for (does far in_far).wants.base one
    used_for one is =
        sym (wanted_is given far history) ∙ (does far in_far).wants.wanted
        ∙ ap (use_for (does far in_far).wants.base) is

    pub event_channel : (handle : ℕ) (link : OpenLink) → link_at handle far_facts.links ≡ Some link
        → channel_under (side_of far) (journal_of history) handle ≡ Some channel
        → (facts_in link).event.channel ≡ channel
    event_channel handle link at on =
        channel_same (facts_in link).control.track.entered (facts_in link).event.channel channel
        (sym (far_channel lines_known handle link at) ∙ on)

    pub some_under : (handle : ℕ) (X : Type 0) → link_at handle far_facts.links ≡ None
        → channel_under (side_of far) (journal_of history) handle ≡ Some channel → X
    some_under handle X at on = absurd (
        let h : None ≡ Some channel =
        sym (ap (option_and_then (λ number. channel_entered number (side_of far) (journal_of history)))
        (far_under handle None at)) ∙ on in
        absurd cc
        )

    uses_link : (handle : ℕ) (found : Option OpenLink) → link_at handle far_facts.links ≡ found
        → use_at given far history ≡ listens_on found
        → channel_under (side_of far) (journal_of history) handle ≡ Some channel
        → use_at given far history ≡ Listens channel
    uses_link handle None at uses on = some_under handle _ at on
    uses_link handle (Some link) at uses on = uses ∙ ap Listens (event_channel handle link at on)

    uses_open : (due : ℕ) → use_at given far history ≡ Listens due → Some due ≡ Some channel
        → use_at given far history ≡ Listens channel
    uses_open due uses on = let same : due ≡ channel = cc in uses ∙ ap Listens same

    uses_by : (one : Doing) → far_doing ≡ one
        → channel_listening (side_of far) (journal_of history) one ≡ Some channel
        → use_at given far history ≡ Listens channel
    uses_by (Scans due) is on = uses_open due (used_for (Scans due) is) on
    uses_by (Initiates due) is on = uses_open due (used_for (Initiates due) is) on
    uses_by (AwaitsRequest due) is on = uses_open due (used_for (AwaitsRequest due) is) on
    uses_by (AwaitsResponse due) is on = uses_open due (used_for (AwaitsResponse due) is) on
    uses_by (PeripheralListens handle) is on =
        uses_link handle (link_at handle far_facts.links) refl
        (sym (wanted_is given far history)
        ∙ subst (IsListening far_facts) is (does far in_far).phased.uses.in_turn.listens) on
    uses_by (CentralListens handle) is on =
        uses_link handle (link_at handle far_facts.links) refl
        (sym (wanted_is given far history)
        ∙ subst (IsListening far_facts) is (does far in_far).phased.uses.in_turn.listens) on
    uses_by other is on = absurd (let h : None ≡ Some channel = on in absurd cc)

    pub far_listens : use_at given far history ≡ Listens channel
    far_listens = uses_by far_doing refl on_channel_heard

  -- ---- what passes, and is awaited, is heard

  module _ (lines_known : AreKnown given (IsBelongingSoFar given))
      (awaited : IsAwaited words setups (journal_of history) front_side channel octets) where
    abbrev carried : Option ℕ
    carried = link_carrying (journal_of history) front_side channel octets

    on_link_heard : link_listening (side_of far) (journal_of history) far_doing ≡ carried
    on_link_heard =
        ap (link_listening (side_of far) (journal_of history)) (sym (far_same lines_known awaited.listened))
        ∙ (λ i. link_listening (side_other station i) (journal_of history)
        (doing_on words setups (side_other station i) (journal_of history)))
        ∙ awaited.on_link

    sender : is_advertising channel ≡ false → IsOfSendersLink given history station channel octets
    sender off =
        lines_known.sends to_send.phases to_send.done to_send.left station history to_send.stations_are
        to_send.lines.counted.known channel octets to_send.is_wanted off

    abbrev carried_if : Bool → Option ℕ
    carried_if on = if on then None else link_of_packet (journal_of history) front_side octets

    of_sender : (off : is_advertising channel ≡ false) → carried ≡ Some (number_at station (sender off).handle history)
    of_sender off = ap carried_if off ∙ (sender off).belongs

    of_none : None ≡ carried → is_advertising channel ≡ true
    of_none none = by (is_advertising channel) refl
      where
        by : (on : Bool) → is_advertising channel ≡ on → is_advertising channel ≡ true
        by true is = is
        by false off =
            absurd (let h : None ≡ Some (number_at station (sender off).handle history) = none ∙ of_sender off in
            absurd cc)

    abbrev Hears : Type 0
    Hears = verdict_of far_facts octets ≢ Missed

    hears_open : (due : ℕ) → verdict_of far_facts octets ≡ verdict_advertising due octets → None ≡ carried → Hears
    hears_open due judges none =
        subst (λ v. v ≢ Missed) (sym judges)
        (not_missed_advertising due octets
        (begins_so (station_deciding words setups front_side (journal_of history)) (journal_of history) front_side
        channel octets (of_none none) doing
        (packet_of nth apart given are_two six history station channel octets to_send
        (station_deciding words setups front_side (journal_of history)) set doing refl)))

    hears_link : (handle : ℕ) (found : Option OpenLink) → link_at handle far_facts.links ≡ found
        → verdict_of far_facts octets ≡ verdict_of_link found octets
        → channel_under (side_of far) (journal_of history) handle ≡ Some channel
        → link_under handle (links_open (side_of far) (journal_of history)) ≡ carried → Hears
    hears_link handle None at judges on one = some_under lines_known awaited.listened handle _ at on
    hears_link handle (Some link) at judges on one =
        subst (λ v. v ≢ Missed) (sym judges) (by (is_advertising channel) refl)
      where
        number : Some (number_at far handle history) ≡ carried
        number = sym (far_under handle (Some link) at) ∙ one

        by : (advertising : Bool) → is_advertising channel ≡ advertising
            → verdict_of_link (Some link) octets ≢ Missed
        by true is =
            absurd (let h : Some (number_at far handle history) ≡ None = number ∙ ap carried_if is in absurd cc)
        by false off =
            let own = sender off in
            let here = AtPackets to_send.phases to_send.done (station ∷ to_send.left) in
            let both : Some (number_at station own.handle history) ≡ Some (number_at far handle history) =
            sym (of_sender off) ∙ sym number in
            let same : number_at station own.handle history ≡ number_at far handle history = cc in
            let begun = one_begun history (number_at station own.handle history) (number_at far handle history)
            station far (link_after (PacketSent own.slot) own.link) link same
            (lines_known.begun here history to_send.lines.counted.known station own.handle
            (link_after (PacketSent own.slot) own.link) in_it own.is_open)
            (lines_known.begun here history to_send.lines.counted.known far handle link in_far at) in
            not_missed_end link.setup (facts_in link) octets
            (ap (take 4) own.packet ∙ sent_begins own.link.setup (facts_in own.link)
            ∙ ap (λ (fields : ConnectFields). access_octets fields.access) begun.fields)

    hears_by : (one : Doing) → far_doing ≡ one
        → channel_listening (side_of far) (journal_of history) one ≡ Some channel
        → link_listening (side_of far) (journal_of history) one ≡ carried → Hears
    hears_by (Scans due) is on none = hears_open due (judged octets (Scans due) is) none
    hears_by (Initiates due) is on none = hears_open due (judged octets (Initiates due) is) none
    hears_by (AwaitsRequest due) is on none = hears_open due (judged octets (AwaitsRequest due) is) none
    hears_by (AwaitsResponse due) is on none = hears_open due (judged octets (AwaitsResponse due) is) none
    hears_by (PeripheralListens handle) is on one =
        hears_link handle (link_at handle far_facts.links) refl (judged octets (PeripheralListens handle) is) on one
    hears_by (CentralListens handle) is on one =
        hears_link handle (link_at handle far_facts.links) refl (judged octets (CentralListens handle) is) on one
    hears_by other is on one = absurd (let h : None ≡ Some channel = on in absurd cc)

    pub is_heard : (fate : Fate) → Passed ≡ mark_of fate
        → verdict_where (reaches fate channel (channel_listened (use_at given far history))) far_facts
        (damaged_packet fate octets) ≢ Missed
    is_heard fate passes =
        heard_where fate (use_at given far history) channel far_facts octets passes
        (far_listens lines_known awaited.listened)
        (hears_by far_doing refl (on_channel_heard lines_known awaited.listened) on_link_heard)

-- ---- in a run

module _ (words : Words) (setups : Setups) (nth : AreNth) (apart : AreApart) (given : Given) (are_two : IsOfTwo given)
    (distinct : AreDistinct given.stations) (six : HaveAddresses given)
    (known : Each (IsKnown words setups given) [] (history_of (run_of given))) where
  -- before each packet its side has set by the lines what its controller has
  abbrev pub IsSetBefore : Type 0
  IsSetBefore = (before rest : List Event) (station channel : ℕ) (octets : List ℕ) (hearings : List Hearing)
      → history_of (run_of given) ≡ before ++ Transmitted station channel octets hearings ∷ rest
      → IsSetAs (station_deciding words setups (side_of station) (journal_of before))
      (facts_at given station before) × IsToSend given before station channel octets

  keeps : IsKept given (AreSaying words setups given)
  keeps = saying_kept words setups given are_two distinct six

  sees : IsSeen given (AreSaying words setups given) (AreSaying words setups given NoTurn)
      (IsSaidToSend words setups given)
  sees = record {
    turn = λ history is. is;
    packet = λ phases done left station channel octets history are wanted is.
        record { phases = phases; done = done; left = left; stations_are = are; is_wanted = wanted; saying = is };
  }

  says_first : AreSaying words setups given NoTurn []
  unfolding doing_kept journal_of doing_begun
  says_first = record {
    hearing = record { stand = stands_first given; hears = λ station in_it. first_hears given station };
    says = λ all station in_it. refl;
  }

  pub place_at : (before rest : List Event) (station channel : ℕ) (octets : List ℕ) (hearings : List Hearing)
      → history_of (run_of given) ≡ before ++ Transmitted station channel octets hearings ∷ rest
      → IsSaidToSend words setups given before station channel octets
  place_at =
      seen_packet given (AreSaying words setups given) keeps (AreSaying words setups given NoTurn)
      (IsSaidToSend words setups given) sees says_first

  pub known_before : (before rest : List Event) → history_of (run_of given) ≡ before ++ rest
      → Each (IsKnown words setups given) [] before
  known_before before rest at =
      each_front (IsKnown words setups given) [] before rest (subst (Each (IsKnown words setups given) []) at known)

  pub owed_at : (before rest : List Event) (station channel : ℕ) (octets : List ℕ) (hearing : Hearing)
      (others : List Hearing)
      → history_of (run_of given) ≡ before ++ Transmitted station channel octets (hearing ∷ others) ∷ rest
      → IsSetAs (station_deciding words setups (side_of station) (journal_of before)) (facts_at given station before)
      → IsToSend given before station channel octets
      → IsOwed words setups (journal_of before) (side_of station) channel octets
  owed_at before rest station channel octets hearing others at set to_send =
      let event = Transmitted station channel octets (hearing ∷ others) in
      let place = place_at before rest station channel octets (hearing ∷ others) at in
      is_owed words setups nth apart given are_two distinct six before station channel octets place
      (known_before before (event ∷ rest) at)
      (each_at (IsKnown words setups given) (history_of (run_of given)) before rest event known at).first set to_send

  pub owed_at_stop : (history : List Event) (stop : Stop) → run_of given ≡ Stops history stop
      → IsFirstKnown words setups given history
      → IsSetAs (station_deciding words setups (side_of stop.sender) (journal_of history))
      (facts_at given stop.sender history)
      → IsToSend given history stop.sender stop.channel stop.sent
      → IsOwed words setups (journal_of history) (side_of stop.sender) stop.channel stop.sent
  owed_at_stop history stop stops first set to_send =
      let place = seen_stop given (AreSaying words setups given) keeps (AreSaying words setups given NoTurn)
      (IsSaidToSend words setups given) sees says_first
      history stop stops in
      is_owed words setups nth apart given are_two distinct six history stop.sender stop.channel stop.sent place
      (subst (Each (IsKnown words setups given) []) (ap history_of stops) known) first set to_send

  -- what is not missed at the other station was listened for there
  listened_at : (before rest : List Event) (station channel : ℕ) (octets : List ℕ) (hearing : Hearing)
      (others : List Hearing)
      → history_of (run_of given) ≡ before ++ Transmitted station channel octets (hearing ∷ others) ∷ rest
      → IsSetAs (station_deciding words setups (side_of station) (journal_of before)) (facts_at given station before)
      → IsToSend given before station channel octets → AreKnown given (IsBelongingSoFar given)
      → use_at given (other_of station) before ≡ Listens channel
      → IsListenedFor words setups (journal_of before) (side_of station) channel
  listened_at before rest station channel octets hearing others at set to_send lines_known listens =
      let event = Transmitted station channel octets (hearing ∷ others) in
      let place = place_at before rest station channel octets (hearing ∷ others) at in
      is_listened_for words setups nth apart given are_two distinct six before station channel octets place
      (known_before before (event ∷ rest) at)
      (each_at (IsKnown words setups given)
      (history_of (run_of given)) before rest event known at).first set to_send lines_known listens

  -- between turns
  nothing_owed : (history : List Event) → AreSaying words setups given NoTurn history
      → Each (IsKnown words setups given) [] history
      → IsFirstKnown words setups given history → NothingIsOwed words setups (journal_of history)
  nothing_owed history is all first =
      by_side given are_two
      (λ side. is_some (phase_sending (doing_on words setups side (journal_of history))) ≡ false)
      (λ station in_it.
      ap (λ doing. is_some (phase_sending doing))
      (ap (kept_or (said_at words setups station history)) (first station in_it))
      ∙ ap (λ (p : Option ℕ). is_some p) (is.says all station in_it))

  pub owed_are_sent : AllOwedAreSent words setups (journal_of (history_of (run_of given)))
  owed_are_sent = λ front rest slot a_on b_on is.
      let one = is_of_event (history_of (run_of given)) front rest (Turn slot a_on b_on) is in
      let turn = turn_of_line (links_of one.before) one.event slot a_on b_on one.entry_is in
      let at = one.is_at ∙ ap (λ event. one.before ++ event ∷ one.after) turn.is in
      let place = seen_turn given (AreSaying words setups given) keeps (AreSaying words setups given NoTurn)
      (IsSaidToSend words setups given) sees says_first
      one.before one.after turn.slot turn.radios at in
      subst (NothingIsOwed words setups) (sym one.front_is)
      (nothing_owed one.before place (known_before one.before (one.event ∷ one.after) one.is_at)
      (each_at (IsKnown words setups given) (history_of (run_of given)) one.before one.after
      (TurnBegan turn.slot turn.radios) known at))

  pub nothing_owed_at_end : (history : List Event) → run_of given ≡ GoesOn history
      → IsFirstKnown words setups given history
      → NothingIsOwed words setups (journal_of history)
  nothing_owed_at_end history goes first =
      nothing_owed history
      (seen_last given (AreSaying words setups given) keeps (AreSaying words setups given NoTurn)
      (IsSaidToSend words setups given) sees says_first history goes)
      (subst (Each (IsKnown words setups given) []) (ap history_of goes) known) first

  -- what passes, and is awaited at the other station, is heard there
  heard_at : (before rest : List Event) (station channel : ℕ) (octets : List ℕ) (hearing : Hearing)
      (others : List Hearing)
      → history_of (run_of given) ≡ before ++ Transmitted station channel octets (hearing ∷ others) ∷ rest
      → IsSetAs (station_deciding words setups (side_of station) (journal_of before)) (facts_at given station before)
      → IsToSend given before station channel octets → AreKnown given (IsBelongingSoFar given)
      → IsAwaited words setups (journal_of before) (side_of station) channel octets
      → (fate : Fate) → Passed ≡ mark_of fate
      → (hearing_at given fate channel octets before (other_of station)).verdict ≢ Missed
  heard_at before rest station channel octets hearing others at set to_send lines_known awaited =
      let event = Transmitted station channel octets (hearing ∷ others) in
      let place = place_at before rest station channel octets (hearing ∷ others) at in
      is_heard words setups nth apart given are_two distinct six before station channel octets place
      (known_before before (event ∷ rest) at)
      (each_at (IsKnown words setups given)
      (history_of (run_of given)) before rest event known at).first set to_send lines_known awaited

  -- the one hearing of a packet
  pub one_heard : (before : List Event) (station channel : ℕ) (octets : List ℕ) (hearing : Hearing) (others : List Hearing)
      (due : IsPacketDue given before station channel octets (hearing ∷ others))
      → IsToSend given before station channel octets
      → hearing ≡ hearing_of given due.plan.fates station channel octets before
  one_heard before station channel octets hearing others due place =
      let in_it = among given.stations place.done place.left station place.stations_are in
      let hearings : hearing ∷ others ≡ hearing_of given due.plan.fates station channel octets before ∷ [] =
      due.hearings_are ∙ one_hearing given are_two due.plan.fates station channel octets before in_it in
      cc

  pub heard_are_listened_for : IsSetBefore → AreKnown given (IsBelongingSoFar given)
      → AllHeardAreListenedFor words setups (journal_of (history_of (run_of given)))
  heard_are_listened_for at lines_known = λ front rest side channel octets fate verdict is heard.
      let aired = is_aired given front rest side channel octets fate verdict is in
      let both = at aired.before aired.after aired.station channel octets
      (aired.hearing ∷ aired.others) aired.is_at in
      let first = one_heard aired.before aired.station channel octets aired.hearing aired.others aired.is_due both.1 in
      let far = other_of aired.station in
      let fate_of = fate_at aired.is_due.plan.fates (fates_used aired.before) in
      let listens = not_missed (use_at given far aired.before) fate_of channel (facts_at given far aired.before)
      (damaged_packet fate_of octets)
      (λ missed. heard (aired.verdict_is ∙ ap (λ (h : Hearing). h.verdict) first ∙ missed)) in
      subst (λ entries. IsListenedFor words setups entries side channel) (sym aired.front_is)
      (subst (λ one. IsListenedFor words setups (journal_of aired.before) one channel) (sym aired.side_is)
      (listened_at aired.before aired.after aired.station channel octets aired.hearing aired.others aired.is_at both.0
      both.1 lines_known listens))

  pub awaited_are_heard : IsSetBefore → AreKnown given (IsBelongingSoFar given)
      → AllAwaitedAreHeard words setups (journal_of (history_of (run_of given)))
  awaited_are_heard at lines_known = λ front rest side channel octets verdict is awaited missed.
      let aired = is_aired given front rest side channel octets Passed verdict is in
      let both = at aired.before aired.after aired.station channel octets
      (aired.hearing ∷ aired.others) aired.is_at in
      let first = one_heard aired.before aired.station channel octets aired.hearing aired.others aired.is_due both.1 in
      heard_at aired.before aired.after aired.station channel octets aired.hearing aired.others aired.is_at both.0
      both.1 lines_known
      (subst (λ one. IsAwaited words setups (journal_of aired.before) one channel octets) aired.side_is
      (subst (λ entries. IsAwaited words setups entries side channel octets) aired.front_is awaited))
      (fate_at aired.is_due.plan.fates (fates_used aired.before))
      (aired.fate_is ∙ ap (λ (h : Hearing). mark_of h.fate) first)
      (sym (ap (λ (h : Hearing). h.verdict) first) ∙ sym aired.verdict_is ∙ missed)

  -- each packet in the journal
  pub packets_owed : IsSetBefore → AllPacketsAreOwed words setups (journal_of (history_of (run_of given)))
  packets_owed at = λ front rest side channel octets fate verdict is.
      let aired = is_aired given front rest side channel octets fate verdict is in
      let both = at aired.before aired.after aired.station channel octets
      (aired.hearing ∷ aired.others) aired.is_at in
      subst (λ entries. IsOwed words setups entries side channel octets) (sym aired.front_is)
      (subst (λ one. IsOwed words setups (journal_of aired.before) one channel octets) (sym aired.side_is)
      (owed_at aired.before aired.after aired.station channel octets aired.hearing aired.others aired.is_at both.0
      both.1))
