-- In every run of two stations, each answer on a link that passes is heard.
use Rattle.std.proofs.Common.{◌≡◌, ◌<◌, ◌≤◌, ℕ, zero, suc, ◌+◌, ◌==◌, nat_le, Bool, true, false, Some, List, [], ◌∷◌, ◌++◌, length, take, refl, sym, ap, subst, ◌∙◌, arith, if◌then◌else◌}
use Rattle.std.specs.Prelude.{⊤, min}
use Rattle.std.specs.Str.{bytes_eq}
use Rattle.std.proofs.lemmas.Bool.Decides.{nat_tests}
use Rattle.air_frame.specs.Hearing.{heard_in}
use Rattle.air_frame.specs.Packet.{access_octets, is_packet, pdu_in}
use Rattle.air_frame.specs.declared.Heard.{Heard}
use Rattle.air_frame.specs.declared.Heard.TheVariants.{Broken as Faulty, NotOurs, Whole}
use Rattle.ble_base.specs.Limits.{payload_octets}
use Rattle.ble_base.specs.Side.{other_side}
use Rattle.ble_base.specs.declared.roles.Role.{Role}
use Rattle.ble_base.specs.declared.roles.Role.TheVariants.{Central, Peripheral}
use Rattle.ble_base.specs.declared.verdicts.Verdict.TheVariants.{Broken, Forged, Good}
use Rattle.host_view.specs.declared.view.HostFlow.{HostFlow}
use Rattle.journal.specs.declared.entries.Mark.TheVariants.{Pass as Passed}
use Rattle.journal_moves.specs.journal_wants.journal_sending.journal_controls.host_answers.Flows.{most_received_on}
use Rattle.journal_moves.specs.journal_wants.journal_sending.journal_data.link_model.Facts.{Facts as EndFacts}
use Rattle.journal_moves.specs.journal_wants.journal_sending.journal_data.link_model.Hearing.{air_octets}
use Rattle.journal_moves.specs.journal_wants.journal_sending.journal_data.link_model.Packets.{heard_of, is_forged_pdu, verdict_of as end_verdict}
use Rattle.journal_moves.specs.journal_wants.journal_sending.journal_data.link_model.Payload.{opens_now}
use Rattle.journal_moves.specs.journal_wants.journal_sending.journal_data.link_model.Setup.{Setup}
use Rattle.journal_moves.specs.journal_wants.journal_sending.journal_data.link_model.Step.{PacketSent}
use Rattle.journal_moves.specs.journal_wants.journal_sending.journal_data.link_model.Verdicts.{code_octets, has_room_for, pdu_of, verdict_by}
use Rattle.journal_moves.proofs.journal_wants.journal_sending.journal_data.link_model.Hearing.{IsHeardWhole}
use Rattle.journal_moves.specs.journal_wants.journal_sending.journal_data.open_links.OpenLinks.{Links, OpenLink, facts_in, link_after, link_at}
use Rattle.radio_replay.specs.Damage.{damaged_packet}
use Rattle.radio_replay.specs.declared.fates.Fate.{Fate}
use Rattle.radio_replay.specs.declared.fates.Fate.TheVariants.{Pass}
use Rattle.journal_moves.specs.journal_wants.journal_sending.controller_model.declared.doing.Doing.{Doing}
use Rattle.journal_moves.specs.journal_wants.journal_sending.controller_model.declared.doing.Doing.TheVariants.{Advertises, CentralSends, CentralListens, PeripheralSends}
use Rattle.journal_moves.specs.journal_wants.journal_sending.controller_model.Facts.{Facts, Use, Sends, Listens}
use Rattle.journal_moves.specs.journal_wants.journal_sending.controller_model.Packets.{channel_listened, listens_on, verdict_doing, verdict_of, verdict_of_link}
use Rattle.journal_moves.specs.journal_wants.journal_sending.controller_model.Sent.{SendsOn}
use Rattle.journal_moves.specs.journal_wants.journal_sending.run_model.Feeding.{AreDistinct, is_note}
use Rattle.journal_moves.specs.journal_wants.journal_sending.run_model.History.{Event, Hearing, Transmitted, is_handed, packet_received, turns_begun}
use Rattle.journal_moves.specs.journal_wants.journal_sending.run_model.Journal.{journal_of, mark_of, side_of}
use Rattle.journal_moves.specs.journal_wants.journal_sending.run_model.LinkEnds.{HaveAddresses}
use Rattle.journal_moves.specs.journal_wants.journal_sending.run_model.Links.{is_advertising}
use Rattle.journal_moves.specs.journal_wants.journal_sending.run_model.Run.{Given, facts_at, hearing_at, history_of, reaches, run_of, setup_at, use_at, verdict_where}
use Rattle.journal_moves.proofs.journal_wants.journal_sending.run_model.EntryEvents.{is_aired}
use Rattle.journal_moves.proofs.journal_wants.journal_sending.journal_leaving.journal_controls.host_answers.FlowHeld.{flow_so_far}
use Rattle.journal_moves.proofs.journal_wants.journal_sending.run_model.LinkEnds.{AreTaken, IsUnderstood, wanted_is}
use Rattle.journal_moves.proofs.journal_wants.journal_sending.run_model.OfStations.{OfStations, run_of_stations}
use Rattle.journal_moves.proofs.journal_wants.journal_sending.run_model.Places.{each_at}
use Rattle.journal_moves.proofs.journal_wants.journal_sending.run_model.Stations.{is_in, among}
use Rattle.journal_moves.proofs.journal_wants.journal_sending.run_model.Walk.{AtPackets}
use Rattle.journal_moves.specs.journal_wants.journal_sending.journal_data.run_laws.Ends.{HaveOneConnectInd}
use Rattle.journal_moves.proofs.journal_wants.journal_sending.journal_data.run_laws.DistinctAccess.{AreApart}
use Rattle.journal_moves.proofs.journal_wants.journal_sending.journal_data.run_laws.Hearings.{sends_deaf}
use Rattle.journal_moves.proofs.journal_wants.journal_sending.journal_data.run_laws.LinkPhases.{HasRole, IsInPhase}
use Rattle.journal_moves.proofs.journal_wants.journal_sending.journal_data.run_laws.MostReceived.{max_received}
use Rattle.journal_moves.proofs.journal_wants.journal_sending.journal_data.run_laws.OwnLinks.{sent_begins}
use Rattle.journal_moves.proofs.journal_wants.journal_sending.journal_data.run_laws.TurnPlaces.{Within, at_stage}
use Rattle.journal_moves.proofs.journal_wants.journal_sending.journal_data.run_laws.TurnSteps.{IsListening}
use Rattle.journal_moves.specs.journal_wants.journal_sending.journal_links.Begun.{links_begun}
use Rattle.journal_moves.specs.journal_wants.journal_sending.journal_links.Opened.{central_side}
use Rattle.journal_moves.proofs.journal_wants.journal_sending.journal_links.OfTwo.{are_distinct}
use Rattle.journal_moves.specs.journal_wants.journal_sending.journal_packets.Belonging.{first_number, is_answer}
use Rattle.journal_moves.specs.journal_wants.journal_sending.journal_packets.Senders.{IsOfSendersLink}
use Rattle.journal_moves.proofs.journal_wants.journal_sending.journal_packets.AccessOrder.{AreNth}
use Rattle.journal_moves.proofs.journal_wants.journal_sending.journal_packets.Asked.{is_asked}
use Rattle.journal_moves.proofs.journal_wants.journal_sending.journal_packets.SoFar.{IsBelongingSoFar}
use Rattle.journal_moves.proofs.journal_wants.journal_sending.journal_acks.Counting.{AreKnown, one_begun}
use Rattle.journal_moves.proofs.journal_wants.journal_sending.journal_acks.Exchanging.{number_at}
use Rattle.journal_moves.proofs.journal_wants.journal_sending.journal_acks.link_calls.InRange.{ranges_in, sent_ranges}
use Rattle.journal_moves.proofs.journal_wants.journal_sending.journal_data.run_laws.Pieces.{sent_readable}
use Rattle.journal_moves.proofs.journal_wants.journal_sending.journal_acks.Known.{known_of}
use Rattle.journal_moves.proofs.journal_wants.journal_sending.journal_acks.Seen.{IsSeen, seen_packet}
use Rattle.journal_moves.proofs.journal_wants.journal_sending.journal_acks.Standing.{PhasedBy, phased_at}
use Rattle.journal_moves.proofs.journal_wants.journal_sending.journal_acks.TwoStations.{IsOfTwo, hearing_of, one_hearing, other_of, same_number, side_other}
use Rattle.journal_moves.proofs.journal_wants.journal_sending.journal_data.KeptData.{other_in}
use Rattle.journal_hearings.proofs.RequestsHeard.{pass_mark, judged_where, one_of_list}
use Rattle.journal_moves.proofs.journal_wants.journal_sending.TakenPdus.{heard_there}
use Rattle.journal_pdus.specs.Answered.{AllAnswersAreHeard, IsHeardAs, IsRead, IsTooLong}
use Rattle.journal_pdus.proofs.Awaited.{AreAskedWell, IsAsker, IsAsking, asked_well_first, asked_well_kept}

-- ---- who sends and who listens after the first phase

answers_in : (phases handle : ℕ) (links : Links) (doing : Doing) → IsInPhase (suc phases) links doing → SendsOn handle doing → doing ≡ PeripheralSends handle
answers_in phases handle links (PeripheralSends other) phase sends = ap PeripheralSends sends
answers_in phases handle links (CentralSends other) phase sends = absurd (let none = phase.0 in omega (arith, none))
answers_in phases handle links (Advertises channel) phase sends = absurd sends
answers_in phases handle links doing phase sends = absurd sends

listens_in : (phases handle : ℕ) (links : Links) (doing : Doing) → IsInPhase (suc phases) links doing → IsAsking handle doing → doing ≡ CentralListens handle
listens_in phases handle links (CentralListens other) phase asks = ap CentralListens asks
listens_in phases handle links (CentralSends other) phase asks = absurd (let none = phase.0 in omega (arith, none))
listens_in phases handle links (Advertises channel) phase asks = absurd asks
listens_in phases handle links doing phase asks = absurd asks

role_at : (role : Role) (handle : ℕ) (links : Links) (link : OpenLink) → HasRole role (link_at handle links) → link_at handle links ≡ Some link → link.setup.link.role ≡ role
role_at role handle links link has is = subst (HasRole role) is has

-- the end that answers, and the one that listens for it
record IsAwaited (given : Given) (history : List Event) (station channel : ℕ) (octets : List ℕ) : Type 0 where
  sent : IsOfSendersLink given history station channel octets
  asker : IsAsker (facts_at given (other_of station) history) true (use_at given station history) octets
  listens : (facts_at given (other_of station) history).turn.doing ≡ CentralListens asker.handle
  wants : IsListening (facts_at given (other_of station) history) (facts_at given (other_of station) history).turn.doing
  channel_is : channel ≡ (facts_in asker.far).event.channel
  one : HaveOneConnectInd sent.link.setup asker.far.setup

abbrev IsAwaitedAnswer : Given → List Event → ℕ → ℕ → List ℕ → Type 0
IsAwaitedAnswer given history station channel octets =
    is_advertising channel ≡ false → is_asked history station octets ≡ true → IsAwaited given history station channel octets

-- ---- its verdict

-- a packet that an end hears whole
abbrev items_of : Heard → List ℕ
items_of NotOurs = []
items_of Faulty = []
items_of (Whole pdu) = pdu.items

whole_is : (channel access init : ℕ) (octets pdu : List ℕ) → heard_in channel access init octets ≡ Whole (record { items = pdu }) → pdu ≡ pdu_in channel octets
unfolding heard_in
whole_is channel access init octets pdu = by (bytes_eq (take 4 octets) (access_octets access)) (is_packet channel access init octets)
  where
    by : (own found : Bool) → (if own then (if found then Whole (record { items = pdu_in channel octets }) else Faulty) else NotOurs) ≡ Whole (record { items = pdu })
        → pdu ≡ pdu_in channel octets
    by true true is = sym (ap items_of is)
    by true false is = absurd (let h : Faulty ≡ Whole (record { items = pdu }) = is in absurd cc)
    by false found is = absurd (let h : NotOurs ≡ Whole (record { items = pdu }) = is in absurd cc)

no_room : (most code count : ℕ) → nat_le count (2 + (most + code)) ≡ false → most + 2 < count
no_room most code count none = grind (arith, nat_tests)

module _ (to : Setup) (listener : EndFacts) (octets pdu : List ℕ) (heard : heard_of to listener octets ≡ Whole (record { items = pdu })) where
  abbrev forged : Bool
  forged = is_forged_pdu listener pdu

  abbrev code : ℕ
  code = code_octets (opens_now listener.encryption.end) (pdu_of pdu)

  verdict_is : end_verdict to listener octets ≡ (if has_room_for to.link.max_rx (opens_now listener.encryption.end) pdu then (if forged then Forged else Good) else Broken)
  unfolding end_verdict
  verdict_is = ap (verdict_by to.link.max_rx (opens_now listener.encryption.end) (is_forged_pdu listener)) heard

  heard_as : IsHeardAs to.link.max_rx listener.event.channel octets (end_verdict to listener octets)
  heard_as = subst (IsHeardAs to.link.max_rx listener.event.channel octets) (sym verdict_is) (by (has_room_for to.link.max_rx (opens_now listener.encryption.end) pdu) refl)
    where
      handed : (wrong : Bool) → is_handed (if wrong then Forged else Good) ≡ true
      handed true = refl
      handed false = refl

      by : (room : Bool) → has_room_for to.link.max_rx (opens_now listener.encryption.end) pdu ≡ room
          → IsHeardAs to.link.max_rx listener.event.channel octets (if room then (if forged then Forged else Good) else Broken)
      by true has = IsRead (handed forged)
      by false none =
          IsTooLong refl (subst (λ (xs : List ℕ). to.link.max_rx + 2 < length xs)
          (whole_is listener.event.channel to.link.fields.access to.link.fields.crc_init octets pdu heard) (no_room to.link.max_rx code (length pdu) none))

record ListensFor (facts : Facts) (channel : ℕ) (octets : List ℕ) (far : OpenLink) : Type 0 where
  wants : facts.wanted ≡ Listens channel
  judges : verdict_of facts octets ≡ end_verdict far.setup (facts_in far) octets

listens_for : (facts : Facts) (handle : ℕ) (far : OpenLink) (channel : ℕ) (octets : List ℕ) → facts.turn.doing ≡ CentralListens handle → IsListening facts facts.turn.doing
    → link_at handle facts.links ≡ Some far → channel ≡ (facts_in far).event.channel → ListensFor facts channel octets far
unfolding verdict_of
listens_for facts handle far channel octets doing listens is_open channel_is = record {
  wants = subst (IsListening facts) doing listens ∙ ap listens_on is_open ∙ ap Listens (sym channel_is);
  judges = ap (λ (d : Doing). verdict_doing facts.links d octets) doing ∙ ap (λ may. verdict_of_link may octets) is_open;
}

judges_so : (given : Given) (channel : ℕ) (octets : List ℕ) (history : List Event) (listener : ℕ) (far : OpenLink) → ListensFor (facts_at given listener history) channel octets far
    → (hearing_at given Pass channel octets history listener).verdict ≡ end_verdict far.setup (facts_in far) octets
judges_so given channel octets history listener far listens =
    let facts = facts_at given listener history in
    ap (λ (wanted : Use). verdict_where (reaches Pass channel (channel_listened wanted)) facts (damaged_packet Pass octets))
    (sym (wanted_is given listener history) ∙ listens.wants)
    ∙ judged_where (channel == channel) facts octets (same_number channel) ∙ listens.judges

module _ (whole : IsHeardWhole) (understood : IsUnderstood) (taken : AreTaken) (nth : AreNth) (apart : AreApart) (given : Given) (pair : IsOfTwo given) (six : HaveAddresses given)
    (few : (station : ℕ) → (setup_at given station).links ≤ 6) where
  distinct : AreDistinct given.stations
  distinct = are_distinct given pair

  known : AreKnown given (IsBelongingSoFar given)
  known = known_of understood taken nth apart given pair six

  -- ---- before each packet

  module _ (phases : ℕ) (done left : List ℕ) (station channel : ℕ) (octets : List ℕ) (history : List Event) (are : given.stations ≡ done ++ station ∷ left)
      (wanted : use_at given station history ≡ Sends channel octets) (so_far : IsBelongingSoFar given (AtPackets (suc phases) done (station ∷ left)) history)
      (asker : IsAsker (facts_at given (other_of station) history) true (use_at given station history) octets) (off : is_advertising channel ≡ false) where
    abbrev other : ℕ
    other = other_of station

    abbrev facts : ℕ → Facts
    facts one = facts_at given one history

    in_it : is_in station given.stations ≡ true
    in_it = among given.stations done left station are

    too : is_in other given.stations ≡ true
    too = other_in given pair station in_it

    phased : (one : ℕ) → is_in one given.stations ≡ true → PhasedBy given history one (at_stage (Within (suc phases)) (turns_begun history))
    phased one is = phased_at given (AtPackets (suc phases) done (station ∷ left)) history so_far.asked.hearing.stand one is

    sent : IsOfSendersLink given history station channel octets
    sent = known.sends (suc phases) done left station history are so_far channel octets wanted off

    answers : (facts station).turn.doing ≡ PeripheralSends sent.handle
    answers = answers_in phases sent.handle (facts station).links (facts station).turn.doing (phased station in_it).phase sent.sends

    listens : (facts other).turn.doing ≡ CentralListens asker.handle
    listens = listens_in phases asker.handle (facts other).links (facts other).turn.doing (phased other too).phase asker.asks

    peripheral : sent.link.setup.link.role ≡ Peripheral
    peripheral = role_at Peripheral sent.handle (facts station).links (link_after (PacketSent sent.slot) sent.link)
        (subst (IsInPhase (suc phases) (facts station).links) answers (phased station in_it).phase).1 sent.is_open

    central : asker.far.setup.link.role ≡ Central
    central = role_at Central asker.handle (facts other).links asker.far (subst (IsInPhase (suc phases) (facts other).links) listens (phased other too).phase).1 asker.is_open

    numbers : number_at station sent.handle history ≡ number_at other asker.handle history
    numbers =
        let here = AtPackets (suc phases) done (station ∷ left) in
        let own = known.fits here history so_far station sent.handle (link_after (PacketSent sent.slot) sent.link) octets in_it sent.is_open
        (ap (take 4) sent.packet ∙ sent_begins sent.link.setup (facts_in sent.link)) in
        let far = known.fits here history so_far other asker.handle asker.far octets too asker.is_open asker.begins in
        let sides : central_side sent.link.setup.link.role (side_of station) ≡ central_side asker.far.setup.link.role (side_of other) =
        ap (λ role. central_side role (side_of station)) peripheral ∙ sym (side_other station) ∙ ap (λ role. central_side role (side_of other)) (sym central) in
        let both : Some (number_at station sent.handle history) ≡ Some (number_at other asker.handle history) =
        sym own ∙ ap (λ s. first_number s octets 1 (links_begun (journal_of history))) sides ∙ far in cc

    is_awaited : IsAwaited given history station channel octets
    is_awaited = record {
      sent = sent;
      asker = asker;
      listens = listens;
      wants = (phased other too).uses.in_turn.listens;
      channel_is = asker.answers channel octets wanted off;
      one =
          let here = AtPackets (suc phases) done (station ∷ left) in
          one_begun history (number_at station sent.handle history) (number_at other asker.handle history) station other (link_after (PacketSent sent.slot) sent.link) asker.far numbers
          (known.begun here history so_far station sent.handle (link_after (PacketSent sent.slot) sent.link) in_it sent.is_open)
          (known.begun here history so_far other asker.handle asker.far too asker.is_open);
    }

  waits : (phases : ℕ) (done left : List ℕ) (station channel : ℕ) (octets : List ℕ) (history : List Event) → given.stations ≡ done ++ station ∷ left
      → use_at given station history ≡ Sends channel octets → AreAskedWell given (AtPackets phases done (station ∷ left)) history
      → IsAwaitedAnswer given history station channel octets
  waits zero done left station channel octets history are wanted is off asked =
      let in_it = among given.stations done left station are in
      let all = is.so_far.asked in
      let none = sends_deaf given [] history station channel octets (all.hearing.hears station in_it) wanted (packet_received station history) refl in
      absurd (let h : false ≡ true = sym ((all.asked station in_it).2 none octets) ∙ asked in absurd cc)
  waits (suc zero) done left station channel octets history are wanted is off asked =
      is_awaited zero done left station channel octets history are wanted is.so_far
      (is.asked station (among given.stations done left station are) channel octets wanted octets asked) off
  waits (suc (suc phases)) done left station channel octets history are wanted is off asked =
      let in_it = among given.stations done left station are in
      let place = AtPackets (suc (suc phases)) done (station ∷ left) in
      let phase = (phased_at given place history is.so_far.asked.hearing.stand station in_it).phase in
      let facts = facts_at given station history in
      let sent = known.sends (suc (suc phases)) done left station history are is.so_far channel octets wanted off in
      let answers = answers_in (suc phases) sent.handle facts.links facts.turn.doing phase sent.sends in
      let second = (subst (IsInPhase (suc (suc phases)) facts.links) answers phase).0 in
      absurd (omega (arith, second))

  sees : IsSeen given (AreAskedWell given) (λ history. ⊤) (IsAwaitedAnswer given)
  sees = record { turn = λ history is. tt; packet = waits }

  -- ---- at a time of a run

  module _ (before later : List Event) (event : Event) (no_note : is_note event ≡ false) (at : history_of (run_of given) ≡ before ++ event ∷ later)
      (station channel : ℕ) (octets : List ℕ) (in_it : is_in station given.stations ≡ true) (awaited : IsAwaited given before station channel octets) where
    abbrev far_side : ℕ
    far_side = other_of station

    far_in : is_in far_side given.stations ≡ true
    far_in = other_in given pair station in_it

    abbrev far : OpenLink
    far = awaited.asker.far

    heard : IsHeardAs far.setup.link.max_rx channel octets (end_verdict far.setup (facts_in far) octets)
    heard =
        let sender = awaited.sent.link in
        let ranges = sent_ranges true awaited.sent.slot sender
        (ranges_in given before (event ∷ later) station awaited.sent.handle (link_after (PacketSent awaited.sent.slot) sender) distinct in_it at awaited.sent.is_open) in
        let whole_there = ap (heard_of far.setup (facts_in far)) awaited.sent.packet
        ∙ heard_there whole sender.setup far.setup (facts_in sender) (facts_in far) (sent_readable sender ranges) awaited.one.fields (sym awaited.sent.channel_is ∙ awaited.channel_is) in
        subst (λ n. IsHeardAs far.setup.link.max_rx n octets (end_verdict far.setup (facts_in far) octets)) (sym awaited.channel_is)
        (heard_as far.setup (facts_in far) octets (air_octets (facts_in sender)) whole_there)

    -- it receives as many octets as its host takes
    most_is : far.setup.link.max_rx ≡ most_received_on (side_of far_side) (journal_of before)
    most_is =
        max_received given before (event ∷ later) far_side awaited.asker.handle far distinct far_in (few far_side) at awaited.asker.is_open
        ∙ ap (λ (flow : HostFlow). min payload_octets flow.acl_length) (flow_so_far given pair far_side far_in before later event at no_note)

    is_heard : ListensFor (facts_at given far_side before) channel octets far
    is_heard =
        listens_for (facts_at given far_side before) awaited.asker.handle far channel octets awaited.listens awaited.wants awaited.asker.is_open
        awaited.channel_is

  -- ---- each line

  pub answers_heard : AllAnswersAreHeard (journal_of (history_of (run_of given)))
  answers_heard = λ front rest side channel octets verdict is off asked.
      let aired = is_aired given front rest side channel octets Passed verdict is in
      let before = aired.before in
      let station = aired.station in
      let hearings = aired.hearing ∷ aired.others in
      let event = Transmitted station channel octets hearings in
      let in_it = each_at (OfStations given) (history_of (run_of given)) before aired.after event (run_of_stations given) aired.is_at in
      let asked_now = ap (λ xs. is_answer xs (side_of station) octets) (sym aired.front_is) ∙ ap (λ s. is_answer front s octets) (sym aired.side_is) ∙ asked in
      let awaited = seen_packet given (AreAskedWell given) (asked_well_kept given pair six understood taken distinct) (λ history. ⊤) (IsAwaitedAnswer given) sees
      (asked_well_first given pair six) before aired.after station channel octets hearings aired.is_at off asked_now in
      let one = one_of_list aired.hearing (hearing_of given aired.is_due.plan.fates station channel octets before) aired.others
      (aired.is_due.hearings_are ∙ one_hearing given pair aired.is_due.plan.fates station channel octets before in_it) in
      let passes = pass_mark _ (aired.fate_is ∙ ap (λ (h : Hearing). mark_of h.fate) one) in
      let judged : verdict ≡ end_verdict awaited.asker.far.setup (facts_in awaited.asker.far) octets =
      aired.verdict_is ∙ ap (λ (h : Hearing). h.verdict) one
      ∙ ap (λ (fate : Fate). (hearing_at given fate channel octets before (other_of station)).verdict) passes
      ∙ judges_so given channel octets before (other_of station) awaited.asker.far (is_heard before aired.after event refl aired.is_at station channel octets in_it awaited) in
      let side_is : side_of (other_of station) ≡ other_side side = side_other station ∙ ap other_side (sym aired.side_is) in
      let most : awaited.asker.far.setup.link.max_rx ≡ most_received_on (other_side side) front =
      most_is before aired.after event refl aired.is_at station channel octets in_it awaited
      ∙ ap (λ own. most_received_on own (journal_of before)) side_is ∙ ap (most_received_on (other_side side)) (sym aired.front_is) in
      subst (λ n. IsHeardAs n channel octets verdict) most
      (subst (IsHeardAs awaited.asker.far.setup.link.max_rx channel octets) (sym judged)
      (heard before aired.after event refl aired.is_at station channel octets in_it awaited))
