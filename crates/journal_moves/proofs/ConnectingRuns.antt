-- In a run of two stations an initiator that judges a packet good connects by its lines where its controller does, with
-- the same link.
use Rattle.std.proofs.Common.{◌≡◌, ℕ, ◌+◌, ◌<◌, ◌==◌, ◌&&◌, Bool, true, false, Option, Some, None, List, [], ◌∷◌, ◌++◌, refl, sym, ap, subst, ◌∙◌, arith}
use Rattle.std.specs.Prelude.{◌%◌, ◌^◌, if◌then◌else◌}
use Rattle.adv_pdu.specs.declared.pdu.AdvPdu.{AdvPdu}
use Rattle.adv_pdu.specs.Pdu.{sender_of}
use Rattle.ble_base.specs.declared.roles.Side.{Side}
use Rattle.journal.specs.declared.entries.Entry.TheVariants.{Air}
use Rattle.radio_replay.specs.Damage.{damaged_packet}
use Rattle.scan_init.specs.Access.{nth_access}
use Rattle.scan_init.specs.Initiating.{connect_fields}
use Rattle.journal_wants.specs.controller_model.declared.doing.Doing.{Doing}
use Rattle.journal_wants.specs.controller_model.declared.doing.Doing.TheVariants.{Initiates}
use Rattle.journal_wants.specs.controller_model.Answers.{next_word}
use Rattle.journal_wants.specs.controller_model.Facts.{Facts, Setup}
use Rattle.journal_wants.specs.controller_model.Heard.{access_found, initiator_heard}
use Rattle.journal_wants.specs.controller_model.Step.{PacketHeard}
use Rattle.journal_wants.specs.controller_model.link_model.keyed_control.declared.material.Response.{Response}
use Rattle.journal_wants.specs.journal_controls.journal_ends.Asked.{Words}
use Rattle.journal_wants.specs.journal_controls.journal_ends.GivenWords.{GivesWords}
use Rattle.journal_wants.specs.journal_data.Held.{links_open}
use Rattle.journal_wants.specs.journal_links.Begun.{links_begun}
use Rattle.journal_wants.specs.journal_packets.run_laws.Access.{connects_sent}
use Rattle.journal_wants.specs.run_model.Due.{IsDue, IsPacketDue, packet_in}
use Rattle.journal_wants.specs.run_model.History.{Called, Event, Hearing, Transmitted, is_good, is_handed, packet_received, received_after, turns_begun}
use Rattle.journal_wants.specs.run_model.Journal.{journal_of, mark_of, side_of}
use Rattle.journal_wants.specs.run_model.LinkEnds.{HaveAddresses}
use Rattle.journal_wants.specs.run_model.Run.{Given, facts_at, history_of, run_of, setup_at, step_of, use_at}
use Rattle.journal_wants.specs.run_model.Turns.{IsInTurn}
use Rattle.journal_wants.specs.Setups.{setups_of}
use Rattle.journal_wants.specs.Station.{Station, station_deciding}
use Rattle.journal_anchors.proofs.RunPlaces.{IsToSend, place_of_packet}
use Rattle.journal_wants.proofs.HostSet.{HostSet, IsSetAs}
use Rattle.journal_wants.proofs.KeptStations.{AllDecided}
use Rattle.journal_wants.proofs.NewLinks.{free_handle, linked_is, setups_are}
use Rattle.journal_wants.proofs.NextLinks.{own_begun, own_links, word_is}
use Rattle.journal_wants.proofs.journal_acks.Counting.{facts_event}
use Rattle.journal_wants.proofs.journal_acks.Known.{known_of}
use Rattle.journal_wants.proofs.journal_acks.TwoStations.{IsOfTwo, good_handed, hearing_of, one_hearing, other_is, other_of}
use Rattle.journal_wants.proofs.journal_acks.run_laws.DistinctAccess.{AreApart}
use Rattle.journal_wants.proofs.journal_data.FewLinks.{HaveFewLinks}
use Rattle.journal_wants.proofs.journal_data.KeptData.{IsDataAt, data_kept}
use Rattle.journal_wants.proofs.journal_leaving.journal_ends.run_laws.Hearings.{use_same}
use Rattle.journal_wants.proofs.journal_leaving.journal_ends.run_laws.TurnPlaces.{AllStand, event_past}
use Rattle.journal_wants.proofs.journal_leaving.journal_ends.run_laws.TurnSteps.{pending}
use Rattle.journal_wants.proofs.journal_leaving.link_model.Hearing.{IsHeardWhole}
use Rattle.journal_wants.proofs.journal_links.OfTwo.{are_distinct, of_two_stations}
use Rattle.journal_wants.proofs.journal_packets.AccessOrder.{AreNth}
use Rattle.journal_wants.proofs.journal_packets.SoFar.{IsBelongingSoFar}
use Rattle.journal_wants.proofs.run_model.Calls.{fold_event, same_station, turns_same}
use Rattle.journal_wants.proofs.run_model.Dues.{run_due}
use Rattle.journal_wants.proofs.run_model.Fronts.{front_at}
use Rattle.journal_wants.proofs.run_model.LinkEnds.{AreTaken, IsUnderstood}
use Rattle.journal_wants.proofs.run_model.Openings.{run_begun}
use Rattle.journal_wants.proofs.run_model.Parts.{journal_event}
use Rattle.journal_wants.proofs.run_model.Places.{each_at}
use Rattle.journal_wants.proofs.run_model.Stations.{among, is_in}
use Rattle.journal_wants.proofs.run_model.Walk.{AtPackets, IsKept, Place}
use Rattle.journal_moves.specs.Doing.{free_under, initiator_hears}
use Rattle.journal_moves.proofs.Connecting.{connects_as}
use Rattle.journal_moves.proofs.HandedOn.{IsHandedOn, SendsFirst, both_listen, handed_on, initiates_first, sender_first, silent_first}
use Rattle.journal_moves.proofs.SaidRuns.{AreConnecting}

-- what is handed on of the one hearing of a packet
first_handed : (own handed : Bool) (heard : Option (List ℕ)) (before : Option (List ℕ)) → own ≡ true → handed ≡ true
    → (if own && handed then heard else before) ≡ heard
first_handed true true heard before own handed = refl
first_handed false handed_too heard before own handed = absurd cc
first_handed true false heard before own handed = absurd cc

heard_on : (station sender channel : ℕ) (octets : List ℕ) (hearing : Hearing) (others : List Hearing)
    (history : List Event) → (station == hearing.listener) ≡ true
    → is_handed hearing.verdict ≡ true
    → packet_received station (history ++ Transmitted sender channel octets (hearing ∷ others) ∷ [])
    ≡ Some (damaged_packet hearing.fate octets)
unfolding packet_received
heard_on station sender channel octets hearing others history own handed =
    fold_event (received_after station) None history (Transmitted sender channel octets (hearing ∷ others))
    ∙ first_handed (station == hearing.listener) (is_handed hearing.verdict)
    (Some (damaged_packet hearing.fate octets)) _ own handed

-- an initiator has no CONNECT_IND to send
none_waits : (done : Bool) (own : ℕ) (doing : Doing) → doing ≡ Initiates own → (if done then 0 else pending doing) ≡ 0
none_waits true own doing is = refl
none_waits false own doing is = ap pending is

nothing_more : (n : ℕ) → n + 0 ≡ n
nothing_more n = omega arith

module _ (words : Words) (whole : IsHeardWhole) (understood : IsUnderstood) (taken : AreTaken) (nth : AreNth)
    (apart : AreApart) (given : Given) (are_two : IsOfTwo given)
    (few_links : HaveFewLinks given) (six : HaveAddresses given) (gives : GivesWords given words)
    (eight : (station : ℕ) → (setup_at given station).host_buffers ≡ 8) where
  abbrev Q : Place → List Event → Type 0
  Q = IsBelongingSoFar given

  keeps : IsKept given (IsDataAt given Q)
  keeps = data_kept whole given Q (known_of understood taken nth apart given are_two six) are_two few_links six
      (are_distinct given are_two) eight

  module _ (before rest : List Event) (sender channel : ℕ) (octets : List ℕ) (hearing : Hearing)
      (others : List Hearing)
      (at : history_of (run_of given) ≡ before ++ Transmitted sender channel octets (hearing ∷ others) ∷ rest)
      (station : ℕ) (in_it : is_in station given.stations ≡ true)
      (differs : (station == sender) ≡ false) (good : is_good hearing.verdict ≡ true) (own : ℕ)
      (initiates : (facts_at given station before).turn.doing ≡ Initiates own) where
    abbrev event : Event
    event = Transmitted sender channel octets (hearing ∷ others)

    abbrev after : List Event
    after = before ++ event ∷ []

    abbrev setup : Setup
    setup = setup_at given station

    abbrev facts : Facts
    facts = facts_at given station after

    abbrev side : Side
    side = side_of station

    place : IsToSend given before sender channel octets
    place = place_of_packet whole understood taken nth apart given are_two few_links six eight before rest sender
        channel octets (hearing ∷ others) at

    due : IsPacketDue given before sender channel octets (hearing ∷ others)
    due = each_at (IsDue given) (history_of (run_of given)) before rest event (run_due given).each at

    some : 0 < turns_begun before
    some = each_at IsInTurn (history_of (run_of given)) before rest event (run_begun given).each at

    sends : is_in sender given.stations ≡ true
    sends = among given.stations place.done place.left sender place.stations_are

    other : station ≡ other_of sender
    other = other_is given are_two sender station sends in_it differs

    same : facts ≡ facts_at given station before
    same = facts_event given station before event refl

    does : facts.turn.doing ≡ Initiates own
    does = ap (λ (f : Facts). f.turn.doing) same ∙ initiates

    is_after : IsDataAt given Q (AtPackets place.phases (place.done ++ sender ∷ []) place.left) after
    is_after =
        subst (λ xs. IsDataAt given Q (AtPackets place.phases (place.done ++ sender ∷ []) place.left)
        (before ++ Transmitted sender channel octets xs ∷ [])) (sym due.hearings_are)
        (keeps.on_packet place.phases due.plan place.done place.left sender channel octets before place.stations_are
        some
        (subst (IsPacketDue given before sender channel octets) due.hearings_are due) place.lines)

    -- ---- the call with it

    listener : (station == hearing.listener) ≡ true
    listener =
        let hearings : hearing ∷ others ≡ hearing_of given due.plan.fates sender channel octets before ∷ [] =
        due.hearings_are ∙ one_hearing given are_two due.plan.fates sender channel octets before sends in
        let is : hearing ≡ hearing_of given due.plan.fates sender channel octets before = cc in
        ap (λ (one : Hearing). station == one.listener) is ∙ ap (λ n. n == other_of sender) other
        ∙ same_station (other_of sender)

    handed : IsHandedOn given after station (packet_received station after)
    handed =
        let stand = place.lines.counted.holds.hearing.stand in
        let first = initiates_first given place.phases place.done
        (sender ∷ place.left) station own before stand in_it initiates in
        let sender_same : facts_at given sender after ≡ facts_at given sender before =
        facts_event given sender before event refl in
        let sends_first = sender_first given place.done (sender ∷ place.left) sender channel octets before
        (subst (λ n. AllStand given
        (AtPackets n place.done (sender ∷ place.left)) before) first.0 stand) sends place.is_wanted in
        let none = silent_first (setup_at given sender) (facts_at given sender after) (packet_received sender after)
        (subst (λ (f : Facts). SendsFirst f.turn.doing) (sym sender_same) sends_first) in
        let listens = ap packet_in
        (use_same given (other_of sender) before after (event_past (other_of sender) before event refl))
        ∙ ap (λ n. packet_in (use_at given n before)) (sym other) ∙ first.1 in
        handed_on given are_two place.phases after
        (both_listen given are_two place.phases place.done place.left sender after place.stations_are listens
        is_after.counted.known.front)
        (subst (λ n. 0 < n) (sym (turns_same before event refl)) some) sender station
        (of_two_stations given are_two sender sends) other none

    drawn : (words side (journal_of after)).skd_s ≡ next_word setup facts.drawn % 2 ^ 64
    drawn =
        let heard = heard_on station sender channel octets hearing others before listener
        (good_handed hearing.verdict good) in
        let packet = damaged_packet hearing.fate octets in
        let called : history_of (run_of given) ≡ handed.base ++ Called station (PacketHeard packet) ∷ handed.rest =
        handed.at ∙ ap (λ received. handed.base ++ Called station (step_of received) ∷ handed.rest) heard in
        ap (λ front. (words side front).skd_s) (sym handed.lines)
        ∙ ap (λ (w : Response). w.skd_s)
        (gives.gives handed.base handed.rest station (PacketHeard packet) refl called)
        ∙ ap (λ (f : Facts). next_word setup f.drawn % 2 ^ 64) handed.same

    -- ---- the link

    connections_are : own_links side (links_begun (journal_of after)) ≡ facts.connections
    connections_are =
        let so_far = is_after.counted.known in
        let counted = so_far.asked.counted.at station in_it in
        own_begun station (of_two_stations given are_two station in_it) after so_far.asked.sent
        ∙ sym (counted ∙ ap (λ n. connects_sent station after + n)
        (none_waits (is_in station (place.done ++ sender ∷ [])) own facts.turn.doing does)
        ∙ nothing_more (connects_sent station after))

    module _ (said : Station) (set : IsSetAs said (facts_at given station before)) (pdu : AdvPdu) where
      connects_after : initiator_hears words (setups_of given) side (journal_of after) said said.initiator own pdu
          ≡ (initiator_heard facts.initiator setup own pdu facts).next
      connects_after =
          let so_far = is_after.counted.known in
          let front = front_at given
          (AtPackets place.phases (place.done ++ sender ∷ []) place.left) after so_far.front in
          let booked = (is_after.are.well station in_it).booked in
          let set_up = setups_are given are_two station in_it in
          connects_as words (setups_of given) side (journal_of after) said setup facts
          (subst (IsSetAs said) (sym same) set)
          (ap (λ (host : HostSet). host.acl_length) (subst (IsSetAs said) (sym same) set).set)
          (λ on one. linked_is given are_two station in_it after front.rest front.at booked so_far.numbered.numbered
          on.params.own (sender_of one))
          (λ i. access_found (nth_access (set_up i).cursor (connections_are i)))
          (ap (λ (s : Setup). free_under s.links 0 (links_open side (journal_of after))) set_up
          ∙ free_handle given are_two station in_it after front.rest front.at booked free_under (λ handle links. refl)
          (λ left handle links. refl))
          (λ on one map. ap (λ word. connect_fields on.params.link one word map) drawn
          ∙ word_is on.params.link one (next_word setup facts.drawn) map)
          own pdu

      connects_before : initiator_hears words (setups_of given) side
          (journal_of before ++ Air (side_of sender) channel octets
          (mark_of hearing.fate) hearing.verdict ∷ []) said said.initiator own pdu
          ≡ (initiator_heard (facts_at given station before).initiator setup own pdu
          (facts_at given station before)).next
      connects_before =
          ap (λ front. initiator_hears words (setups_of given) side front said said.initiator own pdu)
          (sym (journal_event before event))
          ∙ connects_after ∙ ap (λ (f : Facts). (initiator_heard f.initiator setup own pdu f).next) same

  -- where the lines before each packet say what each side does first in its turn
  pub are_connecting : ((before rest : List Event) (sender channel : ℕ) (octets : List ℕ) (hearings : List Hearing)
      → history_of (run_of given) ≡ before ++ Transmitted sender channel octets hearings ∷ rest
      → AllDecided words given before)
      → AreConnecting words given are_two
  are_connecting decided before rest sender channel octets hearing others at station in_it differs good own is pdu =
      connects_before before rest sender channel octets hearing others at station in_it differs good own is
      (station_deciding words (setups_of given) (side_of station) (journal_of before))
      (decided before rest sender channel octets (hearing ∷ others) at station in_it).set pdu
