-- The packet that a station sends at a place of a run is that of what it does there, by the lines of its side.
use Rattle.std.proofs.Common.{◌≡◌, ℕ, Bool, true, false, Option, Some, None, List, ◌∷◌, cond, refl, sym, ap, subst, ◌∙◌}
use Rattle.std.specs.Prelude.{is_some}
use Rattle.std.specs.Option.{option_map}
use Rattle.ble_base.specs.declared.addresses.Address.{Address}
use Rattle.adv_pdu.specs.declared.pdu.AdvPdu.{AdvPdu}
use Rattle.adv_pdu.specs.declared.pdu.AdvPdu.TheVariants.{ScanReq, ScanRsp}
use Rattle.advertise.specs.Advertising.{AdvertiserFacts, advertisement}
use Rattle.scan_init.specs.Reports.{ScannerFacts}
use Rattle.journal_wants.specs.controller_model.declared.doing.Doing.{Doing}
use Rattle.journal_wants.specs.controller_model.declared.doing.Doing.TheVariants.{Advertises, AwaitsRequest, AwaitsResponse, CentralListens, CentralSends, Connects, Initiates, PeripheralListens, PeripheralSends, Requests, Responds, Rests, Scans}
use Rattle.journal_wants.specs.controller_model.Facts.{Advertising, Facts, Idle, Scanning, Sends}
use Rattle.journal_wants.specs.controller_model.Packets.{advertisement_sent, advertising_packet, connect_sent, request_sent, response_sent, sends_pdu, use_for, use_of}
use Rattle.journal_wants.specs.controller_model.Sent.{SendsOn}
use Rattle.journal_wants.specs.controller_model.open_links.OpenLinks.{OpenLink, link_at}
use Rattle.journal_wants.specs.journal_acks.link_calls.Uses.{sends_under}
use Rattle.journal_wants.specs.run_model.History.{Event, turns_begun}
use Rattle.journal_wants.specs.run_model.Journal.{journal_of, side_of}
use Rattle.journal_wants.specs.run_model.LinkEnds.{HaveAddresses}
use Rattle.journal_wants.specs.run_model.Links.{is_advertising}
use Rattle.journal_wants.specs.run_model.Run.{Given, facts_at, setup_at}
use Rattle.journal_wants.specs.Station.{Station}
use Rattle.journal_wants.proofs.HostSet.{IsSetAs, unreported, without_reports}
use Rattle.journal_wants.proofs.journal_acks.Exchanging.{number_at}
use Rattle.journal_wants.proofs.journal_acks.Standing.{other_sends}
use Rattle.journal_wants.proofs.journal_acks.TwoStations.{IsOfTwo, same_number}
use Rattle.journal_wants.proofs.journal_acks.run_laws.DistinctAccess.{AreApart}
use Rattle.journal_wants.proofs.journal_acks.run_laws.TurnPlaces.{Within}
use Rattle.journal_wants.proofs.journal_data.EachLine.{lines_at, numbers_at}
use Rattle.journal_wants.proofs.journal_data.HeldLinks.{under_is}
use Rattle.journal_wants.proofs.journal_data.NotedLines.{is_link}
use Rattle.journal_wants.proofs.journal_data.Openness.{is_open}
use Rattle.journal_wants.proofs.journal_packets.AccessOrder.{AreNth}
use Rattle.journal_wants.proofs.journal_packets.SoFar.{sends_on_its_link}
use Rattle.journal_wants.proofs.run_model.Stations.{among, is_in}
use Rattle.journal_wants.proofs.run_model.Walk.{AtPackets, Place}
use Rattle.journal_moves.specs.Moves.{IsOfLinkUnder, IsPacketOf, IsPduOn, pdu_due, phase_sending}
use Rattle.journal_moves.proofs.DoingPhases.{IsDoing, doing_at}
use Rattle.journal_moves.proofs.Ready.{IsReady, sends_some}
use Rattle.journal_anchors.proofs.RunPlaces.{IsToSend}

-- ---- on an advertising channel

pdu_on : (due : ℕ) (pdu : Option AdvPdu) (channel : ℕ) (octets : List ℕ) → sends_pdu due pdu ≡ Sends channel octets
    → IsPduOn due channel pdu octets
pdu_on due None channel octets is = absurd (let h : Idle ≡ Sends channel octets = is in absurd cc)
pdu_on due (Some sent) channel octets is =
    let same : Sends due (advertising_packet due sent) ≡ Sends channel octets = is in
    let on : due ≡ channel = cc in
    let packet : advertising_packet due sent ≡ octets = cc in record {
      on_channel = sym on;
      sent = sent;
      is_due = refl;
      is_packet = sym packet ∙ ap (λ n. advertising_packet n sent) on;
    }

pdu_as : (due : ℕ) (own pdu : Option AdvPdu) (channel : ℕ) (octets : List ℕ) → own ≡ pdu
    → sends_pdu due pdu ≡ Sends channel octets
    → IsPduOn due channel own octets
pdu_as due own pdu channel octets same is =
    subst (λ one. IsPduOn due channel one octets) (sym same) (pdu_on due pdu channel octets is)

abbrev advertisement_by : Advertising → Option AdvPdu
advertisement_by advertising =
    option_map (λ (on : AdvertiserFacts). advertisement on.params advertising.data_octets) advertising.on

abbrev response_by : Advertising → Option AdvPdu
response_by advertising =
    option_map (λ (on : AdvertiserFacts). ScanRsp on.params.own
    (record { items = advertising.response_octets })) advertising.on

abbrev request_by : Address → Scanning → Option AdvPdu
request_by advertiser scanning = option_map (λ (on : ScannerFacts). ScanReq on.params.own advertiser) scanning.on

request_same : (advertiser : Address) (on : Option ScannerFacts)
    → option_map (λ (one : ScannerFacts). ScanReq one.params.own advertiser) (option_map unreported on)
    ≡ option_map (λ (one : ScannerFacts). ScanReq one.params.own advertiser) on
request_same advertiser None = refl
request_same advertiser (Some on) = refl

-- ---- at a place of a run

module _ (nth : AreNth) (apart : AreApart) (given : Given) (are_two : IsOfTwo given) (six : HaveAddresses given)
    (history : List Event) (station channel : ℕ) (octets : List ℕ)
    (place : IsToSend given history station channel octets) (said : Station)
    (set : IsSetAs said (facts_at given station history)) where
  abbrev facts : Facts
  facts = facts_at given station history

  abbrev here : Place
  here = AtPackets place.phases place.done (station ∷ place.left)

  in_it : is_in station given.stations ≡ true
  in_it = among given.stations place.done place.left station place.stations_are

  pub doing_here : IsDoing (setup_at given station) (Within place.phases) (turns_begun history) facts
  doing_here = doing_at given here history station place.lines.counted.holds.hearing.stand in_it

  wanted : facts.wanted ≡ Sends channel octets
  unfolding use_of
  wanted = place.is_wanted

  used : (doing : Doing) → facts.turn.doing ≡ doing → use_for doing_here.wants.base doing ≡ Sends channel octets
  used doing is = ap (use_for doing_here.wants.base) (sym is) ∙ sym doing_here.wants.wanted ∙ wanted

  -- on a link
  of_link : (handle : ℕ) (doing : Doing) → facts.turn.doing ≡ doing → sends_under handle doing ≡ true
      → is_some (link_at handle facts.links) ≡ true
      → ((other : ℕ) → SendsOn other doing → handle ≡ other)
      → IsOfLinkUnder handle (journal_of history) (side_of station) channel octets
  of_link handle doing is on open_now one =
      let found = is_link (link_at handle facts.links) open_now in
      let off : is_advertising channel ≡ false = data_channel found.link found.is (is_advertising channel) refl in
      let sender = sends_on_its_link nth apart given are_two six place.phases place.done place.left station history
      place.stations_are place.lines.counted.known
      channel octets place.is_wanted off in
      let same : handle ≡ sender.handle = one sender.handle (subst (SendsOn sender.handle) is sender.sends) in
      let booked = (place.lines.are.well station in_it).booked in
      record {
        on_data_channel = off;
        number = number_at station handle history;
        is_open = under_is (setup_at given station).links (lines_at station history).links
            (numbers_at station history) (is_open facts.links) booked.links handle
            ∙ ap (λ (b : Bool). cond b (Some (number_at station handle history)) None) open_now;
        belongs = sender.belongs ∙ ap (λ n. Some (number_at station n history)) (sym same);
      }
    where
      data_channel : (link : OpenLink) → link_at handle facts.links ≡ Some link → (advertising : Bool)
          → is_advertising channel ≡ advertising
          → is_advertising channel ≡ false
      data_channel link at false is_off = is_off
      data_channel link at true is_on = absurd (
          let h : true ≡ false =
          sym (ap (sends_under handle) is ∙ on)
          ∙ other_sends facts handle channel octets link doing_here.phased.uses.sends at wanted is_on in
          absurd cc
          )

  abbrev Packet : Doing → Type 0
  Packet doing = IsPacketOf said (journal_of history) (side_of station) channel octets doing

  silent : (doing : Doing) → facts.turn.doing ≡ doing → is_some (phase_sending doing) ≡ false → Packet doing
  silent doing is none = absurd (
      let h : true ≡ false = sym (sends_some doing doing_here.wants.base channel octets (used doing is)) ∙ none in
      absurd cc
      )

  pub packet_of : (doing : Doing) → facts.turn.doing ≡ doing → Packet doing
  packet_of (Advertises due) is =
      pdu_as due (pdu_due said (Advertises due)) (advertisement_sent doing_here.wants.base) channel octets
      (ap advertisement_by (set.advertising ∙ doing_here.wants.advertising)) (used (Advertises due) is)
  packet_of (Responds due) is =
      pdu_as due (pdu_due said (Responds due)) (response_sent doing_here.wants.base) channel octets
      (ap response_by (set.advertising ∙ doing_here.wants.advertising)) (used (Responds due) is)
  packet_of (Requests due advertiser) is =
      pdu_as due (pdu_due said (Requests due advertiser))
      (request_sent advertiser doing_here.wants.base) channel octets
      (ap (request_by advertiser) (set.scanning ∙ ap without_reports doing_here.wants.scanning)
      ∙ request_same advertiser doing_here.wants.base.scanning.on) (used (Requests due advertiser) is)
  packet_of (Connects due link) is = pdu_on due (connect_sent link) channel octets (used (Connects due link) is)
  packet_of (CentralSends handle) is =
      of_link handle (CentralSends handle) is (same_number handle) (subst (IsReady facts) is doing_here.wants.is_open)
      (λ other same. same)
  packet_of (PeripheralSends handle) is =
      of_link handle (PeripheralSends handle) is (same_number handle)
      (subst (IsReady facts) is doing_here.wants.is_open) (λ other same. same)
  packet_of (AwaitsRequest due) is = silent (AwaitsRequest due) is refl
  packet_of (AwaitsResponse due) is = silent (AwaitsResponse due) is refl
  packet_of (Scans due) is = silent (Scans due) is refl
  packet_of (Initiates due) is = silent (Initiates due) is refl
  packet_of (CentralListens handle) is = silent (CentralListens handle) is refl
  packet_of (PeripheralListens handle) is = silent (PeripheralListens handle) is refl
  packet_of Rests is = silent Rests is refl
