-- What a packet on the air does to the counts of both ends of its link.
use Rattle.std.proofs.Common.{◌≡◌, ℕ, ◌+◌, ◌<◌, ◌==◌, ◌&&◌, ◌⊎◌, inl, inr, Bool, true, false, not, Option, Some, None, List, [], ◌∷◌, ◌++◌, length, take, refl, sym, ap, subst, ◌∙◌, arith}
use Rattle.std.specs.Prelude.{if◌then◌else◌}
use Rattle.std.proofs.lemmas.Bool.{eqb-true, eq-eqb, false_from_ne_true}
use Rattle.ble_base.specs.Side.{other_side}
use Rattle.ble_base.specs.declared.roles.Role.{Role}
use Rattle.ble_base.specs.declared.roles.Role.TheVariants.{Central, Peripheral}
use Rattle.ble_base.specs.declared.roles.Side.{Side}
use Rattle.ble_base.specs.declared.roles.Side.TheVariants.{A, B}
use Rattle.ble_base.specs.declared.verdicts.Verdict.TheVariants.{Forged, Good}
use Rattle.air_frame.specs.Packet.{access_octets}
use Rattle.journal_packets.specs.link_model.Packets.{pdu_sent, verdict_of}
use Rattle.journal_packets.specs.link_model.Data.{is_empty}
use Rattle.journal_packets.specs.run_laws.Shapes.{AgreeInShape}
use Rattle.link_calls.specs.Ranges.{HasRanges}
use Rattle.link_calls.proofs.InRange.{sent_ranges}
use Rattle.journal_packets.proofs.link_model.Hearing.{IsHeardWhole}
use Rattle.journal_packets.proofs.link_model.Llids.{past_llid}
use Rattle.journal_packets.specs.link_model.Acknowledgement.{Acknowledgement}
use Rattle.journal_packets.specs.link_model.Step.{PacketSent, PacketReceived}
use Rattle.journal_packets.specs.open_links.OpenLinks.{OpenLink, facts_in, link_after, link_at}
use Rattle.journal_packets.specs.controller_model.declared.doing.Turn.{Turn}
use Rattle.journal_packets.specs.controller_model.Facts.{Facts, Sends, Listens}
use Rattle.journal_packets.specs.controller_model.Packets.{verdict_of as verdict_at}
use Rattle.journal_packets.proofs.controller_model.Always.{IsAdvertisingChannel}
use Rattle.journal_packets.proofs.controller_model.DataChannels.{link_channel}
use Rattle.journal_packets.proofs.controller_model.Sent.{sends_well}
use Rattle.radio_replay.specs.declared.fates.Fate.{Fate}
use Rattle.radio_replay.specs.Damage.{damaged_packet}
use Rattle.link_calls.specs.run_model.Feeding.{AreDistinct}
use Rattle.link_calls.specs.run_model.History.{Event, Transmitted, Hearing, has_received, is_good, is_handed, packet_received, past_of, turns_begun}
use Rattle.link_calls.specs.run_model.Journal.{journal_of, side_of}
use Rattle.link_calls.specs.run_model.LinkEnds.{HaveAddresses}
use Rattle.link_calls.specs.run_model.Links.{is_advertising}
use Rattle.link_calls.specs.run_model.Run.{Given, facts_at, hearings_of, setup_at, unseen_in, use_at}
use Rattle.link_calls.proofs.run_model.LinkEnds.{is_listener, received_own, wanted_is}
use Rattle.link_calls.proofs.run_model.Stations.{is_in, among, in_more_other, in_more_same, not_before}
use Rattle.link_calls.proofs.run_model.Unseen.{good_is}
use Rattle.link_calls.proofs.run_model.Walk.{Place, AtPackets}
use Rattle.journal_packets.specs.run_laws.Ends.{HaveOneConnectInd}
use Rattle.journal_packets.proofs.run_laws.Agreed.{AgreeIn, ack_of}
use Rattle.journal_packets.proofs.run_laws.ByCalls.{Holds}
use Rattle.journal_packets.proofs.run_laws.ConnectInds.{on_channel}
use Rattle.journal_packets.proofs.run_laws.InAgreement.{AreStations, WithAllIn, differs_back}
use Rattle.journal_packets.proofs.run_laws.OpenSteps.{open_has}
use Rattle.journal_packets.proofs.run_laws.OwnLinks.{sent_begins}
use Rattle.journal_packets.proofs.run_laws.TurnPlaces.{Within}
use Rattle.journal_packets.specs.journal_links.Opened.{central_side}
use Rattle.journal_packets.specs.journal_links.Begun.{LinkBegun, link_numbered, links_begun}
use Rattle.journal_packets.specs.Belonging.{first_number, link_of_packet}
use Rattle.journal_packets.specs.Senders.{IsOfSendersLink}
use Rattle.journal_acks.specs.Counted.{IsCounted}
use Rattle.journal_acks.specs.Exchange.{Exchanged, after_packet, carries_empty, with_heard, with_sent}
use Rattle.journal_acks.proofs.Acks.{IsTold, hears_counted, takes_all, told}
use Rattle.journal_acks.proofs.Counting.{AreCountedSo, AreKnown, AreToTake, IsBegun, IsEndCounted, IsToTake, ahead_if, apart_numbers, facts_event, moved, none_to_take, one_begun, plain, ack_taking}
use Rattle.journal_acks.proofs.Exchanging.{exchange_at, number_at, number_sent}
use Rattle.journal_acks.proofs.FirstCounts.{IsFirst, first_event_at, first_old}
use Rattle.journal_acks.proofs.HandedOn.{forged_ack, forged_counted, heard_it, judged_link, with_handed}
use Rattle.link_calls.proofs.LinkPhases.{IsPhased}
use Rattle.link_calls.specs.Uses.{listens_under, sends_under}
use Rattle.journal_acks.proofs.SentLines.{air_line}
use Rattle.journal_acks.proofs.Standing.{AreOne, listener_role, listener_sends, listens_wanted, one_listened, other_listens, other_sends, phased_at, sender_role, sends_on, sends_other}
use Rattle.journal_packets.proofs.run_laws.Payloads.{payload_is, payload_short}
use Rattle.journal_packets.proofs.run_laws.Pieces.{sent_readable}
use Rattle.journal_acks.proofs.TwoStations.{IsHearing, IsOfTwo, after_air, air_of_link, air_quiet, good_handed, handed_begins, hearing_of, link_hears, one_hearing, other_is, other_of, reached, same_number, sent_empty, side_differs, side_other, side_same, unchanged}

-- ---- the counts of a side after a packet

own_after : (good empty : Bool) (station : ℕ) (ends : Side → Exchanged) → after_packet (side_of station) good empty ends (side_of station) ≡ with_sent (ends (side_of station))
own_after good empty station ends =
    ap (λ b. if b then with_sent (ends (side_of station))
    else (if good then with_heard empty (with_sent (ends (side_of station))) (ends (side_of station)) else ends (side_of station))) (side_same station)

other_after : (good empty : Bool) (station : ℕ) (ends : Side → Exchanged) → after_packet (side_of station) good empty ends (side_of (other_of station))
    ≡ (if good then with_heard empty (with_sent (ends (side_of station))) (ends (side_of (other_of station))) else ends (side_of (other_of station)))
other_after good empty station ends =
    ap (λ b. if b then with_sent (ends (side_of station))
    else (if good then with_heard empty (with_sent (ends (side_of station))) (ends (side_of (other_of station))) else ends (side_of (other_of station)))) (side_differs station)

deaf_after : (ours empty : Bool) (station : ℕ) (ends : Side → Exchanged) → after_air ours (side_of station) false empty ends (side_of (other_of station)) ≡ ends (side_of (other_of station))
deaf_after true empty station ends = other_after false empty station ends
deaf_after false empty station ends = refl

-- ---- one side, by what is sent and taken

pub any_sending : (unsent unsent_too : Bool) (received : Option (List ℕ)) (handle : ℕ) (turn : Turn) (link : OpenLink) (end : Exchanged) → sends_under handle turn.doing ≡ false
    → IsEndCounted unsent received handle turn link end → IsEndCounted unsent_too received handle turn link end
any_sending unsent unsent_too received handle turn link end none is =
    subst (λ b. IsCounted (ahead_if b end) (ack_taking (listens_under handle turn.doing) received turn.slot link))
    (ap (λ b. unsent && b) none ∙ no_one unsent ∙ sym (ap (λ b. unsent_too && b) none ∙ no_one unsent_too)) is
  where
    no_one : (b : Bool) → (b && false) ≡ false
    no_one true = refl
    no_one false = refl

any_taking : (unsent : Bool) (received received_too : Option (List ℕ)) (handle : ℕ) (turn : Turn) (link : OpenLink) (end : Exchanged) → listens_under handle turn.doing ≡ false
    → IsEndCounted unsent received handle turn link end → IsEndCounted unsent received_too handle turn link end
any_taking unsent received received_too handle turn link end none is =
    subst (λ b. IsCounted (ahead_if (unsent && sends_under handle turn.doing) end) (ack_taking b received_too turn.slot link)) (sym none)
    (subst (λ b. IsCounted (ahead_if (unsent && sends_under handle turn.doing) end) (ack_taking b received turn.slot link)) none is)

-- the packet that it was to send is on the air
was_sent : (received : Option (List ℕ)) (handle : ℕ) (turn : Turn) (link : OpenLink) (end : Exchanged) → sends_under handle turn.doing ≡ true
    → IsEndCounted true received handle turn link end → IsEndCounted false received handle turn link (with_sent end)
was_sent received handle turn link end on is =
    subst (λ b. IsCounted (ahead_if b end) (ack_taking (listens_under handle turn.doing) received turn.slot link)) on is

-- and its counts are those of the link then
sent_counted : (received : Option (List ℕ)) (handle : ℕ) (turn : Turn) (link : OpenLink) (end : Exchanged) → sends_under handle turn.doing ≡ true → listens_under handle turn.doing ≡ false
    → IsEndCounted true received handle turn link end → IsCounted (with_sent end) (ack_of link)
sent_counted received handle turn link end on off is =
    subst (λ b. IsCounted (with_sent end) (ack_taking b received turn.slot link)) off (was_sent received handle turn link end on is)

-- a packet that it is to take is on the air
takes : (unsent : Bool) (octets : List ℕ) (handle : ℕ) (turn : Turn) (link : OpenLink) (end : Exchanged) → listens_under handle turn.doing ≡ true → sends_under handle turn.doing ≡ false
    → IsCounted end (ack_taking true (Some octets) turn.slot link) → IsEndCounted unsent (Some octets) handle turn link end
takes unsent octets handle turn link end on none is =
    any_sending false unsent (Some octets) handle turn link end none
    (subst (λ b. IsCounted end (ack_taking b (Some octets) turn.slot link)) (sym on) is)

pub listener_off : (handle : ℕ) (turn : Turn) → sends_under handle turn.doing ≡ true → (listens : Bool) → listens_under handle turn.doing ≡ listens → listens ≡ false
listener_off handle turn on true is = absurd (let h : true ≡ false = sym on ∙ listener_sends handle turn.doing is in absurd cc)
listener_off handle turn on false is = refl

-- ---- both ends have one link

central_back : (side : Side) → other_side (other_side side) ≡ side
central_back A = refl
central_back B = refl

one_central : (phases station : ℕ) (one other : Role) → ((phases ≡ 0) × (one ≡ Central)) ⊎ ((phases ≡ 1) × (one ≡ Peripheral))
    → ((phases ≡ 0) × (other ≡ Peripheral)) ⊎ ((phases ≡ 1) × (other ≡ Central)) → central_side one (side_of station) ≡ central_side other (side_of (other_of station))
one_central phases station one other (inl a) (inl b) =
    ap (λ r. central_side r (side_of station)) a.1 ∙ sym (central_back (side_of station)) ∙ ap other_side (sym (side_other station))
    ∙ ap (λ r. central_side r (side_of (other_of station))) (sym b.1)
one_central phases station one other (inr a) (inr b) =
    ap (λ r. central_side r (side_of station)) a.1 ∙ sym (side_other station) ∙ ap (λ r. central_side r (side_of (other_of station))) (sym b.1)
one_central phases station one other (inl a) (inr b) = absurd (let x = a.0 in let y = b.0 in omega (arith, x, y))
one_central phases station one other (inr a) (inl b) = absurd (let x = a.0 in let y = b.0 in omega (arith, x, y))

pub advertises : (channel : ℕ) → IsAdvertisingChannel channel → is_advertising channel ≡ false → ⊥
advertises channel on off = let h : true ≡ false = sym (on_channel channel on) ∙ off in absurd cc

-- the counts of a link change only in a turn after that of its CONNECT_IND
pub first_aired : (number own station channel : ℕ) (octets : List ℕ) (history : List Event) (hearings : List Hearing) (hearing : Hearing) (link : LinkBegun) → hearings ≡ hearing ∷ []
    → is_advertising channel ≡ false → link_of_packet (journal_of history) (side_of station) octets ≡ Some own → link_numbered own (journal_of history) ≡ Some link
    → link.slot + 1 < turns_begun history → IsFirst number history → (same : Bool) → (own == number) ≡ same
    → IsFirst number (history ++ Transmitted station channel octets hearings ∷ [])
first_aired number own station channel octets history hearings hearing link has off belongs is later first true same =
    first_old number history (Transmitted station channel octets hearings) link (ap (λ n. link_numbered n (journal_of history)) (sym (eqb-true own number same)) ∙ is) later
first_aired number own station channel octets history hearings hearing link has off belongs is later first false same =
    first_event_at number history (Transmitted station channel octets hearings) (record {
      exchange = air_of_link number own station channel octets history hearings hearing has off belongs
          ∙ ap (λ b. after_air b (side_of station) (is_good hearing.verdict) (carries_empty (link_numbered number (journal_of history)) channel octets) (exchange_at number history)) same;
      lines = air_line number history station channel octets hearings;
    }) first

-- the sender of a packet has the other end of the link open on which a station takes it
pub record IsFar (given : Given) (history : List Event) (station other handle : ℕ) : Type 0 where
  pub far_handle : ℕ
  pub far : OpenLink
  pub is_open : link_at far_handle (facts_at given station history).links ≡ Some far
  pub same : number_at station far_handle history ≡ number_at other handle history

-- ---- a packet is on the air

module _ (whole : IsHeardWhole) (given : Given) (Q : Place → List Event → Type 0) (known : AreKnown given Q) (are_two : IsOfTwo given) (six : HaveAddresses given)
    (distinct : AreDistinct given.stations) (phases : ℕ) (done left : List ℕ) (station channel : ℕ) (octets : List ℕ) (fates : List Fate) (history : List Event)
    (are : given.stations ≡ done ++ station ∷ left) (wanted : use_at given station history ≡ Sends channel octets)
    (q : Q (AtPackets phases done (station ∷ left)) history) (holds : Holds given (AreStations given) (AtPackets phases done (station ∷ left)) history)
    (counted : AreCountedSo given history (λ one. not (is_in one done)) (λ one. packet_received one history)) where
  abbrev facts : ℕ → Facts
  facts one = facts_at given one history

  abbrev here : Place
  here = AtPackets phases done (station ∷ left)

  abbrev hearing : Hearing
  hearing = hearing_of given fates station channel octets history

  abbrev hearings : List Hearing
  hearings = hearings_of given fates station channel octets history

  abbrev after : List Event
  after = history ++ Transmitted station channel octets hearings ∷ []

  abbrev other : ℕ
  other = other_of station

  is : is_in station given.stations ≡ true
  is = among given.stations done left station are

  has : hearings ≡ hearing ∷ []
  has = one_hearing given are_two fates station channel octets history is

  got_good : has_received other hearings ≡ is_good hearing.verdict
  got_good = heard_it given are_two fates station channel octets history is

  phased : (one : ℕ) → is_in one given.stations ≡ true → IsPhased (setup_at given one) (Within phases) (turns_begun history) (facts one)
  phased one in_it = phased_at given here history holds.hearing.stand one in_it

  wants : (facts station).wanted ≡ Sends channel octets
  wants = wanted_is given station history ∙ wanted

  -- the station that sends it has its packet still to come
  before_sent : (handle : ℕ) (link : OpenLink) → link_at handle (facts station).links ≡ Some link
      → IsEndCounted true (packet_received station history) handle (facts station).turn link (exchange_at (number_at station handle history) history (side_of station))
  before_sent handle link is_open =
      subst (λ b. IsEndCounted (not b) (packet_received station history) handle (facts station).turn link (exchange_at (number_at station handle history) history (side_of station)))
      (not_before given.stations done left station distinct are) (counted station handle link is is_open)

  -- ---- on an advertising channel

  own_advertised : is_advertising channel ≡ true → (handle : ℕ) (link : OpenLink) → link_at handle (facts station).links ≡ Some link
      → IsEndCounted false (packet_received station history) handle (facts station).turn link (exchange_at (number_at station handle history) after (side_of station))
  own_advertised on handle link is_open =
      subst (λ e. IsEndCounted false (packet_received station history) handle (facts station).turn link e)
      (sym (ap (λ (ends : Side → Exchanged). ends (side_of station)) (air_quiet (number_at station handle history) station channel octets history hearings hearing has on)))
      (any_sending true false (packet_received station history) handle (facts station).turn link (exchange_at (number_at station handle history) history (side_of station))
      (other_sends (facts station) handle channel octets link (phased station is).uses.sends is_open wants on) (before_sent handle link is_open))

  other_advertised : is_advertising channel ≡ true → (one : ℕ) → is_in one given.stations ≡ true → (received : Bool) → has_received one hearings ≡ received → (handle : ℕ) (link : OpenLink)
      → link_at handle (facts one).links ≡ Some link
      → IsEndCounted (not (is_in one done)) (if received then Some octets else packet_received one history) handle (facts one).turn link
      (exchange_at (number_at one handle history) after (side_of one))
  other_advertised on one in_it received heard handle link is_open =
      subst (λ e. IsEndCounted (not (is_in one done)) (if received then Some octets else packet_received one history) handle (facts one).turn link e)
      (sym (ap (λ (ends : Side → Exchanged). ends (side_of one)) (air_quiet (number_at one handle history) station channel octets history hearings hearing has on)))
      (by received heard)
    where
      by : (b : Bool) → has_received one hearings ≡ b
          → IsEndCounted (not (is_in one done)) (if b then Some octets else packet_received one history) handle (facts_at given one history).turn link
          (exchange_at (number_at one handle history) history (side_of one))
      by true heard_one =
          any_taking (not (is_in one done)) (packet_received one history) (Some octets) handle (facts_at given one history).turn link (exchange_at (number_at one handle history) history (side_of one))
          (other_listens (facts_at given one history) handle channel link (phased one in_it).uses.in_turn.listens is_open
          (wanted_is given one history ∙ (is_listener given fates channel octets history station one heard_one).listens) on)
          (counted one handle link in_it is_open)
      by false heard_none = counted one handle link in_it is_open

  -- ---- on a data channel

  module _ (off : is_advertising channel ≡ false) where
    abbrev pub sent : IsOfSendersLink given history station channel octets
    sent = known.sends phases done left station history are q channel octets wanted off

    abbrev pub link_sent : OpenLink
    link_sent = link_after (PacketSent sent.slot) sent.link

    abbrev pub own_number : ℕ
    own_number = number_at station sent.handle history

    sender_ranges : HasRanges sent.link
    sender_ranges = sent_ranges true sent.slot sent.link (known.ranges here history q station sent.handle link_sent is sent.is_open)

    -- it is to send on that link
    pub sends_it : sends_under sent.handle (facts station).turn.doing ≡ true
    sends_it = sends_on sent.handle (facts station).turn.doing sent.sends

    exchanged : (number : ℕ) → own_number ≡ number → (side : Side)
        → exchange_at number after side ≡ after_packet (side_of station) (is_good hearing.verdict) (carries_empty (link_numbered number (journal_of history)) channel octets) (exchange_at number history) side
    exchanged number same side =
        ap (λ (ends : Side → Exchanged). ends side) (air_of_link number own_number station channel octets history hearings hearing has off sent.belongs
        ∙ ap (λ b. after_air b (side_of station) (is_good hearing.verdict) (carries_empty (link_numbered number (journal_of history)) channel octets) (exchange_at number history))
        (eq-eqb own_number number same))

    -- the counts of every other link stay
    unexchanged : (number : ℕ) → (own_number == number) ≡ false → (side : Side) → exchange_at number after side ≡ exchange_at number history side
    unexchanged number apart side =
        ap (λ (ends : Side → Exchanged). ends side) (air_of_link number own_number station channel octets history hearings hearing has off sent.belongs
        ∙ ap (λ b. after_air b (side_of station) (is_good hearing.verdict) (carries_empty (link_numbered number (journal_of history)) channel octets) (exchange_at number history)) apart)

    own_sent_by : (handle : ℕ) (link : OpenLink) → link_at handle (facts station).links ≡ Some link → (same : Bool) → (sent.handle == handle) ≡ same
        → IsEndCounted false (packet_received station history) handle (facts station).turn link (exchange_at (number_at station handle history) after (side_of station))
    own_sent_by handle link is_open true one =
        let equal = eqb-true sent.handle handle one in
        let number = number_at station handle history in
        subst (λ e. IsEndCounted false (packet_received station history) handle (facts station).turn link e)
        (sym (exchanged number (ap (λ h. number_at station h history) equal) (side_of station)
        ∙ own_after (is_good hearing.verdict) (carries_empty (link_numbered number (journal_of history)) channel octets) station (exchange_at number history)))
        (was_sent (packet_received station history) handle (facts station).turn link (exchange_at number history (side_of station))
        (ap (λ n. sends_under n (facts station).turn.doing) (sym equal) ∙ sends_it) (before_sent handle link is_open))
    own_sent_by handle link is_open false differs =
        let number = number_at station handle history in
        subst (λ e. IsEndCounted false (packet_received station history) handle (facts station).turn link e)
        (sym (unexchanged number (apart_numbers given Q known here history q station sent.handle handle link_sent link is sent.is_open is_open differs) (side_of station)))
        (any_sending true false (packet_received station history) handle (facts station).turn link (exchange_at number history (side_of station))
        (sends_other sent.handle handle (facts station).turn.doing sends_it differs) (before_sent handle link is_open))

    own_sent : (handle : ℕ) (link : OpenLink) → link_at handle (facts station).links ≡ Some link
        → IsEndCounted false (packet_received station history) handle (facts station).turn link (exchange_at (number_at station handle history) after (side_of station))
    own_sent handle link is_open = own_sent_by handle link is_open (sent.handle == handle) refl

    pub sender_counted : IsCounted (with_sent (exchange_at own_number history (side_of station))) (ack_of link_sent)
    sender_counted =
        let on = sends_it in
        sent_counted (packet_received station history) sent.handle (facts station).turn link_sent (exchange_at own_number history (side_of station)) on
        (listener_off sent.handle (facts station).turn on (listens_under sent.handle (facts station).turn.doing) refl) (before_sent sent.handle link_sent sent.is_open)

    -- what the radio left of it
    abbrev heard : List ℕ
    heard = damaged_packet hearing.fate octets

    -- what the other station hears
    module _ (is_too : is_in other given.stations ≡ true) (differs : (other == station) ≡ false)
        (silent : (one : ℕ) → is_in one given.stations ≡ true → (one == station) ≡ false → packet_received one history ≡ None) where
      -- the other station hears it on a link
      pub hears : is_handed hearing.verdict ≡ true → IsHearing (facts other) channel heard hearing.verdict
      hears handed =
          let is_reached = reached (use_at given other history) hearing.fate channel (facts other) heard handed in
          subst (IsHearing (facts other) channel heard) (sym is_reached.verdict_is)
          (link_hears (facts other) channel heard (subst (λ n. n < 37) (sym sent.channel_is) (link_channel sent.link))
          (sends_well (setup_at given other) (six other) (past_of other history)).does (phased other is_too).uses.in_turn.listens (phased other is_too).uses.scans
          (wanted_is given other history ∙ is_reached.listens) (ap is_handed (sym is_reached.verdict_is) ∙ handed))

      -- the counts of an end that listens, before it hears the packet
      pub before_heard : (handle : ℕ) (link : OpenLink) → link_at handle (facts other).links ≡ Some link → listens_under handle (facts other).turn.doing ≡ true
          → IsCounted (exchange_at (number_at other handle history) history (side_of other)) (ack_of link)
      before_heard handle link is_open listens =
          plain (not (is_in other done)) (packet_received other history) handle (facts other).turn link (exchange_at (number_at other handle history) history (side_of other))
          (listener_sends handle (facts other).turn.doing listens) (λ on. silent other is_too differs) (counted other handle link is_too is_open)

      -- it was not changed
      module _ (handed : is_handed hearing.verdict ≡ true) (same : heard ≡ octets) where
        pub heard_at : IsHearing (facts other) channel heard hearing.verdict
        heard_at = hears handed

        -- the link on which it listens
        module _ (handle : ℕ) (link : OpenLink) (is_open : link_at handle (facts other).links ≡ Some link) (listens : listens_under handle (facts other).turn.doing ≡ true) where
          pub one_heard : AreOne handle heard_at.handle link heard_at.link
          one_heard = one_listened (facts other).links (facts other).turn.doing handle heard_at.handle link heard_at.link listens heard_at.on is_open heard_at.is_open

          begins : take 4 octets ≡ access_octets link.setup.link.fields.access
          begins =
              ap (take 4) (sym same)
              ∙ subst (λ (l : OpenLink). take 4 heard ≡ access_octets l.setup.link.fields.access) (sym one_heard.links)
              (handed_begins heard_at.link.setup (facts_in heard_at.link) heard (ap is_handed (sym heard_at.verdict_is) ∙ handed))

          centrals : central_side link_sent.setup.link.role (side_of station) ≡ central_side link.setup.link.role (side_of other)
          centrals =
              one_central phases station link_sent.setup.link.role link.setup.link.role
              (sender_role phases (facts station).links (facts station).turn.doing sent.handle link_sent (phased station is).phase sends_it sent.is_open)
              (listener_role phases (facts other).links (facts other).turn.doing handle link (phased other is_too).phase listens is_open)

          -- the journal has one number for both of its ends
          pub heard_number : own_number ≡ number_at other handle history
          heard_number =
              let numbers : Some own_number ≡ Some (number_at other handle history) =
              sym (known.fits here history q station sent.handle link_sent octets is sent.is_open (ap (take 4) sent.packet ∙ sent_begins sent.link.setup (facts_in sent.link)))
              ∙ ap (λ s. first_number s octets 1 (links_begun (journal_of history))) centrals
              ∙ known.fits here history q other handle link octets is_too is_open begins in cc

          heard_begun : IsBegun history (number_at other handle history) other link.setup
          heard_begun = known.begun here history q other handle link is_too is_open

          heard_connect_ind : HaveOneConnectInd link_sent.setup link.setup
          heard_connect_ind = one_begun history own_number (number_at other handle history) station other link_sent link heard_number (known.begun here history q station sent.handle link_sent is sent.is_open) heard_begun

          heard_agreed : AgreeInShape (ack_of link_sent) (ack_of link)
          heard_agreed =
              let all = known.shapes whole here history q station other is is_too (differs_back other station differs) in
              let each = open_has (WithAllIn AgreeInShape (facts other).links) 0 sent.handle (facts station).links link_sent all sent.is_open in
              open_has (λ (l : OpenLink). AgreeIn AgreeInShape link_sent l) 0 handle (facts other).links link each is_open heard_connect_ind

    module _ (is_too : is_in other given.stations ≡ true) (differs : (other == station) ≡ false) (seen : unseen_in octets hearings ≡ None)
        (silent : (one : ℕ) → is_in one given.stations ≡ true → (one == station) ≡ false → packet_received one history ≡ None) where
      deaf_counted : is_good hearing.verdict ≡ false → (handle : ℕ) (link : OpenLink) → link_at handle (facts other).links ≡ Some link
          → IsEndCounted (not (is_in other done)) (packet_received other history) handle (facts other).turn link (exchange_at (number_at other handle history) after (side_of other))
      deaf_counted bad handle link is_open =
          let number = number_at other handle history in
          let empty = carries_empty (link_numbered number (journal_of history)) channel octets in
          subst (λ e. IsEndCounted (not (is_in other done)) (packet_received other history) handle (facts other).turn link e)
          (sym (ap (λ (ends : Side → Exchanged). ends (side_of other)) (air_of_link number own_number station channel octets history hearings hearing has off sent.belongs)
          ∙ ap (λ b. after_air (own_number == number) (side_of station) b empty (exchange_at number history) (side_of other)) bad
          ∙ deaf_after (own_number == number) empty station (exchange_at number history)))
          (counted other handle link is_too is_open)

      module _ (good : is_good hearing.verdict ≡ true) where
        pub handed : is_handed hearing.verdict ≡ true
        handed = good_handed hearing.verdict good

        pub same : heard ≡ octets
        same = unchanged octets hearing (ap (unseen_in octets) (sym has) ∙ seen) good

        abbrev pub listening : IsHearing (facts other) channel heard hearing.verdict
        listening = heard_at is_too differs silent handed same

        -- the link on which it listens
        module _ (handle : ℕ) (link : OpenLink) (is_open : link_at handle (facts other).links ≡ Some link) (listens : listens_under handle (facts other).turn.doing ≡ true) where
          pub one : AreOne handle listening.handle link listening.link
          one = one_heard is_too differs silent handed same handle link is_open listens

          pub one_number : own_number ≡ number_at other handle history
          one_number = heard_number is_too differs silent handed same handle link is_open listens

          begun : IsBegun history (number_at other handle history) other link.setup
          begun = heard_begun is_too differs silent handed same handle link is_open listens

          connect_ind : HaveOneConnectInd link_sent.setup link.setup
          connect_ind = heard_connect_ind is_too differs silent handed same handle link is_open listens

          agreed : AgreeInShape (ack_of link_sent) (ack_of link)
          agreed = heard_agreed is_too differs silent handed same handle link is_open listens

          on_channel_of : (facts_in sent.link).event.channel ≡ (facts_in link).event.channel
          on_channel_of = sym sent.channel_is ∙ listening.channel_is ∙ ap (λ (l : OpenLink). (facts_in l).event.channel) (sym one.links)

          judged_good : verdict_of link.setup (facts_in link) octets ≡ Good
          judged_good =
              ap (verdict_of link.setup (facts_in link)) (sym same) ∙ ap (λ (l : OpenLink). verdict_of l.setup (facts_in l) heard) one.links
              ∙ sym listening.verdict_is ∙ good_is hearing.verdict good

          before_taken : IsCounted (exchange_at (number_at other handle history) history (side_of other)) (ack_of link)
          before_taken = before_heard is_too differs silent handle link is_open listens

          empty_is : carries_empty (link_numbered (number_at other handle history) (journal_of history)) channel octets ≡ is_empty (pdu_sent (facts_in sent.link))
          empty_is =
              ap (λ may. carries_empty may channel octets) begun.is_link
              ∙ sent_empty whole sent.link.setup (facts_in sent.link) begun.link channel octets (past_llid sent.link.setup sent.link.past).1
              (payload_short (facts_in sent.link) (sent_readable sent.link sender_ranges)) (payload_is sent.link.setup sent.link.past)
              (begun.fields ∙ sym connect_ind.fields) sent.channel_is sent.packet

          abbrev waiting : Acknowledgement
          waiting = ack_taking true (Some octets) (facts other).turn.slot link

          -- what it tells the other end, while a PDU with a line of its own does not count
          tells : IsTold (ack_of link_sent) (ack_of link) (pdu_sent (facts_in sent.link)) waiting
          tells =
              told whole (facts other).turn.slot sent.slot link sent.link octets (sent_readable sent.link sender_ranges) connect_ind.fields sent.packet
              on_channel_of judged_good agreed

          sent_as : IsCounted (with_sent (exchange_at (number_at other handle history) history (side_of station))) (ack_of link_sent)
          sent_as = subst (λ n. IsCounted (with_sent (exchange_at n history (side_of station))) (ack_of link_sent)) one_number sender_counted

          taken_counted : IsEndCounted (not (is_in other done)) (Some octets) handle (facts other).turn link (exchange_at (number_at other handle history) after (side_of other))
          taken_counted =
              let number = number_at other handle history in
              let before = exchange_at number history in
              let empty = is_empty (pdu_sent (facts_in sent.link)) in
              let next = hears_counted (before (side_of other)) (with_sent (before (side_of station))) (ack_of link) (ack_of link_sent) waiting
              (pdu_sent (facts_in sent.link)) before_taken sent_as tells in
              subst (λ e. IsEndCounted (not (is_in other done)) (Some octets) handle (facts other).turn link e)
              (sym (exchanged number one_number (side_of other)
              ∙ other_after (is_good hearing.verdict) (carries_empty (link_numbered number (journal_of history)) channel octets) station before
              ∙ ap (λ b. if b then with_heard (carries_empty (link_numbered number (journal_of history)) channel octets) (with_sent (before (side_of station))) (before (side_of other)) else before (side_of other)) good
              ∙ ap (λ b. with_heard b (with_sent (before (side_of station))) (before (side_of other))) empty_is))
              (takes (not (is_in other done)) octets handle (facts other).turn link (with_heard empty (with_sent (before (side_of station))) (before (side_of other))) listens
              (listener_sends handle (facts other).turn.doing listens) next)

          -- where it takes one PDU more, it has taken as many as the other one sent
          is_to_take : (slot : ℕ) (room : Bool) → length (ack_of (link_after (PacketReceived slot octets room) link)).accepted ≡ length (ack_of link).accepted + 1
              → (exchange_at (number_at other handle history) after (other_side (side_of other))).sent ≡ length (ack_of link).accepted + 1
          is_to_take slot room more =
              let number = number_at other handle history in
              ap (λ s. (exchange_at number after s).sent) (ap other_side (side_other station) ∙ central_back (side_of station))
              ∙ ap (λ (e : Exchanged). e.sent) (exchanged number one_number (side_of station)
              ∙ own_after (is_good hearing.verdict) (carries_empty (link_numbered number (journal_of history)) channel octets) station (exchange_at number history))
              ∙ sent_as.sent
              ∙ takes_all whole slot sent.slot link sent.link octets (sent_readable sent.link sender_ranges) connect_ind.fields sent.packet
              on_channel_of judged_good agreed room more

        -- a link on which it does not listen
        other_kept : (handle : ℕ) (link : OpenLink) → link_at handle (facts other).links ≡ Some link → listens_under handle (facts other).turn.doing ≡ false
            → IsEndCounted (not (is_in other done)) (Some octets) handle (facts other).turn link (exchange_at (number_at other handle history) after (side_of other))
        other_kept handle link is_open none =
            let number = number_at other handle history in
            let differs_too : (listening.handle == handle) ≡ false = false_from_ne_true (listening.handle == handle) (λ same.
            let h : true ≡ false = sym listening.on ∙ ap (λ n. listens_under n (facts other).turn.doing) (eqb-true listening.handle handle same) ∙ none in absurd cc) in
            let apart : (own_number == number) ≡ false =
            ap (λ n. n == number) (one_number listening.handle listening.link listening.is_open listening.on)
            ∙ apart_numbers given Q known here history q other listening.handle handle listening.link link is_too listening.is_open is_open differs_too in
            subst (λ e. IsEndCounted (not (is_in other done)) (Some octets) handle (facts other).turn link e) (sym (unexchanged number apart (side_of other)))
            (any_taking (not (is_in other done)) (packet_received other history) (Some octets) handle (facts other).turn link (exchange_at number history (side_of other)) none
            (counted other handle link is_too is_open))

        good_counted : (handle : ℕ) (link : OpenLink) → link_at handle (facts other).links ≡ Some link → (listens : Bool) → listens_under handle (facts other).turn.doing ≡ listens
            → IsEndCounted (not (is_in other done)) (Some octets) handle (facts other).turn link (exchange_at (number_at other handle history) after (side_of other))
        good_counted handle link is_open true on = taken_counted handle link is_open on
        good_counted handle link is_open false none = other_kept handle link is_open none

      other_sent : (received : Bool) → is_good hearing.verdict ≡ received → (handle : ℕ) (link : OpenLink) → link_at handle (facts other).links ≡ Some link
          → IsEndCounted (not (is_in other done)) (if received then Some octets else packet_received other history) handle (facts other).turn link
          (exchange_at (number_at other handle history) after (side_of other))
      other_sent true good handle link is_open = good_counted good handle link is_open (listens_under handle (facts other).turn.doing) refl
      other_sent false bad handle link is_open = deaf_counted bad handle link is_open

  -- ---- both

  own_aired : (on : Bool) → is_advertising channel ≡ on → (handle : ℕ) (link : OpenLink) → link_at handle (facts station).links ≡ Some link
      → IsEndCounted false (packet_received station history) handle (facts station).turn link (exchange_at (number_at station handle history) after (side_of station))
  own_aired true on handle link is_open = own_advertised on handle link is_open
  own_aired false off handle link is_open = own_sent off handle link is_open

  other_aired : (on : Bool) → is_advertising channel ≡ on → is_in other given.stations ≡ true → (other == station) ≡ false → unseen_in octets hearings ≡ None
      → ((one : ℕ) → is_in one given.stations ≡ true → (one == station) ≡ false → packet_received one history ≡ None) → (handle : ℕ) (link : OpenLink)
      → link_at handle (facts other).links ≡ Some link
      → IsEndCounted (not (is_in other done)) (if has_received other hearings then Some octets else packet_received other history) handle (facts other).turn link
      (exchange_at (number_at other handle history) after (side_of other))
  other_aired true on is_too differs seen silent handle link is_open = other_advertised on other is_too (has_received other hearings) refl handle link is_open
  other_aired false off is_too differs seen silent handle link is_open =
      other_sent off is_too differs seen silent (has_received other hearings) (sym got_good) handle link is_open

  -- what the radio left of it
  abbrev left_of : List ℕ
  left_of = damaged_packet hearing.fate octets

  -- with what it is handed
  other_handed : is_in other given.stations ≡ true → (other == station) ≡ false → unseen_in octets hearings ≡ None
      → ((one : ℕ) → is_in one given.stations ≡ true → (one == station) ≡ false → packet_received one history ≡ None) → (handle : ℕ) (link : OpenLink)
      → link_at handle (facts other).links ≡ Some link
      → IsEndCounted (not (is_in other done)) (packet_received other after) handle (facts other).turn link (exchange_at (number_at other handle history) after (side_of other))
  other_handed is_too differs seen silent handle link is_open =
      let unsent = not (is_in other done) in
      let end = exchange_at (number_at other handle history) after (side_of other) in
      with_handed given are_two fates station channel octets history is (λ received. IsEndCounted unsent received handle (facts other).turn link end) seen
      (other_aired (is_advertising channel) refl is_too differs seen silent handle link is_open)
      (λ forged. forged_counted unsent (packet_received other history) left_of handle (facts other).turn link end (silent other is_too differs)
      (λ on. sym (judged_link (facts other) handle link left_of on is_open) ∙ forged))

  own_receives : packet_received station after ≡ packet_received station history
  own_receives = received_own given fates station channel octets history

  pub packet_counted : unseen_in octets hearings ≡ None → ((one : ℕ) → is_in one given.stations ≡ true → (one == station) ≡ false → packet_received one history ≡ None)
      → AreCountedSo given after (λ one. not (is_in one (done ++ station ∷ []))) (λ one. packet_received one after)
  packet_counted seen silent = λ one handle link in_it is_open. by one in_it (one == station) refl handle link (ap (λ (f : Facts). link_at handle f.links) (sym (same_facts one)) ∙ is_open)
    where
      same_facts : (one : ℕ) → facts_at given one (history ++ Transmitted station channel octets (hearings_of given fates station channel octets history) ∷ []) ≡ facts_at given one history
      same_facts one = facts_event given one history (Transmitted station channel octets (hearings_of given fates station channel octets history)) refl

      by : (one : ℕ) → is_in one given.stations ≡ true → (same : Bool) → (one == station) ≡ same → (handle : ℕ) (link : OpenLink) → link_at handle (facts_at given one history).links ≡ Some link
          → IsEndCounted (not (is_in one (done ++ station ∷ [])))
          (packet_received one (history ++ Transmitted station channel octets (hearings_of given fates station channel octets history) ∷ [])) handle
          (facts_at given one (history ++ Transmitted station channel octets (hearings_of given fates station channel octets history) ∷ [])).turn link
          (exchange_at (number_at one handle (history ++ Transmitted station channel octets (hearings_of given fates station channel octets history) ∷ []))
          (history ++ Transmitted station channel octets (hearings_of given fates station channel octets history) ∷ []) (side_of one))
      by one in_it true same handle link is_open =
          let equal = eqb-true one station same in
          subst (λ n. IsEndCounted (not (is_in n (done ++ station ∷ []))) (packet_received n after) handle (facts_at given n after).turn link (exchange_at (number_at n handle after) after (side_of n))) (sym equal)
          (moved handle link false (not (is_in station (done ++ station ∷ []))) (packet_received station history) (packet_received station after) (facts station).turn (facts_at given station after).turn
          (exchange_at (number_at station handle history) after (side_of station)) (exchange_at (number_at station handle after) after (side_of station))
          (ap not (in_more_same station station done (same_number station))) own_receives (ap (λ (f : Facts). f.turn) (same_facts station))
          (ap (λ n. exchange_at n after (side_of station)) (number_sent station handle history station channel octets hearings))
          (own_aired (is_advertising channel) refl handle link (subst (λ n. link_at handle (facts_at given n history).links ≡ Some link) equal is_open)))
      by one in_it false differs handle link is_open =
          let equal = other_is given are_two station one is in_it differs in
          subst (λ n. IsEndCounted (not (is_in n (done ++ station ∷ []))) (packet_received n after) handle (facts_at given n after).turn link (exchange_at (number_at n handle after) after (side_of n))) (sym equal)
          (let unlike = subst (λ n. (n == station) ≡ false) equal differs in
          moved handle link (not (is_in other done)) (not (is_in other (done ++ station ∷ []))) (packet_received other after) (packet_received other after)
          (facts other).turn (facts_at given other after).turn
          (exchange_at (number_at other handle history) after (side_of other)) (exchange_at (number_at other handle after) after (side_of other))
          (ap not (in_more_other other station done unlike)) refl (ap (λ (f : Facts). f.turn) (same_facts other))
          (ap (λ n. exchange_at n after (side_of other)) (number_sent other handle history station channel octets hearings))
          (other_handed (subst (λ n. is_in n given.stations ≡ true) equal in_it) unlike seen silent handle link
          (subst (λ n. link_at handle (facts_at given n history).links ≡ Some link) equal is_open)))

  -- ---- what is still to be taken

  none_listens : (handle : ℕ) (link : OpenLink) → link_at handle (facts station).links ≡ Some link → listens_under handle (facts station).turn.doing ≡ true → ⊥
  none_listens handle link is_open listens =
      let wanted_too = listens_wanted (facts station) handle link (facts station).turn.doing listens (phased station is).uses.in_turn.listens is_open in
      let h : Sends channel octets ≡ Listens (facts_in link).event.channel = sym wants ∙ wanted_too in absurd cc

  heard_to_take : (on : Bool) → is_advertising channel ≡ on → is_in other given.stations ≡ true → (other == station) ≡ false → unseen_in octets hearings ≡ None
      → ((one : ℕ) → is_in one given.stations ≡ true → (one == station) ≡ false → packet_received one history ≡ None) → has_received other hearings ≡ true
      → (handle : ℕ) (link : OpenLink) → link_at handle (facts other).links ≡ Some link
      → IsToTake (Some octets) handle (facts other).turn link (exchange_at (number_at other handle history) after (other_side (side_of other)))
  heard_to_take true on is_too differs seen silent got handle link is_open = λ heard listens same.
      let off = other_listens (facts other) handle channel link (phased other is_too).uses.in_turn.listens is_open
      (wanted_is given other history ∙ (is_listener given fates channel octets history station other got).listens) on in
      absurd (let h : true ≡ false = sym listens ∙ off in absurd cc)
  heard_to_take false off is_too differs seen silent got handle link is_open = λ heard listens same slot room more.
      let equal : octets ≡ heard = cc in
      let good = sym got_good ∙ got in
      is_to_take off is_too differs seen silent good handle link is_open listens slot room
      (subst (λ xs. length (ack_of (link_after (PacketReceived slot xs room) link)).accepted ≡ length (ack_of link).accepted + 1) (sym equal) more)

  other_to_take : (received : Bool) → has_received other hearings ≡ received → is_in other given.stations ≡ true → (other == station) ≡ false → unseen_in octets hearings ≡ None
      → ((one : ℕ) → is_in one given.stations ≡ true → (one == station) ≡ false → packet_received one history ≡ None) → (handle : ℕ) (link : OpenLink)
      → link_at handle (facts other).links ≡ Some link
      → IsToTake (if received then Some octets else packet_received other history) handle (facts other).turn link
      (exchange_at (number_at other handle history) after (other_side (side_of other)))
  other_to_take true got is_too differs seen silent handle link is_open = heard_to_take (is_advertising channel) refl is_too differs seen silent got handle link is_open
  other_to_take false got is_too differs seen silent handle link is_open =
      none_to_take (packet_received other history) handle (facts other).turn link (exchange_at (number_at other handle history) after (other_side (side_of other)))
      (silent other is_too differs)

  -- a packet that is forged to it counts nothing
  forged_to_take : (handle : ℕ) (link : OpenLink) → link_at handle (facts other).links ≡ Some link → verdict_at (facts other) left_of ≡ Forged
      → IsToTake (Some left_of) handle (facts other).turn link (exchange_at (number_at other handle history) after (other_side (side_of other)))
  forged_to_take handle link is_open forged = λ left on some slot room more.
      let equal : left_of ≡ left = cc in
      let judged = sym (judged_link (facts other) handle link left_of on is_open) ∙ forged in
      let same = ap (λ (a : Acknowledgement). length a.accepted)
      (forged_ack slot left link (ap (verdict_of link.setup (facts_in link)) (sym equal) ∙ judged) room) in
      absurd (omega (arith, same, more))

  handed_to_take : is_in other given.stations ≡ true → (other == station) ≡ false → unseen_in octets hearings ≡ None
      → ((one : ℕ) → is_in one given.stations ≡ true → (one == station) ≡ false → packet_received one history ≡ None) → (handle : ℕ) (link : OpenLink)
      → link_at handle (facts other).links ≡ Some link
      → IsToTake (packet_received other after) handle (facts other).turn link (exchange_at (number_at other handle history) after (other_side (side_of other)))
  handed_to_take is_too differs seen silent handle link is_open =
      let from = exchange_at (number_at other handle history) after (other_side (side_of other)) in
      with_handed given are_two fates station channel octets history is (λ received. IsToTake received handle (facts other).turn link from) seen
      (other_to_take (has_received other hearings) refl is_too differs seen silent handle link is_open)
      (λ forged take. forged_to_take handle link is_open forged)

  pub packet_to_take : unseen_in octets hearings ≡ None → ((one : ℕ) → is_in one given.stations ≡ true → (one == station) ≡ false → packet_received one history ≡ None)
      → AreToTake given after
  packet_to_take seen silent = λ one handle link in_it is_open. by one handle link in_it (ap (λ (f : Facts). link_at handle f.links) (sym (same_facts one)) ∙ is_open) (one == station) refl
    where
      same_facts : (one : ℕ) → facts_at given one (history ++ Transmitted station channel octets (hearings_of given fates station channel octets history) ∷ []) ≡ facts_at given one history
      same_facts one = facts_event given one history (Transmitted station channel octets (hearings_of given fates station channel octets history)) refl

      by : (one handle : ℕ) (link : OpenLink) → is_in one given.stations ≡ true → link_at handle (facts_at given one history).links ≡ Some link → (same : Bool) → (one == station) ≡ same
          → IsToTake (packet_received one (history ++ Transmitted station channel octets (hearings_of given fates station channel octets history) ∷ [])) handle
          (facts_at given one (history ++ Transmitted station channel octets (hearings_of given fates station channel octets history) ∷ [])).turn link
          (exchange_at (number_at one handle (history ++ Transmitted station channel octets (hearings_of given fates station channel octets history) ∷ []))
          (history ++ Transmitted station channel octets (hearings_of given fates station channel octets history) ∷ []) (other_side (side_of one)))
      by one handle link in_it is_open true same = λ heard listens some.
          let equal = eqb-true one station same in
          absurd (none_listens handle link (subst (λ n. link_at handle (facts_at given n history).links ≡ Some link) equal is_open)
          (ap (λ n. listens_under handle (facts_at given n history).turn.doing) (sym equal) ∙ ap (λ (f : Facts). listens_under handle f.turn.doing) (sym (same_facts one)) ∙ listens))
      by one handle link in_it is_open false differs = λ heard listens some slot room more.
          let equal = other_is given are_two station one is in_it differs in
          let take = subst (λ n. IsToTake (packet_received n after) handle (facts n).turn link (exchange_at (number_at n handle history) after (other_side (side_of n)))) (sym equal)
          (handed_to_take (subst (λ n. is_in n given.stations ≡ true) equal in_it) (subst (λ n. (n == station) ≡ false) equal differs) seen silent handle link
          (subst (λ n. link_at handle (facts_at given n history).links ≡ Some link) equal is_open)) in
          ap (λ n. (exchange_at n after (other_side (side_of one))).sent) (number_sent one handle history station channel octets hearings)
          ∙ take heard (ap (λ (f : Facts). listens_under handle f.turn.doing) (sym (same_facts one)) ∙ listens) some slot room more

  -- ---- the other end of the link

  far_by : (on : Bool) → is_advertising channel ≡ on → is_in other given.stations ≡ true → (other == station) ≡ false → unseen_in octets hearings ≡ None
      → ((one : ℕ) → is_in one given.stations ≡ true → (one == station) ≡ false → packet_received one history ≡ None) → has_received other hearings ≡ true
      → (handle : ℕ) (link : OpenLink) → link_at handle (facts other).links ≡ Some link → listens_under handle (facts other).turn.doing ≡ true
      → IsFar given history station other handle
  far_by true on is_too differs seen silent got handle link is_open listens =
      let off = other_listens (facts other) handle channel link (phased other is_too).uses.in_turn.listens is_open
      (wanted_is given other history ∙ (is_listener given fates channel octets history station other got).listens) on in
      absurd (let h : true ≡ false = sym listens ∙ off in absurd cc)
  far_by false off is_too differs seen silent got handle link is_open listens = record {
    far_handle = (sent off).handle;
    far = link_sent off;
    is_open = (sent off).is_open;
    same = one_number off is_too differs seen silent (sym got_good ∙ got) handle link is_open listens;
  }

  pub packet_far : is_in other given.stations ≡ true → (other == station) ≡ false → unseen_in octets hearings ≡ None
      → ((one : ℕ) → is_in one given.stations ≡ true → (one == station) ≡ false → packet_received one history ≡ None) → has_received other hearings ≡ true
      → (handle : ℕ) (link : OpenLink) → link_at handle (facts other).links ≡ Some link → listens_under handle (facts other).turn.doing ≡ true
      → IsFar given history station other handle
  packet_far is_too differs seen silent got handle link is_open listens =
      far_by (is_advertising channel) refl is_too differs seen silent got handle link is_open listens
