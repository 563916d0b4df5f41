-- What the events of open ends hold was on the air, after a packet on the air.
use Rattle.std.proofs.Common.{◌≡◌, ℕ, zero, suc, ◌+◌, ◌==◌, ◌&&◌, Bool, true, false, not, Option, Some, None, List, [], ◌∷◌, ◌++◌, length, take, refl, sym, ap, subst, ◌∙◌, append-nil}
use Rattle.std.specs.Prelude.{if◌then◌else◌}
use Rattle.std.specs.Str.{bytes_eq}
use Rattle.std.proofs.lemmas.Bool.{eqb-true, false_from_ne_true, and_right}
use Rattle.ble_base.specs.Side.{other_side}
use Rattle.ble_base.specs.declared.roles.Side.{Side}
use Rattle.ble_base.specs.declared.verdicts.Verdict.TheVariants.{Forged}
use Rattle.air_frame.specs.declared.Heard.{Heard}
use Rattle.air_frame.specs.declared.Heard.TheVariants.{NotOurs, Broken, Whole}
use Rattle.air_frame.specs.Hearing.{heard_in}
use Rattle.air_frame.specs.Packet.{access_octets, is_packet, pdu_in}
use Rattle.data_pdu.specs.declared.header.DataHeader.{DataHeader}
use Rattle.data_pdu.specs.Header.{header_in, octets_of}
use Rattle.journal.specs.declared.entries.Entry.{Entry}
use Rattle.journal.specs.declared.entries.Entry.TheVariants.{Air}
use Rattle.journal_acks.specs.link_model.Facts.{Facts as EndFacts}
use Rattle.journal_acks.specs.link_model.Packets.{header_sent, more_sent, packet_sent, payload_sent, verdict_of}
use Rattle.journal_acks.specs.link_model.Setup.{Setup as EndSetup}
use Rattle.journal_acks.specs.link_model.Step.{PacketReceived, PacketSent}
use Rattle.journal_acks.proofs.link_model.Hearing.{IsHeardWhole}
use Rattle.journal_acks.proofs.link_model.Received.{has_header, in_form}
use Rattle.journal_acks.specs.open_links.OpenLinks.{OpenLink, facts_in, link_after, link_at}
use Rattle.journal_acks.specs.controller_model.declared.doing.Turn.{Turn}
use Rattle.journal_acks.specs.controller_model.Facts.{Facts, Sends}
use Rattle.radio_replay.specs.declared.fates.Fate.{Fate}
use Rattle.radio_replay.specs.Damage.{damaged_packet}
use Rattle.journal_acks.specs.run_model.Feeding.{AreDistinct}
use Rattle.journal_acks.specs.run_model.History.{Event, Hearing, Transmitted, has_received, is_good, packet_received, turns_begun}
use Rattle.journal_acks.specs.run_model.Journal.{air_entries, entries_of, journal_of, mark_of, side_of}
use Rattle.journal_acks.specs.run_model.LinkEnds.{HaveAddresses}
use Rattle.journal_acks.specs.run_model.Links.{is_advertising, links_of}
use Rattle.journal_acks.specs.run_model.Readers.{turns_of}
use Rattle.journal_acks.specs.run_model.Run.{Given, facts_at, hearings_of, unseen_in, use_at}
use Rattle.journal_acks.proofs.run_model.Fates.{turns_are}
use Rattle.journal_acks.proofs.run_model.LinkEnds.{is_listener, received_own, wanted_is}
use Rattle.journal_acks.proofs.run_model.Parts.{journal_event}
use Rattle.journal_acks.proofs.run_model.Stations.{among, in_more_other, in_more_same, is_in, not_before}
use Rattle.journal_acks.proofs.run_model.Unseen.{good_is}
use Rattle.journal_acks.proofs.run_model.Walk.{AtPackets, Place}
use Rattle.journal_acks.proofs.run_laws.TurnPlaces.{Within, at_stage}
use Rattle.journal_acks.specs.journal_packets.Belonging.{link_of_packet}
use Rattle.journal_acks.specs.journal_packets.Senders.{IsOfSendersLink}
use Rattle.journal_acks.proofs.AirCounts.{listening, one as same_link, one_number}
use Rattle.journal_acks.proofs.Counting.{AreKnown, facts_event, taking_if}
use Rattle.journal_acks.proofs.Exchanging.{number_at, number_sent}
use Rattle.journal_acks.proofs.HandedOn.{forged_facts, heard_it, judged_link, with_handed}
use Rattle.journal_acks.proofs.KeptCounts.{AreCountedAt}
use Rattle.journal_acks.specs.link_calls.Ranges.{IsReadable}
use Rattle.journal_acks.specs.link_calls.Uses.{listens_under, sends_under}
use Rattle.journal_acks.proofs.link_calls.InRange.{sent_ranges}
use Rattle.journal_acks.proofs.link_calls.Pieces.{sent_readable}
use Rattle.journal_acks.proofs.run_laws.Payloads.{payload_short}
use Rattle.journal_acks.proofs.Standing.{PhasedBy, listener_sends, other_listens, other_sends, phased_at, sends_on, sends_other}
use Rattle.journal_acks.proofs.TwoStations.{IsOfTwo, hearing_of, one_hearing, other_is, other_of, same_number}
use Rattle.journal_acks.proofs.link_calls.UnderHandles.{same_base}
use Rattle.journal_slots.specs.SecondSlot.{PacketInSlot, has_more}
use Rattle.journal_slots.proofs.OnAir.{IsEndOnAir, IsOnAir, WasOnAir, moved, on_air_stays, plain, received_on_air, sent_on_air}
use Rattle.journal_slots.proofs.OnAirCalls.{AreOnAirSo}

-- ---- MD of a packet that an end sends

abbrev items_of : Heard → List ℕ
items_of NotOurs = []
items_of Broken = []
items_of (Whole pdu) = pdu.items

whole_pdu : (channel access init : ℕ) (octets pdu : List ℕ) → heard_in channel access init octets ≡ Whole (record { items = pdu }) → pdu_in channel octets ≡ pdu
unfolding heard_in
whole_pdu channel access init octets pdu is = by (bytes_eq (take 4 octets) (access_octets access)) (is_packet channel access init octets) (pdu_in channel octets) is
  where
    by : (ours whole : Bool) (found : List ℕ) → (if ours then (if whole then Whole (record { items = found }) else Broken) else NotOurs) ≡ Whole (record { items = pdu }) → found ≡ pdu
    by true true found same = ap items_of same
    by true false found same = absurd cc
    by false whole found same = absurd cc

packet_says_more : IsHeardWhole → (setup : EndSetup) (facts : EndFacts) → IsReadable facts → has_more facts.event.channel (packet_sent setup facts) ≡ more_sent facts
unfolding packet_sent
packet_says_more whole setup facts form =
    let pdu = octets_of (header_sent facts) ++ payload_sent facts in
    ap (λ xs. (header_in xs).md)
    (whole_pdu facts.event.channel setup.link.fields.access setup.link.fields.crc_init (packet_sent setup facts) pdu
    (whole facts.event.channel setup.link.fields.access setup.link.fields.crc_init pdu (in_form (length (payload_sent facts)) (payload_short facts form))))
    ∙ ap (λ (h : DataHeader). h.md) (has_header facts facts form.llid (payload_sent facts)).read

-- ---- the line of the packet

-- the journal with it
journal_with_line : (history : List Event) (station channel : ℕ) (octets : List ℕ) (hearings : List Hearing) (hearing : Hearing) → hearings ≡ hearing ∷ []
    → journal_of (history ++ Transmitted station channel octets hearings ∷ []) ≡ journal_of history ++ Air (side_of station) channel octets (mark_of hearing.fate) hearing.verdict ∷ []
journal_with_line history station channel octets hearings hearing has =
    journal_event history (Transmitted station channel octets hearings) ∙ ap (λ xs. journal_of history ++ air_entries (side_of station) channel octets xs) has

-- it is a packet of its link in the slot of this turn
abbrev packet_of_line : (number slot : ℕ) (sender : Side) (history : List Event) (station channel : ℕ) (octets : List ℕ) (hearings : List Hearing) (hearing : Hearing) → hearings ≡ hearing ∷ []
    → sender ≡ side_of station → is_advertising channel ≡ false → link_of_packet (journal_of history) (side_of station) octets ≡ Some number → length (turns_of (journal_of history)) ≡ slot + 1
    → PacketInSlot number slot sender (journal_of (history ++ Transmitted station channel octets hearings ∷ []))
packet_of_line number slot sender history station channel octets hearings hearing has same off belongs turns = record {
  before = journal_of history;
  channel = channel;
  octets = octets;
  fate = mark_of hearing.fate;
  verdict = hearing.verdict;
  after = [];
  is_at = journal_with_line history station channel octets hearings hearing has
      ∙ ap (λ s. journal_of history ++ Air s channel octets (mark_of hearing.fate) hearing.verdict ∷ []) (sym same);
  on_data_channel = off;
  belongs = ap (λ s. link_of_packet (journal_of history) s octets) same ∙ belongs;
  in_turn = turns;
}

other_back : (station : ℕ) → other_side (side_of (other_of station)) ≡ side_of station
other_back zero = refl
other_back (suc station) = refl

-- ---- small steps

-- an end that sends nothing, or takes nothing
pub any_sending : (unsent unsent_too : Bool) (received : Option (List ℕ)) (handle : ℕ) (turn : Turn) (link : OpenLink) (number : ℕ) (side : Side) (journal : List Entry)
    → sends_under handle turn.doing ≡ false → IsEndOnAir unsent received handle turn link number side journal → IsEndOnAir unsent_too received handle turn link number side journal
any_sending unsent unsent_too received handle turn link number side journal none was =
    subst (λ b. WasOnAir b turn.slot (taking_if (listens_under handle turn.doing) received turn.slot link) number side journal)
    (ap (λ b. unsent && b) none ∙ no_one unsent ∙ sym (ap (λ b. unsent_too && b) none ∙ no_one unsent_too)) was
  where
    no_one : (b : Bool) → (b && false) ≡ false
    no_one true = refl
    no_one false = refl

any_taking : (unsent : Bool) (received received_too : Option (List ℕ)) (handle : ℕ) (turn : Turn) (link : OpenLink) (number : ℕ) (side : Side) (journal : List Entry)
    → listens_under handle turn.doing ≡ false → IsEndOnAir unsent received handle turn link number side journal → IsEndOnAir unsent received_too handle turn link number side journal
any_taking unsent received received_too handle turn link number side journal none was =
    subst (λ b. WasOnAir (unsent && sends_under handle turn.doing) turn.slot (taking_if b received_too turn.slot link) number side journal) (sym none)
    (subst (λ b. WasOnAir (unsent && sends_under handle turn.doing) turn.slot (taking_if b received turn.slot link) number side journal) none was)

pub listener_off : (handle : ℕ) (turn : Turn) → sends_under handle turn.doing ≡ true → listens_under handle turn.doing ≡ false
listener_off handle turn on =
    false_from_ne_true (listens_under handle turn.doing) (λ listens. let h : true ≡ false = sym on ∙ listener_sends handle turn.doing listens in absurd cc)

-- the packet that it was to send is on the air
was_sent : (received : Option (List ℕ)) (handle : ℕ) (turn : Turn) (link : OpenLink) (number : ℕ) (side : Side) (journal rest : List Entry) → sends_under handle turn.doing ≡ true
    → ((base : OpenLink) → link ≡ link_after (PacketSent turn.slot) base → IsOnAir number side (journal ++ rest) (facts_in base).event
    → IsOnAir number side (journal ++ rest) (facts_in (link_after (PacketSent turn.slot) base)).event)
    → IsEndOnAir true received handle turn link number side journal → IsEndOnAir false received handle turn link number side (journal ++ rest)
was_sent received handle turn link number side journal rest on sent was =
    let late : WasOnAir true turn.slot link number side journal =
    subst (λ b. WasOnAir true turn.slot (taking_if b received turn.slot link) number side journal) (listener_off handle turn on)
    (subst (λ b. WasOnAir b turn.slot (taking_if (listens_under handle turn.doing) received turn.slot link) number side journal) on was) in
    subst (λ b. WasOnAir false turn.slot (taking_if b received turn.slot link) number side (journal ++ rest)) (sym (listener_off handle turn on)) (record {
      base = link;
      is = refl;
      on_air = subst (λ (l : OpenLink). IsOnAir number side (journal ++ rest) (facts_in l).event) (sym late.is)
          (sent late.base late.is (on_air_stays number side journal rest (facts_in late.base).event late.on_air));
    })

-- a packet that it is to take is on the air
is_taken : (unsent : Bool) (octets : List ℕ) (handle : ℕ) (turn : Turn) (link : OpenLink) (number : ℕ) (side : Side) (journal : List Entry) → listens_under handle turn.doing ≡ true
    → IsOnAir number side journal (facts_in (link_after (PacketReceived turn.slot octets false) link)).event → IsEndOnAir unsent (Some octets) handle turn link number side journal
is_taken unsent octets handle turn link number side journal on on_air =
    any_sending false unsent (Some octets) handle turn link number side journal (listener_sends handle turn.doing on)
    (subst (λ b. WasOnAir false turn.slot (taking_if b (Some octets) turn.slot link) number side journal) (sym on)
    (record { base = link_after (PacketReceived turn.slot octets false) link; is = refl; on_air = on_air }))

-- one that is forged to it changes nothing
forged_on_air : (unsent : Bool) (received : Option (List ℕ)) (octets : List ℕ) (handle : ℕ) (turn : Turn) (link : OpenLink) (number : ℕ) (side : Side) (journal : List Entry) → received ≡ None
    → (listens_under handle turn.doing ≡ true → verdict_of link.setup (facts_in link) octets ≡ Forged) → IsEndOnAir unsent received handle turn link number side journal
    → IsEndOnAir unsent (Some octets) handle turn link number side journal
forged_on_air unsent received octets handle turn link number side journal none forged was = by (listens_under handle turn.doing) refl
  where
    by : (listens : Bool) → listens_under handle turn.doing ≡ listens → IsEndOnAir unsent (Some octets) handle turn link number side journal
    by true on =
        is_taken unsent octets handle turn link number side journal on
        (subst (IsOnAir number side journal) (sym (ap (λ (f : EndFacts). f.event) (forged_facts turn.slot octets link (forged on) false)))
        (plain unsent received handle turn link number side journal (and_right unsent (sends_under handle turn.doing) (listener_sends handle turn.doing on)) (λ listens. none) was))
    by false off = any_taking unsent received (Some octets) handle turn link number side journal off was

-- ---- a packet is on the air

module _ (whole : IsHeardWhole) (given : Given) (Q : Place → List Event → Type 0) (known : AreKnown given Q) (are_two : IsOfTwo given) (six : HaveAddresses given)
    (distinct : AreDistinct given.stations) (phases : ℕ) (done left : List ℕ) (station channel : ℕ) (octets : List ℕ) (fates : List Fate) (history : List Event)
    (are : given.stations ≡ done ++ station ∷ left) (wanted : use_at given station history ≡ Sends channel octets)
    (has : AreCountedAt given Q (AtPackets phases done (station ∷ left)) history)
    (on_air : AreOnAirSo given history (λ one. not (is_in one done)) (λ one. packet_received one history)) where
  abbrev facts : ℕ → Facts
  facts one = facts_at given one history

  abbrev here : Place
  here = AtPackets phases done (station ∷ left)

  abbrev hearing : Hearing
  hearing = hearing_of given fates station channel octets history

  abbrev hearings : List Hearing
  hearings = hearings_of given fates station channel octets history

  abbrev after : List Event
  after = history ++ Transmitted station channel octets hearings ∷ []

  abbrev other : ℕ
  other = other_of station

  abbrev line : List Entry
  line = entries_of (links_of history) (Transmitted station channel octets hearings)

  in_it : is_in station given.stations ≡ true
  in_it = among given.stations done left station are

  has_one : hearings ≡ hearing ∷ []
  has_one = one_hearing given are_two fates station channel octets history in_it

  grown : journal_of after ≡ journal_of history ++ line
  grown = journal_event history (Transmitted station channel octets hearings)

  phased : (one : ℕ) → is_in one given.stations ≡ true → PhasedBy given history one (at_stage (Within phases) (turns_begun history))
  phased one is = phased_at given here history has.holds.hearing.stand one is

  -- the slot of this turn
  turns : (one : ℕ) → is_in one given.stations ≡ true → length (turns_of (journal_of history)) ≡ (facts one).turn.slot + 1
  turns one is = turns_are history ∙ sym (phased one is).uses.in_turn.slot_is

  before_sent : (handle : ℕ) (link : OpenLink) → link_at handle (facts station).links ≡ Some link
      → IsEndOnAir true (packet_received station history) handle (facts station).turn link (number_at station handle history) (side_of station) (journal_of history)
  before_sent handle link at =
      subst (λ b. IsEndOnAir (not b) (packet_received station history) handle (facts station).turn link (number_at station handle history) (side_of station) (journal_of history))
      (not_before given.stations done left station distinct are) (on_air station handle link in_it at)

  -- with its line
  with_line : (unsent : Bool) (received : Option (List ℕ)) (one handle : ℕ) (link : OpenLink)
      → IsEndOnAir unsent received handle (facts one).turn link (number_at one handle history) (side_of one) (journal_of history)
      → IsEndOnAir unsent received handle (facts one).turn link (number_at one handle history) (side_of one) (journal_of after)
  with_line unsent received one handle link was =
      let turn = (facts one).turn in
      let number = number_at one handle history in
      moved handle link (side_of one) unsent unsent received received turn turn number number (journal_of history) (journal_of after) line refl refl refl refl grown was

  -- ---- the station that sends it

  abbrev IsOwnThen : ℕ → OpenLink → Type 0
  IsOwnThen handle link = IsEndOnAir false (packet_received station history) handle (facts station).turn link (number_at station handle history) (side_of station) (journal_of after)

  own_silent : (handle : ℕ) (link : OpenLink) → link_at handle (facts station).links ≡ Some link → sends_under handle (facts station).turn.doing ≡ false → IsOwnThen handle link
  own_silent handle link at none =
      any_sending true false (packet_received station history) handle (facts station).turn link (number_at station handle history) (side_of station) (journal_of after) none
      (with_line true (packet_received station history) station handle link (before_sent handle link at))

  module _ (off : is_advertising channel ≡ false) where
    abbrev sent : IsOfSendersLink given history station channel octets
    sent = known.sends phases done left station history are has.known channel octets wanted off

    abbrev own : ℕ
    own = number_at station sent.handle history

    sends_it : sends_under sent.handle (facts station).turn.doing ≡ true
    sends_it = sends_on sent.handle (facts station).turn.doing sent.sends

    -- it says whether more waits at the end that sent it
    says : has_more channel octets ≡ more_sent (facts_in sent.link)
    says =
        (λ i. has_more (sent.channel_is i) (sent.packet i)) ∙ packet_says_more whole sent.link.setup (facts_in sent.link) (sent_readable sent.link (sent_ranges true sent.slot sent.link
        (known.ranges here history has.known station sent.handle (link_after (PacketSent sent.slot) sent.link) in_it sent.is_open)))

    own_sent : (link : OpenLink) → link_at sent.handle (facts station).links ≡ Some link → IsOwnThen sent.handle link
    own_sent link at =
        let slot = (facts station).turn.slot in
        subst (IsEndOnAir false (packet_received station history) sent.handle (facts station).turn link own (side_of station)) (sym grown)
        (was_sent (packet_received station history) sent.handle (facts station).turn link own (side_of station) (journal_of history) line sends_it
        (λ base is then_on.
        let some : Some (link_after (PacketSent sent.slot) sent.link) ≡ Some link = sym sent.is_open ∙ at in
        let equal : link_after (PacketSent sent.slot) sent.link ≡ link = cc in
        let same : sent.link ≡ base = same_base sent.slot slot sent.link base (equal ∙ is) in
        subst (λ xs. IsOnAir own (side_of station) xs (facts_in (link_after (PacketSent slot) base)).event) grown
        (sent_on_air own (side_of station) (journal_of after) slot base (subst (λ xs. IsOnAir own (side_of station) xs (facts_in base).event) (sym grown) then_on)
        (packet_of_line own slot (side_of station) history station channel octets hearings hearing has_one refl off sent.belongs (turns station in_it))
        (says ∙ ap (λ (l : OpenLink). more_sent (facts_in l)) same)))
        (before_sent sent.handle link at))

    own_by : (handle : ℕ) (link : OpenLink) → link_at handle (facts station).links ≡ Some link → (same : Bool) → (sent.handle == handle) ≡ same → IsOwnThen handle link
    own_by handle link at true one =
        let equal = eqb-true sent.handle handle one in
        subst (λ n. IsOwnThen n link) equal (own_sent link (ap (λ n. link_at n (facts station).links) equal ∙ at))
    own_by handle link at false differs = own_silent handle link at (sends_other sent.handle handle (facts station).turn.doing sends_it differs)

  own_aired : (on : Bool) → is_advertising channel ≡ on → (handle : ℕ) (link : OpenLink) → link_at handle (facts station).links ≡ Some link → IsOwnThen handle link
  own_aired true on handle link at =
      own_silent handle link at
      (other_sends (facts station) handle channel octets link (phased station in_it).uses.sends at (wanted_is given station history ∙ wanted) on)
  own_aired false off handle link at = own_by off handle link at ((sent off).handle == handle) refl

  -- ---- the other one, with the packet that it received

  abbrev IsOtherThen : Bool → ℕ → OpenLink → Type 0
  IsOtherThen received handle link =
      IsEndOnAir (not (is_in other done)) (if received then Some octets else packet_received other history) handle (facts other).turn link (number_at other handle history) (side_of other) (journal_of after)

  module _ (is_too : is_in other given.stations ≡ true) where
    unheard_then : (handle : ℕ) (link : OpenLink) → link_at handle (facts other).links ≡ Some link → IsOtherThen false handle link
    unheard_then handle link at = with_line (not (is_in other done)) (packet_received other history) other handle link (on_air other handle link is_too at)

    -- it does not listen on the link
    deaf_then : (handle : ℕ) (link : OpenLink) → link_at handle (facts other).links ≡ Some link → listens_under handle (facts other).turn.doing ≡ false → IsOtherThen true handle link
    deaf_then handle link at none =
        any_taking (not (is_in other done)) (packet_received other history) (Some octets) handle (facts other).turn link (number_at other handle history) (side_of other) (journal_of after) none
        (unheard_then handle link at)

    advertised : is_advertising channel ≡ true → (received : Bool) → has_received other hearings ≡ received → (handle : ℕ) (link : OpenLink)
        → link_at handle (facts other).links ≡ Some link → IsOtherThen received handle link
    advertised on true got handle link at =
        deaf_then handle link at
        (other_listens (facts other) handle channel link (phased other is_too).uses.in_turn.listens at
        (wanted_is given other history ∙ (is_listener given fates channel octets history station other got).listens) on)
    advertised on false got handle link at = unheard_then handle link at

    module _ (off : is_advertising channel ≡ false) (differs : (other == station) ≡ false) (seen : unseen_in octets hearings ≡ None)
        (silent : (one : ℕ) → is_in one given.stations ≡ true → (one == station) ≡ false → packet_received one history ≡ None) where
      taken_then : is_good hearing.verdict ≡ true → (handle : ℕ) (link : OpenLink) → link_at handle (facts other).links ≡ Some link → listens_under handle (facts other).turn.doing ≡ true
          → IsOtherThen true handle link
      taken_then good handle link at listens =
          let number = number_at other handle history in
          let turn = (facts other).turn in
          let hears = listening whole given Q known are_two six distinct phases done left station channel octets fates history are wanted has.known has.holds has.counted off is_too differs seen silent good in
          let one = same_link whole given Q known are_two six distinct phases done left station channel octets fates history are wanted has.known has.holds has.counted off is_too differs seen silent
          good handle link at listens in
          let numbers = one_number whole given Q known are_two six distinct phases done left station channel octets fates history are wanted has.known has.holds has.counted off is_too differs seen silent
          good handle link at listens in
          let before = plain (not (is_in other done)) (packet_received other history) handle turn link number (side_of other) (journal_of history)
          (and_right (not (is_in other done)) (sends_under handle turn.doing) (listener_sends handle turn.doing listens)) (λ on. silent other is_too differs) (on_air other handle link is_too at) in
          is_taken (not (is_in other done)) octets handle turn link number (side_of other) (journal_of after) listens
          (received_on_air number (side_of other) (journal_of after) turn.slot false link
          (subst (λ xs. IsOnAir number (side_of other) xs (facts_in link).event) (sym grown) (on_air_stays number (side_of other) (journal_of history) line (facts_in link).event before))
          (record {
            packet = packet_of_line number turn.slot (other_side (side_of other)) history station channel octets hearings hearing has_one (other_back station) off ((sent off).belongs ∙ ap Some numbers)
                (turns other is_too);
            good = good_is hearing.verdict good;
          })
          (hears.channel_is ∙ ap (λ (l : OpenLink). (facts_in l).event.channel) (sym one.links)))

      good_then : is_good hearing.verdict ≡ true → (handle : ℕ) (link : OpenLink) → link_at handle (facts other).links ≡ Some link → (listens : Bool)
          → listens_under handle (facts other).turn.doing ≡ listens → IsOtherThen true handle link
      good_then good handle link at true on = taken_then good handle link at on
      good_then good handle link at false none = deaf_then handle link at none

      sent_then : (received : Bool) → is_good hearing.verdict ≡ received → (handle : ℕ) (link : OpenLink) → link_at handle (facts other).links ≡ Some link → IsOtherThen received handle link
      sent_then true good handle link at = good_then good handle link at (listens_under handle (facts other).turn.doing) refl
      sent_then false bad handle link at = unheard_then handle link at

    other_aired : (on : Bool) → is_advertising channel ≡ on → (other == station) ≡ false → unseen_in octets hearings ≡ None
        → ((one : ℕ) → is_in one given.stations ≡ true → (one == station) ≡ false → packet_received one history ≡ None) → (handle : ℕ) (link : OpenLink)
        → link_at handle (facts other).links ≡ Some link → IsOtherThen (has_received other hearings) handle link
    other_aired true on differs seen silent handle link at = advertised on (has_received other hearings) refl handle link at
    other_aired false off differs seen silent handle link at =
        sent_then off differs seen silent (has_received other hearings)
        (sym (heard_it given are_two fates station channel octets history in_it))
        handle link at

  -- ---- both

  same_facts : (one : ℕ) → facts_at given one after ≡ facts one
  same_facts one = facts_event given one history (Transmitted station channel octets hearings) refl

  own_receives : packet_received station after ≡ packet_received station history
  own_receives = received_own given fates station channel octets history

  abbrev IsThen : ℕ → ℕ → OpenLink → Type 0
  IsThen one handle link =
      IsEndOnAir (not (is_in one (done ++ station ∷ []))) (packet_received one after) handle (facts_at given one after).turn link (number_at one handle after) (side_of one) (journal_of after)

  own_then : (handle : ℕ) (link : OpenLink) → link_at handle (facts station).links ≡ Some link → IsThen station handle link
  own_then handle link at =
      moved handle link (side_of station) false (not (is_in station (done ++ station ∷ []))) (packet_received station history) (packet_received station after) (facts station).turn (facts_at given station after).turn
      (number_at station handle history) (number_at station handle after) (journal_of after) (journal_of after) [] (ap not (in_more_same station station done (same_number station))) own_receives
      (ap (λ (f : Facts). f.turn) (same_facts station)) (number_sent station handle history station channel octets hearings) (sym (append-nil (journal_of after)))
      (own_aired (is_advertising channel) refl handle link at)

  module _ (seen : unseen_in octets hearings ≡ None)
      (silent : (one : ℕ) → is_in one given.stations ≡ true → (one == station) ≡ false → packet_received one history ≡ None) where
    -- with what it is handed
    other_handed : is_in other given.stations ≡ true → (other == station) ≡ false → (handle : ℕ) (link : OpenLink) → link_at handle (facts other).links ≡ Some link
        → IsEndOnAir (not (is_in other done)) (packet_received other after) handle (facts other).turn link (number_at other handle history) (side_of other) (journal_of after)
    other_handed is_too differs handle link at =
        let unsent = not (is_in other done) in
        let number = number_at other handle history in
        let left_of = damaged_packet hearing.fate octets in
        with_handed given are_two fates station channel octets history in_it
        (λ received. IsEndOnAir unsent received handle (facts other).turn link number (side_of other) (journal_of after)) seen
        (other_aired is_too (is_advertising channel) refl differs seen silent handle link at)
        (λ forged. forged_on_air unsent (packet_received other history) left_of handle (facts other).turn link number (side_of other) (journal_of after)
        (silent other is_too differs) (λ on. sym (judged_link (facts other) handle link left_of on at) ∙ forged))

    other_then : is_in other given.stations ≡ true → (other == station) ≡ false → (handle : ℕ) (link : OpenLink) → link_at handle (facts other).links ≡ Some link → IsThen other handle link
    other_then is_too differs handle link at =
        moved handle link (side_of other) (not (is_in other done)) (not (is_in other (done ++ station ∷ []))) (packet_received other after)
        (packet_received other after) (facts other).turn (facts_at given other after).turn (number_at other handle history) (number_at other handle after) (journal_of after) (journal_of after) []
        (ap not (in_more_other other station done differs)) refl (ap (λ (f : Facts). f.turn) (same_facts other))
        (number_sent other handle history station channel octets hearings) (sym (append-nil (journal_of after)))
        (other_handed is_too differs handle link at)

    pub packet_on_air : AreOnAirSo given after (λ one. not (is_in one (done ++ station ∷ []))) (λ one. packet_received one after)
    packet_on_air = λ one handle link in_one at. by one in_one (one == station) refl handle link (ap (λ (f : Facts). link_at handle f.links) (sym (same_facts one)) ∙ at)
      where
        by : (one : ℕ) → is_in one given.stations ≡ true → (same : Bool) → (one == station) ≡ same → (handle : ℕ) (link : OpenLink) → link_at handle (facts_at given one history).links ≡ Some link
            → IsThen one handle link
        by one in_one true same handle link at =
            let equal = eqb-true one station same in
            subst (λ n. IsThen n handle link) (sym equal) (own_then handle link (subst (λ n. link_at handle (facts_at given n history).links ≡ Some link) equal at))
        by one in_one false differs handle link at =
            let equal = other_is given are_two station one in_it in_one differs in
            subst (λ n. IsThen n handle link) (sym equal)
            (other_then (subst (λ n. is_in n given.stations ≡ true) equal in_one) (subst (λ n. (n == station) ≡ false) equal differs) handle link
            (subst (λ n. link_at handle (facts_at given n history).links ≡ Some link) equal at))
