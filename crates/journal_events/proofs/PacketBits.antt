-- MD of a packet on the air: the bit in the octets is the one of the end that sends it, and the one that the end reads that
-- judges it good.
use Rattle.std.proofs.Common.{◌≡◌, ℕ, ◌==◌, ◌&&◌, Bool, true, false, Option, Some, None, List, [], ◌∷◌, ◌++◌, refl, sym, ap, subst, ◌∙◌, not, length, take}
use Rattle.std.specs.Prelude.{drop, not, take, if◌then◌else◌}
use Rattle.std.specs.Str.{bytes_eq}
use Rattle.std.proofs.lemmas.Bool.{eqb-true}
use Rattle.std.proofs.lemmas.Option.{none-some, same_Some}
use Rattle.air_frame.specs.declared.Heard.TheVariants.{NotOurs, Broken, Whole}
use Rattle.air_frame.specs.Hearing.{heard_in}
use Rattle.air_frame.specs.Packet.{access_octets, is_packet, pdu_in}
use Rattle.data_pdu.specs.Header.{header_in, octets_of}
use Rattle.journal_sending.specs.journal_leaving.link_model.Facts.{Facts as EndFacts}
use Rattle.journal_sending.specs.journal_leaving.link_model.Verdicts.{has_room_for, pdu_by, pdu_of, whole_in}
use Rattle.journal_sending.specs.journal_leaving.link_model.Data.{is_empty}
use Rattle.journal_sending.specs.journal_leaving.link_model.Packets.{counts_here, good_pdu, has_new_pdu, more_sent, pdu_read, pdu_read_in, whole_pdu, header_sent, packet_sent, payload_sent}
use Rattle.journal_sending.specs.journal_leaving.link_model.Payload.{first_octet, opened_if, opens_now, read_pdu}
use Rattle.journal_sending.specs.journal_leaving.link_model.enc_phase.Sealing.{EncEnd, is_right, opened_body}
use Rattle.journal_sending.specs.journal_leaving.link_model.Setup.{Setup as EndSetup}
use Rattle.journal_sending.specs.journal_leaving.link_model.Step.{PacketSent}
use Rattle.journal_sending.specs.journal_leaving.journal_data.open_links.OpenLinks.{OpenLink, facts_in, link_after, link_at}
use Rattle.journal_sending.specs.journal_leaving.controller_model.Facts.{Facts, Sends}
use Rattle.journal_sending.specs.journal_leaving.journal_acks.link_calls.Uses.{listens_under, sends_under}
use Rattle.journal_slots.specs.SecondSlot.{has_more}
use Rattle.air_frame.specs.declared.Heard.{Heard}
use Rattle.data_pdu.specs.declared.header.DataHeader.{DataHeader}
use Rattle.journal_sending.proofs.journal_leaving.link_model.Hearing.{IsHeardWhole}
use Rattle.journal_sending.proofs.journal_leaving.link_model.Received.{has_header, in_form}
use Rattle.radio_replay.specs.declared.fates.Fate.{Fate}
use Rattle.radio_replay.specs.Damage.{damaged_packet}
use Rattle.journal_sending.specs.journal_leaving.run_model.Feeding.{AreDistinct}
use Rattle.journal_sending.specs.journal_leaving.run_model.History.{Event, Hearing, Transmitted, has_received, packet_received}
use Rattle.journal_sending.specs.journal_leaving.run_model.LinkEnds.{HaveAddresses}
use Rattle.journal_sending.specs.journal_leaving.run_model.Links.{is_advertising}
use Rattle.journal_sending.specs.journal_leaving.run_model.Run.{Given, facts_at, hearings_of, unseen_in, use_at}
use Rattle.journal_sending.proofs.journal_leaving.run_model.LinkEnds.{is_listener, received_own, wanted_is, AreTaken, IsUnderstood}
use Rattle.journal_sending.proofs.journal_leaving.run_model.Stations.{among, is_in}
use Rattle.journal_sending.proofs.journal_leaving.run_model.Walk.{AtPackets, Place}
use Rattle.journal_sending.specs.journal_leaving.journal_packets.Senders.{IsOfSendersLink}
use Rattle.journal_sending.proofs.journal_leaving.journal_acks.AirCounts.{listening, one as same_link}
use Rattle.journal_sending.proofs.journal_leaving.journal_acks.Counting.{AreKnown}
use Rattle.journal_sending.proofs.journal_leaving.journal_acks.HandedOn.{heard_it, judged_link, with_handed, forged_is}
use Rattle.journal_sending.specs.journal_leaving.journal_acks.link_calls.Ranges.{IsReadable}
use Rattle.journal_sending.proofs.journal_leaving.journal_acks.link_calls.InRange.{sent_ranges}
use Rattle.journal_sending.proofs.journal_leaving.journal_acks.link_calls.Pieces.{sent_readable}
use Rattle.journal_sending.proofs.journal_leaving.journal_acks.run_laws.Payloads.{payload_short}
use Rattle.journal_sending.proofs.journal_leaving.journal_acks.Standing.{other_listens, phased_at, sends_on, sends_other}
use Rattle.journal_sending.proofs.journal_leaving.journal_acks.TwoStations.{IsOfTwo, hearing_of, other_is, other_of}
use Rattle.journal_sending.proofs.journal_leaving.journal_acks.link_calls.UnderHandles.{same_base}
use Rattle.journal_sending.proofs.journal_leaving.journal_acks.KeptLines.{AreLinedAt}
use Rattle.journal_sending.proofs.journal_leaving.journal_acks.Known.{known_of}
use Rattle.journal_sending.proofs.journal_leaving.journal_ends.run_laws.DistinctAccess.{AreApart}
use Rattle.journal_sending.proofs.journal_leaving.journal_packets.AccessOrder.{AreNth}
use Rattle.journal_sending.proofs.journal_leaving.journal_packets.SoFar.{IsBelongingSoFar, sends_on_its_link}
use Rattle.journal_sending.proofs.journal_leaving.journal_links.OfTwo.{are_distinct}
use Rattle.journal_sending.proofs.journal_leaving.link_model.KeyedSteps.{forged_none}

abbrev items_of : Heard → List ℕ
items_of NotOurs = []
items_of Broken = []
items_of (Whole pdu) = pdu.items

pdu_whole : (channel access init : ℕ) (octets pdu : List ℕ) → heard_in channel access init octets ≡ Whole (record { items = pdu }) → pdu_in channel octets ≡ pdu
unfolding heard_in
pdu_whole channel access init octets pdu is = by (bytes_eq (take 4 octets) (access_octets access)) (is_packet channel access init octets) (pdu_in channel octets) is
  where
    by : (ours whole : Bool) (found : List ℕ) → (if ours then (if whole then Whole (record { items = found }) else Broken) else NotOurs) ≡ Whole (record { items = pdu }) → found ≡ pdu
    by true true found same = ap items_of same
    by true false found same = absurd cc
    by false whole found same = absurd cc

packet_says_more : IsHeardWhole → (setup : EndSetup) (facts : EndFacts) → IsReadable facts → has_more facts.event.channel (packet_sent setup facts) ≡ more_sent facts
unfolding packet_sent
packet_says_more whole setup facts form =
    let pdu = octets_of (header_sent facts) ++ payload_sent facts in
    ap (λ xs. (header_in xs).md)
    (pdu_whole facts.event.channel setup.link.fields.access setup.link.fields.crc_init (packet_sent setup facts) pdu
    (whole facts.event.channel setup.link.fields.access setup.link.fields.crc_init pdu (in_form (length (payload_sent facts)) (payload_short facts form))))
    ∙ ap (λ (h : DataHeader). h.md) (has_header facts facts form.llid (payload_sent facts)).read

-- ---- MD of a packet that an end reads

second_of_both : (one other : Bool) → (one && other) ≡ true → other ≡ true
second_of_both true other is = is
second_of_both false other is = absurd cc

abbrev IsPduIn : Option (List ℕ) → ℕ → List ℕ → Type 0
IsPduIn found channel octets = (pdu : List ℕ) → found ≡ Some pdu → pdu ≡ pdu_in channel octets

whole_octets : (setup : EndSetup) (facts : EndFacts) (octets : List ℕ) → IsPduIn (whole_pdu setup facts octets) facts.event.channel octets
unfolding whole_pdu heard_in
whole_octets setup facts octets =
    by (bytes_eq (take 4 octets) (access_octets setup.link.fields.access)) (is_packet facts.event.channel setup.link.fields.access setup.link.fields.crc_init octets)
    (has_room_for setup.link.max_rx opens (pdu_in facts.event.channel octets)) refl
  where
    opens : Bool
    opens = opens_now facts.encryption.end

    some : (fits : Bool) (found pdu : List ℕ) → pdu_by fits found ≡ Some pdu → pdu ≡ found
    some true found pdu is = let same : found ≡ pdu = cc in sym same
    some false found pdu is = absurd cc

    by : (ours whole fits : Bool) → has_room_for setup.link.max_rx opens (pdu_in facts.event.channel octets) ≡ fits
        → IsPduIn (whole_in setup.link.max_rx opens (if ours then (if whole then Whole (record { items = pdu_in facts.event.channel octets }) else Broken) else NotOurs)) facts.event.channel octets
    by true true fits is = λ pdu found. some (has_room_for setup.link.max_rx opens (pdu_in facts.event.channel octets)) (pdu_in facts.event.channel octets) pdu found
    by true false fits is = λ pdu found. absurd cc
    by false whole fits is = λ pdu found. absurd cc

-- a payload that is opened leaves its header; a PDU that is opened is not empty, so it has one
md_opened : (counts : Bool) (end : EncEnd) (pdu read : List ℕ) → (counts ≡ true → is_empty (pdu_of pdu) ≡ false) → read_pdu counts end pdu ≡ Some read
    → (header_in read).md ≡ (header_in pdu).md
md_opened false end pdu read some is = ap (λ (xs : List ℕ). (header_in xs).md) (sym (same_Some pdu read is))
md_opened true end pdu read some is = by (is_right end (first_octet pdu) (drop 2 pdu)) pdu (some refl) is
  where
    by : (right : Bool) (pdu : List ℕ) → is_empty (pdu_of pdu) ≡ false → opened_if right end pdu ≡ Some read → (header_in read).md ≡ (header_in pdu).md
    by false pdu some is = absurd (none-some read is)
    by true [] some is = absurd (let no : true ≡ false = some in absurd cc)
    by true (octet ∷ octets) some is =
        ap (λ (xs : List ℕ). (header_in xs).md) (sym (same_Some (take 2 (octet ∷ octets) ++ opened_body end (drop 2 (octet ∷ octets))) read is))

not_true : (b : Bool) → not b ≡ true → b ≡ false
not_true true is = absurd cc
not_true false is = refl

md_read : (facts : EndFacts) (pdu read : List ℕ) → pdu_read facts pdu ≡ Some read → (header_in read).md ≡ (header_in pdu).md
md_read facts pdu read is =
    md_opened (counts_here facts pdu) facts.encryption.end pdu read
    (λ counts. not_true (is_empty (pdu_of pdu)) (second_of_both (has_new_pdu facts (header_in pdu)) (not (is_empty (pdu_of pdu))) counts)) is

-- the PDU that was found says that more waits where that on the air does
abbrev SaysSameIn : Option (List ℕ) → ℕ → List ℕ → Type 0
SaysSameIn found channel octets = (pdu : List ℕ) → found ≡ Some pdu → (header_in pdu).md ≡ (header_in (pdu_in channel octets)).md

good_octets : (setup : EndSetup) (facts : EndFacts) (octets : List ℕ) → SaysSameIn (good_pdu setup facts octets) facts.event.channel octets
unfolding good_pdu
good_octets setup facts octets = by (whole_pdu setup facts octets) (whole_octets setup facts octets)
  where
    by : (whole : Option (List ℕ)) → IsPduIn whole facts.event.channel octets → SaysSameIn (pdu_read_in facts whole) facts.event.channel octets
    by None is = λ pdu found. absurd (none-some pdu found)
    by (Some air) is = λ pdu found. md_read facts air pdu found ∙ ap (λ (xs : List ℕ). (header_in xs).md) (is air refl)

-- ---- in a run

module _ (whole : IsHeardWhole) (understood : IsUnderstood) (taken : AreTaken) (nth : AreNth) (apart : AreApart) (given : Given) (are_two : IsOfTwo given) (six : HaveAddresses given)
    (phases : ℕ) (done left : List ℕ) (station channel : ℕ) (octets : List ℕ) where
  abbrev Q : Place → List Event → Type 0
  Q = IsBelongingSoFar given

  abbrev known : AreKnown given Q
  known = known_of understood taken nth apart given are_two six

  abbrev distinct : AreDistinct given.stations
  distinct = are_distinct given are_two

  abbrev here : Place
  here = AtPackets phases done (station ∷ left)

  -- of the end that sends it, before it sent it
  pub says_sent : (history : List Event) → given.stations ≡ done ++ station ∷ left → use_at given station history ≡ Sends channel octets → Q here history
      → is_advertising channel ≡ false → (handle : ℕ) (link : OpenLink) → link_at handle (facts_at given station history).links ≡ Some link
      → sends_under handle (facts_at given station history).turn.doing ≡ true → (base : OpenLink) (slot : ℕ) → link ≡ link_after (PacketSent slot) base
      → has_more channel octets ≡ more_sent (facts_in base)
  says_sent history are wanted is off handle link at on base slot of =
      says ∙ by (sent.handle == handle) refl
    where
      sent : IsOfSendersLink given history station channel octets
      sent = sends_on_its_link nth apart given are_two six phases done left station history are is channel octets wanted off

      says : has_more channel octets ≡ more_sent (facts_in sent.link)
      says =
          (λ i. has_more (sent.channel_is i) (sent.packet i)) ∙ packet_says_more whole sent.link.setup (facts_in sent.link) (sent_readable sent.link (sent_ranges true sent.slot sent.link
          (known.ranges here history is station sent.handle (link_after (PacketSent sent.slot) sent.link) (among given.stations done left station are) sent.is_open)))

      by : (same : Bool) → (sent.handle == handle) ≡ same → more_sent (facts_in sent.link) ≡ more_sent (facts_in base)
      by true one =
          let equal = eqb-true sent.handle handle one in
          let some : Some (link_after (PacketSent sent.slot) sent.link) ≡ Some link = sym sent.is_open ∙ ap (λ n. link_at n (facts_at given station history).links) equal ∙ at in
          let links : link_after (PacketSent sent.slot) sent.link ≡ link = cc in
          ap (λ (l : OpenLink). more_sent (facts_in l)) (same_base sent.slot slot sent.link base (links ∙ of))
      by false differs =
          let doing = (facts_at given station history).turn.doing in
          absurd (let h : true ≡ false = sym on ∙ sends_other sent.handle handle doing (sends_on sent.handle doing sent.sends) differs in absurd cc)

  -- of an end that takes it as good
  module _ (fates : List Fate) (history : List Event) (are : given.stations ≡ done ++ station ∷ left) (wanted : use_at given station history ≡ Sends channel octets)
      (lined : AreLinedAt given Q here history)
      (silent : (one : ℕ) → is_in one given.stations ≡ true → (one == station) ≡ false → packet_received one history ≡ None)
      (seen : unseen_in octets (hearings_of given fates station channel octets history) ≡ None) where
    abbrev after : List Event
    after = history ++ Transmitted station channel octets (hearings_of given fates station channel octets history) ∷ []

    abbrev other : ℕ
    other = other_of station

    abbrev hearing : Hearing
    hearing = hearing_of given fates station channel octets history

    in_it : is_in station given.stations ≡ true
    in_it = among given.stations done left station are

    module _ (is_too : is_in other given.stations ≡ true) (differs : (other == station) ≡ false) (handle : ℕ) (link : OpenLink)
        (at : link_at handle (facts_at given other history).links ≡ Some link) (on : listens_under handle (facts_at given other history).turn.doing ≡ true) where
      abbrev facts : Facts
      facts = facts_at given other history

      abbrev Says : Option (List ℕ) → Type 0
      Says received = (got pdu : List ℕ) → received ≡ Some got → good_pdu link.setup (facts_in link) got ≡ Some pdu → (header_in pdu).md ≡ has_more channel octets

      none_says : (received : Option (List ℕ)) → received ≡ None → Says received
      none_says received none = λ got pdu some good. absurd (none-some got (sym none ∙ some))

      off_channel : (advertises : Bool) → is_advertising channel ≡ advertises → has_received other (hearings_of given fates station channel octets history) ≡ true → is_advertising channel ≡ false
      off_channel false off got = off
      off_channel true on_air got =
          let phased = phased_at given here history lined.counts.holds.hearing.stand other is_too in
          absurd (let h : true ≡ false = sym on ∙ other_listens facts handle channel link phased.uses.in_turn.listens at
          (wanted_is given other history ∙ (is_listener given fates channel octets history station other got).listens) on_air in absurd cc)

      heard_says : has_received other (hearings_of given fates station channel octets history) ≡ true → Says (Some octets)
      heard_says received = λ got pdu some good.
          let off = off_channel (is_advertising channel) refl received in
          let judged = sym (heard_it given are_two fates station channel octets history in_it) ∙ received in
          let hears = listening whole given Q known are_two six distinct phases done left station channel octets fates history are wanted
          lined.counts.known lined.counts.holds lined.counts.counted off is_too differs seen silent judged in
          let one = same_link whole given Q known are_two six distinct phases done left station channel octets fates history are wanted
          lined.counts.known lined.counts.holds lined.counts.counted off is_too differs seen silent judged handle link at on in
          let channel_is = hears.channel_is ∙ ap (λ (l : OpenLink). (facts_in l).event.channel) (sym one.links) in
          good_octets link.setup (facts_in link) got pdu good
          ∙ (λ i. has_more (sym channel_is i) (sym (same_Some octets got some) i))

      by_received : (received : Bool) → has_received other (hearings_of given fates station channel octets history) ≡ received
          → Says (if received then Some octets else packet_received other history)
      by_received true is = heard_says is
      by_received false is = none_says (packet_received other history) (silent other is_too differs)

      other_says : Says (packet_received other after)
      other_says =
          with_handed given are_two fates station channel octets history in_it Says seen
          (by_received (has_received other (hearings_of given fates station channel octets history)) refl)
          (λ forged before got pdu some good.
          let left_of = damaged_packet hearing.fate octets in
          let verdict = sym (judged_link facts handle link left_of on at) ∙ forged in
          absurd (none-some pdu (sym (ap (λ xs. good_pdu link.setup (facts_in link) xs) (sym (same_Some left_of got some)) ∙ forged_none link.setup (facts_in link) left_of (forged_is link.setup (facts_in link) left_of verdict)) ∙ good)))

    pub says_heard : (one : ℕ) → is_in one given.stations ≡ true → (handle : ℕ) (link : OpenLink) → link_at handle (facts_at given one history).links ≡ Some link
        → listens_under handle (facts_at given one history).turn.doing ≡ true → packet_received one history ≡ None
        → (got pdu : List ℕ) → packet_received one after ≡ Some got → good_pdu link.setup (facts_in link) got ≡ Some pdu → (header_in pdu).md ≡ has_more channel octets
    says_heard one in_one handle link at on none = by (one == station) refl
      where
        by : (same : Bool) → (one == station) ≡ same
            → (got pdu : List ℕ) → packet_received one after ≡ Some got → good_pdu link.setup (facts_in link) got ≡ Some pdu → (header_in pdu).md ≡ has_more channel octets
        by true same = λ got pdu some good.
            let equal = eqb-true one station same in
            absurd (none-some got (sym (ap (λ n. packet_received n after) equal ∙ received_own given fates station channel octets history ∙ sym (ap (λ n. packet_received n history) equal) ∙ none) ∙ some))
        by false differs = λ got pdu some good.
            let equal = other_is given are_two station one in_it in_one differs in
            other_says (subst (λ n. is_in n given.stations ≡ true) equal in_one) (subst (λ n. (n == station) ≡ false) equal differs) handle link
            (subst (λ n. link_at handle (facts_at given n history).links ≡ Some link) equal at) (subst (λ n. listens_under handle (facts_at given n history).turn.doing ≡ true) equal on)
            got pdu (ap (λ n. packet_received n after) (sym equal) ∙ some) good
