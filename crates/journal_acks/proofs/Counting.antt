-- How far the journal is ahead of what each controller holds, or late, at each place of a run.
use Rattle.std.proofs.Common.{◌≡◌, ℕ, ◌+◌, ◌==◌, ◌&&◌, not, if◌then◌else◌, Bool, true, false, Option, Some, None, List, [], ◌∷◌, ◌++◌, length, take, refl, sym, ap, subst, ◌∙◌}
use Rattle.ble_base.specs.Side.{other_side}
use Rattle.ble_base.specs.declared.addresses.Address.{Address}
use Rattle.ble_base.specs.declared.notes.Note.TheVariants.{Opened}
use Rattle.ble_base.specs.declared.roles.Role.{Role}
use Rattle.ble_base.specs.declared.roles.Side.{Side}
use Rattle.air_frame.specs.Packet.{access_octets}
use Rattle.journal_packets.specs.link_model.Setup.{Setup as EndSetup}
use Rattle.journal_packets.specs.link_model.Acknowledgement.{Acknowledgement, Pdu}
use Rattle.journal_packets.specs.link_model.Data.{is_empty}
use Rattle.journal_packets.specs.link_model.Packets.{good_pdu}
use Rattle.journal_packets.specs.link_model.Verdicts.{pdu_of}
use Rattle.journal_packets.specs.link_model.Step.{PacketReceived}
use Rattle.journal_packets.proofs.link_model.Hearing.{IsHeardWhole}
use Rattle.journal_packets.specs.open_links.OpenLinks.{OpenLink, facts_in, link_after, link_at}
use Rattle.journal_packets.specs.controller_model.declared.doing.Turn.{Turn}
use Rattle.journal_packets.specs.controller_model.Since.{notes_opened_on}
use Rattle.journal_packets.specs.controller_model.Step.{Step}
use Rattle.journal_packets.specs.controller_model.Facts.{Facts, Sends}
use Rattle.link_calls.specs.run_model.History.{Event, Noted, packet_received, steps_in}
use Rattle.link_calls.specs.run_model.Journal.{journal_of, side_of}
use Rattle.link_calls.specs.run_model.Links.{is_advertising, links_of}
use Rattle.link_calls.specs.run_model.Run.{Given, after_call, facts_at, setup_at, use_at}
use Rattle.link_calls.proofs.run_model.Fronts.{IsFront}
use Rattle.link_calls.proofs.run_model.Stations.{is_in}
use Rattle.link_calls.proofs.run_model.Walk.{Place, AtPackets, IsKept}
use Rattle.journal_packets.specs.run_laws.Ends.{HaveOneConnectInd}
use Rattle.journal_packets.proofs.run_laws.Agreed.{ack_of}
use Rattle.journal_packets.proofs.run_laws.Hearings.{other_facts}
use Rattle.journal_packets.proofs.run_laws.InAgreement.{AllAgreeIn}
use Rattle.journal_packets.specs.run_laws.Shapes.{AgreeInShape}
use Rattle.journal_packets.proofs.run_laws.TurnPlaces.{event_past}
use Rattle.journal_packets.specs.journal_links.LinkLines.{AreLinesOf, lines_of}
use Rattle.journal_packets.specs.journal_links.Opened.{central_side}
use Rattle.journal_packets.specs.journal_links.Begun.{LinkBegun, link_numbered, links_begun}
use Rattle.journal_packets.specs.Belonging.{first_number}
use Rattle.journal_packets.specs.Senders.{IsOfSendersLink}
use Rattle.journal_acks.specs.Counted.{IsCounted}
use Rattle.journal_acks.specs.Exchange.{Exchanged, with_sent}
use Rattle.journal_acks.proofs.Exchanging.{exchange_at, exchange_other, exchange_same, number_at, number_other}
use Rattle.link_calls.specs.Ranges.{HasRanges}
use Rattle.link_calls.specs.Uses.{listens_under, sends_under}
use Rattle.journal_acks.proofs.TwoStations.{IsOfTwo, other_apart}
use Rattle.std.proofs.Math.Bool.{and-false}
use Rattle.std.proofs.lemmas.Bool.{eqb-true, eqb-false, false_from_ne_true}
use Rattle.journal_packets.specs.controller_model.Side.{facts_of}

-- ---- what is known of the links of a journal

-- an open end at a station is one of the link with this number
pub record IsBegun (history : List Event) (number station : ℕ) (end : EndSetup) : Type 0 where
  pub link : LinkBegun
  pub is_link : link_numbered number (journal_of history) ≡ Some link
  pub fields : link.fields ≡ end.link.fields
  pub slot : link.slot ≡ end.opened

pub record AreKnown (given : Given) (Q : Place → List Event → Type 0) : Type 0 where
  pub kept : IsKept given Q
  -- the history is a front of that of the run
  pub front : (place : Place) (history : List Event) → Q place history → IsFront given history
  pub begun : (place : Place) (history : List Event) → Q place history → (station handle : ℕ) (link : OpenLink) → is_in station given.stations ≡ true
      → link_at handle (facts_at given station history).links ≡ Some link → IsBegun history (number_at station handle history) station link.setup
  -- the first link of its central that begins with the access address of the end is its own
  pub fits : (place : Place) (history : List Event) → Q place history → (station handle : ℕ) (link : OpenLink) (octets : List ℕ) → is_in station given.stations ≡ true
      → link_at handle (facts_at given station history).links ≡ Some link → take 4 octets ≡ access_octets link.setup.link.fields.access
      → first_number (central_side link.setup.link.role (side_of station)) octets 1 (links_begun (journal_of history)) ≡ Some (number_at station handle history)
  pub sends : (phases : ℕ) (done left : List ℕ) (station : ℕ) (history : List Event) → given.stations ≡ done ++ station ∷ left
      → Q (AtPackets phases done (station ∷ left)) history → (channel : ℕ) (octets : List ℕ) → use_at given station history ≡ Sends channel octets
      → is_advertising channel ≡ false → IsOfSendersLink given history station channel octets
  -- no two open links of a station were opened in one slot
  pub alone : (place : Place) (history : List Event) → Q place history → (station one other : ℕ) (a b : OpenLink) → is_in station given.stations ≡ true
      → link_at one (facts_at given station history).links ≡ Some a → link_at other (facts_at given station history).links ≡ Some b → a.setup.opened ≡ b.setup.opened → one ≡ other
  -- the lines of an open link are what its end noted
  pub lines : (place : Place) (history : List Event) → Q place history → (station handle : ℕ) (link : OpenLink) → is_in station given.stations ≡ true
      → link_at handle (facts_at given station history).links ≡ Some link
      → AreLinesOf (journal_of history) station (number_at station handle history) (notes_opened_on link.setup link.past)
  -- a link that is noted as opened has no line of its side yet
  pub fresh : (place : Place) (history : List Event) → Q place history → (station handle : ℕ) (role : Role) (own peer : Address) (before more : List Event) → is_in station given.stations ≡ true
      → history ≡ before ++ Noted station (Opened handle role own peer) ∷ more → lines_of (side_of station) ((links_of before).last_of station) (journal_of before) ≡ []
  -- what the host of an open end asked is in range
  pub ranges : (place : Place) (history : List Event) → Q place history → (station handle : ℕ) (link : OpenLink) → is_in station given.stations ≡ true
      → link_at handle (facts_at given station history).links ≡ Some link → HasRanges link
  -- both open ends of a link agree in the shapes of their PDUs
  pub shapes : IsHeardWhole → (place : Place) (history : List Event) → Q place history → (one other : ℕ) → is_in one given.stations ≡ true → is_in other given.stations ≡ true
      → (one == other) ≡ false → AllAgreeIn AgreeInShape (facts_at given one history).links (facts_at given other history).links

-- two ends with one number have one CONNECT_IND
pub one_begun : (history : List Event) (number other station station_too : ℕ) (one two : OpenLink) → number ≡ other → IsBegun history number station one.setup
    → IsBegun history other station_too two.setup → HaveOneConnectInd one.setup two.setup
one_begun history number other station station_too one two same begun begun_too =
    let links : Some begun.link ≡ Some begun_too.link = sym begun.is_link ∙ ap (λ n. link_numbered n (journal_of history)) same ∙ begun_too.is_link in
    let equal : begun.link ≡ begun_too.link = cc in record {
      fields = sym begun.fields ∙ ap (λ (l : LinkBegun). l.fields) equal ∙ begun_too.fields;
      opened = sym begun.slot ∙ ap (λ (l : LinkBegun). l.slot) equal ∙ begun_too.slot;
    }

-- the open links of a station have numbers of their own
pub apart_numbers : (given : Given) (Q : Place → List Event → Type 0) → AreKnown given Q → (place : Place) (history : List Event) → Q place history
    → (station one other : ℕ) (a b : OpenLink) → is_in station given.stations ≡ true → link_at one (facts_at given station history).links ≡ Some a
    → link_at other (facts_at given station history).links ≡ Some b → (one == other) ≡ false → (number_at station one history == number_at station other history) ≡ false
apart_numbers given Q known place history q station one other a b in_it is is_too differs =
    false_from_ne_true (number_at station one history == number_at station other history) (λ same.
    let both = one_begun history (number_at station one history) (number_at station other history) station station a b (eqb-true (number_at station one history) (number_at station other history) same)
    (known.begun place history q station one a in_it is) (known.begun place history q station other b in_it is_too) in
    eqb-false one other differs (known.alone place history q station one other a b in_it is is_too both.opened))

-- so it is at a station after a history
abbrev pub HaveOwnNumbers : Given → ℕ → List Event → Type 0
HaveOwnNumbers given station history = (one other : ℕ) (a b : OpenLink) → link_at one (facts_at given station history).links ≡ Some a
    → link_at other (facts_at given station history).links ≡ Some b → (one == other) ≡ false → (number_at station one history == number_at station other history) ≡ false

-- ---- one end

-- before the packet that an end is to send is on the air, the journal is one sending late; before the end takes a
-- packet that was on the air, the journal is one reception ahead, but for a PDU that is not empty: a line of its own
-- says that it is taken, so until then it does not count
abbrev pub ahead_if : Bool → Exchanged → Exchanged
ahead_if true end = with_sent end
ahead_if false end = end

abbrev pub taking_if : Bool → Option (List ℕ) → ℕ → OpenLink → OpenLink
taking_if true (Some octets) slot link = link_after (PacketReceived slot octets false) link
taking_if true None slot link = link
taking_if false received slot link = link

-- whether a packet has a PDU of which a line says that it is taken
abbrev pub has_own_line : Option (List ℕ) → Bool
has_own_line None = false
has_own_line (Some pdu) = not (is_empty (pdu_of pdu))

abbrev pub accepted_before : Bool → ℕ → List ℕ → OpenLink → List Pdu
accepted_before own slot octets link = if own then (ack_of link).accepted else (ack_of (link_after (PacketReceived slot octets false) link)).accepted

abbrev pub accepted_taking : Bool → Option (List ℕ) → ℕ → OpenLink → List Pdu
accepted_taking true (Some octets) slot link = accepted_before (has_own_line (good_pdu link.setup (facts_in link) octets)) slot octets link
accepted_taking true None slot link = (ack_of link).accepted
accepted_taking false received slot link = (ack_of link).accepted

abbrev pub ack_taking : Bool → Option (List ℕ) → ℕ → OpenLink → Acknowledgement
ack_taking listens received slot link =
    record (ack_of (taking_if listens received slot link)) { accepted = accepted_taking listens received slot link }

abbrev pub IsEndCounted : Bool → Option (List ℕ) → ℕ → Turn → OpenLink → Exchanged → Type 0
IsEndCounted unsent received handle turn link end =
    IsCounted (ahead_if (unsent && sends_under handle turn.doing) end) (ack_taking (listens_under handle turn.doing) received turn.slot link)

-- the other end has sent as many PDUs as it has accepted if it takes the packet that was on the air
abbrev pub IsToTake : Option (List ℕ) → ℕ → Turn → OpenLink → Exchanged → Type 0
IsToTake received handle turn link from =
    (octets : List ℕ) → listens_under handle turn.doing ≡ true → received ≡ Some octets
    → (slot : ℕ) (room : Bool) → length (ack_of (link_after (PacketReceived slot octets room) link)).accepted ≡ length (ack_of link).accepted + 1
    → from.sent ≡ length (ack_of link).accepted + 1

pub none_to_take : (received : Option (List ℕ)) (handle : ℕ) (turn : Turn) (link : OpenLink) (from : Exchanged) → received ≡ None
    → IsToTake received handle turn link from
none_to_take received handle turn link from none = λ octets listens some. absurd (let h : None ≡ Some octets = sym none ∙ some in absurd cc)

pub moved : (handle : ℕ) (link : OpenLink) (unsent unsent_too : Bool) (received received_too : Option (List ℕ)) (turn turn_too : Turn) (end end_too : Exchanged)
    → unsent_too ≡ unsent → received_too ≡ received → turn_too ≡ turn → end_too ≡ end → IsEndCounted unsent received handle turn link end
    → IsEndCounted unsent_too received_too handle turn_too link end_too
moved handle link unsent unsent_too received received_too turn turn_too end end_too u r t e is =
    subst (λ b. IsEndCounted b received_too handle turn_too link end_too) (sym u)
    (subst (λ may. IsEndCounted unsent may handle turn_too link end_too) (sym r)
    (subst (λ now. IsEndCounted unsent received handle now link end_too) (sym t)
    (subst (λ one. IsEndCounted unsent received handle turn link one) (sym e) is)))

pub nothing_taken : (listens : Bool) (received : Option (List ℕ)) (slot : ℕ) (link : OpenLink) → (listens ≡ true → received ≡ None) → taking_if listens received slot link ≡ link
nothing_taken true None slot link none = refl
nothing_taken true (Some octets) slot link none = absurd (let h : Some octets ≡ None = none refl in absurd cc)
nothing_taken false received slot link none = refl

pub ack_nothing : (listens : Bool) (received : Option (List ℕ)) (slot : ℕ) (link : OpenLink) → (listens ≡ true → received ≡ None) → ack_taking listens received slot link ≡ ack_of link
ack_nothing true None slot link none = refl
ack_nothing true (Some octets) slot link none = absurd (let h : Some octets ≡ None = none refl in absurd cc)
ack_nothing false received slot link none = refl

-- an end that neither is to send nor has a packet to take has just the counts of the journal
pub plain : (unsent : Bool) (received : Option (List ℕ)) (handle : ℕ) (turn : Turn) (link : OpenLink) (end : Exchanged) → sends_under handle turn.doing ≡ false
    → (listens_under handle turn.doing ≡ true → received ≡ None) → IsEndCounted unsent received handle turn link end → IsCounted end (ack_of link)
plain unsent received handle turn link end none nothing is =
    subst (IsCounted end) (ack_nothing (listens_under handle turn.doing) received turn.slot link nothing)
    (subst (λ b. IsCounted (ahead_if b end) (ack_taking (listens_under handle turn.doing) received turn.slot link))
    (ap (λ b. unsent && b) none ∙ and-false unsent) is)

pub from_plain : (unsent : Bool) (received : Option (List ℕ)) (handle : ℕ) (turn : Turn) (link : OpenLink) (end : Exchanged) → sends_under handle turn.doing ≡ false
    → (listens_under handle turn.doing ≡ true → received ≡ None) → IsCounted end (ack_of link) → IsEndCounted unsent received handle turn link end
from_plain unsent received handle turn link end none nothing is =
    subst (λ b. IsCounted (ahead_if b end) (ack_taking (listens_under handle turn.doing) received turn.slot link))
    (sym (ap (λ b. unsent && b) none ∙ and-false unsent))
    (subst (IsCounted end) (sym (ack_nothing (listens_under handle turn.doing) received turn.slot link nothing)) is)

-- an end that received nothing
none_taken : (listens : Bool) (slot : ℕ) (link : OpenLink) → ack_taking listens None slot link ≡ ack_of link
none_taken true slot link = refl
none_taken false slot link = refl

-- and that sent and accepted the same
pub alike_counted : (unsent : Bool) (handle : ℕ) (turn : Turn) (link after : OpenLink) (end : Exchanged) → ack_of after ≡ ack_of link
    → IsEndCounted unsent None handle turn link end → IsEndCounted unsent None handle turn after end
alike_counted unsent handle turn link after end same is =
    let sends = unsent && sends_under handle turn.doing in
    let listens = listens_under handle turn.doing in
    subst (IsCounted (ahead_if sends end)) (sym (none_taken listens turn.slot after))
    (subst (IsCounted (ahead_if sends end)) (sym same)
    (subst (IsCounted (ahead_if sends end)) (none_taken listens turn.slot link) is))

-- an end whose packet is still to come, or that was sent, and that takes nothing
pub from_sent : (sends : Bool) (received : Option (List ℕ)) (handle : ℕ) (turn : Turn) (link : OpenLink) (end : Exchanged) → sends_under handle turn.doing ≡ sends
    → (listens_under handle turn.doing ≡ true → received ≡ None) → IsCounted (ahead_if sends end) (ack_of link) → IsEndCounted true received handle turn link end
from_sent sends received handle turn link end is nothing counted =
    subst (λ b. IsCounted (ahead_if b end) (ack_taking (listens_under handle turn.doing) received turn.slot link)) (sym is)
    (subst (IsCounted (ahead_if sends end)) (sym (ack_nothing (listens_under handle turn.doing) received turn.slot link nothing)) counted)

-- ---- all ends

module _ (given : Given) where
  abbrev pub AreCountedSo : List Event → (ℕ → Bool) → (ℕ → Option (List ℕ)) → Type 0
  AreCountedSo history unsent received = (station handle : ℕ) (link : OpenLink) → is_in station given.stations ≡ true → link_at handle (facts_at given station history).links ≡ Some link
      → IsEndCounted (unsent station) (received station) handle (facts_at given station history).turn link (exchange_at (number_at station handle history) history (side_of station))

  pub counted_same : (history : List Event) (unsent unsent_too : ℕ → Bool) (received received_too : ℕ → Option (List ℕ))
      → ((station : ℕ) → is_in station given.stations ≡ true → unsent_too station ≡ unsent station)
      → ((station : ℕ) → is_in station given.stations ≡ true → received_too station ≡ received station)
      → AreCountedSo history unsent received → AreCountedSo history unsent_too received_too
  counted_same history unsent unsent_too received received_too u r counted = λ station handle link is at.
      let turn = (facts_at given station history).turn in
      let end = exchange_at (number_at station handle history) history (side_of station) in
      moved handle link (unsent station) (unsent_too station) (received station) (received_too station) turn turn end end (u station is) (r station is) refl refl
      (counted station handle link is at)

  pub facts_event : (station : ℕ) (history : List Event) (event : Event) → steps_in station event ≡ [] → facts_at given station (history ++ event ∷ []) ≡ facts_at given station history
  facts_event station history event none = ap (facts_of (setup_at given station)) (event_past station history event none)

  -- an event that changes nothing of the counts
  pub counted_event : (history : List Event) (event : Event) (unsent : ℕ → Bool) (received : ℕ → Option (List ℕ)) → ((station : ℕ) → steps_in station event ≡ [])
      → ((number : ℕ) → exchange_at number (history ++ event ∷ []) ≡ exchange_at number history)
      → ((station handle : ℕ) → number_at station handle (history ++ event ∷ []) ≡ number_at station handle history)
      → AreCountedSo history unsent received → AreCountedSo (history ++ event ∷ []) unsent received
  counted_event history event unsent received none exchange number counted = λ station handle link is at.
      let same = facts_event station history event (none station) in
      moved handle link (unsent station) (unsent station) (received station) (received station) (facts_at given station history).turn
      (facts_at given station (history ++ event ∷ [])).turn _ _ refl refl (ap (λ (f : Facts). f.turn) same)
      (ap (λ n. exchange_at n (history ++ event ∷ []) (side_of station)) (number station handle)
      ∙ ap (λ (ends : Side → Exchanged). ends (side_of station)) (exchange (number_at station handle history)))
      (counted station handle link is (ap (λ (f : Facts). link_at handle f.links) (sym same) ∙ at))

  -- a call on one station
  pub counted_call : IsOfTwo given → (station : ℕ) (step : Step) (history : List Event) (unsent unsent_too : ℕ → Bool) (received received_too : ℕ → Option (List ℕ))
      → is_in station given.stations ≡ true
      → ((handle : ℕ) (link : OpenLink) → link_at handle (facts_at given station (after_call given station step history)).links ≡ Some link
      → IsEndCounted (unsent_too station) (received_too station) handle (facts_at given station (after_call given station step history)).turn link
      (exchange_at (number_at station handle (after_call given station step history)) (after_call given station step history) (side_of station)))
      → ((other : ℕ) → is_in other given.stations ≡ true → (other == station) ≡ false → unsent_too other ≡ unsent other)
      → ((other : ℕ) → is_in other given.stations ≡ true → (other == station) ≡ false → received_too other ≡ received other)
      → AreCountedSo history unsent received → AreCountedSo (after_call given station step history) unsent_too received_too
  counted_call are_two station step history unsent unsent_too received received_too in_it own u r counted = λ other handle link is at. by other handle link is at (other == station) refl
    where
      by : (other handle : ℕ) (link : OpenLink) → is_in other given.stations ≡ true → link_at handle (facts_at given other (after_call given station step history)).links ≡ Some link
          → (same : Bool) → (other == station) ≡ same
          → IsEndCounted (unsent_too other) (received_too other) handle (facts_at given other (after_call given station step history)).turn link
          (exchange_at (number_at other handle (after_call given station step history)) (after_call given station step history) (side_of other))
      by other handle link is at true one =
          let equal = eqb-true other station one in
          let next = after_call given station step history in
          subst (λ n. IsEndCounted (unsent_too n) (received_too n) handle (facts_at given n next).turn link (exchange_at (number_at n handle next) next (side_of n))) (sym equal)
          (own handle link (subst (λ n. link_at handle (facts_at given n next).links ≡ Some link) equal at))
      by other handle link is at false differs =
          let next = after_call given station step history in
          let same = other_facts given station step history other differs in
          moved handle link (unsent other) (unsent_too other) (received other) (received_too other) (facts_at given other history).turn (facts_at given other next).turn _ _
          (u other is differs) (r other is differs) (ap (λ (f : Facts). f.turn) same)
          (ap (λ n. exchange_at n next (side_of other)) (number_other given station step history other handle differs)
          ∙ exchange_other given (number_at other handle history) station step history (side_of other) (other_apart given are_two station other in_it is differs))
          (counted other handle link is (ap (λ (f : Facts). link_at handle f.links) (sym same) ∙ at))

  -- what is still to be taken, after a call on one station with which it has nothing more to take
  abbrev pub AreToTake : List Event → Type 0
  AreToTake history = (station handle : ℕ) (link : OpenLink) → is_in station given.stations ≡ true → link_at handle (facts_at given station history).links ≡ Some link
      → IsToTake (packet_received station history) handle (facts_at given station history).turn link
      (exchange_at (number_at station handle history) history (other_side (side_of station)))

  pub take_call : (station : ℕ) (step : Step) (history : List Event) → packet_received station (after_call given station step history) ≡ None
      → ((other : ℕ) → (other == station) ≡ false → packet_received other (after_call given station step history) ≡ packet_received other history)
      → AreToTake history → AreToTake (after_call given station step history)
  take_call station step history none others to_take = λ other handle link is at. by other handle link is at (other == station) refl
    where
      by : (other handle : ℕ) (link : OpenLink) → is_in other given.stations ≡ true → link_at handle (facts_at given other (after_call given station step history)).links ≡ Some link
          → (same : Bool) → (other == station) ≡ same
          → IsToTake (packet_received other (after_call given station step history)) handle (facts_at given other (after_call given station step history)).turn link
          (exchange_at (number_at other handle (after_call given station step history)) (after_call given station step history) (other_side (side_of other)))
      by other handle link is at true one =
          let next = after_call given station step history in
          none_to_take (packet_received other next) handle (facts_at given other next).turn link (exchange_at (number_at other handle next) next (other_side (side_of other)))
          (ap (λ n. packet_received n next) (eqb-true other station one) ∙ none)
      by other handle link is at false differs = λ octets listens some slot room more.
          let next = after_call given station step history in
          let same = other_facts given station step history other differs in
          let number = number_at other handle history in
          ap (λ n. (exchange_at n next (other_side (side_of other))).sent) (number_other given station step history other handle differs)
          ∙ (exchange_same given number station step history (other_side (side_of other))).sent
          ∙ to_take other handle link is (ap (λ (f : Facts). link_at handle f.links) (sym same) ∙ at) octets
          (ap (λ (f : Facts). listens_under handle f.turn.doing) (sym same) ∙ listens) (sym (others other differs) ∙ some) slot room more
