-- What the other one of two stations is handed of a packet, by its verdict on it; and a forged packet, which changes nothing
-- that is counted.
use Rattle.std.proofs.Common.{◌≡◌, ℕ, ◌&&◌, Bool, true, false, Option, Some, None, List, [], ◌∷◌, ◌++◌, if◌then◌else◌, refl, sym, ap, subst, ◌∙◌}
use Rattle.std.proofs.lemmas.Bool.{eqb-true}
use Rattle.ble_base.specs.declared.verdicts.Verdict.{Verdict}
use Rattle.ble_base.specs.declared.verdicts.Verdict.TheVariants.{Broken, Forged, Good, Missed}
use Rattle.air_frame.specs.declared.Heard.{Heard}
use Rattle.air_frame.specs.declared.Heard.TheVariants.{NotOurs, Broken as Faulty, Whole}
use Rattle.journal_packets.specs.link_model.Facts.{Facts as EndFacts}
use Rattle.journal_packets.specs.link_model.Packets.{good_pdu, heard_of, is_forged, is_forged_in, is_forged_pdu, verdict_of, whole_pdu}
use Rattle.journal_packets.specs.link_model.Payload.{opens_now}
use Rattle.journal_packets.specs.link_model.Receiving.{ended_by_forgery}
use Rattle.journal_packets.specs.link_model.Setup.{Setup as EndSetup}
use Rattle.journal_packets.specs.link_model.Step.{PacketReceived}
use Rattle.journal_packets.specs.link_model.Verdicts.{has_room_for, pdu_by, verdict_by, whole_in}
use Rattle.journal_packets.proofs.link_model.KeyedSteps.{forged_ends, forged_none}
use Rattle.journal_packets.specs.open_links.OpenLinks.{Links, OpenLink, facts_in, link_after, link_at}
use Rattle.journal_packets.specs.controller_model.declared.doing.Doing.{Doing}
use Rattle.journal_packets.specs.controller_model.declared.doing.Doing.TheVariants.{CentralListens, PeripheralListens}
use Rattle.journal_packets.specs.controller_model.declared.doing.Turn.{Turn}
use Rattle.journal_packets.specs.controller_model.Facts.{Facts, Use, Listens}
use Rattle.journal_packets.specs.controller_model.Packets.{verdict_doing, verdict_of as verdict_at, verdict_of_link}
use Rattle.radio_replay.specs.declared.fates.Fate.{Fate}
use Rattle.radio_replay.specs.Damage.{damaged_packet}
use Rattle.link_calls.specs.Uses.{listens_under, sends_under}
use Rattle.link_calls.specs.run_model.History.{Event, Transmitted, Hearing, handed_or, has_received, is_good, is_handed, packet_received}
use Rattle.link_calls.specs.run_model.Run.{Given, facts_at, hearings_of, unseen_in, use_at}
use Rattle.link_calls.proofs.run_model.LinkEnds.{received_event}
use Rattle.link_calls.proofs.run_model.Stations.{is_in}
use Rattle.journal_packets.proofs.run_laws.Agreed.{ack_of, step_facts}
use Rattle.journal_acks.specs.Counted.{IsCounted}
use Rattle.journal_acks.specs.Exchange.{Exchanged}
use Rattle.journal_acks.proofs.Counting.{IsEndCounted, accepted_before, ack_nothing, ack_taking, ahead_if, has_own_line}
use Rattle.journal_acks.proofs.TwoStations.{IsOfTwo, hearing_of, one_hearing, other_of, other_received, reached, same_number, unchanged}

-- ---- a packet that an end judges forged

pub forged_is : (setup : EndSetup) (facts : EndFacts) (octets : List ℕ) → verdict_of setup facts octets ≡ Forged → is_forged setup facts octets ≡ true
unfolding verdict_of is_forged whole_pdu
forged_is setup facts octets is = by (heard_of setup facts octets) is
  where
    opens : Bool
    opens = opens_now facts.encryption.end

    fits : (room forged : Bool) (pdu : List ℕ) → is_forged_pdu facts pdu ≡ forged → (if room then (if forged then Forged else Good) else Broken) ≡ Forged
        → is_forged_in facts (pdu_by room pdu) ≡ true
    fits true true pdu found is = found
    fits true false pdu found is = absurd cc
    fits false forged pdu found is = absurd cc

    by : (heard : Heard) → verdict_by setup.link.max_rx opens (is_forged_pdu facts) heard ≡ Forged → is_forged_in facts (whole_in setup.link.max_rx opens heard) ≡ true
    by NotOurs is = absurd cc
    by Faulty is = absurd cc
    by (Whole pdu) is = fits (has_room_for setup.link.max_rx opens pdu.items) (is_forged_pdu facts pdu.items) pdu.items refl is

-- it is not read
pub forged_unread : (setup : EndSetup) (facts : EndFacts) (octets : List ℕ) → verdict_of setup facts octets ≡ Forged → good_pdu setup facts octets ≡ None
forged_unread setup facts octets is = forged_none setup facts octets (forged_is setup facts octets is)

module _ (slot : ℕ) (octets : List ℕ) (link : OpenLink) (forged : verdict_of link.setup (facts_in link) octets ≡ Forged) where
  -- it does nothing but end the link
  pub forged_facts : (room : Bool)
      → facts_in (link_after (PacketReceived slot octets room) link) ≡ record (facts_in link) { control = ended_by_forgery (facts_in link).control }
  forged_facts room =
      step_facts link (PacketReceived slot octets room)
      ∙ forged_ends link.setup (facts_in link) (PacketReceived slot octets room) (forged_is link.setup (facts_in link) octets forged)

  pub forged_ack : (room : Bool) → ack_of (link_after (PacketReceived slot octets room) link) ≡ ack_of link
  forged_ack room = ap (λ (f : EndFacts). f.acknowledgement) (forged_facts room)

  pub forged_taking : ack_taking true (Some octets) slot link ≡ ack_of link
  forged_taking =
      ap (λ pdu. record (ack_of (link_after (PacketReceived slot octets false) link)) { accepted = accepted_before (has_own_line pdu) slot octets link })
      (forged_unread link.setup (facts_in link) octets forged)
      ∙ forged_ack false

-- so it changes no counts
pub forged_counted : (unsent : Bool) (received : Option (List ℕ)) (octets : List ℕ) (handle : ℕ) (turn : Turn) (link : OpenLink) (end : Exchanged) → received ≡ None
    → (listens_under handle turn.doing ≡ true → verdict_of link.setup (facts_in link) octets ≡ Forged)
    → IsEndCounted unsent received handle turn link end → IsEndCounted unsent (Some octets) handle turn link end
forged_counted unsent received octets handle turn link end none forged was = by (listens_under handle turn.doing) forged was
  where
    by : (listens : Bool) → (listens ≡ true → verdict_of link.setup (facts_in link) octets ≡ Forged)
        → IsCounted (ahead_if (unsent && sends_under handle turn.doing) end) (ack_taking listens received turn.slot link)
        → IsCounted (ahead_if (unsent && sends_under handle turn.doing) end) (ack_taking listens (Some octets) turn.slot link)
    by true is counted =
        subst (IsCounted (ahead_if (unsent && sends_under handle turn.doing) end))
        (ack_nothing true received turn.slot link (λ listens. none) ∙ sym (forged_taking turn.slot octets link (is refl))) counted
    by false is counted = counted

-- ---- a station that listens on a link judges a packet as that link does

pub doing_link : (links : Links) (doing : Doing) (handle : ℕ) (link : OpenLink) (octets : List ℕ) → listens_under handle doing ≡ true → link_at handle links ≡ Some link
    → verdict_doing links doing octets ≡ verdict_of link.setup (facts_in link) octets
doing_link links (CentralListens other) handle link octets on at =
    (λ i. verdict_doing links (CentralListens (eqb-true other handle on i)) octets) ∙ ap (λ found. verdict_of_link found octets) at
doing_link links (PeripheralListens other) handle link octets on at =
    (λ i. verdict_doing links (PeripheralListens (eqb-true other handle on i)) octets) ∙ ap (λ found. verdict_of_link found octets) at
doing_link links doing handle link octets on at = absurd cc

pub judged_link : (facts : Facts) (handle : ℕ) (link : OpenLink) (octets : List ℕ) → listens_under handle facts.turn.doing ≡ true → link_at handle facts.links ≡ Some link
    → verdict_at facts octets ≡ verdict_of link.setup (facts_in link) octets
unfolding verdict_at
judged_link facts handle link octets on at = doing_link facts.links facts.turn.doing handle link octets on at

-- ---- what the other station is handed

unhanded_bad : (verdict : Verdict) → is_handed verdict ≡ false → is_good verdict ≡ false
unhanded_bad Missed is = refl
unhanded_bad Broken is = refl
unhanded_bad Good is = absurd cc
unhanded_bad Forged is = absurd cc

-- what was sent, where it is good; what the radio left of it, where that is forged; and else nothing new
pub data IsHandedOn (octets heard : List ℕ) (verdict : Verdict) (before handed : Option (List ℕ)) (facts : Facts) (wanted : Use) (channel : ℕ) : Type 0 where
  WasGood : verdict ≡ Good → handed ≡ Some octets → IsHandedOn octets heard verdict before handed facts wanted channel
  WasForged : verdict ≡ Forged → handed ≡ Some heard → verdict_at facts heard ≡ Forged → wanted ≡ Listens channel
      → IsHandedOn octets heard verdict before handed facts wanted channel
  WasNone : is_handed verdict ≡ false → handed ≡ before → IsHandedOn octets heard verdict before handed facts wanted channel

module _ (given : Given) (are_two : IsOfTwo given) (fates : List Fate) (station channel : ℕ) (octets : List ℕ) (history : List Event)
    (is : is_in station given.stations ≡ true) where
  abbrev other : ℕ
  other = other_of station

  abbrev hearing : Hearing
  hearing = hearing_of given fates station channel octets history

  abbrev hearings : List Hearing
  hearings = hearings_of given fates station channel octets history

  abbrev after : List Event
  after = history ++ Transmitted station channel octets hearings ∷ []

  abbrev heard : List ℕ
  heard = damaged_packet hearing.fate octets

  has : hearings ≡ hearing ∷ []
  has = one_hearing given are_two fates station channel octets history is

  pub heard_it : has_received other hearings ≡ is_good hearing.verdict
  heard_it = ap (has_received other) has ∙ other_received other hearing (same_number other)

  handed_as : packet_received other after ≡ (if is_handed hearing.verdict then Some heard else packet_received other history)
  handed_as =
      received_event other history (Transmitted station channel octets hearings)
      ∙ ap (handed_or (packet_received other history) other octets) has
      ∙ ap (λ same. if same && is_handed hearing.verdict then Some heard else packet_received other history) (same_number other)

  pub handed_on : unseen_in octets hearings ≡ None
      → IsHandedOn octets heard hearing.verdict (packet_received other history) (packet_received other after) (facts_at given other history) (use_at given other history) channel
  handed_on seen = by hearing.verdict refl
    where
      handed_by : (verdict : Verdict) → hearing.verdict ≡ verdict
          → packet_received other after ≡ (if is_handed verdict then Some heard else packet_received other history)
      handed_by verdict judged = handed_as ∙ ap (λ v. if is_handed v then Some heard else packet_received other history) judged

      by : (verdict : Verdict) → hearing.verdict ≡ verdict
          → IsHandedOn octets heard hearing.verdict (packet_received other history) (packet_received other after) (facts_at given other history) (use_at given other history) channel
      by Good judged =
          WasGood judged (handed_by Good judged ∙ ap Some (unchanged octets hearing (ap (unseen_in octets) (sym has) ∙ seen) (ap is_good judged)))
      by Forged judged =
          let there = reached (use_at given other history) hearing.fate channel (facts_at given other history) heard (ap is_handed judged) in
          WasForged judged (handed_by Forged judged) (sym there.verdict_is ∙ judged) there.listens
      by Missed judged = WasNone (ap is_handed judged) (handed_by Missed judged)
      by Broken judged = WasNone (ap is_handed judged) (handed_by Broken judged)

  -- what holds with what it received, and with a packet that is forged to it, holds with what it is handed
  pub with_handed : (P : Option (List ℕ) → Type 0) → unseen_in octets hearings ≡ None → P (if has_received other hearings then Some octets else packet_received other history)
      → (verdict_at (facts_at given other history) heard ≡ Forged → P (packet_received other history) → P (Some heard)) → P (packet_received other after)
  with_handed P seen was forged = by (handed_on seen)
    where
      as_heard : (good : Bool) → is_good hearing.verdict ≡ good → (if has_received other hearings then Some octets else packet_received other history)
          ≡ (if good then Some octets else packet_received other history)
      as_heard good is_so = ap (λ b. if b then Some octets else packet_received other history) (heard_it ∙ is_so)

      by : IsHandedOn octets heard hearing.verdict (packet_received other history) (packet_received other after) (facts_at given other history) (use_at given other history) channel
          → P (packet_received other after)
      by (WasGood judged handed) = subst P (as_heard true (ap is_good judged) ∙ sym handed) was
      by (WasForged judged handed is_so listens) = subst P (sym handed) (forged is_so (subst P (as_heard false (ap is_good judged)) was))
      by (WasNone bad handed) = subst P (as_heard false (unhanded_bad hearing.verdict bad) ∙ sym handed) was
