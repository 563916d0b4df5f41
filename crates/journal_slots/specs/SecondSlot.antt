-- The second slot of an event: a side sends in it only where a packet in the first one said that more waits (Core 5.2,
-- volume 6 part B, section 4.5.6; which packets decide is our choice).
use Rattle.std.specs.Prelude.{◌≡◌, ℕ, ◌+◌, ◌⊎◌, Bool, true, false, List, ◌∷◌, ◌++◌, length, Some}
use Rattle.ble_base.specs.Side.{other_side}
use Rattle.ble_base.specs.declared.roles.Side.{Side}
use Rattle.ble_base.specs.declared.verdicts.Verdict.{Verdict}
use Rattle.ble_base.specs.declared.verdicts.Verdict.TheVariants.{Good}
use Rattle.air_frame.specs.Packet.{pdu_in}
use Rattle.data_pdu.specs.Header.{header_in}
use Rattle.journal.specs.declared.entries.Entry.{Entry}
use Rattle.journal.specs.declared.entries.Entry.TheVariants.{Air}
use Rattle.journal.specs.declared.entries.Mark.{Mark}
use Rattle.journal_acks.specs.run_model.Links.{is_advertising}
use Rattle.journal_acks.specs.run_model.Readers.{turns_of}
use Rattle.journal_acks.specs.journal_links.Begun.{LinkBegun, link_numbered}
use Rattle.journal_acks.specs.journal_links.Changes.{changes_of}
use Rattle.journal_acks.specs.journal_links.Entered.{anchor_in}
use Rattle.journal_acks.specs.journal_packets.Belonging.{link_of_packet}
use Rattle.journal_acks.specs.EventOrder.{entered_on}

-- MD is 1 in the octets of a packet on this channel
abbrev pub has_more : ℕ → List ℕ → Bool
has_more channel octets = (header_in (pdu_in channel octets)).md

-- one of these entries is a packet of the link with this number, which a side sent in the turn of this slot
pub record PacketInSlot (number slot : ℕ) (sender : Side) (front : List Entry) : Type 0 where
  pub before : List Entry
  pub channel : ℕ
  pub octets : List ℕ
  pub fate : Mark
  pub verdict : Verdict
  pub after : List Entry
  pub is_at : front ≡ before ++ Air sender channel octets fate verdict ∷ after
  pub on_data_channel : is_advertising channel ≡ false
  pub belongs : link_of_packet before sender octets ≡ Some number
  pub in_turn : length (turns_of before) ≡ slot + 1

-- in the turn of this slot a side judged a packet of the other side on this link good, and MD is 1 in that packet or in
-- the one that the side sent itself
pub record HasToContinue (number slot : ℕ) (side : Side) (front : List Entry) : Type 0 where
  pub heard : PacketInSlot number slot (other_side side) front
  pub good : heard.verdict ≡ Good
  pub more : (has_more heard.channel heard.octets ≡ true)
      ⊎ ((sent : PacketInSlot number slot side front) × (has_more sent.channel sent.octets ≡ true))

-- where a packet of a link that a side sends after these entries is in the turn after that of the anchor of the event
-- that this side entered last, the event has to continue by the packets in the turn of the anchor
abbrev pub IsContinued : List Entry → Side → List ℕ → Type 0
IsContinued front side octets = (number event : ℕ) (link : LinkBegun) → link_of_packet front side octets ≡ Some number
    → link_numbered number front ≡ Some link → entered_on side number front ≡ event + 1
    → length (turns_of front) ≡ anchor_in link (changes_of number link side front) event + 2
    → HasToContinue number (anchor_in link (changes_of number link side front) event) side front

abbrev pub AllAreContinued : List Entry → Type 0
AllAreContinued journal = (front rest : List Entry) (side : Side) (channel : ℕ) (octets : List ℕ) (fate : Mark)
    (verdict : Verdict) → journal ≡ front ++ Air side channel octets fate verdict ∷ rest
    → is_advertising channel ≡ false → IsContinued front side octets
