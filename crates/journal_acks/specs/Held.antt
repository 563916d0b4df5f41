-- A packet of a link, by the lines before it and by the end that sends it (Core 5.2, volume 6 part B, section 4.5.9).
use Rattle.std.specs.Prelude.{◌≡◌, ℕ, List}
use Rattle.journal_packets.specs.Senders.{IsOfSendersLink}
use Rattle.journal_packets.specs.link_model.Packets.{payload_sent, pdu_sent}
use Rattle.journal_packets.specs.link_model.Step.{PacketSent}
use Rattle.journal_packets.specs.open_links.OpenLinks.{facts_in, link_after}
use Rattle.link_calls.specs.run_model.History.{Event}
use Rattle.link_calls.specs.run_model.Journal.{journal_of, side_of}
use Rattle.link_calls.specs.run_model.Links.{links_of}
use Rattle.link_calls.specs.run_model.Run.{Given}
use Rattle.journal_acks.specs.Carried.{IsLinkPacket, carried_of}

-- it has the payload that the end made as it sent the PDU first, and keeps until that is acknowledged
pub record HasPayloadOfEnd (given : Given) (history : List Event) (station channel : ℕ) (octets : List ℕ) : Type 0 where
  pub sent : IsOfSendersLink given history station channel octets
  pub packet : IsLinkPacket (journal_of history) (side_of station) channel octets
  pub number_is : packet.number ≡ (links_of history).link_of station sent.handle
  pub pdu_is : carried_of packet.number (journal_of history) (side_of station) ≡ pdu_sent (facts_in sent.link)
  pub payload_is : packet.payload ≡ payload_sent (facts_in sent.link)
  -- the end has it now
  pub kept : packet.payload ≡ (facts_in (link_after (PacketSent sent.slot) sent.link)).outgoing.payload
