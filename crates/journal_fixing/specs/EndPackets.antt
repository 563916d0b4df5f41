-- A packet of a link, by the lines before it and by the end that sends it (Core 5.2, volume 6 part B, sections 2.1, 2.4 and
-- 4.5.9).
use Rattle.std.specs.Prelude.{◌≡◌, ℕ, List}
use Rattle.journal_controls.specs.journal_acks.Carried.{IsLinkPacket, carried_of}
use Rattle.journal_controls.specs.journal_ends.open_links.OpenLinks.{facts_in}
use Rattle.journal_controls.specs.journal_packets.Senders.{IsOfSendersLink}
use Rattle.journal_controls.specs.link_model.Packets.{more_sent, pdu_sent}
use Rattle.journal_controls.specs.run_model.History.{Event}
use Rattle.journal_controls.specs.run_model.Journal.{journal_of, side_of}
use Rattle.journal_controls.specs.run_model.Links.{links_of}
use Rattle.journal_controls.specs.run_model.Run.{Given}

-- it carries the PDU and the MD of that end
pub record IsOfEnd (given : Given) (history : List Event) (station channel : ℕ) (octets : List ℕ) : Type 0 where
  pub sent : IsOfSendersLink given history station channel octets
  pub packet : IsLinkPacket (journal_of history) (side_of station) channel octets
  pub number_is : packet.number ≡ (links_of history).link_of station sent.handle
  pub pdu_is : carried_of packet.number (journal_of history) (side_of station) ≡ pdu_sent (facts_in sent.link)
  pub md_is : packet.md ≡ more_sent (facts_in sent.link)
