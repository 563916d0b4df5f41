-- The link that a packet of a run was sent on (Core 5.2, volume 6 part B, section 4.5).
use Rattle.std.specs.Prelude.{◌≡◌, ℕ, List, Some}
use Rattle.journal_links.specs.link_model.Packets.{packet_sent}
use Rattle.journal_links.specs.link_model.Step.{PacketSent}
use Rattle.journal_links.specs.open_links.OpenLinks.{OpenLink, facts_in, link_after, link_at}
use Rattle.journal_links.specs.controller_model.Sent.{SendsOn}
use Rattle.journal_links.specs.run_model.History.{Event}
use Rattle.journal_links.specs.run_model.Journal.{journal_of, side_of}
use Rattle.journal_links.specs.run_model.Links.{links_of}
use Rattle.journal_links.specs.run_model.Run.{Given, facts_at}
use Rattle.journal_packets.specs.Belonging.{link_of_packet}

-- a packet that a station sends after this history is that of one of its open links, on the channel of its event, and the
-- journal names that link
pub record IsOfSendersLink (given : Given) (history : List Event) (station channel : ℕ) (octets : List ℕ) : Type 0 where
  pub handle : ℕ
  pub slot : ℕ
  -- the link as it was before it sent this
  pub link : OpenLink
  pub is_open : link_at handle (facts_at given station history).links ≡ Some (link_after (PacketSent slot) link)
  pub packet : octets ≡ packet_sent link.setup (facts_in link)
  pub sends : SendsOn handle (facts_at given station history).turn.doing
  pub channel_is : channel ≡ (facts_in link).event.channel
  pub belongs : link_of_packet (journal_of history) (side_of station) octets
      ≡ Some ((links_of history).link_of station handle)
