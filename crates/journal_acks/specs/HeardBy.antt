-- A packet of a link, by the end that hears it (Core 5.2, volume 6 part B, sections 4.5.9 and 5.1.3.1).
use Rattle.std.specs.Prelude.{◌≡◌, ℕ, true, List, Some}
use Rattle.std.specs.List.{Contains}
use Rattle.ble_base.specs.Side.{other_side}
use Rattle.ble_base.specs.declared.roles.Side.{Side}
use Rattle.ble_base.specs.declared.verdicts.Verdict.{Verdict}
use Rattle.journal.specs.declared.entries.Entry.{Entry}
use Rattle.journal.specs.declared.entries.Mark.{Mark}
use Rattle.journal_packets.specs.Belonging.{link_of_packet}
use Rattle.journal_packets.specs.journal_links.Begun.{LinkBegun, link_numbered}
use Rattle.journal_packets.specs.link_model.Packets.{verdict_of}
use Rattle.journal_packets.specs.open_links.OpenLinks.{OpenLink, facts_in, link_at}
use Rattle.radio_replay.specs.Damage.{damaged_packet}
use Rattle.link_calls.specs.Uses.{listens_under}
use Rattle.link_calls.specs.run_model.Entries.{IsAired}
use Rattle.link_calls.specs.run_model.History.{Event, Hearing}
use Rattle.link_calls.specs.run_model.Journal.{journal_of, side_of}
use Rattle.link_calls.specs.run_model.Links.{links_of}
use Rattle.link_calls.specs.run_model.Run.{Given, facts_at}
use Rattle.journal_acks.specs.Counted.{IsCounted}
use Rattle.journal_acks.specs.Exchange.{exchange_of}

-- the other side judges what the radio left of it as the end of a link does that it has open on this channel, and the
-- lines before the packet count what that end sent and accepted
pub record IsHeardByEnd (given : Given) (history : List Event) (station channel : ℕ) (octets : List ℕ) (hearing : Hearing) : Type 0 where
  pub listens : Contains given.stations hearing.listener
  pub side_is : side_of hearing.listener ≡ other_side (side_of station)
  pub handle : ℕ
  pub link : OpenLink
  pub is_open : link_at handle (facts_at given hearing.listener history).links ≡ Some link
  pub on : listens_under handle (facts_at given hearing.listener history).turn.doing ≡ true
  pub channel_is : channel ≡ (facts_in link).event.channel
  pub number : ℕ
  pub number_is : number ≡ (links_of history).link_of hearing.listener handle
  pub begun : LinkBegun
  pub is_link : link_numbered number (journal_of history) ≡ Some begun
  pub fields : begun.fields ≡ link.setup.link.fields
  pub counted : IsCounted (exchange_of number (journal_of history) (side_of hearing.listener)) (facts_in link).acknowledgement
  pub verdict_is : hearing.verdict ≡ verdict_of link.setup (facts_in link) (damaged_packet hearing.fate octets)
  -- a packet that was not changed is of that link
  pub belongs : damaged_packet hearing.fate octets ≡ octets → link_of_packet (journal_of history) (side_of station) octets ≡ Some number

-- so is a packet in a line
pub record IsHeardLine (given : Given) (front : List Entry) (side : Side) (channel : ℕ) (octets : List ℕ) (fate : Mark) (verdict : Verdict) : Type 0 where
  pub aired : IsAired given front side channel octets fate verdict
  pub by_end : IsHeardByEnd given aired.before aired.station channel octets aired.hearing
