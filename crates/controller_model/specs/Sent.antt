-- Octets that a controller sends (Core 5.2, volume 6 part B, sections 2.1 to 2.4).
use Rattle.std.specs.Prelude.{◌≡◌, ℕ, ◌≤◌, ◌<◌, List, ◌++◌, IfSome, ⊤}
use Rattle.std.specs.List.{AllByRecursion}
use Rattle.adv_pdu.specs.declared.pdu.AdvPdu.{AdvPdu}
use Rattle.adv_pdu.specs.Pdu.{IsPdu}
use Rattle.link_commands.specs.open_links.link_model.Packets.{packet_sent}
use Rattle.link_commands.specs.open_links.link_model.Step.{Step, DataGiven, Disconnected, KeyAnswered, PacketSent, ProcedureAsked, RequestAnswered}
use Rattle.link_commands.specs.open_links.OpenLinks.{OpenLink, facts_in, link_after, link_at}
use Rattle.controller_model.specs.declared.doing.Doing.{Doing}
use Rattle.controller_model.specs.declared.doing.Doing.TheVariants.{CentralSends, PeripheralSends}
use Rattle.controller_model.specs.Facts.{Facts}
use Rattle.controller_model.specs.Packets.{advertising_packet}

-- they are the packet of a PDU, on one of the advertising channels
pub record IsAdvertisingPacket (channel : ℕ) (octets : List ℕ) : Type 0 where
  pub pdu : AdvPdu
  pub is_pdu : IsPdu pdu
  pub packet : octets ≡ advertising_packet channel pdu
  pub channel_from : 37 ≤ channel
  pub channel_to : channel ≤ 39

-- it is to send on the link under this handle
abbrev pub SendsOn : ℕ → Doing → Type 0
SendsOn handle (CentralSends other) = other ≡ handle
SendsOn handle (PeripheralSends other) = other ≡ handle
SendsOn handle other = ⊥

-- the host of a link gives it data, asks for a procedure on it, answers a request of its peer, or ends it
abbrev pub IsHostStep : Step → Type 0
IsHostStep (DataGiven start body) = ⊤
IsHostStep (ProcedureAsked ask) = ⊤
IsHostStep (RequestAnswered answer) = ⊤
IsHostStep (KeyAnswered key slot) = ⊤
IsHostStep (Disconnected reason slot) = ⊤
IsHostStep step = ⊥

-- these steps of its host happened to a link, and nothing else
pub record HasOnlyHeardHost (before after : OpenLink) : Type 0 where
  pub steps : List Step
  pub are_of_host : AllByRecursion IsHostStep steps
  pub link_is : after ≡ record before { past = before.past ++ steps }

-- they are the packet of the link on which it is to send, on a data channel; to that link, if it is still open, nothing
-- happened after that packet but what its host gave it or asked of it
pub record IsLinkPacket (facts : Facts) (channel : ℕ) (octets : List ℕ) : Type 0 where
  pub handle : ℕ
  pub sends : SendsOn handle facts.turn.doing
  pub link : OpenLink
  pub packet : octets ≡ packet_sent link.setup (facts_in link)
  pub channel_is : channel ≡ (facts_in link).event.channel
  pub data_channel : channel < 37
  pub last : IfSome (link_at handle facts.links) (HasOnlyHeardHost (link_after (PacketSent facts.turn.slot) link))
