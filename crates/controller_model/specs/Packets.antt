-- What a controller sends, and what it hears: the packets of the advertising channels, and those of links (Core 5.2,
-- volume 6 part B, sections 2.1 to 2.4).
use Rattle.std.specs.Prelude.{ℕ, true, List, [], Option, Some, None}
use Rattle.std.specs.Option.{option_and_then, option_map}
use Rattle.ble_base.specs.declared.addresses.Address.{Address}
use Rattle.ble_base.specs.declared.notes.Note.{Note}
use Rattle.ble_base.specs.declared.verdicts.Verdict.{Verdict}
use Rattle.ble_base.specs.declared.verdicts.Verdict.TheVariants.{Missed, Broken, Good}
use Rattle.adv_pdu.specs.declared.pdu.AdvPdu.{AdvPdu}
use Rattle.adv_pdu.specs.declared.pdu.AdvPdu.TheVariants.{ScanReq, ScanRsp, Connect}
use Rattle.adv_pdu.specs.Pdu.{written}
use Rattle.adv_pdu.specs.Reading.{read_of}
use Rattle.advertise.specs.Advertising.{advertisement}
use Rattle.air_frame.specs.declared.Heard.{Heard}
use Rattle.air_frame.specs.declared.Heard.TheVariants.{NotOurs, Broken as Faulty, Whole}
use Rattle.air_frame.specs.Advertising.{advertising_access, advertising_crc_init}
use Rattle.air_frame.specs.Hearing.{heard_in}
use Rattle.air_frame.specs.Packet.{on_air}
use Rattle.link_commands.specs.open_links.link_model.declared.setup.LinkSetup.{LinkSetup}
use Rattle.link_commands.specs.open_links.link_model.End.{notes_after as end_notes}
use Rattle.link_commands.specs.open_links.link_model.Packets.{packet_sent, verdict_of as verdict_of_end}
use Rattle.link_commands.specs.open_links.link_model.Step.{PacketSent}
use Rattle.link_commands.specs.open_links.OpenLinks.{Links, OpenLink, facts_in, link_after, link_at, with_change}
use Rattle.controller_model.specs.declared.doing.Doing.{Doing}
use Rattle.controller_model.specs.declared.doing.Doing.TheVariants.{Advertises, AwaitsRequest, Responds, Scans, Requests, AwaitsResponse, Initiates, Connects, CentralSends, CentralListens, PeripheralListens, PeripheralSends, Rests}
use Rattle.controller_model.specs.Facts.{Facts, Use, Sends, Listens, Idle}

-- ---- the advertising channels

-- a PDU on one of the advertising channels
abbrev pub advertising_packet : ℕ → AdvPdu → List ℕ
advertising_packet channel pdu = on_air channel advertising_access advertising_crc_init (written pdu)

abbrev pub sends_pdu : ℕ → Option AdvPdu → Use
sends_pdu channel None = Idle
sends_pdu channel (Some pdu) = Sends channel (advertising_packet channel pdu)

-- an advertiser sends its advertisement with the advertising data of the host, and answers with the scan response data
abbrev pub advertisement_sent : Facts → Option AdvPdu
advertisement_sent facts =
    option_map (λ on. advertisement on.params facts.advertising.data_octets) facts.advertising.on

abbrev pub response_sent : Facts → Option AdvPdu
response_sent facts =
    option_map (λ on. ScanRsp on.params.own (record { items = facts.advertising.response_octets })) facts.advertising.on

abbrev pub request_sent : Address → Facts → Option AdvPdu
request_sent advertiser facts = option_map (λ on. ScanReq on.params.own advertiser) facts.scanning.on

-- ChSel of a CONNECT_IND is 1: channel selection algorithm #2 is supported (section 2.3.3.1)
abbrev pub connect_sent : LinkSetup → Option AdvPdu
connect_sent link = Some (Connect link.own link.peer true link.fields)

-- ---- links

abbrev pub sends_on : Option OpenLink → Use
sends_on None = Idle
sends_on (Some link) = Sends (facts_in link).event.channel (packet_sent link.setup (facts_in link))

abbrev pub listens_on : Option OpenLink → Use
listens_on None = Idle
listens_on (Some link) = Listens (facts_in link).event.channel

-- ---- what is wanted of the radio

abbrev pub use_for : Facts → Doing → Use
use_for facts (Advertises channel) = sends_pdu channel (advertisement_sent facts)
use_for facts (AwaitsRequest channel) = Listens channel
use_for facts (Responds channel) = sends_pdu channel (response_sent facts)
use_for facts (Scans channel) = Listens channel
use_for facts (Requests channel advertiser) = sends_pdu channel (request_sent advertiser facts)
use_for facts (AwaitsResponse channel) = Listens channel
use_for facts (Initiates channel) = Listens channel
use_for facts (Connects channel link) = sends_pdu channel (connect_sent link)
use_for facts (CentralSends handle) = sends_on (link_at handle facts.links)
use_for facts (CentralListens handle) = listens_on (link_at handle facts.links)
use_for facts (PeripheralListens handle) = listens_on (link_at handle facts.links)
use_for facts (PeripheralSends handle) = sends_on (link_at handle facts.links)
use_for facts Rests = Idle

-- a packet that is wanted on a link is sent: it is part of what happened to that end
abbrev pub links_sending : ℕ → Doing → Links → Links
links_sending slot (CentralSends handle) links = with_change handle (link_after (PacketSent slot)) links
links_sending slot (PeripheralSends handle) links = with_change handle (link_after (PacketSent slot)) links
links_sending slot other links = links

-- a new PDU that is not empty is noted as it is sent first
abbrev pub notes_sent : ℕ → Option OpenLink → List Note
notes_sent slot None = []
notes_sent slot (Some link) = end_notes link.setup (facts_in link) (PacketSent slot)

abbrev pub notes_doing : Doing → Facts → List Note
notes_doing (CentralSends handle) facts = notes_sent facts.turn.slot (link_at handle facts.links)
notes_doing (PeripheralSends handle) facts = notes_sent facts.turn.slot (link_at handle facts.links)
notes_doing other facts = []

-- what a controller holds as it is to do this in the phase that comes next
abbrev pub facts_doing : Doing → Facts → Facts
facts_doing doing facts = record facts {
  turn = record facts.turn { doing = doing };
  wanted = use_for facts doing;
  links = links_sending facts.turn.slot doing facts.links;
}

-- what it wants of the radio in the phase that comes next
unfoldable pub use_of : Facts → Use
use_of facts = facts.wanted

abbrev pub channel_listened : Use → Option ℕ
channel_listened (Sends channel octets) = None
channel_listened (Listens channel) = Some channel
channel_listened Idle = None

-- ---- the verdict on what reaches it (our choice)

abbrev pub heard_on_channel : ℕ → List ℕ → Heard
heard_on_channel channel octets = heard_in channel advertising_access advertising_crc_init octets

abbrev pub verdict_by : Heard → Verdict
verdict_by NotOurs = Missed
verdict_by Faulty = Broken
verdict_by (Whole pdu) = Good

abbrev pub verdict_advertising : ℕ → List ℕ → Verdict
verdict_advertising channel octets = verdict_by (heard_on_channel channel octets)

abbrev pub verdict_of_link : Option OpenLink → List ℕ → Verdict
verdict_of_link None octets = Missed
verdict_of_link (Some link) octets = verdict_of_end link.setup (facts_in link) octets

-- what a controller makes of octets that reach it: missed where it does not listen, or where they do not begin with the
-- access address that it listens for; broken where they are the packet of no PDU that it receives
abbrev pub verdict_doing : Links → Doing → List ℕ → Verdict
verdict_doing links (AwaitsRequest channel) octets = verdict_advertising channel octets
verdict_doing links (Scans channel) octets = verdict_advertising channel octets
verdict_doing links (AwaitsResponse channel) octets = verdict_advertising channel octets
verdict_doing links (Initiates channel) octets = verdict_advertising channel octets
verdict_doing links (CentralListens handle) octets = verdict_of_link (link_at handle links) octets
verdict_doing links (PeripheralListens handle) octets = verdict_of_link (link_at handle links) octets
verdict_doing links other octets = Missed

unfoldable pub verdict_of : Facts → List ℕ → Verdict
verdict_of facts octets = verdict_doing facts.links facts.turn.doing octets

-- the PDU of a packet of an advertising channel
abbrev pub pdu_by : Heard → Option (List ℕ)
pdu_by NotOurs = None
pdu_by Faulty = None
pdu_by (Whole pdu) = Some pdu.items

unfoldable pub pdu_heard : ℕ → List ℕ → Option AdvPdu
pdu_heard channel octets = option_and_then read_of (pdu_by (heard_on_channel channel octets))
