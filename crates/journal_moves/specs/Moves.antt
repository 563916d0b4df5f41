-- Which packets are on the air in a turn, from the lines of a journal alone: in each phase what both sides are to
-- send, A before B, all of that, and nothing else (Core 5.2, volume 6 part B, sections 4.4.2 to 4.5.1; the phases of
-- a turn, and who has the radio in it, are our choice).
use Rattle.std.specs.Prelude.{◌≡◌, ◌≢◌, ℕ, ◌==◌, ◌&&◌, ◌||◌, nat_lt, Bool, true, false, List, ◌∷◌, ◌++◌, Option, Some, None, is_some, if◌then◌else◌}
use Rattle.std.specs.Option.{option_and_then, option_map}
use Rattle.ble_base.specs.Side.{other_side}
use Rattle.ble_base.specs.declared.roles.Side.{Side}
use Rattle.ble_base.specs.declared.roles.Side.TheVariants.{A, B}
use Rattle.ble_base.specs.declared.verdicts.Verdict.{Verdict}
use Rattle.ble_base.specs.declared.verdicts.Verdict.TheVariants.{Missed}
use Rattle.adv_pdu.specs.declared.pdu.AdvPdu.{AdvPdu}
use Rattle.adv_pdu.specs.declared.pdu.AdvPdu.TheVariants.{ScanReq, ScanRsp}
use Rattle.advertise.specs.Advertising.{advertisement}
use Rattle.journal.specs.declared.entries.Entry.{Entry}
use Rattle.journal.specs.declared.entries.Entry.TheVariants.{Air, Turn}
use Rattle.journal.specs.declared.entries.Mark.{Mark}
use Rattle.journal.specs.declared.entries.Mark.TheVariants.{Pass as Passed}
use Rattle.journal_wants.specs.controller_model.declared.doing.Doing.{Doing}
use Rattle.journal_wants.specs.controller_model.declared.doing.Doing.TheVariants.{Advertises, AwaitsRequest, AwaitsResponse, CentralListens, CentralSends, Connects, Initiates, PeripheralListens, PeripheralSends, Requests, Responds, Scans}
use Rattle.journal_wants.specs.controller_model.Packets.{advertising_packet, connect_sent}
use Rattle.journal_wants.specs.journal_acks.Carried.{channel_entered}
use Rattle.journal_wants.specs.journal_controls.journal_ends.Asked.{Words}
use Rattle.journal_wants.specs.journal_data.Held.{links_open}
use Rattle.journal_wants.specs.journal_data.HostLines.{link_under}
use Rattle.journal_wants.specs.journal_packets.Belonging.{link_of_packet}
use Rattle.journal_wants.specs.run_model.Links.{is_advertising}
use Rattle.journal_wants.specs.Station.{Setups, Station, station_deciding}
use Rattle.journal_moves.specs.Doing.{doing_on}

-- ---- in which phase a side sends, and in which it listens

abbrev pub phase_sending : Doing → Option ℕ
phase_sending (Advertises channel) = Some 0
phase_sending (CentralSends handle) = Some 0
phase_sending (Requests channel advertiser) = Some 1
phase_sending (Connects channel link) = Some 1
phase_sending (PeripheralSends handle) = Some 1
phase_sending (Responds channel) = Some 2
phase_sending other = None

abbrev pub phase_listening : Doing → Option ℕ
phase_listening (Scans channel) = Some 0
phase_listening (Initiates channel) = Some 0
phase_listening (PeripheralListens handle) = Some 0
phase_listening (AwaitsRequest channel) = Some 1
phase_listening (CentralListens handle) = Some 1
phase_listening (AwaitsResponse channel) = Some 2
phase_listening other = None

-- on a link it listens on the channel of the event that it entered last
abbrev pub channel_under : Side → List Entry → ℕ → Option ℕ
channel_under side front handle =
    option_and_then (λ number. channel_entered number side front) (link_under handle (links_open side front))

abbrev pub channel_listening : Side → List Entry → Doing → Option ℕ
channel_listening side front (Scans channel) = Some channel
channel_listening side front (Initiates channel) = Some channel
channel_listening side front (AwaitsRequest channel) = Some channel
channel_listening side front (AwaitsResponse channel) = Some channel
channel_listening side front (PeripheralListens handle) = channel_under side front handle
channel_listening side front (CentralListens handle) = channel_under side front handle
channel_listening side front other = None

-- ---- the packet

-- of an advertiser, a scanner or an initiator: with what the host of the side has set
abbrev pub pdu_due : Station → Doing → Option AdvPdu
pdu_due station (Advertises channel) =
    option_map (λ on. advertisement on.params station.advertising.data_octets) station.advertising.on
pdu_due station (Responds channel) =
    option_map (λ on. ScanRsp on.params.own (record { items = station.advertising.response_octets }))
    station.advertising.on
pdu_due station (Requests channel advertiser) =
    option_map (λ on. ScanReq on.params.own advertiser) station.scanning.on
pdu_due station (Connects channel link) = connect_sent link
pdu_due station other = None

pub record IsPduOn (due channel : ℕ) (pdu : Option AdvPdu) (octets : List ℕ) : Type 0 where
  pub on_channel : channel ≡ due
  pub sent : AdvPdu
  pub is_due : pdu ≡ Some sent
  pub is_packet : octets ≡ advertising_packet channel sent

-- of the link under a handle
pub record IsOfLinkUnder (handle : ℕ) (front : List Entry) (side : Side) (channel : ℕ)
    (octets : List ℕ) : Type 0 where
  pub on_data_channel : is_advertising channel ≡ false
  pub number : ℕ
  pub is_open : link_under handle (links_open side front) ≡ Some number
  pub belongs : link_of_packet front side octets ≡ Some number

abbrev pub IsPacketOf : Station → List Entry → Side → ℕ → List ℕ → Doing → Type 0
IsPacketOf station front side channel octets (Advertises due) =
    IsPduOn due channel (pdu_due station (Advertises due)) octets
IsPacketOf station front side channel octets (Responds due) =
    IsPduOn due channel (pdu_due station (Responds due)) octets
IsPacketOf station front side channel octets (Requests due advertiser) =
    IsPduOn due channel (pdu_due station (Requests due advertiser)) octets
IsPacketOf station front side channel octets (Connects due link) =
    IsPduOn due channel (pdu_due station (Connects due link)) octets
IsPacketOf station front side channel octets (CentralSends handle) = IsOfLinkUnder handle front side channel octets
IsPacketOf station front side channel octets (PeripheralSends handle) = IsOfLinkUnder handle front side channel octets
IsPacketOf station front side channel octets other = ⊥

-- ---- the order

-- what A does comes before what B does in one phase
abbrev pub is_first_side : Side → Side → Bool
is_first_side A B = true
is_first_side side other = false

-- the one side sends in an earlier phase than the other, or in the same phase and is A
abbrev pub sends_before : (one other : Side) → Option ℕ → Option ℕ → Bool
sends_before one other None phase = false
sends_before one other (Some earlier) None = true
sends_before one other (Some earlier) (Some phase) =
    nat_lt earlier phase || ((earlier == phase) && is_first_side one other)

-- ---- each packet on the air is due

-- a packet that a side sends after these entries is what the side is to send next, and nothing of the other side is to
-- come before it
pub record IsOwed (words : Words) (setups : Setups) (front : List Entry) (side : Side) (channel : ℕ) (octets : List ℕ)
    : Type 0 where
  pub is_packet : IsPacketOf (station_deciding words setups side front) front side channel octets
      (doing_on words setups side front)
  pub in_order : sends_before (other_side side) side
      (phase_sending (doing_on words setups (other_side side) front))
      (phase_sending (doing_on words setups side front)) ≡ false

abbrev pub AllPacketsAreOwed : Words → Setups → List Entry → Type 0
AllPacketsAreOwed words setups journal = (front rest : List Entry) (side : Side) (channel : ℕ) (octets : List ℕ)
    (fate : Mark) (verdict : Verdict) → journal ≡ front ++ Air side channel octets fate verdict ∷ rest
    → IsOwed words setups front side channel octets

-- ---- and each packet that is due is on the air

-- neither side is to send anything more in the turn that is under way after these entries
abbrev pub NothingIsOwed : Words → Setups → List Entry → Type 0
NothingIsOwed words setups front = (side : Side) → is_some (phase_sending (doing_on words setups side front)) ≡ false

-- so it is before each turn
abbrev pub AllOwedAreSent : Words → Setups → List Entry → Type 0
AllOwedAreSent words setups journal = (front rest : List Entry) (slot : ℕ) (a_on : Bool) (b_on : Option Bool)
    → journal ≡ front ++ Turn slot a_on b_on ∷ rest → NothingIsOwed words setups front

-- ---- and is missed where nobody listens for it

-- a packet of a side that comes after these entries finds the other side listening in its phase, on its channel
pub record IsListenedFor (words : Words) (setups : Setups) (front : List Entry) (side : Side) (channel : ℕ)
    : Type 0 where
  pub in_phase : phase_listening (doing_on words setups (other_side side) front)
      ≡ phase_sending (doing_on words setups side front)
  pub on_channel : channel_listening (other_side side) front (doing_on words setups (other_side side) front)
      ≡ Some channel

abbrev pub AllHeardAreListenedFor : Words → Setups → List Entry → Type 0
AllHeardAreListenedFor words setups journal = (front rest : List Entry) (side : Side) (channel : ℕ) (octets : List ℕ)
    (fate : Mark) (verdict : Verdict) → journal ≡ front ++ Air side channel octets fate verdict ∷ rest
    → verdict ≢ Missed → IsListenedFor words setups front side channel

-- ---- and is heard where somebody does, if it passes

-- the link on which a side listens
abbrev pub link_listening : Side → List Entry → Doing → Option ℕ
link_listening side front (PeripheralListens handle) = link_under handle (links_open side front)
link_listening side front (CentralListens handle) = link_under handle (links_open side front)
link_listening side front other = None

-- the link of a packet: one on an advertising channel is of none
abbrev pub link_carrying : List Entry → Side → ℕ → List ℕ → Option ℕ
link_carrying front side channel octets =
    if is_advertising channel then None else link_of_packet front side octets

-- a packet of a side that comes after these entries finds the other side listening for it, on its link if it is of one
pub record IsAwaited (words : Words) (setups : Setups) (front : List Entry) (side : Side) (channel : ℕ)
    (octets : List ℕ) : Type 0 where
  pub listened : IsListenedFor words setups front side channel
  pub on_link : link_listening (other_side side) front (doing_on words setups (other_side side) front)
      ≡ link_carrying front side channel octets

-- damage may change the access address, so the packet passes
abbrev pub AllAwaitedAreHeard : Words → Setups → List Entry → Type 0
AllAwaitedAreHeard words setups journal = (front rest : List Entry) (side : Side) (channel : ℕ) (octets : List ℕ)
    (verdict : Verdict) → journal ≡ front ++ Air side channel octets Passed verdict ∷ rest
    → IsAwaited words setups front side channel octets → verdict ≢ Missed
