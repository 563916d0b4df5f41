-- What a side does in the phases of a turn, from the lines of a journal alone: after what it does first, by its own
-- packets and by those that it judges good (Core 5.2, volume 6 part B, sections 4.4.2 to 4.5.1; the phases are our
-- choice).
use Rattle.std.specs.Prelude.{ℕ, zero, suc, ◌+◌, ◌&&◌, ◌||◌, not, Bool, true, false, List, [], ◌∷◌, ◌++◌, length, filter, Option, Some, None, is_none, if◌then◌else◌}
use Rattle.std.specs.Option.{option_map}
use Rattle.ble_base.specs.declared.addresses.Address.{Address}
use Rattle.ble_base.specs.declared.roles.Side.{Side}
use Rattle.adv_pdu.specs.declared.pdu.AdvPdu.{AdvPdu}
use Rattle.adv_pdu.specs.declared.pdu.ConnectFields.{ConnectFields}
use Rattle.adv_pdu.specs.Pdu.{sender_of}
use Rattle.adv_pdu.specs.Ranges.{is_in_range}
use Rattle.advertise.specs.declared.answers.AdvAnswer.{AdvAnswer}
use Rattle.advertise.specs.declared.answers.AdvAnswer.TheVariants.{Respond}
use Rattle.advertise.specs.Advertising.{AdvertiserFacts}
use Rattle.advertise.specs.Answers.{advertiser_answer}
use Rattle.host_view.specs.View.{View}
use Rattle.journal.specs.declared.entries.Entry.{Entry}
use Rattle.journal.specs.declared.entries.Entry.TheVariants.{Air, Took, Turn}
use Rattle.scan_init.specs.Access.{nth_access}
use Rattle.scan_init.specs.Initiating.{InitiatorFacts, connect_fields, is_accepted}
use Rattle.scan_init.specs.Reports.{ScannerFacts, does_ask, scan_answer}
use Rattle.journal_wants.specs.journal_hearings.Openings.{is_linked}
use Rattle.journal_wants.specs.controller_model.declared.doing.Doing.{Doing}
use Rattle.journal_wants.specs.controller_model.declared.doing.Doing.TheVariants.{Advertises, AwaitsRequest, AwaitsResponse, CentralListens, CentralSends, Connects, Initiates, PeripheralListens, PeripheralSends, Requests, Responds, Rests, Scans}
use Rattle.journal_wants.specs.controller_model.Facts.{Setup}
use Rattle.journal_wants.specs.controller_model.Heard.{access_found, asks_if, link_if, link_made}
use Rattle.journal_wants.specs.controller_model.Packets.{pdu_heard}
use Rattle.journal_wants.specs.controller_model.link_model.control_model.Control.{Control}
use Rattle.journal_wants.specs.controller_model.link_model.declared.setup.LinkSetup.{LinkSetup}
use Rattle.journal_wants.specs.controller_model.link_model.declared.state.Leaving.{Leaving}
use Rattle.journal_wants.specs.journal_controls.LineSteps.{control_on}
use Rattle.journal_wants.specs.journal_controls.journal_ends.Asked.{Words}
use Rattle.journal_wants.specs.journal_data.Held.{links_open}
use Rattle.journal_wants.specs.journal_data.HostLines.{OpenUnder, link_under}
use Rattle.journal_wants.specs.journal_links.Begun.{LinkBegun, links_begun}
use Rattle.journal_wants.specs.journal_packets.Belonging.{is_side}
use Rattle.journal_wants.specs.journal_sending.journal_fixing.OnLines.{kept_or}
use Rattle.journal_wants.specs.journal_sending.journal_leaving.Leaving.{leaving_on}
use Rattle.journal_wants.specs.run_model.History.{is_good}
use Rattle.journal_wants.specs.Station.{Setups, Station, doing_first, station_deciding}

-- ---- after a packet of its own: who sends may listen after it

abbrev pub after_sending : Doing → Doing
after_sending (Advertises channel) = AwaitsRequest channel
after_sending (Requests channel advertiser) = AwaitsResponse channel
after_sending (CentralSends handle) = CentralListens handle
after_sending other = Rests

-- ---- after a packet that it judges good, on the advertising channels

-- an advertiser answers a SCAN_REQ (section 4.4.2)
abbrev pub responds_by : AdvAnswer → ℕ → Doing
responds_by Respond channel = Responds channel
responds_by other channel = Rests

abbrev pub advertiser_hears : Option AdvertiserFacts → List Address → ℕ → AdvPdu → Doing
advertiser_hears None list channel pdu = Rests
advertiser_hears (Some on) list channel pdu = responds_by (advertiser_answer on.params list pdu) channel

-- an active scanner asks who may be scanned, whatever it has reported (section 4.4.3)
abbrev pub scanner_hears : Option ScannerFacts → List Address → ℕ → AdvPdu → Doing
scanner_hears None list channel pdu = Rests
scanner_hears (Some on) list channel pdu = asks_if (does_ask (scan_answer on.params list [] pdu)) channel pdu

-- the least free handle, of this number of handles from this one on
abbrev pub free_under : (left handle : ℕ) → List OpenUnder → Option ℕ
free_under zero handle links = None
free_under (suc left) handle links =
    if is_none (link_under handle links) then Some handle else free_under left (handle + 1) links

-- the next access address of a side: it took one for each link that it began
abbrev pub begun_by : Side → List LinkBegun → ℕ
begun_by side links = length (filter (λ (link : LinkBegun). is_side link.central side) links)

abbrev pub access_next : Setup → Side → List Entry → Option ℕ
access_next setup side front = access_found (nth_access setup.cursor (begun_by side (links_begun front)))

-- the fields of the CONNECT_IND, with this random word
abbrev pub fields_by : InitiatorFacts → (access word map : ℕ) → ConnectFields
fields_by on access word map = record (connect_fields on.params.link access word map) { sca = 0 }

abbrev pub link_by : Option ℕ → Option ℕ → InitiatorFacts → (word : ℕ) → View → AdvPdu → Option LinkSetup
link_by (Some access) (Some handle) on word view pdu =
    link_if (is_in_range (fields_by on access word view.map))
    (link_made view on.params.own pdu (fields_by on access word view.map) handle)
link_by access handle on word view pdu = None

abbrev pub connects_by : Option LinkSetup → ℕ → Doing
connects_by None channel = Rests
connects_by (Some link) channel = Connects channel link

-- an initiator connects to whom it seeks and has no link with (section 4.4.4)
abbrev pub initiator_hears : Words → Setups → Side → List Entry → Station → Option InitiatorFacts → ℕ → AdvPdu → Doing
initiator_hears words setups side front station None channel pdu = Rests
initiator_hears words setups side front station (Some on) channel pdu =
    if is_accepted on.params station.view.accepted pdu && not (is_linked side on.params.own (sender_of pdu) front)
    then connects_by
    (link_by (access_next (setups side) side front) (free_under (setups side).links 0 (links_open side front)) on
    (words side front).skd_s station.view pdu) channel
    else Rests

abbrev pub hears_pdu : Option AdvPdu → (AdvPdu → Doing) → Doing
hears_pdu None answer = Rests
hears_pdu (Some pdu) answer = answer pdu

-- ---- on links

-- the end ended the link: one of its procedures did, or its own LL_TERMINATE_IND is acknowledged
abbrev pub has_ended : Option Control → Option Leaving → Bool
has_ended (Some control) (Some leaving) = not (is_none control.ends) || leaving.acknowledged
has_ended control leaving = false

abbrev pub ended_under : Words → Side → List Entry → Option ℕ → Bool
ended_under words side front None = false
ended_under words side front (Some number) =
    has_ended (control_on words side number front) (leaving_on words side number front)

-- a peripheral answers, unless it ended the link by these lines
abbrev pub answer_unless : Bool → ℕ → Doing
answer_unless true handle = Rests
answer_unless false handle = PeripheralSends handle

abbrev pub peripheral_answers : Words → Side → List Entry → ℕ → Doing
peripheral_answers words side front handle =
    answer_unless (ended_under words side front (link_under handle (links_open side front))) handle

abbrev pub after_taking : Words → Side → List Entry → Doing → Doing
after_taking words side front (PeripheralSends handle) = peripheral_answers words side front handle
after_taking words side front other = other

-- ---- a packet of the other side, which this one judges good

abbrev pub after_hearing : Words → Setups → Side → List Entry → Entry → Station → List ℕ → Doing → Doing
after_hearing words setups side front line station octets (AwaitsRequest channel) =
    hears_pdu (pdu_heard channel octets) (advertiser_hears station.advertising.on station.view.accepted channel)
after_hearing words setups side front line station octets (Scans channel) =
    hears_pdu (pdu_heard channel octets) (scanner_hears station.scanning.on station.view.accepted channel)
after_hearing words setups side front line station octets (Initiates channel) =
    hears_pdu (pdu_heard channel octets)
    (initiator_hears words setups side (front ++ line ∷ []) station station.initiator channel)
after_hearing words setups side front line station octets (PeripheralListens handle) =
    peripheral_answers words side (front ++ line ∷ []) handle
after_hearing words setups side front line station octets (CentralListens handle) = Rests
after_hearing words setups side front line station octets (AwaitsResponse channel) = Rests
after_hearing words setups side front line station octets other = other

-- ---- line by line

abbrev pub after_packet : (own good : Bool) → (Doing → Doing) → Doing → Doing
after_packet true good hearing doing = after_sending doing
after_packet false true hearing doing = hearing doing
after_packet false false hearing doing = doing

abbrev pub doing_or : Words → Setups → Side → List Entry → Option Doing → Doing
doing_or words setups side front kept = kept_or kept (doing_first words setups side front)

abbrev pub doing_after : Words → Setups → Side → List Entry → Option Doing → Entry → Option Doing
doing_after words setups side front kept (Turn slot a_on b_on) = None
doing_after words setups side front kept (Air sender channel octets fate verdict) = Some (
    after_packet (is_side sender side) (is_good verdict)
    (after_hearing words setups side front (Air sender channel octets fate verdict)
    (station_deciding words setups side front) octets)
    (doing_or words setups side front kept)
    )
doing_after words setups side front kept (Took other link count llid body) =
    if is_side other side
    then option_map (after_taking words side (front ++ Took other link count llid body ∷ [])) kept else kept
doing_after words setups side front kept line = kept

abbrev pub doing_from : Words → Setups → Side → List Entry → Option Doing → List Entry → Option Doing
doing_from words setups side front kept [] = kept
doing_from words setups side front kept (line ∷ lines) =
    doing_from words setups side (front ++ line ∷ []) (doing_after words setups side front kept line) lines

unfoldable pub doing_kept : Words → Setups → Side → List Entry → Option Doing
doing_kept words setups side journal = doing_from words setups side [] None journal

-- what a side is to do next in the turn that is under way after these entries
abbrev pub doing_on : Words → Setups → Side → List Entry → Doing
doing_on words setups side journal = doing_or words setups side journal (doing_kept words setups side journal)
