-- What a controller makes of a phase: of a packet that it heard, or of none (Core 5.2, volume 6 part B, sections 4.4.2
-- to 4.4.4 and 4.5, and volume 4 part E, section 7.7.65.2).
use Rattle.std.specs.Prelude.{ℕ, ◌+◌, ◌%◌, ◌^◌, ◌&&◌, nat_lt, not, Bool, true, false, List, [], ◌∷◌, ◌++◌, fold, length, Option, Some, None, is_some, Err, if◌then◌else◌}
use Rattle.ble_base.specs.declared.addresses.Address.{Address}
use Rattle.ble_base.specs.declared.notes.Note.{Note}
use Rattle.ble_base.specs.declared.roles.Role.TheVariants.{Central, Peripheral}
use Rattle.ble_base.specs.ErrorCodes.{unsupported_remote_feature}
use Rattle.acl_banks.specs.declared.pieces.Piece.{Piece}
use Rattle.adv_pdu.specs.declared.pdu.AdvPdu.{AdvPdu}
use Rattle.adv_pdu.specs.declared.pdu.ConnectFields.{ConnectFields}
use Rattle.adv_pdu.specs.Pdu.{body_of, ch_sel_of, sender_of}
use Rattle.adv_pdu.specs.Ranges.{is_in_range}
use Rattle.advertise.specs.declared.answers.AdvAnswer.{AdvAnswer}
use Rattle.advertise.specs.declared.answers.AdvAnswer.TheVariants.{Ignore, Respond, Connect as Takes}
use Rattle.advertise.specs.Advertising.{AdvertiserFacts}
use Rattle.advertise.specs.Answers.{advertiser_answer}
use Rattle.data_pdu.specs.declared.ctrl.Ctrl.{Ctrl}
use Rattle.data_pdu.specs.declared.ctrl.Ctrl.TheVariants.{EncReq}
use Rattle.hci_evt.specs.declared.event.Event.{Event}
use Rattle.hci_evt.specs.declared.event.Event.TheVariants.{AdvertisingReport, KeyRequest, ParamRequest}
use Rattle.hci_evt.specs.Event.{mask_bit_of}
use Rattle.host_view.specs.View.{View}
use Rattle.host_view.specs.Flow.{most_received}
use Rattle.host_view.specs.Links.{was_encrypted}
use Rattle.host_view.specs.Noted.{view_noted}
use Rattle.link_commands.specs.open_links.link_model.declared.setup.LinkSetup.{LinkSetup}
use Rattle.link_commands.specs.open_links.link_model.Step.{Step as EndStep, KeyAnswered, PacketReceived, RequestAnswered}
use Rattle.link_commands.specs.open_links.link_model.End.{notes_after as end_notes}
use Rattle.link_commands.specs.open_links.link_model.Facts.{params_of}
use Rattle.link_commands.specs.open_links.link_model.Receiving.{effect_of, kept_effect_of, replies_of}
use Rattle.link_commands.specs.open_links.link_model.Drawing.{draws_of}
use Rattle.link_commands.specs.open_links.link_model.Kept.{kept_of}
use Rattle.host_view.specs.scan_init.declared.reports.ReportKind.{ReportKind}
use Rattle.host_view.specs.scan_init.declared.scanner.ScanAnswer.{ScanAnswer}
use Rattle.host_view.specs.scan_init.declared.scanner.ScanAnswer.TheVariants.{Ignore as Ignores, Report, Ask, ReportAndAsk}
use Rattle.host_view.specs.scan_init.Access.{nth_access}
use Rattle.host_view.specs.scan_init.Initiating.{InitiatorFacts, connect_fields, is_accepted}
use Rattle.host_view.specs.scan_init.Reports.{ScannerFacts, does_ask, event_type, kind_of, last_16, reports_after, scan_answer}
use Rattle.link_commands.specs.open_links.OpenLinks.{Links, OpenLink, facts_in, free_from, has_link_between, link_after, link_at, with_change}
use Rattle.link_commands.specs.open_links.link_end.Answers.{acked_of, given_of, kept_given_of}
use Rattle.link_commands.specs.open_links.link_model.procedure_stages.declared.steps.Effect.{Effect}
use Rattle.link_commands.specs.open_links.link_model.procedure_stages.declared.steps.Effect.TheVariants.{AskHost, Cipher, Nothing}
use Rattle.link_commands.specs.open_links.Keys.{links_with_words}
use Rattle.link_commands.specs.procedure_events.Calls.{events_of_kept, events_of_reception}
use Rattle.controller_model.specs.declared.doing.Doing.{Doing}
use Rattle.controller_model.specs.declared.doing.Doing.TheVariants.{Advertises, AwaitsRequest, Responds, Scans, Requests, AwaitsResponse, Initiates, Connects, CentralSends, CentralListens, PeripheralListens, PeripheralSends, Rests}
use Rattle.controller_model.specs.Answers.{next_word}
use Rattle.controller_model.specs.Events.{notes_of_events, passes}
use Rattle.controller_model.specs.Facts.{Setup, Facts}
use Rattle.controller_model.specs.Links.{address_kind, facts_opened, notes_opened}
use Rattle.controller_model.specs.Outcome.{Outcome, goes_on}
use Rattle.controller_model.specs.Packets.{pdu_heard}

-- a link is opened
abbrev pub opens : LinkSetup → Facts → Outcome
opens link facts =
    record { facts = facts_opened link facts; notes = notes_opened facts.view link; next = Rests }

-- ---- a phase in which nothing is heard

-- what follows what was done: who sends may listen after it, and an initiator that sends a CONNECT_IND opens its link
abbrev pub unheard : Doing → Facts → Outcome
unheard (Advertises channel) facts = goes_on facts (AwaitsRequest channel)
unheard (Requests channel advertiser) facts = goes_on facts (AwaitsResponse channel)
unheard (Connects channel link) facts = opens link facts
unheard (CentralSends handle) facts = goes_on facts (CentralListens handle)
unheard other facts = goes_on facts Rests

-- ---- an advertiser that hears a request (section 4.4.2)

-- a link that it takes, under a free handle. An end receives no more octets than its host takes in a packet
abbrev pub link_taken : View → Address → AdvPdu → ConnectFields → ℕ → LinkSetup
link_taken view own pdu fields handle = record {
  role = Peripheral;
  handle = handle;
  own = own;
  peer = sender_of pdu;
  fields = fields;
  two = ch_sel_of pdu;
  max_rx = most_received view;
}

-- a second link between two devices is not opened (section 4.5)
abbrev pub is_new_between : Address → Address → Links → Bool
is_new_between own peer links = not (has_link_between own peer links)

abbrev pub taken_under : Option ℕ → Address → AdvPdu → ConnectFields → Facts → Outcome
taken_under None own pdu fields facts = goes_on facts Rests
taken_under (Some handle) own pdu fields facts = opens (link_taken facts.view own pdu fields handle) facts

abbrev pub taken_if : Bool → Address → AdvPdu → ConnectFields → Facts → Outcome
taken_if false own pdu fields facts = goes_on facts Rests
taken_if true own pdu fields facts = taken_under (free_from 0 facts.links) own pdu fields facts

abbrev pub advertiser_answers : AdvAnswer → ℕ → Address → AdvPdu → Facts → Outcome
advertiser_answers Ignore channel own pdu facts = goes_on facts Rests
advertiser_answers Respond channel own pdu facts = goes_on facts (Responds channel)
advertiser_answers (Takes fields) channel own pdu facts =
    taken_if (is_new_between own (sender_of pdu) facts.links) own pdu fields facts

abbrev pub advertiser_heard : Option AdvertiserFacts → ℕ → AdvPdu → Facts → Outcome
advertiser_heard None channel pdu facts = goes_on facts Rests
advertiser_heard (Some on) channel pdu facts =
    advertiser_answers (advertiser_answer on.params facts.view.accepted pdu) channel on.params.own pdu facts

-- ---- a scanner that hears an advertisement or a response (section 4.4.3)

abbrev pub octets_reported : Option (List ℕ) → List ℕ
octets_reported None = []
octets_reported (Some body) = body

-- the signal strength is not known: 7F
abbrev pub report_event : AdvPdu → ReportKind → Event
report_event pdu kind =
    AdvertisingReport (event_type kind) (address_kind (sender_of pdu)) (sender_of pdu).octets
    (record { items = octets_reported (body_of pdu) }) 0x7F

abbrev pub report_events : AdvPdu → Option ReportKind → List Event
report_events pdu None = []
report_events pdu (Some kind) = report_event pdu kind ∷ []

abbrev pub does_report : ScanAnswer → Bool
does_report Ignores = false
does_report Report = true
does_report Ask = false
does_report ReportAndAsk = true

abbrev pub events_reported : ScanAnswer → AdvPdu → List Event
events_reported answer pdu = if does_report answer then report_events pdu (kind_of pdu) else []

abbrev pub with_scanner : ScannerFacts → Facts → Facts
with_scanner on facts = record facts { scanning = record facts.scanning { on = Some on } }

abbrev pub scanner_after : ScannerFacts → List Address → AdvPdu → ScannerFacts
scanner_after on list pdu = record on { recent = last_16 (reports_after on.params list on.recent pdu) }

-- an active scanner asks once, in the phase after the advertisement
abbrev pub asks_if : Bool → ℕ → AdvPdu → Doing
asks_if true channel pdu = Requests channel (sender_of pdu)
asks_if false channel pdu = Rests

abbrev pub scanner_heard : Option ScannerFacts → (may_ask : Bool) → ℕ → AdvPdu → Facts → Outcome
scanner_heard None may_ask channel pdu facts = goes_on facts Rests
scanner_heard (Some on) may_ask channel pdu facts = record {
  facts = with_scanner (scanner_after on facts.view.accepted pdu) facts;
  notes = notes_of_events facts.view (events_reported (scan_answer on.params facts.view.accepted on.recent pdu) pdu);
  next = asks_if (may_ask && does_ask (scan_answer on.params facts.view.accepted on.recent pdu)) channel pdu;
}

-- ---- an initiator that hears an advertisement (section 4.4.4)

-- the access address of the next new link, if there is one
abbrev pub access_found : Option (ℕ × ℕ) → Option ℕ
access_found None = None
access_found (Some found) = Some found.0

abbrev pub next_access_of : Setup → Facts → Option ℕ
next_access_of setup facts = access_found (nth_access setup.cursor facts.connections)

-- the fields of its CONNECT_IND, with the next random word; the sleep clock accuracy is sent as 0 (our choice)
abbrev pub fields_sent : Setup → InitiatorFacts → ℕ → Facts → ConnectFields
fields_sent setup on access facts =
    record (connect_fields on.params.link access (next_word setup facts.drawn) facts.view.map) { sca = 0 }

abbrev pub link_made : View → Address → AdvPdu → ConnectFields → ℕ → LinkSetup
link_made view own pdu fields handle = record {
  role = Central;
  handle = handle;
  own = own;
  peer = sender_of pdu;
  fields = fields;
  two = ch_sel_of pdu;
  max_rx = most_received view;
}

-- it draws a random word and takes an access address, and whether there is another is known to the view
abbrev pub facts_connecting : Setup → Facts → Facts
facts_connecting setup facts = record facts {
  view = record facts.view { has_address = is_some (nth_access setup.cursor (facts.connections + 1)) };
  drawn = facts.drawn + 1;
  connections = facts.connections + 1;
}

abbrev pub link_if : Bool → LinkSetup → Option LinkSetup
link_if false link = None
link_if true link = Some link

abbrev pub link_under : Option ℕ → Setup → InitiatorFacts → AdvPdu → ℕ → Facts → Option LinkSetup
link_under None setup on pdu access facts = None
link_under (Some handle) setup on pdu access facts =
    link_if (is_in_range (fields_sent setup on access facts))
    (link_made facts.view on.params.own pdu (fields_sent setup on access facts) handle)

abbrev pub link_with : Option ℕ → Setup → InitiatorFacts → AdvPdu → Facts → Option LinkSetup
link_with None setup on pdu facts = None
link_with (Some access) setup on pdu facts = link_under (free_from 0 facts.links) setup on pdu access facts

abbrev pub link_wanted : Bool → Setup → InitiatorFacts → AdvPdu → Facts → Option LinkSetup
link_wanted false setup on pdu facts = None
link_wanted true setup on pdu facts = link_with (next_access_of setup facts) setup on pdu facts

-- it answers where it is to connect to the sender and has no link to it yet
abbrev pub answers_by_connecting : InitiatorFacts → AdvPdu → Facts → Bool
answers_by_connecting on pdu facts =
    is_accepted on.params facts.view.accepted pdu && is_new_between on.params.own (sender_of pdu) facts.links

-- the link that it makes with the sender: with the next access address, under a free handle
abbrev pub link_to : Setup → InitiatorFacts → AdvPdu → Facts → Option LinkSetup
link_to setup on pdu facts = link_wanted (answers_by_connecting on pdu facts) setup on pdu facts

abbrev pub connects : Option LinkSetup → Setup → ℕ → Facts → Outcome
connects None setup channel facts = goes_on facts Rests
connects (Some link) setup channel facts = goes_on (facts_connecting setup facts) (Connects channel link)

abbrev pub initiator_heard : Option InitiatorFacts → Setup → ℕ → AdvPdu → Facts → Outcome
initiator_heard None setup channel pdu facts = goes_on facts Rests
initiator_heard (Some on) setup channel pdu facts = connects (link_to setup on pdu facts) setup channel facts

-- ---- a link that receives (section 4.5)

abbrev pub replies_in : ℕ → Bool → Option OpenLink → List ℕ → Bool
replies_in slot room None octets = false
replies_in slot room (Some link) octets = replies_of link.setup (facts_in link) slot octets room

abbrev pub reply_if : Bool → ℕ → Doing
reply_if true handle = PeripheralSends handle
reply_if false handle = Rests

-- there is room for one more piece of data for the host
abbrev pub has_room : Setup → Facts → Bool
has_room setup facts = nat_lt (length facts.received) setup.air_buffers

-- the piece of data that a link takes, under its handle, and what it notes
abbrev pub piece_taken : ℕ → Bool → Option OpenLink → List ℕ → List (ℕ × Piece)
piece_taken slot room None octets = []
piece_taken slot room (Some link) octets = kept_of link.setup (facts_in link) slot octets room

abbrev pub notes_taken : ℕ → Bool → Option OpenLink → List ℕ → List Note
notes_taken slot room None octets = []
notes_taken slot room (Some link) octets = end_notes link.setup (facts_in link) (PacketReceived slot octets room)

-- what its procedures do with the packet (volume 6 part B, section 5.1)
abbrev pub effect_in : ℕ → Bool → Option OpenLink → List ℕ → Effect
effect_in slot room None octets = Nothing
effect_in slot room (Some link) octets = effect_of link.setup (facts_in link) slot octets room

-- and the events for its host, after that
-- for what the packet did, and then for what a PDU did that was kept until then, on a link that was encrypted before, or
-- was not
abbrev pub events_received : Bool → ℕ → ℕ → Bool → Option OpenLink → List ℕ → List Event
events_received was_encrypted handle slot room None octets = []
events_received was_encrypted handle slot room (Some link) octets =
    let peer = (facts_in (link_after (PacketReceived slot octets room) link)).peer in
    events_of_reception handle was_encrypted (params_of (facts_in link)) peer
    (acked_of link.setup (facts_in link) octets) (effect_of link.setup (facts_in link) slot octets room)
    (given_of link.setup (facts_in link) slot octets room).refused
    (given_of link.setup (facts_in link) slot octets room).done
    ++ events_of_kept handle was_encrypted peer (kept_effect_of link.setup (facts_in link) slot octets room)
    (kept_given_of link.setup (facts_in link) slot octets room).done

-- and with a PDU that was kept until then
abbrev pub kept_effect_in : ℕ → Bool → Option OpenLink → List ℕ → Effect
kept_effect_in slot room None octets = Nothing
kept_effect_in slot room (Some link) octets = kept_effect_of link.setup (facts_in link) slot octets room

-- ---- what a peripheral draws (volume 6 part B, section 5.1.3.1)

-- before it hears a packet it is given the next two random words, the second of them by its low half: with them it would
-- answer LL_ENC_REQ (our choice)
abbrev pub facts_with_words : Setup → ℕ → Facts → Facts
facts_with_words setup handle facts = record facts {
  links =
      links_with_words handle (next_word setup facts.drawn % 2 ^ 64) (next_word setup (facts.drawn + 1) % 2 ^ 32)
      facts.links;
}

-- it answers one with them, and they are drawn
abbrev pub draws_in : ℕ → Bool → Option OpenLink → List ℕ → Bool
draws_in slot room None octets = false
draws_in slot room (Some link) octets = draws_of link.setup (facts_in link) slot octets room

abbrev pub drawn_if : Bool → ℕ → ℕ
drawn_if draws drawn = if draws then drawn + 2 else drawn

-- ---- what comes of a packet

-- a request of the peer that the mask withholds from the host is answered at once: one for parameters is refused, and one
-- for a key is answered as by a host that has none (sections 5.1.3.1 and 5.1.7)
abbrev pub answer_unless : Bool → EndStep → Option EndStep
answer_unless passes step = if passes then None else Some step

abbrev pub key_refusal : View → ℕ → ℕ → Ctrl → Option EndStep
key_refusal view handle slot (EncReq rand ediv skd_m iv_m) =
    answer_unless (passes view (mask_bit_of (KeyRequest handle rand ediv))) (KeyAnswered None slot)
key_refusal view handle slot other = None

abbrev pub refusal_of : View → ℕ → ℕ → Effect → Option EndStep
refusal_of view handle slot (AskHost min max latency timeout) =
    answer_unless (passes view (mask_bit_of (ParamRequest handle min max latency timeout)))
    (RequestAnswered (Err (record { 0 = unsupported_remote_feature })))
refusal_of view handle slot (Cipher ctrl) = key_refusal view handle slot ctrl
refusal_of view handle slot other = None

-- that of the packet, or else that of the PDU that was kept
abbrev pub or_refusal : Option EndStep → Option EndStep → Option EndStep
or_refusal None other = other
or_refusal (Some step) other = Some step

abbrev pub refusal_in : View → ℕ → ℕ → Bool → Option OpenLink → List ℕ → Option EndStep
refusal_in view handle slot room place octets =
    or_refusal (refusal_of view handle slot (effect_in slot room place octets))
    (refusal_of view handle slot (kept_effect_in slot room place octets))

abbrev pub links_refusing : Option EndStep → ℕ → Links → Links
links_refusing None handle links = links
links_refusing (Some step) handle links = with_change handle (link_after step) links

-- all that is noted of a packet on the link under a handle
abbrev pub notes_received : ℕ → Bool → List ℕ → Facts → List Note
notes_received handle room octets facts =
    notes_taken facts.turn.slot room (link_at handle facts.links) octets
    ++ notes_of_events facts.view
    (events_received (was_encrypted handle facts.view.links) handle facts.turn.slot room (link_at handle facts.links) octets)

-- the view follows what is noted
abbrev pub link_received : ℕ → Bool → List ℕ → Facts → Facts
link_received handle room octets facts = record facts {
  view = fold view_noted facts.view (notes_received handle room octets facts);
  links =
      links_refusing
      (refusal_in facts.view handle facts.turn.slot room (link_at handle facts.links) octets) handle
      (with_change handle (link_after (PacketReceived facts.turn.slot octets room)) facts.links);
  received = facts.received ++ piece_taken facts.turn.slot room (link_at handle facts.links) octets;
  drawn = drawn_if (draws_in facts.turn.slot room (link_at handle facts.links) octets) facts.drawn;
}

abbrev pub link_hearing : ℕ → Bool → List ℕ → Facts → Outcome
link_hearing handle room octets facts = record {
  facts = link_received handle room octets facts;
  notes = notes_received handle room octets facts;
  next = reply_if (replies_in facts.turn.slot room (link_at handle facts.links) octets) handle;
}

abbrev pub link_heard : Setup → ℕ → List ℕ → Facts → Outcome
link_heard setup handle octets facts = link_hearing handle (has_room setup facts) octets facts

-- ---- a phase in which a packet is heard

-- what is heard on an advertising channel is a PDU of it, or nothing
abbrev pub if_pdu : Option AdvPdu → Facts → (AdvPdu → Outcome) → Outcome
if_pdu None facts outcome = goes_on facts Rests
if_pdu (Some pdu) facts outcome = outcome pdu

abbrev pub heard : Setup → Doing → List ℕ → Facts → Outcome
heard setup (AwaitsRequest channel) octets facts =
    if_pdu (pdu_heard channel octets) facts (λ pdu. advertiser_heard facts.advertising.on channel pdu facts)
heard setup (Scans channel) octets facts =
    if_pdu (pdu_heard channel octets) facts (λ pdu. scanner_heard facts.scanning.on true channel pdu facts)
heard setup (AwaitsResponse channel) octets facts =
    if_pdu (pdu_heard channel octets) facts (λ pdu. scanner_heard facts.scanning.on false channel pdu facts)
heard setup (Initiates channel) octets facts =
    if_pdu (pdu_heard channel octets) facts (λ pdu. initiator_heard facts.initiator setup channel pdu facts)
heard setup (CentralListens handle) octets facts = link_heard setup handle octets facts
heard setup (PeripheralListens handle) octets facts =
    link_heard setup handle octets (facts_with_words setup handle facts)
-- where it does not listen nothing is heard
heard setup doing octets facts = unheard doing facts
