-- What a controller sends is the packet of a PDU on an advertising channel, or that of a link on a data channel.
use Rattle.std.proofs.Common.{◌≡◌, ℕ, ◌+◌, ◌≤◌, ◌==◌, Bool, true, false, Option, Some, None, inl, inr, List, [], ◌∷◌, ◌++◌, cond, length, refl, sym, ap, subst, ◌∙◌, append-nil, append_assoc, arith}
use Rattle.std.specs.List.{AllByRecursion}
use Rattle.std.specs.Prelude.{◌&&◌, ⊤, ◌⊎◌, IfSome}
use Rattle.std.specs.Option.{option_map}
use Rattle.std.proofs.lemmas.List.{length-take}
use Rattle.ble_base.specs.declared.addresses.Address.{Address}
use Rattle.ble_base.specs.declared.roles.Role.{Role}
use Rattle.ble_base.specs.declared.roles.Role.TheVariants.{Central, Peripheral}
use Rattle.adv_pdu.specs.declared.pdu.AdvPdu.{AdvPdu}
use Rattle.adv_pdu.specs.declared.pdu.AdvPdu.TheVariants.{Ind, Direct, Nonconn, ScanReq, ScanRsp, Connect, ScanInd}
use Rattle.adv_pdu.specs.Pdu.{IsPdu, sender_of}
use Rattle.hci_cmd.specs.declared.command.Command.{Command}
use Rattle.hci_cmd.specs.declared.command.Command.TheVariants.{HostCompleted, Reset, LeSetRandomAddress, LeSetAdvParams, LeSetAdvData, LeSetScanResponse, LeSetAdvEnable, LeSetScanEnable, LeCreateConnection, LeCreateCancel}
use Rattle.host_view.specs.View.{View}
use Rattle.host_view.specs.Changes.{view_after}
use Rattle.host_view.specs.Status.{status_of}
use Rattle.advertise.specs.declared.params.AdvParams.{AdvParams}
use Rattle.advertise.specs.Advertising.{AdvertiserFacts, advertisement}
use Rattle.host_view.specs.scan_init.declared.scanner.ScanParams.{ScanParams}
use Rattle.host_view.specs.scan_init.Initiating.{InitiatorFacts}
use Rattle.host_view.specs.scan_init.Reports.{ScannerFacts, does_ask, scan_answer}
use Rattle.link_commands.specs.open_links.link_model.declared.setup.LinkSetup.{LinkSetup}
use Rattle.link_commands.specs.open_links.link_model.Step.{Step as EndStep, DataGiven, Disconnected, KeyAnswered, PacketSent, ProcedureAsked, RequestAnswered}
use Rattle.slot_plan.specs.declared.Activity.{Activity}
use Rattle.slot_plan.specs.declared.Activity.TheVariants.{Link, Advertise, Scan, Initiate}
use Rattle.link_commands.specs.open_links.Data.{links_given}
use Rattle.link_commands.specs.open_links.OpenLinks.{Links, OpenLink, link_after, link_at, link_from, with_change, without_links}
use Rattle.link_commands.proofs.open_links.Handles.{changed_is}
use Rattle.controller_model.specs.declared.doing.Doing.{Doing}
use Rattle.controller_model.specs.declared.doing.Turn.{Turn}
use Rattle.controller_model.specs.declared.doing.Doing.TheVariants.{Advertises, AwaitsRequest, Responds, Scans, Requests, AwaitsResponse, Initiates, Connects, CentralSends, CentralListens, PeripheralListens, PeripheralSends, Rests}
use Rattle.link_commands.specs.declared.moments.Moment.{Moment}
use Rattle.link_commands.specs.LinksCommanded.{links_commanded}
use Rattle.controller_model.specs.Step.{Step}
use Rattle.controller_model.specs.Facts.{Setup, Facts, Advertising, Scanning, Use, Sends, Listens, Idle}
use Rattle.controller_model.specs.Commands.{advertiser_enabled, advertiser_turned_on, advertising_after, facts_accepted, initiator_after, links_after, moment_of, own_address, random_or_public, scanner_enabled, scanner_turned_on, scanning_after}
use Rattle.controller_model.specs.Data.{facts_handed}
use Rattle.controller_model.specs.Heard.{asks_if, facts_connecting, fields_sent, has_room, link_made, link_taken, opens, replies_in, reply_if, scanner_after, with_scanner, facts_with_words}
use Rattle.controller_model.specs.Outcome.{facts_passed}
use Rattle.controller_model.specs.Packets.{advertisement_sent, connect_sent, facts_doing, listens_on, request_sent, response_sent, sends_on, sends_pdu, use_for}
use Rattle.controller_model.specs.Radio.{served_if_on, turn_begins}
use Rattle.controller_model.specs.Side.{facts_of, with_octet}
use Rattle.controller_model.specs.Sent.{HasOnlyHeardHost, IsAdvertisingPacket, IsHostStep, IsLinkPacket, SendsOn}
use Rattle.controller_model.proofs.Asked.{IsAskedStep, at_kept, facts_asked}
use Rattle.controller_model.proofs.Following.{facts_at_events, facts_receiving, receiving_passes}
use Rattle.controller_model.proofs.Always.{IsAdvertisingChannel, IsKept, MayBegin, advertiser_stopped, advertiser_won, always, facts_ended, facts_fixing, facts_given, facts_opening, initiator_stopped, opening_passes}
use Rattle.controller_model.proofs.DataChannels.{link_channel}
use Rattle.controller_model.proofs.LinkFields.{connection_fits}
use Rattle.controller_model.proofs.Phases.{EachOutcome}
use Rattle.controller_model.proofs.Places.{at_changed}
use Rattle.controller_model.proofs.Accepted.{data_short, response_short, same_after_counts}
use Rattle.controller_model.proofs.SixOctets.{SixOf, six_heard, six_known}

-- ---- what it needs to send

abbrev pub SixHeld : Option (List ℕ) → Type 0
SixHeld None = ⊤
SixHeld (Some address) = length address ≡ 6

abbrev pub AdvertiserFits : Option AdvertiserFacts → Type 0
AdvertiserFits None = ⊤
AdvertiserFits (Some on) = (length on.params.own.octets ≡ 6) × (length on.params.target.octets ≡ 6)

abbrev pub ScannerFits : Option ScannerFacts → Type 0
ScannerFits None = ⊤
ScannerFits (Some on) = length on.params.own.octets ≡ 6

abbrev pub InitiatorFits : Option InitiatorFacts → Type 0
InitiatorFits None = ⊤
InitiatorFits (Some on) = (length on.params.own.octets ≡ 6) × (on.params.link.sca ≡ 0)

pub record AdvertisingFits (advertising : Advertising) : Type 0 where
  pub body : length advertising.data_octets ≤ 31
  pub response : length advertising.response_octets ≤ 31
  pub target : length advertising.params.target.octets ≡ 6
  pub on_fits : AdvertiserFits advertising.on

-- addresses have six octets, and data 31 at most
pub record CanSend (facts : Facts) : Type 0 where
  pub random : SixHeld facts.view.random
  pub advertising : AdvertisingFits facts.advertising
  pub scanner : ScannerFits facts.scanning.on
  pub initiator : InitiatorFits facts.initiator

can_still : (before after : Facts) → before.view.random ≡ after.view.random → before.advertising ≡ after.advertising
    → before.scanning ≡ after.scanning → before.initiator ≡ after.initiator → CanSend before → CanSend after
can_still before after random advertising scanning initiator can = record {
  random = subst SixHeld random can.random;
  advertising = subst AdvertisingFits advertising can.advertising;
  scanner = subst (λ (of : Scanning). ScannerFits of.on) scanning can.scanner;
  initiator = subst InitiatorFits initiator can.initiator;
}

-- what it is to do can be done
abbrev pub DoingFits : Doing → Type 0
DoingFits (Advertises channel) = IsAdvertisingChannel channel
DoingFits (AwaitsRequest channel) = IsAdvertisingChannel channel
DoingFits (Responds channel) = IsAdvertisingChannel channel
DoingFits (Scans channel) = IsAdvertisingChannel channel
DoingFits (Requests channel advertiser) = IsAdvertisingChannel channel × (length advertiser.octets ≡ 6)
DoingFits (AwaitsResponse channel) = IsAdvertisingChannel channel
DoingFits (Initiates channel) = IsAdvertisingChannel channel
DoingFits (Connects channel link) = IsAdvertisingChannel channel × IsPdu (Connect link.own link.peer true link.fields)
DoingFits other = ⊤

begin_fits : (doing : Doing) → MayBegin doing → DoingFits doing
begin_fits (Advertises channel) may = may
begin_fits (Scans channel) may = may
begin_fits (Initiates channel) may = may
begin_fits (CentralSends handle) may = tt
begin_fits (PeripheralListens handle) may = tt
begin_fits Rests may = tt
begin_fits other may = absurd may

-- and what it wants to send is a packet
abbrev pub IsWanted : Facts → Use → Type 0
IsWanted facts (Sends channel octets) = IsAdvertisingPacket channel octets ⊎ IsLinkPacket facts channel octets
IsWanted facts (Listens channel) = ⊤
IsWanted facts Idle = ⊤

pub record SendsWell (facts : Facts) : Type 0 where
  pub can : CanSend facts
  pub does : DoingFits facts.turn.doing
  pub wanted : IsWanted facts facts.wanted

-- ---- PDUs

body_fits : (own : Address) (body : List ℕ) → length own.octets ≡ 6 → length body ≤ 31
    → IsPdu (Ind own true (record { items = body })) × IsPdu (ScanInd own (record { items = body }))
    × IsPdu (Nonconn own (record { items = body })) × IsPdu (ScanRsp own (record { items = body }))
body_fits own body six short = (
  record { fits = (six, (refl, tt)); room = short; bits = tt },
  record { fits = (six, (refl, tt)); room = short; bits = tt },
  record { fits = (six, (refl, tt)); room = short; bits = tt },
  record { fits = (six, (refl, tt)); room = short; bits = tt },
)

advertisement_by : (undirected scannable directed : Bool) (own target : Address) (body : List ℕ) → length own.octets ≡ 6
    → length target.octets ≡ 6 → length body ≤ 31
    → IsPdu (cond undirected (Ind own true (record { items = body }))
    (cond scannable (ScanInd own (record { items = body }))
    (cond directed (Direct own target true) (Nonconn own (record { items = body })))))
advertisement_by true scannable directed own target body six six_too short = (body_fits own body six short).0
advertisement_by false true directed own target body six six_too short = (body_fits own body six short).1
advertisement_by false false true own target body six six_too short = record { fits = (six, (six_too, tt)); room = tt; bits = tt }
advertisement_by false false false own target body six six_too short = (body_fits own body six short).2

advertisement_fits : (params : AdvParams) (body : List ℕ) → length params.own.octets ≡ 6 → length params.target.octets ≡ 6
    → length body ≤ 31 → IsPdu (advertisement params body)
advertisement_fits params body six six_too short =
    advertisement_by (params.kind == 0) (params.kind == 2) (params.kind == 4) params.own params.target body six six_too short

abbrev pub SomePdu : Option AdvPdu → Type 0
SomePdu None = ⊤
SomePdu (Some pdu) = IsPdu pdu

pub advertisement_is : (advertising : Advertising) (on : Option AdvertiserFacts) → AdvertisingFits advertising → AdvertiserFits on
    → SomePdu (option_map (λ on. advertisement on.params advertising.data_octets) on)
advertisement_is advertising None fits on_fits = tt
advertisement_is advertising (Some on) fits on_fits = advertisement_fits on.params advertising.data_octets on_fits.0 on_fits.1 fits.body

pub response_is : (advertising : Advertising) (on : Option AdvertiserFacts) → AdvertisingFits advertising → AdvertiserFits on
    → SomePdu (option_map (λ on. ScanRsp on.params.own (record { items = advertising.response_octets })) on)
response_is advertising None fits on_fits = tt
response_is advertising (Some on) fits on_fits = (body_fits on.params.own advertising.response_octets on_fits.0 fits.response).3

pub request_is : (advertiser : Address) (on : Option ScannerFacts) → length advertiser.octets ≡ 6 → ScannerFits on
    → SomePdu (option_map (λ on. ScanReq on.params.own advertiser) on)
request_is advertiser None six fits = tt
request_is advertiser (Some on) six fits = record { fits = (fits, (six, tt)); room = tt; bits = tt }

-- ---- what is wanted

pdu_wanted : (facts : Facts) (channel : ℕ) (pdu : Option AdvPdu) → IsAdvertisingChannel channel → SomePdu pdu
    → IsWanted facts (sends_pdu channel pdu)
pdu_wanted facts channel None is fits = tt
pdu_wanted facts channel (Some pdu) is fits =
    inl (record { pdu = pdu; is_pdu = fits; packet = refl; channel_from = is.0; channel_to = is.1 })

none_heard : (link : OpenLink) → HasOnlyHeardHost link link
none_heard link = record {
  steps = [];
  are_of_host = tt;
  link_is = ap (λ (past : List EndStep). record link { past = past }) (sym (append-nil link.past));
}

sending_last : (slot handle : ℕ) (links : Links) (link : OpenLink) → link_at handle links ≡ Some link
    → IfSome (link_at handle (with_change handle (link_after (PacketSent slot)) links)) (HasOnlyHeardHost (link_after (PacketSent slot) link))
sending_last slot handle links link at =
    let change = link_after (PacketSent slot) in
    subst (λ (found : Option OpenLink). IfSome found (HasOnlyHeardHost (change link)))
    (sym (changed_is (option_map change) 0 handle links refl ∙ ap (option_map change) at)) (none_heard (change link))

central_wanted : (facts : Facts) (handle : ℕ) (found : Option OpenLink) → link_at handle facts.links ≡ found
    → IsWanted (facts_doing (CentralSends handle) facts) (sends_on found)
central_wanted facts handle None at = tt
central_wanted facts handle (Some link) at = inr (record {
  handle = handle;
  sends = refl;
  link = link;
  packet = refl;
  channel_is = refl;
  data_channel = link_channel link;
  last = sending_last facts.turn.slot handle facts.links link at;
})

peripheral_wanted : (facts : Facts) (handle : ℕ) (found : Option OpenLink) → link_at handle facts.links ≡ found
    → IsWanted (facts_doing (PeripheralSends handle) facts) (sends_on found)
peripheral_wanted facts handle None at = tt
peripheral_wanted facts handle (Some link) at = inr (record {
  handle = handle;
  sends = refl;
  link = link;
  packet = refl;
  channel_is = refl;
  data_channel = link_channel link;
  last = sending_last facts.turn.slot handle facts.links link at;
})

listens_wanted : (facts : Facts) (found : Option OpenLink) → IsWanted facts (listens_on found)
listens_wanted facts None = tt
listens_wanted facts (Some link) = tt

wanted_is : (doing : Doing) (facts : Facts) → CanSend facts → DoingFits doing → IsWanted (facts_doing doing facts) (use_for facts doing)
wanted_is (Advertises channel) facts can fits =
    pdu_wanted _ channel (advertisement_sent facts) fits (advertisement_is facts.advertising facts.advertising.on can.advertising can.advertising.on_fits)
wanted_is (AwaitsRequest channel) facts can fits = tt
wanted_is (Responds channel) facts can fits =
    pdu_wanted _ channel (response_sent facts) fits (response_is facts.advertising facts.advertising.on can.advertising can.advertising.on_fits)
wanted_is (Scans channel) facts can fits = tt
wanted_is (Requests channel advertiser) facts can fits =
    pdu_wanted _ channel (request_sent advertiser facts) fits.0 (request_is advertiser facts.scanning.on fits.1 can.scanner)
wanted_is (AwaitsResponse channel) facts can fits = tt
wanted_is (Initiates channel) facts can fits = tt
wanted_is (Connects channel link) facts can fits = pdu_wanted _ channel (connect_sent link) fits.0 fits.1
wanted_is (CentralSends handle) facts can fits = central_wanted facts handle (link_at handle facts.links) refl
wanted_is (CentralListens handle) facts can fits = listens_wanted _ (link_at handle facts.links)
wanted_is (PeripheralListens handle) facts can fits = listens_wanted _ (link_at handle facts.links)
wanted_is (PeripheralSends handle) facts can fits = peripheral_wanted facts handle (link_at handle facts.links) refl
wanted_is Rests facts can fits = tt

-- what is done next
sends_doing : (doing : Doing) (facts : Facts) → CanSend facts → DoingFits doing → SendsWell (facts_doing doing facts)
sends_doing doing facts can fits = record {
  can = can_still facts (facts_doing doing facts) refl refl refl refl can;
  does = fits;
  wanted = wanted_is doing facts can fits;
}

-- ---- an accepted command

six_view : (view : View) (command : Command) → SixOf command → SixHeld view.random → SixHeld (view_after view command).random
unfolding view_after
six_view view Reset is held = tt
six_view view (LeSetRandomAddress address) is held = is
six_view view (HostCompleted counts) is held = subst SixHeld (sym (same_after_counts (λ (of : View). of.random) view counts refl)) held
six_view view other is held = held

six_own : (setup : Setup) (chosen : Option (List ℕ)) → length setup.public ≡ 6 → SixHeld chosen → length (random_or_public setup.public chosen).octets ≡ 6
six_own setup None six held = six
six_own setup (Some address) six held = held

six_chosen : (is_random : Bool) (random : Option (List ℕ)) → SixHeld random → SixHeld (cond is_random random None)
six_chosen true random held = held
six_chosen false random held = tt

own_six : (setup : Setup) (view : View) (own : ℕ) → length setup.public ≡ 6 → SixHeld view.random → length (own_address setup view own).octets ≡ 6
own_six setup view own six held = six_own setup _ six (six_chosen (own == 1) view.random held)

enabled_if : (on : Bool) (advertiser : AdvertiserFacts) → AdvertiserFits (Some advertiser) → AdvertiserFits (cond on (Some advertiser) None)
enabled_if true advertiser fits = fits
enabled_if false advertiser fits = tt

enabled_fits : (own : Address) (slot : ℕ) (params : AdvParams) (value : ℕ) (on : Option AdvertiserFacts) → length own.octets ≡ 6
    → length params.target.octets ≡ 6 → AdvertiserFits on → AdvertiserFits (advertiser_enabled own slot params value on)
enabled_fits own slot params value None six six_too fits = enabled_if (value == 1) (advertiser_turned_on own slot params) (six, six_too)
enabled_fits own slot params value (Some on) six six_too fits = enabled_if (value == 1) on fits

advertising_fits : (setup : Setup) (view : View) (slot : ℕ) (command : Command) (advertising : Advertising) → length setup.public ≡ 6
    → SixHeld view.random → SixOf command → status_of view command ≡ 0 → AdvertisingFits advertising
    → AdvertisingFits (advertising_after setup view slot command advertising)
advertising_fits setup view slot Reset advertising six held is accepted fits =
    record { body = omega arith; response = omega arith; target = refl; on_fits = tt }
advertising_fits setup view slot (LeSetAdvParams min max kind own peer_kind peer channels policy) advertising six held is accepted fits =
    record { body = fits.body; response = fits.response; target = is; on_fits = fits.on_fits }
advertising_fits setup view slot (LeSetAdvData count text) advertising six held is accepted fits =
    let few = data_short view count text accepted in
    record { body = omega (arith, few, length-take count text); response = fits.response; target = fits.target; on_fits = fits.on_fits }
advertising_fits setup view slot (LeSetScanResponse count text) advertising six held is accepted fits =
    let few = response_short view count text accepted in
    record { body = fits.body; response = omega (arith, few, length-take count text); target = fits.target; on_fits = fits.on_fits }
advertising_fits setup view slot (LeSetAdvEnable value) advertising six held is accepted fits = record {
  body = fits.body;
  response = fits.response;
  target = fits.target;
  on_fits = enabled_fits (own_address setup view view.advertising.own) slot advertising.params value advertising.on
      (own_six setup view view.advertising.own six held) fits.target fits.on_fits;
}
advertising_fits setup view slot other advertising six held is accepted fits = fits

scans_if : (on : Bool) (scanner : ScannerFacts) → ScannerFits (Some scanner) → ScannerFits (cond on (Some scanner) None)
scans_if true scanner fits = fits
scans_if false scanner fits = tt

scanner_fits : (new : ScannerFacts) (value : ℕ) (on : Option ScannerFacts) → ScannerFits (Some new) → ScannerFits on
    → ScannerFits (scanner_enabled new value on)
scanner_fits new value None fits on_fits = scans_if (value == 1) new fits
scanner_fits new value (Some on) fits on_fits = scans_if (value == 1) on on_fits

scanning_fits : (setup : Setup) (view : View) (slot : ℕ) (command : Command) (scanning : Scanning) → length setup.public ≡ 6
    → SixHeld view.random → ScannerFits scanning.on → ScannerFits (scanning_after setup view slot command scanning).on
scanning_fits setup view slot Reset scanning six held fits = tt
scanning_fits setup view slot (LeSetScanEnable value duplicates) scanning six held fits =
    scanner_fits
    (scanner_turned_on (own_address setup view view.scanning.own) (view.scanning.policy == 1) (duplicates == 1) slot scanning)
    value scanning.on (own_six setup view view.scanning.own six held) fits
scanning_fits setup view slot other scanning six held fits = fits

initiator_fits : (setup : Setup) (view : View) (slot : ℕ) (command : Command) (initiator : Option InitiatorFacts) → length setup.public ≡ 6
    → SixHeld view.random → InitiatorFits initiator → InitiatorFits (initiator_after setup view slot command initiator)
initiator_fits setup view slot Reset initiator six held fits = tt
initiator_fits setup view slot
    (LeCreateConnection interval window policy peer_kind peer own min max latency timeout lengths) initiator six held fits =
    (own_six setup view own six held, refl)
initiator_fits setup view slot LeCreateCancel initiator six held fits = tt
initiator_fits setup view slot other initiator six held fits = fits

-- a packet of a link that was wanted is wanted still
pub shut_from : (first handle : ℕ) (links : Links) → link_from first handle (without_links links) ≡ None
shut_from first handle [] = refl
shut_from first handle (place ∷ links) = at (first == handle) (shut_from (first + 1) handle links)
  where
    at : (test : Bool) → link_from (first + 1) handle (without_links links) ≡ None
        → cond test None (link_from (first + 1) handle (without_links links)) ≡ None
    at true rest = refl
    at false rest = rest

shut_last : (links : Links) (handle : ℕ) → link_at handle (without_links links) ≡ None
shut_last links handle = shut_from 0 handle links

last_after : (command : Command) (links : Links) (handle : ℕ) (P : OpenLink → Type 0) → IfSome (link_at handle links) P
    → IfSome (link_at handle (links_after command links)) P
last_after Reset links handle P last = subst (λ (found : Option OpenLink). IfSome found P) (sym (shut_last links handle)) tt
last_after other links handle P last = last

-- what is left of the link on which it sends, of two controllers in one turn
abbrev StillLast : Links → Links → Type 0
StillLast before after = (handle : ℕ) (link : OpenLink) → IfSome (link_at handle before) (HasOnlyHeardHost link)
    → IfSome (link_at handle after) (HasOnlyHeardHost link)

wanted_still : (before after : Facts) (wanted : Use) → before.turn ≡ after.turn → StillLast before.links after.links
    → IsWanted before wanted → IsWanted after wanted
wanted_still before after (Sends channel octets) turn still is = elim is [
  | inl packet ↦ inl packet
  | inr packet ↦ inr (record {
    handle = packet.handle;
    sends = subst (λ (of : Turn). SendsOn packet.handle of.doing) turn packet.sends;
    link = packet.link;
    packet = packet.packet;
    channel_is = packet.channel_is;
    data_channel = packet.data_channel;
    last = still packet.handle (link_after (PacketSent after.turn.slot) packet.link)
        (subst (λ (of : Turn). IfSome (link_at packet.handle before.links) (HasOnlyHeardHost (link_after (PacketSent of.slot) packet.link)))
        turn packet.last);
  })
]
wanted_still before after (Listens channel) turn still is = tt
wanted_still before after Idle turn still is = tt

-- the host gives more, or asks for more
one_more : (steps : List EndStep) (step : EndStep) → IsHostStep step → AllByRecursion IsHostStep steps
    → AllByRecursion IsHostStep (steps ++ step ∷ [])
one_more [] step of are = (of, tt)
one_more (first ∷ steps) step of are = (are.0, one_more steps step of are.1)

heard_more : (link after : OpenLink) (step : EndStep) → IsHostStep step → HasOnlyHeardHost link after
    → HasOnlyHeardHost link (link_after step after)
heard_more link after step of is = record {
  steps = is.steps ++ step ∷ [];
  are_of_host = one_more is.steps step of is.are_of_host;
  link_is =
      ap (link_after step) is.link_is
      ∙ ap (λ (past : List EndStep). record link { past = past }) (append_assoc link.past is.steps (step ∷ []));
}

given_place : (link : OpenLink) (start : Bool) (octets : List ℕ) (found : Option OpenLink) → IfSome found (HasOnlyHeardHost link)
    → IfSome (option_map (link_after (DataGiven start octets)) found) (HasOnlyHeardHost link)
given_place link start octets None is = tt
given_place link start octets (Some after) is = heard_more link after (DataGiven start octets) tt is

asks_of_host : (step : EndStep) → IsAskedStep step → IsHostStep step
asks_of_host (ProcedureAsked ask) asks = tt
asks_of_host (RequestAnswered answer) asks = tt
asks_of_host (KeyAnswered key slot) asks = tt
asks_of_host (Disconnected reason slot) asks = tt
asks_of_host step asks = absurd asks

asked_last : (command : Command) (moment : Moment) (links : Links) → StillLast links (links_commanded command moment links)
asked_last command moment links other link is =
    at_kept (λ (found : Option OpenLink). IfSome found (HasOnlyHeardHost link))
    (λ after step asks is. heard_more link after step (asks_of_host step asks) is) command moment other links is

given_last : (handle : ℕ) (start : Bool) (octets : List ℕ) (links : Links) → StillLast links (links_given handle start octets links)
given_last handle start octets links other link is =
    at_changed (λ (found : Option OpenLink). IfSome found (HasOnlyHeardHost link)) handle other (link_after (DataGiven start octets)) links is
    (λ same. given_place link start octets (link_at other links) is)

-- ---- each part of a turn

stopped_advertiser : (role : Role) (on : Option AdvertiserFacts) → AdvertiserFits on → AdvertiserFits (advertiser_stopped role on)
stopped_advertiser Central on fits = fits
stopped_advertiser Peripheral on fits = tt

stopped_initiator : (role : Role) (on : Option InitiatorFacts) → InitiatorFits on → InitiatorFits (initiator_stopped role on)
stopped_initiator Central on fits = tt
stopped_initiator Peripheral on fits = fits

opened_can : (link : LinkSetup) (facts : Facts) → CanSend facts → CanSend (facts_opening link facts)
opened_can link facts can = record {
  random = can.random;
  advertising = record {
    body = can.advertising.body;
    response = can.advertising.response;
    target = can.advertising.target;
    on_fits = stopped_advertiser link.role facts.advertising.on can.advertising.on_fits;
  };
  scanner = can.scanner;
  initiator = stopped_initiator link.role facts.initiator can.initiator;
}

opened_sends : (link : LinkSetup) (facts : Facts) → CanSend facts → SendsWell (facts_passed (opens link facts))
opened_sends link facts can = opening_passes SendsWell link facts (sends_doing Rests (facts_opening link facts) (opened_can link facts can) tt)

won_served : (slot : ℕ) (on : Option AdvertiserFacts) → AdvertiserFits on → AdvertiserFits (served_if_on slot on)
won_served slot None fits = tt
won_served slot (Some on) fits = fits

won_advertiser : (slot : ℕ) (activity : Activity) (on : Option AdvertiserFacts) → AdvertiserFits on
    → AdvertiserFits (advertiser_won slot activity on)
won_advertiser slot (Link handle) on fits = fits
won_advertiser slot Advertise on fits = won_served slot on fits
won_advertiser slot Scan on fits = fits
won_advertiser slot Initiate on fits = fits

asks_fit : (asks : Bool) (channel : ℕ) (pdu : AdvPdu) → IsAdvertisingChannel channel → length (sender_of pdu).octets ≡ 6
    → DoingFits (asks_if asks channel pdu)
asks_fit true channel pdu is six = (is, six)
asks_fit false channel pdu is six = tt

reply_fits : (replies : Bool) (handle : ℕ) → DoingFits (reply_if replies handle)
reply_fits true handle = tt
reply_fits false handle = tt

scanned_can : (on after : ScannerFacts) (facts : Facts) → facts.scanning.on ≡ Some on → after.params ≡ on.params → CanSend facts
    → CanSend (with_scanner after facts)
scanned_can on after facts is same can = record {
  random = can.random;
  advertising = can.advertising;
  scanner = subst (λ (params : ScanParams). length params.own.octets ≡ 6) (sym same) (subst ScannerFits is can.scanner);
  initiator = can.initiator;
}

passes_well : (setup : Setup) (facts : Facts) → SendsWell facts → EachOutcome setup facts (λ outcome. SendsWell (facts_passed outcome))
passes_well setup facts well = record {
  rests = sends_doing Rests facts well.can tt;
  awaits_request = λ channel doing. sends_doing (AwaitsRequest channel) facts well.can (subst DoingFits doing well.does);
  awaits_response = λ channel advertiser doing. sends_doing (AwaitsResponse channel) facts well.can (subst DoingFits doing well.does).0;
  central_listens = λ handle doing. sends_doing (CentralListens handle) facts well.can tt;
  sent = λ channel link doing. opened_sends link facts well.can;
  responds = λ channel on doing is_on. sends_doing (Responds channel) facts well.can (subst DoingFits doing well.does);
  taken = λ channel octets pdu on fields handle is_on hears takes free. opened_sends (link_taken facts.view on.params.own pdu fields handle) facts well.can;
  scanned = λ channel octets pdu on doing is_on hears.
      sends_doing (asks_if (true && does_ask (scan_answer on.params facts.view.accepted on.recent pdu)) channel pdu)
      (with_scanner (scanner_after on facts.view.accepted pdu) facts)
      (scanned_can on (scanner_after on facts.view.accepted pdu) facts is_on refl well.can)
      (asks_fit (true && does_ask (scan_answer on.params facts.view.accepted on.recent pdu)) channel pdu (subst DoingFits doing well.does) (six_heard channel octets pdu hears));
  answered = λ channel octets pdu on doing is_on hears.
      sends_doing (asks_if (false && does_ask (scan_answer on.params facts.view.accepted on.recent pdu)) channel pdu)
      (with_scanner (scanner_after on facts.view.accepted pdu) facts)
      (scanned_can on (scanner_after on facts.view.accepted pdu) facts is_on refl well.can)
      (asks_fit (false && does_ask (scan_answer on.params facts.view.accepted on.recent pdu)) channel pdu (subst DoingFits doing well.does) (six_heard channel octets pdu hears));
  connects = λ channel octets pdu on access handle doing is_on hears answers next free in_range.
      let initiator = subst InitiatorFits is_on well.can.initiator in
      sends_doing (Connects channel (link_made facts.view on.params.own pdu (fields_sent setup on access facts) handle)) (facts_connecting setup facts)
      (can_still facts (facts_connecting setup facts) refl refl refl refl well.can) (
        subst DoingFits doing well.does,
        connection_fits setup on access facts on.params.own (sender_of pdu) initiator.0 (six_heard channel octets pdu hears) initiator.1 next in_range,
      );
  received = λ handle octets.
      let room = has_room setup facts in
      let replies = replies_in facts.turn.slot room (link_at handle facts.links) octets in
      let after = facts_receiving handle room octets facts in
      receiving_passes SendsWell setup handle octets facts
      (sends_doing (reply_if replies handle) after (can_still facts after refl refl refl refl well.can) (reply_fits replies handle));
}

-- a peripheral that is given words listens, and sends nothing
listening_still : (before after : Facts) (handle : ℕ) (wanted : Use) → before.turn.doing ≡ PeripheralListens handle
    → IsWanted before wanted → IsWanted after wanted
listening_still before after handle (Sends channel octets) listens is = elim is [
  | inl packet ↦ inl packet
  | inr packet ↦ absurd (subst (SendsOn packet.handle) listens packet.sends)
]
listening_still before after handle (Listens channel) listens is = tt
listening_still before after handle Idle listens is = tt

words_well : (setup : Setup) (handle : ℕ) (facts : Facts) → facts.turn.doing ≡ PeripheralListens handle → SendsWell facts
    → SendsWell (facts_with_words setup handle facts)
words_well setup handle facts listens well = record {
  can = can_still facts (facts_with_words setup handle facts) refl refl refl refl well.can;
  does = well.does;
  wanted = listening_still facts (facts_with_words setup handle facts) handle facts.wanted listens well.wanted;
}

pub well_kept : (setup : Setup) → length setup.public ≡ 6 → IsKept setup CanSend SendsWell
well_kept setup six = record {
  accepted = λ facts opcode octets command is accepted well.
      let of = six_known opcode octets command is in
      record {
        can = record {
          random = six_view facts.view command of well.can.random;
          advertising = advertising_fits setup facts.view facts.turn.begun command facts.advertising six well.can.random of accepted
              well.can.advertising;
          scanner = scanning_fits setup facts.view facts.turn.begun command facts.scanning six well.can.random well.can.scanner;
          initiator = initiator_fits setup facts.view facts.turn.begun command facts.initiator six well.can.random well.can.initiator;
        };
        does = well.does;
        wanted =
            wanted_still facts (facts_accepted setup facts command) facts.wanted refl
            (λ handle link last. last_after command facts.links handle (HasOnlyHeardHost link) last) well.wanted;
      };
  asked = λ facts command asks well left. record {
    can = can_still (facts_accepted setup facts command) (facts_asked setup facts command) refl refl refl refl left.can;
    does = well.does;
    wanted =
        wanted_still facts (facts_asked setup facts command) facts.wanted refl
        (asked_last command (moment_of setup facts) facts.links) well.wanted;
  };
  given = λ facts handle count start octets is well. record {
    can = can_still facts (facts_given handle start octets facts) refl refl refl refl well.can;
    does = well.does;
    wanted =
        wanted_still facts (facts_given handle start octets facts) facts.wanted refl
        (given_last handle start octets facts.links) well.wanted;
  };
  octet = λ facts octet well. record {
    can = can_still facts (with_octet octet facts) refl refl refl refl well.can;
    does = well.does;
    wanted = wanted_still facts (with_octet octet facts) facts.wanted refl (λ handle link last. last) well.wanted;
  };
  turns = record {
    starts = record {
      weakens = λ facts well. well.can;
      ends = λ reason facts can. can_still facts (facts_ended reason facts) refl refl refl refl can;
      begins = λ slot facts can. can_still facts (turn_begins slot facts) refl refl refl refl can;
      enters = λ slot facts can. can_still facts (facts_at_events slot facts) refl refl refl refl can;
      wins = λ slot activity facts can. record {
        random = can.random;
        advertising = record {
          body = can.advertising.body;
          response = can.advertising.response;
          target = can.advertising.target;
          on_fits = won_advertiser slot activity facts.advertising.on can.advertising.on_fits;
        };
        scanner = can.scanner;
        initiator = can.initiator;
      };
      fixes = λ doing facts can. can_still facts (facts_fixing doing facts) refl refl refl refl can;
      does = λ doing facts may can. sends_doing doing facts can (begin_fits doing may);
    };
    reports = λ facts can. can_still facts (facts_handed facts) refl refl refl refl can;
    passes = λ facts well. passes_well setup facts well;
    words = λ handle facts listens well. words_well setup handle facts listens well;
  };
}

pub sends_well : (setup : Setup) → length setup.public ≡ 6 → (past : List Step) → SendsWell (facts_of setup past)
sends_well setup six past =
    always setup CanSend SendsWell (well_kept setup six) (record {
      can = record {
        random = tt;
        advertising = record { body = omega arith; response = omega arith; target = refl; on_fits = tt };
        scanner = tt;
        initiator = tt;
      };
      does = tt;
      wanted = tt;
    }) past

pub is_sent : (setup : Setup) (past : List Step) (channel : ℕ) (octets : List ℕ) → length setup.public ≡ 6
    → (facts_of setup past).wanted ≡ Sends channel octets
    → IsAdvertisingPacket channel octets ⊎ IsLinkPacket (facts_of setup past) channel octets
is_sent setup past channel octets six is = subst (IsWanted (facts_of setup past)) is (sends_well setup six past).wanted

pub can_be_done : (setup : Setup) (past : List Step) → length setup.public ≡ 6 → DoingFits (facts_of setup past).turn.doing
can_be_done setup past six = (sends_well setup six past).does
