-- In each phase of a turn a controller does what is of that phase: it sends or listens in the next one, or rests.
use Rattle.std.proofs.Common.{◌≡◌, ℕ, ◌+◌, Bool, true, false, List, Option, Some, None, refl, sym, subst, if◌then◌else◌}
use Rattle.std.specs.Prelude.{⊤, nat_lt}
use Rattle.ble_base.specs.declared.roles.Role.{Role}
use Rattle.ble_base.specs.declared.roles.Role.TheVariants.{Central, Peripheral}
use Rattle.slot_plan.specs.declared.Activity.{Activity}
use Rattle.slot_plan.specs.declared.Activity.TheVariants.{Advertise, Initiate, Link, Scan}
use Rattle.slot_plan.specs.Holding.{is_held_in, winner_of}
use Rattle.ble_base.specs.declared.addresses.Address.{Address}
use Rattle.adv_pdu.specs.declared.pdu.AdvPdu.{AdvPdu}
use Rattle.advertise.specs.declared.answers.AdvAnswer.{AdvAnswer}
use Rattle.advertise.specs.declared.answers.AdvAnswer.TheVariants.{Connect as Takes, Ignore, Respond}
use Rattle.advertise.specs.Advertising.{AdvertiserFacts, event_channel}
use Rattle.advertise.specs.Answers.{advertiser_answer}
use Rattle.scan_init.specs.Initiating.{InitiatorFacts}
use Rattle.scan_init.specs.Reports.{ScannerFacts, does_ask, scan_answer}
use Rattle.journal_wants.specs.controller_model.declared.doing.Doing.{Doing}
use Rattle.journal_wants.specs.controller_model.declared.doing.Doing.TheVariants.{Advertises, AwaitsRequest, AwaitsResponse, CentralListens, CentralSends, Connects, Initiates, PeripheralListens, PeripheralSends, Requests, Responds, Rests, Scans}
use Rattle.journal_wants.specs.controller_model.Facts.{Facts, Setup}
use Rattle.journal_wants.specs.controller_model.Heard.{advertiser_heard, asks_if, connects, facts_with_words, has_room, heard, if_pdu, initiator_heard, link_to, replies_in, reply_if, scanner_heard, unheard}
use Rattle.journal_wants.specs.controller_model.Links.{facts_ending}
use Rattle.journal_wants.specs.controller_model.Packets.{pdu_heard}
use Rattle.journal_wants.specs.controller_model.Radio.{advertises_at, advertises_on, doing_held, exchange_begins, exchange_if, facts_entering, first_exchange, initiates_on, initiator_channel, plan_in, radio_served, scanner_channel, scans_on, second_exchange, served, slots_since, turn_begins, winner_served}
use Rattle.journal_wants.specs.controller_model.Side.{facts_after}
use Rattle.journal_wants.specs.controller_model.Step.{TurnBegins}
use Rattle.journal_wants.specs.controller_model.link_model.Times.{has_second_exchange}
use Rattle.journal_wants.specs.controller_model.link_model.declared.setup.LinkSetup.{LinkSetup}
use Rattle.journal_wants.specs.controller_model.open_links.OpenLinks.{OpenLink, facts_in, in_event, link_at}
use Rattle.journal_moves.specs.Doing.{advertiser_hears, responds_by}
use Rattle.journal_moves.proofs.NextDoing.{request_next}

-- the phase in which it sends or listens
abbrev pub phase_of : Doing → Option ℕ
phase_of (Advertises channel) = Some 0
phase_of (Scans channel) = Some 0
phase_of (Initiates channel) = Some 0
phase_of (CentralSends handle) = Some 0
phase_of (PeripheralListens handle) = Some 0
phase_of (AwaitsRequest channel) = Some 1
phase_of (Requests channel advertiser) = Some 1
phase_of (Connects channel link) = Some 1
phase_of (CentralListens handle) = Some 1
phase_of (PeripheralSends handle) = Some 1
phase_of (Responds channel) = Some 2
phase_of (AwaitsResponse channel) = Some 2
phase_of Rests = None

-- it is of the next phase, or rests
abbrev pub IsNextPhase : Option ℕ → Option ℕ → Type 0
IsNextPhase before None = ⊤
IsNextPhase None (Some next) = ⊥
IsNextPhase (Some before) (Some next) = next ≡ before + 1

-- ---- a phase in which it hears nothing

pub unheard_next : (doing : Doing) (facts : Facts)
    → IsNextPhase (phase_of doing) (phase_of (unheard doing facts).next)
unheard_next (Advertises channel) facts = refl
unheard_next (Requests channel advertiser) facts = refl
unheard_next (CentralSends handle) facts = refl
unheard_next (Connects channel link) facts = tt
unheard_next (Scans channel) facts = tt
unheard_next (Initiates channel) facts = tt
unheard_next (PeripheralListens handle) facts = tt
unheard_next (AwaitsRequest channel) facts = tt
unheard_next (CentralListens handle) facts = tt
unheard_next (PeripheralSends handle) facts = tt
unheard_next (Responds channel) facts = tt
unheard_next (AwaitsResponse channel) facts = tt
unheard_next Rests facts = tt

-- ---- a phase in which it hears a packet

responds_phase : (answer : AdvAnswer) (channel : ℕ) → IsNextPhase (Some 1) (phase_of (responds_by answer channel))
responds_phase Respond channel = refl
responds_phase Ignore channel = tt
responds_phase (Takes fields) channel = tt

hears_phase : (on : Option AdvertiserFacts) (list : List Address) (channel : ℕ) (pdu : AdvPdu)
    → IsNextPhase (Some 1) (phase_of (advertiser_hears on list channel pdu))
hears_phase None list channel pdu = tt
hears_phase (Some on) list channel pdu = responds_phase (advertiser_answer on.params list pdu) channel

request_phase : (pdu : Option AdvPdu) (channel : ℕ) (facts : Facts)
    → IsNextPhase (Some 1)
    (phase_of (if_pdu pdu facts (λ one. advertiser_heard facts.advertising.on channel one facts)).next)
request_phase None channel facts = tt
request_phase (Some pdu) channel facts =
    subst (λ next. IsNextPhase (Some 1) (phase_of next)) (sym (request_next facts.advertising.on channel pdu facts))
    (hears_phase facts.advertising.on facts.view.accepted channel pdu)

asks_phase : (asks : Bool) (channel : ℕ) (pdu : AdvPdu) → IsNextPhase (Some 0) (phase_of (asks_if asks channel pdu))
asks_phase true channel pdu = refl
asks_phase false channel pdu = tt

scanned_phase : (on : Option ScannerFacts) (channel : ℕ) (pdu : AdvPdu) (facts : Facts)
    → IsNextPhase (Some 0) (phase_of (scanner_heard on true channel pdu facts).next)
scanned_phase None channel pdu facts = tt
scanned_phase (Some on) channel pdu facts =
    asks_phase (does_ask (scan_answer on.params facts.view.accepted on.recent pdu)) channel pdu

advertisement_phase : (pdu : Option AdvPdu) (channel : ℕ) (facts : Facts)
    → IsNextPhase (Some 0)
    (phase_of (if_pdu pdu facts (λ one. scanner_heard facts.scanning.on true channel one facts)).next)
advertisement_phase None channel facts = tt
advertisement_phase (Some pdu) channel facts = scanned_phase facts.scanning.on channel pdu facts

response_rests : (on : Option ScannerFacts) (channel : ℕ) (pdu : AdvPdu) (facts : Facts)
    → IsNextPhase (Some 2) (phase_of (scanner_heard on false channel pdu facts).next)
response_rests None channel pdu facts = tt
response_rests (Some on) channel pdu facts = tt

response_phase : (pdu : Option AdvPdu) (channel : ℕ) (facts : Facts)
    → IsNextPhase (Some 2)
    (phase_of (if_pdu pdu facts (λ one. scanner_heard facts.scanning.on false channel one facts)).next)
response_phase None channel facts = tt
response_phase (Some pdu) channel facts = response_rests facts.scanning.on channel pdu facts

connects_phase : (link : Option LinkSetup) (setup : Setup) (channel : ℕ) (facts : Facts)
    → IsNextPhase (Some 0) (phase_of (connects link setup channel facts).next)
connects_phase None setup channel facts = tt
connects_phase (Some link) setup channel facts = refl

sought_phase : (on : Option InitiatorFacts) (setup : Setup) (channel : ℕ) (pdu : AdvPdu) (facts : Facts)
    → IsNextPhase (Some 0) (phase_of (initiator_heard on setup channel pdu facts).next)
sought_phase None setup channel pdu facts = tt
sought_phase (Some on) setup channel pdu facts = connects_phase (link_to setup on pdu facts) setup channel facts

initiator_phase : (pdu : Option AdvPdu) (setup : Setup) (channel : ℕ) (facts : Facts)
    → IsNextPhase (Some 0)
    (phase_of (if_pdu pdu facts (λ one. initiator_heard facts.initiator setup channel one facts)).next)
initiator_phase None setup channel facts = tt
initiator_phase (Some pdu) setup channel facts = sought_phase facts.initiator setup channel pdu facts

replies_phase : (replies : Bool) (handle : ℕ) → IsNextPhase (Some 0) (phase_of (reply_if replies handle))
replies_phase true handle = refl
replies_phase false handle = tt

-- a central does not answer what it hears
abbrev pub IsSilent : Setup → List ℕ → Facts → Doing → Type 0
IsSilent setup octets facts (CentralListens handle) =
    replies_in facts.turn.slot (has_room setup facts) (link_at handle facts.links) octets ≡ false
IsSilent setup octets facts other = ⊤

pub heard_next : (setup : Setup) (doing : Doing) (octets : List ℕ) (facts : Facts) → IsSilent setup octets facts doing
    → IsNextPhase (phase_of doing) (phase_of (heard setup doing octets facts).next)
heard_next setup (AwaitsRequest channel) octets facts silent = request_phase (pdu_heard channel octets) channel facts
heard_next setup (Scans channel) octets facts silent = advertisement_phase (pdu_heard channel octets) channel facts
heard_next setup (AwaitsResponse channel) octets facts silent =
    response_phase (pdu_heard channel octets) channel facts
heard_next setup (Initiates channel) octets facts silent =
    initiator_phase (pdu_heard channel octets) setup channel facts
heard_next setup (CentralListens handle) octets facts silent =
    subst (λ replies. IsNextPhase (Some 1) (phase_of (reply_if replies handle))) (sym silent) tt
heard_next setup (PeripheralListens handle) octets facts silent =
    let now = facts_with_words setup handle facts in
    replies_phase (replies_in now.turn.slot (has_room setup now) (link_at handle now.links) octets) handle
heard_next setup (Advertises channel) octets facts silent = unheard_next (Advertises channel) facts
heard_next setup (Requests channel advertiser) octets facts silent = unheard_next (Requests channel advertiser) facts
heard_next setup (CentralSends handle) octets facts silent = unheard_next (CentralSends handle) facts
heard_next setup (Connects channel link) octets facts silent = unheard_next (Connects channel link) facts
heard_next setup (PeripheralSends handle) octets facts silent = unheard_next (PeripheralSends handle) facts
heard_next setup (Responds channel) octets facts silent = unheard_next (Responds channel) facts
heard_next setup Rests octets facts silent = unheard_next Rests facts

-- ---- a turn begins: it is of the first phase, or rests

abbrev pub IsFirstPhase : Option ℕ → Type 0
IsFirstPhase None = ⊤
IsFirstPhase (Some phase) = phase ≡ 0

exchange_first : (role : Role) (handle : ℕ) → IsFirstPhase (phase_of (exchange_begins role handle))
exchange_first Central handle = refl
exchange_first Peripheral handle = refl

exchange_if_first : (begins : Bool) (role : Role) (handle : ℕ)
    → IsFirstPhase (phase_of (exchange_if begins role handle))
exchange_if_first true role handle = exchange_first role handle
exchange_if_first false role handle = tt

first_first : (handle : ℕ) (place : Option OpenLink) → IsFirstPhase (phase_of (first_exchange handle place))
first_first handle None = tt
first_first handle (Some link) = exchange_first link.setup.link.role handle

second_first : (handle : ℕ) (place : Option OpenLink) → IsFirstPhase (phase_of (second_exchange handle place))
second_first handle None = tt
second_first handle (Some link) =
    exchange_if_first (has_second_exchange (facts_in link)) link.setup.link.role handle

on_first : (channel : Option ℕ) → IsFirstPhase (phase_of (advertises_on channel))
on_first None = tt
on_first (Some channel) = refl

on_if_first : (within : Bool) (channel : Option ℕ)
    → IsFirstPhase (phase_of (if within then advertises_on channel else Rests))
on_if_first true channel = on_first channel
on_if_first false channel = tt

advertises_first : (place : ℕ) (on : Option AdvertiserFacts) → IsFirstPhase (phase_of (advertises_at place on))
advertises_first place None = tt
advertises_first place (Some on) = on_if_first (nat_lt place 3) (event_channel on.params.channels place)

scans_first : (channel : Option ℕ) → IsFirstPhase (phase_of (scans_on channel))
scans_first None = tt
scans_first (Some channel) = refl

initiates_first : (channel : Option ℕ) → IsFirstPhase (phase_of (initiates_on channel))
initiates_first None = tt
initiates_first (Some channel) = refl

won_first : (slot : ℕ) (winner : Option Activity) (facts : Facts)
    → IsFirstPhase (phase_of (winner_served slot winner facts).next)
won_first slot None facts = tt
won_first slot (Some (Link handle)) facts = first_first handle (in_event (link_at handle facts.links))
won_first slot (Some Advertise) facts = advertises_first 0 facts.advertising.on
won_first slot (Some Scan) facts = scans_first (scanner_channel slot facts.scanning.on)
won_first slot (Some Initiate) facts = initiates_first (initiator_channel slot facts.initiator)

held_first : (slot : ℕ) (holder : Activity) (facts : Facts) → IsFirstPhase (phase_of (doing_held slot holder facts))
held_first slot (Link handle) facts = second_first handle (in_event (link_at handle facts.links))
held_first slot Advertise facts = advertises_first (slots_since slot facts.radio.hold) facts.advertising.on
held_first slot Scan facts = tt
held_first slot Initiate facts = tt

radio_first : (held : Bool) (slot : ℕ) (winner : Option Activity) (facts : Facts)
    → IsFirstPhase (phase_of (radio_served held slot winner facts).next)
radio_first true slot winner facts = held_first slot facts.radio.holder facts
radio_first false slot winner facts = won_first slot winner facts

served_first : (on : Bool) (slot : ℕ) (winner : Option Activity) (facts : Facts)
    → IsFirstPhase (phase_of (served on slot winner facts).next)
served_first false slot winner facts = tt
served_first true slot winner facts = radio_first (is_held_in facts.radio.hold slot) slot winner facts

pub begun_first : (setup : Setup) (slot : ℕ) (on : Bool) (facts : Facts)
    → IsFirstPhase (phase_of (facts_after setup facts (TurnBegins slot on)).turn.doing)
begun_first setup slot on facts =
    let begun = turn_begins slot (facts_ending slot facts) in
    served_first on slot (winner_of (plan_in slot begun) slot) (facts_entering slot begun)
