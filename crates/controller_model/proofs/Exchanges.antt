-- A controller sends and receives only on a link that entered an event (Core 5.2, volume 6 part B, section 4.5.1).
use Rattle.std.proofs.Common.{◌≡◌, ℕ, Bool, true, false, Option, Some, None, List, refl, sym, subst, if◌then◌else◌}
use Rattle.std.specs.Prelude.{⊤, ◌&&◌, nat_lt}
use Rattle.std.specs.Option.{option_map}
use Rattle.ble_base.specs.declared.roles.Role.{Role}
use Rattle.ble_base.specs.declared.roles.Role.TheVariants.{Central, Peripheral}
use Rattle.adv_pdu.specs.declared.pdu.AdvPdu.{AdvPdu}
use Rattle.adv_pdu.specs.declared.pdu.ConnectFields.{ConnectFields}
use Rattle.adv_pdu.specs.Pdu.{sender_of}
use Rattle.advertise.specs.declared.answers.AdvAnswer.{AdvAnswer}
use Rattle.advertise.specs.declared.answers.AdvAnswer.TheVariants.{Ignore, Respond, Connect as Takes}
use Rattle.advertise.specs.Advertising.{AdvertiserFacts, event_channel}
use Rattle.advertise.specs.Answers.{advertiser_answer}
use Rattle.hci_cmd.specs.declared.command.Command.{Command}
use Rattle.hci_cmd.specs.declared.command.Command.TheVariants.{Reset}
use Rattle.link_commands.specs.open_links.link_model.declared.setup.LinkSetup.{LinkSetup}
use Rattle.host_view.specs.scan_init.Initiating.{InitiatorFacts}
use Rattle.host_view.specs.scan_init.Reports.{ScannerFacts, does_ask, scan_answer}
use Rattle.slot_plan.specs.declared.Activity.{Activity}
use Rattle.slot_plan.specs.declared.Activity.TheVariants.{Link, Advertise, Scan, Initiate}
use Rattle.slot_plan.specs.Holding.{is_held_in}
use Rattle.link_commands.specs.open_links.link_model.Step.{Step as EndStep, DataGiven, PacketReceived, PacketSent, PduFixed, WordsGiven}
use Rattle.link_commands.specs.open_links.link_model.Times.{has_second_exchange}
use Rattle.link_commands.specs.open_links.OpenLinks.{Links, OpenLink, facts_in, free_from, has_entered, in_event, link_after, link_at, link_served, with_change}
use Rattle.link_commands.proofs.open_links.OnTime.{stays_entered}
use Rattle.link_commands.proofs.open_links.UnderHandles.{map_at}
use Rattle.controller_model.specs.declared.doing.Doing.{Doing}
use Rattle.controller_model.specs.declared.doing.Doing.TheVariants.{Advertises, AwaitsRequest, Scans, Requests, AwaitsResponse, Initiates, Connects, CentralSends, CentralListens, PeripheralListens, PeripheralSends, Rests}
use Rattle.link_commands.specs.declared.moments.Moment.{Moment}
use Rattle.link_commands.specs.LinksCommanded.{links_commanded}
use Rattle.controller_model.specs.Step.{Step, HostOctet, TurnBegins, PacketHeard, NothingHeard, TurnEnds}
use Rattle.controller_model.specs.Facts.{Setup, Facts}
use Rattle.controller_model.specs.Commands.{links_after, moment_of}
use Rattle.controller_model.specs.Entering.{HasEntered, IsInEvent}
use Rattle.controller_model.specs.Heard.{advertiser_answers, advertiser_heard, asks_if, connects, heard, if_pdu, initiator_heard, is_new_between, link_heard, link_received, link_to, links_refusing, replies_in, reply_if, scanner_heard, has_room, taken_if, taken_under, unheard, facts_with_words}
use Rattle.controller_model.specs.Outcome.{Outcome, facts_passed}
use Rattle.controller_model.specs.Packets.{facts_doing, links_sending, pdu_heard}
use Rattle.controller_model.specs.Radio.{advertises_at, advertises_on, doing_held, doing_won, exchange_begins, exchange_if, facts_won, first_exchange, fixing, initiates_on, initiator_channel, links_fixing, outcome_begun, radio_served, scanner_channel, scans_on, second_exchange, served, slots_since, winner_served}
use Rattle.controller_model.specs.Side.{facts_after, facts_of}
use Rattle.controller_model.proofs.Asked.{at_kept}
use Rattle.controller_model.proofs.Always.{facts_before_doing, kept_always, octet_keeps, winner_before_doing}
use Rattle.controller_model.proofs.Places.{at_changed, refusal_at}

-- nothing is done on a link
abbrev IsOnNone : Doing → Type 0
IsOnNone (CentralSends handle) = ⊥
IsOnNone (CentralListens handle) = ⊥
IsOnNone (PeripheralListens handle) = ⊥
IsOnNone (PeripheralSends handle) = ⊥
IsOnNone other = ⊤

on_none : (doing : Doing) (links : Links) → IsOnNone doing → IsInEvent doing links
on_none (CentralSends handle) links none = absurd none
on_none (CentralListens handle) links none = absurd none
on_none (PeripheralListens handle) links none = absurd none
on_none (PeripheralSends handle) links none = absurd none
on_none (Advertises channel) links none = tt
on_none other links none = tt

-- ---- each change of links leaves them in their events

-- each link that entered an event, and is open after it, has entered one
abbrev StayEntered : Links → Links → Type 0
StayEntered before after = (handle : ℕ) → HasEntered (link_at handle before) → HasEntered (link_at handle after)

pub stays_in_event : (doing : Doing) (before after : Links) → StayEntered before after → IsInEvent doing before → IsInEvent doing after
stays_in_event (CentralSends handle) before after stay is = stay handle is
stays_in_event (CentralListens handle) before after stay is = stay handle is
stays_in_event (PeripheralListens handle) before after stay is = stay handle is
stays_in_event (PeripheralSends handle) before after stay is = stay handle is
stays_in_event (Advertises channel) before after stay is = tt
stays_in_event other before after stay is = tt

step_entered : (step : EndStep) (place : Option OpenLink) → HasEntered place → HasEntered (option_map (link_after step) place)
step_entered step None has = tt
step_entered step (Some link) has = stays_entered step link has

pub step_stays : (step : EndStep) (handle : ℕ) (links : Links) → StayEntered links (with_change handle (link_after step) links)
step_stays step handle links other has =
    at_changed HasEntered handle other (link_after step) links has (λ same. step_entered step (link_at other links) has)

served_entered : (slot : ℕ) (place : Option OpenLink) → HasEntered place → HasEntered (option_map (link_served slot) place)
served_entered slot None has = tt
served_entered slot (Some link) has = has

served_stays : (slot handle : ℕ) (links : Links) → StayEntered links (with_change handle (link_served slot) links)
served_stays slot handle links other has =
    at_changed HasEntered handle other (link_served slot) links has (λ same. served_entered slot (link_at other links) has)

pub fixing_stays : (doing : Doing) (links : Links) → StayEntered links (links_fixing doing links)
fixing_stays (CentralSends handle) links = step_stays PduFixed handle links
fixing_stays (PeripheralListens handle) links = step_stays PduFixed handle links
fixing_stays (Advertises channel) links = λ other has. has
fixing_stays other links = λ other has. has

pub sending_stays : (slot : ℕ) (doing : Doing) (links : Links) → StayEntered links (links_sending slot doing links)
sending_stays slot (CentralSends handle) links = step_stays (PacketSent slot) handle links
sending_stays slot (PeripheralSends handle) links = step_stays (PacketSent slot) handle links
sending_stays slot (Advertises channel) links = λ other has. has
sending_stays slot other links = λ other has. has

refusing_stays : (refusal : Option EndStep) (handle : ℕ) (links : Links) → StayEntered links (links_refusing refusal handle links)
refusing_stays (Some step) handle links = step_stays step handle links
refusing_stays None handle links = λ other has. has

pub receiving_stays : (handle : ℕ) (room : Bool) (octets : List ℕ) (facts : Facts)
    → StayEntered facts.links (link_received handle room octets facts).links
receiving_stays handle room octets facts other has =
    let step = PacketReceived facts.turn.slot octets room in
    refusing_stays (refusal_at handle room octets facts) handle (with_change handle (link_after step) facts.links) other
    (step_stays step handle facts.links other has)

command_stays : (command : Command) (links : Links) → StayEntered links (links_after command links)
command_stays Reset links other has = subst HasEntered (sym (map_at (λ place. None) 0 other links refl)) tt
command_stays command links other has = has

asked_stays : (command : Command) (moment : Moment) (links : Links) → StayEntered links (links_commanded command moment links)
asked_stays command moment links other has = at_kept HasEntered (λ link step asks has. stays_entered step link has) command moment other links has

-- what is done next
pub doing_stays : (doing : Doing) (facts : Facts) → IsInEvent doing facts.links → IsInEvent doing (facts_doing doing facts).links
doing_stays doing facts is =
    stays_in_event doing facts.links (links_sending facts.turn.slot doing facts.links) (sending_stays facts.turn.slot doing facts.links) is

-- ---- a turn begins

-- the link that is looked at is the one under the handle
exchange_in_event : (role : Role) (handle : ℕ) (links : Links) → HasEntered (link_at handle links) → IsInEvent (exchange_begins role handle) links
exchange_in_event Central handle links has = has
exchange_in_event Peripheral handle links has = has

first_in_event : (handle : ℕ) (links : Links) (place : Option OpenLink) → link_at handle links ≡ place
    → IsInEvent (first_exchange handle (in_event place)) links
first_in_event handle links None is = tt
first_in_event handle links (Some link) is = at (has_entered link) refl
  where
    at : (test : Bool) → has_entered link ≡ test → IsInEvent (first_exchange handle (if test then Some link else None)) links
    at true has = exchange_in_event link.setup.link.role handle links (subst HasEntered (sym is) has)
    at false has = tt

second_in_event : (handle : ℕ) (links : Links) (place : Option OpenLink) → link_at handle links ≡ place
    → IsInEvent (second_exchange handle (in_event place)) links
second_in_event handle links None is = tt
second_in_event handle links (Some link) is = at (has_entered link) refl
  where
    continues : (goes : Bool) → HasEntered (link_at handle links) → IsInEvent (exchange_if goes link.setup.link.role handle) links
    continues true has = exchange_in_event link.setup.link.role handle links has
    continues false has = tt

    at : (test : Bool) → has_entered link ≡ test → IsInEvent (second_exchange handle (if test then Some link else None)) links
    at true has = continues (has_second_exchange (facts_in link)) (subst HasEntered (sym is) has)
    at false has = tt

advertises_none : (place : ℕ) (on : Option AdvertiserFacts) → IsOnNone (advertises_at place on)
advertises_none place None = tt
advertises_none place (Some on) = early (nat_lt place 3)
  where
    at : (channel : Option ℕ) → IsOnNone (advertises_on channel)
    at None = tt
    at (Some channel) = tt

    early : (test : Bool) → IsOnNone (if test then advertises_on (event_channel on.params.channels place) else Rests)
    early true = at (event_channel on.params.channels place)
    early false = tt

scans_none : (channel : Option ℕ) → IsOnNone (scans_on channel)
scans_none None = tt
scans_none (Some channel) = tt

initiates_none : (channel : Option ℕ) → IsOnNone (initiates_on channel)
initiates_none None = tt
initiates_none (Some channel) = tt

won_in_event : (slot : ℕ) (activity : Activity) (facts : Facts) → IsInEvent (doing_won slot activity facts) (facts_won slot activity facts).links
won_in_event slot (Link handle) facts =
    let doing = first_exchange handle (in_event (link_at handle facts.links)) in
    stays_in_event doing facts.links (with_change handle (link_served slot) facts.links) (served_stays slot handle facts.links)
    (first_in_event handle facts.links (link_at handle facts.links) refl)
won_in_event slot Advertise facts = on_none (advertises_at 0 facts.advertising.on) _ (advertises_none 0 facts.advertising.on)
won_in_event slot Scan facts =
    on_none (scans_on (scanner_channel slot facts.scanning.on)) facts.links (scans_none (scanner_channel slot facts.scanning.on))
won_in_event slot Initiate facts =
    on_none (initiates_on (initiator_channel slot facts.initiator)) facts.links (initiates_none (initiator_channel slot facts.initiator))

held_in_event : (slot : ℕ) (activity : Activity) (facts : Facts) → IsInEvent (doing_held slot activity facts) facts.links
held_in_event slot (Link handle) facts = second_in_event handle facts.links (link_at handle facts.links) refl
held_in_event slot Advertise facts =
    let place = slots_since slot facts.radio.hold in
    on_none (advertises_at place facts.advertising.on) facts.links (advertises_none place facts.advertising.on)
held_in_event slot Scan facts = tt
held_in_event slot Initiate facts = tt

abbrev pub OutcomeInEvent : Outcome → Type 0
OutcomeInEvent outcome = IsInEvent outcome.next outcome.facts.links

winner_in_event : (slot : ℕ) (winner : Option Activity) (facts : Facts) → OutcomeInEvent (winner_served slot winner facts)
winner_in_event slot None facts = tt
winner_in_event slot (Some activity) facts = won_in_event slot activity facts

pub served_in_event : (on : Bool) (slot : ℕ) (winner : Option Activity) (facts : Facts) → OutcomeInEvent (served on slot winner facts)
served_in_event false slot winner facts = tt
served_in_event true slot winner facts = by_hold (is_held_in facts.radio.hold slot)
  where
    by_hold : (held : Bool) → OutcomeInEvent (radio_served held slot winner facts)
    by_hold true = held_in_event slot facts.radio.holder facts
    by_hold false = winner_in_event slot winner facts

fixing_in_event : (outcome : Outcome) → OutcomeInEvent outcome → OutcomeInEvent (fixing outcome)
fixing_in_event outcome is =
    stays_in_event outcome.next outcome.facts.links (links_fixing outcome.next outcome.facts.links)
    (fixing_stays outcome.next outcome.facts.links) is

-- where an exchange begins with a turn, its link, if it is open, entered an event
pub exchange_has_entered : (slot : ℕ) (on : Bool) (facts : Facts) → OutcomeInEvent (outcome_begun slot on facts)
exchange_has_entered slot on facts =
    fixing_in_event (served on slot (winner_before_doing slot facts) (facts_before_doing slot facts))
    (served_in_event on slot (winner_before_doing slot facts) (facts_before_doing slot facts))

-- ---- a phase

abbrev pub FactsInEvent : Facts → Type 0
FactsInEvent facts = IsInEvent facts.turn.doing facts.links

passes_in_event : (outcome : Outcome) → OutcomeInEvent outcome → FactsInEvent (facts_passed outcome)
passes_in_event outcome is = doing_stays outcome.next outcome.facts is

none_in_event : (outcome : Outcome) → IsOnNone outcome.next → OutcomeInEvent outcome
none_in_event outcome none = on_none outcome.next outcome.facts.links none

pub unheard_in_event : (doing : Doing) (facts : Facts) → facts.turn.doing ≡ doing → FactsInEvent facts → OutcomeInEvent (unheard doing facts)
unheard_in_event (CentralSends handle) facts doing is = subst (λ (doing : Doing). IsInEvent doing facts.links) doing is
unheard_in_event (Advertises channel) facts doing is = tt
unheard_in_event (Requests channel advertiser) facts doing is = tt
unheard_in_event (Connects channel link) facts doing is = tt
unheard_in_event other facts doing is = tt

by_pdu : (found : Option AdvPdu) (facts : Facts) (outcome : AdvPdu → Outcome) → ((pdu : AdvPdu) → IsOnNone (outcome pdu).next)
    → OutcomeInEvent (if_pdu found facts outcome)
by_pdu None facts outcome none = tt
by_pdu (Some pdu) facts outcome none = none_in_event (outcome pdu) (none pdu)

advertiser_none : (on : Option AdvertiserFacts) (channel : ℕ) (pdu : AdvPdu) (facts : Facts) → IsOnNone (advertiser_heard on channel pdu facts).next
advertiser_none None channel pdu facts = tt
advertiser_none (Some on) channel pdu facts = answered (advertiser_answer on.params facts.view.accepted pdu)
  where
    under : (free : Option ℕ) (fields : ConnectFields) → IsOnNone (taken_under free on.params.own pdu fields facts).next
    under None fields = tt
    under (Some handle) fields = tt

    new : (test : Bool) (fields : ConnectFields) → IsOnNone (taken_if test on.params.own pdu fields facts).next
    new true fields = under (free_from 0 facts.links) fields
    new false fields = tt

    answered : (answer : AdvAnswer) → IsOnNone (advertiser_answers answer channel on.params.own pdu facts).next
    answered Ignore = tt
    answered Respond = tt
    answered (Takes fields) = new (is_new_between on.params.own (sender_of pdu) facts.links) fields

asks_none : (asks : Bool) (channel : ℕ) (pdu : AdvPdu) → IsOnNone (asks_if asks channel pdu)
asks_none true channel pdu = tt
asks_none false channel pdu = tt

scanner_none : (on : Option ScannerFacts) (may_ask : Bool) (channel : ℕ) (pdu : AdvPdu) (facts : Facts)
    → IsOnNone (scanner_heard on may_ask channel pdu facts).next
scanner_none None may_ask channel pdu facts = tt
scanner_none (Some on) may_ask channel pdu facts =
    asks_none (may_ask && does_ask (scan_answer on.params facts.view.accepted on.recent pdu)) channel pdu

initiator_none : (on : Option InitiatorFacts) (setup : Setup) (channel : ℕ) (pdu : AdvPdu) (facts : Facts)
    → IsOnNone (initiator_heard on setup channel pdu facts).next
initiator_none None setup channel pdu facts = tt
initiator_none (Some on) setup channel pdu facts = made (link_to setup on pdu facts)
  where
    made : (link : Option LinkSetup) → IsOnNone (connects link setup channel facts).next
    made None = tt
    made (Some link) = tt

received_in_event : (setup : Setup) (handle : ℕ) (octets : List ℕ) (facts : Facts) → HasEntered (link_at handle facts.links)
    → OutcomeInEvent (link_heard setup handle octets facts)
received_in_event setup handle octets facts has =
    let room = has_room setup facts in
    replies (replies_in facts.turn.slot room (link_at handle facts.links) octets) room (receiving_stays handle room octets facts handle has)
  where
    replies : (test room : Bool) → HasEntered (link_at handle (link_received handle room octets facts).links)
        → IsInEvent (reply_if test handle) (link_received handle room octets facts).links
    replies true room has = has
    replies false room has = tt

pub heard_in_event : (setup : Setup) (doing : Doing) (octets : List ℕ) (facts : Facts) → facts.turn.doing ≡ doing → FactsInEvent facts
    → OutcomeInEvent (heard setup doing octets facts)
heard_in_event setup (CentralListens handle) octets facts doing is =
    received_in_event setup handle octets facts (subst (λ (doing : Doing). IsInEvent doing facts.links) doing is)
heard_in_event setup (PeripheralListens handle) octets facts doing is =
    received_in_event setup handle octets (facts_with_words setup handle facts)
    (step_stays (WordsGiven _ _) handle facts.links handle (subst (λ (doing : Doing). IsInEvent doing facts.links) doing is))
heard_in_event setup (AwaitsRequest channel) octets facts doing is =
    by_pdu (pdu_heard channel octets) facts _ (λ pdu. advertiser_none facts.advertising.on channel pdu facts)
heard_in_event setup (Scans channel) octets facts doing is =
    by_pdu (pdu_heard channel octets) facts _ (λ pdu. scanner_none facts.scanning.on true channel pdu facts)
heard_in_event setup (AwaitsResponse channel) octets facts doing is =
    by_pdu (pdu_heard channel octets) facts _ (λ pdu. scanner_none facts.scanning.on false channel pdu facts)
heard_in_event setup (Initiates channel) octets facts doing is =
    by_pdu (pdu_heard channel octets) facts _ (λ pdu. initiator_none facts.initiator setup channel pdu facts)
heard_in_event setup doing octets facts is so = unheard_in_event doing facts is so

-- ---- at any time

pub step_in_event : (setup : Setup) (facts : Facts) (step : Step) → FactsInEvent facts → FactsInEvent (facts_after setup facts step)
step_in_event setup facts (HostOctet octet) is =
    octet_keeps setup FactsInEvent
    (λ facts opcode octets command known accepted is.
    stays_in_event facts.turn.doing facts.links (links_after command facts.links) (command_stays command facts.links) is)
    (λ facts command asks is left.
    stays_in_event facts.turn.doing facts.links (links_commanded command (moment_of setup facts) facts.links)
    (asked_stays command (moment_of setup facts) facts.links) is)
    (λ facts handle count start octets kept is.
    stays_in_event facts.turn.doing facts.links _ (step_stays (DataGiven start octets) handle facts.links) is)
    (λ facts octet is. is) facts octet is
step_in_event setup facts (TurnBegins slot on) is = passes_in_event (outcome_begun slot on facts) (exchange_has_entered slot on facts)
step_in_event setup facts (PacketHeard octets) is =
    passes_in_event (heard setup facts.turn.doing octets facts) (heard_in_event setup facts.turn.doing octets facts refl is)
step_in_event setup facts NothingHeard is =
    passes_in_event (unheard facts.turn.doing facts) (unheard_in_event facts.turn.doing facts refl is)
step_in_event setup facts TurnEnds is = tt

pub always_in_event : (setup : Setup) (past : List Step) → FactsInEvent (facts_of setup past)
always_in_event setup past = kept_always setup FactsInEvent (step_in_event setup) tt past
