-- What a controller is to send in a phase it can send: it wants the radio for that.
use Rattle.std.proofs.Common.{◌≡◌, ℕ, Bool, true, false, List, [], Option, Some, None, refl, sym, ap, subst, if◌then◌else◌}
use Rattle.std.specs.Prelude.{⊤, is_some, nat_lt}
use Rattle.std.specs.Option.{option_map}
use Rattle.ble_base.specs.declared.addresses.Address.{Address}
use Rattle.ble_base.specs.declared.roles.Role.{Role}
use Rattle.ble_base.specs.declared.roles.Role.TheVariants.{Central, Peripheral}
use Rattle.adv_pdu.specs.declared.pdu.AdvPdu.{AdvPdu}
use Rattle.advertise.specs.declared.answers.AdvAnswer.{AdvAnswer}
use Rattle.advertise.specs.declared.answers.AdvAnswer.TheVariants.{Connect as Takes, Ignore, Respond}
use Rattle.advertise.specs.Advertising.{AdvertiserFacts, advertisement, event_channel}
use Rattle.advertise.specs.Answers.{advertiser_answer}
use Rattle.adv_pdu.specs.declared.pdu.AdvPdu.TheVariants.{ScanReq, ScanRsp}
use Rattle.scan_init.specs.Initiating.{InitiatorFacts}
use Rattle.scan_init.specs.Reports.{ScannerFacts, does_ask, scan_answer}
use Rattle.slot_plan.specs.declared.Activity.{Activity}
use Rattle.slot_plan.specs.declared.Activity.TheVariants.{Advertise, Initiate, Link, Scan}
use Rattle.slot_plan.specs.Holding.{is_held_in, winner_of}
use Rattle.journal_wants.specs.controller_model.declared.doing.Doing.{Doing}
use Rattle.journal_wants.specs.controller_model.declared.doing.Doing.TheVariants.{Advertises, AwaitsRequest, AwaitsResponse, CentralListens, CentralSends, Connects, Initiates, PeripheralListens, PeripheralSends, Requests, Responds, Rests, Scans}
use Rattle.journal_wants.specs.controller_model.Facts.{Facts, Idle, Listens, Sends, Setup}
use Rattle.journal_wants.specs.controller_model.Heard.{advertiser_answers, advertiser_heard, asks_if, connects, facts_with_words, has_room, heard, if_pdu, initiator_heard, link_received, link_to, links_refusing, refusal_in, replies_in, reply_if, scanner_after, scanner_heard, unheard, with_scanner}
use Rattle.journal_wants.specs.controller_model.Links.{facts_ending}
use Rattle.journal_wants.specs.controller_model.Outcome.{Outcome}
use Rattle.journal_wants.specs.controller_model.Packets.{connect_sent, facts_doing, listens_on, pdu_heard, sends_on, sends_pdu, use_for}
use Rattle.journal_wants.specs.controller_model.Radio.{advertises_at, advertises_on, doing_held, exchange_begins, exchange_if, facts_entering, facts_won, first_exchange, initiates_on, initiator_channel, links_fixing, outcome_begun, plan_in, radio_served, scanner_channel, scans_on, second_exchange, served, served_if_on, slots_since, turn_begins, winner_served}
use Rattle.journal_wants.specs.controller_model.link_model.Step.{PacketReceived, PacketSent, PduFixed, Step as EndStep}
use Rattle.journal_wants.specs.controller_model.link_model.Times.{has_second_exchange}
use Rattle.journal_wants.specs.controller_model.link_model.declared.setup.LinkSetup.{LinkSetup}
use Rattle.journal_wants.specs.controller_model.open_links.OpenLinks.{Links, OpenLink, facts_in, has_entered, in_event, link_after, link_at, link_served, with_change}
use Rattle.journal_wants.specs.run_model.Due.{packet_in}
use Rattle.journal_wants.proofs.journal_acks.open_links.Handles.{changed_is}
use Rattle.journal_moves.specs.Moves.{phase_sending}
use Rattle.journal_moves.proofs.NextDoing.{taken_next}

-- the part that is to send is on, or its link is open
abbrev pub IsReady : Facts → Doing → Type 0
IsReady facts (Advertises channel) = is_some facts.advertising.on ≡ true
IsReady facts (Responds channel) = is_some facts.advertising.on ≡ true
IsReady facts (Requests channel advertiser) = is_some facts.scanning.on ≡ true
IsReady facts (CentralSends handle) = is_some (link_at handle facts.links) ≡ true
IsReady facts (PeripheralSends handle) = is_some (link_at handle facts.links) ≡ true
IsReady facts other = ⊤

changed_some : (change : OpenLink → OpenLink) (handle : ℕ) (links : Links) → is_some (link_at handle links) ≡ true
    → is_some (link_at handle (with_change handle change links)) ≡ true
changed_some change handle links is =
    subst (λ (place : Option OpenLink). is_some place ≡ true)
    (sym (changed_is (option_map change) 0 handle links refl)) (by (link_at handle links) is)
  where
    by : (place : Option OpenLink) → is_some place ≡ true → is_some (option_map change place) ≡ true
    by None is = absurd (let h : false ≡ true = is in absurd cc)
    by (Some link) is = refl

-- ---- as a turn begins

exchange_ready : (role : Role) (handle : ℕ) (facts : Facts) → is_some (link_at handle facts.links) ≡ true
    → IsReady facts (exchange_begins role handle)
exchange_ready Central handle facts is = is
exchange_ready Peripheral handle facts is = tt

exchange_if_ready : (begins : Bool) (role : Role) (handle : ℕ) (facts : Facts)
    → is_some (link_at handle facts.links) ≡ true
    → IsReady facts (exchange_if begins role handle)
exchange_if_ready true role handle facts is = exchange_ready role handle facts is
exchange_if_ready false role handle facts is = tt

first_ready : (handle : ℕ) (facts : Facts) (place : Option OpenLink)
    → (is_some place ≡ true → is_some (link_at handle facts.links) ≡ true)
    → IsReady facts (first_exchange handle (in_event place))
first_ready handle facts None is = tt
first_ready handle facts (Some link) is = by (has_entered link)
  where
    by : (entered : Bool) → IsReady facts (first_exchange handle (if entered then Some link else None))
    by true = exchange_ready link.setup.link.role handle facts (is refl)
    by false = tt

second_ready : (handle : ℕ) (facts : Facts) (place : Option OpenLink)
    → (is_some place ≡ true → is_some (link_at handle facts.links) ≡ true)
    → IsReady facts (second_exchange handle (in_event place))
second_ready handle facts None is = tt
second_ready handle facts (Some link) is = by (has_entered link)
  where
    by : (entered : Bool) → IsReady facts (second_exchange handle (if entered then Some link else None))
    by true = exchange_if_ready (has_second_exchange (facts_in link)) link.setup.link.role handle facts (is refl)
    by false = tt

on_ready : (channel : Option ℕ) (facts : Facts) → is_some facts.advertising.on ≡ true
    → IsReady facts (advertises_on channel)
on_ready None facts is = tt
on_ready (Some channel) facts is = is

on_if_ready : (within : Bool) (channel : Option ℕ) (facts : Facts) → is_some facts.advertising.on ≡ true
    → IsReady facts (if within then advertises_on channel else Rests)
on_if_ready true channel facts is = on_ready channel facts is
on_if_ready false channel facts is = tt

advertises_ready : (place : ℕ) (on : Option AdvertiserFacts) (facts : Facts)
    → (is_some on ≡ true → is_some facts.advertising.on ≡ true)
    → IsReady facts (advertises_at place on)
advertises_ready place None facts is = tt
advertises_ready place (Some on) facts is =
    on_if_ready (nat_lt place 3) (event_channel on.params.channels place) facts (is refl)

served_some : (slot : ℕ) (on : Option AdvertiserFacts) → is_some on ≡ true → is_some (served_if_on slot on) ≡ true
served_some slot None is = is
served_some slot (Some on) is = refl

scans_ready : (channel : Option ℕ) (facts : Facts) → IsReady facts (scans_on channel)
scans_ready None facts = tt
scans_ready (Some channel) facts = tt

initiates_ready : (channel : Option ℕ) (facts : Facts) → IsReady facts (initiates_on channel)
initiates_ready None facts = tt
initiates_ready (Some channel) facts = tt

won_ready : (slot : ℕ) (winner : Option Activity) (facts : Facts)
    → IsReady (winner_served slot winner facts).facts (winner_served slot winner facts).next
won_ready slot None facts = tt
won_ready slot (Some (Link handle)) facts =
    first_ready handle (facts_won slot (Link handle) facts) (link_at handle facts.links)
    (changed_some (link_served slot) handle facts.links)
won_ready slot (Some Advertise) facts =
    advertises_ready 0 facts.advertising.on (facts_won slot Advertise facts) (served_some slot facts.advertising.on)
won_ready slot (Some Scan) facts = scans_ready (scanner_channel slot facts.scanning.on) facts
won_ready slot (Some Initiate) facts = initiates_ready (initiator_channel slot facts.initiator) facts

held_ready : (slot : ℕ) (holder : Activity) (facts : Facts) → IsReady facts (doing_held slot holder facts)
held_ready slot (Link handle) facts = second_ready handle facts (link_at handle facts.links) (λ is. is)
held_ready slot Advertise facts =
    advertises_ready (slots_since slot facts.radio.hold) facts.advertising.on facts (λ is. is)
held_ready slot Scan facts = tt
held_ready slot Initiate facts = tt

radio_ready : (held : Bool) (slot : ℕ) (winner : Option Activity) (facts : Facts)
    → IsReady (radio_served held slot winner facts).facts (radio_served held slot winner facts).next
radio_ready true slot winner facts = held_ready slot facts.radio.holder facts
radio_ready false slot winner facts = won_ready slot winner facts

served_ready : (on : Bool) (slot : ℕ) (winner : Option Activity) (facts : Facts)
    → IsReady (served on slot winner facts).facts (served on slot winner facts).next
served_ready false slot winner facts = tt
served_ready true slot winner facts = radio_ready (is_held_in facts.radio.hold slot) slot winner facts

fixing_ready : (doing : Doing) (facts : Facts) → IsReady facts doing
    → IsReady (record facts { links = links_fixing doing facts.links }) doing
fixing_ready (CentralSends handle) facts is = changed_some (link_after PduFixed) handle facts.links is
fixing_ready (Advertises channel) facts is = is
fixing_ready (Responds channel) facts is = is
fixing_ready (Requests channel advertiser) facts is = is
fixing_ready (PeripheralSends handle) facts is = is
fixing_ready (AwaitsRequest channel) facts is = tt
fixing_ready (AwaitsResponse channel) facts is = tt
fixing_ready (Scans channel) facts is = tt
fixing_ready (Initiates channel) facts is = tt
fixing_ready (Connects channel link) facts is = tt
fixing_ready (CentralListens handle) facts is = tt
fixing_ready (PeripheralListens handle) facts is = tt
fixing_ready Rests facts is = tt

pub begun_ready : (slot : ℕ) (on : Bool) (facts : Facts)
    → IsReady (outcome_begun slot on facts).facts (outcome_begun slot on facts).next
begun_ready slot on facts =
    let begun = turn_begins slot (facts_ending slot facts) in
    let winner = winner_of (plan_in slot begun) slot in
    let outcome = served on slot winner (facts_entering slot begun) in
    fixing_ready outcome.next outcome.facts (served_ready on slot winner (facts_entering slot begun))

-- ---- after a phase

pub unheard_ready : (doing : Doing) (facts : Facts) → IsReady (unheard doing facts).facts (unheard doing facts).next
unheard_ready (Advertises channel) facts = tt
unheard_ready (Requests channel advertiser) facts = tt
unheard_ready (Connects channel link) facts = tt
unheard_ready (CentralSends handle) facts = tt
unheard_ready (AwaitsRequest channel) facts = tt
unheard_ready (AwaitsResponse channel) facts = tt
unheard_ready (Scans channel) facts = tt
unheard_ready (Initiates channel) facts = tt
unheard_ready (CentralListens handle) facts = tt
unheard_ready (PeripheralListens handle) facts = tt
unheard_ready (PeripheralSends handle) facts = tt
unheard_ready (Responds channel) facts = tt
unheard_ready Rests facts = tt

abbrev IsReadyThen : Outcome → Type 0
IsReadyThen outcome = IsReady outcome.facts outcome.next

answer_ready : (answer : AdvAnswer) (channel : ℕ) (own : Address) (pdu : AdvPdu) (facts : Facts)
    → is_some facts.advertising.on ≡ true
    → IsReadyThen (advertiser_answers answer channel own pdu facts)
answer_ready Ignore channel own pdu facts is = tt
answer_ready Respond channel own pdu facts is = is
answer_ready (Takes fields) channel own pdu facts is =
    subst (λ next. IsReady (advertiser_answers (Takes fields) channel own pdu facts).facts next)
    (sym (taken_next _ own pdu fields facts)) tt

request_ready : (on : Option AdvertiserFacts) (channel : ℕ) (pdu : AdvPdu) (facts : Facts) → facts.advertising.on ≡ on
    → IsReadyThen (advertiser_heard on channel pdu facts)
request_ready None channel pdu facts is = tt
request_ready (Some on) channel pdu facts is =
    answer_ready (advertiser_answer on.params facts.view.accepted pdu) channel on.params.own pdu facts
    (ap (λ (on : Option AdvertiserFacts). is_some on) is)

asks_ready : (asks : Bool) (channel : ℕ) (pdu : AdvPdu) (facts : Facts) → is_some facts.scanning.on ≡ true
    → IsReady facts (asks_if asks channel pdu)
asks_ready true channel pdu facts is = is
asks_ready false channel pdu facts is = tt

scanned_ready : (on : Option ScannerFacts) (channel : ℕ) (pdu : AdvPdu) (facts : Facts)
    → IsReadyThen (scanner_heard on true channel pdu facts)
scanned_ready None channel pdu facts = tt
scanned_ready (Some on) channel pdu facts =
    asks_ready (does_ask (scan_answer on.params facts.view.accepted on.recent pdu)) channel pdu
    (with_scanner (scanner_after on facts.view.accepted pdu) facts) refl

response_ready : (on : Option ScannerFacts) (channel : ℕ) (pdu : AdvPdu) (facts : Facts)
    → IsReadyThen (scanner_heard on false channel pdu facts)
response_ready None channel pdu facts = tt
response_ready (Some on) channel pdu facts = tt

connects_ready : (link : Option LinkSetup) (setup : Setup) (channel : ℕ) (facts : Facts)
    → IsReadyThen (connects link setup channel facts)
connects_ready None setup channel facts = tt
connects_ready (Some link) setup channel facts = tt

sought_ready : (on : Option InitiatorFacts) (setup : Setup) (channel : ℕ) (pdu : AdvPdu) (facts : Facts)
    → IsReadyThen (initiator_heard on setup channel pdu facts)
sought_ready None setup channel pdu facts = tt
sought_ready (Some on) setup channel pdu facts = connects_ready (link_to setup on pdu facts) setup channel facts

pdu_ready : (pdu : Option AdvPdu) (facts : Facts) (outcome : AdvPdu → Outcome)
    → ((one : AdvPdu) → IsReadyThen (outcome one))
    → IsReadyThen (if_pdu pdu facts outcome)
pdu_ready None facts outcome is = tt
pdu_ready (Some pdu) facts outcome is = is pdu

refused_some : (answer : Option EndStep) (handle : ℕ) (links : Links) → is_some (link_at handle links) ≡ true
    → is_some (link_at handle (links_refusing answer handle links)) ≡ true
refused_some None handle links is = is
refused_some (Some step) handle links is = changed_some (link_after step) handle links is

replied_ready : (replies : Bool) (handle : ℕ) (facts : Facts) → is_some (link_at handle facts.links) ≡ true
    → IsReady facts (reply_if replies handle)
replied_ready true handle facts is = is
replied_ready false handle facts is = tt

received_ready : (handle : ℕ) (room : Bool) (octets : List ℕ) (facts : Facts) (place : Option OpenLink)
    → link_at handle facts.links ≡ place
    → IsReady (link_received handle room octets facts)
    (reply_if (replies_in facts.turn.slot room place octets) handle)
received_ready handle room octets facts None at = tt
received_ready handle room octets facts (Some link) at =
    replied_ready (replies_in facts.turn.slot room (Some link) octets) handle (link_received handle room octets facts)
    (refused_some (refusal_in facts.view handle facts.turn.slot room (link_at handle facts.links) octets) handle
    (with_change handle (link_after (PacketReceived facts.turn.slot octets room)) facts.links)
    (changed_some (link_after (PacketReceived facts.turn.slot octets room)) handle facts.links
    (ap (λ (place : Option OpenLink). is_some place) at)))

pub heard_ready : (setup : Setup) (doing : Doing) (octets : List ℕ) (facts : Facts)
    → IsReadyThen (heard setup doing octets facts)
heard_ready setup (AwaitsRequest channel) octets facts =
    pdu_ready (pdu_heard channel octets) facts (λ pdu. advertiser_heard facts.advertising.on channel pdu facts)
    (λ pdu. request_ready facts.advertising.on channel pdu facts refl)
heard_ready setup (Scans channel) octets facts =
    pdu_ready (pdu_heard channel octets) facts (λ pdu. scanner_heard facts.scanning.on true channel pdu facts)
    (λ pdu. scanned_ready facts.scanning.on channel pdu facts)
heard_ready setup (AwaitsResponse channel) octets facts =
    pdu_ready (pdu_heard channel octets) facts (λ pdu. scanner_heard facts.scanning.on false channel pdu facts)
    (λ pdu. response_ready facts.scanning.on channel pdu facts)
heard_ready setup (Initiates channel) octets facts =
    pdu_ready (pdu_heard channel octets) facts (λ pdu. initiator_heard facts.initiator setup channel pdu facts)
    (λ pdu. sought_ready facts.initiator setup channel pdu facts)
heard_ready setup (CentralListens handle) octets facts =
    received_ready handle (has_room setup facts) octets facts (link_at handle facts.links) refl
heard_ready setup (PeripheralListens handle) octets facts =
    let now = facts_with_words setup handle facts in
    received_ready handle (has_room setup now) octets now (link_at handle now.links) refl
heard_ready setup (Advertises channel) octets facts = unheard_ready (Advertises channel) facts
heard_ready setup (Requests channel advertiser) octets facts = unheard_ready (Requests channel advertiser) facts
heard_ready setup (CentralSends handle) octets facts = unheard_ready (CentralSends handle) facts
heard_ready setup (Connects channel link) octets facts = unheard_ready (Connects channel link) facts
heard_ready setup (PeripheralSends handle) octets facts = unheard_ready (PeripheralSends handle) facts
heard_ready setup (Responds channel) octets facts = unheard_ready (Responds channel) facts
heard_ready setup Rests octets facts = unheard_ready Rests facts

-- ---- as it is to do that

pub doing_ready : (doing : Doing) (facts : Facts) → IsReady facts doing → IsReady (facts_doing doing facts) doing
doing_ready (CentralSends handle) facts is =
    changed_some (link_after (PacketSent facts.turn.slot)) handle facts.links is
doing_ready (PeripheralSends handle) facts is =
    changed_some (link_after (PacketSent facts.turn.slot)) handle facts.links is
doing_ready (Advertises channel) facts is = is
doing_ready (Responds channel) facts is = is
doing_ready (Requests channel advertiser) facts is = is
doing_ready (AwaitsRequest channel) facts is = tt
doing_ready (AwaitsResponse channel) facts is = tt
doing_ready (Scans channel) facts is = tt
doing_ready (Initiates channel) facts is = tt
doing_ready (Connects channel link) facts is = tt
doing_ready (CentralListens handle) facts is = tt
doing_ready (PeripheralListens handle) facts is = tt
doing_ready Rests facts is = tt

-- ---- so it sends where it is to send, and nowhere else

mapped_some : {X Y : Type 0} (f : X → Y) (on : Option X) → is_some on ≡ true → is_some (option_map f on) ≡ true
mapped_some f None is = absurd (let h : false ≡ true = is in absurd cc)
mapped_some f (Some on) is = refl

pdu_silent : (channel : ℕ) (pdu : Option AdvPdu) (X : Type 0) → is_some pdu ≡ true
    → packet_in (sends_pdu channel pdu) ≡ [] → X
pdu_silent channel None X is none = absurd (let h : false ≡ true = is in absurd cc)
pdu_silent channel (Some pdu) X is none = absurd cc

link_silent : (place : Option OpenLink) (X : Type 0) → is_some place ≡ true → packet_in (sends_on place) ≡ [] → X
link_silent None X is none = absurd (let h : false ≡ true = is in absurd cc)
link_silent (Some link) X is none = absurd cc

pub silent_rests : (doing : Doing) (facts : Facts) → IsReady facts doing → packet_in (use_for facts doing) ≡ []
    → phase_sending doing ≡ None
silent_rests (Advertises channel) facts is none =
    pdu_silent channel (option_map
    (λ (on : AdvertiserFacts). advertisement on.params facts.advertising.data_octets) facts.advertising.on) _
    (mapped_some (λ (on : AdvertiserFacts). advertisement on.params facts.advertising.data_octets)
    facts.advertising.on is) none
silent_rests (Responds channel) facts is none =
    pdu_silent channel (option_map
    (λ (on : AdvertiserFacts). ScanRsp on.params.own
    (record { items = facts.advertising.response_octets })) facts.advertising.on) _
    (mapped_some (λ (on : AdvertiserFacts). ScanRsp on.params.own
    (record { items = facts.advertising.response_octets })) facts.advertising.on is) none
silent_rests (Requests channel advertiser) facts is none =
    pdu_silent channel (option_map (λ (on : ScannerFacts). ScanReq on.params.own advertiser) facts.scanning.on) _
    (mapped_some (λ (on : ScannerFacts). ScanReq on.params.own advertiser) facts.scanning.on is) none
silent_rests (Connects channel link) facts is none = pdu_silent channel (connect_sent link) _ refl none
silent_rests (CentralSends handle) facts is none = link_silent (link_at handle facts.links) _ is none
silent_rests (PeripheralSends handle) facts is none = link_silent (link_at handle facts.links) _ is none
silent_rests (AwaitsRequest channel) facts is none = refl
silent_rests (AwaitsResponse channel) facts is none = refl
silent_rests (Scans channel) facts is none = refl
silent_rests (Initiates channel) facts is none = refl
silent_rests (CentralListens handle) facts is none = refl
silent_rests (PeripheralListens handle) facts is none = refl
silent_rests Rests facts is none = refl

listens_silent : (place : Option OpenLink) (channel : ℕ) (octets : List ℕ) (X : Type 0)
    → listens_on place ≡ Sends channel octets → X
listens_silent None channel octets X is = absurd (let h : Idle ≡ Sends channel octets = is in absurd cc)
listens_silent (Some link) channel octets X is = absurd cc

pub sends_some : (doing : Doing) (facts : Facts) (channel : ℕ) (octets : List ℕ)
    → use_for facts doing ≡ Sends channel octets
    → is_some (phase_sending doing) ≡ true
sends_some (Advertises own) facts channel octets is = refl
sends_some (Responds own) facts channel octets is = refl
sends_some (Requests own advertiser) facts channel octets is = refl
sends_some (Connects own link) facts channel octets is = refl
sends_some (CentralSends handle) facts channel octets is = refl
sends_some (PeripheralSends handle) facts channel octets is = refl
sends_some (AwaitsRequest own) facts channel octets is =
    absurd (let h : Listens own ≡ Sends channel octets = is in absurd cc)
sends_some (AwaitsResponse own) facts channel octets is =
    absurd (let h : Listens own ≡ Sends channel octets = is in absurd cc)
sends_some (Scans own) facts channel octets is = absurd (let h : Listens own ≡ Sends channel octets = is in absurd cc)
sends_some (Initiates own) facts channel octets is =
    absurd (let h : Listens own ≡ Sends channel octets = is in absurd cc)
sends_some (CentralListens handle) facts channel octets is =
    listens_silent (link_at handle facts.links) channel octets _ is
sends_some (PeripheralListens handle) facts channel octets is =
    listens_silent (link_at handle facts.links) channel octets _ is
sends_some Rests facts channel octets is = absurd (let h : Idle ≡ Sends channel octets = is in absurd cc)
