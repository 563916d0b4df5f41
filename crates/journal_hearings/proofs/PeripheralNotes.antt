-- A controller notes that a link is opened as its peripheral only where it awaits a request and takes the CONNECT_IND that it
-- hears.
use Rattle.std.proofs.Common.{◌≡◌, ℕ, ◌==◌, ◌||◌, Bool, true, false, Option, Some, None, List, [], ◌∷◌, ◌++◌, refl, sym, ap, ◌∙◌}
use Rattle.std.specs.Prelude.{not, if◌then◌else◌}
use Rattle.std.specs.List.{list_any}
use Rattle.std.proofs.lemmas.Bool.{or_parts, or_right}
use Rattle.std.proofs.lemmas.List.Folds.{list_any-append}
use Rattle.ble_base.specs.declared.addresses.Address.{Address}
use Rattle.ble_base.specs.declared.notes.Note.{Note}
use Rattle.ble_base.specs.declared.notes.Note.TheVariants.{Opened}
use Rattle.ble_base.specs.declared.roles.Role.TheVariants.{Central, Peripheral}
use Rattle.adv_pdu.specs.declared.pdu.AdvPdu.{AdvPdu}
use Rattle.adv_pdu.specs.declared.pdu.AdvPdu.TheVariants.{ScanReq, Connect}
use Rattle.adv_pdu.specs.declared.pdu.ConnectFields.{ConnectFields}
use Rattle.advertise.specs.declared.answers.AdvAnswer.TheVariants.{Ignore, Respond, Connect as Takes}
use Rattle.advertise.specs.Advertising.{AdvertiserFacts}
use Rattle.advertise.specs.Answers.{advertiser_answer, is_connect_taken, is_scan_answered}
use Rattle.journal_data.specs.link_model.declared.setup.LinkSetup.{LinkSetup}
use Rattle.scan_init.specs.Initiating.{InitiatorFacts}
use Rattle.scan_init.specs.Reports.{ScannerFacts, scan_answer}
use Rattle.journal_data.specs.open_links.OpenLinks.{has_link_between}
use Rattle.journal_data.specs.controller_model.declared.doing.Doing.{Doing}
use Rattle.journal_data.specs.controller_model.declared.doing.Doing.TheVariants.{Advertises, AwaitsRequest, Scans, Requests, AwaitsResponse, Initiates}
use Rattle.journal_data.specs.controller_model.declared.doing.Doing.TheVariants.{Connects, CentralSends, CentralListens, PeripheralListens}
use Rattle.journal_data.specs.controller_model.Step.{Step, HostOctet, TurnBegins, PacketHeard, NothingHeard, TurnEnds}
use Rattle.journal_data.specs.controller_model.Events.{notes_of_events}
use Rattle.journal_data.specs.controller_model.Facts.{Setup, Facts}
use Rattle.journal_data.specs.controller_model.Heard.{advertiser_answers, advertiser_heard, connects, events_reported, facts_with_words, has_room, heard, if_pdu, initiator_heard}
use Rattle.journal_data.specs.controller_model.Heard.{link_heard, link_to, opens, scanner_heard, taken_if, unheard}
use Rattle.journal_data.specs.controller_model.Links.{events_opened}
use Rattle.journal_data.specs.controller_model.Outcome.{Outcome, notes_passed}
use Rattle.journal_data.specs.controller_model.Packets.{notes_doing, pdu_heard}
use Rattle.journal_data.specs.controller_model.Side.{notes_after}
use Rattle.journal_data.proofs.run_model.Calls.{same_station}
use Rattle.journal_data.proofs.run_model.Doings.{IsWanted}
use Rattle.journal_data.proofs.run_model.OpenedNotes.{doing_open, events_open, hearing_open, is_opened, neither, opens_under, outside_open}
use Rattle.journal_hearings.specs.Openings.{is_peripheral}

-- it takes a CONNECT_IND that it hears
pub record IsTaking (facts : Facts) (octets : List ℕ) : Type 0 where
  pub channel : ℕ
  pub on : AdvertiserFacts
  pub from : Address
  pub to : Address
  pub ch_sel : Bool
  pub fields : ConnectFields
  pub doing : facts.turn.doing ≡ AwaitsRequest channel
  pub is_on : facts.advertising.on ≡ Some on
  pub says : pdu_heard channel octets ≡ Some (Connect from to ch_sel fields)
  pub takes : is_connect_taken on.params facts.view.accepted from to fields ≡ true
  pub new : has_link_between on.params.own from facts.links ≡ false

-- ---- notes of a link as its peripheral

abbrev is_taking : Note → Bool
is_taking (Opened handle role own peer) = is_peripheral role
is_taking other = false

abbrev takes_in : List Note → Bool
takes_in notes = list_any is_taking notes

-- no link is opened by these notes
abbrev OpenNone : List Note → Type 0
OpenNone notes = (handle : ℕ) → is_opened handle notes ≡ false

not_opened : (handle : ℕ) (rest X : Bool) → ((handle == handle) || rest) ≡ false → X ≡ false
not_opened handle rest X none = absurd (let h : true ≡ false = sym (ap (λ b. b || rest) (same_station handle)) ∙ none in cc)

none_taken : (notes : List Note) → OpenNone notes → takes_in notes ≡ false
none_taken [] none = refl
none_taken (Opened handle role own peer ∷ notes) none = not_opened handle (is_opened handle notes) _ (none handle)
none_taken (note ∷ notes) none = none_taken notes (λ handle. (or_parts (opens_under handle note) (is_opened handle notes) (none handle)).1)

passed_none : (outcome : Outcome) → OpenNone outcome.notes → takes_in (notes_passed outcome) ≡ false
passed_none outcome none =
    none_taken (notes_passed outcome)
    (λ handle. neither handle outcome.notes (notes_doing outcome.next outcome.facts) (none handle) (doing_open handle outcome.next outcome.facts))

nothing : OpenNone []
nothing = λ handle. refl

-- ---- where no request is awaited

scanner_none : (scanner : Option ScannerFacts) (may_ask : Bool) (channel : ℕ) (pdu : AdvPdu) (facts : Facts) → OpenNone (scanner_heard scanner may_ask channel pdu facts).notes
scanner_none None may_ask channel pdu facts = nothing
scanner_none (Some on) may_ask channel pdu facts = λ handle. events_open handle facts.view (events_reported (scan_answer on.params facts.view.accepted on.recent pdu) pdu)

scans_none : (found : Option AdvPdu) (may_ask : Bool) (channel : ℕ) (facts : Facts)
    → OpenNone (if_pdu found facts (λ pdu. scanner_heard facts.scanning.on may_ask channel pdu facts)).notes
scans_none None may_ask channel facts = nothing
scans_none (Some pdu) may_ask channel facts = scanner_none facts.scanning.on may_ask channel pdu facts

connects_none : (link : Option LinkSetup) (setup : Setup) (channel : ℕ) (facts : Facts) → OpenNone (connects link setup channel facts).notes
connects_none None setup channel facts = nothing
connects_none (Some link) setup channel facts = nothing

initiator_none : (initiator : Option InitiatorFacts) (setup : Setup) (channel : ℕ) (pdu : AdvPdu) (facts : Facts)
    → OpenNone (initiator_heard initiator setup channel pdu facts).notes
initiator_none None setup channel pdu facts = nothing
initiator_none (Some on) setup channel pdu facts = connects_none (link_to setup on pdu facts) setup channel facts

initiates_none : (found : Option AdvPdu) (setup : Setup) (channel : ℕ) (facts : Facts)
    → OpenNone (if_pdu found facts (λ pdu. initiator_heard facts.initiator setup channel pdu facts)).notes
initiates_none None setup channel facts = nothing
initiates_none (Some pdu) setup channel facts = initiator_none facts.initiator setup channel pdu facts

link_none : (setup : Setup) (handle : ℕ) (octets : List ℕ) (facts : Facts) → OpenNone (link_heard setup handle octets facts).notes
link_none setup handle octets facts = λ other. hearing_open other (has_room setup facts) handle octets facts

-- an initiator opens its link as the central
central_none : (link : LinkSetup) (facts : Facts) → link.role ≡ Central → takes_in (notes_passed (opens link facts)) ≡ false
central_none link facts role =
    let rest = notes_of_events facts.view (events_opened facts.view link) ++ [] in
    ap (λ r. is_peripheral r || takes_in rest) role
    ∙ none_taken rest (λ handle. neither handle (notes_of_events facts.view (events_opened facts.view link)) [] (events_open handle facts.view (events_opened facts.view link)) refl)

unheard_none : (doing : Doing) (facts : Facts) → IsWanted doing facts.wanted → takes_in (notes_passed (unheard doing facts)) ≡ false
unheard_none (Advertises channel) facts wants = passed_none (unheard (Advertises channel) facts) nothing
unheard_none (Requests channel advertiser) facts wants = passed_none (unheard (Requests channel advertiser) facts) nothing
unheard_none (Connects channel link) facts wants = central_none link facts wants.1
unheard_none (CentralSends handle) facts wants = passed_none (unheard (CentralSends handle) facts) nothing
unheard_none other facts wants = refl

-- ---- where one is awaited

none_takes : (notes : List Note) (X : Type 0) → takes_in notes ≡ false → takes_in notes ≡ true → X
none_takes notes X none is = absurd (let h : true ≡ false = sym is ∙ none in cc)

module _ (facts : Facts) (octets : List ℕ) (channel : ℕ) (doing : facts.turn.doing ≡ AwaitsRequest channel) where
  new_takes : (new : Bool) (own : Address) (pdu : AdvPdu) (fields : ConnectFields) → takes_in (notes_passed (taken_if (not new) own pdu fields facts)) ≡ true → new ≡ false
  new_takes true own pdu fields is = absurd cc
  new_takes false own pdu fields is = refl

  connect_takes : (on : AdvertiserFacts) (from to : Address) (ch_sel : Bool) (fields : ConnectFields) (taken : Bool) → facts.advertising.on ≡ Some on
      → pdu_heard channel octets ≡ Some (Connect from to ch_sel fields) → is_connect_taken on.params facts.view.accepted from to fields ≡ taken
      → takes_in (notes_passed (advertiser_answers (if taken then Takes fields else Ignore) channel on.params.own (Connect from to ch_sel fields) facts)) ≡ true
      → IsTaking facts octets
  connect_takes on from to ch_sel fields false is_on says answers is = absurd cc
  connect_takes on from to ch_sel fields true is_on says answers is = record {
    channel = channel;
    on = on;
    from = from;
    to = to;
    ch_sel = ch_sel;
    fields = fields;
    doing = doing;
    is_on = is_on;
    says = says;
    takes = answers;
    new = new_takes (has_link_between on.params.own from facts.links) on.params.own (Connect from to ch_sel fields) fields is;
  }

  scan_takes : (on : AdvertiserFacts) (pdu : AdvPdu) (answered : Bool) (X : Type 0)
      → takes_in (notes_passed (advertiser_answers (if answered then Respond else Ignore) channel on.params.own pdu facts)) ≡ true → X
  scan_takes on pdu true X is = absurd cc
  scan_takes on pdu false X is = absurd cc

  pdu_takes : (on : AdvertiserFacts) (pdu : AdvPdu) → facts.advertising.on ≡ Some on → pdu_heard channel octets ≡ Some pdu
      → takes_in (notes_passed (advertiser_answers (advertiser_answer on.params facts.view.accepted pdu) channel on.params.own pdu facts)) ≡ true → IsTaking facts octets
  pdu_takes on (Connect from to ch_sel fields) is_on says is =
      connect_takes on from to ch_sel fields (is_connect_taken on.params facts.view.accepted from to fields) is_on says refl is
  pdu_takes on (ScanReq from to) is_on says is = scan_takes on (ScanReq from to) (is_scan_answered on.params facts.view.accepted from to) _ is
  pdu_takes on other is_on says is = absurd cc

  advertiser_takes : (advertiser : Option AdvertiserFacts) (pdu : AdvPdu) → facts.advertising.on ≡ advertiser → pdu_heard channel octets ≡ Some pdu
      → takes_in (notes_passed (advertiser_heard advertiser channel pdu facts)) ≡ true → IsTaking facts octets
  advertiser_takes None pdu is_on says is = absurd cc
  advertiser_takes (Some on) pdu is_on says is = pdu_takes on pdu is_on says is

  found_takes : (found : Option AdvPdu) → pdu_heard channel octets ≡ found
      → takes_in (notes_passed (if_pdu found facts (λ pdu. advertiser_heard facts.advertising.on channel pdu facts))) ≡ true → IsTaking facts octets
  found_takes None says is = absurd cc
  found_takes (Some pdu) says is = advertiser_takes facts.advertising.on pdu refl says is

-- ---- a step

passed_takes : (outcome : Outcome) (X : Type 0) → OpenNone outcome.notes → takes_in (notes_passed outcome) ≡ true → X
passed_takes outcome X none is = none_takes (notes_passed outcome) X (passed_none outcome none) is

heard_takes : (setup : Setup) (facts : Facts) (octets : List ℕ) (doing : Doing) → facts.turn.doing ≡ doing → IsWanted doing facts.wanted
    → takes_in (notes_passed (heard setup doing octets facts)) ≡ true → IsTaking facts octets
heard_takes setup facts octets (AwaitsRequest channel) does wants is = found_takes facts octets channel does (pdu_heard channel octets) refl is
heard_takes setup facts octets (Scans channel) does wants is =
    passed_takes (heard setup (Scans channel) octets facts) _ (scans_none (pdu_heard channel octets) true channel facts) is
heard_takes setup facts octets (AwaitsResponse channel) does wants is =
    passed_takes (heard setup (AwaitsResponse channel) octets facts) _ (scans_none (pdu_heard channel octets) false channel facts) is
heard_takes setup facts octets (Initiates channel) does wants is =
    passed_takes (heard setup (Initiates channel) octets facts) _ (initiates_none (pdu_heard channel octets) setup channel facts) is
heard_takes setup facts octets (CentralListens handle) does wants is =
    passed_takes (heard setup (CentralListens handle) octets facts) _ (link_none setup handle octets facts) is
heard_takes setup facts octets (PeripheralListens handle) does wants is =
    passed_takes (heard setup (PeripheralListens handle) octets facts) _ (link_none setup handle octets (facts_with_words setup handle facts)) is
heard_takes setup facts octets (Advertises channel) does wants is =
    none_takes (notes_passed (unheard (Advertises channel) facts)) _ (unheard_none (Advertises channel) facts wants) is
heard_takes setup facts octets doing does wants is = none_takes (notes_passed (unheard doing facts)) _ (unheard_none doing facts wants) is

pub record IsHearing (facts : Facts) (step : Step) : Type 0 where
  pub octets : List ℕ
  pub is : step ≡ PacketHeard octets
  pub taking : IsTaking facts octets

outside_takes : (setup : Setup) (facts : Facts) (step : Step) (X : Type 0) → OpenNone (notes_after setup facts step) → takes_in (notes_after setup facts step) ≡ true → X
outside_takes setup facts step X none is = none_takes (notes_after setup facts step) X (none_taken (notes_after setup facts step) none) is

step_takes : (setup : Setup) (facts : Facts) (step : Step) → IsWanted facts.turn.doing facts.wanted → takes_in (notes_after setup facts step) ≡ true → IsHearing facts step
step_takes setup facts (HostOctet octet) wants is =
    outside_takes setup facts (HostOctet octet) _ (λ handle. outside_open handle setup facts (HostOctet octet) refl) is
step_takes setup facts (TurnBegins slot on) wants is =
    outside_takes setup facts (TurnBegins slot on) _ (λ handle. outside_open handle setup facts (TurnBegins slot on) refl) is
step_takes setup facts (PacketHeard octets) wants is =
    record { octets = octets; is = refl; taking = heard_takes setup facts octets facts.turn.doing refl wants is }
step_takes setup facts NothingHeard wants is = none_takes (notes_after setup facts NothingHeard) _ (unheard_none facts.turn.doing facts wants) is
step_takes setup facts TurnEnds wants is = outside_takes setup facts TurnEnds _ (λ handle. outside_open handle setup facts TurnEnds refl) is

pub peripheral_noted : (setup : Setup) (facts : Facts) (step : Step) (handle : ℕ) (own peer : Address) (earlier later : List Note) → IsWanted facts.turn.doing facts.wanted
    → notes_after setup facts step ≡ earlier ++ Opened handle Peripheral own peer ∷ later → IsHearing facts step
peripheral_noted setup facts step handle own peer earlier later wants is =
    let rest = Opened handle Peripheral own peer ∷ later in
    step_takes setup facts step wants
    (ap takes_in is ∙ list_any-append is_taking earlier rest ∙ or_right (takes_in earlier) (takes_in rest) refl)
