-- The links of a controller after a step, and the slot of its turn.
use Rattle.std.proofs.Common.{◌≡◌, ℕ, zero, suc, ◌+◌, ◌==◌, Bool, true, false, Option, Some, None, List, [], ◌∷◌, replicate, refl, sym, ap, subst, ◌∙◌}
use Rattle.std.specs.Prelude.{⊤, nat_lt, if◌then◌else◌}
use Rattle.std.specs.Option.{option_map}
use Rattle.ble_base.specs.declared.addresses.Address.{Address}
use Rattle.adv_pdu.specs.declared.pdu.AdvPdu.{AdvPdu}
use Rattle.adv_pdu.specs.declared.pdu.ConnectFields.{ConnectFields}
use Rattle.adv_pdu.specs.Pdu.{sender_of}
use Rattle.advertise.specs.declared.answers.AdvAnswer.{AdvAnswer}
use Rattle.advertise.specs.declared.answers.AdvAnswer.TheVariants.{Ignore, Respond, Connect as Takes}
use Rattle.advertise.specs.Advertising.{AdvertiserFacts}
use Rattle.advertise.specs.Answers.{advertiser_answer}
use Rattle.h4_frames.specs.declared.packet.HostPacket.TheVariants.{Command as HostCommand, Acl}
use Rattle.h4_frames.specs.declared.packet.Fed.{Fed}
use Rattle.h4_frames.specs.declared.packet.Fed.TheVariants.{More, Packet, LostSync}
use Rattle.hci_cmd.specs.declared.command.Command.{Command}
use Rattle.hci_cmd.specs.declared.command.Command.TheVariants.{Reset}
use Rattle.hci_cmd.specs.declared.command.CmdRead.{CmdRead}
use Rattle.hci_cmd.specs.declared.command.CmdRead.TheVariants.{Known, UnknownOpcode, BadLength}
use Rattle.hci_cmd.specs.Command.{command_of}
use Rattle.host_view.specs.Status.{status_of}
use Rattle.controller_model.specs.link_model.Setup.{Setup as EndSetup}
use Rattle.controller_model.specs.link_model.Step.{Step as EndStep, DataGiven, PduFixed, PacketSent, PacketReceived, DataReported, WordsGiven}
use Rattle.controller_model.specs.link_model.declared.setup.LinkSetup.{LinkSetup}
use Rattle.scan_init.specs.Initiating.{InitiatorFacts}
use Rattle.scan_init.specs.Reports.{ScannerFacts}
use Rattle.slot_plan.specs.declared.Activity.{Activity}
use Rattle.slot_plan.specs.declared.Activity.TheVariants.{Link, Advertise, Scan, Initiate}
use Rattle.slot_plan.specs.Holding.{is_held_in, winner_of}
use Rattle.controller_model.specs.open_links.Data.{complete_in, links_reported}
use Rattle.controller_model.specs.open_links.OpenLinks.{Links, OpenLink, free_from, link_after, link_at, link_from, link_served, with_change, with_change_from, with_link, without_links}
use Rattle.controller_model.specs.open_links.Turns.{due_in, ending_in, links_without, staying_by}
use Rattle.controller_model.proofs.open_links.Unmoved.{entered_setup}
use Rattle.controller_model.specs.declared.doing.Doing.{Doing}
use Rattle.controller_model.specs.declared.doing.Doing.TheVariants.{Advertises, AwaitsRequest, Scans, Requests, AwaitsResponse, Initiates, Connects, CentralSends, CentralListens, PeripheralListens, PeripheralSends}
use Rattle.controller_model.specs.Step.{Step, HostOctet, TurnBegins, PacketHeard, NothingHeard, TurnEnds}
use Rattle.controller_model.specs.Facts.{Setup, Facts}
use Rattle.controller_model.specs.Commands.{facts_asking, facts_commanded, facts_known, is_asking, links_after, moment_of}
use Rattle.controller_model.specs.link_commands.Commands.{is_about}
use Rattle.controller_model.specs.link_commands.declared.moments.Moment.{Moment}
use Rattle.controller_model.specs.link_commands.LinksCommanded.{links_commanded_from}
use Rattle.controller_model.specs.open_links.declared.offers.Offer.{Offer}
use Rattle.controller_model.specs.open_links.declared.offers.Offer.TheVariants.{NoLink, Empty, Overflow, Kept}
use Rattle.controller_model.specs.Data.{facts_ended_turn, facts_handed, facts_offered, offer_of}
use Rattle.controller_model.specs.Heard.{advertiser_answers, advertiser_heard, connects, has_room, heard, if_pdu, initiator_heard, is_new_between, link_heard, link_taken, link_to, links_refusing, opens, scanner_heard, taken_if, taken_under, unheard, facts_with_words}
use Rattle.controller_model.specs.Links.{facts_ending}
use Rattle.controller_model.specs.Outcome.{Outcome, facts_passed}
use Rattle.controller_model.specs.Packets.{links_sending, pdu_heard}
use Rattle.controller_model.specs.Radio.{facts_entering, links_fixing, outcome_begun, plan_in, served, radio_served, turn_begins, winner_served}
use Rattle.controller_model.specs.Side.{facts_after, facts_fed, result_of}
use Rattle.controller_model.proofs.Asked.{place_asked}
use Rattle.controller_model.proofs.Always.{ending_is, leaving_is, links_won, opening_is, winning_is}
use Rattle.controller_model.proofs.LinkNotes.{AreIn, first_in, rest_in}
use Rattle.controller_model.proofs.Phases.{EachOutcome, heard_is, unheard_is}
use Rattle.run_model.specs.OnAir.{ends_phase}
use Rattle.run_model.specs.Run.{step_of}
use Rattle.controller_model.specs.Entering.{all_entered}

-- ---- a fact of what each link was set up with

abbrev AtPlace : (EndSetup → Type 0) → Option OpenLink → Type 0
AtPlace P None = ⊤
AtPlace P (Some link) = P link.setup

abbrev pub EachLink : (EndSetup → Type 0) → Links → Type 0
EachLink P [] = ⊤
EachLink P (place ∷ links) = AtPlace P place × EachLink P links

pub link_has : (P : EndSetup → Type 0) (first handle : ℕ) (links : Links) (link : OpenLink) → EachLink P links → link_from first handle links ≡ Some link → P link.setup
link_has P first handle [] link each is = absurd cc
link_has P first handle (place ∷ links) link each is = at (first == handle) is (link_has P (first + 1) handle links link each.1)
  where
    here : (one : Option OpenLink) → AtPlace P one → one ≡ Some link → P link.setup
    here None has same = absurd cc
    here (Some other) has same = let equal : other ≡ link = cc in subst (λ may. P may.setup) equal has

    at : (test : Bool) → (if test then place else link_from (first + 1) handle links) ≡ Some link
        → (link_from (first + 1) handle links ≡ Some link → P link.setup) → P link.setup
    at true found rest = here place each.0 found
    at false found rest = rest found

pub each_more : (P Q : EndSetup → Type 0) (links : Links) → ((end : EndSetup) → P end → Q end) → EachLink P links → EachLink Q links
each_more P Q [] more each = tt
each_more P Q (None ∷ links) more each = (tt, each_more P Q links more each.1)
each_more P Q (Some link ∷ links) more each = (more link.setup each.0, each_more P Q links more each.1)

-- a fact of each link under its handle
pub each_in : (P : EndSetup → Type 0) (whole links : Links) (first : ℕ) → AreIn whole first links
    → ((handle : ℕ) (link : OpenLink) → link_at handle whole ≡ Some link → P link.setup) → EachLink P links
each_in P whole [] first are has = tt
each_in P whole (None ∷ links) first are has = (tt, each_in P whole links (first + 1) (rest_in whole first None links are) has)
each_in P whole (Some link ∷ links) first are has =
    (has first link (first_in whole first link links are), each_in P whole links (first + 1) (rest_in whole first (Some link) links are) has)

pub none_linked : (P : EndSetup → Type 0) (many : ℕ) → EachLink P (replicate many None)
none_linked P zero = tt
none_linked P (suc many) = (tt, none_linked P many)

module _ (P : EndSetup → Type 0) where
  changed_from : (first handle : ℕ) (change : Option OpenLink → Option OpenLink) (links : Links)
      → ((place : Option OpenLink) → AtPlace P place → AtPlace P (change place)) → EachLink P links → EachLink P (with_change_from first handle change links)
  changed_from first handle change [] keeps each = tt
  changed_from first handle change (place ∷ links) keeps each = at (first == handle) (changed_from (first + 1) handle change links keeps each.1)
    where
      at : (test : Bool) → EachLink P (with_change_from (first + 1) handle change links)
          → EachLink P (if test then change place ∷ links else place ∷ with_change_from (first + 1) handle change links)
      at true rest = (keeps place each.0, each.1)
      at false rest = (each.0, rest)

  changed : (handle : ℕ) (change : OpenLink → OpenLink) (links : Links) → ((link : OpenLink) → (change link).setup ≡ link.setup)
      → EachLink P links → EachLink P (with_change handle change links)
  changed handle change links same each = changed_from 0 handle (option_map change) links keeps each
    where
      keeps : (place : Option OpenLink) → AtPlace P place → AtPlace P (option_map change place)
      keeps None has = tt
      keeps (Some link) has = subst P (sym (same link)) has

  opened : (end : EndSetup) (links : Links) → P end → EachLink P links → EachLink P (with_link end links)
  opened end links has each = changed_from 0 end.link.handle _ links (λ place before. has) each

  stays : (reason : OpenLink → Option ℕ) (links : Links) → EachLink P links → EachLink P (links_without reason links)
  stays reason [] each = tt
  stays reason (None ∷ links) each = (tt, stays reason links each.1)
  stays reason (Some link ∷ links) each = (by (reason link), stays reason links each.1)
    where
      by : (why : Option ℕ) → AtPlace P (staying_by why link)
      by None = each.0
      by (Some code) = tt

  enters : (slot : ℕ) (links : Links) → EachLink P links → EachLink P (all_entered slot links)
  enters slot [] each = tt
  enters slot (None ∷ links) each = (tt, enters slot links each.1)
  enters slot (Some link ∷ links) each = (subst P (sym (entered_setup slot link)) each.0, enters slot links each.1)

  fixes : (doing : Doing) (links : Links) → EachLink P links → EachLink P (links_fixing doing links)
  fixes (CentralSends handle) links each = changed handle (link_after PduFixed) links (λ link. refl) each
  fixes (PeripheralListens handle) links each = changed handle (link_after PduFixed) links (λ link. refl) each
  fixes (Advertises channel) links each = each
  fixes other links each = each

  reports : (links : Links) → EachLink P links → EachLink P (links_reported links)
  reports [] each = tt
  reports (None ∷ links) each = (tt, reports links each.1)
  reports (Some link ∷ links) each = (by (nat_lt 0 (complete_in link)), reports links each.1)
    where
      by : (complete : Bool) → P (if complete then link_after DataReported link else link).setup
      by true = each.0
      by false = each.0

  refuses : (refusal : Option EndStep) (handle : ℕ) (links : Links) → EachLink P links → EachLink P (links_refusing refusal handle links)
  refuses (Some step) handle links each = changed handle (link_after step) links (λ link. refl) each
  refuses None handle links each = each

  pub resets : (links : Links) → EachLink P (without_links links)
  resets [] = tt
  resets (place ∷ links) = (tt, resets links)

  wins : (slot : ℕ) (activity : Activity) (links : Links) → EachLink P links → EachLink P (links_won slot activity links)
  wins slot (Link handle) links each = changed handle (link_served slot) links (λ link. refl) each
  wins slot Advertise links each = each
  wins slot Scan links each = each
  wins slot Initiate links each = each

  sends : (slot : ℕ) (doing : Doing) (links : Links) → EachLink P links → EachLink P (links_sending slot doing links)
  sends slot (CentralSends handle) links each = changed handle (link_after (PacketSent slot)) links (λ link. refl) each
  sends slot (PeripheralSends handle) links each = changed handle (link_after (PacketSent slot)) links (λ link. refl) each
  sends slot (Advertises channel) links each = each
  sends slot other links each = each

  -- ---- an octet of the host

  command_linked : (command : Command) (links : Links) → EachLink P links → EachLink P (links_after command links)
  command_linked Reset links each = resets links
  command_linked other links each = each

  known_linked : (accepted : Bool) (setup : Setup) (facts : Facts) (command : Command) → EachLink P facts.links
      → EachLink P (facts_known accepted setup facts command).links
  known_linked true setup facts command each = command_linked command facts.links each
  known_linked false setup facts command each = each

  -- a step that it makes changes no setup
  pub places_linked : (command : Command) (moment : Moment) (first : ℕ) (links : Links) → EachLink P links → EachLink P (links_commanded_from first command moment links)
  places_linked command moment first [] each = tt
  places_linked command moment first (place ∷ links) each = (
    place_asked (AtPlace P) command moment (is_about first command) place each.0 (λ link step is asked asks. subst (AtPlace P) is each.0),
    places_linked command moment (first + 1) links each.1,
  )

  asking_linked : (asks : Bool) (setup : Setup) (facts : Facts) (command : Command) (after : Facts) → EachLink P facts.links → EachLink P after.links
      → EachLink P (facts_asking asks setup facts command after).links
  asking_linked true setup facts command after each known = places_linked command (moment_of setup facts) 0 facts.links each
  asking_linked false setup facts command after each known = known

  read_linked : (setup : Setup) (facts : Facts) (read : CmdRead) → EachLink P facts.links → EachLink P (facts_commanded setup facts read).links
  read_linked setup facts (Known command) each =
      asking_linked (is_asking facts.view command) setup facts command (facts_known (status_of facts.view command == 0) setup facts command) each
      (known_linked (status_of facts.view command == 0) setup facts command each)
  read_linked setup facts UnknownOpcode each = each
  read_linked setup facts BadLength each = each

  pub offered_linked : (offer : Offer) (handle : ℕ) (start : Bool) (octets : List ℕ) (facts : Facts) → EachLink P facts.links
      → EachLink P (facts_offered offer handle start octets facts).links
  offered_linked Kept handle start octets facts each = changed handle (link_after (DataGiven start octets)) facts.links (λ link. refl) each
  offered_linked NoLink handle start octets facts each = each
  offered_linked Empty handle start octets facts each = each
  offered_linked Overflow handle start octets facts each = each

  fed_linked : (setup : Setup) (facts : Facts) (fed : Fed) → EachLink P facts.links → EachLink P (facts_fed setup facts fed).links
  fed_linked setup facts (Packet (HostCommand opcode body)) each = read_linked setup facts (command_of opcode body.items) each
  fed_linked setup facts (Packet (Acl handle start count body)) each =
      offered_linked (offer_of setup facts handle count) handle start body.items facts each
  fed_linked setup facts LostSync each = each
  fed_linked setup facts More each = each

  -- ---- a turn begins

  won_linked : (slot : ℕ) (winner : Option Activity) (facts : Facts) → EachLink P facts.links → EachLink P (winner_served slot winner facts).facts.links
  won_linked slot None facts each = each
  won_linked slot (Some activity) facts each =
      subst (λ won. EachLink P won.links) (sym (winning_is slot activity facts)) (wins slot activity facts.links each)

  radio_linked : (held : Bool) (slot : ℕ) (winner : Option Activity) (facts : Facts) → EachLink P facts.links → EachLink P (radio_served held slot winner facts).facts.links
  radio_linked true slot winner facts each = each
  radio_linked false slot winner facts each = won_linked slot winner facts each

  served_linked : (on : Bool) (slot : ℕ) (winner : Option Activity) (facts : Facts) → EachLink P facts.links → EachLink P (served on slot winner facts).facts.links
  served_linked false slot winner facts each = each
  served_linked true slot winner facts each = radio_linked (is_held_in facts.radio.hold slot) slot winner facts each

  ended_linked : (slot : ℕ) (facts : Facts) → EachLink P facts.links → EachLink P (facts_ending slot facts).links
  ended_linked slot facts each = subst (λ ended. EachLink P ended.links) (sym (ending_is slot facts)) (stays (due_in slot) facts.links each)

  begun_linked : (slot : ℕ) (on : Bool) (facts : Facts) → EachLink P facts.links → EachLink P (outcome_begun slot on facts).facts.links
  begun_linked slot on facts each =
      let begun = turn_begins slot (facts_ending slot facts) in
      let winner = winner_of (plan_in slot begun) slot in
      let outcome = served on slot winner (facts_entering slot begun) in
      fixes outcome.next outcome.facts.links
      (served_linked on slot winner (facts_entering slot begun) (enters slot begun.links (ended_linked slot facts each)))

  -- ---- a phase

  -- what a link was set up with that is opened in a step
  pub record MayOpen (facts : Facts) (step : Step) : Type 0 where
    pub made : (channel : ℕ) (link : LinkSetup) → ends_phase step ≡ true → facts.turn.doing ≡ Connects channel link
        → P (record { link = link; opened = facts.turn.slot })
    pub taken : (channel : ℕ) (octets : List ℕ) (on : AdvertiserFacts) (pdu : AdvPdu) (fields : ConnectFields) (handle : ℕ)
        → step ≡ PacketHeard octets → facts.turn.doing ≡ AwaitsRequest channel → pdu_heard channel octets ≡ Some pdu
        → advertiser_answer on.params facts.view.accepted pdu ≡ Takes fields
        → P (record { link = link_taken facts.view on.params.own pdu fields handle; opened = facts.turn.slot })

  -- the same with all that the step says of a link that is taken: by the advertiser that is on, from a device with which
  -- there is no link yet, and under a free handle
  pub record MayOpenNew (facts : Facts) (step : Step) : Type 0 where
    pub made : (channel : ℕ) (link : LinkSetup) → ends_phase step ≡ true → facts.turn.doing ≡ Connects channel link
        → P (record { link = link; opened = facts.turn.slot })
    pub taken : (channel : ℕ) (octets : List ℕ) (on : AdvertiserFacts) (pdu : AdvPdu) (fields : ConnectFields) (handle : ℕ)
        → step ≡ PacketHeard octets → facts.turn.doing ≡ AwaitsRequest channel → pdu_heard channel octets ≡ Some pdu
        → facts.advertising.on ≡ Some on → advertiser_answer on.params facts.view.accepted pdu ≡ Takes fields
        → is_new_between on.params.own (sender_of pdu) facts.links ≡ true → free_from 0 facts.links ≡ Some handle
        → P (record { link = link_taken facts.view on.params.own pdu fields handle; opened = facts.turn.slot })

  opens_linked : (link : LinkSetup) (facts : Facts) → P (record { link = link; opened = facts.turn.slot }) → EachLink P facts.links → EachLink P (opens link facts).facts.links
  opens_linked link facts has each =
      subst (λ may. EachLink P may.links) (sym (opening_is link facts)) (opened (record { link = link; opened = facts.turn.slot }) facts.links has each)

  unheard_linked : (facts : Facts) (doing : Doing) → ((channel : ℕ) (link : LinkSetup) → doing ≡ Connects channel link → P (record { link = link; opened = facts.turn.slot }))
      → EachLink P facts.links → EachLink P (unheard doing facts).facts.links
  unheard_linked facts (Advertises channel) made each = each
  unheard_linked facts (Requests channel advertiser) made each = each
  unheard_linked facts (Connects channel link) made each = opens_linked link facts (made channel link refl) each
  unheard_linked facts (CentralSends handle) made each = each
  unheard_linked facts other made each = each

  under_linked : (free : Option ℕ) (own : Address) (pdu : AdvPdu) (fields : ConnectFields) (facts : Facts)
      → ((handle : ℕ) → free ≡ Some handle → P (record { link = link_taken facts.view own pdu fields handle; opened = facts.turn.slot })) → EachLink P facts.links
      → EachLink P (taken_under free own pdu fields facts).facts.links
  under_linked None own pdu fields facts has each = each
  under_linked (Some handle) own pdu fields facts has each = opens_linked (link_taken facts.view own pdu fields handle) facts (has handle refl) each

  if_linked : (new : Bool) (own : Address) (pdu : AdvPdu) (fields : ConnectFields) (facts : Facts)
      → (new ≡ true → (handle : ℕ) → free_from 0 facts.links ≡ Some handle → P (record { link = link_taken facts.view own pdu fields handle; opened = facts.turn.slot }))
      → EachLink P facts.links → EachLink P (taken_if new own pdu fields facts).facts.links
  if_linked false own pdu fields facts has each = each
  if_linked true own pdu fields facts has each = under_linked (free_from 0 facts.links) own pdu fields facts (has refl) each

  answers_linked : (answer : AdvAnswer) (channel : ℕ) (own : Address) (pdu : AdvPdu) (facts : Facts)
      → ((fields : ConnectFields) (handle : ℕ) → answer ≡ Takes fields → is_new_between own (sender_of pdu) facts.links ≡ true
      → free_from 0 facts.links ≡ Some handle → P (record { link = link_taken facts.view own pdu fields handle; opened = facts.turn.slot }))
      → EachLink P facts.links → EachLink P (advertiser_answers answer channel own pdu facts).facts.links
  answers_linked Ignore channel own pdu facts has each = each
  answers_linked Respond channel own pdu facts has each = each
  answers_linked (Takes fields) channel own pdu facts has each =
      if_linked (is_new_between own (sender_of pdu) facts.links) own pdu fields facts (λ new handle free. has fields handle refl new free) each

  advertiser_linked : (on : Option AdvertiserFacts) (channel : ℕ) (pdu : AdvPdu) (facts : Facts)
      → ((one : AdvertiserFacts) (fields : ConnectFields) (handle : ℕ) → on ≡ Some one → advertiser_answer one.params facts.view.accepted pdu ≡ Takes fields
      → is_new_between one.params.own (sender_of pdu) facts.links ≡ true → free_from 0 facts.links ≡ Some handle
      → P (record { link = link_taken facts.view one.params.own pdu fields handle; opened = facts.turn.slot }))
      → EachLink P facts.links → EachLink P (advertiser_heard on channel pdu facts).facts.links
  advertiser_linked None channel pdu facts has each = each
  advertiser_linked (Some on) channel pdu facts has each =
      answers_linked (advertiser_answer on.params facts.view.accepted pdu) channel on.params.own pdu facts
      (λ fields handle is new free. has on fields handle refl is new free) each

  scanner_linked : (on : Option ScannerFacts) (may_ask : Bool) (channel : ℕ) (pdu : AdvPdu) (facts : Facts) → EachLink P facts.links
      → EachLink P (scanner_heard on may_ask channel pdu facts).facts.links
  scanner_linked None may_ask channel pdu facts each = each
  scanner_linked (Some on) may_ask channel pdu facts each = each

  connects_linked : (link : Option LinkSetup) (setup : Setup) (channel : ℕ) (facts : Facts) → EachLink P facts.links → EachLink P (connects link setup channel facts).facts.links
  connects_linked None setup channel facts each = each
  connects_linked (Some link) setup channel facts each = each

  initiator_linked : (on : Option InitiatorFacts) (setup : Setup) (channel : ℕ) (pdu : AdvPdu) (facts : Facts) → EachLink P facts.links
      → EachLink P (initiator_heard on setup channel pdu facts).facts.links
  initiator_linked None setup channel pdu facts each = each
  initiator_linked (Some on) setup channel pdu facts each = connects_linked (link_to setup on pdu facts) setup channel facts each

  pdu_linked : (found : Option AdvPdu) (facts : Facts) (outcome : AdvPdu → Outcome) → EachLink P facts.links
      → ((pdu : AdvPdu) → found ≡ Some pdu → EachLink P (outcome pdu).facts.links) → EachLink P (if_pdu found facts outcome).facts.links
  pdu_linked None facts outcome each some = each
  pdu_linked (Some pdu) facts outcome each some = some pdu refl

  received_linked : (setup : Setup) (handle : ℕ) (octets : List ℕ) (facts : Facts) → EachLink P facts.links
      → EachLink P (link_heard setup handle octets facts).facts.links
  received_linked setup handle octets facts each =
      let step = PacketReceived facts.turn.slot octets (has_room setup facts) in
      refuses _ handle (with_change handle (link_after step) facts.links) (changed handle (link_after step) facts.links (λ link. refl) each)

  heard_linked : (setup : Setup) (facts : Facts) (octets : List ℕ) (doing : Doing) → facts.turn.doing ≡ doing → MayOpenNew facts (PacketHeard octets)
      → EachLink P facts.links → EachLink P (heard setup doing octets facts).facts.links
  heard_linked setup facts octets (AwaitsRequest channel) is may each =
      pdu_linked (pdu_heard channel octets) facts _ each (λ pdu found. advertiser_linked facts.advertising.on channel pdu facts
      (λ on fields handle is_on takes new free. may.taken channel octets on pdu fields handle refl is found is_on takes new free) each)
  heard_linked setup facts octets (Scans channel) is may each =
      pdu_linked (pdu_heard channel octets) facts _ each (λ pdu found. scanner_linked facts.scanning.on true channel pdu facts each)
  heard_linked setup facts octets (AwaitsResponse channel) is may each =
      pdu_linked (pdu_heard channel octets) facts _ each (λ pdu found. scanner_linked facts.scanning.on false channel pdu facts each)
  heard_linked setup facts octets (Initiates channel) is may each =
      pdu_linked (pdu_heard channel octets) facts _ each (λ pdu found. initiator_linked facts.initiator setup channel pdu facts each)
  heard_linked setup facts octets (CentralListens handle) is may each = received_linked setup handle octets facts each
  heard_linked setup facts octets (PeripheralListens handle) is may each =
      let worded = facts_with_words setup handle facts in
      received_linked setup handle octets worded (changed handle (link_after (WordsGiven _ _)) facts.links (λ link. refl) each)
  heard_linked setup facts octets doing is may each =
      unheard_linked facts doing (λ channel link same. may.made channel link refl (is ∙ same)) each

  -- ---- a step

  left_linked : (facts : Facts) → EachLink P facts.links → EachLink P (facts_ended_turn facts).links
  left_linked facts each =
      subst (λ left. EachLink P left.links) (sym (leaving_is (facts_handed facts)))
      (stays ending_in (links_reported facts.links) (reports facts.links each))

  passed_linked : (outcome : Outcome) → EachLink P outcome.facts.links → EachLink P (facts_passed outcome).links
  passed_linked outcome each = sends outcome.facts.turn.slot outcome.next outcome.facts.links each

  pub step_opens : (setup : Setup) (facts : Facts) (step : Step) → MayOpenNew facts step → EachLink P facts.links → EachLink P (facts_after setup facts step).links
  step_opens setup facts (HostOctet octet) may each = fed_linked setup facts (result_of facts.octets octet) each
  step_opens setup facts (TurnBegins slot on) may each = passed_linked (outcome_begun slot on facts) (begun_linked slot on facts each)
  step_opens setup facts (PacketHeard octets) may each =
      passed_linked (heard setup facts.turn.doing octets facts) (heard_linked setup facts octets facts.turn.doing refl may each)
  step_opens setup facts NothingHeard may each =
      passed_linked (unheard facts.turn.doing facts) (unheard_linked facts facts.turn.doing (λ channel link is. may.made channel link refl is) each)
  step_opens setup facts TurnEnds may each = left_linked facts each

  pub step_linked : (setup : Setup) (facts : Facts) (step : Step) → MayOpen facts step → EachLink P facts.links → EachLink P (facts_after setup facts step).links
  step_linked setup facts step may each = step_opens setup facts step (record {
    made = may.made;
    taken = λ channel octets on pdu fields handle is doing found is_on takes new free. may.taken channel octets on pdu fields handle is doing found takes;
  }) each

-- ---- the slot of a turn

won_slot : (slot : ℕ) (winner : Option Activity) (facts : Facts) → (winner_served slot winner facts).facts.turn.slot ≡ facts.turn.slot
won_slot slot None facts = refl
won_slot slot (Some activity) facts = ap (λ (won : Facts). won.turn.slot) (winning_is slot activity facts)

radio_slot : (held : Bool) (slot : ℕ) (winner : Option Activity) (facts : Facts) → (radio_served held slot winner facts).facts.turn.slot ≡ facts.turn.slot
radio_slot true slot winner facts = refl
radio_slot false slot winner facts = won_slot slot winner facts

served_slot : (on : Bool) (slot : ℕ) (winner : Option Activity) (facts : Facts) → (served on slot winner facts).facts.turn.slot ≡ facts.turn.slot
served_slot false slot winner facts = refl
served_slot true slot winner facts = radio_slot (is_held_in facts.radio.hold slot) slot winner facts

-- a turn begins in its slot
pub begun_slot : (setup : Setup) (slot : ℕ) (on : Bool) (facts : Facts) → (facts_after setup facts (TurnBegins slot on)).turn.slot ≡ slot
begun_slot setup slot on facts =
    let begun = turn_begins slot (facts_ending slot facts) in
    served_slot on slot (winner_of (plan_in slot begun) slot) (facts_entering slot begun)

abbrev InSlot : Facts → Outcome → Type 0
InSlot facts outcome = outcome.facts.turn.slot ≡ facts.turn.slot

opens_slot : (link : LinkSetup) (facts : Facts) → InSlot facts (opens link facts)
opens_slot link facts = ap (λ (after : Facts). after.turn.slot) (opening_is link facts)

each_slot : (setup : Setup) (facts : Facts) → EachOutcome setup facts (InSlot facts)
each_slot setup facts = record {
  rests = refl;
  awaits_request = λ channel doing. refl;
  awaits_response = λ channel advertiser doing. refl;
  central_listens = λ handle doing. refl;
  sent = λ channel link doing. opens_slot link facts;
  responds = λ channel on doing is_on. refl;
  taken = λ channel octets pdu on fields handle is_on hears takes free. opens_slot (link_taken facts.view on.params.own pdu fields handle) facts;
  scanned = λ channel octets pdu on doing is_on hears. refl;
  answered = λ channel octets pdu on doing is_on hears. refl;
  connects = λ channel octets pdu on access handle doing is_on hears answers next free in_range. refl;
  received = λ handle octets. refl;
}

-- and each phase is in the slot of the turn
pub phase_slot : (setup : Setup) (facts : Facts) (received : Option (List ℕ)) → (facts_after setup facts (step_of received)).turn.slot ≡ facts.turn.slot
phase_slot setup facts None = unheard_is setup facts (InSlot facts) (each_slot setup facts) facts.turn.doing refl
phase_slot setup facts (Some octets) = heard_is setup facts (InSlot facts) (each_slot setup facts) facts.turn.doing octets refl (λ handle. refl)
