-- A link that holds the radio of a controller is open and has entered an event, at any time: as it ends the radio is
-- free again.
use Rattle.std.proofs.Common.{◌≡◌, ℕ, ◌+◌, ◌==◌, Bool, true, false, Option, Some, None, List, [], ◌∷◌, ◌++◌, map, refl, sym, ap, subst, ◌∙◌, if◌then◌else◌}
use Rattle.std.specs.Prelude.{◌&&◌, nat_lt}
use Rattle.std.specs.Option.{option_map}
use Rattle.std.proofs.lemmas.Bool.{eq-eqb, eqb-true}
use Rattle.ble_base.specs.declared.roles.Role.{Role}
use Rattle.ble_base.specs.declared.roles.Role.TheVariants.{Central, Peripheral}
use Rattle.hci_cmd.specs.declared.command.Command.{Command}
use Rattle.hci_cmd.specs.declared.command.Command.TheVariants.{LeSetAdvEnable, Reset}
use Rattle.scan_init.specs.Reports.{does_ask, scan_answer}
use Rattle.slot_plan.specs.declared.Activity.{Activity}
use Rattle.slot_plan.specs.declared.Activity.TheVariants.{Advertise, Initiate, Link, Scan}
use Rattle.slot_plan.specs.Holding.{is_held_in, winner_of}
use Rattle.journal_events.specs.journal_sending.controller_model.declared.doing.Doing.{Doing}
use Rattle.journal_events.specs.journal_sending.controller_model.declared.doing.Doing.TheVariants.{Advertises, CentralSends, PeripheralListens, PeripheralSends}
use Rattle.journal_events.specs.journal_sending.controller_model.Commands.{links_after, moment_of, radio_after, radio_unadvertised}
use Rattle.journal_events.specs.journal_sending.controller_model.Data.{facts_handed}
use Rattle.journal_events.specs.journal_sending.controller_model.Entering.{all_entered}
use Rattle.journal_events.specs.journal_sending.controller_model.Facts.{Facts, Radio, Setup, free_radio}
use Rattle.journal_events.specs.journal_sending.controller_model.Heard.{asks_if, facts_with_words, has_room, link_heard, link_received, link_taken, opens, replies_in, reply_if}
use Rattle.journal_events.specs.journal_sending.controller_model.Links.{facts_ending, is_link, radio_without}
use Rattle.journal_events.specs.journal_sending.controller_model.Outcome.{facts_passed}
use Rattle.journal_events.specs.journal_sending.controller_model.Packets.{links_sending}
use Rattle.journal_events.specs.journal_sending.controller_model.Radio.{facts_entering, facts_won, links_fixing, plan_in, radio_served, served, turn_begins, winner_served}
use Rattle.journal_events.specs.journal_sending.controller_model.Side.{facts_after, facts_of}
use Rattle.journal_events.specs.journal_sending.controller_model.Step.{Step, HostOctet, NothingHeard, PacketHeard, TurnBegins, TurnEnds}
use Rattle.journal_events.specs.journal_sending.controller_model.link_commands.declared.moments.Moment.{Moment}
use Rattle.journal_events.specs.journal_sending.controller_model.link_commands.LinksCommanded.{links_commanded}
use Rattle.journal_events.proofs.journal_sending.controller_model.Always.{ending_is, facts_ended, holds_step, kept_always, leaving_is, octet_keeps, opening_passes, radio_shut, radio_stopped}
use Rattle.journal_events.proofs.journal_sending.controller_model.Asked.{at_kept}
use Rattle.journal_events.proofs.journal_sending.controller_model.Handles.{HaveOwnHandles, IsNew, free_is_new, handles_kept, own_handles}
use Rattle.journal_events.proofs.journal_sending.controller_model.Phases.{EachOutcome, heard_is, unheard_is}
use Rattle.journal_events.proofs.journal_sending.controller_model.Places.{at_changed, at_received, link_receiving, refusal_at, refused_if}
use Rattle.journal_events.specs.journal_sending.journal_data.link_model.declared.setup.LinkSetup.{LinkSetup}
use Rattle.journal_events.specs.journal_sending.journal_data.link_model.Setup.{Setup as EndSetup}
use Rattle.journal_events.specs.journal_sending.journal_data.link_model.Step.{Step as EndStep, DataGiven, DataReported, EventEntered, PacketReceived, PacketSent, PduFixed, WordsGiven}
use Rattle.journal_events.specs.journal_sending.journal_data.open_links.declared.ended.LinkEnded.{LinkEnded}
use Rattle.journal_events.specs.journal_sending.journal_data.open_links.Data.{complete_in, link_reported, links_reported}
use Rattle.journal_events.specs.journal_sending.journal_data.open_links.Ended.{end_by}
use Rattle.journal_events.specs.journal_sending.journal_data.open_links.OpenLinks.{Links, OpenLink, has_entered, link_after, link_at, link_from, link_served, new_link, with_change, with_link, without_links}
use Rattle.journal_events.specs.journal_sending.journal_data.open_links.Turns.{due_in, ending_in, ends_by, entered_if, enters_in, link_entered, links_without, staying_by}
use Rattle.journal_events.proofs.journal_sending.journal_data.open_links.Handles.{other_stays}
use Rattle.journal_events.proofs.journal_sending.journal_data.open_links.OnTime.{enters_an_event, stays_entered}
use Rattle.journal_events.proofs.journal_sending.journal_data.open_links.UnderHandles.{map_at}
use Rattle.journal_wants.proofs.WinnerLinks.{entered_at, wanting_enters, winner_wanting}

-- ---- what is kept

-- the link that may be in a place is open, and has entered an event
abbrev pub IsEntered : Option OpenLink → Type 0
IsEntered None = ⊥
IsEntered (Some link) = has_entered link ≡ true

-- so is the link that holds the radio, if one does
abbrev pub IsHolding : Radio → Links → Type 0
IsHolding radio links = (handle : ℕ) → radio.holder ≡ Link handle → IsEntered (link_at handle links)

abbrev Holds : Facts → Type 0
Holds facts = IsHolding facts.radio facts.links

abbrev StayEntered : Links → Links → Type 0
StayEntered before after = (handle : ℕ) → IsEntered (link_at handle before) → IsEntered (link_at handle after)

holds_still : (radio : Radio) (before after : Links) → StayEntered before after → IsHolding radio before
    → IsHolding radio after
holds_still radio before after stay holds = λ handle is. stay handle (holds handle is)

holds_free : (links : Links) → IsHolding free_radio links
holds_free links = λ handle is. absurd (let h : Scan ≡ Link handle = is in absurd cc)

-- ---- changes of links

abbrev pub KeepsEntered : (OpenLink → OpenLink) → Type 0
KeepsEntered change = (link : OpenLink) → has_entered link ≡ true → has_entered (change link) ≡ true

mapped : (change : OpenLink → OpenLink) (place : Option OpenLink) → KeepsEntered change → IsEntered place
    → IsEntered (option_map change place)
mapped change None keeps is = absurd is
mapped change (Some link) keeps is = keeps link is

all_stay : (change : OpenLink → OpenLink) (links : Links) → KeepsEntered change
    → StayEntered links (map (option_map change) links)
all_stay change links keeps handle is =
    subst IsEntered (sym (map_at (option_map change) 0 handle links refl))
    (mapped change (link_at handle links) keeps is)

change_stays : (handle : ℕ) (change : OpenLink → OpenLink) (links : Links) → KeepsEntered change
    → StayEntered links (with_change handle change links)
change_stays handle change links keeps other is =
    at_changed IsEntered handle other change links is (λ same. mapped change (link_at other links) keeps is)

step_stays : (step : EndStep) (handle : ℕ) (links : Links)
    → StayEntered links (with_change handle (link_after step) links)
step_stays step handle links = change_stays handle (link_after step) links (stays_entered step)

fixing_stays : (doing : Doing) (links : Links) → StayEntered links (links_fixing doing links)
fixing_stays (CentralSends handle) links = step_stays PduFixed handle links
fixing_stays (PeripheralListens handle) links = step_stays PduFixed handle links
fixing_stays (Advertises channel) links = λ other has. has
fixing_stays other links = λ other has. has

sending_stays : (slot : ℕ) (doing : Doing) (links : Links) → StayEntered links (links_sending slot doing links)
sending_stays slot (CentralSends handle) links = step_stays (PacketSent slot) handle links
sending_stays slot (PeripheralSends handle) links = step_stays (PacketSent slot) handle links
sending_stays slot (Advertises channel) links = λ other has. has
sending_stays slot other links = λ other has. has

receiving_keeps : (refusal : Option EndStep) (step : EndStep)
    → KeepsEntered (λ link. refused_if refusal (link_after step link))
receiving_keeps None step link is = stays_entered step link is
receiving_keeps (Some next) step link is = stays_entered next (link_after step link) (stays_entered step link is)

receiving_stays : (handle : ℕ) (room : Bool) (octets : List ℕ) (facts : Facts)
    → StayEntered facts.links (link_received handle room octets facts).links
receiving_stays handle room octets facts other is =
    at_received IsEntered handle other room octets facts is (λ same.
    mapped (link_receiving handle room octets facts) (link_at other facts.links)
    (receiving_keeps (refusal_at handle room octets facts) (PacketReceived facts.turn.slot octets room)) is)

pub entering_keeps : (slot : ℕ) → KeepsEntered (link_entered slot)
entering_keeps slot link is = by (enters_in slot link)
  where
    by : (enters : Bool) → has_entered (entered_if enters slot link) ≡ true
    by true = stays_entered (EventEntered slot) link is
    by false = is

entering_stays : (slot : ℕ) (links : Links) → StayEntered links (all_entered slot links)
entering_stays slot links = all_stay (link_entered slot) links (entering_keeps slot)

reporting_stays : (links : Links) → StayEntered links (links_reported links)
reporting_stays links = all_stay link_reported links (λ link is. by link is (nat_lt 0 (complete_in link)))
  where
    by : (link : OpenLink) → has_entered link ≡ true → (complete : Bool)
        → has_entered (if complete then link_after DataReported link else link) ≡ true
    by link is true = stays_entered DataReported link is
    by link is false = is

-- a new link is under a handle under which none is open
opening_stays : (end : EndSetup) (links : Links) → link_at end.link.handle links ≡ None
    → StayEntered links (with_link end links)
opening_stays end links free other is =
    subst IsEntered (sym (other_stays (λ place. Some (new_link end)) 0 end.link.handle other links
    (λ same. absurd (subst IsEntered (ap (λ n. link_at n links) same ∙ free) is)))) is

-- ---- links end

without_frees : (handle : ℕ) (radio : Radio) → (radio_without handle radio).holder ≡ Link handle → ⊥
without_frees handle radio is = by (is_link handle radio.holder) refl is
  where
    by : (held : Bool) → is_link handle radio.holder ≡ held
        → (if held then free_radio else radio).holder ≡ Link handle → ⊥
    by true held is = let h : Scan ≡ Link handle = is in absurd cc
    by false held is =
        let h : true ≡ false = sym (eq-eqb handle handle refl) ∙ ap (is_link handle) (sym is) ∙ held in absurd cc

-- what holds it after some links ended held it before
shut_before : (radio : Radio) (ended : List LinkEnded) (handle : ℕ) → (radio_shut radio ended).holder ≡ Link handle
    → radio.holder ≡ Link handle
shut_before radio [] handle is = is
shut_before radio (one ∷ ended) handle is =
    by (is_link one.handle radio.holder) (shut_before (radio_without one.handle radio) ended handle is)
  where
    by : (held : Bool) → (if held then free_radio else radio).holder ≡ Link handle → radio.holder ≡ Link handle
    by true is = absurd (let h : Scan ≡ Link handle = is in absurd cc)
    by false is = is

-- and is none of them
holder_stays : (reason : OpenLink → Option ℕ) (first handle : ℕ) (links : Links) (radio : Radio)
    → (radio_shut radio (ends_by reason first links)).holder ≡ Link handle → IsEntered (link_from first handle links)
    → IsEntered (link_from first handle (links_without reason links))
holder_stays reason first handle [] radio held is = is
holder_stays reason first handle (None ∷ links) radio held is =
    by (first == handle) is (holder_stays reason (first + 1) handle links radio held)
  where
    by : (same : Bool) → IsEntered (if same then None else link_from (first + 1) handle links)
        → (IsEntered (link_from (first + 1) handle links)
        → IsEntered (link_from (first + 1) handle (links_without reason links)))
        → IsEntered (if same then None else link_from (first + 1) handle (links_without reason links))
    by true is rest = is
    by false is rest = rest is
holder_stays reason first handle (Some link ∷ links) radio held is =
    by (reason link) (first == handle) refl held is (λ one. holder_stays reason (first + 1) handle links one)
  where
    by : (why : Option ℕ) (same : Bool) → (first == handle) ≡ same
        → (radio_shut radio (end_by first why ++ ends_by reason (first + 1) links)).holder ≡ Link handle
        → IsEntered (if same then Some link else link_from (first + 1) handle links)
        → ((one : Radio) → (radio_shut one (ends_by reason (first + 1) links)).holder ≡ Link handle
        → IsEntered (link_from (first + 1) handle links)
        → IsEntered (link_from (first + 1) handle (links_without reason links)))
        → IsEntered (if same then staying_by why link else link_from (first + 1) handle (links_without reason links))
    by None true same held is rest = is
    by (Some code) true same held is rest =
        let radio_is = shut_before (radio_without first radio) (ends_by reason (first + 1) links) handle held in
        absurd (without_frees first radio (radio_is ∙ ap Link (sym (eqb-true first handle same))))
    by None false same held is rest = rest radio held is
    by (Some code) false same held is rest = rest (radio_without first radio) held is

ends_hold : (reason : OpenLink → Option ℕ) (facts : Facts) → Holds facts → Holds (facts_ended reason facts)
ends_hold reason facts holds handle held =
    holder_stays reason 0 handle facts.links facts.radio held
    (holds handle (shut_before facts.radio (ends_by reason 0 facts.links) handle held))

ending_holds : (slot : ℕ) (facts : Facts) → Holds facts → Holds (facts_ending slot facts)
ending_holds slot facts holds = subst Holds (sym (ending_is slot facts)) (ends_hold (due_in slot) facts holds)

-- ---- an octet of the host

command_radio : (command : Command) (radio : Radio) (links : Links) → IsHolding radio links
    → IsHolding (radio_after command radio) links
command_radio Reset radio links holds = holds_free links
command_radio (LeSetAdvEnable value) radio links holds = by (value == 1)
  where
    unadvertised : (activity : Activity) → IsHolding (radio_unadvertised activity radio) links
    unadvertised (Link handle) = holds
    unadvertised Advertise = holds_free links
    unadvertised Scan = holds
    unadvertised Initiate = holds

    by : (on : Bool) → IsHolding (if on then radio else radio_unadvertised radio.holder radio) links
    by true = holds
    by false = unadvertised radio.holder
command_radio other radio links holds = holds

command_holds : (command : Command) (radio : Radio) (links : Links) → IsHolding radio links
    → IsHolding (radio_after command radio) (links_after command links)
command_holds Reset radio links holds = holds_free (without_links links)
command_holds command radio links holds = command_radio command radio links holds

asked_stays : (command : Command) (moment : Moment) (links : Links)
    → StayEntered links (links_commanded command moment links)
asked_stays command moment links handle is =
    at_kept IsEntered (λ link step asks is. stays_entered step link is) command moment handle links is

octet_holds : (setup : Setup) (facts : Facts) (octet : ℕ) → Holds facts
    → Holds (facts_after setup facts (HostOctet octet))
octet_holds setup facts octet holds =
    octet_keeps setup Holds
    (λ facts opcode octets command is accepted holds. command_holds command facts.radio facts.links holds)
    (λ facts command asks holds left.
    holds_still (radio_after command facts.radio) facts.links _
    (asked_stays command (moment_of setup facts) facts.links) (command_radio command facts.radio facts.links holds))
    (λ facts handle count start octets is holds.
    holds_still facts.radio facts.links _ (step_stays (DataGiven start octets) handle facts.links) holds)
    (λ facts octet holds. holds) facts octet holds

-- ---- a turn begins

won_holds : (slot : ℕ) (activity : Activity) (facts : Facts)
    → ((handle : ℕ) → activity ≡ Link handle → IsEntered (link_at handle facts.links)) → Holds facts
    → Holds (facts_won slot activity facts)
won_holds slot (Link handle) facts entered holds = λ other held.
    let same : Link handle ≡ Link other = held in
    change_stays handle (link_served slot) facts.links (λ link is. is) other (entered other same)
won_holds slot Advertise facts entered holds =
    λ handle held. absurd (let h : Advertise ≡ Link handle = held in absurd cc)
won_holds slot Scan facts entered holds = holds
won_holds slot Initiate facts entered holds = holds

served_holds : (on : Bool) (slot : ℕ) (winner : Option Activity) (facts : Facts)
    → ((handle : ℕ) → winner ≡ Some (Link handle) → IsEntered (link_at handle facts.links)) → Holds facts
    → Holds (served on slot winner facts).facts
served_holds false slot winner facts entered holds = holds
served_holds true slot winner facts entered holds = by (is_held_in facts.radio.hold slot)
  where
    won : (may : Option Activity) → ((handle : ℕ) → may ≡ Some (Link handle) → IsEntered (link_at handle facts.links))
        → Holds (winner_served slot may facts).facts
    won None entered = holds
    won (Some activity) entered = won_holds slot activity facts (λ handle is. entered handle (ap Some is)) holds

    by : (held : Bool) → Holds (radio_served held slot winner facts).facts
    by true = holds
    by false = won winner entered

-- what wins the slot enters its event
winner_entered : (slot handle : ℕ) (facts : Facts) → winner_of (plan_in slot facts) slot ≡ Some (Link handle)
    → IsEntered (link_at handle (all_entered slot facts.links))
winner_entered slot handle facts is =
    let wanting = winner_wanting slot handle facts is in
    subst IsEntered (sym (entered_at slot handle facts.links wanting.link wanting.is_open))
    (enters_an_event slot wanting.link (wanting_enters slot wanting.link wanting.wants))

begin_holds : (setup : Setup) (slot : ℕ) (on : Bool) (facts : Facts) → Holds facts
    → Holds (facts_after setup facts (TurnBegins slot on))
begin_holds setup slot on facts holds =
    let begun = turn_begins slot (facts_ending slot facts) in
    let entering = facts_entering slot begun in
    let winner = winner_of (plan_in slot begun) slot in
    let outcome = served on slot winner entering in
    let at = outcome.facts.turn.slot in
    let fixed = links_fixing outcome.next outcome.facts.links in
    let ended = ending_holds slot facts holds in
    let entered = holds_still begun.radio begun.links entering.links (entering_stays slot begun.links) ended in
    let won = served_holds on slot winner entering (λ handle is. winner_entered slot handle begun is) entered in
    let fixing = fixing_stays outcome.next outcome.facts.links in
    let sending = sending_stays at outcome.next fixed in
    holds_still outcome.facts.radio fixed (links_sending at outcome.next fixed) sending
    (holds_still outcome.facts.radio outcome.facts.links fixed fixing won)

-- ---- a phase

opens_hold : (link : LinkSetup) (facts : Facts) → link_at link.handle facts.links ≡ None → Holds facts
    → Holds (facts_passed (opens link facts))
opens_hold link facts free holds = opening_passes Holds link facts (by link.role)
  where
    end : EndSetup
    end = record { link = link; opened = facts.turn.slot }

    by : (role : Role) → IsHolding (radio_stopped role facts.radio) (with_link end facts.links)
    by Central =
        holds_still facts.radio facts.links (with_link end facts.links) (opening_stays end facts.links free) holds
    by Peripheral = holds_free (with_link end facts.links)

doing_holds : (doing : Doing) (facts : Facts) → Holds facts
    → IsHolding facts.radio (links_sending facts.turn.slot doing facts.links)
doing_holds doing facts holds =
    holds_still facts.radio facts.links (links_sending facts.turn.slot doing facts.links)
    (sending_stays facts.turn.slot doing facts.links) holds

received_holds : (setup : Setup) (facts : Facts) (handle : ℕ) (octets : List ℕ) → Holds facts
    → Holds (facts_passed (link_heard setup handle octets facts))
received_holds setup facts handle octets holds =
    let room = has_room setup facts in
    let after = link_received handle room octets facts in
    let replies = replies_in facts.turn.slot room (link_at handle facts.links) octets in
    doing_holds (reply_if replies handle) after
    (holds_still facts.radio facts.links after.links (receiving_stays handle room octets facts) holds)

outcomes_hold : (setup : Setup) (facts : Facts) → HaveOwnHandles setup facts → Holds facts
    → EachOutcome setup facts (λ outcome. Holds (facts_passed outcome))
outcomes_hold setup facts own holds = record {
  rests = holds;
  awaits_request = λ channel doing. holds;
  awaits_response = λ channel advertiser doing. holds;
  central_listens = λ handle doing. holds;
  sent = λ channel link doing. opens_hold link facts (subst (IsNew facts.links) doing own.new).1 holds;
  responds = λ channel on doing is_on. holds;
  taken = λ channel octets pdu on fields handle is_on hears takes free.
      let free_there = (free_is_new facts.links handle free).1 in
      opens_hold (link_taken facts.view on.params.own pdu fields handle) facts free_there holds;
  scanned = λ channel octets pdu on doing is_on hears.
      let asks = does_ask (scan_answer on.params facts.view.accepted on.recent pdu) in
      doing_holds (asks_if (true && asks) channel pdu) facts holds;
  answered = λ channel octets pdu on doing is_on hears.
      let asks = does_ask (scan_answer on.params facts.view.accepted on.recent pdu) in
      doing_holds (asks_if (false && asks) channel pdu) facts holds;
  connects = λ channel octets pdu on access handle doing is_on hears answers next free in_range. holds;
  received = λ handle octets. received_holds setup facts handle octets holds;
}

-- ---- at any time

record IsInStep (setup : Setup) (facts : Facts) : Type 0 where
  own : HaveOwnHandles setup facts
  holds : Holds facts

holds_after : (setup : Setup) (facts : Facts) (step : Step) → IsInStep setup facts
    → Holds (facts_after setup facts step)
holds_after setup facts (HostOctet octet) is = octet_holds setup facts octet is.holds
holds_after setup facts (TurnBegins slot on) is = begin_holds setup slot on facts is.holds
holds_after setup facts NothingHeard is =
    unheard_is setup facts _ (outcomes_hold setup facts is.own is.holds) facts.turn.doing refl
holds_after setup facts (PacketHeard octets) is =
    let outcomes = outcomes_hold setup facts is.own is.holds in
    heard_is setup facts (λ outcome. Holds (facts_passed outcome)) outcomes facts.turn.doing octets refl
    (λ handle. received_holds setup (facts_with_words setup handle facts) handle octets
    (holds_still facts.radio facts.links _ (step_stays (WordsGiven _ _) handle facts.links) is.holds))
holds_after setup facts TurnEnds is =
    subst Holds (sym (leaving_is (facts_handed facts)))
    (ends_hold ending_in (facts_handed facts)
    (holds_still facts.radio facts.links (links_reported facts.links) (reporting_stays facts.links) is.holds))

always_in_step : (setup : Setup) (past : List Step) → IsInStep setup (facts_of setup past)
unfolding facts_of
always_in_step setup past =
    kept_always setup (IsInStep setup) (λ facts step is. record {
      own = holds_step setup (HaveOwnHandles setup) (HaveOwnHandles setup) (handles_kept setup) facts step is.own;
      holds = holds_after setup facts step is;
    }) (record { own = own_handles setup []; holds = holds_free _ }) past

-- as a turn begins, after links ended
pub holder_entered : (setup : Setup) (past : List Step) (slot : ℕ)
    → IsHolding (facts_ending slot (facts_of setup past)).radio (facts_ending slot (facts_of setup past)).links
holder_entered setup past slot = ending_holds slot (facts_of setup past) (always_in_step setup past).holds
