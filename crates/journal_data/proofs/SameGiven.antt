-- In the calls of a turn each open link of a controller keeps the packets that it was given, and a new one has none.
use Rattle.std.proofs.Common.{◌≡◌, ℕ, ◌==◌, ◌||◌, ◌⊎◌, inl, inr, Bool, true, false, Option, Some, None, List, [], ◌++◌, map, refl, sym, ap, subst, ◌∙◌, if◌then◌else◌}
use Rattle.std.specs.Prelude.{IfSome, ◌&&◌, nat_lt, ⊤}
use Rattle.ble_base.specs.declared.notes.Note.{Note}
use Rattle.std.specs.Option.{option_map}
use Rattle.acl_banks.specs.History.{HostData}
use Rattle.journal_acks.specs.link_model.Data.{Data, data_acked_if}
use Rattle.journal_acks.specs.link_model.Sending.{data_sent_as}
use Rattle.journal_acks.specs.link_model.Facts.{Facts as EndFacts}
use Rattle.journal_acks.specs.link_model.Setup.{Setup as EndSetup}
use Rattle.journal_acks.specs.link_model.Step.{Step as EndStep, EventEntered, PduFixed, PacketSent, PacketReceived, DataReported, WordsGiven}
use Rattle.journal_acks.specs.link_model.declared.setup.LinkSetup.{LinkSetup}
use Rattle.journal_acks.proofs.link_model.Pasts.{grows}
use Rattle.scan_init.specs.Reports.{does_ask, scan_answer}
use Rattle.slot_plan.specs.declared.Activity.{Activity}
use Rattle.slot_plan.specs.declared.Activity.TheVariants.{Link, Advertise, Scan, Initiate}
use Rattle.journal_acks.specs.open_links.Data.{complete_in, link_reported, links_reported}
use Rattle.journal_acks.specs.open_links.OpenLinks.{Links, OpenLink, facts_in, link_after, link_at, link_served, new_link, with_change, with_link}
use Rattle.journal_acks.specs.open_links.Turns.{entered_if, link_entered, place_without, staying_by, enters_in, ending_in}
use Rattle.journal_acks.specs.controller_model.declared.doing.Doing.{Doing}
use Rattle.journal_acks.specs.controller_model.declared.doing.Doing.TheVariants.{Advertises, CentralSends, PeripheralListens, PeripheralSends}
use Rattle.journal_acks.specs.controller_model.Facts.{Setup, Facts}
use Rattle.journal_acks.specs.controller_model.Events.{notes_of_events}
use Rattle.journal_acks.specs.controller_model.Heard.{asks_if, facts_with_words, has_room, link_received, link_taken, opens, replies_in, reply_if, scanner_after, with_scanner}
use Rattle.journal_acks.specs.controller_model.Links.{events_opened}
use Rattle.journal_acks.specs.controller_model.Outcome.{Outcome, facts_passed, notes_passed}
use Rattle.journal_acks.specs.controller_model.Packets.{facts_doing, links_sending}
use Rattle.journal_acks.specs.controller_model.Radio.{links_fixing}
use Rattle.journal_acks.specs.controller_model.Side.{facts_after, facts_of, notes_after}
use Rattle.journal_acks.specs.controller_model.Step.{Step, HostOctet, TurnBegins, PacketHeard, NothingHeard, TurnEnds}
use Rattle.journal_acks.proofs.controller_model.Always.{IsInTurn, IsKeptAtStarts, links_won, opening_passes, start_keeps, leaving_is}
use Rattle.journal_acks.proofs.controller_model.Handles.{own_handles}
use Rattle.journal_acks.proofs.controller_model.Phases.{EachOutcome, heard_is, unheard_is}
use Rattle.journal_acks.proofs.run_model.OpenedNotes.{is_opened, opened_was_free}
use Rattle.journal_acks.proofs.open_links.Handles.{changed_is, other_stays}
use Rattle.journal_acks.proofs.link_calls.UnderHandles.{IsOpenedIf, map_under, opened_under}
use Rattle.std.proofs.lemmas.Bool.{eq-eqb, eqb-false, eqb-true}
use Rattle.journal_data.proofs.DataSteps.{IsKeptByEnd, IsOwnStep, asked_own, link_keeps}
use Rattle.journal_acks.proofs.controller_model.Asked.{IsAskedStep}
use Rattle.journal_acks.proofs.controller_model.Places.{link_receiving, receiving_is, refusal_at, refusal_is, refused_if}
use Rattle.journal_acks.specs.controller_model.Data.{facts_handed}
use Rattle.journal_acks.specs.link_model.End.{facts_of as end_facts}

-- ---- one link

abbrev pub given_in : OpenLink → List HostData
given_in link = (facts_in link).outgoing.given

after_step : (link : OpenLink) (step : EndStep) (facts : EndFacts) → facts_in (link_after step link) ≡ facts → facts.outgoing.given ≡ given_in link
    → given_in (link_after step link) ≡ given_in link
after_step link step facts is same = ap (λ (f : EndFacts). f.outgoing.given) is ∙ same

pub sent_same : (payload : List ℕ) (new : Bool) (outgoing : Data) → (data_sent_as payload new outgoing).given ≡ outgoing.given
sent_same payload true outgoing = refl
sent_same payload false outgoing = refl

acked_same : (acked : Bool) (outgoing : Data) → (data_acked_if acked outgoing).given ≡ outgoing.given
acked_same true outgoing = refl
acked_same false outgoing = refl

given_kept : (given : List HostData) → IsKeptByEnd (λ outgoing. outgoing.given ≡ given)
given_kept given = record {
  sending = record {
    fixed = λ limit pdu more again outgoing same. same;
    sent = λ payload is_new outgoing same. sent_same payload is_new outgoing ∙ same;
  };
  acked = λ acked outgoing same. acked_same acked outgoing ∙ same;
}

pub own_same : (step : EndStep) (link : OpenLink) → IsOwnStep step → given_in (link_after step link) ≡ given_in link
own_same step link own = link_keeps (λ outgoing. outgoing.given ≡ given_in link) (given_kept (given_in link)) step link own refl

pub after_sent : (slot : ℕ) (link : OpenLink) → given_in (link_after (PacketSent slot) link) ≡ given_in link
after_sent slot link = own_same (PacketSent slot) link tt

after_reported : (link : OpenLink) → given_in (link_after DataReported link) ≡ given_in link
after_reported link = after_step link DataReported _ (grows link.setup link.past DataReported) refl

new_none : (end : EndSetup) → given_in (new_link end) ≡ []
unfolding end_facts
new_none end = refl

-- ---- one place

-- a link was there, which was given the same packets
pub record WasGiven (before : Option OpenLink) (link : OpenLink) : Type 0 where
  pub old : OpenLink
  pub was : before ≡ Some old
  pub same : given_in link ≡ given_in old

-- it stays, or is gone
abbrev Stays : Option OpenLink → Option OpenLink → Type 0
Stays before None = ⊤
Stays before (Some link) = WasGiven before link

stays_same : (place : Option OpenLink) → Stays place place
stays_same None = tt
stays_same (Some link) = record { old = link; was = refl; same = refl }

stays_then : (first second third : Option OpenLink) → Stays first second → Stays second third → Stays first third
stays_then first second None one two = tt
stays_then first second (Some link) one two =
    let before = subst (Stays first) two.was one in
    record { old = before.old; was = before.was; same = two.same ∙ before.same }

-- a change of a link that is there
changed_stays : (change : OpenLink → OpenLink) → ((link : OpenLink) → given_in (change link) ≡ given_in link) → (place : Option OpenLink)
    → Stays place (option_map change place)
changed_stays change keeps None = tt
changed_stays change keeps (Some link) = record { old = link; was = refl; same = keeps link }

-- ---- the place under a handle

-- a change of one link
under_stays : (under handle : ℕ) (change : OpenLink → OpenLink) → ((link : OpenLink) → given_in (change link) ≡ given_in link) → (links : Links)
    → Stays (link_at under links) (link_at under (with_change handle change links))
under_stays under handle change keeps links = by (handle == under) refl
  where
    by : (own : Bool) → (handle == under) ≡ own → Stays (link_at under links) (link_at under (with_change handle change links))
    by true is =
        let same = eqb-true handle under is in
        subst (λ n. Stays (link_at n links) (link_at n (with_change handle change links))) same
        (subst (Stays (link_at handle links)) (sym (changed_is (option_map change) 0 handle links refl)) (changed_stays change keeps (link_at handle links)))
    by false is =
        subst (Stays (link_at under links)) (sym (other_stays (option_map change) 0 handle under links (λ same. eqb-false handle under is (sym same)))) (stays_same (link_at under links))

-- a change of each place
each_stays : (under : ℕ) (change : Option OpenLink → Option OpenLink) → change None ≡ None → ((place : Option OpenLink) → Stays place (change place))
    → (links : Links) → Stays (link_at under links) (link_at under (map change links))
each_stays under change none keeps links =
    subst (Stays (link_at under links)) (sym (map_under change none 0 under links)) (keeps (link_at under links))

place_stays : (reason : OpenLink → Option ℕ) (place : Option OpenLink) → Stays place (place_without reason place)
place_stays reason None = tt
place_stays reason (Some link) = by (reason link)
  where
    by : (code : Option ℕ) → Stays (Some link) (staying_by code link)
    by None = stays_same (Some link)
    by (Some code) = tt

entered_same : (slot : ℕ) (link : OpenLink) → given_in (link_entered slot link) ≡ given_in link
entered_same slot link = by (enters_in slot link)
  where
    by : (enters : Bool) → given_in (entered_if enters slot link) ≡ given_in link
    by true = own_same (EventEntered slot) link tt
    by false = refl

reported_same : (link : OpenLink) → given_in (link_reported link) ≡ given_in link
reported_same link = by (nat_lt 0 (complete_in link))
  where
    by : (complete : Bool) → given_in (if complete then link_after DataReported link else link) ≡ given_in link
    by true = after_reported link
    by false = refl

won_stays : (under slot : ℕ) (activity : Activity) (links : Links) → Stays (link_at under links) (link_at under (links_won slot activity links))
won_stays under slot (Link handle) links = under_stays under handle (link_served slot) (λ link. refl) links
won_stays under slot Advertise links = stays_same (link_at under links)
won_stays under slot Scan links = stays_same (link_at under links)
won_stays under slot Initiate links = stays_same (link_at under links)

fixing_stays : (under : ℕ) (doing : Doing) (links : Links) → Stays (link_at under links) (link_at under (links_fixing doing links))
fixing_stays under (CentralSends handle) links = under_stays under handle (link_after PduFixed) (λ link. own_same PduFixed link tt) links
fixing_stays under (PeripheralListens handle) links = under_stays under handle (link_after PduFixed) (λ link. own_same PduFixed link tt) links
fixing_stays under (Advertises channel) links = stays_same (link_at under links)
fixing_stays under other links = stays_same (link_at under links)

sending_stays : (under slot : ℕ) (doing : Doing) (links : Links) → Stays (link_at under links) (link_at under (links_sending slot doing links))
sending_stays under slot (CentralSends handle) links = under_stays under handle (link_after (PacketSent slot)) (after_sent slot) links
sending_stays under slot (PeripheralSends handle) links = under_stays under handle (link_after (PacketSent slot)) (after_sent slot) links
sending_stays under slot (Advertises channel) links = stays_same (link_at under links)
sending_stays under slot other links = stays_same (link_at under links)

-- ---- a turn begins, and ends

abbrev StaysIn : ℕ → Option OpenLink → Facts → Type 0
StaysIn under before facts = Stays before (link_at under facts.links)

sends_on : (under : ℕ) (before : Option OpenLink) (doing : Doing) (facts : Facts) → StaysIn under before facts → StaysIn under before (facts_doing doing facts)
sends_on under before doing facts stays = stays_then before (link_at under facts.links) _ stays (sending_stays under facts.turn.slot doing facts.links)

kept_starts : (under : ℕ) (before : Option OpenLink) → IsKeptAtStarts (StaysIn under before) (StaysIn under before)
kept_starts under before = record {
  weakens = λ facts stays. stays;
  ends = λ reason facts stays. stays_then before (link_at under facts.links) _ stays (each_stays under (place_without reason) refl (place_stays reason) facts.links);
  begins = λ slot facts stays. stays;
  enters = λ slot facts stays. stays_then before (link_at under facts.links) _ stays
      (each_stays under (option_map (link_entered slot)) refl (changed_stays (link_entered slot) (entered_same slot)) facts.links);
  wins = λ slot activity facts stays. stays_then before (link_at under facts.links) _ stays (won_stays under slot activity facts.links);
  fixes = λ doing facts stays. stays_then before (link_at under facts.links) _ stays (fixing_stays under doing facts.links);
  does = λ doing facts may stays. sends_on under before doing facts stays;
}

-- ---- a phase

-- a new link is given nothing
abbrev IsFresh : Option OpenLink → Type 0
IsFresh None = ⊤
IsFresh (Some link) = given_in link ≡ []

abbrev Goes : ℕ → Option OpenLink → List Note → Facts → Type 0
Goes under before notes after = StaysIn under before after ⊎ (IsFresh (link_at under after.links) × is_opened under notes ≡ true)

opened_by : (under : ℕ) (end : EndSetup) (links : Links) (place : Option OpenLink) → link_at under (with_link end links) ≡ place
    → Stays (link_at under links) place ⊎ (IsFresh place × (under == end.link.handle) ≡ true)
opened_by under end links None at = inl tt
opened_by under end links (Some after) at = by (end.link.handle == under) refl (opened_under end under links after at)
  where
    by : (same : Bool) → (end.link.handle == under) ≡ same → ((same : Bool) → (end.link.handle == under) ≡ same → IsOpenedIf same end (link_at under links) after)
        → Stays (link_at under links) (Some after) ⊎ (IsFresh (Some after) × (under == end.link.handle) ≡ true)
    by true is opened = inr (ap given_in (opened true is) ∙ new_none end, eq-eqb under end.link.handle (sym (eqb-true end.link.handle under is)))
    by false is opened = inl (record { old = after; was = opened false is; same = refl })

opened_at : (under : ℕ) (end : EndSetup) (links : Links)
    → Stays (link_at under links) (link_at under (with_link end links)) ⊎ (IsFresh (link_at under (with_link end links)) × (under == end.link.handle) ≡ true)
opened_at under end links = opened_by under end links (link_at under (with_link end links)) refl

-- what comes of a phase
abbrev Passes : ℕ → Option OpenLink → Outcome → Type 0
Passes under before outcome = Goes under before (notes_passed outcome) (facts_passed outcome)

opens_goes : (under : ℕ) (link : LinkSetup) (facts : Facts) → Passes under (link_at under facts.links) (opens link facts)
opens_goes under link facts = by (opened_at under (record { link = link; opened = facts.turn.slot }) facts.links)
  where
    by : Stays (link_at under facts.links) (link_at under (with_link (record { link = link; opened = facts.turn.slot }) facts.links))
        ⊎ (IsFresh (link_at under (with_link (record { link = link; opened = facts.turn.slot }) facts.links)) × (under == link.handle) ≡ true)
        → Passes under (link_at under facts.links) (opens link facts)
    by (inl stays) = inl (opening_passes (StaysIn under (link_at under facts.links)) link facts stays)
    by (inr new) = inr (
      opening_passes (λ (after : Facts). IsFresh (link_at under after.links)) link facts new.0,
      ap (λ b. b || is_opened under (notes_of_events facts.view (events_opened facts.view link) ++ [])) new.1,
    )

-- a link receives, and may answer a request at once
receiving_same : (refusal : Option EndStep) (step : EndStep) (link : OpenLink) → IfSome refusal IsAskedStep → IsOwnStep step
    → given_in (refused_if refusal (link_after step link)) ≡ given_in link
receiving_same (Some answer) step link asks own = own_same answer (link_after step link) (asked_own answer asks) ∙ own_same step link own
receiving_same None step link asks own = own_same step link own

receives_stays : (under handle : ℕ) (room : Bool) (octets : List ℕ) (facts : Facts)
    → Stays (link_at under facts.links) (link_at under (link_received handle room octets facts).links)
receives_stays under handle room octets facts =
    subst (λ (links : Links). Stays (link_at under facts.links) (link_at under links)) (sym (receiving_is handle room octets facts))
    (under_stays under handle (link_receiving handle room octets facts)
    (λ link. receiving_same (refusal_at handle room octets facts) (PacketReceived facts.turn.slot octets room) link (refusal_is handle room octets facts) tt) facts.links)

-- with the words that a peripheral was given
worded_stays : (under : ℕ) (setup : Setup) (handle : ℕ) (octets : List ℕ) (facts : Facts) → let worded = facts_with_words setup handle facts in
    Stays (link_at under facts.links) (link_at under (link_received handle (has_room setup facts) octets worded).links)
worded_stays under setup handle octets facts =
    let worded = facts_with_words setup handle facts in
    stays_then (link_at under facts.links) (link_at under worded.links) _
    (under_stays under handle (link_after (WordsGiven _ _)) (λ link. own_same (WordsGiven _ _) link tt) facts.links)
    (receives_stays under handle (has_room setup facts) octets worded)

each_goes : (under : ℕ) (setup : Setup) (facts : Facts) → EachOutcome setup facts (Passes under (link_at under facts.links))
each_goes under setup facts = let same = stays_same (link_at under facts.links) in record {
  rests = inl same;
  awaits_request = λ channel doing. inl same;
  awaits_response = λ channel advertiser doing. inl same;
  central_listens = λ handle doing. inl same;
  sent = λ channel link doing. opens_goes under link facts;
  responds = λ channel on doing is_on. inl same;
  taken = λ channel octets pdu on fields handle is_on hears takes free. opens_goes under (link_taken facts.view on.params.own pdu fields handle) facts;
  scanned = λ channel octets pdu on doing is_on hears.
      inl (sends_on under (link_at under facts.links) (asks_if (true && does_ask (scan_answer on.params facts.view.accepted on.recent pdu)) channel pdu)
      (with_scanner (scanner_after on facts.view.accepted pdu) facts) same);
  answered = λ channel octets pdu on doing is_on hears.
      inl (sends_on under (link_at under facts.links) (asks_if (false && does_ask (scan_answer on.params facts.view.accepted on.recent pdu)) channel pdu)
      (with_scanner (scanner_after on facts.view.accepted pdu) facts) same);
  connects = λ channel octets pdu on access handle doing is_on hears answers next free in_range. inl same;
  received = λ handle octets.
      let room = has_room setup facts in
      inl (sends_on under (link_at under facts.links) (reply_if (replies_in facts.turn.slot room (link_at handle facts.links) octets) handle)
      (link_received handle room octets facts) (receives_stays under handle room octets facts));
}

step_goes : (under : ℕ) (setup : Setup) (facts : Facts) (step : Step) → IsInTurn step
    → Goes under (link_at under facts.links) (notes_after setup facts step) (facts_after setup facts step)
step_goes under setup facts (HostOctet octet) turn = absurd turn
step_goes under setup facts (TurnBegins slot on) turn =
    let before = link_at under facts.links in
    inl (start_keeps (StaysIn under before) (StaysIn under before) (kept_starts under before) slot on facts (stays_same before))
step_goes under setup facts (PacketHeard octets) turn =
    heard_is setup facts (Passes under (link_at under facts.links)) (each_goes under setup facts) facts.turn.doing octets refl
    (λ handle.
    let worded = facts_with_words setup handle facts in
    inl (sends_on under (link_at under facts.links) (reply_if (replies_in facts.turn.slot (has_room setup facts) (link_at handle worded.links) octets) handle)
    (link_received handle (has_room setup facts) octets worded) (worded_stays under setup handle octets facts)))
step_goes under setup facts NothingHeard turn = unheard_is setup facts (Passes under (link_at under facts.links)) (each_goes under setup facts) facts.turn.doing refl
step_goes under setup facts TurnEnds turn =
    let before = link_at under facts.links in
    let handed = links_reported facts.links in
    inl (subst (StaysIn under before) (sym (leaving_is (facts_handed facts)))
    (stays_then before (link_at under handed) _
    (each_stays under (option_map link_reported) refl (changed_stays link_reported reported_same) facts.links)
    (each_stays under (place_without ending_in) refl (place_stays ending_in) handed)))

-- ---- a call of a turn

-- where it opens the link, that was given nothing
abbrev pub WasSo : Bool → Option OpenLink → OpenLink → Type 0
WasSo true before link = given_in link ≡ []
WasSo false before link = WasGiven before link

no_old : (before : Option OpenLink) (link : OpenLink) (X : Type 0) → before ≡ None → WasGiven before link → X
no_old before link X none was = absurd (let h : None ≡ Some was.old = sym none ∙ was.was in absurd cc)

was_so : (under : ℕ) (before after : Option OpenLink) (link : OpenLink) (notes : List Note) (opened : Bool) → is_opened under notes ≡ opened
    → (is_opened under notes ≡ true → before ≡ None) → after ≡ Some link → Stays before after ⊎ (IsFresh after × is_opened under notes ≡ true) → WasSo opened before link
was_so under before after link notes true is free at (inl stays) = no_old before link _ (free is) (subst (Stays before) at stays)
was_so under before after link notes true is free at (inr new) = subst IsFresh at new.0
was_so under before after link notes false is free at (inl stays) = subst (Stays before) at stays
was_so under before after link notes false is free at (inr new) = absurd (let h : true ≡ false = sym new.1 ∙ is in absurd cc)

pub turn_given : (under : ℕ) (setup : Setup) (past : List Step) (step : Step) → IsInTurn step → let facts = facts_of setup past in
    (link : OpenLink) → link_at under (facts_after setup facts step).links ≡ Some link
    → (opened : Bool) → is_opened under (notes_after setup facts step) ≡ opened → WasSo opened (link_at under facts.links) link
turn_given under setup past step turn link at opened is =
    let facts = facts_of setup past in
    was_so under (link_at under facts.links) (link_at under (facts_after setup facts step).links) link (notes_after setup facts step) opened is
    (opened_was_free under setup facts step (own_handles setup past)) at (step_goes under setup facts step turn)
