-- The links of a controller: as many places as it can hold links, each link under its own handle, and a new one under a
-- free handle.
use Rattle.std.proofs.Common.{◌≡◌, ℕ, suc, ◌+◌, ◌<◌, ◌==◌, Bool, true, false, Option, Some, None, List, [], ◌∷◌, length, map, refl, ap, sym, subst, ◌∙◌, arith}
use Rattle.std.specs.Prelude.{⊤, IfSome, ◌&&◌, nat_lt, if◌then◌else◌}
use Rattle.std.specs.Option.{option_map}
use Rattle.std.proofs.lemmas.List.{length-map}
use Rattle.hci_cmd.specs.declared.command.Command.{Command}
use Rattle.hci_cmd.specs.declared.command.Command.TheVariants.{Reset}
use Rattle.adv_pdu.specs.declared.pdu.AdvPdu.{AdvPdu}
use Rattle.adv_pdu.specs.Pdu.{sender_of}
use Rattle.host_view.specs.scan_init.Reports.{does_ask, scan_answer}
use Rattle.link_commands.specs.open_links.link_model.declared.setup.LinkSetup.{LinkSetup}
use Rattle.link_commands.specs.open_links.link_model.Setup.{Setup as EndSetup}
use Rattle.link_commands.specs.open_links.link_model.Step.{Step as EndStep, DataGiven, PduFixed, PacketSent, PacketReceived, WordsGiven}
use Rattle.slot_plan.specs.declared.Activity.{Activity}
use Rattle.slot_plan.specs.declared.Activity.TheVariants.{Link, Advertise, Scan, Initiate}
use Rattle.link_commands.specs.open_links.Data.{complete_in, link_reported}
use Rattle.link_commands.specs.open_links.OpenLinks.{Links, OpenLink, HasHandle, HaveHandles, IsFreeHandle, free_from, link_after, link_at, link_from, link_served, with_change, with_change_from, without_links}
use Rattle.link_commands.specs.open_links.Turns.{link_entered, links_without, place_without}
use Rattle.link_commands.proofs.open_links.Counts.{count_at_first, count_changing, count_ending, count_opening, count_resetting}
use Rattle.link_commands.proofs.open_links.Steps.{reported_setup, without_handles}
use Rattle.link_commands.proofs.open_links.Unmoved.{entered_setup}
use Rattle.link_commands.proofs.open_links.Ends.{stay_with_handles, stays_where_not_due}
use Rattle.link_commands.proofs.open_links.Handles.{changed_have, free_is, none_have, opened_has, place_keeps}
use Rattle.controller_model.specs.declared.doing.Doing.{Doing}
use Rattle.controller_model.specs.declared.doing.Doing.TheVariants.{Advertises, AwaitsRequest, Responds, Requests, AwaitsResponse, Connects, CentralSends, CentralListens, PeripheralListens, PeripheralSends, Rests}
use Rattle.link_commands.specs.declared.moments.Moment.{Moment}
use Rattle.link_commands.specs.LinksCommanded.{links_commanded}
use Rattle.controller_model.specs.Step.{Step}
use Rattle.controller_model.specs.Facts.{Setup, Facts}
use Rattle.controller_model.specs.Commands.{links_after, moment_of}
use Rattle.controller_model.specs.Heard.{asks_if, facts_connecting, fields_sent, has_room, link_made, link_received, link_taken, opens, replies_in, reply_if, scanner_after, with_scanner, facts_with_words}
use Rattle.controller_model.specs.Packets.{facts_doing, links_sending}
use Rattle.controller_model.specs.Outcome.{facts_passed}
use Rattle.controller_model.specs.Radio.{links_fixing}
use Rattle.controller_model.specs.Side.{facts_of}
use Rattle.controller_model.proofs.Asked.{asked_handles, asked_many, asked_none}
use Rattle.controller_model.proofs.Always.{IsKept, MayBegin, always, links_won, opening_passes}
use Rattle.controller_model.proofs.Phases.{EachOutcome}
use Rattle.controller_model.proofs.Places.{link_receiving, receiving_is, refused_if, refusal_at}

-- ---- changes of links that open none

-- as many places as before, each link under its handle, and a handle that was free is free
pub record OpensNone (before after : Links) : Type 0 where
  pub many : length after ≡ length before
  pub handles : HaveHandles 0 before → HaveHandles 0 after
  pub free : (handle : ℕ) → link_at handle before ≡ None → link_at handle after ≡ None

nothing_opens : (links : Links) → OpensNone links links
nothing_opens links = record { many = refl; handles = λ have. have; free = λ handle none. none }

-- a change of each place
pub map_keeps : (change : Option OpenLink → Option OpenLink) → change None ≡ None → (first handle : ℕ) (links : Links)
    → link_from first handle links ≡ None → link_from first handle (map change links) ≡ None
map_keeps change none first handle [] free = refl
map_keeps change none first handle (place ∷ links) free =
    at (first == handle) free (map_keeps change none (first + 1) handle links)
  where
    at : (test : Bool) → (if test then place else link_from (first + 1) handle links) ≡ None
        → (link_from (first + 1) handle links ≡ None → link_from (first + 1) handle (map change links) ≡ None)
        → (if test then change place else link_from (first + 1) handle (map change links)) ≡ None
    at true is rest = ap change is ∙ none
    at false is rest = rest is

reset_opens : (links : Links) → OpensNone links (without_links links)
reset_opens links = record {
  many = count_resetting links;
  handles = λ have. without_handles 0 links;
  free = λ handle none. map_keeps (λ place. None) refl 0 handle links none;
}

pub staying_opens : (reason : OpenLink → Option ℕ) (links : Links) → OpensNone links (links_without reason links)
staying_opens reason links = record {
  many = count_ending reason links;
  handles = λ have. stay_with_handles reason 0 links have;
  free = λ handle none. stays_where_not_due reason 0 handle links ∙ ap (place_without reason) none;
}

mapped_have : (change : OpenLink → OpenLink) → ((link : OpenLink) → (change link).setup ≡ link.setup) → (first : ℕ) (links : Links)
    → HaveHandles first links → HaveHandles first (map (option_map change) links)
mapped_have change same first [] have = tt
mapped_have change same first (place ∷ links) have =
    (place_keeps change same first place have.0, mapped_have change same (first + 1) links have.1)

pub mapped_opens : (change : OpenLink → OpenLink) (links : Links) → ((link : OpenLink) → (change link).setup ≡ link.setup)
    → OpensNone links (map (option_map change) links)
mapped_opens change links same = record {
  many = length-map links (option_map change);
  handles = λ have. mapped_have change same 0 links have;
  free = λ handle none. map_keeps (option_map change) refl 0 handle links none;
}

pub entered_same : (slot : ℕ) (link : OpenLink) → (link_entered slot link).setup ≡ link.setup
entered_same slot link = entered_setup slot link

pub reported_same : (link : OpenLink) → (link_reported link).setup ≡ link.setup
reported_same link = reported_setup (nat_lt 0 (complete_in link)) link

-- a change of one place
change_free : (change : Option OpenLink → Option OpenLink) → change None ≡ None → (first handle other : ℕ) (links : Links)
    → link_from first other links ≡ None → link_from first other (with_change_from first handle change links) ≡ None
change_free change none first handle other [] free = refl
change_free change none first handle other (place ∷ links) free =
    at (first == handle) (first == other) refl free (change_free change none (first + 1) handle other links)
  where
    at : (changed test : Bool) → (first == other) ≡ test → (if test then place else link_from (first + 1) other links) ≡ None
        → (link_from (first + 1) other links ≡ None
        → link_from (first + 1) other (with_change_from (first + 1) handle change links) ≡ None)
        → link_from first other (if changed then change place ∷ links else place ∷ with_change_from (first + 1) handle change links) ≡ None
    at true true e is rest = rw e (ap change is ∙ none)
    at true false e is rest = rw e is
    at false true e is rest = rw e is
    at false false e is rest = rw e (rest is)

pub change_opens : (handle : ℕ) (change : OpenLink → OpenLink) (links : Links) → ((link : OpenLink) → (change link).setup ≡ link.setup)
    → OpensNone links (with_change handle change links)
change_opens handle change links same = record {
  many = count_changing handle change links;
  handles = λ have. changed_have handle change links same have;
  free = λ other none. change_free (option_map change) refl 0 handle other links none;
}

-- a link that receives a packet
receiving_same : (handle : ℕ) (room : Bool) (octets : List ℕ) (facts : Facts) (link : OpenLink)
    → (link_receiving handle room octets facts link).setup ≡ link.setup
receiving_same handle room octets facts link = refused_setup (refusal_at handle room octets facts)
  where
    refused_setup : (refusal : Option EndStep) → (refused_if refusal (link_after (PacketReceived facts.turn.slot octets room) link)).setup ≡ link.setup
    refused_setup (Some step) = refl
    refused_setup None = refl

pub receiving_opens : (handle : ℕ) (room : Bool) (octets : List ℕ) (facts : Facts)
    → OpensNone facts.links (link_received handle room octets facts).links
receiving_opens handle room octets facts =
    subst (OpensNone facts.links) (sym (receiving_is handle room octets facts))
    (change_opens handle (link_receiving handle room octets facts) facts.links (receiving_same handle room octets facts))

-- a link that fixes its PDU
pub fixing_opens : (doing : Doing) (links : Links) → OpensNone links (links_fixing doing links)
fixing_opens (CentralSends handle) links = change_opens handle (link_after PduFixed) links (λ link. refl)
fixing_opens (PeripheralListens handle) links = change_opens handle (link_after PduFixed) links (λ link. refl)
fixing_opens (Advertises channel) links = nothing_opens links
fixing_opens other links = nothing_opens links

-- ---- what is true at any time

-- the handle of a link that is to be opened is free
abbrev pub IsNew : Links → Doing → Type 0
IsNew links (Connects channel link) = (link.handle < length links) × (link_at link.handle links ≡ None)
IsNew links other = ⊤

pub record HaveOwnHandles (setup : Setup) (facts : Facts) : Type 0 where
  pub many : length facts.links ≡ setup.links
  pub handles : HaveHandles 0 facts.links
  pub new : IsNew facts.links facts.turn.doing

new_still : (before after : Links) (doing : Doing) → OpensNone before after → IsNew before doing → IsNew after doing
new_still before after (Connects channel link) opens new = (subst (λ n. link.handle < n) (sym opens.many) new.0, opens.free link.handle new.1)
new_still before after (Advertises channel) opens new = tt
new_still before after other opens new = tt

fits_still : (setup : Setup) (before after : Facts) → OpensNone before.links after.links → after.turn.doing ≡ before.turn.doing
    → HaveOwnHandles setup before → HaveOwnHandles setup after
fits_still setup before after opens same fits = record {
  many = opens.many ∙ fits.many;
  handles = opens.handles fits.handles;
  new = subst (IsNew after.links) (sym same) (new_still before.links after.links before.turn.doing opens fits.new);
}

-- a link that is given words
pub words_own : (setup : Setup) (handle : ℕ) (facts : Facts) → HaveOwnHandles setup facts → HaveOwnHandles setup (facts_with_words setup handle facts)
words_own setup handle facts own =
    fits_still setup facts (facts_with_words setup handle facts) (change_opens handle (link_after (WordsGiven _ _)) facts.links (λ link. refl)) refl own

-- what is done next
sending_opens : (slot : ℕ) (doing : Doing) (links : Links) → OpensNone links (links_sending slot doing links)
sending_opens slot (CentralSends handle) links = change_opens handle (link_after (PacketSent slot)) links (λ link. refl)
sending_opens slot (PeripheralSends handle) links = change_opens handle (link_after (PacketSent slot)) links (λ link. refl)
sending_opens slot (Advertises channel) links = nothing_opens links
sending_opens slot other links = nothing_opens links

fits_doing : (setup : Setup) (doing : Doing) (facts : Facts) → length facts.links ≡ setup.links → HaveHandles 0 facts.links
    → IsNew facts.links doing → HaveOwnHandles setup (facts_doing doing facts)
fits_doing setup doing facts many handles new =
    let opens = sending_opens facts.turn.slot doing facts.links in
    record {
      many = opens.many ∙ many;
      handles = opens.handles handles;
      new = new_still facts.links (facts_doing doing facts).links doing opens new;
    }

-- ---- each part of a turn keeps it

command_opens : (command : Command) (links : Links) → OpensNone links (links_after command links)
command_opens Reset links = reset_opens links
command_opens other links = nothing_opens links

asked_opens : (command : Command) (moment : Moment) (links : Links) → OpensNone links (links_commanded command moment links)
asked_opens command moment links = record {
  many = asked_many command moment links;
  handles = λ have. asked_handles command moment 0 links have;
  free = λ handle none. asked_none command moment handle links none;
}

pub won_opens : (slot : ℕ) (activity : Activity) (links : Links) → OpensNone links (links_won slot activity links)
won_opens slot (Link handle) links = change_opens handle (link_served slot) links (λ link. refl)
won_opens slot Advertise links = nothing_opens links
won_opens slot Scan links = nothing_opens links
won_opens slot Initiate links = nothing_opens links

begin_new : (links : Links) (doing : Doing) → MayBegin doing → IsNew links doing
begin_new links (Connects channel link) may = absurd may
begin_new links (Advertises channel) may = tt
begin_new links other may = tt

pub free_is_new : (links : Links) (handle : ℕ) → free_from 0 links ≡ Some handle → (handle < length links) × (link_at handle links ≡ None)
free_is_new links handle is =
    let least = subst (IsFreeHandle 0 links) is (free_is 0 links) in
    (omega (arith, least.within), least.free)

opened_fits : (setup : Setup) (link : LinkSetup) (facts : Facts) → HaveOwnHandles setup facts
    → HaveOwnHandles setup (facts_passed (opens link facts))
opened_fits setup link facts fits =
    let opened : EndSetup = record { link = link; opened = facts.turn.slot } in
    opening_passes (HaveOwnHandles setup) link facts (record {
      many = count_opening opened facts.links ∙ fits.many;
      handles = opened_has opened facts.links fits.handles;
      new = tt;
    })

asks_fits : (setup : Setup) (asks : Bool) (channel : ℕ) (pdu : AdvPdu) (facts : Facts) → length facts.links ≡ setup.links
    → HaveHandles 0 facts.links → HaveOwnHandles setup (facts_doing (asks_if asks channel pdu) facts)
asks_fits setup true channel pdu facts many handles = fits_doing setup (Requests channel (sender_of pdu)) facts many handles tt
asks_fits setup false channel pdu facts many handles = fits_doing setup Rests facts many handles tt

reply_if_fits : (setup : Setup) (replies : Bool) (handle : ℕ) (facts : Facts) → length facts.links ≡ setup.links
    → HaveHandles 0 facts.links → HaveOwnHandles setup (facts_doing (reply_if replies handle) facts)
reply_if_fits setup true handle facts many handles = fits_doing setup (PeripheralSends handle) facts many handles tt
reply_if_fits setup false handle facts many handles = fits_doing setup Rests facts many handles tt

reply_fits : (setup : Setup) (replies room : Bool) (handle : ℕ) (octets : List ℕ) (facts : Facts) → HaveOwnHandles setup facts
    → HaveOwnHandles setup (facts_doing (reply_if replies handle) (link_received handle room octets facts))
reply_fits setup replies room handle octets facts fits =
    let opens = receiving_opens handle room octets facts in
    reply_if_fits setup replies handle (link_received handle room octets facts) (opens.many ∙ fits.many) (opens.handles fits.handles)

passes_fits : (setup : Setup) (facts : Facts) → HaveOwnHandles setup facts
    → EachOutcome setup facts (λ outcome. HaveOwnHandles setup (facts_passed outcome))
passes_fits setup facts fits = record {
  rests = fits_doing setup Rests facts fits.many fits.handles tt;
  awaits_request = λ channel doing. fits_doing setup (AwaitsRequest channel) facts fits.many fits.handles tt;
  awaits_response = λ channel advertiser doing. fits_doing setup (AwaitsResponse channel) facts fits.many fits.handles tt;
  central_listens = λ handle doing. fits_doing setup (CentralListens handle) facts fits.many fits.handles tt;
  sent = λ channel link doing. opened_fits setup link facts fits;
  responds = λ channel on doing is_on. fits_doing setup (Responds channel) facts fits.many fits.handles tt;
  taken = λ channel octets pdu on fields handle is_on hears takes free. opened_fits setup (link_taken facts.view on.params.own pdu fields handle) facts fits;
  scanned = λ channel octets pdu on doing is_on hears. asks_fits setup (true && does_ask (scan_answer on.params facts.view.accepted on.recent pdu)) channel pdu (with_scanner (scanner_after on facts.view.accepted pdu) facts) fits.many fits.handles;
  answered = λ channel octets pdu on doing is_on hears. asks_fits setup (false && does_ask (scan_answer on.params facts.view.accepted on.recent pdu)) channel pdu (with_scanner (scanner_after on facts.view.accepted pdu) facts) fits.many fits.handles;
  connects = λ channel octets pdu on access handle doing is_on hears answers next free in_range.
      fits_doing setup (Connects channel (link_made facts.view on.params.own pdu (fields_sent setup on access facts) handle)) (facts_connecting setup facts)
      fits.many fits.handles (free_is_new facts.links handle free);
  received = λ handle octets.
      reply_fits setup (replies_in facts.turn.slot (has_room setup facts) (link_at handle facts.links) octets) (has_room setup facts)
      handle octets facts fits;
}

pub handles_kept : (setup : Setup) → IsKept setup (HaveOwnHandles setup) (HaveOwnHandles setup)
handles_kept setup = record {
  accepted = λ facts opcode octets command is accepted fits.
      fits_still setup facts _ (command_opens command facts.links) refl fits;
  asked = λ facts command asks fits left. fits_still setup facts _ (asked_opens command (moment_of setup facts) facts.links) refl fits;
  given = λ facts handle count start octets is fits.
      fits_still setup facts _ (change_opens handle (link_after (DataGiven start octets)) facts.links (λ link. refl)) refl fits;
  octet = λ facts octet fits. record { many = fits.many; handles = fits.handles; new = fits.new };
  turns = record {
    starts = record {
      weakens = λ facts fits. fits;
      ends = λ reason facts fits. fits_still setup facts _ (staying_opens reason facts.links) refl fits;
      begins = λ slot facts fits. record { many = fits.many; handles = fits.handles; new = fits.new };
      enters = λ slot facts fits. fits_still setup facts _ (mapped_opens (link_entered slot) facts.links (entered_same slot)) refl fits;
      wins = λ slot activity facts fits. fits_still setup facts _ (won_opens slot activity facts.links) refl fits;
      fixes = λ doing facts fits. fits_still setup facts _ (fixing_opens doing facts.links) refl fits;
      does = λ doing facts may fits. fits_doing setup doing facts fits.many fits.handles (begin_new facts.links doing may);
    };
    reports = λ facts fits. fits_still setup facts _ (mapped_opens link_reported facts.links reported_same) refl fits;
    passes = λ facts fits. passes_fits setup facts fits;
    words = λ handle facts listens fits. words_own setup handle facts fits;
  };
}

pub own_handles : (setup : Setup) (past : List Step) → HaveOwnHandles setup (facts_of setup past)
own_handles setup past =
    always setup (HaveOwnHandles setup) (HaveOwnHandles setup) (handles_kept setup)
    (record { many = count_at_first setup.links None; handles = none_have 0 setup.links; new = tt }) past

-- a link that is open is under its own handle
below_from : (first handle : ℕ) (links : Links) → HaveHandles first links
    → IfSome (link_from first handle links) (λ link. link.setup.link.handle < first + length links)
below_from first handle [] have = tt
below_from first handle (place ∷ links) have =
    at (first == handle) place have.0 (later (link_from (first + 1) handle links) (below_from (first + 1) handle links have.1))
  where
    later : (found : Option OpenLink) → IfSome found (λ link. link.setup.link.handle < first + 1 + length links)
        → IfSome found (λ link. link.setup.link.handle < first + suc (length links))
    later None below = tt
    later (Some link) below = omega (arith, below)

    here : (place : Option OpenLink) → HasHandle first place → IfSome place (λ link. link.setup.link.handle < first + suc (length links))
    here None has = tt
    here (Some link) has = omega (arith, has)

    at : (test : Bool) (place : Option OpenLink) → HasHandle first place
        → IfSome (link_from (first + 1) handle links) (λ link. link.setup.link.handle < first + suc (length links))
        → IfSome (if test then place else link_from (first + 1) handle links) (λ link. link.setup.link.handle < first + suc (length links))
    at true place has rest = here place has
    at false place has rest = rest

pub below_at : (handle : ℕ) (links : Links) → HaveHandles 0 links
    → IfSome (link_at handle links) (λ link. link.setup.link.handle < 0 + length links)
below_at handle links have = below_from 0 handle links have

-- the handle of a link that is to be opened
pub new_handle : (setup : Setup) (past : List Step) (channel : ℕ) (link : LinkSetup)
    → (facts_of setup past).turn.doing ≡ Connects channel link
    → (link.handle < setup.links) × (link_at link.handle (facts_of setup past).links ≡ None)
new_handle setup past channel link is =
    let own = own_handles setup past in
    let new = subst (IsNew (facts_of setup past).links) is own.new in
    (subst (λ n. link.handle < n) own.many new.0, new.1)
