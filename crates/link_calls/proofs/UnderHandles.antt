-- What is open under a handle after each change of the links of a controller.
use Rattle.std.proofs.Common.{◌≡◌, ℕ, ◌+◌, ◌==◌, Bool, true, false, Option, Some, None, List, [], ◌∷◌, ◌++◌, length, map, take, refl, sym, ap, subst, ◌∙◌, append-nil, arith, length-append}
use Rattle.std.specs.Prelude.{◌&&◌, nat_lt, if◌then◌else◌}
use Rattle.std.specs.Option.{option_map}
use Rattle.std.proofs.lemmas.Bool.{eqb-true, eqb-false}
use Rattle.std.proofs.Math.Seq.{take-append_seam}
use Rattle.h4_frames.specs.declared.packet.HostPacket.TheVariants.{Command as HostCommand, Acl}
use Rattle.h4_frames.specs.declared.packet.Fed.{Fed}
use Rattle.h4_frames.specs.declared.packet.Fed.TheVariants.{More, Packet, LostSync}
use Rattle.hci_cmd.specs.declared.command.Command.{Command}
use Rattle.hci_cmd.specs.declared.command.Command.TheVariants.{Reset}
use Rattle.hci_cmd.specs.declared.command.CmdRead.{CmdRead}
use Rattle.hci_cmd.specs.declared.command.CmdRead.TheVariants.{Known, UnknownOpcode, BadLength}
use Rattle.hci_cmd.specs.Command.{command_of}
use Rattle.run_laws.specs.host_view.OnLinks.{asks_links}
use Rattle.run_laws.specs.host_view.Status.{status_of}
use Rattle.run_laws.specs.link_model.Setup.{Setup as EndSetup}
use Rattle.run_laws.specs.link_model.Facts.{Facts as EndFacts}
use Rattle.run_laws.specs.link_model.Step.{Step as EndStep, DataGiven, DataReported, PduFixed, PacketSent}
use Rattle.run_laws.specs.link_model.Times.{ending_of}
use Rattle.run_laws.specs.open_links.declared.offers.Offer.{Offer}
use Rattle.run_laws.specs.open_links.declared.offers.Offer.TheVariants.{NoLink, Empty, Overflow, Kept}
use Rattle.run_laws.specs.open_links.Data.{complete_in, link_reported, links_given, links_reported}
use Rattle.run_laws.specs.open_links.OpenLinks.{Links, OpenLink, facts_in, link_after, link_at, link_from, new_link, with_change, with_change_from, with_link}
use Rattle.run_laws.specs.open_links.Turns.{ending_in, link_entered, links_without, place_without, staying_by}
use Rattle.run_laws.proofs.open_links.Ends.{stays_where_not_due}
use Rattle.run_laws.proofs.open_links.Handles.{changed_is, other_stays}
use Rattle.run_laws.specs.controller_model.declared.doing.Doing.{Doing}
use Rattle.run_laws.specs.controller_model.declared.doing.Doing.TheVariants.{Advertises, CentralSends, PeripheralListens, PeripheralSends}
use Rattle.run_laws.specs.controller_model.Step.{HostOctet, TurnEnds}
use Rattle.run_laws.specs.controller_model.Facts.{Setup, Facts}
use Rattle.run_laws.specs.controller_model.Commands.{facts_asking, facts_commanded, facts_known, links_after, moment_of}
use Rattle.run_laws.specs.controller_model.Entering.{all_entered}
use Rattle.run_laws.specs.controller_model.Host.{commands_accepted_after, commands_accepted_by, commands_accepted_in}
use Rattle.run_laws.specs.controller_model.link_commands.declared.moments.Moment.{Moment}
use Rattle.run_laws.specs.controller_model.link_commands.Commands.{host_step_of, is_about, step_if_about}
use Rattle.run_laws.specs.controller_model.link_commands.LinksCommanded.{link_after_if, links_commanded, place_commanded}
use Rattle.run_laws.specs.controller_model.Data.{facts_handed, facts_offered, offer_of}
use Rattle.run_laws.specs.controller_model.Packets.{links_sending}
use Rattle.run_laws.specs.controller_model.Radio.{links_fixing}
use Rattle.run_laws.specs.controller_model.Side.{facts_after, facts_fed, result_of}
use Rattle.run_laws.proofs.controller_model.Always.{leaving_is}
use Rattle.run_laws.proofs.Agreed.{ack_asked, ack_given, ack_of, ack_reported, step_facts}
use Rattle.run_laws.proofs.controller_model.Asked.{IsAskedStep, asked_at}
use Rattle.link_calls.specs.Hosts.{HasHeardHost, GetsData, IsAsked, Unchanged}
use Rattle.link_calls.specs.Turns.{HasEndedTurn, change_if, sent_if}
use Rattle.link_calls.specs.Uses.{fixes_under, sends_under}
use Rattle.link_calls.proofs.HostSteps.{asked_is_well, asked_leaves}
use Rattle.link_calls.proofs.Lengths.{is_lengthened}

-- a place that is open after a change of it was open before
pub record WasOpen (change : OpenLink → OpenLink) (before : Option OpenLink) (after : OpenLink) : Type 0 where
  pub link : OpenLink
  pub was : before ≡ Some link
  pub is : after ≡ change link

pub was_open : (change : OpenLink → OpenLink) (before : Option OpenLink) (after : OpenLink) → option_map change before ≡ Some after → WasOpen change before after
was_open change None after is = absurd cc
was_open change (Some link) after is = let same : after ≡ change link = cc in record { link = link; was = refl; is = same }

-- ---- a change under one handle

pub change_by : (same : Bool) (handle other : ℕ) (change : OpenLink → OpenLink) (links : Links) → (handle == other) ≡ same
    → link_at other (with_change handle change links) ≡ option_map (change_if same change) (link_at other links)
change_by true handle other change links is =
    let one = eqb-true handle other is in
    subst (λ (n : ℕ). link_at other (with_change n change links) ≡ option_map change (link_at other links)) (sym one)
    (changed_is (option_map change) 0 other links refl)
change_by false handle other change links is =
    other_stays (option_map change) 0 handle other links (λ same. eqb-false handle other is (sym same)) ∙ map_same (link_at other links)
  where
    map_same : (place : Option OpenLink) → place ≡ option_map (change_if false change) place
    map_same None = refl
    map_same (Some link) = refl

pub change_under : (handle other : ℕ) (change : OpenLink → OpenLink) (links : Links) (after : OpenLink) → link_at other (with_change handle change links) ≡ Some after
    → WasOpen (change_if (handle == other) change) (link_at other links) after
change_under handle other change links after is =
    was_open (change_if (handle == other) change) (link_at other links) after (sym (change_by (handle == other) handle other change links refl) ∙ is)

-- ---- a link that is to send

same_front : (one other : List EndStep) (last step : EndStep) → one ++ last ∷ [] ≡ other ++ step ∷ [] → one ≡ other
same_front one other last step same =
    let long = ap length same in
    let count : length one ≡ length other = omega (arith, long, length-append one (last ∷ []), length-append other (step ∷ [])) in
    sym (take-append_seam one (last ∷ [])) ∙ (λ i. take (count i) (same i)) ∙ take-append_seam other (step ∷ [])

-- there is one link that it is after it sent
pub same_base : (slot now : ℕ) (one other : OpenLink) → link_after (PacketSent slot) one ≡ link_after (PacketSent now) other → one ≡ other
same_base slot now one other same =
    let pasts = same_front one.past other.past (PacketSent slot) (PacketSent now) (ap (λ (l : OpenLink). l.past) same) in
    λ i. record { setup = (same i).setup; past = pasts i; last_served = (same i).last_served }

nothing_sent : (place : Option OpenLink) (after : OpenLink) (slot : ℕ) → place ≡ Some after → WasOpen (sent_if false slot) place after
nothing_sent place after slot is = record { link = after; was = is; is = refl }

pub sending_under : (slot handle : ℕ) (doing : Doing) (links : Links) (after : OpenLink) → link_at handle (links_sending slot doing links) ≡ Some after
    → WasOpen (sent_if (sends_under handle doing) slot) (link_at handle links) after
sending_under slot handle (CentralSends other) links after is = change_under other handle (link_after (PacketSent slot)) links after is
sending_under slot handle (PeripheralSends other) links after is = change_under other handle (link_after (PacketSent slot)) links after is
sending_under slot handle (Advertises channel) links after is = nothing_sent (link_at handle links) after slot is
sending_under slot handle doing links after is = nothing_sent (link_at handle links) after slot is

-- ---- links that stay, and that enter an event

pub map_under : (change : Option OpenLink → Option OpenLink) → change None ≡ None → (first handle : ℕ) (links : Links)
    → link_from first handle (map change links) ≡ change (link_from first handle links)
map_under change none first handle [] = sym none
map_under change none first handle (place ∷ links) = at (first == handle) (map_under change none (first + 1) handle links)
  where
    at : (test : Bool) → link_from (first + 1) handle (map change links) ≡ change (link_from (first + 1) handle links)
        → (if test then change place else link_from (first + 1) handle (map change links)) ≡ change (if test then place else link_from (first + 1) handle links)
    at true rest = refl
    at false rest = rest

pub entered_under : (slot handle : ℕ) (links : Links) (after : OpenLink) → link_at handle (all_entered slot links) ≡ Some after
    → WasOpen (link_entered slot) (link_at handle links) after
entered_under slot handle links after is =
    was_open (link_entered slot) (link_at handle links) after (sym (map_under (option_map (link_entered slot)) refl 0 handle links) ∙ is)

-- a link has no such reason to end
pub record HasStayed (reason : OpenLink → Option ℕ) (place : Option OpenLink) (after : OpenLink) : Type 0 where
  pub was : place ≡ Some after
  pub stays : reason after ≡ None

staying : (reason : OpenLink → Option ℕ) (place : Option OpenLink) (after : OpenLink) → place_without reason place ≡ Some after → HasStayed reason place after
staying reason None after is = absurd cc
staying reason (Some link) after is = by (reason link) refl is
  where
    by : (code : Option ℕ) → reason link ≡ code → staying_by code link ≡ Some after → HasStayed reason (Some link) after
    by None none same =
        let equal : link ≡ after = cc in record { was = same; stays = subst (λ (l : OpenLink). reason l ≡ None) equal none }
    by (Some code) some same = absurd cc

pub staying_under : (reason : OpenLink → Option ℕ) (handle : ℕ) (links : Links) (after : OpenLink) → link_at handle (links_without reason links) ≡ Some after
    → HasStayed reason (link_at handle links) after
staying_under reason handle links after is = staying reason (link_at handle links) after (sym (stays_where_not_due reason 0 handle links) ∙ is)

-- ---- a link that is opened

-- under its handle there is the new one
new_by : (end : EndSetup) (first handle : ℕ) (links : Links) (after : OpenLink)
    → link_from first handle (with_change_from first handle (λ place. Some (new_link end)) links) ≡ Some after → after ≡ new_link end
new_by end first handle [] after is = absurd cc
new_by end first handle (place ∷ links) after is = at (first == handle) refl is (new_by end (first + 1) handle links after)
  where
    at : (test : Bool) → (first == handle) ≡ test
        → link_from first handle (if test then Some (new_link end) ∷ links else place ∷ with_change_from (first + 1) handle (λ place. Some (new_link end)) links) ≡ Some after
        → (link_from (first + 1) handle (with_change_from (first + 1) handle (λ place. Some (new_link end)) links) ≡ Some after → after ≡ new_link end)
        → after ≡ new_link end
    at true e found rest =
        let same : Some (new_link end) ≡ Some after = sym (ap (λ (b : Bool). if b then Some (new_link end) else link_from (first + 1) handle links) e) ∙ found in cc
    at false e found rest =
        rest (sym (ap (λ (b : Bool). if b then place else link_from (first + 1) handle (with_change_from (first + 1) handle (λ place. Some (new_link end)) links)) e) ∙ found)

-- it is the new one, or was open before under another handle
abbrev pub IsOpenedIf : Bool → EndSetup → Option OpenLink → OpenLink → Type 0
IsOpenedIf true end before after = after ≡ new_link end
IsOpenedIf false end before after = before ≡ Some after

pub opened_under : (end : EndSetup) (handle : ℕ) (links : Links) (after : OpenLink) → link_at handle (with_link end links) ≡ Some after → (same : Bool) → (end.link.handle == handle) ≡ same
    → IsOpenedIf same end (link_at handle links) after
opened_under end handle links after is true one =
    let equal = eqb-true end.link.handle handle one in
    new_by end 0 handle links after (subst (λ (n : ℕ). link_at handle (with_change_from 0 n (λ place. Some (new_link end)) links) ≡ Some after) equal is)
opened_under end handle links after is false differs =
    sym (other_stays (λ place. Some (new_link end)) 0 end.link.handle handle links (λ same. eqb-false end.link.handle handle differs (sym same))) ∙ is

-- ---- a link that fixes the PDU that it sends next

nothing_fixed : (place : Option OpenLink) (after : OpenLink) → place ≡ Some after → WasOpen (change_if false (link_after PduFixed)) place after
nothing_fixed place after is = record { link = after; was = is; is = refl }

pub fixing_under : (handle : ℕ) (doing : Doing) (links : Links) (after : OpenLink) → link_at handle (links_fixing doing links) ≡ Some after
    → WasOpen (change_if (fixes_under handle doing) (link_after PduFixed)) (link_at handle links) after
fixing_under handle (CentralSends other) links after is = change_under other handle (link_after PduFixed) links after is
fixing_under handle (PeripheralListens other) links after is = change_under other handle (link_after PduFixed) links after is
fixing_under handle (Advertises channel) links after is = nothing_fixed (link_at handle links) after is
fixing_under handle doing links after is = nothing_fixed (link_at handle links) after is

-- ---- an octet of the host

module _ (setup : Setup) (facts : Facts) (octet handle : ℕ) (after : OpenLink) where
  abbrev moment : Moment
  moment = moment_of setup facts

  given_under : (start : Bool) (body : List ℕ) (other : ℕ) → link_at handle (links_given other start body facts.links) ≡ Some after
      → HasHeardHost setup facts octet handle after
  given_under start body other is =
      by (other == handle) (change_under other handle (link_after (DataGiven start body)) facts.links after is)
    where
      by : (same : Bool) → WasOpen (change_if same (link_after (DataGiven start body))) (link_at handle facts.links) after → HasHeardHost setup facts octet handle after
      by true was = GetsData was.link start body was.was was.is
      by false was = Unchanged (was.was ∙ ap Some (sym was.is))

  command_under : (command : Command) → link_at handle (links_after command facts.links) ≡ Some after → link_at handle facts.links ≡ Some after
  command_under Reset is =
      absurd (let h : None ≡ Some after = sym (map_under (λ place. None) refl 0 handle facts.links) ∙ is in absurd cc)
  command_under other is = is

  known_under : (accepted : Bool) (command : Command) → link_at handle (facts_known accepted setup facts command).links ≡ Some after
      → HasHeardHost setup facts octet handle after
  known_under true command is = Unchanged (command_under command is)
  known_under false command is = Unchanged is

  -- a command that asks something of links is accepted
  asked_under : (command : Command) → commands_accepted_after facts (HostOctet octet) ≡ command ∷ []
      → link_at handle (links_commanded command moment facts.links) ≡ Some after → HasHeardHost setup facts octet handle after
  asked_under command accepted is =
      at (is_about handle command) refl (link_at handle facts.links) refl (sym (asked_at command moment handle facts.links) ∙ is)
    where
      made : (link : OpenLink) → link_at handle facts.links ≡ Some link → is_about handle command ≡ true → (step : Option EndStep)
          → host_step_of command moment link.setup.link.role (facts_in link).peer ≡ step → Some (link_after_if step link) ≡ Some after
          → HasHeardHost setup facts octet handle after
      made link was about None none same = Unchanged (was ∙ same)
      made link was about (Some step) some same =
          let equal : link_after step link ≡ after = cc in
          IsAsked link command step was accepted
          (ap (λ b. step_if_about b (host_step_of command moment link.setup.link.role (facts_in link).peer)) about ∙ some) (sym equal)

      at : (about : Bool) → is_about handle command ≡ about → (place : Option OpenLink) → link_at handle facts.links ≡ place
          → place_commanded about command moment place ≡ Some after → HasHeardHost setup facts octet handle after
      at false other place was same = Unchanged (was ∙ same)
      at true about None was same = absurd cc
      at true about (Some link) was same = made link was about (host_step_of command moment link.setup.link.role (facts_in link).peer) refl same

  read_under : (read : CmdRead) → commands_accepted_after facts (HostOctet octet) ≡ commands_accepted_by facts read
      → link_at handle (facts_commanded setup facts read).links ≡ Some after → HasHeardHost setup facts octet handle after
  read_under (Known command) accepted is = by (status_of facts.view command == 0) (asks_links facts.view command) refl is
    where
      by : (ok asks : Bool) → (status_of facts.view command == 0) ≡ ok
          → link_at handle (facts_asking (ok && asks) setup facts command (facts_known ok setup facts command)).links ≡ Some after → HasHeardHost setup facts octet handle after
      by true true ok found = asked_under command (accepted ∙ ap (λ b. if b then command ∷ [] else []) ok) found
      by true false ok found = known_under true command found
      by false asks ok found = known_under false command found
  read_under UnknownOpcode accepted is = Unchanged is
  read_under BadLength accepted is = Unchanged is

  offered_under : (offer : Offer) (other : ℕ) (start : Bool) (body : List ℕ) → link_at handle (facts_offered offer other start body facts).links ≡ Some after
      → HasHeardHost setup facts octet handle after
  offered_under Kept other start body is = given_under start body other is
  offered_under NoLink other start body is = Unchanged is
  offered_under Empty other start body is = Unchanged is
  offered_under Overflow other start body is = Unchanged is

  fed_under : (fed : Fed) → result_of facts.octets octet ≡ fed → link_at handle (facts_fed setup facts fed).links ≡ Some after
      → HasHeardHost setup facts octet handle after
  fed_under (Packet (HostCommand opcode body)) fed is = read_under (command_of opcode body.items) (ap (commands_accepted_in facts) fed) is
  fed_under (Packet (Acl other start count body)) fed is = offered_under (offer_of setup facts other count) other start body.items is
  fed_under LostSync fed is = Unchanged is
  fed_under More fed is = Unchanged is

pub host_under : (setup : Setup) (facts : Facts) (octet handle : ℕ) (after : OpenLink)
    → link_at handle (facts_after setup facts (HostOctet octet)).links ≡ Some after → HasHeardHost setup facts octet handle after
host_under setup facts octet handle after is = fed_under setup facts octet handle after (result_of facts.octets octet) refl is

-- ---- a turn ends

-- what is under the handle then
pub ended_place : (setup : Setup) (facts : Facts) (handle : ℕ)
    → link_at handle (facts_after setup facts TurnEnds).links ≡ place_without ending_in (option_map link_reported (link_at handle facts.links))
ended_place setup facts handle =
    ap (λ (left : Facts). link_at handle left.links) (leaving_is (facts_handed facts)) ∙ stays_where_not_due ending_in 0 handle (links_reported facts.links)
    ∙ ap (place_without ending_in) (map_under (option_map link_reported) refl 0 handle facts.links)

pub ended_under : (setup : Setup) (facts : Facts) (handle : ℕ) (after : OpenLink)
    → link_at handle (facts_after setup facts TurnEnds).links ≡ Some after → HasEndedTurn facts.links handle after
ended_under setup facts handle after is =
    let stayed = staying ending_in (option_map link_reported (link_at handle facts.links)) after (sym (ended_place setup facts handle) ∙ is) in
    let was = was_open link_reported (link_at handle facts.links) after stayed.was in
    record { link = was.link; was = was.was; is = was.is; stays = stayed.stays }

-- to report what is complete changes nothing of why a link ends
pub reported_ends : (link : OpenLink) → ending_of (facts_in (link_reported link)) ≡ ending_of (facts_in link)
reported_ends link = by (nat_lt 0 (complete_in link))
  where
    by : (reports : Bool) → ending_of (facts_in (if reports then link_after DataReported link else link)) ≡ ending_of (facts_in link)
    by true = ap ending_of (step_facts link DataReported)
    by false = refl

-- ---- what stays of a link as its host gives it data or asks it something, or data is reported

-- the link that was there before has sent and accepted the same, and is in the same event
pub record WasAlike (place : Option OpenLink) (after : OpenLink) : Type 0 where
  pub link : OpenLink
  pub was : place ≡ Some link
  pub setup : after.setup ≡ link.setup
  pub ack : ack_of after ≡ ack_of link
  pub event : (facts_in after).event ≡ (facts_in link).event
  pub good : (facts_in after).last_good ≡ (facts_in link).last_good
  -- a length that is long, or was changed in that event, stays so
  pub lengthened : is_lengthened (facts_in link).lengths ≡ true → is_lengthened (facts_in after).lengths ≡ true
  -- some steps more happened to it
  pub more : List EndStep
  pub past : after.past ≡ link.past ++ more

alike_same : (place : Option OpenLink) (after : OpenLink) → place ≡ Some after → WasAlike place after
alike_same place after is = record {
  link = after;
  was = is;
  setup = refl;
  ack = refl;
  event = refl;
  good = refl;
  lengthened = λ is. is;
  more = [];
  past = sym (append-nil after.past);
}

given_alike : (place : Option OpenLink) (start : Bool) (body : List ℕ) (link : OpenLink) → place ≡ Some link → WasAlike place (link_after (DataGiven start body) link)
given_alike place start body link is =
    let same = step_facts link (DataGiven start body) in record {
      link = link;
      was = is;
      setup = refl;
      ack = ack_given start body link;
      event = ap (λ (f : EndFacts). f.event) same;
      good = ap (λ (f : EndFacts). f.last_good) same;
      lengthened = λ is. ap (λ (f : EndFacts). is_lengthened f.lengths) same ∙ is;
      more = DataGiven start body ∷ [];
      past = refl;
    }

reported_alike : (place : Option OpenLink) (link : OpenLink) → place ≡ Some link → WasAlike place (link_after DataReported link)
reported_alike place link is =
    let same = step_facts link DataReported in record {
      link = link;
      was = is;
      setup = refl;
      ack = ack_reported link;
      event = ap (λ (f : EndFacts). f.event) same;
      good = ap (λ (f : EndFacts). f.last_good) same;
      lengthened = λ is. ap (λ (f : EndFacts). is_lengthened f.lengths) same ∙ is;
      more = DataReported ∷ [];
      past = refl;
    }

alike_is : (place : Option OpenLink) (one after : OpenLink) → after ≡ one → WasAlike place one → WasAlike place after
alike_is place one after is alike = subst (WasAlike place) (sym is) alike

asked_alike : (place : Option OpenLink) (step : EndStep) (link : OpenLink) → place ≡ Some link → IsAskedStep step → WasAlike place (link_after step link)
asked_alike place step link is by_host =
    let same = step_facts link step in
    let leaves = asked_leaves link.setup (facts_in link) step by_host in record {
      link = link;
      was = is;
      setup = refl;
      ack = ack_asked step link by_host;
      event = ap (λ (f : EndFacts). f.event) same ∙ leaves.event;
      good = ap (λ (f : EndFacts). f.last_good) same ∙ leaves.good;
      lengthened = λ long. ap (λ (f : EndFacts). is_lengthened f.lengths) same ∙ leaves.lengthened long;
      more = step ∷ [];
      past = refl;
    }

host_alike : (setup : Setup) (facts : Facts) (octet handle : ℕ) (after : OpenLink) → HasHeardHost setup facts octet handle after → WasAlike (link_at handle facts.links) after
host_alike setup facts octet handle after (Unchanged was) = alike_same (link_at handle facts.links) after was
host_alike setup facts octet handle after (GetsData link start body was is) =
    let place = link_at handle facts.links in
    alike_is place (link_after (DataGiven start body) link) after is (given_alike place start body link was)
host_alike setup facts octet handle after (IsAsked link command step was accepted asks is) =
    let place = link_at handle facts.links in
    let well = asked_is_well setup facts octet handle command link.setup.link.role (facts_in link).peer step accepted asks in
    alike_is place (link_after step link) after is (asked_alike place step link was well.by_host)

pub octet_under : (setup : Setup) (facts : Facts) (octet handle : ℕ) (after : OpenLink)
    → link_at handle (facts_after setup facts (HostOctet octet)).links ≡ Some after → WasAlike (link_at handle facts.links) after
octet_under setup facts octet handle after is = host_alike setup facts octet handle after (host_under setup facts octet handle after is)

pub end_under : (setup : Setup) (facts : Facts) (handle : ℕ) (after : OpenLink)
    → link_at handle (facts_after setup facts TurnEnds).links ≡ Some after → WasAlike (link_at handle facts.links) after
end_under setup facts handle after is = found (ended_under setup facts handle after is)
  where
    by : (reports : Bool) (link : OpenLink) → link_at handle facts.links ≡ Some link → after ≡ (if reports then link_after DataReported link else link)
        → WasAlike (link_at handle facts.links) after
    by true link was same = alike_is (link_at handle facts.links) _ after same (reported_alike (link_at handle facts.links) link was)
    by false link was same = alike_is (link_at handle facts.links) link after same (alike_same (link_at handle facts.links) link was)

    found : HasEndedTurn facts.links handle after → WasAlike (link_at handle facts.links) after
    found ended = by (nat_lt 0 (complete_in ended.link)) ended.link ended.was ended.is
