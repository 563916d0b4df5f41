-- The open links of a controller after each call on it.
use Rattle.std.proofs.Common.{◌≡◌, ℕ, zero, suc, ◌+◌, ◌%◌, ◌^◌, ◌≤◌, ◌==◌, Bool, true, false, Option, Some, None, List, [], ◌∷◌, replicate, reverse, refl, sym, subst, ◌∙◌, arith}
use Rattle.std.proofs.lemmas.Bool.{eqb-true}
use Rattle.std.specs.Prelude.{IfSome, ⊤, nat_lt, if◌then◌else◌, ◌&&◌, Ok, Err, is_some}
use Rattle.std.specs.Option.{option_map}
use Rattle.adv_pdu.specs.declared.pdu.AdvPdu.{AdvPdu}
use Rattle.adv_pdu.specs.declared.pdu.ConnectFields.{ConnectFields}
use Rattle.advertise.specs.declared.answers.AdvAnswer.TheVariants.{Connect as Takes}
use Rattle.advertise.specs.Advertising.{AdvertiserFacts}
use Rattle.advertise.specs.Answers.{advertiser_answer}
use Rattle.h4_frames.specs.declared.packet.HostPacket.TheVariants.{Command as HostCommand, Acl}
use Rattle.h4_frames.specs.declared.packet.Fed.{Fed}
use Rattle.h4_frames.specs.declared.packet.Fed.TheVariants.{More, Packet, LostSync}
use Rattle.hci_cmd.specs.declared.command.Command.{Command}
use Rattle.hci_cmd.specs.declared.command.Command.TheVariants.{Disconnect, LeConnectionUpdate, LeEnableEncryption, LeKeyNegative, LeKeyReply, LeParamNegative, LeParamReply, LeReadRemoteFeatures, LeSetChannels, LeSetDataLength, LeSetPhy, ReadRemoteVersion, Reset}
use Rattle.hci_cmd.specs.declared.command.CmdRead.{CmdRead}
use Rattle.hci_cmd.specs.declared.command.CmdRead.TheVariants.{Known, UnknownOpcode, BadLength}
use Rattle.hci_cmd.specs.Command.{command_of}
use Rattle.host_view.specs.View.{View}
use Rattle.host_view.specs.OnLinks.{asks_links}
use Rattle.host_view.specs.Status.{status_of}
use Rattle.ble_base.specs.ChannelMap.{IsMap}
use Rattle.ble_base.specs.ErrorCodes.{unsupported_remote_feature}
use Rattle.ble_base.specs.declared.roles.Role.{Role}
use Rattle.ble_base.specs.declared.roles.Role.TheVariants.{Central, Peripheral}
use Rattle.data_pdu.specs.declared.ctrl.Ctrl.{Ctrl}
use Rattle.data_pdu.specs.declared.ctrl.Ctrl.TheVariants.{EncReq}
use Rattle.run_model.specs.procedure_stages.declared.steps.Effect.{Effect}
use Rattle.run_model.specs.procedure_stages.declared.steps.Effect.TheVariants.{AskHost, Cipher}
use Rattle.run_model.specs.link_model.Setup.{Setup as EndSetup}
use Rattle.run_model.specs.link_model.AskRanges.{IsAskInRange}
use Rattle.run_model.specs.link_model.Step.{Step as EndStep, DataGiven, DataReported, Disconnected, KeyAnswered, PacketReceived, PacketSent, PduFixed, ProcedureAsked, RequestAnswered, WordsGiven}
use Rattle.run_model.specs.link_model.declared.state.PeerFacts.{PeerFacts}
use Rattle.run_model.specs.procedure_values.declared.asks.Ask.{Ask}
use Rattle.run_model.specs.procedure_values.declared.asks.Ask.TheVariants.{Encrypt, Features, Length, Map, Phy, Request, Update, Version}
use Rattle.run_model.specs.procedure_values.Wants.{IsAsk}
use Rattle.run_model.specs.link_model.declared.setup.LinkSetup.{LinkSetup}
use Rattle.slot_plan.specs.declared.Activity.{Activity}
use Rattle.slot_plan.specs.declared.Activity.TheVariants.{Link, Advertise, Scan, Initiate}
use Rattle.slot_plan.specs.Holding.{is_held_in, winner_of}
use Rattle.run_model.specs.open_links.Data.{complete_in, links_reported}
use Rattle.run_model.specs.open_links.OpenLinks.{Links, OpenLink, facts_in, link_after, link_at, link_from, link_served, new_link, with_change, with_change_from, with_link, without_links}
use Rattle.run_model.proofs.open_links.Handles.{here, later}
use Rattle.run_model.specs.open_links.Turns.{due_in, ending_in, link_entered, links_without, staying_by}
use Rattle.scan_init.specs.Reports.{does_ask, scan_answer}
use Rattle.run_model.specs.controller_model.declared.doing.Doing.{Doing}
use Rattle.run_model.specs.controller_model.declared.doing.Doing.TheVariants.{Advertises, Connects, CentralSends, PeripheralListens, PeripheralSends, Rests}
use Rattle.run_model.specs.controller_model.Step.{HostOctet, TurnBegins, TurnEnds}
use Rattle.run_model.specs.controller_model.Facts.{Setup, Facts}
use Rattle.run_model.specs.controller_model.Commands.{facts_asking, facts_commanded, facts_known, links_after, moment_of}
use Rattle.run_model.specs.controller_model.link_commands.Commands.{AsksInRange, ask_unless, host_step_of, is_about, map_by, transmit_maximum, update_by}
use Rattle.run_model.specs.controller_model.link_commands.declared.moments.Moment.{Moment}
use Rattle.run_model.specs.controller_model.link_commands.LinksCommanded.{link_after_if, links_commanded_from, place_commanded}
use Rattle.run_model.specs.open_links.declared.offers.Offer.{Offer}
use Rattle.run_model.specs.open_links.declared.offers.Offer.TheVariants.{NoLink, Empty, Overflow, Kept}
use Rattle.run_model.specs.controller_model.Data.{facts_handed, facts_offered, offer_of}
use Rattle.run_model.specs.controller_model.Heard.{answer_unless, asks_if, effect_in, facts_with_words, has_room, kept_effect_in, key_refusal, link_heard, link_taken, links_refusing, opens, or_refusal, refusal_of, replies_in, reply_if}
use Rattle.run_model.specs.controller_model.Links.{facts_ending}
use Rattle.run_model.specs.controller_model.Outcome.{Outcome, facts_passed}
use Rattle.run_model.specs.controller_model.Packets.{links_sending}
use Rattle.run_model.specs.controller_model.Radio.{facts_entering, links_fixing, outcome_begun, plan_in, served, radio_served, turn_begins, winner_served}
use Rattle.run_model.specs.controller_model.Side.{facts_after, facts_fed, result_of}
use Rattle.run_model.proofs.controller_model.Always.{ending_is, leaving_is, links_won, opening_passes, winning_is}
use Rattle.run_model.proofs.controller_model.Phases.{EachOutcome, heard_is, unheard_is}
use Rattle.run_model.specs.Run.{step_of}
use Rattle.run_model.specs.controller_model.Entering.{all_entered}
use Rattle.run_model.proofs.controller_model.Asked.{IsAskedStep}
use Rattle.run_model.proofs.controller_model.Places.{refusal_at}
use Rattle.run_model.proofs.controller_model.link_commands.Ranges.{asked_in_range}

-- ---- a fact of each open link

abbrev pub AtOpen : (OpenLink → Type 0) → Option OpenLink → Type 0
AtOpen P None = ⊤
AtOpen P (Some link) = P link

abbrev pub EachOpen : (OpenLink → Type 0) → Links → Type 0
EachOpen P [] = ⊤
EachOpen P (place ∷ links) = AtOpen P place × EachOpen P links

pub open_has : (P : OpenLink → Type 0) (first handle : ℕ) (links : Links) (link : OpenLink) → EachOpen P links → link_from first handle links ≡ Some link → P link
open_has P first handle [] link each is = absurd cc
open_has P first handle (place ∷ links) link each is = at (first == handle) is (open_has P (first + 1) handle links link each.1)
  where
    here : (one : Option OpenLink) → AtOpen P one → one ≡ Some link → P link
    here None has same = absurd cc
    here (Some other) has same = let equal : other ≡ link = cc in subst P equal has

    at : (test : Bool) → (if test then place else link_from (first + 1) handle links) ≡ Some link
        → (link_from (first + 1) handle links ≡ Some link → P link) → P link
    at true found rest = here place each.0 found
    at false found rest = rest found

-- a link is under a handle from the first on
from_first : (first handle : ℕ) (links : Links) (link : OpenLink) → link_from first handle links ≡ Some link → first ≤ handle
from_first first handle [] link is = absurd cc
from_first first handle (place ∷ links) link is = at (first == handle) refl is (from_first (first + 1) handle links link)
  where
    at : (test : Bool) → (first == handle) ≡ test → (if test then place else link_from (first + 1) handle links) ≡ Some link
        → (link_from (first + 1) handle links ≡ Some link → first + 1 ≤ handle) → first ≤ handle
    at true same found rest = let equal = eqb-true first handle same in omega (arith, equal)
    at false other found rest = let more = rest found in omega (arith, more)

pub each_under : (P : OpenLink → Type 0) (first : ℕ) (links : Links) → ((handle : ℕ) (link : OpenLink) → link_from first handle links ≡ Some link → P link) → EachOpen P links
each_under P first [] has = tt
each_under P first (place ∷ links) has = (
  at place refl,
  each_under P (first + 1) links (λ handle link is.
      let from = from_first (first + 1) handle links link is in
      has handle link (later first handle place links (omega (arith, from)) ∙ is)),
)
  where
    at : (one : Option OpenLink) → place ≡ one → AtOpen P one
    at None is = tt
    at (Some link) is = has first link (here first place links ∙ is)

pub open_more : (P Q : OpenLink → Type 0) (links : Links) → ((link : OpenLink) → P link → Q link) → EachOpen P links → EachOpen Q links
open_more P Q [] more each = tt
open_more P Q (None ∷ links) more each = (tt, open_more P Q links more each.1)
open_more P Q (Some link ∷ links) more each = (more link each.0, open_more P Q links more each.1)

pub none_open : (P : OpenLink → Type 0) (many : ℕ) → EachOpen P (replicate many None)
none_open P zero = tt
none_open P (suc many) = (tt, none_open P many)

-- the links that enter their events
pub enter_open : (P Q : OpenLink → Type 0) (slot : ℕ) (links : Links) → ((link : OpenLink) → P link → Q (link_entered slot link)) → EachOpen P links
    → EachOpen Q (all_entered slot links)
enter_open P Q slot [] more each = tt
enter_open P Q slot (None ∷ links) more each = (tt, enter_open P Q slot links more each.1)
enter_open P Q slot (Some link ∷ links) more each = (more link each.0, enter_open P Q slot links more each.1)

-- a change of the link under one handle
pub changed_at : (P : OpenLink → Type 0) (first handle : ℕ) (change : OpenLink → OpenLink) (links : Links)
    → ((link : OpenLink) → link_from first handle links ≡ Some link → P link → P (change link)) → EachOpen P links
    → EachOpen P (with_change_from first handle (option_map change) links)
changed_at P first handle change [] more each = tt
changed_at P first handle change (place ∷ links) more each = at (first == handle) refl more (changed_at P (first + 1) handle change links)
  where
    here : (one : Option OpenLink) → ((link : OpenLink) → one ≡ Some link → P link → P (change link)) → AtOpen P one → AtOpen P (option_map change one)
    here None more has = tt
    here (Some link) more has = more link refl has

    at : (test : Bool) → (first == handle) ≡ test
        → ((link : OpenLink) → (if test then place else link_from (first + 1) handle links) ≡ Some link → P link → P (change link))
        → (((link : OpenLink) → link_from (first + 1) handle links ≡ Some link → P link → P (change link)) → EachOpen P links
        → EachOpen P (with_change_from (first + 1) handle (option_map change) links))
        → EachOpen P (if test then option_map change place ∷ links else place ∷ with_change_from (first + 1) handle (option_map change) links)
    at true is own rest = (here place own each.0, each.1)
    at false is own rest = (each.0, rest own each.1)

-- ---- what a command makes on a link

-- a channel map that a host asks for is one
abbrev pub AsksForMap : EndStep → Type 0
AsksForMap (ProcedureAsked (Map map)) = IsMap map
AsksForMap other = ⊤

-- a step that a host makes by a command, with values in their range
pub record IsAskedWell (step : EndStep) : Type 0 where
  pub by_host : IsAskedStep step
  pub in_range : IsAskInRange step
  pub map : AsksForMap step

-- it keeps the fact
abbrev pub KeepsAsked : (OpenLink → Type 0) → Type 0
KeepsAsked P = (step : EndStep) (link : OpenLink) → IsAskedWell step → P link → P (link_after step link)

one_well : (one step : EndStep) → IsAskedWell one → Some one ≡ Some step → IsAskedWell step
one_well one step well is = let same : one ≡ step = cc in subst IsAskedWell same well

asked_well : (ask : Ask) (step : EndStep) → IsAsk ask → AsksForMap (ProcedureAsked ask) → Some (ProcedureAsked ask) ≡ Some step → IsAskedWell step
asked_well ask step ranged map is = one_well (ProcedureAsked ask) step (record { by_host = tt; in_range = ranged; map = map }) is

unless_well : (known : Bool) (ask : Ask) (step : EndStep) → IsAsk ask → AsksForMap (ProcedureAsked ask) → ask_unless known ask ≡ Some step → IsAskedWell step
unless_well true ask step ranged map is = absurd cc
unless_well false ask step ranged map is = asked_well ask step ranged map is

map_well : (role : Role) (map : ℕ) (step : EndStep) → IsMap map → map_by role map ≡ Some step → IsAskedWell step
map_well Central map step ranged is = asked_well (Map map) step tt ranged is
map_well Peripheral map step ranged is = absurd cc

update_well : (role : Role) (min max latency timeout : ℕ) (step : EndStep) → IsAsk (update_by role min max latency timeout)
    → Some (ProcedureAsked (update_by role min max latency timeout)) ≡ Some step → IsAskedWell step
update_well Central min max latency timeout step ranged is = asked_well (Update max latency timeout) step ranged tt is
update_well Peripheral min max latency timeout step ranged is = asked_well (Request min max latency timeout) step ranged tt is

-- an accepted command asks for what is in range
pub step_is_well : (command : Command) (moment : Moment) (role : Role) (peer : PeerFacts) (step : EndStep) → AsksInRange command
    → host_step_of command moment role peer ≡ Some step → IsAskedWell step
step_is_well (Disconnect handle reason) moment role peer step ranged is =
    one_well (Disconnected (record { 0 = reason }) moment.slot) step (record { by_host = tt; in_range = tt; map = tt }) is
step_is_well (ReadRemoteVersion handle) moment role peer step ranged is = unless_well (is_some peer.version) Version step tt tt is
step_is_well (LeReadRemoteFeatures handle) moment role peer step ranged is = unless_well (is_some peer.features) Features step tt tt is
step_is_well (LeSetDataLength handle octets time) moment role peer step ranged is =
    asked_well (Length (transmit_maximum octets time)) step ranged tt is
step_is_well (LeConnectionUpdate handle min max latency timeout lengths) moment role peer step ranged is =
    update_well role min max latency timeout step (ranged role) is
step_is_well (LeSetChannels map) moment role peer step ranged is = map_well role map step ranged is
step_is_well (LeSetPhy handle all tx rx options) moment role peer step ranged is = asked_well Phy step tt tt is
step_is_well (LeParamReply handle min max latency timeout lengths) moment role peer step ranged is =
    one_well (RequestAnswered (Ok (Update max latency timeout))) step (record { by_host = tt; in_range = ranged; map = tt }) is
step_is_well (LeParamNegative handle reason) moment role peer step ranged is =
    one_well (RequestAnswered (Err (record { 0 = reason % 256 }))) step (record { by_host = tt; in_range = tt; map = tt }) is
step_is_well (LeEnableEncryption handle rand ediv key) moment role peer step ranged is =
    asked_well (Encrypt (rand % 2 ^ 64) (ediv % 2 ^ 16) (reverse key) moment.skd_m moment.iv_m) step tt tt is
step_is_well (LeKeyReply handle key) moment role peer step ranged is =
    one_well (KeyAnswered (Some (reverse key)) moment.slot) step (record { by_host = tt; in_range = tt; map = tt }) is
step_is_well (LeKeyNegative handle) moment role peer step ranged is =
    one_well (KeyAnswered None moment.slot) step (record { by_host = tt; in_range = tt; map = tt }) is
step_is_well other moment role peer step ranged is = absurd cc

pub accepted_in_range : (view : View) (command : Command) → status_of view command ≡ 0 → AsksInRange command
unfolding status_of
accepted_in_range view command accepted = asked_in_range view command accepted

-- ---- what a controller answers at once to a request that the mask withholds from its host

answer_well : (passes : Bool) (step : EndStep) → IsAskedWell step → IfSome (answer_unless passes step) IsAskedWell
answer_well true step well = tt
answer_well false step well = well

key_well : (view : View) (handle slot : ℕ) (ctrl : Ctrl) → IfSome (key_refusal view handle slot ctrl) IsAskedWell
key_well view handle slot (EncReq rand ediv skd_m iv_m) = answer_well _ (KeyAnswered None slot) (record { by_host = tt; in_range = tt; map = tt })
key_well view handle slot other = tt

effect_well : (view : View) (handle slot : ℕ) (effect : Effect) → IfSome (refusal_of view handle slot effect) IsAskedWell
effect_well view handle slot (AskHost min max latency timeout) =
    answer_well _ (RequestAnswered (Err (record { 0 = unsupported_remote_feature }))) (record { by_host = tt; in_range = tt; map = tt })
effect_well view handle slot (Cipher ctrl) = key_well view handle slot ctrl
effect_well view handle slot other = tt

either_well : (one other : Option EndStep) → IfSome one IsAskedWell → IfSome other IsAskedWell → IfSome (or_refusal one other) IsAskedWell
either_well None other well also = also
either_well (Some step) other well also = well

pub refusal_is_well : (handle : ℕ) (room : Bool) (octets : List ℕ) (facts : Facts) → IfSome (refusal_at handle room octets facts) IsAskedWell
refusal_is_well handle room octets facts =
    let place = link_at handle facts.links in
    either_well _ _ (effect_well facts.view handle facts.turn.slot (effect_in facts.turn.slot room place octets))
    (effect_well facts.view handle facts.turn.slot (kept_effect_in facts.turn.slot room place octets))

-- ---- what each call keeps

-- what its host gives, and what is reported to it, keeps the fact
pub record IsKeptByHosts (P : OpenLink → Type 0) : Type 0 where
  pub given : (start : Bool) (body : List ℕ) (link : OpenLink) → P link → P (link_after (DataGiven start body) link)
  pub reported : (link : OpenLink) → P link → P (link_after DataReported link)

-- and what gets the radio, fixes its PDU and sends
pub record IsKeptServed (P : OpenLink → Type 0) : Type 0 where
  pub hosts : IsKeptByHosts P
  pub served : (slot : ℕ) (link : OpenLink) → P link → P (link_served slot link)
  pub fixed : (link : OpenLink) → P link → P (link_after PduFixed link)
  pub sent : (slot : ℕ) (link : OpenLink) → P link → P (link_after (PacketSent slot) link)

-- and what is given words, receives, and answers a request of the peer at once
pub record IsKeptOpen (P : OpenLink → Type 0) : Type 0 where
  pub serving : IsKeptServed P
  pub worded : (skd_s iv_s : ℕ) (link : OpenLink) → P link → P (link_after (WordsGiven skd_s iv_s) link)
  pub received : (slot : ℕ) (octets : List ℕ) (room : Bool) (link : OpenLink) → P link → P (link_after (PacketReceived slot octets room) link)
  pub answered : KeepsAsked P

module _ (P : OpenLink → Type 0) where
  changed_from : (first handle : ℕ) (change : Option OpenLink → Option OpenLink) (links : Links)
      → ((place : Option OpenLink) → AtOpen P place → AtOpen P (change place)) → EachOpen P links → EachOpen P (with_change_from first handle change links)
  changed_from first handle change [] keeps each = tt
  changed_from first handle change (place ∷ links) keeps each = at (first == handle) (changed_from (first + 1) handle change links keeps each.1)
    where
      at : (test : Bool) → EachOpen P (with_change_from (first + 1) handle change links)
          → EachOpen P (if test then change place ∷ links else place ∷ with_change_from (first + 1) handle change links)
      at true rest = (keeps place each.0, each.1)
      at false rest = (each.0, rest)

  pub changed : (handle : ℕ) (change : OpenLink → OpenLink) (links : Links) → ((link : OpenLink) → P link → P (change link))
      → EachOpen P links → EachOpen P (with_change handle change links)
  changed handle change links more each = changed_from 0 handle (option_map change) links keeps each
    where
      keeps : (place : Option OpenLink) → AtOpen P place → AtOpen P (option_map change place)
      keeps None has = tt
      keeps (Some link) has = more link has

  pub opened : (end : EndSetup) (links : Links) → P (new_link end) → EachOpen P links → EachOpen P (with_link end links)
  opened end links has each = changed_from 0 end.link.handle _ links (λ place before. has) each

  stays : (reason : OpenLink → Option ℕ) (links : Links) → EachOpen P links → EachOpen P (links_without reason links)
  stays reason [] each = tt
  stays reason (None ∷ links) each = (tt, stays reason links each.1)
  stays reason (Some link ∷ links) each = (by (reason link), stays reason links each.1)
    where
      by : (why : Option ℕ) → AtOpen P (staying_by why link)
      by None = each.0
      by (Some code) = tt

  pub refuses : KeepsAsked P → (refusal : Option EndStep) → IfSome refusal IsAskedWell → (handle : ℕ) (links : Links) → EachOpen P links
      → EachOpen P (links_refusing refusal handle links)
  refuses answered (Some step) well handle links each = changed handle (link_after step) links (λ link. answered step link well) each
  refuses answered None well handle links each = each

  resets : (links : Links) → EachOpen P (without_links links)
  resets [] = tt
  resets (place ∷ links) = (tt, resets links)

  -- ---- an octet of the host

  command_open : (command : Command) (links : Links) → EachOpen P links → EachOpen P (links_after command links)
  command_open Reset links each = resets links
  command_open other links each = each

  known_open : (accepted : Bool) (setup : Setup) (command : Command) (facts : Facts) → EachOpen P facts.links
      → EachOpen P (facts_known accepted setup facts command).links
  known_open true setup command facts each = command_open command facts.links each
  known_open false setup command facts each = each

  module _ (asked : KeepsAsked P) where
    place_asked : (command : Command) → AsksInRange command → (moment : Moment) (about : Bool) (place : Option OpenLink) → AtOpen P place
        → AtOpen P (place_commanded about command moment place)
    place_asked command ranged moment false place has = has
    place_asked command ranged moment true None has = tt
    place_asked command ranged moment true (Some link) has =
        let role = link.setup.link.role in
        let peer = (facts_in link).peer in
        by (host_step_of command moment role peer) (λ step is. step_is_well command moment role peer step ranged is)
      where
        by : (step : Option EndStep) → ((one : EndStep) → step ≡ Some one → IsAskedWell one) → P (link_after_if step link)
        by None well = has
        by (Some step) well = asked step link (well step refl) has

    places_asked : (command : Command) → AsksInRange command → (moment : Moment) (first : ℕ) (links : Links) → EachOpen P links
        → EachOpen P (links_commanded_from first command moment links)
    places_asked command ranged moment first [] each = tt
    places_asked command ranged moment first (place ∷ links) each = (
      place_asked command ranged moment (is_about first command) place each.0,
      places_asked command ranged moment (first + 1) links each.1,
    )

    -- a command that asks something of links was accepted
    asking_open : (setup : Setup) (facts : Facts) (command : Command) (accepted asks : Bool) → (status_of facts.view command == 0) ≡ accepted
        → EachOpen P facts.links
        → EachOpen P (facts_asking (accepted && asks) setup facts command (facts_known accepted setup facts command)).links
    asking_open setup facts command true true is each =
        places_asked command (accepted_in_range facts.view command (eqb-true (status_of facts.view command) 0 is)) (moment_of setup facts) 0 facts.links each
    asking_open setup facts command true false is each = known_open true setup command facts each
    asking_open setup facts command false asks is each = each

    read_open : (setup : Setup) (facts : Facts) (read : CmdRead) → EachOpen P facts.links → EachOpen P (facts_commanded setup facts read).links
    read_open setup facts (Known command) each =
        asking_open setup facts command (status_of facts.view command == 0) (asks_links facts.view command) refl each
    read_open setup facts UnknownOpcode each = each
    read_open setup facts BadLength each = each

  module _ (kept : IsKeptByHosts P) where
    offered_open : (offer : Offer) (handle : ℕ) (start : Bool) (octets : List ℕ) (facts : Facts) → EachOpen P facts.links
        → EachOpen P (facts_offered offer handle start octets facts).links
    offered_open Kept handle start octets facts each = changed handle (link_after (DataGiven start octets)) facts.links (kept.given start octets) each
    offered_open NoLink handle start octets facts each = each
    offered_open Empty handle start octets facts each = each
    offered_open Overflow handle start octets facts each = each

    fed_open : KeepsAsked P → (setup : Setup) (facts : Facts) (fed : Fed) → EachOpen P facts.links → EachOpen P (facts_fed setup facts fed).links
    fed_open asked setup facts (Packet (HostCommand opcode body)) each = read_open asked setup facts (command_of opcode body.items) each
    fed_open asked setup facts (Packet (Acl handle start count body)) each =
        offered_open (offer_of setup facts handle count) handle start body.items facts each
    fed_open asked setup facts LostSync each = each
    fed_open asked setup facts More each = each

    pub octet_open : KeepsAsked P → (setup : Setup) (facts : Facts) (octet : ℕ) → EachOpen P facts.links
        → EachOpen P (facts_after setup facts (HostOctet octet)).links
    octet_open asked setup facts octet each = fed_open asked setup facts (result_of facts.octets octet) each

    -- ---- a turn ends

    pub reports : (links : Links) → EachOpen P links → EachOpen P (links_reported links)
    reports [] each = tt
    reports (None ∷ links) each = (tt, reports links each.1)
    reports (Some link ∷ links) each = (by (nat_lt 0 (complete_in link)), reports links each.1)
      where
        by : (complete : Bool) → P (if complete then link_after DataReported link else link)
        by true = kept.reported link each.0
        by false = each.0

    pub end_open : (setup : Setup) (facts : Facts) → EachOpen P facts.links → EachOpen P (facts_after setup facts TurnEnds).links
    end_open setup facts each =
        subst (λ (left : Facts). EachOpen P left.links) (sym (leaving_is (facts_handed facts)))
        (stays ending_in (links_reported facts.links) (reports facts.links each))

  module _ (kept : IsKeptServed P) where
    wins : (slot : ℕ) (activity : Activity) (links : Links) → EachOpen P links → EachOpen P (links_won slot activity links)
    wins slot (Link handle) links each = changed handle (link_served slot) links (kept.served slot) each
    wins slot Advertise links each = each
    wins slot Scan links each = each
    wins slot Initiate links each = each

    pub sends : (slot : ℕ) (doing : Doing) (links : Links) → EachOpen P links → EachOpen P (links_sending slot doing links)
    sends slot (CentralSends handle) links each = changed handle (link_after (PacketSent slot)) links (kept.sent slot) each
    sends slot (PeripheralSends handle) links each = changed handle (link_after (PacketSent slot)) links (kept.sent slot) each
    sends slot (Advertises channel) links each = each
    sends slot other links each = each

    fixes : (doing : Doing) (links : Links) → EachOpen P links → EachOpen P (links_fixing doing links)
    fixes (CentralSends handle) links each = changed handle (link_after PduFixed) links kept.fixed each
    fixes (PeripheralListens handle) links each = changed handle (link_after PduFixed) links kept.fixed each
    fixes (Advertises channel) links each = each
    fixes other links each = each

    -- ---- a turn begins

    won_open : (slot : ℕ) (winner : Option Activity) (facts : Facts) → EachOpen P facts.links → EachOpen P (winner_served slot winner facts).facts.links
    won_open slot None facts each = each
    won_open slot (Some activity) facts each =
        subst (λ won. EachOpen P won.links) (sym (winning_is slot activity facts)) (wins slot activity facts.links each)

    radio_open : (held : Bool) (slot : ℕ) (winner : Option Activity) (facts : Facts) → EachOpen P facts.links → EachOpen P (radio_served held slot winner facts).facts.links
    radio_open true slot winner facts each = each
    radio_open false slot winner facts each = won_open slot winner facts each

    served_open : (on : Bool) (slot : ℕ) (winner : Option Activity) (facts : Facts) → EachOpen P facts.links → EachOpen P (served on slot winner facts).facts.links
    served_open false slot winner facts each = each
    served_open true slot winner facts each = radio_open (is_held_in facts.radio.hold slot) slot winner facts each

    passed_open : (outcome : Outcome) → EachOpen P outcome.facts.links → EachOpen P (facts_passed outcome).links
    passed_open outcome each = sends outcome.facts.turn.slot outcome.next outcome.facts.links each

  -- ---- a phase

  module _ (kept : IsKeptOpen P) where
    -- a link that is opened in it has the fact
    pub record MayOpen (facts : Facts) : Type 0 where
      pub made : (channel : ℕ) (link : LinkSetup) → facts.turn.doing ≡ Connects channel link → P (new_link (record { link = link; opened = facts.turn.slot }))
      pub taken : (pdu : AdvPdu) (on : AdvertiserFacts) (fields : ConnectFields) (handle : ℕ)
          → advertiser_answer on.params facts.view.accepted pdu ≡ Takes fields
          → P (new_link (record { link = link_taken facts.view on.params.own pdu fields handle; opened = facts.turn.slot }))

    opens_open : (link : LinkSetup) (facts : Facts) → P (new_link (record { link = link; opened = facts.turn.slot })) → EachOpen P facts.links
        → EachOpen P (facts_passed (opens link facts)).links
    opens_open link facts has each =
        opening_passes (λ after. EachOpen P after.links) link facts
        (sends kept.serving facts.turn.slot Rests _ (opened (record { link = link; opened = facts.turn.slot }) facts.links has each))

    asks_open : (asks : Bool) (slot channel : ℕ) (pdu : AdvPdu) (links : Links) → EachOpen P links → EachOpen P (links_sending slot (asks_if asks channel pdu) links)
    asks_open asks slot channel pdu links each = sends kept.serving slot (asks_if asks channel pdu) links each

    -- the link under a handle receives
    received_open : (setup : Setup) (facts : Facts) (handle : ℕ) (octets : List ℕ) → EachOpen P facts.links
        → EachOpen P (facts_passed (link_heard setup handle octets facts)).links
    received_open setup facts handle octets each =
        let slot = facts.turn.slot in
        let room = has_room setup facts in
        sends kept.serving slot (reply_if (replies_in slot room (link_at handle facts.links) octets) handle) _
        (refuses kept.answered (refusal_at handle room octets facts) (refusal_is_well handle room octets facts) handle _
        (changed handle (link_after (PacketReceived slot octets room)) facts.links (kept.received slot octets room) each))

    outcomes_open : (setup : Setup) (facts : Facts) → MayOpen facts → EachOpen P facts.links → EachOutcome setup facts (λ outcome. EachOpen P (facts_passed outcome).links)
    outcomes_open setup facts may each = record {
      rests = each;
      awaits_request = λ channel doing. each;
      awaits_response = λ channel advertiser doing. each;
      central_listens = λ handle doing. each;
      sent = λ channel link doing. opens_open link facts (may.made channel link doing) each;
      responds = λ channel on doing is_on. each;
      taken = λ channel octets pdu on fields handle is_on hears takes free.
          opens_open (link_taken facts.view on.params.own pdu fields handle) facts (may.taken pdu on fields handle takes) each;
      scanned = λ channel octets pdu on doing is_on hears.
          asks_open (true && does_ask (scan_answer on.params facts.view.accepted on.recent pdu)) facts.turn.slot channel pdu facts.links each;
      answered = λ channel octets pdu on doing is_on hears.
          asks_open (false && does_ask (scan_answer on.params facts.view.accepted on.recent pdu)) facts.turn.slot channel pdu facts.links each;
      connects = λ channel octets pdu on access handle doing is_on hears answers next free in_range. each;
      received = λ handle octets. received_open setup facts handle octets each;
    }

    pub phase_open : (setup : Setup) (facts : Facts) (received : Option (List ℕ)) → MayOpen facts → EachOpen P facts.links
        → EachOpen P (facts_after setup facts (step_of received)).links
    phase_open setup facts None may each = unheard_is setup facts _ (outcomes_open setup facts may each) facts.turn.doing refl
    phase_open setup facts (Some octets) may each =
        heard_is setup facts (λ outcome. EachOpen P (facts_passed outcome).links) (outcomes_open setup facts may each) facts.turn.doing octets refl
        (λ handle. received_open setup (facts_with_words setup handle facts) handle octets
        (changed handle (link_after (WordsGiven _ _)) facts.links (kept.worded _ _) each))

-- a turn begins: what is kept of the links that stay, and what holds of each as it enters its event
pub begin_open : (P Q : OpenLink → Type 0) → IsKeptServed Q → (setup : Setup) (slot : ℕ) (on : Bool) (facts : Facts)
    → ((link : OpenLink) → P link → Q (link_entered slot link)) → EachOpen P facts.links → EachOpen Q (facts_after setup facts (TurnBegins slot on)).links
begin_open P Q kept setup slot on facts enters each =
    let begun = turn_begins slot (facts_ending slot facts) in
    let stayed : EachOpen P begun.links = subst (λ ended. EachOpen P ended.links) (sym (ending_is slot facts)) (stays P (due_in slot) facts.links each) in
    let winner = winner_of (plan_in slot begun) slot in
    let outcome = served on slot winner (facts_entering slot begun) in
    passed_open Q kept (outcome_begun slot on facts)
    (fixes Q kept outcome.next outcome.facts.links
    (served_open Q kept on slot winner (facts_entering slot begun) (enter_open P Q slot begun.links enters stayed)))
