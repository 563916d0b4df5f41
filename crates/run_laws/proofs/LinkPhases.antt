-- In which phase of a turn a controller sends or listens on a link, and as which end of it.
use Rattle.std.proofs.Common.{◌≡◌, ℕ, zero, suc, Bool, true, false, Option, Some, None, List, refl, sym, subst, arith, ◌+◌, ap, ◌∙◌}
use Rattle.std.specs.Prelude.{⊤, if◌then◌else◌}
use Rattle.std.specs.Option.{option_map}
use Rattle.std.proofs.lemmas.Bool.{false_from_ne_true}
use Rattle.ble_base.specs.declared.roles.Role.{Role}
use Rattle.ble_base.specs.declared.roles.Role.TheVariants.{Central, Peripheral}
use Rattle.advertise.specs.Advertising.{AdvertiserFacts}
use Rattle.run_model.specs.link_model.Receiving.{facts_received, has_ended, replies_by, replies_of}
use Rattle.run_model.specs.link_model.Packets.{good_pdu}
use Rattle.run_model.specs.link_model.Setup.{Setup as EndSetup}
use Rattle.run_model.specs.link_model.Step.{Step as EndStep, PduFixed, PacketSent, PacketReceived, WordsGiven}
use Rattle.run_model.specs.link_model.Times.{has_second_exchange}
use Rattle.run_model.specs.open_links.OpenLinks.{Links, OpenLink, facts_in, has_entered, in_event, link_after, link_at, link_served, with_change}
use Rattle.run_model.proofs.open_links.Handles.{changed_is}
use Rattle.slot_plan.specs.declared.Activity.{Activity}
use Rattle.slot_plan.specs.declared.Activity.TheVariants.{Link, Advertise, Scan, Initiate}
use Rattle.slot_plan.specs.Holding.{is_held_in, winner_of}
use Rattle.run_model.specs.controller_model.declared.doing.Doing.{Doing}
use Rattle.run_model.specs.controller_model.declared.doing.Doing.TheVariants.{Advertises, CentralSends, CentralListens, PeripheralListens, PeripheralSends, Rests}
use Rattle.run_model.specs.controller_model.Step.{Step, TurnBegins}
use Rattle.run_model.specs.controller_model.Facts.{Setup, Facts}
use Rattle.run_model.specs.controller_model.Heard.{facts_with_words, has_room, link_heard, links_refusing, replies_in, reply_if, heard, unheard}
use Rattle.run_model.specs.controller_model.Links.{facts_ending}
use Rattle.run_model.specs.controller_model.Outcome.{Outcome, facts_passed}
use Rattle.run_model.specs.controller_model.Packets.{facts_doing}
use Rattle.run_model.specs.controller_model.Radio.{advertises_at, advertises_on, doing_held, doing_won, exchange_begins, exchange_if, facts_entering, facts_won, first_exchange, initiates_on, initiator_channel, links_fixing, outcome_begun, plan_in, radio_served, scanner_channel, scans_on, second_exchange, served, slots_since, turn_begins, winner_served}
use Rattle.run_model.specs.controller_model.Sent.{SendsOn}
use Rattle.run_model.specs.controller_model.Side.{facts_after, facts_of}
use Rattle.run_model.specs.Run.{step_of}
use Rattle.run_laws.proofs.LinkPasses.{IsPassingOn, LeavesAll, OpensOne, ReceivesOn, is_on_link, phase_passes_on}
use Rattle.run_laws.proofs.Entering.{IsInTurn, turn_first, turn_kept}
use Rattle.run_laws.proofs.TurnPlaces.{Between, IsTurned, Standing, Stage, Within, at_stage, standing, turned}

abbrev pub HasRole : Role → Option OpenLink → Type 0
HasRole role None = ⊤
HasRole role (Some link) = link.setup.link.role ≡ role

-- a central sends in the first phase, and a peripheral answers in the second one
abbrev pub IsInPhase : ℕ → Links → Doing → Type 0
IsInPhase phases links (CentralSends handle) = (phases ≡ 0) × HasRole Central (link_at handle links)
IsInPhase phases links (PeripheralListens handle) = (phases ≡ 0) × HasRole Peripheral (link_at handle links)
IsInPhase phases links (CentralListens handle) = (phases ≡ 1) × HasRole Central (link_at handle links)
IsInPhase phases links (PeripheralSends handle) = (phases ≡ 1) × HasRole Peripheral (link_at handle links)
IsInPhase phases links other = ⊤

abbrev pub IsAtStage : Stage → Links → Doing → Type 0
IsAtStage Between links doing = doing ≡ Rests
IsAtStage (Within phases) links doing = IsInPhase phases links doing

-- the end that sends in a phase, which comes after this number of phases
abbrev pub SendsAs : ℕ → Role → Type 0
SendsAs zero role = role ≡ Central
SendsAs (suc phases) role = role ≡ Peripheral

-- the role of the link on which it sends
pub sends_as : (phases handle : ℕ) (links : Links) (doing : Doing) (link : OpenLink) → IsInPhase phases links doing → SendsOn handle doing → link_at handle links ≡ Some link
    → SendsAs phases link.setup.link.role
sends_as phases handle links (CentralSends other) link is same at =
    subst (λ n. SendsAs n link.setup.link.role) (sym is.0) (subst (HasRole Central) at (subst (λ n. HasRole Central (link_at n links)) same is.1))
sends_as phases handle links (PeripheralSends other) link is same at =
    subst (λ n. SendsAs n link.setup.link.role) (sym is.0) (subst (HasRole Peripheral) at (subst (λ n. HasRole Peripheral (link_at n links)) same is.1))
sends_as phases handle links (Advertises channel) link is same at = absurd same
sends_as phases handle links other link is same at = absurd same

-- ---- what keeps the roles

role_changed : (role : Role) (handle : ℕ) (change : OpenLink → OpenLink) (links : Links) → ((link : OpenLink) → (change link).setup ≡ link.setup)
    → HasRole role (link_at handle links) → HasRole role (link_at handle (with_change handle change links))
role_changed role handle change links same has =
    subst (HasRole role) (sym (changed_is (option_map change) 0 handle links refl)) (by (link_at handle links) has)
  where
    by : (found : Option OpenLink) → HasRole role found → HasRole role (option_map change found)
    by None is = tt
    by (Some link) is = subst (λ (s : EndSetup). s.link.role ≡ role) (sym (same link)) is

doing_in : (phases : ℕ) (doing : Doing) (facts : Facts) → IsInPhase phases facts.links doing → IsInPhase phases (facts_doing doing facts).links doing
doing_in phases (CentralSends handle) facts is =
    (is.0, role_changed Central handle (link_after (PacketSent facts.turn.slot)) facts.links (λ link. refl) is.1)
doing_in phases (PeripheralSends handle) facts is =
    (is.0, role_changed Peripheral handle (link_after (PacketSent facts.turn.slot)) facts.links (λ link. refl) is.1)
doing_in phases (CentralListens handle) facts is = is
doing_in phases (PeripheralListens handle) facts is = is
doing_in phases (Advertises channel) facts is = tt
doing_in phases other facts is = tt

fixing_in : (phases : ℕ) (doing : Doing) (links : Links) → IsInPhase phases links doing → IsInPhase phases (links_fixing doing links) doing
fixing_in phases (CentralSends handle) links is = (is.0, role_changed Central handle (link_after PduFixed) links (λ link. refl) is.1)
fixing_in phases (PeripheralListens handle) links is = (is.0, role_changed Peripheral handle (link_after PduFixed) links (λ link. refl) is.1)
fixing_in phases (CentralListens handle) links is = is
fixing_in phases (PeripheralSends handle) links is = is
fixing_in phases (Advertises channel) links is = tt
fixing_in phases other links is = tt

-- ---- a turn begins

exchange_in : (role : Role) (handle : ℕ) (links : Links) → HasRole role (link_at handle links) → IsInPhase 0 links (exchange_begins role handle)
exchange_in Central handle links has = (refl, has)
exchange_in Peripheral handle links has = (refl, has)

entered_in : (entered : Bool) (slot handle : ℕ) (links : Links) (link : OpenLink) → link_at handle links ≡ Some link
    → IsInPhase 0 (with_change handle (link_served slot) links) (first_exchange handle (if entered then Some link else None))
entered_in true slot handle links link at =
    let role = link.setup.link.role in
    exchange_in role handle (with_change handle (link_served slot) links)
    (role_changed role handle (link_served slot) links (λ one. refl) (subst (HasRole role) (sym at) refl))
entered_in false slot handle links link at = tt

first_in : (slot handle : ℕ) (links : Links) (found : Option OpenLink) → link_at handle links ≡ found
    → IsInPhase 0 (with_change handle (link_served slot) links) (first_exchange handle (in_event found))
first_in slot handle links None at = tt
first_in slot handle links (Some link) at = entered_in (has_entered link) slot handle links link at

exchange_if_in : (continues : Bool) (role : Role) (handle : ℕ) (links : Links) → HasRole role (link_at handle links)
    → IsInPhase 0 links (exchange_if continues role handle)
exchange_if_in true role handle links has = exchange_in role handle links has
exchange_if_in false role handle links has = tt

again_in : (entered : Bool) (handle : ℕ) (links : Links) (link : OpenLink) → link_at handle links ≡ Some link
    → IsInPhase 0 links (second_exchange handle (if entered then Some link else None))
again_in true handle links link at =
    exchange_if_in (has_second_exchange (facts_in link)) link.setup.link.role handle links (subst (HasRole link.setup.link.role) (sym at) refl)
again_in false handle links link at = tt

second_in : (handle : ℕ) (links : Links) (found : Option OpenLink) → link_at handle links ≡ found
    → IsInPhase 0 links (second_exchange handle (in_event found))
second_in handle links None at = tt
second_in handle links (Some link) at = again_in (has_entered link) handle links link at

on_in : (channel : Option ℕ) (links : Links) → IsInPhase 0 links (advertises_on channel)
on_in None links = tt
on_in (Some channel) links = tt

placed_in : (early : Bool) (channel : Option ℕ) (links : Links) → IsInPhase 0 links (if early then advertises_on channel else Rests)
placed_in true channel links = on_in channel links
placed_in false channel links = tt

advertises_in : (place : ℕ) (on : Option AdvertiserFacts) (links : Links) → IsInPhase 0 links (advertises_at place on)
advertises_in place None links = tt
advertises_in place (Some on) links = placed_in _ _ links

scans_in : (channel : Option ℕ) (links : Links) → IsInPhase 0 links (scans_on channel)
scans_in None links = tt
scans_in (Some channel) links = tt

initiates_in : (channel : Option ℕ) (links : Links) → IsInPhase 0 links (initiates_on channel)
initiates_in None links = tt
initiates_in (Some channel) links = tt

abbrev NextIn : Outcome → Type 0
NextIn outcome = IsInPhase 0 outcome.facts.links outcome.next

won_in : (slot : ℕ) (activity : Activity) (facts : Facts) → IsInPhase 0 (facts_won slot activity facts).links (doing_won slot activity facts)
won_in slot (Link handle) facts = first_in slot handle facts.links (link_at handle facts.links) refl
won_in slot Advertise facts = advertises_in 0 facts.advertising.on facts.links
won_in slot Scan facts = scans_in (scanner_channel slot facts.scanning.on) facts.links
won_in slot Initiate facts = initiates_in (initiator_channel slot facts.initiator) facts.links

held_in : (slot : ℕ) (activity : Activity) (facts : Facts) → IsInPhase 0 facts.links (doing_held slot activity facts)
held_in slot (Link handle) facts = second_in handle facts.links (link_at handle facts.links) refl
held_in slot Advertise facts = advertises_in (slots_since slot facts.radio.hold) facts.advertising.on facts.links
held_in slot Scan facts = tt
held_in slot Initiate facts = tt

winner_in : (slot : ℕ) (winner : Option Activity) (facts : Facts) → NextIn (winner_served slot winner facts)
winner_in slot None facts = tt
winner_in slot (Some activity) facts = won_in slot activity facts

radio_in : (held : Bool) (slot : ℕ) (winner : Option Activity) (facts : Facts) → NextIn (radio_served held slot winner facts)
radio_in true slot winner facts = held_in slot facts.radio.holder facts
radio_in false slot winner facts = winner_in slot winner facts

served_in : (on : Bool) (slot : ℕ) (winner : Option Activity) (facts : Facts) → NextIn (served on slot winner facts)
served_in false slot winner facts = tt
served_in true slot winner facts = radio_in (is_held_in facts.radio.hold slot) slot winner facts

abbrev pub DoesIn : ℕ → Facts → Type 0
DoesIn phases facts = IsInPhase phases facts.links facts.turn.doing

pub begins_in : (setup : Setup) (slot : ℕ) (on : Bool) (facts : Facts) → DoesIn 0 (facts_after setup facts (TurnBegins slot on))
begins_in setup slot on facts =
    let begun = turn_begins slot (facts_ending slot facts) in
    let outcome = outcome_begun slot on facts in
    let winner = winner_of (plan_in slot begun) slot in
    let before = served on slot winner (facts_entering slot begun) in
    doing_in 0 outcome.next outcome.facts (fixing_in 0 before.next before.facts.links (served_in on slot winner (facts_entering slot begun)))

-- ---- a phase passes

-- what uses no link may be done in any phase
off_link : (phases : ℕ) (links : Links) (doing : Doing) → is_on_link doing ≡ false → IsInPhase phases links doing
off_link phases links (CentralSends handle) off = absurd cc
off_link phases links (CentralListens handle) off = absurd cc
off_link phases links (PeripheralListens handle) off = absurd cc
off_link phases links (PeripheralSends handle) off = absurd cc
off_link phases links (Advertises channel) off = tt
off_link phases links other off = tt

-- a peripheral alone answers
reply_by : (role : Role) (ended : Bool) (handle : ℕ) (links : Links) (pdu : Option (List ℕ)) → HasRole role (link_at handle links)
    → (phases : ℕ) → (role ≡ Peripheral → phases ≡ 1) → IsInPhase phases links (reply_if (replies_by role ended pdu) handle)
reply_by Central ended handle links pdu has phases second = tt
reply_by Peripheral true handle links None has phases second = tt
reply_by Peripheral false handle links None has phases second = tt
reply_by Peripheral true handle links (Some octets) has phases second = tt
reply_by Peripheral false handle links (Some octets) has phases second = (second refl, has)

reply_in : (role : Role) (slot handle : ℕ) (room : Bool) (links after : Links) (octets : List ℕ) (found : Option OpenLink) (phases : ℕ) → HasRole role found
    → HasRole role (link_at handle after) → (role ≡ Peripheral → phases ≡ 1)
    → IsInPhase phases after (reply_if (replies_in slot room found octets) handle)
unfolding replies_of
reply_in role slot handle room links after octets None phases is has second = tt
reply_in role slot handle room links after octets (Some link) phases is has second =
    let own = link.setup.link.role in
    let pdu = good_pdu link.setup (facts_in link) octets in
    let ended = has_ended (facts_received own slot room pdu (facts_in link)) in
    subst (λ (r : Role). IsInPhase phases after (reply_if (replies_by r ended pdu) handle)) (sym is)
    (reply_by role ended handle after pdu has phases second)

next_phase : (phases first : ℕ) → phases ≡ first → suc phases ≡ first + 1
next_phase phases first is = omega (arith, is)

-- what receives, and answers a request of the peer at once, keeps its role
role_refusing : (role : Role) (refusal : Option EndStep) (handle : ℕ) (links : Links) → HasRole role (link_at handle links)
    → HasRole role (link_at handle (links_refusing refusal handle links))
role_refusing role (Some step) handle links has = role_changed role handle (link_after step) links (λ link. refl) has
role_refusing role None handle links has = has

heard_in : (role : Role) (setup : Setup) (facts : Facts) (phases handle : ℕ) (octets : List ℕ) → HasRole role (link_at handle facts.links) → (role ≡ Peripheral → suc phases ≡ 1)
    → IsInPhase (suc phases) (facts_passed (link_heard setup handle octets facts)).links (link_heard setup handle octets facts).next
heard_in role setup facts phases handle octets has second =
    let outcome = link_heard setup handle octets facts in
    let room = has_room setup facts in
    let after = with_change handle (link_after (PacketReceived facts.turn.slot octets room)) facts.links in
    doing_in (suc phases) outcome.next outcome.facts
    (reply_in role facts.turn.slot handle room facts.links outcome.facts.links octets (link_at handle facts.links) (suc phases) has
    (role_refusing role _ handle after (role_changed role handle _ facts.links (λ link. refl) has)) second)

no_central : (phases : ℕ) → Central ≡ Peripheral → phases ≡ 1
no_central phases same = absurd cc

off_passing : (facts after : Facts) (received : Option (List ℕ)) (phases : ℕ) → is_on_link facts.turn.doing ≡ false → IsPassingOn facts received after → DoesIn phases after
off_passing facts after received phases off (LeavesAll same on) =
    off_link phases after.links after.turn.doing (false_from_ne_true (is_on_link after.turn.doing) (λ does. let h : true ≡ false = sym (on does) ∙ off in absurd cc))
off_passing facts after received phases off (OpensOne link is none) = off_link phases after.links after.turn.doing none
off_passing facts after received phases off (ReceivesOn handle octets is wanted listens on room words refusal replies well links_are) = absurd (let h : true ≡ false = sym on ∙ off in absurd cc)

pub passes_in : (setup : Setup) (facts : Facts) (received : Option (List ℕ)) (phases : ℕ) (doing : Doing) → facts.turn.doing ≡ doing → IsInPhase phases facts.links doing
    → IsPassingOn facts received (facts_after setup facts (step_of received)) → DoesIn (suc phases) (facts_after setup facts (step_of received))
passes_in setup facts None phases (CentralSends handle) doing is passing =
    subst (λ (d : Doing). IsInPhase (suc phases) (facts_passed (unheard d facts)).links (unheard d facts).next) (sym doing) (next_phase phases 0 is.0, is.1)
passes_in setup facts (Some octets) phases (CentralSends handle) doing is passing =
    subst (λ (d : Doing). IsInPhase (suc phases) (facts_passed (heard setup d octets facts)).links (heard setup d octets facts).next) (sym doing) (next_phase phases 0 is.0, is.1)
passes_in setup facts None phases (CentralListens handle) doing is passing =
    subst (λ (d : Doing). IsInPhase (suc phases) (facts_passed (unheard d facts)).links (unheard d facts).next) (sym doing) tt
passes_in setup facts (Some octets) phases (CentralListens handle) doing is passing =
    subst (λ (d : Doing). IsInPhase (suc phases) (facts_passed (heard setup d octets facts)).links (heard setup d octets facts).next) (sym doing)
    (heard_in Central setup facts phases handle octets is.1 (no_central (suc phases)))
passes_in setup facts None phases (PeripheralListens handle) doing is passing =
    subst (λ (d : Doing). IsInPhase (suc phases) (facts_passed (unheard d facts)).links (unheard d facts).next) (sym doing) tt
passes_in setup facts (Some octets) phases (PeripheralListens handle) doing is passing =
    subst (λ (d : Doing). IsInPhase (suc phases) (facts_passed (heard setup d octets facts)).links (heard setup d octets facts).next) (sym doing)
    (heard_in Peripheral setup (facts_with_words setup handle facts) phases handle octets
    (role_changed Peripheral handle (link_after (WordsGiven _ _)) facts.links (λ link. refl) is.1) (λ same. next_phase phases 0 is.0))
passes_in setup facts None phases (PeripheralSends handle) doing is passing =
    subst (λ (d : Doing). IsInPhase (suc phases) (facts_passed (unheard d facts)).links (unheard d facts).next) (sym doing) tt
passes_in setup facts (Some octets) phases (PeripheralSends handle) doing is passing =
    subst (λ (d : Doing). IsInPhase (suc phases) (facts_passed (heard setup d octets facts)).links (heard setup d octets facts).next) (sym doing) tt
passes_in setup facts received phases (Advertises channel) doing is passing = off_passing facts _ received (suc phases) (ap is_on_link doing) passing
passes_in setup facts received phases other doing is passing = off_passing facts _ received (suc phases) (ap is_on_link doing) passing

-- ---- at any time

-- where it stands in its turn, and what it does there
pub record IsPhased (setup : Setup) (stage : Stage) (begun : ℕ) (facts : Facts) : Type 0 where
  pub in_turn : IsInTurn setup stage begun facts
  pub phase : IsAtStage stage facts.links facts.turn.doing

phases_kept : (setup : Setup) → IsTurned setup (IsPhased setup)
phases_kept setup = let kept = turn_kept setup in record {
  feeds = λ begun octet facts is. let in_turn = kept.feeds begun octet facts is.in_turn in record { in_turn = in_turn; phase = in_turn.does };
  begins = λ begun on facts is. record { in_turn = kept.begins begun on facts is.in_turn; phase = begins_in setup begun on facts };
  passes = λ phases begun received facts is. record {
    in_turn = kept.passes phases begun received facts is.in_turn;
    phase = passes_in setup facts received phases facts.turn.doing refl is.phase (phase_passes_on setup facts received is.in_turn.listens);
  };
  ends = λ begun facts is. record { in_turn = kept.ends begun facts is.in_turn; phase = refl };
}

pub phased_at : (setup : Setup) (past : List Step) (at : Standing) → standing past ≡ Some at → IsPhased setup at.stage at.begun (facts_of setup past)
phased_at setup past at stands = turned setup (IsPhased setup) (phases_kept setup) past at (record { in_turn = turn_first setup; phase = refl }) stands

pub in_phase : (setup : Setup) (past : List Step) (phases begun : ℕ) → standing past ≡ Some (at_stage (Within phases) begun)
    → IsInPhase phases (facts_of setup past).links (facts_of setup past).turn.doing
in_phase setup past phases begun stands = (phased_at setup past (at_stage (Within phases) begun) stands).phase
