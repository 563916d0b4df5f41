-- What the calls on a controller do to the link under one handle, as steps of its end.
use Rattle.std.proofs.Common.{◌≡◌, ℕ, ◌==◌, Bool, true, false, Option, Some, None, List, [], ◌∷◌, ◌++◌, append-nil, option_map, refl, sym, ap, subst, ◌∙◌}
use Rattle.std.proofs.lemmas.Bool.{eqb-true}
use Rattle.hci_cmd.specs.declared.command.Command.{Command}
use Rattle.link_calls.specs.link_model.Receiving.{replies_of}
use Rattle.link_calls.specs.link_model.Setup.{Setup as EndSetup}
use Rattle.link_calls.specs.link_model.Step.{Step as EndStep, DataGiven}
use Rattle.link_calls.specs.open_links.OpenLinks.{OpenLink, facts_in, link_after, link_at}
use Rattle.link_calls.specs.controller_model.Step.{Step, HostOctet}
use Rattle.link_calls.specs.controller_model.declared.doing.Doing.{Doing}
use Rattle.link_calls.specs.controller_model.declared.doing.Doing.TheVariants.{Advertises, CentralListens, PeripheralListens}
use Rattle.link_calls.specs.controller_model.Commands.{moment_of}
use Rattle.link_calls.specs.controller_model.Facts.{Setup, Facts}
use Rattle.link_calls.specs.controller_model.Heard.{facts_with_words, has_room, heard, replies_in, reply_if}
use Rattle.link_calls.specs.controller_model.Host.{commands_accepted_after}
use Rattle.link_calls.specs.controller_model.link_commands.Commands.{step_on}
use Rattle.link_calls.specs.controller_model.Side.{facts_after, facts_of}
use Rattle.link_runs.specs.link_pairs.Hosts.{MayHost}
use Rattle.link_runs.specs.Runs.{MayHostAll}
use Rattle.link_runs.specs.Turn.{facts_hosted}
use Rattle.link_calls.proofs.run_laws.Agreed.{step_facts}
use Rattle.link_calls.proofs.open_links.Handles.{changed_is}
use Rattle.link_calls.specs.Phases.{link_worded}
use Rattle.link_calls.specs.Hosts.{HasHeardHost, GetsData, IsAsked, Unchanged}
use Rattle.link_calls.specs.Turns.{fixed_if}
use Rattle.link_calls.specs.Uses.{fixes_under, listens_under, sends_under}
use Rattle.link_calls.proofs.LinkCalls.{HasBegun}
use Rattle.link_calls.proofs.UnderHandles.{host_under}
use Rattle.link_calls.specs.run_model.History.{Event, Called, past_of}
use Rattle.link_calls.specs.run_model.Run.{Given, facts_at, history_of, run_of, setup_at, step_of}
use Rattle.link_calls.proofs.run_model.Stations.{is_in}

-- ---- an octet of the host

-- the link was there before, and its host did these steps
pub record WasHosted (place : Option OpenLink) (after : OpenLink) : Type 0 where
  pub link : OpenLink
  pub was : place ≡ Some link
  pub setup : after.setup ≡ link.setup
  pub steps : List EndStep
  pub may : MayHostAll link.setup steps (facts_in link)
  pub past : after.past ≡ link.past ++ steps
  pub facts : facts_in after ≡ facts_hosted link.setup steps (facts_in link)

hosted_same : (place : Option OpenLink) (after : OpenLink) → place ≡ Some after → WasHosted place after
hosted_same place after is = record { link = after; was = is; setup = refl; steps = []; may = tt; past = sym (append-nil after.past); facts = refl }

hosted_step : (place : Option OpenLink) (step : EndStep) (link after : OpenLink) → place ≡ Some link → after ≡ link_after step link → MayHost step (facts_in link)
    → WasHosted place after
hosted_step place step link after was is may = record {
  link = link;
  was = was;
  setup = ap (λ (l : OpenLink). l.setup) is;
  steps = step ∷ [];
  may = (may, tt);
  past = ap (λ (l : OpenLink). l.past) is;
  facts = ap facts_in is ∙ step_facts link step;
}

-- what a command that an octet completes asks of the end under a handle may come there, while no procedure ended the link
abbrev pub MayAskAt : Setup → Facts → ℕ → ℕ → Type 0
MayAskAt setup facts octet handle =
    (link : OpenLink) (command : Command) (step : EndStep) → link_at handle facts.links ≡ Some link → (facts_in link).control.ends ≡ None
    → commands_accepted_after facts (HostOctet octet) ≡ command ∷ []
    → step_on handle command (moment_of setup facts) link.setup.link.role (facts_in link).peer ≡ Some step → MayHost step (facts_in link)

-- so it is in a run
abbrev pub AsksMayCome : Given → Type 0
AsksMayCome given =
    (before rest : List Event) (station octet handle : ℕ) → is_in station given.stations ≡ true
    → history_of (run_of given) ≡ before ++ Called station (HostOctet octet) ∷ rest → MayAskAt (setup_at given station) (facts_at given station before) octet handle

-- by what is known of all pasts of a controller
abbrev pub MayAskAfterAll : Type 0
MayAskAfterAll =
    (setup : Setup) (past : List Step) (octet handle : ℕ) (link : OpenLink) (command : Command) (step : EndStep)
    → link_at handle (facts_of setup past).links ≡ Some link → (facts_in link).control.ends ≡ None
    → commands_accepted_after (facts_of setup past) (HostOctet octet) ≡ command ∷ []
    → step_on handle command (moment_of setup (facts_of setup past)) link.setup.link.role (facts_in link).peer ≡ Some step → MayHost step (facts_in link)

pub asks_come : MayAskAfterAll → (given : Given) → AsksMayCome given
asks_come may given before rest station octet handle in_it at link command step =
    may (setup_at given station) (past_of station before) octet handle link command step

-- no procedure ended the link with this setup that is under the handle
abbrev GoesOnUnder : Facts → ℕ → EndSetup → Type 0
GoesOnUnder facts handle setup = (link : OpenLink) → link_at handle facts.links ≡ Some link → link.setup ≡ setup → (facts_in link).control.ends ≡ None

heard_host : (setup : Setup) (facts : Facts) (octet handle : ℕ) (after : OpenLink) → MayAskAt setup facts octet handle → GoesOnUnder facts handle after.setup
    → HasHeardHost setup facts octet handle after → WasHosted (link_at handle facts.links) after
heard_host setup facts octet handle after may goes (Unchanged was) = hosted_same (link_at handle facts.links) after was
heard_host setup facts octet handle after may goes (GetsData link start body was is) =
    hosted_step (link_at handle facts.links) (DataGiven start body) link after was is tt
heard_host setup facts octet handle after may goes (IsAsked link command step was accepted asks is) =
    hosted_step (link_at handle facts.links) step link after was is
    (may link command step was (goes link was (sym (ap (λ (l : OpenLink). l.setup) is))) accepted asks)

pub octet_under : (setup : Setup) (facts : Facts) (octet handle : ℕ) (after : OpenLink) → MayAskAt setup facts octet handle → GoesOnUnder facts handle after.setup
    → link_at handle (facts_after setup facts (HostOctet octet)).links ≡ Some after → WasHosted (link_at handle facts.links) after
octet_under setup facts octet handle after may goes is =
    heard_host setup facts octet handle after may goes (host_under setup facts octet handle after is)

-- ---- a turn begins

-- it fixes its PDU where it has an exchange
pub base_under : (facts : Facts) (slot : ℕ) (on : Bool) (handle : ℕ) (doing : Doing) (after : OpenLink) (has : HasBegun facts slot on handle doing after)
    → has.base ≡ fixed_if (fixes_under handle doing) has.entered
base_under facts slot on handle doing after has = has.base_is ∙ ap (λ (b : Bool). fixed_if b has.entered) has.fixes_is

-- ---- a packet is heard

reply_under : (replies : Bool) (handle other : ℕ) → (other == handle) ≡ true → sends_under handle (reply_if replies other) ≡ replies
reply_under true handle other same = same
reply_under false handle other same = refl

-- what is answered to a packet on the link under some handle
answered_under : (facts : Facts) (octets : List ℕ) (room : Bool) (handle other : ℕ) (link : OpenLink) → link_at handle facts.links ≡ Some link → (other == handle) ≡ true
    → sends_under handle (reply_if (replies_in facts.turn.slot room (link_at other facts.links) octets) other) ≡ replies_of link.setup (facts_in link) facts.turn.slot octets room
answered_under facts octets room handle other link at same =
    reply_under (replies_in facts.turn.slot room (link_at other facts.links) octets) handle other same
    ∙ ap (λ n. replies_in facts.turn.slot room (link_at n facts.links) octets) (eqb-true other handle same)
    ∙ ap (λ (place : Option OpenLink). replies_in facts.turn.slot room place octets) at

-- it is given words before
worded_at : (setup : Setup) (facts : Facts) (handle other : ℕ) (link : OpenLink) → (other == handle) ≡ true → link_at handle facts.links ≡ Some link
    → link_at handle (facts_with_words setup other facts).links ≡ Some (link_worded setup facts (PeripheralListens other) link)
worded_at setup facts handle other link same at =
    let change = option_map (link_worded setup facts (PeripheralListens other)) in
    subst (λ n. link_at n facts.links ≡ Some link → link_at n (facts_with_words setup other facts).links ≡ Some (link_worded setup facts (PeripheralListens other) link))
    (eqb-true other handle same) (λ here. changed_is change 0 other facts.links refl ∙ ap change here) at

replies_by : (setup : Setup) (facts : Facts) (octets : List ℕ) (handle : ℕ) (link : OpenLink) (doing : Doing) → facts.turn.doing ≡ doing → listens_under handle doing ≡ true
    → link_at handle facts.links ≡ Some link → let base = link_worded setup facts doing link in
    sends_under handle (heard setup facts.turn.doing octets facts).next ≡ replies_of base.setup (facts_in base) facts.turn.slot octets (has_room setup facts)
replies_by setup facts octets handle link (CentralListens other) doing on at =
    ap (λ (d : Doing). sends_under handle (heard setup d octets facts).next) doing ∙ answered_under facts octets (has_room setup facts) handle other link at on
replies_by setup facts octets handle link (PeripheralListens other) doing on at =
    ap (λ (d : Doing). sends_under handle (heard setup d octets facts).next) doing
    ∙ answered_under (facts_with_words setup other facts) octets (has_room setup facts) handle other (link_worded setup facts (PeripheralListens other) link)
    (worded_at setup facts handle other link on at) on
replies_by setup facts octets handle link (Advertises channel) doing on at = absurd cc
replies_by setup facts octets handle link other doing on at = absurd cc

-- a link that takes a packet answers it as its end does
pub replies_under : (setup : Setup) (facts : Facts) (received : Option (List ℕ)) (octets : List ℕ) (handle : ℕ) (link : OpenLink) → received ≡ Some octets
    → listens_under handle facts.turn.doing ≡ true → link_at handle facts.links ≡ Some link → let base = link_worded setup facts facts.turn.doing link in
    sends_under handle (facts_after setup facts (step_of received)).turn.doing ≡ replies_of base.setup (facts_in base) facts.turn.slot octets (has_room setup facts)
replies_under setup facts received octets handle link got on at =
    ap (λ (r : Option (List ℕ)). sends_under handle (facts_after setup facts (step_of r)).turn.doing) got ∙ replies_by setup facts octets handle link facts.turn.doing refl on at
