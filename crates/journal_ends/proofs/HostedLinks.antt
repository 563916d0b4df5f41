-- The link under a handle, after an octet of the host: what it was asked by the command that the octet completes.
use Rattle.std.proofs.Common.{◌≡◌, ℕ, ◌==◌, ◌&&◌, Bool, true, false, Option, Some, None, List, [], ◌∷◌, ◌++◌, cond, if◌then◌else◌, refl, sym, ap, subst, ◌∙◌, append-nil}
use Rattle.std.specs.Prelude.{flat_map, is_none, is_some, ⊤}
use Rattle.ble_base.specs.declared.roles.Role.{Role}
use Rattle.ble_base.specs.declared.roles.Role.TheVariants.{Central, Peripheral}
use Rattle.ble_base.specs.declared.roles.Side.{Side}
use Rattle.h4_frames.specs.declared.packet.HostPacket.TheVariants.{Command as HostCommand, Acl}
use Rattle.h4_frames.specs.declared.packet.Fed.{Fed}
use Rattle.h4_frames.specs.declared.packet.Fed.TheVariants.{More, Packet, LostSync}
use Rattle.hci_cmd.specs.declared.command.Command.{Command}
use Rattle.hci_cmd.specs.declared.command.Command.TheVariants.{Disconnect, HostCompleted, LeConnectionUpdate, LeEnableEncryption, LeKeyNegative, LeKeyReply, LeParamNegative, LeParamReply, LeReadRemoteFeatures, LeSetChannels, LeSetDataLength, LeSetPhy, ReadRemoteVersion, Reset}
use Rattle.hci_cmd.specs.declared.command.CmdRead.{CmdRead}
use Rattle.hci_cmd.specs.declared.command.CmdRead.TheVariants.{Known, UnknownOpcode, BadLength}
use Rattle.hci_cmd.specs.Command.{command_of}
use Rattle.host_view.specs.OnLinks.{asks_links}
use Rattle.host_view.specs.Status.{status_of}
use Rattle.host_view.specs.View.{View}
use Rattle.journal_acks.specs.controller_model.Commands.{facts_asking, facts_commanded, facts_known, links_after, moment_of}
use Rattle.journal_acks.specs.controller_model.Data.{facts_offered, offer_of}
use Rattle.journal_acks.specs.controller_model.Facts.{Setup, Facts}
use Rattle.journal_acks.specs.controller_model.Host.{commands_accepted_by, commands_accepted_in}
use Rattle.journal_acks.specs.controller_model.Side.{facts_after, facts_fed, result_of}
use Rattle.journal_acks.specs.controller_model.Step.{HostOctet}
use Rattle.journal_acks.specs.controller_model.link_commands.declared.moments.Moment.{Moment}
use Rattle.journal_acks.specs.controller_model.link_commands.Commands.{ask_unless, host_step_of, is_about, map_by, step_if_about, step_on}
use Rattle.journal_acks.specs.controller_model.link_commands.LinksCommanded.{link_after_if, links_commanded, place_commanded}
use Rattle.host_answers.specs.Calls.{answered_after, answered_commands}
use Rattle.journal_acks.specs.link_model.End.{facts_after as end_after, notes_from}
use Rattle.journal_acks.specs.link_model.Facts.{Facts as EndFacts, keyed_of}
use Rattle.journal_acks.specs.link_model.Hosts.{asked_unless, is_to_come}
use Rattle.journal_acks.specs.link_model.Setup.{Setup as EndSetup}
use Rattle.journal_acks.specs.link_model.Step.{Step, DataGiven, Disconnected, KeyAnswered, ProcedureAsked, RequestAnswered}
use Rattle.journal_acks.specs.link_model.control_model.Control.{Control, Step as ControlStep, Answers, Asks as AsksFor, Disconnects, Owes, after as control_after, moved, table_if}
use Rattle.journal_acks.specs.link_model.declared.state.PeerFacts.{PeerFacts}
use Rattle.journal_acks.specs.link_model.declared.state.Leaving.{Leaving}
use Rattle.journal_acks.specs.link_model.keyed_control.Keyed.{Keyed}
use Rattle.journal_acks.specs.link_model.procedure_stages.Closing.{is_open}
use Rattle.journal_acks.specs.link_model.procedure_stages.InProgress.{is_host_asked}
use Rattle.journal_acks.specs.link_model.procedures.Going.{host_answer_step, is_answer, terminate_step}
use Rattle.journal_acks.specs.link_model.procedures.Table.{TableFacts}
use Rattle.journal_acks.specs.link_model.procedure_values.declared.asks.Ask.{Ask}
use Rattle.journal_acks.specs.link_model.procedure_values.declared.asks.Ask.TheVariants.{Features, Version}
use Rattle.journal_acks.specs.open_links.OpenLinks.{Links, OpenLink, facts_in, link_after, link_at, without_links}
use Rattle.journal_acks.specs.open_links.declared.offers.Offer.{Offer}
use Rattle.journal_acks.specs.open_links.declared.offers.Offer.TheVariants.{NoLink, Empty, Overflow, Kept}
use Rattle.journal_acks.specs.link_calls.Turns.{change_if}
use Rattle.journal_acks.proofs.link_calls.UnderHandles.{WasOpen, change_under, map_under}
use Rattle.journal_acks.proofs.link_model.Pasts.{grows}
use Rattle.journal_acks.proofs.link_model.Views.{Owed, Owing, Same, key_view}
use Rattle.journal_acks.proofs.controller_model.Asked.{IsAskedStep, asked_from}
use Rattle.journal_ends.specs.Answering.{answers_if, answers_in_step}
use Rattle.journal_ends.specs.Seen.{Seen, asked_if, asked_in_step, seen_in_steps}

grows_by : (link : OpenLink) (step : Step) → facts_in (link_after step link) ≡ end_after link.setup (facts_in link) step
grows_by link step = grows link.setup link.past step

-- the step that a command asks of an end, at this moment
abbrev pub step_of : ℕ → Moment → OpenLink → Command → Option Step
step_of handle moment link command = step_on handle command moment link.setup.link.role (facts_in link).peer

-- what is seen of that as asked
abbrev pub asked_of : ℕ → Moment → OpenLink → Command → List Seen
asked_of handle moment link command = asked_if (step_of handle moment link command)

-- what the host answers by it
abbrev pub answers_of : ℕ → Moment → OpenLink → Command → List Step
answers_of handle moment link command = answers_if (step_of handle moment link command)

abbrev pub IfHostStep : Option Step → Type 0
IfHostStep None = ⊤
IfHostStep (Some step) = IsAskedStep step

-- the control part of an end after what it is asked
abbrev pub control_asked : OpenLink → Option Step → Control
control_asked base None = (facts_in base).control
control_asked base (Some step) = (end_after base.setup (facts_in base) step).control

-- its procedures, its phase and its keys after that
abbrev pub keyed_asked : OpenLink → Option Step → Keyed
keyed_asked base None = keyed_of (facts_in base)
keyed_asked base (Some step) = keyed_of (end_after base.setup (facts_in base) step)

-- and how it is to leave its link
abbrev pub leaving_asked : OpenLink → Option Step → Leaving
leaving_asked base None = (facts_in base).leaving
leaving_asked base (Some step) = (end_after base.setup (facts_in base) step).leaving

-- it was asked what these commands ask, and noted nothing
pub record IsAsked (handle : ℕ) (moment : Moment) (commands : List Command) (base after : OpenLink) : Type 0 where
  pub setup_is : after.setup ≡ base.setup
  pub steps : List Step
  pub past_is : after.past ≡ base.past ++ steps
  pub notes : notes_from base.setup (facts_in base) steps ≡ []
  pub asked : Option Step
  pub by_host : IfHostStep asked
  pub commands_ask : flat_map (asked_of handle moment base) commands ≡ asked_if asked
  pub commands_answer : flat_map (answers_of handle moment base) commands ≡ answers_if asked
  pub asks : (side : Side) (number : ℕ) → seen_in_steps side number base.setup (facts_in base) steps ≡ asked_if asked
  pub control_is : (facts_in after).control ≡ control_asked base asked
  pub keyed_is : keyed_of (facts_in after) ≡ keyed_asked base asked
  pub leaving_is : (facts_in after).leaving ≡ leaving_asked base asked

pub record HasAsked (links : Links) (handle : ℕ) (moment : Moment) (commands : List Command) (after : OpenLink) : Type 0 where
  pub base : OpenLink
  pub was : link_at handle links ≡ Some base
  pub is : IsAsked handle moment commands base after

-- these commands ask nothing of an end
record AskNothing (handle : ℕ) (moment : Moment) (commands : List Command) (link : OpenLink) : Type 0 where
  ask : flat_map (asked_of handle moment link) commands ≡ []
  answer : flat_map (answers_of handle moment link) commands ≡ []

no_commands : (handle : ℕ) (moment : Moment) (link : OpenLink) → AskNothing handle moment [] link
no_commands handle moment link = record { ask = refl; answer = refl }

none_of : (handle : ℕ) (moment : Moment) (command : Command) (link : OpenLink) → step_of handle moment link command ≡ None → AskNothing handle moment (command ∷ []) link
none_of handle moment command link none = record {
  ask = ap (λ step. asked_if step ++ []) none;
  answer = ap (λ step. answers_if step ++ []) none;
}

same_asked : (links : Links) (handle : ℕ) (moment : Moment) (commands : List Command) (after : OpenLink)
    → ((link : OpenLink) → AskNothing handle moment commands link) → link_at handle links ≡ Some after
    → HasAsked links handle moment commands after
same_asked links handle moment commands after none at = record {
  base = after;
  was = at;
  is = record {
    setup_is = refl;
    steps = [];
    past_is = sym (append-nil after.past);
    notes = refl;
    asked = None;
    by_host = tt;
    commands_ask = (none after).ask;
    commands_answer = (none after).answer;
    asks = λ side number. refl;
    control_is = refl;
    keyed_is = refl;
    leaving_is = refl;
  };
}

-- ---- the steps of hosts

host_seen : (side : Side) (number : ℕ) (setup : EndSetup) (facts : EndFacts) (step : Step) → IsAskedStep step
    → seen_in_steps side number setup facts (step ∷ []) ≡ asked_in_step step
host_seen side number setup facts (ProcedureAsked ask) by_host = refl
host_seen side number setup facts (RequestAnswered answer) by_host = refl
host_seen side number setup facts (KeyAnswered key slot) by_host = refl
host_seen side number setup facts (Disconnected reason slot) by_host = refl
host_seen side number setup facts other by_host = absurd by_host

host_notes : (setup : EndSetup) (facts : EndFacts) (step : Step) → IsAskedStep step → notes_from setup facts (step ∷ []) ≡ []
host_notes setup facts (ProcedureAsked ask) by_host = refl
host_notes setup facts (RequestAnswered answer) by_host = refl
host_notes setup facts (KeyAnswered key slot) by_host = refl
host_notes setup facts (Disconnected reason slot) by_host = refl
host_notes setup facts other by_host = absurd by_host

pub ends_moved : (step : ControlStep) (control : Control) → ((c : Control) → (moved step c).ends ≡ c.ends) → (control_after step control).ends ≡ control.ends
ends_moved step control keeps = by (is_none control.ends)
  where
    by : (goes_on : Bool) → (if goes_on then moved step control else control).ends ≡ control.ends
    by true = keeps control
    by false = refl

table_ends : (may : Bool) (table : TableFacts) (c : Control) → (table_if may table c).ends ≡ c.ends
table_ends true table c = refl
table_ends false table c = refl

pub host_ends : (setup : EndSetup) (facts : EndFacts) (step : Step) → IsAskedStep step → (end_after setup facts step).control.ends ≡ facts.control.ends
host_ends setup facts (ProcedureAsked ask) by_host = by (is_to_come ask facts)
  where
    by : (known : Bool) → (asked_unless known ask facts).control.ends ≡ facts.control.ends
    by true = refl
    by false = ends_moved (AsksFor ask) facts.control (λ c. refl)
host_ends setup facts (RequestAnswered answer) by_host =
    ends_moved (Answers answer) facts.control (λ c. table_ends (is_host_asked c.table.progress && is_answer answer) (host_answer_step c.table answer) c)
host_ends setup facts (KeyAnswered key slot) by_host = by (key_view key facts)
  where
    by : {d : Control} → Owing facts.control d → d.ends ≡ facts.control.ends
    by (Same is) = ap (λ (c : Control). c.ends) is
    by (Owed ctrl may is) = ap (λ (c : Control). c.ends) is ∙ ends_moved (Owes ctrl) facts.control (λ c. refl)
host_ends setup facts (Disconnected reason slot) by_host =
    ends_moved (Disconnects reason) facts.control (λ c. table_ends (is_open c.table.closing) (terminate_step c.table reason) c)
host_ends setup facts other by_host = absurd by_host

-- an end goes on after what it is asked
pub asked_goes_on : (base : OpenLink) (asked : Option Step) → IfHostStep asked → (control_asked base asked).ends ≡ (facts_in base).control.ends
asked_goes_on base None by_host = refl
asked_goes_on base (Some step) by_host = host_ends base.setup (facts_in base) step by_host

-- ---- which commands ask

unless_known : (known : Bool) (ask : Ask) → IfHostStep (ask_unless known ask)
unless_known true ask = tt
unless_known false ask = tt

map_by_host : (role : Role) (map : ℕ) → IfHostStep (map_by role map)
map_by_host Central map = tt
map_by_host Peripheral map = tt

step_of_host : (command : Command) (moment : Moment) (role : Role) (peer : PeerFacts) → IfHostStep (host_step_of command moment role peer)
step_of_host (ReadRemoteVersion handle) moment role peer = unless_known (is_some peer.version) Version
step_of_host (LeReadRemoteFeatures handle) moment role peer = unless_known (is_some peer.features) Features
step_of_host (LeSetChannels map) moment role peer = map_by_host role map
step_of_host other moment role peer = tt

one_answered : (view : View) (command : Command) → asks_links view command ≡ true → answered_commands (command ∷ []) ≡ command ∷ []
one_answered view (HostCompleted counts) asks = absurd cc
one_answered view other asks = refl

-- a command that asks no link asks none of them
none_asks : (view : View) (command : Command) (handle : ℕ) (moment : Moment) (link : OpenLink) → asks_links view command ≡ false
    → AskNothing handle moment (answered_commands (command ∷ [])) link
none_asks view (Disconnect given reason) handle moment link none = absurd cc
none_asks view (ReadRemoteVersion given) handle moment link none = absurd cc
none_asks view (LeReadRemoteFeatures given) handle moment link none = absurd cc
none_asks view (LeSetDataLength given most time) handle moment link none = absurd cc
none_asks view (LeSetChannels map) handle moment link none = absurd cc
none_asks view (LeSetPhy given all tx rx options) handle moment link none = absurd cc
none_asks view (LeConnectionUpdate given min max latency timeout lengths) handle moment link none = absurd cc
none_asks view (LeParamReply given min max latency timeout lengths) handle moment link none = absurd cc
none_asks view (LeParamNegative given reason) handle moment link none = absurd cc
none_asks view (LeEnableEncryption given rand ediv key) handle moment link none = absurd cc
none_asks view (LeKeyReply given key) handle moment link none = absurd cc
none_asks view (LeKeyNegative given) handle moment link none = absurd cc
none_asks view (HostCompleted counts) handle moment link none = no_commands handle moment link
none_asks view other handle moment link none = none_of handle moment other link refl

none_left : (handle : ℕ) (links : Links) (after : OpenLink) → link_at handle (without_links links) ≡ Some after → link_at handle links ≡ Some after
none_left handle links after at = absurd (let h : None ≡ Some after = sym (map_under (λ place. None) refl 0 handle links) ∙ at in absurd cc)

command_leaves : (command : Command) (handle : ℕ) (links : Links) (after : OpenLink) → link_at handle (links_after command links) ≡ Some after → link_at handle links ≡ Some after
command_leaves Reset handle links after at = none_left handle links after at
command_leaves other handle links after at = at

-- ---- the link under a handle, after a command that asks

module _ (command : Command) (moment : Moment) (handle : ℕ) (links : Links) (after : OpenLink) where
  abbrev step_for : OpenLink → Option Step
  step_for link = host_step_of command moment link.setup.link.role (facts_in link).peer

  step_is : (about : Bool) (link : OpenLink) → is_about handle command ≡ about → step_of handle moment link command ≡ step_if_about about (step_for link)
  step_is about link is = ap (λ b. step_if_about b (step_for link)) is

  step_by_host : (link : OpenLink) (step : Option Step) → is_about handle command ≡ true → link_at handle links ≡ Some link
      → step_for link ≡ step → IfHostStep step → Some (link_after_if step link) ≡ Some after
      → HasAsked links handle moment (command ∷ []) after
  step_by_host link None about was is by_host same =
      same_one link (none_of handle moment command link (step_is true link about ∙ is)) was cc
    where
      same_one : (link : OpenLink) → AskNothing handle moment (command ∷ []) link → link_at handle links ≡ Some link → link ≡ after
          → HasAsked links handle moment (command ∷ []) after
      same_one link none was same = record {
        base = link;
        was = was;
        is = record {
          setup_is = ap (λ (l : OpenLink). l.setup) (sym same);
          steps = [];
          past_is = ap (λ (l : OpenLink). l.past) (sym same) ∙ sym (append-nil link.past);
          notes = refl;
          asked = None;
          by_host = tt;
          commands_ask = none.ask;
          commands_answer = none.answer;
          asks = λ side number. refl;
          control_is = ap (λ (l : OpenLink). (facts_in l).control) (sym same);
          keyed_is = ap (λ (l : OpenLink). keyed_of (facts_in l)) (sym same);
          leaving_is = ap (λ (l : OpenLink). (facts_in l).leaving) (sym same);
        };
      }
  step_by_host link (Some step) about was is by_host same =
      let now : link_after step link ≡ after = cc in
      let one : step_of handle moment link command ≡ Some step = step_is true link about ∙ is in record {
        base = link;
        was = was;
        is = record {
          setup_is = ap (λ (l : OpenLink). l.setup) (sym now);
          steps = step ∷ [];
          past_is = ap (λ (l : OpenLink). l.past) (sym now);
          notes = host_notes link.setup (facts_in link) step by_host;
          asked = Some step;
          by_host = by_host;
          commands_ask = ap (λ asked. asked_if asked ++ []) one ∙ append-nil (asked_in_step step);
          commands_answer = ap (λ asked. answers_if asked ++ []) one ∙ append-nil (answers_in_step step);
          asks = λ side number. host_seen side number link.setup (facts_in link) step by_host;
          control_is = ap (λ (l : OpenLink). (facts_in l).control) (sym now) ∙ ap (λ (f : EndFacts). f.control) (grows_by link step);
          keyed_is = ap (λ (l : OpenLink). keyed_of (facts_in l)) (sym now) ∙ ap (λ (f : EndFacts). keyed_of f) (grows_by link step);
          leaving_is = ap (λ (l : OpenLink). (facts_in l).leaving) (sym now) ∙ ap (λ (f : EndFacts). f.leaving) (grows_by link step);
        };
      }

  place_asked : (about : Bool) (place : Option OpenLink) → is_about handle command ≡ about → link_at handle links ≡ place
      → place_commanded about command moment place ≡ Some after → HasAsked links handle moment (command ∷ []) after
  place_asked false place about was at =
      same_asked links handle moment (command ∷ []) after (λ link. none_of handle moment command link (step_is false link about)) (was ∙ at)
  place_asked true None about was at = absurd cc
  place_asked true (Some link) about was at =
      step_by_host link (step_for link) about was refl (step_of_host command moment link.setup.link.role (facts_in link).peer) at

  command_asked : link_at handle (links_commanded command moment links) ≡ Some after → HasAsked links handle moment (command ∷ []) after
  command_asked at = place_asked (is_about handle command) (link_at handle links) refl refl (sym (asked_from command moment 0 handle links) ∙ at)

-- ---- what an octet completes

module _ (setup : Setup) (facts : Facts) (handle : ℕ) (after : OpenLink) where
  abbrev Asked : List Command → Type 0
  Asked commands = HasAsked facts.links handle (moment_of setup facts) (answered_commands commands) after

  known_asked : (command : Command) (took asks : Bool) → (status_of facts.view command == 0) ≡ took → asks_links facts.view command ≡ asks
      → link_at handle (facts_asking (took && asks) setup facts command (facts_known took setup facts command)).links ≡ Some after
      → Asked (cond took (command ∷ []) [])
  known_asked command false asks took is at = same_asked facts.links handle (moment_of setup facts) [] after (no_commands handle (moment_of setup facts)) at
  known_asked command true false took is at =
      same_asked facts.links handle (moment_of setup facts) (answered_commands (command ∷ [])) after
      (λ link. none_asks facts.view command handle (moment_of setup facts) link is) (command_leaves command handle facts.links after at)
  known_asked command true true took is at =
      subst (λ commands. HasAsked facts.links handle (moment_of setup facts) commands after) (sym (one_answered facts.view command is))
      (command_asked command (moment_of setup facts) handle facts.links after at)

  read_asked : (read : CmdRead) → link_at handle (facts_commanded setup facts read).links ≡ Some after → Asked (commands_accepted_by facts read)
  read_asked (Known command) at = known_asked command (status_of facts.view command == 0) (asks_links facts.view command) refl refl at
  read_asked UnknownOpcode at = same_asked facts.links handle (moment_of setup facts) [] after (no_commands handle (moment_of setup facts)) at
  read_asked BadLength at = same_asked facts.links handle (moment_of setup facts) [] after (no_commands handle (moment_of setup facts)) at

  given_asked : (gives : Bool) (start : Bool) (body : List ℕ) → WasOpen (change_if gives (link_after (DataGiven start body))) (link_at handle facts.links) after
      → Asked []
  given_asked gives start body was = by gives was.is
    where
      by : (gives : Bool) → after ≡ change_if gives (link_after (DataGiven start body)) was.link → Asked []
      by false same = same_asked facts.links handle (moment_of setup facts) [] after (no_commands handle (moment_of setup facts)) (was.was ∙ ap Some (sym same))
      by true same = record {
        base = was.link;
        was = was.was;
        is = record {
          setup_is = ap (λ (l : OpenLink). l.setup) same;
          steps = DataGiven start body ∷ [];
          past_is = ap (λ (l : OpenLink). l.past) same;
          notes = refl;
          asked = None;
          by_host = tt;
          commands_ask = refl;
          commands_answer = refl;
          asks = λ side number. refl;
          control_is = ap (λ (l : OpenLink). (facts_in l).control) same
              ∙ ap (λ (f : EndFacts). f.control) (grows_by was.link (DataGiven start body));
          keyed_is = ap (λ (l : OpenLink). keyed_of (facts_in l)) same ∙ ap (λ (f : EndFacts). keyed_of f) (grows_by was.link (DataGiven start body));
          leaving_is = ap (λ (l : OpenLink). (facts_in l).leaving) same ∙ ap (λ (f : EndFacts). f.leaving) (grows_by was.link (DataGiven start body));
        };
      }

  offered_asked : (offer : Offer) (other : ℕ) (start : Bool) (body : List ℕ) → link_at handle (facts_offered offer other start body facts).links ≡ Some after → Asked []
  offered_asked Kept other start body at =
      given_asked (other == handle) start body (change_under other handle (link_after (DataGiven start body)) facts.links after at)
  offered_asked NoLink other start body at = same_asked facts.links handle (moment_of setup facts) [] after (no_commands handle (moment_of setup facts)) at
  offered_asked Empty other start body at = same_asked facts.links handle (moment_of setup facts) [] after (no_commands handle (moment_of setup facts)) at
  offered_asked Overflow other start body at = same_asked facts.links handle (moment_of setup facts) [] after (no_commands handle (moment_of setup facts)) at

  fed_asked : (fed : Fed) → link_at handle (facts_fed setup facts fed).links ≡ Some after → Asked (commands_accepted_in facts fed)
  fed_asked (Packet (HostCommand opcode body)) at = read_asked (command_of opcode body.items) at
  fed_asked (Packet (Acl other start count body)) at = offered_asked (offer_of setup facts other count) other start body.items at
  fed_asked LostSync at = same_asked facts.links handle (moment_of setup facts) [] after (no_commands handle (moment_of setup facts)) at
  fed_asked More at = same_asked facts.links handle (moment_of setup facts) [] after (no_commands handle (moment_of setup facts)) at

  pub octet_asked : (octet : ℕ) → link_at handle (facts_after setup facts (HostOctet octet)).links ≡ Some after
      → HasAsked facts.links handle (moment_of setup facts) (answered_after facts (HostOctet octet)) after
  octet_asked octet at = fed_asked (result_of facts.octets octet) at
