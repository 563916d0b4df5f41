-- What a controller holds and notes after a command that asks something of the ends of links.
use Rattle.std.proofs.Common.{◌≡◌, ℕ, ◌+◌, ◌==◌, ◌&&◌, Bool, true, false, Option, Some, None, List, [], ◌∷◌, ◌++◌, suc, length, map, if◌then◌else◌, refl, ap, sym, subst, ◌∙◌, eqb-true}
use Rattle.std.specs.Prelude.{IfSome, is_some, ⊤}
use Rattle.std.specs.List.{AllByRecursion}
use Rattle.std.proofs.lemmas.Bool.{and_parts}
use Rattle.ble_base.specs.declared.notes.Note.{Note}
use Rattle.ble_base.specs.declared.notes.Note.TheVariants.{Done}
use Rattle.ble_base.specs.declared.procedure_kinds.Kind.{Kind}
use Rattle.ble_base.specs.declared.roles.Role.{Role}
use Rattle.ble_base.specs.declared.roles.Role.TheVariants.{Central, Peripheral}
use Rattle.hci_cmd.specs.declared.command.Command.{Command}
use Rattle.hci_cmd.specs.declared.command.Command.TheVariants.{Disconnect, LeConnectionUpdate, LeEnableEncryption, LeKeyNegative, LeKeyReply, LeParamNegative, LeParamReply, LeReadRemoteFeatures, LeSetChannels, LeSetDataLength, ReadRemoteVersion, Reset}
use Rattle.hci_cmd.specs.declared.command.CmdRead.TheVariants.{Known}
use Rattle.host_view.specs.OnLinks.{asks_links}
use Rattle.host_view.specs.Status.{status_of}
use Rattle.host_view.specs.View.{View}
use Rattle.host_view.specs.Changes.{view_after}
use Rattle.link_commands.specs.open_links.link_model.declared.state.PeerFacts.{PeerFacts}
use Rattle.link_commands.specs.open_links.link_model.procedure_values.declared.asks.Ask.{Ask}
use Rattle.link_commands.specs.open_links.link_model.procedure_values.declared.asks.Ask.TheVariants.{Features, Version}
use Rattle.link_commands.specs.open_links.link_model.End.{notes_after as end_notes}
use Rattle.link_commands.specs.open_links.link_model.Facts.{Facts as EndFacts}
use Rattle.link_commands.specs.open_links.link_model.Setup.{Setup as EndSetup}
use Rattle.link_commands.specs.open_links.link_model.Step.{Step as EndStep, Disconnected, KeyAnswered, ProcedureAsked, RequestAnswered}
use Rattle.link_commands.specs.open_links.OpenLinks.{HasHandle, HaveHandles, Links, OpenLink, facts_in, link_after, link_at, link_from}
use Rattle.link_commands.proofs.open_links.KeyedLinks.{keyed_leaves}
use Rattle.link_commands.proofs.open_links.Unmoved.{LeavesData, answered_leaves, asked_leaves, disconnected_leaves}
use Rattle.link_commands.specs.declared.moments.Moment.{Moment}
use Rattle.link_commands.specs.Commands.{ask_unless, host_step_of, is_about, map_by, step_if_about, step_on}
use Rattle.link_commands.specs.LinksCommanded.{events_commanded_on, events_known_in, known_in, link_after_if, links_commanded, links_commanded_from, place_commanded, view_commanded_on, view_known_on}
use Rattle.link_commands.specs.Views.{events_if, kind_known, view_answered}
use Rattle.controller_model.specs.Commands.{facts_accepted, facts_asking, facts_commanded, facts_known, is_asking, links_after, moment_of, notes_asking, notes_before, notes_commanded, notes_known}
use Rattle.controller_model.specs.Events.{notes_of_events}
use Rattle.controller_model.specs.Facts.{Setup, Facts}
use Rattle.controller_model.proofs.Following.{ChangesLinks, note_changes}
use Rattle.controller_model.proofs.ProcedureEvents.{AreOfProcedures, known_events}

-- ---- which steps a command makes

-- by which a host asks something of a link: for a procedure, for its answer to a request of the peer or to one for a key,
-- or for its end
abbrev pub IsAskedStep : EndStep → Type 0
IsAskedStep (ProcedureAsked ask) = ⊤
IsAskedStep (RequestAnswered answer) = ⊤
IsAskedStep (KeyAnswered key slot) = ⊤
IsAskedStep (Disconnected reason slot) = ⊤
IsAskedStep step = ⊥

unless_known : (known : Bool) (ask : Ask) → IfSome (ask_unless known ask) IsAskedStep
unless_known true ask = tt
unless_known false ask = tt

map_is : (role : Role) (map : ℕ) → IfSome (map_by role map) IsAskedStep
map_is Central map = tt
map_is Peripheral map = tt

step_is : (command : Command) (moment : Moment) (role : Role) (peer : PeerFacts) → IfSome (host_step_of command moment role peer) IsAskedStep
step_is (Disconnect handle reason) moment role peer = tt
step_is (ReadRemoteVersion handle) moment role peer = unless_known (is_some peer.version) Version
step_is (LeReadRemoteFeatures handle) moment role peer = unless_known (is_some peer.features) Features
step_is (LeSetDataLength handle most time) moment role peer = tt
step_is (LeConnectionUpdate handle min max latency timeout lengths) moment role peer = tt
step_is (LeSetChannels map) moment role peer = map_is role map
step_is (LeParamReply handle min max latency timeout lengths) moment role peer = tt
step_is (LeParamNegative handle reason) moment role peer = tt
step_is (LeEnableEncryption handle rand ediv key) moment role peer = tt
step_is (LeKeyReply handle key) moment role peer = tt
step_is (LeKeyNegative handle) moment role peer = tt
step_is other moment role peer = tt

-- such a step notes nothing, and leaves the data of the link
pub asked_silent : (step : EndStep) → IsAskedStep step → (setup : EndSetup) (facts : EndFacts) → end_notes setup facts step ≡ []
asked_silent (ProcedureAsked ask) asks setup facts = refl
asked_silent (RequestAnswered answer) asks setup facts = refl
asked_silent (KeyAnswered key slot) asks setup facts = refl
asked_silent (Disconnected reason slot) asks setup facts = refl
asked_silent step asks setup facts = absurd asks

pub asked_leaves_data : (step : EndStep) → IsAskedStep step → LeavesData step
asked_leaves_data (ProcedureAsked ask) asks = asked_leaves ask
asked_leaves_data (RequestAnswered answer) asks = answered_leaves answer
asked_leaves_data (KeyAnswered key slot) asks = keyed_leaves key slot
asked_leaves_data (Disconnected reason slot) asks = disconnected_leaves reason slot
asked_leaves_data step asks = absurd asks

-- ---- the links after it

-- what a command asks of a link, if it is about it
abbrev pub step_asked : Bool → Command → Moment → OpenLink → Option EndStep
step_asked about command moment link = step_if_about about (host_step_of command moment link.setup.link.role (facts_in link).peer)

-- a fact of a place, as the link there stays as it is or takes a step that its host asks
pub place_asked : (P : Option OpenLink → Type 0) (command : Command) (moment : Moment) (about : Bool) (place : Option OpenLink) → P place
    → ((link : OpenLink) (step : EndStep) → place ≡ Some link → step_asked about command moment link ≡ Some step → IsAskedStep step
    → P (Some (link_after step link)))
    → P (place_commanded about command moment place)
place_asked P command moment false place holds asked = holds
place_asked P command moment true None holds asked = holds
place_asked P command moment true (Some link) holds asked =
    by (step_asked true command moment link) refl (step_is command moment link.setup.link.role (facts_in link).peer)
  where
    by : (step : Option EndStep) → step_asked true command moment link ≡ step → IfSome step IsAskedStep → P (Some (link_after_if step link))
    by None is of = holds
    by (Some step) is of = asked link step refl is of

pub asked_from : (command : Command) (moment : Moment) (first handle : ℕ) (links : Links)
    → link_from first handle (links_commanded_from first command moment links)
    ≡ place_commanded (is_about handle command) command moment (link_from first handle links)
asked_from command moment first handle [] = none (is_about handle command)
  where
    none : (about : Bool) → None ≡ place_commanded about command moment None
    none true = refl
    none false = refl
asked_from command moment first handle (place ∷ links) = by (first == handle) refl (asked_from command moment (first + 1) handle links)
  where
    by : (same : Bool) → (first == handle) ≡ same
        → link_from (first + 1) handle (links_commanded_from (first + 1) command moment links)
        ≡ place_commanded (is_about handle command) command moment (link_from (first + 1) handle links)
        → (if same then place_commanded (is_about first command) command moment place
        else link_from (first + 1) handle (links_commanded_from (first + 1) command moment links))
        ≡ place_commanded (is_about handle command) command moment (if same then place else link_from (first + 1) handle links)
    by true is rest = ap (λ (h : ℕ). place_commanded (is_about h command) command moment place) (eqb-true first handle is)
    by false is rest = rest

pub asked_at : (command : Command) (moment : Moment) (handle : ℕ) (links : Links)
    → link_at handle (links_commanded command moment links) ≡ place_commanded (is_about handle command) command moment (link_at handle links)
asked_at command moment handle links = asked_from command moment 0 handle links

-- a fact of what is under a handle
pub at_asked : (P : Option OpenLink → Type 0) (command : Command) (moment : Moment) (handle : ℕ) (links : Links) → P (link_at handle links)
    → ((link : OpenLink) (step : EndStep) → link_at handle links ≡ Some link
    → step_on handle command moment link.setup.link.role (facts_in link).peer ≡ Some step → IsAskedStep step → P (Some (link_after step link)))
    → P (link_at handle (links_commanded command moment links))
at_asked P command moment handle links holds asked =
    subst P (sym (asked_at command moment handle links)) (place_asked P command moment (is_about handle command) (link_at handle links) holds asked)

-- a fact that each such step keeps: of what is under a handle, and of each place
pub at_kept : (P : Option OpenLink → Type 0)
    → ((link : OpenLink) (step : EndStep) → IsAskedStep step → P (Some link) → P (Some (link_after step link)))
    → (command : Command) (moment : Moment) (handle : ℕ) (links : Links) → P (link_at handle links) → P (link_at handle (links_commanded command moment links))
at_kept P keeps command moment handle links holds =
    at_asked P command moment handle links holds (λ link step is asked asks. keeps link step asks (subst P is holds))

pub all_asked : (P : Option OpenLink → Type 0)
    → ((link : OpenLink) (step : EndStep) → IsAskedStep step → P (Some link) → P (Some (link_after step link)))
    → (command : Command) (moment : Moment) (first : ℕ) (links : Links) → AllByRecursion P links → AllByRecursion P (links_commanded_from first command moment links)
all_asked P keeps command moment first [] are = tt
all_asked P keeps command moment first (place ∷ links) are = (
  place_asked P command moment (is_about first command) place are.0 (λ link step is asked asks. keeps link step asks (subst P is are.0)),
  all_asked P keeps command moment (first + 1) links are.1,
)

-- what each place is mapped to, where such a step leaves that
pub asked_same : {A : Type 0} (part : Option OpenLink → A)
    → ((link : OpenLink) (step : EndStep) → IsAskedStep step → part (Some (link_after step link)) ≡ part (Some link))
    → (command : Command) (moment : Moment) (first : ℕ) (links : Links) → map part (links_commanded_from first command moment links) ≡ map part links
asked_same part keeps command moment first [] = refl
asked_same part keeps command moment first (place ∷ links) =
    λ i. here i ∷ asked_same part keeps command moment (first + 1) links i
  where
    here : part (place_commanded (is_about first command) command moment place) ≡ part place
    here =
        place_asked (λ now. part now ≡ part place) command moment (is_about first command) place refl
        (λ link step is asked asks. keeps link step asks ∙ ap part (sym is))

-- there are as many places, each link is under its handle, and a free handle is free
many_from : (command : Command) (moment : Moment) (first : ℕ) (links : Links) → length (links_commanded_from first command moment links) ≡ length links
many_from command moment first [] = refl
many_from command moment first (place ∷ links) = ap suc (many_from command moment (first + 1) links)

pub asked_many : (command : Command) (moment : Moment) (links : Links) → length (links_commanded command moment links) ≡ length links
asked_many command moment links = many_from command moment 0 links

pub asked_handles : (command : Command) (moment : Moment) (first : ℕ) (links : Links) → HaveHandles first links
    → HaveHandles first (links_commanded_from first command moment links)
asked_handles command moment first [] have = tt
asked_handles command moment first (place ∷ links) have = (
  place_asked (HasHandle first) command moment (is_about first command) place have.0 (λ link step is asked asks. subst (HasHandle first) is have.0),
  asked_handles command moment (first + 1) links have.1,
)

pub asked_none : (command : Command) (moment : Moment) (handle : ℕ) (links : Links) → link_at handle links ≡ None
    → link_at handle (links_commanded command moment links) ≡ None
asked_none command moment handle links none =
    at_asked (λ (place : Option OpenLink). place ≡ None) command moment handle links none (λ link step is asked asks. absurd cc)

-- ---- the view after it

answered_changes : (handle : ℕ) (kind : Option Kind) (view : View) → ChangesLinks view (view_answered handle kind view)
answered_changes handle None view = refl
answered_changes handle (Some kind) view = note_changes view (Done handle kind) tt

known_changes : (view : View) (command : Command) (links : Links) → ChangesLinks view (view_known_on view command links)
known_changes view (ReadRemoteVersion handle) links =
    answered_changes handle (known_in (ReadRemoteVersion handle) (link_at handle links)) view
known_changes view (LeReadRemoteFeatures handle) links =
    answered_changes handle (known_in (LeReadRemoteFeatures handle) (link_at handle links)) view
known_changes view other links = refl

-- what it asks changes the links of the view alone
abbrev pub view_asked : View → Command → Links → View
view_asked view command links = record (view_after view command) { links = (view_commanded_on view command links).links }

pub asked_view_is : (view : View) (command : Command) (links : Links) → view_commanded_on view command links ≡ view_asked view command links
asked_view_is view command links = known_changes (view_after view command) command links

-- ---- what is held

-- of what is left by the command as such, the links change, and those of the view
abbrev pub facts_asked : Setup → Facts → Command → Facts
facts_asked setup facts command = record (facts_accepted setup facts command) {
  view = view_asked facts.view command facts.links;
  links = links_commanded command (moment_of setup facts) facts.links;
}

asking_is : (setup : Setup) (facts : Facts) (command : Command)
    → facts_asking true setup facts command (facts_accepted setup facts command) ≡ facts_asked setup facts command
asking_is setup facts command =
    ap (λ (view : View). record (facts_asked setup facts command) { view = view }) (asked_view_is facts.view command facts.links)

-- ---- a command that asks

pub asking_links : (view : View) (command : Command) → is_asking view command ≡ true → asks_links view command ≡ true
asking_links view command asks = (and_parts (status_of view command == 0) (asks_links view command) asks).1

-- it is no Reset, and no command that causes events
unasked : (X : Type 0) → false ≡ true → X
unasked X is = absurd cc

by_links : (view : View) (command : Command) (links : Links) → asks_links view command ≡ true → links_after command links ≡ links
by_links view Reset links asks = unasked _ asks
by_links view other links asks = refl

by_notes : (facts : Facts) (command : Command) → asks_links facts.view command ≡ true → notes_before facts command ≡ []
by_notes facts Reset asks = unasked _ asks
by_notes facts other asks = refl

module _ (facts : Facts) (command : Command) (asks : is_asking facts.view command ≡ true) where
  pub asking_leaves : links_after command facts.links ≡ facts.links
  asking_leaves = by_links facts.view command facts.links (asking_links facts.view command asks)

  pub asking_shuts_none : notes_before facts command ≡ []
  asking_shuts_none = by_notes facts command (asking_links facts.view command asks)

-- ---- what is answered at once

if_known : (handle : ℕ) (peer : PeerFacts) (kind : Option Kind) → AreOfProcedures (events_if handle peer kind)
if_known handle peer None = tt
if_known handle peer (Some kind) = known_events handle peer kind

known_of : (command : Command) (handle : ℕ) (place : Option OpenLink) → AreOfProcedures (events_known_in command handle place)
known_of command handle None = tt
known_of command handle (Some link) = if_known handle (facts_in link).peer (kind_known command (facts_in link).peer)

pub events_at_once_are : (command : Command) (links : Links) → AreOfProcedures (events_commanded_on command links)
events_at_once_are (ReadRemoteVersion handle) links = known_of (ReadRemoteVersion handle) handle (link_at handle links)
events_at_once_are (LeReadRemoteFeatures handle) links = known_of (LeReadRemoteFeatures handle) handle (link_at handle links)
events_at_once_are other links = tt

abbrev pub notes_at_once : Facts → Command → List Note
notes_at_once facts command = notes_of_events facts.view (events_commanded_on command facts.links)

-- ---- a command with what it asks

module _ (setup : Setup) (facts : Facts) (command : Command) where
  abbrev accepts : Bool
  accepts = status_of facts.view command == 0

  abbrev Asks : Type 0
  Asks = is_asking facts.view command ≡ true

  -- of the facts
  pub of_asking : (P : Facts → Type 0) → P (facts_known accepts setup facts command)
      → (Asks → P (facts_accepted setup facts command) → P (facts_asked setup facts command)) → P (facts_commanded setup facts (Known command))
  of_asking P holds asked = by accepts (asks_links facts.view command) refl refl holds
    where
      by : (accepts asks : Bool) → (status_of facts.view command == 0) ≡ accepts → asks_links facts.view command ≡ asks
          → P (facts_known accepts setup facts command) → P (facts_asking (accepts && asks) setup facts command (facts_known accepts setup facts command))
      by true true takes asks holds =
          subst P (sym (asking_is setup facts command)) (asked (λ i. takes i && asks i) holds)
      by true false takes asks holds = holds
      by false asks takes is holds = holds

  -- of the notes
  pub noted_asking : (opcode : ℕ) (P : List Note → Type 0) → P (notes_known accepts setup facts opcode command)
      → ((notes : List Note) → Asks → P notes → P (notes ++ notes_at_once facts command)) → P (notes_commanded setup facts opcode (Known command))
  noted_asking opcode P holds more = by (is_asking facts.view command) refl
    where
      by : (asks : Bool) → is_asking facts.view command ≡ asks
          → P (notes_asking asks facts command (notes_known accepts setup facts opcode command))
      by true is = more (notes_known accepts setup facts opcode command) is holds
      by false is = holds

  -- of both at once
  pub both_asking : (opcode : ℕ) (P : Facts → List Note → Type 0) → P (facts_known accepts setup facts command) (notes_known accepts setup facts opcode command)
      → (Asks → P (facts_asked setup facts command) (notes_known true setup facts opcode command ++ notes_at_once facts command))
      → P (facts_commanded setup facts (Known command)) (notes_commanded setup facts opcode (Known command))
  both_asking opcode P holds asked = by accepts (asks_links facts.view command) refl refl holds
    where
      by : (accepts asks : Bool) → (status_of facts.view command == 0) ≡ accepts → asks_links facts.view command ≡ asks
          → P (facts_known accepts setup facts command) (notes_known accepts setup facts opcode command)
          → P (facts_asking (accepts && asks) setup facts command (facts_known accepts setup facts command))
          (notes_asking (accepts && asks) facts command (notes_known accepts setup facts opcode command))
      by true true takes asks holds =
          subst (λ (after : Facts). P after (notes_known true setup facts opcode command ++ notes_at_once facts command))
          (sym (asking_is setup facts command)) (asked (λ i. takes i && asks i))
      by true false takes asks holds = holds
      by false asks takes is holds = holds

-- ---- a refused command

pub refused_leaves : (setup : Setup) (facts : Facts) (command : Command) → (status_of facts.view command ≡ 0 → ⊥)
    → facts_commanded setup facts (Known command) ≡ facts
refused_leaves setup facts command refused = by (status_of facts.view command == 0) refl
  where
    by : (accepted : Bool) → (status_of facts.view command == 0) ≡ accepted
        → facts_asking (accepted && asks_links facts.view command) setup facts command (facts_known accepted setup facts command) ≡ facts
    by true is = absurd (refused (eqb-true (status_of facts.view command) 0 is))
    by false is = refl
