-- What a host asks of an end before a turn leaves the reason for which the end is to end as the turn begins.
use Rattle.std.proofs.Common.{◌≡◌, ℕ, ◌≤◌, Bool, true, false, Option, Some, None, List, is_some, refl, sym, ap, subst, ◌∙◌}
use Rattle.std.specs.Prelude.{IfSome, ⊤}
use Rattle.ble_base.specs.declared.roles.Role.{Role}
use Rattle.ble_base.specs.declared.roles.Role.TheVariants.{Central, Peripheral}
use Rattle.hci_cmd.specs.declared.command.Command.{Command}
use Rattle.hci_cmd.specs.declared.command.Command.TheVariants.{Disconnect, LeKeyNegative, LeKeyReply, LeReadRemoteFeatures, LeSetChannels, ReadRemoteVersion}
use Rattle.journal_controls.specs.controller_model.Commands.{moment_of}
use Rattle.journal_controls.specs.controller_model.Facts.{Setup as StationSetup}
use Rattle.journal_controls.specs.controller_model.Side.{facts_of as station_after}
use Rattle.journal_controls.specs.controller_model.Step.{Step as Call}
use Rattle.journal_controls.specs.controller_model.link_commands.Commands.{ask_unless, host_step_of, is_about, map_by, step_if_about}
use Rattle.journal_controls.specs.controller_model.link_commands.declared.moments.Moment.{Moment}
use Rattle.journal_controls.proofs.controller_model.Asked.{IsAskedStep}
use Rattle.journal_controls.specs.journal_acks.link_calls.Hosts.{HasHeardHost, GetsData, IsAsked, Unchanged}
use Rattle.journal_controls.specs.link_model.End.{facts_after}
use Rattle.journal_controls.specs.link_model.Facts.{Facts as EndFacts, params_of}
use Rattle.journal_controls.specs.link_model.Hosts.{ends_without_key, facts_disconnected, facts_key_answered, is_to_come}
use Rattle.journal_controls.specs.link_model.Setup.{Setup}
use Rattle.journal_controls.specs.link_model.Step.{Step, DataGiven, Disconnected, KeyAnswered, ProcedureAsked, RequestAnswered}
use Rattle.journal_controls.specs.link_model.Times.{due_of}
use Rattle.journal_controls.specs.link_model.declared.state.PeerFacts.{PeerFacts}
use Rattle.journal_controls.specs.link_model.procedure_values.declared.asks.Ask.{Ask}
use Rattle.journal_controls.specs.link_model.procedure_values.declared.asks.Ask.TheVariants.{Features, Version}
use Rattle.journal_controls.specs.open_links.OpenLinks.{OpenLink, facts_in, link_at}
use Rattle.journal_controls.specs.open_links.Turns.{due_in}
use Rattle.journal_controls.proofs.journal_acks.link_calls.HostSteps.{asked_is_well}
use Rattle.journal_controls.proofs.journal_ends.run_laws.Agreed.{step_facts}
use Rattle.journal_leaving.proofs.ClosedEnds.{not_leaving}
use Rattle.journal_leaving.proofs.DueReasons.{answer_due, asked_due, disconnect_due, key_due}

-- ---- the slot in which a host ends a link, or has a key or none

abbrev EndsIn : ℕ → Step → Type 0
EndsIn slot (Disconnected reason at) = at ≡ slot
EndsIn slot (KeyAnswered key at) = at ≡ slot
EndsIn slot step = ⊤

unless_known : (slot : ℕ) (known : Bool) (ask : Ask) → IfSome (ask_unless known ask) (EndsIn slot)
unless_known slot true ask = tt
unless_known slot false ask = tt

map_given : (slot : ℕ) (role : Role) (map : ℕ) → IfSome (map_by role map) (EndsIn slot)
map_given slot Central map = tt
map_given slot Peripheral map = tt

step_in : (command : Command) (moment : Moment) (role : Role) (peer : PeerFacts) → IfSome (host_step_of command moment role peer) (EndsIn moment.slot)
step_in (Disconnect given reason) moment role peer = refl
step_in (ReadRemoteVersion given) moment role peer = unless_known moment.slot (is_some peer.version) Version
step_in (LeReadRemoteFeatures given) moment role peer = unless_known moment.slot (is_some peer.features) Features
step_in (LeSetChannels map) moment role peer = map_given moment.slot role map
step_in (LeKeyReply given key) moment role peer = refl
step_in (LeKeyNegative given) moment role peer = refl
step_in other moment role peer = tt

about_in : (about : Bool) (may : Option Step) (step : Step) (slot : ℕ) → IfSome may (EndsIn slot) → step_if_about about may ≡ Some step → EndsIn slot step
about_in true may step slot ends is = subst (λ one. IfSome one (EndsIn slot)) is ends
about_in false may step slot ends is = absurd cc

-- ---- what is due stays due

host_due : (setup : Setup) (facts : EndFacts) (step : Step) (slot : ℕ) → IsAskedStep step → EndsIn slot step → (ends_without_key None facts ≡ true → facts.leaving.disconnected ≡ None)
    → 1 ≤ (params_of facts).timeout → due_of setup (facts_after setup facts step) slot ≡ due_of setup facts slot
host_due setup facts (ProcedureAsked ask) slot by_host at none some = asked_due (is_to_come ask facts) setup facts ask slot
host_due setup facts (RequestAnswered answer) slot by_host at none some = answer_due setup facts answer slot
host_due setup facts (KeyAnswered None now) slot by_host at none some =
    ap (λ (n : ℕ). due_of setup (facts_key_answered None n facts) slot) at ∙ key_due setup facts None slot none some
host_due setup facts (KeyAnswered (Some ltk) now) slot by_host at none some =
    ap (λ (n : ℕ). due_of setup (facts_key_answered (Some ltk) n facts) slot) at ∙ key_due setup facts (Some ltk) slot (λ ends. absurd cc) some
host_due setup facts (Disconnected reason now) slot by_host at none some =
    ap (λ (n : ℕ). due_of setup (facts_disconnected reason n facts) slot) at ∙ disconnect_due setup facts reason slot some
host_due setup facts other slot by_host at none some = absurd by_host

-- where an end was due to each link that was there under its handle, it is due to the link that is there; the timeout of an
-- open end is not 0
pub octet_due : (setup : StationSetup) (past : List Call) (octet handle slot : ℕ) (now : OpenLink) → HasHeardHost setup (station_after setup past) octet handle now
    → (station_after setup past).turn.begun ≡ slot
    → ((link : OpenLink) → link_at handle (station_after setup past).links ≡ Some link → 1 ≤ (params_of (facts_in link)).timeout) → (due : Option ℕ)
    → ((link : OpenLink) → link_at handle (station_after setup past).links ≡ Some link → due ≡ due_in slot link) → due ≡ due_in slot now
octet_due setup past octet handle slot now (Unchanged same) begun timed due is = is now same
octet_due setup past octet handle slot now (GetsData link start body was same) begun timed due is =
    is link was ∙ sym (ap (due_in slot) same ∙ ap (λ (f : EndFacts). due_of link.setup f slot) (step_facts link (DataGiven start body)))
octet_due setup past octet handle slot now (IsAsked link command step was accepted asks same) begun timed due is =
    let facts = station_after setup past in
    let moment = moment_of setup facts in
    let role = link.setup.link.role in
    let peer = (facts_in link).peer in
    let at = about_in (is_about handle command) (host_step_of command moment role peer) step moment.slot (step_in command moment role peer) asks in
    is link was
    ∙ sym (ap (due_in slot) same ∙ ap (λ (f : EndFacts). due_of link.setup f slot) (step_facts link step)
    ∙ host_due link.setup (facts_in link) step slot (asked_is_well setup facts octet handle command role peer step accepted asks).by_host
    (subst (λ (n : ℕ). EndsIn n step) begun at) (not_leaving link.setup link.past) (timed link was))
