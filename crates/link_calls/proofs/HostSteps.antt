-- What a step that a host makes by a command is, and what it leaves of the end of a link.
use Rattle.std.proofs.Common.{◌≡◌, ℕ, ◌==◌, Bool, true, false, Option, Some, [], ◌∷◌, refl, subst}
use Rattle.std.specs.Prelude.{if◌then◌else◌}
use Rattle.std.proofs.lemmas.Bool.{eqb-true}
use Rattle.ble_base.specs.declared.roles.Role.{Role}
use Rattle.h4_frames.specs.declared.packet.HostPacket.TheVariants.{Command as HostCommand, Acl}
use Rattle.h4_frames.specs.declared.packet.Fed.{Fed}
use Rattle.h4_frames.specs.declared.packet.Fed.TheVariants.{More, Packet, LostSync}
use Rattle.hci_cmd.specs.declared.command.Command.{Command}
use Rattle.hci_cmd.specs.declared.command.CmdRead.{CmdRead}
use Rattle.hci_cmd.specs.declared.command.CmdRead.TheVariants.{Known, UnknownOpcode, BadLength}
use Rattle.hci_cmd.specs.Command.{command_of}
use Rattle.run_laws.specs.host_view.Status.{status_of}
use Rattle.run_laws.specs.link_model.declared.state.PeerFacts.{PeerFacts}
use Rattle.run_laws.specs.link_model.End.{facts_after as end_after}
use Rattle.run_laws.specs.link_model.Facts.{Facts as EndFacts}
use Rattle.run_laws.specs.link_model.Hosts.{asked_unless, is_to_come}
use Rattle.run_laws.specs.link_model.Setup.{Setup as EndSetup}
use Rattle.run_laws.specs.link_model.Step.{Step as EndStep, DataGiven, Disconnected, KeyAnswered, ProcedureAsked, RequestAnswered}
use Rattle.run_laws.specs.controller_model.Commands.{moment_of}
use Rattle.run_laws.specs.controller_model.Facts.{Setup, Facts}
use Rattle.run_laws.specs.controller_model.Host.{commands_accepted_after, commands_accepted_by, commands_accepted_in}
use Rattle.run_laws.specs.controller_model.link_commands.Commands.{host_step_of, is_about, step_if_about, step_on}
use Rattle.run_laws.specs.controller_model.Side.{result_of}
use Rattle.run_laws.specs.controller_model.Step.{HostOctet}
use Rattle.run_laws.proofs.controller_model.Asked.{IsAskedStep}
use Rattle.run_laws.proofs.OpenSteps.{IsAskedWell, accepted_in_range, step_is_well}
use Rattle.link_calls.proofs.Lengths.{is_lengthened, seen_lengthened}

-- ---- an accepted command has the status 00

accepted_read : (facts : Facts) (read : CmdRead) (command : Command) → commands_accepted_by facts read ≡ command ∷ [] → status_of facts.view command ≡ 0
accepted_read facts (Known one) command is = by (status_of facts.view one == 0) refl is
  where
    by : (ok : Bool) → (status_of facts.view one == 0) ≡ ok → (if ok then one ∷ [] else []) ≡ command ∷ [] → status_of facts.view command ≡ 0
    by true ok same =
        let equal : one ≡ command = cc in
        subst (λ (c : Command). status_of facts.view c ≡ 0) equal (eqb-true (status_of facts.view one) 0 ok)
    by false ok same = absurd cc
accepted_read facts UnknownOpcode command is = absurd cc
accepted_read facts BadLength command is = absurd cc

accepted_fed : (facts : Facts) (fed : Fed) (command : Command) → commands_accepted_in facts fed ≡ command ∷ [] → status_of facts.view command ≡ 0
accepted_fed facts (Packet (HostCommand opcode body)) command is = accepted_read facts (command_of opcode body.items) command is
accepted_fed facts (Packet (Acl handle start count body)) command is = absurd cc
accepted_fed facts LostSync command is = absurd cc
accepted_fed facts More command is = absurd cc

pub accepted_status : (facts : Facts) (octet : ℕ) (command : Command) → commands_accepted_after facts (HostOctet octet) ≡ command ∷ []
    → status_of facts.view command ≡ 0
accepted_status facts octet command is = accepted_fed facts (result_of facts.octets octet) command is

-- ---- so the step that it asks of an end is one of a host, with values in their range

about_step : (about : Bool) (may : Option EndStep) (step : EndStep) → step_if_about about may ≡ Some step → may ≡ Some step
about_step true may step is = is
about_step false may step is = absurd cc

pub asked_is_well : (setup : Setup) (facts : Facts) (octet handle : ℕ) (command : Command) (role : Role) (peer : PeerFacts) (step : EndStep)
    → commands_accepted_after facts (HostOctet octet) ≡ command ∷ [] → step_on handle command (moment_of setup facts) role peer ≡ Some step → IsAskedWell step
asked_is_well setup facts octet handle command role peer step accepted is =
    let moment = moment_of setup facts in
    step_is_well command moment role peer step (accepted_in_range facts.view command (accepted_status facts octet command accepted))
    (about_step (is_about handle command) (host_step_of command moment role peer) step is)

-- ---- what such a step leaves

-- the event that the end entered last, and what it received in it; a length that is long, or was changed in it, stays so
pub record LeavesEvent (before after : EndFacts) : Type 0 where
  pub event : after.event ≡ before.event
  pub good : after.last_good ≡ before.last_good
  pub lengthened : is_lengthened before.lengths ≡ true → is_lengthened after.lengths ≡ true

pub asked_leaves : (setup : EndSetup) (facts : EndFacts) (step : EndStep) → IsAskedStep step → LeavesEvent facts (end_after setup facts step)
asked_leaves setup facts (ProcedureAsked ask) by_host = by (is_to_come ask facts)
  where
    by : (comes : Bool) → LeavesEvent facts (asked_unless comes ask facts)
    by true = record { event = refl; good = refl; lengthened = λ is. is }
    by false = record { event = refl; good = refl; lengthened = λ is. seen_lengthened facts.lengths.long facts.lengths.changed _ is }
asked_leaves setup facts (RequestAnswered answer) by_host = record { event = refl; good = refl; lengthened = λ is. is }
asked_leaves setup facts (KeyAnswered key slot) by_host = record { event = refl; good = refl; lengthened = λ is. is }
asked_leaves setup facts (Disconnected reason slot) by_host = record { event = refl; good = refl; lengthened = λ is. is }
asked_leaves setup facts (DataGiven start body) by_host = absurd by_host
asked_leaves setup facts other by_host = absurd by_host
