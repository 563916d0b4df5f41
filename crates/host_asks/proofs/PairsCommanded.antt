-- A relation of two ends that each step of a host keeps is kept by each command.
use Rattle.std.proofs.Common.{◌≡◌, ℕ, true, Option, Some, None}
use Rattle.hci_cmd.specs.declared.command.Command.{Command}
use Rattle.procedure_events.specs.procedure_stages.Kinds.{role_of}
use Rattle.link_commands.specs.open_links.link_model.Setup.{Setup}
use Rattle.link_commands.specs.open_links.link_model.Facts.{Facts}
use Rattle.link_commands.specs.open_links.link_model.Step.{Step}
use Rattle.link_commands.specs.open_links.link_model.End.{facts_after}
use Rattle.link_pairs.specs.Hosts.{MayHost}
use Rattle.host_view.specs.View.{View}
use Rattle.host_view.specs.Status.{status_of}
use Rattle.link_commands.specs.declared.moments.Moment.{Moment}
use Rattle.link_commands.specs.Commands.{facts_commanded, host_step_of, is_about}
use Rattle.host_asks.specs.Commands.{MayComeIf, WordsFit}
use Rattle.host_asks.specs.Views.{KnowsAt}
use Rattle.host_asks.proofs.EndsViewed.{command_may}

module _ (P : Facts → Type 0) (setup : Setup) (facts : Facts) (now : P facts) (next : (step : Step) → MayHost step facts → P (facts_after setup facts step)) where
  left_by : (step : Option Step) → MayComeIf step facts → P (facts_commanded setup step facts)
  left_by None may = now
  left_by (Some step) may = next step may

  pub command_leaves : (view : View) (command : Command) (handle : ℕ) (moment : Moment) → status_of view command ≡ 0
      → is_about handle command ≡ true → KnowsAt view handle facts → WordsFit moment
      → P (facts_commanded setup (host_step_of command moment (role_of facts.control.table.progress) facts.peer) facts)
  command_leaves view command handle moment ok about known words =
      left_by (host_step_of command moment (role_of facts.control.table.progress) facts.peer) (command_may view command handle moment facts ok about known words)
