-- The table of conditions accepts an accepted command.
use Rattle.std.proofs.Common.{◌≡◌}
use Rattle.hci_cmd.specs.declared.command.Command.{Command}
use Rattle.host_view.specs.View.{View}
use Rattle.host_view.specs.Refusals.{first_refusal}
use Rattle.host_view.specs.Status.{rows_of}
use Rattle.host_view.specs.Status.{status_of}

pub table_of : (view : View) (command : Command) → status_of view command ≡ 0 → first_refusal (rows_of view command) ≡ 0
unfolding status_of
table_of view command is = is
