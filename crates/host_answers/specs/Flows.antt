-- What a host set of flow control at its controller, by the commands that the lines of its side accept (Core 5.2, volume 4
-- part E, sections 4.2, 7.3.2, 7.3.38 and 7.3.39).
use Rattle.std.specs.Prelude.{ℕ, ◌==◌, fold, List, min}
use Rattle.ble_base.specs.Limits.{payload_octets}
use Rattle.ble_base.specs.declared.roles.Side.{Side}
use Rattle.hci_cmd.specs.declared.command.Command.{Command}
use Rattle.hci_cmd.specs.declared.command.Command.TheVariants.{Reset, SetHostFlow, HostBufferSize}
use Rattle.host_view.specs.View.{first_flow}
use Rattle.host_view.specs.declared.view.HostFlow.{HostFlow}
use Rattle.journal.specs.declared.entries.Entry.{Entry}
use Rattle.host_answers.specs.Answered.{host_commands}

abbrev pub flow_after : HostFlow → Command → HostFlow
flow_after flow Reset = first_flow
flow_after flow (SetHostFlow value) = record flow { on = (value == 1) }
flow_after flow (HostBufferSize acl_length sco_length acl_count sco_count) =
    record flow { acl_length = acl_length; acl_count = acl_count }
flow_after flow other = flow

abbrev pub flow_on : Side → List Entry → HostFlow
flow_on side front = fold flow_after first_flow (host_commands side front)

-- the most octets of a payload that a link may receive which the side opens after these lines (our choice)
abbrev pub most_received_on : Side → List Entry → ℕ
most_received_on side front = min payload_octets (flow_on side front).acl_length
