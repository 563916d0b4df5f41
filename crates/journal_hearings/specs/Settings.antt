-- What a host has set at its controller, by the lines of its side: by the commands that these accept (Core 5.2, volume 4
-- part E, sections 7.3.2, 7.8.5 and 7.8.15 to 7.8.17).
use Rattle.std.specs.Prelude.{ℕ, List, [], fold}
use Rattle.ble_base.specs.declared.addresses.Address.{Address}
use Rattle.ble_base.specs.declared.roles.Side.{Side}
use Rattle.hci_cmd.specs.declared.command.Command.{Command}
use Rattle.hci_cmd.specs.declared.command.Command.TheVariants.{Reset, LeSetAdvParams, LeClearList, LeAddToList, LeRemoveFromList}
use Rattle.host_answers.specs.Answered.{host_commands}
use Rattle.host_view.specs.Status.{named_address}
use Rattle.journal.specs.declared.entries.Entry.{Entry}
use Rattle.scan_init.specs.Addresses.{with_address, without_address}

-- ---- the settings

-- the filter policy of advertising is 0 until the host sets one (section 7.8.5)
abbrev pub policy_after : ℕ → Command → ℕ
policy_after policy Reset = 0
policy_after policy (LeSetAdvParams min max kind own peer_kind peer channels new) = new
policy_after policy other = policy

abbrev pub filter_policy : Side → List Entry → ℕ
filter_policy side journal = fold policy_after 0 (host_commands side journal)

-- the accept list is empty until the host adds to it (sections 7.8.15 to 7.8.17)
abbrev pub list_after : List Address → Command → List Address
list_after list Reset = []
list_after list LeClearList = []
list_after list (LeAddToList kind address) = with_address list (named_address kind address)
list_after list (LeRemoveFromList kind address) = without_address list (named_address kind address)
list_after list other = list

abbrev pub accept_list : Side → List Entry → List Address
accept_list side journal = fold list_after [] (host_commands side journal)
