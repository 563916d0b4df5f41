-- Journals of a host with one buffer, or with two links, that receives what it must not, or does not receive what it must.
use Rattle.std.specs.Prelude.{List, [], ◌∷◌, ◌++◌}
use Rattle.ble_base.specs.declared.roles.Role.TheVariants.{Peripheral}
use Rattle.ble_base.specs.declared.roles.Side.TheVariants.{B}
use Rattle.journal.specs.declared.entries.Entry.{Entry}
use Rattle.journal.specs.declared.entries.Entry.TheVariants.{Fed, Opened, Shut, Took, Up}
use Rattle.run_model.specs.Rows.{turn_entry}
use Rattle.journal_pdus.specs.journal_hosts.CreditRows.{data_up, end_report}
use Rattle.journal_pdus.specs.journal_hosts.FlowRows.{flow_turned_on, long_up, one_returned, one_taken, one_waits, other_returned}
use Rattle.journal_pdus.specs.journal_hosts.OrderRows.{first_shut, second_up, two_take}

-- its side has taken two PDUs, and it has received one. It returns that one
abbrev pub room_again : List Entry
room_again = one_waits ++ Fed B one_returned ∷ []

-- a right journal: it receives the second, and a third one waits
abbrev pub full_again : List Entry
full_again = room_again ++ Up B data_up ∷ Took B 1 3 2 (0xAA ∷ []) ∷ []

-- ---- what it must not receive

-- the second while it holds the first
abbrev pub up_beyond : List Entry
up_beyond = one_waits ++ Up B data_up ∷ []

-- the third while it holds the second: the packet that it returned counts once
abbrev pub returned_twice : List Entry
returned_twice = full_again ++ Up B data_up ∷ []

-- the second, after a return of a handle without a link
abbrev pub returned_elsewhere : List Entry
returned_elsewhere = one_waits ++ Fed B other_returned ∷ Up B data_up ∷ []

-- a packet of 28 octets, where its buffer has 27
abbrev pub up_too_long : List Entry
up_too_long = one_taken ++ Up B long_up ∷ []

-- ---- what it must receive before the next turn

-- the first: it holds none
abbrev pub kept_back : List Entry
kept_back = one_taken ++ turn_entry 1 ∷ []

-- the second, once it has returned the first
abbrev pub kept_after_return : List Entry
kept_after_return = room_again ++ turn_entry 1 ∷ []

-- the packet that waits of the second of two links, once the first one, of which it holds a packet, is shut in a turn
-- without a packet
abbrev pub shut_in_turn : List Entry
shut_in_turn =
    flow_turned_on ++ Opened B 2 1 Peripheral ∷ Took B 1 1 2 (0xAA ∷ []) ∷ Up B data_up ∷ Took B 2 1 2 (0xAA ∷ [])
    ∷ turn_entry 1 ∷ Shut B 1 (record { 0 = 0x16 }) ∷ Up B end_report ∷ []

abbrev pub kept_after_shut : List Entry
kept_after_shut = shut_in_turn ++ turn_entry 2 ∷ []

-- ---- out of order

-- the piece of the second of two links before that of the first, which was taken earlier
abbrev pub second_before_first : List Entry
second_before_first = two_take ++ Up B second_up ∷ Up B data_up ∷ []

-- the piece of the first link after that link was shut
abbrev pub up_of_shut_link : List Entry
up_of_shut_link = first_shut ++ Up B data_up ∷ []
