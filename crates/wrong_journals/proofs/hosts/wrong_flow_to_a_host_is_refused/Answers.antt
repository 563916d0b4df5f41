-- A host with one buffer receives more than it can take, or less.
use Rattle.std.proofs.Common.{◌<◌, ◌≤◌, true, Some, [], ◌∷◌, ◌++◌, inr, refl, arith}
use Rattle.ble_base.specs.declared.roles.Side.TheVariants.{B}
use Rattle.h4_frames.specs.Frames.{frames}
use Rattle.hci_cmd.specs.Command.{command_of, layout_of, layouts}
use Rattle.journal.specs.declared.entries.Entry.TheVariants.{Fed}
use Rattle.wire_fields.specs.Field.{little_endian}
use Rattle.journal_pdus.specs.Settled.{was_full}
use Rattle.journal_pdus.specs.journal_data.Lines.{lines_of}
use Rattle.journal_pdus.specs.journal_hosts.CreditRows.{data_up}
use Rattle.journal_pdus.specs.journal_hosts.FlowRows.{long_up, one_taken, one_waits, other_returned}
use Rattle.journal_pdus.specs.journal_hosts.HostFlow.{held_on}
use Rattle.wrong_journals.specs.Flowing.{full_again, room_again, shut_in_turn}
use Rattle.wrong_journals.proofs.Differing.{not_handed}
use Rattle.wrong_journals.proofs.hosts.wrong_flow_to_a_host_is_refused.Goals as goal

pub returns-clause-beyond : goal.returns-clause-beyond
unfolding was_full held_on lines_of frames command_of layout_of layouts little_endian
returns-clause-beyond c lawful = let few : 1 < 1 = lawful one_waits [] B data_up refl refl refl in omega (arith, few)

pub returns-clause-returned_twice : goal.returns-clause-returned_twice
unfolding was_full held_on lines_of frames command_of layout_of layouts little_endian
returns-clause-returned_twice c lawful = let few : 1 < 1 = lawful full_again [] B data_up refl refl refl in omega (arith, few)

pub returns-clause-returned_elsewhere : goal.returns-clause-returned_elsewhere
unfolding was_full held_on lines_of frames command_of layout_of layouts little_endian
returns-clause-returned_elsewhere c lawful =
    let few : 1 < 1 = lawful (one_waits ++ Fed B other_returned ∷ []) [] B data_up refl refl refl in omega (arith, few)

pub returns-clause-too_long : goal.returns-clause-too_long
unfolding was_full held_on lines_of frames command_of layout_of layouts little_endian
returns-clause-too_long c lawful = let few : 28 ≤ 27 = lawful one_taken [] B long_up refl refl in omega (arith, few)

pub returns-clause-kept_back : goal.returns-clause-kept_back
unfolding was_full held_on lines_of frames command_of layout_of layouts little_endian
returns-clause-kept_back c lawful =
    not_handed _ _ _ (lawful one_taken [] 1 true (Some true) refl B [] [] (record { link = 1; handle = 0 }) refl).received refl refl

pub returns-clause-after_return : goal.returns-clause-after_return
unfolding was_full held_on lines_of frames command_of layout_of layouts little_endian
returns-clause-after_return c lawful =
    not_handed _ _ _ (lawful room_again [] 1 true (Some true) refl B [] [] (record { link = 1; handle = 0 }) refl).received refl refl

pub returns-clause-after_shut : goal.returns-clause-after_shut
unfolding was_full held_on lines_of frames command_of layout_of layouts little_endian
returns-clause-after_shut c lawful =
    not_handed _ _ _ (lawful shut_in_turn [] 2 true (Some true) refl B [] [] (record { link = 2; handle = 1 }) refl).received refl refl

pub returns-clause-full : goal.returns-clause-full
unfolding was_full held_on lines_of frames command_of layout_of layouts little_endian
returns-clause-full c = (inr refl, inr refl)
