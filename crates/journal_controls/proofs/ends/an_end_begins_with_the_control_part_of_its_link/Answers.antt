-- Proof of `ends::an_end_begins_with_the_control_part_of_its_link`.
use Rattle.std.proofs.Common.{◌+◌, Some}
use Rattle.journal_ends.specs.link_model.Setup.{first_params}
use Rattle.journal_ends.specs.link_model.keyed_control.Keyed.{first_keyed}
use Rattle.journal_controls.proofs.ends.an_end_begins_with_the_control_part_of_its_link.Goals as goal

pub returns : goal.returns
returns c = λ side link setup fields slot role. λ i. Some (first_keyed (role i) setup.link.max_rx (first_params (fields i)) (slot i + 2 + (fields i).win_offset))
