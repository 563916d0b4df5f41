-- Proof of `turns::a_packet_that_is_taken_moves_the_control_part_by_its_lines`.
use Rattle.std.proofs.Common.{refl}
use Rattle.journal_ends.specs.link_model.End.{facts_of}
use Rattle.journal_controls.proofs.TurnMoves.{taking_moves}
use Rattle.journal_controls.proofs.turns.a_packet_that_is_taken_moves_the_control_part_by_its_lines.Goals as goal

pub returns : goal.returns
returns c = λ side number slot octets pdu room answers setup past before after last peripheral good told.
    let facts = facts_of setup past in
    taking_moves side number facts.encryption.response slot setup octets pdu room facts good answers before after last refl peripheral told
