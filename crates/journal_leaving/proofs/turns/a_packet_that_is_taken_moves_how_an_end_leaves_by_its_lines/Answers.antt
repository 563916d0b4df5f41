-- Proof of `turns::a_packet_that_is_taken_moves_how_an_end_leaves_by_its_lines`.
use Rattle.std.proofs.Common.{refl}
use Rattle.journal_controls.specs.link_model.End.{facts_of}
use Rattle.journal_leaving.proofs.TurnLeaving.{taking_leaves}
use Rattle.journal_leaving.proofs.turns.a_packet_that_is_taken_moves_how_an_end_leaves_by_its_lines.Goals as goal

pub returns : goal.returns
returns c = λ side number slot octets room answers setup past. let facts = facts_of setup past in taking_leaves side number facts.encryption.response slot setup octets room answers facts refl
