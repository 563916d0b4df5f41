-- Proof of `ends::a_packet_moves_how_an_end_leaves_by_its_lines`.
use Rattle.journal_controls.specs.link_model.End.{facts_of}
use Rattle.journal_leaving.proofs.EndLeaving.{packet_leaves}
use Rattle.journal_leaving.proofs.ends.a_packet_moves_how_an_end_leaves_by_its_lines.Goals as goal

pub returns : goal.returns
returns c = λ side number slot room setup past octets. packet_leaves side number slot room setup (facts_of setup past) octets
