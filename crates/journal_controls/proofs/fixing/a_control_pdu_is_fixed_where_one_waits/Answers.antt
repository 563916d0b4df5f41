-- Proof of `fixing::a_control_pdu_is_fixed_where_one_waits`.
use Rattle.journal_ends.specs.link_model.End.{facts_of}
use Rattle.journal_controls.proofs.CentralFixed.{past_free}
use Rattle.journal_controls.proofs.PeripheralFixed.{answer_leaves_none, fixes_next, silence_ends}
use Rattle.journal_controls.proofs.fixing.a_control_pdu_is_fixed_where_one_waits.Goals as goal

pub returns : goal.returns
returns c = record {
  fixes = λ setup past free. fixes_next setup (facts_of setup past) free;
  central = λ setup past role. past_free setup role past;
  peripheral = λ setup facts slot later octets room role free. answer_leaves_none setup facts slot later octets room role free;
  silent = λ setup facts slot octets room role free none. silence_ends setup facts slot octets room role free none;
}
