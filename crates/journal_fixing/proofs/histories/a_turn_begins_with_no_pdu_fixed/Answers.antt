-- Proof of `histories::a_turn_begins_with_no_pdu_fixed`.
use Rattle.journal_fixing.proofs.FixingEvents.{feed_fixing, feed_going, turn_fixing, turn_going, turn_unfixed, turn_unheard}
use Rattle.journal_fixing.proofs.histories.a_turn_begins_with_no_pdu_fixed.Goals as goal

pub returns : goal.returns
returns c = record {
  fixing = λ words side number slot radios history. turn_fixing words side number history slot radios;
  going = λ words side number slot radios history. turn_going words side number history slot radios;
  unfixed = λ words side number slot radios history. turn_unfixed words side number history slot radios;
  unheard = λ words side number slot radios history. turn_unheard words side number history slot radios;
  host_fixing = λ words side number station octets history. feed_fixing words side number history station octets;
  host_going = λ words side number station octets history. feed_going words side number history station octets;
}
