-- Proof of `calls::a_link_receives_answers_and_sends`.
use Rattle.link_calls.proofs.LinkCalls.{phase_under}
use Rattle.link_calls.proofs.calls.a_link_receives_answers_and_sends.Goals as goal

pub returns : goal.returns
returns c = phase_under
