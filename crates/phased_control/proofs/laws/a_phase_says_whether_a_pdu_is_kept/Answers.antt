-- The proof of the law `a_phase_says_whether_a_pdu_is_kept`.
use Rattle.phased_control.proofs.Kept.{asked_now, first_now, never_asked, none_at_peripheral, none_quietly, said_now}
use Rattle.phased_control.proofs.laws.a_phase_says_whether_a_pdu_is_kept.Goals as goal

pub returns-clause-said : goal.returns-clause-said
returns-clause-said c = said_now

pub returns-clause-quiet : goal.returns-clause-quiet
returns-clause-quiet c = none_quietly

pub returns-clause-peripheral : goal.returns-clause-peripheral
returns-clause-peripheral c = none_at_peripheral

pub returns-clause-first : goal.returns-clause-first
returns-clause-first c = first_now

pub returns-clause-key : goal.returns-clause-key
returns-clause-key c = asked_now

pub returns-clause-central : goal.returns-clause-central
returns-clause-central c = never_asked
