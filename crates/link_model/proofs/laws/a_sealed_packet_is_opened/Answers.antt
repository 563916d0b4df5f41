-- Proof of `laws::a_sealed_packet_is_opened`.
use Rattle.link_model.proofs.Opening.{fits_there, none_again, none_for_empty, opened_there, takes_counter}
use Rattle.link_model.proofs.laws.a_sealed_packet_is_opened.Goals as goal

pub returns-clause-opened : goal.returns-clause-opened
returns-clause-opened c = opened_there c.sent_is_opened.ensures.right c.sent_is_opened.ensures.body

pub returns-clause-fits : goal.returns-clause-fits
returns-clause-fits c = fits_there

pub returns-clause-sent : goal.returns-clause-sent
returns-clause-sent c = takes_counter

pub returns-clause-again : goal.returns-clause-again
returns-clause-again c = none_again

pub returns-clause-empty : goal.returns-clause-empty
returns-clause-empty c = none_for_empty
