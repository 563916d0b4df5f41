-- Proof of `laws::a_forged_packet_ends_the_link`.
use Rattle.link_model.proofs.Forging.{forged_effect, forged_ending, forged_facts, forged_notes, forged_reply}
use Rattle.link_model.proofs.laws.a_forged_packet_ends_the_link.Goals as goal

pub returns-clause-facts : goal.returns-clause-facts
returns-clause-facts c = forged_facts

pub returns-clause-notes : goal.returns-clause-notes
returns-clause-notes c = forged_notes

pub returns-clause-reply : goal.returns-clause-reply
returns-clause-reply c = forged_reply

pub returns-clause-effect : goal.returns-clause-effect
returns-clause-effect c = forged_effect

pub returns-clause-ending : goal.returns-clause-ending
returns-clause-ending c = forged_ending
