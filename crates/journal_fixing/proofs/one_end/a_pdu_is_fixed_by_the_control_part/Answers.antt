-- Proof of `one_end::a_pdu_is_fixed_by_the_control_part`.
use Rattle.journal_controls.specs.link_model.End.{facts_of}
use Rattle.journal_fixing.proofs.FixedPdus.{fixed_by, fixing_stays}
use Rattle.journal_fixing.proofs.one_end.a_pdu_is_fixed_by_the_control_part.Goals as goal

pub returns : goal.returns
returns c = record { stays = fixing_stays; fixed = λ setup past. fixed_by setup (facts_of setup past) }
