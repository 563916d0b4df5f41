-- The proof of `sealing_follows_what_was_taken`.
use Rattle.std.proofs.Common.{refl, false}
use Rattle.enc_phase.specs.declared.facts.PhaseFacts.TheVariants.{Clear}
use Rattle.enc_phase.specs.Sealing.{clear_end}
use Rattle.enc_phase.proofs.Following.{receives, sends}
use Rattle.enc_phase.proofs.laws.sealing_follows_what_was_taken.Goals as goal

pub returns-clause-sending : goal.returns-clause-sending
returns-clause-sending c = λ role acts can. sends role acts (clear_end role Clear) false refl can

pub returns-clause-receiving : goal.returns-clause-receiving
returns-clause-receiving c = λ role acts can. receives role acts (clear_end role Clear) false refl can
