-- Proof of `laws::a_host_is_answered_whatever_the_turns`.
use Rattle.controller_model.proofs.Alone.{alone, beside}
use Rattle.controller_model.proofs.ByFrames.{by_frames}
use Rattle.controller_model.specs.Data.{offer_of}
use Rattle.controller_model.proofs.InOrder.{none_offered, offered_says}
use Rattle.controller_model.proofs.laws.a_host_is_answered_whatever_the_turns.Goals as goal

pub returns-clause-alone : goal.returns-clause-alone
returns-clause-alone c = alone

pub returns-clause-beside : goal.returns-clause-beside
returns-clause-beside c = beside

pub returns-clause-by_frames : goal.returns-clause-by_frames
returns-clause-by_frames c = by_frames

pub returns-clause-acl : goal.returns-clause-acl
returns-clause-acl c = λ setup facts handle count start octets. offered_says facts.view (offer_of setup facts handle count) handle

pub returns-clause-no_link : goal.returns-clause-no_link
returns-clause-no_link c = none_offered
