-- Proof of `laws::frames_are_in_order`.
use Rattle.h4_frames.proofs.Growing.{frames-placed}
use Rattle.h4_frames.proofs.laws.frames_are_in_order.Goals as goal

pub returns-clause-within : goal.returns-clause-within
returns-clause-within c = λ octets. (frames-placed octets).within

pub returns-clause-in_order : goal.returns-clause-in_order
returns-clause-in_order c = λ octets. (frames-placed octets).in_order
