-- The proof of the law `linked_ends_are_sound`.
use Rattle.link_pairs.proofs.Sounding.{are_sound, is_state}
use Rattle.link_pairs.proofs.soundness.linked_ends_are_sound.Goals as goal

pub returns-clause-ends : goal.returns-clause-ends
returns-clause-ends g =
    λ central peripheral turns answers c p ends linked central_lasts peripheral_lasts.
    are_sound central peripheral ends turns answers c p linked central_lasts peripheral_lasts

pub returns-clause-state : goal.returns-clause-state
returns-clause-state g =
    λ central peripheral turns answers c p ends linked central_lasts peripheral_lasts.
    is_state central peripheral ends turns answers c p linked central_lasts peripheral_lasts
