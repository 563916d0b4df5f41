-- Proof of `messages::put_unseen_line`.
use Rattle.std.proofs.Common.{[], ◌∷◌}
use Rattle.program.proofs.Growth.{put_then, put_no_more, put_handed_on}
use Rattle.program.proofs.messages.put_unseen_line.Goals as goal

pub returns-in_err-put_unseen : goal.returns-in_err-put_unseen
returns-in_err-put_unseen g c = put_handed_on c.from_residual.ensures.1 (put_no_more (10 ∷ []) c.in_err-put_unseen.ensures)

pub returns : goal.returns
returns g c = put_then c.in_ok-put_unseen.ensures c.put_part.ensures
