-- Proof of `messages::put_parts`.
use Rattle.program.proofs.Growth.{put_then, put_no_more, put_handed_on}
use Rattle.program.proofs.messages.put_parts.Goals as goal

pub returns-in_err-put_part-2 : goal.returns-in_err-put_part-2
returns-in_err-put_part-2 g c =
    put_handed_on c.from_residual-in_err-put_part-2.ensures.1
    (put_no_more c.args.third.now (put_then c.in_ok-put_part.ensures c.in_err-put_part-2.ensures))

pub returns : goal.returns
returns g c = put_then (put_then c.in_ok-put_part.ensures c.in_ok-put_part-2.ensures) c.put_part-3.ensures
