-- Proof of `messages::put_parts`.
use Rattle.journal_tool.proofs.Growth.{written_handed_on, written_no_more, written_then}
use Rattle.journal_tool.proofs.messages.put_parts.Goals as goal

pub returns-in_err-put_part : goal.returns-in_err-put_part
returns-in_err-put_part g c =
    written_handed_on c.from_residual.ensures.1
    (written_no_more c.args.back.now (written_no_more c.args.middle.now c.in_err-put_part.ensures))

pub returns-in_err-put_part-2 : goal.returns-in_err-put_part-2
returns-in_err-put_part-2 g c =
    written_handed_on c.from_residual-in_err-put_part-2.ensures.1
    (written_no_more c.args.back.now (written_then c.in_ok-put_part.ensures c.in_err-put_part-2.ensures))

pub returns : goal.returns
returns g c = written_then (written_then c.in_ok-put_part.ensures c.in_ok-put_part-2.ensures) c.put_part-3.ensures
