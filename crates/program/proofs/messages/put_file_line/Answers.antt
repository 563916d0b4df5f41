-- Proof of `messages::put_file_line`.
use Rattle.std.proofs.Common.{[], ◌∷◌}
use Rattle.program.proofs.Growth.{put_then, put_no_more, put_handed_on}
use Rattle.program.proofs.messages.put_file_line.Goals as goal

pub returns-in_err-put_line_text : goal.returns-in_err-put_line_text
returns-in_err-put_line_text g c =
    put_handed_on c.from_residual-in_err-put_line_text.ensures.1
    (put_no_more (10 ∷ []) (put_then c.in_ok-put_part.ensures c.in_err-put_line_text.ensures))

pub returns : goal.returns
returns g c = put_then (put_then c.in_ok-put_part.ensures c.in_ok-put_line_text.ensures) c.put_part-2.ensures
