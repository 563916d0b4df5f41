-- Proof of `messages::put_unseen`.
use Rattle.std.proofs.Common.{◌++◌}
use Rattle.std.specs.Prelude.{codes, decimal}
use Rattle.journal.specs.Words.{hexadecimal}
use Rattle.program.proofs.Growth.{put_then, put_no_more, put_handed_on}
use Rattle.program.proofs.messages.put_unseen.Goals as goal

pub returns-in_err-put_number : goal.returns-in_err-put_number
returns-in_err-put_number g c =
    put_handed_on c.from_residual.ensures.1
    (put_no_more (codes " heard " ++ hexadecimal c.args.heard.now)
    (put_no_more (codes " sent " ++ hexadecimal c.args.sent.now)
    (put_no_more (codes " packet " ++ decimal c.args.packet) c.in_err-put_number.ensures)))

pub returns-in_err-put_number-2 : goal.returns-in_err-put_number-2
returns-in_err-put_number-2 g c =
    put_handed_on c.from_residual-in_err-put_number-2.ensures.1
    (put_no_more (codes " heard " ++ hexadecimal c.args.heard.now)
    (put_no_more (codes " sent " ++ hexadecimal c.args.sent.now)
    (put_then c.in_ok-put_number.ensures (rw c.from.ensures at c.in_err-put_number-2.ensures))))

pub returns-in_err-put_octets : goal.returns-in_err-put_octets
returns-in_err-put_octets g c =
    put_handed_on c.from_residual-in_err-put_octets.ensures.1
    (put_no_more (codes " heard " ++ hexadecimal c.args.heard.now)
    (put_then (put_then c.in_ok-put_number.ensures (rw c.from.ensures at c.in_ok-put_number-2.ensures)) c.in_err-put_octets.ensures))

pub returns : goal.returns
returns g c =
    put_then (put_then (put_then c.in_ok-put_number.ensures (rw c.from.ensures at c.in_ok-put_number-2.ensures)) c.in_ok-put_octets.ensures)
    c.put_octets-2.ensures
