-- Proof of `messages::put_digits`.
use Rattle.std.proofs.Common.{◌≡◌, ◌++◌, subst}
use Rattle.hex.specs.Hex.{encode_lower}
use Rattle.program.specs.Puts.{IsPut}
use Rattle.program.proofs.Digits.{encode-parts}
use Rattle.program.proofs.Growth.{put_then, put_no_more, put_handed_on}
use Rattle.program.proofs.messages.put_digits.Goals as goal

pub returns-in_err-put_block : goal.returns-in_err-put_block
returns-in_err-put_block g c =
    let parts : encode_lower c.split_at.result.0.now ++ encode_lower c.split_at.result.1.now ≡ encode_lower c.loop-rest.rest.now =
    rw (c.split_at.ensures.front, c.split_at.ensures.back) (encode-parts 32 c.loop-rest.rest.now) in
    c.loop-rest.invariant _ _
    (subst (IsPut g.E.Sink.written g.E.Sink.faults g.E.Sink.wants_memory _ _ _) parts
    (put_handed_on c.from_residual.ensures.1 (put_no_more (encode_lower c.split_at.result.1.now) c.in_err-put_block.ensures)))

pub loop-rest-preserved : goal.loop-rest-preserved
loop-rest-preserved g c =
    let parts : encode_lower c.split_at.result.0.now ++ encode_lower c.split_at.result.1.now ≡ encode_lower c.loop-rest.rest.now =
    rw (c.split_at.ensures.front, c.split_at.ensures.back) (encode-parts 32 c.loop-rest.rest.now) in
    λ new result more. c.loop-rest.invariant new result
    (subst (IsPut g.E.Sink.written g.E.Sink.faults g.E.Sink.wants_memory _ new result) parts (put_then c.in_ok-put_block.ensures more))
