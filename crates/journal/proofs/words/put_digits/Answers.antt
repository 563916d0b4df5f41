-- Proof of `words::put_digits`.
use Rattle.std.proofs.Common.{◌∙◌}
use Rattle.journal.proofs.Digits.{encode-parts}
use Rattle.journal.proofs.words.put_digits.Goals as goal

pub loop-rest-preserved : goal.loop-rest-preserved
loop-rest-preserved c =
    rw (c.in_ok-put_block.ensures, c.split_at.ensures.front, c.split_at.ensures.back)
    (encode-parts 32 c.loop-rest.text.items c.loop-rest.rest.now ∙ c.loop-rest.invariant)
