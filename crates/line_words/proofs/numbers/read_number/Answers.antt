-- Proof of `numbers::read_number`.
use Rattle.std.proofs.Common.{sym, ◌∙◌, ◌*◌, ◌+◌, ◌-◌, drop, get_or, arith}
use Rattle.line_words.proofs.Decimals.{next_digit, past_most}
use Rattle.line_words.proofs.numbers.read_number.Goals as goal

pub returns-then-number-from-clause-value : goal.returns-then-number-from-clause-value
returns-then-number-from-clause-value c =
    let n = c.loop-digit.number in
    let i = c.loop-digit.digit-index in
    let word = c.args.word.now in
    sym (past_most c.args.least c.args.most (n * 10 + (get_or word i 0 - 48)) (drop (i + 1) word) (omega arith))
    ∙ sym (next_digit c.args.least c.args.most n word i (omega arith) (sym c.if-not-is_ascii_digit.ensures.value))
    ∙ c.loop-digit.invariant.rest
