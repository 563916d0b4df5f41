-- The answer of `data::hand_up`.
use Rattle.std.proofs.Common.{sym, ◌∙◌, arith}
use Rattle.host_notes.proofs.Handed.{one_more}
use Rattle.host_notes.proofs.data.+hand_up.Goals as goal

pub returns-clause-notes : goal.returns-clause-notes
returns-clause-notes g t c = λ known received knows.
    one_more c.args.most _ received c.args.out.now.items _ _ (omega (arith, c.if-most-eq0.false))
    (sym (c.hand_up.ensures.first known received knows) ∙ c.in-Some.is) c.tell_piece.ensures.notes
    (c.hand_up-2.ensures.notes known _ (c.hand_up.ensures.knows known received knows))
