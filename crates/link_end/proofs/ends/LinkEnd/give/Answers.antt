-- Proof of `ends::LinkEnd::give`.
use Rattle.std.proofs.Common.{ap, ◌∙◌}
use Rattle.link_end.specs.Held.{Held}
use Rattle.link_end.specs.Pdus.{pdu_in}
use Rattle.link_end.proofs.Giving.{draws, given}
use Rattle.link_end.proofs.ends.LinkEnd.give.Goals as goal

pub returns-clause-held : goal.returns-clause-held
returns-clause-held c =
    given (pdu_in c.args.got.now) c.args.slot _ _ _ _ _ _ _ _ _ _ _ _ c.self.view_is c.read-read.ensures.value
    c.lengths-before.ensures c.would_see-sees.ensures c.kept-kept.ensures c.take-given.ensures.step
    c.take-given.ensures.taken c.kept-last.ensures c.kept_answered-answered.ensures c.know_peer.ensures c.know.ensures

pub returns-clause-draws : goal.returns-clause-draws
returns-clause-draws c =
    draws (pdu_in c.args.got.now) c.args.slot _ _ _ _ _ _ _ _ c.self.view_is c.read-read.ensures.value c.would_see-sees.ensures
    c.answers-answers.ensures c.take-given.ensures.step
    (ap (λ (h : Held). h.control) c.know.ensures ∙ ap (λ (h : Held). h.control) c.know_peer.ensures) c.draws.ensures
