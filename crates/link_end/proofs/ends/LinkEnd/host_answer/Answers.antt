-- Proof of `ends::LinkEnd::host_answer`.
use Rattle.link_end.proofs.Hosted.{answered_holds, answered_known, answered_tied}
use Rattle.link_end.proofs.ends.LinkEnd.host_answer.Goals as goal

pub returns-clause-knows : goal.returns-clause-knows
returns-clause-knows c = λ setup past knows.
    answered_known setup c.args.self.now past knows c.args.answer _ c.answer_request.ensures.held

pub returns-clause-holds : goal.returns-clause-holds
returns-clause-holds c = λ setup past bank holds. answered_holds setup past bank holds c.args.answer

pub returns-clause-tied : goal.returns-clause-tied
returns-clause-tied c = answered_tied c.args.answer c.args.self.now _ c.answer_request.ensures.held
