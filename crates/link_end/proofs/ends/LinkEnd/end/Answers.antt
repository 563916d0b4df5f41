-- Proof of `ends::LinkEnd::end`.
use Rattle.link_end.proofs.Hosted.{disconnected_holds, disconnected_known, disconnected_tied}
use Rattle.link_end.proofs.ends.LinkEnd.end.Goals as goal

pub returns-clause-knows : goal.returns-clause-knows
returns-clause-knows c = λ setup past knows.
    disconnected_known setup c.args.self.now past knows c.args.reason c.args.slot.0 _ c.disconnect.ensures.held

pub returns-clause-holds : goal.returns-clause-holds
returns-clause-holds c = λ setup past bank holds. disconnected_holds setup past bank holds c.args.reason c.args.slot.0

pub returns-clause-tied : goal.returns-clause-tied
returns-clause-tied c = disconnected_tied c.args.reason c.args.slot.0 c.args.self.now _ c.disconnect.ensures.held
