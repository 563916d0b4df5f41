-- Proof of `ends::LinkEnd::end_turn`.
use Rattle.std.proofs.Common.{ap, ◌∙◌}
use Rattle.link_end.specs.Times.{ending_by}
use Rattle.link_end.proofs.Keeping.{held_is}
use Rattle.link_end.proofs.ends.LinkEnd.end_turn.Goals as goal

pub returns-clause-reason : goal.returns-clause-reason
returns-clause-reason c = λ setup past knows. c.ending.ensures ∙ ap ending_by (held_is setup c.args.self.now past knows)
