-- Proof of `ends::LinkEnd::may_ask`.
use Rattle.std.proofs.Common.{ap, ◌∙◌}
use Rattle.control_end.specs.Answers.{may_ask}
use Rattle.link_end.specs.Held.{Held}
use Rattle.link_end.proofs.Keeping.{held_is}
use Rattle.link_end.proofs.ends.LinkEnd.may_ask.Goals as goal

pub returns : goal.returns
returns c = λ setup past knows.
    c.may_ask.ensures ∙ ap (λ (h : Held). may_ask c.args.kind h.control.control) (c.self.view_is ∙ held_is setup c.args.self.now past knows)
