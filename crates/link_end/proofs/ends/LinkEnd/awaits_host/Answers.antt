-- Proof of `ends::LinkEnd::awaits_host`.
use Rattle.std.proofs.Common.{ap, ◌∙◌}
use Rattle.control_end.specs.Answers.{awaits_host}
use Rattle.link_end.specs.Held.{Held}
use Rattle.link_end.proofs.Keeping.{held_is}
use Rattle.link_end.proofs.ends.LinkEnd.awaits_host.Goals as goal

pub returns : goal.returns
returns c = λ setup past knows.
    c.awaits_host.ensures ∙ ap (λ (h : Held). awaits_host h.control.control) (c.self.view_is ∙ held_is setup c.args.self.now past knows)
