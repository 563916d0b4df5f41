-- Proof of `ends::LinkEnd::params`.
use Rattle.std.proofs.Common.{ap, ◌∙◌}
use Rattle.link_end.specs.Held.{Held}
use Rattle.link_end.proofs.Keeping.{held_is}
use Rattle.link_end.proofs.ends.LinkEnd.params.Goals as goal

pub returns : goal.returns
returns c = λ setup past knows.
    c.params.ensures.params ∙ ap (λ (h : Held). h.control.control.track.params) (c.self.view_is ∙ held_is setup c.args.self.now past knows)
