-- Proof of `ends::LinkEnd::span`.
use Rattle.std.proofs.Common.{ap, ◌∙◌, if◌then◌else◌}
use Rattle.link_end.specs.Held.{Held}
use Rattle.link_end.proofs.Keeping.{held_is}
use Rattle.link_end.proofs.ends.LinkEnd.span.Goals as goal

pub returns : goal.returns
returns c = λ setup past knows.
    c.span.ensures ∙ ap (λ (h : Held). if h.lengths.long then 4 else 2) (c.self.view_is ∙ held_is setup c.args.self.now past knows)
