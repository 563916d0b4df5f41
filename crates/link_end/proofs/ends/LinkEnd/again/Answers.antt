-- Proof of `ends::LinkEnd::again`.
use Rattle.std.proofs.Common.{◌&&◌, not, ap, ◌∙◌}
use Rattle.link_end.specs.Held.{Held}
use Rattle.link_end.proofs.Keeping.{held_is}
use Rattle.link_end.proofs.ends.LinkEnd.again.Goals as goal

pub returns : goal.returns
returns c = λ setup past knows.
    c.continues.ensures
    ∙ ap (λ (h : Held). h.event.heard && h.event.more && (not h.lengths.long && not h.lengths.changed))
    (c.self.view_is ∙ held_is setup c.args.self.now past knows)
