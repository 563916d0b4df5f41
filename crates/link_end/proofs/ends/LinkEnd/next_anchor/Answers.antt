-- Proof of `ends::LinkEnd::next_anchor`.
use Rattle.std.proofs.Common.{ap, ◌∙◌}
use Rattle.instants.specs.Track.{next_anchor_of}
use Rattle.link_end.specs.Held.{Held}
use Rattle.link_end.proofs.Keeping.{held_is}
use Rattle.link_end.proofs.ends.LinkEnd.next_anchor.Goals as goal

pub returns-clause-known : goal.returns-clause-known
returns-clause-known c = λ setup past knows.
    c.next_anchor.ensures ∙ ap (λ (h : Held). next_anchor_of h.control.control.track) (c.self.view_is ∙ held_is setup c.args.self.now past knows)
