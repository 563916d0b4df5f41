-- Proof of `LinkEnd::has_entered`.
use Rattle.std.proofs.Common.{ap, nat_lt, ◌∙◌}
use Rattle.link_end.specs.Held.{Held}
use Rattle.link_end.proofs.Keeping.{held_is}
use Rattle.link_end.proofs.ends.LinkEnd.has_entered.Goals as goal

pub returns-clause-known : goal.returns-clause-known
returns-clause-known c = λ setup past knows.
    c.has_entered.ensures ∙ ap (λ (h : Held). nat_lt 0 h.control.control.track.entered) (c.self.view_is ∙ held_is setup c.args.self.now past knows)
