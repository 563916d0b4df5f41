-- Proof of `LinkEnd::goes_on`.
use Rattle.std.proofs.Common.{◌≡◌, rules, ap, is_none, ◌∙◌}
use Rattle.link_end.specs.Held.{Held}
use Rattle.link_end.proofs.Keeping.{held_is}
use Rattle.link_end.proofs.ends.LinkEnd.goes_on.Goals as goal

pub returns-clause-known : goal.returns-clause-known
returns-clause-known c = λ setup past knows.
    let value : c.is_none.result ≡ is_none c.self.inside.control.control.ends = search rules in
    value ∙ ap (λ (h : Held). is_none h.control.control.ends) (c.self.view_is ∙ held_is setup c.args.self.now past knows)
