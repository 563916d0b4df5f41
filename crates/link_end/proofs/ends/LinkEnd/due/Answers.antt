-- Proof of `ends::LinkEnd::due`.
use Rattle.std.proofs.Common.{ap, ◌∙◌}
use Rattle.link_end.specs.Held.{Held}
use Rattle.link_end.specs.Times.{due_by}
use Rattle.link_end.proofs.Keeping.{held_is}
use Rattle.link_end.proofs.ends.LinkEnd.due.Goals as goal

pub returns : goal.returns
returns c = λ setup past knows. c.reason.ensures ∙ ap (λ (h : Held). due_by h c.args.slot.0) (held_is setup c.args.self.now past knows)
