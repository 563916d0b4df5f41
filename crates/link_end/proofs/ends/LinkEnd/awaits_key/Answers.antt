-- Proof of `ends::LinkEnd::awaits_key`.
use Rattle.std.proofs.Common.{ap, ◌∙◌}
use Rattle.link_model.specs.phased_end.Moves.{awaits_key}
use Rattle.link_end.specs.Held.{Held}
use Rattle.link_end.proofs.Hosted.{key_awaited}
use Rattle.link_end.proofs.ends.LinkEnd.awaits_key.Goals as goal

pub returns : goal.returns
returns c = λ setup past knows.
    key_awaited setup c.args.self.now past knows _ (c.awaits_key.ensures ∙ ap (λ (h : Held). awaits_key h.control) c.self.view_is)
