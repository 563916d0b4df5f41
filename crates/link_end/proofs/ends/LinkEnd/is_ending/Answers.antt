-- Proof of `ends::LinkEnd::is_ending`.
use Rattle.std.proofs.Common.{Option, is_some, ap, ◌∙◌}
use Rattle.ble_base.specs.declared.error_codes.ErrCode.{ErrCode}
use Rattle.link_end.specs.Times.{ending_by}
use Rattle.link_end.proofs.Keeping.{held_is}
use Rattle.link_end.proofs.ends.LinkEnd.is_ending.Goals as goal

pub returns : goal.returns
returns c = λ setup past knows.
    c.is_some.ensures ∙ ap (λ (code : Option ErrCode). is_some code) (c.ending.ensures ∙ ap ending_by (held_is setup c.args.self.now past knows))
