-- Proof of `ends::LinkEnd::lengths`.
use Rattle.std.proofs.Common.{ap, ◌∙◌}
use Rattle.procedures.specs.procedure_values.Limits.{rx_of, tx_of}
use Rattle.link_end.specs.Held.{Held}
use Rattle.link_end.proofs.Keeping.{held_is}
use Rattle.link_end.proofs.ends.LinkEnd.lengths.Goals as goal

pub returns : goal.returns
returns c = λ setup past knows.
    c.lengths.ensures
    ∙ ap (λ (h : Held). (rx_of h.control.control.table.lengths, tx_of h.control.control.table.lengths)) (c.self.view_is ∙ held_is setup c.args.self.now past knows)
