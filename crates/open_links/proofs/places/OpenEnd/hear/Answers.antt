-- The answer of `OpenEnd::hear`.
use Rattle.std.proofs.Common.{◌≡◌, true, rules, subst, sym, ◌∙◌, length, nat_lt}
use Rattle.link_end.specs.link_model.Step.{PacketReceived}
use Rattle.open_links.specs.Knowing.{HeldLink, KnowsLink}
use Rattle.open_links.proofs.UnderHandles.{step_bank}
use Rattle.open_links.proofs.Unmoved.{entered_bank}
use Rattle.open_links.proofs.places.OpenEnd.hear.Goals as goal

-- the bank has the data of the link after the step, and of others what it had
pub returns-clause-bank : goal.returns-clause-bank
returns-clause-bank g c = λ link knows.
    let known = subst (λ (held : HeldLink). KnowsLink held link) (sym c.self.view_is) knows in
    let is : c.has_entered.result ≡ true = search rules in
    let step = PacketReceived c.args.slot.0 c.args.octets.now (nat_lt (length c.args.rx.now) g.row.R) in
    entered_bank step link _ _ (sym (c.has_entered.ensures.known link.setup link.past known.end) ∙ is)
    (step_bank step _ link _ _ known c.heard.ensures.others (c.heard.ensures.holds link.setup link.past known.end))
