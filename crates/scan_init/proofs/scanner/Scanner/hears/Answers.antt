-- Answers of `scanner::Scanner::hears`.
use Rattle.std.proofs.Common.{◌≤◌, length, ap, ◌∙◌, subst}
use Rattle.scan_init.specs.Reports.{pdu_report}
use Rattle.scan_init.proofs.Recent.{recent_without}
use Rattle.scan_init.proofs.scanner.Scanner.hears.Goals as goal

pub returns-in_default-clause-recent : goal.returns-in_default-clause-recent
returns-in_default-clause-recent c =
    recent_without c.args.self.now.params c.args.list.now c.args.self.now.recent c.args.pdu.now c.pdu_report.result
    (c.pdu_report.ensures ∙ ap (λ held. pdu_report held.params c.args.list.now c.args.pdu.now) c.self.view_is) c.in_default.is
    (subst (λ held. length held.recent ≤ 16) c.self.view_is c.self.invariant.1)
