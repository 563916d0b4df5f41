-- A verdict does not follow from what the radio did.
use Rattle.std.proofs.Common.{refl, sym, ap}
use Rattle.wrong_journals.proofs.Differing.{truths_differ}
use Rattle.wrong_journals.proofs.Turning.{is_changed, is_missed}
use Rattle.wrong_journals.proofs.turns.wrong_verdicts_are_refused.Goals as goal

pub returns-clause-lost_good : goal.returns-clause-lost_good
returns-clause-lost_good c octets judged = truths_differ (sym (ap is_missed (judged.lost refl)))

pub returns-clause-lost_broken : goal.returns-clause-lost_broken
returns-clause-lost_broken c octets judged = truths_differ (sym (ap is_missed (judged.lost refl)))

pub returns-clause-changed : goal.returns-clause-changed
returns-clause-changed c octets judged = is_changed judged.done octets judged.fate_is (judged.unchanged refl)

pub returns-clause-forged : goal.returns-clause-forged
returns-clause-forged c octets judged = judged.forged refl refl
