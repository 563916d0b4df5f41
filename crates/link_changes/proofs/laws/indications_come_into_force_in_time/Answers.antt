-- Proof of `laws::indications_come_into_force_in_time`.
use Rattle.link_changes.proofs.Entries.{applies}
use Rattle.link_changes.proofs.laws.indications_come_into_force_in_time.Goals as goal

pub returns : goal.returns
returns c = λ setup past slot before later handle number event ranges same. applies setup past slot ranges before later handle number event same
