-- Proof of `due::what_a_host_does_leaves_what_is_due`.
use Rattle.std.proofs.Common.{◌≡◌, ℕ, Option, Some, None, List, refl}
use Rattle.std.specs.Prelude.{◌≤◌}
use Rattle.journal_controls.specs.link_model.End.{facts_after, facts_of}
use Rattle.journal_controls.specs.link_model.Facts.{params_of}
use Rattle.journal_controls.specs.link_model.Hosts.{is_to_come}
use Rattle.journal_controls.specs.link_model.Setup.{Setup}
use Rattle.journal_controls.specs.link_model.Step.{Step, KeyAnswered}
use Rattle.journal_controls.specs.link_model.Times.{due_of}
use Rattle.journal_leaving.proofs.ClosedEnds.{not_leaving}
use Rattle.journal_leaving.proofs.DueReasons.{answer_due, asked_due, disconnect_due, key_due}
use Rattle.journal_leaving.proofs.due.what_a_host_does_leaves_what_is_due.Goals as goal

keys : (setup : Setup) (past : List Step) (key : Option (List ℕ)) (slot : ℕ) → let facts = facts_of setup past in 1 ≤ (params_of facts).timeout
    → due_of setup (facts_after setup facts (KeyAnswered key slot)) slot ≡ due_of setup facts slot
keys setup past None slot some = key_due setup (facts_of setup past) None slot (not_leaving setup past) some
keys setup past (Some ltk) slot some = key_due setup (facts_of setup past) (Some ltk) slot (λ ends. absurd cc) some

pub returns : goal.returns
returns c = record {
  given = λ setup facts start body slot. refl;
  reported = λ setup facts slot. refl;
  asked = λ setup facts ask slot. asked_due (is_to_come ask facts) setup facts ask slot;
  answered = λ setup facts answer slot. answer_due setup facts answer slot;
  keys = keys;
  disconnected = λ setup facts reason slot some. disconnect_due setup facts reason slot some;
}
