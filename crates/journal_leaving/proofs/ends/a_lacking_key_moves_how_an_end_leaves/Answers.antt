-- Proof of `ends::a_lacking_key_moves_how_an_end_leaves`.
use Rattle.std.proofs.Common.{◌≡◌, ℕ, Option, Some, None, List, refl}
use Rattle.journal_controls.specs.link_model.End.{facts_after}
use Rattle.journal_controls.specs.link_model.Facts.{Facts, keyed_of}
use Rattle.journal_controls.specs.link_model.Setup.{Setup}
use Rattle.journal_controls.specs.link_model.Step.{KeyAnswered}
use Rattle.journal_leaving.specs.Lacking.{leaving_answering}
use Rattle.journal_leaving.proofs.ends.a_lacking_key_moves_how_an_end_leaves.Goals as goal

answered : (setup : Setup) (facts : Facts) (key : Option (List ℕ)) (slot : ℕ)
    → (facts_after setup facts (KeyAnswered key slot)).leaving ≡ leaving_answering (keyed_of facts) facts.leaving (KeyAnswered key slot)
answered setup facts None slot = refl
answered setup facts (Some ltk) slot = refl

pub returns : goal.returns
returns c = record { answered = answered; requests = λ setup facts answer. refl; at_once = λ setup facts slot. refl }
