-- What an end of a link fixed last, by its past (when a PDU is fixed is our choice).
use Rattle.std.specs.Prelude.{List, [], ◌∷◌, ◌++◌}
use Rattle.journal_controls.specs.link_model.End.{facts_of}
use Rattle.journal_controls.specs.link_model.Facts.{Facts}
use Rattle.journal_controls.specs.link_model.Setup.{Setup}
use Rattle.journal_controls.specs.link_model.Step.{Step, PduFixed}

-- the steps before the last one in which it fixed a PDU
abbrev pub fixing_after : List Step → List Step → Step → List Step
fixing_after front before PduFixed = front
fixing_after front before step = before

abbrev pub fixing_from : List Step → List Step → List Step → List Step
fixing_from front before [] = before
fixing_from front before (step ∷ steps) = fixing_from (front ++ step ∷ []) (fixing_after front before step) steps

unfoldable pub past_fixing : List Step → List Step
past_fixing past = fixing_from [] [] past

-- what the end held as it fixed that PDU
abbrev pub facts_fixing : Setup → List Step → Facts
facts_fixing setup past = facts_of setup (past_fixing past)
