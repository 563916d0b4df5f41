-- What an end does until it sends its next control PDU (Core 5.2, volume 6 part B, sections 4.5.9 and 5.3).
use Rattle.std.specs.Prelude.{Bool, true, false, not, ◌&&◌, List, [], ◌∷◌}
use Rattle.link_pairs.specs.link_model.End.{facts_after}
use Rattle.link_pairs.specs.link_model.Facts.{Facts}
use Rattle.link_pairs.specs.link_model.Sending.{takes_leave}
use Rattle.link_pairs.specs.link_model.Setup.{Setup}
use Rattle.link_pairs.specs.link_model.Step.{Step, PacketSent}

-- in this step a central sends a new control PDU: one is fixed, and the last PDU is acknowledged
abbrev pub sends_control : Facts → Step → Bool
sends_control facts (PacketSent slot) = takes_leave facts
sends_control facts other = false

-- it sends none in these steps
abbrev pub sends_no_control : Setup → Facts → List Step → Bool
sends_no_control setup facts [] = true
sends_no_control setup facts (step ∷ steps) =
    not (sends_control facts step) && sends_no_control setup (facts_after setup facts step) steps

-- what it holds after them
abbrev pub facts_from : Setup → Facts → List Step → Facts
facts_from setup facts [] = facts
facts_from setup facts (step ∷ steps) = facts_from setup (facts_after setup facts step) steps
