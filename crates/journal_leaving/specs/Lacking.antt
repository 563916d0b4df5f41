-- What a key that a host lacks makes of how the end of a link is to leave it: after a pause the end ends the link (Core 5.2,
-- volume 6 part B, sections 5.1.3.1, 5.1.3.2 and 5.1.6).
use Rattle.std.specs.Prelude.{ℕ, ◌&&◌, fold, not, Bool, List, Option, Some, None}
use Rattle.journal_controls.specs.link_model.Hosts.{leaving_from_if}
use Rattle.journal_controls.specs.link_model.Step.{Step, KeyAnswered}
use Rattle.journal_controls.specs.link_model.declared.state.Leaving.{Leaving}
use Rattle.journal_controls.specs.link_model.enc_phase.Phases.{may_follow}
use Rattle.journal_controls.specs.link_model.enc_phase.declared.facts.Transition.TheVariants.{Refuse}
use Rattle.journal_controls.specs.link_model.keyed_control.Keyed.{Keyed}
use Rattle.journal_controls.specs.link_model.keyed_control.KeyedSteps.{KeyedStep, LacksKey}
use Rattle.journal_controls.specs.link_model.phased_end.Held.{held_of}
use Rattle.journal_controls.specs.link_model.phased_end.Moves.{awaits_key}

-- the host was asked for a key, and the start may not be refused: the end ends the link instead
abbrev pub ends_lacking : Keyed → Bool
ends_lacking k = awaits_key (held_of k) && not (may_follow Refuse k.phased.phase)

abbrev pub leaving_lacking : ℕ → Keyed → Leaving → Leaving
leaving_lacking slot k leaving = leaving_from_if (ends_lacking k) slot leaving

-- the host of an end that is like this answers the peer
abbrev pub leaving_answering : Keyed → Leaving → Step → Leaving
leaving_answering k leaving (KeyAnswered None slot) = leaving_lacking slot k leaving
leaving_answering k leaving step = leaving

-- in one line, where the link is open
abbrev pub leaving_answering_if : Option Keyed → Leaving → Step → Leaving
leaving_answering_if None leaving step = leaving
leaving_answering_if (Some k) leaving step = leaving_answering k leaving step

abbrev pub leaving_answered : Option Keyed → List Step → Leaving → Leaving
leaving_answered may answers leaving = fold (leaving_answering_if may) leaving answers

-- the answer that is given at once, where the mask of the host withholds the request
abbrev pub leaving_refusing : ℕ → Keyed → Option KeyedStep → Leaving → Leaving
leaving_refusing slot k (Some LacksKey) leaving = leaving_lacking slot k leaving
leaving_refusing slot k other leaving = leaving
