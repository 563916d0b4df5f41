-- What the host of a side answers to a request of the peer on a link, for parameters or for a key, by a command that is
-- accepted (Core 5.2, volume 4 part E, sections 7.8.25, 7.8.26, 7.8.31 and 7.8.32). The past of an end has the same step
-- where a request is withheld from the host and refused at once, so an answer is not among what is seen of an end.
use Rattle.std.specs.Prelude.{ℕ, List, [], ◌∷◌, ◌++◌, Option, Some, None}
use Rattle.std.specs.List.{flat_map}
use Rattle.ble_base.specs.declared.roles.Side.{Side}
use Rattle.host_answers.specs.Answered.{accepted_in}
use Rattle.journal.specs.declared.entries.Entry.{Entry}
use Rattle.journal_acks.specs.link_model.Step.{Step, KeyAnswered, RequestAnswered}
use Rattle.journal_ends.specs.Asked.{Words, step_asked}

-- the parameters that the host lets pass, or the code with which it refuses; the key that it has, or that it has none
abbrev pub answers_in_step : Step → List Step
answers_in_step (RequestAnswered answer) = RequestAnswered answer ∷ []
answers_in_step (KeyAnswered key slot) = KeyAnswered key slot ∷ []
answers_in_step step = []

abbrev pub answers_if : Option Step → List Step
answers_if None = []
answers_if (Some step) = answers_in_step step

-- the line answers a command of the host of this side, which answers the peer by it on the link with this number
abbrev pub answers_in_line : Words → Side → ℕ → List Entry → Entry → List Step
answers_in_line words side number front line =
    flat_map (λ command. answers_if (step_asked words side number front command)) (accepted_in side front line)

-- those of lines that come after these
abbrev pub answers_from : Words → Side → ℕ → List Entry → List Entry → List Step
answers_from words side number front [] = []
answers_from words side number front (line ∷ lines) =
    answers_in_line words side number front line ++ answers_from words side number (front ++ line ∷ []) lines
