-- What happens to an end in a turn, in order (Core 5.2, volume 6 part B, section 4.5.1).
use Rattle.std.specs.Prelude.{ℕ, Bool, true, false, List, [], ◌∷◌}
use Rattle.journal_ends.specs.link_model.Step.{Step, EventEntered, PacketReceived, PacketSent, PduFixed}

-- a step that happens, or does not, and then these
abbrev pub first_if : Bool → Step → List Step → List Step
first_if true step steps = step ∷ steps
first_if false step steps = steps

-- as a turn begins: an event is entered, the next PDU is fixed, and a central sends
abbrev pub steps_begun : Bool → Bool → Bool → ℕ → List Step
steps_begun enters fixes sends slot =
    first_if enters (EventEntered slot) (first_if fixes PduFixed (first_if sends (PacketSent slot) []))

-- as a packet is heard: a peripheral answers
abbrev pub steps_taken : ℕ → List ℕ → Bool → Bool → List Step
steps_taken slot octets room answers =
    PacketReceived slot octets room ∷ first_if answers (PacketSent slot) []
