-- What a controller does in a phase, without the octets that it sends.
use Rattle.std.specs.Prelude.{ℕ, List}
use Rattle.controller_model.specs.Facts.{Use, Sends, Listens, Idle}
use Rattle.controller.specs.declared.intents.Action.{Action}
use Rattle.controller.specs.declared.intents.Action.TheVariants.{Transmit, Listen, Rest}

-- the use of the radio that it is, where these are the octets on each channel
abbrev pub use_with : Action → (ℕ → List ℕ) → Use
use_with (Transmit channel) octets_on = Sends channel (octets_on channel)
use_with (Listen channel) octets_on = Listens channel
use_with Rest octets_on = Idle
