-- A past in which no encryption begins: the host asks for none, and the end takes no PDU that begins or pauses one
-- (Core 5.2, volume 6 part B, section 5.1.3).
use Rattle.std.specs.Prelude.{◌≡◌, Bool, true, List}
use Rattle.std.specs.List.{AllByRecursion}
use Rattle.phased_end.specs.keyed_control.KeyedSteps.{KeyedStep, Asks, Takes}
use Rattle.unencrypted_ends.specs.Unencrypted.{asks_no_encryption, begins_no_encryption}
use Rattle.link_model.specs.Setup.{Setup}
use Rattle.link_model.specs.Step.{Step}
use Rattle.link_model.specs.KeyedSteps.{keyed_steps_of}

abbrev pub begins_none : KeyedStep → Bool
begins_none (Asks ask) = asks_no_encryption ask
begins_none (Takes read slot response) = begins_no_encryption read
begins_none step = true

abbrev pub BeginsNone : KeyedStep → Type 0
BeginsNone step = begins_none step ≡ true

abbrev pub AllBeginNone : Setup → List Step → Type 0
AllBeginNone setup past = AllByRecursion BeginsNone (keyed_steps_of setup past)
