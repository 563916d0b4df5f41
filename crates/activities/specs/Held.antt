-- What is held of the radio, and of what is done on it without a link.
use Rattle.std.specs.Prelude.{Option}
use Rattle.scan_init.specs.Initiating.{InitiatorFacts}
use Rattle.controller_model.specs.Facts.{Radio, Advertising, Scanning}

pub record HeldActivities : Type 0 where
  pub radio : Radio
  pub advertising : Advertising
  pub scanning : Scanning
  pub initiator : Option InitiatorFacts
