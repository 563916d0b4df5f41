-- The steps of worked runs of exchanges.
use Rattle.std.specs.Prelude.{List, [], ◌∷◌}
use Rattle.ble_base.specs.declared.roles.Role.TheVariants.{Central, Peripheral}
use Rattle.exchange_pairs.specs.ExchangeRun.{ExchangeEvent}
use Rattle.exchange_pairs.specs.ExchangeRun
use Rattle.exchange_pairs.specs.VersionRun.{VersionEvent}
use Rattle.exchange_pairs.specs.VersionRun
use Rattle.exchange_pairs.specs.LengthRun.{LengthEvent}
use Rattle.exchange_pairs.specs.LengthRun

-- the questions of both ends cross
abbrev pub questions_cross : List ExchangeEvent
questions_cross =
    ExchangeRun.Begins Central ∷ ExchangeRun.Begins Peripheral ∷ ExchangeRun.Sends Central
    ∷ ExchangeRun.Sends Peripheral ∷ ExchangeRun.Takes Central ∷ ExchangeRun.Takes Peripheral ∷ []

-- and so do the answers
abbrev pub answers_cross : List ExchangeEvent
answers_cross =
    ExchangeRun.Sends Central ∷ ExchangeRun.Sends Peripheral ∷ ExchangeRun.Takes Central
    ∷ ExchangeRun.Takes Peripheral ∷ []

-- the central keeps a question
abbrev pub question_kept : List ExchangeEvent
question_kept = ExchangeRun.Begins Peripheral ∷ ExchangeRun.Sends Peripheral ∷ ExchangeRun.Keeps ∷ []

-- and answers it afterwards
abbrev pub kept_answered : List ExchangeEvent
kept_answered = ExchangeRun.TakesKept ∷ ExchangeRun.Sends Central ∷ ExchangeRun.Takes Peripheral ∷ []

-- a question reaches an end that is to end the link
abbrev pub question_too_late : List ExchangeEvent
question_too_late =
    ExchangeRun.Begins Central ∷ ExchangeRun.Sends Central ∷ ExchangeRun.Closes Peripheral
    ∷ ExchangeRun.Takes Peripheral ∷ []

-- the host of the central wants the version of the peripheral, which answers
abbrev pub version_asked : List VersionEvent
version_asked =
    VersionRun.Wants Central ∷ VersionRun.Begins Central ∷ VersionRun.Sends Central ∷ VersionRun.Takes Peripheral ∷ []

abbrev pub version_answered : List VersionEvent
version_answered = VersionRun.Sends Peripheral ∷ VersionRun.Takes Central ∷ []

-- both hosts want the other's version: the two LL_VERSION_IND cross, and neither is answered
abbrev pub versions_cross : List VersionEvent
versions_cross =
    VersionRun.Wants Central ∷ VersionRun.Wants Peripheral ∷ VersionRun.Begins Central ∷ VersionRun.Begins Peripheral
    ∷ VersionRun.Sends Central ∷ VersionRun.Sends Peripheral ∷ VersionRun.Takes Central
    ∷ VersionRun.Takes Peripheral ∷ []

-- the host of the peripheral limits what that transmits to 200 octets; the central asks, and the peripheral answers
abbrev pub lengths_asked : List LengthEvent
lengths_asked =
    LengthRun.Limits Peripheral 200 ∷ LengthRun.Begins Central ∷ LengthRun.Sends Central ∷ LengthRun.Takes Peripheral
    ∷ LengthRun.Sends Peripheral ∷ LengthRun.Takes Central ∷ []

-- then the peripheral sends as much as it may
abbrev pub data_sent : List LengthEvent
data_sent = LengthRun.SendsData Peripheral 200 ∷ []
