-- The kinds of control procedures, and the kind of each stage (Core 5.2, volume 6 part B, section 5.1).
use Rattle.std.specs.Prelude.{Bool, true, false, Option, Some, None, option_map}
use Rattle.ble_base.specs.declared.procedure_kinds.Kind.{Kind}
use Rattle.ble_base.specs.declared.procedure_kinds.Kind.TheVariants.{Update, Request, Map, Features, Version, Length, Encrypt}
use Rattle.ble_base.specs.declared.roles.Role.{Role}
use Rattle.ble_base.specs.declared.roles.Role.TheVariants.{Central, Peripheral}
use Rattle.procedure_stages.specs.declared.stages.Progress.{Progress}
use Rattle.procedure_stages.specs.declared.stages.Progress.TheVariants.{Central as central, Peripheral as peripheral}
use Rattle.procedure_stages.specs.declared.stages.Exchange.{Exchange}
use Rattle.procedure_stages.specs.declared.stages.Exchange.TheVariants.{FeaturesUnsent, FeaturesSent, VersionUnsent, VersionSent, LengthUnsent, LengthSent}
use Rattle.procedure_stages.specs.declared.stages.OwnCentral.{OwnCentral}
use Rattle.procedure_stages.specs.declared.stages.OwnCentral.TheVariants.{Exclusive as exclusive, Exchange as exchange, EncryptUnsent, EncryptSent}
use Rattle.procedure_stages.specs.declared.stages.OwnPeripheral.{OwnPeripheral}
use Rattle.procedure_stages.specs.declared.stages.OwnPeripheral.TheVariants.{Exclusive as exclusive_p, Exchange as exchange_p}
use Rattle.exclusive_stages.specs.declared.stages.CentralStage.TheVariants.{Idle}
use Rattle.exclusive_stages.specs.declared.stages.PeripheralStage.TheVariants.{Idle as idle}
use Rattle.exclusive_stages.specs.Kinds.{central_kind, kind_of, peripheral_kind}
use Rattle.procedure_values.specs.Asks.{is_same_kind}

-- which role begins a kind (sections 5.1.1 to 5.1.10); the central sends its own indication and makes no request
-- (our choice)
abbrev pub begins : Role → Kind → Bool
begins Central Request = false
begins Peripheral Update = false
begins Peripheral Map = false
begins Peripheral Encrypt = false
begins role kind = true

abbrev pub role_of : Progress → Role
role_of (central c) = Central
role_of (peripheral p) = Peripheral

-- ---- the procedure that an end began

abbrev pub kind_of_exchange : Exchange → Kind
kind_of_exchange FeaturesUnsent = Features
kind_of_exchange FeaturesSent = Features
kind_of_exchange VersionUnsent = Version
kind_of_exchange VersionSent = Version
kind_of_exchange LengthUnsent = Length
kind_of_exchange LengthSent = Length

abbrev pub kind_at_central : OwnCentral → Option Kind
kind_at_central (exclusive stage) = option_map kind_of (central_kind stage)
kind_at_central (exchange stage) = Some (kind_of_exchange stage)
kind_at_central EncryptUnsent = Some Encrypt
kind_at_central EncryptSent = Some Encrypt

abbrev pub kind_at_peripheral : OwnPeripheral → Option Kind
kind_at_peripheral (exclusive_p stage) = option_map kind_of (peripheral_kind stage)
kind_at_peripheral (exchange_p stage) = Some (kind_of_exchange stage)

abbrev pub own_kind : Progress → Option Kind
own_kind (central c) = kind_at_central c.own
own_kind (peripheral p) = kind_at_peripheral p.own

-- an end whose own procedure is over
abbrev pub without_own : Progress → Progress
without_own (central c) = central (record c { own = exclusive Idle })
without_own (peripheral p) = peripheral (record p { own = exclusive_p idle })

-- the exchange that an end began
abbrev pub exchange_at_central : OwnCentral → Option Exchange
exchange_at_central (exchange stage) = Some stage
exchange_at_central other = None

abbrev pub exchange_at_peripheral : OwnPeripheral → Option Exchange
exchange_at_peripheral (exchange_p stage) = Some stage
exchange_at_peripheral other = None

abbrev pub own_exchange : Progress → Option Exchange
own_exchange (central c) = exchange_at_central c.own
own_exchange (peripheral p) = exchange_at_peripheral p.own

-- ---- whether it is of a kind

abbrev pub is_kind : Option Kind → Kind → Bool
is_kind None kind = false
is_kind (Some own) kind = is_same_kind own kind

-- the peer has a limited time to answer (section 5.2): for an update and a map it has none, since no PDU of the peer is
-- awaited
abbrev pub is_timed : Option Kind → Bool
is_timed None = false
is_timed (Some Update) = false
is_timed (Some Map) = false
is_timed (Some other) = true
