-- All stages of an exchange, and both roles.
use Rattle.std.proofs.Common.{◌≡◌, Bool, true, ◌&&◌}
use Rattle.std.proofs.lemmas.Bool.{and_parts}
use Rattle.ble_base.specs.declared.roles.Role.{Role}
use Rattle.ble_base.specs.declared.roles.Role.TheVariants.{Central, Peripheral}
use Rattle.machines.proofs.Trying.{Tried}
use Rattle.exchange_pairs.specs.Exchange.{ExchangeStage, Idle, Sent, Unsent}

pub each_stage : (f : ExchangeStage → Bool) → (f Idle && (f Unsent && f Sent)) ≡ true → (x : ExchangeStage) → f x ≡ true
each_stage f all Idle = (and_parts (f Idle) _ all).0
each_stage f all Unsent = (and_parts (f Unsent) (f Sent) (and_parts (f Idle) (f Unsent && f Sent) all).1).0
each_stage f all Sent = (and_parts (f Unsent) (f Sent) (and_parts (f Idle) (f Unsent && f Sent) all).1).1

abbrev pub stages : Tried ExchangeStage
stages = record { all = λ f. f Idle && (f Unsent && f Sent); each = each_stage }

pub each_role : (f : Role → Bool) → (f Central && f Peripheral) ≡ true → (x : Role) → f x ≡ true
each_role f all Central = (and_parts (f Central) (f Peripheral) all).0
each_role f all Peripheral = (and_parts (f Central) (f Peripheral) all).1

abbrev pub roles : Tried Role
roles = record { all = λ f. f Central && f Peripheral; each = each_role }
