-- An end runs at most one exchange of its own.
use Rattle.std.proofs.Common.{◌≡◌, ◌≤◌, Option, Some, None, refl, ap, arith}
use Rattle.procedure_stages.specs.declared.stages.Exchange.{Exchange}
use Rattle.procedure_stages.specs.declared.stages.Exchange.TheVariants.{FeaturesUnsent, FeaturesSent, VersionUnsent, VersionSent, LengthUnsent, LengthSent}
use Rattle.procedure_stages.specs.declared.stages.OwnCentral.{OwnCentral}
use Rattle.procedure_stages.specs.declared.stages.OwnCentral.TheVariants.{Exchange as exchange}
use Rattle.procedure_stages.specs.declared.stages.OwnPeripheral.{OwnPeripheral}
use Rattle.procedure_stages.specs.declared.stages.OwnPeripheral.TheVariants.{Exchange as exchange_p}
use Rattle.procedure_stages.specs.declared.stages.Progress.{Progress}
use Rattle.procedure_stages.specs.declared.stages.Progress.TheVariants.{Central as central, Peripheral as peripheral}
use Rattle.procedure_stages.specs.Kinds.{exchange_at_central, exchange_at_peripheral, kind_at_central, kind_at_peripheral, own_exchange, own_kind}
use Rattle.procedures.specs.Table.{TableFacts}
use Rattle.exchange_steps.specs.Answers.{exchange_kind}
use Rattle.exchange_steps.specs.Ends.{ends_of, exchanges_running}
use Rattle.exchange_steps.proofs.Taking.{at}

one_by : (f : TableFacts) (own : Option Exchange) → exchanges_running (at f 0 own) ≤ 1
one_by f (Some FeaturesUnsent) = omega arith
one_by f (Some FeaturesSent) = omega arith
one_by f (Some VersionUnsent) = omega arith
one_by f (Some VersionSent) = omega arith
one_by f (Some LengthUnsent) = omega arith
one_by f (Some LengthSent) = omega arith
one_by f None = omega arith

pub one : (f : TableFacts) → exchanges_running (ends_of f) ≤ 1
one f = one_by f (own_exchange f.progress)

-- an own procedure of another kind is no exchange
other_central : (own : OwnCentral) → exchange_kind (kind_at_central own) ≡ None → exchange_at_central own ≡ None
other_central (exchange FeaturesUnsent) is = absurd (cc)
other_central (exchange FeaturesSent) is = absurd (cc)
other_central (exchange VersionUnsent) is = absurd (cc)
other_central (exchange VersionSent) is = absurd (cc)
other_central (exchange LengthUnsent) is = absurd (cc)
other_central (exchange LengthSent) is = absurd (cc)
other_central own is = refl

other_peripheral : (own : OwnPeripheral) → exchange_kind (kind_at_peripheral own) ≡ None → exchange_at_peripheral own ≡ None
other_peripheral (exchange_p FeaturesUnsent) is = absurd (cc)
other_peripheral (exchange_p FeaturesSent) is = absurd (cc)
other_peripheral (exchange_p VersionUnsent) is = absurd (cc)
other_peripheral (exchange_p VersionSent) is = absurd (cc)
other_peripheral (exchange_p LengthUnsent) is = absurd (cc)
other_peripheral (exchange_p LengthSent) is = absurd (cc)
other_peripheral own is = refl

other_own : (p : Progress) → exchange_kind (own_kind p) ≡ None → own_exchange p ≡ None
other_own (central c) is = other_central c.own is
other_own (peripheral p) is = other_peripheral p.own is

pub none : (f : TableFacts) → exchange_kind (own_kind f.progress) ≡ None → exchanges_running (ends_of f) ≡ 0
none f is = ap (λ own. exchanges_running (at f 0 own)) (other_own f.progress is)
