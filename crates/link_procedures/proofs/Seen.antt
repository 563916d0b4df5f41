-- The procedure that an end has in progress, as joint runs see its table.
use Rattle.std.proofs.Common.{◌≡◌, true, List, Option, Some, None, option_map, refl, ap, ◌∙◌}
use Rattle.ble_base.specs.declared.roles.Role.TheVariants.{Central, Peripheral}
use Rattle.exclusive_stages.specs.Kinds.{central_kind, kind_of, peripheral_kind}
use Rattle.exclusive_stages.specs.Pdus.{is_kind as is_exclusive_kind}
use Rattle.exclusive_stages.specs.declared.pdus.Exclusive.{Exclusive}
use Rattle.exclusive_stages.specs.declared.pdus.Exclusive.TheVariants.{Update, Request, Map, Phy}
use Rattle.link_model.specs.End.{facts_of, notes_of}
use Rattle.link_model.specs.Setup.{Setup}
use Rattle.link_model.specs.Step.{Step}
use Rattle.link_model.specs.procedure_stages.Exclusive.{central_stage, peripheral_stage}
use Rattle.link_model.specs.procedure_stages.Kinds.{is_kind, kind_at_central, kind_at_peripheral, kind_of_exchange, own_kind, role_of}
use Rattle.link_model.specs.procedure_stages.declared.stages.Exchange.{Exchange}
use Rattle.link_model.specs.procedure_stages.declared.stages.Exchange.TheVariants.{FeaturesUnsent, FeaturesSent, VersionUnsent, VersionSent, LengthUnsent, LengthSent}
use Rattle.link_model.specs.procedure_stages.declared.stages.OwnCentral.{OwnCentral}
use Rattle.link_model.specs.procedure_stages.declared.stages.OwnCentral.TheVariants.{Exclusive as exclusive, EncryptSent, EncryptUnsent, Exchange as exchange}
use Rattle.link_model.specs.procedure_stages.declared.stages.OwnPeripheral.{OwnPeripheral}
use Rattle.link_model.specs.procedure_stages.declared.stages.OwnPeripheral.TheVariants.{Exclusive as exclusive_p, Exchange as exchange_p}
use Rattle.link_model.specs.procedure_stages.declared.stages.Progress.{Progress}
use Rattle.link_model.specs.procedure_stages.declared.stages.Progress.TheVariants.{Central as central, Peripheral as peripheral}
use Rattle.link_model.specs.procedure_values.Asks.{is_same_kind}
use Rattle.link_model.specs.procedures.Table.{TableFacts}
use Rattle.link_model.proofs.KeyedPasts.{keeps_role}
use Rattle.collision_steps.specs.CentralPart.{central_of}
use Rattle.collision_steps.specs.PeripheralPart.{peripheral_of}
use Rattle.link_procedures.specs.Running.{runs_at_central, runs_at_peripheral, runs_noted}
use Rattle.link_procedures.proofs.Steps.{past_goes}

-- ---- the test of a kind is an equation

pub same_kind : (own : Option Exclusive) (kind : Exclusive) → is_exclusive_kind own kind ≡ true → own ≡ Some kind
same_kind (Some Update) Update is = refl
same_kind (Some Request) Request is = refl
same_kind (Some Map) Map is = refl
same_kind (Some Phy) Phy is = refl
same_kind own kind is = absurd (cc)

pub is_itself : (kind : Exclusive) → is_exclusive_kind (Some kind) kind ≡ true
is_itself Update = refl
is_itself Request = refl
is_itself Map = refl
is_itself Phy = refl

pub kind_is : (own : Option Exclusive) (kind : Exclusive) → own ≡ Some kind → is_exclusive_kind own kind ≡ true
kind_is own kind is = ap (λ (o : Option Exclusive). is_exclusive_kind o kind) is ∙ is_itself kind

-- ---- one of the procedures that exclude each other, or another

exclusive_seen : (own : Option Exclusive) (kind : Exclusive) → is_kind (option_map kind_of own) (kind_of kind) ≡ is_exclusive_kind own kind
exclusive_seen (Some Update) Update = refl
exclusive_seen (Some Request) Request = refl
exclusive_seen (Some Map) Map = refl
exclusive_seen (Some Phy) Phy = refl
exclusive_seen own kind = refl

exchange_seen : (stage : Exchange) (kind : Exclusive) → is_same_kind (kind_of_exchange stage) (kind_of kind) ≡ is_exclusive_kind None kind
exchange_seen FeaturesUnsent Update = refl
exchange_seen FeaturesUnsent kind = refl
exchange_seen FeaturesSent Update = refl
exchange_seen FeaturesSent kind = refl
exchange_seen VersionUnsent Update = refl
exchange_seen VersionUnsent kind = refl
exchange_seen VersionSent Update = refl
exchange_seen VersionSent kind = refl
exchange_seen LengthUnsent Update = refl
exchange_seen LengthUnsent kind = refl
exchange_seen LengthSent Update = refl
exchange_seen LengthSent kind = refl

central_seen : (own : OwnCentral) (kind : Exclusive) → is_kind (kind_at_central own) (kind_of kind) ≡ is_exclusive_kind (central_kind (central_stage own)) kind
central_seen (exclusive stage) kind = exclusive_seen (central_kind stage) kind
central_seen (exchange stage) kind = exchange_seen stage kind
central_seen EncryptUnsent Update = refl
central_seen EncryptUnsent kind = refl
central_seen EncryptSent Update = refl
central_seen EncryptSent kind = refl

peripheral_seen : (own : OwnPeripheral) (kind : Exclusive)
    → is_kind (kind_at_peripheral own) (kind_of kind) ≡ is_exclusive_kind (peripheral_kind (peripheral_stage own)) kind
peripheral_seen (exclusive_p stage) kind = exclusive_seen (peripheral_kind stage) kind
peripheral_seen (exchange_p stage) kind = exchange_seen stage kind

-- ---- by role

abbrev pub at : TableFacts → Progress → TableFacts
at f p = record f { progress = p }

pub at_central : (f : TableFacts) (p : Progress) (kind : Exclusive) → role_of p ≡ Central
    → is_kind (own_kind p) (kind_of kind) ≡ is_exclusive_kind (central_kind (central_of (at f p)).own) kind
at_central f (central c) kind is = central_seen c.own kind
at_central f (peripheral p) kind is = absurd (cc)

at_peripheral : (f : TableFacts) (p : Progress) (kind : Exclusive) → role_of p ≡ Peripheral
    → is_kind (own_kind p) (kind_of kind) ≡ is_exclusive_kind (peripheral_kind (peripheral_of (at f p)).own) kind
at_peripheral f (central c) kind is = absurd (cc)
at_peripheral f (peripheral p) kind is = peripheral_seen p.own kind

pub seen_at_central : (setup : Setup) (past : List Step) (kind : Exclusive) → setup.link.role ≡ Central
    → runs_noted (kind_of kind) (notes_of setup past) ≡ runs_at_central kind (facts_of setup past)
seen_at_central setup past kind is =
    let table = (facts_of setup past).control.table in
    past_goes setup past (kind_of kind) ∙ at_central table table.progress kind (keeps_role setup past ∙ is)

pub seen_at_peripheral : (setup : Setup) (past : List Step) (kind : Exclusive) → setup.link.role ≡ Peripheral
    → runs_noted (kind_of kind) (notes_of setup past) ≡ runs_at_peripheral kind (facts_of setup past)
seen_at_peripheral setup past kind is =
    let table = (facts_of setup past).control.table in
    past_goes setup past (kind_of kind) ∙ at_peripheral table table.progress kind (keeps_role setup past ∙ is)
