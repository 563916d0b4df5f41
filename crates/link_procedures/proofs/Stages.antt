-- Which procedure an end has in progress where a test of its stage holds.
use Rattle.std.proofs.Common.{◌≡◌, true, false, Option, Some, option_map, refl, ap}
use Rattle.ble_base.specs.declared.procedure_kinds.Kind.TheVariants.{Phy, Request, Features, Version, Length, Encrypt}
use Rattle.exclusive_stages.specs.Awaited.{awaits_phy_ind, awaits_phy_rsp, reads_as_answer}
use Rattle.exclusive_stages.specs.Kinds.{central_kind, kind_of, peripheral_kind}
use Rattle.exclusive_stages.specs.declared.stages.CentralStage.{CentralStage}
use Rattle.exclusive_stages.specs.declared.stages.CentralStage.TheVariants.{Idle, PhySent}
use Rattle.exclusive_stages.specs.declared.stages.PeripheralStage.{PeripheralStage}
use Rattle.exclusive_stages.specs.declared.stages.PeripheralStage.TheVariants.{Idle as idle, PhySent as phy_sent, RequestAcknowledged, RequestGranted}
use Rattle.link_model.specs.procedure_stages.Awaited.{awaits_features, awaits_lengths, is_own_encryption, is_version}
use Rattle.link_model.specs.procedure_stages.Exclusive.{central_stage, peripheral_stage}
use Rattle.link_model.specs.procedure_stages.Kinds.{exchange_at_central, exchange_at_peripheral, is_kind, kind_at_central, kind_at_peripheral, kind_of_exchange, own_exchange, own_kind}
use Rattle.link_model.specs.procedure_values.Asks.{is_same_kind}
use Rattle.link_model.specs.procedure_stages.declared.stages.Exchange.{Exchange}
use Rattle.link_model.specs.procedure_stages.declared.stages.Exchange.TheVariants.{FeaturesSent, LengthSent, VersionSent, VersionUnsent}
use Rattle.link_model.specs.procedure_stages.declared.stages.OwnCentral.{OwnCentral}
use Rattle.link_model.specs.procedure_stages.declared.stages.OwnCentral.TheVariants.{Exclusive as exclusive, EncryptSent, EncryptUnsent, Exchange as exchange}
use Rattle.link_model.specs.procedure_stages.declared.stages.OwnPeripheral.{OwnPeripheral}
use Rattle.link_model.specs.procedure_stages.declared.stages.OwnPeripheral.TheVariants.{Exclusive as exclusive_p, Exchange as exchange_p}
use Rattle.link_model.specs.procedure_stages.declared.stages.Progress.{Progress}
use Rattle.link_model.specs.procedure_stages.declared.stages.Progress.TheVariants.{Central as central, Peripheral as peripheral}

-- ---- exchanges

exchange_own : (p : Progress) (stage : Exchange) → own_exchange p ≡ Some stage → own_kind p ≡ Some (kind_of_exchange stage)
exchange_own (central c) stage is = by c.own is
  where
    by : (own : OwnCentral) → exchange_at_central own ≡ Some stage → kind_at_central own ≡ Some (kind_of_exchange stage)
    by (exchange other) is = let same : other ≡ stage = cc in ap (λ (e : Exchange). Some (kind_of_exchange e)) same
    by own is = absurd (cc)
exchange_own (peripheral p) stage is = by p.own is
  where
    by : (own : OwnPeripheral) → exchange_at_peripheral own ≡ Some stage → kind_at_peripheral own ≡ Some (kind_of_exchange stage)
    by (exchange_p other) is = let same : other ≡ stage = cc in ap (λ (e : Exchange). Some (kind_of_exchange e)) same
    by own is = absurd (cc)

pub features_own : (p : Progress) → awaits_features (own_exchange p) ≡ true → own_kind p ≡ Some Features
features_own p is = by (own_exchange p) refl is
  where
    by : (stage : Option Exchange) → own_exchange p ≡ stage → awaits_features stage ≡ true → own_kind p ≡ Some Features
    by (Some FeaturesSent) e is = exchange_own p FeaturesSent e
    by other e is = absurd (cc)

pub lengths_own : (p : Progress) → awaits_lengths (own_exchange p) ≡ true → own_kind p ≡ Some Length
lengths_own p is = by (own_exchange p) refl is
  where
    by : (stage : Option Exchange) → own_exchange p ≡ stage → awaits_lengths stage ≡ true → own_kind p ≡ Some Length
    by (Some LengthSent) e is = exchange_own p LengthSent e
    by other e is = absurd (cc)

pub version_own : (p : Progress) → is_version (own_exchange p) ≡ true → own_kind p ≡ Some Version
version_own p is = by (own_exchange p) refl is
  where
    by : (stage : Option Exchange) → own_exchange p ≡ stage → is_version stage ≡ true → own_kind p ≡ Some Version
    by (Some VersionUnsent) e is = exchange_own p VersionUnsent e
    by (Some VersionSent) e is = exchange_own p VersionSent e
    by other e is = absurd (cc)

exchange_other : (stage : Exchange) → is_version (Some stage) ≡ false → is_same_kind (kind_of_exchange stage) Version ≡ false
exchange_other VersionUnsent is = absurd (cc)
exchange_other VersionSent is = absurd (cc)
exchange_other stage is = refl

central_other : (stage : CentralStage) → is_kind (option_map kind_of (central_kind stage)) Version ≡ false
central_other Idle = refl
central_other stage = refl

peripheral_other : (stage : PeripheralStage) → is_kind (option_map kind_of (peripheral_kind stage)) Version ≡ false
peripheral_other idle = refl
peripheral_other stage = refl

pub version_other : (p : Progress) → is_version (own_exchange p) ≡ false → is_kind (own_kind p) Version ≡ false
version_other (central c) is = by c.own is
  where
    by : (own : OwnCentral) → is_version (exchange_at_central own) ≡ false → is_kind (kind_at_central own) Version ≡ false
    by (exclusive stage) is = central_other stage
    by (exchange stage) is = exchange_other stage is
    by own is = refl
version_other (peripheral p) is = by p.own is
  where
    by : (own : OwnPeripheral) → is_version (exchange_at_peripheral own) ≡ false → is_kind (kind_at_peripheral own) Version ≡ false
    by (exclusive_p stage) is = peripheral_other stage
    by (exchange_p stage) is = exchange_other stage is

-- ---- the procedures that exclude each other, and encryptions

pub encrypt_own : (own : OwnCentral) → is_own_encryption own ≡ true → kind_at_central own ≡ Some Encrypt
encrypt_own EncryptUnsent is = refl
encrypt_own EncryptSent is = refl
encrypt_own own is = absurd (cc)

pub phy_rsp_own : (own : OwnCentral) → awaits_phy_rsp (central_stage own) ≡ true → kind_at_central own ≡ Some Phy
phy_rsp_own (exclusive PhySent) is = refl
phy_rsp_own (exclusive other) is = absurd (cc)
phy_rsp_own own is = absurd (cc)

pub phy_ind_own : (own : OwnPeripheral) → awaits_phy_ind (peripheral_stage own) ≡ true → kind_at_peripheral own ≡ Some Phy
phy_ind_own (exclusive_p phy_sent) is = refl
phy_ind_own (exclusive_p other) is = absurd (cc)
phy_ind_own own is = absurd (cc)

pub request_own : (own : OwnPeripheral) → reads_as_answer (peripheral_stage own) ≡ true → kind_at_peripheral own ≡ Some Request
request_own (exclusive_p RequestAcknowledged) is = refl
request_own (exclusive_p RequestGranted) is = refl
request_own (exclusive_p other) is = absurd (cc)
request_own own is = absurd (cc)
