-- Which procedure begins, its stage as it begins, and its first PDU (Core 5.2, volume 6 part B, section 5.1).
use Rattle.std.specs.Prelude.{ℕ, ◌&&◌, Bool, true, false, List, position, Option, Some, None}
use Rattle.ble_base.specs.declared.roles.Role.{Role}
use Rattle.ble_base.specs.declared.roles.Role.TheVariants.{Central, Peripheral}
use Rattle.ble_base.specs.declared.procedure_kinds.Kind.{Kind}
use Rattle.procedure_stages.specs.declared.stages.Exchange.{Exchange}
use Rattle.procedure_stages.specs.declared.stages.Exchange.TheVariants.{VersionUnsent, VersionSent, FeaturesUnsent, LengthUnsent}
use Rattle.procedure_values.specs.declared.asks.Ask.{Ask}
use Rattle.procedure_values.specs.declared.asks.Ask.TheVariants.{Update, Request, Map, Phy, Features, Version, Length, Encrypt}
use Rattle.procedure_stages.specs.declared.stages.OwnCentral.{OwnCentral}
use Rattle.procedure_stages.specs.declared.stages.OwnCentral.TheVariants.{Exclusive as exclusive, Exchange as exchange, EncryptUnsent}
use Rattle.procedure_stages.specs.declared.stages.OwnPeripheral.{OwnPeripheral}
use Rattle.procedure_stages.specs.declared.stages.OwnPeripheral.TheVariants.{Exclusive as exclusive_p, Exchange as exchange_p}
use Rattle.exclusive_stages.specs.declared.stages.CentralStage.TheVariants.{UpdateUnsent, MapUnsent, PhyUnsent}
use Rattle.exclusive_stages.specs.declared.stages.PeripheralStage.TheVariants.{RequestUnsent, PhyUnsent as phy_unsent}
use Rattle.procedure_stages.specs.declared.stages.Progress.{Progress}
use Rattle.procedure_stages.specs.declared.stages.Progress.TheVariants.{Central as central, Peripheral as peripheral}
use Rattle.procedure_values.specs.declared.drafts.Draft.{Draft}
use Rattle.procedure_values.specs.declared.drafts.Draft.TheVariants.{Update as update_draft, Map as map_draft, Request as request_draft, PhyReq, FeatureReq, PeripheralFeatureReq, VersionInd, LengthReq}
use Rattle.procedure_values.specs.declared.lengths.Lengths.{Lengths}
use Rattle.procedure_stages.specs.Kinds.{begins, role_of}
use Rattle.procedure_values.specs.Asks.{kind_of_ask}
use Rattle.procedure_stages.specs.Collisions.{peer_lets}

-- ---- which begins

-- a kind that is wanted may begin, at an end whose role begins it and that may begin something if it is `ready`
abbrev pub may_begin_now : Bool → Progress → Kind → Bool
may_begin_now ready progress kind = ready && begins (role_of progress) kind && peer_lets progress kind

-- the place of the first wanted that may begin
abbrev pub first_place : Bool → Progress → List Ask → Option ℕ
first_place ready progress wanted = position (λ ask. may_begin_now ready progress (kind_of_ask ask)) wanted

-- ---- its stage

-- LL_VERSION_IND is sent once: a second exchange of versions begins without it
abbrev pub version_stage : Bool → Exchange
version_stage false = VersionUnsent
version_stage true = VersionSent

abbrev pub stage_at_central : Ask → Bool → OwnCentral → OwnCentral
stage_at_central (Update interval latency timeout) used own = exclusive UpdateUnsent
stage_at_central (Request min max latency timeout) used own = own
stage_at_central (Map map) used own = exclusive MapUnsent
stage_at_central Phy used own = exclusive PhyUnsent
stage_at_central Features used own = exchange FeaturesUnsent
stage_at_central Version used own = exchange (version_stage used)
stage_at_central (Length tx) used own = exchange LengthUnsent
stage_at_central (Encrypt rand ediv ltk skd_m iv_m) used own = EncryptUnsent

abbrev pub stage_at_peripheral : Ask → Bool → OwnPeripheral → OwnPeripheral
stage_at_peripheral (Update interval latency timeout) used own = own
stage_at_peripheral (Request min max latency timeout) used own = exclusive_p RequestUnsent
stage_at_peripheral (Map map) used own = own
stage_at_peripheral Phy used own = exclusive_p phy_unsent
stage_at_peripheral Features used own = exchange_p FeaturesUnsent
stage_at_peripheral Version used own = exchange_p (version_stage used)
stage_at_peripheral (Length tx) used own = exchange_p LengthUnsent
stage_at_peripheral (Encrypt rand ediv ltk skd_m iv_m) used own = own

abbrev pub progress_begun : Ask → Bool → Progress → Progress
progress_begun ask used (central c) = central (record c { own = stage_at_central ask used c.own })
progress_begun ask used (peripheral p) = peripheral (record p { own = stage_at_peripheral ask used p.own })

-- ---- its first PDU

abbrev pub feature_draft : Role → Draft
feature_draft Central = FeatureReq
feature_draft Peripheral = PeripheralFeatureReq

abbrev pub version_draft : Bool → Option Draft
version_draft false = Some VersionInd
version_draft true = None

-- the first PDU of a procedure; that of an encryption depends on the phase and is queued by the layer above
abbrev pub draft_begun : Role → Bool → Lengths → Ask → Option Draft
draft_begun role used lengths (Update interval latency timeout) =
    Some (update_draft (record { interval = interval; latency = latency; timeout = timeout }))
draft_begun role used lengths (Request min max latency timeout) = Some (request_draft min max latency timeout)
draft_begun role used lengths (Map map) = Some (map_draft map)
draft_begun role used lengths Phy = Some PhyReq
draft_begun role used lengths Features = Some (feature_draft role)
draft_begun role used lengths Version = version_draft used
draft_begun role used lengths (Length tx) = Some (LengthReq lengths.own_rx lengths.own_tx)
draft_begun role used lengths (Encrypt rand ediv ltk skd_m iv_m) = None
