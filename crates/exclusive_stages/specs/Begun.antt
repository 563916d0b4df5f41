-- The stages of procedures that exclude each other as they begin (Core 5.2, volume 6 part B, section 5.1).
use Rattle.std.specs.Prelude.{Bool, true, false}
use Rattle.exclusive_stages.specs.declared.pdus.Exclusive.{Exclusive}
use Rattle.exclusive_stages.specs.declared.pdus.Exclusive.TheVariants.{Update, Request, Map, Phy}
use Rattle.exclusive_stages.specs.declared.stages.CentralStage.{CentralStage}
use Rattle.exclusive_stages.specs.declared.stages.CentralStage.TheVariants.{UpdateUnsent, MapUnsent, PhyUnsent}
use Rattle.exclusive_stages.specs.declared.stages.PeripheralStage.{PeripheralStage}
use Rattle.exclusive_stages.specs.declared.stages.PeripheralStage.TheVariants.{RequestUnsent, PhyUnsent as phy_unsent}

-- which of them a role begins: the central sends its own indication and makes no request (our choice)
abbrev pub begins_at_central : Exclusive → Bool
begins_at_central Request = false
begins_at_central kind = true

abbrev pub begins_at_peripheral : Exclusive → Bool
begins_at_peripheral Request = true
begins_at_peripheral Phy = true
begins_at_peripheral kind = false

-- the stage of one that begins
abbrev pub stage_begun_at_central : Exclusive → CentralStage
stage_begun_at_central Update = UpdateUnsent
stage_begun_at_central Map = MapUnsent
stage_begun_at_central kind = PhyUnsent

abbrev pub stage_begun_at_peripheral : Exclusive → PeripheralStage
stage_begun_at_peripheral Phy = phy_unsent
stage_begun_at_peripheral kind = RequestUnsent
