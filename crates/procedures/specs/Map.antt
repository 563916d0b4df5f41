-- Channel map update (Core 5.2, volume 6 part B, section 5.1.2).
use Rattle.ble_base.specs.declared.procedure_kinds.Kind.TheVariants.{Map as map_kind}
use Rattle.instants.specs.declared.indications.Indication.{Indication}
use Rattle.procedure_stages.specs.declared.stages.Ahead.TheVariants.{Map}
use Rattle.exclusive_stages.specs.declared.stages.PeerAtPeripheral.TheVariants.{MapTaken}
use Rattle.procedure_stages.specs.declared.stages.Peripheral.{Peripheral}
use Rattle.procedures.specs.declared.outcome.Outcome.{Outcome}
use Rattle.procedures.specs.Table.{TableFacts}
use Rattle.procedures.specs.Update.{follow, followed}
use Rattle.procedures.specs.Request.{after_grant}

-- LL_CHANNEL_MAP_IND is taken at a peripheral
abbrev pub map_taken : TableFacts → Peripheral → Indication → Outcome
map_taken f p indication =
    after_grant f p map_kind (follow f p.ahead Map (followed f (record p { peer = MapTaken }) Map indication))
