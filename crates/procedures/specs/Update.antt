-- Connection update (Core 5.2, volume 6 part B, section 5.1.1), and the indications that a peripheral follows.
use Rattle.std.specs.Prelude.{true, if◌then◌else◌}
use Rattle.ble_base.specs.ErrorCodes.{ll_procedure_collision, different_transaction_collision}
use Rattle.ble_base.specs.declared.error_codes.ErrCode.{ErrCode}
use Rattle.instants.specs.declared.indications.Indication.{Indication}
use Rattle.procedure_stages.specs.declared.stages.Ahead.{Ahead}
use Rattle.procedure_stages.specs.declared.stages.Ahead.TheVariants.{Update, Map, Nothing}
use Rattle.procedure_stages.specs.declared.stages.Peripheral.{Peripheral}
use Rattle.procedure_stages.specs.declared.stages.Progress.TheVariants.{Peripheral as peripheral}
use Rattle.procedure_stages.specs.declared.stages.OwnPeripheral.TheVariants.{Exclusive as exclusive}
use Rattle.exclusive_stages.specs.declared.stages.PeripheralStage.TheVariants.{RequestGranted}
use Rattle.exclusive_stages.specs.declared.stages.PeerAtPeripheral.TheVariants.{UpdateTaken}
use Rattle.exclusive_stages.specs.Awaited.{reads_as_answer}
use Rattle.procedures.specs.declared.outcome.Outcome.{Outcome}
use Rattle.procedure_stages.specs.declared.steps.Effect.TheVariants.{Indicated}
use Rattle.procedures.specs.Table.{TableFacts}
use Rattle.procedures.specs.Outcomes.{moved, with_effect, ended}
use Rattle.procedure_stages.specs.Exclusive.{peripheral_stage}

-- the error of an indication that is taken while another waits: both may be of one kind or not (our choice)
abbrev pub ahead_code : Ahead → Ahead → ErrCode
ahead_code Update Update = record { 0 = ll_procedure_collision }
ahead_code Map Map = record { 0 = ll_procedure_collision }
ahead_code waiting new = record { 0 = different_transaction_collision }

-- a peripheral follows an indication from its Instant on, and is `p` then
abbrev pub followed : TableFacts → Peripheral → Ahead → Indication → Outcome
followed f p new indication = with_effect (Indicated indication) (moved f (peripheral (record p { ahead = new })))

-- it follows an indication, unless another waits: that ends the link (our choice)
abbrev pub follow : TableFacts → Ahead → Ahead → Outcome → Outcome
follow f Nothing new outcome = outcome
follow f Update new outcome = ended f (ahead_code Update new)
follow f Map new outcome = ended f (ahead_code Map new)

-- the answer to a request is taken: the time of the request begins anew
abbrev pub granted : TableFacts → Peripheral → Indication → Outcome
granted f p indication =
    record (followed f (record p { own = exclusive RequestGranted }) Update indication) { restarts = true }

-- an update of the central begins: a procedure of the peripheral awaits its rejection
abbrev pub update_begun : TableFacts → Peripheral → Indication → Outcome
update_begun f p indication = followed f (record p { peer = UpdateTaken }) Update indication

-- LL_CONNECTION_UPDATE_IND is taken at a peripheral
abbrev pub update_taken : TableFacts → Peripheral → Indication → Outcome
update_taken f p indication =
    follow f p.ahead Update (if reads_as_answer (peripheral_stage p.own) then granted f p indication else update_begun f p indication)
