-- What the laws of one end speak of: the wait of an indication, and what a central indicates (Core 5.2, volume 6 part B,
-- sections 5.1.1, 5.1.2 and 5.5).
use Rattle.std.specs.Prelude.{◌≡◌, ◌⊎◌, Bool, true, false, List, [], ◌∷◌, Option, Some, None, Ok, ⊤}
use Rattle.ble_base.specs.ErrorCodes.{different_transaction_collision, ll_procedure_collision}
use Rattle.ble_base.specs.declared.error_codes.ErrCode.{ErrCode}
use Rattle.ble_base.specs.declared.counters.EventNo.{EventNo}
use Rattle.ble_base.specs.declared.procedure_kinds.Kind.{Kind}
use Rattle.ble_base.specs.declared.procedure_kinds.Kind.TheVariants.{Update, Map}
use Rattle.instants.specs.declared.indications.Indication.{Indication}
use Rattle.instants.specs.declared.indications.Indication.TheVariants.{Update as update_indication, Map as map_indication}
use Rattle.instants.specs.declared.track.Change.{Change}
use Rattle.procedures.specs.procedure_stages.declared.stages.Ahead.{Ahead}
use Rattle.procedures.specs.procedure_stages.declared.stages.Ahead.TheVariants.{Nothing, Update as update_ahead, Map as map_ahead}
use Rattle.procedures.specs.procedure_stages.declared.stages.Progress.{Progress}
use Rattle.procedures.specs.procedure_stages.declared.stages.Progress.TheVariants.{Central as central, Peripheral as peripheral}
use Rattle.procedures.specs.procedure_values.Wants.{IsAsk}
use Rattle.control_model.specs.Control.{Step, Enters, Asks, Answers, Sends, Takes}

-- ---- the wait of an indication

abbrev pub kind_of_indication : Indication → Kind
kind_of_indication (update_indication win_offset interval latency timeout instant) = Update
kind_of_indication (map_indication map instant) = Map

-- the kind of the indication that a track has waiting
abbrev pub kind_waiting : Option Change → Option Kind
kind_waiting None = None
kind_waiting (Some change) = Some (kind_of_indication change.indication)

-- the kind of the indication that the table of a peripheral awaits; that of a central awaits none
abbrev pub kind_ahead : Ahead → Option Kind
kind_ahead Nothing = None
kind_ahead update_ahead = Some Update
kind_ahead map_ahead = Some Map

abbrev pub kind_awaited : Progress → Option Kind
kind_awaited (central c) = None
kind_awaited (peripheral p) = kind_ahead p.ahead

-- ---- what a central indicated

-- the event of the last indication, by the table of a central
abbrev pub last_instant_of : Progress → Option EventNo
last_instant_of (central c) = c.last_instant
last_instant_of (peripheral p) = None

-- the event of the last of these changes
abbrev pub last_event_of : List Change → Option EventNo
last_event_of [] = None
last_event_of (change ∷ []) = Some change.at
last_event_of (change ∷ more) = last_event_of more

-- ---- what a host asks is in its range

abbrev pub IsInRange : Step → Type 0
IsInRange (Asks ask) = IsAsk ask
IsInRange (Answers (Ok ask)) = IsAsk ask
IsInRange other = ⊤

abbrev pub AreInRange : List Step → Type 0
AreInRange [] = ⊤
AreInRange (step ∷ steps) = IsInRange step × AreInRange steps

-- ---- the end of a link by a second indication, and the track of an end

-- it ended for the collision of two procedures, of one kind or of two (section 5.3)
abbrev pub EndsByCollision : Option ErrCode → Type 0
EndsByCollision None = ⊥
EndsByCollision (Some code) = (code.0 ≡ ll_procedure_collision) ⊎ (code.0 ≡ different_transaction_collision)

-- the steps in which no event is entered and no control PDU passes
abbrev pub is_of_table_alone : Step → Bool
is_of_table_alone (Enters slot quiet) = false
is_of_table_alone (Sends slot quiet) = false
is_of_table_alone (Takes read slot quiet) = false
is_of_table_alone other = true
