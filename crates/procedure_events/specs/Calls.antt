-- The events that the host of an end gets in one call for what the control procedures of a link did (Core 5.2, volume 4
-- part E, section 7.7), in order (our choice).
use Rattle.std.specs.Prelude.{ℕ, Bool, true, false, List, [], ◌∷◌, ◌++◌, Option, Some, None}
use Rattle.std.specs.Option.{option_to_list}
use Rattle.ble_base.specs.ErrorCodes.{success}
use Rattle.ble_base.specs.declared.error_codes.ErrCode.{ErrCode}
use Rattle.ble_base.specs.declared.procedure_kinds.Kind.{Kind}
use Rattle.ble_base.specs.declared.procedure_kinds.Kind.TheVariants.{Features, Version}
use Rattle.hci_evt.specs.declared.event.Event.{Event}
use Rattle.instants.specs.declared.indications.Params.{Params}
use Rattle.procedure_stages.specs.declared.steps.Effect.{Effect}
use Rattle.link_model.specs.declared.state.PeerFacts.{PeerFacts}
use Rattle.procedure_events.specs.declared.calls.KeptEvents.{KeptEvents}
use Rattle.procedure_events.specs.declared.calls.ReceptionEvents.{ReceptionEvents}
use Rattle.procedure_events.specs.Events.{event_of_done, event_of_effect, event_of_refusal, features_event, update_event, version_event}

-- ---- a connection event is entered

-- an update holds from it on, or none does (section 7.7.65.3)
abbrev pub events_of_entry : ℕ → Bool → Params → List Event
events_of_entry handle true params = update_event handle success params ∷ []
events_of_entry handle false params = []

-- ---- a packet is received

abbrev pub event_if_done : ℕ → PeerFacts → Option Kind → Option Event
event_if_done handle peer None = None
event_if_done handle peer (Some kind) = event_of_done handle peer kind

abbrev pub event_if_refused : ℕ → Params → Option (Kind × ErrCode) → Option Event
event_if_refused handle params None = None
event_if_refused handle params (Some (kind, code)) = event_of_refusal handle params kind code

-- for what its acknowledgement completes, the effect of its PDU, what the PDU refuses, and what it completes
abbrev pub events_of_reception :
    ℕ → Bool → Params → PeerFacts → Option Kind → Effect → Option (Kind × ErrCode) → Option Kind → List Event
events_of_reception handle was_encrypted params peer acked effect refused done =
    option_to_list (event_if_done handle peer acked) ++ option_to_list (event_of_effect handle was_encrypted effect)
    ++ option_to_list (event_if_refused handle params refused) ++ option_to_list (event_if_done handle peer done)

-- and then for what a PDU did that was kept until that one
abbrev pub events_of_kept : ℕ → Bool → PeerFacts → Effect → Option Kind → List Event
events_of_kept handle was_encrypted peer effect done =
    option_to_list (event_of_effect handle was_encrypted effect) ++ option_to_list (event_if_done handle peer done)

-- the same, as the code gives them
abbrev pub events_in_kept : KeptEvents → List Event
events_in_kept events = option_to_list events.effect ++ option_to_list events.done

abbrev pub events_in : ReceptionEvents → List Event
events_in events =
    option_to_list events.acked ++ option_to_list events.effect ++ option_to_list events.refused
    ++ option_to_list events.done

-- ---- the host asks for what is known of the peer already: the answer comes at once

abbrev pub events_known : ℕ → PeerFacts → Kind → List Event
events_known handle peer Features = option_to_list (features_event handle peer.features)
events_known handle peer Version = option_to_list (version_event handle peer.version)
events_known handle peer other = []
