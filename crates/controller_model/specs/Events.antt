-- Events for the host, and the masks that withhold them (Core 5.2, volume 4 part E, sections 7.3.1 and 7.8.1).
use Rattle.std.specs.Prelude.{◌&&◌, Bool, true, List, map, filter}
use Rattle.ble_base.specs.Bits.{has_bit}
use Rattle.ble_base.specs.declared.notes.Note.{Note}
use Rattle.ble_base.specs.declared.notes.Note.TheVariants.{Up}
use Rattle.hci_evt.specs.declared.event.Event.{Event}
use Rattle.hci_evt.specs.declared.event.MaskBit.{MaskBit}
use Rattle.hci_evt.specs.declared.event.MaskBit.TheVariants.{Always, Main, Meta}
use Rattle.hci_evt.specs.Event.{mask_bit_of, written}
use Rattle.host_view.specs.View.{View}

-- an LE event needs its own bit, and that of all LE events, which is 61
abbrev pub passes : View → MaskBit → Bool
passes view Always = true
passes view (Main bit) = has_bit view.mask bit
passes view (Meta bit) = has_bit view.mask 61 && has_bit view.le_mask bit

-- the events that the masks let through, as packets to the host
abbrev pub notes_of_events : View → List Event → List Note
notes_of_events view events =
    map (λ event. Up (record { items = written event })) (filter (λ event. passes view (mask_bit_of event)) events)
