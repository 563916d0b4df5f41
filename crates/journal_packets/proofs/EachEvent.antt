-- A fact of each event of a history, which calls, notes and octets of a host have of themselves.
use Rattle.std.proofs.Common.{ℕ, List, [], ◌∷◌, ◌++◌}
use Rattle.ble_base.specs.declared.notes.Note.{Note}
use Rattle.journal_links.specs.controller_model.Step.{Step, HostOctet}
use Rattle.journal_links.specs.controller_model.Side.{notes_after}
use Rattle.journal_links.specs.run_model.Due.{Each}
use Rattle.journal_links.specs.run_model.History.{Event, HostFed, Called, Noted}
use Rattle.journal_links.specs.run_model.Run.{Given, setup_at, facts_at, after_call, after_octets, after_feed}
use Rattle.journal_links.proofs.run_model.Places.{each_called, each_event}

module _ (given : Given) (fact : List Event → Event → Type 0) (called : (before : List Event) (station : ℕ) (step : Step) → fact before (Called station step))
    (noted : (station : ℕ) (before : List Event) (note : Note) → fact before (Noted station note)) (fed : (before : List Event) (station : ℕ) (octets : List ℕ) → fact before (HostFed station octets)) where
  pub each_call : (station : ℕ) (step : Step) (history : List Event) → Each fact [] history → Each fact [] (after_call given station step history)
  each_call station step history each =
      each_called fact station step (notes_after (setup_at given station) (facts_at given station history) step) history each (called history station step) (noted station)

  each_octets : (station : ℕ) (octets : List ℕ) (history : List Event) → Each fact [] history → Each fact [] (after_octets given station octets history)
  each_octets station [] history each = each
  each_octets station (octet ∷ octets) history each =
      each_octets station octets (after_call given station (HostOctet octet) history) (each_call station (HostOctet octet) history each)

  pub each_feed : (station : ℕ) (octets : List ℕ) (history : List Event) → Each fact [] history → Each fact [] (after_feed given station octets history)
  each_feed station [] history each = each
  each_feed station (octet ∷ octets) history each =
      each_octets station (octet ∷ octets) (history ++ HostFed station (octet ∷ octets) ∷ [])
      (each_event fact history (HostFed station (octet ∷ octets)) each (fed history station (octet ∷ octets)))
