-- What a station noted is what its calls give, after each event of a run.
use Rattle.std.proofs.Common.{◌≡◌, ℕ, List, [], ◌∷◌, ◌++◌, refl, sym, ap, ◌∙◌}
use Rattle.journal_acks.specs.controller_model.Side.{notes_of}
use Rattle.journal_acks.specs.controller_model.Step.{HostOctet}
use Rattle.journal_acks.specs.run_model.Feeding.{HasNoted}
use Rattle.journal_acks.specs.run_model.History.{Event, HostFed, notes_in, steps_in}
use Rattle.journal_acks.specs.run_model.Run.{Given, after_call, after_feed, after_octets, setup_at}
use Rattle.journal_acks.proofs.run_model.Calls.{flat_nothing}
use Rattle.journal_acks.proofs.run_model.Notes.{noted_own}

pub noted_event : (given : Given) (station : ℕ) (history : List Event) (event : Event) → notes_in station event ≡ [] → steps_in station event ≡ []
    → HasNoted given station history → HasNoted given station (history ++ event ∷ [])
noted_event given station history event notes steps noted =
    flat_nothing (notes_in station) history event notes ∙ noted
    ∙ ap (notes_of (setup_at given station)) (sym (flat_nothing (steps_in station) history event steps))

-- ---- a feed

octets_noted : (given : Given) (station : ℕ) (octets : List ℕ) (history : List Event) → HasNoted given station history
    → HasNoted given station (after_octets given station octets history)
octets_noted given station [] history noted = noted
octets_noted given station (octet ∷ octets) history noted =
    octets_noted given station octets (after_call given station (HostOctet octet) history) (noted_own given station (HostOctet octet) history noted)

pub noted_feed : (given : Given) (station : ℕ) (octets : List ℕ) (history : List Event) → HasNoted given station history
    → HasNoted given station (after_feed given station octets history)
noted_feed given station [] history noted = noted
noted_feed given station (octet ∷ octets) history noted =
    octets_noted given station (octet ∷ octets) (history ++ HostFed station (octet ∷ octets) ∷ [])
    (noted_event given station history (HostFed station (octet ∷ octets)) refl refl noted)
