-- Worked notes of the two ends of a link: in event 0 the central sends an update to an interval of 8 slots, whose
-- Instant is event 6, and the peripheral takes it.
use Rattle.std.specs.Prelude.{ℕ, List, [], ◌∷◌, ◌++◌}
use Rattle.ble_base.specs.declared.notes.Note.{Note}
use Rattle.ble_base.specs.declared.notes.Note.TheVariants.{Applied, Enter, Sent, Took}
use Rattle.instants.specs.declared.indications.Indication.TheVariants.{Update}
use Rattle.instants.specs.declared.track.Change.{Change}

-- LL_CONNECTION_UPDATE_IND with this Instant, of one octet (section 2.4.2.1)
abbrev pub update_octets : ℕ → List ℕ
update_octets instant = 0x00 ∷ 1 ∷ 0 ∷ 0 ∷ 8 ∷ 0 ∷ 0 ∷ 0 ∷ 100 ∷ 0 ∷ instant ∷ 0 ∷ []

-- it holds from this event on
abbrev pub update_at : ℕ → ℕ → Change
update_at instant event = record { indication = Update 0 8 0 100 instant; at = record { 0 = event } }

-- the notes of an event that is entered
abbrev pub enters : ℕ → List Note
enters event = Enter 0 (record { 0 = event }) 9 ∷ []

-- the PDU with that update is sent or taken; `llid` is 3 for a control PDU
abbrev pub sends_update : ℕ → ℕ → List Note
sends_update llid instant = Sent 0 1 llid (record { items = update_octets instant }) ∷ []

abbrev pub takes_update : ℕ → ℕ → List Note
takes_update llid instant = Took 0 1 llid (record { items = update_octets instant }) ∷ []

-- the indication with this number is in force from this event on
abbrev pub applies : ℕ → ℕ → List Note
applies number event = Applied 0 number (record { 0 = event }) ∷ []

-- a peripheral that takes the update in event 0 and enters this many events of those after it
abbrev pub taken_in_event_0 : List Note
taken_in_event_0 = enters 0 ++ takes_update 3 6 ++ enters 1 ++ enters 5
