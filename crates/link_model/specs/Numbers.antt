-- The notes of PDUs that are not empty, with their numbers (our choice).
use Rattle.std.specs.Prelude.{ℕ, ◌+◌, Bool, true, false, List, [], ◌∷◌}
use Rattle.ble_base.specs.declared.notes.Note.{Note}
use Rattle.ble_base.specs.declared.notes.Note.TheVariants.{Sent, Took}
use Rattle.link_model.specs.Acknowledgement.{Pdu}

abbrev pub is_sent_note : Note → Bool
is_sent_note (Sent handle number llid body) = true
is_sent_note other = false

abbrev pub is_took_note : Note → Bool
is_took_note (Took handle number llid body) = true
is_took_note other = false

abbrev pub sent_note : ℕ → ℕ → Pdu → Note
sent_note handle number pdu = Sent handle number pdu.llid (record { items = pdu.body })

abbrev pub took_note : ℕ → ℕ → Pdu → Note
took_note handle number pdu = Took handle number pdu.llid (record { items = pdu.body })

-- a note of each of these PDUs, with numbers from this one on
abbrev pub numbered_notes : (ℕ → Pdu → Note) → ℕ → List Pdu → List Note
numbered_notes note number [] = []
numbered_notes note number (pdu ∷ pdus) = note number pdu ∷ numbered_notes note (number + 1) pdus
