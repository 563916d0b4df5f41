-- The parts of a reception, one after the other.
use Rattle.std.proofs.Common.{◌≡◌, ℕ, List, ◌++◌, ◌∙◌}
use Rattle.std.proofs.lemmas.List.{append_assoc}
use Rattle.ble_base.specs.declared.notes.Note.{Note}
use Rattle.link_model.specs.Entering.{done_notes}
use Rattle.link_end.specs.declared.pdus.Got.{Got}
use Rattle.link_end.specs.Held.{Held}
use Rattle.link_end.specs.Pdus.{pdu_in}
use Rattle.link_end.specs.Receiving.{acked_kind, acks, held_before_taking, notes_hearing, taken_notes}

-- what is noted of the acknowledgement, and then of the new PDU
pub hearing_notes : (slot : ℕ) (got : Got) (held now : Held) → now ≡ held_before_taking slot got.header held
    → (before between after : List Note)
    → between ≡ before ++ done_notes held.setup.link.handle (acked_kind (acks held got.header) held)
    → after ≡ between ++ taken_notes got.accepted (pdu_in got) slot now → after ≡ before ++ notes_hearing slot got held
hearing_notes slot got held now now_is before between after own taken =
    taken ∙ (λ i. own i ++ taken_notes got.accepted (pdu_in got) slot (now_is i)) ∙ append_assoc before _ _
