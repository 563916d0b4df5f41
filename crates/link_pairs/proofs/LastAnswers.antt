-- The answer in the last of two events, as its octets: what the central of a small link makes of it is computed from these.
use Rattle.std.proofs.Common.{◌≡◌, ℕ, ◌+◌, ◌*◌, true, List, [], ◌∷◌, ◌++◌, Some, ap}
use Rattle.ble_base.specs.declared.notes.Note.{Note}
use Rattle.link_model.specs.Rows.{central_with}
use Rattle.link_model.specs.Facts.{Facts}
use Rattle.link_model.specs.Receiving.{facts_received, received_notes}
use Rattle.link_pairs.specs.Rows.{Both, begun, event_after, events_from, pdu_octets, peripheral_hears}
use Rattle.link_pairs.specs.Turns.{prepared}

module _ (both : Both) where
  -- the slot of the anchor of event 2
  abbrev pub last_slot : ℕ
  last_slot = 2 + 24 * (1 + 1)

  abbrev pub last_begun : Both
  last_begun = begun last_slot (event_after (2 + 24 * 1) true both)

  abbrev last_pdu : List ℕ
  last_pdu = pdu_octets (prepared (central_with 0) last_slot true (event_after (2 + 24 * 1) true both).central)

  abbrev pub last_answer : List ℕ
  last_answer = pdu_octets (peripheral_hears last_slot last_pdu last_begun.peripheral)

  abbrev pub facts_hearing_last : List ℕ → Facts
  facts_hearing_last answer = facts_received (central_with 0).link.role last_slot true (Some answer) last_begun.central

  abbrev pub notes_hearing_last : List ℕ → List Note
  notes_hearing_last answer =
      last_begun.central_notes ++ received_notes (central_with 0) last_slot true (Some answer) last_begun.central

  module _ (answer : List ℕ) (is : last_answer ≡ answer) where
    pub facts_by_answer : (events_from 1 (true ∷ true ∷ []) both).central ≡ facts_hearing_last answer
    facts_by_answer = ap facts_hearing_last is

    pub notes_by_answer : (events_from 1 (true ∷ true ∷ []) both).central_notes ≡ notes_hearing_last answer
    notes_by_answer = ap notes_hearing_last is
