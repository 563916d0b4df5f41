-- The first packet of a PDU, by the keys that the lines before it give to its end (Core 5.2, volume 6 part B, section 5.1.3,
-- and part E, section 2).
use Rattle.std.specs.Prelude.{◌≡◌, ℕ, ◌-◌, true, false, List, Some, if◌then◌else◌}
use Rattle.journal_controls.specs.LineSteps.{keyed_on}
use Rattle.journal_controls.specs.journal_acks.Carried.{carried_of}
use Rattle.journal_controls.specs.journal_acks.Held.{HasPayloadOfEnd}
use Rattle.journal_controls.specs.journal_ends.Asked.{Words}
use Rattle.journal_controls.specs.link_model.Acknowledgement.{is_acked}
use Rattle.journal_controls.specs.link_model.Data.{is_empty}
use Rattle.journal_controls.specs.link_model.Payload.{payload_made}
use Rattle.journal_controls.specs.link_model.enc_phase.Phases.{seals}
use Rattle.journal_controls.specs.link_model.enc_phase.Sealing.{EncEnd}
use Rattle.journal_controls.specs.link_model.keyed_control.Keyed.{Keyed}
use Rattle.journal_controls.specs.open_links.OpenLinks.{facts_in}
use Rattle.journal_controls.specs.run_model.History.{Event}
use Rattle.journal_controls.specs.run_model.Journal.{journal_of, side_of}
use Rattle.journal_controls.specs.run_model.Run.{Given}

-- an end before the PDU that it sealed last took its counter
abbrev pub end_before : EncEnd → EncEnd
end_before e = record e { sent = (if seals e.role e.phase then e.sent - 1 else e.sent) }

-- where the end sends a new PDU that is not empty, the payload is made with its keys by the lines, and with the counter
-- before the one that it has by them now
pub record IsMadeByLines (words : Words) (given : Given) (history : List Event) (station channel : ℕ) (octets : List ℕ)
    : Type 0 where
  pub by_end : HasPayloadOfEnd given history station channel octets
  pub end : Keyed
  pub is_end : keyed_on words (side_of station) by_end.packet.number (journal_of history) ≡ Some end
  pub made : is_acked (facts_in by_end.sent.link).acknowledgement ≡ true
      → is_empty (carried_of by_end.packet.number (journal_of history) (side_of station)) ≡ false
      → by_end.packet.payload
      ≡ payload_made (end_before end.end) (carried_of by_end.packet.number (journal_of history) (side_of station))
