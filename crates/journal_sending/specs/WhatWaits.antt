-- MD of each packet of a link tells whether more waits by the lines before it (Core 5.2, volume 6 part B, section
-- 4.5.6; what counts, and when it is looked at, is our choice).
use Rattle.std.specs.Prelude.{◌≡◌, ℕ, ◌==◌, ◌&&◌, ◌||◌, Bool, true, false, List, ◌∷◌, ◌++◌, Some, if◌then◌else◌}
use Rattle.ble_base.specs.declared.roles.Side.{Side}
use Rattle.ble_base.specs.declared.verdicts.Verdict.{Verdict}
use Rattle.journal.specs.declared.entries.Entry.{Entry}
use Rattle.journal.specs.declared.entries.Entry.TheVariants.{Air}
use Rattle.journal.specs.declared.entries.Mark.{Mark}
use Rattle.journal_leaving.specs.journal_data.Delivered.{host_buffers}
use Rattle.journal_leaving.specs.journal_data.Lines.{lines_of}
use Rattle.journal_leaving.specs.journal_acks.Carried.{IsLinkPacket, carried_of}
use Rattle.journal_leaving.specs.journal_acks.Exchange.{exchange_of}
use Rattle.journal_leaving.specs.link_model.Acknowledgement.{Pdu}
use Rattle.journal_leaving.specs.link_model.Data.{is_empty}
use Rattle.journal_leaving.specs.run_model.Links.{is_advertising}
use Rattle.journal_fixing.specs.NextPdu.{lets_data_go, more_with_new, more_with_old}
use Rattle.journal_fixing.specs.OnLines.{control_fixing}
use Rattle.journal_fixing.specs.journal_controls.journal_ends.Asked.{Words}
use Rattle.journal_fixing.specs.journal_controls.KeyedLines.{has_next}
use Rattle.journal_fixing.specs.link_model.keyed_control.Keyed.{Keyed}
use Rattle.journal_sending.specs.Outgoing.{octets_wait}

-- all PDUs of a side before the one that it sends next are acknowledged, so that this one is new
abbrev pub is_next_new : ℕ → List Entry → Side → Bool
is_next_new link front side = (exchange_of link front side).acked == (exchange_of link front side).sent

-- MD with a new PDU, or with this one that is sent again: by the end as the turn began, and by whether octets of data
-- wait. What the end takes in the turn changes nothing of it
abbrev pub tells_more : Bool → Keyed → Pdu → Bool → Bool
tells_more is_new fixing last octets = if is_new then more_with_new fixing octets else more_with_old fixing last octets

-- a new PDU is not empty: a control PDU waited as it was fixed, or octets of data that may go
abbrev pub has_payload_next : Keyed → Bool → Bool
has_payload_next fixing octets = has_next fixing || (lets_data_go fixing && octets)

-- MD in a packet that a side sends after these entries says whether more waits; and it carries an empty PDU as a new
-- one only where nothing is to go
pub record TellsWhatWaits (words : Words) (front : List Entry) (side : Side) (channel : ℕ) (octets : List ℕ) : Type 0 where
  pub packet : IsLinkPacket front side channel octets
  pub fixing : Keyed
  pub fixing_is : control_fixing words side packet.number front ≡ Some fixing
  pub more : packet.md
      ≡ tells_more (is_next_new packet.number front side) fixing (carried_of packet.number front side)
      (octets_wait packet.number (lines_of host_buffers side front))
  pub empty_last : is_next_new packet.number front side ≡ true
      → is_empty (carried_of packet.number front side) ≡ true
      → has_payload_next fixing (octets_wait packet.number (lines_of host_buffers side front)) ≡ false

-- so does each packet of a link in a journal
abbrev pub AllTellWhatWaits : Words → List Entry → Type 0
AllTellWhatWaits words journal = (front rest : List Entry) (side : Side) (channel : ℕ) (octets : List ℕ) (fate : Mark)
    (verdict : Verdict) → journal ≡ front ++ Air side channel octets fate verdict ∷ rest
    → is_advertising channel ≡ false → TellsWhatWaits words front side channel octets
