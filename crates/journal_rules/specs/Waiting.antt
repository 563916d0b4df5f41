-- MD of a packet of a link: it is 1 exactly where something waited, as the turn began, after the PDU that the packet carries
-- (Core 5.2, volume 6 part B, section 4.5.6; what counts, and that it is looked at as the turn begins, is our choice).
use Rattle.std.specs.Prelude.{◌≡◌, ℕ, ◌-◌, ◌&&◌, ◌||◌, nat_lt, not, Bool, false, List, ◌∷◌, ◌++◌, length, take, Some, if◌then◌else◌}
use Rattle.acl_banks.specs.History.{octets_of}
use Rattle.ble_base.specs.declared.roles.Side.{Side}
use Rattle.ble_base.specs.declared.verdicts.Verdict.{Verdict}
use Rattle.journal.specs.declared.entries.Entry.{Entry}
use Rattle.journal.specs.declared.entries.Entry.TheVariants.{Air}
use Rattle.journal.specs.declared.entries.Mark.{Mark}
pub use Rattle.journal_events.specs.journal_sending.Announced.{AllGoOutAtOnce}
pub use Rattle.journal_events.specs.journal_sending.NextPdus.{AllNewPdusAreNext}
use Rattle.journal_events.specs.journal_sending.Outgoing.{data_of_lines}
pub use Rattle.journal_events.specs.journal_sending.Resting.{AllAreAtRest}
pub use Rattle.journal_events.specs.journal_sending.WhatWaits.{AllTellWhatWaits}
use Rattle.journal_events.specs.journal_sending.WhatWaits.{is_next_new}
pub use Rattle.journal_events.specs.journal_sending.journal_data.Delivered.{host_buffers}
use Rattle.journal_events.specs.journal_sending.journal_data.Lines.{Lines, PduLine, data_on, pdus_on}
pub use Rattle.journal_events.specs.journal_sending.journal_data.Lines.{lines_of}
use Rattle.journal_events.specs.journal_sending.journal_fixing.NextPdu.{is_last_of_all, lets_data_go}
pub use Rattle.journal_events.specs.journal_sending.journal_fixing.OnLines.{control_fixing, is_fixed}
use Rattle.journal_events.specs.journal_sending.journal_fixing.journal_controls.KeyedLines.{has_next}
pub use Rattle.journal_events.specs.journal_sending.journal_fixing.journal_controls.journal_ends.Asked.{Words}
pub use Rattle.journal_events.specs.journal_sending.journal_fixing.link_model.Acknowledgement.{Pdu}
use Rattle.journal_events.specs.journal_sending.journal_fixing.link_model.Data.{is_control, is_empty}
pub use Rattle.journal_events.specs.journal_sending.journal_fixing.link_model.keyed_control.Keyed.{Keyed}
use Rattle.journal_events.specs.journal_sending.journal_fixing.link_model.phased_control.Phased.{is_quiet_now}
use Rattle.journal_events.specs.journal_sending.journal_fixing.link_model.procedure_stages.Queue.{waiting_in}
use Rattle.journal_events.specs.journal_sending.journal_acks.Carried.{IsLinkPacket, carried_of}
use Rattle.journal_events.specs.journal_sending.run_model.Links.{is_advertising}

-- ---- what a packet carries

pub data Carries : Type 0 where
  -- for the first time
  NewControl : Carries
  NewData : Carries
  NewEmpty : Carries
  -- a PDU that is sent again; and LL_TERMINATE_IND, where the host has ended the link and nothing follows
  Again : Carries
  LastAgain : Carries

abbrev pub carries_new : Pdu → Carries
carries_new pdu = if is_empty pdu then NewEmpty else if is_control pdu then NewControl else NewData

abbrev pub carries : (is_new is_last : Bool) → Pdu → Carries
carries is_new is_last pdu = if is_new then carries_new pdu else if is_last then LastAgain else Again

-- ---- what waited as the turn began

pub record Waited : Type 0 where
  -- how many control PDUs were in the queue, and that one of them might go
  pub controls : ℕ
  pub may_go : Bool
  -- how many octets of data the host had submitted that no PDU before had
  pub octets : ℕ
  -- the phase was Clear or Secure, and data might go
  pub quiet : Bool
  pub data_goes : Bool

-- something waits after a PDU with a body of this length: after a new control PDU another one, also one that may not go yet,
-- or data in phase Clear or Secure; after new data, more octets than it has; after a PDU that is sent again, one that may go;
-- and after the last PDU of all a control PDU, or data in phase Clear or Secure, though neither goes
abbrev pub waits_after : Carries → ℕ → Waited → Bool
waits_after NewControl size waited = nat_lt 1 waited.controls || (waited.quiet && nat_lt 0 waited.octets)
waits_after NewData size waited = nat_lt size waited.octets
waits_after NewEmpty size waited = false
waits_after Again size waited = waited.may_go || (waited.data_goes && nat_lt 0 waited.octets)
waits_after LastAgain size waited = nat_lt 0 waited.controls || (waited.quiet && nat_lt 0 waited.octets)

-- ---- by the lines before a packet

-- the PDUs that a side sent before the one in its packet: all, but for that one itself where the packet is its first
abbrev pub pdus_before : Bool → List PduLine → List PduLine
pdus_before is_first pdus = if is_first then take (length pdus - 1) pdus else pdus

-- how many octets of its host none of them had
abbrev pub octets_left : ℕ → Bool → Lines → ℕ
octets_left number is_first lines =
    length (octets_of (data_on number lines)) - length (data_of_lines (pdus_before is_first (pdus_on number lines.sent)))

abbrev pub waited_by : Keyed → ℕ → Waited
waited_by fixing octets = record {
  controls = waiting_in fixing.phased.control.table.queue;
  may_go = has_next fixing;
  octets = octets;
  quiet = is_quiet_now fixing.phased;
  data_goes = lets_data_go fixing;
}

-- MD with this PDU, new or not, of an end that was like this as the turn began
abbrev pub md_with : Bool → Pdu → Keyed → Lines → ℕ → Bool
md_with is_new pdu fixing lines number =
    waits_after (carries is_new (is_last_of_all fixing pdu) pdu) (length pdu.body)
    (waited_by fixing (octets_left number (is_new && not (is_empty pdu)) lines))

-- in a packet that a side sends after these entries
abbrev pub md_due : ℕ → List Entry → Side → Keyed → Bool
md_due number front side fixing =
    md_with (is_next_new number front side) (carried_of number front side) fixing (lines_of host_buffers side front)
    number

pub record TellsInWords (words : Words) (front : List Entry) (side : Side) (channel : ℕ) (octets : List ℕ) : Type 0 where
  pub packet : IsLinkPacket front side channel octets
  pub fixing : Keyed
  pub fixing_is : control_fixing words side packet.number front ≡ Some fixing
  pub more : packet.md ≡ md_due packet.number front side fixing

-- so it is with each packet of a link in a journal
abbrev pub AllTellInWords : Words → List Entry → Type 0
AllTellInWords words journal = (front rest : List Entry) (side : Side) (channel : ℕ) (octets : List ℕ) (fate : Mark)
    (verdict : Verdict) → journal ≡ front ++ Air side channel octets fate verdict ∷ rest
    → is_advertising channel ≡ false → TellsInWords words front side channel octets
