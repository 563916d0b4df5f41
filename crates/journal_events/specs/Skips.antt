-- Which events of a link an end skips, from the lines of a journal alone: those after an event in which it heard a good
-- packet, up to the latency that is in force in the event, while it is idle (Core 5.2, volume 6 part B, section 4.5.1;
-- that it always does so, and when it is idle, is our choice).
use Rattle.std.specs.Prelude.{ℕ, ◌+◌, ◌==◌, ◌&&◌, ◌||◌, nat_le, nat_lt, not, Bool, false, List, Option, Some, None}
use Rattle.ble_base.specs.declared.roles.Role.{Role}
use Rattle.ble_base.specs.declared.roles.Role.TheVariants.{Central, Peripheral}
use Rattle.ble_base.specs.declared.roles.Side.{Side}
use Rattle.instants.specs.Track.{is_free}
use Rattle.journal.specs.declared.entries.Entry.{Entry}
use Rattle.journal_sending.specs.Outgoing.{octets_wait}
use Rattle.journal_sending.specs.journal_leaving.journal_acks.Carried.{carried_of}
use Rattle.journal_sending.specs.journal_leaving.journal_acks.Exchange.{Exchanged, exchange_of}
use Rattle.journal_sending.specs.journal_leaving.journal_controls.LineSteps.{keyed_on}
use Rattle.journal_sending.specs.journal_leaving.journal_controls.journal_ends.Asked.{Words}
use Rattle.journal_sending.specs.journal_leaving.journal_controls.link_model.Acknowledgement.{Pdu}
use Rattle.journal_sending.specs.journal_leaving.journal_controls.link_model.Data.{is_empty}
use Rattle.journal_sending.specs.journal_leaving.journal_controls.link_model.control_model.Control.{Control}
use Rattle.journal_sending.specs.journal_leaving.journal_controls.link_model.keyed_control.Keyed.{Keyed}
use Rattle.journal_sending.specs.journal_leaving.journal_controls.link_model.procedure_stages.InProgress.{is_busy}
use Rattle.journal_sending.specs.journal_leaving.journal_controls.link_model.procedure_stages.Queue.{waiting_in}
use Rattle.journal_sending.specs.journal_leaving.journal_data.Delivered.{host_buffers}
use Rattle.journal_sending.specs.journal_leaving.journal_data.Lines.{lines_of}
use Rattle.journal_sending.specs.journal_leaving.journal_links.Begun.{LinkBegun, link_numbered}
use Rattle.journal_sending.specs.journal_leaving.journal_links.Changes.{role_on}
use Rattle.journal_events.specs.EventLines.{EventLines, event_on}

-- ---- it is idle

-- no PDU with a payload is out: all that the end sent are acknowledged, or the last one is empty
abbrev pub none_is_out : Exchanged → Pdu → Bool
none_is_out exchanged last = (exchanged.acked == exchanged.sent) || is_empty last

-- no control PDU waits, also none that may not go yet, no procedure is in progress, and no indication waits for its event
abbrev pub control_is_idle : Control → Bool
control_is_idle control =
    (waiting_in control.table.queue == 0) && (not (is_busy control.table.progress) && is_free control.track)

abbrev pub keyed_is_idle : Option Keyed → Bool
keyed_is_idle None = false
keyed_is_idle (Some k) = control_is_idle k.phased.control

abbrev pub is_idle_on : Words → Side → ℕ → List Entry → Bool
is_idle_on words side number front =
    none_is_out (exchange_of number front side) (carried_of number front side)
    && not (octets_wait number (lines_of host_buffers side front)) && keyed_is_idle (keyed_on words side number front)

-- ---- it skips an event

-- a good packet was heard in an earlier event, not more events before this one than the latency in force in it
abbrev pub is_recent : Option ℕ → (event latency : ℕ) → Bool
is_recent None event latency = false
is_recent (Some heard) event latency = nat_lt heard event && nat_le event (heard + latency)

-- a central skips none
abbrev pub skips_by : Role → EventLines → Bool → Bool
skips_by Central event idle = false
skips_by Peripheral event idle = is_recent event.last_heard event.number event.latency && idle

abbrev pub skips_with : Option LinkBegun → Side → EventLines → Bool → Bool
skips_with None side event idle = false
skips_with (Some link) side event idle = skips_by (role_on link side) event idle

-- a side skips the event of the link with this number that it enters in the last of these lines
abbrev pub is_skipped : Words → Side → ℕ → List Entry → Bool
is_skipped words side number front =
    skips_with (link_numbered number front) side (event_on words side number front) (is_idle_on words side number front)
