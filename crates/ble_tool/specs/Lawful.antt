-- What is said of the journals that the program writes, beyond that they are those of its runs (our choice).
use Rattle.journal_pdus.specs.Lawful.{IsLawful, IsWhole}
use Rattle.journal_pdus.specs.Undelivered.{IsUndelivered}
use Rattle.program.specs.Claims.{Claims}
use Rattle.ble_tool.specs.Counts.{load_line}

-- each is lawful: it follows the schedule; links are those of their CONNECT_INDs, and each PDU goes out and is taken as
-- it is due; after each of its lines, on each link, what the host of one side received is the first octets of what the
-- host of the other submitted, and no packet is reported as complete that the other side did not accept whole
abbrev pub lawful : Claims
lawful = record {
  each = IsLawful;
  -- all turns begin, and at the end nothing waits for a host that could take it
  whole = IsWhole;
  -- the packet at which damage ends a run is the one that is due next
  ended = IsUndelivered;
  line_on = load_line;
}
