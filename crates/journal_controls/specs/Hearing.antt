-- An end as a packet reaches it, before it looks at the PDU in it (Core 5.2, volume 6 part B, section 4.5.9).
use Rattle.std.specs.Prelude.{ℕ, Bool, true, false, List, Option, Some, None, if◌then◌else◌}
use Rattle.ble_base.specs.declared.roles.Role.{Role}
use Rattle.journal_ends.specs.controller_model.Facts.{Facts as StationFacts}
use Rattle.journal_ends.specs.controller_model.Step.{Step as Call, PacketHeard}
use Rattle.data_pdu.specs.Header.{header_in}
use Rattle.journal_ends.specs.journal_acks.Exchange.{is_number}
use Rattle.journal_ends.specs.link_model.Facts.{Facts, keyed_of}
use Rattle.journal_ends.specs.link_model.Packets.{good_pdu, is_forged}
use Rattle.journal_ends.specs.link_model.Receiving.{facts_before_taking}
use Rattle.journal_ends.specs.link_model.control_model.Control.{Control}
use Rattle.journal_ends.specs.link_model.keyed_control.Keyed.{Keyed}
use Rattle.journal_ends.specs.open_links.OpenLinks.{OpenLink, facts_in}
use Rattle.journal_ends.specs.run_laws.Ends.{link_listened}
use Rattle.journal_controls.specs.KeyedLines.{keyed_forged}

-- a good packet may acknowledge the last control PDU, and then a control PDU that waits at a peripheral leaves the queue
abbrev pub keyed_hearing : Role → ℕ → Option (List ℕ) → Facts → Keyed
keyed_hearing role slot None facts = keyed_of facts
keyed_hearing role slot (Some pdu) facts = keyed_of (facts_before_taking role slot (header_in pdu) facts)

-- a forged packet ends the link (section 5.1.3.1)
abbrev pub keyed_forged_if : Bool → Keyed → Keyed
keyed_forged_if forged k = if forged then keyed_forged k else k

-- the end listens, or does not
abbrev pub keyed_if : Bool → ℕ → List ℕ → OpenLink → Keyed
keyed_if true slot octets link =
    keyed_forged_if (is_forged link.setup (facts_in link) octets)
    (keyed_hearing link.setup.link.role slot (good_pdu link.setup (facts_in link) octets) (facts_in link))
keyed_if false slot octets link = keyed_of (facts_in link)

-- by the call that comes next, of the link under this handle
abbrev pub keyed_next : ℕ → StationFacts → Call → OpenLink → Keyed
keyed_next handle facts (PacketHeard octets) link =
    keyed_if (is_number (link_listened facts.turn.doing) handle) facts.turn.slot octets link
keyed_next handle facts call link = keyed_of (facts_in link)

-- ---- its control part

abbrev pub control_hearing : Role → ℕ → Option (List ℕ) → Facts → Control
control_hearing role slot pdu facts = (keyed_hearing role slot pdu facts).phased.control

abbrev pub control_next : ℕ → StationFacts → Call → OpenLink → Control
control_next handle facts call link = (keyed_next handle facts call link).phased.control
