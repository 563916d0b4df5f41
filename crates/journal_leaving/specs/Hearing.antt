-- How an end is to leave its link as a packet reaches it, before it looks at the PDU in it (Core 5.2, volume 6 part B,
-- section 4.5.9).
use Rattle.std.specs.Prelude.{ℕ, Bool, true, false, List, Option, Some, None}
use Rattle.ble_base.specs.declared.roles.Role.{Role}
use Rattle.journal_controls.specs.controller_model.Facts.{Facts as StationFacts}
use Rattle.journal_controls.specs.controller_model.Step.{Step as Call, PacketHeard}
use Rattle.data_pdu.specs.Header.{header_in}
use Rattle.journal_controls.specs.journal_acks.Exchange.{is_number}
use Rattle.journal_controls.specs.journal_ends.run_laws.Ends.{link_listened}
use Rattle.journal_controls.specs.link_model.Facts.{Facts}
use Rattle.journal_controls.specs.link_model.Packets.{good_pdu}
use Rattle.journal_controls.specs.link_model.Receiving.{facts_before_taking}
use Rattle.journal_controls.specs.link_model.declared.state.Leaving.{Leaving}
use Rattle.journal_controls.specs.open_links.OpenLinks.{OpenLink, facts_in}

-- a good packet may acknowledge LL_TERMINATE_IND
abbrev pub leaving_hearing : Role → ℕ → Option (List ℕ) → Facts → Leaving
leaving_hearing role slot None facts = facts.leaving
leaving_hearing role slot (Some pdu) facts = (facts_before_taking role slot (header_in pdu) facts).leaving

-- the end listens, or does not
abbrev pub leaving_if : Bool → ℕ → List ℕ → OpenLink → Leaving
leaving_if true slot octets link =
    leaving_hearing link.setup.link.role slot (good_pdu link.setup (facts_in link) octets) (facts_in link)
leaving_if false slot octets link = (facts_in link).leaving

-- by the call that comes next, of the link under this handle
abbrev pub leaving_next : ℕ → StationFacts → Call → OpenLink → Leaving
leaving_next handle facts (PacketHeard octets) link =
    leaving_if (is_number (link_listened facts.turn.doing) handle) facts.turn.slot octets link
leaving_next handle facts call link = (facts_in link).leaving
