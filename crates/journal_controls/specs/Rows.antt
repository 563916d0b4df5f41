-- The journals of worked examples, and the ends of their link as it begins.
use Rattle.std.specs.Prelude.{List, [], ◌∷◌, ◌++◌}
use Rattle.ble_base.specs.declared.roles.Role.{Role}
use Rattle.ble_base.specs.declared.roles.Role.TheVariants.{Central}
use Rattle.ble_base.specs.declared.roles.Side.TheVariants.{A, B}
use Rattle.journal.specs.declared.entries.Entry.{Entry}
use Rattle.journal.specs.declared.entries.Entry.TheVariants.{Fed, Sent, Took, Up}
use Rattle.host_masks.specs.Rows.{masking_octets}
use Rattle.journal_ends.specs.journal_acks.Rows.{second_slot}
use Rattle.journal_ends.specs.link_model.Acknowledgement.{Pdu}
use Rattle.journal_ends.specs.link_model.control_model.Control.{Asks, Control, after, first_control}
use Rattle.journal_ends.specs.link_model.enc_phase.declared.facts.PhaseFacts.TheVariants.{Secure}
use Rattle.journal_ends.specs.link_model.enc_phase.Sealing.{end_with}
use Rattle.journal_ends.specs.link_model.keyed_control.Keyed.{Keyed, first_keyed}
use Rattle.journal_ends.specs.link_model.enc_phase.declared.facts.PhaseFacts.TheVariants.{Secure}
use Rattle.journal_ends.specs.link_model.enc_phase.Sealing.{end_with}
use Rattle.journal_ends.specs.link_model.keyed_control.KeyedSteps.{Asks as KeyedAsks, keyed_after}
use Rattle.journal_ends.specs.link_model.procedure_values.declared.asks.Ask.TheVariants.{Version}
use Rattle.journal_ends.specs.run_model.Rows.{answer, reset_answer}

-- an end of the link in one_connection_journal, as it begins: an interval of 24 slots, no latency, a timeout of 720 ms
-- and all channels; event 0 is in turn 2
abbrev pub first_on : Role → Control
first_on role =
    first_control role 251 (record { interval = 24; latency = 0; timeout = 72; map = 0x1FFFFFFFFF }) 2

abbrev pub begun_on : Role → Keyed
begun_on role =
    first_keyed role 251 (record { interval = 24; latency = 0; timeout = 72; map = 0x1FFFFFFFFF }) 2

-- LL_VERSION_IND of version 5.2, with the company identifier FFFF (Core 5.2, volume 6 part B, section 2.4.2.13)
abbrev pub version_pdu : Pdu
version_pdu = record { llid = 3; body = 0x0C ∷ 0x0B ∷ 0xFF ∷ 0xFF ∷ 0x00 ∷ 0x00 ∷ [] }

-- the central sends it in turn 3
abbrev pub version_sent : List Entry
version_sent = second_slot ++ Sent B 1 1 version_pdu.llid version_pdu.body ∷ []

-- the peripheral takes it
abbrev pub version_taken : List Entry
version_taken = version_sent ++ Took A 1 1 version_pdu.llid version_pdu.body ∷ []

-- LL_CONNECTION_PARAM_REQ for an interval of 48 slots, no latency and a timeout of 720 ms, without offsets (section
-- 2.4.2.16)
abbrev pub param_pdu : Pdu
param_pdu = record {
  llid = 3;
  body =
      0x0F ∷ 0x30 ∷ 0x00 ∷ 0x30 ∷ 0x00 ∷ 0x00 ∷ 0x00 ∷ 0x48 ∷ 0x00 ∷ 0x00 ∷ 0x00 ∷ 0x00
      ∷ 0xFF ∷ 0xFF ∷ 0xFF ∷ 0xFF ∷ 0xFF ∷ 0xFF ∷ 0xFF ∷ 0xFF ∷ 0xFF ∷ 0xFF ∷ 0xFF ∷ 0xFF ∷ [];
}

-- the central takes it in turn 3
abbrev pub param_taken : List Entry
param_taken = second_slot ++ Took B 1 1 param_pdu.llid param_pdu.body ∷ []

-- before it its host lets the event of such a request through
abbrev pub param_told : List Entry
param_told =
    Fed B masking_octets ∷ Up B reset_answer ∷ Up B (answer 0x01 0x0C) ∷ Up B (answer 0x01 0x20) ∷ param_taken

-- the control part of the central, of which the host has asked for an exchange of versions
abbrev pub version_wanted : Control
version_wanted = after (Asks Version) (first_on Central)

-- the central itself
abbrev pub version_asked : Keyed
version_asked = keyed_after (KeyedAsks Version) (begun_on Central)

-- it is in phase Secure, and has sealed and opened nothing yet
abbrev pub secured : Keyed
secured =
    let k = begun_on Central in
    record k { phased = record k.phased { phase = Secure }; end = end_with Central Secure [] [] 0 0 }

-- the start of a message, of one octet
abbrev pub one_octet : Pdu
one_octet = record { llid = 2; body = 0x01 ∷ [] }
