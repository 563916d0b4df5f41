-- Ends and PDUs of worked examples.
use Rattle.std.specs.Prelude.{ℕ, List, [], ◌∷◌, ◌++◌}
use Rattle.ble_base.specs.declared.roles.Role.{Role}
use Rattle.ble_base.specs.declared.roles.Side.TheVariants.{B}
use Rattle.ble_base.specs.declared.verdicts.Verdict.TheVariants.{Missed}
use Rattle.journal.specs.declared.entries.Entry.{Entry}
use Rattle.journal.specs.declared.entries.Entry.TheVariants.{Air}
use Rattle.journal.specs.declared.entries.Mark.TheVariants.{Lost as WasLost}
use Rattle.journal_controls.specs.Rows.{begun_on}
use Rattle.journal_controls.specs.journal_acks.Exchange.{Exchanged}
use Rattle.journal_controls.specs.journal_acks.Rows.{data_packet, data_sent}
use Rattle.journal_controls.specs.link_model.Acknowledgement.{Pdu}
use Rattle.journal_controls.specs.link_model.enc_phase.Sealing.{EncEnd, end_with}
use Rattle.journal_controls.specs.link_model.enc_phase.declared.facts.PhaseFacts.TheVariants.{HalfKeyed, Secure}
use Rattle.journal_controls.specs.link_model.keyed_control.Keyed.{Keyed}

-- LL_START_ENC_REQ and LL_START_ENC_RSP (sections 2.4.2.6 and 2.4.2.7)
abbrev pub start_enc_req : Pdu
start_enc_req = record { llid = 3; body = 0x05 ∷ [] }

abbrev pub start_enc_rsp : Pdu
start_enc_rsp = record { llid = 3; body = 0x06 ∷ [] }

-- an end as LL_START_ENC_REQ was sent or taken, and before LL_START_ENC_RSP of the central
abbrev pub starting : Role → EncEnd
starting role = end_with role HalfKeyed [] [] 0 0

-- such an end with its procedures as its link begins
abbrev pub begun : Role → Keyed
begun role = record (begun_on role) { end = starting role }

-- the octets of LL_START_ENC_RSP in clear, and of an empty PDU, with SN 1, NESN 1 and MD 0
abbrev pub start_enc_rsp_octets : List ℕ
start_enc_rsp_octets = 0x0F ∷ 0x01 ∷ 0x06 ∷ []

abbrev pub empty_octets : List ℕ
empty_octets = 0x0D ∷ 0x00 ∷ []

-- an end that accepted one PDU, and then the next one
abbrev pub one_each : Exchanged
one_each = record { sent = 1; accepted = 1; acked = 1 }

abbrev pub two_taken : Exchanged
two_taken = record { sent = 1; accepted = 2; acked = 1 }

-- the first packet of a PDU of data of the central is lost
abbrev pub data_lost : List Entry
data_lost = data_sent ++ Air B 25 data_packet WasLost Missed ∷ []

-- ends in phase Secure, with a session key of which an example needs only that it differs from another
abbrev pub secured_as : Role → ℕ → Keyed
secured_as role octet = record (begun_on role) { end = end_with role Secure (octet ∷ []) [] 0 0 }

-- the octets of a PDU of one octet that is sealed, with SN 1, NESN 1 and MD 0, and a payload of five octets
abbrev pub sealed_octets : List ℕ
sealed_octets = 0x0E ∷ 0x05 ∷ 0x00 ∷ 0x00 ∷ 0x00 ∷ 0x00 ∷ 0x00 ∷ []
