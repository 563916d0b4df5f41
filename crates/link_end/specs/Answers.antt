-- What a packet that an end receives does to its procedures (Core 5.2, volume 6 part B, sections 4.5.9 and 5.1).
use Rattle.std.specs.Prelude.{ℕ, ◌&&◌, Bool, List, Option, Some, None}
use Rattle.ble_base.specs.declared.procedure_kinds.Kind.{Kind}
use Rattle.ble_base.specs.declared.roles.Role.{Role}
use Rattle.data_pdu.specs.declared.header.DataHeader.{DataHeader}
use Rattle.data_pdu.specs.Header.{header_in}
use Rattle.control_end.specs.declared.answers.Taken.{Taken}
use Rattle.control_end.specs.Answers.{nothing_taken}
use Rattle.link_model.specs.Setup.{Setup}
use Rattle.link_model.specs.Acknowledgement.{Pdu}
use Rattle.link_model.specs.Verdicts.{pdu_of}
use Rattle.link_model.specs.Facts.{Facts}
use Rattle.link_model.specs.Controls.{is_procedure_pdu}
use Rattle.link_model.specs.Packets.{good_pdu}
use Rattle.link_model.specs.Receiving.{accepts, acked_kind, acks_control, facts_before_taking, given_if, has_acknowledged, kept_given_if}

-- the procedure of this end that the acknowledgement completes
abbrev pub acked_received : Option (List ℕ) → Facts → Option Kind
acked_received None facts = None
acked_received (Some pdu) facts =
    acked_kind (acks_control (has_acknowledged facts (header_in pdu)) facts) facts

-- the procedure of this end that octets on its channel complete, by what they acknowledge
unfoldable pub acked_of : Setup → Facts → List ℕ → Option Kind
acked_of setup facts octets = acked_received (good_pdu setup facts octets) facts

-- what the procedures give for its PDU, where that is a control PDU that is taken
abbrev pub given_hearing : Role → ℕ → Bool → DataHeader → Pdu → Facts → Taken
given_hearing role slot room header pdu facts =
    let now = facts_before_taking role slot header facts in
    given_if (accepts room header pdu now && is_procedure_pdu pdu) pdu slot now

-- and nothing for octets that are no good packet
abbrev pub given_received : Role → ℕ → Bool → Option (List ℕ) → Facts → Taken
given_received role slot room None facts = nothing_taken
given_received role slot room (Some pdu) facts = given_hearing role slot room (header_in pdu) (pdu_of pdu) facts

-- what the procedures give for the PDU in octets on its channel
unfoldable pub given_of : Setup → Facts → ℕ → List ℕ → Bool → Taken
given_of setup facts slot octets room = given_received setup.link.role slot room (good_pdu setup facts octets) facts

-- what they give for one that was kept until that PDU
abbrev pub kept_given_hearing : Role → ℕ → Bool → DataHeader → Pdu → Facts → Taken
kept_given_hearing role slot room header pdu facts =
    let now = facts_before_taking role slot header facts in
    kept_given_if (accepts room header pdu now && is_procedure_pdu pdu) pdu slot now

abbrev pub kept_given_received : Role → ℕ → Bool → Option (List ℕ) → Facts → Taken
kept_given_received role slot room None facts = nothing_taken
kept_given_received role slot room (Some pdu) facts =
    kept_given_hearing role slot room (header_in pdu) (pdu_of pdu) facts

unfoldable pub kept_given_of : Setup → Facts → ℕ → List ℕ → Bool → Taken
kept_given_of setup facts slot octets room =
    kept_given_received setup.link.role slot room (good_pdu setup facts octets) facts
