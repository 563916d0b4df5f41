-- Whether a peripheral draws random words as it takes a packet (Core 5.2, volume 6 part B, section 5.1.3.1; in which step it
-- draws them is our choice).
use Rattle.std.specs.Prelude.{ℕ, ◌&&◌, Bool, false, List, Option, Some, None, is_none}
use Rattle.ble_base.specs.declared.roles.Role.{Role}
use Rattle.ble_base.specs.declared.roles.Role.TheVariants.{Central, Peripheral}
use Rattle.data_pdu.specs.declared.header.DataHeader.{DataHeader}
use Rattle.data_pdu.specs.Header.{header_in}
use Rattle.phased_end.specs.enc_phase.declared.facts.Transition.TheVariants.{Ask}
use Rattle.phased_end.specs.enc_phase.Phases.{may_follow}
use Rattle.phased_end.specs.control_end.procedure_stages.Closing.{is_open}
use Rattle.unencrypted_ends.specs.Unencrypted.{is_enc_req}
use Rattle.link_model.specs.Setup.{Setup}
use Rattle.link_model.specs.Acknowledgement.{Pdu}
use Rattle.link_model.specs.Verdicts.{pdu_of}
use Rattle.link_model.specs.Facts.{Facts}
use Rattle.link_model.specs.Controls.{is_procedure_pdu, read_of}
use Rattle.link_model.specs.Packets.{good_pdu}
use Rattle.link_model.specs.Receiving.{accepts, control_taken, facts_before_taking, is_seen}

-- only a peripheral that asks its host for a key answers LL_ENC_REQ
abbrev pub may_answer : Role → Facts → Bool
may_answer Central facts = false
may_answer Peripheral facts = may_follow Ask facts.encryption.phase && is_open facts.control.table.closing

-- it takes LL_ENC_REQ and answers it with LL_ENC_RSP
abbrev pub draws_taking : Role → Pdu → ℕ → Facts → Bool
draws_taking role pdu slot facts =
    is_enc_req (read_of pdu) && (may_answer role facts && (is_seen pdu facts && is_none (control_taken pdu slot facts).ends))

abbrev pub draws_hearing : Role → ℕ → Bool → DataHeader → Pdu → Facts → Bool
draws_hearing role slot room header pdu facts =
    let now = facts_before_taking role slot header facts in
    (accepts room header pdu now && is_procedure_pdu pdu) && draws_taking role pdu slot now

abbrev pub draws_received : Role → ℕ → Bool → Option (List ℕ) → Facts → Bool
draws_received role slot room None facts = false
draws_received role slot room (Some pdu) facts = draws_hearing role slot room (header_in pdu) (pdu_of pdu) facts

unfoldable pub draws_of : Setup → Facts → ℕ → List ℕ → Bool → Bool
draws_of setup facts slot octets room =
    draws_received setup.link.role slot room (good_pdu setup facts octets) facts
