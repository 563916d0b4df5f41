-- The verdict of an end on a packet that it hears whole is the one that the lines give.
use Rattle.std.proofs.Common.{◌≡◌, ℕ, ◌&&◌, not, Bool, true, false, is_none, Some, List, drop, refl, sym, ap, ◌∙◌, if◌then◌else◌}
use Rattle.std.proofs.lemmas.Slice.Eq.{bytes_eq-Decides}
use Rattle.ack_bit.specs.AckBits.{AckBits, is_new, is_odd}
use Rattle.air_frame.specs.Hearing.{heard_in}
use Rattle.air_frame.specs.declared.Heard.{Heard}
use Rattle.air_frame.specs.declared.Heard.TheVariants.{NotOurs, Broken as Faulty, Whole}
use Rattle.ble_base.specs.Side.{other_side}
use Rattle.ble_base.specs.declared.roles.Side.{Side}
use Rattle.ble_base.specs.declared.verdicts.Verdict.{Verdict}
use Rattle.ble_base.specs.declared.verdicts.Verdict.TheVariants.{Broken, Forged, Good}
use Rattle.data_pdu.specs.Header.{header_in}
use Rattle.journal.specs.declared.entries.Entry.{Entry}
use Rattle.journal.specs.declared.entries.Mark.{Mark}
use Rattle.journal_controls.specs.LineSteps.{keyed_on}
use Rattle.journal_controls.specs.journal_acks.Carried.{bits_of}
use Rattle.journal_controls.specs.journal_acks.Counted.{IsCounted}
use Rattle.journal_controls.specs.journal_acks.Exchange.{Exchanged, exchange_of}
use Rattle.journal_controls.specs.journal_acks.HeardBy.{IsHeardLine}
use Rattle.journal_controls.specs.journal_ends.Asked.{Words}
use Rattle.journal_controls.specs.journal_ends.Left.{left_of}
use Rattle.journal_controls.specs.journal_links.Begun.{link_numbered}
use Rattle.journal_controls.specs.journal_packets.Belonging.{link_of_packet}
use Rattle.journal_controls.specs.link_model.Acknowledgement.{Acknowledgement, bits_of as end_bits}
use Rattle.journal_controls.specs.link_model.Data.{is_empty}
use Rattle.journal_controls.specs.link_model.Facts.{Facts, keyed_of}
use Rattle.journal_controls.specs.link_model.Packets.{counts_here, heard_of, is_forged_pdu, verdict_of}
use Rattle.journal_controls.specs.link_model.Payload.{first_octet, opened_if, opens_now, read_pdu}
use Rattle.journal_controls.specs.link_model.Setup.{Setup}
use Rattle.journal_controls.specs.link_model.Verdicts.{has_room_for, pdu_of, verdict_by}
use Rattle.journal_controls.specs.link_model.enc_phase.Sealing.{EncEnd, is_right}
use Rattle.journal_controls.specs.open_links.OpenLinks.{facts_in}
use Rattle.journal_controls.specs.run_model.History.{is_handed}
use Rattle.journal_controls.specs.run_model.Journal.{journal_of, side_of}
use Rattle.journal_controls.specs.run_model.Run.{Given}
use Rattle.journal_controls.proofs.journal_ends.ForgedLinks.{left_is}
use Rattle.radio_replay.specs.Damage.{damaged_packet}
use Rattle.journal_sealing.specs.Forged.{counts_by, is_forged_for, is_wrong, is_wrong_in, is_wrong_on}
use Rattle.journal_sealing.specs.Judged.{IsJudgedByLines}

-- ---- an end

none_read : (counts right : Bool) (end : EncEnd) (pdu : List ℕ) → is_right end (first_octet pdu) (drop 2 pdu) ≡ right
    → is_none (read_pdu counts end pdu) ≡ (counts && not right)
none_read false right end pdu is = refl
none_read true true end pdu is = ap (λ b. is_none (opened_if b end pdu)) is
none_read true false end pdu is = ap (λ b. is_none (opened_if b end pdu)) is

same_bits : (end : Exchanged) (ack : Acknowledgement) → IsCounted end ack → bits_of end ≡ end_bits ack
same_bits end ack is = (λ i. record { sn = is_odd (is.acked i); nesn = is_odd (is.accepted i) })

-- its PDU is new and not empty, by the lines and by what the end holds
pub counts_as : (end : Exchanged) (facts : Facts) (pdu : List ℕ) → IsCounted end facts.acknowledgement → counts_here facts pdu ≡ counts_by end pdu
counts_as end facts pdu is = ap (λ (bits : AckBits). is_new bits (header_in pdu) && not (is_empty (pdu_of pdu))) (sym (same_bits end facts.acknowledgement is))

-- and its code is wrong
pub forged_as : (end : Exchanged) (facts : Facts) (pdu : List ℕ) → IsCounted end facts.acknowledgement → is_forged_pdu facts pdu ≡ is_wrong (Some (keyed_of facts)) end pdu
forged_as end facts pdu is =
    let right = is_right facts.encryption.end (first_octet pdu) (drop 2 pdu) in
    none_read (counts_here facts pdu) right facts.encryption.end pdu refl
    ∙ ap (λ counts. counts && not right) (counts_as end facts pdu is)

in_room : (has_room forged wrong : Bool) → forged ≡ wrong → is_handed (if has_room then (if forged then Forged else Good) else Broken) ≡ true
    → (if has_room then (if forged then Forged else Good) else Broken) ≡ (if wrong then Forged else Good)
in_room true forged wrong is handed = ap (λ b. if b then Forged else Good) is
in_room false forged wrong is handed = absurd cc

heard_as : (max_rx : ℕ) (opens : Bool) (end : Exchanged) (facts : Facts) (heard : Heard) → IsCounted end facts.acknowledgement
    → is_handed (verdict_by max_rx opens (is_forged_pdu facts) heard) ≡ true
    → verdict_by max_rx opens (is_forged_pdu facts) heard ≡ (if is_wrong_in (Some (keyed_of facts)) end heard then Forged else Good)
heard_as max_rx opens end facts NotOurs counted handed = absurd cc
heard_as max_rx opens end facts Faulty counted handed = absurd cc
heard_as max_rx opens end facts (Whole pdu) counted handed =
    in_room (has_room_for max_rx opens pdu.items) (is_forged_pdu facts pdu.items) (is_wrong (Some (keyed_of facts)) end pdu.items) (forged_as end facts pdu.items counted) handed

end_judges : (setup : Setup) (facts : Facts) (end : Exchanged) (octets : List ℕ) → IsCounted end facts.acknowledgement → is_handed (verdict_of setup facts octets) ≡ true
    → verdict_of setup facts octets ≡ (if is_wrong_in (Some (keyed_of facts)) end (heard_of setup facts octets) then Forged else Good)
unfolding verdict_of
end_judges setup facts end octets counted handed =
    heard_as setup.link.max_rx (opens_now facts.encryption.end) end facts (heard_of setup facts octets) counted handed

-- ---- a line

pub judged_by_lines : (words : Words) (given : Given) (front : List Entry) (side : Side) (channel : ℕ) (octets : List ℕ) (fate : Mark) (verdict : Verdict)
    (line : IsHeardLine given front side channel octets fate verdict)
    → keyed_on words (side_of line.aired.hearing.listener) line.by_end.number (journal_of line.aired.before) ≡ Some (keyed_of (facts_in line.by_end.link))
    → is_handed verdict ≡ true → IsJudgedByLines words front side channel octets fate verdict
judged_by_lines words given front side channel octets fate verdict line keyed handed =
    let aired = line.aired in
    let by_end = line.by_end in
    let number = by_end.number in
    let facts = facts_in by_end.link in
    let heard = damaged_packet aired.hearing.fate octets in
    let end = exchange_of number (journal_of aired.before) (side_of aired.hearing.listener) in
    let listener : other_side side ≡ side_of aired.hearing.listener = ap other_side aired.side_is ∙ sym by_end.side_is in
    let left : left_of fate octets ≡ heard = ap (λ mark. left_of mark octets) aired.fate_is ∙ left_is aired.hearing.fate octets in
    let same = aired.verdict_is ∙ by_end.verdict_is in
    let begun = ap (link_numbered number) aired.front_is ∙ by_end.is_link in
    let found = (λ i. keyed_on words (listener i) number (aired.front_is i)) ∙ keyed in
    let counts : exchange_of number front (other_side side) ≡ end = (λ i. exchange_of number (aired.front_is i) (listener i)) in
    let wrong : is_forged_for words number front (other_side side) channel (left_of fate octets) ≡ is_wrong_on (Some by_end.begun) (Some (keyed_of facts)) end channel heard =
    (λ i. is_wrong_on (begun i) (found i) (counts i) channel (left i)) in
    let hears : heard_in channel by_end.begun.fields.access by_end.begun.fields.crc_init heard ≡ heard_of by_end.link.setup facts heard =
    (λ i. heard_in (by_end.channel_is i) (by_end.fields i).access (by_end.fields i).crc_init heard) in
    record {
      number = number;
      belongs = λ unchanged.
          (λ i. link_of_packet (aired.front_is i) (aired.side_is i) octets)
          ∙ by_end.belongs (sym left ∙ (bytes_eq-Decides (left_of fate octets) octets).0 unchanged);
      judged = same
          ∙ end_judges by_end.link.setup facts end heard by_end.counted (ap is_handed (sym same) ∙ handed)
          ∙ ap (λ b. if b then Forged else Good) (ap (is_wrong_in (Some (keyed_of facts)) end) (sym hears) ∙ sym wrong);
    }
