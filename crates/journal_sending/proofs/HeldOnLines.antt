-- The data of an end as it fixed its next PDU, by the lines of its side.
use Rattle.std.proofs.Common.{◌≡◌, ℕ, ◌+◌, nat_lt, Bool, true, false, List, [], ◌∷◌, ◌++◌, length, refl, sym, ap, ◌∙◌, arith, length-append}
use Rattle.std.proofs.lemmas.Bool.Decides.{nat_tests}
use Rattle.ack_bit.specs.Nonempty.{nonempty}
use Rattle.acl_banks.specs.History.{octets_of}
use Rattle.acl_banks.specs.Packets.{Marked}
use Rattle.journal_leaving.specs.journal_data.Lines.{Lines, PduLine, data_on, pdus_on}
use Rattle.journal_leaving.specs.link_model.Acknowledgement.{Pdu}
use Rattle.journal_leaving.specs.link_model.Data.{data_in, data_of, is_empty, next_piece, numbered, sent_data, unsent_of}
use Rattle.journal_leaving.specs.link_model.End.{facts_of}
use Rattle.journal_leaving.specs.link_model.Facts.{Facts, keyed_of}
use Rattle.journal_leaving.specs.link_model.Fixing.{data_cut}
use Rattle.journal_leaving.specs.link_model.Setup.{Setup}
use Rattle.journal_leaving.specs.link_model.Step.{Step, PacketSent}
use Rattle.journal_leaving.specs.journal_data.open_links.OpenLinks.{OpenLink, facts_in, link_after}
use Rattle.journal_leaving.proofs.journal_data.Arriving.{IsEndBooked, data_nonempty, lines_data, lines_length, pdu_lines}
use Rattle.journal_leaving.proofs.journal_data.SameGiven.{own_same}
use Rattle.journal_leaving.proofs.link_model.Agreeing.{ack_ahead as sent_ack}
use Rattle.journal_leaving.proofs.link_model.Outgoing.{data-push}
use Rattle.journal_leaving.proofs.link_model.Sending.{in_order, past_together}
use Rattle.journal_leaving.proofs.journal_data.run_laws.Agreed.{ack_sent}
use Rattle.journal_fixing.specs.NextPdu.{data_waits, data_waits_after, piece_limit}
use Rattle.journal_sending.specs.Outgoing.{data_of_lines, octets_sent, octets_wait, piece_after}
use Rattle.journal_sending.proofs.NextPieces.{piece_cut}
use Rattle.journal_sending.proofs.SameData.{HasSameData, same_data}

-- the lines of a side say of a link what an end with these facts was given and sent
pub record IsOnLines (number : ℕ) (lines : Lines) (facts : Facts) : Type 0 where
  pub given : data_on number lines ≡ facts.outgoing.given
  pub sent : pdus_on number lines.sent ≡ pdu_lines number 1 (nonempty is_empty facts.acknowledgement.sent)

pub lines_by : (number : ℕ) (lines : Lines) (facts held : Facts) (waiting : List Marked) → IsEndBooked number lines facts waiting → HasSameData facts held → IsOnLines number lines held
lines_by number lines facts held waiting booked same = record {
  given = booked.submitted ∙ same.given;
  sent = booked.sent ∙ ap (λ (pdus : List Pdu). pdu_lines number 1 (nonempty is_empty pdus)) same.sent;
}

pub octets_are : (number : ℕ) (lines : Lines) (facts : Facts) → IsOnLines number lines facts → octets_sent number lines ≡ length (sent_data facts.acknowledgement)
octets_are number lines facts is =
    let pdus = facts.acknowledgement.sent in
    ap (λ (all : List PduLine). length (data_of_lines all)) is.sent ∙ ap length (lines_data number 1 (nonempty is_empty pdus) ∙ data_nonempty pdus)

pub count_is : (number : ℕ) (lines : Lines) (facts : Facts) → IsOnLines number lines facts → length (pdus_on number lines.sent) ≡ numbered facts.acknowledgement.sent
count_is number lines facts is = ap length is.sent ∙ lines_length number 1 (nonempty is_empty facts.acknowledgement.sent)

pub piece_is : (number : ℕ) (lines : Lines) (setup : Setup) (past : List Step) → let held = facts_of setup past in IsOnLines number lines held
    → next_piece (data_cut held) ≡ piece_after (piece_limit (keyed_of held)) (data_on number lines) (octets_sent number lines)
piece_is number lines setup past is =
    let held = facts_of setup past in
    piece_cut setup past (piece_limit (keyed_of held))
    ∙ (λ i. piece_after (piece_limit (keyed_of held)) (sym is.given i) (sym (octets_are number lines held is) i))

-- ---- what waits

-- the lines of the side of an end that sent its packet tell whether octets wait
pub lines_wait : (number : ℕ) (lines : Lines) (slot : ℕ) (link : OpenLink) (waiting : List Marked) → IsEndBooked number lines (facts_in (link_after (PacketSent slot) link)) waiting
    → octets_wait number lines ≡ nat_lt (length (data_of (sent_ack (facts_in link)).sent)) (length (octets_of (facts_in link).outgoing.given))
lines_wait number lines slot link waiting booked =
    let facts = facts_in (link_after (PacketSent slot) link) in
    let is = lines_by number lines facts facts waiting booked (same_data facts) in
    let ack = ack_sent slot link in
    (λ i. nat_lt (octets_are number lines facts is i) (length (octets_of (is.given i))))
    ∙ (λ i. nat_lt (length (data_of (ack i).sent)) (length (octets_of (own_same (PacketSent slot) link tt i))))

shift_less : (count few many : ℕ) → nat_lt (count + few) (count + many) ≡ nat_lt few many
shift_less count few many = by (nat_lt few many) refl
  where
    by : (less : Bool) → nat_lt few many ≡ less → nat_lt (count + few) (count + many) ≡ less
    by true is = grind (arith, nat_tests)
    by false is = grind (arith, nat_tests)

module _ (setup : Setup) (past : List Step) where
  abbrev held : Facts
  held = facts_of setup past

  abbrev sent : ℕ
  sent = length (sent_data held.acknowledgement)

  abbrev left : ℕ
  left = length (unsent_of held.outgoing)

  all_given : length (octets_of held.outgoing.given) ≡ sent + left
  all_given = ap length (sym (in_order held (past_together setup past)).sent) ∙ length-append (sent_data held.acknowledgement) (unsent_of held.outgoing)

  sent_with : (pdu : Pdu) → length (data_of (held.acknowledgement.sent ++ pdu ∷ [])) ≡ sent + length (data_in pdu)
  sent_with pdu = ap length (data-push held.acknowledgement.sent pdu) ∙ length-append (sent_data held.acknowledgement) (data_in pdu)

  -- after a new PDU, and with none
  pub waits_with : (pdu : Pdu) → nat_lt (length (data_of (held.acknowledgement.sent ++ pdu ∷ []))) (length (octets_of held.outgoing.given)) ≡ data_waits_after pdu (data_cut held)
  waits_with pdu = (λ i. nat_lt (sent_with pdu i) (all_given i)) ∙ shift_less sent (length (data_in pdu)) left

  pub waits_without : nat_lt (length (data_of held.acknowledgement.sent)) (length (octets_of held.outgoing.given)) ≡ data_waits (data_cut held)
  waits_without =
      let none : sent ≡ sent + 0 = omega arith in
      (λ i. nat_lt (none i) (all_given i)) ∙ shift_less sent 0 left
