-- What an end notes of a good packet: that it takes the PDU of the packet, if it does, after the procedure that is done by
-- what the packet acknowledges.
use Rattle.std.proofs.Common.{◌≡◌, ℕ, ◌+◌, ◌&&◌, ◌||◌, not, Bool, true, false, Option, Some, None, List, [], ◌++◌, length, refl, sym, ap, subst, ◌∙◌, append_assoc}
use Rattle.std.specs.Prelude.{All}
use Rattle.std.specs.Bool.{beq}
use Rattle.std.proofs.lemmas.List.Elements.{All-append, All-cons, All-nil}
use Rattle.ack_bit.specs.AckBits.{is_odd}
use Rattle.ble_base.specs.declared.error_codes.ErrCode.{ErrCode}
use Rattle.ble_base.specs.declared.notes.Note.{Note}
use Rattle.ble_base.specs.declared.notes.Note.TheVariants.{Done, Refused}
use Rattle.ble_base.specs.declared.procedure_kinds.Kind.{Kind}
use Rattle.journal_leaving.specs.controller_model.Heard.{notes_taken}
use Rattle.data_pdu.specs.Header.{header_in}
use Rattle.data_pdu.specs.declared.header.DataHeader.{DataHeader}
use Rattle.journal_leaving.specs.link_model.Acknowledgement.{Pdu}
use Rattle.journal_leaving.specs.link_model.Controls.{is_procedure_pdu}
use Rattle.journal_leaving.specs.link_model.Data.{is_accepted, is_empty, numbered}
use Rattle.journal_leaving.specs.link_model.Entering.{done_notes}
use Rattle.journal_leaving.specs.link_model.Facts.{Facts}
use Rattle.journal_leaving.specs.link_model.Packets.{good_pdu, has_new_pdu}
use Rattle.journal_leaving.specs.link_model.Receiving.{accepts, acked_kind, acknowledged_if, acks_control, answers_with_control, facts_before_taking, given_if}
use Rattle.journal_leaving.specs.link_model.Receiving.{given_notes, has_acknowledged, heard_in_slot, kept_given_if, notes_hearing, received_notes, refused_notes}
use Rattle.journal_leaving.specs.link_model.Receiving.{taken_notes, took_notes_if}
use Rattle.journal_leaving.specs.link_model.Sending.{control_gone_if}
use Rattle.journal_leaving.specs.link_model.Setup.{Setup}
use Rattle.journal_leaving.specs.link_model.Verdicts.{pdu_of}
use Rattle.journal_leaving.specs.link_model.control_end.declared.answers.Taken.{Taken}
use Rattle.journal_leaving.specs.journal_data.open_links.OpenLinks.{OpenLink, facts_in}
use Rattle.journal_leaving.proofs.journal_acks.TwoStations.{same_number}
use Rattle.journal_leaving.proofs.journal_acks.link_calls.CallNotes.{TakesNone}
use Rattle.journal_sending.specs.Announced.{pdu_line_if}
use Rattle.journal_sending.proofs.PendingLines.{IsOnLink, TakesFirst, first_fits, first_none, first_taken}

-- ---- the notes that take no PDU

refused_none : (handle : ℕ) (refused : Option (Kind × ErrCode)) → All TakesNone (refused_notes handle refused)
refused_none handle None = All-nil TakesNone
refused_none handle (Some (kind, code)) = All-cons TakesNone (Refused handle kind code) [] refl (All-nil TakesNone)

done_none : (handle : ℕ) (done : Option Kind) → All TakesNone (done_notes handle done)
done_none handle None = All-nil TakesNone
done_none handle (Some kind) = All-cons TakesNone (Done handle kind) [] refl (All-nil TakesNone)

given_none : (handle : ℕ) (given : Taken) → All TakesNone (given_notes handle given)
given_none handle given =
    All-append TakesNone (refused_notes handle given.refused) (done_notes handle given.done) (refused_none handle given.refused) (done_none handle given.done)

-- ---- notes of which the first takes a PDU, where one does, after the one that a procedure is done

module _ (link_of : ℕ → ℕ) (handle : ℕ) (pdu : Pdu) (facts : Facts) (later : List Note) (none : All TakesNone later) where
  abbrev number : ℕ
  number = numbered facts.acknowledgement.accepted + 1

  abbrev took : Bool → List Note
  took noted = took_notes_if noted handle pdu facts ++ later

  first_took : (noted : Bool) → first_taken link_of (took noted) ≡ pdu_line_if noted (link_of handle) number pdu
  first_took true = refl
  first_took false = first_none link_of later none

  fits_took : (noted : Bool) → TakesFirst link_of (took noted)
  fits_took true = none
  fits_took false = first_fits link_of later none

  own_took : (noted : Bool) → IsOnLink (link_of handle) (first_taken link_of (took noted))
  own_took true = same_number (link_of handle)
  own_took false = subst (IsOnLink (link_of handle)) (sym (first_none link_of later none)) tt

  first_done : (done : Option Kind) (noted : Bool) → first_taken link_of (done_notes handle done ++ took noted) ≡ pdu_line_if noted (link_of handle) number pdu
  first_done None noted = first_took noted
  first_done (Some kind) noted = first_took noted

  fits_done : (done : Option Kind) (noted : Bool) → TakesFirst link_of (done_notes handle done ++ took noted)
  fits_done None noted = fits_took noted
  fits_done (Some kind) noted = (own_took noted, fits_took noted)

-- ---- a packet with this header and this PDU

module _ (setup : Setup) (facts : Facts) (slot : ℕ) (room : Bool) (header : DataHeader) (pdu : Pdu) where
  abbrev own : Facts
  own = acknowledged_if (has_acknowledged facts header) (heard_in_slot slot header.md facts)

  -- as it looks at the new PDU
  abbrev now : Facts
  now = facts_before_taking setup.link.role slot header facts

  gone_accepted : (goes : Bool) → (control_gone_if goes slot own).acknowledgement.accepted ≡ facts.acknowledgement.accepted
  gone_accepted true = refl
  gone_accepted false = refl

  accepted_is : now.acknowledgement.accepted ≡ facts.acknowledgement.accepted
  accepted_is = gone_accepted (answers_with_control setup.link.role own)

  abbrev handle : ℕ
  handle = setup.link.handle

  abbrev done : Option Kind
  done = acked_kind (acks_control (has_acknowledged facts header) facts) facts

  -- a PDU is accepted where it is new and there is room, and a PDU with a payload only where the end has not left the link
  abbrev pub takes : Bool
  takes = (is_accepted room (has_new_pdu facts header) pdu && (is_empty pdu || not now.leaving.acknowledged)) && not (is_empty pdu)

  takes_is : (accepts room header pdu now && not (is_empty pdu)) ≡ takes
  takes_is = ap (λ (pdus : List Pdu). (is_accepted room (beq header.sn (is_odd (length pdus))) pdu && (is_empty pdu || not now.leaving.acknowledged)) && not (is_empty pdu)) accepted_is

  abbrev takes_control : Bool
  takes_control = accepts room header pdu now && is_procedure_pdu pdu

  -- of the control PDU, and of one that was kept until now
  abbrev given : List Note
  given = given_notes handle (given_if takes_control pdu slot now) ++ given_notes handle (kept_given_if takes_control pdu slot now)

  all_given_none : All TakesNone given
  all_given_none =
      let one = given_if takes_control pdu slot now in
      let kept = kept_given_if takes_control pdu slot now in
      All-append TakesNone (given_notes handle one) (given_notes handle kept) (given_none handle one) (given_none handle kept)

  module _ (later : List Note) (none : All TakesNone later) where
    abbrev rest : List Note
    rest = given ++ later

    rest_none : All TakesNone rest
    rest_none = All-append TakesNone given later all_given_none none

    notes_parts : notes_hearing setup slot room header pdu facts ++ later ≡ done_notes handle done ++ (took_notes_if takes handle pdu now ++ rest)
    notes_parts =
        append_assoc (done_notes handle done) (taken_notes handle (accepts room header pdu now) pdu slot now) later
        ∙ ap (λ xs. done_notes handle done ++ xs) (append_assoc (took_notes_if (accepts room header pdu now && not (is_empty pdu)) handle pdu now) given later)
        ∙ ap (λ b. done_notes handle done ++ (took_notes_if b handle pdu now ++ rest)) takes_is

    pub hearing_first : (link_of : ℕ → ℕ) → first_taken link_of (notes_hearing setup slot room header pdu facts ++ later)
        ≡ pdu_line_if takes (link_of handle) (numbered facts.acknowledgement.accepted + 1) pdu
    hearing_first link_of =
        ap (first_taken link_of) notes_parts ∙ first_done link_of handle pdu now rest rest_none done takes
        ∙ ap (λ (pdus : List Pdu). pdu_line_if takes (link_of handle) (numbered pdus + 1) pdu) accepted_is

    pub hearing_fits : (link_of : ℕ → ℕ) → TakesFirst link_of (notes_hearing setup slot room header pdu facts ++ later)
    hearing_fits link_of = subst (TakesFirst link_of) (sym notes_parts) (fits_done link_of handle pdu now rest rest_none done takes)

-- ---- a packet, good or not

received_fits : (setup : Setup) (facts : Facts) (slot : ℕ) (room : Bool) (found : Option (List ℕ)) (later : List Note) (link_of : ℕ → ℕ) → All TakesNone later
    → TakesFirst link_of (received_notes setup slot room found facts ++ later)
received_fits setup facts slot room None later link_of none = first_fits link_of later none
received_fits setup facts slot room (Some octets) later link_of none = hearing_fits setup facts slot room (header_in octets) (pdu_of octets) later none link_of

pub link_fits : (slot : ℕ) (room : Bool) (octets : List ℕ) (link : OpenLink) (later : List Note) (link_of : ℕ → ℕ) → All TakesNone later
    → TakesFirst link_of (notes_taken slot room (Some link) octets ++ later)
link_fits slot room octets link later link_of none =
    received_fits link.setup (facts_in link) slot room (good_pdu link.setup (facts_in link) octets) later link_of none
