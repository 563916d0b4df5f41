-- No step but that of an event notes an event or an indication that comes into force.
use Rattle.std.proofs.Common.{◌≡◌, ℕ, Bool, true, false, not, ◌&&◌, List, [], ◌∷◌, ◌++◌, Option, Some, None}
use Rattle.std.specs.List.{AllByRecursion}
use Rattle.ble_base.specs.declared.error_codes.ErrCode.{ErrCode}
use Rattle.ble_base.specs.declared.notes.Note.{Note}
use Rattle.ble_base.specs.declared.procedure_kinds.Kind.{Kind}
use Rattle.data_pdu.specs.Header.{header_in}
use Rattle.data_pdu.specs.declared.header.DataHeader.{DataHeader}
use Rattle.link_model.specs.control_end.declared.answers.Taken.{Taken}
use Rattle.link_model.specs.Acknowledgement.{Pdu, is_acked}
use Rattle.link_model.specs.Controls.{is_procedure_pdu, pdu_fixed}
use Rattle.link_model.specs.Data.{is_empty, numbered}
use Rattle.link_model.specs.End.{notes_after}
use Rattle.link_model.specs.Entering.{done_notes}
use Rattle.link_model.specs.Facts.{Facts}
use Rattle.link_model.specs.Packets.{good_pdu}
use Rattle.link_model.specs.Receiving.{accepts, acked_kind, acks_control, facts_before_taking, given_if, given_notes, has_acknowledged, kept_given_if, notes_hearing, received_notes, refused_notes, took_notes_if}
use Rattle.link_model.specs.Sending.{sent_notes_if}
use Rattle.link_model.specs.Setup.{Setup}
use Rattle.link_model.specs.Step.{Step, EventEntered, PacketReceived, PacketSent}
use Rattle.link_model.specs.Verdicts.{pdu_of}
use Rattle.link_changes.specs.InForce.{NamesNoEvent, enters_event}

abbrev NameNone : List Note → Type 0
NameNone notes = AllByRecursion NamesNoEvent notes

both : (xs ys : List Note) → NameNone xs → NameNone ys → NameNone (xs ++ ys)
both [] ys none more = more
both (x ∷ xs) ys none more = (none.0, both xs ys none.1 more)

done : (handle : ℕ) (kind : Option Kind) → NameNone (done_notes handle kind)
done handle None = tt
done handle (Some kind) = (tt, tt)

refused : (handle : ℕ) (refusal : Option (Kind × ErrCode)) → NameNone (refused_notes handle refusal)
refused handle None = tt
refused handle (Some (kind, code)) = (tt, tt)

given : (handle : ℕ) (taken : Taken) → NameNone (given_notes handle taken)
given handle taken = both (refused_notes handle taken.refused) (done_notes handle taken.done) (refused handle taken.refused) (done handle taken.done)

took : (is_noted : Bool) (handle : ℕ) (pdu : Pdu) (facts : Facts) → NameNone (took_notes_if is_noted handle pdu facts)
took true handle pdu facts = (tt, tt)
took false handle pdu facts = tt

sent : (is_noted : Bool) (handle number : ℕ) (pdu : Pdu) → NameNone (sent_notes_if is_noted handle number pdu)
sent true handle number pdu = (tt, tt)
sent false handle number pdu = tt

heard : (setup : Setup) (slot : ℕ) (room : Bool) (header : DataHeader) (pdu : Pdu) (facts : Facts) → NameNone (notes_hearing setup slot room header pdu facts)
heard setup slot room header pdu facts =
    let handle = setup.link.handle in
    let now = facts_before_taking setup.link.role slot header facts in
    let accepted = accepts room header pdu now in
    let acked = acked_kind (acks_control (has_acknowledged facts header) facts) facts in
    let seen = given_notes handle (given_if (accepted && is_procedure_pdu pdu) pdu slot now) in
    let kept = given_notes handle (kept_given_if (accepted && is_procedure_pdu pdu) pdu slot now) in
    let noted = took_notes_if (accepted && not (is_empty pdu)) handle pdu now in
    both (done_notes handle acked) (noted ++ (seen ++ kept)) (done handle acked)
    (both noted (seen ++ kept) (took (accepted && not (is_empty pdu)) handle pdu now)
    (both seen kept (given handle (given_if (accepted && is_procedure_pdu pdu) pdu slot now))
    (given handle (kept_given_if (accepted && is_procedure_pdu pdu) pdu slot now))))

received : (setup : Setup) (slot : ℕ) (room : Bool) (octets : Option (List ℕ)) (facts : Facts) → NameNone (received_notes setup slot room octets facts)
received setup slot room None facts = tt
received setup slot room (Some octets) facts = heard setup slot room (header_in octets) (pdu_of octets) facts

pub others_name_none : (setup : Setup) (facts : Facts) (step : Step) → enters_event step ≡ false → NameNone (notes_after setup facts step)
others_name_none setup facts (EventEntered slot) is = absurd (cc)
others_name_none setup facts (PacketSent slot) is =
    sent (is_acked facts.acknowledgement && not (is_empty (pdu_fixed facts))) setup.link.handle (numbered facts.acknowledgement.sent) (pdu_fixed facts)
others_name_none setup facts (PacketReceived slot octets room) is = received setup slot room (good_pdu setup facts octets) facts
others_name_none setup facts other is = tt
