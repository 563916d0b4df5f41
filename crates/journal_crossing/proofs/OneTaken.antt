-- An end takes at most one PDU of a packet that it receives.
use Rattle.std.proofs.Common.{◌≡◌, ℕ, ◌+◌, ◌≤◌, ◌&&◌, not, Bool, true, false, Option, Some, None, List, [], ◌∷◌, ◌++◌, length, refl, sym, ap, ◌∙◌, arith, length-append}
use Rattle.std.specs.List.{filter}
use Rattle.std.proofs.lemmas.List.Elements.{filter-append}
use Rattle.ble_base.specs.declared.error_codes.ErrCode.{ErrCode}
use Rattle.ble_base.specs.declared.notes.Note.{Note}
use Rattle.ble_base.specs.declared.notes.Note.TheVariants.{Took as TookNote}
use Rattle.ble_base.specs.declared.procedure_kinds.Kind.{Kind}
use Rattle.data_pdu.specs.Header.{header_in}
use Rattle.journal_collisions.specs.journal_data.link_model.Acknowledgement.{Pdu}
use Rattle.journal_collisions.specs.journal_data.link_model.Controls.{is_procedure_pdu}
use Rattle.journal_collisions.specs.journal_data.link_model.Data.{is_empty}
use Rattle.journal_collisions.specs.journal_data.link_model.Entering.{done_notes}
use Rattle.journal_collisions.specs.journal_data.link_model.Facts.{Facts}
use Rattle.journal_collisions.specs.journal_data.link_model.Numbers.{is_took_note}
use Rattle.journal_collisions.specs.journal_data.link_model.Receiving.{accepts, acked_kind, acks_control, facts_before_taking, given_if, given_notes, has_acknowledged, kept_given_if, received_notes, refused_notes, took_notes_if}
use Rattle.journal_collisions.specs.journal_data.link_model.Setup.{Setup}
use Rattle.journal_collisions.specs.journal_data.link_model.Verdicts.{pdu_of}

abbrev pub tooks : List Note → ℕ
tooks notes = length (filter is_took_note notes)

tooks_more : (notes more : List Note) → tooks (notes ++ more) ≡ tooks notes + tooks more
tooks_more notes more =
    ap length (filter-append is_took_note notes more) ∙ length-append (filter is_took_note notes) (filter is_took_note more)

done_tooks : (handle : ℕ) (done : Option Kind) → tooks (done_notes handle done) ≡ 0
done_tooks handle None = refl
done_tooks handle (Some kind) = refl

given_tooks : (handle : ℕ) (refused : Option (Kind × ErrCode)) (done : Option Kind)
    → tooks (refused_notes handle refused ++ done_notes handle done) ≡ 0
given_tooks handle None None = refl
given_tooks handle None (Some kind) = refl
given_tooks handle (Some refused) None = refl
given_tooks handle (Some refused) (Some kind) = refl

took_tooks : (noted : Bool) (handle : ℕ) (pdu : Pdu) (facts : Facts) → tooks (took_notes_if noted handle pdu facts) ≤ 1
took_tooks true handle pdu facts = omega arith
took_tooks false handle pdu facts = omega arith

three_parts : (done took given : List Note) → tooks done ≡ 0 → tooks took ≤ 1 → tooks given ≡ 0 → tooks (done ++ (took ++ given)) ≤ 1
three_parts done took given none few no_more =
    let first = tooks_more done (took ++ given) in
    let rest = tooks_more took given in omega (arith, first, rest, none, few, no_more)

pub received_tooks : (setup : Setup) (slot : ℕ) (room : Bool) (may : Option (List ℕ)) (facts : Facts) → tooks (received_notes setup slot room may facts) ≤ 1
received_tooks setup slot room None facts = omega arith
received_tooks setup slot room (Some octets) facts =
    let header = header_in octets in
    let pdu = pdu_of octets in
    let own = setup.link.handle in
    let now = facts_before_taking setup.link.role slot header facts in
    let accepted = accepts room header pdu now in
    let given = given_if (accepted && is_procedure_pdu pdu) pdu slot now in
    let kept = kept_given_if (accepted && is_procedure_pdu pdu) pdu slot now in
    let done = acked_kind (acks_control (has_acknowledged facts header) facts) facts in
    let none = tooks_more (given_notes own given) (given_notes own kept)
    ∙ (λ i. given_tooks own given.refused given.done i + given_tooks own kept.refused kept.done i) in
    three_parts (done_notes own done) (took_notes_if (accepted && not (is_empty pdu)) own pdu now) (given_notes own given ++ given_notes own kept)
    (done_tooks own done) (took_tooks (accepted && not (is_empty pdu)) own pdu now) none

pub same_tooks : (notes others : List Note) → notes ≡ others → tooks notes ≤ 1 → tooks others ≤ 1
same_tooks notes others same few = let count = ap tooks same in omega (arith, count, few)

-- so none is before it
pub none_before : (first more rest : List Note) (handle count llid other_handle other_count other_llid : ℕ) (body other : List ℕ)
    → tooks ((first ++ TookNote handle count llid (record { items = body }) ∷ more)
    ++ TookNote other_handle other_count other_llid (record { items = other }) ∷ rest) ≤ 1 → ⊥
none_before first more rest handle count llid other_handle other_count other_llid body other few =
    let one = TookNote handle count llid (record { items = body }) in
    let two = TookNote other_handle other_count other_llid (record { items = other }) in
    let both = tooks_more (first ++ one ∷ more) (two ∷ rest) in
    let ones = tooks_more first (one ∷ more) in omega (arith, few, both, ones)

-- the note that a link was opened is none of these
pub opened_none : (X : Type 0) (opened : Note) (notes first later : List Note) (handle count llid : ℕ) (body : List ℕ) → is_took_note opened ≡ false
    → opened ∷ notes ≡ first ++ TookNote handle count llid (record { items = body }) ∷ later
    → ((start : List Note) → notes ≡ start ++ TookNote handle count llid (record { items = body }) ∷ later → X) → X
opened_none X opened notes [] later handle count llid body none is then_is =
    let same : opened ≡ TookNote handle count llid (record { items = body }) = cc in
    absurd (let h : true ≡ false = sym (ap is_took_note same) ∙ none in cc)
opened_none X opened notes (one ∷ first) later handle count llid body none is then_is =
    let rest : notes ≡ first ++ TookNote handle count llid (record { items = body }) ∷ later = cc in then_is first rest
