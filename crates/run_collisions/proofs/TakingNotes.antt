-- A note that a PDU is taken, among the notes of a packet.
use Rattle.std.proofs.Common.{◌≡◌, ℕ, ◌+◌, ◌&&◌, not, Bool, true, false, List, [], ◌∷◌, ◌++◌, Option, Some, None, refl, subst}
use Rattle.std.specs.Prelude.{⊤}
use Rattle.std.specs.List.{All}
use Rattle.std.proofs.lemmas.List.Elements.{All-append, All-cons, All-head, All-nil, All-tail}
use Rattle.ble_base.specs.declared.error_codes.ErrCode.{ErrCode}
use Rattle.ble_base.specs.declared.notes.Note.{Note}
use Rattle.ble_base.specs.declared.notes.Note.TheVariants.{Done, Refused, Took}
use Rattle.ble_base.specs.declared.procedure_kinds.Kind.{Kind}
use Rattle.data_pdu.specs.declared.header.DataHeader.{DataHeader}
use Rattle.link_pairs.specs.control_end.declared.answers.Taken.{Taken}
use Rattle.link_pairs.specs.link_model.Acknowledgement.{Pdu}
use Rattle.link_pairs.specs.link_model.Controls.{is_procedure_pdu}
use Rattle.link_pairs.specs.link_model.Data.{is_empty, numbered}
use Rattle.link_pairs.specs.link_model.Entering.{done_notes}
use Rattle.link_pairs.specs.link_model.Facts.{Facts}
use Rattle.link_pairs.specs.link_model.Receiving.{accepts, acked_kind, acks_control, facts_before_taking, given_if, given_notes, has_acknowledged, kept_given_if, notes_hearing, refused_notes, taken_notes, took_notes_if}
use Rattle.link_pairs.specs.link_model.Setup.{Setup}

-- the PDU is taken, with this LLID and these octets
pub record IsTaken (taken : Bool) (pdu : Pdu) (llid : ℕ) (body : List ℕ) : Type 0 where
  pub taken_now : taken ≡ true
  pub llid_is : pdu.llid ≡ llid
  pub body_is : pdu.body ≡ body

module _ (taken : Bool) (pdu : Pdu) where
  -- a note that a PDU is taken is of this one
  abbrev pub OfThis : Note → Type 0
  OfThis (Took handle number llid body) = IsTaken taken pdu llid body.items
  OfThis note = ⊤

  done_of : (handle : ℕ) (done : Option Kind) → All OfThis (done_notes handle done)
  done_of handle None = All-nil OfThis
  done_of handle (Some kind) = All-cons OfThis (Done handle kind) [] tt (All-nil OfThis)

  refused_of : (handle : ℕ) (refused : Option (Kind × ErrCode)) → All OfThis (refused_notes handle refused)
  refused_of handle None = All-nil OfThis
  refused_of handle (Some (kind, code)) = All-cons OfThis (Refused handle kind code) [] tt (All-nil OfThis)

  given_of : (handle : ℕ) (given : Taken) → All OfThis (given_notes handle given)
  given_of handle given =
      All-append OfThis (refused_notes handle given.refused) (done_notes handle given.done) (refused_of handle given.refused) (done_of handle given.done)

  took_of : (handle : ℕ) (facts : Facts) (noted : Bool) → taken ≡ noted → All OfThis (took_notes_if noted handle pdu facts)
  took_of handle facts true is =
      All-cons OfThis (Took handle (numbered facts.acknowledgement.accepted + 1) pdu.llid (record { items = pdu.body })) []
      (record { taken_now = is; llid_is = refl; body_is = refl }) (All-nil OfThis)
  took_of handle facts false is = All-nil OfThis

  in_middle : (before : List Note) (note : Note) (later : List Note) → All OfThis (before ++ note ∷ later) → OfThis note
  in_middle [] note later all = All-head OfThis note later all
  in_middle (first ∷ before) note later all = in_middle before note later (All-tail OfThis first (before ++ note ∷ later) all)

module _ (setup : Setup) (slot : ℕ) (room : Bool) (header : DataHeader) (pdu : Pdu) (facts : Facts) where
  abbrev now : Facts
  now = facts_before_taking setup.link.role slot header facts

  abbrev accepted : Bool
  accepted = accepts room header pdu now

  abbrev pub is_noted : Bool
  is_noted = accepted && not (is_empty pdu)

  all_of : All (OfThis is_noted pdu) (notes_hearing setup slot room header pdu facts)
  all_of =
      let handle = setup.link.handle in
      let done = done_notes handle (acked_kind (acks_control (has_acknowledged facts header) facts) facts) in
      let given = given_if (accepted && is_procedure_pdu pdu) pdu slot now in
      let kept = kept_given_if (accepted && is_procedure_pdu pdu) pdu slot now in
      All-append (OfThis is_noted pdu) done (taken_notes handle accepted pdu slot now)
      (done_of is_noted pdu handle (acked_kind (acks_control (has_acknowledged facts header) facts) facts))
      (All-append (OfThis is_noted pdu) (took_notes_if is_noted handle pdu now) (given_notes handle given ++ given_notes handle kept)
      (took_of is_noted pdu handle now is_noted refl)
      (All-append (OfThis is_noted pdu) (given_notes handle given) (given_notes handle kept) (given_of is_noted pdu handle given) (given_of is_noted pdu handle kept)))

  pub taken_at : (earlier later : List Note) (handle number llid : ℕ) (body : List ℕ)
      → notes_hearing setup slot room header pdu facts ≡ earlier ++ Took handle number llid (record { items = body }) ∷ later
      → IsTaken is_noted pdu llid body
  taken_at earlier later handle number llid body is =
      in_middle is_noted pdu earlier (Took handle number llid (record { items = body })) later
      (subst (All (OfThis is_noted pdu)) is all_of)
