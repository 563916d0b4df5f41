-- The note of a PDU that an end takes: it has the PDU of the packet, which is new and not empty.
use Rattle.std.proofs.Common.{◌≡◌, ◌⊎◌, inl, inr, ℕ, ◌&&◌, not, Bool, true, false, List, [], ◌∷◌, ◌++◌, Option, Some, None, is_none, refl, ap, sym, subst, ◌||◌, ◌∙◌, if◌then◌else◌}
use Rattle.std.specs.Prelude.{⊤}
use Rattle.std.specs.List.{AllByRecursion}
use Rattle.std.proofs.lemmas.Bool.{and_parts}
use Rattle.air_frame.specs.declared.Heard.{Heard}
use Rattle.air_frame.specs.declared.Heard.TheVariants.{Broken, NotOurs, Whole}
use Rattle.arrayvec.specs.ArrayVec.{ArrayVec}
use Rattle.ble_base.specs.declared.error_codes.ErrCode.{ErrCode}
use Rattle.ble_base.specs.declared.notes.Note.{Note}
use Rattle.ble_base.specs.declared.notes.Note.TheVariants.{Took}
use Rattle.ble_base.specs.declared.procedure_kinds.Kind.{Kind}
use Rattle.ble_base.specs.declared.verdicts.Verdict.{Verdict}
use Rattle.ble_base.specs.declared.verdicts.Verdict.TheVariants.{Broken as BrokenPacket, Forged, Good}
use Rattle.data_pdu.specs.declared.header.DataHeader.{DataHeader}
use Rattle.run_pairs.specs.link_calls.control_end.declared.answers.Taken.{Taken}
use Rattle.run_pairs.specs.link_calls.link_model.Acknowledgement.{Pdu}
use Rattle.run_pairs.specs.link_calls.link_model.Controls.{is_procedure_pdu}
use Rattle.run_pairs.specs.link_calls.link_model.Data.{is_data, is_empty}
use Rattle.run_pairs.specs.link_calls.link_model.End.{notes_after}
use Rattle.run_pairs.specs.link_calls.link_model.Entering.{done_notes}
use Rattle.run_pairs.specs.link_calls.link_model.Facts.{Facts}
use Rattle.run_pairs.specs.link_calls.link_model.Packets.{good_pdu, has_new_pdu, heard_of, is_forged_pdu, pdu_read, pdu_read_in, verdict_of, whole_pdu}
use Rattle.run_pairs.specs.link_calls.link_model.Payload.{opens_now}
use Rattle.run_pairs.specs.link_calls.link_model.Receiving.{accepts, acked_kind, acks_control, facts_before_taking, given_if, given_notes, has_acknowledged, kept_given_if, notes_hearing, received_notes, refused_notes, took_notes_if}
use Rattle.run_pairs.specs.link_calls.link_model.Setup.{Setup}
use Rattle.run_pairs.specs.link_calls.link_model.Step.{PacketReceived}
use Rattle.run_pairs.specs.link_calls.link_model.Verdicts.{has_room_for, pdu_by, verdict_by, whole_in}
use Rattle.run_pairs.proofs.link_calls.link_model.Acknowledging.{ack_before_taking}
use Rattle.link_runs.proofs.link_pairs.Counts.{is_fresh}

-- ---- a note in a list

pub none_in : (X : Type 0) (front later : List Note) (note : Note) → [] ≡ front ++ note ∷ later → X
none_in X [] later note is = absurd (cc)
none_in X (first ∷ front) later note is = absurd (cc)

module _ (P : Note → Type 0) where
  both_each : (xs ys : List Note) → AllByRecursion P xs → AllByRecursion P ys → AllByRecursion P (xs ++ ys)
  both_each [] ys are also = also
  both_each (x ∷ xs) ys are also = (are.0, both_each xs ys are.1 also)

  each_in : (front later : List Note) (note : Note) → AllByRecursion P (front ++ note ∷ later) → P note
  each_in [] later note are = are.0
  each_in (first ∷ front) later note are = each_in front later note are.1

-- ---- what a packet lets an end note of its PDU

-- the PDU was accepted, is not empty, and is this one
pub record IsTaken (accepted : Bool) (pdu : Pdu) (llid : ℕ) (body : ArrayVec ℕ) : Type 0 where
  pub is_accepted : accepted ≡ true
  pub has_octets : not (is_empty pdu) ≡ true
  pub is : pdu ≡ record { llid = llid; body = body.items }

abbrev SaysTaken : Bool → Pdu → Note → Type 0
SaysTaken accepted pdu (Took handle number llid body) = IsTaken accepted pdu llid body
SaysTaken accepted pdu other = ⊤

module _ (accepted : Bool) (pdu : Pdu) where
  done_each : (handle : ℕ) (kind : Option Kind) → AllByRecursion (SaysTaken accepted pdu) (done_notes handle kind)
  done_each handle None = tt
  done_each handle (Some kind) = (tt, tt)

  refused_each : (handle : ℕ) (refused : Option (Kind × ErrCode)) → AllByRecursion (SaysTaken accepted pdu) (refused_notes handle refused)
  refused_each handle None = tt
  refused_each handle (Some (kind, code)) = (tt, tt)

  given_each : (handle : ℕ) (given : Taken) → AllByRecursion (SaysTaken accepted pdu) (given_notes handle given)
  given_each handle given =
      both_each (SaysTaken accepted pdu) (refused_notes handle given.refused) (done_notes handle given.done) (refused_each handle given.refused)
      (done_each handle given.done)

  took_each : (noted : Bool) (handle : ℕ) (facts : Facts) → (accepted && not (is_empty pdu)) ≡ noted
      → AllByRecursion (SaysTaken accepted pdu) (took_notes_if noted handle pdu facts)
  took_each true handle facts noted =
      let parts = and_parts accepted (not (is_empty pdu)) noted in
      (record { is_accepted = parts.0; has_octets = parts.1; is = refl }, tt)
  took_each false handle facts noted = tt

module _ (setup : Setup) (slot : ℕ) (room : Bool) (header : DataHeader) (pdu : Pdu) (facts : Facts) where
  abbrev now : Facts
  now = facts_before_taking setup.link.role slot header facts

  abbrev accepted : Bool
  accepted = accepts room header pdu now

  heard_each : AllByRecursion (SaysTaken accepted pdu) (notes_hearing setup slot room header pdu facts)
  heard_each =
      let handle = setup.link.handle in
      let acked = acked_kind (acks_control (has_acknowledged facts header) facts) facts in
      let noted = accepted && not (is_empty pdu) in
      let given = given_if (accepted && is_procedure_pdu pdu) pdu slot now in
      let kept = kept_given_if (accepted && is_procedure_pdu pdu) pdu slot now in
      both_each (SaysTaken accepted pdu) (done_notes handle acked) (took_notes_if noted handle pdu now ++ (given_notes handle given ++ given_notes handle kept))
      (done_each accepted pdu handle acked)
      (both_each (SaysTaken accepted pdu) (took_notes_if noted handle pdu now) (given_notes handle given ++ given_notes handle kept)
      (took_each accepted pdu noted handle now refl)
      (both_each (SaysTaken accepted pdu) (given_notes handle given) (given_notes handle kept) (given_each accepted pdu handle given) (given_each accepted pdu handle kept)))

  -- what is accepted is new by the counts of the end
  fresh_by : accepted ≡ true → is_fresh facts.acknowledgement header ≡ true
  fresh_by is =
      let new = (and_parts (has_new_pdu now header) (room || not (is_data pdu)) (and_parts _ _ is).0).0 in
      ap (λ ack. is_fresh ack header) (sym (ack_before_taking setup.link.role slot header facts)) ∙ new

  -- so a note of a PDU that was taken has the PDU of the packet, which is new
  pub record IsNew (llid : ℕ) (body : ArrayVec ℕ) : Type 0 where
    pub fresh : is_fresh facts.acknowledgement header ≡ true
    pub has_octets : is_empty pdu ≡ false
    pub is : pdu ≡ record { llid = llid; body = body.items }

  pub took_new : (front later : List Note) (handle number llid : ℕ) (body : ArrayVec ℕ)
      → notes_hearing setup slot room header pdu facts ≡ front ++ Took handle number llid body ∷ later → IsNew llid body
  took_new front later handle number llid body are =
      let taken = each_in (SaysTaken accepted pdu) front later (Took handle number llid body)
      (subst (AllByRecursion (SaysTaken accepted pdu)) are heard_each) in
      record { fresh = fresh_by taken.is_accepted; has_octets = not_true (is_empty pdu) taken.has_octets; is = taken.is }
    where
      not_true : (b : Bool) → not b ≡ true → b ≡ false
      not_true true is = absurd (cc)
      not_true false is = refl

-- ---- a packet that is not good is not noted

pub good_or_silent : (setup : Setup) (slot : ℕ) (octets : List ℕ) (room : Bool) (facts : Facts)
    → (verdict_of setup facts octets ≡ Good) ⊎ (notes_after setup facts (PacketReceived slot octets room) ≡ [])
unfolding good_pdu verdict_of whole_pdu
good_or_silent setup slot octets room facts = got (of (heard_of setup facts octets))
  where
    opens : Bool
    opens = opens_now facts.encryption.end

    GoodOrNone : Verdict → Option (List ℕ) → Type 0
    GoodOrNone verdict pdu = (verdict ≡ Good) ⊎ (pdu ≡ None)

    as_read : (read : Option (List ℕ)) → GoodOrNone (if is_none read then Forged else Good) read
    as_read None = inr refl
    as_read (Some pdu) = inl refl

    at : (fits : Bool) (pdu : List ℕ) → GoodOrNone (if fits then (if is_forged_pdu facts pdu then Forged else Good) else BrokenPacket) (pdu_read_in facts (pdu_by fits pdu))
    at true pdu = as_read (pdu_read facts pdu)
    at false pdu = inr refl

    of : (heard : Heard) → GoodOrNone (verdict_by setup.link.max_rx opens (is_forged_pdu facts) heard) (pdu_read_in facts (whole_in setup.link.max_rx opens heard))
    of NotOurs = inr refl
    of Broken = inr refl
    of (Whole pdu) = at (has_room_for setup.link.max_rx opens pdu.items) pdu.items

    got : GoodOrNone (verdict_by setup.link.max_rx opens (is_forged_pdu facts) (heard_of setup facts octets))
        (pdu_read_in facts (whole_in setup.link.max_rx opens (heard_of setup facts octets)))
        → (verdict_of setup facts octets ≡ Good) ⊎ (notes_after setup facts (PacketReceived slot octets room) ≡ [])
    got (inl good) = inl good
    got (inr none) = inr (ap (λ (pdu : Option (List ℕ)). received_notes setup slot room pdu facts) none)

pub took_good : (setup : Setup) (slot : ℕ) (octets : List ℕ) (room : Bool) (facts : Facts) (front later : List Note) (note : Note)
    → notes_after setup facts (PacketReceived slot octets room) ≡ front ++ note ∷ later → verdict_of setup facts octets ≡ Good
took_good setup slot octets room facts front later note are = by (good_or_silent setup slot octets room facts)
  where
    by : (verdict_of setup facts octets ≡ Good) ⊎ (notes_after setup facts (PacketReceived slot octets room) ≡ []) → verdict_of setup facts octets ≡ Good
    by (inl good) = good
    by (inr none) = none_in (verdict_of setup facts octets ≡ Good) front later note (sym none ∙ are)
