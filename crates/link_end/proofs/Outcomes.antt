-- What comes of a new PDU, as one record: what is held, noted, kept and given.
use Rattle.std.proofs.Common.{◌≡◌, ℕ, ◌==◌, Bool, true, false, not, ◌&&◌, ◌||◌, List, [], ◌++◌, length, refl, ap, sym, ◌∙◌}
use Rattle.std.proofs.lemmas.Bool.{eqb-true}
use Rattle.ble_base.specs.declared.notes.Note.{Note}
use Rattle.acl_banks.specs.declared.pieces.Piece.{Piece}
use Rattle.link_model.specs.phased_end.declared.taking.TakenKeyed.{TakenKeyed}
use Rattle.link_model.specs.Acknowledgement.{Pdu}
use Rattle.link_model.specs.Data.{is_control, is_data, is_empty}
use Rattle.link_model.specs.Pieces.{kept_if}
use Rattle.link_model.specs.Controls.{is_procedure_pdu}
use Rattle.link_end.specs.Held.{Held, count_if}
use Rattle.link_end.specs.Receiving.{bits_received, draws_if, given_if, given_notes_of, held_data_if, held_given_if, took_note_if}

pub record Outcome : Type 0 where
  pub held : Held
  pub notes : List Note
  pub kept : List (ℕ × Piece)
  pub given : TakenKeyed
  pub draws : Bool

-- by these tests: it is data, a PDU of the procedures, and not empty, where it is accepted
abbrev outcome_by : Bool → Bool → Bool → Bool → Pdu → ℕ → Held → Outcome
outcome_by is_data is_control is_some accepted pdu slot held =
    record {
      held =
          held_data_if is_data
          (held_given_if is_control pdu slot
          (record held { bits = bits_received false accepted held.bits; taken = count_if is_some held.taken }));
      notes =
          took_note_if is_some held.setup.link.handle held.taken pdu
          ++ given_notes_of held.setup.link.handle (given_if is_control pdu slot held);
      kept = kept_if is_data held.setup.link.handle pdu;
      given = given_if is_control pdu slot held;
      draws = draws_if is_control pdu slot held;
    }

abbrev pub outcome_of : Bool → Pdu → ℕ → Held → Outcome
outcome_of accepted pdu slot held =
    outcome_by (accepted && is_data pdu) (accepted && is_procedure_pdu pdu) (accepted && not (is_empty pdu)) accepted pdu slot held

-- ---- where nothing is taken, the PDU does not matter

no_control : (accepted is_control some : Bool) → (accepted && some) ≡ false → (accepted && (is_control && some)) ≡ false
no_control true true some is = is
no_control true false some is = refl
no_control false is_control some is = refl

no_data : (accepted : Bool) (llid : ℕ) (none : Bool) → (accepted && not (llid == 0 || none)) ≡ false
    → (accepted && ((llid == 1 || llid == 2) && not none)) ≡ false
no_data false llid none is = refl
no_data true llid none is = by (llid == 0) refl is
  where
    kinds : (kind : Bool) → not none ≡ false → (kind && not none) ≡ false
    kinds true is = is
    kinds false is = refl

    by : (reserved : Bool) → (llid == 0) ≡ reserved → not (reserved || none) ≡ false → ((llid == 1 || llid == 2) && not none) ≡ false
    by true e is = ap (λ n. (n == 1 || n == 2) && not none) (eqb-true llid 0 e)
    by false e is = kinds (llid == 1 || llid == 2) is

nothing_of : (accepted : Bool) (pdu : Pdu) (slot : ℕ) (held : Held) → (accepted && not (is_empty pdu)) ≡ false
    → outcome_of accepted pdu slot held ≡ outcome_by false false false accepted pdu slot held
nothing_of accepted pdu slot held is =
    let is_data = no_data accepted pdu.llid (length pdu.body == 0) is in
    let is_control = no_control accepted (is_control pdu) (not (is_empty pdu)) is in
    λ i. outcome_by (is_data i) (is_control i) (is i) accepted pdu slot held

no_body : (accepted reserved : Bool) → (accepted && not (reserved || true)) ≡ false
no_body true true = refl
no_body true false = refl
no_body false reserved = refl

-- a PDU that is not taken, and one without a body
pub untaken : (accepted : Bool) (llid : ℕ) (body : List ℕ) (slot : ℕ) (held : Held)
    → (accepted && not (llid == 0 || length body == 0)) ≡ false
    → outcome_of accepted (record { llid = llid; body = [] }) slot held ≡ outcome_of accepted (record { llid = llid; body = body }) slot held
untaken accepted llid body slot held is =
    nothing_of accepted (record { llid = llid; body = [] }) slot held (no_body accepted (llid == 0))
    ∙ sym (nothing_of accepted (record { llid = llid; body = body }) slot held is)
