-- An end that knows its past and fixes the PDU that it sends next.
use Rattle.std.proofs.Common.{◌≡◌, ℕ, nat_lt, Bool, true, false, not, ◌&&◌, List, [], ◌∷◌, ◌++◌, length, Option, is_some, refl, ap, ◌∙◌, if◌then◌else◌}
use Rattle.acl_banks.specs.declared.pieces.Piece.{Piece}
use Rattle.acl_banks.specs.Banks.{Bank, next_length, next_piece as bank_next, unsent_of as bank_unsent}
use Rattle.control_end.specs.Answers.{next_ctrl}
use Rattle.control_end.specs.Held.{held_of as control_held}
use Rattle.link_model.specs.phased_end.enc_phase.Phases.{is_quiet}
use Rattle.procedures.specs.procedure_stages.Closing.{is_disconnecting}
use Rattle.procedures.specs.procedure_stages.Queue.{waiting_in}
use Rattle.procedures.specs.procedure_values.Limits.{tx_of}
use Rattle.link_model.specs.Setup.{Setup}
use Rattle.link_model.specs.Data.{Data, is_control, next_piece, pdu_with, unsent_of}
use Rattle.link_model.specs.Controls.{is_quiet_now, next_control}
use Rattle.link_model.specs.Facts.{Facts}
use Rattle.link_model.specs.Fixing.{data_cut, data_fixed_by, data_goes, facts_fixed, fixed_anew, is_last_of_all, waits_again}
use Rattle.link_model.specs.Step.{Step, PduFixed}
use Rattle.link_model.specs.End.{facts_of}
use Rattle.link_end.specs.Held.{Held, held_of}
use Rattle.link_end.specs.Fixing.{held_fixed, held_fixed_anew, limit_of, more_fixed_by, pdu_fixed_by}
use Rattle.link_end.specs.Knowing.{Knows}
use Rattle.link_end.specs.Tied.{HoldsData}
use Rattle.link_end.proofs.Banked.{cut_same, piece_body, unsent_same}
use Rattle.link_end.proofs.Keeping.{held_is, holds_after, stepped}
use Rattle.link_end.proofs.Phases.{past_phase}

-- what is fixed, by the next piece and whether octets wait after it
module _ (next : Option Piece) (left : Bool) (outgoing : Data) (next_is : next ≡ next_piece outgoing)
    (left_is : left ≡ nat_lt (length (pdu_with (next_piece outgoing)).body) (length (unsent_of outgoing))) where
  pdu_same : (control quiet goes : Bool) (waiting : ℕ) → pdu_fixed_by control goes next ≡ (data_fixed_by control waiting quiet goes outgoing).fixed
  pdu_same true quiet goes waiting = refl
  pdu_same false quiet true waiting = ap pdu_with next_is
  pdu_same false quiet false waiting = refl

  more_same : (control quiet goes : Bool) (waiting : ℕ)
      → more_fixed_by control waiting quiet goes next left ≡ (data_fixed_by control waiting quiet goes outgoing).more
  more_same true quiet goes waiting = ap (λ piece. more_fixed_by true waiting quiet goes piece left) next_is
  more_same false quiet true waiting = left_is
  more_same false quiet false waiting = refl

payload_same : (control quiet goes : Bool) (waiting : ℕ) (outgoing : Data)
    → outgoing.payload ≡ (data_fixed_by control waiting quiet goes outgoing).payload
payload_same true quiet goes waiting outgoing = refl
payload_same false quiet true waiting outgoing = refl
payload_same false quiet false waiting outgoing = refl

module _ (setup : Setup) (facts : Facts) (bank : Bank) (holds : HoldsData setup.link.handle bank facts.outgoing)
    (same : facts.encryption.end.phase ≡ facts.encryption.phase) where
  abbrev limit : ℕ
  limit = tx_of facts.control.table.lengths

  abbrev next : Option Piece
  next = bank_next bank setup.link.handle limit

  abbrev left : Bool
  left = nat_lt (next_length bank setup.link.handle limit) (length (bank_unsent bank setup.link.handle))

  next_is : next ≡ next_piece (data_cut facts)
  next_is = cut_same setup.link.handle bank facts.outgoing holds limit

  left_is : left ≡ nat_lt (length (pdu_with (next_piece (data_cut facts))).body) (length (unsent_of (data_cut facts)))
  left_is =
      let count = piece_body next ∙ ap (λ piece. length (pdu_with piece).body) next_is in
      let octets = unsent_same setup.link.handle bank facts.outgoing holds in
      λ i. nat_lt (count i) (length (octets i))

  anew_of : held_fixed_anew next left (held_of setup facts) ≡ held_of setup (fixed_anew facts)
  anew_of =
      let control = is_some (next_control facts) in
      let waiting = waiting_in facts.control.table.queue in
      let quiet = is_quiet_now facts in
      (λ i. in_phase (is_quiet (same i)))
      ∙ (λ i. record (held_of setup (fixed_anew facts)) {
        fixed = pdu_same next left (data_cut facts) next_is left_is control quiet (data_goes facts) waiting i;
        more = more_same next left (data_cut facts) next_is left_is control quiet (data_goes facts) waiting i;
        more_again = waits_again (is_last_of_all facts) control (data_goes facts) quiet waiting (next_is i);
        payload = payload_same control quiet (data_goes facts) waiting (data_cut facts) i;
      })
    where
      -- what is fixed in phase Clear or Secure, or in another
      in_phase : Bool → Held
      in_phase quiet =
          let control = is_some (next_ctrl quiet (control_held facts.control)) in
          let goes = quiet && not (is_disconnecting facts.control.table.closing) in
          record (held_of setup facts) {
            fixed = pdu_fixed_by control goes next;
            fixes_control = control;
            more = more_fixed_by control (waiting_in facts.control.table.queue) quiet goes next left;
            more_again =
                waits_again (is_last_of_all facts) control goes quiet (waiting_in facts.control.table.queue) next;
          }

  fixed_by : (stays : Bool)
      → (if stays then held_of setup facts else held_fixed_anew next left (held_of setup facts))
      ≡ held_of setup (if stays then facts else fixed_anew facts)
  fixed_by true = refl
  fixed_by false = anew_of

  fixed_of : held_fixed next left (held_of setup facts) ≡ held_of setup (facts_fixed facts)
  fixed_of = fixed_by (is_control facts.outgoing.fixed)

pub fixed : (setup : Setup) (held new : Held) (past : List Step) (bank : Bank)
    → new ≡ held_fixed (bank_next bank held.setup.link.handle (limit_of held))
    (nat_lt (next_length bank held.setup.link.handle (limit_of held)) (length (bank_unsent bank held.setup.link.handle))) held
    → Knows setup held past → HoldsData setup.link.handle bank (facts_of setup past).outgoing → Knows setup new (past ++ PduFixed ∷ [])
fixed setup held new past bank is knows holds =
    stepped setup new past PduFixed
    (is ∙ ap (λ (h : Held). held_fixed (bank_next bank h.setup.link.handle (limit_of h))
    (nat_lt (next_length bank h.setup.link.handle (limit_of h)) (length (bank_unsent bank h.setup.link.handle))) h) (held_is setup held past knows)
    ∙ fixed_of setup (facts_of setup past) bank holds (past_phase setup past))

-- ---- the bank has the data

module _ (handle : ℕ) (bank : Bank) where
  holds_by : (control quiet goes : Bool) (waiting : ℕ) (outgoing : Data) → HoldsData handle bank outgoing
      → HoldsData handle bank (data_fixed_by control waiting quiet goes outgoing)
  holds_by true quiet goes waiting outgoing holds = record { packets = holds.packets; complete = holds.complete }
  holds_by false quiet true waiting outgoing holds = record { packets = holds.packets; complete = holds.complete }
  holds_by false quiet false waiting outgoing holds = record { packets = holds.packets; complete = holds.complete }

  holds_fixed : (stays : Bool) (facts : Facts) → HoldsData handle bank facts.outgoing
      → HoldsData handle bank (if stays then facts else fixed_anew facts).outgoing
  holds_fixed true facts holds = holds
  holds_fixed false facts holds =
      let by =
      holds_by (is_some (next_control facts)) (is_quiet_now facts) (data_goes facts)
      (waiting_in facts.control.table.queue) (data_cut facts)
      (record { packets = holds.packets; complete = holds.complete }) in
      record { packets = by.packets; complete = by.complete }

pub fixed_holds : (setup : Setup) (past : List Step) (bank : Bank) → HoldsData setup.link.handle bank (facts_of setup past).outgoing
    → HoldsData setup.link.handle bank (facts_of setup (past ++ PduFixed ∷ [])).outgoing
fixed_holds setup past bank holds =
    let facts = facts_of setup past in
    holds_after setup past PduFixed bank
    (holds_fixed setup.link.handle bank (is_control facts.outgoing.fixed) facts holds)
