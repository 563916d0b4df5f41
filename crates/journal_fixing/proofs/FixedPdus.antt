-- What an end fixes by its procedures, its phase and its data, and what it sends then.
use Rattle.std.proofs.Common.{◌≡◌, ℕ, nat_lt, ◌&&◌, ◌||◌, Bool, true, false, Option, Some, None, [], length, is_some, refl, ap, sym, ◌∙◌, if◌then◌else◌}
use Rattle.data_pdu.specs.declared.ctrl.Ctrl.{Ctrl}
use Rattle.acl_banks.specs.declared.pieces.Piece.{Piece}
use Rattle.journal_controls.specs.KeyedLines.{has_next}
use Rattle.journal_controls.specs.link_model.Acknowledgement.{Pdu, empty_pdu, is_acked}
use Rattle.journal_controls.specs.link_model.Controls.{is_quiet_now, next_control, pdu_fixed, pdu_of_control}
use Rattle.journal_controls.specs.link_model.Data.{Data, data_in, is_control, next_piece, pdu_with, unsent_of}
use Rattle.journal_controls.specs.link_model.End.{facts_after}
use Rattle.journal_controls.specs.link_model.Facts.{Facts, keyed_of}
use Rattle.journal_controls.specs.link_model.Fixing.{data_cut, data_fixed_by, fixed_anew, waits_again}
use Rattle.journal_controls.specs.link_model.Packets.{more_sent, pdu_sent}
use Rattle.journal_controls.specs.link_model.Setup.{Setup}
use Rattle.journal_controls.specs.link_model.Step.{PduFixed}
use Rattle.journal_controls.specs.link_model.control_end.Answers.{next_ctrl}
use Rattle.journal_controls.specs.link_model.control_end.Held.{held_of}
use Rattle.journal_controls.specs.link_model.keyed_control.Keyed.{Keyed}
use Rattle.journal_controls.specs.link_model.phased_control.Phased.{is_quiet_now as is_quiet_phase}
use Rattle.journal_controls.specs.link_model.procedure_stages.Queue.{waiting_in}
use Rattle.journal_controls.proofs.link_model.KeyedSteps.{fixed as fixing_keeps}
use Rattle.journal_fixing.specs.NextPdu.{IsFixedBy, data_pdu_next, data_waits, data_waits_after, is_last_of_all, lets_data_go, more_with_new, more_with_old, pdu_next}
use Rattle.journal_fixing.proofs.UnsentOctets.{data_length, piece_waits}

-- ---- as it fixes its PDU

pub fixing_stays : (setup : Setup) (facts : Facts) → keyed_of (facts_after setup facts PduFixed) ≡ keyed_of facts
fixing_stays setup facts = fixing_keeps (is_control facts.outgoing.fixed) facts

piece_by : (next : Bool) (waiting : ℕ) (quiet goes : Bool) (cut : Data) → next ≡ false
    → (data_fixed_by next waiting quiet goes cut).fixed ≡ (if goes then pdu_with (next_piece cut) else empty_pdu)
piece_by true waiting quiet goes cut none = absurd cc
piece_by false waiting quiet true cut none = refl
piece_by false waiting quiet false cut none = refl

more_by : (control : Option Ctrl) (waiting : ℕ) (quiet goes : Bool) (cut : Data)
    → let waits = data_waits_after (if is_some control then pdu_of_control control else (if goes then pdu_with (next_piece cut) else empty_pdu)) cut in
    (data_fixed_by (is_some control) waiting quiet goes cut).more ≡ (if is_some control then nat_lt 1 waiting || (quiet && waits) else goes && waits)
more_by (Some ctrl) waiting quiet goes cut = ap (λ b. nat_lt 1 waiting || (quiet && b)) (piece_waits cut)
more_by None waiting quiet true cut = ap (λ n. nat_lt n (length (unsent_of cut))) (sym (data_length (next_piece cut)))
more_by None waiting quiet false cut = refl

again_by : (ends next goes quiet : Bool) (waiting : ℕ) (cut : Data)
    → waits_again ends next goes quiet waiting (next_piece cut)
    ≡ (if ends then nat_lt 0 waiting || (quiet && data_waits cut) else next || (goes && data_waits cut))
again_by ends next goes quiet waiting cut = ap (λ b. if ends then nat_lt 0 waiting || (quiet && b) else next || (goes && b)) (piece_waits cut)

pub fixed_by : (setup : Setup) (facts : Facts) → is_control facts.outgoing.fixed ≡ false
    → IsFixedBy (keyed_of facts) (data_cut facts) (facts_after setup facts PduFixed)
fixed_by setup facts free =
    let anew : facts_after setup facts PduFixed ≡ fixed_anew facts = ap (λ b. if b then facts else fixed_anew facts) free in
    let k = keyed_of facts in
    let waiting = waiting_in facts.control.table.queue in record {
      control = ap (λ (f : Facts). f.fixes_control) anew;
      pdu = λ none. ap (λ (f : Facts). f.outgoing.fixed) anew ∙ piece_by (has_next k) waiting (is_quiet_now facts) (lets_data_go k) (data_cut facts) none;
      more = ap (λ (f : Facts). f.outgoing.more) anew ∙ more_by (next_control facts) waiting (is_quiet_now facts) (lets_data_go k) (data_cut facts);
      again =
          ap (λ (f : Facts). f.outgoing.more_again) anew
          ∙ again_by (is_last_of_all k facts.acknowledgement.last) (has_next k) (lets_data_go k) (is_quiet_now facts) waiting (data_cut facts)
          ∙ sym (ap (λ (f : Facts). more_with_old k f.acknowledgement.last (data_waits (data_cut facts))) anew);
    }

-- ---- as it sends

-- a control PDU has no data
no_data : (control : Option Ctrl) → data_in (pdu_of_control control) ≡ []
no_data None = refl
no_data (Some ctrl) = refl

same_data : (next : Bool) (one other : Option Ctrl) (pdu : Pdu)
    → data_in (if next then pdu_of_control one else pdu) ≡ data_in (if next then pdu_of_control other else pdu)
same_data true one other pdu = no_data one ∙ sym (no_data other)
same_data false one other pdu = refl

next_by : (next : Bool) (control : Option Ctrl) (fixed pdu : Pdu) → (next ≡ false → fixed ≡ pdu)
    → (if next then pdu_of_control control else fixed) ≡ (if next then pdu_of_control control else pdu)
next_by true control fixed pdu same = refl
next_by false control fixed pdu same = same refl

module _ (fixing : Keyed) (outgoing : Data) (facts : Facts) (is : IsFixedBy fixing outgoing facts) where
  abbrev piece : Option Piece
  piece = next_piece outgoing

  pub fixed_next : pdu_fixed facts ≡ pdu_next fixing (keyed_of facts) piece
  fixed_next =
      ap (λ b. if b then pdu_of_control (next_control facts) else facts.outgoing.fixed) is.control
      ∙ next_by (has_next fixing) (next_control facts) facts.outgoing.fixed (data_pdu_next fixing piece) is.pdu

  pub more_fixed : (going : Keyed) → facts.outgoing.more ≡ more_with_new fixing (data_waits_after (pdu_next fixing going piece) outgoing)
  more_fixed going =
      is.more
      ∙ ap (λ octets. more_with_new fixing (nat_lt (length octets) (length (unsent_of outgoing))))
      (same_data (has_next fixing) (next_ctrl (is_quiet_phase fixing.phased) (held_of fixing.phased.control))
      (next_ctrl (is_quiet_phase going.phased) (held_of going.phased.control)) (data_pdu_next fixing piece))

  -- a new PDU
  pub new_sent : is_acked facts.acknowledgement ≡ true → pdu_sent facts ≡ pdu_next fixing (keyed_of facts) piece
  new_sent acked = ap (λ b. if b then pdu_fixed facts else facts.acknowledgement.last) acked ∙ fixed_next

  pub more_new : is_acked facts.acknowledgement ≡ true → more_sent facts ≡ more_with_new fixing (data_waits_after (pdu_sent facts) outgoing)
  more_new acked =
      ap (λ b. if b then facts.outgoing.more else facts.outgoing.more_again) acked
      ∙ more_fixed (keyed_of facts) ∙ ap (λ pdu. more_with_new fixing (data_waits_after pdu outgoing)) (sym (new_sent acked))

  -- the last one again
  pub more_old : is_acked facts.acknowledgement ≡ false → more_sent facts ≡ more_with_old fixing facts.acknowledgement.last (data_waits outgoing)
  more_old acked = ap (λ b. if b then facts.outgoing.more else facts.outgoing.more_again) acked ∙ is.again
