-- What an end was before the line of a PDU that it sealed, by what it is after that line.
use Rattle.std.proofs.Common.{◌≡◌, ℕ, ◌==◌, Bool, true, false, Option, Some, None, is_none, List, [], ◌∷◌, ◌++◌, refl, sym, ap, subst, ◌∙◌, if◌then◌else◌}
use Rattle.ble_base.specs.declared.roles.Role.{Role}
use Rattle.ble_base.specs.declared.roles.Role.TheVariants.{Central, Peripheral}
use Rattle.ble_base.specs.declared.roles.Side.{Side}
use Rattle.journal.specs.declared.entries.Entry.{Entry}
use Rattle.journal.specs.declared.entries.Entry.TheVariants.{Sent}
use Rattle.journal_controls.specs.KeyedLines.{does_if, keyed_by_all, steps_sending}
use Rattle.journal_controls.specs.LineSteps.{keyed_in_line, keyed_on, turn_now, withholds}
use Rattle.journal_controls.specs.SaidLines.{NoneOpens, moved_by}
use Rattle.journal_controls.specs.journal_ends.Asked.{Words}
use Rattle.journal_controls.specs.journal_links.LinkLines.{where_named}
use Rattle.journal_controls.specs.link_model.Acknowledgement.{Pdu}
use Rattle.journal_controls.specs.link_model.Controls.{is_procedure_pdu}
use Rattle.journal_controls.specs.link_model.enc_phase.Sealing.{after_sending}
use Rattle.journal_controls.specs.link_model.keyed_control.Keyed.{Keyed}
use Rattle.journal_controls.specs.link_model.keyed_control.KeyedSteps.{Sends, keyed_after, keyed_moved}
use Rattle.journal_controls.specs.link_model.phased_control.Taken.{role_now}
use Rattle.journal_controls.proofs.LineFolds.{keyed_more, line_moves}
use Rattle.journal_controls.proofs.journal_acks.TwoStations.{same_number}
use Rattle.journal_controls.proofs.journal_ends.SeenEvents.{unaccepted_by}
use Rattle.journal_controls.proofs.journal_links.LinkLines.{own_side}

-- ---- a line of a new PDU changes the keys and the counters as its sealing does

sends_same : (slot : ℕ) (k : Keyed) → (keyed_after (Sends slot) k).end ≡ k.end
sends_same slot k = by (is_none k.phased.control.ends)
  where
    by : (goes : Bool) → (if goes then keyed_moved (Sends slot) k else k).end ≡ k.end
    by true = refl
    by false = refl

seals_if : (slot : ℕ) (pdu : Pdu) (k : Keyed) (procedure : Bool)
    → (keyed_by_all (does_if procedure (Sends slot) ++ steps_sending Peripheral slot pdu) k).end ≡ after_sending k.end
seals_if slot pdu k true = ap after_sending (sends_same slot k)
seals_if slot pdu k false = refl

sending_seals : (role : Role) (slot : ℕ) (pdu : Pdu) (k : Keyed) → (keyed_by_all (steps_sending role slot pdu) k).end ≡ after_sending k.end
sending_seals Central slot pdu k = seals_if slot pdu k (is_procedure_pdu pdu)
sending_seals Peripheral slot pdu k = refl

-- ---- an end that is open after such a line was open before it

pub record WasSealing (words : Words) (side : Side) (number : ℕ) (front : List Entry) (after : Keyed) : Type 0 where
  pub end : Keyed
  pub is_end : keyed_on words side number front ≡ Some end
  pub sealed : after.end ≡ after_sending end.end

module _ (words : Words) (side : Side) (number : ℕ) (front : List Entry) (count llid : ℕ) (body : List ℕ) where
  abbrev line : Entry
  line = Sent side number count llid body

  named : where_named side number (Some (side, number)) line ≡ line ∷ []
  named = own_side side (if number == number then line ∷ [] else []) ∙ ap (λ b. if b then line ∷ [] else []) (same_number number)

  moves : (k : Keyed) → keyed_in_line words side number front (Some k) line
      ≡ Some (keyed_by_all (steps_sending (role_now k.phased) (turn_now front) (record { llid = llid; body = body })) k)
  moves k =
      line_moves words side number front line k refl (unaccepted_by side front line refl) (subst NoneOpens (sym named) (refl, tt))
      ∙ ap (λ lines. Some (moved_by (withholds side front) (words side front) (turn_now front) lines k)) named

  pub was_sealing : (after : Keyed) → keyed_on words side number (front ++ line ∷ []) ≡ Some after → WasSealing words side number front after
  was_sealing after is = by (keyed_on words side number front) refl
    where
      by : (found : Option Keyed) → keyed_on words side number front ≡ found → WasSealing words side number front after
      by None none =
          absurd (let h : None ≡ Some after =
          ap (λ before. keyed_in_line words side number front before line) (sym none) ∙ sym (keyed_more words side number front line) ∙ is in absurd cc)
      by (Some k) some =
          let moved = keyed_by_all (steps_sending (role_now k.phased) (turn_now front) (record { llid = llid; body = body })) k in
          let h : Some after ≡ Some moved =
          sym is ∙ keyed_more words side number front line ∙ ap (λ before. keyed_in_line words side number front before line) some ∙ moves k in
          let same : after ≡ moved = cc in
          record {
            end = k;
            is_end = some;
            sealed = ap (λ (one : Keyed). one.end) same ∙ sending_seals (role_now k.phased) (turn_now front) (record { llid = llid; body = body }) k;
          }
