-- What an end sends as a new PDU, by what it held as it fixed that PDU: an empty one only where nothing is to go.
use Rattle.std.proofs.Common.{◌≡◌, ℕ, ◌≤◌, ◌&&◌, ◌||◌, not, Bool, true, false, Option, Some, None, is_some, List, refl, sym, ap, ◌∙◌, if◌then◌else◌}
use Rattle.ble_base.specs.declared.roles.Role.TheVariants.{Peripheral}
use Rattle.data_pdu.specs.Header.{header_in}
use Rattle.data_pdu.specs.declared.ctrl.Ctrl.{Ctrl}
use Rattle.journal_leaving.specs.link_model.Acknowledgement.{Acknowledgement, empty_pdu, is_acked}
use Rattle.journal_leaving.specs.link_model.Controls.{pdu_fixed, pdu_of_control}
use Rattle.journal_leaving.specs.link_model.Data.{Data, is_empty, next_piece, pdu_with}
use Rattle.journal_leaving.specs.link_model.End.{facts_after}
use Rattle.journal_leaving.specs.link_model.Facts.{Facts, keyed_of}
use Rattle.journal_leaving.specs.link_model.Fixing.{data_cut}
use Rattle.journal_leaving.specs.link_model.Packets.{good_pdu, pdu_sent}
use Rattle.journal_leaving.specs.link_model.Receiving.{acks_control, has_acknowledged, keyed_acked_if}
use Rattle.journal_leaving.specs.link_model.Setup.{Setup}
use Rattle.journal_leaving.specs.link_model.Step.{PacketReceived, PduFixed}
use Rattle.journal_leaving.specs.journal_data.open_links.OpenLinks.{OpenLink}
use Rattle.journal_fixing.specs.NextPdu.{IsFixedBy, data_waits, lets_data_go, pdu_next}
use Rattle.journal_fixing.specs.PastFixing.{facts_fixing, past_fixing}
use Rattle.journal_fixing.specs.journal_controls.KeyedLines.{has_next}
use Rattle.journal_fixing.specs.link_model.control_end.Answers.{next_ctrl}
use Rattle.journal_fixing.specs.link_model.control_end.Held.{held_of}
use Rattle.journal_fixing.specs.link_model.keyed_control.Keyed.{Keyed}
use Rattle.journal_fixing.specs.link_model.phased_control.Phased.{is_quiet_now}
use Rattle.journal_leaving.proofs.link_model.KnownEnds.{IsPast, step_past}
use Rattle.journal_fixing.proofs.AnsweredPdus.{answer_new}
use Rattle.journal_fixing.proofs.journal_controls.EndSteps.{filled, good_leave}
use Rattle.journal_fixing.proofs.journal_controls.SendsAlike.{SendsAlike, alike_fixed}
use Rattle.journal_fixing.proofs.FixedPdus.{fixed_by, fixed_next, fixing_stays}
use Rattle.journal_fixing.proofs.UnsentOctets.{piece_full}
use Rattle.journal_fixing.proofs.journal_controls.CentralFixed.{IsFree}
use Rattle.journal_sending.specs.WhatWaits.{has_payload_next}
use Rattle.journal_sending.proofs.AckedNext.{never_again, next_stays}
use Rattle.journal_sending.proofs.SameData.{HasSameData, step_same}

pub record SendsNext (held facts : Facts) : Type 0 where
  pub same : HasSameData facts held
  pub filled : 1 ≤ (data_cut held).limit → is_acked facts.acknowledgement ≡ true → is_empty (pdu_sent facts) ≡ true
      → has_payload_next (keyed_of held) (data_waits (data_cut held)) ≡ false

-- the end, with what happened to it before it fixed that PDU
abbrev pub link_fixing : OpenLink → OpenLink
link_fixing link = record { setup = link.setup; past = past_fixing link.past; last_served = 0 }

pub same_fixed : (link : OpenLink) → let held = facts_fixing link.setup link.past in HasSameData (facts_after link.setup held PduFixed) held
same_fixed link = step_same PduFixed (link_fixing link) tt refl

-- ---- no PDU that goes is empty where one is to go

-- a control PDU that waits is not empty, nor is a piece
full_by : (next goes : Bool) (now : Option Ctrl) (cut : Data) → 1 ≤ cut.limit
    → not (is_empty (if next then pdu_of_control now else (if goes then pdu_with (next_piece cut) else empty_pdu))) ≡ (if next then is_some now else goes && data_waits cut)
full_by true goes None cut some = refl
full_by true goes (Some ctrl) cut some = ap not (filled ctrl)
full_by false true now cut some = piece_full cut some
full_by false false now cut some = refl

none_by : (next now other : Bool) → now ≡ next → (if next then now else other) ≡ false → (next || other) ≡ false
none_by true now other same is = absurd (let h : true ≡ false = sym same ∙ is in absurd cc)
none_by false now other same is = is

not_empty : (empty left : Bool) → not empty ≡ left → empty ≡ true → left ≡ false
not_empty empty left is holds = sym is ∙ ap not holds

-- made by any end that has a control PDU next exactly where the one had that fixed it
pub none_is_next : (fixing going : Keyed) (outgoing : Data) → 1 ≤ outgoing.limit → has_next going ≡ has_next fixing
    → is_empty (pdu_next fixing going (next_piece outgoing)) ≡ true → has_payload_next fixing (data_waits outgoing) ≡ false
none_is_next fixing going outgoing some same empty =
    let control = next_ctrl (is_quiet_now going.phased) (held_of going.phased.control) in
    let octets = lets_data_go fixing && data_waits outgoing in
    none_by (has_next fixing) (has_next going) octets same
    (not_empty (is_empty (pdu_next fixing going (next_piece outgoing))) (if has_next fixing then has_next going else octets)
    (full_by (has_next fixing) (lets_data_go fixing) control outgoing some) empty)

-- ---- once it is fixed, and after a good packet is received

module _ (setup : Setup) (held : Facts) (free : IsFree held) where
  abbrev fixed : Facts
  fixed = facts_after setup held PduFixed

  is_fixed : IsFixedBy (keyed_of held) (data_cut held) fixed
  is_fixed = fixed_by setup held free

  fixed_filled : 1 ≤ (data_cut held).limit → is_acked fixed.acknowledgement ≡ true → is_empty (pdu_sent fixed) ≡ true
      → has_payload_next (keyed_of held) (data_waits (data_cut held)) ≡ false
  fixed_filled some acked empty =
      let sent = ap (λ b. if b then pdu_fixed fixed else fixed.acknowledgement.last) acked ∙ fixed_next (keyed_of held) (data_cut held) fixed is_fixed in
      none_is_next (keyed_of held) (keyed_of fixed) (data_cut held) some (ap has_next (fixing_stays setup held)) (ap is_empty (sym sent) ∙ empty)

  pub fixed_sends : HasSameData fixed held → SendsNext held fixed
  fixed_sends same = record { same = same; filled = fixed_filled }

  module _ (p : IsPast setup held) (role : setup.link.role ≡ Peripheral) (slot : ℕ) (octets pdu : List ℕ) (room : Bool) (good : good_pdu setup fixed octets ≡ Some pdu) where
    abbrev heard : Facts
    heard = facts_after setup fixed (PacketReceived slot octets room)

    heard_filled : 1 ≤ (data_cut held).limit → is_acked heard.acknowledgement ≡ true → is_empty (pdu_sent heard) ≡ true
        → has_payload_next (keyed_of held) (data_waits (data_cut held)) ≡ false
    heard_filled some acked empty =
        let acks = acks_control (has_acknowledged fixed (header_in pdu)) fixed in
        let sent = answer_new setup fixed slot octets pdu room (keyed_of held) (data_cut held) role is_fixed good acked in
        let stays = next_stays acks (keyed_of fixed) (never_again setup fixed (step_past setup held PduFixed p) role) in
        none_is_next (keyed_of held) (keyed_acked_if acks (keyed_of fixed)) (data_cut held) some
        (stays ∙ ap has_next (fixing_stays setup held)) (ap is_empty (sym sent) ∙ empty)

    -- also with other words, and after its answer to a request that is withheld
    pub now_sends : HasSameData heard held → (now : Facts) → SendsAlike now heard → SendsNext held now
    now_sends same now alike = record {
      same = record {
        given = ap (λ (o : Data). o.given) alike.outgoing ∙ same.given;
        sent = ap (λ (a : Acknowledgement). a.sent) alike.acknowledgement ∙ same.sent;
      };
      filled = λ some acked empty.
          let was = ap is_acked (sym alike.acknowledgement) ∙ acked in
          let pdus : pdu_sent now ≡ pdu_sent heard =
          ap (λ b. if b then pdu_fixed now else now.acknowledgement.last) acked
          ∙ alike_fixed now heard alike (good_leave slot octets pdu room setup fixed role good) was
          ∙ sym (ap (λ b. if b then pdu_fixed heard else heard.acknowledgement.last) was) in
          heard_filled some was (ap is_empty (sym pdus) ∙ empty);
    }
