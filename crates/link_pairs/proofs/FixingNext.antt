-- A peripheral fixes the PDU with which it answers: a control PDU, data, or nothing new.
use Rattle.std.specs.Prelude.{⊤}
use Rattle.std.proofs.Common.{◌≡◌, ℕ, zero, suc, ◌<◌, ◌≤◌, ◌==◌, ◌&&◌, ◌||◌, Bool, true, false, not, List, Option, Some, None, is_none, is_some, length, refl, ap, sym, subst, ◌∙◌, arith, if◌then◌else◌}
use Rattle.ble_base.specs.declared.roles.Role.TheVariants.{Peripheral}
use Rattle.ble_base.specs.declared.error_codes.ErrCode.{ErrCode}
use Rattle.data_pdu.specs.declared.ctrl.Ctrl.{Ctrl}
use Rattle.ack_bit.proofs.Directions.{not-false}
use Rattle.instants.specs.Track.{event_of}
use Rattle.control_octets.specs.procedure_stages.Closing.{is_open}
use Rattle.control_octets.specs.procedures.Sending.{next_ctrl_of}
use Rattle.joint_laws.specs.joint_controls.phased_control.enc_phase.Phases.{seals}
use Rattle.control_octets.specs.control_model.Control.{Control}
use Rattle.control_octets.specs.Fitting.{FitsOctets}
use Rattle.control_octets.proofs.Pdus.{written_short}
use Rattle.control_octets.proofs.Steps.{sent_now_is_read}
use Rattle.link_model.specs.control_end.Answers.{next_ctrl}
use Rattle.link_model.specs.control_end.Held.{held_of}
use Rattle.joint_laws.specs.joint_controls.phased_control.Phased.{Phased}
use Rattle.joint_laws.specs.joint_controls.Joint.{Clear, Control as control_item, Data, Fixed, Item, Joint, PeripheralFixes, PeripheralFixesData, Way, after_all, fixed, is_clear, item_by, may_all, next_item, next_out, sends_data}
use Rattle.joint_laws.specs.joint_parameters.Turns.{Fixing, FixesControl, FixesData, FixesNothing, MayFix, after_acknowledgement, fixing_steps}
use Rattle.link_model.specs.Acknowledgement.{Pdu, is_acked}
use Rattle.link_model.specs.Data.{is_control, is_data, is_empty}
use Rattle.link_model.specs.Controls.{pdu_of_control}
use Rattle.link_model.specs.Facts.{Facts}
use Rattle.link_model.specs.Controls.{is_quiet_now, next_control, pdu_fixed}
use Rattle.link_model.specs.Sending.{control_gone_if}
use Rattle.link_pairs.specs.Ends.{phased_of}
use Rattle.link_pairs.specs.Ways.{IsControlPdu, IsItem}
use Rattle.link_pairs.proofs.PhasedEnds.{gone_phased}
use Rattle.link_pairs.proofs.PeripheralSteps.{fixes_after, fixes_data_after, next_item_is, one_step, sends_data_is, with_end}

-- ---- the next control PDU is read as itself

pub next_is_control : (c : Control) (quiet : Bool) (ctrl : Ctrl) → c.ends ≡ None → FitsOctets c → next_ctrl quiet (held_of c) ≡ Some ctrl
    → IsControlPdu ctrl (pdu_of_control (Some ctrl))
next_is_control c quiet ctrl lasts fits next =
    let now : next_ctrl_of c.table (event_of c.track) c.track.params.latency quiet ≡ Some ctrl =
    ap (λ (ends : Option ErrCode). if is_none ends then next_ctrl_of c.table (event_of c.track) c.track.params.latency quiet else None) (sym lasts) ∙ next in
    let read = sent_now_is_read c quiet ctrl fits now in
    record {
      written_as = refl;
      is_ctrl = read.0;
      read_as = read.1;
    }

-- ---- a control PDU is short (section 2.4.2)

pub control_short : (next : Option Ctrl) → length (pdu_of_control next).body ≤ 24
control_short None = omega arith
control_short (Some ctrl) = written_short ctrl

pub control_bits : (next : Option Ctrl) → (pdu_of_control next).llid < 4
control_bits None = omega arith
control_bits (Some ctrl) = omega arith

-- what is fixed then is a control PDU, or what was fixed before
pub fixed_by : (P : Pdu → Type 0) (goes : Bool) (slot : ℕ) (facts : Facts) → ((next : Option Ctrl) → P (pdu_of_control next)) → P facts.outgoing.fixed
    → P (control_gone_if goes slot facts).outgoing.fixed
fixed_by P false slot facts control other = other
fixed_by P true slot facts control other = by facts.fixes_control
  where
    by : (fixes : Bool) → P (if fixes then pdu_of_control (next_control facts) else facts.outgoing.fixed)
    by true = control (next_control facts)
    by false = other

-- ---- what it fixes

-- where its last PDU is acknowledged, its way holds the one that is fixed, or none where that is empty
pub data IsAnswer (way : Way) (pdu : Pdu) : Type 0 where
  Empty : way ≡ Clear → is_empty pdu ≡ true → IsAnswer way pdu
  Holds : (item : Item) (sealed : Bool) → way ≡ Fixed item sealed → IsItem item pdu → IsAnswer way pdu

-- by whether its last PDU is acknowledged, whether the fixed one is a control PDU, and whether it is data
abbrev pub fixing_of : (acked control data_first : Bool) → Fixing
fixing_of acked control data_first =
    if acked && control then FixesControl else (if acked && data_first then FixesData else FixesNothing)

abbrev pub MayFixNow : Fixing → Joint → Type 0
MayFixNow FixesNothing s = ⊤
MayFixNow FixesControl s = (is_clear s.up ≡ true) × (is_some (next_item s.peripheral) ≡ true)
MayFixNow FixesData s = (is_clear s.up ≡ true) × (sends_data s.peripheral ≡ true)

pub may_fix_after : (fixing : Fixing) (slot : ℕ) (s t : Joint) → after_acknowledgement s ≡ t → MayFixNow fixing t → MayFix fixing slot s
may_fix_after FixesNothing slot s t is may_now = tt
may_fix_after FixesControl slot s t is may_now =
    (subst (λ (x : Joint). is_clear x.up ≡ true) (sym is) may_now.0, subst (λ (x : Joint). is_some (next_item x.peripheral) ≡ true) (sym is) may_now.1)
may_fix_after FixesData slot s t is may_now =
    (subst (λ (x : Joint). is_clear x.up ≡ true) (sym is) may_now.0, subst (λ (x : Joint). sends_data x.peripheral ≡ true) (sym is) may_now.1)

-- a PDU of two bits of LLID that is neither a control PDU nor data is empty
pub empty_else : (pdu : Pdu) → pdu.llid < 4 → is_control pdu ≡ false → is_data pdu ≡ false → is_empty pdu ≡ true
empty_else pdu two_bits control data_first = by pdu.llid pdu.body two_bits control data_first
  where
    by : (llid : ℕ) (body : List ℕ) → llid < 4 → (llid == 3) ≡ false → (((llid == 1) || (llid == 2)) && not (length body == 0)) ≡ false
        → ((llid == 0) || (length body == 0)) ≡ true
    by zero body two_bits control data_first = refl
    by (suc zero) body two_bits control data_first = not-false (length body == 0) data_first
    by (suc (suc zero)) body two_bits control data_first = not-false (length body == 0) data_first
    by (suc (suc (suc zero))) body two_bits control data_first = absurd (cc)
    by (suc (suc (suc (suc more)))) body two_bits control data_first = absurd (omega (arith, two_bits))

some_next : (next : Option Ctrl) → is_some next ≡ true → (ctrl : Ctrl) × (next ≡ Some ctrl)
some_next None is = absurd (cc)
some_next (Some ctrl) is = (ctrl, refl)

module _ (central : Phased) (down way : Way) (slot : ℕ) (facts : Facts) where
  abbrev now : Joint
  now = with_end central down way false (phased_of facts)

  abbrev gone : Bool → Facts
  gone goes = control_gone_if goes slot facts

  pub record FixesNext (acked fixes : Bool) (fixing : Fixing) : Type 0 where
    pub may_fix : MayFixNow fixing now
    pub next_way : Way
    pub leads : may_all (fixing_steps fixing slot) now ≡ true
        → after_all (fixing_steps fixing slot) now ≡ with_end central down next_way false (phased_of (gone (acked && fixes)))
    pub answer : acked ≡ true → IsAnswer next_way (gone (acked && fixes)).outgoing.fixed
    pub same : acked ≡ false → next_way ≡ way

  module _ (lasts : facts.control.ends ≡ None) (fits : FitsOctets facts.control)
      (clear : is_acked facts.acknowledgement ≡ true → way ≡ Clear)
      (control : facts.fixes_control ≡ is_some (next_control facts))
      (data_first :
      is_data facts.outgoing.fixed ≡ true
      → (next_control facts ≡ None) × ((is_quiet_now facts && is_open facts.control.table.closing) ≡ true))
      (none_gone : is_control facts.outgoing.fixed ≡ false) (two_bits : facts.outgoing.fixed.llid < 4) where
    -- its last PDU is not acknowledged
    fixes_later : (fixes : Bool) → FixesNext false fixes FixesNothing
    fixes_later fixes = record { may_fix = tt; next_way = way; leads = λ comes. refl; answer = λ is. absurd (cc); same = λ is. refl }

    fixes_empty : is_acked facts.acknowledgement ≡ true → is_data facts.outgoing.fixed ≡ false → FixesNext true false FixesNothing
    fixes_empty acked none =
        record {
          may_fix = tt;
          next_way = way;
          leads = λ comes. refl;
          answer = λ is. Empty (clear acked) (empty_else facts.outgoing.fixed two_bits none_gone none);
          same = λ is. absurd (cc);
        }

    fixes_control : is_acked facts.acknowledgement ≡ true → facts.fixes_control ≡ true → FixesNext true true FixesControl
    fixes_control acked fixes =
        let x = phased_of facts in
        let next = some_next (next_control facts) (sym control ∙ fixes) in
        let item = control_item (next_out x) next.0 in
        let is : next_item x ≡ Some item = next_item_is x lasts ∙ ap (item_by (next_out x)) next.1 in
        let pdu : pdu_fixed facts ≡ pdu_of_control (Some next.0) = λ i. if fixes i then pdu_of_control (next.1 i) else facts.outgoing.fixed in
        record {
          may_fix = (ap is_clear (clear acked), ap (λ (o : Option Item). is_some o) is);
          next_way = fixed (next_item x);
          leads =
              λ comes. fixes_after central down x slot way (one_step (PeripheralFixes slot) now comes)
              ∙ ap (with_end central down (fixed (next_item x)) false) (sym (gone_phased true slot facts));
          answer =
              λ all. Holds item false (ap fixed is)
              (subst (IsItem item) (sym pdu) (next_is_control facts.control (is_quiet_now facts) next.0 lasts fits next.1));
          same = λ none. absurd (cc);
        }

    fixes_data : is_acked facts.acknowledgement ≡ true → is_data facts.outgoing.fixed ≡ true → FixesNext true false FixesData
    fixes_data acked is =
        let goes = data_first is in
        let sealed = seals Peripheral facts.encryption.phase in
        record {
          may_fix = (ap is_clear (clear acked), sends_data_is (phased_of facts) lasts goes.0 goes.1);
          next_way = Fixed Data sealed;
          leads = λ comes. fixes_data_after central down (phased_of facts) way (one_step PeripheralFixesData now comes);
          answer = λ all. Holds Data sealed refl is;
          same = λ none. absurd (cc);
        }

    fixes_by : (acked fixes has_data : Bool) → is_acked facts.acknowledgement ≡ acked → facts.fixes_control ≡ fixes → is_data facts.outgoing.fixed ≡ has_data
        → FixesNext acked fixes (fixing_of acked fixes has_data)
    fixes_by false fixes has_data all control_is data_is = fixes_later fixes
    fixes_by true true has_data all control_is data_is = fixes_control all control_is
    fixes_by true false true all control_is data_is = fixes_data all data_is
    fixes_by true false false all control_is data_is = fixes_empty all data_is

    pub fixes_next : FixesNext (is_acked facts.acknowledgement) facts.fixes_control
        (fixing_of (is_acked facts.acknowledgement) facts.fixes_control (is_data facts.outgoing.fixed))
    fixes_next = fixes_by (is_acked facts.acknowledgement) facts.fixes_control (is_data facts.outgoing.fixed) refl refl refl
