-- Of the two ends of a link at most one has a control PDU on its way to the other.
use Rattle.std.proofs.Common.{◌≡◌, ◌⊎◌, inl, inr, ℕ, ◌||◌, not, Bool, true, false, length, Option, Some, None, is_some, refl, sym, ap, subst, ◌∙◌, arith}
use Rattle.std.proofs.lemmas.Bool.{and_parts, eqb-true}
use Rattle.data_pdu.specs.declared.ctrl.Ctrl.{Ctrl}
use Rattle.joint_laws.specs.joint_controls.Joint.{CentralAcked, CentralEnters, CentralHost, CentralSends, CentralSendsData, CentralTakes, Clear, Control as control_item, Data, Fixed, Item, Joint, JointStep, OnAir, PeripheralAcked, PeripheralEnters, PeripheralFixes, PeripheralFixesData, PeripheralHost, PeripheralSends, PeripheralTakes, Shuts, Taken, Way, act, central_takes, fixed, is_clear, is_fixed, is_free, may, may_transmit, next_item, peripheral_takes, sends_data}
use Rattle.joint_laws.specs.joint_parameters.Turns.{Link}
use Rattle.joint_laws.proofs.joint_controls.Running.{after_each, comes_by}
use Rattle.link_pairs.specs.procedure_values.declared.drafts.Outgoing.{Outgoing}
use Rattle.link_pairs.specs.link_model.phased_control.Taken.{Response}
use Rattle.link_pairs.specs.link_model.Acknowledgement.{Acknowledgement, is_acked}
use Rattle.link_pairs.specs.link_model.Controls.{is_procedure_pdu}
use Rattle.link_pairs.specs.link_model.Data.{is_control, is_empty}
use Rattle.link_pairs.specs.link_model.OneLink.{AreInAgreement}
use Rattle.link_pairs.specs.link_model.Setup.{Setup}
use Rattle.link_pairs.specs.Ends.{AreEnds}
use Rattle.link_pairs.specs.Sound.{first_joint}
use Rattle.link_pairs.specs.Ways.{ShowsWay}
use Rattle.link_pairs.proofs.JointRuns.{has_run}
use Rattle.link_pairs.proofs.Reaching.{IsReached}
use Rattle.link_pairs.proofs.Items.{data_is_no_procedure}

-- ---- in each state of a joint run

abbrev OneIsFree : Joint → Type 0
OneIsFree s = (is_free s.up ≡ true) ⊎ (is_free s.down ≡ true)

fixed_free : (item : Option Item) → is_free (fixed item) ≡ true
fixed_free None = refl
fixed_free (Some item) = refl

taken_up : (way : Way) (slot : ℕ) (s : Joint) → OneIsFree s → OneIsFree (central_takes way slot s)
taken_up Clear slot s h = h
taken_up (Fixed item sealed) slot s h = h
taken_up (OnAir item sealed) slot s h = inl refl
taken_up (Taken item) slot s h = h

taken_down : (way : Way) (slot : ℕ) (response : Response) (s : Joint) → OneIsFree s → OneIsFree (peripheral_takes way slot response s)
taken_down Clear slot response s h = h
taken_down (Fixed item sealed) slot response s h = h
taken_down (OnAir item sealed) slot response s h = inr refl
taken_down (Taken item) slot response s h = h

free_step : (step : JointStep) (s : Joint) → OneIsFree s → may step s ≡ true → OneIsFree (act step s)
free_step (CentralEnters slot) s h comes = h
free_step (CentralHost step) s h comes = h
free_step (CentralSends slot) s h comes =
    let ways = (and_parts (may_transmit s.down s.up) (is_some (next_item s.central)) (comes_by (CentralSends slot) s comes)).0 in
    inl (and_parts (is_clear s.down) (is_free s.up) ways).1
free_step CentralSendsData s h comes =
    let ways = (and_parts (may_transmit s.down s.up) (sends_data s.central) (comes_by CentralSendsData s comes)).0 in
    inl (and_parts (is_clear s.down) (is_free s.up) ways).1
free_step CentralAcked s h comes = inr refl
free_step (CentralTakes slot) s h comes = taken_up s.up slot s h
free_step (PeripheralEnters slot) s h comes = h
free_step (PeripheralHost step) s h comes = h
free_step (PeripheralFixes slot) s h comes = inl (fixed_free (next_item s.peripheral))
free_step PeripheralFixesData s h comes = inl refl
free_step PeripheralSends s h comes = inr (and_parts (is_fixed s.up) (is_free s.down) (comes_by PeripheralSends s comes)).1
free_step PeripheralAcked s h comes = inl refl
free_step (PeripheralTakes slot response) s h comes = taken_down s.down slot response s h
free_step Shuts s h comes = h

module _ (central peripheral : Setup) (ends : AreEnds central peripheral) (l : Link) (reached : IsReached central peripheral l) where
  one_is_free : OneIsFree l.joint
  one_is_free =
      let run = has_run central peripheral ends l reached in
      subst OneIsFree run.reaches (after_each OneIsFree free_step run.steps (first_joint central peripheral) (inl refl))

  turned_free : OneIsFree l.joint → (is_free l.joint.down ≡ true) ⊎ (is_free l.joint.up ≡ true)
  turned_free (inl up) = inr up
  turned_free (inr down) = inl down

  pub crosses_none : (is_free l.joint.up ≡ true) ⊎ (is_free l.joint.down ≡ true)
  crosses_none = one_is_free

  pub crosses_none_back : (is_free l.joint.down ≡ true) ⊎ (is_free l.joint.up ≡ true)
  crosses_none_back = turned_free one_is_free

-- ---- where one has a control PDU on its way, the other has none

pub other_free : (one other : Way) → (is_free one ≡ true) ⊎ (is_free other ≡ true) → (outgoing : Outgoing) (ctrl : Ctrl) (sealed : Bool)
    → one ≡ OnAir (control_item outgoing ctrl) sealed → is_free other ≡ true
other_free one other (inl is) outgoing ctrl sealed on_air = absurd (let no : false ≡ true = ap is_free (sym on_air) ∙ is in cc)
other_free one other (inr is) outgoing ctrl sealed on_air = is

acked_all : (empty acked : Bool) → (empty || acked) ≡ true → not empty ≡ true → acked ≡ true
acked_all true acked shown some = absurd cc
acked_all false acked shown some = shown

-- so its last control PDU was taken
pub none_on_way : (way : Way) (from to : Acknowledgement) → AreInAgreement from to → ShowsWay way from to → is_free way ≡ true
    → is_procedure_pdu from.last ≡ true → length to.accepted ≡ length from.sent
none_on_way Clear from to agreed shown free sends =
    let some = (and_parts (is_control from.last) (not (is_empty from.last)) sends).1 in
    let all = eqb-true from.acked (length from.sent) (acked_all (is_empty from.last) (is_acked from) shown some) in
    let accepted = agreed.from_a.reliable.acked_is_accepted in
    let only = agreed.from_a.reliable.sent_only in
    omega (arith, all, accepted, only)
none_on_way (Fixed item sealed) from to agreed shown free sends = absurd shown
none_on_way (OnAir Data sealed) from to agreed shown free sends =
    absurd (let no : true ≡ false = sym sends ∙ data_is_no_procedure from.last shown.0 in cc)
none_on_way (OnAir (control_item outgoing ctrl) sealed) from to agreed shown free sends = absurd cc
none_on_way (Taken item) from to agreed shown free sends = shown.1.taken
