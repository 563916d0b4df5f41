-- A peripheral that hears a packet takes its PDU, or does not: in the joint run, and in what it holds.
use Rattle.std.proofs.Common.{◌≡◌, ℕ, ◌&&◌, Bool, true, false, None, is_none, refl, ap, sym, subst, ◌∙◌}
use Rattle.std.proofs.lemmas.Bool.{and_from}
use Rattle.data_pdu.specs.Layouts.{IsCtrl}
use Rattle.data_pdu.specs.declared.ctrl.Ctrl.{Ctrl}
use Rattle.data_pdu.specs.declared.ctrl.CtrlRead.{CtrlRead}
use Rattle.data_pdu.specs.declared.ctrl.CtrlRead.TheVariants.{Known}
use Rattle.control_octets.specs.procedure_values.declared.drafts.Outgoing.{Outgoing}
use Rattle.joint_laws.specs.joint_controls.phased_control.Phased.{Phased}
use Rattle.joint_laws.specs.joint_controls.phased_control.Taken.{Response, Takes, TakesData, phased_after, response_ctrl}
use Rattle.joint_laws.specs.joint_controls.Joint.{Control as control_item, Data, Joint, JointStep, OnAir, PeripheralTakes, Taken, Way, after_all, is_free, is_terminate, may_all}
use Rattle.joint_laws.specs.joint_parameters.Turns.{step_if}
use Rattle.link_model.specs.phased_end.Taking.{drawn}
use Rattle.link_model.specs.Acknowledgement.{Acknowledgement, Pdu, with_accepted}
use Rattle.link_model.specs.Data.{is_data}
use Rattle.link_model.specs.Facts.{Facts}
use Rattle.link_model.specs.Controls.{is_procedure_pdu}
use Rattle.link_model.specs.Receiving.{accepted_if, code_of, data_taken_if, procedures_give, procedures_take_if, taken_if}
use Rattle.link_model.proofs.Ending.{by_peer}
use Rattle.link_pairs.specs.Ends.{phased_of}
use Rattle.link_pairs.specs.Ways.{IsControlPdu, IsItem, ShowsWay}
use Rattle.link_pairs.proofs.Items.{control_is_no_data, control_is_procedure, data_is_no_procedure, never}
use Rattle.link_pairs.proofs.PhasedEnds.{data_phased, takes_phased}
use Rattle.link_pairs.proofs.PhasedKept.{PhasedFits, PhasedKeeps, data_keeps, stays_kept, taken_keeps}
use Rattle.link_pairs.proofs.PeripheralSteps.{one_step, takes_after, with_end}
use Rattle.link_pairs.proofs.TerminatesNoted.{terminates_nothing}
use Rattle.link_pairs.proofs.Ways.{Arrival, ItemTaken, NothingTaken}

-- ---- what an end holds after it took a PDU, or did not

-- all but its procedures, its encryption, and what it knows of the peer, of lengths and of the end, stays
pub record IsTakenBy (facts now : Facts) : Type 0 where
  pub acknowledgement : now.acknowledgement ≡ facts.acknowledgement
  pub event : now.event ≡ facts.event
  pub outgoing : now.outgoing ≡ facts.outgoing
  pub fixes_control : now.fixes_control ≡ facts.fixes_control
  pub last_good : now.last_good ≡ facts.last_good
  pub acknowledged : now.leaving.acknowledged ≡ facts.leaving.acknowledged
  pub response : now.encryption.response ≡ facts.encryption.response

pub taken_same : (takes takes_data : Bool) (pdu : Pdu) (slot : ℕ) (facts : Facts)
    → IsTakenBy facts (data_taken_if takes_data (procedures_take_if takes pdu slot facts))
taken_same true true pdu slot facts =
    record {
      acknowledgement = refl;
      event = refl;
      outgoing = refl;
      fixes_control = refl;
      last_good = refl;
      acknowledged = by_peer (code_of (procedures_give pdu slot facts).effect) facts.leaving;
      response = refl;
    }
taken_same true false pdu slot facts =
    record {
      acknowledgement = refl;
      event = refl;
      outgoing = refl;
      fixes_control = refl;
      last_good = refl;
      acknowledged = by_peer (code_of (procedures_give pdu slot facts).effect) facts.leaving;
      response = refl;
    }
taken_same false true pdu slot facts =
    record { acknowledgement = refl; event = refl; outgoing = refl; fixes_control = refl; last_good = refl; acknowledged = refl; response = refl }
taken_same false false pdu slot facts =
    record { acknowledgement = refl; event = refl; outgoing = refl; fixes_control = refl; last_good = refl; acknowledged = refl; response = refl }

-- ---- both ends of the joint run, and what the peripheral holds

module _ (central : Phased) (down up : Way) (slot : ℕ) (from to : Acknowledgement) (facts : Facts) (takes accepted : Bool) where
  abbrev response : Response
  response = drawn facts.encryption.response

  abbrev before : Joint
  before = with_end central down up false (phased_of facts)

  abbrev now : Facts
  now = taken_if accepted from.last slot facts

  -- what it came to, if the link goes on
  pub record HasTaken (next_down : Way) : Type 0 where
    pub shown : ShowsWay next_down from (with_accepted accepted from.last to)
    pub free : is_free next_down ≡ true
    pub keeps : PhasedKeeps (phased_of facts) (phased_of now)

  pub record TakesNext : Type 0 where
    pub next_down : Way
    pub stopped : Bool
    pub leads : may_all (step_if takes (PeripheralTakes slot response)) before ≡ true
        → after_all (step_if takes (PeripheralTakes slot response)) before ≡ with_end central next_down up stopped (phased_of now)
    pub taken : stopped ≡ false → HasTaken next_down
    -- it is stopped only where the link ends at this end
    pub lasts : now.control.ends ≡ None → is_none now.leaving.ended_by_peer ≡ true → stopped ≡ false

  module _ (lasts : facts.control.ends ≡ None) (fits : PhasedFits (phased_of facts)) (words : IsCtrl (response_ctrl response)) where
    abbrev step : JointStep
    step = PeripheralTakes slot response

    abbrev given : Facts
    given = accepted_if accepted from.last facts

    -- the link before it, with its PDU on this way
    abbrev on : Way → Joint
    on way = with_end central way up false (phased_of facts)

    abbrev Leads : Bool → Way → Way → Bool → Type 0
    Leads b way next_down stopped =
        may_all (step_if b step) (on way) ≡ true → after_all (step_if b step) (on way) ≡ with_end central next_down up stopped (phased_of now)

    -- what is taken is this, by what it is
    taken_as : (procedure has_data : Bool) → (accepted && is_procedure_pdu from.last) ≡ procedure → (accepted && is_data from.last) ≡ has_data
        → phased_of now ≡ phased_of (data_taken_if has_data (procedures_take_if procedure from.last slot given))
    taken_as procedure has_data one two = λ i. phased_of (data_taken_if (two i) (procedures_take_if (one i) from.last slot given))

    takes_none : takes ≡ false → (accepted && is_procedure_pdu from.last) ≡ false → (accepted && is_data from.last) ≡ false → is_free down ≡ true
        → ShowsWay down from (with_accepted accepted from.last to) → TakesNext
    takes_none is none no_data free shown =
        let left : phased_of now ≡ phased_of facts = taken_as false false none no_data in
        record {
          next_down = down;
          stopped = false;
          leads = subst (λ (b : Bool). Leads b down down false) (sym is) (λ comes. ap (with_end central down up false) (sym left));
          taken = λ goes. record { shown = shown; free = free; keeps = subst (PhasedKeeps (phased_of facts)) (sym left) (stays_kept (phased_of facts) fits) };
          lasts = λ still none. refl;
        }

    takes_data : (sealed : Bool) → down ≡ OnAir Data sealed → takes ≡ true → accepted ≡ true → IsItem Data from.last
        → ShowsWay (Taken Data) from (with_accepted accepted from.last to) → TakesNext
    takes_data sealed way is is_accepted item shown =
        let x = phased_of facts in
        let none = ap (λ (b : Bool). accepted && b) (data_is_no_procedure from.last item) ∙ never accepted in
        let took : phased_of now ≡ phased_after TakesData x =
        taken_as false true none (and_from accepted (is_data from.last) is_accepted item) ∙ data_phased given in
        record {
          next_down = Taken Data;
          stopped = false;
          leads =
              subst (λ (w : Way). Leads takes w (Taken Data) false) (sym way)
              (subst (λ (b : Bool). Leads b (OnAir Data sealed) (Taken Data) false) (sym is)
              (λ comes. takes_after central up x slot response Data sealed (one_step step (on (OnAir Data sealed)) comes)
              ∙ ap (with_end central (Taken Data) up false) (sym took)));
          taken = λ goes. record { shown = shown; free = refl; keeps = subst (PhasedKeeps x) (sym took) (data_keeps x lasts fits) };
          lasts = λ still none. refl;
        }

    -- the procedures take a control PDU
    module _ (outgoing : Outgoing) (ctrl : Ctrl) (is_accepted : accepted ≡ true) (item : IsControlPdu ctrl from.last) where
      took_control : phased_of now ≡ phased_after (Takes (Known ctrl) slot response) (phased_of facts)
      took_control =
          taken_as true false (and_from accepted (is_procedure_pdu from.last) is_accepted (control_is_procedure ctrl from.last item))
          (ap (λ (b : Bool). accepted && b) (control_is_no_data ctrl from.last item) ∙ never accepted)
          ∙ takes_phased from.last slot given ∙ ap (λ (read : CtrlRead). phased_after (Takes read slot response) (phased_of facts)) item.read_as

      lasts_taking : now.control.ends ≡ None → is_none now.leaving.ended_by_peer ≡ true → is_terminate ctrl ≡ false
      lasts_taking still none =
          terminates_nothing ctrl slot from.last facts item
          (ap (λ (b : Bool). (taken_if b from.last slot facts).control.ends) (sym is_accepted) ∙ still)
          (ap (λ (b : Bool). is_none (taken_if b from.last slot facts).leaving.ended_by_peer) (sym is_accepted) ∙ none)

    takes_control : (outgoing : Outgoing) (ctrl : Ctrl) (sealed : Bool) → down ≡ OnAir (control_item outgoing ctrl) sealed → takes ≡ true → accepted ≡ true
        → IsControlPdu ctrl from.last
        → (is_terminate ctrl ≡ false → ShowsWay (Taken (control_item outgoing ctrl)) from (with_accepted accepted from.last to)) → TakesNext
    takes_control outgoing ctrl sealed way is is_accepted item shown =
        let x = phased_of facts in
        let taken_item = Taken (control_item outgoing ctrl) in
        let took = took_control outgoing ctrl is_accepted item in
        record {
          next_down = taken_item;
          stopped = is_terminate ctrl;
          leads =
              subst (λ (w : Way). Leads takes w taken_item (is_terminate ctrl)) (sym way)
              (subst (λ (b : Bool). Leads b (OnAir (control_item outgoing ctrl) sealed) taken_item (is_terminate ctrl)) (sym is)
              (λ comes. takes_after central up x slot response (control_item outgoing ctrl) sealed
              (one_step step (on (OnAir (control_item outgoing ctrl) sealed)) comes)
              ∙ ap (with_end central taken_item up (is_terminate ctrl)) (sym took)));
          taken =
              λ goes. record {
                shown = shown goes;
                free = refl;
                keeps = subst (PhasedKeeps x) (sym took) (taken_keeps slot response ctrl (item.is_ctrl, goes) words x fits lasts);
              };
          lasts = lasts_taking outgoing ctrl is_accepted item;
        }

    pub takes_next : Arrival down from to takes accepted → TakesNext
    takes_next (NothingTaken is none no_data no_count free shown) = takes_none is none no_data free shown
    takes_next (ItemTaken Data sealed way is is_accepted item shown) = takes_data sealed way is is_accepted item (shown refl)
    takes_next (ItemTaken (control_item outgoing ctrl) sealed way is is_accepted item shown) = takes_control outgoing ctrl sealed way is is_accepted item shown
