-- Only in a step in which it takes an indication whose instant it has passed does a peripheral end the link for that.
use Rattle.std.proofs.Common.{◌≡◌, inl, inr, ℕ, ◌≤◌, ◌==◌, Bool, true, false, if◌then◌else◌, List, [], ◌∷◌, Option, Some, None, option_map, refl, sym, ap, subst, ◌∙◌}
use Rattle.std.specs.Prelude.{⊤}
use Rattle.ble_base.specs.ErrorCodes.{instant_passed}
use Rattle.ble_base.specs.declared.error_codes.ErrCode.{ErrCode}
use Rattle.instants.specs.declared.indications.Indication.{Indication}
use Rattle.instants.specs.declared.indications.Params.{Params}
use Rattle.instants.specs.declared.track.Change.{Change}
use Rattle.joint_controls.specs.phased_control.Phased.{Phased}
use Rattle.joint_controls.specs.phased_control.Taken.{PhasedStep, Response, phased_after, phased_after_all}
use Rattle.joint_controls.specs.Joint.{AnswersRequest, AsksFor, CentralAcked, CentralEnters, CentralHost, CentralSends, CentralSendsData, CentralTakes, Clear, Ends, Fixed, HasKey, HasNoKey, HostStep, Item, Joint, JointStep, OnAir, PeripheralAcked, PeripheralEnters, PeripheralFixes, PeripheralFixesData, PeripheralHost, PeripheralSends, PeripheralTakes, Shuts, Taken, Way, act, after, after_all, beginning, host_step, instant_now, is_late, is_running, item_on_air, may, peripheral_takes, taking}
use Rattle.joint_controls.specs.Ends.{AreStepsInRange, peripheral_does}
use Rattle.joint_controls.proofs.EndSteps.{peripheral_acts}
use Rattle.joint_controls.proofs.Running.{GoesOn, goes_on}
use Rattle.joint_parameters.specs.Indications.{changes_taken, indication_of_item, indication_read, takes_late}
use Rattle.joint_parameters.specs.Views.{view}
use Rattle.joint_parameters.proofs.Ends.{ends_still, takes_none}
use Rattle.joint_parameters.proofs.Arriving.{meets, test_is_late}
use Rattle.joint_parameters.proofs.Meeting.{Meets}
use Rattle.joint_parameters.proofs.Runs.{Facts, facts_of, taken_as}
use Rattle.joint_parameters.proofs.Taking.{TakenAs, is_over}

abbrev is_passed : Option ErrCode → Bool
is_passed None = false
is_passed (Some code) = code.0 == instant_passed

abbrev pub Passed : Option ErrCode
Passed = Some (record { 0 = instant_passed })

none_passed : {X : Type 0} (ends : Option ErrCode) → ends ≡ None → ends ≡ Passed → X
none_passed None is1 is2 = absurd (cc)
none_passed (Some code) is1 is2 = absurd (cc)

-- the steps of a peripheral in which it takes nothing
abbrev AllTakeNone : List PhasedStep → Type 0
AllTakeNone [] = ⊤
AllTakeNone (step ∷ steps) = (takes_none step ≡ true) × AllTakeNone steps

all_still : (steps : List PhasedStep) (p : Phased) → AllTakeNone steps → p.control.ends ≡ None → (phased_after_all steps p).control.ends ≡ None
all_still [] p none is = is
all_still (step ∷ steps) p none is = all_still steps (phased_after step p) none.1 (ends_still p step is none.0 ∙ is)

host_none : (step : HostStep) → takes_none (host_step step) ≡ true
host_none (AsksFor ask) = refl
host_none (AnswersRequest answer) = refl
host_none (Ends reason) = refl
host_none HasKey = refl
host_none HasNoKey = refl

module _ (central_rx peripheral_rx : ℕ) (first : Params) (slot : ℕ) (steps : List JointStep) (latency : first.latency ≤ 499) (range : AreStepsInRange steps) where
  abbrev s : Joint
  s = after_all steps (beginning central_rx peripheral_rx first slot)

  facts : Facts s
  facts = facts_of central_rx peripheral_rx first slot latency steps range

  module _ (goes : GoesOn s) (running : is_running s ≡ true) where
    -- a step in which the peripheral takes nothing
    still : (step : JointStep) → AllTakeNone (peripheral_does step s) → (act step s).peripheral.control.ends ≡ None
    still step none =
        ap (λ (p : Phased). p.control.ends) (peripheral_acts step s) ∙ all_still (peripheral_does step s) s.peripheral none goes.peripheral

    m : Meets (changes_taken steps (beginning central_rx peripheral_rx first slot)) (view s)
    m = meets central_rx peripheral_rx first slot steps latency range running

    by_change : (now : ℕ) (response : Response) (item : Item) (sealed : Bool) (o : Option Change) → may (PeripheralTakes now response) s ≡ true → s.down ≡ OnAir item sealed
        → instant_now s ≡ o → TakenAs (indication_of_item item) s.peripheral.control (phased_after (taking item now response) s.peripheral).control
        → (phased_after (taking item now response) s.peripheral).control.ends ≡ Passed → is_late s ≡ true
    by_change now response item sealed o comes on is (inr goes_with) ends = none_passed _ goes_with.lasts ends
    by_change now response item sealed o comes on is (inl over) ends = by o is
      where
        reads : (o : Option Change) → instant_now s ≡ o → indication_of_item item ≡ option_map (λ (c : Change). c.indication) o
        reads o is =
            subst (λ (way : Way). indication_read (item_on_air way) ≡ option_map (λ (c : Change). c.indication) o) on
            (m.read ∙ ap (λ (x : Option Change). option_map (λ (c : Change). c.indication) x) is)

        code_is : (over.code.0 == instant_passed) ≡ true
        code_is =
            let same : ◌≡◌ {A = Option ErrCode} (Some over.code) Passed = sym over.is ∙ ends in
            subst (λ (e : Option ErrCode). is_passed e ≡ true) (sym same) refl

        by : (o : Option Change) → instant_now s ≡ o → is_late s ≡ true
        by None none =
            absurd (let h : false ≡ true = subst (λ (i : Option Indication). is_over s.peripheral.control.track i ≡ true) (reads None none) (over.over code_is) in cc)
        by (Some change) some =
            sym (test_is_late central_rx peripheral_rx first slot steps latency range now response change comes some)
            ∙ subst (λ (i : Option Indication). is_over s.peripheral.control.track i ≡ true) (reads (Some change) some) (over.over code_is)

    takes_way : (now : ℕ) (response : Response) (way : Way) → may (PeripheralTakes now response) s ≡ true → s.down ≡ way
        → (peripheral_takes way now response s).peripheral.control.ends ≡ Passed → is_late s ≡ true
    takes_way now response Clear comes on ends = none_passed _ goes.peripheral ends
    takes_way now response (Fixed item sealed) comes on ends = none_passed _ goes.peripheral ends
    takes_way now response (Taken item) comes on ends = none_passed _ goes.peripheral ends
    takes_way now response (OnAir item sealed) comes on ends =
        by_change now response item sealed (instant_now s) comes on refl (taken_as s facts goes item now response) ends

    by_step : (step : JointStep) → may step s ≡ true → (act step s).peripheral.control.ends ≡ Passed → takes_late step s ≡ true
    by_step (PeripheralTakes now response) comes ends = takes_way now response s.down comes refl ends
    by_step (PeripheralEnters now) comes ends = none_passed _ (still (PeripheralEnters now) (refl, tt)) ends
    by_step (PeripheralHost host) comes ends = none_passed _ (still (PeripheralHost host) (host_none host, tt)) ends
    by_step (PeripheralFixes now) comes ends = none_passed _ (still (PeripheralFixes now) (refl, tt)) ends
    by_step PeripheralAcked comes ends = none_passed _ (still PeripheralAcked (refl, tt)) ends
    by_step (CentralEnters now) comes ends = none_passed _ (still (CentralEnters now) tt) ends
    by_step (CentralHost host) comes ends = none_passed _ (still (CentralHost host) tt) ends
    by_step (CentralSends now) comes ends = none_passed _ (still (CentralSends now) tt) ends
    by_step CentralSendsData comes ends = none_passed _ (still CentralSendsData tt) ends
    by_step CentralAcked comes ends = none_passed _ (still CentralAcked tt) ends
    by_step (CentralTakes now) comes ends = none_passed _ (still (CentralTakes now) tt) ends
    by_step PeripheralFixesData comes ends = none_passed _ (still PeripheralFixesData tt) ends
    by_step PeripheralSends comes ends = none_passed _ (still PeripheralSends tt) ends
    by_step Shuts comes ends = none_passed _ (still Shuts tt) ends

  pub only_late : (step : JointStep) → is_running s ≡ true → (after step s).peripheral.control.ends ≡ Passed → takes_late step s ≡ true
  only_late step running = by (may step s) refl
    where
      by : (b : Bool) → may step s ≡ b → (if b then act step s else s).peripheral.control.ends ≡ Passed → takes_late step s ≡ true
      by false is ends = none_passed _ (goes_on s running).peripheral ends
      by true is ends = by_step (goes_on s running) running step is ends
