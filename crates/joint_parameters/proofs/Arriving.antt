-- What follows of what is known of both tracks in a joint run.
use Rattle.std.proofs.Common.{◌≡◌, inl, inr, ℕ, ◌≤◌, ◌<◌, nat_lt, Bool, true, false, ◌==◌, if◌then◌else◌, List, ◌++◌, Option, Some, None, IfSome, is_none, is_some, option_map, option_to_list, refl, sym, ap, subst, ◌∙◌}
use Rattle.std.specs.List.{All}
use Rattle.std.proofs.lemmas.Bool.{and_parts}
use Rattle.ble_base.specs.ErrorCodes.{instant_passed}
use Rattle.ble_base.specs.declared.error_codes.ErrCode.{ErrCode}
use Rattle.data_pdu.specs.declared.ctrl.Ctrl.{Ctrl}
use Rattle.instants.specs.declared.indications.Indication.{Indication}
use Rattle.instants.specs.declared.indications.Params.{Params}
use Rattle.instants.specs.declared.track.Change.{Change}
use Rattle.joint_controls.specs.procedure_values.Drafts.{ctrl_of_outgoing, indication_of}
use Rattle.two_tracks.specs.TwoEnds.{MayIndicate, MayIndicateIf, TwoEnds, change_of}
use Rattle.two_tracks.specs.TwoEnds as two_ends
use Rattle.joint_controls.specs.control_model.Control.{Control}
use Rattle.joint_controls.proofs.control_model.Sending.{may_of}
use Rattle.joint_controls.specs.control_model.Waits.{kind_awaited, kind_waiting}
use Rattle.joint_controls.specs.phased_control.Phased.{Phased, is_quiet_now}
use Rattle.joint_controls.specs.phased_control.Taken.{Response, phased_after}
use Rattle.joint_controls.specs.Joint.{CentralSends, Clear, Control as control_item, Data, Fixed, Item, Joint, JointStep, OnAir, PeripheralTakes, Taken, Way, after, after_all, beginning, event_now, has_passed, instant_now, is_indication, is_item, is_late, is_running, item_by, item_on_air, last_change, latency_now, may, may_act, next_item, next_out, peripheral_takes, taking}
use Rattle.joint_controls.specs.Ends.{AreStepsInRange, steps_of_central}
use Rattle.joint_controls.proofs.ControlRuns.{peripheral_awaits}
use Rattle.joint_controls.proofs.EndSteps.{central_runs}
use Rattle.joint_controls.proofs.Running.{GoesOn, comes_on, goes_on}
use Rattle.joint_parameters.specs.Indications.{AreAllButLast, EndsLate, changes_taken, indication_of_item, indication_read}
use Rattle.joint_parameters.specs.Views.{view}
use Rattle.joint_parameters.proofs.Codes.{central_other}
use Rattle.joint_parameters.proofs.Ends.{indication_next, late_one}
use Rattle.joint_parameters.proofs.Meeting.{IsComing, Known, MayTake, Meets, same, test}
use Rattle.joint_parameters.proofs.Outcomes.{IsOther}
use Rattle.joint_parameters.proofs.Runs.{Facts, Inv, facts_of, holds_after, may_take_of, nothing_waits, some_indication, taken_as}
use Rattle.joint_parameters.proofs.Taking.{TakenAs, is_over}
use Rattle.joint_parameters.proofs.Tracks.{free_if_over}

module _ (central_rx peripheral_rx : ℕ) (first : Params) (slot : ℕ) (steps : List JointStep) (latency : first.latency ≤ 499) (range : AreStepsInRange steps) where
  abbrev s : Joint
  s = after_all steps (beginning central_rx peripheral_rx first slot)

  abbrev taken : List Change
  taken = changes_taken steps (beginning central_rx peripheral_rx first slot)

  inv : Inv first slot taken s
  inv = holds_after central_rx peripheral_rx first slot latency steps range

  facts : Facts s
  facts = facts_of central_rx peripheral_rx first slot latency steps range

  k : Known first slot taken (view s)
  k = inv.known

  pub meets : is_running s ≡ true → Meets taken (view s)
  meets running = inv.meets running

  -- ---- what was taken of what was sent

  pub front : AreAllButLast taken s.central.control.sent
  front = record { last = k.last; all = k.all }

  pub on_air : is_running s ≡ true → s.central.control.sent ≡ taken ++ option_to_list (instant_now s)
  on_air running = (meets running).all

  pub read_there : is_running s ≡ true → indication_read (item_on_air s.down) ≡ option_map (λ change. change.indication) (instant_now s)
  read_there running = (meets running).read

  -- ---- nothing waits where an indication comes

  running_now : (step : JointStep) → may step s ≡ true → is_running s ≡ true
  running_now step comes = (and_parts (is_running s) (may_act step s) comes).0

  abbrev ends_of : TwoEnds
  ends_of = record (two_ends.beginning first 0 0) { central = s.central.control.track; sent = s.central.control.sent }

  sends_some : (o : Option Ctrl) → is_item is_indication (item_by (next_out s.central) o) ≡ true → is_some (indication_of (next_out s.central) 0 0) ≡ true
  sends_some None is = absurd (cc)
  sends_some (Some ctrl) is = is

  sends_own : (now : ℕ) → may (CentralSends now) s ≡ true → is_item is_indication (next_item s.central) ≡ true
      → All (λ (change : Change). change.at.0 < event_now s.central) s.central.control.sent
  sends_own now comes is = by (indication_next s.central) some may
    where
      lasts : s.central.control.ends ≡ None
      lasts = (goes_on s (running_now (CentralSends now) comes)).central

      may : MayIndicateIf ends_of (indication_next s.central)
      may = may_of s.central.control 0 (is_quiet_now s.central) (facts.indicates lasts) ends_of refl refl

      some : is_some (indication_next s.central) ≡ true
      some =
          sym (some_indication (next_out s.central) (event_now s.central) (latency_now s.central))
          ∙ sends_some (ctrl_of_outgoing (next_out s.central) (event_now s.central) (latency_now s.central)) is

      by : (o : Option Indication) → is_some o ≡ true → MayIndicateIf ends_of o → All (λ (change : Change). change.at.0 < event_now s.central) s.central.control.sent
      by None none own = absurd (cc)
      by (Some indication) one own = own.over

  pub over_at_central : (now : ℕ) → may (CentralSends now) s ≡ true → is_item is_indication (next_item s.central) ≡ true
      → All (λ (change : Change). change.at.0 < event_now s.central) s.central.control.sent
  over_at_central now comes is = sends_own now comes is

  pub free_at_central : (now : ℕ) → may (CentralSends now) s ≡ true → is_item is_indication (next_item s.central) ≡ true
      → is_none s.central.control.track.waits ≡ true
  free_at_central now comes is =
      ap (λ (o : Option Change). is_none o) (free_if_over first slot s.central.control.sent s.central.control.track k.central (sends_own now comes is))

  module _ (now : ℕ) (response : Response) (change : Change) (comes : may (PeripheralTakes now response) s ≡ true) (is : instant_now s ≡ Some change) where
    m : Meets taken (view s)
    m = meets (running_now (PeripheralTakes now response) comes)

    goes : GoesOn s
    goes = comes_on (PeripheralTakes now response) s comes

    may_take : MayTake s.central.control.track s.peripheral.control.track change
    may_take = may_take_of s now response change comes is

    coming : IsComing taken s.central.control.track change
    coming = subst (λ (o : Option Change). IfSome o (IsComing taken s.central.control.track)) is m.coming

    waits_none : s.peripheral.control.track.waits ≡ None
    waits_none = nothing_waits first slot taken s facts goes k m change is may_take

    pub free_at_peripheral : is_none s.peripheral.control.track.waits ≡ true
    free_at_peripheral = ap (λ (o : Option Change). is_none o) waits_none

    pub awaits_none : kind_awaited s.peripheral.control.table.progress ≡ None
    awaits_none =
        (peripheral_awaits central_rx peripheral_rx first slot steps range goes.peripheral).same ∙ ap kind_waiting waits_none

    -- ---- an instant that has passed

    late_is : is_late s ≡ nat_lt change.at.0 (event_now s.peripheral)
    late_is = ap (λ (o : Option Change). has_passed o (event_now s.peripheral)) is

    pub test_is_late : two_ends.has_passed s.peripheral.control.track change ≡ is_late s
    test_is_late = test taken s.central.control.track s.peripheral.control.track change coming may_take ∙ sym late_is

    pub same_event : is_late s ≡ false → change_of (event_now s.peripheral) change.indication ≡ change
    same_event not_late = same taken s.central.control.track s.peripheral.control.track change coming may_take (sym late_is ∙ not_late)

    after_is : after (PeripheralTakes now response) s ≡ peripheral_takes s.down now response s
    after_is = ap (λ (b : Bool). if b then peripheral_takes s.down now response s else s) comes

    reads_as : (item : Item) (sealed : Bool) → s.down ≡ OnAir item sealed → indication_of_item item ≡ Some change.indication
    reads_as item sealed on =
        subst (λ (way : Way). indication_read (item_on_air way) ≡ Some change.indication) on
        (m.read ∙ ap (λ (o : Option Change). option_map (λ (c : Change). c.indication) o) is)

    as_indication : (item : Item) (sealed : Bool) → s.down ≡ OnAir item sealed
        → TakenAs (Some change.indication) s.peripheral.control (phased_after (taking item now response) s.peripheral).control
    as_indication item sealed on =
        subst (λ (i : Option Indication). TakenAs i s.peripheral.control (phased_after (taking item now response) s.peripheral).control)
        (reads_as item sealed on) (taken_as s facts goes item now response)

    -- the item is on the air
    module _ (P : Joint → Type 0) (next : (item : Item) (sealed : Bool) → s.down ≡ OnAir item sealed → P (peripheral_takes (OnAir item sealed) now response s)) where
      on_way : (way : Way) → s.down ≡ way → (if is_item is_indication (item_on_air way) then last_change s.central.control.sent else None) ≡ Some change
          → P (peripheral_takes way now response s)
      on_way Clear on some = absurd (cc)
      on_way (Fixed item sealed) on some = absurd (cc)
      on_way (Taken item) on some = absurd (cc)
      on_way (OnAir item sealed) on some = next item sealed on

      then_next : P (after (PeripheralTakes now response) s)
      then_next = subst P (sym after_is) (on_way s.down refl is)

    record InTime (t : Joint) : Type 0 where
      track : t.peripheral.control.track ≡ record s.peripheral.control.track { waits = Some change }
      not_late : is_late s ≡ false

    in_time : (item : Item) (sealed : Bool) → s.down ≡ OnAir item sealed → (peripheral_takes (OnAir item sealed) now response s).peripheral.control.ends ≡ None
        → InTime (peripheral_takes (OnAir item sealed) now response s)
    in_time item sealed on lasts = by (as_indication item sealed on)
      where
        d : Control
        d = (phased_after (taking item now response) s.peripheral).control

        by : TakenAs (Some change.indication) s.peripheral.control d → InTime (peripheral_takes (OnAir item sealed) now response s)
        by (inl over) = absurd (let both : ◌≡◌ {A = Option ErrCode} None (Some over.code) = sym lasts ∙ over.is in cc)
        by (inr taken_now) =
            let not_late : is_late s ≡ false = sym test_is_late ∙ taken_now.in_time in
            record {
              track =
                  taken_now.track ∙ ap (λ (c : Change). record s.peripheral.control.track { waits = Some c }) (same_event not_late);
              not_late = not_late;
            }

    went_in_time : (after (PeripheralTakes now response) s).peripheral.control.ends ≡ None → InTime (after (PeripheralTakes now response) s)
    went_in_time = then_next (λ t. t.peripheral.control.ends ≡ None → InTime t) in_time

    pub takes_it : (after (PeripheralTakes now response) s).peripheral.control.ends ≡ None
        → (after (PeripheralTakes now response) s).peripheral.control.track ≡ record s.peripheral.control.track { waits = Some change }
    takes_it lasts = (went_in_time lasts).track

    pub only_in_time : (after (PeripheralTakes now response) s).peripheral.control.ends ≡ None → is_late s ≡ false
    only_in_time lasts = (went_in_time lasts).not_late

    late_ends : is_late s ≡ true → (item : Item) (sealed : Bool) → s.down ≡ OnAir item sealed
        → EndsLate (peripheral_takes (OnAir item sealed) now response s).peripheral.control.ends
    late_ends late Data sealed on = absurd (let reads = reads_as Data sealed on in cc)
    late_ends late (control_item outgoing ctrl) sealed on =
        late_one s.peripheral goes.peripheral facts.peripheral facts.kept now response ctrl
        (subst (λ (i : Option Indication). is_over s.peripheral.control.track i ≡ true) (sym (reads_as (control_item outgoing ctrl) sealed on))
        (test_is_late ∙ late))

    pub late_ends_link : is_late s ≡ true → EndsLate (after (PeripheralTakes now response) s).peripheral.control.ends
    late_ends_link late = then_next (λ t. EndsLate t.peripheral.control.ends) (λ item sealed on. late_ends late item sealed on)

  -- ---- the code of an instant that has passed

  pub never_at_central : s.central.control.ends ≡ Some (record { 0 = instant_passed }) → ⊥
  never_at_central is =
      let other = subst (λ (c : Phased). IsOther c.control.ends) (sym (central_runs steps (beginning central_rx peripheral_rx first slot)))
      (central_other central_rx first slot (steps_of_central steps (beginning central_rx peripheral_rx first slot))) in
      no (subst IsOther is other)
    where
      no : (instant_passed == instant_passed) ≡ false → ⊥
      no h = absurd (cc)
