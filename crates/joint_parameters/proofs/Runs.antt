-- Each step of a joint run keeps what is known of both tracks.
use Rattle.std.proofs.Common.{◌≡◌, ◌⊎◌, inl, inr, ℕ, ◌+◌, ◌<◌, ◌≤◌, nat_lt, Bool, true, false, not, ◌||◌, if◌then◌else◌, List, [], ◌∷◌, ◌++◌, Option, Some, None, is_none, is_some, IfSome, option_map, option_to_list, refl, sym, ap, subst, ◌∙◌, arith, append_assoc}
use Rattle.std.proofs.lemmas.Bool.{and_parts}
use Rattle.std.proofs.lemmas.List.{append-nil}
use Rattle.ble_base.specs.declared.error_codes.ErrCode.{ErrCode}
use Rattle.ble_base.specs.declared.roles.Role.{Role}
use Rattle.ble_base.specs.declared.roles.Role.TheVariants.{Central, Peripheral}
use Rattle.data_pdu.specs.declared.ctrl.Ctrl.{Ctrl}
use Rattle.joint_controls.specs.enc_phase.Phases.{seals}
use Rattle.instants.specs.declared.indications.Params.{Params}
use Rattle.instants.specs.declared.indications.Indication.{Indication}
use Rattle.instants.specs.declared.track.Change.{Change}
use Rattle.instants.specs.Track.{TrackFacts, event_of, track_after_enter, track_after_take}
use Rattle.joint_controls.specs.procedure_values.declared.drafts.Draft.{Draft}
use Rattle.joint_controls.specs.procedure_values.declared.drafts.Draft.TheVariants.{Cipher}
use Rattle.joint_controls.specs.procedure_values.declared.drafts.Draft.TheVariants as draft
use Rattle.joint_controls.specs.procedure_values.declared.drafts.Outgoing.{Outgoing}
use Rattle.joint_controls.specs.procedure_values.declared.drafts.Outgoing.TheVariants.{Nothing, Rejection, Disconnect, Other}
use Rattle.joint_controls.specs.procedure_values.Drafts.{ctrl_of_draft, ctrl_of_outgoing, indication_of, indication_of_draft}
use Rattle.two_tracks.specs.TwoEnds.{MayIndicate, MayIndicateIf, TwoEnds, change_of}
use Rattle.two_tracks.specs.TwoEnds as two_ends
use Rattle.joint_controls.proofs.control_model.Indicating.{Indicates}
use Rattle.joint_controls.proofs.control_model.Sending.{may_of}
use Rattle.joint_controls.specs.phased_control.Phased.{Phased, is_quiet_now}
use Rattle.joint_controls.specs.phased_control.Taken.{PhasedStep, Response, SeesAcknowledged, Sends, phased_after, role_now}
use Rattle.joint_controls.proofs.phased_control.Kept.{none_at_peripheral}
use Rattle.joint_controls.proofs.phased_control.Moving.{keeps_role}
use Rattle.joint_controls.specs.Joint.{AnswersRequest, AsksFor, CentralAcked, CentralEnters, CentralHost, CentralSends, CentralSendsData, CentralTakes, Clear, Control as control_item, Data, Ends, Fixed, HasKey, HasNoKey, HostStep, Item, Joint, JointStep, OnAir, PeripheralAcked, PeripheralEnters, PeripheralFixes, PeripheralFixesData, PeripheralHost, PeripheralSends, PeripheralTakes, Shuts, Taken, Way, act, after, after_all, beginning, central_takes, event_now, has_passed, host_step, instant_now, is_clear, is_free, is_indication, is_item, is_last, is_late, is_near, is_running, is_same_event, is_supervised, is_taken, item_by, item_on_air, last_change, latency_now, may, may_act, may_transmit, next_item, next_out, no_response, on_air, peripheral_takes, sends_data, taking}
use Rattle.joint_controls.specs.Ends.{AreStepsInRange, IsStepInRange, steps_of_central, steps_of_peripheral}
use Rattle.joint_controls.proofs.ControlRuns.{central_indicates}
use Rattle.joint_controls.proofs.EndSteps.{central_runs, peripheral_runs}
use Rattle.joint_controls.proofs.Running.{GoesOn, clear_way, comes_by, comes_on, goes_on, taken_way}
use Rattle.joint_parameters.specs.Indications.{changes_taken, indication_in, indication_of_item, indication_read, new_change}
use Rattle.joint_parameters.specs.Views.{View, change_on_air, view}
use Rattle.joint_parameters.proofs.Drafts.{IsPlainOut, next_is_plain}
use Rattle.joint_parameters.proofs.Ends.{enters_one, enters_sent, indication_next, sends_one, stays, stays_sent, stays_track, takes_data, takes_one}
use Rattle.joint_parameters.proofs.Meeting.{IsComing, Known, MayTake, Meets, all_over, central_enters, central_enters_on, none_on_air, peripheral_enters, peripheral_enters_on, same, same_known, sends_known, sends_meets, test, with_indication}
use Rattle.joint_parameters.proofs.PlainEnds.{IsPlainEnd, plain_now}
use Rattle.joint_parameters.proofs.Taking.{TakenAs, is_over, track_with}
use Rattle.joint_parameters.proofs.Tracks.{free_if_over, none_new, none_new_entered, taken_first, taken_more}

-- what is known of each end alone
pub record Facts (s : Joint) : Type 0 where
  pub central : IsPlainEnd s.central
  pub peripheral : role_now s.peripheral ≡ Peripheral
  pub kept : s.peripheral.kept ≡ None
  pub indicates : s.central.control.ends ≡ None → Indicates s.central.control

-- ---- what a PDU of the central is read as

pub some_indication : (outgoing : Outgoing) (event latency : ℕ) → is_some (indication_of outgoing 0 0) ≡ is_some (indication_of outgoing event latency)
some_indication Nothing event latency = refl
some_indication (Rejection rejection) event latency = refl
some_indication (Disconnect code) event latency = refl
some_indication (Other (draft.Update params)) event latency = refl
some_indication (Other (draft.Grant params)) event latency = refl
some_indication (Other (draft.Map map)) event latency = refl
some_indication (Other other) event latency = refl

none_in : {A : Type 0} (o : Option A) → is_none o ≡ true → o ≡ None
none_in None is = refl
none_in (Some a) is = absurd (cc)

draft_read : (d : Draft) (event latency : ℕ) → IsPlainOut (Other d) → indication_in (ctrl_of_draft d event latency) ≡ indication_of_draft d event latency
draft_read (draft.Update params) event latency plain = refl
draft_read (draft.Grant params) event latency plain = refl
draft_read (draft.Map map) event latency plain = refl
draft_read (Cipher ctrl) event latency plain = none_in (indication_in ctrl) plain
draft_read other event latency plain = refl

out_read : (outgoing : Outgoing) (event latency : ℕ) (ctrl : Ctrl) → IsPlainOut outgoing → ctrl_of_outgoing outgoing event latency ≡ Some ctrl
    → indication_in ctrl ≡ indication_of outgoing event latency
out_read outgoing event latency ctrl plain is = by outgoing plain is
  where
    some_same : (x y : Ctrl) → ◌≡◌ {A = Option Ctrl} (Some x) (Some y) → x ≡ y
    some_same x y e = cc

    by : (o : Outgoing) → IsPlainOut o → ctrl_of_outgoing o event latency ≡ Some ctrl → indication_in ctrl ≡ indication_of o event latency
    by Nothing p e = absurd (cc)
    by (Rejection rejection) p e = ap indication_in (sym (some_same _ ctrl e))
    by (Disconnect code) p e = ap indication_in (sym (some_same _ ctrl e))
    by (Other d) p e = ap indication_in (sym (some_same (ctrl_of_draft d event latency) ctrl e)) ∙ draft_read d event latency p

-- ---- the steps that leave the tracks

pub host_stays : (role : Role) (step : HostStep) → stays role (host_step step) ≡ true
host_stays Central (AsksFor ask) = refl
host_stays Central (AnswersRequest answer) = refl
host_stays Central (Ends reason) = refl
host_stays Central HasKey = refl
host_stays Central HasNoKey = refl
host_stays Peripheral (AsksFor ask) = refl
host_stays Peripheral (AnswersRequest answer) = refl
host_stays Peripheral (Ends reason) = refl
host_stays Peripheral HasKey = refl
host_stays Peripheral HasNoKey = refl

taking_stays : (item : Item) (slot : ℕ) (response : Response) → stays Central (taking item slot response) ≡ true
taking_stays Data slot response = refl
taking_stays (control_item outgoing ctrl) slot response = refl

abbrev view_of : Way → List Change → TrackFacts → TrackFacts → View
view_of down sent central peripheral = record { down = down; sent = sent; central = central; peripheral = peripheral }

module _ (s : Joint) (f : Facts s) (g : GoesOn s) where
  pub central_stays : (step : PhasedStep) (way : Way) → stays Central step ≡ true
      → view_of way (phased_after step s.central).control.sent (phased_after step s.central).control.track s.peripheral.control.track
      ≡ record (view s) { down = way }
  central_stays step way is =
      λ i. view_of way (stays_sent s.central step g.central is i) (stays_track s.central Central step g.central f.central.role is i) s.peripheral.control.track

  pub peripheral_stays : (step : PhasedStep) → stays Peripheral step ≡ true
      → record (view s) { peripheral = (phased_after step s.peripheral).control.track } ≡ view s
  peripheral_stays step is = λ i. record (view s) { peripheral = stays_track s.peripheral Peripheral step g.peripheral f.peripheral is i }

  pub up_stays : (way : Way) (slot : ℕ) → view (central_takes way slot s) ≡ view s
  up_stays Clear slot = refl
  up_stays (Fixed item sealed) slot = refl
  up_stays (Taken item) slot = refl
  up_stays (OnAir item sealed) slot = central_stays (taking item slot no_response) s.down (taking_stays item slot no_response)

-- ---- a peripheral takes what is on its way

pub taken_as : (s : Joint) → Facts s → GoesOn s → (item : Item) (now : ℕ) (response : Response)
    → TakenAs (indication_of_item item) s.peripheral.control (phased_after (taking item now response) s.peripheral).control
taken_as s f g Data now response = takes_data s.peripheral g.peripheral f.peripheral f.kept
taken_as s f g (control_item outgoing ctrl) now response = takes_one s.peripheral g.peripheral f.peripheral f.kept now response ctrl

-- ---- no indication is on its way

none_clear : (way : Way) (sent : List Change) → is_clear way ≡ true → (if is_item is_indication (item_on_air way) then last_change sent else None) ≡ None
none_clear way sent is = clear_way (λ (w : Way). (if is_item is_indication (item_on_air w) then last_change sent else None) ≡ None) way is refl

none_taken : (way : Way) (sent : List Change) → is_taken way ≡ true → (if is_item is_indication (item_on_air way) then last_change sent else None) ≡ None
none_taken way sent is = taken_way (λ (w : Way). (if is_item is_indication (item_on_air w) then last_change sent else None) ≡ None) way is (λ item. refl)

-- ---- the step keeps what is known

module _ (first : Params) (slot : ℕ) where
  -- with the view as an argument
  pub record Holds (taken : List Change) (t : Joint) (v : View) : Type 0 where
    pub known : Known first slot taken v
    pub meets : is_running t ≡ true → Meets taken v

  abbrev pub Inv : List Change → Joint → Type 0
  Inv taken t = Holds taken t (view t)

  abbrev pub waiting : Joint → Option Change
  waiting s = s.peripheral.control.track.waits

  abbrev pub Next : List Change → Joint → Joint → Type 0
  Next taken s t = Inv (taken ++ new_change (waiting s) (waiting t)) t

  goes_to : (taken more : List Change) (s t : Joint) (v : View) → view t ≡ v → new_change (waiting s) v.peripheral.waits ≡ more → Holds (taken ++ more) t v → Next taken s t
  goes_to taken more s t v is new h =
      subst (λ (w : View). Holds (taken ++ new_change (waiting s) w.peripheral.waits) t w) (sym is)
      (subst (λ (xs : List Change). Holds (taken ++ xs) t v) (sym new) h)

  stays_at : (taken : List Change) (s t : Joint) (v : View) → view t ≡ v → new_change (waiting s) v.peripheral.waits ≡ [] → Holds taken t v → Next taken s t
  stays_at taken s t v is new h = goes_to taken [] s t v is new (subst (λ (xs : List Change). Holds xs t v) (sym (append-nil taken)) h)

  -- the central sends a PDU in place of one that it saw acknowledged, or data, or sees it acknowledged
  way_changes : (taken : List Change) (s t : Joint) (way : Way) → view t ≡ record (view s) { down = way } → change_on_air (view s) ≡ None
      → is_item is_indication (item_on_air way) ≡ false → indication_read (item_on_air way) ≡ None → Known first slot taken (view s) → Meets taken (view s)
      → Next taken s t
  way_changes taken s t way is none plain reads k m =
      stays_at taken s t (record (view s) { down = way }) is (none_new (waiting s))
      (record {
        known = same_known first slot taken (view s) way k;
        meets = λ running. none_on_air first slot taken (view s) way none plain reads m;
      })

  module _ (taken : List Change) (s : Joint) (f : Facts s) (g : GoesOn s) (k : Known first slot taken (view s)) (m : Meets taken (view s)) where
    same_all : (t : Joint) → view t ≡ view s → Next taken s t
    same_all t is = stays_at taken s t (view s) is (none_new (waiting s)) (record { known = k; meets = λ running. m })

    central_goes : (now : ℕ) → Next taken s (act (CentralEnters now) s)
    central_goes now =
        stays_at taken s (act (CentralEnters now) s) (record (view s) { central = track_after_enter s.central.control.track })
        (λ i. view_of s.down (enters_sent s.central now g.central i) (enters_one s.central Central now g.central f.central.role i) s.peripheral.control.track)
        (none_new (waiting s))
        (record { known = central_enters first slot taken (view s) k; meets = λ running. central_enters_on first slot taken (view s) m })

    peripheral_goes : (now : ℕ) → Next taken s (act (PeripheralEnters now) s)
    peripheral_goes now =
        stays_at taken s (act (PeripheralEnters now) s) (record (view s) { peripheral = track_after_enter s.peripheral.control.track })
        (λ i. record (view s) { peripheral = enters_one s.peripheral Peripheral now g.peripheral f.peripheral i })
        (none_new_entered s.peripheral.control.track)
        (record { known = peripheral_enters first slot taken (view s) k; meets = λ running. peripheral_enters_on first slot taken (view s) m })

    -- ---- the central sends a control PDU

    abbrev ends_of : TwoEnds
    ends_of = record (two_ends.beginning s.central.control.track.params 0 0) { central = s.central.control.track; sent = s.central.control.sent }

    abbrev event : ℕ
    event = event_now s.central

    abbrev latency : ℕ
    latency = latency_now s.central

    abbrev seals_now : Bool
    seals_now = seals Central s.central.phase

    abbrev sends_with : (now : ℕ) → Option Ctrl → Joint
    sends_with now o =
        record s { central = phased_after (Sends now) s.central; down = on_air (item_by (next_out s.central) o) seals_now }

    may_indicate : MayIndicateIf ends_of (indication_next s.central)
    may_indicate = may_of s.central.control 0 (is_quiet_now s.central) (f.indicates g.central) ends_of refl refl

    out_plain : IsPlainOut (next_out s.central)
    out_plain = next_is_plain s.central.control.table event (is_quiet_now s.central) f.central.drafts

    sends_view : (now : ℕ) (ctrl : Ctrl)
        → view (sends_with now (Some ctrl))
        ≡ view_of (OnAir (control_item (next_out s.central) ctrl) seals_now) (two_ends.after_sending (indication_next s.central) ends_of).sent
        (two_ends.after_sending (indication_next s.central) ends_of).central s.peripheral.control.track
    sends_view now ctrl =
        let one = sends_one s.central now ends_of g.central f.central.role refl refl in
        λ i. view_of (OnAir (control_item (next_out s.central) ctrl) seals_now) (one.1 i) (one.0 i) s.peripheral.control.track

    sends_by : (now : ℕ) (ctrl : Ctrl) (o : Option Indication) → indication_next s.central ≡ o → ctrl_of_outgoing (next_out s.central) event latency ≡ Some ctrl
        → is_clear s.down ≡ true → Next taken s (sends_with now (Some ctrl))
    sends_by now ctrl None none is clear =
        let t = sends_with now (Some ctrl) in
        let way = OnAir (control_item (next_out s.central) ctrl) seals_now in
        way_changes taken s t way
        (sends_view now ctrl
        ∙ ap (λ (o : Option Indication). view_of way (two_ends.after_sending o ends_of).sent (two_ends.after_sending o ends_of).central s.peripheral.control.track) none)
        (none_clear s.down s.central.control.sent clear)
        (some_indication (next_out s.central) event latency ∙ ap (λ (o : Option Indication). is_some o) none)
        (out_read (next_out s.central) event latency ctrl out_plain is ∙ none) k m
    sends_by now ctrl (Some indication) some is clear =
        let t = sends_with now (Some ctrl) in
        let item = control_item (next_out s.central) ctrl in
        let way = OnAir item seals_now in
        let none = none_clear s.down s.central.control.sent clear in
        let all : s.central.control.sent ≡ taken =
        subst (λ (o : Option Change). s.central.control.sent ≡ taken ++ option_to_list o) none m.all ∙ append-nil taken in
        let own : MayIndicate ends_of indication = subst (MayIndicateIf ends_of) some may_indicate in
        stays_at taken s t (with_indication first slot taken (view s) indication item seals_now)
        (sends_view now ctrl
        ∙ ap (λ (o : Option Indication). view_of way (two_ends.after_sending o ends_of).sent (two_ends.after_sending o ends_of).central s.peripheral.control.track) some)
        (none_new (waiting s))
        (record {
          known = sends_known first slot taken (view s) indication item seals_now all own.over own.ahead k;
          meets =
              λ running. sends_meets first slot taken (view s) indication item seals_now all own.over own.ahead own.near
              (some_indication (next_out s.central) event latency ∙ ap (λ (o : Option Indication). is_some o) some)
              (out_read (next_out s.central) event latency ctrl out_plain is ∙ some);
        })

    sends_goes : (now : ℕ) (o : Option Ctrl) → ctrl_of_outgoing (next_out s.central) event latency ≡ o → is_some (item_by (next_out s.central) o) ≡ true
        → is_clear s.down ≡ true → Next taken s (sends_with now o)
    sends_goes now None is some clear = absurd (cc)
    sends_goes now (Some ctrl) is some clear = sends_by now ctrl (indication_next s.central) refl is clear

    -- ---- the peripheral takes what is on its way

    abbrev takes_with : (item : Item) (now : ℕ) (response : Response) → Joint
    takes_with item now response =
        record s { peripheral = phased_after (taking item now response) s.peripheral; down = Taken item; stopped = is_last item }

    -- no indication, or none that is followed
    takes_other : (item : Item) (t : Joint) → view t ≡ record (view s) { down = Taken item } → change_on_air (view s) ≡ None → Next taken s t
    takes_other item t is none = way_changes taken s t (Taken item) is none refl refl k m

    not_running : (t : Joint) (code : ErrCode) → t.peripheral.control.ends ≡ Some code → is_running t ≡ true → ⊥
    not_running t code is running =
        let both : ◌≡◌ {A = Option ErrCode} (Some code) None = sym is ∙ (goes_on t running).peripheral in absurd (cc)

    -- it ends the link
    takes_ending : (item : Item) (t : Joint) (code : ErrCode) → view t ≡ record (view s) { down = Taken item } → t.peripheral.control.ends ≡ Some code → Next taken s t
    takes_ending item t code is ends =
        stays_at taken s t (record (view s) { down = Taken item }) is (none_new (waiting s))
        (record { known = same_known first slot taken (view s) (Taken item) k; meets = λ running. absurd (not_running t code ends running) })

    module _ (change : Change) (some : change_on_air (view s) ≡ Some change)
        (may_take : MayTake s.central.control.track s.peripheral.control.track change) where
      coming : IsComing taken s.central.control.track change
      coming = subst (λ (o : Option Change). IfSome o (IsComing taken s.central.control.track)) some m.coming

      pub nothing_waits : s.peripheral.control.track.waits ≡ None
      nothing_waits =
          free_if_over first slot taken s.peripheral.control.track k.peripheral
          (all_over taken s.central.control.track s.peripheral.control.track change coming may_take)

      all_sent : s.central.control.sent ≡ taken ++ change ∷ []
      all_sent = subst (λ (o : Option Change). s.central.control.sent ≡ taken ++ option_to_list o) some m.all

      takes_change : (item : Item) (t : Joint) → view t ≡ record (view s) { down = Taken item; peripheral = track_after_take s.peripheral.control.track change.indication }
          → nat_lt change.at.0 (event_now s.peripheral) ≡ false → Next taken s t
      takes_change item t is in_time =
          let p = s.peripheral.control.track in
          let named = same taken s.central.control.track p change coming may_take in_time in
          let v = record (view s) { down = Taken item; peripheral = track_after_take p change.indication } in
          let all : s.central.control.sent ≡ (taken ++ change ∷ []) ++ [] = all_sent ∙ sym (append-nil (taken ++ change ∷ [])) in
          let new : new_change (waiting s) (Some (change_of (event_of p) change.indication)) ≡ change ∷ [] =
          ap (λ (w : Option Change). new_change w (Some (change_of (event_of p) change.indication))) nothing_waits ∙ ap (λ (c : Change). c ∷ []) named in
          goes_to taken (change ∷ []) s t v is new
          (record {
            known = record {
              central = k.central;
              peripheral = taken_more first slot taken p change.indication change nothing_waits named coming.started k.peripheral;
              last = None;
              all = all;
            };
            meets = λ running. record { all = all; coming = tt; read = refl };
          })

      late_is : nat_lt change.at.0 (event_now s.peripheral) ≡ two_ends.has_passed s.peripheral.control.track change
      late_is = sym (test taken s.central.control.track s.peripheral.control.track change coming may_take)

    takes_by : (item : Item) (now : ℕ) (response : Response) (o : Option Change) → change_on_air (view s) ≡ o
        → indication_of_item item ≡ option_map (λ (change : Change). change.indication) o
        → ((change : Change) → o ≡ Some change → MayTake s.central.control.track s.peripheral.control.track change)
        → TakenAs (indication_of_item item) s.peripheral.control (phased_after (taking item now response) s.peripheral).control
        → Next taken s (takes_with item now response)
    takes_by item now response o is reads rule (inl over) =
        takes_ending item (takes_with item now response) over.code (λ i. record (view s) { down = Taken item; peripheral = over.track i }) over.is
    takes_by item now response None is reads rule (inr goes) =
        let track = subst (λ (i : Option Indication). (phased_after (taking item now response) s.peripheral).control.track ≡ track_with i s.peripheral.control.track) reads goes.track in
        takes_other item (takes_with item now response) (λ i. record (view s) { down = Taken item; peripheral = track i }) is
    takes_by item now response (Some change) is reads rule (inr goes) =
        let may_take = rule change refl in
        let track = subst (λ (i : Option Indication). (phased_after (taking item now response) s.peripheral).control.track ≡ track_with i s.peripheral.control.track) reads goes.track in
        let in_time : two_ends.has_passed s.peripheral.control.track change ≡ false =
        subst (λ (i : Option Indication). is_over s.peripheral.control.track i ≡ false) reads goes.in_time in
        takes_change change is may_take item (takes_with item now response) (λ i. record (view s) { down = Taken item; peripheral = track i })
        (late_is change is may_take ∙ in_time)

    takes_goes : (way : Way) (now : ℕ) (response : Response) → s.down ≡ way
        → ((change : Change) → instant_now s ≡ Some change → MayTake s.central.control.track s.peripheral.control.track change)
        → Next taken s (peripheral_takes way now response s)
    takes_goes Clear now response is rule = same_all s refl
    takes_goes (Fixed item sealed) now response is rule = same_all s refl
    takes_goes (Taken item) now response is rule = same_all s refl
    takes_goes (OnAir item sealed) now response is rule =
        takes_by item now response (change_on_air (view s)) refl
        (subst (λ (way : Way). indication_read (item_on_air way) ≡ option_map (λ (change : Change). change.indication) (change_on_air (view s))) is m.read)
        rule (taken_as s f g item now response)

-- ---- when it may take

or_parts : (a b : Bool) → (a || b) ≡ true → (a ≡ true) ⊎ (b ≡ true)
or_parts true b is = inl refl
or_parts false b is = inr is

pub may_take_of : (s : Joint) (now : ℕ) (response : Response) (change : Change) → may (PeripheralTakes now response) s ≡ true → instant_now s ≡ Some change
    → MayTake s.central.control.track s.peripheral.control.track change
may_take_of s now response change comes is =
    let one = and_parts (is_some (item_on_air s.down)) _ (comes_by (PeripheralTakes now response) s comes) in
    let two = and_parts (not (is_taken s.up)) _ one.1 in
    let three = and_parts (is_same_event s || is_late s) (is_supervised s) two.1 in
    let near : nat_lt (event_now s.peripheral) (change.at.0 + 32769) ≡ true =
    subst (λ (o : Option Change). is_near o (event_now s.peripheral) ≡ true) is three.1 in
    record { meets = by (or_parts (is_same_event s) (is_late s) three.0); near = grind arith }
  where
    late : is_late s ≡ true → nat_lt change.at.0 (event_now s.peripheral) ≡ true
    late h = subst (λ (o : Option Change). has_passed o (event_now s.peripheral) ≡ true) is h

    by : (is_same_event s ≡ true) ⊎ (is_late s ≡ true) → (event_now s.central ≡ event_now s.peripheral) ⊎ (change.at.0 < event_now s.peripheral)
    by (inl h) = inl (grind arith)
    by (inr h) = let over = late h in inr (grind arith)

-- ---- every step

module _ (first : Params) (slot : ℕ) where
  step_keeps : (step : JointStep) (s : Joint) (taken : List Change) → Facts s → Inv first slot taken s → may step s ≡ true → Next first slot taken s (act step s)
  step_keeps step s taken f inv comes = by step comes
    where
      g : GoesOn s
      g = comes_on step s comes

      k : Known first slot taken (view s)
      k = inv.known

      m : Meets taken (view s)
      m = inv.meets (and_parts (is_running s) (may_act step s) comes).0

      by : (step : JointStep) → may step s ≡ true → Next first slot taken s (act step s)
      by (CentralEnters now) c = central_goes first slot taken s f g k m now
      by (CentralHost host) c =
          same_all first slot taken s f g k m (act (CentralHost host) s) (central_stays s f g (host_step host) s.down (host_stays Central host))
      by (CentralSends now) c =
          let parts = and_parts (may_transmit s.down s.up) (is_some (next_item s.central)) (comes_by (CentralSends now) s c) in
          sends_goes first slot taken s f g k m now (ctrl_of_outgoing (next_out s.central) (event_now s.central) (latency_now s.central)) refl parts.1
          (and_parts (is_clear s.down) (is_free s.up) parts.0).0
      by CentralSendsData c =
          let clear = (and_parts (is_clear s.down) (is_free s.up) (and_parts (may_transmit s.down s.up) (sends_data s.central) (comes_by CentralSendsData s c)).0).0 in
          way_changes first slot taken s (act CentralSendsData s) (OnAir Data (seals Central s.central.phase)) refl
          (none_clear s.down s.central.control.sent clear) refl refl k m
      by CentralAcked c =
          way_changes first slot taken s (act CentralAcked s) Clear (central_stays s f g SeesAcknowledged Clear refl)
          (none_taken s.down s.central.control.sent (and_parts (is_taken s.down) (is_same_event s) (comes_by CentralAcked s c)).0) refl refl k m
      by (CentralTakes now) c = same_all first slot taken s f g k m (act (CentralTakes now) s) (up_stays s f g s.up now)
      by (PeripheralEnters now) c = peripheral_goes first slot taken s f g k m now
      by (PeripheralHost host) c =
          same_all first slot taken s f g k m (act (PeripheralHost host) s) (peripheral_stays s f g (host_step host) (host_stays Peripheral host))
      by (PeripheralFixes now) c = same_all first slot taken s f g k m (act (PeripheralFixes now) s) (peripheral_stays s f g (Sends now) refl)
      by PeripheralFixesData c = same_all first slot taken s f g k m (act PeripheralFixesData s) refl
      by PeripheralSends c = same_all first slot taken s f g k m (act PeripheralSends s) refl
      by PeripheralAcked c = same_all first slot taken s f g k m (act PeripheralAcked s) (peripheral_stays s f g SeesAcknowledged refl)
      by (PeripheralTakes now response) c =
          takes_goes first slot taken s f g k m s.down now response refl (λ change is. may_take_of s now response change c is)
      by Shuts c = same_all first slot taken s f g k m (act Shuts s) refl

  after_keeps : (step : JointStep) (s : Joint) (taken : List Change) → Facts s → Inv first slot taken s → Next first slot taken s (after step s)
  after_keeps step s taken f inv = by (may step s) refl
    where
      by : (b : Bool) → may step s ≡ b → Next first slot taken s (if b then act step s else s)
      by true is = step_keeps step s taken f inv is
      by false is =
          subst (λ (xs : List Change). Inv first slot (taken ++ xs) s) (sym (none_new (waiting first slot s)))
          (subst (λ (xs : List Change). Inv first slot xs s) (sym (append-nil taken)) inv)

-- ---- all steps of a run

pub after_joined : (steps more : List JointStep) (s : Joint) → after_all (steps ++ more) s ≡ after_all more (after_all steps s)
after_joined [] more s = refl
after_joined (step ∷ steps) more s = after_joined steps more (after step s)

pub range_joined : (steps more : List JointStep) → AreStepsInRange steps → AreStepsInRange more → AreStepsInRange (steps ++ more)
range_joined [] more of_s of_m = of_m
range_joined (step ∷ steps) more of_s of_m = (of_s.0, range_joined steps more of_s.1 of_m)

module _ (central_rx peripheral_rx : ℕ) (first : Params) (slot : ℕ) (latency : first.latency ≤ 499) where
  abbrev pub start : Joint
  start = beginning central_rx peripheral_rx first slot

  pub facts_of : (steps : List JointStep) → AreStepsInRange steps → Facts (after_all steps start)
  facts_of steps range =
      let of_central = central_runs steps start in
      let of_peripheral = peripheral_runs steps start in
      record {
        central = subst IsPlainEnd (sym of_central) (plain_now central_rx first slot (steps_of_central steps start));
        peripheral =
            subst (λ (p : Phased). role_now p ≡ Peripheral) (sym of_peripheral)
            (keeps_role Peripheral peripheral_rx first slot (steps_of_peripheral steps start));
        kept =
            subst (λ (p : Phased). p.kept ≡ None) (sym of_peripheral)
            (none_at_peripheral peripheral_rx first slot (steps_of_peripheral steps start));
        indicates = λ lasts. central_indicates central_rx peripheral_rx first slot steps range latency lasts;
      }

  -- a state that a run comes to
  pub record IsReached (s : Joint) : Type 0 where
    pub steps : List JointStep
    pub range : AreStepsInRange steps
    pub reaches : after_all steps start ≡ s

  pub reached_facts : (s : Joint) → IsReached s → Facts s
  reached_facts s r = subst Facts r.reaches (facts_of r.steps r.range)

  pub reached_next : (step : JointStep) (s : Joint) → IsStepInRange step → IsReached s → IsReached (after step s)
  reached_next step s range r =
      record {
        steps = r.steps ++ step ∷ [];
        range = range_joined r.steps (step ∷ []) r.range (range, tt);
        reaches = after_joined r.steps (step ∷ []) start ∙ ap (after step) r.reaches;
      }

  pub keeps_on : (steps : List JointStep) (s : Joint) (taken : List Change) → AreStepsInRange steps → IsReached s → Inv first slot taken s
      → Inv first slot (taken ++ changes_taken steps s) (after_all steps s)
  keeps_on [] s taken range r inv = subst (λ (xs : List Change). Inv first slot xs s) (sym (append-nil taken)) inv
  keeps_on (step ∷ steps) s taken range r inv =
      let new = new_change (waiting first slot s) (waiting first slot (after step s)) in
      subst (λ (xs : List Change). Inv first slot xs (after_all steps (after step s))) (append_assoc taken new (changes_taken steps (after step s)))
      (keeps_on steps (after step s) (taken ++ new) range.1 (reached_next step s range.0 r) (after_keeps first slot step s taken (reached_facts s r) inv))

  first_inv : Inv first slot [] start
  first_inv =
      record {
        known = record { central = taken_first first slot; peripheral = taken_first first slot; last = None; all = refl };
        meets = λ running. record { all = refl; coming = tt; read = refl };
      }

  first_reached : IsReached start
  first_reached = record { steps = []; range = tt; reaches = refl }

  -- what holds after any steps
  pub holds_after : (steps : List JointStep) → AreStepsInRange steps → Inv first slot (changes_taken steps start) (after_all steps start)
  holds_after steps range = keeps_on steps start [] range first_reached first_inv
