-- A joint run and the run of both tracks by turns go on together: what a turn and a packet do in both.
use Rattle.std.proofs.Common.{◌≡◌, ℕ, Bool, true, false, not, if◌then◌else◌, List, [], ◌∷◌, ◌++◌, Option, Some, None, is_none, is_some, refl, sym, ap, subst, ◌∙◌}
use Rattle.std.proofs.lemmas.Bool.{and_from, and_parts}
use Rattle.ble_base.specs.declared.error_codes.ErrCode.{ErrCode}
use Rattle.ble_base.specs.declared.roles.Role.TheVariants.{Central, Peripheral}
use Rattle.data_pdu.specs.declared.ctrl.Ctrl.{Ctrl}
use Rattle.joint_controls.specs.enc_phase.Phases.{seals}
use Rattle.instants.specs.declared.indications.Indication.{Indication}
use Rattle.instants.specs.Track.{event_of, track_after_enter}
use Rattle.joint_controls.specs.procedure_values.Drafts.{ctrl_of_outgoing, indication_of}
use Rattle.two_tracks.specs.TwoEnds.{LastPdu, Untaken, Acknowledged, TwoEnds, after_indication, after_pdu, after_sending, track_if}
use Rattle.two_tracks.specs.TwoEnds as two_ends
use Rattle.two_tracks.specs.Reached.{untaken}
use Rattle.joint_controls.specs.phased_control.Taken.{Enters, Sends, phased_after, role_now}
use Rattle.joint_controls.specs.Joint.{CentralEnters, CentralSends, CentralSendsData, Clear, Control as control_item, Data, Fixed, Item, Joint, JointStep, OnAir, PeripheralEnters, Taken, Way, act, after, after_all, event_now, is_clear, is_free, is_running, item_by, last_change, latency_now, may, may_act, may_transmit, next_item, next_out, on_air, sends_data, may_all}
use Rattle.joint_controls.proofs.Running.{GoesOn, goes_on}
use Rattle.joint_parameters.specs.Turns.{IsPairedWith, fits, next_indication, step_if}
use Rattle.joint_parameters.specs.Views.{View, change_on_air, view}
use Rattle.joint_parameters.proofs.Ends.{ends_still, enters_one, enters_sent, indication_next, sends_one}
use Rattle.joint_parameters.proofs.Meeting.{air_if, last_of_more}
use Rattle.joint_parameters.proofs.Runs.{Facts, some_indication}

-- ---- a step that may come

pub after_may : (step : JointStep) (s : Joint) → may step s ≡ true → after step s ≡ act step s
after_may step s comes = ap (λ (b : Bool). if b then act step s else s) comes

pub may_now : (step : JointStep) (s : Joint) → is_running s ≡ true → may_act step s ≡ true → may step s ≡ true
may_now step s running acts = and_from (is_running s) (may_act step s) running acts

pub running_from : (s : Joint) → s.stopped ≡ false → s.central.control.ends ≡ None → s.peripheral.control.ends ≡ None → is_running s ≡ true
running_from s stopped central peripheral =
    and_from (not s.stopped) _ (ap (λ (b : Bool). not b) stopped)
    (and_from _ _ (ap (λ (o : Option ErrCode). is_none o) central) (ap (λ (o : Option ErrCode). is_none o) peripheral))

-- a list of steps, in its two parts
pub record Leads (steps : List JointStep) (s t : Joint) : Type 0 where
  pub comes : may_all steps s ≡ true
  pub to : after_all steps s ≡ t

pub leads_none : (s : Joint) → Leads [] s s
leads_none s = record { comes = refl; to = refl }

pub leads_one : (step : JointStep) (s : Joint) → may step s ≡ true → Leads (step ∷ []) s (act step s)
leads_one step s comes = record { comes = and_from (may step s) true comes refl; to = after_may step s comes }

pub leads_on : (xs ys : List JointStep) (s t u : Joint) → Leads xs s t → Leads ys t u → Leads (xs ++ ys) s u
leads_on [] ys s t u a b = subst (λ (x : Joint). Leads ys x u) (sym a.to) b
leads_on (step ∷ xs) ys s t u a b =
    let parts = and_parts (may step s) (may_all xs (after step s)) a.comes in
    let rest = leads_on xs ys (after step s) t u (record { comes = parts.1; to = a.to }) b in
    record { comes = and_from (may step s) (may_all (xs ++ ys) (after step s)) parts.0 rest.comes; to = rest.to }

-- the last PDU of the central is another one, and the tracks stay
paired_way : (t : TwoEnds) (v : View) (last : LastPdu) (way : Way) → IsPairedWith t v → fits last way ≡ true
    → untaken last ≡ change_on_air (record v { down = way }) → IsPairedWith (record t { last = last }) (record v { down = way })
paired_way t v last way p is coming =
    record {
      central_open = p.central_open;
      peripheral_open = p.peripheral_open;
      central = p.central;
      peripheral = p.peripheral;
      sent = p.sent;
      way = is;
      coming = coming;
    }

-- ---- a turn begins

record Entered (slot : ℕ) (central peripheral : Bool) (s : Joint) : Type 0 where
  to : Joint
  leads : Leads (step_if central (CentralEnters slot) ++ step_if peripheral (PeripheralEnters slot)) s to
  is : view to ≡ record (view s) { central = track_if central s.central.control.track; peripheral = track_if peripheral s.peripheral.control.track }

central_enters : (slot : ℕ) (s : Joint) → role_now s.central ≡ Central → GoesOn s
    → view (act (CentralEnters slot) s) ≡ record (view s) { central = track_after_enter s.central.control.track }
central_enters slot s role g =
    λ i. record {
      down = s.down;
      sent = enters_sent s.central slot g.central i;
      central = enters_one s.central Central slot g.central role i;
      peripheral = s.peripheral.control.track;
    }

peripheral_enters : (slot : ℕ) (s : Joint) → role_now s.peripheral ≡ Peripheral → GoesOn s
    → view (act (PeripheralEnters slot) s) ≡ record (view s) { peripheral = track_after_enter s.peripheral.control.track }
peripheral_enters slot s role g = λ i. record (view s) { peripheral = enters_one s.peripheral Peripheral slot g.peripheral role i }

entered : (slot : ℕ) (central peripheral : Bool) (s : Joint) → Facts s → is_running s ≡ true → Entered slot central peripheral s
entered slot false false s f running = record { to = s; leads = leads_none s; is = refl }
entered slot true false s f running =
    let g = goes_on s running in
    record {
      to = act (CentralEnters slot) s;
      leads = leads_one (CentralEnters slot) s (may_now (CentralEnters slot) s running refl);
      is = central_enters slot s f.central.role g;
    }
entered slot false true s f running =
    let g = goes_on s running in
    record {
      to = act (PeripheralEnters slot) s;
      leads = leads_one (PeripheralEnters slot) s (may_now (PeripheralEnters slot) s running refl);
      is = peripheral_enters slot s f.peripheral g;
    }
entered slot true true s f running =
    let g = goes_on s running in
    let t = act (CentralEnters slot) s in
    let goes = running_from t g.stopped (ends_still s.central (Enters slot) g.central refl ∙ g.central) g.peripheral in
    record {
      to = act (PeripheralEnters slot) t;
      leads =
          leads_on (CentralEnters slot ∷ []) (PeripheralEnters slot ∷ []) s t (act (PeripheralEnters slot) t)
          (leads_one (CentralEnters slot) s (may_now (CentralEnters slot) s running refl))
          (leads_one (PeripheralEnters slot) t (may_now (PeripheralEnters slot) t goes refl));
      is =
          peripheral_enters slot t f.peripheral (goes_on t goes)
          ∙ ap (λ (v : View). record v { peripheral = track_after_enter s.peripheral.control.track }) (central_enters slot s f.central.role g);
    }

-- what goes on together in one step
pub record Together (steps : List JointStep) (t : TwoEnds) (s : Joint) : Type 0 where
  pub comes : may_all steps s ≡ true
  pub paired : is_running (after_all steps s) ≡ true → IsPairedWith t (view (after_all steps s))

pub together : (steps : List JointStep) (t : TwoEnds) (s u : Joint) → Leads steps s u → (is_running u ≡ true → IsPairedWith t (view u)) → Together steps t s
together steps t s u leads paired =
    record {
      comes = leads.comes;
      paired = subst (λ (x : Joint). is_running x ≡ true → IsPairedWith t (view x)) (sym leads.to) paired;
    }

turn_with : (t : TwoEnds) (s : Joint) (central peripheral : Bool) → IsPairedWith t (view s)
    → IsPairedWith (two_ends.turn_with central peripheral t)
    (record (view s) { central = track_if central s.central.control.track; peripheral = track_if peripheral s.peripheral.control.track })
turn_with t s central peripheral p =
    record {
      central_open = p.central_open;
      peripheral_open = p.peripheral_open;
      central = ap (track_if central) p.central;
      peripheral = ap (track_if peripheral) p.peripheral;
      sent = p.sent;
      way = p.way;
      coming = p.coming;
    }

pub turn_begins : (slot : ℕ) (t : TwoEnds) (s : Joint) (central peripheral : Bool) → Facts s → is_running s ≡ true → IsPairedWith t (view s)
    → Together (step_if central (CentralEnters slot) ++ step_if peripheral (PeripheralEnters slot)) (two_ends.turn_with central peripheral t) s
turn_begins slot t s central peripheral f running p =
    let e = entered slot central peripheral s f running in
    together (step_if central (CentralEnters slot) ++ step_if peripheral (PeripheralEnters slot)) (two_ends.turn_with central peripheral t) s e.to e.leads
    (λ goes. subst (IsPairedWith (two_ends.turn_with central peripheral t)) (sym e.is) (turn_with t s central peripheral p))

-- ---- the central sends

-- its way is clear where the last PDU is acknowledged
clear_there : (last : LastPdu) (way : Way) → last ≡ Acknowledged → fits last way ≡ true → is_clear way ≡ true
clear_there last Clear is fit = refl
clear_there last (Fixed item sealed) is fit = absurd (let no_way : false ≡ true = subst (λ (x : LastPdu). fits x (Fixed item sealed) ≡ true) is fit in cc)
clear_there last (OnAir item sealed) is fit = absurd (let no_way : false ≡ true = subst (λ (x : LastPdu). fits x (OnAir item sealed) ≡ true) is fit in cc)
clear_there last (Taken item) is fit = absurd (let no_way : false ≡ true = subst (λ (x : LastPdu). fits x (Taken item) ≡ true) is fit in cc)

module _ (t : TwoEnds) (s : Joint) (f : Facts s) (running : is_running s ≡ true) (p : IsPairedWith t (view s)) (last : t.last ≡ Acknowledged) where
  clear : is_clear s.down ≡ true
  clear = clear_there t.last s.down last p.way

  abbrev seals_now : Bool
  seals_now = seals Central s.central.phase

  -- data, or an empty PDU
  pub sends_plain : (way : Way) (u : Joint) (steps : List JointStep) → Leads steps s u → view u ≡ record (view s) { down = way }
      → fits (Untaken None) way ≡ true → None ≡ change_on_air (record (view s) { down = way })
      → Together steps (after_sending None t) s
  sends_plain way u steps leads is fit coming =
      together steps (after_sending None t) s u leads
      (λ goes. subst (IsPairedWith (after_sending None t)) (sym is) (paired_way t (view s) (Untaken None) way p fit coming))

  pub sends_empty : Together [] (after_sending None t) s
  sends_empty =
      sends_plain s.down s [] (leads_none s) refl (empty_fits s.down clear) (empty_coming s.down clear)
    where
      empty_fits : (way : Way) → is_clear way ≡ true → fits (Untaken None) way ≡ true
      empty_fits Clear is = refl
      empty_fits (Fixed item b) is = absurd (cc)
      empty_fits (OnAir item b) is = absurd (cc)
      empty_fits (Taken item) is = absurd (cc)

      empty_coming : (way : Way) → is_clear way ≡ true → None ≡ change_on_air (record (view s) { down = way })
      empty_coming Clear is = refl
      empty_coming (Fixed item b) is = absurd (cc)
      empty_coming (OnAir item b) is = absurd (cc)
      empty_coming (Taken item) is = absurd (cc)

  pub sends_data_too : is_free s.up ≡ true → sends_data s.central ≡ true → Together (CentralSendsData ∷ []) (after_sending None t) s
  sends_data_too free sends =
      sends_plain (OnAir Data seals_now) (act CentralSendsData s) (CentralSendsData ∷ [])
      (leads_one CentralSendsData s (may_now CentralSendsData s running (and_from (may_transmit s.down s.up) _ (and_from (is_clear s.down) _ clear free) sends)))
      refl refl refl

  -- a control PDU
  module _ (slot : ℕ) (ctrl : Ctrl) where
    abbrev item : Item
    item = control_item (next_out s.central) ctrl

    abbrev sent_then : Joint
    sent_then = record s { central = phased_after (Sends slot) s.central; down = OnAir item seals_now }

    goes : GoesOn s
    goes = goes_on s running

    record SentWith (o : Option Indication) : Type 0 where
      track : (phased_after (Sends slot) s.central).control.track ≡ (after_sending o t).central
      all : (phased_after (Sends slot) s.central).control.sent ≡ (after_sending o t).sent

    sent_with : SentWith (indication_next s.central)
    sent_with =
        let one = sends_one s.central slot t goes.central f.central.role p.central p.sent in record { track = one.0; all = one.1 }

    paired_sent : (o : Option Indication) → next_indication s.central ≡ o → SentWith o → IsPairedWith (after_sending o t) (view sent_then)
    paired_sent None is w =
        record {
          central_open = p.central_open;
          peripheral_open = p.peripheral_open;
          central = sym w.track;
          peripheral = p.peripheral;
          sent = sym w.all;
          way = refl;
          coming =
              sym (air_if (is_some (indication_of (next_out s.central) 0 0)) false (last_change sent_then.central.control.sent)
              (some_indication (next_out s.central) (event_now s.central) (latency_now s.central) ∙ ap (λ (x : Option Indication). is_some x) is));
        }
    paired_sent (Some indication) is w =
        record {
          central_open = p.central_open;
          peripheral_open = p.peripheral_open;
          central = sym w.track;
          peripheral = p.peripheral;
          sent = sym w.all;
          way = refl;
          coming =
              sym (air_if (is_some (indication_of (next_out s.central) 0 0)) true (last_change sent_then.central.control.sent)
              (some_indication (next_out s.central) (event_now s.central) (latency_now s.central) ∙ ap (λ (x : Option Indication). is_some x) is)
              ∙ ap last_change w.all ∙ last_of_more t.sent (two_ends.change_of (event_of t.central) indication));
        }

  abbrev then_sent : (slot : ℕ) → Option Ctrl → Joint
  then_sent slot o = record s { central = phased_after (Sends slot) s.central; down = on_air (item_by (next_out s.central) o) seals_now }

  goes_by : (slot : ℕ) (o : Option Ctrl) → is_some (item_by (next_out s.central) o) ≡ true
      → IsPairedWith (after_sending (next_indication s.central) t) (view (then_sent slot o))
  goes_by slot None some = absurd (cc)
  goes_by slot (Some ctrl) some = paired_sent slot ctrl (next_indication s.central) refl (sent_with slot ctrl)

  pub sends_control : (slot : ℕ) → is_free s.up ≡ true → is_some (next_item s.central) ≡ true
      → Together (CentralSends slot ∷ []) (after_sending (next_indication s.central) t) s
  sends_control slot free some =
      together (CentralSends slot ∷ []) (after_sending (next_indication s.central) t) s (act (CentralSends slot) s)
      (leads_one (CentralSends slot) s
      (may_now (CentralSends slot) s running (and_from (may_transmit s.down s.up) _ (and_from (is_clear s.down) _ clear free) some)))
      (λ going. goes_by slot (ctrl_of_outgoing (next_out s.central) (event_now s.central) (latency_now s.central)) some)
