-- A packet of the central is good at the peripheral, and the reply at the central, by turns and in a joint run.
use Rattle.std.proofs.Common.{◌≡◌, inl, inr, ℕ, ◌==◌, Bool, true, false, not, ◌||◌, if◌then◌else◌, List, [], ◌∷◌, ◌++◌, Option, Some, None, is_some, option_map, refl, sym, ap, subst, ◌∙◌}
use Rattle.std.proofs.lemmas.Bool.{and_from}
use Rattle.std.proofs.lemmas.List.{append-nil}
use Rattle.ble_base.specs.declared.error_codes.ErrCode.{ErrCode}
use Rattle.instants.specs.declared.indications.Indication.{Indication}
use Rattle.instants.specs.declared.track.Change.{Change}
use Rattle.instants.specs.Track.{TrackFacts, event_of, track_after_take}
use Rattle.joint_controls.specs.control_model.Control.{Control}
use Rattle.two_tracks.specs.TwoEnds.{LastPdu, Untaken, Acknowledged, TwoEnds, after_indication, after_pdu, heard_by_peripheral, last_after_reply}
use Rattle.two_tracks.specs.TwoEnds as two_ends
use Rattle.two_tracks.specs.Reached.{untaken}
use Rattle.joint_controls.specs.phased_control.Taken.{PhasedStep, Response, SeesAcknowledged, Sends, phased_after}
use Rattle.joint_controls.specs.Joint.{CentralAcked, CentralTakes, Clear, Control as control_item, Data, Fixed, Item, Joint, JointStep, OnAir, PeripheralAcked, PeripheralFixes, PeripheralFixesData, PeripheralTakes, Taken, Way, act, after_all, central_takes, fixed, has_passed, is_clear, is_free, is_last, is_late, is_near, is_running, is_same_event, is_taken, item_on_air, may, next_item, peripheral_takes, sends_data, taking}
use Rattle.joint_controls.specs.Ends.{AreStepsInRange, IsStepInRange}
use Rattle.joint_controls.proofs.Running.{GoesOn, goes_on}
use Rattle.joint_parameters.specs.Indications.{indication_of_item, indication_read}
use Rattle.joint_parameters.specs.Turns.{Fixing, FixesControl, FixesData, FixesNothing, IsPairedWith, MayFix, fits, fixing_steps, step_if, takes_item}
use Rattle.joint_parameters.specs.Views.{View, change_on_air, view}
use Rattle.joint_parameters.proofs.Ends.{ends_still, takes_none}
use Rattle.joint_parameters.proofs.Meeting.{Meets}
use Rattle.joint_parameters.proofs.Pairing.{Leads, Together, leads_none, leads_on, leads_one, may_now, running_from, together}
use Rattle.joint_parameters.proofs.Runs.{Facts, central_stays, peripheral_stays, range_joined, taken_as, up_stays}
use Rattle.joint_parameters.proofs.Taking.{TakenAs, is_over, track_with}

-- ---- where the last PDU is

abbrev IsUntaken : LastPdu → Option Change → Type 0
IsUntaken last change = last ≡ Untaken change

untaken_on_air : (last : LastPdu) (item : Item) (sealed : Bool) → fits last (OnAir item sealed) ≡ true → last ≡ Untaken (untaken last)
untaken_on_air (Untaken change) item sealed fit = refl
untaken_on_air two_ends.Taken item sealed fit = absurd (cc)
untaken_on_air Acknowledged item sealed fit = absurd (cc)

abbrev with_last : LastPdu → TwoEnds → TwoEnds
with_last last t = record t { last = last }

abbrev on : Way → View → View
on way v = record v { down = way }

-- ---- the peripheral hears, and takes nothing

-- what does not change
quiet_pair : (t : TwoEnds) (v : View) (last : LastPdu) (heard_at : ℕ) → IsPairedWith t v → fits last v.down ≡ true → untaken last ≡ change_on_air v
    → IsPairedWith (record t { last = last; replies = true; peripheral_heard_at = heard_at }) v
quiet_pair t v last heard_at p fit coming =
    record {
      central_open = p.central_open;
      peripheral_open = p.peripheral_open;
      central = p.central;
      peripheral = p.peripheral;
      sent = p.sent;
      way = fit;
      coming = coming;
    }

module _ (t : TwoEnds) (v : View) where
  if_none : (b : Bool) → untaken (if b then two_ends.Taken else Untaken None) ≡ None
  if_none true = refl
  if_none false = refl

  abbrev heard : LastPdu → TwoEnds
  heard last = heard_by_peripheral (with_last last t)

  -- by where the last PDU is, with nothing to take on the way
  none_taken : (room : Bool) (last : LastPdu) (way : Way) → IsPairedWith (with_last last t) (on way v) → takes_item room (item_on_air way) ≡ false
      → IsPairedWith (after_pdu (room || not (is_free way)) last (heard last)) (on way v)
  none_taken room (Untaken None) Clear p takes =
      quiet_pair (with_last (Untaken None) t) (on Clear v) (if room || false then two_ends.Taken else Untaken None) t.turns p refl (if_none (room || false))
  none_taken room (Untaken (Some change)) Clear p takes = absurd (let coming = p.coming in cc)
  none_taken room two_ends.Taken Clear p takes = quiet_pair (with_last two_ends.Taken t) (on Clear v) two_ends.Taken t.turns p refl refl
  none_taken room Acknowledged Clear p takes = quiet_pair (with_last Acknowledged t) (on Clear v) Acknowledged t.turns p refl refl
  none_taken false (Untaken None) (OnAir Data sealed) p takes =
      quiet_pair (with_last (Untaken None) t) (on (OnAir Data sealed) v) (Untaken None) t.turns p refl refl
  none_taken true (Untaken None) (OnAir Data sealed) p takes = absurd (cc)
  none_taken room (Untaken (Some change)) (OnAir Data sealed) p takes = absurd (let coming = p.coming in cc)
  none_taken room (Untaken None) (OnAir (control_item outgoing ctrl) sealed) p takes = absurd (cc)
  none_taken room (Untaken (Some change)) (OnAir (control_item outgoing ctrl) sealed) p takes = absurd (cc)
  none_taken room two_ends.Taken (OnAir item sealed) p takes = absurd (let way = p.way in cc)
  none_taken room Acknowledged (OnAir item sealed) p takes = absurd (let way = p.way in cc)
  none_taken room two_ends.Taken (Taken item) p takes = quiet_pair (with_last two_ends.Taken t) (on (Taken item) v) two_ends.Taken t.turns p refl refl
  none_taken room (Untaken change) (Taken item) p takes = absurd (let way = p.way in cc)
  none_taken room Acknowledged (Taken item) p takes = absurd (let way = p.way in cc)
  none_taken room (Untaken change) (Fixed item sealed) p takes = absurd (let way = p.way in cc)
  none_taken room two_ends.Taken (Fixed item sealed) p takes = absurd (let way = p.way in cc)
  none_taken room Acknowledged (Fixed item sealed) p takes = absurd (let way = p.way in cc)

  -- ---- it takes what is on its way

  has_room : (room : Bool) (item : Item) (sealed : Bool) → takes_item room (Some item) ≡ true → (room || not (is_free (OnAir item sealed))) ≡ true
  has_room true item sealed takes = refl
  has_room false Data sealed takes = absurd (cc)
  has_room false (control_item outgoing ctrl) sealed takes = refl

  abbrev taken_view : Item → TrackFacts → View
  taken_view item p = record v { down = Taken item; peripheral = p }

  taken_pair : (u : TwoEnds) (item : Item) (p : TrackFacts) → IsPairedWith u v → IsPairedWith (record u { last = two_ends.Taken; replies = true; peripheral_heard_at = t.turns; peripheral = p }) (taken_view item p)
  taken_pair u item p pair =
      record {
        central_open = pair.central_open;
        peripheral_open = pair.peripheral_open;
        central = pair.central;
        peripheral = refl;
        sent = pair.sent;
        way = refl;
        coming = refl;
      }

  takes_pair : (o : Option Change) (item : Item) (q : TrackFacts) → IsPairedWith (with_last (Untaken o) t) v
      → q ≡ track_with (option_map (λ (change : Change). change.indication) o) v.peripheral
      → is_over v.peripheral (option_map (λ (change : Change). change.indication) o) ≡ false
      → IsPairedWith (after_pdu true (Untaken o) (heard (Untaken o))) (taken_view item q)
  takes_pair None item q p is over =
      record {
        central_open = p.central_open;
        peripheral_open = p.peripheral_open;
        central = p.central;
        peripheral = p.peripheral ∙ sym is;
        sent = p.sent;
        way = refl;
        coming = refl;
      }
  takes_pair (Some change) item q p is over =
      let fresh : two_ends.has_passed t.peripheral change ≡ false =
      subst (λ (x : TrackFacts). two_ends.has_passed x change ≡ false) (sym p.peripheral) over in
      subst (λ (b : Bool). IsPairedWith (after_indication b change (heard (Untaken (Some change)))) (taken_view item q)) (sym fresh)
      (record {
        central_open = p.central_open;
        peripheral_open = p.peripheral_open;
        central = p.central;
        peripheral = ap (λ (x : TrackFacts). track_after_take x change.indication) p.peripheral ∙ sym is;
        sent = p.sent;
        way = refl;
        coming = refl;
      })

-- ---- in a joint run

module _ (taken : List Change) (t : TwoEnds) (s : Joint) (f : Facts s) (running : is_running s ≡ true) (m : Meets taken (view s)) (p : IsPairedWith t (view s)) where
  goes : GoesOn s
  goes = goes_on s running

  abbrev taken_then : Item → ℕ → Response → Joint
  taken_then item now response =
      record s { peripheral = phased_after (taking item now response) s.peripheral; down = Taken item; stopped = is_last item }

  module _ (item : Item) (sealed : Bool) (on_air : s.down ≡ OnAir item sealed) where
    last_is : t.last ≡ Untaken (untaken t.last)
    last_is = untaken_on_air t.last item sealed (subst (λ (way : Way). fits t.last way ≡ true) on_air p.way)

    reads : indication_of_item item ≡ option_map (λ (change : Change). change.indication) (untaken t.last)
    reads =
        subst (λ (way : Way). indication_read (item_on_air way) ≡ option_map (λ (change : Change). change.indication) (change_on_air (view s))) on_air m.read
        ∙ ap (λ (o : Option Change). option_map (λ (change : Change). change.indication) o) (sym p.coming)

    pub takes_then : (now : ℕ) (response : Response) (room : Bool) → takes_item room (Some item) ≡ true → is_running (taken_then item now response) ≡ true
        → IsPairedWith (after_pdu (room || not (is_free s.down)) t.last (heard_by_peripheral t)) (view (taken_then item now response))
    takes_then now response room takes still = by (taken_as s f goes item now response)
      where
        d : Control
        d = (phased_after (taking item now response) s.peripheral).control

        lasts : (phased_after (taking item now response) s.peripheral).control.ends ≡ None
        lasts = (goes_on (taken_then item now response) still).peripheral

        roomy : (room || not (is_free s.down)) ≡ true
        roomy = subst (λ (way : Way). (room || not (is_free way)) ≡ true) (sym on_air) (has_room t (view s) room item sealed takes)

        now_paired : IsPairedWith (with_last (Untaken (untaken t.last)) t) (view s)
        now_paired = subst (λ (last : LastPdu). IsPairedWith (with_last last t) (view s)) last_is p

        by : TakenAs (indication_of_item item) s.peripheral.control (phased_after (taking item now response) s.peripheral).control
            → IsPairedWith (after_pdu (room || not (is_free s.down)) t.last (heard_by_peripheral t)) (view (taken_then item now response))
        by (inl over) = absurd (let both : ◌≡◌ {A = Option ErrCode} None (Some over.code) = sym lasts ∙ over.is in cc)
        by (inr goes_with) =
            let track = subst (λ (j : Option Indication). (phased_after (taking item now response) s.peripheral).control.track ≡ track_with j s.peripheral.control.track) reads goes_with.track in
            let fresh = subst (λ (j : Option Indication). is_over s.peripheral.control.track j ≡ false) reads goes_with.in_time in
            let pair = takes_pair t (view s) (untaken t.last) item (phased_after (taking item now response) s.peripheral).control.track now_paired track fresh in
            subst (λ (b : Bool). IsPairedWith (after_pdu b t.last (heard_by_peripheral t)) (view (taken_then item now response))) (sym roomy)
            (subst (λ (last : LastPdu). IsPairedWith (after_pdu true last (heard_by_peripheral (with_last last t))) (view (taken_then item now response))) (sym last_is) pair)

-- ---- the peripheral sees its own PDU acknowledged first

abbrev pub meets_rule : View → Bool
meets_rule v = (event_of v.central == event_of v.peripheral) || has_passed (change_on_air v) (event_of v.peripheral)

abbrev pub near_rule : View → Bool
near_rule v = is_near (change_on_air v) (event_of v.peripheral)

-- these steps are in range
pub range_if : (b : Bool) (step : JointStep) → IsStepInRange step → AreStepsInRange (step_if b step)
range_if true step is = (is, tt)
range_if false step is = tt

range_fixing : (fixing : Fixing) (now : ℕ) → AreStepsInRange (fixing_steps fixing now)
range_fixing FixesNothing now = tt
range_fixing FixesControl now = (tt, tt)
range_fixing FixesData now = (tt, tt)

-- the peripheral sees its own PDU acknowledged, if it was taken
abbrev acked_steps : Joint → List JointStep
acked_steps s = step_if (is_taken s.up) PeripheralAcked

pub range_before : (s : Joint) (fixing : Fixing) (now : ℕ) → AreStepsInRange (step_if (is_taken s.up) PeripheralAcked ++ fixing_steps fixing now)
range_before s fixing now =
    range_joined (acked_steps s) (fixing_steps fixing now) (range_if (is_taken s.up) PeripheralAcked tt) (range_fixing fixing now)

fixed_not_taken : (o : Option Item) → is_taken (fixed o) ≡ false
fixed_not_taken None = refl
fixed_not_taken (Some item) = refl

-- steps of the peripheral that leave all but its own PDU as it is
record Steady (steps : List JointStep) (s : Joint) : Type 0 where
  to : Joint
  leads : Leads steps s to
  same : view to ≡ view s
  running : is_running to ≡ true
  up : is_taken to.up ≡ false

steady_none : (s : Joint) → is_running s ≡ true → is_taken s.up ≡ false → Steady [] s
steady_none s running up = record { to = s; leads = leads_none s; same = refl; running = running; up = up }

steady_one : (steps : List JointStep) (s : Joint) (a : Steady steps s) (step : JointStep) → may step a.to ≡ true → view (act step a.to) ≡ view a.to
    → is_running (act step a.to) ≡ true → is_taken (act step a.to).up ≡ false → Steady (steps ++ step ∷ []) s
steady_one steps s a step comes same running up =
    record {
      to = act step a.to;
      leads = leads_on steps (step ∷ []) s a.to (act step a.to) a.leads (leads_one step a.to comes);
      same = same ∙ a.same;
      running = running;
      up = up;
    }

-- the control part of the peripheral makes a step
peripheral_runs : (s : Joint) (step : PhasedStep) (way : Way) → is_running s ≡ true → takes_none step ≡ true
    → is_running (record s { peripheral = phased_after step s.peripheral; up = way }) ≡ true
peripheral_runs s step way running none =
    let g = goes_on s running in
    running_from (record s { peripheral = phased_after step s.peripheral; up = way }) g.stopped g.central
    (ends_still s.peripheral step g.peripheral none ∙ g.peripheral)

module _ (s : Joint) (facts_after : (steps : List JointStep) → AreStepsInRange steps → Facts (after_all steps s)) (running : is_running s ≡ true)
    (rule : meets_rule (view s) ≡ true) where
  acked_up : Steady (acked_steps s) s
  acked_up = by (is_taken s.up) refl
    where
      by : (b : Bool) → is_taken s.up ≡ b → Steady (step_if b PeripheralAcked) s
      by false is = steady_none s running is
      by true is =
          record {
            to = act PeripheralAcked s;
            leads = leads_one PeripheralAcked s (may_now PeripheralAcked s running (and_from (is_taken s.up) _ is rule));
            same = peripheral_stays s (facts_after [] tt) (goes_on s running) SeesAcknowledged refl;
            running = peripheral_runs s SeesAcknowledged Clear running refl;
            up = refl;
          }

  -- ---- then it fixes its next one

  fixed_up : (fixing : Fixing) (now : ℕ) → MayFix fixing now s → Steady (acked_steps s ++ fixing_steps fixing now) s
  fixed_up FixesNothing now may_fix = subst (λ (steps : List JointStep). Steady steps s) (sym (append-nil (acked_steps s))) acked_up
  fixed_up FixesControl now may_fix =
      let a = acked_up in
      let f : Facts a.to = subst Facts a.leads.to (facts_after (acked_steps s) (range_if (is_taken s.up) PeripheralAcked tt)) in
      let clear : is_clear a.to.up ≡ true = subst (λ (x : Joint). is_clear x.up ≡ true) a.leads.to may_fix.0 in
      let some : is_some (next_item a.to.peripheral) ≡ true = subst (λ (x : Joint). is_some (next_item x.peripheral) ≡ true) a.leads.to may_fix.1 in
      steady_one (acked_steps s) s a (PeripheralFixes now) (may_now (PeripheralFixes now) a.to a.running (and_from (is_clear a.to.up) _ clear some))
      (peripheral_stays a.to f (goes_on a.to a.running) (Sends now) refl)
      (peripheral_runs a.to (Sends now) (fixed (next_item a.to.peripheral)) a.running refl) (fixed_not_taken (next_item a.to.peripheral))
  fixed_up FixesData now may_fix =
      let a = acked_up in
      let clear : is_clear a.to.up ≡ true = subst (λ (x : Joint). is_clear x.up ≡ true) a.leads.to may_fix.0 in
      let sends : sends_data a.to.peripheral ≡ true = subst (λ (x : Joint). sends_data x.peripheral ≡ true) a.leads.to may_fix.1 in
      steady_one (acked_steps s) s a PeripheralFixesData (may_now PeripheralFixesData a.to a.running (and_from (is_clear a.to.up) _ clear sends)) refl
      a.running refl

-- ---- a packet is good at the peripheral

module _ (taken : List Change) (t : TwoEnds) (s : Joint) (facts_after : (steps : List JointStep) → AreStepsInRange steps → Facts (after_all steps s))
    (running : is_running s ≡ true) (m : Meets taken (view s)) (p : IsPairedWith t (view s)) (rule : meets_rule (view s) ≡ true) (near : near_rule (view s) ≡ true)
    (fixing : Fixing) (now : ℕ) (may_fix : MayFix fixing now s) where
  a : Steady (acked_steps s ++ fixing_steps fixing now) s
  a = fixed_up s facts_after running rule fixing now may_fix

  facts : Facts a.to
  facts = subst Facts a.leads.to (facts_after (acked_steps s ++ fixing_steps fixing now) (range_before s fixing now))

  abbrev hears : Bool → TwoEnds
  hears room = after_pdu (room || not (is_free s.down)) t.last (heard_by_peripheral t)

  abbrev steps : Bool → Response → List JointStep
  steps room response = acked_steps s ++ fixing_steps fixing now ++ step_if (takes_item room (item_on_air s.down)) (PeripheralTakes now response)

  same_down : a.to.down ≡ s.down
  same_down = ap (λ (v : View). v.down) a.same

  paired_to : IsPairedWith t (view a.to)
  paired_to = subst (IsPairedWith t) (sym a.same) p

  meets_to : Meets taken (view a.to)
  meets_to = subst (Meets taken) (sym a.same) m

  some_air : (room : Bool) (way : Way) → takes_item room (item_on_air way) ≡ true → is_some (item_on_air way) ≡ true
  some_air room (OnAir item sealed) takes = refl
  some_air room Clear takes = absurd (cc)
  some_air room (Fixed item sealed) takes = absurd (cc)
  some_air room (Taken item) takes = absurd (cc)

  comes_then : (room : Bool) (response : Response) → takes_item room (item_on_air s.down) ≡ true → may (PeripheralTakes now response) a.to ≡ true
  comes_then room response takes =
      may_now (PeripheralTakes now response) a.to a.running
      (and_from (is_some (item_on_air a.to.down)) _ (some_air room a.to.down (subst (λ (way : Way). takes_item room (item_on_air way) ≡ true) (sym same_down) takes))
      (and_from (not (is_taken a.to.up)) _ (ap (λ (b : Bool). not b) a.up)
      (and_from (is_same_event a.to || is_late a.to) _ (subst (λ (v : View). meets_rule v ≡ true) (sym a.same) rule)
      (subst (λ (v : View). near_rule v ≡ true) (sym a.same) near))))

  takes_any : (room : Bool) (response : Response) (way : Way) → a.to.down ≡ way → takes_item room (item_on_air way) ≡ true
      → is_running (peripheral_takes way now response a.to) ≡ true
      → IsPairedWith (after_pdu (room || not (is_free way)) t.last (heard_by_peripheral t)) (view (peripheral_takes way now response a.to))
  takes_any room response Clear is takes still = absurd (cc)
  takes_any room response (Fixed item sealed) is takes still = absurd (cc)
  takes_any room response (Taken item) is takes still = absurd (cc)
  takes_any room response (OnAir item sealed) is takes still =
      subst (λ (way : Way). IsPairedWith (after_pdu (room || not (is_free way)) t.last (heard_by_peripheral t)) (view (peripheral_takes (OnAir item sealed) now response a.to)))
      is (takes_then taken t a.to facts a.running meets_to paired_to item sealed is now response room takes still)

  pub is_heard : (room : Bool) (response : Response) → Together (steps room response) (hears room) s
  is_heard room response = by (takes_item room (item_on_air s.down)) refl
    where
      by : (b : Bool) → takes_item room (item_on_air s.down) ≡ b
          → Together (acked_steps s ++ fixing_steps fixing now ++ step_if b (PeripheralTakes now response)) (hears room) s
      by false takes =
          together (acked_steps s ++ fixing_steps fixing now ++ []) (hears room) s a.to
          (leads_on (acked_steps s ++ fixing_steps fixing now) [] s a.to a.to a.leads (leads_none a.to))
          (λ still. subst (IsPairedWith (hears room)) (sym a.same) (none_taken t (view s) room t.last s.down p takes))
      by true takes =
          let u = peripheral_takes a.to.down now response a.to in
          together (acked_steps s ++ fixing_steps fixing now ++ PeripheralTakes now response ∷ []) (hears room) s u
          (leads_on (acked_steps s ++ fixing_steps fixing now) (PeripheralTakes now response ∷ []) s a.to u a.leads
          (leads_one (PeripheralTakes now response) a.to (comes_then room response takes)))
          (λ still. subst (λ (way : Way). IsPairedWith (after_pdu (room || not (is_free way)) t.last (heard_by_peripheral t)) (view u)) same_down
          (takes_any room response a.to.down refl (subst (λ (way : Way). takes_item room (item_on_air way) ≡ true) (sym same_down) takes) still))

-- ---- the reply is good at the central

answer_pair : (t : TwoEnds) (v : View) (last : LastPdu) (heard_at : ℕ) → IsPairedWith t v → fits last v.down ≡ true → untaken last ≡ change_on_air v
    → IsPairedWith (record t { last = last; replies = false; central_heard_at = heard_at }) v
answer_pair t v last heard_at p fit coming =
    record {
      central_open = p.central_open;
      peripheral_open = p.peripheral_open;
      central = p.central;
      peripheral = p.peripheral;
      sent = p.sent;
      way = fit;
      coming = coming;
    }

-- the way after the central saw its own PDU acknowledged, if it was taken
abbrev cleared : Way → Way
cleared way = if is_taken way then Clear else way

module _ (t : TwoEnds) (v : View) where
  abbrev answered : LastPdu → TwoEnds
  answered last = record (with_last last t) { last = last_after_reply last; replies = false; central_heard_at = t.turns }

  answer_paired : (last : LastPdu) (way : Way) → IsPairedWith (with_last last t) (on way v) → IsPairedWith (answered last) (on (cleared way) v)
  answer_paired (Untaken change) Clear p = answer_pair (with_last (Untaken change) t) (on Clear v) (Untaken change) t.turns p refl p.coming
  answer_paired two_ends.Taken Clear p = answer_pair (with_last two_ends.Taken t) (on Clear v) Acknowledged t.turns p refl refl
  answer_paired Acknowledged Clear p = answer_pair (with_last Acknowledged t) (on Clear v) Acknowledged t.turns p refl refl
  answer_paired (Untaken change) (OnAir item sealed) p =
      answer_pair (with_last (Untaken change) t) (on (OnAir item sealed) v) (Untaken change) t.turns p refl p.coming
  answer_paired two_ends.Taken (OnAir item sealed) p = absurd (let way = p.way in cc)
  answer_paired Acknowledged (OnAir item sealed) p = absurd (let way = p.way in cc)
  answer_paired two_ends.Taken (Taken item) p =
      record {
        central_open = p.central_open;
        peripheral_open = p.peripheral_open;
        central = p.central;
        peripheral = p.peripheral;
        sent = p.sent;
        way = refl;
        coming = refl;
      }
  answer_paired (Untaken change) (Taken item) p = absurd (let way = p.way in cc)
  answer_paired Acknowledged (Taken item) p = absurd (let way = p.way in cc)
  answer_paired (Untaken change) (Fixed item sealed) p = absurd (let way = p.way in cc)
  answer_paired two_ends.Taken (Fixed item sealed) p = absurd (let way = p.way in cc)
  answer_paired Acknowledged (Fixed item sealed) p = absurd (let way = p.way in cc)

record AckedDown (s : Joint) : Type 0 where
  to : Joint
  leads : Leads (step_if (is_taken s.down) CentralAcked) s to
  same : view to ≡ on (cleared s.down) (view s)
  running : is_running to ≡ true
  down : is_taken to.down ≡ false
  facts : Facts to
  up : to.up ≡ s.up

module _ (s : Joint) (f : Facts s) (facts_next : may CentralAcked s ≡ true → Facts (act CentralAcked s)) (running : is_running s ≡ true) (event : is_same_event s ≡ true) where
  acked_down : AckedDown s
  acked_down = by (is_taken s.down) refl
    where
      by : (b : Bool) → is_taken s.down ≡ b → AckedDown s
      by false is =
          record {
            to = s;
            leads = subst (λ (b : Bool). Leads (step_if b CentralAcked) s s) (sym is) (leads_none s);
            same = ap (λ (b : Bool). on (if b then Clear else s.down) (view s)) (sym is);
            running = running;
            down = is;
            facts = f;
            up = refl;
          }
      by true is =
          let g = goes_on s running in
          let comes = may_now CentralAcked s running (and_from (is_taken s.down) _ is event) in
          record {
            to = act CentralAcked s;
            leads = subst (λ (b : Bool). Leads (step_if b CentralAcked) s (act CentralAcked s)) (sym is) (leads_one CentralAcked s comes);
            same = central_stays s f g SeesAcknowledged Clear refl ∙ ap (λ (b : Bool). on (if b then Clear else s.down) (view s)) (sym is);
            running = running_from (act CentralAcked s) g.stopped (ends_still s.central SeesAcknowledged g.central refl ∙ g.central) g.peripheral;
            down = refl;
            facts = facts_next comes;
            up = refl;
          }

module _ (t : TwoEnds) (s : Joint) (f : Facts s) (facts_next : may CentralAcked s ≡ true → Facts (act CentralAcked s)) (running : is_running s ≡ true)
    (p : IsPairedWith t (view s)) (event : is_same_event s ≡ true) where
  b : AckedDown s
  b = acked_down s f facts_next running event

  event_to : is_same_event b.to ≡ true
  event_to = subst (λ (v : View). (event_of v.central == event_of v.peripheral) ≡ true) (sym b.same) event

  some_up : (room : Bool) (way : Way) → takes_item room (item_on_air way) ≡ true → is_some (item_on_air way) ≡ true
  some_up room (OnAir item sealed) takes = refl
  some_up room Clear takes = absurd (cc)
  some_up room (Fixed item sealed) takes = absurd (cc)
  some_up room (Taken item) takes = absurd (cc)

  pub is_answered : (room : Bool) (now : ℕ)
      → Together (step_if (is_taken s.down) CentralAcked ++ step_if (takes_item room (item_on_air s.up)) (CentralTakes now)) (two_ends.after two_ends.CentralHears t) s
  is_answered room now = by (takes_item room (item_on_air s.up)) refl
    where
      pair : IsPairedWith (two_ends.after two_ends.CentralHears t) (view b.to)
      pair = subst (IsPairedWith (two_ends.after two_ends.CentralHears t)) (sym b.same) (answer_paired t (view s) t.last s.down p)

      by : (c : Bool) → takes_item room (item_on_air s.up) ≡ c
          → Together (step_if (is_taken s.down) CentralAcked ++ step_if c (CentralTakes now)) (two_ends.after two_ends.CentralHears t) s
      by false takes =
          together (step_if (is_taken s.down) CentralAcked ++ []) (two_ends.after two_ends.CentralHears t) s b.to
          (leads_on (step_if (is_taken s.down) CentralAcked) [] s b.to b.to b.leads (leads_none b.to)) (λ still. pair)
      by true takes =
          let u = central_takes b.to.up now b.to in
          let comes = may_now (CentralTakes now) b.to b.running
          (and_from (is_some (item_on_air b.to.up)) _ (some_up room b.to.up (subst (λ (way : Way). takes_item room (item_on_air way) ≡ true) (sym b.up) takes))
          (and_from (not (is_taken b.to.down)) _ (ap (λ (x : Bool). not x) b.down) event_to)) in
          together (step_if (is_taken s.down) CentralAcked ++ CentralTakes now ∷ []) (two_ends.after two_ends.CentralHears t) s u
          (leads_on (step_if (is_taken s.down) CentralAcked) (CentralTakes now ∷ []) s b.to u b.leads (leads_one (CentralTakes now) b.to comes))
          (λ still. subst (IsPairedWith (two_ends.after two_ends.CentralHears t)) (sym (up_stays b.to b.facts (goes_on b.to b.running) b.to.up now)) pair)
