-- Two ends that hear each other are in one event, or the peripheral ends the link for an Instant that has passed.
use Rattle.std.proofs.Common.{◌≡◌, ◌⊎◌, inl, inr, ℕ, ◌+◌, ◌<◌, ◌≤◌, ◌-◌, ◌||◌, not, Bool, true, false, List, Option, Some, None, refl, ap, sym, subst, ◌∙◌, if◌then◌else◌}
use Rattle.std.proofs.lemmas.Bool.{lt-ltb}
use Rattle.ble_base.specs.ErrorCodes.{instant_passed}
use Rattle.ble_base.specs.declared.error_codes.ErrCode.{ErrCode}
use Rattle.instants.specs.declared.track.Change.{Change}
use Rattle.instants.specs.Track.{TrackFacts, event_of}
use Rattle.two_tracks.specs.Reached.{IsLate, untaken}
use Rattle.two_tracks.specs.TwoEnds.{MayReach}
use Rattle.two_tracks.proofs.JointHearing.{joint_of}
use Rattle.two_tracks.proofs.Read.{anchors, packets}
use Rattle.control_octets.specs.control_model.Control.{Control}
use Rattle.joint_laws.specs.joint_controls.Joint.{Clear, Control as control_item, Data, Fixed, Joint, OnAir, PeripheralTakes, Taken, Way, after_all, has_passed, instant_now, is_indication, is_item, is_late, is_running, item_on_air, last_change, may, may_all}
use Rattle.joint_laws.specs.joint_controls.Joint.{after as joint_after}
use Rattle.joint_laws.specs.Ends.{EndsLateAlone}
use Rattle.joint_laws.specs.joint_parameters.Indications.{EndsLate}
use Rattle.joint_laws.specs.joint_parameters.Turns.{IsPaired, Link, step_if, takes_item}
use Rattle.joint_laws.proofs.joint_parameters.Arriving.{late_ends_link}
use Rattle.joint_laws.specs.joint_controls.phased_control.Taken.{Response}
use Rattle.link_model.specs.phased_end.Taking.{drawn}
use Rattle.link_model.specs.Data.{is_data}
use Rattle.link_model.specs.Setup.{Setup, first_anchor, first_params}
use Rattle.link_model.specs.Facts.{Facts}
use Rattle.link_model.proofs.Hearing.{IsHeardWhole}
use Rattle.link_pairs.specs.Ends.{AreEnds, heard_turns, is_lasting}
use Rattle.link_pairs.specs.Hearing.{IsPacketOf, answered, is_mixed, received}
use Rattle.link_pairs.specs.Shown.{AreLinked, Shows}
use Rattle.link_pairs.specs.Sound.{EndsForInstant, EndsForged, ShareEvent}
use Rattle.link_pairs.specs.Turns.{HaveBegun}
use Rattle.link_pairs.proofs.Ending.{ends_alone, ends_for_instant, heard_either, run_at}
use Rattle.link_pairs.proofs.JointRuns.{HasRun, by_turns_too}
use Rattle.link_pairs.proofs.PeripheralHears.{TakesAt}
use Rattle.link_pairs.proofs.PeripheralSteps.{one_step}
use Rattle.link_pairs.proofs.Reaching.{IsReached, paired}
use Rattle.link_pairs.proofs.Sounding.{central_track, link_now, peripheral_track, reached_now, runs}

-- ---- an indication on its way is taken, whether there is room for data or not

takes_indication : (room : Bool) (way : Way) (last : Option Change) (change : Change)
    → (if is_item is_indication (item_on_air way) then last else None) ≡ Some change → takes_item room (item_on_air way) ≡ true
takes_indication room Clear last change is = absurd (cc)
takes_indication room (Fixed item sealed) last change is = absurd (cc)
takes_indication room (OnAir Data sealed) last change is = absurd (cc)
takes_indication room (OnAir (control_item outgoing ctrl) sealed) last change is = refl
takes_indication room (Taken item) last change is = absurd (cc)

-- ---- a link ends late by no other code than that of the Instant

for_instant : (s : Joint) (ends : Option ErrCode) → EndsLate ends → EndsLateAlone s ends → ends ≡ Some (record { 0 = instant_passed })
for_instant s None late alone = absurd late
for_instant s (Some code) late (inl none) = absurd (cc)
for_instant s (Some code) late (inr passed) = passed.0

-- ---- the peripheral takes an indication that is late

module _ (central peripheral : Setup) where
  ends_late : (slot : ℕ) (response : Response) (change : Change) (s : Joint) → HasRun central peripheral s → may (PeripheralTakes slot response) s ≡ true
      → instant_now s ≡ Some change → is_late s ≡ true → EndsLate (joint_after (PeripheralTakes slot response) s).peripheral.control.ends
  ends_late slot response change s r =
      subst (λ (j : Joint). may (PeripheralTakes slot response) j ≡ true → instant_now j ≡ Some change → is_late j ≡ true
      → EndsLate (joint_after (PeripheralTakes slot response) j).peripheral.control.ends) r.reaches
      (late_ends_link central.link.max_rx peripheral.link.max_rx (first_params central.link.fields) (first_anchor central) r.steps r.run.latency r.run.in_range slot
      response change)

  module _ (ends : AreEnds central peripheral) (turns slot : ℕ) (response : Response) (answers takes : Bool) (c p : Facts) (now : Control) (l : Link)
      (reached : IsReached central peripheral l) (s : Shows central peripheral turns answers l c p) (t : TakesAt l.joint takes slot response now)
      (change : Change) (coming : instant_now l.joint ≡ Some change) (is_taken : takes ≡ true)
      (late : change.at.0 < event_of l.joint.peripheral.control.track) where
    instant_at : instant_now t.state ≡ Some change
    instant_at = (λ i. if is_item is_indication (item_on_air (t.down i)) then last_change (t.central i).control.sent else None) ∙ coming

    late_at : is_late t.state ≡ true
    late_at = (λ i. has_passed (instant_at i) (t.entered i - 1)) ∙ lt-ltb change.at.0 (event_of l.joint.peripheral.control.track) late

    takes_one : (b : Bool) → b ≡ true → may_all (step_if b (PeripheralTakes slot response)) t.state ≡ true
        → EndsLate (after_all (step_if b (PeripheralTakes slot response)) t.state).peripheral.control.ends
    takes_one true is comes =
        ends_late slot response change t.state (run_at central peripheral ends turns slot response answers takes c p now l reached s t)
        (one_step (PeripheralTakes slot response) t.state comes) instant_at late_at
    takes_one false is comes = absurd (cc)

    pub ends_now : now.ends ≡ Some (record { 0 = instant_passed })
    ends_now =
        for_instant t.state now.ends (subst (λ (k : Control). EndsLate k.ends) t.to (takes_one takes is_taken t.comes))
        (ends_alone central peripheral ends turns slot response answers takes c p now l reached s t)

-- ---- both ends in the event of one number

module _ (central peripheral : Setup) (ends : AreEnds central peripheral) (turns : ℕ) (answers : Bool) (c p : Facts) (l : Link)
    (reached : IsReached central peripheral l) (running : is_running l.joint ≡ true) (s : Shows central peripheral turns answers l c p) where
  both : IsPaired l
  both = paired central peripheral ends l reached running

  central_is : l.turns.central ≡ c.control.track
  central_is = central_track central peripheral ends turns answers c p l reached running s

  peripheral_is : l.turns.peripheral ≡ p.control.track
  peripheral_is = peripheral_track central peripheral ends turns answers c p l reached running s

  share : l.turns.central.entered ≡ l.turns.peripheral.entered → l.turns.central.anchor ≡ l.turns.peripheral.anchor → ShareEvent c p
  share count anchor =
      let number = ap event_of (sym central_is) ∙ ap (λ (n : ℕ). n - 1) count ∙ ap event_of peripheral_is in
      record {
        number = number;
        anchor = ap (λ (t : TrackFacts). t.anchor) (sym central_is) ∙ anchor ∙ ap (λ (t : TrackFacts). t.anchor) peripheral_is;
        noted = s.central_rests.number ∙ number ∙ sym s.peripheral_rests.number;
      }

  -- the peripheral has answered in this turn
  pub answers_share : l.turns.replies ≡ true → ShareEvent c p
  answers_share replies =
      let joint = joint_of (first_params central.link.fields) (first_anchor central) l.turns (by_turns_too central peripheral ends l reached) in
      share (joint.replies replies).count (joint.replies replies).anchor

  -- the packet of the central reaches the peripheral, which takes its PDU or does not
  module _ (slot : ℕ) (response : Response) (room : Bool) (now : Control)
      (t : TakesAt l.joint (takes_item room (item_on_air l.joint.down)) slot response now)
      (reaches : MayReach l.turns) where
    anchor_is : l.turns.central.anchor ≡ l.turns.peripheral.anchor
    anchor_is = anchors (first_params central.link.fields) (first_anchor central) l.turns (by_turns_too central peripheral ends l reached) reaches

    late_by : (o : Option Change) → instant_now l.joint ≡ o → IsLate o l.turns.peripheral → now.ends ≡ Some (record { 0 = instant_passed })
    late_by None is late = absurd late
    late_by (Some change) is late =
        ends_now central peripheral ends turns slot response answers (takes_item room (item_on_air l.joint.down)) c p now l reached s t change is
        (takes_indication room l.joint.down (last_change l.joint.central.control.sent) change is)
        (subst (λ (x : TrackFacts). change.at.0 < event_of x) both.peripheral late.0)

    ends_by : now.ends ≡ Some (record { 0 = instant_passed }) → EndsForInstant c p now.ends
    ends_by is = by (ends_for_instant central peripheral ends turns slot response answers (takes_item room (item_on_air l.joint.down)) c p now l reached s t)
      where
        by : (now.ends ≡ None) ⊎ EndsForInstant c p now.ends → EndsForInstant c p now.ends
        by (inl none) = absurd (let no = sym none ∙ is in cc)
        by (inr late) = late

    pub hears_share : ShareEvent c p ⊎ EndsForInstant c p now.ends
    hears_share =
        by (packets (first_params central.link.fields) (first_anchor central) l.turns (by_turns_too central peripheral ends l reached) reaches)
      where
        by : (l.turns.central.entered ≡ l.turns.peripheral.entered) ⊎ IsLate (untaken l.turns.last) l.turns.peripheral
            → ShareEvent c p ⊎ EndsForInstant c p now.ends
        by (inl count) = inl (share count anchor_is)
        by (inr late) = inr (ends_by (late_by (untaken l.turns.last) (sym both.coming) late))

-- ---- while the link lasts at both

pub peripheral_hears : IsHeardWhole → (central peripheral : Setup) (slot : ℕ) (c p : Facts) (channel : ℕ) (octets : List ℕ) (room : Bool)
    → AreEnds central peripheral → HaveBegun central peripheral slot true true c p → is_lasting c ≡ true → is_lasting p ≡ true
    → IsPacketOf central slot c channel octets → channel ≡ p.event.channel → slot + 1 ≤ heard_turns peripheral p + 32768
    → is_mixed peripheral p octets c.acknowledgement.last ≡ false
    → let after_it = (answered peripheral slot octets room p).control.ends in
    ShareEvent c p ⊎ (EndsForInstant c p after_it ⊎ EndsForged peripheral p octets after_it)
peripheral_hears heard central peripheral slot c p channel octets room ends begun c_lasts p_lasts packet same supervised pure =
    let running = runs central peripheral ends (slot + 1) false c p begun.linked c_lasts p_lasts in
    heard_either heard central peripheral slot c p channel octets room ends begun c_lasts p_lasts packet same supervised pure
    (λ o. ShareEvent c p ⊎ (EndsForInstant c p o ⊎ EndsForged peripheral p octets o))
    (λ reaches taken. late_or (received peripheral slot octets room p).control.ends
    (hears_share central peripheral ends (slot + 1) false c p (link_now central peripheral ends (slot + 1) false c p begun.linked c_lasts p_lasts)
    (reached_now central peripheral ends (slot + 1) false c p begun.linked c_lasts p_lasts) running (begun.linked.shows running) slot (drawn p.encryption.response)
    (room || not (is_data c.acknowledgement.last)) (received peripheral slot octets room p).control taken reaches))
    (λ forged. inr (inr forged))
  where
    late_or : (o : Option ErrCode) → ShareEvent c p ⊎ EndsForInstant c p o → ShareEvent c p ⊎ (EndsForInstant c p o ⊎ EndsForged peripheral p octets o)
    late_or o (inl share_it) = inl share_it
    late_or o (inr late) = inr (inl late)

pub central_hears : (central peripheral : Setup) (turns : ℕ) (c p : Facts) → AreEnds central peripheral
    → AreLinked central peripheral turns true c p → is_lasting c ≡ true → is_lasting p ≡ true → ShareEvent c p
central_hears central peripheral turns c p ends linked c_lasts p_lasts =
    let running = runs central peripheral ends turns true c p linked c_lasts p_lasts in
    let s = linked.shows running in
    answers_share central peripheral ends turns true c p (link_now central peripheral ends turns true c p linked c_lasts p_lasts)
    (reached_now central peripheral ends turns true c p linked c_lasts p_lasts) running s (s.replies refl)
