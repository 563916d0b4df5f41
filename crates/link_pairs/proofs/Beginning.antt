-- A turn begins: each end whose anchor is in it enters its next event, and both runs of the link begin the turn.
use Rattle.std.specs.Prelude.{IfSome}
use Rattle.std.proofs.Common.{◌≡◌, ◌+◌, ◌==◌, ◌++◌, ◌&&◌, ℕ, Bool, true, false, [], ◌∷◌, Option, Some, None, is_none, refl, sym, ap, subst, ◌∙◌, arith, if◌then◌else◌}
use Rattle.std.proofs.lemmas.Bool.{and_parts, eqb-true}
use Rattle.instants.specs.declared.track.Change.{Change}
use Rattle.instants.specs.Track.{TrackFacts, is_due, next_anchor_of, track_changed, track_in_next, track_unchanged}
use Rattle.control_octets.specs.procedure_stages.Kinds.{role_of}
use Rattle.control_octets.specs.Fitting.{FitsOctets}
use Rattle.two_tracks.specs.TwoEnds.{after_turn, enters}
use Rattle.control_octets.specs.control_model.Control.{Control, Enters as control_enters, after}
use Rattle.control_octets.proofs.control_model.Moving.{enters_track, same_role}
use Rattle.joint_laws.specs.joint_controls.phased_control.Phased.{Phased, ask_begun, is_quiet_now as is_quiet_phased, request_of, table_entered}
use Rattle.joint_laws.specs.joint_controls.phased_control.Taken.{Enters, phased_after, role_now}
use Rattle.joint_laws.specs.joint_controls.Joint.{CentralEnters, Joint, PeripheralEnters, act, after_all, is_running, may, may_all}
use Rattle.joint_laws.specs.joint_controls.Joint.{after as joint_after}
use Rattle.joint_laws.proofs.joint_controls.Running.{goes_on}
use Rattle.joint_laws.specs.joint_parameters.Turns.{Begins, IsPaired, Link, link_after, step_if}
use Rattle.joint_laws.proofs.joint_parameters.Pairing.{after_may, running_from}
use Rattle.joint_keys.specs.KeyedJoint.{Keys}
use Rattle.joint_keys.specs.KeyedLinks.{keys_in_step}
use Rattle.joint_keys.proofs.PhasedRanges.{request_is}
use Rattle.link_model.specs.Setup.{Setup}
use Rattle.link_model.specs.Controls.{is_quiet_now}
use Rattle.link_model.specs.Entering.{facts_entered}
use Rattle.link_model.specs.Facts.{Facts}
use Rattle.link_model.specs.keyed_control.KeyedSteps.{Enters as keyed_enters}
use Rattle.link_pairs.specs.Ends.{AreEnds, IsAtRest, IsLaterPdu, phased_of}
use Rattle.link_pairs.specs.Shown.{HasKeys, HaveKeys, Shows}
use Rattle.link_pairs.specs.Turns.{entered_in}
use Rattle.link_pairs.proofs.ControlKept.{IsKept}
use Rattle.link_pairs.proofs.PhasedEnds.{entered_phased}
use Rattle.link_pairs.proofs.PhasedKept.{PhasedFits, entered_fits, entered_keeps, entered_lasts, fits_of}
use Rattle.link_pairs.proofs.KeyedRuns.{central_entered, keys_entered_if, peripheral_entered}
use Rattle.link_pairs.proofs.KeysHeld.{has_moved, have_after}
use Rattle.link_pairs.proofs.Reaching.{IsReached, comes, joint_at, keys_at, paired}
use Rattle.link_pairs.proofs.Showing.{central_shows, peripheral_shows}

-- ---- the control part

anchor_changed : (due : Bool) (change : Change) (t : TrackFacts) → (if due then track_changed change t else track_unchanged t).anchor ≡ next_anchor_of t
anchor_changed true change t = refl
anchor_changed false change t = refl

anchor_entered : (waits : Option Change) (t : TrackFacts) → (track_in_next waits t).anchor ≡ next_anchor_of t
anchor_entered None t = refl
anchor_entered (Some change) t = anchor_changed (is_due change t.entered) change t

-- ---- one end

abbrev pub entering : Bool → Setup → ℕ → Facts → Facts
entering enters setup slot facts = if enters then facts_entered setup slot facts else facts

-- the request of an encryption that begins fits
begun_later : (x : Phased) → FitsOctets x.control → IfSome (request_of (ask_begun (table_entered x) (is_quiet_phased x))) IsLaterPdu
begun_later = request_is IsLaterPdu (λ rand ediv skd_m iv_m fits. (fits, refl))

-- the keys of an end that enters, or does not
entering_has : (enters : Bool) (setup : Setup) (slot : ℕ) (x : Phased) (keys : Keys) (facts : Facts) → x ≡ phased_of facts → HasKeys keys facts
    → HasKeys (keys_entered_if enters slot x keys) (entering enters setup slot facts)
entering_has true setup slot x keys facts is has = has_moved (keyed_enters slot) x keys facts (facts_entered setup slot facts) is refl refl refl refl has
entering_has false setup slot x keys facts is has = has

module _ (setup : Setup) (slot : ℕ) (facts : Facts) (lasts : facts.control.ends ≡ None) where
  pub entered_is : (enters : Bool) → (next_anchor_of facts.control.track == slot) ≡ enters
      → entered_in setup slot facts ≡ entering enters setup slot facts
  entered_is enters is = λ i. if is i then (if is_none (lasts i) then facts_entered setup slot facts else facts) else facts

  pub entering_sends : (enters : Bool) → (entering enters setup slot facts).acknowledgement ≡ facts.acknowledgement
  entering_sends true = refl
  entering_sends false = refl

  pub entering_hears : (enters : Bool) → (entering enters setup slot facts).last_good ≡ facts.last_good
  entering_hears true = refl
  entering_hears false = refl

  pub entering_phased : (enters : Bool) (x : Phased) → x ≡ phased_of facts
      → (if enters then phased_after (Enters slot) x else x) ≡ phased_of (entering enters setup slot facts)
  entering_phased true x is = ap (phased_after (Enters slot)) is ∙ sym (entered_phased setup slot facts)
  entering_phased false x is = is

  module _ (turns : ℕ) (r : IsAtRest setup turns facts) where
    abbrev x : Phased
    x = phased_of facts

    begun : IfSome (request_of (ask_begun (table_entered x) (is_quiet_phased x))) IsLaterPdu
    begun = begun_later x r.fits

    pub entering_lasts : (enters : Bool) → (entering enters setup slot facts).control.ends ≡ None
    entering_lasts true = ap (λ (y : Phased). y.control.ends) (entered_phased setup slot facts) ∙ entered_lasts x slot lasts begun
    entering_lasts false = lasts

    -- the control part in the event, before a PDU of the encryption is queued
    abbrev in_event : Control
    in_event = after (control_enters slot (is_quiet_now facts)) facts.control

    pub kept : IsKept in_event (facts_entered setup slot facts).control
    kept =
        subst (λ (y : Phased). IsKept in_event y.control) (sym (entered_phased setup slot facts)) (entered_keeps x slot lasts begun).kept

    fits : PhasedFits (phased_of (facts_entered setup slot facts))
    fits = subst PhasedFits (sym (entered_phased setup slot facts)) (entered_fits x slot lasts begun (fits_of setup turns facts r))

    entered_role : role_of (facts_entered setup slot facts).control.table.progress ≡ setup.link.role
    entered_role =
        subst (λ (y : Phased). role_now y ≡ setup.link.role) (sym (entered_phased setup slot facts))
        ((entered_keeps x slot lasts begun).role setup.link.role (same_role setup.link.role (control_enters slot (is_quiet_now facts)) facts.control r.role))

    entered_slot : (next_anchor_of facts.control.track == slot) ≡ true → slot ≡ (facts_entered setup slot facts).control.track.anchor
    entered_slot is =
        sym (eqb-true (next_anchor_of facts.control.track) slot is)
        ∙ sym (anchor_entered facts.control.track.waits facts.control.track)
        ∙ ap (λ (t : TrackFacts). t.anchor) (sym (enters_track facts.control slot (is_quiet_now facts) lasts)) ∙ sym kept.anchor

    pub entering_rests : (enters : Bool) → (next_anchor_of facts.control.track == slot) ≡ enters → IsAtRest setup turns (entering enters setup slot facts)
    entering_rests false is = r
    entering_rests true is =
        record {
          fits = fits.control;
          holds = record { request = fits.request; kept = fits.kept; response = r.holds.response };
          role = entered_role;
          none_gone = r.none_gone;
          fits_any = r.fits_any;
          two_bits = r.two_bits;
          slot = λ entered. entered_slot is;
          number = refl;
          heard = λ heard. absurd (cc);
          past = r.past;
          stays = r.stays;
        }

rests_later : (setup : Setup) (turns : ℕ) (facts : Facts) → IsAtRest setup turns facts → IsAtRest setup (turns + 1) facts
rests_later setup turns facts r =
    record {
      fits = r.fits;
      holds = r.holds;
      role = r.role;
      none_gone = r.none_gone;
      fits_any = r.fits_any;
      two_bits = r.two_bits;
      slot = r.slot;
      number = r.number;
      heard = r.heard;
      past = let before = r.past in omega (arith, before);
      stays = r.stays;
    }

-- ---- the joint run

-- the two ends enter, or do not
abbrev both_enter : (central_enters peripheral_enters : Bool) → ℕ → Joint → Joint
both_enter central_enters peripheral_enters slot s =
    record s {
      central = if central_enters then phased_after (Enters slot) s.central else s.central;
      peripheral = if peripheral_enters then phased_after (Enters slot) s.peripheral else s.peripheral;
    }

both_entered : (central_enters peripheral_enters : Bool) (slot : ℕ) (s : Joint)
    → may_all (step_if central_enters (CentralEnters slot) ++ step_if peripheral_enters (PeripheralEnters slot)) s ≡ true
    → after_all (step_if central_enters (CentralEnters slot) ++ step_if peripheral_enters (PeripheralEnters slot)) s ≡ both_enter central_enters peripheral_enters slot s
both_entered false false slot s comes = refl
both_entered true false slot s comes = after_may (CentralEnters slot) s (and_parts (may (CentralEnters slot) s) true comes).0
both_entered false true slot s comes = after_may (PeripheralEnters slot) s (and_parts (may (PeripheralEnters slot) s) true comes).0
both_entered true true slot s comes =
    let parts = and_parts (may (CentralEnters slot) s) (may_all (PeripheralEnters slot ∷ []) (joint_after (CentralEnters slot) s)) comes in
    let later = (and_parts (may (PeripheralEnters slot) (joint_after (CentralEnters slot) s)) true parts.1).0 in
    after_may (PeripheralEnters slot) (joint_after (CentralEnters slot) s) later ∙ ap (act (PeripheralEnters slot)) (after_may (CentralEnters slot) s parts.0)

-- ---- both ends

module _ (central peripheral : Setup) (slot : ℕ) (answers : Bool) (l : Link) (c p : Facts) (s : Shows central peripheral slot answers l c p) where
  turn_shows : Shows central peripheral (slot + 1) false (record l { turns = after_turn l.turns }) c p
  turn_shows =
      record {
        central_part = s.central_part;
        peripheral_part = s.peripheral_part;
        down = s.down;
        up = s.up;
        agreement = s.agreement;
        begun = ap (λ (n : ℕ). n + 1) s.begun;
        replies = λ is. absurd (cc);
        last = s.last;
        central_heard = s.central_heard;
        peripheral_heard = s.peripheral_heard;
        free = s.free;
        central_rests = rests_later central slot c s.central_rests;
        peripheral_rests = rests_later peripheral slot p s.peripheral_rests;
        central_fits = s.central_fits;
        peripheral_fits = s.peripheral_fits;
      }

  module _ (ends : AreEnds central peripheral) (reached : IsReached central peripheral l) (running : is_running l.joint ≡ true) where
    pairs : IsPaired l
    pairs = paired central peripheral ends l reached running

    central_lasts : c.control.ends ≡ None
    central_lasts = ap (λ (x : Phased). x.control.ends) (sym s.central_part) ∙ (goes_on l.joint running).central

    peripheral_lasts : p.control.ends ≡ None
    peripheral_lasts = ap (λ (x : Phased). x.control.ends) (sym s.peripheral_part) ∙ (goes_on l.joint running).peripheral

    -- the anchors are those of the turns
    central_at : enters l.turns.turns l.turns.central_open l.turns.central ≡ (next_anchor_of c.control.track == slot)
    central_at =
        λ i. pairs.central_open i && (next_anchor_of ((pairs.central ∙ ap (λ (x : Phased). x.control.track) s.central_part) i) == s.begun i)

    peripheral_at : enters l.turns.turns l.turns.peripheral_open l.turns.peripheral ≡ (next_anchor_of p.control.track == slot)
    peripheral_at =
        λ i. pairs.peripheral_open i && (next_anchor_of ((pairs.peripheral ∙ ap (λ (x : Phased). x.control.track) s.peripheral_part) i) == s.begun i)

    abbrev next : Joint
    next = both_enter (next_anchor_of c.control.track == slot) (next_anchor_of p.control.track == slot) slot l.joint

    leads : (link_after (Begins slot) l).joint ≡ next
    leads =
        both_entered _ _ slot l.joint (comes central peripheral ends (Begins slot) l reached running tt)
        ∙ (λ i. both_enter (central_at i) (peripheral_at i) slot l.joint)

    abbrev central_next : Facts
    central_next = entering (next_anchor_of c.control.track == slot) central slot c

    abbrev peripheral_next : Facts
    peripheral_next = entering (next_anchor_of p.control.track == slot) peripheral slot p

    central_phased : next.central ≡ phased_of central_next
    central_phased =
        entering_phased central slot c central_lasts (next_anchor_of c.control.track == slot) l.joint.central s.central_part

    peripheral_phased : next.peripheral ≡ phased_of peripheral_next
    peripheral_phased =
        entering_phased peripheral slot p peripheral_lasts (next_anchor_of p.control.track == slot) l.joint.peripheral s.peripheral_part

    next_shows : Shows central peripheral (slot + 1) false (record { turns = after_turn l.turns; joint = next }) central_next peripheral_next
    next_shows =
        peripheral_shows central peripheral (slot + 1) false (record { turns = after_turn l.turns; joint = record l.joint { central = next.central } }) central_next p
        (central_shows central peripheral (slot + 1) false (record l { turns = after_turn l.turns }) c p turn_shows next.central central_next central_phased
        (entering_sends central slot c central_lasts _) (entering_hears central slot c central_lasts _)
        (entering_rests central slot c central_lasts (slot + 1) (rests_later central slot c s.central_rests) _ refl))
        next.peripheral peripheral_next peripheral_phased (entering_sends peripheral slot p peripheral_lasts _) (entering_hears peripheral slot p peripheral_lasts _)
        (entering_rests peripheral slot p peripheral_lasts (slot + 1) (rests_later peripheral slot p s.peripheral_rests) _ refl)

    pub begun_shows : Shows central peripheral (slot + 1) false (link_after (Begins slot) l) (entered_in central slot c) (entered_in peripheral slot p)
    begun_shows =
        subst (λ (d : Facts). Shows central peripheral (slot + 1) false (link_after (Begins slot) l) d (entered_in peripheral slot p))
        (sym (entered_is central slot c central_lasts _ refl))
        (subst (λ (q : Facts). Shows central peripheral (slot + 1) false (link_after (Begins slot) l) central_next q)
        (sym (entered_is peripheral slot p peripheral_lasts _ refl))
        (subst (λ (j : Joint). Shows central peripheral (slot + 1) false (record { turns = after_turn l.turns; joint = j }) central_next peripheral_next)
        (sym leads) next_shows))

    pub begun_runs : is_running (link_after (Begins slot) l).joint ≡ true
    begun_runs =
        subst (λ (j : Joint). is_running j ≡ true) (sym leads)
        (running_from next (goes_on l.joint running).stopped
        (ap (λ (x : Phased). x.control.ends) central_phased ∙ entering_lasts central slot c central_lasts slot s.central_rests _)
        (ap (λ (x : Phased). x.control.ends) peripheral_phased ∙ entering_lasts peripheral slot p peripheral_lasts slot s.peripheral_rests _))

    pub begun_keys : HaveKeys (keys_at central peripheral l reached) c p
        → HaveKeys (keys_in_step (record { step = Begins slot; ltk = [] }) l (keys_at central peripheral l reached)) (entered_in central slot c)
        (entered_in peripheral slot p)
    begun_keys keys =
        let k = keys_at central peripheral l reached in
        let one = enters l.turns.turns l.turns.central_open l.turns.central in
        let other = enters l.turns.turns l.turns.peripheral_open l.turns.peripheral in
        have_after [] (step_if one (CentralEnters slot) ++ step_if other (PeripheralEnters slot)) k l.joint (entered_in central slot c) (entered_in peripheral slot p)
        (joint_at central peripheral l reached) (comes central peripheral ends (Begins slot) l reached running tt)
        (subst (λ (x : Keys). HasKeys x (entered_in central slot c))
        (sym (central_entered [] l.joint k.central one other slot ∙ λ i. keys_entered_if (central_at i) slot l.joint.central k.central))
        (subst (HasKeys (keys_entered_if (next_anchor_of c.control.track == slot) slot l.joint.central k.central)) (sym (entered_is central slot c central_lasts _ refl))
        (entering_has (next_anchor_of c.control.track == slot) central slot l.joint.central k.central c s.central_part keys.central_keys)))
        (subst (λ (x : Keys). HasKeys x (entered_in peripheral slot p))
        (sym (peripheral_entered [] l.joint k.peripheral one other slot ∙ λ i. keys_entered_if (peripheral_at i) slot l.joint.peripheral k.peripheral))
        (subst (HasKeys (keys_entered_if (next_anchor_of p.control.track == slot) slot l.joint.peripheral k.peripheral))
        (sym (entered_is peripheral slot p peripheral_lasts _ refl))
        (entering_has (next_anchor_of p.control.track == slot) peripheral slot l.joint.peripheral k.peripheral p s.peripheral_part keys.peripheral_keys)))
