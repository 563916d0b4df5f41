-- How a link that lasts at both ends may end as one of them hears the other.
use Rattle.std.proofs.Common.{◌≡◌, ◌⊎◌, inl, inr, ℕ, ◌+◌, ◌-◌, ◌≤◌, ◌||◌, not, Bool, true, false, List, [], ◌∷◌, ◌++◌, Option, None, refl, ap, sym, subst, ◌∙◌, if◌then◌else◌}
use Rattle.std.proofs.lemmas.Bool.{and_parts}
use Rattle.ble_base.specs.declared.error_codes.ErrCode.{ErrCode}
use Rattle.instants.specs.declared.track.Change.{Change}
use Rattle.two_tracks.specs.TwoEnds.{MayReach}
use Rattle.control_octets.specs.control_model.Control.{Control}
use Rattle.joint_laws.specs.joint_controls.phased_control.Phased.{Phased}
use Rattle.joint_laws.specs.joint_controls.phased_control.Taken.{Response}
use Rattle.link_model.specs.phased_end.Taking.{drawn}
use Rattle.joint_laws.specs.joint_controls.Ends.{AreStepsInRange, IsStepInRange}
use Rattle.joint_laws.specs.joint_controls.Joint.{Joint, JointStep, PeripheralTakes, act, after_all, event_now, has_passed, is_indication, is_item, is_late, is_running, item_on_air, last_change, may, may_all}
use Rattle.joint_laws.specs.joint_controls.Joint.{after as joint_after}
use Rattle.joint_laws.proofs.joint_controls.Running.{goes_on}
use Rattle.joint_laws.proofs.LinkEnds.{central_end, peripheral_ends_late}
use Rattle.joint_laws.specs.Ends.{EndsLateAlone}
use Rattle.joint_laws.specs.joint_parameters.Turns.{Link, LinkStep, joint_steps, step_if, takes_item}
use Rattle.joint_laws.proofs.joint_parameters.Pairing.{after_may}
use Rattle.joint_laws.proofs.joint_parameters.Runs.{after_joined, range_joined}
use Rattle.link_model.specs.Data.{is_data}
use Rattle.link_model.specs.Setup.{Setup, first_anchor, first_params}
use Rattle.link_model.specs.Facts.{Facts}
use Rattle.link_model.specs.Packets.{is_forged}
use Rattle.link_model.specs.Receiving.{replies_of}
use Rattle.link_model.proofs.Hearing.{IsHeardWhole}
use Rattle.joint_keys.proofs.LinkKeys.{step_in_range}
use Rattle.link_pairs.specs.Ends.{AreEnds, heard_turns, is_lasting}
use Rattle.link_pairs.specs.Hearing.{IsPacketOf, answered, is_mixed, received}
use Rattle.link_pairs.specs.Shown.{AreLinked, HaveKeys, Shows}
use Rattle.link_pairs.specs.Sound.{EndsForInstant, EndsForged, first_joint, is_instant_passed}
use Rattle.link_pairs.specs.Turns.{HaveBegun}
use Rattle.link_pairs.proofs.CentralHears as central_hears
use Rattle.link_pairs.proofs.EndingNothing.{sent_ends_nothing}
use Rattle.link_pairs.proofs.JointRuns.{HasRun, has_run}
use Rattle.link_pairs.proofs.PeripheralHeard.{reaches_now, read, takes_now}
use Rattle.link_pairs.proofs.PeripheralHears.{TakesAt}
use Rattle.link_pairs.proofs.PeripheralSteps.{one_step}
use Rattle.link_pairs.proofs.Reaching.{IsReached, comes, keys_at}
use Rattle.link_pairs.proofs.Reading.{IsRead}
use Rattle.link_pairs.proofs.Replying.{received_forged}
use Rattle.link_pairs.proofs.Shutting.{forged_code}
use Rattle.link_pairs.proofs.Sounding.{link_now, reached_now, runs}

-- ---- steps of a joint run

module _ (central peripheral : Setup) where
  -- further steps lead on
  pub run_on : (steps : List JointStep) (s : Joint) → AreStepsInRange steps → HasRun central peripheral s → HasRun central peripheral (after_all steps s)
  run_on steps s range r =
      record {
        steps = r.steps ++ steps;
        run = record { latency = r.run.latency; in_range = range_joined r.steps steps r.run.in_range range };
        reaches = after_joined r.steps steps (first_joint central peripheral) ∙ ap (after_all steps) r.reaches;
      }

  -- none of them ends the link at the central
  central_step : (step : JointStep) (s : Joint) → IsStepInRange step → HasRun central peripheral s → may step s ≡ true
      → (joint_after step s).central.control.ends ≡ None
  central_step step s range r may_step =
      ap (λ (j : Joint). j.central.control.ends) (after_may step s may_step)
      ∙ subst (λ (j : Joint). may step j ≡ true → (act step j).central.control.ends ≡ None) r.reaches
      (λ is. central_end central.link.max_rx peripheral.link.max_rx (first_params central.link.fields) (first_anchor central) r.steps r.run (and_parts _ _ is).0
      step range is)
      may_step

  central_steps : (steps : List JointStep) (s : Joint) → AreStepsInRange steps → HasRun central peripheral s → may_all steps s ≡ true
      → s.central.control.ends ≡ None → (after_all steps s).central.control.ends ≡ None
  central_steps [] s range r may_steps lasts = lasts
  central_steps (step ∷ steps) s range r may_steps lasts =
      let parts = and_parts (may step s) (may_all steps (joint_after step s)) may_steps in
      central_steps steps (joint_after step s) range.1 (run_on (step ∷ []) s (range.0, tt) r) parts.1 (central_step step s range.0 r parts.0)

  -- none ends it at the peripheral, but as that takes an indication whose Instant it has passed
  peripheral_step : (step : JointStep) (s : Joint) → IsStepInRange step → HasRun central peripheral s → may step s ≡ true
      → EndsLateAlone s (joint_after step s).peripheral.control.ends
  peripheral_step step s range r may_step =
      subst (λ (j : Joint). EndsLateAlone s j.peripheral.control.ends) (sym (after_may step s may_step))
      (subst (λ (j : Joint). may step j ≡ true → EndsLateAlone j (act step j).peripheral.control.ends) r.reaches
      (λ is. peripheral_ends_late central.link.max_rx peripheral.link.max_rx (first_params central.link.fields) (first_anchor central) r.steps r.run
      (and_parts _ _ is).0 step range is)
      may_step)

-- ---- the central hears the answer

module _ (central peripheral : Setup) (ends : AreEnds central peripheral) (slot : ℕ) (c p : Facts) (octets : List ℕ) (room : Bool)
    (past : heard_turns central c ≤ slot) (entered : 1 ≤ c.control.track.entered)
    (read : IsRead central c slot octets p.acknowledgement)
    (l : Link) (reached : IsReached central peripheral l) (running : is_running l.joint ≡ true)
    (s : Shows central peripheral (slot + 1) true l c p) (keys : HaveKeys (keys_at central peripheral l reached) c p) where
  abbrev step : LinkStep
  step = central_hears.step central peripheral ends slot c p octets room past entered read l reached running s keys

  central_goes_on : (received central slot octets room c).control.ends ≡ None
  central_goes_on =
      ap (λ (k : Control). k.ends) (sym (central_hears.control_heard central peripheral ends slot c p octets room past entered read l reached running s keys))
      ∙ central_steps central peripheral (joint_steps step l) l.joint (step_in_range step l tt) (has_run central peripheral ends l reached)
      (comes central peripheral ends step l reached running (s.replies refl)) (goes_on l.joint running).central

module _ (heard : IsHeardWhole) (central peripheral : Setup) (slot : ℕ) (c p : Facts) (channel : ℕ) (octets : List ℕ) (room : Bool)
    (ends : AreEnds central peripheral) (linked : AreLinked central peripheral (slot + 1) true c p) (past : heard_turns central c ≤ slot)
    (entered : 1 ≤ c.control.track.entered) (packet : IsPacketOf peripheral slot p channel octets) (same : channel ≡ c.event.channel)
    (pure : is_mixed central c octets p.acknowledgement.last ≡ false)
    (l : Link) (reached : IsReached central peripheral l) (running : is_running l.joint ≡ true)
    (s : Shows central peripheral (slot + 1) true l c p) (keys : HaveKeys (keys_at central peripheral l reached) c p) where
  abbrev after_it : Option ErrCode
  after_it = (received central slot octets room c).control.ends

  ends_by : IsRead central c slot octets p.acknowledgement ⊎ (is_forged central c octets ≡ true) → (after_it ≡ None) ⊎ EndsForged central c octets after_it
  ends_by (inl is) = inl (central_goes_on central peripheral ends slot c p octets room past entered is l reached running s keys)
  ends_by (inr forged) =
      inr (
        forged,
        ap (λ (f : Facts). f.control.ends) (received_forged central c slot octets room forged)
            ∙ forged_code c.control (ap (λ (x : Phased). x.control.ends) (sym s.central_part) ∙ (goes_on l.joint running).central),
      )

  central_ends : (after_it ≡ None) ⊎ EndsForged central c octets after_it
  central_ends =
      ends_by (central_hears.read heard central peripheral slot c p channel octets room ends linked past entered packet same pure l reached running s keys)

pub central_lasts : IsHeardWhole → (central peripheral : Setup) (slot : ℕ) (c p : Facts) (channel : ℕ) (octets : List ℕ) (room : Bool)
    → AreEnds central peripheral → AreLinked central peripheral (slot + 1) true c p → is_lasting c ≡ true → is_lasting p ≡ true
    → heard_turns central c ≤ slot → 1 ≤ c.control.track.entered → IsPacketOf peripheral slot p channel octets → channel ≡ c.event.channel
    → is_mixed central c octets p.acknowledgement.last ≡ false
    → let after_it = (received central slot octets room c).control.ends in (after_it ≡ None) ⊎ EndsForged central c octets after_it
central_lasts heard central peripheral slot c p channel octets room ends linked c_lasts p_lasts past entered packet same pure =
    let running = runs central peripheral ends (slot + 1) true c p linked c_lasts p_lasts in
    central_ends heard central peripheral slot c p channel octets room ends linked past entered packet same pure
    (link_now central peripheral ends (slot + 1) true c p linked c_lasts p_lasts)
    (reached_now central peripheral ends (slot + 1) true c p linked c_lasts p_lasts) running (linked.shows running) (linked.keys running)

-- ---- the peripheral hears the central

-- an indication that is on its way is the last that was sent
passed_of : (on_air : Bool) (last : Option Change) (event : ℕ) → has_passed (if on_air then last else None) event ≡ true → has_passed last event ≡ true
passed_of true last event is = is
passed_of false last event is = absurd (cc)

module _ (central peripheral : Setup) (ends : AreEnds central peripheral) (turns slot : ℕ) (response : Response) (answers takes : Bool) (c p : Facts) (now : Control) (l : Link)
    (reached : IsReached central peripheral l) (s : Shows central peripheral turns answers l c p) (t : TakesAt l.joint takes slot response now) where
  pub run_at : HasRun central peripheral t.state
  run_at = subst (HasRun central peripheral) t.leads (run_on central peripheral t.steps l.joint t.in_range (has_run central peripheral ends l reached))

  takes_by : (b : Bool) → may_all (step_if b (PeripheralTakes slot response)) t.state ≡ true
      → EndsLateAlone t.state (after_all (step_if b (PeripheralTakes slot response)) t.state).peripheral.control.ends
  takes_by true may_steps = peripheral_step central peripheral (PeripheralTakes slot response) t.state tt run_at
      (one_step (PeripheralTakes slot response) t.state may_steps)
  takes_by false may_steps = inl t.lasts

  pub ends_alone : EndsLateAlone t.state now.ends
  ends_alone = subst (λ (k : Control). EndsLateAlone t.state k.ends) t.to (takes_by takes t.comes)

  -- the peripheral has passed the Instant by what both ends hold
  passed_now : is_late t.state ≡ true → is_instant_passed c p ≡ true
  passed_now late =
      let sent = ap (λ (x : Phased). x.control.sent) (t.central ∙ s.central_part) in
      let entered = t.entered ∙ ap (λ (x : Phased). x.control.track.entered) s.peripheral_part in
      (λ i. has_passed (last_change (sym sent i)) (sym entered i - 1))
      ∙ passed_of (is_item is_indication (item_on_air t.state.down)) (last_change t.state.central.control.sent) (event_now t.state.peripheral) late

  pub ends_for_instant : (now.ends ≡ None) ⊎ EndsForInstant c p now.ends
  ends_for_instant = by ends_alone
    where
      by : EndsLateAlone t.state now.ends → (now.ends ≡ None) ⊎ EndsForInstant c p now.ends
      by (inl goes) = inl goes
      by (inr late) = inr (late.0, passed_now late.1)

-- what it sends then ends nothing
pub answered_ends : (peripheral : Setup) (slot : ℕ) (octets : List ℕ) (room : Bool) (p : Facts)
    → (answered peripheral slot octets room p).control.ends ≡ (received peripheral slot octets room p).control.ends
answered_ends peripheral slot octets room p =
    (sent_ends_nothing (replies_of peripheral p slot octets room) peripheral slot (received peripheral slot octets room p)).procedures

-- the PDU is taken or not, or the packet is forged
module _ (heard : IsHeardWhole) (central peripheral : Setup) (slot : ℕ) (c p : Facts) (channel : ℕ) (octets : List ℕ) (room : Bool)
    (ends : AreEnds central peripheral) (begun : HaveBegun central peripheral slot true true c p) (c_lasts : is_lasting c ≡ true) (p_lasts : is_lasting p ≡ true)
    (packet : IsPacketOf central slot c channel octets) (same : channel ≡ p.event.channel) (supervised : slot + 1 ≤ heard_turns peripheral p + 32768)
    (pure : is_mixed peripheral p octets c.acknowledgement.last ≡ false) where
  abbrev linked : AreLinked central peripheral (slot + 1) false c p
  linked = begun.linked

  pub running_then : is_running (link_now central peripheral ends (slot + 1) false c p linked c_lasts p_lasts).joint ≡ true
  running_then = runs central peripheral ends (slot + 1) false c p linked c_lasts p_lasts

  abbrev pub link_then : Link
  link_then = link_now central peripheral ends (slot + 1) false c p linked c_lasts p_lasts

  abbrev pub reached_then : IsReached central peripheral link_then
  reached_then = reached_now central peripheral ends (slot + 1) false c p linked c_lasts p_lasts

  abbrev pub after_then : Option ErrCode
  after_then = (answered peripheral slot octets room p).control.ends

  -- by whether the packet is read as it was sent
  pub heard_either : (X : Option ErrCode → Type 0)
      → (MayReach link_then.turns
      → TakesAt link_then.joint (takes_item (room || not (is_data c.acknowledgement.last)) (item_on_air link_then.joint.down)) slot (drawn p.encryption.response)
      (received peripheral slot octets room p).control
      → X (received peripheral slot octets room p).control.ends)
      → (EndsForged peripheral p octets (received peripheral slot octets room p).control.ends → X (received peripheral slot octets room p).control.ends)
      → X after_then
  heard_either X taken forged =
      let s = linked.shows running_then in
      let keys = linked.keys running_then in
      let ready = begun.ready running_then in
      subst X (sym (answered_ends peripheral slot octets room p))
      (by (read heard central peripheral slot c p channel octets room ends begun packet same supervised pure ready link_then reached_then running_then s keys))
    where
      by : IsRead peripheral p slot octets c.acknowledgement ⊎ (is_forged peripheral p octets ≡ true) → X (received peripheral slot octets room p).control.ends
      by (inl is) =
          let s = begun.linked.shows running_then in
          let keys = begun.linked.keys running_then in
          let ready = begun.ready running_then in
          taken
          (reaches_now heard central peripheral slot c p channel octets room ends begun packet same supervised pure ready link_then reached_then running_then s keys is)
          (takes_now heard central peripheral slot c p channel octets room ends begun packet same supervised pure ready link_then reached_then running_then s keys is)
      by (inr wrong) =
          forged (
            wrong,
            ap (λ (f : Facts). f.control.ends) (received_forged peripheral p slot octets room wrong)
                ∙ forged_code p.control
                (ap (λ (x : Phased). x.control.ends) (sym (begun.linked.shows running_then).peripheral_part) ∙ (goes_on link_then.joint running_then).peripheral),
          )

pub peripheral_lasts : IsHeardWhole → (central peripheral : Setup) (slot : ℕ) (c p : Facts) (channel : ℕ) (octets : List ℕ) (room : Bool)
    → AreEnds central peripheral → HaveBegun central peripheral slot true true c p → is_lasting c ≡ true → is_lasting p ≡ true
    → IsPacketOf central slot c channel octets → channel ≡ p.event.channel → slot + 1 ≤ heard_turns peripheral p + 32768
    → is_mixed peripheral p octets c.acknowledgement.last ≡ false
    → let after_it = (answered peripheral slot octets room p).control.ends in
    (after_it ≡ None) ⊎ (EndsForInstant c p after_it ⊎ EndsForged peripheral p octets after_it)
peripheral_lasts heard central peripheral slot c p channel octets room ends begun c_lasts p_lasts packet same supervised pure =
    heard_either heard central peripheral slot c p channel octets room ends begun c_lasts p_lasts packet same supervised pure
    (λ o. (o ≡ None) ⊎ (EndsForInstant c p o ⊎ EndsForged peripheral p octets o))
    (λ reaches taken. late_or (received peripheral slot octets room p).control.ends
    (ends_for_instant central peripheral ends (slot + 1) slot (drawn p.encryption.response) false
    (takes_item (room || not (is_data c.acknowledgement.last))
    (item_on_air (link_now central peripheral ends (slot + 1) false c p begun.linked c_lasts p_lasts).joint.down)) c p
    (received peripheral slot octets room p).control (link_now central peripheral ends (slot + 1) false c p begun.linked c_lasts p_lasts)
    (reached_now central peripheral ends (slot + 1) false c p begun.linked c_lasts p_lasts)
    (begun.linked.shows (runs central peripheral ends (slot + 1) false c p begun.linked c_lasts p_lasts)) taken))
    (λ forged. inr (inr forged))
  where
    late_or : (o : Option ErrCode) → (o ≡ None) ⊎ EndsForInstant c p o → (o ≡ None) ⊎ (EndsForInstant c p o ⊎ EndsForged peripheral p octets o)
    late_or o (inl none) = inl none
    late_or o (inr late) = inr (inl late)
