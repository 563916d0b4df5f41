-- What two linked ends hold where the run goes on that they are.
use Rattle.std.proofs.Common.{◌≡◌, ◌⊎◌, inl, inr, ℕ, ◌+◌, ◌≤◌, Bool, true, Option, Some, None, ap, sym, subst, ◌∙◌, arith}
use Rattle.std.proofs.lemmas.Bool.{eq-eqb}
use Rattle.ble_base.specs.declared.roles.Role.TheVariants.{Central, Peripheral}
use Rattle.instants.specs.declared.track.Change.{Change}
use Rattle.instants.specs.Track.{TrackFacts}
use Rattle.two_tracks.specs.Reached.{AreOpen, untaken}
use Rattle.two_tracks.proofs.JointHearing.{joint_of}
use Rattle.two_tracks.proofs.Relations.{AreLevel, IsApart, IsBefore, IsBehind, Stand}
use Rattle.joint_laws.specs.joint_controls.Joint.{Joint, after_all, is_running}
use Rattle.joint_laws.specs.Sound.{IsSound}
use Rattle.joint_laws.proofs.SoundStates.{sound_now}
use Rattle.joint_laws.specs.joint_parameters.Turns.{IsPaired, Link}
use Rattle.joint_laws.proofs.joint_parameters.Equal.{central_follows, peripheral_follows}
use Rattle.link_model.specs.Setup.{Setup, first_anchor, first_params}
use Rattle.link_model.specs.Facts.{Facts}
use Rattle.link_pairs.specs.Ends.{AreEnds, is_lasting, phased_of}
use Rattle.link_pairs.specs.Shown.{AreLinked, Shows, link_of}
use Rattle.link_pairs.specs.Sound.{AreSoundEnds, FollowsSent, IsJointState, first_joint}
use Rattle.link_pairs.proofs.JointRuns.{HasRun, by_turns_too, has_run}
use Rattle.link_pairs.proofs.Reaching.{IsReached, paired, reached_by}

-- ---- how many indications hold

record AreNumbered (c p : TrackFacts) : Type 0 where
  not_fewer : p.applied ≤ c.applied
  one_more : c.applied ≤ p.applied + 1

same_number : (c p : TrackFacts) → c.applied ≡ p.applied → AreNumbered c p
same_number c p is = record { not_fewer = omega (arith, is); one_more = omega (arith, is) }

more_by_one : (c p : TrackFacts) → c.applied ≡ p.applied + 1 → AreNumbered c p
more_by_one c p is = record { not_fewer = omega (arith, is); one_more = omega (arith, is) }

level_numbers : (c p : TrackFacts) → AreLevel c p → AreNumbered c p
level_numbers c p (inl same) = same_number c p (ap (λ (t : TrackFacts). t.applied) same)
level_numbers c p (inr late) = more_by_one c p (ap (λ (t : TrackFacts). t.applied) late.central)

apart_numbers : (turns : ℕ) (change : Change) (c p : TrackFacts) → IsApart turns change c p → AreNumbered c p
apart_numbers turns change c p apart = by apart.central
  where
    by : IsBefore change apart.place c p.params p.applied ⊎ IsBehind change apart.place c p.params p.applied → AreNumbered c p
    by (inl before) = same_number c p before.number
    by (inr later) = more_by_one c p later.number

numbers : (turns : ℕ) (last : Option Change) (c p : TrackFacts) → Stand turns last c p → AreNumbered c p
numbers turns None c p level = level_numbers c p level
numbers turns (Some change) c p (inl ahead) = same_number c p (ap (λ (t : TrackFacts). t.applied) ahead.central)
numbers turns (Some change) c p (inr apart) = apart_numbers turns change c p apart

-- ---- both ends, where the run goes on

module _ (central peripheral : Setup) (ends : AreEnds central peripheral) (turns : ℕ) (answers : Bool) (c p : Facts) (l : Link)
    (reached : IsReached central peripheral l) (running : is_running l.joint ≡ true) (s : Shows central peripheral turns answers l c p) where
  run : HasRun central peripheral l.joint
  run = has_run central peripheral ends l reached

  both : IsPaired l
  both = paired central peripheral ends l reached running

  pub sound : IsSound l.joint
  sound =
      subst IsSound run.reaches
      (sound_now central.link.max_rx peripheral.link.max_rx (first_params central.link.fields) (first_anchor central) run.steps run.run
      (subst (λ (j : Joint). is_running j ≡ true) (sym run.reaches) running))

  pub state : IsJointState central peripheral c p l.joint
  state =
      record {
        steps = run.steps;
        run = run.run;
        reaches = run.reaches;
        goes_on = running;
        sound = sound;
        central_part = s.central_part;
        peripheral_part = s.peripheral_part;
      }

  -- the state, with what both ends hold
  abbrev now : Joint
  now = record l.joint { central = phased_of c; peripheral = phased_of p }

  is_now : l.joint ≡ now
  is_now = λ i. record l.joint { central = s.central_part i; peripheral = s.peripheral_part i }

  sound_now_too : IsSound now
  sound_now_too = subst IsSound is_now sound

  reaches_now : after_all run.steps (first_joint central peripheral) ≡ now
  reaches_now = run.reaches ∙ is_now

  pub central_track : l.turns.central ≡ c.control.track
  central_track = both.central ∙ ap (λ (j : Joint). j.central.control.track) is_now

  pub peripheral_track : l.turns.peripheral ≡ p.control.track
  peripheral_track = both.peripheral ∙ ap (λ (j : Joint). j.peripheral.control.track) is_now

  numbered : AreNumbered c.control.track p.control.track
  numbered =
      let opened : AreOpen l.turns = record { central = both.central_open; peripheral = both.peripheral_open } in
      let t = joint_of (first_params central.link.fields) (first_anchor central) l.turns (by_turns_too central peripheral ends l reached) in
      subst (λ (t : TrackFacts). AreNumbered t p.control.track) central_track
      (subst (λ (t : TrackFacts). AreNumbered l.turns.central t) peripheral_track
      (numbers l.turns.turns (untaken l.turns.last) l.turns.central l.turns.peripheral (t.joined opened).stand))

  pub sound_ends : AreSoundEnds central peripheral c p
  sound_ends =
      record {
        agreement = s.agreement;
        parameters = λ event number. sound_now_too.parameters (eq-eqb _ _ event) number;
        not_fewer = numbered.not_fewer;
        one_more = numbered.one_more;
        central_follows =
            subst (λ (j : Joint). FollowsSent central j.central.control.sent j.central.control.track) reaches_now
            (central_follows central.link.max_rx peripheral.link.max_rx (first_params central.link.fields) (first_anchor central) run.run.latency run.steps
            run.run.in_range);
        peripheral_follows =
            subst (λ (j : Joint). FollowsSent central j.central.control.sent j.peripheral.control.track) reaches_now
            (peripheral_follows central.link.max_rx peripheral.link.max_rx (first_params central.link.fields) (first_anchor central) run.run.latency run.steps
            run.run.in_range);
        central_few = sound_now_too.few Central;
        peripheral_few = sound_now_too.few Peripheral;
        central_fits = s.central_fits;
        peripheral_fits = s.peripheral_fits;
      }

-- ---- while the link lasts at both

module _ (central peripheral : Setup) (ends : AreEnds central peripheral) (turns : ℕ) (answers : Bool) (c p : Facts)
    (linked : AreLinked central peripheral turns answers c p) (central_lasts : is_lasting c ≡ true) (peripheral_lasts : is_lasting p ≡ true) where
  abbrev pub link_now : Link
  link_now = link_of central peripheral linked.steps

  pub runs : is_running link_now.joint ≡ true
  runs = linked.lasts central_lasts peripheral_lasts

  abbrev pub reached_now : IsReached central peripheral link_now
  reached_now = reached_by central peripheral linked.steps linked.may linked.in_range

  pub are_sound : AreSoundEnds central peripheral c p
  are_sound = sound_ends central peripheral ends turns answers c p link_now reached_now runs (linked.shows runs)

  pub is_state : IsJointState central peripheral c p link_now.joint
  is_state = state central peripheral ends turns answers c p link_now reached_now runs (linked.shows runs)
