-- Both ends of a joint run follow the first indications that the central sent, so they have equal parameters in an event.
use Rattle.std.proofs.Common.{◌≡◌, ℕ, ◌≤◌, Bool, true, false, if◌then◌else◌, List, [], ◌∷◌, ◌++◌, take, Option, Some, None, option_to_list, refl, sym, ap, subst, ◌∙◌, arith, append_assoc}
use Rattle.std.proofs.lemmas.List.{append-nil}
use Rattle.ble_base.specs.declared.roles.Role.TheVariants.{Central}
use Rattle.instants.specs.declared.indications.Indication.{Indication}
use Rattle.instants.specs.declared.indications.Params.{Params}
use Rattle.instants.specs.declared.track.Change.{Change}
use Rattle.instants.specs.Follows.{Follows}
use Rattle.instants.specs.Track.{event_of}
use Rattle.two_tracks.specs.TwoEnds.{TwoEnds}
use Rattle.two_tracks.specs.TwoEnds as two_ends
use Rattle.joint_controls.specs.phased_control.Phased.{Phased}
use Rattle.joint_controls.specs.phased_control.Taken.{Enters, PhasedStep, SeesAcknowledged, Sends, phased_after, phased_after_all, role_now}
use Rattle.joint_controls.specs.Joint.{CentralAcked, CentralEnters, CentralHost, CentralSends, CentralSendsData, CentralTakes, Item, Joint, JointStep, PeripheralAcked, PeripheralEnters, PeripheralFixes, PeripheralFixesData, PeripheralHost, PeripheralSends, PeripheralTakes, Shuts, act, after, after_all, beginning, event_now, host_step, is_same_event, item_on_air, may, no_response, taking}
use Rattle.joint_controls.specs.Ends.{AreStepsInRange, central_does, takes_if}
use Rattle.joint_controls.proofs.EndSteps.{central_acts}
use Rattle.joint_controls.proofs.Running.{GoesOn, comes_on}
use Rattle.joint_parameters.specs.Indications.{changes_taken}
use Rattle.joint_parameters.specs.Views.{HaveEqual, view}
use Rattle.joint_parameters.proofs.Ends.{enters_sent, indication_next, sends_one, stays, stays_sent}
use Rattle.joint_parameters.proofs.Meeting.{Known}
use Rattle.joint_parameters.proofs.Runs.{Facts, IsReached, after_joined, holds_after, range_joined, reached_facts, reached_next}
use Rattle.joint_parameters.proofs.Tracks.{equal_in, follows_front}

-- ---- a central sends more and more

record IsFront (xs ys : List Change) : Type 0 where
  more : List Change
  is : ys ≡ xs ++ more

same_front : (xs ys : List Change) → ys ≡ xs → IsFront xs ys
same_front xs ys is = record { more = []; is = is ∙ sym (append-nil xs) }

longer : (xs ys zs : List Change) → IsFront xs ys → IsFront ys zs → IsFront xs zs
longer xs ys zs a b =
    record { more = a.more ++ b.more; is = b.is ∙ ap (λ (l : List Change). l ++ b.more) a.is ∙ append_assoc xs a.more b.more }

abbrev Grows : Phased → Phased → Type 0
Grows c d = IsFront c.control.sent d.control.sent

sends_front : (o : Option Indication) (c : Phased) (t : TwoEnds) → t.sent ≡ c.control.sent → IsFront c.control.sent (two_ends.after_sending o t).sent
sends_front None c t is = same_front c.control.sent t.sent is
sends_front (Some indication) c t is =
    record { more = two_ends.change_of (event_of t.central) indication ∷ []; is = ap (λ (l : List Change). l ++ two_ends.change_of (event_of t.central) indication ∷ []) is }

sent_front : (step : PhasedStep) (c : Phased) → c.control.ends ≡ None → role_now c ≡ Central → (stays Central step ≡ true → Grows c (phased_after step c))
    → Grows c (phased_after step c)
sent_front (Enters slot) c lasts at other = same_front c.control.sent _ (enters_sent c slot lasts)
sent_front (Sends slot) c lasts at other =
    let t : TwoEnds = record (two_ends.beginning c.control.track.params 0 0) { central = c.control.track; sent = c.control.sent } in
    subst (IsFront c.control.sent) (sym (sends_one c slot t lasts at refl refl).1) (sends_front (indication_next c) c t refl)
sent_front step c lasts at other = other refl

grows : (step : PhasedStep) (c : Phased) → c.control.ends ≡ None → role_now c ≡ Central → Grows c (phased_after step c)
grows step c lasts at = sent_front step c lasts at (λ is. same_front c.control.sent _ (stays_sent c step lasts is))

module _ (s : Joint) (f : Facts s) (g : GoesOn s) where
  one_grows : (step : PhasedStep) → Grows s.central (phased_after_all (step ∷ []) s.central)
  one_grows step = grows step s.central g.central f.central.role

  takes_grows : (o : Option Item) (now : ℕ) → Grows s.central (phased_after_all (takes_if o now no_response) s.central)
  takes_grows None now = same_front s.central.control.sent _ refl
  takes_grows (Some item) now = one_grows (taking item now no_response)

  does_grow : (step : JointStep) → Grows s.central (phased_after_all (central_does step s) s.central)
  does_grow (CentralEnters now) = one_grows (Enters now)
  does_grow (CentralHost host) = one_grows (host_step host)
  does_grow (CentralSends now) = one_grows (Sends now)
  does_grow CentralAcked = one_grows SeesAcknowledged
  does_grow (CentralTakes now) = takes_grows (item_on_air s.up) now
  does_grow CentralSendsData = same_front s.central.control.sent _ refl
  does_grow (PeripheralEnters now) = same_front s.central.control.sent _ refl
  does_grow (PeripheralHost host) = same_front s.central.control.sent _ refl
  does_grow (PeripheralFixes now) = same_front s.central.control.sent _ refl
  does_grow PeripheralFixesData = same_front s.central.control.sent _ refl
  does_grow PeripheralSends = same_front s.central.control.sent _ refl
  does_grow PeripheralAcked = same_front s.central.control.sent _ refl
  does_grow (PeripheralTakes now response) = same_front s.central.control.sent _ refl
  does_grow Shuts = same_front s.central.control.sent _ refl

after_grows : (step : JointStep) (s : Joint) → Facts s → Grows s.central (after step s).central
after_grows step s f = by (may step s) refl
  where
    by : (b : Bool) → may step s ≡ b → Grows s.central (if b then act step s else s).central
    by true is = subst (Grows s.central) (sym (central_acts step s)) (does_grow s f (comes_on step s is) step)
    by false is = same_front s.central.control.sent s.central.control.sent refl

module _ (central_rx peripheral_rx : ℕ) (first : Params) (slot : ℕ) (latency : first.latency ≤ 499) where
  all_grow : (steps : List JointStep) (s : Joint) → AreStepsInRange steps → IsReached central_rx peripheral_rx first slot latency s
      → Grows s.central (after_all steps s).central
  all_grow [] s range r = same_front s.central.control.sent s.central.control.sent refl
  all_grow (step ∷ steps) s range r =
      longer s.central.control.sent (after step s).central.control.sent (after_all steps (after step s)).central.control.sent
      (after_grows step s (reached_facts central_rx peripheral_rx first slot latency s r))
      (all_grow steps (after step s) range.1 (reached_next central_rx peripheral_rx first slot latency step s range.0 r))

  abbrev start : Joint
  start = beginning central_rx peripheral_rx first slot

  known_at : (steps : List JointStep) → AreStepsInRange steps → Known first slot (changes_taken steps start) (view (after_all steps start))
  known_at steps range = (holds_after central_rx peripheral_rx first slot latency steps range).known

  module _ (steps : List JointStep) (range : AreStepsInRange steps) where
    abbrev now : Joint
    now = after_all steps start

    k : Known first slot (changes_taken steps start) (view now)
    k = known_at steps range

    -- each end follows the first that were sent
    pub central_follows : 1 ≤ now.central.control.track.entered
        → Follows first slot (take now.central.control.track.applied now.central.control.sent) now.central.control.track
    central_follows started =
        follows_front first slot now.central.control.sent [] now.central.control.sent now.central.control.track k.central
        (sym (append-nil now.central.control.sent)) started

    pub peripheral_follows : 1 ≤ now.peripheral.control.track.entered
        → Follows first slot (take now.peripheral.control.track.applied now.central.control.sent) now.peripheral.control.track
    peripheral_follows started =
        follows_front first slot (changes_taken steps start) (option_to_list k.last) now.central.control.sent now.peripheral.control.track k.peripheral k.all started

    pub equal_now : is_same_event now ≡ true → now.central.control.track.applied ≡ now.peripheral.control.track.applied
        → HaveEqual now.central.control.track now.peripheral.control.track
    equal_now event number =
        equal_in first slot now.central.control.sent [] (changes_taken steps start) (option_to_list k.last) now.central.control.sent
        now.central.control.track now.peripheral.control.track k.central k.peripheral (sym (append-nil now.central.control.sent)) k.all (grind arith) number

    module _ (more : List JointStep) (range_more : AreStepsInRange more) where
      abbrev later : Joint
      later = after_all more now

      grown : IsFront now.central.control.sent later.central.control.sent
      grown = all_grow more now range_more (record { steps = steps; range = range; reaches = refl })

      range_all : AreStepsInRange (steps ++ more)
      range_all = range_joined steps more range range_more

      abbrev taken_later : List Change
      taken_later = changes_taken (steps ++ more) start

      k_later : Known first slot taken_later (view later)
      k_later =
          subst (λ (t : Joint). Known first slot taken_later (view t)) (after_joined steps more start) (known_at (steps ++ more) range_all)

      -- an event of the central, and an earlier state of the peripheral
      pub equal_central_later : event_now later.central ≡ event_now now.peripheral
          → later.central.control.track.applied ≡ now.peripheral.control.track.applied
          → HaveEqual later.central.control.track now.peripheral.control.track
      equal_central_later event number =
          equal_in first slot later.central.control.sent [] (changes_taken steps start) (option_to_list k.last ++ grown.more) later.central.control.sent
          later.central.control.track now.peripheral.control.track k_later.central k.peripheral (sym (append-nil later.central.control.sent))
          (grown.is ∙ ap (λ (l : List Change). l ++ grown.more) k.all ∙ append_assoc (changes_taken steps start) (option_to_list k.last) grown.more) event number

      -- and the other way round
      pub equal_peripheral_later : event_now now.central ≡ event_now later.peripheral
          → now.central.control.track.applied ≡ later.peripheral.control.track.applied
          → HaveEqual now.central.control.track later.peripheral.control.track
      equal_peripheral_later event number =
          equal_in first slot now.central.control.sent grown.more taken_later (option_to_list k_later.last) later.central.control.sent
          now.central.control.track later.peripheral.control.track k.central k_later.peripheral grown.is k_later.all event number
