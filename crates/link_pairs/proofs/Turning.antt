-- A turn as both ends begin it: they enter their events and fix their PDUs, and the central sends.
use Rattle.std.proofs.Common.{◌≡◌, ◌+◌, ◌≤◌, ◌==◌, ◌⊎◌, ℕ, Bool, true, false, [], Option, refl, sym, subst, ◌∙◌, if◌then◌else◌}
use Rattle.instants.specs.Track.{next_anchor_of}
use Rattle.joint_laws.specs.joint_controls.Joint.{is_running}
use Rattle.joint_laws.proofs.joint_controls.Running.{goes_on as joint_goes_on}
use Rattle.joint_laws.specs.joint_parameters.Turns.{Begins, Link, link_after}
use Rattle.link_model.specs.declared.events.Reception.{Reception}
use Rattle.link_model.specs.Data.{is_control}
use Rattle.link_model.specs.Setup.{Setup}
use Rattle.link_model.specs.Controls.{goes_on, is_quiet_now}
use Rattle.link_model.specs.Entering.{facts_entered_if}
use Rattle.link_model.specs.Facts.{Facts}
use Rattle.link_model.specs.Fixing.{fixed_anew}
use Rattle.link_model.specs.Sending.{control_gone_if, facts_sent, takes_leave}
use Rattle.link_model.specs.Step.{EventEntered, PacketSent, PduFixed}
use Rattle.joint_keys.specs.KeyedJoint.{KeyedJoint}
use Rattle.link_pairs.specs.Ends.{AreEnds, HasExchange, is_lasting, phased_of, turns_at}
use Rattle.link_pairs.specs.Shown.{AreLinked, HaveKeys, Shows, link_of}
use Rattle.link_pairs.specs.Turns.{AreReady, HasFixed, HaveBegun, MayExchange, central_begun, entered_in, fixed_if, prepared, sent_if}
use Rattle.link_pairs.proofs.Beginning.{begun_keys, begun_runs, begun_shows}
use Rattle.link_pairs.proofs.ControlKept.{sent_kept}
use Rattle.link_pairs.proofs.Fixing.{anew_fixed, anew_piece, fixing, fixing_has, fixing_hears, fixing_is, fixing_rests, fixing_sends}
use Rattle.link_pairs.proofs.Lasting.{lasts_before_if}
use Rattle.link_pairs.proofs.Reaching.{IsReached, IsShown, keys_at, keys_next, linked, linked_stopped, not_both, reached_by, reached_next, shown}
use Rattle.link_pairs.proofs.Sending.{packet_goes}
use Rattle.link_pairs.proofs.Showing.{central_shows, peripheral_shows}

-- ---- what it leaves of the events and of what an end heard

-- an end in the same event, which heard nothing new
record IsInEvent (before now : Facts) : Type 0 where
  entered : now.control.track.entered ≡ before.control.track.entered
  slot : now.event.slot ≡ before.event.slot
  heard : now.event.heard ≡ before.event.heard
  last_good : now.last_good ≡ before.last_good

in_event : (slot : ℕ) (before now : Facts) → IsInEvent before now → HasExchange slot before → HasExchange slot now
in_event slot before now is has = (
  subst (λ (n : ℕ). 1 ≤ n) (sym is.entered) has.0,
  subst (λ (n : ℕ). (slot ≡ n) ⊎ ((slot ≡ n + 1) × (now.event.heard ≡ true))) (sym is.slot)
      (subst (λ (b : Bool). (slot ≡ before.event.slot) ⊎ ((slot ≡ before.event.slot + 1) × (b ≡ true))) (sym is.heard) has.1),
)

same_event : (facts : Facts) → IsInEvent facts facts
same_event facts = record { entered = refl; slot = refl; heard = refl; last_good = refl }

fixed_in_event : (fixes gone : Bool) (facts : Facts) → IsInEvent facts (if fixes then (if gone then facts else fixed_anew facts) else facts)
fixed_in_event true true facts = same_event facts
fixed_in_event true false facts = record { entered = refl; slot = refl; heard = refl; last_good = refl }
fixed_in_event false gone facts = same_event facts

gone_in_event : (goes : Bool) (slot : ℕ) (facts : Facts) → IsInEvent facts (control_gone_if goes slot facts)
gone_in_event true slot facts = record { entered = (sent_kept facts.control slot (is_quiet_now facts)).entered; slot = refl; heard = refl; last_good = refl }
gone_in_event false slot facts = same_event facts

sent_in_event : (sends : Bool) (setup : Setup) (slot : ℕ) (facts : Facts) → IsInEvent facts (sent_if sends setup slot facts)
sent_in_event true setup slot facts =
    let gone = gone_in_event (takes_leave facts) slot facts in
    record { entered = gone.entered; slot = gone.slot; heard = gone.heard; last_good = gone.last_good }
sent_in_event false setup slot facts = same_event facts

entered_hears : (enters lasts : Bool) (setup : Setup) (slot : ℕ) (facts : Facts)
    → (if enters then facts_entered_if lasts setup slot facts else facts).last_good ≡ facts.last_good
entered_hears true true setup slot facts = refl
entered_hears true false setup slot facts = refl
entered_hears false lasts setup slot facts = refl

module _ (setup : Setup) (slot : ℕ) (exchanges : Bool) (facts : Facts) where
  prepared_in_event : IsInEvent (entered_in setup slot facts) (prepared setup slot exchanges facts)
  prepared_in_event = fixed_in_event exchanges (is_control (entered_in setup slot facts).outgoing.fixed) (entered_in setup slot facts)

  pub prepared_hears : (prepared setup slot exchanges facts).last_good ≡ facts.last_good
  prepared_hears = prepared_in_event.last_good ∙ entered_hears (next_anchor_of facts.control.track == slot) (goes_on facts) setup slot facts

  pub prepared_exchanges : MayExchange setup slot exchanges facts → exchanges ≡ true → HasExchange slot (prepared setup slot exchanges facts)
  prepared_exchanges may is = in_event slot _ _ prepared_in_event (may is)

  pub begun_hears : (central_begun setup slot exchanges facts).last_good ≡ facts.last_good
  begun_hears = (sent_in_event exchanges setup slot (prepared setup slot exchanges facts)).last_good ∙ prepared_hears

  pub begun_exchanges : MayExchange setup slot exchanges facts → exchanges ≡ true → HasExchange slot (central_begun setup slot exchanges facts)
  begun_exchanges may is =
      in_event slot _ _ (sent_in_event exchanges setup slot (prepared setup slot exchanges facts)) (prepared_exchanges may is)

-- ---- where the run goes on, the link goes on with them

fixing_phased : (fixes : Bool) (facts : Facts) → phased_of facts ≡ phased_of (fixing fixes facts)
fixing_phased true facts = refl
fixing_phased false facts = refl

module _ (central peripheral : Setup) (ends : AreEnds central peripheral) (slot : ℕ) (answers listens : Bool) (c p : Facts) (l : Link)
    (reached : IsReached central peripheral l) (running : is_running l.joint ≡ true) (s : Shows central peripheral slot answers l c p)
    (keys : HaveKeys (keys_at central peripheral l reached) c p) where
  abbrev next : Link
  next = link_after (Begins slot) l

  abbrev central_in : Facts
  central_in = entered_in central slot c

  abbrev peripheral_in : Facts
  peripheral_in = entered_in peripheral slot p

  abbrev reached_begun : IsReached central peripheral next
  reached_begun = reached_next central peripheral (Begins slot) l reached running tt tt

  runs : is_running next.joint ≡ true
  runs = begun_runs central peripheral slot answers l c p s ends reached running

  entered_shows : Shows central peripheral (slot + 1) false next central_in peripheral_in
  entered_shows = begun_shows central peripheral slot answers l c p s ends reached running

  entered_keys : HaveKeys (keys_at central peripheral next reached_begun) central_in peripheral_in
  entered_keys =
      subst (λ (k : KeyedJoint). HaveKeys k central_in peripheral_in) (sym (keys_next central peripheral (record { step = Begins slot; ltk = [] }) l reached running tt tt))
      (begun_keys central peripheral slot answers l c p s ends reached running keys)

  peripheral_is : prepared peripheral slot listens p ≡ fixing listens peripheral_in
  peripheral_is = fixing_is listens peripheral peripheral_in entered_shows.peripheral_rests.none_gone

  -- the peripheral has fixed its PDU
  prepared_shows : Shows central peripheral (slot + 1) false next central_in (prepared peripheral slot listens p)
  prepared_shows =
      subst (λ (q : Facts). Shows central peripheral (slot + 1) false next central_in q) (sym peripheral_is)
      (peripheral_shows central peripheral (slot + 1) false next central_in peripheral_in entered_shows next.joint.peripheral (fixing listens peripheral_in)
      (entered_shows.peripheral_part ∙ fixing_phased listens peripheral_in) (fixing_sends listens peripheral_in) (fixing_hears listens peripheral_in)
      (fixing_rests peripheral (slot + 1) listens peripheral_in entered_shows.peripheral_rests))

  prepared_keys : HaveKeys (keys_at central peripheral next reached_begun) central_in (prepared peripheral slot listens p)
  prepared_keys =
      subst (HaveKeys (keys_at central peripheral next reached_begun) central_in) (sym peripheral_is)
      (record {
        central_keys = entered_keys.central_keys;
        peripheral_keys = fixing_has (keys_at central peripheral next reached_begun).peripheral listens peripheral_in entered_keys.peripheral_keys;
      })

  pub has_fixed : listens ≡ true → HasFixed (prepared peripheral slot listens p)
  has_fixed is =
      subst HasFixed (sym peripheral_is) (subst (λ (b : Bool). HasFixed (fixing b peripheral_in)) (sym is) (anew_fixed peripheral_in))

  central_is : fixed_if true central central_in ≡ fixed_anew central_in
  central_is = fixing_is true central central_in entered_shows.central_rests.none_gone

  -- so has the central
  fixed_shows : Shows central peripheral (slot + 1) false next (fixed_anew central_in) (prepared peripheral slot listens p)
  fixed_shows =
      central_shows central peripheral (slot + 1) false next central_in (prepared peripheral slot listens p) prepared_shows next.joint.central (fixed_anew central_in)
      prepared_shows.central_part refl refl (fixing_rests central (slot + 1) true central_in prepared_shows.central_rests)

  fixed_keys : HaveKeys (keys_at central peripheral next reached_begun) (fixed_anew central_in) (prepared peripheral slot listens p)
  fixed_keys =
      record {
        central_keys = fixing_has (keys_at central peripheral next reached_begun).central true central_in prepared_keys.central_keys;
        peripheral_keys = prepared_keys.peripheral_keys;
      }

  pub turn_goes : (transmits : Bool) → MayExchange central slot transmits c
      → IsShown central peripheral (slot + 1) false (central_begun central slot transmits c) (prepared peripheral slot listens p)
  turn_goes false may =
      shown central peripheral (slot + 1) false next central_in (prepared peripheral slot listens p) reached_begun prepared_shows prepared_keys (joint_goes_on next.joint runs).stopped
  turn_goes true may =
      subst (λ (d : Facts). IsShown central peripheral (slot + 1) false (facts_sent slot d) (prepared peripheral slot listens p)) (sym central_is)
      (packet_goes central peripheral ends (slot + 1) false next reached_begun runs (fixed_anew central_in) (prepared peripheral slot listens p) fixed_shows fixed_keys slot
      (anew_fixed central_in) (anew_piece central_in) (may refl).0)

-- ---- the turn, whether the run goes on or not

-- where the link lasts at an end then, it lasted before
module _ (setup : Setup) (slot : ℕ) (exchanges : Bool) (facts : Facts) where
  prepared_lasted : is_lasting (prepared setup slot exchanges facts) ≡ true → is_lasting facts ≡ true
  prepared_lasted is =
      lasts_before_if (next_anchor_of facts.control.track == slot) setup facts (EventEntered slot)
      (lasts_before_if exchanges setup (entered_in setup slot facts) PduFixed is)

  begun_lasted : is_lasting (central_begun setup slot exchanges facts) ≡ true → is_lasting facts ≡ true
  begun_lasted is = prepared_lasted (lasts_before_if exchanges setup (prepared setup slot exchanges facts) (PacketSent slot) is)

module _ (central peripheral : Setup) (slot : ℕ) (answers transmits listens : Bool) (c p : Facts) (ends : AreEnds central peripheral)
    (a : AreLinked central peripheral slot answers c p) (transmits_in : MayExchange central slot transmits c)
    (listens_in : MayExchange peripheral slot listens p) where
  abbrev l : Link
  l = link_of central peripheral a.steps

  -- nothing is heard yet
  ready : (running : is_running l.joint ≡ true)
      → AreReady central peripheral slot listens (central_begun central slot transmits c) (prepared peripheral slot listens p)
  ready running =
      let s = a.shows running in
      record {
        central_heard = subst (λ (good : Option Reception). turns_at central.opened good ≤ slot) (sym (begun_hears central slot transmits c)) s.central_rests.past;
        peripheral_heard =
            subst (λ (good : Option Reception). turns_at peripheral.opened good ≤ slot) (sym (prepared_hears peripheral slot listens p)) s.peripheral_rests.past;
        fixed = has_fixed central peripheral ends slot answers listens c p l (reached_by central peripheral a.steps a.may a.in_range) running s (a.keys running);
      }

  pub turn_begun : (runs : Bool) → is_running l.joint ≡ runs
      → HaveBegun central peripheral slot transmits listens (central_begun central slot transmits c) (prepared peripheral slot listens p)
  turn_begun true running =
      record {
        linked =
            linked central peripheral (slot + 1) false (central_begun central slot transmits c) (prepared peripheral slot listens p)
            (turn_goes central peripheral ends slot answers listens c p l (reached_by central peripheral a.steps a.may a.in_range) running (a.shows running)
            (a.keys running) transmits transmits_in);
        ready = λ still. ready running;
        transmits_in = begun_exchanges central slot transmits c transmits_in;
        listens_in = prepared_exchanges peripheral slot listens p listens_in;
      }
  turn_begun false stopped =
      record {
        linked =
            linked_stopped central peripheral slot (slot + 1) answers false c p (central_begun central slot transmits c) (prepared peripheral slot listens p) a
            (begun_lasted central slot transmits c) (prepared_lasted peripheral slot listens p) stopped;
        ready = not_both (is_running l.joint) stopped;
        transmits_in = begun_exchanges central slot transmits c transmits_in;
        listens_in = prepared_exchanges peripheral slot listens p listens_in;
      }
