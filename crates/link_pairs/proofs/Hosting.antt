-- What the host of an end does leaves the ends linked: a step with no packet, or none.
use Rattle.std.specs.Prelude.{IfSome}
use Rattle.std.proofs.Common.{◌≡◌, ℕ, ◌+◌, ◌≤◌, ◌&&◌, Bool, true, false, not, List, [], ◌∷◌, Option, Some, None, length, ◌<◌, Result, Ok, Err, is_none, refl, sym, ap, subst, ◌∙◌, if◌then◌else◌}
use Rattle.std.proofs.lemmas.Bool.{and_from}
use Rattle.ble_base.specs.ErrorCodes.{pin_or_key_missing}
use Rattle.ble_base.specs.declared.error_codes.ErrCode.{ErrCode}
use Rattle.ble_base.specs.declared.roles.Role.{Role}
use Rattle.data_pdu.specs.Layouts.{IsCtrl}
use Rattle.data_pdu.specs.declared.ctrl.Ctrl.{Ctrl}
use Rattle.data_pdu.specs.declared.ctrl.Ctrl.TheVariants.{EncRsp, RejectExtInd, StartEncReq, TerminateInd}
use Rattle.instants.specs.Track.{TrackFacts, event_of}
use Rattle.control_octets.specs.procedure_values.declared.asks.Ask.{Ask}
use Rattle.control_octets.specs.procedure_values.declared.asks.Ask.TheVariants.{Update, Request, Map, Length}
use Rattle.control_octets.specs.procedure_values.Wants.{IsAsk}
use Rattle.control_octets.specs.procedure_stages.Kinds.{role_of}
use Rattle.joint_laws.specs.procedure_stages.Opcodes.{enc_req_opcode}
use Rattle.control_octets.specs.Fitting.{AskFits}
use Rattle.control_octets.specs.control_model.Control.{Control, Answers as control_answers, Asks as control_asks, Disconnects as control_disconnects, Owes, Step as ControlStep}
use Rattle.control_octets.specs.control_model.Waits.{is_of_table_alone}
use Rattle.control_octets.proofs.control_model.Moving.{same_role, table_alone}
use Rattle.joint_laws.specs.joint_controls.phased_control.enc_phase.declared.facts.Transition.TheVariants.{Refuse}
use Rattle.joint_laws.specs.joint_controls.phased_control.enc_phase.Phases.{may_follow, phase_after, phase_starting}
use Rattle.joint_laws.specs.joint_controls.phased_control.enc_phase.Sealing.{EncEnd}
use Rattle.joint_laws.specs.joint_controls.phased_control.Phased.{Phased, is_open_now, key_given, key_lacking, refused_if, with_step}
use Rattle.joint_laws.specs.joint_controls.phased_control.Taken.{phased_after, phased_moved, role_now}
use Rattle.joint_laws.specs.joint_controls.Ends.{IsHostInRange}
use Rattle.joint_laws.specs.joint_controls.Joint.{AnswersRequest, AsksFor, CentralHost, Ends, HasKey, HasNoKey, HostStep, Joint, PeripheralHost, host_step, is_running, may, may_host}
use Rattle.joint_laws.proofs.joint_controls.Running.{goes_on}
use Rattle.joint_laws.specs.joint_parameters.Turns.{Alone, Link}
use Rattle.joint_laws.proofs.joint_parameters.Pairing.{after_may, may_now}
use Rattle.joint_keys.specs.KeyedJoint.{Keys, host_keyed, keys_after}
use Rattle.joint_keys.specs.PhasedRanges.{PhasedFits, PhasedStepFits}
use Rattle.joint_keys.proofs.PhasedRanges.{phased_stays_fitting}
use Rattle.link_model.specs.keyed_control.Keyed.{Keyed}
use Rattle.link_model.specs.keyed_control.KeyedSteps.{Answers, Asks, Disconnects, KeyedStep, keyed_after, keyed_after_all, phased_step}
use Rattle.link_model.specs.keyed_control.declared.material.Response.{Response}
use Rattle.link_model.proofs.BodyPayloads.{given_same}
use Rattle.link_model.proofs.Ending.{key_stays}
use Rattle.link_model.proofs.Fixing.{given_control}
use Rattle.link_model.proofs.phased_end.keyed_control.Phases.{after_one, phased_once}
use Rattle.link_model.specs.Acknowledgement.{Acknowledgement}
use Rattle.link_model.specs.Data.{Data, data_given, data_reported, is_control}
use Rattle.link_model.specs.Setup.{Setup}
use Rattle.link_model.specs.declared.events.ConnectionEvent.{ConnectionEvent}
use Rattle.link_model.specs.End.{facts_after}
use Rattle.link_model.specs.Facts.{Facts, keyed_of}
use Rattle.link_model.specs.Hosts.{asked_unless, ends_without_key, facts_with_words, is_to_come, key_step}
use Rattle.link_model.specs.KeyedSteps.{step_if}
use Rattle.link_model.specs.Step.{Step, DataGiven, DataReported, Disconnected, EventEntered, PacketReceived, PacketSent, PduFixed, ProcedureAsked, RequestAnswered, KeyAnswered, WordsGiven}
use Rattle.link_model.proofs.KeyedSteps.{one_step}
use Rattle.link_pairs.specs.Ends.{AreEnds, IsAtRest, IsLaterPdu, heard_turns, is_lasting, phased_of, turns_at}
use Rattle.link_pairs.specs.Hosts.{MayAsk, MayHost}
use Rattle.link_pairs.specs.Shown.{AreLinked, HasKeys, HaveKeys, Shows}
use Rattle.link_pairs.proofs.KeysAt.{central_phase_at, peripheral_phase_at}
use Rattle.link_pairs.proofs.KeysHeld.{has_moved, have_after}
use Rattle.link_pairs.proofs.Lasting.{lasts_before}
use Rattle.link_pairs.proofs.Reaching.{IsReached, IsShown, joint_at, keys_at, linked_on, shown, shown_next}
use Rattle.link_pairs.proofs.Showing.{central_shows, peripheral_shows}

-- ---- what a host leaves as it is at an end with its phase

record HostKeeps (x y : Phased) : Type 0 where
  track : y.control.track ≡ x.control.track
  role : (role : Role) → role_now x ≡ role → role_now y ≡ role
  request : y.request ≡ x.request
  kept : y.kept ≡ x.kept

host_stays : (x : Phased) → HostKeeps x x
host_stays x = record { track = refl; role = λ role is. is; request = refl; kept = refl }

-- a step of the table alone
table_steps : (step : ControlStep) (x y : Phased) → is_of_table_alone step ≡ true → y.control ≡ x.control → y.request ≡ x.request → y.kept ≡ x.kept
    → HostKeeps x (with_step step y)
table_steps step x y alone control request kept =
    record {
      track = table_alone y.control step alone ∙ ap (λ (c : Control). c.track) control;
      role = λ role is. same_role role step y.control (subst (λ (c : Control). role_of c.table.progress ≡ role) (sym control) is);
      request = request;
      kept = kept;
    }

lacks_keeps : (may : Bool) (x : Phased) → HostKeeps x (refused_if may x)
lacks_keeps true x =
    table_steps (Owes (RejectExtInd enc_req_opcode pin_or_key_missing)) x (record x { asks_key = false; phase = phase_after Refuse x.phase }) refl refl refl refl
lacks_keeps false x = table_steps (Owes (TerminateInd pin_or_key_missing)) x (record x { asks_key = false }) refl refl refl refl

asked_keeps : (asked : Bool) (x y : Phased) → HostKeeps x y → HostKeeps x (if asked then y else x)
asked_keeps true x y keeps = keeps
asked_keeps false x y keeps = host_stays x

moved_keeps : (host : HostStep) (x : Phased) → HostKeeps x (phased_moved (host_step host) x)
moved_keeps (AsksFor ask) x = table_steps (control_asks ask) x x refl refl refl refl
moved_keeps (AnswersRequest answer) x = table_steps (control_answers answer) x x refl refl refl refl
moved_keeps (Ends reason) x = table_steps (control_disconnects reason) x x refl refl refl refl
moved_keeps HasKey x = asked_keeps (x.asks_key && is_open_now x) x (key_given x)
    (table_steps (Owes StartEncReq) x (record x { asks_key = false; phase = phase_starting x.phase }) refl refl refl refl)
moved_keeps HasNoKey x = asked_keeps (x.asks_key && is_open_now x) x (key_lacking x) (lacks_keeps (may_follow Refuse x.phase) x)

host_keeps : (host : HostStep) (x : Phased) → HostKeeps x (phased_after (host_step host) x)
host_keeps host x = by (is_none x.control.ends)
  where
    by : (b : Bool) → HostKeeps x (if b then phased_moved (host_step host) x else x)
    by true = moved_keeps host x
    by false = host_stays x

-- the phased part goes by the step of joint runs
host_phased : (host : HostStep) (ltk : List ℕ) (x : Phased) → after_one (phased_step (host_keyed host ltk)) x ≡ phased_after (host_step host) x
host_phased (AsksFor ask) ltk x = refl
host_phased (AnswersRequest answer) ltk x = refl
host_phased (Ends reason) ltk x = refl
host_phased HasKey ltk x = refl
host_phased HasNoKey ltk x = refl

fitting_asked : (ask : Ask) → AskFits ask → IsAsk ask
fitting_asked (Request min max latency timeout) fits = tt
fitting_asked (Map map) fits = tt
fitting_asked (Update interval latency timeout) fits = fits
fitting_asked (Length tx) fits = fits
fitting_asked other fits = tt

-- ---- one end

-- its host has made a step of procedures, phase and keys
record IsHosted (step : KeyedStep) (facts d : Facts) : Type 0 where
  keyed : keyed_of d ≡ keyed_after step (keyed_of facts)
  acknowledgement : d.acknowledgement ≡ facts.acknowledgement
  event : d.event ≡ facts.event
  outgoing : d.outgoing ≡ facts.outgoing
  last_good : d.last_good ≡ facts.last_good
  response : d.encryption.response ≡ facts.encryption.response
  stays : d.leaving.acknowledged ≡ facts.leaving.acknowledged

fitting : (pdu : Option Ctrl) → IfSome pdu IsLaterPdu → IfSome pdu IsCtrl
fitting None is = tt
fitting (Some ctrl) is = is.0

module _ (setup : Setup) (turns : ℕ) (facts : Facts) (r : IsAtRest setup turns facts) where
  module _ (host : HostStep) (ltk : List ℕ) (d : Facts) (does : IsHosted (host_keyed host ltk) facts d) (fits : PhasedStepFits (host_step host)) where
    hosted_phased : phased_of d ≡ phased_after (host_step host) (phased_of facts)
    hosted_phased = ap (λ (k : Keyed). k.phased) does.keyed ∙ phased_once (host_keyed host ltk) (keyed_of facts) ∙ host_phased host ltk (phased_of facts)

    keeps : HostKeeps (phased_of facts) (phased_of d)
    keeps = subst (HostKeeps (phased_of facts)) (sym hosted_phased) (host_keeps host (phased_of facts))

    fits_then : PhasedFits (phased_of d)
    fits_then =
        subst PhasedFits (sym hosted_phased)
        (phased_stays_fitting (host_step host) (phased_of facts)
        (record { control = r.fits; request = fitting facts.encryption.request r.holds.request; kept = fitting facts.encryption.kept r.holds.kept }) fits)

    heard_then : heard_turns setup d ≡ heard_turns setup facts
    heard_then = ap (turns_at setup.opened) does.last_good

    slot_then : 1 ≤ d.control.track.entered → d.event.slot ≡ d.control.track.anchor
    slot_then entered =
        ap (λ (e : ConnectionEvent). e.slot) does.event ∙ r.slot (subst (λ (t : TrackFacts). 1 ≤ t.entered) keeps.track entered)
        ∙ ap (λ (t : TrackFacts). t.anchor) (sym keeps.track)

    heard_first : d.event.heard ≡ true → (1 ≤ d.control.track.entered) × (d.event.slot + 1 ≤ heard_turns setup d)
    heard_first heard =
        let before = r.heard (ap (λ (e : ConnectionEvent). e.heard) (sym does.event) ∙ heard) in (
          subst (λ (t : TrackFacts). 1 ≤ t.entered) (sym keeps.track) before.0,
          subst (λ (e : ConnectionEvent). e.slot + 1 ≤ heard_turns setup d) (sym does.event)
              (subst (λ (n : ℕ). facts.event.slot + 1 ≤ n) (sym heard_then) before.1),
        )

    hosted_rests : IsAtRest setup turns d
    hosted_rests =
        record {
          fits = fits_then.control;
          holds = record {
            request = subst (λ (o : Option Ctrl). IfSome o IsLaterPdu) (sym keeps.request) r.holds.request;
            kept = subst (λ (o : Option Ctrl). IfSome o IsLaterPdu) (sym keeps.kept) r.holds.kept;
            response = subst (λ (w : Response). IsCtrl (EncRsp w.skd_s w.iv_s)) (sym does.response) r.holds.response;
          };
          role = keeps.role setup.link.role r.role;
          none_gone = ap (λ (o : Data). is_control o.fixed) does.outgoing ∙ r.none_gone;
          fits_any = subst (λ (a : Acknowledgement). length a.last.body ≤ 251) (sym does.acknowledgement) r.fits_any;
          two_bits = subst (λ (a : Acknowledgement). a.last.llid < 4) (sym does.acknowledgement) r.two_bits;
          slot = slot_then;
          number = ap (λ (e : ConnectionEvent). e.number) does.event ∙ r.number ∙ ap event_of (sym keeps.track);
          heard = heard_first;
          past = subst (λ (n : ℕ). n ≤ turns) (sym heard_then) r.past;
          stays = does.stays ∙ r.stays;
        }

    hosted_has : (x : Phased) (keys : Keys) → x ≡ phased_of facts → HasKeys keys facts → HasKeys (keys_after (host_keyed host ltk) x keys) d
    hosted_has x keys is =
        has_moved (host_keyed host ltk) x keys facts d is (ap (λ (k : Keyed). k.material) does.keyed) (ap (λ (k : Keyed). k.end) does.keyed)
        (ap (λ (o : Data). o.payload) does.outgoing) (ap (λ (a : Acknowledgement). a.last) does.acknowledgement)

  -- its data alone is another one
  data_rests : (o : Data) → o.fixed ≡ facts.outgoing.fixed → IsAtRest setup turns (record facts { outgoing = o })
  data_rests o fixed =
      record {
        fits = r.fits;
        holds = r.holds;
        role = r.role;
        none_gone = ap is_control fixed ∙ r.none_gone;
        fits_any = r.fits_any;
        two_bits = r.two_bits;
        slot = r.slot;
        number = r.number;
        heard = r.heard;
        past = r.past;
        stays = r.stays;
      }

  -- what it would draw alone is another one
  words_rest : (skd_s iv_s : ℕ) → IsCtrl (EncRsp skd_s iv_s) → IsAtRest setup turns (facts_with_words skd_s iv_s facts)
  words_rest skd_s iv_s fits =
      record {
        fits = r.fits;
        holds = record { request = r.holds.request; kept = r.holds.kept; response = fits };
        role = r.role;
        none_gone = r.none_gone;
        fits_any = r.fits_any;
        two_bits = r.two_bits;
        slot = r.slot;
        number = r.number;
        heard = r.heard;
        past = r.past;
        stays = r.stays;
      }

data_has : (keys : Keys) (facts : Facts) (o : Data) → o.payload ≡ facts.outgoing.payload → HasKeys keys facts → HasKeys keys (record facts { outgoing = o })
data_has keys facts o payload has = record { material = has.material; session = has.session; made = payload ∙ has.made }

-- ---- a step of its host, as the end makes it

module _ (setup : Setup) (facts : Facts) (same : facts.encryption.end.phase ≡ facts.encryption.phase) where
  asks_as : (ask : Ask) → is_to_come ask facts ≡ false → IsHosted (Asks ask) facts (asked_unless false ask facts)
  asks_as ask is =
      record {
        keyed =
            subst (λ (b : Bool). keyed_of (asked_unless b ask facts) ≡ keyed_after_all (step_if (not b) (Asks ask)) (keyed_of facts)) is
            (one_step setup facts (ProcedureAsked ask) same refl);
        acknowledgement = refl;
        event = refl;
        outgoing = refl;
        last_good = refl;
        response = refl;
        stays = refl;
      }

  answers_as : (answer : Result Ask ErrCode) → IsHosted (Answers answer) facts (facts_after setup facts (RequestAnswered answer))
  answers_as answer =
      record {
        keyed = one_step setup facts (RequestAnswered answer) same refl;
        acknowledgement = refl;
        event = refl;
        outgoing = refl;
        last_good = refl;
        response = refl;
        stays = refl;
      }

  ends_as : (reason : ErrCode) (slot : ℕ) → IsHosted (Disconnects reason) facts (facts_after setup facts (Disconnected reason slot))
  ends_as reason slot =
      record {
        keyed = one_step setup facts (Disconnected reason slot) same refl;
        acknowledgement = refl;
        event = refl;
        outgoing = refl;
        last_good = refl;
        response = refl;
        stays = refl;
      }

  key_as : (key : Option (List ℕ)) (slot : ℕ) → IsHosted (key_step key) facts (facts_after setup facts (KeyAnswered key slot))
  key_as key slot =
      record {
        keyed = one_step setup facts (KeyAnswered key slot) same refl;
        acknowledgement = refl;
        event = refl;
        outgoing = refl;
        last_good = refl;
        response = refl;
        stays = key_stays (ends_without_key key facts) slot facts.leaving;
      }

-- ---- both ends

answer_fits : (answer : Result Ask ErrCode) (facts : Facts) → MayHost (RequestAnswered answer) facts
    → PhasedStepFits (host_step (AnswersRequest answer)) × IsHostInRange (AnswersRequest answer)
answer_fits (Ok ask) facts m = (m, m)
answer_fits (Err code) facts m = (m, tt)

module _ (central peripheral : Setup) (ends : AreEnds central peripheral) (turns : ℕ) (answers : Bool) (c p : Facts)
    (a : AreLinked central peripheral turns answers c p) where
  module _ (host : HostStep) (ltk : List ℕ) (range : IsHostInRange host) (fits : PhasedStepFits (host_step host)) where
    central_does : (step : Step) (d : Facts) → d ≡ facts_after central c step → may_host host (phased_of c) ≡ true
        → (c.encryption.end.phase ≡ c.encryption.phase → IsHosted (host_keyed host ltk) c d)
        → AreLinked central peripheral turns answers d p
    central_does step d is comes does =
        linked_on central peripheral turns turns answers answers c p d p a
        (λ lasting. lasts_before central c step (ap is_lasting (sym is) ∙ lasting)) (λ lasting. lasting) goes
      where
        goes : (l : Link) (reached : IsReached central peripheral l) → is_running l.joint ≡ true → Shows central peripheral turns answers l c p
            → HaveKeys (keys_at central peripheral l reached) c p → IsShown central peripheral turns answers d p
        goes l reached running s keys =
            let k = keys_at central peripheral l reached in
            let in_phase : c.encryption.end.phase ≡ c.encryption.phase =
            ap (λ (e : EncEnd). e.phase) (sym keys.central_keys.session) ∙ (central_phase_at central peripheral ends l reached running).phase_too
            ∙ ap (λ (x : Phased). x.phase) s.central_part in
            let now = does in_phase in
            let may_come : may (CentralHost host) l.joint ≡ true =
            may_now (CentralHost host) l.joint running (subst (λ (x : Phased). may_host host x ≡ true) (sym s.central_part) comes) in
            shown_next central peripheral turns answers (record { step = Alone (CentralHost host); ltk = ltk }) l reached d p running (refl, may_come) range
            (subst (λ (j : Joint). Shows central peripheral turns answers (record l { joint = j }) d p) (sym (after_may (CentralHost host) l.joint may_come))
            (central_shows central peripheral turns answers l c p s (phased_after (host_step host) l.joint.central) d
            (ap (phased_after (host_step host)) s.central_part ∙ sym (hosted_phased central turns c s.central_rests host ltk d now fits)) now.acknowledgement now.last_good
            (hosted_rests central turns c s.central_rests host ltk d now fits)))
            (have_after ltk (CentralHost host ∷ []) k l.joint d p (joint_at central peripheral l reached)
            (and_from (may (CentralHost host) l.joint) true may_come refl)
            (hosted_has central turns c s.central_rests host ltk d now fits l.joint.central k.central s.central_part keys.central_keys) keys.peripheral_keys)
            (ap (λ (j : Joint). j.stopped) (after_may (CentralHost host) l.joint may_come) ∙ (goes_on l.joint running).stopped)

    peripheral_does : (step : Step) (d : Facts) → d ≡ facts_after peripheral p step → may_host host (phased_of p) ≡ true
        → (p.encryption.end.phase ≡ p.encryption.phase → IsHosted (host_keyed host ltk) p d)
        → AreLinked central peripheral turns answers c d
    peripheral_does step d is comes does =
        linked_on central peripheral turns turns answers answers c p c d a
        (λ lasting. lasting) (λ lasting. lasts_before peripheral p step (ap is_lasting (sym is) ∙ lasting)) goes
      where
        goes : (l : Link) (reached : IsReached central peripheral l) → is_running l.joint ≡ true → Shows central peripheral turns answers l c p
            → HaveKeys (keys_at central peripheral l reached) c p → IsShown central peripheral turns answers c d
        goes l reached running s keys =
            let k = keys_at central peripheral l reached in
            let in_phase : p.encryption.end.phase ≡ p.encryption.phase =
            ap (λ (e : EncEnd). e.phase) (sym keys.peripheral_keys.session) ∙ (peripheral_phase_at central peripheral ends l reached running).phase_too
            ∙ ap (λ (x : Phased). x.phase) s.peripheral_part in
            let now = does in_phase in
            let may_come : may (PeripheralHost host) l.joint ≡ true =
            may_now (PeripheralHost host) l.joint running (subst (λ (x : Phased). may_host host x ≡ true) (sym s.peripheral_part) comes) in
            shown_next central peripheral turns answers (record { step = Alone (PeripheralHost host); ltk = ltk }) l reached c d running (refl, may_come) range
            (subst (λ (j : Joint). Shows central peripheral turns answers (record l { joint = j }) c d) (sym (after_may (PeripheralHost host) l.joint may_come))
            (peripheral_shows central peripheral turns answers l c p s (phased_after (host_step host) l.joint.peripheral) d
            (ap (phased_after (host_step host)) s.peripheral_part ∙ sym (hosted_phased peripheral turns p s.peripheral_rests host ltk d now fits)) now.acknowledgement now.last_good
            (hosted_rests peripheral turns p s.peripheral_rests host ltk d now fits)))
            (have_after ltk (PeripheralHost host ∷ []) k l.joint c d (joint_at central peripheral l reached)
            (and_from (may (PeripheralHost host) l.joint) true may_come refl) keys.central_keys
            (hosted_has peripheral turns p s.peripheral_rests host ltk d now fits l.joint.peripheral k.peripheral s.peripheral_part keys.peripheral_keys))
            (ap (λ (j : Joint). j.stopped) (after_may (PeripheralHost host) l.joint may_come) ∙ (goes_on l.joint running).stopped)

  -- no step of the run: its data alone is another one, or what it would draw
  central_stays : (step : Step) → is_lasting (facts_after central c step) ≡ is_lasting c → phased_of (facts_after central c step) ≡ phased_of c
      → (facts_after central c step).acknowledgement ≡ c.acknowledgement → (facts_after central c step).last_good ≡ c.last_good
      → (IsAtRest central turns c → IsAtRest central turns (facts_after central c step))
      → ((keys : Keys) → HasKeys keys c → HasKeys keys (facts_after central c step))
      → AreLinked central peripheral turns answers (facts_after central c step) p
  central_stays step lasts phased same heard rests has =
      let d = facts_after central c step in
      linked_on central peripheral turns turns answers answers c p d p a
      (λ lasting. sym lasts ∙ lasting) (λ lasting. lasting)
      (λ l reached running s keys. shown central peripheral turns answers l d p reached
      (central_shows central peripheral turns answers l c p s l.joint.central d (s.central_part ∙ sym phased) same heard (rests s.central_rests))
      (record { central_keys = has (keys_at central peripheral l reached).central keys.central_keys; peripheral_keys = keys.peripheral_keys })
      (goes_on l.joint running).stopped)

  peripheral_stays : (step : Step) → is_lasting (facts_after peripheral p step) ≡ is_lasting p → phased_of (facts_after peripheral p step) ≡ phased_of p
      → (facts_after peripheral p step).acknowledgement ≡ p.acknowledgement → (facts_after peripheral p step).last_good ≡ p.last_good
      → (IsAtRest peripheral turns p → IsAtRest peripheral turns (facts_after peripheral p step))
      → ((keys : Keys) → HasKeys keys p → HasKeys keys (facts_after peripheral p step))
      → AreLinked central peripheral turns answers c (facts_after peripheral p step)
  peripheral_stays step lasts phased same heard rests has =
      let d = facts_after peripheral p step in
      linked_on central peripheral turns turns answers answers c p c d a
      (λ lasting. lasting) (λ lasting. sym lasts ∙ lasting)
      (λ l reached running s keys. shown central peripheral turns answers l c d reached
      (peripheral_shows central peripheral turns answers l c p s l.joint.peripheral d (s.peripheral_part ∙ sym phased) same heard (rests s.peripheral_rests))
      (record { central_keys = keys.central_keys; peripheral_keys = has (keys_at central peripheral l reached).peripheral keys.peripheral_keys })
      (goes_on l.joint running).stopped)

  -- what is to come already changes nothing
  central_asks : (to_come : Bool) (ask : Ask) → is_to_come ask c ≡ to_come → MayAsk ask c → AreLinked central peripheral turns answers (asked_unless to_come ask c) p
  central_asks true ask is m = a
  central_asks false ask is m =
      central_does (AsksFor ask) [] (fitting_asked ask m.in_range) m.in_range (ProcedureAsked ask) (asked_unless false ask c)
      (ap (λ (b : Bool). asked_unless b ask c) (sym is)) m.may (λ same. asks_as central c same ask is)

  peripheral_asks : (to_come : Bool) (ask : Ask) → is_to_come ask p ≡ to_come → MayAsk ask p → AreLinked central peripheral turns answers c (asked_unless to_come ask p)
  peripheral_asks true ask is m = a
  peripheral_asks false ask is m =
      peripheral_does (AsksFor ask) [] (fitting_asked ask m.in_range) m.in_range (ProcedureAsked ask) (asked_unless false ask p)
      (ap (λ (b : Bool). asked_unless b ask p) (sym is)) m.may (λ same. asks_as peripheral p same ask is)

  pub central_hosts : (step : Step) → MayHost step c → AreLinked central peripheral turns answers (facts_after central c step) p
  central_hosts (DataGiven start body) m =
      central_stays (DataGiven start body) refl refl refl refl
      (λ r. data_rests central turns c r (data_given central.link.handle start body c.outgoing) (given_control central.link.handle start body c.outgoing))
      (λ keys. data_has keys c (data_given central.link.handle start body c.outgoing) (given_same central.link.handle start body c.outgoing))
  central_hosts (ProcedureAsked ask) m = central_asks (is_to_come ask c) ask refl m
  central_hosts (RequestAnswered answer) m =
      let both = answer_fits answer c m in
      central_does (AnswersRequest answer) [] both.1 both.0 (RequestAnswered answer) (facts_after central c (RequestAnswered answer)) refl refl
      (λ same. answers_as central c same answer)
  central_hosts (Disconnected reason slot) m =
      central_does (Ends reason) [] tt m (Disconnected reason slot) (facts_after central c (Disconnected reason slot)) refl refl
      (λ same. ends_as central c same reason slot)
  central_hosts (KeyAnswered (Some ltk) slot) m =
      central_does HasKey ltk tt tt (KeyAnswered (Some ltk) slot) (facts_after central c (KeyAnswered (Some ltk) slot)) refl refl
      (λ same. key_as central c same (Some ltk) slot)
  central_hosts (KeyAnswered None slot) m =
      central_does HasNoKey [] tt tt (KeyAnswered None slot) (facts_after central c (KeyAnswered None slot)) refl refl
      (λ same. key_as central c same None slot)
  central_hosts (WordsGiven skd_s iv_s) m =
      central_stays (WordsGiven skd_s iv_s) refl refl refl refl (λ r. words_rest central turns c r skd_s iv_s m)
      (λ keys has. record { material = has.material; session = has.session; made = has.made })
  central_hosts DataReported m =
      central_stays DataReported refl refl refl refl (λ r. data_rests central turns c r (data_reported c.outgoing) refl)
      (λ keys. data_has keys c (data_reported c.outgoing) refl)
  central_hosts (EventEntered slot) m = absurd m
  central_hosts PduFixed m = absurd m
  central_hosts (PacketSent slot) m = absurd m
  central_hosts (PacketReceived slot octets room) m = absurd m

  pub peripheral_hosts : (step : Step) → MayHost step p → AreLinked central peripheral turns answers c (facts_after peripheral p step)
  peripheral_hosts (DataGiven start body) m =
      peripheral_stays (DataGiven start body) refl refl refl refl
      (λ r. data_rests peripheral turns p r (data_given peripheral.link.handle start body p.outgoing) (given_control peripheral.link.handle start body p.outgoing))
      (λ keys. data_has keys p (data_given peripheral.link.handle start body p.outgoing) (given_same peripheral.link.handle start body p.outgoing))
  peripheral_hosts (ProcedureAsked ask) m = peripheral_asks (is_to_come ask p) ask refl m
  peripheral_hosts (RequestAnswered answer) m =
      let both = answer_fits answer p m in
      peripheral_does (AnswersRequest answer) [] both.1 both.0 (RequestAnswered answer) (facts_after peripheral p (RequestAnswered answer)) refl refl
      (λ same. answers_as peripheral p same answer)
  peripheral_hosts (Disconnected reason slot) m =
      peripheral_does (Ends reason) [] tt m (Disconnected reason slot) (facts_after peripheral p (Disconnected reason slot)) refl refl
      (λ same. ends_as peripheral p same reason slot)
  peripheral_hosts (KeyAnswered (Some ltk) slot) m =
      peripheral_does HasKey ltk tt tt (KeyAnswered (Some ltk) slot) (facts_after peripheral p (KeyAnswered (Some ltk) slot)) refl refl
      (λ same. key_as peripheral p same (Some ltk) slot)
  peripheral_hosts (KeyAnswered None slot) m =
      peripheral_does HasNoKey [] tt tt (KeyAnswered None slot) (facts_after peripheral p (KeyAnswered None slot)) refl refl
      (λ same. key_as peripheral p same None slot)
  peripheral_hosts (WordsGiven skd_s iv_s) m =
      peripheral_stays (WordsGiven skd_s iv_s) refl refl refl refl (λ r. words_rest peripheral turns p r skd_s iv_s m)
      (λ keys has. record { material = has.material; session = has.session; made = has.made })
  peripheral_hosts DataReported m =
      peripheral_stays DataReported refl refl refl refl (λ r. data_rests peripheral turns p r (data_reported p.outgoing) refl)
      (λ keys. data_has keys p (data_reported p.outgoing) refl)
  peripheral_hosts (EventEntered slot) m = absurd m
  peripheral_hosts PduFixed m = absurd m
  peripheral_hosts (PacketSent slot) m = absurd m
  peripheral_hosts (PacketReceived slot octets room) m = absurd m
