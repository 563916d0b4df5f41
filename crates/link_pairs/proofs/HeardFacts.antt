-- What an end holds after it heard a packet, and what the link shows of that where the end is the central.
use Rattle.std.proofs.Common.{◌≡◌, ℕ, ◌+◌, ◌-◌, ◌≤◌, ◌<◌, ◌==◌, ◌&&◌, ◌||◌, Bool, true, false, length, refl, ap, sym, ◌∙◌, subst, arith, if◌then◌else◌}
use Rattle.std.proofs.lemmas.Bool.{eqb-true}
use Rattle.data_pdu.specs.Layouts.{IsCtrl}
use Rattle.two_tracks.specs.TwoEnds.{last_after_reply}
use Rattle.joint_laws.specs.joint_controls.phased_control.Phased.{Phased}
use Rattle.joint_laws.specs.joint_controls.phased_control.Taken.{response_ctrl}
use Rattle.joint_laws.specs.joint_controls.Joint.{Clear, Way, is_free, is_taken}
use Rattle.joint_laws.specs.joint_parameters.Turns.{IsAnswered, Link, link_after}
use Rattle.link_model.specs.phased_end.Taking.{drawn}
use Rattle.link_model.specs.phased_end.keyed_control.declared.material.Response.{Response}
use Rattle.link_model.specs.Setup.{Setup}
use Rattle.link_model.specs.Acknowledgement.{Acknowledgement, Pdu, with_accepted, with_acked}
use Rattle.link_model.specs.OneLink.{AreInAgreement}
use Rattle.link_model.specs.Data.{Data, is_control, is_data}
use Rattle.link_model.specs.declared.events.ConnectionEvent.{ConnectionEvent}
use Rattle.link_model.specs.Facts.{Facts}
use Rattle.link_model.specs.Receiving.{accepted_if, acknowledged_if, heard_in_slot}
use Rattle.link_model.proofs.Fixing.{acked_control}
use Rattle.link_pairs.specs.Ends.{IsAtRest, heard_turns, phased_of, turns_at}
use Rattle.link_pairs.specs.Shown.{Shows}
use Rattle.link_pairs.specs.Ways.{ShowsLast, ShowsWay}
use Rattle.link_pairs.proofs.ControlKept.{IsKept}
use Rattle.link_pairs.proofs.Counts.{Says}
use Rattle.link_pairs.proofs.PhasedKept.{PhasedKeeps}
use Rattle.link_pairs.proofs.TakingPdus.{IsTakenBy}
use Rattle.link_pairs.proofs.Ways.{last_same, last_seen, way_same, way_seen}

-- ---- what an end holds after it heard a packet in this slot

-- as the new PDU is looked at
abbrev pub acked_facts : ℕ → Bool → Bool → Facts → Facts
acked_facts slot more acks facts = acknowledged_if acks (heard_in_slot slot more facts)

module _ (slot : ℕ) (more acks accepted : Bool) (pdu : Pdu) (facts : Facts) where
  -- after that is accepted, or is not
  abbrev pub accepted_facts : Facts
  accepted_facts = accepted_if accepted pdu (acked_facts slot more acks facts)

  -- with what its procedures and its phase made of that
  module _ (setup : Setup) (d : Facts) (took : IsTakenBy accepted_facts d) (keeps : PhasedKeeps (phased_of facts) (phased_of d))
      (rests : IsAtRest setup (slot + 1) facts) (past : heard_turns setup facts ≤ slot)
      (entered : 1 ≤ facts.control.track.entered) (stays : accepted_facts.leaving.acknowledged ≡ false) where
    kept : IsKept facts.control d.control
    kept = keeps.kept

    heard_first : (heard : Bool) → facts.event.heard ≡ heard → (heard || (slot == facts.event.slot)) ≡ true → facts.event.slot + 1 ≤ slot + 1
    heard_first true is now = let before = (rests.heard is).1 in omega (arith, before, past)
    heard_first false is now = let same = eqb-true slot facts.event.slot now in omega (arith, same)

    event_slot : d.event.slot ≡ facts.event.slot
    event_slot = ap (λ (e : ConnectionEvent). e.slot) took.event

    turns_now : heard_turns setup d ≡ slot + 1
    turns_now = ap (turns_at setup.opened) took.last_good

    pub heard_rests : IsAtRest setup (slot + 1) d
    heard_rests =
        let now = acks && is_data facts.acknowledgement.last in
        record {
          fits = keeps.fits.control;
          holds = record {
            request = keeps.fits.request;
            kept = keeps.fits.kept;
            response = subst (λ (r : Response). IsCtrl (response_ctrl (drawn r))) (sym took.response) rests.holds.response;
          };
          role = keeps.role setup.link.role rests.role;
          none_gone = ap (λ (o : Data). is_control o.fixed) took.outgoing ∙ ap is_control (acked_control now facts.outgoing) ∙ rests.none_gone;
          fits_any = subst (λ (a : Acknowledgement). length a.last.body ≤ 251) (sym took.acknowledgement) rests.fits_any;
          two_bits = subst (λ (a : Acknowledgement). a.last.llid < 4) (sym took.acknowledgement) rests.two_bits;
          slot = λ some. event_slot ∙ rests.slot entered ∙ sym kept.anchor;
          number = ap (λ (e : ConnectionEvent). e.number) took.event ∙ rests.number ∙ ap (λ n. n - 1) (sym kept.entered);
          heard =
              λ heard. (
                subst (λ (n : ℕ). 1 ≤ n) (sym kept.entered) entered,
                let first = heard_first facts.event.heard refl (ap (λ (e : ConnectionEvent). e.heard) (sym took.event) ∙ heard) in
                    omega (arith, first, event_slot, turns_now),
              );
          past = omega (arith, turns_now);
          stays = took.acknowledged ∙ stays;
        }

-- ---- the link shows that

module _ (central peripheral : Setup) (slot : ℕ) (more acks fresh : Bool) (c p : Facts) (l : Link)
    (s : Shows central peripheral (slot + 1) true l c p) (says : Says c.acknowledgement p.acknowledgement acks fresh) where
  pub hears_shows : (accepted : Bool) (x : Phased) (up : Way) (stopped : Bool) (d : Facts)
      → let given = accepted_facts slot more acks accepted p.acknowledgement.last c in
      IsTakenBy given d → x ≡ phased_of d → ShowsWay up p.acknowledgement (with_accepted accepted p.acknowledgement.last c.acknowledgement)
      → is_free up ≡ true → AreInAgreement given.acknowledgement p.acknowledgement → IsAtRest central (slot + 1) d
      → Shows central peripheral (slot + 1) false
      (record {
        turns = (link_after (IsAnswered true slot) l).turns;
        joint = record {
          central = x;
          peripheral = l.joint.peripheral;
          down = (if is_taken l.joint.down then Clear else l.joint.down);
          up = up;
          stopped = stopped;
        };
      }) d p
  hears_shows accepted x up stopped d took is shown free agreed rests =
      let given = accepted_facts slot more acks accepted p.acknowledgement.last c in
      let back = sym took.acknowledgement in
      let cleared = if is_taken l.joint.down then Clear else l.joint.down in
      record {
        central_part = is;
        peripheral_part = s.peripheral_part;
        down =
            subst (λ (a : Acknowledgement). ShowsWay cleared a p.acknowledgement) back
            (way_same cleared (with_acked acks c.acknowledgement) p.acknowledgement
            given.acknowledgement p.acknowledgement refl refl refl refl (way_seen c.acknowledgement p.acknowledgement acks fresh says l.joint.down s.down));
        up =
            subst (λ (a : Acknowledgement). ShowsWay up p.acknowledgement a) back
            (way_same up p.acknowledgement (with_accepted accepted p.acknowledgement.last c.acknowledgement) p.acknowledgement
            given.acknowledgement refl refl refl refl shown);
        agreement = subst (λ (a : Acknowledgement). AreInAgreement a p.acknowledgement) back agreed;
        begun = s.begun;
        replies = λ never. absurd (cc);
        last =
            subst (λ (a : Acknowledgement). ShowsLast (last_after_reply l.turns.last) a p.acknowledgement) back
            (last_same (last_after_reply l.turns.last) (with_acked acks c.acknowledgement) p.acknowledgement given.acknowledgement p.acknowledgement
            refl refl refl (last_seen c.acknowledgement p.acknowledgement acks fresh says l.turns.last s.last));
        central_heard = s.begun ∙ sym (ap (turns_at central.opened) took.last_good);
        peripheral_heard = s.peripheral_heard;
        free = λ all. free;
        central_rests = rests;
        peripheral_rests = s.peripheral_rests;
        central_fits = subst (λ (a : Acknowledgement). length a.last.body ≤ peripheral.link.max_rx) back s.central_fits;
        peripheral_fits = s.peripheral_fits;
      }
