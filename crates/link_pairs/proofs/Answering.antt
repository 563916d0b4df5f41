-- What a peripheral holds after it heard a packet and answered it.
use Rattle.std.proofs.Common.{◌≡◌, ◌⊎◌, inl, inr, ℕ, ◌+◌, ◌-◌, ◌<◌, ◌≤◌, ◌&&◌, ◌||◌, Bool, true, false, length, Some, refl, ap, sym, subst, ◌∙◌, arith}
use Rattle.data_pdu.specs.Layouts.{IsCtrl}
use Rattle.joint_laws.specs.joint_controls.phased_control.Taken.{response_ctrl}
use Rattle.link_model.specs.Acknowledgement.{Acknowledgement, Pdu, is_acked, received_by, with_accepted}
use Rattle.link_model.specs.Data.{Data, is_control, is_data}
use Rattle.link_model.specs.Events.{event_heard}
use Rattle.link_model.specs.Setup.{Setup}
use Rattle.link_model.specs.declared.events.ConnectionEvent.{ConnectionEvent}
use Rattle.link_model.specs.declared.state.Leaving.{Leaving}
use Rattle.link_model.specs.Facts.{Encryption, Facts}
use Rattle.link_model.specs.Controls.{is_procedure_pdu, is_terminate}
use Rattle.link_model.specs.phased_end.Taking.{drawn}
use Rattle.link_model.specs.phased_end.keyed_control.declared.material.Response.{Response}
use Rattle.link_model.specs.Receiving.{accepted_if, acknowledged_if, heard_in_slot, taken_if}
use Rattle.link_model.specs.Sending.{control_gone_if, facts_sent, fixed_sent, takes_leave}
use Rattle.link_model.proofs.Fixing.{acked_control}
use Rattle.link_pairs.specs.Ends.{HasExchange, IsAtRest, phased_of, turns_at}
use Rattle.link_pairs.proofs.KeysHeld.{sent_as}
use Rattle.link_pairs.proofs.PhasedKept.{PhasedKeeps}
use Rattle.link_pairs.proofs.TakingPdus.{IsTakenBy, taken_same}

-- ---- what does not change

-- a control PDU that leaves its queue
pub record IsGoneFrom (facts now : Facts) : Type 0 where
  pub acknowledgement : now.acknowledgement ≡ facts.acknowledgement
  pub event : now.event ≡ facts.event
  pub last_good : now.last_good ≡ facts.last_good
  pub leaving : now.leaving ≡ facts.leaving
  pub peer : now.peer ≡ facts.peer
  pub payload : now.outgoing.payload ≡ facts.outgoing.payload
  pub encryption : now.encryption ≡ facts.encryption

pub gone_same : (goes : Bool) (slot : ℕ) (facts : Facts) → IsGoneFrom facts (control_gone_if goes slot facts)
gone_same true slot facts =
    record { acknowledgement = refl; event = refl; last_good = refl; leaving = refl; peer = refl; payload = refl; encryption = refl }
gone_same false slot facts =
    record { acknowledgement = refl; event = refl; last_good = refl; leaving = refl; peer = refl; payload = refl; encryption = refl }

-- no further control PDU leaves as it sends
none_leaves : (all fixes : Bool) (slot : ℕ) (facts : Facts) → facts.fixes_control ≡ fixes
    → (all && (control_gone_if (all && fixes) slot facts).fixes_control) ≡ false
none_leaves false fixes slot facts is = refl
none_leaves true true slot facts is = refl
none_leaves true false slot facts is = is

none_gone_if : (all fixes : Bool) (slot : ℕ) (facts : Facts) → all ≡ false → (control_gone_if (all && fixes) slot facts).outgoing ≡ facts.outgoing
none_gone_if true fixes slot facts is = absurd (cc)
none_gone_if false fixes slot facts is = refl

-- ---- step by step

module _ (slot : ℕ) (more acks : Bool) (facts : Facts) where
  -- it sees its last PDU acknowledged, or does not
  abbrev pub seen : Facts
  seen = acknowledged_if acks (heard_in_slot slot more facts)

  -- then it fixes the next control PDU, or does not
  abbrev pub fixed : Facts
  fixed = control_gone_if (takes_leave seen) slot seen

  pub gone : IsGoneFrom seen fixed
  gone = gone_same (takes_leave seen) slot seen

  pub seen_fixed : seen.outgoing.fixed ≡ facts.outgoing.fixed
  seen_fixed = acked_control (acks && is_data facts.acknowledgement.last) facts.outgoing

  pub fixed_again : is_acked seen.acknowledgement ≡ false → fixed.outgoing.fixed ≡ facts.outgoing.fixed
  fixed_again out = ap (λ (o : Data). o.fixed) (none_gone_if (is_acked seen.acknowledgement) seen.fixes_control slot seen out) ∙ seen_fixed

module _ (slot : ℕ) (more acks : Bool) (facts : Facts) (accepted : Bool) (pdu : Pdu) where
  -- then it takes a PDU, or does not
  abbrev pub taken : Facts
  taken = taken_if accepted pdu slot (fixed slot more acks facts)

  pub took : IsTakenBy (accepted_if accepted pdu (fixed slot more acks facts)) taken
  took = taken_same (accepted && is_procedure_pdu pdu) (accepted && is_data pdu) pdu slot (accepted_if accepted pdu (fixed slot more acks facts))

  pub taken_acknowledgement : taken.acknowledgement ≡ received_by acks accepted pdu facts.acknowledgement
  taken_acknowledgement = took.acknowledgement ∙ ap (with_accepted accepted pdu) (gone slot more acks facts).acknowledgement

  pub taken_event : taken.event ≡ event_heard slot more facts.event
  taken_event = took.event ∙ (gone slot more acks facts).event

  pub taken_good : taken.last_good ≡ Some (record { slot = slot; event = facts.event.number })
  taken_good = took.last_good ∙ (gone slot more acks facts).last_good

  pub taken_stays : taken.leaving.acknowledged ≡ (facts.leaving.acknowledged || (acks && is_terminate facts.acknowledgement.last))
  taken_stays = took.acknowledged ∙ ap (λ (l : Leaving). l.acknowledged) (gone slot more acks facts).leaving

  pub taken_response : taken.encryption.response ≡ facts.encryption.response
  taken_response = took.response ∙ ap (λ (e : Encryption). e.response) (gone slot more acks facts).encryption

  pub all_same : is_acked taken.acknowledgement ≡ is_acked (seen slot more acks facts).acknowledgement
  all_same = ap is_acked taken_acknowledgement

  pub answers_plainly : facts_sent slot taken ≡ fixed_sent slot taken
  answers_plainly =
      let before = seen slot more acks facts in
      ap (λ (goes : Bool). fixed_sent slot (control_gone_if goes slot taken))
      ((λ i. all_same i && took.fixes_control i) ∙ none_leaves (is_acked before.acknowledgement) before.fixes_control slot before refl)

-- ---- it is at rest again

event_by : (slot event : ℕ) (heard : Bool) → ((slot ≡ event) ⊎ ((slot ≡ event + 1) × (heard ≡ true))) → event ≤ slot
event_by slot event heard (inl first) = omega (arith, first)
event_by slot event heard (inr second) = let at = second.0 in omega (arith, at)

module _ (slot : ℕ) (more acks : Bool) (facts : Facts) (accepted : Bool) (pdu : Pdu) where
  abbrev now : Facts
  now = taken slot more acks facts accepted pdu

  -- what it holds after it sent its last PDU again, or the next one
  abbrev pub answered_if : Bool → Facts
  answered_if all = sent_as all slot now

  -- its last PDU then, as it is on the air
  pub record HasLast (all : Bool) : Type 0 where
    pub none_gone : is_control (answered_if all).outgoing.fixed ≡ false
    pub fits_any : length (answered_if all).acknowledgement.last.body ≤ 251
    pub two_bits : (answered_if all).acknowledgement.last.llid < 4

  -- the fixed one
  pub last_next : length now.outgoing.fixed.body ≤ 251 → now.outgoing.fixed.llid < 4 → HasLast true
  last_next fits two_bits = record { none_gone = refl; fits_any = fits; two_bits = two_bits }

  -- the same again
  pub last_again : (setup : Setup) → IsAtRest setup (slot + 1) facts → is_acked (seen slot more acks facts).acknowledgement ≡ false → HasLast false
  last_again setup rests out =
      let last : now.acknowledgement.last ≡ facts.acknowledgement.last = ap (λ (a : Acknowledgement). a.last) (taken_acknowledgement slot more acks facts accepted pdu) in
      record {
        none_gone =
            ap (λ (o : Data). is_control o.fixed) (took slot more acks facts accepted pdu).outgoing ∙ ap is_control (fixed_again slot more acks facts out)
            ∙ rests.none_gone;
        fits_any = subst (λ (x : Pdu). length x.body ≤ 251) (sym last) rests.fits_any;
        two_bits = subst (λ (x : Pdu). x.llid < 4) (sym last) rests.two_bits;
      }

module _ (setup : Setup) (slot : ℕ) (more acks : Bool) (facts : Facts) (accepted : Bool) (pdu : Pdu) (rests : IsAtRest setup (slot + 1) facts)
    (keeps : PhasedKeeps (phased_of facts) (phased_of (taken slot more acks facts accepted pdu)))
    (has : HasExchange slot facts)
    (ends : (acks && is_terminate facts.acknowledgement.last) ≡ false) where
  abbrev answered : Facts
  answered = taken slot more acks facts accepted pdu

  event_slot : answered.event.slot ≡ facts.event.slot
  event_slot = ap (λ (e : ConnectionEvent). e.slot) (taken_event slot more acks facts accepted pdu)

  event_number : answered.event.number ≡ facts.event.number
  event_number = ap (λ (e : ConnectionEvent). e.number) (taken_event slot more acks facts accepted pdu)

  heard_now : turns_at setup.opened answered.last_good ≡ slot + 1
  heard_now = ap (turns_at setup.opened) (taken_good slot more acks facts accepted pdu)

  in_event : facts.event.slot ≤ slot
  in_event = event_by slot facts.event.slot facts.event.heard has.1

  pub rests_with : (all : Bool) → HasLast slot more acks facts accepted pdu all → IsAtRest setup (slot + 1) (answered_if slot more acks facts accepted pdu all)
  rests_with all last =
      let kept = keeps.kept in
      record {
        fits = keeps.fits.control;
        holds = record {
          request = keeps.fits.request;
          kept = keeps.fits.kept;
          response =
              subst (λ (r : Response). IsCtrl (response_ctrl (drawn r))) (sym (taken_response slot more acks facts accepted pdu)) rests.holds.response;
        };
        role = keeps.role setup.link.role rests.role;
        none_gone = last.none_gone;
        fits_any = last.fits_any;
        two_bits = last.two_bits;
        slot = λ one. event_slot ∙ rests.slot has.0 ∙ sym kept.anchor;
        number = event_number ∙ rests.number ∙ ap (λ (n : ℕ). n - 1) (sym kept.entered);
        heard =
            λ is. (
              subst (λ (n : ℕ). 1 ≤ n) (sym kept.entered) has.0,
              let at = in_event in omega (arith, event_slot, heard_now, at),
            );
        past = omega (arith, heard_now);
        stays = taken_stays slot more acks facts accepted pdu ∙ (λ i. rests.stays i || ends i);
      }
