-- The steps of an end in which it sends and hears nothing new leave two ends parting.
use Rattle.std.proofs.Common.{◌≡◌, ◌⊎◌, inl, inr, ◌≤◌, ◌<◌, ◌==◌, ℕ, Bool, true, false, length, List, Option, Some, None, is_some, refl, sym, ap, ◌∙◌, subst, if◌then◌else◌}
use Rattle.instants.specs.Track.{next_anchor_of}
use Rattle.control_octets.specs.procedure_values.declared.asks.Ask.{Ask}
use Rattle.control_octets.specs.procedure_stages.Closing.{is_open}
use Rattle.control_octets.specs.procedure_values.Limits.{tx_of}
use Rattle.control_octets.specs.control_model.Control.{Step as ControlStep, Answers, Asks, Disconnects, after}
use Rattle.control_octets.proofs.control_model.Moving.{same_role}
use Rattle.ble_base.specs.declared.roles.Role.TheVariants.{Peripheral}
use Rattle.joint_laws.specs.joint_controls.phased_control.Phased.{Phased}
use Rattle.joint_laws.specs.joint_controls.phased_control.Taken.{Enters, GivesKey, LacksKey as LacksKeyStep, PhasedStep, phased_after}
use Rattle.joint_keys.specs.Opening.{CanOpen}
use Rattle.joint_keys.proofs.Keyless.{keyless_stays}
use Rattle.link_model.specs.keyed_control.Keyed.{Keyed}
use Rattle.link_model.specs.keyed_control.KeyedSteps.{keyed_after}
use Rattle.link_model.proofs.BodyPayloads.{anew_same as fixed_payload, given_same as given_payload}
use Rattle.link_model.proofs.Ending.{key_stays}
use Rattle.link_model.proofs.Fixing.{given_control as given_fixed}
use Rattle.link_model.proofs.phased_end.keyed_control.Phases.{phased_once}
use Rattle.link_model.specs.declared.state.KnownLengths.{KnownLengths}
use Rattle.link_model.specs.Acknowledgement.{Acknowledgement, Pdu, is_acked}
use Rattle.link_model.specs.Data.{Data, data_given, data_reported, is_control, is_empty}
use Rattle.link_model.specs.OneLink.{AreInAgreement}
use Rattle.link_model.specs.Setup.{Setup}
use Rattle.link_model.specs.Controls.{goes_on, is_terminate}
use Rattle.link_model.specs.End.{facts_after}
use Rattle.link_model.specs.Entering.{facts_entered_if}
use Rattle.link_model.specs.Facts.{Facts, keyed_of}
use Rattle.link_model.specs.declared.state.Leaving.{Leaving}
use Rattle.link_model.specs.Fixing.{data_cut, fixed_anew}
use Rattle.link_model.specs.Hosts.{asked_unless, ends_without_key, first_slot, is_to_come, key_step, leaving_from_if}
use Rattle.link_model.specs.Payload.{payload_made}
use Rattle.link_model.specs.Receiving.{lengths_seen}
use Rattle.link_model.specs.Step.{Step, DataGiven, DataReported, Disconnected, EventEntered, KeyAnswered, PacketReceived, PacketSent, PduFixed, ProcedureAsked, RequestAnswered, WordsGiven}
use Rattle.link_model.specs.enc_phase.Phases.{is_quiet}
use Rattle.link_model.specs.enc_phase.Sealing.{EncEnd}
use Rattle.link_pairs.specs.Ends.{phased_of}
use Rattle.link_pairs.specs.Hosts.{MayHost}
use Rattle.link_pairs.specs.Parting.{ArePartingFrom, HasFittingPdu, HasNothing, HasSentTerminate, HasTakenTerminate, IsOpenedBy, LacksKey, SendsNoControl}
use Rattle.link_pairs.specs.Turns.{entered_if, entered_in, prepared}
use Rattle.link_pairs.specs.Ways.{IsUnseen}
use Rattle.link_pairs.proofs.Fixing.{anew_piece, piece_no_control}
use Rattle.link_pairs.proofs.LastControl.{no_control_left}
use Rattle.link_pairs.proofs.PhasedEnds.{entered_phased}
use Rattle.link_pairs.proofs.ShutEnds.{enters_shut, key_shut}
use Rattle.link_pairs.proofs.TakingNothing.{TakesNothing, answers_nothing, asks_nothing, disconnects_nothing, entered_nothing, key_nothing, takes_none, takes_then}

-- ---- an end that sends and hears nothing new

pub record HasNothingNew (setup : Setup) (before now : Facts) : Type 0 where
  pub control : TakesNothing before.control now.control
  -- where its link is to end, its phase and its session stay
  pub end : is_open before.control.table.closing ≡ false → now.encryption.end ≡ before.encryption.end
  pub phase : is_open before.control.table.closing ≡ false → now.encryption.phase ≡ before.encryption.phase
  pub lacks : LacksKey (phased_of before) → LacksKey (phased_of now)
  pub acknowledgement : now.acknowledgement ≡ before.acknowledgement
  pub payload : now.outgoing.payload ≡ before.outgoing.payload
  pub none_gone : is_control before.outgoing.fixed ≡ false → is_control now.outgoing.fixed ≡ false
  pub by_peer : now.leaving.ended_by_peer ≡ before.leaving.ended_by_peer
  pub stays : now.leaving.acknowledged ≡ before.leaving.acknowledged
  pub answered : before.leaving.answered ≡ true → now.leaving.answered ≡ true

pub nothing_then : (setup : Setup) (a b c : Facts) → HasNothingNew setup a b → HasNothingNew setup b c → HasNothingNew setup a c
nothing_then setup a b c one two =
    record {
      control = takes_then a.control b.control c.control one.control two.control;
      end = λ shut. two.end (ap is_open (one.control.table.closing shut) ∙ shut) ∙ one.end shut;
      phase = λ shut. two.phase (ap is_open (one.control.table.closing shut) ∙ shut) ∙ one.phase shut;
      lacks = λ is. two.lacks (one.lacks is);
      acknowledgement = two.acknowledgement ∙ one.acknowledgement;
      payload = two.payload ∙ one.payload;
      none_gone = λ none. two.none_gone (one.none_gone none);
      by_peer = two.by_peer ∙ one.by_peer;
      stays = two.stays ∙ one.stays;
      answered = λ is. two.answered (one.answered is);
    }

module _ (setup : Setup) (before now : Facts) (nothing : HasNothingNew setup before now) where
  last_same : now.acknowledgement.last ≡ before.acknowledgement.last
  last_same = ap (λ (a : Acknowledgement). a.last) nothing.acknowledgement

  fits_still : (other : Setup) (made : EncEnd) → HasFittingPdu other made before → HasFittingPdu other made now
  fits_still other made fits =
      record {
        payload = nothing.payload ∙ fits.payload ∙ ap (payload_made made) (sym last_same);
        two_bits = subst (λ (pdu : Pdu). pdu.llid < 4) (sym last_same) fits.two_bits;
        short = subst (λ (pdu : Pdu). length pdu.body ≤ other.link.max_rx) (sym last_same) fits.short;
      }

  opened_still : (listener made : EncEnd) → is_open before.control.table.closing ≡ false → IsOpenedBy listener made before → IsOpenedBy listener made now
  opened_still listener made shut is =
      let acked = ap is_acked (sym nothing.acknowledgement) in
      let empty = ap is_empty (sym last_same) in
      record {
        last = record {
          can = λ out some. is.last.can (acked ∙ out) (empty ∙ some);
          key = λ out some does. is.last.key (acked ∙ out) (empty ∙ some) does ∙ ap (λ (e : EncEnd). e.key) (sym (nothing.end shut));
        };
        next = λ all. by (is.next (acked ∙ all));
      }
    where
      by : CanOpen before.encryption.end listener ⊎ HasNothing (phased_of before) → CanOpen now.encryption.end listener ⊎ HasNothing (phased_of now)
      by (inl can) = inl (subst (λ (e : EncEnd). CanOpen e listener) (sym (nothing.end shut)) can)
      by (inr none) =
          inr (record {
            loud = ap is_quiet (nothing.phase shut) ∙ none.loud;
            rejections = nothing.control.table.rejections shut none.rejections;
            drafts = nothing.control.table.drafts shut none.drafts;
          })

  over_still : SendsNoControl before.control.table ⊎ LacksKey (phased_of before) → SendsNoControl now.control.table ⊎ LacksKey (phased_of now)
  over_still (inl over) = inl (no_control_left before.control.table now.control.table nothing.control.table over)
  over_still (inr lacks) = inr (nothing.lacks lacks)

  sent_still : (other : Setup) → HasSentTerminate other before → HasSentTerminate other now
  sent_still other sent =
      record {
        goes_on = nothing.control.ends ∙ sent.goes_on;
        took_none = nothing.by_peer ∙ sent.took_none;
        stays = nothing.stays ∙ sent.stays;
        terminates = ap is_terminate last_same ∙ sent.terminates;
        two_octets = subst (λ (pdu : Pdu). length pdu.body ≤ 2) (sym last_same) sent.two_octets;
        shut = ap is_open (nothing.control.table.closing sent.shut) ∙ sent.shut;
        sends_no_control = over_still sent.sends_no_control;
        made = sent.made;
        fits = fits_still other sent.made sent.fits;
      }

  abbrev took_still : (other : Setup) → HasTakenTerminate other before → HasTakenTerminate other now
  took_still other took =
      record {
        goes_on = nothing.control.ends ∙ took.goes_on;
        took = ap is_some nothing.by_peer ∙ took.took;
        stays = nothing.stays ∙ took.stays;
        closing = ap is_open (nothing.control.table.closing took.closing) ∙ took.closing;
        none_gone = nothing.none_gone took.none_gone;
        peer_receives = subst (λ (n : ℕ). n ≤ other.link.max_rx) (sym nothing.control.table.peer_rx) took.peer_receives;
        made = took.made;
        fits = fits_still other took.made took.fits;
      }

-- ---- two ends that part

module _ (taker sender : Setup) (t s : Facts) (parting : ArePartingFrom taker sender t s) where
  pub taker_still : (now : Facts) → HasNothingNew taker t now → ArePartingFrom taker sender now s
  taker_still now nothing =
      let same = sym nothing.acknowledgement in
      record {
        took = took_still taker t now nothing sender parting.took;
        sent = parting.sent;
        opens = opened_still taker t now nothing s.encryption.end parting.took.made parting.took.closing parting.opens;
        agreement = subst (λ (a : Acknowledgement). AreInAgreement a s.acknowledgement) same parting.agreement;
        unseen = subst (λ (a : Acknowledgement). IsUnseen s.acknowledgement a) same parting.unseen;
        seen = subst (λ (a : Acknowledgement). a.acked ≡ length s.acknowledgement.accepted) same parting.seen;
        answers =
            λ is. let has = parting.answers is in
            record { answered = nothing.answered has.answered; out = ap is_acked nothing.acknowledgement ∙ has.out };
      }

  pub sender_still : (now : Facts) → HasNothingNew sender s now → ArePartingFrom taker sender t now
  sender_still now nothing =
      let same = sym nothing.acknowledgement in
      record {
        took = parting.took;
        sent = sent_still sender s now nothing taker parting.sent;
        opens = subst (λ (e : EncEnd). IsOpenedBy e parting.took.made t) (sym (nothing.end parting.sent.shut)) parting.opens;
        agreement = subst (λ (a : Acknowledgement). AreInAgreement t.acknowledgement a) same parting.agreement;
        unseen = subst (λ (a : Acknowledgement). IsUnseen a t.acknowledgement) same parting.unseen;
        seen = subst (λ (a : Acknowledgement). t.acknowledgement.acked ≡ length a.accepted) same parting.seen;
        answers = parting.answers;
      }

-- ---- what a host does

pub same_still : (setup : Setup) (facts : Facts) → HasNothingNew setup facts facts
same_still setup facts =
    record {
      control = takes_none facts.control;
      lacks = λ is. is;
      end = λ shut. refl;
      phase = λ shut. refl;
      acknowledgement = refl;
      payload = refl;
      none_gone = λ none. none;
      by_peer = refl;
      stays = refl;
      answered = λ is. is;
    }

-- only its control part is another one, and whether it disconnected
record IsHosted (facts now : Facts) : Type 0 where
  control : TakesNothing facts.control now.control
  lacks : LacksKey (phased_of facts) → LacksKey (phased_of now)
  end : is_open facts.control.table.closing ≡ false → now.encryption.end ≡ facts.encryption.end
  phase : is_open facts.control.table.closing ≡ false → now.encryption.phase ≡ facts.encryption.phase
  acknowledgement : now.acknowledgement ≡ facts.acknowledgement
  fixed : now.outgoing.fixed ≡ facts.outgoing.fixed
  payload : now.outgoing.payload ≡ facts.outgoing.payload
  by_peer : now.leaving.ended_by_peer ≡ facts.leaving.ended_by_peer
  stays : now.leaving.acknowledged ≡ facts.leaving.acknowledged
  answered : now.leaving.answered ≡ facts.leaving.answered

control_hosted : (facts : Facts) (step : ControlStep) (lengths : KnownLengths) (slot : Option ℕ) → TakesNothing facts.control (after step facts.control)
    → IsHosted facts (record facts { control = after step facts.control; lengths = lengths; leaving = record facts.leaving { disconnected = slot } })
control_hosted facts step lengths slot nothing =
    record {
      lacks = λ is. record { role = same_role Peripheral step facts.control is.role; asked = is.asked; none = is.none };
      control = nothing;
      end = λ shut. refl;
      phase = λ shut. refl;
      acknowledgement = refl;
      fixed = refl;
      payload = refl;
      by_peer = refl;
      stays = refl;
      answered = refl;
    }

-- only its data is
data_hosted : (facts : Facts) (o : Data) → o.fixed ≡ facts.outgoing.fixed → o.payload ≡ facts.outgoing.payload
    → IsHosted facts (record facts { outgoing = o })
data_hosted facts o fixed payload =
    record {
      control = takes_none facts.control;
      lacks = λ is. record { role = is.role; asked = is.asked; none = is.none };
      end = λ shut. refl;
      phase = λ shut. refl;
      acknowledgement = refl;
      fixed = fixed;
      payload = payload;
      by_peer = refl;
      stays = refl;
      answered = refl;
    }

asked_hosted : (to_come : Bool) (ask : Ask) (facts : Facts) → IsHosted facts (asked_unless to_come ask facts)
asked_hosted true ask facts = data_hosted facts facts.outgoing refl refl
asked_hosted false ask facts =
    control_hosted facts (Asks ask) (lengths_seen facts.control.table.lengths (after (Asks ask) facts.control).table.lengths facts.lengths)
    facts.leaving.disconnected (asks_nothing ask facts.control)

pub left_by_peer : (leaves : Bool) (slot : ℕ) (leaving : Leaving) → (leaving_from_if leaves slot leaving).ended_by_peer ≡ leaving.ended_by_peer
left_by_peer true slot leaving = refl
left_by_peer false slot leaving = refl

left_answered : (leaves : Bool) (slot : ℕ) (leaving : Leaving) → (leaving_from_if leaves slot leaving).answered ≡ leaving.answered
left_answered true slot leaving = refl
left_answered false slot leaving = refl

stays_lacking : (step : PhasedStep) (x : Phased) → LacksKey x → LacksKey (phased_after step x)
stays_lacking step x is =
    let now = keyless_stays step x (record { role = is.role; asked = is.asked; none = is.none }) in
    record { role = now.role; asked = now.asked; none = now.none }

key_lacks : (key : Option (List ℕ)) (facts : Facts) → LacksKey (phased_of facts) → LacksKey (keyed_after (key_step key) (keyed_of facts)).phased
key_lacks (Some ltk) facts is = subst LacksKey (sym (phased_once (key_step (Some ltk)) (keyed_of facts))) (stays_lacking GivesKey (phased_of facts) is)
key_lacks None facts is = subst LacksKey (sym (phased_once (key_step None) (keyed_of facts))) (stays_lacking LacksKeyStep (phased_of facts) is)

hosted : (setup : Setup) (facts : Facts) (step : Step) → MayHost step facts → IsHosted facts (facts_after setup facts step)
hosted setup facts (DataGiven start body) m =
    data_hosted facts (data_given setup.link.handle start body facts.outgoing) (given_fixed setup.link.handle start body facts.outgoing)
    (given_payload setup.link.handle start body facts.outgoing)
hosted setup facts (ProcedureAsked ask) m = asked_hosted (is_to_come ask facts) ask facts
hosted setup facts (RequestAnswered answer) m =
    control_hosted facts (Answers answer) facts.lengths facts.leaving.disconnected (answers_nothing answer facts.control)
hosted setup facts (KeyAnswered key slot) m =
    record {
      control = key_nothing key (keyed_of facts);
      lacks = λ is. key_lacks key facts is;
      end = λ shut. ap (λ (k : Keyed). k.end) (key_shut (keyed_of facts) shut key);
      phase = λ shut. ap (λ (k : Keyed). k.phased.phase) (key_shut (keyed_of facts) shut key);
      acknowledgement = refl;
      fixed = refl;
      payload = refl;
      by_peer = left_by_peer (ends_without_key key facts) slot facts.leaving;
      stays = key_stays (ends_without_key key facts) slot facts.leaving;
      answered = left_answered (ends_without_key key facts) slot facts.leaving;
    }
hosted setup facts (Disconnected reason slot) m =
    control_hosted facts (Disconnects reason) facts.lengths (Some (first_slot facts.leaving.disconnected slot)) (disconnects_nothing reason facts.control)
hosted setup facts DataReported m = data_hosted facts (data_reported facts.outgoing) refl refl
hosted setup facts (EventEntered slot) m = absurd m
hosted setup facts PduFixed m = absurd m
hosted setup facts (PacketSent slot) m = absurd m
hosted setup facts (WordsGiven skd_s iv_s) m =
    record {
      lacks = λ is. record { role = is.role; asked = is.asked; none = is.none };
      control = takes_none facts.control;
      end = λ shut. refl;
      phase = λ shut. refl;
      acknowledgement = refl;
      fixed = refl;
      payload = refl;
      by_peer = refl;
      stays = refl;
      answered = refl;
    }
hosted setup facts (PacketReceived slot octets room) m = absurd m

pub host_still : (setup : Setup) (facts : Facts) (step : Step) → MayHost step facts → HasNothingNew setup facts (facts_after setup facts step)
host_still setup facts step m =
    let host = hosted setup facts step m in
    record {
      control = host.control;
      lacks = host.lacks;
      end = host.end;
      phase = host.phase;
      acknowledgement = host.acknowledgement;
      payload = host.payload;
      none_gone = λ none. ap is_control host.fixed ∙ none;
      by_peer = host.by_peer;
      stays = host.stays;
      answered = λ is. host.answered ∙ is;
    }

-- ---- a turn begins

entered_still : (goes : Bool) (setup : Setup) (slot : ℕ) (facts : Facts)
    → HasNothingNew setup facts (facts_entered_if goes setup slot facts)
entered_still true setup slot facts =
    record {
      control = entered_nothing slot facts;
      lacks = λ is. subst LacksKey (sym (entered_phased setup slot facts)) (stays_lacking (Enters slot) (phased_of facts) is);
      end = λ shut. (enters_shut (keyed_of facts) shut slot).end;
      phase = λ shut. (enters_shut (keyed_of facts) shut slot).phase;
      acknowledgement = refl;
      payload = refl;
      none_gone = λ none. none;
      by_peer = refl;
      stays = refl;
      answered = λ is. is;
    }
entered_still false setup slot facts = same_still setup facts

entered_if_still : (enters : Bool) (setup : Setup) (slot : ℕ) (facts : Facts) → HasNothingNew setup facts (entered_if enters setup slot facts)
entered_if_still true setup slot facts = entered_still (goes_on facts) setup slot facts
entered_if_still false setup slot facts = same_still setup facts

pub anew_still : (setup : Setup) (facts : Facts) → HasNothingNew setup facts (fixed_anew facts)
anew_still setup facts =
    record {
      control = takes_none facts.control;
      lacks = λ is. record { role = is.role; asked = is.asked; none = is.none };
      end = λ shut. refl;
      phase = λ shut. refl;
      acknowledgement = refl;
      payload = fixed_payload _ _ _ _ (data_cut facts);
      none_gone = λ none. piece_no_control (tx_of facts.control.table.lengths) (fixed_anew facts).outgoing.fixed (anew_piece facts);
      by_peer = refl;
      stays = refl;
      answered = λ is. is;
    }

fixed_still : (fixes gone : Bool) (setup : Setup) (facts : Facts)
    → HasNothingNew setup facts (if fixes then (if gone then facts else fixed_anew facts) else facts)
fixed_still true false setup facts = anew_still setup facts
fixed_still true true setup facts = same_still setup facts
fixed_still false gone setup facts = same_still setup facts

pub entered_in_still : (setup : Setup) (slot : ℕ) (facts : Facts) → HasNothingNew setup facts (entered_in setup slot facts)
entered_in_still setup slot facts = entered_if_still (next_anchor_of facts.control.track == slot) setup slot facts

pub prepared_still : (setup : Setup) (slot : ℕ) (exchanges : Bool) (facts : Facts) → HasNothingNew setup facts (prepared setup slot exchanges facts)
prepared_still setup slot exchanges facts =
    let now = entered_in setup slot facts in
    nothing_then setup facts now (prepared setup slot exchanges facts) (entered_in_still setup slot facts)
    (fixed_still exchanges (is_control now.outgoing.fixed) setup now)
