-- The end that took LL_TERMINATE_IND sends its next packet, and stays parting from the other.
use Rattle.std.proofs.Common.{◌≡◌, ◌⊎◌, inl, inr, ◌≤◌, ◌<◌, ◌&&◌, ◌||◌, not, ℕ, Bool, true, false, List, [], length, Option, None, is_none, is_some, refl, sym, ap, ◌∙◌, subst, arith, if◌then◌else◌}
use Rattle.std.proofs.lemmas.Bool.{or_right}
use Rattle.std.proofs.Math.Nat.{min-le_right}
use Rattle.ble_base.specs.declared.roles.Role.TheVariants.{Peripheral}
use Rattle.data_pdu.specs.declared.ctrl.Ctrl.{Ctrl}
use Rattle.instants.specs.Track.{event_of}
use Rattle.control_octets.specs.procedure_values.declared.drafts.Outgoing.{Outgoing}
use Rattle.control_octets.specs.procedure_values.declared.drafts.Outgoing.TheVariants.{Nothing}
use Rattle.control_octets.specs.procedure_values.Drafts.{ctrl_of_outgoing}
use Rattle.control_octets.specs.procedure_stages.Closing.{is_disconnecting, is_open}
use Rattle.control_octets.specs.procedure_stages.Queue.{next_after_rejections, next_by, waiting_in}
use Rattle.control_octets.specs.procedures.Queue.{next_of}
use Rattle.joint_keys.specs.Opening.{CanOpen}
use Rattle.link_model.specs.Acknowledgement.{Acknowledgement, Pdu, is_acked}
use Rattle.link_model.specs.Data.{Data as DataFacts, is_control, is_empty}
use Rattle.link_model.specs.OneLink.{AreInAgreement}
use Rattle.link_model.specs.Payload.{end_sending, payload_made}
use Rattle.link_model.specs.Setup.{Setup}
use Rattle.link_model.specs.declared.state.Leaving.{Leaving}
use Rattle.link_model.specs.Controls.{is_quiet_now, next_control, pdu_fixed, pdu_of_control}
use Rattle.link_model.specs.Facts.{Encryption, Facts}
use Rattle.link_model.specs.Fixing.{data_cut, data_fixed_by, data_goes, fixed_anew}
use Rattle.link_model.specs.Sending.{control_gone_if, data_sent_as, facts_sent, takes_leave}
use Rattle.link_model.specs.enc_phase.Phases.{seals}
use Rattle.link_model.specs.enc_phase.Sealing.{EncEnd}
use Rattle.link_model.proofs.Acknowledging.{ack_sent}
use Rattle.link_pairs.specs.Ends.{phased_of}
use Rattle.link_pairs.specs.Parting.{ArePartingFrom, HasAnswered, HasFittingPdu, HasNothing, HasSentTerminate, IsOpenedOut}
use Rattle.link_pairs.specs.Turns.{central_begun, entered_in, prepared, sent_if}
use Rattle.link_pairs.specs.Ways.{IsUnseen}
use Rattle.link_pairs.proofs.Answering.{gone_same}
use Rattle.link_pairs.proofs.Counts.{sent_agreed}
use Rattle.link_pairs.proofs.Fixing.{anew_piece, fixing_is}
use Rattle.link_pairs.proofs.FixingNext.{control_bits, control_short}
use Rattle.link_pairs.proofs.HeardCounts.{gone_nothing}
use Rattle.link_pairs.proofs.Items.{never}
use Rattle.link_pairs.proofs.NothingNew.{anew_still, entered_in_still, prepared_still, taker_still}
use Rattle.link_pairs.proofs.HasSent.{HasSent, has_sent}
use Rattle.link_pairs.proofs.TakingNothing.{TakesNothing}

-- ---- the PDU that is fixed fits the other end

pub record FixedFits (other : Setup) (facts : Facts) : Type 0 where
  pub two_bits : (pdu_fixed facts).llid < 4
  pub short : length (pdu_fixed facts).body ≤ other.link.max_rx

-- a control PDU, or this one
pub fixed_fits : (other : Setup) → 24 ≤ other.link.max_rx → (fixes : Bool) (next : Option Ctrl) (fixed : Pdu) → fixed.llid < 4
    → length fixed.body ≤ other.link.max_rx
    → ((if fixes then pdu_of_control next else fixed).llid < 4) × (length (if fixes then pdu_of_control next else fixed).body ≤ other.link.max_rx)
fixed_fits other least true next fixed bits short = let control = control_short next in (control_bits next, omega (arith, control, least))
fixed_fits other least false next fixed bits short = (bits, short)

anew_fits : (other : Setup) (facts : Facts) → 24 ≤ other.link.max_rx → facts.control.table.lengths.peer_rx ≤ other.link.max_rx
    → FixedFits other (fixed_anew facts)
anew_fits other facts least known =
    let piece = anew_piece facts in
    let bits = piece.llid in
    let short = piece.short in
    let lengths = facts.control.table.lengths in
    let most = min-le_right lengths.own_tx lengths.peer_rx in
    let fits = fixed_fits other least (fixed_anew facts).fixes_control (next_control (fixed_anew facts)) (fixed_anew facts).outgoing.fixed (omega (arith, bits))
    (omega (arith, short, most, known)) in
    record { two_bits = fits.0; short = fits.1 }

-- ---- what the end holds after it sent that, or the last one again

-- with which session its last PDU is made then
abbrev pub made_as : Bool → Facts → EncEnd → EncEnd
made_as all facts made = if all then facts.encryption.end else made

module _ (other : Setup) (slot : ℕ) (facts : Facts) (made : EncEnd) (fits : HasFittingPdu other made facts) (fixed : FixedFits other facts) where
  sent : HasSent facts (facts_sent slot facts)
  sent = has_sent slot facts

  payload_by : (all : Bool) → (if all then payload_made facts.encryption.end (pdu_fixed facts) else facts.outgoing.payload)
      ≡ payload_made (made_as all facts made) (if all then pdu_fixed facts else facts.acknowledgement.last)
  payload_by true = refl
  payload_by false = fits.payload

  bits_by : (all : Bool) → (if all then pdu_fixed facts else facts.acknowledgement.last).llid < 4
  bits_by true = fixed.two_bits
  bits_by false = fits.two_bits

  short_by : (all : Bool) → length (if all then pdu_fixed facts else facts.acknowledgement.last).body ≤ other.link.max_rx
  short_by true = fixed.short
  short_by false = fits.short

  abbrev all_acked : Bool
  all_acked = is_acked facts.acknowledgement

  fits_sent : HasFittingPdu other (made_as all_acked facts made) (facts_sent slot facts)
  fits_sent =
      record {
        payload = sent.payload ∙ payload_by all_acked ∙ ap (payload_made (made_as all_acked facts made)) (sym sent.last);
        two_bits = subst (λ (pdu : Pdu). pdu.llid < 4) (sym sent.last) (bits_by all_acked);
        short = subst (λ (pdu : Pdu). length pdu.body ≤ other.link.max_rx) (sym sent.last) (short_by all_acked);
      }

-- ---- an end that has no control PDU left, in another phase than Clear and Secure, fixes an empty PDU

pub same_if : {A : Type 0} (b : Bool) (x : A) → (if b then x else x) ≡ x
same_if true x = refl
same_if false x = refl

pub none_next : (facts : Facts) → HasNothing (phased_of facts) → next_control facts ≡ None
none_next facts is =
    let f = facts.control.table in
    let event = event_of facts.control.track in
    let none : next_of f event (is_quiet_now facts) ≡ Nothing =
    (λ i. next_by (is.rejections i) (next_after_rejections (is_disconnecting f.closing && is.loud i) f.progress event (record f.queue { drafts = is.drafts i })))
    ∙ ap (λ (b : Bool). next_after_rejections b f.progress event (record f.queue { drafts = [] })) (never (is_disconnecting f.closing)) in
    ap (λ (out : Outgoing). if is_none facts.control.ends then ctrl_of_outgoing out event facts.control.track.params.latency else None) none
    ∙ same_if (is_none facts.control.ends) None

fixes_empty : (control goes : Bool) (next : Option Ctrl) (waiting : ℕ) (quiet : Bool) (o : DataFacts) → control ≡ false → goes ≡ false
    → is_empty (if control then pdu_of_control next else (data_fixed_by control waiting quiet goes o).fixed) ≡ true
fixes_empty false false next waiting quiet o none no_data = refl
fixes_empty true goes next waiting quiet o none no_data = absurd (cc)
fixes_empty false true next waiting quiet o none no_data = absurd (cc)

anew_empty : (facts : Facts) → HasNothing (phased_of facts) → is_empty (pdu_fixed (fixed_anew facts)) ≡ true
anew_empty facts is =
    fixes_empty (is_some (next_control facts)) (data_goes facts) (next_control facts) (waiting_in facts.control.table.queue) (is_quiet_now facts) (data_cut facts)
    (ap (λ (next : Option Ctrl). is_some next) (none_next facts is))
    (ap (λ (b : Bool). b && not (is_disconnecting facts.control.table.closing)) is.loud)

none_gone_by : (payload : List ℕ) (all fixes : Bool) (slot : ℕ) (facts : Facts) → is_control facts.outgoing.fixed ≡ false
    → is_control (data_sent_as payload all (control_gone_if (all && fixes) slot facts).outgoing).fixed ≡ false
none_gone_by payload true fixes slot facts none = refl
none_gone_by payload false fixes slot facts none = none

module _ (slot : ℕ) (facts : Facts) where
  none_gone_sent : is_control facts.outgoing.fixed ≡ false → is_control (facts_sent slot facts).outgoing.fixed ≡ false
  none_gone_sent none =
      let gone = control_gone_if (takes_leave facts) slot facts in
      let payload = payload_made gone.encryption.end gone.outgoing.fixed in
      ap (λ (a : Acknowledgement). is_control (data_sent_as payload (is_acked a) gone.outgoing).fixed)
      (gone_same (takes_leave facts) slot facts).acknowledgement
      ∙ none_gone_by payload (is_acked facts.acknowledgement) facts.fixes_control slot facts none

pub sent_by_peer : (sends : Bool) (setup : Setup) (slot : ℕ) (facts : Facts)
    → (sent_if sends setup slot facts).leaving.ended_by_peer ≡ facts.leaving.ended_by_peer
sent_by_peer true setup slot facts = ap (λ (l : Leaving). l.ended_by_peer) (gone_same (takes_leave facts) slot facts).leaving
sent_by_peer false setup slot facts = refl

pub begun_by_peer : (setup : Setup) (slot : ℕ) (transmits : Bool) (facts : Facts)
    → (central_begun setup slot transmits facts).leaving.ended_by_peer ≡ facts.leaving.ended_by_peer
begun_by_peer setup slot transmits facts =
    sent_by_peer transmits setup slot (prepared setup slot transmits facts) ∙ (prepared_still setup slot transmits facts).by_peer

-- ---- the two ends before it sends: all of parting but what it has fixed and answered

pub record AreToPart (taker sender : Setup) (t s : Facts) : Type 0 where
  pub goes_on : t.control.ends ≡ None
  pub took : is_some t.leaving.ended_by_peer ≡ true
  pub stays : t.leaving.acknowledged ≡ false
  pub closing : is_open t.control.table.closing ≡ false
  pub peer_receives : t.control.table.lengths.peer_rx ≤ sender.link.max_rx
  pub made : EncEnd
  pub fits : HasFittingPdu sender made t
  pub sent : HasSentTerminate taker s
  pub last : IsOpenedOut s.encryption.end made t
  pub agreement : AreInAgreement t.acknowledgement s.acknowledgement
  pub unseen : IsUnseen s.acknowledgement t.acknowledgement
  pub seen : t.acknowledgement.acked ≡ length s.acknowledgement.accepted

-- the next PDU is opened too, or the one that is fixed is empty
abbrev pub OpensFixed : Facts → Facts → Type 0
OpensFixed t s =
    is_acked t.acknowledgement ≡ true → CanOpen t.encryption.end s.encryption.end ⊎ (is_empty (pdu_fixed t) ≡ true)

abbrev pub OpensNext : Facts → Facts → Type 0
OpensNext t s =
    is_acked t.acknowledgement ≡ true → CanOpen t.encryption.end s.encryption.end ⊎ HasNothing (phased_of t)

module _ (taker sender : Setup) (t s : Facts) where
  pub part : AreToPart taker sender t s → OpensNext t s → is_control t.outgoing.fixed ≡ false → (taker.link.role ≡ Peripheral → HasAnswered t)
      → ArePartingFrom taker sender t s
  part parts next none_gone answers =
      record {
        took = record {
          goes_on = parts.goes_on;
          took = parts.took;
          stays = parts.stays;
          closing = parts.closing;
          none_gone = none_gone;
          peer_receives = parts.peer_receives;
          made = parts.made;
          fits = parts.fits;
        };
        sent = parts.sent;
        opens = record { last = parts.last; next = next };
        agreement = parts.agreement;
        unseen = parts.unseen;
        seen = parts.seen;
        answers = answers;
      }

  parted : ArePartingFrom taker sender t s → AreToPart taker sender t s
  parted parting =
      record {
        goes_on = parting.took.goes_on;
        took = parting.took.took;
        stays = parting.took.stays;
        closing = parting.took.closing;
        peer_receives = parting.took.peer_receives;
        made = parting.took.made;
        fits = parting.took.fits;
        sent = parting.sent;
        last = parting.opens.last;
        agreement = parting.agreement;
        unseen = parting.unseen;
        seen = parting.seen;
      }

module _ (taker sender : Setup) (t s : Facts) (slot : ℕ) (parts : AreToPart taker sender t s) (next : OpensFixed t s) (fixed : FixedFits sender t) where
  abbrev now : Facts
  now = facts_sent slot t

  nothing : TakesNothing t.control now.control
  nothing = gone_nothing (takes_leave t) slot t

  leaving : (control_gone_if (takes_leave t) slot t).leaving ≡ t.leaving
  leaving = (gone_same (takes_leave t) slot t).leaving

  has_sent_it : HasSent t now
  has_sent_it = has_sent slot t

  answered : now.leaving.answered ≡ true
  answered =
      ap (λ (l : Leaving). l.answered || is_some l.ended_by_peer) leaving ∙ or_right t.leaving.answered (is_some t.leaving.ended_by_peer) parts.took

  -- its listener opens what it sends
  key_sent : (b : Bool) (e : EncEnd) → (end_sending b e).key ≡ e.key
  key_sent true e = refl
  key_sent false e = refl

  key_now : now.encryption.end.key ≡ t.encryption.end.key
  key_now =
      key_sent _ (control_gone_if (takes_leave t) slot t).encryption.end
      ∙ ap (λ (e : Encryption). e.end.key) (gone_same (takes_leave t) slot t).encryption

  can_by : (all : Bool) → is_acked t.acknowledgement ≡ all → is_empty (if all then pdu_fixed t else t.acknowledgement.last) ≡ false
      → CanOpen (made_as all t parts.made) s.encryption.end
  can_by false is some = parts.last.can is some
  can_by true is some = by (next is)
    where
      by : CanOpen t.encryption.end s.encryption.end ⊎ (is_empty (pdu_fixed t) ≡ true) → CanOpen t.encryption.end s.encryption.end
      by (inl can) = can
      by (inr empty) = absurd (let no = sym empty ∙ some in cc)

  key_by : (all : Bool) → is_acked t.acknowledgement ≡ all → is_empty (if all then pdu_fixed t else t.acknowledgement.last) ≡ false
      → seals (made_as all t parts.made).role (made_as all t parts.made).phase ≡ true → (made_as all t parts.made).key ≡ t.encryption.end.key
  key_by false is some does = parts.last.key is some does
  key_by true is some does = refl

  last_sent : IsOpenedOut s.encryption.end (made_as (is_acked t.acknowledgement) t parts.made) now
  last_sent =
      let empty = ap is_empty (sym has_sent_it.last) in
      record {
        can = λ out some. can_by (is_acked t.acknowledgement) refl (empty ∙ some);
        key = λ out some does. key_by (is_acked t.acknowledgement) refl (empty ∙ some) does ∙ sym key_now;
      }

  parts_sent : AreToPart taker sender now s
  parts_sent =
      record {
        goes_on = nothing.ends ∙ parts.goes_on;
        took = ap (λ (l : Leaving). is_some l.ended_by_peer) leaving ∙ parts.took;
        stays = ap (λ (l : Leaving). l.acknowledged) leaving ∙ parts.stays;
        closing = ap is_open (nothing.table.closing parts.closing) ∙ parts.closing;
        peer_receives = subst (λ (n : ℕ). n ≤ sender.link.max_rx) (sym nothing.table.peer_rx) parts.peer_receives;
        made = made_as (is_acked t.acknowledgement) t parts.made;
        fits = fits_sent sender slot t parts.made parts.fits fixed;
        sent = parts.sent;
        last = last_sent;
        agreement =
            subst (λ (a : Acknowledgement). AreInAgreement a s.acknowledgement) (sym (ack_sent slot t))
            (sent_agreed (pdu_fixed t) t.acknowledgement s.acknowledgement parts.agreement);
        unseen = record {
          taken = ap (λ (pdus : List Pdu). length pdus) has_sent_it.accepted ∙ parts.unseen.taken;
          unseen = parts.unseen.unseen;
        };
        seen = has_sent_it.acked ∙ parts.seen;
      }

  pub has_answered : HasAnswered now
  has_answered = record { answered = answered; out = has_sent_it.out }

  pub sent_parting : is_control now.outgoing.fixed ≡ false → ArePartingFrom taker sender now s
  sent_parting none_gone =
      part taker sender now s parts_sent (λ all. absurd (let no = sym all ∙ has_sent_it.out in cc)) none_gone (λ is. has_answered)

-- ---- a turn begins at a central that took it

module _ (taker sender : Setup) (least : 24 ≤ sender.link.max_rx) (t s : Facts) (slot : ℕ) (parting : ArePartingFrom taker sender t s) where
  abbrev entered : Facts
  entered = entered_in taker slot t

  entered_parting : ArePartingFrom taker sender entered s
  entered_parting = taker_still taker sender t s parting entered (entered_in_still taker slot t)

  anew_parting : ArePartingFrom taker sender (fixed_anew entered) s
  anew_parting = taker_still taker sender entered s entered_parting (fixed_anew entered) (anew_still taker entered)

  opens_anew : OpensFixed (fixed_anew entered) s
  opens_anew all = by (entered_parting.opens.next all)
    where
      by : CanOpen entered.encryption.end s.encryption.end ⊎ HasNothing (phased_of entered)
          → CanOpen entered.encryption.end s.encryption.end ⊎ (is_empty (pdu_fixed (fixed_anew entered)) ≡ true)
      by (inl can) = inl can
      by (inr none) = inr (anew_empty entered none)

  anew_is : fixed_anew entered ≡ prepared taker slot true t
  anew_is = sym (fixing_is true taker entered entered_parting.took.none_gone)

  pub transmits_parting : ArePartingFrom taker sender (facts_sent slot (fixed_anew entered)) s
  transmits_parting =
      sent_parting taker sender (fixed_anew entered) s slot (parted taker sender (fixed_anew entered) s anew_parting) opens_anew
      (anew_fits sender entered least entered_parting.took.peer_receives)
      (none_gone_sent slot (fixed_anew entered) anew_parting.took.none_gone)

  pub begun_parting : (transmits : Bool) → ArePartingFrom taker sender (central_begun taker slot transmits t) s
  begun_parting true = subst (λ (f : Facts). ArePartingFrom taker sender (facts_sent slot f) s) anew_is transmits_parting
  begun_parting false = taker_still taker sender t s parting (prepared taker slot false t) (prepared_still taker slot false t)

  pub transmits_answers : HasAnswered (central_begun taker slot true t)
  transmits_answers =
      subst (λ (f : Facts). HasAnswered (facts_sent slot f)) anew_is
      (has_answered taker sender (fixed_anew entered) s slot (parted taker sender (fixed_anew entered) s anew_parting) opens_anew
      (anew_fits sender entered least entered_parting.took.peer_receives))
