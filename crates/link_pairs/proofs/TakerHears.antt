-- The end that took LL_TERMINATE_IND hears the same packet again: it takes nothing, and the two ends stay parting.
use Rattle.std.proofs.Common.{◌≡◌, ◌≤◌, inr, ◌&&◌, ℕ, Bool, true, false, List, length, not, ◌||◌, is_none, is_some, refl, sym, ap, ◌∙◌, subst, arith}
use Rattle.ble_base.specs.declared.roles.Role.{Role}
use Rattle.ble_base.specs.declared.roles.Role.TheVariants.{Central, Peripheral}
use Rattle.link_model.specs.Acknowledgement.{Acknowledgement, is_acked}
use Rattle.link_model.specs.Setup.{Setup}
use Rattle.link_model.proofs.Hearing.{IsHeardWhole}
use Rattle.link_model.specs.Facts.{Facts}
use Rattle.link_model.specs.Packets.{good_pdu}
use Rattle.link_model.specs.Receiving.{has_ended, replies_by, replies_of}
use Rattle.link_pairs.specs.Hearing.{IsPacketOf, answered, received}
use Rattle.link_pairs.specs.Parting.{ArePartingFrom, HearsNothingNew}
use Rattle.link_pairs.specs.Ways.{IsUnseen}
use Rattle.link_pairs.proofs.Counts.{Says, acknowledged_by, is_fresh, says_right, unseen_is_taken}
use Rattle.link_pairs.proofs.HearingNothingNew.{heard_control, heard_still, none_noted, sent_if_still}
use Rattle.link_pairs.proofs.LastCiphers.{false_by}
use Rattle.link_pairs.proofs.NothingNew.{HasNothingNew, taker_still}
use Rattle.link_pairs.proofs.PacketsRead.{AreRead, fits_listener, read_again}
use Rattle.link_pairs.proofs.Replying.{good_not_forged, replies_as}

-- ---- what the packet says

none_unseen : (to from : Acknowledgement) → to.acked ≡ length from.accepted → IsUnseen to from → ⊥
none_unseen to from seen is = let taken = is.taken in let unseen = is.unseen in omega (arith, seen, taken, unseen)

module _ (whole : IsHeardWhole) (taker sender : Setup) (fields : sender.link.fields ≡ taker.link.fields) (most : taker.link.max_rx ≤ 251)
    (least : 27 ≤ taker.link.max_rx) (t s : Facts)
    (parting : ArePartingFrom taker sender t s) (slot channel : ℕ) (octets : List ℕ) (packet : IsPacketOf sender slot s channel octets)
    (same : channel ≡ t.event.channel) (room : Bool) where
  read : AreRead taker t slot octets s.acknowledgement
  read =
      let two = parting.sent.two_octets in
      read_again whole sender taker slot s t channel octets parting.sent.made fields packet same
      (fits_listener taker parting.sent.made s t most parting.sent.fits (λ some does. inr (omega (arith, two, least)))) parting.agreement parting.unseen

  abbrev acks : Bool
  acks = acknowledged_by t.acknowledgement read.header

  abbrev fresh : Bool
  fresh = is_fresh t.acknowledgement read.header

  says : Says t.acknowledgement s.acknowledgement acks fresh
  says = says_right t.acknowledgement s.acknowledgement parting.agreement read.header read.bits read.out

  acks_none : acks ≡ false
  acks_none = false_by acks (λ is. none_unseen t.acknowledgement s.acknowledgement parting.seen (says.unseen is))

  none_fresh : fresh ≡ false
  none_fresh = false_by fresh (λ is. unseen_is_taken s.acknowledgement t.acknowledgement parting.unseen (says.untaken is))

  out : taker.link.role ≡ Peripheral → is_acked t.acknowledgement ≡ false
  out is = (parting.answers is).out

  -- ---- what the taker makes of it

  abbrev heard : Facts
  heard = received taker slot octets room t

  heard_nothing : HasNothingNew taker t heard
  heard_nothing =
      subst (HasNothingNew taker t) (sym (read.facts room)) (heard_still taker.link.role slot room read.header s.acknowledgement.last t acks_none none_fresh out taker)

  pub hears_nothing_new : HearsNothingNew taker t slot octets room
  hears_nothing_new =
      let role = taker.link.role in
      record {
        judged = read.judged;
        control = ap (λ (f : Facts). f.control) (read.facts room) ∙ heard_control role slot room read.header s.acknowledgement.last t acks_none none_fresh out;
        counts = heard_nothing.acknowledgement;
        notes = read.notes room ∙ none_noted role slot room read.header s.acknowledgement.last t acks_none none_fresh out taker refl;
      }

  pub heard_parting : ArePartingFrom taker sender heard s
  heard_parting = taker_still taker sender t s parting heard heard_nothing

  -- a peripheral answers, with its last PDU again
  replies_by_role : (role : Role) → role ≡ Peripheral → replies_by role (has_ended heard) (good_pdu taker t octets) ≡ true
  replies_by_role Central is = absurd (cc)
  replies_by_role Peripheral is =
      (λ i. is_some (good_pdu taker t octets) && not (not (is_none (heard_parting.took.goes_on i)) || heard_parting.took.stays i))
      ∙ ap (λ (b : Bool). b && true) read.good

  pub replies_again : taker.link.role ≡ Peripheral → replies_of taker t slot octets room ≡ true
  replies_again is = replies_as taker t slot octets room (good_not_forged taker t octets read.good) ∙ replies_by_role taker.link.role is

  pub answered_parting : is_acked t.acknowledgement ≡ false → ArePartingFrom taker sender (answered taker slot octets room t) s
  answered_parting none_acked =
      taker_still taker sender heard s heard_parting (answered taker slot octets room t)
      (sent_if_still (replies_of taker t slot octets room) taker slot heard (ap is_acked heard_nothing.acknowledgement ∙ none_acked))
