-- A packet of one end whose last PDU fits the other end, as that reads it.
use Rattle.std.proofs.Common.{◌≡◌, ◌⊎◌, inl, inr, ◌+◌, ◌≤◌, ◌&&◌, not, ℕ, Bool, true, false, List, length, Option, is_some, refl, ap, sym, ◌∙◌, arith}
use Rattle.ble_base.specs.declared.verdicts.Verdict.TheVariants.{Good}
use Rattle.data_pdu.specs.declared.header.DataHeader.{DataHeader}
use Rattle.link_model.specs.Setup.{Setup}
use Rattle.link_model.specs.Acknowledgement.{Acknowledgement, Pdu, is_acked}
use Rattle.link_model.specs.Data.{is_empty}
use Rattle.link_model.specs.OneLink.{AreInAgreement}
use Rattle.link_model.specs.enc_phase.Phases.{seals}
use Rattle.link_model.specs.enc_phase.Sealing.{EncEnd}
use Rattle.link_model.specs.Payload.{opens_now}
use Rattle.link_model.proofs.Hearing.{IsHeardWhole}
use Rattle.link_model.specs.End.{notes_after}
use Rattle.link_model.specs.Facts.{Facts}
use Rattle.link_model.specs.Hearing.{IsOpened, IsUnderstood}
use Rattle.link_model.specs.Packets.{good_pdu, has_new_pdu, header_sent, is_forged, payload_sent, pdu_sent, verdict_of}
use Rattle.link_model.specs.Receiving.{facts_hearing, notes_hearing}
use Rattle.link_model.specs.Step.{PacketReceived}
use Rattle.link_model.proofs.Received.{facts_heard, heard_good, judged_good, notes_heard}
use Rattle.link_pairs.specs.Hearing.{IsPacketOf, is_mixed, received}
use Rattle.link_pairs.specs.Parting.{HasFittingPdu, IsOpenedOut}
use Rattle.link_pairs.specs.Ways.{IsUnseen}
use Rattle.link_pairs.proofs.Counts.{HasBitsOf, Says, acknowledged_by, says_right, unseen_is_taken}
use Rattle.link_pairs.proofs.HasSent.{HasSent, sent_packet}
use Rattle.link_pairs.proofs.Reading.{bits_heard, counts_as, opened_or, understood, unopened}
use Rattle.link_pairs.proofs.WholePackets.{FitsListener}

-- these octets are read so, by an end that hears the last PDU of the other
pub record AreRead (to : Setup) (listener : Facts) (slot : ℕ) (octets : List ℕ) (from : Acknowledgement) : Type 0 where
  pub header : DataHeader
  pub bits : HasBitsOf from header
  pub out : is_acked from ≡ false
  pub good : is_some (good_pdu to listener octets) ≡ true
  pub judged : verdict_of to listener octets ≡ Good
  pub facts : (room : Bool) → received to slot octets room listener ≡ facts_hearing to.link.role slot room header from.last listener
  pub notes : (room : Bool)
      → notes_after to listener (PacketReceived slot octets room) ≡ notes_hearing to slot room header from.last listener

-- a listener that opens the last PDU of an end expects its integrity code
pub expects : {A : Type 0} (listener made : EncEnd) (facts : Facts) → IsOpenedOut listener made facts → is_acked facts.acknowledgement ≡ false
    → is_empty facts.acknowledgement.last ≡ false → seals made.role made.phase ≡ true → (opens_now listener ≡ true) ⊎ A
expects listener made facts opened out some does = inl (sym (opened.can out some).sealing ∙ does)

-- the last PDU of an end that fits its listener
pub fits_listener : (to : Setup) (made : EncEnd) (sender listener : Facts) → to.link.max_rx ≤ 251 → HasFittingPdu to made sender
    → (is_empty sender.acknowledgement.last ≡ false → seals made.role made.phase ≡ true
    → (opens_now listener.encryption.end ≡ true) ⊎ (length sender.acknowledgement.last.body + 4 ≤ to.link.max_rx))
    → FitsListener to made sender listener
fits_listener to made sender listener most fits code =
    let short = fits.short in
    record { payload = fits.payload; two_bits = fits.two_bits; fits_any = omega (arith, short, most); short = fits.short; code = code }

module _ (whole : IsHeardWhole) (from to : Setup) (slot : ℕ) (facts listener : Facts) (channel : ℕ) (octets : List ℕ) (made : EncEnd)
    (fields : from.link.fields ≡ to.link.fields) (is : IsPacketOf from slot facts channel octets) (same : channel ≡ listener.event.channel)
    (last : FitsListener to made facts listener) where
  sent : HasSent is.before facts
  sent = sent_packet from slot facts channel octets is

  -- it opens what is sealed
  module _ (opens : IsOpened is.before listener) where
    understood_it : IsUnderstood from is.before to listener
    understood_it = understood whole from to slot facts listener channel octets made fields is same last opens

    heard_as : (room : Bool)
        → received to slot octets room listener ≡ facts_hearing to.link.role slot room (header_sent is.before) facts.acknowledgement.last listener
    heard_as room =
        ap (λ (o : List ℕ). received to slot o room listener) is.packet
        ∙ facts_heard whole from to is.before listener understood_it slot room
        ∙ ap (λ (pdu : Pdu). facts_hearing to.link.role slot room (header_sent is.before) pdu listener) (sym sent.last)

    pub are_read : AreRead to listener slot octets facts.acknowledgement
    are_read =
        record {
          header = header_sent is.before;
          bits = bits_heard whole from to slot facts listener channel octets made fields is same last;
          out = sent.out;
          good =
              ap (λ (o : List ℕ). is_some (good_pdu to listener o)) is.packet
              ∙ ap (λ (pdu : Option (List ℕ)). is_some pdu) (heard_good whole from to is.before listener understood_it);
          judged = ap (verdict_of to listener) is.packet ∙ judged_good whole from to is.before listener understood_it;
          facts = heard_as;
          notes =
              λ room. ap (λ (o : List ℕ). notes_after to listener (PacketReceived slot o room)) is.packet
              ∙ notes_heard whole from to is.before listener understood_it slot room
              ∙ ap (λ (pdu : Pdu). notes_hearing to slot room (header_sent is.before) pdu listener) (sym sent.last);
        }

  -- what its listener accepted before is not opened
  module _ (agreed : AreInAgreement listener.acknowledgement facts.acknowledgement) (unseen : IsUnseen facts.acknowledgement listener.acknowledgement) where
    says : Says listener.acknowledgement facts.acknowledgement (acknowledged_by listener.acknowledgement (header_sent is.before))
        (has_new_pdu listener (header_sent is.before))
    says =
        says_right listener.acknowledgement facts.acknowledgement agreed (header_sent is.before)
        (bits_heard whole from to slot facts listener channel octets made fields is same last) sent.out

    none_new : has_new_pdu listener (header_sent is.before) ≡ false
    none_new = by (has_new_pdu listener (header_sent is.before)) refl
      where
        by : (b : Bool) → has_new_pdu listener (header_sent is.before) ≡ b → has_new_pdu listener (header_sent is.before) ≡ false
        by true new = absurd (unseen_is_taken facts.acknowledgement listener.acknowledgement unseen (says.untaken new))
        by false old = old

    pub read_again : AreRead to listener slot octets facts.acknowledgement
    read_again =
        are_read
        (unopened whole from to slot facts listener channel octets made fields is same last
        (counts_as whole from to slot facts listener channel octets made fields is same last
        ∙ ap (λ (b : Bool). b && not (is_empty (record { llid = (pdu_sent is.before).llid; body = payload_sent is.before }))) none_new))

  -- a packet that is not forged, and not read as another
  module _ (pure : is_mixed to listener octets facts.acknowledgement.last ≡ false) (genuine : is_forged to listener octets ≡ false) where
    opened_pure : IsOpened is.before listener
    opened_pure = by (opened_or whole from to slot facts listener channel octets made fields is same last pure)
      where
        by : IsOpened is.before listener ⊎ (is_forged to listener octets ≡ true) → IsOpened is.before listener
        by (inl opens) = opens
        by (inr wrong) = absurd (let never = sym wrong ∙ genuine in cc)

    pub read_pure : AreRead to listener slot octets facts.acknowledgement
    read_pure = are_read opened_pure

    pub understood_pure : IsUnderstood from is.before to listener
    understood_pure = understood_it opened_pure
