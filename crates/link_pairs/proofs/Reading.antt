-- A packet of one end as the other end reads it, by what its sender holds after it sent that: as it was sent, or it is forged.
use Rattle.std.proofs.Common.{◌≡◌, ◌⊎◌, inl, inr, ℕ, ◌<◌, ◌≤◌, ◌==◌, ◌&&◌, ◌||◌, not, Bool, true, false, List, ◌++◌, length, Option, Some, is_none, is_some, refl, ap, sym, ◌∙◌, subst, arith, if◌then◌else◌}
use Rattle.std.specs.Str.{bytes_eq}
use Rattle.std.proofs.lemmas.Bool.{eqb-true}
use Rattle.std.proofs.lemmas.Slice.Eq.{bytes_eq-Decides}
use Rattle.ack_bit.specs.AckBits.{is_odd}
use Rattle.data_pdu.specs.declared.header.DataHeader.{DataHeader}
use Rattle.data_pdu.specs.Header.{octets_of}
use Rattle.link_model.specs.enc_phase.Phases.{seals}
use Rattle.link_model.specs.enc_phase.Sealing.{EncEnd, is_right, opened_body}
use Rattle.link_model.specs.Setup.{Setup}
use Rattle.link_model.specs.Acknowledgement.{Acknowledgement, Pdu, is_acked}
use Rattle.link_model.specs.Data.{is_empty}
use Rattle.link_model.specs.Facts.{Facts}
use Rattle.link_model.specs.Hearing.{IsOpened, IsUnderstood, air_octets}
use Rattle.link_model.specs.Packets.{counts_here, good_pdu, has_new_pdu, header_sent, is_forged, payload_sent, pdu_read, pdu_read_in, pdu_sent, whole_pdu}
use Rattle.link_model.specs.Payload.{first_octet, opened_if, payload_made, read_pdu}
use Rattle.link_model.specs.Receiving.{facts_hearing}
use Rattle.link_model.proofs.Hearing.{IsHeardWhole}
use Rattle.link_model.proofs.Received.{air_read, facts_heard, has_header, heard_good}
use Rattle.link_pairs.specs.Hearing.{IsPacketOf, is_mixed, reads_other, received}
use Rattle.link_pairs.proofs.Counts.{HasBitsOf}
use Rattle.link_pairs.proofs.HasSent.{HasSent}
use Rattle.link_pairs.proofs.WholePackets.{FitsListener, fits, fits_octets, forged_is, llid, longer, made_as, payload_is, sealed, sent, whole}

-- ---- a payload is empty where its PDU is

none_left : (pdu : Pdu) (payload : List ℕ) → is_empty pdu ≡ false → 1 ≤ length payload → is_empty (record { llid = pdu.llid; body = payload }) ≡ true → ⊥
none_left pdu payload some long is = by (pdu.llid == 0) (length pdu.body == 0) (length payload == 0) refl some is
  where
    by : (zero_llid no_body none : Bool) → (length payload == 0) ≡ none → (zero_llid || no_body) ≡ false → (zero_llid || none) ≡ true → ⊥
    by true no_body none at some is = cc
    by false no_body true at some is = omega (arith, long, eqb-true (length payload) 0 at)
    by false no_body false at some is = cc

pub empty_payload : (made : EncEnd) (pdu : Pdu) (payload : List ℕ) → payload ≡ payload_made made pdu
    → is_empty (record { llid = pdu.llid; body = payload }) ≡ true → payload ≡ pdu.body
empty_payload made pdu payload is empty = by (is_empty pdu) (seals made.role made.phase) refl refl
  where
    by : (none seals_it : Bool) → is_empty pdu ≡ none → seals made.role made.phase ≡ seals_it → payload ≡ pdu.body
    by true seals_it at does = is ∙ made_as made pdu true seals_it at does
    by false false at does = is ∙ made_as made pdu false false at does
    by false true at does =
        let as_sealed : payload ≡ sealed made pdu = is ∙ made_as made pdu false true at does in
        let count = longer made pdu in
        absurd (none_left pdu payload at (omega (arith, count, ap (λ (octets : List ℕ). length octets) as_sealed)) empty)

-- ---- these octets are read so, by an end that hears the last PDU of the other

pub record IsRead (to : Setup) (listener : Facts) (slot : ℕ) (octets : List ℕ) (from : Acknowledgement) : Type 0 where
  pub header : DataHeader
  pub bits : HasBitsOf from header
  pub out : is_acked from ≡ false
  pub good : is_some (good_pdu to listener octets) ≡ true
  pub facts : (room : Bool) → received to slot octets room listener ≡ facts_hearing to.link.role slot room header from.last listener

pub mixed_as : (to : Setup) (listener : Facts) (octets : List ℕ) (pdu : Pdu) → is_mixed to listener octets pdu ≡ reads_other listener pdu (good_pdu to listener octets)
unfolding is_mixed
mixed_as to listener octets pdu = refl

good_as : (to : Setup) (listener : Facts) (octets : List ℕ) → good_pdu to listener octets ≡ pdu_read_in listener (whole_pdu to listener octets)
unfolding good_pdu
good_as to listener octets = refl

-- ---- a packet of an end whose last PDU fits its listener

module _ (heard : IsHeardWhole) (from to : Setup) (slot : ℕ) (facts listener : Facts) (channel : ℕ) (octets : List ℕ) (made : EncEnd)
    (fields : from.link.fields ≡ to.link.fields) (is : IsPacketOf from slot facts channel octets) (same : channel ≡ listener.event.channel)
    (last : FitsListener to made facts listener) where
  abbrev header : DataHeader
  header = header_sent is.before

  abbrev air : List ℕ
  air = air_octets is.before

  abbrev payload : List ℕ
  payload = payload_sent is.before

  abbrev pdu : Pdu
  pdu = pdu_sent is.before

  abbrev end : EncEnd
  end = listener.encryption.end

  abbrev fresh : Bool
  fresh = has_new_pdu listener header

  pub two_bits : pdu.llid < 4
  two_bits = llid heard from to slot facts listener channel octets made fields is same last

  was_sent : HasSent is.before facts
  was_sent = sent heard from to slot facts listener channel octets made fields is same last

  pub payload_made_so : payload ≡ payload_made made pdu
  payload_made_so = payload_is heard from to slot facts listener channel octets made fields is same last

  -- it is opened where it is new and not empty
  pub counts_as : counts_here listener air ≡ (fresh && not (is_empty (record { llid = pdu.llid; body = payload })))
  counts_as =
      λ i. has_new_pdu listener ((has_header is.before listener two_bits payload).read i) && not (is_empty (air_read is.before listener two_bits i))

  pub unopened : counts_here listener air ≡ false → IsOpened is.before listener
  unopened none =
      ap (λ (b : Bool). read_pdu b end air) none
      ∙ ap (λ (body : List ℕ). Some (octets_of header ++ body)) (by fresh (is_empty (record { llid = pdu.llid; body = payload })) refl refl (sym counts_as ∙ none))
    where
      by : (b empty : Bool) → fresh ≡ b → is_empty (record { llid = pdu.llid; body = payload }) ≡ empty → (b && not empty) ≡ false
          → payload ≡ (if fresh then pdu.body else payload)
      by false empty at is counts = ap (λ (b : Bool). if b then pdu.body else payload) (sym at)
      by true true at is counts = empty_payload made pdu payload payload_made_so is ∙ ap (λ (b : Bool). if b then pdu.body else payload) (sym at)
      by true false at is counts = absurd (cc)

  abbrev right : Bool
  right = is_right end (first_octet air) payload

  good_is : good_pdu to listener octets ≡ pdu_read listener air
  good_is = good_as to listener octets ∙ ap (pdu_read_in listener) (whole heard from to slot facts listener channel octets made fields is same last)

  -- with this body
  opened_as : counts_here listener air ≡ true → right ≡ true → pdu_read listener air ≡ Some (octets_of header ++ opened_body end payload)
  opened_as counts holds = (λ i. read_pdu (counts i) end air) ∙ ap (λ (b : Bool). opened_if b end air) holds

  fresh_then : (empty : Bool) → (fresh && not empty) ≡ true → fresh ≡ true
  fresh_then empty = by fresh empty
    where
      by : (b empty : Bool) → (b && not empty) ≡ true → b ≡ true
      by true empty is = refl
      by false empty is = absurd (cc)

  is_fresh : counts_here listener air ≡ true → fresh ≡ true
  is_fresh counts = fresh_then (is_empty (record { llid = pdu.llid; body = payload })) (sym counts_as ∙ counts)

  not_other : (b : Bool) → not b ≡ false → b ≡ true
  not_other true is = refl
  not_other false is = absurd (cc)

  -- that is the one that was sent, unless it is mixed
  same_body : is_mixed to listener octets facts.acknowledgement.last ≡ false → counts_here listener air ≡ true → right ≡ true
      → opened_body end payload ≡ pdu.body
  same_body none counts holds =
      let read = opened_body end payload in
      let other =
      sym (mixed_as to listener octets facts.acknowledgement.last
      ∙ ap (reads_other listener facts.acknowledgement.last) (good_is ∙ opened_as counts holds)
      ∙ (λ i. has_new_pdu listener ((has_header is.before listener two_bits read).read i) && not (bytes_eq read (was_sent.last i).body))
      ∙ ap (λ (b : Bool). b && not (bytes_eq read pdu.body)) (is_fresh counts)) ∙ none in
      (bytes_eq-Decides read pdu.body).0 (not_other (bytes_eq read pdu.body) other)

  opened_same : is_mixed to listener octets facts.acknowledgement.last ≡ false → counts_here listener air ≡ true → right ≡ true → IsOpened is.before listener
  opened_same none counts holds =
      opened_as counts holds
      ∙ (λ i. Some (octets_of header ++ same_body none counts holds i))
      ∙ ap (λ (b : Bool). Some (octets_of header ++ (if b then pdu.body else payload))) (sym (is_fresh counts))

  forged_here : counts_here listener air ≡ true → right ≡ false → is_forged to listener octets ≡ true
  forged_here counts wrong =
      forged_is heard from to slot facts listener channel octets made fields is same last
      ∙ (λ i. is_none (read_pdu (counts i) end air)) ∙ ap (λ (b : Bool). is_none (opened_if b end air)) wrong

  pub opened_or : is_mixed to listener octets facts.acknowledgement.last ≡ false → IsOpened is.before listener ⊎ (is_forged to listener octets ≡ true)
  opened_or none = by (counts_here listener air) right refl refl
    where
      by : (counts holds : Bool) → counts_here listener air ≡ counts → right ≡ holds → IsOpened is.before listener ⊎ (is_forged to listener octets ≡ true)
      by false holds at wrong = inl (unopened at)
      by true true at same = inl (opened_same none at same)
      by true false at wrong = inr (forged_here at wrong)

  -- ---- what its listener holds then

  pub understood : IsOpened is.before listener → IsUnderstood from is.before to listener
  understood opens =
      record {
        fields = fields;
        channel = sym is.on_channel ∙ same;
        llid = two_bits;
        octets = fits_octets heard from to slot facts listener channel octets made fields is same last;
        fits = fits heard from to slot facts listener channel octets made fields is same last;
        opens = opens;
      }

  pub bits_heard : HasBitsOf facts.acknowledgement header
  bits_heard = (ap is_odd (sym was_sent.acked), ap (λ (pdus : List Pdu). is_odd (length pdus)) (sym was_sent.accepted))

  pub is_read : IsOpened is.before listener → IsRead to listener slot octets facts.acknowledgement
  is_read opens =
      record {
        header = header;
        bits = bits_heard;
        out = was_sent.out;
        good =
            subst (λ (o : List ℕ). is_some (good_pdu to listener o) ≡ true) (sym is.packet)
            (ap (λ (o : Option (List ℕ)). is_some o) (heard_good heard from to is.before listener (understood opens)));
        facts =
            λ room. ap (λ (o : List ℕ). received to slot o room listener) is.packet
            ∙ facts_heard heard from to is.before listener (understood opens) slot room
            ∙ ap (λ (x : Pdu). facts_hearing to.link.role slot room header x listener) (sym was_sent.last);
      }

  pub read_or_forged : is_mixed to listener octets facts.acknowledgement.last ≡ false
      → IsRead to listener slot octets facts.acknowledgement ⊎ (is_forged to listener octets ≡ true)
  read_or_forged none = by (opened_or none)
    where
      by : IsOpened is.before listener ⊎ (is_forged to listener octets ≡ true) → IsRead to listener slot octets facts.acknowledgement ⊎ (is_forged to listener octets ≡ true)
      by (inl opens) = inl (is_read opens)
      by (inr wrong) = inr wrong
