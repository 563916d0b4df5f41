-- A packet of one end whose last PDU fits the other end is whole there: it is read, or it is forged.
use Rattle.std.proofs.Common.{◌≡◌, ◌⊎◌, inl, inr, ℕ, suc, ◌+◌, ◌<◌, ◌≤◌, ◌==◌, ◌&&◌, ◌||◌, not, Bool, true, false, List, length, Some, is_none, refl, sym, ap, ◌∙◌, subst, arith, if◌then◌else◌}
use Rattle.std.proofs.lemmas.Bool.{eqb-true, le-leb}
use Rattle.ble_base.specs.declared.verdicts.Verdict.TheVariants.{Broken, Forged, Good}
use Rattle.air_frame.specs.declared.Heard.TheVariants.{Whole}
use Rattle.air_frame.specs.Hearing.{heard_in}
use Rattle.ccm_link.specs.Ccm.{sealed_payload}
use Rattle.ccm_link.specs.Payload.{additional_data, nonce}
use Rattle.ccm_link.proofs.Sealing.{length-sealed_payload}
use Rattle.link_model.specs.enc_phase.Phases.{is_central, seals}
use Rattle.link_model.specs.enc_phase.Sealing.{EncEnd}
use Rattle.link_model.specs.Setup.{Setup}
use Rattle.link_model.specs.Acknowledgement.{Pdu}
use Rattle.link_model.specs.Data.{is_empty}
use Rattle.link_model.specs.Facts.{Facts}
use Rattle.link_model.specs.Hearing.{air_octets}
use Rattle.link_model.specs.Packets.{FitsReceiver, heard_of, is_forged, is_forged_in, is_forged_pdu, packet_sent, payload_sent, pdu_read, pdu_sent, verdict_of, whole_pdu}
use Rattle.link_model.specs.Payload.{opens_now, payload_made}
use Rattle.link_model.specs.Verdicts.{code_octets, has_room_for, pdu_by, pdu_of, verdict_by, whole_in}
use Rattle.link_model.proofs.Hearing.{IsHeardWhole}
use Rattle.link_model.proofs.Received.{air_read, in_form}
use Rattle.link_pairs.specs.Hearing.{IsPacketOf}
use Rattle.link_pairs.proofs.HasSent.{HasSent, sent_packet}

-- ---- the last PDU of an end, as its listener stands to it

-- it was made with this session, and fits its listener: where it is sealed, that expects an integrity code, or has room for
-- four octets more
pub record FitsListener (to : Setup) (made : EncEnd) (sender listener : Facts) : Type 0 where
  pub payload : sender.outgoing.payload ≡ payload_made made sender.acknowledgement.last
  pub two_bits : sender.acknowledgement.last.llid < 4
  pub fits_any : length sender.acknowledgement.last.body ≤ 251
  pub short : length sender.acknowledgement.last.body ≤ to.link.max_rx
  pub code :
      is_empty sender.acknowledgement.last ≡ false → seals made.role made.phase ≡ true
      → (opens_now listener.encryption.end ≡ true) ⊎ (length sender.acknowledgement.last.body + 4 ≤ to.link.max_rx)

-- ---- how long a payload is

module _ (made : EncEnd) (pdu : Pdu) where
  abbrev pub sealed : List ℕ
  sealed = sealed_payload made.key (nonce made.sent (is_central made.role) made.iv) (additional_data pdu.llid) pdu.body

  pub made_as : (empty seals_it : Bool) → is_empty pdu ≡ empty → seals made.role made.phase ≡ seals_it
      → payload_made made pdu ≡ (if empty then pdu.body else (if seals_it then sealed else pdu.body))
  made_as empty seals_it is does = λ i. if is i then pdu.body else (if does i then sealed else pdu.body)

  pub longer : length sealed ≡ length pdu.body + 4
  longer = length-sealed_payload made.key (nonce made.sent (is_central made.role) made.iv) (additional_data pdu.llid) pdu.body

  at_most : (empty seals_it : Bool) → length (if empty then pdu.body else (if seals_it then sealed else pdu.body)) ≤ length pdu.body + 4
  at_most true seals_it = omega arith
  at_most false true = omega (arith, longer)
  at_most false false = omega arith

  pub made_short : length (payload_made made pdu) ≤ length pdu.body + 4
  made_short = at_most (is_empty pdu) (seals made.role made.phase)

  fits_by : (most : ℕ) (end : EncEnd) → length pdu.body ≤ most
      → (is_empty pdu ≡ false → seals made.role made.phase ≡ true → (opens_now end ≡ true) ⊎ (length pdu.body + 4 ≤ most))
      → (empty seals_it : Bool) → is_empty pdu ≡ empty → seals made.role made.phase ≡ seals_it
      → length (if empty then pdu.body else (if seals_it then sealed else pdu.body)) ≤ most + code_octets (opens_now end) pdu
  fits_by most end short code true seals_it is does = omega (arith, short)
  fits_by most end short code false false is does = omega (arith, short)
  fits_by most end short code false true is does = by (code is does)
    where
      by : (opens_now end ≡ true) ⊎ (length pdu.body + 4 ≤ most) → length sealed ≤ most + code_octets (opens_now end) pdu
      by (inl opens) =
          let four : code_octets (opens_now end) pdu ≡ 4 = λ i. if opens i && not (is i) then 4 else 0 in
          omega (arith, short, longer, four)
      by (inr room) = omega (arith, longer, room)

-- ---- the octets are the packet of the sender, on the channel of the listener

-- a payload that fits as that of its PDU fits as it is
abbrev code_if : Bool → Bool → ℕ
code_if opens empty = if opens && not empty then 4 else 0

fits_on_air : (most count : ℕ) (opens no_llid no_body none : Bool) → (count == 0) ≡ none
    → count ≤ most + code_if opens (no_llid || no_body) → count ≤ most + code_if opens (no_llid || none)
fits_on_air most count false no_llid no_body none is fits = fits
fits_on_air most count true true no_body none is fits = fits
fits_on_air most count true false no_body true is fits = let nothing = eqb-true count 0 is in omega (arith, nothing)
fits_on_air most count true false true false is fits = omega (arith, fits)
fits_on_air most count true false false false is fits = fits

module _ (heard : IsHeardWhole) (from to : Setup) (slot : ℕ) (facts listener : Facts) (channel : ℕ) (octets : List ℕ) (made : EncEnd)
    (fields : from.link.fields ≡ to.link.fields) (is : IsPacketOf from slot facts channel octets) (same : channel ≡ listener.event.channel)
    (last : FitsListener to made facts listener) where
  abbrev before : Facts
  before = is.before

  pub sent : HasSent is.before facts
  sent = sent_packet from slot facts channel octets is

  pub payload_is : payload_sent is.before ≡ payload_made made (pdu_sent is.before)
  payload_is = sym sent.payload ∙ last.payload ∙ ap (payload_made made) sent.last

  pub llid : (pdu_sent is.before).llid < 4
  llid = subst (λ (pdu : Pdu). pdu.llid < 4) sent.last last.two_bits

  pub fits_octets : length (payload_sent is.before) ≤ 255
  fits_octets =
      let short = subst (λ (pdu : Pdu). length pdu.body ≤ 251) sent.last last.fits_any in
      let most = made_short made (pdu_sent is.before) in
      omega (arith, short, most, ap (λ (octets : List ℕ). length octets) payload_is)

  pub fits : FitsReceiver is.before to listener
  fits =
      let pdu = pdu_sent is.before in
      let end = listener.encryption.end in
      subst (λ (payload : List ℕ). length payload ≤ to.link.max_rx + code_octets (opens_now end) pdu) (sym payload_is)
      (fits_by made pdu to.link.max_rx end (subst (λ (pdu : Pdu). length pdu.body ≤ to.link.max_rx) sent.last last.short)
      (subst
      (λ (pdu : Pdu). is_empty pdu ≡ false → seals made.role made.phase ≡ true → (opens_now end ≡ true) ⊎ (length pdu.body + 4 ≤ to.link.max_rx))
      sent.last last.code)
      (is_empty pdu) (seals made.role made.phase) refl refl)

  heard_whole : heard_of to listener octets ≡ Whole (record { items = air_octets is.before })
  unfolding packet_sent
  heard_whole =
      (λ i. heard_in (sym same i) ((sym fields i).access) ((sym fields i).crc_init) (is.packet i))
      ∙ ap (λ (on : ℕ). heard_in on from.link.fields.access from.link.fields.crc_init (packet_sent from is.before)) is.on_channel
      ∙ heard is.before.event.channel from.link.fields.access from.link.fields.crc_init (air_octets is.before) (in_form (length (payload_sent is.before)) fits_octets)

  abbrev opens : Bool
  opens = opens_now listener.encryption.end

  room_for : has_room_for to.link.max_rx opens (air_octets is.before) ≡ true
  room_for =
      let count = length (payload_sent is.before) in
      let code = code_octets opens (pdu_of (air_octets is.before)) in
      let same_code : code_octets opens (record { llid = (pdu_sent is.before).llid; body = payload_sent is.before }) ≡ code =
      ap (code_octets opens) (sym (air_read is.before listener llid)) in
      let enough =
      fits_on_air to.link.max_rx count opens ((pdu_sent is.before).llid == 0) (length (pdu_sent is.before).body == 0) (count == 0) refl fits in
      le-leb (suc (suc count)) (2 + (to.link.max_rx + code)) (omega (arith, enough, same_code))

  pub whole : whole_pdu to listener octets ≡ Some (air_octets is.before)
  unfolding whole_pdu
  whole = ap (whole_in to.link.max_rx opens) heard_whole ∙ ap (λ (b : Bool). pdu_by b (air_octets is.before)) room_for

  pub forged_is : is_forged to listener octets ≡ is_none (pdu_read listener (air_octets is.before))
  unfolding is_forged
  forged_is = ap (is_forged_in listener) whole

  -- so it is good or forged
  pub judged : verdict_of to listener octets ≡ (if is_forged to listener octets then Forged else Good)
  unfolding verdict_of
  judged =
      ap (verdict_by to.link.max_rx opens (is_forged_pdu listener)) heard_whole
      ∙ (λ i. if room_for i then (if is_none (pdu_read listener (air_octets is.before)) then Forged else Good) else Broken)
      ∙ ap (λ (b : Bool). if b then Forged else Good) (sym forged_is)
