-- What an end makes of the packet of another end on its channel, in all phases of encryption: it hears nothing that
-- counts, or it reads a PDU with the header that was sent, which is empty just where that was.
use Rattle.std.proofs.Common.{◌≡◌, ◌≤◌, ℕ, suc, ◌+◌, ◌-◌, ◌==◌, ◌&&◌, ◌||◌, ◌⊎◌, inl, inr, nat_le, not, Bool, true, false, List, ◌++◌, Option, Some, None, is_none, take, length, refl, sym, ap, ◌∙◌, arith, if◌then◌else◌}
use Rattle.std.proofs.lemmas.Bool.{and_parts, ne_eqb}
use Rattle.std.proofs.lemmas.Bool.Decides.{nat_tests}
use Rattle.std.proofs.lemmas.List.{length-take-le}
use Rattle.ble_base.specs.declared.verdicts.Verdict.TheVariants.{Broken as IsBroken, Forged, Good}
use Rattle.air_frame.specs.declared.Heard.{Heard}
use Rattle.air_frame.specs.declared.Heard.TheVariants.{Broken, NotOurs, Whole}
use Rattle.air_frame.specs.Hearing.{heard_in}
use Rattle.ccm_link.specs.Ccm.{opened_payload}
use Rattle.ccm_link.specs.Payload.{additional_data, is_genuine, nonce}
use Rattle.ccm_link.proofs.Sealing.{length-ciphertext}
use Rattle.data_pdu.specs.Header.{octets_of}
use Rattle.run_model.specs.link_model.Acknowledgement.{Acknowledgement, Pdu, received_by}
use Rattle.run_model.specs.link_model.Data.{is_empty}
use Rattle.run_model.specs.link_model.End.{facts_after}
use Rattle.run_model.specs.link_model.Facts.{Facts}
use Rattle.run_model.specs.link_model.Hearing.{IsUnderstood, air_octets, body_read}
use Rattle.run_model.specs.link_model.Packets.{good_pdu, has_new_pdu, header_sent, heard_of, is_forged, is_forged_pdu, packet_sent, payload_sent, pdu_read, pdu_read_in, pdu_sent, verdict_of, whole_pdu}
use Rattle.run_model.specs.link_model.Payload.{first_octet, opened_if, opens_now, read_pdu}
use Rattle.run_model.specs.link_model.Receiving.{accepts, facts_before_taking, facts_hearing, facts_received, has_acknowledged}
use Rattle.run_model.specs.link_model.Setup.{Setup}
use Rattle.run_model.specs.link_model.Step.{PacketReceived}
use Rattle.run_model.specs.link_model.Verdicts.{code_octets, has_room_for, pdu_by, pdu_of, verdict_by, whole_in}
use Rattle.run_model.specs.link_model.enc_phase.Phases.{is_central, opens}
use Rattle.run_model.specs.link_model.enc_phase.Sealing.{EncEnd, is_right, opened_body}
use Rattle.run_model.proofs.link_model.Acknowledging.{ack_heard, forged_leaves}
use Rattle.run_model.proofs.link_model.Hearing.{IsHeardWhole}
use Rattle.run_model.proofs.link_model.Received.{air_read, has_header, in_form}
use Rattle.run_laws.specs.Ranges.{IsReadable}
use Rattle.run_laws.specs.Shapes.{IsReadAsSent}
use Rattle.run_laws.proofs.Payloads.{payload_short}

-- ---- a payload that is opened

abbrev with_body : ℕ → List ℕ → Pdu
with_body llid body = record { llid = llid; body = body }

-- a longer body leaves it not empty
some_left : (llid : ℕ) (payload body : List ℕ) → is_empty (with_body llid payload) ≡ false → 1 ≤ length body → is_empty (with_body llid body) ≡ false
some_left llid payload body is some = by (llid == 0) is
  where
    by : (none : Bool) → (none || (length payload == 0)) ≡ false → (none || (length body == 0)) ≡ false
    by true t = absurd cc
    by false t = ne_eqb (length body) 0 (λ none. absurd (omega (arith, some, none)))

opened_long : (key iv payload : List ℕ) → 5 ≤ length payload → 1 ≤ length (opened_payload key iv payload)
unfolding opened_payload
opened_long key iv payload long =
    let most : length payload - 4 ≤ length payload = omega arith in
    omega (arith, long, length-ciphertext key iv (take (length payload - 4) payload), length-take-le (length payload - 4) payload most)

opened_some : (llid : ℕ) (key iv extra payload : List ℕ) (does : Bool) → (if does then is_genuine key iv extra payload else true) ≡ true
    → is_empty (with_body llid payload) ≡ false → is_empty (with_body llid (if does then opened_payload key iv payload else payload)) ≡ false
opened_some llid key iv extra payload false right some = some
opened_some llid key iv extra payload true right some =
    let parts = and_parts (nat_le 5 (length payload)) _ right in
    let fits = parts.0 in
    let long : 5 ≤ length payload = grind (arith, nat_tests) in
    some_left llid payload (opened_payload key iv payload) some (opened_long key iv payload long)

-- ---- it is read with its header

module _ (sender listener : Facts) where
  -- what is read, with its payload opened where it is new and not empty
  pub record IsBody (body : List ℕ) : Type 0 where
    pub empty : is_empty (record { llid = (pdu_sent sender).llid; body = body }) ≡ is_empty (pdu_sent sender)
    pub again : has_new_pdu listener (header_sent sender) ≡ false → body ≡ payload_sent sender

  abbrev pub with_header : List ℕ → List ℕ
  with_header body = octets_of (header_sent sender) ++ body

  record IsRead (read : Option (List ℕ)) : Type 0 where
    body : List ℕ
    is : read ≡ Some (with_header body)
    is_body : IsBody body

  module _ (readable : IsReadable sender) where
    abbrev end : EncEnd
    end = listener.encryption.end

    abbrev llid : ℕ
    llid = (pdu_sent sender).llid

    abbrev payload : List ℕ
    payload = payload_sent sender

    as_it_is : IsBody payload
    as_it_is = record { empty = readable.payload.empty; again = λ old. refl }

    opened : has_new_pdu listener (header_sent sender) ≡ true → is_empty (with_body llid payload) ≡ false → (right : Bool)
        → is_right end (first_octet (air_octets sender)) payload ≡ right
        → (opened_if right end (air_octets sender) ≡ None) ⊎ IsRead (opened_if right end (air_octets sender))
    opened new some false is = inl refl
    opened new some true is = inr (record {
      body = opened_body end payload;
      is = refl;
      is_body = record {
        empty = opened_some llid end.key (nonce end.opened (not (is_central end.role)) end.iv) (additional_data (first_octet (air_octets sender))) payload
            (opens end.role end.phase) is some ∙ sym some ∙ readable.payload.empty;
        again = λ old. absurd (let h : true ≡ false = sym new ∙ old in absurd cc);
      };
    })

    read_by : (new empty : Bool) → has_new_pdu listener (header_sent sender) ≡ new → is_empty (with_body llid payload) ≡ empty
        → (read_pdu (new && not empty) end (air_octets sender) ≡ None) ⊎ IsRead (read_pdu (new && not empty) end (air_octets sender))
    read_by false empty is none = inr (record { body = payload; is = refl; is_body = as_it_is })
    read_by true true is none = inr (record { body = payload; is = refl; is_body = as_it_is })
    read_by true false is none = opened is none (is_right end (first_octet (air_octets sender)) payload) refl

    as_header : pdu_read listener (air_octets sender) ≡ read_pdu (has_new_pdu listener (header_sent sender) && not (is_empty (with_body llid payload))) end (air_octets sender)
    as_header =
        λ i. read_pdu (has_new_pdu listener ((has_header sender listener readable.llid payload).read i) && not (is_empty (air_read sender listener readable.llid i))) end
        (air_octets sender)

    read : (pdu_read listener (air_octets sender) ≡ None) ⊎ IsRead (pdu_read listener (air_octets sender))
    read = by (read_by (has_new_pdu listener (header_sent sender)) (is_empty (with_body llid payload)) refl refl)
      where
        by : (read_pdu (has_new_pdu listener (header_sent sender) && not (is_empty (with_body llid payload))) end (air_octets sender) ≡ None)
            ⊎ IsRead (read_pdu (has_new_pdu listener (header_sent sender) && not (is_empty (with_body llid payload))) end (air_octets sender))
            → (pdu_read listener (air_octets sender) ≡ None) ⊎ IsRead (pdu_read listener (air_octets sender))
        by (inl none) = inl (as_header ∙ none)
        by (inr some) = inr (record { body = some.body; is = as_header ∙ some.is; is_body = some.is_body })

-- ---- it is on the channel of the listener

module _ (whole : IsHeardWhole) (from to : Setup) (sender listener : Facts) (readable : IsReadable sender) (fields : from.link.fields ≡ to.link.fields)
    (channel : sender.event.channel ≡ listener.event.channel) where
  heard_whole : heard_of to listener (packet_sent from sender) ≡ Whole (record { items = air_octets sender })
  unfolding packet_sent
  heard_whole =
      (λ i. heard_in (sym channel i) ((sym fields i).access) ((sym fields i).crc_init) (packet_sent from sender))
      ∙ whole sender.event.channel from.link.fields.access from.link.fields.crc_init (air_octets sender)
      (in_form (length (payload_sent sender)) (payload_short sender readable))

  abbrev opens_it : Bool
  opens_it = opens_now listener.encryption.end

  abbrev has_room : Bool
  has_room = has_room_for to.link.max_rx opens_it (air_octets sender)

  all_of : whole_pdu to listener (packet_sent from sender) ≡ pdu_by has_room (air_octets sender)
  unfolding whole_pdu
  all_of = ap (whole_in to.link.max_rx opens_it) heard_whole

  good_by : good_pdu to listener (packet_sent from sender) ≡ pdu_read_in listener (pdu_by has_room (air_octets sender))
  unfolding good_pdu
  good_by = ap (pdu_read_in listener) all_of

  -- it is good, with this body
  pub record IsGoodWith (body : List ℕ) : Type 0 where
    pub good : good_pdu to listener (packet_sent from sender) ≡ Some (with_header sender listener body)
    pub is_body : IsBody sender listener body
    pub read : pdu_read listener (air_octets sender) ≡ Some (with_header sender listener body)
    pub room : has_room ≡ true

  pub record IsGood : Type 0 where
    pub body : List ℕ
    pub is : IsGoodWith body

  pub good_or_not : (good_pdu to listener (packet_sent from sender) ≡ None) ⊎ IsGood
  good_or_not = by has_room refl
    where
      of : has_room ≡ true
          → (pdu_read listener (air_octets sender) ≡ None) ⊎ IsRead sender listener (pdu_read listener (air_octets sender))
          → (good_pdu to listener (packet_sent from sender) ≡ None) ⊎ IsGood
      of room (inl none) = inl (good_by ∙ ap (λ b. pdu_read_in listener (pdu_by b (air_octets sender))) room ∙ none)
      of room (inr some) = inr (record {
        body = some.body;
        is = record {
          good = good_by ∙ ap (λ b. pdu_read_in listener (pdu_by b (air_octets sender))) room ∙ some.is;
          is_body = some.is_body;
          read = some.is;
          room = room;
        };
      })

      by : (room : Bool) → has_room ≡ room → (good_pdu to listener (packet_sent from sender) ≡ None) ⊎ IsGood
      by false none = inl (good_by ∙ ap (λ b. pdu_read_in listener (pdu_by b (air_octets sender))) none)
      by true room = of room (read sender listener readable)

  -- ---- what the listener holds after it

  abbrev ack_after : ℕ → Bool → Acknowledgement
  ack_after slot room = (facts_after to listener (PacketReceived slot (packet_sent from sender) room)).acknowledgement

  ack_of_good : (slot : ℕ) (room : Bool) → ack_after slot room
      ≡ (facts_received to.link.role slot room (good_pdu to listener (packet_sent from sender)) listener).acknowledgement
  ack_of_good slot room =
      forged_leaves (is_forged to listener (packet_sent from sender))
      (facts_received to.link.role slot room (good_pdu to listener (packet_sent from sender)) listener)

  pub unread_leaves : (slot : ℕ) (room : Bool) → good_pdu to listener (packet_sent from sender) ≡ None → ack_after slot room ≡ listener.acknowledgement
  unread_leaves slot room none =
      ack_of_good slot room ∙ ap (λ o. (facts_received to.link.role slot room o listener).acknowledgement) none

  pub good_counts : (slot : ℕ) (room : Bool) (body : List ℕ) → IsGoodWith body
      → let pdu : Pdu = record { llid = (pdu_sent sender).llid; body = body } in ack_after slot room
      ≡ received_by (has_acknowledged listener (header_sent sender))
      (accepts room (header_sent sender) pdu (facts_before_taking to.link.role slot (header_sent sender) listener)) pdu listener.acknowledgement
  good_counts slot room body is =
      let header = (has_header sender listener readable.llid body).read in
      ack_of_good slot room ∙ ap (λ o. (facts_received to.link.role slot room o listener).acknowledgement) is.good
      ∙ (λ i. (facts_hearing to.link.role slot room (header i) (record { llid = (header i).llid; body = body }) listener).acknowledgement)
      ∙ ack_heard to.link.role slot room (header_sent sender) (record { llid = (pdu_sent sender).llid; body = body }) listener

  -- ---- it understands what it reads as it was sent

  body_is : (body : List ℕ) → IsGoodWith body → IsReadAsSent to listener sender (packet_sent from sender) → body ≡ body_read sender listener
  body_is body is as_sent = by (has_new_pdu listener (header_sent sender)) refl
    where
      by : (new : Bool) → has_new_pdu listener (header_sent sender) ≡ new → body ≡ (if new then (pdu_sent sender).body else payload_sent sender)
      by true new =
          as_sent (with_header sender listener body) is.good (ap (has_new_pdu listener) (has_header sender listener readable.llid body).read ∙ new)
      by false old = is.is_body.again old

  fits : has_room ≡ true → length (payload_sent sender) ≤ to.link.max_rx + code_octets opens_it (pdu_sent sender)
  fits room =
      let code : code_octets opens_it (pdu_of (air_octets sender)) ≡ code_octets opens_it (pdu_sent sender) =
      ap (code_octets opens_it) (air_read sender listener readable.llid)
      ∙ ap (λ e. if opens_it && not e then 4 else 0) readable.payload.empty in
      let within : suc (suc (length (payload_sent sender))) ≤ 2 + (to.link.max_rx + code_octets opens_it (pdu_of (air_octets sender))) =
      grind (arith, nat_tests) in
      omega (arith, within, code)

  pub understood : (body : List ℕ) → IsGoodWith body → IsReadAsSent to listener sender (packet_sent from sender) → IsUnderstood from sender to listener
  understood body is as_sent = record {
    fields = fields;
    channel = channel;
    llid = readable.llid;
    octets = payload_short sender readable;
    fits = fits is.room;
    opens = is.read ∙ ap (λ (xs : List ℕ). Some (with_header sender listener xs)) (body_is body is as_sent);
  }

-- ---- a packet that is judged good is read

pub good_is_read : (to : Setup) (listener : Facts) (octets : List ℕ) → verdict_of to listener octets ≡ Good → good_pdu to listener octets ≡ None → ⊥
unfolding good_pdu verdict_of whole_pdu
good_is_read to listener octets = by (heard_of to listener octets)
  where
    does_open : Bool
    does_open = opens_now listener.encryption.end

    of : (found : Option (List ℕ)) → (if is_none found then Forged else Good) ≡ Good → found ≡ None → ⊥
    of None good none = absurd cc
    of (Some pdu) good none = absurd cc

    at : (fits : Bool) (pdu : List ℕ) → (if fits then (if is_forged_pdu listener pdu then Forged else Good) else IsBroken) ≡ Good
        → pdu_read_in listener (pdu_by fits pdu) ≡ None → ⊥
    at true pdu good none = of (pdu_read listener pdu) good none
    at false pdu good none = absurd cc

    by : (heard : Heard) → verdict_by to.link.max_rx does_open (is_forged_pdu listener) heard ≡ Good
        → pdu_read_in listener (whole_in to.link.max_rx does_open heard) ≡ None → ⊥
    by NotOurs good none = absurd cc
    by Broken good none = absurd cc
    by (Whole pdu) good none = at (has_room_for to.link.max_rx does_open pdu.items) pdu.items good none

module _ (whole : IsHeardWhole) (from to : Setup) (sender listener : Facts) (readable : IsReadable sender) (fields : from.link.fields ≡ to.link.fields)
    (channel : sender.event.channel ≡ listener.event.channel) (good : verdict_of to listener (packet_sent from sender) ≡ Good) where
  pub read_good : IsGood whole from to sender listener readable fields channel
  read_good = by (good_or_not whole from to sender listener readable fields channel)
    where
      by : (good_pdu to listener (packet_sent from sender) ≡ None) ⊎ IsGood whole from to sender listener readable fields channel
          → IsGood whole from to sender listener readable fields channel
      by (inl none) = absurd (good_is_read to listener (packet_sent from sender) good none)
      by (inr is) = is

-- ---- its PDU

module _ (sender listener : Facts) (readable : IsReadable sender) (body : List ℕ) where
  pub pdu_with_header : pdu_of (with_header sender listener body) ≡ record { llid = (pdu_sent sender).llid; body = body }
  pdu_with_header = λ i. record { llid = ((has_header sender listener readable.llid body).read i).llid; body = body }
