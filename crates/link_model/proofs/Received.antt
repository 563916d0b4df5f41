-- A packet of one end, as the other end receives it.
use Rattle.std.proofs.Common.{◌≡◌, ◌<◌, ◌≤◌, ℕ, suc, ◌+◌, ◌==◌, nat_le, Bool, true, false, ◌&&◌, List, ◌++◌, length, Option, Some, refl, ap, sym, ◌∙◌, arith, if◌then◌else◌, not, is_none, ◌||◌, eqb-true}
use Rattle.std.proofs.lemmas.Bool.{le-leb}
use Rattle.std.proofs.lemmas.Bool.Decides.{nat_tests}
use Rattle.ble_base.specs.declared.verdicts.Verdict.TheVariants.{Broken, Forged, Good}
use Rattle.air_frame.specs.declared.Heard.TheVariants.{Whole}
use Rattle.air_frame.specs.Hearing.{heard_in}
use Rattle.data_pdu.specs.Header.{header_in, octets_of}
use Rattle.link_model.specs.Setup.{Setup}
use Rattle.link_model.specs.Acknowledgement.{bits_of, Pdu, Acknowledgement}
use Rattle.link_model.specs.Verdicts.{code_octets, has_room_for, pdu_by, pdu_of, verdict_by, whole_in}
use Rattle.link_model.proofs.Headers.{HasHeader, header_back}
use Rattle.link_model.proofs.Hearing.{IsHeardWhole}
use Rattle.link_model.specs.Facts.{Facts}
use Rattle.link_model.specs.Step.{PacketReceived}
use Rattle.link_model.specs.Packets.{good_pdu, header_sent, heard_of, more_sent, packet_sent, payload_sent, pdu_sent, verdict_of, whole_pdu, pdu_read_in, is_forged, is_forged_pdu, is_forged_in, has_new_pdu}
use Rattle.link_model.specs.Hearing.{IsUnderstood, pdu_heard, pdu_octets, body_read, air_octets}
use Rattle.link_model.specs.Receiving.{facts_hearing, facts_received, notes_hearing, received_notes, facts_before_taking, facts_forged_if, acked_kind, taken_if, acks_control, has_acknowledged, taken_notes, accepts}
use Rattle.link_model.specs.End.{facts_after, notes_after}
use Rattle.link_model.specs.Payload.{opens_now}
use Rattle.ble_base.specs.declared.roles.Role.{Role}
use Rattle.link_model.specs.Entering.{done_notes}
use Rattle.link_model.specs.Data.{is_accepted, is_empty}
use Rattle.ack_bit.specs.AckBits.{is_new}
use Rattle.link_model.proofs.Acknowledging.{ack_before_taking}

module _ (sender listener : Facts) (two_bits : (pdu_sent sender).llid < 4) where
  -- whatever comes after it
  pub has_header : (body : List ℕ) → HasHeader (header_sent sender) (octets_of (header_sent sender) ++ body)
  has_header body =
      header_back (pdu_sent sender).llid (bits_of sender.acknowledgement).nesn (bits_of sender.acknowledgement).sn (more_sent sender)
      (length (payload_sent sender)) body two_bits

  pub header_read : header_in (pdu_octets sender listener) ≡ header_sent sender
  header_read = (has_header (body_read sender listener)).read

  pub body_heard : pdu_of (pdu_octets sender listener) ≡ pdu_heard sender listener
  body_heard = λ i. record { llid = (header_read i).llid; body = body_read sender listener }

  -- as it is on the air
  pub air_read : pdu_of (air_octets sender) ≡ record { llid = (pdu_sent sender).llid; body = payload_sent sender }
  air_read = λ i. record { llid = ((has_header (payload_sent sender)).read i).llid; body = payload_sent sender }

-- ---- it is heard whole

pub in_form : (count : ℕ) → count ≤ 255 → (nat_le 2 (suc (suc count)) && nat_le (suc (suc count)) 257 && (suc (suc count) == 2 + count)) ≡ true
in_form count short = grind (arith, nat_tests)

-- a payload that fits as that of its PDU fits as it is
abbrev code_if : Bool → Bool → ℕ
code_if opens empty = if opens && not empty then 4 else 0

fits_on_air : (most count : ℕ) (opens no_llid no_body none : Bool) → (count == 0) ≡ none
    → count ≤ most + code_if opens (no_llid || no_body) → count ≤ most + code_if opens (no_llid || none)
fits_on_air most count false no_llid no_body none is fits = fits
fits_on_air most count true true no_body none is fits = fits
fits_on_air most count true false no_body true is fits = let nothing = eqb-true count 0 is in omega (arith, nothing)
fits_on_air most count true false true false is fits = omega (arith, fits)
fits_on_air most count true false false false is fits = fits

module _ (whole : IsHeardWhole) (from to : Setup) (sender listener : Facts) (is : IsUnderstood from sender to listener) where
  heard_whole : heard_of to listener (packet_sent from sender) ≡ Whole (record { items = air_octets sender })
  unfolding packet_sent
  heard_whole =
      (λ i. heard_in (sym is.channel i) ((sym is.fields i).access) ((sym is.fields i).crc_init) (packet_sent from sender))
      ∙ whole sender.event.channel from.link.fields.access from.link.fields.crc_init (air_octets sender)
      (in_form (length (payload_sent sender)) is.octets)

  abbrev opens : Bool
  opens = opens_now listener.encryption.end

  room_for : has_room_for to.link.max_rx opens (air_octets sender) ≡ true
  room_for =
      let count = length (payload_sent sender) in
      let code = code_octets opens (pdu_of (air_octets sender)) in
      let same : code_octets opens (record { llid = (pdu_sent sender).llid; body = payload_sent sender }) ≡ code =
      ap (code_octets opens) (sym (air_read sender listener is.llid)) in
      let fits =
      fits_on_air to.link.max_rx count opens ((pdu_sent sender).llid == 0) (length (pdu_sent sender).body == 0)
      (count == 0) refl is.fits in
      le-leb (suc (suc count)) (2 + (to.link.max_rx + code)) (omega (arith, fits, same))

  all_of : whole_pdu to listener (packet_sent from sender) ≡ Some (air_octets sender)
  unfolding whole_pdu
  all_of = ap (whole_in to.link.max_rx opens) heard_whole ∙ ap (λ b. pdu_by b (air_octets sender)) room_for

  pub heard_good : good_pdu to listener (packet_sent from sender) ≡ Some (pdu_octets sender listener)
  unfolding good_pdu
  heard_good = ap (pdu_read_in listener) all_of ∙ is.opens

  pub not_forged : is_forged to listener (packet_sent from sender) ≡ false
  unfolding is_forged
  not_forged = ap (is_forged_in listener) all_of ∙ ap (λ (o : Option (List ℕ)). is_none o) is.opens

  pub judged_good : verdict_of to listener (packet_sent from sender) ≡ Good
  unfolding verdict_of
  judged_good =
      ap (verdict_by to.link.max_rx opens (is_forged_pdu listener)) heard_whole
      ∙ (λ i. if room_for i then (if is_none (is.opens i) then Forged else Good) else Broken)

-- ---- what the listener makes of it

-- a PDU that is not new is not looked at
module _ (sender listener : Facts) (role : Role) (slot : ℕ) (room : Bool) where
  abbrev now : Facts
  now = facts_before_taking role slot (header_sent sender) listener

  accepts_as : (fresh : Bool) → has_new_pdu listener (header_sent sender) ≡ fresh → (pdu : Pdu)
      → accepts room (header_sent sender) pdu now
      ≡ (is_accepted room fresh pdu && (is_empty pdu || not now.leaving.acknowledged))
  accepts_as fresh is pdu =
      ap (λ b. is_accepted room b pdu && (is_empty pdu || not now.leaving.acknowledged))
      (ap (λ (a : Acknowledgement). is_new (bits_of a) (header_sent sender))
      (ack_before_taking role slot (header_sent sender) listener) ∙ is)

  read_as_sent : {X : Type 0} (f : Bool → Pdu → X) → ((pdu other : Pdu) → f false pdu ≡ f false other)
      → f (accepts room (header_sent sender) (pdu_heard sender listener) now) (pdu_heard sender listener)
      ≡ f (accepts room (header_sent sender) (pdu_sent sender) now) (pdu_sent sender)
  read_as_sent f same = by (has_new_pdu listener (header_sent sender)) refl
    where
      by : (fresh : Bool) → has_new_pdu listener (header_sent sender) ≡ fresh
          → f (accepts room (header_sent sender) (pdu_heard sender listener) now) (pdu_heard sender listener)
          ≡ f (accepts room (header_sent sender) (pdu_sent sender) now) (pdu_sent sender)
      by true is =
          ap (λ (pdu : Pdu). f (accepts room (header_sent sender) pdu now) pdu)
          (λ i. record {
            llid = (pdu_sent sender).llid;
            body =
                (if is i then (pdu_sent sender).body else payload_sent sender);
          })
      by false is =
          ap (λ b. f b (pdu_heard sender listener)) (accepts_as false is (pdu_heard sender listener))
          ∙ same (pdu_heard sender listener) (pdu_sent sender)
          ∙ ap (λ b. f b (pdu_sent sender)) (sym (accepts_as false is (pdu_sent sender)))

module _ (whole : IsHeardWhole) (from to : Setup) (sender listener : Facts) (is : IsUnderstood from sender to listener) where
  pub facts_heard : (slot : ℕ) (room : Bool) → facts_after to listener (PacketReceived slot (packet_sent from sender) room)
      ≡ facts_hearing to.link.role slot room (header_sent sender) (pdu_sent sender) listener
  facts_heard slot room =
      let now = facts_before_taking to.link.role slot (header_sent sender) listener in
      (λ i. facts_forged_if (not_forged whole from to sender listener is i)
      (facts_received to.link.role slot room (heard_good whole from to sender listener is i) listener))
      ∙ (λ i. facts_hearing to.link.role slot room (header_read sender listener is.llid i)
      (body_heard sender listener is.llid i) listener)
      ∙ read_as_sent sender listener to.link.role slot room (λ accepted pdu. taken_if accepted pdu slot now)
      (λ pdu other. refl)

  pub notes_heard : (slot : ℕ) (room : Bool) → notes_after to listener (PacketReceived slot (packet_sent from sender) room)
      ≡ notes_hearing to slot room (header_sent sender) (pdu_sent sender) listener
  notes_heard slot room =
      let now = facts_before_taking to.link.role slot (header_sent sender) listener in
      let acked = acked_kind (acks_control (has_acknowledged listener (header_sent sender)) listener) listener in
      ap (λ (pdu : Option (List ℕ)). received_notes to slot room pdu listener)
      (heard_good whole from to sender listener is)
      ∙ (λ i. notes_hearing to slot room (header_read sender listener is.llid i)
      (body_heard sender listener is.llid i) listener)
      ∙ read_as_sent sender listener to.link.role slot room
      (λ accepted pdu. done_notes to.link.handle acked ++ taken_notes to.link.handle accepted pdu slot now)
      (λ pdu other. refl)
