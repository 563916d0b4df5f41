-- What is held of the facts after a good packet was received, part by part.
use Rattle.std.proofs.Common.{◌≡◌, ℕ, ◌+◌, ◌≤◌, Bool, true, false, not, ◌&&◌, ◌||◌, if◌then◌else◌, [], ◌∷◌, length, is_none, refl, ap, sym, ◌∙◌}
use Rattle.std.proofs.lemmas.List.{length-append}
use Rattle.ble_base.specs.declared.roles.Role.{Role}
use Rattle.ble_base.specs.declared.roles.Role.TheVariants.{Central, Peripheral}
use Rattle.ack_bit.specs.AckBits.{acknowledges, is_odd}
use Rattle.ack_bit.proofs.Directions.{odd-next}
use Rattle.data_pdu.specs.declared.header.DataHeader.{DataHeader}
use Rattle.link_model.specs.phased_end.Held.{held_of as keyed_held}
use Rattle.link_model.specs.phased_end.Moves.{lasts}
use Rattle.link_model.specs.phased_end.Taking.{drawn}
use Rattle.link_model.specs.phased_end.enc_phase.declared.facts.PhaseFacts.{PhaseFacts}
use Rattle.link_model.specs.phased_end.enc_phase.declared.facts.PhaseFacts.TheVariants.{Clear, Asked, HalfKeyed, Secure, Pausing, HalfClear}
use Rattle.link_model.specs.phased_end.enc_phase.declared.facts.Transition.TheVariants.{Ask}
use Rattle.link_model.specs.phased_end.enc_phase.Phases.{may_follow, opens, phase_after}
use Rattle.link_model.specs.phased_end.enc_phase.Sealing.{EncEnd}
use Rattle.link_model.specs.phased_end.keyed_control.declared.material.KeyMaterial.{KeyMaterial}
use Rattle.link_model.specs.phased_end.keyed_control.Keyed.{Keyed}
use Rattle.link_model.specs.phased_end.keyed_control.KeyedSteps.{SeesAcknowledged, Takes, TakesData, end_changed, keyed_moved}
use Rattle.keyed_control.specs.phased_control.PhaseChanges.{Moves, Stays}
use Rattle.keyed_control.specs.phased_control.Phased.{asks_again, is_open_now}
use Rattle.link_model.proofs.phased_end.Depending.{step_depends}
use Rattle.link_model.specs.Setup.{Setup}
use Rattle.link_model.specs.Acknowledgement.{Acknowledgement, Pdu, bits_of, is_acked, with_accepted, with_acked}
use Rattle.link_model.specs.Data.{Data, data_acked_if, is_control, is_data, is_empty}
use Rattle.link_model.specs.Payload.{end_accepting}
use Rattle.link_model.specs.Controls.{is_procedure_pdu, read_of}
use Rattle.link_model.specs.Facts.{Facts, keyed_of, with_keyed}
use Rattle.link_model.specs.Receiving.{accepted_if, acknowledged_if, acks_control, answers_with_control as facts_answer, data_taken_if, facts_before_taking, fixed_goes, has_acknowledged, heard_in_slot, is_seen, kept_answered, keyed_acked_if, peer_answered, procedures_answer, procedures_take, procedures_take_if, taken_if}
use Rattle.link_model.specs.Sending.{control_gone_if, takes_leave}
use Rattle.link_end.specs.Held.{Held, held_of}
use Rattle.link_end.specs.Receiving.{answers_with_control, bits_received, control_acked_if, held_accepted_if, held_acked_if, held_before_taking, held_data_if, held_given_if, held_heard, held_taken_if, known_lengths}
use Rattle.link_end.specs.Sending.{held_gone_if}
use Rattle.link_end.proofs.Counting.{acked_heard, counted}
use Rattle.link_end.proofs.Phases.{Agrees, accepted_agrees, given_agrees, heard_agrees}
use Rattle.link_end.proofs.Sent.{gone_if_of}

-- the facts after a counter was taken, or was not
abbrev pub counting : Bool → Facts → Facts
counting counts facts =
    record facts { encryption = record facts.encryption { end = end_accepting counts facts.encryption.end } }

-- ---- a counter may be taken before the last PDU is acknowledged

-- an end that asks for encryption after a pause opens nothing
asks_clear : (role : Role) (phase : PhaseFacts) → may_follow Ask phase ≡ true → opens role (phase_after Ask phase) ≡ false
asks_clear Central Clear may = refl
asks_clear Peripheral Clear may = refl
asks_clear Central (HalfClear kept) may = refl
asks_clear Peripheral (HalfClear kept) may = refl
asks_clear role (Asked after_pause enc_rsp kept) may = absurd cc
asks_clear role HalfKeyed may = absurd cc
asks_clear role Secure may = absurd cc
asks_clear role (Pausing kept) may = absurd cc

ends_changed : (asks counts : Bool) (m : KeyMaterial) (e : EncEnd) → (asks ≡ true → opens e.role (phase_after Ask e.phase) ≡ false)
    → end_changed (if asks then Moves Ask else Stays) m (end_accepting counts e)
    ≡ end_accepting counts (end_changed (if asks then Moves Ask else Stays) m e)
ends_changed false counts m e clear = refl
ends_changed true false m e clear = refl
ends_changed true true m e clear =
    let f = end_changed (Moves Ask) m e in
    ap (λ (b : Bool). record f { opened = (if b then f.opened + 1 else f.opened) }) (sym (clear refl))

asks_may : (pauses may lasts some : Bool) → (pauses && (may && (lasts && some))) ≡ true → may ≡ true
asks_may true true lasts some is = refl
asks_may true false lasts some is = absurd cc
asks_may false may lasts some is = absurd cc

acked_counting : (acked counts : Bool) (k : Keyed) → k.end.phase ≡ k.phased.phase
    → keyed_acked_if acked (record k { end = end_accepting counts k.end })
    ≡ record (keyed_acked_if acked k) { end = end_accepting counts (keyed_acked_if acked k).end }
acked_counting false counts k same = refl
acked_counting true counts k same = by (false || is_none k.phased.control.ends)
  where
    counted_end : EncEnd
    counted_end = end_accepting counts k.end

    l : Keyed
    l = keyed_moved SeesAcknowledged k

    ends : (keyed_moved SeesAcknowledged (record k { end = counted_end })).end ≡ end_accepting counts l.end
    ends =
        ends_changed (asks_again k.phased) counts k.material k.end
        (λ asks. ap (λ (p : PhaseFacts). opens k.end.role (phase_after Ask p)) same
        ∙ asks_clear k.end.role k.phased.phase (asks_may _ (may_follow Ask k.phased.phase) (is_open_now k.phased) _ asks))

    by : (b : Bool)
        → (if b then keyed_moved SeesAcknowledged (record k { end = counted_end }) else record k { end = counted_end })
        ≡ record (if b then l else k) { end = end_accepting counts (if b then l else k).end }
    by true = λ i. record l { end = ends i }
    by false = refl

own_counting : (acked counts : Bool) (facts : Facts) → facts.encryption.end.phase ≡ facts.encryption.phase
    → acknowledged_if acked (counting counts facts) ≡ counting counts (acknowledged_if acked facts)
own_counting acked counts facts same =
    let keyed = acked_counting (acks_control acked facts) counts (keyed_of facts) same in
    λ i. record (with_keyed (keyed i) facts) {
      acknowledgement = (acknowledged_if acked facts).acknowledgement;
      outgoing = (acknowledged_if acked facts).outgoing;
      leaving = (acknowledged_if acked facts).leaving;
    }

gone_counting : (goes counts : Bool) (slot : ℕ) (facts : Facts)
    → control_gone_if goes slot (counting counts facts) ≡ counting counts (control_gone_if goes slot facts)
gone_counting true counts slot facts = refl
gone_counting false counts slot facts = refl

goes_counting : (role : Role) (counts : Bool) (slot : ℕ) (facts : Facts)
    → fixed_goes role slot (counting counts facts) ≡ counting counts (fixed_goes role slot facts)
goes_counting Central counts slot facts = refl
goes_counting Peripheral counts slot facts = gone_counting (takes_leave facts) counts slot facts

pub before_counting : (role : Role) (counts : Bool) (slot : ℕ) (header : DataHeader) (facts : Facts)
    → facts.encryption.end.phase ≡ facts.encryption.phase
    → facts_before_taking role slot header (counting counts facts) ≡ counting counts (facts_before_taking role slot header facts)
before_counting role counts slot header facts same =
    let acked = has_acknowledged facts header in
    let heard = heard_in_slot slot header.md facts in
    ap (fixed_goes role slot) (own_counting acked counts heard same) ∙ goes_counting role counts slot (acknowledged_if acked heard)

-- ---- its last PDU is acknowledged, or is not

acked_bits : (acked : Bool) (ack : Acknowledgement) → bits_received acked false (bits_of ack) ≡ bits_of (with_acked acked ack)
acked_bits true ack = ap (λ bit. record { sn = bit; nesn = is_odd (length ack.accepted) }) (sym (odd-next ack.acked))
acked_bits false ack = refl

acked_control : (acked : Bool) (k : Keyed) → k.end.phase ≡ k.phased.phase → control_acked_if acked (keyed_held k) ≡ keyed_held (keyed_acked_if acked k)
acked_control true k same = sym (step_depends SeesAcknowledged k same)
acked_control false k same = refl

fixed_acked : (acked : Bool) (outgoing : Data) → outgoing.fixed ≡ (data_acked_if acked outgoing).fixed
fixed_acked true outgoing = refl
fixed_acked false outgoing = refl

more_acked : (acked : Bool) (outgoing : Data) → outgoing.more ≡ (data_acked_if acked outgoing).more
more_acked true outgoing = refl
more_acked false outgoing = refl

again_acked : (acked : Bool) (outgoing : Data) → outgoing.more_again ≡ (data_acked_if acked outgoing).more_again
again_acked true outgoing = refl
again_acked false outgoing = refl

payload_acked : (acked : Bool) (outgoing : Data) → outgoing.payload ≡ (data_acked_if acked outgoing).payload
payload_acked true outgoing = refl
payload_acked false outgoing = refl

acked_of : (setup : Setup) (says : Bool) (facts : Facts) → facts.encryption.end.phase ≡ facts.encryption.phase
    → facts.acknowledgement.acked ≤ length facts.acknowledgement.sent → length facts.acknowledgement.sent ≤ facts.acknowledgement.acked + 1
    → let acked = not (is_acked facts.acknowledgement) && says in
    held_acked_if acked (held_of setup facts) ≡ held_of setup (acknowledged_if acked facts)
acked_of setup says facts same low high =
    let ack = facts.acknowledgement in
    let acked = not (is_acked ack) && says in
    λ i. record (held_of setup (acknowledged_if acked facts)) {
      bits = acked_bits acked ack i;
      is_acked = acked_heard says ack (is_acked ack) refl low high i;
      control = acked_control (acked && is_control ack.last) (keyed_of facts) same i;
      fixed = fixed_acked (acked && is_data ack.last) facts.outgoing i;
      more = more_acked (acked && is_data ack.last) facts.outgoing i;
      more_again = again_acked (acked && is_data ack.last) facts.outgoing i;
      payload = payload_acked (acked && is_data ack.last) facts.outgoing i;
    }

-- ---- a control PDU goes as the answer

answers_same : (role : Role) (setup : Setup) (facts : Facts) → answers_with_control role (held_of setup facts) ≡ facts_answer role facts
answers_same Central setup facts = refl
answers_same Peripheral setup facts = refl

pub before_of : (setup : Setup) (slot : ℕ) (header : DataHeader) (facts : Facts) → Agrees setup facts
    → facts.acknowledgement.acked ≤ length facts.acknowledgement.sent → length facts.acknowledgement.sent ≤ facts.acknowledgement.acked + 1
    → held_before_taking slot header (held_heard slot header.md (held_of setup facts))
    ≡ held_of setup (facts_before_taking setup.link.role slot header facts)
before_of setup slot header facts agrees low high =
    let role = setup.link.role in
    let own = acknowledged_if (has_acknowledged facts header) (heard_in_slot slot header.md facts) in
    let says = acknowledges (bits_of facts.acknowledgement) header in
    let acked = acked_of setup says (heard_in_slot slot header.md facts) agrees.phase low high in
    (λ i. held_gone_if (answers_with_control role (acked i)) slot (acked i))
    ∙ ap (λ goes. held_gone_if goes slot (held_of setup own)) (answers_same role setup own)
    ∙ gone_if_of (facts_answer role own) setup slot own (heard_agrees setup slot header facts agrees).phase

-- ---- the new PDU is taken, or is not

accepted_bits : (accepted : Bool) (pdu : Pdu) (ack : Acknowledgement)
    → bits_received false accepted (bits_of ack) ≡ bits_of (with_accepted accepted pdu ack)
accepted_bits true pdu ack =
    ap (λ bit. record { sn = is_odd ack.acked; nesn = bit }) (sym (ap is_odd (length-append ack.accepted (pdu ∷ [])) ∙ odd-next (length ack.accepted)))
accepted_bits false pdu ack = refl

accepted_of : (setup : Setup) (accepted : Bool) (pdu : Pdu) (facts : Facts)
    → held_accepted_if accepted pdu (held_of setup (counting (accepted && not (is_empty pdu)) facts)) ≡ held_of setup (accepted_if accepted pdu facts)
accepted_of setup accepted pdu facts =
    λ i. record (held_of setup (accepted_if accepted pdu facts)) {
      bits = accepted_bits accepted pdu facts.acknowledgement i;
      taken = counted facts.acknowledgement.accepted pdu accepted (is_empty pdu) refl i;
    }

given_of : (takes : Bool) (setup : Setup) (pdu : Pdu) (slot : ℕ) (facts : Facts) → Agrees setup facts
    → held_given_if takes pdu slot (held_of setup facts) ≡ held_of setup (procedures_take_if takes pdu slot facts)
given_of true setup pdu slot facts agrees =
    let control = sym (step_depends (Takes (read_of pdu) slot (drawn facts.encryption.response)) (keyed_of facts) agrees.phase) in
    let before = keyed_held (keyed_of facts) in
    λ i. record (held_of setup (procedures_take pdu slot facts)) {
      control = control i;
      peer =
          peer_answered (lasts (control i)) (is_seen pdu facts) (read_of pdu)
          (kept_answered facts.encryption.kept (control i).kept) facts.peer;
      lengths = known_lengths before (control i) (procedures_answer pdu slot facts) facts.lengths;
    }
given_of false setup pdu slot facts agrees = refl

data_of : (takes : Bool) (setup : Setup) (facts : Facts) → Agrees setup facts
    → held_data_if takes (held_of setup facts) ≡ held_of setup (data_taken_if takes facts)
data_of true setup facts agrees =
    λ i. record (held_of setup (data_taken_if true facts)) { control = sym (step_depends TakesData (keyed_of facts) agrees.phase) i }
data_of false setup facts agrees = refl

pub taken_of : (setup : Setup) (accepted : Bool) (pdu : Pdu) (slot : ℕ) (facts : Facts) → Agrees setup facts
    → held_taken_if accepted pdu slot (held_of setup (counting (accepted && not (is_empty pdu)) facts)) ≡ held_of setup (taken_if accepted pdu slot facts)
taken_of setup accepted pdu slot facts agrees =
    let takes = accepted && is_procedure_pdu pdu in
    let data_too = accepted && is_data pdu in
    let now = accepted_if accepted pdu facts in
    let agrees_now = accepted_agrees setup accepted pdu facts agrees in
    ap (λ (h : Held). held_data_if data_too (held_given_if takes pdu slot h)) (accepted_of setup accepted pdu facts)
    ∙ ap (held_data_if data_too) (given_of takes setup pdu slot now agrees_now)
    ∙ data_of data_too setup (procedures_take_if takes pdu slot now) (given_agrees setup takes pdu slot now agrees_now)
