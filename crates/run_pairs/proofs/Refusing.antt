-- A peripheral that answers a request of its peer, or one for a key, between a packet that it receives and its own packet.
use Rattle.std.proofs.Common.{◌≡◌, ◌&&◌, ℕ, not, Result, Bool, true, false, List, Option, Some, None, is_none, is_some, refl, ap, sym, ◌∙◌, if◌then◌else◌}
use Rattle.ble_base.specs.declared.error_codes.ErrCode.{ErrCode}
use Rattle.ble_base.specs.declared.roles.Role.{Role}
use Rattle.ble_base.specs.declared.roles.Role.TheVariants.{Central, Peripheral}
use Rattle.data_pdu.specs.declared.header.DataHeader.{DataHeader}
use Rattle.data_pdu.specs.Header.{header_in}
use Rattle.link_runs.specs.procedure_values.declared.asks.Ask.{Ask}
use Rattle.link_calls.specs.link_model.Acknowledgement.{Pdu, is_acked}
use Rattle.link_calls.specs.link_model.Facts.{Facts, keyed_of, with_keyed}
use Rattle.link_calls.specs.link_model.Hosts.{ends_without_key, facts_answered, facts_key_answered, leaving_from_if}
use Rattle.link_calls.specs.link_model.Payload.{end_sending, payload_made}
use Rattle.link_calls.specs.link_model.enc_phase.declared.facts.PhaseFacts.{PhaseFacts}
use Rattle.link_calls.specs.link_model.enc_phase.declared.facts.PhaseFacts.TheVariants.{Asked, Clear, HalfClear, HalfKeyed, Pausing, Secure}
use Rattle.link_calls.specs.link_model.enc_phase.declared.facts.Transition.TheVariants.{Refuse}
use Rattle.link_calls.specs.link_model.enc_phase.Phases.{phase_after, seals}
use Rattle.link_calls.specs.link_model.enc_phase.Sealing.{EncEnd, clear_end, sent_payload}
use Rattle.link_calls.specs.link_model.phased_control.Phased.{Phased, is_open_now}
use Rattle.link_calls.specs.link_model.phased_control.PhaseChanges.{Change, Moves, Stays, moves_if}
use Rattle.link_calls.specs.link_model.phased_control.Taken.{phased_moved, LacksKey as phased_lacks_key}
use Rattle.link_calls.specs.link_model.keyed_control.Keyed.{Keyed}
use Rattle.link_calls.specs.link_model.keyed_control.declared.material.KeyMaterial.{KeyMaterial}
use Rattle.link_calls.specs.link_model.keyed_control.KeyedSteps.{LacksKey, end_changed, keyed_moved}
use Rattle.link_calls.specs.link_model.Packets.{good_pdu, is_forged}
use Rattle.link_calls.specs.link_model.Receiving.{accepted_if, accepts, acknowledged_if, data_taken_if, facts_before_taking, facts_forged_if, facts_hearing, facts_received, has_acknowledged, heard_in_slot, procedures_take_if, replies_by, replies_of}
use Rattle.link_calls.specs.link_model.Sending.{control_gone_if, data_sent_as, facts_sent, fixed_sent, leaving_sent, seals_new, takes_leave}
use Rattle.link_calls.specs.link_model.Setup.{Setup}
use Rattle.link_calls.specs.link_model.Controls.{is_procedure_pdu}
use Rattle.link_calls.specs.link_model.Data.{is_data, is_empty}
use Rattle.link_calls.specs.link_model.Verdicts.{pdu_of}
use Rattle.link_runs.specs.link_pairs.Hearing.{received}
use Rattle.link_runs.proofs.link_pairs.Items.{never}

-- after a good packet no control PDU leaves the queue of a peripheral
gone_stays : (goes : Bool) (slot : ℕ) (facts : Facts) → takes_leave facts ≡ goes → takes_leave (control_gone_if goes slot facts) ≡ false
gone_stays true slot facts is = never (is_acked facts.acknowledgement)
gone_stays false slot facts is = is

procedures_stay : (takes : Bool) (pdu : Pdu) (slot : ℕ) (facts : Facts) → takes_leave (procedures_take_if takes pdu slot facts) ≡ takes_leave facts
procedures_stay true pdu slot facts = refl
procedures_stay false pdu slot facts = refl

data_stays : (takes : Bool) (facts : Facts) → takes_leave (data_taken_if takes facts) ≡ takes_leave facts
data_stays true facts = refl
data_stays false facts = refl

forged_stays : (forged : Bool) (facts : Facts) → takes_leave (facts_forged_if forged facts) ≡ takes_leave facts
forged_stays true facts = refl
forged_stays false facts = refl

hearing_stays : (slot : ℕ) (room : Bool) (header : DataHeader) (pdu : Pdu) (facts : Facts) → takes_leave (facts_hearing Peripheral slot room header pdu facts) ≡ false
hearing_stays slot room header pdu facts =
    let acked = acknowledged_if (has_acknowledged facts header) (heard_in_slot slot header.md facts) in
    let now = facts_before_taking Peripheral slot header facts in
    let accepted = accepts room header pdu now in
    data_stays (accepted && is_data pdu) (procedures_take_if (accepted && is_procedure_pdu pdu) pdu slot (accepted_if accepted pdu now))
    ∙ procedures_stay (accepted && is_procedure_pdu pdu) pdu slot (accepted_if accepted pdu now) ∙ gone_stays (takes_leave acked) slot acked refl

-- what it sends then is fixed already
sent_fixed : (leaves : Bool) (slot : ℕ) (facts : Facts) → leaves ≡ false → fixed_sent slot (control_gone_if leaves slot facts) ≡ fixed_sent slot facts
sent_fixed false slot facts is = refl
sent_fixed true slot facts is = absurd (cc)

-- to answer the request first changes nothing of what it sends
pub refused_first : (slot : ℕ) (answer : Result Ask ErrCode) (facts : Facts) → takes_leave facts ≡ false
    → facts_sent slot (facts_answered answer facts) ≡ facts_answered answer (facts_sent slot facts)
refused_first slot answer facts stays =
    let asked = facts_answered answer facts in
    sent_fixed (takes_leave asked) slot asked stays
    ∙ sym (ap (λ (f : Facts). facts_answered answer f) (sent_fixed (takes_leave facts) slot facts stays))

-- ---- so does an answer to a request for a key

-- an end that leaves the phase in which it was asked sealed nothing in it, and seals nothing after it
record SealsAlike (counts : Bool) (change : Change) (material : KeyMaterial) (e : EncEnd) : Type 0 where
  made : (pdu : Pdu) → payload_made (end_changed change material e) pdu ≡ payload_made e pdu
  sending : end_sending counts (end_changed change material e) ≡ end_changed change material (end_sending counts e)

stays_alike : (counts : Bool) (material : KeyMaterial) (e : EncEnd) → SealsAlike counts Stays material e
stays_alike counts material e = record { made = λ pdu. refl; sending = refl }

seals_none : (role : Role) (after_pause enc_rsp kept : Bool) → seals role (Asked after_pause enc_rsp kept) ≡ false
seals_none Central after_pause enc_rsp kept = refl
seals_none Peripheral after_pause enc_rsp kept = refl

seals_none_clear : (role : Role) → seals role Clear ≡ false
seals_none_clear Central = refl
seals_none_clear Peripheral = refl

if_not : {A : Type 0} (b : Bool) (one other : A) → b ≡ false → (if b then one else other) ≡ other
if_not b one other is = ap (λ (b : Bool). if b then one else other) is

refused_alike : (counts : Bool) (material : KeyMaterial) (e : EncEnd) (after_pause enc_rsp kept : Bool) → e.phase ≡ Asked after_pause enc_rsp kept
    → SealsAlike counts (Moves Refuse) material e
refused_alike counts material e after_pause enc_rsp kept is = record {
  made = λ pdu. by (is_empty pdu) pdu;
  sending = sends counts;
}
  where
    clear : seals e.role (phase_after Refuse e.phase) ≡ false
    clear = ap (λ (phase : PhaseFacts). seals e.role (phase_after Refuse phase)) is ∙ seals_none_clear e.role

    asked_none : seals e.role e.phase ≡ false
    asked_none = ap (seals e.role) is ∙ seals_none e.role after_pause enc_rsp kept

    by : (empty : Bool) (pdu : Pdu) → (if empty then pdu.body else sent_payload (end_changed (Moves Refuse) material e) pdu.llid pdu.body)
        ≡ (if empty then pdu.body else sent_payload e pdu.llid pdu.body)
    by true pdu = refl
    by false pdu =
        if_not (seals e.role (phase_after Refuse e.phase)) _ pdu.body clear ∙ sym (if_not (seals e.role e.phase) _ pdu.body asked_none)

    sends : (b : Bool) → end_sending b (end_changed (Moves Refuse) material e) ≡ end_changed (Moves Refuse) material (end_sending b e)
    sends false = refl
    sends true = ap (λ (b : Bool). record (clear_end e.role (phase_after Refuse e.phase)) { sent = (if b then 1 else 0) }) clear

lacks_alike : (counts : Bool) (material : KeyMaterial) (e : EncEnd) (phase : PhaseFacts) → e.phase ≡ phase → SealsAlike counts (moves_if Refuse phase) material e
lacks_alike counts material e (Asked after_pause enc_rsp kept) is = by (not after_pause)
  where
    by : (b : Bool) → SealsAlike counts (if b then Moves Refuse else Stays) material e
    by true = refused_alike counts material e after_pause enc_rsp kept is
    by false = stays_alike counts material e
lacks_alike counts material e Clear is = stays_alike counts material e
lacks_alike counts material e (HalfClear kept) is = stays_alike counts material e
lacks_alike counts material e HalfKeyed is = stays_alike counts material e
lacks_alike counts material e Secure is = stays_alike counts material e
lacks_alike counts material e (Pausing kept) is = stays_alike counts material e

-- an end that answers so, with this outcome, and then sends
module _ (slot now : ℕ) (facts : Facts) (leaves : Bool) (phased : Phased) (change : Change)
    (alike : SealsAlike (seals_new (is_acked facts.acknowledgement) facts.outgoing.fixed) change facts.encryption.material facts.encryption.end) where
  abbrev keyed_to : EncEnd → Keyed
  keyed_to e = record { phased = phased; material = facts.encryption.material; end = end_changed change facts.encryption.material e }

  abbrev answered_to : Facts → Facts
  answered_to f = record (with_keyed (keyed_to f.encryption.end) f) { leaving = leaving_from_if leaves now f.leaving }

  abbrev sent_then : Facts
  sent_then = answered_to (fixed_sent slot facts)

  leaves_then : (b : Bool) → leaving_sent (leaving_from_if b now facts.leaving) ≡ leaving_from_if b now (leaving_sent facts.leaving)
  leaves_then true = refl
  leaves_then false = refl

  answered_sent : fixed_sent slot (answered_to facts) ≡ sent_then
  answered_sent = λ i. record sent_then {
    outgoing = data_sent_as (alike.made facts.outgoing.fixed i) (is_acked facts.acknowledgement) facts.outgoing;
    encryption = record sent_then.encryption { end = alike.sending i };
    leaving = leaves_then leaves i;
  }

module _ (slot now : ℕ) (facts : Facts) (stays : takes_leave facts ≡ false) (in_phase : facts.encryption.end.phase ≡ facts.encryption.phase) where
  abbrev lacking : Facts → Facts
  lacking f = facts_key_answered None now f

  abbrev s : Phased
  s = (keyed_of facts).phased

  abbrev counts : Bool
  counts = seals_new (is_acked facts.acknowledgement) facts.outgoing.fixed

  abbrev changes_if : Bool → Change
  changes_if asks = if asks then moves_if Refuse s.phase else Stays

  alike_if : (asks : Bool) → SealsAlike counts (changes_if asks) facts.encryption.material facts.encryption.end
  alike_if true = lacks_alike counts facts.encryption.material facts.encryption.end s.phase in_phase
  alike_if false = stays_alike counts facts.encryption.material facts.encryption.end

  -- by whether no procedure ended the link
  abbrev keyed_if : Bool → Keyed → Keyed
  keyed_if goes k = if goes then keyed_moved LacksKey k else k

  abbrev lacking_if : Bool → Facts → Facts
  lacking_if goes f =
      record (with_keyed (keyed_if goes (keyed_of f)) f) { leaving = leaving_from_if (ends_without_key None facts) now f.leaving }

  fixed_then : (goes : Bool) → fixed_sent slot (lacking_if goes facts) ≡ lacking_if goes (fixed_sent slot facts)
  fixed_then true =
      answered_sent slot now facts (ends_without_key None facts) (phased_moved phased_lacks_key s) (changes_if (s.asks_key && is_open_now s))
      (alike_if (s.asks_key && is_open_now s))
  fixed_then false =
      answered_sent slot now facts (ends_without_key None facts) s Stays (stays_alike counts facts.encryption.material facts.encryption.end)

  pub lacking_first : facts_sent slot (lacking facts) ≡ lacking (facts_sent slot facts)
  lacking_first =
      sent_fixed (takes_leave facts) slot (lacking facts) stays ∙ fixed_then (is_none facts.control.ends)
      ∙ sym (ap (λ (f : Facts). lacking f) (sent_fixed (takes_leave facts) slot facts stays))

-- a peripheral that answers received a good packet
good_stays : (setup : Setup) (role : Role) (slot : ℕ) (room : Bool) (pdu : Option (List ℕ)) (facts : Facts) → role ≡ Peripheral → is_some pdu ≡ true
    → takes_leave (facts_received role slot room pdu facts) ≡ false
good_stays setup Peripheral slot room (Some pdu) facts is good = hearing_stays slot room (header_in pdu) (pdu_of pdu) facts
good_stays setup Peripheral slot room None facts is good = absurd (cc)
good_stays setup Central slot room pdu facts is good = absurd (cc)

some_by : (role : Role) (ended : Bool) (pdu : Option (List ℕ)) → replies_by role ended pdu ≡ true → is_some pdu ≡ true
some_by Central ended pdu is = absurd (cc)
some_by Peripheral ended (Some pdu) is = refl
some_by Peripheral ended None is = absurd (cc)

pub received_stays : (setup : Setup) (slot : ℕ) (octets : List ℕ) (room : Bool) (facts : Facts) → setup.link.role ≡ Peripheral
    → replies_of setup facts slot octets room ≡ true → takes_leave (received setup slot octets room facts) ≡ false
unfolding replies_of
received_stays setup slot octets room facts is replies =
    forged_stays (is_forged setup facts octets) (facts_received setup.link.role slot room (good_pdu setup facts octets) facts)
    ∙ good_stays setup setup.link.role slot room (good_pdu setup facts octets) facts is (some_by setup.link.role _ (good_pdu setup facts octets) replies)
