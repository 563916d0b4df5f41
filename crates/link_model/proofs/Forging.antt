-- A packet that has the verdict forged ends the link and does nothing else (Core 5.2, volume 6 part B, section 5.1.3.1).
use Rattle.std.proofs.Common.{◌≡◌, ℕ, ◌&&◌, not, Bool, true, false, List, [], Option, Some, None, is_some, if◌then◌else◌, refl, ap, ◌∙◌}
use Rattle.ble_base.specs.ErrorCodes.{mic_failure, terminated_by_local_host}
use Rattle.ble_base.specs.declared.roles.Role.{Role}
use Rattle.ble_base.specs.declared.roles.Role.TheVariants.{Central, Peripheral}
use Rattle.ble_base.specs.declared.verdicts.Verdict.TheVariants.{Broken, Forged, Good}
use Rattle.air_frame.specs.declared.Heard.{Heard}
use Rattle.air_frame.specs.declared.Heard.TheVariants.{NotOurs, Broken as Faulty, Whole}
use Rattle.phased_end.specs.control_end.control_model.Control.{ended}
use Rattle.phased_end.specs.control_end.procedure_stages.declared.steps.Effect.TheVariants.{Nothing}
use Rattle.link_model.specs.Setup.{Setup}
use Rattle.link_model.specs.Facts.{Facts}
use Rattle.link_model.specs.Controls.{goes_on}
use Rattle.link_model.specs.End.{facts_after, notes_after}
use Rattle.link_model.specs.Packets.{heard_of, is_forged, is_forged_in, is_forged_pdu, verdict_of, whole_pdu}
use Rattle.link_model.specs.Payload.{opens_now}
use Rattle.link_model.specs.Receiving.{effect_of, effect_received, ended_by_forgery, received_notes, replies_by, replies_of}
use Rattle.link_model.specs.Step.{PacketReceived}
use Rattle.link_model.specs.Times.{ended_by_procedures, ending_of}
use Rattle.link_model.specs.Verdicts.{has_room_for, pdu_by, verdict_by, whole_in}
use Rattle.link_model.proofs.KeyedSteps.{forged_ends, forged_none}

-- ---- which packets have that verdict

judged_so : (fits forged : Bool) → (if fits then (if forged then Forged else Good) else Broken) ≡ Forged → (fits ≡ true) × (forged ≡ true)
judged_so true true is = (refl, refl)
judged_so true false is = absurd cc
judged_so false forged is = absurd cc

judged_by : (max_rx : ℕ) (opens : Bool) (facts : Facts) (heard : Heard) → verdict_by max_rx opens (is_forged_pdu facts) heard ≡ Forged
    → is_forged_in facts (whole_in max_rx opens heard) ≡ true
judged_by max_rx opens facts NotOurs is = absurd cc
judged_by max_rx opens facts Faulty is = absurd cc
judged_by max_rx opens facts (Whole pdu) is =
    let so = judged_so (has_room_for max_rx opens pdu.items) (is_forged_pdu facts pdu.items) is in
    ap (λ fits. is_forged_in facts (pdu_by fits pdu.items)) so.0 ∙ so.1

judged : (setup : Setup) (facts : Facts) (octets : List ℕ) → verdict_of setup facts octets ≡ Forged → is_forged setup facts octets ≡ true
unfolding verdict_of is_forged whole_pdu
judged setup facts octets is = judged_by setup.link.max_rx (opens_now facts.encryption.end) facts (heard_of setup facts octets) is

-- ---- what such a packet does

pub forged_facts : (setup : Setup) (facts : Facts) (slot : ℕ) (octets : List ℕ) (room : Bool) → verdict_of setup facts octets ≡ Forged
    → facts_after setup facts (PacketReceived slot octets room) ≡ record facts { control = ended_by_forgery facts.control }
forged_facts setup facts slot octets room is = forged_ends setup facts (PacketReceived slot octets room) (judged setup facts octets is)

pub forged_notes : (setup : Setup) (facts : Facts) (slot : ℕ) (octets : List ℕ) (room : Bool) → verdict_of setup facts octets ≡ Forged
    → notes_after setup facts (PacketReceived slot octets room) ≡ []
forged_notes setup facts slot octets room is =
    ap (λ pdu. received_notes setup slot room pdu facts) (forged_none setup facts octets (judged setup facts octets is))

no_reply : (role : Role) (ended : Bool) (pdu : Option (List ℕ)) → pdu ≡ None → replies_by role ended pdu ≡ false
no_reply Central ended pdu none = refl
no_reply Peripheral ended pdu none = ap (λ one. is_some one && not ended) none

pub forged_reply : (setup : Setup) (facts : Facts) (slot : ℕ) (octets : List ℕ) (room : Bool) → verdict_of setup facts octets ≡ Forged
    → replies_of setup facts slot octets room ≡ false
unfolding replies_of
forged_reply setup facts slot octets room is = no_reply setup.link.role _ _ (forged_none setup facts octets (judged setup facts octets is))

pub forged_effect : (setup : Setup) (facts : Facts) (slot : ℕ) (octets : List ℕ) (room : Bool) → verdict_of setup facts octets ≡ Forged
    → effect_of setup facts slot octets room ≡ Nothing
unfolding effect_of
forged_effect setup facts slot octets room is =
    ap (λ pdu. effect_received setup.link.role slot room pdu facts) (forged_none setup facts octets (judged setup facts octets is))

pub forged_ending : (setup : Setup) (facts : Facts) (slot : ℕ) (octets : List ℕ) (room : Bool) → verdict_of setup facts octets ≡ Forged
    → goes_on facts ≡ true → facts.leaving.acknowledged ≡ false
    → ending_of (facts_after setup facts (PacketReceived slot octets room)) ≡ Some (record { 0 = mic_failure })
forged_ending setup facts slot octets room is goes lasts =
    ap (λ (f : Facts). ending_of f) (forged_facts setup facts slot octets room is)
    ∙ (λ i. if lasts i then Some (record { 0 = terminated_by_local_host }) else ended_by_procedures (ended_by_forgery facts.control).ends facts.leaving)
    ∙ ap (λ (b : Bool). ended_by_procedures (if b then ended (record { 0 = mic_failure }) facts.control else facts.control).ends facts.leaving) goes
