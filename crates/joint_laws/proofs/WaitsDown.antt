-- The PDUs of the encryption that wait at a central are those that the machine of phases has, one for one.
use Rattle.std.proofs.Common.{◌≡◌, true, List, [], ◌∷◌, ◌++◌, Option, Some, None, refl, ap, sym, ◌∙◌}
use Rattle.std.proofs.lemmas.Bool.{and_parts}
use Rattle.joint_parameters.specs.enc_phase.declared.classes.PduClass.{PduClass}
use Rattle.joint_parameters.specs.enc_phase.declared.classes.PduClass.TheVariants.{Data, Empty, EncReq, EncRsp, Other, PauseEncReq, PauseEncRsp, Refusal, Request, StartEncReq, StartEncRsp, Terminate}
use Rattle.joint_parameters.specs.enc_phase.declared.facts.PhaseFacts.{PhaseFacts}
use Rattle.joint_parameters.specs.procedure_values.declared.drafts.Draft.{Draft}
use Rattle.joint_phases.specs.phase_pairs.Agreement.{encryption_pdu, waiting_pdu}
use Rattle.joint_phases.specs.phase_pairs.Central.{is_class, is_queued}
use Rattle.joint_phases.specs.Parts.{goes_down, queued_then, wait_down}
use Rattle.joint_phases.specs.Pairs.{encryption_waiting}

same_class : (a b : PduClass) → is_class a b ≡ true → a ≡ b
same_class Empty Empty is = refl
same_class Data Data is = refl
same_class Terminate Terminate is = refl
same_class EncReq EncReq is = refl
same_class EncRsp EncRsp is = refl
same_class StartEncReq StartEncReq is = refl
same_class StartEncRsp StartEncRsp is = refl
same_class PauseEncReq PauseEncReq is = refl
same_class PauseEncRsp PauseEncRsp is = refl
same_class Refusal Refusal is = refl
same_class Request Request is = refl
same_class Other Other is = refl
same_class a b is = absurd (cc)

-- the one that is queued
queued_is : (pdu : PduClass) (queued : Option PduClass) → is_queued pdu queued ≡ true → queued ≡ Some pdu
queued_is pdu None is = absurd (cc)
queued_is pdu (Some first) is = ap (λ (x : PduClass). Some x) (same_class first pdu is)

-- one PDU goes, and the others wait
one_down : (pdu : PduClass) (phase : PhaseFacts) (queued : Option PduClass) (rest : List PduClass) → goes_down pdu phase queued ≡ true
    → rest ≡ waiting_pdu (queued_then pdu queued) → encryption_pdu pdu ++ rest ≡ waiting_pdu queued
one_down Other phase queued rest goes is = is
one_down Request phase queued rest goes is = is
one_down Data phase queued rest goes is = absurd (cc)
one_down Empty phase queued rest goes is = absurd (cc)
one_down Terminate phase queued rest goes is = absurd (cc)
one_down EncReq phase queued rest goes is = ap (λ pdus. EncReq ∷ pdus) is ∙ ap waiting_pdu (sym (queued_is EncReq queued goes))
one_down EncRsp phase queued rest goes is = ap (λ pdus. EncRsp ∷ pdus) is ∙ ap waiting_pdu (sym (queued_is EncRsp queued goes))
one_down StartEncReq phase queued rest goes is = ap (λ pdus. StartEncReq ∷ pdus) is ∙ ap waiting_pdu (sym (queued_is StartEncReq queued goes))
one_down StartEncRsp phase queued rest goes is = ap (λ pdus. StartEncRsp ∷ pdus) is ∙ ap waiting_pdu (sym (queued_is StartEncRsp queued goes))
one_down PauseEncReq phase queued rest goes is = ap (λ pdus. PauseEncReq ∷ pdus) is ∙ ap waiting_pdu (sym (queued_is PauseEncReq queued goes))
one_down PauseEncRsp phase queued rest goes is = ap (λ pdus. PauseEncRsp ∷ pdus) is ∙ ap waiting_pdu (sym (queued_is PauseEncRsp queued goes))
one_down Refusal phase queued rest goes is = ap (λ pdus. Refusal ∷ pdus) is ∙ ap waiting_pdu (sym (queued_is Refusal queued goes))

pub waits_down : (class_of : Draft → PduClass) (phase : PhaseFacts) (drafts : List Draft) (queued : Option PduClass) → wait_down class_of phase drafts queued ≡ true
    → encryption_waiting class_of drafts ≡ waiting_pdu queued
waits_down class_of phase [] None waits = refl
waits_down class_of phase [] (Some pdu) waits = absurd (cc)
waits_down class_of phase (draft ∷ drafts) queued waits =
    let both = and_parts (goes_down (class_of draft) phase queued) (wait_down class_of phase drafts (queued_then (class_of draft) queued)) waits in
    one_down (class_of draft) phase queued (encryption_waiting class_of drafts) both.0
    (waits_down class_of phase drafts (queued_then (class_of draft) queued) both.1)
