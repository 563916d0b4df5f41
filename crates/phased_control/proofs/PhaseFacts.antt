-- What a change of the phase leaves of what it says of a kept PDU, and of a key that is asked for.
use Rattle.std.proofs.Common.{◌≡◌, Bool, true, false, not, Option, Some, None, refl}
use Rattle.ble_base.specs.declared.roles.Role.{Role}
use Rattle.ble_base.specs.declared.roles.Role.TheVariants.{Central, Peripheral}
use Rattle.enc_phase.specs.declared.classes.PduClass.{PduClass}
use Rattle.enc_phase.specs.declared.classes.PduClass.TheVariants.{EncRsp, Request}
use Rattle.enc_phase.specs.declared.facts.PhaseFacts.{PhaseFacts}
use Rattle.enc_phase.specs.declared.facts.PhaseFacts.TheVariants.{Clear, Asked, HalfKeyed, Secure, Pausing, HalfClear}
use Rattle.enc_phase.specs.declared.facts.Transition.{Transition}
use Rattle.enc_phase.specs.declared.facts.Transition.TheVariants.{Ask as AskTransition, Confirm, Pause, Refuse, Unlock}
use Rattle.enc_phase.specs.Phases.{is_asked, is_quiet, may_follow, phase_after, phase_starting}
use Rattle.enc_phase.specs.Taking.{allows, phase_taking}
use Rattle.phased_control.specs.Taken.{keeps_class}
use Rattle.phased_control.specs.Ends.{is_half_keyed, says_kept}
use Rattle.phased_control.proofs.Answering.{IsPlain}
use Rattle.data_pdu.specs.declared.ctrl.Ctrl.{Ctrl}
use Rattle.phased_control.specs.Phased.{Phased, with_owed_if}

-- a change that forgets no kept PDU, but as the phase is Clear, Secure or HalfKeyed
pub record Goes (p q : PhaseFacts) : Type 0 where
  pub kept : is_quiet q ≡ false → is_half_keyed q ≡ false → says_kept q ≡ says_kept p
  pub unkeyed : is_quiet q ≡ false → is_half_keyed q ≡ false → is_half_keyed p ≡ false

pub goes_none : (p : PhaseFacts) → Goes p p
goes_none p = record { kept = λ quiet keyed. refl; unkeyed = λ quiet keyed. keyed }

pub goes_after : (t : Transition) (p : PhaseFacts) → Goes p (phase_after t p)
goes_after AskTransition Clear = record { kept = λ quiet keyed. refl; unkeyed = λ quiet keyed. refl }
goes_after AskTransition (HalfClear kept) = record { kept = λ quiet keyed. refl; unkeyed = λ quiet keyed. refl }
goes_after AskTransition phase = goes_none phase
goes_after Refuse (Asked after_pause enc_rsp kept) = record { kept = λ quiet keyed. absurd (cc); unkeyed = λ quiet keyed. refl }
goes_after Refuse phase = goes_none phase
goes_after Confirm HalfKeyed = record { kept = λ quiet keyed. absurd (cc); unkeyed = λ quiet keyed. absurd (cc) }
goes_after Confirm phase = goes_none phase
goes_after Pause Secure = record { kept = λ quiet keyed. refl; unkeyed = λ quiet keyed. refl }
goes_after Pause phase = goes_none phase
goes_after Unlock (Pausing kept) = record { kept = λ quiet keyed. refl; unkeyed = λ quiet keyed. refl }
goes_after Unlock phase = goes_none phase

pub goes_starting : (p : PhaseFacts) → Goes p (phase_starting p)
goes_starting (Asked after_pause enc_rsp kept) = record { kept = λ quiet keyed. absurd (cc); unkeyed = λ quiet keyed. refl }
goes_starting phase = goes_none phase

-- what a phase keeps in mind of a PDU, where the end does not keep it
pub record Minds (p q : PhaseFacts) : Type 0 where
  pub kept : says_kept q ≡ says_kept p
  pub keyed : is_half_keyed q ≡ is_half_keyed p
  pub quiet : is_quiet q ≡ is_quiet p
  pub asked : is_asked q ≡ is_asked p

minds_none : (p : PhaseFacts) → Minds p p
minds_none p = record { kept = refl; keyed = refl; quiet = refl; asked = refl }

pub minds : (pdu : PduClass) (p : PhaseFacts) (role : Role) → allows p role pdu ≡ true → keeps_class pdu role (is_quiet p) ≡ false → Minds p (phase_taking pdu p)
minds EncRsp (Asked after_pause enc_rsp kept) role may not_kept = record { kept = refl; keyed = refl; quiet = refl; asked = refl }
minds EncRsp p role may not_kept = minds_none p
minds Request (Asked after_pause enc_rsp kept) Central may not_kept = absurd (cc)
minds Request (Asked after_pause enc_rsp kept) Peripheral may not_kept = absurd (cc)
minds Request (Pausing kept) Central may not_kept = absurd (cc)
minds Request (Pausing kept) Peripheral may not_kept = absurd (cc)
minds Request p role may not_kept = minds_none p
minds pdu p role may not_kept = minds_none p

-- a phase that keeps a PDU says so
pub keeps_it : (pdu : PduClass) (p : PhaseFacts) (role : Role) → allows p role pdu ≡ true → keeps_class pdu role (is_quiet p) ≡ true → says_kept (phase_taking pdu p) ≡ true
keeps_it Request (Asked after_pause enc_rsp kept) Central may keeps = refl
keeps_it Request (Pausing kept) Central may keeps = refl
keeps_it Request Clear Central may keeps = absurd (cc)
keeps_it Request Secure Central may keeps = absurd (cc)
keeps_it Request HalfKeyed Central may keeps = absurd (cc)
keeps_it Request (HalfClear kept) Central may keeps = absurd (cc)
keeps_it Request p Peripheral may keeps = absurd (cc)
keeps_it pdu p role may keeps = absurd (cc)

-- a key is asked for in phase Asked, which only a start or a refusal leaves
pub asked_stays : (t : Transition) (p : PhaseFacts) → IsPlain t → is_asked p ≡ true → is_asked (phase_after t p) ≡ true
asked_stays AskTransition (Asked after_pause enc_rsp kept) plain h = refl
asked_stays Confirm (Asked after_pause enc_rsp kept) plain h = refl
asked_stays Pause (Asked after_pause enc_rsp kept) plain h = refl
asked_stays Unlock (Asked after_pause enc_rsp kept) plain h = refl
asked_stays Refuse p plain h = elim plain [ ]
asked_stays t p plain h = absurd (cc)

pub is_asked_then : (p : PhaseFacts) → may_follow AskTransition p ≡ true → is_asked (phase_after AskTransition p) ≡ true
is_asked_then Clear h = refl
is_asked_then (HalfClear kept) h = refl
is_asked_then p h = absurd (cc)

pub not_asked_yet : (p : PhaseFacts) → may_follow AskTransition p ≡ true → is_asked p ≡ false
not_asked_yet Clear h = refl
not_asked_yet (HalfClear kept) h = refl
not_asked_yet p h = absurd (cc)

pub not_asked_quietly : (p : PhaseFacts) → is_quiet p ≡ true → is_asked p ≡ false
not_asked_quietly Clear h = refl
not_asked_quietly Secure h = refl
not_asked_quietly p h = absurd (cc)

pub says_none : (p : PhaseFacts) → is_quiet p ≡ true → says_kept p ≡ false
says_none Clear h = refl
says_none Secure h = refl
says_none p h = absurd (cc)

-- ---- a phase that follows no pause of an encryption, at a central

abbrev pub follows_no_pause : PhaseFacts → Bool
follows_no_pause Clear = true
follows_no_pause (Asked after_pause enc_rsp kept) = not after_pause
follows_no_pause phase = false

-- in phase HalfClear LL_ENC_REQ may follow a pause
pub loud_in_half_clear : (p : PhaseFacts) → may_follow AskTransition p ≡ true → follows_no_pause p ≡ false → is_quiet p ≡ false
loud_in_half_clear (HalfClear kept) may paused = refl
loud_in_half_clear Clear may paused = absurd (cc)
loud_in_half_clear p may paused = absurd (cc)

-- an encryption runs where the phase says so
pub runs : (b : Bool) → false ≡ not b → b ≡ true
runs true h = refl
runs false h = absurd (cc)

-- what is owed leaves the phase
pub phase_owed : (request : Option Ctrl) (s : Phased) → (with_owed_if request s).phase ≡ s.phase
phase_owed None s = refl
phase_owed (Some ctrl) s = refl
