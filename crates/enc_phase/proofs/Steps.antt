-- What one act changes of the sealing of an end.
use Rattle.std.proofs.Common.{◌≡◌, refl, Bool, true, false, not, ◌&&◌, ◌||◌, if◌then◌else◌}
use Rattle.ble_base.specs.declared.roles.Role.{Role}
use Rattle.ble_base.specs.declared.roles.Role.TheVariants.{Central, Peripheral}
use Rattle.enc_phase.specs.declared.classes.PduClass.{PduClass}
use Rattle.enc_phase.specs.declared.classes.PduClass.TheVariants.{EncRsp, Request}
use Rattle.enc_phase.specs.declared.facts.PhaseFacts.{PhaseFacts}
use Rattle.enc_phase.specs.declared.facts.PhaseFacts.TheVariants.{Clear, Asked, HalfKeyed, Secure, Pausing, HalfClear}
use Rattle.enc_phase.specs.declared.facts.Transition.{Transition}
use Rattle.enc_phase.specs.declared.facts.Transition.TheVariants.{Ask, Refuse, Confirm, Pause, Unlock}
use Rattle.enc_phase.specs.Phases.{is_asked, is_central, may_follow, opens, phase_after, phase_starting, seals}
use Rattle.enc_phase.specs.Taking.{phase_taking}
use Rattle.enc_phase.specs.Sealing.{EncEnd}

-- a fact of both sides of a choice
pub either : (P : EncEnd → Type 0) (b : Bool) (x y : EncEnd) → P x → P y → P (if b then x else y)
either P true x y p q = p
either P false x y p q = q

-- what is taken changes no sealing
pub seals_taking : (pdu : PduClass) (role : Role) (phase : PhaseFacts) → seals role (phase_taking pdu phase) ≡ seals role phase
seals_taking EncRsp Central (Asked p r k) = refl
seals_taking EncRsp Peripheral (Asked p r k) = refl
seals_taking Request Central (Asked p r k) = refl
seals_taking Request Peripheral (Asked p r k) = refl
seals_taking Request Central (Pausing kept) = refl
seals_taking Request Peripheral (Pausing kept) = refl
seals_taking pdu role phase = refl

pub opens_taking : (pdu : PduClass) (role : Role) (phase : PhaseFacts) → opens role (phase_taking pdu phase) ≡ opens role phase
opens_taking EncRsp Central (Asked p r k) = refl
opens_taking EncRsp Peripheral (Asked p r k) = refl
opens_taking Request Central (Asked p r k) = refl
opens_taking Request Peripheral (Asked p r k) = refl
opens_taking Request Central (Pausing kept) = refl
opens_taking Request Peripheral (Pausing kept) = refl
opens_taking pdu role phase = refl

-- the phases of a session
abbrev pub has_session : PhaseFacts → Bool
has_session HalfKeyed = true
has_session Secure = true
has_session (Pausing kept) = true
has_session phase = false

pub session_taking : (pdu : PduClass) (phase : PhaseFacts) → has_session (phase_taking pdu phase) ≡ has_session phase
session_taking EncRsp (Asked p r k) = refl
session_taking Request (Asked p r k) = refl
session_taking Request (Pausing kept) = refl
session_taking pdu phase = refl

-- sealed PDUs are sent in a session only
pub seals_in_session : (role : Role) (phase : PhaseFacts) → has_session phase ≡ false → seals role phase ≡ false
seals_in_session Central HalfKeyed h = absurd (cc)
seals_in_session Peripheral HalfKeyed h = refl
seals_in_session role Secure h = absurd (cc)
seals_in_session role (Pausing kept) h = absurd (cc)
seals_in_session role phase h = refl

-- the sending and the receiving of an end after a transition
abbrev pub sending_next : Role → Transition → Bool → Bool
sending_next role Confirm sealed = not (is_central role) || sealed
sending_next role Unlock sealed = false
sending_next role transition sealed = sealed

abbrev pub receiving_next : Role → Transition → Bool → Bool
receiving_next role Unlock sealed = not (is_central role) && sealed
receiving_next role Pause sealed = is_central role && sealed
receiving_next role transition sealed = sealed

-- what a transition does to the sending of an end
pub sends_next : (role : Role) (transition : Transition) (phase : PhaseFacts) → may_follow transition phase ≡ true
    → seals role (phase_after transition phase) ≡ sending_next role transition (seals role phase)
sends_next Central Ask Clear h = refl
sends_next Peripheral Ask Clear h = refl
sends_next Central Ask (HalfClear kept) h = refl
sends_next Peripheral Ask (HalfClear kept) h = refl
sends_next Central Refuse (Asked p r k) h = refl
sends_next Peripheral Refuse (Asked p r k) h = refl
sends_next Central Confirm HalfKeyed h = refl
sends_next Peripheral Confirm HalfKeyed h = refl
sends_next Central Pause Secure h = refl
sends_next Peripheral Pause Secure h = refl
sends_next Central Unlock (Pausing kept) h = refl
sends_next Peripheral Unlock (Pausing kept) h = refl
sends_next role transition phase h = absurd (cc)

-- and to its receiving
pub receives_next : (role : Role) (transition : Transition) (phase : PhaseFacts) → may_follow transition phase ≡ true
    → opens role (phase_after transition phase) ≡ receiving_next role transition (opens role phase)
receives_next Central Ask Clear h = refl
receives_next Peripheral Ask Clear h = refl
receives_next Central Ask (HalfClear kept) h = refl
receives_next Peripheral Ask (HalfClear kept) h = refl
receives_next Central Refuse (Asked p r k) h = refl
receives_next Peripheral Refuse (Asked p r k) h = refl
receives_next Central Confirm HalfKeyed h = refl
receives_next Peripheral Confirm HalfKeyed h = refl
receives_next Central Pause Secure h = refl
receives_next Peripheral Pause Secure h = refl
receives_next Central Unlock (Pausing kept) h = refl
receives_next Peripheral Unlock (Pausing kept) h = refl
receives_next role transition phase h = absurd (cc)

pub apart : {b : Bool} → b ≡ true → b ≡ false → ⊥
apart {b} p q = cc

-- after which transitions there is a session
abbrev pub keeps_session : Transition → Bool
keeps_session Ask = false
keeps_session Refuse = false
keeps_session Confirm = true
keeps_session Pause = true
keeps_session Unlock = false

pub session_next : (transition : Transition) (phase : PhaseFacts) → may_follow transition phase ≡ true
    → has_session (phase_after transition phase) ≡ keeps_session transition
session_next Ask Clear h = refl
session_next Ask (HalfClear kept) h = refl
session_next Refuse (Asked p r k) h = refl
session_next Confirm HalfKeyed h = refl
session_next Pause Secure h = refl
session_next Unlock (Pausing kept) h = refl
session_next transition phase h = absurd (cc)

-- transitions that go on with a session have one before
abbrev pub goes_on_with : Transition → Bool
goes_on_with Confirm = true
goes_on_with Pause = true
goes_on_with transition = false

pub session_before : (transition : Transition) (phase : PhaseFacts) → may_follow transition phase ≡ true
    → goes_on_with transition ≡ true → has_session phase ≡ true
session_before Confirm HalfKeyed h on = refl
session_before Pause Secure h on = refl
session_before Ask phase h on = absurd (cc)
session_before Refuse phase h on = absurd (cc)
session_before Unlock phase h on = absurd (cc)
session_before transition phase h on = absurd (cc)

-- and send sealed after it
pub sends_on : (transition : Transition) (role : Role) (phase : PhaseFacts) → may_follow transition phase ≡ true
    → goes_on_with transition ≡ true → seals role (phase_after transition phase) ≡ true
sends_on Confirm role HalfKeyed h on = refl
sends_on Pause role Secure h on = refl
sends_on Ask role phase h on = absurd (cc)
sends_on Refuse role phase h on = absurd (cc)
sends_on Unlock role phase h on = absurd (cc)
sends_on transition role phase h on = absurd (cc)

-- a direction that is received clear stays so until a session begins
pub clear_after : (transition : Transition) (role : Role) (phase : PhaseFacts) → may_follow transition phase ≡ true
    → keeps_session transition ≡ false → opens role (phase_after transition phase) ≡ false
clear_after Ask role Clear h on = refl
clear_after Ask role (HalfClear kept) h on = refl
clear_after Refuse role (Asked p r k) h on = refl
clear_after Confirm role phase h on = absurd (cc)
clear_after Pause role phase h on = absurd (cc)
clear_after Unlock role (Pausing kept) h on = refl
clear_after transition role phase h on = absurd (cc)

pub clear_next : (transition : Transition) (role : Role) (phase : PhaseFacts) → may_follow transition phase ≡ true
    → opens role phase ≡ false → opens role (phase_after transition phase) ≡ false
clear_next Ask role Clear h none = refl
clear_next Ask role (HalfClear kept) h none = refl
clear_next Refuse role (Asked p r k) h none = refl
clear_next Confirm role HalfKeyed h none = absurd (cc)
clear_next Pause role Secure h none = absurd (cc)
clear_next Unlock role (Pausing kept) h none = refl
clear_next transition role phase h none = absurd (cc)

-- and what a session that begins does
pub sends_started : (role : Role) (phase : PhaseFacts) → is_asked phase ≡ true
    → seals role (phase_starting phase) ≡ (is_central role || seals role phase)
sends_started Central (Asked p r k) h = refl
sends_started Peripheral (Asked p r k) h = refl
sends_started role phase h = absurd (cc)

pub receives_started : (role : Role) (phase : PhaseFacts) → is_asked phase ≡ true → opens role (phase_starting phase) ≡ true
receives_started role (Asked p r k) h = refl
receives_started role phase h = absurd (cc)
