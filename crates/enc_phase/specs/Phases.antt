-- The phases of encryption at one end of a link, without keys and counters (Core 5.2, volume 6 part B, section 5.1.3).
use Rattle.std.specs.Prelude.{Bool, true, false, not}
use Rattle.ble_base.specs.declared.roles.Role.{Role}
use Rattle.ble_base.specs.declared.roles.Role.TheVariants.{Central, Peripheral}
use Rattle.enc_phase.specs.declared.facts.PhaseFacts.{PhaseFacts}
use Rattle.enc_phase.specs.declared.facts.PhaseFacts.TheVariants.{Clear, Asked, HalfKeyed, Secure, Pausing, HalfClear}
use Rattle.enc_phase.specs.declared.facts.Transition.{Transition}
use Rattle.enc_phase.specs.declared.facts.Transition.TheVariants.{Ask, Refuse, Confirm, Pause, Unlock}

abbrev pub is_central : Role → Bool
is_central Central = true
is_central Peripheral = false

-- in which phases an end sends data and begins procedures (our choice)
abbrev pub is_quiet : PhaseFacts → Bool
is_quiet Clear = true
is_quiet Secure = true
is_quiet phase = false

-- in which phases an end sends nonempty PDUs sealed (sections 5.1.3.1 and 5.1.3.2)
abbrev pub seals : Role → PhaseFacts → Bool
seals role Secure = true
seals role (Pausing kept) = true
seals Central HalfKeyed = true
seals role phase = false

-- in which phases an end opens nonempty PDUs as sealed (sections 5.1.3.1 and 5.1.3.2)
abbrev pub opens : Role → PhaseFacts → Bool
opens role Secure = true
opens role HalfKeyed = true
opens Central (Pausing kept) = true
opens role phase = false

-- in which phase a session may begin (section 5.1.3.1)
abbrev pub is_asked : PhaseFacts → Bool
is_asked (Asked after_pause enc_rsp kept) = true
is_asked phase = false

-- the phase as a session begins, and the same where none may
abbrev pub phase_starting : PhaseFacts → PhaseFacts
phase_starting (Asked after_pause enc_rsp kept) = HalfKeyed
phase_starting phase = phase

-- in which phases a transition can be made; a restart after a pause cannot be refused (section 5.1.3.2)
abbrev pub may_follow : Transition → PhaseFacts → Bool
may_follow Ask Clear = true
may_follow Ask (HalfClear kept) = true
may_follow Refuse (Asked after_pause enc_rsp kept) = not after_pause
may_follow Confirm HalfKeyed = true
may_follow Pause Secure = true
may_follow Unlock (Pausing kept) = true
may_follow transition phase = false

-- the phase after a transition, and the same where it cannot be made
abbrev pub phase_after : Transition → PhaseFacts → PhaseFacts
phase_after Ask Clear = Asked false false false
phase_after Ask (HalfClear kept) = Asked true false kept
phase_after Refuse (Asked after_pause enc_rsp kept) = Clear
phase_after Confirm HalfKeyed = Secure
phase_after Pause Secure = Pausing false
phase_after Unlock (Pausing kept) = HalfClear kept
phase_after transition phase = phase
