-- What an end sends in its phase, and how it opens what it receives (Core 5.2, volume 6 part B, section 5.1.3, and part E,
-- section 2).
use Rattle.std.specs.Prelude.{◌≡◌, ℕ, ◌+◌, Bool, true, not, List, [], if◌then◌else◌}
use Rattle.ble_base.specs.declared.roles.Role.{Role}
use Rattle.ccm_link.specs.Ccm.{opened_payload, sealed_payload}
use Rattle.ccm_link.specs.Payload.{additional_data, is_genuine, nonce}
use Rattle.enc_phase.specs.declared.session.Keyed.{Keyed}
use Rattle.enc_phase.specs.declared.clear.Clear.{Clear as ClearEnd}
use Rattle.enc_phase.specs.declared.asked.Asked.{Asked as AskedEnd}
use Rattle.enc_phase.specs.declared.half_clear.HalfClear.{HalfClear as HalfClearEnd}
use Rattle.enc_phase.specs.declared.half_keyed.HalfKeyed.{HalfKeyed as HalfKeyedEnd}
use Rattle.enc_phase.specs.declared.secure.Secure.{Secure as SecureEnd}
use Rattle.enc_phase.specs.declared.pausing.Pausing.{Pausing as PausingEnd}
use Rattle.enc_phase.specs.declared.phase.Phase.{Phase}
use Rattle.enc_phase.specs.declared.phase.Phase.TheVariants.{Clear as IsClear, Asked as IsAsked, HalfKeyed as IsHalfKeyed, Secure as IsSecure, Pausing as IsPausing, HalfClear as IsHalfClear}
use Rattle.enc_phase.specs.declared.facts.PhaseFacts.{PhaseFacts}
use Rattle.enc_phase.specs.declared.facts.PhaseFacts.TheVariants.{Clear, Asked, HalfKeyed, Secure, Pausing, HalfClear}
use Rattle.enc_phase.specs.declared.facts.Transition.{Transition}
use Rattle.enc_phase.specs.declared.facts.Transition.TheVariants.{Confirm, Pause}
use Rattle.enc_phase.specs.declared.session.Session.{Session}
use Rattle.enc_phase.specs.Phases.{is_central, opens, phase_after, phase_starting, seals}
use Rattle.enc_phase.specs.Taking.{phase_taking}
use Rattle.enc_phase.specs.declared.classes.PduClass.{PduClass}

-- an end: its role and phase, the key and initialization vector of its session, and for each direction the counter of the
-- next sealed PDU, which is 0 where the direction is clear
pub record EncEnd : Type 0 where
  pub role : Role
  pub phase : PhaseFacts
  pub key : List ℕ
  pub iv : List ℕ
  pub sent : ℕ
  pub opened : ℕ

-- an end without a session
abbrev pub clear_end : Role → PhaseFacts → EncEnd
clear_end role phase = record { role = role; phase = phase; key = []; iv = []; sent = 0; opened = 0 }

-- a counter of a direction that is sealed
abbrev pub counter_in : Bool → ℕ → ℕ
counter_in sealed counter = (if sealed then counter else 0)

-- the payload that an end sends for a new nonempty PDU with this first header octet and body (part E, section 2)
abbrev pub sent_payload : EncEnd → ℕ → List ℕ → List ℕ
sent_payload e header body =
    (if seals e.role e.phase
    then sealed_payload e.key (nonce e.sent (is_central e.role) e.iv) (additional_data header) body
    else body)

-- each new nonempty PDU that is sealed takes one counter
abbrev pub after_sending : EncEnd → EncEnd
after_sending e = record e { sent = (if seals e.role e.phase then e.sent + 1 else e.sent) }

-- a received payload is sealed for this end with its next counter, or need not be sealed (part E, section 2)
abbrev pub is_right : EncEnd → ℕ → List ℕ → Bool
is_right e header payload =
    (if opens e.role e.phase
    then is_genuine e.key (nonce e.opened (not (is_central e.role)) e.iv) (additional_data header) payload
    else true)

-- the body in a received payload that is right
abbrev pub opened_body : EncEnd → List ℕ → List ℕ
opened_body e payload =
    (if opens e.role e.phase
    then opened_payload e.key (nonce e.opened (not (is_central e.role)) e.iv) payload
    else payload)

abbrev pub after_opening : EncEnd → EncEnd
after_opening e = record e { opened = (if opens e.role e.phase then e.opened + 1 else e.opened) }

-- how many octets a received payload may have
abbrev pub longest_payload : EncEnd → ℕ
longest_payload e = (if opens e.role e.phase then 255 else 251)

-- an end after a PDU of this class is taken
abbrev pub after_taking : PduClass → EncEnd → EncEnd
after_taking pdu e = record e { phase = phase_taking pdu e.phase }

-- an end with this key and initialization vector, in this phase
abbrev pub end_with : Role → PhaseFacts → List ℕ → List ℕ → ℕ → ℕ → EncEnd
end_with role phase key iv sent opened =
    record {
      role = role;
      phase = phase;
      key = key;
      iv = iv;
      sent = counter_in (seals role phase) sent;
      opened = counter_in (opens role phase) opened;
    }

-- an end as a session begins, with both counters at 0
abbrev pub after_start : Session → EncEnd → EncEnd
after_start session e = end_with e.role (phase_starting e.phase) session.key session.iv 0 0

-- an end after a transition that can be made; a session goes on as encryption starts and as it is to pause
abbrev pub after_transition : Transition → EncEnd → EncEnd
after_transition Confirm e = end_with e.role (phase_after Confirm e.phase) e.key e.iv e.sent e.opened
after_transition Pause e = end_with e.role (phase_after Pause e.phase) e.key e.iv e.sent e.opened
after_transition transition e = clear_end e.role (phase_after transition e.phase)

-- the ends that the types of the code are

abbrev pub of_clear : ClearEnd → EncEnd
of_clear c = clear_end c.role Clear

abbrev pub of_asked : AskedEnd → EncEnd
of_asked a = clear_end a.role (Asked a.after_pause a.enc_rsp a.kept)

abbrev pub of_half_clear : HalfClearEnd → EncEnd
of_half_clear h = clear_end h.role (HalfClear h.kept)

abbrev pub keyed_end : PhaseFacts → Keyed → EncEnd
keyed_end phase k = end_with k.role phase k.key k.iv k.sent k.opened

abbrev pub of_half_keyed : HalfKeyedEnd → EncEnd
of_half_keyed h = keyed_end HalfKeyed h.keyed

abbrev pub of_secure : SecureEnd → EncEnd
of_secure s = keyed_end Secure s.keyed

abbrev pub of_pausing : PausingEnd → EncEnd
of_pausing p = keyed_end (Pausing p.kept) p.keyed

abbrev pub end_of : Phase → EncEnd
end_of (IsClear c) = of_clear c
end_of (IsAsked a) = of_asked a
end_of (IsHalfKeyed h) = of_half_keyed h
end_of (IsSecure s) = of_secure s
end_of (IsPausing p) = of_pausing p
end_of (IsHalfClear h) = of_half_clear h

-- what one end sends now, the other receives with the same session and counter, or both in the clear
pub record AreMatched (a b : EncEnd) : Type 0 where
  pub sealing : seals a.role a.phase ≡ opens b.role b.phase
  pub roles : is_central b.role ≡ not (is_central a.role)
  pub key : a.key ≡ b.key
  pub iv : a.iv ≡ b.iv
  pub counter : a.sent ≡ b.opened
