-- What an end does over time: the counters that it uses, and from when to when it seals (Core 5.2, volume 6 part B,
-- section 5.1.3, and part E, section 2.1).
use Rattle.std.specs.Prelude.{ℕ, ◌&&◌, ◌||◌, not, Bool, true, false, IsTrue, List, [], ◌∷◌, if◌then◌else◌}
use Rattle.ble_base.specs.declared.roles.Role.{Role}
use Rattle.enc_phase.specs.declared.classes.PduClass.{PduClass}
use Rattle.enc_phase.specs.declared.facts.Transition.{Transition}
use Rattle.enc_phase.specs.declared.facts.Transition.TheVariants.{Confirm, Pause, Unlock}
use Rattle.enc_phase.specs.declared.session.Session.{Session}
use Rattle.enc_phase.specs.Phases.{is_asked, is_central, may_follow, opens, seals}
use Rattle.enc_phase.specs.Taking.{allows}
use Rattle.enc_phase.specs.Sealing.{EncEnd, after_opening, after_sending, after_start, after_taking, after_transition, is_right}

-- what an end does
pub data Act : Type 0 where
  -- it sends a new nonempty PDU with this first header octet and body
  Sends : ℕ → List ℕ → Act
  -- it opens a payload that came with this first header octet
  Opens : ℕ → List ℕ → Act
  -- it takes a PDU of this class
  Takes : PduClass → Act
  -- a session begins
  Starts : Session → Act
  -- it makes a transition
  Changes : Transition → Act

-- what the types of the phases, and the condition of taking, let an end do
abbrev pub is_possible : Act → EncEnd → Bool
is_possible (Takes pdu) e = allows e.phase e.role pdu
is_possible (Starts session) e = is_asked e.phase
is_possible (Changes transition) e = may_follow transition e.phase
is_possible act e = true

abbrev pub after_act : Act → EncEnd → EncEnd
after_act (Sends header body) e = after_sending e
after_act (Opens header payload) e = (if is_right e header payload then after_opening e else e)
after_act (Takes pdu) e = after_taking pdu e
after_act (Starts session) e = after_start session e
after_act (Changes transition) e = after_transition transition e

abbrev pub after_acts : List Act → EncEnd → EncEnd
after_acts [] e = e
after_acts (act ∷ acts) e = after_acts acts (after_act act e)

-- an end can do this, one act after the other
abbrev pub ArePossible : List Act → EncEnd → Type 0
ArePossible [] e = Unit {0}
ArePossible (act ∷ acts) e = IsTrue (is_possible act e) × ArePossible acts (after_act act e)

-- no session begins
abbrev pub StaysInSession : List Act → Type 0
StaysInSession [] = Unit {0}
StaysInSession (Starts session ∷ acts) = ⊥
StaysInSession (act ∷ acts) = StaysInSession acts

-- the counters of the PDUs that an end sends sealed, in order
abbrev pub sealed_counters : List Act → EncEnd → List ℕ
sealed_counters [] e = []
sealed_counters (Sends header body ∷ acts) e =
    (if seals e.role e.phase
    then e.sent ∷ sealed_counters acts (after_sending e)
    else sealed_counters acts (after_sending e))
sealed_counters (act ∷ acts) e = sealed_counters acts (after_act act e)

-- the counters of the sealed PDUs that an end opens, in order
abbrev pub opened_counters : List Act → EncEnd → List ℕ
opened_counters [] e = []
opened_counters (Opens header payload ∷ acts) e =
    (if opens e.role e.phase && is_right e header payload
    then e.opened ∷ opened_counters acts (after_act (Opens header payload) e)
    else opened_counters acts (after_act (Opens header payload) e))
opened_counters (act ∷ acts) e = opened_counters acts (after_act act e)

-- whether an end sends sealed: the central from LL_START_ENC_REQ on and the peripheral from LL_START_ENC_RSP on, both
-- until they take LL_PAUSE_ENC_RSP (section 5.1.3)
abbrev pub sending_after : Role → List Act → Bool → Bool
sending_after role [] sealed = sealed
sending_after role (Starts session ∷ acts) sealed = sending_after role acts (is_central role || sealed)
sending_after role (Changes Confirm ∷ acts) sealed = sending_after role acts (not (is_central role) || sealed)
sending_after role (Changes Unlock ∷ acts) sealed = sending_after role acts false
sending_after role (act ∷ acts) sealed = sending_after role acts sealed

-- whether an end receives sealed: from LL_START_ENC_REQ on, the central until it takes LL_PAUSE_ENC_RSP and the peripheral
-- until it takes LL_PAUSE_ENC_REQ (section 5.1.3)
abbrev pub receiving_after : Role → List Act → Bool → Bool
receiving_after role [] sealed = sealed
receiving_after role (Starts session ∷ acts) sealed = receiving_after role acts true
receiving_after role (Changes Unlock ∷ acts) sealed = receiving_after role acts (not (is_central role) && sealed)
receiving_after role (Changes Pause ∷ acts) sealed = receiving_after role acts (is_central role && sealed)
receiving_after role (act ∷ acts) sealed = receiving_after role acts sealed
