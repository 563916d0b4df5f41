-- Why a link is shut, and which links stay open, from the lines of a journal alone (Core 5.2, volume 6 part B, sections
-- 4.5.2, 5.1.6, 5.2 and 5.5.1, and volume 4 part E, section 7.3.2; of several reasons that hold at once the first counts,
-- in an order that is our choice).
use Rattle.std.specs.Prelude.{◌≡◌, ℕ, Bool, true, false, List, [], ◌∷◌, ◌++◌, fold, Option, Some, None, if◌then◌else◌}
use Rattle.std.specs.Option.{option_map}
use Rattle.ble_base.specs.ErrorCodes.{connection_not_established, connection_timeout, success, terminated_by_local_host}
use Rattle.ble_base.specs.declared.error_codes.ErrCode.{ErrCode}
use Rattle.ble_base.specs.declared.roles.Side.{Side}
use Rattle.instants.specs.declared.indications.Params.{Params}
use Rattle.journal.specs.declared.entries.Entry.{Entry}
use Rattle.journal.specs.declared.entries.Entry.TheVariants.{Air, Shut, Turn}
use Rattle.journal_controls.specs.LineSteps.{control_on, turn_now}
use Rattle.journal_controls.specs.journal_acks.Shut.{CompletesReset, last_heard}
use Rattle.journal_controls.specs.journal_ends.Asked.{Words}
use Rattle.journal_controls.specs.journal_links.Begun.{LinkBegun, link_numbered}
use Rattle.journal_controls.specs.link_model.Lost.{has_failed, has_timed_out}
use Rattle.journal_controls.specs.link_model.Times.{ended_by_procedures, first_of, termination_due}
use Rattle.journal_controls.specs.link_model.control_end.Answers.{timeout_of}
use Rattle.journal_controls.specs.link_model.control_end.Held.{held_of}
use Rattle.journal_controls.specs.link_model.control_model.Control.{Control}
use Rattle.journal_controls.specs.link_model.declared.state.Leaving.{Leaving}
use Rattle.journal_leaving.specs.Leaving.{leaving_on}

-- ---- as a turn begins in this slot

-- nothing good was heard, and six intervals have passed since the CONNECT_IND: 3E; or the supervision timeout has passed
-- since the last good packet: 08 (section 4.5.2)
abbrev pub lost_by : LinkBegun → Params → Option ℕ → ℕ → Option ℕ
lost_by link params None slot =
    if has_failed link.slot params.interval slot then Some connection_not_established else None
lost_by link params (Some heard) slot =
    if has_timed_out heard params.timeout slot then Some connection_timeout else None

-- else the peer has not answered a procedure in time: 22 (section 5.2); else the host has ended the link, or lacked a key
-- after a pause, and the supervision timeout has passed since: 16 (section 5.1.6)
abbrev pub due_by : LinkBegun → Control → Leaving → Option ℕ → ℕ → Option ℕ
due_by link control leaving heard slot =
    first_of (lost_by link control.track.params heard slot)
    (first_of (option_map (λ (code : ErrCode). code.0) (timeout_of slot (held_of control)))
    (termination_due leaving.disconnected control.track.params slot))

abbrev pub due_with : Option LinkBegun → Option Control → Option Leaving → Option ℕ → ℕ → Option ℕ
due_with (Some link) (Some control) (Some leaving) heard slot = due_by link control leaving heard slot
due_with link control leaving heard slot = None

-- the reason for which the end of a side on the link with this number is to end in the turn that began last, by its
-- lines so far
unfoldable pub due_on : Words → Side → ℕ → List Entry → Option ℕ
due_on words side number front =
    due_with (link_numbered number front) (control_on words side number front) (leaving_on words side number front)
    (last_heard number side front) (turn_now front)

-- ---- as a turn ends

-- its own LL_TERMINATE_IND is acknowledged: 16; else one of its procedures ended the link, or a packet that it judged
-- forged did, or a PDU that its phase forbids: 3D (section 5.1.3.1); else it has sent a packet since it took
-- LL_TERMINATE_IND of the peer: the code of that (section 5.1.6)
abbrev pub ending_by : Control → Leaving → Option ErrCode
ending_by control leaving =
    if leaving.acknowledged then Some (record { 0 = terminated_by_local_host })
    else ended_by_procedures control.ends leaving

abbrev pub ending_with : Option Control → Option Leaving → Option ErrCode
ending_with (Some control) (Some leaving) = ending_by control leaving
ending_with control leaving = None

-- the code with which the end of a side on the link with this number is to end as the turn ends
unfoldable pub ending_on : Words → Side → ℕ → List Entry → Option ErrCode
ending_on words side number front = ending_with (control_on words side number front) (leaving_on words side number front)

-- ---- why a link is shut

-- a packet was on the air in the turn that began last
abbrev pub passed_after : Bool → Entry → Bool
passed_after before (Turn slot a_on b_on) = false
passed_after before (Air sender channel octets fate verdict) = true
passed_after before line = before

unfoldable pub packets_passed : List Entry → Bool
packets_passed front = fold passed_after false front

-- a line that comes after these says that a side shuts the link with this code
pub data IsShutAs (words : Words) (front : List Entry) (side : Side) (number : ℕ) (reason : ErrCode) : Type 0 where
  -- its host reset it; the code 00 is our choice
  reset : reason.0 ≡ success → CompletesReset front side → IsShutAs words front side number reason
  -- before the packets of a turn: it was to end as the turn began
  overdue : packets_passed front ≡ false → due_on words side number front ≡ Some reason.0
      → IsShutAs words front side number reason
  -- it is to end as the turn ends; between two turns no open end is
  leaving : ending_on words side number front ≡ Some reason → IsShutAs words front side number reason

abbrev pub AllAreShutAs : Words → List Entry → Type 0
AllAreShutAs words journal = (front rest : List Entry) (side : Side) (number : ℕ) (reason : ErrCode)
    → journal ≡ front ++ Shut side number reason ∷ rest → IsShutAs words front side number reason

-- ---- which links stay open

-- the reason for which the link was to end as the turn began that began last: it is looked at with the line of the turn.
-- What a host does in that turn does not change it, and parameters that come into force in it count from the next turn
abbrev pub due_begun_after : Words → Side → ℕ → List Entry → Option ℕ → Entry → Option ℕ
due_begun_after words side number front before (Turn slot a_on b_on) = due_on words side number (front ++ Turn slot a_on b_on ∷ [])
due_begun_after words side number front before line = before

abbrev pub due_begun_from : Words → Side → ℕ → List Entry → Option ℕ → List Entry → Option ℕ
due_begun_from words side number front before [] = before
due_begun_from words side number front before (line ∷ lines) =
    due_begun_from words side number (front ++ line ∷ []) (due_begun_after words side number front before line) lines

unfoldable pub due_begun : Words → Side → ℕ → List Entry → Option ℕ
due_begun words side number journal = due_begun_from words side number [] None journal

-- a link that is still open was not to end in the turn that began last
pub record StaysOpen (words : Words) (side : Side) (number : ℕ) (front : List Entry) : Type 0 where
  pub not_overdue : due_begun words side number front ≡ None
  pub not_leaving : ending_on words side number front ≡ None

abbrev pub AllStayOpen : Words → List Entry → Type 0
AllStayOpen words front = (side : Side) (number : ℕ) (control : Control) → control_on words side number front ≡ Some control
    → StaysOpen words side number front

-- so it is before each turn
abbrev pub AllEndInTime : Words → List Entry → Type 0
AllEndInTime words journal = (front rest : List Entry) (slot : ℕ) (a_on : Bool) (b_on : Option Bool)
    → journal ≡ front ++ Turn slot a_on b_on ∷ rest → AllStayOpen words front
