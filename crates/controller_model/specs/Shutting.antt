-- Why links are shut (Core 5.2, volume 6 part B, sections 4.5.2, 5.1.6, 5.2 and 5.5.1, and volume 4 part E, section
-- 7.3.2).
use Rattle.std.specs.Prelude.{◌≡◌, ℕ, ◌+◌, ◌*◌, ◌≤◌, Bool, true, false, [], ◌∷◌, Some, None}
use Rattle.ble_base.specs.ErrorCodes.{success, connection_timeout, connection_not_established, terminated_by_local_host}
use Rattle.ble_base.specs.declared.error_codes.ErrCode.{ErrCode}
use Rattle.hci_cmd.specs.declared.command.Command.TheVariants.{Reset}
use Rattle.link_commands.specs.open_links.link_model.control_end.Answers.{timeout_of}
use Rattle.link_commands.specs.open_links.link_model.control_end.Held.{held_of}
use Rattle.link_commands.specs.open_links.link_model.declared.events.Reception.{Reception}
use Rattle.link_commands.specs.open_links.link_model.Lost.{reason_due}
use Rattle.link_commands.specs.open_links.link_model.Facts.{params_of}
use Rattle.link_commands.specs.open_links.OpenLinks.{OpenLink, facts_in, link_at}
use Rattle.link_commands.specs.open_links.Turns.{ending_in, reason_at}
use Rattle.controller_model.specs.Step.{Step, TurnBegins, TurnEnds}
use Rattle.controller_model.specs.Facts.{Facts}
use Rattle.controller_model.specs.Data.{facts_handed}
use Rattle.controller_model.specs.Host.{commands_accepted_after}

-- the link was heard in time in this slot
abbrev pub IsHeardInTime : ℕ → OpenLink → Type 0
IsHeardInTime slot link =
    reason_due link.setup.opened (params_of (facts_in link)) (facts_in link).last_good slot ≡ None

-- a link is to end as a turn begins in this slot, by the parameters in force
pub data IsOverdue (slot : ℕ) (link : OpenLink) (reason : ℕ) : Type 0 where
  -- nothing good was received, and six intervals have passed since the CONNECT_IND: 3E
  not_established : (facts_in link).last_good ≡ None
      → link.setup.opened + 6 * (params_of (facts_in link)).interval ≤ slot
      → reason ≡ connection_not_established → IsOverdue slot link reason
  -- the supervision timeout, in units of 10 ms, which are eight slots, has passed since the last good packet: 08
  timed_out : (good : Reception) → (facts_in link).last_good ≡ Some good
      → good.slot + 8 * (params_of (facts_in link)).timeout ≤ slot → reason ≡ connection_timeout
      → IsOverdue slot link reason
  -- else the peer has not answered a procedure in time: 22
  unanswered : (code : ErrCode) → IsHeardInTime slot link
      → timeout_of slot (held_of (facts_in link).control) ≡ Some code → reason ≡ code.0 → IsOverdue slot link reason
  -- else the host has ended the link, and the supervision timeout has passed since: 16
  not_acknowledged : (since : ℕ) → IsHeardInTime slot link
      → timeout_of slot (held_of (facts_in link).control) ≡ None → (facts_in link).leaving.disconnected ≡ Some since
      → since + 8 * (params_of (facts_in link)).timeout ≤ slot → reason ≡ terminated_by_local_host
      → IsOverdue slot link reason

-- a link is to end as a turn ends
pub data IsLeaving (link : OpenLink) (reason : ℕ) : Type 0 where
  -- its own LL_TERMINATE_IND is acknowledged: 16
  acknowledged : (facts_in link).leaving.acknowledged ≡ true → reason ≡ terminated_by_local_host
      → IsLeaving link reason
  -- else one of its procedures ended it
  failed : (code : ErrCode) → (facts_in link).leaving.acknowledged ≡ false
      → (facts_in link).control.ends ≡ Some code → reason ≡ code.0 → IsLeaving link reason
  -- else it has sent a packet since it took LL_TERMINATE_IND of the peer: the code of that
  ended_by_peer : (code : ErrCode) → (facts_in link).leaving.acknowledged ≡ false
      → (facts_in link).control.ends ≡ None → (facts_in link).leaving.answered ≡ true
      → (facts_in link).leaving.ended_by_peer ≡ Some code → reason ≡ code.0 → IsLeaving link reason

-- the link that may be under a handle does not end in a step in which a turn ends
abbrev pub StaysIn : Facts → Step → ℕ → Type 0
StaysIn facts step handle = step ≡ TurnEnds → reason_at ending_in (link_at handle facts.links) ≡ None

-- why the link under a handle is shut in a step
pub data IsShut (facts : Facts) (step : Step) (handle reason : ℕ) : Type 0 where
  -- a turn begins in a slot in which it is to end
  overdue : (slot : ℕ) (on : Bool) (link : OpenLink) → step ≡ TurnBegins slot on
      → link_at handle facts.links ≡ Some link → IsOverdue slot link reason → IsShut facts step handle reason
  -- a turn ends at the end of which it is to end
  leaving : (link : OpenLink) → step ≡ TurnEnds → link_at handle (facts_handed facts).links ≡ Some link
      → IsLeaving link reason → IsShut facts step handle reason
  -- the step completes a Reset; the code 00 is our choice
  reset : (link : OpenLink) → commands_accepted_after facts step ≡ Reset ∷ [] → link_at handle facts.links ≡ Some link
      → reason ≡ success → IsShut facts step handle reason
