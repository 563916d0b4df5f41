-- When a link ends, how long an event holds the radio, and which events a peripheral skips (Core 5.2, volume 6 part B,
-- sections 4.5.1, 4.5.2, 4.5.6, 5.1.6 and 5.2).
use Rattle.std.specs.Prelude.{ℕ, ◌==◌, ◌&&◌, ◌||◌, length, Bool, not, Option, Some, None, if◌then◌else◌}
use Rattle.std.specs.Option.{option_map}
use Rattle.ble_base.specs.ErrorCodes.{terminated_by_local_host}
use Rattle.ble_base.specs.declared.error_codes.ErrCode.{ErrCode}
use Rattle.instants.specs.declared.indications.Params.{Params}
use Rattle.instants.specs.Track.{is_free}
use Rattle.phased_end.specs.control_end.procedure_stages.Queue.{waiting_in}
use Rattle.phased_end.specs.control_end.procedure_stages.InProgress.{is_busy}
use Rattle.phased_end.specs.control_end.Answers.{timeout_of}
use Rattle.phased_end.specs.control_end.Held.{held_of}
use Rattle.link_model.specs.Setup.{Setup}
use Rattle.link_model.specs.Acknowledgement.{is_acked}
use Rattle.link_model.specs.Data.{is_empty, unsent_of}
use Rattle.link_model.specs.Lost.{has_timed_out, reason_due, skips_by}
use Rattle.link_model.specs.declared.state.Leaving.{Leaving}
use Rattle.link_model.specs.Facts.{Facts, params_of}

-- ---- at the start of a turn

abbrev pub first_of : Option ℕ → Option ℕ → Option ℕ
first_of None other = other
first_of (Some code) other = Some code

-- this end was to end the link, and the supervision timeout has passed since (section 5.1.6)
abbrev pub termination_due : Option ℕ → Params → ℕ → Option ℕ
termination_due None params slot = None
termination_due (Some since) params slot =
    if has_timed_out since params.timeout slot then Some terminated_by_local_host else None

-- the reason for which it ends then, if it does: nothing good was received for too long, the peer has not answered in
-- time, or the own LL_TERMINATE_IND was not acknowledged in time; of several reasons the first counts (our choice)
abbrev pub due_of : Setup → Facts → ℕ → Option ℕ
due_of setup facts slot =
    first_of (reason_due setup.opened (params_of facts) facts.last_good slot)
    (first_of (option_map (λ (code : ErrCode). code.0) (timeout_of slot (held_of facts.control)))
    (termination_due facts.leaving.disconnected (params_of facts) slot))

-- ---- at the end of a turn

-- the peer ends the link once a packet was sent after its LL_TERMINATE_IND
abbrev pub ended_by_peer : Leaving → Option ErrCode
ended_by_peer leaving = if leaving.answered then leaving.ended_by_peer else None

abbrev pub ended_by_procedures : Option ErrCode → Leaving → Option ErrCode
ended_by_procedures None leaving = ended_by_peer leaving
ended_by_procedures (Some code) leaving = Some code

-- the reason for which it ends then, if it does: its own LL_TERMINATE_IND is acknowledged, one of its procedures ended
-- the link, or the peer did (section 5.1.6; the order is our choice)
abbrev pub ending_of : Facts → Option ErrCode
ending_of facts =
    if facts.leaving.acknowledged then Some (record { 0 = terminated_by_local_host })
    else ended_by_procedures facts.control.ends facts.leaving

-- ---- an event

-- the slots for which an event holds the radio: two with one exchange in each while no payload is longer than 27 octets,
-- else four with one exchange in the first (our choice)
abbrev pub span_of : Facts → ℕ
span_of facts = if facts.lengths.long then 4 else 2

-- the event that it entered last has a second exchange, in the slot after its anchor: a good packet was received in the
-- first one, and a packet of that says that more waits (section 4.5.6; which packet decides is our choice). There is
-- none where a length was changed since the event was entered
abbrev pub has_second_exchange : Facts → Bool
has_second_exchange facts =
    facts.event.heard && facts.event.more && (not facts.lengths.long && not facts.lengths.changed)

-- ---- latency

-- it has nothing to send: the PDU that it sent last is acknowledged or empty, and no control PDU and no data waits
abbrev pub has_nothing_to_send : Facts → Bool
has_nothing_to_send facts =
    (is_acked facts.acknowledgement || is_empty facts.acknowledgement.last)
    && (waiting_in facts.control.table.queue == 0) && (length (unsent_of facts.outgoing) == 0)

-- no procedure is in progress, and no indication waits
abbrev pub is_idle : Facts → Bool
is_idle facts =
    has_nothing_to_send facts && (not (is_busy facts.control.table.progress) && is_free facts.control.track)

-- it wants the radio for the event that it entered last
abbrev pub wants_of : Setup → Facts → Bool
wants_of setup facts = not (skips_by setup.link.role facts.event facts.last_good (is_idle facts))
