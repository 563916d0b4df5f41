-- What each call on the control part of one end answers; nothing once it ended the link (Core 5.2, volume 6 part B,
-- sections 5.1, 5.2 and 5.5).
use Rattle.std.specs.Prelude.{ℕ, Bool, true, false, ◌&&◌, Option, Some, None, is_some, is_none, if◌then◌else◌}
use Rattle.ble_base.specs.declared.error_codes.ErrCode.{ErrCode}
use Rattle.ble_base.specs.declared.procedure_kinds.Kind.{Kind}
use Rattle.ble_base.specs.declared.roles.Role.{Role}
use Rattle.ble_base.specs.declared.roles.Role.TheVariants.{Central, Peripheral}
use Rattle.data_pdu.specs.declared.ctrl.Ctrl.{Ctrl}
use Rattle.data_pdu.specs.declared.ctrl.CtrlRead.{CtrlRead}
use Rattle.instants.specs.declared.indications.Indication.{Indication}
use Rattle.instants.specs.declared.indications.Indication.TheVariants.{Map, Update}
use Rattle.instants.specs.declared.track.Change.{Change}
use Rattle.instants.specs.Track.{next_number}
use Rattle.control_model.specs.procedures.procedure_values.Drafts.{is_out}
use Rattle.control_model.specs.procedures.procedure_stages.declared.steps.Effect.{Effect}
use Rattle.control_model.specs.procedures.procedure_stages.declared.steps.Effect.TheVariants.{Nothing, Indicated}
use Rattle.control_model.specs.procedures.procedure_stages.declared.steps.Step.{Step as TableStep}
use Rattle.control_model.specs.procedures.procedure_stages.InProgress.{is_host_asked}
use Rattle.control_model.specs.procedures.procedure_stages.Kinds.{role_of}
use Rattle.control_model.specs.procedures.Table.{TableFacts}
use Rattle.control_model.specs.procedures.Beginning.{begin_step, may_ask_of}
use Rattle.control_model.specs.procedures.Going.{entered_step, tick_of}
use Rattle.control_model.specs.procedures.Sending.{acked_step, next_ctrl_of}
use Rattle.control_model.specs.procedures.Taking.{took_step}
use Rattle.instants.specs.Track.{event_of}
use Rattle.control_model.specs.Control.{Takes, went}
use Rattle.control_end.specs.declared.answers.Entry.{Entry}
use Rattle.control_end.specs.declared.answers.Taken.{Taken}
use Rattle.control_end.specs.Held.{Held, control_of, held_after}

-- this end has not ended the link
abbrev pub goes_on : Held → Bool
goes_on h = is_none h.ends

-- ---- an event is entered

abbrev pub no_entry : Entry
no_entry = record { applied = None; updated = false; done = None; began = None }

-- the indication that waits is an update of the parameters (section 5.1.1)
abbrev pub is_update : Indication → Bool
is_update (Update win_offset interval latency timeout instant) = true
is_update (Map map instant) = false

abbrev pub is_update_waiting : Option Change → Bool
is_update_waiting None = false
is_update_waiting (Some change) = is_update change.indication

-- the table as the event is entered, and the procedure that is done
abbrev pub entry_step : Held → TableFacts × Option Kind
entry_step h = entered_step h.table (is_some (next_number h.track))

abbrev pub entry_of : ℕ → Bool → Held → Entry
entry_of slot quiet h =
    (if goes_on h
    then record {
      applied = next_number h.track;
      updated = is_some (next_number h.track) && is_update_waiting h.track.waits;
      done = (entry_step h).1;
      began = (begin_step (entry_step h).0 slot quiet).1;
    }
    else no_entry)

-- ---- the host

-- the host may ask for a procedure of this kind
abbrev pub may_ask : Kind → Held → Bool
may_ask kind h = goes_on h && may_ask_of h.table kind

-- a request of the peripheral waits for the answer of the host
abbrev pub awaits_host : Held → Bool
awaits_host h = goes_on h && is_host_asked h.table.progress

-- ---- a control PDU is sent and acknowledged

-- the control PDU that goes next
abbrev pub next_ctrl : Bool → Held → Option Ctrl
next_ctrl quiet h =
    (if goes_on h then next_ctrl_of h.table (event_of h.track) h.track.params.latency quiet else None)

-- the indication that a central follows as it sends what is next
abbrev pub own_indication : Role → Option Indication → Option Indication
own_indication Central indication = indication
own_indication Peripheral indication = None

abbrev pub indication_next : ℕ → Bool → Held → Option Indication
indication_next slot quiet h =
    own_indication (role_of h.table.progress) (went slot quiet (control_of h)).1

abbrev pub is_unacknowledged : Held → Bool
is_unacknowledged h = goes_on h && is_out h.table.out

abbrev pub done_by_acknowledgement : Held → Option Kind
done_by_acknowledgement h = (if is_unacknowledged h then (acked_step h.table).1 else None)

-- ---- a control PDU of the peer is taken

abbrev pub nothing_taken : Taken
nothing_taken = record { effect = Nothing; refused = None; done = None }

-- the layer above has nothing to do with an indication
abbrev pub effect_shown : Effect → Effect
effect_shown (Indicated indication) = Nothing
effect_shown other = other

abbrev pub step_shown : TableStep → Taken
step_shown step = record { effect = effect_shown step.effect; refused = step.refused; done = step.done }

-- what the table gives, unless the link ends by it
abbrev pub taken_of : CtrlRead → ℕ → Bool → Held → Taken
taken_of read slot quiet h =
    (if goes_on (held_after (Takes read slot quiet) h)
    then step_shown (took_step h.table read slot quiet).1
    else nothing_taken)

-- ---- time passes

abbrev pub timeout_of : ℕ → Held → Option ErrCode
timeout_of slot h = (if goes_on h then tick_of h.table slot else None)
