-- How procedures go on as an event is entered, as the host answers or ends the link, and as time passes (Core 5.2,
-- volume 6 part B, sections 5.1 and 5.2).
use Rattle.std.specs.Prelude.{Bool, Option, None, if◌then◌else◌, ℕ, Result, Ok, Err, true, false, ◌+◌, nat_le, Some, ◌&&◌}
use Rattle.ble_base.specs.declared.procedure_kinds.Kind.{Kind}
use Rattle.ble_base.specs.declared.error_codes.ErrCode.{ErrCode}
use Rattle.ble_base.specs.declared.counters.SlotNo.{SlotNo}
use Rattle.ble_base.specs.ErrorCodes.{ll_response_timeout}
use Rattle.data_pdu.specs.declared.ctrl.Ctrl.{Ctrl}
use Rattle.data_pdu.specs.declared.ctrl.Ctrl.TheVariants.{TerminateInd}
use Rattle.procedure_stages.specs.procedure_values.declared.drafts.Draft.TheVariants.{Grant, Cipher}
use Rattle.exclusive_stages.specs.declared.stages.PeerAtCentral.TheVariants.{GrantUnsent, Absent}
use Rattle.procedure_stages.specs.procedure_values.declared.asks.Ask.{Ask}
use Rattle.procedure_stages.specs.procedure_values.declared.asks.Ask.TheVariants.{Update as ask_update}
use Rattle.procedure_stages.specs.Held.{progress_held, done_held}
use Rattle.procedure_stages.specs.InProgress.{peer_becomes}
use Rattle.procedure_stages.specs.Opcodes.{connection_param_req_opcode}
use Rattle.procedure_stages.specs.Kinds.{own_kind, is_timed}
use Rattle.procedure_stages.specs.declared.closing.Closing.TheVariants.{Disconnecting}
use Rattle.procedure_stages.specs.declared.closing.Closing.{Closing}
use Rattle.procedures.specs.Table.{TableFacts}
use Rattle.procedure_stages.specs.Closing.{closed}
use Rattle.procedure_stages.specs.Queue.{with_draft, with_rejection, with_disconnect}
use Rattle.procedures.specs.Encryption.{progress_given}

-- ---- an event is entered, from which an indication holds

abbrev pub entered_step : TableFacts → Bool → TableFacts × Option Kind
entered_step f applied =
    (if applied then (record f { progress = progress_held f.progress }, done_held f.progress) else (f, None))

-- ---- the host of a central answers a request of the peripheral (section 5.1.7)

-- it grants the request with these parameters, or refuses it
abbrev pub request_granted : TableFacts → ℕ → ℕ → ℕ → TableFacts
request_granted f interval latency timeout =
    record f {
      progress = peer_becomes GrantUnsent f.progress;
      queue =
          with_draft f.closing (Grant (record { interval = interval; latency = latency; timeout = timeout })) f.queue;
    }

abbrev pub request_refused : TableFacts → ErrCode → TableFacts
request_refused f code =
    record f {
      progress = peer_becomes Absent f.progress;
      queue = with_rejection f.closing (record { opcode = connection_param_req_opcode; code = code }) f.queue;
    }

abbrev pub granted_by : TableFacts → Ask → TableFacts
granted_by f (ask_update interval latency timeout) = request_granted f interval latency timeout
granted_by f other = f

abbrev pub host_answer_step : TableFacts → Result Ask ErrCode → TableFacts
host_answer_step f (Ok ask) = granted_by f ask
host_answer_step f (Err code) = request_refused f code

-- an answer that grants a request is an update
abbrev pub is_update : Ask → Bool
is_update (ask_update interval latency timeout) = true
is_update other = false

abbrev pub is_answer : Result Ask ErrCode → Bool
is_answer (Ok ask) = is_update ask
is_answer (Err code) = true

-- ---- the end of the link, and the PDUs of the encryption (sections 5.1.3 and 5.1.6)

-- the Disconnect of the host is accepted
abbrev pub terminate_step : TableFacts → ErrCode → TableFacts
terminate_step f reason =
    record f { queue = with_disconnect f.closing reason f.queue; closing = Disconnecting }

abbrev pub closing_given : Ctrl → Closing → Closing
closing_given (TerminateInd code) closing = closed closing
closing_given other closing = closing

-- the layer above queues a PDU of the encryption, the refusal of its start, or LL_TERMINATE_IND for want of a key
abbrev pub owe_step : TableFacts → Ctrl → TableFacts
owe_step f ctrl =
    record f {
      progress = progress_given f.progress ctrl;
      queue = with_draft f.closing (Cipher ctrl) f.queue;
      closing = closing_given ctrl f.closing;
    }

-- ---- the time in which the peer has to answer (section 5.2)

-- 40 s (section 5.2), in slots
abbrev pub response_slots : ℕ
response_slots = 32000

abbrev pub is_over : Option SlotNo → ℕ → Bool
is_over None slot = false
is_over (Some since) slot = nat_le (since.0 + response_slots) slot

abbrev pub tick_of : TableFacts → ℕ → Option ErrCode
tick_of f slot =
    (if is_timed (own_kind f.progress) && is_over f.since slot then Some (record { 0 = ll_response_timeout }) else None)
