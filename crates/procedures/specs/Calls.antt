-- The calls on a table, and what they make of it one after another (our choice).
use Rattle.std.specs.Prelude.{ℕ, Bool, Result, List, [], ◌∷◌, ◌+◌}
use Rattle.ble_base.specs.declared.error_codes.ErrCode.{ErrCode}
use Rattle.data_pdu.specs.declared.ctrl.Ctrl.{Ctrl}
use Rattle.data_pdu.specs.declared.ctrl.CtrlRead.{CtrlRead}
use Rattle.procedure_stages.specs.procedure_values.declared.asks.Ask.{Ask}
use Rattle.procedure_stages.specs.procedure_values.declared.drafts.Outgoing.{Outgoing}
use Rattle.procedure_stages.specs.procedure_values.declared.drafts.Outgoing.TheVariants.{Nothing, Other}
use Rattle.procedure_stages.specs.procedure_values.declared.drafts.Draft.TheVariants.{VersionInd}
use Rattle.procedures.specs.Table.{TableFacts}
use Rattle.procedures.specs.Taking.{took_step}
use Rattle.procedures.specs.Sending.{went_step, acked_step}
use Rattle.procedures.specs.Beginning.{ask_step, begin_step}
use Rattle.procedures.specs.Going.{entered_step, host_answer_step, terminate_step, owe_step}
use Rattle.procedures.specs.Queue.{next_of}

-- a call, with its arguments; event, latency, phase and slot in this order
pub data Call : Type 0 where
  asks : Ask → Call
  begins_one : ℕ → Bool → Call
  takes : CtrlRead → ℕ → Bool → Call
  sends : ℕ → ℕ → Bool → ℕ → Call
  is_acked : Call
  enters : Bool → Call
  host_answers : Result Ask ErrCode → Call
  disconnects : ErrCode → Call
  is_given : Ctrl → Call

-- the table after a call
abbrev pub after_call : TableFacts → Call → TableFacts
after_call f (asks ask) = ask_step f ask
after_call f (begins_one slot quiet) = (begin_step f slot quiet).0
after_call f (takes read slot quiet) = (took_step f read slot quiet).0
after_call f (sends event skips quiet slot) = (went_step f event skips quiet slot).0
after_call f is_acked = (acked_step f).0
after_call f (enters applied) = (entered_step f applied).0
after_call f (host_answers answer) = host_answer_step f answer
after_call f (disconnects reason) = terminate_step f reason
after_call f (is_given ctrl) = owe_step f ctrl

abbrev pub after_calls : TableFacts → List Call → TableFacts
after_calls f [] = f
after_calls f (call ∷ calls) = after_calls (after_call f call) calls

-- what a call sends
abbrev pub sent_by : TableFacts → Call → Outgoing
sent_by f (sends event skips quiet slot) = next_of f event quiet
sent_by f other = Nothing

-- how many times the own LL_VERSION_IND is among what is sent
abbrev pub version_count : Outgoing → ℕ
version_count (Other VersionInd) = 1
version_count other = 0

abbrev pub versions_sent : TableFacts → List Call → ℕ
versions_sent f [] = 0
versions_sent f (call ∷ calls) = version_count (sent_by f call) + versions_sent (after_call f call) calls
