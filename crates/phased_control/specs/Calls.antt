-- Which calls on its table the steps of an end make (our choice).
use Rattle.std.specs.Prelude.{Bool, ◌&&◌, List, [], ◌∷◌, ◌++◌, is_none, is_some, if◌then◌else◌, ⊤}
use Rattle.instants.specs.Track.{event_of, next_number}
use Rattle.table_laws.specs.procedure_values.Drafts.{is_out}
use Rattle.table_laws.specs.procedure_stages.Closing.{is_open}
use Rattle.table_laws.specs.procedure_stages.InProgress.{is_host_asked}
use Rattle.table_laws.specs.procedures.Calls.{Call, after_call, asks, begins_one, disconnects, enters, host_answers, is_acked, is_given, sends, takes}
use Rattle.table_laws.specs.procedures.Going.{is_answer}
use Rattle.table_laws.specs.procedures.Table.{TableFacts}
use Rattle.table_laws.specs.Quiet.{PassesPhase}
use Rattle.control_model.specs.Control.{Control, Step, Answers, Asks, Disconnects, Enters, Owes, SeesAcknowledged, Sends, Takes, after, goes_out, took}
use Rattle.phased_control.specs.Phased.{Phased}
use Rattle.phased_control.specs.Steps.{steps_now}
use Rattle.phased_control.specs.Taken.{PhasedStep, phased_after}

abbrev pub call_if : Bool → Call → List Call
call_if is call = (if is then call ∷ [] else [])

-- a PDU that ends the link leaves the table as it was: that call is not counted
abbrev pub calls_of : Step → Control → List Call
calls_of (Enters slot quiet) c = enters (is_some (next_number c.track)) ∷ begins_one slot quiet ∷ []
calls_of (Asks ask) c = asks ask ∷ []
calls_of (Answers answer) c = call_if (is_host_asked c.table.progress && is_answer answer) (host_answers answer)
calls_of (Disconnects reason) c = call_if (is_open c.table.closing) (disconnects reason)
calls_of (Sends slot quiet) c =
    call_if (goes_out quiet c) (sends (event_of c.track) c.track.params.latency quiet slot)
calls_of SeesAcknowledged c = call_if (is_out c.table.out) is_acked
calls_of (Takes read slot quiet) c = call_if (is_none (took read slot quiet c).ends) (takes read slot quiet)
calls_of (Owes ctrl) c = is_given ctrl ∷ []

-- nothing happens once the link ended
abbrev pub calls_now : Step → Control → List Call
calls_now step c = (if is_none c.ends then calls_of step c else [])

abbrev pub all_calls : List Step → Control → List Call
all_calls [] c = []
all_calls (step ∷ steps) c = calls_now step c ++ all_calls steps (after step c)

-- those of all steps of an end with its phase
abbrev pub all_phased_calls : List PhasedStep → Phased → List Call
all_phased_calls [] s = []
all_phased_calls (step ∷ steps) s =
    all_calls (steps_now step s) s.control ++ all_phased_calls steps (phased_after step s)

-- each passes the phase as the table has it
abbrev pub AllPassPhase : TableFacts → List Call → Type 0
AllPassPhase f [] = ⊤
AllPassPhase f (call ∷ calls) = PassesPhase f call × AllPassPhase (after_call f call) calls
