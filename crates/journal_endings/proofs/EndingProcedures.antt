-- Only a good packet that an end receives lets a procedure of the end end the link.
use Rattle.std.proofs.Common.{◌≡◌, ℕ, ◌&&◌, Bool, true, false, Option, Result, refl, ap, ◌∙◌, if◌then◌else◌}
use Rattle.ble_base.specs.declared.error_codes.ErrCode.{ErrCode}
use Rattle.link_runs.specs.link_pairs.control_model.Control.{Answers, Asks, Control, Disconnects, Enters, Owes, after}
use Rattle.link_runs.specs.link_pairs.link_model.Controls.{goes_on, is_quiet_now}
use Rattle.link_runs.specs.link_pairs.link_model.Data.{is_control}
use Rattle.link_runs.specs.link_pairs.link_model.End.{facts_after}
use Rattle.link_runs.specs.link_pairs.link_model.Entering.{control_entered, facts_entered_if}
use Rattle.link_runs.specs.link_pairs.link_model.Facts.{Facts}
use Rattle.link_runs.specs.link_pairs.link_model.Fixing.{fixed_anew}
use Rattle.link_runs.specs.link_pairs.link_model.Hosts.{asked_unless, is_to_come}
use Rattle.link_runs.specs.link_pairs.link_model.Sending.{control_gone_if, takes_leave}
use Rattle.link_runs.specs.link_pairs.link_model.Setup.{Setup}
use Rattle.link_runs.specs.link_pairs.link_model.Step.{DataGiven, DataReported, Disconnected, EventEntered, KeyAnswered, PacketReceived, PacketSent, PduFixed, ProcedureAsked, RequestAnswered, Step, WordsGiven}
use Rattle.link_runs.specs.link_pairs.procedure_stages.Closing.{is_open}
use Rattle.link_runs.specs.link_pairs.procedure_stages.InProgress.{is_host_asked}
use Rattle.link_runs.specs.link_pairs.procedure_values.declared.asks.Ask.{Ask}
use Rattle.link_runs.specs.link_pairs.procedures.Going.{host_answer_step, is_answer, terminate_step}
use Rattle.link_runs.proofs.link_pairs.ControlKept.{sent_ends, table_ends}
use Rattle.link_runs.proofs.link_pairs.control_model.Calls.{any_step}
use Rattle.link_runs.proofs.link_pairs.link_model.Views.{Owed, Owing, Same, entered_view, key_view}

-- ---- the control part

abbrev EndsAs : Option ErrCode → Control → Type 0
EndsAs ends c = c.ends ≡ ends

asked_ends : (c : Control) (ask : Ask) → EndsAs c.ends (after (Asks ask) c)
asked_ends c ask = any_step (EndsAs c.ends) (Asks ask) c refl refl

entered_ends : (c : Control) (slot : ℕ) (quiet : Bool) → EndsAs c.ends (after (Enters slot quiet) c)
entered_ends c slot quiet = any_step (EndsAs c.ends) (Enters slot quiet) c refl refl

answered_ends : (c : Control) (answer : Result Ask ErrCode) → EndsAs c.ends (after (Answers answer) c)
answered_ends c answer =
    any_step (EndsAs c.ends) (Answers answer) c
    (table_ends (is_host_asked c.table.progress && is_answer answer) (host_answer_step c.table answer) c) refl

disconnected_ends : (c : Control) (reason : ErrCode) → EndsAs c.ends (after (Disconnects reason) c)
disconnected_ends c reason =
    any_step (EndsAs c.ends) (Disconnects reason) c (table_ends (is_open c.table.closing) (terminate_step c.table reason) c) refl

-- and one PDU of the encryption may be owed then
owing_ends : (c d : Control) → Owing c d → EndsAs c.ends d
owing_ends c d (Same is) = ap (λ (e : Control). e.ends) is
owing_ends c d (Owed ctrl may is) = ap (λ (e : Control). e.ends) is ∙ any_step (EndsAs c.ends) (Owes ctrl) c refl refl

-- ---- the end

asked_if : (comes : Bool) (ask : Ask) (facts : Facts) → EndsAs facts.control.ends (asked_unless comes ask facts).control
asked_if true ask facts = refl
asked_if false ask facts = asked_ends facts.control ask

entered_if : (goes : Bool) (setup : Setup) (slot : ℕ) (facts : Facts) → EndsAs facts.control.ends (facts_entered_if goes setup slot facts).control
entered_if true setup slot facts =
    owing_ends (after (Enters slot (is_quiet_now facts)) facts.control) (control_entered slot facts) (entered_view slot facts)
    ∙ entered_ends facts.control slot (is_quiet_now facts)
entered_if false setup slot facts = refl

fixed_if : (stays : Bool) (facts : Facts) → EndsAs facts.control.ends (if stays then facts else fixed_anew facts).control
fixed_if true facts = refl
fixed_if false facts = refl

gone_if : (goes : Bool) (slot : ℕ) (facts : Facts) → EndsAs facts.control.ends (control_gone_if goes slot facts).control
gone_if true slot facts = sent_ends facts.control slot (is_quiet_now facts)
gone_if false slot facts = refl

abbrev pub is_receiving : Step → Bool
is_receiving (PacketReceived slot octets room) = true
is_receiving step = false

pub same_ends : (setup : Setup) (facts : Facts) (step : Step) → is_receiving step ≡ false → (facts_after setup facts step).control.ends ≡ facts.control.ends
same_ends setup facts (DataGiven start body) is = refl
same_ends setup facts (ProcedureAsked ask) is = asked_if (is_to_come ask facts) ask facts
same_ends setup facts (RequestAnswered answer) is = answered_ends facts.control answer
same_ends setup facts (KeyAnswered key slot) is = owing_ends facts.control _ (key_view key facts)
same_ends setup facts (Disconnected reason slot) is = disconnected_ends facts.control reason
same_ends setup facts (EventEntered slot) is = entered_if (goes_on facts) setup slot facts
same_ends setup facts PduFixed is = fixed_if (is_control facts.outgoing.fixed) facts
same_ends setup facts (PacketSent slot) is = gone_if (takes_leave facts) slot facts
same_ends setup facts (WordsGiven skd_s iv_s) is = refl
same_ends setup facts (PacketReceived slot octets room) is = absurd (cc)
same_ends setup facts DataReported is = refl
