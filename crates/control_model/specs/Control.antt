-- The control part of one end of a link: its table of procedures and its parameters together (Core 5.2, volume 6 part B,
-- sections 5.1.1, 5.1.2 and 5.5).
use Rattle.std.specs.Prelude.{ℕ, nat_lt, Bool, ◌&&◌, List, [], ◌∷◌, ◌++◌, Option, Some, None, is_some, is_none, Result, if◌then◌else◌}
use Rattle.ble_base.specs.ErrorCodes.{instant_passed}
use Rattle.ble_base.specs.declared.error_codes.ErrCode.{ErrCode}
use Rattle.ble_base.specs.declared.roles.Role.{Role}
use Rattle.ble_base.specs.declared.roles.Role.TheVariants.{Central}
use Rattle.data_pdu.specs.declared.ctrl.Ctrl.{Ctrl}
use Rattle.data_pdu.specs.declared.ctrl.CtrlRead.{CtrlRead}
use Rattle.instants.specs.declared.indications.Params.{Params}
use Rattle.instants.specs.declared.indications.Indication.{Indication}
use Rattle.instants.specs.declared.track.Change.{Change}
use Rattle.instants.specs.Track
use Rattle.instants.specs.Track.{TrackFacts, event_of, gap_ahead, next_number, track_after_enter, track_after_take}
use Rattle.procedures.specs.procedure_values.declared.asks.Ask.{Ask}
use Rattle.procedures.specs.procedure_values.Drafts.{is_out}
use Rattle.procedures.specs.procedure_stages.declared.steps.Effect.{Effect}
use Rattle.procedures.specs.procedure_stages.declared.steps.Effect.TheVariants.{Indicated}
use Rattle.procedures.specs.procedure_stages.Closing.{is_open}
use Rattle.procedures.specs.procedure_stages.InProgress.{is_host_asked}
use Rattle.procedures.specs.procedure_stages.Kinds.{role_of}
use Rattle.procedures.specs.Table
use Rattle.procedures.specs.Table.{TableFacts}
use Rattle.procedures.specs.Beginning.{ask_step, begin_step}
use Rattle.procedures.specs.Going.{entered_step, host_answer_step, is_answer, owe_step, terminate_step}
use Rattle.procedures.specs.Sending.{acked_step, next_ctrl_of, went_step}
use Rattle.procedures.specs.Taking.{took_step}
use Rattle.two_tracks.specs.TwoEnds.{change_of}

pub record Control : Type 0 where
  -- its control procedures
  pub table : TableFacts
  -- its parameters and anchors
  pub track : TrackFacts
  -- the indications that it sent as a central, oldest first
  pub sent : List Change
  -- the code with which the link ended, once it did
  pub ends : Option ErrCode

-- an end as the link begins: with this role, the most octets that it receives, its first parameters and first anchor
abbrev pub first_control : Role → ℕ → Params → ℕ → Control
first_control role max_rx first slot =
    record { table = Table.first_facts role max_rx; track = Track.first_facts first slot; sent = []; ends = None }

-- what happens at an end, in the order of a link; `quiet` is phase Clear or Secure
pub data Step : Type 0 where
  -- an event is entered, and then one procedure may begin
  Enters : (slot : ℕ) → (quiet : Bool) → Step
  -- the host asks for a procedure
  Asks : Ask → Step
  -- the host answers a request of the peripheral
  Answers : Result Ask ErrCode → Step
  -- the host ends the link
  Disconnects : ErrCode → Step
  -- a control PDU is first sent, in the event entered last
  Sends : (slot : ℕ) → (quiet : Bool) → Step
  -- the last control PDU is acknowledged
  SeesAcknowledged : Step
  -- a control PDU of the peer is taken
  Takes : CtrlRead → (slot : ℕ) → (quiet : Bool) → Step
  -- the layer above queues a PDU of the encryption
  Owes : Ctrl → Step

-- ---- an event is entered

-- the table hears whether an indication holds from it, and then one procedure may begin
abbrev pub entered : ℕ → Bool → Control → Control
entered slot quiet c =
    record c {
      table = (begin_step (entered_step c.table (is_some (next_number c.track))).0 slot quiet).0;
      track = track_after_enter c.track;
    }

-- ---- a control PDU is sent

-- the table, and the indication that goes out, with the latency of the parameters of now
abbrev pub went : ℕ → Bool → Control → TableFacts × Option Indication
went slot quiet c = went_step c.table (event_of c.track) c.track.params.latency quiet slot

-- a central follows its own indication
abbrev pub following : Role → Option Indication → Control → Control
following Central (Some indication) c =
    record c {
      track = track_after_take c.track indication;
      sent = c.sent ++ change_of (event_of c.track) indication ∷ [];
    }
following role indication c = c

-- whether a control PDU may go out now
abbrev pub goes_out : Bool → Control → Bool
goes_out quiet c = is_some (next_ctrl_of c.table (event_of c.track) c.track.params.latency quiet)

abbrev pub sent : ℕ → Bool → Control → Control
sent slot quiet c =
    (if goes_out quiet c
    then following (role_of c.table.progress) (went slot quiet c).1 (record c { table = (went slot quiet c).0 })
    else c)

-- ---- a control PDU of the peer is taken

-- the indication that the table hands on
abbrev pub indicated_by : Effect → Option Indication
indicated_by (Indicated indication) = Some indication
indicated_by other = None

-- an indication whose Instant has not passed (section 5.5.1)
abbrev pub is_to_come : TrackFacts → Indication → Bool
is_to_come t indication = nat_lt (gap_ahead (event_of t) indication) 32767

-- the link ends, and this end stays as it was (our choice)
abbrev pub ended : ErrCode → Control → Control
ended code c = record c { ends = Some code }

-- the table is this one then; it ended the link with a code, or hands an indication on
abbrev pub taken : TableFacts → Option ErrCode → Option Indication → Control → Control
taken table (Some code) indication c = ended code c
taken table None None c = record c { table = table }
taken table None (Some indication) c =
    (if is_to_come c.track indication
    then record c { table = table; track = track_after_take c.track indication }
    else ended (record { 0 = instant_passed }) c)

abbrev pub took : CtrlRead → ℕ → Bool → Control → Control
took read slot quiet c =
    let step = took_step c.table read slot quiet in
    taken step.0 step.1.ends (indicated_by step.1.effect) c

-- ---- every step

-- a call that may not be made is no step
abbrev pub table_if : Bool → TableFacts → Control → Control
table_if may table c = (if may then record c { table = table } else c)

abbrev pub moved : Step → Control → Control
moved (Enters slot quiet) c = entered slot quiet c
moved (Asks ask) c = record c { table = ask_step c.table ask }
moved (Answers answer) c =
    table_if (is_host_asked c.table.progress && is_answer answer) (host_answer_step c.table answer) c
moved (Disconnects reason) c = table_if (is_open c.table.closing) (terminate_step c.table reason) c
moved (Sends slot quiet) c = sent slot quiet c
moved SeesAcknowledged c = table_if (is_out c.table.out) (acked_step c.table).0 c
moved (Takes read slot quiet) c = took read slot quiet c
moved (Owes ctrl) c = record c { table = owe_step c.table ctrl }

-- nothing happens once the link ended
abbrev pub after : Step → Control → Control
after step c = (if is_none c.ends then moved step c else c)

abbrev pub after_all : List Step → Control → Control
after_all [] c = c
after_all (step ∷ steps) c = after_all steps (after step c)
