-- Which moves of the exchanges each step of a joint run is (Core 5.2, volume 6 part B, sections 5.1.4, 5.1.5 and
-- 5.1.9).
use Rattle.std.specs.Prelude.{ℕ, Bool, not, ◌&&◌, List, [], ◌∷◌, ◌++◌, Option, Some, None, if◌then◌else◌}
use Rattle.ble_base.specs.declared.roles.Role.{Role}
use Rattle.ble_base.specs.declared.roles.Role.TheVariants.{Central, Peripheral}
use Rattle.data_pdu.specs.declared.ctrl.Ctrl.{Ctrl}
use Rattle.joint_controls.specs.enc_phase.declared.facts.Transition.TheVariants.{Refuse}
use Rattle.joint_controls.specs.enc_phase.Phases.{may_follow}
use Rattle.exchange_steps.specs.procedures.Beginning.{begin_step}
use Rattle.exchange_steps.specs.Steps.{EndStep, step_of_ask, step_of_begun, terminates}
use Rattle.joint_controls.specs.phased_control.Phased.{Phased, is_open_now, is_quiet_now, table_entered}
use Rattle.joint_controls.specs.Joint.{AsksFor, CentralEnters, CentralHost, CentralSends, CentralTakes, Ends, HasNoKey, HostStep, Joint, JointStep, PeripheralEnters, PeripheralFixes, PeripheralHost, PeripheralTakes, act, next_out}
use Rattle.joint_exchanges.specs.Moves.{Does, Keeps, Move, Sends, Takes, TakesKept}
use Rattle.joint_exchanges.specs.Parts.{AnyPdu, pdu_kept, pdu_of_outgoing, pdu_on}

-- ---- one move, or none

abbrev pub does : Role → Option EndStep → List Move
does role None = []
does role (Some step) = Does role step ∷ []

abbrev pub sends : Role → Option AnyPdu → List Move
sends role None = []
sends role (Some pdu) = Sends role pdu ∷ []

abbrev pub takes : Role → Option AnyPdu → List Move
takes role None = []
takes role (Some pdu) = Takes role pdu ∷ []

abbrev pub keeps : Option AnyPdu → List Move
keeps None = []
keeps (Some pdu) = Keeps pdu ∷ []

-- ---- what one end does

-- as an event is entered a procedure may begin
abbrev pub begun_as_entered : ℕ → Phased → Option EndStep
begun_as_entered slot s = step_of_begun (begin_step (table_entered s) slot (is_quiet_now s)).1

abbrev pub terminates_if : Bool → Option EndStep
terminates_if b = (if b then Some terminates else None)

-- a host asks, or ends the link; without a key a peripheral ends it after a pause
abbrev pub host_does : HostStep → Phased → Option EndStep
host_does (AsksFor ask) s = step_of_ask ask
host_does (Ends reason) s = terminates_if (is_open_now s)
host_does HasNoKey s = terminates_if (s.asks_key && is_open_now s && not (may_follow Refuse s.phase))
host_does step s = None

-- what the central kept it has taken where nothing is kept any more
abbrev pub kept_taken : Option AnyPdu → Option Ctrl → List Move
kept_taken None now = []
kept_taken (Some pdu) None = TakesKept pdu ∷ []
kept_taken (Some pdu) (Some ctrl) = []

-- the central keeps the PDU that comes, or takes it and then the one that it kept, by what it keeps before and after
abbrev pub central_takes : Option AnyPdu → Option Ctrl → Option Ctrl → List Move
central_takes pdu None (Some ctrl) = keeps pdu
central_takes pdu kept now = takes Central pdu ++ kept_taken (pdu_kept kept) now

-- ---- each step

abbrev pub moves_of : JointStep → Joint → List Move
moves_of (CentralEnters slot) s = does Central (begun_as_entered slot s.central)
moves_of (CentralHost step) s = does Central (host_does step s.central)
moves_of (CentralSends slot) s = sends Central (pdu_of_outgoing (next_out s.central))
moves_of (CentralTakes slot) s =
    central_takes (pdu_on s.up) s.central.kept (act (CentralTakes slot) s).central.kept
moves_of (PeripheralEnters slot) s = does Peripheral (begun_as_entered slot s.peripheral)
moves_of (PeripheralHost step) s = does Peripheral (host_does step s.peripheral)
moves_of (PeripheralFixes slot) s = sends Peripheral (pdu_of_outgoing (next_out s.peripheral))
moves_of (PeripheralTakes slot response) s = takes Peripheral (pdu_on s.down)
moves_of step s = []
