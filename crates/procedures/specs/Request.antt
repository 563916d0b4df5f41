-- Connection parameters request of a peripheral (Core 5.2, volume 6 part B, section 5.1.7), and what a collision with
-- the first PDU of the peer does (section 5.3).
use Rattle.std.specs.Prelude.{ℕ, Bool, Option, Some, None, if◌then◌else◌}
use Rattle.ble_base.specs.declared.error_codes.ErrCode.{ErrCode}
use Rattle.ble_base.specs.declared.procedure_kinds.Kind.{Kind}
use Rattle.ble_base.specs.ErrorCodes.{invalid_ll_parameters}
use Rattle.ble_base.specs.declared.procedure_kinds.Kind.TheVariants.{Request}
use Rattle.procedure_stages.specs.declared.stages.Central.{Central}
use Rattle.procedure_stages.specs.declared.stages.Peripheral.{Peripheral}
use Rattle.exclusive_stages.specs.declared.stages.PeerAtCentral.TheVariants.{Absent, HostAsked}
use Rattle.procedure_stages.specs.declared.stages.Progress.TheVariants.{Central as central}
use Rattle.procedure_stages.specs.Kinds.{kind_at_central, kind_at_peripheral}
use Rattle.procedure_stages.specs.Collisions.{collision}
use Rattle.exclusive_stages.specs.Awaited.{peer_answered, central_answered}
use Rattle.procedure_stages.specs.Opcodes.{connection_param_req_opcode}
use Rattle.procedure_stages.specs.procedure_values.Values.{are_valid}
use Rattle.procedures.specs.declared.outcome.Outcome.{Outcome}
use Rattle.procedure_stages.specs.declared.steps.Effect.TheVariants.{AskHost}
use Rattle.procedures.specs.Table.{TableFacts}
use Rattle.procedures.specs.Outcomes.{rejected, ended, moved, with_effect}
use Rattle.procedure_stages.specs.Exclusive.{central_stage, peripheral_stage}

-- ---- collisions, by which end takes the PDU

-- the first PDU of a procedure of the peripheral reaches a central: where its own procedure excludes that, the link
-- ends if the peer has sent a PDU of it, else the peripheral's is rejected and the own goes on (section 5.3)
abbrev pub collided : TableFacts → Bool → ℕ → Option ErrCode → Outcome → Outcome
collided f answered opcode None other = other
collided f answered opcode (Some code) other = (if answered then ended f code else rejected f opcode code)

abbrev pub against_central : TableFacts → Central → Kind → ℕ → Outcome → Outcome
against_central f c kind opcode other =
    collided f (peer_answered (central_stage c.own)) opcode (collision (kind_at_central c.own) kind) other

-- the first PDU of a procedure of the central reaches a peripheral: where its own procedure excludes that, the link
-- ends if the central has sent a PDU of it, else it takes up the central's and awaits the rejection of its own
abbrev pub outlived : TableFacts → Option ErrCode → Outcome → Outcome
outlived f None other = other
outlived f (Some code) other = ended f code

abbrev pub after_grant : TableFacts → Peripheral → Kind → Outcome → Outcome
after_grant f p kind other =
    (if central_answered (peripheral_stage p.own) then outlived f (collision (kind_at_peripheral p.own) kind) other else other)

-- ---- the request at the central

-- a request with other parameters is rejected (section 5.1.7.2); else the host is asked, anew where it was asked already
abbrev pub request_judged : TableFacts → Central → ℕ → ℕ → ℕ → ℕ → Outcome
request_judged f c min max latency timeout =
    (if are_valid min max latency timeout
    then with_effect (AskHost min max latency timeout) (moved f (central (record c { peer = HostAsked })))
    else record (rejected f connection_param_req_opcode (record { 0 = invalid_ll_parameters })) {
      progress = central (record c { peer = Absent });
    })

-- LL_CONNECTION_PARAM_REQ is taken at a central
abbrev pub request_taken : TableFacts → Central → ℕ → ℕ → ℕ → ℕ → Outcome
request_taken f c min max latency timeout =
    against_central f c Request connection_param_req_opcode (request_judged f c min max latency timeout)
