-- What a call on a table answers of the procedures that exclude each other.
use Rattle.std.specs.Prelude.{Bool, true, false, Option, Some, None, List, [], ◌∷◌, if◌then◌else◌}
use Rattle.ble_base.specs.ErrorCodes.{ll_procedure_collision, different_transaction_collision, instant_passed, unsupported_remote_feature}
use Rattle.ble_base.specs.declared.error_codes.ErrCode.{ErrCode}
use Rattle.ble_base.specs.declared.procedure_kinds.Kind.{Kind}
use Rattle.data_pdu.specs.declared.ctrl.Ctrl.TheVariants.{TerminateInd, RejectInd, RejectExtInd}
use Rattle.data_pdu.specs.declared.ctrl.CtrlRead.{CtrlRead}
use Rattle.data_pdu.specs.declared.ctrl.CtrlRead.TheVariants.{Known}
use Rattle.procedure_values.specs.declared.drafts.Draft.{Draft}
use Rattle.procedure_values.specs.declared.drafts.Outgoing.{Outgoing}
use Rattle.procedure_values.specs.declared.drafts.Outgoing.TheVariants.{Nothing, Other}
use Rattle.procedure_stages.specs.Collisions.{is_exclusive}
use Rattle.procedure_stages.specs.Queue.{QueueFacts, next_by}
use Rattle.exclusive_stages.specs.declared.pdus.Exclusive.{Exclusive}
use Rattle.exclusive_stages.specs.declared.pdus.Reason.TheVariants.{SameKind}
use Rattle.exclusive_stages.specs.declared.pdus.Pdu.{Pdu}
use Rattle.exclusive_stages.specs.Kinds.{kind_of}
use Rattle.collisions.specs.declared.joint.End.{End}
use Rattle.collisions.specs.declared.joint.End.TheVariants.{Open, InstantPassed, Collided}

-- a joint run stops where an end takes LL_TERMINATE_IND
abbrev pub stops_run : CtrlRead → Bool
stops_run (Known (TerminateInd code)) = true
stops_run other = false

-- ---- the end of the link

-- the error: two of one kind, or not, or a passed Instant, for which the layer above looks
abbrev pub code_of_end : End → Option ErrCode
code_of_end Open = None
code_of_end InstantPassed = Some (record { 0 = instant_passed })
code_of_end (Collided SameKind) = Some (record { 0 = ll_procedure_collision })
code_of_end (Collided reason) = Some (record { 0 = different_transaction_collision })

-- ---- what the host hears

-- a procedure that is completed, if it is one of these
abbrev pub exclusive_done : Option Kind → Option Kind
exclusive_done None = None
exclusive_done (Some kind) = (if is_exclusive kind then Some kind else None)

-- a procedure that is refused, if it is one of these
abbrev pub exclusive_refusal : Option (Kind × ErrCode) → Option (Kind × ErrCode)
exclusive_refusal None = None
exclusive_refusal (Some refusal) = (if is_exclusive refusal.0 then Some refusal else None)

-- the procedure that was in progress and is over
abbrev pub kind_over : Option Exclusive → Option Exclusive → Option Kind
kind_over (Some kind) None = Some (kind_of kind)
kind_over before after = None

-- the error of a refusal: LL_UNKNOWN_RSP names none, and means an unsupported remote feature (volume 6 part B, section
-- 2.4.2.8)
abbrev pub code_of_refusal : CtrlRead → ErrCode
code_of_refusal (Known (RejectInd code)) = record { 0 = code }
code_of_refusal (Known (RejectExtInd opcode code)) = record { 0 = code }
code_of_refusal other = record { 0 = unsupported_remote_feature }

abbrev pub refusal_with : Option Exclusive → ErrCode → Option (Kind × ErrCode)
refusal_with None code = None
refusal_with (Some kind) code = Some (kind_of kind, code)

-- ---- what is sent next

abbrev pub first_draft : List Draft → Outgoing
first_draft [] = Nothing
first_draft (draft ∷ drafts) = Other draft

-- the first in the order of sending, but for LL_TERMINATE_IND of a Disconnect
abbrev pub first_waiting : QueueFacts → Outgoing
first_waiting queue = next_by queue.rejections (first_draft queue.drafts)

-- a PDU, if there is one and it may go
abbrev pub if_it_may : (Pdu → Bool) → Option Pdu → Option Pdu
if_it_may test None = None
if_it_may test (Some pdu) = (if test pdu then Some pdu else None)
