-- What joint runs see of the PDUs that a table of procedures has: those of the procedures that exclude each other,
-- without their values.
use Rattle.std.specs.Prelude.{ℕ, ◌==◌, List, [], ◌∷◌, Option, Some, None, if◌then◌else◌}
use Rattle.ble_base.specs.ErrorCodes.{ll_procedure_collision, different_transaction_collision}
use Rattle.ble_base.specs.declared.error_codes.ErrCode.{ErrCode}
use Rattle.procedure_values.specs.declared.drafts.Draft.{Draft}
use Rattle.procedure_values.specs.declared.drafts.Rejection.{Rejection}
use Rattle.procedure_values.specs.declared.drafts.Outgoing.{Outgoing}
use Rattle.procedure_values.specs.declared.drafts.Outgoing.TheVariants.{Nothing, Rejection as outgoing_rejection, Disconnect, Other as outgoing_draft}
use Rattle.exclusive_stages.specs.declared.pdus.Reason.{Reason}
use Rattle.exclusive_stages.specs.declared.pdus.Reason.TheVariants.{SameKind, OtherKind, Other}
use Rattle.exclusive_stages.specs.declared.pdus.Pdu.{Pdu}
use Rattle.exclusive_stages.specs.declared.pdus.Pdu.TheVariants.{RejectParam, RejectPhy}
use Rattle.procedure_stages.specs.Exclusive.{pdu_of_draft}
use Rattle.procedure_stages.specs.Opcodes.{connection_param_req_opcode, phy_req_opcode}

-- the opcodes of the two first PDUs of a peripheral's procedures
abbrev pub param_request_opcode : ℕ
param_request_opcode = connection_param_req_opcode

abbrev pub phy_request_opcode : ℕ
phy_request_opcode = phy_req_opcode

-- the reason of a rejection, by its error
abbrev pub reason_part : ErrCode → Reason
reason_part code =
    (if code.0 == ll_procedure_collision then SameKind
    else (if code.0 == different_transaction_collision then OtherKind else Other))

-- a rejection, if it is of one of these procedures
abbrev pub rejection_part : Rejection → Option Pdu
rejection_part rejection =
    (if rejection.opcode == param_request_opcode then Some (RejectParam (reason_part rejection.code))
    else (if rejection.opcode == phy_request_opcode then Some (RejectPhy (reason_part rejection.code)) else None))

abbrev pub with_part : Option Pdu → List Pdu → List Pdu
with_part None more = more
with_part (Some pdu) more = pdu ∷ more

-- a queue without the PDUs of other procedures
abbrev pub rejections_part : List Rejection → List Pdu
rejections_part [] = []
rejections_part (rejection ∷ rejections) = with_part (rejection_part rejection) (rejections_part rejections)

abbrev pub drafts_part : List Draft → List Pdu
drafts_part [] = []
drafts_part (draft ∷ drafts) = with_part (pdu_of_draft draft) (drafts_part drafts)

-- what is sent
abbrev pub outgoing_part : Outgoing → Option Pdu
outgoing_part Nothing = None
outgoing_part (outgoing_rejection rejection) = rejection_part rejection
outgoing_part (Disconnect code) = None
outgoing_part (outgoing_draft draft) = pdu_of_draft draft
