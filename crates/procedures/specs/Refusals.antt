-- How the peer refuses a procedure of this end (Core 5.2, volume 6 part B, sections 2.4.2.8, 2.4.2.14 and 2.4.2.18).
use Rattle.std.specs.Prelude.{Option, Some, None, Bool, if◌then◌else◌, ℕ, is_some, ◌||◌}
use Rattle.ble_base.specs.declared.error_codes.ErrCode.{ErrCode}
use Rattle.ble_base.specs.declared.procedure_kinds.Kind.{Kind}
use Rattle.ble_base.specs.ErrorCodes.{unsupported_remote_feature}
use Rattle.procedure_stages.specs.Kinds.{own_kind, without_own}
use Rattle.procedure_stages.specs.Opcodes.{first_opcode, is_opcode, later_opcode}
use Rattle.procedures.specs.declared.outcome.Outcome.{Outcome}
use Rattle.procedures.specs.Table.{TableFacts}
use Rattle.procedures.specs.Outcomes.{moved, unchanged}

-- the own procedure is refused with a code
abbrev pub refused_with : Option Kind → ErrCode → Option (Kind × ErrCode)
refused_with None code = None
refused_with (Some kind) code = Some (kind, code)

abbrev pub refused : TableFacts → ErrCode → Outcome
refused f code =
    (let outcome = moved f (without_own f.progress) in
    record outcome { step = record outcome.step { refused = refused_with (own_kind f.progress) code } })

abbrev pub refused_if : Bool → TableFacts → ErrCode → Outcome
refused_if is_one f code = (if is_one then refused f code else unchanged f)

-- LL_UNKNOWN_RSP is taken: it refuses the own procedure whose first PDU it names, as an unsupported remote feature
abbrev pub unknown_rsp_taken : TableFacts → ℕ → Outcome
unknown_rsp_taken f opcode =
    refused_if (is_opcode (first_opcode f.progress) opcode) f (record { 0 = unsupported_remote_feature })

-- LL_REJECT_IND is taken: it refuses the own procedure whose first PDU was sent
abbrev pub reject_taken : TableFacts → ℕ → Outcome
reject_taken f code = refused_if (is_some (first_opcode f.progress)) f (record { 0 = code })

-- LL_REJECT_EXT_IND is taken: it refuses the own procedure in which a PDU of this opcode was sent
abbrev pub reject_ext_taken : TableFacts → ℕ → ℕ → Outcome
reject_ext_taken f opcode code =
    refused_if (is_opcode (first_opcode f.progress) opcode || is_opcode (later_opcode f.progress) opcode) f
    (record { 0 = code })
