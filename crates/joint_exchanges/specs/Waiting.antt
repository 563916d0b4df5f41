-- The control PDUs that wait at an end of a joint run, by the kinds of procedures (Core 5.2, volume 6 part B,
-- section 5).
use Rattle.std.specs.Prelude.{ℕ, ◌+◌, Bool, true, false, length}
use Rattle.exchange_steps.specs.procedure_values.declared.drafts.Draft.{Draft}
use Rattle.exchange_steps.specs.procedure_values.declared.drafts.Draft.TheVariants.{Cipher, Grant, Map, PhyInd, PhyReq, PhyRsp, Request, UnknownRsp, Update}
use Rattle.exchange_steps.specs.procedure_stages.Queue.{count_of_disconnect}
use Rattle.joint_controls.specs.phased_control.Phased.{Phased}
use Rattle.joint_exchanges.specs.Agreement.{Asked, Features, Lengths, is_answer_of, is_question_of, is_version_ind, waiting}

-- of the procedures that exclude each other
abbrev pub is_exclusive : Draft → Bool
is_exclusive (Update params) = true
is_exclusive (Grant params) = true
is_exclusive (Map map) = true
is_exclusive (Request min max latency timeout) = true
is_exclusive PhyReq = true
is_exclusive PhyRsp = true
is_exclusive PhyInd = true
is_exclusive draft = false

-- of the encryption, with LL_TERMINATE_IND for want of a key
abbrev pub is_cipher : Draft → Bool
is_cipher (Cipher ctrl) = true
is_cipher draft = false

abbrev pub is_unknown_rsp : Draft → Bool
is_unknown_rsp (UnknownRsp opcode) = true
is_unknown_rsp draft = false

abbrev pub rejections_waiting : Phased → ℕ
rejections_waiting s = length s.control.table.queue.rejections

abbrev pub disconnects_waiting : Phased → ℕ
disconnects_waiting s = count_of_disconnect s.control.table.queue.disconnect

-- of an exchange of a question and an answer
abbrev pub exchange_waiting : Asked → Phased → ℕ
exchange_waiting asked s = waiting (is_question_of asked) s + waiting (is_answer_of asked) s

-- all of them
abbrev pub kinds_waiting : Phased → ℕ
kinds_waiting s =
    rejections_waiting s + disconnects_waiting s + waiting is_exclusive s + exchange_waiting Features s
    + exchange_waiting Lengths s + waiting is_version_ind s + waiting is_unknown_rsp s + waiting is_cipher s
