-- What a control PDU of the peer does, as a value: the parts that more than one procedure has.
use Rattle.std.specs.Prelude.{None, false, ℕ, Some}
use Rattle.ble_base.specs.declared.error_codes.ErrCode.{ErrCode}
use Rattle.ble_base.specs.declared.procedure_kinds.Kind.{Kind}
use Rattle.procedure_stages.specs.declared.stages.Progress.{Progress}
use Rattle.procedure_stages.specs.procedure_values.declared.drafts.Draft.{Draft}
use Rattle.procedure_stages.specs.procedure_values.declared.drafts.Draft.TheVariants.{UnknownRsp}
use Rattle.procedure_stages.specs.declared.steps.Effect.TheVariants.{Nothing}
use Rattle.procedure_stages.specs.declared.steps.Step.{Step}
use Rattle.procedures.specs.declared.outcome.Outcome.{Outcome}
use Rattle.procedure_stages.specs.declared.reply.Reply.TheVariants.{Nothing as no_reply, Answer, Reject}
use Rattle.procedure_stages.specs.declared.steps.Effect.{Effect}
use Rattle.procedures.specs.Table.{TableFacts}

-- a step that does nothing
abbrev pub empty_step : Step
empty_step = record { effect = Nothing; ends = None; refused = None; done = None }

-- nothing happens
abbrev pub unchanged : TableFacts → Outcome
unchanged f =
    record { progress = f.progress; lengths = f.lengths; reply = no_reply; restarts = false; step = empty_step }

-- the procedures change
abbrev pub moved : TableFacts → Progress → Outcome
moved f progress = record (unchanged f) { progress = progress }

-- an answer is sent
abbrev pub answered : TableFacts → Draft → Outcome
answered f draft = record (unchanged f) { reply = Answer draft }

-- the procedures change and an answer is sent
abbrev pub moved_and_answered : TableFacts → Progress → Draft → Outcome
moved_and_answered f progress draft = record (unchanged f) { progress = progress; reply = Answer draft }

-- a procedure of the peer is rejected
abbrev pub rejected : TableFacts → ℕ → ErrCode → Outcome
rejected f opcode code = record (unchanged f) { reply = Reject (record { opcode = opcode; code = code }) }

-- the link ends at once
abbrev pub ended : TableFacts → ErrCode → Outcome
ended f code = record (unchanged f) { step = record empty_step { ends = Some code } }

-- the PDU is not known at this end (Core 5.2, volume 6 part B, section 2.4.2.8)
abbrev pub unknown : TableFacts → ℕ → Outcome
unknown f opcode = answered f (UnknownRsp opcode)

-- the layer above is given something
abbrev pub with_effect : Effect → Outcome → Outcome
with_effect effect outcome = record outcome { step = record outcome.step { effect = effect } }

-- a procedure of this end is completed
abbrev pub with_done : Kind → Outcome → Outcome
with_done kind outcome = record outcome { step = record outcome.step { done = Some kind } }
