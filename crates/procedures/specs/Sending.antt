-- What an end sends, and what the sending and the acknowledgement of it do (Core 5.2, volume 6 part B, section 5).
use Rattle.std.specs.Prelude.{ℕ, Bool, Option}
use Rattle.ble_base.specs.declared.procedure_kinds.Kind.{Kind}
use Rattle.data_pdu.specs.declared.ctrl.Ctrl.{Ctrl}
use Rattle.instants.specs.declared.indications.Indication.{Indication}
use Rattle.procedure_stages.specs.procedure_values.declared.drafts.Outgoing.{Outgoing}
use Rattle.procedure_stages.specs.procedure_values.declared.drafts.Outgoing.TheVariants.{Nothing}
use Rattle.procedure_stages.specs.procedure_values.Drafts.{ctrl_of_outgoing, indication_of}
use Rattle.procedure_stages.specs.Sent.{progress_after_sending, is_own}
use Rattle.procedure_stages.specs.Acked.{progress_acked, done_by_ack}
use Rattle.procedures.specs.Table.{TableFacts}
use Rattle.procedures.specs.Queue.{next_of}
use Rattle.procedure_stages.specs.Queue.{without_next}
use Rattle.procedures.specs.Taking.{since_after}

-- ---- a control PDU is sent

-- the control PDU that is sent next, if one may be sent
abbrev pub next_ctrl_of : TableFacts → ℕ → ℕ → Bool → Option Ctrl
next_ctrl_of f event skips quiet = ctrl_of_outgoing (next_of f event quiet) event skips

-- a control PDU is first sent
abbrev pub facts_sent : TableFacts → Outgoing → ℕ → ℕ → ℕ → TableFacts
facts_sent f outgoing event skips slot =
    record f {
      progress = progress_after_sending outgoing event skips f.progress;
      queue = without_next outgoing f.queue;
      out = outgoing;
      since = since_after (is_own outgoing f.progress) slot f.since;
    }

abbrev pub went_step : TableFacts → ℕ → ℕ → Bool → ℕ → TableFacts × Option Indication
went_step f event skips quiet slot =
    (facts_sent f (next_of f event quiet) event skips slot, indication_of (next_of f event quiet) event skips)

-- ---- a control PDU is acknowledged

abbrev pub acked_step : TableFacts → TableFacts × Option Kind
acked_step f = (record f { progress = progress_acked f.out f.progress; out = Nothing }, done_by_ack f.out f.progress)
