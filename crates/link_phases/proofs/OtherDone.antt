-- What is done as an event is entered, or as a PDU is acknowledged, is no encryption.
use Rattle.std.proofs.Common.{◌≡◌, ℕ, ◌&&◌, Bool, true, false, Option, Some, None, is_some, refl, if◌then◌else◌}
use Rattle.ble_base.specs.declared.procedure_kinds.Kind.{Kind}
use Rattle.ble_base.specs.declared.procedure_kinds.Kind.TheVariants.{Encrypt}
use Rattle.exclusive_stages.specs.Acked.{done_by_ack_at_central}
use Rattle.exclusive_stages.specs.declared.pdus.Pdu.{Pdu}
use Rattle.instants.specs.Track.{next_number}
use Rattle.link_model.specs.Facts.{Facts}
use Rattle.link_model.specs.Receiving.{acked_kind}
use Rattle.link_model.specs.control_end.Answers.{entry_of, entry_step, goes_on, is_unacknowledged, is_update_waiting, no_entry}
use Rattle.link_model.specs.control_end.declared.answers.Entry.{Entry}
use Rattle.link_model.specs.control_end.Held.{Held, held_of}
use Rattle.link_model.specs.procedure_stages.Acked.{done_at_central_by_ack, done_by_ack}
use Rattle.link_model.specs.procedure_stages.Exclusive.{central_stage, pdu_of_outgoing}
use Rattle.link_model.specs.procedure_stages.Held.{done_held, progress_held}
use Rattle.link_model.specs.procedure_stages.Kinds.{is_kind}
use Rattle.link_model.specs.procedure_stages.declared.stages.Central.{Central}
use Rattle.link_model.specs.procedure_stages.declared.stages.Progress.{Progress}
use Rattle.link_model.specs.procedure_stages.declared.stages.Progress.TheVariants.{Central as central, Peripheral as peripheral}
use Rattle.link_model.specs.procedure_values.declared.drafts.Outgoing.{Outgoing}
use Rattle.link_model.specs.procedures.Beginning.{begin_step}
use Rattle.link_model.specs.procedures.Sending.{acked_step}
use Rattle.link_model.specs.procedures.Table.{TableFacts}
use Rattle.link_phases.proofs.Phases.{exclusive_other}

-- no procedure, or another one
abbrev IsOther : Option Kind → Type 0
IsOther kind = is_kind kind Encrypt ≡ false

if_other : (b : Bool) (kind : Option Kind) → IsOther kind → IsOther (if b then kind else None)
if_other true kind is = is
if_other false kind is = refl

-- ---- an event is entered

held_other : (p : Progress) → IsOther (done_held p)
held_other (central c) = exclusive_other _
held_other (peripheral p) = exclusive_other _

step_other : (h : Held) → IsOther (entry_step h).1
step_other h = by (is_some (next_number h.track))
  where
    by : (applied : Bool)
        → let step : TableFacts × Option Kind =
        (if applied then (record h.table { progress = progress_held h.table.progress }, done_held h.table.progress) else (h.table, None)) in
        IsOther step.1
    by true = held_other h.table.progress
    by false = refl

pub entered_other : (slot : ℕ) (quiet : Bool) (h : Held) → IsOther (entry_of slot quiet h).done
entered_other slot quiet h = by (goes_on h)
  where
    by : (goes : Bool)
        → let entry : Entry =
        (if goes then record {
          applied = next_number h.track;
          updated = is_some (next_number h.track) && is_update_waiting h.track.waits;
          done = (entry_step h).1;
          began = (begin_step (entry_step h).0 slot quiet).1;
        } else no_entry) in
        IsOther entry.done
    by true = step_other h
    by false = refl

-- ---- a PDU is acknowledged

pdu_other : (pdu : Option Pdu) (c : Central) → IsOther (done_at_central_by_ack pdu c)
pdu_other None c = refl
pdu_other (Some pdu) c = exclusive_other (done_by_ack_at_central pdu (central_stage c.own))

table_other : (out : Outgoing) (p : Progress) → IsOther (done_by_ack out p)
table_other out (central c) = pdu_other (pdu_of_outgoing out) c
table_other out (peripheral p) = refl

pub acked_other : (acked : Bool) (facts : Facts) → IsOther (acked_kind acked facts)
acked_other acked facts =
    if_other acked _
    (if_other (is_unacknowledged (held_of facts.control)) (acked_step facts.control.table).1 (table_other facts.control.table.out facts.control.table.progress))
