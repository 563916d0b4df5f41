-- Steps of an end that change neither what ends the link nor the counts.
use Rattle.std.proofs.Common.{◌≡◌, ◌&&◌, Result, Some, None, ℕ, Bool, true, false, Option, is_none, refl, ap, ◌∙◌, if◌then◌else◌}
use Rattle.ble_base.specs.declared.error_codes.ErrCode.{ErrCode}
use Rattle.ble_base.specs.ErrorCodes.{terminated_by_local_host}
use Rattle.data_pdu.specs.declared.ctrl.Ctrl.{Ctrl}
use Rattle.link_runs.specs.procedure_values.declared.asks.Ask.{Ask}
use Rattle.link_runs.specs.procedure_stages.InProgress.{is_host_asked}
use Rattle.link_runs.specs.procedures.Going.{host_answer_step, is_answer}
use Rattle.link_runs.specs.procedures.Table.{TableFacts}
use Rattle.link_runs.specs.control_model.Control.{Control, Owes, after, moved, table_if}
use Rattle.link_calls.specs.link_model.declared.state.Leaving.{Leaving}
use Rattle.link_calls.specs.link_model.End.{facts_after}
use Rattle.link_calls.specs.link_model.Facts.{Facts, keyed_of, with_keyed}
use Rattle.link_calls.specs.link_model.Hosts.{ends_without_key, leaving_from_if}
use Rattle.link_calls.specs.link_model.keyed_control.KeyedSteps.{LacksKey, keyed_after}
use Rattle.link_calls.specs.link_model.Setup.{Setup}
use Rattle.link_calls.specs.link_model.Step.{DataReported, KeyAnswered, RequestAnswered}
use Rattle.link_calls.specs.link_model.Times.{ended_by_procedures, ending_of}
use Rattle.run_pairs.proofs.AtOnce.{control_keyed, key_control}

pub record IsQuiet (before now : Facts) : Type 0 where
  pub ends : now.control.ends ≡ before.control.ends
  pub ending : ending_of now ≡ ending_of before
  pub acknowledged : now.leaving.acknowledged ≡ before.leaving.acknowledged
  pub by_peer : now.leaving.ended_by_peer ≡ before.leaving.ended_by_peer
  pub counts : now.acknowledgement ≡ before.acknowledgement
  pub sent : now.control.sent ≡ before.control.sent
  pub entered : now.control.track.entered ≡ before.control.track.entered

pub reported_quiet : (setup : Setup) (facts : Facts) → IsQuiet facts (facts_after setup facts DataReported)
reported_quiet setup facts = record { ends = refl; ending = refl; acknowledged = refl; by_peer = refl; counts = refl; sent = refl; entered = refl }

record IsOtherTable (c now : Control) : Type 0 where
  ends : now.ends ≡ c.ends
  sent : now.sent ≡ c.sent
  entered : now.track.entered ≡ c.track.entered

other_table : (runs may : Bool) (table : TableFacts) (c : Control) → IsOtherTable c (if runs then table_if may table c else c)
other_table true true table c = record { ends = refl; sent = refl; entered = refl }
other_table true false table c = record { ends = refl; sent = refl; entered = refl }
other_table false may table c = record { ends = refl; sent = refl; entered = refl }

pub answer_quiet : (setup : Setup) (facts : Facts) (answer : Result Ask ErrCode) → IsQuiet facts (facts_after setup facts (RequestAnswered answer))
answer_quiet setup facts answer =
    let c = facts.control in
    let same = other_table (is_none c.ends) (is_host_asked c.table.progress && is_answer answer) (host_answer_step c.table answer) c in record {
      ends = same.ends;
      ending = ap (λ (o : Option ErrCode). if facts.leaving.acknowledged then Some (record { 0 = terminated_by_local_host }) else ended_by_procedures o facts.leaving) same.ends;
      acknowledged = refl;
      by_peer = refl;
      counts = refl;
      sent = same.sent;
      entered = same.entered;
    }

-- a host answers a request for a key: at most a PDU is queued
other_owed : (ctrl : Ctrl) (c : Control) → IsOtherTable c (after (Owes ctrl) c)
other_owed ctrl c = by (is_none c.ends)
  where
    by : (b : Bool) → IsOtherTable c (if b then moved (Owes ctrl) c else c)
    by true = record { ends = refl; sent = refl; entered = refl }
    by false = record { ends = refl; sent = refl; entered = refl }

other_more : (first c now : Control) → IsOtherTable first c → IsOtherTable c now → IsOtherTable first now
other_more first c now is more = record { ends = more.ends ∙ is.ends; sent = more.sent ∙ is.sent; entered = more.entered ∙ is.entered }

ends_then : (o : Option ErrCode) (leaving : Leaving) (slot : ℕ) → ended_by_procedures o (record leaving { disconnected = Some slot }) ≡ ended_by_procedures o leaving
ends_then None leaving slot = refl
ends_then (Some code) leaving slot = refl

pub key_quiet : (setup : Setup) (facts : Facts) (slot : ℕ) → IsQuiet facts (facts_after setup facts (KeyAnswered None slot))
key_quiet setup facts slot = by (ends_without_key None facts)
  where
    same : IsOtherTable facts.control (control_keyed None facts)
    same = key_control facts (IsOtherTable facts.control) (record { ends = refl; sent = refl; entered = refl })
        (λ ctrl c is. other_more facts.control c (after (Owes ctrl) c) is (other_owed ctrl c)) None

    by : (leaves : Bool) → IsQuiet facts (record (with_keyed (keyed_after LacksKey (keyed_of facts)) facts) { leaving = leaving_from_if leaves slot facts.leaving })
    by true = record {
      ends = same.ends;
      ending =
          ap (λ (o : Option ErrCode). if facts.leaving.acknowledged then Some (record { 0 = terminated_by_local_host })
          else ended_by_procedures o (record facts.leaving { disconnected = Some slot })) same.ends
          ∙ ap (λ (o : Option ErrCode). if facts.leaving.acknowledged then Some (record { 0 = terminated_by_local_host }) else o)
          (ends_then facts.control.ends facts.leaving slot);
      acknowledged = refl;
      by_peer = refl;
      counts = refl;
      sent = same.sent;
      entered = same.entered;
    }
    by false = record {
      ends = same.ends;
      ending = ap (λ (o : Option ErrCode). if facts.leaving.acknowledged then Some (record { 0 = terminated_by_local_host }) else ended_by_procedures o facts.leaving) same.ends;
      acknowledged = refl;
      by_peer = refl;
      counts = refl;
      sent = same.sent;
      entered = same.entered;
    }
