-- An end skips its event by the lines where it does not want the radio, if the lines tell of it what it holds.
use Rattle.std.proofs.Common.{◌≡◌, ℕ, ◌==◌, ◌&&◌, ◌||◌, not, Bool, true, false, Option, Some, None, List, length, refl, ap, ◌∙◌}
use Rattle.std.specs.Option.{option_map}
use Rattle.ble_base.specs.declared.roles.Role.{Role}
use Rattle.ble_base.specs.declared.roles.Role.TheVariants.{Central, Peripheral}
use Rattle.ble_base.specs.declared.roles.Side.{Side}
use Rattle.instants.specs.Track.{is_free}
use Rattle.journal.specs.declared.entries.Entry.{Entry}
use Rattle.journal_sending.specs.Outgoing.{octets_wait}
use Rattle.journal_sending.specs.journal_leaving.journal_acks.Carried.{carried_of}
use Rattle.journal_sending.specs.journal_leaving.journal_acks.Counted.{IsCounted}
use Rattle.journal_sending.specs.journal_leaving.journal_acks.Exchange.{Exchanged, exchange_of}
use Rattle.journal_sending.specs.journal_leaving.journal_controls.LineSteps.{keyed_on}
use Rattle.journal_sending.specs.journal_leaving.journal_data.Delivered.{host_buffers}
use Rattle.journal_sending.specs.journal_leaving.journal_data.Lines.{lines_of}
use Rattle.journal_sending.specs.journal_leaving.journal_ends.Asked.{Words}
use Rattle.journal_sending.specs.journal_leaving.journal_links.Begun.{LinkBegun, link_numbered}
use Rattle.journal_sending.specs.journal_leaving.journal_links.Changes.{role_on}
use Rattle.journal_sending.specs.journal_leaving.link_model.Acknowledgement.{Pdu, is_acked}
use Rattle.journal_sending.specs.journal_leaving.link_model.Data.{is_empty, unsent_of}
use Rattle.journal_sending.specs.journal_leaving.link_model.Facts.{Facts, keyed_of}
use Rattle.journal_sending.specs.journal_leaving.link_model.Lost.{is_recent as was_recent, skips_by as skips_in}
use Rattle.journal_sending.specs.journal_leaving.link_model.Setup.{Setup}
use Rattle.journal_sending.specs.journal_leaving.link_model.Times.{is_idle, wants_of}
use Rattle.journal_sending.specs.journal_leaving.link_model.declared.events.Reception.{Reception}
use Rattle.journal_sending.specs.journal_leaving.link_model.procedure_stages.InProgress.{is_busy}
use Rattle.journal_sending.specs.journal_leaving.link_model.procedure_stages.Queue.{waiting_in}
use Rattle.journal_events.specs.EventLines.{event_on}
use Rattle.journal_events.specs.Skips.{is_idle_on, is_recent, is_skipped, keyed_is_idle, none_is_out, skips_by, skips_with}
use Rattle.journal_events.specs.Told.{event_lines}

-- the lines tell of an end what it holds
pub record IsToldAs (words : Words) (side : Side) (number : ℕ) (front : List Entry) (setup : Setup) (facts : Facts) : Type 0 where
  pub link : LinkBegun
  pub is_link : link_numbered number front ≡ Some link
  pub role : role_on link side ≡ setup.link.role
  pub event : event_on words side number front ≡ event_lines facts
  pub counted : IsCounted (exchange_of number front side) facts.acknowledgement
  pub last : is_acked facts.acknowledgement ≡ false → carried_of number front side ≡ facts.acknowledgement.last
  pub waits : octets_wait number (lines_of host_buffers side front) ≡ not (length (unsent_of facts.outgoing) == 0)
  pub keyed : keyed_on words side number front ≡ Some (keyed_of facts)

-- ---- it is idle

all_idle : (out waits none more : Bool) → (out && not (not none) && (waits && more)) ≡ ((out && waits && none) && more)
all_idle true true true more = refl
all_idle true true false more = refl
all_idle true false true more = refl
all_idle true false false more = refl
all_idle false true true more = refl
all_idle false true false more = refl
all_idle false false true more = refl
all_idle false false false more = refl

out_as : (exchanged : Exchanged) (carried : Pdu) (facts : Facts) → IsCounted exchanged facts.acknowledgement
    → (is_acked facts.acknowledgement ≡ false → carried ≡ facts.acknowledgement.last)
    → none_is_out exchanged carried ≡ (is_acked facts.acknowledgement || is_empty facts.acknowledgement.last)
out_as exchanged carried facts counted last =
    (λ i. (counted.acked i == counted.sent i) || is_empty carried) ∙ by (is_acked facts.acknowledgement) last
  where
    by : (acked : Bool) → (acked ≡ false → carried ≡ facts.acknowledgement.last) → (acked || is_empty carried) ≡ (acked || is_empty facts.acknowledgement.last)
    by true same = refl
    by false same = ap is_empty (same refl)

module _ (words : Words) (side : Side) (number : ℕ) (front : List Entry) (setup : Setup) (facts : Facts) (told : IsToldAs words side number front setup facts) where
  idle_as : is_idle_on words side number front ≡ is_idle facts
  idle_as =
      let out = out_as (exchange_of number front side) (carried_of number front side) facts told.counted told.last in
      (λ i. out i && not (told.waits i) && keyed_is_idle (told.keyed i))
      ∙ all_idle (is_acked facts.acknowledgement || is_empty facts.acknowledgement.last) (waiting_in facts.control.table.queue == 0) (length (unsent_of facts.outgoing) == 0)
      (not (is_busy facts.control.table.progress) && is_free facts.control.track)

  -- ---- it skips its event

  recent_as : (good : Option Reception) (event latency : ℕ) → is_recent (option_map (λ (one : Reception). one.event) good) event latency ≡ was_recent good event latency
  recent_as None event latency = refl
  recent_as (Some good) event latency = refl

  skips_as : (role : Role) (idle : Bool) → skips_by role (event_lines facts) idle ≡ skips_in role facts.event facts.last_good idle
  skips_as Central idle = refl
  skips_as Peripheral idle = ap (λ recent. recent && idle) (recent_as facts.last_good facts.event.number facts.event.latency)

  twice : (b : Bool) → b ≡ not (not b)
  twice true = refl
  twice false = refl

  pub skipped_as : is_skipped words side number front ≡ not (wants_of setup facts)
  skipped_as =
      (λ i. skips_with (told.is_link i) side (told.event i) (idle_as i))
      ∙ ap (λ role. skips_by role (event_lines facts) (is_idle facts)) told.role
      ∙ skips_as setup.link.role (is_idle facts)
      ∙ twice (skips_in setup.link.role facts.event facts.last_good (is_idle facts))
