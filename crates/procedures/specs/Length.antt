-- Data length update (Core 5.2, volume 6 part B, section 5.1.9).
use Rattle.std.specs.Prelude.{ℕ, if◌then◌else◌}
use Rattle.ble_base.specs.declared.procedure_kinds.Kind.TheVariants.{Length}
use Rattle.procedure_stages.specs.procedure_values.declared.drafts.Draft.{Draft}
use Rattle.procedure_stages.specs.procedure_values.declared.drafts.Draft.TheVariants.{LengthRsp}
use Rattle.procedure_stages.specs.procedure_values.declared.lengths.Lengths.{Lengths}
use Rattle.procedure_stages.specs.procedure_values.Limits.{rx_of, tx_of, with_peer}
use Rattle.procedure_stages.specs.Kinds.{own_exchange, without_own}
use Rattle.procedure_stages.specs.Awaited.{awaits_lengths}
use Rattle.procedures.specs.declared.outcome.Outcome.{Outcome}
use Rattle.procedure_stages.specs.declared.steps.Effect.TheVariants.{Lengths as effective_lengths}
use Rattle.procedures.specs.Table.{TableFacts}
use Rattle.procedures.specs.Outcomes.{answered, unchanged, moved, with_done}

-- this end's own limits, as LL_LENGTH_RSP gives them
abbrev pub length_reply : Lengths → Draft
length_reply lengths = LengthRsp lengths.own_rx lengths.own_tx

-- the peer's limits are known: the effective lengths follow
abbrev pub with_lengths : Lengths → Outcome → Outcome
with_lengths lengths outcome =
    record outcome {
      lengths = lengths;
      step = record outcome.step { effect = effective_lengths (rx_of lengths) (tx_of lengths) };
    }

-- LL_LENGTH_REQ is taken, with what the peer receives and what it transmits
abbrev pub length_asked : TableFacts → ℕ → ℕ → Outcome
length_asked f rx tx = with_lengths (with_peer f.lengths rx tx) (answered f (length_reply f.lengths))

-- LL_LENGTH_RSP is taken
abbrev pub length_taken : TableFacts → ℕ → ℕ → Outcome
length_taken f rx tx =
    (if awaits_lengths (own_exchange f.progress)
    then with_done Length (with_lengths (with_peer f.lengths rx tx) (moved f (without_own f.progress)))
    else unchanged f)
