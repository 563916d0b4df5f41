-- The end of a link that a host asks for (Core 5.2, volume 6 part B, section 5.1.6).
use Rattle.std.specs.Prelude.{ℕ}
use Rattle.procedures.specs.declared.outcome.Outcome.{Outcome}
use Rattle.procedure_stages.specs.declared.steps.Effect.TheVariants.{PeerEnds}
use Rattle.procedures.specs.Table.{TableFacts}
use Rattle.procedures.specs.Outcomes.{unchanged, with_effect}

-- LL_TERMINATE_IND is taken
abbrev pub terminate_taken : TableFacts → ℕ → Outcome
terminate_taken f code = with_effect (PeerEnds (record { 0 = code })) (unchanged f)
