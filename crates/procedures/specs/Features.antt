-- Feature exchange (Core 5.2, volume 6 part B, section 5.1.4).
use Rattle.std.specs.Prelude.{ℕ, if◌then◌else◌}
use Rattle.ble_base.specs.declared.procedure_kinds.Kind.TheVariants.{Features}
use Rattle.procedure_stages.specs.procedure_values.declared.drafts.Draft.TheVariants.{FeatureRsp}
use Rattle.procedure_stages.specs.Kinds.{own_exchange, without_own}
use Rattle.procedure_stages.specs.Awaited.{awaits_features}
use Rattle.procedures.specs.declared.outcome.Outcome.{Outcome}
use Rattle.procedure_stages.specs.declared.steps.Effect.TheVariants.{PeerFeatures}
use Rattle.procedures.specs.Table.{TableFacts}
use Rattle.procedures.specs.Outcomes.{answered, with_effect, unchanged, moved, with_done}

-- the request of the peer is answered: LL_FEATURE_REQ at the peripheral, LL_PERIPHERAL_FEATURE_REQ at the central
abbrev pub features_asked : TableFacts → ℕ → Outcome
features_asked f features = with_effect (PeerFeatures features) (answered f FeatureRsp)

-- LL_FEATURE_RSP is taken
abbrev pub features_taken : TableFacts → ℕ → Outcome
features_taken f features =
    (if awaits_features (own_exchange f.progress)
    then with_done Features (with_effect (PeerFeatures features) (moved f (without_own f.progress)))
    else unchanged f)
