-- Version exchange (Core 5.2, volume 6 part B, section 5.1.5).
use Rattle.std.specs.Prelude.{Bool, true, false, if◌then◌else◌, ◌||◌, Option, Some, None, ℕ}
use Rattle.ble_base.specs.declared.procedure_kinds.Kind.{Kind}
use Rattle.ble_base.specs.declared.procedure_kinds.Kind.TheVariants.{Version}
use Rattle.procedure_stages.specs.procedure_values.declared.drafts.Draft.TheVariants.{VersionInd}
use Rattle.procedure_stages.specs.declared.stages.Progress.{Progress}
use Rattle.procedure_stages.specs.Kinds.{own_exchange, without_own}
use Rattle.procedure_stages.specs.Awaited.{is_version}
use Rattle.procedure_stages.specs.procedure_values.Wants.{is_wanted}
use Rattle.procedure_stages.specs.declared.reply.Reply.{Reply}
use Rattle.procedure_stages.specs.declared.reply.Reply.TheVariants.{Nothing, Answer}
use Rattle.procedures.specs.declared.outcome.Outcome.{Outcome}
use Rattle.procedure_stages.specs.declared.steps.Effect.TheVariants.{PeerVersion}
use Rattle.procedures.specs.Table.{TableFacts}
use Rattle.procedures.specs.Outcomes.{moved, with_effect}

-- an end sends LL_VERSION_IND once, so it answers that of the peer unless its own was queued already
abbrev pub version_reply : Bool → Reply
version_reply true = Nothing
version_reply false = Answer VersionInd

-- the procedures after the peer's LL_VERSION_IND was taken
abbrev pub progress_with_version : Progress → Progress
progress_with_version progress = (if is_version (own_exchange progress) then without_own progress else progress)

-- an own exchange of versions is completed by it, also one that is only wanted (our choice)
abbrev pub version_done : TableFacts → Option Kind
version_done f =
    (if is_version (own_exchange f.progress) || is_wanted Version f.wanted then Some Version else None)

-- LL_VERSION_IND is taken
abbrev pub version_taken : TableFacts → ℕ → ℕ → ℕ → Outcome
version_taken f version company sub =
    (let outcome = with_effect (PeerVersion version company sub) (moved f (progress_with_version f.progress)) in
    record outcome { reply = version_reply f.version_used; step = record outcome.step { done = version_done f } })
