-- What comes of octets that reach the link that may be under a handle, as the calls on it give it.
use Rattle.std.specs.Prelude.{ℕ, Bool, false, List, [], ◌++◌, Option, Some, None, Err}
use Rattle.ble_base.specs.ErrorCodes.{unsupported_remote_feature}
use Rattle.hci_evt.specs.declared.event.Event.{Event}
use Rattle.host_view.specs.View.{View}
use Rattle.instants.specs.declared.indications.Params.{Params}
use Rattle.procedure_stages.specs.declared.steps.Effect.{Effect}
use Rattle.procedure_stages.specs.declared.steps.Effect.TheVariants.{Nothing}
use Rattle.link_model.specs.declared.state.PeerFacts.{PeerFacts}
use Rattle.link_model.specs.Step.{Step, KeyAnswered, RequestAnswered}
use Rattle.link_end.specs.declared.ends.LinkStep.{LinkStep}
use Rattle.controller_model.specs.Heard.{or_refusal, refusal_of}
use Rattle.host_notes.specs.declared.hearing.Refusal.{Refusal}
use Rattle.host_notes.specs.declared.hearing.Refusal.TheVariants.{Key, Request}
use Rattle.procedure_events.specs.Calls.{events_of_kept, events_of_reception}

-- the events for its host, on a link that was encrypted before or was not, with the parameters before it, and what is
-- known of the peer after it
abbrev pub events_told : Bool → ℕ → Option Params → Option PeerFacts → Option LinkStep → List Event
events_told was_encrypted handle (Some params) (Some peer) (Some step) =
    events_of_reception handle was_encrypted params peer step.acked step.effect step.refused step.done
    ++ events_of_kept handle was_encrypted peer step.kept_effect step.kept_done
events_told was_encrypted handle params peer step = []

-- what its procedures did
abbrev pub effect_of : Option LinkStep → Effect
effect_of None = Nothing
effect_of (Some step) = step.effect

abbrev pub kept_effect_of : Option LinkStep → Effect
kept_effect_of None = Nothing
kept_effect_of (Some step) = step.kept_effect

-- the step with which a request is answered that the mask withholds, in this slot
abbrev pub refusal_step : ℕ → Refusal → Step
refusal_step slot Request = RequestAnswered (Err (record { 0 = unsupported_remote_feature }))
refusal_step slot Key = KeyAnswered None slot

abbrev pub refusal_told : View → ℕ → ℕ → Option LinkStep → Option Step
refusal_told view handle slot step =
    or_refusal (refusal_of view handle slot (effect_of step)) (refusal_of view handle slot (kept_effect_of step))

-- it draws words
abbrev pub draws_of_step : Option LinkStep → Bool
draws_of_step None = false
draws_of_step (Some step) = step.draws
