-- What a controller answers at once in place of a host, since the mask withholds the event: a request for parameters, or
-- one for a key.
use Rattle.std.proofs.Common.{◌≡◌, ℕ, Bool, true, false, Option, Some, None, List, refl}
use Rattle.std.specs.Prelude.{IfSome}
use Rattle.data_pdu.specs.declared.ctrl.Ctrl.{Ctrl}
use Rattle.data_pdu.specs.declared.ctrl.Ctrl.TheVariants.{EncReq}
use Rattle.run_laws.specs.host_view.View.{View}
use Rattle.run_laws.specs.procedure_stages.declared.steps.Effect.{Effect}
use Rattle.run_laws.specs.procedure_stages.declared.steps.Effect.TheVariants.{AskHost, Cipher}
use Rattle.run_laws.specs.link_model.Step.{Step as EndStep, KeyAnswered, RequestAnswered}
use Rattle.run_laws.specs.open_links.OpenLinks.{OpenLink}
use Rattle.run_laws.specs.controller_model.Facts.{Facts}
use Rattle.run_laws.specs.controller_model.Heard.{answer_unless, effect_in, kept_effect_in, key_refusal, or_refusal, refusal_of}
use Rattle.run_laws.proofs.controller_model.Asked.{IsAskedStep}
use Rattle.link_calls.specs.Phases.{refusal, refusal_at}

-- the one for parameters is refused, and the one for a key is answered as by a host that has none
abbrev pub IsRefusal : EndStep → Type 0
IsRefusal (RequestAnswered answer) = answer ≡ refusal
IsRefusal (KeyAnswered key slot) = key ≡ None
IsRefusal step = ⊥

unless_is : (passes : Bool) (step : EndStep) → IsRefusal step → IfSome (answer_unless passes step) IsRefusal
unless_is true step is = tt
unless_is false step is = is

key_is : (view : View) (handle slot : ℕ) (ctrl : Ctrl) → IfSome (key_refusal view handle slot ctrl) IsRefusal
key_is view handle slot (EncReq rand ediv skd_m iv_m) = unless_is _ (KeyAnswered None slot) refl
key_is view handle slot other = tt

effect_is : (view : View) (handle slot : ℕ) (effect : Effect) → IfSome (refusal_of view handle slot effect) IsRefusal
effect_is view handle slot (AskHost min max latency timeout) = unless_is _ (RequestAnswered refusal) refl
effect_is view handle slot (Cipher ctrl) = key_is view handle slot ctrl
effect_is view handle slot other = tt

either_is : (one other : Option EndStep) → IfSome one IsRefusal → IfSome other IsRefusal → IfSome (or_refusal one other) IsRefusal
either_is None other is also = also
either_is (Some step) other is also = is

pub refusal_is : (handle : ℕ) (room : Bool) (octets : List ℕ) (facts : Facts) (base : OpenLink) → IfSome (refusal_at handle room octets facts base) IsRefusal
refusal_is handle room octets facts base =
    either_is _ _ (effect_is facts.view handle facts.turn.slot (effect_in facts.turn.slot room (Some base) octets))
    (effect_is facts.view handle facts.turn.slot (kept_effect_in facts.turn.slot room (Some base) octets))

-- it is a step as a host asks for
pub refusal_asks : (step : EndStep) → IsRefusal step → IsAskedStep step
refusal_asks (RequestAnswered answer) is = tt
refusal_asks (KeyAnswered key slot) is = tt
refusal_asks step is = absurd is
