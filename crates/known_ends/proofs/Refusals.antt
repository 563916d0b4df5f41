-- What of a request is answered at once, since a mask withholds its event.
use Rattle.std.proofs.Common.{◌≡◌, ℕ, Bool, true, false, Option, Some, None, Err, refl}
use Rattle.std.specs.Prelude.{IfSome, ⊤}
use Rattle.data_pdu.specs.declared.ctrl.Ctrl.{Ctrl}
use Rattle.data_pdu.specs.declared.ctrl.Ctrl.TheVariants.{EncReq}
use Rattle.hci_evt.specs.Event.{mask_bit_of}
use Rattle.hci_evt.specs.declared.event.Event.TheVariants.{KeyRequest, ParamRequest}
use Rattle.procedure_events.specs.procedure_stages.declared.steps.Effect.{Effect}
use Rattle.procedure_events.specs.procedure_stages.declared.steps.Effect.TheVariants.{AskHost, Cipher}
use Rattle.procedure_events.specs.procedure_stages.Steps.{asks_host}
use Rattle.host_view.specs.View.{View}
use Rattle.link_model.specs.Step.{Step as EndStep, KeyAnswered, RequestAnswered}
use Rattle.controller_model.specs.Events.{passes}
use Rattle.controller_model.specs.Heard.{answer_unless, key_refusal, or_refusal, refusal_of}

-- a request for parameters is refused, and one for a key is answered as by a host that has none
abbrev pub IsRefusal : EndStep → Type 0
IsRefusal (RequestAnswered (Err code)) = ⊤
IsRefusal (KeyAnswered None slot) = ⊤
IsRefusal step = ⊥

unless_is : (passes : Bool) (step : EndStep) → IsRefusal step → IfSome (answer_unless passes step) IsRefusal
unless_is true step is = tt
unless_is false step is = is

key_is : (view : View) (handle slot : ℕ) (ctrl : Ctrl) → IfSome (key_refusal view handle slot ctrl) IsRefusal
key_is view handle slot (EncReq rand ediv skd_m iv_m) = unless_is (passes view (mask_bit_of (KeyRequest handle rand ediv))) _ tt
key_is view handle slot other = tt

one_is : (view : View) (handle slot : ℕ) (effect : Effect) → IfSome (refusal_of view handle slot effect) IsRefusal
one_is view handle slot (AskHost min max latency timeout) =
    unless_is (passes view (mask_bit_of (ParamRequest handle min max latency timeout))) _ tt
one_is view handle slot (Cipher ctrl) = key_is view handle slot ctrl
one_is view handle slot other = tt

either_is : (one other : Option EndStep) → IfSome one IsRefusal → IfSome other IsRefusal → IfSome (or_refusal one other) IsRefusal
either_is None other is also = also
either_is (Some step) other is also = is

pub refusals_are : (view : View) (handle slot : ℕ) (effect kept : Effect)
    → IfSome (or_refusal (refusal_of view handle slot effect) (refusal_of view handle slot kept)) IsRefusal
refusals_are view handle slot effect kept = either_is _ _ (one_is view handle slot effect) (one_is view handle slot kept)

-- a request for a key
abbrev pub asks_key : Effect → Bool
asks_key (Cipher (EncReq rand ediv skd_m iv_m)) = true
asks_key effect = false

-- of nothing else anything is answered at once
pub none_refused : (view : View) (handle slot : ℕ) (effect : Effect) → asks_host effect ≡ false → asks_key effect ≡ false
    → refusal_of view handle slot effect ≡ None
none_refused view handle slot (AskHost min max latency timeout) none key = absurd cc
none_refused view handle slot (Cipher (EncReq rand ediv skd_m iv_m)) none key = absurd cc
none_refused view handle slot (Cipher ctrl) none key = refl
none_refused view handle slot other none key = refl
