-- What an end makes, of how it is to leave its link, of its answer to a request that is withheld from its host: the answer is
-- of the turn of the packet that has the request.
use Rattle.std.proofs.Common.{◌≡◌, ℕ, Bool, true, false, Option, Some, None, List, refl, sym, ap}
use Rattle.std.specs.Prelude.{IfSome, Err, ⊤}
use Rattle.ble_base.specs.ErrorCodes.{unsupported_remote_feature}
use Rattle.data_pdu.specs.declared.ctrl.Ctrl.{Ctrl}
use Rattle.data_pdu.specs.declared.ctrl.Ctrl.TheVariants.{EncReq}
use Rattle.journal_controls.specs.controller_model.Facts.{Facts as StationFacts}
use Rattle.journal_controls.specs.controller_model.Heard.{answer_unless, effect_in, kept_effect_in, key_refusal, or_refusal, refusal_of}
use Rattle.journal_controls.specs.controller_model.host_view.View.{View}
use Rattle.journal_controls.specs.journal_acks.link_calls.Phases.{refusal_at}
use Rattle.journal_controls.specs.link_model.Facts.{Facts, keyed_of}
use Rattle.journal_controls.specs.link_model.Hosts.{ends_without_key, leaving_from_if}
use Rattle.journal_controls.specs.link_model.Setup.{Setup}
use Rattle.journal_controls.specs.link_model.Step.{Step, KeyAnswered, RequestAnswered}
use Rattle.journal_controls.specs.link_model.procedure_stages.declared.steps.Effect.{Effect}
use Rattle.journal_controls.specs.link_model.procedure_stages.declared.steps.Effect.TheVariants.{AskHost, Cipher}
use Rattle.journal_controls.specs.open_links.OpenLinks.{OpenLink}
use Rattle.journal_controls.proofs.Refusing.{refused}
use Rattle.journal_controls.proofs.TakingLines.{keyed_answer}
use Rattle.journal_leaving.specs.Lacking.{leaving_refusing}

-- ---- it is of this turn

abbrev pub IsAtOnce : ℕ → Step → Type 0
IsAtOnce slot (RequestAnswered answer) = ⊤
IsAtOnce slot (KeyAnswered key at) = at ≡ slot
IsAtOnce slot step = ⊥

unless_once : (slot : ℕ) (passes : Bool) (step : Step) → IsAtOnce slot step → IfSome (answer_unless passes step) (IsAtOnce slot)
unless_once slot true step is = tt
unless_once slot false step is = is

key_once : (view : View) (handle slot : ℕ) (ctrl : Ctrl) → IfSome (key_refusal view handle slot ctrl) (IsAtOnce slot)
key_once view handle slot (EncReq rand ediv skd_m iv_m) = unless_once slot _ (KeyAnswered None slot) refl
key_once view handle slot other = tt

effect_once : (view : View) (handle slot : ℕ) (effect : Effect) → IfSome (refusal_of view handle slot effect) (IsAtOnce slot)
effect_once view handle slot (AskHost min max latency timeout) =
    unless_once slot _ (RequestAnswered (Err (record { 0 = unsupported_remote_feature }))) tt
effect_once view handle slot (Cipher ctrl) = key_once view handle slot ctrl
effect_once view handle slot other = tt

either_once : (slot : ℕ) (one other : Option Step) → IfSome one (IsAtOnce slot) → IfSome other (IsAtOnce slot) → IfSome (or_refusal one other) (IsAtOnce slot)
either_once slot None other is also = also
either_once slot (Some step) other is also = is

pub refusal_once : (handle : ℕ) (room : Bool) (octets : List ℕ) (facts : StationFacts) (base : OpenLink)
    → IfSome (refusal_at handle room octets facts base) (IsAtOnce facts.turn.slot)
refusal_once handle room octets facts base =
    let slot = facts.turn.slot in
    either_once slot _ _ (effect_once facts.view handle slot (effect_in slot room (Some base) octets))
    (effect_once facts.view handle slot (kept_effect_in slot room (Some base) octets))

-- ---- so it is to leave as the lines say

pub refused_leaves : (setup : Setup) (facts : Facts) (slot : ℕ) (refusal : Option Step) → IfSome refusal (IsAtOnce slot)
    → leaving_refusing slot (keyed_of facts) (keyed_answer refusal) facts.leaving ≡ (refused setup facts refusal).leaving
refused_leaves setup facts slot None is = refl
refused_leaves setup facts slot (Some (RequestAnswered answer)) is = refl
refused_leaves setup facts slot (Some (KeyAnswered None at)) is = ap (λ one. leaving_from_if (ends_without_key None facts) one facts.leaving) (sym is)
refused_leaves setup facts slot (Some (KeyAnswered (Some ltk) at)) is = refl
refused_leaves setup facts slot (Some step) is = absurd is
