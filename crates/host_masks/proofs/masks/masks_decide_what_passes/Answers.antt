-- Proof of `masks::masks_decide_what_passes`: both tests are of the same bits.
use Rattle.std.proofs.Common.{◌≡◌, Bool, true, false, not, if◌then◌else◌, Some, None, Err, refl}
use Rattle.ble_base.specs.ErrorCodes.{unsupported_remote_feature}
use Rattle.hci_evt.specs.declared.event.MaskBit.{MaskBit}
use Rattle.hci_evt.specs.declared.event.MaskBit.TheVariants.{Always, Main, Meta}
use Rattle.run_model.specs.controller_model.Events.{passes}
use Rattle.run_model.specs.controller_model.Heard.{answer_unless}
use Rattle.run_model.specs.controller_model.host_view.View.{View}
use Rattle.run_model.specs.link_model.Step.{Step, KeyAnswered, RequestAnswered}
use Rattle.host_masks.specs.Masks.{lets_through, view_masks}
use Rattle.host_masks.proofs.masks.masks_decide_what_passes.Goals as goal

passes_by : (view : View) (bit : MaskBit) → passes view bit ≡ lets_through (view_masks view) bit
passes_by view Always = refl
passes_by view (Main bit) = refl
passes_by view (Meta bit) = refl

answered_by : (through : Bool) (step : Step) → answer_unless through step ≡ (if not through then Some step else None)
answered_by true step = refl
answered_by false step = refl

pub returns : goal.returns
returns c = record {
  events = passes_by;
  requests = λ view handle slot min max latency timeout.
      answered_by (lets_through (view_masks view) (Meta 5)) (RequestAnswered (Err (record { 0 = unsupported_remote_feature })));
  keys = λ view handle slot rand ediv skd_m iv_m. answered_by (lets_through (view_masks view) (Meta 4)) (KeyAnswered None slot);
}
