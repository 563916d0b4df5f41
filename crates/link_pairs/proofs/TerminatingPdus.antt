-- What the table of an end makes of LL_TERMINATE_IND.
use Rattle.std.proofs.Common.{◌≡◌, ℕ, nat_le, ◌&&◌, Bool, None, refl, ap, ◌∙◌}
use Rattle.data_pdu.specs.declared.ctrl.Ctrl.TheVariants.{TerminateInd}
use Rattle.data_pdu.specs.declared.ctrl.CtrlRead.TheVariants.{Known}
use Rattle.control_octets.specs.procedure_stages.Closing.{is_open}
use Rattle.control_octets.specs.procedure_stages.Queue.{waiting_in}
use Rattle.control_octets.specs.procedure_stages.declared.stages.Progress.{Progress}
use Rattle.control_octets.specs.procedure_stages.declared.stages.Progress.TheVariants.{Central as central, Peripheral as peripheral}
use Rattle.control_octets.specs.procedures.declared.outcome.Outcome.{Outcome}
use Rattle.control_octets.specs.procedures.Table.{TableFacts}
use Rattle.control_octets.specs.procedures.Taking.{facts_with, outcome_of, settled, taken_by, took_step}
use Rattle.control_octets.specs.procedures.Termination.{terminate_taken}
use Rattle.control_octets.proofs.control_model.Calls.{settled_as}
use Rattle.link_pairs.proofs.Items.{never}

module _ (f : TableFacts) (code slot : ℕ) (quiet : Bool) where
  pub outcome_ends : outcome_of f quiet (Known (TerminateInd code)) ≡ terminate_taken f code
  outcome_ends = by f.progress
    where
      by : (p : Progress) → taken_by p f quiet (TerminateInd code) ≡ terminate_taken f code
      by (central c) = refl
      by (peripheral p) = refl

  -- there is always room for it: it is not answered
  pub took_ends : (took_step f (Known (TerminateInd code)) slot quiet).1 ≡ (terminate_taken f code).step
  took_ends =
      ap (λ (o : Outcome). (settled f slot o).1) outcome_ends
      ∙ ap (λ (full : Bool). (settled_as full None f (facts_with f slot (terminate_taken f code)) (terminate_taken f code).step).1)
      (never (is_open f.closing && nat_le 16 (waiting_in f.queue)))
