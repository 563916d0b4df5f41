-- Which requests of its peer the masks of a host withhold from it, and what an end then answers at once (Core 5.2, volume 4
-- part E, sections 7.7.65.5, 7.7.65.6 and 7.8.1; volume 6 part B, sections 5.1.3.1 and 5.1.7).
use Rattle.std.specs.Prelude.{Bool, false, Option, Some, None, if◌then◌else◌}
use Rattle.data_pdu.specs.declared.ctrl.Ctrl.{Ctrl}
use Rattle.data_pdu.specs.declared.ctrl.Ctrl.TheVariants.{EncReq}
use Rattle.host_masks.specs.Masks.{Masks, withholds_keys, withholds_requests}
use Rattle.journal_ends.specs.journal_acks.link_calls.Phases.{refusal}
use Rattle.journal_ends.specs.link_model.keyed_control.KeyedSteps.{KeyedStep, Answers, LacksKey}
use Rattle.journal_ends.specs.link_model.phased_end.declared.taking.TakenKeyed.{TakenKeyed}
use Rattle.journal_ends.specs.link_model.procedure_stages.declared.steps.Effect.{Effect}
use Rattle.journal_ends.specs.link_model.procedure_stages.declared.steps.Effect.TheVariants.{AskHost, Cipher}

-- those for parameters, and those for a key
pub record Withheld : Type 0 where
  pub parameters : Bool
  pub key : Bool

abbrev pub nothing_withheld : Withheld
nothing_withheld = record { parameters = false; key = false }

abbrev pub withheld_by : Masks → Withheld
withheld_by masks = record { parameters = withholds_requests masks; key = withholds_keys masks }

-- ---- what is answered at once: a request for parameters is refused, and one for a key is answered as by a host without one

abbrev pub step_if : Bool → KeyedStep → Option KeyedStep
step_if is_withheld step = if is_withheld then Some step else None

abbrev pub key_answer : Withheld → Ctrl → Option KeyedStep
key_answer withheld (EncReq rand ediv skd_m iv_m) = step_if withheld.key LacksKey
key_answer withheld other = None

abbrev pub answer_to : Withheld → Effect → Option KeyedStep
answer_to withheld (AskHost min max latency timeout) = step_if withheld.parameters (Answers refusal)
answer_to withheld (Cipher ctrl) = key_answer withheld ctrl
answer_to withheld other = None

-- for the PDU that is taken, or else for one that was kept until now
abbrev pub first_answer : Option KeyedStep → Option KeyedStep → Option KeyedStep
first_answer None other = other
first_answer (Some step) other = Some step

abbrev pub withheld_answer : Withheld → TakenKeyed → Option KeyedStep
withheld_answer withheld given =
    first_answer (answer_to withheld given.taken.effect) (answer_to withheld given.kept.effect)
