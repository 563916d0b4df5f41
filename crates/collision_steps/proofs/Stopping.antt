-- An end takes LL_TERMINATE_IND.
use Rattle.std.proofs.Common.{◌≡◌, ℕ, Bool, true, false, ◌&&◌, nat_le, refl, ap, ◌∙◌}
use Rattle.data_pdu.specs.declared.ctrl.Ctrl.TheVariants.{TerminateInd}
use Rattle.data_pdu.specs.declared.ctrl.CtrlRead.TheVariants.{Known}
use Rattle.procedure_stages.specs.declared.closing.Closing.{Closing}
use Rattle.procedure_stages.specs.declared.closing.Closing.TheVariants.{Open, Closed, Disconnecting}
use Rattle.procedure_stages.specs.declared.stages.Progress.{Progress}
use Rattle.procedure_stages.specs.declared.stages.Progress.TheVariants.{Central as central, Peripheral as peripheral}
use Rattle.procedure_stages.specs.declared.steps.Effect.TheVariants.{PeerEnds}
use Rattle.procedure_stages.specs.declared.steps.Step.{Step}
use Rattle.procedure_stages.specs.Closing.{closed, is_open}
use Rattle.procedure_stages.specs.Queue.{waiting_in}
use Rattle.procedures.specs.Outcomes.{empty_step}
use Rattle.procedures.specs.Table.{TableFacts}
use Rattle.procedures.specs.Taking.{facts_with, lacks_room, settled, taken_by, took_step}
use Rattle.procedures.specs.Termination.{terminate_taken}

and_false : (a : Bool) → (a && false) ≡ false
and_false true = refl
and_false false = refl

abbrev ending : ℕ → Step
ending code = record empty_step { effect = PeerEnds (record { 0 = code }) }

settled_of : (f : TableFacts) (slot code : ℕ) → settled f slot (terminate_taken f code) ≡ (facts_with f slot (terminate_taken f code), ending code)
settled_of f slot code = let room : lacks_room f (terminate_taken f code) ≡ false = and_false (is_open f.closing && nat_le 16 (waiting_in f.queue)) in rw room refl

by_role : (f : TableFacts) (p : Progress) (slot code : ℕ) (quiet : Bool)
    → settled f slot (taken_by p f quiet (TerminateInd code)) ≡ (facts_with f slot (terminate_taken f code), ending code)
by_role f (central c) slot code quiet = settled_of f slot code
by_role f (peripheral p) slot code quiet = settled_of f slot code

taken : (f : TableFacts) (slot code : ℕ) (quiet : Bool)
    → took_step f (Known (TerminateInd code)) slot quiet ≡ (facts_with f slot (terminate_taken f code), ending code)
taken f slot code quiet = by_role f f.progress slot code quiet

pub told : (f : TableFacts) (slot code : ℕ) (quiet : Bool) → (took_step f (Known (TerminateInd code)) slot quiet).1 ≡ ending code
told f slot code quiet = ap (λ (answer : TableFacts × Step). answer.1) (taken f slot code quiet)

never_open : (closing : Closing) → is_open (closed closing) ≡ false
never_open Open = refl
never_open Closed = refl
never_open Disconnecting = refl

pub stopped : (f : TableFacts) (slot code : ℕ) (quiet : Bool) → is_open (took_step f (Known (TerminateInd code)) slot quiet).0.closing ≡ false
stopped f slot code quiet =
    ap (λ (answer : TableFacts × Step). is_open answer.0.closing) (taken f slot code quiet) ∙ never_open f.closing
