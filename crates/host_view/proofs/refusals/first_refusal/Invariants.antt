-- Invariants of `refusals::first_refusal`.
use Rattle.std.proofs.Common.{◌≡◌, drop}
use Rattle.host_view.specs.Refusals.{first_refusal, refusals_of}
use Rattle.host_view.proofs.refusals.first_refusal.Given as goal

abbrev pub invariant-loop-holds : goal.invariant-loop-holds
invariant-loop-holds l = first_refusal (refusals_of (drop l.holds-index l.refusals)) ≡ first_refusal (refusals_of l.refusals)
