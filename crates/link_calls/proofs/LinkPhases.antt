-- What a controller does with its links in each phase of a turn.
use Rattle.std.proofs.Common.{ℕ, refl}
use Rattle.run_laws.specs.controller_model.Facts.{Setup, Facts, first_facts}
use Rattle.run_laws.proofs.LinkPasses.{phase_passes_on}
use Rattle.run_laws.proofs.LinkPhases.{IsAtStage, begins_in, passes_in}
use Rattle.run_laws.proofs.TurnPlaces.{Between, IsTurned, Stage}
use Rattle.link_calls.proofs.LinkUses.{IsUsing, using_first, using_kept}

pub record IsPhased (setup : Setup) (stage : Stage) (begun : ℕ) (facts : Facts) : Type 0 where
  pub uses : IsUsing setup stage begun facts
  pub phase : IsAtStage stage facts.links facts.turn.doing

pub phased_kept : (setup : Setup) → IsTurned setup (IsPhased setup)
phased_kept setup = record {
  feeds = λ begun octet facts is.
      let uses = (using_kept setup).feeds begun octet facts is.uses in record { uses = uses; phase = uses.in_turn.does };
  begins = λ begun on facts is. record { uses = (using_kept setup).begins begun on facts is.uses; phase = begins_in setup begun on facts };
  passes = λ phases begun received facts is. record {
    uses = (using_kept setup).passes phases begun received facts is.uses;
    phase = passes_in setup facts received phases facts.turn.doing refl is.phase (phase_passes_on setup facts received is.uses.in_turn.listens);
  };
  ends = λ begun facts is. record { uses = (using_kept setup).ends begun facts is.uses; phase = refl };
}

pub phased_first : (setup : Setup) → IsPhased setup Between 0 (first_facts setup)
phased_first setup = record { uses = using_first setup; phase = refl }
