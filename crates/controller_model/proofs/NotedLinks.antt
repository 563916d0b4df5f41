-- Each note names a link of the controller, or is a packet to its host.
use Rattle.std.proofs.Common.{ℕ, List, [], ◌∷◌}
use Rattle.std.specs.Prelude.{All}
use Rattle.std.proofs.lemmas.List.Elements.{All-append, All-nil}
use Rattle.controller_model.specs.Step.{Step}
use Rattle.controller_model.specs.Facts.{Setup, Facts, first_facts}
use Rattle.controller_model.specs.Side.{facts_after, facts_of, notes_after, notes_from, notes_of}
use Rattle.controller_model.specs.Notes.{HasHandleBelow}
use Rattle.controller_model.proofs.Always.{holds_step}
use Rattle.controller_model.proofs.Handles.{HaveOwnHandles, handles_kept, own_handles}
use Rattle.controller_model.proofs.StepNotes.{step_noted}
use Rattle.controller_model.proofs.TurnNotes.{EachNote}

each_named : (most : ℕ) → EachNote most (HasHandleBelow most)
each_named most = record {
  up = λ event is. tt;
  received = λ piece. tt;
  opened = λ link below. below;
  shut = λ handle reason below. below;
  entered = λ handle event channel below. below;
  applied = λ handle number event below. below;
  began = λ handle kind below. below;
  refused = λ handle kind code below. below;
  done = λ handle kind below. below;
  sent = λ handle number llid octets below. below;
  took = λ handle number llid octets below. below;
}

step_named : (setup : Setup) (facts : Facts) (step : Step) → HaveOwnHandles setup facts
    → All (HasHandleBelow setup.links) (notes_after setup facts step)
step_named setup facts step own =
    step_noted setup (HasHandleBelow setup.links) (each_named setup.links) (λ event. tt) facts step own

pub step_names_links : (setup : Setup) (past : List Step) (step : Step)
    → All (HasHandleBelow setup.links) (notes_after setup (facts_of setup past) step)
step_names_links setup past step = step_named setup (facts_of setup past) step (own_handles setup past)

names_from : (setup : Setup) (facts : Facts) (past : List Step) → HaveOwnHandles setup facts
    → All (HasHandleBelow setup.links) (notes_from setup facts past)
names_from setup facts [] own = All-nil (HasHandleBelow setup.links)
names_from setup facts (step ∷ past) own =
    All-append (HasHandleBelow setup.links) (notes_after setup facts step) (notes_from setup (facts_after setup facts step) past)
    (step_named setup facts step own)
    (names_from setup (facts_after setup facts step) past
    (holds_step setup (HaveOwnHandles setup) (HaveOwnHandles setup) (handles_kept setup) facts step own))

pub past_names_links : (setup : Setup) (past : List Step) → All (HasHandleBelow setup.links) (notes_of setup past)
unfolding notes_of facts_of
past_names_links setup past = names_from setup (first_facts setup) past (own_handles setup [])
