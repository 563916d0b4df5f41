-- What the code of a station and of a log keep, after a call.
use Rattle.std.proofs.Common.{◌≡◌, ℕ, ◌==◌, false, List, ◌++◌, refl, sym, ap, subst, ◌∙◌}
use Rattle.std.specs.Prelude.{fold}
use Rattle.std.specs.List.{All}
use Rattle.ble_base.specs.declared.roles.Side.{Side}
use Rattle.ble_base.specs.declared.roles.Side.TheVariants.{A, B}
use Rattle.ble_base.specs.declared.notes.Note.{Note}
use Rattle.controller_model.specs.Step.{Step}
use Rattle.controller_model.specs.Facts.{Setup}
use Rattle.controller_model.specs.Notes.{HasHandleBelow}
use Rattle.controller_model.specs.Side.{facts_of, notes_after}
use Rattle.controller.specs.Knowing.{Knows}
use Rattle.run_model.specs.History.{Event, past_of}
use Rattle.run_model.specs.Journal.{journal_from, journal_of, side_of}
use Rattle.run_model.specs.Links.{Links, links_after, links_of}
use Rattle.run_model.specs.Run.{Given, after_call, setup_at}
use Rattle.pair_world.specs.declared.links.TheConstants.{LINKS}
use Rattle.pair_world.specs.KnownLinks.{KnownLinks}
use Rattle.pair_world.specs.Logs.{LogState, entries_noted, known_after, with_entries}
use Rattle.pair_world.specs.Stations.{StationState, Keeps, KnowsLinks, StationIsUpTo, HasStepped, number_of}
use Rattle.pair_world.proofs.Calls.{notes_in_call, noted_events, journal_call, left_call, links_call, past_other, past_own}
use Rattle.pair_world.proofs.Numbers.{begun_notes, entries_are, knows_notes, same_notes}

-- each note names a link of its controller
abbrev pub NamesItsLinks : Type 0
NamesItsLinks = (setup : Setup) (past : List Step) (step : Step) → All (HasHandleBelow setup.links) (notes_after setup (facts_of setup past) step)

names_own : NamesItsLinks → (given : Given) (station : ℕ) (step : Step) (history : List Event) → (setup_at given station).links ≡ LINKS
    → All (HasHandleBelow LINKS) (notes_in_call given station step history)
names_own names given station step history own =
    subst (λ (links : ℕ). All (HasHandleBelow links) (notes_in_call given station step history)) own
    (names (setup_at given station) (past_of station history) step)

pub side_is : (side : Side) → side_of (number_of side) ≡ side
side_is A = refl
side_is B = refl

-- the station that was called
called_at : (given : Given) (side : Side) (station : ℕ) (step : Step) (history : List Event) (before after : StationState) (log : LogState) (notes : List Note)
    → side_of station ≡ side → notes ≡ notes_in_call given station step history → All (HasHandleBelow LINKS) notes
    → StationIsUpTo given station history before log → HasStepped (setup_at given station) (past_of station history) step before after notes
    → StationIsUpTo given station (after_call given station step history)
    (record after { links = known_after after.links notes }) (with_entries (entries_noted side after.links notes) log)
called_at given side station step history before after log notes of are below at took =
    let known = subst (λ (links : KnownLinks). KnowsLinks station (links_of history) links) (sym took.same_links) at.keeps.links_are in
    let links = links_call given station step history ∙ ap (λ (notes : List Note). fold links_after (links_of history) (noted_events station notes)) (sym are) in
    record {
      keeps = record {
        handles = at.keeps.handles;
        knows = subst (λ (past : List Step). Knows (setup_at given station) after.held past) (sym (past_own given station step history)) took.goes.knows;
        unfed_are = took.same_unfed ∙ at.keeps.unfed_are ∙ sym (left_call given station station step history);
        links_are = subst (λ (links : Links). KnowsLinks station links (known_after after.links notes)) (sym links)
            (knows_notes station (links_of history) after.links notes known below);
      };
      writes = record {
        entries_are =
            (λ i. at.writes.entries_are i ++ entries_are side station (links_of history) after.links notes of known below i)
            ∙ ap (λ (notes : List Note). journal_of history ++ journal_from (links_of history) (noted_events station notes)) are
            ∙ sym (journal_call given station step history);
        links_are = at.writes.links_are ∙ sym (ap (λ (links : Links). links.begun) links ∙ begun_notes station (links_of history) notes);
      };
    }

-- a station takes a step, and what it notes is written
pub called : NamesItsLinks → (given : Given) (side : Side) (step : Step) (history : List Event) (before after written : StationState) (log new_log : LogState) (notes : List Note)
    → StationIsUpTo given (number_of side) history before log
    → HasStepped (setup_at given (number_of side)) (past_of (number_of side) history) step before after notes
    → new_log ≡ with_entries (entries_noted side after.links notes) log
    → written ≡ record after { links = known_after after.links notes }
    → StationIsUpTo given (number_of side) (after_call given (number_of side) step history) written new_log
called names given side step history before after written log new_log notes at took log_is written_is =
    rw log_is (rw written_is
    (called_at given side (number_of side) step history before after log notes (side_is side) took.goes.notes
    (subst (All (HasHandleBelow LINKS)) (sym took.goes.notes) (names_own names given (number_of side) step history at.keeps.handles)) at took))

-- a call on the controller of another station
pub keeps_other : (given : Given) (station other : ℕ) (step : Step) (history : List Event) (state : StationState) → (other == station) ≡ false
    → Keeps given other history state → Keeps given other (after_call given station step history) state
keeps_other given station other step history state ne keeps = record {
  handles = keeps.handles;
  knows = subst (λ (past : List Step). Knows (setup_at given other) state.held past) (sym (past_other given station other step history ne)) keeps.knows;
  unfed_are = keeps.unfed_are ∙ sym (left_call given station other step history);
  links_are = subst (λ (links : Links). KnowsLinks other links state.links) (sym (links_call given station step history))
      (same_notes station other (links_of history) state.links (notes_in_call given station step history) ne keeps.links_are);
}
