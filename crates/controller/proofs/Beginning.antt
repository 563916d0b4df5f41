-- The beginning of a turn, from its parts.
use Rattle.std.proofs.Common.{◌≡◌, ℕ, Bool, List, ◌++◌, Option, ap, ◌∙◌, subst, sym, append_assoc}
use Rattle.acl_banks.specs.declared.pieces.Piece.{Piece}
use Rattle.ble_base.specs.declared.notes.Note.{Note}
use Rattle.slot_plan.specs.declared.Activity.{Activity}
use Rattle.slot_plan.specs.Holding.{winner_of}
use Rattle.open_links.specs.Knowing.{Knows as KnowsLinks}
use Rattle.open_links.specs.OpenLinks.{Links}
use Rattle.controller_model.specs.declared.doing.Doing.{Doing}
use Rattle.controller_model.specs.Entering.{IsInEvent, notes_all_entering}
use Rattle.controller_model.specs.Facts.{Setup, Facts}
use Rattle.controller_model.specs.Links.{facts_ending, notes_ending}
use Rattle.controller_model.specs.Outcome.{Outcome}
use Rattle.controller_model.specs.Radio.{facts_entering, fixing, links_fixing, outcome_after_ends, outcome_begun, plan_in, served, turn_begins}
use Rattle.controller_model.proofs.Exchanges.{OutcomeInEvent, served_in_event}
use Rattle.controller.specs.Held.{Held}
use Rattle.controller.specs.Knowing.{IsAt, Passes}

-- what is done is known, and the link that has the radio fixes its PDU
fixed_is : (has : Setup) (mid new : Held) (outcome : Outcome) (next : Doing) → OutcomeInEvent outcome → IsAt has mid outcome.facts → next ≡ outcome.next
    → new ≡ record mid { links = new.links }
    → ((links : Links) (received : List (ℕ × Piece)) → KnowsLinks mid.links links received → IsInEvent next links
    → KnowsLinks new.links (links_fixing next links) received)
    → IsAt has new (fixing outcome).facts
fixed_is has mid new outcome next in_event k does rest fixes = record {
  setup = ap (λ (h : Held). h.setup) rest ∙ k.setup;
  view = ap (λ (h : Held). h.view) rest ∙ k.view;
  place = ap (λ (h : Held). h.place) rest ∙ k.place;
  access = ap (λ (h : Held). h.access) rest ∙ k.access;
  turn = ap (λ (h : Held). h.turn) rest ∙ k.turn;
  activities = ap (λ (h : Held). h.activities) rest ∙ k.activities;
  links = subst (λ (doing : Doing). KnowsLinks new.links (links_fixing doing outcome.facts.links) outcome.facts.received) does
      (fixes outcome.facts.links outcome.facts.received k.links (subst (λ (doing : Doing). IsInEvent doing outcome.facts.links) (sym does) in_event));
}

begins_from : (has : Setup) (mid new : Held) (slot : ℕ) (on : Bool) (ready : Facts) (winner : Option Activity)
    (before ends after_ends noted : List Note) (next : Doing) → winner ≡ winner_of (plan_in slot ready) slot
    → after_ends ≡ before ++ ends → noted ≡ after_ends ++ notes_all_entering ready.view slot 0 ready.links
    → IsAt has mid (served on slot winner (facts_entering slot ready)).facts → next ≡ (served on slot winner (facts_entering slot ready)).next
    → new ≡ record mid { links = new.links }
    → ((links : Links) (received : List (ℕ × Piece)) → KnowsLinks mid.links links received → IsInEvent next links
    → KnowsLinks new.links (links_fixing next links) received)
    → Passes has new before noted next (outcome_after_ends on slot ends ready)
begins_from has mid new slot on ready winner before ends after_ends noted next won told enters at does rest fixes =
    record {
      at = subst (λ (w : Option Activity). IsAt has new (fixing (served on slot w (facts_entering slot ready))).facts) won
          (fixed_is has mid new (served on slot winner (facts_entering slot ready)) next
          (served_in_event on slot winner (facts_entering slot ready)) at does rest fixes);
      notes = enters ∙ ap (λ (notes : List Note). notes ++ notes_all_entering ready.view slot 0 ready.links) told
          ∙ append_assoc before ends (notes_all_entering ready.view slot 0 ready.links);
      doing = does ∙ ap (λ (w : Option Activity). (served on slot w (facts_entering slot ready)).next) won;
    }

-- the facts as the links enter their events
abbrev ready_in : ℕ → Facts → Facts
ready_in slot facts = turn_begins slot (facts_ending slot facts)

pub begins_is : (has : Setup) (mid new : Held) (facts : Facts) (slot : ℕ) (on : Bool) (winner : Option Activity)
    (before after_ends noted : List Note) (next : Doing) → winner ≡ winner_of (plan_in slot (ready_in slot facts)) slot
    → after_ends ≡ before ++ notes_ending slot facts
    → noted ≡ after_ends ++ notes_all_entering (ready_in slot facts).view slot 0 (ready_in slot facts).links
    → IsAt has mid (served on slot winner (facts_entering slot (ready_in slot facts))).facts
    → next ≡ (served on slot winner (facts_entering slot (ready_in slot facts))).next
    → new ≡ record mid { links = new.links }
    → ((links : Links) (received : List (ℕ × Piece)) → KnowsLinks mid.links links received → IsInEvent next links
    → KnowsLinks new.links (links_fixing next links) received)
    → Passes has new before noted next (outcome_begun slot on facts)
begins_is has mid new facts slot on winner before after_ends noted next won told enters at does rest fixes =
    begins_from has mid new slot on (ready_in slot facts) winner before (notes_ending slot facts) after_ends noted next won told enters at does rest fixes
