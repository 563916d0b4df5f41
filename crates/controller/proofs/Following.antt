-- The view of a host, which follows what is noted as the links enter their events and as a link hears octets.
use Rattle.std.proofs.Common.{◌≡◌, ℕ, List, ◌++◌, length, drop, ap, sym, ◌∙◌}
use Rattle.std.proofs.lemmas.List.{drop_at}
use Rattle.std.specs.List.{fold}
use Rattle.ble_base.specs.declared.notes.Note.{Note}
use Rattle.host_view.specs.Noted.{view_noted}
use Rattle.host_view.specs.View.{View}
use Rattle.open_links.specs.Knowing.{Knows as KnowsLinks}
use Rattle.controller_model.specs.Entering.{all_entered, notes_all_entering}
use Rattle.controller_model.specs.Facts.{Setup, Facts}
use Rattle.controller_model.specs.Radio.{facts_entering}
use Rattle.controller.specs.Held.{Held}
use Rattle.controller.specs.Knowing.{IsAt}

-- what is noted from a place on is what was added there
pub view_follows : (view new : View) (place : ℕ) (before more noted : List Note) → place ≡ length before → noted ≡ before ++ more
    → new ≡ fold view_noted view (drop place noted) → new ≡ fold view_noted view more
view_follows view new place before more noted at told follows =
    follows ∙ ap (λ (notes : List Note). fold view_noted view notes) (ap (drop place) told ∙ drop_at before more place (sym at))

-- the links enter their events
pub entering_is : (has : Setup) (held new : Held) (facts : Facts) (slot place : ℕ) (before noted : List Note)
    → new ≡ record held { view = new.view; activities = new.activities; links = new.links } → new.activities ≡ held.activities
    → KnowsLinks new.links (all_entered slot facts.links) facts.received → place ≡ length before
    → noted ≡ before ++ notes_all_entering held.view slot 0 facts.links → new.view ≡ fold view_noted held.view (drop place noted)
    → IsAt has held facts → IsAt has new (facts_entering slot facts)
entering_is has held new facts slot place before noted rest same links at told follows k = record {
  setup = ap (λ (h : Held). h.setup) rest ∙ k.setup;
  view = view_follows held.view new.view place before _ noted at told follows
      ∙ (λ i. fold view_noted (k.view i) (notes_all_entering (k.view i) slot 0 facts.links));
  place = ap (λ (h : Held). h.place) rest ∙ k.place;
  access = ap (λ (h : Held). h.access) rest ∙ k.access;
  turn = ap (λ (h : Held). h.turn) rest ∙ k.turn;
  activities = same ∙ k.activities;
  links = links;
}
