-- What an accepted command makes of what is held.
use Rattle.std.proofs.Common.{◌≡◌, ℕ, ◌+◌, ◌%◌, Bool, true, false, length, refl, ap, ◌∙◌, arith}
use Rattle.std.proofs.Math.Nat.{mod-add-mod}
use Rattle.hci_cmd.specs.declared.command.Command.{Command}
use Rattle.hci_cmd.specs.declared.command.Command.TheVariants.{LeEnableEncryption, LeRand}
use Rattle.host_view.specs.Changes.{view_after}
use Rattle.open_links.specs.Knowing.{Knows as KnowsLinks}
use Rattle.controller_model.specs.Commands.{drawn_after, facts_accepted, links_after, received_after}
use Rattle.controller_model.specs.Facts.{Setup, Facts}
use Rattle.controller_model.specs.Heard.{drawn_if}
use Rattle.activities.specs.Steps.{activities_after, activities_of}
use Rattle.controller.specs.Held.{Held}
use Rattle.controller.specs.Knowing.{IsAt}
use Rattle.controller.specs.Steps.{held_accepted, place_after, place_drawn}

two_places : (count drawn : ℕ) → ((drawn % count + 1) % count + 1) % count ≡ (drawn + 2) % count
two_places count drawn =
    ap (λ (place : ℕ). (place + 1) % count) (mod-add-mod drawn count 1) ∙ mod-add-mod (drawn + 1) count 1
    ∙ ap (λ (n : ℕ). n % count) (two_more drawn)
  where
    two_more : (n : ℕ) → n + 1 + 1 ≡ n + 2
    two_more n = omega arith

-- where words are drawn
pub drawn_is : (draws : Bool) (count drawn : ℕ) → place_drawn draws count (drawn % count) ≡ drawn_if draws drawn % count
drawn_is true count drawn = two_places count drawn
drawn_is false count drawn = refl

place_is : (count drawn : ℕ) (command : Command) → place_after count command (drawn % count) ≡ drawn_after command drawn % count
place_is count drawn LeRand = mod-add-mod drawn count 1
place_is count drawn (LeEnableEncryption handle rand ediv key) = two_places count drawn
place_is count drawn other = refl

pub accepts_is : (has : Setup) (held shut new : Held) (facts : Facts) (command : Command) → shut ≡ record held { links = shut.links }
    → KnowsLinks shut.links (links_after command facts.links) (received_after command facts.received) → new ≡ held_accepted shut command
    → IsAt has held facts → IsAt has new (facts_accepted has facts command)
accepts_is has held shut new facts command rest links is k =
    let setup : shut.setup ≡ has = ap (λ (h : Held). h.setup) rest ∙ k.setup in
    let view : shut.view ≡ facts.view = ap (λ (h : Held). h.view) rest ∙ k.view in
    let turn : shut.turn ≡ facts.turn = ap (λ (h : Held). h.turn) rest ∙ k.turn in
    let place : shut.place ≡ facts.drawn % length has.words = ap (λ (h : Held). h.place) rest ∙ k.place in
    let activities : shut.activities ≡ activities_of facts = ap (λ (h : Held). h.activities) rest ∙ k.activities in
    record {
      setup = ap (λ (h : Held). h.setup) is ∙ setup;
      view = ap (λ (h : Held). h.view) is ∙ ap (λ v. view_after v command) view;
      place = ap (λ (h : Held). h.place) is ∙ (λ i. place_after (length (setup i).words) command (place i))
          ∙ place_is (length has.words) facts.drawn command;
      access = ap (λ (h : Held). h.access) is ∙ ap (λ (h : Held). h.access) rest ∙ k.access;
      turn = ap (λ (h : Held). h.turn) is ∙ turn;
      activities = ap (λ (h : Held). h.activities) is
          ∙ (λ i. activities_after (setup i) (view i) (turn i).begun command (activities i));
      links = rw (ap (λ (h : Held). h.links) is) links;
    }
