-- What an accepted command that asks something of links makes of what is held and noted.
use Rattle.std.proofs.Common.{◌≡◌, ℕ, ◌+◌, ◌%◌, ◌^◌, ◌<◌, true, false, List, length, slice_index, refl, ap, sym, ◌∙◌, subst}
use Rattle.std.proofs.Math.Nat.{mod-add-mod, mod-eq_of_lt}
use Rattle.acl_banks.specs.declared.pieces.Piece.{Piece}
use Rattle.hci_cmd.specs.declared.command.Command.{Command}
use Rattle.hci_cmd.specs.declared.command.Command.TheVariants.{LeReadRemoteFeatures, ReadRemoteVersion, Reset}
use Rattle.host_view.specs.Changes.{view_after}
use Rattle.host_view.specs.OnLinks.{asks_links}
use Rattle.host_view.specs.View.{View}
use Rattle.controller_model.specs.link_commands.declared.moments.Moment.{Moment}
use Rattle.controller_model.specs.link_commands.LinksCommanded.{events_commanded_on, links_commanded, view_known_on}
use Rattle.open_links.specs.Knowing.{Knows as KnowsLinks}
use Rattle.open_links.specs.OpenLinks.{Links}
use Rattle.controller_model.specs.Answers.{next_word}
use Rattle.controller_model.specs.Commands.{facts_accepted, facts_asking, links_after, moment_of, received_after}
use Rattle.controller_model.specs.Events.{notes_of_events}
use Rattle.controller_model.specs.Facts.{Setup, Facts}
use Rattle.controller.specs.Held.{Held}
use Rattle.controller.specs.Knowing.{IsAt}

-- ---- the moment of it

-- with this first word, and the second one at this place of these words
abbrev moment_held : (begun skd_m : ℕ) → (words : List ℕ) → (second : ℕ) → Moment
moment_held begun skd_m words second = record { slot = begun; skd_m = skd_m; iv_m = slice_index words second % 2 ^ 32 }

pub moment_is : (has : Setup) (held : Held) (facts : Facts) → IsAt has held facts → (skd_m : ℕ) (words : List ℕ) (second : ℕ)
    → skd_m ≡ next_word has facts.drawn → skd_m < 2 ^ 64 → words ≡ held.setup.words → second ≡ (held.place + 1) % length held.setup.words
    → moment_held held.turn.begun skd_m words second ≡ moment_of has facts
moment_is has held facts k skd_m words second first fits are is =
    let drawn : skd_m ≡ next_word has facts.drawn % 2 ^ 64 = sym (mod-eq_of_lt fits) ∙ ap (λ (word : ℕ). word % 2 ^ 64) first in
    let place : second ≡ (facts.drawn + 1) % length has.words =
    is ∙ (λ i. (k.place i + 1) % length (k.setup i).words) ∙ mod-add-mod facts.drawn (length has.words) 1 in
    let held_words : words ≡ has.words = are ∙ ap (λ (setup : Setup). setup.words) k.setup in
    λ i. moment_held (k.turn i).begun (drawn i) (held_words i) (place i)

-- ---- it shuts no link

record ShutsNone (command : Command) (links : Links) (received : List (ℕ × Piece)) : Type 0 where
  links_are : links_after command links ≡ links
  received_is : received_after command received ≡ received

shuts_none : (view : View) (command : Command) (links : Links) (received : List (ℕ × Piece)) → asks_links view command ≡ true
    → ShutsNone command links received
shuts_none view Reset links received asks = absurd (let h : false ≡ true = asks in absurd cc)
shuts_none view other links received asks = record { links_are = refl; received_is = refl }

pub still_knows : (has : Setup) (mid : Held) (facts : Facts) (command : Command) → asks_links facts.view command ≡ true
    → IsAt has mid (facts_accepted has facts command) → KnowsLinks mid.links facts.links facts.received
still_knows has mid facts command asks k =
    let none = shuts_none facts.view command facts.links facts.received asks in
    subst (λ (links : Links). KnowsLinks mid.links links facts.received) none.links_are
    (subst (λ (received : List (ℕ × Piece)). KnowsLinks mid.links (links_after command facts.links) received) none.received_is k.links)

-- ---- what is held

pub asks_is : (has : Setup) (mid new : Held) (facts : Facts) (command : Command) (view : View) → asks_links facts.view command ≡ true
    → IsAt has mid (facts_accepted has facts command) → view ≡ view_known_on mid.view command facts.links
    → KnowsLinks new.links (links_commanded command (moment_of has facts) facts.links) facts.received
    → new ≡ record mid { view = view; links = new.links } → IsAt has new (facts_asking true has facts command (facts_accepted has facts command))
asks_is has mid new facts command view asks k noted links is =
    let none = shuts_none facts.view command facts.links facts.received asks in
    record {
      setup = ap (λ (h : Held). h.setup) is ∙ k.setup;
      view = ap (λ (h : Held). h.view) is ∙ noted ∙ ap (λ (v : View). view_known_on v command facts.links) k.view;
      place = ap (λ (h : Held). h.place) is ∙ k.place;
      access = ap (λ (h : Held). h.access) is ∙ k.access;
      turn = ap (λ (h : Held). h.turn) is ∙ k.turn;
      activities = ap (λ (h : Held). h.activities) is ∙ k.activities;
      links =
          subst (λ (received : List (ℕ × Piece)). KnowsLinks new.links (links_commanded command (moment_of has facts) facts.links) received) (sym none.received_is)
          links;
    }

-- ---- what is noted

-- the masks are those of before
pub told_is : (view : View) (command : Command) (links : Links)
    → notes_of_events (view_after view command) (events_commanded_on command links) ≡ notes_of_events view (events_commanded_on command links)
unfolding view_after
told_is view (ReadRemoteVersion handle) links = refl
told_is view (LeReadRemoteFeatures handle) links = refl
told_is view other links = refl
