-- Links that are shut, by what is held.
use Rattle.std.proofs.Common.{◌≡◌, ℕ, ◌+◌, false, Option, Some, None, is_some, List, [], ◌∷◌, ◌++◌, append-nil, refl, ap, sym, subst, ◌∙◌}
use Rattle.std.specs.Prelude.{flat_map, fold}
use Rattle.std.proofs.lemmas.Bool.{or_parts}
use Rattle.acl_banks.specs.declared.pieces.Piece.{Piece}
use Rattle.ble_base.specs.declared.notes.Note.{Note}
use Rattle.host_view.specs.Noted.{view_noted}
use Rattle.host_view.specs.View.{View}
use Rattle.open_links.specs.Knowing.{Knows as KnowsLinks}
use Rattle.open_links.specs.declared.ended.LinkEnded.{LinkEnded}
use Rattle.open_links.specs.Ended.{end_by, received_ended}
use Rattle.controller_model.specs.Facts.{Setup, Facts}
use Rattle.controller_model.specs.Links.{ends_for, facts_shut, facts_without, note_shut, notes_ended, notes_without, radio_without}
use Rattle.activities.specs.Held.{HeldActivities}
use Rattle.controller.specs.Held.{Held}
use Rattle.controller.specs.Knowing.{IsAt}
use Rattle.controller.specs.Order.{Stays}
use Rattle.controller.specs.Steps.{held_shut}
use Rattle.open_links.specs.OpenLinks.{Links, OpenLink}
use Rattle.open_links.specs.Turns.{ends_by, links_without, some_ends, staying_by}

-- with any pieces that the host has not received
abbrev with_received : List (ℕ × Piece) → Facts → Facts
with_received received facts = record facts { received = received }

one_shut : (has : Setup) (held : Held) (facts : Facts) (ended : LinkEnded) (received : List (ℕ × Piece)) → IsAt has held (with_received received facts)
    → IsAt has (held_shut held ended) (with_received received (facts_shut facts ended))
one_shut has held facts ended received k = record {
  setup = k.setup;
  view = ap (λ (view : View). view_noted view (note_shut ended.handle ended.reason.0)) k.view;
  place = k.place;
  access = k.access;
  turn = k.turn;
  activities = ap (λ (held : HeldActivities). record held { radio = radio_without ended.handle held.radio }) k.activities;
  links = k.links;
}

all_shut : (has : Setup) (ended : List LinkEnded) (held : Held) (facts : Facts) (received : List (ℕ × Piece)) → IsAt has held (with_received received facts)
    → IsAt has (fold held_shut held ended) (with_received received (fold facts_shut facts ended))
all_shut has [] held facts received k = k
all_shut has (first ∷ rest) held facts received k =
    all_shut has rest (held_shut held first) (facts_shut facts first) received (one_shut has held facts first received k)

received_is : (ended : List LinkEnded) (facts : Facts) → (fold facts_shut facts ended).received ≡ received_ended ended facts.received
received_is [] facts = refl
received_is (first ∷ rest) facts = received_is rest (facts_shut facts first)

-- the links that end for a reason are taken out, and then each is shut
pub ending_is : (has : Setup) (held without new : Held) (facts : Facts) (reason : OpenLink → Option ℕ) (ended : List LinkEnded)
    → without ≡ record held { links = without.links }
    → KnowsLinks without.links (links_without reason facts.links) (received_ended (ends_for reason facts) facts.received) → ended ≡ ends_for reason facts
    → new ≡ fold held_shut without ended → IsAt has held facts → IsAt has new (facts_without reason facts)
ending_is has held without new facts reason ended rest links are is k =
    let staying : Facts = record facts { links = links_without reason facts.links } in
    let received = received_ended (ends_for reason facts) facts.received in
    let k2 : IsAt has without (with_received received staying) = record {
      setup = ap (λ (h : Held). h.setup) rest ∙ k.setup;
      view = ap (λ (h : Held). h.view) rest ∙ k.view;
      place = ap (λ (h : Held). h.place) rest ∙ k.place;
      access = ap (λ (h : Held). h.access) rest ∙ k.access;
      turn = ap (λ (h : Held). h.turn) rest ∙ k.turn;
      activities = ap (λ (h : Held). h.activities) rest ∙ k.activities;
      links = links;
    } in
    rw (is, are) (subst (λ (pieces : List (ℕ × Piece)). IsAt has (fold held_shut without (ends_for reason facts)) (with_received pieces (facts_without reason facts)))
    (sym (received_is (ends_for reason facts) staying)) (all_shut has (ends_for reason facts) without staying received k2))

-- ---- where no link has the reason

no_reason : (code : Option ℕ) → is_some code ≡ false → code ≡ None
no_reason None none = refl
no_reason (Some code) none = absurd cc

none_end : (reason : OpenLink → Option ℕ) (handle : ℕ) (links : Links) → some_ends reason links ≡ false → ends_by reason handle links ≡ []
none_end reason handle [] none = refl
none_end reason handle (None ∷ links) none = none_end reason (handle + 1) links none
none_end reason handle (Some link ∷ links) none =
    let parts = or_parts (is_some (reason link)) (some_ends reason links) none in
    let first = no_reason (reason link) parts.0 in
    let rest = none_end reason (handle + 1) links parts.1 in
    λ i. end_by handle (first i) ++ rest i

all_stay : (reason : OpenLink → Option ℕ) (links : Links) → some_ends reason links ≡ false → links_without reason links ≡ links
all_stay reason [] none = refl
all_stay reason (None ∷ links) none = ap (λ (others : Links). None ∷ others) (all_stay reason links none)
all_stay reason (Some link ∷ links) none =
    let parts = or_parts (is_some (reason link)) (some_ends reason links) none in
    let first = no_reason (reason link) parts.0 in
    let rest = all_stay reason links parts.1 in
    λ i. staying_by (first i) link ∷ rest i

-- nothing changes then, and nothing is noted
pub none_ends : (has : Setup) (held : Held) (facts : Facts) (reason : OpenLink → Option ℕ) → some_ends reason facts.links ≡ false → IsAt has held facts
    → IsAt has held (facts_without reason facts)
none_ends has held facts reason none k =
    let staying : Facts = record facts { links = links_without reason facts.links } in
    let same : IsAt has held staying = record {
      setup = k.setup;
      view = k.view;
      place = k.place;
      access = k.access;
      turn = k.turn;
      activities = k.activities;
      links = subst (λ (links : Links). KnowsLinks held.links links facts.received) (sym (all_stay reason facts.links none)) k.links;
    } in
    subst (λ (ended : List LinkEnded). IsAt has held (fold facts_shut staying ended)) (sym (none_end reason 0 facts.links none)) same

pub none_noted : (before : List Note) (facts : Facts) (reason : OpenLink → Option ℕ) → some_ends reason facts.links ≡ false
    → before ≡ before ++ notes_without reason facts
none_noted before facts reason none =
    sym (append-nil before) ∙ ap (λ (ended : List LinkEnded). before ++ flat_map (notes_ended facts.view) ended) (sym (none_end reason 0 facts.links none))

-- what shutting leaves as it is
pub shut_stays : (ended : List LinkEnded) (held : Held) → Stays held (fold held_shut held ended)
shut_stays [] held = record { framer = refl; between = refl; begun = refl; slot = refl; heard_to = refl; unreported = refl }
shut_stays (first ∷ rest) held =
    let s = shut_stays rest (held_shut held first) in
    record { framer = s.framer; between = s.between; begun = s.begun; slot = s.slot; heard_to = s.heard_to; unreported = s.unreported }

pub both_stay : (one two three : Held) → Stays one two → Stays two three → Stays one three
both_stay one two three s t = record {
  framer = t.framer ∙ s.framer;
  between = t.between ∙ s.between;
  begun = t.begun ∙ s.begun;
  slot = t.slot ∙ s.slot;
  heard_to = t.heard_to ∙ s.heard_to;
  unreported = t.unreported ∙ s.unreported;
}
