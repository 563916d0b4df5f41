-- The numbers of links after an event, and after a call with its notes.
use Rattle.std.proofs.Common.{◌≡◌, ℕ, ◌==◌, ◌&&◌, ◌||◌, Bool, true, false, List, [], ◌∷◌, ◌++◌, refl, ap, ◌∙◌}
use Rattle.std.specs.Prelude.{fold, map, if◌then◌else◌}
use Rattle.std.proofs.lemmas.List.Sums.{fold-append}
use Rattle.ble_base.specs.declared.notes.Note.{Note}
use Rattle.ble_base.specs.declared.notes.Note.TheVariants.{Opened}
use Rattle.controller_model.specs.Step.{Step}
use Rattle.run_model.specs.History.{Event, Called, Noted}
use Rattle.run_model.specs.Links.{Links, first_links, links_after, links_of, with_handle}
use Rattle.run_model.proofs.Calls.{with_notes, fold_event, same_station}
use Rattle.run_model.proofs.OpenedNotes.{is_opened}

pub links_event : (history : List Event) (event : Event) → links_of (history ++ event ∷ []) ≡ links_after (links_of history) event
unfolding links_of
links_event history event = fold_event links_after first_links history event

-- ---- after notes

abbrev noted_links : ℕ → List Note → Links → Links
noted_links station notes links = fold links_after links (map (Noted station) notes)

last_noted : (station : ℕ) (notes : List Note) (links : Links) (other : ℕ) → (noted_links station notes links).last_of other ≡ links.last_of other
last_noted station [] links other = refl
last_noted station (Opened handle role own peer ∷ notes) links other = last_noted station notes (with_handle station handle links) other
last_noted station (note ∷ notes) links other = last_noted station notes links other

-- of another station
other_noted : (station : ℕ) (notes : List Note) (links : Links) (other handle : ℕ) → (other == station) ≡ false
    → (noted_links station notes links).link_of other handle ≡ links.link_of other handle
other_noted station [] links other handle differs = refl
other_noted station (Opened under role own peer ∷ notes) links other handle differs =
    other_noted station notes (with_handle station under links) other handle differs
    ∙ ap (λ b. if b && (handle == under) then links.last_of station else links.link_of other handle) differs
other_noted station (note ∷ notes) links other handle differs = other_noted station notes links other handle differs

-- of the one that notes: a link that it opens is the one that it knows last
opened_by : (same one more : Bool) (last link : ℕ) → same ≡ true
    → (if more then last else (if same && one then last else link)) ≡ (if one || more then last else link)
opened_by true true true last link is = refl
opened_by true true false last link is = refl
opened_by true false true last link is = refl
opened_by true false false last link is = refl
opened_by false one more last link is = absurd cc

own_noted : (station : ℕ) (notes : List Note) (links : Links) (handle : ℕ)
    → (noted_links station notes links).link_of station handle ≡ (if is_opened handle notes then links.last_of station else links.link_of station handle)
own_noted station [] links handle = refl
own_noted station (Opened under role own peer ∷ notes) links handle =
    own_noted station notes (with_handle station under links) handle
    ∙ opened_by (station == station) (handle == under) (is_opened handle notes) (links.last_of station) (links.link_of station handle) (same_station station)
own_noted station (note ∷ notes) links handle = own_noted station notes links handle

-- ---- after a call

links_called : (station : ℕ) (step : Step) (notes : List Note) (history : List Event)
    → links_of (with_notes station step notes history) ≡ noted_links station notes (links_of history)
unfolding links_of
links_called station step notes history = fold-append links_after first_links history (Called station step ∷ map (Noted station) notes)

pub last_by_call : (station : ℕ) (step : Step) (notes : List Note) (history : List Event) (other : ℕ)
    → (links_of (with_notes station step notes history)).last_of other ≡ (links_of history).last_of other
last_by_call station step notes history other =
    ap (λ (links : Links). links.last_of other) (links_called station step notes history) ∙ last_noted station notes (links_of history) other

pub link_by_other : (station : ℕ) (step : Step) (notes : List Note) (history : List Event) (other handle : ℕ) → (other == station) ≡ false
    → (links_of (with_notes station step notes history)).link_of other handle ≡ (links_of history).link_of other handle
link_by_other station step notes history other handle differs =
    ap (λ (links : Links). links.link_of other handle) (links_called station step notes history)
    ∙ other_noted station notes (links_of history) other handle differs

pub link_by_own : (station : ℕ) (step : Step) (notes : List Note) (history : List Event) (handle : ℕ)
    → (links_of (with_notes station step notes history)).link_of station handle
    ≡ (if is_opened handle notes then (links_of history).last_of station else (links_of history).link_of station handle)
link_by_own station step notes history handle =
    ap (λ (links : Links). links.link_of station handle) (links_called station step notes history) ∙ own_noted station notes (links_of history) handle
