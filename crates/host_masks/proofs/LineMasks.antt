-- The masks that the controller of a side holds are those of the lines of what the side was fed.
use Rattle.std.proofs.Common.{◌≡◌, ◌⊎◌, ℕ, ◌==◌, false, List, [], ◌∷◌, ◌++◌, inl, inr, refl, sym, ap, subst, ◌∙◌, append-nil, append_assoc}
use Rattle.std.specs.Prelude.{flat_map, map, if◌then◌else◌}
use Rattle.std.proofs.lemmas.List.Concat.{flat_map-append}
use Rattle.ble_base.specs.declared.notes.Note.{Note}
use Rattle.ble_base.specs.declared.roles.Side.{Side}
use Rattle.ble_base.specs.declared.roles.Side.TheVariants.{A, B}
use Rattle.run_model.specs.controller_model.Step.{Step}
use Rattle.run_model.specs.Due.{Each, octets_called}
use Rattle.run_model.specs.Feeding.{is_octet, is_of_feeding}
use Rattle.run_model.specs.History.{Event, TurnBegan, HostFed, Called, Noted, Transmitted, fed_to, octets_in}
use Rattle.run_model.specs.Journal.{entries_of, journal_from, journal_of, side_of}
use Rattle.run_model.specs.Links.{Links, first_links, links_after}
use Rattle.run_model.specs.Readers.{IsOfStations, fed_in, fed_to_side, of_side, station_of}
use Rattle.run_model.specs.Run.{Given, facts_at, history_of, run_of}
use Rattle.run_model.proofs.Dues.{fed_called}
use Rattle.run_model.proofs.Journals.{IsOfPair, each_front, note_fed, two}
use Rattle.run_model.proofs.OfStations.{OfStations, run_of_stations}
use Rattle.host_masks.specs.Masks.{masks_of, view_masks}
use Rattle.host_masks.proofs.OctetsHeld.{masks_at_end, masks_before, masks_called}

-- ---- what a side was fed, of two

own_octets : (side : Side) (station : ℕ) (octets : List ℕ) → (station ≡ 0) ⊎ (station ≡ 1)
    → of_side side (side_of station) octets ≡ (if station_of side == station then octets else [])
own_octets A station octets (inl is) = subst (λ s. of_side A (side_of s) octets ≡ (if 0 == s then octets else [])) (sym is) refl
own_octets A station octets (inr is) = subst (λ s. of_side A (side_of s) octets ≡ (if 0 == s then octets else [])) (sym is) refl
own_octets B station octets (inl is) = subst (λ s. of_side B (side_of s) octets ≡ (if 1 == s then octets else [])) (sym is) refl
own_octets B station octets (inr is) = subst (λ s. of_side B (side_of s) octets ≡ (if 1 == s then octets else [])) (sym is) refl

event_fed : (side : Side) (links : Links) (event : Event) → IsOfPair event
    → flat_map (fed_in side) (entries_of links event) ≡ octets_in (station_of side) event
event_fed side links (TurnBegan slot radios) is = refl
event_fed side links (HostFed other octets) is =
    append-nil (of_side side (side_of other) octets) ∙ own_octets side other octets (two other is)
event_fed side links (Called other step) is = refl
event_fed side links (Noted other note) is =
    ap (λ xs. xs ++ []) (note_fed side (side_of other) (links.link_of other) (links.last_of other) note)
event_fed side links (Transmitted other channel octets []) is = refl
event_fed side links (Transmitted other channel octets (hearing ∷ hearings)) is = refl

fed_from : (side : Side) (links : Links) (before history : List Event) → Each (λ early event. IsOfPair event) before history
    → flat_map (fed_in side) (journal_from links history) ≡ flat_map (octets_in (station_of side)) history
fed_from side links before [] each = refl
fed_from side links before (event ∷ history) each =
    flat_map-append (fed_in side) (entries_of links event) (journal_from (links_after links event) history)
    ∙ ap (λ xs. xs ++ flat_map (fed_in side) (journal_from (links_after links event) history)) (event_fed side links event each.0)
    ∙ ap (λ xs. octets_in (station_of side) event ++ xs) (fed_from side (links_after links event) (before ++ event ∷ []) history each.1)

side_fed : (side : Side) (history : List Event) → Each (λ early event. IsOfPair event) [] history
    → fed_to_side side (journal_of history) ≡ fed_to (station_of side) history
unfolding journal_of
side_fed side history each = fed_from side first_links [] history each

module _ (given : Given) (are_two : given.stations ≡ 0 ∷ 1 ∷ []) where
  each_of_pair : (before rest : List Event) → history_of (run_of given) ≡ before ++ rest → Each (λ early event. IsOfPair event) [] before
  each_of_pair before rest at =
      let all : Each (OfStations given) [] (before ++ rest) = subst (Each (OfStations given) []) at (run_of_stations given) in
      subst (λ stations. Each (λ early event. IsOfStations stations event) [] before) are_two (each_front (OfStations given) [] before rest all)

  fed_before : (side : Side) (before rest : List Event) → history_of (run_of given) ≡ before ++ rest
      → fed_to_side side (journal_of before) ≡ fed_to (station_of side) before
  fed_before side before rest at = side_fed side before (each_of_pair before rest at)

  -- ---- its masks

  pub taken_masks : (side : Side) (before rest : List Event) → history_of (run_of given) ≡ before ++ rest
      → octets_called (station_of side) before ≡ fed_to (station_of side) before
      → view_masks (facts_at given (station_of side) before).view ≡ masks_of (fed_to_side side (journal_of before))
  taken_masks side before rest at taken =
      masks_called given (station_of side) before ∙ ap masks_of (taken ∙ sym (fed_before side before rest at))

  pub line_masks : (side : Side) (before rest : List Event) (event : Event) → history_of (run_of given) ≡ before ++ event ∷ rest
      → is_of_feeding event ≡ false
      → view_masks (facts_at given (station_of side) before).view ≡ masks_of (fed_to_side side (journal_of before))
  line_masks side before rest event at feeds =
      masks_before given before rest event (station_of side) at feeds ∙ ap masks_of (sym (fed_before side before (event ∷ rest) at))

  pub call_masks : (side : Side) (station : ℕ) (step : Step) (notes : List Note) (before rest : List Event)
      → history_of (run_of given) ≡ before ++ Called station step ∷ map (Noted station) notes ++ rest → is_octet step ≡ false
      → view_masks (facts_at given (station_of side) before).view
      ≡ masks_of (fed_to_side side (journal_of (before ++ Called station step ∷ map (Noted station) notes)))
  call_masks side station step notes before rest at no_octet =
      let call = Called station step in
      let noted = map (Noted station) notes in
      masks_before given before (noted ++ rest) call (station_of side) (at ∙ append_assoc before (call ∷ noted) rest) no_octet
      ∙ ap masks_of (sym (fed_called (station_of side) station step notes before))
      ∙ ap masks_of (sym (fed_before side (before ++ call ∷ noted) rest at))

  pub last_masks : (side : Side)
      → view_masks (facts_at given (station_of side) (history_of (run_of given))).view
      ≡ masks_of (fed_to_side side (journal_of (history_of (run_of given))))
  last_masks side =
      let history = history_of (run_of given) in
      masks_at_end given (station_of side) ∙ ap masks_of (sym (fed_before side history [] (sym (append-nil history))))
