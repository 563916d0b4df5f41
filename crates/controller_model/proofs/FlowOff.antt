-- Flow control towards a host is turned off only where nothing waits for it.
use Rattle.std.proofs.Common.{◌≡◌, ℕ, ◌+◌, ◌-◌, ◌≤◌, ◌==◌, Bool, true, false, Option, Some, None, List, [], ◌∷◌, ◌++◌, replicate, cond, refl, ap, sym, ◌∙◌}
use Rattle.std.specs.Prelude.{filter, is_some}
use Rattle.std.specs.List.{list_any}
use Rattle.std.proofs.lemmas.Bool.{eq-eqb}
use Rattle.acl_banks.specs.declared.pieces.Piece.{Piece}
use Rattle.hci_cmd.specs.declared.command.Command.{Command}
use Rattle.hci_cmd.specs.declared.command.Command.TheVariants.{HostCompleted, Reset, SetHostFlow}
use Rattle.host_view.specs.declared.links.Link.{Link as ViewLink}
use Rattle.host_view.specs.View.{View}
use Rattle.host_view.specs.Changes.{view_after}
use Rattle.host_view.specs.Status.{has_link, status_of}
use Rattle.link_commands.specs.open_links.OpenLinks.{Links, link_from}
use Rattle.controller_model.specs.Commands.{received_after}
use Rattle.controller_model.specs.Facts.{Setup, Facts}
use Rattle.controller_model.specs.Side.{facts_of}
use Rattle.controller_model.specs.Since.{is_piece_on}
use Rattle.controller_model.specs.Step.{Step}
use Rattle.link_commands.proofs.Ranges.{passes as row_passes}
use Rattle.controller_model.proofs.Accepted.{same_after_counts}
use Rattle.controller_model.proofs.BooksAlways.{none_waits}
use Rattle.controller_model.proofs.FreeHandles.{places_agree}
use Rattle.controller_model.proofs.OpenNotes.{AnyFact, any_kept}
use Rattle.controller_model.proofs.OpenPlaces.{opens}

-- ---- where no link is open

-- while the view has no link, nothing waits
abbrev pub Closes : Facts → Type 0
Closes facts = has_link facts.view ≡ false → facts.received ≡ []

none_opens : (links : List (Option ViewLink)) (held : List Bool) (spare : ℕ) → list_any is_some links ≡ false
    → opens links ≡ held ++ replicate spare false → list_any (λ (place : Bool). place) held ≡ false
none_opens links [] spare none agree = refl
none_opens [] (one ∷ held) spare none agree = absurd cc
none_opens (None ∷ links) (false ∷ held) spare none agree =
    none_opens links held spare none (ap (λ (places : List Bool). rest places) agree)
  where
    rest : List Bool → List Bool
    rest [] = []
    rest (place ∷ places) = places
none_opens (None ∷ links) (true ∷ held) spare none agree = absurd cc
none_opens (Some link ∷ links) (one ∷ held) spare none agree = absurd (let h : true ≡ false = none in absurd cc)

none_at : (first handle : ℕ) (links : Links) → list_any (λ (place : Bool). place) (opens links) ≡ false → link_from first handle links ≡ None
none_at first handle [] none = refl
none_at first handle (None ∷ links) none = by (first == handle) (none_at (first + 1) handle links none)
  where
    by : (here : Bool) → link_from (first + 1) handle links ≡ None → cond here None (link_from (first + 1) handle links) ≡ None
    by true later = refl
    by false later = later
none_at first handle (Some link ∷ links) none = absurd (let h : true ≡ false = none in absurd cc)

-- pieces of which none is of any link
no_piece : (received : List (ℕ × Piece)) → ((handle : ℕ) → filter (is_piece_on handle) received ≡ []) → received ≡ []
no_piece [] none = refl
no_piece (piece ∷ received) none =
    let here : piece ∷ filter (is_piece_on piece.0) received ≡ [] =
    sym (ap (λ (same : Bool). cond same (piece ∷ filter (is_piece_on piece.0) received) (filter (is_piece_on piece.0) received)) (eq-eqb piece.0 piece.0 refl))
    ∙ none piece.0 in
    absurd cc

pub closes_at : (setup : Setup) (past : List Step) → setup.links ≤ 6 → Closes (facts_of setup past)
closes_at setup past few none =
    let facts = facts_of setup past in
    let closed = none_opens facts.view.links (opens facts.links) (6 - setup.links) none (places_agree setup past few) in
    no_piece facts.received
    (λ handle. none_waits handle AnyFact setup (any_kept setup.links handle) past (none_at 0 handle facts.links closed))

-- ---- an accepted command

-- nothing waits while flow control is off, where the view has a place for each link
abbrev pub WaitsNot : Setup → Facts → Type 0
WaitsNot setup facts = setup.links ≤ 6 → facts.view.flow.on ≡ false → facts.received ≡ []

pub command_waits_not : (command : Command) (facts : Facts) → status_of facts.view command ≡ 0 → Closes facts → (facts.view.flow.on ≡ false → facts.received ≡ [])
    → (view_after facts.view command).flow.on ≡ false → received_after command facts.received ≡ []
unfolding view_after status_of
command_waits_not Reset facts accepted closes waits off = refl
command_waits_not (SetHostFlow value) facts accepted closes waits off = closes (row_passes (has_link facts.view) _ _ accepted).0
command_waits_not (HostCompleted counts) facts accepted closes waits off =
    waits (sym (same_after_counts (λ (view : View). view.flow.on) facts.view counts refl) ∙ off)
command_waits_not other facts accepted closes waits off = waits off
