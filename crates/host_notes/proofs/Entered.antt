-- Links that enter their events one after another, and what the host receives of each.
use Rattle.std.proofs.Common.{◌≡◌, ◌≢◌, ℕ, ◌+◌, ◌==◌, false, List, [], ◌∷◌, ◌++◌, length, Option, Some, None, refl, ap, sym, subst, ◌∙◌, arith, append_assoc, append-nil}
use Rattle.std.proofs.lemmas.Bool.{eq-eqb}
use Rattle.std.proofs.lemmas.List.{length-append}
use Rattle.std.specs.Option.{option_map}
use Rattle.acl_banks.specs.declared.pieces.Piece.{Piece}
use Rattle.ble_base.specs.declared.notes.Note.{Note}
use Rattle.host_view.specs.View.{View}
use Rattle.instants.specs.declared.indications.Params.{Params}
use Rattle.slot_plan.specs.declared.Want.{Want}
use Rattle.control_end.specs.declared.answers.Entry.{Entry}
use Rattle.link_model.specs.Facts.{params_of}
use Rattle.open_links.specs.Knowing.{HeldLinks, Knows as KnowsLinks}
use Rattle.open_links.specs.OpenLinks.{Links, OpenLink, facts_in, link_at, link_from, with_change_from}
use Rattle.open_links.specs.Turns.{entry_at, link_entered, links_entered, notes_entering, want_entering}
use Rattle.open_links.proofs.Handles.{changed_is, here, later}
use Rattle.controller_model.specs.Entering.{all_entered, events_entering, events_of, notes_all_entering, wants_from}
use Rattle.controller_model.specs.Events.{notes_of_events}
use Rattle.host_notes.specs.Entering.{EntersRest, events_told}

-- ---- the event for one link

entry_told : (slot handle : ℕ) (place : Option OpenLink) (entry : Option Entry) (params : Option Params) → entry ≡ entry_at slot place
    → params ≡ option_map (λ link. params_of (facts_in link)) (option_map (link_entered slot) place)
    → events_told handle entry params ≡ events_entering slot handle place
entry_told slot handle place entry params entry_is params_is = (λ i. events_told handle (entry_is i) (params_is i)) ∙ same place
  where
    by_entry : (entry : Option Entry) (params : Params) → events_told handle entry (Some params) ≡ events_of handle params entry
    by_entry None params = refl
    by_entry (Some entry) params = refl

    same : (place : Option OpenLink)
        → events_told handle (entry_at slot place) (option_map (λ link. params_of (facts_in link)) (option_map (link_entered slot) place))
        ≡ events_entering slot handle place
    same None = refl
    same (Some link) = by_entry (entry_at slot (Some link)) (params_of (facts_in (link_entered slot link)))

-- what is noted as the link under a handle enters its event
pub entering_noted : (view : View) (slot handle : ℕ) (known : Links) (entry : Option Entry) (params : Option Params) (before entered noted : List Note)
    → entry ≡ entry_at slot (link_at handle known)
    → params ≡ option_map (λ link. params_of (facts_in link)) (link_at handle (links_entered slot handle known))
    → entered ≡ before ++ notes_entering slot (link_at handle known) → noted ≡ entered ++ notes_of_events view (events_told handle entry params)
    → noted ≡ before ++ notes_entering slot (link_at handle known) ++ notes_of_events view (events_entering slot handle (link_at handle known))
entering_noted view slot handle known entry params before entered noted entry_is params_is entered_is told =
    let params_then =
    params_is ∙ ap (option_map (λ link. params_of (facts_in link))) (changed_is (option_map (link_entered slot)) 0 handle known refl) in
    let events = entry_told slot handle (link_at handle known) entry params entry_is params_then in
    told ∙ (λ i. entered_is i ++ notes_of_events view (events i))

-- ---- the links before a handle, and those from it on

at_place : (first handle : ℕ) (done rest : Links) (place : Option OpenLink) → first + length done ≡ handle
    → link_from first handle (done ++ place ∷ rest) ≡ place
at_place first handle [] rest place is =
    let same : first ≡ handle = omega (arith, is) in
    subst (λ n. link_from first n (place ∷ rest) ≡ place) same (here first place rest)
at_place first handle (one ∷ done) rest place is =
    later first handle one (done ++ place ∷ rest) (omega (arith, is)) ∙ at_place (first + 1) handle done rest place (omega (arith, is))

changed_at : (change : Option OpenLink → Option OpenLink) (first handle : ℕ) (done rest : Links) (place : Option OpenLink)
    → first + length done ≡ handle → with_change_from first handle change (done ++ place ∷ rest) ≡ done ++ change place ∷ rest
changed_at change first handle [] rest place is = rw (eq-eqb first handle (omega (arith, is))) refl
changed_at change first handle (one ∷ done) rest place is =
    let apart : (first == handle) ≡ false = grind (arith, is) in
    rw apart (ap (λ (links : Links). one ∷ links) (changed_at change (first + 1) handle done rest place (omega (arith, is))))

-- ---- all links from a handle on

module _ (view : View) (slot handle : ℕ) (old mid new : HeldLinks) (before between after : List Note) (wanted wanting wants : List Want)
    (enters : (known : Links) (received : List (ℕ × Piece)) → KnowsLinks old known received → KnowsLinks mid (links_entered slot handle known) received)
    (tells : (known : Links) (received : List (ℕ × Piece)) → KnowsLinks old known received
    → between ≡ before ++ notes_entering slot (link_at handle known) ++ notes_of_events view (events_entering slot handle (link_at handle known)))
    (adds : (known : Links) (received : List (ℕ × Piece)) → KnowsLinks old known received
    → wanting ≡ wanted ++ want_entering slot handle (link_at handle known))
    (enters_later : (done rest : Links) (received : List (ℕ × Piece)) → length done ≡ handle + 1 → KnowsLinks mid (done ++ rest) received
    → EntersRest new done rest received view slot (handle + 1) between after wanting wants) where
  abbrev notes_at : Option OpenLink → List Note
  notes_at place = notes_entering slot place ++ notes_of_events view (events_entering slot handle place)

  -- the link under the handle enters its event, and then the others after it
  pub enters_more : (done rest : Links) (received : List (ℕ × Piece)) → length done ≡ handle → handle ≢ length (done ++ rest)
      → KnowsLinks old (done ++ rest) received → EntersRest new done rest received view slot handle before after wanted wants
  enters_more done [] received count more known = absurd (more (sym count ∙ ap length (sym (append-nil done))))
  enters_more done (place ∷ rest) received count more known =
      let entered = option_map (link_entered slot) place in
      let count : 0 + length done ≡ handle = omega (arith, count) in
      let is : link_at handle (done ++ place ∷ rest) ≡ place = at_place 0 handle done rest place count in
      let links : links_entered slot handle (done ++ place ∷ rest) ≡ (done ++ entered ∷ []) ++ rest =
      changed_at (option_map (link_entered slot)) 0 handle done rest place count ∙ sym (append_assoc done (entered ∷ []) rest) in
      let later = enters_later (done ++ entered ∷ []) rest received (omega (arith, count, length-append done (entered ∷ [])))
      (subst (λ (links : Links). KnowsLinks mid links received) links (enters (done ++ place ∷ rest) received known)) in
      record {
        knows = subst (λ (links : Links). KnowsLinks new links received) (append_assoc done (entered ∷ []) (all_entered slot rest)) later.knows;
        notes = later.notes
            ∙ ap (λ (notes : List Note). notes ++ notes_all_entering view slot (handle + 1) rest)
            (tells (done ++ place ∷ rest) received known ∙ append_assoc before _ _ ∙ ap (λ place. before ++ notes_at place) is)
            ∙ append_assoc before (notes_at place) (notes_all_entering view slot (handle + 1) rest);
        plan = later.plan
            ∙ ap (λ (wants : List Want). wants ++ wants_from slot (handle + 1) rest)
            (adds (done ++ place ∷ rest) received known ∙ ap (λ place. wanted ++ want_entering slot handle place) is)
            ∙ append_assoc wanted (want_entering slot handle place) (wants_from slot (handle + 1) rest);
      }
