-- Links that are opened and that end, and what the host receives as a turn ends, keep the book of a handle.
use Rattle.std.proofs.Common.{◌≡◌, ℕ, zero, suc, ◌+◌, ◌<◌, ◌≤◌, ◌==◌, Bool, true, false, Option, Some, None, List, [], ◌∷◌, ◌++◌, length, map, cond, refl, ap, sym, subst, ◌∙◌, arith}
use Rattle.std.specs.Prelude.{◌≢◌, ◌||◌, filter, fold, is_some, nat_lt, not}
use Rattle.std.specs.List.{AllByRecursion, list_any}
use Rattle.std.proofs.lemmas.Bool.{eq-eqb, eqb-true, lt-ltb}
use Rattle.acl_banks.specs.declared.pieces.Piece.{Piece}
use Rattle.ble_base.specs.declared.notes.Note.{Note}
use Rattle.host_view.specs.View.{View}
use Rattle.link_commands.specs.open_links.link_model.Setup.{Setup as EndSetup}
use Rattle.link_commands.specs.open_links.link_model.Step.{DataReported}
use Rattle.link_commands.specs.open_links.declared.ended.LinkEnded.{LinkEnded}
use Rattle.link_commands.specs.open_links.Data.{complete_in, completed_from, link_reported, links_reported, received_past}
use Rattle.link_commands.specs.open_links.Offered.{completed_by}
use Rattle.link_commands.specs.open_links.Ended.{received_without}
use Rattle.link_commands.specs.open_links.OpenLinks.{Links, OpenLink, link_after, link_at, link_from, new_link, with_link}
use Rattle.link_commands.specs.open_links.Ended.{HandlesAscend, end_by}
use Rattle.link_commands.specs.open_links.Turns.{ends_by, links_without, place_without, reason_at, staying_by}
use Rattle.link_commands.proofs.open_links.Ends.{ends_ascend, stays_where_not_due}
use Rattle.link_commands.proofs.open_links.Handles.{opened_at, other_stays}
use Rattle.controller_model.specs.Data.{event_completed, note_received}
use Rattle.controller_model.specs.Events.{notes_of_events}
use Rattle.controller_model.specs.Links.{events_opened, note_opened, notes_opened}
use Rattle.controller_model.specs.Since.{count_since, is_piece_on, note_completed, note_since}
use Rattle.controller_model.proofs.Always.{received_shut}
use Rattle.controller_model.proofs.Books.{Fact, IsBook, IsBookAfter, IsKeptInBook, and_then, by_handle, is_not, one_more, others_noted}
use Rattle.controller_model.proofs.OtherNotes.{AreOther, completed_other, data_other, opened_other, opening_other}

-- ---- the pieces of the link under a handle

module _ (handle : ℕ) where
  -- as the link under another handle ends
  kept_apart : (other : ℕ) → other ≢ handle → (received : List (ℕ × Piece))
      → filter (is_piece_on handle) (received_without other received) ≡ filter (is_piece_on handle) received
  kept_apart other differs [] = refl
  kept_apart other differs (piece ∷ received) = at (piece.0 == other) (piece.0 == handle) refl refl (kept_apart other differs received)
    where
      at : (drops here : Bool) → (piece.0 == other) ≡ drops → (piece.0 == handle) ≡ here
          → filter (is_piece_on handle) (received_without other received) ≡ filter (is_piece_on handle) received
          → filter (is_piece_on handle) (cond (not drops) (piece ∷ received_without other received) (received_without other received))
          ≡ cond here (piece ∷ filter (is_piece_on handle) received) (filter (is_piece_on handle) received)
      at true true d h same = absurd (differs (sym (eqb-true piece.0 other d) ∙ eqb-true piece.0 handle h))
      at true false d h same = same
      at false true d h same = rw (h, same) refl
      at false false d h same = rw (h, same) refl

  -- as it ends itself
  dropped_all : (received : List (ℕ × Piece)) → filter (is_piece_on handle) (received_without handle received) ≡ []
  dropped_all [] = refl
  dropped_all (piece ∷ received) = at (piece.0 == handle) refl (dropped_all received)
    where
      at : (here : Bool) → (piece.0 == handle) ≡ here → filter (is_piece_on handle) (received_without handle received) ≡ []
          → filter (is_piece_on handle) (cond (not here) (piece ∷ received_without handle received) (received_without handle received)) ≡ []
      at true h none = none
      at false h none = rw (h, none) refl

  without_is : (other : ℕ) (received : List (ℕ × Piece))
      → filter (is_piece_on handle) (received_without other received) ≡ cond (other == handle) [] (filter (is_piece_on handle) received)
  without_is other received = at (other == handle) refl
    where
      at : (same : Bool) → (other == handle) ≡ same
          → filter (is_piece_on handle) (received_without other received) ≡ cond same [] (filter (is_piece_on handle) received)
      at true is =
          subst (λ (n : ℕ). filter (is_piece_on handle) (received_without n received) ≡ []) (sym (eqb-true other handle is)) (dropped_all received)
      at false is =
          kept_apart other (λ e. absurd (let h : true ≡ false = sym (eq-eqb other handle e) ∙ is in absurd cc)) received

  -- ---- links end

  abbrev ends_here : LinkEnded → Bool
  ends_here one = one.handle == handle

  shut_pieces : (ended : List LinkEnded) (received : List (ℕ × Piece))
      → filter (is_piece_on handle) (received_shut received ended)
      ≡ cond (list_any ends_here ended) [] (filter (is_piece_on handle) received)
  shut_pieces [] received = refl
  shut_pieces (one ∷ ended) received =
      shut_pieces ended (received_without one.handle received)
      ∙ ap (cond (list_any ends_here ended) []) (without_is one.handle received)
      ∙ at (one.handle == handle) (list_any ends_here ended)
    where
      at : (first later : Bool) → cond later [] (cond first [] (filter (is_piece_on handle) received))
          ≡ cond (first || later) [] (filter (is_piece_on handle) received)
      at true true = refl
      at true false = refl
      at false later = refl

  none_past : (first : ℕ) (ended : List LinkEnded) → handle < first → HandlesAscend first ended → list_any ends_here ended ≡ false
  none_past first [] below ascend = refl
  none_past first (one ∷ ended) below ascend =
      let apart = is_not one.handle handle (λ same. absurd (omega (arith, below, ascend.0, same))) in
      ap (λ (here : Bool). here || list_any ends_here ended) apart
      ∙ none_past (one.handle + 1) ended (omega (arith, below, ascend.0)) ascend.1

  ends_are : (reason : OpenLink → Option ℕ) (first : ℕ) (links : Links)
      → list_any ends_here (ends_by reason first links) ≡ is_some (reason_at reason (link_from first handle links))
  ends_are reason first [] = refl
  ends_are reason first (None ∷ links) = at (first == handle) refl (ends_are reason (first + 1) links)
    where
      at : (test : Bool) → (first == handle) ≡ test
          → list_any ends_here (ends_by reason (first + 1) links) ≡ is_some (reason_at reason (link_from (first + 1) handle links))
          → list_any ends_here (ends_by reason (first + 1) links)
          ≡ is_some (reason_at reason (cond test None (link_from (first + 1) handle links)))
      at true e rest =
          none_past (first + 1) (ends_by reason (first + 1) links) (let same = eqb-true first handle e in omega (arith, same))
          (ends_ascend reason (first + 1) links)
      at false e rest = rest
  ends_are reason first (Some link ∷ links) = at (reason link) (first == handle) refl refl (ends_are reason (first + 1) links)
    where
      at : (code : Option ℕ) (test : Bool) → reason link ≡ code → (first == handle) ≡ test
          → list_any ends_here (ends_by reason (first + 1) links) ≡ is_some (reason_at reason (link_from (first + 1) handle links))
          → list_any ends_here (end_by first code ++ ends_by reason (first + 1) links)
          ≡ is_some (reason_at reason (cond test (Some link) (link_from (first + 1) handle links)))
      at None true is e rest =
          none_past (first + 1) (ends_by reason (first + 1) links) (let same = eqb-true first handle e in omega (arith, same))
          (ends_ascend reason (first + 1) links)
          ∙ ap is_some (sym is)
      at None false is e rest = rest
      at (Some code) true is e rest = ap (λ (here : Bool). here || list_any ends_here (ends_by reason (first + 1) links)) e ∙ ap is_some (sym is)
      at (Some code) false is e rest =
          ap (λ (here : Bool). here || list_any ends_here (ends_by reason (first + 1) links)) e ∙ rest

module _ (most handle : ℕ) (fact : Fact) (kept : IsKeptInBook most handle fact) where
  ended_by : (code : Option ℕ) (link : OpenLink) (any : Bool) (waiting : List (ℕ × Piece)) (since : List Note) (count : ℕ)
      → any ≡ is_some code → IsBook most handle fact (Some link) waiting since count
      → IsBook most handle fact (staying_by code link) (cond any [] waiting) since count
  ended_by None link any waiting since count is book =
      subst (λ (test : Bool). IsBook most handle fact (Some link) (cond test [] waiting) since count) (sym is) book
  ended_by (Some code) link any waiting since count is book =
      subst (λ (test : Bool). IsBook most handle fact None (cond test [] waiting) since count) (sym is) refl

  nothing_left : (any : Bool) (waiting : List (ℕ × Piece)) → waiting ≡ [] → cond any [] waiting ≡ []
  nothing_left true waiting none = refl
  nothing_left false waiting none = none

  ends_at : (reason : OpenLink → Option ℕ) (place : Option OpenLink) (any : Bool) (waiting : List (ℕ × Piece)) (since : List Note) (count : ℕ)
      → any ≡ is_some (reason_at reason place) → IsBook most handle fact place waiting since count
      → IsBook most handle fact (place_without reason place) (cond any [] waiting) since count
  ends_at reason None any waiting since count is book = nothing_left any waiting book
  ends_at reason (Some link) any waiting since count is book = ended_by (reason link) link any waiting since count is book

  pub ending_book : (reason : OpenLink → Option ℕ) (links : Links) (received : List (ℕ × Piece)) (since : List Note) (count : ℕ)
      → IsBook most handle fact (link_at handle links) (filter (is_piece_on handle) received) since count
      → IsBook most handle fact (link_at handle (links_without reason links))
      (filter (is_piece_on handle) (received_shut received (ends_by reason 0 links))) since count
  ending_book reason links received since count book =
      let ended = ends_by reason 0 links in
      subst (λ (waiting : List (ℕ × Piece)). IsBook most handle fact (link_at handle (links_without reason links)) waiting since count)
      (sym (shut_pieces handle ended received))
      (subst (λ (place : Option OpenLink). IsBook most handle fact place
      (cond (list_any (ends_here handle) ended) [] (filter (is_piece_on handle) received)) since count)
      (sym (stays_where_not_due reason 0 handle links))
      (ends_at reason (link_at handle links) (list_any (ends_here handle) ended) (filter (is_piece_on handle) received) since count
      (ends_are handle reason 0 links) book))

  -- ---- a link is opened

  opened_here : (setup : EndSetup) (view : View) (waiting : List (ℕ × Piece)) (since : List Note) (count : ℕ) → setup.link.handle ≡ handle
      → waiting ≡ [] → IsBookAfter most handle fact (Some (new_link setup)) waiting since count (notes_opened view setup.link)
  opened_here setup view waiting since count same none =
      let after = notes_of_events view (events_opened view setup.link) in
      let new = Some (new_link setup) in
      subst (λ (opens : Bool). IsBookAfter most handle fact new waiting (cond opens [] (since ++ note_opened setup.link ∷ [])) (cond opens 0 count) after)
      (sym (eq-eqb setup.link.handle handle same))
      (others_noted most handle fact kept new waiting [] 0 after (opening_other most handle view setup.link)
      (same, subst (λ (pieces : List (ℕ × Piece)). fact setup [] pieces [] 0) (sym none) (kept.opened setup same)))

  nothing_waits : (place : Option OpenLink) (waiting : List (ℕ × Piece)) (since : List Note) (count : ℕ) → place ≡ None
      → IsBook most handle fact place waiting since count → waiting ≡ []
  nothing_waits None waiting since count is book = book
  nothing_waits (Some link) waiting since count is book = absurd cc

  pub opening_book : (setup : EndSetup) (view : View) (links : Links) (received : List (ℕ × Piece)) (since : List Note) (count : ℕ)
      → setup.link.handle < length links → link_at setup.link.handle links ≡ None
      → IsBook most handle fact (link_at handle links) (filter (is_piece_on handle) received) since count
      → IsBookAfter most handle fact (link_at handle (with_link setup links))
      (filter (is_piece_on handle) (received_past (link_at setup.link.handle links) setup.link.handle received)) since count
      (notes_opened view setup.link)
  opening_book setup view links received since count within free book =
      let other = setup.link.handle in
      let notes = notes_opened view setup.link in
      subst (λ (place : Option OpenLink). IsBookAfter most handle fact (link_at handle (with_link setup links))
      (filter (is_piece_on handle) (received_past place other received)) since count notes)
      (sym free)
      (by_handle other handle
      (λ same.
      subst (λ (place : Option OpenLink). IsBookAfter most handle fact place (filter (is_piece_on handle) received) since count notes)
      (sym (subst (λ (n : ℕ). link_at n (with_link setup links) ≡ Some (new_link setup)) same (opened_at setup links within)))
      (opened_here setup view (filter (is_piece_on handle) received) since count same
      (nothing_waits (link_at handle links) (filter (is_piece_on handle) received) since count
      (subst (λ (n : ℕ). link_at n links ≡ None) same free) book)))
      (λ differs.
      subst (λ (place : Option OpenLink). IsBookAfter most handle fact place (filter (is_piece_on handle) received) since count notes)
      (sym (other_stays (λ place. Some (new_link setup)) 0 other handle links (λ is. differs (sym is))))
      (others_noted most handle fact kept (link_at handle links) (filter (is_piece_on handle) received) since count notes
      (opened_other most handle setup.link differs, opening_other most handle view setup.link) book)))

  -- ---- the host receives the pieces

  handed_on : (place : Option OpenLink) (piece : ℕ × Piece) (waiting : List (ℕ × Piece)) (since : List Note) (count : ℕ)
      → piece.0 < most → piece.0 ≡ handle → IsBook most handle fact place (piece ∷ waiting) since count
      → IsBook most handle fact place waiting (since ++ note_received piece ∷ []) count
  handed_on None piece waiting since count below same book = absurd cc
  handed_on (Some link) piece waiting since count below same book =
      (book.0, kept.handed link.setup link.past piece waiting since count (subst (λ (n : ℕ). n < most) same below) same book.1)

  pub handing_book : (place : Option OpenLink) (first rest : List (ℕ × Piece)) (since : List Note) (count : ℕ)
      → AllByRecursion (λ piece. piece.0 < most) first
      → IsBook most handle fact place (filter (is_piece_on handle) (first ++ rest)) since count
      → IsBookAfter most handle fact place (filter (is_piece_on handle) rest) since count (map note_received first)
  handing_book place [] rest since count below book = book
  handing_book place (piece ∷ first) rest since count below book =
      let waiting = filter (is_piece_on handle) (first ++ rest) in
      handing_book place first rest (since ++ note_received piece ∷ []) count below.1
      (by_handle piece.0 handle
      (λ same.
      handed_on place piece waiting since count below.0 same
      (subst (λ (here : Bool). IsBook most handle fact place (cond here (piece ∷ waiting) waiting) since count) (eq-eqb piece.0 handle same) book))
      (λ differs.
      one_more most handle fact kept place waiting since count (note_received piece) (data_other most handle piece below.0 differs)
      (subst (λ (here : Bool). IsBook most handle fact place (cond here (piece ∷ waiting) waiting) since count) (is_not piece.0 handle differs) book)))

  -- ---- complete packets are reported

  pub reports_apart : (view : View) (first : ℕ) (links : Links) → handle < first → first + length links ≤ most
      → AreOther most handle (notes_of_events view (map event_completed (completed_from first links)))
  reports_apart view first [] past room = tt
  reports_apart view first (None ∷ links) past room =
      reports_apart view (first + 1) links (omega (arith, past)) (omega (arith, room))
  reports_apart view first (Some link ∷ links) past room =
      at (complete_in link) (reports_apart view (first + 1) links (omega (arith, past)) (omega (arith, room)))
    where
      at : (complete : ℕ) → AreOther most handle (notes_of_events view (map event_completed (completed_from (first + 1) links)))
          → AreOther most handle (notes_of_events view (map event_completed (completed_by first complete ++ completed_from (first + 1) links)))
      at zero rest = rest
      at (suc complete) rest =
          (completed_other most handle first (suc complete) (omega (arith, room)) (λ same. absurd (omega (arith, past, same))), rest)

  reported_here : (view : View) (link : OpenLink) (complete first : ℕ) (links : Links) (waiting : List (ℕ × Piece)) (since : List Note) (count : ℕ)
      → complete_in link ≡ complete → first ≡ handle → first + suc (length links) ≤ most
      → IsBook most handle fact (Some link) waiting since count
      → IsBookAfter most handle fact (Some (cond (nat_lt 0 complete) (link_after DataReported link) link)) waiting since count
      (notes_of_events view (map event_completed (completed_by first complete ++ completed_from (first + 1) links)))
  reported_here view link zero first links waiting since count is same room book =
      others_noted most handle fact kept (Some link) waiting since count
      (notes_of_events view (map event_completed (completed_from (first + 1) links)))
      (reports_apart view (first + 1) links (omega (arith, same)) (omega (arith, room))) book
  reported_here view link (suc complete) first links waiting since count is same room book =
      let event = note_completed first (suc complete) in
      let after = notes_of_events view (map event_completed (completed_from (first + 1) links)) in
      subst (λ (some : Bool). IsBookAfter most handle fact (Some (cond some (link_after DataReported link) link)) waiting since count (event ∷ after))
      (sym (lt-ltb 0 (suc complete) (omega arith)))
      (others_noted most handle fact kept (Some (link_after DataReported link)) waiting (since ++ event ∷ []) count after
      (reports_apart view (first + 1) links (omega (arith, same)) (omega (arith, room))) (
        book.0,
        subst (λ (n : ℕ). fact link.setup (link.past ++ DataReported ∷ []) waiting (since ++ note_completed n (suc complete) ∷ []) count) (sym same)
            (kept.reported link.setup link.past waiting since count complete (omega (arith, same, room)) is book.1),
      ))

  pub reporting_book : (view : View) (first : ℕ) (links : Links) (waiting : List (ℕ × Piece)) (since : List Note) (count : ℕ) → first + length links ≤ most
      → IsBook most handle fact (link_from first handle links) waiting since count
      → IsBookAfter most handle fact (link_from first handle (links_reported links)) waiting since count
      (notes_of_events view (map event_completed (completed_from first links)))
  reporting_book view first [] waiting since count room book = book
  reporting_book view first (None ∷ links) waiting since count room book =
      at (first == handle) refl (reporting_book view (first + 1) links waiting since count (omega (arith, room))) book
    where
      at : (test : Bool) → (first == handle) ≡ test
          → (IsBook most handle fact (link_from (first + 1) handle links) waiting since count
          → IsBookAfter most handle fact (link_from (first + 1) handle (links_reported links)) waiting since count
          (notes_of_events view (map event_completed (completed_from (first + 1) links))))
          → IsBook most handle fact (cond test None (link_from (first + 1) handle links)) waiting since count
          → IsBookAfter most handle fact (cond test None (link_from (first + 1) handle (links_reported links))) waiting since count
          (notes_of_events view (map event_completed (completed_from (first + 1) links)))
      at true e rest book =
          others_noted most handle fact kept None waiting since count (notes_of_events view (map event_completed (completed_from (first + 1) links)))
          (reports_apart view (first + 1) links (let same = eqb-true first handle e in omega (arith, same)) (omega (arith, room))) book
      at false e rest book = rest book
  reporting_book view first (Some link ∷ links) waiting since count room book =
      at (first == handle) refl (λ since count. reporting_book view (first + 1) links waiting since count (omega (arith, room))) book
    where
      apart : (complete : ℕ) → first ≢ handle → AreOther most handle (notes_of_events view (map event_completed (completed_by first complete)))
      apart zero differs = tt
      apart (suc complete) differs = (completed_other most handle first (suc complete) (omega (arith, room)) differs, tt)

      both : (complete : ℕ) → notes_of_events view (map event_completed (completed_by first complete ++ completed_from (first + 1) links))
          ≡ notes_of_events view (map event_completed (completed_by first complete))
          ++ notes_of_events view (map event_completed (completed_from (first + 1) links))
      both zero = refl
      both (suc complete) = refl

      at : (test : Bool) → (first == handle) ≡ test
          → ((since : List Note) (count : ℕ) → IsBook most handle fact (link_from (first + 1) handle links) waiting since count
          → IsBookAfter most handle fact (link_from (first + 1) handle (links_reported links)) waiting since count
          (notes_of_events view (map event_completed (completed_from (first + 1) links))))
          → IsBook most handle fact (cond test (Some link) (link_from (first + 1) handle links)) waiting since count
          → IsBookAfter most handle fact (cond test (Some (link_reported link)) (link_from (first + 1) handle (links_reported links))) waiting since count
          (notes_of_events view (map event_completed (completed_by first (complete_in link) ++ completed_from (first + 1) links)))
      at true e rest book =
          reported_here view link (complete_in link) first links waiting since count refl (eqb-true first handle e) room book
      at false e rest book =
          let differs : first ≢ handle = λ same. absurd (let h : true ≡ false = sym (eq-eqb first handle same) ∙ e in absurd cc) in
          let here = notes_of_events view (map event_completed (completed_by first (complete_in link))) in
          let place = link_from (first + 1) handle links in
          subst (λ (notes : List Note). IsBookAfter most handle fact (link_from (first + 1) handle (links_reported links)) waiting since count notes)
          (sym (both (complete_in link)))
          (and_then most handle fact kept (link_from (first + 1) handle (links_reported links)) waiting since count here
          (notes_of_events view (map event_completed (completed_from (first + 1) links)))
          (rest (fold (note_since handle) since here) (fold (count_since handle) count here)
          (others_noted most handle fact kept place waiting since count here (apart (complete_in link) differs) book)))
