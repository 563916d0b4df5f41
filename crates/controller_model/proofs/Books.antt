-- A fact of what happened to a link and of what was noted since it was opened is kept, if each kind of change keeps it.
use Rattle.std.proofs.Common.{◌≡◌, ℕ, suc, ◌+◌, ◌<◌, ◌==◌, Bool, true, false, Option, Some, None, inl, inr, List, [], ◌∷◌, ◌++◌, cond, refl, ap, sym, subst, ◌∙◌, append-nil, append_assoc, arith}
use Rattle.std.specs.Prelude.{◌≢◌, ◌&&◌, filter, fold, ⊤}
use Rattle.std.specs.List.{AllByRecursion}
use Rattle.std.specs.Option.{option_map}
use Rattle.std.proofs.lemmas.Bool.{eq-eqb}
use Rattle.std.proofs.lemmas.Bool.Decides.{eqb_tells}
use Rattle.std.proofs.lemmas.List.Elements.{filter-append}
use Rattle.std.proofs.lemmas.List.Sums.{fold-append}
use Rattle.acl_banks.specs.declared.pieces.Piece.{Piece}
use Rattle.ble_base.specs.declared.notes.Note.{Note}
use Rattle.data_pdu.specs.Header.{header_in}
use Rattle.link_commands.specs.open_links.link_model.Acknowledgement.{Pdu}
use Rattle.link_commands.specs.open_links.link_model.Data.{is_data}
use Rattle.link_commands.specs.open_links.link_model.Facts.{Facts as EndFacts}
use Rattle.link_commands.specs.open_links.link_model.Packets.{good_pdu}
use Rattle.link_commands.specs.open_links.link_model.Verdicts.{pdu_of}
use Rattle.link_commands.specs.open_links.link_model.Setup.{Setup as EndSetup}
use Rattle.link_commands.specs.open_links.link_model.Step.{Step as EndStep, DataGiven, ProcedureAsked, KeyAnswered, RequestAnswered, Disconnected, EventEntered, PduFixed, PacketSent, PacketReceived, DataReported, WordsGiven}
use Rattle.link_commands.specs.open_links.link_model.End.{facts_of as end_facts, notes_after as end_notes}
use Rattle.link_commands.specs.open_links.link_model.Receiving.{accepts, facts_before_taking}
use Rattle.link_commands.specs.open_links.link_model.Kept.{kept_from, kept_of}
use Rattle.link_commands.specs.open_links.link_model.Pieces.{kept_if}
use Rattle.link_commands.specs.open_links.OpenLinks.{OpenLink, HasHandle, facts_in, link_after, link_served}
use Rattle.controller_model.specs.Data.{note_received}
use Rattle.controller_model.specs.Heard.{notes_taken, piece_taken}
use Rattle.controller_model.specs.Packets.{notes_sent}
use Rattle.controller_model.specs.Since.{count_since, is_piece_on, note_completed, note_since, opens_under}
use Rattle.controller_model.proofs.EndNotes.{received_each, sent_each}
use Rattle.controller_model.proofs.OtherNotes.{AreOther, IsOther, done_other, refused_other, sent_other, took_other}

-- ---- a fact of a link

-- its host gives it data, asks for a procedure, answers a request or ends the link, it enters an event, or it fixes its
-- PDU
abbrev pub IsSilent : EndStep → Type 0
IsSilent (DataGiven start body) = ⊤
IsSilent (ProcedureAsked ask) = ⊤
IsSilent (RequestAnswered answer) = ⊤
IsSilent (KeyAnswered key slot) = ⊤
IsSilent (Disconnected reason slot) = ⊤
IsSilent (EventEntered slot) = ⊤
IsSilent PduFixed = ⊤
IsSilent (WordsGiven skd_s iv_s) = ⊤
IsSilent step = ⊥

-- of what its end is set up with, what happened to it, the pieces that it took and the host has not received, what was
-- noted since it was opened, and how many packets of no octet its host gave it
abbrev pub Fact : Type 1
Fact = EndSetup → List EndStep → List (ℕ × Piece) → List Note → ℕ → Type 0

pub record IsKeptInBook (most handle : ℕ) (fact : Fact) : Type 0 where
  pub opened : (setup : EndSetup) → setup.link.handle ≡ handle → fact setup [] [] [] 0
  pub other : (setup : EndSetup) (past : List EndStep) (waiting : List (ℕ × Piece)) (since : List Note) (count : ℕ) (note : Note)
      → IsOther most handle note → fact setup past waiting since count → fact setup past waiting (since ++ note ∷ []) count
  pub silent : (setup : EndSetup) (past : List EndStep) (waiting : List (ℕ × Piece)) (since : List Note) (count : ℕ) (step : EndStep)
      → IsSilent step → fact setup past waiting since count → fact setup (past ++ step ∷ []) waiting since count
  pub sent : (setup : EndSetup) (past : List EndStep) (waiting : List (ℕ × Piece)) (since : List Note) (count slot : ℕ)
      → setup.link.handle ≡ handle → fact setup past waiting since count
      → fact setup (past ++ PacketSent slot ∷ []) waiting (since ++ end_notes setup (end_facts setup past) (PacketSent slot)) count
  pub received : (setup : EndSetup) (past : List EndStep) (waiting : List (ℕ × Piece)) (since : List Note) (count slot : ℕ) (octets : List ℕ)
      (room : Bool) → setup.link.handle ≡ handle → fact setup past waiting since count
      → fact setup (past ++ PacketReceived slot octets room ∷ []) (waiting ++ kept_of setup (end_facts setup past) slot octets room)
      (since ++ end_notes setup (end_facts setup past) (PacketReceived slot octets room)) count
  pub handed : (setup : EndSetup) (past : List EndStep) (piece : ℕ × Piece) (waiting : List (ℕ × Piece)) (since : List Note) (count : ℕ)
      → handle < most → piece.0 ≡ handle → fact setup past (piece ∷ waiting) since count
      → fact setup past waiting (since ++ note_received piece ∷ []) count
  pub reported : (setup : EndSetup) (past : List EndStep) (waiting : List (ℕ × Piece)) (since : List Note) (count complete : ℕ)
      → handle < most → (end_facts setup past).outgoing.complete ≡ suc complete → fact setup past waiting since count
      → fact setup (past ++ DataReported ∷ []) waiting (since ++ note_completed handle (suc complete) ∷ []) count
  pub emptied : (setup : EndSetup) (past : List EndStep) (waiting : List (ℕ × Piece)) (since : List Note) (count : ℕ)
      → handle < most → fact setup past waiting since count
      → fact setup past waiting (since ++ note_completed handle 1 ∷ []) (count + 1)

-- ---- pieces of one link

pub of_this : (handle : ℕ) (pieces : List (ℕ × Piece)) → AllByRecursion (λ piece. piece.0 ≡ handle) pieces → filter (is_piece_on handle) pieces ≡ pieces
of_this handle [] are = refl
of_this handle (piece ∷ pieces) are =
    ap (λ (same : Bool). cond same (piece ∷ filter (is_piece_on handle) pieces) (filter (is_piece_on handle) pieces)) (eq-eqb piece.0 handle are.0)
    ∙ ap (λ rest. piece ∷ rest) (of_this handle pieces are.1)

pub is_not : (n handle : ℕ) → n ≢ handle → (n == handle) ≡ false
is_not n handle other = grind arith

pub of_others : (handle : ℕ) (pieces : List (ℕ × Piece)) → AllByRecursion (λ piece. piece.0 ≢ handle) pieces → filter (is_piece_on handle) pieces ≡ []
of_others handle [] are = refl
of_others handle (piece ∷ pieces) are =
    ap (λ (same : Bool). cond same (piece ∷ filter (is_piece_on handle) pieces) (filter (is_piece_on handle) pieces)) (is_not piece.0 handle are.0)
    ∙ of_others handle pieces are.1

-- what an end takes has its handle
piece_has : (P : ℕ → Type 0) (test : Bool) (handle : ℕ) (pdu : Pdu) → P handle → AllByRecursion (λ piece. P piece.0) (kept_if test handle pdu)
piece_has P true handle pdu holds = (holds, tt)
piece_has P false handle pdu holds = tt

found_has : (P : ℕ → Type 0) (setup : EndSetup) (slot : ℕ) (room : Bool) (found : Option (List ℕ)) (facts : EndFacts) → P setup.link.handle
    → AllByRecursion (λ piece. P piece.0) (kept_from setup slot room found facts)
found_has P setup slot room None facts holds = tt
found_has P setup slot room (Some pdu) facts holds =
    piece_has P (accepts room (header_in pdu) (pdu_of pdu) (facts_before_taking setup.link.role slot (header_in pdu) facts) && is_data (pdu_of pdu))
    setup.link.handle (pdu_of pdu) holds

pub kept_has : (P : ℕ → Type 0) (setup : EndSetup) (facts : EndFacts) (slot : ℕ) (octets : List ℕ) (room : Bool) → P setup.link.handle
    → AllByRecursion (λ piece. P piece.0) (kept_of setup facts slot octets room)
kept_has P setup facts slot octets room holds = found_has P setup slot room (good_pdu setup facts octets) facts holds

-- ---- the book of a handle

-- by whether two numbers are equal
pub by_handle : {P : Type 0} (n handle : ℕ) → (n ≡ handle → P) → (n ≢ handle → P) → P
by_handle n handle same other = elim (eqb_tells n handle) [
  | inl is ↦ same is.1
  | inr is ↦ other (λ e. absurd (let h : true ≡ false = sym (eq-eqb n handle e) ∙ is.0 in absurd cc))
]

module _ (most handle : ℕ) (fact : Fact) where
  -- where no link is open, nothing waits for the host
  abbrev pub IsBook : Option OpenLink → List (ℕ × Piece) → List Note → ℕ → Type 0
  IsBook None waiting since count = waiting ≡ []
  IsBook (Some link) waiting since count = (link.setup.link.handle ≡ handle) × fact link.setup link.past waiting since count

  -- after further notes
  abbrev pub IsBookAfter : Option OpenLink → List (ℕ × Piece) → List Note → ℕ → List Note → Type 0
  IsBookAfter place waiting since count notes =
      IsBook place waiting (fold (note_since handle) since notes) (fold (count_since handle) count notes)

module _ (most handle : ℕ) (fact : Fact) (kept : IsKeptInBook most handle fact) where
  pub and_then : (place : Option OpenLink) (waiting : List (ℕ × Piece)) (since : List Note) (count : ℕ) (xs ys : List Note)
      → IsBookAfter most handle fact place waiting (fold (note_since handle) since xs) (fold (count_since handle) count xs) ys
      → IsBookAfter most handle fact place waiting since count (xs ++ ys)
  and_then place waiting since count xs ys book =
      subst (λ (notes : List Note). IsBook most handle fact place waiting notes (fold (count_since handle) count (xs ++ ys)))
      (sym (fold-append (note_since handle) since xs ys))
      (subst (λ (n : ℕ). IsBook most handle fact place waiting (fold (note_since handle) (fold (note_since handle) since xs) ys) n)
      (sym (fold-append (count_since handle) count xs ys)) book)

  -- notes that open nothing under this handle
  plain_notes : (since notes : List Note) → AllByRecursion (λ note. opens_under handle note ≡ false) notes
      → fold (note_since handle) since notes ≡ since ++ notes
  plain_notes since [] are = sym (append-nil since)
  plain_notes since (note ∷ notes) are =
      ap (λ (opens : Bool). fold (note_since handle) (cond opens [] (since ++ note ∷ [])) notes) are.0
      ∙ plain_notes (since ++ note ∷ []) notes are.1 ∙ append_assoc since (note ∷ []) notes

  plain_count : (count : ℕ) (notes : List Note) → AllByRecursion (λ note. opens_under handle note ≡ false) notes
      → fold (count_since handle) count notes ≡ count
  plain_count count [] are = refl
  plain_count count (note ∷ notes) are =
      ap (λ (opens : Bool). fold (count_since handle) (cond opens 0 count) notes) are.0 ∙ plain_count count notes are.1

  pub plainly : (place : Option OpenLink) (waiting : List (ℕ × Piece)) (since : List Note) (count : ℕ) (notes : List Note)
      → AllByRecursion (λ note. opens_under handle note ≡ false) notes → IsBook most handle fact place waiting (since ++ notes) count
      → IsBookAfter most handle fact place waiting since count notes
  plainly place waiting since count notes are book =
      subst (λ (all : List Note). IsBook most handle fact place waiting all (fold (count_since handle) count notes)) (sym (plain_notes since notes are))
      (subst (λ (n : ℕ). IsBook most handle fact place waiting (since ++ notes) n) (sym (plain_count count notes are)) book)

  -- notes of other things
  pub one_more : (place : Option OpenLink) (waiting : List (ℕ × Piece)) (since : List Note) (count : ℕ) (note : Note) → IsOther most handle note
      → IsBook most handle fact place waiting since count → IsBook most handle fact place waiting (since ++ note ∷ []) count
  one_more None waiting since count note is book = book
  one_more (Some link) waiting since count note is book = (book.0, kept.other link.setup link.past waiting since count note is book.1)

  pub others_noted : (place : Option OpenLink) (waiting : List (ℕ × Piece)) (since : List Note) (count : ℕ) (notes : List Note)
      → AreOther most handle notes → IsBook most handle fact place waiting since count
      → IsBookAfter most handle fact place waiting since count notes
  others_noted place waiting since count [] are book = book
  others_noted place waiting since count (note ∷ notes) are book =
      let opens_none = are.0.opens_none in
      subst (λ (opens : Bool). IsBookAfter most handle fact place waiting (cond opens [] (since ++ note ∷ [])) (cond opens 0 count) notes)
      (sym opens_none)
      (others_noted place waiting (since ++ note ∷ []) count notes are.1 (one_more place waiting since count note are.0 book))

  -- ---- a change of the link under this handle

  pub silent_book : (step : EndStep) (place : Option OpenLink) (waiting : List (ℕ × Piece)) (since : List Note) (count : ℕ) → IsSilent step
      → IsBook most handle fact place waiting since count
      → IsBook most handle fact (option_map (link_after step) place) waiting since count
  silent_book step None waiting since count is book = book
  silent_book step (Some link) waiting since count is book =
      (book.0, kept.silent link.setup link.past waiting since count step is book.1)

  pub served_book : (slot : ℕ) (place : Option OpenLink) (waiting : List (ℕ × Piece)) (since : List Note) (count : ℕ)
      → IsBook most handle fact place waiting since count
      → IsBook most handle fact (option_map (link_served slot) place) waiting since count
  served_book slot None waiting since count book = book
  served_book slot (Some link) waiting since count book = book

  abbrev OpensNone : Note → Type 0
  OpensNone note = opens_under handle note ≡ false

  pub sent_book : (slot : ℕ) (place : Option OpenLink) (waiting : List (ℕ × Piece)) (since : List Note) (count : ℕ)
      → IsBook most handle fact place waiting since count
      → IsBookAfter most handle fact (option_map (link_after (PacketSent slot)) place) waiting since count (notes_sent slot place)
  sent_book slot None waiting since count book = book
  sent_book slot (Some link) waiting since count book =
      plainly (Some (link_after (PacketSent slot) link)) waiting since count (notes_sent slot (Some link))
      (sent_each OpensNone link.setup (facts_in link) (λ number llid octets. refl))
      (book.0, kept.sent link.setup link.past waiting since count slot book.0 book.1)

  pub received_book : (slot : ℕ) (room : Bool) (octets : List ℕ) (place : Option OpenLink) (received : List (ℕ × Piece)) (since : List Note) (count : ℕ)
      → IsBook most handle fact place (filter (is_piece_on handle) received) since count
      → IsBookAfter most handle fact (option_map (link_after (PacketReceived slot octets room)) place)
      (filter (is_piece_on handle) (received ++ piece_taken slot room place octets)) since count (notes_taken slot room place octets)
  received_book slot room octets None received since count book = ap (filter (is_piece_on handle)) (append-nil received) ∙ book
  received_book slot room octets (Some link) received since count book =
      let pieces = kept_of link.setup (facts_in link) slot octets room in
      let mine = of_this handle pieces (kept_has (λ n. n ≡ handle) link.setup (facts_in link) slot octets room book.0) in
      let after = Some (link_after (PacketReceived slot octets room) link) in
      let notes = notes_taken slot room (Some link) octets in
      plainly after (filter (is_piece_on handle) (received ++ pieces)) since count notes
      (received_each OpensNone link.setup slot room (good_pdu link.setup (facts_in link) octets) (facts_in link)
      (record { took = λ number llid body. refl; refused = λ kind code. refl; done = λ kind. refl }))
      (subst (λ (waiting : List (ℕ × Piece)). IsBook most handle fact after waiting (since ++ notes) count)
      (sym (filter-append (is_piece_on handle) received pieces ∙ ap (λ rest. filter (is_piece_on handle) received ++ rest) mine))
      (book.0, kept.received link.setup link.past (filter (is_piece_on handle) received) since count slot octets room book.0 book.1))

  -- ---- a change of another link

  pub elsewhere_sent : (slot : ℕ) (place : Option OpenLink) (other : ℕ) → HasHandle other place → other ≢ handle
      → AreOther most handle (notes_sent slot place)
  elsewhere_sent slot None other has differs = tt
  elsewhere_sent slot (Some link) other has differs =
      let own = link.setup.link.handle in
      sent_each (IsOther most handle) link.setup (facts_in link)
      (λ number llid octets. sent_other most handle own number llid octets (λ same. differs (sym has ∙ same)))

  pub elsewhere_took : (slot : ℕ) (room : Bool) (octets : List ℕ) (place : Option OpenLink) (other : ℕ) → HasHandle other place → other ≢ handle
      → AreOther most handle (notes_taken slot room place octets)
  elsewhere_took slot room octets None other has differs = tt
  elsewhere_took slot room octets (Some link) other has differs =
      let own = link.setup.link.handle in
      received_each (IsOther most handle) link.setup slot room (good_pdu link.setup (facts_in link) octets) (facts_in link) (record {
        took = λ number llid octets. took_other most handle own number llid octets (λ same. differs (sym has ∙ same));
        refused = refused_other most handle own;
        done = done_other most handle own;
      })

  pub elsewhere_kept : (slot : ℕ) (room : Bool) (octets : List ℕ) (received : List (ℕ × Piece)) (place : Option OpenLink) (other : ℕ)
      → HasHandle other place → other ≢ handle
      → filter (is_piece_on handle) (received ++ piece_taken slot room place octets) ≡ filter (is_piece_on handle) received
  elsewhere_kept slot room octets received None other has differs = ap (filter (is_piece_on handle)) (append-nil received)
  elsewhere_kept slot room octets received (Some link) other has differs =
      let pieces = kept_of link.setup (facts_in link) slot octets room in
      let none = of_others handle pieces
      (kept_has (λ n. n ≢ handle) link.setup (facts_in link) slot octets room (λ same. differs (sym has ∙ same))) in
      filter-append (is_piece_on handle) received pieces ∙ ap (λ rest. filter (is_piece_on handle) received ++ rest) none
      ∙ append-nil (filter (is_piece_on handle) received)
