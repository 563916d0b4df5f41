-- The data that the host received since a link was opened.
use Rattle.std.proofs.Common.{◌≡◌, ℕ, suc, ◌+◌, ◌/◌, ◌%◌, ◌<◌, ◌≤◌, ◌==◌, Bool, true, false, Option, Some, None, List, [], ◌∷◌, ◌++◌, cond, refl, ap, sym, ◌∙◌, append-nil, append_assoc, arith}
use Rattle.std.specs.Prelude.{◌&&◌, drop, flat_map}
use Rattle.std.specs.List.{AllByRecursion}
use Rattle.std.proofs.lemmas.Bool.{eq-eqb}
use Rattle.std.proofs.lemmas.Grind.{flat_map-append}
use Rattle.acl_banks.specs.declared.pieces.Piece.{Piece}
use Rattle.acl_banks.specs.Packets.{Marked, marked_octets}
use Rattle.ble_base.specs.declared.notes.Note.{Note}
use Rattle.ble_base.specs.declared.notes.Note.TheVariants.{Up}
use Rattle.data_pdu.specs.Header.{header_in}
use Rattle.host_view.specs.Noted.{acl_handle}
use Rattle.wire_fields.specs.Field.{little_endian}
use Rattle.link_commands.specs.open_links.link_model.Acknowledgement.{Acknowledgement, Pdu}
use Rattle.link_commands.specs.open_links.link_model.Data.{data_in, data_of, is_control, is_data}
use Rattle.link_commands.specs.open_links.link_model.Controls.{goes_on}
use Rattle.link_commands.specs.open_links.link_model.Hosts.{is_to_come}
use Rattle.link_commands.proofs.open_links.link_model.Acknowledging.{ack_heard, ack_sent, asked_leaves, entered_leaves, fixed_leaves, forged_leaves}
use Rattle.link_commands.specs.open_links.link_model.End.{facts_after as end_after, facts_of as end_facts, notes_after as end_notes}
use Rattle.link_commands.specs.open_links.link_model.Receiving.{accepts, facts_before_taking, facts_received, received_notes}
use Rattle.link_commands.specs.open_links.link_model.Sending.{sent_notes}
use Rattle.link_commands.specs.open_links.link_model.Facts.{Facts as EndFacts}
use Rattle.link_commands.specs.open_links.link_model.Kept.{kept_from, kept_of}
use Rattle.link_commands.specs.open_links.link_model.Pieces.{kept_if}
use Rattle.link_commands.specs.open_links.link_model.Packets.{good_pdu, is_forged}
use Rattle.link_commands.specs.open_links.link_model.Verdicts.{pdu_of}
use Rattle.link_commands.specs.open_links.link_model.Setup.{Setup as EndSetup}
use Rattle.link_commands.specs.open_links.link_model.Step.{Step as EndStep, DataGiven, ProcedureAsked, KeyAnswered, RequestAnswered, Disconnected, EventEntered, PduFixed, PacketSent, PacketReceived, DataReported, WordsGiven}
use Rattle.link_commands.proofs.open_links.link_model.Pasts.{grows}
use Rattle.link_commands.specs.open_links.OpenLinks.{OpenLink, facts_in, link_at}
use Rattle.controller_model.specs.Between.{is_between_turns}
use Rattle.controller_model.specs.Data.{acl_packet, boundary_of, note_received}
use Rattle.controller_model.specs.Facts.{Setup}
use Rattle.controller_model.specs.Side.{facts_of, notes_of}
use Rattle.controller_model.specs.Since.{data_of_piece, data_up, data_waiting, is_handed_up_on, note_completed, since_opened, starts_message}
use Rattle.controller_model.specs.Step.{Step}
use Rattle.controller_model.proofs.BetweenTurns.{nothing_waits}
use Rattle.controller_model.proofs.Books.{Fact, IsKeptInBook, IsSilent}
use Rattle.controller_model.proofs.BooksAlways.{book_of}
use Rattle.controller_model.proofs.EndNotes.{received_each, sent_each}
use Rattle.controller_model.proofs.OtherNotes.{acl_handle_is, past_bits, two_octets_hold}

-- ---- a piece as an ACL packet

pub flag_of : (start : Bool) (n : ℕ) → n < 4096 → ((n + boundary_of start) % 65536 / 4096 % 4 == 2) ≡ start
flag_of true n below =
    let flags : (n + 0x2000) % 65536 / 4096 % 4 ≡ 2 = ap (λ m. m / 4096 % 4) (past_bits n 0x2000 below (omega arith)) ∙ omega (arith, below) in
    ap (λ m. m == 2) flags
flag_of false n below =
    let flags : (n + 0x1000) % 65536 / 4096 % 4 ≡ 1 = ap (λ m. m / 4096 % 4) (past_bits n 0x1000 below (omega arith)) ∙ omega (arith, below) in
    ap (λ m. m == 2) flags

pub start_is : (piece : ℕ × Piece) → piece.0 < 4096 → starts_message (acl_packet piece) ≡ piece.1.start
unfolding little_endian
start_is piece below =
    ap (λ (n : ℕ). n / 4096 % 4 == 2) (two_octets_hold (piece.0 + boundary_of piece.1.start)) ∙ flag_of piece.1.start piece.0 below

pub body_is : (piece : ℕ × Piece) → drop 5 (acl_packet piece) ≡ piece.1.body.items
unfolding little_endian
body_is piece = refl

pub handed_data : (handle : ℕ) (piece : ℕ × Piece) → piece.0 < 4096 → piece.0 ≡ handle
    → data_up handle (note_received piece) ≡ data_of_piece piece
handed_data handle piece below same =
    let octets = acl_packet piece in
    ap (λ (here : Bool). cond here (marked_octets (starts_message octets) (drop 5 octets)) [])
    (eq-eqb (acl_handle octets) handle (acl_handle_is piece below ∙ same))
    ∙ ap (λ start. marked_octets start (drop 5 octets)) (start_is piece below)
    ∙ ap (marked_octets piece.1.start) (body_is piece)

-- ---- notes with no data

pub not_handed : (handle : ℕ) (note : Note) → is_handed_up_on handle note ≡ false → data_up handle note ≡ []
not_handed handle (Up packet) none =
    ap (λ (here : Bool). cond here (marked_octets (starts_message packet.items) (drop 5 packet.items)) []) none
not_handed handle note none = refl

pub none_up : (handle : ℕ) (notes : List Note) → AllByRecursion (λ note. data_up handle note ≡ []) notes → flat_map (data_up handle) notes ≡ []
none_up handle [] are = refl
none_up handle (note ∷ notes) are = (λ i. are.0 i ++ none_up handle notes are.1 i)

no_data_sent : (handle : ℕ) (setup : EndSetup) (facts : EndFacts) → flat_map (data_up handle) (sent_notes setup facts) ≡ []
no_data_sent handle setup facts =
    none_up handle (sent_notes setup facts) (sent_each (λ note. data_up handle note ≡ []) setup facts (λ number llid octets. refl))

no_data_took : (handle : ℕ) (setup : EndSetup) (slot : ℕ) (room : Bool) (found : Option (List ℕ)) (facts : EndFacts)
    → flat_map (data_up handle) (received_notes setup slot room found facts) ≡ []
no_data_took handle setup slot room found facts =
    none_up handle (received_notes setup slot room found facts)
    (received_each (λ note. data_up handle note ≡ []) setup slot room found facts
    (record { took = λ number llid octets. refl; refused = λ kind code. refl; done = λ kind. refl }))

no_data_completed : (handle other count : ℕ) → data_up handle (note_completed other count) ≡ []
unfolding little_endian
no_data_completed handle other count = refl

-- ---- what an end accepts

silent_same : (setup : EndSetup) (facts : EndFacts) (step : EndStep) → IsSilent step
    → (end_after setup facts step).acknowledgement.accepted ≡ facts.acknowledgement.accepted
silent_same setup facts (DataGiven start body) is = refl
silent_same setup facts (ProcedureAsked ask) is =
    ap (λ (a : Acknowledgement). a.accepted) (asked_leaves (is_to_come ask facts) ask facts)
silent_same setup facts (RequestAnswered answer) is = refl
silent_same setup facts (KeyAnswered key slot) is = refl
silent_same setup facts (WordsGiven skd_s iv_s) is = refl
silent_same setup facts (Disconnected reason slot) is = refl
silent_same setup facts (EventEntered slot) is =
    ap (λ (a : Acknowledgement). a.accepted) (entered_leaves (goes_on facts) setup slot facts)
silent_same setup facts PduFixed is =
    ap (λ (a : Acknowledgement). a.accepted) (fixed_leaves (is_control facts.outgoing.fixed) facts)
silent_same setup facts step is = absurd is

one_more : (accepts carries : Bool) (handle : ℕ) (pdu : Pdu) (accepted : List Pdu) → is_data pdu ≡ carries
    → data_of (cond accepts (accepted ++ pdu ∷ []) accepted) ≡ data_of accepted ++ flat_map data_of_piece (kept_if (accepts && carries) handle pdu)
one_more true true handle pdu accepted is =
    flat_map-append data_in accepted (pdu ∷ [])
    ∙ ap (λ (some : Bool). data_of accepted ++ (cond some (marked_octets (pdu.llid == 2) pdu.body) [] ++ [])) is
one_more true false handle pdu accepted is =
    flat_map-append data_in accepted (pdu ∷ [])
    ∙ ap (λ (some : Bool). data_of accepted ++ (cond some (marked_octets (pdu.llid == 2) pdu.body) [] ++ [])) is
one_more false carries handle pdu accepted is = sym (append-nil (data_of accepted))

received_more : (setup : EndSetup) (slot : ℕ) (room : Bool) (found : Option (List ℕ)) (facts : EndFacts)
    → data_of (facts_received setup.link.role slot room found facts).acknowledgement.accepted
    ≡ data_of facts.acknowledgement.accepted ++ flat_map data_of_piece (kept_from setup slot room found facts)
received_more setup slot room None facts = sym (append-nil (data_of facts.acknowledgement.accepted))
received_more setup slot room (Some octets) facts =
    let header = header_in octets in
    let pdu = pdu_of octets in
    ap (λ (a : Acknowledgement). data_of a.accepted) (ack_heard setup.link.role slot room header pdu facts)
    ∙ one_more (accepts room header pdu (facts_before_taking setup.link.role slot header facts)) (is_data pdu) setup.link.handle pdu
    facts.acknowledgement.accepted refl

-- ---- the book

module _ (most handle : ℕ) (few : most ≤ 4096) where
  abbrev IsHandedUp : Fact
  IsHandedUp setup past waiting since count =
      flat_map (data_up handle) since ++ flat_map data_of_piece waiting ≡ data_of (end_facts setup past).acknowledgement.accepted

  -- notes with no data in them
  plain : (since more : List Note) (waiting : List (ℕ × Piece)) (accepted : List Marked) → flat_map (data_up handle) more ≡ []
      → flat_map (data_up handle) since ++ flat_map data_of_piece waiting ≡ accepted
      → flat_map (data_up handle) (since ++ more) ++ flat_map data_of_piece waiting ≡ accepted
  plain since more waiting accepted none handed =
      ap (λ first. first ++ flat_map data_of_piece waiting)
      (flat_map-append (data_up handle) since more ∙ ap (λ rest. flat_map (data_up handle) since ++ rest) none
      ∙ append-nil (flat_map (data_up handle) since))
      ∙ handed

  one_plain : (since : List Note) (note : Note) (waiting : List (ℕ × Piece)) (accepted : List Marked) → data_up handle note ≡ []
      → flat_map (data_up handle) since ++ flat_map data_of_piece waiting ≡ accepted
      → flat_map (data_up handle) (since ++ note ∷ []) ++ flat_map data_of_piece waiting ≡ accepted
  one_plain since note waiting accepted none handed = plain since (note ∷ []) waiting accepted (ap (λ first. first ++ []) none) handed

  -- a step that accepts nothing
  none_accepted : (setup : EndSetup) (past : List EndStep) (step : EndStep)
      → (end_after setup (end_facts setup past) step).acknowledgement.accepted ≡ (end_facts setup past).acknowledgement.accepted
      → data_of (end_facts setup past).acknowledgement.accepted ≡ data_of (end_facts setup (past ++ step ∷ [])).acknowledgement.accepted
  none_accepted setup past step same =
      ap data_of (sym (ap (λ (facts : EndFacts). facts.acknowledgement.accepted) (grows setup past step) ∙ same))

  one_handed : (since : List Note) (piece : ℕ × Piece) (waiting : List (ℕ × Piece)) (accepted : List Marked)
      → data_up handle (note_received piece) ≡ data_of_piece piece
      → flat_map (data_up handle) since ++ flat_map data_of_piece (piece ∷ waiting) ≡ accepted
      → flat_map (data_up handle) (since ++ note_received piece ∷ []) ++ flat_map data_of_piece waiting ≡ accepted
  one_handed since piece waiting accepted is handed =
      let before = flat_map (data_up handle) since in
      ap (λ first. first ++ flat_map data_of_piece waiting)
      (flat_map-append (data_up handle) since (note_received piece ∷ []) ∙ ap (λ data_octets. before ++ (data_octets ++ [])) is
      ∙ ap (λ rest. before ++ rest) (append-nil (data_of_piece piece)))
      ∙ append_assoc before (data_of_piece piece) (flat_map data_of_piece waiting)
      ∙ handed

  all_received : (setup : EndSetup) (past : List EndStep) (waiting : List (ℕ × Piece)) (since : List Note) (slot : ℕ) (octets : List ℕ) (room : Bool)
      → flat_map (data_up handle) since ++ flat_map data_of_piece waiting ≡ data_of (end_facts setup past).acknowledgement.accepted
      → flat_map (data_up handle) since ++ flat_map data_of_piece (waiting ++ kept_of setup (end_facts setup past) slot octets room)
      ≡ data_of (end_facts setup (past ++ PacketReceived slot octets room ∷ [])).acknowledgement.accepted
  all_received setup past waiting since slot octets room handed =
      let facts = end_facts setup past in
      let pieces = kept_of setup facts slot octets room in
      let before = flat_map (data_up handle) since in
      ap (λ rest. before ++ rest) (flat_map-append data_of_piece waiting pieces)
      ∙ sym (append_assoc before (flat_map data_of_piece waiting) (flat_map data_of_piece pieces))
      ∙ ap (λ first. first ++ flat_map data_of_piece pieces) handed
      ∙ sym (received_more setup slot room (good_pdu setup facts octets) facts)
      ∙ ap (λ (a : Acknowledgement). data_of a.accepted)
      (sym (forged_leaves (is_forged setup facts octets) (facts_received setup.link.role slot room (good_pdu setup facts octets) facts)))
      ∙ ap (λ (facts : EndFacts). data_of facts.acknowledgement.accepted) (sym (grows setup past (PacketReceived slot octets room)))

  first_handed : (setup : EndSetup) → [] ≡ data_of (end_facts setup []).acknowledgement.accepted
  unfolding end_facts
  first_handed setup = refl

  handed_kept : IsKeptInBook most handle IsHandedUp
  handed_kept = record {
    opened = λ setup same. first_handed setup;
    other = λ setup past waiting since count note is handed. one_plain since note waiting _ (not_handed handle note (is.handed_none few)) handed;
    silent = λ setup past waiting since count step is handed.
        handed ∙ none_accepted setup past step (silent_same setup (end_facts setup past) step is);
    sent = λ setup past waiting since count slot same handed.
        plain since (end_notes setup (end_facts setup past) (PacketSent slot)) waiting _
        (no_data_sent handle setup (end_facts setup past)) handed
        ∙ none_accepted setup past (PacketSent slot) (ap (λ (a : Acknowledgement). a.accepted) (ack_sent slot (end_facts setup past)));
    received = λ setup past waiting since count slot octets room same handed.
        plain since (end_notes setup (end_facts setup past) (PacketReceived slot octets room))
        (waiting ++ kept_of setup (end_facts setup past) slot octets room) _
        (no_data_took handle setup slot room (good_pdu setup (end_facts setup past) octets) (end_facts setup past))
        (all_received setup past waiting since slot octets room handed);
    handed = λ setup past piece waiting since count below same handed.
        one_handed since piece waiting _ (handed_data handle piece (omega (arith, below, same, few)) same) handed;
    reported = λ setup past waiting since count complete below is handed.
        one_plain since (note_completed handle (suc complete)) waiting _ (no_data_completed handle handle (suc complete)) handed
        ∙ none_accepted setup past DataReported refl;
    emptied = λ setup past waiting since count below handed.
        one_plain since (note_completed handle 1) waiting _ (no_data_completed handle handle 1) handed;
  }

pub data_is_handed : (setup : Setup) (past : List Step) (handle : ℕ) (link : OpenLink) → setup.links ≤ 4096
    → link_at handle (facts_of setup past).links ≡ Some link
    → flat_map (data_up handle) (since_opened handle (notes_of setup past)) ++ data_waiting handle (facts_of setup past).received
    ≡ data_of (facts_in link).acknowledgement.accepted
data_is_handed setup past handle link few is =
    (book_of handle (IsHandedUp setup.links handle few) setup (handed_kept setup.links handle few) past link is).1

pub all_is_handed : (setup : Setup) (past : List Step) (handle : ℕ) (link : OpenLink) → setup.links ≤ 6 → is_between_turns past ≡ true
    → (facts_of setup past).view.flow.on ≡ false → link_at handle (facts_of setup past).links ≡ Some link
    → flat_map (data_up handle) (since_opened handle (notes_of setup past)) ≡ data_of (facts_in link).acknowledgement.accepted
all_is_handed setup past handle link few between off is =
    let handed = flat_map (data_up handle) (since_opened handle (notes_of setup past)) in
    sym (append-nil handed) ∙ ap (λ received. handed ++ data_waiting handle received) (sym (nothing_waits setup past few between off))
    ∙ data_is_handed setup past handle link (omega (arith, few)) is
