-- Of the PDUs of data that a link took since it was opened, its host has received all but those that wait.
use Rattle.std.proofs.Common.{◌≡◌, ℕ, suc, ◌+◌, ◌≤◌, ◌<◌, ◌==◌, ◌&&◌, not, Bool, true, false, cond, Option, Some, None, List, [], ◌∷◌, ◌++◌, length, refl, sym, ap, ◌∙◌, length-append, arith}
use Rattle.std.specs.Prelude.{filter}
use Rattle.std.specs.List.{AllByRecursion}
use Rattle.std.proofs.lemmas.Bool.{eq-eqb}
use Rattle.std.proofs.lemmas.List.Elements.{filter-append}
use Rattle.acl_banks.specs.declared.pieces.Piece.{Piece}
use Rattle.ble_base.specs.declared.error_codes.ErrCode.{ErrCode}
use Rattle.ble_base.specs.declared.notes.Note.{Note}
use Rattle.ble_base.specs.declared.notes.Note.TheVariants.{Sent, Took, Up}
use Rattle.ble_base.specs.declared.procedure_kinds.Kind.{Kind}
use Rattle.data_pdu.specs.Header.{header_in}
use Rattle.wire_fields.specs.Field.{little_endian}
use Rattle.journal_leaving.specs.controller_model.Data.{note_received}
use Rattle.journal_leaving.specs.controller_model.Facts.{Setup}
use Rattle.journal_leaving.specs.controller_model.Side.{facts_of, notes_of}
use Rattle.journal_leaving.specs.controller_model.Since.{is_handed_up_on, is_piece_on, is_took_on, note_completed, since_opened}
use Rattle.journal_leaving.specs.controller_model.Step.{Step}
use Rattle.journal_leaving.specs.link_model.Acknowledgement.{Pdu}
use Rattle.journal_leaving.specs.link_model.Controls.{is_procedure_pdu}
use Rattle.journal_leaving.specs.link_model.Data.{is_data, is_empty}
use Rattle.journal_leaving.specs.link_model.End.{facts_of as end_facts, notes_after as end_notes}
use Rattle.journal_leaving.specs.link_model.Facts.{Facts as EndFacts}
use Rattle.journal_leaving.specs.link_model.Kept.{kept_from, kept_of}
use Rattle.journal_leaving.specs.link_model.Packets.{good_pdu}
use Rattle.journal_leaving.specs.link_model.Pieces.{kept_if}
use Rattle.journal_leaving.specs.link_model.Receiving.{accepts, acked_kind, acks_control, facts_before_taking, given_if, given_notes, has_acknowledged, kept_given_if, received_notes, refused_notes, taken_notes, took_notes_if}
use Rattle.journal_leaving.specs.link_model.Entering.{done_notes}
use Rattle.journal_leaving.specs.link_model.Sending.{sent_notes}
use Rattle.journal_leaving.specs.link_model.Setup.{Setup as EndSetup}
use Rattle.journal_leaving.specs.link_model.Step.{Step as EndStep, PacketReceived, PacketSent}
use Rattle.journal_leaving.specs.link_model.Verdicts.{pdu_of}
use Rattle.journal_leaving.specs.link_model.control_end.declared.answers.Taken.{Taken}
use Rattle.journal_leaving.specs.journal_data.open_links.OpenLinks.{OpenLink, link_at}
use Rattle.journal_leaving.proofs.controller_model.Books.{Fact, IsKeptInBook}
use Rattle.journal_leaving.proofs.controller_model.BooksAlways.{book_of, none_waits}
use Rattle.journal_leaving.proofs.controller_model.EndNotes.{received_each, sent_each}
use Rattle.journal_leaving.proofs.controller_model.OtherNotes.{acl_handle_is}
use Rattle.journal_hosts.proofs.NotedPieces.{empty_none}

-- a PDU of data is taken on the link under a handle
abbrev pub is_data_took : ℕ → Note → Bool
is_data_took handle (Took other number llid body) = (other == handle) && is_data (record { llid = llid; body = body.items })
is_data_took handle note = false

-- how many notes of a kind there are
abbrev pub count_of : (Note → Bool) → List Note → ℕ
count_of kind notes = length (filter kind notes)

pub count_more : (kind : Note → Bool) (notes more : List Note) → count_of kind (notes ++ more) ≡ count_of kind notes + count_of kind more
count_more kind notes more = ap length (filter-append kind notes more) ∙ length-append (filter kind notes) (filter kind more)

count_none : (kind : Note → Bool) (notes : List Note) → AllByRecursion (λ note. kind note ≡ false) notes → count_of kind notes ≡ 0
count_none kind [] none = refl
count_none kind (note ∷ notes) none =
    ap (λ (is : Bool). length (cond is (note ∷ filter kind notes) (filter kind notes))) none.0 ∙ count_none kind notes none.1

-- ---- notes that say nothing of it

took_none : (handle : ℕ) (note : Note) → is_took_on handle note ≡ false → is_data_took handle note ≡ false
took_none handle (Took other number llid body) none = ap (λ (own : Bool). own && is_data (record { llid = llid; body = body.items })) none
took_none handle (Up packet) none = refl
took_none handle note none = refl

module _ (handle own : ℕ) where
  done_none : (done : Option Kind) → count_of (is_data_took handle) (done_notes own done) ≡ 0
  done_none None = refl
  done_none (Some kind) = refl

  refused_none : (refused : Option (Kind × ErrCode)) → count_of (is_data_took handle) (refused_notes own refused) ≡ 0
  refused_none None = refl
  refused_none (Some (kind, code)) = refl

  given_none : (given : Taken) → count_of (is_data_took handle) (given_notes own given) ≡ 0
  given_none given =
      let parts = count_more (is_data_took handle) (refused_notes own given.refused) (done_notes own given.done) in
      let one = refused_none given.refused in
      let other = done_none given.done in
      omega (arith, parts, one, other)

-- ---- a packet that is received

module _ (handle : ℕ) (pdu : Pdu) where
  one_took : (takes empty carries : Bool) (facts : EndFacts) → is_data pdu ≡ carries → (empty ≡ true → carries ≡ false)
      → count_of (is_data_took handle) (took_notes_if (takes && not empty) handle pdu facts) ≡ length (kept_if (takes && carries) handle pdu)
  one_took true true true facts is none = absurd (let h : true ≡ false = none refl in absurd cc)
  one_took true true false facts is none = refl
  one_took true false carries facts is none = here carries is
    where
      here : (carries : Bool) → is_data pdu ≡ carries → count_of (is_data_took handle) (took_notes_if true handle pdu facts) ≡ length (kept_if carries handle pdu)
      here true is = ap (λ (b : Bool). length (cond b (took_notes_if true handle pdu facts) [])) ((λ i. eq-eqb handle handle refl i && is i))
      here false is = ap (λ (b : Bool). length (cond b (took_notes_if true handle pdu facts) [])) ((λ i. eq-eqb handle handle refl i && is i))
  one_took false empty carries facts is none = refl

module _ (setup : EndSetup) (slot : ℕ) (room : Bool) (facts : EndFacts) where
  abbrev own : ℕ
  own = setup.link.handle

  received_count : (found : Option (List ℕ))
      → count_of (is_data_took own) (received_notes setup slot room found facts) ≡ length (kept_from setup slot room found facts)
  received_count None = refl
  received_count (Some octets) =
      let header = header_in octets in
      let pdu = pdu_of octets in
      let now = facts_before_taking setup.link.role slot header facts in
      let kind = is_data_took own in
      let takes = accepts room header pdu now in
      let done = done_notes own (acked_kind (acks_control (has_acknowledged facts header) facts) facts) in
      let took = took_notes_if (takes && not (is_empty pdu)) own pdu now in
      let first = count_more kind done (taken_notes own takes pdu slot now) in
      let given = given_if (takes && is_procedure_pdu pdu) pdu slot now in
      let kept = kept_given_if (takes && is_procedure_pdu pdu) pdu slot now in
      let next = count_more kind took (given_notes own given ++ given_notes own kept) in
      let last = count_more kind (given_notes own given) (given_notes own kept) in
      let none_done = done_none own own (acked_kind (acks_control (has_acknowledged facts header) facts) facts) in
      let none_given = given_none own own given in
      let none_kept = given_none own own kept in
      let one = one_took own pdu takes (is_empty pdu) (is_data pdu) now refl (empty_none pdu) in
      omega (arith, first, next, last, none_done, none_given, none_kept, one)

-- ---- the book

module _ (most handle : ℕ) (few : most ≤ 4096) where
  abbrev handed_up : List Note → ℕ
  handed_up notes = count_of (is_handed_up_on handle) notes

  abbrev took : List Note → ℕ
  took notes = count_of (is_data_took handle) notes

  abbrev IsCounted : Fact
  IsCounted setup past waiting since count = handed_up since + length waiting ≡ took since

  plain : (since more : List Note) (waiting : List (ℕ × Piece)) → handed_up more ≡ 0 → took more ≡ 0 → handed_up since + length waiting ≡ took since
      → handed_up (since ++ more) + length waiting ≡ took (since ++ more)
  plain since more waiting up_none none is =
      let up = count_more (is_handed_up_on handle) since more in
      let all = count_more (is_data_took handle) since more in
      omega (arith, up, all, up_none, none, is)

  one_plain : (since : List Note) (note : Note) (waiting : List (ℕ × Piece)) → is_handed_up_on handle note ≡ false → is_data_took handle note ≡ false
      → handed_up since + length waiting ≡ took since → handed_up (since ++ note ∷ []) + length waiting ≡ took (since ++ note ∷ [])
  one_plain since note waiting up_none none is =
      plain since (note ∷ []) waiting (ap (λ (b : Bool). length (cond b (note ∷ []) [])) up_none) (ap (λ (b : Bool). length (cond b (note ∷ []) [])) none) is

  sent_none : (setup : EndSetup) (facts : EndFacts) (kind : Note → Bool)
      → ((number llid : ℕ) (octets : List ℕ) → kind (Sent setup.link.handle number llid (record { items = octets })) ≡ false)
      → count_of kind (sent_notes setup facts) ≡ 0
  sent_none setup facts kind none =
      count_none kind (sent_notes setup facts) (sent_each (λ note. kind note ≡ false) setup facts none)

  completed_none : (count : ℕ) → is_handed_up_on handle (note_completed handle count) ≡ false
  unfolding little_endian
  completed_none count = refl

  received_none : (setup : EndSetup) (slot : ℕ) (room : Bool) (found : Option (List ℕ)) (facts : EndFacts) → handed_up (received_notes setup slot room found facts) ≡ 0
  received_none setup slot room found facts =
      count_none (is_handed_up_on handle) (received_notes setup slot room found facts)
      (received_each (λ note. is_handed_up_on handle note ≡ false) setup slot room found facts
      (record { took = λ number llid octets. refl; refused = λ kind code. refl; done = λ kind. refl }))

  -- the host receives a piece
  one_handed : (since : List Note) (piece : ℕ × Piece) (waiting : List (ℕ × Piece)) → handle < most → piece.0 ≡ handle
      → handed_up since + suc (length waiting) ≡ took since
      → handed_up (since ++ note_received piece ∷ []) + length waiting ≡ took (since ++ note_received piece ∷ [])
  one_handed since piece waiting below same is =
      let note = note_received piece in
      let up = count_more (is_handed_up_on handle) since (note ∷ []) in
      let all = count_more (is_data_took handle) since (note ∷ []) in
      let one : handed_up (note ∷ []) ≡ 1 =
      ap (λ (b : Bool). length (cond b (note ∷ []) []))
      (eq-eqb _ handle (acl_handle_is piece (omega (arith, below, same, few)) ∙ same)) in
      let none : took (note ∷ []) ≡ 0 = refl in
      omega (arith, up, all, one, none, is)

  -- it takes PDUs
  some_taken : (setup : EndSetup) (past : List EndStep) (waiting : List (ℕ × Piece)) (since : List Note) (slot : ℕ) (octets : List ℕ) (room : Bool)
      → setup.link.handle ≡ handle → handed_up since + length waiting ≡ took since
      → handed_up (since ++ end_notes setup (end_facts setup past) (PacketReceived slot octets room))
      + length (waiting ++ kept_of setup (end_facts setup past) slot octets room)
      ≡ took (since ++ end_notes setup (end_facts setup past) (PacketReceived slot octets room))
  some_taken setup past waiting since slot octets room same is =
      let facts = end_facts setup past in
      let found = good_pdu setup facts octets in
      let notes = received_notes setup slot room found facts in
      let up = count_more (is_handed_up_on handle) since notes in
      let all = count_more (is_data_took handle) since notes in
      let none = received_none setup slot room found facts in
      let some : took notes ≡ length (kept_from setup slot room found facts) =
      ap (λ n. count_of (is_data_took n) notes) (sym same) ∙ received_count setup slot room facts found in
      let more = length-append waiting (kept_from setup slot room found facts) in
      omega (arith, up, all, none, some, more, is)

  counted_kept : IsKeptInBook most handle IsCounted
  counted_kept = record {
    opened = λ setup same. refl;
    other = λ setup past waiting since count note is counted.
        one_plain since note waiting (is.handed_none few) (took_none handle note is.took_none) counted;
    silent = λ setup past waiting since count step is counted. counted;
    sent = λ setup past waiting since count slot same counted.
        let facts = end_facts setup past in
        plain since (end_notes setup facts (PacketSent slot)) waiting
        (sent_none setup facts (is_handed_up_on handle) (λ number llid octets. refl))
        (sent_none setup facts (is_data_took handle) (λ number llid octets. refl)) counted;
    received = λ setup past waiting since count slot octets room same counted.
        some_taken setup past waiting since slot octets room same counted;
    handed = λ setup past piece waiting since count below same counted. one_handed since piece waiting below same counted;
    reported = λ setup past waiting since count complete below is counted.
        one_plain since (note_completed handle (suc complete)) waiting (completed_none (suc complete)) refl counted;
    emptied = λ setup past waiting since count below counted.
        one_plain since (note_completed handle 1) waiting (completed_none 1) refl counted;
  }

-- ---- at any time

pub pieces_counted : (setup : Setup) (past : List Step) (handle : ℕ) (link : OpenLink) → setup.links ≤ 4096
    → link_at handle (facts_of setup past).links ≡ Some link
    → count_of (is_handed_up_on handle) (since_opened handle (notes_of setup past)) + length (filter (is_piece_on handle) (facts_of setup past).received)
    ≡ count_of (is_data_took handle) (since_opened handle (notes_of setup past))
pieces_counted setup past handle link few is =
    (book_of handle (IsCounted setup.links handle few) setup (counted_kept setup.links handle few) past link is).1

-- where no link is open nothing waits
pub none_waiting : (setup : Setup) (past : List Step) (handle : ℕ) → setup.links ≤ 4096 → link_at handle (facts_of setup past).links ≡ None
    → filter (is_piece_on handle) (facts_of setup past).received ≡ []
none_waiting setup past handle few is =
    none_waits handle (IsCounted setup.links handle few) setup (counted_kept setup.links handle few) past is
