-- At any time a controller keeps the book of each handle.
use Rattle.std.proofs.Common.{◌≡◌, ℕ, zero, suc, ◌+◌, ◌<◌, ◌==◌, Bool, true, false, Option, Some, None, List, [], ◌∷◌, ◌++◌, length, map, cond, refl, sym, subst, append-nil, arith, IfSome}
use Rattle.std.specs.Prelude.{◌&&◌, ◌||◌, filter, fold, nat_lt, replicate}
use Rattle.std.proofs.lemmas.Bool.{eq-eqb, eqb-true}
use Rattle.std.proofs.lemmas.List.Sums.{fold-append}
use Rattle.acl_banks.specs.declared.pieces.Piece.{Piece}
use Rattle.ble_base.specs.declared.notes.Note.{Note}
use Rattle.h4_frames.specs.declared.packet.HostPacket.TheVariants.{Command as HostCommand, Acl}
use Rattle.h4_frames.specs.declared.packet.Fed.{Fed}
use Rattle.h4_frames.specs.declared.packet.Fed.TheVariants.{More, Packet, LostSync}
use Rattle.hci_cmd.specs.declared.command.Command.{Command}
use Rattle.hci_cmd.specs.declared.command.Command.TheVariants.{Reset}
use Rattle.hci_cmd.specs.declared.command.CmdRead.{CmdRead}
use Rattle.hci_cmd.specs.declared.command.CmdRead.TheVariants.{Known, UnknownOpcode, BadLength}
use Rattle.hci_cmd.specs.Command.{command_of}
use Rattle.hci_evt.specs.declared.event.Event.TheVariants.{BufferOverflow, HardwareError}
use Rattle.host_view.specs.Links.{was_encrypted}
use Rattle.host_view.specs.Status.{status_of}
use Rattle.adv_pdu.specs.declared.pdu.AdvPdu.{AdvPdu}
use Rattle.host_view.specs.scan_init.Reports.{ScannerFacts, does_ask, scan_answer}
use Rattle.slot_plan.specs.declared.Activity.{Activity}
use Rattle.slot_plan.specs.declared.Activity.TheVariants.{Link, Advertise, Scan, Initiate}
use Rattle.link_commands.specs.open_links.link_model.declared.setup.LinkSetup.{LinkSetup}
use Rattle.link_commands.specs.open_links.link_model.Step.{Step as EndStep, DataGiven, Disconnected, KeyAnswered, PacketReceived, ProcedureAsked, RequestAnswered, WordsGiven}
use Rattle.link_commands.specs.open_links.declared.offers.Offer.{Offer}
use Rattle.link_commands.specs.open_links.declared.offers.Offer.TheVariants.{Empty, Overflow, Kept}
use Rattle.link_commands.specs.open_links.Offered.{buffer_octets}
use Rattle.link_commands.specs.open_links.Data.{completed_from, links_reported, offer_by}
use Rattle.link_commands.specs.open_links.OpenLinks.{Links, OpenLink, HaveHandles, link_after, link_at, link_from, with_change, without_links}
use Rattle.link_commands.specs.open_links.Turns.{due_in, ending_in}
use Rattle.controller_model.specs.declared.doing.Doing.{Doing}
use Rattle.controller_model.specs.Step.{Step, HostOctet, TurnBegins, PacketHeard, NothingHeard, TurnEnds}
use Rattle.controller_model.specs.Facts.{Setup, Facts, first_facts}
use Rattle.controller_model.specs.Commands.{facts_accepted, facts_commanded, facts_known, is_asking, links_after, moment_of, notes_commanded, received_after}
use Rattle.controller_model.specs.Data.{event_completed, facts_ended_turn, facts_handed, facts_offered, notes_ended_turn, notes_handed, notes_offered, notes_pieces, pieces_handed, is_full}
use Rattle.controller_model.specs.Entering.{notes_all_entering}
use Rattle.controller_model.specs.Events.{notes_of_events}
use Rattle.controller_model.specs.Heard.{asks_if, events_received, events_reported, has_room, link_heard, link_received, link_taken, notes_taken, opens, replies_in, reply_if, scanner_after, with_scanner, facts_with_words}
use Rattle.controller_model.specs.Links.{ends_for, facts_ending, notes_ending, notes_leaving, notes_opened}
use Rattle.controller_model.specs.Outcome.{facts_passed, notes_passed}
use Rattle.controller_model.specs.Packets.{facts_doing, notes_doing}
use Rattle.controller_model.specs.Radio.{outcome_begun}
use Rattle.controller_model.specs.Side.{facts_after, facts_fed, facts_of, notes_after, notes_fed, notes_from, notes_of, result_of}
use Rattle.controller_model.specs.Since.{count_fed, count_given, count_since, empties_from, empties_of, is_piece_on, note_completed, note_since, since_opened}
use Rattle.host_view.specs.Flow.{left_of}
use Rattle.controller_model.proofs.Handing.{handed_are, handed_first}
use Rattle.controller_model.proofs.Always.{facts_ended, holds_step, leaving_is, left_doing, links_won, opening_passes}
use Rattle.controller_model.proofs.BookEnds.{ending_book, handing_book, opening_book, reporting_book}
use Rattle.controller_model.proofs.Books.{Fact, IsBook, IsBookAfter, IsKeptInBook, IsSilent, and_then, by_handle, is_not, one_more, others_noted, silent_book}
use Rattle.controller_model.proofs.BookSteps.{doing_at, entering_at, fixing_at, received_at, refusing_at, served_at, silent_at}
use Rattle.controller_model.proofs.Handles.{HaveOwnHandles, IsNew, free_is_new, handles_kept, receiving_opens, words_own}
use Rattle.controller_model.proofs.OtherNotes.{both_other, command_other, completed_other, ends_other, entering_other, events_other, procedures_other, reporting_other}
use Rattle.controller_model.proofs.Phases.{EachOutcome, heard_is, unheard_is}
use Rattle.controller_model.proofs.Places.{refusal_at, refusal_is}
use Rattle.controller_model.proofs.ProcedureEvents.{reception_events}
use Rattle.controller_model.proofs.PiecesBelow.{AreBelow, ArePieces, first_pieces, pieces_kept}
use Rattle.controller_model.proofs.Asked.{IsAskedStep, asking_leaves, at_kept, facts_asked, of_asking}

-- a link that is open is in one of the places
pub within : (first : ℕ) (links : Links) (other : ℕ) (link : OpenLink) → link_from first other links ≡ Some link → other < first + length links
within first [] other link is = absurd cc
within first (place ∷ links) other link is = at (first == other) refl is (within (first + 1) links other link)
  where
    at : (test : Bool) → (first == other) ≡ test → cond test place (link_from (first + 1) other links) ≡ Some link
        → (link_from (first + 1) other links ≡ Some link → other < first + 1 + length links) → other < first + suc (length links)
    at true e is rest = let same = eqb-true first other e in omega (arith, same)
    at false e is rest = let later = rest is in omega (arith, later)

module _ (most handle : ℕ) (fact : Fact) where
  -- what is kept, by what a controller holds
  abbrev pub IsBookOf : Facts → List Note → ℕ → Type 0
  IsBookOf facts since count = IsBook most handle fact (link_at handle facts.links) (filter (is_piece_on handle) facts.received) since count

  abbrev pub IsBookOfAfter : Facts → List Note → ℕ → List Note → Type 0
  IsBookOfAfter facts since count notes =
      IsBookAfter most handle fact (link_at handle facts.links) (filter (is_piece_on handle) facts.received) since count notes

module _ (handle : ℕ) (fact : Fact) (setup : Setup) (kept : IsKeptInBook setup.links handle fact) where
  abbrev most : ℕ
  most = setup.links

  -- ---- a turn begins

  record IsLeft (since : List Note) (count : ℕ) (facts : Facts) : Type 0 where
    pub own : HaveOwnHandles setup facts
    pub book : IsBookOf most handle fact facts since count

  won_left : (slot : ℕ) (activity : Activity) (links : Links) (waiting : List (ℕ × Piece)) (since : List Note) (count : ℕ)
      → IsBook most handle fact (link_at handle links) waiting since count
      → IsBook most handle fact (link_at handle (links_won slot activity links)) waiting since count
  won_left slot (Link other) links waiting since count book = served_at most handle fact kept slot other links waiting since count book
  won_left slot Advertise links waiting since count book = book
  won_left slot Scan links waiting since count book = book
  won_left slot Initiate links waiting since count book = book

  -- what is done next, and what is noted then
  abbrev IsBegun : List Note → ℕ → Doing → Facts → Type 0
  IsBegun since count doing facts = IsBookOfAfter most handle fact (facts_doing doing facts) since count (notes_doing doing facts)

  begun_book : (slot : ℕ) (on : Bool) (facts : Facts) (since : List Note) (count : ℕ) → IsLeft since count facts
      → IsBegun since count (outcome_begun slot on facts).next (outcome_begun slot on facts).facts
  begun_book slot on facts since count left =
      let starts = (handles_kept setup).turns.starts in
      let waiting : Facts → List (ℕ × Piece) = λ facts. filter (is_piece_on handle) facts.received in
      left_doing (IsLeft since count)
      (λ reason facts left. record {
        own = starts.ends reason facts left.own;
        book = ending_book most handle fact kept reason facts.links facts.received since count left.book;
      })
      (λ slot facts left. record { own = starts.begins slot facts left.own; book = left.book })
      (λ slot facts left. record {
        own = starts.enters slot facts left.own;
        book = entering_at most handle fact kept slot facts.links (waiting facts) since count left.book;
      })
      (λ slot activity facts left. record {
        own = starts.wins slot activity facts left.own;
        book = won_left slot activity facts.links (waiting facts) since count left.book;
      })
      (λ doing facts left. record {
        own = starts.fixes doing facts left.own;
        book = fixing_at most handle fact kept doing facts.links (waiting facts) since count left.book;
      })
      (IsBegun since count) (λ doing facts may left. doing_at most handle fact kept doing facts (waiting facts) since count left.own.handles left.book)
      slot on facts left

  turn_book : (slot : ℕ) (on : Bool) (facts : Facts) (since : List Note) (count : ℕ) → HaveOwnHandles setup facts
      → IsBookOf most handle fact facts since count
      → IsBookOfAfter most handle fact (facts_passed (outcome_begun slot on facts)) since count (notes_passed (outcome_begun slot on facts))
  turn_book slot on facts since count own book =
      let outcome = outcome_begun slot on facts in
      let after = facts_passed outcome in
      let ending = notes_ending slot facts in
      let ended = facts_ending slot facts in
      let entering = notes_all_entering ended.view slot 0 ended.links in
      let noted = ending ++ entering in
      and_then most handle fact kept (link_at handle after.links) (filter (is_piece_on handle) after.received) since count noted (notes_doing outcome.next outcome.facts)
      (begun_book slot on facts (fold (note_since handle) since noted) (fold (count_since handle) count noted)
      (record {
        own = own;
        book = others_noted most handle fact kept (link_at handle facts.links) (filter (is_piece_on handle) facts.received) since count noted
            (both_other most handle ending entering (ends_other most handle facts.view (ends_for (due_in slot) facts))
            (entering_other most handle ended.view slot 0 ended.links))
            book;
      }))

  -- ---- a phase

  -- nothing is sent next
  asks_book : (asks : Bool) (channel : ℕ) (pdu : AdvPdu) (facts : Facts) (since : List Note) (count : ℕ) (notes : List Note)
      → IsBookOfAfter most handle fact facts since count notes
      → IsBookOfAfter most handle fact (facts_doing (asks_if asks channel pdu) facts) since count (notes ++ notes_doing (asks_if asks channel pdu) facts)
  asks_book true channel pdu facts since count notes book = rw (append-nil notes) book
  asks_book false channel pdu facts since count notes book = rw (append-nil notes) book

  reply_book : (replies : Bool) (other : ℕ) (facts : Facts) (since : List Note) (count : ℕ) (notes : List Note) → HaveHandles 0 facts.links
      → IsBookOfAfter most handle fact facts since count notes
      → IsBookOfAfter most handle fact (facts_doing (reply_if replies other) facts) since count (notes ++ notes_doing (reply_if replies other) facts)
  reply_book replies other facts since count notes have book =
      let next = reply_if replies other in
      let after = facts_doing next facts in
      and_then most handle fact kept (link_at handle after.links) (filter (is_piece_on handle) after.received) since count notes (notes_doing next facts)
      (doing_at most handle fact kept next facts (filter (is_piece_on handle) facts.received)
      (fold (note_since handle) since notes) (fold (count_since handle) count notes) have book)

  opened_book : (link : LinkSetup) (facts : Facts) (since : List Note) (count : ℕ) → link.handle < length facts.links
      → link_at link.handle facts.links ≡ None → IsBookOf most handle fact facts since count
      → IsBookOfAfter most handle fact (facts_passed (opens link facts)) since count (notes_passed (opens link facts))
  opened_book link facts since count within free book =
      let notes = notes_opened facts.view link in
      opening_passes (λ next. IsBookOfAfter most handle fact next since count (notes ++ [])) link facts
      (rw (append-nil notes)
      (opening_book most handle fact kept (record { link = link; opened = facts.turn.slot }) facts.view facts.links facts.received since count within free book))

  scanned_book : (asks : Bool) (channel : ℕ) (pdu : AdvPdu) (on : ScannerFacts) (facts : Facts) (since : List Note) (count : ℕ)
      → IsBookOf most handle fact facts since count
      → let answer = scan_answer on.params facts.view.accepted on.recent pdu in
      let after = with_scanner (scanner_after on facts.view.accepted pdu) facts in
      let next = asks_if (asks && does_ask answer) channel pdu in
      IsBookOfAfter most handle fact (facts_doing next after) since count (notes_of_events facts.view (events_reported answer pdu) ++ notes_doing next after)
  scanned_book asks channel pdu on facts since count book =
      let answer = scan_answer on.params facts.view.accepted on.recent pdu in
      let after = with_scanner (scanner_after on facts.view.accepted pdu) facts in
      let notes = notes_of_events facts.view (events_reported answer pdu) in
      asks_book (asks && does_ask answer) channel pdu after since count notes
      (others_noted most handle fact kept (link_at handle facts.links) (filter (is_piece_on handle) facts.received) since count notes
      (reporting_other most handle answer pdu facts.view) book)

  -- what a host asks is noted nowhere
  asks_in_silence : (step : EndStep) → IsAskedStep step → IsSilent step
  asks_in_silence (ProcedureAsked ask) asks = tt
  asks_in_silence (RequestAnswered answer) asks = tt
  asks_in_silence (KeyAnswered key slot) asks = tt
  asks_in_silence (Disconnected reason slot) asks = tt
  asks_in_silence step asks = absurd asks

  silent_if : (step : Option EndStep) → IfSome step IsAskedStep → IfSome step IsSilent
  silent_if None asks = tt
  silent_if (Some step) asks = asks_in_silence step asks

  heard_book : (other : ℕ) (octets : List ℕ) (facts : Facts) (since : List Note) (count : ℕ) → HaveOwnHandles setup facts
      → IsBookOf most handle fact facts since count
      → IsBookOfAfter most handle fact (facts_passed (link_heard setup other octets facts)) since count (notes_passed (link_heard setup other octets facts))
  heard_book other octets facts since count own book =
      let slot = facts.turn.slot in
      let room = has_room setup facts in
      let place = link_at other facts.links in
      let taken = notes_taken slot room place octets in
      let events = events_received (was_encrypted other facts.view.links) other slot room place octets in
      let after = link_received other room octets facts in
      let waiting = filter (is_piece_on handle) after.received in
      let heard = refusing_at most handle fact kept (refusal_at other room octets facts)
      (silent_if (refusal_at other room octets facts) (refusal_is other room octets facts)) other
      (with_change other (link_after (PacketReceived slot octets room)) facts.links) waiting (fold (note_since handle) since taken)
      (fold (count_since handle) count taken)
      (received_at most handle fact kept slot room octets other facts.links facts.received since count own.handles book) in
      reply_book (replies_in slot room place octets) other after since count (taken ++ notes_of_events facts.view events)
      ((receiving_opens other room octets facts).handles own.handles)
      (and_then most handle fact kept (link_at handle after.links) waiting since count taken (notes_of_events facts.view events)
      (others_noted most handle fact kept (link_at handle after.links) waiting (fold (note_since handle) since taken)
      (fold (count_since handle) count taken) (notes_of_events facts.view events)
      (procedures_other most handle facts.view events (reception_events (was_encrypted other facts.view.links) other slot room place octets)) heard))

  phase_book : (facts : Facts) (since : List Note) (count : ℕ) → HaveOwnHandles setup facts → IsBookOf most handle fact facts since count
      → EachOutcome setup facts (λ outcome. IsBookOfAfter most handle fact (facts_passed outcome) since count (notes_passed outcome))
  phase_book facts since count own book = record {
    rests = book;
    awaits_request = λ channel doing. book;
    awaits_response = λ channel advertiser doing. book;
    central_listens = λ handle doing. book;
    sent = λ channel link doing.
        let new = subst (IsNew facts.links) doing own.new in
        opened_book link facts since count new.0 new.1 book;
    responds = λ channel on doing is_on. book;
    taken = λ channel octets pdu on fields other is_on hears takes free.
        let new = free_is_new facts.links other free in
        opened_book (link_taken facts.view on.params.own pdu fields other) facts since count new.0 new.1 book;
    scanned = λ channel octets pdu on doing is_on hears. scanned_book true channel pdu on facts since count book;
    answered = λ channel octets pdu on doing is_on hears. scanned_book false channel pdu on facts since count book;
    connects = λ channel octets pdu on access other doing is_on hears answers next free in_range. book;
    received = λ other octets. heard_book other octets facts since count own book;
  }

  -- ---- a turn ends

  handed_book : (facts : Facts) (since : List Note) (count : ℕ) → HaveOwnHandles setup facts → AreBelow most facts.received
      → IsBookOf most handle fact facts since count → IsBookOfAfter most handle fact (facts_handed facts) since count (notes_handed facts)
  handed_book facts since count own below book =
      let pieces = notes_pieces facts in
      let reports = notes_of_events facts.view (map event_completed (completed_from 0 facts.links)) in
      let first = pieces_handed facts in
      let left = left_of facts.view facts.received in
      let waiting = filter (is_piece_on handle) left in
      and_then most handle fact kept (link_at handle (links_reported facts.links)) waiting since count pieces reports
      (reporting_book most handle fact kept facts.view 0 facts.links waiting (fold (note_since handle) since pieces)
      (fold (count_since handle) count pieces) (omega (arith, own.many))
      (handing_book most handle fact kept (link_at handle facts.links) first left since count
      (handed_are (λ (piece : ℕ × Piece). piece.0 < most) facts.view facts.received below)
      (subst (λ (all : List (ℕ × Piece)). IsBook most handle fact (link_at handle facts.links) (filter (is_piece_on handle) all) since count)
      (sym (handed_first facts.view facts.received)) book)))

  -- then links end
  ended_book : (facts : Facts) (since : List Note) (count : ℕ) → HaveOwnHandles setup facts → AreBelow most facts.received
      → IsBookOf most handle fact facts since count
      → IsBookOfAfter most handle fact (facts_ended_turn facts) since count (notes_ended_turn facts)
  ended_book facts since count own below book =
      let handed = facts_handed facts in
      let notes = notes_handed facts in
      let ending = notes_leaving handed in
      let ended = others_noted most handle fact kept (link_at handle handed.links) (filter (is_piece_on handle) handed.received)
      (fold (note_since handle) since notes) (fold (count_since handle) count notes) ending
      (ends_other most handle handed.view (ends_for ending_in handed)) (handed_book facts since count own below book) in
      subst (λ (next : Facts). IsBookOfAfter most handle fact next since count (notes ++ ending)) (sym (leaving_is handed))
      (and_then most handle fact kept (link_at handle (facts_ended ending_in handed).links)
      (filter (is_piece_on handle) (facts_ended ending_in handed).received) since count notes ending
      (ending_book most handle fact kept ending_in handed.links handed.received
      (fold (note_since handle) (fold (note_since handle) since notes) ending)
      (fold (count_since handle) (fold (count_since handle) count notes) ending) ended))

  -- ---- an octet of the host

  none_left : (links : Links) (first : ℕ) → link_from first handle (without_links links) ≡ None
  none_left [] first = refl
  none_left (place ∷ links) first = at (first == handle) (none_left links (first + 1))
    where
      at : (test : Bool) → link_from (first + 1) handle (without_links links) ≡ None
          → cond test None (link_from (first + 1) handle (without_links links)) ≡ None
      at true none = refl
      at false none = none

  commanded_links : (command : Command) (facts : Facts) (since : List Note) (count : ℕ) → IsBookOf most handle fact facts since count
      → IsBook most handle fact (link_at handle (links_after command facts.links))
      (filter (is_piece_on handle) (received_after command facts.received)) since count
  commanded_links Reset facts since count book =
      subst (λ (place : Option OpenLink). IsBook most handle fact place [] since count) (sym (none_left facts.links 0)) refl
  commanded_links other facts since count book = book

  known_book : (accepted : Bool) (facts : Facts) (command : Command) (since : List Note) (count : ℕ) → IsBookOf most handle fact facts since count
      → IsBookOf most handle fact (facts_known accepted setup facts command) since count
  known_book false facts command since count book = book
  known_book true facts command since count book = commanded_links command facts since count book

  asked_book : (facts : Facts) (command : Command) (since : List Note) (count : ℕ) → is_asking facts.view command ≡ true
      → IsBookOf most handle fact (facts_accepted setup facts command) since count → IsBookOf most handle fact (facts_asked setup facts command) since count
  asked_book facts command since count asks book =
      let waiting = filter (is_piece_on handle) (received_after command facts.received) in
      at_kept (λ (place : Option OpenLink). IsBook most handle fact place waiting since count)
      (λ link step asks book. silent_book most handle fact kept step (Some link) waiting since count (asks_in_silence step asks) book)
      command (moment_of setup facts) handle facts.links
      (subst (λ (links : Links). IsBook most handle fact (link_at handle links) waiting since count) (asking_leaves facts command asks) book)

  commanded_book : (read : CmdRead) (facts : Facts) (since : List Note) (count : ℕ) → IsBookOf most handle fact facts since count
      → IsBookOf most handle fact (facts_commanded setup facts read) since count
  commanded_book (Known command) facts since count book =
      of_asking setup facts command (λ (after : Facts). IsBookOf most handle fact after since count)
      (known_book (status_of facts.view command == 0) facts command since count book)
      (λ asks left. asked_book facts command since count asks left)
  commanded_book UnknownOpcode facts since count book = book
  commanded_book BadLength facts since count book = book

  abbrev counted : Bool → ℕ → ℕ
  counted gives count = cond gives (count + 1) count

  -- a packet of the host, of no octet or of some
  abbrev IsOffered : ℕ → Bool → Bool → List ℕ → Facts → List Note → ℕ → Offer → Type 0
  IsOffered other none start body facts since count offer =
      let notes = notes_offered facts.view offer other in
      IsBookOf most handle fact (facts_offered offer other start body facts) (fold (note_since handle) since notes)
      (counted ((other == handle) && none) (fold (count_since handle) count notes))

  any_count : (place : Option OpenLink) (waiting : List (ℕ × Piece)) (since : List Note) (count more : ℕ) → place ≡ None
      → IsBook most handle fact place waiting since count → IsBook most handle fact place waiting since more
  any_count None waiting since count more is book = book
  any_count (Some link) waiting since count more is book = absurd cc

  no_link : (other : ℕ) (none : Bool) (facts : Facts) (since : List Note) (count : ℕ) → link_at other facts.links ≡ None
      → IsBookOf most handle fact facts since count
      → IsBookOf most handle fact facts since (counted ((other == handle) && none) count)
  no_link other none facts since count is book = at (other == handle) refl
    where
      at : (same : Bool) → (other == handle) ≡ same → IsBookOf most handle fact facts since (counted (same && none) count)
      at true e =
          any_count (link_at handle facts.links) (filter (is_piece_on handle) facts.received) since count (counted (true && none) count)
          (subst (λ n. link_at n facts.links ≡ None) (eqb-true other handle e) is) book
      at false e = book

  emptied_at : (place : Option OpenLink) (link : OpenLink) (waiting : List (ℕ × Piece)) (since : List Note) (count : ℕ) → handle < most
      → place ≡ Some link → IsBook most handle fact place waiting since count
      → IsBook most handle fact place waiting (since ++ note_completed handle 1 ∷ []) (count + 1)
  emptied_at None link waiting since count below is book = absurd cc
  emptied_at (Some link) other waiting since count below is book =
      (book.0, kept.emptied link.setup link.past waiting since count below book.1)

  empty_book : (other : ℕ) (link : OpenLink) (facts : Facts) (since : List Note) (count : ℕ) → HaveOwnHandles setup facts
      → link_at other facts.links ≡ Some link → IsBookOf most handle fact facts since count
      → IsBookOf most handle fact facts (since ++ note_completed other 1 ∷ []) (counted ((other == handle) && true) count)
  empty_book other link facts since count own is book =
      let place = link_at handle facts.links in
      let waiting = filter (is_piece_on handle) facts.received in
      let below : other < most = let room = within 0 facts.links other link is in omega (arith, room, own.many) in
      by_handle other handle
      (λ same.
      rw (eq-eqb other handle same)
      (subst (λ n. IsBook most handle fact place waiting (since ++ note_completed n 1 ∷ []) (count + 1)) (sym same)
      (emptied_at place link waiting since count (subst (λ n. n < most) same below) (subst (λ n. link_at n facts.links ≡ Some link) same is) book)))
      (λ differs.
      rw (is_not other handle differs)
      (one_more most handle fact kept place waiting since count (note_completed other 1) (completed_other most handle other 1 below differs) book))

  not_empty : (same : Bool) (count : ℕ) → counted (same && false) count ≡ count
  not_empty true count = refl
  not_empty false count = refl

  offered_if : (none refused start : Bool) (other : ℕ) (body : List ℕ) (link : OpenLink) (facts : Facts) (since : List Note) (count : ℕ)
      → HaveOwnHandles setup facts → link_at other facts.links ≡ Some link → IsBookOf most handle fact facts since count
      → IsOffered other none start body facts since count (cond none Empty (cond refused Overflow Kept))
  offered_if true refused start other body link facts since count own is book = empty_book other link facts since count own is book
  offered_if false true start other body link facts since count own is book =
      let notes = notes_offered facts.view Overflow other in
      let place = link_at handle facts.links in
      let waiting = filter (is_piece_on handle) facts.received in
      subst (λ n. IsBook most handle fact place waiting (fold (note_since handle) since notes) n)
      (sym (not_empty (other == handle) (fold (count_since handle) count notes)))
      (others_noted most handle fact kept place waiting since count notes (events_other most handle facts.view (BufferOverflow 1 ∷ []) (tt, tt)) book)
  offered_if false false start other body link facts since count own is book =
      let waiting = filter (is_piece_on handle) facts.received in
      rw (not_empty (other == handle) count) (silent_at most handle fact kept (DataGiven start body) other facts.links waiting since count tt book)

  offered_at : (place : Option OpenLink) (other octets : ℕ) (full start : Bool) (body : List ℕ) (facts : Facts) (since : List Note) (count : ℕ)
      → HaveOwnHandles setup facts → link_at other facts.links ≡ place → IsBookOf most handle fact facts since count
      → IsOffered other (octets == 0) start body facts since count (offer_by place octets full)
  offered_at None other octets full start body facts since count own is book = no_link other (octets == 0) facts since count is book
  offered_at (Some link) other octets full start body facts since count own is book =
      offered_if (octets == 0) (nat_lt buffer_octets octets || full) start other body link facts since count own is book

  fed_book : (facts : Facts) (fed : Fed) (since : List Note) (count : ℕ) → HaveOwnHandles setup facts → IsBookOf most handle fact facts since count
      → IsBookOf most handle fact (facts_fed setup facts fed) (fold (note_since handle) since (notes_fed setup facts fed))
      (count_fed handle fed (fold (count_since handle) count (notes_fed setup facts fed)))
  fed_book facts (Packet (HostCommand opcode body)) since count own book =
      let read = command_of opcode body.items in
      let after = facts_commanded setup facts read in
      others_noted most handle fact kept (link_at handle after.links) (filter (is_piece_on handle) after.received) since count
      (notes_commanded setup facts opcode read) (command_other most handle setup facts opcode read) (commanded_book read facts since count book)
  fed_book facts (Packet (Acl other start octets body)) since count own book =
      offered_at (link_at other facts.links) other octets (is_full setup facts) start body.items facts since count own refl book
  fed_book facts LostSync since count own book =
      others_noted most handle fact kept (link_at handle facts.links) (filter (is_piece_on handle) facts.received) since count
      (notes_of_events facts.view (HardwareError 0x01 ∷ [])) (events_other most handle facts.view (HardwareError 0x01 ∷ []) (tt, tt)) book
  fed_book facts More since count own book = book

  -- ---- all steps

  step_book : (facts : Facts) (step : Step) (since : List Note) (count : ℕ) → HaveOwnHandles setup facts → AreBelow most facts.received
      → IsBookOf most handle fact facts since count
      → IsBookOf most handle fact (facts_after setup facts step) (fold (note_since handle) since (notes_after setup facts step))
      (count_given handle facts step (fold (count_since handle) count (notes_after setup facts step)))
  step_book facts (HostOctet octet) since count own below book = fed_book facts (result_of facts.octets octet) since count own book
  step_book facts (TurnBegins slot on) since count own below book = turn_book slot on facts since count own book
  step_book facts (PacketHeard octets) since count own below book =
      heard_is setup facts (λ outcome. IsBookOfAfter most handle fact (facts_passed outcome) since count (notes_passed outcome))
      (phase_book facts since count own book) facts.turn.doing octets refl
      (λ other. (phase_book (facts_with_words setup other facts) since count (words_own setup other facts own)
      (silent_at most handle fact kept (WordsGiven _ _) other facts.links (filter (is_piece_on handle) facts.received) since count tt book)).received other octets)
  step_book facts NothingHeard since count own below book =
      unheard_is setup facts (λ outcome. IsBookOfAfter most handle fact (facts_passed outcome) since count (notes_passed outcome))
      (phase_book facts since count own book) facts.turn.doing refl
  step_book facts TurnEnds since count own below book = ended_book facts since count own below book

  books_from : (facts : Facts) (past : List Step) (since : List Note) (count : ℕ) → ArePieces setup facts → IsBookOf most handle fact facts since count
      → IsBookOf most handle fact (fold (facts_after setup) facts past) (fold (note_since handle) since (notes_from setup facts past))
      (empties_from setup handle facts count past)
  books_from facts [] since count are book = book
  books_from facts (step ∷ past) since count are book =
      let notes = notes_after setup facts step in
      let next = facts_after setup facts step in
      let end = fold (facts_after setup) next past in
      subst (λ (all : List Note). IsBookOf most handle fact end all (empties_from setup handle facts count (step ∷ past)))
      (sym (fold-append (note_since handle) since notes (notes_from setup next past)))
      (books_from next past (fold (note_since handle) since notes) (count_given handle facts step (fold (count_since handle) count notes))
      (holds_step setup (ArePieces setup) (ArePieces setup) (pieces_kept setup) facts step are)
      (step_book facts step since count are.own are.below book))

  none_first : (first n : ℕ) → link_from first handle (replicate n None) ≡ None
  none_first first zero = refl
  none_first first (suc n) = at (first == handle) (none_first (first + 1) n)
    where
      at : (test : Bool) → link_from (first + 1) handle (replicate n None) ≡ None → cond test None (link_from (first + 1) handle (replicate n None)) ≡ None
      at true none = refl
      at false none = none

  all_books : (past : List Step)
      → IsBookOf most handle fact (facts_of setup past) (since_opened handle (notes_of setup past)) (empties_of setup handle past)
  unfolding facts_of notes_of empties_of
  all_books past =
      books_from (first_facts setup) past [] 0 (first_pieces setup)
      (subst (λ (place : Option OpenLink). IsBook most handle fact place [] [] 0) (sym (none_first 0 setup.links)) refl)

  of_link : (place : Option OpenLink) (link : OpenLink) (waiting : List (ℕ × Piece)) (since : List Note) (count : ℕ) → place ≡ Some link
      → IsBook most handle fact place waiting since count → (link.setup.link.handle ≡ handle) × fact link.setup link.past waiting since count
  of_link place link waiting since count is book = subst (λ (place : Option OpenLink). IsBook most handle fact place waiting since count) is book

  -- a fact that is kept is true of each link that is open
  pub book_of : (past : List Step) (link : OpenLink) → link_at handle (facts_of setup past).links ≡ Some link
      → (link.setup.link.handle ≡ handle) × fact link.setup link.past (filter (is_piece_on handle) (facts_of setup past).received)
      (since_opened handle (notes_of setup past)) (empties_of setup handle past)
  book_of past link is =
      of_link (link_at handle (facts_of setup past).links) link (filter (is_piece_on handle) (facts_of setup past).received)
      (since_opened handle (notes_of setup past)) (empties_of setup handle past) is (all_books past)

  -- where no link is open nothing waits
  pub none_waits : (past : List Step) → link_at handle (facts_of setup past).links ≡ None
      → filter (is_piece_on handle) (facts_of setup past).received ≡ []
  none_waits past is =
      subst (λ (place : Option OpenLink). IsBook most handle fact place (filter (is_piece_on handle) (facts_of setup past).received)
      (since_opened handle (notes_of setup past)) (empties_of setup handle past)) is (all_books past)
