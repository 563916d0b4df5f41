-- What is noted of the data of a link is noted while the link is open.
use Rattle.std.proofs.Common.{◌≡◌, ℕ, zero, suc, ◌+◌, ◌<◌, ◌≤◌, ◌==◌, Bool, true, false, Option, Some, None, IsSome, List, [], ◌∷◌, ◌++◌, length, map, cond, refl, ap, sym, subst, ◌∙◌, arith}
use Rattle.std.specs.Prelude.{◌&&◌, ◌||◌, filter, nat_lt, ⊤}
use Rattle.std.specs.List.{AllByRecursion, Contains}
use Rattle.std.specs.Option.{option_map}
use Rattle.std.proofs.lemmas.Bool.{eq-eqb, eqb-true}
use Rattle.std.proofs.lemmas.List.Elements.{All-contains, All-from_recursion}
use Rattle.acl_banks.specs.declared.pieces.Piece.{Piece}
use Rattle.ble_base.specs.declared.notes.Note.{Note}
use Rattle.h4_frames.specs.declared.packet.HostPacket.TheVariants.{Command as HostCommand, Acl}
use Rattle.h4_frames.specs.declared.packet.Fed.{Fed}
use Rattle.h4_frames.specs.declared.packet.Fed.TheVariants.{More, Packet, LostSync}
use Rattle.hci_cmd.specs.Command.{command_of}
use Rattle.hci_evt.specs.declared.event.Event.TheVariants.{BufferOverflow, HardwareError}
use Rattle.host_view.specs.Links.{was_encrypted}
use Rattle.host_view.specs.View.{View}
use Rattle.adv_pdu.specs.declared.pdu.AdvPdu.{AdvPdu}
use Rattle.host_view.specs.scan_init.Reports.{ScannerFacts, does_ask, scan_answer}
use Rattle.link_commands.specs.open_links.link_model.declared.setup.LinkSetup.{LinkSetup}
use Rattle.ble_base.specs.declared.error_codes.ErrCode.{ErrCode}
use Rattle.link_commands.specs.open_links.link_model.Facts.{Facts as EndFacts}
use Rattle.link_commands.specs.open_links.link_model.Step.{DataReported, PacketSent, WordsGiven}
use Rattle.link_commands.specs.open_links.link_model.Times.{ending_of}
use Rattle.link_commands.proofs.open_links.link_model.Pasts.{grows}
use Rattle.link_commands.specs.open_links.declared.offers.Offer.TheVariants.{Empty, Overflow, Kept}
use Rattle.link_commands.specs.open_links.Offered.{buffer_octets, completed_by}
use Rattle.link_commands.specs.open_links.Data.{complete_in, completed_from, link_reported, links_reported, offer_by}
use Rattle.link_commands.specs.open_links.OpenLinks.{Links, OpenLink, HasHandle, HaveHandles, link_after, link_at, link_from, with_change}
use Rattle.link_commands.specs.open_links.Turns.{due_in, ending_in, link_entered, place_without, reason_at, staying_by}
use Rattle.link_commands.proofs.open_links.Ends.{stays_where_not_due}
use Rattle.link_commands.proofs.open_links.Handles.{has_its_handle}
use Rattle.link_commands.proofs.open_links.UnderHandles.{map_at}
use Rattle.controller_model.specs.declared.doing.Doing.{Doing}
use Rattle.controller_model.specs.declared.doing.Doing.TheVariants.{Advertises, CentralSends, PeripheralSends}
use Rattle.controller_model.specs.Step.{Step, HostOctet, TurnBegins, PacketHeard, NothingHeard, TurnEnds}
use Rattle.controller_model.specs.Facts.{Setup, Facts}
use Rattle.controller_model.specs.Commands.{facts_commanded, notes_commanded}
use Rattle.controller_model.specs.Data.{event_completed, facts_handed, facts_offered, is_full, note_received, notes_handed, notes_offered, notes_pieces, pieces_handed}
use Rattle.controller_model.specs.Entering.{notes_all_entering}
use Rattle.controller_model.specs.Events.{notes_of_events}
use Rattle.controller_model.specs.Heard.{asks_if, events_received, events_reported, has_room, link_heard, link_received, link_taken, notes_taken, opens, replies_in, reply_if, scanner_after, with_scanner, facts_with_words}
use Rattle.controller_model.specs.Links.{ends_for, events_opened, facts_ending, notes_ending, notes_leaving, notes_opened}
use Rattle.controller_model.specs.Shutting.{StaysIn}
use Rattle.controller_model.specs.Outcome.{facts_passed, notes_passed}
use Rattle.controller_model.specs.Packets.{facts_doing, links_sending, notes_doing, notes_sent}
use Rattle.controller_model.specs.Radio.{outcome_begun}
use Rattle.controller_model.specs.Side.{facts_after, facts_fed, facts_of, notes_after, notes_fed, result_of}
use Rattle.controller_model.specs.Since.{is_data_note, is_piece_on, note_completed}
use Rattle.controller_model.proofs.Handing.{handed_are, none_handed}
use Rattle.controller_model.proofs.Always.{leaving_is, left_doing}
use Rattle.controller_model.proofs.Books.{Fact, IsKeptInBook, by_handle, elsewhere_sent, elsewhere_took}
use Rattle.controller_model.proofs.BookEnds.{reports_apart}
use Rattle.controller_model.proofs.BooksAlways.{none_waits, within}
use Rattle.controller_model.proofs.Handles.{HaveOwnHandles, fixing_opens, handles_kept, mapped_opens, entered_same, receiving_opens, staying_opens, won_opens, words_own}
use Rattle.controller_model.proofs.OtherNotes.{AreOther, IsOther, both_other, command_other, completed_other, data_other, ends_other, entering_other, events_other, opening_other, procedures_other, reporting_other}
use Rattle.controller_model.proofs.Phases.{EachOutcome, heard_is, unheard_is}
use Rattle.controller_model.proofs.PiecesBelow.{AreBelow, all_pieces}
use Rattle.controller_model.proofs.Places.{at_changed, at_received, link_receiving}
use Rattle.controller_model.proofs.ProcedureEvents.{reception_events}

-- a fact that says nothing
abbrev pub AnyFact : Fact
AnyFact setup past waiting since count = ⊤

pub any_kept : (most handle : ℕ) → IsKeptInBook most handle AnyFact
any_kept most handle = record {
  opened = λ setup same. tt;
  other = λ setup past waiting since count note is fact. tt;
  silent = λ setup past waiting since count step is fact. tt;
  sent = λ setup past waiting since count slot same fact. tt;
  received = λ setup past waiting since count slot octets room same fact. tt;
  handed = λ setup past piece waiting since count below same fact. tt;
  reported = λ setup past waiting since count complete below is fact. tt;
  emptied = λ setup past waiting since count below fact. tt;
}

some_of : (change : OpenLink → OpenLink) (place : Option OpenLink) → IsSome (option_map change place) → IsSome place
some_of change None some = absurd cc
some_of change (Some link) some = refl

some_kept : (change : OpenLink → OpenLink) (place : Option OpenLink) → IsSome place → IsSome (option_map change place)
some_kept change None some = absurd cc
some_kept change (Some link) some = refl

-- a place that is empty after a change of the links if it was before has a link before it if it has one then
some_before : (before after : Option OpenLink) → (before ≡ None → after ≡ None) → IsSome after → IsSome before
some_before None after none some = absurd (let empty : after ≡ None = none refl in
    let h : false ≡ true = subst (λ place. IsSome place) empty some in absurd cc)
some_before (Some link) after none some = refl

module _ (handle : ℕ) (setup : Setup) (few : setup.links ≤ 4096) where
  abbrev most : ℕ
  most = setup.links

  -- a note of the data of the link under this handle comes only where it is open in both of these
  abbrev IsOpenIn : Links → Links → Note → Type 0
  IsOpenIn before after note = is_data_note handle note ≡ true → IsSome (link_at handle before) × IsSome (link_at handle after)

  abbrev AreOpenIn : Links → Links → List Note → Type 0
  AreOpenIn before after notes = AllByRecursion (IsOpenIn before after) notes

  both : (before after : Links) (xs ys : List Note) → AreOpenIn before after xs → AreOpenIn before after ys → AreOpenIn before after (xs ++ ys)
  both before after [] ys are also = also
  both before after (x ∷ xs) ys are also = (are.0, both before after xs ys are.1 also)

  not_data : (note : Note) → IsOther most handle note → is_data_note handle note ≡ false
  not_data note other = rw (other.sent_none, other.took_none, other.handed_none few, other.completed_none few) refl

  others : (before after : Links) (notes : List Note) → AreOther most handle notes → AreOpenIn before after notes
  others before after [] are = tt
  others before after (note ∷ notes) are =
      ((λ is. absurd (let h : true ≡ false = sym is ∙ not_data note are.0 in absurd cc)), others before after notes are.1)

  any : (before after : Links) (notes : List Note) → IsSome (link_at handle before) → IsSome (link_at handle after) → AreOpenIn before after notes
  any before after [] some also = tt
  any before after (note ∷ notes) some also = ((λ is. (some, also)), any before after notes some also)

  -- where a link is open in some links, it is open in these too
  lifted : (mid before after : Links) (notes : List Note) → (IsSome (link_at handle mid) → IsSome (link_at handle before))
      → (IsSome (link_at handle mid) → IsSome (link_at handle after)) → AreOpenIn mid mid notes → AreOpenIn before after notes
  lifted mid before after [] first last are = tt
  lifted mid before after (note ∷ notes) first last are =
      ((λ is. (first (are.0 is).0, last (are.0 is).1)), lifted mid before after notes first last are.1)

  opened_before : (mid before after : Links) (notes : List Note) → (IsSome (link_at handle mid) → IsSome (link_at handle before))
      → AreOpenIn mid after notes → AreOpenIn before after notes
  opened_before mid before after [] back are = tt
  opened_before mid before after (note ∷ notes) back are =
      ((λ is. (back (are.0 is).0, (are.0 is).1)), opened_before mid before after notes back are.1)

  some_unchanged : (other : ℕ) (change : OpenLink → OpenLink) (links : Links) → IsSome (link_at handle (with_change other change links))
      → IsSome (link_at handle links)
  some_unchanged other change links =
      at_changed (λ (place : Option OpenLink). IsSome place → IsSome (link_at handle links)) other handle change links (λ some. some)
      (λ same. some_of change (link_at handle links))

  some_changed : (other : ℕ) (change : OpenLink → OpenLink) (links : Links) → IsSome (link_at handle links)
      → IsSome (link_at handle (with_change other change links))
  some_changed other change links some =
      at_changed (λ (place : Option OpenLink). IsSome place) other handle change links some (λ same. some_kept change (link_at handle links) some)

  some_received : (other : ℕ) (room : Bool) (octets : List ℕ) (facts : Facts) → IsSome (link_at handle facts.links)
      → IsSome (link_at handle (link_received other room octets facts).links)
  some_received other room octets facts some =
      at_received (λ (place : Option OpenLink). IsSome place) other handle room octets facts some
      (λ same. some_kept (link_receiving other room octets facts) (link_at handle facts.links) some)

  -- ---- what is sent and what is taken

  sent_in : (slot other : ℕ) (links : Links) (place : Option OpenLink) → HaveHandles 0 links → link_at other links ≡ place
      → AreOpenIn links links (notes_sent slot place)
  sent_in slot other links None have is = tt
  sent_in slot other links (Some link) have is =
      let notes = notes_sent slot (Some link) in
      by_handle other handle
      (λ same.
      let some = subst (λ (found : Option OpenLink). IsSome found) (sym (subst (λ n. link_at n links ≡ Some link) same is)) refl in
      any links links notes some some)
      (λ differs.
      others links links notes
      (elsewhere_sent most handle AnyFact (any_kept most handle) slot (Some link) other (subst (λ (found : Option OpenLink). HasHandle other found) is (has_its_handle 0 other links have)) differs))

  taken_in : (slot : ℕ) (room : Bool) (octets : List ℕ) (other : ℕ) (links : Links) (place : Option OpenLink) → HaveHandles 0 links
      → link_at other links ≡ place → AreOpenIn links links (notes_taken slot room place octets)
  taken_in slot room octets other links None have is = tt
  taken_in slot room octets other links (Some link) have is =
      let notes = notes_taken slot room (Some link) octets in
      by_handle other handle
      (λ same.
      let some = subst (λ (found : Option OpenLink). IsSome found) (sym (subst (λ n. link_at n links ≡ Some link) same is)) refl in
      any links links notes some some)
      (λ differs.
      others links links notes
      (elsewhere_took most handle AnyFact (any_kept most handle) slot room octets (Some link) other (subst (λ (found : Option OpenLink). HasHandle other found) is (has_its_handle 0 other links have)) differs))

  doing_in : (doing : Doing) (facts : Facts) → HaveHandles 0 facts.links → AreOpenIn facts.links facts.links (notes_doing doing facts)
  doing_in (CentralSends other) facts have = sent_in facts.turn.slot other facts.links (link_at other facts.links) have refl
  doing_in (PeripheralSends other) facts have = sent_in facts.turn.slot other facts.links (link_at other facts.links) have refl
  doing_in (Advertises channel) facts have = tt
  doing_in other facts have = tt

  some_sending : (slot : ℕ) (doing : Doing) (links : Links) → IsSome (link_at handle links) → IsSome (link_at handle (links_sending slot doing links))
  some_sending slot (CentralSends other) links some = some_changed other (link_after (PacketSent slot)) links some
  some_sending slot (PeripheralSends other) links some = some_changed other (link_after (PacketSent slot)) links some
  some_sending slot (Advertises channel) links some = some
  some_sending slot other links some = some

  -- what is noted as a turn or a phase goes on to what is done next
  passing_in : (before : Links) (doing : Doing) (facts : Facts) → (link_at handle before ≡ None → link_at handle facts.links ≡ None)
      → HaveHandles 0 facts.links → AreOpenIn before (facts_doing doing facts).links (notes_doing doing facts)
  passing_in before doing facts none have =
      lifted facts.links before (links_sending facts.turn.slot doing facts.links) (notes_doing doing facts)
      (some_before (link_at handle before) (link_at handle facts.links) none) (some_sending facts.turn.slot doing facts.links)
      (doing_in doing facts have)

  -- ---- a turn begins

  record IsLeft (before : Links) (facts : Facts) : Type 0 where
    pub own : HaveOwnHandles setup facts
    pub none : link_at handle before ≡ None → link_at handle facts.links ≡ None

  begun_in : (slot : ℕ) (on : Bool) (facts : Facts) → HaveOwnHandles setup facts
      → AreOpenIn facts.links (facts_doing (outcome_begun slot on facts).next (outcome_begun slot on facts).facts).links
      (notes_doing (outcome_begun slot on facts).next (outcome_begun slot on facts).facts)
  begun_in slot on facts own =
      let starts = (handles_kept setup).turns.starts in
      let before = facts.links in
      left_doing (IsLeft before)
      (λ reason facts left. record {
        own = starts.ends reason facts left.own;
        none = λ is. (staying_opens reason facts.links).free handle (left.none is);
      })
      (λ slot facts left. record { own = starts.begins slot facts left.own; none = left.none })
      (λ slot facts left. record {
        own = starts.enters slot facts left.own;
        none = λ is. (mapped_opens (link_entered slot) facts.links (entered_same slot)).free handle (left.none is);
      })
      (λ slot activity facts left. record {
        own = starts.wins slot activity facts left.own;
        none = λ is. (won_opens slot activity facts.links).free handle (left.none is);
      })
      (λ doing facts left. record {
        own = starts.fixes doing facts left.own;
        none = λ is. (fixing_opens doing facts.links).free handle (left.none is);
      })
      (λ doing facts. AreOpenIn before (facts_doing doing facts).links (notes_doing doing facts))
      (λ doing facts may left. passing_in before doing facts left.none left.own.handles)
      slot on facts (record { own = own; none = λ is. is })

  turn_in : (slot : ℕ) (on : Bool) (facts : Facts) → HaveOwnHandles setup facts
      → AreOpenIn facts.links (facts_passed (outcome_begun slot on facts)).links (notes_passed (outcome_begun slot on facts))
  turn_in slot on facts own =
      let after = (facts_passed (outcome_begun slot on facts)).links in
      let ending = notes_ending slot facts in
      let ended = facts_ending slot facts in
      let entering = notes_all_entering ended.view slot 0 ended.links in
      both facts.links after (ending ++ entering) (notes_doing (outcome_begun slot on facts).next (outcome_begun slot on facts).facts)
      (others facts.links after (ending ++ entering)
      (both_other most handle ending entering (ends_other most handle facts.view (ends_for (due_in slot) facts))
      (entering_other most handle ended.view slot 0 ended.links)))
      (begun_in slot on facts own)

  -- ---- a phase

  opened_in : (link : LinkSetup) (facts : Facts) (after : Links) → AreOpenIn facts.links after (notes_opened facts.view link ++ [])
  opened_in link facts after =
      let events = notes_of_events facts.view (events_opened facts.view link) in (
        (λ is. absurd (let h : false ≡ true = is in absurd cc)),
        both facts.links after events [] (others facts.links after events (opening_other most handle facts.view link)) tt,
      )

  scanned_in : (asks : Bool) (channel : ℕ) (pdu : AdvPdu) (on : ScannerFacts) (facts : Facts) → HaveOwnHandles setup facts
      → let answer = scan_answer on.params facts.view.accepted on.recent pdu in
      let after = with_scanner (scanner_after on facts.view.accepted pdu) facts in
      let next = asks_if (asks && does_ask answer) channel pdu in
      AreOpenIn facts.links (facts_doing next after).links (notes_of_events facts.view (events_reported answer pdu) ++ notes_doing next after)
  scanned_in asks channel pdu on facts own =
      let answer = scan_answer on.params facts.view.accepted on.recent pdu in
      let after = with_scanner (scanner_after on facts.view.accepted pdu) facts in
      let next = asks_if (asks && does_ask answer) channel pdu in
      let notes = notes_of_events facts.view (events_reported answer pdu) in
      both facts.links (facts_doing next after).links notes (notes_doing next after)
      (others facts.links (facts_doing next after).links notes (reporting_other most handle answer pdu facts.view))
      (passing_in facts.links next after (λ is. is) own.handles)

  heard_in : (other : ℕ) (octets : List ℕ) (facts : Facts) → HaveOwnHandles setup facts
      → AreOpenIn facts.links (facts_passed (link_heard setup other octets facts)).links (notes_passed (link_heard setup other octets facts))
  heard_in other octets facts own =
      let slot = facts.turn.slot in
      let room = has_room setup facts in
      let place = link_at other facts.links in
      let next = reply_if (replies_in slot room place octets) other in
      let mid = link_received other room octets facts in
      let opens = receiving_opens other room octets facts in
      let taken = notes_taken slot room place octets in
      let events = events_received (was_encrypted other facts.view.links) other slot room place octets in
      let told = notes_of_events facts.view events in
      both facts.links (facts_doing next mid).links (taken ++ told) (notes_doing next mid)
      (both facts.links (facts_doing next mid).links taken told
      (lifted facts.links facts.links (facts_doing next mid).links taken (λ some. some)
      (λ some. some_sending slot next mid.links (some_received other room octets facts some))
      (taken_in slot room octets other facts.links place own.handles refl))
      (others facts.links (facts_doing next mid).links told
      (procedures_other most handle facts.view events (reception_events (was_encrypted other facts.view.links) other slot room place octets))))
      (passing_in facts.links next mid (λ is. opens.free handle is) (opens.handles own.handles))

  phase_in : (facts : Facts) → HaveOwnHandles setup facts
      → EachOutcome setup facts (λ outcome. AreOpenIn facts.links (facts_passed outcome).links (notes_passed outcome))
  phase_in facts own = record {
    rests = tt;
    awaits_request = λ channel doing. tt;
    awaits_response = λ channel advertiser doing. tt;
    central_listens = λ other doing. tt;
    sent = λ channel link doing. opened_in link facts (facts_passed (opens link facts)).links;
    responds = λ channel on doing is_on. tt;
    taken = λ channel octets pdu on fields other is_on hears takes free.
        let link = link_taken facts.view on.params.own pdu fields other in
        opened_in link facts (facts_passed (opens link facts)).links;
    scanned = λ channel octets pdu on doing is_on hears. scanned_in true channel pdu on facts own;
    answered = λ channel octets pdu on doing is_on hears. scanned_in false channel pdu on facts own;
    connects = λ channel octets pdu on access other doing is_on hears answers next free in_range. tt;
    received = λ other octets. heard_in other octets facts own;
  }

  -- ---- a turn ends

  none_on : (piece : ℕ × Piece) (received : List (ℕ × Piece)) → filter (is_piece_on handle) (piece ∷ received) ≡ [] → (piece.0 == handle) ≡ false
  none_on piece received is = at (piece.0 == handle) is
    where
      at : (here : Bool) → cond here (piece ∷ filter (is_piece_on handle) received) (filter (is_piece_on handle) received) ≡ [] → here ≡ false
      at true is = absurd cc
      at false is = refl

  pieces_other : (received : List (ℕ × Piece)) → AreBelow most received → filter (is_piece_on handle) received ≡ []
      → AreOther most handle (map note_received received)
  pieces_other [] below none = tt
  pieces_other (piece ∷ received) below none =
      let is = none_on piece received none in (
        data_other most handle piece below.0 (λ same. absurd (let h : true ≡ false = sym (eq-eqb piece.0 handle same) ∙ is in absurd cc)),
        pieces_other received below.1
            (sym (ap (λ (here : Bool). cond here (piece ∷ filter (is_piece_on handle) received) (filter (is_piece_on handle) received)) is) ∙ none),
      )

  reports_other : (view : View) (first : ℕ) (links : Links) → first + length links ≤ most → link_from first handle links ≡ None
      → AreOther most handle (notes_of_events view (map event_completed (completed_from first links)))
  reports_other view first [] room none = tt
  reports_other view first (None ∷ links) room none =
      at (first == handle) refl none (reports_other view (first + 1) links (omega (arith, room)))
    where
      at : (test : Bool) → (first == handle) ≡ test → cond test None (link_from (first + 1) handle links) ≡ None
          → (link_from (first + 1) handle links ≡ None
          → AreOther most handle (notes_of_events view (map event_completed (completed_from (first + 1) links))))
          → AreOther most handle (notes_of_events view (map event_completed (completed_from (first + 1) links)))
      at true e none later =
          reports_apart most handle AnyFact (any_kept most handle) view (first + 1) links
          (let same = eqb-true first handle e in omega (arith, same)) (omega (arith, room))
      at false e none later = later none
  reports_other view first (Some link ∷ links) room none =
      at (complete_in link) (first == handle) refl none (reports_other view (first + 1) links (omega (arith, room)))
    where
      at : (complete : ℕ) (test : Bool) → (first == handle) ≡ test → cond test (Some link) (link_from (first + 1) handle links) ≡ None
          → (link_from (first + 1) handle links ≡ None
          → AreOther most handle (notes_of_events view (map event_completed (completed_from (first + 1) links))))
          → AreOther most handle (notes_of_events view (map event_completed (completed_by first complete ++ completed_from (first + 1) links)))
      at complete true e none later = absurd cc
      at zero false e none later = later none
      at (suc complete) false e none later = (
        completed_other most handle first (suc complete) (omega (arith, room))
            (λ same. absurd (let h : true ≡ false = sym (eq-eqb first handle same) ∙ e in absurd cc)),
        later none,
      )

  handed_by : (place : Option OpenLink) (facts : Facts) (after : Links) → HaveOwnHandles setup facts → AreBelow most facts.received
      → (link_at handle facts.links ≡ None → filter (is_piece_on handle) facts.received ≡ []) → link_at handle facts.links ≡ place
      → (IsSome (link_at handle facts.links) → IsSome (link_at handle after)) → AreOpenIn facts.links after (notes_handed facts)
  handed_by None facts after own below waits is stays =
      let reports = notes_of_events facts.view (map event_completed (completed_from 0 facts.links)) in
      others facts.links after (notes_handed facts)
      (both_other most handle (notes_pieces facts) reports
      (pieces_other (pieces_handed facts) (handed_are (λ (piece : ℕ × Piece). piece.0 < most) facts.view facts.received below)
      (none_handed (is_piece_on handle) facts.view facts.received (waits is)))
      (reports_other facts.view 0 facts.links (omega (arith, own.many)) is))
  handed_by (Some link) facts after own below waits is stays =
      let some = subst (λ (found : Option OpenLink). IsSome found) (sym is) refl in
      any facts.links after (notes_handed facts) some (stays some)

  some_reported : (first : ℕ) (links : Links) → IsSome (link_from first handle links) → IsSome (link_from first handle (links_reported links))
  some_reported first [] some = some
  some_reported first (place ∷ links) some = at (first == handle) some (some_reported (first + 1) links)
    where
      at : (test : Bool) → IsSome (cond test place (link_from (first + 1) handle links))
          → (IsSome (link_from (first + 1) handle links) → IsSome (link_from (first + 1) handle (links_reported links)))
          → IsSome (cond test (option_map link_reported place) (link_from (first + 1) handle (links_reported links)))
      at true some later = some_kept link_reported place some
      at false some later = later some

  -- ---- an octet of the host

  empty_in : (other : ℕ) (link : OpenLink) (links : Links) → length links ≡ most → link_at other links ≡ Some link
      → AreOpenIn links links (note_completed other 1 ∷ [])
  empty_in other link links many is =
      by_handle other handle
      (λ same.
      let some = subst (λ (found : Option OpenLink). IsSome found) (sym (subst (λ n. link_at n links ≡ Some link) same is)) refl in
      any links links (note_completed other 1 ∷ []) some some)
      (λ differs.
      let below : other < most = let room = within 0 links other link is in omega (arith, room, many) in
      others links links (note_completed other 1 ∷ []) (completed_other most handle other 1 below differs, tt))

  offered_if : (none refused start : Bool) (other : ℕ) (body : List ℕ) (link : OpenLink) (facts : Facts) → HaveOwnHandles setup facts
      → link_at other facts.links ≡ Some link
      → let offer = cond none Empty (cond refused Overflow Kept) in
      AreOpenIn facts.links (facts_offered offer other start body facts).links (notes_offered facts.view offer other)
  offered_if true refused start other body link facts own is = empty_in other link facts.links own.many is
  offered_if false true start other body link facts own is =
      others facts.links facts.links (notes_offered facts.view Overflow other)
      (events_other most handle facts.view (BufferOverflow 1 ∷ []) (tt, tt))
  offered_if false false start other body link facts own is = tt

  offered_in : (place : Option OpenLink) (other octets : ℕ) (full start : Bool) (body : List ℕ) (facts : Facts) → HaveOwnHandles setup facts
      → link_at other facts.links ≡ place
      → let offer = offer_by place octets full in
      AreOpenIn facts.links (facts_offered offer other start body facts).links (notes_offered facts.view offer other)
  offered_in None other octets full start body facts own is = tt
  offered_in (Some link) other octets full start body facts own is =
      offered_if (octets == 0) (nat_lt buffer_octets octets || full) start other body link facts own is

  fed_in : (facts : Facts) (fed : Fed) → HaveOwnHandles setup facts → AreOpenIn facts.links (facts_fed setup facts fed).links (notes_fed setup facts fed)
  fed_in facts (Packet (HostCommand opcode body)) own =
      let read = command_of opcode body.items in
      others facts.links (facts_commanded setup facts read).links (notes_commanded setup facts opcode read)
      (command_other most handle setup facts opcode read)
  fed_in facts (Packet (Acl other start octets body)) own =
      offered_in (link_at other facts.links) other octets (is_full setup facts) start body.items facts own refl
  fed_in facts LostSync own =
      others facts.links facts.links (notes_of_events facts.view (HardwareError 0x01 ∷ []))
      (events_other most handle facts.view (HardwareError 0x01 ∷ []) (tt, tt))
  fed_in facts More own = tt

  -- what an end is given opens no link and shuts none
  words_in : (other : ℕ) (octets : List ℕ) (facts : Facts) → HaveOwnHandles setup facts
      → let outcome = link_heard setup other octets (facts_with_words setup other facts) in
      AreOpenIn facts.links (facts_passed outcome).links (notes_passed outcome)
  words_in other octets facts own =
      let outcome = link_heard setup other octets (facts_with_words setup other facts) in
      opened_before (facts_with_words setup other facts).links facts.links (facts_passed outcome).links (notes_passed outcome)
      (some_unchanged other (link_after (WordsGiven _ _)) facts.links)
      (heard_in other octets (facts_with_words setup other facts) (words_own setup other facts own))

  -- ---- each step

  -- the links after a step; as a turn ends, those before some of them end
  abbrev links_kept : Facts → Step → Links
  links_kept facts TurnEnds = (facts_handed facts).links
  links_kept facts step = (facts_after setup facts step).links

  step_in : (facts : Facts) (step : Step) → HaveOwnHandles setup facts → AreBelow most facts.received
      → (link_at handle facts.links ≡ None → filter (is_piece_on handle) facts.received ≡ [])
      → AreOpenIn facts.links (links_kept facts step) (notes_after setup facts step)
  step_in facts (HostOctet octet) own below waits = fed_in facts (result_of facts.octets octet) own
  step_in facts (TurnBegins slot on) own below waits = turn_in slot on facts own
  step_in facts (PacketHeard octets) own below waits =
      heard_is setup facts (λ outcome. AreOpenIn facts.links (facts_passed outcome).links (notes_passed outcome)) (phase_in facts own)
      facts.turn.doing octets refl (λ other. words_in other octets facts own)
  step_in facts NothingHeard own below waits =
      unheard_is setup facts (λ outcome. AreOpenIn facts.links (facts_passed outcome).links (notes_passed outcome)) (phase_in facts own)
      facts.turn.doing refl
  step_in facts TurnEnds own below waits =
      let handed = facts_handed facts in
      both facts.links handed.links (notes_handed facts) (notes_leaving handed)
      (handed_by (link_at handle facts.links) facts handed.links own below waits refl (some_reported 0 facts.links))
      (others facts.links handed.links (notes_leaving handed) (ends_other most handle handed.view (ends_for ending_in handed)))

  -- a link that is not to end as the turn ends stays open
  reported_stays : (reports : Bool) (link : OpenLink)
      → ending_in (cond reports (link_after DataReported link) link) ≡ ending_in link
  reported_stays true link =
      ap (λ (facts : EndFacts). option_map (λ (code : ErrCode). code.0) (ending_of facts)) (grows link.setup link.past DataReported)
  reported_stays false link = refl

  stays_by : (place : Option OpenLink) → reason_at ending_in place ≡ None → IsSome place
      → IsSome (place_without ending_in (option_map link_reported place))
  stays_by None none some = some
  stays_by (Some link) none some =
      subst (λ (reason : Option ℕ). IsSome (staying_by reason (link_reported link)))
      (sym (reported_stays (nat_lt 0 (complete_in link)) link ∙ none)) refl

  stays_in : (facts : Facts) → reason_at ending_in (link_at handle facts.links) ≡ None → IsSome (link_at handle facts.links)
      → IsSome (link_at handle (facts_after setup facts TurnEnds).links)
  stays_in facts none some =
      let links = links_reported facts.links in
      subst (λ (next : Facts). IsSome (link_at handle next.links)) (sym (leaving_is (facts_handed facts)))
      (subst (λ (place : Option OpenLink). IsSome place) (sym (stays_where_not_due ending_in 0 handle links))
      (subst (λ (place : Option OpenLink). IsSome (place_without ending_in place)) (sym (map_at (option_map link_reported) 0 handle facts.links refl))
      (stays_by (link_at handle facts.links) none some)))

  stays_open : (facts : Facts) (step : Step) → StaysIn facts step handle → IsSome (link_at handle facts.links)
      → IsSome (link_at handle (links_kept facts step)) → IsSome (link_at handle (facts_after setup facts step).links)
  stays_open facts TurnEnds stays some also = stays_in facts (stays refl) some
  stays_open facts step stays some also = also

open_in : (setup : Setup) (past : List Step) (step : Step) (note : Note) (handle : ℕ) (few : setup.links ≤ 4096)
    → Contains (notes_after setup (facts_of setup past) step) note
    → IsOpenIn handle setup few (facts_of setup past).links (links_kept handle setup few (facts_of setup past) step) note
open_in setup past step note handle few noted =
    let facts = facts_of setup past in
    let P = IsOpenIn handle setup few facts.links (links_kept handle setup few facts step) in
    let pieces = all_pieces setup past in
    All-contains P (notes_after setup facts step) note
    (All-from_recursion P (notes_after setup facts step)
    (step_in handle setup few facts step pieces.own pieces.below
    (none_waits handle AnyFact setup (any_kept setup.links handle) past)))
    noted

pub open_before : (setup : Setup) (past : List Step) (step : Step) (note : Note) (handle : ℕ) → setup.links ≤ 4096
    → Contains (notes_after setup (facts_of setup past) step) note → is_data_note handle note ≡ true
    → IsSome (link_at handle (facts_of setup past).links)
open_before setup past step note handle few noted is = (open_in setup past step note handle few noted is).0

pub open_after : (setup : Setup) (past : List Step) (step : Step) (note : Note) (handle : ℕ) → setup.links ≤ 4096
    → Contains (notes_after setup (facts_of setup past) step) note → is_data_note handle note ≡ true
    → StaysIn (facts_of setup past) step handle
    → IsSome (link_at handle (facts_after setup (facts_of setup past) step).links)
open_after setup past step note handle few noted is stays =
    let both = open_in setup past step note handle few noted is in
    stays_open handle setup few (facts_of setup past) step stays both.0 both.1
