-- What is noted in turns, note by note: links that are opened, enter events and are shut, and events for the host.
use Rattle.std.proofs.Common.{◌≡◌, ℕ, ◌+◌, ◌<◌, ◌≤◌, Bool, true, false, Option, Some, None, List, [], ◌∷◌, ◌++◌, length, map, cond, refl, sym, subst, ◌∙◌, arith}
use Rattle.std.specs.Prelude.{◌&&◌, All, IfSome, ⊤, flat_map}
use Rattle.std.proofs.lemmas.List.Elements.{All-append, All-cons, All-from_recursion, All-nil}
use Rattle.acl_banks.specs.declared.pieces.Piece.{Piece}
use Rattle.ble_base.specs.declared.error_codes.ErrCode.{ErrCode}
use Rattle.ble_base.specs.declared.notes.Note.{Note}
use Rattle.ble_base.specs.declared.notes.Note.TheVariants.{Up, Applied, Began, Done, Enter, Refused, Sent, Took}
use Rattle.ble_base.specs.declared.procedure_kinds.Kind.{Kind}
use Rattle.adv_pdu.specs.declared.pdu.AdvPdu.{AdvPdu}
use Rattle.hci_evt.specs.declared.event.Event.{Event}
use Rattle.hci_evt.specs.declared.event.Event.TheVariants.{DisconnectionComplete, CompletedPackets, ConnectionComplete, AdvertisingReport, EnhancedConnection, ChannelSelection}
use Rattle.hci_evt.specs.Event.{mask_bit_of, written}
use Rattle.host_view.specs.Links.{was_encrypted}
use Rattle.host_view.specs.View.{View}
use Rattle.link_commands.specs.open_links.link_model.declared.setup.LinkSetup.{LinkSetup}
use Rattle.link_commands.specs.open_links.link_model.Packets.{good_pdu}
use Rattle.host_view.specs.scan_init.declared.reports.ReportKind.{ReportKind}
use Rattle.host_view.specs.scan_init.declared.scanner.ScanAnswer.{ScanAnswer}
use Rattle.host_view.specs.scan_init.Reports.{does_ask, kind_of, scan_answer}
use Rattle.link_commands.specs.open_links.declared.ended.LinkEnded.{LinkEnded}
use Rattle.link_commands.specs.open_links.declared.offers.Completed.{Completed}
use Rattle.link_commands.specs.open_links.Data.{completed_from, link_reported, links_reported}
use Rattle.link_commands.specs.open_links.OpenLinks.{Links, OpenLink, HaveHandles, facts_in, handles_from, link_at}
use Rattle.link_commands.specs.open_links.Ended.{end_by}
use Rattle.link_commands.specs.open_links.Turns.{due_in, ending_in, ends_by, links_without}
use Rattle.controller_model.specs.Step.{Step, HostOctet, TurnBegins, PacketHeard, NothingHeard, TurnEnds}
use Rattle.controller_model.specs.Facts.{Setup, Facts}
use Rattle.controller_model.specs.Events.{notes_of_events, passes}
use Rattle.controller_model.specs.declared.doing.Doing.{Doing}
use Rattle.controller_model.specs.declared.doing.Doing.TheVariants.{Advertises, CentralSends, PeripheralSends}
use Rattle.controller_model.specs.Data.{event_completed, facts_handed, note_received, notes_handed, notes_pieces, pieces_handed}
use Rattle.controller_model.specs.Entering.{notes_all_entering}
use Rattle.controller_model.specs.Heard.{asks_if, does_report, events_received, events_reported, has_room, link_received, link_taken, notes_taken, replies_in, reply_if, report_event, report_events, scanner_after, with_scanner, facts_with_words}
use Rattle.controller_model.specs.Links.{connection_complete, facts_ending, note_opened, note_shut, notes_ended, notes_ending, notes_leaving, notes_opened, wants_enhanced}
use Rattle.controller_model.specs.Outcome.{notes_passed}
use Rattle.controller_model.specs.Packets.{notes_doing, notes_sent}
use Rattle.controller_model.specs.Side.{notes_after}
use Rattle.controller_model.proofs.Always.{IsInTurn, begun_doing, ending_is, facts_ended}
use Rattle.controller_model.proofs.EndNotes.{entered_each, received_each, sent_each}
use Rattle.controller_model.proofs.Handles.{HaveOwnHandles, IsNew, below_at, free_is_new, handles_kept, mapped_opens, receiving_opens, reported_same, words_own}
use Rattle.controller_model.proofs.LinkNotes.{all_in, entering_too, procedures_too}
use Rattle.controller_model.proofs.Phases.{EachOutcome, heard_is, unheard_is}
use Rattle.controller_model.proofs.ProcedureEvents.{IsOfProcedure, reception_events}

-- the events that a turn can cause
abbrev pub IsOfTurn : Event → Type 0
IsOfTurn (DisconnectionComplete status handle reason) = ⊤
IsOfTurn (CompletedPackets handle count) = ⊤
IsOfTurn (ConnectionComplete status handle role peer_kind peer interval latency timeout accuracy) = ⊤
IsOfTurn (AdvertisingReport kind address_kind address report rssi) = ⊤
IsOfTurn (EnhancedConnection status handle role peer_kind peer local other interval latency timeout accuracy) = ⊤
IsOfTurn (ChannelSelection handle algorithm) = ⊤
IsOfTurn other = IsOfProcedure other

-- a fact of each note of a turn
pub record EachNote (most : ℕ) (P : Note → Type 0) : Type 0 where
  pub up : (event : Event) → IsOfTurn event → P (Up (record { items = written event }))
  pub received : (piece : ℕ × Piece) → P (note_received piece)
  pub opened : (link : LinkSetup) → link.handle < most → P (note_opened link)
  pub shut : (handle reason : ℕ) → handle < most → P (note_shut handle reason)
  pub entered : (handle event channel : ℕ) → handle < most → P (Enter handle (record { 0 = event }) channel)
  pub applied : (handle number event : ℕ) → handle < most → P (Applied handle number (record { 0 = event }))
  pub began : (handle : ℕ) (kind : Kind) → handle < most → P (Began handle kind)
  pub refused : (handle : ℕ) (kind : Kind) (code : ErrCode) → handle < most → P (Refused handle kind code)
  pub done : (handle : ℕ) (kind : Kind) → handle < most → P (Done handle kind)
  pub sent : (handle number llid : ℕ) (octets : List ℕ) → handle < most → P (Sent handle number llid (record { items = octets }))
  pub took : (handle number llid : ℕ) (octets : List ℕ) → handle < most → P (Took handle number llid (record { items = octets }))

of_turn : (event : Event) → IsOfProcedure event → IsOfTurn event
of_turn (DisconnectionComplete status handle reason) is = absurd is
of_turn (CompletedPackets handle count) is = absurd is
of_turn (ConnectionComplete status handle role peer_kind peer interval latency timeout accuracy) is = absurd is
of_turn (AdvertisingReport kind address_kind address report rssi) is = absurd is
of_turn (EnhancedConnection status handle role peer_kind peer local other interval latency timeout accuracy) is = absurd is
of_turn (ChannelSelection handle algorithm) is = absurd is
of_turn other is = is

module _ (most : ℕ) (P : Note → Type 0) (each : EachNote most P) where
  both : (xs ys : List Note) → All P xs → All P ys → All P (xs ++ ys)
  both xs ys = All-append P xs ys

  -- ---- events

  one_event : (passed : Bool) (event : Event) → IsOfTurn event
      → All P (map (λ event. Up (record { items = written event })) (cond passed (event ∷ []) []))
  one_event true event is = All-cons P _ [] (each.up event is) (All-nil P)
  one_event false event is = All-nil P

  pub event_noted : (view : View) (event : Event) → IsOfTurn event → All P (notes_of_events view (event ∷ []))
  event_noted view event is = one_event (passes view (mask_bit_of event)) event is

  two_events : (passed later : Bool) (event other : Event) → IsOfTurn event → IsOfTurn other
      → All P (map (λ event. Up (record { items = written event }))
      (cond passed (event ∷ cond later (other ∷ []) []) (cond later (other ∷ []) [])))
  two_events true later event other is also = All-cons P _ _ (each.up event is) (one_event later other also)
  two_events false later event other is also = one_event later other also

  -- ---- links that end

  pub shut_noted : (first : ℕ) (links : Links) → first + length links ≤ most
      → All P (map (λ handle. note_shut handle 0) (handles_from first links))
  shut_noted first [] room = All-nil P
  shut_noted first (None ∷ links) room = shut_noted (first + 1) links (omega arith)
  shut_noted first (Some link ∷ links) room =
      All-cons P _ _ (each.shut first 0 (omega arith)) (shut_noted (first + 1) links (omega arith))

  end_noted : (view : View) (handle : ℕ) (reason : Option ℕ) (others : List LinkEnded) → handle < most
      → All P (flat_map (notes_ended view) others) → All P (flat_map (notes_ended view) (end_by handle reason ++ others))
  end_noted view handle None others below noted = noted
  end_noted view handle (Some reason) others below noted =
      both (notes_ended view (record { handle = handle; reason = record { 0 = reason } })) (flat_map (notes_ended view) others)
      (All-cons P _ _ (each.shut handle reason below) (event_noted view (DisconnectionComplete 0 handle reason) tt)) noted

  ends_noted : (view : View) (reason : OpenLink → Option ℕ) (first : ℕ) (links : Links) → first + length links ≤ most
      → All P (flat_map (notes_ended view) (ends_by reason first links))
  ends_noted view reason first [] room = All-nil P
  ends_noted view reason first (None ∷ links) room = ends_noted view reason (first + 1) links (omega arith)
  ends_noted view reason first (Some link ∷ links) room =
      end_noted view first (reason link) (ends_by reason (first + 1) links) (omega arith)
      (ends_noted view reason (first + 1) links (omega arith))

  below_most : (handle : ℕ) (links : Links) → HaveHandles 0 links → length links ≡ most
      → IfSome (link_at handle links) (λ link. link.setup.link.handle < most)
  below_most handle links have many =
      subst (λ n. IfSome (link_at handle links) (λ link. link.setup.link.handle < n)) (let same : 0 + length links ≡ most = omega (arith, many) in same)
      (below_at handle links have)

  -- ---- links that enter an event

  entering_noted : (view : View) (slot : ℕ) (links : Links) → HaveHandles 0 links → length links ≡ most
      → All P (notes_all_entering view slot 0 (links_without (due_in slot) links))
  entering_noted view slot links have many =
      entering_too P (λ event is. each.up event (of_turn event is)) slot links
      (λ handle link has is_open stays enters.
      let own = link.setup.link.handle in
      let below : own < most = subst (λ found. IfSome found (λ link. link.setup.link.handle < most)) is_open (below_most handle links have many) in
      entered_each P link.setup slot (facts_in link) (record {
        applied = λ number. each.applied own number _ below;
        enter = each.entered own _ _ below;
        done = λ kind. each.done own kind below;
        began = λ kind. each.began own kind below;
      }))
      view 0 links have (all_in links)

  -- ---- data

  sent_noted : (slot : ℕ) (found : Option OpenLink) → IfSome found (λ link. link.setup.link.handle < most) → All P (notes_sent slot found)
  sent_noted slot None below = All-nil P
  sent_noted slot (Some link) below =
      All-from_recursion P _
      (sent_each P link.setup (facts_in link) (λ number llid octets. each.sent link.setup.link.handle number llid octets below))

  took_noted : (slot : ℕ) (room : Bool) (found : Option OpenLink) (octets : List ℕ) → IfSome found (λ link. link.setup.link.handle < most)
      → All P (notes_taken slot room found octets)
  took_noted slot room None octets below = All-nil P
  took_noted slot room (Some link) octets below =
      let handle = link.setup.link.handle in
      All-from_recursion P _
      (received_each P link.setup slot room (good_pdu link.setup (facts_in link) octets) (facts_in link) (record {
        took = λ number llid octets. each.took handle number llid octets below;
        refused = λ kind code. each.refused handle kind code below;
        done = λ kind. each.done handle kind below;
      }))

  doing_noted : (doing : Doing) (facts : Facts) → HaveHandles 0 facts.links → length facts.links ≡ most → All P (notes_doing doing facts)
  doing_noted (CentralSends handle) facts have many =
      sent_noted facts.turn.slot (link_at handle facts.links) (below_most handle facts.links have many)
  doing_noted (PeripheralSends handle) facts have many =
      sent_noted facts.turn.slot (link_at handle facts.links) (below_most handle facts.links have many)
  doing_noted (Advertises channel) facts have many = All-nil P
  doing_noted other facts have many = All-nil P

  pieces_noted : (pieces : List (ℕ × Piece)) → All P (map note_received pieces)
  pieces_noted [] = All-nil P
  pieces_noted (piece ∷ pieces) = All-cons P _ _ (each.received piece) (pieces_noted pieces)

  completed_noted : (view : View) (completed : List Completed) → All P (notes_of_events view (map event_completed completed))
  completed_noted view [] = All-nil P
  completed_noted view (one ∷ completed) = All-cons P _ _ (each.up (event_completed one) tt) (completed_noted view completed)

  -- ---- a link that is opened

  complete_is : (enhanced : Bool) (link : LinkSetup) → IsOfTurn (connection_complete enhanced link)
  complete_is true link = tt
  complete_is false link = tt

  opened_noted : (view : View) (link : LinkSetup) → link.handle < most → All P (notes_opened view link)
  opened_noted view link below =
      let complete = connection_complete (wants_enhanced view) link in
      let selection = ChannelSelection link.handle (cond link.two 1 0) in
      All-cons P _ _ (each.opened link below)
      (two_events (passes view (mask_bit_of complete)) (passes view (mask_bit_of selection)) complete selection
      (complete_is (wants_enhanced view) link) tt)

  -- ---- a report

  reports_noted : (view : View) (pdu : AdvPdu) (kind : Option ReportKind) → All P (notes_of_events view (report_events pdu kind))
  reports_noted view pdu None = All-nil P
  reports_noted view pdu (Some kind) = event_noted view (report_event pdu kind) tt

  report_noted : (reports : Bool) (view : View) (pdu : AdvPdu)
      → All P (notes_of_events view (cond reports (report_events pdu (kind_of pdu)) []))
  report_noted true view pdu = reports_noted view pdu (kind_of pdu)
  report_noted false view pdu = All-nil P

  answer_noted : (view : View) (answer : ScanAnswer) (pdu : AdvPdu) → All P (notes_of_events view (events_reported answer pdu))
  answer_noted view answer pdu = report_noted (does_report answer) view pdu

  -- ---- a phase

  phase_noted : (setup : Setup) (facts : Facts) → setup.links ≡ most → HaveOwnHandles setup facts
      → EachOutcome setup facts (λ outcome. All P (notes_passed outcome))
  phase_noted setup facts is own =
      let nothing = All-nil P in
      let many : length facts.links ≡ most = cc (own.many, is) in
      record {
        rests = nothing;
        awaits_request = λ channel doing. nothing;
        awaits_response = λ channel advertiser doing. nothing;
        central_listens = λ handle doing. nothing;
        sent = λ channel link doing.
            let new = subst (IsNew facts.links) doing own.new in
            both (notes_opened facts.view link) [] (opened_noted facts.view link (subst (λ n. link.handle < n) many new.0)) nothing;
        responds = λ channel on doing is_on. nothing;
        taken = λ channel octets pdu on fields handle is_on hears takes free.
            let link = link_taken facts.view on.params.own pdu fields handle in
            both (notes_opened facts.view link) []
            (opened_noted facts.view link (subst (λ n. handle < n) many (free_is_new facts.links handle free).0)) nothing;
        scanned = λ channel octets pdu on doing is_on hears.
            let answer = scan_answer on.params facts.view.accepted on.recent pdu in
            both (notes_of_events facts.view (events_reported answer pdu)) _ (answer_noted facts.view answer pdu)
            (doing_noted (asks_if (true && does_ask answer) channel pdu) (with_scanner (scanner_after on facts.view.accepted pdu) facts)
            own.handles many);
        answered = λ channel octets pdu on doing is_on hears.
            let answer = scan_answer on.params facts.view.accepted on.recent pdu in
            both (notes_of_events facts.view (events_reported answer pdu)) _ (answer_noted facts.view answer pdu)
            (doing_noted (asks_if (false && does_ask answer) channel pdu) (with_scanner (scanner_after on facts.view.accepted pdu) facts)
            own.handles many);
        connects = λ channel octets pdu on access handle doing is_on hears answers next free in_range. nothing;
        received = λ handle octets.
            let slot = facts.turn.slot in
            let room = has_room setup facts in
            let place = link_at handle facts.links in
            let opens = receiving_opens handle room octets facts in
            both (notes_taken slot room place octets ++ notes_of_events facts.view (events_received (was_encrypted handle facts.view.links) handle slot room place octets)) _
            (both (notes_taken slot room place octets) _ (took_noted slot room place octets (below_most handle facts.links own.handles many))
            (procedures_too P (λ event is. each.up event (of_turn event is)) facts.view (events_received (was_encrypted handle facts.view.links) handle slot room place octets)
            (reception_events (was_encrypted handle facts.view.links) handle slot room place octets)))
            (doing_noted (reply_if (replies_in slot room place octets) handle) (link_received handle room octets facts) (opens.handles own.handles)
            (opens.many ∙ many));
      }

  -- ---- step by step

  pub turn_noted : (setup : Setup) (facts : Facts) (step : Step) → setup.links ≡ most → HaveOwnHandles setup facts → IsInTurn step
      → All P (notes_after setup facts step)
  turn_noted setup facts (HostOctet octet) is own turn = absurd turn
  turn_noted setup facts (TurnBegins slot on) is own turn =
      let ending = notes_ending slot facts in
      let entering = notes_all_entering (facts_ending slot facts).view slot 0 (facts_ending slot facts).links in
      both (ending ++ entering) _
      (both ending entering (ends_noted facts.view (due_in slot) 0 facts.links (omega (arith, own.many, is)))
      (subst (λ (next : Facts). All P (notes_all_entering next.view slot 0 next.links)) (sym (ending_is slot facts))
      (entering_noted (facts_ended (due_in slot) facts).view slot facts.links own.handles (own.many ∙ is))))
      (begun_doing (HaveOwnHandles setup) (HaveOwnHandles setup) (handles_kept setup).turns.starts (λ doing facts. All P (notes_doing doing facts))
      (λ doing facts may own. doing_noted doing facts own.handles (own.many ∙ is)) slot on facts own)
  turn_noted setup facts (PacketHeard octets) is own turn =
      heard_is setup facts (λ outcome. All P (notes_passed outcome)) (phase_noted setup facts is own) facts.turn.doing octets refl
      (λ handle. (phase_noted setup (facts_with_words setup handle facts) is (words_own setup handle facts own)).received handle octets)
  turn_noted setup facts NothingHeard is own turn =
      unheard_is setup facts (λ outcome. All P (notes_passed outcome)) (phase_noted setup facts is own) facts.turn.doing refl
  turn_noted setup facts TurnEnds is own turn =
      let many : length facts.links ≡ most = own.many ∙ is in
      let after : length (links_reported facts.links) ≡ most = (mapped_opens link_reported facts.links reported_same).many ∙ many in
      both (notes_handed facts) (notes_leaving (facts_handed facts))
      (both (notes_pieces facts) _ (pieces_noted (pieces_handed facts)) (completed_noted facts.view (completed_from 0 facts.links)))
      (ends_noted (facts_handed facts).view ending_in 0 (links_reported facts.links) (omega (arith, after)))
