-- A host is answered as if no turn came between its octets, while nothing is heard; and beside LE events, while the
-- controller has no link.
use Rattle.std.proofs.Common.{◌≡◌, ℕ, ◌≤◌, ◌==◌, Bool, true, false, Option, Some, None, List, [], ◌∷◌, ◌++◌, map, cond, refl, ap, sym, ◌∙◌, subst, append-nil, arith}
use Rattle.std.specs.Prelude.{◌||◌, ◌&&◌, not, fold, flat_map}
use Rattle.std.specs.List.{list_any}
use Rattle.std.proofs.lemmas.List.Elements.{filter-append}
use Rattle.std.proofs.lemmas.List.Folds.{list_any-append}
use Rattle.wire_fields.specs.Field.{little_endian}
use Rattle.acl_banks.specs.declared.pieces.Piece.{Piece}
use Rattle.ble_base.specs.declared.notes.Note.{Note}
use Rattle.ble_base.specs.declared.notes.Note.TheVariants.{Up}
use Rattle.h4_frames.specs.declared.packet.HostPacket.TheVariants.{Command as HostCommand, Acl}
use Rattle.h4_frames.specs.declared.packet.Fed.{Fed}
use Rattle.h4_frames.specs.declared.packet.Fed.TheVariants.{More, Packet, LostSync}
use Rattle.hci_cmd.specs.declared.command.Command.{Command}
use Rattle.hci_cmd.specs.declared.command.Command.TheVariants.{Reset}
use Rattle.hci_cmd.specs.declared.command.CmdRead.{CmdRead}
use Rattle.hci_cmd.specs.declared.command.CmdRead.TheVariants.{Known, UnknownOpcode, BadLength}
use Rattle.hci_cmd.specs.Command.{command_of}
use Rattle.hci_evt.specs.Event.{mask_bit_of, written}
use Rattle.host_view.specs.Links.{was_encrypted}
use Rattle.host_view.specs.View.{View}
use Rattle.host_view.specs.Noted.{view_noted}
use Rattle.host_view.specs.Status.{status_of}
use Rattle.adv_pdu.specs.declared.pdu.AdvPdu.{AdvPdu}
use Rattle.host_view.specs.scan_init.declared.reports.ReportKind.{ReportKind}
use Rattle.host_view.specs.scan_init.Reports.{ScannerFacts, does_ask, kind_of, scan_answer}
use Rattle.link_commands.specs.open_links.link_model.Step.{WordsGiven}
use Rattle.link_commands.specs.open_links.OpenLinks.{OpenLink, link_after, link_at}
use Rattle.link_commands.specs.open_links.Turns.{due_in}
use Rattle.controller_model.specs.declared.doing.Doing.{Doing}
use Rattle.controller_model.specs.declared.doing.Doing.TheVariants.{Advertises, AwaitsRequest, Responds, Requests, AwaitsResponse, Connects, CentralSends, CentralListens, Rests}
use Rattle.link_commands.specs.LinksCommanded.{links_commanded}
use Rattle.controller_model.specs.Step.{Step, HostOctet, TurnBegins, PacketHeard, NothingHeard, TurnEnds}
use Rattle.controller_model.specs.Facts.{Setup, Facts, first_facts}
use Rattle.controller_model.specs.Commands.{facts_commanded, facts_known, moment_of, received_after}
use Rattle.link_commands.specs.open_links.Data.{offer_by}
use Rattle.controller_model.specs.Data.{facts_ended_turn, facts_offered, is_full}
use Rattle.controller_model.specs.Events.{notes_of_events, passes}
use Rattle.controller_model.specs.Heard.{asks_if, does_report, events_received, has_room, link_received, link_taken, notes_taken, piece_taken, replies_in, reply_if, report_event, report_events, scanner_after, unheard, with_scanner, facts_with_words, draws_in, drawn_if}
use Rattle.controller_model.specs.Links.{facts_ending, notes_ended}
use Rattle.controller_model.specs.Outcome.{Outcome, facts_passed, notes_passed}
use Rattle.controller_model.specs.Packets.{notes_doing}
use Rattle.controller_model.specs.Side.{facts_after, facts_fed, facts_of, notes_after, notes_fed, notes_from, notes_of, result_of}
use Rattle.controller_model.specs.Host.{HeardNothing, host_octets}
use Rattle.controller_model.specs.Notes.{HadNoLink, is_le_note, is_opening, without_le_events}
use Rattle.controller_model.proofs.Alike.{Alike, fed_alike, notes_alike}
use Rattle.controller_model.proofs.Always.{IsKept, begun_doing, ending_is, holds_from, opening_passes, start_keeps}
use Rattle.controller_model.proofs.Feds.{more_octets}
use Rattle.controller_model.proofs.NoLinks.{AreNone, HasNone, IsLike, MakesNone, command_none, doing_like, ended_like, first_none, none_asked, none_at, none_changed, none_end, none_enter, none_kept, none_noted, none_stay, nothing_reported, start_like}
use Rattle.controller_model.proofs.Phases.{EachOutcome, heard_is, unheard_is}
use Rattle.controller_model.proofs.Places.{link_receiving, receiving_is}
use Rattle.controller_model.proofs.Asked.{of_asking}

abbrev host_alone : List Step → List Step
host_alone past = map HostOctet (host_octets past)

like_self : (setup : Setup) → IsLike (first_facts setup) (first_facts setup)
like_self setup = record {
  octets_are = refl;
  alike = record { view_is = refl; drawn_is = refl; links_are = refl };
  none = first_none setup.links;
  nothing = refl;
  makes_none = tt;
}

-- ---- an octet of the host

abbrev IsQuiet : Facts → Type 0
IsQuiet facts = AreNone facts.links × MakesNone facts.turn.doing × (facts.received ≡ [])

command_nothing : (command : Command) (received : List (ℕ × Piece)) → received ≡ [] → received_after command received ≡ []
command_nothing Reset received nothing = refl
command_nothing other received nothing = nothing

known_quiet : (accepted : Bool) (setup : Setup) (facts : Facts) (command : Command) → IsQuiet facts
    → IsQuiet (facts_known accepted setup facts command)
known_quiet true setup facts command quiet =
    (command_none command facts.links quiet.0, quiet.1, command_nothing command facts.received quiet.2)
known_quiet false setup facts command quiet = quiet

read_quiet : (setup : Setup) (facts : Facts) (read : CmdRead) → IsQuiet facts → IsQuiet (facts_commanded setup facts read)
read_quiet setup facts (Known command) quiet =
    of_asking setup facts command IsQuiet (known_quiet (status_of facts.view command == 0) setup facts command quiet)
    (λ asks left. (subst AreNone (sym (none_asked command (moment_of setup facts) 0 facts.links quiet.0)) quiet.0, left.1, left.2))
read_quiet setup facts UnknownOpcode quiet = quiet
read_quiet setup facts BadLength quiet = quiet

fed_quiet : (setup : Setup) (facts : Facts) (fed : Fed) → IsQuiet facts → IsQuiet (facts_fed setup facts fed)
fed_quiet setup facts (Packet (HostCommand opcode body)) quiet = read_quiet setup facts (command_of opcode body.items) quiet
fed_quiet setup facts (Packet (Acl handle start count body)) quiet =
    subst (λ (found : Option OpenLink). IsQuiet (facts_offered (offer_by found count (is_full setup facts)) handle start body.items facts))
    (sym (none_at handle facts.links quiet.0)) quiet
fed_quiet setup facts LostSync quiet = quiet
fed_quiet setup facts More quiet = quiet

result_same : (other one : Facts) (octet : ℕ) → IsLike other one → result_of one.octets octet ≡ result_of other.octets octet
result_same other one octet like = ap (λ (octets : List ℕ). result_of octets octet) like.octets_are

-- nothing is asked of no links
asked_alike : (setup : Setup) (other one : Facts) → IsLike other one → (command : Command)
    → links_commanded command (moment_of setup one) one.links ≡ links_commanded command (moment_of setup other) other.links
asked_alike setup other one like command =
    none_asked command (moment_of setup one) 0 one.links like.none ∙ like.alike.links_are
    ∙ sym (none_asked command (moment_of setup other) 0 other.links (subst AreNone like.alike.links_are like.none))

octet_like : (setup : Setup) (other one : Facts) (octet : ℕ) → IsLike other one
    → IsLike (facts_after setup other (HostOctet octet)) (facts_after setup one (HostOctet octet))
octet_like setup other one octet like =
    let fed = result_of one.octets octet in
    let after : Alike (facts_fed setup one fed) (facts_fed setup other (result_of other.octets octet)) =
    subst (λ (other_fed : Fed). Alike (facts_fed setup one fed) (facts_fed setup other other_fed)) (result_same other one octet like)
    (fed_alike setup one other fed (asked_alike setup other one like) like.alike) in
    let quiet = fed_quiet setup one fed (like.none, like.makes_none, like.nothing) in
    record {
      octets_are =
          more_octets setup one octet ∙ ap (λ (octets : List ℕ). octets ++ octet ∷ []) like.octets_are ∙ sym (more_octets setup other octet);
      alike = record { view_is = after.view_is; drawn_is = after.drawn_is; links_are = after.links_are };
      none = quiet.0;
      nothing = quiet.2;
      makes_none = quiet.1;
    }

octet_notes : (setup : Setup) (other one : Facts) (octet : ℕ) → IsLike other one
    → notes_after setup one (HostOctet octet) ≡ notes_after setup other (HostOctet octet)
octet_notes setup other one octet like =
    notes_alike setup one other (result_of one.octets octet) like.alike
    ∙ ap (notes_fed setup other) (result_same other one octet like)

-- ---- a turn in which nothing is heard

begin_notes : (setup : Setup) (slot : ℕ) (on : Bool) (facts : Facts) → AreNone facts.links → notes_after setup facts (TurnBegins slot on) ≡ []
begin_notes setup slot on facts none =
    let stay = ap (λ (next : Facts). next.links) (ending_is slot facts) ∙ none_stay (due_in slot) facts.links none in
    let entering = none_enter (facts_ending slot facts).view slot 0 (facts_ending slot facts).links (subst AreNone (sym stay) none) in
    let sending = begun_doing HasNone HasNone none_kept (λ doing facts. notes_doing doing facts ≡ [])
    (λ doing facts may none. none_noted doing facts none) slot on facts none in
    λ i. (flat_map (notes_ended facts.view) (none_end (due_in slot) 0 facts.links none i) ++ entering i) ++ sending i

unheard_like : (other : Facts) (doing : Doing) (facts : Facts) → MakesNone doing → IsLike other facts
    → IsLike other (facts_passed (unheard doing facts))
unheard_like other (Advertises channel) facts makes like = doing_like other (AwaitsRequest channel) facts tt like
unheard_like other (Requests channel advertiser) facts makes like = doing_like other (AwaitsResponse channel) facts tt like
unheard_like other (Connects channel link) facts makes like = absurd makes
unheard_like other (CentralSends handle) facts makes like = doing_like other (CentralListens handle) facts tt like
unheard_like other doing facts makes like = doing_like other Rests facts tt like

unheard_notes : (doing : Doing) (facts : Facts) → MakesNone doing → notes_passed (unheard doing facts) ≡ []
unheard_notes (Advertises channel) facts makes = refl
unheard_notes (Requests channel advertiser) facts makes = refl
unheard_notes (Connects channel link) facts makes = absurd makes
unheard_notes (CentralSends handle) facts makes = refl
unheard_notes doing facts makes = refl

alone_from : (setup : Setup) (other one : Facts) (past : List Step) → HeardNothing past → IsLike other one
    → notes_from setup one past ≡ notes_from setup other (host_alone past)
alone_from setup other one [] none like = refl
alone_from setup other one (HostOctet octet ∷ past) none like =
    let later = alone_from setup (facts_after setup other (HostOctet octet)) (facts_after setup one (HostOctet octet)) past none
    (octet_like setup other one octet like) in
    λ i. octet_notes setup other one octet like i ++ later i
alone_from setup other one (TurnBegins slot on ∷ past) none like =
    let later = alone_from setup other (facts_after setup one (TurnBegins slot on)) past none
    (start_keeps (IsLike other) (IsLike other) (start_like other) slot on one like) in
    λ i. begin_notes setup slot on one like.none i ++ later i
alone_from setup other one (PacketHeard octets ∷ past) none like = absurd none
alone_from setup other one (NothingHeard ∷ past) none like =
    let later = alone_from setup other (facts_after setup one NothingHeard) past none
    (unheard_like other one.turn.doing one like.makes_none like) in
    λ i. unheard_notes one.turn.doing one like.makes_none i ++ later i
alone_from setup other one (TurnEnds ∷ past) none like =
    let later = alone_from setup other (facts_after setup one TurnEnds) past none
    (doing_like other Rests (facts_ended_turn one) tt (ended_like other one like)) in
    λ i. nothing_reported one like.none like.nothing i ++ later i

pub alone : (setup : Setup) (past : List Step) → HeardNothing past → notes_of setup past ≡ notes_of setup (host_alone past)
unfolding notes_of
alone setup past none = alone_from setup (first_facts setup) (first_facts setup) past none (like_self setup)

-- ---- beside LE events

report_dropped : (passed : Bool) (pdu : AdvPdu) (kind : ReportKind)
    → without_le_events (map (λ event. Up (record { items = written event })) (cond passed (report_event pdu kind ∷ []) [])) ≡ []
unfolding little_endian
report_dropped true pdu kind = refl
report_dropped false pdu kind = refl

kind_dropped : (view : View) (pdu : AdvPdu) (kind : Option ReportKind)
    → without_le_events (notes_of_events view (report_events pdu kind)) ≡ []
kind_dropped view pdu None = refl
kind_dropped view pdu (Some kind) = report_dropped (passes view (mask_bit_of (report_event pdu kind))) pdu kind

answer_dropped : (reports : Bool) (view : View) (pdu : AdvPdu)
    → without_le_events (notes_of_events view (cond reports (report_events pdu (kind_of pdu)) [])) ≡ []
answer_dropped true view pdu = kind_dropped view pdu (kind_of pdu)
answer_dropped false view pdu = refl

-- a phase that opens no link and after which none was to be made
abbrev IsBeside : Facts → Outcome → Type 0
IsBeside other outcome = list_any is_opening (notes_passed outcome) ≡ false → outcome.facts.connections ≡ 0
    → IsLike other (facts_passed outcome) × (without_le_events (notes_passed outcome) ≡ [])

asks_make : (asks : Bool) (channel : ℕ) (pdu : AdvPdu) → MakesNone (asks_if asks channel pdu)
asks_make true channel pdu = tt
asks_make false channel pdu = tt

reply_makes : (replies : Bool) (handle : ℕ) → MakesNone (reply_if replies handle)
reply_makes true handle = tt
reply_makes false handle = tt

scanned_like : (other facts : Facts) (on : ScannerFacts) → IsLike other facts → IsLike other (with_scanner on facts)
scanned_like other facts on like =
    record { octets_are = like.octets_are; alike = scanned_alike; none = like.none; nothing = like.nothing; makes_none = like.makes_none }
  where
    scanned_alike : Alike (with_scanner on facts) other
    scanned_alike = record { view_is = like.alike.view_is; drawn_is = like.alike.drawn_is; links_are = like.alike.links_are }

words_like : (setup : Setup) (other : Facts) (handle : ℕ) (facts : Facts) → IsLike other facts → IsLike other (facts_with_words setup handle facts)
words_like setup other handle facts like =
    let same = none_changed handle (link_after (WordsGiven _ _)) facts.links like.none in
    record {
      octets_are = like.octets_are;
      alike = record { view_is = like.alike.view_is; drawn_is = like.alike.drawn_is; links_are = same ∙ like.alike.links_are };
      none = subst AreNone (sym same) like.none;
      nothing = like.nothing;
      makes_none = like.makes_none;
    }

received_like : (other : Facts) (handle : ℕ) (room : Bool) (octets : List ℕ) (facts : Facts) → IsLike other facts
    → IsLike other (link_received handle room octets facts)
received_like other handle room octets facts like =
    let same = receiving_is handle room octets facts ∙ none_changed handle (link_receiving handle room octets facts) facts.links like.none in
    let slot = facts.turn.slot in
    let none = none_at handle facts.links like.none in
    let viewed : (link_received handle room octets facts).view ≡ facts.view =
    λ i. fold view_noted facts.view (notes_taken slot room (none i) octets ++ notes_of_events facts.view (events_received (was_encrypted handle facts.view.links) handle slot room (none i) octets)) in
    let undrawn : (link_received handle room octets facts).drawn ≡ facts.drawn =
    λ i. drawn_if (draws_in slot room (none i) octets) facts.drawn in
    record {
      octets_are = like.octets_are;
      alike = record { view_is = viewed ∙ like.alike.view_is; drawn_is = undrawn ∙ like.alike.drawn_is; links_are = same ∙ like.alike.links_are };
      none = subst AreNone (sym same) like.none;
      nothing = λ i. like.nothing i ++ piece_taken slot room (none i) octets;
      makes_none = like.makes_none;
    }

asked_dropped : (facts : Facts) (reports asks : Bool) (channel : ℕ) (pdu : AdvPdu) (on : ScannerFacts)
    → without_le_events (notes_of_events facts.view (cond reports (report_events pdu (kind_of pdu)) [])
    ++ notes_doing (asks_if asks channel pdu) (with_scanner on facts)) ≡ []
asked_dropped facts reports true channel pdu on =
    ap without_le_events (append-nil (notes_of_events facts.view (cond reports (report_events pdu (kind_of pdu)) [])))
    ∙ answer_dropped reports facts.view pdu
asked_dropped facts reports false channel pdu on =
    ap without_le_events (append-nil (notes_of_events facts.view (cond reports (report_events pdu (kind_of pdu)) [])))
    ∙ answer_dropped reports facts.view pdu

phase_beside : (setup : Setup) (other facts : Facts) → IsLike other facts → EachOutcome setup facts (IsBeside other)
phase_beside setup other facts like = record {
  rests = λ opened made. (doing_like other Rests facts tt like, refl);
  awaits_request = λ channel doing opened made. (doing_like other (AwaitsRequest channel) facts tt like, refl);
  awaits_response = λ channel advertiser doing opened made. (doing_like other (AwaitsResponse channel) facts tt like, refl);
  central_listens = λ handle doing opened made. (doing_like other (CentralListens handle) facts tt like, refl);
  sent = λ channel link doing opened made. absurd (let h : true ≡ false = opened in absurd cc);
  responds = λ channel on doing is_on opened made. (doing_like other (Responds channel) facts tt like, refl);
  taken = λ channel octets pdu on fields handle is_on hears takes free opened made. absurd (let h : true ≡ false = opened in absurd cc);
  scanned = λ channel octets pdu on doing is_on hears opened made.
      let answer = scan_answer on.params facts.view.accepted on.recent pdu in
      let after = scanner_after on facts.view.accepted pdu in (
        doing_like other (asks_if (true && does_ask answer) channel pdu) (with_scanner after facts)
            (asks_make (true && does_ask answer) channel pdu) (scanned_like other facts after like),
        asked_dropped facts (does_report answer) (true && does_ask answer) channel pdu after,
      );
  answered = λ channel octets pdu on doing is_on hears opened made.
      let answer = scan_answer on.params facts.view.accepted on.recent pdu in
      let after = scanner_after on facts.view.accepted pdu in (
        doing_like other (asks_if (false && does_ask answer) channel pdu) (with_scanner after facts)
            (asks_make (false && does_ask answer) channel pdu) (scanned_like other facts after like),
        asked_dropped facts (does_report answer) (false && does_ask answer) channel pdu after,
      );
  connects = λ channel octets pdu on access handle doing is_on hears answers next free in_range opened made. absurd (omega (arith, made));
  received = λ handle octets opened made.
      let room = has_room setup facts in
      let replies = replies_in facts.turn.slot room (link_at handle facts.links) octets in
      let after = received_like other handle room octets facts like in (
        doing_like other (reply_if replies handle) (link_received handle room octets facts) (reply_makes replies handle) after,
        λ i. without_le_events ((notes_taken facts.turn.slot room (none_at handle facts.links like.none i) octets
            ++ notes_of_events facts.view (events_received (was_encrypted handle facts.view.links) handle facts.turn.slot room (none_at handle facts.links like.none i) octets))
            ++ none_noted (reply_if replies handle) (link_received handle room octets facts) after.none i),
      );
}

-- the links that a controller set out to make are never less
abbrev HasMade : ℕ → Facts → Type 0
HasMade least facts = least ≤ facts.connections

grows : (setup : Setup) (least : ℕ) → IsKept setup (HasMade least) (HasMade least)
grows setup least = record {
  accepted = λ facts opcode octets command is accepted more. more;
  asked = λ facts command asks more left. left;
  given = λ facts handle count start octets is more. more;
  octet = λ facts octet more. more;
  turns = record {
    starts = record {
      weakens = λ facts more. more;
      ends = λ reason facts more. more;
      begins = λ slot facts more. more;
      enters = λ slot facts more. more;
      wins = λ slot activity facts more. more;
      fixes = λ doing facts more. more;
      does = λ doing facts may more. more;
    };
    reports = λ facts more. more;
    words = λ handle facts listens more. more;
    passes = λ facts more. record {
      rests = more;
      awaits_request = λ channel doing. more;
      awaits_response = λ channel advertiser doing. more;
      central_listens = λ handle doing. more;
      sent = λ channel link doing. opening_passes (HasMade least) link facts more;
      responds = λ channel on doing is_on. more;
      taken = λ channel octets pdu on fields handle is_on hears takes free.
          opening_passes (HasMade least) (link_taken facts.view on.params.own pdu fields handle) facts more;
      scanned = λ channel octets pdu on doing is_on hears. more;
      answered = λ channel octets pdu on doing is_on hears. more;
      connects = λ channel octets pdu on access handle doing is_on hears answers next free in_range. omega (arith, more);
      received = λ handle octets. more;
    };
  };
}

none_made : (setup : Setup) (next : Facts) (past : List Step) → (fold (facts_after setup) next past).connections ≡ 0 → next.connections ≡ 0
none_made setup next past none =
    let more = holds_from setup (HasMade next.connections) (HasMade next.connections) (grows setup next.connections) next past (omega arith) in
    omega (arith, more, none)

or_false : (one other : Bool) → (one || other) ≡ false → (one ≡ false) × (other ≡ false)
or_false true other is = absurd (let h : true ≡ false = is in absurd cc)
or_false false other is = (refl, is)

without-append : (xs ys : List Note) → without_le_events (xs ++ ys) ≡ without_le_events xs ++ without_le_events ys
without-append xs ys = filter-append (λ (note : Note). not (is_le_note note)) xs ys

opened_in : (xs ys : List Note) → list_any is_opening (xs ++ ys) ≡ false → (list_any is_opening xs ≡ false) × (list_any is_opening ys ≡ false)
opened_in xs ys none = or_false (list_any is_opening xs) (list_any is_opening ys) (sym (list_any-append is_opening xs ys) ∙ none)

phase_from : (setup : Setup) (other : Facts) (notes : List Note) (next : Facts) (past : List Step)
    → without_le_events notes ≡ []
    → without_le_events (notes_from setup next past) ≡ without_le_events (notes_from setup other (host_alone past))
    → without_le_events (notes ++ notes_from setup next past) ≡ without_le_events (notes_from setup other (host_alone past))
phase_from setup other notes next past none later =
    without-append notes (notes_from setup next past) ∙ (λ i. none i ++ later i)

beside_from : (setup : Setup) (other one : Facts) (past : List Step) → IsLike other one
    → list_any is_opening (notes_from setup one past) ≡ false → (fold (facts_after setup) one past).connections ≡ 0
    → without_le_events (notes_from setup one past) ≡ without_le_events (notes_from setup other (host_alone past))
beside_from setup other one [] like opened made = refl
beside_from setup other one (HostOctet octet ∷ past) like opened made =
    let one_next = facts_after setup one (HostOctet octet) in
    let other_next = facts_after setup other (HostOctet octet) in
    let none = opened_in (notes_after setup one (HostOctet octet)) (notes_from setup one_next past) opened in
    let later = beside_from setup other_next one_next past (octet_like setup other one octet like) none.1 made in
    without-append (notes_after setup one (HostOctet octet)) (notes_from setup one_next past)
    ∙ (λ i. without_le_events (octet_notes setup other one octet like i) ++ later i)
    ∙ sym (without-append (notes_after setup other (HostOctet octet)) (notes_from setup other_next (host_alone past)))
beside_from setup other one (TurnBegins slot on ∷ past) like opened made =
    let next = facts_after setup one (TurnBegins slot on) in
    let none = opened_in (notes_after setup one (TurnBegins slot on)) (notes_from setup next past) opened in
    phase_from setup other (notes_after setup one (TurnBegins slot on)) next past
    (ap without_le_events (begin_notes setup slot on one like.none))
    (beside_from setup other next past (start_keeps (IsLike other) (IsLike other) (start_like other) slot on one like) none.1 made)
beside_from setup other one (PacketHeard octets ∷ past) like opened made =
    let next = facts_after setup one (PacketHeard octets) in
    let none = opened_in (notes_after setup one (PacketHeard octets)) (notes_from setup next past) opened in
    let passed = heard_is setup one (IsBeside other) (phase_beside setup other one like) one.turn.doing octets refl
    (λ handle. (phase_beside setup other (facts_with_words setup handle one) (words_like setup other handle one like)).received handle octets) none.0
    (none_made setup next past made) in
    phase_from setup other (notes_after setup one (PacketHeard octets)) next past passed.1 (beside_from setup other next past passed.0 none.1 made)
beside_from setup other one (NothingHeard ∷ past) like opened made =
    let next = facts_after setup one NothingHeard in
    let none = opened_in (notes_after setup one NothingHeard) (notes_from setup next past) opened in
    let passed = unheard_is setup one (IsBeside other) (phase_beside setup other one like) one.turn.doing refl none.0
    (none_made setup next past made) in
    phase_from setup other (notes_after setup one NothingHeard) next past passed.1 (beside_from setup other next past passed.0 none.1 made)
beside_from setup other one (TurnEnds ∷ past) like opened made =
    let next = facts_after setup one TurnEnds in
    let none = opened_in (notes_after setup one TurnEnds) (notes_from setup next past) opened in
    phase_from setup other (notes_after setup one TurnEnds) next past
    (ap without_le_events (nothing_reported one like.none like.nothing))
    (beside_from setup other next past (doing_like other Rests (facts_ended_turn one) tt (ended_like other one like)) none.1 made)

pub beside : (setup : Setup) (past : List Step) → HadNoLink setup past
    → without_le_events (notes_of setup past) ≡ without_le_events (notes_of setup (host_alone past))
unfolding notes_of facts_of
beside setup past none = beside_from setup (first_facts setup) (first_facts setup) past (like_self setup) none.opened_none none.made_none
