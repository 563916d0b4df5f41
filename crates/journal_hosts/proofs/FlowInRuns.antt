-- In every run of a pair each packet of data to a host is one that the host can take, and fits its buffers.
use Rattle.std.proofs.Common.{◌≡◌, ℕ, zero, suc, ◌+◌, ◌<◌, ◌≤◌, ◌==◌, ◌&&◌, ◌⊎◌, inl, inr, Bool, true, false, Option, Some, None, List, [], ◌∷◌, ◌++◌, cond, length, map, refl, ap, sym, subst, ◌∙◌, append_assoc, arith, nat_le}
use Rattle.std.specs.Prelude.{drop, filter, fold, is_some, min, ⊤}
use Rattle.std.specs.List.{AllByRecursion, sum_by}
use Rattle.std.specs.Option.{option_map}
use Rattle.std.proofs.lemmas.Bool.{eq-eqb, or_parts}
use Rattle.std.proofs.lemmas.Bool.Decides.{nat_tests}
use Rattle.std.proofs.lemmas.List.{length-append}
use Rattle.std.proofs.lemmas.List.Sums.{sum_by-cons}
use Rattle.acl_banks.specs.declared.pieces.Piece.{Piece}
use Rattle.arrayvec.specs.ArrayVec.{ArrayVec}
use Rattle.ble_base.specs.declared.notes.Note.{Note}
use Rattle.ble_base.specs.declared.notes.Note.TheVariants.{Up as UpNote}
use Rattle.ble_base.specs.declared.roles.Side.{Side}
use Rattle.host_answers.specs.Flows.{flow_on}
use Rattle.host_answers.proofs.LineAnswers.{IsQuiet, turn_quiet}
use Rattle.host_view.specs.declared.links.Link.{Link as ViewLink}
use Rattle.host_view.specs.Changes.{changed_at, on_link}
use Rattle.host_view.specs.Flow.{outstanding, outstanding_in}
use Rattle.host_view.specs.Noted.{acl_handle, is_acl_data, view_noted}
use Rattle.host_view.specs.View.{View}
use Rattle.journal.specs.declared.entries.Entry.{Entry}
use Rattle.journal.specs.declared.entries.Entry.TheVariants.{Up}
use Rattle.wire_fields.specs.Field.{little_endian}
use Rattle.radio_replay.specs.Script.{Script}
use Rattle.journal_data.proofs.link_model.Hearing.{IsHeardWhole}
use Rattle.journal_data.specs.open_links.OpenLinks.{Links, OpenLink, link_at}
use Rattle.journal_data.specs.controller_model.Data.{acl_packet, note_received, notes_pieces, pieces_handed}
use Rattle.journal_data.specs.controller_model.Facts.{Facts, Setup}
use Rattle.journal_data.specs.controller_model.Side.{notes_after}
use Rattle.journal_data.specs.controller_model.Heard.{facts_with_words}
use Rattle.journal_data.specs.controller_model.Since.{is_piece_on}
use Rattle.journal_data.specs.controller_model.Step.{Step, HostOctet, TurnBegins, PacketHeard, NothingHeard, TurnEnds}
use Rattle.journal_data.proofs.controller_model.BooksAlways.{none_waits}
use Rattle.journal_data.proofs.controller_model.Handing.{handed_are, no_more}
use Rattle.journal_data.proofs.controller_model.HostWindow.{handed_more, never_more}
use Rattle.journal_data.proofs.controller_model.OpenNotes.{AnyFact, any_kept}
use Rattle.journal_data.proofs.controller_model.OpenPlaces.{followed_opens, opens}
use Rattle.journal_data.proofs.controller_model.Following.{AreOfOpenLinks}
use Rattle.journal_data.proofs.controller_model.Phases.{heard_is, unheard_is}
use Rattle.journal_data.proofs.controller_model.OtherNotes.{acl_handle_is}
use Rattle.run_model.specs.Due.{Each}
use Rattle.run_model.specs.Feeding.{AreDistinct}
use Rattle.run_model.specs.History.{Event, Called, Noted, past_of}
use Rattle.run_model.specs.Journal.{entry_of, journal_of, side_of}
use Rattle.run_model.specs.LinkEnds.{HaveAddresses}
use Rattle.run_model.specs.Pair.{given_of}
use Rattle.run_model.specs.Run.{Given, facts_at, history_of, run_of, setup_at}
use Rattle.run_model.proofs.LinkEnds.{AreTaken, IsUnderstood, pair_addresses}
use Rattle.run_model.proofs.NoteLines.{note_line}
use Rattle.run_model.proofs.OfStations.{OfStations, run_of_stations}
use Rattle.run_model.proofs.Ordered.{pair_distinct}
use Rattle.run_model.proofs.Places.{each_at}
use Rattle.journal_data.proofs.run_laws.DistinctAccess.{AreApart}
use Rattle.journal_data.proofs.journal_packets.AccessOrder.{AreNth}
use Rattle.journal_data.proofs.journal_packets.SoFar.{IsBelongingSoFar}
use Rattle.journal_data.proofs.journal_acks.Known.{known_of}
use Rattle.journal_data.proofs.journal_acks.TwoStations.{IsOfTwo}
use Rattle.journal_data.specs.HostLines.{OpenUnder}
use Rattle.journal_data.specs.Lines.{Lines, line_after}
use Rattle.journal_data.proofs.EachLine.{call_leaves, lines_at, numbers_at}
use Rattle.journal_data.proofs.HeldLinks.{sum_open}
use Rattle.journal_data.proofs.Law.{eight_of, first_data}
use Rattle.journal_data.proofs.Openness.{AreNot, NoReport, begun_reports, is_open, is_report, link_reports, phase_reports}
use Rattle.journal_hosts.specs.HostFlow.{KeepsHostFlow, is_host_full, outstanding_on}
use Rattle.journal_hosts.proofs.CreditsInRuns.{noted_up}
use Rattle.journal_hosts.proofs.FlowKept.{IsCallReady, IsSeenReady, run_ready, same_places, view_open}
use Rattle.journal_hosts.proofs.LineCounts.{call_counts, called_flow, counts_at, notes_flow}
use Rattle.journal_hosts.proofs.PieceRoom.{Fits}
use Rattle.journal_hosts.proofs.ViewCounts.{Counts, IsUncounted, counts_noted, ended_notes, notes_then, octet_uncounted, out_in, pieces_counts, pieces_noted, then_uncounted}
use Rattle.journal_hosts.proofs.WholeCalls.{IsAfter, IsBefore, noted_in_whole, place_of}

-- ---- the open links, by the lines and in the view

none_outstanding : (links : List (Option ViewLink)) → ((place : ℕ) → is_some (out_in links place) ≡ false) → outstanding links ≡ 0
none_outstanding [] none = refl
none_outstanding (None ∷ links) none =
    let parts = sum_by-cons outstanding_in None links in let rest = none_outstanding links (λ place. none (suc place)) in omega (arith, parts, rest)
none_outstanding (Some link ∷ links) none = absurd (let h : true ≡ false = none zero in absurd cc)

-- what is counted under the open handles is what the view has
view_sum : (counts number : ℕ → ℕ) (opened : ℕ → Bool) (first more : ℕ) (links : List (Option ViewLink))
    → ((place : ℕ) → is_some (out_in links place) ≡ opened (first + place))
    → ((place n : ℕ) → out_in links place ≡ Some n → n ≡ counts (first + place))
    → ((place : ℕ) → opened (first + place) ≡ true → place < more)
    → sum_open (λ (one : OpenUnder). counts one.handle) number opened first more ≡ outstanding links
view_sum counts number opened first zero links opens counted below = sym (none_outstanding links (λ place. opens place ∙ by place (opened (first + place)) refl))
  where
    by : (place : ℕ) (on : Bool) → opened (first + place) ≡ on → on ≡ false
    by place true is = let less = below place is in absurd (omega (arith, less))
    by place false is = refl
view_sum counts number opened first (suc more) [] opens counted below =
    let here : opened first ≡ false = ap opened (let same : first ≡ first + 0 = omega arith in same) ∙ sym (opens zero) in
    let none = ap (λ (b : Bool). cond b (counts first) 0) here in
    let rest = view_sum counts number opened (first + 1) more [] (λ place. opens (suc place) ∙ ap opened (let same : first + suc place ≡ (first + 1) + place = omega arith in same))
    (λ place n is. counted (suc place) n is ∙ ap counts (let same : first + suc place ≡ (first + 1) + place = omega arith in same))
    (λ place on. let less = below (suc place) (ap opened (let same : first + suc place ≡ (first + 1) + place = omega arith in same) ∙ on) in omega (arith, less)) in
    omega (arith, none, rest)
view_sum counts number opened first (suc more) (place ∷ links) opens counted below =
    let rest = view_sum counts number opened (first + 1) more links (λ later. opens (suc later) ∙ ap opened (let same : first + suc later ≡ (first + 1) + later = omega arith in same))
    (λ later n is. counted (suc later) n is ∙ ap counts (let same : first + suc later ≡ (first + 1) + later = omega arith in same))
    (λ later on. let less = below (suc later) (ap opened (let same : first + suc later ≡ (first + 1) + later = omega arith in same) ∙ on) in omega (arith, less)) in
    let one = here place (opens zero) (counted zero) in
    let parts = sum_by-cons outstanding_in place links in
    omega (arith, one, rest, parts)
  where
    first_is : first + 0 ≡ first
    first_is = omega arith

    here : (one : Option ViewLink) → is_some (option_map (λ (link : ViewLink). link.outstanding) one) ≡ opened (first + 0)
        → ((n : ℕ) → option_map (λ (link : ViewLink). link.outstanding) one ≡ Some n → n ≡ counts (first + 0))
        → ◌≡◌ {A = ℕ} (cond (opened first) (counts first) 0) (outstanding_in one)
    here None is counts_are = ap (λ (b : Bool). cond b (counts first) 0) (sym (is ∙ ap opened first_is))
    here (Some link) is counts_are =
        ap (λ (b : Bool). cond b (counts first) 0) (sym (is ∙ ap opened first_is)) ∙ sym (counts_are link.outstanding refl ∙ ap counts first_is)

-- ---- in the middle of what the host receives as a turn ends

abbrev IsUp : Note → Type 0
IsUp (UpNote packet) = ⊤
IsUp note = ⊥

pieces_up : (pieces : List (ℕ × Piece)) → AllByRecursion IsUp (pieces_noted pieces)
pieces_up [] = tt
pieces_up (piece ∷ pieces) = (tt, pieces_up pieces)

pieces_open : (pieces : List (ℕ × Piece)) → AreOfOpenLinks (pieces_noted pieces)
pieces_open [] = tt
pieces_open (piece ∷ pieces) = (tt, pieces_open pieces)

up_links : (lines : Lines) (side : Side) (link_of : ℕ → ℕ) (last : ℕ) (note : Note) → IsUp note
    → (line_after 8 lines (entry_of side link_of last note)).links ≡ lines.links
up_links lines side link_of last (UpNote packet) is = refl
up_links lines side link_of last note is = absurd is

front_of : {A : Type 0} (P : A → Type 0) (xs ys : List A) → AllByRecursion P (xs ++ ys) → AllByRecursion P xs
front_of P [] ys all = tt
front_of P (x ∷ xs) ys all = (all.0, front_of P xs ys all.1)

pieces_append : (xs ys : List (ℕ × Piece)) → pieces_noted (xs ++ ys) ≡ pieces_noted xs ++ pieces_noted ys
pieces_append [] ys = refl
pieces_append (x ∷ xs) ys = ap (λ (notes : List Note). note_received x ∷ notes) (pieces_append xs ys)

at_middle : {A : Type 0} (P : A → Type 0) (xs : List A) (x : A) (ys : List A) → AllByRecursion P (xs ++ x ∷ ys) → P x
at_middle P [] x ys all = all.0
at_middle P (one ∷ xs) x ys all = at_middle P xs x ys all.1

module _ (given : Given) (few : (station : ℕ) → (setup_at given station).links ≤ 6) (station : ℕ) (base : List Event) (call : IsCallReady given station base)
    (first : List (ℕ × Piece)) (more : List Note)
    (notes_are : notes_after (setup_at given station) (facts_at given station base) TurnEnds ≡ pieces_noted first ++ more) where
  abbrev at_base : Facts
  at_base = facts_at given station base

  abbrev side : Side
  side = side_of station

  abbrev then_on : List Event
  then_on = base ++ Called station TurnEnds ∷ map (Noted station) (pieces_noted first)

  abbrev view_then : View
  view_then = fold view_noted at_base.view (pieces_noted first)

  quiet : AllByRecursion (IsQuiet side station) (pieces_noted first)
  quiet = front_of (IsQuiet side station) (pieces_noted first) more (subst (AllByRecursion (IsQuiet side station)) notes_are (turn_quiet given station TurnEnds base tt))

  flow_then : flow_on side (journal_of then_on) ≡ at_base.view.flow
  flow_then =
      ap (λ (all : List Event). flow_on side (journal_of all)) (sym (append_assoc base (Called station TurnEnds ∷ []) (map (Noted station) (pieces_noted first))))
      ∙ notes_flow station (pieces_noted first) (base ++ Called station TurnEnds ∷ []) quiet
      ∙ called_flow station TurnEnds base ∙ sym call.flow

  links_then : (lines_at station then_on).links ≡ (lines_at station base).links
  links_then = call_leaves IsUp (λ (lines : Lines). lines.links) up_links station TurnEnds (pieces_noted first) base (pieces_up first)

  counts_then : counts_at station then_on ≡ fold (counts_noted at_base.view.flow.on) (counts_at station base) (pieces_noted first)
  counts_then =
      call_counts station TurnEnds (pieces_noted first) base quiet
      ∙ ap (λ (on : Bool). fold (counts_noted on) (counts_at station base) (pieces_noted first)) (sym (ap (λ flow. flow.on) call.flow))

  counted_then : Counts view_then.links (counts_at station then_on)
  counted_then = subst (Counts view_then.links) (sym counts_then) (pieces_counts first at_base.view (counts_at station base) call.ready.counted)

  open_then : (handle : ℕ) → is_some (out_in view_then.links handle) ≡ is_open at_base.links handle
  open_then handle =
      same_places view_then.links at_base.view.links (followed_opens at_base.view (pieces_noted first) (pieces_open first)) handle
      ∙ view_open (setup_at given station) (past_of station base) (few station) handle

  from_zero : (place : ℕ) → place ≡ 0 + place
  from_zero place = omega arith

  pub outstanding_then : outstanding_on side (journal_of then_on) ≡ outstanding view_then.links
  outstanding_then =
      let many = (setup_at given station).links in
      let number = numbers_at station base in
      let holds = call.well.booked.links in
      let of = λ (one : OpenUnder). counts_at station then_on one.handle in
      ap (sum_by of) links_then ∙ holds.sums of
      ∙ view_sum (counts_at station then_on) number (is_open at_base.links) 0 many view_then.links
      (λ place. open_then place ∙ ap (is_open at_base.links) (from_zero place))
      (λ place n is. counted_then place n is ∙ ap (counts_at station then_on) (from_zero place))
      (λ place on. holds.below place (ap (is_open at_base.links) (from_zero place) ∙ on))

-- ---- a packet of data to a host

-- it is a piece that its controller hands up as a turn ends, after these
pub record IsDataCall (given : Given) (before : List Event) (station : ℕ) (packet : ArrayVec ℕ) : Type 0 where
  pub base : List Event
  pub rest : List Event
  pub first : List (ℕ × Piece)
  pub piece : ℕ × Piece
  pub others : List (ℕ × Piece)
  pub is_at : history_of (run_of given) ≡ base ++ Called station TurnEnds ∷ rest
  pub pieces_are : pieces_handed (facts_at given station base) ≡ first ++ piece ∷ others
  pub before_is : before ≡ base ++ Called station TurnEnds ∷ map (Noted station) (pieces_noted first)
  pub packet_is : packet.items ≡ acl_packet piece

record IsPieceCut (pieces : List (ℕ × Piece)) (front : List Note) (note : Note) : Type 0 where
  first : List (ℕ × Piece)
  piece : ℕ × Piece
  others : List (ℕ × Piece)
  pieces_are : pieces ≡ first ++ piece ∷ others
  front_is : front ≡ pieces_noted first
  note_is : note ≡ note_received piece

piece_cut : (pieces : List (ℕ × Piece)) (front rest : List Note) (note : Note) → pieces_noted pieces ≡ front ++ note ∷ rest → IsPieceCut pieces front note
piece_cut [] [] rest note is = absurd cc
piece_cut [] (one ∷ front) rest note is = absurd cc
piece_cut (piece ∷ pieces) [] rest note is =
    let same : note_received piece ≡ note = cc in record {
      first = [];
      piece = piece;
      others = pieces;
      pieces_are = refl;
      front_is = refl;
      note_is = sym same;
    }
piece_cut (piece ∷ pieces) (one ∷ front) rest note is =
    let same : note_received piece ≡ one = cc in
    let tail : pieces_noted pieces ≡ front ++ note ∷ rest = cc in
    let cut = piece_cut pieces front rest note tail in record {
      first = piece ∷ cut.first;
      piece = cut.piece;
      others = cut.others;
      pieces_are = ap (λ (all : List (ℕ × Piece)). piece ∷ all) cut.pieces_are;
      front_is = λ i. sym same i ∷ cut.front_is i;
      note_is = cut.note_is;
    }

-- no other call gives one
abbrev pub IsNoData : Note → Type 0
IsNoData (UpNote packet) = is_acl_data packet.items ≡ false
IsNoData note = ⊤

no_reports : (notes : List Note) → AreNot is_report notes → AllByRecursion IsNoData notes
no_reports [] none = tt
no_reports (UpNote packet ∷ notes) none = ((or_parts (is_acl_data packet.items) _ none.0).0, no_reports notes none.1)
no_reports (note ∷ notes) none = (tt, no_reports notes none.1)

uncounted_none : (notes : List Note) → AllByRecursion IsUncounted notes → AllByRecursion IsNoData notes
uncounted_none [] are = tt
uncounted_none (UpNote packet ∷ notes) are = (are.0, uncounted_none notes are.1)
uncounted_none (note ∷ notes) are = (tt, uncounted_none notes are.1)

abbrev pub GoesOn : Step → Type 0
GoesOn TurnEnds = ⊥
GoesOn step = ⊤

pub goes_without : (setup : Setup) (facts : Facts) (step : Step) → GoesOn step → AllByRecursion IsNoData (notes_after setup facts step)
goes_without setup facts (HostOctet octet) goes = uncounted_none (notes_after setup facts (HostOctet octet)) (octet_uncounted setup facts octet)
goes_without setup facts (TurnBegins slot on) goes = no_reports (notes_after setup facts (TurnBegins slot on)) (begun_reports facts setup slot on)
goes_without setup facts (PacketHeard octets) goes =
    no_reports (notes_after setup facts (PacketHeard octets))
    (heard_is setup facts NoReport (phase_reports setup facts) facts.turn.doing octets refl (λ handle. link_reports setup octets handle (facts_with_words setup handle facts)))
goes_without setup facts NothingHeard goes =
    no_reports (notes_after setup facts NothingHeard) (unheard_is setup facts NoReport (phase_reports setup facts) facts.turn.doing refl)
goes_without setup facts TurnEnds goes = absurd goes

data_call : (given : Given) (before rest : List Event) (station : ℕ) (packet : ArrayVec ℕ) → history_of (run_of given) ≡ before ++ Noted station (UpNote packet) ∷ rest
    → is_acl_data packet.items ≡ true → IsDataCall given before station packet
data_call given before rest station packet at acl =
    let whole = noted_in_whole given before rest station (UpNote packet) at in
    by whole.step whole.base whole.earlier whole.later whole.notes_are whole.before_is
  where
    none_is : {X : Type 0} → is_acl_data packet.items ≡ false → X
    none_is none = absurd (let h : true ≡ false = sym acl ∙ none in absurd cc)

    ended : (base : List Event) (earlier later : List Note)
        → notes_pieces (facts_at given station base) ++ notes_then (facts_at given station base) ≡ earlier ++ UpNote packet ∷ later
        → before ≡ base ++ Called station TurnEnds ∷ map (Noted station) earlier
        → IsBefore earlier (UpNote packet) later (notes_pieces (facts_at given station base)) (notes_then (facts_at given station base))
        ⊎ IsAfter earlier (UpNote packet) later (notes_pieces (facts_at given station base)) (notes_then (facts_at given station base))
        → IsDataCall given before station packet
    ended base earlier later are front (inl early) =
        let cut = piece_cut (pieces_handed (facts_at given station base)) earlier early.more (UpNote packet) early.is in
        let same : UpNote packet ≡ note_received cut.piece = cut.note_is in
        let items : packet.items ≡ acl_packet cut.piece = packet_of cut.piece same in record {
          base = base;
          rest = map (Noted station) earlier ++ Noted station (UpNote packet) ∷ rest;
          first = cut.first;
          piece = cut.piece;
          others = cut.others;
          is_at = at ∙ ap (λ (all : List Event). all ++ Noted station (UpNote packet) ∷ rest) front
              ∙ append_assoc base (Called station TurnEnds ∷ map (Noted station) earlier) (Noted station (UpNote packet) ∷ rest);
          pieces_are = cut.pieces_are;
          before_is = front ∙ ap (λ (notes : List Note). base ++ Called station TurnEnds ∷ map (Noted station) notes) cut.front_is;
          packet_is = items;
        }
      where
        packet_of : (piece : ℕ × Piece) → UpNote packet ≡ note_received piece → packet.items ≡ acl_packet piece
        packet_of piece same = ap items_of same
          where
            items_of : Note → List ℕ
            items_of (UpNote one) = one.items
            items_of note = []
    ended base earlier later are front (inr late) =
        none_is (at_middle IsNoData late.more (UpNote packet) later
        (subst (AllByRecursion IsNoData) late.is (uncounted_none (notes_then (facts_at given station base)) (then_uncounted (facts_at given station base)))))

    other : (step : Step) (base : List Event) (earlier later : List Note) → GoesOn step
        → notes_after (setup_at given station) (facts_at given station base) step ≡ earlier ++ UpNote packet ∷ later → IsDataCall given before station packet
    other step base earlier later goes are =
        none_is (at_middle IsNoData earlier (UpNote packet) later
        (subst (AllByRecursion IsNoData) are (goes_without (setup_at given station) (facts_at given station base) step goes)))

    by : (step : Step) (base : List Event) (earlier later : List Note)
        → notes_after (setup_at given station) (facts_at given station base) step ≡ earlier ++ UpNote packet ∷ later
        → before ≡ base ++ Called station step ∷ map (Noted station) earlier → IsDataCall given before station packet
    by (HostOctet octet) base earlier later are front = other (HostOctet octet) base earlier later tt are
    by (TurnBegins slot on) base earlier later are front = other (TurnBegins slot on) base earlier later tt are
    by (PacketHeard octets) base earlier later are front = other (PacketHeard octets) base earlier later tt are
    by NothingHeard base earlier later are front = other NothingHeard base earlier later tt are
    by TurnEnds base earlier later are front =
        let facts = facts_at given station base in
        let all : notes_pieces facts ++ notes_then facts ≡ earlier ++ UpNote packet ∷ later = sym (ended_notes (setup_at given station) facts) ∙ are in
        ended base earlier later all front (place_of earlier (UpNote packet) later (notes_pieces facts) (notes_then facts) all)

-- ---- the laws

body_of : (piece : ℕ × Piece) → drop 5 (acl_packet piece) ≡ piece.1.body.items
unfolding little_endian
body_of piece = refl

module _ (given : Given) (few : (station : ℕ) → (setup_at given station).links ≤ 6)
    (each : Each (IsSeenReady given) [] (history_of (run_of given))) where
  pub ready_at : (station : ℕ) (base rest : List Event) → history_of (run_of given) ≡ base ++ Called station TurnEnds ∷ rest → IsCallReady given station base
  ready_at station base rest at =
      each_at (IsSeenReady given) (history_of (run_of given)) base rest (Called station TurnEnds) each at tt
      (each_at (OfStations given) (history_of (run_of given)) base rest (Called station TurnEnds) (run_of_stations given) at)

  module _ (front rest : List Entry) (side : Side) (octets : List ℕ) (is : journal_of (history_of (run_of given)) ≡ front ++ Up side octets ∷ rest)
      (acl : is_acl_data octets ≡ true) where
    pub record IsOfPiece : Type 0 where
      pub station : ℕ
      pub packet : ArrayVec ℕ
      pub before : List Event
      pub later : List Event
      pub front_is : front ≡ journal_of before
      pub side_is : side_of station ≡ side
      pub octets_are : packet.items ≡ octets
      pub is_at : history_of (run_of given) ≡ before ++ Noted station (UpNote packet) ∷ later
      pub call : IsDataCall given before station packet

    pub of_piece : IsOfPiece
    of_piece =
        let one = note_line given front rest (Up side octets) is refl in
        let up = noted_up one.station _ _ one.note side octets one.entry_is in record {
          station = one.station;
          packet = up.packet;
          before = one.before;
          later = one.after;
          front_is = one.front_is;
          side_is = up.side_is;
          octets_are = up.octets_are;
          is_at = one.is_at ∙ ap (λ note. one.before ++ Noted one.station note ∷ one.after) up.is;
          call = data_call given one.before one.after one.station up.packet (one.is_at ∙ ap (λ note. one.before ++ Noted one.station note ∷ one.after) up.is)
              (ap is_acl_data up.octets_are ∙ acl);
        }

    abbrev of : IsOfPiece
    of = of_piece

    base_call : IsCallReady given of.station of.call.base
    base_call = ready_at of.station of.call.base of.call.rest of.call.is_at

    abbrev base_facts : Facts
    base_facts = facts_at given of.station of.call.base

    notes_are : notes_after (setup_at given of.station) base_facts TurnEnds
        ≡ pieces_noted of.call.first ++ (note_received of.call.piece ∷ pieces_noted of.call.others ++ notes_then base_facts)
    notes_are =
        ended_notes (setup_at given of.station) base_facts
        ∙ ap (λ (pieces : List (ℕ × Piece)). pieces_noted pieces ++ notes_then base_facts) of.call.pieces_are
        ∙ ap (λ (notes : List Note). notes ++ notes_then base_facts) (pieces_append of.call.first (of.call.piece ∷ of.call.others))
        ∙ append_assoc (pieces_noted of.call.first) (pieces_noted (of.call.piece ∷ of.call.others)) (notes_then base_facts)

    front_flow : flow_on side front ≡ base_facts.view.flow
    front_flow =
        (λ i. flow_on (sym of.side_is i) ((of.front_is ∙ ap journal_of of.call.before_is) i))
        ∙ flow_then given few of.station of.call.base base_call of.call.first _ notes_are

    front_outstanding : outstanding_on side front ≡ outstanding (fold view_noted base_facts.view (pieces_noted of.call.first)).links
    front_outstanding =
        (λ i. outstanding_on (sym of.side_is i) ((of.front_is ∙ ap journal_of of.call.before_is) i))
        ∙ outstanding_then given few of.station of.call.base base_call of.call.first _ notes_are

    can_be_taken : (flow_on side front).on ≡ true → outstanding_on side front < (flow_on side front).acl_count
    can_be_taken on =
        let setup = setup_at given of.station in
        let count = ap (λ flow. flow.acl_count) front_flow in
        let most = no_more base_facts.view base_facts.received (sym (ap (λ flow. flow.on) front_flow) ∙ on) (never_more setup (past_of of.station of.call.base)) in
        let all = ap length of.call.pieces_are ∙ length-append of.call.first (of.call.piece ∷ of.call.others) in
        let more = handed_more base_facts.view of.call.first in
        omega (arith, front_outstanding, count, most, all, more)

    fits : length (drop 5 octets) ≤ (flow_on side front).acl_length
    fits =
        let length_is = ap (λ flow. flow.acl_length) front_flow in
        let handed = handed_are (Fits base_facts.view.flow.acl_length) base_facts.view base_facts.received base_call.ready.fits in
        let one = at_middle (Fits base_facts.view.flow.acl_length) of.call.first of.call.piece of.call.others
        (subst (AllByRecursion (Fits base_facts.view.flow.acl_length)) of.call.pieces_are handed) in
        let body = ap (λ (all : List ℕ). length (drop 5 all)) (sym of.octets_are ∙ of.call.packet_is) ∙ ap length (body_of of.call.piece) in
        omega (arith, length_is, one, body)

  pub keeps_flow : KeepsHostFlow (journal_of (history_of (run_of given)))
  keeps_flow = record {
    can_be_taken = λ front rest side octets is acl on. can_be_taken front rest side octets is acl on;
    fit = λ front rest side octets is acl. fits front rest side octets is acl;
  }

-- ---- where the host can take no more

pub all_open : (links : Links) (received : List (ℕ × Piece)) → ((handle : ℕ) → link_at handle links ≡ None → filter (is_piece_on handle) received ≡ [])
    → AllByRecursion (λ (piece : ℕ × Piece). is_open links piece.0 ≡ true) received
all_open links [] none = tt
all_open links (piece ∷ received) none = (first (link_at piece.0 links) refl, all_open links received (λ handle closed. later handle (piece.0 == handle) (none handle closed)))
  where
    first : (place : Option OpenLink) → link_at piece.0 links ≡ place → is_some place ≡ true
    first (Some link) at = refl
    first None at =
        absurd (let h : piece ∷ filter (is_piece_on piece.0) received ≡ [] =
        sym (ap (λ (own : Bool). cond own (piece ∷ filter (is_piece_on piece.0) received) (filter (is_piece_on piece.0) received)) (eq-eqb piece.0 piece.0 refl))
        ∙ none piece.0 at in cc)

    later : (handle : ℕ) (own : Bool) → cond own (piece ∷ filter (is_piece_on handle) received) (filter (is_piece_on handle) received) ≡ []
        → filter (is_piece_on handle) received ≡ []
    later handle true is = absurd (let h : piece ∷ filter (is_piece_on handle) received ≡ [] = is in cc)
    later handle false is = is

one_least : (change : ViewLink → ViewLink) → ((link : ViewLink) → (change link).outstanding ≡ min (link.outstanding + 1) 65535)
    → (handle : ℕ) (links : List (Option ViewLink)) → is_some (out_in links handle) ≡ true → min (outstanding links + 1) 65535 ≤ outstanding (changed_at handle change links)
one_least change more handle [] on = absurd (let h : false ≡ true = on in absurd cc)
one_least change more zero (None ∷ links) on = absurd (let h : false ≡ true = on in absurd cc)
one_least change more zero (Some link ∷ links) on =
    let before = sum_by-cons outstanding_in (Some link) links in
    let after = sum_by-cons outstanding_in (Some (change link)) links in
    let one = more link in omega (arith, before, after, one)
one_least change more (suc handle) (place ∷ links) on =
    let before = sum_by-cons outstanding_in place links in
    let after = sum_by-cons outstanding_in place (changed_at handle change links) in
    let rest = one_least change more handle links on in omega (arith, before, after, rest)

piece_least : (piece : ℕ × Piece) (view : View) → view.flow.on ≡ true → is_some (out_in view.links (acl_handle (acl_packet piece))) ≡ true
    → (min (outstanding view.links + 1) 65535 ≤ outstanding (view_noted view (note_received piece)).links) × ((view_noted view (note_received piece)).flow.on ≡ true)
unfolding view_noted
piece_least piece view on opened = by view.flow.on _ (λ link. refl) on
  where
    by : (flow : Bool) (change : ViewLink → ViewLink) → ((link : ViewLink) → (change link).outstanding ≡ min (link.outstanding + 1) 65535) → flow ≡ true
        → (min (outstanding view.links + 1) 65535 ≤ outstanding (cond flow (on_link (acl_handle (acl_packet piece)) change view) view).links)
        × ((cond flow (on_link (acl_handle (acl_packet piece)) change view) view).flow.on ≡ true)
    by true change more is = (one_least change more (acl_handle (acl_packet piece)) view.links opened, on)
    by false change more is = absurd (let h : false ≡ true = is in absurd cc)

handed_least : (pieces : List (ℕ × Piece)) (view : View) → view.flow.on ≡ true
    → AllByRecursion (λ (piece : ℕ × Piece). is_some (out_in view.links (acl_handle (acl_packet piece))) ≡ true) pieces
    → min (outstanding view.links + length pieces) 65535 ≤ outstanding (fold view_noted view (pieces_noted pieces)).links
handed_least [] view on opened = omega arith
handed_least (piece ∷ pieces) view on opened =
    let one = piece_least piece view on opened.0 in
    let next = view_noted view (note_received piece) in
    let still = followed_opens view (pieces_noted (piece ∷ [])) (pieces_open (piece ∷ [])) in
    let least = one.0 in
    let rest = handed_least pieces next one.1 (moved next.links view.links pieces opened.1 (λ handle. same_places next.links view.links still handle)) in
    omega (arith, least, rest)
  where
    moved : (after before : List (Option ViewLink)) (some : List (ℕ × Piece))
        → AllByRecursion (λ (one : ℕ × Piece). is_some (out_in before (acl_handle (acl_packet one))) ≡ true) some
        → ((handle : ℕ) → is_some (out_in after handle) ≡ is_some (out_in before handle))
        → AllByRecursion (λ (one : ℕ × Piece). is_some (out_in after (acl_handle (acl_packet one))) ≡ true) some
    moved after before [] all same = tt
    moved after before (one ∷ some) all same = (same (acl_handle (acl_packet one)) ∙ all.0, moved after before some all.1 same)

full_by : (on : Bool) (count outstanding : ℕ) → on ≡ true → min count 65535 ≤ outstanding → (on && nat_le (min count 65535) outstanding) ≡ true
full_by true count outstanding on least = le_true (min count 65535) outstanding least
  where
    le_true : (n m : ℕ) → n ≤ m → nat_le n m ≡ true
    le_true n m less = grind (arith, nat_tests)
full_by false count outstanding on least = absurd (let h : false ≡ true = on in absurd cc)

-- as the last piece is received of those that a host with flow control can still take
pub full_as_handed : (given : Given) → ((station : ℕ) → (setup_at given station).links ≤ 6) → Each (IsSeenReady given) [] (history_of (run_of given))
    → (station : ℕ) (base rest : List Event) → history_of (run_of given) ≡ base ++ Called station TurnEnds ∷ rest
    → (facts_at given station base).view.flow.on ≡ true
    → outstanding (facts_at given station base).view.links + length (pieces_handed (facts_at given station base)) ≡ (facts_at given station base).view.flow.acl_count
    → is_host_full (side_of station) (journal_of (base ++ Called station TurnEnds ∷ map (Noted station) (notes_pieces (facts_at given station base)))) ≡ true
full_as_handed given few each station base rest at on count_is =
    let setup = setup_at given station in
    let past = past_of station base in
    let facts = facts_at given station base in
    let call = ready_at given few each station base rest at in
    let are = ended_notes setup facts in
    let flow = flow_then given few station base call (pieces_handed facts) (notes_then facts) are in
    let outstanding_is = outstanding_then given few station base call (pieces_handed facts) (notes_then facts) are in
    let waiting = all_open facts.links facts.received (λ handle closed. none_waits handle AnyFact setup (any_kept setup.links handle) past closed) in
    let opened = handed_are (λ (piece : ℕ × Piece). is_open facts.links piece.0 ≡ true) facts.view facts.received waiting in
    let least = handed_least (pieces_handed facts) facts.view on (in_view facts (pieces_handed facts) opened
    (view_open setup past (few station)) (λ handle is. let below = call.well.booked.links.below handle is in let most = few station in omega (arith, below, most))) in
    full_by (flow_on (side_of station) (journal_of (base ++ Called station TurnEnds ∷ map (Noted station) (notes_pieces facts)))).on
    (flow_on (side_of station) (journal_of (base ++ Called station TurnEnds ∷ map (Noted station) (notes_pieces facts)))).acl_count _
    (ap (λ held. held.on) flow ∙ on)
    (let count = ap (λ held. held.acl_count) flow in omega (arith, count, count_is, outstanding_is, least))
  where
    in_view : (facts : Facts) (pieces : List (ℕ × Piece)) → AllByRecursion (λ (piece : ℕ × Piece). is_open facts.links piece.0 ≡ true) pieces
        → ((handle : ℕ) → is_some (out_in facts.view.links handle) ≡ is_open facts.links handle) → ((handle : ℕ) → is_open facts.links handle ≡ true → handle < 4096)
        → AllByRecursion (λ (piece : ℕ × Piece). is_some (out_in facts.view.links (acl_handle (acl_packet piece))) ≡ true) pieces
    in_view facts [] all same small = tt
    in_view facts (piece ∷ pieces) all same small = (
      ap (λ (h : ℕ). is_some (out_in facts.view.links h)) (acl_handle_is piece (small piece.0 all.0)) ∙ same piece.0 ∙ all.0,
      in_view facts pieces all.1 same small,
    )

-- ---- a pair

pub pair_few : (a b : List ℕ) (script : Script) (station : ℕ) → (setup_at (given_of a b script) station).links ≤ 6
pair_few a b script zero = omega arith
pair_few a b script (suc station) = omega arith

-- what is known at each call of a turn of a run of two stations
pub ready_of_two : IsHeardWhole → IsUnderstood → AreTaken → AreNth → AreApart → (given : Given) → IsOfTwo given → ((station : ℕ) → (setup_at given station).links ≤ 6)
    → HaveAddresses given → AreDistinct given.stations → ((station : ℕ) → (setup_at given station).host_buffers ≡ 8) → Each (IsSeenReady given) [] (history_of (run_of given))
ready_of_two whole understood taken nth apart given two few six distinct eight =
    run_ready given two distinct few whole (IsBelongingSoFar given) (known_of understood taken nth apart given two six)
    (record { links = λ station. let most = few station in omega (arith, most) }) six eight (first_data given)

pub flow_of_pair : IsHeardWhole → IsUnderstood → AreTaken → AreNth → AreApart → (a b : List ℕ) (script : Script) → length script.a.public ≡ 6 → length script.b.public ≡ 6
    → KeepsHostFlow (journal_of (history_of (run_of (given_of a b script))))
flow_of_pair whole understood taken nth apart a b script six six_too =
    keeps_flow (given_of a b script) (pair_few a b script)
    (ready_of_two whole understood taken nth apart (given_of a b script) refl (pair_few a b script) (pair_addresses a b script six six_too) (pair_distinct a b script)
    (eight_of a b script))
