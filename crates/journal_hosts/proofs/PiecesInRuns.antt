-- In every run of a pair each packet of data to a host is of the first piece that waits for it.
use Rattle.std.proofs.Common.{◌≡◌, ℕ, ◌≤◌, ◌==◌, Bool, true, false, Option, Some, None, List, [], ◌∷◌, ◌++◌, cond, length, refl, ap, sym, subst, ◌∙◌, append-nil, append_assoc}
use Rattle.std.specs.Prelude.{◌||◌, drop, filter, fold, not, take, ⊤}
use Rattle.std.specs.List.{find}
use Rattle.std.specs.Option.{option_map}
use Rattle.std.proofs.lemmas.Bool.{eq-eqb, eqb-true, or_parts}
use Rattle.std.proofs.lemmas.List.Concat.{flat_map-append}
use Rattle.std.proofs.lemmas.List.Sums.{fold-append}
use Rattle.acl_banks.specs.declared.pieces.Piece.{Piece}
use Rattle.ble_base.specs.declared.notes.Note.{Note}
use Rattle.ble_base.specs.declared.notes.Note.TheVariants.{Up as UpNote, Opened as OpenedNote, Shut as ShutNote, Sent as SentNote, Took as TookNote}
use Rattle.ble_base.specs.declared.roles.Side.{Side}
use Rattle.host_view.specs.Flow.{left_of}
use Rattle.host_view.specs.Noted.{is_acl_data}
use Rattle.journal.specs.declared.entries.Entry.{Entry}
use Rattle.journal.specs.declared.entries.Entry.TheVariants.{Fed as FedEntry, Up}
use Rattle.radio_replay.specs.Script.{Script}
use Rattle.run_model.specs.Due.{Each}
use Rattle.run_model.specs.History.{Event, TurnBegan, HostFed, Called, Noted, Transmitted, Hearing, noted_by, notes_in, one_if, past_of}
use Rattle.run_model.specs.Journal.{air_entries, entries_of, entry_of, journal_of, side_of}
use Rattle.run_model.specs.Links.{links_of}
use Rattle.run_model.specs.Pair.{given_of}
use Rattle.run_model.specs.Run.{Given, facts_at, history_of, run_of, setup_at}
use Rattle.run_model.proofs.Calls.{noted_called, same_station}
use Rattle.run_model.proofs.Journals.{each_front}
use Rattle.run_model.proofs.LinkEnds.{AreTaken, IsUnderstood, pair_addresses}
use Rattle.run_model.proofs.OfStations.{OfStations, run_of_stations}
use Rattle.run_model.proofs.Ordered.{pair_distinct}
use Rattle.run_model.proofs.Parts.{journal_event}
use Rattle.run_model.proofs.Places.{each_at}
use Rattle.run_model.proofs.Stations.{is_in}
use Rattle.journal_data.specs.controller_model.Data.{acl_packet}
use Rattle.journal_data.specs.controller_model.Step.{TurnEnds}
use Rattle.journal_data.specs.link_model.Data.{is_data}
use Rattle.journal_data.specs.link_model.Pieces.{piece_in}
use Rattle.journal_data.specs.open_links.Ended.{received_without}
use Rattle.journal_data.proofs.controller_model.Handing.{handed_first}
use Rattle.journal_data.proofs.link_model.Hearing.{IsHeardWhole}
use Rattle.journal_data.proofs.run_laws.DistinctAccess.{AreApart}
use Rattle.journal_data.proofs.run_laws.InAgreement.{differs_back}
use Rattle.journal_data.proofs.journal_packets.AccessOrder.{AreNth}
use Rattle.journal_data.proofs.journal_packets.SoFar.{IsBelongingSoFar}
use Rattle.journal_data.proofs.journal_acks.Known.{known_of}
use Rattle.journal_data.proofs.journal_acks.TwoStations.{IsOfTwo, other_apart, side_same}
use Rattle.journal_data.specs.journal_packets.Belonging.{is_side}
use Rattle.journal_data.specs.Held.{is_open_link, links_open}
use Rattle.journal_data.specs.HostLines.{OpenUnder, link_under}
use Rattle.journal_data.specs.Lines.{Lines, line_after, lines_of}
use Rattle.journal_data.proofs.EachLine.{IsElsewhere, air_lines, event_lines, lines_at, note_lines, note_other}
use Rattle.journal_data.proofs.FewLinks.{pair_links}
use Rattle.journal_data.proofs.HeldInRuns.{run_held}
use Rattle.journal_data.proofs.HeldNotes.{IsHeld, IsHeldNote}
use Rattle.journal_data.proofs.Law.{eight_of, first_data}
use Rattle.journal_hosts.specs.HostOrder.{AllComeInOrder, IsOfFirst, LinkPiece, piece_packet, pieces_taken, waiting_after, waiting_by, waiting_for}
use Rattle.journal_hosts.proofs.FlowInRuns.{of_piece, pair_few, ready_at, ready_of_two}
use Rattle.journal_hosts.proofs.FlowKept.{IsSeenReady}
use Rattle.journal_hosts.proofs.NotedPieces.{handed_waits, pieces_noted_are, taken_piece, waits_noted}
use Rattle.journal_hosts.proofs.ViewCounts.{pieces_noted}

-- ---- pieces by the lines, and as their controller holds them

record IsPieceOf (links : List OpenUnder) (one : LinkPiece) (piece : ℕ × Piece) : Type 0 where
  under : link_under piece.0 links ≡ Some one.link
  start : one.start ≡ piece.1.start
  body : one.body ≡ piece.1.body.items

abbrev ArePiecesOf : List OpenUnder → List LinkPiece → List (ℕ × Piece) → Type 0
ArePiecesOf links [] [] = ⊤
ArePiecesOf links (one ∷ ones) (piece ∷ pieces) = IsPieceOf links one piece × ArePiecesOf links ones pieces
ArePiecesOf links [] (piece ∷ pieces) = ⊥
ArePiecesOf links (one ∷ ones) [] = ⊥

module _ (links : List OpenUnder) where
  are_more : (ones more : List LinkPiece) (pieces others : List (ℕ × Piece)) → ArePiecesOf links ones pieces → ArePiecesOf links more others
      → ArePiecesOf links (ones ++ more) (pieces ++ others)
  are_more [] more [] others are also = also
  are_more (one ∷ ones) more (piece ∷ pieces) others are also = (are.0, are_more ones more pieces others are.1 also)
  are_more [] more (piece ∷ pieces) others are also = absurd are
  are_more (one ∷ ones) more [] others are also = absurd are

  are_later : (ones : List LinkPiece) (pieces : List (ℕ × Piece)) → ArePiecesOf links ones pieces → ArePiecesOf links (drop 1 ones) (drop 1 pieces)
  are_later [] [] are = tt
  are_later (one ∷ ones) (piece ∷ pieces) are = are.1
  are_later [] (piece ∷ pieces) are = absurd are
  are_later (one ∷ ones) [] are = absurd are

  -- links more
  are_moved : (after : List OpenUnder) → ((handle link : ℕ) → link_under handle links ≡ Some link → link_under handle after ≡ Some link)
      → (ones : List LinkPiece) (pieces : List (ℕ × Piece)) → ArePiecesOf links ones pieces → ArePiecesOf after ones pieces
  are_moved after moved [] [] are = tt
  are_moved after moved (one ∷ ones) (piece ∷ pieces) are = (
    record { under = moved piece.0 one.link are.0.under; start = are.0.start; body = are.0.body },
    are_moved after moved ones pieces are.1,
  )
  are_moved after moved [] (piece ∷ pieces) are = absurd are
  are_moved after moved (one ∷ ones) [] are = absurd are

-- ---- links under handles

abbrev found_in : Bool → OpenUnder → List OpenUnder → ℕ → Option ℕ
found_in own one links handle = option_map (λ (x : OpenUnder). x.link) (cond own (Some one) (find (λ (x : OpenUnder). x.handle == handle) links))

under_more : (links more : List OpenUnder) (handle link : ℕ) → link_under handle links ≡ Some link → link_under handle (links ++ more) ≡ Some link
under_more [] more handle link is = absurd (let h : None ≡ Some link = is in cc)
under_more (one ∷ links) more handle link is = by (one.handle == handle) is (under_more links more handle link)
  where
    by : (own : Bool) → found_in own one links handle ≡ Some link → (link_under handle links ≡ Some link → link_under handle (links ++ more) ≡ Some link)
        → found_in own one (links ++ more) handle ≡ Some link
    by true is later = is
    by false is later = later is

-- no two have one number
abbrev HaveOwn : List OpenUnder → Type 0
HaveOwn [] = ⊤
HaveOwn (one ∷ links) = (is_open_link one.link links ≡ false) × HaveOwn links

open_under : (links : List OpenUnder) (handle link : ℕ) → link_under handle links ≡ Some link → is_open_link link links ≡ true
open_under [] handle link is = absurd (let h : None ≡ Some link = is in cc)
open_under (one ∷ links) handle link is = by (one.handle == handle) (one.link == link) refl is (open_under links handle link)
  where
    by : (own same : Bool) → (one.link == link) ≡ same → found_in own one links handle ≡ Some link
        → (link_under handle links ≡ Some link → is_open_link link links ≡ true) → (same || is_open_link link links) ≡ true
    by own true same is later = refl
    by true false same is later =
        let equal : one.link ≡ link = cc in absurd (let h : true ≡ false = sym (eq-eqb one.link link equal) ∙ same in absurd cc)
    by false false same is later = later is

one_handle : (links : List OpenUnder) (handle other link : ℕ) → HaveOwn links → link_under handle links ≡ Some link → link_under other links ≡ Some link
    → handle ≡ other
one_handle [] handle other link own is is_too = absurd (let h : None ≡ Some link = is in cc)
one_handle (one ∷ links) handle other link own is is_too =
    by (one.handle == handle) (one.handle == other) refl refl is is_too (one_handle links handle other link own.1)
  where
    apart : (third : ℕ) → one.link ≡ link → link_under third links ≡ Some link → handle ≡ other
    apart third first found =
        absurd (let h : true ≡ false = sym (open_under links third link found) ∙ ap (λ n. is_open_link n links) (sym first) ∙ own.0 in absurd cc)

    by : (mine also : Bool) → (one.handle == handle) ≡ mine → (one.handle == other) ≡ also → found_in mine one links handle ≡ Some link
        → found_in also one links other ≡ Some link → (link_under handle links ≡ Some link → link_under other links ≡ Some link → handle ≡ other) → handle ≡ other
    by true true a b is is_too later = sym (eqb-true one.handle handle a) ∙ eqb-true one.handle other b
    by true false a b is is_too later = apart other (let same : one.link ≡ link = cc in same) is_too
    by false true a b is is_too later = apart handle (let same : one.link ≡ link = cc in same) is
    by false false a b is is_too later = later is is_too

-- a link is opened
own_more : (links : List OpenUnder) (new : OpenUnder) → is_open_link new.link links ≡ false → HaveOwn links → HaveOwn (links ++ new ∷ [])
own_more [] new none own = (refl, tt)
own_more (one ∷ links) new none own =
    let parts = or_parts (one.link == new.link) (is_open_link new.link links) none in
    (still links own.0 (differs_back one.link new.link parts.0), own_more links new parts.1 own.1)
  where
    still : (some : List OpenUnder) → is_open_link one.link some ≡ false → (new.link == one.link) ≡ false → is_open_link one.link (some ++ new ∷ []) ≡ false
    still [] none differs = ap (λ (same : Bool). same || false) differs
    still (first ∷ some) none differs =
        let parts = or_parts (first.link == one.link) (is_open_link one.link some) none in
        (λ i. parts.0 i || still some parts.1 differs i)

-- a link is shut
abbrev without : ℕ → List OpenUnder → List OpenUnder
without link links = filter (λ (one : OpenUnder). not (one.link == link)) links

none_without : (link own : ℕ) (links : List OpenUnder) → is_open_link own links ≡ false → is_open_link own (without link links) ≡ false
none_without link own [] none = refl
none_without link own (one ∷ links) none =
    let parts = or_parts (one.link == own) (is_open_link own links) none in by (one.link == link) parts.0 (none_without link own links parts.1)
  where
    by : (shut : Bool) → (one.link == own) ≡ false → is_open_link own (without link links) ≡ false
        → is_open_link own (cond (not shut) (one ∷ without link links) (without link links)) ≡ false
    by true differs rest = rest
    by false differs rest = λ i. differs i || rest i

own_without : (link : ℕ) (links : List OpenUnder) → HaveOwn links → HaveOwn (without link links)
own_without link [] own = tt
own_without link (one ∷ links) own = by (one.link == link) (none_without link one.link links own.0) (own_without link links own.1)
  where
    by : (shut : Bool) → is_open_link one.link (without link links) ≡ false → HaveOwn (without link links)
        → HaveOwn (cond (not shut) (one ∷ without link links) (without link links))
    by true none rest = rest
    by false none rest = (none, rest)

under_without : (shut : ℕ) (links : List OpenUnder) (handle link : ℕ) → (link == shut) ≡ false → link_under handle links ≡ Some link
    → link_under handle (without shut links) ≡ Some link
under_without shut [] handle link differs is = is
under_without shut (one ∷ links) handle link differs is = by (one.handle == handle) (one.link == shut) refl refl is (under_without shut links handle link differs)
  where
    by : (own gone : Bool) → (one.handle == handle) ≡ own → (one.link == shut) ≡ gone → found_in own one links handle ≡ Some link
        → (link_under handle links ≡ Some link → link_under handle (without shut links) ≡ Some link)
        → link_under handle (cond (not gone) (one ∷ without shut links) (without shut links)) ≡ Some link
    by true true a b is later =
        let same : one.link ≡ link = cc in
        absurd (let h : true ≡ false = sym b ∙ ap (λ n. n == shut) same ∙ differs in absurd cc)
    by true false a b is later = ap (λ (own : Bool). found_in own one (without shut links) handle) a ∙ is
    by false true a b is later = later is
    by false false a b is later = ap (λ (own : Bool). found_in own one (without shut links) handle) a ∙ later is

abbrev waits_without : ℕ → List LinkPiece → List LinkPiece
waits_without link ones = filter (λ (one : LinkPiece). not (one.link == link)) ones

are_without : (links : List OpenUnder) (handle shut : ℕ) → HaveOwn links → link_under handle links ≡ Some shut → (ones : List LinkPiece) (pieces : List (ℕ × Piece))
    → ArePiecesOf links ones pieces → ArePiecesOf (without shut links) (waits_without shut ones) (received_without handle pieces)
are_without links handle shut own at [] [] are = tt
are_without links handle shut own at [] (piece ∷ pieces) are = absurd are
are_without links handle shut own at (one ∷ ones) [] are = absurd are
are_without links handle shut own at (one ∷ ones) (piece ∷ pieces) are =
    by (one.link == shut) (piece.0 == handle) refl refl (are_without links handle shut own at ones pieces are.1)
  where
    by : (gone mine : Bool) → (one.link == shut) ≡ gone → (piece.0 == handle) ≡ mine
        → ArePiecesOf (without shut links) (waits_without shut ones) (received_without handle pieces)
        → ArePiecesOf (without shut links) (cond (not gone) (one ∷ waits_without shut ones) (waits_without shut ones))
        (cond (not mine) (piece ∷ received_without handle pieces) (received_without handle pieces))
    by true true a b rest = rest
    by false false a b rest = (record { under = under_without shut links piece.0 one.link a are.0.under; start = are.0.start; body = are.0.body }, rest)
    by true false a b rest =
        let same = one_handle links piece.0 handle shut own (are.0.under ∙ ap (λ n. Some n) (eqb-true one.link shut a)) at in
        absurd (let h : true ≡ false = sym (eq-eqb piece.0 handle same) ∙ b in absurd cc)
    by false true a b rest =
        let found : Some one.link ≡ Some shut = sym are.0.under ∙ ap (λ n. link_under n links) (eqb-true piece.0 handle b) ∙ at in
        let same : one.link ≡ shut = cc in
        absurd (let h : true ≡ false = sym (eq-eqb one.link shut same) ∙ a in absurd cc)

-- ---- event by event

abbrev waiting_at : ℕ → List Event → List LinkPiece
waiting_at station history = waiting_for (side_of station) (journal_of history)

abbrev noted_at : ℕ → List Event → List (ℕ × Piece)
noted_at station history = fold waits_noted [] (noted_by station history)

-- what waits by the lines is what waits by the notes
record AreAlike (station : ℕ) (history : List Event) : Type 0 where
  own : HaveOwn (lines_at station history).links
  are : ArePiecesOf (lines_at station history).links (waiting_at station history) (noted_at station history)

event_waiting : (station : ℕ) (history : List Event) (event : Event)
    → waiting_at station (history ++ event ∷ []) ≡ fold (waiting_after (side_of station)) (waiting_at station history) (entries_of (links_of history) event)
unfolding waiting_for
event_waiting station history event =
    ap (waiting_for (side_of station)) (journal_event history event)
    ∙ fold-append (waiting_after (side_of station)) [] (journal_of history) (entries_of (links_of history) event)

event_noted : (station : ℕ) (history : List Event) (event : Event) → noted_at station (history ++ event ∷ []) ≡ fold waits_noted (noted_at station history) (notes_in station event ++ [])
event_noted station history event =
    ap (fold waits_noted []) (flat_map-append (notes_in station) history (event ∷ []))
    ∙ fold-append waits_noted [] (noted_by station history) (notes_in station event ++ [])

alike_moved : (station : ℕ) (history after : List Event) → (lines_at station after).links ≡ (lines_at station history).links
    → waiting_at station after ≡ waiting_at station history → noted_at station after ≡ noted_at station history → AreAlike station history → AreAlike station after
alike_moved station history after links waiting noted alike = record {
  own = subst HaveOwn (sym links) alike.own;
  are = subst (λ (all : List OpenUnder). ArePiecesOf all (waiting_at station after) (noted_at station after)) (sym links)
      (subst (λ (ones : List LinkPiece). ArePiecesOf (lines_at station history).links ones (noted_at station after)) (sym waiting)
      (subst (ArePiecesOf (lines_at station history).links (waiting_at station history)) (sym noted) alike.are));
}

-- ---- a note of the station

module _ (links : List OpenUnder) (ones : List LinkPiece) (pieces : List (ℕ × Piece)) (are : ArePiecesOf links ones pieces) where
  took_are : (handle link llid : ℕ) (body : List ℕ) → link_under handle links ≡ Some link
      → ArePiecesOf links (ones ++ pieces_taken link llid body) (pieces ++ taken_piece handle (record { llid = llid; body = body }))
  took_are handle link llid body under =
      are_more links ones (pieces_taken link llid body) pieces (taken_piece handle (record { llid = llid; body = body })) are (by (is_data (record { llid = llid; body = body })))
    where
      by : (some : Bool) → ArePiecesOf links (cond some (record { link = link; start = llid == 2; body = body } ∷ []) [])
          (cond some ((handle, piece_in (record { llid = llid; body = body })) ∷ []) [])
      by true = (record { under = under; start = refl; body = refl }, tt)
      by false = tt

  up_are : (acl : Bool) → ArePiecesOf links (cond acl (drop 1 ones) ones) (cond acl (drop 1 pieces) pieces)
  up_are true = are_later links ones pieces are
  up_are false = are

abbrev lines_noted : ℕ → List Event → Note → Lines
lines_noted station history note =
    line_after 8 (lines_at station history) (entry_of (side_of station) ((links_of history).link_of station) ((links_of history).last_of station) note)

abbrev waiting_noted : ℕ → List Event → Note → List LinkPiece
waiting_noted station history note =
    waiting_by (waiting_at station history) (entry_of (side_of station) ((links_of history).link_of station) ((links_of history).last_of station) note)

own_noted : (station : ℕ) (history : List Event) (note : Note) → IsHeldNote station history note → AreAlike station history → HaveOwn (lines_noted station history note).links
own_noted station history (OpenedNote handle role own peer) held alike = own_more (lines_at station history).links _ held.new alike.own
own_noted station history (ShutNote handle reason) held alike = own_without _ (lines_at station history).links alike.own
own_noted station history (UpNote packet) held alike = alike.own
own_noted station history note held alike = alike.own

are_noted : (station : ℕ) (history : List Event) (note : Note) → IsHeldNote station history note → AreAlike station history
    → ArePiecesOf (lines_noted station history note).links (waiting_noted station history note) (waits_noted (noted_at station history) note)
are_noted station history (OpenedNote handle role own peer) held alike =
    let links = (lines_at station history).links in
    are_moved links (links ++ record { link = (links_of history).last_of station; handle = handle } ∷ [])
    (λ other link is. under_more links (record { link = (links_of history).last_of station; handle = handle } ∷ []) other link is)
    (waiting_at station history) (noted_at station history) alike.are
are_noted station history (ShutNote handle reason) held alike =
    are_without (lines_at station history).links handle ((links_of history).link_of station handle) alike.own held (waiting_at station history) (noted_at station history) alike.are
are_noted station history (TookNote handle number llid body) held alike =
    took_are (lines_at station history).links (waiting_at station history) (noted_at station history) alike.are handle ((links_of history).link_of station handle) llid body.items held
are_noted station history (UpNote packet) held alike =
    up_are (lines_at station history).links (waiting_at station history) (noted_at station history) alike.are (is_acl_data packet.items)
are_noted station history note held alike = alike.are

waiting_own : (side : Side) (waiting : List LinkPiece) (link_of : ℕ → ℕ) (last : ℕ) (note : Note) → is_side side side ≡ true
    → waiting_after side waiting (entry_of side link_of last note) ≡ waiting_by waiting (entry_of side link_of last note)
waiting_own side waiting link_of last (UpNote packet) own =
    ap (λ (is : Bool). cond is (waiting_by waiting (entry_of side link_of last (UpNote packet))) waiting) own
waiting_own side waiting link_of last (OpenedNote handle role mine peer) own = ap (λ (is : Bool). cond is waiting waiting) own
waiting_own side waiting link_of last (ShutNote handle reason) own =
    ap (λ (is : Bool). cond is (waiting_by waiting (entry_of side link_of last (ShutNote handle reason))) waiting) own
waiting_own side waiting link_of last (SentNote handle number llid body) own = ap (λ (is : Bool). cond is waiting waiting) own
waiting_own side waiting link_of last (TookNote handle number llid body) own =
    ap (λ (is : Bool). cond is (waiting_by waiting (entry_of side link_of last (TookNote handle number llid body))) waiting) own
waiting_own side waiting link_of last note own = refl

waiting_other : (side other : Side) (waiting : List LinkPiece) (link_of : ℕ → ℕ) (last : ℕ) (note : Note) → is_side other side ≡ false
    → waiting_after side waiting (entry_of other link_of last note) ≡ waiting
waiting_other side other waiting link_of last (UpNote packet) apart =
    ap (λ (is : Bool). cond is (waiting_by waiting (entry_of other link_of last (UpNote packet))) waiting) apart
waiting_other side other waiting link_of last (OpenedNote handle role mine peer) apart = ap (λ (is : Bool). cond is waiting waiting) apart
waiting_other side other waiting link_of last (ShutNote handle reason) apart =
    ap (λ (is : Bool). cond is (waiting_by waiting (entry_of other link_of last (ShutNote handle reason))) waiting) apart
waiting_other side other waiting link_of last (SentNote handle number llid body) apart = ap (λ (is : Bool). cond is waiting waiting) apart
waiting_other side other waiting link_of last (TookNote handle number llid body) apart =
    ap (λ (is : Bool). cond is (waiting_by waiting (entry_of other link_of last (TookNote handle number llid body))) waiting) apart
waiting_other side other waiting link_of last note apart = refl

note_alike : (station : ℕ) (history : List Event) (note : Note) → IsHeldNote station history note → AreAlike station history
    → AreAlike station (history ++ Noted station note ∷ [])
note_alike station history note held alike =
    let after = history ++ Noted station note ∷ [] in
    let links = ap (λ (lines : Lines). lines.links) (note_lines station history note) in
    let waiting = event_waiting station history (Noted station note)
    ∙ waiting_own (side_of station) (waiting_at station history) ((links_of history).link_of station) ((links_of history).last_of station) note (side_same station) in
    let noted = event_noted station history (Noted station note)
    ∙ ap (λ (own : Bool). fold waits_noted (noted_at station history) (one_if own note ++ [])) (same_station station) in record {
      own = subst HaveOwn (sym links) (own_noted station history note held alike);
      are = subst (λ (all : List OpenUnder). ArePiecesOf all (waiting_at station after) (noted_at station after)) (sym links)
          (subst (λ (ones : List LinkPiece). ArePiecesOf (lines_noted station history note).links ones (noted_at station after)) (sym waiting)
          (subst (ArePiecesOf (lines_noted station history note).links (waiting_noted station history note)) (sym noted) (are_noted station history note held alike)));
    }

-- ---- any event

fed_links : (own : Bool) (lines : Lines) (side : Side) (octets : List ℕ) → (cond own (line_after 8 lines (FedEntry side octets)) lines).links ≡ lines.links
fed_links true lines side octets = refl
fed_links false lines side octets = refl

same_if : {A : Type 0} (own : Bool) (x : A) → cond own x x ≡ x
same_if true x = refl
same_if false x = refl

no_air : (side sender : Side) (waiting : List LinkPiece) (channel : ℕ) (octets : List ℕ) (hearings : List Hearing)
    → fold (waiting_after side) waiting (air_entries sender channel octets hearings) ≡ waiting
no_air side sender waiting channel octets [] = refl
no_air side sender waiting channel octets (hearing ∷ hearings) = refl

event_alike : (station : ℕ) (history : List Event) (event : Event)
    → ((other : ℕ) (note : Note) → event ≡ Noted other note → (other == station) ≡ false → IsElsewhere station other)
    → IsHeld history event → AreAlike station history → AreAlike station (history ++ event ∷ [])
event_alike station history (TurnBegan slot radios) apart held alike =
    let event = TurnBegan slot radios in
    alike_moved station history (history ++ event ∷ []) (ap (λ (lines : Lines). lines.links) (event_lines station history event)) (event_waiting station history event)
    (event_noted station history event) alike
event_alike station history (HostFed other octets) apart held alike =
    let event = HostFed other octets in
    alike_moved station history (history ++ event ∷ [])
    (ap (λ (lines : Lines). lines.links) (event_lines station history event)
    ∙ fed_links (is_side (side_of other) (side_of station)) (lines_at station history) (side_of other) octets)
    (event_waiting station history event ∙ same_if (is_side (side_of other) (side_of station)) (waiting_at station history))
    (event_noted station history event) alike
event_alike station history (Called other step) apart held alike =
    let event = Called other step in
    alike_moved station history (history ++ event ∷ []) (ap (λ (lines : Lines). lines.links) (event_lines station history event)) (event_waiting station history event)
    (event_noted station history event) alike
event_alike station history (Transmitted sender channel octets hearings) apart held alike =
    let event = Transmitted sender channel octets hearings in
    alike_moved station history (history ++ event ∷ []) (ap (λ (lines : Lines). lines.links) (air_lines station history sender channel octets hearings))
    (event_waiting station history event ∙ no_air (side_of station) (side_of sender) (waiting_at station history) channel octets hearings)
    (event_noted station history event) alike
event_alike station history (Noted other note) apart held alike = by (other == station) refl
  where
    by : (same : Bool) → (other == station) ≡ same → AreAlike station (history ++ Noted other note ∷ [])
    by true same =
        let is = eqb-true other station same in
        subst (λ n. AreAlike station (history ++ Noted n note ∷ [])) (sym is) (note_alike station history note (subst (λ n. IsHeldNote n history note) is held) alike)
    by false differs =
        let event = Noted other note in
        alike_moved station history (history ++ event ∷ [])
        (ap (λ (lines : Lines). lines.links) (note_other station other history note (apart other note refl differs)))
        (event_waiting station history event
        ∙ waiting_other (side_of station) (side_of other) (waiting_at station history) ((links_of history).link_of other) ((links_of history).last_of other) note
        (apart other note refl differs))
        (event_noted station history event ∙ ap (λ (own : Bool). fold waits_noted (noted_at station history) (one_if own note ++ [])) (differs_back other station differs)) alike

module _ (given : Given) (two : IsOfTwo given) (station : ℕ) (in_it : is_in station given.stations ≡ true) where
  alike_from : (events history : List Event) → Each IsHeld history events → Each (OfStations given) history events → AreAlike station history
      → AreAlike station (history ++ events)
  alike_from [] history held of alike = subst (AreAlike station) (sym (append-nil history)) alike
  alike_from (event ∷ events) history held of alike =
      subst (AreAlike station) (append_assoc history (event ∷ []) events)
      (alike_from events (history ++ event ∷ []) held.1 of.1
      (event_alike station history event
      (λ other note is differs. other_apart given two station other in_it (subst (OfStations given history) is of.0) differs) held.0 alike))

  first_alike : AreAlike station []
  unfolding journal_of lines_of waiting_for
  first_alike = record { own = tt; are = tt }

-- ---- each packet of data

record IsFront (links : List OpenUnder) (ones : List LinkPiece) (piece : ℕ × Piece) : Type 0 where
  one : LinkPiece
  first : take 1 ones ≡ one ∷ []
  is : IsPieceOf links one piece

front_piece : (links : List OpenUnder) (ones : List LinkPiece) (piece : ℕ × Piece) (pieces : List (ℕ × Piece)) → ArePiecesOf links ones (piece ∷ pieces)
    → IsFront links ones piece
front_piece links [] piece pieces are = absurd are
front_piece links (one ∷ ones) piece pieces are = record { one = one; first = refl; is = are.0 }

same_packet : (piece : ℕ × Piece) (one : LinkPiece) → one.start ≡ piece.1.start → one.body ≡ piece.1.body.items → acl_packet piece ≡ piece_packet piece.0 one
same_packet piece one start body = λ i. piece_packet piece.0 (record { link = one.link; start = sym start i; body = sym body i })

module _ (given : Given) (two : IsOfTwo given) (few : (station : ℕ) → (setup_at given station).links ≤ 6)
    (each : Each (IsSeenReady given) [] (history_of (run_of given))) (held : Each IsHeld [] (history_of (run_of given))) where
  packet_first : (front rest : List Entry) (side : Side) (octets : List ℕ) → journal_of (history_of (run_of given)) ≡ front ++ Up side octets ∷ rest
      → is_acl_data octets ≡ true → IsOfFirst (waiting_for side front) (links_open side front) octets
  packet_first front rest side octets is acl =
      let of = of_piece given few each front rest side octets is acl in
      let station = of.station in
      let call = of.call in
      let event = Noted station (UpNote of.packet) in
      let in_it = each_at (OfStations given) (history_of (run_of given)) of.before of.later event (run_of_stations given) of.is_at in
      let alike = alike_from given two station in_it of.before []
      (each_front IsHeld [] of.before (event ∷ of.later) (subst (Each IsHeld []) of.is_at held))
      (each_front (OfStations given) [] of.before (event ∷ of.later) (subst (Each (OfStations given) []) of.is_at (run_of_stations given)))
      (first_alike given two station in_it) in
      let facts = facts_at given station call.base in
      let well = (ready_at given few each station call.base call.rest call.is_at).well in
      let left = left_of facts.view facts.received in
      let pieces : noted_at station of.before ≡ call.piece ∷ (call.others ++ left) =
      ap (noted_at station) call.before_is
      ∙ ap (fold waits_noted []) (noted_called station station TurnEnds (pieces_noted call.first) call.base true (same_station station))
      ∙ fold-append waits_noted [] (noted_by station call.base) (pieces_noted call.first)
      ∙ ap (λ (waiting : List (ℕ × Piece)). fold waits_noted waiting (pieces_noted call.first))
      (ap (fold waits_noted []) well.noted ∙ pieces_noted_are (setup_at given station) (past_of station call.base)
      ∙ sym (handed_first facts.view facts.received) ∙ ap (λ (all : List (ℕ × Piece)). all ++ left) call.pieces_are
      ∙ append_assoc call.first (call.piece ∷ call.others) left)
      ∙ handed_waits call.first (call.piece ∷ (call.others ++ left)) in
      let at = front_piece (lines_at station of.before).links (waiting_at station of.before) call.piece (call.others ++ left)
      (subst (ArePiecesOf (lines_at station of.before).links (waiting_at station of.before)) pieces alike.are) in record {
        piece = at.one;
        handle = call.piece.0;
        first = (λ i. take 1 (waiting_for (sym of.side_is i) (of.front_is i))) ∙ at.first;
        under = (λ i. link_under call.piece.0 (links_open (sym of.side_is i) (of.front_is i))) ∙ at.is.under;
        octets_are = sym of.octets_are ∙ call.packet_is ∙ same_packet call.piece at.one at.is.start at.is.body;
      }

-- ---- a pair

pub order_of_pair : IsHeardWhole → IsUnderstood → AreTaken → AreNth → AreApart → (a b : List ℕ) (script : Script) → length script.a.public ≡ 6 → length script.b.public ≡ 6
    → AllComeInOrder (journal_of (history_of (run_of (given_of a b script))))
order_of_pair whole understood taken nth apart a b script six six_too =
    let given = given_of a b script in
    let addresses = pair_addresses a b script six six_too in
    packet_first given refl (pair_few a b script)
    (ready_of_two whole understood taken nth apart given refl (pair_few a b script) addresses (pair_distinct a b script) (eight_of a b script))
    (run_held whole given (IsBelongingSoFar given) (known_of understood taken nth apart given refl addresses) refl (pair_links a b script) addresses
    (pair_distinct a b script) (eight_of a b script) (first_data given))
