-- As an end enters an event, the lines up to that of the event tell of it what it holds then.
use Rattle.std.proofs.Common.{◌≡◌, ℕ, ◌==◌, nat_lt, not, Bool, true, false, Some, List, [], ◌∷◌, ◌++◌, length, map, refl, sym, ap, subst, ◌∙◌, append_assoc, arith}
use Rattle.std.specs.Prelude.{All}
use Rattle.std.proofs.lemmas.Bool.Decides.{nat_tests}
use Rattle.std.proofs.lemmas.Bool.{and_parts, eq-eqb, ne_eqb}
use Rattle.std.proofs.lemmas.List.{append_cancel_left}
use Rattle.std.proofs.lemmas.List.Elements.{All-append, All-cons, All-from_recursion, All-nil, recursion_from_All}
use Rattle.std.proofs.lemmas.Option.{same_Some}
use Rattle.acl_banks.specs.History.{octets_of}
use Rattle.ble_base.specs.declared.notes.Note.{Note}
use Rattle.ble_base.specs.declared.notes.Note.TheVariants.{Enter as EnterNote}
use Rattle.ble_base.specs.declared.roles.Side.{Side}
use Rattle.journal.specs.declared.entries.Entry.{Entry}
use Rattle.journal.specs.declared.entries.Entry.TheVariants.{Enter}
use Rattle.journal_sending.specs.journal_leaving.controller_model.Facts.{Facts}
use Rattle.journal_sending.specs.journal_leaving.controller_model.Links.{facts_ending}
use Rattle.journal_sending.specs.journal_leaving.controller_model.Side.{facts_after, notes_after}
use Rattle.journal_sending.specs.journal_leaving.controller_model.Step.{Step as Call, TurnBegins}
use Rattle.journal_sending.specs.journal_leaving.controller_model.declared.doing.Doing.{Doing}
use Rattle.journal_sending.specs.journal_leaving.journal_acks.Carried.{carried_of, pdu_carried}
use Rattle.journal_sending.specs.journal_leaving.journal_acks.Counted.{IsCounted}
use Rattle.journal_sending.specs.journal_leaving.journal_acks.Exchange.{Exchanged}
use Rattle.journal_sending.specs.journal_leaving.journal_acks.link_calls.Uses.{fixes_under, sends_under}
use Rattle.journal_sending.specs.journal_leaving.journal_controls.SaidLines.{NoneOpens, moved_by}
use Rattle.journal_sending.specs.journal_leaving.journal_controls.TurnSteps.{steps_begun}
use Rattle.journal_sending.specs.journal_leaving.journal_controls.Withheld.{Withheld}
use Rattle.journal_sending.specs.journal_leaving.journal_data.open_links.OpenLinks.{OpenLink, facts_in, link_at}
use Rattle.journal_sending.specs.journal_leaving.journal_data.open_links.Turns.{enters_in, is_anchor, wants_entering, wants_if}
use Rattle.journal_sending.specs.journal_leaving.journal_ends.Asked.{Words}
use Rattle.journal_sending.specs.journal_leaving.journal_ends.GivenWords.{AreKept}
use Rattle.journal_sending.specs.journal_leaving.journal_links.Begun.{LinkBegun, links_begun, with_number}
use Rattle.journal_sending.specs.journal_leaving.journal_links.Changes.{role_by}
use Rattle.journal_sending.specs.journal_leaving.journal_links.LinkLines.{line_of, lines_of}
use Rattle.journal_sending.specs.journal_leaving.link_model.Acknowledgement.{is_acked, next_sent}
use Rattle.journal_sending.specs.journal_leaving.link_model.Controls.{goes_on, pdu_fixed}
use Rattle.journal_sending.specs.journal_leaving.link_model.Data.{unsent_of}
use Rattle.journal_sending.specs.journal_leaving.link_model.End.{notes_from}
use Rattle.journal_sending.specs.journal_leaving.link_model.Entering.{facts_entered, facts_entered_if}
use Rattle.journal_sending.specs.journal_leaving.link_model.Facts.{Facts as EndFacts, keyed_of}
use Rattle.journal_sending.specs.journal_leaving.link_model.Step.{EventEntered}
use Rattle.journal_sending.specs.journal_leaving.link_model.Times.{wants_of}
use Rattle.journal_sending.specs.journal_leaving.link_model.keyed_control.declared.material.Response.{Response}
use Rattle.journal_sending.specs.journal_leaving.run_model.History.{Event, Called, Noted}
use Rattle.journal_sending.specs.journal_leaving.run_model.Journal.{journal_from, journal_of, side_of}
use Rattle.journal_sending.specs.journal_leaving.run_model.Links.{links_of}
use Rattle.journal_sending.specs.journal_leaving.run_model.Run.{Given, after_call, facts_at, setup_at}
use Rattle.journal_sending.proofs.journal_leaving.DueBegun.{still_links}
use Rattle.journal_sending.proofs.journal_leaving.OtherLines.{in_call_reads}
use Rattle.journal_sending.proofs.journal_leaving.journal_acks.Exchanging.{call_quiet, exchange_at, map_both, note_quiet, notes_keep, number_at, number_called, number_notes}
use Rattle.journal_sending.proofs.journal_leaving.journal_acks.FixedPdus.{sent_out}
use Rattle.journal_sending.proofs.journal_leaving.journal_acks.KeptLines.{IsLined}
use Rattle.journal_sending.proofs.journal_leaving.journal_acks.NewPdus.{first_part}
use Rattle.journal_sending.proofs.journal_leaving.journal_acks.SentLines.{line_in_call, sent_line_at}
use Rattle.journal_sending.proofs.journal_leaving.journal_acks.link_calls.CallNotes.{OpensNone, SendsNone, TakesNone, begin_noted, none_taken, opening_none}
use Rattle.journal_sending.proofs.journal_leaving.journal_acks.link_calls.LinkCalls.{WasLinked, turn_begun_under}
use Rattle.journal_sending.specs.journal_leaving.journal_acks.link_calls.Turns.{HasBegunTurn}
use Rattle.journal_sending.proofs.journal_leaving.journal_controls.EventMoves.{drawn_at, keyed_at, turn_at, withholds_at}
use Rattle.journal_sending.proofs.journal_leaving.journal_controls.FixedEnds.{begun_past}
use Rattle.journal_sending.proofs.journal_leaving.journal_controls.host_answers.LineAnswers.{IsQuiet, turn_quiet}
use Rattle.journal_sending.proofs.journal_leaving.journal_data.EachLine.{call_leaves, lines_at}
use Rattle.journal_sending.proofs.journal_leaving.journal_data.NumberedEnds.{IsNumberedEnd}
use Rattle.journal_sending.proofs.journal_leaving.journal_data.Submitting.{call_submits}
use Rattle.journal_sending.proofs.journal_leaving.journal_ends.EndsKnown.{AreLined}
use Rattle.journal_sending.proofs.journal_leaving.journal_ends.run_laws.Agreed.{ack_of, step_facts}
use Rattle.journal_sending.proofs.journal_leaving.journal_ends.run_laws.Hearings.{own_facts}
use Rattle.journal_sending.proofs.journal_leaving.journal_links.ChangesAt.{role_is}
use Rattle.journal_sending.proofs.journal_leaving.journal_links.LinkLines.{line_more, lines_append, named_here}
use Rattle.journal_sending.proofs.journal_leaving.run_model.Parts.{journal_event, journal_more}
use Rattle.journal_sending.proofs.journal_leaving.run_model.Stations.{is_in}
use Rattle.journal_sending.specs.Outgoing.{octets_wait}
use Rattle.journal_sending.proofs.HeldOnLines.{IsOnLines, octets_are, waits_without}
use Rattle.journal_sending.proofs.NextLines.{same_lines, sending_leaves}
use Rattle.journal_sending.proofs.journal_fixing.FirstNotes.{sends_last}
use Rattle.journal_sending.proofs.journal_fixing.KeptFixing.{own_lines}
use Rattle.journal_events.specs.Skips.{is_skipped}
use Rattle.journal_events.specs.Told.{event_lines, event_said}
use Rattle.journal_events.proofs.BegunLinks.{begun_open, has_stayed}
use Rattle.journal_events.proofs.EnteredLines.{event_then, first_lines, keyed_then, none_opens, up_to_event}
use Rattle.journal_events.proofs.EventMoves.{IsMoving, event_at, part_moving}
use Rattle.journal_events.proofs.SkipsTold.{IsToldAs, skipped_as}

-- what is known of the end under a handle, before the call with which a turn begins
pub record IsKnownEnd (words : Words) (given : Given) (station slot : ℕ) (on : Bool) (base : List Event) (handle : ℕ)
    (link : OpenLink) : Type 0 where
  pub lined : AreLined given base
  pub lined_after : AreLined given (after_call given station (TurnBegins slot on) base)
  pub turn : turn_at base ≡ slot
  -- it is by the lines what it is
  pub numbered : IsNumberedEnd base (number_at station handle base) station link.setup
  pub keyed : keyed_at words (number_at station handle base) (side_of station) base ≡ Some (keyed_of (facts_in link))
  pub event : event_at words (number_at station handle base) (side_of station) base ≡ event_lines (facts_in link)
  pub counted : IsCounted (exchange_at (number_at station handle base) base (side_of station)) (ack_of link)
  pub sent : IsLined (sent_line_at (number_at station handle base) base (side_of station)) (ack_of link)
  pub data_is : IsOnLines (number_at station handle base) (lines_at station base) (facts_in link)

none_left : (count : ℕ) → nat_lt 0 count ≡ false → count ≡ 0
none_left count is = grind (arith, nat_tests)

some_wait : (count : ℕ) (waits : Bool) → nat_lt 0 count ≡ waits → waits ≡ not (count == 0)
some_wait count true is =
    ap not (sym (ne_eqb count 0 (λ same. let h : false ≡ true = ap (nat_lt 0) (sym same) ∙ is in absurd cc)))
some_wait count false is = sym (ap (λ n. not (n == 0)) (none_left count is))

-- it enters an event, of which the call has this note
module _ (words : Words) (given : Given) (station slot : ℕ) (on : Bool) (base : List Event) (handle : ℕ)
    (link : OpenLink) (kept : AreKept words) (in_it : is_in station given.stations ≡ true)
    (known : IsKnownEnd words given station slot on base handle link) (earlier later : List Note) (event channel : ℕ)
    (are : notes_after (setup_at given station) (facts_at given station base) (TurnBegins slot on)
    ≡ earlier ++ EnterNote handle (record { 0 = event }) channel ∷ later)
    (stays : link_at handle (facts_ending slot (facts_at given station base)).links ≡ Some link)
    (enters : enters_in slot link ≡ true) where
  abbrev side : Side
  side = side_of station

  abbrev step : Call
  step = TurnBegins slot on

  abbrev facts : Facts
  facts = facts_at given station base

  abbrev notes : List Note
  notes = notes_after (setup_at given station) facts step

  abbrev own : ℕ
  own = number_at station handle base

  abbrev note : Note
  note = EnterNote handle (record { 0 = event }) channel

  abbrev front : List Note
  front = earlier ++ note ∷ []

  abbrev now : List Note → List Event
  now some = base ++ Called station step ∷ map (Noted station) some

  abbrev response : Response
  response = drawn_at words side base

  abbrev withheld : Withheld
  withheld = withholds_at side base

  abbrev end : EndFacts
  end = facts_in link

  abbrev entered : EndFacts
  entered = facts_entered link.setup slot end

  goes : goes_on end ≡ true
  goes = (and_parts (goes_on end) (is_anchor slot link) enters).0

  -- ---- the notes up to the event

  split : notes ≡ front ++ later
  split = are ∙ sym (append_assoc earlier (note ∷ []) later)

  front_all : (P : Note → Type 0) → All P notes → All P front
  front_all P all = first_part P front later (subst (All P) split all)

  early_all : (P : Note → Type 0) → All P notes → All P earlier
  early_all P all = first_part P earlier (note ∷ []) (front_all P all)

  opens_none : All (OpensNone handle) notes
  opens_none = begin_noted (OpensNone handle) (opening_none handle) (setup_at given station) slot on facts

  sends_none : All SendsNone front
  sends_none =
      All-append SendsNone earlier (note ∷ [])
      (sends_last (setup_at given station) slot on facts earlier later note are)
      (All-cons SendsNone note [] refl (All-nil SendsNone))

  quiet : All (IsQuiet side station) notes
  quiet = All-from_recursion (IsQuiet side station) notes (turn_quiet given station step base tt)

  -- ---- the lines of the end up to the event

  abbrev lines_on : List Event → List Entry
  lines_on history = lines_of side own (journal_of history)

  abbrev line : Entry
  line = Enter side own event channel

  early : IsMoving words response own side base (now earlier)
  early =
      part_moving words given own side station step earlier (note ∷ later) base kept are
      (recursion_from_All (IsQuiet side station) earlier (early_all (IsQuiet side station) quiet))

  moving : IsMoving words response own side base (now front)
  moving =
      part_moving words given own side station step front later base kept split
      (recursion_from_All (IsQuiet side station) front (front_all (IsQuiet side station) quiet))

  number_then : number_at station handle (now earlier) ≡ own
  number_then =
      ap (number_at station handle) (sym (append_assoc base (Called station step ∷ []) (map (Noted station) earlier)))
      ∙ number_notes station handle step base earlier (early_all (OpensNone handle) opens_none)

  now_more : now front ≡ now earlier ++ Noted station note ∷ []
  now_more =
      ap (λ xs. base ++ Called station step ∷ xs) (map_both station earlier (note ∷ []))
      ∙ sym (append_assoc base (Called station step ∷ map (Noted station) earlier) (Noted station note ∷ []))

  lines_last : lines_on (now front) ≡ lines_on (now earlier) ++ line ∷ []
  lines_last =
      let number = number_at station handle (now earlier) in
      let there = Enter side number event channel in
      ap lines_on now_more ∙ ap (lines_of side own) (journal_event (now earlier) (Noted station note))
      ∙ line_more side own (journal_of (now earlier)) there (there ∷ [])
      (named_here side number own there (eq-eqb number own number_then))
      ∙ ap (λ n. lines_on (now earlier) ++ Enter side n event channel ∷ []) number_then

  more_is : moving.more ≡ early.more ++ line ∷ []
  more_is =
      append_cancel_left (lines_on base) moving.more (early.more ++ line ∷ [])
      (sym moving.lines ∙ lines_last ∙ ap (λ xs. xs ++ line ∷ []) early.lines
      ∙ append_assoc (lines_on base) early.more (line ∷ []))

  -- ---- and in the whole call

  abbrev doing : Doing
  doing = (facts_after (setup_at given station) facts step).turn.doing

  abbrev said_by : Bool → OpenLink → List Entry
  said_by begins one =
      let steps = steps_begun begins (fixes_under handle doing) (sends_under handle doing) slot in
      map (line_of side own) (notes_from one.setup (facts_in one) steps)

  abbrev said : List Entry
  said = said_by true link

  abbrev last : List Entry
  last = lines_of side own (journal_from (links_of (now front)) (map (Noted station) later))

  has : WasLinked handle (facts_after (setup_at given station) facts step).links
  has = begun_open (setup_at given station) facts slot on handle link stays

  begun : HasBegunTurn facts.links slot handle doing has.link
  begun = turn_begun_under (setup_at given station) facts slot on handle has.link has.was

  link_is : begun.link ≡ link
  link_is = same_Some begun.link link (sym begun.was ∙ (has_stayed facts slot handle link stays).was)

  lines_after : lines_on (after_call given station step base) ≡ lines_on base ++ said
  lines_after =
      let fixes = fixes_under handle doing in
      let sends = sends_under handle doing in
      let number = number_called given station step base handle opens_none in
      let at = ap (λ (f : Facts). link_at handle f.links) (own_facts given station step base) ∙ has.was in
      own_lines words given station step refl base known.lined known.lined_after in_it handle has.link at number
      begun.link begun.was (steps_begun (enters_in slot begun.link) fixes sends slot) begun.setup_is
      (begun.past_is ∙ begun_past slot handle doing begun.link)
      ∙ ap (λ (l : OpenLink). lines_on base ++ said_by (enters_in slot l) l) link_is
      ∙ ap (λ begins. lines_on base ++ said_by begins link) enters

  lines_then : lines_on (after_call given station step base) ≡ lines_on (now front) ++ last
  lines_then =
      ap (λ xs. lines_on (base ++ Called station step ∷ map (Noted station) xs)) split
      ∙ ap (λ xs. lines_on (base ++ Called station step ∷ xs)) (map_both station front later)
      ∙ ap lines_on
      (sym (append_assoc base (Called station step ∷ map (Noted station) front) (map (Noted station) later)))
      ∙ ap (lines_of side own) (journal_more (now front) (map (Noted station) later))
      ∙ lines_append side own (journal_of (now front)) (journal_from (links_of (now front)) (map (Noted station) later))

  said_is : early.more ++ line ∷ last ≡ said
  said_is =
      append_cancel_left (lines_on base) (early.more ++ line ∷ last) said
      (ap (λ xs. lines_on base ++ xs)
      (sym (append_assoc early.more (line ∷ []) last) ∙ ap (λ xs. xs ++ last) (sym more_is))
      ∙ sym (append_assoc (lines_on base) moving.more last) ∙ ap (λ xs. xs ++ last) (sym moving.lines)
      ∙ sym lines_then ∙ lines_after)

  -- so they are those of its own notes up to that one
  up_is : moving.more ≡ map (line_of side own) (up_to_event side own withheld response slot link.setup end)
  up_is =
      more_is
      ∙ first_lines side own withheld response slot link.setup end goes (fixes_under handle doing)
      (sends_under handle doing) early.more last line refl said_is

  none : NoneOpens moving.more
  none = subst NoneOpens (sym up_is) (none_opens side own withheld response slot link.setup end)

  -- ---- what they tell

  pub keyed : keyed_at words own side (now front) ≡ Some (keyed_of entered)
  keyed =
      moving.keyed (keyed_of end) none known.keyed
      ∙ ap Some ((λ i. moved_by withheld response (known.turn i) (up_is i) (keyed_of end))
      ∙ keyed_then side own withheld response slot link.setup end)

  event_is : event_at words own side (now front) ≡ event_lines entered
  event_is =
      moving.event (keyed_of end) none known.keyed
      ∙ (λ i. event_said withheld response (known.turn i) (up_is i) (keyed_of end) (known.event i))
      ∙ event_then side own withheld response slot link.setup end goes

  exchange_is : exchange_at own (now front) ≡ exchange_at own base
  exchange_is =
      ap (exchange_at own) (sym (append_assoc base (Called station step ∷ []) (map (Noted station) front)))
      ∙ notes_keep (Side → Exchanged) (exchange_at own) TakesNone station
      (λ before one takes. note_quiet own before station one takes) front (base ++ Called station step ∷ [])
      (front_all TakesNone (begin_noted TakesNone none_taken (setup_at given station) slot on facts))
      ∙ call_quiet own base station step

  carried : is_acked end.acknowledgement ≡ false
      → carried_of own (journal_of (now front)) side ≡ end.acknowledgement.last
  carried unacked =
      let ack = ack_of link in
      (λ i. pdu_carried (line_in_call own station step base side front sends_none i) (exchange_is i side).acked)
      ∙ ap (pdu_carried (sent_line_at own base side)) known.counted.acked
      ∙ sym (known.sent.last ack.acked
      (sent_out link ∙ ap (λ b. length (next_sent b (pdu_fixed end) ack).sent) unacked))

  waits : octets_wait own (lines_at station (now front)) ≡ not (length (unsent_of end.outgoing) == 0)
  waits =
      let lines = lines_at station (now front) in
      let is = same_lines own (lines_at station base) lines end (call_submits station step front base)
      (call_leaves SendsNone (λ all. all.sent) sending_leaves station step front base
      (recursion_from_All SendsNone front sends_none)) known.data_is in
      let left = length (unsent_of end.outgoing) in
      (λ i. nat_lt (octets_are own lines end is i) (length (octets_of (is.given i))))
      ∙ waits_without link.setup link.past ∙ some_wait left (nat_lt 0 left) refl

  told : IsToldAs words side own (journal_of (now front)) link.setup entered
  told = record {
    link = known.numbered.link;
    is_link = ap (with_number own) (in_call_reads (List LinkBegun) links_begun still_links station step base front)
        ∙ known.numbered.is_link;
    role = ap (λ central. role_by central side) known.numbered.central_is ∙ role_is link.setup.link.role side;
    event = event_is;
    counted = subst (λ (ends : Side → Exchanged). IsCounted (ends side) (ack_of link)) (sym exchange_is) known.counted;
    last = carried;
    waits = waits;
    keyed = keyed;
  }

  pub skips_event : is_skipped words side own (journal_of (now front)) ≡ not (wants_entering slot link)
  skips_event =
      let entered_is = step_facts link (EventEntered slot) ∙ ap (λ on. facts_entered_if on link.setup slot end) goes in
      skipped_as words side own (journal_of (now front)) link.setup entered told
      ∙ ap (λ (f : EndFacts). not (wants_of link.setup f)) (sym entered_is)
      ∙ ap (λ b. not (wants_if b slot link)) (sym enters)
