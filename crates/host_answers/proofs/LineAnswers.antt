-- The commands that the lines of a side accept are those that its controller accepts.
use Rattle.std.proofs.Common.{◌≡◌, ℕ, Bool, true, false, List, [], ◌∷◌, ◌++◌, length, map, refl, sym, ap, subst, ◌∙◌, append-nil, append_assoc, arith}
use Rattle.std.specs.Prelude.{flat_map, fold, Option, Some, slice_get, if◌then◌else◌}
use Rattle.std.specs.List.{AllByRecursion}
use Rattle.std.proofs.lemmas.List.Concat.{flat_map-append}
use Rattle.ble_base.specs.declared.notes.Note.{Note}
use Rattle.ble_base.specs.declared.notes.Note.TheVariants.{Up}
use Rattle.ble_base.specs.declared.roles.Side.{Side}
use Rattle.ble_base.specs.declared.roles.Side.TheVariants.{A, B}
use Rattle.h4_frames.specs.declared.packet.HostPacket.TheVariants.{Command as HostCommand, Acl}
use Rattle.h4_frames.specs.declared.packet.Fed.{Fed}
use Rattle.h4_frames.specs.declared.packet.Fed.TheVariants.{More, Packet, LostSync}
use Rattle.hci_cmd.specs.declared.command.Command.{Command}
use Rattle.hci_cmd.specs.declared.command.CmdRead.{CmdRead}
use Rattle.hci_cmd.specs.Command.{command_of}
use Rattle.journal.specs.declared.entries.Entry.{Entry}
use Rattle.run_model.specs.controller_model.Facts.{Setup, Facts, first_facts}
use Rattle.run_model.specs.controller_model.Side.{facts_after, facts_of, notes_after, notes_of, result_of}
use Rattle.run_model.specs.controller_model.Step.{Step, HostOctet, TurnBegins, PacketHeard, NothingHeard, TurnEnds}
use Rattle.run_model.proofs.controller_model.Always.{IsInTurn}
use Rattle.run_model.proofs.controller_model.Feds.{more_octets, turn_octets}
use Rattle.run_model.proofs.controller_model.Handles.{own_handles}
use Rattle.run_model.specs.Due.{IsDue, octet_in, octets_called}
use Rattle.run_model.specs.Feeding.{HasNoted}
use Rattle.run_model.specs.History.{Event, Called, Noted, fed_to, noted_by, past_of}
use Rattle.run_model.specs.Journal.{entry_of, journal_from, journal_of, side_of}
use Rattle.run_model.specs.Links.{Links, links_after, links_of}
use Rattle.run_model.specs.Readers.{fed_in, fed_to_side, of_side, packets_in, packets_of_note, packets_to_host}
use Rattle.run_model.specs.Run.{Given, facts_at, history_of, run_of, setup_at}
use Rattle.run_model.proofs.Dues.{run_due}
use Rattle.run_model.proofs.Journals.{note_fed}
use Rattle.run_model.proofs.Places.{each_at}
use Rattle.run_model.proofs.Stations.{is_in}
use Rattle.host_answers.specs.Answered.{accepted_commands, accepted_from, accepted_with, answers_before, answer_statuses, command_read, commands_sent, host_commands, is_left_out, next_command}
use Rattle.host_answers.specs.Calls.{answered_after, answered_of, call_lines}
use Rattle.host_answers.proofs.AnswerStatuses.{statuses_noted, statuses_of, statuses_read}
use Rattle.host_answers.proofs.AnswersHeld.{accepted_append, answers_held, commands_more, turn_silent}
use Rattle.host_answers.proofs.CommandAnswers.{AreAnswered, fed_answered}
use Rattle.host_answers.proofs.SideLines.{IsFedFirst, fed_lines, note_packets, packet_lines, taken_first}

-- ---- lines in which a side is fed nothing

abbrev pub statuses_in : Side → Entry → List ℕ
statuses_in side line = answer_statuses (packets_in side line)

abbrev accepted_next : List ℕ → Option CmdRead → List Command
accepted_next statuses next = flat_map (accepted_with next) statuses

both_none : (xs ys : List ℕ) → xs ++ ys ≡ [] → (xs ≡ []) × (ys ≡ [])
both_none [] ys none = (refl, none)
both_none (x ∷ xs) ys none = absurd cc

-- with no answer they accept nothing
pub none_accepted : (side : Side) (front lines : List Entry) → flat_map (statuses_in side) lines ≡ [] → accepted_from side front lines ≡ []
none_accepted side front [] none = refl
none_accepted side front (line ∷ lines) none =
    let both = both_none (statuses_in side line) (flat_map (statuses_in side) lines) none in
    (λ i. accepted_next (both.0 i) (next_command side front) ++ none_accepted side (front ++ line ∷ []) lines both.1 i)

-- the first command that is not answered stays the same
next_same : (side : Side) (front : List Entry) (line : Entry) → fed_in side line ≡ [] → statuses_in side line ≡ []
    → next_command side (front ++ line ∷ []) ≡ next_command side front
next_same side front line unfed none =
    let fed : fed_to_side side (front ++ line ∷ []) ≡ fed_to_side side front =
    flat_map-append (fed_in side) front (line ∷ []) ∙ ap (λ xs. fed_to_side side front ++ (xs ++ [])) unfed ∙ append-nil (fed_to_side side front) in
    let packets : packets_to_host side (front ++ line ∷ []) ≡ packets_to_host side front ++ packets_in side line =
    flat_map-append (packets_in side) front (line ∷ []) ∙ ap (λ xs. packets_to_host side front ++ xs) (append-nil (packets_in side line)) in
    let statuses : answer_statuses (packets_to_host side (front ++ line ∷ [])) ≡ answer_statuses (packets_to_host side front) =
    ap answer_statuses packets ∙ flat_map-append _ (packets_to_host side front) (packets_in side line)
    ∙ ap (λ xs. answer_statuses (packets_to_host side front) ++ xs) none ∙ append-nil (answer_statuses (packets_to_host side front)) in
    λ i. slice_get (commands_sent (fed i)) (length (statuses i))

-- with one answer they accept what that says
pub one_accepted : (side : Side) (front lines : List Entry) (status : ℕ) → AllByRecursion (λ line. fed_in side line ≡ []) lines
    → flat_map (statuses_in side) lines ≡ status ∷ [] → accepted_from side front lines ≡ accepted_next (status ∷ []) (next_command side front)
one_accepted side front [] status unfed one = absurd cc
one_accepted side front (line ∷ lines) status unfed one =
    by (statuses_in side line) refl (λ later. one_accepted side (front ++ line ∷ []) lines status unfed.1 later)
  where
    by : (statuses : List ℕ) → statuses_in side line ≡ statuses
        → (flat_map (statuses_in side) lines ≡ status ∷ []
        → accepted_from side (front ++ line ∷ []) lines ≡ accepted_next (status ∷ []) (next_command side (front ++ line ∷ [])))
        → accepted_from side front (line ∷ lines) ≡ accepted_next (status ∷ []) (next_command side front)
    by [] is then_on =
        (λ i. accepted_next (is i) (next_command side front) ++ accepted_from side (front ++ line ∷ []) lines)
        ∙ then_on (ap (λ xs. xs ++ flat_map (statuses_in side) lines) (sym is) ∙ one)
        ∙ ap (accepted_next (status ∷ [])) (next_same side front line unfed.0 is)
    by (first ∷ statuses) is then_on =
        let all : first ∷ (statuses ++ flat_map (statuses_in side) lines) ≡ status ∷ [] = ap (λ xs. xs ++ flat_map (statuses_in side) lines) (sym is) ∙ one in
        let rest : statuses ++ flat_map (statuses_in side) lines ≡ [] = cc in
        let same : first ≡ status = cc in
        let none = both_none statuses (flat_map (statuses_in side) lines) rest in
        (λ i. accepted_next (is i) (next_command side front) ++ accepted_from side (front ++ line ∷ []) lines)
        ∙ (λ i. accepted_next (same i ∷ none.0 i) (next_command side front) ++ none_accepted side (front ++ line ∷ []) lines none.1 i)
        ∙ append-nil (accepted_next (status ∷ []) (next_command side front))

-- ---- the lines of a call

far_none : (side other : Side) (values : List (List ℕ)) → (side ≡ other → ⊥) → of_side side other values ≡ []
far_none A A values apart = absurd (apart refl)
far_none A B values apart = refl
far_none B A values apart = refl
far_none B B values apart = absurd (apart refl)

-- a note that says no answer to a side
abbrev pub IsQuiet : Side → ℕ → Note → Type 0
IsQuiet side station note = (link_of : ℕ → ℕ) (last : ℕ) → statuses_in side (entry_of (side_of station) link_of last note) ≡ []

packet_statuses : (note : Note) → answer_statuses (packets_of_note note) ≡ statuses_noted note
packet_statuses (Up packet) = append-nil _
packet_statuses note = refl

of_own : (side : Side) (values : List (List ℕ)) → of_side side side values ≡ values
of_own A values = refl
of_own B values = refl

-- the statuses that a side is told in lines of notes of its own
own_statuses : (side : Side) (station : ℕ) (links : Links) (notes : List Note) → side ≡ side_of station
    → flat_map (statuses_in side) (journal_from links (map (Noted station) notes)) ≡ statuses_of notes
own_statuses side station links [] own = refl
own_statuses side station links (note ∷ notes) own =
    let line = entry_of (side_of station) (links.link_of station) (links.last_of station) note in
    ap (λ xs. statuses_in side line ++ xs) (own_statuses side station (links_after links (Noted station note)) notes own)
    ∙ ap (λ xs. answer_statuses xs ++ statuses_of notes)
    (note_packets side (side_of station) (links.link_of station) (links.last_of station) note
    ∙ subst (λ other. of_side other (side_of station) (packets_of_note note) ≡ packets_of_note note) (sym own) (of_own (side_of station) (packets_of_note note)))
    ∙ ap (λ xs. xs ++ statuses_of notes) (packet_statuses note)

pub own_quiet : (station : ℕ) (notes : List Note) → statuses_of notes ≡ [] → AllByRecursion (IsQuiet (side_of station) station) notes
own_quiet station [] none = tt
own_quiet station (note ∷ notes) none =
    let both = both_none (statuses_noted note) (statuses_of notes) none in (
      λ link_of last.
          ap answer_statuses (note_packets (side_of station) (side_of station) link_of last note ∙ of_own (side_of station) (packets_of_note note))
          ∙ packet_statuses note ∙ both.0,
      own_quiet station notes both.1,
    )

pub far_quiet : (side : Side) (station : ℕ) (notes : List Note) → (side ≡ side_of station → ⊥) → AllByRecursion (IsQuiet side station) notes
far_quiet side station [] apart = tt
far_quiet side station (note ∷ notes) apart = (
  λ link_of last. ap answer_statuses (note_packets side (side_of station) link_of last note ∙ far_none side (side_of station) (packets_of_note note) apart),
  far_quiet side station notes apart,
)

pub turn_quiet : (given : Given) (station : ℕ) (step : Step) (before : List Event) → IsInTurn step
    → AllByRecursion (IsQuiet (side_of station) station) (notes_after (setup_at given station) (facts_at given station before) step)
turn_quiet given station step before turn =
    let setup = setup_at given station in
    let facts = facts_at given station before in
    own_quiet station (notes_after setup facts step) (turn_silent setup facts step (own_handles setup (past_of station before)) turn)

unfed_notes : (side : Side) (station : ℕ) (links : Links) (notes : List Note)
    → AllByRecursion (λ line. fed_in side line ≡ []) (journal_from links (map (Noted station) notes))
unfed_notes side station links [] = tt
unfed_notes side station links (note ∷ notes) =
    (note_fed side (side_of station) (links.link_of station) (links.last_of station) note, unfed_notes side station (links_after links (Noted station note)) notes)

-- ---- the octets that a controller took

step_octets : (setup : Setup) (facts : Facts) (step : Step) → (facts_after setup facts step).octets ≡ facts.octets ++ octet_in step
step_octets setup facts (HostOctet octet) = more_octets setup facts octet
step_octets setup facts (TurnBegins slot on) = turn_octets setup facts (TurnBegins slot on) tt ∙ sym (append-nil facts.octets)
step_octets setup facts (PacketHeard octets) = turn_octets setup facts (PacketHeard octets) tt ∙ sym (append-nil facts.octets)
step_octets setup facts NothingHeard = turn_octets setup facts NothingHeard tt ∙ sym (append-nil facts.octets)
step_octets setup facts TurnEnds = turn_octets setup facts TurnEnds tt ∙ sym (append-nil facts.octets)

octets_from : (setup : Setup) (facts : Facts) (past : List Step) → (fold (facts_after setup) facts past).octets ≡ facts.octets ++ flat_map octet_in past
octets_from setup facts [] = sym (append-nil facts.octets)
octets_from setup facts (step ∷ past) =
    octets_from setup (facts_after setup facts step) past
    ∙ ap (λ octets. octets ++ flat_map octet_in past) (step_octets setup facts step)
    ∙ append_assoc facts.octets (octet_in step) (flat_map octet_in past)

octets_held : (setup : Setup) (past : List Step) → (facts_of setup past).octets ≡ flat_map octet_in past
unfolding facts_of
octets_held setup past = octets_from setup (first_facts setup) past

-- more octets have more commands
record HasMoreCommands (octets more : List ℕ) : Type 0 where
  later : List CmdRead
  is : commands_sent (octets ++ more) ≡ commands_sent octets ++ later

more_commands : (octets more : List ℕ) → HasMoreCommands octets more
more_commands octets [] = record { later = []; is = ap commands_sent (append-nil octets) ∙ sym (append-nil (commands_sent octets)) }
more_commands octets (octet ∷ more) =
    let next = more_commands (octets ++ octet ∷ []) more in
    let read = command_read (result_of octets octet) in record {
      later = read ++ next.later;
      is = ap commands_sent (sym (append_assoc octets (octet ∷ []) more)) ∙ next.is ∙ ap (λ xs. xs ++ next.later) (commands_more octets octet)
          ∙ append_assoc (commands_sent octets) read next.later;
    }

-- an octet completes one command at most
once_if : (left : Bool) (read one other : CmdRead) (more : List CmdRead) → (if left then [] else read ∷ []) ≡ one ∷ (other ∷ more) → ⊥
once_if true read one other more is = absurd cc
once_if false read one other more is = absurd cc

read_once : (fed : Fed) (one other : CmdRead) (more : List CmdRead) → command_read fed ≡ one ∷ (other ∷ more) → ⊥
read_once (Packet (HostCommand opcode body)) one other more is = once_if (is_left_out opcode) (command_of opcode body.items) one other more is
read_once (Packet (Acl handle start count body)) one other more is = absurd cc
read_once LostSync one other more is = absurd cc
read_once More one other more is = absurd cc

-- ---- in a run of two stations

there_is : (read : CmdRead) (reads later : List CmdRead) → slice_get (reads ++ read ∷ later) (length reads) ≡ Some read
there_is read [] later = refl
there_is read (first ∷ reads) later = there_is read reads later

module _ (given : Given) (are_two : given.stations ≡ 0 ∷ 1 ∷ []) (station : ℕ) (in_it : is_in station given.stations ≡ true) (before rest : List Event)
    (at : history_of (run_of given) ≡ before ++ rest) (noted : HasNoted given station before) where
  abbrev setup : Setup
  setup = setup_at given station

  abbrev past : List Step
  past = past_of station before

  abbrev facts : Facts
  facts = facts_at given station before

  abbrev own : Side
  own = side_of station

  first : IsFedFirst station before
  first = taken_first given station before rest at

  fed_is : fed_to_side own (journal_of before) ≡ facts.octets ++ first.more
  fed_is = fed_lines given are_two station in_it before rest at ∙ first.is ∙ ap (λ xs. xs ++ first.more) (sym (octets_held setup past))

  statuses_are : answer_statuses (packets_to_host own (journal_of before)) ≡ statuses_of (notes_of setup past)
  statuses_are = ap answer_statuses (packet_lines given are_two station in_it before rest at) ∙ statuses_read (noted_by station before) ∙ ap statuses_of noted

  answered : AreAnswered (commands_sent facts.octets) (statuses_of (notes_of setup past)) (answered_of setup past)
  answered = answers_held setup past

  none_left : (reads : List CmdRead) → accepted_commands reads [] ≡ []
  none_left [] = refl
  none_left (read ∷ reads) = refl

  -- the commands accepted so far
  pub accepted_so_far : host_commands own (journal_of before) ≡ answered_of setup past
  accepted_so_far =
      let reads = commands_sent facts.octets in
      let statuses = statuses_of (notes_of setup past) in
      let more = more_commands facts.octets first.more in
      let whole = sym (append-nil statuses) in
      (λ i. accepted_commands (commands_sent (fed_is i)) (statuses_are i))
      ∙ (λ i. accepted_commands (more.is i) (whole i))
      ∙ accepted_append reads more.later statuses [] answered.lengths
      ∙ (λ i. answered.accepted i ++ none_left more.later i)
      ∙ append-nil (answered_of setup past)

  answers_so_far : answers_before own (journal_of before) ≡ length (commands_sent facts.octets)
  answers_so_far = ap length statuses_are ∙ sym answered.lengths

  -- ---- the command that an octet completes

  module _ (octet : ℕ) (due : slice_get (fed_to station before) (length (octets_called station before)) ≡ Some octet) where
    record HasNext (more : List ℕ) : Type 0 where
      later : List ℕ
      is : more ≡ octet ∷ later

    next_is : (called more : List ℕ) → slice_get (called ++ more) (length called) ≡ Some octet → HasNext more
    next_is [] [] is = absurd cc
    next_is [] (next ∷ more) is = let same : next ≡ octet = cc in record { later = more; is = ap (λ n. n ∷ more) same }
    next_is (one ∷ called) more is = next_is called more is

    completed : HasNext first.more
    completed = next_is (octets_called station before) first.more (ap (λ xs. slice_get xs (length (octets_called station before))) (sym first.is) ∙ due)

    next_by : (reads : List CmdRead) → command_read (result_of facts.octets octet) ≡ reads → (read : CmdRead) → reads ≡ read ∷ []
        → next_command own (journal_of before) ≡ Some read
    next_by reads is read one =
        let more = more_commands (facts.octets ++ octet ∷ []) completed.later in
        let all : commands_sent (fed_to_side own (journal_of before)) ≡ commands_sent facts.octets ++ read ∷ more.later =
        ap commands_sent (fed_is ∙ ap (λ xs. facts.octets ++ xs) completed.is ∙ sym (append_assoc facts.octets (octet ∷ []) completed.later))
        ∙ more.is ∙ ap (λ xs. xs ++ more.later) (commands_more facts.octets octet ∙ ap (λ xs. commands_sent facts.octets ++ xs) (is ∙ one))
        ∙ append_assoc (commands_sent facts.octets) (read ∷ []) more.later in
        (λ i. slice_get (all i) (answers_so_far i)) ∙ there_is read (commands_sent facts.octets) more.later

    abbrev lines : List Entry
    lines = call_lines given station (HostOctet octet) before

    lines_by : (reads : List CmdRead) (statuses : List ℕ) → command_read (result_of facts.octets octet) ≡ reads
        → statuses_of (notes_after setup facts (HostOctet octet)) ≡ statuses
        → AreAnswered reads statuses (answered_after facts (HostOctet octet))
        → accepted_from own (journal_of before) lines ≡ answered_after facts (HostOctet octet)
    lines_by [] [] reads none are =
        none_accepted own (journal_of before) lines (own_statuses own station (links_of before) (notes_after setup facts (HostOctet octet)) refl ∙ none)
        ∙ are.accepted
    lines_by (read ∷ []) (status ∷ []) reads one are =
        one_accepted own (journal_of before) lines status (unfed_notes own station (links_of before) (notes_after setup facts (HostOctet octet)))
        (own_statuses own station (links_of before) (notes_after setup facts (HostOctet octet)) refl ∙ one)
        ∙ ap (accepted_next (status ∷ [])) (next_by (read ∷ []) reads read refl)
        ∙ are.accepted
    lines_by [] (status ∷ statuses) reads one are = absurd (omega (arith, are.lengths))
    lines_by (read ∷ more) [] reads one are = absurd (omega (arith, are.lengths))
    lines_by (read ∷ other ∷ more) (status ∷ statuses) reads one are = absurd (read_once (result_of facts.octets octet) read other more reads)
    lines_by (read ∷ []) (status ∷ other ∷ statuses) reads one are = absurd (omega (arith, are.lengths))

    pub octet_accepts : accepted_from own (journal_of before) lines ≡ answered_after facts (HostOctet octet)
    octet_accepts =
        lines_by (command_read (result_of facts.octets octet)) (statuses_of (notes_after setup facts (HostOctet octet))) refl refl
        (fed_answered setup facts (result_of facts.octets octet))

-- ---- a call of a turn, and the lines of the other side

pub turn_accepts : (given : Given) (station : ℕ) (step : Step) (before : List Event) (front : List Entry) → IsInTurn step
    → accepted_from (side_of station) front (call_lines given station step before) ≡ []
turn_accepts given station step before front turn =
    let setup = setup_at given station in
    let facts = facts_at given station before in
    none_accepted (side_of station) front (call_lines given station step before)
    (own_statuses (side_of station) station (links_of before) (notes_after setup facts step) refl
    ∙ turn_silent setup facts step (own_handles setup (past_of station before)) turn)

far_statuses : (side : Side) (station : ℕ) (links : Links) (notes : List Note) → (side ≡ side_of station → ⊥)
    → flat_map (statuses_in side) (journal_from links (map (Noted station) notes)) ≡ []
far_statuses side station links [] apart = refl
far_statuses side station links (note ∷ notes) apart =
    ap (λ xs. answer_statuses xs ++ flat_map (statuses_in side) (journal_from (links_after links (Noted station note)) (map (Noted station) notes)))
    (note_packets side (side_of station) (links.link_of station) (links.last_of station) note ∙ far_none side (side_of station) (packets_of_note note) apart)
    ∙ far_statuses side station (links_after links (Noted station note)) notes apart

pub far_accepts : (given : Given) (side : Side) (station : ℕ) (step : Step) (before : List Event) (front : List Entry) → (side ≡ side_of station → ⊥)
    → accepted_from side front (call_lines given station step before) ≡ []
far_accepts given side station step before front apart =
    none_accepted side front (call_lines given station step before)
    (far_statuses side station (links_of before) (notes_after (setup_at given station) (facts_at given station before) step) apart)

-- ---- each call of a run

pub call_accepts : (given : Given) → given.stations ≡ 0 ∷ 1 ∷ [] → (station : ℕ) → is_in station given.stations ≡ true → (step : Step) (before rest : List Event)
    → history_of (run_of given) ≡ before ++ Called station step ∷ rest → HasNoted given station before
    → accepted_from (side_of station) (journal_of before) (call_lines given station step before) ≡ answered_after (facts_at given station before) step
call_accepts given are_two station in_it (HostOctet octet) before rest at noted =
    octet_accepts given are_two station in_it before (Called station (HostOctet octet) ∷ rest) at noted octet
    (each_at (IsDue given) (history_of (run_of given)) before rest (Called station (HostOctet octet)) (run_due given).each at)
call_accepts given are_two station in_it (TurnBegins slot on) before rest at noted = turn_accepts given station (TurnBegins slot on) before (journal_of before) tt
call_accepts given are_two station in_it (PacketHeard octets) before rest at noted = turn_accepts given station (PacketHeard octets) before (journal_of before) tt
call_accepts given are_two station in_it NothingHeard before rest at noted = turn_accepts given station NothingHeard before (journal_of before) tt
call_accepts given are_two station in_it TurnEnds before rest at noted = turn_accepts given station TurnEnds before (journal_of before) tt
