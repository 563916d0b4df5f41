-- What is seen of an end after a call with an octet of its host.
use Rattle.std.proofs.Common.{◌≡◌, ℕ, ◌-◌, ◌<◌, ◌⊎◌, inl, inr, true, Option, Some, None, List, [], ◌∷◌, ◌++◌, length, map, if◌then◌else◌, refl, sym, ap, subst, ◌∙◌, append-nil, append_assoc}
use Rattle.std.specs.Prelude.{flat_map}
use Rattle.std.specs.List.{AllByRecursion}
use Rattle.std.proofs.lemmas.Bool.{lt-ltb}
use Rattle.std.proofs.lemmas.Grind.{flat_map-append}
use Rattle.std.proofs.lemmas.List.{append_cancel_left}
use Rattle.ble_base.specs.declared.notes.Note.{Note}
use Rattle.ble_base.specs.declared.roles.Role.{Role}
use Rattle.ble_base.specs.declared.roles.Side.{Side}
use Rattle.hci_cmd.specs.declared.command.Command.{Command}
use Rattle.journal.specs.declared.entries.Entry.{Entry}
use Rattle.journal_acks.specs.controller_model.Side.{notes_after}
use Rattle.journal_acks.specs.controller_model.Since.{notes_opened_on}
use Rattle.journal_acks.specs.controller_model.Step.{Step as Call, HostOctet}
use Rattle.host_answers.specs.Answered.{accepted_from, accepted_in}
use Rattle.host_answers.specs.Calls.{answered_after, call_lines}
use Rattle.journal_acks.specs.journal_links.Begun.{LinkBegun, link_numbered}
use Rattle.journal_acks.specs.journal_links.LinkLines.{line_of, lines_of, link_named, where_named}
use Rattle.journal_acks.specs.controller_model.link_commands.declared.moments.Moment.{Moment}
use Rattle.journal_acks.specs.link_model.Step.{Step}
use Rattle.journal_acks.specs.link_model.declared.state.PeerFacts.{PeerFacts}
use Rattle.journal_acks.specs.open_links.OpenLinks.{OpenLink, facts_in}
use Rattle.journal_acks.specs.run_model.History.{Event, Called, Noted}
use Rattle.journal_acks.specs.run_model.Journal.{entry_of, journal_from, journal_of, side_of}
use Rattle.journal_acks.specs.run_model.Links.{Links, links_after, links_of}
use Rattle.journal_acks.specs.run_model.Readers.{pair_openings_in, turns_of}
use Rattle.journal_acks.specs.run_model.Run.{Given, after_call, facts_at, setup_at}
use Rattle.journal_acks.proofs.journal_links.LinksBegun.{number_stays}
use Rattle.journal_acks.proofs.run_model.Journals.{note_turns}
use Rattle.journal_acks.proofs.run_model.Parts.{journal_more}
use Rattle.journal_ends.specs.Answering.{answers_from, answers_if}
use Rattle.journal_ends.specs.Asked.{Words, is_earlier, moment_in, opened_by, peer_by, step_asked, step_by, step_if_open}
use Rattle.journal_ends.specs.Seen.{Says, Seen, asked_if, heard_in_line, seen_from, seen_in_line, seen_of, seen_on}
use Rattle.journal_ends.proofs.DrawingCalls.{HasOneLine, IsWordless, octet_words}
use Rattle.journal_ends.proofs.HostedLinks.{IsAsked, step_of}
use Rattle.journal_ends.proofs.PastSeen.{notes_more, seen_grows}
use Rattle.journal_ends.proofs.PeersKnown.{end_knows, end_opened}
use Rattle.journal_ends.proofs.SeenEvents.{lines_at, note_hears, seen_at}

-- ---- lines of which none is of the end, in which nothing is heard

record IsAside (side : Side) (number : ℕ) (line : Entry) : Type 0 where
  heard : (front : List Entry) → heard_in_line side number front line ≡ []
  turns : pair_openings_in line ≡ []

note_aside : (side : Side) (number : ℕ) (other : Side) (link_of : ℕ → ℕ) (last : ℕ) (note : Note) → IsAside side number (entry_of other link_of last note)
note_aside side number other link_of last note = record {
  heard = λ front. note_hears number side other front link_of last note;
  turns = note_turns other link_of last note;
}

notes_aside : (side : Side) (number station : ℕ) (links : Links) (notes : List Note)
    → AllByRecursion (IsAside side number) (journal_from links (map (Noted station) notes))
notes_aside side number station links [] = tt
notes_aside side number station links (note ∷ notes) =
    (note_aside side number (side_of station) (links.link_of station) (links.last_of station) note, notes_aside side number station (links_after links (Noted station note)) notes)

all_both : {X : Type 0} (P : X → Type 0) (xs ys : List X) → AllByRecursion P (xs ++ ys) → AllByRecursion P xs × AllByRecursion P ys
all_both P [] ys all = (tt, all)
all_both P (x ∷ xs) ys all = let rest = all_both P xs ys all.1 in ((all.0, rest.0), rest.1)

both_none : (xs ys : List Entry) → xs ++ ys ≡ [] → (xs ≡ []) × (ys ≡ [])
both_none [] ys none = (refl, none)
both_none (x ∷ xs) ys none = absurd cc

module _ (words : Words) (side : Side) (number : ℕ) where
  same_step : (opened : Option (ℕ × Role)) (peer : PeerFacts) (moment other : Moment) (command : Command) → IsWordless command → moment.slot ≡ other.slot
      → step_if_open opened peer moment command ≡ step_if_open opened peer other command
  same_step None peer moment other command wordless same = refl
  same_step (Some (handle, role)) peer moment other command wordless same = wordless handle moment other role peer same

  -- such a command asks the same of the end before and after such a line
  still_asks : (front : List Entry) (line : Entry) (link : LinkBegun) → link_numbered number front ≡ Some link → IsAside side number line
      → where_named side number (link_named line) line ≡ [] → (command : Command) → IsWordless command
      → step_asked words side number (front ++ line ∷ []) command ≡ step_asked words side number front command
  still_asks front line link is aside unnamed command wordless =
      let next = front ++ line ∷ [] in
      let slot = length (turns_of front) - 1 in
      let turns : turns_of next ≡ turns_of front =
      flat_map-append pair_openings_in front (line ∷ []) ∙ ap (λ xs. turns_of front ++ (xs ++ [])) aside.turns ∙ append-nil (turns_of front) in
      let lines : lines_of side number next ≡ lines_of side number front =
      flat_map-append _ front (line ∷ []) ∙ ap (λ xs. lines_of side number front ++ (xs ++ [])) unnamed ∙ append-nil (lines_of side number front) in
      let begun : link_numbered number next ≡ link_numbered number front = number_stays number front (line ∷ []) link is ∙ sym is in
      (λ i. if is_earlier (begun i) (length (turns i) - 1) then step_by (lines i) (moment_in words side next (length (turns i) - 1)) command else None)
      ∙ ap (λ step. if is_earlier (link_numbered number front) slot then step else None)
      (same_step (opened_by (lines_of side number front)) (peer_by (lines_of side number front)) (moment_in words side next slot) (moment_in words side front slot) command wordless refl)

  -- the commands that these lines accept ask this
  abbrev AskAs : (Command → Option Step) → List Entry → List Entry → Type 0
  AskAs asks front [] = Unit {0}
  AskAs asks front (line ∷ lines) =
      AllByRecursion (λ command. step_asked words side number front command ≡ asks command) (accepted_in side front line) × AskAs asks (front ++ line ∷ []) lines

  abbrev asks_by : (Command → Option Step) → Command → List Seen
  asks_by asks command = asked_if (asks command)

  abbrev answers_by : (Command → Option Step) → Command → List Step
  answers_by asks command = answers_if (asks command)

  all_same : {X : Type 0} (f : Option Step → List X) (asks : Command → Option Step) (front : List Entry) (commands : List Command)
      → AllByRecursion (λ command. step_asked words side number front command ≡ asks command) commands
      → flat_map (λ command. f (step_asked words side number front command)) commands ≡ flat_map (λ command. f (asks command)) commands
  all_same f asks front [] all = refl
  all_same f asks front (command ∷ commands) all = λ i. f (all.0 i) ++ all_same f asks front commands all.1 i

  asks_along : (asks : Command → Option Step) (front lines : List Entry) → AllByRecursion (IsAside side number) lines
      → lines_of side number lines ≡ [] → AskAs asks front lines → seen_from words side number front lines ≡ flat_map (asks_by asks) (accepted_from side front lines)
  asks_along asks front [] aside none are = refl
  asks_along asks front (line ∷ lines) aside none are =
      let next = front ++ line ∷ [] in
      let both = both_none (where_named side number (link_named line) line) (lines_of side number lines) none in
      let now = flat_map (asks_by asks) (accepted_in side front line) in
      (λ i. (all_same asked_if asks front (accepted_in side front line) are.0 i ++ (aside.0.heard front i ++ map Says (both.0 i))) ++ seen_from words side number next lines)
      ∙ (λ i. append-nil now i ++ asks_along asks next lines aside.1 both.1 are.1 i)
      ∙ sym (flat_map-append (asks_by asks) (accepted_in side front line) (accepted_from side next lines))

  answers_along : (asks : Command → Option Step) (front lines : List Entry) → AskAs asks front lines
      → answers_from words side number front lines ≡ flat_map (answers_by asks) (accepted_from side front lines)
  answers_along asks front [] are = refl
  answers_along asks front (line ∷ lines) are =
      let next = front ++ line ∷ [] in
      (λ i. all_same answers_if asks front (accepted_in side front line) are.0 i ++ answers_along asks next lines are.1 i)
      ∙ sym (flat_map-append (answers_by asks) (accepted_in side front line) (accepted_from side next lines))

  -- where no words are looked at, they ask what they asked before
  wordless_ask : (asks : Command → Option Step) (front lines : List Entry) (link : LinkBegun) → link_numbered number front ≡ Some link
      → AllByRecursion (IsAside side number) lines → lines_of side number lines ≡ [] → AllByRecursion IsWordless (accepted_from side front lines)
      → ((command : Command) → IsWordless command → step_asked words side number front command ≡ asks command) → AskAs asks front lines
  wordless_ask asks front [] link is aside none wordless same = tt
  wordless_ask asks front (line ∷ lines) link is aside none wordless same =
      let both = both_none (where_named side number (link_named line) line) (lines_of side number lines) none in
      let parts = all_both IsWordless (accepted_in side front line) (accepted_from side (front ++ line ∷ []) lines) wordless in (
        each_asks asks front (accepted_in side front line) parts.0 same,
        wordless_ask asks (front ++ line ∷ []) lines link (number_stays number front (line ∷ []) link is) aside.1 both.1 parts.1
            (λ command one. still_asks front line link is aside.0 both.0 command one ∙ same command one),
      )
    where
      each_asks : (asks : Command → Option Step) (front : List Entry) (commands : List Command) → AllByRecursion IsWordless commands
          → ((command : Command) → IsWordless command → step_asked words side number front command ≡ asks command)
          → AllByRecursion (λ command. step_asked words side number front command ≡ asks command) commands
      each_asks asks front [] wordless same = tt
      each_asks asks front (command ∷ commands) wordless same = (same command wordless.0, each_asks asks front commands wordless.1 same)

  seen_both : (front xs ys : List Entry) → seen_from words side number front (xs ++ ys) ≡ seen_from words side number front xs ++ seen_from words side number (front ++ xs) ys
  seen_both front [] ys = ap (λ one. seen_from words side number one ys) (sym (append-nil front))
  seen_both front (line ∷ xs) ys =
      let next = front ++ line ∷ [] in
      ap (λ seen. seen_in_line words side number front line ++ seen) (seen_both next xs ys)
      ∙ sym (append_assoc (seen_in_line words side number front line) (seen_from words side number next xs) (seen_from words side number (next ++ xs) ys))
      ∙ ap (λ one. (seen_in_line words side number front line ++ seen_from words side number next xs) ++ seen_from words side number one ys) (append_assoc front (line ∷ []) xs)

  on_both : (xs ys : List Entry) → seen_on words side number (xs ++ ys) ≡ seen_on words side number xs ++ seen_from words side number xs ys
  unfolding seen_on
  on_both xs ys = seen_both [] xs ys

-- ---- a call with an octet

pub call_journal : (given : Given) (station : ℕ) (step : Call) (history : List Event)
    → journal_of (after_call given station step history) ≡ journal_of history ++ call_lines given station step history
call_journal given station step history =
    journal_more history (Called station step ∷ map (Noted station) (notes_after (setup_at given station) (facts_at given station history) step))

module _ (given : Given) (number : ℕ) (side : Side) (station : ℕ) (step : Call) (history : List Event)
    (same : lines_at number side (after_call given station step history) ≡ lines_at number side history) where
  abbrev more : List Entry
  more = call_lines given station step history

  call_none : lines_of side number more ≡ []
  call_none =
      append_cancel_left (lines_at number side history) (lines_of side number more) []
      (sym (flat_map-append _ (journal_of history) more) ∙ ap (lines_of side number) (sym (call_journal given station step history)) ∙ same
      ∙ sym (append-nil (lines_at number side history)))

  call_aside : AllByRecursion (IsAside side number) more
  call_aside = notes_aside side number station (links_of history) (notes_after (setup_at given station) (facts_at given station history) step)

-- ---- what the journal says of an open end before it

pub record IsKnownEnd (number : ℕ) (side : Side) (history : List Event) (slot handle : ℕ) (base : OpenLink) : Type 0 where
  pub link : LinkBegun
  pub is_link : link_numbered number (journal_of history) ≡ Some link
  pub earlier : link.slot < slot
  pub turns : length (turns_of (journal_of history)) - 1 ≡ slot
  pub handle_is : base.setup.link.handle ≡ handle
  pub lined : lines_at number side history ≡ map (line_of side number) (notes_opened_on base.setup base.past)
  pub goes_on : (facts_in base).control.ends ≡ None

module _ (words : Words) (number : ℕ) (side : Side) (history : List Event) (moment : Moment) (handle : ℕ) (base : OpenLink)
    (known : IsKnownEnd number side history moment.slot handle base) (words_are : moment_in words side (journal_of history) moment.slot ≡ moment) where
  -- a command asks the same by the lines and by the facts of the end
  same_asks : (command : Command) → step_asked words side number (journal_of history) command ≡ step_of handle moment base command
  same_asks command =
      let opened : opened_by (lines_at number side history) ≡ Some (handle, base.setup.link.role) =
      ap opened_by known.lined ∙ end_opened side number base.setup base.past ∙ ap (λ n. Some (n, base.setup.link.role)) known.handle_is in
      let peer : peer_by (lines_at number side history) ≡ (facts_in base).peer = ap peer_by known.lined ∙ end_knows side number base.setup base.past known.goes_on in
      let early : is_earlier (link_numbered number (journal_of history)) moment.slot ≡ true =
      ap (λ one. is_earlier one moment.slot) known.is_link ∙ lt-ltb known.link.slot moment.slot known.earlier in
      (λ i. if is_earlier (link_numbered number (journal_of history)) (known.turns i)
      then step_if_open (opened i) (peer i) (moment_in words side (journal_of history) (known.turns i)) command else None)
      ∙ (λ i. if early i then step_if_open (Some (handle, base.setup.link.role)) (facts_in base).peer (words_are i) command else None)

  module _ (given : Given) (station octet : ℕ) (after : OpenLink)
      (lined_after : lines_at number side (after_call given station (HostOctet octet) history) ≡ map (line_of side number) (notes_opened_on after.setup after.past))
      (accepted : accepted_from side (journal_of history) (call_lines given station (HostOctet octet) history) ≡ answered_after (facts_at given station history) (HostOctet octet))
      (asked : IsAsked handle moment (answered_after (facts_at given station history) (HostOctet octet)) base after) where
    same_lines : lines_at number side (after_call given station (HostOctet octet) history) ≡ lines_at number side history
    same_lines =
        lined_after ∙ (λ i. map (line_of side number) (notes_opened_on (asked.setup_is i) (asked.past_is i)))
        ∙ ap (map (line_of side number)) (notes_more base.setup base.past asked.steps
        ∙ ap (λ xs. notes_opened_on base.setup base.past ++ xs) asked.notes ∙ append-nil (notes_opened_on base.setup base.past))
        ∙ sym known.lined

    abbrev lines : List Entry
    lines = call_lines given station (HostOctet octet) history

    -- either its words are not looked at, or its answer is the first line of the call
    call_asks : AskAs words side number (step_of handle moment base) (journal_of history) lines
    call_asks = by (octet_words given station octet history)
      where
        one_line : (found : List Entry) (line : Entry) → found ≡ line ∷ [] → AskAs words side number (step_of handle moment base) (journal_of history) found
        one_line [] line is = absurd cc
        one_line (first ∷ []) line is = (all_asked (accepted_in side (journal_of history) first), tt)
          where
            all_asked : (commands : List Command) → AllByRecursion (λ command. step_asked words side number (journal_of history) command ≡ step_of handle moment base command) commands
            all_asked [] = tt
            all_asked (command ∷ commands) = (same_asks command, all_asked commands)
        one_line (first ∷ second ∷ more) line is = absurd cc

        by : AllByRecursion IsWordless (answered_after (facts_at given station history) (HostOctet octet)) ⊎ HasOneLine (call_lines given station (HostOctet octet) history)
            → AskAs words side number (step_of handle moment base) (journal_of history) (call_lines given station (HostOctet octet) history)
        by (inl wordless) =
            wordless_ask words side number (step_of handle moment base) (journal_of history) (call_lines given station (HostOctet octet) history) known.link known.is_link
            (call_aside given number side station (HostOctet octet) history same_lines) (call_none given number side station (HostOctet octet) history same_lines)
            (subst (AllByRecursion IsWordless) (sym accepted) wordless) (λ command one. same_asks command)
        by (inr one) = one_line (call_lines given station (HostOctet octet) history) one.line one.is

    pub asked_lines : seen_from words side number (journal_of history) (call_lines given station (HostOctet octet) history) ≡ asked_if asked.asked
    asked_lines =
        asks_along words side number (step_of handle moment base) (journal_of history) lines
        (call_aside given number side station (HostOctet octet) history same_lines) (call_none given number side station (HostOctet octet) history same_lines) call_asks
        ∙ ap (flat_map (λ command. asked_if (step_of handle moment base command))) accepted
        ∙ asked.commands_ask

    pub answered_lines : answers_from words side number (journal_of history) (call_lines given station (HostOctet octet) history) ≡ answers_if asked.asked
    answered_lines =
        answers_along words side number (step_of handle moment base) (journal_of history) lines call_asks
        ∙ ap (flat_map (λ command. answers_if (step_of handle moment base command))) accepted
        ∙ asked.commands_answer

    pub asked_seen : seen_at words number side history ≡ seen_of side number base.setup base.past
        → seen_at words number side (after_call given station (HostOctet octet) history) ≡ seen_of side number after.setup after.past
    asked_seen seen =
        ap (seen_on words side number) (call_journal given station (HostOctet octet) history)
        ∙ on_both words side number (journal_of history) (call_lines given station (HostOctet octet) history)
        ∙ (λ i. seen i ++ asked_lines i)
        ∙ ap (λ xs. seen_of side number base.setup base.past ++ xs) (sym (asked.asks side number))
        ∙ sym (seen_grows side number base.setup base.past asked.steps)
        ∙ sym (λ i. seen_of side number (asked.setup_is i) (asked.past_is i))
