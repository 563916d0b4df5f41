-- What an event or a call adds to what is seen of an end by a journal.
use Rattle.std.proofs.Common.{◌≡◌, ℕ, ◌-◌, ◌==◌, ◌&&◌, not, Bool, true, false, Option, Some, List, [], ◌∷◌, ◌++◌, length, map, refl, sym, ap, ◌∙◌, append-nil, append_assoc}
use Rattle.std.specs.Prelude.{flat_map}
use Rattle.std.specs.List.{AllByRecursion}
use Rattle.std.proofs.lemmas.Bool.{and_left, and_right}
use Rattle.std.proofs.lemmas.List.{append_cancel_left, map-append}
use Rattle.ble_base.specs.Side.{other_side}
use Rattle.ble_base.specs.declared.notes.Note.{Note}
use Rattle.ble_base.specs.declared.notes.Note.TheVariants.{Up}
use Rattle.ble_base.specs.declared.roles.Side.{Side}
use Rattle.ble_base.specs.declared.verdicts.Verdict.{Verdict}
use Rattle.ble_base.specs.declared.verdicts.Verdict.TheVariants.{Broken, Forged, Good, Missed}
use Rattle.journal.specs.declared.entries.Entry.{Entry}
use Rattle.journal.specs.declared.entries.Entry.TheVariants.{Air}
use Rattle.journal_acks.specs.controller_model.Side.{notes_after}
use Rattle.journal_acks.specs.controller_model.Since.{notes_opened_on}
use Rattle.journal_acks.specs.controller_model.Step.{Step as Call}
use Rattle.journal_acks.specs.journal_links.LinkLines.{line_of, lines_of, link_named, where_named}
use Rattle.journal_acks.specs.journal_packets.Belonging.{is_side}
use Rattle.journal_acks.specs.link_model.End.{facts_of, notes_from}
use Rattle.journal_acks.specs.link_model.Setup.{Setup}
use Rattle.journal_acks.specs.link_model.Step.{Step}
use Rattle.journal_acks.specs.run_model.History.{Event, TurnBegan, HostFed, Called, Noted, Transmitted, Hearing, is_handed}
use Rattle.journal_acks.specs.run_model.Journal.{air_entries, entries_of, entry_of, journal_of, mark_of, side_of}
use Rattle.journal_acks.specs.run_model.Links.{is_advertising, links_of}
use Rattle.journal_acks.specs.run_model.Readers.{turns_of}
use Rattle.journal_acks.specs.run_model.Run.{Given, after_call, facts_at, setup_at}
use Rattle.journal_acks.specs.Exchange.{is_number}
use Rattle.journal_acks.proofs.journal_links.LinkLines.{line_more}
use Rattle.journal_acks.proofs.run_model.Parts.{journal_event}
use Rattle.host_answers.specs.Answered.{accepted_in, accepted_with, next_command}
use Rattle.host_answers.proofs.LineAnswers.{IsQuiet, statuses_in}
use Rattle.journal_ends.specs.Answering.{answers_if, answers_in_line}
use Rattle.journal_ends.specs.Asked.{Words, step_asked}
use Rattle.journal_ends.specs.Seen.{Says, Seen, asked_if, asked_in_line, heard_in_line, heard_link, heard_where, is_heard_on, notes_said, seen_in_steps, seen_of, seen_on}
use Rattle.journal_ends.proofs.PastSeen.{notes_more, seen_grows}
use Rattle.journal_ends.proofs.SeenLists.{seen_more}

-- what an end says and hears, by the journal of a history
abbrev pub seen_at : Words → ℕ → Side → List Event → List Seen
seen_at words number side history = seen_on words side number (journal_of history)

abbrev pub lines_at : ℕ → Side → List Event → List Entry
lines_at number side history = lines_of side number (journal_of history)

-- ---- lines, and nothing that is heard

pub record IsSaying (words : Words) (number : ℕ) (side : Side) (history after : List Event) : Type 0 where
  pub more : List Entry
  pub lines : lines_at number side after ≡ lines_at number side history ++ more
  pub seen : seen_at words number side after ≡ seen_at words number side history ++ map Says more

saying_then : (words : Words) (number : ℕ) (side : Side) (first second third : List Event) → IsSaying words number side first second → IsSaying words number side second third
    → IsSaying words number side first third
saying_then words number side first second third one next = record {
  more = one.more ++ next.more;
  lines = next.lines ∙ ap (λ xs. xs ++ next.more) one.lines ∙ append_assoc (lines_at number side first) one.more next.more;
  seen = next.seen ∙ ap (λ xs. xs ++ map Says next.more) one.seen ∙ append_assoc (seen_at words number side first) (map Says one.more) (map Says next.more)
      ∙ ap (λ xs. seen_at words number side first ++ xs) (sym (map-append Says one.more next.more));
}

-- an event with one line, in which nothing is heard and nothing is asked
line_says : (words : Words) (number : ℕ) (side : Side) (history : List Event) (event : Event) (line : Entry) → entries_of (links_of history) event ≡ line ∷ []
    → heard_in_line side number (journal_of history) line ≡ [] → asked_in_line words side number (journal_of history) line ≡ []
    → IsSaying words number side history (history ++ event ∷ [])
line_says words number side history event line is none unasked =
    let named = where_named side number (link_named line) line in
    let journal = journal_event history event ∙ ap (λ xs. journal_of history ++ xs) is in record {
      more = named;
      lines = ap (lines_of side number) journal ∙ line_more side number (journal_of history) line named (append-nil named);
      seen = ap (seen_on words side number) journal ∙ seen_more words side number (journal_of history) line
          ∙ (λ i. seen_at words number side history ++ (unasked i ++ (none i ++ map Says named)));
    }

pub turn_says : (words : Words) (number : ℕ) (side : Side) (history : List Event) (slot : ℕ) (radios : List Bool) → IsSaying words number side history (history ++ TurnBegan slot radios ∷ [])
turn_says words number side history slot radios = line_says words number side history (TurnBegan slot radios) _ refl refl refl

pub feed_says : (words : Words) (number : ℕ) (side : Side) (history : List Event) (station : ℕ) (octets : List ℕ) → IsSaying words number side history (history ++ HostFed station octets ∷ [])
feed_says words number side history station octets = line_says words number side history (HostFed station octets) _ refl refl refl

pub note_hears : (number : ℕ) (side other : Side) (front : List Entry) (link_of : ℕ → ℕ) (last : ℕ) (note : Note) → heard_in_line side number front (entry_of other link_of last note) ≡ []
note_hears number side other front link_of last (Up packet) = refl
note_hears number side other front link_of last note = refl

pub unaccepted_by : (side : Side) (front : List Entry) (line : Entry) → statuses_in side line ≡ [] → accepted_in side front line ≡ []
unaccepted_by side front line none = ap (flat_map (accepted_with (next_command side front))) none

-- where no command is accepted nothing is asked, and nothing is answered to the peer
pub unasked_in : (words : Words) (side : Side) (number : ℕ) (front : List Entry) (line : Entry) → accepted_in side front line ≡ [] → asked_in_line words side number front line ≡ []
unasked_in words side number front line none = ap (flat_map (λ command. asked_if (step_asked words side number front command))) none

pub unanswered_in : (words : Words) (side : Side) (number : ℕ) (front : List Entry) (line : Entry) → accepted_in side front line ≡ [] → answers_in_line words side number front line ≡ []
unanswered_in words side number front line none = ap (flat_map (λ command. answers_if (step_asked words side number front command))) none

pub unasked_by : (words : Words) (side : Side) (number : ℕ) (front : List Entry) (line : Entry) → statuses_in side line ≡ [] → asked_in_line words side number front line ≡ []
unasked_by words side number front line none = unasked_in words side number front line (unaccepted_by side front line none)

note_says : (words : Words) (number : ℕ) (side : Side) (history : List Event) (station : ℕ) (note : Note) → IsQuiet side station note
    → IsSaying words number side history (history ++ Noted station note ∷ [])
note_says words number side history station note quiet =
    let links = links_of history in
    line_says words number side history (Noted station note) _ refl
    (note_hears number side (side_of station) (journal_of history) (links.link_of station) (links.last_of station) note)
    (unasked_by words side number (journal_of history) _ (quiet (links.link_of station) (links.last_of station)))

call_says_none : (words : Words) (number : ℕ) (side : Side) (history : List Event) (station : ℕ) (step : Call) → IsSaying words number side history (history ++ Called station step ∷ [])
call_says_none words number side history station step =
    let journal = journal_event history (Called station step) ∙ append-nil (journal_of history) in record {
      more = [];
      lines = ap (lines_of side number) journal ∙ sym (append-nil (lines_at number side history));
      seen = ap (seen_on words side number) journal ∙ sym (append-nil (seen_at words number side history));
    }

nothing_says : (words : Words) (number : ℕ) (side : Side) (history after : List Event) → after ≡ history → IsSaying words number side history after
nothing_says words number side history after same = record {
  more = [];
  lines = ap (lines_at number side) same ∙ sym (append-nil (lines_at number side history));
  seen = ap (seen_at words number side) same ∙ sym (append-nil (seen_at words number side history));
}

notes_say : (words : Words) (number : ℕ) (side : Side) (station : ℕ) (notes : List Note) (history after : List Event) → AllByRecursion (IsQuiet side station) notes
    → after ≡ history ++ map (Noted station) notes → IsSaying words number side history after
notes_say words number side station [] history after quiet is = nothing_says words number side history after (is ∙ append-nil history)
notes_say words number side station (note ∷ notes) history after quiet is =
    let next = history ++ Noted station note ∷ [] in
    saying_then words number side history next after (note_says words number side history station note quiet.0)
    (notes_say words number side station notes next after quiet.1 (is ∙ sym (append_assoc history (Noted station note ∷ []) (map (Noted station) notes))))

-- a call with notes that answer no command of the side
pub call_says : (words : Words) (given : Given) (number : ℕ) (side : Side) (station : ℕ) (step : Call) (history : List Event)
    → AllByRecursion (IsQuiet side station) (notes_after (setup_at given station) (facts_at given station history) step)
    → IsSaying words number side history (after_call given station step history)
call_says words given number side station step history quiet =
    let notes = notes_after (setup_at given station) (facts_at given station history) step in
    let called = history ++ Called station step ∷ [] in
    let after = after_call given station step history in
    saying_then words number side history called after (call_says_none words number side history station step)
    (notes_say words number side station notes called after quiet (sym (append_assoc history (Called station step ∷ []) (map (Noted station) notes))))

-- ---- an end to which more happened

-- its lines before and after are its notes, so the lines between are those of what happened since
pub grows_seen : (words : Words) (number : ℕ) (side : Side) (setup : Setup) (past steps : List Step) (heard : List Seen) (history after : List Event) → IsSaying words number side history after
    → lines_at number side history ≡ map (line_of side number) (notes_opened_on setup past)
    → lines_at number side after ≡ map (line_of side number) (notes_opened_on setup (past ++ steps))
    → seen_in_steps side number setup (facts_of setup past) steps ≡ heard ++ notes_said side number (notes_from setup (facts_of setup past) steps)
    → seen_at words number side history ≡ seen_of side number setup past ++ heard → seen_at words number side after ≡ seen_of side number setup (past ++ steps)
grows_seen words number side setup past steps heard history after saying lined lined_after hears seen =
    let notes = notes_from setup (facts_of setup past) steps in
    let more : saying.more ≡ map (line_of side number) notes =
    append_cancel_left (lines_at number side history) saying.more (map (line_of side number) notes)
    (sym saying.lines ∙ lined_after ∙ ap (map (line_of side number)) (notes_more setup past steps)
    ∙ map-append (line_of side number) (notes_opened_on setup past) notes ∙ ap (λ xs. xs ++ map (line_of side number) notes) (sym lined)) in
    saying.seen ∙ (λ i. seen i ++ map Says (more i))
    ∙ append_assoc (seen_of side number setup past) heard (notes_said side number notes)
    ∙ ap (λ xs. seen_of side number setup past ++ xs) (sym hears)
    ∙ sym (seen_grows side number setup past steps)

-- ---- a packet on the air

-- it is one of the other side that is heard on this link
abbrev pub is_heard_of : ℕ → Side → List Event → ℕ → ℕ → List ℕ → Hearing → Bool
is_heard_of number side history station channel octets hearing =
    is_heard_on number (journal_of history) (side_of station) channel octets (mark_of hearing.fate) hearing.verdict && is_side (side_of station) (other_side side)

-- the link on which it is heard
abbrev pub link_heard : List Event → ℕ → List ℕ → Hearing → Option ℕ
link_heard history station octets hearing = heard_link (journal_of history) (side_of station) octets (mark_of hearing.fate) hearing.verdict

abbrev pub heard_at_air : ℕ → Side → List Event → ℕ → ℕ → List ℕ → Hearing → List Seen
heard_at_air number side history station channel octets hearing =
    heard_where (is_heard_of number side history station channel octets hearing) hearing.verdict (length (turns_of (journal_of history)) - 1) octets

pub packet_seen : (words : Words) (number : ℕ) (side : Side) (station channel : ℕ) (octets : List ℕ) (history : List Event) (hearings : List Hearing) (hearing : Hearing) → hearings ≡ hearing ∷ []
    → seen_at words number side (history ++ Transmitted station channel octets hearings ∷ [])
    ≡ seen_at words number side history ++ heard_at_air number side history station channel octets hearing
packet_seen words number side station channel octets history hearings hearing are =
    let heard = heard_at_air number side history station channel octets hearing in
    ap (seen_on words side number) (journal_event history (Transmitted station channel octets hearings)
    ∙ ap (λ xs. journal_of history ++ air_entries (side_of station) channel octets xs) are)
    ∙ seen_more words side number (journal_of history) (Air (side_of station) channel octets (mark_of hearing.fate) hearing.verdict)
    ∙ ap (λ xs. seen_at words number side history ++ xs) (append-nil heard)

-- it is not heard
pub packet_unseen : (words : Words) (number : ℕ) (side : Side) (station channel : ℕ) (octets : List ℕ) (history : List Event) (hearings : List Hearing) (hearing : Hearing) → hearings ≡ hearing ∷ []
    → heard_at_air number side history station channel octets hearing ≡ []
    → seen_at words number side (history ++ Transmitted station channel octets hearings ∷ []) ≡ seen_at words number side history
packet_unseen words number side station channel octets history hearings hearing are none =
    packet_seen words number side station channel octets history hearings hearing are
    ∙ ap (λ xs. seen_at words number side history ++ xs) none
    ∙ append-nil (seen_at words number side history)

-- as it is on an advertising channel
pub unheard_advertised : (number : ℕ) (side : Side) (history : List Event) (station channel : ℕ) (octets : List ℕ) (hearing : Hearing) → is_advertising channel ≡ true
    → heard_at_air number side history station channel octets hearing ≡ []
unheard_advertised number side history station channel octets hearing on =
    ap (λ b. heard_where ((not b && is_number (link_heard history station octets hearing) number) && is_side (side_of station) (other_side side))
    hearing.verdict (length (turns_of (journal_of history)) - 1) octets) on

-- or of the side itself
pub unheard_own : (number : ℕ) (side : Side) (history : List Event) (station channel : ℕ) (octets : List ℕ) (hearing : Hearing)
    → is_side (side_of station) (other_side side) ≡ false → heard_at_air number side history station channel octets hearing ≡ []
unheard_own number side history station channel octets hearing none =
    ap (λ b. heard_where b hearing.verdict (length (turns_of (journal_of history)) - 1) octets)
    (and_right (is_heard_on number (journal_of history) (side_of station) channel octets (mark_of hearing.fate) hearing.verdict) (is_side (side_of station) (other_side side)) none)

-- or neither good nor forged
unheard_verdict : (ours : Bool) (verdict : Verdict) (slot : ℕ) (octets : List ℕ) → is_handed verdict ≡ false → heard_where ours verdict slot octets ≡ []
unheard_verdict true Good slot octets none = absurd cc
unheard_verdict true Forged slot octets none = absurd cc
unheard_verdict true Missed slot octets none = refl
unheard_verdict true Broken slot octets none = refl
unheard_verdict false verdict slot octets none = refl

pub unheard_bad : (number : ℕ) (side : Side) (history : List Event) (station channel : ℕ) (octets : List ℕ) (hearing : Hearing)
    → is_handed hearing.verdict ≡ false → heard_at_air number side history station channel octets hearing ≡ []
unheard_bad number side history station channel octets hearing none =
    unheard_verdict (is_heard_of number side history station channel octets hearing) hearing.verdict (length (turns_of (journal_of history)) - 1) octets none

-- one of a link
pub heard_of_link : (number other : ℕ) (side : Side) (history : List Event) (station channel : ℕ) (octets : List ℕ) (hearing : Hearing) → is_advertising channel ≡ false
    → link_heard history station octets hearing ≡ Some other
    → is_heard_of number side history station channel octets hearing ≡ ((other == number) && is_side (side_of station) (other_side side))
heard_of_link number other side history station channel octets hearing off belongs =
    ap (λ b. (not b && is_number (link_heard history station octets hearing) number) && is_side (side_of station) (other_side side)) off
    ∙ ap (λ may. is_number may number && is_side (side_of station) (other_side side)) belongs

-- or of another one
pub unheard_apart : (number other : ℕ) (side : Side) (history : List Event) (station channel : ℕ) (octets : List ℕ) (hearing : Hearing) → is_advertising channel ≡ false
    → link_heard history station octets hearing ≡ Some other → (other == number) ≡ false
    → heard_at_air number side history station channel octets hearing ≡ []
unheard_apart number other side history station channel octets hearing off belongs apart =
    ap (λ b. heard_where b hearing.verdict (length (turns_of (journal_of history)) - 1) octets)
    (heard_of_link number other side history station channel octets hearing off belongs
    ∙ and_left (other == number) (is_side (side_of station) (other_side side)) apart)
