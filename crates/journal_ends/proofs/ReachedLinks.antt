-- Until a turn after that of its CONNECT_IND no packet reaches an end of a link.
use Rattle.std.proofs.Common.{◌≡◌, ℕ, ◌+◌, ◌<◌, ◌≤◌, ◌==◌, Bool, true, false, Some, List, [], ◌∷◌, ◌++◌, refl, sym, ap, ◌∙◌, append-nil, arith}
use Rattle.std.specs.Prelude.{map}
use Rattle.std.proofs.lemmas.Bool.{eqb-true}
use Rattle.ble_base.specs.declared.notes.Note.{Note}
use Rattle.ble_base.specs.declared.roles.Side.{Side}
use Rattle.journal.specs.declared.entries.Entry.{Entry}
use Rattle.journal.specs.declared.entries.Entry.TheVariants.{Air}
use Rattle.journal_acks.specs.controller_model.Side.{notes_after}
use Rattle.journal_acks.specs.controller_model.Step.{Step as Call}
use Rattle.journal_acks.specs.journal_links.Begun.{LinkBegun, link_numbered}
use Rattle.journal_acks.specs.link_model.Setup.{Setup}
use Rattle.journal_acks.specs.run_model.History.{Event, TurnBegan, HostFed, Called, Noted, Transmitted, Hearing, is_handed, turns_begun}
use Rattle.journal_acks.specs.run_model.Journal.{air_entries, entries_of, journal_from, journal_of, mark_of, side_of}
use Rattle.journal_acks.specs.run_model.Links.{is_advertising, links_of}
use Rattle.journal_acks.specs.run_model.Run.{Given, after_call, facts_at, setup_at}
use Rattle.journal_acks.proofs.journal_links.LinksBegun.{number_stays}
use Rattle.journal_acks.proofs.run_model.Calls.{turns_called}
use Rattle.journal_acks.proofs.run_model.Parts.{journal_event, journal_more}
use Rattle.journal_acks.proofs.Counting.{IsBegun}
use Rattle.journal_acks.proofs.Exchanging.{any_note, call_keeps}
use Rattle.journal_acks.proofs.FirstCounts.{same_turns, too_late, turns_grow}
use Rattle.journal_ends.specs.Asked.{Words}
use Rattle.journal_ends.specs.Seen.{Seen, heard_in_line, seen_on}
use Rattle.journal_ends.proofs.SeenEvents.{link_heard, note_hears, unheard_advertised, unheard_apart, unheard_bad}
use Rattle.journal_ends.proofs.SeenLists.{packets_seen, unheard_line}

-- the packets that reached an end, good ones and forged ones
abbrev pub reached_at : Words → ℕ → Side → List Event → List Seen
reached_at words number side history = packets_seen (seen_on words side number (journal_of history))

-- ---- an event more

-- with one line, in which nothing is heard
line_reached : (words : Words) (number : ℕ) (side : Side) (history : List Event) (event : Event) (line : Entry) → entries_of (links_of history) event ≡ line ∷ []
    → heard_in_line side number (journal_of history) line ≡ [] → reached_at words number side (history ++ event ∷ []) ≡ reached_at words number side history
line_reached words number side history event line is none =
    ap (λ xs. packets_seen (seen_on words side number xs)) (journal_event history event ∙ ap (λ xs. journal_of history ++ xs) is)
    ∙ unheard_line words side number (journal_of history) line none

pub turn_reached : (words : Words) (number : ℕ) (side : Side) (history : List Event) (slot : ℕ) (radios : List Bool)
    → reached_at words number side (history ++ TurnBegan slot radios ∷ []) ≡ reached_at words number side history
turn_reached words number side history slot radios = line_reached words number side history (TurnBegan slot radios) _ refl refl

pub feed_reached : (words : Words) (number : ℕ) (side : Side) (history : List Event) (station : ℕ) (octets : List ℕ)
    → reached_at words number side (history ++ HostFed station octets ∷ []) ≡ reached_at words number side history
feed_reached words number side history station octets = line_reached words number side history (HostFed station octets) _ refl refl

note_reached : (words : Words) (number : ℕ) (side : Side) (history : List Event) (station : ℕ) (note : Note)
    → reached_at words number side (history ++ Noted station note ∷ []) ≡ reached_at words number side history
note_reached words number side history station note =
    let links = links_of history in
    line_reached words number side history (Noted station note) _ refl
    (note_hears number side (side_of station) (journal_of history) (links.link_of station) (links.last_of station) note)

call_reached : (words : Words) (number : ℕ) (side : Side) (history : List Event) (station : ℕ) (step : Call)
    → reached_at words number side (history ++ Called station step ∷ []) ≡ reached_at words number side history
call_reached words number side history station step =
    ap (λ xs. packets_seen (seen_on words side number xs)) (journal_event history (Called station step) ∙ append-nil (journal_of history))

-- in a call no packet does
pub reached_called : (words : Words) (given : Given) (number : ℕ) (side : Side) (station : ℕ) (step : Call) (history : List Event)
    → reached_at words number side (after_call given station step history) ≡ reached_at words number side history
reached_called words given number side station step history =
    call_keeps (List Seen) (reached_at words number side) (λ note. true ≡ true) station (λ before note any. note_reached words number side before station note)
    given step history (call_reached words number side history station step) (any_note _)

-- ---- a packet on the air

air_reached : (words : Words) (number : ℕ) (side : Side) (station channel : ℕ) (octets : List ℕ) (history : List Event) (hearings : List Hearing) (hearing : Hearing) → hearings ≡ hearing ∷ []
    → heard_in_line side number (journal_of history) (Air (side_of station) channel octets (mark_of hearing.fate) hearing.verdict) ≡ []
    → reached_at words number side (history ++ Transmitted station channel octets hearings ∷ []) ≡ reached_at words number side history
air_reached words number side station channel octets history hearings hearing are none =
    line_reached words number side history (Transmitted station channel octets hearings) _ (ap (air_entries (side_of station) channel octets) are) none

-- on an advertising channel
pub advertised_reached : (words : Words) (number : ℕ) (side : Side) (station channel : ℕ) (octets : List ℕ) (history : List Event) (hearings : List Hearing) (hearing : Hearing) → hearings ≡ hearing ∷ []
    → is_advertising channel ≡ true → reached_at words number side (history ++ Transmitted station channel octets hearings ∷ []) ≡ reached_at words number side history
advertised_reached words number side station channel octets history hearings hearing are on =
    air_reached words number side station channel octets history hearings hearing are (unheard_advertised number side history station channel octets hearing on)

-- or neither good nor forged
pub bad_reached : (words : Words) (number : ℕ) (side : Side) (station channel : ℕ) (octets : List ℕ) (history : List Event) (hearings : List Hearing) (hearing : Hearing) → hearings ≡ hearing ∷ []
    → is_handed hearing.verdict ≡ false → reached_at words number side (history ++ Transmitted station channel octets hearings ∷ []) ≡ reached_at words number side history
bad_reached words number side station channel octets history hearings hearing are none =
    air_reached words number side station channel octets history hearings hearing are (unheard_bad number side history station channel octets hearing none)

-- of another link
apart_reached : (words : Words) (number other : ℕ) (side : Side) (station channel : ℕ) (octets : List ℕ) (history : List Event) (hearings : List Hearing) (hearing : Hearing) → hearings ≡ hearing ∷ []
    → is_advertising channel ≡ false → link_heard history station octets hearing ≡ Some other → (other == number) ≡ false
    → reached_at words number side (history ++ Transmitted station channel octets hearings ∷ []) ≡ reached_at words number side history
apart_reached words number other side station channel octets history hearings hearing are off belongs apart =
    air_reached words number side station channel octets history hearings hearing are (unheard_apart number other side history station channel octets hearing off belongs apart)

-- ---- a link that began before this turn, or that no packet reached yet

pub data IsUnreached (words : Words) (number : ℕ) (history : List Event) : Type 0 where
  IsOld : (link : LinkBegun) → link_numbered number (journal_of history) ≡ Some link → link.slot + 1 < turns_begun history → IsUnreached words number history
  NoneReached : ((side : Side) → reached_at words number side history ≡ []) → IsUnreached words number history

abbrev pub AreUnreached : Words → List Event → Type 0
AreUnreached words history = (number : ℕ) → IsUnreached words number history

unreached_grown : (words : Words) (number : ℕ) (history after : List Event) (rest : List Entry) → journal_of after ≡ journal_of history ++ rest → turns_begun history ≤ turns_begun after
    → ((side : Side) → reached_at words number side after ≡ reached_at words number side history) → IsUnreached words number history → IsUnreached words number after
unreached_grown words number history after rest grows turns same (IsOld link is before) =
    IsOld link (ap (link_numbered number) grows ∙ number_stays number (journal_of history) rest link is) (omega (arith, before, turns))
unreached_grown words number history after rest grows turns same (NoneReached none) = NoneReached (λ side. same side ∙ none side)

pub unreached_event : (words : Words) (number : ℕ) (history : List Event) (event : Event) → ((side : Side) → reached_at words number side (history ++ event ∷ []) ≡ reached_at words number side history)
    → IsUnreached words number history → IsUnreached words number (history ++ event ∷ [])
unreached_event words number history event same is =
    unreached_grown words number history (history ++ event ∷ []) (entries_of (links_of history) event) (journal_event history event) (turns_grow history event) same is

pub unreached_called : (words : Words) (given : Given) (station : ℕ) (step : Call) (history : List Event) → AreUnreached words history → AreUnreached words (after_call given station step history)
unreached_called words given station step history are = λ number.
    let notes = notes_after (setup_at given station) (facts_at given station history) step in
    let after = after_call given station step history in
    unreached_grown words number history after (journal_from (links_of history) (Called station step ∷ map (Noted station) notes))
    (journal_more history (Called station step ∷ map (Noted station) notes))
    (same_turns (turns_begun history) (turns_begun after) (turns_called station step notes history)) (λ side. reached_called words given number side station step history) (are number)

-- a packet of a link that began before this turn
pub unreached_packet_of : (words : Words) (number other station channel : ℕ) (octets : List ℕ) (history : List Event) (hearings : List Hearing) (hearing : Hearing) (link : LinkBegun) → hearings ≡ hearing ∷ []
    → is_advertising channel ≡ false → link_heard history station octets hearing ≡ Some other → link_numbered other (journal_of history) ≡ Some link
    → link.slot + 1 < turns_begun history → IsUnreached words number history → (same : Bool) → (other == number) ≡ same
    → IsUnreached words number (history ++ Transmitted station channel octets hearings ∷ [])
unreached_packet_of words number other station channel octets history hearings hearing link are off belongs is before unreached true same =
    let event = Transmitted station channel octets hearings in
    let more = turns_grow history event in
    IsOld link
    (ap (link_numbered number) (journal_event history event)
    ∙ number_stays number (journal_of history) (entries_of (links_of history) event) link (ap (λ n. link_numbered n (journal_of history)) (sym (eqb-true other number same)) ∙ is))
    (omega (arith, before, more))
unreached_packet_of words number other station channel octets history hearings hearing link are off belongs is before unreached false apart =
    unreached_event words number history (Transmitted station channel octets hearings)
    (λ side. apart_reached words number other side station channel octets history hearings hearing are off belongs apart) unreached

pub none_unreached : (words : Words) → AreUnreached words []
unfolding seen_on journal_of
none_unreached words = λ number. NoneReached (λ side. refl)

-- a link of this turn
pub unreached_now : (words : Words) (history : List Event) (number station : ℕ) (end : Setup) (side : Side) → IsUnreached words number history → IsBegun history number station end
    → end.opened + 1 ≡ turns_begun history → reached_at words number side history ≡ []
unreached_now words history number station end side (NoneReached none) begun now = none side
unreached_now words history number station end side (IsOld link is before) begun now =
    let same : Some link ≡ Some begun.link = sym is ∙ begun.is_link in
    let equal : link ≡ begun.link = cc in
    let slots : link.slot ≡ end.opened = ap (λ (l : LinkBegun). l.slot) equal ∙ begun.slot in
    let late : end.opened + 1 < turns_begun history = omega (arith, slots, before) in
    too_late end.opened (turns_begun history) _ late now
