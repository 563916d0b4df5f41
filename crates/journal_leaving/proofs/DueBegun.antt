-- The reason for which a link was to end as a turn began, by a journal that grows; and that none was due to a link of that turn.
use Rattle.std.proofs.Common.{◌≡◌, ℕ, zero, suc, ◌+◌, ◌-◌, ◌<◌, ◌≤◌, Bool, true, false, Option, Some, None, List, [], ◌∷◌, ◌++◌, length, refl, sym, ap, subst, ◌∙◌, append-nil, append_assoc, arith}
use Rattle.std.specs.Prelude.{slice_get, if◌then◌else◌}
use Rattle.std.specs.List.{AllByRecursion}
use Rattle.ble_base.specs.declared.roles.Side.{Side}
use Rattle.adv_pdu.specs.declared.pdu.AdvPdu.{AdvPdu}
use Rattle.adv_pdu.specs.declared.pdu.AdvPdu.TheVariants.{Connect}
use Rattle.journal.specs.declared.entries.Entry.{Entry}
use Rattle.journal.specs.declared.entries.Entry.TheVariants.{Air, Turn}
use Rattle.journal_controls.specs.controller_model.Packets.{pdu_heard}
use Rattle.journal_controls.specs.LineSteps.{control_on, turn_now}
use Rattle.journal_controls.specs.journal_acks.Shut.{last_heard}
use Rattle.journal_controls.specs.journal_ends.Asked.{Words}
use Rattle.journal_controls.specs.journal_links.Begun.{LinkBegun, begun_by, begun_in, link_numbered, links_begun, with_number}
use Rattle.journal_controls.specs.link_model.Setup.{Setup as EndSetup}
use Rattle.journal_controls.specs.run_model.History.{Event, TurnBegan, Hearing, Transmitted, turns_begun}
use Rattle.journal_controls.specs.run_model.Journal.{entries_of, journal_of}
use Rattle.journal_controls.specs.run_model.Links.{is_advertising, links_of}
use Rattle.journal_controls.specs.run_model.Readers.{turns_of}
use Rattle.journal_controls.proofs.EventMoves.{air_line}
use Rattle.journal_controls.proofs.journal_acks.Counting.{IsBegun}
use Rattle.journal_controls.proofs.journal_links.LinksBegun.{links_more, number_stays}
use Rattle.journal_controls.proofs.run_model.Calls.{turns_more}
use Rattle.journal_controls.proofs.run_model.Fates.{turns_are}
use Rattle.journal_controls.proofs.run_model.Parts.{journal_event}
use Rattle.journal_leaving.specs.Leaving.{leaving_on}
use Rattle.journal_leaving.specs.Reasons.{due_begun, due_begun_after, due_begun_from, due_on, due_with}
use Rattle.journal_leaving.proofs.OtherLines.{is_other}

abbrev pub due_begun_at : Words → ℕ → Side → List Event → Option ℕ
due_begun_at words number side history = due_begun words side number (journal_of history)

-- ---- a line more

from_more : (words : Words) (side : Side) (number : ℕ) (front : List Entry) (before : Option ℕ) (lines : List Entry) (line : Entry)
    → due_begun_from words side number front before (lines ++ line ∷ []) ≡ due_begun_after words side number (front ++ lines) (due_begun_from words side number front before lines) line
from_more words side number front before [] line = ap (λ xs. due_begun_after words side number xs before line) (sym (append-nil front))
from_more words side number front before (first ∷ lines) line =
    from_more words side number (front ++ first ∷ []) (due_begun_after words side number front before first) lines line
    ∙ ap (λ xs. due_begun_after words side number xs (due_begun_from words side number (front ++ first ∷ []) (due_begun_after words side number front before first) lines) line)
    (append_assoc front (first ∷ []) lines)

pub due_more : (words : Words) (side : Side) (number : ℕ) (journal : List Entry) (line : Entry)
    → due_begun words side number (journal ++ line ∷ []) ≡ due_begun_after words side number journal (due_begun words side number journal) line
unfolding due_begun
due_more words side number journal line = from_more words side number [] None journal line

other_due : (words : Words) (side : Side) (number : ℕ) (front : List Entry) (before : Option ℕ) (line : Entry) → is_other line ≡ true → due_begun_after words side number front before line ≡ before
other_due words side number front before (Turn slot a_on b_on) other = absurd cc
other_due words side number front before line other = refl

pub still_due : (words : Words) (side : Side) (number : ℕ) (front : List Entry) (line : Entry) → is_other line ≡ true → due_begun words side number (front ++ line ∷ []) ≡ due_begun words side number front
still_due words side number front line other = due_more words side number front line ∙ other_due words side number front (due_begun words side number front) line other

-- a packet
pub air_due : (words : Words) (number : ℕ) (side : Side) (history : List Event) (station channel : ℕ) (octets : List ℕ) (hearings : List Hearing)
    → due_begun_at words number side (history ++ Transmitted station channel octets hearings ∷ []) ≡ due_begun_at words number side history
air_due words number side history station channel octets [] =
    ap (due_begun words side number) (journal_event history (Transmitted station channel octets []) ∙ append-nil (journal_of history))
air_due words number side history station channel octets (hearing ∷ hearings) =
    ap (due_begun words side number) (journal_event history (Transmitted station channel octets (hearing ∷ hearings))) ∙ due_more words side number (journal_of history) _

-- a turn
pub turn_due : (words : Words) (number : ℕ) (side : Side) (history : List Event) (slot : ℕ) (radios : List Bool)
    → let after = history ++ TurnBegan slot radios ∷ [] in due_begun_at words number side after ≡ due_on words side number (journal_of after)
turn_due words number side history slot radios =
    let journal = journal_event history (TurnBegan slot radios) in
    ap (due_begun words side number) journal ∙ due_more words side number (journal_of history) _ ∙ ap (due_on words side number) (sym journal)

-- ---- the links that began so far

still_begun : (front : List Entry) (line : Entry) → begun_in front line ≡ [] → links_begun (front ++ line ∷ []) ≡ links_begun front
still_begun front line none =
    links_more front (line ∷ []) ∙ ap (λ xs. links_begun front ++ (xs ++ [])) none ∙ append-nil (links_begun front)

other_begins : (front : List Entry) (line : Entry) → is_other line ≡ true → begun_in front line ≡ []
other_begins front (Air sender channel octets fate verdict) other = absurd cc
other_begins front line other = refl

pub still_links : (front : List Entry) (line : Entry) → is_other line ≡ true → links_begun (front ++ line ∷ []) ≡ links_begun front
still_links front line other = still_begun front line (other_begins front line other)

-- each in a turn before this number of turns
abbrev pub AreIn : ℕ → List LinkBegun → Type 0
AreIn turns links = AllByRecursion (λ link. link.slot + 1 ≤ turns) links

in_more : (turns later : ℕ) (links : List LinkBegun) → turns ≤ later → AreIn turns links → AreIn later links
in_more turns later [] more are = tt
in_more turns later (link ∷ links) more are = let first = are.0 in (omega (arith, first, more), in_more turns later links more are.1)

in_both : (turns : ℕ) (links more : List LinkBegun) → AreIn turns links → AreIn turns more → AreIn turns (links ++ more)
in_both turns [] more are also = also
in_both turns (link ∷ links) more are also = (are.0, in_both turns links more are.1 also)

at_place : (turns : ℕ) (links : List LinkBegun) (place : ℕ) (link : LinkBegun) → AreIn turns links → slice_get links place ≡ Some link → link.slot + 1 ≤ turns
at_place turns [] place link are is = absurd cc
at_place turns (one ∷ links) zero link are is = let same : one ≡ link = cc in subst (λ (l : LinkBegun). l.slot + 1 ≤ turns) same are.0
at_place turns (one ∷ links) (suc place) link are is = at_place turns links place link are.1 is

numbered_in : (turns number : ℕ) (links : List LinkBegun) (link : LinkBegun) → AreIn turns links → with_number number links ≡ Some link → link.slot + 1 ≤ turns
numbered_in turns zero links link are is = absurd cc
numbered_in turns (suc number) links link are is = at_place turns links number link are is

turn_links : (history : List Event) (slot : ℕ) (radios : List Bool) → links_begun (journal_of (history ++ TurnBegan slot radios ∷ [])) ≡ links_begun (journal_of history)
turn_links history slot radios = ap links_begun (journal_event history (TurnBegan slot radios)) ∙ still_begun (journal_of history) _ refl

pub turn_in : (history : List Event) (slot : ℕ) (radios : List Bool) → AreIn (turns_begun history) (links_begun (journal_of history))
    → let after = history ++ TurnBegan slot radios ∷ [] in AreIn (turns_begun after) (links_begun (journal_of after))
turn_in history slot radios are =
    let event = TurnBegan slot radios in
    let more = turns_more history event in
    subst (AreIn (turns_begun (history ++ event ∷ []))) (sym (turn_links history slot radios))
    (in_more (turns_begun history) (turns_begun (history ++ event ∷ [])) (links_begun (journal_of history)) (omega (arith, more)) are)

by_in : (turns slot : ℕ) (side : Side) (offered : Bool) (pdu : Option AdvPdu) → slot + 1 ≤ turns → AreIn turns (begun_by side slot offered pdu)
by_in turns slot side offered None now = tt
by_in turns slot side offered (Some (Connect from to ch_sel fields)) now = (now, tt)
by_in turns slot side offered (Some other) now = tt

if_in : (turns : ℕ) (on : Bool) (links : List LinkBegun) → AreIn turns links → AreIn turns (if on then links else [])
if_in turns true links are = are
if_in turns false links are = tt

line_in : (turns : ℕ) (front : List Entry) (line : Entry) → length (turns_of front) ≡ turns → 0 < turns → AreIn turns (begun_in front line)
line_in turns front (Air side channel octets fate verdict) now some =
    if_in turns (is_advertising channel) _ (by_in turns (length (turns_of front) - 1) side _ (pdu_heard channel octets) (omega (arith, now, some)))
line_in turns front line now some = tt

pub air_in : (history : List Event) (station channel : ℕ) (octets : List ℕ) (hearings : List Hearing) → 0 < turns_begun history
    → AreIn (turns_begun history) (links_begun (journal_of history))
    → let after = history ++ Transmitted station channel octets hearings ∷ [] in AreIn (turns_begun after) (links_begun (journal_of after))
air_in history station channel octets hearings some are =
    let event = Transmitted station channel octets hearings in
    let more = turns_more history event in
    in_more (turns_begun history) (turns_begun (history ++ event ∷ [])) (links_begun (journal_of (history ++ event ∷ []))) (omega (arith, more))
    (subst (λ xs. AreIn (turns_begun history) (links_begun xs)) (sym (journal_event history event)) (by hearings))
  where
    by : (heard : List Hearing) → AreIn (turns_begun history) (links_begun (journal_of history ++ entries_of (links_of history) (Transmitted station channel octets heard)))
    by [] = subst (λ xs. AreIn (turns_begun history) (links_begun xs)) (sym (append-nil (journal_of history))) are
    by (hearing ∷ heard) =
        let front = journal_of history in
        let line = air_line station channel octets hearing in
        subst (AreIn (turns_begun history)) (sym (links_more front (line ∷ [])))
        (in_both (turns_begun history) (links_begun front) (begun_in front line ++ []) are
        (subst (AreIn (turns_begun history)) (sym (append-nil (begun_in front line))) (line_in (turns_begun history) front line (turns_are history) some)))

-- ---- a link of this turn

pub data IsNotDue (words : Words) (number : ℕ) (history : List Event) : Type 0 where
  -- the link began before this turn
  IsOld : (link : LinkBegun) → link_numbered number (journal_of history) ≡ Some link → link.slot + 1 < turns_begun history → IsNotDue words number history
  NoneDue : ((side : Side) → due_begun_at words number side history ≡ None) → IsNotDue words number history

pub not_due_grown : (words : Words) (number : ℕ) (history after : List Event) (rest : List Entry) → journal_of after ≡ journal_of history ++ rest → turns_begun history ≤ turns_begun after
    → ((side : Side) → due_begun_at words number side after ≡ due_begun_at words number side history) → IsNotDue words number history → IsNotDue words number after
not_due_grown words number history after rest grows turns same (IsOld link is before) =
    IsOld link (ap (link_numbered number) grows ∙ number_stays number (journal_of history) rest link is) (omega (arith, before, turns))
not_due_grown words number history after rest grows turns same (NoneDue none) = NoneDue (λ side. same side ∙ none side)

-- as a turn begins, each link began before
pub not_due_turn : (words : Words) (number : ℕ) (history : List Event) (slot : ℕ) (radios : List Bool) → AreIn (turns_begun history) (links_begun (journal_of history))
    → IsNotDue words number (history ++ TurnBegan slot radios ∷ [])
unfolding due_on
not_due_turn words number history slot radios are = by (link_numbered number (journal_of (history ++ TurnBegan slot radios ∷ []))) refl
  where
    by : (found : Option LinkBegun) → link_numbered number (journal_of (history ++ TurnBegan slot radios ∷ [])) ≡ found → IsNotDue words number (history ++ TurnBegan slot radios ∷ [])
    by None none =
        let after = journal_of (history ++ TurnBegan slot radios ∷ []) in
        NoneDue (λ side. turn_due words number side history slot radios
        ∙ ap (λ link. due_with link (control_on words side number after) (leaving_on words side number after) (last_heard number side after) (turn_now after)) none)
    by (Some link) is =
        let more = turns_more history (TurnBegan slot radios) in
        let early = numbered_in (turns_begun history) number (links_begun (journal_of history)) link are (ap (with_number number) (sym (turn_links history slot radios)) ∙ is) in
        IsOld link is (omega (arith, early, more))

pub not_due_now : (words : Words) (history : List Event) (number station : ℕ) (end : EndSetup) (side : Side) → IsNotDue words number history → IsBegun history number station end
    → end.opened + 1 ≡ turns_begun history → due_begun_at words number side history ≡ None
not_due_now words history number station end side (NoneDue none) begun now = none side
not_due_now words history number station end side (IsOld link is before) begun now =
    let same : Some link ≡ Some begun.link = sym is ∙ begun.is_link in
    let equal : link ≡ begun.link = cc in
    let slots : link.slot ≡ end.opened = ap (λ (l : LinkBegun). l.slot) equal ∙ begun.slot in
    absurd (omega (arith, slots, before, now))

pub none_not_due : (words : Words) (number : ℕ) → IsNotDue words number []
unfolding due_begun journal_of
none_not_due words number = NoneDue (λ side. refl)

pub none_in : AreIn (turns_begun []) (links_begun (journal_of []))
unfolding links_begun journal_of
none_in = tt
