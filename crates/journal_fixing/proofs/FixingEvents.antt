-- What an event or a call does to what is kept of an end as its next PDU is fixed, and as that goes.
use Rattle.std.proofs.Common.{◌≡◌, ℕ, ◌&&◌, ◌||◌, Bool, true, false, Some, List, [], ◌∷◌, ◌++◌, map, refl, sym, ap, subst, ◌∙◌, append-nil}
use Rattle.std.specs.List.{AllByRecursion}
use Rattle.std.specs.Option.{option_map}
use Rattle.std.proofs.lemmas.List.{append_cancel_left}
use Rattle.std.proofs.lemmas.Bool.{or_right}
use Rattle.ble_base.specs.declared.notes.Note.{Note}
use Rattle.ble_base.specs.declared.roles.Side.{Side}
use Rattle.journal_controls.specs.controller_model.Side.{notes_after}
use Rattle.journal_controls.specs.controller_model.Step.{Step as Call}
use Rattle.journal_controls.specs.host_answers.Calls.{call_lines}
use Rattle.journal_controls.proofs.host_answers.LineAnswers.{IsQuiet}
use Rattle.journal.specs.declared.entries.Entry.{Entry}
use Rattle.journal.specs.declared.entries.Entry.TheVariants.{Air, Fed, Turn}
use Rattle.journal_controls.specs.LineSteps.{is_more_acked, keyed_on, turn_now, withholds}
use Rattle.journal_controls.specs.SaidLines.{NoneOpens, moved_by}
use Rattle.journal_controls.specs.journal_acks.Carried.{carried_of}
use Rattle.journal_controls.specs.journal_acks.Exchange.{exchange_of}
use Rattle.journal_controls.specs.journal_ends.Asked.{Words}
use Rattle.journal_controls.specs.journal_ends.Seen.{Hears, heard_in_line}
use Rattle.journal_controls.specs.journal_links.LinkLines.{lines_of}
use Rattle.journal_controls.specs.link_model.Data.{is_control}
use Rattle.journal_controls.specs.link_model.Receiving.{keyed_acked_if}
use Rattle.journal_controls.specs.link_model.keyed_control.Keyed.{Keyed}
use Rattle.journal_controls.specs.run_model.Feeding.{is_octet}
use Rattle.journal_controls.specs.run_model.Links.{Links, links_after, links_of}
use Rattle.journal_controls.specs.run_model.History.{Event, Hearing, Noted, HostFed, Transmitted, TurnBegan}
use Rattle.journal_controls.specs.run_model.Journal.{journal_from, journal_of, mark_of, radio_in, side_of}
use Rattle.journal_controls.specs.run_model.Run.{Given, after_call, facts_at, setup_at}
use Rattle.journal_controls.proofs.EventMoves.{turn_answers}
use Rattle.journal_controls.proofs.journal_ends.AskedCalls.{call_journal}
use Rattle.journal_controls.proofs.journal_links.LinkLines.{lines_append}
use Rattle.journal_controls.proofs.run_model.Parts.{call_adds, journal_event}
use Rattle.journal_fixing.specs.OnLines.{NoneTakes, acks_control_at, before_sending, control_fixing, control_going, has_heard, is_fixed, hears_good}
use Rattle.journal_fixing.proofs.ControlKept.{fixed_is, fixing_begins, fixing_quiet, fixing_stays, going_answers, going_begins, going_now, going_quiet, heard_is, unfixed_begins, unheard_begins}
use Rattle.journal_fixing.proofs.NotedLines.{AreSilent, notes_fix, notes_fixed, notes_fixing, notes_going, notes_heard, notes_still, notes_unheard}

-- lines of notes that say no answer to a side
notes_silent : (side : Side) (station : ℕ) (links : Links) (notes : List Note) → AllByRecursion (IsQuiet side station) notes
    → AreSilent side (journal_from links (map (Noted station) notes))
notes_silent side station links [] quiet = tt
notes_silent side station links (note ∷ notes) quiet =
    (quiet.0 (links.link_of station) (links.last_of station), notes_silent side station (links_after links (Noted station note)) notes quiet.1)

module _ (words : Words) (side : Side) (number : ℕ) (history : List Event) where
  abbrev before : List Entry
  before = journal_of history

  -- ---- a turn begins

  module _ (slot : ℕ) (radios : List Bool) where
    abbrev begun : List Event
    begun = history ++ TurnBegan slot radios ∷ []

    journal_begun : journal_of begun ≡ before ++ Turn slot (radio_in 0 radios) (Some (radio_in 1 radios)) ∷ []
    journal_begun = journal_event history (TurnBegan slot radios)

    pub turn_fixing : control_fixing words side number (journal_of begun) ≡ keyed_on words side number before
    turn_fixing = ap (control_fixing words side number) journal_begun ∙ fixing_begins words side number before slot (radio_in 0 radios) (Some (radio_in 1 radios))

    pub turn_going : control_going words side number (journal_of begun) ≡ keyed_on words side number before
    turn_going = ap (control_going words side number) journal_begun ∙ going_begins words side number before slot (radio_in 0 radios) (Some (radio_in 1 radios))

    pub turn_unfixed : is_fixed words side number (journal_of begun) ≡ false
    turn_unfixed = ap (is_fixed words side number) journal_begun ∙ unfixed_begins words side number before slot (radio_in 0 radios) (Some (radio_in 1 radios))

    pub turn_unheard : has_heard words side number (journal_of begun) ≡ false
    turn_unheard = ap (has_heard words side number) journal_begun ∙ unheard_begins words side number before slot (radio_in 0 radios) (Some (radio_in 1 radios))

  -- ---- a host sends

  module _ (station : ℕ) (octets : List ℕ) where
    abbrev fed : List Event
    fed = history ++ HostFed station octets ∷ []

    pub feed_fixing : control_fixing words side number (journal_of fed) ≡ control_fixing words side number before
    feed_fixing =
        ap (control_fixing words side number) (journal_event history (HostFed station octets))
        ∙ fixing_quiet words side number before (Fed (side_of station) octets) refl refl refl

    pub feed_going : control_going words side number (journal_of fed) ≡ control_going words side number before
    feed_going =
        ap (control_going words side number) (journal_event history (HostFed station octets))
        ∙ going_quiet words side number before (Fed (side_of station) octets) refl refl refl refl

    pub feed_unheard : has_heard words side number before ≡ false → has_heard words side number (journal_of fed) ≡ false
    feed_unheard none =
        ap (has_heard words side number) (journal_event history (HostFed station octets))
        ∙ heard_is words side number before (Fed (side_of station) octets) refl ∙ ap (λ b. b || false) none

  -- ---- a packet is on the air

  module _ (station channel : ℕ) (octets : List ℕ) (hearing : Hearing) where
    abbrev line : Entry
    line = Air (side_of station) channel octets (mark_of hearing.fate) hearing.verdict

    abbrev aired : List Event
    aired = history ++ Transmitted station channel octets (hearing ∷ []) ∷ []

    journal_aired : journal_of aired ≡ before ++ line ∷ []
    journal_aired = journal_event history (Transmitted station channel octets (hearing ∷ []))

    pub packet_fixed : is_fixed words side number (journal_of aired) ≡ true
    packet_fixed =
        ap (is_fixed words side number) journal_aired ∙ fixed_is words side number before line refl ∙ or_right (is_fixed words side number before) true refl

    pub packet_fixing : control_fixing words side number (journal_of aired) ≡ control_fixing words side number before
    packet_fixing = ap (control_fixing words side number) journal_aired ∙ fixing_stays words side number before line refl (or_right (is_fixed words side number before) true refl)

    pub packet_unheard : heard_in_line side number before line ≡ [] → control_going words side number (journal_of aired) ≡ control_going words side number before
    packet_unheard none =
        ap (control_going words side number) journal_aired
        ∙ going_quiet words side number before line refl (ap hears_good none) (ap (λ xs. xs ++ []) none) refl

    pub packet_heard : (slot : ℕ) (heard : List ℕ) (k : Keyed) → has_heard words side number before ≡ false
        → heard_in_line side number before line ≡ Hears slot heard ∷ [] → keyed_on words side number before ≡ Some k
        → let after = journal_of aired in control_going words side number after
        ≡ Some (keyed_acked_if (is_more_acked (exchange_of number before side) (exchange_of number after side) && is_control (carried_of number before side)) k)
    packet_heard slot heard k none is was =
        ap (control_going words side number) journal_aired
        ∙ going_answers words side number before line refl none (ap hears_good is)
        ∙ ap (option_map (keyed_acked_if (acks_control_at side number before line))) was
        ∙ ap (λ xs. Some (keyed_acked_if (is_more_acked (exchange_of number before side) (exchange_of number xs side) && is_control (carried_of number before side)) k))
        (sym journal_aired)

    pub packet_hears : (slot : ℕ) (heard : List ℕ) → heard_in_line side number before line ≡ Hears slot heard ∷ [] → has_heard words side number (journal_of aired) ≡ true
    packet_hears slot heard is =
        ap (has_heard words side number) journal_aired ∙ heard_is words side number before line refl
        ∙ ap (λ seen. has_heard words side number before || hears_good seen) is ∙ or_right (has_heard words side number before) true refl

    pub packet_deaf : heard_in_line side number before line ≡ [] → has_heard words side number before ≡ false → has_heard words side number (journal_of aired) ≡ false
    packet_deaf none unheard =
        ap (has_heard words side number) journal_aired ∙ heard_is words side number before line refl ∙ (λ i. unheard i || hears_good (none i))

  -- ---- a call

  module _ (given : Given) (station : ℕ) (call : Call) where
    abbrev called : List Event
    called = after_call given station call history

    pub call_fixing : is_fixed words side number before ≡ true → control_fixing words side number (journal_of called) ≡ control_fixing words side number before
    call_fixing is =
        let adds = call_adds given station call history in
        ap (control_fixing words side number) adds.journal_is ∙ notes_fixing words (side_of station) side number before adds.entries adds.are_notes is

    pub call_fixed : is_fixed words side number before ≡ true → is_fixed words side number (journal_of called) ≡ true
    call_fixed is =
        let adds = call_adds given station call history in
        ap (is_fixed words side number) adds.journal_is ∙ notes_fixed words (side_of station) side number before adds.entries adds.are_notes is

    -- a call of a turn answers no command
    silent : is_octet call ≡ false → AreSilent side (call_adds given station call history).entries
    silent turn =
        let adds = call_adds given station call history in
        subst (AreSilent side)
        (append_cancel_left before (call_lines given station call history) adds.entries (sym (call_journal given station call history) ∙ adds.journal_is))
        (notes_silent side station (links_of history) (notes_after (setup_at given station) (facts_at given station history) call) (turn_answers given side station call history turn))

    pub call_fixes : is_octet call ≡ false → (more : List Entry) (k : Keyed) → lines_of side number (journal_of called) ≡ lines_of side number before ++ more → NoneOpens more → NoneTakes (before_sending more)
        → is_fixed words side number before ≡ false → keyed_on words side number before ≡ Some k
        → control_fixing words side number (journal_of called) ≡ Some (moved_by (withholds side before) (words side before) (turn_now before) (before_sending more) k)
    call_fixes turn more k lines opens untaken none was =
        let adds = call_adds given station call history in
        let same : lines_of side number adds.entries ≡ more =
        append_cancel_left (lines_of side number before) (lines_of side number adds.entries) more
        (sym (lines_append side number before adds.entries) ∙ ap (lines_of side number) (sym adds.journal_is) ∙ lines) in
        ap (control_fixing words side number) adds.journal_is
        ∙ notes_fix words (side_of station) side number before adds.entries k adds.are_notes (silent turn) (subst NoneOpens (sym same) opens)
        (subst (λ xs. NoneTakes (before_sending xs)) (sym same) untaken) none was
        ∙ ap (λ xs. Some (moved_by (withholds side before) (words side before) (turn_now before) (before_sending xs) k)) same

    -- a call in which the end says nothing
    pub call_still : is_octet call ≡ false → lines_of side number (journal_of called) ≡ lines_of side number before → control_fixing words side number (journal_of called) ≡ control_fixing words side number before
    call_still turn same =
        let adds = call_adds given station call history in
        let none : lines_of side number adds.entries ≡ [] =
        append_cancel_left (lines_of side number before) (lines_of side number adds.entries) []
        (sym (lines_append side number before adds.entries) ∙ ap (lines_of side number) (sym adds.journal_is) ∙ same ∙ sym (append-nil (lines_of side number before))) in
        ap (control_fixing words side number) adds.journal_is ∙ notes_still words (side_of station) side number before adds.entries adds.are_notes (silent turn) none

    pub call_going : has_heard words side number before ≡ true → control_going words side number (journal_of called) ≡ control_going words side number before
    call_going is =
        let adds = call_adds given station call history in
        ap (control_going words side number) adds.journal_is ∙ notes_going words (side_of station) side number before adds.entries adds.are_notes is

    pub call_heard : has_heard words side number before ≡ true → has_heard words side number (journal_of called) ≡ true
    call_heard is =
        let adds = call_adds given station call history in
        ap (has_heard words side number) adds.journal_is ∙ notes_heard words (side_of station) side number before adds.entries adds.are_notes is

    pub call_unheard : has_heard words side number before ≡ false → has_heard words side number (journal_of called) ≡ false
    call_unheard none =
        let adds = call_adds given station call history in
        ap (has_heard words side number) adds.journal_is ∙ notes_unheard words (side_of station) side number before adds.entries adds.are_notes none

    pub call_goes : has_heard words side number before ≡ false → control_going words side number (journal_of called) ≡ keyed_on words side number (journal_of called)
    call_goes none = going_now words side number (journal_of called) (call_unheard none)
