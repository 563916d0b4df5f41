-- What the lines of a side say that its host submitted is what the links of its controller were given, after each feed.
use Rattle.std.proofs.Common.{◌≡◌, ℕ, ◌+◌, ◌==◌, Bool, true, false, List, [], ◌∷◌, ◌++◌, Some, length, refl, sym, ap, subst, ◌∙◌, append-nil, append_assoc, arith}
use Rattle.std.specs.List.{AllByRecursion}
use Rattle.std.specs.Prelude.{⊤, ◌-◌, ◌&&◌, fold, map, if◌then◌else◌}
use Rattle.std.proofs.lemmas.Bool.{or_parts}
use Rattle.std.proofs.lemmas.List.{length-append, length-map}
use Rattle.std.proofs.lemmas.List.Filters.{length-filter_both}
use Rattle.ble_base.specs.declared.roles.Side.{Side}
use Rattle.ble_base.specs.declared.notes.Note.{Note}
use Rattle.ble_base.specs.declared.notes.Note.TheVariants.{Up, Opened}
use Rattle.h4_frames.specs.declared.packet.Fed.{Fed}
use Rattle.h4_frames.specs.declared.packet.Fed.TheVariants.{More, Packet, LostSync}
use Rattle.h4_frames.specs.declared.packet.HostPacket.TheVariants.{Command, Acl}
use Rattle.acl_banks.specs.History.{HostData}
use Rattle.acl_banks.specs.Packets.{DataPacket}
use Rattle.journal_acks.proofs.link_model.Sending.{past_together}
use Rattle.journal_acks.specs.open_links.Data.{buffers_in, buffers_taken, complete_in}
use Rattle.journal_acks.specs.open_links.OpenLinks.{OpenLink, facts_in, link_at}
use Rattle.journal_acks.specs.controller_model.Facts.{Setup, Facts, first_facts}
use Rattle.journal_acks.specs.controller_model.Side.{facts_after, facts_of, notes_after, result_of}
use Rattle.journal_acks.specs.controller_model.Step.{Step, HostOctet}
use Rattle.journal_acks.proofs.controller_model.Always.{IsInTurn}
use Rattle.journal_acks.proofs.controller_model.Feds.{more_octets, turn_octets}
use Rattle.journal_acks.proofs.controller_model.Handles.{own_handles}
use Rattle.journal_acks.specs.run_model.History.{Event, HostFed, past_of}
use Rattle.journal_acks.specs.run_model.Journal.{entry_of}
use Rattle.journal_acks.specs.run_model.Links.{Links}
use Rattle.journal_acks.specs.run_model.Run.{Given, after_call, after_feed, after_octets, facts_at, setup_at}
use Rattle.journal_acks.proofs.run_model.Calls.{past_own, with_notes}
use Rattle.journal_acks.proofs.run_model.LinksKnown.{links_event}
use Rattle.journal_acks.proofs.run_model.OpenedNotes.{is_opened, outside_open}
use Rattle.journal_acks.proofs.Exchanging.{number_at}
use Rattle.journal_acks.proofs.run_laws.Hearings.{own_facts}
use Rattle.journal_acks.proofs.run_laws.TurnPlaces.{event_past}
use Rattle.journal_acks.specs.controller_model.Since.{count_fed, count_given, count_since, empties_from, empties_of}
use Rattle.journal_data.specs.HostLines.{OpenUnder, Submitted, has_octets, kept_of, packets_framed}
use Rattle.journal_data.specs.Lines.{Lines, buffers_taken as lines_taken, credited_on, data_on, empties_on, line_after, submitted_on}
use Rattle.journal_data.proofs.EachLine.{numbers_at}
use Rattle.journal_data.proofs.EachLine.{call_leaves, fed_lines, lines_at}
use Rattle.journal_data.proofs.HostPackets.{AllHave, AreUnder, HaveOwn, has_none, held_after, more_framed, none_framed, octet_taken, packets_of}
use Rattle.journal_data.proofs.HeldLinks.{links_under, sum_of_places}
use Rattle.journal_data.proofs.StationLines.{IsStationBooked, event_own, octet_number, octet_own}
use Rattle.journal_acks.proofs.Counting.{HaveOwnNumbers}
use mathlib.Core.Path.{fun_ext}

-- ---- the notes of a call say nothing of what is submitted

note_submits : (lines : Lines) (side : Side) (link_of : ℕ → ℕ) (last : ℕ) (note : Note) → ⊤
    → (line_after 8 lines (entry_of side link_of last note)).submitted ≡ lines.submitted
note_submits lines side link_of last (Up packet) any = refl
note_submits lines side link_of last note any = refl

note_feeds : (lines : Lines) (side : Side) (link_of : ℕ → ℕ) (last : ℕ) (note : Note) → ⊤
    → (line_after 8 lines (entry_of side link_of last note)).fed ≡ lines.fed
note_feeds lines side link_of last (Up packet) any = refl
note_feeds lines side link_of last note any = refl

any_notes : (notes : List Note) → AllByRecursion (λ note. ⊤) notes
any_notes [] = tt
any_notes (note ∷ notes) = (tt, any_notes notes)

pub call_submits : (station : ℕ) (step : Step) (notes : List Note) (history : List Event)
    → (lines_at station (with_notes station step notes history)).submitted ≡ (lines_at station history).submitted
call_submits station step notes history = call_leaves (λ note. ⊤) (λ lines. lines.submitted) note_submits station step notes history (any_notes notes)

call_feeds : (station : ℕ) (step : Step) (notes : List Note) (history : List Event)
    → (lines_at station (with_notes station step notes history)).fed ≡ (lines_at station history).fed
call_feeds station step notes history = call_leaves (λ note. ⊤) (λ lines. lines.fed) note_feeds station step notes history (any_notes notes)

-- ---- how many packets of no octet

empties_on_from : (setup : Setup) (handle : ℕ) (facts : Facts) (count : ℕ) (past : List Step) (step : Step)
    → empties_from setup handle facts count (past ++ step ∷ [])
    ≡ count_given handle (fold (facts_after setup) facts past) step
    (fold (count_since handle) (empties_from setup handle facts count past) (notes_after setup (fold (facts_after setup) facts past) step))
empties_on_from setup handle facts count [] step = refl
empties_on_from setup handle facts count (first ∷ past) step =
    empties_on_from setup handle (facts_after setup facts first)
    (count_given handle facts first (fold (count_since handle) count (notes_after setup facts first))) past step

pub empties_more : (setup : Setup) (handle : ℕ) (past : List Step) (step : Step)
    → empties_of setup handle (past ++ step ∷ [])
    ≡ count_given handle (facts_of setup past) step
    (fold (count_since handle) (empties_of setup handle past) (notes_after setup (facts_of setup past) step))
unfolding empties_of facts_of
empties_more setup handle past step = empties_on_from setup handle (first_facts setup) 0 past step

-- they are not counted anew where no link is opened
pub counted_on : (handle count : ℕ) (notes : List Note) → is_opened handle notes ≡ false → fold (count_since handle) count notes ≡ count
counted_on handle count [] none = refl
counted_on handle count (Opened other role own peer ∷ notes) none =
    let parts = or_parts (handle == other) (is_opened handle notes) none in
    ap (λ (b : Bool). fold (count_since handle) (if b then 0 else count) notes) (other_handle handle other parts.0)
    ∙ counted_on handle count notes parts.1
  where
    other_handle : (handle other : ℕ) → (handle == other) ≡ false → (other == handle) ≡ false
    other_handle handle other is = grind (arith, is)
counted_on handle count (note ∷ notes) none = counted_on handle count notes none

-- this number more
counted_fed : (handle : ℕ) (fed : Fed) (count : ℕ) → count_fed handle fed count ≡ count_fed handle fed 0 + count
counted_fed handle (Packet (Acl other start octets body)) count = by ((other == handle) && (octets == 0))
  where
    by : (is : Bool) → (if is then count + 1 else count) ≡ (if is then 0 + 1 else 0) + count
    by true = omega arith
    by false = omega arith
counted_fed handle (Packet (Command opcode body)) count = omega arith
counted_fed handle LostSync count = omega arith
counted_fed handle More count = omega arith

empties_octet : (setup : Setup) (handle : ℕ) (past : List Step) (octet : ℕ)
    → empties_of setup handle (past ++ HostOctet octet ∷ [])
    ≡ count_fed handle (result_of (facts_of setup past).octets octet) 0 + empties_of setup handle past
empties_octet setup handle past octet =
    let facts = facts_of setup past in
    empties_more setup handle past (HostOctet octet)
    ∙ ap (count_fed handle (result_of facts.octets octet))
    (counted_on handle (empties_of setup handle past) (notes_after setup facts (HostOctet octet)) (outside_open handle setup facts (HostOctet octet) refl))
    ∙ counted_fed handle (result_of facts.octets octet) (empties_of setup handle past)

-- ---- in the middle of what a turn feeds

-- what is kept of octets that are left, where the lines have these links
abbrev pub kept_left : List OpenUnder → Facts → List ℕ → List Submitted
kept_left held facts left = kept_of 8 held (buffers_taken facts.links) (packets_framed facts.octets left)

pub none_left : (held : List OpenUnder) (facts : Facts) → kept_left held facts [] ≡ []
none_left held facts = ap (kept_of 8 held (buffers_taken facts.links)) (none_framed facts.octets)

pub octet_left : (number : ℕ → ℕ) (setup : Setup) (past : List Step) (held : List OpenUnder) (octet : ℕ) (left : List ℕ) (eight : setup.host_buffers ≡ 8)
    (own : HaveOwn number (facts_of setup past).links) (under : AreUnder number (facts_of setup past).links held)
    → kept_left held (facts_of setup past) (octet ∷ left)
    ≡ (octet_taken number setup past held octet eight own under).kept
    ++ kept_left (held_after (result_of (facts_of setup past).octets octet) held) (facts_after setup (facts_of setup past) (HostOctet octet)) left
octet_left number setup past held octet left eight own under =
    let facts = facts_of setup past in
    let after = facts_after setup facts (HostOctet octet) in
    let result = result_of facts.octets octet in
    ap (kept_of 8 held (buffers_taken facts.links))
    (more_framed facts.octets octet left
    ∙ ap (λ (before : List ℕ). packets_of result ++ packets_framed before left) (sym (more_octets setup facts octet)))
    ∙ (octet_taken number setup past held octet eight own under).ahead (packets_framed after.octets left)

-- the lines are ahead by that
pub record IsAhead (number : ℕ → ℕ) (submitted : List Submitted) (fed : List ℕ) (facts : Facts) (empties : ℕ → ℕ) (held : List OpenUnder) (left : List ℕ) : Type 0 where
  pub so_far : List Submitted
  pub under : AreUnder number facts.links held
  pub submitted_are : submitted ≡ so_far ++ kept_left held facts left
  pub has : AllHave number so_far empties facts.links
  pub fed_are : fed ≡ facts.octets ++ left

ahead_by : {number now : ℕ → ℕ} {submitted later : List Submitted} {fed octets : List ℕ} {facts after : Facts} {empties count : ℕ → ℕ} (held : List OpenUnder) (left : List ℕ)
    → now ≡ number → later ≡ submitted → octets ≡ fed → after ≡ facts → count ≡ empties
    → IsAhead number submitted fed facts empties held left → IsAhead now later octets after count held left
ahead_by held left a b c d e ahead = rw (a, b, c, d, e) ahead

octet_ahead : (number : ℕ → ℕ) (submitted : List Submitted) (fed : List ℕ) (setup : Setup) (past : List Step) (empties : ℕ → ℕ) (held : List OpenUnder) (octet : ℕ)
    (left : List ℕ) → setup.host_buffers ≡ 8 → HaveOwn number (facts_of setup past).links
    → IsAhead number submitted fed (facts_of setup past) empties held (octet ∷ left)
    → IsAhead number submitted fed (facts_after setup (facts_of setup past) (HostOctet octet))
    (λ handle. count_fed handle (result_of (facts_of setup past).octets octet) 0 + empties handle) (held_after (result_of (facts_of setup past).octets octet) held) left
octet_ahead number submitted fed setup past empties held octet left eight own ahead =
    let facts = facts_of setup past in
    let takes = octet_taken number setup past held octet eight own ahead.under in
    let octets_are = more_octets setup facts octet in
    record {
      so_far = ahead.so_far ++ takes.kept;
      under = takes.under;
      submitted_are = ahead.submitted_are
          ∙ ap (λ (kept : List Submitted). ahead.so_far ++ kept) (octet_left number setup past held octet left eight own ahead.under)
          ∙ sym (append_assoc ahead.so_far takes.kept
          (kept_left (held_after (result_of facts.octets octet) held) (facts_after setup facts (HostOctet octet)) left));
      has = takes.has ahead.so_far empties ahead.has;
      fed_are = ahead.fed_are ∙ sym (append_assoc facts.octets (octet ∷ []) left)
          ∙ ap (λ (before : List ℕ). before ++ left) (sym octets_are);
    }

abbrev pub AheadAt : Given → ℕ → List OpenUnder → List ℕ → List Event → Type 0
AheadAt given station held left history =
    IsAhead (numbers_at station history) (lines_at station history).submitted (lines_at station history).fed (facts_at given station history)
    (λ handle. empties_of (setup_at given station) handle (past_of station history)) held left

-- an octet opens no link
pub same_numbers : (given : Given) (station octet : ℕ) (history : List Event)
    → numbers_at station (after_call given station (HostOctet octet) history) ≡ numbers_at station history
same_numbers given station octet history = fun_ext (λ handle. octet_number given station octet handle history)

-- the links that the lines have, after an octet
abbrev pub held_then : Given → ℕ → ℕ → List Event → List OpenUnder → List OpenUnder
held_then given station octet history held = held_after (result_of (facts_at given station history).octets octet) held

pub call_ahead : (given : Given) (station octet : ℕ) (held : List OpenUnder) (left : List ℕ) (history : List Event) → (setup_at given station).host_buffers ≡ 8
    → HaveOwnNumbers given station history → AheadAt given station held (octet ∷ left) history
    → AheadAt given station (held_then given station octet history held) left (after_call given station (HostOctet octet) history)
call_ahead given station octet held left history eight own ahead =
    let setup = setup_at given station in
    let facts = facts_at given station history in
    let notes = notes_after setup facts (HostOctet octet) in
    ahead_by (held_then given station octet history held) left
    (same_numbers given station octet history)
    (call_submits station (HostOctet octet) notes history)
    (call_feeds station (HostOctet octet) notes history)
    (own_facts given station (HostOctet octet) history)
    (fun_ext (λ handle. ap (empties_of setup handle) (past_own station (HostOctet octet) notes history) ∙ empties_octet setup handle (past_of station history) octet))
    (octet_ahead (numbers_at station history) (lines_at station history).submitted (lines_at station history).fed setup (past_of station history)
    (λ handle. empties_of setup handle (past_of station history)) held octet left eight own ahead)

-- ---- between feeds

-- the octets that the lines have are those of the controller
abbrev pub HasFed : Given → ℕ → List Event → Type 0
HasFed given station history = (lines_at station history).fed ≡ (facts_at given station history).octets

-- so are the open links and the number of buffers that are taken
pub record AreInStep (given : Given) (station : ℕ) (history : List Event) : Type 0 where
  pub fed : HasFed given station history
  pub own : HaveOwnNumbers given station history
  pub under : AreUnder (numbers_at station history) (facts_at given station history).links (lines_at station history).links
  pub taken : lines_taken (lines_at station history) ≡ buffers_taken (facts_at given station history).links

-- what the lines have of each open link is what the controller has
pub record IsSubmitted (given : Given) (station : ℕ) (history : List Event) : Type 0 where
  pub data_is : (handle : ℕ) (link : OpenLink) → link_at handle (facts_at given station history).links ≡ Some link
      → data_on (number_at station handle history) (lines_at station history) ≡ (facts_in link).outgoing.given
  pub empties_are : (handle : ℕ) (link : OpenLink) → link_at handle (facts_at given station history).links ≡ Some link
      → empties_on (number_at station handle history) (lines_at station history) ≡ empties_of (setup_at given station) handle (past_of station history)

pub fed_ahead : (given : Given) (station : ℕ) (octets : List ℕ) (history : List Event) → AreInStep given station history
    → IsSubmitted given station history → AheadAt given station (lines_at station history).links octets (history ++ HostFed station octets ∷ [])
fed_ahead given station octets history step submitted =
    let lines = lines_at station history in
    let setup = setup_at given station in
    let fed = fed_lines station history octets in
    let past = event_past station history (HostFed station octets) refl in
    ahead_by lines.links octets
    (ap (λ (links : Links). links.link_of station) (links_event history (HostFed station octets)))
    (ap (λ (after : Lines). after.submitted) fed) (ap (λ (after : Lines). after.fed) fed)
    (ap (facts_of setup) past) (λ i handle. empties_of setup handle (past i))
    (record {
      so_far = lines.submitted;
      under = step.under;
      submitted_are = λ i. lines.submitted ++ kept_of 8 lines.links (step.taken i) (packets_framed (step.fed i) octets);
      has = λ handle link at. record { data_is = submitted.data_is handle link at; empties_are = submitted.empties_are handle link at };
      fed_are = ap (λ (before : List ℕ). before ++ octets) step.fed;
    })

none_ahead : (given : Given) (station : ℕ) (held : List OpenUnder) (history : List Event) → AheadAt given station held [] history → IsSubmitted given station history
none_ahead given station held history ahead =
    let lines = lines_at station history in
    let all : lines.submitted ≡ ahead.so_far = ahead.submitted_are
    ∙ ap (λ (kept : List Submitted). ahead.so_far ++ kept) (none_left held (facts_at given station history))
    ∙ append-nil ahead.so_far in
    let has = subst (λ (submitted : List Submitted). AllHave (numbers_at station history) submitted
    (λ handle. empties_of (setup_at given station) handle (past_of station history)) (facts_at given station history).links) (sym all) ahead.has in
    record {
      data_is = λ handle link at. (has handle link at).data_is;
      empties_are = λ handle link at. (has handle link at).empties_are;
    }

octets_ahead : (given : Given) (station : ℕ) (held : List OpenUnder) (left : List ℕ) (history : List Event) → (setup_at given station).host_buffers ≡ 8
    → HaveOwnNumbers given station history → AheadAt given station held left history → IsSubmitted given station (after_octets given station left history)
octets_ahead given station held [] history eight own ahead = none_ahead given station held history ahead
octets_ahead given station held (octet ∷ left) history eight own ahead =
    octets_ahead given station (held_then given station octet history held) left (after_call given station (HostOctet octet) history) eight
    (octet_own given station octet history own) (call_ahead given station octet held left history eight own ahead)

pub come_own : (given : Given) (station : ℕ) (octets : List ℕ) (history : List Event) → HaveOwnNumbers given station history
    → HaveOwnNumbers given station (history ++ HostFed station octets ∷ [])
come_own given station octets history own = event_own given station history (HostFed station octets) refl own

pub feed_submitted : (given : Given) (station : ℕ) (octets : List ℕ) (history : List Event)
    → (setup_at given station).host_buffers ≡ 8 → AreInStep given station history → IsSubmitted given station history
    → IsSubmitted given station (after_feed given station octets history)
feed_submitted given station [] history eight step submitted = submitted
feed_submitted given station (octet ∷ octets) history eight step submitted =
    octets_ahead given station (lines_at station history).links (octet ∷ octets) (history ++ HostFed station (octet ∷ octets) ∷ []) eight
    (come_own given station (octet ∷ octets) history step.own) (fed_ahead given station (octet ∷ octets) history step submitted)

-- ---- the octets that the lines have

own_octets : (given : Given) (station octet : ℕ) (history : List Event)
    → (facts_at given station (after_call given station (HostOctet octet) history)).octets
    ≡ (facts_at given station history).octets ++ octet ∷ []
own_octets given station octet history =
    ap (λ (facts : Facts). facts.octets) (own_facts given station (HostOctet octet) history)
    ∙ more_octets (setup_at given station) (facts_at given station history) octet

call_fed : (given : Given) (station : ℕ) (step : Step) (history : List Event)
    → (lines_at station (after_call given station step history)).fed ≡ (lines_at station history).fed
call_fed given station step history =
    call_feeds station step (notes_after (setup_at given station) (facts_at given station history) step) history

octets_fed : (given : Given) (station : ℕ) (octets : List ℕ) (history : List Event)
    → (lines_at station history).fed ≡ (facts_at given station history).octets ++ octets → HasFed given station (after_octets given station octets history)
octets_fed given station [] history is = is ∙ append-nil (facts_at given station history).octets
octets_fed given station (octet ∷ octets) history is =
    octets_fed given station octets (after_call given station (HostOctet octet) history)
    (call_fed given station (HostOctet octet) history ∙ is
    ∙ sym (append_assoc (facts_at given station history).octets (octet ∷ []) octets)
    ∙ ap (λ (before : List ℕ). before ++ octets) (sym (own_octets given station octet history)))

-- a feed keeps them
pub feed_fed : (given : Given) (station : ℕ) (octets : List ℕ) (history : List Event) → HasFed given station history
    → HasFed given station (after_feed given station octets history)
feed_fed given station [] history is = is
feed_fed given station (octet ∷ octets) history is =
    octets_fed given station (octet ∷ octets) (history ++ HostFed station (octet ∷ octets) ∷ [])
    (ap (λ (lines : Lines). lines.fed) (fed_lines station history (octet ∷ octets))
    ∙ ap (λ (before : List ℕ). before ++ octet ∷ octets) is
    ∙ ap (λ (past : List Step). (facts_of (setup_at given station) past).octets ++ octet ∷ octets)
    (sym (event_past station history (HostFed station (octet ∷ octets)) refl)))

-- and so does any other call
pub turn_fed : (given : Given) (station : ℕ) (step : Step) (history : List Event) → IsInTurn step → HasFed given station history
    → HasFed given station (after_call given station step history)
turn_fed given station step history turn is =
    call_fed given station step history ∙ is
    ∙ sym (ap (λ (facts : Facts). facts.octets) (own_facts given station step history)
    ∙ turn_octets (setup_at given station) (facts_at given station history) step turn)

-- ---- the buffers that are taken

abbrev pub given_data : DataPacket → HostData
given_data packet = record { start = packet.start; body = packet.body }

-- each packet that an end was given is reported, complete, or waits
pub all_given : (link : OpenLink) → let outgoing = (facts_in link).outgoing in
    length outgoing.given ≡ outgoing.reported + outgoing.complete + length outgoing.packets
all_given link =
    let outgoing = (facts_in link).outgoing in
    let kept = (past_together link.setup link.past).kept in
    let all = ap length kept.taken in
    let parts = length-append kept.complete (map given_data outgoing.packets) in
    let waiting = length-map outgoing.packets given_data in
    let counted = kept.counted in
    omega (arith, all, parts, waiting, counted)

-- the packets of a link that are not credited, by the lines
abbrev taken_on : Lines → OpenUnder → ℕ
taken_on lines one = length (submitted_on one.link lines) - credited_on one.link lines

uncredited : (number : ℕ) (lines : Lines) (link : OpenLink) → let outgoing = (facts_in link).outgoing in
    data_on number lines ≡ outgoing.given → outgoing.complete ≡ 0 → credited_on number lines ≡ outgoing.reported + empties_on number lines
    → length (submitted_on number lines) - credited_on number lines ≡ length outgoing.packets
uncredited number lines link data_is none credited =
    let both = length-filter_both has_octets has_none (λ packet. refl) (submitted_on number lines) in
    let with_octets = ap length data_is in
    let all = all_given link in
    omega (arith, both, with_octets, all, none, credited)

-- as a feed begins the lines and the controller have the same number
taken_agree : (given : Given) (station : ℕ) (history : List Event) → IsStationBooked given station history
    → ((handle : ℕ) (link : OpenLink) → link_at handle (facts_at given station history).links ≡ Some link → complete_in link ≡ 0)
    → ((handle : ℕ) (link : OpenLink) → link_at handle (facts_at given station history).links ≡ Some link
    → credited_on (number_at station handle history) (lines_at station history)
    ≡ (facts_in link).outgoing.reported + empties_on (number_at station handle history) (lines_at station history))
    → IsSubmitted given station history → lines_taken (lines_at station history) ≡ buffers_taken (facts_at given station history).links
taken_agree given station history booked none credited submitted =
    let lines = lines_at station history in
    let links = (facts_at given station history).links in
    sum_of_places (taken_on lines) buffers_in (setup_at given station).links lines.links (numbers_at station history) links
    (sym (own_handles (setup_at given station) (past_of station history)).many) refl
    (λ handle link at. uncredited (number_at station handle history) lines link (submitted.data_is handle link at) (none handle link at) (credited handle link at))
    booked.links

-- and so they are in step
pub in_step : (given : Given) (station : ℕ) (history : List Event) → HasFed given station history → HaveOwnNumbers given station history
    → IsStationBooked given station history
    → ((handle : ℕ) (link : OpenLink) → link_at handle (facts_at given station history).links ≡ Some link → complete_in link ≡ 0)
    → ((handle : ℕ) (link : OpenLink) → link_at handle (facts_at given station history).links ≡ Some link
    → credited_on (number_at station handle history) (lines_at station history)
    ≡ (facts_in link).outgoing.reported + empties_on (number_at station handle history) (lines_at station history))
    → IsSubmitted given station history → AreInStep given station history
in_step given station history fed own booked none credited submitted = record {
  fed = fed;
  own = own;
  under = links_under (setup_at given station).links (lines_at station history).links (numbers_at station history) (facts_at given station history).links booked.links;
  taken = taken_agree given station history booked none credited submitted;
}
