-- What is noted under a handle is what the end of the link there notes, between the notes that it is opened and shut.
use Rattle.std.proofs.Common.{◌≡◌, ◌≢◌, ℕ, zero, suc, ◌+◌, ◌<◌, ◌==◌, ◌||◌, ◌⊎◌, inl, inr, Bool, true, false, Option, Some, None, List, [], ◌∷◌, ◌++◌, length, map, cond, refl, ap, sym, subst, ◌∙◌, append-nil, append_assoc, arith, IfSome}
use Rattle.std.specs.Prelude.{◌&&◌, filter, flat_map, fold, nat_lt, replicate}
use Rattle.std.specs.List.{AllByRecursion}
use Rattle.std.specs.Option.{option_map}
use Rattle.std.proofs.lemmas.Bool.{eq-eqb, eqb-true}
use Rattle.std.proofs.lemmas.Grind.{flat_map-append}
use Rattle.std.proofs.lemmas.List.Folds.{list_any-append}
use Rattle.std.proofs.lemmas.List.Sums.{fold-append}
use Rattle.acl_banks.specs.declared.pieces.Piece.{Piece}
use Rattle.adv_pdu.specs.declared.pdu.AdvPdu.{AdvPdu}
use Rattle.ble_base.specs.declared.notes.Note.{Note}
use Rattle.ble_base.specs.declared.notes.Note.TheVariants.{Up}
use Rattle.h4_frames.specs.declared.packet.HostPacket.TheVariants.{Command as HostCommand, Acl}
use Rattle.h4_frames.specs.declared.packet.Fed.{Fed}
use Rattle.h4_frames.specs.declared.packet.Fed.TheVariants.{More, Packet, LostSync}
use Rattle.hci_cmd.specs.declared.command.Command.{Command}
use Rattle.hci_cmd.specs.declared.command.Command.TheVariants.{Reset}
use Rattle.hci_cmd.specs.declared.command.CmdRead.{CmdRead}
use Rattle.hci_cmd.specs.declared.command.CmdRead.TheVariants.{Known, UnknownOpcode, BadLength}
use Rattle.hci_cmd.specs.Command.{command_of}
use Rattle.hci_evt.specs.declared.event.Event.{Event}
use Rattle.hci_evt.specs.declared.event.Event.TheVariants.{BufferOverflow, CompletedPackets, DisconnectionComplete, HardwareError}
use Rattle.hci_evt.specs.Event.{mask_bit_of, written}
use Rattle.host_view.specs.Links.{was_encrypted}
use Rattle.host_view.specs.View.{View}
use Rattle.host_view.specs.Status.{status_of}
use Rattle.host_view.specs.scan_init.Reports.{ScannerFacts, does_ask, scan_answer}
use Rattle.slot_plan.specs.declared.Activity.{Activity}
use Rattle.slot_plan.specs.declared.Activity.TheVariants.{Link, Advertise, Scan, Initiate}
use Rattle.link_commands.specs.open_links.link_model.declared.setup.LinkSetup.{LinkSetup}
use Rattle.link_commands.specs.open_links.link_model.End.{notes_from as end_notes_from, notes_of as end_notes_of}
use Rattle.link_commands.specs.open_links.link_model.End.{facts_after as end_after, notes_after as end_notes}
use Rattle.link_commands.specs.open_links.link_model.Facts.{Facts as EndFacts, first_facts as first_end}
use Rattle.link_commands.specs.open_links.link_model.Packets.{good_pdu}
use Rattle.link_commands.specs.open_links.link_model.Setup.{Setup as EndSetup}
use Rattle.link_commands.specs.open_links.link_model.Step.{Step as EndStep, DataGiven, EventEntered, PduFixed, PacketSent, PacketReceived, DataReported, WordsGiven}
use Rattle.link_commands.proofs.open_links.link_model.Pasts.{notes_grow}
use Rattle.link_commands.specs.open_links.Data.{complete_in, completed_from, link_reported, links_reported}
use Rattle.link_commands.specs.open_links.declared.offers.Offer.{Offer}
use Rattle.link_commands.specs.open_links.declared.offers.Offer.TheVariants.{NoLink, Empty, Overflow, Kept}
use Rattle.link_commands.specs.open_links.OpenLinks.{Links, OpenLink, HasHandle, HaveHandles, facts_in, handles_from, link_after, link_at, link_from, link_served, new_link, with_change, with_link}
use Rattle.link_commands.specs.open_links.Ended.{end_by}
use Rattle.link_commands.specs.open_links.Turns.{due_in, ending_in, ends_by, entered_if, enters_in, link_entered, links_without, notes_entering, notes_if, place_without, staying_by}
use Rattle.link_commands.proofs.open_links.Ends.{stay_with_handles, stays_where_not_due}
use Rattle.link_commands.proofs.open_links.UnderHandles.{map_at}
use Rattle.link_commands.proofs.open_links.Handles.{changed_is, has_its_handle, opened_at, other_stays}
use Rattle.controller_model.specs.declared.doing.Doing.{Doing}
use Rattle.controller_model.specs.declared.doing.Doing.TheVariants.{Advertises, CentralSends, PeripheralListens, PeripheralSends}
use Rattle.controller_model.specs.Step.{Step, HostOctet, TurnBegins, PacketHeard, NothingHeard, TurnEnds}
use Rattle.controller_model.specs.Facts.{Setup, Facts, first_facts}
use Rattle.controller_model.specs.Answers.{answer_to}
use Rattle.link_commands.specs.LinksCommanded.{events_commanded_on, links_commanded}
use Rattle.controller_model.specs.Commands.{events_caused, facts_commanded, facts_known, is_asking, links_after, moment_of, notes_before, notes_commanded, notes_known}
use Rattle.controller_model.specs.Data.{event_completed, facts_ended_turn, facts_handed, facts_offered, note_received, notes_ended_turn, notes_handed, notes_offered, offer_of, notes_pieces, pieces_handed}
use Rattle.controller_model.specs.Events.{notes_of_events, passes}
use Rattle.controller_model.specs.Heard.{asks_if, events_received, events_reported, has_room, link_heard, link_received, link_taken, links_refusing, notes_taken, opens, replies_in, reply_if, scanner_after, with_scanner, facts_with_words}
use Rattle.controller_model.specs.Links.{events_opened, note_opened, note_shut, notes_ended, notes_ending, notes_leaving, notes_opened}
use Rattle.controller_model.specs.Outcome.{Outcome, facts_passed, notes_passed}
use Rattle.controller_model.specs.Packets.{facts_doing, links_sending, notes_doing, notes_sent}
use Rattle.controller_model.specs.Radio.{fixing, links_fixing, outcome_begun}
use Rattle.controller_model.specs.Side.{facts_after, facts_fed, facts_of, notes_after, notes_fed, notes_from, notes_of, result_of}
use Rattle.controller_model.specs.Since.{AreOfShutLink, is_under, note_under, notes_opened_on, notes_under, opens_under, was_opened}
use Rattle.controller_model.proofs.Always.{ending_is, facts_before_doing, facts_ended, holds_step, leaving_is, left_entering, links_won, opening_passes, served_is, winner_before_doing}
use Rattle.controller_model.proofs.Books.{by_handle, is_not}
use Rattle.controller_model.proofs.EndNotes.{both_each, entered_each, received_each, sent_each}
use Rattle.controller_model.proofs.Handles.{HaveOwnHandles, IsNew, free_is_new, handles_kept, mapped_opens, own_handles, receiving_opens, reported_same, words_own}
use Rattle.controller_model.proofs.Phases.{EachOutcome, heard_is, unheard_is}
use Rattle.controller_model.proofs.Places.{at_changed, refusal_at, refusal_is}
use Rattle.controller_model.specs.Entering.{all_entered, events_entering, notes_all_entering}
use Rattle.controller_model.proofs.Asked.{IsAskedStep, asked_silent, asking_shuts_none, at_kept, both_asking, notes_at_once}

-- ---- lists of notes

pub or_none : (b : Bool) → (b || false) ≡ b
or_none true = refl
or_none false = refl

-- the notes under a handle, and whether a link was opened under it, after one more
pub under_more : (handle : ℕ) (notes : List Note) (note : Note) → notes_under handle (notes ++ note ∷ []) ≡ note_under handle (notes_under handle notes) note
under_more handle notes note = fold-append (note_under handle) [] notes (note ∷ [])

pub opened_more : (handle : ℕ) (notes : List Note) (note : Note) → was_opened handle (notes ++ note ∷ []) ≡ (was_opened handle notes || opens_under handle note)
opened_more handle notes note = list_any-append (opens_under handle) notes (note ∷ []) ∙ ap (λ b. was_opened handle notes || b) (or_none (opens_under handle note))

no_end : (notes : List Note) (note : Note) (X : Type 0) → notes ++ note ∷ [] ≡ [] → X
no_end [] note X is = absurd cc
no_end (first ∷ notes) note X is = absurd cc

none_under : (handle : ℕ) (before notes : List Note) → fold (note_under handle) before notes ≡ [] → (before ≡ []) × (was_opened handle notes ≡ false)
none_under handle before [] is = (is, refl)
none_under handle before (note ∷ notes) is =
    let rest = none_under handle (note_under handle before note) notes is in
    by (opens_under handle note) (is_under handle note) rest.0 rest.1
  where
    by : (opens under : Bool) → cond opens (note ∷ []) (cond under (before ++ note ∷ []) before) ≡ [] → was_opened handle notes ≡ false
        → (before ≡ []) × ((opens || was_opened handle notes) ≡ false)
    by true under none rest = absurd cc
    by false true none rest = no_end before note _ none
    by false false none rest = (none, rest)

-- where a link was opened there are notes of it
pub some_under : (handle : ℕ) (notes : List Note) (X : Type 0) → was_opened handle notes ≡ true → notes_under handle notes ≡ [] → X
some_under handle notes X opened none = absurd (let h : true ≡ false = sym opened ∙ (none_under handle [] notes none).1 in absurd cc)

-- a note of the link that is open under a handle
pub record IsOn (own : ℕ) (note : Note) : Type 0 where
  pub opens : (handle : ℕ) → opens_under handle note ≡ false
  pub under : (handle : ℕ) → is_under handle note ≡ (own == handle)

abbrev pub AreOn : ℕ → List Note → Type 0
AreOn own notes = AllByRecursion (IsOn own) notes

-- what an end notes in a step is of its link
step_on : (setup : EndSetup) (facts : EndFacts) (step : EndStep) → AreOn setup.link.handle (end_notes setup facts step)
step_on setup facts (EventEntered slot) =
    entered_each (IsOn setup.link.handle) setup slot facts (record {
      applied = λ number. record { opens = λ handle. refl; under = λ handle. refl };
      enter = record { opens = λ handle. refl; under = λ handle. refl };
      done = λ kind. record { opens = λ handle. refl; under = λ handle. refl };
      began = λ kind. record { opens = λ handle. refl; under = λ handle. refl };
    })
step_on setup facts (PacketSent slot) =
    sent_each (IsOn setup.link.handle) setup facts (λ number llid octets. record { opens = λ handle. refl; under = λ handle. refl })
step_on setup facts (PacketReceived slot octets room) =
    received_each (IsOn setup.link.handle) setup slot room (good_pdu setup facts octets) facts (record {
      took = λ number llid octets. record { opens = λ handle. refl; under = λ handle. refl };
      refused = λ kind code. record { opens = λ handle. refl; under = λ handle. refl };
      done = λ kind. record { opens = λ handle. refl; under = λ handle. refl };
    })
step_on setup facts other = tt

from_on : (setup : EndSetup) (facts : EndFacts) (past : List EndStep) → AreOn setup.link.handle (end_notes_from setup facts past)
from_on setup facts [] = tt
from_on setup facts (step ∷ past) =
    both_each (IsOn setup.link.handle) (end_notes setup facts step) (end_notes_from setup (end_after setup facts step) past) (step_on setup facts step)
    (from_on setup (end_after setup facts step) past)

-- and so is all that it notes
pub end_on : (setup : EndSetup) (past : List EndStep) → AreOn setup.link.handle (end_notes_of setup past)
unfolding end_notes_of
end_on setup past = from_on setup (first_end setup) past

-- ---- one handle

module _ (handle : ℕ) where
  -- a note of no link under this handle
  record IsElse (note : Note) : Type 0 where
    opens : opens_under handle note ≡ false
    under : is_under handle note ≡ false

  abbrev AreElse : List Note → Type 0
  AreElse notes = AllByRecursion IsElse notes

  both_else : (xs ys : List Note) → AreElse xs → AreElse ys → AreElse (xs ++ ys)
  both_else [] ys are also = also
  both_else (x ∷ xs) ys are also = (are.0, both_else xs ys are.1 also)

  -- the notes under the handle after further ones
  abbrev then_noted : List Note → List Note → List Note
  then_noted notes more = fold (note_under handle) notes more

  else_same : (notes more : List Note) → AreElse more → then_noted notes more ≡ notes
  else_same notes [] are = refl
  else_same notes (note ∷ more) are =
      ap (λ xs. then_noted xs more)
      (ap (λ b. cond b (note ∷ []) (cond (is_under handle note) (notes ++ note ∷ []) notes)) are.0.opens
      ∙ ap (λ b. cond b (notes ++ note ∷ []) notes) are.0.under)
      ∙ else_same notes more are.1

  on_same : (own : ℕ) (notes more : List Note) → own ≡ handle → AreOn own more → then_noted notes more ≡ notes ++ more
  on_same own notes [] same are = sym (append-nil notes)
  on_same own notes (note ∷ more) same are =
      ap (λ xs. then_noted xs more)
      (ap (λ b. cond b (note ∷ []) (cond (is_under handle note) (notes ++ note ∷ []) notes)) (are.0.opens handle)
      ∙ ap (λ b. cond b (notes ++ note ∷ []) notes) (are.0.under handle ∙ eq-eqb own handle same))
      ∙ on_same own (notes ++ note ∷ []) more same are.1 ∙ append_assoc notes (note ∷ []) more

  on_else : (own : ℕ) (notes : List Note) → own ≢ handle → AreOn own notes → AreElse notes
  on_else own [] differs are = tt
  on_else own (note ∷ notes) differs are =
      (record { opens = are.0.opens handle; under = are.0.under handle ∙ is_not own handle differs }, on_else own notes differs are.1)

  ups_else : (events : List Event) → AreElse (map (λ event. Up (record { items = written event })) events)
  ups_else [] = tt
  ups_else (event ∷ events) = (record { opens = refl; under = refl }, ups_else events)

  events_else : (view : View) (events : List Event) → AreElse (notes_of_events view events)
  events_else view events = ups_else (filter (λ event. passes view (mask_bit_of event)) events)

  pieces_else : (pieces : List (ℕ × Piece)) → AreElse (map note_received pieces)
  pieces_else [] = tt
  pieces_else (piece ∷ pieces) = (record { opens = refl; under = refl }, pieces_else pieces)

  shut_else : (other reason : ℕ) → other ≢ handle → IsElse (note_shut other reason)
  shut_else other reason differs = record { opens = refl; under = is_not other handle differs }

  -- ---- what is noted of a link

  -- what was noted under the handle is of the link there, or of one that is shut
  abbrev IsNoted : Option OpenLink → List Note → Type 0
  IsNoted None notes = (notes ≡ []) ⊎ AreOfShutLink handle notes
  IsNoted (Some link) notes = (link.setup.link.handle ≡ handle) × (notes ≡ notes_opened_on link.setup link.past)

  abbrev IsNotedAfter : Option OpenLink → List Note → List Note → Type 0
  IsNotedAfter place notes more = IsNoted place (then_noted notes more)

  and_then : (place : Option OpenLink) (notes xs ys : List Note) → IsNotedAfter place (then_noted notes xs) ys → IsNotedAfter place notes (xs ++ ys)
  and_then place notes xs ys is = subst (IsNoted place) (sym (fold-append (note_under handle) notes xs ys)) is

  elsewhere : (place : Option OpenLink) (notes more : List Note) → AreElse more → IsNoted place notes → IsNotedAfter place notes more
  elsewhere place notes more are is = subst (IsNoted place) (sym (else_same notes more are)) is

  packets_noted : (place : Option OpenLink) (notes : List Note) (view : View) (events : List Event) → IsNoted place notes
      → IsNotedAfter place notes (notes_of_events view events)
  packets_noted place notes view events is = elsewhere place notes (notes_of_events view events) (events_else view events) is

  -- a step of the end, with what it notes
  step_noted : (step : EndStep) (link : OpenLink) (notes : List Note) → IsNoted (Some link) notes
      → IsNotedAfter (Some (link_after step link)) notes (end_notes link.setup (facts_in link) step)
  step_noted step link notes is =
      let more = end_notes link.setup (facts_in link) step in (
        is.0,
        on_same link.setup.link.handle notes more is.0 (step_on link.setup (facts_in link) step)
            ∙ ap (λ xs. xs ++ more) is.1 ∙ ap (λ xs. note_opened link.setup.link ∷ xs) (sym (notes_grow link.setup link.past step)),
      )

  -- a step that notes nothing
  silent_noted : (step : EndStep) (place : Option OpenLink) (notes : List Note) → ((setup : EndSetup) (facts : EndFacts) → end_notes setup facts step ≡ [])
      → IsNoted place notes → IsNoted (option_map (link_after step) place) notes
  silent_noted step None notes none is = is
  silent_noted step (Some link) notes none is =
      subst (λ xs. IsNoted (Some (link_after step link)) (then_noted notes xs)) (none link.setup (facts_in link)) (step_noted step link notes is)

  silent_at : (step : EndStep) (other : ℕ) (links : Links) (notes : List Note) → ((setup : EndSetup) (facts : EndFacts) → end_notes setup facts step ≡ [])
      → IsNoted (link_at handle links) notes → IsNoted (link_at handle (with_change other (link_after step) links)) notes
  silent_at step other links notes none is =
      at_changed (λ place. IsNoted place notes) other handle (link_after step) links is (λ same. silent_noted step (link_at handle links) notes none is)

  served_noted : (slot : ℕ) (place : Option OpenLink) (notes : List Note) → IsNoted place notes → IsNoted (option_map (link_served slot) place) notes
  served_noted slot None notes is = is
  served_noted slot (Some link) notes is = is

  -- a step of the link under some handle, with what it notes
  abbrev notes_at : EndStep → Option OpenLink → List Note
  notes_at step None = []
  notes_at step (Some link) = end_notes link.setup (facts_in link) step

  place_noted : (step : EndStep) (place : Option OpenLink) (notes : List Note) → IsNoted place notes
      → IsNotedAfter (option_map (link_after step) place) notes (notes_at step place)
  place_noted step None notes is = is
  place_noted step (Some link) notes is = step_noted step link notes is

  place_else : (step : EndStep) (other : ℕ) (place : Option OpenLink) → HasHandle other place → other ≢ handle → AreElse (notes_at step place)
  place_else step other None has differs = tt
  place_else step other (Some link) has differs =
      on_else link.setup.link.handle (end_notes link.setup (facts_in link) step) (λ same. differs (sym has ∙ same)) (step_on link.setup (facts_in link) step)

  step_at : (step : EndStep) (other : ℕ) (links : Links) (notes : List Note) → HaveHandles 0 links → IsNoted (link_at handle links) notes
      → IsNotedAfter (link_at handle (with_change other (link_after step) links)) notes (notes_at step (link_at other links))
  step_at step other links notes have is =
      let change = link_after step in
      by_handle other handle
      (λ same.
      subst (λ n. IsNotedAfter (link_at handle (with_change n change links)) notes (notes_at step (link_at n links))) (sym same)
      (subst (λ place. IsNotedAfter place notes (notes_at step (link_at handle links))) (sym (changed_is (option_map change) 0 handle links refl))
      (place_noted step (link_at handle links) notes is)))
      (λ differs.
      elsewhere (link_at handle (with_change other change links)) notes (notes_at step (link_at other links))
      (place_else step other (link_at other links) (has_its_handle 0 other links have) differs)
      (subst (λ place. IsNoted place notes) (sym (other_stays (option_map change) 0 other handle links (λ e. differs (sym e)))) is))

  -- ---- a change of all links, with what is noted of each, by ascending handle

  abbrev notes_from_places : (ℕ → Option OpenLink → List Note) → ℕ → Links → List Note
  notes_from_places noted first [] = []
  notes_from_places noted first (place ∷ links) = noted first place ++ notes_from_places noted (first + 1) links

  -- what is noted of one link, by what it was, is of its handle alone, and goes with the change
  record GoTogether (change : Option OpenLink → Option OpenLink) (noted : ℕ → Option OpenLink → List Note) : Type 0 where
    none : change None ≡ None
    apart : (first : ℕ) (place : Option OpenLink) → HasHandle first place → first ≢ handle → AreElse (noted first place)
    here : (place : Option OpenLink) (notes : List Note) → IsNoted place notes → IsNotedAfter (change place) notes (noted handle place)

  module _ (change : Option OpenLink → Option OpenLink) (noted : ℕ → Option OpenLink → List Note) (go : GoTogether change noted) where
    past_else : (first : ℕ) (links : Links) → handle < first → HaveHandles first links → AreElse (notes_from_places noted first links)
    past_else first [] past have = tt
    past_else first (place ∷ links) past have =
        both_else (noted first place) (notes_from_places noted (first + 1) links)
        (go.apart first place have.0 (λ same. absurd (omega (arith, past, same))))
        (past_else (first + 1) links (omega (arith, past)) have.1)

    places_noted : (first : ℕ) (links : Links) (notes : List Note) → HaveHandles first links → IsNoted (link_from first handle links) notes
        → IsNotedAfter (change (link_from first handle links)) notes (notes_from_places noted first links)
    places_noted first [] notes have is = subst (λ place. IsNoted place notes) (sym go.none) is
    places_noted first (place ∷ links) notes have is = by (first == handle) refl (λ xs. places_noted (first + 1) links xs have.1) is
      where
        by : (here : Bool) → (first == handle) ≡ here
            → ((xs : List Note) → IsNoted (link_from (first + 1) handle links) xs → IsNotedAfter (change (link_from (first + 1) handle links)) xs (notes_from_places noted (first + 1) links))
            → IsNoted (cond here place (link_from (first + 1) handle links)) notes
            → IsNotedAfter (change (cond here place (link_from (first + 1) handle links))) notes (noted first place ++ notes_from_places noted (first + 1) links)
        by true e rest is =
            let same = eqb-true first handle e in
            and_then (change place) notes (noted first place) (notes_from_places noted (first + 1) links)
            (elsewhere (change place) (then_noted notes (noted first place)) (notes_from_places noted (first + 1) links)
            (past_else (first + 1) links (omega (arith, same)) have.1)
            (subst (λ n. IsNotedAfter (change place) notes (noted n place)) (sym same) (go.here place notes is)))
        by false e rest is =
            let differs : first ≢ handle = λ same. absurd (let h : true ≡ false = sym (eq-eqb first handle same) ∙ e in absurd cc) in
            let after = change (link_from (first + 1) handle links) in
            and_then after notes (noted first place) (notes_from_places noted (first + 1) links)
            (subst (λ xs. IsNotedAfter after xs (notes_from_places noted (first + 1) links)) (sym (else_same notes (noted first place) (go.apart first place have.0 differs)))
            (rest notes is))

  -- links end
  abbrev notes_by_end : View → ℕ → Option ℕ → List Note
  notes_by_end view first reason = flat_map (notes_ended view) (end_by first reason)

  abbrev ended_notes : View → (OpenLink → Option ℕ) → ℕ → Option OpenLink → List Note
  ended_notes view reason first None = []
  ended_notes view reason first (Some link) = notes_by_end view first (reason link)

  by_end_else : (view : View) (first : ℕ) (reason : Option ℕ) → first ≢ handle → AreElse (notes_by_end view first reason)
  by_end_else view first None differs = tt
  by_end_else view first (Some reason) differs =
      both_else (notes_ended view (record { handle = first; reason = record { 0 = reason } })) []
      (shut_else first reason differs, events_else view (DisconnectionComplete 0 first reason ∷ [])) tt

  end_here : (view : View) (reason : Option ℕ) (link : OpenLink) (notes : List Note) → IsNoted (Some link) notes
      → IsNotedAfter (staying_by reason link) notes (notes_by_end view handle reason)
  end_here view None link notes is = is
  end_here view (Some reason) link notes is =
      let events = notes_of_events view (DisconnectionComplete 0 handle reason ∷ []) in
      elsewhere None (then_noted notes (note_shut handle reason ∷ [])) (events ++ []) (both_else events [] (events_else view (DisconnectionComplete 0 handle reason ∷ [])) tt)
      (inr (record {
        setup = link.setup;
        past = link.past;
        reason = reason;
        has_handle = is.0;
        notes_are = ap (λ b. cond b (notes ++ note_shut handle reason ∷ []) notes) (eq-eqb handle handle refl) ∙ ap (λ xs. xs ++ note_shut handle reason ∷ []) is.1;
      }))

  ends_together : (view : View) (reason : OpenLink → Option ℕ) → GoTogether (place_without reason) (ended_notes view reason)
  ends_together view reason = record { none = refl; apart = apart; here = here }
    where
      apart : (first : ℕ) (place : Option OpenLink) → HasHandle first place → first ≢ handle → AreElse (ended_notes view reason first place)
      apart first None has differs = tt
      apart first (Some link) has differs = by_end_else view first (reason link) differs

      here : (place : Option OpenLink) (notes : List Note) → IsNoted place notes → IsNotedAfter (place_without reason place) notes (ended_notes view reason handle place)
      here None notes is = is
      here (Some link) notes is = end_here view (reason link) link notes is

  ended_are : (view : View) (reason : OpenLink → Option ℕ) (first : ℕ) (links : Links)
      → notes_from_places (ended_notes view reason) first links ≡ flat_map (notes_ended view) (ends_by reason first links)
  ended_are view reason first [] = refl
  ended_are view reason first (None ∷ links) = ended_are view reason (first + 1) links
  ended_are view reason first (Some link ∷ links) =
      ap (λ xs. notes_by_end view first (reason link) ++ xs) (ended_are view reason (first + 1) links)
      ∙ sym (flat_map-append (notes_ended view) (end_by first (reason link)) (ends_by reason (first + 1) links))

  -- what is noted as they end
  ends_noted : (view : View) (reason : OpenLink → Option ℕ) (links : Links) (notes : List Note) → HaveHandles 0 links → IsNoted (link_at handle links) notes
      → IsNotedAfter (link_at handle (links_without reason links)) notes (flat_map (notes_ended view) (ends_by reason 0 links))
  ends_noted view reason links notes have is =
      subst (λ place. IsNotedAfter place notes (flat_map (notes_ended view) (ends_by reason 0 links))) (sym (stays_where_not_due reason 0 handle links))
      (subst (IsNotedAfter (place_without reason (link_at handle links)) notes) (ended_are view reason 0 links)
      (places_noted (place_without reason) (ended_notes view reason) (ends_together view reason) 0 links notes have is))

  -- links enter their events
  abbrev entered_notes : View → ℕ → ℕ → Option OpenLink → List Note
  entered_notes view slot first place = notes_entering slot place ++ notes_of_events view (events_entering slot first place)

  enters_together : (view : View) (slot : ℕ) → GoTogether (option_map (link_entered slot)) (entered_notes view slot)
  enters_together view slot = record { none = refl; apart = apart; here = here }
    where
      else_if : (enters : Bool) (link : OpenLink) → link.setup.link.handle ≢ handle → AreElse (notes_if enters slot link)
      else_if true link differs =
          on_else link.setup.link.handle (end_notes link.setup (facts_in link) (EventEntered slot)) differs (step_on link.setup (facts_in link) (EventEntered slot))
      else_if false link differs = tt

      place_apart : (first : ℕ) (place : Option OpenLink) → HasHandle first place → first ≢ handle → AreElse (notes_entering slot place)
      place_apart first None has differs = tt
      place_apart first (Some link) has differs = else_if (enters_in slot link) link (λ same. differs (sym has ∙ same))

      apart : (first : ℕ) (place : Option OpenLink) → HasHandle first place → first ≢ handle → AreElse (entered_notes view slot first place)
      apart first place has differs =
          let events = events_entering slot first place in
          both_else (notes_entering slot place) (notes_of_events view events) (place_apart first place has differs) (events_else view events)

      here_if : (enters : Bool) (link : OpenLink) (notes : List Note) → IsNoted (Some link) notes → IsNotedAfter (Some (entered_if enters slot link)) notes (notes_if enters slot link)
      here_if true link notes is = step_noted (EventEntered slot) link notes is
      here_if false link notes is = is

      place_here : (place : Option OpenLink) (notes : List Note) → IsNoted place notes
          → IsNotedAfter (option_map (link_entered slot) place) notes (notes_entering slot place)
      place_here None notes is = is
      place_here (Some link) notes is = here_if (enters_in slot link) link notes is

      here : (place : Option OpenLink) (notes : List Note) → IsNoted place notes → IsNotedAfter (option_map (link_entered slot) place) notes (entered_notes view slot handle place)
      here place notes is =
          let after = option_map (link_entered slot) place in
          let entering = notes_entering slot place in
          let events = events_entering slot handle place in
          and_then after notes entering (notes_of_events view events)
          (packets_noted after (then_noted notes entering) view events (place_here place notes is))

  entered_are : (view : View) (slot first : ℕ) (links : Links)
      → notes_from_places (entered_notes view slot) first links ≡ notes_all_entering view slot first links
  entered_are view slot first [] = refl
  entered_are view slot first (place ∷ links) = ap (λ xs. entered_notes view slot first place ++ xs) (entered_are view slot (first + 1) links)

  -- a Reset shuts all
  abbrev reset_notes : ℕ → Option OpenLink → List Note
  reset_notes first None = []
  reset_notes first (Some link) = note_shut first 0 ∷ []

  reset_together : GoTogether (λ place. None) reset_notes
  reset_together = record { none = refl; apart = apart; here = here }
    where
      apart : (first : ℕ) (place : Option OpenLink) → HasHandle first place → first ≢ handle → AreElse (reset_notes first place)
      apart first None has differs = tt
      apart first (Some link) has differs = (shut_else first 0 differs, tt)

      here : (place : Option OpenLink) (notes : List Note) → IsNoted place notes → IsNotedAfter None notes (reset_notes handle place)
      here None notes is = is
      here (Some link) notes is = inr (record {
        setup = link.setup;
        past = link.past;
        reason = 0;
        has_handle = is.0;
        notes_are = ap (λ b. cond b (notes ++ note_shut handle 0 ∷ []) notes) (eq-eqb handle handle refl) ∙ ap (λ xs. xs ++ note_shut handle 0 ∷ []) is.1;
      })

  reset_are : (first : ℕ) (links : Links) → notes_from_places reset_notes first links ≡ map (λ one. note_shut one 0) (handles_from first links)
  reset_are first [] = refl
  reset_are first (None ∷ links) = reset_are (first + 1) links
  reset_are first (Some link ∷ links) = ap (λ xs. note_shut first 0 ∷ xs) (reset_are (first + 1) links)

  -- ---- a link is opened

  opened_noted : (setup : EndSetup) (view : View) (links : Links) (notes : List Note) → setup.link.handle < length links → IsNoted (link_at handle links) notes
      → IsNotedAfter (link_at handle (with_link setup links)) notes (notes_opened view setup.link)
  unfolding end_notes_of
  opened_noted setup view links notes within is =
      let own = setup.link.handle in
      let events = notes_of_events view (events_opened view setup.link) in
      let more = note_opened setup.link ∷ [] in
      let after = link_at handle (with_link setup links) in
      and_then after notes more events
      (elsewhere after (then_noted notes more) events (events_else view (events_opened view setup.link))
      (by_handle own handle
      (λ same.
      subst (λ place. IsNotedAfter place notes more) (sym (subst (λ n. link_at n (with_link setup links) ≡ Some (new_link setup)) same (opened_at setup links within)))
      (same, ap (λ b. cond b more (cond b (notes ++ more) notes)) (eq-eqb own handle same)))
      (λ differs.
      elsewhere after notes more (record { opens = is_not own handle differs; under = is_not own handle differs }, tt)
      (subst (λ place. IsNoted place notes) (sym (other_stays (λ place. Some (new_link setup)) 0 own handle links (λ e. differs (sym e)))) is))))

  -- ---- what is done next

  fixing_noted : (doing : Doing) (links : Links) (notes : List Note) → IsNoted (link_at handle links) notes → IsNoted (link_at handle (links_fixing doing links)) notes
  fixing_noted (CentralSends other) links notes is = silent_at PduFixed other links notes (λ setup facts. refl) is
  fixing_noted (PeripheralListens other) links notes is = silent_at PduFixed other links notes (λ setup facts. refl) is
  fixing_noted (Advertises channel) links notes is = is
  fixing_noted other links notes is = is

  sent_are : (slot : ℕ) (place : Option OpenLink) → notes_at (PacketSent slot) place ≡ notes_sent slot place
  sent_are slot None = refl
  sent_are slot (Some link) = refl

  sending_noted : (other : ℕ) (facts : Facts) (notes : List Note) → HaveHandles 0 facts.links → IsNoted (link_at handle facts.links) notes
      → IsNotedAfter (link_at handle (with_change other (link_after (PacketSent facts.turn.slot)) facts.links)) notes (notes_sent facts.turn.slot (link_at other facts.links))
  sending_noted other facts notes have is =
      subst (IsNotedAfter (link_at handle (with_change other (link_after (PacketSent facts.turn.slot)) facts.links)) notes) (sent_are facts.turn.slot (link_at other facts.links))
      (step_at (PacketSent facts.turn.slot) other facts.links notes have is)

  doing_noted : (doing : Doing) (facts : Facts) (notes : List Note) → HaveHandles 0 facts.links → IsNoted (link_at handle facts.links) notes
      → IsNotedAfter (link_at handle (links_sending facts.turn.slot doing facts.links)) notes (notes_doing doing facts)
  doing_noted (CentralSends other) facts notes have is = sending_noted other facts notes have is
  doing_noted (PeripheralSends other) facts notes have is = sending_noted other facts notes have is
  doing_noted (Advertises channel) facts notes have is = is
  doing_noted other facts notes have is = is

  won_noted : (slot : ℕ) (activity : Activity) (links : Links) (notes : List Note) → IsNoted (link_at handle links) notes → IsNoted (link_at handle (links_won slot activity links)) notes
  won_noted slot (Link other) links notes is =
      at_changed (λ place. IsNoted place notes) other handle (link_served slot) links is (λ same. served_noted slot (link_at handle links) notes is)
  won_noted slot Advertise links notes is = is
  won_noted slot Scan links notes is = is
  won_noted slot Initiate links notes is = is

  -- ---- a step of a controller

  module _ (setup : Setup) where
    abbrev IsKeptBy : List Note → Outcome → Type 0
    IsKeptBy notes outcome = IsNotedAfter (link_at handle (facts_passed outcome).links) notes (notes_passed outcome)

    -- a turn begins
    record IsLeft (notes : List Note) (facts : Facts) : Type 0 where
      own : HaveOwnHandles setup facts
      is : IsNoted (link_at handle facts.links) notes

    turn_noted : (slot : ℕ) (on : Bool) (facts : Facts) (notes : List Note) → HaveOwnHandles setup facts → IsNoted (link_at handle facts.links) notes
        → IsKeptBy notes (outcome_begun slot on facts)
    turn_noted slot on facts notes own is =
        let starts = (handles_kept setup).turns.starts in
        let outcome = outcome_begun slot on facts in
        let staying = links_without (due_in slot) facts.links in
        let view = (facts_ended (due_in slot) facts).view in
        let ending = notes_ending slot facts in
        let entering = notes_all_entering view slot 0 staying in
        let ended_notes = then_noted notes ending in
        let entered = subst (λ place. IsNotedAfter place ended_notes entering) (sym (map_at (option_map (link_entered slot)) 0 handle staying refl))
        (subst (IsNotedAfter (option_map (link_entered slot) (link_at handle staying)) ended_notes) (entered_are view slot 0 staying)
        (places_noted (option_map (link_entered slot)) (entered_notes view slot) (enters_together view slot) 0 staying ended_notes
        (stay_with_handles (due_in slot) 0 facts.links own.handles) (ends_noted facts.view (due_in slot) facts.links notes own.handles is))) in
        let all = then_noted ended_notes entering in
        let before : IsLeft all (facts_before_doing slot facts) = record {
          own = left_entering (HaveOwnHandles setup) starts.ends starts.begins starts.enters starts.wins starts.fixes slot facts own;
          is = subst (λ (ended : Facts). IsNoted (link_at handle (all_entered slot ended.links)) all) (sym (ending_is slot facts)) entered;
        } in
        subst (λ (ended : Facts). IsNotedAfter (link_at handle (facts_passed outcome).links) notes
        (ending ++ notes_all_entering ended.view slot 0 ended.links ++ notes_doing outcome.next outcome.facts))
        (sym (ending_is slot facts))
        (and_then (link_at handle (facts_passed outcome).links) notes (ending ++ entering) (notes_doing outcome.next outcome.facts)
        (subst (λ xs. IsNotedAfter (link_at handle (facts_passed outcome).links) xs (notes_doing outcome.next outcome.facts)) (sym (fold-append (note_under handle) notes ending entering))
        (served_is (IsLeft all)
        (λ slot activity facts left. record { own = starts.wins slot activity facts left.own; is = won_noted slot activity facts.links all left.is })
        (λ outcome. IsNotedAfter (link_at handle (facts_passed (fixing outcome)).links) all (notes_doing (fixing outcome).next (fixing outcome).facts))
        (λ doing facts may left.
        let fixed = starts.fixes doing facts left.own in
        doing_noted doing (record facts { links = links_fixing doing facts.links }) all fixed.handles (fixing_noted doing facts.links all left.is))
        on slot (winner_before_doing slot facts) (facts_before_doing slot facts) before)))

    -- a phase
    asks_noted : (asks : Bool) (channel : ℕ) (pdu : AdvPdu) (facts : Facts) (notes more : List Note) → IsNotedAfter (link_at handle facts.links) notes more
        → IsNotedAfter (link_at handle (facts_doing (asks_if asks channel pdu) facts).links) notes (more ++ notes_doing (asks_if asks channel pdu) facts)
    asks_noted true channel pdu facts notes more is = rw (append-nil more) is
    asks_noted false channel pdu facts notes more is = rw (append-nil more) is

    reply_noted : (replies : Bool) (other : ℕ) (facts : Facts) (notes more : List Note) → HaveHandles 0 facts.links → IsNotedAfter (link_at handle facts.links) notes more
        → IsNotedAfter (link_at handle (facts_doing (reply_if replies other) facts).links) notes (more ++ notes_doing (reply_if replies other) facts)
    reply_noted replies other facts notes more have is =
        let next = reply_if replies other in
        and_then (link_at handle (facts_doing next facts).links) notes more (notes_doing next facts) (doing_noted next facts (then_noted notes more) have is)

    opens_noted : (link : LinkSetup) (facts : Facts) (notes : List Note) → link.handle < length facts.links → IsNoted (link_at handle facts.links) notes → IsKeptBy notes (opens link facts)
    opens_noted link facts notes within is =
        let more = notes_opened facts.view link in
        opening_passes (λ next. IsNotedAfter (link_at handle next.links) notes (more ++ [])) link facts
        (rw (append-nil more) (opened_noted (record { link = link; opened = facts.turn.slot }) facts.view facts.links notes within is))

    scanned_noted : (asks : Bool) (channel : ℕ) (pdu : AdvPdu) (on : ScannerFacts) (facts : Facts) (notes : List Note) → IsNoted (link_at handle facts.links) notes
        → let answer = scan_answer on.params facts.view.accepted on.recent pdu in
        let after = with_scanner (scanner_after on facts.view.accepted pdu) facts in
        let next = asks_if (asks && does_ask answer) channel pdu in
        IsNotedAfter (link_at handle (facts_doing next after).links) notes (notes_of_events facts.view (events_reported answer pdu) ++ notes_doing next after)
    scanned_noted asks channel pdu on facts notes is =
        let answer = scan_answer on.params facts.view.accepted on.recent pdu in
        let after = with_scanner (scanner_after on facts.view.accepted pdu) facts in
        let more = notes_of_events facts.view (events_reported answer pdu) in
        asks_noted (asks && does_ask answer) channel pdu after notes more
        (elsewhere (link_at handle facts.links) notes more (events_else facts.view (events_reported answer pdu)) is)

    taken_are : (slot : ℕ) (room : Bool) (octets : List ℕ) (place : Option OpenLink) → notes_at (PacketReceived slot octets room) place ≡ notes_taken slot room place octets
    taken_are slot room octets None = refl
    taken_are slot room octets (Some link) = refl

    -- a request that is answered at once
    refusing_noted : (refusal : Option EndStep) → IfSome refusal IsAskedStep → (other : ℕ) (links : Links) (notes : List Note)
        → IsNoted (link_at handle links) notes → IsNoted (link_at handle (links_refusing refusal other links)) notes
    refusing_noted (Some step) asks other links notes is = silent_at step other links notes (asked_silent step asks) is
    refusing_noted None asks other links notes is = is

    heard_noted : (other : ℕ) (octets : List ℕ) (facts : Facts) (notes : List Note) → HaveOwnHandles setup facts → IsNoted (link_at handle facts.links) notes
        → IsKeptBy notes (link_heard setup other octets facts)
    heard_noted other octets facts notes own is =
        let slot = facts.turn.slot in
        let room = has_room setup facts in
        let step = PacketReceived slot octets room in
        let place = link_at other facts.links in
        let taken = notes_taken slot room place octets in
        let events = events_received (was_encrypted other facts.view.links) other slot room place octets in
        let after = link_received other room octets facts in
        let heard = refusing_noted (refusal_at other room octets facts) (refusal_is other room octets facts) other (with_change other (link_after step) facts.links) (then_noted notes taken)
        (subst (IsNotedAfter (link_at handle (with_change other (link_after step) facts.links)) notes) (taken_are slot room octets place)
        (step_at step other facts.links notes own.handles is)) in
        reply_noted (replies_in slot room place octets) other after notes (taken ++ notes_of_events facts.view events)
        ((receiving_opens other room octets facts).handles own.handles)
        (and_then (link_at handle after.links) notes taken (notes_of_events facts.view events)
        (packets_noted (link_at handle after.links) (then_noted notes taken) facts.view events heard))

    phase_noted : (facts : Facts) (notes : List Note) → HaveOwnHandles setup facts → IsNoted (link_at handle facts.links) notes → EachOutcome setup facts (IsKeptBy notes)
    phase_noted facts notes own is = record {
      rests = is;
      awaits_request = λ channel doing. is;
      awaits_response = λ channel advertiser doing. is;
      central_listens = λ other doing. is;
      sent = λ channel link doing. opens_noted link facts notes (subst (IsNew facts.links) doing own.new).0 is;
      responds = λ channel on doing is_on. is;
      taken = λ channel octets pdu on fields other is_on hears takes free.
          opens_noted (link_taken facts.view on.params.own pdu fields other) facts notes (free_is_new facts.links other free).0 is;
      scanned = λ channel octets pdu on doing is_on hears. scanned_noted true channel pdu on facts notes is;
      answered = λ channel octets pdu on doing is_on hears. scanned_noted false channel pdu on facts notes is;
      connects = λ channel octets pdu on access other doing is_on hears answers next free in_range. is;
      received = λ other octets. heard_noted other octets facts notes own is;
    }

    -- a turn ends
    reported_if : (some : Bool) (link : OpenLink) (notes : List Note) → IsNoted (Some link) notes → IsNoted (Some (cond some (link_after DataReported link) link)) notes
    reported_if true link notes is = silent_noted DataReported (Some link) notes (λ setup facts. refl) is
    reported_if false link notes is = is

    reported_noted : (place : Option OpenLink) (notes : List Note) → IsNoted place notes → IsNoted (option_map link_reported place) notes
    reported_noted None notes is = is
    reported_noted (Some link) notes is = reported_if (nat_lt 0 (complete_in link)) link notes is

    handed_noted : (facts : Facts) (notes : List Note) → IsNoted (link_at handle facts.links) notes → IsNotedAfter (link_at handle (links_reported facts.links)) notes (notes_handed facts)
    handed_noted facts notes is =
        let handed = notes_pieces facts in
        let events = map event_completed (completed_from 0 facts.links) in
        elsewhere (link_at handle (links_reported facts.links)) notes (notes_handed facts)
        (both_else handed (notes_of_events facts.view events) (pieces_else (pieces_handed facts)) (events_else facts.view events))
        (subst (λ place. IsNoted place notes) (sym (map_at (option_map link_reported) 0 handle facts.links refl)) (reported_noted (link_at handle facts.links) notes is))

    -- then links end
    ended_noted : (facts : Facts) (notes : List Note) → HaveOwnHandles setup facts → IsNoted (link_at handle facts.links) notes
        → IsNotedAfter (link_at handle (facts_ended_turn facts).links) notes (notes_ended_turn facts)
    ended_noted facts notes own is =
        let handed = facts_handed facts in
        let have = (mapped_opens link_reported facts.links reported_same).handles own.handles in
        subst (λ (next : Facts). IsNotedAfter (link_at handle next.links) notes (notes_ended_turn facts)) (sym (leaving_is handed))
        (and_then (link_at handle (links_without ending_in handed.links)) notes (notes_handed facts) (notes_leaving handed)
        (ends_noted handed.view ending_in handed.links (then_noted notes (notes_handed facts)) have (handed_noted facts notes is)))

    -- an octet of the host
    known_noted : (accepted : Bool) (facts : Facts) (opcode : ℕ) (command : Command) (notes : List Note) → HaveOwnHandles setup facts → IsNoted (link_at handle facts.links) notes
        → IsNotedAfter (link_at handle (facts_known accepted setup facts command).links) notes (notes_known accepted setup facts opcode command)
    known_noted false facts opcode command notes own is =
        packets_noted (link_at handle facts.links) notes facts.view (answer_to setup facts opcode (Known command)) is
    known_noted true facts opcode command notes own is =
        let answer = answer_to setup facts opcode (Known command) in
        let caused = events_caused facts command in
        let after = link_at handle (links_after command facts.links) in
        and_then after notes (notes_before facts command ++ notes_of_events facts.view answer) (notes_of_events facts.view caused)
        (elsewhere after (then_noted notes (notes_before facts command ++ notes_of_events facts.view answer)) (notes_of_events facts.view caused) (events_else facts.view caused)
        (and_then after notes (notes_before facts command) (notes_of_events facts.view answer)
        (elsewhere after (then_noted notes (notes_before facts command)) (notes_of_events facts.view answer) (events_else facts.view answer) (before_noted command))))
      where
        before_noted : (command : Command) → IsNotedAfter (link_at handle (links_after command facts.links)) notes (notes_before facts command)
        before_noted Reset =
            subst (λ place. IsNotedAfter place notes (notes_before facts Reset)) (sym (map_at (λ place. None) 0 handle facts.links refl))
            (subst (IsNotedAfter None notes) (reset_are 0 facts.links) (places_noted (λ place. None) reset_notes reset_together 0 facts.links notes own.handles is))
        before_noted other = is

    asked_noted : (facts : Facts) (opcode : ℕ) (command : Command) (notes : List Note) → is_asking facts.view command ≡ true
        → IsNoted (link_at handle facts.links) notes
        → IsNotedAfter (link_at handle (links_commanded command (moment_of setup facts) facts.links)) notes
        (notes_known true setup facts opcode command ++ notes_at_once facts command)
    asked_noted facts opcode command notes asks is =
        let before = notes_before facts command in
        let answer = notes_of_events facts.view (answer_to setup facts opcode (Known command)) in
        let caused = notes_of_events facts.view (events_caused facts command) in
        elsewhere (link_at handle (links_commanded command (moment_of setup facts) facts.links)) notes ((before ++ answer ++ caused) ++ notes_at_once facts command)
        (both_else (before ++ answer ++ caused) (notes_at_once facts command)
        (both_else (before ++ answer) caused
        (both_else before answer (subst AreElse (sym (asking_shuts_none facts command asks)) tt)
        (events_else facts.view (answer_to setup facts opcode (Known command))))
        (events_else facts.view (events_caused facts command)))
        (events_else facts.view (events_commanded_on command facts.links)))
        (at_kept (λ place. IsNoted place notes) (λ link step asks is. silent_noted step (Some link) notes (asked_silent step asks) is) command
        (moment_of setup facts) handle facts.links is)

    read_noted : (read : CmdRead) (facts : Facts) (opcode : ℕ) (notes : List Note) → HaveOwnHandles setup facts → IsNoted (link_at handle facts.links) notes
        → IsNotedAfter (link_at handle (facts_commanded setup facts read).links) notes (notes_commanded setup facts opcode read)
    read_noted (Known command) facts opcode notes own is =
        both_asking setup facts command opcode (λ (after : Facts) (noted : List Note). IsNotedAfter (link_at handle after.links) notes noted)
        (known_noted (status_of facts.view command == 0) facts opcode command notes own is)
        (λ asks. asked_noted facts opcode command notes asks is)
    read_noted UnknownOpcode facts opcode notes own is = packets_noted (link_at handle facts.links) notes facts.view (answer_to setup facts opcode UnknownOpcode) is
    read_noted BadLength facts opcode notes own is = packets_noted (link_at handle facts.links) notes facts.view (answer_to setup facts opcode BadLength) is

    offered_noted : (offer : Offer) (other : ℕ) (start : Bool) (octets : List ℕ) (facts : Facts) (notes : List Note) → IsNoted (link_at handle facts.links) notes
        → IsNotedAfter (link_at handle (facts_offered offer other start octets facts).links) notes (notes_offered facts.view offer other)
    offered_noted Kept other start octets facts notes is = silent_at (DataGiven start octets) other facts.links notes (λ setup facts. refl) is
    offered_noted NoLink other start octets facts notes is = is
    offered_noted Empty other start octets facts notes is = packets_noted (link_at handle facts.links) notes facts.view (CompletedPackets other 1 ∷ []) is
    offered_noted Overflow other start octets facts notes is = packets_noted (link_at handle facts.links) notes facts.view (BufferOverflow 1 ∷ []) is

    fed_noted : (fed : Fed) (facts : Facts) (notes : List Note) → HaveOwnHandles setup facts → IsNoted (link_at handle facts.links) notes
        → IsNotedAfter (link_at handle (facts_fed setup facts fed).links) notes (notes_fed setup facts fed)
    fed_noted (Packet (HostCommand opcode body)) facts notes own is = read_noted (command_of opcode body.items) facts opcode notes own is
    fed_noted (Packet (Acl other start count body)) facts notes own is = offered_noted (offer_of setup facts other count) other start body.items facts notes is
    fed_noted LostSync facts notes own is = packets_noted (link_at handle facts.links) notes facts.view (HardwareError 0x01 ∷ []) is
    fed_noted More facts notes own is = is

    step_noted_by : (step : Step) (facts : Facts) (notes : List Note) → HaveOwnHandles setup facts → IsNoted (link_at handle facts.links) notes
        → IsNotedAfter (link_at handle (facts_after setup facts step).links) notes (notes_after setup facts step)
    step_noted_by (HostOctet octet) facts notes own is = fed_noted (result_of facts.octets octet) facts notes own is
    step_noted_by (TurnBegins slot on) facts notes own is = turn_noted slot on facts notes own is
    step_noted_by (PacketHeard octets) facts notes own is = heard_is setup facts (IsKeptBy notes) (phase_noted facts notes own is) facts.turn.doing octets refl
        (λ other. (phase_noted (facts_with_words setup other facts) notes (words_own setup other facts own)
        (silent_at (WordsGiven _ _) other facts.links notes (λ setup facts. refl) is)).received other octets)
    step_noted_by NothingHeard facts notes own is = unheard_is setup facts (IsKeptBy notes) (phase_noted facts notes own is) facts.turn.doing refl
    step_noted_by TurnEnds facts notes own is = ended_noted facts notes own is

    -- ---- all steps

    noted_from : (facts : Facts) (past : List Step) (notes : List Note) → HaveOwnHandles setup facts → IsNoted (link_at handle facts.links) notes
        → IsNotedAfter (link_at handle (fold (facts_after setup) facts past).links) notes (notes_from setup facts past)
    noted_from facts [] notes own is = is
    noted_from facts (step ∷ past) notes own is =
        let next = facts_after setup facts step in
        let more = notes_after setup facts step in
        and_then (link_at handle (fold (facts_after setup) next past).links) notes more (notes_from setup next past)
        (noted_from next past (then_noted notes more) (holds_step setup (HaveOwnHandles setup) (HaveOwnHandles setup) (handles_kept setup) facts step own)
        (step_noted_by step facts notes own is))

    none_first : (first n : ℕ) → link_from first handle (replicate n None) ≡ None
    none_first first zero = refl
    none_first first (suc n) = at (first == handle) (none_first (first + 1) n)
      where
        at : (test : Bool) → link_from (first + 1) handle (replicate n None) ≡ None → cond test None (link_from (first + 1) handle (replicate n None)) ≡ None
        at true none = refl
        at false none = none

    is_noted : (past : List Step) → IsNoted (link_at handle (facts_of setup past).links) (notes_under handle (notes_of setup past))
    unfolding facts_of notes_of
    is_noted past =
        noted_from (first_facts setup) past [] (own_handles setup [])
        (subst (λ place. IsNoted place []) (sym (none_first 0 setup.links)) (inl refl))

    pub open_noted : (past : List Step) (link : OpenLink) → link_at handle (facts_of setup past).links ≡ Some link
        → notes_under handle (notes_of setup past) ≡ notes_opened_on link.setup link.past
    open_noted past link at = (subst (λ place. IsNoted place (notes_under handle (notes_of setup past))) at (is_noted past)).1

    pub shut_noted : (past : List Step) → link_at handle (facts_of setup past).links ≡ None → was_opened handle (notes_of setup past) ≡ true
        → AreOfShutLink handle (notes_under handle (notes_of setup past))
    shut_noted past at was =
        elim (subst (λ place. IsNoted place (notes_under handle (notes_of setup past))) at (is_noted past)) [
          | inl none ↦ some_under handle (notes_of setup past) _ was none
          | inr shut ↦ shut
        ]
