-- A call of a turn, note by note: what its notes make of a side by its lines, and how the links that end in it free the radio.
use Rattle.std.proofs.Common.{◌≡◌, ℕ, List, [], ◌∷◌, ◌++◌, Some, map, refl, sym, ap, subst, ◌∙◌, append-nil, append_assoc}
use Rattle.std.specs.Prelude.{flat_map, fold, ⊤}
use Rattle.std.specs.List.{AllByRecursion}
use Rattle.std.proofs.lemmas.List.{map-append}
use Rattle.ble_base.specs.declared.notes.Note.{Note}
use Rattle.ble_base.specs.declared.notes.Note.TheVariants.{Enter as EnterNote, Shut as ShutNote}
use Rattle.ble_base.specs.declared.roles.Side.{Side}
use Rattle.hci_evt.specs.declared.event.Event.TheVariants.{DisconnectionComplete}
use Rattle.host_answers.proofs.LineAnswers.{IsQuiet, turn_quiet}
use Rattle.host_view.specs.View.{View}
use Rattle.slot_plan.specs.declared.Want.{Want}
use Rattle.journal_events.specs.journal_sending.controller_model.Events.{notes_of_events}
use Rattle.journal_events.specs.journal_sending.controller_model.Facts.{Facts}
use Rattle.journal_events.specs.journal_sending.controller_model.Links.{facts_shut, note_shut, notes_ended}
use Rattle.journal_events.specs.journal_sending.controller_model.Side.{notes_after}
use Rattle.journal_events.specs.journal_sending.controller_model.Step.{Step}
use Rattle.journal_events.proofs.journal_sending.controller_model.Always.{IsInTurn}
use Rattle.journal_events.specs.journal_sending.journal_controls.journal_ends.Asked.{Words}
use Rattle.journal_events.specs.journal_sending.journal_data.Held.{links_open}
use Rattle.journal_events.specs.journal_sending.journal_data.open_links.declared.ended.LinkEnded.{LinkEnded}
use Rattle.journal_events.specs.journal_sending.run_model.History.{Event, Called, Noted}
use Rattle.journal_events.specs.journal_sending.run_model.Journal.{journal_of, side_of}
use Rattle.journal_events.specs.journal_sending.run_model.Run.{Given, after_call, facts_at, history_of, run_of, setup_at}
use Rattle.journal_events.proofs.journal_sending.journal_acks.Exchanging.{number_at}
use Rattle.journal_wants.specs.Station.{Setups, Station, handle_of, shut_under}
use Rattle.journal_wants.proofs.HostSet.{IsSetAs}
use Rattle.journal_wants.proofs.NotedStation.{ArePlain, at, shut_noted, still}
use Rattle.journal_wants.proofs.OctetStation.{events_plain}
use Rattle.journal_wants.proofs.TurnBegun.{shut_set}

pub back_all : {X : Type 0} (P : X → Type 0) (xs ys : List X) → AllByRecursion P (xs ++ ys) → AllByRecursion P ys
back_all P [] ys all = all
back_all P (x ∷ xs) ys all = back_all P xs ys all.1

pub front_all : {X : Type 0} (P : X → Type 0) (xs ys : List X) → AllByRecursion P (xs ++ ys) → AllByRecursion P xs
front_all P [] ys all = tt
front_all P (x ∷ xs) ys all = (all.0, front_all P xs ys all.1)

-- ---- what is read of the lines

-- a link has its handle by its number
abbrev pub IsUnderHandle : ℕ → List Event → ℕ → ℕ → Type 0
IsUnderHandle station history number handle = handle_of number (links_open (side_of station) (journal_of history)) ≡ Some handle

-- the link of a note has it by the lines before the note as it is shut, and with its line as it enters an event
abbrev pub IsResolved : ℕ → List Event → Note → Type 0
IsResolved station history (ShutNote handle reason) = IsUnderHandle station history (number_at station handle history) handle
IsResolved station history (EnterNote handle event channel) =
    IsUnderHandle station (history ++ Noted station (EnterNote handle event channel) ∷ []) (number_at station handle history) handle
IsResolved station history note = ⊤

-- what the lines say of a side is equal, but for its radio and what its host has set
pub record IsInSameTurn (before after : Station) : Type 0 where
  pub served : after.served ≡ before.served
  pub on : after.on ≡ before.on
  pub doing : after.doing ≡ before.doing

pub same_turn : (station : Station) → IsInSameTurn station station
same_turn station = record { served = refl; on = refl; doing = refl }

-- as its links end and enter their events
pub record HasEntered (before after : Station) (held : Facts) (wants : List Want) : Type 0 where
  pub set : IsSetAs after held
  pub wants_are : after.wants ≡ before.wants ++ wants
  pub same : IsInSameTurn before after

-- ---- in a run

module _ (words : Words) (setups : Setups) (given : Given) (station : ℕ) (base rest : List Event) (step : Step) (turn : IsInTurn step)
    (in_run : history_of (run_of given) ≡ after_call given station step base ++ rest)
    (resolved : (before more : List Event) (note : Note) → history_of (run_of given) ≡ before ++ Noted station note ∷ more → IsResolved station before note) where
  abbrev side : Side
  side = side_of station

  abbrev facts : Facts
  facts = facts_at given station base

  abbrev notes : List Note
  notes = notes_after (setup_at given station) facts step

  -- the call, up to some of its notes
  abbrev pub now : List Note → List Event
  now earlier = base ++ Called station step ∷ map (Noted station) earlier

  abbrev on_lines : List Event → Station
  on_lines history = at words setups station history

  pub now_more : (earlier more : List Note) → now (earlier ++ more) ≡ now earlier ++ map (Noted station) more
  now_more earlier more =
      ap (λ events. base ++ Called station step ∷ events) (map-append (Noted station) earlier more)
      ∙ sym (append_assoc base (Called station step ∷ map (Noted station) earlier) (map (Noted station) more))

  pub place_is : (earlier later : List Note) (note : Note) → notes ≡ earlier ++ note ∷ later
      → history_of (run_of given) ≡ now earlier ++ Noted station note ∷ (map (Noted station) later ++ rest)
  place_is earlier later note are =
      in_run ∙ ap (λ all. (base ++ Called station step ∷ map (Noted station) all) ++ rest) are
      ∙ ap (λ history. history ++ rest) (now_more earlier (note ∷ later))
      ∙ append_assoc (now earlier) (map (Noted station) (note ∷ later)) rest

  -- plain notes leave it
  pub plain_still : (earlier more later : List Note) → notes ≡ earlier ++ (more ++ later) → ArePlain more → on_lines (now (earlier ++ more)) ≡ on_lines (now earlier)
  plain_still earlier more later are plain =
      let quiet = subst (AllByRecursion (IsQuiet side station)) are (turn_quiet given station step base turn) in
      ap on_lines (now_more earlier more)
      ∙ still words setups station (now earlier) more plain
      (front_all (IsQuiet side station) more later (back_all (IsQuiet side station) earlier (more ++ later) quiet))

  -- ---- links that are due end

  pub ends_set : (view : View) (earlier : List Note) (ended : List LinkEnded) (later : List Note) (held : Facts)
      → notes ≡ earlier ++ (flat_map (notes_ended view) ended ++ later) → IsSetAs (on_lines (now earlier)) held
      → HasEntered (on_lines (now earlier)) (on_lines (now (earlier ++ flat_map (notes_ended view) ended))) (fold facts_shut held ended) []
  ends_set view earlier [] later held are set =
      subst (λ all. HasEntered (on_lines (now earlier)) (on_lines (now all)) held []) (sym (append-nil earlier))
      (record { set = set; wants_are = sym (append-nil (on_lines (now earlier)).wants); same = same_turn (on_lines (now earlier)) })
  ends_set view earlier (one ∷ ended) later held are set =
      let shut = note_shut one.handle one.reason.0 in
      let events = notes_of_events view (DisconnectionComplete 0 one.handle one.reason.0 ∷ []) in
      let others = flat_map (notes_ended view) ended in
      let before = on_lines (now earlier) in
      let first = earlier ++ shut ∷ [] in
      let shut_is : on_lines (now first) ≡ record before { radio = shut_under (Some one.handle) before.radio } =
      ap on_lines (now_more earlier (shut ∷ []))
      ∙ shut_noted words setups station (now earlier) one.handle one.reason.0
      ∙ ap (λ handle. record before { radio = shut_under handle before.radio })
      (resolved (now earlier) (map (Noted station) ((events ++ others) ++ later) ++ rest) shut (place_is earlier ((events ++ others) ++ later) shut are)) in
      let then_are : notes ≡ first ++ (events ++ (others ++ later)) =
      are ∙ ap (λ more. earlier ++ shut ∷ more) (append_assoc events others later)
      ∙ sym (append_assoc earlier (shut ∷ []) (events ++ (others ++ later))) in
      let told = plain_still first events (others ++ later) then_are (events_plain view (DisconnectionComplete 0 one.handle one.reason.0 ∷ [])) in
      let both = told ∙ shut_is in
      let next = ends_set view (first ++ events) ended later (facts_shut held one)
      (then_are ∙ sym (append_assoc first events (others ++ later)))
      (subst (λ s. IsSetAs s (facts_shut held one)) (sym both) (shut_set one before held set)) in
      subst (λ all. HasEntered before (on_lines (now all)) (fold facts_shut (facts_shut held one) ended) [])
      (append_assoc first events others ∙ append_assoc earlier (shut ∷ []) (events ++ others))
      (record {
        set = next.set;
        wants_are = next.wants_are ∙ ap (λ (s : Station). s.wants ++ []) both;
        same = record {
          served = next.same.served ∙ ap (λ (s : Station). s.served) both;
          on = next.same.on ∙ ap (λ (s : Station). s.on) both;
          doing = next.same.doing ∙ ap (λ (s : Station). s.doing) both;
        };
      })
