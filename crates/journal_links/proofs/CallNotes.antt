-- What a side notes of PDUs, events and indications in force on one link, as a turn begins in which the link enters an
-- event.
use Rattle.std.proofs.Common.{◌≡◌, ◌≢◌, ℕ, ◌+◌, ◌<◌, ◌==◌, Bool, true, false, ◌⊎◌, inl, inr, Option, Some, None, List, [], ◌∷◌, ◌++◌, length, map, refl, sym, ap, subst, ◌∙◌, append-nil, arith}
use Rattle.std.specs.Prelude.{All, if◌then◌else◌}
use Rattle.std.specs.List.{AllByRecursion, filter, flat_map}
use Rattle.std.proofs.lemmas.Bool.{eq-eqb, eqb-true}
use Rattle.std.proofs.lemmas.Grind.{flat_map-append}
use Rattle.std.proofs.lemmas.List.Elements.{All-head, All-tail}
use Rattle.ble_base.specs.declared.counters.EventNo.{EventNo}
use Rattle.ble_base.specs.declared.notes.Note.{Note}
use Rattle.ble_base.specs.declared.notes.Note.TheVariants.{Enter, Up}
use Rattle.ble_base.specs.declared.procedure_kinds.Kind.{Kind}
use Rattle.hci_evt.specs.Event.{mask_bit_of, written}
use Rattle.hci_evt.specs.declared.event.Event.{Event}
use Rattle.hci_evt.specs.declared.event.Event.TheVariants.{DisconnectionComplete}
use Rattle.run_laws.specs.link_model.End.{notes_after as end_notes}
use Rattle.run_laws.specs.link_model.Entering.{began_notes, done_notes}
use Rattle.run_laws.specs.link_model.Events.{applied_notes}
use Rattle.run_laws.specs.link_model.Facts.{Facts as EndFacts}
use Rattle.run_laws.specs.link_model.Setup.{Setup as EndSetup}
use Rattle.run_laws.specs.link_model.Step.{EventEntered}
use Rattle.run_laws.specs.open_links.OpenLinks.{HasHandle, HaveHandles, Links, OpenLink, facts_in, link_at, link_from}
use Rattle.run_laws.specs.open_links.Turns.{due_in, enters_in, links_without, notes_entering, notes_if, place_without, staying_by}
use Rattle.run_laws.specs.open_links.declared.ended.LinkEnded.{LinkEnded}
use Rattle.run_laws.proofs.open_links.Ends.{stays_where_not_due}
use Rattle.run_laws.specs.controller_model.Entering.{events_entering, notes_all_entering}
use Rattle.run_laws.specs.controller_model.Events.{notes_of_events, passes}
use Rattle.run_laws.specs.controller_model.Facts.{Setup, Facts}
use Rattle.run_laws.specs.controller_model.Packets.{notes_doing}
use Rattle.run_laws.specs.controller_model.Since.{is_under}
use Rattle.run_laws.specs.controller_model.Links.{ends_for, facts_ending, notes_ended, notes_ending}
use Rattle.run_laws.specs.controller_model.Radio.{outcome_begun}
use Rattle.run_laws.specs.controller_model.Side.{facts_of, notes_after}
use Rattle.run_laws.specs.controller_model.Step.{Step, TurnBegins}
use Rattle.run_laws.proofs.controller_model.Always.{ending_is, facts_ended}
use Rattle.run_laws.proofs.controller_model.Books.{is_not}
use Rattle.run_laws.proofs.controller_model.EndNotes.{entered_each}
use Rattle.run_laws.proofs.controller_model.Handles.{own_handles}
use Rattle.run_laws.proofs.controller_model.LinkNotes.{IsOfOthers, doing_too}
use Rattle.link_changes.proofs.Entries.{is_enter}
use Rattle.journal_links.proofs.SaidLines.{kind_or_none, kind_said, said_under}

none_either : (b : Bool) (notes : List Note) → notes ≡ [] → (if b then notes else []) ≡ []
none_either true notes is = is
none_either false notes is = refl

module _ (handle : ℕ) where
  abbrev pub all_said : List Note → List Note
  all_said notes = flat_map (said_under handle) notes

  said_both : (xs ys : List Note) → all_said (xs ++ ys) ≡ all_said xs ++ all_said ys
  said_both xs ys = flat_map-append (said_under handle) xs ys

  -- ---- packets to the host, and links that are shut

  mapped_none : {X : Type 0} (f : X → Note) → ((x : X) → said_under handle (f x) ≡ []) → (xs : List X) → all_said (map f xs) ≡ []
  mapped_none f none [] = refl
  mapped_none f none (x ∷ xs) = λ i. none x i ++ mapped_none f none xs i

  events_none : (facts : Facts) (events : List Event) → all_said (notes_of_events facts.view events) ≡ []
  events_none facts events =
      mapped_none (λ event. Up (record { items = written event })) (λ event. refl) (filter (λ event. passes facts.view (mask_bit_of event)) events)

  ended_none : (facts : Facts) (ended : List LinkEnded) → all_said (flat_map (notes_ended facts.view) ended) ≡ []
  ended_none facts [] = refl
  ended_none facts (one ∷ ended) =
      said_both (notes_ended facts.view one) (flat_map (notes_ended facts.view) ended)
      ∙ (λ i. (none_either (one.handle == handle) [] refl i ++ events_none facts (DisconnectionComplete 0 one.handle one.reason.0 ∷ []) i) ++ ended_none facts ended i)

  -- ---- links that enter their events

  each_none : (notes : List Note) → AllByRecursion (λ note. said_under handle note ≡ []) notes → all_said notes ≡ []
  each_none [] are = refl
  each_none (note ∷ notes) are = λ i. are.0 i ++ each_none notes are.1 i

  apart : (own : ℕ) (notes : List Note) → own ≢ handle → (if own == handle then notes else []) ≡ []
  apart own notes differs = ap (λ (b : Bool). if b then notes else []) (is_not own handle differs)

  entered_none : (setup : EndSetup) (facts : EndFacts) (slot : ℕ) → setup.link.handle ≢ handle → all_said (end_notes setup facts (EventEntered slot)) ≡ []
  entered_none setup facts slot differs =
      each_none (end_notes setup facts (EventEntered slot))
      (entered_each (λ note. said_under handle note ≡ []) setup slot facts (record {
        applied = λ number. apart setup.link.handle _ differs;
        enter = apart setup.link.handle _ differs;
        done = λ kind. apart setup.link.handle _ differs;
        began = λ kind. apart setup.link.handle _ differs;
      }))

  place_none : (slot first : ℕ) (place : Option OpenLink) → HasHandle first place → first ≢ handle → all_said (notes_entering slot place) ≡ []
  place_none slot first None has differs = refl
  place_none slot first (Some link) has differs = by (enters_in slot link)
    where
      by : (enters : Bool) → all_said (notes_if enters slot link) ≡ []
      by true = entered_none link.setup (facts_in link) slot (λ same. differs (sym has ∙ same))
      by false = refl

  -- what a place adds, with what its host hears
  place_said : (facts : Facts) (slot first : ℕ) (place : Option OpenLink) (rest : List Note)
      → all_said (notes_entering slot place ++ notes_of_events facts.view (events_entering slot first place) ++ rest) ≡ all_said (notes_entering slot place) ++ all_said rest
  place_said facts slot first place rest =
      let events = notes_of_events facts.view (events_entering slot first place) in
      said_both (notes_entering slot place ++ events) rest
      ∙ ap (λ xs. xs ++ all_said rest) (said_both (notes_entering slot place) events ∙ ap (λ xs. all_said (notes_entering slot place) ++ xs) (events_none facts (events_entering slot first place))
      ∙ append-nil (all_said (notes_entering slot place)))

  others_none : (facts : Facts) (slot first : ℕ) (links : Links) → handle < first → HaveHandles first links → all_said (notes_all_entering facts.view slot first links) ≡ []
  others_none facts slot first [] past have = refl
  others_none facts slot first (place ∷ links) past have =
      place_said facts slot first place (notes_all_entering facts.view slot (first + 1) links)
      ∙ (λ i. place_none slot first place have.0 (λ same. absurd (omega (arith, past, same))) i
      ++ others_none facts slot (first + 1) links (omega (arith, past)) have.1 i)

  entering_said : (facts : Facts) (slot first : ℕ) (links : Links) (link : OpenLink) → HaveHandles first links → link_from first handle links ≡ Some link
      → all_said (notes_all_entering facts.view slot first links) ≡ all_said (notes_entering slot (Some link))
  entering_said facts slot first [] link have is = absurd (cc)
  entering_said facts slot first (place ∷ links) link have is =
      by (first == handle) refl is (λ found. entering_said facts slot (first + 1) links link have.1 found)
    where
      by : (here : Bool) → (first == handle) ≡ here → (if here then place else link_from (first + 1) handle links) ≡ Some link
          → (link_from (first + 1) handle links ≡ Some link → all_said (notes_all_entering facts.view slot (first + 1) links) ≡ all_said (notes_entering slot (Some link)))
          → all_said (notes_entering slot place ++ notes_of_events facts.view (events_entering slot first place) ++ notes_all_entering facts.view slot (first + 1) links)
          ≡ all_said (notes_entering slot (Some link))
      by true same found later =
          let equal = eqb-true first handle same in
          place_said facts slot first place (notes_all_entering facts.view slot (first + 1) links)
          ∙ ap (λ xs. all_said (notes_entering slot place) ++ xs) (others_none facts slot (first + 1) links (omega (arith, equal)) have.1)
          ∙ append-nil (all_said (notes_entering slot place)) ∙ ap (λ one. all_said (notes_entering slot one)) found
      by false same found later =
          place_said facts slot first place (notes_all_entering facts.view slot (first + 1) links)
          ∙ ap (λ xs. xs ++ all_said (notes_all_entering facts.view slot (first + 1) links))
          (place_none slot first place have.0 (λ equal. absurd (let no : true ≡ false = sym (eq-eqb first handle equal) ∙ same in cc)))
          ∙ later found

  -- ---- what its end notes

  pub own_said : (own channel : ℕ) (event : EventNo) (applied : Option ℕ) (done began : Option Kind) → (own == handle) ≡ true
      → all_said (applied_notes own event.0 applied ++ Enter own event channel ∷ (done_notes own done ++ began_notes own began))
      ≡ applied_notes own event.0 applied ++ Enter own event channel ∷ []
  own_said own channel event None None None is = rw is refl
  own_said own channel event None None (Some kind) is = rw is refl
  own_said own channel event None (Some kind) None is = rw is refl
  own_said own channel event None (Some kind) (Some other) is = rw is refl
  own_said own channel event (Some number) None None is = rw is refl
  own_said own channel event (Some number) None (Some kind) is = rw is refl
  own_said own channel event (Some number) (Some kind) None is = rw is refl
  own_said own channel event (Some number) (Some kind) (Some other) is = rw is refl

  -- ---- what is done then enters no event

  abbrev IsNoEntry : Note → Type 0
  IsNoEntry note = is_enter note ≡ false

  others_let : IsOfOthers IsNoEntry
  others_let = record { up = λ octets. refl; opened = λ link. refl; sent = λ handle number llid octets. refl; took = λ handle number llid octets. refl }

  no_entry : (notes : List Note) → All IsNoEntry notes → length (filter is_enter (all_said notes)) ≡ 0
  no_entry [] all = refl
  no_entry (note ∷ notes) all = by (is_under handle note) (kind_or_none note) (no_entry notes (All-tail IsNoEntry note notes all))
    where
      by : (under : Bool) → (kind_said note ≡ []) ⊎ (kind_said note ≡ note ∷ []) → length (filter is_enter (all_said notes)) ≡ 0
          → length (filter is_enter ((if under then kind_said note else []) ++ all_said notes)) ≡ 0
      by false kind later = later
      by true (inl is) later = ap (λ xs. length (filter is_enter (xs ++ all_said notes))) is ∙ later
      by true (inr is) later =
          ap (λ xs. length (filter is_enter (xs ++ all_said notes))) is
          ∙ ap (λ b. length (if b then note ∷ filter is_enter (all_said notes) else filter is_enter (all_said notes))) (All-head IsNoEntry note notes all)
          ∙ later

  -- ---- the call

  handles_without : (slot first : ℕ) (links : Links) → HaveHandles first links → HaveHandles first (links_without (due_in slot) links)
  handles_without slot first [] have = tt
  handles_without slot first (None ∷ links) have = (tt, handles_without slot (first + 1) links have.1)
  handles_without slot first (Some link ∷ links) have = (by (due_in slot link), handles_without slot (first + 1) links have.1)
    where
      by : (reason : Option ℕ) → HasHandle first (staying_by reason link)
      by None = have.0
      by (Some code) = tt

  pub record IsCallOf (notes entry : List Note) : Type 0 where
    pub rest : List Note
    pub is : all_said notes ≡ all_said entry ++ rest
    pub no_entry : length (filter is_enter rest) ≡ 0

  pub call_said : (setup : Setup) (past : List Step) (slot : ℕ) (on : Bool) (link : OpenLink) → link_at handle (facts_of setup past).links ≡ Some link
      → due_in slot link ≡ None → enters_in slot link ≡ true
      → IsCallOf (notes_after setup (facts_of setup past) (TurnBegins slot on)) (end_notes link.setup (facts_in link) (EventEntered slot))
  call_said setup past slot on link is_open stays enters =
      let facts = facts_of setup past in
      let ends = notes_ending slot facts in
      let ended = facts_ending slot facts in
      let entering = notes_all_entering ended.view slot 0 ended.links in
      let doing = notes_doing (outcome_begun slot on facts).next (outcome_begun slot on facts).facts in
      let open_then : link_at handle (links_without (due_in slot) facts.links) ≡ Some link =
      stays_where_not_due (due_in slot) 0 handle facts.links ∙ ap (place_without (due_in slot)) is_open ∙ ap (λ (reason : Option ℕ). staying_by reason link) stays in
      let entered : all_said entering ≡ all_said (notes_entering slot (Some link)) =
      subst (λ (next : Facts). all_said (notes_all_entering next.view slot 0 next.links) ≡ all_said (notes_entering slot (Some link))) (sym (ending_is slot facts))
      (entering_said (facts_ended (due_in slot) facts) slot 0 (links_without (due_in slot) facts.links) link (handles_without slot 0 facts.links (own_handles setup past).handles) open_then) in
      record {
        rest = all_said doing;
        is = said_both (ends ++ entering) doing
            ∙ ap (λ xs. xs ++ all_said doing)
            (said_both ends entering ∙ (λ i. ended_none facts (ends_for (due_in slot) facts) i ++ entered i)
            ∙ ap (λ (b : Bool). all_said (notes_if b slot link)) enters);
        no_entry = no_entry doing (doing_too IsNoEntry others_let (outcome_begun slot on facts).next (outcome_begun slot on facts).facts);
      }
