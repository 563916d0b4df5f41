-- The view of a controller knows the end of the link under a handle after each part of a turn.
use Rattle.std.proofs.Common.{◌≡◌, ◌≢◌, ℕ, ◌+◌, ◌<◌, ◌==◌, Bool, true, false, Option, Some, None, Ok, Err, List, [], ◌∷◌, ◌++◌, length, map, cond, refl, ap, sym, subst, ◌∙◌, append_assoc, arith}
use Rattle.std.specs.Prelude.{IfSome, ◌&&◌, filter, fold, nat_lt, if◌then◌else◌, ⊤}
use Rattle.std.specs.Option.{option_map, option_to_list}
use Rattle.std.proofs.lemmas.Bool.{eq-eqb, eqb-true}
use Rattle.std.proofs.lemmas.List.{get_or-set_other}
use Rattle.std.proofs.lemmas.List.Sums.{fold-append}
use Rattle.ble_base.specs.ErrorCodes.{unsupported_remote_feature}
use Rattle.ble_base.specs.declared.error_codes.ErrCode.{ErrCode}
use Rattle.ble_base.specs.declared.roles.Role.{Role}
use Rattle.ble_base.specs.declared.roles.Role.TheVariants.{Central, Peripheral}
use Rattle.ble_base.specs.declared.notes.Note.{Note}
use Rattle.ble_base.specs.declared.notes.Note.TheVariants.{Up}
use Rattle.hci_evt.specs.declared.event.Event.{Event}
use Rattle.hci_evt.specs.declared.event.Event.TheVariants.{ParamRequest}
use Rattle.hci_evt.specs.Event.{mask_bit_of, written}
use Rattle.procedure_events.specs.procedure_stages.declared.steps.Effect.{Effect}
use Rattle.procedure_events.specs.procedure_stages.declared.steps.Effect.TheVariants.{AskHost, Nothing}
use Rattle.procedure_events.specs.procedure_stages.Steps.{asks_host}
use Rattle.procedure_events.specs.Events.{event_of_effect}
use Rattle.procedure_events.specs.Calls.{event_if_done, event_if_refused}
use Rattle.host_view.specs.View.{View}
use Rattle.host_view.specs.Links.{link_in, was_encrypted}
use Rattle.host_view.specs.Noted.{view_noted}
use Rattle.host_view.specs.scan_init.Reports.{does_ask, scan_answer}
use Rattle.slot_plan.specs.declared.Activity.{Activity}
use Rattle.slot_plan.specs.declared.Activity.TheVariants.{Link, Advertise, Scan, Initiate}
use Rattle.link_model.specs.declared.setup.LinkSetup.{LinkSetup}
use Rattle.link_model.specs.End.{facts_after as end_after, facts_of as end_facts_of, notes_after as end_notes}
use Rattle.link_model.specs.Facts.{Facts as EndFacts, params_of}
use Rattle.link_model.specs.Receiving.{effect_of, kept_effect_of}
use Rattle.link_model.specs.Setup.{Setup as EndSetup}
use Rattle.link_model.specs.Sending.{sent_notes_if}
use Rattle.link_model.specs.Controls.{pdu_fixed}
use Rattle.link_model.specs.Acknowledgement.{Pdu}
use Rattle.link_model.specs.Step.{Step as EndStep, DataGiven, EventEntered, KeyAnswered, PduFixed, PacketSent, PacketReceived, RequestAnswered, DataReported, WordsGiven}
use Rattle.link_model.proofs.Pasts.{grows}
use Rattle.link_model.proofs.KnownEnds.{IsPast}
use Rattle.controller_model.specs.link_end.Answers.{acked_of, given_of, kept_given_of}
use Rattle.controller_model.specs.open_links.Data.{complete_in, link_reported, received_past}
use Rattle.controller_model.specs.open_links.OpenLinks.{Links, OpenLink, HasHandle, HaveHandles, facts_in, link_after, link_at, link_from, link_served, new_link, with_change, with_link}
use Rattle.controller_model.specs.open_links.Ended.{end_by}
use Rattle.controller_model.specs.open_links.Turns.{ending_in, ends_by, entered_if, enters_in, link_entered, notes_entering, notes_if, place_without, staying_by}
use Rattle.controller_model.proofs.open_links.Ends.{stays_where_not_due}
use Rattle.controller_model.proofs.open_links.UnderHandles.{map_at}
use Rattle.controller_model.proofs.open_links.Handles.{changed_is, has_its_handle, opened_at, other_stays}
use Rattle.host_asks.proofs.OpenLinksGoing.{known_still}
use Rattle.host_asks.proofs.OpenLinksKnown.{IsKnownAt}
use Rattle.host_asks.specs.Noting.{effect_after, is_of_host, or_request}
use Rattle.host_asks.specs.Views.{KnowsAt, KnowsOnceReported}
use Rattle.host_asks.proofs.EndsViewed.{key_lacked_at_once, none_reported, packet_known, request_refused_at_once, request_reported, step_known}
use Rattle.host_asks.proofs.Lasting.{lasted}
use Rattle.host_asks.proofs.LinksViewed.{notes_of_step, notes_other, opened_known}
use Rattle.controller_model.specs.declared.doing.Doing.{Doing}
use Rattle.controller_model.specs.declared.doing.Doing.TheVariants.{Advertises, CentralSends, PeripheralListens, PeripheralSends}
use Rattle.controller_model.specs.Step.{Step, HostOctet, TurnBegins, PacketHeard, NothingHeard, TurnEnds}
use Rattle.controller_model.specs.Facts.{Setup, Facts}
use Rattle.controller_model.specs.Data.{acl_packet, facts_ended_turn, facts_handed, notes_pieces, pieces_handed}
use Rattle.controller_model.specs.Entering.{events_entering, notes_all_entering}
use Rattle.controller_model.specs.Events.{notes_of_events, passes}
use Rattle.controller_model.specs.Heard.{answer_unless, notes_received, facts_connecting, facts_with_words, asks_if, events_received, has_room, link_heard, link_received, link_taken, notes_taken, opens, or_refusal, refusal_in, refusal_of, replies_in, reply_if, scanner_after, with_scanner}
use Rattle.controller_model.specs.Links.{note_opened, note_shut, stopped}
use Rattle.controller_model.specs.Outcome.{facts_passed}
use Rattle.controller_model.specs.Packets.{facts_doing}
use Rattle.controller_model.specs.Radio.{facts_entering, links_fixing, outcome_begun}
use Rattle.controller_model.specs.Side.{facts_after}
use Rattle.controller_model.proofs.Always.{IsInTurn, facts_ended, facts_given, leaving_is, left_doing, links_won, view_shut}
use Rattle.controller_model.proofs.Books.{by_handle}
use Rattle.controller_model.proofs.Following.{entering_is}
use Rattle.controller_model.proofs.Handles.{HaveOwnHandles, IsNew, free_is_new, handles_kept, mapped_opens, reported_same, words_own}
use Rattle.controller_model.proofs.Phases.{EachOutcome, heard_is, unheard_is}
use Rattle.controller_model.proofs.Places.{at_changed, at_received, link_receiving, receiving_is, refused_if}
use Rattle.known_ends.proofs.Refusals.{IsRefusal, asks_key, none_refused, refusals_are}
use Rattle.known_ends.proofs.RequestsApart.{requests_apart}

-- ---- the view after notes

abbrev follow : View → List Note → View
follow view notes = fold view_noted view notes

shut_stays : (view : View) (handle other : ℕ) (reason : ℕ) → (other ≡ handle → ⊥)
    → link_in (view_noted view (note_shut handle reason)).links other ≡ link_in view.links other
unfolding view_noted
shut_stays view handle other reason differs = get_or-set_other view.links handle other None None differs

opened_stays : (view : View) (link : LinkSetup) (other : ℕ) → (other ≡ link.handle → ⊥)
    → link_in (view_noted view (note_opened link)).links other ≡ link_in view.links other
unfolding view_noted
opened_stays view link other differs = get_or-set_other view.links link.handle other _ None differs

facts_grow : (link : OpenLink) (step : EndStep) → facts_in (link_after step link) ≡ end_after link.setup (facts_in link) step
facts_grow link step = grows link.setup link.past step

link_past : (link : OpenLink) → IsPast link.setup (facts_in link)
link_past link = record { past = link.past; is = refl }

-- packets to the host leave what is known once an event is received
abbrev event_note : Event → Note
event_note event = Up (record { items = written event })

abbrev passing : View → List Event → List Event
passing masks events = filter (λ event. passes masks (mask_bit_of event)) events

packets_known : (effect : Effect) (masks view : View) (events : List Event) (handle : ℕ) (facts : EndFacts) → KnowsOnceReported effect view handle facts
    → KnowsOnceReported effect (follow view (notes_of_events masks events)) handle facts
packets_known effect masks view [] handle facts known = known
packets_known effect masks view (event ∷ events) handle facts known =
    by (passes masks (mask_bit_of event))
    (packets_known effect masks (view_noted view (event_note event)) events handle facts (packet_known effect view (written event) handle facts known))
    (packets_known effect masks view events handle facts known)
  where
    by : (pass : Bool) → KnowsOnceReported effect (follow (view_noted view (event_note event)) (notes_of_events masks events)) handle facts
        → KnowsOnceReported effect (follow view (notes_of_events masks events)) handle facts
        → KnowsOnceReported effect (follow view (map event_note (if pass then event ∷ passing masks events else passing masks events))) handle facts
    by true one none = one
    by false one none = none

-- events one after another
events_append : (masks : View) (first more : List Event) → notes_of_events masks (first ++ more) ≡ notes_of_events masks first ++ notes_of_events masks more
events_append masks [] more = refl
events_append masks (event ∷ first) more = by (passes masks (mask_bit_of event)) (events_append masks first more)
  where
    by : (pass : Bool) → notes_of_events masks (first ++ more) ≡ notes_of_events masks first ++ notes_of_events masks more
        → map event_note (if pass then event ∷ passing masks (first ++ more) else passing masks (first ++ more))
        ≡ map event_note (if pass then event ∷ passing masks first else passing masks first) ++ notes_of_events masks more
    by true rest = ap (λ (notes : List Note). event_note event ∷ notes) rest
    by false rest = rest

-- ---- one handle

module _ (handle : ℕ) where
  -- what the view knows of the link that may be under it
  abbrev pub Known : Option OpenLink → View → Type 0
  Known None view = ⊤
  Known (Some link) view = (link.setup.link.handle ≡ handle) × ((facts_in link).control.ends ≡ None → KnowsAt view handle (facts_in link))

  abbrev KnownAfter : Option OpenLink → View → List Note → Type 0
  KnownAfter place view notes = Known place (follow view notes)

  and_then : (place : Option OpenLink) (view : View) (xs ys : List Note) → KnownAfter place (follow view xs) ys → KnownAfter place view (xs ++ ys)
  and_then place view xs ys is = subst (Known place) (sym (fold-append view_noted view xs ys)) is

  kept : (place : Option OpenLink) (before after : View) → ((facts : EndFacts) → KnowsAt before handle facts → KnowsAt after handle facts) → Known place before → Known place after
  kept None before after keeps is = tt
  kept (Some link) before after keeps is = (is.0, λ lasts. keeps (facts_in link) (is.1 lasts))

  packets : (place : Option OpenLink) (masks view : View) (events : List Event) → Known place view → KnownAfter place view (notes_of_events masks events)
  packets place masks view events is = kept place view _ (λ facts known. packets_known Nothing masks view events handle facts known) is

  -- packets of data
  data_packets : {A : Type 0} (packet : A → List ℕ) (place : Option OpenLink) (view : View) (pieces : List A) → Known place view
      → KnownAfter place view (map (λ piece. Up (record { items = packet piece })) pieces)
  data_packets packet place view [] is = is
  data_packets packet place view (piece ∷ pieces) is =
      data_packets packet place (view_noted view (Up (record { items = packet piece }))) pieces
      (kept place view _ (λ facts known. packet_known Nothing view (packet piece) handle facts known) is)

  -- the notes of another end, and a link under another handle that is shut or opened
  others : (place : Option OpenLink) (view : View) (setup : EndSetup) (facts : EndFacts) (step : EndStep) → setup.link.handle ≢ handle → Known place view
      → KnownAfter place view (end_notes setup facts step)
  others place view setup facts step differs is =
      kept place view _
      (λ own known.
      known_still view _ handle own (notes_other setup.link.handle handle view (end_notes setup facts step) (notes_of_step setup facts step) (λ same. differs (sym same))) known) is

  shut_other : (place : Option OpenLink) (view : View) (other reason : ℕ) → other ≢ handle → Known place view → Known place (view_noted view (note_shut other reason))
  shut_other place view other reason differs is =
      kept place view _ (λ own known. known_still view _ handle own (shut_stays view other handle reason (λ same. differs (sym same))) known) is

  -- ---- a step of the link, by what is left for its host

  module _ (step : EndStep) (other : is_of_host step ≡ false) where
    reported : (link : OpenLink) (view : View) → Known (Some link) view → (facts_in (link_after step link)).control.ends ≡ None
        → KnowsOnceReported (effect_after link.setup (facts_in link) step) (follow view (end_notes link.setup (facts_in link) step)) handle (facts_in (link_after step link))
    reported link view is lasts =
        let goes : (end_after link.setup (facts_in link) step).control.ends ≡ None = ap (λ (f : EndFacts). f.control.ends) (sym (facts_grow link step)) ∙ lasts in
        let before = subst (λ (h : ℕ). KnowsAt view h (facts_in link)) (sym is.0) (is.1 (lasted link.setup (facts_in link) step (link_past link) goes)) in
        let effect = effect_after link.setup (facts_in link) step in
        let noted = follow view (end_notes link.setup (facts_in link) step) in
        subst (λ (f : EndFacts). KnowsOnceReported effect noted handle f) (sym (facts_grow link step))
        (subst (λ (h : ℕ). KnowsOnceReported effect noted h (end_after link.setup (facts_in link) step)) is.0
        (step_known view link.setup (facts_in link) step (link_past link) other before goes))

    module _ (silent : (setup : EndSetup) (facts : EndFacts) → asks_host (effect_after setup facts step) ≡ false) where
      stepped : (link : OpenLink) (view : View) → Known (Some link) view → KnownAfter (Some (link_after step link)) view (end_notes link.setup (facts_in link) step)
      stepped link view is =
          (is.0, λ lasts. none_reported (effect_after link.setup (facts_in link) step) _ handle _ (silent link.setup (facts_in link)) (reported link view is lasts))

      -- one whose notes leave the view
      unnoted : (place : Option OpenLink) (view : View) → ((setup : EndSetup) (facts : EndFacts) → follow view (end_notes setup facts step) ≡ view) → Known place view
          → Known (option_map (link_after step) place) view
      unnoted None view leaves is = is
      unnoted (Some link) view leaves is =
          subst (λ (seen : View). Known (Some (link_after step link)) seen) (leaves link.setup (facts_in link)) (stepped link view is)

      unnoted_at : (given : ℕ) (links : Links) (view : View) → ((setup : EndSetup) (facts : EndFacts) → follow view (end_notes setup facts step) ≡ view)
          → Known (link_at handle links) view → Known (link_at handle (with_change given (link_after step) links)) view
      unnoted_at given links view leaves is =
          at_changed (λ place. Known place view) given handle (link_after step) links is (λ same. unnoted (link_at handle links) view leaves is)

  served : (slot : ℕ) (place : Option OpenLink) (view : View) → Known place view → Known (option_map (link_served slot) place) view
  served slot None view is = is
  served slot (Some link) view is = is

  -- ---- a change of all links, with what is noted of each, by ascending handle

  abbrev notes_from_places : (ℕ → Option OpenLink → List Note) → ℕ → Links → List Note
  notes_from_places noted first [] = []
  notes_from_places noted first (place ∷ links) = noted first place ++ notes_from_places noted (first + 1) links

  record GoTogether (change : Option OpenLink → Option OpenLink) (noted : ℕ → Option OpenLink → List Note) : Type 0 where
    none : change None ≡ None
    apart : (first : ℕ) (place : Option OpenLink) → HasHandle first place → first ≢ handle → (own : Option OpenLink) (view : View) → Known own view
        → KnownAfter own view (noted first place)
    here : (place : Option OpenLink) (view : View) → Known place view → KnownAfter (change place) view (noted handle place)

  module _ (change : Option OpenLink → Option OpenLink) (noted : ℕ → Option OpenLink → List Note) (go : GoTogether change noted) where
    past_known : (first : ℕ) (links : Links) → handle < first → HaveHandles first links → (own : Option OpenLink) (view : View) → Known own view
        → KnownAfter own view (notes_from_places noted first links)
    past_known first [] past have own view is = is
    past_known first (place ∷ links) past have own view is =
        and_then own view (noted first place) (notes_from_places noted (first + 1) links)
        (past_known (first + 1) links (omega (arith, past)) have.1 own (follow view (noted first place))
        (go.apart first place have.0 (λ same. absurd (omega (arith, past, same))) own view is))

    places_known : (first : ℕ) (links : Links) (view : View) → HaveHandles first links → Known (link_from first handle links) view
        → KnownAfter (change (link_from first handle links)) view (notes_from_places noted first links)
    places_known first [] view have is = subst (λ place. Known place view) (sym go.none) tt
    places_known first (place ∷ links) view have is = by (first == handle) refl (λ seen. places_known (first + 1) links seen have.1) is
      where
        by : (here : Bool) → (first == handle) ≡ here
            → ((seen : View) → Known (link_from (first + 1) handle links) seen → KnownAfter (change (link_from (first + 1) handle links)) seen (notes_from_places noted (first + 1) links))
            → Known (cond here place (link_from (first + 1) handle links)) view
            → KnownAfter (change (cond here place (link_from (first + 1) handle links))) view (noted first place ++ notes_from_places noted (first + 1) links)
        by true e rest is =
            let same = eqb-true first handle e in
            and_then (change place) view (noted first place) (notes_from_places noted (first + 1) links)
            (past_known (first + 1) links (omega (arith, same)) have.1 (change place) (follow view (noted first place))
            (subst (λ n. KnownAfter (change place) view (noted n place)) (sym same) (go.here place view is)))
        by false e rest is =
            let differs : first ≢ handle = λ same. absurd (let h : true ≡ false = sym (eq-eqb first handle same) ∙ e in absurd cc) in
            let after = change (link_from (first + 1) handle links) in
            and_then after view (noted first place) (notes_from_places noted (first + 1) links)
            (rest (follow view (noted first place)) (go.apart first place have.0 differs (link_from (first + 1) handle links) view is))

  -- links end
  abbrev shut_by : ℕ → Option ℕ → List Note
  shut_by first None = []
  shut_by first (Some code) = note_shut first code ∷ []

  abbrev shut_notes : (OpenLink → Option ℕ) → ℕ → Option OpenLink → List Note
  shut_notes reason first None = []
  shut_notes reason first (Some link) = shut_by first (reason link)

  ends_together : (reason : OpenLink → Option ℕ) → GoTogether (place_without reason) (shut_notes reason)
  ends_together reason = record { none = refl; apart = apart; here = here }
    where
      by_end : (first : ℕ) (why : Option ℕ) → first ≢ handle → (own : Option OpenLink) (view : View) → Known own view → KnownAfter own view (shut_by first why)
      by_end first None differs own view is = is
      by_end first (Some code) differs own view is = shut_other own view first code differs is

      apart : (first : ℕ) (place : Option OpenLink) → HasHandle first place → first ≢ handle → (own : Option OpenLink) (view : View) → Known own view
          → KnownAfter own view (shut_notes reason first place)
      apart first None has differs own view is = is
      apart first (Some link) has differs own view is = by_end first (reason link) differs own view is

      here_by : (why : Option ℕ) (link : OpenLink) (view : View) → Known (Some link) view → KnownAfter (staying_by why link) view (shut_by handle why)
      here_by None link view is = is
      here_by (Some code) link view is = tt

      here : (place : Option OpenLink) (view : View) → Known place view → KnownAfter (place_without reason place) view (shut_notes reason handle place)
      here None view is = is
      here (Some link) view is = here_by (reason link) link view is

  ended_is : (reason : OpenLink → Option ℕ) (first : ℕ) (links : Links) (view : View)
      → follow view (notes_from_places (shut_notes reason) first links) ≡ view_shut view (ends_by reason first links)
  unfolding view_noted
  ended_is reason first [] view = refl
  ended_is reason first (None ∷ links) view = ended_is reason (first + 1) links view
  ended_is reason first (Some link ∷ links) view = by (reason link) (ended_is reason (first + 1) links)
    where
      by : (why : Option ℕ) → ((view : View) → follow view (notes_from_places (shut_notes reason) (first + 1) links) ≡ view_shut view (ends_by reason (first + 1) links))
          → follow view (shut_by first why ++ notes_from_places (shut_notes reason) (first + 1) links) ≡ view_shut view (end_by first why ++ ends_by reason (first + 1) links)
      by None rest = rest view
      by (Some code) rest = rest (view_noted view (note_shut first code))

  ends_known : (reason : OpenLink → Option ℕ) (facts : Facts) → HaveHandles 0 facts.links → Known (link_at handle facts.links) facts.view
      → Known (link_at handle (facts_ended reason facts).links) (facts_ended reason facts).view
  ends_known reason facts have is =
      subst (λ place. Known place (facts_ended reason facts).view) (sym (stays_where_not_due reason 0 handle facts.links))
      (subst (Known (place_without reason (link_at handle facts.links))) (ended_is reason 0 facts.links facts.view)
      (places_known (place_without reason) (shut_notes reason) (ends_together reason) 0 facts.links facts.view have is))

  -- links enter their events
  abbrev entered_notes : View → ℕ → ℕ → Option OpenLink → List Note
  entered_notes masks slot first place = notes_entering slot place ++ notes_of_events masks (events_entering slot first place)

  enters_together : (masks : View) (slot : ℕ) → GoTogether (option_map (link_entered slot)) (entered_notes masks slot)
  enters_together masks slot = record { none = refl; apart = apart; here = here }
    where
      apart_if : (enters : Bool) (link : OpenLink) → link.setup.link.handle ≢ handle → (own : Option OpenLink) (view : View) → Known own view
          → KnownAfter own view (notes_if enters slot link)
      apart_if true link differs own view is = others own view link.setup (facts_in link) (EventEntered slot) differs is
      apart_if false link differs own view is = is

      place_apart : (first : ℕ) (place : Option OpenLink) → HasHandle first place → first ≢ handle → (own : Option OpenLink) (view : View) → Known own view
          → KnownAfter own view (notes_entering slot place)
      place_apart first None has differs own view is = is
      place_apart first (Some link) has differs own view is = apart_if (enters_in slot link) link (λ same. differs (sym has ∙ same)) own view is

      apart : (first : ℕ) (place : Option OpenLink) → HasHandle first place → first ≢ handle → (own : Option OpenLink) (view : View) → Known own view
          → KnownAfter own view (entered_notes masks slot first place)
      apart first place has differs own view is =
          let entering = notes_entering slot place in
          let events = events_entering slot first place in
          and_then own view entering (notes_of_events masks events)
          (packets own masks (follow view entering) events (place_apart first place has differs own view is))

      here_if : (enters : Bool) (link : OpenLink) (view : View) → Known (Some link) view → KnownAfter (Some (entered_if enters slot link)) view (notes_if enters slot link)
      here_if true link view is = stepped (EventEntered slot) refl (λ setup facts. refl) link view is
      here_if false link view is = is

      place_here : (place : Option OpenLink) (view : View) → Known place view → KnownAfter (option_map (link_entered slot) place) view (notes_entering slot place)
      place_here None view is = is
      place_here (Some link) view is = here_if (enters_in slot link) link view is

      here : (place : Option OpenLink) (view : View) → Known place view → KnownAfter (option_map (link_entered slot) place) view (entered_notes masks slot handle place)
      here place view is =
          let after = option_map (link_entered slot) place in
          let entering = notes_entering slot place in
          let events = events_entering slot handle place in
          and_then after view entering (notes_of_events masks events) (packets after masks (follow view entering) events (place_here place view is))

  entered_are : (masks : View) (slot first : ℕ) (links : Links) → notes_from_places (entered_notes masks slot) first links ≡ notes_all_entering masks slot first links
  entered_are masks slot first [] = refl
  entered_are masks slot first (place ∷ links) =
      ap (λ xs. entered_notes masks slot first place ++ xs) (entered_are masks slot (first + 1) links)

  entering_known : (slot : ℕ) (facts : Facts) → HaveHandles 0 facts.links → Known (link_at handle facts.links) facts.view
      → Known (link_at handle (facts_entering slot facts).links) (facts_entering slot facts).view
  entering_known slot facts have is =
      subst (λ place. Known place (facts_entering slot facts).view) (sym (map_at (option_map (link_entered slot)) 0 handle facts.links refl))
      (subst (KnownAfter (option_map (link_entered slot) (link_at handle facts.links)) facts.view) (entered_are facts.view slot 0 facts.links)
      (places_known (option_map (link_entered slot)) (entered_notes facts.view slot) (enters_together facts.view slot) 0 facts.links facts.view have is))

  -- ---- a link is opened

  opened_view_known : (setup : EndSetup) (links : Links) (view : View) → setup.link.handle < length links → (setup.link.handle ≡ handle → setup.link.handle < length view.links)
      → Known (link_at handle links) view → Known (link_at handle (with_link setup links)) (view_noted view (note_opened setup.link))
  unfolding end_facts_of
  opened_view_known setup links view within viewed is =
      let own = setup.link.handle in
      by_handle own handle
      (λ same.
      subst (λ place. Known place (view_noted view (note_opened setup.link)))
      (sym (subst (λ n. link_at n (with_link setup links) ≡ Some (new_link setup)) same (opened_at setup links within))) (
        same,
        λ lasts.
            subst (λ (h : ℕ). KnowsAt (view_noted view (note_opened setup.link)) h (facts_in (new_link setup))) same (opened_known view setup setup.link.own setup.link.peer (viewed same)),
      ))
      (λ differs.
      subst (λ place. Known place (view_noted view (note_opened setup.link))) (sym (other_stays (λ place. Some (new_link setup)) 0 own handle links (λ e. differs (sym e))))
      (kept (link_at handle links) view _
      (λ facts known. known_still view _ handle facts (opened_stays view setup.link handle (λ e. differs (sym e))) known) is))

  -- ---- what is done next

  fixing_known : (doing : Doing) (links : Links) (view : View) → Known (link_at handle links) view → Known (link_at handle (links_fixing doing links)) view
  fixing_known (CentralSends given) links view is = unnoted_at PduFixed refl (λ setup facts. refl) given links view (λ setup facts. refl) is
  fixing_known (PeripheralListens given) links view is = unnoted_at PduFixed refl (λ setup facts. refl) given links view (λ setup facts. refl) is
  fixing_known (Advertises channel) links view is = is
  fixing_known other links view is = is

  -- the notes of a packet that is sent leave the view
  sent_leaves : (noted : Bool) (own number : ℕ) (pdu : Pdu) (view : View) → follow view (sent_notes_if noted own number pdu) ≡ view
  unfolding view_noted
  sent_leaves true own number pdu view = refl
  sent_leaves false own number pdu view = refl

  sent_at : (slot given : ℕ) (links : Links) (view : View) → Known (link_at handle links) view
      → Known (link_at handle (with_change given (link_after (PacketSent slot)) links)) view
  sent_at slot given links view is =
      unnoted_at (PacketSent slot) refl (λ setup facts. refl) given links view (λ setup facts. sent_leaves _ setup.link.handle _ (pdu_fixed facts) view) is

  doing_known : (doing : Doing) (facts : Facts) → Known (link_at handle facts.links) facts.view
      → Known (link_at handle (facts_doing doing facts).links) (facts_doing doing facts).view
  doing_known (CentralSends given) facts is = sent_at facts.turn.slot given facts.links facts.view is
  doing_known (PeripheralSends given) facts is = sent_at facts.turn.slot given facts.links facts.view is
  doing_known (Advertises channel) facts is = is
  doing_known other facts is = is

  won_known : (slot : ℕ) (activity : Activity) (links : Links) (view : View) → Known (link_at handle links) view → Known (link_at handle (links_won slot activity links)) view
  won_known slot (Link given) links view is =
      at_changed (λ place. Known place view) given handle (link_served slot) links is (λ same. served slot (link_at handle links) view is)
  won_known slot Advertise links view is = is
  won_known slot Scan links view is = is
  won_known slot Initiate links view is = is

  -- ---- a packet is received

  -- what is left once some events were received: nothing, or a request that is refused at once
  data Left (refusal : Option EndStep) (view : View) (facts : EndFacts) : Type 0 where
    Reported : KnowsAt view handle facts → Left refusal view facts
    Refused : (effect : Effect) (code : ErrCode) → refusal ≡ Some (RequestAnswered (Err code)) → KnowsOnceReported effect view handle facts
        → Left refusal view facts

  left_packets : (refusal : Option EndStep) (masks view : View) (events : List Event) (facts : EndFacts) → Left refusal view facts
      → Left refusal (follow view (notes_of_events masks events)) facts
  left_packets refusal masks view events facts (Reported known) = Reported (packets_known Nothing masks view events handle facts known)
  left_packets refusal masks view events facts (Refused effect code is known) = Refused effect code is (packets_known effect masks view events handle facts known)

  module _ (masks : View) (slot : ℕ) (was_encrypted : Bool) (facts : EndFacts) (fits : handle < 65536) where
    abbrev effect_notes : Effect → List Note
    effect_notes effect = notes_of_events masks (option_to_list (event_of_effect handle was_encrypted effect))

    -- after the event of the PDU that was taken there is left what it asked, or what one asked that was kept until then
    data FirstLeft (effect kept : Effect) (view : View) : Type 0 where
      Over : ((other : Option EndStep) → Left (or_refusal (refusal_of masks handle slot effect) other) view facts) → FirstLeft effect kept view
      Later : asks_host effect ≡ false → KnowsOnceReported kept view handle facts → FirstLeft effect kept view

    asks_first : (effect kept : Effect) (view : View) → KnowsOnceReported (or_request effect kept) view handle facts
        → FirstLeft effect kept (follow view (effect_notes effect))
    asks_first (AskHost least most latency timeout) kept view known = by (passes masks (mask_bit_of (ParamRequest handle least most latency timeout))) refl
      where
        by : (pass : Bool) → passes masks (mask_bit_of (ParamRequest handle least most latency timeout)) ≡ pass
            → FirstLeft (AskHost least most latency timeout) kept
            (follow view (map event_note (if pass then ParamRequest handle least most latency timeout ∷ [] else [])))
        by true is = Over (λ other. Reported (request_reported view handle least most latency timeout facts fits known))
        by false is =
            Over (λ other. Refused (AskHost least most latency timeout) (record { 0 = unsupported_remote_feature })
            (ap (λ (pass : Bool). or_refusal (answer_unless pass (RequestAnswered (Err (record { 0 = unsupported_remote_feature })))) other) is) known)
    asks_first other kept view known =
        Later refl (packets_known kept masks view (option_to_list (event_of_effect handle was_encrypted other)) handle facts known)

    -- after the event of the one that was kept
    asks_last : (kept : Effect) (view : View) (before : Option EndStep) → (asks_host kept ≡ true → before ≡ None) → KnowsOnceReported kept view handle facts
        → Left (or_refusal before (refusal_of masks handle slot kept)) (follow view (effect_notes kept)) facts
    asks_last (AskHost least most latency timeout) view before none known = by (passes masks (mask_bit_of (ParamRequest handle least most latency timeout))) refl
      where
        by : (pass : Bool) → passes masks (mask_bit_of (ParamRequest handle least most latency timeout)) ≡ pass
            → Left (or_refusal before (refusal_of masks handle slot (AskHost least most latency timeout)))
            (follow view (map event_note (if pass then ParamRequest handle least most latency timeout ∷ [] else []))) facts
        by true is = Reported (request_reported view handle least most latency timeout facts fits known)
        by false is =
            Refused (AskHost least most latency timeout) (record { 0 = unsupported_remote_feature })
            (λ i. or_refusal (none refl i) (answer_unless (is i) (RequestAnswered (Err (record { 0 = unsupported_remote_feature }))))) known
    asks_last other view before none known =
        Reported (none_reported other _ handle facts refl
        (packets_known other masks view (option_to_list (event_of_effect handle was_encrypted other)) handle facts known))

    -- with other events between these two
    asks_either : (effect kept : Effect) (between : List Event) (view : View) → (asks_host kept ≡ true → asks_key effect ≡ false)
        → FirstLeft effect kept view
        → Left (or_refusal (refusal_of masks handle slot effect) (refusal_of masks handle slot kept))
        (follow (follow view (notes_of_events masks between)) (effect_notes kept)) facts
    asks_either effect kept between view apart (Over left) =
        let refusal = or_refusal (refusal_of masks handle slot effect) (refusal_of masks handle slot kept) in
        left_packets refusal masks _ (option_to_list (event_of_effect handle was_encrypted kept)) facts
        (left_packets refusal masks view between facts (left (refusal_of masks handle slot kept)))
    asks_either effect kept between view apart (Later none known) =
        asks_last kept _ (refusal_of masks handle slot effect) (λ asks. none_refused masks handle slot effect none (apart asks))
        (packets_known kept masks view between handle facts known)

  -- what is refused at once is refused, and whether a host has a key changes nothing
  refused_now : (effect : Effect) (view : View) (now : OpenLink) (code : ErrCode) → KnowsOnceReported effect view handle (facts_in now)
      → (facts_in (link_after (RequestAnswered (Err code)) now)).control.ends ≡ None
      → KnowsAt view handle (facts_in (link_after (RequestAnswered (Err code)) now))
  refused_now effect view now code known lasts =
      let grown = facts_grow now (RequestAnswered (Err code)) in
      subst (λ (f : EndFacts). KnowsAt view handle f) (sym grown)
      (request_refused_at_once effect view handle (facts_in now) code known (ap (λ (f : EndFacts). f.control.ends) (sym grown) ∙ lasts))

  answered_left : (refusal : Option EndStep) (view : View) (now : OpenLink) → IfSome refusal IsRefusal → Left refusal view (facts_in now)
      → (facts_in (refused_if refusal now)).control.ends ≡ None → KnowsAt view handle (facts_in (refused_if refusal now))
  answered_left None view now is (Reported known) lasts = known
  answered_left None view now is (Refused effect code refuses known) lasts = absurd cc
  answered_left (Some (RequestAnswered (Err code))) view now is (Reported known) lasts = refused_now Nothing view now code known lasts
  answered_left (Some (RequestAnswered (Err code))) view now is (Refused effect other refuses known) lasts = refused_now effect view now code known lasts
  answered_left (Some (KeyAnswered None slot)) view now is (Reported known) lasts =
      subst (λ (f : EndFacts). KnowsAt view handle f) (sym (facts_grow now (KeyAnswered None slot)))
      (key_lacked_at_once Nothing view handle slot (facts_in now) known)
  answered_left (Some (KeyAnswered None slot)) view now is (Refused effect code refuses known) lasts = absurd cc
  answered_left (Some (RequestAnswered (Ok ask))) view now is left lasts = absurd is
  answered_left (Some (KeyAnswered (Some ltk) slot)) view now is left lasts = absurd is
  answered_left (Some step) view now is left lasts = absurd is

  before_answer : (refusal : Option EndStep) (now : OpenLink) → (facts_in (refused_if refusal now)).control.ends ≡ None → (facts_in now).control.ends ≡ None
  before_answer None now lasts = lasts
  before_answer (Some step) now lasts =
      lasted now.setup (facts_in now) step (link_past now) (ap (λ (f : EndFacts). f.control.ends) (sym (facts_grow now step)) ∙ lasts)

  module _ (slot : ℕ) (room : Bool) (octets : List ℕ) where
    received_link : (masks : View) (was_encrypted : Bool) (link : OpenLink) (view : View) → handle < 65536 → Known (Some link) view
        → KnownAfter (Some (refused_if (refusal_in masks handle slot room (Some link) octets) (link_after (PacketReceived slot octets room) link)))
        view (notes_taken slot room (Some link) octets ++ notes_of_events masks (events_received was_encrypted handle slot room (Some link) octets))
    received_link masks was_encrypted link view fits is =
        and_then (Some (refused_if refusal now)) view taken (notes_of_events masks events) (has_kept refusal, all_seen)
      where
        step : EndStep
        step = PacketReceived slot octets room

        now : OpenLink
        now = link_after step link

        effect : Effect
        effect = effect_of link.setup (facts_in link) slot octets room

        kept_effect : Effect
        kept_effect = kept_effect_of link.setup (facts_in link) slot octets room

        refusal : Option EndStep
        refusal = refusal_in masks handle slot room (Some link) octets

        acked : List Event
        acked = option_to_list (event_if_done handle (facts_in now).peer (acked_of link.setup (facts_in link) octets))

        asked : List Event
        asked = option_to_list (event_of_effect handle was_encrypted effect)

        refused : List Event
        refused = option_to_list (event_if_refused handle (params_of (facts_in link)) (given_of link.setup (facts_in link) slot octets room).refused)

        done : List Event
        done = option_to_list (event_if_done handle (facts_in now).peer (given_of link.setup (facts_in link) slot octets room).done)

        kept_asked : List Event
        kept_asked = option_to_list (event_of_effect handle was_encrypted kept_effect)

        kept_done : List Event
        kept_done = option_to_list (event_if_done handle (facts_in now).peer (kept_given_of link.setup (facts_in link) slot octets room).done)

        events : List Event
        events = acked ++ asked ++ refused ++ done ++ (kept_asked ++ kept_done)

        taken : List Note
        taken = end_notes link.setup (facts_in link) step

        noted : View
        noted = follow view taken

        seen : View
        seen = follow noted (notes_of_events masks events)

        has_kept : (refused_now : Option EndStep) → (refused_if refused_now now).setup.link.handle ≡ handle
        has_kept None = is.0
        has_kept (Some step) = is.0

        both : (before : View) (xs ys : List Event) → follow (follow before (notes_of_events masks xs)) (notes_of_events masks ys) ≡ follow before (notes_of_events masks (xs ++ ys))
        both before xs ys = sym (fold-append view_noted before (notes_of_events masks xs) (notes_of_events masks ys)) ∙ ap (follow before) (sym (events_append masks xs ys))

        -- the view after the event of each request
        first : View
        first = follow (follow noted (notes_of_events masks acked)) (notes_of_events masks asked)

        last : View
        last = follow (follow first (notes_of_events masks (refused ++ done))) (notes_of_events masks kept_asked)

        first_is : first ≡ follow noted (notes_of_events masks (acked ++ asked))
        first_is = both noted acked asked

        split : follow last (notes_of_events masks kept_done) ≡ seen
        split =
            both (follow first (notes_of_events masks (refused ++ done))) kept_asked kept_done
            ∙ ap (λ v. follow (follow v (notes_of_events masks (refused ++ done))) (notes_of_events masks (kept_asked ++ kept_done))) first_is
            ∙ ap (λ v. follow v (notes_of_events masks (kept_asked ++ kept_done))) (both noted (acked ++ asked) (refused ++ done) ∙ ap (λ xs. follow noted (notes_of_events masks xs)) (sym (append_assoc (acked ++ asked) refused done)))
            ∙ both noted (acked ++ asked ++ refused ++ done) (kept_asked ++ kept_done)

        left : (facts_in now).control.ends ≡ None → Left refusal seen (facts_in now)
        left lasts =
            let known = reported step refl link view is lasts in
            let then_first = asks_first masks slot was_encrypted (facts_in now) fits effect kept_effect (follow noted (notes_of_events masks acked))
            (packets_known (or_request effect kept_effect) masks noted acked handle (facts_in now) known) in
            let then_last = asks_either masks slot was_encrypted (facts_in now) fits effect kept_effect (refused ++ done) first
            (requests_apart link slot room octets) then_first in
            subst (λ v. Left refusal v (facts_in now)) split (left_packets refusal masks last kept_done (facts_in now) then_last)

        all_seen : (facts_in (refused_if refusal now)).control.ends ≡ None → KnowsAt seen handle (facts_in (refused_if refusal now))
        all_seen lasts =
            answered_left refusal seen now (refusals_are masks handle slot effect kept_effect) (left (before_answer refusal now lasts)) lasts

  taken_at : (given : ℕ) (octets : List ℕ) (setup : Setup) (facts : Facts) → HaveHandles 0 facts.links → handle < 65536
      → Known (link_at handle facts.links) facts.view
      → Known (link_at handle (link_received given (has_room setup facts) octets facts).links) (link_received given (has_room setup facts) octets facts).view
  taken_at given octets setup facts have fits is =
      by_handle given handle
      (λ same. subst (λ n. KnownAfter (link_at handle (link_received n room octets facts).links) facts.view (notes_at n)) (sym same) own)
      (λ differs.
      at_received (λ place. KnownAfter place facts.view (notes_at given)) given handle room octets facts (apart differs (link_at given facts.links) (has_its_handle 0 given facts.links have))
      (λ same. absurd (differs same)))
    where
      slot : ℕ
      slot = facts.turn.slot

      room : Bool
      room = has_room setup facts

      notes_at : ℕ → List Note
      notes_at n = notes_received n room octets facts

      apart : given ≢ handle → (place : Option OpenLink) → HasHandle given place
          → KnownAfter (link_at handle facts.links) facts.view
          (notes_taken slot room place octets ++ notes_of_events facts.view (events_received (was_encrypted given facts.view.links) given slot room place octets))
      apart differs None has = is
      apart differs (Some link) has =
          let taken = end_notes link.setup (facts_in link) (PacketReceived slot octets room) in
          let events = events_received (was_encrypted given facts.view.links) given slot room (Some link) octets in
          and_then (link_at handle facts.links) facts.view taken (notes_of_events facts.view events)
          (packets (link_at handle facts.links) facts.view (follow facts.view taken) events
          (others (link_at handle facts.links) facts.view link.setup (facts_in link) (PacketReceived slot octets room) (λ same. differs (sym has ∙ same)) is))

      own_by : (place : Option OpenLink) → Known place facts.view
          → KnownAfter (option_map (λ link. refused_if (refusal_in facts.view handle slot room place octets) (link_after (PacketReceived slot octets room) link)) place)
          facts.view (notes_taken slot room place octets ++ notes_of_events facts.view (events_received (was_encrypted handle facts.view.links) handle slot room place octets))
      own_by None known = tt
      own_by (Some link) known = received_link slot room octets facts.view (was_encrypted handle facts.view.links) link facts.view fits known

      own : KnownAfter (link_at handle (link_received handle room octets facts).links) facts.view (notes_at handle)
      own =
          subst (λ links. KnownAfter (link_at handle links) facts.view (notes_at handle)) (sym (receiving_is handle room octets facts))
          (subst (λ place. KnownAfter place facts.view (notes_at handle)) (sym (changed_is (option_map (link_receiving handle room octets facts)) 0 handle facts.links refl))
          (own_by (link_at handle facts.links) is))

  -- ---- a step of a controller

  abbrev pub KnownIn : Facts → Type 0
  KnownIn facts = Known (link_at handle facts.links) facts.view

  -- data of the host
  pub given_known : (given : ℕ) (start : Bool) (octets : List ℕ) (facts : Facts) → KnownIn facts → KnownIn (facts_given given start octets facts)
  given_known given start octets facts is =
      unnoted_at (DataGiven start octets) refl (λ setup facts. refl) given facts.links facts.view (λ setup facts. refl) is

  -- the view has a place for the handle
  module _ (setup : Setup) (low : handle < 6) where
    record IsLeft (facts : Facts) : Type 0 where
      own : HaveOwnHandles setup facts
      is : KnownIn facts

    begun_known : (slot : ℕ) (on : Bool) (facts : Facts) → HaveOwnHandles setup facts → KnownIn facts → KnownIn (facts_passed (outcome_begun slot on facts))
    begun_known slot on facts own is =
        let starts = (handles_kept setup).turns.starts in
        left_doing IsLeft
        (λ reason facts left. record { own = starts.ends reason facts left.own; is = ends_known reason facts left.own.handles left.is })
        (λ slot facts left. record { own = starts.begins slot facts left.own; is = left.is })
        (λ slot facts left. record { own = starts.enters slot facts left.own; is = subst KnownIn (entering_is slot facts) (entering_known slot facts left.own.handles left.is) })
        (λ slot activity facts left. record { own = starts.wins slot activity facts left.own; is = won_known slot activity facts.links facts.view left.is })
        (λ doing facts left. record { own = starts.fixes doing facts left.own; is = fixing_known doing facts.links facts.view left.is })
        (λ doing facts. KnownIn (facts_doing doing facts)) (λ doing facts may left. doing_known doing facts left.is) slot on facts
        (record { own = own; is = is })

    -- a phase
    stopped_known : (role : Role) (facts : Facts) → KnownIn facts → KnownIn (stopped role facts)
    stopped_known Central facts is = is
    stopped_known Peripheral facts is = is

    opens_known : (link : LinkSetup) (facts : Facts) → link.handle < length facts.links → length facts.view.links ≡ 6 → KnownIn facts
        → KnownIn (facts_passed (opens link facts))
    opens_known link facts below six is =
        stopped_known link.role (record facts {
          view = view_noted facts.view (note_opened link);
          links = with_link (record { link = link; opened = facts.turn.slot }) facts.links;
          received = received_past (link_at link.handle facts.links) link.handle facts.received;
        })
        (opened_view_known (record { link = link; opened = facts.turn.slot }) facts.links facts.view below (λ same. omega (arith, same, low, six)) is)

    heard_known : (given : ℕ) (octets : List ℕ) (facts : Facts) → HaveOwnHandles setup facts → KnownIn facts → KnownIn (facts_passed (link_heard setup given octets facts))
    heard_known given octets facts own is =
        doing_known (reply_if (replies_in facts.turn.slot (has_room setup facts) (link_at given facts.links) octets) given)
        (link_received given (has_room setup facts) octets facts) (taken_at given octets setup facts own.handles (omega (arith, low)) is)

    -- with the words that a peripheral was given
    worded_known : (given : ℕ) (octets : List ℕ) (facts : Facts) → HaveOwnHandles setup facts → KnownIn facts
        → KnownIn (facts_passed (link_heard setup given octets (facts_with_words setup given facts)))
    worded_known given octets facts own is =
        heard_known given octets (facts_with_words setup given facts) (words_own setup given facts own)
        (unnoted_at (WordsGiven _ _) refl (λ setup facts. refl) given facts.links facts.view (λ setup facts. refl) is)

    phase_known : (facts : Facts) → HaveOwnHandles setup facts → length facts.view.links ≡ 6 → KnownIn facts
        → EachOutcome setup facts (λ outcome. KnownIn (facts_passed outcome))
    phase_known facts own six is = record {
      rests = is;
      awaits_request = λ channel doing. is;
      awaits_response = λ channel advertiser doing. is;
      central_listens = λ other doing. is;
      sent = λ channel link doing. opens_known link facts (subst (IsNew facts.links) doing own.new).0 six is;
      responds = λ channel on doing is_on. is;
      taken = λ channel octets pdu on fields other is_on hears takes free.
          opens_known (link_taken facts.view on.params.own pdu fields other) facts (free_is_new facts.links other free).0 six is;
      scanned = λ channel octets pdu on doing is_on hears.
          doing_known (asks_if (true && does_ask (scan_answer on.params facts.view.accepted on.recent pdu)) channel pdu)
          (with_scanner (scanner_after on facts.view.accepted pdu) facts) is;
      answered = λ channel octets pdu on doing is_on hears.
          doing_known (asks_if (false && does_ask (scan_answer on.params facts.view.accepted on.recent pdu)) channel pdu)
          (with_scanner (scanner_after on facts.view.accepted pdu) facts) is;
      connects = λ channel octets pdu on access other doing is_on hears answers next free in_range.
          kept (link_at handle facts.links) facts.view _ (λ own known. known_still facts.view (facts_connecting setup facts).view handle own refl known) is;
      received = λ other octets. heard_known other octets facts own is;
    }

    -- a turn ends
    reported_if : (some : Bool) (link : OpenLink) (view : View) → Known (Some link) view → Known (Some (cond some (link_after DataReported link) link)) view
    reported_if true link view is = unnoted DataReported refl (λ setup facts. refl) (Some link) view (λ setup facts. refl) is
    reported_if false link view is = is

    reported_known : (place : Option OpenLink) (view : View) → Known place view → Known (option_map link_reported place) view
    reported_known None view is = is
    reported_known (Some link) view is = reported_if (nat_lt 0 (complete_in link)) link view is

    ended_known : (facts : Facts) → HaveOwnHandles setup facts → KnownIn facts → KnownIn (facts_ended_turn facts)
    ended_known facts own is =
        let handed = facts_handed facts in
        let place = link_at handle facts.links in
        let received = kept place (follow facts.view (notes_pieces facts)) handed.view (λ facts known. known_still _ handed.view handle facts refl known)
        (data_packets acl_packet place facts.view (pieces_handed facts) is) in
        subst KnownIn (sym (leaving_is handed))
        (ends_known ending_in handed ((mapped_opens link_reported facts.links reported_same).handles own.handles)
        (subst (λ place. Known place handed.view) (sym (map_at (option_map link_reported) 0 handle facts.links refl)) (reported_known place handed.view received)))

    pub turn_known : (facts : Facts) (step : Step) → IsInTurn step → HaveOwnHandles setup facts → length facts.view.links ≡ 6 → KnownIn facts
        → KnownIn (facts_after setup facts step)
    turn_known facts (HostOctet octet) turn own six is = absurd turn
    turn_known facts (TurnBegins slot on) turn own six is = begun_known slot on facts own is
    turn_known facts (PacketHeard octets) turn own six is =
        heard_is setup facts (λ outcome. KnownIn (facts_passed outcome)) (phase_known facts own six is) facts.turn.doing octets refl
        (λ given. worded_known given octets facts own is)
    turn_known facts NothingHeard turn own six is = unheard_is setup facts (λ outcome. KnownIn (facts_passed outcome)) (phase_known facts own six is) facts.turn.doing refl
    turn_known facts TurnEnds turn own six is = ended_known facts own is

-- ---- the link under the handle

pub known_under : (handle : ℕ) (facts : Facts) → HaveHandles 0 facts.links → IsKnownAt facts.view facts.links handle → KnownIn handle facts
known_under handle facts have known = by (link_at handle facts.links) refl (has_its_handle 0 handle facts.links have)
  where
    by : (place : Option OpenLink) → link_at handle facts.links ≡ place → HasHandle handle place → Known handle place facts.view
    by None is has = tt
    by (Some link) is has = (has, known link is)

pub known_at : (handle : ℕ) (facts : Facts) → KnownIn handle facts → IsKnownAt facts.view facts.links handle
known_at handle facts known = λ link is. (subst (λ place. Known handle place facts.view) is known).1
