-- A packet that a link receives, once it entered an event, and what the host receives of that.
use Rattle.std.proofs.Common.{◌≡◌, ℕ, Bool, List, ◌++◌, map, Option, Some, None, refl, ap, sym, subst, ◌∙◌, append_assoc}
use Rattle.std.proofs.lemmas.List.{map-append}
use Rattle.std.proofs.lemmas.List.Elements.{filter-append}
use Rattle.std.specs.Option.{option_map}
use Rattle.acl_banks.specs.declared.pieces.Piece.{Piece}
use Rattle.ble_base.specs.declared.notes.Note.{Note}
use Rattle.ble_base.specs.declared.notes.Note.TheVariants.{Up}
use Rattle.hci_evt.specs.declared.event.Event.{Event}
use Rattle.hci_evt.specs.Event.{mask_bit_of, written}
use Rattle.host_view.specs.Links.{was_encrypted}
use Rattle.host_view.specs.View.{View}
use Rattle.instants.specs.declared.indications.Params.{Params}
use Rattle.link_model.specs.declared.state.PeerFacts.{PeerFacts}
use Rattle.link_model.specs.Facts.{params_of}
use Rattle.link_model.specs.Step.{Step, PacketReceived}
use Rattle.link_end.specs.declared.ends.LinkStep.{LinkStep}
use Rattle.open_links.specs.Data.{kept_at, notes_at}
use Rattle.open_links.specs.Hearing.{step_at, step_hearing}
use Rattle.open_links.specs.Knowing.{HeldLinks, Knows as KnowsLinks}
use Rattle.open_links.specs.OpenLinks.{Links, OpenLink, facts_in, in_event, link_after, link_after_in_event, link_at, with_change}
use Rattle.open_links.proofs.Handles.{changed_is}
use Rattle.controller_model.specs.Entering.{HasEntered}
use Rattle.controller_model.specs.Events.{notes_of_events, passes}
use Rattle.controller_model.specs.Heard.{draws_in, effect_in, events_received, kept_effect_in, links_refusing, notes_taken, piece_taken, or_refusal, refusal_in, refusal_of}
use Rattle.host_notes.proofs.InEvent.{after_is, change_in_event, in_event_is}
use Rattle.host_notes.specs.Hearing.{draws_of_step, effect_of, events_told, kept_effect_of, refusal_told}

-- ---- events one after another

told_more : (view : View) (one other : List Event) → notes_of_events view (one ++ other) ≡ notes_of_events view one ++ notes_of_events view other
told_more view one other =
    ap (map (λ event. Up (record { items = written event }))) (filter-append (λ event. passes view (mask_bit_of event)) one other)
    ∙ map-append (λ event. Up (record { items = written event })) _ _

told_then : (view : View) (before noted : List Note) (one other : List Event) → noted ≡ before ++ notes_of_events view one
    → noted ++ notes_of_events view other ≡ before ++ notes_of_events view (one ++ other)
told_then view before noted one other is =
    ap (λ (notes : List Note). notes ++ notes_of_events view other) is
    ∙ append_assoc before (notes_of_events view one) (notes_of_events view other)
    ∙ ap (λ (notes : List Note). before ++ notes) (sym (told_more view one other))

-- those of a packet, and then those of a PDU that was kept
pub both_told : (view : View) (before mid after : List Note) (one two heard kept : List Event) → heard ≡ one → kept ≡ two
    → mid ≡ before ++ notes_of_events view heard → after ≡ mid ++ notes_of_events view kept
    → after ≡ before ++ notes_of_events view (one ++ two)
both_told view before mid after one two heard kept heard_is kept_is first then_is =
    then_is ∙ (λ i. mid ++ notes_of_events view (kept_is i))
    ∙ told_then view before mid one two (first ∙ (λ i. before ++ notes_of_events view (heard_is i)))

-- ---- a reception

module _ (slot handle : ℕ) (room : Bool) (octets : List ℕ) (place : Option OpenLink) (has : HasEntered place) where
  abbrev taken : Step
  taken = PacketReceived slot octets room

  notes_in_event : notes_at taken (in_event place) ≡ notes_taken slot room place octets
  notes_in_event = ap (notes_at taken) (in_event_is place has) ∙ same place
    where
      same : (place : Option OpenLink) → notes_at (PacketReceived slot octets room) place ≡ notes_taken slot room place octets
      same None = refl
      same (Some link) = refl

  kept_in_event : kept_at slot octets room (in_event place) ≡ piece_taken slot room place octets
  kept_in_event = ap (kept_at slot octets room) (in_event_is place has) ∙ same place
    where
      same : (place : Option OpenLink) → kept_at slot octets room place ≡ piece_taken slot room place octets
      same None = refl
      same (Some link) = refl

  step_in_event : step_at slot octets room place ≡ option_map (step_hearing slot octets room) place
  step_in_event = ap (option_map (step_hearing slot octets room)) (in_event_is place has)

  -- what the host receives
  told_in_event : (before : Bool) (params : Option Params) (peer : Option PeerFacts) (step : Option LinkStep)
      → params ≡ option_map (λ link. params_of (facts_in link)) place
      → peer ≡ option_map (λ link. (facts_in link).peer) (option_map (link_after_in_event taken) place) → step ≡ step_at slot octets room place
      → events_told before handle params peer step ≡ events_received before handle slot room place octets
  told_in_event before params peer step params_is peer_is step_is =
      (λ i. events_told before handle (params_is i) (peers i) (steps i)) ∙ same place
    where
      peers : peer ≡ option_map (λ link. (facts_in link).peer) (option_map (link_after taken) place)
      peers = peer_is ∙ ap (option_map (λ link. (facts_in link).peer)) (after_is taken place has)

      steps : step ≡ option_map (step_hearing slot octets room) place
      steps = step_is ∙ step_in_event

      same : (place : Option OpenLink) → events_told before handle (option_map (λ link. params_of (facts_in link)) place)
          (option_map (λ link. (facts_in link).peer) (option_map (link_after taken) place)) (option_map (step_hearing slot octets room) place)
          ≡ events_received before handle slot room place octets
      same None = refl
      same (Some link) = refl

  effect_in_event : (step : Option LinkStep) → step ≡ step_at slot octets room place → effect_of step ≡ effect_in slot room place octets
  effect_in_event step is = ap effect_of (is ∙ step_in_event) ∙ same place
    where
      same : (place : Option OpenLink) → effect_of (option_map (step_hearing slot octets room) place) ≡ effect_in slot room place octets
      same None = refl
      same (Some link) = refl

  kept_in_event_too : (step : Option LinkStep) → step ≡ step_at slot octets room place
      → kept_effect_of step ≡ kept_effect_in slot room place octets
  kept_in_event_too step is = ap kept_effect_of (is ∙ step_in_event) ∙ same place
    where
      same : (place : Option OpenLink) → kept_effect_of (option_map (step_hearing slot octets room) place) ≡ kept_effect_in slot room place octets
      same None = refl
      same (Some link) = refl

  -- how a request is answered that the mask withholds
  refusal_in_event : (view : View) (step : Option LinkStep) → step ≡ step_at slot octets room place
      → refusal_told view handle slot step ≡ refusal_in view handle slot room place octets
  refusal_in_event view step is =
      λ i. or_refusal (refusal_of view handle slot (effect_in_event step is i)) (refusal_of view handle slot (kept_in_event_too step is i))

  -- whether it draws words
  draws_in_event : (step : Option LinkStep) → step ≡ step_at slot octets room place → draws_of_step step ≡ draws_in slot room place octets
  draws_in_event step is = ap draws_of_step (is ∙ step_in_event) ∙ same place
    where
      same : (place : Option OpenLink) → draws_of_step (option_map (step_hearing slot octets room) place) ≡ draws_in slot room place octets
      same None = refl
      same (Some link) = refl

-- the links then, of which one may answer a request at once
pub heard_in_event : (slot handle : ℕ) (room : Bool) (octets : List ℕ) (view : View) (mid new : HeldLinks) (known : Links)
    (received : List (ℕ × Piece)) (step : Option LinkStep) (refusal : Option Step) → HasEntered (link_at handle known)
    → step ≡ step_at slot octets room (link_at handle known)
    → KnowsLinks mid (with_change handle (link_after_in_event (PacketReceived slot octets room)) known)
    (received ++ kept_at slot octets room (in_event (link_at handle known)))
    → refusal ≡ refusal_told view handle slot step
    → ((links : Links) (pieces : List (ℕ × Piece)) → KnowsLinks mid links pieces → KnowsLinks new (links_refusing refusal handle links) pieces)
    → KnowsLinks new
    (links_refusing (refusal_in view handle slot room (link_at handle known) octets) handle
    (with_change handle (link_after (PacketReceived slot octets room)) known))
    (received ++ piece_taken slot room (link_at handle known) octets)
heard_in_event slot handle room octets view mid new known received step refusal has step_is knows refusal_is goes =
    let changed = change_in_event (PacketReceived slot octets room) handle known has in
    let kept = kept_in_event slot handle room octets (link_at handle known) has in
    let refused = refusal_is ∙ refusal_in_event slot handle room octets (link_at handle known) has view step step_is in
    subst (λ test. KnowsLinks new (links_refusing test handle (with_change handle (link_after (PacketReceived slot octets room)) known))
    (received ++ piece_taken slot room (link_at handle known) octets)) refused
    (goes _ _
    (subst (λ (links : Links). KnowsLinks mid links (received ++ piece_taken slot room (link_at handle known) octets)) changed
    (subst (λ (pieces : List (ℕ × Piece)). KnowsLinks mid (with_change handle (link_after_in_event (PacketReceived slot octets room)) known)
    (received ++ pieces)) kept knows)))

-- whether words are drawn
pub heard_draws : (slot handle : ℕ) (room : Bool) (octets : List ℕ) (known : Links) → HasEntered (link_at handle known) → (step : Option LinkStep)
    → step ≡ step_at slot octets room (link_at handle known) → draws_of_step step ≡ draws_in slot room (link_at handle known) octets
heard_draws slot handle room octets known has step is = draws_in_event slot handle room octets (link_at handle known) has step is

-- what is noted
pub heard_notes : (slot handle : ℕ) (room : Bool) (octets : List ℕ) (view : View) (known : Links) → HasEntered (link_at handle known)
    → (params : Option Params) (peer : Option PeerFacts) (step : Option LinkStep) (before heard noted : List Note)
    → params ≡ option_map (λ link. params_of (facts_in link)) (link_at handle known)
    → peer ≡ option_map (λ link. (facts_in link).peer) (link_at handle (with_change handle (link_after_in_event (PacketReceived slot octets room)) known))
    → step ≡ step_at slot octets room (link_at handle known)
    → heard ≡ before ++ notes_at (PacketReceived slot octets room) (in_event (link_at handle known))
    → noted ≡ heard ++ notes_of_events view (events_told (was_encrypted handle view.links) handle params peer step)
    → noted ≡ before ++ notes_taken slot room (link_at handle known) octets
    ++ notes_of_events view (events_received (was_encrypted handle view.links) handle slot room (link_at handle known) octets)
heard_notes slot handle room octets view known has params peer step before heard noted params_is peer_is step_is heard_is told =
    let place = link_at handle known in
    let peer_is = peer_is
    ∙ ap (option_map (λ link. (facts_in link).peer)) (changed_is (option_map (link_after_in_event (PacketReceived slot octets room))) 0 handle known refl) in
    let events = told_in_event slot handle room octets place has (was_encrypted handle view.links) params peer step params_is peer_is step_is in
    let notes = heard_is ∙ ap (λ (notes : List Note). before ++ notes) (notes_in_event slot handle room octets place has) in
    told ∙ (λ i. notes i ++ notes_of_events view (events i))
