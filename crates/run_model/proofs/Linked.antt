-- Each open link comes from a CONNECT_IND, before and after an event and a call.
use Rattle.std.proofs.Common.{◌≡◌, ℕ, ◌+◌, ◌==◌, Bool, true, false, List, [], ◌∷◌, ◌++◌, refl, sym, ap, subst, ◌∙◌, append-nil, append_assoc}
use Rattle.std.specs.Prelude.{map}
use Rattle.std.proofs.lemmas.Bool.{eqb-true}
use Rattle.ble_base.specs.declared.notes.Note.{Note}
use Rattle.controller_model.specs.link_model.Setup.{Setup as EndSetup}
use Rattle.controller_model.specs.Step.{Step, HostOctet}
use Rattle.controller_model.specs.Facts.{Facts}
use Rattle.controller_model.specs.Side.{facts_of, notes_after}
use Rattle.controller_model.proofs.Pasts.{facts_more}
use Rattle.run_model.specs.History.{Event, HostFed, Called, Noted, Transmitted, past_of, steps_in}
use Rattle.run_model.specs.Run.{Given, setup_at, facts_at, after_call, after_octets, after_feed}
use Rattle.run_model.specs.Due.{Each}
use Rattle.run_model.specs.LinkEnds.{HasConnectInd}
use Rattle.run_model.specs.Links.{links_of}
use Rattle.run_model.specs.Numbers.{HasNumber}
use Rattle.run_model.specs.OnAir.{ends_phase}
use Rattle.run_model.proofs.Calls.{flat_nothing, past_other, past_own}
use Rattle.run_model.proofs.Places.{each_append, each_event}
use Rattle.run_model.proofs.LinkSteps.{EachLink, MayOpen, each_more, step_linked}

-- ---- a history that grows

grown : (history more : List Event) (station : ℕ) (end : EndSetup) → HasConnectInd history station end → HasConnectInd (history ++ more) station end
grown history more station end has = record {
  sent = has.sent;
  before = has.before;
  after = has.after ++ more;
  is_at = ap (λ events. events ++ more) has.is_at
      ∙ append_assoc has.before (Transmitted has.sent.sender has.sent.channel has.sent.octets has.sent.hearings ∷ has.after) more;
  in_turn = has.in_turn;
  on_channel = has.on_channel;
  says = has.says;
  fields_are = has.fields_are;
  is_at_end = has.is_at_end;
}

pub numbered_more : (history more : List Event) (number station : ℕ) (end : EndSetup) (has : HasConnectInd history station end)
    → number ≡ (links_of has.before).begun + 1 → HasNumber (history ++ more) number station end
unfolding grown
numbered_more history more number station end has is = record { has = grown history more station end has; number_is = is }

-- each link of each station has its CONNECT_IND in this history
abbrev pub AreLinked : Given → List Event → Type 0
AreLinked given history = (station : ℕ) → EachLink (HasConnectInd history station) (facts_at given station history).links

linked_with : (given : Given) (history more : List Event) (station : ℕ) → past_of station (history ++ more) ≡ past_of station history
    → EachLink (HasConnectInd history station) (facts_at given station history).links
    → EachLink (HasConnectInd (history ++ more) station) (facts_at given station (history ++ more)).links
linked_with given history more station same each =
    subst (λ past. EachLink (HasConnectInd (history ++ more) station) (facts_of (setup_at given station) past).links) (sym same)
    (each_more (HasConnectInd history station) (HasConnectInd (history ++ more) station) _ (grown history more station) each)

outside_linked : (given : Given) (history : List Event) (event : Event) → ((station : ℕ) → steps_in station event ≡ []) → AreLinked given history
    → AreLinked given (history ++ event ∷ [])
outside_linked given history event none linked = λ station.
    linked_with given history (event ∷ []) station (flat_nothing (steps_in station) history event (none station)) (linked station)

abbrev pub LinkedBefore : Given → List Event → Event → Type 0
LinkedBefore given before event = AreLinked given before

record AreLinkedOn (given : Given) (history events : List Event) : Type 0 where
  each : Each (LinkedBefore given) history events
  linked : AreLinked given (history ++ events)

notes_linked : (given : Given) (station : ℕ) (notes : List Note) (history : List Event) → AreLinked given history
    → AreLinkedOn given history (map (Noted station) notes)
notes_linked given station [] history linked = record { each = tt; linked = subst (AreLinked given) (sym (append-nil history)) linked }
notes_linked given station (note ∷ notes) history linked =
    let rest = notes_linked given station notes (history ++ Noted station note ∷ [])
    (outside_linked given history (Noted station note) (λ other. refl) linked) in record {
      each = (linked, rest.each);
      linked = subst (AreLinked given) (append_assoc history (Noted station note ∷ []) (map (Noted station) notes)) rest.linked;
    }

-- ---- a call

own_linked : (given : Given) (station : ℕ) (step : Step) (history : List Event)
    → MayOpen (HasConnectInd history station) (facts_at given station history) step → AreLinked given history
    → EachLink (HasConnectInd (history ++ Called station step ∷ []) station) (facts_at given station (history ++ Called station step ∷ [])).links
own_linked given station step history may linked =
    let setup = setup_at given station in
    let more = Called station step ∷ [] in
    subst (λ facts. EachLink (HasConnectInd (history ++ more) station) facts.links)
    (sym (ap (facts_of setup) (past_own station step [] history) ∙ facts_more setup (past_of station history) step))
    (each_more (HasConnectInd history station) (HasConnectInd (history ++ more) station) _ (grown history more station)
    (step_linked (HasConnectInd history station) setup (facts_at given station history) step may (linked station)))

called_by : (given : Given) (station : ℕ) (step : Step) (history : List Event)
    → MayOpen (HasConnectInd history station) (facts_at given station history) step → AreLinked given history → (other : ℕ) (same : Bool) → (other == station) ≡ same
    → EachLink (HasConnectInd (history ++ Called station step ∷ []) other) (facts_at given other (history ++ Called station step ∷ [])).links
called_by given station step history may linked other true is =
    subst (λ one. EachLink (HasConnectInd (history ++ Called station step ∷ []) one) (facts_at given one (history ++ Called station step ∷ [])).links)
    (sym (eqb-true other station is)) (own_linked given station step history may linked)
called_by given station step history may linked other false is =
    linked_with given history (Called station step ∷ []) other (past_other other station step [] history is) (linked other)

pub record AreLinkedSoFar (given : Given) (history : List Event) : Type 0 where
  pub each : Each (LinkedBefore given) [] history
  pub linked : AreLinked given history

pub call_linked : (given : Given) (station : ℕ) (step : Step) (history : List Event)
    → MayOpen (HasConnectInd history station) (facts_at given station history) step → AreLinkedSoFar given history
    → AreLinkedSoFar given (after_call given station step history)
call_linked given station step history may so_far =
    let noted = map (Noted station) (notes_after (setup_at given station) (facts_at given station history) step) in
    let called : AreLinked given (history ++ Called station step ∷ []) = λ other. called_by given station step history may so_far.linked other (other == station) refl in
    let rest = notes_linked given station (notes_after (setup_at given station) (facts_at given station history) step) (history ++ Called station step ∷ []) called in record {
      each = each_append (LinkedBefore given) [] history (Called station step ∷ noted) so_far.each (so_far.linked, rest.each);
      linked = subst (AreLinked given) (append_assoc history (Called station step ∷ []) noted) rest.linked;
    }

pub event_linked : (given : Given) (history : List Event) (event : Event) → ((station : ℕ) → steps_in station event ≡ []) → AreLinkedSoFar given history
    → AreLinkedSoFar given (history ++ event ∷ [])
event_linked given history event none so_far = record {
  each = each_event (LinkedBefore given) history event so_far.each so_far.linked;
  linked = outside_linked given history event none so_far.linked;
}

-- a step that ends no phase opens no link
pub opens_none : (P : EndSetup → Type 0) (facts : Facts) (step : Step) → ends_phase step ≡ false → MayOpen P facts step
opens_none P facts step none = record {
  made = λ channel link ends doing. absurd (let h : true ≡ false = sym ends ∙ none in absurd cc);
  taken = λ channel octets on pdu fields handle is doing found takes.
      absurd (let h : true ≡ false = ap ends_phase (sym is) ∙ none in absurd cc);
}

octets_linked : (given : Given) (station : ℕ) (octets : List ℕ) (history : List Event) → AreLinkedSoFar given history
    → AreLinkedSoFar given (after_octets given station octets history)
octets_linked given station [] history so_far = so_far
octets_linked given station (octet ∷ octets) history so_far =
    octets_linked given station octets (after_call given station (HostOctet octet) history)
    (call_linked given station (HostOctet octet) history (opens_none _ _ (HostOctet octet) refl) so_far)

pub feed_linked : (given : Given) (station : ℕ) (octets : List ℕ) (history : List Event) → AreLinkedSoFar given history
    → AreLinkedSoFar given (after_feed given station octets history)
feed_linked given station [] history so_far = so_far
feed_linked given station (octet ∷ octets) history so_far =
    octets_linked given station (octet ∷ octets) (history ++ HostFed station (octet ∷ octets) ∷ [])
    (event_linked given history (HostFed station (octet ∷ octets)) (λ other. refl) so_far)
