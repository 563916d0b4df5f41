-- The links of a controller place by place, as the one under a handle changes.
use Rattle.std.proofs.Common.{◌≡◌, ℕ, ◌+◌, ◌==◌, Bool, true, false, Option, Some, None, List, [], ◌∷◌, sym, subst, ap, refl, ◌∙◌, if◌then◌else◌}
use Rattle.std.specs.Option.{option_map}
use Rattle.std.specs.Prelude.{IfSome}
use Rattle.std.proofs.lemmas.Bool.{eq-eqb, eqb-true}
use Rattle.data_pdu.specs.declared.ctrl.Ctrl.{Ctrl}
use Rattle.data_pdu.specs.declared.ctrl.Ctrl.TheVariants.{EncReq}
use Rattle.hci_evt.specs.declared.event.Event.TheVariants.{KeyRequest, ParamRequest}
use Rattle.hci_evt.specs.Event.{mask_bit_of}
use Rattle.host_view.specs.View.{View}
use Rattle.link_commands.specs.open_links.link_model.procedure_stages.declared.steps.Effect.{Effect}
use Rattle.link_commands.specs.open_links.link_model.procedure_stages.declared.steps.Effect.TheVariants.{AskHost, Cipher}
use Rattle.link_commands.specs.open_links.link_model.Step.{Step as EndStep, PacketReceived}
use Rattle.link_commands.specs.open_links.OpenLinks.{Links, OpenLink, link_after, link_at, with_change, with_change_from}
use Rattle.link_commands.proofs.open_links.Handles.{changed_is, other_stays}
use Rattle.controller_model.specs.Events.{passes}
use Rattle.controller_model.specs.Facts.{Facts}
use Rattle.controller_model.specs.Heard.{answer_unless, effect_in, kept_effect_in, key_refusal, link_received, links_refusing, or_refusal, refusal_in, refusal_of}
use Rattle.controller_model.proofs.Asked.{IsAskedStep}

-- a fact of what is under a handle, as what is under another one changes, or what is under that one
pub at_changed : (P : Option OpenLink → Type 0) (handle other : ℕ) (change : OpenLink → OpenLink) (links : Links)
    → P (link_at other links) → (handle ≡ other → P (option_map change (link_at other links)))
    → P (link_at other (with_change handle change links))
at_changed P handle other change links holds changed = at (handle == other) refl
  where
    at : (same : Bool) → (handle == other) ≡ same → P (link_at other (with_change handle change links))
    at true same =
        let is = eqb-true handle other same in
        subst (λ n. P (link_at other (with_change n change links))) (sym is)
        (subst P (sym (changed_is (option_map change) 0 other links refl)) (changed is))
    at false same =
        subst P
        (sym (other_stays (option_map change) 0 handle other links (λ is. absurd (let h : true ≡ false = sym (eq-eqb handle other (sym is)) ∙ same in absurd cc))))
        holds

-- ---- a link that receives a packet, a request of which may be answered at once

abbrev pub refused_if : Option EndStep → OpenLink → OpenLink
refused_if None link = link
refused_if (Some step) link = link_after step link

-- the packet has a request that is answered at once
abbrev pub refusal_at : ℕ → Bool → List ℕ → Facts → Option EndStep
refusal_at handle room octets facts =
    refusal_in facts.view handle facts.turn.slot room (link_at handle facts.links) octets

-- it is answered as a host does
unless_is : (passes : Bool) (step : EndStep) → IsAskedStep step → IfSome (answer_unless passes step) IsAskedStep
unless_is true step asks = tt
unless_is false step asks = asks

key_is : (view : View) (handle slot : ℕ) (ctrl : Ctrl) → IfSome (key_refusal view handle slot ctrl) IsAskedStep
key_is view handle slot (EncReq rand ediv skd_m iv_m) = unless_is (passes view (mask_bit_of (KeyRequest handle rand ediv))) _ tt
key_is view handle slot other = tt

effect_is : (view : View) (handle slot : ℕ) (effect : Effect) → IfSome (refusal_of view handle slot effect) IsAskedStep
effect_is view handle slot (AskHost min max latency timeout) =
    unless_is (passes view (mask_bit_of (ParamRequest handle min max latency timeout))) _ tt
effect_is view handle slot (Cipher ctrl) = key_is view handle slot ctrl
effect_is view handle slot other = tt

either_is : (one other : Option EndStep) → IfSome one IsAskedStep → IfSome other IsAskedStep → IfSome (or_refusal one other) IsAskedStep
either_is None other is also = also
either_is (Some step) other is also = is

pub refusal_is : (handle : ℕ) (room : Bool) (octets : List ℕ) (facts : Facts) → IfSome (refusal_at handle room octets facts) IsAskedStep
refusal_is handle room octets facts =
    let place = link_at handle facts.links in
    either_is _ _ (effect_is facts.view handle facts.turn.slot (effect_in facts.turn.slot room place octets))
    (effect_is facts.view handle facts.turn.slot (kept_effect_in facts.turn.slot room place octets))

abbrev pub link_receiving : ℕ → Bool → List ℕ → Facts → OpenLink → OpenLink
link_receiving handle room octets facts link =
    refused_if (refusal_at handle room octets facts) (link_after (PacketReceived facts.turn.slot octets room) link)

-- two changes of one link are one
changed_twice : (first handle : ℕ) (change next : OpenLink → OpenLink) (links : Links)
    → with_change_from first handle (option_map next) (with_change_from first handle (option_map change) links)
    ≡ with_change_from first handle (option_map (λ link. next (change link))) links
changed_twice first handle change next [] = refl
changed_twice first handle change next (place ∷ links) = at (first == handle) refl (changed_twice (first + 1) handle change next links)
  where
    here : (place : Option OpenLink) → option_map next (option_map change place) ≡ option_map (λ link. next (change link)) place
    here None = refl
    here (Some link) = refl

    at : (test : Bool) → (first == handle) ≡ test
        → with_change_from (first + 1) handle (option_map next) (with_change_from (first + 1) handle (option_map change) links)
        ≡ with_change_from (first + 1) handle (option_map (λ link. next (change link))) links
        → with_change_from first handle (option_map next)
        (if test then option_map change place ∷ links else place ∷ with_change_from (first + 1) handle (option_map change) links)
        ≡ (if test then option_map (λ link. next (change link)) place ∷ links
        else place ∷ with_change_from (first + 1) handle (option_map (λ link. next (change link))) links)
    at true is rest = rw is (ap (λ (now : Option OpenLink). now ∷ links) (here place))
    at false is rest = rw is (ap (λ (later : Links). place ∷ later) rest)

refusing_after : (refusal : Option EndStep) (handle : ℕ) (change : OpenLink → OpenLink) (links : Links)
    → links_refusing refusal handle (with_change handle change links) ≡ with_change handle (λ link. refused_if refusal (change link)) links
refusing_after (Some step) handle change links = changed_twice 0 handle change (link_after step) links
refusing_after None handle change links = refl

-- all that a reception changes is the link under its handle
pub receiving_is : (handle : ℕ) (room : Bool) (octets : List ℕ) (facts : Facts)
    → (link_received handle room octets facts).links ≡ with_change handle (link_receiving handle room octets facts) facts.links
receiving_is handle room octets facts =
    refusing_after (refusal_at handle room octets facts) handle (link_after (PacketReceived facts.turn.slot octets room)) facts.links

-- a fact of what is under a handle, as the link under one receives
pub at_received : (P : Option OpenLink → Type 0) (handle other : ℕ) (room : Bool) (octets : List ℕ) (facts : Facts)
    → P (link_at other facts.links)
    → (handle ≡ other → P (option_map (link_receiving handle room octets facts) (link_at other facts.links)))
    → P (link_at other (link_received handle room octets facts).links)
at_received P handle other room octets facts holds changed =
    subst (λ (links : Links). P (link_at other links)) (sym (receiving_is handle room octets facts))
    (at_changed P handle other (link_receiving handle room octets facts) facts.links holds changed)
