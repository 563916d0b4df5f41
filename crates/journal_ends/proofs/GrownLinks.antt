-- How the past of the link under a handle grows in each call of a turn on a controller.
use Rattle.std.proofs.Common.{◌≡◌, ℕ, Bool, true, false, Option, Some, None, List, [], ◌∷◌, ◌++◌, refl, sym, ap, subst, ◌∙◌, append-nil, append_assoc}
use Rattle.std.specs.Prelude.{IfSome, Err, nat_lt, if◌then◌else◌, ⊤}
use Rattle.std.specs.Option.{option_map}
use Rattle.ble_base.specs.ErrorCodes.{unsupported_remote_feature}
use Rattle.data_pdu.specs.declared.ctrl.Ctrl.{Ctrl}
use Rattle.data_pdu.specs.declared.ctrl.Ctrl.TheVariants.{EncReq}
use Rattle.journal_acks.specs.controller_model.Data.{facts_handed}
use Rattle.journal_acks.specs.controller_model.Facts.{Setup, Facts}
use Rattle.journal_acks.specs.controller_model.Heard.{answer_unless, effect_in, kept_effect_in, key_refusal, or_refusal, refusal_in, refusal_of}
use Rattle.journal_acks.specs.controller_model.Side.{facts_after}
use Rattle.journal_acks.specs.controller_model.Step.{TurnBegins, TurnEnds}
use Rattle.journal_acks.proofs.controller_model.Always.{leaving_is}
use Rattle.journal_acks.specs.link_model.Step.{Step, DataReported, EventEntered, KeyAnswered, PacketReceived, PacketSent, PduFixed, RequestAnswered}
use Rattle.journal_acks.specs.link_model.procedure_stages.declared.steps.Effect.{Effect}
use Rattle.journal_acks.specs.link_model.procedure_stages.declared.steps.Effect.TheVariants.{AskHost, Cipher}
use Rattle.host_view.specs.View.{View}
use Rattle.journal_acks.specs.open_links.Data.{complete_in, link_reported, links_reported}
use Rattle.journal_acks.specs.open_links.OpenLinks.{Links, OpenLink, link_after, link_at}
use Rattle.journal_acks.specs.open_links.Turns.{ending_in, entered_if, enters_in, links_without}
use Rattle.journal_acks.proofs.link_calls.LinkCalls.{begins_under}
use Rattle.journal_acks.specs.link_calls.Phases.{base_receiving, refusal_at, refused_if}
use Rattle.journal_acks.specs.link_calls.Uses.{sends_under}
use Rattle.journal_acks.proofs.link_calls.UnderHandles.{WasOpen, map_under, staying_under, was_open}
use Rattle.journal_acks.specs.link_calls.Turns.{change_if, sent_if}
use Rattle.journal_ends.proofs.PastSeen.{AreDeaf, IsDeaf, deaf_both}

-- ---- one link

-- more happened to the end of a link, and it heard nothing in that
pub record IsGrown (one after : OpenLink) : Type 0 where
  pub setup_is : after.setup ≡ one.setup
  pub steps : List Step
  pub past_is : after.past ≡ one.past ++ steps
  pub deaf : AreDeaf steps

pub grown_same : (link : OpenLink) → IsGrown link link
grown_same link = record { setup_is = refl; steps = []; past_is = sym (append-nil link.past); deaf = tt }

grown_after : (step : Step) (link : OpenLink) → IsDeaf step → IsGrown link (link_after step link)
grown_after step link deaf = record { setup_is = refl; steps = step ∷ []; past_is = refl; deaf = (deaf, tt) }

grown_then : (one next after : OpenLink) → IsGrown one next → IsGrown next after → IsGrown one after
grown_then one next after first second = record {
  setup_is = second.setup_is ∙ first.setup_is;
  steps = first.steps ++ second.steps;
  past_is = second.past_is ∙ ap (λ xs. xs ++ second.steps) first.past_is ∙ append_assoc one.past first.steps second.steps;
  deaf = deaf_both first.steps second.steps first.deaf second.deaf;
}

grown_if : (changes : Bool) (step : Step) (link : OpenLink) → IsDeaf step → IsGrown link (change_if changes (link_after step) link)
grown_if true step link deaf = grown_after step link deaf
grown_if false step link deaf = grown_same link

-- ---- the link under a handle

pub record HasGrown (links : Links) (handle : ℕ) (after : OpenLink) : Type 0 where
  pub base : OpenLink
  pub was : link_at handle links ≡ Some base
  pub is : IsGrown base after

-- ---- a turn begins

entered_grown : (enters : Bool) (slot : ℕ) (link : OpenLink) → IsGrown link (entered_if enters slot link)
entered_grown true slot link = grown_after (EventEntered slot) link (refl, λ setup facts. refl)
entered_grown false slot link = grown_same link

pub begun_grown : (setup : Setup) (facts : Facts) (slot : ℕ) (on : Bool) (handle : ℕ) (after : OpenLink)
    → link_at handle (facts_after setup facts (TurnBegins slot on)).links ≡ Some after → HasGrown facts.links handle after
begun_grown setup facts slot on handle after at =
    let begun = begins_under setup facts slot on handle after at in
    let sends = sends_under handle (facts_after setup facts (TurnBegins slot on)).turn.doing in
    let entered = entered_grown (enters_in slot begun.link) slot begun.link in
    let first : IsGrown begun.link begun.entered = record {
      setup_is = begun.setup_is;
      steps = entered.steps;
      past_is = begun.past_is ∙ entered.past_is;
      deaf = entered.deaf;
    } in
    let fixed = subst (IsGrown begun.entered) (sym begun.base_is) (grown_if begun.fixes PduFixed begun.entered (refl, λ setup facts. refl)) in
    let sent = subst (IsGrown begun.base) (sym begun.is) (grown_if sends (PacketSent slot) begun.base (refl, λ setup facts. refl)) in
    record { base = begun.link; was = begun.was; is = grown_then begun.link begun.base after (grown_then begun.link begun.entered begun.base first fixed) sent }

-- ---- a turn ends

pub ended_grown : (setup : Setup) (facts : Facts) (handle : ℕ) (after : OpenLink)
    → link_at handle (facts_after setup facts TurnEnds).links ≡ Some after → HasGrown facts.links handle after
ended_grown setup facts handle after at =
    let now : link_at handle (links_without ending_in (links_reported facts.links)) ≡ Some after =
    ap (λ (left : Facts). link_at handle left.links) (sym (leaving_is (facts_handed facts))) ∙ at in
    let stayed = staying_under ending_in handle (links_reported facts.links) after now in
    found (was_open link_reported (link_at handle facts.links) after (sym (map_under (option_map link_reported) refl 0 handle facts.links) ∙ stayed.was))
  where
    by : (reports : Bool) (link : OpenLink) → IsGrown link (if reports then link_after DataReported link else link)
    by true link = grown_after DataReported link (refl, λ setup facts. refl)
    by false link = grown_same link

    found : WasOpen link_reported (link_at handle facts.links) after → HasGrown facts.links handle after
    found was = record { base = was.link; was = was.was; is = subst (IsGrown was.link) (sym was.is) (by (nat_lt 0 (complete_in was.link)) was.link) }

-- ---- a phase passes

-- a request that is withheld from the host is answered at once, as a host does
abbrev pub IsRefusal : Step → Type 0
IsRefusal (RequestAnswered answer) = ⊤
IsRefusal (KeyAnswered key slot) = ⊤
IsRefusal step = ⊥

unless_refusal : (passes : Bool) (step : Step) → IsRefusal step → IfSome (answer_unless passes step) IsRefusal
unless_refusal true step is = tt
unless_refusal false step is = is

key_refuses : (view : View) (handle slot : ℕ) (ctrl : Ctrl) → IfSome (key_refusal view handle slot ctrl) IsRefusal
key_refuses view handle slot (EncReq rand ediv skd_m iv_m) = unless_refusal _ (KeyAnswered None slot) tt
key_refuses view handle slot other = tt

effect_refuses : (view : View) (handle slot : ℕ) (effect : Effect) → IfSome (refusal_of view handle slot effect) IsRefusal
effect_refuses view handle slot (AskHost min max latency timeout) =
    unless_refusal _ (RequestAnswered (Err (record { 0 = unsupported_remote_feature }))) tt
effect_refuses view handle slot (Cipher ctrl) = key_refuses view handle slot ctrl
effect_refuses view handle slot other = tt

either_refuses : (one other : Option Step) → IfSome one IsRefusal → IfSome other IsRefusal → IfSome (or_refusal one other) IsRefusal
either_refuses None other is also = also
either_refuses (Some step) other is also = is

pub refusal_in_is : (view : View) (handle slot : ℕ) (room : Bool) (place : Option OpenLink) (octets : List ℕ) → IfSome (refusal_in view handle slot room place octets) IsRefusal
refusal_in_is view handle slot room place octets =
    either_refuses _ _ (effect_refuses view handle slot (effect_in slot room place octets)) (effect_refuses view handle slot (kept_effect_in slot room place octets))

pub refusal_is : (handle : ℕ) (room : Bool) (octets : List ℕ) (facts : Facts) (base : OpenLink) → IfSome (refusal_at handle room octets facts base) IsRefusal
refusal_is handle room octets facts base = refusal_in_is facts.view handle facts.turn.slot room (Some base) octets

-- which is not seen
refusal_deaf : (step : Step) → IsRefusal step → IsDeaf step
refusal_deaf (RequestAnswered answer) is = (refl, λ setup facts. refl)
refusal_deaf (KeyAnswered key slot) is = (refl, λ setup facts. refl)
refusal_deaf step is = absurd is

-- it received these octets, and heard nothing after that
pub record HasTaken (slot : ℕ) (octets : List ℕ) (room : Bool) (base after : OpenLink) : Type 0 where
  pub setup_is : after.setup ≡ base.setup
  pub steps : List Step
  pub past_is : after.past ≡ base.past ++ PacketReceived slot octets room ∷ steps
  pub deaf : AreDeaf steps

pub taken_grown : (sends : Bool) (handle : ℕ) (room : Bool) (octets : List ℕ) (facts : Facts) (base after : OpenLink)
    → after ≡ sent_if sends facts.turn.slot (base_receiving handle room octets facts base) → HasTaken facts.turn.slot octets room base after
taken_grown sends handle room octets facts base after is =
    let step = PacketReceived facts.turn.slot octets room in
    let taken = link_after step base in
    let refusal = refusal_at handle room octets facts base in
    let all = subst (IsGrown taken) (sym is)
    (grown_then taken (refused_if refusal taken) (sent_if sends facts.turn.slot (refused_if refusal taken))
    (refused refusal taken (refusal_is handle room octets facts base))
    (grown_if sends (PacketSent facts.turn.slot) (refused_if refusal taken) (refl, λ setup held. refl))) in record {
      setup_is = all.setup_is;
      steps = all.steps;
      past_is = all.past_is ∙ append_assoc base.past (step ∷ []) all.steps;
      deaf = all.deaf;
    }
  where
    refused : (refusal : Option Step) (link : OpenLink) → IfSome refusal IsRefusal → IsGrown link (refused_if refusal link)
    refused None link is = grown_same link
    refused (Some step) link is = grown_after step link (refusal_deaf step is)
