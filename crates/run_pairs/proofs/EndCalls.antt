-- What a call does to one end of a link, in the words of the laws of two ends.
use Rattle.std.proofs.Common.{◌≡◌, ◌⊎◌, inl, inr, ℕ, ◌+◌, ◌≤◌, ◌==◌, ◌&&◌, Bool, true, false, Option, Some, None, List, refl, sym, ap, subst, ◌∙◌, arith}
use Rattle.std.proofs.lemmas.Bool.{eqb-true, ltb-true}
use Rattle.std.specs.Prelude.{if◌then◌else◌}
use Rattle.ble_base.specs.declared.roles.Role.{Role}
use Rattle.ble_base.specs.declared.roles.Role.TheVariants.{Central, Peripheral}
use Rattle.ble_base.specs.declared.verdicts.Verdict.TheVariants.{Broken as BrokenPacket, Forged, Good}
use Rattle.air_frame.specs.declared.Heard.{Heard}
use Rattle.air_frame.specs.declared.Heard.TheVariants.{NotOurs, Broken, Whole}
use Rattle.link_calls.specs.link_model.Controls.{goes_on}
use Rattle.link_calls.specs.link_model.End.{facts_after as end_after, facts_of as end_facts}
use Rattle.link_calls.specs.link_model.Entering.{facts_entered_if}
use Rattle.link_calls.specs.link_model.Facts.{Facts as EndFacts}
use Rattle.link_calls.specs.link_model.Data.{is_control}
use Rattle.link_calls.specs.link_model.Fixing.{fixed_anew}
use Rattle.link_calls.specs.link_model.Packets.{good_pdu, heard_of, is_forged, is_forged_in, is_forged_pdu, pdu_read_in, verdict_of, whole_pdu}
use Rattle.link_calls.specs.link_model.Payload.{opens_now}
use Rattle.link_calls.specs.link_model.Receiving.{facts_forged_if, facts_received, has_ended, replies_by, replies_of}
use Rattle.link_calls.specs.link_model.Setup.{Setup as EndSetup}
use Rattle.link_calls.specs.link_model.Step.{Step as EndStep, EventEntered, PacketReceived, PacketSent, PduFixed}
use Rattle.link_calls.specs.link_model.Verdicts.{has_room_for, pdu_by, verdict_by, whole_in}
use Rattle.link_calls.specs.open_links.OpenLinks.{Links, OpenLink, facts_in, has_entered, link_after, link_at}
use Rattle.link_calls.specs.open_links.Turns.{entered_if, is_anchor, link_entered}
use Rattle.link_calls.proofs.open_links.Unmoved.{entered_setup}
use Rattle.link_calls.specs.controller_model.declared.doing.Doing.{Doing}
use Rattle.link_calls.specs.controller_model.declared.doing.Doing.TheVariants.{Advertises, CentralListens, CentralSends, PeripheralListens, PeripheralSends}
use Rattle.link_calls.specs.controller_model.Facts.{Setup, Facts}
use Rattle.link_calls.specs.controller_model.Side.{facts_after}
use Rattle.link_calls.specs.controller_model.Step.{TurnBegins}
use Rattle.link_calls.specs.Phases.{base_receiving, link_worded, refusal_at, refused_if}
use Rattle.link_runs.specs.link_pairs.Hearing.{received}
use Rattle.link_runs.specs.link_pairs.Turns.{MayExchange, entered_in, prepared}
use Rattle.link_runs.specs.link_pairs.Turns as turns
use Rattle.link_runs.proofs.EventsKept.{none_replies}
use Rattle.link_calls.proofs.run_laws.Agreed.{step_facts}
use Rattle.link_calls.proofs.run_laws.LinkPhases.{HasRole, IsInPhase}
use Rattle.link_calls.proofs.run_laws.TurnPlaces.{Between}
use Rattle.link_calls.proofs.Exchanging.{AreExchanging, begun_in_event}
use Rattle.link_calls.proofs.RadioUses.{Listening, Sending, Uses}
use Rattle.link_calls.proofs.controller_model.Exchanges.{exchange_has_entered}
use Rattle.link_calls.specs.controller_model.Entering.{HasEntered, IsInEvent}
use Rattle.link_calls.specs.controller_model.Radio.{outcome_begun}
use Rattle.link_calls.proofs.LinkCalls.{begins_under}
use Rattle.run_pairs.proofs.OneSide.{LastBefore, begun_last}
use Rattle.link_calls.specs.Turns.{fixed_if, sent_if}
use Rattle.link_calls.specs.Uses.{fixes_under, listens_under, sends_under}
use Rattle.run_pairs.proofs.LinkSteps.{base_under}

-- ---- a turn begins

entered_by : (goes anchor : Bool) (slot : ℕ) (link : OpenLink) → goes_on (facts_in link) ≡ goes
    → facts_in (entered_if (goes && anchor) slot link) ≡ (if anchor then end_after link.setup (facts_in link) (EventEntered slot) else facts_in link)
entered_by true true slot link is = step_facts link (EventEntered slot)
entered_by true false slot link is = refl
entered_by false true slot link is = sym (ap (λ (b : Bool). facts_entered_if b link.setup slot (facts_in link)) is)
entered_by false false slot link is = refl

pub entered_facts : (slot : ℕ) (link : OpenLink) → facts_in (link_entered slot link) ≡ entered_in link.setup slot (facts_in link)
entered_facts slot link = entered_by (goes_on (facts_in link)) (is_anchor slot link) slot link refl

fixed_facts : (fixes : Bool) (setup : EndSetup) (link : OpenLink) → facts_in (fixed_if fixes link) ≡ turns.fixed_if fixes setup (facts_in link)
fixed_facts true setup link = step_facts link PduFixed
fixed_facts false setup link = refl

sent_facts : (sends : Bool) (setup : EndSetup) (slot : ℕ) (link : OpenLink) → facts_in (sent_if sends slot link) ≡ turns.sent_if sends setup slot (facts_in link)
sent_facts true setup slot link = step_facts link (PacketSent slot)
sent_facts false setup slot link = refl

abbrev IsInExchange : ℕ → EndFacts → Type 0
IsInExchange slot facts = (slot ≡ facts.event.slot) ⊎ ((slot ≡ facts.event.slot + 1) × (facts.event.heard ≡ true))

-- what becomes of an end as a turn begins
pub record IsEndBegun (setup : EndSetup) (slot : ℕ) (exchanges sends : Bool) (before now : OpenLink) : Type 0 where
  pub facts : facts_in now ≡ turns.sent_if sends setup slot (prepared setup slot exchanges (facts_in before))
  pub may : MayExchange setup slot exchanges (facts_in before)
  pub unsent : sends ≡ false → LastBefore slot now.past

fixes_uses : (handle : ℕ) (doing : Doing) → fixes_under handle doing ≡ true → Uses handle doing
fixes_uses handle (CentralSends other) is = Sending is
fixes_uses handle (PeripheralListens other) is = Listening is
fixes_uses handle (Advertises channel) is = absurd cc
fixes_uses handle other is = absurd cc

-- a link on which an exchange begins has entered an event
fixes_entered : (handle : ℕ) (doing : Doing) (links : Links) (link : OpenLink) → fixes_under handle doing ≡ true → IsInEvent doing links → link_at handle links ≡ Some link
    → has_entered link ≡ true
fixes_entered handle (CentralSends other) links link same has is = subst HasEntered (ap (λ n. link_at n links) (eqb-true other handle same) ∙ is) has
fixes_entered handle (PeripheralListens other) links link same has is = subst HasEntered (ap (λ n. link_at n links) (eqb-true other handle same) ∙ is) has
fixes_entered handle (Advertises channel) links link same has is = absurd cc
fixes_entered handle other links link same has is = absurd cc

-- to fix a PDU changes nothing of its procedures
fixed_control : (fixes : Bool) (setup : EndSetup) (facts : EndFacts) → (turns.fixed_if fixes setup facts).control ≡ facts.control
fixed_control false setup facts = refl
fixed_control true setup facts = by (is_control facts.outgoing.fixed)
  where
    by : (stays : Bool) → (if stays then facts else fixed_anew facts).control ≡ facts.control
    by true = refl
    by false = refl

pub end_begun : (setup : Setup) (slot : ℕ) (facts : Facts) (on : Bool) (handle : ℕ) (after : OpenLink) → AreExchanging setup Between slot facts
    → (at : link_at handle (facts_after setup facts (TurnBegins slot on)).links ≡ Some after)
    → let has = begins_under setup facts slot on handle after at in LastBefore slot has.link.past
    → let doing = (facts_after setup facts (TurnBegins slot on)).turn.doing in
    IsEndBegun has.link.setup slot (fixes_under handle doing) (sends_under handle doing) has.link after
end_begun setup slot facts on handle after exchanging at last =
    let has = begins_under setup facts slot on handle after at in
    let doing = (facts_after setup facts (TurnBegins slot on)).turn.doing in
    let now = link_entered slot has.link in
    let entered : facts_in has.entered ≡ entered_in has.link.setup slot (facts_in has.link) =
    (λ i. end_facts ((has.setup_is ∙ sym (entered_setup slot has.link)) i) (has.past_is i)) ∙ entered_facts slot has.link in
    let base : facts_in has.base ≡ prepared has.link.setup slot (fixes_under handle doing) (facts_in has.link) =
    ap facts_in (base_under facts slot on handle doing after has) ∙ fixed_facts (fixes_under handle doing) has.link.setup has.entered
    ∙ ap (λ (f : EndFacts). turns.fixed_if (fixes_under handle doing) has.link.setup f) entered in record {
      facts = ap facts_in has.is ∙ sent_facts (sends_under handle doing) has.link.setup slot has.base
          ∙ ap (λ (f : EndFacts). turns.sent_if (sends_under handle doing) has.link.setup slot f) base;
      may = λ fixes.
          let outcome = outcome_begun slot on facts in
          let some = fixes_entered handle doing outcome.facts.links has.base fixes (exchange_has_entered slot on facts) has.found in
          let count = ap (λ (f : EndFacts). f.control.track.entered) base
          ∙ ap (λ c. c.track.entered) (fixed_control (fixes_under handle doing) has.link.setup (entered_in has.link.setup slot (facts_in has.link))) in (
            subst (λ n. 1 ≤ n) count (ltb-true 0 (facts_in has.base).control.track.entered some),
            subst (IsInExchange slot) (entered_facts slot has.link) (begun_in_event setup slot on facts exchanging handle after at (fixes_uses handle doing fixes)),
          );
      unsent = λ none. subst (λ (l : OpenLink). LastBefore slot l.past) (sym (has.is ∙ ap (λ b. sent_if b slot has.base) none)) (begun_last slot facts on handle doing after has last);
    }

-- ---- on which end it sends or listens

has_role : (role : Role) (links : Links) (handle other : ℕ) (link : OpenLink) → HasRole role (link_at other links) → (other == handle) ≡ true
    → link_at handle links ≡ Some link → link.setup.link.role ≡ role
has_role role links handle other link has same at =
    subst (HasRole role) (ap (λ n. link_at n links) (eqb-true other handle same) ∙ at) has

not_both : (X : Type 0) (one : Role) → one ≡ Central → one ≡ Peripheral → X
not_both X one central peripheral = absurd (let h : Central ≡ Peripheral = sym central ∙ peripheral in absurd cc)

if_not : (b : Bool) → (b ≡ true → false ≡ true) → b ≡ false
if_not true none = absurd (let h : false ≡ true = none refl in absurd cc)
if_not false none = refl

module _ (links : Links) (handle : ℕ) (link : OpenLink) (at : link_at handle links ≡ Some link) where
  -- as a turn begins, a central sends where it fixes its PDU
  pub central_sends : (doing : Doing) → IsInPhase 0 links doing → link.setup.link.role ≡ Central → fixes_under handle doing ≡ sends_under handle doing
  central_sends (CentralSends other) in_phase role = refl
  central_sends (PeripheralListens other) in_phase role =
      if_not (other == handle) (λ same. not_both _ link.setup.link.role role (has_role Peripheral links handle other link in_phase.1 same at))
  central_sends (PeripheralSends other) in_phase role = absurd (let h = in_phase.0 in omega (arith, h))
  central_sends (Advertises channel) in_phase role = refl
  central_sends other in_phase role = refl

  -- and a peripheral listens there, and sends nothing
  pub peripheral_listens : (doing : Doing) → IsInPhase 0 links doing → link.setup.link.role ≡ Peripheral → listens_under handle doing ≡ fixes_under handle doing
  peripheral_listens (PeripheralListens other) in_phase role = refl
  peripheral_listens (CentralListens other) in_phase role = absurd (let h = in_phase.0 in omega (arith, h))
  peripheral_listens (CentralSends other) in_phase role =
      sym (if_not (other == handle) (λ same. not_both _ link.setup.link.role (has_role Central links handle other link in_phase.1 same at) role))
  peripheral_listens (Advertises channel) in_phase role = refl
  peripheral_listens other in_phase role = refl

  pub peripheral_unsent : (doing : Doing) → IsInPhase 0 links doing → link.setup.link.role ≡ Peripheral → sends_under handle doing ≡ false
  peripheral_unsent (CentralSends other) in_phase role =
      if_not (other == handle) (λ same. not_both _ link.setup.link.role (has_role Central links handle other link in_phase.1 same at) role)
  peripheral_unsent (PeripheralSends other) in_phase role = absurd (let h = in_phase.0 in omega (arith, h))
  peripheral_unsent (Advertises channel) in_phase role = refl
  peripheral_unsent other in_phase role = refl

  -- a central takes a packet in the second phase, and a peripheral in the first
  pub central_takes_in : (phases : ℕ) (doing : Doing) → IsInPhase phases links doing → listens_under handle doing ≡ true → link.setup.link.role ≡ Central → phases ≡ 1
  central_takes_in phases (CentralListens other) in_phase listens role = in_phase.0
  central_takes_in phases (PeripheralListens other) in_phase listens role =
      not_both _ link.setup.link.role role (has_role Peripheral links handle other link in_phase.1 listens at)
  central_takes_in phases (Advertises channel) in_phase listens role = absurd cc
  central_takes_in phases other in_phase listens role = absurd cc

  -- a central is given no words
  pub central_unworded : (setup : Setup) (facts : Facts) (phases : ℕ) (doing : Doing) → IsInPhase phases links doing → listens_under handle doing ≡ true
      → link.setup.link.role ≡ Central → link_worded setup facts doing link ≡ link
  central_unworded setup facts phases (CentralListens other) in_phase listens role = refl
  central_unworded setup facts phases (PeripheralListens other) in_phase listens role =
      not_both _ link.setup.link.role role (has_role Peripheral links handle other link in_phase.1 listens at)
  central_unworded setup facts phases (Advertises channel) in_phase listens role = absurd cc
  central_unworded setup facts phases other in_phase listens role = absurd cc

  pub peripheral_takes_in : (phases : ℕ) (doing : Doing) → IsInPhase phases links doing → listens_under handle doing ≡ true → link.setup.link.role ≡ Peripheral
      → phases ≡ 0
  peripheral_takes_in phases (PeripheralListens other) in_phase listens role = in_phase.0
  peripheral_takes_in phases (CentralListens other) in_phase listens role =
      not_both _ link.setup.link.role (has_role Central links handle other link in_phase.1 listens at) role
  peripheral_takes_in phases (Advertises channel) in_phase listens role = absurd cc
  peripheral_takes_in phases other in_phase listens role = absurd cc

-- ---- it takes a packet

-- a packet that is not good changes nothing, and is not answered
pub record IsUnheard (setup : EndSetup) (slot : ℕ) (octets : List ℕ) (room : Bool) (facts : EndFacts) : Type 0 where
  pub same : received setup slot octets room facts ≡ facts
  pub replies : replies_of setup facts slot octets room ≡ false

-- one that is not forged is good or is not heard
pub good_or_unheard : (setup : EndSetup) (slot : ℕ) (octets : List ℕ) (room : Bool) (facts : EndFacts) → is_forged setup facts octets ≡ false
    → (verdict_of setup facts octets ≡ Good) ⊎ IsUnheard setup slot octets room facts
unfolding good_pdu verdict_of replies_of whole_pdu is_forged
good_or_unheard setup slot octets room facts none_forged = got (of (heard_of setup facts octets) none_forged)
  where
    most : ℕ
    most = setup.link.max_rx

    opens : Bool
    opens = opens_now facts.encryption.end

    at : (fits : Bool) (pdu : List ℕ) → is_forged_in facts (pdu_by fits pdu) ≡ false
        → ((if fits then (if is_forged_pdu facts pdu then Forged else Good) else BrokenPacket) ≡ Good) ⊎ (pdu_by fits pdu ≡ None)
    at true pdu is = inl (ap (λ (forged : Bool). if forged then Forged else Good) is)
    at false pdu is = inr refl

    of : (heard : Heard) → is_forged_in facts (whole_in most opens heard) ≡ false
        → (verdict_by most opens (is_forged_pdu facts) heard ≡ Good) ⊎ (whole_in most opens heard ≡ None)
    of NotOurs is = inr refl
    of Broken is = inr refl
    of (Whole pdu) is = at (has_room_for most opens pdu.items) pdu.items is

    got : (verdict_by most opens (is_forged_pdu facts) (heard_of setup facts octets) ≡ Good) ⊎ (whole_in most opens (heard_of setup facts octets) ≡ None)
        → (verdict_of setup facts octets ≡ Good) ⊎ IsUnheard setup slot octets room facts
    got (inl good) = inl good
    got (inr none) = inr (record {
      same = ap (λ (pdu : Option (List ℕ)). facts_forged_if (is_forged_in facts pdu) (facts_received setup.link.role slot room (pdu_read_in facts pdu) facts)) none;
      replies = ap (λ (pdu : Option (List ℕ)).
          replies_by setup.link.role (has_ended (facts_received setup.link.role slot room (pdu_read_in facts pdu) facts)) (pdu_read_in facts pdu)) none
          ∙ none_replies setup.link.role _;
    })

-- and a good one is not forged
pub good_genuine : (setup : EndSetup) (octets : List ℕ) (facts : EndFacts) → verdict_of setup facts octets ≡ Good → is_forged setup facts octets ≡ false
unfolding good_pdu verdict_of whole_pdu is_forged
good_genuine setup octets facts good = of (heard_of setup facts octets) good
  where
    most : ℕ
    most = setup.link.max_rx

    opens : Bool
    opens = opens_now facts.encryption.end

    read : (forged : Bool) → (if forged then Forged else Good) ≡ Good → forged ≡ false
    read true is = absurd (cc)
    read false is = refl

    at : (fits : Bool) (pdu : List ℕ) → (if fits then (if is_forged_pdu facts pdu then Forged else Good) else BrokenPacket) ≡ Good
        → is_forged_in facts (pdu_by fits pdu) ≡ false
    at true pdu is = read (is_forged_pdu facts pdu) is
    at false pdu is = refl

    of : (heard : Heard) → verdict_by most opens (is_forged_pdu facts) heard ≡ Good → is_forged_in facts (whole_in most opens heard) ≡ false
    of NotOurs is = refl
    of Broken is = refl
    of (Whole pdu) is = at (has_room_for most opens pdu.items) pdu.items is

central_silent_by : (role : Role) (ended : Bool) (pdu : Option (List ℕ)) → role ≡ Central → replies_by role ended pdu ≡ false
central_silent_by Central ended pdu is = refl
central_silent_by Peripheral ended pdu is = absurd cc

pub central_silent : (setup : EndSetup) (slot : ℕ) (octets : List ℕ) (room : Bool) (facts : EndFacts) → setup.link.role ≡ Central
    → replies_of setup facts slot octets room ≡ false
unfolding replies_of
central_silent setup slot octets room facts is = central_silent_by setup.link.role _ _ is

-- it answers at once in place of its host, or does not
abbrev pub refused_facts : Option EndStep → EndSetup → EndFacts → EndFacts
refused_facts None setup facts = facts
refused_facts (Some step) setup facts = end_after setup facts step

pub receiving_facts : (handle : ℕ) (room : Bool) (octets : List ℕ) (facts : Facts) (base : OpenLink)
    → facts_in (base_receiving handle room octets facts base)
    ≡ refused_facts (refusal_at handle room octets facts base) base.setup (received base.setup facts.turn.slot octets room (facts_in base))
receiving_facts handle room octets facts base = by (refusal_at handle room octets facts base)
  where
    by : (answer : Option EndStep) → facts_in (refused_if answer (link_after (PacketReceived facts.turn.slot octets room) base))
        ≡ refused_facts answer base.setup (received base.setup facts.turn.slot octets room (facts_in base))
    by None = step_facts base (PacketReceived facts.turn.slot octets room)
    by (Some step) =
        step_facts (link_after (PacketReceived facts.turn.slot octets room) base) step
        ∙ ap (λ (f : EndFacts). end_after base.setup f step) (step_facts base (PacketReceived facts.turn.slot octets room))

pub taking_facts : (sends : Bool) (handle : ℕ) (room : Bool) (octets : List ℕ) (facts : Facts) (base : OpenLink)
    → facts_in (sent_if sends facts.turn.slot (base_receiving handle room octets facts base))
    ≡ turns.sent_if sends base.setup facts.turn.slot
    (refused_facts (refusal_at handle room octets facts base) base.setup (received base.setup facts.turn.slot octets room (facts_in base)))
taking_facts sends handle room octets facts base =
    sent_facts sends base.setup facts.turn.slot (base_receiving handle room octets facts base)
    ∙ ap (λ (f : EndFacts). turns.sent_if sends base.setup facts.turn.slot f) (receiving_facts handle room octets facts base)
