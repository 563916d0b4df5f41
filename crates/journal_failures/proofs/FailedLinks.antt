-- A call of a controller ends a link for a failed integrity only with a packet that the link receives.
use Rattle.std.proofs.Common.{◌≡◌, ◌⊎◌, inl, inr, ℕ, Bool, true, false, List, Option, Some, None, refl, sym, ap, subst, ◌∙◌, if◌then◌else◌}
use Rattle.std.specs.Prelude.{IfSome, nat_lt}
use Rattle.ble_base.specs.declared.error_codes.ErrCode.{ErrCode}
use Rattle.ble_base.specs.declared.verdicts.Verdict.TheVariants.{Broken as BrokenPacket, Forged, Good}
use Rattle.air_frame.specs.declared.Heard.{Heard}
use Rattle.air_frame.specs.declared.Heard.TheVariants.{Broken, NotOurs, Whole}
use Rattle.journal_outcomes.specs.controller_model.Facts.{Facts, Setup}
use Rattle.journal_outcomes.specs.controller_model.Heard.{has_room}
use Rattle.journal_outcomes.specs.controller_model.Side.{facts_after}
use Rattle.journal_outcomes.specs.controller_model.Step.{HostOctet, NothingHeard, PacketHeard, Step, TurnBegins, TurnEnds}
use Rattle.journal_outcomes.specs.controller_model.declared.doing.Doing.{Doing}
use Rattle.journal_outcomes.proofs.controller_model.Asked.{IsAskedStep}
use Rattle.journal_outcomes.specs.link_calls.Hosts.{GetsData, HasHeardHost, IsAsked, Unchanged}
use Rattle.journal_outcomes.specs.link_calls.Phases.{HasPassed, IsNew, Stays, Takes, base_receiving, link_receiving, link_worded, refusal_at, refused_if}
use Rattle.journal_outcomes.specs.link_calls.Turns.{fixed_if, sent_if}
use Rattle.journal_outcomes.specs.link_calls.Uses.{listens_under, sends_under}
use Rattle.journal_outcomes.specs.link_calls.link_model.End.{facts_of as end_facts_of}
use Rattle.journal_outcomes.specs.link_calls.link_model.Facts.{Facts as EndFacts}
use Rattle.journal_outcomes.specs.link_calls.link_model.Packets.{heard_of, is_forged, is_forged_in, is_forged_pdu, verdict_of, whole_pdu}
use Rattle.journal_outcomes.specs.link_calls.link_model.Payload.{opens_now}
use Rattle.journal_outcomes.specs.link_calls.link_model.Setup.{Setup as EndSetup}
use Rattle.journal_outcomes.specs.link_calls.link_model.Step.{DataGiven, DataReported, Disconnected, EventEntered, KeyAnswered, PacketReceived, PacketSent, PduFixed, ProcedureAsked, RequestAnswered, Step as EndStep, WordsGiven}
use Rattle.journal_outcomes.specs.link_calls.link_model.Verdicts.{has_room_for, pdu_by, verdict_by, whole_in}
use Rattle.journal_outcomes.specs.link_calls.open_links.Data.{complete_in, link_reported}
use Rattle.journal_outcomes.specs.link_calls.open_links.OpenLinks.{OpenLink, facts_in, link_after, link_at}
use Rattle.journal_outcomes.specs.link_calls.open_links.Turns.{enters_in}
use Rattle.journal_outcomes.specs.link_calls.run_model.Run.{step_of}
use Rattle.journal_outcomes.proofs.link_calls.AtOnce.{IsRefusal, refusal_is}
use Rattle.journal_outcomes.proofs.link_calls.HostSteps.{asked_is_well}
use Rattle.journal_outcomes.proofs.link_calls.LinkCalls.{HasBegun, begins_under, phase_under}
use Rattle.journal_outcomes.proofs.link_calls.UnderHandles.{ended_under, host_under}
use Rattle.journal_outcomes.proofs.link_calls.Worded.{each_worded, worded_setup}
use Rattle.journal_outcomes.proofs.link_calls.open_links.Unmoved.{entered_setup}
use Rattle.journal_outcomes.proofs.link_calls.run_laws.Agreed.{step_facts}
use Rattle.journal_outcomes.specs.link_runs.link_pairs.Hearing.{received}
use Rattle.journal_outcomes.proofs.journal_crossing.journal_collisions.journal_endings.run_pairs.EndCalls.{IsUnheard, good_or_unheard}
use Rattle.journal_outcomes.proofs.journal_crossing.journal_collisions.journal_endings.CallsKeep.{refusal_off}
use Rattle.journal_outcomes.proofs.journal_crossing.journal_collisions.journal_endings.run_pairs.Worded.{worded_verdict}
use Rattle.journal_outcomes.proofs.journal_crossing.journal_collisions.journal_endings.EndingProcedures.{is_receiving, same_ends}
use Rattle.journal_failures.proofs.GoodPackets.{is_failed}

-- ---- with what an end ended the link

abbrev pub ends_in : OpenLink → Option ErrCode
ends_in link = (facts_in link).control.ends

after_ends : (link : OpenLink) (step : EndStep) → is_receiving step ≡ false → ends_in (link_after step link) ≡ ends_in link
after_ends link step off = ap (λ (f : EndFacts). f.control.ends) (step_facts link step) ∙ same_ends link.setup (facts_in link) step off

after_if : (does : Bool) (link : OpenLink) (step : EndStep) → is_receiving step ≡ false → ends_in (if does then link_after step link else link) ≡ ends_in link
after_if true link step off = after_ends link step off
after_if false link step off = refl

fixed_ends : (fixes : Bool) (link : OpenLink) → ends_in (fixed_if fixes link) ≡ ends_in link
fixed_ends true link = after_ends link PduFixed refl
fixed_ends false link = refl

sent_ends : (sends : Bool) (slot : ℕ) (link : OpenLink) → ends_in (sent_if sends slot link) ≡ ends_in link
sent_ends true slot link = after_ends link (PacketSent slot) refl
sent_ends false slot link = refl

worded_ends : (setup : Setup) (facts : Facts) (doing : Doing) (link : OpenLink) → ends_in (link_worded setup facts doing link) ≡ ends_in link
worded_ends setup facts doing link =
    each_worded (λ base. ends_in base ≡ ends_in link) setup facts doing link refl (λ skd_s iv_s. after_ends link (WordsGiven skd_s iv_s) refl)

pub reported_ends : (link : OpenLink) → ends_in (link_reported link) ≡ ends_in link
reported_ends link = after_if (nat_lt 0 (complete_in link)) link DataReported refl

asked_off : (step : EndStep) → IsAskedStep step → is_receiving step ≡ false
asked_off (ProcedureAsked ask) by_host = refl
asked_off (RequestAnswered answer) by_host = refl
asked_off (KeyAnswered key slot) by_host = refl
asked_off (Disconnected reason slot) by_host = refl
asked_off (DataGiven start body) by_host = absurd by_host
asked_off step by_host = absurd by_host

refused_ends : (answer : Option EndStep) (link : OpenLink) → IfSome answer IsRefusal → ends_in (refused_if answer link) ≡ ends_in link
refused_ends (Some step) link is = after_ends link step (refusal_off step is)
refused_ends None link is = refl

-- a packet is forged
forged_so : (setup : EndSetup) (facts : EndFacts) (octets : List ℕ) → is_forged setup facts octets ≡ true → verdict_of setup facts octets ≡ Forged
unfolding verdict_of is_forged whole_pdu
forged_so setup facts octets is = by (heard_of setup facts octets) is
  where
    opens : Bool
    opens = opens_now facts.encryption.end

    fits : (room forged : Bool) (pdu : List ℕ) → is_forged_pdu facts pdu ≡ forged → is_forged_in facts (pdu_by room pdu) ≡ true
        → (if room then (if forged then Forged else Good) else BrokenPacket) ≡ Forged
    fits true true pdu found is = refl
    fits true false pdu found is = absurd (let no = sym found ∙ is in cc)
    fits false forged pdu found is = absurd cc

    by : (heard : Heard) → is_forged_in facts (whole_in setup.link.max_rx opens heard) ≡ true → verdict_by setup.link.max_rx opens (is_forged_pdu facts) heard ≡ Forged
    by NotOurs is = absurd cc
    by Broken is = absurd cc
    by (Whole pdu) is = fits (has_room_for setup.link.max_rx opens pdu.items) (is_forged_pdu facts pdu.items) pdu.items refl is

-- ---- one call

-- the open link under a handle was ended so before the call, or hears a packet in it
pub data FailedBy (setup : Setup) (facts : Facts) (step : Step) (handle : ℕ) : Type 0 where
  WasFailed : (link : OpenLink) → link_at handle facts.links ≡ Some link → is_failed (ends_in link) ≡ true → FailedBy setup facts step handle
  HeardForged : (octets : List ℕ) (link : OpenLink) → step ≡ PacketHeard octets → link_at handle facts.links ≡ Some link
      → listens_under handle facts.turn.doing ≡ true → verdict_of link.setup (facts_in link) octets ≡ Forged → FailedBy setup facts step handle
  HeardGood : (octets : List ℕ) (link : OpenLink) → step ≡ PacketHeard octets → link_at handle facts.links ≡ Some link
      → listens_under handle facts.turn.doing ≡ true → verdict_of link.setup (facts_in link) octets ≡ Good
      → is_forged link.setup (facts_in (link_worded setup facts facts.turn.doing link)) octets ≡ false
      → is_failed (received link.setup facts.turn.slot octets (has_room setup facts) (facts_in (link_worded setup facts facts.turn.doing link))).control.ends ≡ true
      → FailedBy setup facts step handle

abbrev was_failed : (setup : Setup) (facts : Facts) (step : Step) (handle : ℕ) (link now : OpenLink) → link_at handle facts.links ≡ Some link
    → ends_in now ≡ ends_in link → is_failed (ends_in now) ≡ true → FailedBy setup facts step handle
was_failed setup facts step handle link now was same failed = WasFailed link was (ap is_failed (sym same) ∙ failed)

heard_host : (setup : Setup) (facts : Facts) (octet handle : ℕ) (after : OpenLink) → HasHeardHost setup facts octet handle after
    → is_failed (ends_in after) ≡ true → FailedBy setup facts (HostOctet octet) handle
heard_host setup facts octet handle after (Unchanged was) failed = WasFailed after was failed
heard_host setup facts octet handle after (GetsData link start body was is) failed =
    was_failed setup facts (HostOctet octet) handle link after was (ap ends_in is ∙ after_ends link (DataGiven start body) refl) failed
heard_host setup facts octet handle after (IsAsked link command step was accepted asks is) failed =
    let well = asked_is_well setup facts octet handle command link.setup.link.role (facts_in link).peer step accepted asks in
    was_failed setup facts (HostOctet octet) handle link after was (ap ends_in is ∙ after_ends link step (asked_off step well.by_host)) failed

begun_ends : (facts : Facts) (slot : ℕ) (on : Bool) (handle : ℕ) (doing : Doing) (after : OpenLink) (has : HasBegun facts slot on handle doing after)
    → ends_in after ≡ ends_in has.link
begun_ends facts slot on handle doing after has =
    let setups = has.setup_is ∙ sym (entered_setup slot has.link) in
    ap ends_in has.is ∙ sent_ends (sends_under handle doing) slot has.base ∙ ap ends_in has.base_is ∙ fixed_ends has.fixes has.entered
    ∙ (λ i. (end_facts_of (setups i) (has.past_is i)).control.ends)
    ∙ after_if (enters_in slot has.link) has.link (EventEntered slot) refl

module _ (setup : Setup) (facts : Facts) (octets : List ℕ) (handle : ℕ) (sends : Bool) (link after : OpenLink) (was : link_at handle facts.links ≡ Some link)
    (on : listens_under handle facts.turn.doing ≡ true)
    (is : after ≡ sent_if sends facts.turn.slot (link_receiving setup handle (has_room setup facts) octets facts link)) (failed : is_failed (ends_in after) ≡ true) where
  abbrev room : Bool
  room = has_room setup facts

  abbrev base : OpenLink
  base = link_worded setup facts facts.turn.doing link

  abbrev heard : EndFacts
  heard = received link.setup facts.turn.slot octets room (facts_in base)

  heard_ends : ends_in after ≡ heard.control.ends
  heard_ends =
      ap ends_in is ∙ sent_ends sends facts.turn.slot (base_receiving handle room octets facts base)
      ∙ refused_ends (refusal_at handle room octets facts base) (link_after (PacketReceived facts.turn.slot octets room) base)
      (refusal_is handle room octets facts base)
      ∙ ap (λ (f : EndFacts). f.control.ends) (step_facts base (PacketReceived facts.turn.slot octets room))
      ∙ ap (λ (s : EndSetup). (received s facts.turn.slot octets room (facts_in base)).control.ends) (worded_setup setup facts facts.turn.doing link)

  judged : verdict_of link.setup (facts_in base) octets ≡ verdict_of link.setup (facts_in link) octets
  judged = worded_verdict link.setup setup facts facts.turn.doing link octets

  by_forged : (forged : Bool) → is_forged link.setup (facts_in base) octets ≡ forged → FailedBy setup facts (PacketHeard octets) handle
  by_forged true wrong = HeardForged octets link refl was on (sym judged ∙ forged_so link.setup (facts_in base) octets wrong)
  by_forged false genuine = by (good_or_unheard link.setup facts.turn.slot octets room (facts_in base) genuine)
    where
      by : (verdict_of link.setup (facts_in base) octets ≡ Good) ⊎ IsUnheard link.setup facts.turn.slot octets room (facts_in base) → FailedBy setup facts (PacketHeard octets) handle
      by (inl good) = HeardGood octets link refl was on (sym judged ∙ good) genuine (ap is_failed (sym heard_ends) ∙ failed)
      by (inr none) =
          was_failed setup facts (PacketHeard octets) handle link after was
          (heard_ends ∙ ap (λ (f : EndFacts). f.control.ends) none.same ∙ worded_ends setup facts facts.turn.doing link) failed

  pub taken_failed : FailedBy setup facts (PacketHeard octets) handle
  taken_failed = by_forged (is_forged link.setup (facts_in base) octets) refl

passed_failed : (setup : Setup) (facts : Facts) (may : Option (List ℕ)) (handle : ℕ) (after : OpenLink)
    → HasPassed setup facts (has_room setup facts) may handle (facts_after setup facts (step_of may)).turn.doing after
    → is_failed (ends_in after) ≡ true → FailedBy setup facts (step_of may) handle
unfolding end_facts_of
passed_failed setup facts may handle after (IsNew end made opened off) failed =
    absurd (let no : false ≡ true = sym (ap (λ (l : OpenLink). is_failed (ends_in l)) made) ∙ failed in cc)
passed_failed setup facts may handle after (Stays was none nothing listened) failed = WasFailed after was failed
passed_failed setup facts may handle after (Takes link octets was got on same) failed =
    let sends = sends_under handle (facts_after setup facts (step_of may)).turn.doing in
    subst (λ m. FailedBy setup facts (step_of m) handle) (sym got) (taken_failed setup facts octets handle sends link after was on same failed)

pub call_failed : (setup : Setup) (facts : Facts) (step : Step) (handle : ℕ) (now : OpenLink) → link_at handle (facts_after setup facts step).links ≡ Some now
    → is_failed (ends_in now) ≡ true → FailedBy setup facts step handle
call_failed setup facts (HostOctet octet) handle now is failed = heard_host setup facts octet handle now (host_under setup facts octet handle now is) failed
call_failed setup facts (TurnBegins slot on) handle now is failed =
    let has = begins_under setup facts slot on handle now is in
    was_failed setup facts (TurnBegins slot on) handle has.link now has.was
    (begun_ends facts slot on handle (facts_after setup facts (TurnBegins slot on)).turn.doing now has) failed
call_failed setup facts (PacketHeard octets) handle now is failed =
    passed_failed setup facts (Some octets) handle now (phase_under setup facts (Some octets) handle now is) failed
call_failed setup facts NothingHeard handle now is failed = passed_failed setup facts None handle now (phase_under setup facts None handle now is) failed
call_failed setup facts TurnEnds handle now is failed =
    let ended = ended_under setup facts handle now is in
    was_failed setup facts TurnEnds handle ended.link now ended.was (ap ends_in ended.is ∙ reported_ends ended.link) failed
