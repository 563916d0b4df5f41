-- The open link under a handle of a controller, call by call: no end ended the link but for an Instant that has passed or for a failed
-- integrity, and the reasons that the end sends and takes are those that hosts may give, or that one has no key.
use Rattle.std.proofs.Common.{◌≡◌, ◌⊎◌, inl, inr, ℕ, Bool, true, false, not, List, Option, Some, None, is_none, is_some, refl, sym, ap, subst, ◌∙◌, if◌then◌else◌}
use Rattle.std.specs.Prelude.{IfSome, nat_lt, ⊤}
use Rattle.ble_base.specs.ErrorCodes.{command_disallowed, instant_passed, invalid_hci_parameters, mic_failure, success, unknown_connection_identifier}
use Rattle.ble_base.specs.declared.error_codes.ErrCode.{ErrCode}
use Rattle.ble_base.specs.declared.roles.Role.{Role}
use Rattle.ble_base.specs.declared.roles.Role.TheVariants.{Central, Peripheral}
use Rattle.ble_base.specs.declared.verdicts.Verdict.TheVariants.{Broken as BrokenPacket, Forged, Good}
use Rattle.air_frame.specs.declared.Heard.{Heard}
use Rattle.air_frame.specs.declared.Heard.TheVariants.{Broken, NotOurs, Whole}
use Rattle.controller_model.specs.Commands.{moment_of}
use Rattle.controller_model.specs.Facts.{Facts, Setup}
use Rattle.controller_model.specs.Heard.{has_room}
use Rattle.controller_model.specs.Side.{facts_after}
use Rattle.controller_model.specs.Step.{HostOctet, NothingHeard, PacketHeard, Step, TurnBegins, TurnEnds}
use Rattle.controller_model.specs.declared.doing.Doing.{Doing}
use Rattle.controller_model.proofs.Asked.{IsAskedStep}
use Rattle.controller_model.proofs.Accepted.{not_not}
use Rattle.hci_cmd.specs.declared.command.Command.{Command}
use Rattle.hci_cmd.specs.declared.command.Command.TheVariants.{Disconnect, LeReadRemoteFeatures, LeSetChannels, ReadRemoteVersion}
use Rattle.host_view.specs.Links.{link_has, link_in}
use Rattle.host_view.specs.Status.{is_reason, status_of}
use Rattle.host_view.specs.View.{View}
use Rattle.link_calls.specs.Hosts.{GetsData, HasHeardHost, IsAsked, Unchanged}
use Rattle.link_calls.specs.Phases.{HasPassed, IsNew, Stays, Takes, base_receiving, link_worded, refusal_at, refused_if}
use Rattle.link_calls.specs.Turns.{fixed_if, sent_if}
use Rattle.link_calls.specs.Uses.{listens_under, sends_under}
use Rattle.link_runs.specs.link_pairs.control_model.Control.{ended}
use Rattle.link_calls.specs.link_model.End.{facts_of as end_facts_of}
use Rattle.link_calls.specs.link_model.Facts.{Facts as EndFacts}
use Rattle.link_calls.specs.link_model.Packets.{good_pdu, heard_of, is_forged, is_forged_pdu, pdu_read, pdu_read_in, verdict_of, whole_pdu}
use Rattle.link_calls.specs.link_model.Payload.{opens_now}
use Rattle.link_calls.specs.link_model.Receiving.{facts_forged_if, facts_received}
use Rattle.link_calls.specs.link_model.Setup.{Setup as EndSetup}
use Rattle.link_calls.specs.link_model.Step.{DataGiven, DataReported, Disconnected, EventEntered, KeyAnswered, PacketReceived, PacketSent, PduFixed, ProcedureAsked, RequestAnswered, Step as EndStep, WordsGiven}
use Rattle.link_calls.specs.link_model.procedure_values.declared.asks.Ask.{Ask}
use Rattle.link_calls.specs.link_model.procedure_values.declared.asks.Ask.TheVariants.{Features, Version}
use Rattle.link_calls.specs.link_model.Verdicts.{has_room_for, pdu_by, verdict_by, whole_in}
use Rattle.link_calls.specs.link_model.declared.state.PeerFacts.{PeerFacts}
use Rattle.link_calls.specs.open_links.Data.{complete_in, link_reported}
use Rattle.link_calls.specs.open_links.OpenLinks.{Links, OpenLink, facts_in, link_after, link_at, new_link}
use Rattle.link_calls.specs.open_links.Turns.{enters_in, link_entered}
use Rattle.controller_model.specs.link_commands.declared.moments.Moment.{Moment}
use Rattle.controller_model.specs.link_commands.Commands.{ask_unless, host_step_of, is_about, map_by, step_if_about}
use Rattle.link_calls.specs.run_model.Run.{step_of}
use Rattle.link_calls.proofs.HostSteps.{accepted_status, asked_is_well}
use Rattle.link_calls.proofs.LinkCalls.{HasBegun, begins_under, phase_under}
use Rattle.link_calls.proofs.UnderHandles.{ended_under, host_under}
use Rattle.link_calls.proofs.link_model.KnownEnds.{IsPast}
use Rattle.link_calls.proofs.open_links.Unmoved.{entered_setup}
use Rattle.link_calls.proofs.run_laws.Agreed.{step_facts}
use Rattle.link_calls.proofs.AtOnce.{IsRefusal, refusal_is}
use Rattle.link_calls.proofs.Worded.{each_worded, worded_setup}
use Rattle.journal_indications.proofs.journal_data.run_pairs.OneSide.{taken_setup}
use Rattle.journal_indications.proofs.journal_data.run_pairs.Worded.{good_same, worded_verdict}
use Rattle.journal_endings.proofs.EndReasons.{GivesReasons, MayStep, NewCarries, first_gives, forged_gives, step_gives}
use Rattle.journal_endings.proofs.EndingProcedures.{is_receiving, same_ends}
use Rattle.journal_endings.proofs.HostReasons.{IsReason, host_reason, is_ending}

-- ---- an end

-- no procedure ended the link, or one did with 28, or the end did with 3D
abbrev pub EndsByRules : Option ErrCode → Type 0
EndsByRules ends = IfSome ends (λ code. (code.0 ≡ instant_passed) ⊎ (code.0 ≡ mic_failure))

pub record KeepsRules (facts : EndFacts) : Type 0 where
  pub reasons : GivesReasons facts
  pub ends : EndsByRules facts.control.ends

abbrev pub IsKept : OpenLink → Type 0
IsKept link = KeepsRules (facts_in link)

link_past : (link : OpenLink) → IsPast link.setup (facts_in link)
link_past link = record { past = link.past; is = refl }

-- its steps, but for what it receives
kept_after : (link : OpenLink) (step : EndStep) → is_receiving step ≡ false → MayStep link.setup (facts_in link) step → IsKept link
    → IsKept (link_after step link)
kept_after link step off may kept =
    subst KeepsRules (sym (step_facts link step)) (record {
      reasons = step_gives link.setup (facts_in link) (link_past link) kept.reasons step may;
      ends = subst EndsByRules (sym (same_ends link.setup (facts_in link) step off)) kept.ends;
    })

kept_same : (one other : OpenLink) → other.setup ≡ one.setup → other.past ≡ one.past → IsKept one → IsKept other
kept_same one other setup past kept = subst KeepsRules (λ i. end_facts_of (sym setup i) (sym past i)) kept

kept_new : (end : EndSetup) → IsKept (new_link end)
unfolding end_facts_of
kept_new end = record { reasons = first_gives end; ends = tt }

kept_if : (does : Bool) (link : OpenLink) (step : EndStep) → is_receiving step ≡ false → MayStep link.setup (facts_in link) step → IsKept link
    → IsKept (if does then link_after step link else link)
kept_if true link step off may kept = kept_after link step off may kept
kept_if false link step off may kept = kept

fixed_kept : (fixes : Bool) (link : OpenLink) → IsKept link → IsKept (fixed_if fixes link)
fixed_kept true link kept = kept_after link PduFixed refl tt kept
fixed_kept false link kept = kept

sent_kept : (sends : Bool) (slot : ℕ) (link : OpenLink) → IsKept link → IsKept (sent_if sends slot link)
sent_kept true slot link kept = kept_after link (PacketSent slot) refl tt kept
sent_kept false slot link kept = kept

-- ---- what its host asks

-- a Disconnect has such a reason
abbrev AsksReason : EndStep → Type 0
AsksReason (Disconnected reason slot) = IsReason reason
AsksReason step = ⊤

asks_by : (may : Option EndStep) (step : EndStep) → IfSome may AsksReason → may ≡ Some step → AsksReason step
asks_by may step asks is = subst (λ (one : Option EndStep). IfSome one AsksReason) is asks

unless_asks : (known : Bool) (ask : Ask) → IfSome (ask_unless known ask) AsksReason
unless_asks true ask = tt
unless_asks false ask = tt

map_asks : (role : Role) (map : ℕ) → IfSome (map_by role map) AsksReason
map_asks Central map = tt
map_asks Peripheral map = tt

-- of three conditions for which a command is refused none holds
third_passes : (first second third : Bool)
    → (if first then unknown_connection_identifier else (if second then command_disallowed else (if third then invalid_hci_parameters else success))) ≡ success
    → third ≡ false
third_passes true second third is = absurd (cc)
third_passes false true third is = absurd (cc)
third_passes false false true is = absurd (cc)
third_passes false false false is = refl

reason_given : (view : View) (handle reason : ℕ) → status_of view (Disconnect handle reason) ≡ 0 → is_ending reason ≡ true
unfolding status_of
reason_given view handle reason accepted =
    let link = link_in view.links handle in
    host_reason reason
    (not_not (is_reason reason)
    (third_passes (is_none link) (link_has link (λ l. l.disconnecting)) (not (is_reason reason)) accepted))

step_asks : (view : View) (command : Command) (moment : Moment) (role : Role) (peer : PeerFacts) (step : EndStep) → status_of view command ≡ 0
    → host_step_of command moment role peer ≡ Some step → AsksReason step
step_asks view (Disconnect handle reason) moment role peer step ok is = asks_by _ step (reason_given view handle reason ok) is
step_asks view (ReadRemoteVersion handle) moment role peer step ok is = asks_by _ step (unless_asks (is_some peer.version) Version) is
step_asks view (LeReadRemoteFeatures handle) moment role peer step ok is = asks_by _ step (unless_asks (is_some peer.features) Features) is
step_asks view (LeSetChannels map) moment role peer step ok is = asks_by _ step (map_asks role map) is
step_asks view other moment role peer step ok is = asks_by _ step tt is

about_asks : (view : View) (command : Command) (moment : Moment) (role : Role) (peer : PeerFacts) (step : EndStep) → status_of view command ≡ 0 → (about : Bool)
    → step_if_about about (host_step_of command moment role peer) ≡ Some step → AsksReason step
about_asks view command moment role peer step ok true is = step_asks view command moment role peer step ok is
about_asks view command moment role peer step ok false is = absurd (cc)

-- the steps of a host receive nothing
record IsHosts (setup : EndSetup) (facts : EndFacts) (step : EndStep) : Type 0 where
  off : is_receiving step ≡ false
  may : MayStep setup facts step

host_step : (setup : EndSetup) (facts : EndFacts) (step : EndStep) → IsAskedStep step → AsksReason step → IsHosts setup facts step
host_step setup facts (ProcedureAsked ask) by_host asks = record { off = refl; may = tt }
host_step setup facts (RequestAnswered answer) by_host asks = record { off = refl; may = tt }
host_step setup facts (KeyAnswered key slot) by_host asks = record { off = refl; may = tt }
host_step setup facts (Disconnected reason slot) by_host asks = record { off = refl; may = asks }
host_step setup facts (DataGiven start body) by_host asks = absurd by_host
host_step setup facts step by_host asks = absurd by_host

-- ---- one call

abbrev pub IsKeptAt : ℕ → Links → Type 0
IsKeptAt handle links = (link : OpenLink) → link_at handle links ≡ Some link → IsKept link

heard_host : (setup : Setup) (facts : Facts) (octet handle : ℕ) (after : OpenLink) → IsKeptAt handle facts.links → HasHeardHost setup facts octet handle after → IsKept after
heard_host setup facts octet handle after kept (Unchanged was) = kept after was
heard_host setup facts octet handle after kept (GetsData link start body was is) =
    subst IsKept (sym is) (kept_after link (DataGiven start body) refl tt (kept link was))
heard_host setup facts octet handle after kept (IsAsked link command step was accepted asks is) =
    let role = link.setup.link.role in
    let peer = (facts_in link).peer in
    let well = asked_is_well setup facts octet handle command role peer step accepted asks in
    let reason = about_asks facts.view command (moment_of setup facts) role peer step (accepted_status facts octet command accepted) (is_about handle command) asks in
    let hosts = host_step link.setup (facts_in link) step well.by_host reason in
    subst IsKept (sym is) (kept_after link step hosts.off hosts.may (kept link was))

begun_kept : (facts : Facts) (slot : ℕ) (on : Bool) (handle : ℕ) (doing : Doing) (after : OpenLink) → IsKeptAt handle facts.links
    → HasBegun facts slot on handle doing after → IsKept after
begun_kept facts slot on handle doing after kept has =
    let entered = kept_if (enters_in slot has.link) has.link (EventEntered slot) refl tt (kept has.link has.was) in
    let same = kept_same (link_entered slot has.link) has.entered (has.setup_is ∙ sym (entered_setup slot has.link)) has.past_is entered in
    subst IsKept (sym has.is) (sent_kept (sends_under handle doing) slot has.base (subst IsKept (sym has.base_is) (fixed_kept has.fixes has.entered same)))

-- a packet is good, or nothing is received of it
good_or_none : (setup : EndSetup) (facts : EndFacts) (octets : List ℕ) → (verdict_of setup facts octets ≡ Good) ⊎ (good_pdu setup facts octets ≡ None)
unfolding good_pdu verdict_of whole_pdu
good_or_none setup facts octets = of (heard_of setup facts octets)
  where
    opens : Bool
    opens = opens_now facts.encryption.end

    at : (fits : Bool) (pdu : List ℕ) (read : Option (List ℕ)) → pdu_read facts pdu ≡ read
        → ((if fits then (if is_forged_pdu facts pdu then Forged else Good) else BrokenPacket) ≡ Good) ⊎ (pdu_read_in facts (pdu_by fits pdu) ≡ None)
    at true pdu (Some opened) is = inl (ap (λ (found : Option (List ℕ)). if is_none found then Forged else Good) is)
    at true pdu None is = inr is
    at false pdu read is = inr refl

    of : (heard : Heard) → (verdict_by setup.link.max_rx opens (is_forged_pdu facts) heard ≡ Good) ⊎ (pdu_read_in facts (whole_in setup.link.max_rx opens heard) ≡ None)
    of NotOurs = inr refl
    of Broken = inr refl
    of (Whole pdu) = at (has_room_for setup.link.max_rx opens pdu.items) pdu.items (pdu_read facts pdu.items) refl

-- what is known of a good packet that a link receives: the PDU in it, and how the end is after the call
pub record IsSound (facts : Facts) (octets : List ℕ) (link after : OpenLink) : Type 0 where
  pub carries : IfSome (good_pdu link.setup (facts_in link) octets) (NewCarries (facts_in link))
  pub ends : EndsByRules (facts_in after).control.ends

forged_kept : (forged : Bool) (facts : EndFacts) → KeepsRules facts → KeepsRules (facts_forged_if forged facts)
forged_kept false facts kept = kept
forged_kept true facts kept = record { reasons = forged_gives true facts kept.reasons; ends = by (is_none facts.control.ends) }
  where
    by : (goes : Bool) → EndsByRules (if goes then ended (record { 0 = mic_failure }) facts.control else facts.control).ends
    by true = inr refl
    by false = kept.ends

pub refusal_off : (step : EndStep) → IsRefusal step → is_receiving step ≡ false
refusal_off (RequestAnswered answer) is = refl
refusal_off (KeyAnswered key slot) is = refl
refusal_off step is = absurd is

refusal_may : (setup : EndSetup) (facts : EndFacts) (step : EndStep) → IsRefusal step → MayStep setup facts step
refusal_may setup facts (RequestAnswered answer) is = tt
refusal_may setup facts (KeyAnswered key slot) is = tt
refusal_may setup facts step is = absurd is

refused_kept : (answer : Option EndStep) (link : OpenLink) → IfSome answer IsRefusal → IsKept link → IsKept (refused_if answer link)
refused_kept (Some step) link is kept = kept_after link step (refusal_off step is) (refusal_may link.setup (facts_in link) step is) kept
refused_kept None link is kept = kept

-- it is given words
worded_kept : (setup : Setup) (facts : Facts) (doing : Doing) (link : OpenLink) → IsKept link → IsKept (link_worded setup facts doing link)
worded_kept setup facts doing link kept =
    each_worded IsKept setup facts doing link kept (λ skd_s iv_s. kept_after link (WordsGiven skd_s iv_s) refl tt kept)

carries_worded : (setup : Setup) (facts : Facts) (doing : Doing) (link : OpenLink) (octets : List ℕ)
    → IfSome (good_pdu link.setup (facts_in link) octets) (NewCarries (facts_in link)) → let base = link_worded setup facts doing link in
    IfSome (good_pdu base.setup (facts_in base) octets) (NewCarries (facts_in base))
carries_worded setup facts doing link octets carries =
    each_worded (λ base. IfSome (good_pdu base.setup (facts_in base) octets) (NewCarries (facts_in base))) setup facts doing link carries
    (λ skd_s iv_s.
    let step = WordsGiven skd_s iv_s in
    subst (λ (f : EndFacts). IfSome (good_pdu link.setup f octets) (NewCarries f)) (sym (step_facts link step))
    (subst (λ (pdu : Option (List ℕ)). IfSome pdu (NewCarries (facts_in link))) (sym (good_same link.setup skd_s iv_s octets (facts_in link)))
    carries))

-- the reasons alone, of a link that receives
abbrev Reasons : OpenLink → Type 0
Reasons link = GivesReasons (facts_in link)

reasons_after : (link : OpenLink) (step : EndStep) → MayStep link.setup (facts_in link) step → Reasons link → Reasons (link_after step link)
reasons_after link step may reasons = subst GivesReasons (sym (step_facts link step)) (step_gives link.setup (facts_in link) (link_past link) reasons step may)

reasons_refused : (answer : Option EndStep) (link : OpenLink) → IfSome answer IsRefusal → Reasons link → Reasons (refused_if answer link)
reasons_refused (Some step) link is reasons = reasons_after link step (refusal_may link.setup (facts_in link) step is) reasons
reasons_refused None link is reasons = reasons

reasons_sent : (sends : Bool) (slot : ℕ) (link : OpenLink) → Reasons link → Reasons (sent_if sends slot link)
reasons_sent true slot link reasons = reasons_after link (PacketSent slot) tt reasons
reasons_sent false slot link reasons = reasons

module _ (facts : Facts) (room : Bool) (octets : List ℕ) (handle : ℕ) (sends : Bool) (link after : OpenLink)
    (is : after ≡ sent_if sends facts.turn.slot (base_receiving handle room octets facts link)) (kept : IsKept link) where
  abbrev heard_step : EndStep
  heard_step = PacketReceived facts.turn.slot octets room

  -- nothing is received, or a forged packet ends the link
  unheard_kept : good_pdu link.setup (facts_in link) octets ≡ None → IsKept after
  unheard_kept none =
      let forged = is_forged link.setup (facts_in link) octets in
      let same : facts_in (link_after heard_step link) ≡ facts_forged_if forged (facts_in link) =
      step_facts link heard_step
      ∙ ap (λ (pdu : Option (List ℕ)). facts_forged_if forged (facts_received link.setup.link.role facts.turn.slot room pdu (facts_in link))) none in
      subst IsKept (sym is)
      (sent_kept sends facts.turn.slot (base_receiving handle room octets facts link)
      (refused_kept (refusal_at handle room octets facts link) (link_after heard_step link) (refusal_is handle room octets facts link) (subst KeepsRules (sym same) (forged_kept forged (facts_in link) kept))))

  heard_kept : IsSound facts octets link after → IsKept after
  heard_kept sound = record {
    reasons = subst Reasons (sym is)
        (reasons_sent sends facts.turn.slot (base_receiving handle room octets facts link)
        (reasons_refused (refusal_at handle room octets facts link) (link_after heard_step link) (refusal_is handle room octets facts link) (reasons_after link heard_step sound.carries kept.reasons)));
    ends = sound.ends;
  }

  by_verdict : (verdict_of link.setup (facts_in link) octets ≡ Good → IsSound facts octets link after)
      → (verdict_of link.setup (facts_in link) octets ≡ Good) ⊎ (good_pdu link.setup (facts_in link) octets ≡ None) → IsKept after
  by_verdict sound (inl good) = heard_kept (sound good)
  by_verdict sound (inr none) = unheard_kept none

  pub taken_kept : (verdict_of link.setup (facts_in link) octets ≡ Good → IsSound facts octets link after) → IsKept after
  taken_kept sound = by_verdict sound (good_or_none link.setup (facts_in link) octets)

-- each good packet that a call brings to the link under a handle is sound
abbrev pub HearsSoundly : Setup → Facts → Option (List ℕ) → ℕ → Type 0
HearsSoundly setup facts received handle =
    (octets : List ℕ) (link after : OpenLink) → received ≡ Some octets → link_at handle facts.links ≡ Some link
    → listens_under handle facts.turn.doing ≡ true → link_at handle (facts_after setup facts (step_of received)).links ≡ Some after
    → after.setup ≡ link.setup → verdict_of link.setup (facts_in link) octets ≡ Good → IsSound facts octets link after

passed_kept : (setup : Setup) (facts : Facts) (received : Option (List ℕ)) (handle : ℕ) (after : OpenLink) → HearsSoundly setup facts received handle
    → link_at handle (facts_after setup facts (step_of received)).links ≡ Some after → IsKeptAt handle facts.links
    → HasPassed setup facts (has_room setup facts) received handle (facts_after setup facts (step_of received)).turn.doing after → IsKept after
passed_kept setup facts received handle after sound is kept (IsNew end made opened off) = subst IsKept (sym made) (kept_new end)
passed_kept setup facts received handle after sound is kept (Stays was none nothing listened) = kept after was
passed_kept setup facts received handle after sound is kept (Takes link octets was got on same) =
    let sends = sends_under handle (facts_after setup facts (step_of received)).turn.doing in
    let setups = ap (λ (l : OpenLink). l.setup) same ∙ taken_setup sends setup handle (has_room setup facts) octets facts link in
    let doing = facts.turn.doing in
    let base = link_worded setup facts doing link in
    taken_kept facts (has_room setup facts) octets handle sends base after same (worded_kept setup facts doing link (kept link was))
    (λ good.
    let judged = sym (worded_verdict link.setup setup facts doing link octets) ∙ ap (λ (s : EndSetup). verdict_of s (facts_in base) octets) (sym (worded_setup setup facts doing link))
    ∙ good in
    let hears = sound octets link after got was on is setups judged in
    record { carries = carries_worded setup facts doing link octets hears.carries; ends = hears.ends })

pub reported_kept : (link : OpenLink) → IsKept link → IsKept (link_reported link)
reported_kept link kept = kept_if (nat_lt 0 (complete_in link)) link DataReported refl tt kept

abbrev pub HearsIn : Setup → Facts → Step → ℕ → Type 0
HearsIn setup facts (PacketHeard octets) handle = HearsSoundly setup facts (Some octets) handle
HearsIn setup facts step handle = ⊤

pub call_kept : (setup : Setup) (facts : Facts) (step : Step) (handle : ℕ) → HearsIn setup facts step handle → IsKeptAt handle facts.links
    → IsKeptAt handle (facts_after setup facts step).links
call_kept setup facts (HostOctet octet) handle hears kept = λ link is. heard_host setup facts octet handle link kept (host_under setup facts octet handle link is)
call_kept setup facts (TurnBegins slot on) handle hears kept = λ link is.
    begun_kept facts slot on handle (facts_after setup facts (TurnBegins slot on)).turn.doing link kept (begins_under setup facts slot on handle link is)
call_kept setup facts (PacketHeard octets) handle hears kept = λ link is.
    passed_kept setup facts (Some octets) handle link hears is kept (phase_under setup facts (Some octets) handle link is)
call_kept setup facts NothingHeard handle hears kept = λ link is.
    passed_kept setup facts None handle link (λ octets before after got. absurd (cc)) is kept (phase_under setup facts None handle link is)
call_kept setup facts TurnEnds handle hears kept = λ link is.
    let ended = ended_under setup facts handle link is in
    subst IsKept (sym ended.is) (reported_kept ended.link (kept ended.link ended.was))
