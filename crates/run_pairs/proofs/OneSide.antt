-- What a controller alone knows of its open links, at any time: with what each was set up, that a link that is opened
-- in a turn is new in all of that turn, and in which slot each sent last.
use Rattle.std.proofs.Common.{◌≡◌, ℕ, ◌+◌, ◌<◌, ◌≤◌, Bool, true, false, Option, Some, None, List, [], ◌∷◌, ◌++◌, length, length-append, refl, sym, ap, subst, ◌∙◌, arith}
use Rattle.std.specs.Prelude.{IfSome, ⊤, fold, nat_lt, if◌then◌else◌}
use Rattle.std.proofs.lemmas.List.Sums.{fold-append}
use Rattle.adv_pdu.specs.Ranges.{IsInRange}
use Rattle.link_runs.specs.procedure_values.Values.{IsPayloadMax}
use Rattle.link_calls.specs.link_model.Setup.{Setup as EndSetup}
use Rattle.link_calls.specs.link_model.Step.{Step as EndStep, DataGiven, DataReported, Disconnected, EventEntered, KeyAnswered, PacketReceived, PacketSent, PduFixed, ProcedureAsked, RequestAnswered}
use Rattle.link_calls.specs.open_links.Data.{complete_in}
use Rattle.link_calls.specs.open_links.OpenLinks.{OpenLink, facts_in, link_after, link_at}
use Rattle.link_calls.specs.open_links.Turns.{enters_in, entered_if, link_entered}
use Rattle.link_calls.proofs.open_links.Unmoved.{entered_setup}
use Rattle.link_calls.specs.controller_model.declared.doing.Doing.{Doing}
use Rattle.link_calls.specs.controller_model.declared.doing.Doing.TheVariants.{Advertises, CentralListens, PeripheralListens}
use Rattle.link_calls.specs.controller_model.Facts.{Setup, Facts, first_facts}
use Rattle.link_calls.specs.controller_model.Heard.{has_room}
use Rattle.link_calls.specs.controller_model.Side.{facts_after}
use Rattle.link_calls.specs.controller_model.Step.{TurnBegins}
use Rattle.link_calls.specs.controller_model.host_view.Flow.{most_received}
use Rattle.link_calls.proofs.controller_model.HostBuffers.{most_in_range}
use Rattle.link_calls.proofs.controller_model.LinkFields.{range_of_test}
use Rattle.link_calls.specs.Phases.{HasPassed, IsNew, Stays, Takes, base_receiving, link_receiving, link_worded, refusal_at, refused_if}
use Rattle.link_calls.specs.run_model.Run.{step_of}
use Rattle.link_calls.proofs.run_model.LinkEnds.{AreTaken}
use Rattle.link_calls.specs.Hosts.{HasHeardHost, GetsData, IsAsked, Unchanged}
use Rattle.link_calls.proofs.run_laws.Entering.{IsInTurn, made_range, taken_in_range}
use Rattle.link_calls.proofs.run_laws.InAgreement.{IsStation, OpenedBefore, first_station, station_begins, station_ends, station_fed, station_passes}
use Rattle.link_calls.proofs.controller_model.Asked.{IsAskedStep}
use Rattle.link_calls.proofs.run_laws.OpenSteps.{EachOpen, IsKeptOpen, IsKeptServed, KeepsAsked, MayOpen, begin_open, end_open, none_open, octet_open, open_has, phase_open}
use Rattle.link_calls.proofs.run_laws.TurnPlaces.{Between, IsTurned, Stage, Within}
use Rattle.link_calls.proofs.run_laws.TurnSteps.{MakesWell, begins_slot, phase_turn}
use Rattle.link_calls.proofs.Exchanging.{AreExchanging, exchanging_first, exchanging_kept}
use Rattle.link_calls.proofs.LinkCalls.{HasBegun, begins_under, fixed_setup, passes_under, receiving_setup, sent_setup}
use Rattle.link_calls.proofs.HostSteps.{asked_is_well}
use Rattle.link_calls.proofs.UnderHandles.{ended_under, host_under}
use Rattle.link_calls.specs.Turns.{fixed_if, sent_if}
use Rattle.link_calls.specs.Uses.{fixes_under, is_on_link, listens_under, sends_under}
use Rattle.link_calls.proofs.AtOnce.{IsRefusal, refusal_is}
use Rattle.run_pairs.proofs.LinkSteps.{base_under}

-- ---- in which slot an end sent last

-- if the last that happened to it is that it sent a packet, that was before this slot
abbrev pub LastBefore : ℕ → List EndStep → Type 0
LastBefore slot past = (sent : ℕ) (front : List EndStep) → past ≡ front ++ PacketSent sent ∷ [] → sent < slot

abbrev last_of : List EndStep → Option EndStep
last_of past = fold (λ before step. Some step) None past

last_is : (front : List EndStep) (step : EndStep) → last_of (front ++ step ∷ []) ≡ Some step
last_is front step = fold-append (λ before step. Some step) None front (step ∷ [])

pub last_same : (one other : List EndStep) (a b : EndStep) → one ++ a ∷ [] ≡ other ++ b ∷ [] → a ≡ b
last_same one other a b same =
    let lasts : Some a ≡ Some b = sym (last_is one a) ∙ ap last_of same ∙ last_is other b in cc

abbrev pub is_sent : EndStep → Bool
is_sent (PacketSent slot) = true
is_sent other = false

pub last_other : (slot : ℕ) (past : List EndStep) (step : EndStep) → is_sent step ≡ false → LastBefore slot (past ++ step ∷ [])
last_other slot past step off = λ sent front same.
    absurd (let h : false ≡ true = sym off ∙ ap is_sent (last_same past front step (PacketSent sent) same) in absurd cc)

one_slot : (a b : ℕ) → PacketSent a ≡ PacketSent b → a ≡ b
one_slot a b same = cc

pub last_sent : (slot now : ℕ) (past : List EndStep) → now < slot → LastBefore slot (past ++ PacketSent now ∷ [])
last_sent slot now past before = λ sent front same.
    let equal = one_slot now sent (last_same past front (PacketSent now) (PacketSent sent) same) in omega (arith, equal, before)

pub last_later : (slot later : ℕ) (past : List EndStep) → slot ≤ later → LastBefore slot past → LastBefore later past
last_later slot later past more is = λ sent front same. let before = is sent front same in omega (arith, before, more)

asked_unsent : (step : EndStep) → IsAskedStep step → is_sent step ≡ false
asked_unsent (ProcedureAsked ask) by_host = refl
asked_unsent (RequestAnswered answer) by_host = refl
asked_unsent (KeyAnswered key slot) by_host = refl
asked_unsent (Disconnected reason slot) by_host = refl
asked_unsent (DataGiven start body) by_host = absurd by_host
asked_unsent other by_host = absurd by_host

heard_last : (slot : ℕ) (setup : Setup) (facts : Facts) (octet handle : ℕ) (after : OpenLink) → HasHeardHost setup facts octet handle after
    → ((link : OpenLink) → link_at handle facts.links ≡ Some link → LastBefore slot link.past) → LastBefore slot after.past
heard_last slot setup facts octet handle after (Unchanged was) last = last after was
heard_last slot setup facts octet handle after (GetsData link start body was is) last =
    subst (λ (l : OpenLink). LastBefore slot l.past) (sym is) (last_other slot link.past (DataGiven start body) refl)
heard_last slot setup facts octet handle after (IsAsked link command step was accepted asks is) last =
    let well = asked_is_well setup facts octet handle command link.setup.link.role (facts_in link).peer step accepted asks in
    subst (λ (l : OpenLink). LastBefore slot l.past) (sym is) (last_other slot link.past step (asked_unsent step well.by_host))

entered_last : (enters : Bool) (slot now : ℕ) (link : OpenLink) → LastBefore slot link.past → LastBefore slot (entered_if enters now link).past
entered_last true slot now link is = last_other slot link.past (EventEntered now) refl
entered_last false slot now link is = is

fixed_last : (fixes : Bool) (slot : ℕ) (link : OpenLink) → LastBefore slot link.past → LastBefore slot (fixed_if fixes link).past
fixed_last true slot link is = last_other slot link.past PduFixed refl
fixed_last false slot link is = is

sent_last : (sends : Bool) (slot now : ℕ) (link : OpenLink) → now < slot → LastBefore slot link.past → LastBefore slot (sent_if sends now link).past
sent_last true slot now link before is = last_sent slot now link.past before
sent_last false slot now link before is = is

-- as a turn begins, before its packet
pub begun_last : (slot : ℕ) (facts : Facts) (on : Bool) (handle : ℕ) (doing : Doing) (after : OpenLink) (has : HasBegun facts slot on handle doing after)
    → LastBefore slot has.link.past → LastBefore slot has.base.past
begun_last slot facts on handle doing after has is =
    subst (λ (l : OpenLink). LastBefore slot l.past) (sym (base_under facts slot on handle doing after has))
    (fixed_last (fixes_under handle doing) slot has.entered
    (subst (LastBefore slot) (sym has.past_is) (entered_last (enters_in slot has.link) slot slot has.link is)))

refusal_unsent : (step : EndStep) → IsRefusal step → is_sent step ≡ false
refusal_unsent (RequestAnswered answer) is = refl
refusal_unsent (KeyAnswered key slot) is = refl
refusal_unsent other is = absurd is

-- as it receives, and may answer a request at once
pub received_last : (handle : ℕ) (room : Bool) (octets : List ℕ) (facts : Facts) (base : OpenLink) (slot : ℕ)
    → LastBefore slot (base_receiving handle room octets facts base).past
received_last handle room octets facts base slot = by (refusal_at handle room octets facts base) (refusal_is handle room octets facts base)
  where
    by : (answer : Option EndStep) → IfSome answer IsRefusal → LastBefore slot (refused_if answer (link_after (PacketReceived facts.turn.slot octets room) base)).past
    by (Some step) is = last_other slot (link_after (PacketReceived facts.turn.slot octets room) base).past step (refusal_unsent step is)
    by None is = last_other slot base.past (PacketReceived facts.turn.slot octets room) refl

-- ---- what each link was set up with

pub record IsSetUp (link : OpenLink) : Type 0 where
  pub in_range : IsInRange link.setup.link.fields
  pub max : IsPayloadMax link.setup.link.max_rx

set_up_as : (link now : OpenLink) → now.setup ≡ link.setup → IsSetUp link → IsSetUp now
set_up_as link now same is = record {
  in_range = subst (λ (s : EndSetup). IsInRange s.link.fields) (sym same) is.in_range;
  max = subst (λ (s : EndSetup). IsPayloadMax s.link.max_rx) (sym same) is.max;
}

set_up_served : IsKeptServed IsSetUp
set_up_served = record {
  hosts = record { given = λ start body link is. set_up_as link _ refl is; reported = λ link is. set_up_as link _ refl is };
  served = λ now link is. set_up_as link _ refl is;
  fixed = λ link is. set_up_as link _ refl is;
  sent = λ now link is. set_up_as link _ refl is;
}

set_up_asked : KeepsAsked IsSetUp
set_up_asked step link well is = set_up_as link (link_after step link) refl is

set_up_open : IsKeptOpen IsSetUp
set_up_open = record {
  serving = set_up_served;
  worded = λ skd_s iv_s link is. set_up_as link _ refl is;
  received = λ now octets room link is. set_up_as link _ refl is;
  answered = set_up_asked;
}

-- a link that is opened has its fields and its payloads in range
as_most : (most : ℕ) → (27 ≤ most) × (most ≤ 251) → IsPayloadMax most
as_most most range = record { from = range.0; to = range.1 }

may_set_up : AreTaken → (setup : Setup) (stage : Stage) (begun : ℕ) (facts : Facts) → IsInTurn setup stage begun facts → MayOpen IsSetUp set_up_open facts
may_set_up taken setup stage begun facts in_turn = record {
  made = λ channel link doing.
      let made = subst (MakesWell setup facts.view facts.connections) doing in_turn.makes in record {
        in_range = range_of_test link.fields made.in_range;
        max = as_most link.max_rx (made_range setup stage begun facts in_turn channel link doing);
      };
  taken = λ pdu on fields handle takes. record {
    in_range = taken_in_range taken on.params facts.view.accepted pdu fields takes;
    max = as_most (most_received facts.view) (most_in_range facts.view in_turn.least);
  };
}

-- ---- a link keeps what it was set up with

pub begun_setup : (slot : ℕ) (facts : Facts) (on : Bool) (handle : ℕ) (doing : Doing) (after : OpenLink) (has : HasBegun facts slot on handle doing after)
    → after.setup ≡ has.link.setup
begun_setup slot facts on handle doing after has =
    ap (λ (l : OpenLink). l.setup) has.is ∙ sent_setup (sends_under handle doing) slot has.base ∙ ap (λ (l : OpenLink). l.setup) (base_under facts slot on handle doing after has)
    ∙ fixed_setup (fixes_under handle doing) has.entered ∙ has.setup_is

pub taken_setup : (sends : Bool) (setup : Setup) (handle : ℕ) (room : Bool) (octets : List ℕ) (facts : Facts) (link : OpenLink)
    → (sent_if sends facts.turn.slot (link_receiving setup handle room octets facts link)).setup ≡ link.setup
taken_setup sends setup handle room octets facts link =
    sent_setup sends facts.turn.slot (link_receiving setup handle room octets facts link) ∙ receiving_setup setup handle room octets facts link

-- ---- a link that was opened in the turn

-- nothing happened to it yet
abbrev pub IsNewIf : Stage → Facts → Type 0
IsNewIf Between facts = ⊤
IsNewIf (Within phases) facts =
    (handle : ℕ) (link : OpenLink) → link_at handle facts.links ≡ Some link → link.setup.opened ≡ facts.turn.slot → link.past ≡ []

listens_on_link : (handle : ℕ) (doing : Doing) → listens_under handle doing ≡ true → is_on_link doing ≡ true
listens_on_link handle (CentralListens other) is = refl
listens_on_link handle (PeripheralListens other) is = refl
listens_on_link handle (Advertises channel) is = absurd cc
listens_on_link handle other is = absurd cc

-- ---- at any time

pub record StationAt (setup : Setup) (stage : Stage) (begun : ℕ) (facts : Facts) : Type 0 where
  pub holds : AreExchanging setup stage begun facts
  pub station : IsStation setup facts
  pub each : EachOpen IsSetUp facts.links
  pub new : IsNewIf stage facts
  pub last : (handle : ℕ) (link : OpenLink) → link_at handle facts.links ≡ Some link → LastBefore begun link.past

module _ (setup : Setup) (facts : Facts) (received : Option (List ℕ)) (phases begun : ℕ) (is : StationAt setup (Within phases) begun facts) where
  abbrev next : Facts
  next = facts_after setup facts (step_of received)

  opened_now : (link : OpenLink) → link.setup.opened ≡ next.turn.slot → link.setup.opened ≡ facts.turn.slot
  opened_now link now = now ∙ (phase_turn setup facts received).slot

  passed_new : (handle : ℕ) (link : OpenLink) → HasPassed setup facts (has_room setup facts) received handle next.turn.doing link → link.setup.opened ≡ next.turn.slot → link.past ≡ []
  passed_new handle link (IsNew end made opened off) now = ap (λ (l : OpenLink). l.past) made
  passed_new handle link (Stays was none nothing listened) now = is.new handle link was (opened_now link now)
  passed_new handle link (Takes base octets was got on same) now =
      let before = open_has (OpenedBefore facts.turn.slot) 0 handle facts.links base (is.station.old (listens_on_link handle facts.turn.doing on)) was in
      let setups = ap (λ (l : OpenLink). l.setup) same ∙ taken_setup (sends_under handle next.turn.doing) setup handle (has_room setup facts) octets facts base in
      let slot = sym (ap (λ (s : EndSetup). s.opened) setups) ∙ opened_now link now in
      absurd (omega (arith, before, slot))

  passed_last : (handle : ℕ) (link : OpenLink) → HasPassed setup facts (has_room setup facts) received handle next.turn.doing link → LastBefore begun link.past
  passed_last handle link (IsNew end made opened off) =
      subst (λ (l : OpenLink). LastBefore begun l.past) (sym made) (λ sent front same. absurd (let long = ap length same in omega (arith, long, length-append front (PacketSent sent ∷ []))))
  passed_last handle link (Stays was none nothing listened) = is.last handle link was
  passed_last handle link (Takes base octets was got on same) =
      let slot = is.holds.phased.uses.in_turn.slot_is in
      subst (λ (l : OpenLink). LastBefore begun l.past) (sym same)
      (sent_last (sends_under handle next.turn.doing) begun facts.turn.slot (link_receiving setup handle (has_room setup facts) octets facts base) (omega (arith, slot))
      (received_last handle (has_room setup facts) octets facts (link_worded setup facts facts.turn.doing base) begun))

pub station_kept : AreTaken → (setup : Setup) → IsTurned setup (StationAt setup)
station_kept taken setup = let kept = exchanging_kept setup in record {
  feeds = λ begun octet facts is.
      let holds = kept.feeds begun octet facts is.holds in record {
        holds = holds;
        station = station_fed setup facts octet is.station;
        each = octet_open IsSetUp set_up_served.hosts set_up_asked setup facts octet is.each;
        new = tt;
        last = λ handle link at.
            heard_last begun setup facts octet handle link (host_under setup facts octet handle link at) (is.last handle);
      };
  begins = λ begun on facts is. record {
    holds = kept.begins begun on facts is.holds;
    station = station_begins setup facts begun on is.holds.phased.uses.in_turn.begun_is is.station;
    each = begin_open IsSetUp IsSetUp set_up_served setup begun on facts (λ link one. set_up_as link (link_entered begun link) (entered_setup begun link) one) is.each;
    new = λ handle link at now.
        let has = begins_under setup facts begun on handle link at in
        let before = open_has (OpenedBefore facts.turn.begun) 0 handle facts.links has.link is.station.earlier has.was in
        let setups = begun_setup begun facts on handle _ link has in
        let slot = sym (ap (λ (s : EndSetup). s.opened) setups) ∙ now ∙ begins_slot setup begun on facts in
        let count = is.holds.phased.uses.in_turn.begun_is in absurd (omega (arith, before, slot, count));
    last = λ handle link at.
        let has = begins_under setup facts begun on handle link at in
        let base = begun_last begun facts on handle _ link has (is.last handle has.link has.was) in
        subst (λ (l : OpenLink). LastBefore (begun + 1) l.past) (sym has.is)
        (sent_last (sends_under handle (facts_after setup facts (TurnBegins begun on)).turn.doing) (begun + 1) begun has.base (omega arith)
        (last_later begun (begun + 1) has.base.past (omega arith) base));
  };
  passes = λ phases begun received facts is. record {
    holds = kept.passes phases begun received facts is.holds;
    station = station_passes setup facts phases begun received is.holds.phased.uses.in_turn is.station;
    each = phase_open IsSetUp set_up_open setup facts received (may_set_up taken setup (Within phases) begun facts is.holds.phased.uses.in_turn) is.each;
    new = λ handle link at. passed_new setup facts received phases begun is handle link (passes_under setup facts received handle link is.holds.phased.uses.in_turn.listens at);
    last = λ handle link at. passed_last setup facts received phases begun is handle link (passes_under setup facts received handle link is.holds.phased.uses.in_turn.listens at);
  };
  ends = λ begun facts is. record {
    holds = kept.ends begun facts is.holds;
    station = station_ends setup facts is.station;
    each = end_open IsSetUp set_up_served.hosts setup facts is.each;
    new = tt;
    last = λ handle link at.
        let was = ended_under setup facts handle link at in
        subst (λ (l : OpenLink). LastBefore begun l.past) (sym was.is) (reported_last (nat_lt 0 (complete_in was.link)) begun was.link (is.last handle was.link was.was));
  };
}
  where
    reported_last : (reports : Bool) (begun : ℕ) (link : OpenLink) → LastBefore begun link.past → LastBefore begun (if reports then link_after DataReported link else link).past
    reported_last true begun link is = last_other begun link.past DataReported refl
    reported_last false begun link is = is

none_at : (setup : Setup) (handle : ℕ) (link : OpenLink) (X : Type 0) → link_at handle (first_facts setup).links ≡ Some link → X
none_at setup handle link X at = absurd (open_has (λ one. ⊥) 0 handle (first_facts setup).links link (none_open (λ one. ⊥) setup.links) at)

pub station_first : (setup : Setup) → StationAt setup Between 0 (first_facts setup)
station_first setup = record {
  holds = exchanging_first setup;
  station = first_station setup;
  each = none_open IsSetUp setup.links;
  new = tt;
  last = λ handle link at. none_at setup handle link _ at;
}
