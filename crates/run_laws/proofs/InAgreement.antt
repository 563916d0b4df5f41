-- What each call keeps of the links of one station, and how a call on one of two stations keeps what relates their links.
use Rattle.std.proofs.Common.{◌≡◌, ℕ, ◌+◌, ◌<◌, ◌≤◌, ◌==◌, Bool, true, false, Option, Some, None, List, [], ◌∷◌, refl, sym, subst, ◌∙◌, arith}
use Rattle.std.specs.Prelude.{IfSome}
use Rattle.std.specs.Option.{option_map}
use Rattle.std.proofs.lemmas.Bool.{eqb-true}
use Rattle.run_model.specs.link_model.Setup.{Setup as EndSetup}
use Rattle.run_model.specs.link_model.Acknowledgement.{Acknowledgement, first_acknowledgement}
use Rattle.run_model.specs.link_model.Facts.{Facts as EndFacts}
use Rattle.run_model.specs.link_model.Step.{Step as EndStep, DataGiven, PduFixed, PacketSent, PacketReceived, DataReported, WordsGiven}
use Rattle.run_model.specs.open_links.OpenLinks.{Links, OpenLink, link_after, link_at, link_served, new_link, with_change}
use Rattle.run_model.specs.open_links.Turns.{link_entered}
use Rattle.run_model.proofs.open_links.Handles.{changed_is}
use Rattle.run_model.proofs.open_links.Unmoved.{entered_setup}
use Rattle.run_model.specs.controller_model.declared.doing.Turn.{Turn}
use Rattle.run_model.specs.controller_model.Step.{Step, HostOctet, TurnBegins, TurnEnds}
use Rattle.run_model.specs.controller_model.Facts.{Setup, Facts, first_facts}
use Rattle.run_model.specs.controller_model.Heard.{reply_if}
use Rattle.run_model.specs.controller_model.Packets.{listens_on}
use Rattle.run_model.specs.controller_model.Side.{facts_after, facts_of}
use Rattle.run_model.proofs.controller_model.HostBuffers.{most_in_range}
use Rattle.run_model.proofs.controller_model.Always.{holds_step}
use Rattle.run_model.proofs.controller_model.Handles.{HaveOwnHandles, handles_kept, own_handles}
use Rattle.run_model.specs.Run.{Given, setup_at, step_of}
use Rattle.run_model.proofs.Stations.{is_in}
use Rattle.run_laws.specs.Ends.{link_listened}
use Rattle.run_laws.proofs.Agreed.{AgreeIn, IsAgreement, ack_asked, ack_given, ack_of, ack_reported, agree_asked, agree_entered, agree_fixed, agree_given, agree_new, agree_reported, agree_sent, agree_served, agree_worded, first_ack}
use Rattle.run_laws.proofs.ByCalls.{IsCalled, IsKeptByCalls}
use Rattle.run_laws.proofs.Entering.{IsInTurn, made_range}
use Rattle.run_laws.proofs.LinkPasses.{IsPassingOn, LeavesAll, OpensOne, ReceivesOn, is_on_link, links_receiving, links_worded, phase_passes_on}
use Rattle.run_laws.proofs.OpenSteps.{EachOpen, IsAskedWell, IsKeptByHosts, IsKeptOpen, IsKeptServed, KeepsAsked, MayOpen, begin_open, changed, changed_at, end_open, none_open, octet_open, phase_open, open_more, opened, refuses as refusing, sends}
use Rattle.run_laws.proofs.TurnPlaces.{Within}
use Rattle.run_laws.proofs.TurnSteps.{begins_begun, begins_slot, ends_turn, octet_turn, phase_turn}
use Rattle.run_laws.proofs.TwoStations.{differs_back as apart_back}

-- ---- the links of one station

abbrev pub OpenedBefore : ℕ → OpenLink → Type 0
OpenedBefore slot link = link.setup.opened < slot

-- one that was opened in this slot has sent and accepted nothing yet
abbrev pub IsFresh : ℕ → OpenLink → Type 0
IsFresh slot link = link.setup.opened ≡ slot → ack_of link ≡ first_acknowledgement

-- it receives payloads of 27 octets, and longer ones
abbrev pub TakesShort : OpenLink → Type 0
TakesShort link = 27 ≤ link.setup.link.max_rx

pub record IsStation (setup : Setup) (facts : Facts) : Type 0 where
  pub own : HaveOwnHandles setup facts
  pub earlier : EachOpen (OpenedBefore facts.turn.begun) facts.links
  pub fresh : EachOpen (IsFresh facts.turn.slot) facts.links
  pub short : EachOpen TakesShort facts.links
  -- while it sends or listens on one, all were opened before
  pub old : is_on_link facts.turn.doing ≡ true → EachOpen (OpenedBefore facts.turn.slot) facts.links

before_hosts : (slot : ℕ) → IsKeptByHosts (OpenedBefore slot)
before_hosts slot = record { given = λ start body link is. is; reported = λ link is. is }

before_asked : (slot : ℕ) → KeepsAsked (OpenedBefore slot)
before_asked slot step link well is = is

before_served : (slot : ℕ) → IsKeptServed (OpenedBefore slot)
before_served slot = record {
  hosts = before_hosts slot;
  served = λ now link is. is;
  fixed = λ link is. is;
  sent = λ now link is. is;
}

fresh_hosts : (slot : ℕ) → IsKeptByHosts (IsFresh slot)
fresh_hosts slot = record {
  given = λ start body link fresh. λ same. ack_given start body link ∙ fresh same;
  reported = λ link fresh. λ same. ack_reported link ∙ fresh same;
}

fresh_asked : (slot : ℕ) → KeepsAsked (IsFresh slot)
fresh_asked slot step link well fresh = λ same. ack_asked step link well.by_host ∙ fresh same

short_served : IsKeptServed TakesShort
short_served = record {
  hosts = record { given = λ start body link is. is; reported = λ link is. is };
  served = λ now link is. is;
  fixed = λ link is. is;
  sent = λ now link is. is;
}

short_asked : KeepsAsked TakesShort
short_asked step link well is = is

short_open : IsKeptOpen TakesShort
short_open = record { serving = short_served; worded = λ skd_s iv_s link is. is; received = λ now octets room link is. is; answered = short_asked }

short_entered : (now : ℕ) (link : OpenLink) → TakesShort link → TakesShort (link_entered now link)
short_entered now link is = subst (λ (s : EndSetup). 27 ≤ s.link.max_rx) (sym (entered_setup now link)) is

may_short : (setup : Setup) (phases turns : ℕ) (facts : Facts) → IsInTurn setup (Within phases) turns facts → MayOpen TakesShort short_open facts
may_short setup phases turns facts in_turn = record {
  made = λ channel link doing. (made_range setup (Within phases) turns facts in_turn channel link doing).0;
  taken = λ pdu on fields handle takes. (most_in_range facts.view in_turn.least).0;
}

before_entered : (slot now : ℕ) (link : OpenLink) → OpenedBefore slot link → OpenedBefore slot (link_entered now link)
before_entered slot now link is = subst (λ (s : EndSetup). s.opened < slot) (sym (entered_setup now link)) is

before_fresh : (slot : ℕ) (link : OpenLink) → OpenedBefore slot link → IsFresh slot link
before_fresh slot link is = λ same. absurd (omega (arith, is, same))

before_next : (slot : ℕ) (link : OpenLink) → OpenedBefore slot link → OpenedBefore (slot + 1) link
before_next slot link is = omega (arith, is)

own_step : (setup : Setup) (facts : Facts) (step : Step) → HaveOwnHandles setup facts → HaveOwnHandles setup (facts_after setup facts step)
own_step setup facts step own = holds_step setup (HaveOwnHandles setup) (HaveOwnHandles setup) (handles_kept setup) facts step own

pub station_fed : (setup : Setup) (facts : Facts) (octet : ℕ) → IsStation setup facts → IsStation setup (facts_after setup facts (HostOctet octet))
station_fed setup facts octet is =
    let same = (octet_turn setup facts octet).turn in
    let after = facts_after setup facts (HostOctet octet) in record {
      own = own_step setup facts (HostOctet octet) is.own;
      earlier = subst (λ (turn : Turn). EachOpen (OpenedBefore turn.begun) after.links) (sym same) (octet_open (OpenedBefore facts.turn.begun) (before_hosts facts.turn.begun) (before_asked facts.turn.begun) setup facts octet is.earlier);
      fresh = subst (λ (turn : Turn). EachOpen (IsFresh turn.slot) after.links) (sym same) (octet_open (IsFresh facts.turn.slot) (fresh_hosts facts.turn.slot) (fresh_asked facts.turn.slot) setup facts octet is.fresh);
      short = octet_open TakesShort short_served.hosts short_asked setup facts octet is.short;
      old = subst (λ (turn : Turn). is_on_link turn.doing ≡ true → EachOpen (OpenedBefore turn.slot) after.links) (sym same)
          (λ on. octet_open (OpenedBefore facts.turn.slot) (before_hosts facts.turn.slot) (before_asked facts.turn.slot) setup facts octet (is.old on));
    }

pub station_begins : (setup : Setup) (facts : Facts) (slot : ℕ) (on : Bool) → facts.turn.begun ≡ slot → IsStation setup facts → IsStation setup (facts_after setup facts (TurnBegins slot on))
station_begins setup facts slot on begun is =
    let after = facts_after setup facts (TurnBegins slot on) in
    let before : EachOpen (OpenedBefore slot) after.links =
    begin_open (OpenedBefore slot) (OpenedBefore slot) (before_served slot) setup slot on facts (before_entered slot slot)
    (subst (λ n. EachOpen (OpenedBefore n) facts.links) begun is.earlier) in
    let now = sym (begins_slot setup slot on facts) in record {
      own = own_step setup facts (TurnBegins slot on) is.own;
      earlier = subst (λ n. EachOpen (OpenedBefore n) after.links) (sym (begins_begun setup slot on facts))
          (open_more (OpenedBefore slot) (OpenedBefore (slot + 1)) after.links (before_next slot) before);
      fresh = subst (λ n. EachOpen (IsFresh n) after.links) now (open_more (OpenedBefore slot) (IsFresh slot) after.links (before_fresh slot) before);
      short = begin_open TakesShort TakesShort short_served setup slot on facts (short_entered slot) is.short;
      old = λ does. subst (λ n. EachOpen (OpenedBefore n) after.links) now before;
    }

pub station_ends : (setup : Setup) (facts : Facts) → IsStation setup facts → IsStation setup (facts_after setup facts TurnEnds)
station_ends setup facts is =
    let same = ends_turn setup facts in
    let after = facts_after setup facts TurnEnds in record {
      own = own_step setup facts TurnEnds is.own;
      earlier = subst (λ (turn : Turn). EachOpen (OpenedBefore turn.begun) after.links) (sym same)
          (end_open (OpenedBefore facts.turn.begun) (before_hosts facts.turn.begun) setup facts is.earlier);
      fresh = subst (λ (turn : Turn). EachOpen (IsFresh turn.slot) after.links) (sym same)
          (end_open (IsFresh facts.turn.slot) (fresh_hosts facts.turn.slot) setup facts is.fresh);
      short = end_open TakesShort short_served.hosts setup facts is.short;
      old = λ does. absurd cc;
    }

-- what receives, and may send after that, was opened before
received_before : (slot handle : ℕ) (octets : List ℕ) (room : Bool) (words : Option (ℕ × ℕ)) (refusal : Option EndStep) (replies : Bool) (facts : Facts)
    → IfSome refusal IsAskedWell → EachOpen (OpenedBefore slot) facts.links
    → EachOpen (OpenedBefore slot) (links_receiving handle octets room words refusal replies facts)
received_before slot handle octets room words refusal replies facts well each =
    sends (OpenedBefore slot) (before_served slot) facts.turn.slot (reply_if replies handle) _
    (refusing (OpenedBefore slot) (before_asked slot) refusal well handle _
    (changed (OpenedBefore slot) handle (link_after (PacketReceived facts.turn.slot octets room)) _ (λ link is. is) (given words)))
  where
    given : (words : Option (ℕ × ℕ)) → EachOpen (OpenedBefore slot) (links_worded words handle facts.links)
    given None = each
    given (Some (skd_s, iv_s)) = changed (OpenedBefore slot) handle (link_after (WordsGiven skd_s iv_s)) facts.links (λ link is. is) each

now_before : (slot begun : ℕ) → slot + 1 ≡ begun → slot < begun
now_before slot begun is = omega (arith, is)

no_link : (X : Type 0) (on : Bool) → on ≡ false → on ≡ true → X
no_link X on off is = absurd (let h : true ≡ false = sym is ∙ off in absurd cc)

passing_before : (facts after : Facts) (received : Option (List ℕ)) (begun : ℕ) → facts.turn.slot + 1 ≡ begun → IsPassingOn facts received after
    → EachOpen (OpenedBefore begun) facts.links → EachOpen (OpenedBefore begun) after.links
passing_before facts after received begun now (LeavesAll same on) each = subst (EachOpen (OpenedBefore begun)) (sym same) each
passing_before facts after received begun now (OpensOne link is none) each =
    subst (EachOpen (OpenedBefore begun)) (sym is)
    (opened (OpenedBefore begun) (record { link = link; opened = facts.turn.slot }) facts.links (now_before facts.turn.slot begun now) each)
passing_before facts after received begun now (ReceivesOn handle octets is wanted listens on room words refusal replies well links_are) each =
    subst (EachOpen (OpenedBefore begun)) (sym links_are) (received_before begun handle octets room words refusal replies facts well each)

passing_fresh : (setup : Setup) (facts after : Facts) (received : Option (List ℕ)) → IsStation setup facts → IsPassingOn facts received after
    → EachOpen (IsFresh facts.turn.slot) after.links
passing_fresh setup facts after received station (LeavesAll same on) = subst (EachOpen (IsFresh facts.turn.slot)) (sym same) station.fresh
passing_fresh setup facts after received station (OpensOne link is none) =
    subst (EachOpen (IsFresh facts.turn.slot)) (sym is)
    (opened (IsFresh facts.turn.slot) (record { link = link; opened = facts.turn.slot }) facts.links
    (λ same. first_ack (record { link = link; opened = facts.turn.slot })) station.fresh)
passing_fresh setup facts after received station (ReceivesOn handle octets is wanted listens on room words refusal replies well links_are) =
    let slot = facts.turn.slot in
    subst (EachOpen (IsFresh slot)) (sym links_are)
    (open_more (OpenedBefore slot) (IsFresh slot) _ (before_fresh slot) (received_before slot handle octets room words refusal replies facts well (station.old on)))

passing_old : (setup : Setup) (facts after : Facts) (received : Option (List ℕ)) → IsStation setup facts → IsPassingOn facts received after
    → is_on_link after.turn.doing ≡ true → EachOpen (OpenedBefore facts.turn.slot) after.links
passing_old setup facts after received station (LeavesAll same on) does = subst (EachOpen (OpenedBefore facts.turn.slot)) (sym same) (station.old (on does))
passing_old setup facts after received station (OpensOne link is none) does = no_link _ (is_on_link after.turn.doing) none does
passing_old setup facts after received station (ReceivesOn handle octets is wanted listens on room words refusal replies well links_are) does =
    subst (EachOpen (OpenedBefore facts.turn.slot)) (sym links_are)
    (received_before facts.turn.slot handle octets room words refusal replies facts well (station.old on))

pub station_passes : (setup : Setup) (facts : Facts) (phases turns : ℕ) (received : Option (List ℕ)) → IsInTurn setup (Within phases) turns facts → IsStation setup facts
    → IsStation setup (facts_after setup facts (step_of received))
station_passes setup facts phases turns received in_turn is =
    let after = facts_after setup facts (step_of received) in
    let passing = phase_passes_on setup facts received in_turn.listens in
    let turn = phase_turn setup facts received in
    let now = in_turn.slot_is ∙ sym in_turn.begun_is in record {
      own = own_step setup facts (step_of received) is.own;
      earlier = subst (λ n. EachOpen (OpenedBefore n) after.links) (sym turn.begun) (passing_before facts after received facts.turn.begun now passing is.earlier);
      fresh = subst (λ n. EachOpen (IsFresh n) after.links) (sym turn.slot) (passing_fresh setup facts after received is passing);
      short = phase_open TakesShort short_open setup facts received (may_short setup phases turns facts in_turn) is.short;
      old = λ does. subst (λ n. EachOpen (OpenedBefore n) after.links) (sym turn.slot) (passing_old setup facts after received is passing does);
    }

-- ---- the links of two stations

-- a relation of each open link of one station and each of another
abbrev pub AllPairs : (OpenLink → OpenLink → Type 0) → Links → Links → Type 0
AllPairs R ones others = EachOpen (λ one. EachOpen (R one) others) ones

abbrev pub AllAgreeIn : (Acknowledgement → Acknowledgement → Type 0) → Links → Links → Type 0
AllAgreeIn R ones others = EachOpen (λ one. EachOpen (λ other. AgreeIn R one other) others) ones

pub pairs_back : (R S : OpenLink → OpenLink → Type 0) → ((one other : OpenLink) → R one other → S other one) → (ones others : Links) → AllPairs R ones others
    → AllPairs S others ones
pairs_back R S back ones [] all = tt
pairs_back R S back ones (None ∷ others) all = (tt, pairs_back R S back ones others (open_more _ _ ones (λ one each. each.1) all))
pairs_back R S back ones (Some other ∷ others) all = (
  open_more _ (S other) ones (λ one each. back one other each.0) all,
  pairs_back R S back ones others (open_more _ _ ones (λ one each. each.1) all),
)

abbrev pub WithAllIn : (Acknowledgement → Acknowledgement → Type 0) → Links → OpenLink → Type 0
WithAllIn R others one = EachOpen (λ other. AgreeIn R one other) others

-- a relation that no step of the first link ends, but that it receives
pub record IsKeptByFirst (R : OpenLink → OpenLink → Type 0) : Type 0 where
  pub given : (start : Bool) (body : List ℕ) (one other : OpenLink) → R one other → R (link_after (DataGiven start body) one) other
  pub reported : (one other : OpenLink) → R one other → R (link_after DataReported one) other
  pub fixed : (one other : OpenLink) → R one other → R (link_after PduFixed one) other
  pub served : (slot : ℕ) (one other : OpenLink) → R one other → R (link_served slot one) other
  pub sent : (slot : ℕ) (one other : OpenLink) → R one other → R (link_after (PacketSent slot) one) other
  pub entered : (slot : ℕ) (one other : OpenLink) → R one other → R (link_entered slot one) other
  pub worded : (skd_s iv_s : ℕ) (one other : OpenLink) → R one other → R (link_after (WordsGiven skd_s iv_s) one) other
  pub asked : (step : EndStep) (one other : OpenLink) → IsAskedWell step → R one other → R (link_after step one) other

module _ (R : Acknowledgement → Acknowledgement → Type 0) (Reads : EndSetup → EndFacts → EndFacts → List ℕ → Type 0) (is : IsAgreement R Reads) where
  pub agree_kept : IsKeptByFirst (AgreeIn R)
  agree_kept = record {
    given = agree_given R Reads is;
    reported = agree_reported R Reads is;
    fixed = agree_fixed R Reads is;
    served = agree_served R Reads is;
    sent = agree_sent R Reads is;
    entered = agree_entered R Reads is;
    worded = agree_worded R Reads is;
    asked = λ step one other well agree. agree_asked R Reads is step one other well.by_host agree;
  }

module _ (R : OpenLink → OpenLink → Type 0) (kept : IsKeptByFirst R) (others : Links) where
  pub all_entered : (slot : ℕ) (one : OpenLink) → EachOpen (R one) others → EachOpen (R (link_entered slot one)) others
  all_entered slot one all = open_more (R one) (R (link_entered slot one)) others (λ other is. kept.entered slot one other is) all

  pub all_hosts : IsKeptByHosts (λ one. EachOpen (R one) others)
  all_hosts = record {
    given = λ start body one all. open_more (R one) (R (link_after (DataGiven start body) one)) others (λ other is. kept.given start body one other is) all;
    reported = λ one all. open_more (R one) (R (link_after DataReported one)) others (λ other is. kept.reported one other is) all;
  }

  pub all_asked : KeepsAsked (λ one. EachOpen (R one) others)
  all_asked step one well all = open_more (R one) (R (link_after step one)) others (λ other is. kept.asked step one other well is) all

  pub all_served : IsKeptServed (λ one. EachOpen (R one) others)
  all_served = record {
    hosts = all_hosts;
    fixed = λ one all. open_more (R one) (R (link_after PduFixed one)) others (λ other is. kept.fixed one other is) all;
    served = λ slot one all. open_more (R one) (R (link_served slot one)) others (λ other is. kept.served slot one other is) all;
    sent = λ slot one all. open_more (R one) (R (link_after (PacketSent slot) one)) others (λ other is. kept.sent slot one other is) all;
  }

-- as it receives, it may have been given words
abbrev pub link_worded : Option (ℕ × ℕ) → OpenLink → OpenLink
link_worded None link = link
link_worded (Some words) link = link_after (WordsGiven words.0 words.1) link

record WasChanged (change : OpenLink → OpenLink) (place : Option OpenLink) (after : OpenLink) : Type 0 where
  link : OpenLink
  was : place ≡ Some link
  is : after ≡ change link

was_changed : (change : OpenLink → OpenLink) (place : Option OpenLink) (after : OpenLink) → option_map change place ≡ Some after → WasChanged change place after
was_changed change None after is = absurd cc
was_changed change (Some link) after is = record { link = link; was = refl; is = cc }

-- a phase of the first station keeps a relation that a new link has, and one that receives keeps
pub passing_keeps : (R : OpenLink → OpenLink → Type 0) → IsKeptByFirst R → (others : Links) (facts after : Facts) (received : Option (List ℕ))
    → ((end : EndSetup) → end.opened ≡ facts.turn.slot → EachOpen (R (new_link end)) others)
    → ((handle : ℕ) (octets : List ℕ) (room : Bool) (words : Option (ℕ × ℕ)) (one : OpenLink) → received ≡ Some octets
    → link_listened facts.turn.doing ≡ Some handle → facts.wanted ≡ listens_on (link_at handle facts.links) → link_at handle facts.links ≡ Some one
    → EachOpen (R (link_worded words one)) others
    → EachOpen (R (link_after (PacketReceived facts.turn.slot octets room) (link_worded words one))) others)
    → IsPassingOn facts received after → AllPairs R facts.links others → AllPairs R after.links others
passing_keeps R kept others facts after received new heard (LeavesAll same on) all = subst (λ links. AllPairs R links others) (sym same) all
passing_keeps R kept others facts after received new heard (OpensOne link is none) all =
    let end : EndSetup = record { link = link; opened = facts.turn.slot } in
    subst (λ links. AllPairs R links others) (sym is) (opened (λ one. EachOpen (R one) others) end facts.links (new end refl) all)
passing_keeps R kept others facts after received new heard (ReceivesOn handle octets is wanted listens on room words refusal replies well links_are) all =
    subst (λ links. AllPairs R links others) (sym links_are)
    (sends (λ one. EachOpen (R one) others) (all_served R kept others) facts.turn.slot (reply_if replies handle) _
    (refusing (λ one. EachOpen (R one) others) (all_asked R kept others) refusal well handle _ (takes words (heard handle octets room))))
  where
    step : EndStep
    step = PacketReceived facts.turn.slot octets room

    takes : (words : Option (ℕ × ℕ))
        → ((words : Option (ℕ × ℕ)) (one : OpenLink) → received ≡ Some octets → link_listened facts.turn.doing ≡ Some handle
        → facts.wanted ≡ listens_on (link_at handle facts.links) → link_at handle facts.links ≡ Some one
        → EachOpen (R (link_worded words one)) others → EachOpen (R (link_after step (link_worded words one))) others)
        → AllPairs R (with_change handle (link_after step) (links_worded words handle facts.links)) others
    takes None hears =
        changed_at (λ one. EachOpen (R one) others) 0 handle (link_after step) facts.links
        (λ one at each. hears None one is listens wanted at each) all
    takes (Some (skd_s, iv_s)) hears =
        let given = link_after (WordsGiven skd_s iv_s) in
        changed_at (λ one. EachOpen (R one) others) 0 handle (link_after step) (with_change handle given facts.links)
        (λ one at each.
        let before = was_changed given (link_at handle facts.links) one (sym (changed_is (option_map given) 0 handle facts.links refl) ∙ at) in
        subst (λ (now : OpenLink). EachOpen (R (link_after step now)) others) (sym before.is)
        (hears (Some (skd_s, iv_s)) before.link is listens wanted before.was (subst (λ (now : OpenLink). EachOpen (R now) others) before.is each)))
        (changed (λ one. EachOpen (R one) others) handle given facts.links
        (λ one each. open_more (R one) (R (given one)) others (λ other is. kept.worded skd_s iv_s one other is) each) all)

module _ (R : Acknowledgement → Acknowledgement → Type 0) (Reads : EndSetup → EndFacts → EndFacts → List ℕ → Type 0) (is : IsAgreement R Reads) where
  -- a link that opens while those of the other station that have its slot are fresh
  pub new_agree : (slot : ℕ) (others : Links) → EachOpen (IsFresh slot) others → (end : EndSetup) → end.opened ≡ slot → WithAllIn R others (new_link end)
  new_agree slot others fresh end now =
      open_more (IsFresh slot) (λ other. AgreeIn R (new_link end) other) others (λ other new. agree_new R Reads is end other (λ same. new (sym same ∙ now))) fresh

-- ---- each call

pub record AreStations (given : Given) (facts : ℕ → Facts) : Type 0 where
  pub each : (station : ℕ) → is_in station given.stations ≡ true → IsStation (setup_at given station) (facts station)

pub differs_back : (one other : ℕ) → (one == other) ≡ false → (other == one) ≡ false
differs_back one other differs = apart_back one other differs

stations_called : (given : Given) (station : ℕ) (step : Step) (before after : ℕ → Facts) → IsCalled given station step before after
    → IsStation (setup_at given station) (facts_after (setup_at given station) (before station) step) → AreStations given before → AreStations given after
stations_called given station step before after called next are = record { each = λ other is. by other is (other == station) refl }
  where
    by : (other : ℕ) → is_in other given.stations ≡ true → (same : Bool) → (other == station) ≡ same → IsStation (setup_at given other) (after other)
    by other is true one =
        subst (λ n. IsStation (setup_at given n) (after n)) (sym (eqb-true other station one)) (subst (IsStation (setup_at given station)) (sym called.own) next)
    by other is false differs = subst (IsStation (setup_at given other)) (sym (called.others other differs)) (are.each other is)

pub one_slot : (one other turns : ℕ) → one + 1 ≡ turns → other + 1 ≡ turns → one ≡ other
one_slot one other turns is is_too = omega (arith, is, is_too)

pub stations_kept : (given : Given) → IsKeptByCalls given (AreStations given)
stations_kept given = record {
  feeds = λ station octet before after called are.
      stations_called given station (HostOctet octet) before after called (station_fed (setup_at given station) (before station) octet (are.each station called.is_one)) are;
  begins = λ station slot on before after called in_turn are.
      stations_called given station (TurnBegins slot on) before after called
      (station_begins (setup_at given station) (before station) slot on in_turn.begun_is (are.each station called.is_one)) are;
  passes = λ station phases turns received before after called in_turn slots sent are.
      stations_called given station (step_of received) before after called
      (station_passes (setup_at given station) (before station) phases turns received in_turn (are.each station called.is_one)) are;
  ends = λ station before after called are.
      stations_called given station TurnEnds before after called (station_ends (setup_at given station) (before station) (are.each station called.is_one)) are;
}

-- ---- the run

pub first_station : (setup : Setup) → IsStation setup (first_facts setup)
unfolding facts_of
first_station setup = record {
  own = own_handles setup [];
  earlier = none_open (OpenedBefore 0) setup.links;
  fresh = none_open (IsFresh 0) setup.links;
  short = none_open TakesShort setup.links;
  old = λ on. absurd cc;
}
