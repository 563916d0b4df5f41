-- In a turn the packets of a link that wait, with those that are complete and not reported, do not become more. Where hosts
-- send only between turns, no link ever has more complete packets than its controller has buffers.
use Rattle.std.proofs.Common.{◌≡◌, ℕ, ◌+◌, ◌≤◌, Bool, true, false, Option, Some, None, List, [], ◌∷◌, ◌++◌, length, cond, refl, ap, sym, subst, ◌∙◌, append-nil, append_assoc, arith}
use Rattle.std.specs.Prelude.{IfSome, ◌&&◌, fold, is_some, nat_lt, ⊤}
use Rattle.std.specs.List.{find}
use Rattle.std.proofs.lemmas.List.Sums.{fold-append, sum_by-cons}
use Rattle.acl_banks.specs.Packets.{DataPacket, packet_after_acked, packet_after_went, with_first, without_first}
use Rattle.journal_acks.specs.link_model.Data.{Data, data_acked_if, data_completed, is_completed, is_data, is_out, is_unsent}
use Rattle.journal_acks.specs.link_model.Sending.{data_sent_as}
use Rattle.journal_acks.specs.link_model.End.{facts_after as end_after, facts_of as end_facts}
use Rattle.journal_acks.specs.link_model.Facts.{Facts as EndFacts, first_facts as first_end}
use Rattle.journal_acks.specs.link_model.Setup.{Setup as EndSetup}
use Rattle.journal_acks.specs.link_model.Step.{Step as EndStep, DataGiven, EventEntered, PduFixed, PacketSent, PacketReceived, DataReported, WordsGiven}
use Rattle.journal_acks.specs.link_model.declared.setup.LinkSetup.{LinkSetup}
use Rattle.journal_acks.proofs.link_model.Pasts.{grows}
use Rattle.scan_init.specs.Reports.{does_ask, scan_answer}
use Rattle.slot_plan.specs.declared.Activity.{Activity}
use Rattle.slot_plan.specs.declared.Activity.TheVariants.{Link, Advertise, Scan, Initiate}
use Rattle.journal_acks.specs.open_links.Data.{buffers_in, buffers_taken, complete_in, links_reported}
use Rattle.journal_acks.specs.open_links.OpenLinks.{Links, OpenLink, facts_in, link_after, link_at, link_from, link_served, new_link, with_change}
use Rattle.journal_acks.specs.open_links.Turns.{entered_if, links_without, staying_by, enters_in}
use Rattle.journal_acks.proofs.open_links.Handles.{here, later}
use Rattle.journal_acks.proofs.open_links.Within.{given_complete}
use Rattle.journal_acks.specs.controller_model.declared.doing.Doing.{Doing}
use Rattle.journal_acks.specs.controller_model.declared.doing.Doing.TheVariants.{Advertises, CentralSends, PeripheralListens, PeripheralSends}
use Rattle.journal_acks.specs.controller_model.Between.{between_after, is_between_turns}
use Rattle.journal_acks.specs.controller_model.Facts.{Setup, Facts}
use Rattle.journal_acks.specs.controller_model.Heard.{asks_if, has_room, link_taken, opens, replies_in, reply_if, link_received, links_refusing}
use Rattle.journal_acks.specs.controller_model.Outcome.{facts_passed}
use Rattle.journal_acks.specs.controller_model.Packets.{links_sending}
use Rattle.journal_acks.specs.controller_model.Radio.{links_fixing}
use Rattle.journal_acks.specs.controller_model.Side.{facts_after, facts_of}
use Rattle.journal_acks.specs.controller_model.Step.{Step, HostOctet, TurnBegins, PacketHeard, NothingHeard, TurnEnds}
use Rattle.journal_acks.proofs.controller_model.Always.{IsInTurn, IsKeptInTurns, links_won, opening_passes, turn_keeps}
use Rattle.journal_acks.proofs.controller_model.Asked.{IsAskedStep, asked_leaves_data}
use Rattle.journal_acks.proofs.controller_model.BetweenTurns.{none_complete}
use Rattle.journal_acks.proofs.controller_model.Buffers.{fits_buffers}
use Rattle.journal_acks.proofs.controller_model.Pasts.{facts_more}
use Rattle.journal_acks.proofs.run_laws.OpenSteps.{AtOpen, EachOpen, IsKeptByHosts, KeepsAsked, changed, enter_open, none_open, octet_open, open_more, opened}
use Rattle.journal_acks.specs.controller_model.Entering.{all_entered}
use Rattle.journal_data.proofs.DataSteps.{IsKeptByEnd, IsOwnStep, asked_own, end_keeps}
use Rattle.journal_acks.proofs.controller_model.Places.{refusal_at, refusal_is}

-- ---- one end

-- the packets that wait, and those that are complete and not reported
abbrev load_in : Data → ℕ
load_in outgoing = outgoing.complete + length outgoing.packets

abbrev load_of : EndFacts → ℕ
load_of facts = load_in facts.outgoing

length-with : {A : Type 0} (test : A → Bool) (change : A → A) (xs : List A) → length (with_first test change xs) ≡ length xs
length-with test change [] = refl
length-with test change (x ∷ xs) = at (test x) (length-with test change xs)
  where
    at : (first : Bool) → length (with_first test change xs) ≡ length xs
        → length (cond first (change x ∷ xs) (x ∷ with_first test change xs)) ≡ length (x ∷ xs)
    at true same = refl
    at false same = omega (arith, same)

-- the one that is found is taken out
one_less : {A : Type 0} (test : A → Bool) (xs : List A) → is_some (find test xs) ≡ true → length (without_first test xs) + 1 ≡ length xs
one_less test [] some = absurd (let h : false ≡ true = some in absurd cc)
one_less test (x ∷ xs) some = at (test x) some (one_less test xs)
  where
    at : (first : Bool) → is_some (cond first (Some x) (find test xs)) ≡ true
        → (is_some (find test xs) ≡ true → length (without_first test xs) + 1 ≡ length xs)
        → length (cond first xs (x ∷ without_first test xs)) + 1 ≡ length (x ∷ xs)
    at true some less = omega arith
    at false some less = omega (arith, less some)

some_completed : (found : Option DataPacket) → is_completed found ≡ true → is_some found ≡ true
some_completed None is = absurd (let h : false ≡ true = is in absurd cc)
some_completed (Some packet) is = refl

completed_load : (completes : Bool) (outgoing : Data) → is_completed (find is_out outgoing.packets) ≡ completes
    → load_in (data_completed completes outgoing) ≤ load_in outgoing
completed_load true outgoing is =
    let less = one_less is_out outgoing.packets (some_completed (find is_out outgoing.packets) is) in omega (arith, less)
completed_load false outgoing is = let same = length-with is_out packet_after_acked outgoing.packets in omega (arith, same)

acked_load : (acked : Bool) (outgoing : Data) → load_in (data_acked_if acked outgoing) ≤ load_in outgoing
acked_load true outgoing = completed_load (is_completed (find is_out outgoing.packets)) outgoing refl
acked_load false outgoing = omega arith

sent_as : (is_piece : Bool) (outgoing : Data)
    → length (cond is_piece (with_first is_unsent (packet_after_went (length outgoing.fixed.body)) outgoing.packets) outgoing.packets) ≡ length outgoing.packets
sent_as true outgoing = length-with is_unsent (packet_after_went (length outgoing.fixed.body)) outgoing.packets
sent_as false outgoing = refl

sent_load : (payload : List ℕ) (is_new : Bool) (outgoing : Data) → load_in (data_sent_as payload is_new outgoing) ≤ load_in outgoing
sent_load payload true outgoing = let same = sent_as (is_data outgoing.fixed) outgoing in omega (arith, same)
sent_load payload false outgoing = omega arith

load_kept : (most : ℕ) → IsKeptByEnd (λ outgoing. load_in outgoing ≤ most)
load_kept most = record {
  sending = record {
    fixed = λ limit pdu more again outgoing few. few;
    sent = λ payload is_new outgoing few. let less = sent_load payload is_new outgoing in omega (arith, less, few);
  };
  acked = λ acked outgoing few. let less = acked_load acked outgoing in omega (arith, less, few);
}

-- ---- its past

-- now and after each of these steps no more packets than this are complete and not reported
abbrev pub FewFrom : ℕ → EndSetup → EndFacts → List EndStep → Type 0
FewFrom most setup facts [] = facts.outgoing.complete ≤ most
FewFrom most setup facts (step ∷ past) = (facts.outgoing.complete ≤ most) × FewFrom most setup (end_after setup facts step) past

-- and so at any time since the link was opened
abbrev pub HadFew : ℕ → EndSetup → List EndStep → Type 0
HadFew most setup past = FewFrom most setup (first_end setup) past

few_more : (most : ℕ) (setup : EndSetup) (facts : EndFacts) (past : List EndStep) (step : EndStep) → FewFrom most setup facts past
    → (end_after setup (fold (end_after setup) facts past) step).outgoing.complete ≤ most → FewFrom most setup facts (past ++ step ∷ [])
few_more most setup facts [] step few last = (few, last)
few_more most setup facts (first ∷ past) step few last = (few.0, few_more most setup (end_after setup facts first) past step few.1 last)

few_front : (most : ℕ) (setup : EndSetup) (facts : EndFacts) (past : List EndStep) (step : EndStep) → FewFrom most setup facts (past ++ step ∷ [])
    → FewFrom most setup facts past
few_front most setup facts [] step few = few.0
few_front most setup facts (first ∷ past) step few = (few.0, few_front most setup (end_after setup facts first) past step few.1)

few_last : (most : ℕ) (setup : EndSetup) (facts : EndFacts) (past : List EndStep) → FewFrom most setup facts past
    → (fold (end_after setup) facts past).outgoing.complete ≤ most
few_last most setup facts [] few = few
few_last most setup facts (step ∷ past) few = few_last most setup (end_after setup facts step) past few.1

had_more : (most : ℕ) (setup : EndSetup) (past : List EndStep) (step : EndStep) → HadFew most setup past
    → (end_after setup (end_facts setup past) step).outgoing.complete ≤ most → HadFew most setup (past ++ step ∷ [])
unfolding end_facts
had_more most setup past step had last = few_more most setup (first_end setup) past step had last

pub had_front : (most : ℕ) (setup : EndSetup) (past : List EndStep) (step : EndStep) → HadFew most setup (past ++ step ∷ []) → HadFew most setup past
had_front most setup past step had = few_front most setup (first_end setup) past step had

pub had_last : (most : ℕ) (setup : EndSetup) (past : List EndStep) → HadFew most setup past → (end_facts setup past).outgoing.complete ≤ most
unfolding end_facts
had_last most setup past had = few_last most setup (first_end setup) past had

-- ---- a link

abbrev pub HasLoad : ℕ → OpenLink → Type 0
HasLoad most link = load_of (facts_in link) ≤ most

abbrev HasHadFew : ℕ → OpenLink → Type 0
HasHadFew most link = HadFew most link.setup link.past

abbrev pub IsFew : ℕ → OpenLink → Type 0
IsFew most link = HasLoad most link × HadFew most link.setup link.past

few_by : (most : ℕ) (step : EndStep) (link : OpenLink) → load_of (end_after link.setup (facts_in link) step) ≤ most → IsFew most link
    → IsFew most (link_after step link)
few_by most step link less few = (
  subst (λ (facts : EndFacts). load_of facts ≤ most) (sym (grows link.setup link.past step)) less,
  had_more most link.setup link.past step few.1 (omega (arith, less)),
)

few_after : (most : ℕ) (step : EndStep) (link : OpenLink) → IsOwnStep step → IsFew most link → IsFew most (link_after step link)
few_after most step link own few =
    few_by most step link (end_keeps (λ outgoing. load_in outgoing ≤ most) (load_kept most) link.setup (facts_in link) step own few.0) few

few_reported : (most : ℕ) (link : OpenLink) → IsFew most link → IsFew most (link_after DataReported link)
few_reported most link few = few_by most DataReported link (let less = few.0 in omega (arith, less)) few

few_new : (most : ℕ) (setup : EndSetup) → IsFew most (new_link setup)
unfolding end_facts
few_new most setup = (omega arith, omega arith)

had_given : (most : ℕ) (start : Bool) (body : List ℕ) (link : OpenLink) → HasHadFew most link → HasHadFew most (link_after (DataGiven start body) link)
had_given most start body link had =
    let same = given_complete link.setup.link.handle start body (facts_in link).outgoing in
    let last = had_last most link.setup link.past had in
    had_more most link.setup link.past (DataGiven start body) had (omega (arith, same, last))

pub had_reported : (most : ℕ) (link : OpenLink) → HasHadFew most link → HasHadFew most (link_after DataReported link)
had_reported most link had = had_more most link.setup link.past DataReported had (omega arith)

had_asked : (most : ℕ) → KeepsAsked (HasHadFew most)
had_asked most step link well had =
    let same = ap (λ (outgoing : Data). outgoing.complete) ((asked_leaves_data step well.by_host).outgoing link.setup (facts_in link)) in
    let last = had_last most link.setup link.past had in
    had_more most link.setup link.past step had (omega (arith, same, last))

-- ---- the links of a controller, in a turn

module _ (most : ℕ) where
  abbrev AreFewAt : Links → Type 0
  AreFewAt links = EachOpen (IsFew most) links

  stepped : (step : EndStep) (handle : ℕ) (links : Links) → IsOwnStep step → AreFewAt links → AreFewAt (with_change handle (link_after step) links)
  stepped step handle links own each = changed (IsFew most) handle (link_after step) links (λ link few. few_after most step link own few) each

  stays : (reason : OpenLink → Option ℕ) (links : Links) → AreFewAt links → AreFewAt (links_without reason links)
  stays reason [] each = tt
  stays reason (None ∷ links) each = (tt, stays reason links each.1)
  stays reason (Some link ∷ links) each = (by (reason link), stays reason links each.1)
    where
      by : (code : Option ℕ) → AtOpen (IsFew most) (staying_by code link)
      by None = each.0
      by (Some code) = tt

  entered : (enters : Bool) (slot : ℕ) (link : OpenLink) → IsFew most link → IsFew most (entered_if enters slot link)
  entered true slot link few = few_after most (EventEntered slot) link tt few
  entered false slot link few = few

  enters : (slot : ℕ) (links : Links) → AreFewAt links → AreFewAt (all_entered slot links)
  enters slot links each =
      enter_open (IsFew most) (IsFew most) slot links (λ link few. entered (enters_in slot link) slot link few) each

  wins : (slot : ℕ) (activity : Activity) (links : Links) → AreFewAt links → AreFewAt (links_won slot activity links)
  wins slot (Link handle) links each = changed (IsFew most) handle (link_served slot) links (λ link few. few) each
  wins slot Advertise links each = each
  wins slot Scan links each = each
  wins slot Initiate links each = each

  fixes : (doing : Doing) (links : Links) → AreFewAt links → AreFewAt (links_fixing doing links)
  fixes (CentralSends handle) links each = stepped PduFixed handle links tt each
  fixes (PeripheralListens handle) links each = stepped PduFixed handle links tt each
  fixes (Advertises channel) links each = each
  fixes other links each = each

  sends : (slot : ℕ) (doing : Doing) (links : Links) → AreFewAt links → AreFewAt (links_sending slot doing links)
  sends slot (CentralSends handle) links each = stepped (PacketSent slot) handle links tt each
  sends slot (PeripheralSends handle) links each = stepped (PacketSent slot) handle links tt each
  sends slot (Advertises channel) links each = each
  sends slot other links each = each

  reports : (links : Links) → AreFewAt links → AreFewAt (links_reported links)
  reports [] each = tt
  reports (None ∷ links) each = (tt, reports links each.1)
  reports (Some link ∷ links) each = (by (nat_lt 0 (complete_in link)), reports links each.1)
    where
      by : (complete : Bool) → IsFew most (cond complete (link_after DataReported link) link)
      by true = few_reported most link each.0
      by false = each.0

  refuses : (refusal : Option EndStep) (handle : ℕ) (links : Links) → IfSome refusal IsAskedStep → AreFewAt links → AreFewAt (links_refusing refusal handle links)
  refuses (Some step) handle links asks each = stepped step handle links (asked_own step asks) each
  refuses None handle links asks each = each

  opens_few : (link : LinkSetup) (facts : Facts) → AreFewAt facts.links → AreFewAt (facts_passed (opens link facts)).links
  opens_few link facts each =
      let end : EndSetup = record { link = link; opened = facts.turn.slot } in
      opening_passes (λ after. AreFewAt after.links) link facts (opened (IsFew most) end facts.links (few_new most end) each)

  few_kept : (setup : Setup) → IsKeptInTurns setup (λ facts. AreFewAt facts.links) (λ facts. AreFewAt facts.links)
  few_kept setup = record {
    starts = record {
      weakens = λ facts each. each;
      ends = λ reason facts each. stays reason facts.links each;
      begins = λ slot facts each. each;
      enters = λ slot facts each. enters slot facts.links each;
      wins = λ slot activity facts each. wins slot activity facts.links each;
      fixes = λ doing facts each. fixes doing facts.links each;
      does = λ doing facts may each. sends facts.turn.slot doing facts.links each;
    };
    reports = λ facts each. reports facts.links each;
    passes = λ facts each. record {
      rests = each;
      awaits_request = λ channel doing. each;
      awaits_response = λ channel advertiser doing. each;
      central_listens = λ handle doing. each;
      sent = λ channel link doing. opens_few link facts each;
      responds = λ channel on doing is_on. each;
      taken = λ channel octets pdu on fields handle is_on hears takes free. opens_few (link_taken facts.view on.params.own pdu fields handle) facts each;
      scanned = λ channel octets pdu on doing is_on hears.
          sends facts.turn.slot (asks_if (true && does_ask (scan_answer on.params facts.view.accepted on.recent pdu)) channel pdu) facts.links each;
      answered = λ channel octets pdu on doing is_on hears.
          sends facts.turn.slot (asks_if (false && does_ask (scan_answer on.params facts.view.accepted on.recent pdu)) channel pdu) facts.links each;
      connects = λ channel octets pdu on access handle doing is_on hears answers next free in_range. each;
      received = λ handle octets.
          let room = has_room setup facts in
          let step = PacketReceived facts.turn.slot octets room in
          sends facts.turn.slot (reply_if (replies_in facts.turn.slot room (link_at handle facts.links) octets) handle)
          (link_received handle room octets facts).links
          (refuses (refusal_at handle room octets facts) handle (with_change handle (link_after step) facts.links) (refusal_is handle room octets facts)
          (stepped step handle facts.links tt each));
    };
    words = λ handle facts listens each. stepped (WordsGiven _ _) handle facts.links tt each;
  }

  pub turn_few : (setup : Setup) (facts : Facts) (step : Step) → IsInTurn step → AreFewAt facts.links → AreFewAt (facts_after setup facts step).links
  turn_few setup facts step turn each =
      turn_keeps setup (λ facts. AreFewAt facts.links) (λ facts. AreFewAt facts.links) (few_kept setup) facts step turn each

  -- ---- between turns

  hosts_kept : IsKeptByHosts (HasHadFew most)
  hosts_kept = record { given = had_given most; reported = had_reported most }

  octet_had : (setup : Setup) (facts : Facts) (octet : ℕ) → AreFewAt facts.links
      → EachOpen (HasHadFew most) (facts_after setup facts (HostOctet octet)).links
  octet_had setup facts octet each =
      octet_open (HasHadFew most) hosts_kept (had_asked most) setup facts octet
      (open_more (IsFew most) (HasHadFew most) facts.links (λ link few. few.1) each)

  -- a fact of what is under each handle
  each_of : (P : OpenLink → Type 0) (first : ℕ) (links : Links) → ((handle : ℕ) → first ≤ handle → AtOpen P (link_from first handle links)) → EachOpen P links
  each_of P first [] all = tt
  each_of P first (place ∷ links) all = (
    subst (AtOpen P) (here first place links) (all first (omega arith)),
    each_of P (first + 1) links
        (λ handle from. subst (AtOpen P) (later first handle place links (omega (arith, from))) (all handle (omega (arith, from)))),
  )

  -- of links with nothing complete each has at most as many packets as all of them take buffers
  loads_of : (links : Links) → buffers_taken links ≤ most → EachOpen (λ link. complete_in link ≡ 0) links → EachOpen (HasLoad most) links
  loads_of [] fits none = tt
  loads_of (None ∷ links) fits none =
      let all = sum_by-cons buffers_in None links in (tt, loads_of links (omega (arith, all, fits)) none.1)
  loads_of (Some link ∷ links) fits none =
      let all = sum_by-cons buffers_in (Some link) links in
      let one = none.0 in
      (omega (arith, all, fits, one), loads_of links (omega (arith, all, fits)) none.1)

  both_of : (links : Links) → EachOpen (HasLoad most) links → EachOpen (HasHadFew most) links → AreFewAt links
  both_of [] loads had = tt
  both_of (None ∷ links) loads had = (tt, both_of links loads.1 had.1)
  both_of (Some link ∷ links) loads had = ((loads.0, had.0), both_of links loads.1 had.1)

  between_loads : (setup : Setup) (past : List Step) → setup.host_buffers ≤ most → is_between_turns past ≡ true
      → EachOpen (HasLoad most) (facts_of setup past).links
  between_loads setup past few between =
      let links = (facts_of setup past).links in
      let fits = fits_buffers setup past in
      loads_of links (omega (arith, fits, few))
      (each_of (λ link. complete_in link ≡ 0) 0 links (λ handle from. at handle (link_at handle links) refl))
    where
      at : (handle : ℕ) (place : Option OpenLink) → link_at handle (facts_of setup past).links ≡ place → AtOpen (λ link. complete_in link ≡ 0) place
      at handle None is = tt
      at handle (Some link) is = none_complete setup past handle link between is

-- ---- all steps

-- a host sends only between turns
abbrev pub MayFeed : Bool → Step → Type 0
MayFeed between (HostOctet octet) = between ≡ true
MayFeed between step = ⊤

abbrev pub FedFrom : Bool → List Step → Type 0
FedFrom between [] = ⊤
FedFrom between (step ∷ past) = MayFeed between step × FedFrom (between_after between step) past

abbrev pub IsFedBetween : List Step → Type 0
IsFedBetween past = FedFrom true past

fed_from_more : (between : Bool) (past : List Step) (step : Step) → FedFrom between past → MayFeed (fold between_after between past) step
    → FedFrom between (past ++ step ∷ [])
fed_from_more between [] step fed may = (may, tt)
fed_from_more between (first ∷ past) step fed may = (fed.0, fed_from_more (between_after between first) past step fed.1 may)

pub fed_more : (past : List Step) (step : Step) → IsFedBetween past → MayFeed (is_between_turns past) step → IsFedBetween (past ++ step ∷ [])
fed_more past step fed may = fed_from_more true past step fed may

pub between_more : (past : List Step) (step : Step) → is_between_turns (past ++ step ∷ []) ≡ between_after (is_between_turns past) step
between_more past step = fold-append between_after true past (step ∷ [])

few_in_turn : (setup : Setup) (most : ℕ) (past : List Step) (step : Step) → IsInTurn step → EachOpen (IsFew most) (facts_of setup past).links
    → EachOpen (IsFew most) (facts_of setup (past ++ step ∷ [])).links
few_in_turn setup most past step turn each =
    subst (λ (facts : Facts). EachOpen (IsFew most) facts.links) (sym (facts_more setup past step)) (turn_few most setup (facts_of setup past) step turn each)

few_step : (setup : Setup) (most : ℕ) (past : List Step) (step : Step) → setup.host_buffers ≤ most → MayFeed (is_between_turns past) step
    → EachOpen (IsFew most) (facts_of setup past).links → EachOpen (IsFew most) (facts_of setup (past ++ step ∷ [])).links
few_step setup most past (HostOctet octet) few may each =
    let after = past ++ HostOctet octet ∷ [] in
    both_of most (facts_of setup after).links
    (between_loads most setup after few (between_more past (HostOctet octet) ∙ may))
    (subst (λ (facts : Facts). EachOpen (HasHadFew most) facts.links) (sym (facts_more setup past (HostOctet octet)))
    (octet_had most setup (facts_of setup past) octet each))
few_step setup most past (TurnBegins slot on) few may each = few_in_turn setup most past (TurnBegins slot on) tt each
few_step setup most past (PacketHeard octets) few may each = few_in_turn setup most past (PacketHeard octets) tt each
few_step setup most past NothingHeard few may each = few_in_turn setup most past NothingHeard tt each
few_step setup most past TurnEnds few may each = few_in_turn setup most past TurnEnds tt each

few_along : (setup : Setup) (most : ℕ) (front rest : List Step) → setup.host_buffers ≤ most → FedFrom (is_between_turns front) rest
    → EachOpen (IsFew most) (facts_of setup front).links → EachOpen (IsFew most) (facts_of setup (front ++ rest)).links
few_along setup most front [] few fed each =
    subst (λ (past : List Step). EachOpen (IsFew most) (facts_of setup past).links) (sym (append-nil front)) each
few_along setup most front (step ∷ rest) few fed each =
    subst (λ (past : List Step). EachOpen (IsFew most) (facts_of setup past).links) (append_assoc front (step ∷ []) rest)
    (few_along setup most (front ++ step ∷ []) rest few (subst (λ (between : Bool). FedFrom between rest) (sym (between_more front step)) fed.1)
    (few_step setup most front step few fed.0 each))

first_few : (setup : Setup) (most : ℕ) → EachOpen (IsFew most) (facts_of setup []).links
unfolding facts_of
first_few setup most = none_open (IsFew most) setup.links

pub few_always : (setup : Setup) (most : ℕ) (past : List Step) → setup.host_buffers ≤ most → IsFedBetween past
    → EachOpen (IsFew most) (facts_of setup past).links
few_always setup most past few fed = few_along setup most [] past few fed (first_few setup most)
