-- In every run of two stations, each request and each response on an advertising channel that passes is judged good.
use Rattle.std.proofs.Common.{◌≡◌, ℕ, zero, suc, ◌+◌, ◌≤◌, ◌==◌, Bool, true, false, Option, Some, None, List, [], ◌∷◌, ◌++◌, cond, refl, sym, ap, subst, ◌∙◌, arith}
use Rattle.std.specs.Prelude.{⊤, not, ◌&&◌, nat_le, nat_lt}
use Rattle.std.specs.Option.{option_and_then, option_map}
use Rattle.std.proofs.lemmas.Bool.{and_parts, leb-true}
use Rattle.ble_base.specs.declared.addresses.Address.{Address}
use Rattle.ble_base.specs.declared.verdicts.Verdict.TheVariants.{Good}
use Rattle.adv_pdu.specs.declared.pdu.AdvPdu.{AdvPdu}
use Rattle.adv_pdu.specs.declared.pdu.AdvPdu.TheVariants.{Ind, Direct, Nonconn, Connect, ScanInd}
use Rattle.adv_pdu.specs.Reading.{read_of}
use Rattle.advertise.specs.Advertising.{AdvertiserFacts, advertisement}
use Rattle.air_frame.specs.declared.Heard.{Heard}
use Rattle.air_frame.specs.declared.Heard.TheVariants.{NotOurs, Broken, Whole}
use Rattle.journal.specs.declared.entries.Mark.TheVariants.{Pass as Passed}
use Rattle.journal_data.specs.link_model.declared.setup.LinkSetup.{LinkSetup}
use Rattle.radio_replay.specs.Damage.{damaged_packet}
use Rattle.radio_replay.specs.declared.fates.Fate.{Fate}
use Rattle.radio_replay.specs.declared.fates.Fate.TheVariants.{Pass, Lost, Damage}
use Rattle.journal_data.specs.controller_model.declared.doing.Doing.{Doing}
use Rattle.journal_data.specs.controller_model.declared.doing.Doing.TheVariants.{Advertises, AwaitsRequest, Responds, Scans, Requests, Initiates, Connects}
use Rattle.journal_data.specs.controller_model.Facts.{Facts, Use, Sends, Listens}
use Rattle.journal_data.specs.controller_model.Packets.{advertisement_sent, advertising_packet, channel_listened, connect_sent, heard_on_channel, pdu_by}
use Rattle.journal_data.specs.controller_model.Packets.{pdu_heard, sends_pdu, verdict_advertising, verdict_by, verdict_of}
use Rattle.journal_data.specs.controller_model.Side.{facts_after}
use Rattle.journal_data.proofs.controller_model.Sent.{AdvertisingFits, DoingFits, SomePdu, advertisement_is, can_be_done, sends_well}
use Rattle.journal_data.specs.run_model.Feeding.{AreDistinct}
use Rattle.journal_data.specs.run_model.History.{Event, Hearing, Transmitted, packet_received, past_of, turns_begun}
use Rattle.journal_data.specs.run_model.Journal.{journal_of, mark_of}
use Rattle.journal_data.specs.run_model.LinkEnds.{HaveAddresses}
use Rattle.journal_data.specs.run_model.Links.{is_advertising}
use Rattle.journal_data.specs.run_model.Run.{Given, facts_at, hearing_at, history_of, reaches, run_of, setup_at, step_of, use_at, verdict_where}
use Rattle.journal_data.proofs.run_model.EntryEvents.{is_aired}
use Rattle.journal_data.proofs.run_model.LinkEnds.{IsUnderstood, wanted_is}
use Rattle.journal_data.proofs.run_model.OfStations.{OfStations, run_of_stations}
use Rattle.journal_data.proofs.run_model.Places.{each_at}
use Rattle.journal_data.proofs.run_model.Stations.{is_in, among}
use Rattle.journal_data.proofs.run_model.Walk.{AtPackets}
use Rattle.journal_data.proofs.run_laws.ChSel.{one_channel}
use Rattle.journal_data.proofs.run_laws.Hearings.{AreHearing, IsHeard, sends_deaf}
use Rattle.journal_data.proofs.run_laws.InAgreement.{differs_back}
use Rattle.journal_data.proofs.journal_links.OfTwo.{are_distinct}
use Rattle.journal_data.proofs.journal_acks.Seen.{IsSeen, seen_packet}
use Rattle.journal_data.proofs.journal_acks.TwoStations.{IsOfTwo, hearing_of, one_hearing, other_is, other_of, same_number}
use Rattle.journal_data.proofs.KeptData.{other_in}
use Rattle.journal_hearings.specs.Requests.{AllRequestsAreHeard, is_awaited}
use Rattle.journal_hearings.proofs.AirDoings.{FitsPhase, HasAnswered, IsAnswered, IsAtPhase, IsAwaiting, IsSentOn, AwaitsNext, UsesIt, answered_unforged, asks_after, asks_later, asks_on, at_phase, awaits_next, is_scan_request, pdu_on, sent_by}
use Rattle.journal_hearings.proofs.OnePhase.{ArePassing, IsSince, passing_first, passing_kept}

-- ---- channels

pub from_37 : (channel : ℕ) → is_advertising channel ≡ true → 37 ≤ channel
from_37 channel is = leb-true 37 channel (and_parts (nat_le 37 channel) (nat_lt channel 40) is).0

-- where a station listened that sends a request or a response next
record ListenedOn (facts : Facts) (channel : ℕ) : Type 0 where
  wants : facts.wanted ≡ Listens channel
  from : 37 ≤ channel

listened_on : (facts : Facts) (doing : Doing) (channel : ℕ) (octets : List ℕ) → IsAnswered doing channel octets → UsesIt facts doing → DoingFits doing → ListenedOn facts channel
listened_on facts (Scans on) channel octets answers uses fits = record { wants = uses ∙ ap Listens answers; from = subst (λ n. 37 ≤ n) answers fits.0 }
listened_on facts (Initiates on) channel octets answers uses fits = record { wants = uses ∙ ap Listens answers; from = subst (λ n. 37 ≤ n) answers fits.0 }
listened_on facts (AwaitsRequest on) channel octets answers uses fits = record { wants = uses ∙ ap Listens answers.0; from = subst (λ n. 37 ≤ n) answers.0 fits.0 }
listened_on facts (Advertises on) channel octets answers uses fits = absurd answers
listened_on facts other channel octets answers uses fits = absurd answers

-- ---- what the other station sent

no_phase : (phases one other : ℕ) (X : Type 0) → phases ≡ one → phases ≡ other + 1 → one ≤ other → X
no_phase phases one other X is is_too less = absurd (omega (arith, is, is_too, less))

first_awaits : (phases channel : ℕ) (doing : Doing) → phases ≡ 0 → FitsPhase phases doing → IsSentOn channel doing → AwaitsNext channel doing
first_awaits phases channel (Advertises on) first fits sent = sent
first_awaits phases channel (Requests on advertiser) first fits sent = sent
first_awaits phases channel (Connects on link) first fits sent = no_phase phases 0 0 _ first fits (omega arith)
first_awaits phases channel (Responds on) first fits sent = no_phase phases 0 1 _ first fits (omega arith)
first_awaits phases channel other first fits sent = absurd sent

no_request : (may : Option AdvPdu) (from to : Address) (ch_sel : Bool) (link : LinkSetup) (X : Type 0) → may ≡ Some (Connect from to ch_sel link.fields) → is_scan_request may ≡ true → X
no_request may from to ch_sel link X is request = absurd (let h : false ≡ true = ap is_scan_request (sym is) ∙ request in cc)

second_awaits : IsUnderstood → (phases channel : ℕ) (octets : List ℕ) (facts : Facts) (doing : Doing) → phases ≡ 1 → FitsPhase phases doing → UsesIt facts doing → DoingFits doing
    → facts.wanted ≡ Sends channel octets → is_scan_request (pdu_heard channel octets) ≡ true → IsSentOn channel doing → AwaitsNext channel doing
second_awaits understood phases channel octets facts (Advertises on) second fits uses can wants request sent = sent
second_awaits understood phases channel octets facts (Requests on advertiser) second fits uses can wants request sent = sent
second_awaits understood phases channel octets facts (Connects on link) second fits uses can wants request sent =
    let made = pdu_on on channel (connect_sent link) octets (sym uses ∙ wants) in
    let is : connect_sent link ≡ Some made.pdu = made.is in
    let one : Connect link.own link.peer true link.fields ≡ made.pdu = cc in
    let packet : Sends channel (advertising_packet channel made.pdu) ≡ Sends channel octets = made.sent in
    let same : advertising_packet channel made.pdu ≡ octets = cc in
    no_request (pdu_heard channel octets) link.own link.peer true link _
    (ap (pdu_heard channel) (sym same ∙ ap (advertising_packet channel) (sym one)) ∙ understood channel (Connect link.own link.peer true link.fields) can.1) request
second_awaits understood phases channel octets facts (Responds on) second fits uses can wants request sent = no_phase phases 1 1 _ second fits (omega arith)
second_awaits understood phases channel octets facts other second fits uses can wants request sent = absurd sent

awaits_by : IsUnderstood → (phases channel : ℕ) (octets : List ℕ) (facts : Facts) (own doing : Doing) → IsAnswered own channel octets → FitsPhase phases own
    → FitsPhase phases doing → UsesIt facts doing → DoingFits doing → facts.wanted ≡ Sends channel octets → IsSentOn channel doing → AwaitsNext channel doing
awaits_by understood phases channel octets facts (Scans on) doing answers first fits uses can wants sent = first_awaits phases channel doing first fits sent
awaits_by understood phases channel octets facts (Initiates on) doing answers first fits uses can wants sent = first_awaits phases channel doing first fits sent
awaits_by understood phases channel octets facts (AwaitsRequest on) doing answers second fits uses can wants sent =
    second_awaits understood phases channel octets facts doing second fits uses can wants
    (ap (λ n. is_scan_request (pdu_heard n octets)) (sym answers.0) ∙ answers.1) sent
awaits_by understood phases channel octets facts (Advertises on) doing answers first fits uses can wants sent = absurd answers
awaits_by understood phases channel octets facts other doing answers first fits uses can wants sent = absurd answers

-- ---- an advertisement is no request

advertisement_by : (undirected scannable directed : Bool) (own target : Address) (body : List ℕ)
    → is_awaited (cond undirected (Ind own true (record { items = body }))
    (cond scannable (ScanInd own (record { items = body }))
    (cond directed (Direct own target true) (Nonconn own (record { items = body }))))) ≡ false
advertisement_by true scannable directed own target body = refl
advertisement_by false true directed own target body = refl
advertisement_by false false true own target body = refl
advertisement_by false false false own target body = refl

advertised : (on : Option AdvertiserFacts) (body : List ℕ) (pdu : AdvPdu) → option_map (λ on. advertisement on.params body) on ≡ Some pdu → is_awaited pdu ≡ false
advertised None body pdu is = absurd cc
advertised (Some on) body pdu is =
    let same : advertisement on.params body ≡ pdu = cc in
    let params = on.params in
    ap is_awaited (sym same) ∙ advertisement_by (params.kind == 0) (params.kind == 2) (params.kind == 4) params.own params.target body

not_awaited : (pdu : AdvPdu) (X : Type 0) → is_awaited pdu ≡ false → is_awaited pdu ≡ true → X
not_awaited pdu X is is_too = absurd (let h : false ≡ true = sym is ∙ is_too in cc)

advertises_none : IsUnderstood → (facts : Facts) (on channel : ℕ) (octets : List ℕ) (pdu : AdvPdu) (X : Type 0) → AdvertisingFits facts.advertising
    → sends_pdu on (advertisement_sent facts) ≡ Sends channel octets → pdu_heard channel octets ≡ Some pdu → is_awaited pdu ≡ true → X
advertises_none understood facts on channel octets pdu X can sends found awaited =
    let made = pdu_on on channel (advertisement_sent facts) octets sends in
    let packet : Sends channel (advertising_packet channel made.pdu) ≡ Sends channel octets = made.sent in
    let same : advertising_packet channel made.pdu ≡ octets = cc in
    let is_pdu = subst SomePdu made.is (advertisement_is facts.advertising facts.advertising.on can can.on_fits) in
    let told : Some made.pdu ≡ Some pdu = sym (ap (pdu_heard channel) (sym same) ∙ understood channel made.pdu is_pdu) ∙ found in
    let one : made.pdu ≡ pdu = cc in
    not_awaited pdu X (ap is_awaited (sym one) ∙ advertised facts.advertising.on facts.advertising.data_octets made.pdu made.is) awaited

first_none : IsUnderstood → (facts : Facts) (doing : Doing) (channel : ℕ) (octets : List ℕ) (pdu : AdvPdu) (X : Type 0) → AdvertisingFits facts.advertising → FitsPhase 0 doing
    → UsesIt facts doing → IsSentOn channel doing → facts.wanted ≡ Sends channel octets → pdu_heard channel octets ≡ Some pdu → is_awaited pdu ≡ true → X
first_none understood facts (Advertises on) channel octets pdu X can fits uses sent wants found awaited =
    advertises_none understood facts on channel octets pdu X can (sym uses ∙ wants) found awaited
first_none understood facts (Requests on advertiser) channel octets pdu X can fits uses sent wants found awaited = no_phase 0 0 0 X refl fits (omega arith)
first_none understood facts (Connects on link) channel octets pdu X can fits uses sent wants found awaited = no_phase 0 0 0 X refl fits (omega arith)
first_none understood facts (Responds on) channel octets pdu X can fits uses sent wants found awaited = no_phase 0 0 1 X refl fits (omega arith)
first_none understood facts other channel octets pdu X can fits uses sent wants found awaited = absurd sent

-- ---- what is awaited is judged good

whole_by : (found : Heard) (pdu : AdvPdu) → option_and_then read_of (pdu_by found) ≡ Some pdu → verdict_by found ≡ Good
whole_by NotOurs pdu is = absurd cc
whole_by Broken pdu is = absurd cc
whole_by (Whole octets) pdu is = refl

judged_whole : (channel : ℕ) (octets : List ℕ) (pdu : AdvPdu) → pdu_heard channel octets ≡ Some pdu → verdict_advertising channel octets ≡ Good
unfolding pdu_heard
judged_whole channel octets pdu is = whole_by (heard_on_channel channel octets) pdu is

pub judged_where : (same : Bool) (facts : Facts) (octets : List ℕ) → same ≡ true → verdict_where (not false && same) facts octets ≡ verdict_of facts octets
judged_where true facts octets is = refl
judged_where false facts octets is = absurd cc

pub judges_awaited : (given : Given) (channel : ℕ) (octets : List ℕ) (history : List Event) (listener : ℕ) → IsAwaiting (facts_at given listener history) channel
    → (hearing_at given Pass channel octets history listener).verdict ≡ verdict_advertising channel octets
judges_awaited given channel octets history listener awaits =
    let facts = facts_at given listener history in
    ap (λ (wanted : Use). verdict_where (reaches Pass channel (channel_listened wanted)) facts (damaged_packet Pass octets))
    (sym (wanted_is given listener history) ∙ awaits.wants)
    ∙ judged_where (channel == channel) facts octets (same_number channel) ∙ awaits.judges octets

pub pass_mark : (fate : Fate) → Passed ≡ mark_of fate → fate ≡ Pass
pass_mark Pass is = refl
pass_mark Lost is = absurd cc
pass_mark (Damage at pattern) is = absurd cc

pub one_of_list : (hearing one : Hearing) (others : List Hearing) → hearing ∷ others ≡ one ∷ [] → hearing ≡ one
one_of_list hearing one others is = cc

module _ (understood : IsUnderstood) (given : Given) (pair : IsOfTwo given) (six : HaveAddresses given) where
  distinct : AreDistinct given.stations
  distinct = are_distinct given pair

  -- ---- the phase before

  module _ (phases : ℕ) (start : List Event) (hearing : AreHearing given (AtPackets phases given.stations []) start) where
    abbrev facts : ℕ → Facts
    facts one = facts_at given one start

    at : (one : ℕ) → is_in one given.stations ≡ true → IsAtPhase phases (facts one)
    at one is = at_phase (setup_at given one) (past_of one start) phases (turns_begun start) (hearing.stand one is)

    can : (one : ℕ) → DoingFits (facts one).turn.doing
    can one = can_be_done (setup_at given one) (past_of one start) (six one)

    abbrev next : ℕ → Facts
    next one = facts_after (setup_at given one) (facts one) (step_of (packet_received one start))

    module _ (station channel : ℕ) (in_it : is_in station given.stations ≡ true) (answered : HasAnswered (facts station) (packet_received station start) channel) where
      abbrev other : ℕ
      other = other_of station

      too : is_in other given.stations ≡ true
      too = other_in given pair station in_it

      heard : IsHeard given phases [] start station answered.octets
      heard = hearing.hears station in_it answered.octets answered.is

      listened : ListenedOn (facts station) channel
      listened = listened_on (facts station) (facts station).turn.doing channel answered.octets answered.answers (at station in_it).uses (can station)

      on_it : heard.channel ≡ channel
      on_it = one_channel heard.channel channel (sym heard.listens ∙ sym (wanted_is given station start) ∙ listened.wants)

      uses : use_at given other start ≡ Sends channel answered.octets
      uses =
          subst (λ n. use_at given n start ≡ Sends channel answered.octets)
          (other_is given pair station heard.sender in_it heard.is_one (differs_back station heard.sender heard.differs))
          (heard.sent (answered_unforged (facts station) (facts station).turn.doing channel answered.octets refl answered.answers) ∙ ap (λ n. Sends n answered.octets) on_it)

      wants : (facts other).wanted ≡ Sends channel answered.octets
      wants = wanted_is given other start ∙ uses

      awaits : AwaitsNext channel (facts other).turn.doing
      awaits =
          awaits_by understood phases channel answered.octets (facts other) (facts station).turn.doing (facts other).turn.doing answered.answers (at station in_it).fits
          (at other too).fits (at other too).uses (can other) wants
          (sent_by (facts other) (facts other).turn.doing channel answered.octets (at other too).uses wants listened.from)

      deaf : packet_received other start ≡ None
      deaf = sends_deaf given [] start other channel answered.octets (hearing.hears other too) uses (packet_received other start) refl

      is_awaiting : IsAwaiting (next other) channel
      is_awaiting =
          subst (λ received. IsAwaiting (facts_after (setup_at given other) (facts other) (step_of received)) channel) (sym deaf)
          (awaits_next (setup_at given other) (facts other) channel awaits)

  -- ---- before each packet

  abbrev pub IsAwaited : List Event → ℕ → ℕ → List ℕ → Type 0
  IsAwaited history station channel octets =
      (pdu : AdvPdu) → is_advertising channel ≡ true → pdu_heard channel octets ≡ Some pdu → is_awaited pdu ≡ true → IsAwaiting (facts_at given (other_of station) history) channel

  pub waits : (phases : ℕ) (done left : List ℕ) (station channel : ℕ) (octets : List ℕ) (history : List Event) → given.stations ≡ done ++ station ∷ left
      → use_at given station history ≡ Sends channel octets → ArePassing given (AtPackets phases done (station ∷ left)) history → IsAwaited history station channel octets
  waits zero done left station channel octets history are wanted is pdu on found awaited =
      let facts = facts_at given station history in
      let now = at_phase (setup_at given station) (past_of station history) 0 (turns_begun history) (is.hearing.stand station (among given.stations done left station are)) in
      let wants = wanted_is given station history ∙ wanted in
      first_none understood facts facts.turn.doing channel octets pdu _ (sends_well (setup_at given station) (six station) (past_of station history)).can.advertising
      now.fits now.uses (sent_by facts facts.turn.doing channel octets now.uses wants (from_37 channel on)) wants found awaited
  waits (suc phases) done left station channel octets history are wanted is pdu on found awaited =
      let in_it = among given.stations done left station are in
      let facts = facts_at given station history in
      let now = at_phase (setup_at given station) (past_of station history) (suc phases) (turns_begun history) (is.hearing.stand station in_it) in
      let wants = wanted_is given station history ∙ wanted in
      let asks = asks_later phases channel facts.turn.doing now.fits (sent_by facts facts.turn.doing channel octets now.uses wants (from_37 channel on)) in
      let start = is.passed.start in
      let since = λ (one : ℕ) (one_in : is_in one given.stations ≡ true). subst (λ b. IsSince b given start history one) one_in (is.passed.each one one_in) in
      let before = facts_at given station start in
      let answered = asks_after (setup_at given station) before (packet_received station start) channel
      (ap (λ (f : Facts). asks_on f.turn.doing) (sym (since station in_it)) ∙ asks) in
      subst (λ (f : Facts). IsAwaiting f channel) (sym (since (other_of station) (other_in given pair station in_it)))
      (is_awaiting phases start is.passed.hearing station channel in_it answered)

  sees : IsSeen given (ArePassing given) (λ history. ⊤) IsAwaited
  sees = record { turn = λ history is. tt; packet = waits }

  -- ---- each line

  pub requests_heard : AllRequestsAreHeard (journal_of (history_of (run_of given)))
  requests_heard = λ front rest side channel octets verdict pdu is on found awaited.
      let aired = is_aired given front rest side channel octets Passed verdict is in
      let before = aired.before in
      let station = aired.station in
      let hearings = aired.hearing ∷ aired.others in
      let event = Transmitted station channel octets hearings in
      let in_it = each_at (OfStations given) (history_of (run_of given)) before aired.after event (run_of_stations given) aired.is_at in
      let awaits = seen_packet given (ArePassing given) (passing_kept given six distinct) (λ history. ⊤) IsAwaited sees (passing_first given) before aired.after station channel octets
      hearings aired.is_at pdu on found awaited in
      let one = one_of_list aired.hearing (hearing_of given aired.is_due.plan.fates station channel octets before) aired.others
      (aired.is_due.hearings_are ∙ one_hearing given pair aired.is_due.plan.fates station channel octets before in_it) in
      let passes = pass_mark _ (aired.fate_is ∙ ap (λ (h : Hearing). mark_of h.fate) one) in
      aired.verdict_is ∙ ap (λ (h : Hearing). h.verdict) one
      ∙ ap (λ (fate : Fate). (hearing_at given fate channel octets before (other_of station)).verdict) passes
      ∙ judges_awaited given channel octets before (other_of station) awaits ∙ judged_whole channel octets pdu found
