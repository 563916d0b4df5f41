-- A packet of one station on its way to the other, and what the history is after it.
use Rattle.std.proofs.Common.{◌≡◌, ℕ, ◌+◌, ◌-◌, ◌==◌, ◌&&◌, ◌||◌, Bool, true, false, not, List, [], ◌∷◌, ◌++◌, length, drop, Option, Some, None, if◌then◌else◌, refl, sym, ap, subst, ◌∙◌, append-nil, arith}
use Rattle.std.specs.Str.{bytes_eq}
use Rattle.std.proofs.lemmas.Bool.{true≢false}
use Rattle.std.proofs.lemmas.Slice.Eq.{bytes_eq-Decides}
use Rattle.ble_base.specs.declared.roles.Side.{Side}
use Rattle.ble_base.specs.declared.roles.Side.TheVariants.{A, B}
use Rattle.ble_base.specs.declared.verdicts.Verdict.{Verdict}
use Rattle.ble_base.specs.declared.verdicts.Verdict.TheVariants.{Missed, Forged, Good}
use Rattle.ble_base.specs.declared.verdicts.Verdict.TheVariants.{Broken as IsBroken}
use Rattle.ble_base.specs.Side.{other_side}
use Rattle.journal.specs.declared.entries.Entry.{Entry}
use Rattle.journal.specs.declared.entries.Entry.TheVariants.{Air}
use Rattle.radio_replay.specs.declared.fates.Fate.{Fate}
use Rattle.radio_replay.specs.Damage.{damaged_packet}
use Rattle.controller_model.specs.Step.{Step}
use Rattle.controller_model.specs.Facts.{Use, Sends, Listens, Idle}
use Rattle.controller_model.specs.Packets.{use_of}
use Rattle.controller_model.specs.Side.{facts_of}
use Rattle.controller.specs.Knowing.{Knows}
use Rattle.run_model.specs.History.{Event, Transmitted, Hearing, fates_used, fed_to, has_received, is_good, is_handed, packet_received, packets_on_air, past_of, turns_begun}
use Rattle.run_model.specs.Journal.{journal_of, mark_of, side_of}
use Rattle.run_model.specs.Links.{Links, begins_link, links_of, with_link}
use Rattle.run_model.specs.Run.{Given, GoesOn, after_packet, fate_at, hearing_at, hearings_of, is_unseen, packet_outcome, packet_with, setup_at, unseen_in, use_at}
use Rattle.pair_world.specs.declared.stops.Stop.{Stop}
use Rattle.pair_world.specs.declared.stops.Stop.TheVariants.{Unseen, Memory}
use Rattle.pair_world.specs.Air.{HasFlown, InAir, IsSent, IsUnseenOr, goes_unseen, verdict_by, with_last}
use Rattle.pair_world.specs.Wishes.{handed_of, packet_wanted}
use Rattle.pair_world.specs.KnownLinks.{KnownLinks}
use Rattle.pair_world.specs.Logs.{LogState, with_entries}
use Rattle.pair_world.specs.Outcomes.{Reaches, IsStopped}
use Rattle.pair_world.specs.Stations.{StationState, Keeps, KnowsLinks, Writes, number_of}
use Rattle.pair_world.proofs.Calls.{same_number}
use Rattle.pair_world.proofs.Histories.{past_more, fed_more, fates_more, journal_more, links_more, packets_more, received_more, turns_more}
use Rattle.pair_world.proofs.Keeping.{side_is}

-- ---- the two stations

pub not_other : (side : Side) → (number_of side == number_of (other_side side)) ≡ false
not_other A = refl
not_other B = refl

pub other_not : (side : Side) → (number_of (other_side side) == number_of side) ≡ false
other_not A = refl
other_not B = refl

-- the hearing of the other side
abbrev pub the_hearing : Given → List Fate → Side → ℕ → List ℕ → List Event → Hearing
the_hearing given fates side channel octets history =
    hearing_at given (fate_at fates (fates_used history)) channel octets history (number_of (other_side side))

one_hearing : (given : Given) (fates : List Fate) (side : Side) (channel : ℕ) (octets : List ℕ) (history : List Event) → given.stations ≡ 0 ∷ 1 ∷ []
    → hearings_of given fates (number_of side) channel octets history ≡ the_hearing given fates side channel octets history ∷ []
one_hearing given fates A channel octets history are = rw are refl
one_hearing given fates B channel octets history are = rw are refl

-- ---- where the run goes

outcome : (given : Given) (fates : List Fate) (side : Side) (channel : ℕ) (octets : List ℕ) (history : List Event) → given.stations ≡ 0 ∷ 1 ∷ []
    → Sends channel octets ≡ use_at given (number_of side) history
    → after_packet given fates (number_of side) history
    ≡ packet_outcome (unseen_in octets (the_hearing given fates side channel octets history ∷ [])) (number_of side) channel octets
    (the_hearing given fates side channel octets history ∷ []) history
outcome given fates side channel octets history are wants =
    ap (λ (wanted : Use). packet_with wanted given fates (number_of side) history) (sym wants)
    ∙ ap (λ (hearings : List Hearing). packet_outcome (unseen_in octets hearings) (number_of side) channel octets hearings history)
    (one_hearing given fates side channel octets history are)

outcome_by : (unseen : Bool) (heard octets : List ℕ) (station channel : ℕ) (hearings : List Hearing) (history : List Event) → unseen ≡ false
    → packet_outcome (if unseen then Some heard else None) station channel octets hearings history
    ≡ GoesOn (history ++ Transmitted station channel octets hearings ∷ [])
outcome_by true heard octets station channel hearings history seen = absurd (true≢false seen)
outcome_by false heard octets station channel hearings history seen = refl

stop_by : (unseen : Bool) (heard octets : List ℕ) (station channel : ℕ) (hearings : List Hearing) (history : List Event) → unseen ≡ true
    → packet_outcome (if unseen then Some heard else None) station channel octets hearings history
    ≡ packet_outcome (Some heard) station channel octets hearings history
stop_by true heard octets station channel hearings history is = refl
stop_by false heard octets station channel hearings history is = absurd (true≢false (sym is))

-- ---- what is read off the history after a packet

-- the history after it
abbrev pub sent_history : ℕ → ℕ → List ℕ → Hearing → List Event → List Event
sent_history station channel octets hearing history = history ++ Transmitted station channel octets (hearing ∷ []) ∷ []

module _ (station channel : ℕ) (octets : List ℕ) (hearing : Hearing) (history : List Event) where
  past_sent : (other : ℕ) → past_of other (sent_history station channel octets hearing history) ≡ past_of other history
  past_sent other = past_more other history (Transmitted station channel octets (hearing ∷ []) ∷ []) ∙ append-nil (past_of other history)

  fed_sent : (other : ℕ) → fed_to other (sent_history station channel octets hearing history) ≡ fed_to other history
  fed_sent other = fed_more other history (Transmitted station channel octets (hearing ∷ []) ∷ []) ∙ append-nil (fed_to other history)

  turns_sent : turns_begun (sent_history station channel octets hearing history) ≡ turns_begun history
  turns_sent = turns_more history (Transmitted station channel octets (hearing ∷ []) ∷ []) ∙ omega arith

  fates_sent : fates_used (sent_history station channel octets hearing history) ≡ fates_used history + 1
  fates_sent = fates_more history (Transmitted station channel octets (hearing ∷ []) ∷ [])

  packets_sent : packets_on_air (sent_history station channel octets hearing history) ≡ packets_on_air history + 1
  packets_sent = packets_more history (Transmitted station channel octets (hearing ∷ []) ∷ [])

  links_sent : links_of (sent_history station channel octets hearing history)
      ≡ (if begins_link channel octets then with_link station (hearing ∷ []) (links_of history) else links_of history)
  links_sent = links_more history (Transmitted station channel octets (hearing ∷ []) ∷ [])

  journal_sent : journal_of (sent_history station channel octets hearing history)
      ≡ journal_of history ++ Air (side_of station) channel octets (mark_of hearing.fate) hearing.verdict ∷ []
  journal_sent = journal_more history (Transmitted station channel octets (hearing ∷ []) ∷ [])

  received_sent : (other : ℕ) → packet_received other (sent_history station channel octets hearing history)
      ≡ (if (other == hearing.listener) && is_handed hearing.verdict then Some (damaged_packet hearing.fate octets) else packet_received other history)
  received_sent other = received_more other history (Transmitted station channel octets (hearing ∷ []) ∷ [])

-- ---- the numbers of links after a packet

-- a station that took no step and was fed nothing keeps all but its links, of which it knows these now
keeps_on : (given : Given) (station : ℕ) (before after : List Event) (state : StationState) (known : KnownLinks)
    → past_of station after ≡ past_of station before → fed_to station after ≡ fed_to station before → Keeps given station before state
    → KnowsLinks station (links_of after) known → Keeps given station after (record state { links = known })
keeps_on given station before after state known past fed keeps knows_links = record {
  handles = keeps.handles;
  knows = subst (λ steps. Knows (setup_at given station) state.held steps) (sym past) keeps.knows;
  unfed_are = keeps.unfed_are ∙ sym (ap (λ (octets : List ℕ). drop (length octets) (given.station_of station).stream) fed);
  links_are = knows_links;
}

-- the link that began last, and that it knows as the last one
knows_last : (station sender last : ℕ) (hearings : List Hearing) (links : Links) (known : KnownLinks)
    → last ≡ (with_link sender hearings links).last_of station → KnowsLinks station links known
    → KnowsLinks station (with_link sender hearings links) (record known { last = last })
knows_last station sender last hearings links known is knows = record { last_is = is; size = knows.size; by_handle_are = knows.by_handle_are }

-- the sender knows the link that it begins
keeps_sender : (begins : Bool) (given : Given) (station : ℕ) (before after : List Event) (state : StationState) (count : ℕ) (hearings : List Hearing)
    → past_of station after ≡ past_of station before → fed_to station after ≡ fed_to station before
    → links_of after ≡ (if begins then with_link station hearings (links_of before) else links_of before)
    → count ≡ (links_of before).begun → Keeps given station before state
    → Keeps given station after (if begins then with_last (count + 1) state else state)
keeps_sender true given station before after state count hearings past fed links counted keeps =
    let last : count + 1 ≡ (with_link station hearings (links_of before)).last_of station =
    ap (λ (n : ℕ). n + 1) counted
    ∙ sym (ap (λ (same : Bool). if same || has_received station hearings then (links_of before).begun + 1 else (links_of before).last_of station)
    (same_number station)) in
    keeps_on given station before after state (record state.links { last = count + 1 }) past fed keeps
    (subst (λ (links : Links). KnowsLinks station links (record state.links { last = count + 1 })) (sym links)
    (knows_last station station (count + 1) hearings (links_of before) state.links last keeps.links_are))
keeps_sender false given station before after state count hearings past fed links counted keeps =
    keeps_on given station before after state state.links past fed keeps
    (subst (λ (links : Links). KnowsLinks station links state.links) (sym links) keeps.links_are)

-- a station that does not send it knows it where it received it
keeps_listener : (begins good : Bool) (given : Given) (station sender : ℕ) (before after : List Event) (state : StationState) (count : ℕ) (hearings : List Hearing)
    → past_of station after ≡ past_of station before → fed_to station after ≡ fed_to station before
    → links_of after ≡ (if begins then with_link sender hearings (links_of before) else links_of before)
    → (station == sender) ≡ false → has_received station hearings ≡ good
    → count ≡ (links_of before).begun → Keeps given station before state
    → Keeps given station after (if begins && good then with_last (count + 1) state else state)
keeps_listener true true given station sender before after state count hearings past fed links ne received counted keeps =
    let last : count + 1 ≡ (with_link sender hearings (links_of before)).last_of station =
    ap (λ (n : ℕ). n + 1) counted
    ∙ sym (λ i. if ne i || received i then (links_of before).begun + 1 else (links_of before).last_of station) in
    keeps_on given station before after state (record state.links { last = count + 1 }) past fed keeps
    (subst (λ (links : Links). KnowsLinks station links (record state.links { last = count + 1 })) (sym links)
    (knows_last station sender (count + 1) hearings (links_of before) state.links last keeps.links_are))
keeps_listener true false given station sender before after state count hearings past fed links ne received counted keeps =
    let last : state.links.last ≡ (with_link sender hearings (links_of before)).last_of station =
    keeps.links_are.last_is ∙ sym (λ i. if ne i || received i then (links_of before).begun + 1 else (links_of before).last_of station) in
    keeps_on given station before after state state.links past fed keeps
    (subst (λ (links : Links). KnowsLinks station links state.links) (sym links)
    (knows_last station sender state.links.last hearings (links_of before) state.links last keeps.links_are))
keeps_listener false good given station sender before after state count hearings past fed links ne received counted keeps =
    keeps_on given station before after state state.links past fed keeps
    (subst (λ (links : Links). KnowsLinks station links state.links) (sym links) keeps.links_are)

-- and the log counts it
begun_after : (begins : Bool) (station count : ℕ) (hearings : List Hearing) (before after : List Event)
    → links_of after ≡ (if begins then with_link station hearings (links_of before) else links_of before)
    → count ≡ (links_of before).begun → (if begins then count + 1 else count) ≡ (links_of after).begun
begun_after true station count hearings before after links counted = ap (λ (n : ℕ). n + 1) counted ∙ sym (ap (λ (links : Links). links.begun) links)
begun_after false station count hearings before after links counted = counted ∙ sym (ap (λ (links : Links). links.begun) links)

writes_after : (begins : Bool) (station : ℕ) (hearings : List Hearing) (entry : Entry) (before after : List Event) (log : LogState)
    → journal_of after ≡ journal_of before ++ entry ∷ []
    → links_of after ≡ (if begins then with_link station hearings (links_of before) else links_of before)
    → Writes before log → Writes after (if begins then record log { entries = log.entries ++ entry ∷ []; links = log.links + 1 } else with_entries (entry ∷ []) log)
writes_after true station hearings entry before after log journal links writes = record {
  entries_are = ap (λ (entries : List Entry). entries ++ entry ∷ []) writes.entries_are ∙ sym journal;
  links_are = begun_after true station log.links hearings before after links writes.links_are;
}
writes_after false station hearings entry before after log journal links writes = record {
  entries_are = ap (λ (entries : List Entry). entries ++ entry ∷ []) writes.entries_are ∙ sym journal;
  links_are = begun_after false station log.links hearings before after links writes.links_are;
}

-- ---- what the other side received

or_false : (b : Bool) → (b || false) ≡ b
or_false true = refl
or_false false = refl

-- what is handed on is good, and then as it was sent, or forged, and then as the radio left it
handed_seen : (fate : Fate) (verdict : Verdict) (channel : ℕ) (octets : List ℕ) (before : Option (List ℕ)) → goes_unseen fate verdict octets ≡ false → before ≡ None
    → (if is_handed verdict then Some (damaged_packet fate octets) else before) ≡ handed_of fate verdict (Sends channel octets)
handed_seen fate Good channel octets before seen none = by (bytes_eq (damaged_packet fate octets) octets) (bytes_eq-Decides (damaged_packet fate octets) octets).0 seen
  where
    by : (equal : Bool) → (equal ≡ true → damaged_packet fate octets ≡ octets) → not equal ≡ false → Some (damaged_packet fate octets) ≡ Some octets
    by true same is = ap Some (same refl)
    by false same is = absurd (true≢false is)
handed_seen fate Forged channel octets before seen none = refl
handed_seen fate Missed channel octets before seen none = none
handed_seen fate IsBroken channel octets before seen none = none

-- the station receives it where its verdict is good
received_here : (station : ℕ) (verdict : Verdict) → (((station == station) && is_good verdict) || false) ≡ is_good verdict
received_here station verdict = (λ i. (same_number station i && is_good verdict) || false) ∙ or_false (is_good verdict)

-- it is handed to it where that is so
handed_here : (station : ℕ) (verdict : Verdict) → ((station == station) && is_handed verdict) ≡ is_handed verdict
handed_here station verdict = λ i. same_number station i && is_handed verdict

same_use : (given : Given) (station : ℕ) (before after : List Event) → past_of station after ≡ past_of station before
    → use_at given station after ≡ use_at given station before
same_use given station before after past =
    ap (λ (steps : List Step). use_of (facts_of (setup_at given station) steps)) past

-- ---- a packet is on the air

sent_flies : (given : Given) (fates : List Fate) (slot : ℕ) (history : List Event) (side : Side) (sender listener new_sender new_listener : StationState)
    (log new_log : LogState) (wanted listens : Use) (channel : ℕ) (octets : List ℕ) (packets new_packets : ℕ) (verdict : Verdict)
    → InAir given slot history side sender listener log wanted listens packets → wanted ≡ Sends channel octets
    → IsSent (fate_at fates (fates_used history)) side (setup_at given (number_of (other_side side))) (past_of (number_of (other_side side)) history)
    channel octets verdict sender listener log new_sender new_listener new_log
    → new_packets ≡ packets + 1
    → HasFlown given slot history side new_sender new_listener new_log wanted listens new_packets (fate_at fates (fates_used history)) verdict
    (sent_history (number_of side) channel octets (the_hearing given fates side channel octets history) history)
sent_flies given fates slot history side sender listener new_sender new_listener log new_log wanted listens channel octets packets new_packets verdict air wants sent count =
    let s = number_of side in
    let t = number_of (other_side side) in
    let hearing = the_hearing given fates side channel octets history in
    let after = sent_history s channel octets hearing history in
    let begins = begins_link channel octets in
    let links = links_sent s channel octets hearing history in
    let past_s = past_sent s channel octets hearing history s in
    let past_t = past_sent s channel octets hearing history t in
    let received = received_here t hearing.verdict ∙ sym (ap is_good sent.verdict_is) in
    record {
      air = record {
        stations_are = air.stations_are;
        keeps_sender = subst (Keeps given s after) (sym sent.linked.sender_is)
            (keeps_sender begins given s history after sender log.links (hearing ∷ []) past_s (fed_sent s channel octets hearing history s) links
            air.writes.links_are air.keeps_sender);
        keeps_listener = subst (Keeps given t after) (sym sent.linked.listener_is)
            (keeps_listener begins (is_good verdict) given t s history after listener log.links (hearing ∷ []) past_t (fed_sent s channel octets hearing history t) links
            (other_not side) received air.writes.links_are air.keeps_listener);
        writes = subst (Writes after) (sym sent.linked.log_is)
            (writes_after begins s (hearing ∷ []) (Air side channel octets (mark_of hearing.fate) hearing.verdict) history after log
            (journal_sent s channel octets hearing history
            ∙ ap (λ (one : Side). journal_of history ++ Air one channel octets (mark_of hearing.fate) hearing.verdict ∷ []) (side_is side))
            links air.writes);
        wants_sender = air.wants_sender ∙ sym (same_use given s history after past_s);
        wants_listener = air.wants_listener ∙ sym (same_use given t history after past_t);
        turns_are = turns_sent s channel octets hearing history ∙ air.turns_are;
        fates_are = fates_sent s channel octets hearing history ∙ ap (λ (n : ℕ). n + 1) air.fates_are ∙ sym count;
        packets_are = packets_sent s channel octets hearing history ∙ ap (λ (n : ℕ). n + 1) air.packets_are ∙ sym count;
      };
      own = received_sent s channel octets hearing history s
          ∙ ap (λ (test : Bool). if test && is_handed hearing.verdict then Some (damaged_packet hearing.fate octets) else packet_received s history) (not_other side);
      other = λ none.
          received_sent s channel octets hearing history t
          ∙ ap (λ (test : Bool). if test then Some (damaged_packet hearing.fate octets) else packet_received t history) (handed_here t hearing.verdict)
          ∙ handed_seen hearing.fate hearing.verdict channel octets (packet_received t history) sent.is_seen none
          ∙ ap (λ (one : Verdict). handed_of hearing.fate one (Sends channel octets)) (sym sent.verdict_is)
          ∙ ap (handed_of hearing.fate verdict) (sym wants);
    }

pub flies : (given : Given) (fates : List Fate) (slot : ℕ) (history : List Event) (side : Side) (sender listener new_sender new_listener : StationState)
    (log new_log : LogState) (wanted listens : Use) (channel : ℕ) (octets : List ℕ) (packets new_packets : ℕ) (verdict : Verdict)
    → InAir given slot history side sender listener log wanted listens packets → wanted ≡ Sends channel octets
    → IsSent (fate_at fates packets) side (setup_at given (number_of (other_side side))) (past_of (number_of (other_side side)) history)
    channel octets verdict sender listener log new_sender new_listener new_log
    → new_packets ≡ packets + 1
    → Reaches (after_packet given fates (number_of side) history)
    (HasFlown given slot history side new_sender new_listener new_log wanted listens new_packets (fate_at fates packets) verdict)
flies given fates slot history side sender listener new_sender new_listener log new_log wanted listens channel octets packets new_packets verdict air wants sent count =
    let here = subst (λ (n : ℕ). IsSent (fate_at fates n) side (setup_at given (number_of (other_side side))) (past_of (number_of (other_side side)) history)
    channel octets verdict sender listener log new_sender new_listener new_log) (sym air.fates_are) sent in
    let hearing = the_hearing given fates side channel octets history in
    record {
      after = sent_history (number_of side) channel octets hearing history;
      goes_on = outcome given fates side channel octets history air.stations_are (sym wants ∙ air.wants_sender)
          ∙ outcome_by (is_unseen octets hearing) (damaged_packet hearing.fate octets) octets (number_of side) channel (hearing ∷ []) history here.is_seen;
      holds = subst (λ (n : ℕ). HasFlown given slot history side new_sender new_listener new_log wanted listens new_packets (fate_at fates n) verdict
          (sent_history (number_of side) channel octets hearing history)) air.fates_are
          (sent_flies given fates slot history side sender listener new_sender new_listener log new_log wanted listens channel octets
          packets new_packets verdict air wants here count);
    }

-- ---- none is on the air

none_with : (wanted : Use) (given : Given) (fates : List Fate) (station : ℕ) (history : List Event) → packet_wanted wanted ≡ None
    → packet_with wanted given fates station history ≡ GoesOn history
none_with (Sends channel octets) given fates station history none = absurd (cc)
none_with (Listens channel) given fates station history none = refl
none_with Idle given fates station history none = refl

pub flies_not : (given : Given) (fates : List Fate) (slot : ℕ) (history : List Event) (side : Side) (sender listener : StationState)
    (log : LogState) (wanted listens : Use) (packets : ℕ) (fate : Fate)
    → InAir given slot history side sender listener log wanted listens packets
    → packet_wanted wanted ≡ None
    → Reaches (after_packet given fates (number_of side) history)
    (HasFlown given slot history side sender listener log wanted listens packets fate Missed)
flies_not given fates slot history side sender listener log wanted listens packets fate air none = record {
  after = history;
  goes_on = ap (λ (wanted : Use). packet_with wanted given fates (number_of side) history) (sym air.wants_sender)
      ∙ none_with wanted given fates (number_of side) history none;
  holds = record { air = air; own = refl; other = λ none. none };
}

-- ---- the run stops

pub flight_stops : (given : Given) (fates : List Fate) (slot : ℕ) (history : List Event) (side : Side) (sender listener : StationState)
    (log : LogState) (wanted listens : Use) (channel : ℕ) (octets : List ℕ) (packets : ℕ) (entries : List Entry) (stop : Stop)
    → InAir given slot history side sender listener log wanted listens packets → wanted ≡ Sends channel octets
    → IsUnseenOr (fate_at fates packets) (setup_at given (number_of (other_side side))) (past_of (number_of (other_side side)) history)
    channel octets (packets + 1) stop
    → entries ≡ log.entries → IsStopped (after_packet given fates (number_of side) history) slot entries stop
flight_stops given fates slot history side sender listener log wanted listens channel octets packets entries Memory air wants unseen same = tt
flight_stops given fates slot history side sender listener log wanted listens channel octets packets entries (Unseen changed) air wants unseen same =
    let fate_is : fate_at fates packets ≡ fate_at fates (fates_used history) = ap (fate_at fates) (sym air.fates_are) in
    let hearing = the_hearing given fates side channel octets history in
    let setup = setup_at given (number_of (other_side side)) in
    let past = past_of (number_of (other_side side)) history in
    let is : is_unseen octets hearing ≡ true =
    subst (λ (fate : Fate). goes_unseen fate (verdict_by fate setup past channel octets) octets ≡ true) fate_is unseen.is_unseen in
    record {
      before = history;
      stop = record {
        slot = turns_begun history - 1;
        place = packets_on_air history + 1;
        sender = number_of side;
        channel = channel;
        sent = octets;
        heard = damaged_packet hearing.fate octets;
      };
      stops = outcome given fates side channel octets history air.stations_are (sym wants ∙ air.wants_sender)
          ∙ stop_by (is_unseen octets hearing) (damaged_packet hearing.fate octets) octets (number_of side) channel (hearing ∷ []) history is;
      written = same ∙ air.writes.entries_are;
      slot_is = omega (arith, air.turns_are);
      packet_is = unseen.packet_is ∙ ap (λ (n : ℕ). n + 1) (sym air.packets_are);
      sent_is = unseen.sent_is;
      heard_is = unseen.heard_is ∙ ap (λ (fate : Fate). damaged_packet fate octets) fate_is;
    }
