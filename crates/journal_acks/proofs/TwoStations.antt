-- A packet of one of two stations, as the other one hears it, and its line in the journal.
use Rattle.std.proofs.Common.{◌≡◌, ℕ, zero, suc, ◌<◌, ◌≤◌, ◌==◌, ◌&&◌, ◌||◌, ◌⊎◌, inl, inr, Bool, true, false, not, Option, Some, None, List, [], ◌∷◌, ◌++◌, length, take, refl, sym, ap, subst, ◌∙◌, arith}
use Rattle.std.specs.Prelude.{if◌then◌else◌}
use Rattle.std.specs.Str.{bytes_eq}
use Rattle.std.proofs.lemmas.Bool.{eqb-true, eqb-false, false_from_ne_true}
use Rattle.std.proofs.lemmas.Slice.Eq.{bytes_eq-Decides}
use Rattle.ble_base.specs.Side.{other_side}
use Rattle.ble_base.specs.declared.roles.Side.{Side}
use Rattle.ble_base.specs.declared.verdicts.Verdict.{Verdict}
use Rattle.ble_base.specs.declared.verdicts.Verdict.TheVariants.{Missed, Forged, Good}
use Rattle.ble_base.specs.declared.verdicts.Verdict.TheVariants.{Broken as IsBroken}
use Rattle.air_frame.specs.Hearing.{heard_in}
use Rattle.air_frame.specs.Packet.{access_octets, is_packet, pdu_in}
use Rattle.air_frame.specs.declared.Heard.TheVariants.{NotOurs, Broken, Whole}
use Rattle.data_pdu.specs.Header.{counts_as_empty, octets_of}
use Rattle.journal_packets.specs.link_model.Data.{is_empty}
use Rattle.journal.specs.declared.entries.Entry.TheVariants.{Air}
use Rattle.journal_packets.specs.link_model.Facts.{Facts as EndFacts}
use Rattle.journal_packets.specs.link_model.Packets.{header_sent, is_forged_pdu, packet_sent, payload_sent, pdu_sent, verdict_of as verdict_of_end}
use Rattle.journal_packets.specs.link_model.Payload.{opens_now}
use Rattle.journal_packets.specs.link_model.Verdicts.{verdict_by as verdict_by_end}
use Rattle.journal_packets.specs.link_model.Setup.{Setup as EndSetup}
use Rattle.journal_packets.proofs.link_model.Hearing.{IsHeardWhole}
use Rattle.journal_packets.proofs.link_model.Received.{has_header, in_form}
use Rattle.journal_packets.specs.open_links.OpenLinks.{OpenLink, facts_in, link_at}
use Rattle.journal_packets.specs.controller_model.declared.doing.Doing.{Doing}
use Rattle.journal_packets.specs.controller_model.declared.doing.Doing.TheVariants.{Advertises, AwaitsRequest, Scans, AwaitsResponse, Initiates, CentralListens}
use Rattle.journal_packets.specs.controller_model.declared.doing.Doing.TheVariants.{PeripheralListens}
use Rattle.journal_packets.specs.controller_model.Facts.{Facts, Use, Sends, Listens, Idle}
use Rattle.journal_packets.specs.controller_model.Packets.{channel_listened, listens_on, verdict_doing, verdict_of, verdict_of_link}
use Rattle.journal_packets.proofs.controller_model.Always.{IsAdvertisingChannel}
use Rattle.journal_packets.proofs.controller_model.Sent.{DoingFits}
use Rattle.radio_replay.specs.declared.fates.Fate.{Fate}
use Rattle.radio_replay.specs.Damage.{damaged_packet}
use Rattle.link_calls.specs.run_model.History.{Event, Transmitted, Hearing, fates_used, has_received, is_good, is_handed}
use Rattle.link_calls.specs.run_model.Journal.{air_entries, journal_of, mark_of, side_of}
use Rattle.link_calls.specs.run_model.Links.{is_advertising}
use Rattle.link_calls.specs.run_model.Run.{Given, fate_at, hearing_at, hearings_from, hearings_of, is_lost, others_than, reaches, unseen_in, verdict_where}
use Rattle.link_calls.proofs.run_model.Journals.{two}
use Rattle.link_calls.proofs.run_model.Parts.{journal_event}
use Rattle.link_calls.proofs.run_model.Stations.{is_in}
use Rattle.journal_packets.proofs.run_laws.TurnSteps.{IsListening as IsListeningFor}
use Rattle.journal_packets.specs.journal_links.Begun.{LinkBegun, link_numbered}
use Rattle.journal_packets.specs.Belonging.{is_side, link_of_packet}
use Rattle.journal_packets.specs.run_laws.Ranges.{IsPayload}
use Rattle.journal_acks.specs.Exchange.{Exchanged, after_packet, carries_empty, exchange_of, is_empty_in, is_number}
use Rattle.journal_acks.proofs.Exchanging.{exchange_at, exchange_more}
use Rattle.link_calls.proofs.LinkUses.{IsScanning}
use Rattle.link_calls.specs.Uses.{listens_under}

abbrev pub IsOfTwo : Given → Type 0
IsOfTwo given = given.stations ≡ 0 ∷ 1 ∷ []

abbrev pub other_of : ℕ → ℕ
other_of zero = 1
other_of (suc station) = 0

pub other_is : (given : Given) → IsOfTwo given → (station other : ℕ) → is_in station given.stations ≡ true → is_in other given.stations ≡ true → (other == station) ≡ false
    → other ≡ other_of station
other_is given pair station other is is_too differs =
    by (two station (ap (is_in station) (sym pair) ∙ is)) (two other (ap (is_in other) (sym pair) ∙ is_too))
  where
    by : (station ≡ 0) ⊎ (station ≡ 1) → (other ≡ 0) ⊎ (other ≡ 1) → other ≡ other_of station
    by (inl a) (inl b) = absurd (eqb-false other station differs (b ∙ sym a))
    by (inl a) (inr b) = b ∙ ap other_of (sym a)
    by (inr a) (inl b) = b ∙ ap other_of (sym a)
    by (inr a) (inr b) = absurd (eqb-false other station differs (b ∙ sym a))

pub own_differs : (station : ℕ) → (station == other_of station) ≡ false
own_differs zero = refl
own_differs (suc station) = false_from_ne_true (suc station == 0) (λ same. let is = eqb-true (suc station) 0 same in omega (arith, is))

pub side_same : (station : ℕ) → is_side (side_of station) (side_of station) ≡ true
side_same zero = refl
side_same (suc station) = refl

pub side_differs : (station : ℕ) → is_side (side_of (other_of station)) (side_of station) ≡ false
side_differs zero = refl
side_differs (suc station) = refl

pub side_other : (station : ℕ) → side_of (other_of station) ≡ other_side (side_of station)
side_other zero = refl
side_other (suc station) = refl

pub other_apart : (given : Given) → IsOfTwo given → (station other : ℕ) → is_in station given.stations ≡ true → is_in other given.stations ≡ true → (other == station) ≡ false
    → is_side (side_of other) (side_of station) ≡ false
other_apart given pair station other is is_too differs =
    ap (λ n. is_side (side_of n) (side_of station)) (other_is given pair station other is is_too differs) ∙ side_differs station

-- ---- the one hearing of a packet

abbrev pub hearing_of : Given → List Fate → ℕ → ℕ → List ℕ → List Event → Hearing
hearing_of given fates station channel octets history = hearing_at given (fate_at fates (fates_used history)) channel octets history (other_of station)

pub one_hearing : (given : Given) → IsOfTwo given → (fates : List Fate) (station channel : ℕ) (octets : List ℕ) (history : List Event) → is_in station given.stations ≡ true
    → hearings_of given fates station channel octets history ≡ hearing_of given fates station channel octets history ∷ []
one_hearing given pair fates station channel octets history is =
    ap (λ xs. hearings_from given fates (fates_used history) channel octets history (others_than station xs)) pair
    ∙ by (two station (ap (is_in station) (sym pair) ∙ is))
  where
    by : (station ≡ 0) ⊎ (station ≡ 1) → hearings_from given fates (fates_used history) channel octets history (others_than station (0 ∷ 1 ∷ []))
        ≡ hearing_of given fates station channel octets history ∷ []
    by (inl a) = subst (λ n. hearings_from given fates (fates_used history) channel octets history (others_than n (0 ∷ 1 ∷ []))
        ≡ hearing_of given fates n channel octets history ∷ []) (sym a) refl
    by (inr a) = subst (λ n. hearings_from given fates (fates_used history) channel octets history (others_than n (0 ∷ 1 ∷ []))
        ≡ hearing_of given fates n channel octets history ∷ []) (sym a) refl

-- the other station received it where its verdict is good
received_if : (same good : Bool) → same ≡ true → ((same && good) || false) ≡ good
received_if true true is = refl
received_if true false is = refl
received_if false good is = absurd cc

pub other_received : (station : ℕ) (hearing : Hearing) → (station == hearing.listener) ≡ true → has_received station (hearing ∷ []) ≡ is_good hearing.verdict
other_received station hearing same = received_if (station == hearing.listener) (is_good hearing.verdict) same

-- what is handed on was judged by a station that listens on the channel
pub record IsReached (wanted : Use) (channel : ℕ) (facts : Facts) (octets : List ℕ) (verdict : Verdict) : Type 0 where
  pub listens : wanted ≡ Listens channel
  pub verdict_is : verdict ≡ verdict_of facts octets

reached_by : (reached : Bool) (fate : Fate) (listened channel : ℕ) (facts : Facts) (octets : List ℕ) → (not (is_lost fate) && (listened == channel)) ≡ reached
    → is_handed (verdict_where reached facts octets) ≡ true → IsReached (Listens listened) channel facts octets (verdict_where reached facts octets)
reached_by true fate listened channel facts octets is handed =
    record { listens = ap Listens (eqb-true listened channel (second (not (is_lost fate)) (listened == channel) is)); verdict_is = refl }
  where
    second : (one other : Bool) → (one && other) ≡ true → other ≡ true
    second true other both = both
    second false other both = absurd cc
reached_by false fate listened channel facts octets is handed = absurd cc

pub reached : (wanted : Use) (fate : Fate) (channel : ℕ) (facts : Facts) (octets : List ℕ)
    → is_handed (verdict_where (reaches fate channel (channel_listened wanted)) facts octets) ≡ true
    → IsReached wanted channel facts octets (verdict_where (reaches fate channel (channel_listened wanted)) facts octets)
reached (Sends other sent) fate channel facts octets handed = absurd cc
reached Idle fate channel facts octets handed = absurd cc
reached (Listens listened) fate channel facts octets handed = reached_by (not (is_lost fate) && (listened == channel)) fate listened channel facts octets refl handed

pub good_handed : (verdict : Verdict) → is_good verdict ≡ true → is_handed verdict ≡ true
good_handed Good good = refl
good_handed Missed good = absurd cc
good_handed IsBroken good = absurd cc
good_handed Forged good = absurd cc

-- so is a good verdict
pub record IsJudged (wanted : Use) (channel : ℕ) (facts : Facts) (octets : List ℕ) : Type 0 where
  pub listens : wanted ≡ Listens channel
  pub good : is_good (verdict_of facts octets) ≡ true

pub judged : (wanted : Use) (fate : Fate) (channel : ℕ) (facts : Facts) (octets : List ℕ)
    → is_good (verdict_where (reaches fate channel (channel_listened wanted)) facts octets) ≡ true → IsJudged wanted channel facts octets
judged wanted fate channel facts octets good =
    let is = reached wanted fate channel facts octets (good_handed (verdict_where (reaches fate channel (channel_listened wanted)) facts octets) good) in
    record { listens = is.listens; good = ap is_good (sym is.verdict_is) ∙ good }

-- what is judged good was not changed
pub unchanged : (octets : List ℕ) (hearing : Hearing) → unseen_in octets (hearing ∷ []) ≡ None → is_good hearing.verdict ≡ true → damaged_packet hearing.fate octets ≡ octets
unchanged octets hearing seen good =
    (bytes_eq-Decides (damaged_packet hearing.fate octets) octets).0 (same (is_good hearing.verdict) (bytes_eq (damaged_packet hearing.fate octets) octets) good seen)
  where
    same : (b e : Bool) → b ≡ true → (if b && not e then Some (damaged_packet hearing.fate octets) else None) ≡ None → e ≡ true
    same true true is none = refl
    same true false is none = absurd cc
    same false e is none = absurd cc

-- ---- a station that judges a packet on a data channel to be good or forged listens on a link

pub record IsHearing (facts : Facts) (channel : ℕ) (octets : List ℕ) (verdict : Verdict) : Type 0 where
  pub handle : ℕ
  pub on : listens_under handle facts.turn.doing ≡ true
  pub link : OpenLink
  pub is_open : link_at handle facts.links ≡ Some link
  pub channel_is : channel ≡ (facts_in link).event.channel
  pub verdict_is : verdict ≡ verdict_of_end link.setup (facts_in link) octets

pub same_number : (n : ℕ) → (n == n) ≡ true
same_number n = grind arith

open_hears : (facts : Facts) (channel handle : ℕ) (octets : List ℕ) (found : Option OpenLink) → listens_under handle facts.turn.doing ≡ true → link_at handle facts.links ≡ found
    → facts.wanted ≡ listens_on found → facts.wanted ≡ Listens channel → is_handed (verdict_of_link found octets) ≡ true → IsHearing facts channel octets (verdict_of_link found octets)
open_hears facts channel handle octets None on is wanted listens handed = absurd cc
open_hears facts channel handle octets (Some link) on is wanted listens handed =
    let one : Listens channel ≡ Listens (facts_in link).event.channel = sym listens ∙ wanted in
    let same : channel ≡ (facts_in link).event.channel = cc in
    record { handle = handle; on = on; link = link; is_open = is; channel_is = same; verdict_is = refl }

not_here : (facts : Facts) (channel other : ℕ) (X : Type 0) → channel < 37 → IsAdvertisingChannel other → facts.wanted ≡ Listens other → facts.wanted ≡ Listens channel → X
not_here facts channel other X below above wanted listens =
    let one : Listens other ≡ Listens channel = sym wanted ∙ listens in
    let same : other ≡ channel = cc in
    let from = above.0 in absurd (omega (arith, below, from, same))

hears_by : (facts : Facts) (channel : ℕ) (octets : List ℕ) (doing : Doing) → facts.turn.doing ≡ doing → channel < 37 → DoingFits doing
    → IsListeningFor facts doing → IsScanning facts doing → facts.wanted ≡ Listens channel → is_handed (verdict_doing facts.links doing octets) ≡ true
    → IsHearing facts channel octets (verdict_doing facts.links doing octets)
hears_by facts channel octets (AwaitsRequest other) doing below fits listening scanning listens handed = not_here facts channel other _ below fits listening listens
hears_by facts channel octets (Scans other) doing below fits listening scanning listens handed = not_here facts channel other _ below fits scanning listens
hears_by facts channel octets (AwaitsResponse other) doing below fits listening scanning listens handed = not_here facts channel other _ below fits scanning listens
hears_by facts channel octets (Initiates other) doing below fits listening scanning listens handed = not_here facts channel other _ below fits listening listens
hears_by facts channel octets (CentralListens handle) doing below fits listening scanning listens handed =
    open_hears facts channel handle octets (link_at handle facts.links) (ap (listens_under handle) doing ∙ same_number handle) refl listening listens handed
hears_by facts channel octets (PeripheralListens handle) doing below fits listening scanning listens handed =
    open_hears facts channel handle octets (link_at handle facts.links) (ap (listens_under handle) doing ∙ same_number handle) refl listening listens handed
hears_by facts channel octets (Advertises other) doing below fits listening scanning listens handed = absurd cc
hears_by facts channel octets other doing below fits listening scanning listens handed = absurd cc

pub link_hears : (facts : Facts) (channel : ℕ) (octets : List ℕ) → channel < 37 → DoingFits facts.turn.doing → IsListeningFor facts facts.turn.doing
    → IsScanning facts facts.turn.doing → facts.wanted ≡ Listens channel → is_handed (verdict_of facts octets) ≡ true → IsHearing facts channel octets (verdict_of facts octets)
unfolding verdict_of
link_hears facts channel octets below fits listening scanning listens handed =
    hears_by facts channel octets facts.turn.doing refl below fits listening scanning listens handed

pub record IsListening (facts : Facts) (channel : ℕ) (octets : List ℕ) : Type 0 where
  pub handle : ℕ
  pub on : listens_under handle facts.turn.doing ≡ true
  pub link : OpenLink
  pub is_open : link_at handle facts.links ≡ Some link
  pub channel_is : channel ≡ (facts_in link).event.channel
  pub good : is_good (verdict_of_end link.setup (facts_in link) octets) ≡ true

pub link_listens : (facts : Facts) (channel : ℕ) (octets : List ℕ) → channel < 37 → DoingFits facts.turn.doing → IsListeningFor facts facts.turn.doing
    → IsScanning facts facts.turn.doing → facts.wanted ≡ Listens channel → is_good (verdict_of facts octets) ≡ true → IsListening facts channel octets
link_listens facts channel octets below fits listening scanning listens good =
    let is = link_hears facts channel octets below fits listening scanning listens (good_handed (verdict_of facts octets) good) in
    record { handle = is.handle; on = is.on; link = is.link; is_open = is.is_open; channel_is = is.channel_is; good = ap is_good (sym is.verdict_is) ∙ good }

-- ---- the access address of a packet

pub handed_begins : (setup : EndSetup) (facts : EndFacts) (octets : List ℕ) → is_handed (verdict_of_end setup facts octets) ≡ true
    → take 4 octets ≡ access_octets setup.link.fields.access
unfolding verdict_of_end heard_in
handed_begins setup facts octets handed = by (bytes_eq (take 4 octets) (access_octets setup.link.fields.access)) refl handed
  where
    by : (same : Bool) → bytes_eq (take 4 octets) (access_octets setup.link.fields.access) ≡ same
        → is_handed (verdict_by_end setup.link.max_rx (opens_now facts.encryption.end) (is_forged_pdu facts) (if same
        then (if is_packet facts.event.channel setup.link.fields.access setup.link.fields.crc_init octets then Whole (record { items = pdu_in facts.event.channel octets }) else Broken)
        else NotOurs)) ≡ true
        → take 4 octets ≡ access_octets setup.link.fields.access
    by true same some = (bytes_eq-Decides (take 4 octets) (access_octets setup.link.fields.access)).0 same
    by false same some = absurd cc

-- ---- the line of a packet

-- what a packet changes of the counts of a link: of one of the others, nothing
abbrev pub after_air : Bool → Side → Bool → Bool → (Side → Exchanged) → Side → Exchanged
after_air ours sender good empty ends = if ours then after_packet sender good empty ends else ends

pub air_exchange : (number station channel : ℕ) (octets : List ℕ) (history : List Event) (hearings : List Hearing) (hearing : Hearing) → hearings ≡ hearing ∷ []
    → exchange_at number (history ++ Transmitted station channel octets hearings ∷ [])
    ≡ after_air (not (is_advertising channel) && is_number (link_of_packet (journal_of history) (side_of station) octets) number) (side_of station)
    (is_good hearing.verdict) (carries_empty (link_numbered number (journal_of history)) channel octets) (exchange_at number history)
air_exchange number station channel octets history hearings hearing are =
    ap (exchange_of number) (journal_event history (Transmitted station channel octets hearings)
    ∙ ap (λ xs. journal_of history ++ air_entries (side_of station) channel octets xs) are)
    ∙ exchange_more number (journal_of history) (Air (side_of station) channel octets (mark_of hearing.fate) hearing.verdict)

-- a packet on an advertising channel
pub air_quiet : (number station channel : ℕ) (octets : List ℕ) (history : List Event) (hearings : List Hearing) (hearing : Hearing) → hearings ≡ hearing ∷ []
    → is_advertising channel ≡ true → exchange_at number (history ++ Transmitted station channel octets hearings ∷ []) ≡ exchange_at number history
air_quiet number station channel octets history hearings hearing are on =
    air_exchange number station channel octets history hearings hearing are
    ∙ ap (λ b. after_air (not b && is_number (link_of_packet (journal_of history) (side_of station) octets) number) (side_of station)
    (is_good hearing.verdict) (carries_empty (link_numbered number (journal_of history)) channel octets) (exchange_at number history)) on

-- a packet of a link
pub air_of_link : (number other station channel : ℕ) (octets : List ℕ) (history : List Event) (hearings : List Hearing) (hearing : Hearing) → hearings ≡ hearing ∷ []
    → is_advertising channel ≡ false → link_of_packet (journal_of history) (side_of station) octets ≡ Some other
    → exchange_at number (history ++ Transmitted station channel octets hearings ∷ [])
    ≡ after_air (other == number) (side_of station) (is_good hearing.verdict) (carries_empty (link_numbered number (journal_of history)) channel octets) (exchange_at number history)
air_of_link number other station channel octets history hearings hearing are off belongs =
    let empty = carries_empty (link_numbered number (journal_of history)) channel octets in
    air_exchange number station channel octets history hearings hearing are
    ∙ ap (λ b. after_air (not b && is_number (link_of_packet (journal_of history) (side_of station) octets) number) (side_of station) (is_good hearing.verdict) empty (exchange_at number history)) off
    ∙ ap (λ may. after_air (is_number may number) (side_of station) (is_good hearing.verdict) empty (exchange_at number history)) belongs

pub sent_empty : IsHeardWhole → (setup : EndSetup) (facts : EndFacts) (link : LinkBegun) (channel : ℕ) (octets : List ℕ) → (pdu_sent facts).llid < 4
    → length (payload_sent facts) ≤ 255 → IsPayload (pdu_sent facts) (payload_sent facts) → link.fields ≡ setup.link.fields → channel ≡ facts.event.channel → octets ≡ packet_sent setup facts
    → carries_empty (Some link) channel octets ≡ is_empty (pdu_sent facts)
unfolding packet_sent
sent_empty whole setup facts link channel octets two_bits short is fields on packet =
    let pdu = octets_of (header_sent facts) ++ payload_sent facts in
    (λ i. is_empty_in (heard_in (on i) ((fields i).access) ((fields i).crc_init) (packet i)))
    ∙ ap is_empty_in (whole facts.event.channel setup.link.fields.access setup.link.fields.crc_init pdu (in_form (length (payload_sent facts)) short))
    ∙ ap counts_as_empty (has_header facts facts two_bits (payload_sent facts)).read
    ∙ is.empty
