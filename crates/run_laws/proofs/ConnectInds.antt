-- Each CONNECT_IND of a station has the access address with its number.
use Rattle.std.proofs.Common.{◌≡◌, ℕ, ◌+◌, ◌-◌, ◌<◌, ◌≤◌, ◌==◌, inl, inr, Bool, true, false, Option, Some, List, [], ◌∷◌, ◌++◌, refl, sym, ap, subst, ◌∙◌, arith}
use Rattle.std.specs.Prelude.{◌&&◌, fold, map, take, nat_le, nat_lt, if◌then◌else◌}
use Rattle.std.proofs.lemmas.Bool.{and_parts, eqb-true, le-leb, leb-true, lt-ltb}
use Rattle.ble_base.specs.declared.addresses.Address.{Address}
use Rattle.ble_base.specs.declared.notes.Note.{Note}
use Rattle.adv_pdu.specs.declared.pdu.AdvPdu.{AdvPdu}
use Rattle.adv_pdu.specs.declared.pdu.AdvPdu.TheVariants.{Connect}
use Rattle.adv_pdu.specs.declared.pdu.ConnectFields.{ConnectFields}
use Rattle.run_model.specs.link_model.declared.setup.LinkSetup.{LinkSetup}
use Rattle.scan_init.specs.Access.{nth_access}
use Rattle.run_model.specs.controller_model.declared.doing.Doing.{Doing}
use Rattle.run_model.specs.controller_model.declared.doing.Doing.TheVariants.{Advertises, Connects, Rests}
use Rattle.run_model.specs.controller_model.declared.doing.Turn.{Turn}
use Rattle.run_model.specs.controller_model.Step.{Step, HostOctet, TurnBegins, TurnEnds}
use Rattle.run_model.specs.controller_model.Facts.{Setup, Facts, Sends}
use Rattle.run_model.specs.controller_model.Heard.{access_found}
use Rattle.run_model.specs.controller_model.Packets.{advertising_packet, pdu_heard}
use Rattle.run_model.specs.controller_model.Sent.{SendsOn}
use Rattle.run_model.specs.controller_model.Side.{facts_after, facts_of, notes_after}
use Rattle.run_model.proofs.controller_model.DataChannels.{link_channel}
use Rattle.run_model.specs.Due.{Each, packet_in}
use Rattle.run_model.specs.Feeding.{AreDistinct}
use Rattle.run_model.specs.History.{Event, TurnBegan, HostFed, Called, Noted, Transmitted, Hearing, past_of, turns_begun, packet_received}
use Rattle.run_model.specs.LinkEnds.{HaveAddresses}
use Rattle.run_model.specs.Links.{begins_link, is_advertising, is_connect_ind}
use Rattle.run_model.specs.Run.{Given, setup_at, facts_at, use_at, octets_left, after_call, after_octets, after_feed, hearings_of, step_of, run_of, history_of}
use Rattle.run_model.proofs.Calls.{with_notes, fold_called, fold_event, past_other, same_station}
use Rattle.run_model.proofs.Doings.{IsWanted, always_wanted}
use Rattle.run_model.proofs.LinkEnds.{IsUnderstood, wanted_is}
use Rattle.run_model.proofs.Places.{each_at, each_called, each_event}
use Rattle.run_model.proofs.Stations.{is_in, among, in_more_other, in_more_same, not_before}
use Rattle.run_model.proofs.Walk.{Place, AtBegins, AtPackets, AtListening, AtEnds, IsKept, IsWhole, IsStopped, ends_with, run_kept}
use Rattle.run_laws.specs.Access.{connects_in, connects_sent}
use Rattle.run_laws.proofs.SentPackets.{IsUseSent, Says}
use Rattle.run_laws.proofs.TurnPlaces.{AllStand, Between, Within, at_stage, event_past, stands_first, stands_kept}
use Rattle.run_laws.proofs.TurnSteps.{IsMade, Makes, MakesWell, begins_count, begins_may, ends_count, may_pending, octet_turn, pending, phase_turn}
use Rattle.run_laws.proofs.Hearings.{own_facts, use_sent_at}
use Rattle.run_laws.proofs.ByCalls.{StandsBy, at_turn, last_turn}

-- ---- how many were sent

pub count_event : (station : ℕ) (history : List Event) (event : Event) → connects_sent station (history ++ event ∷ []) ≡ connects_sent station history + connects_in station event
unfolding connects_sent
count_event station history event = fold_event (λ count event. count + connects_in station event) 0 history event

zero_more : (n : ℕ) → n + 0 ≡ n
zero_more n = omega arith

count_same : (station : ℕ) (history : List Event) (event : Event) → connects_in station event ≡ 0 → connects_sent station (history ++ event ∷ []) ≡ connects_sent station history
count_same station history event none = count_event station history event ∙ ap (λ n. connects_sent station history + n) none ∙ zero_more (connects_sent station history)

count_called : (other station : ℕ) (step : Step) (notes : List Note) (history : List Event) → connects_sent other (with_notes station step notes history) ≡ connects_sent other history
unfolding connects_sent
count_called other station step notes history =
    fold_called (λ count event. count + connects_in other event) 0 station step notes history (λ count note. zero_more count)
    ∙ zero_more (fold (λ count event. count + connects_in other event) 0 history)

-- ---- a packet

no_channel : (channel : ℕ) (X : Type 0) → channel < 37 → is_advertising channel ≡ true → X
no_channel channel X below is =
    let from = leb-true 37 channel (and_parts (nat_le 37 channel) (nat_lt channel 40) is).0 in
    absurd (omega (arith, below, from))

pub no_advertising : (channel : ℕ) (is : Bool) → is_advertising channel ≡ is → channel < 37 → is ≡ false
no_advertising channel true is below = no_channel channel _ below is
no_advertising channel false is below = refl

sends_none : (handle : ℕ) (doing : Doing) → SendsOn handle doing → pending doing ≡ 0
sends_none handle (Connects channel link) sends = absurd sends
sends_none handle (Advertises channel) sends = refl
sends_none handle other sends = refl

says_count : (doing : Doing) (pdu : AdvPdu) → Says doing pdu → (if is_connect_ind (Some pdu) then 1 else 0) ≡ pending doing
says_count (Connects channel link) pdu says = ap (λ p. if is_connect_ind (Some p) then 1 else 0) says
says_count (Advertises channel) pdu says = ap (λ b. if b then 1 else 0) says
says_count other pdu says = ap (λ b. if b then 1 else 0) says

pub on_channel : (channel : ℕ) → (37 ≤ channel) × (channel ≤ 39) → is_advertising channel ≡ true
on_channel channel is = rw (le-leb 37 channel is.0, lt-ltb channel 40 (omega (arith, is.1))) refl

-- what is sent counts where a link is to be made
sent_counts : IsUnderstood → (facts : Facts) (channel : ℕ) (octets : List ℕ) → IsUseSent facts (Sends channel octets)
    → (if begins_link channel octets then 1 else 0) ≡ pending facts.turn.doing
unfolding begins_link
sent_counts understood facts channel octets (inl sent) =
    ap (λ b. if b && is_connect_ind (pdu_heard channel octets) then 1 else 0) (on_channel channel sent.on_channel)
    ∙ ap (λ found. if is_connect_ind found then 1 else 0) (ap (pdu_heard channel) sent.packet ∙ understood channel sent.pdu sent.is_pdu)
    ∙ says_count facts.turn.doing sent.pdu sent.says
sent_counts understood facts channel octets (inr sent) =
    let below : channel < 37 = subst (λ (n : ℕ). n < 37) (sym sent.channel_is) (link_channel sent.link) in
    ap (λ b. if b && is_connect_ind (pdu_heard channel octets) then 1 else 0) (no_advertising channel (is_advertising channel) refl below)
    ∙ sym (sends_none sent.handle facts.turn.doing sent.sends)

-- a CONNECT_IND is that of the link that is to be made
record IsOfLink (setup : Setup) (facts : Facts) (fields : ConnectFields) : Type 0 where
  channel : ℕ
  link : LinkSetup
  doing : facts.turn.doing ≡ Connects channel link
  fields_are : link.fields ≡ fields

of_link_by : (setup : Setup) (facts : Facts) (from to : Address) (ch_sel : Bool) (fields : ConnectFields) (pdu : AdvPdu) (doing : Doing) → facts.turn.doing ≡ doing
    → Says doing pdu → pdu ≡ Connect from to ch_sel fields → IsOfLink setup facts fields
of_link_by setup facts from to ch_sel fields pdu (Connects channel link) is says same =
    let one : Connect link.own link.peer true link.fields ≡ Connect from to ch_sel fields = sym says ∙ same in
    record { channel = channel; link = link; doing = is; fields_are = cc }
of_link_by setup facts from to ch_sel fields pdu (Advertises channel) is says same =
    absurd (let h : true ≡ false = ap (λ p. is_connect_ind (Some p)) (sym same) ∙ says in absurd cc)
of_link_by setup facts from to ch_sel fields pdu other is says same =
    absurd (let h : true ≡ false = ap (λ p. is_connect_ind (Some p)) (sym same) ∙ says in absurd cc)

of_link : IsUnderstood → (setup : Setup) (facts : Facts) (channel : ℕ) (octets : List ℕ) (from to : Address) (ch_sel : Bool) (fields : ConnectFields)
    → IsUseSent facts (Sends channel octets) → is_advertising channel ≡ true → pdu_heard channel octets ≡ Some (Connect from to ch_sel fields)
    → IsOfLink setup facts fields
of_link understood setup facts channel octets from to ch_sel fields (inl sent) is says =
    let found : Some sent.pdu ≡ Some (Connect from to ch_sel fields) = sym (ap (pdu_heard channel) sent.packet ∙ understood channel sent.pdu sent.is_pdu) ∙ says in
    let same : sent.pdu ≡ Connect from to ch_sel fields = cc in
    of_link_by setup facts from to ch_sel fields sent.pdu facts.turn.doing refl sent.says same
of_link understood setup facts channel octets from to ch_sel fields (inr sent) is says =
    no_channel channel _ (subst (λ (n : ℕ). n < 37) (sym sent.channel_is) (link_channel sent.link)) is

one_less : (count number : ℕ) → count + 1 ≡ number + 1 → number ≡ count
one_less count number is = omega (arith, is)

has_access : (setup : Setup) (facts : Facts) (fields : ConnectFields) (count : ℕ) → IsOfLink setup facts fields → Makes setup facts
    → facts.connections ≡ count + pending facts.turn.doing → access_found (nth_access setup.cursor count) ≡ Some fields.access
has_access setup facts fields count of makes counted =
    let made : IsMade setup facts.view facts.connections of.link = subst (MakesWell setup facts.view facts.connections) of.doing makes in
    let one : facts.connections ≡ count + 1 = counted ∙ ap (λ doing. count + pending doing) of.doing in
    ap (λ n. access_found (nth_access setup.cursor n)) (sym (one_less count made.number (sym one ∙ made.counted)))
    ∙ made.access ∙ ap (λ (f : ConnectFields). Some f.access) of.fields_are

-- ---- at each place of a run

-- it has taken as many access addresses as it sent CONNECT_INDs, and those that wait
abbrev pub Counts : (Doing → ℕ) → Given → List Event → ℕ → Type 0
Counts waiting given history station =
    (facts_at given station history).connections ≡ connects_sent station history + waiting (facts_at given station history).turn.doing

abbrev pub waiting_at : Place → ℕ → Doing → ℕ
waiting_at (AtPackets phases done left) station doing = if is_in station done then 0 else pending doing
waiting_at (AtListening phases done left) station doing = if is_in station done then pending doing else 0
waiting_at place station doing = pending doing

abbrev pub TakenInOrder : Given → List Event → Event → Type 0
TakenInOrder given before (Transmitted station channel octets hearings) =
    (from to : Address) (ch_sel : Bool) (fields : ConnectFields) → is_advertising channel ≡ true → pdu_heard channel octets ≡ Some (Connect from to ch_sel fields)
    → access_found (nth_access (setup_at given station).cursor (connects_sent station before)) ≡ Some fields.access
TakenInOrder given before (TurnBegan slot radios) = Unit {0}
TakenInOrder given before (HostFed station octets) = Unit {0}
TakenInOrder given before (Called station step) = Unit {0}
TakenInOrder given before (Noted station note) = Unit {0}

pub record AreCounted (given : Given) (place : Place) (history : List Event) : Type 0 where
  pub stand : AllStand given place history
  pub each : Each (TakenInOrder given) [] history
  pub at : (station : ℕ) → is_in station given.stations ≡ true → Counts (waiting_at place station) given history station

-- ---- a call

-- from one call to the next, the same number is counted
abbrev Leads : Setup → (Doing → ℕ) → (Doing → ℕ) → Facts → Facts → Type 0
Leads setup before after facts next = (count : ℕ) → facts.connections ≡ count + before facts.turn.doing → next.connections ≡ count + after next.turn.doing

call_counts : (given : Given) (station : ℕ) (step : Step) (history : List Event) (before after : Doing → ℕ)
    → Leads (setup_at given station) before after (facts_at given station history) (facts_after (setup_at given station) (facts_at given station history) step)
    → (other : ℕ) (same : Bool) → (other == station) ≡ same → (start end : Doing → ℕ) → (same ≡ true → (start ≡ before) × (end ≡ after)) → (same ≡ false → start ≡ end)
    → Counts start given history other → Counts end given (after_call given station step history) other
call_counts given station step history before after leads other true is start end own rest counted =
    let one = eqb-true other station is in
    let notes = notes_after (setup_at given station) (facts_at given station history) step in
    let here : Counts before given history station =
    subst (λ w. Counts w given history station) (own refl).0 (subst (Counts start given history) one counted) in
    let next : Counts after given (after_call given station step history) station =
    subst (λ (f : Facts). f.connections ≡ connects_sent station (after_call given station step history) + after f.turn.doing) (sym (own_facts given station step history))
    (leads (connects_sent station history) here ∙ ap (λ n. n + after (facts_after (setup_at given station) (facts_at given station history) step).turn.doing)
    (sym (count_called station station step notes history))) in
    subst (λ w. Counts w given (after_call given station step history) other) (sym (own refl).1)
    (subst (Counts after given (after_call given station step history)) (sym one) next)
call_counts given station step history before after leads other false is start end own rest counted =
    let notes = notes_after (setup_at given station) (facts_at given station history) step in
    let same = past_other other station step notes history is in
    let setup = setup_at given other in
    subst (λ w. Counts w given (after_call given station step history) other) (rest refl)
    (subst (λ past. (facts_of setup past).connections ≡ connects_sent other (after_call given station step history) + start (facts_of setup past).turn.doing) (sym same)
    (counted ∙ ap (λ n. n + start (facts_at given other history).turn.doing) (sym (count_called other station step notes history))))

-- a call that leaves the same to wait
plain_counts : (given : Given) (station : ℕ) (step : Step) (history : List Event)
    → Leads (setup_at given station) pending pending (facts_at given station history) (facts_after (setup_at given station) (facts_at given station history) step)
    → (other : ℕ) → Counts pending given history other → Counts pending given (after_call given station step history) other
plain_counts given station step history leads other counted =
    call_counts given station step history pending pending leads other (other == station) refl pending pending (λ one. (refl, refl)) (λ one. refl) counted

octet_leads : (setup : Setup) (facts : Facts) (octet : ℕ) → Leads setup pending pending facts (facts_after setup facts (HostOctet octet))
octet_leads setup facts octet = λ count is.
    let same = octet_turn setup facts octet in
    same.connections ∙ is ∙ ap (λ (turn : Turn). count + pending turn.doing) (sym same.turn)

begin_leads : (setup : Setup) (slot : ℕ) (on : Bool) (facts : Facts) → facts.turn.begun ≡ slot → facts.turn.doing ≡ Rests
    → Leads setup pending pending facts (facts_after setup facts (TurnBegins slot on))
begin_leads setup slot on facts begun rests = λ count is.
    begins_count setup slot on facts ∙ is ∙ ap (λ doing. count + pending doing) rests
    ∙ ap (λ n. count + n) (sym (may_pending _ (begins_may setup slot on facts begun)))

hear_leads : (setup : Setup) (facts : Facts) (received : Option (List ℕ)) → Leads setup (λ doing. 0) pending facts (facts_after setup facts (step_of received))
hear_leads setup facts received = λ count is.
    let passed = phase_turn setup facts received in
    passed.count ∙ ap (λ n. n + pending (facts_after setup facts (step_of received)).turn.doing) (is ∙ zero_more count)

end_leads : (setup : Setup) (facts : Facts) → pending facts.turn.doing ≡ 0 → Leads setup pending pending facts (facts_after setup facts TurnEnds)
end_leads setup facts none = λ count is. ends_count setup facts ∙ is ∙ ap (λ n. count + n) none

-- ---- other events

event_counts : (given : Given) (history : List Event) (event : Event) (station : ℕ) (waiting : Doing → ℕ) → past_of station (history ++ event ∷ []) ≡ past_of station history
    → connects_in station event ≡ 0 → Counts waiting given history station → Counts waiting given (history ++ event ∷ []) station
event_counts given history event station waiting same none counted =
    subst (λ past. (facts_of (setup_at given station) past).connections ≡ connects_sent station (history ++ event ∷ []) + waiting (facts_of (setup_at given station) past).turn.doing)
    (sym same) (counted ∙ ap (λ n. n + waiting (facts_at given station history).turn.doing) (sym (count_same station history event none)))

octets_count : (given : Given) (station : ℕ) (octets : List ℕ) (history : List Event) (other : ℕ) → Counts pending given history other
    → Counts pending given (after_octets given station octets history) other
octets_count given station [] history other counted = counted
octets_count given station (octet ∷ octets) history other counted =
    octets_count given station octets (after_call given station (HostOctet octet) history) other
    (plain_counts given station (HostOctet octet) history (octet_leads (setup_at given station) (facts_at given station history) octet) other counted)

feed_counts : (given : Given) (station : ℕ) (octets : List ℕ) (history : List Event) (other : ℕ) → Counts pending given history other
    → Counts pending given (after_feed given station octets history) other
feed_counts given station [] history other counted = counted
feed_counts given station (octet ∷ octets) history other counted =
    octets_count given station (octet ∷ octets) (history ++ HostFed station (octet ∷ octets) ∷ []) other
    (event_counts given history (HostFed station (octet ∷ octets)) other pending (event_past other history (HostFed station (octet ∷ octets)) refl) refl counted)

call_each : (given : Given) (station : ℕ) (step : Step) (history : List Event) → Each (TakenInOrder given) [] history
    → Each (TakenInOrder given) [] (after_call given station step history)
call_each given station step history each =
    each_called (TakenInOrder given) station step (notes_after (setup_at given station) (facts_at given station history) step) history each tt (λ before note. tt)

octets_each : (given : Given) (station : ℕ) (octets : List ℕ) (history : List Event) → Each (TakenInOrder given) [] history
    → Each (TakenInOrder given) [] (after_octets given station octets history)
octets_each given station [] history each = each
octets_each given station (octet ∷ octets) history each =
    octets_each given station octets (after_call given station (HostOctet octet) history) (call_each given station (HostOctet octet) history each)

feed_each : (given : Given) (station : ℕ) (octets : List ℕ) (history : List Event) → Each (TakenInOrder given) [] history
    → Each (TakenInOrder given) [] (after_feed given station octets history)
feed_each given station [] history each = each
feed_each given station (octet ∷ octets) history each =
    octets_each given station (octet ∷ octets) (history ++ HostFed station (octet ∷ octets) ∷ [])
    (each_event (TakenInOrder given) history (HostFed station (octet ∷ octets)) each tt)

-- ---- a packet

packet_in_order : IsUnderstood → (given : Given) → HaveAddresses given → (place : Place) (history : List Event) → AllStand given place history → (station : ℕ)
    → is_in station given.stations ≡ true → (channel : ℕ) (octets : List ℕ) (hearings : List Hearing) → use_at given station history ≡ Sends channel octets
    → Counts pending given history station → TakenInOrder given history (Transmitted station channel octets hearings)
packet_in_order understood given six place history stand station is channel octets hearings wanted counted = λ from to ch_sel fields on_air says.
    let setup = setup_at given station in
    let facts = facts_at given station history in
    has_access setup facts fields (connects_sent station history)
    (of_link understood setup facts channel octets from to ch_sel fields (use_sent_at given six place history stand station is channel octets wanted) on_air says)
    (at_turn given place history stand station is).makes counted

own_count : (station channel : ℕ) (octets : List ℕ) (hearings : List Hearing) → connects_in station (Transmitted station channel octets hearings) ≡ (if begins_link channel octets then 1 else 0)
own_count station channel octets hearings = ap (λ b. if b && begins_link channel octets then 1 else 0) (same_station station)

none_waits : (n : ℕ) → n ≡ n + 0
none_waits n = omega arith

packet_by : IsUnderstood → (given : Given) (done : List ℕ) (station channel : ℕ) (octets : List ℕ) (hearings : List Hearing) (history : List Event)
    → IsUseSent (facts_at given station history) (Sends channel octets) → is_in station done ≡ false → (other : ℕ) (same : Bool) → (other == station) ≡ same
    → Counts (λ doing. if is_in other done then 0 else pending doing) given history other
    → Counts (λ doing. if is_in other (done ++ station ∷ []) then 0 else pending doing) given (history ++ Transmitted station channel octets hearings ∷ []) other
packet_by understood given done station channel octets hearings history sent out other true is counted =
    let event = Transmitted station channel octets hearings in
    let after = history ++ event ∷ [] in
    let one = eqb-true other station is in
    let setup = setup_at given station in
    let here : Counts pending given history station =
    subst (λ b. Counts (λ doing. if b then 0 else pending doing) given history station) out
    (subst (λ n. Counts (λ doing. if is_in n done then 0 else pending doing) given history n) one counted) in
    let more : connects_sent station after ≡ connects_sent station history + pending (facts_at given station history).turn.doing =
    count_event station history event ∙ ap (λ n. connects_sent station history + n) (own_count station channel octets hearings ∙ sent_counts understood (facts_at given station history) channel octets sent) in
    let next : Counts (λ doing. 0) given after station =
    subst (λ past. (facts_of setup past).connections ≡ connects_sent station after + 0) (sym (event_past station history event refl))
    (here ∙ sym more ∙ none_waits (connects_sent station after)) in
    subst (λ b. Counts (λ doing. if b then 0 else pending doing) given after other) (sym (in_more_same other station done is))
    (subst (Counts (λ doing. 0) given after) (sym one) next)
packet_by understood given done station channel octets hearings history sent out other false is counted =
    let event = Transmitted station channel octets hearings in
    subst (λ b. Counts (λ doing. if b then 0 else pending doing) given (history ++ event ∷ []) other) (sym (in_more_other other station done is))
    (event_counts given history event other (λ doing. if is_in other done then 0 else pending doing) (event_past other history event refl)
    (ap (λ b. if b && begins_link channel octets then 1 else 0) is) counted)

-- a station that sends nothing has no CONNECT_IND to send
silent : (setup : Setup) (past : List Step) (doing : Doing) → (facts_of setup past).turn.doing ≡ doing → packet_in (facts_of setup past).wanted ≡ [] → pending doing ≡ 0
silent setup past (Connects channel link) is none =
    let wants = subst (λ (does : Doing). IsWanted does (facts_of setup past).wanted) is (always_wanted setup past) in
    absurd (let h : (channel, advertising_packet channel (Connect link.own link.peer true link.fields)) ∷ [] ≡ [] = sym (ap packet_in wants.0) ∙ none in absurd cc)
silent setup past (Advertises channel) is none = refl
silent setup past other is none = refl

silence_by : (given : Given) (done : List ℕ) (station : ℕ) (history : List Event) → pending (facts_at given station history).turn.doing ≡ 0
    → is_in station done ≡ false → (other : ℕ) (same : Bool) → (other == station) ≡ same
    → Counts (λ doing. if is_in other done then 0 else pending doing) given history other
    → Counts (λ doing. if is_in other (done ++ station ∷ []) then 0 else pending doing) given history other
silence_by given done station history none out other true is counted =
    let one = eqb-true other station is in
    let here : Counts pending given history station =
    subst (λ b. Counts (λ doing. if b then 0 else pending doing) given history station) out
    (subst (λ n. Counts (λ doing. if is_in n done then 0 else pending doing) given history n) one counted) in
    subst (λ b. Counts (λ doing. if b then 0 else pending doing) given history other) (sym (in_more_same other station done is))
    (subst (Counts (λ doing. 0) given history) (sym one) (here ∙ ap (λ n. connects_sent station history + n) none))
silence_by given done station history none out other false is counted =
    subst (λ b. Counts (λ doing. if b then 0 else pending doing) given history other) (sym (in_more_other other station done is)) counted

-- ---- what is heard

listen_by : (given : Given) (done : List ℕ) (station : ℕ) (received : Option (List ℕ)) (history : List Event) → is_in station done ≡ false
    → (other : ℕ) (same : Bool) → (other == station) ≡ same
    → Counts (λ doing. if is_in other done then pending doing else 0) given history other
    → Counts (λ doing. if is_in other (done ++ station ∷ []) then pending doing else 0) given (after_call given station (step_of received) history) other
listen_by given done station received history out other same is counted =
    call_counts given station (step_of received) history (λ doing. 0) pending (hear_leads (setup_at given station) (facts_at given station history) received)
    other same is (λ doing. if is_in other done then pending doing else 0) (λ doing. if is_in other (done ++ station ∷ []) then pending doing else 0)
    (λ one. (
      ap (λ b. λ (doing : Doing). if b then pending doing else 0) (ap (λ n. is_in n done) (eqb-true other station (is ∙ one)) ∙ out),
      ap (λ b. λ (doing : Doing). if b then pending doing else 0) (in_more_same other station done (is ∙ one)),
    ))
    (λ differs. ap (λ b. λ (doing : Doing). if b then pending doing else 0) (sym (in_more_other other station done (is ∙ differs))))
    counted

-- ---- the run

pub counted_kept : IsUnderstood → (given : Given) → HaveAddresses given → AreDistinct given.stations → IsKept given (AreCounted given)
counted_kept understood given six distinct = let kept = stands_kept given distinct in record {
  on_turn = λ slot plan history begun at counted.
      let event = TurnBegan slot (map plan.radio_of given.stations) in record {
        stand = kept.on_turn slot plan history begun at counted.stand;
        each = each_event (TakenInOrder given) history event counted.each tt;
        at = λ station is. event_counts given history event station pending (event_past station history event refl) refl (counted.at station is);
      };
  on_feed = λ plan done left station history are some now counted.
      let octets = take (plan.feed_of station) (octets_left given station history) in record {
        stand = kept.on_feed plan done left station history are some now counted.stand;
        each = feed_each given station octets history counted.each;
        at = λ other is. feed_counts given station octets history other (counted.at other is);
      };
  on_fed = λ history counted. record { stand = kept.on_fed history counted.stand; each = counted.each; at = counted.at };
  on_begin = λ slot plan done left station history are due counted.
      let step = TurnBegins slot (plan.radio_of station) in
      let in_turn = at_turn given (AtBegins done (station ∷ left)) history counted.stand station (among given.stations done left station are) in
      let out = not_before given.stations done left station distinct are in
      let waits = subst (λ b. StandsBy given history station (if b then at_stage (Within 0) (turns_begun history) else at_stage Between (turns_begun history - 1))) out in_turn in record {
        stand = kept.on_begin slot plan done left station history are due counted.stand;
        each = call_each given station step history counted.each;
        at = λ other is. plain_counts given station step history
            (begin_leads (setup_at given station) slot (plan.radio_of station) (facts_at given station history) (waits.begun_is ∙ last_turn (turns_begun history) slot due.slot_is) waits.does)
            other (counted.at other is);
      };
  on_begun = λ history counted. record { stand = kept.on_begun history counted.stand; each = counted.each; at = counted.at };
  on_phase = λ phases history few counted. record { stand = kept.on_phase phases history few counted.stand; each = counted.each; at = counted.at };
  on_silence = λ phases done left station history are none counted. record {
    stand = kept.on_silence phases done left station history are none counted.stand;
    each = counted.each;
    at = λ other is. silence_by given done station history
        (silent (setup_at given station) (past_of station history) (facts_at given station history).turn.doing refl (ap packet_in (wanted_is given station history) ∙ none))
        (not_before given.stations done left station distinct are) other (other == station) refl (counted.at other is);
  };
  on_packet = λ phases plan done left station channel octets history are some due counted.
      let hearings = hearings_of given plan.fates station channel octets history in
      let is = among given.stations done left station are in
      let place = AtPackets phases done (station ∷ left) in
      let out = not_before given.stations done left station distinct are in record {
        stand = kept.on_packet phases plan done left station channel octets history are some due counted.stand;
        each = each_event (TakenInOrder given) history (Transmitted station channel octets hearings) counted.each
            (packet_in_order understood given six place history counted.stand station is channel octets hearings due.is_wanted
            (subst (λ b. Counts (λ doing. if b then 0 else pending doing) given history station) out (counted.at station is)));
        at = λ other in_it. packet_by understood given done station channel octets hearings history
            (use_sent_at given six place history counted.stand station is channel octets due.is_wanted) out other (other == station) refl (counted.at other in_it);
      };
  on_air = λ phases history counted. record {
    stand = kept.on_air phases history counted.stand;
    each = counted.each;
    at = λ station is. subst (λ b. Counts (λ doing. if b then 0 else pending doing) given history station) is (counted.at station is);
  };
  on_hearing = λ phases done left station history are some counted. record {
    stand = kept.on_hearing phases done left station history are some counted.stand;
    each = call_each given station (step_of (packet_received station history)) history counted.each;
    at = λ other is. listen_by given done station (packet_received station history) history (not_before given.stations done left station distinct are)
        other (other == station) refl (counted.at other is);
  };
  on_heard = λ phases history counted. record {
    stand = kept.on_heard phases history counted.stand;
    each = counted.each;
    at = λ station is. subst (λ b. Counts (λ doing. if b then pending doing else 0) given history station) is (counted.at station is);
  };
  on_phases = λ history counted. record { stand = kept.on_phases history counted.stand; each = counted.each; at = counted.at };
  on_end = λ done left station history are some counted.
      let in_turn = at_turn given (AtEnds done (station ∷ left)) history counted.stand station (among given.stations done left station are) in
      let out = not_before given.stations done left station distinct are in
      let waits = subst (λ b. StandsBy given history station (if b then at_stage Between (turns_begun history) else at_stage (Within 3) (turns_begun history))) out in_turn in record {
        stand = kept.on_end done left station history are some counted.stand;
        each = call_each given station TurnEnds history counted.each;
        at = λ other is. plain_counts given station TurnEnds history (end_leads (setup_at given station) (facts_at given station history) waits.does.1) other (counted.at other is);
      };
  on_ended = λ history counted. record { stand = kept.on_ended history counted.stand; each = counted.each; at = counted.at };
}

pub first_counts : (given : Given) (station : ℕ) → Counts pending given [] station
unfolding facts_of connects_sent
first_counts given station = refl

run_counted : IsUnderstood → (given : Given) → HaveAddresses given → AreDistinct given.stations → Each (TakenInOrder given) [] (history_of (run_of given))
run_counted understood given six distinct =
    ends_with (run_of given) (IsWhole given (AreCounted given)) (IsStopped given (AreCounted given)) (Each (TakenInOrder given) [])
    (run_kept given (AreCounted given) (counted_kept understood given six distinct)
    (record { stand = stands_first given; each = tt; at = λ station is. first_counts given station }))
    (λ history whole. whole.is.each) (λ history stop stopped. stopped.kept.each)

pub taken_in_order : IsUnderstood → (given : Given) → HaveAddresses given → AreDistinct given.stations → (before rest : List Event) (station channel : ℕ) (octets : List ℕ)
    (hearings : List Hearing) (from to : Address) (ch_sel : Bool) (fields : ConnectFields)
    → history_of (run_of given) ≡ before ++ Transmitted station channel octets hearings ∷ rest → is_advertising channel ≡ true
    → pdu_heard channel octets ≡ Some (Connect from to ch_sel fields)
    → access_found (nth_access (setup_at given station).cursor (connects_sent station before)) ≡ Some fields.access
taken_in_order understood given six distinct before rest station channel octets hearings from to ch_sel fields at =
    each_at (TakenInOrder given) (history_of (run_of given)) before rest (Transmitted station channel octets hearings) (run_counted understood given six distinct) at from to ch_sel fields
