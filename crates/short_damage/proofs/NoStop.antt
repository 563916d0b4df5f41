-- A run of two stations whose damages are all short does not stop.
use Rattle.std.proofs.Common.{◌≡◌, ℕ, zero, suc, ◌+◌, ◌-◌, ◌^◌, ◌<◌, ◌==◌, inl, inr, Bool, true, false, Some, List, [], ◌∷◌, ◌++◌, length, get_or, take, cond, not, refl, sym, ap, subst, ◌∙◌, append-nil, arith}
use Rattle.std.specs.List.{All, AllByRecursion}
use Rattle.std.specs.Prelude.{slice_get}
use Rattle.std.proofs.lemmas.Bool.{false_from_ne_true, eqb-true}
use Rattle.std.proofs.lemmas.List.Elements.{All-head, All-tail}
use Rattle.ble_base.specs.declared.verdicts.Verdict.TheVariants.{Good}
use Rattle.adv_pdu.specs.Pdu.{written}
use Rattle.air_frame.specs.Advertising.{advertising_access, advertising_crc_init}
use Rattle.air_frame.specs.Packet.{on_air}
use Rattle.radio_replay.specs.Damage.{damaged_packet}
use Rattle.radio_replay.specs.declared.fates.Fate.{Fate}
use Rattle.link_calls.specs.link_model.Facts.{Facts as EndFacts}
use Rattle.link_calls.specs.link_model.Hearing.{air_octets}
use Rattle.link_calls.specs.link_model.Packets.{packet_sent}
use Rattle.link_calls.specs.link_model.Setup.{Setup as EndSetup}
use Rattle.link_calls.specs.link_model.Step.{PacketSent}
use Rattle.link_calls.specs.open_links.OpenLinks.{OpenLink, facts_in, link_after, link_at}
use Rattle.link_calls.specs.controller_model.Facts.{Facts, Listens}
use Rattle.link_calls.specs.controller_model.Packets.{channel_listened, verdict_of}
use Rattle.link_calls.proofs.controller_model.DataChannels.{link_channel}
use Rattle.link_calls.proofs.controller_model.Sent.{can_be_done}
use Rattle.link_calls.specs.run_laws.Ends.{link_listened}
use Rattle.link_calls.specs.run_model.Feeding.{AreDistinct}
use Rattle.link_calls.specs.run_model.History.{Event, Hearing, fates_used, past_of, turns_begun}
use Rattle.link_calls.specs.run_model.LinkEnds.{HaveAddresses}
use Rattle.link_calls.specs.run_model.Run.{Given, Plan, Stop, Stops, facts_at, fate_at, hearing_at, hearings_from, history_of, others_than, reaches, run_of, setup_at, use_at, verdict_where}
use Rattle.link_calls.specs.run_model.OnAir.{IsUnseenStop}
use Rattle.link_calls.proofs.run_model.Handing.{listens_where}
use Rattle.link_calls.proofs.run_model.LinkEnds.{AreTaken, IsUnderstood, has_connect_ind, wanted_is}
use Rattle.link_calls.proofs.run_model.Stations.{all_in, among, is_in}
use Rattle.link_calls.proofs.run_model.Unseen.{run_unseen}
use Rattle.link_calls.proofs.run_model.Walk.{AtPackets, IsStopped, IsWhole, Place, ends_stopped, run_kept}
use Rattle.link_calls.proofs.run_laws.ByCalls.{first_hears}
use Rattle.link_calls.proofs.run_laws.DistinctAccess.{AreApart}
use Rattle.link_calls.proofs.run_laws.Hearings.{AreHearing, IsLinkOnAir, IsOnAir, hearing_kept, on_air as is_on_air, use_sent_at}
use Rattle.link_calls.proofs.run_laws.LinkPhases.{IsInPhase, in_phase}
use Rattle.link_calls.proofs.run_laws.OwnLinks.{listens_as, same_access, sent_begins}
use Rattle.link_calls.proofs.run_laws.TurnPlaces.{Within, stands_first, turned}
use Rattle.link_calls.proofs.run_laws.TwoStations.{AreTwo}
use Rattle.link_calls.proofs.LinkUses.{IsUsing, using_first, using_kept}
use Rattle.short_damage.specs.Short.{AreShortIn, IsShort}
use Rattle.short_damage.proofs.ConnectPdus.{access_below, init_below, one_connect}
use Rattle.short_damage.proofs.Listeners.{IsHearing, OnAdvertising, OnLink, hears}
use Rattle.short_damage.proofs.NeverWhole.{AreLaws, IsHeardWhole, never_whole}

-- ---- the fates of a schedule

short_fate : (fates : List Fate) (number : ℕ) → All IsShort fates → IsShort (fate_at fates number)
short_fate [] number all =
    record {
      octets = tt;
      changes =
          λ packet. record { access = refl; start = 0; bits = record { front = refl; back = refl } };
    }
short_fate (fate ∷ fates) zero all = All-head IsShort fate fates all
short_fate (fate ∷ fates) (suc number) all = short_fate fates number (All-tail IsShort fate fates all)

short_plan : (plans : List Plan) (slot : ℕ) (plan : Plan) → All (λ plan. All IsShort plan.fates) plans
    → slice_get plans slot ≡ Some plan → All IsShort plan.fates
short_plan [] slot plan all is = absurd cc
short_plan (first ∷ plans) zero plan all is =
    let same : first ≡ plan = cc in
    subst (λ (p : Plan). All IsShort p.fates) same (All-head (λ (p : Plan). All IsShort p.fates) first plans all)
short_plan (first ∷ plans) (suc slot) plan all is = short_plan plans slot plan
    (All-tail (λ (p : Plan). All IsShort p.fates) first plans all) is

-- ---- the hearings of a packet

record IsHearingOf (given : Given) (fates : List Fate) (channel : ℕ) (octets : List ℕ) (history : List Event)
    (hearing : Hearing) : Type 0 where
  number : ℕ
  listener : ℕ
  is_one : is_in listener given.stations ≡ true
  is : hearing ≡ hearing_at given (fate_at fates number) channel octets history listener

hearing_of : (given : Given) (fates : List Fate) (channel : ℕ) (octets : List ℕ) (history : List Event)
    (hearing : Hearing) (listeners : List ℕ) (number place : ℕ)
    → AllByRecursion (λ station. is_in station given.stations ≡ true) listeners
    → place < length (hearings_from given fates number channel octets history listeners)
    → get_or (hearings_from given fates number channel octets history listeners) place hearing ≡ hearing
    → IsHearingOf given fates channel octets history hearing
hearing_of given fates channel octets history hearing [] number place all less is = absurd (omega (arith, less))
hearing_of given fates channel octets history hearing (listener ∷ listeners) number zero all less is =
    record { number = number; listener = listener; is_one = all.0; is = sym is }
hearing_of given fates channel octets history hearing (listener ∷ listeners) number (suc place) all less is =
    hearing_of given fates channel octets history hearing listeners (number + 1) place all.1 (omega (arith, less)) is

-- the others are among all
others_by : (P : ℕ → Type 0) (first : ℕ) (rest : List ℕ) (out : Bool) → P first → AllByRecursion P rest
    → AllByRecursion P (cond (not out) (first ∷ rest) rest)
others_by P first rest true is all = all
others_by P first rest false is all = (is, all)

others_all : (P : ℕ → Type 0) (station : ℕ) (stations : List ℕ) → AllByRecursion P stations
    → AllByRecursion P (others_than station stations)
others_all P station [] all = tt
others_all P station (first ∷ rest) all = others_by P first (others_than station rest) (first == station) all.0
    (others_all P station rest all.1)

reached : (is : Bool) (facts : Facts) (octets : List ℕ) → verdict_where is facts octets ≡ Good → is ≡ true
reached true facts octets good = refl
reached false facts octets good = absurd cc

packet_is : (setup : EndSetup) (facts : EndFacts)
    → packet_sent setup facts ≡ on_air facts.event.channel setup.link.fields.access setup.link.fields.crc_init
    (air_octets facts)
unfolding packet_sent
packet_is setup facts = refl

-- ---- a stop

module _ (laws : AreLaws) (understood : IsUnderstood) (taken : AreTaken) (apart : AreApart) (given : Given)
    (six : HaveAddresses given)
    (distinct : AreDistinct given.stations) (two : AreTwo given) (short : AreShortIn given) (history : List Event)
    (stop : Stop)
    (stops : run_of given ≡ Stops history stop) where
  stopped : IsStopped given (AreHearing given) history stop
  stopped =
      ends_stopped (run_of given) (IsWhole given (AreHearing given)) (IsStopped given (AreHearing given)) history stop
      (run_kept given (AreHearing given) (hearing_kept given six distinct)
      (record { stand = stands_first given; hears = λ station is. first_hears given station })) stops

  unseen : IsUnseenStop given history stop
  unseen = run_unseen given history stop stops

  at : history_of (run_of given) ≡ history ++ []
  at = ap history_of stops ∙ sym (append-nil history)

  abbrev phases : ℕ
  phases = stopped.phases

  abbrev place : Place
  place = AtPackets stopped.phases stopped.done (stop.sender ∷ stopped.left)

  sender_in : is_in stop.sender given.stations ≡ true
  sender_in = among given.stations stopped.done stopped.left stop.sender stopped.stations_are

  on_the_air : IsOnAir phases (facts_at given stop.sender history) stop.channel stop.sent
  on_the_air =
      is_on_air phases (facts_at given stop.sender history) stop.channel stop.sent (record {
        wants = use_sent_at given six place history stopped.kept.stand stop.sender sender_in stop.channel stop.sent
            stopped.is_wanted;
        phase = in_phase (setup_at given stop.sender) (past_of stop.sender history) phases (turns_begun history)
            (stopped.kept.stand stop.sender sender_in);
      })

  -- the hearing of the packet
  heard : IsHearingOf given unseen.plan.fates stop.channel stop.sent history unseen.hearing
  heard =
      hearing_of given unseen.plan.fates stop.channel stop.sent history unseen.hearing
      (others_than stop.sender given.stations) (fates_used history) unseen.is_one.0
      (others_all (λ station. is_in station given.stations ≡ true) stop.sender given.stations
      (all_in (λ station. is_in station given.stations ≡ true) given.stations (λ station is. is)))
      unseen.is_one.1 unseen.is_one.2

  abbrev fate : Fate
  fate = fate_at unseen.plan.fates heard.number

  abbrev listener : ℕ
  listener = heard.listener

  abbrev facts : Facts
  facts = facts_at given heard.listener history

  is_short : IsShort fate
  is_short = short_fate unseen.plan.fates heard.number
      (short_plan given.plans (turns_begun history - 1) unseen.plan short unseen.is_now)

  listener_is : unseen.hearing.listener ≡ listener
  listener_is = ap (λ (h : Hearing). h.listener) heard.is

  differs : (listener == stop.sender) ≡ false
  differs = false_from_ne_true (listener == stop.sender)
      (λ same. unseen.is_other (listener_is ∙ eqb-true listener stop.sender same))

  octets_are : stop.heard ≡ damaged_packet fate stop.sent
  octets_are = unseen.heard_is ∙ ap (λ (h : Hearing). damaged_packet h.fate stop.sent) heard.is

  good : verdict_of facts (damaged_packet fate stop.sent) ≡ Good
  good =
      ap (verdict_of facts) (sym octets_are)
      ∙ subst (λ n. verdict_of (facts_at given n history) stop.heard ≡ Good) listener_is unseen.is_good

  wanted : facts.wanted ≡ Listens stop.channel
  wanted =
      wanted_is given listener history
      ∙ listens_where fate stop.channel (use_at given listener history)
      (reached (reaches fate stop.channel (channel_listened (use_at given listener history))) facts
      (damaged_packet fate stop.sent)
      (sym (ap (λ (h : Hearing). h.verdict) heard.is) ∙ unseen.verdict_is))

  using : IsUsing (setup_at given listener) (Within phases) (turns_begun history) facts
  using =
      let setup = setup_at given listener in
      turned setup (IsUsing setup) (using_kept setup) (past_of listener history) _ (using_first setup)
      (stopped.kept.stand listener heard.is_one)

  hearing : IsHearing facts stop.channel (damaged_packet fate stop.sent)
  hearing =
      hears facts stop.channel (damaged_packet fate stop.sent) wanted
      (can_be_done (setup_at given listener) (past_of listener history) (six listener)) using.in_turn.listens
      using.scans good

  phase : IsInPhase phases facts.links facts.turn.doing
  phase = in_phase (setup_at given listener) (past_of listener history) phases (turns_begun history)
      (stopped.kept.stand listener heard.is_one)

  -- a packet that both take to be one of the same channel, access address and initial CRC
  unchanged : (channel access init : ℕ) (pdu : List ℕ) → init < 2 ^ 24 → stop.sent ≡ on_air channel access init pdu
      → IsHeardWhole channel access init (damaged_packet fate stop.sent) → ⊥
  unchanged channel access init pdu small sent_is whole =
      unseen.differs
      (octets_are ∙ never_whole laws channel access init pdu whole.pdu stop.sent fate small is_short.octets sent_is
      (is_short.changes stop.sent) whole.is)

  on_links : (air : IsLinkOnAir phases (facts_at given stop.sender history) stop.channel stop.sent) (handle : ℕ)
      (link : OpenLink)
      → link_listened facts.turn.doing ≡ Some handle → link_at handle facts.links ≡ Some link
      → (facts_in link).event.channel ≡ stop.channel
      → IsHeardWhole (facts_in link).event.channel link.setup.link.fields.access link.setup.link.fields.crc_init
      (damaged_packet fate stop.sent) → ⊥
  on_links air handle link listened is_open on_channel whole =
      let after = link_after (PacketSent air.slot) air.link in
      let end = link.setup in
      let far = air.link.setup in
      let has = has_connect_ind understood taken given history [] listener handle link distinct six at is_open in
      let too = has_connect_ind understood taken given history [] stop.sender air.handle after distinct six at
      air.is_open in
      let address = same_access end.link.fields.access far.link.fields.access
      (access_below understood taken apart given six distinct history [] at listener end has)
      (access_below understood taken apart given six distinct history [] at stop.sender far too)
      (sym whole.begins ∙ (is_short.changes stop.sent).access ∙ ap (take 4) air.packet
      ∙ sent_begins far (facts_in air.link)) in
      let fields = one_connect understood taken apart given six distinct history [] at two listener stop.sender
      heard.is_one sender_in differs end far has too phases
      (listens_as phases handle facts.links facts.turn.doing link phase listened is_open) air.role address in
      unchanged (facts_in link).event.channel end.link.fields.access end.link.fields.crc_init
      (air_octets (facts_in air.link))
      (init_below understood taken apart given six distinct history [] at listener end has)
      (air.packet ∙ packet_is far (facts_in air.link)
      ∙ (λ i. on_air ((sym air.channel_is ∙ sym on_channel) i) ((sym fields) i).access ((sym fields) i).crc_init
      (air_octets (facts_in air.link))))
      whole

  pub no_stop : ⊥
  no_stop = by on_the_air hearing
    where
      by : IsOnAir phases (facts_at given stop.sender history) stop.channel stop.sent
          → IsHearing facts stop.channel (damaged_packet fate stop.sent) → ⊥
      by (inl air) (OnAdvertising on whole) =
          unchanged stop.channel advertising_access advertising_crc_init (written air.pdu)
          (omega arith) air.packet whole
      by (inl air) (OnLink handle link listened is_open on_channel whole) =
          let below : stop.channel < 37 = subst (λ (n : ℕ). n < 37) on_channel (link_channel link) in
          let from = air.on_channel.0 in absurd (omega (arith, below, from))
      by (inr air) (OnAdvertising on whole) =
          let below : stop.channel < 37 = subst (λ (n : ℕ). n < 37) (sym air.channel_is) (link_channel air.link) in
          let from = on.0 in absurd (omega (arith, below, from))
      by (inr air) (OnLink handle link listened is_open on_channel whole) =
          on_links air handle link listened is_open on_channel whole
