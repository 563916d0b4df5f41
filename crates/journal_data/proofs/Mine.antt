-- A station takes a packet on a link only where the other station has the other end of that link open.
use Rattle.std.proofs.Common.{◌≡◌, ℕ, ◌==◌, ◌⊎◌, inl, inr, Bool, true, false, not, Some, None, List, [], ◌∷◌, ◌++◌, refl, sym, ap, subst, ◌∙◌}
use Rattle.std.proofs.lemmas.Bool.{eqb-true}
use Rattle.journal_acks.proofs.link_model.Hearing.{IsHeardWhole}
use Rattle.journal_acks.specs.open_links.OpenLinks.{OpenLink, link_at}
use Rattle.journal_acks.specs.controller_model.Facts.{Facts, Sends}
use Rattle.journal_acks.specs.controller_model.Packets.{verdict_of}
use Rattle.radio_replay.specs.Damage.{damaged_packet}
use Rattle.radio_replay.specs.declared.fates.Fate.{Fate}
use Rattle.journal_acks.specs.run_model.Feeding.{AreDistinct}
use Rattle.journal_acks.specs.run_model.History.{Event, Hearing, Transmitted, has_received, is_good, packet_received}
use Rattle.journal_acks.specs.run_model.LinkEnds.{HaveAddresses}
use Rattle.journal_acks.specs.run_model.Run.{Given, facts_at, hearings_of, unseen_in, use_at}
use Rattle.journal_acks.proofs.run_model.Handing.{IsUnforged}
use Rattle.journal_acks.proofs.run_model.LinkEnds.{received_own}
use Rattle.journal_acks.proofs.run_model.Stations.{is_in, among}
use Rattle.journal_acks.proofs.run_model.Walk.{Place, AtPackets}
use Rattle.journal_acks.proofs.run_laws.ByCalls.{Holds}
use Rattle.journal_acks.proofs.run_laws.InAgreement.{AreStations}
use Rattle.journal_acks.proofs.run_model.Journals.{two}
use Rattle.journal_acks.proofs.AirCounts.{packet_far}
use Rattle.journal_acks.proofs.Counting.{AreCountedSo, AreKnown, facts_event}
use Rattle.journal_acks.proofs.Exchanging.{number_at, number_sent}
use Rattle.journal_acks.proofs.HandedOn.{IsHandedOn, WasForged, WasGood, WasNone, handed_on, heard_it}
use Rattle.journal_acks.specs.link_calls.Uses.{listens_under}
use Rattle.journal_acks.proofs.TwoStations.{IsOfTwo, hearing_of, other_is, other_of}

-- the other station has an open end of the link of a station under a handle
pub record HasFarEnd (given : Given) (station : ℕ) (history : List Event) (handle : ℕ) : Type 0 where
  pub far_handle : ℕ
  pub far : OpenLink
  pub is_open : link_at far_handle (facts_at given (other_of station) history).links ≡ Some far
  pub same : number_at (other_of station) far_handle history ≡ number_at station handle history

-- a station that is to take a packet on that link, which is not forged to it
pub record IsTaking (given : Given) (station : ℕ) (history : List Event) (handle : ℕ) : Type 0 where
  pub octets : List ℕ
  pub received : packet_received station history ≡ Some octets
  pub link : OpenLink
  pub is_open : link_at handle (facts_at given station history).links ≡ Some link
  pub listens : listens_under handle (facts_at given station history).turn.doing ≡ true
  pub unforged : IsUnforged (facts_at given station history) octets

abbrev pub AreMine : Given → List Event → Type 0
AreMine given history = (station : ℕ) → is_in station given.stations ≡ true → (handle : ℕ) → IsTaking given station history handle → HasFarEnd given station history handle

-- where nothing was received, nothing is to be taken
pub none_mine : (given : Given) (station : ℕ) (history : List Event) (handle : ℕ) → packet_received station history ≡ None → IsTaking given station history handle
    → HasFarEnd given station history handle
none_mine given station history handle none taking = absurd (let h : None ≡ Some taking.octets = sym none ∙ taking.received in absurd cc)

-- the other one of the other one is the station
pub other_back : (given : Given) → IsOfTwo given → (station : ℕ) → is_in station given.stations ≡ true → other_of (other_of station) ≡ station
other_back given are_two station is = by (two station (ap (is_in station) (sym are_two) ∙ is))
  where
    by : (station ≡ 0) ⊎ (station ≡ 1) → other_of (other_of station) ≡ station
    by (inl zero_is) = ap (λ n. other_of (other_of n)) zero_is ∙ sym zero_is
    by (inr one_is) = ap (λ n. other_of (other_of n)) one_is ∙ sym one_is

-- ---- a packet is on the air

module _ (whole : IsHeardWhole) (given : Given) (Q : Place → List Event → Type 0) (known : AreKnown given Q) (are_two : IsOfTwo given) (six : HaveAddresses given)
    (distinct : AreDistinct given.stations) (phases : ℕ) (done left : List ℕ) (station channel : ℕ) (octets : List ℕ) (fates : List Fate) (history : List Event)
    (are : given.stations ≡ done ++ station ∷ left) (wanted : use_at given station history ≡ Sends channel octets)
    (q : Q (AtPackets phases done (station ∷ left)) history) (holds : Holds given (AreStations given) (AtPackets phases done (station ∷ left)) history)
    (counted : AreCountedSo given history (λ one. not (is_in one done)) (λ one. packet_received one history))
    (seen : unseen_in octets (hearings_of given fates station channel octets history) ≡ None)
    (silent : (one : ℕ) → is_in one given.stations ≡ true → (one == station) ≡ false → packet_received one history ≡ None) where
  abbrev hearings : List Hearing
  hearings = hearings_of given fates station channel octets history

  abbrev hearing : Hearing
  hearing = hearing_of given fates station channel octets history

  abbrev event : Event
  event = Transmitted station channel octets hearings

  abbrev next : List Event
  next = history ++ event ∷ []

  abbrev other : ℕ
  other = other_of station

  facts_same : (one : ℕ) → facts_at given one next ≡ facts_at given one history
  facts_same one = facts_event given one history event refl

  number_same : (one handle : ℕ) → number_at one handle next ≡ number_at one handle history
  number_same one handle = number_sent one handle history station channel octets hearings

  is : is_in station given.stations ≡ true
  is = among given.stations done left station are

  -- before the packet it had the same to take
  taking_before : (one handle : ℕ) → IsTaking given one next handle → packet_received one next ≡ packet_received one history → IsTaking given one history handle
  taking_before one handle taking same = record {
    octets = taking.octets;
    received = sym same ∙ taking.received;
    link = taking.link;
    is_open = ap (λ (f : Facts). link_at handle f.links) (sym (facts_same one)) ∙ taking.is_open;
    listens = ap (λ (f : Facts). listens_under handle f.turn.doing) (sym (facts_same one)) ∙ taking.listens;
    unforged = λ forged. taking.unforged (ap (λ (f : Facts). verdict_of f taking.octets) (facts_same one) ∙ forged);
  }

  far_after : (one handle : ℕ) → HasFarEnd given one history handle → HasFarEnd given one next handle
  far_after one handle has = record {
    far_handle = has.far_handle;
    far = has.far;
    is_open = ap (λ (f : Facts). link_at has.far_handle f.links) (facts_same (other_of one)) ∙ has.is_open;
    same = number_same (other_of one) has.far_handle ∙ has.same ∙ sym (number_same one handle);
  }

  own_same : packet_received station next ≡ packet_received station history
  own_same = received_own given fates station channel octets history

  station_back : other_of other ≡ station
  station_back = other_back given are_two station is

  -- the listener, which receives it
  received_far : is_in other given.stations ≡ true → (other == station) ≡ false → has_received other hearings ≡ true → (handle : ℕ)
      → IsTaking given other next handle → HasFarEnd given other next handle
  received_far is_too differs got handle taking =
      let here : link_at handle (facts_at given other history).links ≡ Some taking.link = ap (λ (f : Facts). link_at handle f.links) (sym (facts_same other)) ∙ taking.is_open in
      let listens : listens_under handle (facts_at given other history).turn.doing ≡ true = ap (λ (f : Facts). listens_under handle f.turn.doing) (sym (facts_same other)) ∙ taking.listens in
      let far = packet_far whole given Q known are_two six distinct phases done left station channel octets fates history are wanted q holds counted
      is_too differs seen silent got handle taking.link here listens in
      record {
        far_handle = far.far_handle;
        far = far.far;
        is_open = ap (λ n. link_at far.far_handle (facts_at given n next).links) station_back
            ∙ ap (λ (f : Facts). link_at far.far_handle f.links) (facts_same station) ∙ far.is_open;
        same = ap (λ n. number_at n far.far_handle next) station_back ∙ number_same station far.far_handle ∙ far.same ∙ sym (number_same other handle);
      }

  heard_far : (handle : ℕ) → is_in other given.stations ≡ true → (other == station) ≡ false → AreMine given history
      → IsTaking given other next handle → HasFarEnd given other next handle
  heard_far handle is_too differs mine taking = by (handed_on given are_two fates station channel octets history is seen)
    where
      by : IsHandedOn octets (damaged_packet hearing.fate octets) hearing.verdict (packet_received other history) (packet_received other next)
          (facts_at given other history) (use_at given other history) channel → HasFarEnd given other next handle
      by (WasGood judged handed) =
          received_far is_too differs (heard_it given are_two fates station channel octets history is ∙ ap is_good judged) handle taking
      by (WasForged judged handed forged listens) =
          let octets_are : damaged_packet hearing.fate octets ≡ taking.octets =
          (let same : Some (damaged_packet hearing.fate octets) ≡ Some taking.octets = sym handed ∙ taking.received in cc) in
          absurd (taking.unforged (ap (λ (f : Facts). verdict_of f taking.octets) (facts_same other)
          ∙ ap (verdict_of (facts_at given other history)) (sym octets_are) ∙ forged))
      by (WasNone bad handed) = far_after other handle (mine other is_too handle (taking_before other handle taking handed))

  by_station : (one handle : ℕ) → is_in one given.stations ≡ true → (same : Bool) → (one == station) ≡ same → AreMine given history → IsTaking given one next handle
      → HasFarEnd given one next handle
  by_station one handle in_it true same mine taking =
      let equal = eqb-true one station same in
      subst (λ n. HasFarEnd given n next handle) (sym equal)
      (far_after station handle (mine station is handle (taking_before station handle (subst (λ n. IsTaking given n next handle) equal taking) own_same)))
  by_station one handle in_it false differs mine taking =
      let equal = other_is given are_two station one is in_it differs in
      subst (λ n. HasFarEnd given n next handle) (sym equal)
      (heard_far handle (subst (λ n. is_in n given.stations ≡ true) equal in_it) (subst (λ n. (n == station) ≡ false) equal differs) mine
      (subst (λ n. IsTaking given n next handle) equal taking))

  pub packet_mine : AreMine given history → AreMine given next
  packet_mine mine = λ one in_it handle taking. by_station one handle in_it (one == station) refl mine taking
