-- What each open end says and hears by the journal, after a packet on the air.
use Rattle.std.proofs.Common.{◌≡◌, ℕ, zero, suc, ◌-◌, ◌<◌, ◌==◌, ◌&&◌, ◌⊎◌, inl, inr, Bool, true, false, Option, Some, None, List, [], ◌∷◌, ◌++◌, length, take, refl, sym, ap, subst, ◌∙◌, arith}
use Rattle.std.specs.Prelude.{if◌then◌else◌}
use Rattle.std.proofs.lemmas.Bool.{eqb-true, eq-eqb, false_from_ne_true}
use Rattle.ble_base.specs.Side.{other_side}
use Rattle.ble_base.specs.declared.roles.Role.{Role}
use Rattle.ble_base.specs.declared.roles.Role.TheVariants.{Central, Peripheral}
use Rattle.ble_base.specs.declared.verdicts.Verdict.{Verdict}
use Rattle.ble_base.specs.declared.verdicts.Verdict.TheVariants.{Broken, Forged, Good, Missed}
use Rattle.journal_acks.specs.controller_model.Facts.{Facts, Sends}
use Rattle.journal_acks.specs.controller_model.Packets.{verdict_of}
use Rattle.journal_acks.proofs.controller_model.DataChannels.{link_channel}
use Rattle.journal_acks.proofs.controller_model.Sent.{sends_well}
use Rattle.journal_acks.specs.journal_links.Begun.{links_begun}
use Rattle.journal_acks.specs.journal_links.Opened.{central_side}
use Rattle.journal_acks.specs.journal_packets.Belonging.{first_number}
use Rattle.journal_acks.specs.journal_packets.Senders.{IsOfSendersLink}
use Rattle.journal_acks.specs.link_model.Packets.{verdict_of as verdict_of_end}
use Rattle.journal_acks.specs.link_model.Step.{PacketSent}
use Rattle.journal_acks.specs.open_links.OpenLinks.{OpenLink, facts_in, link_after, link_at}
use Rattle.journal_acks.specs.run_model.History.{Event, Transmitted, Hearing, fates_used, handed_or, is_good, is_handed, packet_received, past_of, turns_begun}
use Rattle.journal_acks.specs.run_model.Journal.{journal_of, mark_of, side_of}
use Rattle.journal_acks.specs.run_model.LinkEnds.{HaveAddresses}
use Rattle.journal_acks.specs.run_model.Links.{is_advertising}
use Rattle.journal_acks.specs.run_model.Readers.{turns_of}
use Rattle.journal_acks.specs.run_model.Run.{Given, facts_at, fate_at, hearings_of, setup_at, unseen_in, use_at}
use Rattle.radio_replay.specs.Damage.{damaged_packet}
use Rattle.radio_replay.specs.declared.fates.Fate.{Fate}
use Rattle.journal_acks.proofs.journal_packets.AccessOrder.{AreNth}
use Rattle.journal_acks.proofs.journal_packets.SoFar.{IsBelongingSoFar, sends_on_its_link}
use Rattle.journal_acks.proofs.run_laws.ByCalls.{last_turn}
use Rattle.journal_acks.proofs.run_laws.DistinctAccess.{AreApart}
use Rattle.journal_acks.proofs.run_laws.OwnLinks.{sent_begins}
use Rattle.journal_acks.proofs.run_laws.TurnPlaces.{AllStand, Within, at_stage}
use Rattle.journal_acks.proofs.run_model.Fates.{turns_are}
use Rattle.journal_acks.proofs.run_model.LinkEnds.{received_event, received_own, wanted_is}
use Rattle.journal_acks.proofs.run_model.Stations.{is_in, among}
use Rattle.journal_acks.proofs.run_model.Walk.{AtPackets, Place}
use Rattle.journal_acks.proofs.Counting.{facts_event}
use Rattle.journal_acks.proofs.Exchanging.{number_at, number_sent}
use Rattle.journal_acks.proofs.HeardLines.{far_side, own_side}
use Rattle.journal_acks.specs.link_calls.Uses.{listens_under}
use Rattle.journal_acks.proofs.Standing.{AreOne, PhasedBy, listener_role, one_listened, other_listens, phased_at, sender_role, sends_on}
use Rattle.journal_acks.proofs.TwoStations.{IsHearing, IsOfTwo, IsReached, handed_begins, hearing_of, link_hears, one_hearing, other_is, other_of, reached, same_number, side_other, unchanged}
use Rattle.journal_ends.specs.Asked.{Words}
use Rattle.journal_ends.specs.Seen.{Seen, heard_as, heard_link, heard_where}
use Rattle.journal_ends.proofs.EndsKnown.{fits_at, own_numbers}
use Rattle.journal_ends.proofs.SeenCalls.{AreSeenSo, IsSeenAt, from_whole, moved, seen_in_link, to_hear, whole}
use Rattle.journal_ends.proofs.ForgedLinks.{left_is, packet_central}
use Rattle.journal_ends.proofs.SeenEvents.{heard_at_air, heard_of_link, is_heard_of, link_heard, packet_seen, packet_unseen, seen_at, unheard_advertised, unheard_apart, unheard_bad, unheard_own}

-- the central sends in the first phase of an exchange, and the peripheral in the second
central_of_both : (phases station : ℕ) (one other : Role) → ((phases ≡ 0) × (one ≡ Central)) ⊎ ((phases ≡ 1) × (one ≡ Peripheral))
    → ((phases ≡ 0) × (other ≡ Peripheral)) ⊎ ((phases ≡ 1) × (other ≡ Central)) → central_side one (side_of station) ≡ central_side other (side_of (other_of station))
central_of_both phases station one other (inl sends) (inl listens) =
    ap (λ r. central_side r (side_of station)) sends.1 ∙ sym (there_and_back station) ∙ ap (λ r. central_side r (side_of (other_of station))) (sym listens.1)
  where
    there_and_back : (n : ℕ) → other_side (side_of (other_of n)) ≡ side_of n
    there_and_back zero = refl
    there_and_back (suc n) = refl
central_of_both phases station one other (inr sends) (inr listens) =
    ap (λ r. central_side r (side_of station)) sends.1 ∙ sym (side_other station) ∙ ap (λ r. central_side r (side_of (other_of station))) (sym listens.1)
central_of_both phases station one other (inl sends) (inr listens) = absurd (let a = sends.0 in let b = listens.0 in omega (arith, a, b))
central_of_both phases station one other (inr sends) (inl listens) = absurd (let a = sends.0 in let b = listens.0 in omega (arith, a, b))

deaf : (received : Option (List ℕ)) (listens : Bool) → listens ≡ false → listens ≡ true → received ≡ None
deaf received listens none on = absurd (let h : true ≡ false = sym on ∙ none in absurd cc)

module _ (words : Words) (nth : AreNth) (apart : AreApart) (given : Given) (are_two : IsOfTwo given) (six : HaveAddresses given) (phases : ℕ) (done left : List ℕ) (station channel : ℕ)
    (octets : List ℕ) (fates : List Fate) (history : List Event) (are : given.stations ≡ done ++ station ∷ left) (wanted : use_at given station history ≡ Sends channel octets)
    (known : IsBelongingSoFar given (AtPackets phases done (station ∷ left)) history) (stand : AllStand given (AtPackets phases done (station ∷ left)) history)
    (seen : AreSeenSo words given history (λ one. packet_received one history)) where
  abbrev facts : ℕ → Facts
  facts one = facts_at given one history

  abbrev here : Place
  here = AtPackets phases done (station ∷ left)

  abbrev hearing : Hearing
  hearing = hearing_of given fates station channel octets history

  abbrev hearings : List Hearing
  hearings = hearings_of given fates station channel octets history

  abbrev after : List Event
  after = history ++ Transmitted station channel octets hearings ∷ []

  abbrev other : ℕ
  other = other_of station

  in_it : is_in station given.stations ≡ true
  in_it = among given.stations done left station are

  has_one : hearings ≡ hearing ∷ []
  has_one = one_hearing given are_two fates station channel octets history in_it

  phased : (one : ℕ) → is_in one given.stations ≡ true → PhasedBy given history one (at_stage (Within phases) (turns_begun history))
  phased one is = phased_at given here history stand one is

  same_facts : (one : ℕ) → facts_at given one after ≡ facts one
  same_facts one = facts_event given one history (Transmitted station channel octets hearings) refl

  -- ---- the station that sends it hears nothing of it

  own_aired : (handle : ℕ) (link : OpenLink) → link_at handle (facts station).links ≡ Some link
      → IsSeenAt words (packet_received station after) handle (facts_at given station after).turn link (number_at station handle after) (side_of station) after
  own_aired handle link is_open =
      let side = side_of station in
      let number = number_at station handle history in
      moved words handle link side after (packet_received station history) (packet_received station after) (facts station).turn (facts_at given station after).turn
      number (number_at station handle after)
      (received_own given fates station channel octets history)
      (ap (λ (f : Facts). f.turn) (same_facts station)) (number_sent station handle history station channel octets hearings)
      (packet_unseen words number side station channel octets history hearings hearing has_one
      (unheard_own number side history station channel octets hearing (own_side station))
      ∙ seen station handle link in_it is_open)

  -- ---- the other one, with the packet that it received

  -- what the radio left of it, where it is handed on
  abbrev left_of : List ℕ
  left_of = damaged_packet hearing.fate octets

  abbrev IsSeenThen : Bool → ℕ → OpenLink → Type 0
  IsSeenThen handed handle link =
      IsSeenAt words (if handed then Some left_of else packet_received other history) handle (facts other).turn link (number_at other handle history) (side_of other) after

  pub handed_is : packet_received other after ≡ (if is_handed hearing.verdict then Some left_of else packet_received other history)
  handed_is =
      received_event other history (Transmitted station channel octets hearings)
      ∙ ap (handed_or (packet_received other history) other octets) has_one
      ∙ ap (λ b. if b && is_handed hearing.verdict then Some left_of else packet_received other history) (same_number other)

  module _ (is_too : is_in other given.stations ≡ true) where
    abbrev heard_then : ℕ → List Seen
    heard_then handle = heard_at_air (number_at other handle history) (side_of other) history station channel octets hearing

    same_then : (handle : ℕ) → heard_then handle ≡ []
        → seen_at words (number_at other handle history) (side_of other) after ≡ seen_at words (number_at other handle history) (side_of other) history
    same_then handle none = packet_unseen words (number_at other handle history) (side_of other) station channel octets history hearings hearing has_one none

    unseen_then : (handle : ℕ) (link : OpenLink) → link_at handle (facts other).links ≡ Some link → heard_then handle ≡ [] → IsSeenThen false handle link
    unseen_then handle link is_open none = same_then handle none ∙ seen other handle link is_too is_open

    -- it does not listen on the link
    deaf_then : (handle : ℕ) (link : OpenLink) → link_at handle (facts other).links ≡ Some link → listens_under handle (facts other).turn.doing ≡ false → heard_then handle ≡ []
        → IsSeenThen true handle link
    deaf_then handle link is_open off none =
        let turn = (facts other).turn in
        let number = number_at other handle history in
        let listens = listens_under handle turn.doing in
        from_whole words (Some left_of) handle turn link number (side_of other) after (deaf (Some left_of) listens off)
        (same_then handle none
        ∙ whole words (packet_received other history) handle turn link number (side_of other) history (deaf (packet_received other history) listens off) (seen other handle link is_too is_open))

    reached_it : is_handed hearing.verdict ≡ true → IsReached (use_at given other history) channel (facts other) left_of hearing.verdict
    reached_it handed = reached (use_at given other history) (fate_at fates (fates_used history)) channel (facts other) left_of handed

    advertised : is_advertising channel ≡ true → (handed : Bool) → is_handed hearing.verdict ≡ handed → (handle : ℕ) (link : OpenLink)
        → link_at handle (facts other).links ≡ Some link → IsSeenThen handed handle link
    advertised on true got handle link is_open =
        deaf_then handle link is_open
        (other_listens (facts other) handle channel link (phased other is_too).uses.in_turn.listens is_open
        (wanted_is given other history ∙ (reached_it got).listens) on)
        (unheard_advertised (number_at other handle history) (side_of other) history station channel octets hearing on)
    advertised on false got handle link is_open =
        unseen_then handle link is_open (unheard_advertised (number_at other handle history) (side_of other) history station channel octets hearing on)

    -- an end of the other side that hears it
    pub record HearsThere : Type 0 where
      pub handle : ℕ
      pub link : OpenLink
      pub is_open : link_at handle (facts other).links ≡ Some link
      pub on : listens_under handle (facts other).turn.doing ≡ true
      pub belongs : link_heard history station octets hearing ≡ Some (number_at other handle history)
      pub verdict_is : hearing.verdict ≡ verdict_of_end link.setup (facts_in link) left_of

    module _ (off : is_advertising channel ≡ false) (unseen : unseen_in octets hearings ≡ None) where
      sent : IsOfSendersLink given history station channel octets
      sent = sends_on_its_link nth apart given are_two six phases done left station history are known channel octets wanted off

      abbrev link_sent : OpenLink
      link_sent = link_after (PacketSent sent.slot) sent.link

      abbrev own : ℕ
      own = number_at station sent.handle history

      pub same_left : is_good hearing.verdict ≡ true → left_of ≡ octets
      same_left good = unchanged octets hearing (ap (unseen_in octets) (sym has_one) ∙ unseen) good

      -- the octets of a forged packet are not seen
      heard_left : (slot : ℕ) (verdict : Verdict) → hearing.verdict ≡ verdict → heard_as verdict slot octets ≡ heard_as verdict slot left_of
      heard_left slot Good is = ap (heard_as Good slot) (sym (same_left (ap is_good is)))
      heard_left slot Forged is = refl
      heard_left slot Missed is = refl
      heard_left slot Broken is = refl

      -- what was sent is of the first link of its central that has this access address
      fits_sent : first_number (central_side link_sent.setup.link.role (side_of station)) octets 1 (links_begun (journal_of history)) ≡ Some own
      fits_sent =
          fits_at given are_two here history known nth apart station sent.handle link_sent octets in_it sent.is_open
          (ap (take 4) sent.packet ∙ sent_begins sent.link.setup (facts_in sent.link))

      module _ (handed : is_handed hearing.verdict ≡ true) where
        listening : IsHearing (facts other) channel left_of (verdict_of (facts other) left_of)
        listening =
            link_hears (facts other) channel left_of (subst (λ n. n < 37) (sym sent.channel_is) (link_channel sent.link))
            (sends_well (setup_at given other) (six other) (past_of other history)).does (phased other is_too).uses.in_turn.listens (phased other is_too).uses.scans
            (wanted_is given other history ∙ (reached_it handed).listens) (ap is_handed (sym (reached_it handed).verdict_is) ∙ handed)

        module _ (handle : ℕ) (link : OpenLink) (is_open : link_at handle (facts other).links ≡ Some link) (listens : listens_under handle (facts other).turn.doing ≡ true) where
          the_one : AreOne handle listening.handle link listening.link
          the_one = one_listened (facts other).links (facts other).turn.doing handle listening.handle link listening.link listens listening.on is_open listening.is_open

          verdict_there : hearing.verdict ≡ verdict_of_end link.setup (facts_in link) left_of
          verdict_there =
              (reached_it handed).verdict_is ∙ listening.verdict_is
              ∙ ap (λ (l : OpenLink). verdict_of_end l.setup (facts_in l) left_of) (sym the_one.links)

          centrals : central_side link_sent.setup.link.role (side_of station) ≡ central_side link.setup.link.role (side_of other)
          centrals =
              central_of_both phases station link_sent.setup.link.role link.setup.link.role
              (sender_role phases (facts station).links (facts station).turn.doing sent.handle link_sent (phased station in_it).phase
              (sends_on sent.handle (facts station).turn.doing sent.sends) sent.is_open)
              (listener_role phases (facts other).links (facts other).turn.doing handle link (phased other is_too).phase listens is_open)

          -- what the radio left begins with the access address of this link, so it is of this link
          fits_left : first_number (central_side link_sent.setup.link.role (side_of station)) left_of 1 (links_begun (journal_of history))
              ≡ Some (number_at other handle history)
          fits_left =
              ap (λ s. first_number s left_of 1 (links_begun (journal_of history))) centrals
              ∙ fits_at given are_two here history known nth apart other handle link left_of is_too is_open
              (handed_begins link.setup (facts_in link) left_of (ap is_handed (sym verdict_there) ∙ handed))

          heard_there : (verdict : Verdict) → hearing.verdict ≡ verdict → is_handed verdict ≡ true
              → heard_link (journal_of history) (side_of station) octets (mark_of hearing.fate) verdict ≡ Some (number_at other handle history)
          heard_there Good is some =
              sent.belongs ∙ sym fits_sent
              ∙ ap (λ xs. first_number (central_side link_sent.setup.link.role (side_of station)) xs 1 (links_begun (journal_of history))) (sym (same_left (ap is_good is)))
              ∙ fits_left
          heard_there Forged is some =
              (λ i. first_number (packet_central (journal_of history) (side_of station) octets own (central_side link_sent.setup.link.role (side_of station)) sent.belongs fits_sent i)
              (left_is hearing.fate octets i) 1 (links_begun (journal_of history)))
              ∙ fits_left
          heard_there Missed is some = absurd cc
          heard_there Broken is some = absurd cc

          belongs_there : link_heard history station octets hearing ≡ Some (number_at other handle history)
          belongs_there = heard_there hearing.verdict refl handed

          taken_then : packet_received other history ≡ None → IsSeenThen true handle link
          taken_then silent =
              let number = number_at other handle history in
              let turn = (facts other).turn in
              let slot : length (turns_of (journal_of history)) - 1 ≡ turn.slot =
              last_turn (length (turns_of (journal_of history))) turn.slot (turns_are history ∙ sym (phased other is_too).uses.in_turn.slot_is) in
              let heard : is_heard_of number (side_of other) history station channel octets hearing ≡ true =
              heard_of_link number number (side_of other) history station channel octets hearing off belongs_there
              ∙ (λ i. eq-eqb number number refl i && far_side station i) in
              packet_seen words number (side_of other) station channel octets history hearings hearing has_one
              ∙ (λ i. whole words (packet_received other history) handle turn link number (side_of other) history (λ on. silent) (seen other handle link is_too is_open) i
              ++ heard_where (heard i) hearing.verdict (slot i) octets)
              ∙ ap (λ xs. seen_in_link number (side_of other) link ++ xs) (heard_left turn.slot hearing.verdict refl ∙ ap (λ v. heard_as v turn.slot left_of) verdict_there)
              ∙ ap (λ b. seen_in_link number (side_of other) link ++ to_hear b (Some left_of) turn.slot link) (sym listens)

        pub hears_there : HearsThere
        hears_there = record {
          handle = listening.handle;
          link = listening.link;
          is_open = listening.is_open;
          on = listening.on;
          belongs = belongs_there listening.handle listening.link listening.is_open listening.on;
          verdict_is = verdict_there listening.handle listening.link listening.is_open listening.on;
        }

        other_then : (handle : ℕ) (link : OpenLink) → link_at handle (facts other).links ≡ Some link → listens_under handle (facts other).turn.doing ≡ false → IsSeenThen true handle link
        other_then handle link is_open none =
            let number = number_at other handle history in
            let unlike : (listening.handle == handle) ≡ false = false_from_ne_true (listening.handle == handle) (λ same.
            let h : true ≡ false = sym listening.on ∙ ap (λ n. listens_under n (facts other).turn.doing) (eqb-true listening.handle handle same) ∙ none in absurd cc) in
            deaf_then handle link is_open none
            (unheard_apart number (number_at other listening.handle history) (side_of other) history station channel octets hearing off
            (belongs_there listening.handle listening.link listening.is_open listening.on)
            (own_numbers given are_two here history known other listening.handle handle listening.link link is_too listening.is_open is_open unlike))

        handed_then : packet_received other history ≡ None → (handle : ℕ) (link : OpenLink) → link_at handle (facts other).links ≡ Some link
            → (listens : Bool) → listens_under handle (facts other).turn.doing ≡ listens → IsSeenThen true handle link
        handed_then silent handle link is_open true on = taken_then handle link is_open on silent
        handed_then silent handle link is_open false none = other_then handle link is_open none

      sent_then : packet_received other history ≡ None → (handed : Bool) → is_handed hearing.verdict ≡ handed → (handle : ℕ) (link : OpenLink)
          → link_at handle (facts other).links ≡ Some link → IsSeenThen handed handle link
      sent_then silent true handed handle link is_open = handed_then handed silent handle link is_open (listens_under handle (facts other).turn.doing) refl
      sent_then silent false bad handle link is_open =
          unseen_then handle link is_open (unheard_bad (number_at other handle history) (side_of other) history station channel octets hearing bad)

    other_aired : (on : Bool) → is_advertising channel ≡ on → unseen_in octets hearings ≡ None → packet_received other history ≡ None → (handle : ℕ) (link : OpenLink)
        → link_at handle (facts other).links ≡ Some link → IsSeenThen (is_handed hearing.verdict) handle link
    other_aired true on unseen silent handle link is_open = advertised on (is_handed hearing.verdict) refl handle link is_open
    other_aired false off unseen silent handle link is_open =
        sent_then off unseen silent (is_handed hearing.verdict) refl handle link is_open

  pub packet_aired : unseen_in octets hearings ≡ None → ((one : ℕ) → is_in one given.stations ≡ true → (one == station) ≡ false → packet_received one history ≡ None)
      → AreSeenSo words given after (λ one. packet_received one after)
  packet_aired unseen silent = λ one handle link in_one is_open. by one in_one (one == station) refl handle link (ap (λ (f : Facts). link_at handle f.links) (sym (same_facts one)) ∙ is_open)
    where
      by : (one : ℕ) → is_in one given.stations ≡ true → (same : Bool) → (one == station) ≡ same → (handle : ℕ) (link : OpenLink) → link_at handle (facts_at given one history).links ≡ Some link
          → IsSeenAt words (packet_received one (history ++ Transmitted station channel octets (hearings_of given fates station channel octets history) ∷ [])) handle
          (facts_at given one (history ++ Transmitted station channel octets (hearings_of given fates station channel octets history) ∷ [])).turn link
          (number_at one handle (history ++ Transmitted station channel octets (hearings_of given fates station channel octets history) ∷ [])) (side_of one)
          (history ++ Transmitted station channel octets (hearings_of given fates station channel octets history) ∷ [])
      by one in_one true same handle link is_open =
          let equal = eqb-true one station same in
          subst (λ n. IsSeenAt words (packet_received n after) handle (facts_at given n after).turn link (number_at n handle after) (side_of n) after) (sym equal)
          (own_aired handle link (subst (λ n. link_at handle (facts_at given n history).links ≡ Some link) equal is_open))
      by one in_one false differs handle link is_open =
          let equal = other_is given are_two station one in_it in_one differs in
          let is_too = subst (λ n. is_in n given.stations ≡ true) equal in_one in
          subst (λ n. IsSeenAt words (packet_received n after) handle (facts_at given n after).turn link (number_at n handle after) (side_of n) after) (sym equal)
          (moved words handle link (side_of other) after (if is_handed hearing.verdict then Some left_of else packet_received other history) (packet_received other after)
          (facts other).turn (facts_at given other after).turn (number_at other handle history) (number_at other handle after)
          handed_is (ap (λ (f : Facts). f.turn) (same_facts other))
          (number_sent other handle history station channel octets hearings)
          (other_aired is_too (is_advertising channel) refl unseen (silent other is_too (subst (λ n. (n == station) ≡ false) equal differs)) handle link
          (subst (λ n. link_at handle (facts_at given n history).links ≡ Some link) equal is_open)))
