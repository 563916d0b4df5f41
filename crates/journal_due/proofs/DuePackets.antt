-- What is due to each side after a packet on the air.
use Rattle.std.proofs.Common.{◌≡◌, ℕ, zero, suc, ◌==◌, ◌&&◌, Bool, true, false, Option, Some, None, List, [], ◌∷◌, ◌++◌, refl, sym, ap, subst, ◌∙◌, append-nil}
use Rattle.std.specs.Prelude.{if◌then◌else◌}
use Rattle.std.proofs.lemmas.Bool.{and_right, eqb-true}
use Rattle.ble_base.specs.Side.{other_side}
use Rattle.ble_base.specs.declared.roles.Side.{Side}
use Rattle.ble_base.specs.declared.verdicts.Verdict.{Verdict}
use Rattle.ble_base.specs.declared.verdicts.Verdict.TheVariants.{Broken, Forged, Good, Missed}
use Rattle.journal_controls.specs.controller_model.Facts.{Facts, Sends}
use Rattle.journal_controls.specs.journal_ends.Asked.{Words}
use Rattle.journal_controls.specs.open_links.OpenLinks.{OpenLink, facts_in, link_at}
use Rattle.data_pdu.specs.Header.{header_in}
use Rattle.journal.specs.declared.entries.Entry.{Entry}
use Rattle.journal.specs.declared.entries.Entry.TheVariants.{Air}
use Rattle.radio_replay.specs.Damage.{damaged_packet}
use Rattle.radio_replay.specs.declared.fates.Fate.{Fate}
use Rattle.journal_controls.specs.LineSteps.{is_more_acked, keyed_on, turn_now}
use Rattle.journal_controls.specs.LinesDue.{due_hearing, lines_due}
use Rattle.journal_controls.specs.journal_acks.Carried.{carried_of}
use Rattle.journal_controls.specs.journal_acks.Exchange.{exchange_of}
use Rattle.journal_controls.specs.link_model.Data.{is_control}
use Rattle.journal_controls.specs.journal_acks.link_calls.Uses.{listens_under}
use Rattle.journal_controls.specs.journal_ends.Seen.{heard_as, heard_where, is_heard_on, seen_in_line}
use Rattle.journal_controls.specs.journal_packets.Belonging.{is_side}
use Rattle.journal_controls.specs.link_model.Facts.{keyed_of}
use Rattle.journal_controls.specs.link_model.Packets.{verdict_of as verdict_of_end}
use Rattle.journal_controls.specs.link_model.Receiving.{acks_control, has_acknowledged}
use Rattle.journal_controls.specs.run_model.History.{Event, Hearing, Transmitted, fates_used, is_good, is_handed, packet_received, turns_begun}
use Rattle.journal_controls.specs.run_model.Journal.{air_entries, entries_of, journal_of, mark_of, side_of}
use Rattle.journal_controls.specs.run_model.LinkEnds.{HaveAddresses}
use Rattle.journal_controls.specs.run_model.Links.{is_advertising, links_of}
use Rattle.journal_controls.specs.run_model.Run.{Given, facts_at, fate_at, hearings_of, unseen_in, use_at}
use Rattle.journal_controls.proofs.journal_acks.Counting.{facts_event, moved as count_moved, plain}
use Rattle.journal_controls.proofs.journal_acks.Exchanging.{exchange_at, number_at, number_sent}
use Rattle.journal_controls.proofs.journal_acks.HeardLines.{far_side, own_side}
use Rattle.journal_controls.proofs.journal_acks.KeptCounts.{unsent}
use Rattle.journal_controls.proofs.journal_acks.KeptLines.{AreLinedAt}
use Rattle.journal_controls.proofs.journal_acks.SentLines.{sent_line_at}
use Rattle.journal_controls.proofs.journal_acks.Standing.{PhasedBy, listener_sends, other_listens, phased_at}
use Rattle.journal_controls.proofs.journal_acks.TwoStations.{IsOfTwo, hearing_of, one_hearing, other_of, reached, same_number}
use Rattle.journal_controls.proofs.journal_ends.KeptSeen.{AreSeenAt}
use Rattle.journal_controls.proofs.journal_ends.SeenEvents.{heard_at_air, heard_of_link, is_heard_of, link_heard, unheard_advertised, unheard_apart, unheard_bad}
use Rattle.journal_controls.proofs.journal_ends.SeenPackets.{handed_is, hears_there, same_left}
use Rattle.journal_controls.proofs.journal_packets.AccessOrder.{AreNth}
use Rattle.journal_controls.proofs.journal_packets.SoFar.{IsBelongingSoFar}
use Rattle.journal_controls.proofs.journal_acks.run_laws.DistinctAccess.{AreApart}
use Rattle.journal_controls.proofs.journal_acks.run_laws.TurnPlaces.{Within, at_stage}
use Rattle.journal_controls.proofs.run_model.LinkEnds.{wanted_is}
use Rattle.journal_controls.proofs.run_model.Parts.{journal_event}
use Rattle.journal_controls.proofs.run_model.Stations.{among, is_in}
use Rattle.journal_controls.proofs.run_model.Walk.{AtPackets, Place}
use Rattle.journal_due.specs.EachLine.{IsDueOn}
use Rattle.journal_due.specs.ProcedureLines.{RestsAt}
use Rattle.journal_controls.proofs.ControlPackets.{taking_counts}
use Rattle.journal_controls.proofs.GoodPackets.{good_has}
use Rattle.journal_due.proofs.DueAhead.{Forging, IsDueAhead, Nothing, Taking, acks_told}
use Rattle.journal_due.proofs.DueLines.{forged_due, heard_due, other_applied, quiet_due}
use Rattle.journal_due.proofs.DuePlain.{IsPlainLine, StaysDue}
use Rattle.journal_due.proofs.DueSides.{AreDueBy, IsTold, other_each, plain_event, rests_stay}

-- the two sides differ
far_apart : (station : ℕ) → is_side (side_of station) (side_of (other_of station)) ≡ false
far_apart zero = refl
far_apart (suc station) = refl

module _ (words : Words) (nth : AreNth) (apart : AreApart) (given : Given) (are_two : IsOfTwo given) (six : HaveAddresses given) (phases : ℕ) (done left : List ℕ) (station channel : ℕ)
    (octets : List ℕ) (fates : List Fate) (history : List Event) (are : given.stations ≡ done ++ station ∷ left) (wanted : use_at given station history ≡ Sends channel octets)
    (has : AreSeenAt words given (AtPackets phases done (station ∷ left)) history) where
  abbrev here : Place
  here = AtPackets phases done (station ∷ left)

  abbrev hearing : Hearing
  hearing = hearing_of given fates station channel octets history

  abbrev hearings : List Hearing
  hearings = hearings_of given fates station channel octets history

  abbrev after : List Event
  after = history ++ Transmitted station channel octets hearings ∷ []

  abbrev other : ℕ
  other = other_of station

  abbrev side : Side
  side = side_of other

  abbrev facts : ℕ → Facts
  facts one = facts_at given one history

  -- what the radio left of it
  abbrev left_then : List ℕ
  left_then = damaged_packet hearing.fate octets

  abbrev line : Entry
  line = Air (side_of station) channel octets (mark_of hearing.fate) hearing.verdict

  in_it : is_in station given.stations ≡ true
  in_it = among given.stations done left station are

  has_one : hearings ≡ hearing ∷ []
  has_one = one_hearing given are_two fates station channel octets history in_it

  line_is : entries_of (links_of history) (Transmitted station channel octets hearings) ≡ line ∷ []
  line_is = ap (air_entries (side_of station) channel octets) has_one

  after_is : journal_of after ≡ journal_of history ++ line ∷ []
  after_is = journal_event history (Transmitted station channel octets hearings) ∙ ap (λ xs. journal_of history ++ xs) line_is

  phased : (one : ℕ) → is_in one given.stations ≡ true → PhasedBy given history one (at_stage (Within phases) (turns_begun history))
  phased one is = phased_at given here history has.holds.hearing.stand one is

  same_facts : (one : ℕ) → facts_at given one after ≡ facts one
  same_facts one = facts_event given one history (Transmitted station channel octets hearings) refl

  -- ---- the station that sends it

  own_plain : IsPlainLine words (side_of station) line
  own_plain = record {
    is = λ number. refl;
    own = refl;
    none = refl;
    quiet = λ front. refl;
    no_turn = refl;
    leaves = λ front number none. quiet_due words (side_of station) number front line
        (λ i. heard_where (and_right (is_heard_on number front (side_of station) channel octets (mark_of hearing.fate) hearing.verdict)
        (is_side (side_of station) (other_side (side_of station))) (own_side station) i) hearing.verdict (turn_now front) octets ++ []) ∙ none;
  }

  pub sender_told : IsTold words (side_of station) history → IsTold words (side_of station) after
  sender_told told = plain_event words (side_of station) history (Transmitted station channel octets hearings) line line_is own_plain told

  -- ---- the other one

  pub other_lines : AreDueBy words side history → AreDueBy words side after
  other_lines each = other_each words side history (Transmitted station channel octets hearings) line line_is (far_apart station) each

  unseen_line : (number : ℕ) → heard_at_air number side history station channel octets hearing ≡ [] → seen_in_line words side number (journal_of history) line ≡ []
  unseen_line number none = ap (λ xs. xs ++ []) none

  -- no link hears it
  none_heard : ((number : ℕ) → heard_at_air number side history station channel octets hearing ≡ []) → StaysDue words side (journal_of history) (journal_of after)
  none_heard none = subst (λ xs. StaysDue words side (journal_of history) xs) (sym after_is) (record {
    procedures = λ number. quiet_due words side number (journal_of history) line (unseen_line number (none number));
    indication = other_applied side (journal_of history) line (far_apart station);
  })

  module _ (is_too : is_in other given.stations ≡ true) (silent : packet_received other history ≡ None) (rests : RestsAt words side (journal_of history)) where
    -- nothing is received, or on no link
    stays_ahead : (received : Option (List ℕ)) → ((number : ℕ) → heard_at_air number side history station channel octets hearing ≡ [])
        → ((handle : ℕ) (link : OpenLink) → listens_under handle (facts other).turn.doing ≡ true → link_at handle (facts other).links ≡ Some link → received ≡ None)
        → IsDueAhead words given other after received
    stays_ahead received none deaf =
        Nothing (rests_stay words side (journal_of history) (journal_of after) (none_heard none) rests) (λ handle link on at.
        deaf handle link (sym (ap (λ (f : Facts). listens_under handle f.turn.doing) (same_facts other)) ∙ on) (sym (ap (λ (f : Facts). link_at handle f.links) (same_facts other)) ∙ at))

    bad_ahead : is_handed hearing.verdict ≡ false → IsDueAhead words given other after (packet_received other history)
    bad_ahead bad =
        stays_ahead (packet_received other history) (λ number. unheard_bad number side history station channel octets hearing bad) (λ handle link on at. silent)

    advertised_ahead : is_advertising channel ≡ true → is_handed hearing.verdict ≡ true → (received : Option (List ℕ)) → IsDueAhead words given other after received
    advertised_ahead on handed received =
        stays_ahead received (λ number. unheard_advertised number side history station channel octets hearing on) (λ handle link listens at.
        let reached_it = reached (use_at given other history) (fate_at fates (fates_used history)) channel (facts other) left_then handed in
        let deaf = other_listens (facts other) handle channel link (phased other is_too).uses.in_turn.listens at (wanted_is given other history ∙ reached_it.listens) on in
        absurd (let h : true ≡ false = sym listens ∙ deaf in absurd cc))

    -- ---- a link hears it

    module _ (off : is_advertising channel ≡ false) (handle : ℕ) (link : OpenLink) (is_open : link_at handle (facts other).links ≡ Some link)
        (on : listens_under handle (facts other).turn.doing ≡ true) (belongs : link_heard history station octets hearing ≡ Some (number_at other handle history))
        (verdict_is : hearing.verdict ≡ verdict_of_end link.setup (facts_in link) left_then) where
      abbrev number : ℕ
      number = number_at other handle history

      open_after : link_at handle (facts_at given other after).links ≡ Some link
      open_after = ap (λ (f : Facts). link_at handle f.links) (same_facts other) ∙ is_open

      listens_after : listens_under handle (facts_at given other after).turn.doing ≡ true
      listens_after = ap (λ (f : Facts). listens_under handle f.turn.doing) (same_facts other) ∙ on

      number_is : number_at other handle after ≡ number
      number_is = number_sent other handle history station channel octets hearings

      heard_is : is_heard_of number side history station channel octets hearing ≡ true
      heard_is =
          heard_of_link number number side history station channel octets hearing off belongs ∙ (λ i. same_number number i && far_side station i)

      seen_is : seen_in_line words side number (journal_of history) line ≡ heard_as hearing.verdict (turn_now (journal_of history)) octets
      seen_is =
          (λ i. heard_where (heard_is i) hearing.verdict (turn_now (journal_of history)) octets ++ [])
          ∙ append-nil (heard_as hearing.verdict (turn_now (journal_of history)) octets)

      others_stay : (one : ℕ) → (number == one) ≡ false → lines_due words side one (journal_of history ++ line ∷ []) ≡ []
      others_stay one differs =
          quiet_due words side one (journal_of history) line (unseen_line one (unheard_apart one number side history station channel octets hearing off belongs differs))
          ∙ rests.procedures one

      each_due : {due : List Entry} (one : ℕ) (same : Bool) → (number == one) ≡ same → lines_due words side number (journal_of history ++ line ∷ []) ≡ due
          → lines_due words side one (journal_of history ++ line ∷ []) ≡ (if same then due else [])
      each_due one true same is = ap (λ n. lines_due words side n (journal_of history ++ line ∷ [])) (sym (eqb-true number one same)) ∙ is
      each_due one false differs is = others_stay one differs

      -- a good one
      good_ahead : hearing.verdict ≡ Good → left_then ≡ octets → packet_received other after ≡ Some octets
          → ((one : ℕ) (end : OpenLink) → link_at one (facts other).links ≡ Some end → keyed_on words side (number_at other one history) (journal_of history) ≡ Some (keyed_of (facts_in end)))
          → AreLinedAt given (IsBelongingSoFar given) here history
          → AreLinedAt given (IsBelongingSoFar given) (AtPackets phases (done ++ station ∷ []) left) after → IsDueAhead words given other after (packet_received other after)
      good_ahead good whole_is received controls lined lined_after =
          let turn = (facts other).turn in
          let judged = ap is_good (sym (verdict_is ∙ ap (verdict_of_end link.setup (facts_in link)) whole_is) ∙ good) in
          let has_pdu = good_has link.setup (facts_in link) octets judged in
          let seen = seen_is ∙ ap (λ v. heard_as v (turn_now (journal_of history)) octets) good in
          let counts = plain (unsent here other) (packet_received other history) handle turn link (exchange_at number history side) (listener_sends handle turn.doing on) (λ listens. silent)
          (lined.counts.counted other handle link is_too is_open) in
          let counts_too = taking_counts (unsent (AtPackets phases (done ++ station ∷ []) left) other) (Some octets) octets handle turn link (exchange_at number after side) on refl
          (count_moved handle link (unsent (AtPackets phases (done ++ station ∷ []) left) other) (unsent (AtPackets phases (done ++ station ∷ []) left) other) (packet_received other after) (Some octets)
          (facts_at given other after).turn turn (exchange_at (number_at other handle after) after side) (exchange_at number after side) refl (sym received)
          (sym (ap (λ (f : Facts). f.turn) (same_facts other))) (ap (λ n. exchange_at n after side) (sym number_is)) (lined_after.counts.counted other handle link is_too open_after)) in
          let acks = acks_told link turn.slot octets has_pdu.pdu (exchange_at number history side) (exchange_at number after side) (sent_line_at number history side) has_pdu.is counts counts_too
          (lined.lines other handle link is_too is_open) in
          let due = heard_due words side number (turn_now (journal_of history)) octets (journal_of history) line (keyed_of (facts_in link)) (controls handle link is_open) seen
          ∙ ap (λ xs. due_hearing side number (is_more_acked (exchange_at number history side) (exchange_of number xs side) && is_control (carried_of number (journal_of history) side)) (facts_in link).control)
          (sym after_is)
          ∙ ap (λ b. due_hearing side number b (facts_in link).control) acks in
          Taking handle link octets has_pdu.pdu listens_after open_after received has_pdu.is
          (subst (λ n. IsDueOn words side n (due_hearing side n (acks_control (has_acknowledged (facts_in link) (header_in has_pdu.pdu)) (facts_in link)) (facts_in link).control) (journal_of after)) (sym number_is)
          (subst (λ xs. IsDueOn words side number (due_hearing side number (acks_control (has_acknowledged (facts_in link) (header_in has_pdu.pdu)) (facts_in link)) (facts_in link).control) xs) (sym after_is)
          (record {
            procedures = λ one. each_due one (number == one) refl due;
            indication = other_applied side (journal_of history) line (far_apart station) ∙ rests.indication;
          })))

      -- a forged one
      forged_ahead : hearing.verdict ≡ Forged → packet_received other after ≡ Some left_then → IsDueAhead words given other after (packet_received other after)
      forged_ahead forged received =
          let seen = seen_is ∙ ap (λ v. heard_as v (turn_now (journal_of history)) octets) forged in
          Forging handle link left_then listens_after open_after received (sym verdict_is ∙ forged)
          (subst (λ xs. RestsAt words side xs) (sym after_is) (record {
            procedures = λ one. by one (number == one) refl (forged_due words side number (journal_of history) line seen ∙ rests.procedures number);
            indication = other_applied side (journal_of history) line (far_apart station) ∙ rests.indication;
          }))
        where
          by : (one : ℕ) (same : Bool) → (number == one) ≡ same → lines_due words side number (journal_of history ++ line ∷ []) ≡ []
              → lines_due words side one (journal_of history ++ line ∷ []) ≡ []
          by one true same is = each_due one true same is
          by one false differs is = others_stay one differs

    -- either way
    pub other_ahead : unseen_in octets hearings ≡ None
        → ((one : ℕ) (end : OpenLink) → link_at one (facts other).links ≡ Some end → keyed_on words side (number_at other one history) (journal_of history) ≡ Some (keyed_of (facts_in end)))
        → AreLinedAt given (IsBelongingSoFar given) here history → AreLinedAt given (IsBelongingSoFar given) (AtPackets phases (done ++ station ∷ []) left) after
        → IsDueAhead words given other after (packet_received other after)
    other_ahead unseen controls lined lined_after = by (is_handed hearing.verdict) refl
      where
        received_as : packet_received other after ≡ (if is_handed hearing.verdict then Some left_then else packet_received other history)
        received_as = handed_is words nth apart given are_two six phases done left station channel octets fates history are wanted has.known has.holds.hearing.stand has.seen

        received_then : is_handed hearing.verdict ≡ true → packet_received other after ≡ Some left_then
        received_then handed = received_as ∙ ap (λ b. if b then Some left_then else packet_received other history) handed

        heard_on : (off : is_advertising channel ≡ false) → is_handed hearing.verdict ≡ true → (verdict : Verdict) → hearing.verdict ≡ verdict → is_handed verdict ≡ true
            → IsDueAhead words given other after (packet_received other after)
        heard_on off handed Good good any =
            let there = hears_there words nth apart given are_two six phases done left station channel octets fates history are wanted has.known has.holds.hearing.stand has.seen is_too off unseen handed in
            let whole_is = same_left words nth apart given are_two six phases done left station channel octets fates history are wanted has.known has.holds.hearing.stand has.seen is_too off unseen (ap is_good good) in
            good_ahead off there.handle there.link there.is_open there.on there.belongs there.verdict_is good whole_is (received_then handed ∙ ap Some whole_is) controls lined lined_after
        heard_on off handed Forged forged any =
            let there = hears_there words nth apart given are_two six phases done left station channel octets fates history are wanted has.known has.holds.hearing.stand has.seen is_too off unseen handed in
            forged_ahead off there.handle there.link there.is_open there.on there.belongs there.verdict_is forged (received_then handed)
        heard_on off handed Missed is any = absurd cc
        heard_on off handed Broken is any = absurd cc

        handed_on : (on : Bool) → is_advertising channel ≡ on → is_handed hearing.verdict ≡ true → IsDueAhead words given other after (packet_received other after)
        handed_on true on handed = advertised_ahead on handed (packet_received other after)
        handed_on false off handed = heard_on off handed hearing.verdict refl handed

        by : (handed : Bool) → is_handed hearing.verdict ≡ handed → IsDueAhead words given other after (packet_received other after)
        by false none =
            subst (λ r. IsDueAhead words given other after r) (sym (received_as ∙ ap (λ b. if b then Some left_then else packet_received other history) none)) (bad_ahead none)
        by true handed = handed_on (is_advertising channel) refl handed
