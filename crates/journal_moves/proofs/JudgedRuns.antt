-- In the journal of a run of two stations each packet that is listened for and not lost has the verdict that the lines
-- before it give.
use Rattle.std.proofs.Common.{◌≡◌, ◌≢◌, ℕ, ◌≤◌, Bool, true, false, not, Some, None, List, [], ◌∷◌, ◌++◌, refl, sym, ap, subst, ◌∙◌}
use Rattle.std.specs.Prelude.{min}
use Rattle.ble_base.specs.Limits.{payload_octets}
use Rattle.ble_base.specs.Side.{other_side}
use Rattle.ble_base.specs.declared.roles.Side.{Side}
use Rattle.host_view.specs.declared.view.HostFlow.{HostFlow}
use Rattle.journal.specs.declared.entries.Entry.{Entry}
use Rattle.journal.specs.declared.entries.Mark.TheVariants.{Lost as WasLost}
use Rattle.radio_replay.specs.Damage.{damaged_packet}
use Rattle.radio_replay.specs.declared.fates.Fate.{Fate}
use Rattle.radio_replay.specs.declared.fates.Fate.TheVariants.{Pass, Lost, Damage}
use Rattle.journal_wants.specs.controller_model.declared.doing.Doing.{Doing}
use Rattle.journal_wants.specs.controller_model.declared.doing.Doing.TheVariants.{CentralSends, PeripheralSends}
use Rattle.journal_wants.specs.controller_model.Facts.{Facts, Listens, Use}
use Rattle.journal_wants.specs.controller_model.Packets.{channel_listened, verdict_of}
use Rattle.journal_wants.specs.controller_model.open_links.OpenLinks.{OpenLink, link_at}
use Rattle.journal_wants.specs.journal_acks.Exchange.{exchange_of}
use Rattle.journal_wants.specs.journal_acks.link_calls.Uses.{sends_under}
use Rattle.journal_wants.specs.journal_controls.journal_ends.Asked.{Words}
use Rattle.journal_wants.specs.journal_controls.journal_ends.GivenWords.{GivesWords}
use Rattle.journal_wants.specs.journal_controls.journal_ends.Left.{left_of}
use Rattle.journal_wants.specs.run_model.Due.{Each}
use Rattle.journal_wants.specs.run_model.Feeding.{AreDistinct}
use Rattle.journal_wants.specs.run_model.History.{Event, Hearing, Transmitted, fates_used, packet_received}
use Rattle.journal_wants.specs.run_model.Journal.{journal_of, mark_of, side_of}
use Rattle.journal_wants.specs.run_model.LinkEnds.{HaveAddresses}
use Rattle.journal_wants.specs.run_model.Run.{Given, facts_at, fate_at, hearing_at, history_of, reaches, run_of, setup_at, use_at, verdict_where}
use Rattle.journal_wants.specs.Station.{Setups, station_deciding}
use Rattle.journal_anchors.proofs.RunPlaces.{IsToSend, place_of_packet}
use Rattle.journal_wants.proofs.HostSet.{IsSetAs}
use Rattle.journal_wants.proofs.journal_acks.Counting.{AreKnown, plain}
use Rattle.journal_wants.proofs.journal_acks.Exchanging.{number_at}
use Rattle.journal_wants.proofs.journal_acks.Known.{known_of}
use Rattle.journal_wants.proofs.journal_acks.TwoStations.{IsOfTwo, other_of, own_differs, same_number, side_other}
use Rattle.journal_wants.proofs.journal_acks.run_laws.DistinctAccess.{AreApart}
use Rattle.journal_wants.proofs.journal_acks.run_laws.InAgreement.{differs_back}
use Rattle.journal_wants.proofs.journal_acks.run_laws.MostReceived.{max_received}
use Rattle.journal_wants.proofs.journal_data.FewLinks.{HaveFewLinks}
use Rattle.journal_wants.proofs.journal_data.KeptData.{other_in}
use Rattle.journal_wants.proofs.journal_leaving.journal_controls.RunControls.{keyed_before_packet}
use Rattle.journal_wants.proofs.journal_leaving.journal_controls.host_answers.FlowHeld.{flow_so_far}
use Rattle.journal_wants.proofs.journal_leaving.journal_controls.journal_ends.ForgedLinks.{left_is}
use Rattle.journal_wants.proofs.journal_leaving.link_model.Hearing.{IsHeardWhole}
use Rattle.journal_wants.proofs.journal_links.OfTwo.{are_distinct}
use Rattle.journal_wants.proofs.journal_packets.AccessOrder.{AreNth}
use Rattle.journal_wants.proofs.journal_packets.SoFar.{IsBelongingSoFar}
use Rattle.journal_wants.proofs.run_model.EntryEvents.{is_aired}
use Rattle.journal_wants.proofs.run_model.LinkEnds.{AreTaken, IsUnderstood}
use Rattle.journal_wants.proofs.run_model.Places.{each_at}
use Rattle.journal_wants.proofs.run_model.Stations.{among, is_in, not_before}
use Rattle.journal_wants.proofs.run_model.Walk.{AtPackets}
use Rattle.journal_moves.specs.Doing.{doing_on}
use Rattle.journal_moves.specs.Moves.{IsListenedFor, channel_listening, channel_under}
use Rattle.journal_moves.specs.Verdicts.{AllListenedForAreJudged, verdict_listening}
use Rattle.journal_moves.proofs.JudgedPackets.{IsOfLines, listener_judges}
use Rattle.journal_moves.proofs.OwedMoves.{IsSaidToSend, event_channel, far_listens, far_same, far_under, judged, known_before, on_channel_heard, one_heard, place_at, some_under}
use Rattle.journal_moves.proofs.RunMoves.{AreSaid, each_from}
use Rattle.journal_moves.proofs.SaidDoings.{IsFirstKnown, IsKnown}

-- who listens does not send
deaf : (side : Side) (front : List Entry) (channel handle : ℕ) (doing : Doing)
    → channel_listening side front doing ≡ Some channel → sends_under handle doing ≡ false
deaf side front channel handle (CentralSends other) on = absurd (let h : None ≡ Some channel = on in absurd cc)
deaf side front channel handle (PeripheralSends other) on = absurd (let h : None ≡ Some channel = on in absurd cc)
deaf side front channel handle other on = refl

-- what is not lost reaches who listens on its channel
reached_at : (wanted : Use) (channel : ℕ) (facts : Facts) (heard : List ℕ) (fate : Fate) → mark_of fate ≢ WasLost
    → wanted ≡ Listens channel
    → verdict_where (reaches fate channel (channel_listened wanted)) facts heard ≡ verdict_of facts heard
reached_at wanted channel facts heard Pass kept listens =
    ap (λ (one : Use). verdict_where (reaches Pass channel (channel_listened one)) facts heard) listens
    ∙ ap (λ (reached : Bool). verdict_where reached facts heard) (same_number channel)
reached_at wanted channel facts heard Lost kept listens = absurd (kept refl)
reached_at wanted channel facts heard (Damage at pattern) kept listens =
    ap (λ (one : Use). verdict_where (reaches (Damage at pattern) channel (channel_listened one)) facts heard) listens
    ∙ ap (λ (reached : Bool). verdict_where reached facts heard) (same_number channel)

module _ (words : Words) (setups : Setups) (whole : IsHeardWhole) (understood : IsUnderstood) (taken : AreTaken)
    (nth : AreNth) (apart : AreApart) (given : Given) (are_two : IsOfTwo given)
    (few_links : HaveFewLinks given) (six : HaveAddresses given) (gives : GivesWords given words)
    (eight : (station : ℕ) → (setup_at given station).host_buffers ≡ 8)
    (few : (station : ℕ) → (setup_at given station).links ≤ 6) (said : AreSaid words setups given) where
  distinct : AreDistinct given.stations
  distinct = are_distinct given are_two

  known : Each (IsKnown words setups given) [] (history_of (run_of given))
  known = each_from (IsKnown words setups given) (history_of (run_of given)) []
      (history_of (run_of given)) refl said.known

  lines_known : AreKnown given (IsBelongingSoFar given)
  lines_known = known_of understood taken nth apart given are_two six

  -- ---- at a packet

  module _ (before rest : List Event) (station channel : ℕ) (octets : List ℕ) (hearing : Hearing)
      (others : List Hearing)
      (at : history_of (run_of given) ≡ before ++ Transmitted station channel octets (hearing ∷ others) ∷ rest) where
    abbrev hearings : List Hearing
    hearings = hearing ∷ others

    to_send : IsToSend given before station channel octets
    to_send =
        place_of_packet whole understood taken nth apart given are_two few_links six eight before rest station channel
        octets hearings at

    set : IsSetAs (station_deciding words setups (side_of station) (journal_of before))
        (facts_at given station before)
    set = said.set before rest station channel octets hearings at

    place : IsSaidToSend words setups given before station channel octets
    place = place_at words setups nth apart given are_two distinct six known before rest station channel octets
        hearings at

    all : Each (IsKnown words setups given) [] before
    all = known_before words setups nth apart given are_two distinct six known before
        (Transmitted station channel octets hearings ∷ rest) at

    first : IsFirstKnown words setups given before
    first =
        (each_at (IsKnown words setups given) (history_of (run_of given)) before rest
        (Transmitted station channel octets hearings) known at).first

    abbrev far : ℕ
    far = other_of station

    abbrev facts : Facts
    facts = facts_at given far before

    in_it : is_in station given.stations ≡ true
    in_it = among given.stations to_send.done to_send.left station to_send.stations_are

    in_far : is_in far given.stations ≡ true
    in_far = other_in given are_two station in_it

    -- no packet reached the other side in this phase
    unheard : packet_received far before ≡ None
    unheard =
        to_send.lines.counted.silent far station in_far in_it (differs_back station far (own_differs station))
        (not_before given.stations to_send.done to_send.left station distinct to_send.stations_are)

    module _ (listened : IsListenedFor words setups (journal_of before) (side_of station) channel) where
      on_channel : channel_listening (side_of far) (journal_of before) facts.turn.doing ≡ Some channel
      on_channel =
          on_channel_heard words setups nth apart given are_two distinct six before station channel octets place all
          first set to_send lines_known listened

      ends : (handle : ℕ) (link : OpenLink) → link_at handle facts.links ≡ Some link
          → channel_under (side_of far) (journal_of before) handle ≡ Some channel
          → IsOfLines words (side_of far) (journal_of before) channel (number_at far handle before) link
      ends handle link found on =
          let here = AtPackets to_send.phases to_send.done (station ∷ to_send.left) in
          let begun = lines_known.begun here before to_send.lines.counted.known far handle link in_far found in
          let event = Transmitted station channel octets hearings in record {
            begun = begun.link;
            is_link = begun.is_link;
            fields = begun.fields;
            keyed = keyed_before_packet words whole understood taken nth apart given are_two six gives before rest
                station channel octets hearings at far in_far handle link found;
            counted =
                plain (not (is_in far to_send.done)) (packet_received far before) handle facts.turn link
                (exchange_of (number_at far handle before) (journal_of before) (side_of far))
                (deaf (side_of far) (journal_of before) channel handle facts.turn.doing on_channel)
                (λ listens. unheard) (to_send.lines.counted.counted far handle link in_far found);
            most = sym (
                max_received given before (event ∷ rest) far handle link distinct in_far (few far) at found
                ∙ ap (λ (flow : HostFlow). min payload_octets flow.acl_length)
                (flow_so_far given are_two far in_far before rest event at refl)
                );
            channel_is =
                event_channel words setups nth apart given are_two distinct six before station channel octets place
                all first set to_send lines_known listened handle link found on;
          }

      judges : (heard : List ℕ) → verdict_of facts heard
          ≡ verdict_listening words (side_of far) (journal_of before) channel heard
          (doing_on words setups (side_of far) (journal_of before))
      judges heard =
          judged words setups nth apart given are_two distinct six before station channel octets place all first set
          to_send heard facts.turn.doing refl
          ∙ listener_judges words (side_of far) (journal_of before) channel facts.links
          (λ handle. number_at far handle before)
          (some_under words setups nth apart given are_two distinct six before station channel octets place all first
          set to_send lines_known listened)
          (λ handle link found.
          far_under words setups nth apart given are_two distinct six before station channel octets place all first
          set to_send handle (Some link) found)
          ends heard facts.turn.doing on_channel
          ∙ ap (verdict_listening words (side_of far) (journal_of before) channel heard)
          (sym (far_same words setups nth apart given are_two distinct six before station channel octets place all
          first set to_send lines_known listened))

      pub hearing_judged : (fate : Fate) → mark_of fate ≢ WasLost
          → (hearing_at given fate channel octets before far).verdict
          ≡ verdict_listening words (side_of far) (journal_of before) channel (damaged_packet fate octets)
          (doing_on words setups (side_of far) (journal_of before))
      hearing_judged fate kept =
          reached_at (use_at given far before) channel facts (damaged_packet fate octets) fate kept
          (far_listens words setups nth apart given are_two distinct six before station channel octets place all first
          set to_send lines_known listened)
          ∙ judges (damaged_packet fate octets)

  -- ---- each line

  pub listened_for_are_judged : AllListenedForAreJudged words setups (journal_of (history_of (run_of given)))
  listened_for_are_judged = λ front rest side channel octets fate verdict is kept listened.
      let aired = is_aired given front rest side channel octets fate verdict is in
      let before = aired.before in
      let station = aired.station in
      let one = one_heard words setups nth apart given are_two distinct six known before station channel octets
      aired.hearing aired.others aired.is_due
      (to_send before aired.after station channel octets aired.hearing aired.others aired.is_at) in
      let own = fate_at aired.is_due.plan.fates (fates_used before) in
      let mark : fate ≡ mark_of own = aired.fate_is ∙ ap (λ (h : Hearing). mark_of h.fate) one in
      let there : IsListenedFor words setups (journal_of before) (side_of station) channel =
      subst (λ s. IsListenedFor words setups (journal_of before) s channel) aired.side_is
      (subst (λ entries. IsListenedFor words setups entries side channel) aired.front_is listened) in
      let far_side : side_of (other_of station) ≡ other_side side =
      side_other station ∙ ap other_side (sym aired.side_is) in
      let left : damaged_packet own octets ≡ left_of fate octets =
      sym (ap (λ m. left_of m octets) mark ∙ left_is own octets) in
      aired.verdict_is ∙ ap (λ (h : Hearing). h.verdict) one
      ∙ hearing_judged before aired.after station channel octets aired.hearing aired.others aired.is_at there own
      (λ lost. kept (mark ∙ lost))
      ∙ (λ i. verdict_listening words (far_side i) (sym aired.front_is i) channel (left i)
      (doing_on words setups (far_side i) (sym aired.front_is i)))
