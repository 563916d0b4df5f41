-- A good packet that a station of two takes on a link that is followed does not end the link for a failed integrity.
use Rattle.std.proofs.Common.{◌≡◌, ℕ, true, false, Some, List, [], ◌∷◌, ◌++◌, append_assoc, refl, sym, ◌∙◌}
use Rattle.ble_base.specs.declared.roles.Role.{Role}
use Rattle.ble_base.specs.declared.roles.Role.TheVariants.{Central, Peripheral}
use Rattle.ble_base.specs.declared.verdicts.Verdict.TheVariants.{Good}
use Rattle.journal_outcomes.specs.controller_model.Facts.{Facts}
use Rattle.journal_outcomes.specs.controller_model.Heard.{has_room}
use Rattle.journal_outcomes.specs.controller_model.Step.{PacketHeard}
use Rattle.journal_outcomes.specs.link_calls.Phases.{link_worded}
use Rattle.journal_outcomes.specs.link_calls.Uses.{listens_under}
use Rattle.journal_outcomes.specs.link_calls.link_model.Packets.{is_forged, verdict_of}
use Rattle.journal_outcomes.specs.link_calls.open_links.OpenLinks.{OpenLink, facts_in, link_at}
use Rattle.journal_outcomes.specs.link_calls.run_laws.Ends.{HaveOneConnectInd, OpenEnd, ReceivesGood}
use Rattle.journal_outcomes.specs.link_calls.run_model.Feeding.{AreDistinct}
use Rattle.journal_outcomes.specs.link_calls.run_model.History.{Called, Event}
use Rattle.journal_outcomes.specs.link_calls.run_model.LinkEnds.{HaveAddresses}
use Rattle.journal_outcomes.specs.link_calls.run_model.Run.{Given, facts_at, history_of, run_of, setup_at}
use Rattle.journal_outcomes.proofs.link_calls.link_model.Hearing.{IsHeardWhole}
use Rattle.journal_outcomes.proofs.link_calls.run_laws.DistinctAccess.{AreApart}
use Rattle.journal_outcomes.proofs.link_calls.run_laws.SameEvent.{apart_ends, one_connect_ind}
use Rattle.journal_outcomes.proofs.link_calls.run_laws.TwoStations.{AreTwo, are_two as two_are, differs_back}
use Rattle.journal_outcomes.proofs.link_calls.run_model.LinkEnds.{AreTaken, IsUnderstood}
use Rattle.journal_outcomes.proofs.link_calls.run_model.Numbers.{numbered_at}
use Rattle.journal_outcomes.proofs.link_calls.run_model.Stations.{is_in}
use Rattle.journal_outcomes.specs.link_runs.link_pairs.Hearing.{received}
use Rattle.journal_outcomes.proofs.link_runs.link_pairs.Understanding.{IsOpenedThere}
use Rattle.journal_outcomes.specs.journal_collisions.journal_endings.run_pairs.InTurns.{HearEachInTurn, HearNoMixed}
use Rattle.journal_outcomes.proofs.journal_crossing.journal_data.run_pairs.FarPackets.{listens_is}
use Rattle.journal_outcomes.proofs.journal_crossing.journal_collisions.journal_endings.run_pairs.FarEnds.{hear_in_turn, hears_in_turn}
use Rattle.journal_outcomes.proofs.journal_crossing.journal_collisions.journal_endings.run_pairs.LinkSteps.{AsksMayCome}
use Rattle.journal_outcomes.proofs.journal_crossing.journal_collisions.journal_endings.journal_indications.FarEnds.{far_before}
use Rattle.journal_outcomes.proofs.journal_crossing.journal_collisions.journal_endings.journal_indications.journal_data.Followed.{AreEndsOf, IsFollowed, ends_more, hear_fewer}
use Rattle.journal_outcomes.proofs.journal_crossing.journal_collisions.journal_endings.journal_indications.journal_data.KeptData.{other_in}
use Rattle.journal_outcomes.proofs.journal_crossing.journal_collisions.journal_endings.journal_indications.journal_data.Mine.{HasFarEnd}
use Rattle.journal_outcomes.proofs.journal_crossing.journal_collisions.journal_endings.journal_indications.journal_data.NumberedEnds.{front_of_two}
use Rattle.journal_outcomes.proofs.journal_crossing.journal_collisions.journal_endings.journal_indications.journal_data.OneCall.{other_not}
use Rattle.journal_outcomes.proofs.journal_crossing.journal_collisions.journal_endings.journal_indications.journal_data.PairedEnds.{far_central, far_end, own_central, own_end}
use Rattle.journal_outcomes.proofs.journal_crossing.journal_collisions.journal_endings.journal_indications.journal_data.journal_acks.Exchanging.{number_at}
use Rattle.journal_outcomes.proofs.journal_crossing.journal_collisions.journal_endings.journal_indications.journal_data.journal_acks.HandedOn.{judged_link}
use Rattle.journal_outcomes.proofs.journal_crossing.journal_collisions.journal_endings.journal_indications.journal_data.journal_acks.TwoStations.{IsOfTwo, other_of}
use Rattle.journal_outcomes.proofs.journal_crossing.journal_collisions.journal_endings.journal_indications.journal_data.journal_links.OfTwo.{are_distinct}
use Rattle.journal_outcomes.proofs.journal_crossing.journal_collisions.journal_endings.journal_indications.journal_data.journal_packets.AccessOrder.{AreNth}
use Rattle.journal_failures.proofs.AtCall.{central_good, peripheral_good}
use Rattle.journal_failures.proofs.GoodPackets.{is_failed}

module _ (whole : IsHeardWhole) (opens_there : IsOpenedThere) (understood : IsUnderstood) (taken : AreTaken) (nth : AreNth) (apart : AreApart) (given : Given)
    (are_two : IsOfTwo given) (six : HaveAddresses given) (asks : AsksMayCome given) (before rest : List Event) (station : ℕ) (octets : List ℕ)
    (at : history_of (run_of given) ≡ before ++ Called station (PacketHeard octets) ∷ rest) (on : is_in station given.stations ≡ true) (handle : ℕ) (link : OpenLink)
    (is_open : link_at handle (facts_at given station before).links ≡ Some link)
    (listens : listens_under handle (facts_at given station before).turn.doing ≡ true) (good : verdict_of link.setup (facts_in link) octets ≡ Good)
    (followed : IsFollowed given (before ++ Called station (PacketHeard octets) ∷ []) (number_at station handle before)) where
  abbrev other : ℕ
  other = other_of station

  abbrev call : Event
  call = Called station (PacketHeard octets)

  abbrev facts : Facts
  facts = facts_at given station before

  abbrev then_on : List Event
  then_on = before ++ call ∷ []

  abbrev number : ℕ
  number = number_at station handle before

  distinct : AreDistinct given.stations
  distinct = are_distinct given are_two

  two : AreTwo given
  two = two_are given 0 1 are_two

  in_far : is_in other given.stations ≡ true
  in_far = other_in given are_two station on

  place : history_of (run_of given) ≡ then_on ++ rest
  place = at ∙ sym (append_assoc before (call ∷ []) rest)

  far : HasFarEnd given station before handle
  far =
      far_before whole understood taken nth apart given are_two six before rest station octets at handle link is_open listens
      (λ forged. absurd (let no = sym good ∙ sym (judged_link facts handle link octets listens is_open) ∙ forged in cc))

  abbrev own : OpenEnd
  own = own_end station handle link

  abbrev there : OpenEnd
  there = far_end given station before handle far

  receives : ReceivesGood facts octets link
  receives = record { handle = handle; listens = listens_is handle facts.turn.doing listens; is_open = is_open; is_good = good }

  same_link : HaveOneConnectInd link.setup link.setup
  same_link = record { fields = refl; opened = refl }

  mixed_none : (central peripheral : OpenEnd) → is_in central.station given.stations ≡ true → is_in peripheral.station given.stations ≡ true
      → AreEndsOf before number central peripheral → HearNoMixed given then_on central peripheral
  mixed_none central peripheral in_it in_too are =
      followed central peripheral in_it in_too (record { ends = ends_more before (call ∷ []) central peripheral are.ends; number_is = are.number_is })

  hear : (central peripheral : OpenEnd) → is_in central.station given.stations ≡ true → is_in peripheral.station given.stations ≡ true
      → AreEndsOf before number central peripheral → HearEachInTurn given before central peripheral
  hear central peripheral in_it in_too are =
      hear_in_turn understood taken apart given six distinct two before (call ∷ rest) at central peripheral in_it in_too (apart_ends before central peripheral are.ends)
      (one_connect_ind before central peripheral are.ends)

  back : (one other : OpenEnd) → HaveOneConnectInd one.link.setup other.link.setup → HaveOneConnectInd other.link.setup one.link.setup
  back one other same = record { fields = sym same.fields; opened = sym same.opened }

  abbrev Stays : Type 0
  Stays = let base = link_worded (setup_at given station) facts facts.turn.doing link in is_forged link.setup (facts_in base) octets ≡ false
      → is_failed (received link.setup facts.turn.slot octets (has_room (setup_at given station) facts) (facts_in base)).control.ends ≡ false

  as_central : AreEndsOf before number own there → Stays
  as_central are =
      let mix = mixed_none own there on in_far are in
      central_good whole opens_there understood taken given six distinct asks before rest station octets own there at on in_far are.ends is_open far.is_open
      (hear own there on in_far are) (hear_fewer given before (call ∷ []) own there mix) (has_room (setup_at given station) facts) refl (listens_is handle facts.turn.doing listens)
      (hears_in_turn understood taken apart given six distinct two then_on rest place own there in_far (differs_back other station (other_not station))
      (one_connect_ind before own there are.ends) before [] octets link refl receives same_link)
      (mix.one_hears before [] octets link far.far refl receives refl far.is_open refl) (setup_at given station) facts

  as_peripheral : AreEndsOf before number there own → Stays
  as_peripheral are =
      let mix = mixed_none there own in_far on are in
      peripheral_good whole opens_there understood taken given six distinct asks before rest station octets there own at in_far on are.ends far.is_open is_open
      (hear there own in_far on are) (hear_fewer given before (call ∷ []) there own mix) (has_room (setup_at given station) facts) refl (listens_is handle facts.turn.doing listens)
      (hears_in_turn understood taken apart given six distinct two then_on rest place own there in_far (differs_back other station (other_not station))
      (back there own (one_connect_ind before there own are.ends)) before [] octets link refl receives same_link)
      (mix.other_hears before [] octets link far.far refl receives refl far.is_open refl) (setup_at given station) facts facts.turn.doing

  by_role : (role : Role) → link.setup.link.role ≡ role → Stays
  by_role Central is =
      as_central (own_central given are_two before (numbered_at understood taken given before rest call distinct six at refl)
      (front_of_two understood taken given are_two six before (call ∷ rest) at) station on handle link is_open far is)
  by_role Peripheral is =
      as_peripheral (far_central given are_two before (numbered_at understood taken given before rest call distinct six at refl)
      (front_of_two understood taken given are_two six before (call ∷ rest) at) station on handle link is_open far is)

  pub good_stays : Stays
  good_stays = by_role link.setup.link.role refl
