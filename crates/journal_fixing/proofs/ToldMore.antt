-- What MD says in each packet of a link, by what the lines say of the end.
use Rattle.std.proofs.Common.{◌≡◌, ℕ, ◌≤◌, ◌&&◌, true, false, Some, List, [], ◌∷◌, ◌++◌, sym, ap, subst, ◌∙◌, refl}
use Rattle.ble_base.specs.declared.roles.Side.{Side}
use Rattle.journal_controls.specs.journal_acks.link_calls.Uses.{sends_under}
use Rattle.journal_controls.specs.journal_ends.Asked.{Words}
use Rattle.journal_controls.specs.journal_ends.GivenWords.{GivesWords}
use Rattle.journal_controls.specs.journal_ends.open_links.OpenLinks.{OpenLink, facts_in, link_after}
use Rattle.journal_controls.specs.journal_packets.Senders.{IsOfSendersLink}
use Rattle.journal_controls.specs.link_model.Acknowledgement.{is_acked}
use Rattle.journal_controls.specs.link_model.End.{facts_of as end_facts}
use Rattle.journal_controls.specs.link_model.Facts.{Facts as EndFacts, keyed_of}
use Rattle.journal_controls.specs.link_model.Fixing.{data_cut}
use Rattle.journal_controls.specs.link_model.Packets.{more_sent, pdu_sent}
use Rattle.journal_controls.specs.link_model.Step.{PacketSent}
use Rattle.journal_controls.specs.link_model.keyed_control.Keyed.{Keyed}
use Rattle.journal_controls.specs.run_model.History.{Event, Hearing, Transmitted}
use Rattle.journal_controls.specs.run_model.Journal.{journal_of, side_of}
use Rattle.journal_controls.specs.run_model.LinkEnds.{HaveAddresses}
use Rattle.journal_controls.specs.run_model.Run.{Given, facts_at, history_of, run_of}
use Rattle.journal_controls.proofs.journal_acks.Exchanging.{number_at}
use Rattle.journal_controls.proofs.journal_acks.Standing.{sends_on}
use Rattle.journal_controls.proofs.journal_acks.TwoStations.{IsOfTwo}
use Rattle.journal_controls.proofs.journal_ends.run_laws.DistinctAccess.{AreApart}
use Rattle.journal_controls.proofs.journal_links.OfTwo.{are_distinct}
use Rattle.journal_controls.proofs.journal_packets.AccessOrder.{AreNth}
use Rattle.journal_controls.proofs.link_model.Hearing.{IsHeardWhole}
use Rattle.journal_controls.proofs.run_model.LinkEnds.{AreTaken, IsUnderstood}
use Rattle.journal_controls.proofs.run_model.Stations.{is_in}
use Rattle.journal_fixing.specs.NextPdu.{data_waits, data_waits_after, more_with_new, more_with_old}
use Rattle.journal_fixing.specs.OnLines.{control_fixing}
use Rattle.journal_fixing.specs.PastFixing.{facts_fixing}
use Rattle.journal_fixing.proofs.FixedPasts.{fixing_stays}
use Rattle.journal_fixing.proofs.FixedSince.{since_in}
use Rattle.journal_fixing.proofs.FixingLinks.{sends_uses}
use Rattle.journal_fixing.proofs.RunFixing.{fixing_before_packet}
use Rattle.journal_fixing.proofs.SentPdus.{same_some}
use Rattle.journal_fixing.proofs.TellingMore.{TellsMore}

module _ (words : Words) (heard_whole : IsHeardWhole) (understood : IsUnderstood) (taken : AreTaken) (nth : AreNth) (apart : AreApart) (given : Given) (are_two : IsOfTwo given)
    (six : HaveAddresses given) (gives : GivesWords given words) (before rest : List Event) (station channel : ℕ) (octets : List ℕ) (hearings : List Hearing) (in_it : is_in station given.stations ≡ true)
    (at : history_of (run_of given) ≡ before ++ Transmitted station channel octets hearings ∷ rest) (sent : IsOfSendersLink given before station channel octets)
    (fixing : Keyed) (fixing_is : control_fixing words (side_of station) (number_at station sent.handle before) (journal_of before) ≡ Some fixing) where
  abbrev side : Side
  side = side_of station

  abbrev link : OpenLink
  link = link_after (PacketSent sent.slot) sent.link

  abbrev facts : EndFacts
  facts = facts_in sent.link

  abbrev held : EndFacts
  held = facts_fixing sent.link.setup sent.link.past

  held_is : facts_fixing link.setup link.past ≡ held
  held_is = ap (end_facts sent.link.setup) (fixing_stays sent.link.past (PacketSent sent.slot ∷ []) ((λ front before. refl), tt))

  on : sends_under sent.handle (facts_at given station before).turn.doing ≡ true
  on = sends_on sent.handle (facts_at given station before).turn.doing sent.sends

  tells : TellsMore held facts
  tells =
      let since = since_in given before (Transmitted station channel octets hearings ∷ rest) station sent.handle link (are_distinct given are_two) in_it at sent.is_open in
      subst (λ (f : EndFacts). TellsMore f facts) held_is (since.tells on sent.link sent.slot refl)

  fixing_same : keyed_of held ≡ fixing
  fixing_same =
      same_some (keyed_of held) fixing
      (sym (fixing_before_packet words heard_whole understood taken nth apart given are_two six gives before rest station channel octets hearings at station in_it sent.handle link sent.is_open
      (sends_uses sent.handle (facts_at given station before).turn.doing on) ∙ ap (λ (f : EndFacts). Some (keyed_of f)) held_is) ∙ fixing_is)

  pub new_tells : is_acked facts.acknowledgement ≡ true → more_sent facts ≡ more_with_new fixing (data_waits_after (pdu_sent facts) (data_cut held))
  new_tells acked = tells.new acked ∙ ap (λ k. more_with_new k (data_waits_after (pdu_sent facts) (data_cut held))) fixing_same

  pub again_tells : is_acked facts.acknowledgement ≡ false
      → more_sent facts ≡ more_with_old fixing facts.acknowledgement.last (data_waits (data_cut held))
  again_tells unacked = tells.old unacked ∙ ap (λ k. more_with_old k facts.acknowledgement.last (data_waits (data_cut held))) fixing_same
