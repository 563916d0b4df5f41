-- The number of the link of two ends: that of their CONNECT_IND, in each front of a run.
use Rattle.std.proofs.Common.{◌≡◌, ℕ, ◌+◌, List, ◌++◌, refl, sym, ap, subst, ◌∙◌}
use Rattle.std.specs.List.{Contains}
use Rattle.journal_controls.specs.link_model.Setup.{Setup as EndSetup}
use Rattle.journal_controls.specs.run_model.Feeding.{AreDistinct}
use Rattle.journal_controls.specs.run_model.History.{Event}
use Rattle.journal_controls.specs.run_model.LinkEnds.{HasConnectInd, HaveAddresses}
use Rattle.journal_controls.specs.run_model.Links.{links_of}
use Rattle.journal_controls.specs.run_model.Numbers.{HasNumber}
use Rattle.journal_controls.specs.run_model.Run.{Given, history_of, run_of}
use Rattle.link_calls.specs.run_laws.Ends.{AreEnds, OpenEnd}
use Rattle.journal_acks.proofs.run_laws.DistinctAccess.{AreApart}
use Rattle.journal_acks.proofs.run_laws.InAgreement.{differs_back}
use Rattle.journal_acks.proofs.run_laws.OwnLinks.{at_central, at_peripheral, not_same, one_before, sender_in}
use Rattle.journal_controls.proofs.journal_acks.TwoStations.{IsOfTwo, other_is, other_of}
use Rattle.journal_controls.proofs.journal_links.OfTwo.{are_distinct}
use Rattle.journal_controls.proofs.run_model.LinkEnds.{AreTaken, IsUnderstood}
use Rattle.journal_controls.proofs.run_model.Linked.{numbered_more}
use Rattle.journal_controls.proofs.run_model.Stations.{contains_in}
use Rattle.journal_sealing.proofs.UnmixedEnds.{HasThisNumber}

module _ (understood : IsUnderstood) (taken : AreTaken) (apart : AreApart) (given : Given) (are_two : IsOfTwo given) (six : HaveAddresses given) (history rest : List Event)
    (at : history_of (run_of given) ≡ history ++ rest) (central peripheral : OpenEnd) (in_central : Contains given.stations central.station)
    (in_peripheral : Contains given.stations peripheral.station) (ends : AreEnds history central peripheral) (number : ℕ)
    (number_is : number ≡ (links_of ends.of_central.before).begun + 1) where
  distinct : AreDistinct given.stations
  distinct = are_distinct given are_two

  grown : (front more : List Event) (n station : ℕ) (end : EndSetup) → history ≡ front ++ more → HasNumber front n station end → HasNumber history n station end
  grown front more n station end is has = subst (λ events. HasNumber events n station end) (sym is) (numbered_more front more n station end has.has has.number_is)

  -- an end that was set up so comes from one CONNECT_IND, where its sender is one
  one_at : (n station : ℕ) (end : EndSetup) (has : HasNumber history n station end) (too : HasConnectInd history station end) → has.has.sent.sender ≡ too.sent.sender
      → n ≡ (links_of too.before).begun + 1
  one_at n station end has too sender =
      has.number_is
      ∙ ap (λ events. (links_of events).begun + 1) (one_before understood taken apart given six distinct history rest at station station end end has.has too sender refl)

  pub central_number : HasThisNumber history number central
  central_number front more n is has_then =
      let end = central.link.setup in
      let has = grown front more n central.station end is has_then in
      let too = ends.of_central in
      one_at n central.station end has too
      (at_central end.link.role central.station end has.has.sent ends.is_central has.has.is_at_end
      ∙ sym (at_central end.link.role central.station end too.sent ends.is_central too.is_at_end))
      ∙ sym number_is

  -- a peripheral received that of the other station
  sender_other : (has : HasConnectInd history peripheral.station peripheral.link.setup) → has.sent.sender ≡ other_of peripheral.station
  sender_other has =
      let end = peripheral.link.setup in
      let station = peripheral.station in
      other_is given are_two station has.sent.sender (contains_in given.stations station in_peripheral)
      (sender_in understood taken apart given six distinct history rest at station end has)
      (differs_back station has.sent.sender (not_same has.sent.sender station (at_peripheral end.link.role station end has.sent ends.is_peripheral has.is_at_end)))

  pub peripheral_number : HasThisNumber history number peripheral
  peripheral_number front more n is has_then =
      let end = peripheral.link.setup in
      let has = grown front more n peripheral.station end is has_then in
      let too = ends.of_peripheral in
      one_at n peripheral.station end has too (sender_other has.has ∙ sym (sender_other too))
      ∙ ap (λ events. (links_of events).begun + 1) (sym ends.same) ∙ sym number_is
