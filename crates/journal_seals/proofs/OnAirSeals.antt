-- A packet that is on the air in a run, and that brings a new PDU to the other end, was sealed exactly where that opens what it hears.
use Rattle.std.proofs.Common.{◌≡◌, ℕ, true, Some, List, ◌∷◌, ◌++◌}
use Rattle.journal_forgeries.proofs.link_runs.link_pairs.Understanding.{IsOpenedThere}
use Rattle.journal_forgeries.specs.run_pairs.link_calls.link_model.Facts.{Facts as EndFacts}
use Rattle.journal_forgeries.proofs.run_pairs.link_calls.link_model.Hearing.{IsHeardWhole}
use Rattle.journal_forgeries.specs.run_pairs.link_calls.open_links.OpenLinks.{facts_in}
use Rattle.journal_forgeries.specs.run_pairs.link_calls.run_laws.Ends.{AreEnds as AreEndsIn, IsOpen, OpenEnd, link_listened}
use Rattle.journal_forgeries.specs.run_pairs.link_calls.run_model.Feeding.{AreDistinct}
use Rattle.journal_forgeries.specs.run_pairs.link_calls.run_model.History.{Event, Hearing, Transmitted}
use Rattle.journal_forgeries.specs.run_pairs.link_calls.run_model.LinkEnds.{HaveAddresses}
use Rattle.journal_forgeries.specs.run_pairs.link_calls.run_model.Run.{Given, facts_at, history_of, run_of}
use Rattle.journal_forgeries.proofs.run_pairs.link_calls.run_model.LinkEnds.{AreTaken, IsUnderstood}
use Rattle.journal_forgeries.proofs.run_pairs.link_calls.run_model.Stations.{is_in}
use Rattle.journal_forgeries.specs.run_pairs.InTurns.{HasSentNow, HearEachInTurn, HearNoMixed}
use Rattle.journal_forgeries.proofs.run_pairs.LinkSteps.{AsksMayCome}
use Rattle.journal_forgeries.proofs.run_keys.OnAirEnds.{heard_down, heard_up}
use Rattle.journal_seals.proofs.SealedSo.{CountsWhole, IsSealedFor, answered_sealed, begun_sealed}

module _ (whole : IsHeardWhole) (opens_there : IsOpenedThere) (understood : IsUnderstood) (taken : AreTaken) (given : Given) (six : HaveAddresses given)
    (distinct : AreDistinct given.stations) (asks : AsksMayCome given) (before rest : List Event) (sender channel : ℕ) (octets : List ℕ) (hearings : List Hearing)
    (central peripheral : OpenEnd) (at : history_of (run_of given) ≡ before ++ Transmitted sender channel octets hearings ∷ rest)
    (in_it : is_in central.station given.stations ≡ true) (in_too : is_in peripheral.station given.stations ≡ true)
    (of_one : AreEndsIn before central peripheral) (is_open : IsOpen given before central) (is_open_too : IsOpen given before peripheral)
    (hear : HearEachInTurn given before central peripheral) (none_mixed : HearNoMixed given before central peripheral) where
  abbrev c : EndFacts
  c = facts_in central.link

  abbrev p : EndFacts
  p = facts_in peripheral.link

  -- the peripheral hears the central
  pub sealed_at_peripheral : link_listened (facts_at given peripheral.station before).turn.doing ≡ Some peripheral.handle
      → HasSentNow given before peripheral central p.event.channel octets → CountsWhole peripheral.link.setup p octets → IsSealedFor c p
  sealed_at_peripheral listens sent =
      let now = heard_down whole opens_there understood taken given six distinct asks before rest sender channel octets hearings central peripheral at in_it in_too of_one
      is_open is_open_too hear none_mixed listens sent in
      begun_sealed whole opens_there central.link.setup peripheral.link.setup now.ends (facts_at given peripheral.station before).turn.slot c p now.packet.channel octets
      now.packet.packet now.packet.same now.begun

  -- the central hears the peripheral
  pub sealed_at_central : link_listened (facts_at given central.station before).turn.doing ≡ Some central.handle
      → HasSentNow given before central peripheral c.event.channel octets → CountsWhole central.link.setup c octets → IsSealedFor p c
  sealed_at_central listens sent =
      let now = heard_up whole opens_there understood taken given six distinct asks before rest sender channel octets hearings central peripheral at in_it in_too of_one
      is_open is_open_too hear none_mixed listens sent in
      answered_sealed whole opens_there central.link.setup peripheral.link.setup now.ends (facts_at given central.station before).turn.slot c p now.packet.channel octets
      now.packet.packet now.packet.same now.answered
