-- A packet that is on the air in a run, and that the other end judges forged, was sent by an end with another session key.
use Rattle.std.proofs.Common.{◌≡◌, ℕ, not, Bool, true, false, Some, List, ◌∷◌, ◌++◌, refl, sym, ◌∙◌}
use Rattle.std.specs.Str.{bytes_eq}
use Rattle.std.proofs.lemmas.Slice.Eq.{bytes_eq-Decides}
use Rattle.ble_base.specs.declared.verdicts.Verdict.{Verdict}
use Rattle.ble_base.specs.declared.verdicts.Verdict.TheVariants.{Forged, Good}
use Rattle.link_runs.specs.link_pairs.Hearing.{has_other_keys}
use Rattle.link_runs.proofs.link_pairs.Understanding.{IsOpenedThere}
use Rattle.run_pairs.specs.link_calls.link_model.Facts.{Facts as EndFacts}
use Rattle.run_pairs.specs.link_calls.link_model.Packets.{verdict_of}
use Rattle.run_pairs.proofs.link_calls.link_model.Hearing.{IsHeardWhole}
use Rattle.run_pairs.specs.link_calls.open_links.OpenLinks.{facts_in}
use Rattle.run_pairs.specs.link_calls.run_laws.Ends.{AreEnds as AreEndsIn, IsOpen, OpenEnd, link_listened}
use Rattle.run_pairs.specs.link_calls.run_model.Feeding.{AreDistinct}
use Rattle.run_pairs.specs.link_calls.run_model.History.{Event, Hearing, Transmitted}
use Rattle.run_pairs.specs.link_calls.run_model.LinkEnds.{HaveAddresses}
use Rattle.run_pairs.specs.link_calls.run_model.Run.{Given, facts_at, history_of, run_of}
use Rattle.run_pairs.proofs.link_calls.run_model.LinkEnds.{AreTaken, IsUnderstood}
use Rattle.run_pairs.proofs.link_calls.run_model.Stations.{is_in}
use Rattle.run_pairs.specs.InTurns.{HasSentNow, HearEachInTurn, HearNoMixed}
use Rattle.run_pairs.proofs.LinkSteps.{AsksMayCome}
use Rattle.run_keys.proofs.OnAirEnds.{heard_down, heard_up}
use Rattle.run_keys.proofs.OneKey.{HaveOneSession, answered_good, begun_good}

-- what is good with one key is forged only with two
other_keys : (one other : EndFacts) (verdict : Verdict) → (HaveOneSession one other → verdict ≡ Good) → verdict ≡ Forged → has_other_keys one other ≡ true
other_keys one other verdict good forged = by (bytes_eq one.encryption.end.key other.encryption.end.key) refl
  where
    by : (same : Bool) → bytes_eq one.encryption.end.key other.encryption.end.key ≡ same → not same ≡ true
    by true is =
        absurd (let h : Good ≡ Forged = sym (good ((bytes_eq-Decides one.encryption.end.key other.encryption.end.key).0 is)) ∙ forged in absurd cc)
    by false is = refl

module _ (whole : IsHeardWhole) (opens_there : IsOpenedThere) (understood : IsUnderstood) (taken : AreTaken) (given : Given) (six : HaveAddresses given)
    (distinct : AreDistinct given.stations) (asks : AsksMayCome given) (before rest : List Event) (sender channel : ℕ) (octets : List ℕ) (hearings : List Hearing)
    (central peripheral : OpenEnd) (at : history_of (run_of given) ≡ before ++ Transmitted sender channel octets hearings ∷ rest)
    (in_it : is_in central.station given.stations ≡ true) (in_too : is_in peripheral.station given.stations ≡ true)
    (of_one : AreEndsIn before central peripheral) (is_open : IsOpen given before central) (is_open_too : IsOpen given before peripheral)
    (hear : HearEachInTurn given before central peripheral) (none_mixed : HearNoMixed given before central peripheral) where
  abbrev c : EndFacts
  c = facts_in central.link

  abbrev p : EndFacts
  p = facts_in peripheral.link

  -- the peripheral hears the central
  pub forged_at_peripheral : link_listened (facts_at given peripheral.station before).turn.doing ≡ Some peripheral.handle
      → HasSentNow given before peripheral central p.event.channel octets → verdict_of peripheral.link.setup p octets ≡ Forged → has_other_keys c p ≡ true
  forged_at_peripheral listens sent =
      let now = heard_down whole opens_there understood taken given six distinct asks before rest sender channel octets hearings central peripheral at in_it in_too of_one
      is_open is_open_too hear none_mixed listens sent in
      other_keys c p (verdict_of peripheral.link.setup p octets)
      (begun_good whole opens_there central.link.setup peripheral.link.setup now.ends (facts_at given peripheral.station before).turn.slot c p now.packet.channel octets
      now.packet.packet now.packet.same now.begun)

  -- the central hears the peripheral
  pub forged_at_central : link_listened (facts_at given central.station before).turn.doing ≡ Some central.handle
      → HasSentNow given before central peripheral c.event.channel octets → verdict_of central.link.setup c octets ≡ Forged → has_other_keys p c ≡ true
  forged_at_central listens sent =
      let now = heard_up whole opens_there understood taken given six distinct asks before rest sender channel octets hearings central peripheral at in_it in_too of_one
      is_open is_open_too hear none_mixed listens sent in
      other_keys p c (verdict_of central.link.setup c octets)
      (answered_good whole opens_there central.link.setup peripheral.link.setup now.ends (facts_at given central.station before).turn.slot c p now.packet.channel octets
      now.packet.packet now.packet.same now.answered)
