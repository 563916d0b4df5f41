-- Both ends of the link of a packet, as it comes on the air and is judged forged although it was not changed.
use Rattle.std.proofs.Common.{◌≡◌, ◌≢◌, ℕ, ◌+◌, not, true, false, Some, List, ◌∷◌, ◌++◌, refl, sym, ap, ◌∙◌}
use Rattle.std.specs.List.{Contains}
use Rattle.std.proofs.lemmas.Slice.Eq.{bytes_eq-Decides}
use Rattle.ble_base.specs.declared.verdicts.Verdict.TheVariants.{Forged}
use Rattle.journal_sealing.specs.journal_controls.journal_acks.HeardBy.{IsHeardByEnd}
use Rattle.journal_sealing.specs.journal_controls.journal_packets.Senders.{IsOfSendersLink}
use Rattle.journal_sealing.specs.journal_controls.link_model.Packets.{verdict_of}
use Rattle.journal_sealing.specs.journal_controls.link_model.Step.{PacketSent}
use Rattle.journal_sealing.specs.journal_controls.open_links.OpenLinks.{OpenLink, facts_in, link_after}
use Rattle.journal_sealing.specs.journal_controls.run_model.History.{Event, Hearing, Transmitted}
use Rattle.journal_sealing.specs.journal_controls.run_model.LinkEnds.{HaveAddresses}
use Rattle.journal_sealing.specs.journal_controls.run_model.Links.{links_of}
use Rattle.journal_sealing.specs.journal_controls.run_model.Run.{Given, facts_at, history_of, run_of}
use Rattle.run_keys.specs.run_pairs.link_calls.run_laws.Ends.{AreEnds, IsOpen, OpenEnd, link_listened}
use Rattle.journal_sealing.specs.link_runs.link_pairs.Hearing.{has_other_keys}
use Rattle.radio_replay.specs.Damage.{damaged_packet}
use Rattle.run_keys.specs.run_pairs.InTurns.{HasSentNow, HearEachInTurn, HearNoMixed}
use Rattle.journal_sealing.proofs.journal_acks.run_laws.DistinctAccess.{AreApart}
use Rattle.journal_sealing.proofs.journal_controls.journal_acks.TwoStations.{IsOfTwo}
use Rattle.journal_sealing.proofs.journal_controls.run_model.LinkEnds.{AreTaken, IsUnderstood}
use Rattle.journal_sealing.proofs.journal_controls.run_model.Stations.{contains_in}
use Rattle.run_keys.proofs.run_pairs.FarPackets.{listens_is}
use Rattle.journal_forgeries.proofs.PacketEnds.{of_both}
use Rattle.journal_forgeries.proofs.SentNow.{IsSentNow}

-- ---- what the laws of both ends give at this place

module _ (given : Given) (before : List Event) where
  abbrev pub HearInTurns : Type 0
  HearInTurns =
      (central peripheral : OpenEnd) → Contains given.stations central.station → Contains given.stations peripheral.station → AreEnds before central peripheral
      → HearEachInTurn given before central peripheral

  abbrev pub HearPure : ℕ → Type 0
  HearPure number =
      (central peripheral : OpenEnd) (ends : AreEnds before central peripheral) → Contains given.stations central.station → Contains given.stations peripheral.station
      → number ≡ (links_of ends.of_central.before).begun + 1 → HearNoMixed given before central peripheral

  -- a packet that one end sends now, and that the other one judges forged, tells of two keys
  abbrev pub KeysDiffer : OpenEnd → OpenEnd → List ℕ → Type 0
  KeysDiffer end far octets =
      IsOpen given before end → IsOpen given before far → link_listened (facts_at given end.station before).turn.doing ≡ Some end.handle
      → HasSentNow given before end far (facts_in end.link).event.channel octets → verdict_of end.link.setup (facts_in end.link) octets ≡ Forged
      → has_other_keys (facts_in far.link) (facts_in end.link) ≡ true

  abbrev pub ForgedDown : ℕ → List ℕ → Type 0
  ForgedDown sender octets =
      (central peripheral : OpenEnd) → sender ≡ central.station → Contains given.stations central.station → Contains given.stations peripheral.station
      → AreEnds before central peripheral → HearEachInTurn given before central peripheral → HearNoMixed given before central peripheral
      → KeysDiffer peripheral central octets

  abbrev pub ForgedUp : ℕ → List ℕ → Type 0
  ForgedUp sender octets =
      (central peripheral : OpenEnd) → sender ≡ peripheral.station → Contains given.stations central.station → Contains given.stations peripheral.station
      → AreEnds before central peripheral → HearEachInTurn given before central peripheral → HearNoMixed given before central peripheral
      → KeysDiffer central peripheral octets

-- ---- a packet on the air

module _ (understood : IsUnderstood) (taken : AreTaken) (apart : AreApart) (given : Given) (are_two : IsOfTwo given) (six : HaveAddresses given)
    (before rest : List Event) (station channel : ℕ) (octets : List ℕ) (hearing : Hearing) (others : List Hearing)
    (at : history_of (run_of given) ≡ before ++ Transmitted station channel octets (hearing ∷ others) ∷ rest) (in_station : Contains given.stations station)
    (by_end : IsHeardByEnd given before station channel octets hearing) (from : IsOfSendersLink given before station channel octets)
    (now : IsSentNow given before station channel octets) (same : damaged_packet hearing.fate octets ≡ octets) (forged : hearing.verdict ≡ Forged) where
  abbrev packet : Event
  packet = Transmitted station channel octets (hearing ∷ others)

  abbrev listener : ℕ
  listener = hearing.listener

  -- the end that hears it, and the one that sends it
  abbrev own : OpenEnd
  own = record { station = listener; handle = by_end.handle; link = by_end.link }

  abbrev far_link : OpenLink
  far_link = link_after (PacketSent (facts_at given station before).turn.slot) now.link

  abbrev far : OpenEnd
  far = record { station = station; handle = now.handle; link = far_link }

  -- ---- it was sent now

  has_sent : HasSentNow given before own far (facts_in by_end.link).event.channel octets
  has_sent = record {
    sent = record {
      handle = now.handle;
      slot = (facts_at given station before).turn.slot;
      link = now.link;
      is_open = now.is_open;
      is_end = record { fields = refl; opened = refl };
      packet = now.packet;
      channel_is = sym by_end.channel_is ∙ now.channel_is;
    };
    now = now.one_turn listener (contains_in given.stations listener by_end.listens);
  }

  listens : link_listened (facts_at given listener before).turn.doing ≡ Some by_end.handle
  listens = listens_is by_end.handle (facts_at given listener before).turn.doing by_end.on

  judged : verdict_of by_end.link.setup (facts_in by_end.link) octets ≡ Forged
  judged = ap (verdict_of by_end.link.setup (facts_in by_end.link)) (sym same) ∙ sym by_end.verdict_is ∙ forged

  module _ (hear : HearInTurns given before) (pure : HearPure given before by_end.number) (down : ForgedDown given before station octets)
      (up : ForgedUp given before station octets) where
    differ : has_other_keys (facts_in far_link) (facts_in by_end.link) ≡ true
    differ =
        of_both understood taken apart given are_two six before rest station channel octets hearing others at by_end from now same
        (has_other_keys (facts_in far_link) (facts_in by_end.link) ≡ true)
        (λ ends begun.
        up own far refl by_end.listens in_station ends (hear own far by_end.listens in_station ends) (pure own far ends by_end.listens in_station begun) by_end.is_open
        now.is_open listens has_sent judged)
        (λ ends begun.
        down far own refl in_station by_end.listens ends (hear far own in_station by_end.listens ends) (pure far own ends in_station by_end.listens begun) by_end.is_open
        now.is_open listens has_sent judged)

    pub other_keys : (facts_in far_link).encryption.end.key ≢ (facts_in by_end.link).encryption.end.key
    other_keys one_key =
        absurd (let h : false ≡ true =
        sym (ap not ((bytes_eq-Decides (facts_in far_link).encryption.end.key (facts_in by_end.link).encryption.end.key).1 one_key)) ∙ differ in absurd cc)
