-- Each packet that a side judges good or forged, by the end that hears it.
use Rattle.std.proofs.Common.{◌≡◌, ℕ, zero, suc, ◌==◌, true, false, None, Some, List, [], ◌∷◌, ◌++◌, refl, sym, ap, subst, ◌∙◌, arith}
use Rattle.std.specs.List.{Contains}
use Rattle.ble_base.specs.declared.roles.Side.{Side}
use Rattle.ble_base.specs.declared.verdicts.Verdict.{Verdict}
use Rattle.journal.specs.declared.entries.Entry.{Entry}
use Rattle.journal.specs.declared.entries.Mark.{Mark}
use Rattle.journal_packets.proofs.link_model.Hearing.{IsHeardWhole}
use Rattle.radio_replay.specs.declared.fates.Fate.{Fate}
use Rattle.link_calls.specs.run_model.Entries.{IsAired}
use Rattle.link_calls.specs.run_model.Feeding.{AreDistinct}
use Rattle.link_calls.specs.run_model.History.{Event, Hearing, Transmitted, is_handed, packet_received}
use Rattle.link_calls.specs.run_model.LinkEnds.{HaveAddresses}
use Rattle.link_calls.specs.run_model.Links.{is_advertising}
use Rattle.link_calls.specs.run_model.Run.{Given, history_of, run_of}
use Rattle.link_calls.proofs.run_model.LinkEnds.{AreTaken, IsUnderstood}
use Rattle.link_calls.proofs.run_model.Stations.{among, contains_in, is_in, not_before}
use Rattle.link_calls.proofs.run_model.Walk.{AtPackets}
use Rattle.journal_packets.proofs.run_laws.DistinctAccess.{AreApart}
use Rattle.journal_packets.proofs.run_laws.InAgreement.{differs_back}
use Rattle.journal_packets.proofs.AccessOrder.{AreNth}
use Rattle.journal_packets.proofs.SoFar.{IsBelongingSoFar}
use Rattle.journal_acks.specs.HeardBy.{IsHeardByEnd}
use Rattle.journal_acks.proofs.AirCounts.{before_heard, heard_number, hears}
use Rattle.journal_acks.proofs.Exchanging.{number_at}
use Rattle.journal_acks.proofs.KeptLines.{AreLinedAt, lines_kept}
use Rattle.journal_acks.proofs.Known.{known_of}
use Rattle.journal_acks.proofs.LinkPackets.{lines_first}
use Rattle.journal_acks.proofs.Seen.{seen_packet}
use Rattle.journal_acks.proofs.TwoStations.{IsOfTwo, hearing_of, one_hearing, other_of, own_differs, side_other}

-- the other one of two stations
other_listens : (station : ℕ) → Contains (0 ∷ 1 ∷ []) (other_of station)
other_listens zero = (1, omega arith, refl)
other_listens (suc station) = (0, omega arith, refl)

-- each hearing that the fates of a turn may give
record AreHeard (given : Given) (history : List Event) (station channel : ℕ) (octets : List ℕ) : Type 0 where
  in_it : is_in station given.stations ≡ true
  heard : is_advertising channel ≡ false → (fates : List Fate) → is_handed (hearing_of given fates station channel octets history).verdict ≡ true
      → IsHeardByEnd given history station channel octets (hearing_of given fates station channel octets history)

module _ (whole : IsHeardWhole) (understood : IsUnderstood) (taken : AreTaken) (nth : AreNth) (apart : AreApart) (given : Given) (are_two : IsOfTwo given) (six : HaveAddresses given)
    (distinct : AreDistinct given.stations) where
  packet_heard : (before rest : List Event) (station channel : ℕ) (octets : List ℕ) (hearings : List Hearing)
      → history_of (run_of given) ≡ before ++ Transmitted station channel octets hearings ∷ rest → AreHeard given before station channel octets
  packet_heard before rest station channel octets hearings at =
      let Q = IsBelongingSoFar given in
      let known = known_of understood taken nth apart given are_two six in
      seen_packet given (AreLinedAt given Q) (lines_kept whole given Q known are_two six distinct) (λ history. Unit {0}) (AreHeard given)
      (record {
        turn = λ history has. tt;
        packet = λ phases done left sender sent_on sent_octets history are wanted has. record {
          in_it = among given.stations done left sender are;
          heard = λ off fates handed.
              let counts = has.counts in
              let other = other_of sender in
              let in_it = among given.stations done left sender are in
              let listens = subst (λ (stations : List ℕ). Contains stations other) (sym are_two) (other_listens sender) in
              let is_too = contains_in given.stations other listens in
              let differs = differs_back sender other (own_differs sender) in
              let out = not_before given.stations done left sender distinct are in
              let silent : (one : ℕ) → is_in one given.stations ≡ true → (one == sender) ≡ false → packet_received one history ≡ None =
              λ one is_one unlike. counts.silent one sender is_one in_it unlike out in
              let on = hears whole given Q known are_two six distinct phases done left sender sent_on sent_octets fates history are wanted counts.known counts.holds counts.counted off
              is_too differs silent handed in
              let begun = known.begun (AtPackets phases done (sender ∷ left)) history counts.known other on.handle on.link is_too on.is_open in
              let from = known.sends phases done left sender history are counts.known sent_on sent_octets wanted off in record {
                listens = listens;
                side_is = side_other sender;
                handle = on.handle;
                link = on.link;
                is_open = on.is_open;
                on = on.on;
                channel_is = on.channel_is;
                number = number_at other on.handle history;
                number_is = refl;
                begun = begun.link;
                is_link = begun.is_link;
                fields = begun.fields;
                counted = before_heard whole given Q known are_two six distinct phases done left sender sent_on sent_octets fates history are wanted counts.known counts.holds counts.counted off
                    is_too differs silent on.handle on.link on.is_open on.on;
                verdict_is = on.verdict_is;
                belongs = λ same. from.belongs ∙ ap Some
                    (heard_number whole given Q known are_two six distinct phases done left sender sent_on sent_octets fates history are wanted counts.known counts.holds counts.counted off
                    is_too differs silent handed same on.handle on.link on.is_open on.on);
              };
        };
      }) (lines_first given) before rest station channel octets hearings at

  pub line_heard : (front : List Entry) (side : Side) (channel : ℕ) (octets : List ℕ) (fate : Mark) (verdict : Verdict) (aired : IsAired given front side channel octets fate verdict)
      → is_advertising channel ≡ false → is_handed verdict ≡ true → IsHeardByEnd given aired.before aired.station channel octets aired.hearing
  line_heard front side channel octets fate verdict aired off handed =
      let fates = aired.is_due.plan.fates in
      let all = packet_heard aired.before aired.after aired.station channel octets (aired.hearing ∷ aired.others) aired.is_at in
      let both : aired.hearing ∷ aired.others ≡ hearing_of given fates aired.station channel octets aired.before ∷ [] =
      aired.is_due.hearings_are ∙ one_hearing given are_two fates aired.station channel octets aired.before all.in_it in
      let one : aired.hearing ≡ hearing_of given fates aired.station channel octets aired.before = cc in
      subst (IsHeardByEnd given aired.before aired.station channel octets) (sym one)
      (all.heard off fates (ap (λ (h : Hearing). is_handed h.verdict) (sym one) ∙ ap is_handed (sym aired.verdict_is) ∙ handed))
