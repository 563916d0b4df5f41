-- An end as its answer goes, by the journal of a run, in the call in which it takes a packet; and that no end heard anything
-- yet as a controller begins a turn.
use Rattle.std.proofs.Common.{◌≡◌, ℕ, Bool, true, false, Some, List, [], ◌∷◌, ◌++◌, map, ap, ◌∙◌}
use Rattle.ble_base.specs.declared.notes.Note.{Note}
use Rattle.ble_base.specs.declared.roles.Side.{Side}
use Rattle.journal_controls.specs.controller_model.Step.{Step as Call, PacketHeard, TurnBegins}
use Rattle.journal_controls.specs.journal_acks.link_calls.Uses.{listens_under}
use Rattle.journal_controls.specs.journal_ends.Asked.{Words}
use Rattle.journal_controls.specs.journal_ends.GivenWords.{GivesWords}
use Rattle.journal_controls.specs.journal_ends.open_links.OpenLinks.{OpenLink, facts_in, link_at}
use Rattle.journal_controls.specs.link_model.Packets.{good_pdu}
use Rattle.journal_controls.specs.run_model.Due.{Each}
use Rattle.journal_controls.specs.run_model.History.{Event, Called, Noted}
use Rattle.journal_controls.specs.run_model.Journal.{journal_from, journal_of, side_of}
use Rattle.journal_controls.specs.run_model.LinkEnds.{HaveAddresses}
use Rattle.journal_controls.specs.run_model.Links.{links_of}
use Rattle.journal_controls.specs.run_model.Run.{Given, facts_at, history_of, run_of}
use Rattle.journal_controls.proofs.journal_acks.Exchanging.{number_at}
use Rattle.journal_controls.proofs.journal_acks.TwoStations.{IsOfTwo}
use Rattle.journal_controls.proofs.journal_ends.run_laws.DistinctAccess.{AreApart}
use Rattle.journal_controls.proofs.journal_packets.AccessOrder.{AreNth}
use Rattle.journal_controls.proofs.link_model.Hearing.{IsHeardWhole}
use Rattle.journal_controls.proofs.run_model.LinkEnds.{AreTaken, IsUnderstood}
use Rattle.journal_controls.proofs.run_model.Parts.{journal_more, notes_noted}
use Rattle.journal_controls.proofs.run_model.Places.{each_at}
use Rattle.journal_controls.proofs.run_model.Stations.{is_in}
use Rattle.journal_controls.proofs.run_model.Walk.{Ends, IsStopped, IsWhole, ends_with, run_kept}
use Rattle.journal_fixing.specs.OnLines.{control_going, has_heard}
use Rattle.journal_fixing.proofs.GoingLinks.{control_acking}
use Rattle.journal_fixing.proofs.KeptGoing.{AreGoingAt, AtCall, GoingBefore, going_first, going_kept}
use Rattle.journal_fixing.proofs.NotedLines.{notes_going, notes_unheard}

module _ (words : Words) (heard_whole : IsHeardWhole) (understood : IsUnderstood) (taken : AreTaken) (nth : AreNth) (apart : AreApart) (given : Given) (are_two : IsOfTwo given)
    (six : HaveAddresses given) (gives : GivesWords given words) where
  ends : Ends (run_of given) (IsWhole given (AreGoingAt words given)) (IsStopped given (AreGoingAt words given))
  ends = run_kept given (AreGoingAt words given) (going_kept words heard_whole understood taken nth apart given are_two six gives) (going_first words given)

  run_going : Each (GoingBefore words given) [] (history_of (run_of given))
  run_going =
      ends_with (run_of given) (IsWhole given (AreGoingAt words given)) (IsStopped given (AreGoingAt words given)) (Each (GoingBefore words given) []) ends
      (λ history whole. whole.is.each) (λ history stop stopped. stopped.kept.each)

  pub going_before_call : (before rest : List Event) (station : ℕ) (call : Call) → history_of (run_of given) ≡ before ++ Called station call ∷ rest → AtCall words given before station call
  going_before_call before rest station call at = each_at (GoingBefore words given) (history_of (run_of given)) before rest (Called station call) run_going at

  pub heard_before_call : (before rest : List Event) (octets pdu : List ℕ) (station handle : ℕ) (link : OpenLink) → is_in station given.stations ≡ true
      → history_of (run_of given) ≡ before ++ Called station (PacketHeard octets) ∷ rest → link_at handle (facts_at given station before).links ≡ Some link
      → listens_under handle (facts_at given station before).turn.doing ≡ true → good_pdu link.setup (facts_in link) octets ≡ Some pdu
      → has_heard words (side_of station) (number_at station handle before) (journal_of before) ≡ true
  heard_before_call before rest octets pdu station handle link in_it at is_open on good =
      (going_before_call before rest station (PacketHeard octets) at in_it handle link pdu is_open on good).heard

  -- after some of the notes of the call
  pub going_in_call : (before rest : List Event) (octets pdu : List ℕ) (notes : List Note) (station handle : ℕ) (link : OpenLink) → is_in station given.stations ≡ true
      → history_of (run_of given) ≡ before ++ Called station (PacketHeard octets) ∷ (map (Noted station) notes ++ rest)
      → link_at handle (facts_at given station before).links ≡ Some link → listens_under handle (facts_at given station before).turn.doing ≡ true
      → good_pdu link.setup (facts_in link) octets ≡ Some pdu
      → control_going words (side_of station) (number_at station handle before) (journal_of (before ++ Called station (PacketHeard octets) ∷ map (Noted station) notes))
      ≡ Some (control_acking (facts_in link) pdu)
  going_in_call before rest octets pdu notes station handle link in_it at is_open on good =
      let side = side_of station in
      let number = number_at station handle before in
      let is = going_before_call before (map (Noted station) notes ++ rest) station (PacketHeard octets) at in_it handle link pdu is_open on good in
      ap (control_going words side number) (journal_more before (Called station (PacketHeard octets) ∷ map (Noted station) notes))
      ∙ notes_going words side side number (journal_of before) (journal_from (links_of before) (map (Noted station) notes)) (notes_noted (links_of before) station notes) is.heard
      ∙ is.going

  pub silent_in_call : (before rest : List Event) (slot : ℕ) (on : Bool) (notes : List Note) (station : ℕ) (side : Side) (number : ℕ)
      → history_of (run_of given) ≡ before ++ Called station (TurnBegins slot on) ∷ (map (Noted station) notes ++ rest)
      → has_heard words side number (journal_of (before ++ Called station (TurnBegins slot on) ∷ map (Noted station) notes)) ≡ false
  silent_in_call before rest slot on notes station side number at =
      ap (has_heard words side number) (journal_more before (Called station (TurnBegins slot on) ∷ map (Noted station) notes))
      ∙ notes_unheard words (side_of station) side number (journal_of before) (journal_from (links_of before) (map (Noted station) notes)) (notes_noted (links_of before) station notes)
      (going_before_call before (map (Noted station) notes ++ rest) station (TurnBegins slot on) at side number)
