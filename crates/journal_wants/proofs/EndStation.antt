-- As a turn ends, what the lines of a side say of it stays what its controller holds: its host receives what it waited for,
-- and the links end that are to end.
use Rattle.std.proofs.Common.{◌≡◌, ℕ, List, [], ◌∷◌, ◌++◌, map, refl, sym, ap, subst, ◌∙◌, append-nil}
use Rattle.std.specs.Prelude.{flat_map, fold}
use Rattle.ble_base.specs.declared.notes.Note.{Note}
use Rattle.acl_banks.specs.declared.pieces.Piece.{Piece}
use Rattle.journal_events.specs.journal_sending.controller_model.Data.{event_completed, facts_handed, note_received, notes_handed, notes_pieces, pieces_handed}
use Rattle.journal_events.specs.journal_sending.controller_model.Events.{notes_of_events}
use Rattle.journal_events.specs.journal_sending.controller_model.Facts.{Facts, Setup}
use Rattle.journal_events.specs.journal_sending.controller_model.Links.{ends_for, facts_shut, notes_ended, notes_leaving}
use Rattle.journal_events.specs.journal_sending.controller_model.Packets.{facts_doing}
use Rattle.journal_events.specs.journal_sending.controller_model.declared.doing.Doing.TheVariants.{Rests}
use Rattle.journal_events.specs.journal_sending.controller_model.Side.{facts_after, notes_after}
use Rattle.journal_events.specs.journal_sending.controller_model.Step.{TurnEnds}
use Rattle.journal_events.specs.journal_sending.journal_controls.journal_ends.Asked.{Words}
use Rattle.journal_events.specs.journal_sending.journal_data.open_links.declared.ended.LinkEnded.{LinkEnded}
use Rattle.journal_events.specs.journal_sending.journal_data.open_links.Data.{completed_from}
use Rattle.journal_events.specs.journal_sending.journal_data.open_links.Turns.{ending_in, links_without}
use Rattle.journal_events.specs.journal_sending.run_model.History.{Event, Called, Noted}
use Rattle.journal_events.specs.journal_sending.run_model.Journal.{side_of}
use Rattle.journal_events.specs.journal_sending.run_model.Run.{Given, after_call, facts_at, history_of, run_of, setup_at}
use Rattle.journal_wants.specs.Station.{Setups, Station}
use Rattle.journal_wants.proofs.CallLines.{IsResolved, ends_set, plain_still}
use Rattle.journal_wants.proofs.HostSet.{IsSetAs, host_set}
use Rattle.journal_wants.proofs.NotedStation.{ArePlain, at, both_plain}
use Rattle.journal_wants.proofs.OctetStation.{events_plain}
use Rattle.journal_wants.proofs.PassStation.{IsPassed}
use Rattle.journal_wants.proofs.StationLines.{station_called}

pieces_plain : (pieces : List (ℕ × Piece)) → ArePlain (map note_received pieces)
pieces_plain [] = tt
pieces_plain (piece ∷ pieces) = (refl, pieces_plain pieces)

pub handed_plain : (facts : Facts) → ArePlain (notes_handed facts)
handed_plain facts =
    both_plain (notes_pieces facts) (notes_of_events facts.view (map event_completed (completed_from 0 facts.links))) (pieces_plain (pieces_handed facts))
    (events_plain facts.view (map event_completed (completed_from 0 facts.links)))

module _ (words : Words) (setups : Setups) (given : Given) (station : ℕ) (base rest : List Event)
    (in_run : history_of (run_of given) ≡ after_call given station TurnEnds base ++ rest)
    (resolved : (before more : List Event) (note : Note) → history_of (run_of given) ≡ before ++ Noted station note ∷ more → IsResolved station before note) where
  pub ended_lines : IsSetAs (at words setups station base) (facts_at given station base)
      → IsPassed (at words setups station base) (at words setups station (after_call given station TurnEnds base))
      (facts_after (setup_at given station) (facts_at given station base) TurnEnds)
  ended_lines set =
      let facts = facts_at given station base in
      let handed = facts_handed facts in
      let before = at words setups station base in
      let now = λ (earlier : List Note). at words setups station (base ++ Called station TurnEnds ∷ map (Noted station) earlier) in
      let called : now [] ≡ before = station_called words setups (side_of station) base station TurnEnds in
      let told : now (notes_handed facts) ≡ now [] =
      plain_still words setups given station base rest TurnEnds tt in_run resolved [] (notes_handed facts) (notes_leaving handed) refl (handed_plain facts) in
      let both = told ∙ called in
      let all : notes_after (setup_at given station) facts TurnEnds ≡ notes_handed facts ++ (notes_leaving handed ++ []) =
      ap (λ xs. notes_handed facts ++ xs) (sym (append-nil (notes_leaving handed))) in
      let ended = ends_set words setups given station base rest TurnEnds tt in_run resolved handed.view (notes_handed facts) (ends_for ending_in handed) []
      (record handed { links = links_without ending_in handed.links }) all
      (record {
        set = ap (λ (s : Station). host_set s.view) both ∙ set.set;
        advertising = ap (λ (s : Station). s.advertising) both ∙ set.advertising;
        scanning = ap (λ (s : Station). s.scanning) both ∙ set.scanning;
        initiator = ap (λ (s : Station). s.initiator) both ∙ set.initiator;
        radio = ap (λ (s : Station). s.radio) both ∙ set.radio;
      }) in record {
        set = record {
          set = ended.set.set;
          advertising = ended.set.advertising;
          scanning = ended.set.scanning;
          initiator = ended.set.initiator;
          radio = ended.set.radio;
        };
        same = record {
          served = ended.same.served ∙ ap (λ (s : Station). s.served) both;
          on = ended.same.on ∙ ap (λ (s : Station). s.on) both;
          doing = ended.same.doing ∙ ap (λ (s : Station). s.doing) both;
        };
      }

  -- where no link ends, only packets to the host are noted
  pub quiet_lines : ends_for ending_in (facts_handed (facts_at given station base)) ≡ []
      → at words setups station (after_call given station TurnEnds base) ≡ at words setups station base
  quiet_lines none =
      let facts = facts_at given station base in
      let handed = facts_handed facts in
      let notes = notes_after (setup_at given station) facts TurnEnds in
      let plain : ArePlain notes =
      both_plain (notes_handed facts) (notes_leaving handed) (handed_plain facts)
      (subst (λ (ended : List LinkEnded). ArePlain (flat_map (notes_ended handed.view) ended)) (sym none) tt) in
      plain_still words setups given station base rest TurnEnds tt in_run resolved [] notes [] (sym (append-nil notes)) plain
      ∙ station_called words setups (side_of station) base station TurnEnds

pub quiet_set : (setup : Setup) (station : Station) (facts : Facts) → ends_for ending_in (facts_handed facts) ≡ [] → IsSetAs station facts
    → IsSetAs station (facts_after setup facts TurnEnds)
quiet_set setup station facts none is =
    let handed = facts_handed facts in
    subst (λ (ended : List LinkEnded). IsSetAs station (facts_doing Rests (fold facts_shut (record handed { links = links_without ending_in handed.links }) ended)))
    (sym none) (record { set = is.set; advertising = is.advertising; scanning = is.scanning; initiator = is.initiator; radio = is.radio })
