-- Where a turn is over, nothing of it is left over.
use Rattle.std.proofs.Common.{◌≡◌, ℕ, true, false, Bool, List, [], ◌∷◌, ◌++◌, length, take, refl, sym, ap, ◌∙◌, append-nil}
use Rattle.std.specs.Prelude.{Option}
use Rattle.ble_base.specs.declared.roles.Side.{Side}
use Rattle.ble_base.specs.declared.roles.Side.TheVariants.{A, B}
use Rattle.ble_base.specs.declared.notes.Note.{Note}
use Rattle.ble_base.specs.declared.notes.Note.TheVariants.{Up as UpNote}
use Rattle.journal.specs.declared.entries.Entry.{Entry}
use Rattle.journal.specs.declared.entries.Entry.TheVariants.{Turn}
use Rattle.radio_replay.specs.Script.{Script}
use Rattle.run_model.specs.History.{Event, TurnBegan, HostFed, Called, Noted, Transmitted, fed_to}
use Rattle.run_model.specs.Links.{Links, links_of}
use Rattle.run_model.specs.Journal.{side_of, entry_of, entries_of, journal_of}
use Rattle.run_model.specs.Run.{run_of, history_of}
use Rattle.run_model.specs.Pair.{given_of}
use Rattle.run_model.specs.Due.{octets_called}
use Rattle.run_model.specs.Feeding.{HasNoted, feed_total, feeds_at, is_note, is_of_feeding}
use Rattle.run_model.specs.Readers.{fed_to_side, packets_of, packets_to_host, station_of, turns_of}
use Rattle.run_model.specs.Entries.{IsBetweenTurns, IsUpToDate}
use Rattle.run_model.proofs.Places.{each_at}
use Rattle.run_model.proofs.Stations.{is_in}
use Rattle.run_model.proofs.Dues.{TakenBefore, run_due}
use Rattle.run_model.proofs.Notes.{NotedBefore, run_noted}
use Rattle.run_model.proofs.Feeds.{FedBefore, run_fed}
use Rattle.run_model.proofs.Journals.{pair_fed, pair_packets}
use Rattle.run_model.proofs.EntryEvents.{is_of_event}
use Rattle.run_model.proofs.Fates.{turns_are}
use Rattle.run_model.proofs.Ordered.{pair_distinct}

is_side : (a b : List ℕ) (script : Script) (side : Side) → is_in (station_of side) (given_of a b script).stations ≡ true
is_side a b script A = refl
is_side a b script B = refl

up_to_date : (a b : List ℕ) (script : Script) (front : List Entry) (before rest : List Event) → history_of (run_of (given_of a b script)) ≡ before ++ rest
    → IsBetweenTurns rest → front ≡ journal_of before
    → ((station : ℕ) → octets_called station before ≡ fed_to station before)
    → ((station : ℕ) → is_in station (given_of a b script).stations ≡ true → fed_to station before ≡ feeds_at (given_of a b script) station before)
    → ((station : ℕ) → HasNoted (given_of a b script) station before) → IsUpToDate (given_of a b script) front
up_to_date a b script front before rest is between are is_taken is_fed is_noted =
    let given = given_of a b script in record {
      before = before;
      of_run = record { after = rest; is_at = is; between = between; front_is = are };
      fed_is = λ side. ap (λ entries. fed_to_side side entries) are ∙ pair_fed a b script before rest side is
          ∙ is_fed (station_of side) (is_side a b script side)
          ∙ ap (λ n. take (feed_total (station_of side) (take n given.plans)) (given.station_of (station_of side)).stream)
          (sym (turns_are before) ∙ ap (λ entries. length (turns_of entries)) (sym are));
      taken_is = λ side. is_taken (station_of side) ∙ sym (pair_fed a b script before rest side is) ∙ ap (λ entries. fed_to_side side entries) (sym are);
      received_is = λ side. ap (λ entries. packets_to_host side entries) are ∙ pair_packets a b script before rest side is
          ∙ ap packets_of (is_noted (station_of side));
    }

record IsOutside (event : Event) : Type 0 where
  pub begins : (rest : List Event) → IsBetweenTurns (event ∷ rest)
  pub feeds : is_of_feeding event ≡ false
  pub notes : is_note event ≡ false

pub note_not_turn : (own : Side) (link : ℕ → ℕ) (last : ℕ) (note : Note) (slot : ℕ) (a_on : Bool) (b_on : Option Bool) (X : Type 0)
    → entry_of own link last note ∷ [] ≡ Turn slot a_on b_on ∷ [] → X
note_not_turn own link last (UpNote packet) slot a_on b_on X is = absurd cc
note_not_turn own link last note slot a_on b_on X is = absurd cc

turn_event : (links : Links) (event : Event) (slot : ℕ) (a_on : Bool) (b_on : Option Bool) → entries_of links event ≡ Turn slot a_on b_on ∷ [] → IsOutside event
turn_event links (TurnBegan number radios) slot a_on b_on is = record { begins = λ rest. tt; feeds = refl; notes = refl }
turn_event links (HostFed station octets) slot a_on b_on is = absurd cc
turn_event links (Called station step) slot a_on b_on is = absurd cc
turn_event links (Noted station note) slot a_on b_on is = note_not_turn (side_of station) (links.link_of station) (links.last_of station) note slot a_on b_on _ is
turn_event links (Transmitted station channel octets []) slot a_on b_on is = absurd cc
turn_event links (Transmitted station channel octets (hearing ∷ hearings)) slot a_on b_on is = absurd cc

pub pair_turn : (a b : List ℕ) (script : Script) (front rest : List Entry) (slot : ℕ) (a_on : Bool) (b_on : Option Bool)
    → journal_of (history_of (run_of (given_of a b script))) ≡ front ++ Turn slot a_on b_on ∷ rest → IsUpToDate (given_of a b script) front
pair_turn a b script front rest slot a_on b_on is =
    let given = given_of a b script in
    let history = history_of (run_of given) in
    let one = is_of_event history front rest (Turn slot a_on b_on) is in
    let outside = turn_event (links_of one.before) one.event slot a_on b_on one.entry_is in
    up_to_date a b script front one.before (one.event ∷ one.after) one.is_at (outside.begins one.after) one.front_is
    (each_at TakenBefore history one.before one.after one.event (run_due given).before one.is_at outside.feeds)
    (each_at (FedBefore given) history one.before one.after one.event (run_fed given (pair_distinct a b script)).each one.is_at outside.feeds)
    (each_at (NotedBefore given) history one.before one.after one.event (run_noted given).each one.is_at outside.notes)

pub pair_last : (a b : List ℕ) (script : Script) → IsUpToDate (given_of a b script) (journal_of (history_of (run_of (given_of a b script))))
pair_last a b script =
    let given = given_of a b script in
    let history = history_of (run_of given) in
    up_to_date a b script (journal_of history) history [] (sym (append-nil history)) tt refl
    (run_due given).taken (run_fed given (pair_distinct a b script)).fed (run_noted given).noted
