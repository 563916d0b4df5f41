-- What a run of two controllers is given, and what it makes of it (our choice).
use Rattle.std.specs.Prelude.{◌≡◌, ℕ, zero, suc, List, [], ◌∷◌, map}
use Rattle.journal.specs.declared.entries.Entry.{Entry}
use Rattle.radio_replay.specs.Script.{Script, Turn}
use Rattle.controller_model.specs.Facts.{Setup, setup_of}
use Rattle.run_model.specs.History.{Event}
use Rattle.run_model.specs.Run.{Given, Station, Plan, GoesOn, Stops, Stop, run_of}
use Rattle.run_model.specs.Journal.{journal_of}

-- the first of two for station 0, and the second for all others
abbrev pub one_of : {X : Type 0} → X → X → ℕ → X
one_of first second zero = first
one_of first second (suc station) = second

abbrev pub plan_of : Turn → Plan
plan_of turn = record {
  radio_of = one_of turn.a_on turn.b_on;
  feed_of = one_of turn.feed_a turn.feed_b;
  fates = turn.fates;
}

-- how many links each controller of a pair can hold (our choice)
abbrev pub pair_links : ℕ
pair_links = 3

-- how many packets of its host each of them can hold, and how many from the air (our choice)
abbrev pub pair_buffers : ℕ
pair_buffers = 8

-- a station that is set up so, with the stream of its host
abbrev pub station_with : Setup → List ℕ → Station
station_with setup stream = record { setup = setup; stream = stream }

-- the input of two controllers, each of which can hold this number of links: the whole streams of both hosts, and the
-- schedule
abbrev pub given_with : ℕ → List ℕ → List ℕ → Script → Given
given_with links a b script = record {
  stations = 0 ∷ 1 ∷ [];
  station_of = one_of
      (station_with (setup_of script.a links pair_buffers pair_buffers) a)
      (station_with (setup_of script.b links pair_buffers pair_buffers) b);
  plans = map plan_of script.turns;
}

-- what a pair is given
abbrev pub given_of : List ℕ → List ℕ → Script → Given
given_of a b script = given_with pair_links a b script

-- this is the journal of a whole run
pub record IsRun (given : Given) (journal : List Entry) : Type 0 where
  pub history : List Event
  pub is_whole : run_of given ≡ GoesOn history
  pub written : journal ≡ journal_of history

-- unseen damage ends the run in this turn, at this packet of it, counted from 1; this is the journal up to there
pub record EndsUnseen (given : Given) (turn packet : ℕ) (sent heard : List ℕ) (journal : List Entry) : Type 0 where
  pub history : List Event
  pub stop : Stop
  pub stops : run_of given ≡ Stops history stop
  pub written : journal ≡ journal_of history
  pub turn_is : turn ≡ stop.slot
  pub packet_is : packet ≡ stop.place
  pub sent_is : sent ≡ stop.sent
  pub heard_is : heard ≡ stop.heard
