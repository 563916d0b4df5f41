-- A side whose radio is off sends nothing, and misses each packet.
use Rattle.std.proofs.Common.{◌≡◌, ℕ, zero, suc, ◌-◌, Bool, true, false, List, [], ◌∷◌, ◌++◌, length, inl, inr, refl, sym, ap, ◌∙◌}
use Rattle.std.specs.Prelude.{map, Some, slice_get}
use Rattle.ble_base.specs.Side.{other_side}
use Rattle.ble_base.specs.declared.roles.Side.{Side}
use Rattle.ble_base.specs.declared.roles.Side.TheVariants.{A, B}
use Rattle.ble_base.specs.declared.verdicts.Verdict.{Verdict}
use Rattle.ble_base.specs.declared.verdicts.Verdict.TheVariants.{Missed}
use Rattle.journal.specs.declared.entries.Entry.{Entry}
use Rattle.journal.specs.declared.entries.Mark.{Mark}
use Rattle.radio_replay.specs.Damage.{damaged_packet}
use Rattle.radio_replay.specs.Script.{Script, Turn as ScriptTurn}
use Rattle.radio_replay.specs.declared.fates.Fate.{Fate}
use Rattle.run_model.specs.controller_model.Facts.{Use, Sends, Idle}
use Rattle.run_model.specs.controller_model.Packets.{channel_listened, use_of}
use Rattle.run_model.specs.Due.{plan_at}
use Rattle.run_model.specs.Entries.{IsAired}
use Rattle.run_model.specs.History.{Event, Hearing, Transmitted, fates_used, turns_begun}
use Rattle.run_model.specs.Journal.{journal_of, side_of}
use Rattle.run_model.specs.Pair.{given_of, plan_of}
use Rattle.run_model.specs.Readers.{IsOfStations, station_of, turns_of}
use Rattle.run_model.specs.Run.{Given, Plan, facts_at, fate_at, hearing_at, hearings_from, hearings_of, history_of, others_than, reaches, run_of, setup_at, use_at, verdict_where}
use Rattle.run_model.proofs.Fates.{turns_are}
use Rattle.run_model.proofs.Journals.{two}
use Rattle.run_model.proofs.Places.{each_at}
use Rattle.run_model.proofs.Stations.{is_in}
use Rattle.journal_turns.specs.Radios.{IsOnRadio, radio_of}
use Rattle.journal_turns.proofs.Quiet.{IsSilent, SilentBefore, does_nothing, run_silent}

-- ---- one station

is_idle : (given : Given) (station : ℕ) (history : List Event) (plan : Plan) → plan_at given history ≡ Some plan → IsSilent given history station
    → plan.radio_of station ≡ false → use_at given station history ≡ Idle
unfolding use_of
is_idle given station history plan is_now silent off = (does_nothing (setup_at given station) _ (silent plan is_now off)).idle

pub sends_on : (given : Given) (station channel : ℕ) (octets : List ℕ) (history : List Event) (plan : Plan) → plan_at given history ≡ Some plan
    → IsSilent given history station → use_at given station history ≡ Sends channel octets → (on : Bool) → plan.radio_of station ≡ on → on ≡ true
sends_on given station channel octets history plan is_now silent wanted true is = refl
sends_on given station channel octets history plan is_now silent wanted false is =
    let idle = is_idle given station history plan is_now silent is in
    absurd (let h : Idle ≡ Sends channel octets = sym idle ∙ wanted in absurd cc)

pub misses_at : (given : Given) (fate : Fate) (channel : ℕ) (octets : List ℕ) (history : List Event) (listener : ℕ) (plan : Plan) → plan_at given history ≡ Some plan
    → IsSilent given history listener → plan.radio_of listener ≡ false → (hearing_at given fate channel octets history listener).verdict ≡ Missed
misses_at given fate channel octets history listener plan is_now silent off =
    ap (λ (wanted : Use). verdict_where (reaches fate channel (channel_listened wanted)) (facts_at given listener history) (damaged_packet fate octets))
    (is_idle given listener history plan is_now silent off)

-- ---- a pair

-- the turn of a plan
pub record IsTurnOf (turns : List ScriptTurn) (place : ℕ) (plan : Plan) : Type 0 where
  pub turn : ScriptTurn
  pub is : slice_get turns place ≡ Some turn
  pub plan_is : plan ≡ plan_of turn

pub turn_at : (turns : List ScriptTurn) (place : ℕ) (plan : Plan) → slice_get (map plan_of turns) place ≡ Some plan → IsTurnOf turns place plan
turn_at [] place plan is = absurd cc
turn_at (turn ∷ turns) zero plan is = let same : plan_of turn ≡ plan = cc in record { turn = turn; is = refl; plan_is = sym same }
turn_at (turn ∷ turns) (suc place) plan is = let rest = turn_at turns place plan is in record { turn = rest.turn; is = rest.is; plan_is = rest.plan_is }

pub plan_radio : (side : Side) (turn : ScriptTurn) → (plan_of turn).radio_of (station_of side) ≡ radio_of side turn
plan_radio A turn = refl
plan_radio B turn = refl

-- the other side is the only listener
one_listener : (given : Given) (fates : List Fate) (number channel : ℕ) (octets : List ℕ) (history : List Event) (listener : ℕ) (hearing : Hearing) (others : List Hearing)
    → hearing ∷ others ≡ hearings_from given fates number channel octets history (listener ∷ [])
    → hearing ≡ hearing_at given (fate_at fates number) channel octets history listener
one_listener given fates number channel octets history listener hearing others is = cc

pub other_station : (side : Side) → others_than (station_of side) (0 ∷ 1 ∷ []) ≡ station_of (other_side side) ∷ []
other_station A = refl
other_station B = refl

pub is_one : (side : Side) → is_in (station_of side) (0 ∷ 1 ∷ []) ≡ true
is_one A = refl
is_one B = refl

on_radio : (a b : List ℕ) (script : Script) (before : List Event) (entries : List Entry) (side : Side) (channel : ℕ) (octets : List ℕ) (plan : Plan)
    (hearing : Hearing) (others : List Hearing) (verdict : Verdict)
    → entries ≡ journal_of before → plan_at (given_of a b script) before ≡ Some plan
    → use_at (given_of a b script) (station_of side) before ≡ Sends channel octets
    → hearing ∷ others ≡ hearings_of (given_of a b script) plan.fates (station_of side) channel octets before
    → verdict ≡ hearing.verdict
    → ((other : ℕ) → is_in other (0 ∷ 1 ∷ []) ≡ true → IsSilent (given_of a b script) before other)
    → IsOnRadio script entries side verdict
on_radio a b script before entries side channel octets plan hearing others verdict are is_now wanted hearings_are verdict_is silent =
    let given = given_of a b script in
    let of_turn = turn_at script.turns (turns_begun before - 1) plan is_now in
    let listener = station_of (other_side side) in
    let one = one_listener given plan.fates (fates_used before) channel octets before listener hearing others
    (hearings_are ∙ ap (hearings_from given plan.fates (fates_used before) channel octets before) (other_station side)) in
    record {
      turn = of_turn.turn;
      is_now = ap (λ xs. slice_get script.turns (length (turns_of xs) - 1)) are ∙ ap (λ n. slice_get script.turns (n - 1)) (turns_are before) ∙ of_turn.is;
      sends = sym (plan_radio side of_turn.turn) ∙ ap (λ (p : Plan). p.radio_of (station_of side)) (sym of_turn.plan_is)
          ∙ sends_on given (station_of side) channel octets before plan is_now (silent (station_of side) (is_one side)) wanted (plan.radio_of (station_of side)) refl;
      misses = λ off. verdict_is ∙ ap (λ (h : Hearing). h.verdict) one
          ∙ misses_at given (fate_at plan.fates (fates_used before)) channel octets before listener plan is_now (silent listener (is_one (other_side side)))
          (ap (λ (p : Plan). p.radio_of listener) of_turn.plan_is ∙ plan_radio (other_side side) of_turn.turn ∙ off);
    }

-- the station of a side, by its number
station_is : (station : ℕ) (side : Side) → side ≡ side_of station → is_in station (0 ∷ 1 ∷ []) ≡ true → station ≡ station_of side
station_is station side is in_it = elim (two station in_it) [
  | inl zeroth ↦ zeroth ∙ ap station_of (sym (is ∙ ap side_of zeroth))
  | inr first ↦ first ∙ ap station_of (sym (is ∙ ap side_of first))
]

pub is_on_radio : (a b : List ℕ) (script : Script) (front : List Entry) (side : Side) (channel : ℕ) (octets : List ℕ) (fate : Mark) (verdict : Verdict)
    → IsAired (given_of a b script) front side channel octets fate verdict
    → ((before rest : List Event) (event : Event) → history_of (run_of (given_of a b script)) ≡ before ++ event ∷ rest → IsOfStations (0 ∷ 1 ∷ []) event)
    → IsOnRadio script front side verdict
is_on_radio a b script front side channel octets fate verdict aired of_stations =
    let given = given_of a b script in
    let event = Transmitted aired.station channel octets (aired.hearing ∷ aired.others) in
    let same = station_is aired.station side aired.side_is (of_stations aired.before aired.after event aired.is_at) in
    on_radio a b script aired.before front side channel octets aired.is_due.plan aired.hearing aired.others verdict
    aired.front_is aired.is_due.is_now
    (ap (λ station. use_at given station aired.before) (sym same) ∙ aired.is_due.is_wanted)
    (aired.is_due.hearings_are ∙ ap (λ station. hearings_of given aired.is_due.plan.fates station channel octets aired.before) same)
    aired.verdict_is
    (each_at (SilentBefore given) (history_of (run_of given)) aired.before aired.after event (run_silent given) aired.is_at)
