-- Proof of `runs::short_damage_never_ends_a_run`.
use Rattle.std.proofs.Common.{List, [], ◌∷◌, map, refl}
use Rattle.std.specs.List.{All}
use Rattle.std.proofs.lemmas.List.Elements.{All-cons, All-head, All-nil, All-tail}
use Rattle.radio_replay.specs.Script.{Turn}
use Rattle.link_calls.specs.run_model.Pair.{given_of, plan_of}
use Rattle.link_calls.specs.run_model.Run.{Plan}
use Rattle.link_calls.proofs.run_model.LinkEnds.{pair_addresses}
use Rattle.link_calls.proofs.run_model.Ordered.{pair_distinct}
use Rattle.link_calls.proofs.run_laws.TwoStations.{are_two}
use Rattle.short_damage.specs.Short.{IsShort}
use Rattle.short_damage.proofs.NeverWhole.{AreLaws}
use Rattle.short_damage.proofs.NoStop.{no_stop}
use Rattle.short_damage.proofs.runs.short_damage_never_ends_a_run.Goals as goal
use Rattle.short_damage.proofs.runs.short_damage_never_ends_a_run.Goals.{After-whitening_goes_bit_by_bit}

short_plans : (turns : List Turn) → All (λ turn. All IsShort turn.fates) turns
    → All (λ plan. All IsShort plan.fates) (map plan_of turns)
short_plans [] all = All-nil (λ (plan : Plan). All IsShort plan.fates)
short_plans (turn ∷ turns) all =
    All-cons (λ (plan : Plan). All IsShort plan.fates) (plan_of turn) (map plan_of turns)
    (All-head (λ (turn : Turn). All IsShort turn.fates) turn turns all)
    (short_plans turns (All-tail (λ (turn : Turn). All IsShort turn.fates) turn turns all))

laws : After-whitening_goes_bit_by_bit → AreLaws
laws c = record {
  never = c.short_damage_is_never_whole.ensures;
  bitwise = c.whitening_goes_bit_by_bit.ensures;
  long = c.packet_tells_its_pdu.ensures.length;
}

pub returns-clause-two : goal.returns-clause-two
returns-clause-two c = λ given one other history stop stations distinct six short stops.
    no_stop (laws c) c.a_pdu_is_understood.ensures.says c.connections_are_taken.ensures.taken
    c.searches_give_each_valid_address.ensures.distinct
    given six distinct (are_two given one other stations) short history stop stops

pub returns-clause-pair : goal.returns-clause-pair
returns-clause-pair c = λ a b script turn packet sent heard journal six six_too short ends.
    no_stop (laws c) c.a_pdu_is_understood.ensures.says c.connections_are_taken.ensures.taken
    c.searches_give_each_valid_address.ensures.distinct
    (given_of a b script) (pair_addresses a b script six six_too) (pair_distinct a b script)
    (are_two (given_of a b script) 0 1 refl)
    (short_plans script.turns short) ends.history ends.stop ends.stops
