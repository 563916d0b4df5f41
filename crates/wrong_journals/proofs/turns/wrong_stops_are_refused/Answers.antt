-- A run does not stop where its fault says.
use Rattle.std.proofs.Common.{◌≡◌, ℕ, List, refl, sym, ap, ◌∙◌}
use Rattle.std.specs.Prelude.{slice_index_or}
use Rattle.radio_replay.specs.Damage.{damaged_packet}
use Rattle.radio_replay.specs.Script.{Turn as ScriptTurn, fate_of}
use Rattle.wrong_journals.specs.Turns.{damaged_turn, two_octets}
use Rattle.wrong_journals.proofs.Differing.{numbers_differ}
use Rattle.wrong_journals.proofs.Packets.{some_is}
use Rattle.wrong_journals.proofs.turns.wrong_stops_are_refused.Goals as goal

abbrev first_octet : List ℕ → ℕ
first_octet octets = slice_index_or octets 0 0

pub returns-clause-right : goal.returns-clause-right
returns-clause-right c a b = record {
  now = damaged_turn;
  is_now = refl;
  in_turn = refl;
  place = refl;
  sends = refl;
  listens = refl;
  heard_is = refl;
  differs = λ same. numbers_differ 0xA1 0xA0 refl (ap first_octet same);
}

pub returns-clause-early : goal.returns-clause-early
returns-clause-early c a b stopped = numbers_differ 1 2 refl stopped.in_turn

pub returns-clause-place : goal.returns-clause-place
returns-clause-place c a b stopped = numbers_differ 2 1 refl stopped.place

pub returns-clause-unchanged : goal.returns-clause-unchanged
returns-clause-unchanged c a b stopped = stopped.differs refl

pub returns-clause-otherwise : goal.returns-clause-otherwise
returns-clause-otherwise c a b stopped =
    let same : stopped.now ≡ damaged_turn = some_is stopped.now damaged_turn (sym stopped.is_now) in
    numbers_differ 0xA3 0xA1 refl (ap first_octet (stopped.heard_is ∙ ap (λ (turn : ScriptTurn). damaged_packet (fate_of turn 0) two_octets) same))
