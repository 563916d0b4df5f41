-- What tells turns, octets, fates and verdicts apart.
use Rattle.std.proofs.Common.{◌≡◌, ℕ, ◌-◌, Bool, true, false, List, [], ◌∷◌, ◌++◌, length, refl, sym, ap, ◌∙◌}
use Rattle.std.specs.Prelude.{Option, Some, None, slice_get, take, drop}
use Rattle.ble_base.specs.Side.{other_side}
use Rattle.ble_base.specs.declared.roles.Side.{Side}
use Rattle.ble_base.specs.declared.verdicts.Verdict.{Verdict}
use Rattle.ble_base.specs.declared.verdicts.Verdict.TheVariants.{Missed}
use Rattle.journal.specs.declared.entries.Entry.{Entry}
use Rattle.journal.specs.declared.entries.Mark.{Mark}
use Rattle.journal.specs.declared.entries.Mark.TheVariants.{Damage as Damaged, Lost as WasLost}
use Rattle.radio_replay.specs.Damage.{damaged_packet, xor_of}
use Rattle.radio_replay.specs.Script.{Script, Turn as ScriptTurn, fate_of}
use Rattle.radio_replay.specs.declared.fates.Fate.{Fate}
use Rattle.radio_replay.specs.declared.fates.Fate.TheVariants.{Damage, Lost, Pass}
use Rattle.run_model.specs.Journal.{mark_of}
use Rattle.run_model.specs.Readers.{HasNextFate, PairOpening, turn_packets, turns_of}
use Rattle.journal_pdus.specs.journal_turns.Radios.{IsOnRadio, radio_of}
use Rattle.wrong_journals.proofs.Differing.{numbers_differ}
use Rattle.wrong_journals.proofs.Packets.{some_is}

abbrev pub first_slot : List PairOpening → ℕ
first_slot [] = 0
first_slot (turn ∷ turns) = turn.slot

abbrev pub first_radio : List PairOpening → Option Bool
first_radio [] = None
first_radio (turn ∷ turns) = turn.b_on

abbrev pub is_on : Option Bool → Bool
is_on None = false
is_on (Some on) = on

abbrev pub is_single : {X : Type 0} → List X → Bool
is_single (x ∷ []) = true
is_single _ = false

abbrev pub first_octet : List ℕ → ℕ
first_octet [] = 0
first_octet (octet ∷ octets) = octet

abbrev pub is_lost_mark : Mark → Bool
is_lost_mark WasLost = true
is_lost_mark _ = false

abbrev pub is_missed : Verdict → Bool
is_missed Missed = true
is_missed _ = false

-- the fate of a packet, where the turn is known
pub fate_is : (script : Script) (front : List Entry) (fate : Mark) (turn : ScriptTurn)
    → slice_get script.turns (length (turns_of front) - 1) ≡ Some turn → HasNextFate script front fate
    → fate ≡ mark_of (fate_of turn (turn_packets front))
fate_is script front fate turn known has =
    has.fate_is ∙ ap (λ (t : ScriptTurn). mark_of (fate_of t (turn_packets front))) (some_is has.turn turn (sym has.is_now ∙ known))

abbrev marked_place : Mark → ℕ
marked_place (Damaged at pattern) = at
marked_place _ = 0

abbrev marked_pattern : Mark → List ℕ
marked_pattern (Damaged at pattern) = pattern
marked_pattern _ = []

-- a change of the first bit is heard as another octet
pub is_changed : (done : Fate) (octets : List ℕ) → Damaged 0 (0x01 ∷ []) ≡ mark_of done
    → damaged_packet done (0x00 ∷ octets) ≡ 0x00 ∷ octets → ⊥
is_changed Pass octets is same = absurd cc
is_changed Lost octets is same = absurd cc
is_changed (Damage at pattern) octets is same =
    let place : 0 ≡ at = ap marked_place is in
    let pattern_is : 0x01 ∷ [] ≡ pattern.items = ap marked_pattern is in
    numbers_differ 1 0 refl
    (ap first_octet
    (ap (λ n. take n (0x00 ∷ octets) ++ xor_of (0x01 ∷ []) (drop n (0x00 ∷ octets))) place
    ∙ ap (λ xs. take at (0x00 ∷ octets) ++ xor_of xs (drop at (0x00 ∷ octets))) pattern_is ∙ same))

-- the radios of a packet, where the turn is known
pub record IsOnAs (turn : ScriptTurn) (side : Side) (verdict : Verdict) : Type 0 where
  pub sends : radio_of side turn ≡ true
  pub misses : radio_of (other_side side) turn ≡ false → verdict ≡ Missed

pub on_as : (script : Script) (front : List Entry) (side : Side) (verdict : Verdict) (turn : ScriptTurn)
    → slice_get script.turns (length (turns_of front) - 1) ≡ Some turn → IsOnRadio script front side verdict
    → IsOnAs turn side verdict
on_as script front side verdict turn known on =
    let same : turn ≡ on.turn = some_is turn on.turn (sym known ∙ on.is_now) in
    record {
      sends = ap (radio_of side) same ∙ on.sends;
      misses = λ off. on.misses (ap (radio_of (other_side side)) (sym same) ∙ off);
    }
