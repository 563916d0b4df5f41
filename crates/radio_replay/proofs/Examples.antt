-- Small texts, read by computing the definition.
use Rattle.std.proofs.Common.{◌≡◌, [], ◌∷◌, true, false, refl, codes}
use Rattle.hex.proofs.OnLiterals.{hex_on_literals}
use Rattle.radio_replay.specs.declared.fates.Fate.TheVariants.{Pass, Lost, Damage}
use Rattle.radio_replay.specs.Schedule.{Right, Wrong, schedule_of}
use Rattle.radio_replay.specs.TurnLine.{plain_turn}

-- digits of either case, a line without a newline at the end, repeated turns, and a turn that feeds one side alone and
-- has fates
pub five_turns :
    schedule_of (codes "ble-schedule 1\nside a c0ffee00000a 71764129 0000000000000001\nside b C0FFEE00000B 00000010 0000000000000002 0000000000000003\nt ++ a41 b17\nrun 3\nt +- b1048576 . x e11:01C0b4")
    ≡ Right (record { public = 10 ∷ 0 ∷ 0 ∷ 238 ∷ 255 ∷ 192 ∷ []; cursor = 1903575337; words = record { items = 1 ∷ [] } })
    (record { public = 11 ∷ 0 ∷ 0 ∷ 238 ∷ 255 ∷ 192 ∷ []; cursor = 16; words = record { items = 2 ∷ 3 ∷ [] } })
    (record { a_on = true; b_on = true; feed_a = 41; feed_b = 17; fates = [] }
    ∷ plain_turn ∷ plain_turn ∷ plain_turn
    ∷ record { a_on = true; b_on = false; feed_a = 0; feed_b = 1048576; fates = Pass ∷ Lost ∷ Damage 11 (record { items = 1 ∷ 192 ∷ 180 ∷ [] }) ∷ [] } ∷ [])
unfolding hex_on_literals
five_turns = refl

-- a count past the most
pub too_many_octets :
    schedule_of (codes "ble-schedule 1\nside a c0ffee00000a 71764129 0000000000000001\nside b c0ffee00000b 71764129 0000000000000002\nt ++\nt ++ a1048577\n") ≡ Wrong 5
unfolding hex_on_literals
too_many_octets = refl

-- two spaces in a row
pub empty_word :
    schedule_of (codes "ble-schedule 1\nside a c0ffee00000a 71764129 0000000000000001\nside b c0ffee00000b 71764129 0000000000000002\nt  ++\n") ≡ Wrong 4
unfolding hex_on_literals
empty_word = refl

-- no line
pub no_line : schedule_of [] ≡ Wrong 1
no_line = refl
