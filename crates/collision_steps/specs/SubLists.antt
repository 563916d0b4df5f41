-- The two directions of a link and the rules of joint runs about them, over any PDUs; and the same for some of the PDUs
-- alone. The rules speak of what was sent and taken before, so they hold of some PDUs where they hold of all.
use Rattle.std.specs.Prelude.{Bool, true, false, not, ◌&&◌, List, [], ◌∷◌, if◌then◌else◌}
use Rattle.machines.specs.Machine.{Machine, step}

-- where the last PDU of a direction is: there is none that is not acknowledged; it is fixed; it was sent and not taken;
-- it was taken
pub data Last (A : Type 0) : Type 0 where
  clear : Last A
  fixed : A → Last A
  on_air : A → Last A
  taken : A → Last A

pub record Directions (A : Type 0) : Type 0 where
  -- from the central
  pub down : Last A
  -- from the peripheral
  pub up : Last A

pub data Move (A : Type 0) : Type 0 where
  central_sends : A → Move A
  central_acked : Move A
  central_takes : Move A
  peripheral_fixes : A → Move A
  peripheral_sends : Move A
  peripheral_acked : Move A
  peripheral_takes : Move A

module _ {A : Type 0} where
  abbrev pub is_clear : Last A → Bool
  is_clear clear = true
  is_clear (fixed a) = false
  is_clear (on_air a) = false
  is_clear (taken a) = false

  abbrev pub is_fixed : Last A → Bool
  is_fixed clear = false
  is_fixed (fixed a) = true
  is_fixed (on_air a) = false
  is_fixed (taken a) = false

  abbrev pub is_on_air : Last A → Bool
  is_on_air clear = false
  is_on_air (fixed a) = false
  is_on_air (on_air a) = true
  is_on_air (taken a) = false

  abbrev pub is_taken : Last A → Bool
  is_taken clear = false
  is_taken (fixed a) = false
  is_taken (on_air a) = false
  is_taken (taken a) = true

  -- the rules: of each direction its order; an end sends only where it has taken all that was sent to it; it takes
  -- nothing while its own PDU was taken and it has not seen that acknowledged
  abbrev pub may_move : Move A → Directions A → Bool
  may_move (central_sends a) s = is_clear s.down && not (is_on_air s.up)
  may_move central_acked s = is_taken s.down
  may_move central_takes s = is_on_air s.up && not (is_taken s.down)
  may_move (peripheral_fixes a) s = is_clear s.up
  may_move peripheral_sends s = is_fixed s.up && not (is_on_air s.down)
  may_move peripheral_acked s = is_taken s.up
  may_move peripheral_takes s = is_on_air s.down && not (is_taken s.up)

  abbrev pub after_taking : Last A → Last A
  after_taking clear = clear
  after_taking (fixed a) = fixed a
  after_taking (on_air a) = taken a
  after_taking (taken a) = taken a

  abbrev pub after_sending : Last A → Last A
  after_sending clear = clear
  after_sending (fixed a) = on_air a
  after_sending (on_air a) = on_air a
  after_sending (taken a) = taken a

  abbrev pub after_move : Move A → Directions A → Directions A
  after_move (central_sends a) s = record { down = on_air a; up = s.up }
  after_move central_acked s = record { down = clear; up = s.up }
  after_move central_takes s = record { down = s.down; up = after_taking s.up }
  after_move (peripheral_fixes a) s = record { down = s.down; up = fixed a }
  after_move peripheral_sends s = record { down = s.down; up = after_sending s.up }
  after_move peripheral_acked s = record { down = s.down; up = clear }
  after_move peripheral_takes s = record { down = after_taking s.down; up = s.up }

  abbrev pub reliable : Machine (Directions A) (Move A)
  reliable = record { start = record { down = clear; up = clear }; may = may_move; act = after_move }

  -- ---- some of the PDUs

  -- a PDU that is left out counts as none
  abbrev pub part : (A → Bool) → Last A → Last A
  part keeps clear = clear
  part keeps (fixed a) = (if keeps a then fixed a else clear)
  part keeps (on_air a) = (if keeps a then on_air a else clear)
  part keeps (taken a) = (if keeps a then taken a else clear)

  abbrev pub part_of : (A → Bool) → Directions A → Directions A
  part_of keeps s = record { down = part keeps s.down; up = part keeps s.up }

  abbrev pub is_kept : (A → Bool) → Last A → Bool
  is_kept keeps clear = true
  is_kept keeps (fixed a) = keeps a
  is_kept keeps (on_air a) = keeps a
  is_kept keeps (taken a) = keeps a

  -- a move is about a PDU that is kept
  abbrev pub is_move_kept : (A → Bool) → Move A → Directions A → Bool
  is_move_kept keeps (central_sends a) s = keeps a
  is_move_kept keeps central_acked s = is_kept keeps s.down
  is_move_kept keeps central_takes s = is_kept keeps s.up
  is_move_kept keeps (peripheral_fixes a) s = keeps a
  is_move_kept keeps peripheral_sends s = is_kept keeps s.up
  is_move_kept keeps peripheral_acked s = is_kept keeps s.up
  is_move_kept keeps peripheral_takes s = is_kept keeps s.down

  -- the moves of a run that are about PDUs which are kept
  abbrev pub moves_kept : (A → Bool) → Directions A → List (Move A) → List (Move A)
  moves_kept keeps s [] = []
  moves_kept keeps s (m ∷ ms) =
      (if may_move m s && is_move_kept keeps m s then m ∷ moves_kept keeps (step reliable m s) ms
      else moves_kept keeps (step reliable m s) ms)
