-- The PDUs of some kinds that were fixed or sent and not taken, in the two directions of a link: all that a joint run
-- of exchanges has of the directions.
use Rattle.std.specs.Prelude.{◌≡◌, ⊤, Option, None}
use Rattle.collision_steps.specs.SubLists.{Directions, Last, Move, central_acked, central_sends, central_takes, clear, fixed, on_air, peripheral_acked, peripheral_fixes, peripheral_sends, peripheral_takes, taken}

-- from the central and from the peripheral
pub record Ways (B : Type 0) : Type 0 where
  pub down : Option B
  pub up : Option B

module _ {A B : Type 0} where
  -- the last PDU of a direction, if it is of these kinds and not taken
  abbrev pub untaken : (A → Option B) → Last A → Option B
  untaken part clear = None
  untaken part (fixed a) = part a
  untaken part (on_air a) = part a
  untaken part (taken a) = None

  abbrev pub ways_of : (A → Option B) → Directions A → Ways B
  ways_of part s = record { down = untaken part s.down; up = untaken part s.up }

  -- a PDU is sent as it is fixed, and is gone as it is taken
  abbrev pub ways_after : (A → Option B) → Move A → Ways B → Ways B
  ways_after part (central_sends a) w = record { down = part a; up = w.up }
  ways_after part central_acked w = w
  ways_after part central_takes w = record { down = w.down; up = None }
  ways_after part (peripheral_fixes a) w = record { down = w.down; up = part a }
  ways_after part peripheral_sends w = w
  ways_after part peripheral_acked w = w
  ways_after part peripheral_takes w = record { down = None; up = w.up }

  -- none is untaken where one is sent
  abbrev pub FindsNone : (A → Option B) → Move A → Directions A → Type 0
  FindsNone part (central_sends a) s = untaken part s.down ≡ None
  FindsNone part (peripheral_fixes a) s = untaken part s.up ≡ None
  FindsNone part move s = ⊤

module _ {A : Type 0} where
  -- what is taken was sent
  abbrev pub FindsSent : Move A → Directions A → Type 0
  FindsSent central_takes s = (a : A) × (s.up ≡ on_air a)
  FindsSent peripheral_takes s = (a : A) × (s.down ≡ on_air a)
  FindsSent move s = ⊤
