-- What happens to a controller: the calls on it, one by one, in the order in which a turn makes them (our choice).
use Rattle.std.specs.Prelude.{ℕ, Bool, List}

pub data Step : Type 0 where
  -- an octet of its host
  HostOctet : (octet : ℕ) → Step
  -- a turn begins in this slot, with its radio on or off
  TurnBegins : (slot : ℕ) (on : Bool) → Step
  -- a phase of the turn in which it heard this packet
  PacketHeard : (octets : List ℕ) → Step
  -- a phase of the turn in which it heard nothing
  NothingHeard : Step
  -- the turn ends
  TurnEnds : Step
