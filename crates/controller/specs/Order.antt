-- The order of the calls on a controller: which turn it may begin, and that octets reach it on a link once in a turn.
use Rattle.std.specs.Prelude.{◌≡◌, ℕ, ◌+◌, ◌≤◌, Bool, true, false}
use Rattle.open_links.specs.Knowing.{HeldLinks}
use Rattle.controller_model.specs.declared.doing.Doing.{Doing}
use Rattle.controller_model.specs.declared.doing.Doing.TheVariants.{CentralSends, CentralListens, PeripheralListens}
use Rattle.controller_model.specs.declared.doing.Turn.{Turn}
use Rattle.controller.specs.Held.{Held}

-- a turn may begin in this slot: the last one has ended, and began in an earlier slot
abbrev pub MayBegin : ℕ → Held → Type 0
MayBegin slot held = (held.between ≡ true) × (held.turn.begun ≤ slot)

-- octets may still reach it on a link in this turn
abbrev pub may_receive : Doing → Bool
may_receive (CentralSends handle) = true
may_receive (CentralListens handle) = true
may_receive (PeripheralListens handle) = true
may_receive other = false

-- they are listened for
abbrev pub listens_on_link : Doing → Bool
listens_on_link (CentralListens handle) = true
listens_on_link (PeripheralListens handle) = true
listens_on_link other = false

-- none did in this turn, and the complete packets of all turns before were reported
abbrev pub HasNotReceived : Bool → Turn → HeldLinks → Type 0
HasNotReceived between turn links =
    (between ≡ false) × (turn.begun ≡ turn.slot + 1) × (links.heard_to ≤ turn.slot) × (links.unreported ≡ 0)

-- it may do this in the next phase
abbrev pub ReceivesOnce : Bool → Turn → HeldLinks → Doing → Type 0
ReceivesOnce between turn links doing = may_receive doing ≡ true → HasNotReceived between turn links

-- what holds at any time
pub record IsOrdered (between : Bool) (turn : Turn) (links : HeldLinks) : Type 0 where
  pub heard_before : links.heard_to ≤ turn.begun
  pub reported : between ≡ true → links.unreported ≡ 0
  pub once : ReceivesOnce between turn links turn.doing

-- what a call leaves that begins no turn, ends none, and takes no octets on a link
pub record Stays (old new : Held) : Type 0 where
  pub framer : new.framer ≡ old.framer
  pub between : new.between ≡ old.between
  pub begun : new.turn.begun ≡ old.turn.begun
  pub slot : new.turn.slot ≡ old.turn.slot
  pub heard_to : new.links.heard_to ≡ old.links.heard_to
  pub unreported : new.links.unreported ≡ old.links.unreported
