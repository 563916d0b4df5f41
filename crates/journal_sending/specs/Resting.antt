-- Between two turns no PDU is under way (our choice).
use Rattle.std.specs.Prelude.{◌≡◌, ℕ, Bool, List, ◌∷◌, ◌++◌, Option, None}
use Rattle.ble_base.specs.declared.roles.Side.{Side}
use Rattle.journal.specs.declared.entries.Entry.{Entry}
use Rattle.journal.specs.declared.entries.Entry.TheVariants.{Turn}
use Rattle.journal_fixing.specs.journal_controls.journal_ends.Asked.{Words}
use Rattle.journal_sending.specs.Announced.{announced_pdu}
use Rattle.journal_sending.specs.Pending.{pending_pdu}

-- the packet of each line of a new PDU was on the air, and each side took what reached it and found room
abbrev pub IsAtRest : Words → List Entry → Type 0
IsAtRest words front = (side : Side) → (announced_pdu side front ≡ None) × (pending_pdu words side front ≡ None)

-- before each turn
abbrev pub AllAreAtRest : Words → List Entry → Type 0
AllAreAtRest words journal = (front rest : List Entry) (slot : ℕ) (a_on : Bool) (b_on : Option Bool)
    → journal ≡ front ++ Turn slot a_on b_on ∷ rest → IsAtRest words front
