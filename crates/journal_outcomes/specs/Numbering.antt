-- The numbers of the PDUs that a side sends on a link (our choice).
use Rattle.std.specs.Prelude.{◌≡◌, ℕ, ◌+◌, List, ◌∷◌, ◌++◌, Some}
use Rattle.ble_base.specs.declared.roles.Side.{Side}
use Rattle.journal.specs.declared.entries.Entry.{Entry}
use Rattle.journal.specs.declared.entries.Entry.TheVariants.{Sent}
use Rattle.journal_crossing.specs.Crossing.{count_sent}
use Rattle.journal_crossing.specs.journal_links.Begun.{LinkBegun, link_numbered}

-- each PDU with a payload that a side sends on a link has the next number there, from 1 on
abbrev pub AllAreNumbered : List Entry → Type 0
AllAreNumbered journal = (front rest : List Entry) (link : LinkBegun) (side : Side) (number count llid : ℕ) (body : List ℕ)
    → journal ≡ front ++ Sent side number count llid body ∷ rest → link_numbered number journal ≡ Some link
    → count ≡ count_sent number side front + 1
