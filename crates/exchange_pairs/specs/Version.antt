-- One end of an exchange of versions: LL_VERSION_IND each way (Core 5.2, volume 6 part B, section 5.1.5). An end sends
-- it once; what that means for a second exchange is our choice.
use Rattle.std.specs.Prelude.{ℕ, ◌+◌, ◌-◌, ◌==◌, Bool, true, false, not, ◌&&◌, ◌||◌, if◌then◌else◌}
use Rattle.exchange_pairs.specs.Exchange.{ExchangeStage, Idle, Sent, Unsent, is_idle, own_after_answer, own_after_sending, Question}

pub record VersionEnd : Type 0 where
  -- how far the own exchange is
  pub own : ExchangeStage
  -- how many exchanges the host wants that did not begin
  pub wanted : ℕ
  -- the own LL_VERSION_IND was queued
  pub used : Bool
  -- how many LL_VERSION_IND wait to be sent
  pub waiting : ℕ
  -- LL_TERMINATE_IND was queued: nothing more is
  pub closed : Bool

-- ---- what an end does

-- LL_VERSION_IND is queued, unless it was before
abbrev pub with_version : VersionEnd → VersionEnd
with_version e = (if e.used || e.closed then e else record e { used = true; waiting = e.waiting + 1 })

-- the host asks for an exchange
abbrev pub asked : VersionEnd → VersionEnd
asked e = record e { wanted = (if e.wanted == 0 then 1 else e.wanted) }

-- an exchange begins that the host wants; a second one begins without a PDU
abbrev pub may_begin : VersionEnd → Bool
may_begin e = not (e.wanted == 0) && (is_idle e.own && not e.closed)

abbrev pub begun : VersionEnd → VersionEnd
begun e = with_version (record e { own = (if e.used then Sent else Unsent); wanted = e.wanted - 1 })

abbrev pub sent : VersionEnd → VersionEnd
sent e = record e { own = own_after_sending Question e.own; waiting = e.waiting - 1 }

-- LL_VERSION_IND of the peer is taken: it ends the own exchange, also one that is only wanted, and is answered
abbrev pub taken : VersionEnd → VersionEnd
taken e = with_version (record e { own = Idle; wanted = e.wanted - 1 })

-- the own exchange is completed by it
abbrev pub is_done : VersionEnd → Bool
is_done e = not (is_idle e.own) || not (e.wanted == 0)

-- a refusal ends the own exchange whose PDU was sent
abbrev pub refused : VersionEnd → VersionEnd
refused e = record e { own = own_after_answer e.own }

-- LL_TERMINATE_IND is queued
abbrev pub terminated : VersionEnd → VersionEnd
terminated e = record e { closed = true }

-- an end of a link that begins
abbrev pub first_end : VersionEnd
first_end = record { own = Idle; wanted = 0; used = false; waiting = 0; closed = false }
