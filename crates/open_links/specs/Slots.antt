-- A link slot after slot (Core 5.2, volume 6 part B, sections 4.5.1 and 4.5.6).
use Rattle.std.specs.Prelude.{◌≡◌, ℕ, ◌+◌, ◌≤◌, Bool, true, List, [], ◌∷◌, Result, ⊤}
use Rattle.ble_base.specs.declared.error_codes.ErrCode.{ErrCode}
use Rattle.procedures.specs.procedure_values.declared.asks.Ask.{Ask}
use Rattle.instants.specs.Track.{next_anchor_of}
use Rattle.link_end.specs.link_model.Controls.{goes_on}
use Rattle.link_end.specs.link_model.AskRanges.{IsAskInRange}
use Rattle.link_end.specs.link_model.Step.{Step, DataGiven, DataReported, Disconnected, PacketReceived, PacketSent, PduFixed, ProcedureAsked, RequestAnswered}
use Rattle.open_links.specs.OpenLinks.{OpenLink, facts_in, link_after}
use Rattle.open_links.specs.Turns.{link_entered}

-- what else an end does in a slot: its host gives it data, asks, answers or ends the link, it fixes its PDU, it sends,
-- octets reach it, or complete packets are reported
pub data Exchange : Type 0 where
  Given : (start : Bool) (body : List ℕ) → Exchange
  Asked : (ask : Ask) → Exchange
  Answered : (answer : Result Ask ErrCode) → Exchange
  Ended : (reason : ErrCode) → Exchange
  Fixes : Exchange
  Sends : Exchange
  Hears : (octets : List ℕ) (room : Bool) → Exchange
  Reports : Exchange

-- the step of the end
abbrev pub step_of : ℕ → Exchange → Step
step_of slot (Given start body) = DataGiven start body
step_of slot (Asked ask) = ProcedureAsked ask
step_of slot (Answered answer) = RequestAnswered answer
step_of slot (Ended reason) = Disconnected reason slot
step_of slot Fixes = PduFixed
step_of slot Sends = PacketSent slot
step_of slot (Hears octets room) = PacketReceived slot octets room
step_of slot Reports = DataReported

-- a link after all of these in a slot
abbrev pub link_exchanging : ℕ → List Exchange → OpenLink → OpenLink
link_exchanging slot [] link = link
link_exchanging slot (exchange ∷ exchanges) link =
    link_exchanging slot exchanges (link_after (step_of slot exchange) link)

-- a link in the slots from this one on: in each it enters its event, if the anchor is there, and then sends and hears
abbrev pub link_through : ℕ → List (List Exchange) → OpenLink → OpenLink
link_through slot [] link = link
link_through slot (exchanges ∷ slots) link =
    link_through (slot + 1) slots (link_exchanging slot exchanges (link_entered slot link))

-- ---- which of these may come

-- octets reach an end only in the two exchanges of its event: in the slot of the anchor, and in the next one (section
-- 4.5.6)
abbrev pub IsInReach : ℕ → Exchange → OpenLink → Type 0
IsInReach slot (Hears octets room) link = slot ≤ (facts_in link).control.track.anchor + 1
IsInReach slot other link = ⊤

-- all octets of a slot reach it in an exchange, and what its host asks and answers is in range (section 5.1)
abbrev pub MayExchange : ℕ → List Exchange → OpenLink → Type 0
MayExchange slot [] link = ⊤
MayExchange slot (exchange ∷ exchanges) link =
    IsAskInRange (step_of slot exchange) × IsInReach slot exchange link
    × MayExchange slot exchanges (link_after (step_of slot exchange) link)

-- the same in the slots from this one on
abbrev pub MayGoThrough : ℕ → List (List Exchange) → OpenLink → Type 0
MayGoThrough slot [] link = ⊤
MayGoThrough slot (exchanges ∷ slots) link =
    MayExchange slot exchanges (link_entered slot link)
    × MayGoThrough (slot + 1) slots (link_exchanging slot exchanges (link_entered slot link))

-- the next anchor of a link that goes on is in this slot or later
pub record IsOnTime (slot : ℕ) (link : OpenLink) : Type 0 where
  pub next : goes_on (facts_in link) ≡ true → slot ≤ next_anchor_of (facts_in link).control.track
