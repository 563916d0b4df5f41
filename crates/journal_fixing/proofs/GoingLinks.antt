-- Which ends heard nothing yet in a turn, by what a controller does, and the end with which an answer goes.
use Rattle.std.proofs.Common.{◌≡◌, ℕ, suc, ◌==◌, ◌||◌, ◌⊎◌, inl, inr, Bool, true, false, Some, List, sym, ap, ◌∙◌, arith}
use Rattle.ble_base.specs.declared.roles.Role.TheVariants.{Central, Peripheral}
use Rattle.ble_base.specs.declared.roles.Side.{Side}
use Rattle.journal_controls.specs.controller_model.Facts.{Facts, Setup}
use Rattle.journal_controls.specs.controller_model.declared.doing.Doing.{Doing}
use Rattle.journal_controls.specs.controller_model.declared.doing.Doing.TheVariants.{Advertises, CentralListens, CentralSends, PeripheralListens}
use Rattle.journal_controls.specs.controller_model.declared.doing.Doing.TheVariants.{PeripheralSends}
use Rattle.data_pdu.specs.Header.{header_in}
use Rattle.journal_controls.specs.journal_acks.link_calls.Phases.{link_receiving}
use Rattle.journal_controls.specs.journal_acks.link_calls.Turns.{sent_if}
use Rattle.journal_controls.specs.journal_acks.link_calls.Uses.{listens_under, sends_under, uses_under}
use Rattle.journal_controls.specs.journal_ends.Asked.{Words}
use Rattle.journal_controls.specs.link_model.Facts.{Facts as EndFacts, keyed_of}
use Rattle.journal_controls.specs.link_model.Receiving.{acks_control, has_acknowledged, keyed_acked_if}
use Rattle.journal_controls.specs.link_model.keyed_control.Keyed.{Keyed}
use Rattle.journal_controls.specs.journal_ends.open_links.OpenLinks.{Links, OpenLink}
use Rattle.journal_controls.specs.run_model.History.{Event}
use Rattle.journal_controls.specs.run_model.Journal.{journal_of}
use Rattle.journal_controls.proofs.SendsAlike.{receiving_same}
use Rattle.journal_controls.proofs.journal_ends.run_laws.LinkPhases.{IsInPhase}
use Rattle.journal_controls.proofs.journal_acks.link_calls.LinkCalls.{sent_setup}
use Rattle.journal_fixing.specs.OnLines.{control_going, has_heard}

-- ---- what is kept of an end

-- once a packet with this PDU has acknowledged its last one, and before it is taken
abbrev pub control_acking : EndFacts → List ℕ → Keyed
control_acking facts pdu = keyed_acked_if (acks_control (has_acknowledged facts (header_in pdu)) facts) (keyed_of facts)

pub record IsGoing (words : Words) (number : ℕ) (side : Side) (history : List Event) (k : Keyed) : Type 0 where
  pub heard : has_heard words side number (journal_of history) ≡ true
  pub going : control_going words side number (journal_of history) ≡ Some k

-- ---- an exchange goes on under this handle, in which the end heard nothing yet

abbrev pub awaits_under : ℕ → Doing → Bool
awaits_under handle (CentralSends other) = other == handle
awaits_under handle (CentralListens other) = other == handle
awaits_under handle (PeripheralListens other) = other == handle
awaits_under handle doing = false

pub listens_awaits : (handle : ℕ) (doing : Doing) → listens_under handle doing ≡ true → awaits_under handle doing ≡ true
listens_awaits handle (CentralListens other) on = on
listens_awaits handle (PeripheralListens other) on = on
listens_awaits handle (Advertises channel) on = absurd cc
listens_awaits handle doing on = absurd cc

pub awaits_uses : (handle : ℕ) (doing : Doing) → awaits_under handle doing ≡ true → uses_under handle doing ≡ true
awaits_uses handle (CentralSends other) awaits = ap (λ b. b || false) awaits
awaits_uses handle (CentralListens other) awaits = awaits
awaits_uses handle (PeripheralListens other) awaits = awaits
awaits_uses handle (Advertises channel) awaits = absurd cc
awaits_uses handle doing awaits = absurd cc

-- after the first phase it listens
pub later_listens : (phases handle : ℕ) (links : Links) (doing : Doing) → IsInPhase (suc phases) links doing → awaits_under handle doing ≡ true
    → listens_under handle doing ≡ true
later_listens phases handle links (CentralSends other) is awaits = absurd (let same = is.0 in omega (arith, same))
later_listens phases handle links (CentralListens other) is awaits = awaits
later_listens phases handle links (PeripheralListens other) is awaits = awaits
later_listens phases handle links (Advertises channel) is awaits = absurd cc
later_listens phases handle links doing is awaits = absurd cc

-- one that listens then sent in the first phase
pub sent_first : (phases handle : ℕ) (links later : Links) (doing next : Doing) → IsInPhase phases links doing → IsInPhase (suc phases) later next
    → listens_under handle next ≡ true → sends_under handle doing ≡ true → awaits_under handle doing ≡ true
sent_first phases handle links later doing next is then_is on sends = by doing (first next then_is on) is sends
  where
    first : (next : Doing) → IsInPhase (suc phases) later next → listens_under handle next ≡ true → phases ≡ 0
    first (CentralListens other) is on = let same = is.0 in omega (arith, same)
    first (PeripheralListens other) is on = absurd (let same = is.0 in omega (arith, same))
    first (Advertises channel) is on = absurd cc
    first next is on = absurd cc

    by : (doing : Doing) → phases ≡ 0 → IsInPhase phases links doing → sends_under handle doing ≡ true → awaits_under handle doing ≡ true
    by (CentralSends other) zero is sends = sends
    by (PeripheralSends other) zero is sends = absurd (let same = is.0 in omega (arith, same, zero))
    by (Advertises channel) zero is sends = absurd cc
    by doing zero is sends = absurd cc

-- ---- an end that takes a packet does not listen on

pub receiving_setup : (sends : Bool) (setup : Setup) (handle : ℕ) (room : Bool) (octets : List ℕ) (facts : Facts) (link : OpenLink)
    → (sent_if sends facts.turn.slot (link_receiving setup handle room octets facts link)).setup ≡ link.setup
receiving_setup sends setup handle room octets facts link =
    sent_setup sends facts.turn.slot (link_receiving setup handle room octets facts link) ∙ receiving_same setup handle room octets facts link

-- the ends of its link that listen one after the other have two roles
pub listens_once : (phases : ℕ) (base link : OpenLink) → link.setup ≡ base.setup
    → ((phases ≡ 0) × (base.setup.link.role ≡ Peripheral)) ⊎ ((phases ≡ 1) × (base.setup.link.role ≡ Central))
    → ((suc phases ≡ 0) × (link.setup.link.role ≡ Peripheral)) ⊎ ((suc phases ≡ 1) × (link.setup.link.role ≡ Central)) → ⊥
listens_once phases base link same was (inl now) = absurd (let none = now.0 in omega (arith, none))
listens_once phases base link same (inr was) (inr now) = absurd (let one = was.0 in let two = now.0 in omega (arith, one, two))
listens_once phases base link same (inl was) (inr now) =
    absurd (let h : Central ≡ Peripheral = sym now.1 ∙ ap (λ s. s.link.role) same ∙ was.1 in absurd cc)
