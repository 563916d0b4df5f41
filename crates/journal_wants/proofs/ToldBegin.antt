-- As a controller begins its turn: its links have their handles, and the lines say of the link that wins the slot, and of
-- the one that holds the radio, what it is.
use Rattle.std.proofs.Common.{◌≡◌, ℕ, ◌+◌, ◌==◌, Bool, true, false, Option, Some, None, List, [], ◌∷◌, refl, sym, ap, ◌∙◌, if◌then◌else◌}
use Rattle.std.proofs.lemmas.Bool.{eqb-true}
use Rattle.ble_base.specs.declared.roles.Side.{Side}
use Rattle.journal.specs.declared.entries.Entry.{Entry}
use Rattle.slot_plan.specs.Holding.{winner_of}
use Rattle.slot_plan.specs.declared.Activity.{Activity}
use Rattle.slot_plan.specs.declared.Activity.TheVariants.{Advertise, Initiate, Link, Scan}
use Rattle.journal_events.specs.journal_sending.controller_model.Entering.{all_entered}
use Rattle.journal_events.specs.journal_sending.controller_model.Facts.{Facts, Setup}
use Rattle.journal_events.specs.journal_sending.controller_model.Links.{facts_ending}
use Rattle.journal_events.specs.journal_sending.controller_model.Radio.{plan_in, turn_begins}
use Rattle.journal_events.specs.journal_sending.controller_model.Side.{facts_of}
use Rattle.journal_events.specs.journal_sending.controller_model.Step.{Step}
use Rattle.journal_events.proofs.journal_sending.controller_model.Always.{ending_is}
use Rattle.journal_events.proofs.journal_sending.controller_model.Handles.{own_handles}
use Rattle.journal_events.specs.journal_sending.journal_controls.journal_ends.Asked.{Words}
use Rattle.journal_events.specs.journal_sending.journal_data.open_links.OpenLinks.{HasHandle, HaveHandles, Links, OpenLink, has_entered, link_at, link_from}
use Rattle.journal_events.specs.journal_sending.journal_data.open_links.Turns.{due_in, enters_in, link_entered}
use Rattle.journal_events.proofs.journal_sending.journal_acks.link_calls.UnderHandles.{staying_under}
use Rattle.journal_wants.specs.Station.{linked_under}
use Rattle.journal_wants.proofs.LinkedStation.{IsToldOf, linked_as}
use Rattle.journal_wants.proofs.RadioHolders.{IsEntered, entering_keeps, holder_entered}
use Rattle.journal_wants.proofs.SlotGiven.{HasLinked}
use Rattle.journal_wants.proofs.WinnerLinks.{entered_at, wanting_enters, winner_wanting}

-- ---- handles

handle_at : (first handle : ℕ) (links : Links) (link : OpenLink) → HaveHandles first links → link_from first handle links ≡ Some link → link.setup.link.handle ≡ handle
handle_at first handle [] link have is = absurd (let h : None ≡ Some link = is in absurd cc)
handle_at first handle (place ∷ links) link have is = by place (first == handle) refl have.0 is (λ rest. handle_at (first + 1) handle links link have.1 rest)
  where
    by : (one : Option OpenLink) (same : Bool) → (first == handle) ≡ same → HasHandle first one → (if same then one else link_from (first + 1) handle links) ≡ Some link
        → (link_from (first + 1) handle links ≡ Some link → link.setup.link.handle ≡ handle) → link.setup.link.handle ≡ handle
    by None true same has is rest = absurd (let h : None ≡ Some link = is in absurd cc)
    by (Some other) true same has is rest =
        let equal : other ≡ link = cc in
        ap (λ (one : OpenLink). one.setup.link.handle) (sym equal) ∙ has ∙ eqb-true first handle same
    by one false same has is rest = rest is

pub own_staying : (setup : Setup) (past : List Step) (slot handle : ℕ) (link : OpenLink) → link_at handle (facts_ending slot (facts_of setup past)).links ≡ Some link
    → link.setup.link.handle ≡ handle
own_staying setup past slot handle link at =
    let facts = facts_of setup past in
    handle_at 0 handle facts.links link (own_handles setup past).handles
    (staying_under (due_in slot) handle facts.links link (ap (λ (f : Facts). link_at handle f.links) (sym (ending_is slot facts)) ∙ at)).was

-- ---- the winner

pub winner_told : (words : Words) (side : Side) (front : List Entry) (slot : ℕ) (facts : Facts)
    → ((handle : ℕ) (link : OpenLink) → link_at handle (facts_ending slot facts).links ≡ Some link → enters_in slot link ≡ true
    → IsToldOf words side front handle (link_entered slot link))
    → (activity : Activity) → winner_of (plan_in slot (turn_begins slot (facts_ending slot facts))) slot ≡ Some activity
    → HasLinked (linked_under words side front) (all_entered slot (facts_ending slot facts).links) activity
winner_told words side front slot facts told (Link handle) is =
    let wanting = winner_wanting slot handle (turn_begins slot (facts_ending slot facts)) is in (
      link_entered slot wanting.link,
      entered_at slot handle (facts_ending slot facts).links wanting.link wanting.is_open,
      linked_as words side front handle (link_entered slot wanting.link) (told handle wanting.link wanting.is_open (wanting_enters slot wanting.link wanting.wants)),
    )
winner_told words side front slot facts told Advertise is = tt
winner_told words side front slot facts told Scan is = tt
winner_told words side front slot facts told Initiate is = tt

-- ---- what holds the radio

pub holder_told : (words : Words) (side : Side) (front : List Entry) (slot : ℕ) (setup : Setup) (past : List Step)
    → ((handle : ℕ) (link : OpenLink) → link_at handle (facts_ending slot (facts_of setup past)).links ≡ Some link
    → has_entered (link_entered slot link) ≡ true → IsToldOf words side front handle (link_entered slot link))
    → HasLinked (linked_under words side front) (all_entered slot (facts_ending slot (facts_of setup past)).links)
    (facts_ending slot (facts_of setup past)).radio.holder
holder_told words side front slot setup past told = by ended.radio.holder (holder_entered setup past slot)
  where
    ended : Facts
    ended = facts_ending slot (facts_of setup past)

    under : (handle : ℕ) (place : Option OpenLink) → link_at handle ended.links ≡ place → IsEntered place
        → HasLinked (linked_under words side front) (all_entered slot ended.links) (Link handle)
    under handle None at is = absurd is
    under handle (Some link) at is = (
      link_entered slot link,
      entered_at slot handle ended.links link at,
      linked_as words side front handle (link_entered slot link) (told handle link at (entering_keeps slot link is)),
    )

    by : (activity : Activity) → ((handle : ℕ) → activity ≡ Link handle → IsEntered (link_at handle ended.links))
        → HasLinked (linked_under words side front) (all_entered slot ended.links) activity
    by (Link handle) entered = under handle (link_at handle ended.links) refl (entered handle refl)
    by Advertise entered = tt
    by Scan entered = tt
    by Initiate entered = tt
