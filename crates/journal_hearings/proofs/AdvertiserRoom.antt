-- What accepted commands leave of the room for the link that connectable advertising may open.
use Rattle.std.proofs.Common.{◌≡◌, ℕ, ◌+◌, ◌≤◌, ◌==◌, Bool, true, false, Option, refl, ap, sym, ◌∙◌, arith}
use Rattle.std.specs.Prelude.{is_some, not, ◌&&◌}
use Rattle.std.proofs.lemmas.Bool.{and_parts}
use Rattle.hci_cmd.specs.declared.command.Command.{Command}
use Rattle.hci_cmd.specs.declared.command.Command.TheVariants.{HostCompleted, Reset, LeSetAdvParams, LeSetAdvEnable, LeCreateConnection, LeCreateCancel}
use Rattle.host_view.specs.declared.view.Advertising.{Advertising as ViewAdvertising}
use Rattle.host_view.specs.View.{View}
use Rattle.host_view.specs.Changes.{view_after}
use Rattle.host_view.specs.Refusals.{count_if, is_connectable}
use Rattle.host_view.specs.Status.{status_of}
use Rattle.host_view.proofs.TakenCommands.{connection_has_room}
use Rattle.scan_init.specs.Initiating.{InitiatorFacts}
use Rattle.journal_data.specs.controller_model.Facts.{Setup}
use Rattle.journal_data.specs.controller_model.Commands.{initiator_after}
use Rattle.journal_data.proofs.controller_model.Accepted.{same_after_counts, set_while_off}
use Rattle.journal_data.proofs.controller_model.OpenPlaces.{many, opens, view_opens}
use Rattle.journal_data.proofs.controller_model.Room.{limit_after, may_connect, room_of_view, room_turned_on}

-- while connectable advertising is on there is room for the links that are open, for one that an initiator may open, and for
-- one more
abbrev pub LeavesRoom : (initiates : Bool) (opened : ℕ) → ViewAdvertising → (limit : ℕ) → Type 0
LeavesRoom initiates opened advertising limit = may_connect advertising ≡ true → opened + count_if initiates + 1 ≤ limit

-- it was on already, or it is turned on
enabled_room : (was value connectable : Bool) (opened initiates limit : ℕ) → (value && connectable) ≡ true
    → ((was && connectable) ≡ true → opened + initiates + 1 ≤ limit)
    → ((value && not was) ≡ true → connectable ≡ true → opened + initiates + 1 ≤ limit) → opened + initiates + 1 ≤ limit
enabled_room true true true opened initiates limit is room turned = room refl
enabled_room false true true opened initiates limit is room turned = turned refl refl
enabled_room was true false opened initiates limit is room turned = absurd (let h : false ≡ true = is in absurd cc)
enabled_room was false connectable opened initiates limit is room turned = absurd (let h : false ≡ true = is in absurd cc)

-- an accepted command
pub leaves_after : (setup : Setup) (view : View) (slot : ℕ) (command : Command) (initiator : Option InitiatorFacts) → status_of view command ≡ 0
    → is_some view.initiating ≡ is_some initiator → LeavesRoom (is_some initiator) (many (opens view.links)) view.advertising view.limit
    → LeavesRoom (is_some (initiator_after setup view slot command initiator)) (many (opens (view_after view command).links))
    (view_after view command).advertising (view_after view command).limit
unfolding view_after
leaves_after setup view slot Reset initiator accepted same room = λ so. absurd (let h : false ≡ true = so in absurd cc)
leaves_after setup view slot LeCreateCancel initiator accepted same room = λ so. let enough = room so in omega (arith, enough)
leaves_after setup view slot
    (LeCreateConnection interval window policy peer_kind peer own min max latency timeout lengths) initiator accepted same room = λ so.
    let full = connection_has_room view interval window policy peer_kind peer own min max latency timeout lengths accepted in
    let left = room_of_view view full in
    let one : count_if (may_connect view.advertising) ≡ 1 = ap count_if so in
    omega (arith, left, one)
leaves_after setup view slot (LeSetAdvParams min max kind own peer_kind peer channels policy) initiator accepted same room = λ so.
    let off = set_while_off view min max kind own peer_kind peer channels policy accepted in
    let on = (and_parts view.advertising.on (is_connectable kind) so).0 in
    absurd (let h : false ≡ true = sym off ∙ on in absurd cc)
leaves_after setup view slot (LeSetAdvEnable value) initiator accepted same room = λ so.
    enabled_room view.advertising.on (value == 1) (is_connectable view.advertising.kind) (many (opens view.links)) (count_if (is_some initiator)) view.limit so room
    (λ turned connectable.
    let left = room_turned_on view value accepted turned connectable in
    let as_many : count_if (is_some view.initiating) ≡ count_if (is_some initiator) = ap count_if same in
    omega (arith, left, as_many))
leaves_after setup view slot (HostCompleted counts) initiator accepted same room = λ so.
    let advertising = same_after_counts (λ (of : View). of.advertising) view counts refl in
    let limit = limit_after view (HostCompleted counts) in
    let opened = ap many (view_opens view (HostCompleted counts) refl) in
    let enough = room (ap may_connect (sym advertising) ∙ so) in
    omega (arith, enough, limit, opened)
leaves_after setup view slot other initiator accepted same room = λ so.
    let opened = ap many (view_opens view other refl) in
    let enough = room so in omega (arith, enough, opened)
