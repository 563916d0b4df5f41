-- What accepted commands leave of the room for links, as the view of the host counts those that are open and those that
-- may be opened.
use Rattle.std.proofs.Common.{◌≡◌, ℕ, ◌+◌, ◌<◌, ◌≤◌, ◌==◌, Bool, true, false, Option, List, refl, ap, sym, subst, ◌∙◌, arith}
use Rattle.std.specs.Prelude.{count_by, is_some, is_none, nat_le, nat_lt, not, ◌&&◌}
use Rattle.std.proofs.lemmas.Bool.Decides.{nat_tests}
use Rattle.hci_cmd.specs.declared.command.Command.{Command}
use Rattle.hci_cmd.specs.declared.command.Command.TheVariants.{HostCompleted, Reset, LeSetAdvParams, LeSetAdvEnable, LeCreateConnection, LeCreateCancel}
use Rattle.host_view.specs.declared.view.Advertising.{Advertising as ViewAdvertising}
use Rattle.host_view.specs.View.{View}
use Rattle.host_view.specs.Changes.{view_after}
use Rattle.host_view.specs.Refusals.{count_if, is_connectable, is_full, is_generated}
use Rattle.host_view.specs.Status.{advertising_on_rows, if_turned_on}
use Rattle.host_view.specs.Refusals.{first_refusal}
use Rattle.host_view.specs.Status.{status_of}
use Rattle.host_view.proofs.TakenCommands.{connection_has_room}
use Rattle.host_view.specs.scan_init.Initiating.{InitiatorFacts}
use Rattle.link_commands.proofs.Ranges.{passes as row_passes}
use Rattle.controller_model.specs.Facts.{Setup}
use Rattle.controller_model.specs.Commands.{initiator_after}
use Rattle.controller_model.proofs.Accepted.{same_after_counts, set_while_off}
use Rattle.controller_model.proofs.OpenPlaces.{many, count_many, opens, view_opens}

-- ---- what the view tells

-- whether advertising may open a link
abbrev pub may_connect : ViewAdvertising → Bool
may_connect advertising = advertising.on && is_connectable advertising.kind

-- while it initiates there is room for the links that are open, for one that advertising may open, and for one more
abbrev pub HasRoom : (initiates : Bool) (opened : ℕ) → ViewAdvertising → (limit : ℕ) → Type 0
HasRoom initiates opened advertising limit = initiates ≡ true → opened + count_if (may_connect advertising) + 1 ≤ limit

-- ---- an accepted command: initiating

pub initiates_after : (setup : Setup) (view : View) (slot : ℕ) (command : Command) (initiator : Option InitiatorFacts)
    → is_some view.initiating ≡ is_some initiator
    → is_some (view_after view command).initiating ≡ is_some (initiator_after setup view slot command initiator)
unfolding view_after
initiates_after setup view slot Reset initiator same = refl
initiates_after setup view slot
    (LeCreateConnection interval window policy peer_kind peer own min max latency timeout lengths) initiator same = refl
initiates_after setup view slot LeCreateCancel initiator same = refl
initiates_after setup view slot (HostCompleted counts) initiator same =
    same_after_counts (λ (of : View). is_some of.initiating) view counts refl ∙ same
initiates_after setup view slot other initiator same = same

-- ---- an accepted command: room

pub limit_after : (view : View) (command : Command) → (view_after view command).limit ≡ view.limit
unfolding view_after
limit_after view (HostCompleted counts) = same_after_counts (λ (of : View). of.limit) view counts refl
limit_after view other = refl

not_full : (limit opened one two : ℕ) → nat_le limit (opened + one + two) ≡ false → opened + one + two < limit
not_full limit opened one two is = grind (arith, nat_tests)

pub room_of_view : (view : View) → is_full view ≡ false
    → many (opens view.links) + count_if (may_connect view.advertising) + count_if (is_some view.initiating) < view.limit
room_of_view view is =
    subst (λ (opened : ℕ). opened + count_if (may_connect view.advertising) + count_if (is_some view.initiating) < view.limit) (count_many view.links)
    (not_full view.limit (count_by is_some view.links) (count_if (may_connect view.advertising)) (count_if (is_some view.initiating)) is)

not_both : (connectable full : Bool) → (connectable && full) ≡ false → connectable ≡ true → full ≡ false
not_both true full is so = is
not_both false full is so = absurd (let h : false ≡ true = so in absurd cc)

-- connectable advertising that is turned on was not full before
turned_on_room : (view : View) → first_refusal (advertising_on_rows view) ≡ 0 → is_connectable view.advertising.kind ≡ true → is_full view ≡ false
turned_on_room view passed connectable =
    let own = view.advertising.own in
    let given = row_passes (is_generated own) _ _ passed in
    let typed = row_passes (nat_lt 3 own) _ _ given.1 in
    let made = row_passes ((own == 1) && is_none view.random) _ _ typed.1 in
    let room = row_passes (is_connectable view.advertising.kind && is_full view) _ _ made.1 in
    not_both (is_connectable view.advertising.kind) (is_full view) room.0 connectable

enable_passed : (view : View) (value : ℕ) → status_of view (LeSetAdvEnable value) ≡ 0
    → first_refusal (if_turned_on ((value == 1) && not view.advertising.on) (advertising_on_rows view)) ≡ 0
unfolding status_of
enable_passed view value accepted = (row_passes (nat_lt 1 value) _ _ accepted).1

turned_rows : (turned : Bool) (rows : List (Bool × ℕ)) → turned ≡ true → first_refusal (if_turned_on turned rows) ≡ 0 → first_refusal rows ≡ 0
turned_rows true rows is passed = passed
turned_rows false rows is passed = absurd (let h : false ≡ true = is in absurd cc)

-- it was off before it was turned on
was_off : (value on : Bool) → (value && not on) ≡ true → on ≡ false
was_off true true is = absurd (let h : false ≡ true = is in absurd cc)
was_off true false is = refl
was_off false on is = absurd (let h : false ≡ true = is in absurd cc)

-- as connectable advertising is turned on there is room for its link, as well as for those that are open and for one that an
-- initiator may open
pub room_turned_on : (view : View) (value : ℕ) → status_of view (LeSetAdvEnable value) ≡ 0 → ((value == 1) && not view.advertising.on) ≡ true
    → is_connectable view.advertising.kind ≡ true → many (opens view.links) + count_if (is_some view.initiating) < view.limit
room_turned_on view value accepted turned connectable =
    let passed = turned_rows ((value == 1) && not view.advertising.on) (advertising_on_rows view) turned (enable_passed view value accepted) in
    let room = room_of_view view (turned_on_room view passed connectable) in
    let off = was_off (value == 1) view.advertising.on turned in
    let none : count_if (may_connect view.advertising) ≡ 0 = ap (λ (on : Bool). count_if (on && is_connectable view.advertising.kind)) off in
    omega (arith, room, none)

-- by the value, whether it was on, and whether it is connectable
room_enabled : (value on connectable : Bool) (opened limit : ℕ)
    → ((value && not on) ≡ true → connectable ≡ true → opened + 0 + 1 < limit)
    → opened + count_if (on && connectable) + 1 ≤ limit → opened + count_if (value && connectable) + 1 ≤ limit
room_enabled false on connectable opened limit turned room = omega (arith, room)
room_enabled true true connectable opened limit turned room = room
room_enabled true false false opened limit turned room = room
room_enabled true false true opened limit turned room = let more = turned refl refl in omega (arith, more)

no_others : (view : View) (kind : ℕ) → view.advertising.on ≡ false → count_if (view.advertising.on && is_connectable kind) ≡ 0
no_others view kind off = ap (λ (on : Bool). count_if (on && is_connectable kind)) off

room_same : (initiates : Bool) (opened same : ℕ) (advertising other : ViewAdvertising) (limit least : ℕ) → same ≡ opened → other ≡ advertising
    → least ≡ limit → HasRoom initiates opened advertising limit → HasRoom initiates same other least
room_same initiates opened same advertising other limit least is also too room = λ so.
    subst (λ (of : ViewAdvertising). same + count_if (may_connect of) + 1 ≤ least) (sym also)
    (let enough = room so in omega (arith, enough, is, too))

pub room_after : (setup : Setup) (view : View) (slot : ℕ) (command : Command) (initiator : Option InitiatorFacts) → status_of view command ≡ 0
    → is_some view.initiating ≡ is_some initiator
    → HasRoom (is_some initiator) (many (opens view.links)) view.advertising view.limit
    → HasRoom (is_some (initiator_after setup view slot command initiator)) (many (opens (view_after view command).links))
    (view_after view command).advertising (view_after view command).limit
unfolding view_after
room_after setup view slot Reset initiator accepted same room = λ so. absurd (let h : false ≡ true = so in absurd cc)
room_after setup view slot LeCreateCancel initiator accepted same room = λ so. absurd (let h : false ≡ true = so in absurd cc)
room_after setup view slot
    (LeCreateConnection interval window policy peer_kind peer own min max latency timeout lengths) initiator accepted same room = λ so.
    let full = connection_has_room view interval window policy peer_kind peer own min max latency timeout lengths accepted in
    let left = room_of_view view full in
    omega (arith, left)
room_after setup view slot (LeSetAdvParams min max kind own peer_kind peer channels policy) initiator accepted same room = λ so.
    let off = set_while_off view min max kind own peer_kind peer channels policy accepted in
    let enough = room so in
    let none = no_others view kind off in
    omega (arith, enough, none)
room_after setup view slot (LeSetAdvEnable value) initiator accepted same room = λ so.
    room_enabled (value == 1) view.advertising.on (is_connectable view.advertising.kind) (many (opens view.links)) view.limit
    (λ turned connectable.
    let left = room_turned_on view value accepted turned connectable in
    let one : count_if (is_some view.initiating) ≡ 1 = ap count_if (same ∙ so) in
    omega (arith, left, one))
    (room so)
room_after setup view slot (HostCompleted counts) initiator accepted same room =
    let after = view_after view (HostCompleted counts) in
    room_same (is_some initiator) (many (opens view.links)) (many (opens after.links)) view.advertising after.advertising view.limit after.limit
    (ap many (view_opens view (HostCompleted counts) refl)) (same_after_counts (λ (of : View). of.advertising) view counts refl)
    (limit_after view (HostCompleted counts)) room
room_after setup view slot other initiator accepted same room =
    let opened = ap many (view_opens view other refl) in
    λ so. let enough = room so in omega (arith, enough, opened)
