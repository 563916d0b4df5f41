-- The bound of what waits at an end, over all calls.
use Rattle.std.proofs.Common.{◌≡◌, ℕ, ◌+◌, ◌≤◌, Bool, true, false, not, List, [], ◌∷◌, None, refl, arith}
use Rattle.ble_base.specs.declared.roles.Role.{Role}
use Rattle.ble_base.specs.declared.roles.Role.TheVariants.{Central as central_role, Peripheral as peripheral_role}
use Rattle.procedures.specs.procedure_stages.Kinds.{own_kind}
use Rattle.procedures.specs.Table.{TableFacts, first_facts}
use Rattle.procedures.specs.procedure_stages.Closing.{is_open}
use Rattle.procedures.specs.procedure_stages.Queue.{waiting_in}
use Rattle.procedures.specs.Calls.{Call, asks, begins_one, takes, sends, is_acked, enters, host_answers, disconnects, is_given, after_call, after_calls}
use Rattle.table_laws.specs.Waiting.{asked, end_waiting, own_waiting, version_waiting}
use Rattle.table_laws.specs.Pasts.{May, MayAll, is_key_asked, key_after_call, key_after_calls}
use Rattle.table_laws.proofs.Kept.{Kept, at_most_one, one_room}
use Rattle.table_laws.proofs.Begun.{begin_by, no_room}
use Rattle.table_laws.proofs.Taken.{takes_one}
use Rattle.table_laws.proofs.Going.{acked_asks, acked_less, held_asks, held_less, moves, sends_one}
use Rattle.table_laws.proofs.Given.{answers_by, disconnects_at, given_by}

-- ---- call by call

pub keeps : (f : TableFacts) (key : Bool) (call : Call) → Kept f key → May f key call → Kept (after_call f call) (key_after_call key call)
keeps f key (asks ask) kept may = record { bound = kept.bound; own = kept.own; version = kept.version; end = kept.end }
keeps f key (begins_one slot quiet) kept may = begin_by f slot quiet key _ _ kept refl refl
keeps f key (takes read slot quiet) kept may = takes_one f read slot quiet key kept may
keeps f key (sends event skips quiet slot) kept may = sends_one f event skips slot quiet key kept
keeps f key is_acked kept may = moves f _ key kept refl refl refl (acked_less f.out f.progress) (acked_asks f.out f.progress key)
keeps f key (enters true) kept may = moves f _ key kept refl refl refl (held_less f.progress) (held_asks f.progress key)
keeps f key (enters false) kept may = kept
keeps f key (host_answers answer) kept may = answers_by f key f.progress f.closing answer may kept
keeps f key (disconnects reason) kept may = disconnects_at f key f.closing reason kept
keeps f key (is_given ctrl) kept may = given_by f key f.progress f.closing ctrl may kept

keeps_all : (f : TableFacts) (key : Bool) (calls : List Call) → Kept f key → MayAll f key calls → Kept (after_calls f calls) (key_after_calls key calls)
keeps_all f key [] kept may = kept
keeps_all f key (call ∷ calls) kept may =
    keeps_all (after_call f call) (key_after_call key call) calls (keeps f key call kept may.0) may.1

pub first_kept : (role : Role) (max_rx : ℕ) → Kept (first_facts role max_rx) false
first_kept central_role max_rx = record { bound = omega arith; own = omega arith; version = omega arith; end = omega arith }
first_kept peripheral_role max_rx = record { bound = omega arith; own = omega arith; version = omega arith; end = omega arith }

pub kept_after : (role : Role) (max_rx : ℕ) (calls : List Call) → MayAll (first_facts role max_rx) false calls
    → Kept (after_calls (first_facts role max_rx) calls) (is_key_asked calls)
kept_after role max_rx calls may = keeps_all (first_facts role max_rx) false calls (first_kept role max_rx) may

pub bound_after : (role : Role) (max_rx : ℕ) (calls : List Call) → MayAll (first_facts role max_rx) false calls
    → waiting_in (after_calls (first_facts role max_rx) calls).queue + asked (after_calls (first_facts role max_rx) calls) (is_key_asked calls)
    ≤ 17 + own_waiting (after_calls (first_facts role max_rx) calls) + version_waiting (after_calls (first_facts role max_rx) calls) + end_waiting (after_calls (first_facts role max_rx) calls)
bound_after role max_rx calls may = (kept_after role max_rx calls may).bound

pub own_after : (role : Role) (max_rx : ℕ) (calls : List Call) → MayAll (first_facts role max_rx) false calls
    → own_waiting (after_calls (first_facts role max_rx) calls) ≤ 1
own_after role max_rx calls may =
    let h = (kept_after role max_rx calls may).own in
    let one = one_room (after_calls (first_facts role max_rx) calls).progress in
    omega (arith, h, one)

pub version_after : (role : Role) (max_rx : ℕ) (calls : List Call) → MayAll (first_facts role max_rx) false calls
    → version_waiting (after_calls (first_facts role max_rx) calls) ≤ 1
version_after role max_rx calls may =
    let h = (kept_after role max_rx calls may).version in
    let one = at_most_one (after_calls (first_facts role max_rx) calls).version_used in
    omega (arith, h, one)

pub end_after : (role : Role) (max_rx : ℕ) (calls : List Call) → MayAll (first_facts role max_rx) false calls
    → end_waiting (after_calls (first_facts role max_rx) calls) ≤ 1
end_after role max_rx calls may =
    let h = (kept_after role max_rx calls may).end in
    let one = at_most_one (not (is_open (after_calls (first_facts role max_rx) calls).closing)) in
    omega (arith, h, one)

pub all_after : (role : Role) (max_rx : ℕ) (calls : List Call) → MayAll (first_facts role max_rx) false calls
    → waiting_in (after_calls (first_facts role max_rx) calls).queue ≤ 20
all_after role max_rx calls may =
    let h = bound_after role max_rx calls may in
    let h1 = own_after role max_rx calls may in
    let h2 = version_after role max_rx calls may in
    let h3 = end_after role max_rx calls may in
    omega (arith, h, h1, h2, h3)

pub none_after : (role : Role) (max_rx : ℕ) (calls : List Call) → MayAll (first_facts role max_rx) false calls
    → own_kind (after_calls (first_facts role max_rx) calls).progress ≡ None → own_waiting (after_calls (first_facts role max_rx) calls) ≡ 0
none_after role max_rx calls may none =
    let h = (kept_after role max_rx calls may).own in
    let empty = no_room (after_calls (first_facts role max_rx) calls).progress none in
    omega (arith, h, empty)
