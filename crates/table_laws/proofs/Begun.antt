-- A procedure begins: its request is queued.
use Rattle.std.proofs.Common.{◌≡◌, ℕ, ◌+◌, ◌≤◌, Bool, true, false, not, ◌&&◌, ◌||◌, List, [], ◌∷◌, ◌++◌, remove, Option, Some, None, is_none, refl, arith, subst}
use Rattle.std.proofs.lemmas.Bool.{and_parts}
use Rattle.std.proofs.lemmas.List.Quantifiers.{position-Some}
use Rattle.std.proofs.lemmas.Option.{get_or_from_slice_get}
use Rattle.ble_base.specs.declared.roles.Role.TheVariants.{Central as central_role, Peripheral as peripheral_role}
use Rattle.procedures.specs.procedure_values.declared.asks.Ask.{Ask}
use Rattle.procedures.specs.procedure_values.declared.asks.Ask.TheVariants.{Update as ask_update, Request as ask_request, Map as ask_map, Phy as ask_phy, Features as ask_features, Version as ask_version, Length as ask_length, Encrypt as ask_encrypt}
use Rattle.procedures.specs.procedure_values.declared.drafts.Draft.{Draft}
use Rattle.procedures.specs.procedure_values.declared.drafts.Draft.TheVariants.{VersionInd}
use Rattle.procedures.specs.procedure_stages.declared.stages.OwnCentral.{OwnCentral}
use Rattle.procedures.specs.procedure_stages.declared.stages.OwnCentral.TheVariants.{Exclusive as exclusive}
use Rattle.exclusive_stages.specs.declared.stages.CentralStage.TheVariants.{Idle}
use Rattle.procedures.specs.procedure_stages.declared.stages.OwnPeripheral.{OwnPeripheral}
use Rattle.procedures.specs.procedure_stages.declared.stages.OwnPeripheral.TheVariants.{Exclusive as exclusive_p}
use Rattle.exclusive_stages.specs.declared.stages.PeripheralStage.TheVariants.{Idle as idle}
use Rattle.procedures.specs.procedure_stages.declared.stages.Central.{Central}
use Rattle.procedures.specs.procedure_stages.declared.stages.Peripheral.{Peripheral}
use Rattle.procedures.specs.procedure_stages.declared.stages.Progress.{Progress}
use Rattle.procedures.specs.procedure_stages.declared.stages.Progress.TheVariants.{Central as central, Peripheral as peripheral}
use Rattle.procedures.specs.procedure_stages.declared.closing.Closing.{Closing}
use Rattle.procedures.specs.procedure_stages.declared.closing.Closing.TheVariants.{Open, Closed, Disconnecting}
use Rattle.procedures.specs.procedure_stages.Kinds.{begins, kind_at_central, kind_at_peripheral, own_kind, role_of}
use Rattle.procedures.specs.procedure_values.Asks.{kind_of_ask}
use Rattle.procedures.specs.Table.{TableFacts}
use Rattle.procedures.specs.procedure_stages.Closing.{is_open}
use Rattle.procedures.specs.Beginning.{ask_at, begin_at, facts_begun, is_ready, may_begin, place_to_begin}
use Rattle.procedures.specs.procedure_stages.Collisions.{peer_lets}
use Rattle.table_laws.specs.Waiting.{asked, is_own_request, is_terminate, is_version_ind, count_if}
use Rattle.table_laws.proofs.Numbers.{Counts, same, with_one}
use Rattle.table_laws.proofs.Outcomes.{own_room, room_at_central, room_at_peripheral}
use Rattle.table_laws.proofs.Kept.{Kept, kept_by}

-- ---- a procedure begins

pub no_room : (p : Progress) → own_kind p ≡ None → own_room p ≡ 0
no_room (central c) none = by c.own none
  where
    by : (own : OwnCentral) → kind_at_central own ≡ None → room_at_central own ≡ 0
    by (exclusive Idle) none = refl
    by (exclusive other) none = absurd (cc)
    by other none = absurd (cc)
no_room (peripheral p) none = by p.own none
  where
    by : (own : OwnPeripheral) → kind_at_peripheral own ≡ None → room_at_peripheral own ≡ 0
    by (exclusive_p idle) none = refl
    by (exclusive_p other) none = absurd (cc)
    by other none = absurd (cc)

abbrev pub at : TableFacts → Progress → Closing → Bool → TableFacts
at f progress closing used = record f { progress = progress; closing = closing; version_used = used }

or_used : (used : Bool) → count_if (used || false) ≡ count_if used
or_used true = refl
or_used false = refl

-- the request of the procedure is queued
requests : (f g : TableFacts) (key : Bool) (draft : Draft) → Kept f key → own_room f.progress ≡ 0
    → g.queue ≡ record f.queue { drafts = f.queue.drafts ++ draft ∷ [] } → asked g key ≡ asked f key
    → is_own_request draft ≡ true → is_version_ind draft ≡ false → is_terminate draft ≡ false
    → own_room g.progress ≡ 1 → count_if g.version_used ≡ count_if f.version_used → is_open g.closing ≡ is_open f.closing
    → Kept g key
requests f g key draft kept none queue same_asked is1 is2 is3 room used closing =
    let k1 = kept.own in
    let k2 = kept.version in
    let k3 = kept.end in
    let n1 : count_if (is_own_request draft) ≡ 1 = rw is1 refl in
    let n2 : count_if (is_version_ind draft) ≡ 0 = rw is2 refl in
    let n3 : count_if (is_terminate draft) ≡ 0 = rw is3 refl in
    let counts : Counts f.queue g.queue 1 (count_if (is_own_request draft)) (count_if (is_version_ind draft)) (count_if (is_terminate draft)) = rw queue (with_one f.queue draft) in
    let closed : count_if (not (is_open g.closing)) ≡ count_if (not (is_open f.closing)) = rw closing refl in
    kept_by f g key key 1 _ _ _ kept counts
    (omega (arith, same_asked, n1, n2, n3)) (omega (arith, k1, none, room, n1)) (omega (arith, k2, n2, used)) (omega (arith, k3, n3, closed))

-- nothing is queued, or LL_VERSION_IND
quietly : (f g : TableFacts) (key : Bool) (versions : ℕ) → Kept f key → own_room f.progress ≡ 0
    → Counts f.queue g.queue versions 0 versions 0 → asked g key ≡ asked f key
    → count_if f.version_used + versions ≤ count_if g.version_used → is_open g.closing ≡ is_open f.closing
    → Kept g key
quietly f g key versions kept none counts same_asked used closing =
    let k1 = kept.own in
    let k2 = kept.version in
    let k3 = kept.end in
    let closed : count_if (not (is_open g.closing)) ≡ count_if (not (is_open f.closing)) = rw closing refl in
    kept_by f g key key versions 0 versions 0 kept counts
    (omega (arith, same_asked)) (omega (arith, k1, none)) (omega (arith, k2, used)) (omega (arith, k3, closed))

module _ (f : TableFacts) (slot : ℕ) (wanted : List Ask) (key : Bool) where
  began_c : (c : Central) (ask : Ask) (used : Bool) → Kept (at f (central c) Open used) key
      → room_at_central c.own ≡ 0 → begins central_role (kind_of_ask ask) ≡ true → Kept (facts_begun (at f (central c) Open used) slot ask wanted) key
  began_c c (ask_update interval latency timeout) used kept none may =
      requests (at f (central c) Open used) _ key _ kept none refl refl refl refl refl refl (or_used used) refl
  began_c c (ask_map map) used kept none may =
      requests (at f (central c) Open used) _ key _ kept none refl refl refl refl refl refl (or_used used) refl
  began_c c ask_phy used kept none may =
      requests (at f (central c) Open used) _ key _ kept none refl refl refl refl refl refl (or_used used) refl
  began_c c ask_features used kept none may =
      requests (at f (central c) Open used) _ key _ kept none refl refl refl refl refl refl (or_used used) refl
  began_c c (ask_length tx) used kept none may =
      requests (at f (central c) Open used) _ key _ kept none refl refl refl refl refl refl (or_used used) refl
  began_c c (ask_request min max latency timeout) used kept none may = absurd (cc)
  began_c c (ask_encrypt rand ediv ltk skd_m iv_m) used kept none may =
      let u = or_used used in
      quietly (at f (central c) Open used) _ key 0 kept none (same f.queue) refl (omega (arith, u)) refl
  began_c c ask_version true kept none may =
      quietly (at f (central c) Open true) _ key 0 kept none (same f.queue) refl (omega arith) refl
  began_c c ask_version false kept none may =
      quietly (at f (central c) Open false) _ key 1 kept none (with_one f.queue VersionInd) refl (omega arith) refl

  began_p : (p : Peripheral) (ask : Ask) (used : Bool) → Kept (at f (peripheral p) Open used) key
      → room_at_peripheral p.own ≡ 0 → begins peripheral_role (kind_of_ask ask) ≡ true → Kept (facts_begun (at f (peripheral p) Open used) slot ask wanted) key
  began_p p (ask_request min max latency timeout) used kept none may =
      requests (at f (peripheral p) Open used) _ key _ kept none refl refl refl refl refl refl (or_used used) refl
  began_p p ask_phy used kept none may =
      requests (at f (peripheral p) Open used) _ key _ kept none refl refl refl refl refl refl (or_used used) refl
  began_p p ask_features used kept none may =
      requests (at f (peripheral p) Open used) _ key _ kept none refl refl refl refl refl refl (or_used used) refl
  began_p p (ask_length tx) used kept none may =
      requests (at f (peripheral p) Open used) _ key _ kept none refl refl refl refl refl refl (or_used used) refl
  began_p p (ask_update interval latency timeout) used kept none may = absurd (cc)
  began_p p (ask_map map) used kept none may = absurd (cc)
  began_p p (ask_encrypt rand ediv ltk skd_m iv_m) used kept none may = absurd (cc)
  began_p p ask_version true kept none may =
      quietly (at f (peripheral p) Open true) _ key 0 kept none (same f.queue) refl (omega arith) refl
  began_p p ask_version false kept none may =
      quietly (at f (peripheral p) Open false) _ key 1 kept none (with_one f.queue VersionInd) refl (omega arith) refl

  began_at : (p : Progress) (closing : Closing) (used : Bool) (ask : Ask) → Kept (at f p closing used) key
      → own_kind p ≡ None → is_open closing ≡ true → begins (role_of p) (kind_of_ask ask) ≡ true
      → Kept (facts_begun (at f p closing used) slot ask wanted) key
  began_at (central c) Open used ask kept none lasts may = began_c c ask used kept (no_room (central c) none) may
  began_at (peripheral p) Open used ask kept none lasts may = began_p p ask used kept (no_room (peripheral p) none) may
  began_at p Closed used ask kept none lasts may = absurd (cc)
  began_at p Disconnecting used ask kept none lasts may = absurd (cc)

is_none_is : {X : Type 0} (o : Option X) → is_none o ≡ true → o ≡ None
is_none_is None h = refl
is_none_is (Some x) h = absurd (cc)

-- what begins may begin
may_of : (f : TableFacts) (quiet : Bool) (place : ℕ) (ask : Ask) → place_to_begin f quiet ≡ Some place → ask_at (Some place) f.wanted ≡ Some ask
    → may_begin f quiet (kind_of_ask ask) ≡ true
may_of f quiet place ask first got =
    let holds = (position-Some (λ ask. may_begin f quiet (kind_of_ask ask)) f.wanted place ask first).1 in
    subst (λ (a : Ask). may_begin f quiet (kind_of_ask a) ≡ true) (get_or_from_slice_get f.wanted place ask ask got) holds

pub record Begins (f : TableFacts) (quiet : Bool) (ask : Ask) : Type 0 where
  pub none : own_kind f.progress ≡ None
  pub is_quiet : quiet ≡ true
  pub lasts : is_open f.closing ≡ true
  pub role : begins (role_of f.progress) (kind_of_ask ask) ≡ true
  pub lets : peer_lets f.progress (kind_of_ask ask) ≡ true

pub begins_of : (f : TableFacts) (quiet : Bool) (place : ℕ) (ask : Ask) → place_to_begin f quiet ≡ Some place → ask_at (Some place) f.wanted ≡ Some ask → Begins f quiet ask
begins_of f quiet place ask first got =
    let h = may_of f quiet place ask first got in
    let one = and_parts (is_ready f quiet && begins (role_of f.progress) (kind_of_ask ask)) _ h in
    let two = and_parts (is_ready f quiet) (begins (role_of f.progress) (kind_of_ask ask)) one.0 in
    let three = and_parts (is_none (own_kind f.progress) && quiet) _ two.0 in
    let four = and_parts (is_none (own_kind f.progress)) quiet three.0 in
    record { none = is_none_is (own_kind f.progress) four.0; is_quiet = four.1; lasts = three.1; role = two.1; lets = one.1 }

pub begin_by : (f : TableFacts) (slot : ℕ) (quiet key : Bool) (place : Option ℕ) (ask : Option Ask) → Kept f key
    → place_to_begin f quiet ≡ place → ask_at place f.wanted ≡ ask → Kept (begin_at f slot place ask).0 key
begin_by f slot quiet key None ask kept p a = kept
begin_by f slot quiet key (Some place) None kept p a = kept
begin_by f slot quiet key (Some place) (Some ask) kept p a =
    let may = begins_of f quiet place ask p a in
    began_at f slot (remove f.wanted place) key f.progress f.closing f.version_used ask kept may.none may.lasts may.role
