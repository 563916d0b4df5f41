-- The laws of all joint runs of exchanges of versions.
use Rattle.std.proofs.Common.{◌≡◌, ◌≤◌, ◌⊎◌, inl, inr, ◌==◌, Bool, true, false, not, ◌&&◌, ◌||◌, nat_le, List, refl, subst, eqb-true, ap, ◌∙◌}
use Rattle.std.proofs.lemmas.Bool.{and_parts}
use Rattle.ble_base.specs.declared.roles.Role.{Role}
use Rattle.ble_base.specs.declared.roles.Role.TheVariants.{Central, Peripheral}
use Rattle.machines.specs.Machine.{run}
use Rattle.machines.proofs.Invariants.{run_holds, run_right}
use Rattle.exchange_pairs.specs.Exchange.{ExchangeStage, Idle, Sent, Unsent, count_if, is_idle, is_sent}
use Rattle.exchange_pairs.specs.ExchangeRun.{other_role}
use Rattle.exchange_pairs.specs.VersionRun.{VersionEvent, VersionLink, Begins, Keeps, Takes, TakesKept, comes_to, end_of, is_sent_by, keeps, knows, may, versions}
use Rattle.exchange_pairs.specs.VersionLaws.{are_versions_right, implies, is_answering, is_coming, is_open_until_known, is_sent_once, is_stage_right, is_used_right, is_version_right, places}
use Rattle.exchange_pairs.proofs.VersionsTried.{are_lawful, bounds, laws}

lawful : (events : List VersionEvent) → are_versions_right (run versions events) ≡ true
lawful events = run_holds laws are_lawful events

pub right : (events : List VersionEvent) (role : Role) → is_version_right role (run versions events) ≡ true
right events role = by role
  where
    one : (is_version_right Central (run versions events) ≡ true)
        × ((is_version_right Peripheral (run versions events) && implies (run versions events).kept (is_idle (run versions events).central.own)) ≡ true)
    one = and_parts (is_version_right Central (run versions events)) _ (lawful events)

    by : (r : Role) → is_version_right r (run versions events) ≡ true
    by Central = one.0
    by Peripheral =
        (and_parts (is_version_right Peripheral (run versions events))
        (implies (run versions events).kept (is_idle (run versions events).central.own)) one.1).0

-- the parts of the law
pub record Parts (role : Role) (s : VersionLink) : Type 0 where
  pub once : places role s ≡ count_if (end_of role s).used
  pub until_known : is_open_until_known role s ≡ true
  pub stage : is_stage_right (end_of role s).own role s ≡ true
  pub answering : is_answering role s ≡ true
  pub used : is_used_right role s ≡ true

parts_of : (role : Role) (s : VersionLink) → is_version_right role s ≡ true → Parts role s
parts_of role s is =
    let one = and_parts (is_sent_once role s) _ is in
    let two = and_parts (is_open_until_known role s) _ one.1 in
    let three = and_parts (is_stage_right (end_of role s).own role s) _ two.1 in
    let four = and_parts (is_answering role s) (is_used_right role s) three.1 in
    record {
      once = eqb-true (places role s) (count_if (end_of role s).used) one.0;
      until_known = two.0;
      stage = three.0;
      answering = four.0;
      used = four.1;
    }

pub parts : (events : List VersionEvent) (role : Role) → Parts role (run versions events)
parts events role = parts_of role (run versions events) (right events role)

implied : (a b : Bool) → implies a b ≡ true → a ≡ true → b ≡ true
implied true b is given = is
implied false b is given = absurd (cc)

either : (a b : Bool) → (a || b) ≡ true → (a ≡ true) ⊎ (b ≡ true)
either true b is = inl refl
either false b is = inr is

no_from : (b : Bool) → not b ≡ true → b ≡ false
no_from false h = refl
no_from true h = absurd (cc)

idle_from : (own : ExchangeStage) → is_idle own ≡ true → own ≡ Idle
idle_from Idle is = refl
idle_from Unsent is = absurd (cc)
idle_from Sent is = absurd (cc)

sent_from : (own : ExchangeStage) → is_sent own ≡ true → own ≡ Sent
sent_from Sent is = refl
sent_from Unsent is = absurd (cc)
sent_from Idle is = absurd (cc)

-- ---- LL_VERSION_IND is sent once

pub once : (events : List VersionEvent) (role : Role) → places role (run versions events) ≡ count_if (end_of role (run versions events)).used
once events role = (parts events role).once

pub known_then_idle : (events : List VersionEvent) (role : Role) → knows role (run versions events) ≡ true
    → ((end_of role (run versions events)).own ≡ Idle) × ((end_of role (run versions events)).wanted ≡ 0)
known_then_idle events role known =
    let s = run versions events in
    let e = end_of role s in
    let one = and_parts (implies (knows role s) (is_idle e.own && e.wanted == 0)) (nat_le e.wanted 1) (parts events role).until_known in
    let two = and_parts (is_idle e.own) (e.wanted == 0) (implied (knows role s) (is_idle e.own && e.wanted == 0) one.0 known) in
    (idle_from e.own two.0, eqb-true e.wanted 0 two.1)

stage_at : (events : List VersionEvent) (role : Role) (own : ExchangeStage) → (end_of role (run versions events)).own ≡ own
    → is_stage_right own role (run versions events) ≡ true
stage_at events role own is = subst (λ o. is_stage_right o role (run versions events) ≡ true) is (parts events role).stage

pub unsent_waits : (events : List VersionEvent) (role : Role) → (end_of role (run versions events)).own ≡ Unsent
    → (end_of role (run versions events)).waiting ≡ 1
unsent_waits events role is = eqb-true (end_of role (run versions events)).waiting 1 (stage_at events role Unsent is)

pub sent_is_coming : (events : List VersionEvent) (role : Role) → (end_of role (run versions events)).own ≡ Sent
    → ((end_of role (run versions events)).waiting ≡ 0) × (is_coming role (run versions events) ≡ true)
sent_is_coming events role is =
    let s = run versions events in
    let both = and_parts ((end_of role s).waiting == 0) (is_coming role s) (stage_at events role Sent is) in
    (eqb-true (end_of role s).waiting 0 both.0, both.1)

pub still_answering : (events : List VersionEvent) (role : Role) → knows role (run versions events) ≡ true
    → (not ((end_of role (run versions events)).waiting == 0) || is_sent_by role (run versions events)) ≡ true
    → ((end_of (other_role role) (run versions events)).own ≡ Sent) ⊎ ((end_of (other_role role) (run versions events)).closed ≡ true)
still_answering events role known coming =
    let s = run versions events in
    let other = end_of (other_role role) s in
    by (is_sent other.own) other.closed refl
    (implied (knows role s && (not ((end_of role s).waiting == 0) || is_sent_by role s)) (is_sent other.own || other.closed)
    (parts events role).answering (ap (λ b. b && (not ((end_of role s).waiting == 0) || is_sent_by role s)) known ∙ coming))
  where
    by : (a b : Bool) → is_sent (end_of (other_role role) (run versions events)).own ≡ a → (a || b) ≡ true
        → ((end_of (other_role role) (run versions events)).own ≡ Sent) ⊎ (b ≡ true)
    by true b is h = inl (sent_from _ is)
    by false b is h = inr h

pub used_unknown : (events : List VersionEvent) (role : Role) → (end_of role (run versions events)).used ≡ true
    → knows role (run versions events) ≡ false
    → (not (is_idle (end_of role (run versions events)).own) ≡ true) ⊎ (keeps role (run versions events) ≡ true)
used_unknown events role used unknown =
    let s = run versions events in
    let e = end_of role s in
    let one = and_parts (implies (e.used && not (knows role s)) (not (is_idle e.own) || keeps role s)) (implies (knows role s) (e.used || e.closed)) (parts events role).used in
    either (not (is_idle e.own)) (keeps role s)
    (implied (e.used && not (knows role s)) (not (is_idle e.own) || keeps role s) one.0
    (ap (λ b. b && not (knows role s)) used ∙ ap not unknown))

-- ---- the steps

pub begins_with_pdu : (events : List VersionEvent) (role : Role) → may (Begins role) (run versions events) ≡ true
    → (end_of role (run versions events)).used ≡ false
begins_with_pdu events role comes = no_from _ (run_right laws are_lawful events (Begins role) comes)

pub taken_once : (events : List VersionEvent) (role : Role) → comes_to role (run versions events) ≡ true
    → knows role (run versions events) ≡ false
taken_once events role comes = no_from _ (run_right laws are_lawful events (Takes role) comes)

pub kept_once : (events : List VersionEvent) → may Keeps (run versions events) ≡ true → (run versions events).kept ≡ false
kept_once events comes = no_from _ (run_right laws are_lawful events Keeps comes)

pub kept_unknown : (events : List VersionEvent) → (run versions events).kept ≡ true → (run versions events).central_knows ≡ false
kept_unknown events comes = no_from _ (run_right laws are_lawful events TakesKept comes)

pub few_wait : (events : List VersionEvent) (role : Role) → (end_of role (run versions events)).waiting ≤ 1
few_wait events role = (bounds role (run versions events) (right events role)).1
