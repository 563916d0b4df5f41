-- The indications that wait at the central of a joint run of both ends are owed by its own procedure, where none of the
-- peripheral is in progress there.
use Rattle.std.proofs.Common.{◌≡◌, ◌≤◌, ◌&&◌, true, List, [], ◌∷◌, sym, ap, subst, ◌∙◌, refl, arith}
use Rattle.std.proofs.lemmas.Bool.{and_parts, leb-true}
use Rattle.collision_steps.specs.CentralPart.{central_of}
use Rattle.collisions.specs.declared.joint.Link.{Link}
use Rattle.collisions.specs.Numbers.{numbered_collisions}
use Rattle.collisions.proofs.Gaps.{is_run}
use Rattle.exclusive_stages.specs.declared.pdus.Exclusive.{Exclusive}
use Rattle.exclusive_stages.specs.declared.pdus.Exclusive.TheVariants.{Map, Phy, Request, Update}
use Rattle.exclusive_stages.specs.declared.pdus.Pdu.{Pdu}
use Rattle.exclusive_stages.specs.declared.stages.PeerAtCentral.TheVariants.{Absent}
use Rattle.joint_collisions.specs.Views.{IsReached, View, numbered_of, view_of}
use Rattle.joint_collisions.proofs.EachStep.{Before}
use Rattle.joint_laws.specs.joint_controls.Joint.{Joint}
use Rattle.link_answers.specs.Owing.{Owes, is_answering, is_indication_of, number, owing}
use Rattle.link_answers.proofs.CentralOwes.{answers_absent}
use Rattle.machines.specs.Machine.{run}
use Rattle.run_collisions.specs.Owed.{are_indications_owed, is_owed, owing_peer}
use Rattle.run_collisions.proofs.OwedPlaces.{indications_owed}

no_other : (kind : Exclusive) → owing_peer kind Absent ≡ 0
no_other Update = refl
no_other Phy = refl
no_other kind = refl

none_requested : (pdus : List Pdu) → number (is_indication_of Request) pdus ≡ 0
none_requested [] = refl
none_requested (pdu ∷ pdus) = let rest = none_requested pdus in omega (arith, rest)

module _ (v : View) (reached : IsReached v) where
  abbrev link : Link
  link = (numbered_of v reached.central_at reached.peripheral_at reached.earlier).link

  owed : are_indications_owed link ≡ true
  owed =
      let events = is_run reached.moves in
      subst (λ (s : Link). are_indications_owed s ≡ true) (sym events.1 ∙ same) (indications_owed events.0)
    where
      same : (run numbered_collisions reached.moves).link ≡ link
      same = λ i. (reached.is i).link

  few : (kind : Exclusive) → v.central.peer ≡ Absent → number (is_indication_of kind) v.central.queue.items ≤ owing kind v.central.own
  few kind none = by kind
    where
      one : (kind : Exclusive) → is_owed kind v.central ≡ true → number (is_indication_of kind) v.central.queue.items ≤ owing kind v.central.own
      one kind is =
          let less = leb-true _ _ is in
          let peer = ap (owing_peer kind) none ∙ no_other kind in
          omega (arith, less, peer)

      parts : (is_owed Update v.central ≡ true) × ((is_owed Map v.central && is_owed Phy v.central) ≡ true)
      parts = and_parts (is_owed Update v.central) (is_owed Map v.central && is_owed Phy v.central) owed

      rest : (is_owed Map v.central ≡ true) × (is_owed Phy v.central ≡ true)
      rest = and_parts (is_owed Map v.central) (is_owed Phy v.central) parts.1

      by : (kind : Exclusive) → number (is_indication_of kind) v.central.queue.items ≤ owing kind v.central.own
      by Update = one Update parts.0
      by Map = one Map rest.0
      by Phy = one Phy rest.1
      by Request = let zero = none_requested v.central.queue.items in omega (arith, zero)

pub owed_alone : (kind : Exclusive) (s : Joint) → Before s → (central_of s.central.control.table).peer ≡ Absent
    → Owes kind (central_of s.central.control.table)
owed_alone kind s b none =
    record {
      few = few (view_of s) b.holds.seen.reached kind none;
      none = ap (is_answering kind) none ∙ answers_absent kind;
    }
