-- What a joint run of the procedures that exclude each other comes to, step by step.
use Rattle.std.proofs.Common.{◌≡◌, ◌≢◌, ◌⊎◌, ℕ, ◌+◌, ◌≤◌, ◌==◌, nat_le, Bool, true, false, not, ◌&&◌, ◌||◌, if◌then◌else◌, List, [], ◌∷◌, ◌++◌, Option, Some, None, is_none, refl, sym, ap, subst, ◌∙◌, eq-eqb}
use Rattle.std.specs.Prelude.{⊤}
use Rattle.std.proofs.lemmas.Bool.{and_from}
use Rattle.exclusive_stages.specs.declared.pdus.Exclusive.{Exclusive}
use Rattle.exclusive_stages.specs.declared.pdus.Reason.{Reason}
use Rattle.exclusive_stages.specs.declared.pdus.Pdu.{Pdu}
use Rattle.exclusive_stages.specs.Kinds.{central_kind, is_host_asked_at_central}
use Rattle.exclusive_stages.specs.Pdus.{is_timed}
use Rattle.collisions.specs.declared.central.Central.{Central}
use Rattle.collisions.specs.declared.peripheral.Peripheral.{Peripheral}
use Rattle.collisions.specs.declared.events.Event.{Event}
use Rattle.collisions.specs.declared.events.Event.TheVariants.{CentralBegins, CentralCloses, CentralKeeps, CentralAcked, CentralTakes, CentralTakesKept, HostGrants, HostRefuses, PeripheralAcked, PeripheralBegins, PeripheralCloses, PeripheralFixes, PeripheralSends}
use Rattle.collisions.specs.declared.events.Place.{Place}
use Rattle.collisions.specs.declared.events.Place.TheVariants.{After, At, Before, LateAt, LateBefore}
use Rattle.collisions.specs.declared.joint.End.{End}
use Rattle.collisions.specs.declared.joint.End.TheVariants.{Collided, Open}
use Rattle.collisions.specs.declared.joint.Link.{Link}
use Rattle.collisions.specs.declared.joint.Way.{Way}
use Rattle.collisions.specs.declared.joint.Way.TheVariants.{Clear, Fixed, OnAir, Taken}
use Rattle.collisions.specs.CentralTable
use Rattle.collisions.specs.PeripheralTable
use Rattle.collisions.specs.JointRun.{act, is_first, is_judgeable, is_pdu, is_taken, pdu_on_air}
use Rattle.collisions.specs.Numbers.{Move, Numbered, makes, may_move, move, numbered_collisions}
use Rattle.machines.specs.Machine.{Machine, run, run_from, step}
use Rattle.collisions.proofs.Collisions.{never_ends}
use Rattle.collisions.proofs.Gaps.{is_run}
use Rattle.collisions.proofs.Lifting.{Sound, sound}
use Rattle.joint_collisions.specs.Views.{IsReached, View, numbered_of}

-- ---- runs

run_push : (m : Machine Numbered Move) (s : Numbered) (moves : List Move) (one : Move)
    → run_from m s (moves ++ one ∷ []) ≡ step m one (run_from m s moves)
run_push m s [] one = refl
run_push m s (first ∷ moves) one = run_push m (step m first s) moves one

abbrev pub now_of : (v : View) → IsReached v → Numbered
now_of v k = numbered_of v k.central_at k.peripheral_at k.earlier

pub sound_of : (v : View) (k : IsReached v) → Sound (now_of v k)
sound_of v k = subst Sound k.is (sound k.moves)

stepped : (m : Move) (r : Numbered) (b : Bool) → b ≡ true → (if b then move m r else r) ≡ move m r
stepped m r true is = refl
stepped m r false is = absurd (cc)

pub run_on : (v : View) (k : IsReached v) (m : Move) → may_move m (now_of v k) ≡ true → run numbered_collisions (k.moves ++ m ∷ []) ≡ move m (now_of v k)
run_on v k m may =
    run_push numbered_collisions numbered_collisions.start k.moves m ∙ ap (step numbered_collisions m) k.is
    ∙ stepped m (now_of v k) (may_move m (now_of v k)) may

abbrev pub moved_on : (v : View) (k : IsReached v) (m : Move) (w : View) (c p : Place) (earlier : ℕ) → may_move m (now_of v k) ≡ true
    → move m (now_of v k) ≡ numbered_of w c p earlier → IsReached w
moved_on v k m w c p earlier may is =
    record { moves = k.moves ++ m ∷ []; central_at = c; peripheral_at = p; earlier = earlier; is = run_on v k m may ∙ is }

-- no step ends a link by a collision
pub never : (v : View) (k : IsReached v) (m : Move) (reason : Reason) → may_move m (now_of v k) ≡ true → (move m (now_of v k)).link.end ≢ Collided reason
never v k m reason may ended =
    let joint = is_run (k.moves ++ m ∷ []) in
    never_ends joint.0 reason
    (ap (λ (s : Link). s.end) (sym joint.1 ∙ ap (λ (r : Numbered). r.link) (run_on v k m may)) ∙ ended)

-- ---- where an indication waits

-- the central enters the event of each Instant as it comes
abbrev pub IsAtCentral : Option ℕ → ℕ → ℕ → Type 0
IsAtCentral None event over = over ≤ event + 1
IsAtCentral (Some at) event over = (at + 1 ≡ over) × (event + 1 ≤ at)

-- of a peripheral that has not entered the Instant before the last one it is that which waits
abbrev pub IsAtPeripheral : Option ℕ → Place → ℕ → ℕ → Type 0
IsAtPeripheral None place over older = ⊤
IsAtPeripheral (Some at) Before over older = at + 1 ≡ over
IsAtPeripheral (Some at) At over older = at + 1 ≡ over
IsAtPeripheral (Some at) After over older = ⊥
IsAtPeripheral (Some at) LateBefore over older = at + 1 ≡ older
IsAtPeripheral (Some at) LateAt over older = at + 1 ≡ older

-- no Instant is near the first event
abbrev pub IsFar : ℕ → Type 0
IsFar n = (n ≡ 0) ⊎ (7 ≤ n)

pub record Seen (v : View) : Type 0 where
  pub reached : IsReached v
  pub central_waits : IsAtCentral v.central_waits v.central_event v.passed_from
  pub peripheral_waits : IsAtPeripheral v.peripheral_waits reached.peripheral_at v.passed_from reached.earlier
  pub far : IsFar v.passed_from
  pub far_earlier : IsFar reached.earlier

-- ---- steps that enter no event and send no indication

abbrev pub with_parts : View → Central → Peripheral → Way → Way → Option Pdu → View
with_parts v central peripheral down up kept =
    record v { central = central; peripheral = peripheral; down = down; up = up; kept = kept }

abbrev pub link_with : (v : View) → IsReached v → Central → Peripheral → Way → Way → Option Pdu → Link
link_with v k central peripheral down up kept = (numbered_of (with_parts v central peripheral down up kept) k.central_at k.peripheral_at k.earlier).link

module _ (v : View) (s : Seen v) where
  abbrev pub link : Link
  link = (now_of v s.reached).link

  abbrev pub Comes : Event → Type 0
  Comes event = may_move (makes event) (now_of v s.reached) ≡ true

  pub plain : (event : Event) (central : Central) (peripheral : Peripheral) (down up : Way) (kept : Option Pdu) → Comes event
      → act event link ≡ link_with v s.reached central peripheral down up kept → Seen (with_parts v central peripheral down up kept)
  plain event central peripheral down up kept comes is =
      record {
        reached =
            moved_on v s.reached (makes event) (with_parts v central peripheral down up kept) s.reached.central_at s.reached.peripheral_at
            s.reached.earlier comes (ap (λ (t : Link). record (now_of v s.reached) { link = t }) is);
        central_waits = s.central_waits;
        peripheral_waits = s.peripheral_waits;
        far = s.far;
        far_earlier = s.far_earlier;
      }

  -- ---- the central's table

  pub begins_central : (kind : Exclusive) → v.kept ≡ None → CentralTable.may_begin kind v.central ≡ true
      → Seen (record v { central = CentralTable.begun kind v.central })
  begins_central kind free may =
      plain (CentralBegins kind) _ _ _ _ _
      (and_from (is_none v.kept) (CentralTable.may_begin kind v.central) (ap (λ (o : Option Pdu). is_none o) free) may) refl

  pub grants : is_host_asked_at_central v.central.peer ≡ true → Seen (record v { central = CentralTable.granted v.central })
  grants asked = plain HostGrants _ _ _ _ _ asked refl

  pub refuses : (reason : Reason) → is_host_asked_at_central v.central.peer ≡ true → Seen (record v { central = CentralTable.refused reason v.central })
  refuses reason asked = plain (HostRefuses reason) _ _ _ _ _ asked refl

  pub closes_central : v.central.closed ≡ false → Seen (record v { central = CentralTable.terminated v.central })
  closes_central still = plain CentralCloses _ _ _ _ _ (ap not still) refl

  -- ---- the peripheral's table

  pub begins_peripheral : (kind : Exclusive) → PeripheralTable.may_begin kind v.peripheral ≡ true
      → Seen (record v { peripheral = PeripheralTable.begun kind v.peripheral })
  begins_peripheral kind may = plain (PeripheralBegins kind) _ _ _ _ _ may refl

  pub closes_peripheral : v.peripheral.closed ≡ false → Seen (record v { peripheral = PeripheralTable.terminated v.peripheral })
  closes_peripheral still = plain PeripheralCloses _ _ _ _ _ (ap not still) refl

  -- ---- what is sent and acknowledged

  same_is : v.central_event ≡ v.peripheral_event → (v.central_event == v.peripheral_event) ≡ true
  same_is same = eq-eqb v.central_event v.peripheral_event same

  pub central_acks : (pdu : Pdu) → v.down ≡ Taken pdu → v.central_event ≡ v.peripheral_event
      → Seen (record v { central = CentralTable.acked pdu v.central; down = Clear })
  central_acks pdu down same =
      plain CentralAcked (CentralTable.acked pdu v.central) v.peripheral Clear v.up v.kept
      (and_from (is_taken v.down) (v.central_event == v.peripheral_event) (ap is_taken down) (same_is same))
      (rw down refl)

  pub fixes : (pdu : Pdu) → v.up ≡ Clear → PeripheralTable.next_pdu v.peripheral ≡ Some pdu
      → Seen (record v { peripheral = PeripheralTable.sent pdu v.peripheral; up = Fixed pdu })
  fixes pdu up next =
      plain PeripheralFixes v.central (PeripheralTable.sent pdu v.peripheral) v.down (Fixed pdu) v.kept (rw (up, next) refl) (rw next refl)

  pub sends_fixed : (pdu : Pdu) → v.up ≡ Fixed pdu → is_none (pdu_on_air v.down) ≡ true → Seen (record v { up = OnAir pdu })
  sends_fixed pdu up free = plain PeripheralSends v.central v.peripheral v.down (OnAir pdu) v.kept (rw up free) (rw up refl)

  -- events of one number, or an indication whose Instant the peripheral has passed
  abbrev pub InTime : Type 0
  InTime = ((v.central_event == v.peripheral_event) || (nat_le v.passed_from v.peripheral_event && is_pdu is_timed (pdu_on_air v.down))) ≡ true

  pub peripheral_acks : (pdu : Pdu) → v.up ≡ Taken pdu → InTime
      → Seen (record v { peripheral = PeripheralTable.acked pdu v.peripheral; up = Clear })
  peripheral_acks pdu up time =
      plain PeripheralAcked v.central (PeripheralTable.acked pdu v.peripheral) v.down Clear v.kept (rw up time) (rw up refl)

  -- ---- what the central takes

  pub take_may : (test : Pdu → Bool) (pdu : Pdu) (up down : Way) → up ≡ OnAir pdu → test pdu ≡ true → is_taken down ≡ false → v.central_event ≡ v.peripheral_event
      → (is_pdu test (pdu_on_air up) && (not (is_taken down) && (v.central_event == v.peripheral_event))) ≡ true
  take_may test pdu up down is passes free same = rw (is, passes, free) (same_is same)

  pub keeps : (pdu : Pdu) → v.up ≡ OnAir pdu → is_first pdu ≡ true → is_taken v.down ≡ false → v.central_event ≡ v.peripheral_event
      → central_kind v.central.own ≡ None → Seen (record v { up = Taken pdu; kept = Some pdu })
  keeps pdu up first free same idle =
      plain CentralKeeps v.central v.peripheral v.down (Taken pdu) (Some pdu)
      (and_from (is_pdu is_first (pdu_on_air v.up) && (not (is_taken v.down) && (v.central_event == v.peripheral_event))) (is_none (central_kind v.central.own))
      (take_may is_first pdu v.up v.down up first free same) (ap (λ (o : Option Exclusive). is_none o) idle))
      (rw up refl)

  -- what follows of a PDU that the central takes
  pub record CentralTook (answer : Central × End) (w : View) : Type 0 where
    pub never : (reason : Reason) → answer.1 ≢ Collided reason
    pub goes : answer.1 ≡ Open → Seen w

  pub central_takes : (judged : Bool) (pdu : Pdu) → v.up ≡ OnAir pdu → is_judgeable judged pdu ≡ true → is_taken v.down ≡ false
      → v.central_event ≡ v.peripheral_event
      → CentralTook (CentralTable.taken judged pdu v.central) (record v { central = (CentralTable.taken judged pdu v.central).0; up = Taken pdu })
  central_takes judged pdu up fits free same =
      let comes = take_may (is_judgeable judged) pdu v.up v.down up fits free same in
      record {
        never = λ reason ended. never v s.reached (makes (CentralTakes judged)) reason comes (rw up ended);
        goes =
            λ open_end. plain (CentralTakes judged) (CentralTable.taken judged pdu v.central).0 v.peripheral v.down (Taken pdu) v.kept comes
            (rw (up, open_end) refl);
      }

  pub takes_kept : (judged : Bool) (pdu : Pdu) → v.kept ≡ Some pdu → is_judgeable judged pdu ≡ true
      → CentralTook (CentralTable.taken judged pdu v.central) (record v { central = (CentralTable.taken judged pdu v.central).0; kept = None })
  takes_kept judged pdu kept fits =
      let comes : Comes (CentralTakesKept judged) = rw kept fits in
      record {
        never = λ reason ended. never v s.reached (makes (CentralTakesKept judged)) reason comes (rw kept ended);
        goes =
            λ open_end. plain (CentralTakesKept judged) (CentralTable.taken judged pdu v.central).0 v.peripheral v.down v.up None comes
            (rw (kept, open_end) refl);
      }
