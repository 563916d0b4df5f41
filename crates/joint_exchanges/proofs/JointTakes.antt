-- A PDU is taken in a joint run: the moves that this is, and they may come.
use Rattle.std.proofs.Common.{◌≡◌, ℕ, Bool, true, false, if◌then◌else◌, [], Option, Some, None, is_some, refl, ap, sym, ◌∙◌, subst}
use Rattle.ble_base.specs.declared.roles.Role.{Role}
use Rattle.ble_base.specs.declared.roles.Role.TheVariants.{Central, Peripheral}
use Rattle.data_pdu.specs.declared.ctrl.Ctrl.{Ctrl}
use Rattle.data_pdu.specs.declared.ctrl.Ctrl.TheVariants.{LengthReq, PeripheralFeatureReq, TerminateInd, VersionInd}
use Rattle.data_pdu.specs.declared.ctrl.CtrlRead.TheVariants.{Known}
use Rattle.joint_controls.specs.enc_phase.declared.classes.PduClass.{PduClass}
use Rattle.joint_controls.specs.enc_phase.declared.classes.PduClass.TheVariants.{Request}
use Rattle.joint_controls.specs.enc_phase.Taking.{allows, ctrl_class}
use Rattle.exchange_steps.specs.procedure_values.declared.drafts.Outgoing.{Outgoing}
use Rattle.exchange_steps.specs.exchange_pairs.Exchange.{Question}
use Rattle.joint_controls.specs.phased_control.Phased.{Phased, is_quiet_now}
use Rattle.joint_controls.specs.phased_control.Taken.{Response, Takes, TakesData, answered_if_quiet, answered_kept, ciphered, does_keep, is_allowed, keeping, keeps_class, phased_after, role_now, took}
use Rattle.joint_controls.specs.Joint.{Clear, Control, Data, Fixed, Joint, OnAir, Taken, Way, CentralTakes, PeripheralTakes, act, is_terminate, item_on_air, no_response}
use Rattle.joint_exchanges.specs.JointMoves
use Rattle.joint_exchanges.specs.JointMoves.{keeps as keeps_moves, kept_taken, moves_of, takes}
use Rattle.joint_exchanges.specs.Moves.{IsFirst}
use Rattle.joint_exchanges.specs.Parts.{AnyPdu, ExchangeParts, exchanges_at, of_lengths, of_versions, parts_of, pdu_kept, pdu_of_first, pdu_of_outgoing}
use Rattle.joint_exchanges.proofs.CentralKeeps.{KeepsForLater}
use Rattle.joint_exchanges.specs.SentByRole.{IsEndOf, IsKeptBy, IsSentBy, IsWayOf}
use Rattle.joint_exchanges.proofs.JointSteps.{Runs}
use Rattle.joint_exchanges.proofs.EndRoles.{ciphered_end, handed_end}
use Rattle.joint_exchanges.proofs.EndSteps.{Makes, phased_is}
use Rattle.joint_exchanges.proofs.EndTakes.{TakesOf, ciphered_none, data_same, handed_takes, kept_takes}
use Rattle.joint_exchanges.proofs.Known.{sent_known}
use Rattle.joint_exchanges.proofs.MayDo.{idle_encrypting}
use Rattle.joint_exchanges.proofs.PartMoves.{IsMoved, central_keeps, central_takes, kept_goes, kept_stays, peripheral_takes, then_moved, unmoved}
use Rattle.joint_exchanges.proofs.Reading.{IsRead, IsTerminate, read_as_sent}
use Rattle.joint_exchanges.proofs.TableRoles.{IsKnownAt}
use Rattle.joint_exchanges.proofs.Took.{TookAs, handed, hands, keeps, took_as}

-- what is kept is a first PDU
first_is : (ctrl : Ctrl) (pdu : AnyPdu) → pdu_of_first ctrl ≡ Some pdu → IsFirst pdu
first_is (PeripheralFeatureReq features) pdu is = subst first (some_is _ pdu is) tt
  where
    first : AnyPdu → Type 0
    first x = IsFirst x

    some_is : (x y : AnyPdu) → ◌≡◌ {A = Option AnyPdu} (Some x) (Some y) → x ≡ y
    some_is x y is = cc
first_is (LengthReq rx rx_time tx tx_time) pdu is = subst (λ (x : AnyPdu). IsFirst x) (some_is (of_lengths (record { pdu = Question; rx = rx; tx = tx })) pdu is) refl
  where
    some_is : (x y : AnyPdu) → ◌≡◌ {A = Option AnyPdu} (Some x) (Some y) → x ≡ y
    some_is x y is = cc
first_is (VersionInd version company sub) pdu is = subst (λ (x : AnyPdu). IsFirst x) (some_is of_versions pdu is) tt
  where
    some_is : (x y : AnyPdu) → ◌≡◌ {A = Option AnyPdu} (Some x) (Some y) → x ≡ y
    some_is x y is = cc
first_is ctrl pdu is = absurd (cc)

keeps_all : (class : PduClass) (role : Role) (quiet : Bool) → keeps_class class role quiet ≡ true → (class ≡ Request) × ((role ≡ Central) × (quiet ≡ false))
keeps_all Request Central false is = (refl, (refl, refl))
keeps_all Request Central true is = absurd (cc)
keeps_all Request Peripheral quiet is = absurd (cc)
keeps_all class role quiet is = absurd (cc)

-- ---- the central takes a control PDU

module _ (s : Joint) (slot : ℕ) (outgoing : Outgoing) (ctrl : Ctrl) (sealed : Bool) where
  abbrev read : Phased → Phased
  read c = handed slot (Known ctrl) c

  abbrev joint : Joint
  joint = record s { up = OnAir (Control outgoing ctrl) sealed }

  abbrev p : ExchangeParts
  p = parts_of joint

  abbrev pdu : Option AnyPdu
  pdu = pdu_of_outgoing outgoing

  -- the parts after the central became this one
  abbrev with_end : Phased → ExchangeParts
  with_end t = record p { central = exchanges_at t; central_knows = t.knows_version; up = None; kept = pdu_kept t.kept }

  abbrev Goes : Option Ctrl → Phased → Type 0
  Goes kept t = IsMoved (JointMoves.central_takes pdu kept t.kept) p (with_end t)

  -- ---- the PDU is kept

  goes_kept : (t : Phased) → does_keep (Known ctrl) s.central ≡ true → is_allowed (Known ctrl) s.central ≡ true → t ≡ keeping (Known ctrl) s.central
      → KeepsForLater s.central → IsRead s.central.control.table outgoing ctrl → Goes s.central.kept t
  goes_kept t kept allowed same k is =
      let all = keeps_all (ctrl_class ctrl) (role_now s.central) (is_quiet_now s.central) kept in
      let none : s.central.kept ≡ None =
      k.once all.1.1
      (subst (λ (role : Role). allows s.central.phase role Request ≡ true) all.1.0
      (subst (λ (class : PduClass). allows s.central.phase (role_now s.central) class ≡ true) all.0 allowed)) in
      subst (λ (x : Phased). Goes s.central.kept x) (sym same)
      (subst (λ (x : Option Ctrl). Goes x (keeping (Known ctrl) s.central)) (sym none)
      (central_keeps pdu p (with_end (keeping (Known ctrl) s.central)) refl
      (λ x first. first_is ctrl x (is.first all.0 ∙ first))
      (ap pdu_kept none)
      (idle_encrypting s.central (k.encrypts all.1.1))
      (λ i. record p { up = None; kept = is.first all.0 i })))

  -- ---- the procedures see it; then it is the central `v`

  module _ (v : Phased) (one : TakesOf pdu s.central v) (same_kept : v.kept ≡ s.central.kept) where
    -- the parts before the kept PDU is taken
    abbrev between : ExchangeParts
    between = record p { central = exchanges_at v; central_knows = v.knows_version; up = None }

    first_moved : IsMoved (takes Central pdu) p between
    first_moved = central_takes pdu p between refl (λ i. record p { central = one.ends i; central_knows = one.knows i; up = None })

    -- by what it kept and what it keeps
    abbrev GoesTo : Option Ctrl → Option Ctrl → Phased → Type 0
    GoesTo kept now t = IsMoved (JointMoves.central_takes pdu kept now) p (with_end t)

    stays_by : (kept : Option Ctrl) → GoesTo kept kept v
    stays_by None =
        then_moved (takes Central pdu) [] p between (with_end v) first_moved
        (unmoved between (with_end v) (λ i. record between { kept = pdu_kept (same_kept i) }))
    stays_by (Some first) =
        then_moved (takes Central pdu) (kept_taken (pdu_of_first first) (Some first)) p between (with_end v) first_moved
        (subst (λ moves. IsMoved moves between (with_end v)) (sym (kept_stays (pdu_of_first first) first))
        (unmoved between (with_end v) (λ i. record between { kept = pdu_kept (same_kept i) })))

    stays : Goes s.central.kept v
    stays = subst (λ (now : Option Ctrl). GoesTo s.central.kept now v) (sym same_kept) (stays_by s.central.kept)

    -- the PDU that was kept is taken
    answers : (first : Ctrl) → v.kept ≡ Some first → TakesOf (pdu_of_first first) v (answered_kept slot (Some first) v)
        → Goes s.central.kept (answered_kept slot (Some first) v)
    answers first is two =
        subst (λ (kept : Option Ctrl). Goes kept (answered_kept slot (Some first) v)) (sym is ∙ same_kept)
        (then_moved (takes Central pdu) (kept_taken (pdu_of_first first) None) p between (with_end (answered_kept slot (Some first) v)) first_moved
        (kept_goes (pdu_of_first first) between (with_end (answered_kept slot (Some first) v)) (ap pdu_kept (sym same_kept ∙ is)) (first_is first)
        (λ i. record between { central = two.ends i; central_knows = two.knows i; kept = None })))

    goes_on_by : (quiet : Bool) (kept : Option Ctrl) → v.kept ≡ kept → IsEndOf true Central v → (if quiet then answered_kept slot kept v else v).control.ends ≡ None
        → Goes s.central.kept (if quiet then answered_kept slot kept v else v)
    goes_on_by false kept is e goes = stays
    goes_on_by true None is e goes = stays
    goes_on_by true (Some first) is e goes =
        answers first is (kept_takes slot first v e.table.same_role (subst (λ (x : Option Ctrl). IsKeptBy Central x) is e.kept) goes)

  goes_handed : (t : Phased) → IsEndOf true Central s.central → IsSentBy true Peripheral outgoing ctrl → IsRead s.central.control.table outgoing ctrl
      → s.central.control.ends ≡ None → (read s.central).control.ends ≡ None
      → t ≡ answered_if_quiet slot (ciphered no_response (Known ctrl) (read s.central)) → t.control.ends ≡ None → Goes s.central.kept t
  goes_handed t e sent is open_now lasts same goes =
      subst (λ (x : Phased). Goes s.central.kept x) (sym same)
      (goes_on_by v (record { ends = none.ends ∙ h.ends; knows = none.knows ∙ h.knows }) none.kept (is_quiet_now v) v.kept refl
      (ciphered_end true Central slot no_response (Known ctrl) s.central e known (λ is. refl))
      (ap (λ (x : Phased). x.control.ends) (sym same) ∙ goes))
    where
      v : Phased
      v = ciphered no_response (Known ctrl) (read s.central)

      known : IsKnownAt Central ctrl
      known = sent_known true Peripheral outgoing ctrl sent

      h : TakesOf pdu s.central (read s.central)
      h = handed_takes Central slot no_response ctrl outgoing s.central is open_now lasts

      none : Makes None (read s.central) v
      none =
          ciphered_none Central slot no_response ctrl outgoing s.central
          (handed_end true Central slot no_response (Known ctrl) s.central e known (λ is. refl)).table.same_role

  goes_as : (t : Phased) → TookAs slot no_response (Known ctrl) s.central t → KeepsForLater s.central → IsEndOf true Central s.central → IsSentBy true Peripheral outgoing ctrl
      → (IsTerminate ctrl → ⊥) → s.central.control.ends ≡ None → t.control.ends ≡ None → Goes s.central.kept t
  goes_as t (keeps kept allowed same) k e sent lasting open_now goes =
      goes_kept t kept allowed same k (read_as_sent true s.central.control.table Peripheral outgoing ctrl e.table.same_role sent lasting)
  goes_as t (hands kept lasts same) k e sent lasting open_now goes =
      goes_handed t e sent (read_as_sent true s.central.control.table Peripheral outgoing ctrl e.table.same_role sent lasting) open_now lasts same goes

-- ---- the central takes what is on its way

terminate_is : (ctrl : Ctrl) → is_terminate ctrl ≡ false → IsTerminate ctrl → ⊥
terminate_is (TerminateInd code) is t = cc
terminate_is ctrl is t = absurd t

module _ (s : Joint) (slot : ℕ) where
  data_moves : (kept : Option Ctrl) → JointMoves.central_takes None kept kept ≡ []
  data_moves None = refl
  data_moves (Some first) = kept_stays (pdu_of_first first) first

  central_takes_data : (sealed : Bool) → s.central.control.ends ≡ None → (phased_after TakesData s.central).control.ends ≡ None
      → IsMoved (moves_of (CentralTakes slot) (record s { up = OnAir Data sealed })) (parts_of (record s { up = OnAir Data sealed }))
      (parts_of (act (CentralTakes slot) (record s { up = OnAir Data sealed })))
  central_takes_data sealed lasts goes =
      let same : phased_after TakesData s.central ≡ s.central =
      phased_is TakesData s.central lasts ∙ data_same s.central (ap (λ (x : Phased). x.control.ends) (sym (phased_is TakesData s.central lasts)) ∙ goes) in
      subst
      (λ (x : Phased). IsMoved (JointMoves.central_takes None s.central.kept x.kept) (parts_of (record s { up = OnAir Data sealed }))
      (record (parts_of (record s { up = OnAir Data sealed })) { central = exchanges_at x; central_knows = x.knows_version; up = None; kept = pdu_kept x.kept }))
      (sym same)
      (subst (λ moves. IsMoved moves (parts_of (record s { up = OnAir Data sealed })) (parts_of (record s { up = OnAir Data sealed })))
      (sym (data_moves s.central.kept)) (unmoved _ _ refl))

  central_takes_ctrl : (outgoing : Outgoing) (ctrl : Ctrl) (sealed : Bool) → KeepsForLater s.central → IsEndOf true Central s.central → IsSentBy true Peripheral outgoing ctrl
      → is_terminate ctrl ≡ false → s.central.control.ends ≡ None → (phased_after (Takes (Known ctrl) slot no_response) s.central).control.ends ≡ None
      → IsMoved (moves_of (CentralTakes slot) (record s { up = OnAir (Control outgoing ctrl) sealed })) (parts_of (record s { up = OnAir (Control outgoing ctrl) sealed }))
      (parts_of (act (CentralTakes slot) (record s { up = OnAir (Control outgoing ctrl) sealed })))
  central_takes_ctrl outgoing ctrl sealed k e sent lasting lasts goes =
      let same = phased_is (Takes (Known ctrl) slot no_response) s.central lasts in
      let goes_on : (took slot no_response (Known ctrl) s.central).control.ends ≡ None = ap (λ (x : Phased). x.control.ends) (sym same) ∙ goes in
      subst (λ (x : Phased). IsMoved (JointMoves.central_takes (pdu_of_outgoing outgoing) s.central.kept x.kept) (parts_of (record s { up = OnAir (Control outgoing ctrl) sealed }))
      (record (parts_of (record s { up = OnAir (Control outgoing ctrl) sealed })) { central = exchanges_at x; central_knows = x.knows_version; up = None; kept = pdu_kept x.kept }))
      (sym same)
      (goes_as s slot outgoing ctrl sealed (took slot no_response (Known ctrl) s.central) (took_as slot no_response (Known ctrl) s.central goes_on)
      k e sent (terminate_is ctrl lasting) lasts goes_on)

  pub central_takes_way : (way : Way) → is_some (item_on_air way) ≡ true → IsWayOf true Peripheral way → KeepsForLater s.central → IsEndOf true Central s.central
      → s.central.control.ends ≡ None → Runs (act (CentralTakes slot) (record s { up = way }))
      → IsMoved (moves_of (CentralTakes slot) (record s { up = way })) (parts_of (record s { up = way })) (parts_of (act (CentralTakes slot) (record s { up = way })))
  central_takes_way (OnAir Data sealed) some of k e lasts runs = central_takes_data sealed lasts runs.central
  central_takes_way (OnAir (Control outgoing ctrl) sealed) some of k e lasts runs = central_takes_ctrl outgoing ctrl sealed k e of runs.goes lasts runs.central
  central_takes_way Clear some of k e lasts runs = absurd (cc)
  central_takes_way (Fixed item sealed) some of k e lasts runs = absurd (cc)
  central_takes_way (Taken item) some of k e lasts runs = absurd (cc)

-- ---- the peripheral takes what is on its way

module _ (s : Joint) (slot : ℕ) (response : Response) where
  peripheral_takes_data : (sealed : Bool) → s.peripheral.control.ends ≡ None → (phased_after TakesData s.peripheral).control.ends ≡ None
      → IsMoved [] (parts_of (record s { down = OnAir Data sealed })) (parts_of (act (PeripheralTakes slot response) (record s { down = OnAir Data sealed })))
  peripheral_takes_data sealed lasts goes =
      unmoved _ _
      (λ i. parts_of (record s {
        peripheral = (phased_is TakesData s.peripheral lasts ∙ data_same s.peripheral (ap (λ (x : Phased). x.control.ends) (sym (phased_is TakesData s.peripheral lasts)) ∙ goes)) i;
        down = Clear;
      }))

  kept_none : (kept : Option Ctrl) → IsKeptBy Peripheral kept → kept ≡ None
  kept_none None is = refl
  kept_none (Some first) is = absurd is

  answered_none : (b : Bool) (kept : Option Ctrl) (v : Phased) → IsKeptBy Peripheral kept → (if b then answered_kept slot kept v else v) ≡ v
  answered_none true None v is = refl
  answered_none true (Some first) v is = absurd is
  answered_none false kept v is = refl

  module _ (outgoing : Outgoing) (ctrl : Ctrl) (sealed : Bool) (e : IsEndOf true Peripheral s.peripheral) (sent : IsSentBy true Central outgoing ctrl)
      (open_now : s.peripheral.control.ends ≡ None) (lasting : IsTerminate ctrl → ⊥) where
    abbrev joint_p : Joint
    joint_p = record s { down = OnAir (Control outgoing ctrl) sealed }

    known_p : IsKnownAt Peripheral ctrl
    known_p = sent_known true Central outgoing ctrl sent

    peripheral_takes_of : (t : Phased) → TookAs slot response (Known ctrl) s.peripheral t → TakesOf (pdu_of_outgoing outgoing) s.peripheral t
    peripheral_takes_of t (keeps kept allowed same) =
        let all = keeps_all (ctrl_class ctrl) (role_now s.peripheral) (is_quiet_now s.peripheral) kept in
        absurd (let r = sym e.table.same_role ∙ all.1.0 in cc)
    peripheral_takes_of t (hands kept lasts same) =
        subst (λ (x : Phased). TakesOf (pdu_of_outgoing outgoing) s.peripheral x) (sym (same ∙ answered_none (is_quiet_now v) v.kept v v_end.kept))
        (record { ends = none.ends ∙ h.ends; knows = none.knows ∙ h.knows })
      where
        v : Phased
        v = ciphered response (Known ctrl) (handed slot (Known ctrl) s.peripheral)

        v_end : IsEndOf true Peripheral v
        v_end = ciphered_end true Peripheral slot response (Known ctrl) s.peripheral e known_p (λ is. refl)

        h : TakesOf (pdu_of_outgoing outgoing) s.peripheral (handed slot (Known ctrl) s.peripheral)
        h =
            handed_takes Peripheral slot response ctrl outgoing s.peripheral
            (read_as_sent true s.peripheral.control.table Central outgoing ctrl e.table.same_role sent lasting) open_now lasts

        none : Makes None (handed slot (Known ctrl) s.peripheral) v
        none =
            ciphered_none Peripheral slot response ctrl outgoing s.peripheral
            (handed_end true Peripheral slot response (Known ctrl) s.peripheral e known_p (λ is. refl)).table.same_role

    peripheral_takes_ctrl : (phased_after (Takes (Known ctrl) slot response) s.peripheral).control.ends ≡ None
        → IsMoved (takes Peripheral (pdu_of_outgoing outgoing)) (parts_of joint_p) (parts_of (act (PeripheralTakes slot response) joint_p))
    peripheral_takes_ctrl goes =
        let same = phased_is (Takes (Known ctrl) slot response) s.peripheral open_now in
        let t = took slot response (Known ctrl) s.peripheral in
        let one = peripheral_takes_of t (took_as slot response (Known ctrl) s.peripheral (ap (λ (x : Phased). x.control.ends) (sym same) ∙ goes)) in
        peripheral_takes (pdu_of_outgoing outgoing) (parts_of joint_p) (parts_of (act (PeripheralTakes slot response) joint_p)) refl
        ((λ i. parts_of (record s { peripheral = same i; down = Clear }))
        ∙ (λ i. record (parts_of joint_p) { peripheral = one.ends i; peripheral_knows = one.knows i; down = None }))

  pub peripheral_takes_way : (way : Way) → is_some (item_on_air way) ≡ true → IsWayOf true Central way → IsEndOf true Peripheral s.peripheral
      → s.peripheral.control.ends ≡ None → Runs (act (PeripheralTakes slot response) (record s { down = way }))
      → IsMoved (moves_of (PeripheralTakes slot response) (record s { down = way })) (parts_of (record s { down = way }))
      (parts_of (act (PeripheralTakes slot response) (record s { down = way })))
  peripheral_takes_way (OnAir Data sealed) some of e lasts runs = peripheral_takes_data sealed lasts runs.peripheral
  peripheral_takes_way (OnAir (Control outgoing ctrl) sealed) some of e lasts runs =
      peripheral_takes_ctrl outgoing ctrl sealed e of lasts (terminate_is ctrl runs.goes) runs.peripheral
  peripheral_takes_way Clear some of e lasts runs = absurd (cc)
  peripheral_takes_way (Fixed item sealed) some of e lasts runs = absurd (cc)
  peripheral_takes_way (Taken item) some of e lasts runs = absurd (cc)
