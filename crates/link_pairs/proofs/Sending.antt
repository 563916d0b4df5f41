-- The central sends its packet: the last PDU again, or a new one, which goes on its way in both runs.
use Rattle.std.proofs.Common.{◌≡◌, ◌<◌, ◌≤◌, ◌-◌, ◌==◌, ◌&&◌, ◌||◌, ℕ, zero, suc, Bool, true, false, not, List, [], ◌∷◌, length, Option, Some, None, is_some, refl, sym, ap, subst, ◌∙◌, arith, if◌then◌else◌}
use Rattle.std.proofs.lemmas.Bool.{and_from, and_parts}
use Rattle.std.proofs.Math.Nat.{min-le_left}
use Rattle.ack_bit.proofs.Directions.{not-false}
use Rattle.data_pdu.specs.declared.ctrl.Ctrl.{Ctrl}
use Rattle.joint_laws.specs.joint_controls.phased_control.enc_phase.Phases.{seals}
use Rattle.ble_base.specs.declared.roles.Role.TheVariants.{Central, Peripheral}
use Rattle.instants.specs.declared.indications.Indication.{Indication}
use Rattle.instants.specs.Track.{TrackFacts}
use Rattle.control_octets.specs.procedure_stages.Kinds.{role_of}
use Rattle.control_octets.specs.procedure_values.Limits.{tx_of}
use Rattle.two_tracks.specs.TwoEnds.{Acknowledged, LastPdu, Taken, TwoEnds, Untaken}
use Rattle.two_tracks.specs.TwoEnds as two_ends
use Rattle.control_octets.specs.control_model.Control.{Control, Sends as control_sends, after}
use Rattle.control_octets.proofs.control_model.Moving.{same_role}
use Rattle.control_octets.specs.Fitting.{FitsOctets}
use Rattle.control_octets.proofs.Pdus.{written_short}
use Rattle.control_octets.proofs.Steps.{stays_fitting}
use Rattle.joint_laws.specs.joint_controls.phased_control.Phased.{Phased}
use Rattle.joint_laws.specs.joint_controls.phased_control.Taken.{Sends, phased_after}
use Rattle.joint_laws.specs.joint_controls.Joint.{CentralSends, CentralSendsData, Clear, Control as control_item, Data as data_item, Item, Joint, JointStep, OnAir, Way, is_running, item_by, may, next_item, next_out, on_air, sends_data}
use Rattle.joint_laws.proofs.joint_controls.Running.{goes_on}
use Rattle.joint_keys.specs.KeyedJoint.{Keys, keyed_joint_after_all, keys_sending}
use Rattle.joint_keys.specs.KeyedLinks.{with_ltk}
use Rattle.joint_keys.proofs.Closings.{GoesAlike}
use Rattle.joint_laws.specs.joint_parameters.Turns.{Link, MayLink, MayTransmit, SendsControl, SendsData, SendsEmpty, link_after, next_indication}
use Rattle.joint_laws.proofs.joint_parameters.Pairing.{after_may}
use Rattle.link_model.specs.Acknowledgement.{Acknowledgement, Pdu, after_sending, is_acked, next_sent}
use Rattle.link_model.specs.Data.{is_data, is_empty}
use Rattle.link_model.specs.OneLink.{AreInAgreement}
use Rattle.link_model.specs.Setup.{Setup}
use Rattle.link_model.specs.Controls.{is_quiet_now, next_control, pdu_fixed, pdu_of_control}
use Rattle.link_model.specs.Facts.{Facts}
use Rattle.link_model.specs.Sending.{control_gone, control_gone_if, facts_sent, fixed_sent}
use Rattle.link_model.proofs.Acknowledging.{gone_leaves}
use Rattle.link_pairs.specs.Ends.{AreEnds, IsAtRest, phased_of}
use Rattle.link_pairs.specs.Shown.{HasKeys, HaveKeys, Shows}
use Rattle.link_pairs.specs.Turns.{HasFixed}
use Rattle.link_pairs.specs.Ways.{IsItem, ShowsLast, ShowsWay, is_untaken}
use Rattle.link_pairs.proofs.ControlKept.{IsKept, kept_none, sent_kept}
use Rattle.link_pairs.proofs.Counts.{sent_agreed}
use Rattle.link_pairs.proofs.Fixing.{IsPiece}
use Rattle.link_pairs.proofs.FixingNext.{next_is_control}
use Rattle.link_pairs.proofs.PeripheralSteps.{next_item_is, sends_data_is}
use Rattle.link_pairs.proofs.PhasedEnds.{gone_phased}
use Rattle.link_pairs.proofs.Items.{data_is_not_empty, item_is_not_empty}
use Rattle.link_pairs.proofs.KeyedRuns.{keys_once}
use Rattle.link_pairs.proofs.KeysAt.{goes_alike_at}
use Rattle.link_pairs.proofs.KeysHeld.{again_has, empty_has, have_after, new_has, sent_as, sent_is_as}
use Rattle.link_pairs.proofs.Reaching.{IsReached, IsShown, central_transmits, comes, joint_at, keys_at, paired, shown, shown_next}
use Rattle.link_pairs.proofs.Showing.{central_shows}
use Rattle.link_pairs.proofs.Ways.{acked_is_clear, last_sent, way_same, way_sent, way_sent_empty}

-- ---- the turns

-- a new PDU of the central is out, and no end has heard anything
record SendsNew (t u : TwoEnds) : Type 0 where
  turns : u.turns ≡ t.turns
  replies : u.replies ≡ t.replies
  central_heard : u.central_heard_at ≡ t.central_heard_at
  peripheral_heard : u.peripheral_heard_at ≡ t.peripheral_heard_at
  untaken : is_untaken u.last ≡ true

sends_new : (indication : Option Indication) (t : TwoEnds) → SendsNew t (two_ends.after (two_ends.CentralSends indication) t)
sends_new None t = record { turns = refl; replies = refl; central_heard = refl; peripheral_heard = refl; untaken = refl }
sends_new (Some indication) t = record { turns = refl; replies = refl; central_heard = refl; peripheral_heard = refl; untaken = refl }

-- ---- the facts of the central, by whether its last PDU is acknowledged

sent_is : (acked fixes : Bool) (slot : ℕ) (facts : Facts) → is_acked facts.acknowledgement ≡ acked → facts.fixes_control ≡ fixes
    → facts_sent slot facts ≡ sent_as acked slot (control_gone_if (acked && fixes) slot facts)
sent_is acked fixes slot facts all control =
    (λ i. fixed_sent slot (control_gone_if (all i && control i) slot facts))
    ∙ sent_is_as acked slot (control_gone_if (acked && fixes) slot facts) (ap is_acked (gone_leaves (acked && fixes) slot facts) ∙ all)

-- ---- one end

again_rests : (setup : Setup) (turns slot : ℕ) (facts : Facts) → IsAtRest setup turns facts → IsAtRest setup turns (sent_as false slot facts)
again_rests setup turns slot facts r =
    record {
      fits = r.fits;
      holds = record { request = r.holds.request; kept = r.holds.kept; response = r.holds.response };
      role = r.role;
      none_gone = r.none_gone;
      fits_any = r.fits_any;
      two_bits = r.two_bits;
      slot = r.slot;
      number = r.number;
      heard = r.heard;
      past = r.past;
      stays = r.stays;
    }

-- the control part is this one as the PDU goes
abbrev with_fixed : Facts → Control → Bool → Pdu → Facts
with_fixed facts d fixes pdu = record facts { control = d; fixes_control = fixes; outgoing = record facts.outgoing { fixed = pdu } }

module _ (setup : Setup) (turns slot : ℕ) (facts : Facts) (r : IsAtRest setup turns facts) where
  new_rests : (d : Control) (fixes : Bool) (pdu : Pdu) → IsKept facts.control d → FitsOctets d → role_of d.table.progress ≡ setup.link.role
      → length pdu.body ≤ 251 → pdu.llid < 4 → IsAtRest setup turns (sent_as true slot (with_fixed facts d fixes pdu))
  new_rests d fixes pdu kept fits role short two_bits =
      record {
        fits = fits;
        holds = record { request = r.holds.request; kept = r.holds.kept; response = r.holds.response };
        role = role;
        none_gone = refl;
        fits_any = short;
        two_bits = two_bits;
        slot = λ entered. r.slot (subst (λ (n : ℕ). 1 ≤ n) kept.entered entered) ∙ sym kept.anchor;
        number = r.number ∙ ap (λ (n : ℕ). n - 1) (sym kept.entered);
        heard = λ heard. let before = r.heard heard in (subst (λ (n : ℕ). 1 ≤ n) (sym kept.entered) before.0, before.1);
        past = r.past;
        stays = r.stays;
      }

-- ---- both ends

module _ (central peripheral : Setup) (turns : ℕ) (answers : Bool) (l : Link) (c p : Facts) (s : Shows central peripheral turns answers l c p)
    (all : is_acked c.acknowledgement ≡ true) (slot : ℕ) where
  -- a new PDU is on this way
  new_shows : (t : TwoEnds) (x : Phased) (way : Way) (d : Control) (fixes : Bool) (pdu : Pdu) → SendsNew l.turns t
      → x ≡ phased_of (with_fixed c d fixes pdu) → ShowsWay way (after_sending pdu c.acknowledgement) p.acknowledgement
      → IsAtRest central turns (sent_as true slot (with_fixed c d fixes pdu)) → length pdu.body ≤ peripheral.link.max_rx
      → Shows central peripheral turns answers (record { turns = t; joint = record l.joint { central = x; down = way } }) (sent_as true slot (with_fixed c d fixes pdu)) p
  new_shows t x way d fixes pdu new is shown rests fits =
      record {
        central_part = is;
        peripheral_part = s.peripheral_part;
        down = subst (λ (a : Acknowledgement). ShowsWay way a p.acknowledgement) same shown;
        up = way_same l.joint.up p.acknowledgement c.acknowledgement p.acknowledgement now refl refl refl refl s.up;
        agreement = subst (λ (a : Acknowledgement). AreInAgreement a p.acknowledgement) same (sent_agreed pdu c.acknowledgement p.acknowledgement s.agreement);
        begun = new.turns ∙ s.begun;
        replies = λ is. new.replies ∙ s.replies is;
        last = last_now;
        central_heard = new.central_heard ∙ s.central_heard;
        peripheral_heard = new.peripheral_heard ∙ s.peripheral_heard;
        free = λ acked. absurd (never t.last (last_now.acknowledged acked) new.untaken);
        central_rests = rests;
        peripheral_rests = s.peripheral_rests;
        central_fits = fits;
        peripheral_fits = s.peripheral_fits;
      }
    where
      now : Acknowledgement
      now = next_sent true pdu c.acknowledgement

      same : after_sending pdu c.acknowledgement ≡ now
      same = ap (λ (b : Bool). next_sent b pdu c.acknowledgement) all

      last_now : ShowsLast t.last now p.acknowledgement
      last_now =
          subst (λ (a : Acknowledgement). ShowsLast t.last a p.acknowledgement) same
          (last_sent pdu c.acknowledgement p.acknowledgement s.agreement all t.last new.untaken)

      never : (last : LastPdu) → last ≡ Acknowledged → is_untaken last ≡ true → ⊥
      never (Untaken change) is untaken = cc
      never Taken is untaken = cc
      never Acknowledged is untaken = cc

-- ---- its packet, step by step

-- a piece with no data is empty
piece_empty : (llid : ℕ) (body : List ℕ) → llid < 3 → (((llid == 1) || (llid == 2)) && not (length body == 0)) ≡ false → ((llid == 0) || (length body == 0)) ≡ true
piece_empty zero body small none = refl
piece_empty (suc zero) body small none = not-false (length body == 0) none
piece_empty (suc (suc zero)) body small none = not-false (length body == 0) none
piece_empty (suc (suc (suc more))) body small none = absurd (omega (arith, small))

module _ (central peripheral : Setup) (ends : AreEnds central peripheral) (turns : ℕ) (answers : Bool) (l : Link) (reached : IsReached central peripheral l)
    (running : is_running l.joint ≡ true) (c p : Facts) (s : Shows central peripheral turns answers l c p)
    (keys : HaveKeys (keys_at central peripheral l reached) c p) (slot : ℕ) where
  abbrev Goes : Facts → Type 0
  Goes facts = IsShown central peripheral turns answers facts p

  again : Goes (sent_as false slot c)
  again =
      shown central peripheral turns answers l (sent_as false slot c) p reached
      (central_shows central peripheral turns answers l c p s l.joint.central (sent_as false slot c) s.central_part refl refl
      (again_rests central turns slot c s.central_rests))
      (record { central_keys = again_has slot (keys_at central peripheral l reached).central c keys.central_keys; peripheral_keys = keys.peripheral_keys })
      (goes_on l.joint running).stopped

  -- the keys as it sends a PDU that is not empty
  sends_keys : (step : JointStep) (d : Facts) → may step l.joint ≡ true → ((k : Keys) → keys_once Central step [] l.joint k ≡ keys_sending k)
      → ((k : Keys) → keys_once Peripheral step [] l.joint k ≡ k) → HasKeys (keys_sending (keys_at central peripheral l reached).central) d
      → HaveKeys (keyed_joint_after_all (with_ltk [] (step ∷ [])) (keys_at central peripheral l reached)) d p
  sends_keys step d comes one other has =
      let k = keys_at central peripheral l reached in
      have_after [] (step ∷ []) k l.joint d p (joint_at central peripheral l reached) (and_from (may step l.joint) true comes refl)
      (subst (λ (x : Keys). HasKeys x d) (sym (one k.central)) has) (subst (λ (x : Keys). HasKeys x p) (sym (other k.peripheral)) keys.peripheral_keys)

  module _ (fixed : HasFixed c) (piece : IsPiece (tx_of c.control.table.lengths) c.outgoing.fixed) (entered : 1 ≤ c.control.track.entered) where
    goes_alike : GoesAlike (phased_of c)
    goes_alike = subst GoesAlike s.central_part (goes_alike_at central peripheral ends l reached running).0

    lasts : c.control.ends ≡ None
    lasts = ap (λ (x : Phased). x.control.ends) (sym s.central_part) ∙ (goes_on l.joint running).central

    fits_peripheral : length c.outgoing.fixed.body ≤ peripheral.link.max_rx
    fits_peripheral =
        let most = subst (λ (x : Phased). tx_of x.control.table.lengths ≤ peripheral.link.max_rx) s.central_part (central_transmits central peripheral ends l reached running) in
        let short = piece.short in omega (arith, short, most)

    fits_any : length c.outgoing.fixed.body ≤ 251
    fits_any =
        let own = s.central_rests.fits.table.lengths.own_tx.to in
        let least = min-le_left c.control.table.lengths.own_tx c.control.table.lengths.peer_rx in
        let short = piece.short in omega (arith, short, own, least)

    two_bits : c.outgoing.fixed.llid < 4
    two_bits = let small = piece.llid in omega (arith, small)

    module _ (all : is_acked c.acknowledgement ≡ true) where
      abbrev own_keys : Keys
      own_keys = (keys_at central peripheral l reached).central

      may_transmit : MayTransmit l
      may_transmit =
          record {
            in_event =
                subst (λ (t : TrackFacts). 1 ≤ t.entered)
                (sym ((paired central peripheral ends l reached running).central ∙ ap (λ (x : Phased). x.control.track) s.central_part)) entered;
            acknowledged = s.last.acknowledged all;
          }

      data_rests : IsAtRest central turns (sent_as true slot c)
      data_rests =
          new_rests central turns slot c s.central_rests c.control c.fixes_control c.outgoing.fixed (kept_none c.control) s.central_rests.fits s.central_rests.role
          fits_any two_bits

      empty_goes : is_empty c.outgoing.fixed ≡ true → Goes (sent_as true slot c)
      empty_goes is =
          shown_next central peripheral turns answers (record { step = SendsEmpty; ltk = [] }) l reached (sent_as true slot c) p running may_transmit tt
          (subst
          (λ (way : Way). Shows central peripheral turns answers
          (record { turns = (link_after SendsEmpty l).turns; joint = record l.joint { down = way } }) (sent_as true slot c) p)
          (sym (acked_is_clear c.outgoing.fixed c.acknowledgement p.acknowledgement s.agreement all l.joint.down s.down))
          (new_shows central peripheral turns answers l c p s all slot (link_after SendsEmpty l).turns l.joint.central Clear c.control c.fixes_control
          c.outgoing.fixed (sends_new None l.turns) s.central_part
          (way_sent_empty c.outgoing.fixed c.acknowledgement p.acknowledgement s.agreement all is) data_rests fits_peripheral))
          (record { central_keys = empty_has slot own_keys c keys.central_keys is; peripheral_keys = keys.peripheral_keys })
          (goes_on l.joint running).stopped

      data_goes : is_data c.outgoing.fixed ≡ true → Goes (sent_as true slot c)
      data_goes is =
          let first = fixed.data_first is in
          let sends : sends_data l.joint.central ≡ true =
          subst (λ (x : Phased). sends_data x ≡ true) (sym s.central_part)
          (sends_data_is (phased_of c) lasts first.0 (sym goes_alike ∙ first.1)) in
          let may_link : MayLink SendsData l = (may_transmit, s.free all, sends) in
          let may_come = (and_parts (may CentralSendsData l.joint) true (comes central peripheral ends SendsData l reached running may_link)).0 in
          shown_next central peripheral turns answers (record { step = SendsData; ltk = [] }) l reached (sent_as true slot c) p running may_link tt
          (subst
          (λ (j : Joint). Shows central peripheral turns answers (record { turns = (link_after SendsData l).turns; joint = j }) (sent_as true slot c) p)
          (sym (after_may CentralSendsData l.joint may_come))
          (new_shows central peripheral turns answers l c p s all slot (link_after SendsData l).turns l.joint.central
          (OnAir data_item (seals Central l.joint.central.phase)) c.control c.fixes_control
          c.outgoing.fixed (sends_new None l.turns) s.central_part
          (way_sent c.outgoing.fixed c.acknowledgement p.acknowledgement s.agreement all data_item (seals Central l.joint.central.phase) is) data_rests fits_peripheral))
          (sends_keys CentralSendsData (sent_as true slot c) may_come (λ k. refl) (λ k. refl)
          (new_has slot own_keys c keys.central_keys (data_is_not_empty c.outgoing.fixed is)))
          (ap (λ (j : Joint). j.stopped) (after_may CentralSendsData l.joint may_come) ∙ (goes_on l.joint running).stopped)

      module _ (ctrl : Ctrl) (fixes : c.fixes_control ≡ true) (next : next_control c ≡ Some ctrl) where
        abbrev item : Item
        item = control_item (next_out (phased_of c)) ctrl

        abbrev gone : Control
        gone = after (control_sends slot (is_quiet_now c)) c.control

        item_next : next_item l.joint.central ≡ Some item
        item_next =
            ap next_item s.central_part ∙ next_item_is (phased_of c) lasts ∙ ap (item_by (next_out (phased_of c))) next

        pdu_is : pdu_fixed c ≡ pdu_of_control (Some ctrl)
        pdu_is = λ i. if fixes i then pdu_of_control (next i) else c.outgoing.fixed

        pdu_short : length (pdu_fixed c).body ≤ 24
        pdu_short = subst (λ (pdu : Pdu). length pdu.body ≤ 24) (sym pdu_is) (written_short ctrl)

        is_item : IsItem item (pdu_fixed c)
        is_item = subst (IsItem item) (sym pdu_is) (next_is_control c.control (is_quiet_now c) ctrl lasts s.central_rests.fits next)

        gone_rests : IsAtRest central turns (sent_as true slot (control_gone slot c))
        gone_rests =
            new_rests central turns slot c s.central_rests gone false (pdu_fixed c) (sent_kept c.control slot (is_quiet_now c))
            (stays_fitting c.control (control_sends slot (is_quiet_now c)) s.central_rests.fits tt)
            (same_role central.link.role (control_sends slot (is_quiet_now c)) c.control s.central_rests.role) (omega (arith, pdu_short))
            (subst (λ (pdu : Pdu). pdu.llid < 4) (sym pdu_is) (omega arith))

        gone_has : HasKeys own_keys (control_gone slot c)
        gone_has = let has = keys.central_keys in record { material = has.material; session = has.session; made = has.made }

        abbrev sealed : Bool
        sealed = seals Central l.joint.central.phase

        control_goes : Goes (sent_as true slot (control_gone slot c))
        control_goes =
            let may_link : MayLink (SendsControl slot) l = (may_transmit, s.free all, ap (λ (o : Option Item). is_some o) item_next) in
            let may_come = (and_parts (may (CentralSends slot) l.joint) true (comes central peripheral ends (SendsControl slot) l reached running may_link)).0 in
            let receives = ends.peripheral_max.from in
            shown_next central peripheral turns answers (record { step = SendsControl slot; ltk = [] }) l reached (sent_as true slot (control_gone slot c)) p running
            may_link tt
            (subst
            (λ (j : Joint). Shows central peripheral turns answers (record { turns = (link_after (SendsControl slot) l).turns; joint = j })
            (sent_as true slot (control_gone slot c)) p)
            (sym (after_may (CentralSends slot) l.joint may_come))
            (new_shows central peripheral turns answers l c p s all slot (link_after (SendsControl slot) l).turns (phased_after (Sends slot) l.joint.central)
            (on_air (next_item l.joint.central) sealed) gone false (pdu_fixed c) (sends_new (next_indication l.joint.central) l.turns)
            (ap (phased_after (Sends slot)) s.central_part ∙ sym (gone_phased true slot c))
            (subst (λ (o : Option Item). ShowsWay (on_air o sealed) (after_sending (pdu_fixed c) c.acknowledgement) p.acknowledgement) (sym item_next)
            (way_sent (pdu_fixed c) c.acknowledgement p.acknowledgement s.agreement all item sealed is_item))
            gone_rests (omega (arith, pdu_short, receives))))
            (sends_keys (CentralSends slot) (sent_as true slot (control_gone slot c)) may_come (λ k. refl) (λ k. refl)
            (new_has slot own_keys (control_gone slot c) gone_has (item_is_not_empty (pdu_fixed c) item is_item)))
            (ap (λ (j : Joint). j.stopped) (after_may (CentralSends slot) l.joint may_come) ∙ (goes_on l.joint running).stopped)

    -- ---- whatever it sends

    next_goes : (next : Option Ctrl) → is_acked c.acknowledgement ≡ true → c.fixes_control ≡ true → next_control c ≡ next → is_some next ≡ true
        → Goes (sent_as true slot (control_gone slot c))
    next_goes None all fixes is some = absurd (cc)
    next_goes (Some ctrl) all fixes is some = control_goes all ctrl fixes is

    goes_by : (acked fixes has_data : Bool) → is_acked c.acknowledgement ≡ acked → c.fixes_control ≡ fixes → is_data c.outgoing.fixed ≡ has_data
        → Goes (sent_as acked slot (control_gone_if (acked && fixes) slot c))
    goes_by false fixes has_data all control is = again
    goes_by true true has_data all control is = next_goes (next_control c) all control refl (sym fixed.control ∙ control)
    goes_by true false true all control is = data_goes all is
    goes_by true false false all control is = empty_goes all (piece_empty c.outgoing.fixed.llid c.outgoing.fixed.body piece.llid is)

    pub packet_goes : Goes (facts_sent slot c)
    packet_goes =
        subst Goes (sym (sent_is (is_acked c.acknowledgement) c.fixes_control slot c refl refl))
        (goes_by (is_acked c.acknowledgement) c.fixes_control (is_data c.outgoing.fixed) refl refl refl)
