-- The peripheral of a joint run takes a PDU: the machine's event.
use Rattle.std.proofs.Common.{◌≡◌, ◌⊎◌, inl, inr, ℕ, Bool, true, false, not, ◌&&◌, ◌||◌, Some, None, is_some, refl, ap, sym, subst, ◌∙◌, if◌then◌else◌}
use Rattle.std.proofs.lemmas.Bool.{and_from, and_parts, false_from_ne_true, or_left, or_right}
use Rattle.ble_base.specs.ErrorCodes.{mic_failure}
use Rattle.ble_base.specs.declared.roles.Role.TheVariants.{Peripheral as peripheral_role}
use Rattle.data_pdu.specs.declared.ctrl.Ctrl.{Ctrl}
use Rattle.data_pdu.specs.declared.ctrl.Ctrl.TheVariants.{VersionInd}
use Rattle.data_pdu.specs.declared.ctrl.CtrlRead.TheVariants.{Known}
use Rattle.phase_pairs.specs.enc_phase.declared.classes.PduClass.{PduClass}
use Rattle.phase_pairs.specs.enc_phase.declared.classes.PduClass.TheVariants.{Data as data_class, Other, Request}
use Rattle.phase_pairs.specs.enc_phase.Phases.{is_quiet}
use Rattle.phase_pairs.specs.enc_phase.Taking.{allows, ctrl_class}
use Rattle.joint_controls.specs.procedure_values.declared.drafts.Draft.{Draft}
use Rattle.joint_controls.specs.procedure_values.declared.drafts.Draft.TheVariants.{VersionInd as version_draft}
use Rattle.joint_controls.specs.procedure_values.declared.drafts.Outgoing.{Outgoing}
use Rattle.joint_controls.specs.procedure_stages.declared.reply.Reply.{Reply}
use Rattle.joint_controls.specs.procedure_stages.declared.reply.Reply.TheVariants.{Answer, Nothing as no_reply}
use Rattle.joint_controls.specs.procedures.Taking.{outcome_of}
use Rattle.joint_controls.specs.procedures.Version.{version_reply}
use Rattle.phase_pairs.specs.declared.joint.PhaseEvent.{PhaseEvent}
use Rattle.phase_pairs.specs.declared.joint.PhaseEvent.TheVariants.{PeripheralTakes as peripheral_takes_event}
use Rattle.phase_pairs.specs.declared.joint.PhaseLink.{PhaseLink}
use Rattle.phase_pairs.specs.declared.joint.PhaseWay.{PhaseWay}
use Rattle.phase_pairs.specs.declared.joint.PhaseWay.TheVariants.{OnAir as way_on_air, Taken as way_taken}
use Rattle.phase_pairs.specs.declared.peripheral.PhasePeripheral.{PhasePeripheral}
use Rattle.phase_pairs.specs.Agreement.{has_meaning, has_place, is_encryption, is_step_right}
use Rattle.phase_pairs.specs.JointRun.{is_coming, is_crossing_up, is_pause_rsp, is_request, is_way_taken, peripheral_takes, phases_may, way_kept}
use Rattle.phase_pairs.specs.Peripheral.{has_unsent, peripheral_answering, peripheral_taken}
use Rattle.joint_controls.specs.phased_control.Phased.{Phased}
use Rattle.joint_controls.specs.phased_control.Taken.{Response, Takes, TakesData, ended_with, is_version as is_version_read, phased_after}
use Rattle.joint_controls.specs.Joint.{Item, Joint, Way, Clear, Control, Data, Fixed, OnAir, PeripheralTakes, Taken, act, is_running, is_taken, is_terminate, item_on_air, may_act}
use Rattle.joint_phases.specs.Classes.{class_down, draft_up, has_version, is_version_ctrl, version_class}
use Rattle.joint_phases.specs.Events.{does_cross_down, event_if, event_of_step}
use Rattle.joint_phases.specs.Facts.{Facts, drafts_of, is_version_coming, is_version_kept}
use Rattle.joint_phases.specs.Parts.{IsPeripheral, IsShown, wait_up, way_down, way_up}
use Rattle.joint_phases.proofs.CentralEnters.{at_open, none_of_two, opened}
use Rattle.joint_phases.proofs.CentralQueue.{is_of_others}
use Rattle.joint_phases.proofs.CentralTakes.{some_none}
use Rattle.joint_phases.proofs.JointCentral.{Goes, Runs, none_of, runs}
use Rattle.joint_phases.proofs.Knowing.{knows_stays}
use Rattle.joint_phases.proofs.MachineFacts.{Settled}
use Rattle.joint_phases.proofs.PeripheralCipher.{takes_cipher}
use Rattle.joint_phases.proofs.PeripheralGoes.{HasRoom}
use Rattle.joint_phases.proofs.PeripheralPlain.{TakesAs, or_not, takes_answered, takes_crossing, takes_silent, version_read}
use Rattle.joint_phases.proofs.PeripheralQueue.{unversioned, version_unsent}
use Rattle.joint_phases.proofs.PeripheralTable.{is_answered, is_silent, version_sent}
use Rattle.joint_phases.proofs.Plain.{is_session}
use Rattle.joint_phases.proofs.Ways.{down_in_quiet, encryption_down, ends_down, kept_up, others_down, request_up, taken_same, unversioned_up, version_down}

module _ (s : Joint) (m : PhaseLink) (outgoing : Outgoing) (ctrl : Ctrl) (response : Response) (sealed : Bool) (slot : ℕ) where
  abbrev item : Item
  item = Control outgoing ctrl

  -- it is on the air
  abbrev here : Joint
  here = record s { down = OnAir item sealed }

  abbrev class : PduClass
  class = class_down s.central.knows_version ctrl

  abbrev there : PhaseLink
  there = record m { down = way_on_air class sealed }

  abbrev crossed : Bool
  crossed = does_cross_down item here

  abbrev after_it : Phased
  after_it = phased_after (Takes (Known ctrl) slot response) s.peripheral

  abbrev next : Joint
  next = record here { peripheral = after_it; down = Taken item; stopped = is_terminate ctrl }

  record Crossing : Type 0 where
    version : is_version_ctrl ctrl ≡ true
    central : s.central.knows_version ≡ false
    peripheral : s.peripheral.knows_version ≡ false
    used : s.peripheral.control.table.version_used ≡ true

  not_is : (b : Bool) → not b ≡ true → b ≡ false
  not_is true h = absurd (cc)
  not_is false h = refl

  crossing : crossed ≡ true → Crossing
  crossing h =
      let one = and_parts (is_version_ctrl ctrl) _ h in
      let two = and_parts (not s.central.knows_version && not s.peripheral.knows_version) s.peripheral.control.table.version_used one.1 in
      let three = and_parts (not s.central.knows_version) (not s.peripheral.knows_version) two.0 in
      record { version = one.0; central = not_is _ three.0; peripheral = not_is _ three.1; used = two.1 }

  module _ (is : IsShown here there) (runs_on : Runs s) (settled : Settled there) (facts : Facts here)
      (right : (event : PhaseEvent) → phases_may event there ≡ true → is_step_right event there ≡ true)
      (may : not (is_taken s.up) ≡ true) (apart : is_terminate ctrl ≡ false) where
    -- ---- the own LL_VERSION_IND, where the two cross

    request_class : Crossing → class ≡ Request
    request_class c = version_down s.central.knows_version ctrl c.version ∙ ap version_class c.central

    unkept : class ≡ Request → is_version_kept s.central.kept ≡ false
    unkept request = ap is_version_kept (is.central.kept (settled.awaits_in_quiet (settled.request_awaited (ap is_request request))))

    one_of : (a b c : Bool) → (a || (b || c)) ≡ true → c ≡ false → (a ≡ true) ⊎ (b ≡ true)
    one_of true b c h none = inl refl
    one_of false true c h none = inr refl
    one_of false false true h none = absurd (cc)
    one_of false false false h none = absurd (cc)

    own_version : Crossing → (has_version (drafts_of s.peripheral) ≡ true) ⊎ (is_version_coming s.up ≡ true)
    own_version c =
        one_of (has_version (drafts_of s.peripheral)) (is_version_coming s.up) (is_version_kept s.central.kept) (facts.used_comes c.used c.central) (unkept (request_class c))

    unknown_waits : s.peripheral.knows_version ≡ false → wait_up (draft_up false) (drafts_of s.peripheral) m.peripheral ≡ true
    unknown_waits unknown = subst (λ (b : Bool). wait_up (draft_up b) (drafts_of s.peripheral) m.peripheral ≡ true) unknown is.peripheral.waits

    unsent : Crossing → has_version (drafts_of s.peripheral) ≡ true → has_unsent m.peripheral ≡ true
    unsent c has = version_unsent (drafts_of s.peripheral) m.peripheral has (unknown_waits c.peripheral)

    coming : Crossing → is_version_coming s.up ≡ true → is_coming is_request m.up ≡ true
    coming c comes = ap (is_coming is_request) is.up ∙ ap (λ b. is_coming is_request (way_up b s.up)) c.peripheral ∙ request_up s.up comes

    crossing_up : Crossing → is_crossing_up there ≡ true
    crossing_up c = elim (own_version c) [ inl has ↦ or_left _ _ (unsent c has) | inr comes ↦ or_right _ _ (coming c comes) ]

    crossing_may : (b : Bool) → crossed ≡ b → (not b || (is_request class && is_crossing_up there)) ≡ true
    crossing_may false at = refl
    crossing_may true at = let c = crossing at in and_from _ _ (ap is_request (request_class c)) (crossing_up c)

    comes : phases_may (peripheral_takes_event crossed) there ≡ true
    comes =
        and_from _ _ (ap (λ b. not b) (ap is_way_taken is.up ∙ (taken_same s.peripheral.knows_version s.up).1) ∙ may)
        (and_from _ _ (ap not (ends_down s.central.knows_version ctrl apart)) (crossing_may crossed refl))

    pub right_here : (allows m.peripheral.phase peripheral_role class ≡ true) × (has_meaning peripheral_role m.peripheral.phase class ≡ true)
    right_here =
        and_parts (allows m.peripheral.phase peripheral_role class) (has_meaning peripheral_role m.peripheral.phase class)
        (and_parts (allows m.peripheral.phase peripheral_role class && has_meaning peripheral_role m.peripheral.phase class) (has_place there) (right (peripheral_takes_event crossed) comes)).0

    module _ (lasts : after_it.control.ends ≡ None) where
      -- ---- what the machine has then

      abbrev target : Bool → Type 0
      target b = IsShown next (peripheral_takes b (way_on_air class sealed) there)

      shown_plain : IsPeripheral after_it (peripheral_taken false class m.peripheral) → m.up ≡ way_up after_it.knows_version s.up → target false
      shown_plain part up = record { central = is.central; peripheral = part; down = refl; up = up }

      abbrev knows_now : Bool
      knows_now = s.peripheral.knows_version || is_version_read (Known ctrl)

      plain_knows : is_version_ctrl ctrl ≡ false → knows_now ≡ s.peripheral.knows_version
      plain_knows plain = or_not s.peripheral.knows_version (is_version_read (Known ctrl)) (version_read ctrl ∙ plain)

      up_known : (p : PhasePeripheral) → TakesAs after_it p knows_now → is_version_ctrl ctrl ≡ false → m.up ≡ way_up after_it.knows_version s.up
      up_known p h plain = is.up ∙ ap (λ b. way_up b s.up) (sym (h.knows_it ∙ plain_knows plain))

      up_none : is_version_coming s.up ≡ false → m.up ≡ way_up after_it.knows_version s.up
      up_none none = is.up ∙ sym (unversioned_up s.peripheral.knows_version after_it.knows_version s.up none)

      -- ---- a PDU of the encryption

      in_cipher : is_encryption class ≡ true → target false
      in_cipher enc =
          let same = encryption_down s.central.knows_version ctrl enc in
          let none = settled.down_alone enc in
          let room : HasRoom m.peripheral = record { after = settled.second_after; room = λ h. none_of_two _ _ h none; request = λ h. none_of_two _ _ h none } in
          let Part : Phased → Type 0 =
          λ c. IsPeripheral c m.peripheral → (phased_after (Takes (Known ctrl) slot response) c).control.ends ≡ None
          → TakesAs (phased_after (Takes (Known ctrl) slot response) c) (peripheral_taken false (ctrl_class ctrl) m.peripheral) (c.knows_version || is_version_read (Known ctrl)) in
          let h : TakesAs after_it (peripheral_taken false (ctrl_class ctrl) m.peripheral) knows_now =
          at_open Part s.peripheral runs_on.peripheral
          (λ p. λ l. takes_cipher s.peripheral m.peripheral response slot false p room ctrl (ap is_encryption (sym same.0) ∙ enc)
          (ap (λ k. allows m.peripheral.phase peripheral_role k) (sym same.0) ∙ right_here.0)
          (ap (λ k. has_meaning peripheral_role m.peripheral.phase k) (sym same.0) ∙ right_here.1) l) is.peripheral lasts in
          shown_plain (subst (λ (k : PduClass). IsPeripheral after_it (peripheral_taken false k m.peripheral)) (sym same.0) h.part) (up_known _ h same.1)

      -- ---- a PDU of another procedure

      module _ (plain : is_encryption class ≡ false) where
        others : (is_of_others class ≡ true) × (is_session (ctrl_class ctrl) ≡ false)
        others = others_down s.central.knows_version ctrl apart plain

        quiet : is_quiet m.peripheral.phase ≡ true
        quiet = down_in_quiet class m.peripheral.phase others.0 right_here.0

        abbrev reply_of : Phased → Reply
        reply_of c = (outcome_of c.control.table (is_quiet c.phase) (Known ctrl)).reply

        silently : reply_of s.peripheral ≡ no_reply → wait_up (draft_up knows_now) (drafts_of s.peripheral) m.peripheral ≡ true → TakesAs after_it m.peripheral knows_now
        silently reply waits =
            let Part : Phased → Type 0 =
            λ c. IsPeripheral c m.peripheral → reply_of c ≡ no_reply
            → wait_up (draft_up (c.knows_version || is_version_read (Known ctrl))) c.control.table.queue.drafts m.peripheral ≡ true
            → (phased_after (Takes (Known ctrl) slot response) c).control.ends ≡ None
            → TakesAs (phased_after (Takes (Known ctrl) slot response) c) m.peripheral (c.knows_version || is_version_read (Known ctrl)) in
            at_open Part s.peripheral runs_on.peripheral
            (λ p. λ r. λ w. λ l. takes_silent s.peripheral m.peripheral ctrl response slot p quiet others.1 apart l r w) is.peripheral reply waits lasts

        abbrev Answering : Phased → Type 0
        Answering c =
            (outcome_of c.control.table (is_quiet c.phase) (Known ctrl)).step.ends ≡ None
            → (draft : Draft) × (reply_of c ≡ Answer draft) × (draft_up (c.knows_version || is_version_read (Known ctrl)) draft ≡ Other)

        first_none : class ≡ Request → m.peripheral.first ≡ None
        first_none request = none_of _ (settled.request_alone (ap is_request request))

        second_none : class ≡ Request → m.peripheral.second ≡ None
        second_none request = none_of _ (settled.second_after (settled.request_alone (ap is_request request)))

        owes_none : class ≡ Request → m.peripheral.owes ≡ false
        owes_none request = not_is _ (settled.request_first (ap is_request request))

        answering : class ≡ Request → Answering s.peripheral → wait_up (draft_up knows_now) (drafts_of s.peripheral) m.peripheral ≡ true
            → TakesAs after_it (peripheral_answering false m.peripheral) knows_now
        answering request answer waits =
            let Part : Phased → Type 0 =
            λ c. IsPeripheral c m.peripheral → Answering c
            → wait_up (draft_up (c.knows_version || is_version_read (Known ctrl))) c.control.table.queue.drafts m.peripheral ≡ true
            → (phased_after (Takes (Known ctrl) slot response) c).control.ends ≡ None
            → TakesAs (phased_after (Takes (Known ctrl) slot response) c) (peripheral_answering false m.peripheral) (c.knows_version || is_version_read (Known ctrl)) in
            at_open Part s.peripheral runs_on.peripheral
            (λ p. λ a. λ w. λ l. takes_answered s.peripheral m.peripheral ctrl response slot p quiet others.1 apart l a (first_none request) (second_none request) (owes_none request) w)
            is.peripheral answer waits lasts

        shown_silent : (k : PduClass) → class ≡ k → k ≡ Other → TakesAs after_it m.peripheral knows_now → m.up ≡ way_up after_it.knows_version s.up → target false
        shown_silent k at other h up = shown_plain (subst (λ (x : PduClass). IsPeripheral after_it (peripheral_taken false x m.peripheral)) (sym (at ∙ other)) h.part) up

        shown_answered : class ≡ Request → TakesAs after_it (peripheral_answering false m.peripheral) knows_now → m.up ≡ way_up after_it.knows_version s.up → target false
        shown_answered request h up = shown_plain (subst (λ (x : PduClass). IsPeripheral after_it (peripheral_taken false x m.peripheral)) (sym request) h.part) up

        -- no LL_VERSION_IND
        waits_plain : is_version_ctrl ctrl ≡ false → wait_up (draft_up knows_now) (drafts_of s.peripheral) m.peripheral ≡ true
        waits_plain none = ap (λ b. wait_up (draft_up b) (drafts_of s.peripheral) m.peripheral) (plain_knows none) ∙ is.peripheral.waits

        unversioned_by : (k : PduClass) → class ≡ k → is_of_others k ≡ true → is_version_ctrl ctrl ≡ false → target false
        unversioned_by Other at one none =
            let h = silently (is_silent s.peripheral.control.table s.peripheral.control.table.progress (is_quiet s.peripheral.phase) s.central.knows_version ctrl is.peripheral.role none at) (waits_plain none) in
            shown_silent Other at refl h (up_known _ h none)
        unversioned_by Request at one none =
            let answer : Answering s.peripheral =
            λ ends. let a = is_answered s.peripheral.control.table s.peripheral.control.table.progress (is_quiet s.peripheral.phase) s.central.knows_version ctrl is.peripheral.role none at ends in
            (a.draft, a.reply, a.class knows_now) in
            let h = answering at answer (waits_plain none) in
            shown_answered at h (up_known _ h none)
        unversioned_by k at one none = absurd (cc)

        -- ---- an LL_VERSION_IND

        replies : (c : Ctrl) → is_version_ctrl c ≡ true
            → (outcome_of s.peripheral.control.table (is_quiet s.peripheral.phase) (Known c)).reply ≡ version_reply s.peripheral.control.table.version_used
        replies (VersionInd version company sub) v =
            version_sent s.peripheral.control.table s.peripheral.control.table.progress (is_quiet s.peripheral.phase) version company sub is.peripheral.role
        replies c v = absurd (cc)

        knows_it : is_version_ctrl ctrl ≡ true → knows_now ≡ true
        knows_it version = or_right s.peripheral.knows_version (is_version_read (Known ctrl)) (version_read ctrl ∙ version)

        waits_none : has_version (drafts_of s.peripheral) ≡ false → wait_up (draft_up knows_now) (drafts_of s.peripheral) m.peripheral ≡ true
        waits_none none = unversioned (drafts_of s.peripheral) m.peripheral s.peripheral.knows_version knows_now none is.peripheral.waits

        -- the own one was taken before
        version_known : is_version_ctrl ctrl ≡ true → s.central.knows_version ≡ true → target false
        version_known version known =
            let h = silently (replies ctrl version ∙ ap version_reply (facts.known_up known)) (waits_none (facts.known_queue known)) in
            shown_silent class refl (version_down s.central.knows_version ctrl version ∙ ap version_class known) h (up_none (facts.known_way known))

        -- the own one is the answer
        version_unused : is_version_ctrl ctrl ≡ true → class ≡ Request → s.peripheral.control.table.version_used ≡ false → target false
        version_unused version request unused =
            let answer : Answering s.peripheral =
            λ ends. (version_draft, replies ctrl version ∙ ap version_reply unused, ap version_class (knows_it version)) in
            let h = answering request answer (waits_none (facts.unused_queue unused)) in
            shown_answered request h (up_none (facts.unused_way unused))

        -- they cross
        crossing_reply : Crossing → reply_of s.peripheral ≡ no_reply
        crossing_reply c = replies ctrl c.version ∙ ap version_reply c.used

        no_version : Crossing → is_coming is_request m.up ≡ true → has_version (drafts_of s.peripheral) ≡ false
        no_version c comes_up =
            false_from_ne_true _ (λ has. none_of_two _ _ (not_is _ (settled.one_unsent (unsent c has))) comes_up)

        crossing_coming : Crossing → is_coming is_request m.up ≡ true
            → IsShown next (record there { up = way_kept Other m.up; down = way_taken (is_pause_rsp class) })
        crossing_coming c comes_up =
            let h = silently (crossing_reply c) (waits_none (no_version c comes_up)) in
            let on_way : is_version_coming s.up ≡ true =
            elim (own_version c) [ inl has ↦ none_of_two _ _ (no_version c comes_up) has | inr comes_too ↦ comes_too ] in
            record {
              central = is.central;
              peripheral = h.part;
              down = refl;
              up =
                  ap (way_kept Other) is.up ∙ ap (λ b. way_kept Other (way_up b s.up)) c.peripheral ∙ kept_up s.up on_way
                  ∙ ap (λ b. way_up b s.up) (sym (h.knows_it ∙ knows_it c.version));
            }

        crossing_waiting : Crossing → is_coming is_request m.up ≡ false
            → IsShown next (record there { peripheral = peripheral_taken true class m.peripheral; down = way_taken (is_pause_rsp class) })
        crossing_waiting c none_up =
            let request = request_class c in
            let none : is_version_coming s.up ≡ false = false_from_ne_true _ (λ comes_too. none_of_two _ _ none_up (coming c comes_too)) in
            let has : has_version (drafts_of s.peripheral) ≡ true = elim (own_version c) [ inl h ↦ h | inr comes_too ↦ none_of_two _ _ none comes_too ] in
            let Part : Phased → Type 0 =
            λ x. IsPeripheral x m.peripheral → reply_of x ≡ no_reply → x.knows_version ≡ false → has_version x.control.table.queue.drafts ≡ true
            → (phased_after (Takes (Known ctrl) slot response) x).control.ends ≡ None
            → TakesAs (phased_after (Takes (Known ctrl) slot response) x) (peripheral_answering true m.peripheral) (x.knows_version || is_version_read (Known ctrl)) in
            let h : TakesAs after_it (peripheral_answering true m.peripheral) knows_now =
            at_open Part s.peripheral runs_on.peripheral
            (λ p. λ r. λ u. λ v. λ l. takes_crossing s.peripheral m.peripheral ctrl response slot p quiet others.1 apart l r u (version_read ctrl ∙ c.version) v
            (first_none request) (second_none request) (owes_none request)) is.peripheral (crossing_reply c) c.peripheral has lasts in
            record {
              central = is.central;
              peripheral = subst (λ (x : PduClass). IsPeripheral after_it (peripheral_taken true x m.peripheral)) (sym request) h.part;
              down = refl;
              up = up_none none;
            }

        crossing_by : (b : Bool) → is_coming is_request m.up ≡ b → Crossing
            → IsShown next (if b then record there { up = way_kept Other m.up; down = way_taken (is_pause_rsp class) }
            else record there { peripheral = peripheral_taken true class m.peripheral; down = way_taken (is_pause_rsp class) })
        crossing_by true at c = crossing_coming c at
        crossing_by false at c = crossing_waiting c at

        version_by : (known peer used : Bool) → is_version_ctrl ctrl ≡ true → s.central.knows_version ≡ known → s.peripheral.knows_version ≡ peer
            → s.peripheral.control.table.version_used ≡ used → (b : Bool) → crossed ≡ b → target b
        version_by true peer used version at_known at_peer at_used false at = version_known version at_known
        version_by true peer used version at_known at_peer at_used true at = none_of_two _ _ (sym at_known ∙ (crossing at).central) refl
        version_by false true used version at_known at_peer at_used b at = none_of_two _ _ (facts.known_down at_peer) version
        version_by false false false version at_known at_peer at_used false at =
            version_unused version (version_down s.central.knows_version ctrl version ∙ ap version_class at_known) at_used
        version_by false false false version at_known at_peer at_used true at = none_of_two _ _ at_used (crossing at).used
        version_by false false true version at_known at_peer at_used true at = crossing_by (is_coming is_request m.up) refl (crossing at)
        version_by false false true version at_known at_peer at_used false at =
            none_of_two _ _ at (and_from _ _ version (and_from _ _ (and_from _ _ (ap not at_known) (ap not at_peer)) at_used))

        in_plain : (v : Bool) → is_version_ctrl ctrl ≡ v → (b : Bool) → crossed ≡ b → target b
        in_plain false none false at = unversioned_by class refl others.0 none
        in_plain false none true at = none_of_two _ _ none (crossing at).version
        in_plain true version b at = version_by s.central.knows_version s.peripheral.knows_version s.peripheral.control.table.version_used version refl refl refl b at

      by_class : (enc : Bool) → is_encryption class ≡ enc → (b : Bool) → crossed ≡ b → target b
      by_class true at false not_crossed = in_cipher at
      by_class true at true cross = none_of_two _ _ (encryption_down s.central.knows_version ctrl at).1 (crossing cross).version
      by_class false at b cross = in_plain at (is_version_ctrl ctrl) refl b cross

      takes_control : Goes (Some (peripheral_takes_event crossed)) (act (PeripheralTakes slot response) here) there
      takes_control = (comes, by_class (is_encryption class) refl crossed refl)

      pub goes_control : Goes (event_of_step (PeripheralTakes slot response) here) (act (PeripheralTakes slot response) here) there
      goes_control =
          subst (λ (b : Bool). Goes (event_if b (peripheral_takes_event crossed)) (act (PeripheralTakes slot response) here) there) (sym (ap not apart)) takes_control

-- ---- data

module _ (s : Joint) (m : PhaseLink) (response : Response) (sealed : Bool) (slot : ℕ) where
  abbrev with_data : Joint
  with_data = record s { down = OnAir Data sealed }

  abbrev with_data_class : PhaseLink
  with_data_class = record m { down = way_on_air data_class sealed }

  module _ (is : IsShown with_data with_data_class) (runs_on : Runs s) (may : not (is_taken s.up) ≡ true)
      (lasts : (phased_after TakesData s.peripheral).control.ends ≡ None) where
    abbrev DataPart : Phased → Type 0
    DataPart c = IsPeripheral c m.peripheral → (phased_after TakesData c).control.ends ≡ None → IsPeripheral (phased_after TakesData c) m.peripheral

    data_by : (b : Bool) → IsPeripheral (opened s.peripheral) m.peripheral → (if b then opened s.peripheral else ended_with mic_failure (opened s.peripheral)).control.ends ≡ None
        → IsPeripheral (if b then opened s.peripheral else ended_with mic_failure (opened s.peripheral)) m.peripheral
    data_by true part l = part
    data_by false part l = some_none (record { 0 = mic_failure }) _ l

    data_part : IsPeripheral (phased_after TakesData s.peripheral) m.peripheral
    data_part = at_open DataPart s.peripheral runs_on.peripheral (λ p. λ l. data_by _ p l) is.peripheral lasts

    pub goes_data : Goes (event_of_step (PeripheralTakes slot response) with_data) (act (PeripheralTakes slot response) with_data) with_data_class
    goes_data = (
      and_from _ _ (ap (λ b. not b) (ap is_way_taken is.up ∙ (taken_same s.peripheral.knows_version s.up).1) ∙ may) refl,
      record {
        central = is.central;
        peripheral = data_part;
        down = refl;
        up = is.up ∙ ap (λ b. way_up b s.up) (sym (knows_stays TakesData s.peripheral refl));
      },
    )

-- ---- whichever comes

module _ (s : Joint) (m : PhaseLink) (slot : ℕ) (response : Response) where
  abbrev at_way : Way → Joint
  at_way w = record s { down = w }

  abbrev link_at : PhaseWay → PhaseLink
  link_at u = record m { down = u }

  -- the premises, with this on its way
  record Takable (w : Way) (u : PhaseWay) : Type 0 where
    is : IsShown (at_way w) (link_at u)
    settled : Settled (link_at u)
    facts : Facts (at_way w)
    right : (event : PhaseEvent) → phases_may event (link_at u) ≡ true → is_step_right event (link_at u) ≡ true

  takes_way : (w : Way) → Runs s → is_some (item_on_air w) ≡ true → not (is_taken s.up) ≡ true → is_running (act (PeripheralTakes slot response) (at_way w)) ≡ true
      → Takable w (way_down s.central.knows_version w)
      → Goes (event_of_step (PeripheralTakes slot response) (at_way w)) (act (PeripheralTakes slot response) (at_way w)) (link_at (way_down s.central.knows_version w))
  takes_way (OnAir Data sealed) runs_on air may running t =
      goes_data s m response sealed slot t.is runs_on may (runs (act (PeripheralTakes slot response) (at_way (OnAir Data sealed))) running).peripheral
  takes_way (OnAir (Control outgoing ctrl) sealed) runs_on air may running t =
      let next_runs = runs (act (PeripheralTakes slot response) (at_way (OnAir (Control outgoing ctrl) sealed))) running in
      goes_control s m outgoing ctrl response sealed slot t.is runs_on t.settled t.facts t.right may next_runs.goes next_runs.peripheral
  takes_way Clear runs_on air may running t = absurd (cc)
  takes_way (Fixed item sealed) runs_on air may running t = absurd (cc)
  takes_way (Taken item) runs_on air may running t = absurd (cc)

  pub goes_takes : IsShown s m → Runs s → Settled m → Facts s → ((event : PhaseEvent) → phases_may event m ≡ true → is_step_right event m ≡ true)
      → may_act (PeripheralTakes slot response) s ≡ true → is_running (act (PeripheralTakes slot response) s) ≡ true
      → Goes (event_of_step (PeripheralTakes slot response) s) (act (PeripheralTakes slot response) s) m
  goes_takes is runs_on settled facts right may running =
      let one = and_parts (is_some (item_on_air s.down)) _ may in
      let two = and_parts (not (is_taken s.up)) _ one.1 in
      let P : PhaseWay → Type 0 = λ u. Takable s.down u → Goes (event_of_step (PeripheralTakes slot response) s) (act (PeripheralTakes slot response) s) (link_at u) in
      let h : P (way_down s.central.knows_version s.down) = takes_way s.down runs_on one.0 two.0 running in
      subst P (sym is.down) h (record { is = is; settled = settled; facts = facts; right = right })
