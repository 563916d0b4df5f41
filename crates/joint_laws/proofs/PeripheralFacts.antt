-- A procedure of a peripheral begins only where no first PDU of one is on its way.
use Rattle.std.proofs.Common.{◌≡◌, ℕ, Bool, true, false, not, ◌&&◌, List, Option, Some, None, is_some, refl, ap, sym, subst, ◌∙◌, arith}
use Rattle.ble_base.specs.declared.roles.Role.TheVariants.{Central, Peripheral}
use Rattle.data_pdu.specs.declared.ctrl.Ctrl.{Ctrl}
use Rattle.joint_parameters.specs.enc_phase.declared.facts.PhaseFacts.{PhaseFacts}
use Rattle.joint_parameters.specs.enc_phase.declared.facts.PhaseFacts.TheVariants.{HalfKeyed}
use Rattle.exclusive_stages.specs.declared.stages.PeripheralStage.TheVariants.{Idle as idle, RequestGranted}
use Rattle.exclusive_stages.specs.Held.{own_held_at_peripheral}
use Rattle.instants.specs.declared.indications.Params.{Params}
use Rattle.instants.specs.Track.{next_number}
use Rattle.joint_parameters.specs.procedure_values.declared.asks.Ask.{Ask}
use Rattle.joint_parameters.specs.procedure_values.declared.drafts.Draft.{Draft}
use Rattle.joint_parameters.specs.procedure_stages.declared.stages.OwnPeripheral.{OwnPeripheral}
use Rattle.joint_parameters.specs.procedure_stages.declared.stages.OwnPeripheral.TheVariants.{Exclusive as exclusive_p, Exchange as exchange_p}
use Rattle.joint_parameters.specs.procedure_stages.declared.stages.Progress.{Progress}
use Rattle.joint_parameters.specs.procedure_stages.declared.stages.Progress.TheVariants.{Central as central, Peripheral as peripheral}
use Rattle.joint_parameters.specs.procedure_stages.Exclusive.{on_peripheral_stage, peripheral_stage}
use Rattle.joint_parameters.specs.procedure_stages.Held.{progress_held}
use Rattle.joint_parameters.specs.procedure_stages.Kinds.{exchange_at_peripheral, kind_at_peripheral, own_exchange, own_kind, role_of}
use Rattle.joint_parameters.specs.procedures.Beginning.{ask_at, place_to_begin}
use Rattle.joint_parameters.specs.procedures.Going.{entered_step}
use Rattle.joint_parameters.specs.procedures.Table.{TableFacts}
use Rattle.joint_parameters.proofs.table_laws.Begun.{begins_of}
use Rattle.joint_collisions.specs.collision_steps.PeripheralPart.{view}
use Rattle.joint_collisions.specs.collision_steps.Parts.{drafts_part}
use Rattle.joint_exchanges.specs.exchange_pairs.Exchange.{Idle, is_idle}
use Rattle.joint_exchanges.specs.exchange_steps.Ends.{features_stage, lengths_stage, version_stage}
use Rattle.joint_phases.specs.phase_pairs.JointRun.{keeps_request}
use Rattle.joint_parameters.specs.phased_control.Ends.{IsFirst, is_half_keyed, says_kept}
use Rattle.joint_parameters.specs.phased_control.Phased.{Phased, ask_begun, is_quiet_now, table_entered}
use Rattle.joint_parameters.proofs.phased_control.Kept.{first_now, said_now}
use Rattle.joint_parameters.specs.joint_controls.Joint.{Joint, JointStep, after_all, beginning, is_item}
use Rattle.joint_parameters.specs.joint_controls.Ends.{steps_of_central}
use Rattle.joint_parameters.proofs.joint_controls.EndSteps.{central_runs}
use Rattle.joint_collisions.specs.Views.{IsReached, view_of}
use Rattle.joint_exchanges.specs.Agreement.{Asked, Features, Lengths, is_first_of, is_question_of, passes, places_of, questions_waiting, stage_at, untaken}
use Rattle.joint_exchanges.specs.Runs.{GoesOn}
use Rattle.joint_exchanges.specs.SentByRole.{AreOfRoles}
use Rattle.joint_exchanges.proofs.Few.{all_roles}
use Rattle.joint_exchanges.proofs.States.{asked_idle}
use Rattle.joint_phases.specs.Events.{does_begin, has_first_draft}
use Rattle.joint_phases.specs.Classes.{draft_up, has_request}
use Rattle.joint_phases.specs.Facts.{drafts_of, has_no_first, is_first_up, item_untaken}
use Rattle.joint_laws.specs.Firsts.{has, is_first, is_over}
use Rattle.joint_laws.proofs.ExclusiveFirsts.{HasNoFirst, over_none}
use Rattle.joint_laws.proofs.PeripheralFirsts.{kept_none, queue_none, way_none}
use Rattle.joint_laws.proofs.VersionFacts.{NoVersion, idle_no_version}
use Rattle.joint_laws.proofs.VersionPdus.{count_none}

-- ---- where a procedure begins, none of its own is in progress once the event is entered

begins_with : (f : TableFacts) (quiet : Bool) (place : Option ℕ) (ask : Option Ask) → place_to_begin f quiet ≡ place → ask_at place f.wanted ≡ ask
    → has_first_draft f ask ≡ true → own_kind f.progress ≡ None
begins_with f quiet None None place ask has = absurd (cc)
begins_with f quiet None (Some asked) place ask has = absurd (cc)
begins_with f quiet (Some at) None place ask has = absurd (cc)
begins_with f quiet (Some at) (Some asked) place ask has = (begins_of f quiet at asked place ask).none

begins_where : (f : TableFacts) (quiet : Bool) → has_first_draft f (ask_begun f quiet) ≡ true → own_kind f.progress ≡ None
begins_where f quiet has = begins_with f quiet (place_to_begin f quiet) (ask_begun f quiet) refl refl has

-- its own procedure is over
pub record IsOver (p : Progress) : Type 0 where
  pub exchange : own_exchange p ≡ None
  pub exclusive : (is_open : Bool) (drafts : List Draft) → is_over (view p is_open drafts).own ≡ true

own_over : (own : OwnPeripheral) → kind_at_peripheral own ≡ None → own ≡ exclusive_p idle
own_over (exclusive_p idle) none = refl
own_over (exclusive_p stage) none = absurd (cc)
own_over (exchange_p stage) none = absurd (cc)

over_now : (p : Progress) → role_of p ≡ Peripheral → own_kind p ≡ None → IsOver p
over_now (central c) role none = absurd (cc)
over_now (peripheral p) role none =
    record {
      exchange = ap exchange_at_peripheral (own_over p.own none);
      exclusive = λ is_open. λ drafts. ap (λ own. is_over (peripheral_stage own)) (own_over p.own none);
    }

held_over : (own : OwnPeripheral) → kind_at_peripheral (on_peripheral_stage own_held_at_peripheral own) ≡ None
    → (exchange_at_peripheral own ≡ None) × (is_over (peripheral_stage own) ≡ true)
held_over (exclusive_p idle) none = (refl, refl)
held_over (exclusive_p RequestGranted) none = (refl, refl)
held_over (exclusive_p stage) none = absurd (cc)
held_over (exchange_p stage) none = absurd (cc)

over_held : (p : Progress) → role_of p ≡ Peripheral → own_kind (progress_held p) ≡ None → IsOver p
over_held (central c) role none = absurd (cc)
over_held (peripheral p) role none =
    let both = held_over p.own none in record { exchange = both.0; exclusive = λ is_open. λ drafts. both.1 }

over_by : (f : TableFacts) (applied : Bool) → role_of f.progress ≡ Peripheral → own_kind (entered_step f applied).0.progress ≡ None → IsOver f.progress
over_by f true role none = over_held f.progress role none
over_by f false role none = over_now f.progress role none

-- ---- a phase says no more than is kept

says_some : (phase : PhaseFacts) (kept : Option Ctrl) → (is_half_keyed phase ≡ false → is_some kept ≡ says_kept phase) → kept ≡ None → keeps_request phase ≡ false
says_some HalfKeyed kept said none = refl
says_some phase kept said none = sym (said refl) ∙ ap is_some none

three : (a b c : Bool) → a ≡ false → b ≡ false → c ≡ false → (not a && (not b && not c)) ≡ true
three a b c ha hb hc = rw (ha, hb, hc) refl

-- ---- in a joint run

module _ (central_rx peripheral_rx : ℕ) (first : Params) (slot : ℕ) (steps : List JointStep) where
  abbrev s : Joint
  s = after_all steps (beginning central_rx peripheral_rx first slot)

  said : is_half_keyed s.central.phase ≡ false → is_some s.central.kept ≡ says_kept s.central.phase
  said =
      subst (λ (t : Phased). is_half_keyed t.phase ≡ false → is_some t.kept ≡ says_kept t.phase) (sym (central_runs steps (beginning central_rx peripheral_rx first slot)))
      (said_now Central central_rx first slot (steps_of_central steps (beginning central_rx peripheral_rx first slot)))

  first_kept : IsFirst s.central.kept
  first_kept =
      subst (λ (t : Phased). IsFirst t.kept) (sym (central_runs steps (beginning central_rx peripheral_rx first slot)))
      (first_now Central central_rx first slot (steps_of_central steps (beginning central_rx peripheral_rx first slot)))

  module _ (run_on : GoesOn steps (beginning central_rx peripheral_rx first slot)) (reached : IsReached (view_of s)) where
    roles : AreOfRoles true s
    roles = all_roles central_rx peripheral_rx first slot steps run_on

    over : does_begin s.peripheral ≡ true → IsOver s.peripheral.control.table.progress
    over begins =
        over_by s.peripheral.control.table (is_some (next_number s.peripheral.control.track)) roles.peripheral.table.same_role
        (begins_where (table_entered s.peripheral) (is_quiet_now s.peripheral) begins)

    module _ (is_over_now : IsOver s.peripheral.control.table.progress) where
      stage_idle : (asked : Asked) → stage_at asked s.peripheral ≡ Idle
      stage_idle Features = ap features_stage is_over_now.exchange
      stage_idle Lengths = ap lengths_stage is_over_now.exchange

      asked_none : (asked : Asked) → (questions_waiting asked Peripheral s ≡ 0) × (places_of asked Peripheral s ≡ 0)
      asked_none asked = asked_idle central_rx peripheral_rx first slot steps run_on asked Peripheral (stage_idle asked)

      on_way_none : (asked : Asked) → untaken (is_question_of asked) s.up ≡ 0
      on_way_none asked = let n = (asked_none asked).1 in omega (arith, n)

      kept_count_none : (asked : Asked) → passes (is_first_of asked) s.central.kept ≡ false
      kept_count_none asked = let n = (asked_none asked).1 in count_none (passes (is_first_of asked) s.central.kept) (omega (arith, n))

      versions : NoVersion central_rx peripheral_rx first slot steps run_on
      versions = idle_no_version central_rx peripheral_rx first slot steps run_on (ap (λ own. is_idle (version_stage own)) is_over_now.exchange)

      exclusives : HasNoFirst (view_of s)
      exclusives = over_none (view_of s) reached (is_over_now.exclusive _ (drafts_of s.peripheral))

      none_kept : s.central.kept ≡ None
      none_kept =
          kept_none s.central.kept
          (record {
            first = first_kept;
            features = kept_count_none Features;
            lengths = kept_count_none Lengths;
            version = versions.kept;
            exclusive = exclusives.kept;
          })

      none_waits : has_request (draft_up s.peripheral.knows_version) (drafts_of s.peripheral) ≡ false
      none_waits =
          queue_none s.peripheral.knows_version (drafts_of s.peripheral) roles.peripheral.table.drafts
          (record {
            features = (asked_none Features).0;
            lengths = (asked_none Lengths).0;
            version = versions.waits;
            exclusive = queue_items s.peripheral.control.table.progress _ (drafts_of s.peripheral) roles.peripheral.table.same_role exclusives.queue;
          })
        where
          queue_items : (p : Progress) (is_open : Bool) (drafts : List Draft) → role_of p ≡ Peripheral → has is_first (view p is_open drafts).queue.items ≡ false
              → has is_first (drafts_part drafts) ≡ false
          queue_items (peripheral p) is_open drafts role none = none
          queue_items (central c) is_open drafts role none = absurd (cc)

      none_comes : is_item (is_first_up s.peripheral.knows_version) (item_untaken s.up) ≡ false
      none_comes =
          way_none s.peripheral.knows_version s.up roles.up
          (record { features = on_way_none Features; lengths = on_way_none Lengths; version = versions.way; exclusive = exclusives.way })

      no_first : has_no_first s ≡ true
      no_first = three _ _ _ none_waits none_comes (says_some s.central.phase s.central.kept said none_kept)

    pub begins_alone : does_begin s.peripheral ≡ true → has_no_first s ≡ true
    begins_alone begins = no_first (over begins)
