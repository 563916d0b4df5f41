-- A PDU of the peer is taken: what its table hands on is what its track follows.
use Rattle.std.proofs.Common.{◌≡◌, ℕ, Bool, true, false, ◌&&◌, nat_le, if◌then◌else◌, Option, Some, None, is_some, is_none, refl, sym, ap, subst, ◌∙◌}
use Rattle.ble_base.specs.ErrorCodes.{instant_passed}
use Rattle.ble_base.specs.declared.procedure_kinds.Kind.{Kind}
use Rattle.ble_base.specs.declared.procedure_kinds.Kind.TheVariants.{Map as map_kind}
use Rattle.ble_base.specs.declared.error_codes.ErrCode.{ErrCode}
use Rattle.ble_base.specs.declared.roles.Role.TheVariants.{Peripheral as peripheral_role}
use Rattle.data_pdu.specs.declared.ctrl.Ctrl.TheVariants.{ConnectionUpdateInd, ChannelMapInd}
use Rattle.data_pdu.specs.declared.ctrl.CtrlRead.{CtrlRead}
use Rattle.data_pdu.specs.declared.ctrl.CtrlRead.TheVariants.{Known, Unknown, Bare}
use Rattle.instants.specs.declared.indications.Indication.{Indication}
use Rattle.instants.specs.declared.indications.Indication.TheVariants.{Update as update_indication, Map as map_indication}
use Rattle.instants.specs.declared.track.Change.{Change}
use Rattle.instants.specs.Track.{TrackFacts, track_after_take}
use Rattle.exclusive_stages.specs.declared.stages.PeerAtPeripheral.TheVariants.{MapTaken}
use Rattle.exclusive_stages.specs.Awaited.{central_answered, reads_as_answer}
use Rattle.control_model.specs.procedures.procedure_stages.declared.stages.Ahead.{Ahead}
use Rattle.control_model.specs.procedures.procedure_stages.declared.stages.Ahead.TheVariants.{Nothing, Update as update_ahead, Map as map_ahead}
use Rattle.control_model.specs.procedures.procedure_stages.declared.stages.Peripheral.{Peripheral}
use Rattle.control_model.specs.procedures.procedure_stages.declared.stages.Progress.{Progress}
use Rattle.control_model.specs.procedures.procedure_stages.declared.stages.Progress.TheVariants.{Central as central, Peripheral as peripheral}
use Rattle.control_model.specs.procedures.procedure_stages.declared.reply.Reply.TheVariants.{Nothing as no_reply}
use Rattle.control_model.specs.procedures.procedure_stages.declared.steps.Effect.TheVariants.{Indicated}
use Rattle.control_model.specs.procedures.procedure_stages.declared.steps.Step.{Step as TableStep}
use Rattle.control_model.specs.procedures.procedure_stages.Closing.{is_open}
use Rattle.control_model.specs.procedures.procedure_stages.Collisions.{collision}
use Rattle.control_model.specs.procedures.procedure_stages.Exclusive.{peripheral_stage}
use Rattle.control_model.specs.procedures.procedure_stages.Kinds.{kind_at_peripheral, role_of}
use Rattle.control_model.specs.procedures.procedure_stages.Queue.{waiting_in}
use Rattle.control_model.specs.procedures.declared.outcome.Outcome.{Outcome}
use Rattle.control_model.specs.procedures.Table.{TableFacts}
use Rattle.control_model.specs.procedures.Taking.{facts_with, lacks_room, no_room, outcome_of, settled, took_step}
use Rattle.control_model.specs.procedures.Request.{outlived}
use Rattle.control_model.specs.procedures.Update.{followed, granted, update_begun}
use Rattle.control_model.specs.Control.{Takes, ended, indicated_by, is_to_come, taken}
use Rattle.control_model.specs.Waits.{kind_ahead, kind_awaited, kind_of_indication}
use Rattle.control_model.proofs.Outcomes.{Hands, fits}
use Rattle.control_model.proofs.Waiting.{handed}
use Rattle.control_end.specs.Answers.{goes_on, nothing_taken, step_shown, taken_of}
use Rattle.control_end.specs.Following.{AwaitsGrant, AwaitsIf, AwaitsWaiting, IsEnd, indication_followed, indication_read, is_peripheral, track_following}
use Rattle.control_end.specs.Held.{Held, control_of, held_after, held_of}
use Rattle.control_end.proofs.Grants.{none_handed, taken_grants}
use Rattle.control_end.proofs.Kept.{waits_on}

-- ---- a table after a PDU, by whether there is room and whether it ends the link

abbrev settled_by : Bool → Option ErrCode → TableFacts → TableFacts → TableStep → TableFacts × TableStep
settled_by full ends f g step =
    if full then (f, no_room) else (if is_some ends then (f, step) else (g, step))

-- a table that goes on is that of the outcome, with its step; a table that ends the link is as it was
record Settles (f : TableFacts) (slot : ℕ) (o : Outcome) (r : TableFacts × TableStep) : Type 0 where
  on : r.1.ends ≡ None → r ≡ (facts_with f slot o, o.step)
  off : is_some r.1.ends ≡ true → r.0 ≡ f

settles_by : (f : TableFacts) (slot : ℕ) (o : Outcome) (full : Bool) (ends : Option ErrCode) → o.step.ends ≡ ends
    → Settles f slot o (settled_by full ends f (facts_with f slot o) o.step)
settles_by f slot o true ends is = record { on = λ no. absurd (cc); off = λ _. refl }
settles_by f slot o false None is = record { on = λ _. refl; off = λ some. absurd (no o.step.ends is some) }
  where
    no : (e : Option ErrCode) → e ≡ None → is_some e ≡ true → ⊥
    no None is some = cc
    no (Some code) is some = cc
settles_by f slot o false (Some code) is = record { on = λ no. absurd (cc); off = λ _. refl }

settles : (f : TableFacts) (read : CtrlRead) (slot : ℕ) (quiet : Bool) → Settles f slot (outcome_of f quiet read) (took_step f read slot quiet)
settles f read slot quiet =
    let o = outcome_of f quiet read in settles_by f slot o (lacks_room f o) o.step.ends refl

pub table_stays : (f : TableFacts) (read : CtrlRead) (slot : ℕ) (quiet : Bool) → is_some (took_step f read slot quiet).1.ends ≡ true
    → (took_step f read slot quiet).0 ≡ f
table_stays f read slot quiet is = (settles f read slot quiet).off is

-- ---- an indication that finds no other is handed on

and_false : (a : Bool) → (a && false) ≡ false
and_false true = refl
and_false false = refl

abbrev pub hands_on : Indication → TableStep
hands_on indication = record { effect = Indicated indication; ends = None; refused = None; done = None }

-- an outcome that hands an indication on, and is not answered
record IsHanded (indication : Indication) (o : Outcome) : Type 0 where
  step : o.step ≡ hands_on indication
  reply : o.reply ≡ no_reply

handed_on : (f : TableFacts) (slot : ℕ) (indication : Indication) (o : Outcome) → IsHanded indication o
    → (settled f slot o).1 ≡ hands_on indication
handed_on f slot indication o h =
    rw h.step (rw h.reply (rw (and_false (is_open f.closing && nat_le 16 (waiting_in f.queue))) refl))

abbrev at : TableFacts → Peripheral → Ahead → TableFacts
at f p ahead = record f { progress = peripheral (record p { ahead = ahead }) }

module _ (f : TableFacts) (p : Peripheral) (quiet : Bool) where
  update_handed : (win_size win_offset interval latency timeout instant : ℕ)
      → IsHanded (update_indication win_offset interval latency timeout instant)
      (outcome_of (at f p Nothing) quiet (Known (ConnectionUpdateInd win_size win_offset interval latency timeout instant)))
  update_handed win_size win_offset interval latency timeout instant = by (reads_as_answer (peripheral_stage p.own))
    where
      by : (b : Bool) → IsHanded (update_indication win_offset interval latency timeout instant)
          (if b then granted (at f p Nothing) (record p { ahead = Nothing }) (update_indication win_offset interval latency timeout instant)
          else update_begun (at f p Nothing) (record p { ahead = Nothing }) (update_indication win_offset interval latency timeout instant))
      by true = record { step = refl; reply = refl }
      by false = record { step = refl; reply = refl }

  abbrev map_followed : ℕ → ℕ → Outcome
  map_followed map instant =
      followed (at f p Nothing) (record p { ahead = Nothing; peer = MapTaken }) map_ahead (map_indication map instant)

  map_handed : (map : ℕ) (instant : ℕ) → AwaitsIf (central_answered (peripheral_stage p.own)) Nothing
      → IsHanded (map_indication map instant) (outcome_of (at f p Nothing) quiet (Known (ChannelMapInd map instant)))
  map_handed map instant g = by (central_answered (peripheral_stage p.own)) g
    where
      by : (b : Bool) → AwaitsIf b Nothing → IsHanded (map_indication map instant)
          (if b then outlived (at f p Nothing) (collision (kind_at_peripheral p.own) map_kind) (map_followed map instant) else map_followed map instant)
      by true g = absurd g
      by false g = record { step = refl; reply = refl }

some_same : {A : Type 0} (a b : A) → ◌≡◌ {A = Option A} (Some a) (Some b) → a ≡ b
some_same a b is = cc

module _ (f : TableFacts) (slot : ℕ) (quiet : Bool) where
  free_hands : (p : Peripheral) (ahead : Ahead) → kind_ahead ahead ≡ None → AwaitsIf (central_answered (peripheral_stage p.own)) ahead
      → (read : CtrlRead) (indication : Indication) → indication_read read ≡ Some indication
      → (took_step (at f p ahead) read slot quiet).1 ≡ hands_on indication
  free_hands p update_ahead is g read indication same = absurd (cc)
  free_hands p map_ahead is g read indication same = absurd (cc)
  free_hands p Nothing is g (Known (ConnectionUpdateInd win_size win_offset interval latency timeout instant)) indication same =
      rw (sym (some_same _ indication same))
      (handed_on (at f p Nothing) slot _ _ (update_handed f p quiet win_size win_offset interval latency timeout instant))
  free_hands p Nothing is g (Known (ChannelMapInd map instant)) indication same =
      rw (sym (some_same _ indication same)) (handed_on (at f p Nothing) slot _ _ (map_handed f p quiet map instant g))
  free_hands p Nothing is g (Known other) indication same = absurd (cc)
  free_hands p Nothing is g (Unknown opcode) indication same = absurd (cc)
  free_hands p Nothing is g Bare indication same = absurd (cc)

  abbrev Followed : Progress → Option Change → CtrlRead → Option Indication
  Followed p waits read = if is_peripheral (role_of p) && is_none waits then indication_read read else None

  abbrev with_progress : Progress → TableFacts
  with_progress p = record f { progress = p }

  hands_by : (p : Progress) (waits : Option Change) → AwaitsWaiting p waits → AwaitsGrant p → (read : CtrlRead) (indication : Indication)
      → Followed p waits read ≡ Some indication → (took_step (with_progress p) read slot quiet).1 ≡ hands_on indication
  hands_by (central c) waits a g read indication same = absurd (cc)
  hands_by (peripheral p) (Some change) a g read indication same = absurd (cc)
  hands_by (peripheral p) None a g read indication same = free_hands p p.ahead a g read indication same

  -- where an end follows none, none is handed on
  none_by : (p : Progress) (waits : Option Change) → AwaitsWaiting p waits → AwaitsGrant p → (read : CtrlRead)
      → (took_step (with_progress p) read slot quiet).1.ends ≡ None
      → Followed p waits read ≡ None → indicated_by (took_step (with_progress p) read slot quiet).1.effect ≡ None
  none_by (central c) waits a g read goes same =
      by (indicated_by (took_step (with_progress (central c)) read slot quiet).1.effect) refl
    where
      no : role_of (central c) ≡ peripheral_role → ⊥
      no is = cc

      by : (e : Option Indication) → indicated_by (took_step (with_progress (central c)) read slot quiet).1.effect ≡ e → e ≡ None
      by None is = refl
      by (Some indication) is = absurd (no (handed (with_progress (central c)) read slot quiet indication is).here)
  none_by (peripheral p) (Some change) a g read goes same =
      by (indicated_by (took_step (with_progress (peripheral p)) read slot quiet).1.effect) refl
    where
      no : (k : Option Kind) → k ≡ Some (kind_of_indication change.indication) → k ≡ None → ⊥
      no None is other = cc
      no (Some kind) is other = cc

      by : (e : Option Indication) → indicated_by (took_step (with_progress (peripheral p)) read slot quiet).1.effect ≡ e → e ≡ None
      by None is = refl
      by (Some indication) is =
          absurd (no (kind_ahead p.ahead) a (handed (with_progress (peripheral p)) read slot quiet indication is).free)
  none_by (peripheral p) None a g read goes same =
      ap (λ (r : TableFacts × TableStep). indicated_by r.1.effect) ((settles (with_progress (peripheral p)) read slot quiet).on goes)
      ∙ none_handed f p quiet read g same

-- ---- what an end holds after it

module _ (h : Held) (i : IsEnd h) (read : CtrlRead) (slot : ℕ) (quiet : Bool) where
  hands : (indication : Indication) → indication_followed read h ≡ Some indication
      → (took_step h.table read slot quiet).1 ≡ hands_on indication
  hands indication is = hands_by h.table slot quiet h.table.progress h.track.waits i.waits i.grant read indication is

  agrees : (took_step h.table read slot quiet).1.ends ≡ None
      → indicated_by (took_step h.table read slot quiet).1.effect ≡ indication_followed read h
  agrees goes = by (indication_followed read h) refl
    where
      by : (x : Option Indication) → indication_followed read h ≡ x → indicated_by (took_step h.table read slot quiet).1.effect ≡ x
      by None is = none_by h.table slot quiet h.table.progress h.track.waits i.waits i.grant read goes is
      by (Some indication) is = ap (λ (step : TableStep). indicated_by step.effect) (hands indication is)

  opened : goes_on h ≡ true
      → held_after (Takes read slot quiet) h
      ≡ held_of (taken (took_step h.table read slot quiet).0 (took_step h.table read slot quiet).1.ends
      (indicated_by (took_step h.table read slot quiet).1.effect) (control_of h))
  opened is = rw is refl

  passed_by : (g : TableFacts) (step : TableStep) (x : Option Indication) → ((indication : Indication) → x ≡ Some indication → step ≡ hands_on indication)
      → track_following x h.track ≡ None
      → held_of (taken g step.ends (indicated_by step.effect) (control_of h)) ≡ record h { ends = Some (record { 0 = instant_passed }) }
  passed_by g step None hand is = absurd (cc)
  passed_by g step (Some indication) hand is = rw (hand indication refl) (by (is_to_come h.track indication) is)
    where
      by : (b : Bool) → ◌≡◌ {A = Option TrackFacts} (if b then Some (track_after_take h.track indication) else None) None
          → held_of (if b then record (control_of h) { table = g; track = track_after_take h.track indication }
          else ended (record { 0 = instant_passed }) (control_of h)) ≡ record h { ends = Some (record { 0 = instant_passed }) }
      by true is = absurd (cc)
      by false is = refl

  -- the Instant of the indication has passed
  pub passed : goes_on h ≡ true → track_following (indication_followed read h) h.track ≡ None
      → held_after (Takes read slot quiet) h ≡ record h { ends = Some (record { 0 = instant_passed }) }
  passed goes is = opened goes ∙ passed_by _ _ (indication_followed read h) hands is

  -- the table ends the link
  pub ended_by : (code : ErrCode) → goes_on h ≡ true → (took_step h.table read slot quiet).1.ends ≡ Some code
      → held_after (Takes read slot quiet) h ≡ record h { ends = Some code }
  ended_by code goes is =
      opened goes
      ∙ ap (λ (ends : Option ErrCode). held_of (taken (took_step h.table read slot quiet).0 ends
      (indicated_by (took_step h.table read slot quiet).1.effect) (control_of h))) is

  goes_by : (g : TableFacts) (x : Option Indication) (track : TrackFacts) → track_following x h.track ≡ Some track
      → held_of (taken g None x (control_of h)) ≡ record { table = g; track = track; ends = h.ends }
  goes_by g None track is = ap (λ (t : TrackFacts). record { table = g; track = t; ends = h.ends }) (some_same h.track track is)
  goes_by g (Some indication) track is = by (is_to_come h.track indication) is
    where
      by : (b : Bool) → ◌≡◌ {A = Option TrackFacts} (if b then Some (track_after_take h.track indication) else None) (Some track)
          → held_of (if b then record (control_of h) { table = g; track = track_after_take h.track indication }
          else ended (record { 0 = instant_passed }) (control_of h)) ≡ record { table = g; track = track; ends = h.ends }
      by true is =
          ap (λ (t : TrackFacts). record { table = g; track = t; ends = h.ends })
          (some_same (track_after_take h.track indication) track is)
      by false is = absurd (cc)

  module _ (track : TrackFacts) (lasts : (took_step h.table read slot quiet).1.ends ≡ None)
      (follows : track_following (indication_followed read h) h.track ≡ Some track) where
    -- neither is so
    pub went_on : goes_on h ≡ true
        → held_after (Takes read slot quiet) h ≡ record { table = (took_step h.table read slot quiet).0; track = track; ends = h.ends }
    went_on goes =
        opened goes
        ∙ (λ j. held_of (taken (took_step h.table read slot quiet).0 (lasts j) (agrees lasts j) (control_of h)))
        ∙ goes_by (took_step h.table read slot quiet).0 (indication_followed read h) track follows

    kept_by : (p q : Progress) (x : Option Indication) → Hands x p q → AwaitsWaiting p h.track.waits
        → track_following x h.track ≡ Some track → AwaitsWaiting q track.waits
    kept_by p q None s a is =
        subst (λ (t : TrackFacts). AwaitsWaiting q t.waits) (some_same h.track track is)
        (waits_on p q h.track.waits s.role s.awaited a)
    kept_by p q (Some indication) s a is = by (is_to_come h.track indication) is
      where
        at_peripheral : (q : Progress) → kind_awaited q ≡ Some (kind_of_indication indication)
            → AwaitsWaiting q (track_after_take h.track indication).waits
        at_peripheral (central c) is = tt
        at_peripheral (peripheral p) is = is

        by : (b : Bool) → ◌≡◌ {A = Option TrackFacts} (if b then Some (track_after_take h.track indication) else None) (Some track)
            → AwaitsWaiting q track.waits
        by true is =
            subst (λ (t : TrackFacts). AwaitsWaiting q t.waits)
            (some_same (track_after_take h.track indication) track is) (at_peripheral q s.awaited)
        by false is = absurd (cc)

    pub taken_fits : IsEnd (record { table = (took_step h.table read slot quiet).0; track = track; ends = h.ends })
    taken_fits =
        let o = outcome_of h.table quiet read in
        let on = (settles h.table read slot quiet).on lasts in
        let same = sym (ap (λ (r : TableFacts × TableStep). indicated_by r.1.effect) on) ∙ agrees lasts in
        let hands = subst (λ (x : Option Indication). Hands x h.table.progress o.progress) same (fits h.table quiet read).hands in
        rw on (record {
          waits = kept_by h.table.progress o.progress (indication_followed read h) hands i.waits follows;
          grant = taken_grants h.table quiet read i.grant;
        })

-- ---- the same, in the words of the code: the table and its step after the call, and the end before it

none_of : (ends : Option ErrCode) → is_some ends ≡ false → ends ≡ None
none_of None is = refl
none_of (Some code) is = absurd (cc)

pub open_of : (h : Held) → is_some h.ends ≡ false → goes_on h ≡ true
open_of h is = rw (none_of h.ends is) refl

some_of : (ends : Option ErrCode) → is_some ends ≡ true → (P : Option ErrCode → Type 0) → ((code : ErrCode) → ends ≡ Some code → P (Some code)) → P ends
some_of None is P next = absurd (cc)
some_of (Some code) is P next = next code refl

module _ (read : CtrlRead) (slot : ℕ) (quiet : Bool) where
  -- the Instant has passed
  pub passed_step : (h k : Held) → IsEnd h → h ≡ k → is_some h.ends ≡ false
      → track_following (indication_followed read k) k.track ≡ None
      → record h { ends = Some (record { 0 = instant_passed }) } ≡ held_after (Takes read slot quiet) k
  passed_step h k i same goes is =
      let j : IsEnd k = subst (λ (h : Held). IsEnd h) same i in
      ap (λ (h : Held). record h { ends = Some (record { 0 = instant_passed }) }) same
      ∙ sym (passed k j read slot quiet (subst (λ (h : Held). goes_on h ≡ true) same (open_of h goes)) is)

  pub passed_taken : (h k : Held) → IsEnd h → h ≡ k → is_some h.ends ≡ false
      → track_following (indication_followed read k) k.track ≡ None → nothing_taken ≡ taken_of read slot quiet k
  passed_taken h k i same goes is =
      ap (λ (after : Held). if goes_on after then step_shown (took_step k.table read slot quiet).1 else nothing_taken) (passed_step h k i same goes is)

  module _ (h k : Held) (i : IsEnd h) (same : h ≡ k) (r : TableFacts × TableStep) (is : r ≡ took_step h.table read slot quiet) where
    -- the table ends the link
    stays : is_some r.1.ends ≡ true → r.0 ≡ h.table
    stays ends =
        ap (λ (r : TableFacts × TableStep). r.0) is
        ∙ table_stays h.table read slot quiet (ap (λ (r : TableFacts × TableStep). is_some r.1.ends) (sym is) ∙ ends)

    pub ends_fits : is_some r.1.ends ≡ true → IsEnd (record { table = r.0; track = h.track; ends = r.1.ends })
    ends_fits ends =
        rw (stays ends) (record { waits = i.waits; grant = i.grant })

    pub ends_step : goes_on k ≡ true → is_some r.1.ends ≡ true
        → record { table = r.0; track = h.track; ends = r.1.ends } ≡ held_after (Takes read slot quiet) k
    ends_step goes ends =
        let open_h : goes_on h ≡ true = subst (λ (h : Held). goes_on h ≡ true) (sym same) goes in
        ap (λ (table : TableFacts). record { table = table; track = h.track; ends = r.1.ends }) (stays ends)
        ∙ some_of r.1.ends ends (λ (ends : Option ErrCode). record h { ends = ends } ≡ held_after (Takes read slot quiet) h)
        (λ code code_is. sym (ended_by h i read slot quiet code open_h (ap (λ (r : TableFacts × TableStep). r.1.ends) (sym is) ∙ code_is)))
        ∙ ap (λ (h : Held). held_after (Takes read slot quiet) h) same

    -- it goes on
    module _ (track : TrackFacts) (lasts : is_some r.1.ends ≡ false) (follows : track_following (indication_followed read k) k.track ≡ Some track) where
      none_h : (took_step h.table read slot quiet).1.ends ≡ None
      none_h = ap (λ (r : TableFacts × TableStep). r.1.ends) (sym is) ∙ none_of r.1.ends lasts

      follows_h : track_following (indication_followed read h) h.track ≡ Some track
      follows_h = subst (λ (h : Held). track_following (indication_followed read h) h.track ≡ Some track) (sym same) follows

      pub goes_fits : IsEnd (record { table = r.0; track = track; ends = h.ends })
      goes_fits = rw is (taken_fits h i read slot quiet track none_h follows_h)

      pub goes_step : goes_on k ≡ true → record { table = r.0; track = track; ends = h.ends } ≡ held_after (Takes read slot quiet) k
      goes_step goes =
          ap (λ (r : TableFacts × TableStep). record { table = r.0; track = track; ends = h.ends }) is
          ∙ sym (went_on h i read slot quiet track none_h follows_h (subst (λ (h : Held). goes_on h ≡ true) (sym same) goes))
          ∙ ap (λ (h : Held). held_after (Takes read slot quiet) h) same

      pub goes_taken : goes_on k ≡ true → step_shown r.1 ≡ taken_of read slot quiet k
      goes_taken goes =
          ap (λ (r : TableFacts × TableStep). step_shown r.1) is
          ∙ ap (λ (h : Held). step_shown (took_step h.table read slot quiet).1) same
          ∙ subst (λ (b : Bool). step_shown (took_step k.table read slot quiet).1 ≡ (if b then step_shown (took_step k.table read slot quiet).1 else nothing_taken))
          (sym (subst (λ (h : Held). goes_on h ≡ true) (sym same) goes)) refl
          ∙ ap (λ (after : Held). if goes_on after then step_shown (took_step k.table read slot quiet).1 else nothing_taken) (goes_step goes)
