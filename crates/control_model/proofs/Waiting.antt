-- A peripheral awaits by its table the indication that its track has waiting.
use Rattle.std.proofs.Common.{◌≡◌, ℕ, ◌+◌, Bool, true, false, ◌&&◌, if◌then◌else◌, List, [], ◌∷◌, Option, Some, None, is_some, is_none, nat_le, refl, sym, ap, subst, ◌∙◌, inl, inr}
use Rattle.ble_base.specs.ErrorCodes.{different_transaction_collision, instant_passed, ll_procedure_collision}
use Rattle.ble_base.specs.declared.error_codes.ErrCode.{ErrCode}
use Rattle.ble_base.specs.declared.procedure_kinds.Kind.{Kind}
use Rattle.ble_base.specs.declared.roles.Role.{Role}
use Rattle.ble_base.specs.declared.roles.Role.TheVariants.{Central as central_role, Peripheral as peripheral_role}
use Rattle.ble_base.specs.declared.channel_map.ChannelMap.{ChannelMap}
use Rattle.ble_base.specs.declared.procedure_kinds.Kind.TheVariants.{Update, Map, Request, Phy}
use Rattle.data_pdu.specs.declared.ctrl.Ctrl.TheVariants.{ConnectionUpdateInd, ChannelMapInd}
use Rattle.data_pdu.specs.declared.ctrl.CtrlRead.{CtrlRead}
use Rattle.data_pdu.specs.declared.ctrl.CtrlRead.TheVariants.{Known}
use Rattle.instants.specs.declared.indications.Params.{Params}
use Rattle.instants.specs.declared.indications.Indication.{Indication}
use Rattle.instants.specs.declared.track.Change.{Change}
use Rattle.instants.specs.Track.{TrackFacts, event_of, is_due, next_number, number_if_due, track_in_next, track_after_take, track_changed, track_unchanged}
use Rattle.procedures.specs.procedure_values.Drafts.{is_out}
use Rattle.procedures.specs.procedure_stages.declared.stages.Ahead.{Ahead}
use Rattle.procedures.specs.procedure_stages.declared.stages.Ahead.TheVariants.{Nothing, Update as update_ahead, Map as map_ahead}
use Rattle.procedures.specs.procedure_stages.declared.stages.Peripheral.{Peripheral}
use Rattle.procedures.specs.procedure_stages.declared.stages.Progress.{Progress}
use Rattle.procedures.specs.procedure_stages.declared.stages.Progress.TheVariants.{Central as central, Peripheral as peripheral}
use Rattle.procedures.specs.procedure_stages.declared.steps.Step.{Step as TableStep}
use Rattle.exclusive_stages.specs.Awaited.{central_answered}
use Rattle.procedures.specs.procedure_stages.Exclusive.{peripheral_stage}
use Rattle.procedures.specs.procedure_stages.Collisions.{collision, collision_code}
use Rattle.procedures.specs.procedure_stages.Queue.{waiting_in}
use Rattle.procedures.specs.procedure_stages.Held.{progress_held}
use Rattle.procedures.specs.procedure_stages.InProgress.{is_host_asked}
use Rattle.procedures.specs.procedure_stages.Closing.{is_open}
use Rattle.procedures.specs.procedure_stages.Kinds.{kind_at_peripheral, role_of}
use Rattle.procedures.specs.Beginning.{begin_step}
use Rattle.procedures.specs.Going.{is_answer, terminate_step}
use Rattle.procedures.specs.Outcomes
use Rattle.procedures.specs.Queue.{next_of}
use Rattle.procedures.specs.Request.{outlived}
use Rattle.procedures.specs.Table.{TableFacts}
use Rattle.procedures.specs.Taking.{facts_with, lacks_room, outcome_of, settled, took_step}
use Rattle.control_model.specs.Control.{Control, Step, Enters, Asks, Answers, Disconnects, Sends, SeesAcknowledged, Takes, Owes, after, after_all, ended, entered, first_control, following, goes_out, indicated_by, is_to_come, moved, sent, taken, took, table_if, went}
use Rattle.control_model.specs.Waits.{EndsByCollision, kind_ahead, kind_awaited, kind_of_indication, kind_waiting}
use Rattle.control_model.proofs.Outcomes.{Hands, HandsOn, Same, fits}
use Rattle.control_model.proofs.Calls.{acked_same, answered_same, begun_same, either_way, given_same, held_over, open_step, sent_from, settled_as, taken_by_step, took_by, unmoved}

pub record Awaits (c : Control) : Type 0 where
  pub role : role_of c.table.progress ≡ peripheral_role
  pub same : kind_awaited c.table.progress ≡ kind_waiting c.track.waits

kept : (c : Control) (g : TableFacts) → Awaits c → Same c.table.progress g.progress → Awaits (record c { table = g })
kept c g a s = record { role = s.role ∙ a.role; same = s.awaited ∙ a.same }

over : (code : ErrCode) (c : Control) → Awaits c → Awaits (ended code c)
over code c a = record { role = a.role; same = a.same }

kept_if : (b : Bool) (c : Control) (g : TableFacts) → Awaits c → Same c.table.progress g.progress → Awaits (table_if b g c)
kept_if true c g a s = kept c g a s
kept_if false c g a s = a

-- ---- an event is entered

begins : (c : Control) (g : TableFacts) (t : TrackFacts) (slot : ℕ) (quiet : Bool) → role_of g.progress ≡ peripheral_role
    → kind_awaited g.progress ≡ kind_waiting t.waits → Awaits (record c { table = (begin_step g slot quiet).0; track = t })
begins c g t slot quiet role same =
    let s = begun_same g slot quiet in record { role = s.role ∙ role; same = s.awaited ∙ same }

abbrev with_waits : Option Change → Control → Control
with_waits waits c = record c { track = record c.track { waits = waits } }

enters_by : (c : Control) (slot : ℕ) (quiet : Bool) (waits : Option Change) → Awaits (with_waits waits c) → Awaits (entered slot quiet (with_waits waits c))
enters_by c slot quiet None a = begins c c.table (track_unchanged (with_waits None c).track) slot quiet a.role a.same
enters_by c slot quiet (Some change) a = by (is_due change c.track.entered) refl
  where
    by : (due : Bool) → is_due change c.track.entered ≡ due → Awaits (entered slot quiet (with_waits (Some change) c))
    by true is =
        let o = held_over c.table.progress in
        rw is (begins c (record c.table { progress = progress_held c.table.progress }) (track_changed change (with_waits (Some change) c).track) slot quiet (o.role ∙ a.role) o.awaited)
    by false is = rw is (begins c c.table (track_unchanged (with_waits (Some change) c).track) slot quiet a.role a.same)

-- ---- a PDU is taken

takes_by : (c : Control) (g : TableFacts) (indication : Option Indication) → Awaits c → Hands indication c.table.progress g.progress
    → Awaits (taken g None indication c)
takes_by c g None a s = kept c g a s
takes_by c g (Some indication) a h = by (is_to_come c.track indication)
  where
    by : (b : Bool) → Awaits (if b then record c { table = g; track = track_after_take c.track indication } else ended (record { 0 = instant_passed }) c)
    by true = record { role = h.role; same = h.awaited }
    by false = record { role = a.role; same = a.same }

takes_one : (c : Control) (read : CtrlRead) (slot : ℕ) (quiet : Bool) → Awaits c → Awaits (took read slot quiet c)
takes_one c read slot quiet a =
    took_by Awaits c (λ code. over code c a) read slot quiet
    (takes_by c (facts_with c.table slot (outcome_of c.table quiet read)) (indicated_by (outcome_of c.table quiet read).step.effect) a (fits c.table quiet read).hands)

-- ---- a PDU is sent

follows_none : (role : Role) (indication : Option Indication) (c : Control) → role ≡ peripheral_role → Awaits c → Awaits (following role indication c)
follows_none central_role indication c is a = absurd (cc)
follows_none peripheral_role indication c is a = a

sends_one : (c : Control) (slot : ℕ) (quiet : Bool) → Awaits c → Awaits (sent slot quiet c)
sends_one c slot quiet a =
    let s = sent_from (next_of c.table (event_of c.track) quiet) (event_of c.track) c.track.params.latency c.table.progress in
    either_way Awaits (goes_out quiet c) _ c
    (follows_none (role_of c.table.progress) (went slot quiet c).1 (record c { table = (went slot quiet c).0 }) a.role
    (record { role = s.role ∙ a.role; same = s.awaited ∙ a.same }))
    a

-- ---- every step

moves : (step : Step) (c : Control) → Awaits c → Awaits (moved step c)
moves (Enters slot quiet) c a = enters_by c slot quiet c.track.waits a
moves (Asks ask) c a = kept c _ a (unmoved c.table.progress)
moves (Answers answer) c a = kept_if (is_host_asked c.table.progress && is_answer answer) c _ a (answered_same c.table answer)
moves (Disconnects reason) c a = kept_if (is_open c.table.closing) c (terminate_step c.table reason) a (unmoved c.table.progress)
moves (Sends slot quiet) c a = sends_one c slot quiet a
moves SeesAcknowledged c a = kept_if (is_out c.table.out) c _ a (acked_same c.table.out c.table.progress)
moves (Takes read slot quiet) c a = takes_one c read slot quiet a
moves (Owes ctrl) c a = kept c _ a (given_same c.table.progress ctrl)

stays : (b : Bool) (step : Step) (c : Control) → Awaits c → Awaits (if b then moved step c else c)
stays true step c a = moves step c a
stays false step c a = a

all_await : (steps : List Step) (c : Control) → Awaits c → Awaits (after_all steps c)
all_await [] c a = a
all_await (step ∷ steps) c a = all_await steps (after step c) (stays (is_none c.ends) step c a)

pub awaits : (max_rx : ℕ) (first : Params) (slot : ℕ) (steps : List Step) → Awaits (after_all steps (first_control peripheral_role max_rx first slot))
awaits max_rx first slot steps = all_await steps (first_control peripheral_role max_rx first slot) (record { role = refl; same = refl })

-- ---- an indication that is handed on finds no other

handed_by : (full : Bool) (code : Option ErrCode) (f g : TableFacts) (step : TableStep) (indication : Indication)
    → indicated_by (settled_as full code f g step).1.effect ≡ Some indication → indicated_by step.effect ≡ Some indication
handed_by true code f g step indication is = absurd (cc)
handed_by false (Some code) f g step indication is = is
handed_by false None f g step indication is = is

pub handed : (f : TableFacts) (read : CtrlRead) (slot : ℕ) (quiet : Bool) (indication : Indication)
    → indicated_by (took_step f read slot quiet).1.effect ≡ Some indication
    → HandsOn indication f.progress (outcome_of f quiet read).progress
handed f read slot quiet indication is =
    let o = outcome_of f quiet read in
    subst (λ (some : Option Indication). Hands some f.progress o.progress)
    (handed_by (lacks_room f o) o.step.ends f (facts_with f slot o) o.step indication is) (fits f quiet read).hands

none_waits : (waits : Option Change) → kind_waiting waits ≡ None → is_none waits ≡ true
none_waits None is = refl
none_waits (Some change) is = absurd (cc)

pub free_to_take : (c : Control) → Awaits c → (read : CtrlRead) (slot : ℕ) (quiet : Bool) (indication : Indication)
    → indicated_by (took_step c.table read slot quiet).1.effect ≡ Some indication → is_none c.track.waits ≡ true
free_to_take c a read slot quiet indication is =
    let h = handed c.table read slot quiet indication is in
    none_waits c.track.waits (sym a.same ∙ h.free)

-- ---- a second indication ends the link

and_false : (a : Bool) → (a && false) ≡ false
and_false true = refl
and_false false = refl

ends_now : (c : Control) (slot : ℕ) (code : ErrCode) → taken_by_step (settled c.table slot (Outcomes.ended c.table code)) c ≡ ended code c
ends_now c slot code =
    by (lacks_room c.table (Outcomes.ended c.table code)) (and_false (is_open c.table.closing && nat_le 16 (waiting_in c.table.queue)))
  where
    by : (full : Bool) → full ≡ false
        → taken_by_step (settled_as full (Some code) c.table (facts_with c.table slot (Outcomes.ended c.table code)) (Outcomes.ended c.table code).step) c ≡ ended code c
    by true is = absurd (cc)
    by false is = refl

abbrev with_progress : Progress → Control → Control
with_progress p c = record c { table = record c.table { progress = p } }

kinds_same : (a b : Kind) → ◌≡◌ {A = Option Kind} (Some a) (Some b) → a ≡ b
kinds_same a b is = cc

module _ (c : Control) (slot : ℕ) (quiet : Bool) where
  second_update_at : (p : Peripheral) (win_size win_offset interval latency timeout instant : ℕ) (ahead : Ahead) (waiting : Kind) → kind_ahead ahead ≡ Some waiting
      → took (Known (ConnectionUpdateInd win_size win_offset interval latency timeout instant)) slot quiet (with_progress (peripheral (record p { ahead = ahead })) c)
      ≡ ended (collision_code waiting Update) (with_progress (peripheral (record p { ahead = ahead })) c)
  second_update_at p win_size win_offset interval latency timeout instant Nothing waiting is = absurd (cc)
  second_update_at p win_size win_offset interval latency timeout instant update_ahead waiting is =
      rw (sym (kinds_same Update waiting is)) (ends_now (with_progress (peripheral (record p { ahead = update_ahead })) c) slot (record { 0 = ll_procedure_collision }))
  second_update_at p win_size win_offset interval latency timeout instant map_ahead waiting is =
      rw (sym (kinds_same Map waiting is)) (ends_now (with_progress (peripheral (record p { ahead = map_ahead })) c) slot (record { 0 = different_transaction_collision }))

  second_update_by : (p : Progress) (win_size win_offset interval latency timeout instant : ℕ) (waiting : Kind) → kind_awaited p ≡ Some waiting
      → took (Known (ConnectionUpdateInd win_size win_offset interval latency timeout instant)) slot quiet (with_progress p c)
      ≡ ended (collision_code waiting Update) (with_progress p c)
  second_update_by (central ct) win_size win_offset interval latency timeout instant waiting is = absurd (cc)
  second_update_by (peripheral p) win_size win_offset interval latency timeout instant waiting is =
      second_update_at p win_size win_offset interval latency timeout instant p.ahead waiting is

  -- what ends by a collision, with the track as it was
  record Collides (d : Control) : Type 0 where
    by_collision : EndsByCollision d.ends
    same_track : d.track ≡ c.track

  collides : (f : TableFacts) (code : ErrCode) → EndsByCollision (Some code) → Collides (taken_by_step (settled f slot (Outcomes.ended f code)) (record c { table = f }))
  collides f code is = rw (ends_now (record c { table = f }) slot code) (record { by_collision = is; same_track = refl })

  map_by_code : (f : TableFacts) (p : Peripheral) (own : Option Kind) (b : Bool) (new : ErrCode) → EndsByCollision (Some new)
      → Collides (taken_by_step (settled f slot (if b then outlived f (collision own Map) (Outcomes.ended f new) else Outcomes.ended f new)) (record c { table = f }))
  map_by_code f p None true new is = collides f new is
  map_by_code f p (Some Update) true new is = collides f _ (inr refl)
  map_by_code f p (Some Map) true new is = collides f _ (inl refl)
  map_by_code f p (Some Request) true new is = collides f _ (inr refl)
  map_by_code f p (Some Phy) true new is = collides f _ (inr refl)
  map_by_code f p (Some other) true new is = collides f new is
  map_by_code f p own false new is = collides f new is

  second_map_at : (p : Peripheral) (map : ChannelMap) (instant : ℕ) (ahead : Ahead) (waiting : Kind) → kind_ahead ahead ≡ Some waiting
      → Collides (took (Known (ChannelMapInd map instant)) slot quiet (with_progress (peripheral (record p { ahead = ahead })) c))
  second_map_at p map instant Nothing waiting is = absurd (cc)
  second_map_at p map instant update_ahead waiting is =
      map_by_code (record c.table { progress = peripheral (record p { ahead = update_ahead }) }) p (kind_at_peripheral p.own) (central_answered (peripheral_stage p.own)) _ (inr refl)
  second_map_at p map instant map_ahead waiting is =
      map_by_code (record c.table { progress = peripheral (record p { ahead = map_ahead }) }) p (kind_at_peripheral p.own) (central_answered (peripheral_stage p.own)) _ (inl refl)

  second_map_by : (p : Progress) (map : ChannelMap) (instant : ℕ) (waiting : Kind) → kind_awaited p ≡ Some waiting
      → Collides (took (Known (ChannelMapInd map instant)) slot quiet (with_progress p c))
  second_map_by (central ct) map instant waiting is = absurd (cc)
  second_map_by (peripheral p) map instant waiting is = second_map_at p map instant p.ahead waiting is

awaited : (c : Control) (change : Change) → Awaits c → c.track.waits ≡ Some change → kind_awaited c.table.progress ≡ Some (kind_of_indication change.indication)
awaited c change a is = a.same ∙ ap kind_waiting is

pub second_update : (c : Control) → Awaits c → (change : Change) → c.ends ≡ None → c.track.waits ≡ Some change
    → (win_size win_offset interval latency timeout instant slot : ℕ) (quiet : Bool)
    → after (Takes (Known (ConnectionUpdateInd win_size win_offset interval latency timeout instant)) slot quiet) c
    ≡ ended (collision_code (kind_of_indication change.indication) Update) c
second_update c a change lasts is win_size win_offset interval latency timeout instant slot quiet =
    open_step (λ (d : Control). d ≡ ended (collision_code (kind_of_indication change.indication) Update) c)
    (Takes (Known (ConnectionUpdateInd win_size win_offset interval latency timeout instant)) slot quiet) c lasts
    (second_update_by c slot quiet c.table.progress win_size win_offset interval latency timeout instant _ (awaited c change a is))

pub second_map : (c : Control) → Awaits c → (change : Change) → c.ends ≡ None → c.track.waits ≡ Some change → (map : ChannelMap) (instant slot : ℕ) (quiet : Bool)
    → EndsByCollision (after (Takes (Known (ChannelMapInd map instant)) slot quiet) c).ends
second_map c a change lasts is map instant slot quiet =
    open_step (λ (d : Control). EndsByCollision d.ends) (Takes (Known (ChannelMapInd map instant)) slot quiet) c lasts
    (second_map_by c slot quiet c.table.progress map instant _ (awaited c change a is)).by_collision

pub second_map_track : (c : Control) → Awaits c → (change : Change) → c.ends ≡ None → c.track.waits ≡ Some change → (map : ChannelMap) (instant slot : ℕ) (quiet : Bool)
    → (after (Takes (Known (ChannelMapInd map instant)) slot quiet) c).track ≡ c.track
second_map_track c a change lasts is map instant slot quiet =
    open_step (λ (d : Control). d.track ≡ c.track) (Takes (Known (ChannelMapInd map instant)) slot quiet) c lasts
    (second_map_by c slot quiet c.table.progress map instant _ (awaited c change a is)).same_track

-- ---- it is over in both at one entry

waits_no_more : (waits : Option Change) (t : TrackFacts) → is_some (number_if_due waits t.entered t.applied) ≡ true → (track_in_next waits t).waits ≡ None
waits_no_more None t is = absurd (cc)
waits_no_more (Some change) t is = by (is_due change t.entered) is
  where
    by : (b : Bool) → is_some {T = ℕ} (if b then Some (t.applied + 1) else None) ≡ true → (if b then track_changed change t else track_unchanged t).waits ≡ None
    by true is = refl
    by false is = absurd (cc)

pub over_at_entry : (c : Control) → Awaits c → (slot : ℕ) (quiet : Bool) → c.ends ≡ None → is_some (next_number c.track) ≡ true
    → kind_awaited (after (Enters slot quiet) c).table.progress ≡ None
over_at_entry c a slot quiet lasts due =
    open_step (λ (d : Control). kind_awaited d.table.progress ≡ None) (Enters slot quiet) c lasts
    ((enters_by c slot quiet c.track.waits a).same ∙ ap kind_waiting (waits_no_more c.track.waits c.track due))

module _ (max_rx : ℕ) (first : Params) (slot : ℕ) (steps : List Step) where
  abbrev now_peripheral : Control
  now_peripheral = after_all steps (first_control peripheral_role max_rx first slot)

  pub same_kind : kind_awaited now_peripheral.table.progress ≡ kind_waiting now_peripheral.track.waits
  same_kind = (awaits max_rx first slot steps).same

  pub free : (read : CtrlRead) (now : ℕ) (quiet : Bool) (indication : Indication)
      → indicated_by (took_step now_peripheral.table read now quiet).1.effect ≡ Some indication → is_none now_peripheral.track.waits ≡ true
  free = free_to_take now_peripheral (awaits max_rx first slot steps)

  pub over_in_both : (now : ℕ) (quiet : Bool) → now_peripheral.ends ≡ None → is_some (next_number now_peripheral.track) ≡ true
      → kind_awaited (after (Enters now quiet) now_peripheral).table.progress ≡ None
  over_in_both = over_at_entry now_peripheral (awaits max_rx first slot steps)

  pub another_update : (change : Change) (win_size win_offset interval latency timeout instant now : ℕ) (quiet : Bool)
      → now_peripheral.ends ≡ None → now_peripheral.track.waits ≡ Some change
      → after (Takes (Known (ConnectionUpdateInd win_size win_offset interval latency timeout instant)) now quiet) now_peripheral
      ≡ ended (collision_code (kind_of_indication change.indication) Update) now_peripheral
  another_update change win_size win_offset interval latency timeout instant now quiet lasts is =
      second_update now_peripheral (awaits max_rx first slot steps) change lasts is win_size win_offset interval latency timeout instant now quiet

  pub another_map : (change : Change) (map : ChannelMap) (instant now : ℕ) (quiet : Bool)
      → now_peripheral.ends ≡ None → now_peripheral.track.waits ≡ Some change
      → EndsByCollision (after (Takes (Known (ChannelMapInd map instant)) now quiet) now_peripheral).ends
  another_map change map instant now quiet lasts is =
      second_map now_peripheral (awaits max_rx first slot steps) change lasts is map instant now quiet

  pub another_map_leaves : (change : Change) (map : ChannelMap) (instant now : ℕ) (quiet : Bool)
      → now_peripheral.ends ≡ None → now_peripheral.track.waits ≡ Some change
      → (after (Takes (Known (ChannelMapInd map instant)) now quiet) now_peripheral).track ≡ now_peripheral.track
  another_map_leaves change map instant now quiet lasts is =
      second_map_track now_peripheral (awaits max_rx first slot steps) change lasts is map instant now quiet

  pub not_two_kinds : kind_awaited now_peripheral.table.progress ≡ Some Map → kind_waiting now_peripheral.track.waits ≡ Some Update → ⊥
  not_two_kinds awaits_map waits_update =
      let same : ◌≡◌ {A = Option Kind} (Some Map) (Some Update) = sym awaits_map ∙ same_kind ∙ waits_update in absurd (cc)

  pub not_alone : now_peripheral.track.waits ≡ None → kind_awaited now_peripheral.table.progress ≡ Some Update → ⊥
  not_alone free awaits_update =
      let same : ◌≡◌ {A = Option Kind} (Some Update) None = sym awaits_update ∙ same_kind ∙ ap kind_waiting free in absurd (cc)
