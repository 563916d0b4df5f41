-- What an end holds after steps in which no PDU of the encryption is queued.
use Rattle.std.proofs.Common.{◌≡◌, ℕ, ◌≤◌, ◌<◌, Bool, true, false, ◌&&◌, List, [], ◌∷◌, ◌++◌, Option, Some, None, is_some, refl, sym, ap, subst, ◌∙◌}
use Rattle.std.proofs.lemmas.Bool.{and_parts}
use Rattle.std.specs.Prelude.{IfSome}
use Rattle.ble_base.specs.ErrorCodes.{instant_passed}
use Rattle.ble_base.specs.declared.error_codes.ErrCode.{ErrCode}
use Rattle.ble_base.specs.declared.roles.Role.{Role}
use Rattle.ble_base.specs.declared.roles.Role.TheVariants.{Central, Peripheral}
use Rattle.instants.specs.declared.indications.Indication.{Indication}
use Rattle.instants.specs.declared.indications.Params.{Params}
use Rattle.instants.specs.Track.{event_of, next_number, track_after_take}
use Rattle.control_model.specs.procedures.procedure_values.Drafts.{is_out}
use Rattle.control_model.specs.procedures.procedure_stages.Closing.{is_open}
use Rattle.control_model.specs.procedures.procedure_stages.InProgress.{is_host_asked}
use Rattle.control_model.specs.procedures.procedure_stages.Kinds.{role_of}
use Rattle.control_model.specs.procedures.procedure_stages.Queue.{waiting_in}
use Rattle.control_model.specs.procedures.Calls.{asks, begins_one, disconnects, enters, host_answers, is_acked, sends, takes}
use Rattle.control_model.specs.procedures.Going.{is_answer}
use Rattle.control_model.specs.procedures.Table.{TableFacts}
use Rattle.control_model.specs.procedures.Taking.{took_step}
use Rattle.control_model.specs.Control.{Control, Step, Enters, Asks, Answers, Disconnects, Sends, SeesAcknowledged, Takes, Owes, after, after_all, ended, first_control, following, goes_out, indicated_by, is_to_come, moved, table_if, taken, went}
use Rattle.control_model.specs.Waits.{AreInRange, IsInRange}
use Rattle.control_model.proofs.Calls.{any_step, either_way}
use Rattle.control_end.specs.Answers.{indication_next}
use Rattle.control_end.specs.Following.{CanFollow}
use Rattle.control_end.specs.Held.{Held, held_after, held_of}
use Rattle.control_end.specs.Reached.{IsReached, OwesNothing, is_owes}
use Rattle.control_end.proofs.Depending.{step_held}
use Rattle.control_end.proofs.Room.{HasRoom, few_wait, first_room, room_after}
use Rattle.control_end.proofs.Sendable.{can_follow}

-- ---- each step leaves room

module _ (role : Role) where
  abbrev Room : Control → Type 0
  Room c = HasRoom role c.table

  room_if : (b : Bool) (g : TableFacts) (c : Control) → Room c → (b ≡ true → HasRoom role g) → Room (table_if b g c)
  room_if true g c room next = next refl
  room_if false g c room next = room

  room_following : (r : Role) (indication : Option Indication) (c : Control) → Room c → Room (following r indication c)
  room_following Central None c room = room
  room_following Central (Some indication) c room = room
  room_following Peripheral indication c room = room

  room_taken : (g : TableFacts) (code : Option ErrCode) (indication : Option Indication) (c : Control) → Room c → HasRoom role g
      → Room (taken g code indication c)
  room_taken g (Some code) indication c room next = room
  room_taken g None None c room next = next
  room_taken g None (Some indication) c room next =
      either_way Room (is_to_come c.track indication) (record c { table = g; track = track_after_take c.track indication })
      (ended (record { 0 = instant_passed }) c) next room

  room_moved : (step : Step) (c : Control) → is_owes step ≡ false → Room c → Room (moved step c)
  room_moved (Enters slot quiet) c none room =
      let now = room_after role c.table room (enters (is_some (next_number c.track))) tt in
      room_after role _ now (begins_one slot quiet) tt
  room_moved (Asks ask) c none room = room_after role c.table room (asks ask) tt
  room_moved (Answers answer) c none room =
      room_if (is_host_asked c.table.progress && is_answer answer) _ c room
      (λ may. room_after role c.table room (host_answers answer) (and_parts (is_host_asked c.table.progress) (is_answer answer) may).0)
  room_moved (Disconnects reason) c none room =
      room_if (is_open c.table.closing) _ c room (λ may. room_after role c.table room (disconnects reason) tt)
  room_moved (Sends slot quiet) c none room =
      let next = room_after role c.table room (sends (event_of c.track) c.track.params.latency quiet slot) tt in
      either_way Room (goes_out quiet c) _ c
      (room_following (role_of c.table.progress) (went slot quiet c).1 (record c { table = (went slot quiet c).0 }) next) room
  room_moved SeesAcknowledged c none room =
      room_if (is_out c.table.out) _ c room (λ may. room_after role c.table room is_acked tt)
  room_moved (Takes read slot quiet) c none room =
      let step = took_step c.table read slot quiet in
      room_taken step.0 step.1.ends (indicated_by step.1.effect) c room (room_after role c.table room (takes read slot quiet) tt)
  room_moved (Owes ctrl) c none room = absurd (cc)

  room_step : (step : Step) (c : Control) → is_owes step ≡ false → Room c → Room (after step c)
  room_step step c none room = any_step Room step c (room_moved step c none room) room

  room_all : (steps : List Step) (c : Control) → OwesNothing steps → Room c → Room (after_all steps c)
  room_all [] c none room = room
  room_all (step ∷ steps) c none room = room_all steps (after step c) none.1 (room_step step c none.0 room)

-- ---- what is reached

all_joined : (xs ys : List Step) (c : Control) → after_all (xs ++ ys) c ≡ after_all ys (after_all xs c)
all_joined [] ys c = refl
all_joined (x ∷ xs) ys c = all_joined xs ys (after x c)

in_range_joined : (steps : List Step) (step : Step) → AreInRange steps → IsInRange step → AreInRange (steps ++ step ∷ [])
in_range_joined [] step are is = (is, tt)
in_range_joined (first ∷ steps) step are is = (are.0, in_range_joined steps step are.1 is)

owes_joined : (steps : List Step) (step : Step) → OwesNothing steps → is_owes step ≡ false → OwesNothing (steps ++ step ∷ [])
owes_joined [] step none is = (is, tt)
owes_joined (first ∷ steps) step none is = (none.0, owes_joined steps step none.1 is)

pub begins_reached : (role : Role) (max_rx : ℕ) (first : Params) (slot : ℕ) → first.latency ≤ 499
    → IsReached (held_of (first_control role max_rx first slot))
begins_reached role max_rx first slot latency =
    record {
      role = role;
      max_rx = max_rx;
      first = first;
      slot = slot;
      steps = [];
      latency = latency;
      in_range = tt;
      none_owed = tt;
      is = refl;
    }

pub goes_on_reached : (h : Held) (step : Step) → IsReached h → IsInRange step → is_owes step ≡ false → IsReached (held_after step h)
goes_on_reached h step r in_range none =
    let start = first_control r.role r.max_rx r.first r.slot in
    record {
      role = r.role;
      max_rx = r.max_rx;
      first = r.first;
      slot = r.slot;
      steps = r.steps ++ step ∷ [];
      latency = r.latency;
      in_range = in_range_joined r.steps step r.in_range in_range;
      none_owed = owes_joined r.steps step r.none_owed none;
      is =
          ap (λ (g : Held). held_after step g) r.is ∙ sym (step_held step (after_all r.steps start))
          ∙ sym (ap (λ (c : Control). held_of c) (all_joined r.steps (step ∷ []) start));
    }

pub reached_room : (h : Held) → IsReached h → waiting_in h.table.queue < 24
reached_room h r =
    subst (λ (g : Held). waiting_in g.table.queue < 24) (sym r.is)
    (few_wait r.role _ (room_all r.role r.steps (first_control r.role r.max_rx r.first r.slot) r.none_owed (first_room r.role r.max_rx)))

pub reached_follows : (h : Held) → IsReached h → (now : ℕ) (quiet : Bool) → IfSome (indication_next now quiet h) (CanFollow h.track)
reached_follows h r now quiet =
    subst (λ (g : Held). IfSome (indication_next now quiet g) (CanFollow g.track)) (sym r.is)
    (can_follow r.role r.max_rx r.first r.slot r.steps now quiet r.latency r.in_range)
