-- What a central indicates, and the indications that its track took.
use Rattle.std.proofs.Common.{◌≡◌, ℕ, suc, ◌+◌, ◌-◌, ◌≤◌, Bool, true, false, if◌then◌else◌, List, [], ◌∷◌, ◌++◌, take, drop, remove, Option, Some, None, refl, sym, subst, ◌∙◌, arith}
use Rattle.std.specs.Prelude.{⊤}
use Rattle.std.specs.List.{All}
use Rattle.std.proofs.lemmas.List.Elements.{All-append, All-drop, All-get_or, All-push, All-set, All-take}
use Rattle.std.proofs.lemmas.Option.{get_or_from_slice_get, slice_get_within}
use Rattle.ble_base.specs.declared.counters.EventNo.{EventNo}
use Rattle.ble_base.specs.declared.error_codes.ErrCode.{ErrCode}
use Rattle.ble_base.specs.declared.roles.Role.{Role}
use Rattle.ble_base.specs.declared.roles.Role.TheVariants.{Central as central_role, Peripheral as peripheral_role}
use Rattle.instants.specs.declared.indications.Params.{Params}
use Rattle.instants.specs.declared.indications.Indication.{Indication}
use Rattle.instants.specs.declared.indications.Indication.TheVariants.{Update as update_indication, Map as map_indication}
use Rattle.instants.specs.declared.track.Change.{Change}
use Rattle.instants.specs.Parameters.{params_after}
use Rattle.instants.specs.Track.{TrackFacts, event_of, is_due, track_changed, track_unchanged}
use Rattle.procedures.specs.procedure_values.declared.asks.Ask.{Ask}
use Rattle.procedures.specs.procedure_values.declared.asks.Ask.TheVariants.{Update as ask_update, Features as ask_features, Version as ask_version, Encrypt as ask_encrypt}
use Rattle.procedures.specs.procedure_values.declared.drafts.Draft.{Draft}
use Rattle.procedures.specs.procedure_values.declared.drafts.Draft.TheVariants.{Update, Grant}
use Rattle.procedures.specs.procedure_values.declared.drafts.Rejection.{Rejection as TheRejection}
use Rattle.procedures.specs.procedure_values.Drafts.{waits_for_instant}
use Rattle.procedures.specs.procedure_values.Values.{IsParams}
use Rattle.procedures.specs.procedure_values.Wants.{IsAsk, wanted_at, without_place}
use Rattle.procedures.specs.procedure_stages.declared.closing.Closing.{Closing}
use Rattle.procedures.specs.procedure_stages.declared.reply.Reply.{Reply}
use Rattle.procedures.specs.procedure_stages.declared.reply.Reply.TheVariants.{Nothing as no_reply, Reject, Answer}
use Rattle.procedures.specs.procedure_stages.Begun.{draft_begun, feature_draft}
use Rattle.procedures.specs.procedure_stages.Closing.{is_open}
use Rattle.procedures.specs.procedure_stages.Held.{progress_held}
use Rattle.procedures.specs.procedure_stages.Kinds.{role_of}
use Rattle.procedures.specs.procedure_stages.Queue.{QueueFacts, with_reply}
use Rattle.procedures.specs.Beginning.{ask_at, begin_at, begin_step, first_draft, place_to_begin, with_first_draft}
use Rattle.procedures.specs.Table.{TableFacts}
use Rattle.control_model.specs.Control.{Control, ended, entered, table_if}
use Rattle.control_model.specs.Waits.{last_event_of, last_instant_of}
use Rattle.control_model.proofs.Outcomes.{IsAnswer, Same}
use Rattle.control_model.proofs.Calls.{begun_same, held_over}

-- ---- what is known of the indications that were sent

-- an event is not after the Instant of the last indication
abbrev pub UpTo : ℕ → Option EventNo → Type 0
UpTo event None = ⊥
UpTo event (Some last) = event ≤ last.0

abbrev pub HasLatency : Indication → Type 0
HasLatency (update_indication win_offset interval latency timeout instant) = latency ≤ 499
HasLatency (map_indication map instant) = ⊤

pub record IsComing (event : ℕ) (last : Option EventNo) (change : Change) : Type 0 where
  pub latency : HasLatency change.indication
  pub ahead : event ≤ change.at.0
  pub up_to : UpTo change.at.0 last

abbrev pub Waits : ℕ → Option EventNo → Option Change → Type 0
Waits event last None = ⊤
Waits event last (Some change) = IsComing event last change

pub record SoFar (last : Option EventNo) (sent : List Change) (t : TrackFacts) : Type 0 where
  pub last_is : last ≡ last_event_of sent
  pub all : All (λ change. UpTo change.at.0 last) sent
  pub latency : t.params.latency ≤ 499
  pub waits : Waits (event_of t) last t.waits

-- the values of a draft are in their ranges
abbrev pub IsDraft : Draft → Type 0
IsDraft (Update params) = IsParams params
IsDraft (Grant params) = IsParams params
IsDraft other = ⊤

pub record Indicates (c : Control) : Type 0 where
  pub role : role_of c.table.progress ≡ central_role
  pub wanted : All IsAsk c.table.wanted
  pub drafts : All IsDraft c.table.queue.drafts
  pub so_far : SoFar (last_instant_of c.table.progress) c.sent c.track

-- ---- a call that sends nothing

pub kept : (c : Control) (g : TableFacts) → Indicates c → Same c.table.progress g.progress → All IsAsk g.wanted → All IsDraft g.queue.drafts
    → Indicates (record c { table = g })
kept c g i s wanted drafts =
    record {
      role = s.role ∙ i.role;
      wanted = wanted;
      drafts = drafts;
      so_far = subst (λ (last : Option EventNo). SoFar last c.sent c.track) (sym s.last) i.so_far;
    }

pub kept_if : (b : Bool) (c : Control) (g : TableFacts) → Indicates c → (b ≡ true → Indicates (record c { table = g })) → Indicates (table_if b g c)
kept_if true c g i next = next refl
kept_if false c g i next = i

pub over : (code : ErrCode) (c : Control) → Indicates c → Indicates (ended code c)
over code c i = record { role = i.role; wanted = i.wanted; drafts = i.drafts; so_far = i.so_far }

-- ---- the queue and what is wanted

pub drafts_with : (b : Bool) (queue : QueueFacts) (draft : Draft) → All IsDraft queue.drafts → IsDraft draft
    → All IsDraft (if b then record queue { drafts = queue.drafts ++ draft ∷ [] } else queue).drafts
drafts_with true queue draft all is = All-push IsDraft queue.drafts draft all is
drafts_with false queue draft all is = all

pub drafts_rejecting : (b : Bool) (queue : QueueFacts) (rejection : TheRejection) → All IsDraft queue.drafts
    → All IsDraft (if b then record queue { rejections = queue.rejections ++ rejection ∷ [] } else queue).drafts
drafts_rejecting true queue rejection all = all
drafts_rejecting false queue rejection all = all

pub drafts_ending : (b : Bool) (queue : QueueFacts) (code : ErrCode) → All IsDraft queue.drafts
    → All IsDraft (if b then record queue { disconnect = Some code } else queue).drafts
drafts_ending true queue code all = all
drafts_ending false queue code all = all

pub drafts_replying : (closing : Closing) (reply : Reply) (queue : QueueFacts) → All IsDraft queue.drafts → IsAnswer reply
    → All IsDraft (with_reply closing reply queue).drafts
drafts_replying closing no_reply queue all is = all
drafts_replying closing (Reject rejection) queue all is = drafts_rejecting (is_open closing) queue rejection all
drafts_replying closing (Answer draft) queue all is = drafts_with (is_open closing) queue draft all (answer draft is)
  where
    answer : (draft : Draft) → waits_for_instant draft ≡ false → IsDraft draft
    answer (Update params) is = absurd (cc)
    answer (Grant params) is = absurd (cc)
    answer other is = tt

removed : (asks : List Ask) (place : ℕ) → All IsAsk asks → All IsAsk (remove asks place)
removed asks place all =
    All-append IsAsk (take place asks) (drop (suc place) asks) (All-take IsAsk place asks all) (All-drop IsAsk (suc place) asks all)

pub wanted_without : (place : Option ℕ) (asks : List Ask) → All IsAsk asks → All IsAsk (without_place place asks)
wanted_without None asks all = all
wanted_without (Some place) asks all = removed asks place all

pub wanted_more : (place : Option ℕ) (ask : Ask) (asks : List Ask) → All IsAsk asks → IsAsk ask → All IsAsk (wanted_at place ask asks)
wanted_more None ask asks all is = All-push IsAsk asks ask all is
wanted_more (Some place) ask asks all is = All-set IsAsk asks place ask is all

-- ---- a procedure begins

first_in_range : (f : TableFacts) (queue : QueueFacts) (ask : Ask) → All IsDraft queue.drafts → IsAsk ask
    → All IsDraft (with_first_draft f.closing (first_draft f ask) queue).drafts
first_in_range f queue (ask_update interval latency timeout) all is = drafts_with (is_open f.closing) queue _ all is
first_in_range f queue ask_version all is = by f.version_used
  where
    by : (used : Bool) → All IsDraft (with_first_draft f.closing (draft_begun (role_of f.progress) used f.lengths ask_version) queue).drafts
    by true = all
    by false = drafts_with (is_open f.closing) queue _ all tt
first_in_range f queue ask_features all is = drafts_with (is_open f.closing) queue _ all (by (role_of f.progress))
  where
    by : (role : Role) → IsDraft (feature_draft role)
    by central_role = tt
    by peripheral_role = tt
first_in_range f queue (ask_encrypt rand ediv ltk skd_m iv_m) all is = all
first_in_range f queue other all is = drafts_with (is_open f.closing) queue _ all tt

pub record Stock (f : TableFacts) : Type 0 where
  pub wanted : All IsAsk f.wanted
  pub drafts : All IsDraft f.queue.drafts

begun_at : (f : TableFacts) (slot : ℕ) (place : Option ℕ) (ask : Option Ask) → ask_at place f.wanted ≡ ask → Stock f → Stock (begin_at f slot place ask).0
begun_at f slot None ask is stock = stock
begun_at f slot (Some place) None is stock = stock
begun_at f slot (Some place) (Some ask) is stock =
    record {
      wanted = removed f.wanted place stock.wanted;
      drafts = first_in_range f f.queue ask stock.drafts in_range;
    }
  where
    in_range : IsAsk ask
    in_range =
        subst IsAsk (get_or_from_slice_get f.wanted place ask ask is)
        (All-get_or IsAsk f.wanted place ask (slice_get_within f.wanted place ask is) stock.wanted)

begins : (c : Control) (g : TableFacts) (t : TrackFacts) (slot : ℕ) (quiet : Bool) → role_of g.progress ≡ central_role → Stock g
    → SoFar (last_instant_of g.progress) c.sent t → Indicates (record c { table = (begin_step g slot quiet).0; track = t })
begins c g t slot quiet role stock so_far =
    let s = begun_same g slot quiet in
    let next = begun_at g slot (place_to_begin g quiet) (ask_at (place_to_begin g quiet) g.wanted) refl stock in
    record {
      role = s.role ∙ role;
      wanted = next.wanted;
      drafts = next.drafts;
      so_far = subst (λ (last : Option EventNo). SoFar last c.sent t) (sym s.last) so_far;
    }

-- ---- an event is entered

abbrev with_waits : Option Change → Control → Control
with_waits waits c = record c { track = record c.track { waits = waits } }

latency_after : (params : Params) (indication : Indication) → params.latency ≤ 499 → HasLatency indication → (params_after params indication).latency ≤ 499
latency_after params (update_indication win_offset interval latency timeout instant) now new = new
latency_after params (map_indication map instant) now new = now

not_due : (change : Change) (next : ℕ) → is_due change next ≡ false → (next + 1) - 1 ≤ change.at.0
not_due change next is = grind arith

pub enters_by : (c : Control) (slot : ℕ) (quiet : Bool) (waits : Option Change) → Indicates (with_waits waits c) → Indicates (entered slot quiet (with_waits waits c))
enters_by c slot quiet None i =
    begins c c.table (track_unchanged (with_waits None c).track) slot quiet i.role (record { wanted = i.wanted; drafts = i.drafts })
    (record { last_is = i.so_far.last_is; all = i.so_far.all; latency = i.so_far.latency; waits = tt })
enters_by c slot quiet (Some change) i = by (is_due change c.track.entered) refl
  where
    by : (due : Bool) → is_due change c.track.entered ≡ due → Indicates (entered slot quiet (with_waits (Some change) c))
    by true is =
        let o = held_over c.table.progress in
        let so_far : SoFar (last_instant_of c.table.progress) c.sent (track_changed change (with_waits (Some change) c).track) =
        record {
          last_is = i.so_far.last_is;
          all = i.so_far.all;
          latency = latency_after c.track.params change.indication i.so_far.latency i.so_far.waits.latency;
          waits = tt;
        } in
        rw is (begins c (record c.table { progress = progress_held c.table.progress }) (track_changed change (with_waits (Some change) c).track) slot quiet
        (o.role ∙ i.role) (record { wanted = i.wanted; drafts = i.drafts })
        (subst (λ (last : Option EventNo). SoFar last c.sent (track_changed change (with_waits (Some change) c).track)) (sym o.last) so_far))
    by false is =
        rw is (begins c c.table (track_unchanged (with_waits (Some change) c).track) slot quiet i.role (record { wanted = i.wanted; drafts = i.drafts })
        (record {
          last_is = i.so_far.last_is;
          all = i.so_far.all;
          latency = i.so_far.latency;
          waits = record { latency = i.so_far.waits.latency; ahead = not_due change c.track.entered is; up_to = i.so_far.waits.up_to };
        }))
