-- A central sends an indication where its event is after the Instant of the last one, and follows it.
use Rattle.std.proofs.Common.{◌≡◌, ℕ, ◌+◌, ◌%◌, ◌^◌, ◌<◌, ◌≤◌, nat_lt, Bool, true, false, not, ◌&&◌, if◌then◌else◌, List, [], ◌∷◌, ◌++◌, remove, Option, Some, None, is_none, refl, sym, ap, subst, ◌∙◌, arith}
use Rattle.std.specs.Prelude.{⊤}
use Rattle.std.specs.List.{All}
use Rattle.std.proofs.lemmas.List.Elements.{All-cons, All-head, All-nil, All-push, All-tail}
use Rattle.ble_base.specs.declared.counters.EventNo.{EventNo}
use Rattle.ble_base.specs.declared.roles.Role.TheVariants.{Central as central_role}
use Rattle.instants.specs.declared.indications.Indication.{Indication}
use Rattle.instants.specs.declared.indications.Indication.TheVariants.{Update as update_indication, Map as map_indication}
use Rattle.instants.specs.declared.track.Change.{Change}
use Rattle.instants.specs.Parameters.{instant_of, win_offset_of}
use Rattle.instants.specs.Track.{event_of, gap_ahead, track_after_take}
use Rattle.procedures.specs.procedure_values.declared.drafts.Draft.{Draft}
use Rattle.procedures.specs.procedure_values.declared.drafts.Draft.TheVariants.{Update, Grant, Map}
use Rattle.procedures.specs.procedure_values.declared.drafts.Rejection.{Rejection as TheRejection}
use Rattle.procedures.specs.procedure_values.declared.drafts.Outgoing.{Outgoing}
use Rattle.procedures.specs.procedure_values.declared.drafts.Outgoing.TheVariants.{Nothing, Rejection, Disconnect, Other}
use Rattle.procedures.specs.procedure_values.Drafts.{indication_of, instant_at, instant_event, waits_for_instant}
use Rattle.procedures.specs.procedure_values.Values.{IsParams}
use Rattle.procedures.specs.procedure_values.Wants.{IsAsk}
use Rattle.procedures.specs.procedure_stages.declared.stages.Central.{Central}
use Rattle.procedures.specs.procedure_stages.declared.stages.Progress.{Progress}
use Rattle.procedures.specs.procedure_stages.declared.stages.Progress.TheVariants.{Central as central, Peripheral as peripheral}
use Rattle.procedures.specs.procedure_stages.Closing.{is_disconnecting}
use Rattle.procedures.specs.procedure_stages.Kinds.{role_of}
use Rattle.procedures.specs.procedure_stages.Queue.{QueueFacts, is_after_instant, is_past_instant, next_by, next_disconnect, next_draft, without_next}
use Rattle.procedures.specs.procedure_stages.Sent.{progress_after_sending}
use Rattle.procedures.specs.Queue.{next_of}
use Rattle.procedures.specs.Sending.{facts_sent}
use Rattle.procedures.specs.Table.{TableFacts}
use Rattle.two_tracks.specs.TwoEnds.{HasSlots, MayIndicate, MayIndicateIf, TwoEnds, change_of}
use Rattle.two_tracks.proofs.Read.{gap_of_instant}
use Rattle.control_model.specs.Control.{Control, following, goes_out, sent, went}
use Rattle.control_model.specs.Waits.{last_event_of, last_instant_of}
use Rattle.control_model.proofs.Calls.{either_way}
use Rattle.control_model.proofs.Indicating.{HasLatency, Indicates, IsDraft, SoFar, UpTo, Waits}

-- ---- what is sent next, of a queue

-- a draft in its range, in an event that its kind may be sent in
abbrev pub MaySendNow : Progress → ℕ → Outgoing → Type 0
MaySendNow progress event (Other draft) = IsDraft draft × (waits_for_instant draft ≡ true → is_past_instant progress event ≡ true)
MaySendNow progress event other = ⊤

pub record Goes (progress : Progress) (event : ℕ) (queue : QueueFacts) (outgoing : Outgoing) : Type 0 where
  pub may : MaySendNow progress event outgoing
  pub drafts : All IsDraft (without_next outgoing queue).drafts

module _ (progress : Progress) (event : ℕ) (queue : QueueFacts) (all : All IsDraft queue.drafts) where
  draft_goes : (drafts : List Draft) (draft : Draft) (rest : List Draft) → drafts ≡ draft ∷ rest → All IsDraft drafts → All IsDraft (remove drafts 0)
  draft_goes drafts draft rest is all = rw is (All-tail IsDraft draft rest (subst (All IsDraft) is all))

  in_time : (waits past : Bool) → (waits && not past) ≡ false → waits ≡ true → past ≡ true
  in_time true true is waits = refl
  in_time true false is waits = absurd (cc)
  in_time false past is waits = absurd (cc)

  by_draft : (draft : Draft) (rest : List Draft) (b : Bool) → queue.drafts ≡ draft ∷ rest → (waits_for_instant draft && not (is_past_instant progress event)) ≡ b
      → Goes progress event queue (if b then Nothing else Other draft)
  by_draft draft rest true is held = record { may = tt; drafts = all }
  by_draft draft rest false is held =
      record {
        may = (All-head IsDraft draft rest (subst (All IsDraft) is all), in_time (waits_for_instant draft) (is_past_instant progress event) held);
        drafts = draft_goes queue.drafts draft rest is all;
      }

  by_drafts : (drafts : List Draft) → queue.drafts ≡ drafts → Goes progress event queue (next_draft progress event drafts)
  by_drafts [] is = record { may = tt; drafts = all }
  by_drafts (draft ∷ rest) is = by_draft draft rest (waits_for_instant draft && not (is_past_instant progress event)) is refl

  by_disconnect : (b : Bool) → Goes progress event queue (if b then next_disconnect queue.disconnect else next_draft progress event queue.drafts)
  by_disconnect true = by queue.disconnect
    where
      by : (disconnect : Option _) → Goes progress event queue (next_disconnect disconnect)
      by None = record { may = tt; drafts = all }
      by (Some code) = record { may = tt; drafts = all }
  by_disconnect false = by_drafts queue.drafts refl

  by_rejections : (rejections : List TheRejection) (other : Outgoing) → Goes progress event queue other → Goes progress event queue (next_by rejections other)
  by_rejections [] other h = h
  by_rejections (rejection ∷ rest) other h = record { may = tt; drafts = all }

pub next_goes : (f : TableFacts) (event : ℕ) (quiet : Bool) → All IsDraft f.queue.drafts → Goes f.progress event f.queue (next_of f event quiet)
next_goes f event quiet all =
    by_rejections f.progress event f.queue all f.queue.rejections _
    (by_disconnect f.progress event f.queue all (is_disconnecting f.closing && quiet))

-- ---- an indication goes out

last_of_more : (changes : List Change) (change : Change) → last_event_of (changes ++ change ∷ []) ≡ Some change.at
last_of_more [] change = refl
last_of_more (one ∷ []) change = refl
last_of_more (one ∷ two ∷ more) change = last_of_more (two ∷ more) change

abbrev Reaches : Option EventNo → Change → Type 0
Reaches last change = UpTo change.at.0 last

abbrev pub Precedes : ℕ → Change → Type 0
Precedes event change = change.at.0 < event

-- all Instants so far are over
before : (last : Option EventNo) (event : ℕ) (changes : List Change) → is_after_instant last event ≡ true
    → All (Reaches last) changes → All (Precedes event) changes
before last event [] past all = All-nil (Precedes event)
before None event (change ∷ more) past all = absurd (All-head (Reaches None) change more all)
before (Some at) event (change ∷ more) past all =
    All-cons (Precedes event) change more
    (earlier change at event (All-head (Reaches (Some at)) change more all) past)
    (before (Some at) event more past (All-tail (Reaches (Some at)) change more all))
  where
    earlier : (change : Change) (at : EventNo) (event : ℕ) → change.at.0 ≤ at.0 → nat_lt at.0 event ≡ true → change.at.0 < event
    earlier change at event up past = grind arith

up_to_new : (event new : ℕ) (changes : List Change) → event ≤ new → All (Precedes event) changes
    → All (Reaches (Some (record { 0 = new }))) changes
up_to_new event new [] less all = All-nil (Reaches (Some (record { 0 = new })))
up_to_new event new (change ∷ more) less all =
    let first : change.at.0 < event = All-head (Precedes event) change more all in
    let reached : change.at.0 ≤ new = omega (arith, first, less) in
    All-cons (Reaches (Some (record { 0 = new }))) change more reached (up_to_new event new more less (All-tail (Precedes event) change more all))

-- a change that waits is one that holds from a later event
free_by : (last : Option EventNo) (event : ℕ) (waits : Option Change) → is_after_instant last event ≡ true → Waits event last waits → is_none waits ≡ true
free_by last event None past coming = refl
free_by None event (Some change) past coming = absurd coming.up_to
free_by (Some at) event (Some change) past coming = absurd (no change at event coming.ahead coming.up_to past)
  where
    no : (change : Change) (at : EventNo) (event : ℕ) → event ≤ change.at.0 → change.at.0 ≤ at.0 → nat_lt at.0 event ≡ true → ⊥
    no change at event ahead up past = grind arith

-- an indication that is first sent in this event, with these values
pub record IsOwn (event skips : ℕ) (indication : Indication) : Type 0 where
  pub instant : instant_of indication ≡ instant_at event skips
  pub latency : HasLatency indication
  pub slots : HasSlots indication
  pub offset : win_offset_of indication ≡ 0

gap_of_own : (event skips : ℕ) (indication : Indication) → skips ≤ 499 → IsOwn event skips indication → gap_ahead event indication ≡ 6 + skips
gap_of_own event skips indication less own =
    gap_of_instant event (6 + skips) indication (own.instant ∙ ap (λ (n : ℕ). n % 2 ^ 16) (omega arith)) (omega (arith, less))

indicates_one : (c : Control) (g : TableFacts) (indication : Indication) → SoFar (last_instant_of c.table.progress) c.sent c.track
    → role_of g.progress ≡ central_role → All IsAsk g.wanted → All IsDraft g.queue.drafts
    → last_instant_of g.progress ≡ Some (record { 0 = instant_event (event_of c.track) c.track.params.latency })
    → IsOwn (event_of c.track) c.track.params.latency indication
    → is_after_instant (last_instant_of c.table.progress) (event_of c.track) ≡ true
    → Indicates (following central_role (Some indication) (record c { table = g }))
indicates_one c g indication so_far role wanted drafts last own past =
    record {
      role = role;
      wanted = wanted;
      drafts = drafts;
      so_far = subst (λ (last : Option EventNo). SoFar last (c.sent ++ change ∷ []) (track_after_take c.track indication)) (sym last)
          (record {
            last_is = ap (λ (n : ℕ). Some (record { 0 = n })) (sym at_is) ∙ sym (last_of_more c.sent change);
            all = All-push (Reaches (Some (record { 0 = new }))) c.sent change (up_to_new event new c.sent (omega arith) over) up_to;
            latency = so_far.latency;
            waits = record { latency = own.latency; ahead = omega arith; up_to = up_to };
          });
    }
  where
    event : ℕ
    event = event_of c.track

    new : ℕ
    new = instant_event (event_of c.track) c.track.params.latency

    change : Change
    change = change_of (event_of c.track) indication

    at_is : event_of c.track + gap_ahead (event_of c.track) indication ≡ event_of c.track + 6 + c.track.params.latency
    at_is = let gap = gap_of_own (event_of c.track) c.track.params.latency indication so_far.latency own in omega (arith, gap)

    up_to : event_of c.track + gap_ahead (event_of c.track) indication ≤ new
    up_to = omega (arith, at_is)

    over : All (Precedes (event_of c.track)) c.sent
    over = before (last_instant_of c.table.progress) (event_of c.track) c.sent past so_far.all

abbrev with_progress : Progress → Control → Control
with_progress p c = record c { table = record c.table { progress = p } }

-- what is known of an indication that goes out
pub record Owns (c : Control) (indication : Indication) : Type 0 where
  pub over : All (λ change. change.at.0 < event_of c.track) c.sent
  pub own : IsOwn (event_of c.track) c.track.params.latency indication
  pub free : is_none c.track.waits ≡ true

abbrev pub OwnsIf : Control → Option Indication → Type 0
OwnsIf c None = ⊤
OwnsIf c (Some indication) = Owns c indication

update_own : (event skips interval latency timeout : ℕ) → IsParams (record { interval = interval; latency = latency; timeout = timeout })
    → IsOwn event skips (update_indication 0 interval latency timeout (instant_at event skips))
update_own event skips interval latency timeout is =
    record { instant = refl; latency = is.latency_to; slots = is.interval_from; offset = refl }

map_own : (event skips : ℕ) (map : _) → IsOwn event skips (map_indication map (instant_at event skips))
map_own event skips map = record { instant = refl; latency = tt; slots = _; offset = refl }

module _ (c : Control) (ct : Central) (slot : ℕ) (i : Indicates (with_progress (central ct) c)) where
  abbrev event : ℕ
  event = event_of c.track

  abbrev skips : ℕ
  skips = c.track.params.latency

  abbrev after_outgoing : Outgoing → Control
  after_outgoing outgoing =
      following central_role (indication_of outgoing event skips)
      (record c { table = facts_sent (record c.table { progress = central ct }) outgoing event skips slot })

  other_goes : (outgoing : Outgoing) → Goes (central ct) event c.table.queue outgoing
      → role_of (progress_after_sending outgoing event skips (central ct)) ≡ central_role
      → last_instant_of (progress_after_sending outgoing event skips (central ct)) ≡ ct.last_instant
      → Indicates (record c { table = facts_sent (record c.table { progress = central ct }) outgoing event skips slot })
  other_goes outgoing goes role last =
      record {
        role = role;
        wanted = i.wanted;
        drafts = goes.drafts;
        so_far = subst (λ (last : Option EventNo). SoFar last c.sent c.track) (sym last) i.so_far;
      }

  pub draft_sent : (draft : Draft) → Goes (central ct) event c.table.queue (Other draft) → Indicates (after_outgoing (Other draft))
  draft_sent (Update params) goes =
      indicates_one (with_progress (central ct) c) _ _ i.so_far refl i.wanted goes.drafts refl
      (update_own event skips params.interval params.latency params.timeout goes.may.0) (goes.may.1 refl)
  draft_sent (Grant params) goes =
      indicates_one (with_progress (central ct) c) _ _ i.so_far refl i.wanted goes.drafts refl
      (update_own event skips params.interval params.latency params.timeout goes.may.0) (goes.may.1 refl)
  draft_sent (Map map) goes =
      indicates_one (with_progress (central ct) c) _ _ i.so_far refl i.wanted goes.drafts refl (map_own event skips map) (goes.may.1 refl)
  draft_sent other goes = other_goes (Other other) goes refl refl

  pub outgoing_sent : (outgoing : Outgoing) → Goes (central ct) event c.table.queue outgoing → Indicates (after_outgoing outgoing)
  outgoing_sent (Other draft) goes = draft_sent draft goes
  outgoing_sent Nothing goes = other_goes Nothing goes refl refl
  outgoing_sent (Rejection rejection) goes = other_goes (Rejection rejection) goes refl refl
  outgoing_sent (Disconnect code) goes = other_goes (Disconnect code) goes refl refl

  owns : (indication : Indication) → IsOwn event skips indication → is_after_instant ct.last_instant event ≡ true → Owns (with_progress (central ct) c) indication
  owns indication own past =
      record {
        over = before ct.last_instant event c.sent past i.so_far.all;
        own = own;
        free = free_by ct.last_instant event c.track.waits past i.so_far.waits;
      }

  draft_owned : (draft : Draft) → Goes (central ct) event c.table.queue (Other draft)
      → OwnsIf (with_progress (central ct) c) (indication_of (Other draft) event skips)
  draft_owned (Update params) goes =
      owns _ (update_own event skips params.interval params.latency params.timeout goes.may.0) (goes.may.1 refl)
  draft_owned (Grant params) goes =
      owns _ (update_own event skips params.interval params.latency params.timeout goes.may.0) (goes.may.1 refl)
  draft_owned (Map map) goes = owns _ (map_own event skips map) (goes.may.1 refl)
  draft_owned other goes = tt

  pub outgoing_owned : (outgoing : Outgoing) → Goes (central ct) event c.table.queue outgoing
      → OwnsIf (with_progress (central ct) c) (indication_of outgoing event skips)
  outgoing_owned (Other draft) goes = draft_owned draft goes
  outgoing_owned Nothing goes = tt
  outgoing_owned (Rejection rejection) goes = tt
  outgoing_owned (Disconnect code) goes = tt

  -- whatever waits for an Instant is sent after that of the last indication
  pub waiting_sent : (draft : Draft) → Goes (central ct) event c.table.queue (Other draft) → waits_for_instant draft ≡ true
      → All (λ change. change.at.0 < event_of c.track) c.sent
  waiting_sent draft goes waits = before ct.last_instant event c.sent (goes.may.1 waits) i.so_far.all

abbrev after_going : ℕ → Bool → Control → Control
after_going slot quiet c = following (role_of c.table.progress) (went slot quiet c).1 (record c { table = (went slot quiet c).0 })

sends_by : (c : Control) (p : Progress) (slot : ℕ) (quiet : Bool) → Indicates (with_progress p c) → Indicates (after_going slot quiet (with_progress p c))
sends_by c (central ct) slot quiet i =
    outgoing_sent c ct slot i _ (next_goes (with_progress (central ct) c).table (event_of c.track) quiet i.drafts)
sends_by c (peripheral p) slot quiet i = absurd (let role = i.role in cc)

pub sends_one : (c : Control) (slot : ℕ) (quiet : Bool) → Indicates c → Indicates (sent slot quiet c)
sends_one c slot quiet i = either_way Indicates (goes_out quiet c) (after_going slot quiet c) c (sends_by c c.table.progress slot quiet i) i

owned_by : (c : Control) (p : Progress) (slot : ℕ) (quiet : Bool) → Indicates (with_progress p c) → OwnsIf (with_progress p c) (went slot quiet (with_progress p c)).1
owned_by c (central ct) slot quiet i =
    outgoing_owned c ct slot i _ (next_goes (with_progress (central ct) c).table (event_of c.track) quiet i.drafts)
owned_by c (peripheral p) slot quiet i = absurd (let role = i.role in cc)

pub owned : (c : Control) (slot : ℕ) (quiet : Bool) → Indicates c → OwnsIf c (went slot quiet c).1
owned c slot quiet i = owned_by c c.table.progress slot quiet i

-- ---- as two ends say

may_indicate : (c : Control) (indication : Indication) → SoFar (last_instant_of c.table.progress) c.sent c.track → Owns c indication
    → (s : TwoEnds) → s.central ≡ c.track → s.sent ≡ c.sent → MayIndicate s indication
may_indicate c indication so_far owns s is_central is_sent =
    let gap = gap_of_own (event_of c.track) c.track.params.latency indication so_far.latency owns.own in
    let latency = so_far.latency in
    let ahead : 1 ≤ gap_ahead (event_of c.track) indication = omega (arith, gap) in
    let near : gap_ahead (event_of c.track) indication < 32767 = omega (arith, gap, latency) in
    record {
      over = rw (is_central, is_sent) owns.over;
      ahead = rw is_central ahead;
      near = rw is_central near;
      interval = owns.own.slots;
    }

may_if : (c : Control) (indication : Option Indication) → SoFar (last_instant_of c.table.progress) c.sent c.track → OwnsIf c indication
    → (s : TwoEnds) → s.central ≡ c.track → s.sent ≡ c.sent → MayIndicateIf s indication
may_if c None so_far owns s is_central is_sent = tt
may_if c (Some indication) so_far owns s is_central is_sent = may_indicate c indication so_far owns s is_central is_sent

pub may_of : (c : Control) (slot : ℕ) (quiet : Bool) → Indicates c → (s : TwoEnds) → s.central ≡ c.track → s.sent ≡ c.sent → MayIndicateIf s (went slot quiet c).1
may_of c slot quiet i = may_if c (went slot quiet c).1 i.so_far (owned c slot quiet i)

pub own_of : (c : Control) (some : Option Indication) (indication : Indication) → some ≡ Some indication → OwnsIf c some → Owns c indication
own_of c some indication is owns = subst (OwnsIf c) is owns

pub offset_of : (c : Control) (slot : ℕ) (quiet : Bool) (indication : Indication) → Indicates c → (went slot quiet c).1 ≡ Some indication → win_offset_of indication ≡ 0
offset_of c slot quiet indication i is = (own_of c (went slot quiet c).1 indication is (owned c slot quiet i)).own.offset

pub free_of : (c : Control) (slot : ℕ) (quiet : Bool) (indication : Indication) → Indicates c → (went slot quiet c).1 ≡ Some indication → is_none c.track.waits ≡ true
free_of c slot quiet indication i is = (own_of c (went slot quiet c).1 indication is (owned c slot quiet i)).free

waiting_by : (c : Control) (p : Progress) (quiet : Bool) (draft : Draft) → Indicates (with_progress p c)
    → next_of (with_progress p c).table (event_of c.track) quiet ≡ Other draft → waits_for_instant draft ≡ true → All (λ change. change.at.0 < event_of c.track) c.sent
waiting_by c (central ct) quiet draft i is waits =
    waiting_sent c ct 0 i draft
    (subst (Goes (central ct) (event_of c.track) c.table.queue) is (next_goes (with_progress (central ct) c).table (event_of c.track) quiet i.drafts)) waits
waiting_by c (peripheral p) quiet draft i is waits = absurd (let role = i.role in cc)

pub waiting_of : (c : Control) (quiet : Bool) (draft : Draft) → Indicates c
    → next_of c.table (event_of c.track) quiet ≡ Other draft → waits_for_instant draft ≡ true → All (λ change. change.at.0 < event_of c.track) c.sent
waiting_of c quiet draft i is waits = waiting_by c c.table.progress quiet draft i is waits
