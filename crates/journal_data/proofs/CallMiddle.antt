-- In the middle of the notes of a call in a turn, the lines of its station are between those before the call and those after it.
use Rattle.std.proofs.Common.{◌≡◌, ℕ, Bool, false, List, [], ◌∷◌, ◌++◌, ◌⊎◌, inl, inr, map, cond, refl, sym, ap, subst, ◌∙◌, append-nil, append_assoc}
use Rattle.std.proofs.lemmas.Bool.{or_parts}
use Rattle.ble_base.specs.declared.roles.Side.{Side}
use Rattle.ble_base.specs.declared.notes.Note.{Note}
use Rattle.ble_base.specs.declared.notes.Note.TheVariants.{Up, Took}
use Rattle.host_view.specs.Noted.{acl_handle, is_acl_data}
use Rattle.journal_acks.specs.controller_model.Notes.{is_event}
use Rattle.journal_acks.specs.controller_model.Side.{notes_after}
use Rattle.journal_acks.specs.controller_model.Step.{Step}
use Rattle.journal_acks.proofs.controller_model.Always.{IsInTurn}
use Rattle.journal_acks.specs.run_model.History.{Event, Called, Noted}
use Rattle.journal_acks.specs.run_model.Journal.{entry_of}
use Rattle.journal_acks.specs.run_model.Run.{Given, setup_at, facts_at, after_call}
use Rattle.journal_acks.proofs.run_model.Calls.{with_notes}
use Rattle.journal_acks.proofs.link_calls.CallNotes.{is_taking}
use Rattle.journal_data.specs.HostLines.{Submitted, link_under}
use Rattle.journal_data.specs.Lines.{Lines, Received, data_received, line_after, pdus_on, received_on, submitted_on}
use Rattle.journal_data.proofs.Arriving.{Grows}
use Rattle.journal_data.proofs.EachLine.{call_leaves, lines_at}
use Rattle.journal_data.proofs.Fronts.{front_all}
use Rattle.journal_data.proofs.Middle.{IsBetween}
use Rattle.journal_data.proofs.Openness.{AreNot, is_report, turn_kinds}
use Rattle.journal_data.proofs.LinesGrow.{GrowsOn, IsLonger, lines_grow}
use Rattle.journal_data.proofs.Submitting.{call_submits}

-- ---- a front of the notes of a call

pub data IsFront (station : ℕ) (step : Step) (notes : List Note) (mid : List Event) : Type 0 where
  nothing : mid ≡ [] → IsFront station step notes mid
  noted : (front back : List Note) → mid ≡ Called station step ∷ map (Noted station) front → notes ≡ front ++ back → IsFront station step notes mid

record HasFront (station : ℕ) (notes : List Note) (mid : List Event) : Type 0 where
  front : List Note
  back : List Note
  mid_is : mid ≡ map (Noted station) front
  notes_are : notes ≡ front ++ back

-- a front of these events is that of a front of the notes
front_noted : (station : ℕ) (notes : List Note) (mid rest : List Event) → map (Noted station) notes ≡ mid ++ rest → HasFront station notes mid
front_noted station notes [] rest is = record { front = []; back = notes; mid_is = refl; notes_are = refl }
front_noted station [] (event ∷ mid) rest is = absurd cc
front_noted station (note ∷ notes) (event ∷ mid) rest is =
    let first : Noted station note ≡ event = cc in
    let later : map (Noted station) notes ≡ mid ++ rest = cc in
    let parts = front_noted station notes mid rest later in
    record {
      front = note ∷ parts.front;
      back = parts.back;
      mid_is = λ i. sym first i ∷ parts.mid_is i;
      notes_are = ap (λ (all : List Note). note ∷ all) parts.notes_are;
    }

pub front_called : (station : ℕ) (step : Step) (notes : List Note) (mid rest : List Event)
    → Called station step ∷ map (Noted station) notes ≡ mid ++ rest → IsFront station step notes mid
front_called station step notes [] rest is = nothing refl
front_called station step notes (event ∷ mid) rest is =
    let first : Called station step ≡ event = cc in
    let later : map (Noted station) notes ≡ mid ++ rest = cc in
    let parts = front_noted station notes mid rest later in
    noted parts.front parts.back (λ i. sym first i ∷ parts.mid_is i) parts.notes_are

front_not : (kind : Note → Bool) (front back : List Note) → AreNot kind (front ++ back) → AreNot kind front
front_not kind front back none = front_all (λ note. kind note ≡ false) front back none

-- ---- the PDUs that are taken, and the data that is received

-- a note that takes none leaves the PDUs that are taken
taking_leaves : (lines : Lines) (side : Side) (link_of : ℕ → ℕ) (last : ℕ) (note : Note) → is_taking note ≡ false
    → (line_after 8 lines (entry_of side link_of last note)).taken ≡ lines.taken
taking_leaves lines side link_of last (Took handle number llid body) none = absurd cc
taking_leaves lines side link_of last note none = refl

-- a note that reports nothing leaves the data that is received
report_leaves : (lines : Lines) (side : Side) (link_of : ℕ → ℕ) (last : ℕ) (note : Note) → is_report note ≡ false
    → (line_after 8 lines (entry_of side link_of last note)).received ≡ lines.received
report_leaves lines side link_of last (Up packet) none =
    let octets = packet.items in
    ap (λ (acl : Bool). lines.received ++ cond acl (data_received (link_under (acl_handle octets) lines.links) octets) [])
    (or_parts (is_acl_data octets) (is_event 0x13 octets) none).0
    ∙ append-nil lines.received
report_leaves lines side link_of last note none = refl

-- ---- the middle of a call

-- it takes no PDU after the middle, or nothing is received before it
abbrev IsOneKind : ℕ → List Event → List Event → List Event → Type 0
IsOneKind station history mid after =
    ((lines_at station after).taken ≡ (lines_at station (history ++ mid)).taken)
    ⊎ ((lines_at station (history ++ mid)).received ≡ (lines_at station history).received)

front_kind : (station : ℕ) (step : Step) (history : List Event) (front back : List Note)
    → AreNot is_taking (front ++ back) ⊎ AreNot is_report (front ++ back)
    → IsOneKind station history (Called station step ∷ map (Noted station) front) (with_notes station step (front ++ back) history)
front_kind station step history front back (inl takes) =
    inl (call_leaves (λ note. is_taking note ≡ false) (λ lines. lines.taken) taking_leaves station step (front ++ back) history takes
    ∙ sym (call_leaves (λ note. is_taking note ≡ false) (λ lines. lines.taken) taking_leaves station step front history (front_not is_taking front back takes)))
front_kind station step history front back (inr reports) =
    inr (call_leaves (λ note. is_report note ≡ false) (λ lines. lines.received) report_leaves station step front history (front_not is_report front back reports))

middle_kind : (station : ℕ) (step : Step) (notes : List Note) (history mid : List Event) → IsFront station step notes mid
    → AreNot is_taking notes ⊎ AreNot is_report notes → IsOneKind station history mid (with_notes station step notes history)
middle_kind station step notes history mid (nothing none) kinds =
    inr (ap (λ (all : List Event). (lines_at station (history ++ all)).received) none
    ∙ ap (λ (all : List Event). (lines_at station all).received) (append-nil history))
middle_kind station step notes history mid (noted front back mid_is notes_are) kinds =
    subst (λ (all : List Event). IsOneKind station history all (with_notes station step notes history)) (sym mid_is)
    (subst (λ (all : List Note). IsOneKind station history (Called station step ∷ map (Noted station) front) (with_notes station step all history)) (sym notes_are)
    (front_kind station step history front back
    (subst (λ (all : List Note). AreNot is_taking all ⊎ AreNot is_report all) notes_are kinds)))

middle_submits : (station : ℕ) (step : Step) (notes : List Note) (history mid : List Event) → IsFront station step notes mid
    → (lines_at station (history ++ mid)).submitted ≡ (lines_at station history).submitted
middle_submits station step notes history mid (nothing none) =
    ap (λ (all : List Event). (lines_at station (history ++ all)).submitted) none
    ∙ ap (λ (all : List Event). (lines_at station all).submitted) (append-nil history)
middle_submits station step notes history mid (noted front back mid_is notes_are) =
    ap (λ (all : List Event). (lines_at station (history ++ all)).submitted) mid_is ∙ call_submits station step front history

kind_on : (link station : ℕ) (history mid after : List Event) → IsOneKind station history mid after
    → (pdus_on link (lines_at station after).taken ≡ pdus_on link (lines_at station (history ++ mid)).taken)
    ⊎ (received_on link (lines_at station (history ++ mid)) ≡ received_on link (lines_at station history))
kind_on link station history mid after (inl taken) = inl (ap (pdus_on link) taken)
kind_on link station history mid after (inr received) =
    inr (ap (λ (all : List Received). received_on link (record (lines_at station history) { received = all })) received)

grown : {X : Type 0} {before after : List X} → IsLonger X before after → Grows before after
grown longer = record { more = longer.more; is = longer.is }

between_by : (link station : ℕ) (history mid rest after : List Event) → (history ++ mid) ++ rest ≡ after
    → (lines_at station (history ++ mid)).submitted ≡ (lines_at station history).submitted
    → (lines_at station after).submitted ≡ (lines_at station history).submitted → IsOneKind station history mid after
    → IsBetween link (lines_at station history) (lines_at station (history ++ mid)) (lines_at station after)
between_by link station history mid rest after is middle whole kind =
    let first = lines_grow station link history mid in
    let next = subst (λ (all : List Event). GrowsOn link (lines_at station (history ++ mid)) (lines_at station all)) is
    (lines_grow station link (history ++ mid) rest) in
    let submits = λ (all : List Submitted). submitted_on link (record (lines_at station history) { submitted = all }) in
    record {
      sent = grown first.sent;
      sent_then = grown next.sent;
      taken = grown first.taken;
      taken_then = grown next.taken;
      received = grown first.received;
      received_then = grown next.received;
      credited = next.credited;
      submitted = ap submits middle;
      submitted_then = ap submits (whole ∙ sym middle);
      one_kind = kind_on link station history mid after kind;
    }

pub call_between : (given : Given) (station : ℕ) (step : Step) (history mid rest : List Event) → IsInTurn step
    → Called station step ∷ map (Noted station) (notes_after (setup_at given station) (facts_at given station history) step) ≡ mid ++ rest
    → (link : ℕ) → IsBetween link (lines_at station history) (lines_at station (history ++ mid)) (lines_at station (after_call given station step history))
call_between given station step history mid rest turn is link =
    let notes = notes_after (setup_at given station) (facts_at given station history) step in
    let front = front_called station step notes mid rest is in
    between_by link station history mid rest (after_call given station step history)
    (append_assoc history mid rest ∙ ap (λ (more : List Event). history ++ more) (sym is))
    (middle_submits station step notes history mid front) (call_submits station step notes history)
    (middle_kind station step notes history mid front (turn_kinds (setup_at given station) (facts_at given station history) step turn))
