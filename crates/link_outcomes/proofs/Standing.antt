-- How far the request of a peripheral is at most, by its notes and by the PDU that it sends next.
use Rattle.std.proofs.Common.{◌≡◌, ◌≤◌, ℕ, ◌&&◌, not, Bool, true, false, List, [], ◌∷◌, ◌++◌, Option, Some, None, if◌then◌else◌, refl, sym, ap, subst, ◌∙◌, arith}
use Rattle.std.proofs.lemmas.Bool.{and_parts}
use Rattle.std.proofs.lemmas.List.Sums.{fold-append}
use Rattle.acl_banks.specs.declared.pieces.Piece.{Piece}
use Rattle.ble_base.specs.declared.error_codes.ErrCode.{ErrCode}
use Rattle.ble_base.specs.declared.notes.Note.{Note}
use Rattle.ble_base.specs.declared.notes.Note.TheVariants.{Enter}
use Rattle.ble_base.specs.declared.procedure_kinds.Kind.{Kind}
use Rattle.data_pdu.specs.Reading.{ctrl_of}
use Rattle.data_pdu.specs.declared.ctrl.Ctrl.{Ctrl}
use Rattle.exclusive_stages.specs.Pdus.{is_kind}
use Rattle.exclusive_stages.specs.declared.pdus.Exclusive.{Exclusive}
use Rattle.exclusive_stages.specs.declared.pdus.Exclusive.TheVariants.{Request}
use Rattle.link_model.specs.Acknowledgement.{Pdu, empty_pdu, is_acked}
use Rattle.link_model.specs.Controls.{is_quiet_now, next_control, pdu_fixed, pdu_of_control}
use Rattle.link_model.specs.Data.{Data, data_given, is_control, is_empty, numbered, pdu_with}
use Rattle.link_model.specs.Entering.{began_notes, done_notes, event_notes, facts_entered_if}
use Rattle.link_model.specs.Events.{applied_notes}
use Rattle.link_model.specs.Facts.{Facts}
use Rattle.link_model.specs.Fixing.{data_cut, data_fixed_by, data_goes, fixed_anew}
use Rattle.link_model.specs.Hosts.{asked_unless}
use Rattle.link_model.specs.Payload.{payload_made}
use Rattle.link_model.specs.Receiving.{given_notes, refused_notes}
use Rattle.link_model.specs.Sending.{control_gone, control_gone_if, data_sent_as, fixed_sent, sent_notes_if, takes_leave}
use Rattle.link_model.specs.Setup.{Setup}
use Rattle.link_model.specs.declared.events.ConnectionEvent.{ConnectionEvent}
use Rattle.link_model.specs.control_end.declared.answers.Entry.{Entry}
use Rattle.link_model.specs.control_end.declared.answers.Taken.{Taken}
use Rattle.link_model.specs.control_model.Control.{Control, Asks, Enters, Sends, after}
use Rattle.link_model.specs.procedure_stages.Queue.{waiting_in}
use Rattle.link_model.specs.procedure_values.declared.asks.Ask.{Ask}
use Rattle.link_outcomes.specs.Answered.{kind_begun}
use Rattle.link_outcomes.proofs.Awaiting.{opens, waits_after, waits_in}
use Rattle.link_model.proofs.Views.{entered_view}
use Rattle.link_outcomes.proofs.Controls.{Holds, control_holds, owing_holds, weaker}
use Rattle.link_outcomes.proofs.SentRequests.{request_low}

-- ---- the invariant

-- the first PDU of a request
abbrev pub is_param : Pdu → Bool
is_param pdu = opens Request pdu.llid pdu.body

-- a request whose first PDU is to be sent is not acknowledged; one that awaits its answer is not granted
abbrev pub level : Bool → Bool → ℕ
level true waits = 0
level false true = 1
level false false = 2

-- a control PDU that is fixed, and has left the queue, goes next: the last PDU is acknowledged
pub record Stands (waits : Bool) (c : Control) (fixed : Pdu) (acked : Bool) : Type 0 where
  pub holds : Holds (level (is_param fixed) waits) c
  pub left : is_control fixed ≡ true → acked ≡ true

abbrev pub StandsIn : Bool → Facts → Type 0
StandsIn waits facts = Stands waits facts.control facts.outgoing.fixed (is_acked facts.acknowledgement)

pub level_up : (fixes before now : Bool) → (now ≡ true → before ≡ true) → level fixes before ≤ level fixes now
level_up true before now less = omega arith
level_up false true true less = omega arith
level_up false true false less = omega arith
level_up false false false less = omega arith
level_up false false true less = absurd (let no : false ≡ true = less refl in cc)

level_free : (fixes waits : Bool) → level fixes waits ≤ level false waits
level_free true true = omega arith
level_free true false = omega arith
level_free false waits = omega arith

pub level_one : (waits : Bool) → 1 ≤ level false waits
level_one true = omega arith
level_one false = omega arith

pub free : (fixes waits : Bool) (c : Control) → Holds (level fixes waits) c → Holds (level false waits) c
free fixes waits c h = weaker (level fixes waits) (level false waits) c (level_free fixes waits) h

pub not_both : (X : Type 0) (b : Bool) → b ≡ false → b ≡ true → X
not_both X true none is = absurd cc
not_both X false none is = absurd cc

pub other_stands : (waits acked : Bool) (c : Control) (pdu : Pdu) → is_control pdu ≡ false → Holds (level false waits) c → Stands waits c pdu acked
other_stands waits acked c pdu is h =
    record {
      holds = subst (λ (b : Bool). Holds (level (b && is_kind (kind_begun (ctrl_of pdu.body)) Request) waits) c) (sym is) h;
      left = λ holds. not_both _ (is_control pdu) is holds;
    }

-- awaited no more, or as before
pub stands_less : (before now acked : Bool) (c : Control) (pdu : Pdu) → (now ≡ true → before ≡ true) → Stands before c pdu acked → Stands now c pdu acked
stands_less before now acked c pdu less s =
    record { holds = weaker (level (is_param pdu) before) (level (is_param pdu) now) c (level_up (is_param pdu) before now less) s.holds; left = s.left }

-- ---- notes that open nothing

abbrev Less : Exclusive → List Note → Type 0
Less q notes = (waits : Bool) → waits_in q waits notes ≡ true → waits ≡ true

less_more : (q : Exclusive) (notes more : List Note) → Less q notes → Less q more → Less q (notes ++ more)
less_more q notes more one other waits is =
    one waits (other (waits_in q waits notes) (sym (fold-append (waits_after q) waits notes more) ∙ is))

less_applied : (q : Exclusive) (handle event : ℕ) (applied : Option ℕ) → Less q (applied_notes handle event applied)
less_applied q handle event None waits is = is
less_applied q handle event (Some number) waits is = is

less_done : (q : Exclusive) (handle : ℕ) (done : Option Kind) → Less q (done_notes handle done)
less_done q handle None waits is = is
less_done q handle (Some kind) waits is = is

less_began : (q : Exclusive) (handle : ℕ) (began : Option Kind) → Less q (began_notes handle began)
less_began q handle None waits is = is
less_began q handle (Some kind) true is = refl
less_began q handle (Some kind) false is = absurd cc

less_event : (q : Exclusive) (handle : ℕ) (event : ConnectionEvent) (entry : Entry) → Less q (event_notes handle event entry)
less_event q handle event entry =
    let applied = applied_notes handle event.number entry.applied in
    let enter = Enter handle (record { 0 = event.number }) event.channel ∷ [] in
    let done = done_notes handle entry.done in
    less_more q (applied ++ enter ++ done) (began_notes handle entry.began)
    (less_more q (applied ++ enter) done (less_more q applied enter (less_applied q handle event.number entry.applied) (λ waits is. is))
    (less_done q handle entry.done)) (less_began q handle entry.began)

same_done : (q : Exclusive) (handle : ℕ) (done : Option Kind) (waits : Bool) → waits_in q waits (done_notes handle done) ≡ waits
same_done q handle None waits = refl
same_done q handle (Some kind) waits = refl

pub same_refused : (q : Exclusive) (handle : ℕ) (refused : Option (Kind × ErrCode)) (waits : Bool) → waits_in q waits (refused_notes handle refused) ≡ waits
same_refused q handle None waits = refl
same_refused q handle (Some (kind, code)) waits = refl

same_given : (q : Exclusive) (handle : ℕ) (given : Taken) (waits : Bool) → waits_in q waits (given_notes handle given) ≡ waits
same_given q handle given waits =
    let refused = refused_notes handle given.refused in
    fold-append (waits_after q) waits refused (done_notes handle given.done)
    ∙ same_done q handle given.done (waits_in q waits refused)
    ∙ same_refused q handle given.refused waits

-- of the notes of a reception that of a PDU counts alone
pub heard_waits : (q : Exclusive) (handle : ℕ) (acked : Option Kind) (took : List Note) (given kept : Taken) (waits : Bool)
    → waits_in q waits (done_notes handle acked ++ (took ++ (given_notes handle given ++ given_notes handle kept))) ≡ waits_in q waits took
heard_waits q handle acked took given kept waits =
    let done = done_notes handle acked in
    let first = given_notes handle given in
    let last = given_notes handle kept in
    fold-append (waits_after q) waits done (took ++ (first ++ last))
    ∙ ap (λ (w : Bool). waits_in q w (took ++ (first ++ last))) (same_done q handle acked waits)
    ∙ fold-append (waits_after q) waits took (first ++ last)
    ∙ fold-append (waits_after q) (waits_in q waits took) first last
    ∙ same_given q handle kept (waits_in q (waits_in q waits took) first)
    ∙ same_given q handle given (waits_in q waits took)

-- ---- the host asks, an event is entered, a PDU is fixed

pub given_fixed : (handle : ℕ) (start : Bool) (body : List ℕ) (outgoing : Data) → outgoing.fixed ≡ (data_given handle start body outgoing).fixed
given_fixed handle start [] outgoing = refl
given_fixed handle start (octet ∷ octets) outgoing = refl

pub asked_stands : (comes : Bool) (ask : Ask) (waits : Bool) (facts : Facts) → StandsIn waits facts → StandsIn waits (asked_unless comes ask facts)
asked_stands true ask waits facts s = s
asked_stands false ask waits facts s =
    record { holds = control_holds (level (is_param facts.outgoing.fixed) waits) (Asks ask) facts.control tt s.holds; left = s.left }

pub entered_stands : (goes : Bool) (setup : Setup) (slot : ℕ) (waits : Bool) (facts : Facts) → StandsIn waits facts → StandsIn waits (facts_entered_if goes setup slot facts)
entered_stands true setup slot waits facts s =
    let n = level (is_param facts.outgoing.fixed) waits in
    record {
      holds =
          owing_holds n _ _ (entered_view slot facts) (control_holds n (Enters slot (is_quiet_now facts)) facts.control tt s.holds);
      left = s.left;
    }
entered_stands false setup slot waits facts s = s

pub entry_less : (q : Exclusive) (goes : Bool) (handle : ℕ) (event : ConnectionEvent) (entry : Entry) → Less q (if goes then event_notes handle event entry else [])
entry_less q true handle event entry = less_event q handle event entry
entry_less q false handle event entry = λ waits is. is

piece_none : (piece : Option Piece) → is_control (pdu_with piece) ≡ false
piece_none None = refl
piece_none (Some piece) = by piece.start
  where
    by : (start : Bool) → is_control (record { llid = if start then 2 else 1; body = piece.body.items }) ≡ false
    by true = refl
    by false = refl

anew_none : (control : Bool) (waiting : ℕ) (quiet goes : Bool) (outgoing : Data) → is_control (data_fixed_by control waiting quiet goes outgoing).fixed ≡ false
anew_none true waiting quiet goes outgoing = refl
anew_none false waiting quiet true outgoing = piece_none _
anew_none false waiting quiet false outgoing = refl

pub fixed_stands : (stays : Bool) (waits : Bool) (facts : Facts) → StandsIn waits facts → StandsIn waits (if stays then facts else fixed_anew facts)
fixed_stands true waits facts s = s
fixed_stands false waits facts s =
    other_stands waits _ facts.control (fixed_anew facts).outgoing.fixed
    (anew_none _ (waiting_in facts.control.table.queue) (is_quiet_now facts) (data_goes facts) (data_cut facts))
    (free (is_param facts.outgoing.fixed) waits facts.control s.holds)

-- ---- a control PDU leaves the queue

next_low : (n : ℕ) (facts : Facts) (next : Option Ctrl) → next_control facts ≡ next → is_param (pdu_of_control next) ≡ true → Holds n facts.control
    → Holds 0 facts.control
next_low n facts None next is h = absurd cc
next_low n facts (Some ctrl) next is h = request_low n (is_quiet_now facts) facts.control ctrl h next is

param_low : (n : ℕ) (facts : Facts) → facts.fixes_control ≡ true → is_param (pdu_fixed facts) ≡ true → Holds n facts.control → Holds 0 facts.control
param_low n facts fixes is h =
    next_low n facts (next_control facts) refl
    (ap (λ (b : Bool). is_param (if b then pdu_of_control (next_control facts) else facts.outgoing.fixed)) (sym fixes) ∙ is) h

sends_level : (slot : ℕ) (waits : Bool) (facts : Facts) (fixes param : Bool) → facts.fixes_control ≡ true → is_param (pdu_fixed facts) ≡ param
    → Holds (level fixes waits) facts.control → Holds (level param waits) (after (Sends slot (is_quiet_now facts)) facts.control)
sends_level slot waits facts fixes true control is h =
    control_holds 0 (Sends slot (is_quiet_now facts)) facts.control tt (param_low (level fixes waits) facts control is h)
sends_level slot waits facts fixes false control is h =
    control_holds (level false waits) (Sends slot (is_quiet_now facts)) facts.control tt (free fixes waits facts.control h)

pub gone_stands : (goes : Bool) (slot : ℕ) (waits : Bool) (facts : Facts) → (goes ≡ true → takes_leave facts ≡ true) → StandsIn waits facts
    → StandsIn waits (control_gone_if goes slot facts)
gone_stands false slot waits facts leaves s = s
gone_stands true slot waits facts leaves s =
    let parts = and_parts (is_acked facts.acknowledgement) facts.fixes_control (leaves refl) in
    record {
      holds = sends_level slot waits facts (is_param facts.outgoing.fixed) (is_param (pdu_fixed facts)) parts.1 refl s.holds;
      left = λ is. parts.0;
    }

-- ---- a packet is sent

sent_waits : (noted : Bool) (handle number : ℕ) (pdu : Pdu) (waits : Bool) (c : Control) → (is_param pdu ≡ true → Holds 0 c) → Holds (level false waits) c
    → Holds (level false (waits_in Request waits (sent_notes_if noted handle number pdu))) c
sent_waits false handle number pdu waits c low h = h
sent_waits true handle number pdu true c low h = h
sent_waits true handle number pdu false c low h = by (is_param pdu) low
  where
    by : (param : Bool) → (param ≡ true → Holds 0 c) → Holds (level false param) c
    by true low = weaker 0 1 c (omega arith) (low refl)
    by false low = h

sent_empty : (waits acked : Bool) (c : Control) (payload : List ℕ) (all : Bool) (outgoing : Data) → all ≡ true → Holds (level false waits) c
    → Stands waits c (data_sent_as payload all outgoing).fixed acked
sent_empty waits acked c payload true outgoing is h = other_stands waits acked c empty_pdu refl h
sent_empty waits acked c payload false outgoing is h = absurd cc

pub sent_by : (acked fixes : Bool) (handle slot : ℕ) (waits : Bool) (facts : Facts) → is_acked facts.acknowledgement ≡ acked → facts.fixes_control ≡ fixes
    → StandsIn waits facts
    → StandsIn (waits_in Request waits (sent_notes_if (acked && not (is_empty (pdu_fixed facts))) handle (numbered facts.acknowledgement.sent) (pdu_fixed facts)))
    (fixed_sent slot (control_gone_if (acked && fixes) slot facts))
sent_by true true handle slot waits facts all fixes s =
    let c = after (Sends slot (is_quiet_now facts)) facts.control in
    let n = level (is_param facts.outgoing.fixed) waits in
    sent_empty _ _ c (payload_made facts.encryption.end (pdu_fixed facts)) (is_acked facts.acknowledgement) (control_gone slot facts).outgoing all
    (sent_waits (not (is_empty (pdu_fixed facts))) handle (numbered facts.acknowledgement.sent) (pdu_fixed facts) waits c
    (λ is. control_holds 0 (Sends slot (is_quiet_now facts)) facts.control tt (param_low n facts fixes is s.holds))
    (control_holds (level false waits) (Sends slot (is_quiet_now facts)) facts.control tt (free (is_param facts.outgoing.fixed) waits facts.control s.holds)))
sent_by true false handle slot waits facts all fixes s =
    let same : pdu_fixed facts ≡ facts.outgoing.fixed =
    ap (λ (b : Bool). if b then pdu_of_control (next_control facts) else facts.outgoing.fixed) fixes in
    sent_empty _ _ facts.control (payload_made facts.encryption.end facts.outgoing.fixed) (is_acked facts.acknowledgement) facts.outgoing all
    (sent_waits (not (is_empty (pdu_fixed facts))) handle (numbered facts.acknowledgement.sent) (pdu_fixed facts) waits facts.control
    (λ is. subst (λ (b : Bool). Holds (level b waits) facts.control) (sym (ap is_param same) ∙ is) s.holds)
    (free (is_param facts.outgoing.fixed) waits facts.control s.holds))
sent_by false fixes handle slot waits facts all fixed s =
    other_stands waits _ facts.control _ (by (is_acked facts.acknowledgement) all) (free (is_param facts.outgoing.fixed) waits facts.control s.holds)
  where
    none : (b : Bool) → is_control facts.outgoing.fixed ≡ b → b ≡ false
    none true is = let no : true ≡ false = sym (s.left is) ∙ all in absurd (cc)
    none false is = refl

    by : (acked : Bool) → acked ≡ false → is_control (data_sent_as (payload_made facts.encryption.end facts.outgoing.fixed) acked facts.outgoing).fixed ≡ false
    by false is = none (is_control facts.outgoing.fixed) refl
    by true is = absurd cc
