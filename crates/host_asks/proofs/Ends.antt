-- What the view knows of an end, step by step.
use Rattle.std.proofs.Common.{◌≡◌, ℕ, Bool, true, false, ◌&&◌, not, if◌then◌else◌, List, [], ◌∷◌, ◌++◌, ◌==◌, fold, Option, Some, None, is_some, is_none, refl, ap, sym, ◌∙◌, subst}
use Rattle.ble_base.specs.ErrorCodes.{mic_failure}
use Rattle.ble_base.specs.declared.error_codes.ErrCode.{ErrCode}
use Rattle.ble_base.specs.declared.procedure_kinds.Kind.{Kind}
use Rattle.ble_base.specs.declared.addresses.Address.{Address}
use Rattle.ble_base.specs.declared.procedure_kinds.Kind.TheVariants.{Update}
use Rattle.ble_base.specs.declared.roles.Role.{Role}
use Rattle.ble_base.specs.declared.roles.Role.TheVariants.{Central, Peripheral}
use Rattle.ble_base.specs.declared.notes.Note.{Note}
use Rattle.ble_base.specs.declared.notes.Note.TheVariants.{Enter}
use Rattle.data_pdu.specs.Header.{header_in}
use Rattle.data_pdu.specs.declared.header.DataHeader.{DataHeader}
use Rattle.instants.specs.Track.{next_number}
use Rattle.procedure_events.specs.procedure_stages.declared.steps.Effect.{Effect}
use Rattle.procedure_events.specs.procedure_stages.declared.steps.Effect.TheVariants.{AskHost, Lengths as new_lengths, Nothing}
use Rattle.procedure_events.specs.procedures.Beginning.{begin_step}
use Rattle.procedure_events.specs.procedures.Going.{entered_step}
use Rattle.procedure_events.specs.procedures.Table
use Rattle.procedure_events.specs.procedures.Table.{TableFacts}
use Rattle.link_commands.specs.open_links.control_end.declared.answers.Entry.{Entry}
use Rattle.link_commands.specs.open_links.control_end.declared.answers.Taken.{Taken}
use Rattle.link_commands.specs.open_links.control_end.Answers.{entry_of, entry_step, is_update_waiting, no_entry}
use Rattle.link_commands.specs.open_links.control_end.Held.{Held, held_of}
use Rattle.link_commands.specs.open_links.control_model.Control.{Control, Enters, after, ended}
use Rattle.link_commands.specs.open_links.link_model.declared.events.ConnectionEvent.{ConnectionEvent}
use Rattle.link_commands.specs.open_links.link_model.declared.state.KnownLengths.{KnownLengths}
use Rattle.link_commands.specs.open_links.link_model.declared.state.Leaving.{Leaving}
use Rattle.link_commands.specs.open_links.link_model.Acknowledgement.{Pdu}
use Rattle.link_commands.specs.open_links.link_model.Controls.{goes_on, is_procedure_pdu, is_quiet_now, pdu_fixed, read_of}
use Rattle.link_commands.specs.open_links.link_model.Data.{is_control, is_data, is_empty}
use Rattle.link_commands.specs.open_links.link_model.End.{facts_after}
use Rattle.link_commands.specs.open_links.link_model.Entering.{began_notes, control_entered, done_notes, event_notes, facts_entered}
use Rattle.link_commands.specs.open_links.link_model.Events.{applied_notes}
use Rattle.link_commands.specs.open_links.link_model.Facts.{Facts, first_facts, keyed_of}
use Rattle.link_commands.specs.open_links.link_model.Hosts.{ends_without_key, facts_key_answered, leaving_from_if}
use Rattle.link_commands.specs.open_links.link_model.Fixing.{fixed_anew}
use Rattle.link_commands.specs.open_links.link_model.Packets.{good_pdu, is_forged}
use Rattle.link_commands.specs.open_links.link_model.Receiving.{accepted_if, accepts, acked_kind, acknowledged_if, acks_control, answers_with_control, code_of, control_taken, data_taken, data_taken_if, effect_hearing, effect_of, effect_received, effect_unless_known, ended_by_forgery, facts_before_taking, facts_forged_if, facts_hearing, facts_received, given_if, given_notes, has_acknowledged, heard_in_slot, kept_effect_hearing, kept_effect_of, kept_effect_received, kept_give, kept_given_if, leaving_by, notes_hearing, procedures_give, procedures_take_if, received_notes, refused_notes, took_notes_if}
use Rattle.link_commands.specs.open_links.link_model.Sending.{control_gone_if, sent_notes, sent_notes_if, takes_leave}
use Rattle.link_commands.specs.open_links.link_model.Setup.{Setup}
use Rattle.link_commands.specs.open_links.link_model.Step.{Step, DataGiven, DataReported, Disconnected, EventEntered, KeyAnswered, PacketReceived, PacketSent, PduFixed, ProcedureAsked, RequestAnswered, WordsGiven}
use Rattle.link_commands.specs.open_links.link_model.Verdicts.{pdu_of}
use Rattle.link_commands.proofs.open_links.link_model.Ending.{gone_stays}
use Rattle.link_commands.proofs.open_links.link_model.KnownEnds.{IsPast, knows_accepted, knows_before_taking, past_knows}
use Rattle.link_commands.proofs.open_links.link_model.Views.{DataTaking, Ended, Knows, Same, acked_control, acked_view, data_view, entered_view, key_view, taken_accepted, taken_view}
use Rattle.host_view.specs.declared.links.Link.{Link}
use Rattle.host_view.specs.Links.{is_asked}
use Rattle.host_view.specs.Noted.{is_start_rsp, nothing_asked, opened_link}
use Rattle.host_view.specs.Refusals.{count_if}
use Rattle.link_pairs.proofs.TakingLast.{data_leaves}
use Rattle.host_asks.specs.Knowing.{KnowsAsks, KnowsTable}
use Rattle.host_asks.specs.Noting.{is_of_host, link_after_step, link_after_note, link_encrypted_if, link_with_request, or_request}
use Rattle.host_asks.proofs.Tables.{link_done, link_refused}
use Rattle.host_asks.proofs.Versions.{acked_version, data_version, entered_version, gone_version, key_version, taken_version}
use Rattle.host_asks.proofs.Controls.{control_acked_knows, control_entered_knows, control_sent_knows, link_given, owing_knows, taking_knows}

-- ---- notes, one list after the other

noted_more : (link : Link) (notes more : List Note) → fold link_after_note link (notes ++ more) ≡ fold link_after_note (fold link_after_note link notes) more
noted_more link [] more = refl
noted_more link (note ∷ notes) more = noted_more (link_after_note link note) notes more

noted_done : (handle : ℕ) (over : Option Kind) (link : Link) → fold link_after_note link (done_notes handle over) ≡ link_done over link
noted_done handle None link = refl
noted_done handle (Some kind) link = refl

noted_refused : (handle : ℕ) (refused : Option (Kind × ErrCode)) (link : Link) → fold link_after_note link (refused_notes handle refused) ≡ link_refused refused link
noted_refused handle None link = refl
noted_refused handle (Some (kind, code)) link = refl

noted_began : (handle : ℕ) (began : Option Kind) (link : Link) → fold link_after_note link (began_notes handle began) ≡ link
noted_began handle None link = refl
noted_began handle (Some kind) link = refl

noted_applied : (handle event : ℕ) (applied : Option ℕ) (link : Link) → fold link_after_note link (applied_notes handle event applied) ≡ link
noted_applied handle event None link = refl
noted_applied handle event (Some number) link = refl

noted_sent : (noted : Bool) (handle number : ℕ) (pdu : Pdu) (link : Link) → fold link_after_note link (sent_notes_if noted handle number pdu) ≡ link
noted_sent true handle number pdu link = refl
noted_sent false handle number pdu link = refl

noted_took : (noted : Bool) (handle : ℕ) (pdu : Pdu) (facts : Facts) (link : Link)
    → fold link_after_note link (took_notes_if noted handle pdu facts) ≡ link_encrypted_if (noted && is_start_rsp pdu.llid pdu.body) link
noted_took true handle pdu facts link = refl
noted_took false handle pdu facts link = refl

noted_event : (handle : ℕ) (event : ConnectionEvent) (entry : Entry) (link : Link)
    → fold link_after_note link (event_notes handle event entry) ≡ link_done entry.done link
noted_event handle event entry link =
    let enter = Enter handle (record { 0 = event.number }) event.channel ∷ [] in
    let applied = applied_notes handle event.number entry.applied in
    noted_more link (applied ++ enter ++ done_notes handle entry.done) (began_notes handle entry.began)
    ∙ noted_began handle entry.began _
    ∙ noted_more link (applied ++ enter) (done_notes handle entry.done)
    ∙ ap (λ (l : Link). fold link_after_note l (done_notes handle entry.done)) (noted_more link applied enter ∙ noted_applied handle event.number entry.applied link)
    ∙ noted_done handle entry.done link

noted_given : (handle : ℕ) (given : Taken) (link : Link)
    → fold link_after_note link (given_notes handle given) ≡ link_done given.done (link_refused given.refused link)
noted_given handle given link =
    noted_more link (refused_notes handle given.refused) (done_notes handle given.done)
    ∙ ap (λ (l : Link). fold link_after_note l (done_notes handle given.done)) (noted_refused handle given.refused link)
    ∙ noted_done handle given.done (link_refused given.refused link)

noted_hearing : (handle : ℕ) (acked : Option Kind) (took : List Note) (starts : Bool) (given kept : Taken) (link : Link)
    → ((l : Link) → fold link_after_note l took ≡ link_encrypted_if starts l)
    → fold link_after_note link (done_notes handle acked ++ (took ++ (given_notes handle given ++ given_notes handle kept)))
    ≡ link_done kept.done (link_refused kept.refused (link_done given.done (link_refused given.refused (link_encrypted_if starts (link_done acked link)))))
noted_hearing handle acked took starts given kept link is =
    let now = link_encrypted_if starts (link_done acked link) in
    let both = given_notes handle given ++ given_notes handle kept in
    noted_more link (done_notes handle acked) (took ++ both)
    ∙ ap (λ (l : Link). fold link_after_note l (took ++ both)) (noted_done handle acked link)
    ∙ noted_more (link_done acked link) took both
    ∙ ap (λ (l : Link). fold link_after_note l both) (is (link_done acked link))
    ∙ noted_more now (given_notes handle given) (given_notes handle kept)
    ∙ ap (λ (l : Link). fold link_after_note l (given_notes handle kept)) (noted_given handle given now)
    ∙ noted_given handle kept (link_done given.done (link_refused given.refused now))

-- ---- what the view keeps of a Disconnect

request_disconnecting : (effect : Effect) (link : Link) → (link_with_request effect link).disconnecting ≡ link.disconnecting
request_disconnecting (AskHost min max latency timeout) link = refl
request_disconnecting effect link = refl

encrypted_disconnecting : (starts : Bool) (link : Link) → (link_encrypted_if starts link).disconnecting ≡ link.disconnecting
encrypted_disconnecting true link = refl
encrypted_disconnecting false link = refl

-- what a host asked for does not depend on whether the link encrypts
encrypted_table : (starts : Bool) (link : Link) (f : TableFacts) → KnowsTable link f → KnowsTable (link_encrypted_if starts link) f
encrypted_table true link f knows =
    record { role = knows.role; asked = knows.asked; closes = knows.closes; disconnects = knows.disconnects; parameters = knows.parameters }
encrypted_table false link f knows = knows

-- one request or two
one_request : (effect kept : Effect) (link : Link) → link_with_request (or_request effect kept) link ≡ link_with_request kept (link_with_request effect link)
one_request (AskHost min max latency timeout) (AskHost kept_min kept_max kept_latency kept_timeout) link = refl
one_request (AskHost min max latency timeout) kept link = refl
one_request effect kept link = refl

-- a request is kept apart from what is done and refused
request_apart : (effect : Effect) (given : Taken) (link : Link)
    → link_with_request effect (link_done given.done (link_refused given.refused link))
    ≡ link_done given.done (link_refused given.refused (link_with_request effect link))
request_apart (AskHost min max latency timeout) given link = refl
request_apart effect given link = refl

known_same : (lengths : KnownLengths) (effect : Effect) (link : Link) → link_with_request (effect_unless_known lengths effect) link ≡ link_with_request effect link
known_same lengths (new_lengths rx tx) link = by ((rx == lengths.reported_rx) && (tx == lengths.reported_tx))
  where
    by : (known : Bool) → link_with_request (if known then Nothing else new_lengths rx tx) link ≡ link
    by true = refl
    by false = refl
known_same lengths effect link = refl

leaving_stays : (code : Option ErrCode) (leaving : Leaving) → (leaving_by code leaving).disconnected ≡ leaving.disconnected
leaving_stays None leaving = refl
leaving_stays (Some code) leaving = refl

take_leaving : (takes : Bool) (pdu : Pdu) (slot : ℕ) (facts : Facts) → (procedures_take_if takes pdu slot facts).leaving.disconnected ≡ facts.leaving.disconnected
take_leaving true pdu slot facts = leaving_stays (code_of (procedures_give pdu slot facts).effect) facts.leaving
take_leaving false pdu slot facts = refl

-- ---- an event is entered

entry_done : (h : Held) (slot : ℕ) (quiet : Bool) → is_none h.ends ≡ true → (entry_of slot quiet h).done ≡ (entry_step h).1
entry_done h slot quiet goes =
    ap (λ (b : Bool). (if b then record { applied = next_number h.track; updated = is_some (next_number h.track) && is_update_waiting h.track.waits; done = (entry_step h).1; began = (begin_step (entry_step h).0 slot quiet).1 } else no_entry).done) goes

enter_knows : (setup : Setup) (slot : ℕ) (link : Link) (facts : Facts) (goes : Bool) (entry : Entry) → goes_on facts ≡ goes
    → (goes ≡ true → entry.done ≡ (entered_step facts.control.table (is_some (next_number facts.control.track))).1)
    → KnowsAsks link facts
    → KnowsAsks (fold link_after_note link (if goes then event_notes setup.link.handle (facts_entered setup slot facts).event entry else []))
    (if goes then facts_entered setup slot facts else facts)
enter_knows setup slot link facts true entry goes is knows =
    let over = (entered_step facts.control.table (is_some (next_number facts.control.track))).1 in
    let quiet = is_quiet_now facts in
    subst (λ (l : Link). KnowsAsks l (facts_entered setup slot facts))
    (sym (noted_event setup.link.handle (facts_entered setup slot facts).event entry link ∙ ap (λ (done : Option Kind). link_done done link) (is refl)))
    (record {
      table =
          owing_knows (link_done over link) (after (Enters slot quiet) facts.control) (control_entered slot facts) (entered_view slot facts)
          (control_entered_knows link facts.control slot quiet (none_by facts.control.ends goes) knows.table);
      disconnecting = knows.disconnecting;
      version = λ some. knows.version (sym (entered_version slot facts) ∙ some);
    })
  where
    none_by : (ends : Option ErrCode) → is_none ends ≡ true → ends ≡ None
    none_by None is = refl
    none_by (Some code) is = absurd (cc)
enter_knows setup slot link facts false entry goes is knows = knows

-- ---- a packet is received

-- an acknowledgement of the last control PDU
acked_stage : (link : Link) (acks : Bool) (facts : Facts) → KnowsTable link facts.control.table
    → KnowsTable (link_done (acked_kind acks facts) link) (acked_control acks facts.control).table
acked_stage link true facts knows = control_acked_knows link facts.control knows
acked_stage link false facts knows = knows

-- a peripheral's fixed control PDU goes
gone_stage : (link : Link) (goes : Bool) (slot : ℕ) (facts : Facts) → KnowsTable link facts.control.table
    → KnowsTable link (control_gone_if goes slot facts).control.table
gone_stage link true slot facts knows = control_sent_knows link facts.control slot (is_quiet_now facts) knows
gone_stage link false slot facts knows = knows

-- the new PDU is taken, and then perhaps the one that was kept
taken_stage : (link : Link) (takes accepted : Bool) (pdu : Pdu) (slot : ℕ) (facts : Facts) → Knows (keyed_of facts) → KnowsTable link facts.control.table
    → (procedures_take_if takes pdu slot (accepted_if accepted pdu facts)).control.ends ≡ None
    → KnowsTable (link_given (kept_given_if takes pdu slot facts) (link_given (given_if takes pdu slot facts) link))
    (procedures_take_if takes pdu slot (accepted_if accepted pdu facts)).control.table
taken_stage link true accepted pdu slot facts fits knows lasts =
    let same = taken_accepted accepted pdu slot facts in
    let given = procedures_give pdu slot facts in
    let kept = kept_give pdu slot facts in
    subst (λ (c : Control). KnowsTable (link_given kept (link_given given link)) c.table) (sym same)
    (taking_knows link (is_quiet_now facts) facts.control (read_of pdu) slot given kept (control_taken pdu slot facts) (taken_view pdu slot facts fits) knows
    (ap (λ (c : Control). c.ends) (sym same) ∙ lasts))
taken_stage link false accepted pdu slot facts fits knows lasts = knows

-- data may end the link
data_same : (c d : Control) → DataTaking c d → d.ends ≡ None → d ≡ c
data_same c d (Same is) lasts = is
data_same c d (Ended code goes is) lasts = absurd (let h : Some code ≡ None = ap (λ (e : Control). e.ends) (sym is) ∙ lasts in cc)

data_stage : (takes : Bool) (facts : Facts) → (data_taken_if takes facts).control.ends ≡ None → (data_taken_if takes facts).control ≡ facts.control
data_stage true facts lasts = data_same facts.control (data_taken facts).control (data_view facts) lasts
data_stage false facts lasts = refl

module _ (setup : Setup) (slot : ℕ) (room : Bool) (header : DataHeader) (pdu : Pdu) (link : Link) (facts : Facts) (p : IsPast setup facts)
    (knows : KnowsAsks link facts) where
  abbrev acks : Bool
  acks = acks_control (has_acknowledged facts header) facts

  abbrev own : Facts
  own = acknowledged_if (has_acknowledged facts header) (heard_in_slot slot header.md facts)

  abbrev answers : Bool
  answers = answers_with_control setup.link.role own

  abbrev now : Facts
  now = facts_before_taking setup.link.role slot header facts

  abbrev accepted : Bool
  accepted = accepts room header pdu now

  abbrev takes : Bool
  takes = accepted && is_procedure_pdu pdu

  abbrev taken : Facts
  taken = procedures_take_if takes pdu slot (accepted_if accepted pdu now)

  abbrev next : Facts
  next = facts_hearing setup.link.role slot room header pdu facts

  abbrev given : Taken
  given = given_if takes pdu slot now

  abbrev kept : Taken
  kept = kept_given_if takes pdu slot now

  abbrev over : Option Kind
  over = acked_kind acks facts

  abbrev starts : Bool
  starts = (accepted && not (is_empty pdu)) && is_start_rsp pdu.llid pdu.body

  -- the link as the new PDU is noted
  abbrev seen : Link
  seen = link_encrypted_if starts (link_done over link)

  -- what the notes of it and both its effects make of the view
  changed : link_with_request (kept_effect_hearing setup.link.role slot room header pdu facts)
      (link_with_request (effect_hearing setup.link.role slot room header pdu facts) (fold link_after_note link (notes_hearing setup slot room header pdu facts)))
      ≡ link_given kept (link_given given seen)
  changed =
      known_same facts.lengths kept.effect _
      ∙ ap (link_with_request kept.effect)
      (known_same facts.lengths given.effect _
      ∙ ap (link_with_request given.effect)
      (noted_hearing setup.link.handle over (took_notes_if (accepted && not (is_empty pdu)) setup.link.handle pdu now) starts given kept link
      (noted_took (accepted && not (is_empty pdu)) setup.link.handle pdu now))
      ∙ request_apart given.effect kept (link_done given.done (link_refused given.refused seen)))

  given_disconnecting : (link_given kept (link_given given seen)).disconnecting ≡ link.disconnecting
  given_disconnecting =
      request_disconnecting kept.effect (link_done kept.done (link_refused kept.refused (link_given given seen)))
      ∙ request_disconnecting given.effect (link_done given.done (link_refused given.refused seen))
      ∙ encrypted_disconnecting starts (link_done over link)

  gone : KnowsTable seen now.control.table
  gone =
      encrypted_table starts (link_done over link) now.control.table (
      gone_stage (link_done over link) answers slot own
      (owing_knows (link_done over link) (acked_control acks facts.control) own.control (acked_view acks facts (past_knows setup facts p))
      (acked_stage link acks facts knows.table)))

  hears : next.control.ends ≡ None
      → KnowsAsks
      (link_with_request (kept_effect_hearing setup.link.role slot room header pdu facts)
      (link_with_request (effect_hearing setup.link.role slot room header pdu facts) (fold link_after_note link (notes_hearing setup slot room header pdu facts))))
      next
  hears lasts =
      let same = data_stage (accepted && is_data pdu) taken lasts in
      subst (λ (l : Link). KnowsAsks l next) (sym changed)
      (record {
        table =
            subst (λ (c : Control). KnowsTable (link_given kept (link_given given seen)) c.table) (sym same)
            (taken_stage seen takes accepted pdu slot now (knows_before_taking setup facts p setup.link.role slot header) gone
            (ap (λ (c : Control). c.ends) (sym same) ∙ lasts));
        disconnecting = λ ends.
            ap is_some (ap (λ (l : Leaving). l.disconnected) (data_leaves (accepted && is_data pdu) taken)
            ∙ take_leaving takes pdu slot (accepted_if accepted pdu now) ∙ ap (λ (l : Leaving). l.disconnected) (gone_stays answers slot own))
            ∙ knows.disconnecting (sym given_disconnecting ∙ ends);
        version =
            data_version (accepted && is_data pdu) taken
            (taken_version pdu slot (accepted_if accepted pdu now)
            (knows_accepted accepted pdu now (knows_before_taking setup facts p setup.link.role slot header))
            (gone_version answers slot own (acked_version (has_acknowledged facts header) (heard_in_slot slot header.md facts) knows.version))
            takes (ap (λ (c : Control). c.ends) (sym same) ∙ lasts));
      })

receives : (setup : Setup) (slot : ℕ) (room : Bool) (octets : Option (List ℕ)) (link : Link) (facts : Facts) → IsPast setup facts → KnowsAsks link facts
    → (facts_received setup.link.role slot room octets facts).control.ends ≡ None
    → KnowsAsks
    (link_with_request (kept_effect_received setup.link.role slot room octets facts)
    (link_with_request (effect_received setup.link.role slot room octets facts) (fold link_after_note link (received_notes setup slot room octets facts))))
    (facts_received setup.link.role slot room octets facts)
receives setup slot room None link facts p knows lasts = knows
receives setup slot room (Some octets) link facts p knows lasts = hears setup slot room (header_in octets) (pdu_of octets) link facts p knows lasts

-- a forged packet ends the link
forged_over : (c : Control) → (ended_by_forgery c).ends ≡ None → ⊥
forged_over c lasts = by (is_none c.ends) refl lasts
  where
    by : (goes : Bool) → is_none c.ends ≡ goes → (if goes then ended (record { 0 = mic_failure }) c else c).ends ≡ None → ⊥
    by true is h = absurd cc
    by false is h = absurd (let g : false ≡ true = sym is ∙ ap (λ (ends : Option ErrCode). is_none ends) h in cc)

unless_forged : (forged : Bool) (link : Link) (facts : Facts) → (facts.control.ends ≡ None → KnowsAsks link facts)
    → (facts_forged_if forged facts).control.ends ≡ None → KnowsAsks link (facts_forged_if forged facts)
unless_forged true link facts knows lasts = absurd (forged_over facts.control lasts)
unless_forged false link facts knows lasts = knows lasts

-- ---- the host of a peripheral has a key or none

-- without one it may be to end the link, which the view does not learn
key_leaving : (leaves : Bool) (slot : ℕ) (leaving : Leaving) → is_some leaving.disconnected ≡ true
    → is_some (leaving_from_if leaves slot leaving).disconnected ≡ true
key_leaving true slot leaving ends = refl
key_leaving false slot leaving ends = ends

pub key_knows : (key : Option (List ℕ)) (slot : ℕ) (link : Link) (facts : Facts) → KnowsAsks link facts
    → KnowsAsks link (facts_key_answered key slot facts)
key_knows key slot link facts knows =
    record {
      table = owing_knows link facts.control (facts_key_answered key slot facts).control (key_view key facts) knows.table;
      disconnecting = λ ends. key_leaving (ends_without_key key facts) slot facts.leaving (knows.disconnecting ends);
      version = λ some. knows.version (sym (key_version key facts) ∙ some);
    }

-- ---- every step that the host does not make

sent_knows : (setup : Setup) (slot : ℕ) (link : Link) (facts : Facts) → KnowsAsks link facts
    → KnowsAsks (fold link_after_note link (sent_notes setup facts)) (facts_after setup facts (PacketSent slot))
sent_knows setup slot link facts knows =
    subst (λ (l : Link). KnowsAsks l (facts_after setup facts (PacketSent slot))) (sym (noted_sent _ setup.link.handle _ (pdu_fixed facts) link))
    (record {
      table = gone_stage link (takes_leave facts) slot facts knows.table;
      disconnecting = λ ends.
          ap (λ (l : Leaving). is_some l.disconnected) (gone_stays (takes_leave facts) slot facts) ∙ knows.disconnecting ends;
      version = gone_version (takes_leave facts) slot facts knows.version;
    })

fixed_knows : (stays : Bool) (link : Link) (facts : Facts) → KnowsAsks link facts → KnowsAsks link (if stays then facts else fixed_anew facts)
fixed_knows true link facts knows = knows
fixed_knows false link facts knows = record { table = knows.table; disconnecting = knows.disconnecting; version = knows.version }

pub step_knows : (setup : Setup) (step : Step) (link : Link) (facts : Facts) → IsPast setup facts → is_of_host step ≡ false → KnowsAsks link facts
    → (facts_after setup facts step).control.ends ≡ None → KnowsAsks (link_after_step setup facts step link) (facts_after setup facts step)
unfolding effect_of kept_effect_of
step_knows setup (DataGiven start body) link facts p other knows lasts = record { table = knows.table; disconnecting = knows.disconnecting; version = knows.version }
step_knows setup (ProcedureAsked ask) link facts p other knows lasts = absurd (cc)
step_knows setup (RequestAnswered answer) link facts p other knows lasts = absurd (cc)
step_knows setup (KeyAnswered key slot) link facts p other knows lasts = absurd (cc)
step_knows setup (Disconnected reason slot) link facts p other knows lasts = absurd (cc)
step_knows setup (EventEntered slot) link facts p other knows lasts =
    enter_knows setup slot link facts (goes_on facts) (entry_of slot (is_quiet_now facts) (held_of facts.control)) refl
    (entry_done (held_of facts.control) slot (is_quiet_now facts)) knows
step_knows setup PduFixed link facts p other knows lasts = fixed_knows (is_control facts.outgoing.fixed) link facts knows
step_knows setup (PacketSent slot) link facts p other knows lasts = sent_knows setup slot link facts knows
step_knows setup (WordsGiven skd_s iv_s) link facts p other knows lasts = record { table = knows.table; disconnecting = knows.disconnecting; version = knows.version }
step_knows setup (PacketReceived slot octets room) link facts p other knows lasts =
    let octets_read = good_pdu setup facts octets in
    let effect = effect_received setup.link.role slot room octets_read facts in
    let kept = kept_effect_received setup.link.role slot room octets_read facts in
    let noted = fold link_after_note link (received_notes setup slot room octets_read facts) in
    subst (λ (l : Link). KnowsAsks l (facts_after setup facts (PacketReceived slot octets room))) (sym (one_request effect kept noted))
    (unless_forged (is_forged setup facts octets) (link_with_request kept (link_with_request effect noted))
    (facts_received setup.link.role slot room octets_read facts) (receives setup slot room octets_read link facts p knows) lasts)
step_knows setup DataReported link facts p other knows lasts = record { table = knows.table; disconnecting = knows.disconnecting; version = knows.version }

-- ---- a new link

not_asked : (kind : Kind) → is_asked kind nothing_asked ≡ false
not_asked Update = refl
not_asked kind = refl

first_by : (role : Role) (setup : Setup) (own peer : Address) → setup.link.role ≡ role → KnowsTable (opened_link role own peer) (Table.first_facts role setup.link.max_rx)
first_by Central setup own peer is =
    record { role = refl; asked = λ kind other. none kind; closes = λ ends. absurd (cc); disconnects = λ ends. absurd (cc); parameters = λ asks. absurd (cc) }
  where
    none : (kind : Kind) → 0 ≡ count_if (is_asked kind nothing_asked)
    none kind = ap count_if (sym (not_asked kind))
first_by Peripheral setup own peer is =
    record { role = refl; asked = λ kind other. none kind; closes = λ ends. absurd (cc); disconnects = λ ends. absurd (cc); parameters = λ asks. absurd (cc) }
  where
    none : (kind : Kind) → 0 ≡ count_if (is_asked kind nothing_asked)
    none kind = ap count_if (sym (not_asked kind))

pub first_knows : (setup : Setup) (own peer : Address) → KnowsAsks (opened_link setup.link.role own peer) (first_facts setup)
first_knows setup own peer =
    record { table = first_by setup.link.role setup own peer refl; disconnecting = λ ends. absurd (cc); version = λ some. absurd (cc) }
