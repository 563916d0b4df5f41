-- The complete packets that were reported since a link was opened.
use Rattle.std.proofs.Common.{◌≡◌, ℕ, suc, ◌+◌, ◌<◌, ◌≤◌, Bool, true, false, Option, Some, None, List, [], ◌∷◌, ◌++◌, cond, refl, ap, sym, subst, ◌∙◌, append-nil, arith}
use Rattle.std.specs.Prelude.{◌&&◌, filter, is_some}
use Rattle.std.specs.List.{AllByRecursion}
use Rattle.std.proofs.lemmas.Bool.{eq-eqb}
use Rattle.std.proofs.lemmas.List.{map-append}
use Rattle.std.proofs.lemmas.List.Elements.{filter-append}
use Rattle.std.proofs.lemmas.List.Sums.{fold-append}
use Rattle.ble_base.specs.declared.notes.Note.{Note}
use Rattle.data_pdu.specs.Header.{header_in}
use Rattle.wire_fields.specs.Field.{little_endian}
use Rattle.acl_banks.specs.declared.pieces.Piece.{Piece}
use Rattle.link_commands.specs.open_links.link_model.Acknowledgement.{Pdu, is_acked}
use Rattle.ble_base.specs.declared.roles.Role.{Role}
use Rattle.link_commands.specs.open_links.link_model.procedure_stages.Queue.{waiting_in}
use Rattle.link_commands.specs.open_links.link_model.procedure_values.declared.asks.Ask.{Ask}
use Rattle.link_commands.specs.open_links.link_model.Data.{Data, data_acked_if, data_given, is_control, is_data}
use Rattle.link_commands.specs.open_links.link_model.Controls.{goes_on, is_procedure_pdu, is_quiet_now, next_control}
use Rattle.link_commands.specs.open_links.link_model.Entering.{facts_entered_if}
use Rattle.link_commands.specs.open_links.link_model.Fixing.{data_cut, data_fixed_by, data_goes, fixed_anew}
use Rattle.link_commands.specs.open_links.link_model.Hosts.{asked_unless, is_to_come}
use Rattle.link_commands.specs.open_links.link_model.End.{facts_after as end_after, facts_of as end_facts, notes_after as end_notes}
use Rattle.link_commands.specs.open_links.link_model.Receiving.{accepted_if, accepts, acknowledged_if, answers_with_control, facts_before_taking, facts_received, has_acknowledged, heard_in_slot, procedures_take_if, received_notes}
use Rattle.link_commands.specs.open_links.link_model.Sending.{control_gone_if, data_sent_as, facts_sent, sent_notes, takes_leave}
use Rattle.link_commands.specs.open_links.link_model.Facts.{Facts as EndFacts}
use Rattle.link_commands.specs.open_links.link_model.Packets.{good_pdu, is_forged}
use Rattle.link_commands.specs.open_links.link_model.Payload.{payload_made}
use Rattle.link_commands.specs.open_links.link_model.Verdicts.{pdu_of}
use Rattle.link_commands.specs.open_links.link_model.Setup.{Setup as EndSetup}
use Rattle.link_commands.specs.open_links.link_model.Step.{Step as EndStep, DataGiven, ProcedureAsked, KeyAnswered, RequestAnswered, Disconnected, EventEntered, PduFixed, PacketSent, PacketReceived, DataReported, WordsGiven}
use Rattle.link_commands.proofs.open_links.link_model.Choices.{either_data, either_forged}
use Rattle.link_commands.proofs.open_links.link_model.Pasts.{grows}
use Rattle.link_commands.specs.open_links.OpenLinks.{OpenLink, facts_in, link_at}
use Rattle.controller_model.specs.Data.{note_received}
use Rattle.controller_model.specs.Facts.{Setup}
use Rattle.controller_model.specs.Side.{facts_of, notes_of}
use Rattle.controller_model.specs.Since.{ReportsInAll, empties_of, is_completed_on, note_completed, since_opened}
use Rattle.controller_model.specs.Step.{Step}
use Rattle.controller_model.proofs.Books.{Fact, IsKeptInBook, IsSilent}
use Rattle.controller_model.proofs.BooksAlways.{book_of}
use Rattle.controller_model.proofs.EndNotes.{received_each, sent_each}
use Rattle.controller_model.proofs.OtherNotes.{event_handle_is}

-- ---- notes that report nothing

none_among : (handle : ℕ) (notes : List Note) → AllByRecursion (λ note. is_completed_on handle note ≡ false) notes
    → filter (is_completed_on handle) notes ≡ []
none_among handle [] are = refl
none_among handle (note ∷ notes) are = (λ i. cond (are.0 i) (note ∷ filter (is_completed_on handle) notes) (filter (is_completed_on handle) notes)) ∙ none_among handle notes are.1

none_sent : (handle : ℕ) (setup : EndSetup) (facts : EndFacts) → filter (is_completed_on handle) (sent_notes setup facts) ≡ []
none_sent handle setup facts =
    none_among handle (sent_notes setup facts)
    (sent_each (λ note. is_completed_on handle note ≡ false) setup facts (λ number llid octets. refl))

none_took : (handle : ℕ) (setup : EndSetup) (slot : ℕ) (room : Bool) (found : Option (List ℕ)) (facts : EndFacts)
    → filter (is_completed_on handle) (received_notes setup slot room found facts) ≡ []
none_took handle setup slot room found facts =
    none_among handle (received_notes setup slot room found facts)
    (received_each (λ note. is_completed_on handle note ≡ false) setup slot room found facts
    (record { took = λ number llid octets. refl; refused = λ kind code. refl; done = λ kind. refl }))

none_received : (handle : ℕ) (piece : ℕ × Piece) → is_completed_on handle (note_received piece) ≡ false
none_received handle piece = refl

is_report : (handle count : ℕ) → handle < 65536 → is_completed_on handle (note_completed handle count) ≡ true
unfolding little_endian
is_report handle count below = eq-eqb _ handle (event_handle_is handle count below)

-- ---- what an end counts as reported

pub given_same : (handle : ℕ) (start : Bool) (octets : List ℕ) (outgoing : Data) → (data_given handle start octets outgoing).reported ≡ outgoing.reported
given_same handle start [] outgoing = refl
given_same handle start (octet ∷ octets) outgoing = refl

asked_same : (comes : Bool) (ask : Ask) (facts : EndFacts) → (asked_unless comes ask facts).outgoing.reported ≡ facts.outgoing.reported
asked_same true ask facts = refl
asked_same false ask facts = refl

entered_same : (goes : Bool) (setup : EndSetup) (slot : ℕ) (facts : EndFacts)
    → (facts_entered_if goes setup slot facts).outgoing.reported ≡ facts.outgoing.reported
entered_same true setup slot facts = refl
entered_same false setup slot facts = refl

fixed_by_same : (control : Bool) (waiting : ℕ) (quiet goes : Bool) (outgoing : Data)
    → (data_fixed_by control waiting quiet goes outgoing).reported ≡ outgoing.reported
fixed_by_same true waiting quiet goes outgoing = refl
fixed_by_same false waiting quiet true outgoing = refl
fixed_by_same false waiting quiet false outgoing = refl

fixed_same : (stays : Bool) (facts : EndFacts) → (cond stays facts (fixed_anew facts)).outgoing.reported ≡ facts.outgoing.reported
fixed_same true facts = refl
fixed_same false facts =
    fixed_by_same (is_some (next_control facts)) (waiting_in facts.control.table.queue) (is_quiet_now facts) (data_goes facts) (data_cut facts)

silent_same : (setup : EndSetup) (facts : EndFacts) (step : EndStep) → IsSilent step
    → (end_after setup facts step).outgoing.reported ≡ facts.outgoing.reported
silent_same setup facts (DataGiven start body) is = given_same setup.link.handle start body facts.outgoing
silent_same setup facts (ProcedureAsked ask) is = asked_same (is_to_come ask facts) ask facts
silent_same setup facts (RequestAnswered answer) is = refl
silent_same setup facts (KeyAnswered key slot) is = refl
silent_same setup facts (WordsGiven skd_s iv_s) is = refl
silent_same setup facts (Disconnected reason slot) is = refl
silent_same setup facts (EventEntered slot) is = entered_same (goes_on facts) setup slot facts
silent_same setup facts PduFixed is = fixed_same (is_control facts.outgoing.fixed) facts
silent_same setup facts step is = absurd is

gone_same : (goes : Bool) (slot : ℕ) (facts : EndFacts) → (control_gone_if goes slot facts).outgoing.reported ≡ facts.outgoing.reported
gone_same true slot facts = refl
gone_same false slot facts = refl

pub sent_as_same : (payload : List ℕ) (is_new : Bool) (outgoing : Data) → (data_sent_as payload is_new outgoing).reported ≡ outgoing.reported
sent_as_same payload true outgoing = refl
sent_as_same payload false outgoing = refl

sent_same : (slot : ℕ) (facts : EndFacts) → (facts_sent slot facts).outgoing.reported ≡ facts.outgoing.reported
sent_same slot facts =
    let gone = control_gone_if (takes_leave facts) slot facts in
    sent_as_same (payload_made gone.encryption.end gone.outgoing.fixed) (is_acked gone.acknowledgement) gone.outgoing ∙ gone_same (takes_leave facts) slot facts

pub acked_same : (acked : Bool) (outgoing : Data) → (data_acked_if acked outgoing).reported ≡ outgoing.reported
acked_same true outgoing = refl
acked_same false outgoing = refl

taken_same : (takes : Bool) (pdu : Pdu) (slot : ℕ) (facts : EndFacts)
    → (procedures_take_if takes pdu slot facts).outgoing.reported ≡ facts.outgoing.reported
taken_same true pdu slot facts = refl
taken_same false pdu slot facts = refl

received_same : (role : Role) (slot : ℕ) (room : Bool) (found : Option (List ℕ)) (facts : EndFacts)
    → (facts_received role slot room found facts).outgoing.reported ≡ facts.outgoing.reported
received_same role slot room None facts = refl
received_same role slot room (Some octets) facts =
    let header = header_in octets in
    let pdu = pdu_of octets in
    let own = acknowledged_if (has_acknowledged facts header) (heard_in_slot slot header.md facts) in
    let now = facts_before_taking role slot header facts in
    let accepted = accepts room header pdu now in
    let taken = procedures_take_if (accepted && is_procedure_pdu pdu) pdu slot (accepted_if accepted pdu now) in
    either_data (λ (f : EndFacts). f.outgoing.reported ≡ taken.outgoing.reported) (accepted && is_data pdu) taken refl refl
    ∙ taken_same (accepted && is_procedure_pdu pdu) pdu slot (accepted_if accepted pdu now)
    ∙ gone_same (answers_with_control role own) slot own
    ∙ acked_same (has_acknowledged facts header && is_data facts.acknowledgement.last) facts.outgoing

all_same : (setup : EndSetup) (facts : EndFacts) (slot : ℕ) (octets : List ℕ) (room : Bool)
    → (end_after setup facts (PacketReceived slot octets room)).outgoing.reported ≡ facts.outgoing.reported
all_same setup facts slot octets room =
    let next = facts_received setup.link.role slot room (good_pdu setup facts octets) facts in
    either_forged (λ (f : EndFacts). f.outgoing.reported ≡ next.outgoing.reported) (is_forged setup facts octets) next refl refl
    ∙ received_same setup.link.role slot room (good_pdu setup facts octets) facts

-- ---- the book

module _ (most handle : ℕ) (few : most ≤ 4096) where
  abbrev IsReported : Fact
  IsReported setup past waiting since count = ReportsInAll handle since ((end_facts setup past).outgoing.reported + count)

  plain : (since more : List Note) (total : ℕ) → filter (is_completed_on handle) more ≡ [] → ReportsInAll handle since total
      → ReportsInAll handle (since ++ more) total
  plain since more total none reports = record {
    counts = reports.counts;
    events = filter-append (is_completed_on handle) since more ∙ ap (λ rest. filter (is_completed_on handle) since ++ rest) none
        ∙ append-nil (filter (is_completed_on handle) since) ∙ reports.events;
    total_is = reports.total_is;
  }

  one_plain : (since : List Note) (note : Note) (total : ℕ) → is_completed_on handle note ≡ false → ReportsInAll handle since total
      → ReportsInAll handle (since ++ note ∷ []) total
  one_plain since note total none reports = plain since (note ∷ []) total (ap (λ (test : Bool). cond test (note ∷ []) []) none) reports

  one_report : (since : List Note) (count total more : ℕ) → handle < 65536 → more ≡ total + count → ReportsInAll handle since total
      → ReportsInAll handle (since ++ note_completed handle count ∷ []) more
  one_report since count total more below is reports = record {
    counts = reports.counts ++ count ∷ [];
    events = filter-append (is_completed_on handle) since (note_completed handle count ∷ [])
        ∙ ap (λ (test : Bool). filter (is_completed_on handle) since ++ cond test (note_completed handle count ∷ []) []) (is_report handle count below)
        ∙ ap (λ first. first ++ note_completed handle count ∷ []) reports.events
        ∙ sym (map-append (note_completed handle) reports.counts (count ∷ []));
    total_is = fold-append (λ total n. total + n) 0 reports.counts (count ∷ []) ∙ ap (λ n. n + count) reports.total_is ∙ sym is;
  }

  -- a step after which no more are reported
  as_before : (setup : EndSetup) (past : List EndStep) (step : EndStep) (since : List Note) (count : ℕ)
      → (end_after setup (end_facts setup past) step).outgoing.reported ≡ (end_facts setup past).outgoing.reported
      → ReportsInAll handle since ((end_facts setup past).outgoing.reported + count)
      → ReportsInAll handle since ((end_facts setup (past ++ step ∷ [])).outgoing.reported + count)
  as_before setup past step since count same reports =
      subst (λ n. ReportsInAll handle since (n + count)) (sym (ap (λ (facts : EndFacts). facts.outgoing.reported) (grows setup past step) ∙ same)) reports

  first_reports : (setup : EndSetup) → ReportsInAll handle [] ((end_facts setup []).outgoing.reported + 0)
  unfolding end_facts
  first_reports setup = record { counts = []; events = refl; total_is = refl }

  reports_kept : IsKeptInBook most handle IsReported
  reports_kept = record {
    opened = λ setup same. first_reports setup;
    other = λ setup past waiting since count note is reports. one_plain since note _ (is.completed_none few) reports;
    silent = λ setup past waiting since count step is reports.
        as_before setup past step since count (silent_same setup (end_facts setup past) step is) reports;
    sent = λ setup past waiting since count slot same reports.
        let facts = end_facts setup past in
        let more = end_notes setup facts (PacketSent slot) in
        as_before setup past (PacketSent slot) (since ++ more) count (sent_same slot facts)
        (plain since more _ (none_sent handle setup facts) reports);
    received = λ setup past waiting since count slot octets room same reports.
        let facts = end_facts setup past in
        let more = end_notes setup facts (PacketReceived slot octets room) in
        as_before setup past (PacketReceived slot octets room) (since ++ more) count
        (all_same setup facts slot octets room)
        (plain since more _ (none_took handle setup slot room (good_pdu setup facts octets) facts) reports);
    handed = λ setup past piece waiting since count below same reports.
        one_plain since (note_received piece) _ (none_received handle piece) reports;
    reported = λ setup past waiting since count complete below is reports.
        let facts = end_facts setup past in
        let after = ap (λ (facts : EndFacts). facts.outgoing.reported) (grows setup past DataReported) in
        one_report since (suc complete) (facts.outgoing.reported + count) _ (omega (arith, below, few))
        (let more : (end_facts setup (past ++ DataReported ∷ [])).outgoing.reported + count ≡ facts.outgoing.reported + count + suc complete =
        omega (arith, after, is) in more) reports;
    emptied = λ setup past waiting since count below reports.
        one_report since 1 _ _ (omega (arith, below, few)) (omega arith) reports;
  }

pub packets_are_reported : (setup : Setup) (past : List Step) (handle : ℕ) (link : OpenLink) → setup.links ≤ 4096
    → link_at handle (facts_of setup past).links ≡ Some link
    → ReportsInAll handle (since_opened handle (notes_of setup past)) ((facts_in link).outgoing.reported + empties_of setup handle past)
packets_are_reported setup past handle link few is =
    (book_of handle (IsReported setup.links handle few) setup (reports_kept setup.links handle few) past link is).1
