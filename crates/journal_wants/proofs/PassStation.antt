-- Through a phase of a turn, and as a turn ends, what the lines of a side say of it stays what its controller holds.
use Rattle.std.proofs.Common.{◌≡◌, ℕ, Bool, true, false, Option, Some, None, List, [], ◌∷◌, ◌++◌, map, refl, sym, ap, subst, ◌∙◌, append_assoc}
use Rattle.std.specs.List.{AllByRecursion}
use Rattle.adv_pdu.specs.declared.pdu.AdvPdu.{AdvPdu}
use Rattle.ble_base.specs.declared.notes.Note.{Note}
use Rattle.ble_base.specs.declared.roles.Role.{Role}
use Rattle.ble_base.specs.declared.roles.Role.TheVariants.{Central, Peripheral}
use Rattle.ble_base.specs.declared.roles.Side.{Side}
use Rattle.host_answers.proofs.LineAnswers.{IsQuiet, turn_quiet}
use Rattle.host_view.specs.Links.{was_encrypted}
use Rattle.host_view.specs.scan_init.Reports.{ScannerFacts, scan_answer}
use Rattle.journal.specs.declared.entries.Entry.TheVariants.{Opened}
use Rattle.journal_events.specs.journal_sending.controller_model.declared.doing.Doing.{Doing}
use Rattle.journal_events.specs.journal_sending.controller_model.declared.doing.Doing.TheVariants.{AwaitsRequest, AwaitsResponse, CentralListens, Connects, Responds, Rests}
use Rattle.journal_events.specs.journal_sending.controller_model.Events.{notes_of_events}
use Rattle.journal_events.specs.journal_sending.controller_model.Facts.{Facts, Setup}
use Rattle.journal_events.specs.journal_sending.controller_model.Heard.{events_received, events_reported, facts_connecting, facts_with_words, fields_sent, has_room, link_heard, link_made, link_taken, notes_received, notes_taken, opens, scanner_heard}
use Rattle.journal_events.specs.journal_sending.controller_model.Links.{events_opened, note_opened}
use Rattle.journal_events.specs.journal_sending.controller_model.Outcome.{Outcome, facts_passed, goes_on, notes_passed}
use Rattle.journal_events.specs.journal_sending.controller_model.Packets.{facts_doing, notes_doing}
use Rattle.journal_events.specs.journal_sending.controller_model.Side.{facts_after, notes_after}
use Rattle.journal_events.specs.journal_sending.controller_model.Step.{NothingHeard, PacketHeard}
use Rattle.journal_events.proofs.journal_sending.controller_model.EndNotes.{received_each}
use Rattle.journal_events.proofs.journal_sending.controller_model.Phases.{EachOutcome, heard_is, unheard_is}
use Rattle.journal_events.specs.journal_sending.journal_controls.journal_ends.Asked.{Words}
use Rattle.journal_events.specs.journal_sending.journal_data.link_model.declared.setup.LinkSetup.{LinkSetup}
use Rattle.journal_events.specs.journal_sending.journal_data.link_model.Packets.{good_pdu}
use Rattle.journal_events.specs.journal_sending.journal_data.open_links.OpenLinks.{OpenLink, facts_in, link_at}
use Rattle.journal_events.specs.journal_sending.run_model.History.{Event, Called, Noted}
use Rattle.journal_events.specs.journal_sending.run_model.Journal.{journal_of, side_of}
use Rattle.journal_events.specs.journal_sending.run_model.Links.{links_of}
use Rattle.journal_events.specs.journal_sending.run_model.Run.{Given, after_call, facts_at, setup_at, step_of}
use Rattle.journal_events.proofs.journal_sending.journal_acks.TwoStations.{side_same}
use Rattle.journal_wants.specs.Station.{Setups, Station, line_if, opened_as, own_line}
use Rattle.journal_wants.proofs.BeginStation.{doing_plain}
use Rattle.journal_wants.proofs.CallLines.{IsInSameTurn, same_turn}
use Rattle.journal_wants.proofs.HostSet.{IsSetAs, without_reports}
use Rattle.journal_wants.proofs.NotedStation.{ArePlain, at, both_plain, is_plain, still}
use Rattle.journal_wants.proofs.OctetStation.{events_plain}
use Rattle.journal_wants.proofs.StationLines.{station_called, station_noted}
use Rattle.journal_wants.proofs.TurnBegun.{notes_same, opened_set}

took_plain : (slot : ℕ) (room : Bool) (found : Option OpenLink) (octets : List ℕ) → ArePlain (notes_taken slot room found octets)
took_plain slot room None octets = tt
took_plain slot room (Some link) octets =
    received_each (λ note. is_plain note ≡ true) link.setup slot room (good_pdu link.setup (facts_in link) octets) (facts_in link)
    (record { took = λ number llid octets. refl; refused = λ kind code. refl; done = λ kind. refl })

opened_turn : (role : Role) (station : Station) → IsInSameTurn station (opened_as role station)
opened_turn Central station = record { served = refl; on = refl; doing = refl }
opened_turn Peripheral station = record { served = refl; on = refl; doing = refl }

-- what the lines say of a side after a call, with what its controller holds then
pub record IsPassed (before after : Station) (held : Facts) : Type 0 where
  pub set : IsSetAs after held
  pub same : IsInSameTurn before after

module _ (words : Words) (setups : Setups) (station : ℕ) (called : List Event) (facts : Facts) (set : IsSetAs (at words setups station called) facts) where
  abbrev side : Side
  side = side_of station

  abbrev before : Station
  before = at words setups station called

  abbrev after : List Note → Station
  after notes = at words setups station (called ++ map (Noted station) notes)

  abbrev pub Passes : Outcome → Type 0
  Passes outcome = AllByRecursion (IsQuiet side station) (notes_passed outcome) → IsPassed before (after (notes_passed outcome)) (facts_passed outcome)

  plain_passes : (notes : List Note) (held : Facts) → ArePlain notes → IsSetAs before held → AllByRecursion (IsQuiet side station) notes → IsPassed before (after notes) held
  plain_passes notes held plain is quiet =
      subst (λ s. IsPassed before s held) (sym (still words setups station called notes plain quiet)) (record { set = is; same = same_turn before })

  goes_passes : (doing : Doing) → Passes (goes_on facts doing)
  goes_passes doing =
      plain_passes (notes_doing doing facts) (facts_doing doing facts) (doing_plain doing facts)
      (record { set = set.set; advertising = set.advertising; scanning = set.scanning; initiator = set.initiator; radio = set.radio })

  -- a link is opened
  opens_passes : (link : LinkSetup) → Passes (opens link facts)
  opens_passes link quiet =
      let note = note_opened link in
      let told = notes_of_events facts.view (events_opened facts.view link) ++ [] in
      let next = called ++ Noted station note ∷ [] in
      let last = (links_of called).last_of station in
      let opened : at words setups station next ≡ opened_as link.role before =
      station_noted words setups side called station note
      ∙ ap (λ own. line_if own (own_line words side last (journal_of called) (Opened side last link.handle link.role)) before) (side_same station) in
      let both : after (note ∷ told) ≡ opened_as link.role before =
      ap (at words setups station) (sym (append_assoc called (Noted station note ∷ []) (map (Noted station) told)))
      ∙ still words setups station next told
      (both_plain (notes_of_events facts.view (events_opened facts.view link)) [] (events_plain facts.view (events_opened facts.view link)) tt) quiet.1
      ∙ opened in
      let is = opened_set link before facts set in
      subst (λ s. IsPassed before s (facts_passed (opens link facts))) (sym both) (record {
        set = record { set = is.set; advertising = is.advertising; scanning = is.scanning; initiator = is.initiator; radio = is.radio };
        same = opened_turn link.role before;
      })

  -- a scanner keeps what it has reported
  reported_passes : (on : ScannerFacts) (may_ask : Bool) (channel : ℕ) (pdu : AdvPdu) → facts.scanning.on ≡ Some on
      → Passes (scanner_heard (Some on) may_ask channel pdu facts)
  reported_passes on may_ask channel pdu is_on quiet =
      let outcome = scanner_heard (Some on) may_ask channel pdu facts in
      plain_passes (notes_passed outcome) (facts_passed outcome)
      (both_plain outcome.notes (notes_doing outcome.next outcome.facts)
      (events_plain facts.view (events_reported (scan_answer on.params facts.view.accepted on.recent pdu) pdu)) (doing_plain outcome.next outcome.facts))
      (record {
        set = set.set;
        advertising = set.advertising;
        scanning = set.scanning ∙ (λ i. without_reports (record facts.scanning { on = is_on i }));
        initiator = set.initiator;
        radio = set.radio;
      }) quiet

  -- a link receives a packet, by these facts, which are the same but for the links
  received_passes : (setup : Setup) (handle : ℕ) (octets : List ℕ) (held : Facts) → IsSetAs before held → Passes (link_heard setup handle octets held)
  received_passes setup handle octets held is quiet =
      let outcome = link_heard setup handle octets held in
      let room = has_room setup held in
      let place = link_at handle held.links in
      let events = events_received (was_encrypted handle held.view.links) handle held.turn.slot room place octets in
      plain_passes (notes_passed outcome) (facts_passed outcome)
      (both_plain outcome.notes (notes_doing outcome.next outcome.facts)
      (both_plain (notes_taken held.turn.slot room place octets) (notes_of_events held.view events) (took_plain held.turn.slot room place octets)
      (events_plain held.view events)) (doing_plain outcome.next outcome.facts))
      (record {
        set = is.set ∙ sym (notes_same held.view (notes_received handle room octets held));
        advertising = is.advertising;
        scanning = is.scanning;
        initiator = is.initiator;
        radio = is.radio;
      }) quiet

  each_passes : (setup : Setup) → EachOutcome setup facts Passes
  each_passes setup = record {
    rests = goes_passes Rests;
    awaits_request = λ channel doing. goes_passes (AwaitsRequest channel);
    awaits_response = λ channel advertiser doing. goes_passes (AwaitsResponse channel);
    central_listens = λ handle doing. goes_passes (CentralListens handle);
    sent = λ channel link doing. opens_passes link;
    responds = λ channel on doing is_on. goes_passes (Responds channel);
    taken = λ channel heard pdu on fields handle is_on hears takes free. opens_passes (link_taken facts.view on.params.own pdu fields handle);
    scanned = λ channel heard pdu on doing is_on hears. reported_passes on true channel pdu is_on;
    answered = λ channel heard pdu on doing is_on hears. reported_passes on false channel pdu is_on;
    connects = λ channel heard pdu on access handle doing is_on hears answers next free in_range.
        plain_passes [] (facts_passed (goes_on (facts_connecting setup facts)
        (Connects channel (link_made facts.view on.params.own pdu (fields_sent setup on access facts) handle)))) tt
        (record { set = set.set; advertising = set.advertising; scanning = set.scanning; initiator = set.initiator; radio = set.radio });
    received = λ handle heard. received_passes setup handle heard facts set;
  }

  pub unheard_passes : (setup : Setup) → AllByRecursion (IsQuiet side station) (notes_after setup facts NothingHeard)
      → IsPassed before (after (notes_after setup facts NothingHeard)) (facts_after setup facts NothingHeard)
  unheard_passes setup = unheard_is setup facts Passes (each_passes setup) facts.turn.doing refl

  pub heard_passes : (setup : Setup) (octets : List ℕ) → AllByRecursion (IsQuiet side station) (notes_after setup facts (PacketHeard octets))
      → IsPassed before (after (notes_after setup facts (PacketHeard octets))) (facts_after setup facts (PacketHeard octets))
  heard_passes setup octets =
      heard_is setup facts Passes (each_passes setup) facts.turn.doing octets refl
      (λ handle. received_passes setup handle octets (facts_with_words setup handle facts)
      (record { set = set.set; advertising = set.advertising; scanning = set.scanning; initiator = set.initiator; radio = set.radio }))

-- ---- in a run

pub passed_lines : (words : Words) (setups : Setups) (given : Given) (station : ℕ) (history : List Event) (received : Option (List ℕ))
    → IsSetAs (at words setups station history) (facts_at given station history)
    → IsPassed (at words setups station history) (at words setups station (after_call given station (step_of received) history))
    (facts_after (setup_at given station) (facts_at given station history) (step_of received))
passed_lines words setups given station history received set =
    let setup = setup_at given station in
    let facts = facts_at given station history in
    let step = step_of received in
    let called = history ++ Called station step ∷ [] in
    let notes = notes_after setup facts step in
    let same = station_called words setups (side_of station) history station step in
    let now = subst (λ s. IsSetAs s facts) (sym same) set in
    let all = append_assoc history (Called station step ∷ []) (map (Noted station) notes) in
    subst (λ xs. IsPassed (at words setups station history) (at words setups station xs) (facts_after setup facts step)) all
    (subst (λ s. IsPassed s (at words setups station (called ++ map (Noted station) notes)) (facts_after setup facts step)) same (by received called now))
  where
    by : (heard : Option (List ℕ)) (called : List Event) → IsSetAs (at words setups station called) (facts_at given station history)
        → IsPassed (at words setups station called)
        (at words setups station (called ++ map (Noted station) (notes_after (setup_at given station) (facts_at given station history) (step_of heard))))
        (facts_after (setup_at given station) (facts_at given station history) (step_of heard))
    by None called now = unheard_passes words setups station called (facts_at given station history) now (setup_at given station) (turn_quiet given station NothingHeard history tt)
    by (Some octets) called now =
        heard_passes words setups station called (facts_at given station history) now (setup_at given station) octets (turn_quiet given station (PacketHeard octets) history tt)
