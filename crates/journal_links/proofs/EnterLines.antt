-- Each line of an end that enters an event is in the turn of the anchor of the event, on its channel.
use Rattle.std.proofs.Common.{◌≡◌, ℕ, zero, suc, ◌+◌, ◌*◌, Bool, true, List, [], ◌∷◌, ◌++◌, length, map, Some, refl, sym, ap, subst, ◌∙◌, arith}
use Rattle.std.specs.Prelude.{if◌then◌else◌}
use Rattle.std.specs.List.{Contains}
use Rattle.std.proofs.lemmas.Bool.{or_left, or_parts}
use Rattle.std.proofs.lemmas.List.Folds.{list_any-append}
use Rattle.link_changes.specs.Noted.{changes_noted}
use Rattle.ble_base.specs.declared.roles.Side.{Side}
use Rattle.chan_select.specs.Channel.{channel_of}
use Rattle.chan_select.specs.declared.selection.Algorithm.TheVariants.{One, Two}
use Rattle.instants.specs.declared.indications.Params.{Params}
use Rattle.instants.specs.Parameters.{anchor_in as anchor_by, params_in}
use Rattle.instants.specs.declared.track.Change.{Change}
use Rattle.journal.specs.declared.entries.Entry.{Entry}
use Rattle.journal.specs.declared.entries.Entry.TheVariants.{Enter}
use Rattle.run_laws.specs.link_model.End.{notes_of as end_notes_of}
use Rattle.run_laws.specs.link_model.Setup.{Setup, algorithm_of, first_anchor as first_of, first_params}
use Rattle.run_laws.specs.controller_model.Entering.{begins_turn}
use Rattle.run_laws.specs.controller_model.Side.{notes_after, notes_of}
use Rattle.run_laws.specs.controller_model.Since.{notes_under, opens_under, was_opened}
use Rattle.run_laws.specs.controller_model.Step.{Step, HostOctet, TurnBegins, PacketHeard, NothingHeard, TurnEnds}
use Rattle.run_laws.proofs.controller_model.Entries.{enters_as_turns_begin, enters_at_anchors}
use Rattle.run_laws.proofs.controller_model.UnderNotes.{open_noted}
use Rattle.radio_replay.specs.Script.{Script}
use Rattle.run_laws.specs.run_model.Due.{IsCallDue, IsDue}
use Rattle.run_laws.specs.run_model.History.{Called, Noted, noted_by, past_of, turns_begun}
use Rattle.run_laws.specs.run_model.Journal.{journal_from, journal_of, side_of}
use Rattle.run_laws.specs.run_model.Links.{links_of}
use Rattle.run_laws.specs.run_model.NoteLines.{enter_line}
use Rattle.run_laws.specs.run_model.OnAir.{ends_phase}
use Rattle.run_laws.specs.run_model.Pair.{given_of}
use Rattle.run_laws.specs.run_model.Readers.{turns_of}
use Rattle.run_laws.specs.run_model.Run.{Given, facts_at, history_of, run_of, setup_at}
use Rattle.run_laws.proofs.run_model.Calls.{noted_called, same_station, turns_called}
use Rattle.run_laws.proofs.run_model.Dues.{run_due}
use Rattle.run_laws.proofs.run_model.Fates.{turns_are}
use Rattle.run_laws.proofs.run_model.LinkEnds.{AreTaken, IsUnderstood, pair_addresses}
use Rattle.run_laws.proofs.run_model.NoteLines.{is_contained, line_in_call, number_then, to_line}
use Rattle.run_laws.proofs.run_model.Notes.{NotedBefore, run_noted}
use Rattle.run_laws.proofs.run_model.Numbers.{numbered_at}
use Rattle.run_laws.proofs.run_model.OfStations.{OfStations, run_of_stations}
use Rattle.run_laws.proofs.run_model.OpenedNotes.{is_opened, opens_under as opens, outside_open}
use Rattle.run_laws.proofs.run_model.Ordered.{pair_distinct}
use Rattle.run_laws.proofs.run_model.Parts.{journal_more}
use Rattle.run_laws.proofs.run_model.Places.{each_at}
use Rattle.run_laws.proofs.ChSel.{link_two}
use Rattle.journal_links.specs.Begun.{LinkBegun, link_numbered}
use Rattle.journal_links.specs.Changes.{changes_of}
use Rattle.journal_links.specs.Entered.{IsEnteredInTime, anchor_in, channel_in}
use Rattle.journal_links.proofs.LinksBegun.{number_stays}
use Rattle.journal_links.specs.LinkLines.{line_of, lines_of}
use Rattle.journal_links.proofs.ChangesAt.{changes_before, none_opened}
use Rattle.journal_links.proofs.EntriesNoted.{noted_after}
use Rattle.journal_links.proofs.LineNotes.{lines_are_notes, open_was_opened}
use Rattle.journal_links.proofs.OfTwo.{two_apart}
use Rattle.journal_links.proofs.Ranges.{values_in_range}
use Rattle.journal_links.proofs.Numbered.{IsLinkOf, link_of_number}

-- ---- its call

pub record IsTurn (step : Step) : Type 0 where
  pub slot : ℕ
  pub on : Bool
  pub is : step ≡ TurnBegins slot on

pub turn_of : (step : Step) → begins_turn step ≡ true → IsTurn step
turn_of (TurnBegins slot on) is = record { slot = slot; on = on; is = refl }
turn_of (HostOctet octet) is = absurd cc
turn_of (PacketHeard octets) is = absurd cc
turn_of NothingHeard is = absurd cc
turn_of TurnEnds is = absurd cc

-- ---- the anchor and the channel

next_anchor : (slot interval event : ℕ) → slot + event * interval + interval + 0 ≡ slot + suc event * interval
next_anchor slot interval event = omega arith

first_anchor : (slot interval : ℕ) → slot ≡ slot + 0 * interval
first_anchor slot interval = omega arith

-- with no change, each next event is an interval later
pub plain_anchor : (slot : ℕ) (first : Params) (event : ℕ) → anchor_by slot first [] event ≡ slot + event * first.interval
plain_anchor slot first zero = first_anchor slot first.interval
plain_anchor slot first (suc event) =
    ap (λ n. n + first.interval + 0) (plain_anchor slot first event) ∙ next_anchor slot first.interval event

pub plain_anchors : (link : LinkBegun) (event : ℕ) → anchor_in link [] event ≡ link.slot + 2 + link.fields.win_offset + event * link.fields.interval
plain_anchors link event = plain_anchor (link.slot + 2 + link.fields.win_offset) (first_params link.fields) event

module _ {journal : List Entry} {number station : ℕ} {end : Setup} (of : IsLinkOf journal number station end) where
  still_link : (front more : List Entry) → front ≡ journal ++ more → link_numbered number front ≡ Some of.link
  still_link front more is = ap (link_numbered number) is ∙ number_stays number journal more of.link of.is_link

  entered_in_time : (front : List Entry) (side : Side) (slot event channel : ℕ) (changes : List Change) → link_numbered number front ≡ Some of.link
      → length (turns_of front) ≡ slot + 1 → slot ≡ anchor_by (first_of end) (first_params end.link.fields) changes event
      → channel ≡ channel_of (algorithm_of end.link) event (params_in (first_params end.link.fields) changes event).map
      → end.link.two ≡ true → changes_of number of.link side front ≡ changes → IsEnteredInTime front side number event channel
  entered_in_time front side slot event channel changes is_link turns at_anchor on_channel two are =
      let same : end.link.two ≡ of.link.two = two ∙ sym of.offers_two in record {
        link = of.link;
        is_link = is_link;
        in_turn = turns
            ∙ ap (λ n. n + 1) (at_anchor
            ∙ (λ i. anchor_by (sym of.slot_is i + 2 + (sym of.fields_are i).win_offset) (first_params (sym of.fields_are i)) changes event)
            ∙ ap (λ changes. anchor_in of.link changes event) (sym are));
        on_channel = on_channel
            ∙ (λ i. channel_of (if same i then Two (sym of.fields_are i).access else One (sym of.fields_are i).hop) event
            (params_in (first_params (sym of.fields_are i)) changes event).map)
            ∙ ap (λ changes. channel_in of.link changes event) (sym are);
      }

-- ---- a line

module _ (understood : IsUnderstood) (taken : AreTaken) (a b : List ℕ) (script : Script) (six : length script.a.public ≡ 6) (six_too : length script.b.public ≡ 6) where
  abbrev given : Given
  given = given_of a b script

  pub enter_in_time : (front rest : List Entry) (side : Side) (number event channel : ℕ)
      → journal_of (history_of (run_of given)) ≡ front ++ Enter side number event channel ∷ rest → IsEnteredInTime front side number event channel
  enter_in_time front rest side number event channel is =
      let line = enter_line side number event channel in
      let call = line_in_call given front rest (Enter side number event channel) line refl is in
      let station = call.station in
      let handle = call.handle in
      let setup = setup_at given station in
      let base = call.base in
      let distinct = pair_distinct a b script in
      let addresses = pair_addresses a b script six six_too in
      let called = Called station call.step in
      let is_noted = is_contained given front line call in
      let turn = turn_of call.step (enters_as_turns_begin setup (past_of station base) call.step handle event channel is_noted) in
      let entered = (enters_at_anchors setup (past_of station base) turn.slot turn.on handle event channel).0
      (subst (λ s. Contains (notes_after setup (facts_at given station base) s) (line.note handle)) turn.is is_noted) in
      let in_it = each_at (OfStations given) (history_of (run_of given)) base call.after called (run_of_stations given) call.called in
      let link = entered.link in
      let ranges = values_in_range taken given base (called ∷ call.after) station handle link distinct in_it call.called entered.is_open in
      let call_notes = ap (λ s. notes_after setup (facts_at given station base) s) (sym turn.is) ∙ call.notes_are in
      let noted_line = noted_after setup (past_of station base) turn.slot turn.on handle event channel entered ranges call.earlier call.later call_notes in
      let numbered = numbered_at understood taken given base call.after called distinct addresses call.called refl station handle entered.link entered.is_open in
      let known = (links_of base).link_of station handle in
      let of = link_of_number understood a b script six six_too base (called ∷ call.after) known station entered.link.setup call.called in_it numbered in
      let two = link_two understood given base (called ∷ call.after) station handle entered.link distinct addresses in_it call.called entered.is_open in
      let due = subst (IsCallDue given base station) turn.is
      (each_at (IsDue given) (history_of (run_of given)) base call.after called (run_due given).each call.called) in
      let noted = called ∷ map (Noted station) call.earlier in
      let front_more = call.front_is ∙ ap journal_of call.before_is ∙ journal_more base noted in
      let turns = ap (λ entries. length (turns_of entries)) call.front_is ∙ turns_are call.before ∙ ap turns_begun call.before_is
      ∙ turns_called station call.step call.earlier base in
      let apart = two_apart given refl station in_it in
      let known_before : noted_by station call.before ≡ noted_by station base ++ call.earlier =
      ap (noted_by station) call.before_is ∙ noted_called station station call.step call.earlier base true (same_station station) in
      let base_noted : noted_by station base ≡ notes_of setup (past_of station base) =
      each_at (NotedBefore given) (history_of (run_of given)) base call.after called (run_noted given).each call.called refl station in
      let opened = open_was_opened understood taken given distinct addresses station apart base (called ∷ call.after) handle link call.called
      (numbered_at understood taken given base call.after called distinct addresses call.called refl) entered.is_open in
      let was : was_opened handle (noted_by station call.before) ≡ true =
      ap (was_opened handle) known_before ∙ list_any-append (opens_under handle) (noted_by station base) call.earlier
      ∙ or_left (was_opened handle (noted_by station base)) (was_opened handle call.earlier) opened in
      let quiet = outside_open handle setup (facts_at given station base) call.step (ap ends_phase turn.is) in
      let none = none_opened handle call.earlier (or_parts (is_opened handle call.earlier) (is_opened handle (line.note handle ∷ call.later))
      (sym (list_any-append (opens handle) call.earlier (line.note handle ∷ call.later)) ∙ ap (is_opened handle) (sym call.notes_are) ∙ quiet)).0 in
      let lines = lines_are_notes understood taken given distinct addresses station apart call.before (Noted station (line.note handle) ∷ call.rest) handle call.is_at was in
      let number_is = number_then given front line call (ap ends_phase turn.is) in
      let changes = changes_noted link.setup.link.role (end_notes_of link.setup link.past ++ noted_line.applied) in
      let own_number = (links_of call.before).link_of station handle in
      let here : changes_of own_number of.link (side_of station) (journal_of call.before) ≡ changes =
      changes_before (side_of station) own_number handle of.link link.setup link.past (journal_of call.before) (noted_by station base) call.earlier noted_line.applied
      of.central_is
      (subst (λ xs. lines_of (side_of station) own_number (journal_of call.before) ≡ map (line_of (side_of station) own_number) (notes_under handle xs)) known_before lines)
      (ap (notes_under handle) base_noted ∙ open_noted handle setup (past_of station base) link entered.is_open) none noted_line.said_is in
      let there : changes_of number of.link side front ≡ changes = to_line given front line call (λ n entries one. changes_of n of.link one entries ≡ changes) here in
      let in_force : changes_of known of.link side front ≡ changes = subst (λ n. changes_of n of.link side front ≡ changes) (sym number_is) there in
      subst (λ n. IsEnteredInTime front side n event channel) number_is
      (entered_in_time {end = link.setup} of front side turn.slot event channel changes (still_link {end = link.setup} of front (journal_from (links_of base) noted) front_more)
      (turns ∙ due.slot_is)
      (subst (λ n. n ≡ anchor_by (first_of link.setup) (first_params link.setup.link.fields) changes event) entered.at_anchor noted_line.entered.anchor) noted_line.entered.on_channel two in_force)

-- ---- both lines

pub one_link : (number : ℕ) (journal front later : List Entry) (rest last : List Entry) (one other : LinkBegun) → journal ≡ front ++ rest → journal ≡ later ++ last
    → link_numbered number front ≡ Some one → link_numbered number later ≡ Some other → one ≡ other
one_link number journal front later rest last one other is is_too here there =
    let same : Some one ≡ Some other =
    sym (number_stays number front rest one here) ∙ ap (link_numbered number) (sym is ∙ is_too) ∙ number_stays number later last other there in cc

pub in_one_turn : (side far : Side) (number event channel too : ℕ) (journal front later rest last : List Entry) → journal ≡ front ++ rest → journal ≡ later ++ last
    → IsEnteredInTime front side number event channel → IsEnteredInTime later far number event too
    → ((link : LinkBegun) → link_numbered number front ≡ Some link → changes_of number link side front ≡ changes_of number link far later)
    → (length (turns_of front) ≡ length (turns_of later)) × (channel ≡ too)
in_one_turn side far number event channel too journal front later rest last is is_too one other agree =
    let same = one_link number journal front later rest last one.link other.link is is_too one.is_link other.is_link in
    let alike = agree one.link one.is_link in (
      one.in_turn ∙ ap (λ changes. anchor_in one.link changes event + 1) alike
          ∙ ap (λ link. anchor_in link (changes_of number link far later) event + 1) same ∙ sym other.in_turn,
      one.on_channel ∙ ap (λ changes. channel_in one.link changes event) alike
          ∙ ap (λ link. channel_in link (changes_of number link far later) event) same ∙ sym other.on_channel,
    )
